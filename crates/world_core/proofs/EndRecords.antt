-- What a manager that stands for a played history keeps of a socket: its end's state, its connection, and which tokens name it.
use Rattle.std.proofs.Common.{◌≡◌, ◌∙◌, ℕ, ◌==◌, ◌<◌, Bool, true, false, cond, if◌then◌else◌, nat_lt, List, length, get_or, position, refl, ap, sym, subst, true≢false, arith, eqb-true, eq-eqb, lt-ltb}
use Rattle.std.specs.Prelude.{Option, Some, None, option_map, is_some, unwrap_or, slice_index_or}
use Rattle.std.proofs.lemmas.List.Sums.{position_or_len_is}
use Rattle.smc_num.specs.declared.Side.{Side}
use Rattle.smc_num.specs.Names.{other}
use Rattle.clc_wire.specs.declared.offer.Offer.{Offer}
use Rattle.rmb_region.specs.Regions.{Buffer}
use Rattle.clc_handshake.specs.Stages.{Hand}
use Rattle.pipe_model.specs.declared.setup.Setup.{Setup}
use Rattle.pipe_model.specs.declared.entry.Entry.{Entry}
use Rattle.pipe_model.specs.Words.{passes}
use Rattle.pipe_model.specs.History.{Offered, offered}
use Rattle.pipe_model.specs.Ends.{Half}
use Rattle.pipe_model.specs.Connections.{IsUp, is_up, end_state, early_state}
use Rattle.pipe_model.specs.Lending.{Lending, lends_by}
use Rattle.conn_end.specs.Kept.{Kept}
use Rattle.side_core.specs.declared.route.Route.{Route}
use Rattle.side_core.specs.Records.{Connection, Stands, StandsAt, conn_at, has_token, is_aimed_at, holder, aimer}
use Rattle.side_core.specs.Manager.{Manager, Represents, state_at, no_hand}
use Rattle.side_core.proofs.Managers.{aimers_same}
use Rattle.side_core.proofs.Elements.{alike_position}
use Rattle.world_core.specs.Played.{IsOneLink, IsPlayed}
use Rattle.world_core.specs.OneLink.{the_link}
use Rattle.world_core.specs.Agreement.{HasOffers}
use Rattle.world_core.specs.Managers.{manager_of, records_of, conn_of, end_of, hand_of, route_of, heard_on, awaits_confirm, keeps_element, each_socket, HasLendings}
use Rattle.world_core.proofs.Tables.{at-socket, sockets-long}
use Rattle.world_core.proofs.Lendings.{lending-due}
use Rattle.world_core.proofs.KeyedEnds.{behind}
use Rattle.world_core.proofs.PlayedWorlds.{played}
use Rattle.world_core.proofs.Handshaken.{has-offers}
use Rattle.world_core.proofs.SoundEnds.{conn-end}

-- the first place that passes, where no other does
pub place-of : {X : Type 0} (p : X → Bool) (xs : List X) (i : ℕ) (d : X) → i < length xs → p (get_or xs i d) ≡ true → ((k : ℕ) → p (get_or xs k d) ≡ true → k ≡ i) → position p xs ≡ Some i
place-of p xs i d l here only =
    ap (λ k. cond (nat_lt k (length xs)) (Some k) None) (position_or_len_is p xs i d (omega (arith, l)) before (λ m. here)) ∙ ap (λ b. cond b (Some i) None) (lt-ltb i (length xs) l)
  where
    fails : (k : ℕ) (b : Bool) → p (get_or xs k d) ≡ b → k < i → b ≡ false
    fails k true e m = let same = only k e in absurd (omega (arith, same, m))
    fails k false e m = refl

    before : (k : ℕ) → k < i → p (get_or xs k d) ≡ false
    before k m = fails k (p (get_or xs k d)) refl m

-- records that stand for plain ones hold the same tokens
held-same : (token : ℕ) (k : Option (Connection Kept)) (c : Option (Connection Half)) → StandsAt k c → has_token token k ≡ has_token token c
held-same token None None stands = refl
held-same token (Some k) (Some c) stands = ap (λ (r : Route). r.token == token) stands.route
held-same token None (Some c) stands = absurd stands
held-same token (Some k) None stands = absurd stands

-- a kept connection beside the plain one for which it stands
pub record KeptBeside (o : Option (Connection Kept)) (c : Connection Half) : Type 0 where
  pub kept : Connection Kept
  pub kept_is : o ≡ Some kept
  pub stands : Stands kept c

beside : (ok : Option (Connection Kept)) (oc : Option (Connection Half)) (c : Connection Half) → StandsAt ok oc → oc ≡ Some c → KeptBeside ok c
beside None None c st e = absurd (true≢false (sym (ap (λ (q : Option (Connection Half)). is_some q) e)))
beside None (Some d) c st e = absurd st
beside (Some k) None c st e = absurd st
beside (Some k) (Some d) c st e = record { kept = k; kept_is = refl; stands = subst (λ (q : Option (Connection Half)). StandsAt (Some k) q) e st }

-- the plain connection of a socket in a lending
abbrev pub plain_conn : Setup → List ℕ → Side → List Entry → ℕ → Lending → Connection Half
plain_conn setup payload x past s l = record { route = route_of x s past l; end = end_of setup payload x s past }

module _ (setup : Setup) (payload : List ℕ) (regions : List Buffer) (x : Side) (past : List Entry) (v : Manager Kept) (st : Represents v (manager_of setup payload regions x past)) where
  -- the state of an end
  pub state-is : (s : ℕ) → s < setup.sockets → state_at s v ≡ end_state x s past
  state-is s l =
      ap (λ (hs : List Hand). (slice_index_or hs s no_hand).state) st.hands ∙ ap (λ (h : Hand). h.state) (at-socket (hand_of x past) setup.sockets s no_hand l)

  abbrev Plain : List (Option (Connection Half))
  Plain = each_socket (conn_of setup payload x past) setup.sockets

  holders-same : (token : ℕ) → holder token v.records ≡ position (has_token token) Plain
  holders-same token = let w = st.works in let r = w.records in
      alike_position (has_token token) (has_token token) v.records.by_socket Plain None None r.sockets (λ k. held-same token (conn_at k v.records) (slice_index_or Plain k None) (r.each k))

  aimers-same : (token : ℕ) → aimer token v.records ≡ position (is_aimed_at token) Plain
  aimers-same token = let w = st.works in aimers_same token v.records (records_of setup payload x past) w.records

  pub kept-beside : (s : ℕ) (c : Connection Half) → conn_at s (records_of setup payload x past) ≡ Some c → KeptBeside (conn_at s v.records) c
  kept-beside s c e = let w = st.works in let r = w.records in beside (conn_at s v.records) (conn_at s (records_of setup payload x past)) c (r.each s) e

  module _ (one : IsOneLink setup) (n : ℕ) (p : IsPlayed setup payload past n) (lendings_are : HasLendings setup payload past) where
    offers : HasOffers setup past
    offers = has-offers setup one payload past n p

    -- the connection of a socket whose end is in its handshake or up, once its side has offered
    pub plain-there : (s : ℕ) (o : Offered) → offered x s past ≡ Some o → keeps_element (end_state x s past) ≡ true → conn_at s (records_of setup payload x past) ≡ Some (plain_conn setup payload x past s (lends_by s o.link o.offer))
    plain-there s o f k = let h = offers in let each = lendings_are.each x s in
        at-socket (conn_of setup payload x past) setup.sockets s None (h.known x s o f)
        ∙ ap (λ (l : Option Lending). option_map (plain_conn setup payload x past s) l) (each ∙ lending-due x s past o f k)

    pub kept-there : (s : ℕ) (o : Offered) → offered x s past ≡ Some o → keeps_element (end_state x s past) ≡ true → KeptBeside (conn_at s v.records) (plain_conn setup payload x past s (lends_by s o.link o.offer))
    kept-there s o f k = kept-beside s (plain_conn setup payload x past s (lends_by s o.link o.offer)) (plain-there s o f k)

    -- a connection is of an offer of its side
    record IsOfferedOn (t : ℕ) (c : Connection Half) : Type 0 where
      pub o : Offered
      pub offered_is : offered x t past ≡ Some o
      pub token : c.route.token ≡ o.offer.token
      pub peer : c.route.peer ≡ heard_on x t past

    of-due : (t : ℕ) (b : Bool) (q : Option Offered) (c : Connection Half) → offered x t past ≡ q → option_map (plain_conn setup payload x past t) (if b then option_map (λ (o : Offered). lends_by t o.link o.offer) q else None) ≡ Some c → IsOfferedOn t c
    of-due t false q c e f = absurd (true≢false (sym (ap (λ (q : Option (Connection Half)). is_some q) f)))
    of-due t true None c e f = absurd (true≢false (sym (ap (λ (q : Option (Connection Half)). is_some q) f)))
    of-due t true (Some o) c e f = record {
      o = o;
      offered_is = e;
      token = same (plain_conn setup payload x past t (lends_by t o.link o.offer)) c f (λ d. d.route.token);
      peer = same (plain_conn setup payload x past t (lends_by t o.link o.offer)) c f (λ d. d.route.peer);
    }
      where
        same : {Y : Type 0} (a b : Connection Half) → Some a ≡ Some b → (g : Connection Half → Y) → g b ≡ g a
        same a b e g = sym (ap (λ (q : Option (Connection Half)). g (unwrap_or q a)) e)

    offered-on : (t : ℕ) (c : Connection Half) → slice_index_or Plain t None ≡ Some c → IsOfferedOn t c
    offered-on t c e = let k = conn-end setup payload x past t c e in let each = lendings_are.each x t in
        of-due t (keeps_element (end_state x t past)) (offered x t past) c refl
        (ap (λ (l : Option Lending). option_map (plain_conn setup payload x past t) l) (sym each) ∙ (sym (at-socket (conn_of setup payload x past) setup.sockets t None k.0) ∙ e))

    within : (s : ℕ) → s < setup.sockets → s < length Plain
    within s l = let long : length Plain ≡ setup.sockets = sockets-long (conn_of setup payload x past) setup.sockets in omega (arith, long, l)

    -- its side's token names it
    pub holder-is : (s : ℕ) (o : Offered) → offered x s past ≡ Some o → keeps_element (end_state x s past) ≡ true → holder o.offer.token v.records ≡ Some s
    holder-is s o f k = let h = offers in
        holders-same o.offer.token ∙ place-of (has_token o.offer.token) Plain s None (within s (h.known x s o f))
        (ap (λ (c : Option (Connection Half)). has_token o.offer.token c) (plain-there s o f k) ∙ eq-eqb o.offer.token o.offer.token refl)
        (λ t e. only t (slice_index_or Plain t None) refl e)
      where
        only : (t : ℕ) (c : Option (Connection Half)) → slice_index_or Plain t None ≡ c → has_token o.offer.token c ≡ true → t ≡ s
        only t None e g = absurd (true≢false (sym g))
        only t (Some c) e g = let h = offers in let i = offered-on t c e in h.tokens x t s i.o o i.offered_is f (sym i.token ∙ eqb-true c.route.token o.offer.token g)

    -- its peer's token names it, once its offer was taken
    pub aimer-is : (s : ℕ) (own o : Offered) → offered x s past ≡ Some own → keeps_element (end_state x s past) ≡ true → offered (other x) s past ≡ Some o → awaits_confirm (end_state x s past) ≡ false → aimer o.offer.token v.records ≡ Some s
    aimer-is s own o f k g a = let h = offers in
        aimers-same o.offer.token ∙ place-of (is_aimed_at o.offer.token) Plain s None (within s (h.known x s own f))
        (ap (λ (c : Option (Connection Half)). is_aimed_at o.offer.token c) (plain-there s own f k)
        ∙ (ap (λ (p : Option Offer). passes (λ (q : Offer). q.token == o.offer.token) p) (heard s o g a) ∙ eq-eqb o.offer.token o.offer.token refl))
        (λ t e. only t (slice_index_or Plain t None) refl e)
      where
        heard : (t : ℕ) (q : Offered) → offered (other x) t past ≡ Some q → awaits_confirm (end_state x t past) ≡ false → heard_on x t past ≡ Some q.offer
        heard t q g a = ap (λ b. if b then None else option_map (λ (o : Offered). o.offer) (offered (other x) t past)) a ∙ ap (λ o. option_map (λ (o : Offered). o.offer) o) g

        of-heard : (t : ℕ) (b : Bool) (q : Option Offered) → offered (other x) t past ≡ q → passes (λ (r : Offer). r.token == o.offer.token) (if b then None else option_map (λ (o : Offered). o.offer) q) ≡ true → t ≡ s
        of-heard t true q e g2 = absurd (true≢false (sym g2))
        of-heard t false None e g2 = absurd (true≢false (sym g2))
        of-heard t false (Some q) e g2 = let h = offers in h.tokens (other x) t s q o e g (eqb-true q.offer.token o.offer.token g2)

        only : (t : ℕ) (c : Option (Connection Half)) → slice_index_or Plain t None ≡ c → is_aimed_at o.offer.token c ≡ true → t ≡ s
        only t None e g2 = absurd (true≢false (sym g2))
        only t (Some c) e g2 = let i = offered-on t c e in
            of-heard t (awaits_confirm (end_state x t past)) (offered (other x) t past) refl (ap (λ (p : Option Offer). passes (λ (r : Offer). r.token == o.offer.token) p) (sym i.peer) ∙ g2)

    -- what is kept of an end that is up
    pub record UpConn (s : ℕ) : Type 0 where
      pub own : Offered
      pub own_is : offered x s past ≡ Some own
      pub theirs : Offered
      pub theirs_is : offered (other x) s past ≡ Some theirs
      pub known : s < setup.sockets
      pub state : state_at s v ≡ IsUp
      pub plain_is : conn_at s (records_of setup payload x past) ≡ Some (plain_conn setup payload x past s (lends_by s own.link own.offer))
      pub kept : KeptBeside (conn_at s v.records) (plain_conn setup payload x past s (lends_by s own.link own.offer))
      pub peer : heard_on x s past ≡ Some theirs.offer
      pub held : holder own.offer.token v.records ≡ Some s
      pub aimed : aimer theirs.offer.token v.records ≡ Some s

    pub up-conn : (s : ℕ) → is_up x s past ≡ true → UpConn s
    up-conn s up =
        let w = played setup one payload past n p in
        let world = w.world in
        let socket = world.sockets s in
        let at = socket.stands in
        let i = behind socket.at x (sym (at.up x) ∙ up) in
        let h = offers in
        let own : Offered = record { link = the_link; offer = i.own } in
        let theirs : Offered = record { link = the_link; offer = i.offer } in
        let mine : offered x s past ≡ Some own = at.offer x ∙ i.ours in
        let peers : offered (other x) s past ≡ Some theirs = at.offer (other x) ∙ i.theirs in
        let state : end_state x s past ≡ IsUp = ap (λ b. if b then IsUp else early_state x s past) up in
        let keeps : keeps_element (end_state x s past) ≡ true = ap (λ st. keeps_element st) state in
        let done : awaits_confirm (end_state x s past) ≡ false = ap (λ st. awaits_confirm st) state in
        let known : s < setup.sockets = h.known x s own mine in
        record {
          own = own;
          own_is = mine;
          theirs = theirs;
          theirs_is = peers;
          known = known;
          state = state-is s known ∙ state;
          plain_is = plain-there s own mine keeps;
          kept = kept-there s own mine keeps;
          peer = ap (λ b. if b then None else option_map (λ (o : Offered). o.offer) (offered (other x) s past)) done ∙ ap (λ o. option_map (λ (o : Offered). o.offer) o) peers;
          held = holder-is s own mine keeps;
          aimed = aimer-is s own theirs mine keeps peers done;
        }
