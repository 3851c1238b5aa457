-- The CDC message at the front of a wire is one that its end sent, told beside it plainly, and the manager at each side may take it.
use Rattle.std.proofs.Common.{◌≡◌, ◌∙◌, ℕ, ◌-◌, ◌≤◌, ◌^◌, Bool, true, false, if◌then◌else◌, nat_lt, List, [], ◌∷◌, length, map, take, drop, suc, refl, ap, sym, subst, true≢false, arith, ltb-true}
use Rattle.std.specs.Prelude.{Option, Some, None, is_some, option_map, unwrap_or}
use Rattle.std.specs.List.{cons_option}
use Rattle.smc_num.specs.declared.Side.{Side}
use Rattle.smc_num.specs.declared.LinkId.{LinkId}
use Rattle.smc_num.specs.Names.{other, same_side, same_link, head}
use Rattle.cdc_wire.specs.declared.CdcMessage.{CdcMessage}
use Rattle.rmb_region.specs.Regions.{Buffer}
use Rattle.pipe_model.specs.declared.setup.Setup.{Setup}
use Rattle.pipe_model.specs.declared.snapshot.Snapshot.{Snapshot}
use Rattle.pipe_model.specs.declared.sent.Sent.{Sent}
use Rattle.pipe_model.specs.declared.entry.Entry.{Entry}
use Rattle.pipe_model.specs.declared.post.Post.TheVariants.{Cdc}
use Rattle.pipe_model.specs.declared.post.PostRef.{PostRef}
use Rattle.pipe_model.specs.declared.post.Placed.{Placed}
use Rattle.pipe_model.specs.Words.{element_size}
use Rattle.pipe_model.specs.Snapshot.{spelled, validation}
use Rattle.pipe_model.specs.History.{Offered, offered}
use Rattle.pipe_model.specs.Wires.{is_on, unlanded, uncompleted}
use Rattle.pipe_model.specs.Ends.{Half, to_land, to_complete}
use Rattle.pipe_model.specs.Pipe.{half}
use Rattle.pipe_model.specs.Connections.{is_up, end_state, part, group_on}
use Rattle.pipe_model.specs.Lending.{lends_by, terms_of, pipe_of}
use Rattle.pipe_model.proofs.Pipes.{lands-well, completes-well}
use Rattle.rc_link.specs.declared.InFlight.{InFlight}
use Rattle.rc_link.specs.Wire.{Queues, placed}
use Rattle.conn_end.specs.Kept.{Kept}
use Rattle.conn_end.specs.Arrivals.{IsSpelling, IsTakable, Completes}
use Rattle.conn_end.proofs.Owners.{takable}
use Rattle.side_core.specs.Records.{Connection, IsSized, conn_at, holder, aimer}
use Rattle.side_core.specs.Manager.{Manager, Represents}
use Rattle.side_core.specs.Acting.{IsSoundAt}
use Rattle.side_core.specs.Comings.{Arrives, MayArriveAt, ArrivesAt, MayCompleteAt, CompletesAt}
use Rattle.side_core.specs.Landing.{MayLandIn, LandsIn, MayCompleteIn, CompletesIn, dropped, dropped_by}
use Rattle.world_core.specs.Played.{IsPlayed}
use Rattle.world_core.specs.OneLink.{the_link}
use Rattle.world_core.specs.Sockets.{Socket, FirstUp, Up, up_at, end_at}
use Rattle.world_core.specs.Wired.{cdc_under, returning}
use Rattle.world_core.specs.WireSteps.{IsPlaced, EachPlaced}
use Rattle.world_core.specs.Agreement.{HasPipe, Spelling, next_to_land, next_to_complete}
use Rattle.world_core.specs.Hosts.{IsWorldSet, IsWireAfter, TellsPlainly, plains, shots}
use Rattle.world_core.specs.Managers.{manager_of, end_of, keeps_element, HasLendings}
use Rattle.world_core.proofs.Places.{unlanded-stand, uncompleted-stand}
use Rattle.world_core.proofs.PlainWires.{plain-some}
use Rattle.world_core.proofs.Heads.{unlanded-there, uncompleted-there, first-meant, lands-spelled, completes-spelled}
use Rattle.world_core.proofs.Own.{grouped}
use Rattle.world_core.proofs.TakenMessages.{end-is}
use Rattle.world_core.proofs.WireEntries.{IsMessage}
use Rattle.world_core.proofs.PlayedWorlds.{played}
use Rattle.world_core.proofs.Handshaken.{shaken, has-offers}
use Rattle.world_core.proofs.Pipes.{has-pipe}
use Rattle.world_core.proofs.SoundEnds.{sound-at}
use Rattle.world_core.proofs.EndRecords.{KeptBeside, UpConn, plain_conn, up-conn, plain-there, kept-there, holder-is}
use Rattle.world_core.proofs.Plain.{and-left, same-is}
use Rattle.world_core.proofs.LinkFacts.{by-up}
use Rattle.world_core.proofs.QuietEvents.{by-side}
use Rattle.world_core.proofs.Agreement.{none-first}

-- the end of the peer of one that is up keeps its element
peer-keeps : (k : Socket) (x : Side) → up_at k x ≡ true → keeps_element (end_at k (other x)) ≡ true
peer-keeps =
    by-up (λ k y. keeps_element (end_at k (other y)) ≡ true) (λ o p. refl) (λ o p. by-side (λ y. keeps_element (end_at (FirstUp o p) (other y)) ≡ true) refl refl) (λ o p. refl)
    (λ o p. by-side (λ y. keeps_element (end_at (Up o p) (other y)) ≡ true) refl refl)

-- the first of a queue stands beside the first of what an end has under way
first-shot : (ms : List Sent) (r : Sent) → head ms ≡ Some r → head (shots ms) ≡ Some r.snapshot
first-shot [] r e = absurd (true≢false (sym (ap (λ (q : Option Sent). is_some q) e)))
first-shot (m ∷ ms) r e = ap (λ (q : Option Sent). option_map (λ (k : Sent). k.snapshot) q) e

first-plain : (x : Side) (token : ℕ) (c : InFlight) (rest cs : List InFlight) (m : CdcMessage) (ms : List Sent) (r : Sent) → cs ≡ c ∷ rest → cdc_under x token c.post ≡ Some m → plains x token cs ≡ shots ms → head ms ≡ Some r → c.plain ≡ r.snapshot
first-plain x token c rest cs m ms r e u p h =
    same c.plain r.snapshot
    (ap (λ (o : Option Snapshot). head (cons_option o (plains x token rest))) (sym (plain-some x token c m u))
    ∙ (ap (λ ds. head (plains x token ds)) (sym e) ∙ (ap (λ ss. head ss) p ∙ first-shot ms r h)))
  where
    same : (a b : Snapshot) → Some a ≡ Some b → a ≡ b
    same a b e = ap (λ (q : Option Snapshot). unwrap_or q a) e

head-take : (n : ℕ) (ms : List Sent) → head (take (suc n) ms) ≡ head ms
head-take n [] = refl
head-take n (m ∷ ms) = refl

-- what is next to complete is the first that has landed and not completed
next-is : (h : Half) (r : Sent) → next_to_complete h ≡ Some r → (head (to_complete h) ≡ Some r) × (head (returning h) ≡ Some r)
next-is h r e = by (nat_lt h.completed h.landed) refl e
  where
    by : (b : Bool) → nat_lt h.completed h.landed ≡ b → (if b then head (to_complete h) else None) ≡ Some r → (head (to_complete h) ≡ Some r) × (head (returning h) ≡ Some r)
    by false t e = absurd (true≢false (sym (ap (λ (q : Option Sent). is_some q) e)))
    by true t e =
        let l = ltb-true h.completed h.landed t in
        let n : h.landed - h.completed ≡ suc (h.landed - h.completed - 1) = omega (arith, l) in
        (e, ap (λ n. head (take n (to_complete h))) n ∙ (head-take (h.landed - h.completed - 1) (to_complete h) ∙ e))

same-offer : (o : Option Offered) (a b : Offered) → o ≡ Some a → o ≡ Some b → a.offer.token ≡ b.offer.token
same-offer o a b e f = ap (λ (p : Option Offered). unwrap_or (option_map (λ (r : Offered). r.offer.token) p) 0) (sym e ∙ f)

-- at the connections of a socket
the-same : (s t : ℕ) → Some s ≡ Some t → s ≡ t
the-same s t e = ap (λ (q : Option ℕ). unwrap_or q s) e

module _ (s : ℕ) (m : CdcMessage) (plain : Snapshot) (sent : Sent) (v : Manager Kept) where
  completes-in : (w : Manager Half) (k : Connection Kept) (c : Connection Half) → aimer m.token v.records ≡ Some s → conn_at s v.records ≡ Some k → conn_at s w.records ≡ Some c → Completes k.end m plain c.end sent → CompletesIn s m plain sent v w
  completes-in w k c aimed e f done = record {
    aimed = aimed;
    completes = subst (λ o. CompletesAt m plain sent o (conn_at s w.records)) (sym e) (subst (λ o. CompletesAt m plain sent (Some k) o) (sym f) done);
  }

  may-complete-in : (k : Connection Kept) (h : Half) → aimer m.token v.records ≡ Some s → conn_at s v.records ≡ Some k → Completes k.end m plain h sent → ((t : ℕ) → IsSoundAt v.records.terms.size (conn_at t v.records)) → MayCompleteIn m plain v
  may-complete-in k h aimed e done sound = record {
    sender = λ t f. subst (λ r. MayCompleteAt m plain (conn_at r v.records)) (the-same s t (sym aimed ∙ f)) (subst (λ o. MayCompleteAt m plain o) (sym e) (record { end = h; sent = sent; completes = done }));
    sound = λ t f. sound t;
  }

  lands-in : (w : Manager Half) (k : Connection Kept) (c : Connection Half) → holder m.token v.records ≡ Some s → conn_at s v.records ≡ Some k → conn_at s w.records ≡ Some c → Arrives k.end m plain c.end sent → LandsIn s m plain sent v w
  lands-in w k c held e f comes = record {
    held = held;
    lands = subst (λ o. ArrivesAt m plain sent o (conn_at s w.records)) (sym e) (subst (λ o. ArrivesAt m plain sent (Some k) o) (sym f) comes);
  }

  may-land-in : (k : Connection Kept) (h : Half) → holder m.token v.records ≡ Some s → conn_at s v.records ≡ Some k → Arrives k.end m plain h sent → ((t : ℕ) → IsSoundAt v.records.terms.size (conn_at t v.records)) → MayLandIn m plain v
  may-land-in k h held e comes sound = record {
    taker = λ t f. subst (λ r. MayArriveAt m plain (conn_at r v.records)) (the-same s t (sym held ∙ f)) (subst (λ o. MayArriveAt m plain o) (sym e) (record { end = h; sent = sent; arrives = comes }));
    sound = λ t f. sound t;
  }

module _ (setup : Setup) (payload : List ℕ) (set : IsWorldSet setup payload) (past : List Entry) (n : ℕ) (p : IsPlayed setup payload past n) (x : Side) where
  abbrev Queue : Type 0
  Queue = List Placed

  -- a message of a queue in the history
  message-at : (queue : Queue) (c : Placed) (rest : Queue) (from : Side) (l : LinkId) (m : CdcMessage) (place : Half → Option Sent) → EachPlaced (λ c. is_on the_link x c.post ≡ true) queue → EachPlaced (IsPlaced past) queue
      → queue ≡ c ∷ rest → c.post ≡ Cdc from l m → (sp : Spelling setup payload x past m place) → IsMessage x sp.s c.at past
  message-at queue c rest from l m place there stands q e sp =
      let on = subst (λ cs. EachPlaced (λ c. is_on the_link x c.post ≡ true) cs) q there in
      let at = subst (λ cs. EachPlaced (IsPlaced past) cs) q stands in
      let known = at.0 in
      let side : from ≡ x = sym (same-is x from (and-left (same_side x from) (same_link the_link l) (ap (λ post. is_on the_link x post) (sym e) ∙ on.0))) in
      record { link = l; message = m; post = known.is ∙ (ap (λ q. Some q) e ∙ ap (λ y. Some (Cdc y l m)) side); offer = sp.offer; offered_is = sp.offered_is; token = sp.token }

  -- an end with a message under way is up
  sender-up : (s : ℕ) (m : Sent) (i : ℕ) → head (drop i (end_of setup payload x s past).sent) ≡ Some m → (u : Bool) → is_up x s past ≡ u → u ≡ true
  sender-up s m i e true f = refl
  sender-up s m i e false f = let q = has-pipe setup payload s past n p (shaken setup set.one payload past n p) in absurd (none-first m (end_of setup payload x s past).sent i e (q.idle x f))

  -- told plainly, in the pipe of its socket
  tells : (w : Queues) → IsWireAfter setup payload x past w → (s : ℕ) (o : Offered) → offered (other x) s past ≡ Some o → TellsPlainly x o.offer.token w (end_of setup payload x s past)
  tells w wire s o f = let plain = wire.plain s o f in
      subst (λ g. TellsPlainly x o.offer.token w (half x (pipe_of setup payload g s past))) (sym (grouped setup past (has-offers setup set.one payload past n p) (other x) s o f)) plain

  spelling-is : (size : ℕ) (m : CdcMessage) (sent : Sent) (plain : Snapshot) → size ≡ element_size setup → sent.check ≡ false → m ≡ spelled (element_size setup) m.token sent.snapshot → plain ≡ sent.snapshot → IsSpelling size m plain sent
  spelling-is size m sent plain z c e f = record {
    spelled = e ∙ (ap (λ k. spelled k m.token sent.snapshot) (sym z) ∙ ap (λ b. if b then validation size m.token sent.snapshot else spelled size m.token sent.snapshot) (sym c));
    plainly = λ q. f;
  }

  module _ (few : length past ≤ 2 ^ 18) (lendings_are : HasLendings setup payload past) (regions : List Buffer) where
    -- what completes at its sender
    module _ (v : Manager Kept) (st : Represents v (manager_of setup payload regions x past)) where
      pub record Completing (m : CdcMessage) (plain : Snapshot) (at : PostRef) : Type 0 where
        pub s : ℕ
        pub sent : Sent
        pub next : next_to_complete (end_of setup payload x s past) ≡ Some sent
        pub first : head (to_complete (end_of setup payload x s past)) ≡ Some sent
        pub message : IsMessage x s at past
        pub plain_is : plain ≡ sent.snapshot
        pub completes : CompletesIn s m plain sent v (manager_of setup payload regions x past)
        pub may : MayCompleteIn m plain v

      completing-of : (c : InFlight) (m : CdcMessage) (sp : Spelling setup payload x past m next_to_complete) → IsMessage x sp.s c.at past → c.plain ≡ (sp.sent).snapshot → head (to_complete (end_of setup payload x sp.s past)) ≡ Some sp.sent
          → UpConn setup payload regions x past v st set.one n p lendings_are sp.s → HasPipe setup payload sp.s past → Completing m c.plain c.at
      completing-of c m sp message plain first u pipe = record {
        s = sp.s;
        sent = sp.sent;
        next = sp.sent_is;
        first = first;
        message = message;
        plain_is = plain;
        completes = completes-in sp.s m c.plain sp.sent v (manager_of setup payload regions x past) Kept-of Plain-of aimed kept-is u.plain_is done;
        may = may-complete-in sp.s m c.plain sp.sent v Kept-of (end_of setup payload x sp.s past) aimed kept-is done (sound-at setup payload set past n p few x regions v st);
      }
        where
          Kept-of : Connection Kept
          Kept-of = let k = u.kept in k.kept

          kept-is : conn_at sp.s v.records ≡ Some Kept-of
          kept-is = let k = u.kept in k.kept_is

          Plain-of : Connection Half
          Plain-of = plain_conn setup payload x past sp.s (lends_by sp.s (u.own).link (u.own).offer)

          aimed : aimer m.token v.records ≡ Some sp.s
          aimed = ap (λ t. aimer t v.records) (sp.token ∙ same-offer (offered (other x) sp.s past) sp.offer u.theirs sp.offered_is u.theirs_is) ∙ u.aimed

          size : Kept-of.end.size ≡ element_size setup
          size = let w = st.works in let r = w.records in subst (IsSized v.records.terms.size) kept-is (r.sizes sp.s) ∙ ap (λ t. t.size) r.terms

          done : Completes Kept-of.end m c.plain (end_of setup payload x sp.s past) sp.sent
          done = let k = u.kept in let stands = k.stands in let open_sent = sp.open_sent in let can = pipe.can_be in record {
            stands = stands.end;
            spelling = spelling-is Kept-of.end.size m sp.sent c.plain size open_sent.0 sp.spells plain;
            oldest = λ b. completes-well (terms_of setup) x (part payload (group_on sp.s past) sp.s past) sp.sent can.feasible first b;
          }

      pub completing : (w : Queues) → IsWireAfter setup payload x past w → (c : InFlight) (rest : List InFlight) (from : Side) (l : LinkId) (m : CdcMessage) → w.landed ≡ c ∷ rest → c.post ≡ Cdc from l m → Completing m c.plain c.at
      completing w wire c rest from l m q e = by (completes-spelled setup payload x past n p (shaken setup set.one payload past n p) (placed c) (map placed rest) from l m queue e)
        where
          queue : uncompleted the_link x past ≡ placed c ∷ map placed rest
          queue = sym wire.landed ∙ ap (λ cs. map placed cs) q

          under : cdc_under x m.token c.post ≡ Some m
          under = first-meant the_link x (uncompleted the_link x past) (placed c) (map placed rest) from l m (uncompleted-there the_link x past) queue e

          by : (sp : Spelling setup payload x past m next_to_complete) → Completing m c.plain c.at
          by sp =
              let next = next-is (end_of setup payload x sp.s past) sp.sent sp.sent_is in
              let tell = tells w wire sp.s sp.offer sp.offered_is in
              completing-of c m sp
              (message-at (uncompleted the_link x past) (placed c) (map placed rest) from l m next_to_complete (uncompleted-there the_link x past) (uncompleted-stand the_link x past) queue e sp)
              (first-plain x (sp.offer).offer.token c rest w.landed m (returning (end_of setup payload x sp.s past)) sp.sent q (subst (λ t. cdc_under x t c.post ≡ Some m) sp.token under) tell.completing next.1)
              next.0
              (up-conn setup payload regions x past v st set.one n p lendings_are sp.s (sender-up sp.s sp.sent (end_of setup payload x sp.s past).completed next.0 (is_up x sp.s past) refl))
              (has-pipe setup payload sp.s past n p (shaken setup set.one payload past n p))

    -- what lands at the peer
    module _ (v : Manager Kept) (st : Represents v (manager_of setup payload regions (other x) past)) where
      pub record Landing (m : CdcMessage) (plain : Snapshot) (at : PostRef) : Type 0 where
        pub s : ℕ
        pub sent : Sent
        pub next : head (to_land (end_of setup payload x s past)) ≡ Some sent
        pub message : IsMessage x s at past
        pub plain_is : plain ≡ sent.snapshot
        pub lands : LandsIn s m plain sent v (manager_of setup payload regions (other x) past)
        pub may : MayLandIn m plain v
        pub kept : dropped m.token v ≡ None

      landing-of : (c : InFlight) (m : CdcMessage) (sp : Spelling setup payload x past m next_to_land) → IsMessage x sp.s c.at past → c.plain ≡ (sp.sent).snapshot → keeps_element (end_state (other x) sp.s past) ≡ true
          → KeptBeside (conn_at sp.s v.records) (plain_conn setup payload (other x) past sp.s (lends_by sp.s (sp.offer).link (sp.offer).offer)) → HasPipe setup payload sp.s past → Landing m c.plain c.at
      landing-of c m sp message plain keeps kept pipe = record {
        s = sp.s;
        sent = sp.sent;
        next = sp.sent_is;
        message = message;
        plain_is = plain;
        lands = lands-in sp.s m c.plain sp.sent v (manager_of setup payload regions (other x) past) kept.kept Plain-of held kept.kept_is
            (plain-there setup payload regions (other x) past v st set.one n p lendings_are sp.s sp.offer sp.offered_is keeps) comes;
        may = may-land-in sp.s m c.plain sp.sent v kept.kept Taker held kept.kept_is comes (sound-at setup payload set past n p few (other x) regions v st);
        kept = ap (λ o. dropped_by o m.token) held;
      }
        where
          Plain-of : Connection Half
          Plain-of = plain_conn setup payload (other x) past sp.s (lends_by sp.s (sp.offer).link (sp.offer).offer)

          Taker : Half
          Taker = end_of setup payload (other x) sp.s past

          held : holder m.token v.records ≡ Some sp.s
          held = ap (λ t. holder t v.records) sp.token ∙ holder-is setup payload regions (other x) past v st set.one n p lendings_are sp.s sp.offer sp.offered_is keeps

          size : kept.kept.end.size ≡ element_size setup
          size = let w = st.works in let r = w.records in subst (IsSized v.records.terms.size) kept.kept_is (r.sizes sp.s) ∙ ap (λ t. t.size) r.terms

          comes : Arrives kept.kept.end m c.plain Taker sp.sent
          comes = let stands = kept.stands in let open_sent = sp.open_sent in let can = pipe.can_be in record {
            lands = record {
              stands = stands.end;
              spelling = spelling-is kept.kept.end.size m sp.sent c.plain size open_sent.0 sp.spells plain;
              taken = λ b. subst (λ k. IsTakable k (sp.sent).snapshot Taker) (sym size) (takable (element_size setup) (sp.sent).snapshot Taker (lands-well (terms_of setup) x (part payload (group_on sp.s past) sp.s past) sp.sent can.feasible sp.sent_is b));
            };
            going = pipe.not_over (other x);
          }

      pub landing : (w : Queues) → IsWireAfter setup payload x past w → (c : InFlight) (rest : List InFlight) (from : Side) (l : LinkId) (m : CdcMessage) → w.waiting ≡ c ∷ rest → c.post ≡ Cdc from l m → Landing m c.plain c.at
      landing w wire c rest from l m q e = by (lands-spelled setup payload x past n p (shaken setup set.one payload past n p) (placed c) (map placed rest) from l m queue e)
        where
          queue : unlanded the_link x past ≡ placed c ∷ map placed rest
          queue = sym wire.waiting ∙ ap (λ cs. map placed cs) q

          under : cdc_under x m.token c.post ≡ Some m
          under = first-meant the_link x (unlanded the_link x past) (placed c) (map placed rest) from l m (unlanded-there the_link x past) queue e

          keeping : (s : ℕ) → is_up x s past ≡ true → keeps_element (end_state (other x) s past) ≡ true
          keeping s up =
              let w = played setup set.one payload past n p in
              let world = w.world in
              let socket = world.sockets s in
              let at = socket.stands in
              ap (λ state. keeps_element state) (end-is setup socket.at s past at (other x)) ∙ peer-keeps socket.at x (sym (at.up x) ∙ up)

          with : (sp : Spelling setup payload x past m next_to_land) → keeps_element (end_state (other x) sp.s past) ≡ true → Landing m c.plain c.at
          with sp keeps =
              let tell = tells w wire sp.s sp.offer sp.offered_is in
              landing-of c m sp
              (message-at (unlanded the_link x past) (placed c) (map placed rest) from l m next_to_land (unlanded-there the_link x past) (unlanded-stand the_link x past) queue e sp)
              (first-plain x (sp.offer).offer.token c rest w.waiting m (to_land (end_of setup payload x sp.s past)) sp.sent q (subst (λ t. cdc_under x t c.post ≡ Some m) sp.token under) tell.landing sp.sent_is)
              keeps
              (kept-there setup payload regions (other x) past v st set.one n p lendings_are sp.s sp.offer sp.offered_is keeps)
              (has-pipe setup payload sp.s past n p (shaken setup set.one payload past n p))

          by : (sp : Spelling setup payload x past m next_to_land) → Landing m c.plain c.at
          by sp = with sp (keeping sp.s (sender-up sp.s sp.sent (end_of setup payload x sp.s past).landed sp.sent_is (is_up x sp.s past) refl))
