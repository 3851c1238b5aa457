-- What a caller of a side's manager must see to as it takes a CLC message is so in a played history; and a manager that stands for the
-- plain one judges alike.
use Rattle.clc_handshake.specs.Stages.{Hand, named_group}
use Rattle.clc_wire.specs.declared.offer.Offer.{Offer}
use Rattle.pipe_model.specs.Handshake.{verdict}
use Rattle.pipe_model.specs.History.{Offered, offered}
use Rattle.pipe_model.specs.Messages.{proposal}
use Rattle.pipe_model.specs.Plain.{begun}
use Rattle.pipe_model.specs.Posts.{groups_begun}
use Rattle.pipe_model.specs.declared.entry.Entry.{Entry}
use Rattle.pipe_model.specs.declared.setup.Setup.{Setup}
use Rattle.rmb_region.specs.Regions.{Buffer}
use Rattle.side_core.specs.Desk.{lacks_of}
use Rattle.side_core.specs.Taking.{taking_told}
use Rattle.smc_num.specs.Names.{at_side, head, no_link, other, up_to}
use Rattle.smc_num.specs.declared.LinkId.{LinkId}
use Rattle.smc_num.specs.declared.Side.{Side}
use Rattle.smc_num.specs.declared.Side.TheVariants.{A, B}
use Rattle.std.proofs.Common.{true≢false, Bool, List, [], ap, arith, cond, eq-eqb, eqb-true, false, if◌then◌else◌, inl, inr, length, map, not, refl, subst, suc, sym, true, zero, ℕ, ◌&&◌, ◌+◌, ◌<◌, ◌==◌, ◌^◌, ◌∙◌, ◌∷◌, ◌≡◌, ◌≤◌, ◌⊎◌}
use Rattle.std.specs.Prelude.{None, Option, Some, option_map, slice_index_or, unwrap_or}
use Rattle.world_core.proofs.AllLendings.{has-lendings}
use Rattle.world_core.proofs.KeptManagers.{conn-at}
use Rattle.world_core.proofs.LinkFacts.{few-groups}
use Rattle.world_core.proofs.Tables.{at-socket, sockets-long}
use Rattle.world_core.proofs.TakenAlone.{paths_of}
use Rattle.world_core.specs.OneLink.{Asking, Begun, LiveAtA, LiveAtBoth, Made, NoLink, Stage, fabric_at, the_link}
use Rattle.world_core.specs.Sockets.{Socket, Proposed, Refused, FirstAccepted, FirstConfirmed, Accepted, AcceptRefused, Confirmed, StandsAt, IsWorld, IsOffer as OfferStands, suits, end_at, untaken_at, offered_at, on_link, is_first}
use Rattle.side_core.specs.Taking.{IsOffer, MayHear, MayLend, MayTake, verdict_at}
use Rattle.clc_wire.specs.declared.message.ClcMessage.{ClcMessage}
use Rattle.clc_wire.specs.declared.message.ClcMessage.TheVariants.{Proposal as ProposalMessage, Accept as AcceptMessage, Confirm as ConfirmMessage, Decline as DeclineMessage}
use Rattle.pipe_model.specs.Connections.{EndState, WaitsConfirm, end_state}
use Rattle.pipe_model.specs.Replies.{expects, clc_told, step_told}
use Rattle.pipe_model.specs.Fallback.{untaken}
use Rattle.pipe_model.specs.Fabric.{Fabric, fabric, made_on as made_in}
use Rattle.side_core.specs.Desk.{Desk, made_on}
use Rattle.side_core.specs.Records.{Connection, aimer, is_aimed_at}
use Rattle.side_core.specs.Manager.{Manager, Represents, hand_at, state_at, no_hand}
use Rattle.side_core.specs.Landing.{CanMake, is_wait}
use Rattle.conn_end.specs.Kept.{Kept}
use Rattle.world_core.specs.Hosts.{IsWorldSet}
use Rattle.world_core.specs.Managers.{manager_of, desk_of, hand_of, conn_of, end_of, route_of, records_of, each_socket, lending_on, heard_on, awaits_confirm, keeps_element, HasLendings}
use Rattle.world_core.proofs.PlayedWorlds.{played as has-world}
use Rattle.world_core.proofs.Handshakes.{offer-of}
use Rattle.world_core.proofs.TakenMessages.{end-is, begun-with}
use Rattle.world_core.proofs.LendingFacts.{found-each, found-lending, lends-for, each-map, played-lendings, few-lendings, room-for-one, tokens-tell}
use Rattle.pipe_model.specs.Lending.{Lending, lends_by, lendings, lent}
use Rattle.std.specs.List.{position_from, find, range_with_len}
use Rattle.world_core.specs.Lent.{AreLendings, AreCounted, EachLending}
use Rattle.world_core.proofs.ClcTaken.{link_of}
use Rattle.side_core.specs.declared.route.Route.{Route}
use Rattle.pipe_model.specs.Words.{passes}
use Rattle.pipe_model.specs.Ends.{Half}
use Rattle.world_core.proofs.LinkManagers.{stage-desk}
use Rattle.world_core.proofs.Lendings.{lending-due, no-lending-due}
use Rattle.pipe_model.specs.declared.reply.Reply.TheVariants.{Sent, Established}
use Rattle.pipe_model.specs.declared.reply.SentKind.TheVariants.{Confirm as ConfirmSent, ConfirmLink as LinkSent}
use Rattle.pipe_model.specs.declared.event.Event.TheVariants.{Clc}
use Rattle.pipe_model.specs.declared.verdict.ClcStep.{ClcStep}
use Rattle.pipe_model.specs.declared.verdict.ClcStep.TheVariants.{SendAccept, SendConfirm, AskKey, Wait, Decline, Fell, Ready, Lost, Wrong}
use Rattle.pipe_model.specs.Calls.{Plain}
use Rattle.pipe_model.specs.Replies.{told as told_of_event}
use Rattle.side_core.proofs.Managers.{tells, take_kept}
use Rattle.side_core.proofs.Elements.{Tells}
use Rattle.world_core.specs.Steps.{does_something, entry_of}
use Rattle.pipe_model.specs.declared.verdict.Lacks.{Lacks}
use Rattle.world_core.specs.Played.{IsOneLink, IsPlayed, handed}
use Rattle.world_core.proofs.TakenMessagesAll.{taken, taken-by-entry, idle}
use Rattle.std.proofs.lemmas.Iterator.Adapters.{position_from-zero}
use Rattle.world_core.proofs.Plain.{none-some}
use Rattle.world_core.proofs.ClcFits.{serial-most}

-- the counts are small
made-few : (stage : Stage) → slice_index_or (map (λ k. made_in k (fabric_at stage)) (up_to 1)) 0 0 ≤ 1
made-few NoLink = omega arith
made-few (Begun s) = omega arith
made-few (Made s) = omega arith
made-few (Asking s qp) = omega arith
made-few (LiveAtA s qp) = omega arith
made-few (LiveAtBoth s) = omega arith

-- tokens count from 1
counted-each : (ls : List Lending) → AreCounted ls → EachLending (λ l. (1 ≤ l.token) × (l.token ≤ length ls)) ls
counted-each [] c = tt
counted-each (l ∷ ls) c =
    let e = c.0 in
    ((omega (arith, e), omega (arith, e)), each-map (λ k. (1 ≤ k.token) × (k.token ≤ length ls)) (λ k. (1 ≤ k.token) × (k.token ≤ suc (length ls))) (λ k h. let low = h.0 in let high = h.1 in (low, omega (arith, high))) ls (counted-each ls c.1))

record HasToken (setup : Setup) (o : Offer) : Type 0 where
  pub low : 1 ≤ o.token
  pub high : o.token ≤ setup.sockets

-- no place passes a test
position-none : {X : Type 0} (f : X → Bool) (g : ℕ → X) → ((t : ℕ) → f (g t) ≡ false) → (i from n : ℕ) → position_from f i (map g (range_with_len from n)) ≡ None
position-none f g e i from zero = refl
position-none f g e i from (suc n) = ap (λ b. cond b (Some i) (position_from f (i + 1) (map g (range_with_len (from + 1) n)))) (e from) ∙ position-none f g e (i + 1) (from + 1) n

module _ (setup : Setup) (one : IsOneLink setup) (payload : List ℕ) (regions : List Buffer) (past : List Entry) (n : ℕ) (p : IsPlayed setup payload past n) where
  are-lendings : (x : Side) → AreLendings setup payload x past
  are-lendings x = played-lendings setup one payload past n p x

  has-token : (x : Side) (s : ℕ) (o : Offer) → offered x s past ≡ on_link o → HasToken setup o
  has-token x s o e =
      let a = are-lendings x in
      let few = few-lendings setup payload x past a in
      let found : find (λ l. l.s == s) (lendings x past) ≡ Some (lends_by s the_link o) = found-lending x s past ∙ ap (λ q. option_map (lends-for s) q) e in
      let h = found-each (λ l. (1 ≤ l.token) × (l.token ≤ length (lendings x past))) s (lendings x past) (lends_by s the_link o) (counted-each (lendings x past) a.counted) found in
      let low = h.0 in
      let high = h.1 in
      record { low = low; high = omega (arith, high, few) }

  -- no connection of a side carries the token of an offer that it has not heard
  module _ (x : Side) (s : ℕ) (o : Offer) (theirs : offered (other x) s past ≡ on_link o) where
    abbrev Unheard : Type 0
    Unheard = (lending_on s (lent setup payload x past) ≡ None) ⊎ (awaits_confirm (end_state x s past) ≡ true)

    abbrev has : Option Offer → Bool
    has q = passes (λ (r : Offer). r.token == o.token) q

    unheard-conn : (t : ℕ) → has (heard_on x t past) ≡ false → is_aimed_at o.token (conn_of setup payload x past t) ≡ false
    unheard-conn t e = by (lending_on t (lent setup payload x past))
      where
        by : (q : Option Lending) → is_aimed_at o.token (option_map (λ l. let c : Connection Half = record { route = route_of x t past l; end = end_of setup payload x t past } in c) q) ≡ false
        by None = refl
        by (Some l) = e

    gone-conn : (t : ℕ) → lending_on t (lent setup payload x past) ≡ None → is_aimed_at o.token (conn_of setup payload x past t) ≡ false
    gone-conn t e = ap (λ q. is_aimed_at o.token (option_map (λ l. let c : Connection Half = record { route = route_of x t past l; end = end_of setup payload x t past } in c) q)) e

    heard-else : (t : ℕ) → (t == s) ≡ false → (b : Bool) (q : Option Offered) → offered (other x) t past ≡ q → has (if b then None else option_map (λ (r : Offered). r.offer) q) ≡ false
    heard-else t d true q e = refl
    heard-else t d false None e = refl
    heard-else t d false (Some r) e = by (r.offer.token == o.token) refl
      where
        by : (c : Bool) → (r.offer.token == o.token) ≡ c → c ≡ false
        by false f = refl
        by true f =
            let same : t ≡ s = tokens-tell setup payload (other x) past (are-lendings (other x)) t s r (record { link = the_link; offer = o }) e theirs (eqb-true r.offer.token o.token f) in
            absurd (true≢false (sym (eq-eqb t s same) ∙ d))

    at-each : Unheard → (t : ℕ) (b : Bool) → (t == s) ≡ b → is_aimed_at o.token (conn_of setup payload x past t) ≡ false
    at-each u t false d = unheard-conn t (heard-else t d (awaits_confirm (end_state x t past)) (offered (other x) t past) refl)
    at-each (inl none) t true i = subst (λ k. is_aimed_at o.token (conn_of setup payload x past k) ≡ false) (sym (eqb-true t s i)) (gone-conn s none)
    at-each (inr waits) t true i = subst (λ k. is_aimed_at o.token (conn_of setup payload x past k) ≡ false) (sym (eqb-true t s i))
        (unheard-conn s (ap (λ b. has (if b then None else option_map (λ (r : Offered). r.offer) (offered (other x) s past))) waits))

    aimed-none : Unheard → aimer o.token (records_of setup payload x past) ≡ None
    aimed-none u = position_from-zero (is_aimed_at o.token) (each_socket (conn_of setup payload x past) setup.sockets) ∙ position-none (is_aimed_at o.token) (conn_of setup payload x past) (λ t. at-each u t (t == s) refl) 0 0 setup.sockets

    offer-may : (first : Bool) → OfferStands setup (other x) first o → Unheard → IsOffer o the_link (manager_of setup payload regions x past)
    offer-may first i u =
        let k = has-token (other x) s o theirs in
        record {
          slot = refl;
          group = i.psn;
          named = refl;
          rmb = i.rmb;
          index = i.low;
          token = k.low;
          within = subst (λ m. o.token ≤ m) (sym (sockets-long (conn_of setup payload x past) setup.sockets)) k.high;
          new = aimed-none u;
        }

  -- a token is left where the side has not offered on a socket
  may-lend : (x : Side) (s : ℕ) → s < setup.sockets → offered x s past ≡ None → length (lendings x past) < length (each_socket (conn_of setup payload x past) setup.sockets)
  may-lend x s known none = subst (λ m. length (lendings x past) < m) (sym (sockets-long (conn_of setup payload x past) setup.sockets)) (room-for-one setup payload x past s (are-lendings x) known none)

  -- what the message is about
  record Hears (x : Side) (s : ℕ) (m : ClcMessage) (link : LinkId) : Type 0 where
    pub hears : MayHear s m link (manager_of setup payload regions x past)
    pub lends : MayLend m (manager_of setup payload regions x past)

  module _ (stage : Stage) (world : IsWorld setup stage past) (s : ℕ) (known : s < setup.sockets) where
    -- A takes an Accept
    accept-may : (k : Socket) (o : Offer) → StandsAt setup k s past → offered_at k B ≡ on_link o → offered_at k A ≡ None → (is_first k ≡ true → stage ≡ Begun s) → Hears A s (AcceptMessage o) the_link
    accept-may k o at theirs none begun =
        let i : OfferStands setup B (is_first k) o = offer-of setup k B o at.offers theirs in
        let none_a : offered A s past ≡ None = at.offer A ∙ none in
        let lendings_are : HasLendings setup payload past = has-lendings setup one payload past n p in
        record {
          hears = (
            offer-may A s o (at.offer B ∙ theirs) (is_first k) i (inl (lendings_are.each A s ∙ no-lending-due A s past none_a)),
            λ f. next (is_first k) refl (sym i.first_is ∙ and-first o.first (desk_of setup payload A past).group f),
          );
          lends = may-lend A s known none_a;
        }
      where
        and-first : (b : Bool) (g : ℕ) → (b && (g == 0)) ≡ true → b ≡ true
        and-first true g f = refl
        and-first false g f = absurd (true≢false (sym f))

        next : (b : Bool) → is_first k ≡ b → is_first k ≡ true → 1 ≡ made_on 1 (desk_of setup payload A past) + 1
        next b f g =
            let l = world.link in
            ap (λ st. slice_index_or (map (λ k. made_in k (fabric_at st)) (up_to 1)) 0 0 + 1) (sym (begun g))
            ∙ (ap (λ m. slice_index_or (map (λ k. made_in k (fabric_at stage)) (up_to m)) 0 0 + 1) (sym one.links)
            ∙ ap (λ (f : Fabric). slice_index_or (map (λ k. made_in k f) (up_to setup.links)) 0 0 + 1) (sym l.fabric_is))

    -- B takes a Confirm
    confirm-may : (k : Socket) (o c : Offer) → StandsAt setup k s past → offered_at k A ≡ on_link c → offered_at k B ≡ on_link o → end_at k B ≡ WaitsConfirm → Hears B s (ConfirmMessage c) the_link
    confirm-may k o c at theirs ours waits =
        let i : OfferStands setup A (is_first k) c = offer-of setup k A c at.offers theirs in
        let state : end_state B s past ≡ WaitsConfirm = end-is setup k s past at B ∙ waits in
        let lendings_are : HasLendings setup payload past = has-lendings setup one payload past n p in
        let mine : offered B s past ≡ on_link o = at.offer B ∙ ours in
        let found : lending_on s (lent setup payload B past) ≡ Some (lends_by s the_link o) = lendings_are.each B s ∙ lending-due B s past (record { link = the_link; offer = o }) mine (ap (λ st. keeps_element st) state) in
        record {
          hears = (
            offer-may B s c (at.offer A ∙ theirs) (is_first k) i (inr (ap (λ st. awaits_confirm st) state)),
            ap (λ q. option_map (λ (r : Route). r.link) (option_map (λ (c : Connection Half). c.route) q)) (conn-at setup payload regions B past s known)
                ∙ (ap (λ q. option_map (λ (r : Route). r.link) (option_map (λ (c : Connection Half). c.route) (option_map (λ l. let c : Connection Half = record { route = route_of B s past l; end = end_of setup payload B s past } in c) q))) found
                ∙ ap (λ q. Some (unwrap_or (option_map (λ (r : Offered). r.link) q) no_link)) mine),
          );
          lends = tt;
        }

    with-message : (x : Side) (link : LinkId) (a m : ClcMessage) → Some a ≡ Some m → Hears x s a link → Hears x s m link
    with-message x link a m e g = subst (λ c. Hears x s c link) (ap (λ q. unwrap_or q a) e) g

    on-offer : (k : Socket) (dir : Side) (o : Offer) → StandsAt setup k s past → offered_at k dir ≡ on_link o → the_link ≡ link_of dir s past
    on-offer k dir o at e = sym (ap (λ (q : Option Offered). unwrap_or (option_map (λ r. r.link) q) no_link) (at.offer dir ∙ e))

    at-link : (x : Side) (m : ClcMessage) (a b : LinkId) → a ≡ b → Hears x s m a → Hears x s m b
    at-link x m a b e g = subst (λ l. Hears x s m l) e g

    first-not : (k : Socket) → is_first k ≡ false → is_first k ≡ true → stage ≡ Begun s
    first-not k f e = absurd (true≢false (sym e ∙ f))

    hears-any : (k : Socket) (dir : Side) (m : ClcMessage) → StandsAt setup k s past → suits stage s k ≡ true → head (untaken_at setup k dir) ≡ Some m → Hears (other dir) s m (link_of dir s past)
    hears-any Proposed A m at suit first = with-message B (link_of A s past) (ProposalMessage (proposal setup)) m first (record { hears = tt; lends = may-lend B s known (at.offer B) })
    hears-any (Refused r) B m at suit first = with-message A (link_of B s past) (DeclineMessage r) m first (record { hears = tt; lends = tt })
    hears-any (FirstAccepted o) B m at suit first =
        at-link A m the_link (link_of B s past) (on-offer (FirstAccepted o) B o at refl) (with-message A the_link (AcceptMessage o) m first (accept-may (FirstAccepted o) o at refl refl (λ e. begun-with stage s o suit)))
    hears-any (FirstConfirmed o c) A m at suit first =
        at-link B m the_link (link_of A s past) (on-offer (FirstConfirmed o c) A c at refl) (with-message B the_link (ConfirmMessage c) m first (confirm-may (FirstConfirmed o c) o c at refl refl refl))
    hears-any (Accepted o) B m at suit first =
        at-link A m the_link (link_of B s past) (on-offer (Accepted o) B o at refl) (with-message A the_link (AcceptMessage o) m first (accept-may (Accepted o) o at refl refl (first-not (Accepted o) refl)))
    hears-any (AcceptRefused o r) A m at suit first = with-message B (link_of A s past) (DeclineMessage r) m first (record { hears = tt; lends = tt })
    hears-any (Confirmed o c) A m at suit first =
        at-link B m the_link (link_of A s past) (on-offer (Confirmed o c) A c at refl) (with-message B the_link (ConfirmMessage c) m first (confirm-may (Confirmed o c) o c at refl refl refl))
    hears-any k A m at suit first = absurd (none-some m first)
    hears-any k B m at suit first = absurd (none-some m first)

    -- all of it for the plain manager
    plain-may : (few : length past ≤ 2 ^ 18) (dir : Side) → expects (end_state (other dir) s past) ≡ true → (m : ClcMessage) → head (untaken dir s past) ≡ Some m
        → MayTake s m (link_of dir s past) (paths_of past) (manager_of setup payload regions (other dir) past)
    plain-may few dir waits m first =
        let k = world.sockets s in
        let at = k.stands in
        let l = world.link in
        let h = hears-any k.at dir m k.stands k.suits_is (ap (λ (ms : List ClcMessage). head ms) (sym (at.messages dir)) ∙ first) in
        let groups = few-groups setup stage past world.link in
        let pairs = serial-most (other dir) past in
        record {
          socket = subst (λ m. s < m) (sym (sockets-long (hand_of (other dir) past) setup.sockets)) known;
          waits = ap (λ (hand : Hand). expects hand.state) (at-socket (hand_of (other dir) past) setup.sockets s no_hand known) ∙ waits;
          hears = h.hears;
          slots = refl;
          tokens = h.lends;
          begun = begun-few (other dir) (groups_begun past) groups;
          serial = omega (arith, few, pairs);
          made = made-low (slice_index_or (map (λ k. made_in k (fabric past)) (up_to setup.links)) 0 0)
              (ap (λ m. slice_index_or (map (λ k. made_in k (fabric past)) (up_to m)) 0 0) one.links ∙ ap (λ (f : Fabric). slice_index_or (map (λ k. made_in k f) (up_to 1)) 0 0) l.fabric_is);
        }
      where
        begun-few : (x : Side) (g : ℕ) → g ≤ 1 → at_side x 0 g < 2 ^ 31
        begun-few A g few = omega arith
        begun-few B g few = omega (arith, few)

        made-low : (m : ℕ) → m ≡ slice_index_or (map (λ k. made_in k (fabric_at stage)) (up_to 1)) 0 0 → m < 2 ^ 31
        made-low m e = let few = made-few stage in omega (arith, e, few)

-- a manager that stands for a plain one judges alike
pub verdict-kept : (s : ℕ) (m : ClcMessage) (paths : List Bool) (v : Manager Kept) (plain : Manager Half) → Represents v plain → verdict_at s m paths v ≡ verdict_at s m paths plain
verdict-kept s m paths v plain stands =
    let w = stands.works in
    ap (λ (hands : List Hand). verdict (slice_index_or hands s no_hand).raw (slice_index_or hands s no_hand).state m (lacks_of paths v.desk)) stands.hands
    ∙ ap (λ (d : Desk). verdict (hand_at s plain).raw (state_at s plain) m (lacks_of paths d)) w.desk

pub told-kept : (s : ℕ) (m : ClcMessage) (paths : List Bool) (v : Manager Kept) (plain : Manager Half) → Represents v plain → taking_told s m paths v ≡ taking_told s m paths plain
told-kept s m paths v plain stands = ap (λ st. step_told (named_group m) m st) (verdict-kept s m paths v plain stands)

-- what a caller must see to
pub may-take : (setup : Setup) (payload : List ℕ) (set : IsWorldSet setup payload) (past : List Entry) (n : ℕ) → IsPlayed setup payload past n → length past ≤ 2 ^ 18 → (regions : List Buffer) (dir : Side) (v : Manager Kept)
    → Represents v (manager_of setup payload regions (other dir) past) → (s : ℕ) → s < setup.sockets → expects (end_state (other dir) s past) ≡ true → (m : ClcMessage) → head (untaken dir s past) ≡ Some m
    → MayTake s m (link_of dir s past) (paths_of past) v
may-take setup payload set past n p few regions dir v stands s known waits m first =
    let w = has-world setup set.one payload past n p in
    take_kept s m (link_of dir s past) (paths_of past) v (manager_of setup payload regions (other dir) past) stands
    (plain-may setup set.one payload regions past n p w.stage w.world s known few dir waits m first)

-- the link may be made at B, where A confirms first contact
pub record MayMake (dir : Side) (s : ℕ) (past : List Entry) (d : Desk) : Type 0 where
  pub can : CanMake the_link d
  pub link : link_of dir s past ≡ the_link

pub can-make : (setup : Setup) (one : IsOneLink setup) (payload : List ℕ) (regions : List Buffer) (past : List Entry) (n s : ℕ) (dir : Side) (e : Entry) → e.event ≡ Clc s dir → IsPlayed setup payload (e ∷ past) n
    → expects (end_state (other dir) s past) ≡ true → (m : ClcMessage) → head (untaken dir s past) ≡ Some m → e.reply ≡ Sent ConfirmSent
    → (w : Manager Kept) → Represents w (manager_of setup payload regions (other (other dir)) past) → MayMake dir s past w.desk
can-make setup one payload regions past n s A e is p waits m first sent w stands =
    let t = taken-by-entry setup one payload regions past n s A e is p waits m first in
    let c = t.confirms sent in
    let wrong : B ≡ A = c.side in cc
can-make setup one payload regions past n s B e is p waits m first sent w stands =
    let t = taken-by-entry setup one payload regions past n s B e is p waits m first in
    let c = t.confirms sent in
    let k = stands.works in
    let d : Desk = desk_of setup payload B past in
    record {
      can = subst (λ (d : Desk). CanMake the_link d) (sym (k.desk ∙ stage-desk setup payload B (Begun s) past c.begun)) (record {
        slot = refl;
        group = refl;
        begun = refl;
        none = refl;
        next = ap (λ m. slice_index_or (map (λ k. made_in k (fabric_at (Begun s))) (up_to m)) 0 0 + 1) (sym one.links);
      });
      link = c.link;
    }

-- a verdict does something unless it is to wait
does-so : (g : ℕ) (st : EndState) (m : ClcMessage) (l : Lacks) (step : ClcStep) → Tells step st m l → does_something (Plain (step_told g m step)) ≡ not (is_wait step)
does-so g st m l (SendAccept first) t = refl
does-so g st m l (SendConfirm true) t = refl
does-so g st m l (SendConfirm false) t = refl
does-so g st m l AskKey t = refl
does-so g st m l (Wait hold) t = refl
does-so g st m l (Decline lack) t = refl
does-so g st m l Fell t = refl
does-so g st (ConfirmMessage o) l Ready t = by o.first
  where
    by : (b : Bool) → does_something (Plain (if b then Sent LinkSent else Established)) ≡ true
    by true = refl
    by false = refl
does-so g st (ProposalMessage p) l Ready t = absurd t
does-so g st (AcceptMessage o) l Ready t = absurd t
does-so g st (DeclineMessage r) l Ready t = absurd t
does-so g st m l Lost t = refl
does-so g st m l (Wrong kind) t = refl

module _ (setup : Setup) (one : IsOneLink setup) (payload : List ℕ) (regions : List Buffer) (past : List Entry) (heard : ℕ) (p : IsPlayed setup payload past heard) (s : ℕ) (known : s < setup.sockets) (dir : Side) where
  abbrev next : Entry
  next = entry_of setup payload past heard 0 (Clc s dir)

  next-played : IsPlayed setup payload (entry_of setup payload past heard 0 (Clc s dir) ∷ past) (heard + handed (told_of_event setup payload past (Clc s dir)))
  next-played = (heard, record { built = known; reply = refl; posts = refl }, refl, p)

  -- what a message would be told
  pub would-be-told : expects (end_state (other dir) s past) ≡ true → (m : ClcMessage) → head (untaken dir s past) ≡ Some m → (v : Manager Kept) → Represents v (manager_of setup payload regions (other dir) past)
      → clc_told setup payload s dir past ≡ taking_told s m (paths_of past) v
  would-be-told waits m first v stands =
      let t = taken setup one payload regions past (heard + handed (told_of_event setup payload past (Clc s dir))) s dir (entry_of setup payload past heard 0 (Clc s dir)) refl next-played waits m first in
      t.reply ∙ sym (told-kept s m (paths_of past) v (manager_of setup payload regions (other dir) past) stands)

  -- it does something unless it is held
  pub would-take : expects (end_state (other dir) s past) ≡ true → (m : ClcMessage) → head (untaken dir s past) ≡ Some m → (v : Manager Kept) → Represents v (manager_of setup payload regions (other dir) past)
      → does_something (told_of_event setup payload past (Clc s dir)) ≡ not (is_wait (verdict_at s m (paths_of past) v))
  would-take waits m first v stands =
      let plain : Manager Half = manager_of setup payload regions (other dir) past in
      ap (λ r. does_something (Plain r)) (would-be-told waits m first v stands ∙ told-kept s m (paths_of past) v (manager_of setup payload regions (other dir) past) stands)
      ∙ (does-so (named_group m) (state_at s plain) m (lacks_of (paths_of past) plain.desk) (verdict_at s m (paths_of past) plain) (tells s m (paths_of past) plain (verdict_at s m (paths_of past) plain) refl)
      ∙ ap (λ st. not (is_wait st)) (sym (verdict-kept s m (paths_of past) v plain stands)))

  -- where none is there, or the end expects none, nothing is done
  pub would-idle : (expects (end_state (other dir) s past) ≡ false) ⊎ (head (untaken dir s past) ≡ None) → does_something (told_of_event setup payload past (Clc s dir)) ≡ false
  would-idle none =
      let i = idle setup one payload regions past (heard + handed (told_of_event setup payload past (Clc s dir))) s dir (entry_of setup payload past heard 0 (Clc s dir)) refl next-played none in
      ap (λ r. does_something (Plain r)) i.reply
