-- Both hosts after a landing: what the peer of the sender takes, what it posts, and what stays at the sender.
use Rattle.std.proofs.Common.{true≢false, ◌≡◌, ◌∙◌, inl, inr, ℕ, ◌+◌, ◌≤◌, ◌<◌, ◌^◌, true, if◌then◌else◌, List, [], ◌∷◌, length, filter, refl, ap, sym, subst}
use Rattle.std.proofs.lemmas.List.{length-reverse}
use Rattle.std.specs.Prelude.{Option, Some, None, option_and_then, is_some}
use Rattle.smc_num.specs.declared.Side.{Side}
use Rattle.smc_num.specs.declared.Side.TheVariants.{A, B}
use Rattle.smc_num.specs.Names.{other, same_link}
use Rattle.rmb_region.specs.Regions.{Buffer}
use Rattle.pipe_model.specs.declared.setup.Setup.{Setup}
use Rattle.pipe_model.specs.declared.event.Event.TheVariants.{Deliver}
use Rattle.pipe_model.specs.declared.reply.Reply.{Reply}
use Rattle.pipe_model.specs.declared.reply.Reply.TheVariants.{Idle, Landed, Dropped}
use Rattle.pipe_model.specs.declared.post.Post.{Post}
use Rattle.pipe_model.specs.declared.post.PostRef.{PostRef}
use Rattle.pipe_model.specs.declared.post.Placed.{Placed}
use Rattle.pipe_model.specs.declared.entry.Entry.{Entry}
use Rattle.pipe_model.specs.Words.{passes}
use Rattle.pipe_model.specs.History.{next_number}
use Rattle.pipe_model.specs.Fabric.{is_latest}
use Rattle.pipe_model.specs.Wires.{landing, landing_on, lands_on, if_latest}
use Rattle.pipe_model.specs.Fallback.{written}
use Rattle.pipe_model.specs.Ends.{Half}
use Rattle.pipe_model.specs.Replies.{told, deliver_told}
use Rattle.pipe_model.specs.Lawful.{posted}
use Rattle.rc_link.specs.Wire.{Queues, landing as would_land, with_landed, room_of}
use Rattle.conn_end.specs.Kept.{Kept}
use Rattle.side_core.specs.Manager.{Manager, Represents}
use Rattle.world_core.specs.declared.host.Host.{Host}
use Rattle.world_core.specs.declared.host.Outflow.{Outflow}
use Rattle.world_core.specs.declared.moment.Moment.{Moment}
use Rattle.world_core.specs.OneLink.{the_link}
use Rattle.world_core.specs.Agreement.{IsOnlyLink}
use Rattle.world_core.specs.Played.{IsPlayed, handed}
use Rattle.world_core.specs.WireSteps.{landing_now}
use Rattle.world_core.specs.Managers.{manager_of, HasLendings}
use Rattle.world_core.specs.Landed.{buffer_of}
use Rattle.world_core.specs.Steps.{entry_of}
use Rattle.world_core.specs.Sending.{carried_from, goes_on_wire, moved, puts_all, MaySendAll}
use Rattle.world_core.specs.Hosts.{AreHosts, AreHostsAfter, IsHostAfter, IsPlayedBy, past_of, with_posts, wire_at}
use Rattle.world_core.proofs.HostsAfter.{if-none, unposted, stands-on, played-now, may-after, room-after, streams-after, sent-after, kept-after, hosts-after}
use Rattle.world_core.proofs.AllLendings.{has-lendings}
use Rattle.world_core.proofs.StreamsAfter.{Flowing, their-flows}
use Rattle.world_core.proofs.WriteEnds.{buffer-stays}
use Rattle.world_core.proofs.WireMoves.{only-of}
use Rattle.world_core.proofs.MovedWires.{deliver-own, deliver-else}
use Rattle.world_core.proofs.CallEntries.{IsNothing}
use Rattle.world_core.proofs.LandingEntries.{lands-nothing}
use Rattle.world_core.proofs.OnWire.{no-landing}

-- a host whose next post has landed, if there is one, is as it was but for its wire
pub record IsLeft (h g : Host) : Type 0 where
  pub wire : wire_at 1 g ≡ with_landed (would_land (wire_at 1 h)) (wire_at 1 h)
  pub core : g.core ≡ h.core
  pub flows : g.flows.items ≡ h.flows.items

-- what a landing on the one slot leaves
pub left-by : (slot : ℕ) → slot ≡ 1 → (h g : Host) → wire_at slot g ≡ with_landed (would_land (wire_at slot h)) (wire_at slot h) → g.core ≡ h.core → g.flows.items ≡ h.flows.items → IsLeft h g
left-by slot one h g wire core flows = record { wire = subst (λ k. wire_at k g ≡ with_landed (would_land (wire_at k h)) (wire_at k h)) one wire; core = core; flows = flows }

-- nothing lands for the peer of the side that delivers
none-on : (x : Side) (reply : Reply) → lands_on (other x) 1 (Deliver 1 x) reply ≡ 0
none-on A (Landed at) = refl
none-on A (Dropped token) = refl
none-on A _ = refl
none-on B (Landed at) = refl
none-on B (Dropped token) = refl
none-on B _ = refl

idle-on : (x : Side) → lands_on x 1 (Deliver 1 x) Idle ≡ 0
idle-on A = refl
idle-on B = refl

one-on : (x : Side) (at : PostRef) → lands_on x 1 (Deliver 1 x) (Landed at) ≡ 1
one-on A at = refl
one-on B at = refl

-- a landing brings no bytes into a stream
not-written : (payload : List ℕ) (y x : Side) (s : ℕ) (reply : Reply) (past : List Entry) → written payload y s (Deliver 1 x) reply past ≡ []
not-written payload A x s reply past = refl
not-written payload B x s reply past = refl

-- what lands is on the latest link
latest-where : (x : Side) (past : List Entry) (c : Placed) → IsOnlyLink past → landing 1 x past ≡ Some c → is_latest the_link past ≡ true
latest-where x past c (inl e) f = absurd (true≢false (sym (ap (λ (o : Option Placed). is_some o) (sym (ap (λ o. option_and_then (λ link. landing_on link x past) o) e) ∙ f))))
latest-where x past c (inr e) f = ap (λ o. passes (same_link the_link) o) e.0

-- both hosts, whoever the actor was
module _ (setup : Setup) (payload : List ℕ) (past : List Entry) (heard : ℕ) (x : Side) (h k : Host) (before : AreHostsAfter setup payload past heard x h k) (few : length past < 2 ^ 18) (actor : ℕ) where
  abbrev Now : Entry
  Now = entry_of setup payload past heard actor (Deliver 1 x)

  abbrev Heard : ℕ
  Heard = heard + handed (told setup payload past (Deliver 1 x))

  -- what becomes of the manager that takes
  abbrev pub Taker : Manager Half
  Taker = manager_of setup payload (buffer_of setup payload (other x) 1 (entry_of setup payload past heard actor (Deliver 1 x) ∷ past) ∷ []) (other x) (entry_of setup payload past heard actor (Deliver 1 x) ∷ past)

  pub play : IsPlayed setup payload (entry_of setup payload past heard actor (Deliver 1 x) ∷ past) (heard + handed (told setup payload past (Deliver 1 x)))
  play = played-now setup payload before.set past heard before.played (Deliver 1 x) refl actor

  -- one lands for the side that delivers
  pub one-lands : (c : Placed) → landing 1 x past ≡ Some c → Landed c.at ≡ deliver_told setup payload (other x) past (landing 1 x past) → landing_now the_link x (entry_of setup payload past heard actor (Deliver 1 x)) past ≡ 1
  one-lands c next is =
      let set = before.set in
      ap (λ r. if_latest the_link past (lands_on x 1 (Deliver 1 x) r)) (sym is)
      ∙ (ap (λ n. if_latest the_link past n) (one-on x c.at) ∙ ap (λ b. if b then 1 else 0) (latest-where x past c (only-of setup set.one payload past heard before.played) next))

  -- the sender's host, whose post has left its wire
  sender-host : (g : Host) (m : Manager Half) → manager_of setup payload (buffer_of setup payload x 1 past ∷ []) x (Now ∷ past) ≡ m → Represents g.core m → (wire_at 1 g) ≡ moved x (Deliver 1 x) (wire_at 1 h) → g.flows.items ≡ h.flows.items
      → IsHostAfter setup payload x (Now ∷ past) g
  sender-host g m is stands wire_is flows_are =
      let own = before.own in
      let set = before.set in
      kept-after setup payload set past heard before.played (Deliver 1 x) refl actor x refl h g own
      (stands-on setup payload past Now x g.core m (ap (λ n. if_latest the_link past n) (none-on x (deliver_told setup payload (other x) past (landing 1 x past))) ∙ if-none past) is stands) wire_is
      (ap (λ (fs : List Outflow). length fs) flows_are ∙ own.sockets)
      (subst (λ (fs : List Outflow). Flowing payload setup.sockets x (entry_of setup payload past heard actor (Deliver 1 x) ∷ past) fs) (sym flows_are)
      (their-flows setup set.one payload Now past Heard play x refl h.flows.items (λ s. refl) (λ s. refl) own.flows))

  -- the host of its peer, after it has sent what is posted
  taker-host : (g : Host) → Represents g.core Taker → (wire_at 1 g) ≡ with_posts (carried_from Taker (next_number past) 1 (posted setup payload past heard (Deliver 1 x))) (wire_at 1 k) → g.flows.items ≡ puts_all (posted setup payload past heard (Deliver 1 x)) k.flows.items
      → IsHostAfter setup payload (other x) (Now ∷ past) g
  taker-host g stands wire_is flows_are =
      let theirs = before.theirs in
      let flows = streams-after setup payload before.set past heard before.played (Deliver 1 x) refl actor k theirs (λ s. not-written payload (other x) x s (deliver_told setup payload (other x) past (landing 1 x past)) past) g.flows.items flows_are in
      sent-after setup payload before.set past heard before.played (Deliver 1 x) refl actor k g theirs stands (buffer_of setup payload (other x) 1 (entry_of setup payload past heard actor (Deliver 1 x) ∷ past) ∷ []) Taker refl
      (posted setup payload past heard (Deliver 1 x)) refl (wire_at 1 k) (sym (deliver-else x 1 (wire_at 1 k))) wire_is flows.0 flows.1

  pub both-hosts : (g l : Host) (m : Manager Half) → manager_of setup payload (buffer_of setup payload x 1 past ∷ []) x (Now ∷ past) ≡ m → Represents g.core m → (wire_at 1 g) ≡ moved x (Deliver 1 x) (wire_at 1 h) → g.flows.items ≡ h.flows.items
      → Represents l.core Taker → (wire_at 1 l) ≡ with_posts (carried_from Taker (next_number past) 1 (posted setup payload past heard (Deliver 1 x))) (wire_at 1 k) → l.flows.items ≡ puts_all (posted setup payload past heard (Deliver 1 x)) k.flows.items
      → AreHostsAfter setup payload (Now ∷ past) Heard x g l
  both-hosts g l m is stands wire_is flows_are takes taker_wire taker_flows =
      hosts-after setup payload before.set past heard before.played (Deliver 1 x) refl actor few x g l (sender-host g m is stands wire_is flows_are) (taker-host l takes taker_wire taker_flows)

-- a played landing
module _ (at : Moment) (x : Side) (h k : Host) (hosts : AreHosts at x h k) (few : length at.history.now < 2 ^ 18) where
  abbrev S : Setup
  S = at.setup.now

  abbrev P : List ℕ
  P = at.payload.now

  abbrev Past : List Entry
  Past = past_of at

  abbrev Posts : List Post
  Posts = posted at.setup.now at.payload.now (past_of at) at.heard (Deliver 1 x)

  abbrev OwnRegions : List Buffer
  OwnRegions = buffer_of at.setup.now at.payload.now x 1 (past_of at) ∷ []

  abbrev After : ℕ → Entry
  After actor = entry_of at.setup.now at.payload.now (past_of at) at.heard actor (Deliver 1 x)

  pub few-before : length (past_of at) < 2 ^ 18
  few-before = subst (λ n. n < 2 ^ 18) (sym (length-reverse at.history.now)) few

  pub lent-now : HasLendings at.setup.now at.payload.now (past_of at)
  lent-now = let set = hosts.set in has-lendings S set.one P Past at.heard hosts.played

  -- its manager stands for what that of before did
  own-stands : (g : Host) → IsLeft h g → {m : Manager Half} → Represents h.core m → Represents g.core m
  own-stands g left {m} stands = subst (λ (v : Manager Kept). Represents v m) (sym left.core) stands

  -- both hosts, by what becomes of the one that takes
  pub is-played : (g l : Host) (reply : Reply) (posts : List Post) (m : Manager Half) → reply ≡ deliver_told S P (other x) Past (landing 1 x Past) → posts ≡ Posts
      → IsLeft h g → ((actor : ℕ) → manager_of S P OwnRegions x (After actor ∷ Past) ≡ m) → Represents g.core m
      → ((actor : ℕ) → Represents l.core (Taker S P Past at.heard x h k hosts few-before actor))
      → ((v : Manager Half) → Represents l.core v → (wire_at 1 l) ≡ with_posts (carried_from v (next_number Past) 1 Posts) (wire_at 1 k))
      → l.flows.items ≡ puts_all Posts k.flows.items → IsPlayedBy at (Deliver 1 x) reply posts x g l
  is-played g l reply posts m reply_now posts_now left is stands takes taker_wire taker_flows = record {
    reply_is = reply_now;
    posts_are = posts_now;
    after = λ actor.
        both-hosts S P Past at.heard x h k hosts few-before actor g l m (is actor) stands (left.wire ∙ sym (deliver-own x 1 (wire_at 1 h))) left.flows (takes actor)
        (taker_wire (Taker S P Past at.heard x h k hosts few-before actor) (takes actor)) taker_flows;
  }

  -- nothing is posted
  unposted-wire : Posts ≡ [] → (v : Manager Half) → (wire_at 1 k) ≡ with_posts (carried_from v (next_number Past) 1 Posts) (wire_at 1 k)
  unposted-wire none v = sym (unposted (wire_at 1 k)) ∙ ap (λ (ps : List Post). with_posts (carried_from v (next_number Past) 1 ps) (wire_at 1 k)) (sym none)

  -- nothing is posted, by a host that has only taken bytes
  pub quiet-landing : (g : Host) (v : Manager Kept) (reply : Reply) (posts : List Post) → reply ≡ deliver_told S P (other x) Past (landing 1 x Past) → posts ≡ []
      → ((regions : List Buffer) (actor : ℕ) → IsNothing S P regions (After actor) Past) → IsLeft h g
      → ((actor : ℕ) → Represents v (manager_of S P (buffer_of S P (other x) 1 (After actor ∷ Past) ∷ []) (other x) Past)) → IsPlayedBy at (Deliver 1 x) reply posts x g (record k { core = v })
  quiet-landing g v reply posts reply_now posts_now none left stands =
      let own = hosts.own in
      let first = none OwnRegions 0 in
      let empty : Posts ≡ [] = first.posts in
      is-played g (record k { core = v }) reply posts (manager_of S P OwnRegions x Past) reply_now (posts_now ∙ sym empty) left (λ actor. let q = none OwnRegions actor in q.kept x) (own-stands g left own.side)
      (λ actor. let q = none (buffer_of S P (other x) 1 (After actor ∷ Past) ∷ []) actor in subst (λ (n : Manager Half). Represents v n) (sym (q.kept (other x))) (stands actor))
      (λ n taken. unposted-wire empty n)
      (ap (λ (ps : List Post). puts_all ps k.flows.items) (sym empty))

  -- nothing lands
  pub idle-lands : (g : Host) (posts : List Post) → would_land (wire_at 1 h) ≡ None → posts ≡ [] → IsLeft h g → IsPlayedBy at (Deliver 1 x) Idle posts x g k
  idle-lands g posts none posts_now left =
      let set = hosts.set in
      let own = hosts.own in
      let theirs = hosts.theirs in
      let nothing = no-landing S P x Past (wire_at 1 h) own.wire set.one at.heard hosts.played none in
      let is : Idle ≡ deliver_told S P (other x) Past (landing 1 x Past) = sym (ap (λ o. deliver_told S P (other x) Past o) nothing) in
      quiet-landing g k.core Idle posts is posts_now (λ regions actor. lands-nothing S set.one P Past at.heard hosts.played lent-now regions x actor nothing) left
      (λ actor. subst (λ (b : Buffer). Represents k.core (manager_of S P (b ∷ []) (other x) Past))
      (sym (buffer-stays S P x (After actor) Past (ap (λ r. if_latest the_link Past (lands_on x 1 (Deliver 1 x) r)) (sym is) ∙ (ap (λ n. if_latest the_link Past n) (idle-on x) ∙ if-none Past)))) theirs.side)

  -- what the host of the peer posts
  module _ (v : Manager Kept) (posts : List Post) (posts_now : posts ≡ posted at.setup.now at.payload.now (past_of at) at.heard (Deliver 1 x))
      (stands : (actor : ℕ) → Represents v (Taker at.setup.now at.payload.now (past_of at) at.heard x h k hosts few-before actor)) where
    pub may-be-sent : MaySendAll (length k.flows.items) v posts
    may-be-sent =
        let theirs = hosts.theirs in
        may-after S P hosts.set Past at.heard hosts.played (Deliver 1 x) refl 0 few-before (buffer_of S P (other x) 1 (After 0 ∷ Past) ∷ []) v (stands 0) posts posts_now (length k.flows.items) theirs.sockets

    pub has-room : length (filter goes_on_wire posts) ≤ room_of (wire_at 1 k)
    has-room =
        let theirs = hosts.theirs in
        subst (λ (w : Queues). length (filter goes_on_wire posts) ≤ room_of w) (deliver-else x 1 (wire_at 1 k)) (room-after S P hosts.set Past at.heard hosts.played (Deliver 1 x) refl 0 (wire_at 1 k) theirs.wire posts posts_now)

    pub sent-landing : (g : Host) (m : Manager Half) (reply : Reply) → reply ≡ deliver_told S P (other x) Past (landing 1 x Past) → IsLeft h g
        → ((actor : ℕ) → manager_of S P OwnRegions x (After actor ∷ Past) ≡ m) → Represents g.core m → (l : Host) (entry : ℕ) → entry ≡ length at.history.now + 1 → l.core ≡ v
        → ((n : Manager Half) → Represents v n → (wire_at 1 l) ≡ with_posts (carried_from n entry 1 posts) (wire_at 1 k)) → l.flows.items ≡ puts_all posts k.flows.items → IsPlayedBy at (Deliver 1 x) reply posts x g l
    sent-landing g m reply reply_now left is own_stands l entry number core_is sent_is flows_are =
        let next : entry ≡ next_number Past = number ∙ ap (λ n. n + 1) (sym (length-reverse at.history.now)) in
        is-played g l reply posts m reply_now posts_now left is own_stands
        (λ actor. subst (λ u. Represents u (Taker S P Past at.heard x h k hosts few-before actor)) (sym core_is) (stands actor))
        (λ n taken.
        sent_is n (subst (λ u. Represents u n) core_is taken)
        ∙ (ap (λ i. with_posts (carried_from n i 1 posts) (wire_at 1 k)) next ∙ ap (λ (ps : List Post). with_posts (carried_from n (next_number Past) 1 ps) (wire_at 1 k)) posts_now))
        (flows_are ∙ ap (λ (ps : List Post). puts_all ps k.flows.items) posts_now)
