-- Both hosts after a completion: what the acting host keeps, what it posts, and what stays at its peer.
use Rattle.std.proofs.Common.{true≢false, ◌≡◌, ◌∙◌, ℕ, ◌+◌, ◌≤◌, ◌<◌, ◌^◌, List, [], ◌∷◌, ◌++◌, length, filter, refl, ap, sym, subst}
use Rattle.std.proofs.lemmas.List.{length-reverse}
use Rattle.std.specs.Prelude.{Some, None}
use Rattle.smc_num.specs.declared.Side.{Side}
use Rattle.smc_num.specs.declared.Side.TheVariants.{A, B}
use Rattle.smc_num.specs.declared.LinkId.{LinkId}
use Rattle.smc_num.specs.Names.{other}
use Rattle.rmb_region.specs.Regions.{Buffer}
use Rattle.pipe_model.specs.declared.setup.Setup.{Setup}
use Rattle.pipe_model.specs.declared.event.Event.TheVariants.{Complete}
use Rattle.pipe_model.specs.declared.reply.Reply.{Reply}
use Rattle.pipe_model.specs.declared.reply.Reply.TheVariants.{Idle, Completed}
use Rattle.cdc_wire.specs.declared.CdcMessage.{CdcMessage}
use Rattle.pipe_model.specs.declared.post.Post.{Post}
use Rattle.pipe_model.specs.declared.post.Post.TheVariants.{Write, Cdc, Llc, Clc}
use Rattle.pipe_model.specs.declared.entry.Entry.{Entry}
use Rattle.pipe_model.specs.History.{next_number}
use Rattle.pipe_model.specs.Wires.{completing, completed_told, completes_later}
use Rattle.pipe_model.specs.Fallback.{written}
use Rattle.pipe_model.specs.Ends.{Half, completes}
use Rattle.pipe_model.specs.Replies.{told}
use Rattle.pipe_model.specs.Lawful.{posted}
use Rattle.rc_link.specs.declared.InFlight.{InFlight}
use Rattle.rc_link.specs.Wire.{Queues, placed, completing as would_complete, with_completed, room_of}
use Rattle.side_core.specs.Manager.{Manager, Represents}
use Rattle.world_core.specs.declared.host.Host.{Host}
use Rattle.world_core.specs.declared.host.Outflow.{Outflow}
use Rattle.world_core.specs.declared.moment.Moment.{Moment}
use Rattle.world_core.specs.OneLink.{the_link}
use Rattle.world_core.specs.Played.{IsPlayed, handed}
use Rattle.world_core.specs.WireSteps.{landing_now}
use Rattle.world_core.specs.Managers.{manager_of, HasLendings}
use Rattle.world_core.specs.Leaving.{HasCompleted}
use Rattle.world_core.specs.Landed.{buffer_of}
use Rattle.world_core.specs.Steps.{entry_of}
use Rattle.world_core.specs.Sending.{carried_from, goes_on_wire, moved, puts_all, MaySendAll}
use Rattle.world_core.specs.Hosts.{AreHosts, AreHostsAfter, IsHostAfter, IsWireAfter, IsPlayedBy, past_of, with_posts, wire_at}
use Rattle.world_core.proofs.HostsAfter.{if-none, unposted, stands-on, played-now, hosts-after}
use Rattle.world_core.proofs.AllLendings.{has-lendings}
use Rattle.world_core.proofs.StreamsAfter.{Flowing, own-flows, their-flows}
use Rattle.world_core.proofs.ClcPosts.{no-clc-posts, none-put}
use Rattle.world_core.proofs.OwnWires.{wire-own, room-own, each-aimed}
use Rattle.world_core.proofs.DataSends.{data-may-go}
use Rattle.world_core.proofs.PostsFrom.{posts-from}
use Rattle.world_core.proofs.WiresAfter.{wire-theirs}
use Rattle.world_core.proofs.MovedWires.{complete-own, complete-else}
use Rattle.world_core.proofs.CallEntries.{IsNothing}
use Rattle.world_core.proofs.CompletionEntries.{completes-nothing, completes-write, completes-message}
use Rattle.world_core.proofs.MessageEnds.{completing as message-completing}
use Rattle.world_core.proofs.OnWire.{no-completing, completing-is, next-completes, completes-late, never-clc}
use Rattle.conn_end.specs.Kept.{Kept}
use Rattle.pipe_model.specs.declared.sent.Sent.{Sent}
use Rattle.side_core.specs.Acting.{acts_at, due_at}
use Rattle.side_core.specs.Landing.{MayCompleteIn, CompletesIn}
use Rattle.world_core.proofs.WireEntries.{IsDone}
use Rattle.world_core.proofs.Plain.{twice}

-- a host whose oldest landed post has completed, if there is one, is as it was but for its wire
pub record IsDoneWith (h g : Host) : Type 0 where
  pub wire : wire_at 1 g ≡ with_completed (would_complete (wire_at 1 h)) (wire_at 1 h)
  pub core : g.core ≡ h.core
  pub flows : g.flows.items ≡ h.flows.items

-- what a completion on the one slot leaves
pub done-by : (slot : ℕ) → slot ≡ 1 → (h g : Host) → wire_at slot g ≡ with_completed (would_complete (wire_at slot h)) (wire_at slot h) → g.core ≡ h.core → g.flows.items ≡ h.flows.items → IsDoneWith h g
done-by slot one h g wire core flows = record { wire = subst (λ k. wire_at k g ≡ with_completed (would_complete (wire_at k h)) (wire_at k h)) one wire; core = core; flows = flows }

-- a completion brings no bytes into a stream
not-written : (payload : List ℕ) (y x : Side) (s : ℕ) (reply : Reply) (past : List Entry) → written payload y s (Complete 1 x) reply past ≡ []
not-written payload A x s reply past = refl
not-written payload B x s reply past = refl

-- both hosts, whoever the actor was
module _ (setup : Setup) (payload : List ℕ) (past : List Entry) (heard : ℕ) (x : Side) (h k : Host) (before : AreHostsAfter setup payload past heard x h k) (few : length past < 2 ^ 18) (actor : ℕ) where
  abbrev Now : Entry
  Now = entry_of setup payload past heard actor (Complete 1 x)

  abbrev Heard : ℕ
  Heard = heard + handed (told setup payload past (Complete 1 x))

  -- what becomes of the manager, with the buffer of before and with that of now
  abbrev pub Own : Manager Half
  Own = manager_of setup payload (buffer_of setup payload x 1 past ∷ []) x (entry_of setup payload past heard actor (Complete 1 x) ∷ past)

  abbrev pub Then : Manager Half
  Then = manager_of setup payload (buffer_of setup payload x 1 (entry_of setup payload past heard actor (Complete 1 x) ∷ past) ∷ []) x (entry_of setup payload past heard actor (Complete 1 x) ∷ past)

  play : IsPlayed setup payload (entry_of setup payload past heard actor (Complete 1 x) ∷ past) (heard + handed (told setup payload past (Complete 1 x)))
  play = played-now setup payload before.set past heard before.played (Complete 1 x) refl actor

  lent-after : HasLendings setup payload (entry_of setup payload past heard actor (Complete 1 x) ∷ past)
  lent-after = let set = before.set in has-lendings setup set.one payload (entry_of setup payload past heard actor (Complete 1 x) ∷ past) (heard + handed (told setup payload past (Complete 1 x))) play

  none-lands : (y : Side) → landing_now the_link y (entry_of setup payload past heard actor (Complete 1 x)) past ≡ 0
  none-lands y = if-none past

  -- the manager that stands for what becomes of the old one
  pub stands-then : (g : Host) (m : Manager Half) → Own ≡ m → Represents g.core m → Represents g.core Then
  stands-then g m is stands = stands-on setup payload past Now x g.core m (none-lands (other x)) is stands

  -- the peer's host stays
  their-host : manager_of setup payload (buffer_of setup payload (other x) 1 past ∷ []) (other x) (Now ∷ past) ≡ manager_of setup payload (buffer_of setup payload (other x) 1 past ∷ []) (other x) past → IsHostAfter setup payload (other x) (Now ∷ past) k
  their-host kept =
      let theirs = before.theirs in
      let set = before.set in record {
        side = stands-on setup payload past Now (other x) k.core (manager_of setup payload (buffer_of setup payload (other x) 1 past ∷ []) (other x) past) (none-lands (other (other x))) kept theirs.side;
        wire = subst (λ (w : Queues). IsWireAfter setup payload (other x) (entry_of setup payload past heard actor (Complete 1 x) ∷ past) w) (complete-else x 1 (wire_at 1 k))
            (wire-theirs setup set.one payload Now past Heard play (other x) (twice x) (wire_at 1 k) theirs.wire);
        sockets = theirs.sockets;
        flows = their-flows setup set.one payload Now past Heard play (other x) (twice x) k.flows.items (λ s. refl) (λ s. refl) theirs.flows;
      }

  -- the host of the side that completes, after it has sent what is posted
  own-host : (g : Host) → Represents g.core Then → (wire_at 1 g) ≡ with_posts (carried_from Then (next_number past) 1 (posted setup payload past heard (Complete 1 x))) (moved x (Complete 1 x) (wire_at 1 h))
      → g.flows.items ≡ puts_all (posted setup payload past heard (Complete 1 x)) h.flows.items → IsHostAfter setup payload x (Now ∷ past) g
  own-host g stands wire_is flows_are =
      let own = before.own in
      let set = before.set in
      let same = none-put (posted setup payload past heard (Complete 1 x)) h.flows.items (no-clc-posts setup set.one payload Now past Heard play refl) in record {
        side = stands;
        wire = subst (λ (w : Queues). IsWireAfter setup payload x (entry_of setup payload past heard actor (Complete 1 x) ∷ past) w) (sym wire_is)
            (wire-own setup set.one payload Now past Heard play lent-after x refl (buffer_of setup payload x 1 (entry_of setup payload past heard actor (Complete 1 x) ∷ past) ∷ []) (wire_at 1 h) own.wire);
        sockets = ap (λ (fs : List Outflow). length fs) (flows_are ∙ same) ∙ own.sockets;
        flows = subst (λ (fs : List Outflow). Flowing payload setup.sockets x (entry_of setup payload past heard actor (Complete 1 x) ∷ past) fs) (sym flows_are)
            (own-flows setup set.one payload Now past Heard play h.flows.items own.sockets own.flows (λ s. not-written payload x x s (completed_told (completing 1 x past)) past));
      }

  pub both-hosts : (g : Host) → manager_of setup payload (buffer_of setup payload (other x) 1 past ∷ []) (other x) (Now ∷ past) ≡ manager_of setup payload (buffer_of setup payload (other x) 1 past ∷ []) (other x) past
      → Represents g.core Then → (wire_at 1 g) ≡ with_posts (carried_from Then (next_number past) 1 (posted setup payload past heard (Complete 1 x))) (moved x (Complete 1 x) (wire_at 1 h))
      → g.flows.items ≡ puts_all (posted setup payload past heard (Complete 1 x)) h.flows.items → AreHostsAfter setup payload (Now ∷ past) Heard x g k
  both-hosts g kept stands wire_is flows_are = hosts-after setup payload before.set past heard before.played (Complete 1 x) refl actor few x g k (own-host g stands wire_is flows_are) (their-host kept)

-- a played completion
module _ (at : Moment) (x : Side) (h k : Host) (hosts : AreHosts at x h k) (few : length at.history.now < 2 ^ 18) where
  abbrev S : Setup
  S = at.setup.now

  abbrev P : List ℕ
  P = at.payload.now

  abbrev Past : List Entry
  Past = past_of at

  abbrev Posts : List Post
  Posts = posted at.setup.now at.payload.now (past_of at) at.heard (Complete 1 x)

  abbrev OwnRegions : List Buffer
  OwnRegions = buffer_of at.setup.now at.payload.now x 1 (past_of at) ∷ []

  abbrev TheirRegions : List Buffer
  TheirRegions = buffer_of at.setup.now at.payload.now (other x) 1 (past_of at) ∷ []

  abbrev After : ℕ → Entry
  After actor = entry_of at.setup.now at.payload.now (past_of at) at.heard actor (Complete 1 x)

  pub few-before : length (past_of at) < 2 ^ 18
  few-before = subst (λ n. n < 2 ^ 18) (sym (length-reverse at.history.now)) few

  pub lent-now : HasLendings at.setup.now at.payload.now (past_of at)
  lent-now = let set = hosts.set in has-lendings S set.one P Past at.heard hosts.played

  -- both hosts, by what becomes of the acting one
  pub is-played : (g : Host) (reply : Reply) (posts : List Post) (m : Manager Half) → reply ≡ completed_told (completing 1 x Past) → posts ≡ Posts
      → ((actor : ℕ) → manager_of S P TheirRegions (other x) (After actor ∷ Past) ≡ manager_of S P TheirRegions (other x) Past)
      → ((actor : ℕ) → manager_of S P OwnRegions x (After actor ∷ Past) ≡ m) → Represents g.core m
      → ((v : Manager Half) → Represents g.core v → (wire_at 1 g) ≡ with_posts (carried_from v (next_number Past) 1 Posts) (moved x (Complete 1 x) (wire_at 1 h)))
      → g.flows.items ≡ puts_all Posts h.flows.items → IsPlayedBy at (Complete 1 x) reply posts x g k
  is-played g reply posts m reply_now posts_now kept is stands wire_is flows_are = record {
    reply_is = reply_now;
    posts_are = posts_now;
    after = λ actor.
        let stood : Represents g.core (Then S P Past at.heard x h k hosts few-before actor) = stands-then S P Past at.heard x h k hosts few-before actor g m (is actor) stands in
        both-hosts S P Past at.heard x h k hosts few-before actor g (kept actor) stood (wire_is (Then S P Past at.heard x h k hosts few-before actor) stood) flows_are;
  }

  -- nothing is posted, and the managers stay
  pub nothing-else : (g : Host) (reply : Reply) (posts : List Post) → reply ≡ completed_told (completing 1 x Past) → posts ≡ []
      → ((regions : List Buffer) (actor : ℕ) → IsNothing S P regions (After actor) Past) → IsDoneWith h g → IsPlayedBy at (Complete 1 x) reply posts x g k
  nothing-else g reply posts reply_now posts_now none left =
      let own = hosts.own in
      let first = none OwnRegions 0 in
      let empty : Posts ≡ [] = first.posts in
      is-played g reply posts (manager_of S P OwnRegions x Past) reply_now (posts_now ∙ sym empty) (λ actor. let q = none TheirRegions actor in q.kept (other x)) (λ actor. let q = none OwnRegions actor in q.kept x) (subst (λ (v : Manager Kept). Represents v (manager_of S P OwnRegions x Past)) (sym left.core) own.side)
      (λ v stands. left.wire ∙ (sym (complete-own x 1 (wire_at 1 h)) ∙ (sym (unposted (moved x (Complete 1 x) (wire_at 1 h))) ∙ ap (λ (ps : List Post). with_posts (carried_from v (next_number Past) 1 ps) (moved x (Complete 1 x) (wire_at 1 h))) (sym empty))))
      (left.flows ∙ ap (λ (ps : List Post). puts_all ps h.flows.items) (sym empty))

  -- nothing completes
  pub idle-completes : (g : Host) (posts : List Post) → would_complete (wire_at 1 h) ≡ None → posts ≡ [] → IsDoneWith h g → IsPlayedBy at (Complete 1 x) Idle posts x g k
  idle-completes g posts none posts_now left =
      let set = hosts.set in
      let own = hosts.own in
      let nothing = no-completing S P x Past (wire_at 1 h) own.wire set.one at.heard hosts.played none in
      nothing-else g Idle posts (sym (ap (λ o. completed_told o) nothing)) posts_now (λ regions actor. completes-nothing S set.one P Past at.heard hosts.played lent-now regions x actor nothing) left

-- a post has just completed
module _ (at : Moment) (x : Side) (c : InFlight) (h k : Host) (done : HasCompleted at x c h k) (few : length at.history.now < 2 ^ 18) where
  abbrev Before : Host
  Before = done.was

  told-now : Completed c.at ≡ completed_told (completing 1 x (past_of at))
  told-now =
      let hosts = done.hosts in
      let set = hosts.set in
      let own = hosts.own in
      sym (ap (λ o. completed_told o) (completing-is at.setup.now at.payload.now x (past_of at) (wire_at 1 done.was) own.wire c set.one at.heard hosts.played done.first))

  left : IsDoneWith done.was h
  left = record { wire = done.wire ∙ ap (λ o. with_completed o (wire_at 1 done.was)) (sym done.first); core = done.core; flows = done.flows }

  -- it is no CDC message: then it is a write, of which nothing is made known
  pub write-completes : (posts : List Post) → ((from : Side) (link : LinkId) (m : CdcMessage) → c.post ≡ Cdc from link m → ⊥) → posts ≡ [] → IsPlayedBy at (Complete 1 x) (Completed c.at) posts x h k
  write-completes posts not none = by c.post refl
    where
      by : (post : Post) → c.post ≡ post → IsPlayedBy at (Complete 1 x) (Completed c.at) posts x h k
      by (Cdc from link m) e = absurd (not from link m e)
      by (Llc from link m) e =
          let hosts = done.hosts in
          let own = hosts.own in
          absurd (true≢false (sym (completes-late at.setup.now at.payload.now x (past_of at) (wire_at 1 done.was) own.wire c done.first) ∙ ap (λ p. completes_later p) e))
      by (Clc from s link m) e =
          let hosts = done.hosts in
          let own = hosts.own in
          let next = next-completes at.setup.now at.payload.now x (past_of at) (wire_at 1 done.was) own.wire c done.first in
          absurd (never-clc x c next.there from s link m e)
      by (Write from link key address len) e =
          let hosts = done.hosts in
          let set = hosts.set in
          let own = hosts.own in
          let next = next-completes at.setup.now at.payload.now x (past_of at) (wire_at 1 done.was) own.wire c done.first in
          let is = completing-is at.setup.now at.payload.now x (past_of at) (wire_at 1 done.was) own.wire c set.one at.heard hosts.played done.first in
          nothing-else at x Before k hosts few h (Completed c.at) posts told-now none
          (λ regions actor. completes-write at.setup.now set.one at.payload.now (past_of at) at.heard hosts.played (lent-now at x Before k hosts few) regions x actor (placed c) is from link key address len
          (next.stands ∙ ap (λ p. Some p) e)) left

-- what is known of a CDC message that completes
pub record IsMessageDone (at : Moment) (x : Side) (c : InFlight) (m : CdcMessage) (v : Manager Kept) : Type 0 where
  pub s : ℕ
  pub sent : Sent
  pub may : MayCompleteIn m c.plain v
  pub completes : CompletesIn s m c.plain sent v (manager_of at.setup.now at.payload.now (buffer_of at.setup.now at.payload.now x 1 (past_of at) ∷ []) x (past_of at))
  pub done : (regions : List Buffer) (actor : ℕ) → IsDone at.setup.now at.payload.now regions x s sent (entry_of at.setup.now at.payload.now (past_of at) at.heard actor (Complete 1 x)) (past_of at)

module _ (at : Moment) (x : Side) (c : InFlight) (h k : Host) (completed : HasCompleted at x c h k) (few : length at.history.now < 2 ^ 18) (from : Side) (link : LinkId) (m : CdcMessage) (is_cdc : c.post ≡ Cdc from link m) where
  own-stands : Represents h.core (manager_of at.setup.now at.payload.now (buffer_of at.setup.now at.payload.now x 1 (past_of at) ∷ []) x (past_of at))
  own-stands =
      let hosts = completed.hosts in
      let own = hosts.own in
      subst (λ (v : Manager Kept). Represents v (manager_of at.setup.now at.payload.now (buffer_of at.setup.now at.payload.now x 1 (past_of at) ∷ []) x (past_of at))) (sym completed.core) own.side

  pub message-done : IsMessageDone at x c m h.core
  message-done =
      let hosts = completed.hosts in
      let own = hosts.own in
      let set = hosts.set in
      let lendings = lent-now at x completed.was k hosts few in
      let next = next-completes at.setup.now at.payload.now x (past_of at) (wire_at 1 completed.was) own.wire c completed.first in
      let is = completing-is at.setup.now at.payload.now x (past_of at) (wire_at 1 completed.was) own.wire c set.one at.heard hosts.played completed.first in
      let d = message-completing at.setup.now at.payload.now set (past_of at) at.heard hosts.played x hosts.few lendings (buffer_of at.setup.now at.payload.now x 1 (past_of at) ∷ []) h.core own-stands
      (wire_at 1 completed.was) own.wire c next.rest from link m next.carried_is is_cdc in
      record {
        s = d.s;
        sent = d.sent;
        may = d.may;
        completes = d.completes;
        done = λ regions actor. completes-message at.setup.now set.one at.payload.now (past_of at) at.heard hosts.played lendings regions x actor (placed c) is d.s d.sent d.message d.first;
      }

  -- what its end makes of that, and posts
  module _ (d : IsMessageDone at x c m h.core) (v : Manager Kept) (old posts : List Post) (none : old ≡ [])
      (side : (n : Manager Half) (s : ℕ) (sent : Sent) → Represents h.core n → CompletesIn s m c.plain sent h.core n → Represents v (acts_at s (completes (Some sent)) n))
      (due : (n : Manager Half) (s : ℕ) (sent : Sent) → Represents h.core n → CompletesIn s m c.plain sent h.core n → posts ≡ old ++ due_at s (completes (Some sent)) n) where
    abbrev Was : Manager Half
    Was = manager_of at.setup.now at.payload.now (buffer_of at.setup.now at.payload.now x 1 (past_of at) ∷ []) x (past_of at)

    abbrev First : Host
    First = completed.was

    posts-now : posts ≡ posted at.setup.now at.payload.now (past_of at) at.heard (Complete 1 x)
    posts-now =
        let hosts = completed.hosts in
        let own = hosts.own in
        let q = d.done (buffer_of at.setup.now at.payload.now x 1 (past_of at) ∷ []) 0 in
        due Was d.s d.sent own-stands d.completes ∙ (ap (λ (ps : List Post). ps ++ due_at d.s (completes (Some d.sent)) Was) none ∙ sym q.posts)

    acted : Represents v (acts_at d.s (completes (Some d.sent)) Was)
    acted = side Was d.s d.sent own-stands d.completes

    left-wire : (wire_at 1 h) ≡ moved x (Complete 1 x) (wire_at 1 completed.was)
    left-wire = completed.wire ∙ (ap (λ o. with_completed o (wire_at 1 completed.was)) (sym completed.first) ∙ sym (complete-own x 1 (wire_at 1 completed.was)))

    pub may-be-sent : MaySendAll (length h.flows.items) v posts
    may-be-sent =
        let hosts = completed.hosts in
        let own = hosts.own in
        let set = hosts.set in
        let q = d.done (buffer_of at.setup.now at.payload.now x 1 (past_of at) ∷ []) 0 in
        let e : Entry = entry_of at.setup.now at.payload.now (past_of at) at.heard 0 (Complete 1 x) in
        let n : ℕ = at.heard + handed (told at.setup.now at.payload.now (past_of at) (Complete 1 x)) in
        let p = play at.setup.now at.payload.now (past_of at) at.heard x First k hosts (few-before at x First k hosts few) 0 in
        let lendings = lent-after at.setup.now at.payload.now (past_of at) at.heard x First k hosts (few-before at x First k hosts few) 0 in
        subst (λ n. MaySendAll n v posts) (sym (ap (λ (fs : List Outflow). length fs) completed.flows ∙ own.sockets)) (subst (λ (ps : List Post). MaySendAll at.setup.now.sockets v ps) (sym posts-now)
        (data-may-go at.setup.now.sockets v (posted at.setup.now at.payload.now (past_of at) at.heard (Complete 1 x))
        (each-aimed at.setup.now set.one at.payload.now e (past_of at) n p lendings x refl (buffer_of at.setup.now at.payload.now x 1 (past_of at) ∷ []) v (subst (λ (m : Manager Half). Represents v m) (sym q.own) acted))
        (no-clc-posts at.setup.now set.one at.payload.now e (past_of at) n p refl) x (let a = posts-from at.setup.now set.one at.payload.now e (past_of at) n p in a.from)))

    pub has-room : length (filter goes_on_wire posts) ≤ room_of (wire_at 1 h)
    has-room =
        let hosts = completed.hosts in
        let own = hosts.own in
        let set = hosts.set in
        subst (λ (ps : List Post). length (filter goes_on_wire ps) ≤ room_of (wire_at 1 h)) (sym posts-now)
        (subst (λ (w : Queues). length (filter goes_on_wire (posted at.setup.now at.payload.now (past_of at) at.heard (Complete 1 x))) ≤ room_of w) (sym left-wire)
        (room-own at.setup.now set.one at.payload.now (entry_of at.setup.now at.payload.now (past_of at) at.heard 0 (Complete 1 x)) (past_of at) (at.heard + handed (told at.setup.now at.payload.now (past_of at) (Complete 1 x)))
        (play at.setup.now at.payload.now (past_of at) at.heard x First k hosts (few-before at x First k hosts few) 0) x refl (wire_at 1 completed.was) own.wire))

    pub message-completes : (g : Host) (entry : ℕ) → entry ≡ length at.history.now + 1 → g.core ≡ v → ((n : Manager Half) → Represents v n → (wire_at 1 g) ≡ with_posts (carried_from n entry 1 posts) (wire_at 1 h))
        → g.flows.items ≡ puts_all posts h.flows.items → IsPlayedBy at (Complete 1 x) (Completed c.at) posts x g k
    message-completes g entry number core_is wire_is flows_are =
        let hosts = completed.hosts in
        let next : entry ≡ next_number (past_of at) = number ∙ ap (λ n. n + 1) (sym (length-reverse at.history.now)) in
        is-played at x First k hosts few g (Completed c.at) posts (acts_at d.s (completes (Some d.sent)) Was) (told-now at x c h k completed few) posts-now
        (λ actor. let q = d.done (buffer_of at.setup.now at.payload.now (other x) 1 (past_of at) ∷ []) actor in q.theirs)
        (λ actor. let q = d.done (buffer_of at.setup.now at.payload.now x 1 (past_of at) ∷ []) actor in q.own)
        (subst (λ u. Represents u (acts_at d.s (completes (Some d.sent)) Was)) (sym core_is) acted)
        (λ n stands.
        wire_is n (subst (λ u. Represents u n) core_is stands)
        ∙ (ap (λ i. with_posts (carried_from n i 1 posts) (wire_at 1 h)) next
        ∙ (ap (λ (ps : List Post). with_posts (carried_from n (next_number (past_of at)) 1 ps) (wire_at 1 h)) posts-now
        ∙ ap (λ (w : Queues). with_posts (carried_from n (next_number (past_of at)) 1 (posted at.setup.now at.payload.now (past_of at) at.heard (Complete 1 x))) w) left-wire)))
        (flows_are ∙ (ap (λ (ps : List Post). puts_all ps h.flows.items) posts-now ∙ ap (λ (fs : List Outflow). puts_all (posted at.setup.now at.payload.now (past_of at) at.heard (Complete 1 x)) fs) completed.flows))
