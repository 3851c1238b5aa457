-- What both hosts stand for after an entry that moves nothing on the link: the acting one has sent the entry's posts, and its peer none.
use Rattle.std.proofs.Common.{◌≡◌, ◌∙◌, ℕ, ◌+◌, ◌<◌, ◌≤◌, ◌^◌, List, [], ◌∷◌, length, filter, refl, ap, sym, subst, arith}
use Rattle.smc_num.specs.declared.Side.{Side}
use Rattle.smc_num.specs.Names.{other}
use Rattle.rmb_region.specs.Regions.{Buffer}
use Rattle.pipe_model.specs.declared.setup.Setup.{Setup}
use Rattle.pipe_model.specs.declared.entry.Entry.{Entry}
use Rattle.pipe_model.specs.declared.event.Event.{Event}
use Rattle.pipe_model.specs.declared.post.Post.{Post}
use Rattle.pipe_model.specs.declared.reply.Reply.{Reply}
use Rattle.pipe_model.specs.History.{next_number}
use Rattle.pipe_model.specs.Ends.{Half}
use Rattle.pipe_model.specs.Fallback.{written}
use Rattle.pipe_model.specs.Replies.{told}
use Rattle.pipe_model.specs.Lawful.{reply_of, posted}
use Rattle.conn_end.specs.Kept.{Kept}
use Rattle.rc_link.specs.Wire.{Queues, room_of}
use Rattle.side_core.specs.Manager.{Manager, Represents}
use Rattle.world_core.specs.declared.host.Host.{Host}
use Rattle.world_core.specs.OneLink.{the_link}
use Rattle.pipe_model.specs.Fits.{Fits}
use Rattle.world_core.specs.Played.{handed}
use Rattle.world_core.specs.WireSteps.{landing_now}
use Rattle.world_core.specs.Landed.{buffer_of}
use Rattle.world_core.specs.Managers.{manager_of, hand_of}
use Rattle.world_core.proofs.Tables.{sockets-long}
use Rattle.world_core.specs.Steps.{entry_of}
use Rattle.world_core.specs.Sending.{acting_side, moved, carried_from, goes_on_wire, puts_all, MaySendAll}
use Rattle.world_core.specs.Hosts.{AreHostsAfter, IsHostAfter, IsPlayedBy, past_of, with_posts, wire_at}
use Rattle.world_core.specs.declared.moment.Moment.{Moment}
use Rattle.std.proofs.lemmas.List.{length-reverse}
use Rattle.world_core.proofs.QuietEvents.{entry-of}
use Rattle.world_core.proofs.HostsAfter.{unposted, stands-on, may-after, room-after, streams-after, sent-after, kept-after}
use Rattle.world_core.proofs.StreamsAfter.{Flowing}
use Rattle.world_core.proofs.Plain.{twice}

module _ (setup : Setup) (payload : List ℕ) (past : List Entry) (heard : ℕ) (event : Event) (h k : Host) (before : AreHostsAfter setup payload past heard (acting_side event) h k) (few : length past < 2 ^ 18)
    (built : Fits setup (length payload) event) (lands : (y : Side) (reply : Reply) (posts : List Post) (actor : ℕ) → landing_now the_link y (entry-of actor event reply posts) past ≡ 0)
    (unmoved : (y : Side) (w : Queues) → moved y event w ≡ w) (silent : (s : ℕ) (reply : Reply) → written payload (acting_side event) s event reply past ≡ []) (actor : ℕ) where
  stands-then : (y : Side) (v : Manager Kept) → Represents v (manager_of setup payload (buffer_of setup payload y 1 past ∷ []) y (entry_of setup payload past heard actor event ∷ past))
      → Represents v (manager_of setup payload (buffer_of setup payload y 1 (entry_of setup payload past heard actor event ∷ past) ∷ []) y (entry_of setup payload past heard actor event ∷ past))
  stands-then y v st =
      stands-on setup payload past (entry_of setup payload past heard actor event) y v (manager_of setup payload (buffer_of setup payload y 1 past ∷ []) y (entry_of setup payload past heard actor event ∷ past))
      (lands (other y) (reply_of heard (told setup payload past event)) (posted setup payload past heard event) actor) refl st

  -- that what is posted may be sent
  pub may-go : (v : Manager Kept) → Represents v (manager_of setup payload (buffer_of setup payload (acting_side event) 1 past ∷ []) (acting_side event) (entry_of setup payload past heard actor event ∷ past))
      → (posts : List Post) → posts ≡ posted setup payload past heard event → MaySendAll (length h.flows.items) v posts × (length (filter goes_on_wire posts) ≤ room_of (wire_at 1 h))
  may-go v st posts is =
      let own = before.own in (
        may-after setup payload before.set past heard before.played event built actor few (buffer_of setup payload (acting_side event) 1 past ∷ []) v st posts is (length h.flows.items) own.sockets,
        subst (λ w. length (filter goes_on_wire posts) ≤ room_of w) (unmoved (acting_side event) (wire_at 1 h)) (room-after setup payload before.set past heard before.played event built actor (wire_at 1 h) own.wire posts is),
      )

  -- the host that has sent what is posted
  pub own-sent : (g : Host) → Represents g.core (manager_of setup payload (buffer_of setup payload (acting_side event) 1 past ∷ []) (acting_side event) (entry_of setup payload past heard actor event ∷ past))
      → (posts : List Post) → posts ≡ posted setup payload past heard event → (number : ℕ) → number ≡ next_number past
      → ((m : Manager Half) → Represents g.core m → (wire_at 1 g) ≡ with_posts (carried_from m number 1 posts) (wire_at 1 h)) → g.flows.items ≡ puts_all posts h.flows.items
      → IsHostAfter setup payload (acting_side event) (entry_of setup payload past heard actor event ∷ past) g
  own-sent g st posts is number n wire flows =
      let own = before.own in
      let m = manager_of setup payload (buffer_of setup payload (acting_side event) 1 past ∷ []) (acting_side event) (entry_of setup payload past heard actor event ∷ past) in
      let put = streams-after setup payload before.set past heard before.played event built actor h own (λ s. silent s (reply_of heard (told setup payload past event))) g.flows.items (flows ∙ ap (λ ps. puts_all ps h.flows.items) is) in
      sent-after setup payload before.set past heard before.played event built actor h g own (stands-then (acting_side event) g.core st) (buffer_of setup payload (acting_side event) 1 past ∷ []) m refl posts is
      (wire_at 1 h) (sym (unmoved (acting_side event) (wire_at 1 h))) (wire m st ∙ ap (λ i. with_posts (carried_from m i 1 posts) (wire_at 1 h)) n) put.0 put.1

  -- the same where nothing is posted
  pub own-kept : (g : Host) → Represents g.core (manager_of setup payload (buffer_of setup payload (acting_side event) 1 past ∷ []) (acting_side event) (entry_of setup payload past heard actor event ∷ past))
      → posted setup payload past heard event ≡ [] → (wire_at 1 g) ≡ (wire_at 1 h) → g.flows.items ≡ h.flows.items
      → IsHostAfter setup payload (acting_side event) (entry_of setup payload past heard actor event ∷ past) g
  own-kept g st none wire flows = own-sent g st [] (sym none) (next_number past) refl (λ m s. wire ∙ sym (unposted (wire_at 1 h))) flows

  -- its peer
  pub theirs-then : (l : Host) → Represents l.core (manager_of setup payload (buffer_of setup payload (other (acting_side event)) 1 past ∷ []) (other (acting_side event)) (entry_of setup payload past heard actor event ∷ past))
      → (wire_at 1 l) ≡ (wire_at 1 k) → length l.flows.items ≡ setup.sockets → Flowing payload setup.sockets (other (acting_side event)) (entry_of setup payload past heard actor event ∷ past) l.flows.items
      → IsHostAfter setup payload (other (acting_side event)) (entry_of setup payload past heard actor event ∷ past) l
  theirs-then l st wire sockets flows =
      kept-after setup payload before.set past heard before.played event built actor (other (acting_side event)) (twice (acting_side event)) k l before.theirs (stands-then (other (acting_side event)) l.core st)
      (wire ∙ sym (unmoved (other (acting_side event)) (wire_at 1 k))) sockets flows

-- a manager that stands for one of a history has the sockets of the setup
pub stood : (setup : Setup) (payload : List ℕ) (regions : List Buffer) (x : Side) (past : List Entry) (v : Manager Kept) → Represents v (manager_of setup payload regions x past) → (s : ℕ) → s < setup.sockets → s < length v.hands
stood setup payload regions x past v st s known = subst (λ n. s < n) (sym (ap length st.hands ∙ sockets-long (hand_of x past) setup.sockets)) known

-- the entry of an event whose reply is known
pub turned : (setup : Setup) (payload : List ℕ) (past : List Entry) (heard actor : ℕ) (event : Event) (reply : Reply) → reply_of heard (told setup payload past event) ≡ reply
    → entry_of setup payload past heard actor event ≡ entry-of actor event reply (posted setup payload past heard event)
turned setup payload past heard actor event reply is = ap (λ r. entry-of actor event r (posted setup payload past heard event)) is

-- an event is played, over plain values
pub record PlaysBy (setup : Setup) (payload : List ℕ) (past : List Entry) (heard : ℕ) (event : Event) (reply : Reply) (posts : List Post) (x : Side) (mine peers : Host) : Type 0 where
  pub reply_is : reply ≡ reply_of heard (told setup payload past event)
  pub posts_are : posts ≡ posted setup payload past heard event
  pub after : (actor : ℕ) → AreHostsAfter setup payload (entry_of setup payload past heard actor event ∷ past) (heard + handed (told setup payload past event)) x mine peers

-- and at a moment
pub plays-at : (at : Moment) (event : Event) (reply : Reply) (posts : List Post) (x : Side) (g l : Host) → PlaysBy at.setup.now at.payload.now (past_of at) at.heard event reply posts x g l → IsPlayedBy at event reply posts x g l
plays-at at event reply posts x g l p = record { reply_is = p.reply_is; posts_are = p.posts_are; after = p.after }

pub few-past : (at : Moment) → length at.history.now < 2 ^ 18 → length (past_of at) < 2 ^ 18
few-past at few = subst (λ n. n < 2 ^ 18) (sym (length-reverse at.history.now)) few

pub number-past : (at : Moment) → length at.history.now + 1 ≡ next_number (past_of at)
number-past at = ap (λ n. n + 1) (sym (length-reverse at.history.now))

pub few-now : (at : Moment) → length at.history.now < 2 ^ 18 → length (past_of at) ≤ 2 ^ 18
few-now at few = let l = few-past at few in omega (arith, l)
