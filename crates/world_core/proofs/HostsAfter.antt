-- What both hosts stand for after an entry: that of the side that acts has sent the entry's posts, and that of its peer has sent none.
use Rattle.std.proofs.Common.{◌≡◌, ◌∙◌, ℕ, ◌+◌, ◌<◌, ◌≤◌, ◌==◌, ◌^◌, if◌then◌else◌, List, [], ◌∷◌, length, filter, refl, ap, sym, subst, append-nil, arith}
use Rattle.smc_num.specs.declared.Side.{Side}
use Rattle.smc_num.specs.Names.{other}
use Rattle.rmb_region.specs.Regions.{Buffer}
use Rattle.pipe_model.specs.declared.setup.Setup.{Setup}
use Rattle.pipe_model.specs.declared.entry.Entry.{Entry}
use Rattle.pipe_model.specs.declared.event.Event.{Event}
use Rattle.pipe_model.specs.declared.post.Post.{Post}
use Rattle.pipe_model.specs.History.{next_number}
use Rattle.pipe_model.specs.Wires.{if_latest}
use Rattle.pipe_model.specs.Fabric.{is_latest}
use Rattle.pipe_model.specs.Fallback.{written}
use Rattle.pipe_model.specs.Replies.{told}
use Rattle.pipe_model.specs.Lawful.{reply_of, posted}
use Rattle.pipe_model.specs.Ends.{Half}
use Rattle.conn_end.specs.Kept.{Kept}
use Rattle.rc_link.specs.Wire.{Queues, room_of}
use Rattle.side_core.specs.Manager.{Manager, Represents}
use Rattle.world_core.specs.declared.host.Host.{Host}
use Rattle.world_core.specs.declared.host.Outflow.{Outflow}
use Rattle.world_core.specs.OneLink.{the_link}
use Rattle.pipe_model.specs.Fits.{Fits}
use Rattle.world_core.specs.Played.{IsPlayed, handed}
use Rattle.world_core.specs.WireSteps.{landing_now}
use Rattle.world_core.specs.Landed.{buffer_of, peer_buffer, first_lands, waiting_posts}
use Rattle.world_core.specs.Managers.{manager_of, HasLendings}
use Rattle.world_core.specs.Steps.{entry_of}
use Rattle.world_core.specs.Sending.{acting_side, moved, carried_from, goes_on_wire, puts_one, puts_all, MaySendAll}
use Rattle.world_core.specs.Hosts.{IsWorldSet, IsHostAfter, IsWireAfter, AreHostsAfter, with_posts, wire_at}
use Rattle.world_core.proofs.Sends.{same_length}
use Rattle.world_core.proofs.AllLendings.{has-lendings}
use Rattle.world_core.proofs.WiresAfter.{wire-theirs}
use Rattle.world_core.proofs.OwnWires.{wire-own, room-own, may-send}
use Rattle.world_core.proofs.StreamsAfter.{Flowing, own-flows}
use Rattle.world_core.proofs.Plain.{if-same}

-- nothing is nothing, on the latest link or on another one
pub if-none : (past : List Entry) → if_latest the_link past 0 ≡ 0
if-none past = if-same (is_latest the_link past) 0

-- a wire on which nothing is posted
pub unposted : (w : Queues) → with_posts [] w ≡ w
unposted w = ap (λ ws. let v : Queues = record w { waiting = ws } in v) (append-nil w.waiting)

-- posts leave as many streams
same-lengths : (posts : List Post) (flows : List Outflow) → length (puts_all posts flows) ≡ length flows
same-lengths [] flows = refl
same-lengths (post ∷ posts) flows = same-lengths posts (puts_one post flows) ∙ same_length post flows

module _ (setup : Setup) (payload : List ℕ) (past : List Entry) (e : Entry) where
  -- where nothing lands for a side, its RMB stays
  pub buffer-kept : (y : Side) → landing_now the_link (other y) e past ≡ 0 → buffer_of setup payload y 1 (e ∷ past) ≡ buffer_of setup payload y 1 past
  buffer-kept y none =
      ap (λ (n : ℕ). if n == 0 then peer_buffer setup payload (other y) 1 past
      else first_lands setup payload (other y) past (waiting_posts (other y) past) (peer_buffer setup payload (other y) 1 past)) none

  -- so its manager stands for what becomes of the old one
  pub stands-on : (y : Side) (v : Manager Kept) (m : Manager Half) → landing_now the_link (other y) e past ≡ 0
      → manager_of setup payload (buffer_of setup payload y 1 past ∷ []) y (e ∷ past) ≡ m → Represents v m
      → Represents v (manager_of setup payload (buffer_of setup payload y 1 (e ∷ past) ∷ []) y (e ∷ past))
  stands-on y v m none is stands =
      subst (λ (b : Buffer). Represents v (manager_of setup payload (b ∷ []) y (e ∷ past))) (sym (buffer-kept y none)) (subst (λ (k : Manager Half). Represents v k) (sym is) stands)

-- the entry of an event
module _ (setup : Setup) (payload : List ℕ) (set : IsWorldSet setup payload) (past : List Entry) (heard : ℕ) (was : IsPlayed setup payload past heard) (event : Event) (built : Fits setup (length payload) event) (actor : ℕ) where
  abbrev Now : Entry
  Now = entry_of setup payload past heard actor event

  abbrev Heard : ℕ
  Heard = heard + handed (told setup payload past event)

  abbrev Posts : List Post
  Posts = posted setup payload past heard event

  abbrev X : Side
  X = acting_side event

  -- the manager of a side after it
  abbrev Then : Side → Manager Half
  Then y = manager_of setup payload (buffer_of setup payload y 1 (Now ∷ past) ∷ []) y (Now ∷ past)

  pub played-now : IsPlayed setup payload (Now ∷ past) Heard
  played-now = (heard, record { built = built; reply = refl; posts = refl }, refl, was)

  pub lent-now : HasLendings setup payload (Now ∷ past)
  lent-now = has-lendings setup set.one payload (Now ∷ past) Heard played-now

  -- what is posted may be sent
  pub may-after : length past < 2 ^ 18 → (regions : List Buffer) (v : Manager Kept) → Represents v (manager_of setup payload regions X (Now ∷ past)) → (posts : List Post) → posts ≡ Posts
      → (sockets : ℕ) → sockets ≡ setup.sockets → MaySendAll sockets v posts
  may-after few regions v stands posts is sockets same =
      subst (λ n. MaySendAll n v posts) (sym same) (subst (λ (ps : List Post). MaySendAll setup.sockets v ps) (sym is)
      (may-send setup set.one payload Now past Heard played-now lent-now X refl regions (omega (arith, few)) set v stands))

  pub room-after : (w : Queues) → IsWireAfter setup payload X past w → (posts : List Post) → posts ≡ Posts → length (filter goes_on_wire posts) ≤ room_of (moved X event w)
  room-after w wire posts is =
      subst (λ (ps : List Post). length (filter goes_on_wire ps) ≤ room_of (moved X event w)) (sym is) (room-own setup set.one payload Now past Heard played-now X refl w wire)

  -- the streams into which the posts have been put, and no call has written
  pub streams-after : (h : Host) → IsHostAfter setup payload X past h → ((s : ℕ) → written payload X s event (reply_of heard (told setup payload past event)) past ≡ []) → (flows : List Outflow) → flows ≡ puts_all Posts h.flows.items
      → (length flows ≡ setup.sockets) × Flowing payload setup.sockets X (Now ∷ past) flows
  streams-after h own silent flows put = (
    ap (λ (fs : List Outflow). length fs) put ∙ (same-lengths Posts h.flows.items ∙ own.sockets),
    subst (λ (fs : List Outflow). Flowing payload setup.sockets X (Now ∷ past) fs) (sym put) (own-flows setup set.one payload Now past Heard played-now h.flows.items own.sockets own.flows silent),
  )

  -- the host of the side that acts, after it has sent what is posted
  pub sent-after : (h g : Host) → IsHostAfter setup payload X past h → Represents g.core (Then X) → (regions : List Buffer) (m : Manager Half) → manager_of setup payload regions X (Now ∷ past) ≡ m
      → (posts : List Post) → posts ≡ Posts → (w : Queues) → w ≡ moved X event (wire_at 1 h) → (wire_at 1 g) ≡ with_posts (carried_from m (next_number past) 1 posts) w
      → length g.flows.items ≡ setup.sockets → Flowing payload setup.sockets X (Now ∷ past) g.flows.items → IsHostAfter setup payload X (Now ∷ past) g
  sent-after h g own side regions m is posts posts_are w left wire sockets flows =
      let wire-is : with_posts (carried_from (manager_of setup payload regions X (Now ∷ past)) (next_number past) 1 Posts) (moved X event (wire_at 1 h)) ≡ (wire_at 1 g) =
      ap (λ v. with_posts (carried_from (manager_of setup payload regions X (Now ∷ past)) (next_number past) 1 Posts) v) (sym left)
      ∙ (ap (λ ps. with_posts (carried_from (manager_of setup payload regions X (Now ∷ past)) (next_number past) 1 ps) w) (sym posts_are)
      ∙ (ap (λ k. with_posts (carried_from k (next_number past) 1 posts) w) is ∙ sym wire)) in
      record {
        side = side;
        wire = subst (λ v. IsWireAfter setup payload X (Now ∷ past) v) wire-is (wire-own setup set.one payload Now past Heard played-now lent-now X refl regions (wire_at 1 h) own.wire);
        sockets = sockets;
        flows = flows;
      }

  -- that of its peer
  pub kept-after : (y : Side) → acting_side event ≡ other y → (h g : Host) → IsHostAfter setup payload y past h → Represents g.core (Then y) → (wire_at 1 g) ≡ moved y event (wire_at 1 h)
      → length g.flows.items ≡ setup.sockets → Flowing payload setup.sockets y (Now ∷ past) g.flows.items → IsHostAfter setup payload y (Now ∷ past) g
  kept-after y acts h g own side wire sockets flows = record {
    side = side;
    wire = subst (λ v. IsWireAfter setup payload y (Now ∷ past) v) (sym wire) (wire-theirs setup set.one payload Now past Heard played-now y acts (wire_at 1 h) own.wire);
    sockets = sockets;
    flows = flows;
  }

  -- both
  pub hosts-after : length past < 2 ^ 18 → (x : Side) (g l : Host) → IsHostAfter setup payload x (Now ∷ past) g → IsHostAfter setup payload (other x) (Now ∷ past) l → AreHostsAfter setup payload (Now ∷ past) Heard x g l
  hosts-after few x g l own theirs = record { set = set; few = omega (arith, few); played = played-now; own = own; theirs = theirs }
