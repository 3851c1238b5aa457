-- What an event that only calls an end makes of the two hosts: where no end is called, managers and wires stay; else the end acts at its side.
use Rattle.std.proofs.Common.{◌≡◌, ◌∙◌, ℕ, ◌+◌, ◌^◌, ◌<◌, ◌≤◌, false, List, [], ◌∷◌, length, filter, refl, ap, sym, subst}
use Rattle.smc_num.specs.declared.Side.{Side}
use Rattle.smc_num.specs.Names.{other}
use Rattle.rmb_region.specs.Regions.{Buffer}
use Rattle.pipe_model.specs.declared.setup.Setup.{Setup}
use Rattle.pipe_model.specs.declared.event.Event.{Event}
use Rattle.pipe_model.specs.declared.reply.Reply.{Reply}
use Rattle.pipe_model.specs.declared.entry.Entry.{Entry}
use Rattle.pipe_model.specs.declared.post.Post.{Post}
use Rattle.pipe_model.specs.History.{next_number}
use Rattle.pipe_model.specs.Calls.{Call}
use Rattle.pipe_model.specs.Connections.{IsUp}
use Rattle.pipe_model.specs.Ends.{Half}
use Rattle.pipe_model.specs.Fallback.{written, takes_clc, read_out}
use Rattle.pipe_model.specs.Wires.{if_latest, lands_on}
use Rattle.pipe_model.specs.Replies.{told}
use Rattle.conn_end.specs.Kept.{Kept}
use Rattle.rc_link.specs.Wire.{Queues, room_of}
use Rattle.side_core.specs.Records.{conn_at}
use Rattle.side_core.specs.Acting.{IsSoundAt, acts_at, call_of, due_at}
use Rattle.side_core.specs.Manager.{Manager, Represents, state_at}
use Rattle.world_core.specs.declared.host.Host.{Host}
use Rattle.world_core.specs.OneLink.{the_link}
use Rattle.pipe_model.specs.Fits.{Fits}
use Rattle.world_core.specs.Played.{IsPlayed, handed}
use Rattle.world_core.specs.Steps.{entry_of}
use Rattle.world_core.specs.Landed.{buffer_of}
use Rattle.world_core.specs.WireSteps.{landing_now}
use Rattle.world_core.specs.Managers.{manager_of}
use Rattle.world_core.specs.Sending.{acting_side, moved, goes_on_wire, puts_all, MaySendAll}
use Rattle.world_core.specs.Hosts.{AreHostsAfter, wire_at}
use Rattle.world_core.specs.Calling.{MayCall, IsCalledAt}
use Rattle.world_core.proofs.HostsAfter.{if-none, unposted, stands-on, played-now, may-after, room-after, streams-after, sent-after, kept-after, hosts-after}
use Rattle.world_core.proofs.CallEntries.{IsCalled, IsNothing}
use Rattle.world_core.proofs.SoundEnds.{sound-at}
use Rattle.world_core.proofs.StreamsAfter.{Flowing, their-flows}
use Rattle.world_core.proofs.Plain.{twice}

-- what is asked of such an event: nothing lands with it, and no wire moves
pub record IsCall (event : Event) : Type 0 where
  pub lands_none : (y : Side) (reply : Reply) → lands_on y 1 event reply ≡ 0
  pub moves_none : (y : Side) (w : Queues) → moved y event w ≡ w

module _ (setup : Setup) (payload : List ℕ) (past : List Entry) (heard : ℕ) (event : Event) (own theirs : Host)
    (hosts : AreHostsAfter setup payload past heard (acting_side event) own theirs) (few : length past < 2 ^ 18) (built : Fits setup (length payload) event) where
  abbrev pub X : Side
  X = acting_side event

  abbrev pub Now : ℕ
  Now = heard + handed (told setup payload past event)

  abbrev pub entry_by : ℕ → Entry
  entry_by actor = entry_of setup payload past heard actor event

  pub plays : (actor : ℕ) → IsPlayed setup payload (entry_by actor ∷ past) Now
  plays actor = played-now setup payload hosts.set past heard hosts.played event built actor

  -- the plain manager of a side
  abbrev pub plain_at : Side → Manager Half
  plain_at y = manager_of setup payload (buffer_of setup payload y 1 past ∷ []) y past

  module _ (is : IsCall event) (actor : ℕ) where
    abbrev E : Entry
    E = entry_by actor

    none-lands : (y : Side) → landing_now the_link y E past ≡ 0
    none-lands y = ap (λ n. if_latest the_link past n) (is.lands_none y E.reply) ∙ if-none past

    -- no end is called
    pub idle-after : ((regions : List Buffer) → IsNothing setup payload regions E past) → (mine peers : Host) → mine.core ≡ own.core → (wire_at 1 mine) ≡ (wire_at 1 own) → peers.core ≡ theirs.core → (wire_at 1 peers) ≡ (wire_at 1 theirs)
        → length mine.flows.items ≡ setup.sockets → length peers.flows.items ≡ setup.sockets → Flowing payload setup.sockets X (E ∷ past) mine.flows.items → Flowing payload setup.sockets (other X) (E ∷ past) peers.flows.items
        → AreHostsAfter setup payload (E ∷ past) Now X mine peers
    idle-after nothing mine peers mc mw pc pw ml pl mf pf =
        let o = hosts.own in
        let t = hosts.theirs in
        let n = nothing [] in
        let mine-stays = let k = nothing (buffer_of setup payload X 1 past ∷ []) in k.kept X in
        let peer-stays = let k = nothing (buffer_of setup payload (other X) 1 past ∷ []) in k.kept (other X) in
        hosts-after setup payload hosts.set past heard hosts.played event built actor few X mine peers
        (sent-after setup payload hosts.set past heard hosts.played event built actor own mine o
        (stands-on setup payload past E X mine.core (plain_at X) (none-lands (other X)) mine-stays (subst (λ (v : Manager Kept). Represents v (plain_at X)) (sym mc) o.side))
        [] (manager_of setup payload [] X (E ∷ past)) refl [] (sym n.posts) (wire_at 1 own) (sym (is.moves_none X (wire_at 1 own))) (mw ∙ sym (unposted (wire_at 1 own))) ml mf)
        (kept-after setup payload hosts.set past heard hosts.played event built actor (other X) (twice X) theirs peers t
        (stands-on setup payload past E (other X) peers.core (plain_at (other X)) (none-lands (other (other X))) peer-stays (subst (λ (v : Manager Kept). Represents v (plain_at (other X))) (sym pc) t.side))
        (pw ∙ sym (is.moves_none (other X) (wire_at 1 theirs))) pl pf)

    -- streams in which nothing moves
    pub mine-flows : E.posts ≡ [] → ((s : ℕ) → written payload X s E.event E.reply past ≡ []) → Flowing payload setup.sockets X (E ∷ past) own.flows.items
    mine-flows none writes_none =
        let put = streams-after setup payload hosts.set past heard hosts.played event built actor own hosts.own writes_none own.flows.items (sym (ap (λ (ps : List Post). puts_all ps own.flows.items) none)) in put.1

    module _ (takes_none : (s : ℕ) → takes_clc (other X) s E.event E.reply ≡ false) (reads_none : (s : ℕ) → read_out (other X) s E.event E.reply past ≡ 0) where
      pub peer-flows : Flowing payload setup.sockets (other X) (E ∷ past) theirs.flows.items
      peer-flows = let t = hosts.theirs in let set = hosts.set in their-flows setup set.one payload E past Now (plays actor) (other X) (twice X) theirs.flows.items takes_none reads_none t.flows

    module _ (writes_none : (s : ℕ) → written payload X s E.event E.reply past ≡ []) (takes_none : (s : ℕ) → takes_clc (other X) s E.event E.reply ≡ false) (reads_none : (s : ℕ) → read_out (other X) s E.event E.reply past ≡ 0) where
      -- nothing at all is done
      pub stays-after : ((regions : List Buffer) → IsNothing setup payload regions E past) → AreHostsAfter setup payload (E ∷ past) Now X own theirs
      stays-after nothing =
          let o = hosts.own in
          let t = hosts.theirs in
          let n = nothing [] in
          idle-after nothing own theirs refl refl refl refl o.sockets t.sockets (mine-flows n.posts writes_none) (peer-flows takes_none reads_none)

      -- an end is called
      pub called-after : (s : ℕ) (call : Call) → ((regions : List Buffer) → IsCalled setup payload regions X s call E past) → (mine : Host) (posts : List Post) → IsCalledAt s call (next_number past) (plain_at X) own mine posts
          → AreHostsAfter setup payload (E ∷ past) Now X mine theirs
      called-after s call called mine posts c =
          let o = hosts.own in
          let t = hosts.theirs in
          let here = called (buffer_of setup payload X 1 past ∷ []) in
          let peer-stays = let k = called (buffer_of setup payload (other X) 1 past ∷ []) in k.theirs in
          let same : posts ≡ E.posts = c.posts_are ∙ sym here.posts in
          let put = streams-after setup payload hosts.set past heard hosts.played event built actor own o writes_none mine.flows.items (c.flows ∙ ap (λ (ps : List Post). puts_all ps own.flows.items) same) in
          hosts-after setup payload hosts.set past heard hosts.played event built actor few X mine theirs
          (sent-after setup payload hosts.set past heard hosts.played event built actor own mine o
          (stands-on setup payload past E X mine.core (acts_at s (call_of call (plain_at X)) (plain_at X)) (none-lands (other X)) here.own c.side)
          (buffer_of setup payload X 1 past ∷ []) (acts_at s (call_of call (plain_at X)) (plain_at X)) here.own posts same (wire_at 1 own) (sym (is.moves_none X (wire_at 1 own))) c.wire put.0 put.1)
          (kept-after setup payload hosts.set past heard hosts.played event built actor (other X) (twice X) theirs theirs t
          (stands-on setup payload past E (other X) theirs.core (plain_at (other X)) (none-lands (other (other X))) peer-stays t.side)
          (sym (is.moves_none (other X) (wire_at 1 theirs))) t.sockets (peer-flows takes_none reads_none))

    -- what an end that is called so posts may be sent
    module _ (s : ℕ) (call : Call) (called : (regions : List Buffer) → IsCalled setup payload regions X s call E past) where
      pub has-room : length (filter goes_on_wire (due_at s (call_of call (plain_at X)) (plain_at X))) ≤ room_of (wire_at 1 own)
      has-room =
          let o = hosts.own in
          let here = called (buffer_of setup payload X 1 past ∷ []) in
          subst (λ w. length (filter goes_on_wire (due_at s (call_of call (plain_at X)) (plain_at X))) ≤ room_of w) (is.moves_none X (wire_at 1 own))
          (room-after setup payload hosts.set past heard hosts.played event built actor (wire_at 1 own) o.wire (due_at s (call_of call (plain_at X)) (plain_at X)) (sym here.posts))

      pub may-go : (v : Manager Kept) → Represents v (acts_at s (call_of call (plain_at X)) (plain_at X)) → MaySendAll (length own.flows.items) v (due_at s (call_of call (plain_at X)) (plain_at X))
      may-go v stands =
          let o = hosts.own in
          let here = called (buffer_of setup payload X 1 past ∷ []) in
          may-after setup payload hosts.set past heard hosts.played event built actor few (buffer_of setup payload X 1 past ∷ []) v (subst (λ (m : Manager Half). Represents v m) (sym here.own) stands)
          (due_at s (call_of call (plain_at X)) (plain_at X)) (sym here.posts) (length own.flows.items) o.sockets

      pub sound-here : IsSoundAt own.core.records.terms.size (conn_at s own.core.records)
      sound-here = let o = hosts.own in sound-at setup payload hosts.set past heard hosts.played hosts.few X (buffer_of setup payload X 1 past ∷ []) own.core o.side s

      pub may-call : state_at s own.core ≡ IsUp → MayCall s call own
      may-call up = let o = hosts.own in record { up = up; sound = sound-here; plain = plain_at X; stands = o.side; room = has-room; sent = may-go }
