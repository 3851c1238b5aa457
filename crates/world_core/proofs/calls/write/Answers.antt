use Rattle.std.proofs.Common.{◌∙◌, ◌≡◌, ◌+◌, ℕ, List, [], refl, sym, subst, ap, length, false, slice_set}
use Rattle.pipe_model.specs.Calls.{Writes, Plain}
use Rattle.pipe_model.specs.Ends.{Half}
use Rattle.pipe_model.specs.Fallback.{fallen_write}
use Rattle.pipe_model.specs.declared.closing.Phase.TheVariants.{Open}
use Rattle.tcp_pipe.specs.Streams.{free}
use Rattle.side_core.specs.Landing.{told_at as told_by_end}
use Rattle.side_core.specs.Manager.{Manager, Represents}
use Rattle.world_core.specs.Sending.{outflow_at}
use Rattle.world_core.specs.Calling.{MayCall, IsCalledAt}
use Rattle.world_core.specs.Streams.{takes_in}
use Rattle.world_core.specs.declared.host.Host.{Host}
use Rattle.world_core.proofs.WritesAfter.{write-absent, write-waits, write-may, write-up, write-fell}
use Rattle.world_core.proofs.calls.write.Goals as goal

pub write_up-requires-clause-may : goal.write_up-requires-clause-may
write_up-requires-clause-may c =
    let r = c.requires in
    subst (λ (bytes : List ℕ). MayCall c.args.end.s (Writes bytes) c.args.own.now) (sym c.bytes_of-bytes.ensures)
    (write-may c.args.moment c.args.end c.args.at c.args.len c.args.own.now r.hosts.0 r.hosts.1 r.few r.socket r.within (sym c.end_state.ensures ∙ c.in-Up.is))

pub returns-in-Absent : goal.returns-in-Absent
returns-in-Absent c = λ theirs hosts.
    let r = c.requires in
    write-absent c.args.moment c.args.end c.args.at c.args.len c.args.own.now theirs hosts r.few r.socket r.within c.args.posts.now.items r.none (sym c.end_state.ensures ∙ c.in-Absent.is)

pub returns-in-Up : goal.returns-in-Up
returns-in-Up c = λ theirs hosts.
    let r = c.requires in
    write-up c.args.moment c.args.end c.args.at c.args.len c.args.own.now theirs hosts r.few r.socket r.within c.write_up.result c.write_up.new.own c.write_up.new.posts.items (sym c.end_state.ensures ∙ c.in-Up.is)
    (subst (λ (bytes : List ℕ). (m : Manager Half) → Represents c.args.own.now.core m → Plain c.write_up.result ≡ told_by_end c.args.end.s (Writes bytes) [] m) c.bytes_of-bytes.ensures c.write_up.ensures.told)
    (subst (λ (bytes : List ℕ). (m : Manager Half) → Represents c.args.own.now.core m → IsCalledAt c.args.end.s (Writes bytes) (length c.args.moment.history.now + 1) m c.args.own.now c.write_up.new.own c.write_up.new.posts.items) c.bytes_of-bytes.ensures c.write_up.ensures.called)

pub returns-in-FellBack : goal.returns-in-FellBack
returns-in-FellBack c = λ theirs hosts.
    let r = c.requires in
    let mine : Host = record { core = c.args.own.now.core; wires = c.args.own.now.wires; flows = c.write_fallen.new.flows } in
    write-fell c.args.moment c.args.end c.args.at c.args.len c.args.own.now theirs hosts r.few r.socket r.within c.write_fallen.result mine c.args.posts.now.items r.none (sym c.end_state.ensures ∙ c.in-FellBack.is) refl refl
    (c.write_fallen.ensures.told ∙ ap (λ (bytes : List ℕ). fallen_write false (free (outflow_at c.args.end.s c.args.own.now.flows.items).bytes) (length bytes) Open) c.bytes_of-bytes.ensures)
    (c.write_fallen.ensures.flows ∙ ap (λ (bytes : List ℕ). slice_set c.args.own.now.flows.items c.args.end.s (takes_in bytes (outflow_at c.args.end.s c.args.own.now.flows.items))) c.bytes_of-bytes.ensures)

pub returns-in_default : goal.returns-in_default
returns-in_default c = λ theirs hosts.
    let r = c.requires in
    write-waits c.args.moment c.args.end c.args.at c.args.len c.args.own.now theirs hosts r.few r.socket r.within c.args.posts.now.items r.none
    (λ e. c.in_default.not-Absent (c.end_state.ensures ∙ e)) (λ e. c.in_default.not-Up (c.end_state.ensures ∙ e)) (λ e. c.in_default.not-FellBack (c.end_state.ensures ∙ e))
