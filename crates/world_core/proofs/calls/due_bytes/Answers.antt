use Rattle.std.proofs.Common.{◌∙◌, min, ap, sym}
use Rattle.world_core.specs.Sending.{outflow_at}
use Rattle.world_core.specs.Played.{handed}
use Rattle.world_core.proofs.ReadTold.{handed-count, taken-count, answers-here, told-fell, fallen-count, none-told}
use Rattle.world_core.proofs.calls.due_bytes.Goals as goal

pub returns-in-Up : goal.returns-in-Up
returns-in-Up c = λ k.
    let seen = sym c.end_state.ensures ∙ c.in-Up.is in
    c.count_of.ensures
    ∙ (taken-count k.setup k.payload k.past k.heard c.args.end c.args.len c.args.own.now c.args.theirs.now k.hosts k.known seen c.would_read.result
    (answers-here k.setup k.payload k.past k.heard c.args.end c.args.len c.args.own.now c.args.theirs.now k.hosts k.known seen c.args.len c.would_read.result c.would_read.ensures)
    ∙ sym (handed-count k.setup k.payload k.past k.heard c.args.end c.args.len c.args.own.now c.args.theirs.now k.hosts k.known seen))

pub returns-in-FellBack : goal.returns-in-FellBack
returns-in-FellBack c = λ k.
    let seen = sym c.end_state.ensures ∙ c.in-FellBack.is in
    c.min.ensures
    ∙ (ap (λ n. min n c.args.len) c.held.ensures
    ∙ (fallen-count (outflow_at c.args.end.s c.args.theirs.now.flows.items).bytes.held c.args.len
    ∙ sym (ap (λ t. handed t) (told-fell k.setup k.payload k.past k.heard c.args.end c.args.len c.args.own.now c.args.theirs.now k.hosts k.known seen))))

pub returns-in_default : goal.returns-in_default
returns-in_default c = λ k.
    none-told k.setup k.payload k.past k.heard c.args.end c.args.len c.args.own.now c.args.theirs.now k.hosts k.known
    (λ e. c.in_default.not-Up (c.end_state.ensures ∙ e)) (λ e. c.in_default.not-FellBack (c.end_state.ensures ∙ e))
