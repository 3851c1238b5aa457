use Rattle.std.proofs.Common.{◌≡◌, ◌∙◌, true, not, sym, ap, get_or, arith}
use Rattle.element_ledger.specs.Lendings.{is_lent}
use Rattle.element_ledger.proofs.Counts.{few_pass, passes_one}
use Rattle.element_ledger.proofs.rows.count_free.Goals as goal

pub overflow_add-free : goal.overflow_add-free
overflow_add-free c =
    let rows = c.args.rows.now in
    let i = c.loop-row.row-index in
    let x = c.row-item.result in
    let free_one : not (is_lent (get_or rows i x)) ≡ true = ap (λ r. not (is_lent r)) (sym c.row-item.is) ∙ ap not (sym c.is_lent.ensures ∙ c.if-not-is_lent.true) in
    let one = passes_one (λ r. not (is_lent r)) rows i x c.loop-row-test.true free_one in
    let few = few_pass (λ r. not (is_lent r)) rows in
    let whole = c.loop-row.invariant in
    let bound = c.requires in
    omega (arith, one, few, whole, bound)
