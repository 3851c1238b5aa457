use Rattle.std.proofs.Common.{◌∙◌, ◌<◌, length, set, sym, ap, subst}
use Rattle.std.proofs.lemmas.List.Edits.{map_over_more}
use Rattle.element_ledger.specs.Lendings.{freed}
use Rattle.element_ledger.proofs.rows.free_all.Goals as goal

pub loop-row-preserved : goal.loop-row-preserved
loop-row-preserved c =
    let xs = c.args.rows.now.items in
    let ys = c.loop-row.row-items in
    let i = c.loop-row.row-index in
    let x = c.row-item.result in
    let below : i < length xs = subst (λ zs. i < length zs) c.deref_mut-row-items.ensures.value c.loop-row-test.true in
    ap (λ r. set ys i r) c.freed.ensures ∙ ap (λ r. set ys i (freed r)) (sym c.row-item.is) ∙ map_over_more (freed) xs ys i x below c.loop-row.invariant c.row-item.is
