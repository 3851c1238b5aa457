use Rattle.std.proofs.Common.{◌∙◌, ◌<◌, length, set, sym, ap, subst}
use Rattle.std.proofs.lemmas.List.Edits.{map_over_more}
use Rattle.element_ledger.specs.Lendings.{changed, changes_at, place_of}
use Rattle.element_ledger.proofs.rows.change_at.Goals as goal

pub loop-row-preserved : goal.loop-row-preserved
loop-row-preserved c =
    let xs = c.args.rows.now.items in
    let ys = c.loop-row.row-items in
    let i = c.loop-row.row-index in
    let x = c.row-item.result in
    let below : i < length xs = subst (λ zs. i < length zs) c.deref_mut-row-items.ensures.value c.loop-row-test.true in
    ap (λ r. set ys i r) c.changed_at.ensures ∙ ap (λ r. set ys i (changes_at (place_of c.args.e) (changed c.args.change) r)) (sym c.row-item.is) ∙ map_over_more (changes_at (place_of c.args.e) (changed c.args.change)) xs ys i x below c.loop-row.invariant c.row-item.is
