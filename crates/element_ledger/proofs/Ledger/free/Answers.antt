use Rattle.std.proofs.Common.{◌<◌, ◌^◌, length, sym, subst}
use Rattle.element_ledger.proofs.Counts.{few_rows}
use Rattle.element_ledger.proofs.Ledger.free.Goals as goal

pub count_free-requires : goal.count_free-requires
count_free-requires c =
    let l = c.self.inside in
    subst (λ rs. length rs < 2 ^ 16) (sym c.deref.ensures.value) (few_rows l.rmbs l.elements l.rows.items c.self.invariant.1 c.self.invariant.2 c.self.invariant.0)
