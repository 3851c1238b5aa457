use Rattle.std.proofs.Common.{◌+◌, ◌<◌, ◌^◌, length, sym, ap, subst, arith}
use Rattle.rkey_table.proofs.Kept.{at_most}
use Rattle.rkey_table.specs.Tables.{Table}
use Rattle.rkey_table.proofs.KeyTable.number_for.Goals as goal

pub lowest_unused-requires : goal.lowest_unused-requires
lowest_unused-requires c =
    let t = c.self.inside in
    let few = at_most t.base t.places t.keys.items c.self.invariant.0.apart c.self.invariant.0.within in
    let fits : t.base + t.places + 1 < 2 ^ 32 = subst (λ (v : Table). v.base + v.places + 1 < 2 ^ 32) (sym c.self.view_is) c.requires in
    let same = ap length c.deref.ensures.value in
    omega (arith, few, fits, same)
