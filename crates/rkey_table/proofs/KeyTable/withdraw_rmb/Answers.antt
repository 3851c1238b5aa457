use Rattle.std.proofs.Common.{◌≤◌, ◌==◌, not, sym, subst}
use Rattle.rkey_table.specs.Tables.{IsTable}
use Rattle.rkey_table.proofs.Kept.{filtered}
use Rattle.rkey_table.proofs.KeyTable.withdraw_rmb.Goals as goal

pub invariant_of-self : goal.invariant_of-self
invariant_of-self c =
    let t = c.self.inside in (
      subst (λ ks. IsTable (record { base = t.base; places = t.places; keys = ks })) (sym c.remove_rmb.ensures.items) (filtered t.base t.places (λ k. not (k.rmb == c.args.rmb)) t.keys.items c.self.invariant.0),
      subst (λ n. t.places ≤ n) (sym c.remove_rmb.ensures.capacity) c.self.invariant.1,
      c.self.invariant.2,
    )
