use Rattle.std.proofs.Common.{◌≡◌, ◌∙◌, ℕ, option_map, subst, rules}
use Rattle.element_ledger.specs.Lendings.{Row, IsLedger, first_free}
use Rattle.element_ledger.proofs.Lowest.{lowest_pair}
use Rattle.element_ledger.proofs.Ledger.next_free.Goals as goal

pub returns-clause-lowest : goal.returns-clause-lowest
returns-clause-lowest c =
    let v = c.args.self.now in
    let first : c.map.result ≡ option_map {U = ℕ × ℕ} (λ (r : Row). (r.place.rmb, r.place.index)) (first_free v.rows) = search rules in
    first ∙ lowest_pair v.rmbs v.elements v.rows (subst (λ s. IsLedger s) c.self.view_is c.self.invariant.0)
