use Rattle.std.proofs.Common.{◌==◌, Bool, not, sym, subst, rules}
use Rattle.arrayvec.proofs.ArrayVecLemmas.{filter-from_retain}
use Rattle.pipe_model.specs.Flows.{Drop}
use Rattle.llc_flows.specs.Slots.{AreApart}
use Rattle.llc_flows.proofs.Apart.{apart-filter}
use Rattle.llc_flows.proofs.slots.take_drop.Goals as goal

pub returns-clause-items : goal.returns-clause-items
returns-clause-items c = filter-from_retain _ _ _ (λ x b f' y k. search rules) _ _ c.retain.ensures.filtered

pub returns-clause-apart : goal.returns-clause-apart
returns-clause-apart c apart =
    let test : Drop → Bool = λ k. not (k.slot == c.args.slot) in
    let items = filter-from_retain _ test _ (λ x b f' y k. search rules) _ _ c.retain.ensures.filtered in
    subst (λ xs. AreApart (λ k. k.slot) xs) (sym items) (apart-filter _ test _ apart)
