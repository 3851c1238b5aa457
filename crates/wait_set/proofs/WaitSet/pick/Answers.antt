use Rattle.std.proofs.Common.{ap, refl, arith}
use Rattle.std.proofs.lemmas.List.{length-set}
use Rattle.wait_set.specs.declared.member.Waiting.{Waiting}
use Rattle.wait_set.proofs.Places.{all_below_in}
use Rattle.wait_set.proofs.Passes.{marked_rises, marked_picks, none_in_view, same_places}
use Rattle.wait_set.proofs.WaitSet.pick.Goals as goal

pub first_ready-requires-clause-places : goal.first_ready-requires-clause-places
first_ready-requires-clause-places c = all_below_in _ _ _ _ c.deref.ensures.value (ap (λ s. s.members) c.self.view_is) c.self.invariant.0 c.requires.places

pub returns-in_err-at-clause-none : goal.returns-in_err-at-clause-none
returns-in_err-at-clause-none c = rw c.from_residual.ensures (none_in_view _ _ _ _ _ c.deref.ensures.value (ap (λ s. s.members) c.self.view_is) c.self.invariant.0 c.in_err-at.ensures.none.0 c.in_err-at.ensures.none.1, refl)

pub invariant_of-self : goal.invariant_of-self
invariant_of-self c = (
  marked_rises _ _ _ _ _ c.deref.ensures.value c.self.invariant.0 c.in_ok-at.ensures.found.in_range c.index_mut-waiting.ensures.value,
  (let few = c.self.invariant.1 in omega (arith, few, length-set {A = Waiting})),
  c.self.invariant.2,
)

pub returns-clause-some : goal.returns-clause-some
returns-clause-some c = (
  marked_picks _ _ _ _ _ _ _ _ c.deref.ensures.value (ap (λ s. s.members) c.self.view_is) c.self.invariant.0 c.in_ok-at.ensures.found c.index_mut-waiting.ensures.value,
  ap (λ s. s.most) c.self.view_is,
)

pub returns-clause-places : goal.returns-clause-places
returns-clause-places c =
    same_places _ _ _ _ _ _ (marked_picks _ _ _ _ _ _ _ _ c.deref.ensures.value (ap (λ s. s.members) c.self.view_is) c.self.invariant.0 c.in_ok-at.ensures.found c.index_mut-waiting.ensures.value)
