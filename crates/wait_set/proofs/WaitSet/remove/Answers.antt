use Rattle.std.proofs.Common.{ap, sym, ◌∙◌, refl}
use mathlib.Core.Bool.{false≢true}
use Rattle.wait_set.proofs.Places.{some_in, none_in}
use Rattle.wait_set.proofs.Edits.{removed_in}
use Rattle.wait_set.proofs.WaitSet.remove.Goals as goal

pub returns-in-Ok-clause-there : goal.returns-in-Ok-clause-there
returns-in-Ok-clause-there c =
    let some = some_in _ _ _ _ _ c.deref.ensures.value (ap (λ s. s.members) c.self.view_is) c.self.invariant.0 c.in-Ok.ensures.there in
    ((λ _. some), (λ _. refl))

pub returns-in-Ok-clause-removed : goal.returns-in-Ok-clause-removed
returns-in-Ok-clause-removed c = (removed_in _ _ _ _ _ _ c.deref.ensures.value (ap (λ s. s.members) c.self.view_is) c.self.invariant.0 c.in-Ok.ensures.there c.remove.ensures.items, ap (λ s. s.most) c.self.view_is)

pub returns-in-Err-clause-there : goal.returns-in-Err-clause-there
returns-in-Err-clause-there c =
    let none = none_in _ _ _ _ _ c.deref.ensures.value (ap (λ s. s.members) c.self.view_is) c.in-Err.ensures.absent in
    ((λ no. absurd (cc)), (λ some. absurd (false≢true (sym none ∙ some))))
