use Rattle.std.proofs.Common.{◌≡◌, ap, sym, ◌∙◌, refl, length, Err, if◌then◌else◌, arith}
use Rattle.std.specs.List.{insert}
use mathlib.Core.Bool.{false≢true}
use Rattle.wait_set.specs.declared.member.SetFault.TheVariants.{Full}
use Rattle.wait_set.proofs.Places.{some_in, none_in}
use Rattle.wait_set.proofs.Edits.{added_in}
use Rattle.wait_set.proofs.WaitSet.add.Goals as goal

-- the place is there
pub returns-in-Ok-clause-twice : goal.returns-in-Ok-clause-twice
returns-in-Ok-clause-twice c =
    let some = some_in _ _ _ _ _ c.deref.ensures.value (ap (λ s. s.members) c.self.view_is) c.self.invariant.0 c.in-Ok.ensures.there in
    ((λ _. some), (λ _. refl))

pub returns-in-Ok-clause-full : goal.returns-in-Ok-clause-full
returns-in-Ok-clause-full c =
    let some = some_in _ _ _ _ _ c.deref.ensures.value (ap (λ s. s.members) c.self.view_is) c.self.invariant.0 c.in-Ok.ensures.there in
    ((λ e. absurd (cc)), (λ h. absurd (false≢true (sym h.0 ∙ some))))

-- the place is not there, and the set is full
pub returns-in-Err-clause-twice : goal.returns-in-Err-clause-twice
returns-in-Err-clause-twice c =
    let none = none_in _ _ _ _ _ c.deref.ensures.value (ap (λ s. s.members) c.self.view_is) c.in-Err.ensures.absent in
    ((λ e. absurd (cc)), (λ some. absurd (false≢true (sym none ∙ some))))

pub returns-in-Err-clause-full : goal.returns-in-Err-clause-full
returns-in-Err-clause-full c =
    let none = none_in _ _ _ _ _ c.deref.ensures.value (ap (λ s. s.members) c.self.view_is) c.in-Err.ensures.absent in
    let full : length c.args.self.now.members ≡ c.args.self.now.most = rw (← c.self.view_is) (ap length (sym c.deref.ensures.value) ∙ c.deref.ensures.len ∙ sym c.len.ensures ∙ c.if-len-self.true) in
    ((λ _. (none, full)), (λ _. ap (λ s. Err (Full s.most)) c.self.view_is))

-- the member goes into its gap
pub returns-in-Err-2-clause-twice : goal.returns-in-Err-2-clause-twice
returns-in-Err-2-clause-twice c =
    let none = none_in _ _ _ _ _ c.deref.ensures.value (ap (λ s. s.members) c.self.view_is) c.in-Err.ensures.absent in
    ((λ e. absurd (cc)), (λ some. absurd (false≢true (sym none ∙ some))))

pub returns-in-Err-2-clause-ok : goal.returns-in-Err-2-clause-ok
returns-in-Err-2-clause-ok c =
    let items = c.self.inside.members.items in
    let ok = c.insert.ensures.succeeds (let few = c.self.invariant.1 in let room = c.self.invariant.2 in let len = c.len.ensures in let full = c.if-len-self.false in omega (arith, few, room, len, full)) in
    let is = c.insert.ensures.items ∙ ap (λ t. if t then insert items c.in-Err.field-0 (record { member = c.args.member; picked = 0 }) else items) ok in
    (added_in _ _ _ _ _ _ c.deref.ensures.value (ap (λ s. s.members) c.self.view_is) c.self.invariant.0 c.in-Err.ensures.absent is, ap (λ s. s.most) c.self.view_is)
