use Rattle.std.proofs.Common.{◌≡◌, ◌∙◌, ◌<◌, ◌-◌, ◌^◌, map, Some, false, sym, ap, subst}
use Rattle.std.specs.List.{AllByRecursion}
use Rattle.std.proofs.lemmas.List.Elements.{recursion_from_All}
use Rattle.element_ledger.specs.Lendings.{Row, changes_at, first_free, lending_of, lends, place_of}
use Rattle.element_ledger.proofs.Changes.{lent_places_kept, lending_of-lends, free_one}
use Rattle.element_ledger.proofs.Ledger.lend.Goals as goal

pub next_lending-element-requires : goal.next_lending-element-requires
next_lending-element-requires c =
    let P : Row → Type 0 = λ r. r.epoch < 2 ^ 32 - 1 in
    let all = subst (λ v. AllByRecursion P v.rows) (sym c.self.view_is) (recursion_from_All P _ c.requires) in
    let has : first_free c.self.inside.rows.items ≡ Some c.in_ok-first_free.field-0 = ap first_free (sym c.deref.ensures.value) ∙ sym c.first_free.ensures ∙ c.in_ok-first_free.was in
    free_one P c.self.inside.rows.items c.in_ok-first_free.field-0 all has

pub invariant_of-self : goal.invariant_of-self
invariant_of-self c = (ap (λ rs. map (λ r. r.place) rs) c.lend_at.ensures ∙ lent_places_kept _ c.args.conn c.self.inside.rows.items ∙ c.self.invariant.0, c.self.invariant.1, c.self.invariant.2)

pub returns-clause-lending : goal.returns-clause-lending
returns-clause-lending c =
    let row = c.in_ok-first_free.field-0 in
    let has : first_free c.self.inside.rows.items ≡ Some row = ap first_free (sym c.deref.ensures.value) ∙ sym c.first_free.ensures ∙ c.in_ok-first_free.was in
    ap (λ rs. lending_of c.next_lending-element.result rs) c.lend_at.ensures
    ∙ subst (λ e. lending_of e (map (changes_at (place_of e) (lends c.args.conn)) c.self.inside.rows.items) ≡ Some (record { conn = c.args.conn; own = false; peer = false }))
    (sym c.next_lending-element.ensures) (lending_of-lends c.args.conn c.self.inside.rows.items row has)
