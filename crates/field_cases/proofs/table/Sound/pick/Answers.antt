use Rattle.std.proofs.Common.{◌≡◌, ◌∙◌, ◌&&◌, Bool, true, false, sym, ap, ℕ, List, Some, get_or, nat_eq, arith, true≢false, position, refl}
use Rattle.std.specs.Prelude.{slice_get, find}
use Rattle.std.specs.Option.{option_map_or}
use Rattle.std.specs.List.{position_or_len}
use Rattle.std.proofs.lemmas.Grind.{common_steps}
use Rattle.std.proofs.lemmas.List.Folds.{find_at}
use Rattle.std.proofs.lemmas.List.Quantifiers.{position-Some}
use Rattle.std.proofs.lemmas.Option.{slice_get-get_or}
use Rattle.std.proofs.lemmas.Bool.{eqb-true}
use Rattle.field_cases.specs.declared.table.Row.{Row}
use Rattle.field_cases.specs.Table.{is_case, action_of}
use Rattle.field_cases.proofs.table.Sound.pick.Goals as goal

both : (a b : Bool) → (a && b) ≡ true → (a ≡ true) × (b ≡ true)
both true b e = (refl, e)
both false b e = absurd (true≢false (sym e))

-- the row at the place that was found is of the case
row_there : (rows : List Row) (s m i : ℕ) (d : Row) → position (is_case s m) rows ≡ Some i
    → slice_get rows i ≡ Some (record { state = s; message = m; action = (get_or rows i d).action })
row_there rows s m i d found =
    let at = position-Some (is_case s m) rows i d found in
    let row = get_or rows i d in
    let is = both (nat_eq row.state s) (nat_eq row.message m) at.1 in
    slice_get-get_or rows i d at.0 ∙ (λ k. Some (record { state = eqb-true row.state s is.0 k; message = eqb-true row.message m is.1 k; action = row.action }))

-- the first row of the case is the one at that place
first_there : (rows : List Row) (test : Row → Bool) (i : ℕ) → position test rows ≡ Some i → find test rows ≡ slice_get rows i
first_there rows test i found =
    let place : position_or_len test rows ≡ i = grind (arith, common_steps) in
    find_at test rows ∙ ap (slice_get rows) place

-- so the first row of the case has the action at that place
action_there : (rows : List Row) (s m i : ℕ) (d : Row) → position (is_case s m) rows ≡ Some i → (get_or rows i d).action ≡ action_of rows s m
action_there rows s m i d found =
    sym (ap (λ row. option_map_or (λ r. r.action) row 0) (first_there rows (is_case s m) i found ∙ row_there rows s m i d found))

pub returns-clause-row : goal.returns-clause-row
returns-clause-row g c = (c.in-Some.place, row_there _ _ _ _ _ (sym c.place_of.ensures ∙ c.in-Some.is))

pub returns-clause-action : goal.returns-clause-action
returns-clause-action g c =
    action_there c.args.self.now.cases.rows c.args.state c.args.message c.in-Some.place (record { state = 0; message = 0; action = 0 }) (sym c.place_of.ensures ∙ c.in-Some.is)
