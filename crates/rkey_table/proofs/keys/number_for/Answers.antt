use Rattle.std.proofs.Common.{◌≡◌, ◌∙◌, Some, None, refl, sym, ap, arith}
use Rattle.std.specs.Prelude.{is_some}
use Rattle.rkey_table.proofs.Kept.{registered, room_for, at_most, all_used, many_where_used}
use Rattle.rkey_table.proofs.keys.number_for.Goals as goal

pub lowest_unused-requires : goal.lowest_unused-requires
lowest_unused-requires c =
    let few = at_most c.args.base c.args.places c.args.keys.now c.requires.table.apart c.requires.table.within in
    let some_left = c.if-keys-places.false in
    let fits = c.requires.base in
    omega (arith, few, some_left, fits)

pub returns-in-Some-clause-kept : goal.returns-in-Some-clause-kept
returns-in-Some-clause-kept c = registered c.args.base c.args.places c.args.rmb c.args.link c.args.keys.now c.requires.table (λ none. let e : Some c.in-Some.key ≡ None = sym c.in-Some.is ∙ c.number_of.ensures ∙ none in cc)

pub returns-in-None-clause-full : goal.returns-in-None-clause-full
returns-in-None-clause-full c =
    let many = all_used c.args.base c.args.places c.args.keys.now c.requires.table c.if-keys-places.true in
    let none = sym c.number_of.ensures ∙ c.in-None.is in
    ((λ _. (ap is_some none, many)), (λ _. refl))

pub returns-in-None-2-clause-kept : goal.returns-in-None-2-clause-kept
returns-in-None-2-clause-kept c =
    let few = at_most c.args.base c.args.places c.args.keys.now c.requires.table.apart c.requires.table.within in
    registered c.args.base c.args.places c.args.rmb c.args.link c.args.keys.now c.requires.table (λ none. let some_left = c.if-keys-places.false in omega (arith, few, some_left))

pub returns-in-None-2-clause-full : goal.returns-in-None-2-clause-full
returns-in-None-2-clause-full c =
    let few = at_most c.args.base c.args.places c.args.keys.now c.requires.table.apart c.requires.table.within in
    ((λ e. cc), (λ both. let many = many_where_used c.args.base c.args.places c.args.keys.now both.1 in let some_left = c.if-keys-places.false in absurd (omega (arith, few, some_left, many))))

pub returns-in-Some-clause-room : goal.returns-in-Some-clause-room
returns-in-Some-clause-room c = room_for c.args.base c.args.places c.args.rmb c.args.link c.args.keys.now c.requires.table (λ none. let e : Some c.in-Some.key ≡ None = sym c.in-Some.is ∙ c.number_of.ensures ∙ none in cc)

pub returns-in-None-2-clause-room : goal.returns-in-None-2-clause-room
returns-in-None-2-clause-room c =
    let few = at_most c.args.base c.args.places c.args.keys.now c.requires.table.apart c.requires.table.within in
    room_for c.args.base c.args.places c.args.rmb c.args.link c.args.keys.now c.requires.table (λ none. let some_left = c.if-keys-places.false in omega (arith, few, some_left))
