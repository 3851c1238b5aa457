use Rattle.std.proofs.Common.{◌≡◌, ◌∙◌, ◌++◌, ◌∷◌, [], ◌+◌, ◌<◌, ◌^◌, length, length-append, List, ap, sym, subst, Option, Some, MatchOption, rules, arith}
use mathlib.Core.Option.{none}
use Rattle.atomic_table.specs.Table.{step}
use Rattle.turn_cell.specs.declared.rule.SeatView.{SeatView}
use Rattle.turn_cell.proofs.ListLemmas.{added_is}
use Rattle.turn_cell.proofs.RaiseStep.{raises_count}
use Rattle.turn_cell.proofs.steps.raise_count.Goals as goal

room_for : {E : Type 0} (new old seen : List E) (e : E) → new ≡ old ++ e ∷ [] → old ≡ seen → length new < 2 ^ 32 → length seen + 1 < 2 ^ 32
room_for new old seen e more same room =
    let a : length new ≡ length old + 1 = ap (λ ys. length ys) more ∙ length-append old (e ∷ []) in
    let b : length old ≡ length seen = ap (λ ys. length ys) same in omega arith

counted : {E : Type 0} (v w : SeatView E) (entry : Option E) (new old : List E) (e : E) → entry ≡ Some e → new ≡ old ++ e ∷ [] → old ≡ v.seen
    → MatchOption entry (Unit {0}) (λ e. w ≡ record v { seen = v.seen ++ e ∷ []; mine = v.mine ++ length v.seen ∷ [] }) → w ≡ record v { seen = new; mine = v.mine ++ length v.seen ∷ [] }
counted v w entry new old e one more same told =
    let is : w ≡ record v { seen = v.seen ++ e ∷ []; mine = v.mine ++ length v.seen ∷ [] } = subst (λ o. MatchOption o (Unit {0}) (λ e. w ≡ record v { seen = v.seen ++ e ∷ []; mine = v.mine ++ length v.seen ∷ [] })) one told in
    is ∙ ap (λ ys. record v { seen = ys; mine = v.mine ++ length v.seen ∷ [] }) (ap (λ ys. ys ++ e ∷ []) (sym same) ∙ sym more)

pub fetch_add-requires : goal.fetch_add-requires
fetch_add-requires g c =
    let start = c.args.table.now.key in let grown = c.requires.grown in let old = g.M.Machine.list c.args.before.value in let new = g.M.Machine.list c.args.machine.now in (
      c.requires.table.same,
      search rules,
      raises_count g.M.Machine.list g.M.Machine.fixed (g.M.Machine.fixed start.machine.value) start.seats _ _ c.args.seat.now.me (step c.args.table.now.table_id.slots 0 1 0 none) g.J.Added.entry grown.0
          (c.requires.entry ∙ added_is old new grown.0 grown.1) c.requires.working (room_for new old c.args.seat.now.me.0.seen grown.0 grown.1 c.requires.seen c.requires.room),
    )

pub returns-clause-counted : goal.returns-clause-counted
returns-clause-counted g c =
    let grown = c.requires.grown in let old = g.M.Machine.list c.args.before.value in let new = g.M.Machine.list c.args.machine.now in let raised = c.fetch_add.ensures.2 in
    (counted c.args.seat.now.me.0 c.fetch_add.new.seat.me.0 g.J.Added.entry new old grown.0 (c.requires.entry ∙ added_is old new grown.0 grown.1) grown.1 c.requires.seen raised.0, raised.1)
