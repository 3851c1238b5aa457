use Rattle.std.proofs.Common.{rules, ◌∙◌, sym, arith, ap, ◌*◌}
use mathlib.Core.Option.{none}
use Rattle.atomic_table.specs.Table.{step}
use Rattle.turn_cell.proofs.GiveStep.{gives_turn}
use Rattle.turn_cell.proofs.steps.give_turn.Goals as goal

pub swap-requires : goal.swap-requires
swap-requires g c = let start = c.args.table.now.key in let held = c.requires.machine in let working = c.requires.working in (
  c.requires.table.same,
  search rules,
  gives_turn g.M.Machine.list g.M.Machine.fixed (g.M.Machine.fixed start.machine.value) start.seats _ _ c.args.seat.now.me (step c.args.table.now.table_id.slots 1 c.word_after.result 0 none) held.0 c.word_after.result working.0 held.1 held.2 held.3
      (λ early. let e = working.1 in c.word_after.ensures.early (omega (arith, e, early)) ∙ ap (λ n. 2 * n) (sym e)) (λ last. c.word_after.ensures.last (sym working.1 ∙ last)),
)
