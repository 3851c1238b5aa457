use Rattle.std.proofs.Common.{rules, ◌≡◌, ◌∙◌, sym, ap, length, subst, ◌<◌, ◌^◌}
use Rattle.turn_cell.proofs.Ends.{opens}
use Rattle.turn_cell.proofs.turn.Turn.new.Goals as goal

pub new-requires : goal.new-requires
new-requires g c =
    let start = c.of.result.value in
    let count : c.entries-seen.result ≡ length (g.M.Machine.list start) = c.entries-seen.ensures ∙ ap (λ m. length (g.M.Machine.list m)) (sym c.of.ensures) in
    opens g.M.Machine.list g.M.Machine.fixed (g.M.Machine.fixed start) c.args.seats c.in_ok-slots.slots.items c.args.machine (g.M.Machine.list start) c.from.result c.requires c.in_ok-slots.ensures.slot
    (ap g.M.Machine.list (sym c.of.ensures)) (ap g.M.Machine.fixed (sym c.of.ensures)) (search rules) (subst (λ n. n < 2 ^ 32) count c.entries-seen.type_inv)
