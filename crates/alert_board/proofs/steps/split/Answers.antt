use Rattle.alert_board.proofs.Moves.{copies}
use Rattle.alert_board.proofs.steps.split.Goals as goal

pub split_seat-requires : goal.split_seat-requires
split_seat-requires c = (c.requires.table.0, c.requires.table.1, copies _ _)
