use Rattle.alert_board.proofs.Moves.{looks}
use Rattle.alert_board.proofs.steps.look.Goals as goal

pub split_seat-requires : goal.split_seat-requires
split_seat-requires c = (c.requires.table.0, c.requires.table.1, looks _ _ c.requires.pen)
