-- What a seat of the table knows, and how seats are cut and put together.
use Rattle.std.specs.Prelude.{◌+◌, ◌-◌, ℕ, false, List, [], length, max}
use Rattle.turn_cell.specs.declared.rule.SeatView.{SeatView}
use Rattle.turn_cell.specs.Lists.{longer, shorter}
use Rattle.turn_cell.specs.Places.{merged, up_to}
use Rattle.turn_cell.specs.Models.{TurnId, PassModel}

module _ {E : Type 0} where
  -- what a pass shows of its seat
  abbrev pub pass_of : TurnId → SeatView E → PassModel E
  pass_of turn v = record { turn = turn; seen = v.seen; mine = v.mine; seats = v.seats; tries = v.tries; last = v.last; met = v.met }

  -- the one seat at the start
  abbrev pub first_view : List E → ℕ → SeatView E
  first_view log seats = record { seen = log; beside = []; mine = up_to (length log); seats = seats; tries = 0; last = 0; met = 0; has_turn = false }

  -- a seat that gave one pass's seat away, and the new one
  abbrev pub left_view : SeatView E → SeatView E
  left_view v = record v { seats = v.seats - 1 }

  abbrev pub new_view : SeatView E → SeatView E
  new_view v = record v { seats = 1; mine = []; tries = 0 }

  -- two seats in one, which remembers the shorter list too
  abbrev pub both_views : SeatView E → SeatView E → SeatView E
  both_views v w = record v {
    seen = longer v.seen w.seen;
    beside = shorter v.seen w.seen;
    mine = merged v.mine w.mine;
    seats = v.seats + w.seats;
    tries = v.tries + w.tries;
    last = max v.last w.last;
    met = max v.met w.met;
  }

  -- what the second is left with
  abbrev pub spent_view : SeatView E
  spent_view = record { seen = []; beside = []; mine = []; seats = 0; tries = 0; last = 0; met = 0; has_turn = false }
