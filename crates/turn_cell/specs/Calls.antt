-- What the calls of a turn do to what its passes know.
use Rattle.std.specs.Prelude.{◌≡◌, ◌<◌, ◌≤◌, ◌+◌, ◌-◌, ◌^◌, ◌⊎◌, ℕ, List, [], ◌∷◌, ◌++◌, length, max}
use Rattle.turn_cell.specs.Lists.{StartsWith, longer}
use Rattle.turn_cell.specs.Places.{EachOnce, Below, Rising, merged, times, up_to}
use Rattle.turn_cell.specs.Models.{TurnId, PassModel}

-- the turn was taken after the one with the number `last`, or has the number that alone can come again
abbrev pub IsLater : ℕ → ℕ → Type 0
IsLater last turn = (last < turn) ⊎ (turn ≡ 2 ^ 63)

module _ {E : Type 0} where
  -- the first pass has all seats, and the entries that the machine began with count as its own
  abbrev pub first_pass : TurnId → List E → ℕ → PassModel E
  first_pass turn list seats = record { turn = turn; seen = list; mine = up_to (length list); seats = seats; tries = 0; last = 0; met = 0 }

  -- the places of a pass whose call found the first list and left the second
  abbrev pub Enters : List E → List E → List ℕ → List ℕ → Type 0
  Enters before after old new = ((after ≡ before) × (new ≡ old)) ⊎ ((entry : E) × (after ≡ before ++ entry ∷ []) × (new ≡ old ++ length before ∷ []))

  -- a call that found the turn out: another pass has taken it since this one's last
  pub record WasBusy (seats turn : ℕ) (old new : PassModel E) : Type 0 where
    pub later : IsLater old.last turn
    pub kept : new ≡ record old { tries = old.tries + 1; met = turn }
    pub shared : old.seats < seats

  -- a call that was made: on a list that begins with all that the pass had seen, and after which it has seen the whole list
  pub record HasCalled {F C R : Type 0} (step : F → List E → C → R → List E → Type 0) (fixed : F) (seats : ℕ) (call : C) (old : PassModel E) (reply : R) (new : PassModel E) : Type 0 where
    pub before : List E
    pub begins : StartsWith before old.seen
    pub does : step fixed before call reply new.seen
    pub enters : Enters before new.seen old.mine new.mine
    -- a pass that has all seats found just what it had seen
    pub alone : old.seats ≡ seats → before ≡ old.seen
    pub later : IsLater old.last new.last
    -- turns that it found out meanwhile were later than its last
    pub met : (new.met ≡ old.met) ⊎ IsLater old.last new.met
    pub turn : new.turn ≡ old.turn
    pub seats_kept : new.seats ≡ old.seats
    pub tried : old.tries < new.tries

  -- a pass gave one of its seats to a pass that has seen the same and made no call
  pub record IsSplit (old new other : PassModel E) : Type 0 where
    pub enough : 1 < old.seats
    pub kept : new ≡ record old { seats = old.seats - 1 }
    pub given : other ≡ record old { seats = 1; mine = []; tries = 0 }

  -- two passes in one: the longer list, the greater numbers, and the seats, tries and places of both
  abbrev pub joined : PassModel E → PassModel E → PassModel E
  joined pass other = record {
    turn = pass.turn;
    seen = longer pass.seen other.seen;
    mine = merged pass.mine other.mine;
    seats = pass.seats + other.seats;
    tries = pass.tries + other.tries;
    last = max pass.last other.last;
    met = max pass.met other.met;
  }

  -- so joined, the pass has seen what both had; no place was in both, and with all seats it has every place
  pub record IsJoined (seats : ℕ) (old other new : PassModel E) : Type 0 where
    pub both : new ≡ joined old other
    pub begins : StartsWith new.seen old.seen
    pub begins_other : StartsWith new.seen other.seen
    pub apart : (p : ℕ) → times p old.mine + times p other.mine ≤ 1
    pub rising : Rising new.mine
    pub below : Below (length new.seen) new.mine
    pub within : new.seats ≤ seats
    pub whole : new.seats ≡ seats → EachOnce (length new.seen) new.mine
