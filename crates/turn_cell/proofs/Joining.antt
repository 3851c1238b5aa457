-- From two seats that were joined to the passes that show them.
use Rattle.std.proofs.Common.{◌≡◌, ℕ, sym, refl, ap₂, subst, arith}
use Rattle.turn_cell.specs.declared.rule.SeatView.{SeatView}
use Rattle.turn_cell.specs.Models.{TurnId, PassModel}
use Rattle.turn_cell.specs.Calls.{IsJoined}
use Rattle.turn_cell.specs.Views.{both_views, pass_of}
use Rattle.turn_cell.specs.Plays.{Holds}
use Rattle.turn_cell.proofs.PlaceLemmas.{times-merged, times-rising}
use Rattle.turn_cell.proofs.ListLemmas.{longer_starts}

module _ {E : Type 0} (turn other_turn : TurnId) (v w : SeatView E) where
  joins_passes : (seats : ℕ) → Holds seats (both_views v w) → IsJoined seats (pass_of turn v) (pass_of other_turn w) (pass_of turn (both_views v w))
  joins_passes seats h =
      let starts = longer_starts v.seen w.seen h.begins in record {
        both = refl;
        begins = starts.0;
        begins_other = starts.1;
        apart = (λ p. let m = times-merged p v.mine w.mine in let r = times-rising p (both_views v w).mine h.owns.rising in omega (arith, m, r));
        rising = h.owns.rising;
        below = h.owns.below;
        within = h.within;
        whole = h.whole;
      }

  -- so for passes that show these seats
  pub is_joined : (seats start : ℕ) (new_turn : TurnId) (u : SeatView E) (old other : PassModel E) → pass_of turn v ≡ old → pass_of other_turn w ≡ other → new_turn ≡ turn → u ≡ both_views v w → start ≡ seats → Holds start (both_views v w)
      → IsJoined seats old other (pass_of new_turn u)
  is_joined seats start new_turn u old other is is_other same both all h =
      subst (λ x. IsJoined seats old other x) (ap₂ pass_of (sym same) (sym both))
      (subst (λ x. IsJoined seats old x (pass_of turn (both_views v w))) is_other
      (subst (λ x. IsJoined seats x (pass_of other_turn w) (pass_of turn (both_views v w))) is (joins_passes seats (subst (λ n. Holds n (both_views v w)) all h))))
