-- The fetch and add of the count keeps the rule.
use Rattle.std.proofs.Common.{◌≡◌, ℕ, ◌+◌, ◌*◌, ◌%◌, ◌^◌, ◌<◌, ◌≢◌, inl, inr, List, [], ◌∷◌, ◌++◌, length, true, true≢false, sym, refl, ap, ◌∙◌, subst, length-append, Option, Some, arith}
use Rattle.std.specs.Prelude.{slice_index, slice_set, nat_eq}
use Rattle.std.proofs.Math.Nat.{mod-eq_of_lt}
use mathlib.Core.Option.{some}
use lib.ListN.{get_elem?}
use Rattle.atomic_table.specs.Table.{Me, Step, keeps, Allows}
use Rattle.turn_cell.specs.declared.rule.SeatView.{SeatView}
use Rattle.turn_cell.specs.Lists.{StartsWith}
use Rattle.turn_cell.specs.Places.{one_if, times}
use Rattle.turn_cell.specs.Keeping.{AtWork, Kept, once_below}
use Rattle.turn_cell.specs.Plays.{Raises}
use Rattle.turn_cell.proofs.PlaceLemmas.{times-append, Below-push, Rising-push, once_step}
use Rattle.turn_cell.proofs.ListLemmas.{starts_itself, starts_longer}
use Rattle.turn_cell.proofs.Standings.{Standing-set, set_there}

module _ {E M F : Type 0} (list : M → List E) (fixed_of : M → F) (fixed : F) (seats slots id : ℕ) (me : Me (Option M) (SeatView E)) (st : Step (Option M)) where
  pub raises_count : (entry : Option E) (e : E) → entry ≡ Some e → me.0.has_turn ≡ true → length me.0.seen + 1 < 2 ^ 32
      → Allows (Kept list fixed_of fixed seats) slots id me 0 (λ n. (n + 1) % 2 ^ 64) (Raises entry st me)
  raises_count entry e one working room s (inl h) len at range = absurd (true≢false (sym working ∙ (h.views.each id me.0 at).idle))
  raises_count entry e one working room s (inr h) len at range =
      let mine = h.views.each id me.0 at in
      let turn = mine.working working in
      let more : List E = h.log ++ e ∷ [] in
      let longer_by : length more ≡ length h.log + 1 = length-append h.log (e ∷ []) in
      let same : length me.0.seen ≡ length h.log = ap (λ (xs : List E). length xs) turn.seen in
      let small : length h.log + 1 < 2 ^ 32 = subst (λ (xs : List E). length xs + 1 < 2 ^ 32) turn.seen room in
      let w : SeatView E = record { seen = me.0.seen ++ e ∷ []; beside = me.0.beside; mine = me.0.mine ++ length me.0.seen ∷ []; seats = me.0.seats; tries = me.0.tries; last = me.0.last; met = me.0.met; has_turn = me.0.has_turn } in
      let seen : me.0.seen ++ e ∷ [] ≡ more = ap (λ xs. xs ++ e ∷ []) turn.seen in
      let set : slice_set s.words 0 ((slice_index s.words 0 + 1) % 2 ^ 64) ≡ length more ∷ (2 * h.k + 1) ∷ [] =
      ap (λ (ws : List ℕ). slice_set ws 0 ((slice_index ws 0 + 1) % 2 ^ 64)) h.words ∙ ap (λ (n : ℕ). n ∷ (2 * h.k + 1) ∷ []) (mod-eq_of_lt (omega arith) ∙ sym longer_by) in
      let others : (i : ℕ) (v : SeatView E) → i ≢ id → AtWork h.k h.log h.holder i v → AtWork h.k more h.holder i v = λ i v apart o. record {
        working = (λ t. absurd (apart ((o.working t).is_holder ∙ sym turn.is_holder)));
        begins = starts_longer h.log v.seen e o.begins;
        begins_beside = starts_longer h.log v.beside e o.begins_beside;
        last = o.last;
        met = o.met;
        owns = o.owns;
      } in
      let own : AtWork h.k more h.holder id w = record {
        working = (λ _. record { is_holder = turn.is_holder; number = turn.number; seen = seen; not_spent = turn.not_spent });
        begins = subst (λ xs. StartsWith more xs) (sym seen) (starts_itself more);
        begins_beside = starts_longer h.log me.0.beside e mine.begins_beside;
        last = mine.last;
        met = mine.met;
        owns = record {
          rising = Rising-push (length me.0.seen) me.0.mine mine.owns.rising mine.owns.below;
          below = Below-push (length me.0.seen) (length (me.0.seen ++ e ∷ [])) me.0.mine mine.owns.below (length-append me.0.seen (e ∷ []));
          spent = (λ z. let a = turn.not_spent in absurd (omega (arith, z, a)));
        };
      } in
      let once : (p : ℕ) → times p w.mine + once_below p (length h.log) ≡ times p me.0.mine + once_below p (length more) = λ p.
      let a = times-append p me.0.mine (length me.0.seen ∷ []) in
      let b = once_step p (length h.log) (length more) longer_by in
      let x : one_if (nat_eq p (length me.0.seen)) ≡ one_if (nat_eq p (length h.log)) = ap (λ (j : ℕ). one_if (nat_eq p j)) same in
      omega (arith, a, b, x) in (
        w,
        keeps,
        tt,
        inr record {
          k = h.k;
          log = more;
          holder = h.holder;
          words = set;
          homes = h.homes;
          few = h.few;
          short = omega (arith, longer_by, small);
          views = Standing-set (AtWork h.k h.log h.holder) seats (length h.log) s.views h.views id me.0 at (AtWork h.k more h.holder) (length more) w others own refl once;
          worker = w;
          worker_is = subst (λ i. get_elem? (slice_set s.views id w) i ≡ some w) turn.is_holder (set_there s.views id me.0 w at);
          working = working;
        },
        (rw one refl, refl),
      )
