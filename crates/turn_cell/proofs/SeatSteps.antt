-- Cutting a seat off, taking one in, and the look after it keep the rule.
use Rattle.std.proofs.Common.{◌≡◌, ℕ, ◌+◌, ◌*◌, ◌<◌, inl, inr, List, [], ◌∷◌, length, false, true≢false, sym, refl, ap, ◌∙◌, Option, arith}
use Rattle.std.specs.Prelude.{slice_index, slice_set}
use Rattle.atomic_table.specs.Table.{Me, Step, keeps, Allows, Splits, Joins}
use Rattle.atomic_table.proofs.Lists.{set_else, at_longer}
use Rattle.turn_cell.specs.declared.rule.SeatView.{SeatView}
use Rattle.turn_cell.specs.Views.{both_views, left_view, new_view, spent_view}
use Rattle.turn_cell.specs.Keeping.{AtHome, AtWork, Kept}
use Rattle.turn_cell.specs.Plays.{Looks}
use Rattle.turn_cell.proofs.ListLemmas.{starts_between, starts_either}
use Rattle.turn_cell.proofs.TurnWords.{AtMost-max}
use Rattle.turn_cell.proofs.Standings.{Standing-keep, Standing-split, Standing-join, Owns-joined, was_there, within, whole_list, each_once}
use Rattle.turn_cell.proofs.TakeStep.{other_works, works_less}

module _ {E M F : Type 0} (list : M → List E) (fixed_of : M → F) (fixed : F) (seats : ℕ) where
  pub splits : (id : ℕ) (v : SeatView E) → v.has_turn ≡ false → 1 < v.seats → Splits {S = Option M} (Kept list fixed_of fixed seats) id v (left_view v) (new_view v)
  splits id v idle more s (inl h) at =
      let mine = h.views.each id v at in
      let left : AtHome h.k h.log (left_view v) = record { idle = idle; begins = mine.begins; begins_beside = mine.begins_beside; last = mine.last; met = mine.met; owns = record { rising = mine.owns.rising; below = mine.owns.below; spent = (λ z. absurd (omega (arith, z, more))) } } in
      let right : AtHome h.k h.log (new_view v) = record { idle = idle; begins = mine.begins; begins_beside = mine.begins_beside; last = mine.last; met = mine.met; owns = record { rising = tt; below = tt; spent = (λ z. refl) } } in
      inl record {
        k = h.k;
        log = h.log;
        machine = h.machine;
        words = h.words;
        homes = h.homes;
        list_is = h.list_is;
        fixed_is = h.fixed_is;
        few = h.few;
        short = h.short;
        views = Standing-split (λ _ u. AtHome h.k h.log u) seats (length h.log) s.views h.views id v at more left (λ _. right);
      }
  splits id v idle more s (inr h) at =
      let mine = h.views.each id v at in
      let left : AtWork h.k h.log h.holder id (left_view v) = record { working = (λ t. absurd (true≢false (sym t ∙ idle))); begins = mine.begins; begins_beside = mine.begins_beside; last = mine.last; met = mine.met; owns = record { rising = mine.owns.rising; below = mine.owns.below; spent = (λ z. absurd (omega (arith, z, more))) } } in
      let right : (i : ℕ) → AtWork h.k h.log h.holder i (new_view v) = λ i. record { working = (λ t. absurd (true≢false (sym t ∙ idle))); begins = mine.begins; begins_beside = mine.begins_beside; last = mine.last; met = mine.met; owns = record { rising = tt; below = tt; spent = (λ z. refl) } } in
      inr record {
        k = h.k;
        log = h.log;
        holder = h.holder;
        words = h.words;
        homes = h.homes;
        few = h.few;
        short = h.short;
        views = Standing-split (AtWork h.k h.log h.holder) seats (length h.log) s.views h.views id v at more left right;
        worker = h.worker;
        worker_is = at_longer (slice_set s.views id (left_view v)) (new_view v ∷ []) h.holder h.worker (set_else s.views id h.holder (left_view v) (other_works list fixed_of fixed seats id v idle s h at) ∙ h.worker_is);
        working = h.working;
      }

  pub joins : (id : ℕ) (v : SeatView E) (other : ℕ) (w : SeatView E) → v.has_turn ≡ false → w.has_turn ≡ false → 0 < v.seats → Joins {S = Option M} (Kept list fixed_of fixed seats) id v other w (both_views v w) spent_view
  joins id v other w idle off some_seat s (inl h) at apart there =
      let P : ℕ → SeatView E → Type 0 = λ _ u. AtHome h.k h.log u in
      let mine = h.views.each id v at in
      let theirs = h.views.each other w (was_there P seats (length h.log) s.views h.views id v at other w there apart) in
      let both : AtHome h.k h.log (both_views v w) = record {
        idle = idle;
        begins = starts_either h.log v.seen w.seen _ mine.begins theirs.begins;
        begins_beside = starts_either h.log w.seen v.seen _ theirs.begins mine.begins;
        last = AtMost-max h.k v.last w.last mine.last theirs.last;
        met = AtMost-max h.k v.met w.met mine.met theirs.met;
        owns = Owns-joined P seats (length h.log) s.views h.views id v at other w there apart some_seat mine.owns theirs.owns;
      } in
      let spent : AtHome h.k h.log spent_view = record { idle = refl; begins = (h.log, refl); begins_beside = (h.log, refl); last = inl (omega arith); met = inl (omega arith); owns = record { rising = tt; below = tt; spent = (λ z. refl) } } in
      inl record {
        k = h.k;
        log = h.log;
        machine = h.machine;
        words = h.words;
        homes = h.homes;
        list_is = h.list_is;
        fixed_is = h.fixed_is;
        few = h.few;
        short = h.short;
        views = Standing-join P seats (length h.log) s.views h.views id v at other w there apart both spent;
      }
  joins id v other w idle off some_seat s (inr h) at apart there =
      let P : ℕ → SeatView E → Type 0 = AtWork h.k h.log h.holder in
      let mine = h.views.each id v at in
      let was = was_there P seats (length h.log) s.views h.views id v at other w there apart in
      let theirs = h.views.each other w was in
      let both : AtWork h.k h.log h.holder id (both_views v w) = record {
        working = (λ t. absurd (true≢false (sym t ∙ idle)));
        begins = starts_either h.log v.seen w.seen _ mine.begins theirs.begins;
        begins_beside = starts_either h.log w.seen v.seen _ theirs.begins mine.begins;
        last = (λ _. AtMost-max h.k v.last w.last (mine.last idle) (theirs.last off));
        met = AtMost-max (h.k + 1) v.met w.met mine.met theirs.met;
        owns = Owns-joined P seats (length h.log) s.views h.views id v at other w there apart some_seat mine.owns theirs.owns;
      } in
      let spent : AtWork h.k h.log h.holder other spent_view = record { working = (λ t. absurd (true≢false (sym t))); begins = (h.log, refl); begins_beside = (h.log, refl); last = (λ _. inl (omega arith)); met = inl (omega arith); owns = record { rising = tt; below = tt; spent = (λ z. refl) } } in
      inr record {
        k = h.k;
        log = h.log;
        holder = h.holder;
        words = h.words;
        homes = h.homes;
        few = h.few;
        short = h.short;
        views = Standing-join P seats (length h.log) s.views h.views id v at other w there apart both spent;
        worker = h.worker;
        worker_is = set_else (slice_set s.views id (both_views v w)) other h.holder spent_view (other_works list fixed_of fixed seats other w off s h was) ∙ set_else s.views id h.holder (both_views v w) (other_works list fixed_of fixed seats id v idle s h at) ∙ h.worker_is;
        working = h.working;
      }

  pub looks : (slots id : ℕ) (me : Me (Option M) (SeatView E)) (st : Step (Option M)) → me.0.has_turn ≡ false → Allows (Kept list fixed_of fixed seats) slots id me 0 (λ n. n) (Looks seats st me)
  looks slots id me st idle s (inl h) len at range =
      let P : ℕ → SeatView E → Type 0 = λ _ u. AtHome h.k h.log u in
      let mine = h.views.each id me.0 at in
      let set : slice_set s.words 0 (slice_index s.words 0) ≡ length h.log ∷ (2 * h.k) ∷ [] = ap (λ (ws : List ℕ). slice_set ws 0 (slice_index ws 0)) h.words in (
        me.0,
        keeps,
        tt,
        inl record {
          k = h.k;
          log = h.log;
          machine = h.machine;
          words = set;
          homes = h.homes;
          list_is = h.list_is;
          fixed_is = h.fixed_is;
          few = h.few;
          short = h.short;
          views = Standing-keep P seats (length h.log) s.views h.views id me.0 at P me.0 (λ i u _ o. o) mine refl refl;
        },
        (
          refl,
          record {
            owns = mine.owns;
            within = within P seats (length h.log) s.views h.views id me.0 at;
            begins = starts_between h.log me.0.seen me.0.beside mine.begins mine.begins_beside;
            whole = (λ all. each_once P seats (length h.log) s.views h.views id me.0 at (λ i u o. o.owns) all (length me.0.seen) (ap (λ (xs : List E). length xs) (sym (whole_list P seats (length h.log) s.views h.views id me.0 at (λ i u o. o.owns) all h.log refl mine.begins))));
          },
        ),
      )
  looks slots id me st idle s (inr h) len at range =
      let P : ℕ → SeatView E → Type 0 = AtWork h.k h.log h.holder in
      let mine = h.views.each id me.0 at in
      let less = works_less list fixed_of fixed seats id me.0 idle s h at in
      let set : slice_set s.words 0 (slice_index s.words 0) ≡ length h.log ∷ (2 * h.k + 1) ∷ [] = ap (λ (ws : List ℕ). slice_set ws 0 (slice_index ws 0)) h.words in (
        me.0,
        keeps,
        tt,
        inr record {
          k = h.k;
          log = h.log;
          holder = h.holder;
          words = set;
          homes = h.homes;
          few = h.few;
          short = h.short;
          views = Standing-keep P seats (length h.log) s.views h.views id me.0 at P me.0 (λ i u _ o. o) mine refl refl;
          worker = h.worker;
          worker_is = set_else s.views id h.holder me.0 (other_works list fixed_of fixed seats id me.0 idle s h at) ∙ h.worker_is;
          working = h.working;
        },
        (
          refl,
          record {
            owns = mine.owns;
            within = omega (arith, less);
            begins = starts_between h.log me.0.seen me.0.beside mine.begins mine.begins_beside;
            whole = (λ all. absurd (omega (arith, all, less)));
          },
        ),
      )
