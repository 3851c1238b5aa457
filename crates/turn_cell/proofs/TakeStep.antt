-- The fetch and or of the turn word keeps the rule.
use Rattle.std.proofs.Common.{◌≡◌, ℕ, ◌+◌, ◌*◌, ◌/◌, ◌<◌, ◌≢◌, inl, inr, List, [], ◌∷◌, length, true, false, true≢false, sym, refl, ap, ◌∙◌, subst, bit_or, Option, Some, arith}
use Rattle.std.specs.Prelude.{slice_index, slice_set}
use mathlib.Core.Option.{some, none, some-injective}
use lib.ListN.{get_elem?}
use Rattle.atomic_table.specs.Table.{State, Me, Step, keeps, takes, Allows}
use Rattle.atomic_table.proofs.Lists.{set_else}
use Rattle.turn_cell.specs.declared.rule.SeatView.{SeatView}
use Rattle.turn_cell.specs.Lists.{StartsWith}
use Rattle.turn_cell.specs.Keeping.{AtHome, AtWork, Work, Kept}
use Rattle.turn_cell.specs.Plays.{Takes}
use Rattle.turn_cell.proofs.PlaceLemmas.{Below-more}
use Rattle.turn_cell.proofs.ListLemmas.{starts_itself, starts-length}
use Rattle.turn_cell.proofs.TurnWords.{or_even, or_odd, AtMost-more, AtMost-later}
use Rattle.turn_cell.proofs.Standings.{Standing-keep, set_there, not_all, whole_list}

module _ {E M F : Type 0} (list : M → List E) (fixed_of : M → F) (fixed : F) (seats id : ℕ) (v : SeatView E) (idle : v.has_turn ≡ false) (s : State (Option M) (SeatView E)) (h : Work list fixed_of fixed seats s) (at : get_elem? s.views id ≡ some v) where
  -- a seat that has not the turn while it is out is not its holder
  pub other_works : h.holder ≢ id
  other_works e = true≢false (sym h.working ∙ ap (λ (x : SeatView E). x.has_turn) (some-injective h.worker v (sym h.worker_is ∙ ap (λ i. get_elem? s.views i) e ∙ at)) ∙ idle)

  -- and has not all seats
  pub works_less : v.seats < seats
  works_less = not_all (AtWork h.k h.log h.holder) seats (length h.log) s.views h.views id v at h.holder h.worker h.worker_is other_works ((h.views.each h.holder h.worker h.worker_is).working h.working).not_spent

module _ {E M F : Type 0} (list : M → List E) (fixed_of : M → F) (fixed : F) (seats slots id : ℕ) (me : Me (Option M) (SeatView E)) (st : Step (Option M)) (idle : me.0.has_turn ≡ false) where
  module _ (empty : me.1 ≡ []) (some_seat : 0 < me.0.seats) where
    -- the seat with the turn k + 1 and a list
    with_turn : ℕ → List E → SeatView E
    with_turn k log = record { seen = log; beside = me.0.beside; mine = me.0.mine; seats = me.0.seats; tries = me.0.tries + 1; last = k + 1; met = me.0.met; has_turn = true }

    -- the seat that found it out
    found_out : ℕ → SeatView E
    found_out k = record { seen = me.0.seen; beside = me.0.beside; mine = me.0.mine; seats = me.0.seats; tries = me.0.tries + 1; last = me.0.last; met = k + 1; has_turn = me.0.has_turn }

    pub takes_turn : Allows (Kept list fixed_of fixed seats) slots id me 1 (λ n. bit_or n 1) (Takes list fixed_of (Some fixed) seats st me)
    unfolding with_turn found_out
    takes_turn s (inl h) len at range =
        let mine = h.views.each id me.0 at in
        let found : slice_index s.words 1 ≡ 2 * h.k = ap (λ (ws : List ℕ). slice_index ws 1) h.words in
        let set : slice_set s.words 1 (bit_or (slice_index s.words 1) 1) ≡ length h.log ∷ (2 * h.k + 1) ∷ [] =
        ap (λ (ws : List ℕ). slice_set ws 1 (bit_or (slice_index ws 1) 1)) h.words ∙ ap (λ (n : ℕ). length h.log ∷ n ∷ []) (or_even h.k) in
        let starts : StartsWith (list h.machine) me.0.seen = (mine.begins.0, h.list_is ∙ mine.begins.1) in
        let turn : slice_index s.words 1 / 2 + 1 ≡ h.k + 1 = omega (arith, found) in
        let w : SeatView E = with_turn h.k (list h.machine) in
        let others : (i : ℕ) (v : SeatView E) → i ≢ id → AtHome h.k h.log v → AtWork h.k h.log id i v = λ i v _ o. record {
          working = (λ t. absurd (true≢false (sym t ∙ o.idle)));
          begins = o.begins;
          begins_beside = o.begins_beside;
          last = (λ _. o.last);
          met = AtMost-more h.k v.met h.few o.met;
          owns = o.owns;
        } in
        let own : AtWork h.k h.log id id w = record {
          working = (λ _. record { is_holder = refl; number = refl; seen = h.list_is; not_spent = some_seat });
          begins = subst (λ xs. StartsWith h.log xs) (sym h.list_is) (starts_itself h.log);
          begins_beside = mine.begins_beside;
          last = (λ f. absurd (true≢false f));
          met = AtMost-more h.k me.0.met h.few mine.met;
          owns = record { rising = mine.owns.rising; below = Below-more (length me.0.seen) (length (list h.machine)) me.0.mine (starts-length (list h.machine) me.0.seen starts) mine.owns.below; spent = mine.owns.spent };
        } in (
          w,
          takes 0 (Some h.machine),
          ap (λ hs. get_elem? hs 0) h.homes,
          inr record {
            k = h.k;
            log = h.log;
            holder = id;
            words = set;
            homes = ap (λ hs. slice_set hs 0 none) h.homes;
            few = h.few;
            short = h.short;
            views = Standing-keep (λ _ v. AtHome h.k h.log v) seats (length h.log) s.views h.views id me.0 at (AtWork h.k h.log id) w others own refl refl;
            worker = w;
            worker_is = set_there s.views id me.0 w at;
            working = refl;
          },
          (
            (λ _. record {
              machine = h.machine;
              slot = ap (λ c. (0, Some h.machine) ∷ c) empty;
              view = ap (λ t. with_turn t (list h.machine)) (omega (arith, found));
              fixed_is = ap Some h.fixed_is;
              begins = starts;
              alone = (λ all. h.list_is ∙ whole_list (λ _ v. AtHome h.k h.log v) seats (length h.log) s.views h.views id me.0 at (λ i u o. o.owns) all h.log refl mine.begins);
              later = AtMost-later h.k me.0.last (slice_index s.words 1 / 2 + 1) mine.last turn;
              number = (let b = h.few in omega (arith, turn, b));
            }),
            (λ odd. absurd (omega (arith, odd, found))),
          ),
        )
    takes_turn s (inr h) len at range =
        let mine = h.views.each id me.0 at in
        let found : slice_index s.words 1 ≡ 2 * h.k + 1 = ap (λ (ws : List ℕ). slice_index ws 1) h.words in
        let set : slice_set s.words 1 (bit_or (slice_index s.words 1) 1) ≡ length h.log ∷ (2 * h.k + 1) ∷ [] =
        ap (λ (ws : List ℕ). slice_set ws 1 (bit_or (slice_index ws 1) 1)) h.words ∙ ap (λ (n : ℕ). length h.log ∷ n ∷ []) (or_odd h.k) in
        let turn : slice_index s.words 1 / 2 + 1 ≡ h.k + 1 = omega (arith, found) in
        let w : SeatView E = found_out h.k in
        let own : AtWork h.k h.log h.holder id w = record {
          working = (λ t. absurd (true≢false (sym t ∙ idle)));
          begins = mine.begins;
          begins_beside = mine.begins_beside;
          last = mine.last;
          met = inl (omega arith);
          owns = mine.owns;
        } in (
          w,
          keeps,
          tt,
          inr record {
            k = h.k;
            log = h.log;
            holder = h.holder;
            words = set;
            homes = h.homes;
            few = h.few;
            short = h.short;
            views = Standing-keep (AtWork h.k h.log h.holder) seats (length h.log) s.views h.views id me.0 at (AtWork h.k h.log h.holder) w (λ i u _ o. o) own refl refl;
            worker = h.worker;
            worker_is = set_else s.views id h.holder w (other_works list fixed_of fixed seats id me.0 idle s h at) ∙ h.worker_is;
            working = h.working;
          },
          (
            (λ even. absurd (omega (arith, even, found))),
            (λ _. record {
              slots = refl;
              view = ap found_out (omega (arith, found));
              later = AtMost-later h.k me.0.last (slice_index s.words 1 / 2 + 1) (mine.last idle) turn;
              shared = works_less list fixed_of fixed seats id me.0 idle s h at;
            }),
          ),
        )
