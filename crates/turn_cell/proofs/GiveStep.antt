-- The swap of the turn word keeps the rule.
use Rattle.std.proofs.Common.{◌≡◌, ℕ, ◌+◌, ◌-◌, ◌*◌, ◌^◌, ◌<◌, ◌≢◌, inl, inr, Bool, List, [], ◌∷◌, length, true, false, true≢false, sym, refl, ap, ap₂, ◌∙◌, ⊎_elim, Option, Some, arith}
use Rattle.std.specs.Prelude.{slice_set}
use Rattle.atomic_table.specs.Table.{Me, Step, gives, put_back, rest, Allows}
use Rattle.turn_cell.specs.declared.rule.SeatView.{SeatView}
use Rattle.turn_cell.specs.Keeping.{AtHome, AtWork, AtMost, Home, Kept}
use Rattle.turn_cell.specs.Plays.{GivesBack}
use Rattle.turn_cell.proofs.TurnWords.{AtMost-more, AtMost-again, is_last}
use Rattle.turn_cell.proofs.Standings.{Standing-keep}

module _ {E M F : Type 0} (list : M → List E) (fixed_of : M → F) (fixed : F) (seats slots id : ℕ) (me : Me (Option M) (SeatView E)) (st : Step (Option M)) where
  -- the seat without the turn
  without : SeatView E
  without = record { seen = me.0.seen; beside = me.0.beside; mine = me.0.mine; seats = me.0.seats; tries = me.0.tries; last = me.0.last; met = me.0.met; has_turn = false }

  -- only the holder has the turn
  others_idle : (k : ℕ) (log : List E) (holder i : ℕ) (v : SeatView E) → id ≡ holder → i ≢ id → AtWork k log holder i v → v.has_turn ≡ false
  others_idle k log holder i v mine apart o = by v.has_turn refl
    where
      by : (t : Bool) → v.has_turn ≡ t → v.has_turn ≡ false
      by true e = absurd (apart ((o.working e).is_holder ∙ sym mine))
      by false e = e

  pub gives_turn : (m : M) (next : ℕ) → me.0.has_turn ≡ true → me.1 ≡ (0, Some m) ∷ [] → list m ≡ me.0.seen → fixed_of m ≡ fixed → (me.0.last < 2 ^ 63 → next ≡ 2 * me.0.last) → (me.0.last ≡ 2 ^ 63 → next ≡ 2 ^ 64 - 2)
      → Allows (Kept list fixed_of fixed seats) slots id me 1 (λ _. next) (GivesBack st me)
  unfolding without
  gives_turn m next working slot same part early late s (inl h) len at range = absurd (true≢false (sym working ∙ (h.views.each id me.0 at).idle))
  gives_turn m next working slot same part early late s (inr h) len at range =
      let mine = h.views.each id me.0 at in
      let turn = mine.working working in
      let set : (n : ℕ) → next ≡ n → slice_set s.words 1 next ≡ length h.log ∷ n ∷ [] = λ n is. ap₂ (λ (ws : List ℕ) (j : ℕ). slice_set ws 1 j) h.words is in
      -- after k turns with k at least as many as now, each seat is at home
      let home : (k : ℕ) → next ≡ 2 * k → k < 2 ^ 63 → ((n : ℕ) → AtMost h.k n → AtMost k n) → ((n : ℕ) → AtMost (h.k + 1) n → AtMost k n) → AtMost k me.0.last → Home list fixed_of fixed seats _ = λ k is few last met own. record {
        k = k;
        log = h.log;
        machine = m;
        words = set (2 * k) is;
        homes = ap₂ put_back h.homes slot;
        list_is = same ∙ turn.seen;
        fixed_is = part;
        few = few;
        short = h.short;
        views = Standing-keep (AtWork h.k h.log h.holder) seats (length h.log) s.views h.views id me.0 at (λ _ v. AtHome k h.log v) without
            (λ i v apart o. let off = others_idle h.k h.log h.holder i v turn.is_holder apart o in record { idle = off; begins = o.begins; begins_beside = o.begins_beside; last = last v.last (o.last off); met = met v.met o.met; owns = o.owns })
            record { idle = refl; begins = mine.begins; begins_beside = mine.begins_beside; last = own; met = met me.0.met mine.met; owns = mine.owns } refl refl;
      } in (
        without,
        gives,
        tt,
        inl (⊎_elim
            (λ more. home (h.k + 1) (let l = turn.number in early (omega (arith, l, more)) ∙ ap (λ n. 2 * n) l) more (λ n o. AtMost-more h.k n h.few o) (λ n o. o) (inl (let l = turn.number in omega (arith, l))))
            (λ last. home h.k (late (turn.number ∙ last) ∙ omega (arith, last)) h.few (λ n o. o) (λ n o. AtMost-again h.k n last o) (inr (last, turn.number ∙ last)))
            (is_last h.k h.few)),
        (refl, ap rest slot),
      )
