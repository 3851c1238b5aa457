-- The first event that would do something: on the one slot, and among those of many sockets, socket by socket.
use Rattle.std.specs.Prelude.{◌≡◌, ◌<◌, ◌≤◌, ℕ, ◌+◌, suc, Bool, true, false, if◌then◌else◌, List, [], ◌∷◌, ◌++◌, length, drop, slice_index_or, Option, Some, None}
use Rattle.std.specs.Option.{option_or}
use Rattle.std.specs.List.{find, flat_map}
use Rattle.std.proofs.Common.{ap, sym, refl, ◌∙◌, arith}
use Rattle.std.proofs.Math.Seq.{drop-cons}
use Rattle.std.proofs.Math.ListN.{drop_of_length-le}
use Rattle.std.proofs.lemmas.List.Folds.{find-append}
use Rattle.smc_num.specs.declared.Side.TheVariants.{A, B}
use Rattle.smc_num.specs.Names.{up_to}
use Rattle.pipe_model.specs.declared.event.Event.{Event}
use Rattle.pipe_model.specs.declared.event.Event.TheVariants.{Deliver, Complete}
use Rattle.world_core.specs.Steps.{slot_events}

module _ {X : Type 0} (p : X → Bool) (f : ℕ → List X) (xs : List ℕ) where
  pub one-more : (i : ℕ) → i < length xs → find p (flat_map f (drop i xs)) ≡ option_or (find p (f (slice_index_or xs i 0))) (find p (flat_map f (drop (i + 1) xs)))
  one-more i less =
      let more : suc i ≡ i + 1 = omega arith in
      ap (λ ys. find p (flat_map f ys)) (drop-cons xs i 0 less) ∙ find-append p (f (slice_index_or xs i 0)) (flat_map f (drop (suc i) xs))
      ∙ ap (λ n. option_or (find p (f (slice_index_or xs i 0))) (find p (flat_map f (drop n xs)))) more

  pub found-here : (i : ℕ) (x : X) → i < length xs → find p (flat_map f (drop i xs)) ≡ find p (flat_map f xs) → find p (f (slice_index_or xs i 0)) ≡ Some x → Some x ≡ find p (flat_map f xs)
  found-here i x less whole here = sym (ap (λ o. option_or o (find p (flat_map f (drop (i + 1) xs)))) here) ∙ sym (one-more i less) ∙ whole

  pub found-later : (i : ℕ) → i < length xs → find p (flat_map f (drop i xs)) ≡ find p (flat_map f xs) → find p (f (slice_index_or xs i 0)) ≡ None → find p (flat_map f (drop (i + 1) xs)) ≡ find p (flat_map f xs)
  found-later i less whole none = sym (ap (λ o. option_or o (find p (flat_map f (drop (i + 1) xs)))) none) ∙ sym (one-more i less) ∙ whole

  pub found-nowhere : (i : ℕ) → length xs ≤ i → find p (flat_map f (drop i xs)) ≡ find p (flat_map f xs) → None ≡ find p (flat_map f xs)
  found-nowhere i all whole = ap (λ ys. find p (flat_map f ys)) (sym (drop_of_length-le xs all)) ∙ whole

-- the first of two lists is found before any of the second
pub found-first : {X : Type 0} (p : X → Bool) (xs ys : List X) (x : X) → Some x ≡ find p xs → Some x ≡ find p (xs ++ ys)
found-first p xs ys x e = ap (λ o. option_or o (find p ys)) e ∙ sym (find-append p xs ys)

pub found-second : {X : Type 0} (p : X → Bool) (xs ys : List X) (o : Option X) → None ≡ find p xs → o ≡ find p ys → o ≡ find p (xs ++ ys)
found-second p xs ys o none e = e ∙ ap (λ a. option_or a (find p ys)) none ∙ sym (find-append p xs ys)

-- the four events of the one slot are looked at in turn
module _ (p : Event → Bool) where
  here : (x : Event) (xs : List Event) → p x ≡ true → Some x ≡ find p (x ∷ xs)
  here x xs e = ap (λ b. if b then Some x else find p xs) (sym e)

  later : (x : Event) (xs : List Event) (o : Option Event) → p x ≡ false → o ≡ find p xs → o ≡ find p (x ∷ xs)
  later x xs o e found = found ∙ ap (λ b. if b then Some x else find p xs) (sym e)

  pub one-slot : (links : ℕ) (o : Option Event) → links ≡ 1 → o ≡ find p (slot_events 1) → o ≡ find p (flat_map slot_events (up_to links))
  one-slot links o one found = found ∙ ap (λ n. find p (flat_map slot_events (up_to n))) (sym one)

  pub lands-a : p (Deliver 1 A) ≡ true → Some (Deliver 1 A) ≡ find p (slot_events 1)
  lands-a a = here (Deliver 1 A) (Deliver 1 B ∷ Complete 1 A ∷ Complete 1 B ∷ []) a

  pub lands-b : p (Deliver 1 A) ≡ false → p (Deliver 1 B) ≡ true → Some (Deliver 1 B) ≡ find p (slot_events 1)
  lands-b a b = later (Deliver 1 A) (Deliver 1 B ∷ Complete 1 A ∷ Complete 1 B ∷ []) _ a (here (Deliver 1 B) (Complete 1 A ∷ Complete 1 B ∷ []) b)

  pub completes-a : p (Deliver 1 A) ≡ false → p (Deliver 1 B) ≡ false → p (Complete 1 A) ≡ true → Some (Complete 1 A) ≡ find p (slot_events 1)
  completes-a a b c = later (Deliver 1 A) (Deliver 1 B ∷ Complete 1 A ∷ Complete 1 B ∷ []) _ a (later (Deliver 1 B) (Complete 1 A ∷ Complete 1 B ∷ []) _ b
      (here (Complete 1 A) (Complete 1 B ∷ []) c))

  pub completes-b : p (Deliver 1 A) ≡ false → p (Deliver 1 B) ≡ false → p (Complete 1 A) ≡ false → p (Complete 1 B) ≡ true → Some (Complete 1 B) ≡ find p (slot_events 1)
  completes-b a b c d = later (Deliver 1 A) (Deliver 1 B ∷ Complete 1 A ∷ Complete 1 B ∷ []) _ a (later (Deliver 1 B) (Complete 1 A ∷ Complete 1 B ∷ []) _ b
      (later (Complete 1 A) (Complete 1 B ∷ []) _ c (here (Complete 1 B) [] d)))

  pub nothing-moves : p (Deliver 1 A) ≡ false → p (Deliver 1 B) ≡ false → p (Complete 1 A) ≡ false → p (Complete 1 B) ≡ false → None ≡ find p (slot_events 1)
  nothing-moves a b c d = later (Deliver 1 A) (Deliver 1 B ∷ Complete 1 A ∷ Complete 1 B ∷ []) _ a (later (Deliver 1 B) (Complete 1 A ∷ Complete 1 B ∷ []) _ b
      (later (Complete 1 A) (Complete 1 B ∷ []) _ c (later (Complete 1 B) [] _ d refl)))
