-- Of what all pipes post with an entry, the CDC messages under one token are those of one end.
use Rattle.std.specs.Prelude.{Option, cond}
use Rattle.std.proofs.Common.{Bool, List, [], ap, append-nil, arith, eq-eqb, eqb-true, false, filter, filter_map, flat_map, map, refl, suc, sym, true, true≢false, zero, ℕ, ◌++◌, ◌+◌, ◌-◌, ◌<◌, ◌==◌, ◌∙◌, ◌∷◌, ◌≡◌, ◌≤◌}
use Rattle.std.proofs.lemmas.List.Elements.{filter_map-append}
use Rattle.std.specs.List.{range_with_len}
use Rattle.pipe_model.specs.declared.sent.Sent.{Sent}
use Rattle.history_laws.specs.Words.{Entry, Setup, Side, group_on, items, part, posts_of, terms_of}

-- lists
pub filter_map-flat : {X Y Z : Type 0} (f : Y → Option Z) (g : X → List Y) (xs : List X) → filter_map f (flat_map g xs) ≡ flat_map (λ x. filter_map f (g x)) xs
filter_map-flat f g [] = refl
filter_map-flat f g (x ∷ xs) = filter_map-append f (g x) (flat_map g xs) ∙ ap (λ zs. filter_map f (g x) ++ zs) (filter_map-flat f g xs)

pub flat-none : {X Y : Type 0} (f : X → List Y) (xs : List X) → ((x : X) → f x ≡ []) → flat_map f xs ≡ []
flat-none f [] e = refl
flat-none f (x ∷ xs) e = ap (λ ys. ys ++ flat_map f xs) (e x) ∙ flat-none f xs e

module _ {Y : Type 0} (f : ℕ → List Y) (p : ℕ → Bool) (s : ℕ) (else_none : (t : ℕ) → (t == s) ≡ false → f t ≡ []) where
  abbrev From : ℕ → ℕ → List Y
  From b n = flat_map f (filter p (map (λ k. k - 1) (range_with_len b n)))

  kept-none : (t : ℕ) (c : Bool) (rest : List ℕ) → (t == s) ≡ false → flat_map f (cond c (t ∷ rest) rest) ≡ flat_map f rest
  kept-none t true rest e = ap (λ ys. ys ++ flat_map f rest) (else_none t e)
  kept-none t false rest e = refl

  not-here : (t : ℕ) (c : Bool) → (t == s) ≡ c → (t ≡ s → ⊥) → c ≡ false
  not-here t true e n = absurd (n (eqb-true t s e))
  not-here t false e n = refl

  pub behind : (b n : ℕ) → s + 1 < b → From b n ≡ []
  behind b zero l = refl
  behind b (suc n) l =
      let i : (b - 1 ≡ s) → ⊥ = λ e. omega (arith, l, e) in
      kept-none (b - 1) (p (b - 1)) _ (not-here (b - 1) (b - 1 == s) refl i) ∙ behind (b + 1) n (omega (arith, l))

  pub met : (b n : ℕ) → p s ≡ true → 1 ≤ b → b ≤ s + 1 → s + 1 < b + n → From b n ≡ f s
  met b zero t o l r = absurd (omega (arith, l, r))
  met b (suc n) t o l r = by (b - 1 == s) refl (λ i. met (b + 1) n t (omega arith) (omega (arith, l, i, o)) (omega (arith, r)))
    where
      by : (c : Bool) → (b - 1 == s) ≡ c → (((b - 1 ≡ s) → ⊥) → From (b + 1) n ≡ f s) → From b (suc n) ≡ f s
      by true e next =
          let same : b - 1 ≡ s = eqb-true (b - 1) s e in
          ap (λ c. flat_map f (cond c ((b - 1) ∷ filter p (map (λ k. k - 1) (range_with_len (b + 1) n))) (filter p (map (λ k. k - 1) (range_with_len (b + 1) n))))) (ap (λ k. p k) same ∙ t) ∙
          ap (λ ys. f (b - 1) ++ ys) (behind (b + 1) n (omega (arith, same, o))) ∙ append-nil (f (b - 1)) ∙ ap (λ k. f k) same
      by false e next =
          let i : (b - 1 ≡ s) → ⊥ = λ g. true≢false (sym (eq-eqb (b - 1) s g) ∙ e) in
          kept-none (b - 1) (p (b - 1)) _ e ∙ next i

module _ (setup : Setup) (payload : List ℕ) (e : Entry) (past : List Entry) where
  -- the messages that the pipe of a socket gives an end to post
  abbrev pub given : Side → ℕ → List Sent
  given x s = posts_of (terms_of setup) x (items payload (group_on s past) s e past) (part payload (group_on s past) s past)
