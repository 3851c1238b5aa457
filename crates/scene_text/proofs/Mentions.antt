-- A name is among those that were mentioned, or goes behind them.
use Rattle.std.proofs.Common.{◌≡◌, ℕ, ◌+◌, ◌<◌, ◌≤◌, Bool, true, false, List, [], ◌∷◌, ◌++◌, length, map, Option, Some, None, position, String, string_bytes, cond, is_some, refl, ap, sym, arith, true≢false, suc}
use Rattle.std.specs.List.{position_or_len}
use Rattle.std.specs.Prelude.{not, nat_lt}
use Rattle.std.specs.Str.{bytes_eq}
use Rattle.std.specs.Map.{keys_of}
use Rattle.std.proofs.lemmas.Bool.{cond-true, cond-false, ltb-true, ltb-false}
use Rattle.std.proofs.lemmas.Option.{cond_some}
use Rattle.std.proofs.lemmas.List.{length-map, length-append}
use Rattle.scene_text.specs.Scenes.{socket_of, mentioned}
use Rattle.scene_text.proofs.Cutting.{cond_none}

module _ {X : Type 0} (p : X → Bool) where
  pub place_within : (xs : List X) → position_or_len p xs ≤ length xs
  place_within [] = omega arith
  place_within (x ∷ xs) =
      let h = place_within xs in
      elim (p x) as (λ b. cond (not b) (1 + position_or_len p xs) 0 ≤ suc (length xs)) [ true ↦ omega arith | false ↦ omega arith ]

pub socket_within : (names : List (List ℕ)) (name : List ℕ) → socket_of names name ≤ length names
socket_within names name = place_within (bytes_eq name) names

module _ {X Y : Type 0} (f : X → Y) (p : Y → Bool) where
  place_in_map : (xs : List X) → position_or_len (λ x. p (f x)) xs ≡ position_or_len p (map f xs)
  place_in_map [] = refl
  place_in_map (x ∷ xs) = rw (place_in_map xs) refl

  pub position-map : (xs : List X) → position (λ x. p (f x)) xs ≡ position p (map f xs)
  position-map xs = rw (place_in_map xs, sym (length-map xs f)) refl

-- the texts that are keys, in their order
abbrev pub texts : {A : Type 0} → List (String A × Unit {0}) → List (List ℕ)
texts es = map string_bytes (keys_of es)

pub position-texts : {A : Type 0} (es : List (String A × Unit {0})) (name : List ℕ) → position (λ k. bytes_eq name (string_bytes k)) (keys_of es) ≡ position (bytes_eq name) (texts es)
position-texts es name = position-map string_bytes (bytes_eq name) (keys_of es)

pub texts-push : {A : Type 0} (es : List (String A × Unit {0})) (key : String A) → texts (es ++ (key, tt) ∷ []) ≡ texts es ++ string_bytes key ∷ []
texts-push [] key = refl
texts-push (e ∷ es) key = ap (λ r. string_bytes e.0 ∷ r) (texts-push es key)

pub is_none : {X : Type 0} (o : Option X) → is_some o ≡ false → o ≡ None
is_none None e = refl
is_none (Some x) e = absurd (true≢false e)

module _ (names : List (List ℕ)) (name : List ℕ) where
  pub found : (s : ℕ) → position (bytes_eq name) names ≡ Some s → (s ≡ socket_of names name) × (names ≡ mentioned names name)
  found s e =
      let at = cond_some _ _ _ e in
      (sym at.1, sym (cond-true _ names (names ++ name ∷ []) at.0))

  pub added : position (bytes_eq name) names ≡ None → (length names ≡ socket_of names name) × (names ++ name ∷ [] ≡ mentioned names name)
  added e =
      let past = cond_none _ _ e in
      let within = place_within (bytes_eq name) names in
      let beyond : length names ≤ socket_of names name = ltb-false _ _ past in
      (omega arith, sym (cond-false _ names (names ++ name ∷ []) past))

below : (s : ℕ) (names more : List (List ℕ)) → s ≤ length names → length more ≡ length names + 1 → (b : Bool) → (b ≡ true → s < length names) → s < length (cond b names more)
below s names more h e true k = k refl
below s names more h e false k = omega arith

-- the number of a name is one of those that are given once it is mentioned
pub socket_below : (names : List (List ℕ)) (name : List ℕ) → socket_of names name < length (mentioned names name)
socket_below names name =
    below (socket_of names name) names (names ++ name ∷ []) (socket_within names name) (length-append names (name ∷ [])) (nat_lt (socket_of names name) (length names)) (ltb-true _ _)
