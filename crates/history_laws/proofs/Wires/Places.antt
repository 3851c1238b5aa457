-- Each post on a wire stands in the history at its place.
use Rattle.std.proofs.Common.{Bool, List, [], ap, append_assoc, arith, drop, false, filter, length, length-append, refl, slice_get, subst, suc, sym, take, true, zero, ℕ, ◌++◌, ◌+◌, ◌-◌, ◌∙◌, ◌∷◌, ◌≡◌}
use Rattle.std.specs.Prelude.{Some, cond, option_and_then}
use Rattle.history_laws.specs.Words.{Entry, LinkId, Placed, Post, Side, completes_later, is_on, next_number, numbered, post_at, uncompleted, unlanded}
use Rattle.history_laws.specs.Wires.{EachPlaced, IsPlaced, completing_now, landing_now, leaving}

module _ (P : Placed → Type 0) where
  pub placed-append : (cs ds : List Placed) → EachPlaced P cs → EachPlaced P ds → EachPlaced P (cs ++ ds)
  placed-append [] ds p q = q
  placed-append (c ∷ cs) ds p q = (p.0, placed-append cs ds p.1 q)

  pub placed-drop : (n : ℕ) (cs : List Placed) → EachPlaced P cs → EachPlaced P (drop n cs)
  placed-drop zero [] p = tt
  placed-drop zero (c ∷ cs) p = p
  placed-drop (suc n) [] p = tt
  placed-drop (suc n) (c ∷ cs) p = placed-drop n cs p.1

  pub placed-take : (n : ℕ) (cs : List Placed) → EachPlaced P cs → EachPlaced P (take n cs)
  placed-take zero [] p = tt
  placed-take zero (c ∷ cs) p = tt
  placed-take (suc n) [] p = tt
  placed-take (suc n) (c ∷ cs) p = (p.0, placed-take n cs p.1)

  by-test : (b : Bool) (c : Placed) (cs : List Placed) → P c → EachPlaced P cs → EachPlaced P (cond b (c ∷ cs) cs)
  by-test true c cs p q = (p, q)
  by-test false c cs p q = q

  pub placed-filter : (test : Placed → Bool) (cs : List Placed) → EachPlaced P cs → EachPlaced P (filter test cs)
  placed-filter test [] p = tt
  placed-filter test (c ∷ cs) p = by-test (test c) c (filter test cs) p.0 (placed-filter test cs p.1)

pub placed-more : (P Q : Placed → Type 0) → ((c : Placed) → P c → Q c) → (cs : List Placed) → EachPlaced P cs → EachPlaced Q cs
placed-more P Q f [] p = tt
placed-more P Q f (c ∷ cs) p = (f c p.0, placed-more P Q f cs p.1)

-- what stood still stands
get-suc : {X : Type 0} (x : X) (xs : List X) (i j : ℕ) → j ≡ suc i → slice_get (x ∷ xs) j ≡ slice_get xs i
get-suc x xs i j e = ap (λ k. slice_get (x ∷ xs) k) e

stood : (e : Entry) (past : List Entry) (c : Placed) → IsPlaced past c → IsPlaced (e ∷ past) c
stood e past c s =
    let n : length (e ∷ past) ≡ length past + 1 = omega arith in
    let j : length (e ∷ past) - c.at.entry ≡ suc (length past - c.at.entry) = omega (arith, s.within) in
    record {
      within = omega (arith, s.within);
      is = ap (λ o. option_and_then (λ (f : Entry). slice_get f.posts (c.at.post - 1)) o) (get-suc e past (length past - c.at.entry) (length (e ∷ past) - c.at.entry) j) ∙ s.is;
    }

-- the new ones stand in the new entry
get-behind : {X : Type 0} (xs : List X) (x : X) (ys : List X) → slice_get (xs ++ x ∷ ys) (length xs) ≡ Some x
get-behind [] x ys = refl
get-behind (y ∷ xs) x ys = get-behind xs x ys

new-ones : (e : Entry) (past : List Entry) (before posts : List Post) (first : ℕ) → e.posts ≡ before ++ posts → first ≡ length before + 1 → EachPlaced (IsPlaced (e ∷ past)) (numbered (next_number past) first posts)
new-ones e past before [] first p f = tt
new-ones e past before (post ∷ posts) first p f =
    let j : length (e ∷ past) - (length past + 1) ≡ 0 = omega arith in
    let i : first - 1 ≡ length before = omega (arith, f) in
    let n : length (before ++ post ∷ []) ≡ length before + 1 = length-append before (post ∷ []) in (
      record {
        within = omega arith;
        is = ap (λ k. option_and_then (λ (g : Entry). slice_get g.posts (first - 1)) (slice_get (e ∷ past) k)) j ∙ ap (λ k. slice_get e.posts k) i ∙ ap (λ ps. slice_get ps (length before)) p ∙ get-behind before post posts;
      },
      new-ones e past (before ++ post ∷ []) posts (first + 1) (p ∙ sym (append_assoc before (post ∷ []) posts)) (omega (arith, f, n)),
    )

-- each post that has not landed, and each that has not completed, stands at its place
pub unlanded-stand : (link : LinkId) (x : Side) (past : List Entry) → EachPlaced (IsPlaced past) (unlanded link x past)
unlanded-stand link x [] = tt
unlanded-stand link x (e ∷ past) = placed-append (IsPlaced (e ∷ past)) (drop (leaving link x e past) (unlanded link x past)) _
    (placed-drop (IsPlaced (e ∷ past)) (leaving link x e past) (unlanded link x past) (placed-more (IsPlaced past) (IsPlaced (e ∷ past)) (stood e past) (unlanded link x past) (unlanded-stand link x past)))
    (placed-filter (IsPlaced (e ∷ past)) (λ c. is_on link x c.post) (numbered (next_number past) 1 e.posts) (new-ones e past [] e.posts 1 refl (omega arith)))

pub uncompleted-stand : (link : LinkId) (x : Side) (past : List Entry) → EachPlaced (IsPlaced past) (uncompleted link x past)
uncompleted-stand link x [] = tt
uncompleted-stand link x (e ∷ past) = placed-append (IsPlaced (e ∷ past)) (drop (completing_now link x e past) (uncompleted link x past)) _
    (placed-drop (IsPlaced (e ∷ past)) (completing_now link x e past) (uncompleted link x past) (placed-more (IsPlaced past) (IsPlaced (e ∷ past)) (stood e past) (uncompleted link x past) (uncompleted-stand link x past)))
    (placed-filter (IsPlaced (e ∷ past)) (λ c. completes_later c.post) (take (landing_now link x e past) (unlanded link x past))
    (placed-take (IsPlaced (e ∷ past)) (landing_now link x e past) (unlanded link x past) (placed-more (IsPlaced past) (IsPlaced (e ∷ past)) (stood e past) (unlanded link x past) (unlanded-stand link x past))))

-- the first of them
pub first-stands : (past : List Entry) (cs : List Placed) (c : Placed) (rest : List Placed) → EachPlaced (IsPlaced past) cs → cs ≡ c ∷ rest → post_at c.at past ≡ Some c.post
first-stands past cs c rest p e = let q = subst (λ ds. EachPlaced (IsPlaced past) ds) e p in let s = q.0 in s.is
