-- What waits on a wire stands in the history at its place, after every list of entries.
use Rattle.std.proofs.Common.{◌≡◌, ap, arith, cond, refl, subst, suc, zero, ◌∙◌}
use Rattle.std.specs.List.{slice_get}
use Rattle.smc_num.specs.declared.LinkId.{LinkId}
use Rattle.smc_num.specs.declared.Side.{Side}
use Rattle.pipe_model.specs.declared.post.Post.{Post}
use Rattle.pipe_model.specs.declared.post.Placed.{Placed}
use Rattle.pipe_model.specs.declared.entry.Entry.{Entry}
use Rattle.smc_num.specs.Names.{head}
use Rattle.pipe_model.specs.History.{next_number, numbered, post_at}
use Rattle.pipe_model.specs.Wires.{if_latest, is_on, leaves, unlanded}
use Rattle.std.specs.Prelude.{Bool, List, Option, Some, [], drop, false, filter, length, option_and_then, true, ℕ, ◌++◌, ◌+◌, ◌-◌, ◌∷◌, ◌≤◌}

-- a post stands in the history at its place
pub record IsIn (past : List Entry) (c : Placed) : Type 0 where
  pub known : post_at c.at past ≡ Some c.post
  pub from_one : 1 ≤ c.at.entry
  pub to_last : c.at.entry ≤ length past

abbrev Each : {X : Type 0} → (X → Type 0) → List X → Type 0
Each P [] = Unit {0}
Each P (x ∷ xs) = P x × Each P xs

each-map : {X : Type 0} (P Q : X → Type 0) → ((x : X) → P x → Q x) → (xs : List X) → Each P xs → Each Q xs
each-map P Q f [] all = tt
each-map P Q f (x ∷ xs) all = (f x all.0, each-map P Q f xs all.1)

each-append : {X : Type 0} (P : X → Type 0) (xs ys : List X) → Each P xs → Each P ys → Each P (xs ++ ys)
each-append P [] ys a b = b
each-append P (x ∷ xs) ys a b = (a.0, each-append P xs ys a.1 b)

each-drop : {X : Type 0} (P : X → Type 0) (n : ℕ) (xs : List X) → Each P xs → Each P (drop n xs)
each-drop P zero xs a = a
each-drop P (suc n) [] a = tt
each-drop P (suc n) (x ∷ xs) a = each-drop P n xs a.1

keep : {X : Type 0} (P : X → Type 0) (b : Bool) (x : X) (xs : List X) → P x → Each P xs → Each P (cond b (x ∷ xs) xs)
keep P true x xs p a = (p, a)
keep P false x xs p a = a

each-filter : {X : Type 0} (P : X → Type 0) (f : X → Bool) (xs : List X) → Each P xs → Each P (filter f xs)
each-filter P f [] a = tt
each-filter P f (x ∷ xs) a = keep P (f x) x (filter f xs) a.0 (each-filter P f xs a.1)

-- an older post is found at the same place after one more entry
older-index : (l n : ℕ) → n ≤ l → suc l - n ≡ suc (l - n)
older-index l n le = omega (arith, le)

abbrev post-in : ℕ → Entry → Option Post
post-in k e = slice_get e.posts k

stays-at : (e : Entry) (past : List Entry) (n k : ℕ) → n ≤ length past → option_and_then (post-in k) (slice_get (e ∷ past) (suc (length past) - n)) ≡ option_and_then (post-in k) (slice_get past (length past - n))
stays-at e past n k le = rw (older-index (length past) n le) refl

stays : (e : Entry) (past : List Entry) (c : Placed) → IsIn past c → IsIn (e ∷ past) c
stays e past c i = record {
  known = stays-at e past c.at.entry (c.at.post - 1) i.to_last ∙ i.known;
  from_one = i.from_one;
  to_last = omega (arith, i.to_last);
}

-- the posts of the newest entry are found at their places
get-after : (pre : List Post) (p : Post) (ps : List Post) → slice_get (pre ++ p ∷ ps) (length pre) ≡ Some p
get-after [] p ps = refl
get-after (q ∷ pre) p ps = get-after pre p ps

newest-index : (l : ℕ) → suc l - (l + 1) ≡ 0
newest-index l = omega arith

less-one : (l : ℕ) → l + 1 - 1 ≡ l
less-one l = omega arith

new-at : (e : Entry) (past : List Entry) (pre : List Post) (p : Post) (ps : List Post) → e.posts ≡ pre ++ p ∷ ps
    → option_and_then (post-in (length pre + 1 - 1)) (slice_get (e ∷ past) (suc (length past) - (length past + 1))) ≡ Some p
new-at e past pre p ps is = rw (newest-index (length past), less-one (length pre)) (ap (λ qs. slice_get qs (length pre)) is ∙ get-after pre p ps)

again-at : (pre : List Post) (p : Post) (ps : List Post) → pre ++ p ∷ ps ≡ (pre ++ p ∷ []) ++ ps
again-at [] p ps = refl
again-at (q ∷ pre) p ps = ap (λ qs. q ∷ qs) (again-at pre p ps)

one-more : (pre : List Post) (p : Post) → length (pre ++ p ∷ []) ≡ length pre + 1
one-more [] p = refl
one-more (q ∷ pre) p = omega (arith, one-more pre p)

new-posts : (e : Entry) (past : List Entry) (pre ps : List Post) (n : ℕ) → e.posts ≡ pre ++ ps → n ≡ length pre + 1 → Each (IsIn (e ∷ past)) (numbered (next_number past) n ps)
new-posts e past pre [] n is at = tt
new-posts e past pre (p ∷ ps) n is at = (
  rw at (record { known = new-at e past pre p ps is; from_one = omega arith; to_last = omega arith }),
  new-posts e past (pre ++ p ∷ []) ps (n + 1) (is ∙ again-at pre p ps) (omega (arith, at, one-more pre p)),
)

-- each post that waits on a wire stands in the history
waiting-in : (link : LinkId) (dir : Side) (past : List Entry) → Each (IsIn past) (unlanded link dir past)
waiting-in link dir [] = tt
waiting-in link dir (e ∷ older) =
    let off : ℕ = if_latest link older (leaves dir link.slot e.event e.reply) in
    each-append (IsIn (e ∷ older)) (drop off (unlanded link dir older)) (filter (λ c. is_on link dir c.post) (numbered (next_number older) 1 e.posts))
    (each-drop (IsIn (e ∷ older)) off (unlanded link dir older) (each-map (IsIn older) (IsIn (e ∷ older)) (stays e older) (unlanded link dir older) (waiting-in link dir older)))
    (each-filter (IsIn (e ∷ older)) (λ c. is_on link dir c.post) (numbered (next_number older) 1 e.posts) (new-posts e older [] e.posts 1 refl refl))

first-in : (past : List Entry) (c : Placed) (cs : List Placed) → Each (IsIn past) cs → head cs ≡ Some c → IsIn past c
first-in past c [] all e = cc
first-in past c (d ∷ cs) all e = subst (IsIn past) (some-is d c e) all.0
  where
    some-is : (d c : Placed) → Some d ≡ Some c → d ≡ c
    some-is d c e = cc

-- the first that waits does
pub first-waiting-in : (link : LinkId) (dir : Side) (past : List Entry) (c : Placed) → head (unlanded link dir past) ≡ Some c → post_at c.at past ≡ Some c.post
first-waiting-in link dir past c e = let i = first-in past c (unlanded link dir past) (waiting-in link dir past) e in i.known
