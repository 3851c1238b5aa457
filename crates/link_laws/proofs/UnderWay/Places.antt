-- What waits on a wire stands in the history at its place, after every list of entries; and what a delivery is about.
use Rattle.std.specs.Prelude.{Bool, List, None, Option, Some, [], drop, false, filter, if◌then◌else◌, length, option_and_then, option_map, true, ℕ, ◌++◌, ◌+◌, ◌-◌, ◌∷◌, ◌≤◌}
use Rattle.std.proofs.Common.{ap, arith, cond, refl, subst, suc, sym, true≢false, zero, ◌&&◌, ◌∙◌, ◌≡◌}
use Rattle.std.specs.List.{slice_get}
use Rattle.pipe_model.specs.Wires.{landing}
use Rattle.history_laws.specs.Words.{Entry, Known, LinkId, Llc, LlcMessage, Placed, Post, Side, at_slot, fabric, head, if_latest, is_dead, is_on, landing_on, latest, leaves, next_number, numbered, post_at, same_link, same_side, unlanded}
use Rattle.history_laws.proofs.Basics.{link-is, none-is, same-is, some-is}
use Rattle.link_laws.proofs.Sound.{found-slot}
use Rattle.link_laws.proofs.UnderWay.OwnWires.{AreOn, own-posts}

-- a post stands in the history at its place
pub record IsIn (past : List Entry) (c : Placed) : Type 0 where
  pub known : post_at c.at past ≡ Some c.post
  pub from_one : 1 ≤ c.at.entry
  pub to_last : c.at.entry ≤ length past

abbrev Each : {X : Type 0} → (X → Type 0) → List X → Type 0
Each P [] = Unit {0}
Each P (x ∷ xs) = P x × Each P xs

each-map : {X : Type 0} (P Q : X → Type 0) → ((x : X) → P x → Q x) → (xs : List X) → Each P xs → Each Q xs
each-map P Q f [] all = tt
each-map P Q f (x ∷ xs) all = (f x all.0, each-map P Q f xs all.1)

each-append : {X : Type 0} (P : X → Type 0) (xs ys : List X) → Each P xs → Each P ys → Each P (xs ++ ys)
each-append P [] ys a b = b
each-append P (x ∷ xs) ys a b = (a.0, each-append P xs ys a.1 b)

each-drop : {X : Type 0} (P : X → Type 0) (n : ℕ) (xs : List X) → Each P xs → Each P (drop n xs)
each-drop P zero xs a = a
each-drop P (suc n) [] a = tt
each-drop P (suc n) (x ∷ xs) a = each-drop P n xs a.1

keep : {X : Type 0} (P : X → Type 0) (b : Bool) (x : X) (xs : List X) → P x → Each P xs → Each P (cond b (x ∷ xs) xs)
keep P true x xs p a = (p, a)
keep P false x xs p a = a

each-filter : {X : Type 0} (P : X → Type 0) (f : X → Bool) (xs : List X) → Each P xs → Each P (filter f xs)
each-filter P f [] a = tt
each-filter P f (x ∷ xs) a = keep P (f x) x (filter f xs) a.0 (each-filter P f xs a.1)

-- an older post is found at the same place after one more entry
older-index : (l n : ℕ) → n ≤ l → suc l - n ≡ suc (l - n)
older-index l n le = omega (arith, le)

abbrev post-in : ℕ → Entry → Option Post
post-in k e = slice_get e.posts k

stays-at : (e : Entry) (past : List Entry) (n k : ℕ) → n ≤ length past → option_and_then (post-in k) (slice_get (e ∷ past) (suc (length past) - n)) ≡ option_and_then (post-in k) (slice_get past (length past - n))
stays-at e past n k le = rw (older-index (length past) n le) refl

stays : (e : Entry) (past : List Entry) (c : Placed) → IsIn past c → IsIn (e ∷ past) c
stays e past c i = record {
  known = stays-at e past c.at.entry (c.at.post - 1) i.to_last ∙ i.known;
  from_one = i.from_one;
  to_last = omega (arith, i.to_last);
}

-- the posts of the newest entry are found at their places
get-after : (pre : List Post) (p : Post) (ps : List Post) → slice_get (pre ++ p ∷ ps) (length pre) ≡ Some p
get-after [] p ps = refl
get-after (q ∷ pre) p ps = get-after pre p ps

newest-index : (l : ℕ) → suc l - (l + 1) ≡ 0
newest-index l = omega arith

less-one : (l : ℕ) → l + 1 - 1 ≡ l
less-one l = omega arith

new-at : (e : Entry) (past : List Entry) (pre : List Post) (p : Post) (ps : List Post) → e.posts ≡ pre ++ p ∷ ps
    → option_and_then (post-in (length pre + 1 - 1)) (slice_get (e ∷ past) (suc (length past) - (length past + 1))) ≡ Some p
new-at e past pre p ps is = rw (newest-index (length past), less-one (length pre)) (ap (λ qs. slice_get qs (length pre)) is ∙ get-after pre p ps)

again-at : (pre : List Post) (p : Post) (ps : List Post) → pre ++ p ∷ ps ≡ (pre ++ p ∷ []) ++ ps
again-at [] p ps = refl
again-at (q ∷ pre) p ps = ap (λ qs. q ∷ qs) (again-at pre p ps)

one-more : (pre : List Post) (p : Post) → length (pre ++ p ∷ []) ≡ length pre + 1
one-more [] p = refl
one-more (q ∷ pre) p = omega (arith, one-more pre p)

new-posts : (e : Entry) (past : List Entry) (pre ps : List Post) (n : ℕ) → e.posts ≡ pre ++ ps → n ≡ length pre + 1 → Each (IsIn (e ∷ past)) (numbered (next_number past) n ps)
new-posts e past pre [] n is at = tt
new-posts e past pre (p ∷ ps) n is at = (
  rw at (record { known = new-at e past pre p ps is; from_one = omega arith; to_last = omega arith }),
  new-posts e past (pre ++ p ∷ []) ps (n + 1) (is ∙ again-at pre p ps) (omega (arith, at, one-more pre p)),
)

-- each post that waits on a wire stands in the history
waiting-in : (link : LinkId) (dir : Side) (past : List Entry) → Each (IsIn past) (unlanded link dir past)
waiting-in link dir [] = tt
waiting-in link dir (e ∷ older) =
    let off : ℕ = if_latest link older (leaves dir link.slot e.event e.reply) in
    each-append (IsIn (e ∷ older)) (drop off (unlanded link dir older)) (filter (λ c. is_on link dir c.post) (numbered (next_number older) 1 e.posts))
    (each-drop (IsIn (e ∷ older)) off (unlanded link dir older) (each-map (IsIn older) (IsIn (e ∷ older)) (stays e older) (unlanded link dir older) (waiting-in link dir older)))
    (each-filter (IsIn (e ∷ older)) (λ c. is_on link dir c.post) (numbered (next_number older) 1 e.posts) (new-posts e older [] e.posts 1 refl refl))

first-in : (past : List Entry) (c : Placed) (cs : List Placed) → Each (IsIn past) cs → head cs ≡ Some c → IsIn past c
first-in past c [] all e = cc
first-in past c (d ∷ cs) all e = subst (IsIn past) (some-is d c e) all.0
  where
    some-is : (d c : Placed) → Some d ≡ Some c → d ≡ c
    some-is d c e = cc

-- the first that waits does
pub first-waiting-in : (link : LinkId) (dir : Side) (past : List Entry) (c : Placed) → head (unlanded link dir past) ≡ Some c → post_at c.at past ≡ Some c.post
first-waiting-in link dir past c e = let i = first-in past c (unlanded link dir past) (waiting-in link dir past) e in i.known

-- what a delivery is about: the front of the latest link of its slot, which is not dead
pub record IsLanding (slot : ℕ) (dir : Side) (past : List Entry) (c : Placed) : Type 0 where
  pub link : LinkId
  pub rest : List Placed
  pub slot_is : link.slot ≡ slot
  pub last : latest link.slot past ≡ Some link
  pub alive : is_dead link past ≡ false
  pub front : unlanded link dir past ≡ c ∷ rest
  pub known : post_at c.at past ≡ Some c.post
  pub on : is_on link dir c.post ≡ true

-- what would land on a slot is at the front of its latest link
pub landing-is : (slot : ℕ) (dir : Side) (past : List Entry) (c : Placed) → landing slot dir past ≡ Some c → IsLanding slot dir past c
landing-is slot dir past c e = by (latest slot past) refl e
  where
    by : (o : Option LinkId) → latest slot past ≡ o → option_and_then (λ link. landing_on link dir past) o ≡ Some c → IsLanding slot dir past c
    by None l e = absurd (none-is c e)
    by (Some link) l e = at (at_slot slot (fabric past).latest) refl l
      where
        at : (k : Option Known) → at_slot slot (fabric past).latest ≡ k → option_map (λ (n : Known). n.link) k ≡ Some link → IsLanding slot dir past c
        at None is f = absurd (none-is link f)
        at (Some n) is f = dead (is_dead link past) refl e
          where
            slot_of : link.slot ≡ slot
            slot_of = ap (λ (l : LinkId). l.slot) (sym (some-is n.link link f)) ∙ found-slot slot n (fabric past).latest is

            dead : (b : Bool) → is_dead link past ≡ b → (if b then None else head (unlanded link dir past)) ≡ Some c → IsLanding slot dir past c
            dead true d e = absurd (none-is c e)
            dead false d e = wire (unlanded link dir past) refl e
              where
                wire : (cs : List Placed) → unlanded link dir past ≡ cs → head cs ≡ Some c → IsLanding slot dir past c
                wire [] w e = absurd (none-is c e)
                wire (b ∷ bs) w e = record {
                  link = link;
                  rest = bs;
                  slot_is = slot_of;
                  last = ap (λ k. latest k past) slot_of ∙ l;
                  alive = d;
                  front = w ∙ ap (λ (b : Placed). b ∷ bs) (some-is b c e);
                  known = first-waiting-in link dir past c (ap head w ∙ e);
                  on = let own = subst (λ cs. AreOn link dir cs) w (own-posts link dir past) in ap (λ (b : Placed). is_on link dir b.post) (sym (some-is b c e)) ∙ own.0;
                }

-- an LLC message on a wire is its side's, on its link
pub own-message : (l : LinkId) (x from : Side) (link : LinkId) (m : LlcMessage) → is_on l x (Llc from link m) ≡ true → (from ≡ x) × (link ≡ l)
own-message l x from link m e = by (same_side x from) (same_link l link) refl refl e
  where
    by : (b d : Bool) → same_side x from ≡ b → same_link l link ≡ d → (b && d) ≡ true → (from ≡ x) × (link ≡ l)
    by true true p q e = (sym (same-is x from p), sym (link-is l link q))
    by true false p q e = absurd (true≢false (sym e))
    by false d p q e = absurd (true≢false (sym e))
