-- Each write that an entry posts, at its place on a link, with what stands behind it there and in the entry.
use Rattle.std.proofs.Common.{Bool, List, [], ap, append_assoc, append-nil, arith, cond, drop, false, filter, filter_map, length, length-append, refl, slice_get, subst, suc, sym, true, zero, ℕ, ◌++◌, ◌+◌, ◌-◌, ◌∙◌, ◌∷◌, ◌≡◌, ◌≤◌}
use Rattle.std.specs.Prelude.{Some, option_and_then, option_map, unwrap_or}
use Rattle.std.proofs.Math.Seq.{drop-append-add}
use Rattle.pipe_model.specs.History.{entry_at}
use Rattle.pipe_model.specs.Home.{cdc_in, following_cdc}
use Rattle.history_laws.specs.Words.{Entry, LinkId, Placed, Post, Side, head, is_on, next_number, numbered}
use Rattle.history_laws.specs.Wires.{cdcs}
use Rattle.history_laws.proofs.Basics.{drop-none}
use Rattle.wire_laws.specs.Memory.{behind}
use Rattle.wire_laws.proofs.Agreement.{news-are, under}
use Rattle.wire_laws.proofs.Writes.Batches.{EachBefore}

-- that something holds of each placed post and what stands behind it
abbrev pub EachBehind : (Placed → List Placed → Type 0) → List Placed → Type 0
EachBehind P [] = Unit {0}
EachBehind P (c ∷ cs) = P c cs × EachBehind P cs

-- lists
pub behind-more : (P Q : Placed → List Placed → Type 0) (new : List Placed) → ((c : Placed) (rest : List Placed) → P c rest → Q c (rest ++ new)) → (cs : List Placed) → EachBehind P cs → EachBehind Q new → EachBehind Q (cs ++ new)
behind-more P Q new f [] a b = b
behind-more P Q new f (c ∷ cs) a b = (f c cs a.0, behind-more P Q new f cs a.1 b)

pub behind-drop : (P : Placed → List Placed → Type 0) (n : ℕ) (cs : List Placed) → EachBehind P cs → EachBehind P (drop n cs)
behind-drop P zero [] a = tt
behind-drop P zero (c ∷ cs) a = a
behind-drop P (suc n) [] a = tt
behind-drop P (suc n) (c ∷ cs) a = behind-drop P n cs a.1

pub behind-at : (P : Placed → List Placed → Type 0) (front : List Placed) (c : Placed) (rest cs : List Placed) → cs ≡ front ++ c ∷ rest → EachBehind P cs → P c rest
behind-at P front c rest cs q a = split front (subst (λ ds. EachBehind P ds) q a)
  where
    split : (ds : List Placed) → EachBehind P (ds ++ c ∷ rest) → P c rest
    split [] b = b.0
    split (d ∷ ds) b = split ds b.1

-- what holds of each, with all that stands before it, makes another thing hold of each
pub behind-where : (P Q : Placed → List Placed → Type 0) (all : List Placed) → ((front : List Placed) (c : Placed) (rest : List Placed) → all ≡ front ++ c ∷ rest → P c rest → Q c rest) → EachBehind P all → EachBehind Q all
behind-where P Q all f a = go [] all refl a
  where
    go : (front cs : List Placed) → all ≡ front ++ cs → EachBehind P cs → EachBehind Q cs
    go front [] q b = tt
    go front (c ∷ cs) q b = (f front c cs q b.0, go (front ++ c ∷ []) cs (q ∙ sym (append_assoc front (c ∷ []) cs)) b.1)

-- a post of an entry at its place on a link: what stands behind it there of CDC messages is what the entry posts behind it
pub record IsPosted (R : Post → List Post → Type 0) (link : LinkId) (x : Side) (e : Entry) (past : List Entry) (c : Placed) (rest : List Placed) : Type 0 where
  pub within : c.at.entry ≤ length (e ∷ past)
  pub on : is_on link x c.post ≡ true
  pub posts : List Post
  pub is : R c.post posts
  pub following : following_cdc c.at (e ∷ past) ≡ head (filter_map cdc_in posts)
  pub behind_is : behind c.at (e ∷ past) ≡ posts
  pub waiting : (token : ℕ) → cdcs x token rest ≡ filter_map (under link x token) posts

pub entry-new : (e : Entry) (past : List Entry) → entry_at (next_number past) (e ∷ past) ≡ Some e
entry-new e past = let n : length (e ∷ past) - (length past + 1) ≡ 0 = omega arith in ap (λ k. slice_get (e ∷ past) k) n

pub drop-behind : (xs : List Post) (x : Post) (ys : List Post) (n : ℕ) → n ≡ length xs + 1 → drop n (xs ++ x ∷ ys) ≡ ys
drop-behind xs x ys n e = ap (λ k. drop k (xs ++ x ∷ ys)) e ∙ drop-append-add xs (x ∷ ys) 1 ∙ drop-none ys

module _ (R : Post → List Post → Type 0) (link : LinkId) (x : Side) (e : Entry) (past : List Entry) where
  pub new-behind : (before posts : List Post) (first : ℕ) → e.posts ≡ before ++ posts → first ≡ length before + 1 → EachBefore R [] posts
      → EachBehind (IsPosted R link x e past) (filter (λ c. is_on link x c.post) (numbered (next_number past) first posts))
  new-behind before [] first p f a = tt
  new-behind before (post ∷ posts) first p f a = by (is_on link x post) refl
      (let n : length (before ++ post ∷ []) ≡ length before + 1 = length-append before (post ∷ []) in
      new-behind (before ++ post ∷ []) posts (first + 1) (p ∙ sym (append_assoc before (post ∷ []) posts)) (omega (arith, f, n)) a.1)
    where
      here : Placed
      here = record { at = record { entry = next_number past; post = first }; post = post }

      by : (b : Bool) → is_on link x post ≡ b → EachBehind (IsPosted R link x e past) (filter (λ c. is_on link x c.post) (numbered (next_number past) (first + 1) posts))
          → EachBehind (IsPosted R link x e past) (cond b (here ∷ filter (λ c. is_on link x c.post) (numbered (next_number past) (first + 1) posts)) (filter (λ c. is_on link x c.post) (numbered (next_number past) (first + 1) posts)))
      by false q r = r
      by true q r = (
        record {
          within = omega arith;
          on = q;
          posts = posts;
          is = subst (λ ps. R post ps) (append-nil posts) a.0;
          following = ap (λ o. option_and_then (λ (g : Entry). head (filter_map cdc_in (drop first g.posts))) o) (entry-new e past) ∙
              (ap (λ ps. head (filter_map cdc_in (drop first ps))) p ∙ ap (λ ps. head (filter_map cdc_in ps)) (drop-behind before post posts first f));
          behind_is = ap (λ o. unwrap_or (option_map (λ (g : Entry). drop first g.posts) o) []) (entry-new e past) ∙ (ap (λ ps. drop first ps) p ∙ drop-behind before post posts first f);
          waiting = λ token. news-are link x token (next_number past) (first + 1) posts;
        },
        r,
      )
