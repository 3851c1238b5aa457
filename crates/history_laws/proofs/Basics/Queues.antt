-- A wire and an end keep step: what is posted comes behind, what lands goes over from one list to the other, what completes leaves.
use Rattle.std.proofs.Common.{Bool, List, [], ap, arith, drop, drop-drop, false, filter, filter_map, length, length-drop, length-take, map, refl, suc, sym, take, take-add, true, true≢false, zero, ℕ, ◌&&◌, ◌++◌, ◌+◌, ◌-◌, ◌<◌, ◌==◌, ◌∙◌, ◌∷◌, ◌≡◌, ◌≤◌}
use Rattle.std.proofs.lemmas.List.{drop-append-le, map-append, take-append-le}
use Rattle.std.proofs.lemmas.List.Elements.{filter_map-append}
use Rattle.std.proofs.lemmas.Bool.{eq-eqb}
use Rattle.std.specs.Prelude.{None, Some, cond, is_some, unwrap_or}
use Rattle.std.specs.List.{cons_option}
use Rattle.pipe_model.specs.declared.post.Post.TheVariants.{Clc, Write}
use Rattle.pipe_model.specs.declared.sent.Sent.{Sent}
use Rattle.pipe_model.specs.Pipe.{Lands}
use Rattle.history_laws.specs.Words.{Cdc, CdcMessage, Completes, EachOf, Half, Item, LinkId, Llc, Placed, Post, Side, completes_later, head, same_link, to_complete, to_land}
use Rattle.history_laws.specs.Wires.{cdc_under, cdcs, returning}

pub drop-none : {X : Type 0} (xs : List X) → drop 0 xs ≡ xs
drop-none [] = refl
drop-none (x ∷ xs) = refl

pub take-none : {X : Type 0} (xs : List X) → take 0 xs ≡ []
take-none [] = refl
take-none (x ∷ xs) = refl

-- the CDC messages under a token among posts
pub cdcs-append : (x : Side) (token : ℕ) (ps qs : List Placed) → cdcs x token (ps ++ qs) ≡ cdcs x token ps ++ cdcs x token qs
cdcs-append x token ps qs = ap (λ posts. filter_map (cdc_under x token) posts) (map-append (λ c. c.post) ps qs) ∙ filter_map-append (cdc_under x token) (map (λ c. c.post) ps) (map (λ c. c.post) qs)

pub same-link : (link : LinkId) → same_link link link ≡ true
same-link link = by (link.group == link.group) (link.slot == link.slot) (link.incarnation == link.incarnation) (eq-eqb link.group link.group refl) (eq-eqb link.slot link.slot refl) (eq-eqb link.incarnation link.incarnation refl)
  where
    by : (a b c : Bool) → a ≡ true → b ≡ true → c ≡ true → (a && (b && c)) ≡ true
    by a b c p q r = rw (p, q, r) refl

pub either-way : (x : Side) (token : ℕ) (on : Bool) (c : Placed) (ms : List CdcMessage) (ps : List Placed) → cdc_under x token c.post ≡ None → cdcs x token ps ≡ ms → cdcs x token (cond on (c ∷ ps) ps) ≡ ms
either-way x token true c ms ps n f = ap (λ o. cons_option o (cdcs x token ps)) n ∙ f
either-way x token false c ms ps n f = f

-- a post that lands goes over, where it is a CDC message
pub one-later : (x : Side) (token : ℕ) (c : Placed) (post : Post) → c.post ≡ post → cdcs x token (filter (λ d. completes_later d.post) (c ∷ [])) ≡ cons_option (cdc_under x token post) []
one-later x token c (Write from l key address len) e = ap (λ p. cdcs x token (cond (completes_later p) (c ∷ []) [])) e ∙ ap (λ p. cons_option (cdc_under x token p) []) e
one-later x token c (Cdc from l m) e = ap (λ p. cdcs x token (cond (completes_later p) (c ∷ []) [])) e ∙ ap (λ p. cons_option (cdc_under x token p) []) e
one-later x token c (Llc from l m) e = ap (λ p. cdcs x token (cond (completes_later p) (c ∷ []) [])) e
one-later x token c (Clc from s l m) e = ap (λ p. cdcs x token (cond (completes_later p) (c ∷ []) [])) e ∙ ap (λ p. cons_option (cdc_under x token p) []) e

-- a list of messages that begins with one
pub record Begins {X Y : Type 0} (f : X → Y) (first : Y) (rest : List Y) (xs : List X) : Type 0 where
  pub x : X
  pub others : List X
  pub is : xs ≡ x ∷ others
  pub first_is : first ≡ f x
  pub rest_is : rest ≡ map f others

pub begins : {X Y : Type 0} (f : X → Y) (first : Y) (rest : List Y) (xs : List X) → first ∷ rest ≡ map f xs → Begins f first rest xs
begins f first rest [] e = absurd (true≢false (ap (λ ys. is_some (head ys)) e))
begins f first rest (x ∷ xs) e = record { x = x; others = xs; is = refl; first_is = ap (λ ys. unwrap_or (head ys) first) e; rest_is = ap (λ ys. drop 1 ys) e }

pub some-left : (i : ℕ) (ms : List Sent) (m : Sent) (rest : List Sent) → drop i ms ≡ m ∷ rest → i + 1 ≤ length ms
some-left i ms m rest e =
    let n : length (drop i ms) ≡ length ms - i = length-drop i ms in
    let o : length (drop i ms) ≡ length (m ∷ rest) = ap (λ ns. length ns) e in
    omega (arith, n, o)

-- messages sent, of which some have landed and some have completed
module _ (ms more : List Sent) (l c : ℕ) where
  pub landing-grows : l ≤ length ms → drop l (ms ++ more) ≡ drop l ms ++ more
  landing-grows o = drop-append-le l ms more o

  pub returning-same : l ≤ length ms → c ≤ l → take (l - c) (drop c (ms ++ more)) ≡ take (l - c) (drop c ms)
  returning-same o p =
      let n : length (drop c ms) ≡ length ms - c = length-drop c ms in
      ap (λ ns. take (l - c) ns) (drop-append-le c ms more (omega (arith, o, p))) ∙ take-append-le (l - c) (drop c ms) more (omega (arith, n, o, p))

pub landing-next : (ms rest : List Sent) (m : Sent) (l : ℕ) → drop l ms ≡ m ∷ rest → drop (l + 1) ms ≡ rest
landing-next ms rest m l e =
    sym (drop-drop 1 l ms) ∙ ap (λ ns. drop 1 ns) e

pub returning-next : (ms rest : List Sent) (m : Sent) (l c : ℕ) → c ≤ l → drop l ms ≡ m ∷ rest → take (l + 1 - c) (drop c ms) ≡ take (l - c) (drop c ms) ++ m ∷ []
returning-next ms rest m l c o e =
    let f : l + 1 - c ≡ (l - c) + 1 = omega (arith, o) in
    let g : c + (l - c) ≡ l = omega (arith, o) in
    let h : drop (l - c) (drop c ms) ≡ m ∷ rest = drop-drop (l - c) c ms ∙ ap (λ n. drop n ms) g ∙ e in
    ap (λ n. take n (drop c ms)) f ∙ take-add (l - c) 1 (drop c ms) ∙ ap (λ ns. take (l - c) (drop c ms) ++ take 1 ns) h ∙ ap (λ ns. take (l - c) (drop c ms) ++ m ∷ ns) (take-none rest)

none-taken : (n : ℕ) (m : Sent) (rest : List Sent) → take n [] ≡ m ∷ rest → ⊥
none-taken zero m rest e = true≢false (sym (ap (λ ns. is_some (head ns)) e))
none-taken (suc n) m rest e = true≢false (sym (ap (λ ns. is_some (head ns)) e))

taken-suc : {X : Type 0} (n : ℕ) (x : X) (xs others rest : List X) (y : X) → take (suc n) (x ∷ xs) ≡ y ∷ rest → take n xs ≡ rest
taken-suc n x xs others rest y e = ap (λ ys. drop 1 ys) e

pub returned-next : (ms rest : List Sent) (m : Sent) (l c : ℕ) → c < l → take (l - c) (drop c ms) ≡ m ∷ rest → take (l - (c + 1)) (drop (c + 1) ms) ≡ rest
returned-next ms rest m l c o e = by (drop c ms) refl
  where
    by : (ns : List Sent) → drop c ms ≡ ns → take (l - (c + 1)) (drop (c + 1) ms) ≡ rest
    by [] f = absurd (none-taken (l - c) m rest (sym (ap (λ ns. take (l - c) ns) f) ∙ e))
    by (k ∷ ns) f =
        let d : drop (c + 1) ms ≡ ns = landing-next ms ns k c f in
        let n : l - c ≡ suc (l - (c + 1)) = omega (arith, o) in
        ap (λ q. take (l - (c + 1)) q) d ∙ taken-suc (l - (c + 1)) k ns [] rest m (ap (λ i. take i (k ∷ ns)) (sym n) ∙ sym (ap (λ q. take (l - c) q) f) ∙ e)

-- an end that has sent nothing has nothing under way
pub nothing-left : (n : ℕ) (ms : List Sent) → ms ≡ [] → drop n ms ≡ []
nothing-left zero ms e = ap (λ ns. drop 0 ns) e
nothing-left (suc n) ms e = ap (λ ns. drop (suc n) ns) e

pub nothing-taken : (n : ℕ) (ms : List Sent) → ms ≡ [] → take n ms ≡ []
nothing-taken zero ms e = ap (λ ns. take 0 ns) e
nothing-taken (suc n) ms e = ap (λ ns. take (suc n) ns) e

pub lands-nothing : (h : Half) → h.sent ≡ [] → to_land h ≡ []
lands-nothing h e = nothing-left h.landed h.sent e

pub returns-nothing : (h : Half) → h.sent ≡ [] → returning h ≡ []
returns-nothing h e = nothing-taken (h.landed - h.completed) (to_complete h) (nothing-left h.completed h.sent e)

-- an item that lands and completes nothing
abbrev pub is_no_message : Item → Bool
is_no_message (Lands x) = false
is_no_message (Completes x) = false
is_no_message _ = true

-- what an end has of landed messages begins with one
pub has-returning : (h : Half) (m : Sent) (rest : List Sent) → returning h ≡ m ∷ rest → h.completed < h.landed
has-returning h m rest e =
    let n : length (returning h) ≡ length (m ∷ rest) = ap (λ ms. length ms) e in
    let l : length (returning h) ≤ h.landed - h.completed = simp length-take (omega arith) in
    omega (arith, n, l)

pub returning-head : (n : ℕ) (ms rest : List Sent) (m : Sent) → take n ms ≡ m ∷ rest → head ms ≡ Some m
returning-head zero [] rest m e = ap (λ ns. head ns) e
returning-head zero (k ∷ ms) rest m e = absurd (true≢false (sym (ap (λ ns. is_some (head ns)) e)))
returning-head (suc n) [] rest m e = ap (λ ns. head ns) e
returning-head (suc n) (k ∷ ms) rest m e = ap (λ ns. head ns) e

pub each-drop : (P : Sent → Type 0) (n : ℕ) (ms : List Sent) → EachOf P ms → EachOf P (drop n ms)
each-drop P zero [] e = tt
each-drop P zero (m ∷ ms) e = e
each-drop P (suc n) [] e = tt
each-drop P (suc n) (m ∷ ms) e = each-drop P n ms e.1
