-- The keys of what was learnt, when some is learnt, forgotten or looked up.
use Rattle.std.proofs.Common.{◌≡◌, ◌∙◌, ℕ, ◌<◌, ◌≤◌, ◌==◌, ◌&&◌, ◌||◌, Bool, true, false, not, cond, List, [], ◌∷◌, ◌++◌, map, filter, length, Option, Some, None, option_map, refl, sym, ap, subst, arith}
use Rattle.std.specs.Prelude.{find}
use Rattle.smc_num.specs.declared.LinkId.{LinkId}
use Rattle.std.proofs.lemmas.Bool.{eqb-true, eq-eqb, ne_eqb}
use Rattle.smc_num.specs.Names.{has, head}
use Rattle.smc_num.proofs.ListLemmas.{head-map-filter}
use Rattle.smc_num.specs.Keys.{Key, is_for, is_bound, is_named, bound, binds, rmb_bound, rmbs_bound, without_named, without_rmb}
use Rattle.key_book.specs.Books.{Learnt, keys_in, learns, forgets, forgets_named, known_for}

-- what passes a test of its key
pub keys_in-filter : (test : Key → Bool) (known : List Learnt) → keys_in (filter (λ l. test l.key) known) ≡ filter test (keys_in known)
keys_in-filter test [] = refl
keys_in-filter test (l ∷ known) = by_test (test l.key) (keys_in-filter test known)
  where
    by_test : (b : Bool) → keys_in (filter (λ j. test j.key) known) ≡ filter test (keys_in known)
        → keys_in (cond b (l ∷ filter (λ j. test j.key) known) (filter (λ j. test j.key) known)) ≡ cond b (l.key ∷ filter test (keys_in known)) (filter test (keys_in known))
    by_test true rest = ap (λ ks. l.key ∷ ks) rest
    by_test false rest = rest

keys_in-push : (new : Learnt) (known : List Learnt) → keys_in (known ++ new ∷ []) ≡ keys_in known ++ new.key ∷ []
keys_in-push new [] = refl
keys_in-push new (l ∷ known) = ap (λ ks. l.key ∷ ks) (keys_in-push new known)

pub keys_in-learns : (new : Learnt) (known : List Learnt) → keys_in (learns new known) ≡ binds new.key (keys_in known)
keys_in-learns new known =
    keys_in-push new (filter (λ l. not (is_for new.key.rmb new.key.link.slot l.key)) known)
    ∙ ap (λ ks. ks ++ new.key ∷ []) (keys_in-filter (λ k. not (is_for new.key.rmb new.key.link.slot k)) known)

pub keys_in-forgets : (rmb : ℕ) (known : List Learnt) → keys_in (forgets rmb known) ≡ without_rmb rmb (keys_in known)
keys_in-forgets rmb known = keys_in-filter (λ k. not (k.rmb == rmb)) known

-- what is found by a test of its key
find-keys_in : {X : Type 0} (f : Key → X) (test : Key → Bool) (known : List Learnt) → option_map f (find test (keys_in known)) ≡ option_map (λ l. f l.key) (find (λ l. test l.key) known)
find-keys_in f test [] = refl
find-keys_in f test (l ∷ known) = by_test (test l.key) (find-keys_in f test known)
  where
    by_test : (b : Bool) → option_map f (find test (keys_in known)) ≡ option_map (λ j. f j.key) (find (λ j. test j.key) known)
        → option_map f (cond b (Some l.key) (find test (keys_in known))) ≡ option_map (λ j. f j.key) (cond b (Some l) (find (λ j. test j.key) known))
    by_test true rest = refl
    by_test false rest = rest

pub rmb_found : (key : ℕ) (link : LinkId) (known : List Learnt) → rmb_bound key link (keys_in known) ≡ option_map (λ l. l.key.rmb) (find (λ l. is_named key link l.key) known)
rmb_found key link known = find-keys_in (λ k. k.rmb) (is_named key link) known

pub key_found : (rmb : ℕ) (link : LinkId) (known : List Learnt) → bound rmb link (keys_in known) ≡ option_map (λ l. l.key.key) (known_for rmb link known)
key_found rmb link known = find-keys_in (λ k. k.key) (is_bound rmb link) known

-- the number of a number with an address
first_of : (o : Option Learnt) → option_map (λ (r : ℕ × ℕ). r.0) (option_map (λ (l : Learnt). (l.key.key, l.address)) o) ≡ option_map (λ l. l.key.key) o
first_of None = refl
first_of (Some l) = refl

pub key_of_known : (rmb : ℕ) (link : LinkId) (known : List Learnt) → option_map (λ (r : ℕ × ℕ). r.0) (option_map (λ (l : Learnt). (l.key.key, l.address)) (known_for rmb link known)) ≡ bound rmb link (keys_in known)
key_of_known rmb link known = first_of (known_for rmb link known) ∙ sym (key_found rmb link known)

pub keys_in-named : (key : ℕ) (link : LinkId) (known : List Learnt) → keys_in (forgets_named key link known) ≡ without_named key link (keys_in known)
keys_in-named key link known = keys_in-filter (λ k. not (has k.rmb (rmbs_bound key link (keys_in known)))) known

-- two filters in one
filter-twice : {X : Type 0} (p q r : X → Bool) (xs : List X) → ((x : X) → (q x && p x) ≡ r x) → filter p (filter q xs) ≡ filter r xs
filter-twice p q r [] each = refl
filter-twice p q r (x ∷ xs) each = by_test (q x) (each x) (filter-twice p q r xs each)
  where
    by_test : (b : Bool) → (b && p x) ≡ r x → filter p (filter q xs) ≡ filter r xs → filter p (cond b (x ∷ filter q xs) (filter q xs)) ≡ cond (r x) (x ∷ filter r xs) (filter r xs)
    by_test true e rest = ap (λ ys. cond (p x) (x ∷ ys) ys) rest ∙ ap (λ c. cond c (x ∷ filter r xs) (filter r xs)) e
    by_test false e rest = rest ∙ ap (λ c. cond c (x ∷ filter r xs) (filter r xs)) e

-- the RMBs of a key on a link are the same without an RMB, but for that one
named_without : (key : ℕ) (link : LinkId) (rmb n : ℕ) (keys : List Key) → has n (rmbs_bound key link (without_rmb rmb keys)) ≡ (not (n == rmb) && has n (rmbs_bound key link keys))
named_without key link rmb n [] = end (n == rmb)
  where
    end : (b : Bool) → false ≡ (not b && false)
    end true = refl
    end false = refl
named_without key link rmb n (k ∷ keys) = by_tests (k.rmb == rmb) refl (is_named key link k) refl (named_without key link rmb n keys)
  where
    apart : (a h : Bool) → (not a && h) ≡ (not a && (a || h))
    apart true h = refl
    apart false h = refl

    joined : (a b h : Bool) → (a ≡ true → b ≡ false) → (a || (not b && h)) ≡ (not b && (a || h))
    joined false b h e = refl
    joined true false h e = refl
    joined true true h e = let t = e refl in cc

    by_tests : (same : Bool) → (k.rmb == rmb) ≡ same → (named : Bool) → is_named key link k ≡ named
        → has n (rmbs_bound key link (without_rmb rmb keys)) ≡ (not (n == rmb) && has n (rmbs_bound key link keys))
        → has n (rmbs_bound key link (cond (not same) (k ∷ without_rmb rmb keys) (without_rmb rmb keys))) ≡ (not (n == rmb) && has n (map (λ j. j.rmb) (cond named (k ∷ filter (is_named key link) keys) (filter (is_named key link) keys))))
    by_tests true e false f rest = rest
    by_tests true e true f rest = rest ∙ (apart (n == rmb) (has n (rmbs_bound key link keys)) ∙ ap (λ m. not (n == rmb) && ((n == m) || has n (rmbs_bound key link keys))) (sym (eqb-true k.rmb rmb e)))
    by_tests false e false f rest = ap (λ b. has n (map (λ j. j.rmb) (cond b (k ∷ filter (is_named key link) (without_rmb rmb keys)) (filter (is_named key link) (without_rmb rmb keys))))) f ∙ rest
    by_tests false e true f rest =
        ap (λ b. has n (map (λ j. j.rmb) (cond b (k ∷ filter (is_named key link) (without_rmb rmb keys)) (filter (is_named key link) (without_rmb rmb keys))))) f
        ∙ (ap (λ b. (n == k.rmb) || b) rest
        ∙ joined (n == k.rmb) (n == rmb) (has n (rmbs_bound key link keys)) (λ here. ne_eqb n rmb (λ same. let t = eq-eqb k.rmb rmb (sym (eqb-true n k.rmb here) ∙ same) in cc)))

-- where one of the RMBs of a key goes, the others are still to go
pub named_go_on : (key : ℕ) (link : LinkId) (rmb : ℕ) (known : List Learnt) → has rmb (rmbs_bound key link (keys_in known)) ≡ true → forgets_named key link (forgets rmb known) ≡ forgets_named key link known
named_go_on key link rmb known named =
    ap (λ keys. filter (λ l. not (has l.key.rmb (rmbs_bound key link keys))) (forgets rmb known)) (keys_in-forgets rmb known)
    ∙ filter-twice (λ l. not (has l.key.rmb (rmbs_bound key link (without_rmb rmb (keys_in known))))) (λ l. not (l.key.rmb == rmb)) (λ l. not (has l.key.rmb (rmbs_bound key link (keys_in known)))) known
    (λ l. ap (λ b. not (l.key.rmb == rmb) && not b) (named_without key link rmb l.key.rmb (keys_in known)) ∙ by_test (l.key.rmb == rmb) (has l.key.rmb (rmbs_bound key link (keys_in known))) (λ same. ap (λ n. has n (rmbs_bound key link (keys_in known))) (eqb-true l.key.rmb rmb same) ∙ named))
  where
    by_test : (a h : Bool) → (a ≡ true → h ≡ true) → (not a && not (not a && h)) ≡ not h
    by_test true true e = refl
    by_test true false e = let t = e refl in cc
    by_test false true e = refl
    by_test false false e = refl

-- the RMB that is found is one of them; where none is found, there are none
pub found_is_named : (key : ℕ) (link : LinkId) (rmb : ℕ) (known : List Learnt) → option_map (λ (l : Learnt). l.key.rmb) (find (λ l. is_named key link l.key) known) ≡ Some rmb → has rmb (rmbs_bound key link (keys_in known)) ≡ true
found_is_named key link rmb known found = by_head (rmbs_bound key link (keys_in known)) (sym (head-map-filter (λ k. k.rmb) (is_named key link) (keys_in known)) ∙ (rmb_found key link known ∙ found))
  where
    by_head : (rs : List ℕ) → head rs ≡ Some rmb → has rmb rs ≡ true
    by_head [] e = cc
    by_head (r ∷ rs) e = let same : r ≡ rmb = cc in ap (λ b. b || has rmb rs) (eq-eqb rmb r (sym same))

pub none_is_named : (key : ℕ) (link : LinkId) (known : List Learnt) → option_map (λ (l : Learnt). l.key.rmb) (find (λ l. is_named key link l.key) known) ≡ None → known ≡ forgets_named key link known
none_is_named key link known none =
    sym (ap (λ rs. filter (λ l. not (has l.key.rmb rs)) known) (by_head (rmbs_bound key link (keys_in known)) (sym (head-map-filter (λ k. k.rmb) (is_named key link) (keys_in known)) ∙ (rmb_found key link known ∙ none))) ∙ all_stay known)
  where
    by_head : (rs : List ℕ) → head rs ≡ None → rs ≡ []
    by_head [] e = refl
    by_head (r ∷ rs) e = cc

    all_stay : (ls : List Learnt) → filter (λ l. not (has l.key.rmb [])) ls ≡ ls
    all_stay [] = refl
    all_stay (l ∷ ls) = ap (λ js. l ∷ js) (all_stay ls)

-- each time that one of them goes, there is less
pub fewer_left : (key : ℕ) (link : LinkId) (rmb : ℕ) (known : List Learnt) → has rmb (rmbs_bound key link (keys_in known)) ≡ true → length (forgets rmb known) < length known
fewer_left key link rmb [] named = cc
fewer_left key link rmb (l ∷ known) named = by_tests (l.key.rmb == rmb) refl (is_named key link l.key) named (fewer_left key link rmb known)
  where
    at_most : (ls : List Learnt) → length (forgets rmb ls) ≤ length ls
    at_most [] = omega arith
    at_most (j ∷ ls) = by_test (j.key.rmb == rmb) (at_most ls)
      where
        by_test : (b : Bool) → length (forgets rmb ls) ≤ length ls → length (cond (not b) (j ∷ forgets rmb ls) (forgets rmb ls)) ≤ length (j ∷ ls)
        by_test true le = omega (arith, le)
        by_test false le = omega (arith, le)

    by_tests : (same : Bool) → (l.key.rmb == rmb) ≡ same → (here : Bool)
        → has rmb (map (λ (j : Key). j.rmb) (cond here (l.key ∷ filter (is_named key link) (keys_in known)) (filter (is_named key link) (keys_in known)))) ≡ true
        → (has rmb (rmbs_bound key link (keys_in known)) ≡ true → length (forgets rmb known) < length known)
        → length (cond (not same) (l ∷ forgets rmb known) (forgets rmb known)) < length (l ∷ known)
    by_tests true e here h rest = let le = at_most known in omega (arith, le)
    by_tests false e false h rest = let lt = rest h in omega (arith, lt)
    by_tests false e true h rest =
        let other : (rmb == l.key.rmb) ≡ false = ne_eqb rmb l.key.rmb (λ same. let t = eq-eqb l.key.rmb rmb (sym same) in cc) in
        let lt = rest (sym (ap (λ b. b || has rmb (rmbs_bound key link (keys_in known))) other) ∙ h) in
        omega (arith, lt)
