-- The numbers of a side's keys lie within base + 1 .. base + rmbs * links, where what it registers is of its RMBs and slots.
use Rattle.std.proofs.Common.{Bool, List, [], ap, arith, eq-eqb, eqb-true, false, inl, inr, length, map, not, refl, subst, sym, true, true≢false, ℕ, ◌*◌, ◌+◌, ◌-◌, ◌<◌, ◌==◌, ◌||◌, ◌∙◌, ◌∷◌, ◌≡◌, ◌≤◌, ◌⊎◌}
use Rattle.std.proofs.lemmas.Nat.{mul-le}
use Rattle.std.proofs.lemmas.Bool.{cases_lt}
use Rattle.std.specs.List.{AllByRecursion, IsDistinct, list_any}
use Rattle.std.specs.Prelude.{eqb}
use Rattle.std.proofs.lemmas.Map.Keys.{IsDistinct-cons}
use Rattle.std.proofs.lemmas.Map.Steps.{le-length_from_below, length-le_from_distinct_below}
use Rattle.std.proofs.lemmas.List.{length-map}
use Rattle.smc_num.specs.Keys.{lowest_unused}
use Rattle.smc_num.proofs.KeyLemmas.{lowest_unused_is}
use Rattle.pipe_model.specs.Keys.{deleted}
use Rattle.history_laws.specs.Words.{Entry, Key, LinkId, Side, has, is_for, is_used, key_base, keys_of, named_rmbs, number_for, registers}
use Rattle.history_laws.specs.Lists.{IsAmong}
use Rattle.link_laws.specs.KeyRange.{AllOwedByRange, AreIn, IsInRange}
use Rattle.link_laws.specs.KeyChanges.{AreKeys, NoTwo, same_use}
use Rattle.link_laws.proofs.Keys.Lists.{any-found, any-of, kept-from, none-of, none-where, not-alike, number-from, registered-from, registers-are, use-of}
use Rattle.link_laws.proofs.Keys.Entries.{keys-after}
use Rattle.link_laws.proofs.Keys.Apart.{filter-are, keys-are, none-are}

-- the place of an RMB and a slot among all of them
abbrev pub place_in : ℕ → Key → ℕ
place_in links k = (k.rmb - 1) * links + (k.link.slot - 1)

-- one line more
line : (p links : ℕ) → (p + 1) * links ≡ p * links + links
line p links = omega (arith)

-- numbers in lines of some length
next-line : (p q links u v : ℕ) → p < q → u < links → p * links + u ≡ q * links + v → ⊥
next-line p q links u v less in_line same = let m : (p + 1) * links ≤ q * links = mul-le (p + 1) links q links (omega (arith, less)) (omega arith) in let s : (p + 1) * links ≡ p * links + links = line p links in absurd (omega (arith, m, s, in_line, same))

place-is : (rmbs links : ℕ) (k : Key) → IsInRange rmbs links k.rmb k.link.slot → place_in links k < rmbs * links
place-is rmbs links k r =
    let m : (k.rmb - 1 + 1) * links ≤ rmbs * links = mul-le (k.rmb - 1 + 1) links rmbs links (omega (arith, r.rmb_from, r.rmb_to)) (omega arith) in
    let s : (k.rmb - 1 + 1) * links ≡ (k.rmb - 1) * links + links = line (k.rmb - 1) links in
    omega (arith, m, s, r.slot_from, r.slot_to)

place-one : (rmbs links : ℕ) (k j : Key) → IsInRange rmbs links k.rmb k.link.slot → IsInRange rmbs links j.rmb j.link.slot → place_in links k ≡ place_in links j → same_use k j ≡ true
place-one rmbs links k j r s same = use-of k.rmb k.link.slot j (sym rmb_same) (sym slot_same)
  where
    lines : k.rmb - 1 ≡ j.rmb - 1
    lines = elim (cases_lt (k.rmb - 1) (j.rmb - 1)) [
      | inl less ↦ absurd (next-line (k.rmb - 1) (j.rmb - 1) links (k.link.slot - 1) (j.link.slot - 1) less (omega (arith, r.slot_from, r.slot_to)) same)
      | inr more ↦ elim (cases_lt (j.rmb - 1) (k.rmb - 1)) [
        | inl less ↦ absurd (next-line (j.rmb - 1) (k.rmb - 1) links (j.link.slot - 1) (k.link.slot - 1) less (omega (arith, s.slot_from, s.slot_to)) (sym same))
        | inr less ↦ omega (arith, more, less)
      ]
    ]

    rmb_same : k.rmb ≡ j.rmb
    rmb_same = omega (arith, lines, r.rmb_from, s.rmb_from)

    slot_same : k.link.slot ≡ j.link.slot
    slot_same = let t : (j.rmb - 1) * links + (k.link.slot - 1) ≡ (j.rmb - 1) * links + (j.link.slot - 1) = ap (λ p. p * links + (k.link.slot - 1)) (sym lines) ∙ same in omega (arith, t, r.slot_from, s.slot_from)

nil : IsDistinct eqb []
unfolding IsDistinct
nil = tt

-- as many keys as there are RMBs and slots, at most
distinct : (rmbs links : ℕ) (ks : List Key) → NoTwo same_use ks → ((k : Key) → IsAmong k ks → IsInRange rmbs links k.rmb k.link.slot) → IsDistinct eqb (map (place_in links) ks)
distinct rmbs links [] n each = nil
distinct rmbs links (k ∷ ks) n each = IsDistinct-cons eqb (place_in links k) (map (place_in links) ks) (others ks n.0 (λ j i. each j (inr i))) (distinct rmbs links ks n.1 (λ j i. each j (inr i)))
  where
    others : (js : List Key) → list_any (same_use k) js ≡ false → ((j : Key) → IsAmong j js → IsInRange rmbs links j.rmb j.link.slot) → AllByRecursion (λ p. eqb (place_in links k) p ≡ false) (map (place_in links) js)
    others [] none all = tt
    others (j ∷ js) none all = (
      not-alike (place_in links k == place_in links j) (λ t. true≢false (sym (place-one rmbs links k j (each k (inl refl)) (all j (inl refl)) (eqb-true (place_in links k) (place_in links j) t)) ∙ none-of (same_use k) j (j ∷ js) none (inl refl))),
      others js (none-where (same_use k) js (λ m i. none-of (same_use k) m (j ∷ js) none (inr i))) (λ m i. all m (inr i)),
    )

at-most : (rmbs links : ℕ) (ks : List Key) → NoTwo same_use ks → ((k : Key) → IsAmong k ks → IsInRange rmbs links k.rmb k.link.slot) → length ks ≤ rmbs * links
at-most rmbs links ks n each = let h = length-le_from_distinct_below (map (place_in links) ks) (rmbs * links) (distinct rmbs links ks n each) below in omega (arith, h, length-map ks (place_in links))
  where
    below : (q : ℕ) → list_any (eqb q) (map (place_in links) ks) ≡ true → q < rmbs * links
    below q e = by ks each e
      where
        by : (js : List Key) → ((k : Key) → IsAmong k js → IsInRange rmbs links k.rmb k.link.slot) → list_any (eqb q) (map (place_in links) js) ≡ true → q < rmbs * links
        by [] all e = absurd (true≢false (sym e))
        by (j ∷ js) all e = test (q == place_in links j) refl e (λ f. by js (λ k i. all k (inr i)) f)
          where
            test : (b : Bool) → (q == place_in links j) ≡ b → (b || list_any (eqb q) (map (place_in links) js)) ≡ true → (list_any (eqb q) (map (place_in links) js) ≡ true → q < rmbs * links) → q < rmbs * links
            test true t f rest = let same : q ≡ place_in links j = eqb-true q (place_in links j) t in subst (λ p. p < rmbs * links) (sym same) (place-is rmbs links j (all j (inl refl)))
            test false t f rest = rest f

pub among-map : {X Y : Type 0} (f : X → Y) (x : X) (xs : List X) → IsAmong x xs → IsAmong (f x) (map f xs)
among-map f x [] i = absurd i
among-map f x (y ∷ xs) (inl e) = inl (ap f e)
among-map f x (y ∷ xs) (inr i) = inr (among-map f x xs i)

-- the lowest unused number is not above the count
lowest-low : (base : ℕ) (ks : List Key) → lowest_unused base ks ≤ base + length ks + 1
lowest-low base ks = elim (cases_lt (base + length ks + 1) (lowest_unused base ks)) [
  | inl above ↦ (
      let used : (q : ℕ) → q < length ks + 1 → list_any (λ n. q == n) (map (λ (k : Key). k.key - (base + 1)) ks) ≡ true = λ q low. by q ((lowest_unused_is base ks).lowest (base + 1 + q) (omega arith) (omega (arith, above, low))) in
      absurd (omega (arith, le-length_from_below (map (λ (k : Key). k.key - (base + 1)) ks) (length ks + 1) used, length-map ks (λ (k : Key). k.key - (base + 1)))))
  | inr low ↦ low
]
  where
    by : (q : ℕ) → is_used (base + 1 + q) ks ≡ true → list_any (λ n. q == n) (map (λ (k : Key). k.key - (base + 1)) ks) ≡ true
    by q u =
        let f = any-found (λ (k : Key). base + 1 + q == k.key) ks u in
        let at : base + 1 + q ≡ f.0.key = eqb-true (base + 1 + q) f.0.key f.1.1 in
        any-of (λ n. q == n) (f.0.key - (base + 1)) (map (λ (k : Key). k.key - (base + 1)) ks) (among-map (λ (k : Key). k.key - (base + 1)) f.0 ks f.1.0) (eq-eqb q (f.0.key - (base + 1)) (omega (arith, at)))

-- a registering within range
registers-in : (base rmbs links rmb : ℕ) (link : LinkId) (ks : List Key) → AreKeys base ks → IsInRange rmbs links rmb link.slot → AreIn base rmbs links ks → AreIn base rmbs links (registers base rmb ks link)
registers-in base rmbs links rmb link ks are r all k i = elim (registered-from base rmb link ks k i) [
  | inl h ↦ all k h.0
  | inr same ↦ (subst (λ (j : Key). IsInRange rmbs links j.rmb j.link.slot) (sym same) r, subst (λ (j : Key). j.key ≤ base + rmbs * links) (sym same) (by (number-from base rmb link.slot ks)))
]
  where
    by : ((j : Key) × (IsAmong j ks × ((is_for rmb link.slot j ≡ true) × (number_for base rmb link.slot ks ≡ j.key)))) ⊎ ((list_any (is_for rmb link.slot) ks ≡ false) × (number_for base rmb link.slot ks ≡ lowest_unused base ks)) → number_for base rmb link.slot ks ≤ base + rmbs * links
    by (inl (j, (h, (u, e)))) = subst (λ n. n ≤ base + rmbs * links) (sym e) (all j h).1
    by (inr (none, e)) =
        let one : Key = record { key = 0; rmb = rmb; link = link } in
        let m = at-most rmbs links (one ∷ ks) (none, are.uses) each in
        let low = lowest-low base ks in
        subst (λ n. n ≤ base + rmbs * links) (sym e) (omega (arith, m, low))
      where
        each : (k : Key) → IsAmong k (record { key = 0; rmb = rmb; link = link } ∷ ks) → IsInRange rmbs links k.rmb k.link.slot
        each k (inl same) = subst (λ (j : Key). IsInRange rmbs links j.rmb j.link.slot) (sym same) r
        each k (inr h) = (all k h).0

-- over every history in which what is registered is in range
pub keys-in : (rmbs links : ℕ) (x : Side) (past : List Entry) → AllOwedByRange rmbs links x past → AreIn (key_base x) rmbs links (keys_of x past).keys
keys-in rmbs links x [] owed = λ k i. absurd i
keys-in rmbs links x (e ∷ past) owed = (keys-after x e past (λ ks. AreKeys (key_base x) ks.keys × AreIn (key_base x) rmbs links ks.keys) (record {
  was = (keys-are x past, keys-in rmbs links x past owed.1);
  withdrawn = λ t. (
    filter-are (key_base x) (λ k. not (has k.rmb (named_rmbs (deleted t.act.message) (keys_of x past).keys))) (keys_of x past).keys (keys-are x past),
    λ k i. keys-in rmbs links x past owed.1 k (kept-from (λ k. not (has k.rmb (named_rmbs (deleted t.act.message) (keys_of x past).keys))) k (keys_of x past).keys i).0,
  );
  registered = λ rmb link from ks had. (registers-are (key_base x) rmb link ks.keys had.0, registers-in (key_base x) rmbs links rmb link ks.keys had.0 (owed.0 rmb link from) had.1);
  confirmed = λ rmb from ks had. had;
  ended = λ none. (none-are (key_base x), λ k i. absurd i);
})).1
