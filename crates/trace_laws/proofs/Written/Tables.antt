-- Tables of links whose slots and groups are bounded, and what is looked up in them.
use Rattle.std.proofs.Common.{Bool, List, Some, [], arith, cond, eqb-true, false, filter, fold, if◌then◌else◌, map, refl, true, true≢false, sym, zero, suc, ℕ, ◌+◌, ◌==◌, ◌∷◌, ◌≡◌, ◌≤◌}
use Rattle.std.specs.Prelude.{find, nat_lt, option_map, unwrap_or}
use Rattle.std.specs.List.{range_with_len}
use Rattle.smc_num.specs.declared.LinkPhase.TheVariants.{Unused}
use Rattle.history_laws.specs.Words.{Known, LinkId, LinkPhase, all_dead, head, is_live, is_standing, lighter, lightest, link_or_none, live_links, load, no_link, phase_at, put, set_phase, up_to}
use Rattle.trace_laws.proofs.Written.Bounds.{IsLinkIn}

module _ (most count : ℕ) where
  abbrev pub AreKnownIn : List Known → Type 0
  AreKnownIn [] = Unit {0}
  AreKnownIn (k ∷ ks) = IsLinkIn most count k.link × AreKnownIn ks

  abbrev pub AreLinksIn : List LinkId → Type 0
  AreLinksIn [] = Unit {0}
  AreLinksIn (l ∷ ls) = IsLinkIn most count l × AreLinksIn ls

  pub none-in : IsLinkIn most count no_link
  none-in = record { slot = omega arith; group = omega arith }

  pub put-in : (new : Known) (table : List Known) → IsLinkIn most count new.link → AreKnownIn table → AreKnownIn (put new table)
  put-in new [] i a = (i, tt)
  put-in new (known ∷ table) i a = by (new.link.slot == known.link.slot) (nat_lt new.link.slot known.link.slot) (put-in new table i a.1)
    where
      by : (b c : Bool) → AreKnownIn (put new table) → AreKnownIn (if b then new ∷ table else if c then new ∷ known ∷ table else known ∷ put new table)
      by true c rest = (i, a.1)
      by false true rest = (i, a)
      by false false rest = (a.0, rest)

  pub set-in : (k : ℕ) (phase : LinkPhase) (table : List Known) → AreKnownIn table → AreKnownIn (set_phase k phase table)
  set-in k phase [] a = tt
  set-in k phase (known ∷ table) a = (by (known.link.slot == k), set-in k phase table a.1)
    where
      by : (b : Bool) → IsLinkIn most count (if b then record known { phase = phase } else known).link
      by true = a.0
      by false = a.0

  pub dead-in : (table : List Known) → AreKnownIn table → AreKnownIn (all_dead table)
  dead-in [] a = tt
  dead-in (known ∷ table) a = (a.0, dead-in table a.1)

  -- the link of a slot, or none
  pub found-in : (k : ℕ) (table : List Known) → AreKnownIn table → IsLinkIn most count (link_or_none k table)
  found-in k [] a = none-in
  found-in k (known ∷ table) a = by (known.link.slot == k) (found-in k table a.1)
    where
      by : (b : Bool) → IsLinkIn most count (link_or_none k table)
          → IsLinkIn most count (unwrap_or (option_map (λ (j : Known). j.link) (cond b (Some known) (find (λ (j : Known). j.link.slot == k) table))) no_link)
      by true rest = a.0
      by false rest = rest

  -- a slot with a standing link
  pub standing-in : (k : ℕ) (table : List Known) → AreKnownIn table → is_standing (phase_at k table) ≡ true → k ≤ most
  standing-in k [] a s = absurd (true≢false (sym s))
  standing-in k (known ∷ table) a s = by (known.link.slot == k) refl (standing-in k table a.1) s
    where
      by : (b : Bool) → (known.link.slot == k) ≡ b → (is_standing (phase_at k table) ≡ true → k ≤ most)
          → is_standing (unwrap_or (option_map (λ (j : Known). j.phase) (cond b (Some known) (find (λ (j : Known). j.link.slot == k) table))) Unused) ≡ true → k ≤ most
      by true e rest t = let same : known.link.slot ≡ k = eqb-true known.link.slot k e in let s = a.0.slot in omega (arith, same, s)
      by false e rest t = rest t

  pub live-in : (table : List Known) → AreKnownIn table → AreLinksIn (live_links table)
  live-in [] a = tt
  live-in (known ∷ table) a = by (is_live known.phase) (live-in table a.1)
    where
      by : (b : Bool) → AreLinksIn (live_links table) → AreLinksIn (map (λ (j : Known). j.link) (cond b (known ∷ filter (λ (j : Known). is_live j.phase) table) (filter (λ (j : Known). is_live j.phase) table)))
      by true rest = (a.0, rest)
      by false rest = rest

  lighter-in : (used : List LinkId) (l m : LinkId) → IsLinkIn most count l → IsLinkIn most count m → IsLinkIn most count (lighter used l m)
  lighter-in used l m i j = by (nat_lt (load m used) (load l used))
    where
      by : (b : Bool) → IsLinkIn most count (if b then m else l)
      by true = j
      by false = i

  lightest-from : (used : List LinkId) (l : LinkId) (ls : List LinkId) → IsLinkIn most count l → AreLinksIn ls → IsLinkIn most count (fold (lighter used) l ls)
  lightest-from used l [] i a = i
  lightest-from used l (m ∷ ls) i a = lightest-from used (lighter used l m) ls (lighter-in used l m i a.0) a.1

  pub lightest-in : (used ls : List LinkId) → AreLinksIn ls → IsLinkIn most count (lightest used ls)
  lightest-in used [] a = none-in
  lightest-in used (l ∷ ls) a = lightest-from used l ls a.0 a.1

-- the first of some slots
first-from : (test : ℕ → Bool) (low n : ℕ) → 1 ≤ low → unwrap_or (head (filter test (range_with_len low n))) 0 + 1 ≤ low + n
first-from test low zero some = omega (arith, some)
first-from test low (suc n) some = by (test low) (first-from test (low + 1) n (omega arith))
  where
    by : (b : Bool) → unwrap_or (head (filter test (range_with_len (low + 1) n))) 0 + 1 ≤ low + 1 + n
        → unwrap_or (head (cond b (low ∷ filter test (range_with_len (low + 1) n)) (filter test (range_with_len (low + 1) n)))) 0 + 1 ≤ low + suc n
    by true rest = omega arith
    by false rest = omega (arith, rest)

pub first-in : (test : ℕ → Bool) (n : ℕ) → unwrap_or (head (filter test (up_to n))) 0 ≤ n
first-in test n = let f = first-from test 1 n (omega arith) in omega (arith, f)
