-- The lightest of the live links is the one with the fewest records.
use Rattle.std.proofs.Common.{◌≡◌, ◌∙◌, ◌⊎◌, ℕ, zero, suc, ◌+◌, ◌-◌, ◌<◌, ◌≤◌, ◌==◌, ◌&&◌, ◌||◌, nat_lt, Bool, true, false, cond, List, [], ◌∷◌, length, map, filter, fold, get_or, slice_index, Some, None, option_map, unwrap_or, refl, sym, ap, subst, inl, inr, arith}
use Rattle.std.specs.Prelude.{if◌then◌else◌}
use Rattle.std.specs.List.{range_with_len}
use Rattle.std.proofs.lemmas.Bool.{eqb-true, eq-eqb, ne_eqb, cases_lt}
use Rattle.std.proofs.lemmas.Bool.Decides.{nat_tests}
use Rattle.smc_num.specs.declared.LinkId.{LinkId}
use Rattle.smc_num.specs.declared.LinkPhase.{LinkPhase}
use Rattle.smc_num.specs.declared.LinkPhase.TheVariants.{Unused}
use Rattle.smc_num.specs.Names.{same_link, has_link, up_to}
use Rattle.smc_num.specs.Links.{Known, is_live, at_slot, live_links, link_at, phase_at, same_phase}
use Rattle.failover.specs.Choices.{is_live_at, IsFewest, lighter, lightest, AreLoads}
use Rattle.failover.specs.Tables.{known_in, AreInOrder, AreRising}

-- a link among others
abbrev Among : LinkId → List LinkId → Type 0
Among link [] = ⊥
Among link (l ∷ ls) = (link ≡ l) ⊎ Among link ls

same_link_refl : (link : LinkId) → same_link link link ≡ true
same_link_refl link =
    let g = eq-eqb link.group link.group refl in
    let s = eq-eqb link.slot link.slot refl in
    let i = eq-eqb link.incarnation link.incarnation refl in
    ap (λ b. b && ((link.slot == link.slot) && (link.incarnation == link.incarnation))) g ∙ (ap (λ b. b && (link.incarnation == link.incarnation)) s ∙ i)

or_true : (a b : Bool) → b ≡ true → (a || b) ≡ true
or_true true b e = refl
or_true false b e = e

has_among : (link : LinkId) (ls : List LinkId) → Among link ls → has_link link ls ≡ true
has_among link [] none = absurd none
has_among link (l ∷ ls) (inl same) = ap (λ b. b || has_link link ls) (ap (same_link link) (sym same) ∙ same_link_refl link)
has_among link (l ∷ ls) (inr among) = or_true (same_link link l) (has_link link ls) (has_among link ls among)

-- the slots of links rise
abbrev Rise : ℕ → List LinkId → Type 0
Rise from [] = Unit {0}
Rise from (l ∷ ls) = (from ≤ l.slot) × Rise (l.slot + 1) ls

rise-from : (a b : ℕ) (ls : List LinkId) → a ≤ b → Rise b ls → Rise a ls
rise-from a b [] le rise = tt
rise-from a b (l ∷ ls) le rise = let low = rise.0 in (omega (arith, low, le), rise.1)

rise-above : (from : ℕ) (ls : List LinkId) (link : LinkId) → Rise from ls → Among link ls → from ≤ link.slot
rise-above from [] link rise none = absurd none
rise-above from (l ∷ ls) link rise (inl same) = let low = rise.0 in let e = ap (λ (k : LinkId). k.slot) same in omega (arith, low, e)
rise-above from (l ∷ ls) link rise (inr among) = let low = rise.0 in let high = rise-above (l.slot + 1) ls link rise.1 among in omega (arith, low, high)

-- the lightest of a first link and others, whose slots are above it and rise
record IsLightest (weight : LinkId → ℕ) (link : LinkId) (ls : List LinkId) (found : LinkId) : Type 0 where
  which : (found ≡ link) ⊎ (Among found ls × (weight found < weight link))
  least : (m : LinkId) → Among m ls → weight found ≤ weight m
  first : (m : LinkId) → Among m ls → m.slot < found.slot → weight found < weight m

lightest_is : (weight : LinkId → ℕ) (link : LinkId) (ls : List LinkId) → Rise (link.slot + 1) ls → IsLightest weight link ls (lightest weight link ls)
lightest_is weight link [] rise = record { which = inl refl; least = λ m none. absurd none; first = λ m none. absurd none }
lightest_is weight link (l ∷ ls) rise =
    by_test (nat_lt (weight l) (weight link)) refl (lightest_is weight l ls rise.1) (lightest_is weight link ls (rise-from (link.slot + 1) (l.slot + 1) ls (let low = rise.0 in omega (arith, low)) rise.1))
  where
    by_test : (b : Bool) → nat_lt (weight l) (weight link) ≡ b → IsLightest weight l ls (lightest weight l ls) → IsLightest weight link ls (lightest weight link ls) → IsLightest weight link (l ∷ ls) (fold (lighter weight) (if b then l else link) ls)
    by_test true e next stays = lighter_next (let lt : weight l < weight link = grind (arith, nat_tests) in lt) next
      where
        lighter_next : weight l < weight link → IsLightest weight l ls (lightest weight l ls) → IsLightest weight link (l ∷ ls) (lightest weight l ls)
        lighter_next lt found = record {
          which = elim found.which [
            | inl same ↦ inr (inl same, let w = ap weight same in omega (arith, w, lt))
            | inr further ↦ let less = further.1 in inr (inr further.0, omega (arith, less, lt))
          ];
          least = λ m among. elim among [
            | inl same ↦ let w = ap weight same in elim found.which [ inl here ↦ let v = ap weight here in omega (arith, v, w) | inr further ↦ let less = further.1 in omega (arith, less, w) ]
            | inr later ↦ found.least m later
          ];
          first = λ m among low. elim among [
            | inl same ↦ let w = ap weight same in let s = ap (λ (k : LinkId). k.slot) same in elim found.which [
              | inl here ↦ let t = ap (λ (k : LinkId). k.slot) here in absurd (omega (arith, low, s, t))
              | inr further ↦ let less = further.1 in omega (arith, less, w)
            ]
            | inr later ↦ found.first m later low
          ];
        }
    by_test false e next stays = as_light (let le : weight link ≤ weight l = grind (arith, nat_tests) in le) stays
      where
        as_light : weight link ≤ weight l → IsLightest weight link ls (lightest weight link ls) → IsLightest weight link (l ∷ ls) (lightest weight link ls)
        as_light le found = record {
          which = elim found.which [ inl same ↦ inl same | inr further ↦ inr (inr further.0, further.1) ];
          least = λ m among. elim among [
            | inl same ↦ let w = ap weight same in elim found.which [ inl here ↦ let v = ap weight here in omega (arith, v, w, le) | inr further ↦ let less = further.1 in omega (arith, less, w, le) ]
            | inr later ↦ found.least m later
          ];
          first = λ m among low. elim among [
            | inl same ↦ let w = ap weight same in let s = ap (λ (k : LinkId). k.slot) same in let up = rise.0 in elim found.which [
              | inl here ↦ let t = ap (λ (k : LinkId). k.slot) here in absurd (omega (arith, low, s, t, up))
              | inr further ↦ let less = further.1 in omega (arith, less, w, le)
            ]
            | inr later ↦ found.first m later low
          ];
        }

-- the live links of a rising table rise
live_rise : (from to : ℕ) (known : List Known) → AreRising from to known → Rise from (live_links known)
live_rise from to [] rising = tt
live_rise from to (k ∷ table) rising = by_test (is_live k.phase) (live_rise (k.link.slot + 1) to table rising.2)
  where
    by_test : (b : Bool) → Rise (k.link.slot + 1) (live_links table) → Rise from (map (λ (x : Known). x.link) (cond b (k ∷ filter (λ (x : Known). is_live x.phase) table) (filter (λ (x : Known). is_live x.phase) table)))
    by_test true rest = (rising.0, rest)
    by_test false rest = let low = rising.0 in rise-from from (k.link.slot + 1) (live_links table) (omega (arith, low)) rest

-- each of them is the link of its slot, and is live there
record IsOnSlot (from to : ℕ) (known : List Known) (link : LinkId) : Type 0 where
  low : from ≤ link.slot
  high : link.slot ≤ to
  there : link_at link.slot known ≡ Some link
  live : is_live (phase_at link.slot known) ≡ true

on_slot : (from to : ℕ) (known : List Known) (link : LinkId) → AreRising from to known → Among link (live_links known) → IsOnSlot from to known link
on_slot from to [] link rising none = absurd none
on_slot from to (k ∷ table) link rising among = by_test (is_live k.phase) refl among (on_slot (k.link.slot + 1) to table link rising.2)
  where
    later : IsOnSlot (k.link.slot + 1) to table link → IsOnSlot from to (k ∷ table) link
    later rest =
        let up = rest.low in
        let low = rising.0 in
        let other = ne_eqb k.link.slot link.slot (λ same. omega (arith, same, up)) in record {
          low = omega (arith, low, up);
          high = rest.high;
          there = ap (λ b. option_map (λ (x : Known). x.link) (cond b (Some k) (at_slot link.slot table))) other ∙ rest.there;
          live = ap (λ b. is_live (unwrap_or (option_map (λ (x : Known). x.phase) (cond b (Some k) (at_slot link.slot table))) Unused)) other ∙ rest.live;
        }

    here : link ≡ k.link → is_live k.phase ≡ true → IsOnSlot from to (k ∷ table) link
    here same live =
        let slot = ap (λ (l : LinkId). l.slot) same in
        let this = eq-eqb k.link.slot link.slot (sym slot) in
        let low = rising.0 in
        let high = rising.1 in record {
          low = omega (arith, low, slot);
          high = omega (arith, high, slot);
          there = ap (λ b. option_map (λ (x : Known). x.link) (cond b (Some k) (at_slot link.slot table))) this ∙ ap Some (sym same);
          live = ap (λ b. is_live (unwrap_or (option_map (λ (x : Known). x.phase) (cond b (Some k) (at_slot link.slot table))) Unused)) this ∙ live;
        }

    by_test : (b : Bool) → is_live k.phase ≡ b → Among link (map (λ (x : Known). x.link) (cond b (k ∷ filter (λ (x : Known). is_live x.phase) table) (filter (λ (x : Known). is_live x.phase) table)))
        → (Among link (live_links table) → IsOnSlot (k.link.slot + 1) to table link) → IsOnSlot from to (k ∷ table) link
    by_test true e (inl same) rest = here same e
    by_test true e (inr there) rest = later (rest there)
    by_test false e there rest = later (rest there)

-- where the link of a slot is live, it is one of the live ones
live_on : (slot : ℕ) (known : List Known) → is_live (phase_at slot known) ≡ true → (link : LinkId) × (link.slot ≡ slot) × Among link (live_links known)
live_on slot [] live = cc
live_on slot (k ∷ table) live = by_slot (k.link.slot == slot) refl live (live_on slot table)
  where
    later : (b : Bool) → (link : LinkId) × (link.slot ≡ slot) × Among link (live_links table)
        → (link : LinkId) × (link.slot ≡ slot) × Among link (map (λ (x : Known). x.link) (cond b (k ∷ filter (λ (x : Known). is_live x.phase) table) (filter (λ (x : Known). is_live x.phase) table)))
    later true (link, same, among) = (link, same, inr among)
    later false (link, same, among) = (link, same, among)

    here : (b : Bool) → b ≡ true → k.link.slot ≡ slot → (link : LinkId) × (link.slot ≡ slot) × Among link (map (λ (x : Known). x.link) (cond b (k ∷ filter (λ (x : Known). is_live x.phase) table) (filter (λ (x : Known). is_live x.phase) table)))
    here true e same = (k.link, same, inl refl)
    here false e same = cc

    by_slot : (b : Bool) → (k.link.slot == slot) ≡ b → is_live (unwrap_or (option_map (λ (x : Known). x.phase) (cond b (Some k) (at_slot slot table))) Unused) ≡ true
        → (is_live (phase_at slot table) ≡ true → (link : LinkId) × (link.slot ≡ slot) × Among link (live_links table))
        → (link : LinkId) × (link.slot ≡ slot) × Among link (live_links (k ∷ table))
    by_slot true e l rest = here (is_live k.phase) l (eqb-true k.link.slot slot e)
    by_slot false e l rest = later (is_live k.phase) (rest l)

-- the phases by slot, at their places
phase_at_place : (f : ℕ → LinkPhase) (from n i : ℕ) → i < n → get_or (map f (range_with_len from n)) i Unused ≡ f (from + i)
phase_at_place f from zero i low = absurd (omega (arith, low))
phase_at_place f from (suc n) zero low = ap f (omega arith)
phase_at_place f from (suc n) (suc i) low = phase_at_place f (from + 1) n i (omega (arith, low)) ∙ ap f (omega arith)

none_behind : (f : ℕ → LinkPhase) (from n i : ℕ) → n ≤ i → get_or (map f (range_with_len from n)) i Unused ≡ Unused
none_behind f from zero i high = refl
none_behind f from (suc n) zero high = absurd (omega (arith, high))
none_behind f from (suc n) (suc i) high = none_behind f (from + 1) n i (omega (arith, high))

module _ (weight : LinkId → ℕ) (slots : ℕ) (known : List Known) (loads : List ℕ) (rising : AreRising 1 slots known) (told : AreLoads weight known loads) where
  abbrev phases : List LinkPhase
  phases = map (λ k. phase_at k known) (up_to slots)

  -- the live link at a place, and its load
  record IsThere (i : ℕ) : Type 0 where
    link : LinkId
    slot : link.slot ≡ i + 1
    among : Among link (live_links known)
    load : slice_index loads i ≡ weight link

  there : (i : ℕ) → is_live_at phases i ≡ true → IsThere i
  there i live = elim (cases_lt i slots) [
    | inl low ↦ let found = live_on (i + 1) known (ap is_live (ap (λ k. phase_at k known) (let e : i + 1 ≡ 1 + i = omega arith in e) ∙ sym (phase_at_place (λ k. phase_at k known) 1 slots i low)) ∙ live) in record {
      link = found.0;
      slot = found.1;
      among = found.2;
      load = let s = found.1 in ap (slice_index loads) (let e : i ≡ found.0.slot - 1 = omega (arith, s) in e) ∙ told found.0 (has_among found.0 (live_links known) found.2);
    }
    | inr high ↦ let none = sym (ap is_live (none_behind (λ k. phase_at k known) 1 slots i high)) ∙ live in cc
  ]

  -- the lightest of the live links
  module _ (first : LinkId) (others : List LinkId) (all : live_links known ≡ first ∷ others) where
    found_is : IsLightest weight first others (lightest weight first others)
    found_is = lightest_is weight first others (rest_rise (live_links known) all (live_rise 1 slots known rising))
      where
        rest_rise : (ls : List LinkId) → ls ≡ first ∷ others → Rise 1 ls → Rise (first.slot + 1) others
        rest_rise ls e r = let both : Rise 1 (first ∷ others) = subst (Rise 1) e r in both.1

    first_or : (m : LinkId) → Among m (live_links known) → (m ≡ first) ⊎ Among m others
    first_or m among = by_list (live_links known) all among
      where
        by_list : (ls : List LinkId) → ls ≡ first ∷ others → Among m ls → (m ≡ first) ⊎ Among m others
        by_list ls e a = subst (Among m) e a

    found_among : Among (lightest weight first others) (live_links known)
    found_among = subst (Among (lightest weight first others)) (sym all) (by_which found_is.which)
      where
        by_which : ((lightest weight first others) ≡ first) ⊎ (Among (lightest weight first others) others × (weight (lightest weight first others) < weight first)) → Among (lightest weight first others) (first ∷ others)
        by_which (inl same) = inl same
        by_which (inr further) = inr further.0

    on_its_slot : IsOnSlot 1 slots known (lightest weight first others)
    on_its_slot = on_slot 1 slots known (lightest weight first others) rising found_among

    pub found_there : link_at (lightest weight first others).slot known ≡ Some (lightest weight first others)
    found_there = on_its_slot.there

    least : (m : LinkId) → Among m (live_links known) → weight (lightest weight first others) ≤ weight m
    least m among = elim (first_or m among) [
      | inl same ↦ let w = ap weight same in elim found_is.which [ inl here ↦ let v = ap weight here in omega (arith, v, w) | inr further ↦ let less = further.1 in omega (arith, less, w) ]
      | inr later ↦ found_is.least m later
    ]

    before : (m : LinkId) → Among m (live_links known) → m.slot < (lightest weight first others).slot → weight (lightest weight first others) < weight m
    before m among low = elim (first_or m among) [
      | inl same ↦ let w = ap weight same in let s = ap (λ (k : LinkId). k.slot) same in elim found_is.which [
        | inl here ↦ let t = ap (λ (k : LinkId). k.slot) here in absurd (omega (arith, low, s, t))
        | inr further ↦ let less = further.1 in omega (arith, less, w)
      ]
      | inr later ↦ found_is.first m later low
    ]

    pub found_fewest : IsFewest (map (λ k. phase_at k known) (up_to slots)) loads (lightest weight first others).slot
    found_fewest =
        let up = on_its_slot.low in
        let down = on_its_slot.high in
        let load = told (lightest weight first others) (has_among (lightest weight first others) (live_links known) found_among) in record {
          at = (lightest weight first others).slot - 1;
          place = omega (arith, up);
          live = ap is_live (phase_at_place (λ k. phase_at k known) 1 slots ((lightest weight first others).slot - 1) (omega (arith, up, down)) ∙ ap (λ k. phase_at k known) (let e : 1 + ((lightest weight first others).slot - 1) ≡ (lightest weight first others).slot = omega (arith, up) in e)) ∙ on_its_slot.live;
          fewest = λ i live. let t = there i live in let l = least t.link t.among in let w = t.load in omega (arith, load, w, l);
          lowest = λ i low live. let t = there i live in let s = t.slot in let l = before t.link t.among (omega (arith, s, low)) in let w = t.load in omega (arith, load, w, l);
        }

-- the known links of a table rise
rises_from : (a b to : ℕ) (known : List Known) → a ≤ b → AreRising b to known → AreRising a to known
rises_from a b to [] le rising = tt
rises_from a b to (k ∷ table) le rising = let low = rising.0 in (omega (arith, low, le), rising.1, rising.2)

pub rising_in : (b to : ℕ) (ps : List LinkPhase) (ls : List LinkId) → AreInOrder b ls → b + length ls ≤ to + 1 → AreRising b to (known_in ps ls)
rising_in b to [] ls order fits = tt
rising_in b to (p ∷ ps) [] order fits = tt
rising_in b to (p ∷ ps) (l ∷ ls) order fits = by_test (same_phase p Unused) (rising_in (b + 1) to ps ls order.1 (omega (arith, fits)))
  where
    by_test : (t : Bool) → AreRising (b + 1) to (known_in ps ls) → AreRising b to (if t then known_in ps ls else record { link = l; phase = p } ∷ known_in ps ls)
    by_test true rest = rises_from b (b + 1) to (known_in ps ls) (omega arith) rest
    by_test false rest = let slot = order.0 in (omega (arith, slot), omega (arith, slot, fits), subst (λ k. AreRising (k + 1) to (known_in ps ls)) (sym slot) rest)
