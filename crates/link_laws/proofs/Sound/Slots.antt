-- What stands on a slot of a table, after each change of a table.
use Rattle.std.proofs.Common.{Bool, List, None, Some, [], ap, arith, cond, eq-eqb, eqb-true, false, if◌then◌else◌, map, refl, subst, sym, true, true≢false, ℕ, ◌&&◌, ◌+◌, ◌==◌, ◌||◌, ◌∙◌, ◌∷◌, ◌≡◌, ◌≤◌}
use Rattle.std.specs.Prelude.{Option, find, nat_lt, option_map, unwrap_or}
use Rattle.std.proofs.lemmas.Bool.{ne_eqb}
use Rattle.smc_num.specs.declared.LinkPhase.TheVariants.{Live as LiveLink}
use Rattle.history_laws.specs.Words.{Dead, Known, LinkId, LinkPhase, Pending, Unused, all_dead, at_slot, dead, is_live, is_standing, link_at, lowest_live, phase_at, put, same_link, set_phase, stands, with_phase}
use Rattle.history_laws.proofs.Basics.{link-is, some-is}
use Rattle.history_laws.specs.Tables.{Rises}
use Rattle.link_laws.specs.Linked.{AreOf, NoneStands}

pub link-self : (l : LinkId) → same_link l l ≡ true
link-self l = rw (eq-eqb l.group l.group refl) (rw (eq-eqb l.slot l.slot refl) (eq-eqb l.incarnation l.incarnation refl))

-- the phase that a known link has, none having none
abbrev pub phase_in : Option Known → LinkPhase
phase_in known = unwrap_or (option_map (λ (n : Known). n.phase) known) Unused

pub put-at : (j : ℕ) (new : Known) (ks : List Known) → at_slot j (put new ks) ≡ (if new.link.slot == j then Some new else at_slot j ks)
put-at j new [] = refl
put-at j new (k ∷ ks) = by (new.link.slot == k.link.slot) (nat_lt new.link.slot k.link.slot) (new.link.slot == j) (k.link.slot == j) refl refl refl (put-at j new ks)
  where
    by : (b c d e : Bool) → (new.link.slot == k.link.slot) ≡ b → (new.link.slot == j) ≡ d → (k.link.slot == j) ≡ e → at_slot j (put new ks) ≡ (if new.link.slot == j then Some new else at_slot j ks)
        → find (λ (n : Known). n.link.slot == j) (if b then new ∷ ks else if c then new ∷ k ∷ ks else k ∷ put new ks) ≡ (if new.link.slot == j then Some new else cond (k.link.slot == j) (Some k) (at_slot j ks))
    by true c true e p q r ih = rw q refl
    by true c false e p q r ih = rw q (rw (sym (ap (λ n. n == j) (eqb-true new.link.slot k.link.slot p))) (rw q refl))
    by false true true e p q r ih = rw q refl
    by false true false e p q r ih = rw q refl
    by false false true true p q r ih = absurd (true≢false (sym (eq-eqb new.link.slot k.link.slot (eqb-true new.link.slot j q ∙ sym (eqb-true k.link.slot j r))) ∙ p))
    by false false true false p q r ih = rw r (rw q (ih ∙ rw q refl))
    by false false false true p q r ih = rw r (rw q refl)
    by false false false false p q r ih = rw r (rw q (ih ∙ rw q refl))

-- the same of the link and of the phase
pub put-link : (j : ℕ) (new : Known) (ks : List Known) → link_at j (put new ks) ≡ (if new.link.slot == j then Some new.link else link_at j ks)
put-link j new ks = ap (λ o. option_map (λ (n : Known). n.link) o) (put-at j new ks) ∙ by (new.link.slot == j)
  where
    by : (b : Bool) → option_map (λ (n : Known). n.link) (if b then Some new else at_slot j ks) ≡ (if b then Some new.link else link_at j ks)
    by true = refl
    by false = refl

pub put-phase : (j : ℕ) (new : Known) (ks : List Known) → phase_at j (put new ks) ≡ (if new.link.slot == j then new.phase else phase_at j ks)
put-phase j new ks = ap (λ o. phase_in o) (put-at j new ks) ∙ by (new.link.slot == j)
  where
    by : (b : Bool) → phase_in (if b then Some new else at_slot j ks) ≡ (if b then new.phase else phase_at j ks)
    by true = refl
    by false = refl

-- a change of the phase on one slot
pub phase-link : (k : ℕ) (phase : LinkPhase) (n : Known) → (with_phase k phase n).link ≡ n.link
phase-link k phase n = by (n.link.slot == k)
  where
    by : (b : Bool) → (if b then record n { phase = phase } else n).link ≡ n.link
    by true = refl
    by false = refl

pub set-at : (j k : ℕ) (phase : LinkPhase) (ks : List Known) → at_slot j (set_phase k phase ks) ≡ option_map (with_phase k phase) (at_slot j ks)
set-at j k phase [] = refl
set-at j k phase (n ∷ ks) = ap (λ (l : LinkId). cond (l.slot == j) (Some (with_phase k phase n)) (at_slot j (set_phase k phase ks))) (phase-link k phase n) ∙ by (n.link.slot == j) (set-at j k phase ks)
  where
    by : (c : Bool) → at_slot j (set_phase k phase ks) ≡ option_map (with_phase k phase) (at_slot j ks)
        → cond c (Some (with_phase k phase n)) (at_slot j (set_phase k phase ks)) ≡ option_map (with_phase k phase) (cond c (Some n) (at_slot j ks))
    by true ih = refl
    by false ih = ih

pub found-slot : (j : ℕ) (n : Known) (ks : List Known) → at_slot j ks ≡ Some n → n.link.slot ≡ j
found-slot j n [] e = absurd (none-is n e)
  where
    none-is : {X : Type 0} (a : X) → None ≡ Some a → ⊥
    none-is a e = cc
found-slot j n (m ∷ ks) e = by (m.link.slot == j) refl e (λ f. found-slot j n ks f)
  where
    by : (b : Bool) → (m.link.slot == j) ≡ b → cond b (Some m) (at_slot j ks) ≡ Some n → (at_slot j ks ≡ Some n → n.link.slot ≡ j) → n.link.slot ≡ j
    by true p e ih = ap (λ (x : Known). x.link.slot) (sym (some-is m n e)) ∙ eqb-true m.link.slot j p
    by false p e ih = ih e

pub set-link : (j k : ℕ) (phase : LinkPhase) (ks : List Known) → link_at j (set_phase k phase ks) ≡ link_at j ks
set-link j k phase ks = ap (λ o. option_map (λ (n : Known). n.link) o) (set-at j k phase ks) ∙ by (at_slot j ks)
  where
    by : (o : Option Known) → option_map (λ (n : Known). n.link) (option_map (with_phase k phase) o) ≡ option_map (λ (n : Known). n.link) o
    by None = refl
    by (Some n) = ap Some (phase-link k phase n)

-- on another slot, and on this one
pub set-beside : (j k : ℕ) (phase : LinkPhase) (ks : List Known) → (j == k) ≡ false → phase_at j (set_phase k phase ks) ≡ phase_at j ks
set-beside j k phase ks ne = ap (λ o. phase_in o) (set-at j k phase ks) ∙ by (at_slot j ks) (λ n e. found-slot j n ks e)
  where
    by : (o : Option Known) → ((n : Known) → o ≡ Some n → n.link.slot ≡ j) → phase_in (option_map (with_phase k phase) o) ≡ phase_in o
    by None f = refl
    by (Some n) f = ap (λ b. (if b then record n { phase = phase } else n).phase) (ap (λ m. m == k) (f n refl) ∙ ne)

pub set-here : (k : ℕ) (phase : LinkPhase) (ks : List Known) → is_standing (phase_at k ks) ≡ true → phase_at k (set_phase k phase ks) ≡ phase
set-here k phase ks s = ap (λ o. phase_in o) (set-at k k phase ks) ∙ by (at_slot k ks) s (λ n e. found-slot k n ks e)
  where
    by : (o : Option Known) → is_standing (phase_in o) ≡ true → ((n : Known) → o ≡ Some n → n.link.slot ≡ k) → phase_in (option_map (with_phase k phase) o) ≡ phase
    by None s f = absurd (true≢false (sym s))
    by (Some n) s f = ap (λ b. (if b then record n { phase = phase } else n).phase) (eq-eqb n.link.slot k (f n refl))

pub set-dead : (k : ℕ) (ks : List Known) → is_standing (phase_at k (set_phase k Dead ks)) ≡ false
set-dead k ks = ap (λ o. is_standing (phase_in o)) (set-at k k Dead ks) ∙ by (at_slot k ks) (λ n e. found-slot k n ks e)
  where
    by : (o : Option Known) → ((n : Known) → o ≡ Some n → n.link.slot ≡ k) → is_standing (phase_in (option_map (with_phase k Dead) o)) ≡ false
    by None f = refl
    by (Some n) f = ap (λ b. is_standing (if b then record n { phase = Dead } else n).phase) (eq-eqb n.link.slot k (f n refl))

pub all-none : (ks : List Known) → NoneStands (all_dead ks)
all-none [] = tt
all-none (k ∷ ks) = (refl, all-none ks)

pub all-link : (j : ℕ) (ks : List Known) → link_at j (all_dead ks) ≡ link_at j ks
all-link j [] = refl
all-link j (n ∷ ks) = by (n.link.slot == j) (all-link j ks)
  where
    by : (c : Bool) → link_at j (all_dead ks) ≡ link_at j ks → option_map (λ (n : Known). n.link) (cond c (Some (dead n)) (at_slot j (all_dead ks))) ≡ option_map (λ (n : Known). n.link) (cond c (Some n) (at_slot j ks))
    by true ih = refl
    by false ih = ih

-- all are of one group
pub map-of : (f : Known → Known) → ((k : Known) → (f k).link ≡ k.link) → (group : ℕ) (ks : List Known) → AreOf group ks → AreOf group (map f ks)
map-of f same group [] r = tt
map-of f same group (k ∷ ks) r = (ap (λ (l : LinkId). l.group) (same k) ∙ r.0, map-of f same group ks r.1)

pub put-of : (group : ℕ) (new : Known) (ks : List Known) → new.link.group ≡ group → AreOf group ks → AreOf group (put new ks)
put-of group new [] o r = (o, tt)
put-of group new (k ∷ ks) o r = by (new.link.slot == k.link.slot) (nat_lt new.link.slot k.link.slot) (put-of group new ks o r.1)
  where
    by : (b c : Bool) → AreOf group (put new ks) → AreOf group (if b then new ∷ ks else if c then new ∷ k ∷ ks else k ∷ put new ks)
    by true c rest = (o, r.1)
    by false true rest = (o, r)
    by false false rest = (r.0, rest)

pub of-at : (group j : ℕ) (ks : List Known) (link : LinkId) → AreOf group ks → link_at j ks ≡ Some link → link.group ≡ group
of-at group j [] link r e = absurd (none-is link e)
  where
    none-is : {X : Type 0} (a : X) → None ≡ Some a → ⊥
    none-is a e = cc
of-at group j (n ∷ ks) link r e = by (n.link.slot == j) e (λ f. of-at group j ks link r.1 f)
  where
    by : (b : Bool) → option_map (λ (n : Known). n.link) (cond b (Some n) (at_slot j ks)) ≡ Some link → (link_at j ks ≡ Some link → link.group ≡ group) → link.group ≡ group
    by true e ih = ap (λ (l : LinkId). l.group) (sym (some-is n.link link e)) ∙ r.0
    by false e ih = ih e

-- a link that stands is that of its slot
pub stands-at : (low : ℕ) (l : LinkId) (ks : List Known) → Rises low ks → stands l ks ≡ true → (low ≤ l.slot) × (link_at l.slot ks ≡ Some l) × (is_standing (phase_at l.slot ks) ≡ true)
stands-at low l [] r s = absurd (true≢false (sym s))
stands-at low l (n ∷ ks) r s = by (same_link l n.link) (is_standing n.phase) refl refl s (λ t. stands-at (n.link.slot + 1) l ks r.1 t)
  where
    later : (n.link.slot + 1 ≤ l.slot) × (link_at l.slot ks ≡ Some l) × (is_standing (phase_at l.slot ks) ≡ true) → (low ≤ l.slot) × (link_at l.slot (n ∷ ks) ≡ Some l) × (is_standing (phase_at l.slot (n ∷ ks)) ≡ true)
    later h =
        let apart : (n.link.slot == l.slot) ≡ false = ne_eqb n.link.slot l.slot (λ e. omega (arith, e, h.0)) in
        (omega (arith, r.0, h.0), ap (λ b. option_map (λ (n : Known). n.link) (cond b (Some n) (at_slot l.slot ks))) apart ∙ h.1, ap (λ b. is_standing (phase_in (cond b (Some n) (at_slot l.slot ks)))) apart ∙ h.2)

    by : (b c : Bool) → same_link l n.link ≡ b → is_standing n.phase ≡ c → ((b && c) || stands l ks) ≡ true → (stands l ks ≡ true → (n.link.slot + 1 ≤ l.slot) × (link_at l.slot ks ≡ Some l) × (is_standing (phase_at l.slot ks) ≡ true)) → (low ≤ l.slot) × (link_at l.slot (n ∷ ks) ≡ Some l) × (is_standing (phase_at l.slot (n ∷ ks)) ≡ true)
    by true true e f t ih =
        let same : n.link ≡ l = sym (link-is l n.link e) in
        let here : (n.link.slot == l.slot) ≡ true = eq-eqb n.link.slot l.slot (ap (λ (l : LinkId). l.slot) same) in
        (subst (λ (k : LinkId). low ≤ k.slot) same r.0, ap (λ b. option_map (λ (n : Known). n.link) (cond b (Some n) (at_slot l.slot ks))) here ∙ ap Some same, ap (λ b. is_standing (phase_in (cond b (Some n) (at_slot l.slot ks)))) here ∙ f)
    by true false e f t ih = later (ih t)
    by false c e f t ih = later (ih t)

pub none-stands : (l : LinkId) (ks : List Known) → NoneStands ks → stands l ks ≡ false
none-stands l [] s = refl
none-stands l (n ∷ ks) s = by (same_link l n.link) (is_standing n.phase) s.0 (none-stands l ks s.1)
  where
    by : (b c : Bool) → c ≡ false → stands l ks ≡ false → ((b && c) || stands l ks) ≡ false
    by true true e f = absurd (true≢false e)
    by true false e f = f
    by false c e f = f

-- the lowest live link
pub lowest-is : (low : ℕ) (ks : List Known) → 1 ≤ low → Rises low ks → (lowest_live ks == 0) ≡ false → (low ≤ lowest_live ks) × (phase_at (lowest_live ks) ks ≡ LiveLink)
lowest-is low [] o r ne = absurd (true≢false (sym (eq-eqb 0 0 refl) ∙ ne))
lowest-is low (n ∷ ks) o r ne = by (is_live n.phase) refl (λ f. lowest-is (n.link.slot + 1) ks (omega (arith, r.0, o)) r.1 f)
  where
    live-is : (p : LinkPhase) → is_live p ≡ true → p ≡ LiveLink
    live-is LiveLink e = refl
    live-is Unused e = absurd (true≢false (sym e))
    live-is Pending e = absurd (true≢false (sym e))
    live-is Dead e = absurd (true≢false (sym e))

    lows : Bool → ℕ
    lows b = unwrap_or (option_map (λ (link : LinkId). link.slot) (option_map (λ (known : Known). known.link) (cond b (Some n) (find (λ (known : Known). is_live known.phase) ks)))) 0

    by : (b : Bool) → is_live n.phase ≡ b → ((lowest_live ks == 0) ≡ false → (n.link.slot + 1 ≤ lowest_live ks) × (phase_at (lowest_live ks) ks ≡ LiveLink)) → (low ≤ lowest_live (n ∷ ks)) × (phase_at (lowest_live (n ∷ ks)) (n ∷ ks) ≡ LiveLink)
    by true e ih =
        let is : lowest_live (n ∷ ks) ≡ n.link.slot = ap lows e in
        (rw is r.0, ap (λ j. phase_at j (n ∷ ks)) is ∙ (ap (λ b. phase_in (cond b (Some n) (at_slot n.link.slot ks))) (eq-eqb n.link.slot n.link.slot refl) ∙ live-is n.phase e))
    by false e ih =
        let is : lowest_live (n ∷ ks) ≡ lowest_live ks = ap lows e in
        let h = ih (sym (ap (λ j. j == 0) is) ∙ ne) in
        let apart : (n.link.slot == lowest_live ks) ≡ false = ne_eqb n.link.slot (lowest_live ks) (λ e. omega (arith, e, h.0)) in
        (rw is (omega (arith, r.0, h.0)), ap (λ j. phase_at j (n ∷ ks)) is ∙ (ap (λ b. phase_in (cond b (Some n) (at_slot (lowest_live ks) ks))) apart ∙ h.1))

pub none-live : (low : ℕ) (ks : List Known) → 1 ≤ low → Rises low ks → lowest_live ks ≡ 0 → (j : ℕ) → is_live (phase_at j ks) ≡ false
none-live low [] o r e j = refl
none-live low (n ∷ ks) o r e j = by (is_live n.phase) refl (λ f. none-live (n.link.slot + 1) ks (omega arith) r.1 f j)
  where
    lows : Bool → ℕ
    lows b = unwrap_or (option_map (λ (link : LinkId). link.slot) (option_map (λ (known : Known). known.link) (cond b (Some n) (find (λ (known : Known). is_live known.phase) ks)))) 0

    or : (b : Bool) → is_live n.phase ≡ false → is_live (phase_at j ks) ≡ false → is_live (phase_in (cond b (Some n) (at_slot j ks))) ≡ false
    or true p q = p
    or false p q = q

    by : (b : Bool) → is_live n.phase ≡ b → (lowest_live ks ≡ 0 → is_live (phase_at j ks) ≡ false) → is_live (phase_at j (n ∷ ks)) ≡ false
    by true p ih = absurd (not-zero n.link.slot (omega (arith, r.0, o)) (sym (ap lows p) ∙ e))
      where
        not-zero : (m : ℕ) → 1 ≤ m → m ≡ 0 → ⊥
        not-zero m o e = omega (arith, o, e)
    by false p ih = or (n.link.slot == j) p (ih (sym (ap lows p) ∙ e))

pub some-live : (j : ℕ) (ks : List Known) → Rises 1 ks → phase_at j ks ≡ LiveLink → (lowest_live ks == 0) ≡ false
some-live j ks r e = ne_eqb (lowest_live ks) 0 (λ z. true≢false (sym (ap is_live e) ∙ none-live 1 ks (omega arith) r z j))

pub at-stands : (l : LinkId) (ks : List Known) → link_at l.slot ks ≡ Some l → is_standing (phase_at l.slot ks) ≡ true → stands l ks ≡ true
at-stands l [] e s = absurd (true≢false (sym s))
at-stands l (n ∷ ks) e s = by (n.link.slot == l.slot) e s (λ f t. at-stands l ks f t)
  where
    or : (b c : Bool) → c ≡ true → (b || c) ≡ true
    or true c e = refl
    or false c e = e

    here : (b c d : Bool) → b ≡ true → c ≡ true → ((b && c) || d) ≡ true
    here true true d e f = refl
    here true false d e f = absurd (true≢false (sym f))
    here false c d e f = absurd (true≢false (sym e))

    by : (b : Bool) → option_map (λ (n : Known). n.link) (cond b (Some n) (at_slot l.slot ks)) ≡ Some l → is_standing (phase_in (cond b (Some n) (at_slot l.slot ks))) ≡ true
        → (link_at l.slot ks ≡ Some l → is_standing (phase_at l.slot ks) ≡ true → stands l ks ≡ true) → stands l (n ∷ ks) ≡ true
    by true e s ih = here (same_link l n.link) (is_standing n.phase) (stands l ks) (subst (λ m. same_link l m ≡ true) (sym (some-is n.link l e)) (link-self l)) s
    by false e s ih = or (same_link l n.link && is_standing n.phase) (stands l ks) (ih e s)
