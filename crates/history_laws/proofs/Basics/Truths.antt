-- Small facts that stand in many proofs: on truth values, sides, options and sums.
use Rattle.std.proofs.Common.{Bool, List, None, Some, [], ap, arith, eqb-true, false, filter, if◌then◌else◌, inl, inr, map, not, refl, sym, true, true≢false, ℕ, ◌&&◌, ◌==◌, ◌||◌, ◌∙◌, ◌∷◌, ◌≡◌, ◌⊎◌}
use Rattle.smc_num.specs.declared.LinkPhase.TheVariants.{Live as LiveLink}
use Rattle.std.specs.Prelude.{Option, is_some, option_map, unwrap_or}
use Rattle.pipe_model.specs.Parts.{actor}
use Rattle.history_laws.specs.Words.{A, B, Dead, Entry, Event, Known, LinkId, LinkPhase, Pending, Post, Reply, Side, Unused, at_slot, is_live, is_standing, live_links, other, phase_at, rmb_address, rmb_at, same_link, same_side}

pub other-other : (x : Side) → other (other x) ≡ x
other-other A = refl
other-other B = refl

pub by-bool : (P : Type 0) (b : Bool) → (b ≡ true → P) → (b ≡ false → P) → P
by-bool P true f g = f refl
by-bool P false f g = g refl

-- the address of an RMB
pub rmb-of : (rmb : ℕ) → rmb_at (rmb_address rmb) ≡ rmb
rmb-of rmb = omega (arith)

-- a side is this one or the other
pub either-side : (x y : Side) → (y ≡ x) ⊎ (y ≡ other x)
either-side A A = inl refl
either-side A B = inr refl
either-side B A = inr refl
either-side B B = inl refl

pub or-left : (a b : Bool) → a ≡ true → (a || b) ≡ true
or-left true b e = refl
or-left false b e = absurd (true≢false (sym e))

pub or-parts : (a b : Bool) → (a || b) ≡ true → (a ≡ true) ⊎ (b ≡ true)
or-parts true b e = inl refl
or-parts false b e = inr e

pub live-is : (p : LinkPhase) → is_live p ≡ true → p ≡ LiveLink
live-is LiveLink e = refl
live-is Unused e = absurd (true≢false (sym e))
live-is Pending e = absurd (true≢false (sym e))
live-is Dead e = absurd (true≢false (sym e))

-- what is due is due of an end that is up
pub not-due : (a b c : Bool) → a ≡ false → ((a && b) && c) ≡ false
not-due true b c e = cc
not-due false b c e = refl

pub or-shift : (a b c : Bool) → (a || (b || c)) ≡ ((a || b) || c)
or-shift true b c = refl
or-shift false b c = refl

abbrev pub of-side : Side → Option LinkId → Option LinkId → Bool
of-side A a b = is_some a
of-side B a b = is_some b

pub or-nothing : (b : Bool) → (b || false) ≡ b
or-nothing true = refl
or-nothing false = refl

-- a test whose other answer is true
pub not-true : (b : Bool) → not b ≡ true → b ≡ false
not-true true e = absurd (true≢false (sym e))
not-true false e = refl

pub standing-live : (p : LinkPhase) → is_standing p ≡ false → is_live p ≡ false
standing-live Unused e = refl
standing-live Pending e = absurd (true≢false e)
standing-live LiveLink e = absurd (true≢false e)
standing-live Dead e = refl

pub not-false : (b : Bool) → not b ≡ false → b ≡ true
not-false true e = refl
not-false false e = absurd (true≢false e)

pub or-none : (a b : Bool) → (a || b) ≡ false → (a ≡ false) × (b ≡ false)
or-none true b e = absurd (true≢false e)
or-none false b e = (refl, e)

pub some-live : (j : ℕ) (ks : List Known) → phase_at j ks ≡ LiveLink → live_links ks ≡ [] → ⊥
some-live j [] e n = (let w : Unused ≡ LiveLink = e in cc)
some-live j (k ∷ ks) e n = by (k.link.slot == j) (is_live k.phase) refl e n (some-live j ks)
  where
    by : (b c : Bool) → is_live k.phase ≡ c → unwrap_or (option_map (λ (known : Known). known.phase) (if b then Some k else at_slot j ks)) Unused ≡ LiveLink
        → map (λ (known : Known). known.link) (if c then k ∷ filter (λ known. is_live known.phase) ks else filter (λ known. is_live known.phase) ks) ≡ [] → (phase_at j ks ≡ LiveLink → live_links ks ≡ [] → ⊥) → ⊥
    by b true f g h r = cc
    by true false f g h r = true≢false (sym (ap is_live g) ∙ f)
    by false false f g h r = r g h

pub a-is-b : A ≡ B → ⊥
a-is-b e = cc

pub b-not-a : B ≡ A → ⊥
b-not-a e = cc

-- what comes up
abbrev pub of_side : Side → Option LinkId → Option LinkId → Option LinkId
of_side A a b = a
of_side B a b = b

pub if-same : {X : Type 0} (b : Bool) (x : X) → (if b then x else x) ≡ x
if-same true x = refl
if-same false x = refl

pub and-false : (b : Bool) → (b && false) ≡ false
and-false true = refl
and-false false = refl

pub and-both : (a b : Bool) → (a && b) ≡ true → (a ≡ true) × (b ≡ true)
and-both true b e = (refl, e)
and-both false b e = absurd (true≢false (sym e))

pub and-left : (a b : Bool) → (a && b) ≡ true → a ≡ true
and-left a b e = let h = and-both a b e in h.0

pub and-true : (a b : Bool) → a ≡ true → b ≡ true → (a && b) ≡ true
and-true true b e f = f
and-true false b e f = e

pub or-right : (a b : Bool) → (a || b) ≡ false → b ≡ false
or-right true b e = absurd (true≢false e)
or-right false b e = e

pub or-true : (a b : Bool) → b ≡ true → (a || b) ≡ true
or-true true b e = refl
or-true false b e = e

-- sides and links
pub same-self : (x : Side) → same_side x x ≡ true
same-self A = refl
same-self B = refl

pub same-is : (x y : Side) → same_side x y ≡ true → x ≡ y
same-is A A e = refl
same-is B B e = refl
same-is A B e = absurd (true≢false (sym e))
same-is B A e = absurd (true≢false (sym e))

pub link-is : (a b : LinkId) → same_link a b ≡ true → a ≡ b
link-is a b e =
    let p = and-both (a.group == b.group) ((a.slot == b.slot) && (a.incarnation == b.incarnation)) e in
    let q = and-both (a.slot == b.slot) (a.incarnation == b.incarnation) p.1 in
    ap (λ n. record { group = n; slot = a.slot; incarnation = a.incarnation }) (eqb-true a.group b.group p.0)
    ∙ ap (λ n. record { group = b.group; slot = n; incarnation = a.incarnation }) (eqb-true a.slot b.slot q.0)
    ∙ ap (λ n. record { group = b.group; slot = b.slot; incarnation = n }) (eqb-true a.incarnation b.incarnation q.1)

-- what is there
pub some-is : {X : Type 0} (a b : X) → Some a ≡ Some b → a ≡ b
some-is a b e = cc

pub none-is : {X : Type 0} (a : X) → None ≡ Some a → ⊥
none-is a e = cc

pub by-side : (P : Side → Type 0) → P A → P B → (x : Side) → P x
by-side P a b A = a
by-side P a b B = b

-- an entry of an event
abbrev pub entry-of : ℕ → Event → Reply → List Post → Entry
entry-of actor event reply posts = record { actor = actor; event = event; reply = reply; posts = posts }
