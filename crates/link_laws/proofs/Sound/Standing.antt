-- A link that stands after a change of the fabric stood before, or is the one just made.
use Rattle.std.proofs.Common.{Bool, List, [], ap, eqb-true, false, if◌then◌else◌, inl, inr, refl, true, ℕ, ◌&&◌, ◌==◌, ◌||◌, ◌∙◌, ◌∷◌, ◌≡◌, ◌⊎◌}
use Rattle.std.specs.Prelude.{nat_lt}
use Rattle.smc_num.specs.declared.LinkPhase.TheVariants.{Live as LiveLink}
use Rattle.history_laws.specs.Words.{Known, LinkId, is_standing, put, same_link, set_phase, stands}
use Rattle.history_laws.proofs.Basics.{and-left, link-is, or-left, or-parts, or-true}

pub put-stands : (l : LinkId) (new : Known) (ks : List Known) → stands l (put new ks) ≡ true → (l ≡ new.link) ⊎ (stands l ks ≡ true)
put-stands l new [] s = inl (link-is l new.link (and-left (same_link l new.link) (is_standing new.phase) (by (same_link l new.link && is_standing new.phase) s)))
  where
    by : (b : Bool) → (b || false) ≡ true → b ≡ true
    by true e = refl
    by false e = e
put-stands l new (k ∷ ks) s = by (new.link.slot == k.link.slot) (nat_lt new.link.slot k.link.slot) s (λ t. put-stands l new ks t)
  where
    now : Bool
    now = same_link l new.link && is_standing new.phase

    made : (same_link l new.link && is_standing new.phase) ≡ true → (l ≡ new.link) ⊎ (stands l (k ∷ ks) ≡ true)
    made t = inl (link-is l new.link (and-left (same_link l new.link) (is_standing new.phase) t))

    later : (stands l ks ≡ true) → stands l (k ∷ ks) ≡ true
    later t = or-true (same_link l k.link && is_standing k.phase) (stands l ks) t

    by : (b c : Bool) → stands l (if b then new ∷ ks else if c then new ∷ k ∷ ks else k ∷ put new ks) ≡ true → (stands l (put new ks) ≡ true → (l ≡ new.link) ⊎ (stands l ks ≡ true)) → (l ≡ new.link) ⊎ (stands l (k ∷ ks) ≡ true)
    by true c t ih = elim (or-parts (same_link l new.link && is_standing new.phase) (stands l ks) t) [ inl h ↦ made h | inr h ↦ inr (later h) ]
    by false true t ih = elim (or-parts (same_link l new.link && is_standing new.phase) (stands l (k ∷ ks)) t) [ inl h ↦ made h | inr h ↦ inr h ]
    by false false t ih = elim (or-parts (same_link l k.link && is_standing k.phase) (stands l (put new ks)) t) [
      | inl h ↦ inr (or-left (same_link l k.link && is_standing k.phase) (stands l ks) h)
      | inr h ↦ elim (ih h) [ inl e ↦ inl e | inr e ↦ inr (later e) ]
    ]

-- a phase of what stands may change to live
pub live-stands : (l : LinkId) (k : ℕ) (ks : List Known) → stands l (set_phase k LiveLink ks) ≡ true → stands l ks ≡ true ⊎ (l.slot ≡ k)
live-stands l k [] s = inl s
live-stands l k (n ∷ ks) s = by (n.link.slot == k) refl s (λ t. live-stands l k ks t)
  where
    by : (b : Bool) → (n.link.slot == k) ≡ b → (((same_link l (if b then record n { phase = LiveLink } else n).link) && is_standing (if b then record n { phase = LiveLink } else n).phase) || stands l (set_phase k LiveLink ks)) ≡ true
        → (stands l (set_phase k LiveLink ks) ≡ true → stands l ks ≡ true ⊎ (l.slot ≡ k)) → stands l (n ∷ ks) ≡ true ⊎ (l.slot ≡ k)
    by true e t ih = elim (or-parts (same_link l n.link && true) (stands l (set_phase k LiveLink ks)) t) [
      | inl h ↦ inr (ap (λ (m : LinkId). m.slot) (link-is l n.link (and-left (same_link l n.link) true h)) ∙ eqb-true n.link.slot k e)
      | inr h ↦ elim (ih h) [ inl g ↦ inl (or-true (same_link l n.link && is_standing n.phase) (stands l ks) g) | inr g ↦ inr g ]
    ]
    by false e t ih = elim (or-parts (same_link l n.link && is_standing n.phase) (stands l (set_phase k LiveLink ks)) t) [
      | inl h ↦ inl (or-left (same_link l n.link && is_standing n.phase) (stands l ks) h)
      | inr h ↦ elim (ih h) [ inl g ↦ inl (or-true (same_link l n.link && is_standing n.phase) (stands l ks) g) | inr g ↦ inr g ]
    ]
