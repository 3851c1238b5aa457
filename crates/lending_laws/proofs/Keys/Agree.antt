-- Which key an end writes under: what a side has learnt of a confirmed RMB is the key that its peer bound last, also after the peer's group has ended.
use Rattle.std.proofs.Common.{List, None, Some, [], ap, eq-eqb, eqb-true, false, refl, sym, true, true≢false, ℕ, ◌==◌, ◌∙◌, ◌∷◌, ◌≡◌}
use Rattle.smc_num.specs.Keys.{bound, is_bound}
use Rattle.std.specs.Prelude.{Option, find, option_map}
use Rattle.pipe_model.specs.Keys.{last_bound}
use Rattle.std.specs.Option.{option_or}
use Rattle.history_laws.specs.Words.{Entry, Key, LinkId, Side, book_of, group_of, keys_of, other, same_link}
use Rattle.history_laws.proofs.Basics.{and-both, and-true, link-is}
use Rattle.history_laws.specs.Lists.{IsAmong}
use Rattle.link_laws.specs.KeyChanges.{NoTwo, same_use}
use Rattle.link_laws.proofs.Keys.{any-of, book-once, found-is, found-none, keys-are, one-use}
use Rattle.link_laws.proofs.Sound.{link-self}
use Rattle.link_laws.specs.Learnt.{AreExact, IsNear}
use Rattle.lending_laws.specs.KeyGroups.{AreOfGroup}

-- what is bound for a link is of that RMB and link
bound-of : (rmb : ℕ) (l : LinkId) (k : Key) → is_bound rmb l k ≡ true → (k.rmb ≡ rmb) × (k.link ≡ l)
bound-of rmb l k t = let b = and-both (k.rmb == rmb) (same_link k.link l) t in (eqb-true k.rmb rmb b.0, link-is k.link l b.1)

-- the key of an RMB for a link, among keys of which none is twice
pub bound-is : (ks : List Key) → NoTwo same_use ks → (k : Key) → IsAmong k ks → bound k.rmb k.link ks ≡ Some k.key
bound-is ks uses k i = by (find (is_bound k.rmb k.link) ks) refl
  where
    by : (o : Option Key) → find (is_bound k.rmb k.link) ks ≡ o → option_map (λ (j : Key). j.key) (find (is_bound k.rmb k.link) ks) ≡ Some k.key
    by None e = absurd (true≢false (sym (any-of (is_bound k.rmb k.link) k ks i (and-true (k.rmb == k.rmb) (same_link k.link k.link) (eq-eqb k.rmb k.rmb refl) (link-self k.link))) ∙ found-none (is_bound k.rmb k.link) ks e))
    by (Some j) e =
        let f = found-is (is_bound k.rmb k.link) j ks e in
        let b = bound-of k.rmb k.link j f.1 in
        ap (λ o. option_map (λ (j : Key). j.key) o) e ∙ ap (λ (m : Key). Some m.key) (one-use ks uses j k f.0 i b.0 (ap (λ (l : LinkId). l.slot) b.1))

-- a key that is bound is the one bound last
pub last-is : (y : Side) (past : List Entry) (k : Key) → IsAmong k (keys_of y past).keys → last_bound y k.rmb k.link past ≡ Some k.key
last-is y [] k i = absurd i
last-is y (e ∷ past) k i = ap (λ o. option_or o (last_bound y k.rmb k.link past)) (bound-is (keys_of y (e ∷ past)).keys (keys-are y (e ∷ past)).uses k i)

-- so what x has learnt of a confirmed RMB of y on a near link is the key that y bound last, and x finds just that
pub agrees : (y : Side) (past : List Entry) → AreExact y past → (k : Key) → IsAmong k (book_of (other y) past) → IsAmong k.rmb (keys_of y past).confirmed → IsNear y k.link past
    → (bound k.rmb k.link (book_of (other y) past) ≡ Some k.key) × (last_bound y k.rmb k.link past ≡ Some k.key)
agrees y past exact k i confirmed near = (bound-is (book_of (other y) past) (book-once (other y) past) k i, last-is y past k (exact k i confirmed near))

-- once y has left the group of a link, the key that it bound last for the link stays so
pub last-stays : (y : Side) (e : Entry) (past : List Entry) (rmb : ℕ) (l : LinkId) → AreOfGroup y (e ∷ past) → (l.group == group_of y (e ∷ past)) ≡ false → last_bound y rmb l (e ∷ past) ≡ last_bound y rmb l past
last-stays y e past rmb l of_group left = by (find (is_bound rmb l) (keys_of y (e ∷ past)).keys) refl
  where
    by : (o : Option Key) → find (is_bound rmb l) (keys_of y (e ∷ past)).keys ≡ o → option_or (option_map (λ (j : Key). j.key) (find (is_bound rmb l) (keys_of y (e ∷ past)).keys)) (last_bound y rmb l past) ≡ last_bound y rmb l past
    by None q = ap (λ o. option_or (option_map (λ (j : Key). j.key) o) (last_bound y rmb l past)) q
    by (Some j) q =
        let f = found-is (is_bound rmb l) j (keys_of y (e ∷ past)).keys q in
        absurd (true≢false (sym (eq-eqb l.group (group_of y (e ∷ past)) (ap (λ (m : LinkId). m.group) (sym (bound-of rmb l j f.1).1) ∙ of_group j f.0)) ∙ left))
