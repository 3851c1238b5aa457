-- Keys for a new link (ADD LINK CONTINUATION): as they are posted they are bound, they stay so while no keys are withdrawn, and their taker reads them right.
use Rattle.std.proofs.Common.{Bool, List, Some, [], ap, eqb-true, false, filter, inl, inr, length, map, refl, subst, sym, take, true, true≢false, ℕ, ◌==◌, ◌∙◌, ◌∷◌, ◌≡◌}
use Rattle.pipe_model.specs.Messages.{new_key_of, no_new_key, padded}
use Rattle.smc_num.specs.Keys.{is_named}
use Rattle.history_laws.specs.Words.{AddKeys, Entry, Key, LinkId, NewKey, Side, Withdraw, book_of, flow_of, group_of, head, is_deleting, key_on, keys_of, known_rmb, other, same_link, stands, table_of}
use Rattle.history_laws.specs.Lists.{IsAmong}
use Rattle.history_laws.proofs.Basics.{and-both, link-is, none-is, rmb-of, some-is}
use Rattle.link_laws.specs.KeyChanges.{GroupGoes, HasUse, Withdrawn}
use Rattle.link_laws.proofs.Fabric.{taken-key}
use Rattle.link_laws.specs.Covered.{HasKey}
use Rattle.link_laws.proofs.Keys.{kept-from, keys-are, one-number}
use Rattle.link_laws.specs.Learnt.{AreKnown}
use Rattle.lending_laws.specs.Tokens.{PairsBound, use_of}
use Rattle.lending_laws.proofs.Keys.Bound.{stays-bound}
use Rattle.lending_laws.proofs.Keys.Tokens.{cut-among, on-use}
use Rattle.lending_laws.specs.OwedKeys.{TellsPairs}

-- they stay bound
pub pairs-stay : (x : Side) (e : Entry) (past : List Entry) (on j : ℕ) (us : List NewKey) → is_deleting (flow_of x past).key ≡ false → (group_of x (e ∷ past) ≡ 0 → ⊥) → PairsBound on j us (keys_of x past).keys → PairsBound on j us (keys_of x (e ∷ past)).keys
pairs-stay x e past on j us free group bound u i = let b = bound u i in (b.0, (stays (use_of u.reference b.0 on) b.1.0, stays (use_of u.fresh b.0 j) b.1.1))
  where
    stays : (k : Key) → HasUse k (keys_of x past).keys → HasUse k (keys_of x (e ∷ past)).keys
    stays k h = elim (stays-bound x e past k h) [
      | inl there ↦ there
      | inr (Withdrawn t named) ↦ absurd (true≢false (sym (taken-key x e past Withdraw t) ∙ free))
      | inr (GroupGoes none) ↦ absurd (group none)
    ]

-- as they are posted, each RMB having a key on the link that carries them and on the new one
pub pairs-posted : (on j : ℕ) (l m : LinkId) (rmbs : List ℕ) (ks : List Key) → l.slot ≡ on → m.slot ≡ j → ((rmb : ℕ) → IsAmong rmb rmbs → HasKey rmb l ks × HasKey rmb m ks)
    → PairsBound on j (take (length rmbs) (padded 2 no_new_key (map (new_key_of on j ks) rmbs))) ks
pairs-posted on j l m rmbs ks s r have u i =
    let c = cut-among (new_key_of on j ks) rmbs 2 (no_new_key ∷ no_new_key ∷ []) u i in
    let h = have c.0 c.1.0 in (
      c.0,
      (
        subst (λ (v : NewKey). HasUse (use_of v.reference c.0 on) ks) (sym c.1.1) (its c.0 on l h.0 s),
        subst (λ (v : NewKey). HasUse (use_of v.fresh c.0 j) ks) (sym c.1.1) (its c.0 j m h.1 r),
      ),
    )
  where
    its : (rmb slot : ℕ) (link : LinkId) → HasKey rmb link ks → link.slot ≡ slot → HasUse (use_of (key_on rmb slot ks) rmb slot) ks
    its rmb slot link h s = subst (λ n. HasUse (use_of (key_on rmb slot ks) n slot) ks) (rmb-of rmb) (on-use rmb slot ks h.key h.among h.of (ap (λ (k : LinkId). k.slot) h.on ∙ s))

-- the entry of what is known that a reference names
pub known-is : (n : ℕ) (on : LinkId) (book : List Key) (rmb : ℕ) → known_rmb n on book ≡ Some rmb → (k : Key) × (IsAmong k book × ((k.key ≡ n) × ((k.link ≡ on) × (k.rmb ≡ rmb))))
known-is n on book rmb e = by (filter (is_named n on) book) (λ k i. kept-from (is_named n on) k book i) e
  where
    by : (ks : List Key) → ((k : Key) → IsAmong k ks → IsAmong k book × (is_named n on k ≡ true)) → head (map (λ (k : Key). k.rmb) ks) ≡ Some rmb → (k : Key) × (IsAmong k book × ((k.key ≡ n) × ((k.link ≡ on) × (k.rmb ≡ rmb))))
    by [] each e = absurd (none-is rmb e)
    by (k ∷ ks) each e =
        let f = each k (inl refl) in
        let b = and-both (k.key == n) (same_link k.link on) f.1 in
        (k, (f.0, (eqb-true k.key n b.0, (link-is k.link on b.1, some-is k.rmb rmb e))))

-- their taker, who knows of a link that stands at x what is bound there, reads them right
pub pairs-read : (x : Side) (past : List Entry) (on : LinkId) (reply : Bool) (j count : ℕ) (us : List NewKey) → AreKnown x past → stands on (table_of x past) ≡ true → PairsBound on.slot j (take count us) (keys_of x past).keys
    → TellsPairs on (AddKeys reply j count us) (book_of (other x) past) (keys_of x past).keys
pairs-read x past on reply j count us known s bound u i rmb e =
    let b = bound u i in
    let k = known-is u.reference on (book_of (other x) past) rmb e in
    let h = known k.0 k.1.0 (ap (λ l. stands l (table_of x past)) k.1.1.1.0 ∙ s) in
    let one = one-number (keys_of x past).keys (keys-are x past).numbers h.key b.1.0.key h.among b.1.0.among (h.number ∙ (k.1.1.0 ∙ sym b.1.0.number)) in
    let same : b.0 ≡ rmb = sym b.1.0.of ∙ (ap (λ (m : Key). m.rmb) (sym one) ∙ (h.of ∙ k.1.1.1.1)) in
    subst (λ n. HasUse (use_of u.fresh n j) (keys_of x past).keys) same b.1.1
