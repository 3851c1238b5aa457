-- What a side offers in a world of one link: a free element of its one RMB, under its one key, on the one link.
use Rattle.std.proofs.Common.{◌≡◌, ap, arith, cond, refl, subst, suc, sym, zero, ◌∙◌}
use Rattle.std.proofs.lemmas.List.{append-nil}
use Rattle.std.specs.List.{range_with_len}
use Rattle.smc_num.specs.declared.LinkId.{LinkId}
use Rattle.smc_num.specs.Links.{live_links}
use Rattle.smc_num.specs.declared.Side.{Side}
use Rattle.pipe_model.specs.Keys.{Keys, keys_of}
use Rattle.pipe_model.specs.declared.entry.Entry.{Entry}
use Rattle.pipe_model.specs.Handshake.{slots_up}
use Rattle.pipe_model.specs.declared.setup.Setup.{Setup}
use Rattle.pipe_model.specs.Fabric.{fabric, made_on, path_up, peer}
use Rattle.smc_num.specs.Names.{head, up_to}
use Rattle.smc_num.specs.declared.Side.TheVariants.{A, B}
use Rattle.pipe_model.specs.Posts.{fewest, first_link, groups_begun, lightest, link_now, new_offer, next_free, offered_place}
use Rattle.world_core.specs.OneLink.{Asking, Begun, IsAtStage, LiveAtA, LiveAtBoth, Made, NoLink, Stage, keys_at, the_key, the_link}
use Rattle.pipe_model.specs.Words.{elements_of, rmbs_of}
use Rattle.smc_num.specs.Keys.{key_base, number_for}
use Rattle.world_core.specs.Sockets.{IsOffer}
use Rattle.pipe_model.specs.Lending.{Lending, lent, free_places, lendings, lends, lent_places, returns}
use Rattle.std.specs.Prelude.{Bool, List, Some, [], false, filter, filter_map, length, map, not, true, unwrap_or, ℕ, ◌++◌, ◌+◌, ◌<◌, ◌==◌, ◌∷◌, ◌≤◌}
use Rattle.smc_num.specs.Places.{Place, all_places, is_free, rmb_address, rmb_at}

-- an element that is the lowest free one
pub record IsFree (setup : Setup) (payload : List ℕ) (x : Side) (past : List Entry) (p : Place) : Type 0 where
  pub found : head (free_places setup payload x past) ≡ Some p
  pub rmb : p.rmb ≡ 1
  pub low : 1 ≤ p.index
  pub high : p.index ≤ elements_of setup x
  pub free : is_free (lent_places (lent setup payload x past)) p ≡ true

-- the first element that passes a test
record IsFirst (test : Place → Bool) (from n : ℕ) (p : Place) : Type 0 where
  pub rmb : p.rmb ≡ 1
  pub low : from ≤ p.index
  pub high : p.index < from + n
  pub free : test p ≡ true

abbrev elements-from : ℕ → ℕ → List Place
elements-from from n = map (λ i. let place : Place = record { rmb = 1; index = i } in place) (range_with_len from n)

first-of : (test : Place → Bool) (from n : ℕ) (p : Place) → head (filter test (elements-from from n)) ≡ Some p → IsFirst test from n p
first-of test from zero p e = cc
first-of test from (suc n) p e = by_test (test (record { rmb = 1; index = from })) refl e (first-of test (from + 1) n p)
  where
    some-is : (a b : Place) → Some a ≡ Some b → a ≡ b
    some-is a b e = cc

    by_test : (b : Bool) → test (record { rmb = 1; index = from }) ≡ b → head (cond b (record { rmb = 1; index = from } ∷ filter test (elements-from (from + 1) n)) (filter test (elements-from (from + 1) n))) ≡ Some p
        → (head (filter test (elements-from (from + 1) n)) ≡ Some p → IsFirst test (from + 1) n p) → IsFirst test from (suc n) p
    by_test true t e rest = subst (IsFirst test from (suc n)) (some-is (record { rmb = 1; index = from }) p e) (record { rmb = refl; low = omega arith; high = omega arith; free = t })
    by_test false t e rest = let r = rest e in record { rmb = r.rmb; low = omega (arith, r.low); high = omega (arith, r.high); free = r.free }

module _ (setup : Setup) (payload : List ℕ) (x : Side) (past : List Entry) (one : rmbs_of setup x ≡ 1) where
  abbrev test-of : Place → Bool
  test-of = is_free (lent_places (lent setup payload x past))

  free-are : free_places setup payload x past ≡ filter test-of (elements-from 1 (elements_of setup x))
  free-are = ap (λ n. filter test-of (all_places n (elements_of setup x))) one ∙ ap (λ (ps : List Place). filter test-of ps) (append-nil (elements-from 1 (elements_of setup x)))

  pub is-free : (p : Place) → head (free_places setup payload x past) ≡ Some p → IsFree setup payload x past p
  is-free p e =
      let r = first-of test-of 1 (elements_of setup x) p (ap (λ (ps : List Place). head ps) (sym free-are) ∙ e) in
      record { found = e; rmb = r.rmb; low = r.low; high = omega (arith, r.high); free = r.free }

  -- there is one unless none is
  pub has-free : (length (free_places setup payload x past) == 0) ≡ false → (p : Place) × IsFree setup payload x past p
  has-free some = by_list (free_places setup payload x past) refl some
    where
      by_list : (ps : List Place) → free_places setup payload x past ≡ ps → (length ps == 0) ≡ false → (p : Place) × IsFree setup payload x past p
      by_list [] e some = cc
      by_list (p ∷ ps) e some = (p, is-free p (ap (λ (qs : List Place). head qs) e))

  -- a side that has not lent has one
  all-free : (n : ℕ) → 1 ≤ n → head (filter (is_free []) (elements-from 1 n)) ≡ Some (record { rmb = 1; index = 1 })
  all-free zero le = absurd (omega arith)
  all-free (suc n) le = refl

  pub unlent-free : lent setup payload x past ≡ [] → 1 ≤ elements_of setup x → (p : Place) × IsFree setup payload x past p
  unlent-free none le = (
    record { rmb = 1; index = 1 },
    is-free (record { rmb = 1; index = 1 }) (
        ap (λ (ps : List Place). head ps) free-are
        ∙ (ap (λ (ls : List Lending). head (filter (is_free (lent_places ls)) (elements-from 1 (elements_of setup x)))) none ∙ all-free (elements_of setup x) le)
        ),
  )

-- a side without lendings has lent nothing
nothing-left : {X : Type 0} (xs ys : List X) → xs ++ ys ≡ [] → (xs ≡ []) × (ys ≡ [])
nothing-left [] ys e = (refl, e)
nothing-left (x ∷ xs) ys e = cc

pub none-lent : (setup : Setup) (payload : List ℕ) (x : Side) (past : List Entry) → lendings x past ≡ [] → lent setup payload x past ≡ []
none-lent setup payload x [] e = refl
none-lent setup payload x (d ∷ older) e =
    let both = nothing-left (filter_map (lends x) d.posts) (lendings x older) e in
    ap (λ (ls : List Lending). ls ++ filter (λ l. not (returns setup payload x d older l)) (lent setup payload x older)) both.0
    ∙ ap (λ (ls : List Lending). filter (λ l. not (returns setup payload x d older l)) ls) (none-lent setup payload x older both.1)

-- the number of the key
key-at : (x : Side) (stage : Stage) → number_for (key_base x) 1 1 (keys_at x stage).keys ≡ (the_key x).key
key-at A NoLink = refl
key-at A (Begun s) = refl
key-at A (Made s) = refl
key-at A (Asking s qp) = refl
key-at A (LiveAtA s qp) = refl
key-at A (LiveAtBoth s) = refl
key-at B NoLink = refl
key-at B (Begun s) = refl
key-at B (Made s) = refl
key-at B (Asking s qp) = refl
key-at B (LiveAtA s qp) = refl
key-at B (LiveAtBoth s) = refl

-- an offer that is made
pub new-is-offer : (setup : Setup) (payload : List ℕ) (x : Side) (first : Bool) (stage : Stage) (past : List Entry) (p : Place) → IsAtStage setup stage past → IsFree setup payload x past p
    → IsOffer setup x first (new_offer setup payload x first the_link past)
new-is-offer setup payload x first stage past p at f =
    let place : next_free setup payload x past ≡ p = ap (λ o. unwrap_or o (record { rmb = 0; index = 0 })) f.found in
    let rmb : (next_free setup payload x past).rmb ≡ 1 = ap (λ (q : Place). q.rmb) place ∙ f.rmb in
    let index : (next_free setup payload x past).index ≡ p.index = ap (λ (q : Place). q.index) place in
    record {
      first_is = refl;
      key = ap (λ n. number_for (key_base x) n 1 (keys_of x past).keys) rmb ∙ (ap (λ (ks : Keys). number_for (key_base x) 1 1 ks.keys) (at.keys x) ∙ key-at x stage);
      address = ap rmb_address rmb;
      rmb = ap (λ n. rmb_at (rmb_address n)) rmb;
      low = omega (arith, f.low, index);
      high = omega (arith, f.high, index);
      size = refl;
      mtu = refl;
      psn = refl;
    }

-- and its place
pub new-place : (setup : Setup) (payload : List ℕ) (x : Side) (first : Bool) (stage : Stage) (past : List Entry) (p : Place) → IsAtStage setup stage past → IsFree setup payload x past p
    → head (free_places setup payload x past) ≡ Some (offered_place (new_offer setup payload x first the_link past))
new-place setup payload x first stage past p at f =
    let i : IsOffer setup x first (new_offer setup payload x first the_link past) = new-is-offer setup payload x first stage past p at f in
    let place : p ≡ next_free setup payload x past = sym (ap (λ o. unwrap_or o (record { rmb = 0; index = 0 })) f.found) in
    let index : p.index ≡ (next_free setup payload x past).index = ap (λ (q : Place). q.index) place in
    f.found
    ∙ ap Some (ap (λ n. let q : Place = record { rmb = n; index = p.index } in q) (f.rmb ∙ sym i.rmb)
    ∙ ap (λ n. let q : Place = record { rmb = rmb_at (new_offer setup payload x first the_link past).address; index = n } in q) index)

-- the slot whose path is up
pub slots-up : (setup : Setup) (stage : Stage) (past : List Entry) → setup.links ≡ 1 → IsAtStage setup stage past → slots_up setup past ≡ 1 ∷ []
slots-up setup stage past one at = ap (λ n. filter (λ k. path_up k past) (up_to n)) one ∙ ap (λ b. cond b (1 ∷ []) []) at.path

-- the link that B names in first contact
pub first-link : (setup : Setup) (past : List Entry) → setup.links ≡ 1 → IsAtStage setup NoLink past → first_link setup past ≡ the_link
first-link setup past one at =
    ap (λ (slots : List ℕ). let slot : ℕ = unwrap_or (head slots) 0 in let link : LinkId = record { group = groups_begun past + 1; slot = slot; incarnation = made_on slot (fabric past) + 1 } in link) (slots-up setup NoLink past one at)
    ∙ (ap (λ n. let link : LinkId = record { group = n + 1; slot = 1; incarnation = made_on 1 (fabric past) + 1 } in link) at.groups
    ∙ ap (λ f. let link : LinkId = record { group = 1; slot = 1; incarnation = made_on 1 f + 1 } in link) at.fabric_is)

-- the link that B names in later contact
pub later-link : (setup : Setup) (payload : List ℕ) (past : List Entry) (s : ℕ) → IsAtStage setup (LiveAtBoth s) past → fewest setup payload past ≡ the_link
later-link setup payload past s at = ap (λ f. lightest (map (link_now setup payload past) (lent setup payload B past)) (live_links (peer B f).table)) at.fabric_is
