-- The link that B names in later contact is one of its group, and live there.
use Rattle.std.proofs.Common.{Bool, List, Some, [], ap, arith, eq-eqb, eqb-true, false, filter, if◌then◌else◌, refl, sym, true, true≢false, ℕ, ◌+◌, ◌==◌, ◌∙◌, ◌∷◌, ◌≡◌, ◌≢◌, ◌≤◌}
use Rattle.smc_num.specs.declared.LinkPhase.TheVariants.{Live as LiveLink}
use Rattle.std.specs.Prelude.{Option, find, fold, map, nat_lt, option_map, unwrap_or}
use Rattle.history_laws.specs.Words.{B, Entry, Known, LinkId, Setup, Unused, fabric, fewest, flow_of, group_of, is_first_contact, is_live, lent, lighter, lightest, link_at, link_now, live_links, load, lowest_live, peer, phase_at, table_of}
use Rattle.history_laws.specs.Tables.{Rises}
use Rattle.history_laws.proofs.Basics.{live-is}
use Rattle.link_laws.specs.Linked.{AreLinked, IsOwn, Under}
use Rattle.link_laws.proofs.Sound.{IsGoing, going-of, of-at, some-live}

-- all links of a list are such
abbrev Each : (LinkId → Type 0) → List LinkId → Type 0
Each P [] = Unit {0}
Each P (l ∷ ls) = P l × Each P ls

each-to : (P Q : LinkId → Type 0) → ((l : LinkId) → P l → Q l) → (ls : List LinkId) → Each P ls → Each Q ls
each-to P Q f [] a = tt
each-to P Q f (l ∷ ls) a = (f l a.0, each-to P Q f ls a.1)

-- that very link is live in a table, on a slot from this one on
abbrev IsLiveIn : ℕ → List Known → LinkId → Type 0
IsLiveIn low ks l = (low ≤ l.slot) × (link_at l.slot ks ≡ Some l) × (phase_at l.slot ks ≡ LiveLink)

all-live : (low : ℕ) (ks : List Known) → Rises low ks → Each (IsLiveIn low ks) (live_links ks)
all-live low [] r = tt
all-live low (n ∷ ks) r = by (is_live n.phase) refl (all-live (n.link.slot + 1) ks r.1)
  where
    skip : (l : LinkId) → IsLiveIn (n.link.slot + 1) ks l → IsLiveIn low (n ∷ ks) l
    skip l a =
        let other : (n.link.slot == l.slot) ≡ false = ne (n.link.slot == l.slot) refl in
        (omega (arith, a.0, r.0), ap (λ b. option_map (λ (k : Known). k.link) (if b then Some n else find (λ known. known.link.slot == l.slot) ks)) other ∙ a.1, ap (λ b. unwrap_or (option_map (λ (k : Known). k.phase) (if b then Some n else find (λ known. known.link.slot == l.slot) ks)) Unused) other ∙ a.2)
      where
        ne : (b : Bool) → (n.link.slot == l.slot) ≡ b → b ≡ false
        ne true e = absurd (omega (arith, eqb-true n.link.slot l.slot e, a.0))
        ne false e = refl

    rest : Each (IsLiveIn (n.link.slot + 1) ks) (live_links ks) → Each (IsLiveIn low (n ∷ ks)) (live_links ks)
    rest ih = each-to (IsLiveIn (n.link.slot + 1) ks) (IsLiveIn low (n ∷ ks)) skip (live_links ks) ih

    here : (n.link.slot == n.link.slot) ≡ true
    here = eq-eqb n.link.slot n.link.slot refl

    by : (b : Bool) → is_live n.phase ≡ b → Each (IsLiveIn (n.link.slot + 1) ks) (live_links ks) → Each (IsLiveIn low (n ∷ ks)) (map (λ (k : Known). k.link) (if b then n ∷ filter (λ (k : Known). is_live k.phase) ks else filter (λ (k : Known). is_live k.phase) ks))
    by true e ih = ((r.0, ap (λ b. option_map (λ (k : Known). k.link) (if b then Some n else find (λ known. known.link.slot == n.link.slot) ks)) here, ap (λ b. unwrap_or (option_map (λ (k : Known). k.phase) (if b then Some n else find (λ known. known.link.slot == n.link.slot) ks)) Unused) here ∙ live-is n.phase e), rest ih)
    by false e ih = rest ih

lighter-is : (P : LinkId → Type 0) (used : List LinkId) (a b : LinkId) → P a → P b → P (lighter used a b)
lighter-is P used a b p q = by (nat_lt (load b used) (load a used))
  where
    by : (c : Bool) → P (if c then b else a)
    by true = q
    by false = p

fold-is : (P : LinkId → Type 0) (used : List LinkId) (a : LinkId) (ls : List LinkId) → P a → Each P ls → P (fold (lighter used) a ls)
fold-is P used a [] p e = p
fold-is P used a (l ∷ ls) p e = fold-is P used (lighter used a l) ls (lighter-is P used a l p e.0) e.1

lightest-is : (P : LinkId → Type 0) (used : List LinkId) (ls : List LinkId) → (ls ≡ [] → ⊥) → Each P ls → P (lightest used ls)
lightest-is P used [] some e = absurd (some refl)
lightest-is P used (l ∷ ls) some e = fold-is P used l ls e.0 e.1

none-lowest : (ks : List Known) → live_links ks ≡ [] → lowest_live ks ≡ 0
none-lowest [] e = refl
none-lowest (n ∷ ks) e = by (is_live n.phase) e (λ f. none-lowest ks f)
  where
    some : (l : LinkId) (ls : List LinkId) → l ∷ ls ≡ [] → ⊥
    some l ls e = cc

    by : (b : Bool) → map (λ (k : Known). k.link) (if b then n ∷ filter (λ (k : Known). is_live k.phase) ks else filter (λ (k : Known). is_live k.phase) ks) ≡ [] → (live_links ks ≡ [] → lowest_live ks ≡ 0) → unwrap_or (option_map (λ (l : LinkId). l.slot) (option_map (λ (k : Known). k.link) (if b then Some n else find (λ (k : Known). is_live k.phase) ks))) 0 ≡ 0
    by true e ih = absurd (some _ _ e)
    by false e ih = ih e

-- B is beyond first contact: the link that it names is of its group, known and live
pub fewest-is : (setup : Setup) (payload : List ℕ) (past : List Entry) (u : Option Under) → AreLinked (fabric past) u → group_of B past ≢ 0 → is_first_contact (flow_of B past).link ≡ false
    → (group_of B past ≡ (fewest setup payload past).group) × (link_at (fewest setup payload past).slot (table_of B past) ≡ Some (fewest setup payload past)) × (phase_at (fewest setup payload past).slot (table_of B past) ≡ LiveLink)
fewest-is setup payload past u all ne first =
    let own : IsOwn B (peer B (fabric past)) = all.own B in
    let goes : IsGoing B (peer B (fabric past)) = going-of B (peer B (fabric past)) own.sound ne first in
    let low : (lowest_live (table_of B past) == 0) ≡ false = some-live goes.on (table_of B past) own.rises goes.live in
    let it : IsLiveIn 1 (table_of B past) (fewest setup payload past) = lightest-is (IsLiveIn 1 (table_of B past)) (map (link_now setup payload past) (lent setup payload B past)) (live_links (table_of B past)) (λ e. true≢false (sym (eq-eqb (lowest_live (table_of B past)) 0 (none-lowest (table_of B past) e)) ∙ low)) (all-live 1 (table_of B past) own.rises) in
    (sym (of-at (group_of B past) (fewest setup payload past).slot (table_of B past) (fewest setup payload past) (own.owned ne) it.1), it.1, it.2)
