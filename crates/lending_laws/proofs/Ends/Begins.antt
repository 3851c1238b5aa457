-- A side begins a group only where it has none, and never one that has ended there: from the verdicts and the count of groups.
use Rattle.std.proofs.Common.{Bool, List, [], ap, arith, eqb-true, false, filter, if◌then◌else◌, inl, inr, length, map, not, refl, subst, sym, true, true≢false, ℕ, ◌&&◌, ◌+◌, ◌==◌, ◌∙◌, ◌∷◌, ◌≡◌, ◌≤◌, ◌⊎◌}
use Rattle.pipe_model.specs.declared.post.Post.TheVariants.{Clc}
use Rattle.std.specs.Prelude.{Some, nat_lt, unwrap_or}
use Rattle.clc_wire.specs.declared.message.ClcMessage.TheVariants.{Accept as AcceptMessage, Confirm as ConfirmMessage}
use Rattle.pipe_model.specs.Handshake.{verdict}
use Rattle.pipe_model.specs.Posts.{begins_group_in}
use Rattle.history_laws.specs.Words.{A, B, Entry, Known, LinkId, Offer, Pending, Post, Setup, Side, WaitsProposal, accept_post, confirm_post, fabric, group_of, groups_begun, has_ended, is_raw, lacks, loses_group_with, named_link, new_offer, no_link, peer, put, stands, table_of}
use Rattle.history_laws.specs.Posts.{AreData, AreFree, IsFree, is_data}
use Rattle.history_laws.specs.Lists.{IsAmong}
use Rattle.history_laws.specs.Made.{IsMadeAll}
use Rattle.history_laws.proofs.Offers.{accepts-in, all-offers, of-entry, sends-accept, states}
use Rattle.history_laws.specs.Offers.{Accepts, Confirms, Offers, OffersAccept, OffersConfirm, OffersNone, accept_link}
use Rattle.history_laws.proofs.Basics.{and-both, by-bool, or-parts}
use Rattle.link_laws.specs.FabricChanges.{OffersFirst, offer_post}
use Rattle.link_laws.specs.Lasting.{AllFlows, InOrEnded}
use Rattle.link_laws.proofs.Lasting.{ByPhase, ByPut, Changed, EndsHere, Entered, Shape, Starts, Stays, Turns, entered, shapes, turns}
use Rattle.link_laws.proofs.Sound.{has-group}
use Rattle.lending_laws.proofs.Lendings.{accept-facts, confirm-facts}
use Rattle.lending_laws.specs.Ends.{AllBegin, BeginsNew}

pub none-free : (x : Side) (s : ℕ) (link : LinkId) (o : Offer) (ps : List Post) → AreFree ps → IsAmong (offer_post x s link o) ps → ⊥
none-free x s link o [] f i = i
none-free x s link o (p ∷ ps) f i = elim i [ inl h ↦ by x (subst (λ q. IsFree q) (sym h) f.0) | inr h ↦ none-free x s link o ps f.1 h ]
  where
    by : (x : Side) → IsFree (offer_post x s link o) → ⊥
    by A f = f
    by B f = f

pub none-data : (x : Side) (s : ℕ) (link : LinkId) (o : Offer) (ps : List Post) → AreData ps → IsAmong (offer_post x s link o) ps → ⊥
none-data x s link o [] f i = i
none-data x s link o (p ∷ ps) f i = elim i [ inl h ↦ true≢false (sym f.0 ∙ (ap is_data (sym h) ∙ by x)) | inr h ↦ none-data x s link o ps f.1 h ]
  where
    by : (x : Side) → is_data (offer_post x s link o) ≡ false
    by A = refl
    by B = refl

-- what a side's offer of first contact is: the next group at B, and at either side there was no group
pub begins-b : (setup : Setup) (payload : List ℕ) (e : Entry) (past : List Entry) → IsMadeAll setup payload (e ∷ past) → (link : LinkId) (o : Offer) → OffersFirst B e link o → (group_of B past ≡ 0) × (link.group ≡ groups_begun past + 1)
begins-b setup payload e past m link o it = by (of-entry setup payload past m.0.0 e m.0.1 (states setup payload past m.1) (all-offers setup payload past m.1)) it.posted
  where
    by : Offers setup payload e past → IsAmong (Clc B it.s (Some link) (AcceptMessage o)) e.posts → (group_of B past ≡ 0) × (link.group ≡ groups_begun past + 1)
    by (OffersNone f) i = absurd (none-free B it.s link o e.posts f i)
    by (OffersConfirm c) i = elim (subst (λ ps. IsAmong (Clc B it.s (Some link) (AcceptMessage o)) ps) c.posts_are i) [
      | inl h ↦ absurd (let w : Clc B it.s (Some link) (AcceptMessage o) ≡ Clc A c.s (Some (unwrap_or (named_link c.s past) no_link)) (ConfirmMessage (new_offer setup payload A c.first (unwrap_or (named_link c.s past) no_link) past)) = h in cc)
      | inr h ↦ absurd (none-data B it.s link o c.more c.plain h)
    ]
    by (OffersAccept a) i = elim (subst (λ ps. IsAmong (Clc B it.s (Some link) (AcceptMessage o)) ps) a.posts_are i) [
      | inl h ↦ here a h
      | inr h ↦ absurd (none-data B it.s link o a.more a.plain h)
    ]
      where
        links : (s t : ℕ) (l k : LinkId) (p q : Offer) → Clc B s (Some l) (AcceptMessage p) ≡ Clc B t (Some k) (AcceptMessage q) → l ≡ k
        links s t l k p q h = cc

        offers : (s t : ℕ) (l k : LinkId) (p q : Offer) → Clc B s (Some l) (AcceptMessage p) ≡ Clc B t (Some k) (AcceptMessage q) → p ≡ q
        offers s t l k p q h = cc

        here : (a : Accepts setup payload e past) → Clc B it.s (Some link) (AcceptMessage o) ≡ accept_post setup payload a.s a.first (accept_link setup payload a.first past) past → (group_of B past ≡ 0) × (link.group ≡ groups_begun past + 1)
        here a h =
            let same : link ≡ accept_link setup payload a.first past = links it.s a.s link (accept_link setup payload a.first past) o _ h in
            let off : o ≡ new_offer setup payload B a.first (accept_link setup payload a.first past) past = offers it.s a.s link (accept_link setup payload a.first past) o _ h in
            let first : a.first ≡ true = sym (ap (λ (p : Offer). p.first) off) ∙ it.first in
            let q = accepts-in (is_raw a.s past) WaitsProposal a.message (lacks setup payload B past) (ap sends-accept (sym (ap (λ w. verdict (is_raw a.s past) w a.message (lacks setup payload B past)) a.waits) ∙ a.step_is)) in
            let r = q.1 in
            let facts = accept-facts (is_raw a.s past) r.0 (lacks setup payload B past) a.first (sym (ap (λ w. verdict (is_raw a.s past) w a.message (lacks setup payload B past)) a.waits ∙ ap (λ m. verdict (is_raw a.s past) WaitsProposal m (lacks setup payload B past)) r.1) ∙ a.step_is) in
            (eqb-true (group_of B past) 0 (facts.first_is ∙ first), ap (λ (l : LinkId). l.group) (same ∙ ap (λ b. accept_link setup payload b past) first))

pub begins-a : (setup : Setup) (payload : List ℕ) (e : Entry) (past : List Entry) → IsMadeAll setup payload (e ∷ past) → (link : LinkId) (o : Offer) → OffersFirst A e link o → group_of A past ≡ 0
begins-a setup payload e past m link o it = by (of-entry setup payload past m.0.0 e m.0.1 (states setup payload past m.1) (all-offers setup payload past m.1)) it.posted
  where
    by : Offers setup payload e past → IsAmong (Clc A it.s (Some link) (ConfirmMessage o)) e.posts → group_of A past ≡ 0
    by (OffersNone f) i = absurd (none-free A it.s link o e.posts f i)
    by (OffersAccept a) i = elim (subst (λ ps. IsAmong (Clc A it.s (Some link) (ConfirmMessage o)) ps) a.posts_are i) [
      | inl h ↦ absurd (let w : Clc A it.s (Some link) (ConfirmMessage o) ≡ Clc B a.s (Some (accept_link setup payload a.first past)) (AcceptMessage (new_offer setup payload B a.first (accept_link setup payload a.first past) past)) = h in cc)
      | inr h ↦ absurd (none-data A it.s link o a.more a.plain h)
    ]
    by (OffersConfirm c) i = elim (subst (λ ps. IsAmong (Clc A it.s (Some link) (ConfirmMessage o)) ps) c.posts_are i) [
      | inl h ↦ here c h
      | inr h ↦ absurd (none-data A it.s link o c.more c.plain h)
    ]
      where
        offers : (s t : ℕ) (l k : LinkId) (p q : Offer) → Clc A s (Some l) (ConfirmMessage p) ≡ Clc A t (Some k) (ConfirmMessage q) → p ≡ q
        offers s t l k p q h = cc

        here : (c : Confirms setup payload e past) → Clc A it.s (Some link) (ConfirmMessage o) ≡ confirm_post setup payload c.s c.first (unwrap_or (named_link c.s past) no_link) past → group_of A past ≡ 0
        here c h =
            let off : o ≡ new_offer setup payload A c.first (unwrap_or (named_link c.s past) no_link) past = offers it.s c.s link (unwrap_or (named_link c.s past) no_link) o _ h in
            let first : c.first ≡ true = sym (ap (λ (p : Offer). p.first) off) ∙ it.first in
            let facts = confirm-facts c.offer (lacks setup payload A past) c.first (sym (ap (λ w. verdict (is_raw c.s past) w (AcceptMessage c.offer) (lacks setup payload A past)) c.waits) ∙ c.step_is) in
            eqb-true (group_of A past) 0 (facts.fresh first)

-- a group that B begins is counted
counted : (post : Post) (ps : List Post) → begins_group_in post ≡ true → IsAmong post ps → 1 ≤ length (filter begins_group_in ps)
counted post [] b i = absurd i
counted post (p ∷ ps) b i = by (begins_group_in p) refl i (λ j. counted post ps b j)
  where
    by : (c : Bool) → begins_group_in p ≡ c → (post ≡ p) ⊎ IsAmong post ps → (IsAmong post ps → 1 ≤ length (filter begins_group_in ps)) → 1 ≤ length (if c then p ∷ filter begins_group_in ps else filter begins_group_in ps)
    by true q i ih = omega arith
    by false q (inl h) ih = absurd (true≢false (sym b ∙ (ap begins_group_in h ∙ q)))
    by false q (inr h) ih = ih h

-- no side has a group beyond those that B has begun
pub at-most : (setup : Setup) (payload : List ℕ) (past : List Entry) → IsMadeAll setup payload past → AllFlows setup payload past → (x : Side) → group_of x past ≤ groups_begun past
at-most setup payload [] m flows x = by x
  where
    by : (x : Side) → group_of x [] ≤ 0
    by A = omega arith
    by B = omega arith
at-most setup payload (e ∷ past) m flows x = by x (shapes e past it x) (at-most setup payload past m.1 flows.1 x) (at-most setup payload past m.1 flows.1 B)
  where
    it : Entered e past
    it = entered setup payload e past m flows

    by : (x : Side) → Shape x e (peer x (fabric past)) (peer x (fabric (e ∷ past))) → group_of x past ≤ groups_begun past → group_of B past ≤ groups_begun past → group_of x (e ∷ past) ≤ groups_begun past + length (filter begins_group_in e.posts)
    by x (Stays g c) p q = omega (arith, g, p)
    by x (EndsHere g) p q = omega (arith, g)
    by A (Starts link o i g l n k) p q = let j = it.joins link o i in (let h : group_of B past ≡ link.group = j.group in omega (arith, g, h, q))
    by B (Starts link o i g l n k) p q =
        let b = begins-b setup payload e past m link o i in
        let c = counted (Clc B i.s (Some link) (AcceptMessage o)) e.posts i.first i.posted in
        let d : link.group ≡ groups_begun past + 1 = b.1 in
        omega (arith, g, d, c)

was-in : (x : Side) (g : ℕ) (e : Entry) (past : List Entry) → loses_group_with x g e past ≡ true → group_of x past ≡ g
was-in x g e past l =
    let a = and-both (not (g == 0)) ((group_of x past == g) && not (group_of x (e ∷ past) == g)) l in
    let b = and-both (group_of x past == g) (not (group_of x (e ∷ past) == g)) a.1 in
    eqb-true (group_of x past) g b.0

pub ended-most : (setup : Setup) (payload : List ℕ) (past : List Entry) → IsMadeAll setup payload past → AllFlows setup payload past → (x : Side) (g : ℕ) → has_ended x g past ≡ true → g ≤ groups_begun past
ended-most setup payload [] m flows x g h = absurd (true≢false (sym h))
ended-most setup payload (e ∷ past) m flows x g h = elim (or-parts (loses_group_with x g e past) (has_ended x g past) h) [
  | inl l ↦ (let a = at-most setup payload past m.1 flows.1 x in let b = was-in x g e past l in omega (arith, a, b))
  | inr r ↦ (let a = ended-most setup payload past m.1 flows.1 x g r in omega (arith, a))
]

-- where A is or was in the group that B is in, B knows a link
pub b-knows : (setup : Setup) (payload : List ℕ) (past : List Entry) → IsMadeAll setup payload past → AllFlows setup payload past → (g : ℕ) → (g ≡ 0 → ⊥) → InOrEnded A g past → group_of B past ≡ g → table_of B past ≡ [] → ⊥
b-knows setup payload [] m flows g some i b t = some (sym b)
b-knows setup payload (e ∷ past) m flows g some i b t = by i (λ j h. b-knows setup payload past m.1 flows.1 g some j h) (at-most setup payload past m.1 flows.1 A) (ended-most setup payload past m.1 flows.1 A g)
  where
    it : Entered e past
    it = entered setup payload e past m flows

    old : InOrEnded A g past → (InOrEnded A g past → group_of B past ≡ g → table_of B past ≡ [] → ⊥) → group_of A past ≤ groups_begun past → (has_ended A g past ≡ true → g ≤ groups_begun past) → ⊥
    old i ih a d = shape (shapes e past it B)
      where
        emptied : Changed (table_of B past) (table_of B (e ∷ past)) → table_of B past ≡ []
        emptied (ByPhase f same may is) = unmap f (table_of B past) (sym is ∙ t)
          where
            unmap : (f : Known → Known) (ks : List Known) → map f ks ≡ [] → ks ≡ []
            unmap f [] q = refl
            unmap f (k ∷ ks) q = absurd (let w : f k ∷ map f ks ≡ [] = q in cc)
        emptied (ByPut link l is) = absurd (full link (table_of B past) (sym is ∙ t))
          where
            full : (link : LinkId) (ks : List Known) → put (record { link = link; phase = Pending }) ks ≡ [] → ⊥
            full link [] q = (let w : record { link = link; phase = Pending } ∷ [] ≡ [] = q in cc)
            full link (k ∷ ks) q = which (link.slot == k.link.slot) (nat_lt link.slot k.link.slot) q
              where
                which : (b c : Bool) → (if b then record { link = link; phase = Pending } ∷ ks else if c then record { link = link; phase = Pending } ∷ k ∷ ks else k ∷ put (record { link = link; phase = Pending }) ks) ≡ [] → ⊥
                which true c q = (let w : record { link = link; phase = Pending } ∷ ks ≡ [] = q in cc)
                which false true q = (let w : record { link = link; phase = Pending } ∷ k ∷ ks ≡ [] = q in cc)
                which false false q = (let w : k ∷ put (record { link = link; phase = Pending }) ks ≡ [] = q in cc)

        most : InOrEnded A g past → g ≤ groups_begun past
        most (inl h) = omega (arith, a, h)
        most (inr h) = d h

        shape : Shape B e (peer B (fabric past)) (peer B (fabric (e ∷ past))) → ⊥
        shape (Stays h c) = ih i (sym h ∙ b) (emptied c)
        shape (EndsHere h) = some (sym b ∙ h)
        shape (Starts link o k h l n z) =
            let q = begins-b setup payload e past m link o k in
            let r : link.group ≡ groups_begun past + 1 = q.1 in
            let u = most i in
            omega (arith, h, b, r, u)

    by : InOrEnded A g (e ∷ past) → (InOrEnded A g past → group_of B past ≡ g → table_of B past ≡ [] → ⊥) → group_of A past ≤ groups_begun past → (has_ended A g past ≡ true → g ≤ groups_begun past) → ⊥
    by (inr h) ih a d = elim (or-parts (loses_group_with A g e past) (has_ended A g past) h) [ inl l ↦ old (inl (was-in A g e past l)) ih a d | inr r ↦ old (inr r) ih a d ]
    by (inl h) ih a d = shape (shapes e past it A)
      where
        shape : Shape A e (peer A (fabric past)) (peer A (fabric (e ∷ past))) → ⊥
        shape (Stays k c) = old (inl (sym k ∙ h)) ih a d
        shape (EndsHere k) = some (sym h ∙ k)
        shape (Starts link o k q l n z) =
            let w : Turns (fabric past) (fabric (e ∷ past)) = turns e past it in
            elim (w.both A B link (z refl)) [
              | inl s ↦ (let r = has-group A (peer A (fabric past)) link (it.linked.own A) s in r.0 (begins-a setup payload e past m link o k))
              | inr s ↦ true≢false (sym s ∙ ap (λ ks. stands link ks) t)
            ]

-- a side begins a group only where it has none, and none that has ended there
pub begins-new : (setup : Setup) (payload : List ℕ) (e : Entry) (past : List Entry) → IsMadeAll setup payload (e ∷ past) → AllFlows setup payload (e ∷ past) → BeginsNew e past
begins-new setup payload e past m flows = record { none = none; new = new }
  where
    it : Entered e past
    it = entered setup payload e past m flows

    none : (x : Side) (link : LinkId) (o : Offer) → OffersFirst x e link o → group_of x past ≡ 0
    none A link o i = begins-a setup payload e past m link o i
    none B link o i = let q = begins-b setup payload e past m link o i in q.0

    new : (x : Side) (link : LinkId) (o : Offer) → OffersFirst x e link o → has_ended x link.group past ≡ false
    new B link o i = by-bool (has_ended B link.group past ≡ false) (has_ended B link.group past)
        (λ h. absurd (let q = begins-b setup payload e past m link o i in let r : link.group ≡ groups_begun past + 1 = q.1 in let u = ended-most setup payload past m.1 flows.1 B link.group h in omega (arith, r, u)))
        (λ h. h)
    new A link o i = by-bool (has_ended A link.group past ≡ false) (has_ended A link.group past)
        (λ h. absurd (let j = it.joins link o i in b-knows setup payload past m.1 flows.1 link.group j.some (inr h) j.group j.table))
        (λ h. h)

-- and so over every history
pub all-begin : (setup : Setup) (payload : List ℕ) (past : List Entry) → IsMadeAll setup payload past → AllFlows setup payload past → AllBegin past
all-begin setup payload [] m flows = tt
all-begin setup payload (e ∷ past) m flows = (begins-new setup payload e past m flows, all-begin setup payload past m.1 flows.1)
