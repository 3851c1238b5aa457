-- LLC messages that wait on links: where they come from, and what is under way of their kind.
use Rattle.std.proofs.Common.{Bool, List, [], ap, drop, false, filter, if◌then◌else◌, inl, inr, refl, subst, suc, sym, true, true≢false, zero, ℕ, ◌&&◌, ◌++◌, ◌+◌, ◌∙◌, ◌∷◌, ◌≡◌, ◌⊎◌}
use Rattle.std.specs.List.{cons_option}
use Rattle.std.specs.Prelude.{None, Option, Some, option_map}
use Rattle.history_laws.specs.Words.{A, Act, B, Entry, LinkId, Llc, LlcMessage, Placed, Post, Side, fabric, flow_of, if_latest, is_dead, is_on, leaves, next_number, numbered, other, same_link, same_side, unlanded}
use Rattle.history_laws.specs.Lists.{IsAmong}
use Rattle.history_laws.proofs.Basics.{link-is}
use Rattle.link_laws.specs.OnWires.{IsWaiting}
use Rattle.link_laws.proofs.Keys.{kept-from}
use Rattle.link_laws.specs.Linked.{Under, carried_on}
use Rattle.link_laws.specs.UnderWay.{AreCarriedOf, AreEmpty, IsUnmade, any_kind, kind_messages, kind_of}
use Rattle.link_laws.proofs.UnderWay.{Grows, comes-alive}
use Rattle.link_laws.proofs.Waiting.{HasLanded}
use Rattle.link_laws.specs.KeyFlows.{HasKeyFlow, key_fits, key_kind}

pub among-append : {X : Type 0} (a : X) (xs ys : List X) → IsAmong a (xs ++ ys) → IsAmong a xs ⊎ IsAmong a ys
among-append a [] ys i = inr i
among-append a (x ∷ xs) ys (inl h) = inl (inl h)
among-append a (x ∷ xs) ys (inr h) = elim (among-append a xs ys h) [ inl k ↦ inl (inr k) | inr k ↦ inr k ]

pub among-drop : {X : Type 0} (a : X) (n : ℕ) (xs : List X) → IsAmong a (drop n xs) → IsAmong a xs
among-drop a zero xs i = i
among-drop a (suc n) [] i = i
among-drop a (suc n) (x ∷ xs) i = inr (among-drop a n xs i)

among-numbered : (c : Placed) (n i : ℕ) (ps : List Post) → IsAmong c (numbered n i ps) → IsAmong c.post ps
among-numbered c n i [] k = k
among-numbered c n i (p ∷ ps) (inl h) = inl (ap (λ (d : Placed). d.post) h)
among-numbered c n i (p ∷ ps) (inr h) = inr (among-numbered c n (i + 1) ps h)

-- what waits after an entry waited before it, or is posted with it
pub waited-or-posted : (l : LinkId) (y : Side) (m : LlcMessage) (e : Entry) (past : List Entry) → IsWaiting l y m (e ∷ past) → IsWaiting l y m past ⊎ IsAmong (Llc y l m) e.posts
waited-or-posted l y m e past w = by (among-append w.placed (drop (if_latest l past (leaves y l.slot e.event e.reply)) (unlanded l y past)) (filter (λ c. is_on l y c.post) (numbered (next_number past) 1 e.posts)) w.among)
  where
    by : IsAmong w.placed (drop (if_latest l past (leaves y l.slot e.event e.reply)) (unlanded l y past)) ⊎ IsAmong w.placed (filter (λ c. is_on l y c.post) (numbered (next_number past) 1 e.posts)) → IsWaiting l y m past ⊎ IsAmong (Llc y l m) e.posts
    by (inl h) = inl (record { placed = w.placed; among = among-drop w.placed (if_latest l past (leaves y l.slot e.event e.reply)) (unlanded l y past) h; post_is = w.post_is })
    by (inr h) = let k = kept-from (λ (c : Placed). is_on l y c.post) w.placed (numbered (next_number past) 1 e.posts) h in inr (subst (λ p. IsAmong p e.posts) w.post_is (among-numbered w.placed (next_number past) 1 e.posts k.0))

-- a message that waits is among those of its kind
waits-of : (kind : Under → Bool) (l : LinkId) (y : Side) (m : LlcMessage) (c : Placed) (cs : List Placed) → IsAmong c cs → c.post ≡ Llc y l m → kind (record { from = y; link = l; message = m }) ≡ true → IsAmong m (kind_messages kind cs)
waits-of kind l y m c [] i is k = i
waits-of kind l y m c (d ∷ ds) (inl h) is k = subst (λ o. IsAmong m (cons_option (option_map (λ (w : Under). w.message) o) (kind_messages kind ds))) (sym here) (inl refl)
  where
    here : kind_of kind d.post ≡ Some (record { from = y; link = l; message = m })
    here = ap (λ p. kind_of kind p) (sym (ap (λ (d : Placed). d.post) h) ∙ is) ∙ ap (λ b. if b then Some (record { from = y; link = l; message = m }) else None) k
waits-of kind l y m c (d ∷ ds) (inr h) is k = more (option_map (λ (w : Under). w.message) (kind_of kind d.post)) (waits-of kind l y m c ds h is k)
  where
    more : (o : Option LlcMessage) → IsAmong m (kind_messages kind ds) → IsAmong m (cons_option o (kind_messages kind ds))
    more None i = i
    more (Some n) i = inr i

-- it is what is under way
pub waiting-under : (kind : Under → Bool) (past : List Entry) (under : Option Under) → AreCarriedOf kind past under → (l : LinkId) (y : Side) (m : LlcMessage) → is_dead l past ≡ false → IsWaiting l y m past → kind (record { from = y; link = l; message = m }) ≡ true → under ≡ Some (record { from = y; link = l; message = m })
waiting-under kind past under carried l y m alive w k = by under (subst (λ ms. IsAmong m ms) (carried.carried l y alive) (waits-of kind l y m w.placed (unlanded l y past) w.among w.post_is k))
  where
    side-is : (x z : Side) → same_side x z ≡ true → x ≡ z
    side-is A A e = refl
    side-is B B e = refl
    side-is A B e = absurd (true≢false (sym e))
    side-is B A e = absurd (true≢false (sym e))

    by : (u : Option Under) → IsAmong m (carried_on l y u) → u ≡ Some (record { from = y; link = l; message = m })
    by None i = absurd i
    by (Some v) i = at (same_side y v.from) (same_link l v.link) refl refl i
      where
        at : (a b : Bool) → same_side y v.from ≡ a → same_link l v.link ≡ b → IsAmong m (if a && b then v.message ∷ [] else []) → Some v ≡ Some (record { from = y; link = l; message = m })
        at true true p q (inl h) = ap Some (ap (λ x. record { from = x; link = v.link; message = v.message }) (sym (side-is y v.from p)) ∙ (ap (λ k. record { from = y; link = k; message = v.message }) (sym (link-is l v.link q)) ∙ ap (λ n. record { from = y; link = l; message = n }) (sym h)))
        at true true p q (inr h) = absurd h
        at true false p q i = absurd i
        at false b p q i = absurd i

-- a link on which a message waits, and which is not dead after an entry, was not dead before it
pub waited-alive : (e : Entry) (past : List Entry) → Grows (fabric past) (fabric (e ∷ past)) → AreEmpty past → (l : LinkId) (y : Side) (m : LlcMessage) → IsWaiting l y m past → is_dead l (e ∷ past) ≡ false → is_dead l past ≡ false
waited-alive e past grows empty l y m w alive = by (comes-alive e past grows l alive)
  where
    by : (is_dead l past ≡ false) ⊎ IsUnmade l (fabric past) → is_dead l past ≡ false
    by (inl h) = h
    by (inr new) = absurd (subst (λ ms. IsAmong m ms) (empty.empty l y new) (waits-of any_kind l y m w.placed (unlanded l y past) w.among w.post_is refl))

-- what lands waited
pub landed-waited : (x : Side) (past : List Entry) (act : Act) → HasLanded x past act → IsWaiting act.link (other x) act.message past
landed-waited x past act land = record { placed = land.first; among = subst (λ cs. IsAmong land.first cs) (sym land.front) (inl refl); post_is = land.post_is }

-- a message of a side's key flow fits that flow
pub waiting-fits : (x : Side) (past : List Entry) (keys : HasKeyFlow x past) (l : LinkId) (y : Side) (m : LlcMessage) → is_dead l past ≡ false → IsWaiting l y m past → key_kind x (record { from = y; link = l; message = m }) ≡ true → key_fits l.slot m (flow_of x past) ≡ true
waiting-fits x past keys l y m alive w k = keys.fits (record { from = y; link = l; message = m }) (waiting-under (key_kind x) past keys.under keys.carried l y m alive w k)
