-- What Grow does: B, which has a live link and no link flow, begins to add a link on a slot where none stands there.
use Rattle.std.proofs.Common.{Bool, List, None, Some, [], ap, eq-eqb, false, filter, if◌then◌else◌, not, refl, subst, sym, true, true≢false, ℕ, ◌&&◌, ◌==◌, ◌∙◌, ◌∷◌, ◌≡◌, ◌≢◌, ◌≤◌}
use Rattle.pipe_model.specs.declared.reply.Reply.TheVariants.{Idle, Sent}
use Rattle.pipe_model.specs.declared.reply.SentKind.TheVariants.{AddLink as AddLinkSent}
use Rattle.std.specs.Prelude.{Option}
use Rattle.pipe_model.specs.declared.reply.Hold.TheVariants.{AddLink as AddLinkHold, ConfirmRkey as ConfirmRkeyHold, DeleteRkey as DeleteRkeyHold, FirstContact as FirstContactHold}
use Rattle.pipe_model.specs.Flows.{LinkSent}
use Rattle.pipe_model.specs.Fabric.{after}
use Rattle.history_laws.specs.Words.{Abandoned, AddSeen, AddSent, B, Entry, FirstContact, Grow, Held, KeysSent, LinkFlow, NoFlow, Post, Setup, fabric, flow_of, group_of, grow_post, grow_to, grow_told, head, is_adding, is_asked, is_deleting, is_first_contact, is_standing, link_or_none, lowest_live, open_slots, path_up, peer, standing_at, table_of, up_to, with_peer}
use Rattle.link_laws.specs.Linked.{AreLinked, IsOwn, Under, phases, then_posted}
use Rattle.link_laws.proofs.Sound.Taken.{lowest-lives, slot-of}
use Rattle.link_laws.proofs.Sound.OneSide.{going-of}
use Rattle.link_laws.proofs.Sound.Landings.{grows, linked_to}

-- the reply tells what the side is
pub record CanGrow (setup : Setup) (past : List Entry) : Type 0 where
  pub group : (group_of B past == 0) ≡ false
  pub first : is_first_contact (flow_of B past).link ≡ false
  pub adding : is_adding (flow_of B past).link ≡ false
  pub k : ℕ
  pub slot : head (open_slots setup past) ≡ Some k

pub can-grow : (setup : Setup) (past : List Entry) → grow_told setup past ≡ Sent AddLinkSent → CanGrow setup past
can-grow setup past e = by (group_of B past == 0) (is_first_contact (flow_of B past).link) (is_adding (flow_of B past).link) (is_asked (flow_of B past).key) (is_deleting (flow_of B past).key) (head (open_slots setup past)) refl refl refl refl e
  where
    by : (b c d g h : Bool) (o : Option ℕ) → (group_of B past == 0) ≡ b → is_first_contact (flow_of B past).link ≡ c → is_adding (flow_of B past).link ≡ d → head (open_slots setup past) ≡ o
        → (if b then Idle else if c then Held FirstContactHold else if d then Held AddLinkHold else if g then Held ConfirmRkeyHold else if h then Held DeleteRkeyHold else grow_to o) ≡ Sent AddLinkSent → CanGrow setup past
    by true c d g h o p q r s e = absurd (idle e)
      where
        idle : Idle ≡ Sent AddLinkSent → ⊥
        idle e = cc
    by false true d g h o p q r s e = absurd (held e)
      where
        held : Held FirstContactHold ≡ Sent AddLinkSent → ⊥
        held e = cc
    by false false true g h o p q r s e = absurd (held e)
      where
        held : Held AddLinkHold ≡ Sent AddLinkSent → ⊥
        held e = cc
    by false false false true h o p q r s e = absurd (held e)
      where
        held : Held ConfirmRkeyHold ≡ Sent AddLinkSent → ⊥
        held e = cc
    by false false false false true o p q r s e = absurd (held e)
      where
        held : Held DeleteRkeyHold ≡ Sent AddLinkSent → ⊥
        held e = cc
    by false false false false false None p q r s e = absurd (idle e)
      where
        idle : Idle ≡ Sent AddLinkSent → ⊥
        idle e = cc
    by false false false false false (Some k) p q r s e = record { group = p; first = q; adding = r; k = k; slot = s }

-- the first of those that pass
pub first-passes : (P : ℕ → Type 0) (g : ℕ → Bool) (ks : List ℕ) (k : ℕ) → head (filter g ks) ≡ Some k → g k ≡ true
first-passes P g [] k e = absurd (none e)
  where
    none : None ≡ Some k → ⊥
    none e = cc
first-passes P g (j ∷ ks) k e = by (g j) refl e (λ f. first-passes P g ks k f)
  where
    same : Some j ≡ Some k → j ≡ k
    same e = cc

    by : (b : Bool) → g j ≡ b → head (if b then j ∷ filter g ks else filter g ks) ≡ Some k → (head (filter g ks) ≡ Some k → g k ≡ true) → g k ≡ true
    by true p e ih = ap g (sym (same e)) ∙ p
    by false p e ih = ih e

pub none-adding : (flow : LinkFlow) → is_first_contact flow ≡ false → is_adding flow ≡ false → flow ≡ NoFlow
none-adding NoFlow e f = refl
none-adding FirstContact e f = absurd (true≢false e)
none-adding (AddSent k on) e f = absurd (true≢false f)
none-adding (KeysSent k on) e f = absurd (true≢false f)
none-adding (LinkSent k) e f = absurd (true≢false f)
none-adding (Abandoned on) e f = absurd (true≢false f)
none-adding (AddSeen k) e f = absurd (true≢false f)

-- Grow, told that ADD LINK was sent
pub grown : (setup : Setup) (past : List Entry) (rest : List Post) (u : Option Under) (can : CanGrow setup past) → 1 ≤ CanGrow.k can → AreLinked (fabric past) u
    → AreLinked (after Grow (Sent AddLinkSent) (grow_post (CanGrow.k can) past ∷ rest) past (fabric past)) (then_posted (grow_post (CanGrow.k can) past ∷ rest) u)
grown setup past rest u can one all =
    let own : IsOwn B (peer B (fabric past)) = all.own B in
    let ne : (peer B (fabric past)).group ≢ 0 = λ z. true≢false (sym (eq-eqb (group_of B past) 0 z) ∙ can.group) in
    let low = lowest-lives B (peer B (fabric past)) own (going-of B (peer B (fabric past)) own.sound ne can.first) in
    let to = slot-of (lowest_live (table_of B past)) (table_of B past) (ap is_standing low) in
    subst (λ n. AreLinked (with_peer B (linked_to (AddSent can.k n) (peer B (fabric past))) (fabric past)) (then_posted (grow_post can.k past ∷ rest) u)) (sym to)
    (grows (fabric past) u ne all can.k (lowest_live (table_of B past)) (link_or_none (lowest_live (table_of B past)) (table_of B past)) _ _ _ _ _ _ _ (none-adding (flow_of B past).link can.first can.adding) one free low to)
  where
    and-right : (a b : Bool) → (a && not b) ≡ true → b ≡ false
    and-right true true e = sym e
    and-right true false e = refl
    and-right false b e = absurd (true≢false (sym e))

    free : is_standing (phases (peer B (fabric past)) can.k) ≡ false
    free = and-right (path_up can.k past) (standing_at can.k (table_of B past)) (first-passes (λ n. ⊥) (λ k. path_up k past && not (standing_at k (table_of B past))) (up_to setup.links) can.k can.slot)
