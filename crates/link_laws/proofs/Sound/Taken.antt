-- Whatever message lands at a side on a link that stands at both: links, groups and flows stay sound, and what is then under way is what
-- the side posts.
use Rattle.std.proofs.Common.{Bool, List, None, Some, ap, arith, eqb-true, false, if◌then◌else◌, not, refl, subst, sym, true, true≢false, ℕ, ◌&&◌, ◌==◌, ◌||◌, ◌∙◌, ◌≡◌, ◌≢◌}
use Rattle.std.specs.Prelude.{Option, option_map, unwrap_or}
use Rattle.smc_num.specs.declared.LinkPhase.TheVariants.{Live as LiveLink}
use Rattle.pipe_model.specs.Fabric.{does}
use Rattle.pipe_model.specs.Flows.{LinkSent}
use Rattle.pipe_model.specs.declared.flow.FlowStep.TheVariants.{Live}
use Rattle.history_laws.specs.Words.{A, Abandoned, AddKeys, AddLink, AddSeen, AddSent, AskLink, B, ConfirmLink, Entry, FirstContact, FlowStep, KeysSent, Known, LinkFlow, LinkId, NewKey, NoFlow, Over, Peer, Reject, ReplyAdd, ReplyKeys, SendKeys, Setup, Side, Skip, at_slot, fabric, is_first_contact, is_standing, link_or_none, llc_step, lowest_live, no_link, on_add_keys, on_add_keys_reply, on_add_link, on_add_link_reject, on_add_link_reply, on_confirm_link, on_confirm_link_reply, on_new_link, path_up, peer, phase_at, step_posts, view_of}
use Rattle.history_laws.proofs.Basics.{and-both}
use Rattle.link_laws.proofs.Sound.Slots.{found-slot, lowest-is, phase_in, some-live}
use Rattle.link_laws.specs.Linked.{AreFlowing, AreLinked, IsOwn, LinkFits, StandsAtBoth, is_accepted, is_adding_on, is_confirming, phases, then_posted}
use Rattle.link_laws.proofs.Sound.OneSide.{IsGoing, going-of}
use Rattle.link_laws.proofs.Sound.Landings.{accepts-again, accepts-new, asks-link, b-has, lives-a, lives-b, overs, rejects, replies-keys, sends-keys}
use Rattle.link_laws.proofs.Sound.Frames.{both-in, forgotten}

-- what stands on a slot has the slot
pub slot-of : (j : ℕ) (ks : List Known) → is_standing (phase_at j ks) ≡ true → LinkId.slot (link_or_none j ks) ≡ j
slot-of j ks s = by (at_slot j ks) (λ n e. found-slot j n ks e) s
  where
    by : (o : Option Known) → ((n : Known) → o ≡ Some n → n.link.slot ≡ j) → is_standing (phase_in o) ≡ true → LinkId.slot (unwrap_or (option_map (λ (n : Known). n.link) o) no_link) ≡ j
    by None f s = absurd (true≢false (sym s))
    by (Some n) f s = f n refl

-- the lowest live link of a side beyond first contact
pub lowest-lives : (x : Side) (p : Peer) → IsOwn x p → IsGoing x p → phases p (lowest_live p.table) ≡ LiveLink
lowest-lives x p own goes = let h = lowest-is 1 p.table (omega arith) own.rises (some-live goes.on p.table own.rises goes.live) in h.1

module _ (setup : Setup) (past : List Entry) (l : LinkId) (both : StandsAtBoth l (fabric past)) where
  -- ADD LINK at A
  module _ (r0 : Bool) (e0 : ℕ) (mac0 gid0 : List ℕ) (qp0 k mtu0 psn0 : ℕ) (all : AreLinked (fabric past) (Some (record { from = B; link = l; message = AddLink false r0 e0 mac0 gid0 qp0 k mtu0 psn0 }))) where
    abbrev Taken : FlowStep → Type 0
    Taken step = AreLinked (does A l (AddLink false r0 e0 mac0 gid0 qp0 k mtu0 psn0) step (fabric past)) (then_posted (step_posts setup A l (AddLink false r0 e0 mac0 gid0 qp0 k mtu0 psn0) past step) None)

    takes-new : (up here there : Bool) → is_standing (phases (peer A (fabric past)) k) ≡ here → is_standing (phases (peer B (fabric past)) k) ≡ there → Taken (if not up || (here || there) then Reject else ReplyAdd false)
    takes-new false here there e f = rejects (fabric past) l r0 e0 mac0 gid0 qp0 k mtu0 psn0 both all _ _ _ _ _ _
    takes-new true true there e f = rejects (fabric past) l r0 e0 mac0 gid0 qp0 k mtu0 psn0 both all _ _ _ _ _ _
    takes-new true false true e f = rejects (fabric past) l r0 e0 mac0 gid0 qp0 k mtu0 psn0 both all _ _ _ _ _ _
    takes-new true false false e f = accepts-new (fabric past) l r0 e0 mac0 gid0 qp0 k mtu0 psn0 both all _ e f _ _ _ _ _ _

    pub takes-add : Taken (llc_step A l (AddLink false r0 e0 mac0 gid0 qp0 k mtu0 psn0) past (fabric past))
    takes-add = by (peer A (fabric past)).flow.link refl
      where
        anew : Taken (on_new_link (view_of A k past (fabric past)))
        anew = takes-new (path_up k past) (is_standing (phases (peer A (fabric past)) k)) (is_standing (phases (peer B (fabric past)) k)) refl refl

        again : (j : ℕ) → (peer A (fabric past)).flow.link ≡ AddSeen j → (b here there : Bool) → (k == j) ≡ b → is_standing (phases (peer B (fabric past)) k) ≡ there → Taken (if b && (here && there) then ReplyAdd true else on_new_link (view_of A k past (fabric past)))
        again j e true true true p q = accepts-again (fabric past) l r0 e0 mac0 gid0 qp0 k mtu0 psn0 both all _ _ _ _ _ _ (e ∙ ap (λ i. AddSeen i) (sym (eqb-true k j p))) q
        again j e true true false p q = anew
        again j e true false there p q = anew
        again j e false here there p q = anew

        by : (flow : LinkFlow) → (peer A (fabric past)).flow.link ≡ flow → Taken (on_add_link k (view_of A k past (fabric past)) flow)
        by FirstContact e = forgotten (fabric past) _ all
        by (AddSeen j) e = again j e (k == j) (is_standing (phases (peer A (fabric past)) k)) (is_standing (phases (peer B (fabric past)) k)) refl refl
        by NoFlow e = anew
        by (AddSent j on) e = anew
        by (KeysSent j on) e = anew
        by (LinkSent j) e = anew
        by (Abandoned on) e = anew

  -- a reply that accepts it, at B
  module _ (e0 : ℕ) (mac0 gid0 : List ℕ) (qp0 k mtu0 psn0 : ℕ) (all : AreLinked (fabric past) (Some (record { from = A; link = l; message = AddLink true false e0 mac0 gid0 qp0 k mtu0 psn0 }))) where
    abbrev Accepted : FlowStep → Type 0
    Accepted step = AreLinked (does B l (AddLink true false e0 mac0 gid0 qp0 k mtu0 psn0) step (fabric past)) (then_posted (step_posts setup B l (AddLink true false e0 mac0 gid0 qp0 k mtu0 psn0) past step) None)

    pub takes-accept : Accepted (llc_step B l (AddLink true false e0 mac0 gid0 qp0 k mtu0 psn0) past (fabric past))
    takes-accept = by (peer B (fabric past)).flow.link refl
      where
        group : (peer B (fabric past)).group ≢ 0
        group = b-has (fabric past) _ l both all

        skipped : Accepted Skip
        skipped = forgotten (fabric past) _ all

        is : (is_adding_on k l.slot (peer B (fabric past)).flow.link ≡ true) × (is_accepted k (peer A (fabric past)).flow.link (peer B (fabric past)).flow.link (phases (peer A (fabric past)) k) (phases (peer B (fabric past)) k) ≡ true)
        is = and-both (is_adding_on k l.slot (peer B (fabric past)).flow.link) _ (all.fits (record { from = A; link = l; message = AddLink true false e0 mac0 gid0 qp0 k mtu0 psn0 }) refl both)

        sent : (j on : ℕ) → (peer B (fabric past)).flow.link ≡ AddSent j on → (b here : Bool) → (k == j) ≡ b → Accepted (if b && here then SendKeys else Skip)
        sent j on e true true p =
            let own : IsOwn B (peer B (fabric past)) = all.own B in
            let low = lowest-lives B (peer B (fabric past)) own (going-of B (peer B (fabric past)) own.sound group (ap is_first_contact e)) in
            let same : (peer B (fabric past)).flow.link ≡ AddSent k on = e ∙ ap (λ i. AddSent i on) (sym (eqb-true k j p)) in
            sends-keys (fabric past) _ group all k on (lowest_live (peer B (fabric past)).table) (link_or_none (lowest_live (peer B (fabric past)).table) (peer B (fabric past)).table) _ _ same
            (subst (λ flow. is_accepted k (peer A (fabric past)).flow.link flow (phases (peer A (fabric past)) k) (phases (peer B (fabric past)) k) ≡ true) same is.1) low (slot-of (lowest_live (peer B (fabric past)).table) (peer B (fabric past)).table (ap is_standing low))
        sent j on e true false p = skipped
        sent j on e false here p = skipped

        by : (flow : LinkFlow) → (peer B (fabric past)).flow.link ≡ flow → Accepted (on_add_link_reply k (view_of B k past (fabric past)) flow)
        by (AddSent j on) e = sent j on e (k == j) (is_standing (phases (peer B (fabric past)) k)) refl
        by (Abandoned on) e = overs (fabric past) _ group all (ap is_first_contact e) (λ j. ap (λ flow. is_confirming j flow) e)
        by NoFlow e = skipped
        by FirstContact e = skipped
        by (KeysSent j on) e = skipped
        by (LinkSent j) e = skipped
        by (AddSeen j) e = skipped

  -- a reply that rejects it, at B
  module _ (e0 : ℕ) (mac0 gid0 : List ℕ) (qp0 k mtu0 psn0 : ℕ) (all : AreLinked (fabric past) (Some (record { from = A; link = l; message = AddLink true true e0 mac0 gid0 qp0 k mtu0 psn0 }))) where
    abbrev Rejected : FlowStep → Type 0
    Rejected step = AreLinked (does B l (AddLink true true e0 mac0 gid0 qp0 k mtu0 psn0) step (fabric past)) (then_posted (step_posts setup B l (AddLink true true e0 mac0 gid0 qp0 k mtu0 psn0) past step) None)

    pub takes-reject : Rejected (llc_step B l (AddLink true true e0 mac0 gid0 qp0 k mtu0 psn0) past (fabric past))
    takes-reject = by (peer B (fabric past)).flow.link refl
      where
        group : (peer B (fabric past)).group ≢ 0
        group = b-has (fabric past) _ l both all

        skipped : Rejected Skip
        skipped = forgotten (fabric past) _ all

        sent : (j on : ℕ) → (peer B (fabric past)).flow.link ≡ AddSent j on → (b : Bool) → Rejected (if b then Over else Skip)
        sent j on e true = overs (fabric past) _ group all (ap is_first_contact e) (λ j. ap (λ flow. is_confirming j flow) e)
        sent j on e false = skipped

        by : (flow : LinkFlow) → (peer B (fabric past)).flow.link ≡ flow → Rejected (on_add_link_reject k flow)
        by (AddSent j on) e = sent j on e (k == j)
        by (Abandoned on) e = overs (fabric past) _ group all (ap is_first_contact e) (λ j. ap (λ flow. is_confirming j flow) e)
        by NoFlow e = skipped
        by FirstContact e = skipped
        by (KeysSent j on) e = skipped
        by (LinkSent j) e = skipped
        by (AddSeen j) e = skipped

  -- B's keys, at A
  module _ (k c0 : ℕ) (keys0 : List NewKey) (all : AreLinked (fabric past) (Some (record { from = B; link = l; message = AddKeys false k c0 keys0 }))) where
    abbrev Told : FlowStep → Type 0
    Told step = AreLinked (does A l (AddKeys false k c0 keys0) step (fabric past)) (then_posted (step_posts setup A l (AddKeys false k c0 keys0) past step) None)

    pub takes-keys : Told (llc_step A l (AddKeys false k c0 keys0) past (fabric past))
    takes-keys = by (peer A (fabric past)).flow.link
      where
        seen : (b : Bool) → Told (ReplyKeys b)
        seen true = replies-keys (fabric past) l k c0 _ keys0 _ both all
        seen false = replies-keys (fabric past) l k c0 _ keys0 _ both all

        by : (flow : LinkFlow) → Told (on_add_keys k flow)
        by FirstContact = forgotten (fabric past) _ all
        by (AddSeen j) = seen (k == j)
        by NoFlow = seen false
        by (AddSent j on) = seen false
        by (KeysSent j on) = seen false
        by (LinkSent j) = seen false
        by (Abandoned on) = seen false

  -- A's keys, at B
  module _ (k c0 : ℕ) (keys0 : List NewKey) (all : AreLinked (fabric past) (Some (record { from = A; link = l; message = AddKeys true k c0 keys0 }))) where
    abbrev Answered : FlowStep → Type 0
    Answered step = AreLinked (does B l (AddKeys true k c0 keys0) step (fabric past)) (then_posted (step_posts setup B l (AddKeys true k c0 keys0) past step) None)

    pub takes-keys-reply : Answered (llc_step B l (AddKeys true k c0 keys0) past (fabric past))
    takes-keys-reply = by (peer B (fabric past)).flow.link refl
      where
        group : (peer B (fabric past)).group ≢ 0
        group = b-has (fabric past) _ l both all

        groups : ((peer A (fabric past)).group ≢ 0) × ((peer A (fabric past)).group ≡ (peer B (fabric past)).group)
        groups = both-in (fabric past) _ l all both

        skipped : Answered Skip
        skipped = forgotten (fabric past) _ all

        sent : (j on : ℕ) → (peer B (fabric past)).flow.link ≡ KeysSent j on → (b : Bool) → (k == j) ≡ b → Answered (if b then AskLink else Skip)
        sent j on e true p =
            let own : IsOwn B (peer B (fabric past)) = all.own B in
            let goes = going-of B (peer B (fabric past)) own.sound group (ap is_first_contact e) in
            let same : (peer B (fabric past)).flow.link ≡ KeysSent k on = e ∙ ap (λ i. KeysSent i on) (sym (eqb-true k j p)) in
            let flowing : AreFlowing B (phases (peer B (fabric past))) (peer B (fabric past)).flow = goes.flowing in
            let pending : LinkFits (phases (peer B (fabric past))) (KeysSent k on) = subst (λ flow. LinkFits (phases (peer B (fabric past))) flow) same flowing.link in
            asks-link (fabric past) _ group all k on (link_or_none k (peer B (fabric past)).table) _ _ _ _ _ _ same groups.0 groups.1 (slot-of k (peer B (fabric past)).table (ap is_standing pending.1))
        sent j on e false p = skipped

        by : (flow : LinkFlow) → (peer B (fabric past)).flow.link ≡ flow → Answered (on_add_keys_reply k flow)
        by (KeysSent j on) e = sent j on e (k == j) refl
        by (Abandoned on) e = overs (fabric past) _ group all (ap is_first_contact e) (λ j. ap (λ flow. is_confirming j flow) e)
        by NoFlow e = skipped
        by FirstContact e = skipped
        by (AddSent j on) e = skipped
        by (LinkSent j) e = skipped
        by (AddSeen j) e = skipped

  -- CONFIRM LINK at A
  module _ (mac0 gid0 : List ℕ) (qp0 j0 user0 most0 : ℕ) (all : AreLinked (fabric past) (Some (record { from = B; link = l; message = ConfirmLink false mac0 gid0 qp0 j0 user0 most0 }))) where
    abbrev Asked : FlowStep → Type 0
    Asked step = AreLinked (does A l (ConfirmLink false mac0 gid0 qp0 j0 user0 most0) step (fabric past)) (then_posted (step_posts setup A l (ConfirmLink false mac0 gid0 qp0 j0 user0 most0) past step) None)

    pub takes-confirm : Asked (llc_step A l (ConfirmLink false mac0 gid0 qp0 j0 user0 most0) past (fabric past))
    takes-confirm = by (peer A (fabric past)).flow.link
      where
        skipped : Asked Skip
        skipped = forgotten (fabric past) _ all

        live : (first : Bool) → Asked (Live true first)
        live first = lives-a (fabric past) l mac0 gid0 qp0 j0 user0 most0 both all _ _ _ _ _ _

        seen : (b : Bool) → Asked (if b then Live true false else Skip)
        seen true = live false
        seen false = skipped

        by : (flow : LinkFlow) → Asked (on_confirm_link l.slot flow)
        by FirstContact = live true
        by (AddSeen j) = seen (l.slot == j)
        by NoFlow = skipped
        by (AddSent j on) = skipped
        by (KeysSent j on) = skipped
        by (LinkSent j) = skipped
        by (Abandoned on) = skipped

  -- its reply at B
  module _ (mac0 gid0 : List ℕ) (qp0 j0 user0 most0 : ℕ) (all : AreLinked (fabric past) (Some (record { from = A; link = l; message = ConfirmLink true mac0 gid0 qp0 j0 user0 most0 }))) where
    abbrev Confirmed : FlowStep → Type 0
    Confirmed step = AreLinked (does B l (ConfirmLink true mac0 gid0 qp0 j0 user0 most0) step (fabric past)) (then_posted (step_posts setup B l (ConfirmLink true mac0 gid0 qp0 j0 user0 most0) past step) None)

    pub takes-confirm-reply : Confirmed (llc_step B l (ConfirmLink true mac0 gid0 qp0 j0 user0 most0) past (fabric past))
    takes-confirm-reply = by (peer B (fabric past)).flow.link
      where
        skipped : Confirmed Skip
        skipped = forgotten (fabric past) _ all

        live : (first : Bool) → Confirmed (Live false first)
        live first = lives-b (fabric past) l mac0 gid0 qp0 j0 user0 most0 both all

        by : (flow : LinkFlow) → Confirmed (on_confirm_link_reply flow)
        by FirstContact = live true
        by (LinkSent j) = live false
        by NoFlow = skipped
        by (AddSent j on) = skipped
        by (KeysSent j on) = skipped
        by (Abandoned on) = skipped
        by (AddSeen j) = skipped
