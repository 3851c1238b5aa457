-- A report, and the requests that a side begins of its own (Grow, Test, Trim): links, flows and wires go on.
use Rattle.std.proofs.Common.{Bool, List, Some, [], ap, arith, eq-eqb, false, filter, if◌then◌else◌, inl, inr, not, refl, subst, suc, sym, true, true≢false, zero, ℕ, ◌&&◌, ◌+◌, ◌==◌, ◌∙◌, ◌∷◌, ◌≡◌, ◌≢◌, ◌≤◌}
use Rattle.smc_num.specs.declared.LinkPhase.TheVariants.{Live as LiveLink}
use Rattle.std.specs.List.{range_with_len}
use Rattle.pipe_model.specs.Lawful.{asked}
use Rattle.pipe_model.specs.Fabric.{loses}
use Rattle.pipe_model.specs.declared.reply.Reply.TheVariants.{Idle, Sent}
use Rattle.std.specs.Option.{option_or}
use Rattle.pipe_model.specs.declared.reply.SentKind.TheVariants.{AddLink as AddLinkSent, DeleteRkey as DeleteSent, TestLink as TestSent}
use Rattle.std.specs.Prelude.{Option, unwrap_or}
use Rattle.pipe_model.specs.declared.reply.Hold.TheVariants.{AddLink as AddLinkHold, ConfirmRkey as ConfirmRkeyHold, DeleteRkey as DeleteRkeyHold, FirstContact as FirstContactHold, TestLink as TestLinkHold}
use Rattle.history_laws.specs.Words.{A, B, Done, Entry, Flow, GroupEnded, Grow, Held, LinkId, Peer, Reply, Report, Setup, Side, Test, Trim, begins_delete, dead_at, fabric, flow_of, group_of, grow_post, grow_told, has, head, is_adding, is_asking_or_waiting, is_deleting, is_first_contact, is_live, is_nil, is_standing, link_or_none, lowest_live, peer, peer_of, phase_at, report_posts, report_told, reports, standing_at, table_of, test_post, test_told, trim_post, trim_told, trimmed, with_flow, with_peer}
use Rattle.history_laws.proofs.Basics.{live-is, none-is, some-is}
use Rattle.link_laws.specs.Linked.{AreLinked, Begins, Confirms, Goes, HasNone, IsOwn, IsSound, phases}
use Rattle.link_laws.proofs.Sound.{IsGoing, can-grow, delete-asked, first-not-live, going-of, grown, lowest-lives, none-adding, reported-a, reported-b, reports-linked, slot-of, test-asked, true-not-false}
use Rattle.link_laws.specs.UnderWay.{HasFlows, link_kind}
use Rattle.link_laws.proofs.UnderWay.Entries.{Draft, changed, quiet}
use Rattle.link_laws.proofs.UnderWay.Growing.{grows-peer, known-made, reports-stands}
use Rattle.link_laws.proofs.UnderWay.StepPosts.{loss-made, loss-one, lost-made}
use Rattle.link_laws.proofs.UnderWay.NothingLeft.{gone-here, idle-none, loss-free}
use Rattle.link_laws.proofs.UnderWay.PostKinds.{link-in, one-alone}

-- a side with a live link has a group, beyond first contact
pub live-going : (x : Side) (p : Peer) (k : ℕ) → IsOwn x p → phases p k ≡ LiveLink → (p.group ≢ 0) × IsGoing x p
live-going x p k own live = by own.sound
  where
    by : IsSound x p → (p.group ≢ 0) × IsGoing x p
    by (HasNone g f s) = absurd (true-not-false (is_standing (phases p k)) (ap is_standing live) (Rattle.link_laws.proofs.Sound.none-at k p.table s))
    by (Begins g f t) = absurd (first-not-live x p k own.sound (ap (λ (f : Flow). is_first_contact f.link) f) live)
    by (Confirms link g f t) = absurd (first-not-live x p k own.sound (ap (λ (f : Flow). is_first_contact f.link) f) live)
    by (Goes j g l f) = (g, record { on = j; live = l; flowing = f })

-- the slots of a range
at-least : (n i k : ℕ) (g : ℕ → Bool) → head (filter g (range_with_len i n)) ≡ Some k → i ≤ k
at-least zero i k g e = absurd (none-is k e)
at-least (suc n) i k g e = by (g i) e (λ f. at-least n (i + 1) k g f)
  where
    by : (b : Bool) → head (if b then i ∷ filter g (range_with_len (i + 1) n) else filter g (range_with_len (i + 1) n)) ≡ Some k → (head (filter g (range_with_len (i + 1) n)) ≡ Some k → i + 1 ≤ k) → i ≤ k
    by true e ih = let s : i ≡ k = some-is i k e in omega (arith, s)
    by false e ih = let h : i + 1 ≤ k = ih e in omega (arith, h)

module _ (past : List Entry) (all : HasFlows past) where
  linked : AreLinked (fabric past) all.under
  linked = all.linked

  -- a report
  pub reported : (setup : Setup) (payload : List ℕ) (x : Side) (slot : ℕ) → Draft past all.under (Report x slot) (report_told x slot past) (asked setup payload past (Report x slot) (report_told x slot past))
  reported setup payload x slot = by (standing_at slot (table_of x past)) (dead_at slot (table_of x past) past) ((loses slot (peer_of x past)).group == 0) refl
    where
      lost : (x : Side) → AreLinked (with_peer x (reports slot (peer x (fabric past))) (fabric past)) all.under
      lost A = reported-a slot (fabric past) all.under all.linked
      lost B = reported-b slot (fabric past) all.under all.linked

      by : (b d g : Bool) → dead_at slot (table_of x past) past ≡ d → Draft past all.under (Report x slot) (if b && d then (if g then GroupEnded (peer_of x past).group else Done) else Idle) (asked setup payload past (Report x slot) (if b && d then (if g then GroupEnded (peer_of x past).group else Done) else Idle))
      by false d g e = quiet past all (Report x slot) Idle [] (λ x k. refl) (λ actor posts. refl) tt
      by true false g e = quiet past all (Report x slot) Idle [] (λ x k. refl) (λ actor posts. refl) tt
      by true true true e = changed past all (Report x slot) (GroupEnded (peer_of x past).group) [] (λ x k. refl) tt tt (inl refl)
          (λ actor cs bare. grows-peer x (reports slot (peer x (fabric past))) (fabric past) (λ l s. reports-stands l slot (peer x (fabric past)) s))
          (λ actor cs bare. lost x)
      by true true false e = changed past all (Report x slot) Done (report_posts setup x slot true past) (λ x k. refl) (loss-one x slot true (loses slot (peer_of x past)) setup (flow_of x past) past)
          (loss-made x slot true (loses slot (peer_of x past)) setup (fabric past) (lost-made (fabric past) all.under all.linked x (lowest_live (loses slot (peer_of x past)).table) slot) (flow_of x past) past)
          (loss-free past all setup x slot true (gone-here past all x slot e))
          (λ actor cs bare. grows-peer x (reports slot (peer x (fabric past))) (fabric past) (λ l s. reports-stands l slot (peer x (fabric past)) s))
          (λ actor cs bare. subst (λ o. AreLinked (with_peer x (reports slot (peer x (fabric past))) (fabric past)) (option_or o all.under)) (sym (link-in (report_posts setup x slot true past))) (reports-linked setup x slot past all.under all.linked))

  -- B grows the group
  pub grows : (setup : Setup) (payload : List ℕ) → Draft past all.under Grow (grow_told setup past) (asked setup payload past Grow (grow_told setup past))
  grows setup payload = by (grow_told setup past) refl
    where
      by : (r : Reply) → grow_told setup past ≡ r → Draft past all.under Grow r (asked setup payload past Grow r)
      by (Sent AddLinkSent) e =
          let can = can-grow setup past e in
          subst (λ k. Draft past all.under Grow (Sent AddLinkSent) (grow_post k past ∷ [])) (sym (ap (λ (o : Option ℕ). unwrap_or o 0) can.slot))
          (changed past all Grow (Sent AddLinkSent) (grow_post can.k past ∷ []) (λ x k. refl) (one-alone link_kind (grow_post can.k past)) (known-made (fabric past) all.under all.linked B (lowest_live (table_of B past)), tt)
          (inr (idle-none past all (none-adding (flow_of B past).link can.first can.adding)))
          (λ actor cs bare. grows-peer B _ (fabric past) (λ l s. s))
          (λ actor cs bare. grown setup past cs all.under can (at-least setup.links 1 can.k _ can.slot) all.linked))
      by r e = quiet past all Grow r [] (λ x k. refl) (λ actor posts. refl) tt

  -- a side tests a link
  pub tests : (setup : Setup) (payload : List ℕ) (x : Side) (slot : ℕ) → Draft past all.under (Test x slot) (test_told x slot past) (asked setup payload past (Test x slot) (test_told x slot past))
  tests setup payload x slot = by (is_live (phase_at slot (table_of x past))) (has slot (flow_of x past).tests) refl
    where
      by : (b c : Bool) → is_live (phase_at slot (table_of x past)) ≡ b → Draft past all.under (Test x slot) (if not b then Idle else if c then Held TestLinkHold else Sent TestSent) (asked setup payload past (Test x slot) (if not b then Idle else if c then Held TestLinkHold else Sent TestSent))
      by false c e = quiet past all (Test x slot) Idle [] (λ x k. refl) (λ actor posts. refl) tt
      by true true e = quiet past all (Test x slot) (Held TestLinkHold) [] (λ x k. refl) (λ actor posts. refl) tt
      by true false e =
          let live : phases (peer x (fabric past)) slot ≡ LiveLink = live-is (phase_at slot (table_of x past)) e in
          let own : IsOwn x (peer x (fabric past)) = linked.own x in
          let going = live-going x (peer x (fabric past)) slot own live in
          changed past all (Test x slot) (Sent TestSent) (test_post x slot past ∷ []) (λ x k. refl) (one-alone link_kind (test_post x slot past)) (known-made (fabric past) all.under all.linked x slot, tt) (inl refl)
          (λ actor cs bare. grows-peer x _ (fabric past) (λ l s. s))
          (λ actor cs bare. test-asked x (fabric past) all.under all.linked going.1 going.0 slot live)

  -- the link that carries a request
  pub carrier-is : (x : Side) → IsGoing x (peer x (fabric past)) → (phases (peer x (fabric past)) (lowest_live (table_of x past)) ≡ LiveLink) × (LinkId.slot (link_or_none (lowest_live (table_of x past)) (table_of x past)) ≡ lowest_live (table_of x past))
  carrier-is x going =
      let low = lowest-lives x (peer x (fabric past)) (linked.own x) going in
      (low, slot-of (lowest_live (table_of x past)) (table_of x past) (ap is_standing low))

  -- a side takes keys back
  pub trims : (setup : Setup) (payload : List ℕ) (x : Side) → Draft past all.under (Trim x) (trim_told setup payload x past) (asked setup payload past (Trim x) (trim_told setup payload x past))
  trims setup payload x = by (group_of x past == 0) (is_first_contact (flow_of x past).link) (is_adding (flow_of x past).link) (is_asking_or_waiting (flow_of x past).key) (is_deleting (flow_of x past).key) (is_nil (trimmed setup payload x past)) refl refl
    where
      idle : (r : Reply) → Draft past all.under (Trim x) Idle []
      idle r = quiet past all (Trim x) Idle [] (λ x k. refl) (λ actor posts. refl) tt

      by : (b c d g h i : Bool) → (group_of x past == 0) ≡ b → is_first_contact (flow_of x past).link ≡ c
          → Draft past all.under (Trim x) (if b then Idle else if c then Held FirstContactHold else if d then Held AddLinkHold else if g then Held ConfirmRkeyHold else if h then Held DeleteRkeyHold else if i then Idle else Sent DeleteSent)
          (asked setup payload past (Trim x) (if b then Idle else if c then Held FirstContactHold else if d then Held AddLinkHold else if g then Held ConfirmRkeyHold else if h then Held DeleteRkeyHold else if i then Idle else Sent DeleteSent))
      by true c d g h i p q = quiet past all (Trim x) Idle [] (λ x k. refl) (λ actor posts. refl) tt
      by false true d g h i p q = quiet past all (Trim x) (Held FirstContactHold) [] (λ x k. refl) (λ actor posts. refl) tt
      by false false true g h i p q = quiet past all (Trim x) (Held AddLinkHold) [] (λ x k. refl) (λ actor posts. refl) tt
      by false false false true h i p q = quiet past all (Trim x) (Held ConfirmRkeyHold) [] (λ x k. refl) (λ actor posts. refl) tt
      by false false false false true i p q = quiet past all (Trim x) (Held DeleteRkeyHold) [] (λ x k. refl) (λ actor posts. refl) tt
      by false false false false false true p q = quiet past all (Trim x) Idle [] (λ x k. refl) (λ actor posts. refl) tt
      by false false false false false false p q =
          let ne : group_of x past ≢ 0 = λ z. true≢false (sym (eq-eqb (group_of x past) 0 z) ∙ p) in
          let own : IsOwn x (peer x (fabric past)) = linked.own x in
          let going = going-of x (peer x (fabric past)) own.sound ne q in
          let on = carrier-is x going in
          changed past all (Trim x) (Sent DeleteSent) (trim_post setup payload x past ∷ []) (λ x k. refl) (one-alone link_kind (trim_post setup payload x past)) (known-made (fabric past) all.under all.linked x (lowest_live (table_of x past)), tt) (inl refl)
          (λ actor cs bare. grows-peer x _ (fabric past) (λ l s. s))
          (λ actor cs bare. subst (λ k. AreLinked (with_peer x (with_flow (begins_delete k) (peer x (fabric past))) (fabric past)) all.under) (sym on.1) (delete-asked x (fabric past) all.under all.linked going ne (lowest_live (table_of x past)) on.0))
