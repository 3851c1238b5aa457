-- Whatever LLC message lands on a link that stands at both sides: links, groups and flows stay sound, and of the link flow is then under way
-- what the side posts, or what was under way before.
use Rattle.std.proofs.Common.{Bool, List, None, Some, false, if◌then◌else◌, not, refl, subst, true, ℕ, ◌&&◌, ◌==◌, ◌≡◌}
use Rattle.std.specs.Prelude.{Option}
use Rattle.pipe_model.specs.Fabric.{does}
use Rattle.pipe_model.specs.declared.flow.KeyPhase.TheVariants.{Asked, Free, Retry as RetryWaits}
use Rattle.pipe_model.specs.declared.flow.FlowStep.TheVariants.{Confirmed}
use Rattle.history_laws.specs.Words.{A, AddKeys, AddLink, B, ConfirmLink, ConfirmRkey, DeleteLink, DeleteRkey, Deleting, Drop, Entry, Flow, FlowStep, Gone, KeyPhase, KeyToken, Learn, LinkId, LlcMessage, Peer, ReplyRetry, Retry, Setup, Side, TestLink, fabric, is_adding, is_standing, is_whole, llc_step, on_confirm_rkey_reply, on_delete_rkey_reply, other, peer, phase_at, step_posts, with_peer}
use Rattle.link_laws.specs.Linked.{AreLinked, StandsAtBoth, Under, is_link_message, left_by, then_posted}
use Rattle.link_laws.proofs.Sound.Requests.{drops-answered, key-freed, key-waits, loses-linked, tests-answered}
use Rattle.link_laws.proofs.Sound.Frames.{forgotten}
use Rattle.link_laws.proofs.Sound.Taken.{takes-accept, takes-add, takes-confirm, takes-confirm-reply, takes-keys, takes-keys-reply, takes-reject}

module _ (setup : Setup) (past : List Entry) (l : LinkId) (both : StandsAtBoth l (fabric past)) (u : Option Under) (all : AreLinked (fabric past) u) where
  abbrev Lands : Side → LlcMessage → FlowStep → Type 0
  Lands x m step = AreLinked (does x l m step (fabric past)) (then_posted (step_posts setup x l m past step) (left_by m u))

  with-it : (w : Under) → u ≡ Some w → AreLinked (fabric past) (Some w)
  with-it w e = subst (λ v. AreLinked (fabric past) v) e all

  -- what changes nothing
  same : (x : Side) (v : Option Under) → AreLinked (fabric past) v → AreLinked (with_peer x (peer x (fabric past)) (fabric past)) v
  same A v h = h
  same B v h = h

  key-reply : (x : Side) (retry negative : Bool) (others : ℕ) (tokens : List KeyToken) (whole : Bool) (phase : KeyPhase) → Flow.key (Peer.flow (peer x (fabric past))) ≡ phase → Lands x (ConfirmRkey true retry negative others tokens) (on_confirm_rkey_reply retry whole phase)
  key-reply x retry negative others tokens whole Asked e = by (not retry && whole)
    where
      by : (b : Bool) → Lands x (ConfirmRkey true retry negative others tokens) (if b then Confirmed else Retry)
      by true = key-freed x (fabric past) u all
      by false = key-waits x (fabric past) u all e
  key-reply x retry negative others tokens whole Free e = same x u all
  key-reply x retry negative others tokens whole RetryWaits e = same x u all
  key-reply x retry negative others tokens whole Deleting e = same x u all

  delete-reply : (x : Side) (negative : Bool) (count mask : ℕ) (keys : List ℕ) (phase : KeyPhase) → Lands x (DeleteRkey true negative count mask keys) (on_delete_rkey_reply phase)
  delete-reply x negative count mask keys Deleting = key-freed x (fabric past) u all
  delete-reply x negative count mask keys Free = same x u all
  delete-reply x negative count mask keys Asked = same x u all
  delete-reply x negative count mask keys RetryWaits = same x u all

  deleted : (x : Side) (every orderly : Bool) (k reason : ℕ) (b : Bool) → Lands x (DeleteLink false every orderly k reason) (Gone b)
  deleted A every orderly k reason true = loses-linked setup A k past u all
  deleted B every orderly k reason true = loses-linked setup B k past u all
  deleted x every orderly k reason false = same x u all

  key-at-b : (retry negative : Bool) (others : ℕ) (tokens : List KeyToken) (b : Bool) → Lands B (ConfirmRkey false retry negative others tokens) (if b then ReplyRetry else Learn)
  key-at-b retry negative others tokens true = all
  key-at-b retry negative others tokens false = all

  -- an answer to what is not asked, of a kind that no side sends
  skips : (x : Side) → AreLinked (with_peer x (peer x (fabric past)) (fabric past)) None
  skips x = same x None (forgotten (fabric past) u all)

  pub lands : (x : Side) (m : LlcMessage) → (is_link_message m ≡ true → u ≡ Some (record { from = other x; link = l; message = m })) → Lands x m (llc_step x l m past (fabric past))
  lands A (ConfirmLink false mac gid qp k user most) is = takes-confirm setup past l both mac gid qp k user most (with-it _ (is refl))
  lands B (ConfirmLink false mac gid qp k user most) is = skips B
  lands A (ConfirmLink true mac gid qp k user most) is = skips A
  lands B (ConfirmLink true mac gid qp k user most) is = takes-confirm-reply setup past l both mac gid qp k user most (with-it _ (is refl))
  lands A (AddLink false rejected reason mac gid qp k mtu psn) is = takes-add setup past l both rejected reason mac gid qp k mtu psn (with-it _ (is refl))
  lands B (AddLink false rejected reason mac gid qp k mtu psn) is = skips B
  lands A (AddLink true rejected reason mac gid qp k mtu psn) is = skips A
  lands B (AddLink true false reason mac gid qp k mtu psn) is = takes-accept setup past l both reason mac gid qp k mtu psn (with-it _ (is refl))
  lands B (AddLink true true reason mac gid qp k mtu psn) is = takes-reject setup past l both reason mac gid qp k mtu psn (with-it _ (is refl))
  lands A (AddKeys false k count keys) is = takes-keys setup past l both k count keys (with-it _ (is refl))
  lands B (AddKeys false k count keys) is = skips B
  lands A (AddKeys true k count keys) is = skips A
  lands B (AddKeys true k count keys) is = takes-keys-reply setup past l both k count keys (with-it _ (is refl))
  lands A (DeleteLink false every orderly k reason) is = deleted A every orderly k reason (is_standing (phase_at k (peer A (fabric past)).table) && not (is_standing (phase_at k (peer (other A) (fabric past)).table)))
  lands B (DeleteLink false every orderly k reason) is = deleted B every orderly k reason (is_standing (phase_at k (peer B (fabric past)).table) && not (is_standing (phase_at k (peer (other B) (fabric past)).table)))
  lands A (DeleteLink true every orderly k reason) is = drops-answered A (fabric past) u all (λ (d : Drop). not (d.slot == k))
  lands B (DeleteLink true every orderly k reason) is = drops-answered B (fabric past) u all (λ (d : Drop). not (d.slot == k))
  lands A (ConfirmRkey false retry negative others tokens) is = all
  lands B (ConfirmRkey false retry negative others tokens) is = key-at-b retry negative others tokens (is_adding (peer B (fabric past)).flow.link)
  lands A (ConfirmRkey true retry negative others tokens) is = key-reply A retry negative others tokens (is_whole (peer A (fabric past))) (peer A (fabric past)).flow.key refl
  lands B (ConfirmRkey true retry negative others tokens) is = key-reply B retry negative others tokens (is_whole (peer B (fabric past))) (peer B (fabric past)).flow.key refl
  lands A (TestLink false bytes) is = same A u all
  lands B (TestLink false bytes) is = same B u all
  lands A (TestLink true bytes) is = tests-answered A (fabric past) u all (λ k. not (k == l.slot))
  lands B (TestLink true bytes) is = tests-answered B (fabric past) u all (λ k. not (k == l.slot))
  lands A (DeleteRkey false negative count mask keys) is = same A u all
  lands B (DeleteRkey false negative count mask keys) is = same B u all
  lands A (DeleteRkey true negative count mask keys) is = delete-reply A negative count mask keys (peer A (fabric past)).flow.key
  lands B (DeleteRkey true negative count mask keys) is = delete-reply B negative count mask keys (peer B (fabric past)).flow.key
