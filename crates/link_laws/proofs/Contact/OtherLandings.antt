-- An LLC message lands: what it does to the sides, as first contact sees it.
use Rattle.std.proofs.Common.{Bool, List, None, Some, ap, eq-eqb, eqb-true, false, if◌then◌else◌, inl, not, refl, subst, sym, true, true≢false, ℕ, ◌&&◌, ◌==◌, ◌∙◌, ◌≡◌, ◌≢◌}
use Rattle.pipe_model.specs.declared.flow.FlowStep.TheVariants.{Answered, Confirmed, Live}
use Rattle.smc_num.specs.declared.LinkPhase.TheVariants.{Live as LiveLink}
use Rattle.pipe_model.specs.Fabric.{acts, loses}
use Rattle.std.specs.Prelude.{Option, option_map, unwrap_or}
use Rattle.pipe_model.specs.declared.flow.KeyPhase.TheVariants.{Asked, Free, Retry as RetryWaits}
use Rattle.history_laws.specs.Words.{A, AddKeys, AddLink, AskLink, B, ConfirmLink, ConfirmRkey, DeleteLink, DeleteRkey, Deleting, Echo, Entry, Fabric, Flow, FlowStep, Forget, Gone, KeyPhase, KeyToken, Known, Learn, LinkId, LlcMessage, Offered, Over, Peer, Reject, ReplyAdd, ReplyKeys, ReplyRetry, Retry, SendKeys, Setup, Side, Skip, TestLink, Unused, Withdraw, after_answer, at_slot, confirmed_by, fabric, flow_after, flow_of, is_adding, is_first_contact, is_pending, is_standing, is_whole, llc_step, named_slot, on_confirm_rkey_reply, on_delete_rkey_reply, peer, peer_of, phase_at, set_phase, step_posts, table_of, with_flow, with_peer, with_phase}
use Rattle.history_laws.proofs.Posts.{AreWired}
use Rattle.history_laws.proofs.Basics.{and-left}
use Rattle.link_laws.proofs.Sound.{found-slot, set-at, set-beside, set-link}
use Rattle.link_laws.proofs.Contact.Peers.{IsStartingPeer, PeerMoves, peer-flows, peer-loses, starting-ends}
use Rattle.link_laws.proofs.Contact.Others.{no-under-lost, report-wired}
use Rattle.link_laws.specs.Linked.{AreLinked, Under, is_link_message, under_in}

-- whether a step makes a link
abbrev pub is_new : FlowStep → Bool
is_new (ReplyAdd false) = true
is_new step = false

-- what a step that makes none does to the links of its side
abbrev pub acted : LinkId → LlcMessage → FlowStep → Peer → Peer
acted link m (Live reply first) p = record p { table = set_phase link.slot LiveLink p.table }
acted link m (Gone true) p = loses (named_slot m link.slot) p
acted link m step p = p

pub acts-is : (y : Side) (l : LinkId) (m : LlcMessage) (st : FlowStep) (p : Peer) (f : Fabric) → is_new st ≡ false → acts y l m st (with_peer y p f) ≡ with_peer y (acted l m st p) f
acts-is A l m Skip p f n = refl
acts-is A l m (Live r first) p f n = refl
acts-is A l m SendKeys p f n = refl
acts-is A l m Over p f n = refl
acts-is A l m AskLink p f n = refl
acts-is A l m (ReplyKeys b) p f n = refl
acts-is A l m (ReplyAdd true) p f n = refl
acts-is A l m Reject p f n = refl
acts-is A l m Confirmed p f n = refl
acts-is A l m Retry p f n = refl
acts-is A l m Withdraw p f n = refl
acts-is A l m ReplyRetry p f n = refl
acts-is A l m Learn p f n = refl
acts-is A l m Forget p f n = refl
acts-is A l m (Gone true) p f n = refl
acts-is A l m (Gone false) p f n = refl
acts-is A l m Answered p f n = refl
acts-is A l m Echo p f n = refl
acts-is A l m (ReplyAdd false) p f n = absurd (true≢false n)
acts-is B l m Skip p f n = refl
acts-is B l m (Live r first) p f n = refl
acts-is B l m SendKeys p f n = refl
acts-is B l m Over p f n = refl
acts-is B l m AskLink p f n = refl
acts-is B l m (ReplyKeys b) p f n = refl
acts-is B l m (ReplyAdd true) p f n = refl
acts-is B l m Reject p f n = refl
acts-is B l m Confirmed p f n = refl
acts-is B l m Retry p f n = refl
acts-is B l m Withdraw p f n = refl
acts-is B l m ReplyRetry p f n = refl
acts-is B l m Learn p f n = refl
acts-is B l m Forget p f n = refl
acts-is B l m (Gone true) p f n = refl
acts-is B l m (Gone false) p f n = refl
acts-is B l m Answered p f n = refl
acts-is B l m Echo p f n = refl
acts-is B l m (ReplyAdd false) p f n = absurd (true≢false n)

-- a link that goes live is not pending
set-not-pending : (k : ℕ) (ks : List Known) → is_pending (phase_at k (set_phase k LiveLink ks)) ≡ false
set-not-pending k ks = ap (λ (o : Option Known). is_pending (unwrap_or (option_map (λ (n : Known). n.phase) o) Unused)) (set-at k k LiveLink ks) ∙ by (at_slot k ks) (λ n e. found-slot k n ks e)
  where
    by : (o : Option Known) → ((n : Known) → o ≡ Some n → n.link.slot ≡ k) → is_pending (unwrap_or (option_map (λ (n : Known). n.phase) (option_map (with_phase k LiveLink) o)) Unused) ≡ false
    by None f = refl
    by (Some n) f = ap (λ b. is_pending (if b then record n { phase = LiveLink } else n).phase) (eq-eqb n.link.slot k (f n refl))

answer-first : (m : LlcMessage) (s : ℕ) (f : Flow) → is_first_contact (after_answer m s f).link ≡ true → is_first_contact f.link ≡ true
answer-first (ConfirmLink reply mac gid qp k user most) s f h = h
answer-first (AddLink reply rejected reason mac gid qp k mtu psn) s f h = h
answer-first (AddKeys reply k count keys) s f h = h
answer-first (DeleteLink reply every orderly k reason) s f h = h
answer-first (ConfirmRkey reply retry negative others tokens) s f h = h
answer-first (TestLink reply bytes) s f h = h
answer-first (DeleteRkey reply negative count mask keys) s f h = h

-- what becomes of the side where a message lands
pub peer-lands : (l : LinkId) (m : LlcMessage) (st : FlowStep) (low : ℕ) (p : Peer) → is_new st ≡ false → PeerMoves p (acted l m st (with_flow (flow_after st m l.slot low) p))
peer-lands l m Skip low p n = peer-flows p _ p.told (λ h. h)
peer-lands l m (ReplyKeys b) low p n = peer-flows p _ p.told (λ h. h)
peer-lands l m Reject low p n = peer-flows p _ p.told (λ h. h)
peer-lands l m Confirmed low p n = peer-flows p _ p.told (λ h. h)
peer-lands l m Retry low p n = peer-flows p _ p.told (λ h. h)
peer-lands l m Withdraw low p n = peer-flows p _ p.told (λ h. h)
peer-lands l m ReplyRetry low p n = peer-flows p _ p.told (λ h. h)
peer-lands l m Learn low p n = peer-flows p _ p.told (λ h. h)
peer-lands l m Forget low p n = peer-flows p _ p.told (λ h. h)
peer-lands l m (Gone false) low p n = peer-flows p _ p.told (λ h. h)
peer-lands l m Echo low p n = peer-flows p _ p.told (λ h. h)
peer-lands l m SendKeys low p n = peer-flows p _ p.told (λ h. absurd (true≢false (sym h)))
peer-lands l m Over low p n = peer-flows p _ p.told (λ h. absurd (true≢false (sym h)))
peer-lands l m AskLink low p n = peer-flows p _ p.told (λ h. absurd (true≢false (sym h)))
peer-lands l m (ReplyAdd true) low p n = peer-flows p _ p.told (λ h. absurd (true≢false (sym h)))
peer-lands l m Answered low p n = peer-flows p _ p.told (answer-first m l.slot p.flow)
peer-lands l m (Gone true) low p n = peer-loses (named_slot m l.slot) p
peer-lands l m (ReplyAdd false) low p n = absurd (true≢false n)
peer-lands l m (Live r b) low p n = record { group = inl refl; first = λ h. absurd (true≢false (sym h)); pending = λ k a q. (sym (set-link k.slot l.slot LiveLink p.table) ∙ a, by k.slot (k.slot == l.slot) refl q) }
  where
    by : (j : ℕ) (c : Bool) → (j == l.slot) ≡ c → is_pending (phase_at j (set_phase l.slot LiveLink p.table)) ≡ true → is_pending (phase_at j p.table) ≡ true
    by j true e q = absurd (true≢false (sym q ∙ ap (λ i. is_pending (phase_at i (set_phase l.slot LiveLink p.table))) (eqb-true j l.slot e) ∙ set-not-pending l.slot p.table))
    by j false e q = ap is_pending (sym (set-beside j l.slot LiveLink p.table e)) ∙ q

-- what a step posts is on links
pub step-wired : (setup : Setup) (y : Side) (l : LinkId) (m : LlcMessage) (past : List Entry) (st : FlowStep) → AreWired (step_posts setup y l m past st)
step-wired setup y l m past (Live true first) = tt
step-wired setup y l m past (Live false first) = tt
step-wired setup y l m past SendKeys = tt
step-wired setup y l m past AskLink = tt
step-wired setup y l m past (ReplyKeys true) = tt
step-wired setup y l m past (ReplyKeys false) = tt
step-wired setup y l m past (ReplyAdd again) = tt
step-wired setup y l m past Reject = tt
step-wired setup y l m past ReplyRetry = tt
step-wired setup y l m past Learn = tt
step-wired setup y l m past Forget = tt
step-wired setup y l m past (Gone true) = report-wired setup y (named_slot m l.slot) false (loses (named_slot m l.slot) (peer_of y past)) (flow_of y past) past
step-wired setup y l m past (Gone false) = tt
step-wired setup y l m past Echo = tt
step-wired setup y l m past Skip = tt
step-wired setup y l m past Over = tt
step-wired setup y l m past Confirmed = tt
step-wired setup y l m past Retry = tt
step-wired setup y l m past Withdraw = tt
step-wired setup y l m past Answered = tt

-- an end comes up by a first link alone
pub none-up : (l : LinkId) (st : FlowStep) → confirmed_by None l st ≡ None
none-up l (Live r true) = refl
none-up l (Live r false) = refl
none-up l Skip = refl
none-up l SendKeys = refl
none-up l Over = refl
none-up l AskLink = refl
none-up l (ReplyKeys b) = refl
none-up l (ReplyAdd true) = refl
none-up l Reject = refl
none-up l Confirmed = refl
none-up l Retry = refl
none-up l Withdraw = refl
none-up l ReplyRetry = refl
none-up l Learn = refl
none-up l Forget = refl
none-up l (Gone true) = refl
none-up l (Gone false) = refl
none-up l Answered = refl
none-up l Echo = refl
none-up l (ReplyAdd false) = refl

-- whether a step confirms a first link
abbrev is_first_live : FlowStep → Bool
is_first_live (Live reply true) = true
is_first_live step = false

pub not-up : (o : Option Offered) (l : LinkId) (st : FlowStep) → is_first_live st ≡ false → confirmed_by o l st ≡ None
not-up o l (Live r true) n = absurd (true≢false n)
not-up o l (Live r false) n = refl
not-up o l Skip n = refl
not-up o l SendKeys n = refl
not-up o l Over n = refl
not-up o l AskLink n = refl
not-up o l (ReplyKeys b) n = refl
not-up o l (ReplyAdd true) n = refl
not-up o l Reject n = refl
not-up o l Confirmed n = refl
not-up o l Retry n = refl
not-up o l Withdraw n = refl
not-up o l ReplyRetry n = refl
not-up o l Learn n = refl
not-up o l Forget n = refl
not-up o l (Gone true) n = refl
not-up o l (Gone false) n = refl
not-up o l Answered n = refl
not-up o l Echo n = refl
not-up o l (ReplyAdd false) n = refl

module _ (setup : Setup) (past : List Entry) (under : Option Under) (linked : AreLinked (fabric past) under) (l : LinkId) where
  -- a landing that is not of the link flow does nothing to a side in first contact but to end its group, and posts nothing of the link flow there
  pub record IsHarmless (y : Side) (m : LlcMessage) (st : FlowStep) : Type 0 where
    pub plain : is_new st ≡ false
    pub quiet : is_first_live st ≡ false
    pub still : IsStartingPeer (peer y (fabric past)) → (peer y (fabric past)).group ≢ 0 → (low : ℕ) → (acted l m st (with_flow (flow_after st m l.slot low) (peer y (fabric past)))).group ≡ (peer y (fabric past)).group
        → ((acted l m st (with_flow (flow_after st m l.slot low) (peer y (fabric past)))).flow ≡ (peer y (fabric past)).flow) × ((acted l m st (with_flow (flow_after st m l.slot low) (peer y (fabric past)))).table ≡ (peer y (fabric past)).table)
    pub silent : (y ≡ B → IsStartingPeer (peer B (fabric past))) → under_in (step_posts setup y l m past st) ≡ None

  deleted : (y : Side) (every orderly : Bool) (k reason : ℕ) (b : Bool) → (b ≡ true → is_standing (phase_at k (table_of y past)) ≡ true) → IsHarmless y (DeleteLink false every orderly k reason) (Gone b)
  deleted y every orderly k reason false s = record { plain = refl; quiet = refl; still = λ st ne low g. (refl, refl); silent = λ st. refl }
  deleted y every orderly k reason true s = record {
    plain = refl;
    quiet = refl;
    still = λ st ne low g. absurd (ne (sym g ∙ starting-ends k (peer y (fabric past)) st (s refl)));
    silent = λ st. no-under-lost setup y k false past under linked (λ z. starting-ends k (peer B (fabric past)) (st z) (subst (λ w. is_standing (phase_at k (table_of w past)) ≡ true) z (s refl)));
  }

  key-reply : (y : Side) (retry negative : Bool) (others : ℕ) (tokens : List KeyToken) (whole : Bool) (phase : KeyPhase) → (peer y (fabric past)).flow.key ≡ phase → IsHarmless y (ConfirmRkey true retry negative others tokens) (on_confirm_rkey_reply retry whole phase)
  key-reply y retry negative others tokens whole Free e = record { plain = refl; quiet = refl; still = λ st ne low g. (refl, refl); silent = λ st. refl }
  key-reply y retry negative others tokens whole RetryWaits e = record { plain = refl; quiet = refl; still = λ st ne low g. (refl, refl); silent = λ st. refl }
  key-reply y retry negative others tokens whole Deleting e = record { plain = refl; quiet = refl; still = λ st ne low g. (refl, refl); silent = λ st. refl }
  key-reply y retry negative others tokens whole Asked e = by (not retry && whole)
    where
      asked-free : Free ≡ Asked → ⊥
      asked-free e = cc

      by : (b : Bool) → IsHarmless y (ConfirmRkey true retry negative others tokens) (if b then Confirmed else Retry)
      by true = record { plain = refl; quiet = refl; still = λ st ne low g. absurd (asked-free (sym (ap (λ (f : Flow). f.key) st.flow) ∙ e)); silent = λ st. refl }
      by false = record { plain = refl; quiet = refl; still = λ st ne low g. absurd (asked-free (sym (ap (λ (f : Flow). f.key) st.flow) ∙ e)); silent = λ st. refl }

  delete-reply : (y : Side) (negative : Bool) (count mask : ℕ) (keys : List ℕ) (phase : KeyPhase) → (peer y (fabric past)).flow.key ≡ phase → IsHarmless y (DeleteRkey true negative count mask keys) (on_delete_rkey_reply phase)
  delete-reply y negative count mask keys Free e = record { plain = refl; quiet = refl; still = λ st ne low g. (refl, refl); silent = λ st. refl }
  delete-reply y negative count mask keys RetryWaits e = record { plain = refl; quiet = refl; still = λ st ne low g. (refl, refl); silent = λ st. refl }
  delete-reply y negative count mask keys Asked e = record { plain = refl; quiet = refl; still = λ st ne low g. (refl, refl); silent = λ st. refl }
  delete-reply y negative count mask keys Deleting e = record { plain = refl; quiet = refl; still = λ st ne low g. absurd (deleting-free (sym (ap (λ (f : Flow). f.key) st.flow) ∙ e)); silent = λ st. refl }
    where
      deleting-free : Free ≡ Deleting → ⊥
      deleting-free e = cc

  learns : (retry negative : Bool) (others : ℕ) (tokens : List KeyToken) (b : Bool) → IsHarmless B (ConfirmRkey false retry negative others tokens) (if b then ReplyRetry else Learn)
  learns retry negative others tokens true = record { plain = refl; quiet = refl; still = λ st ne low g. (refl, refl); silent = λ st. refl }
  learns retry negative others tokens false = record { plain = refl; quiet = refl; still = λ st ne low g. (refl, refl); silent = λ st. refl }

  nothing-done : (y : Side) (m : LlcMessage) → under_in (step_posts setup y l m past Learn) ≡ None → IsHarmless y m Learn
  nothing-done y m s = record { plain = refl; quiet = refl; still = λ st ne low g. (refl, refl); silent = λ st. s }

  drops-answered : (y : Side) (every orderly : Bool) (k reason : ℕ) → IsHarmless y (DeleteLink true every orderly k reason) Answered
  drops-answered y every orderly k reason = record { plain = refl; quiet = refl; still = λ st ne low g. (ap (after_answer (DeleteLink true every orderly k reason) l.slot) st.flow ∙ sym st.flow, refl); silent = λ st. refl }

  tests-answered : (y : Side) (bytes : List ℕ) → IsHarmless y (TestLink true bytes) Answered
  tests-answered y bytes = record { plain = refl; quiet = refl; still = λ st ne low g. (ap (after_answer (TestLink true bytes) l.slot) st.flow ∙ sym st.flow, refl); silent = λ st. refl }

  echoes : (y : Side) (bytes : List ℕ) → IsHarmless y (TestLink false bytes) Echo
  echoes y bytes = record { plain = refl; quiet = refl; still = λ st ne low g. (refl, refl); silent = λ st. refl }

  forgets : (y : Side) (negative : Bool) (count mask : ℕ) (keys : List ℕ) → IsHarmless y (DeleteRkey false negative count mask keys) Forget
  forgets y negative count mask keys = record { plain = refl; quiet = refl; still = λ st ne low g. (refl, refl); silent = λ st. refl }

  pub harmless : (y : Side) (m : LlcMessage) → is_link_message m ≡ false → IsHarmless y m (llc_step y l m past (fabric past))
  harmless y (ConfirmLink reply mac gid qp k user most) n = absurd (true≢false n)
  harmless y (AddLink reply rejected reason mac gid qp k mtu psn) n = absurd (true≢false n)
  harmless y (AddKeys reply k count keys) n = absurd (true≢false n)
  harmless A (DeleteLink false every orderly k reason) n = deleted A every orderly k reason _ (and-left (is_standing (phase_at k (table_of A past))) _)
  harmless B (DeleteLink false every orderly k reason) n = deleted B every orderly k reason _ (and-left (is_standing (phase_at k (table_of B past))) _)
  harmless A (DeleteLink true every orderly k reason) n = drops-answered A every orderly k reason
  harmless B (DeleteLink true every orderly k reason) n = drops-answered B every orderly k reason
  harmless A (ConfirmRkey false retry negative others tokens) n = nothing-done A (ConfirmRkey false retry negative others tokens) refl
  harmless B (ConfirmRkey false retry negative others tokens) n = learns retry negative others tokens (is_adding (flow_of B past).link)
  harmless A (ConfirmRkey true retry negative others tokens) n = key-reply A retry negative others tokens (is_whole (peer A (fabric past))) (flow_of A past).key refl
  harmless B (ConfirmRkey true retry negative others tokens) n = key-reply B retry negative others tokens (is_whole (peer B (fabric past))) (flow_of B past).key refl
  harmless A (TestLink false bytes) n = echoes A bytes
  harmless B (TestLink false bytes) n = echoes B bytes
  harmless A (TestLink true bytes) n = tests-answered A bytes
  harmless B (TestLink true bytes) n = tests-answered B bytes
  harmless A (DeleteRkey false negative count mask keys) n = forgets A negative count mask keys
  harmless B (DeleteRkey false negative count mask keys) n = forgets B negative count mask keys
  harmless A (DeleteRkey true negative count mask keys) n = delete-reply A negative count mask keys (flow_of A past).key refl
  harmless B (DeleteRkey true negative count mask keys) n = delete-reply B negative count mask keys (flow_of B past).key refl
