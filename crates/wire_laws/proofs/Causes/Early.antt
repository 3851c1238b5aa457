-- Why an end is reset before it is up: its group has ended, or a raw client sent what is no message for it.
use Rattle.std.proofs.Common.{Bool, List, [], ap, false, if◌then◌else◌, inl, inr, not, refl, subst, sym, true, true≢false, ℕ, ◌&&◌, ◌==◌, ◌∙◌, ◌∷◌, ◌≡◌, ◌⊎◌}
use Rattle.std.proofs.Common.{eq-eqb}
use Rattle.std.specs.Prelude.{IsTrue, None, Option, Some, option_map, unwrap_or}
use Rattle.clc_wire.specs.declared.message.ClcMessage.TheVariants.{Accept as AcceptMessage, Confirm as ConfirmMessage, Decline as DeclineMessage, Proposal as ProposalMessage}
use Rattle.pipe_model.proofs.Pipes.{over-has-told}
use Rattle.pipe_model.specs.Causes.{HasStood}
use Rattle.pipe_model.specs.Fallback.{front_of_posts, raws}
use Rattle.pipe_model.specs.Handshake.{kind_of, verdict}
use Rattle.pipe_model.specs.declared.event.Event.TheVariants.{Clc as ClcEvent}
use Rattle.pipe_model.specs.declared.reply.Reply.TheVariants.{Idle, Sent}
use Rattle.pipe_model.specs.declared.reply.ResetCause.{ResetCause}
use Rattle.pipe_model.specs.declared.reply.ResetCause.TheVariants.{OwnAbort}
use Rattle.pipe_model.specs.declared.reply.SentKind.{SentKind}
use Rattle.pipe_model.specs.declared.reply.SentKind.TheVariants.{Accept as AcceptSent, Confirm as ConfirmSent, ConfirmLink as LinkSent}
use Rattle.history_laws.specs.Words.{A, AskKey, B, BadClc, BadStep, ClcFault, ClcMessage, ClcStep, Decline, Declined, EndState, Entry, Established, Faulty, Fell, FellBack, Gap, HasFallen, IsUp, Lacks, Lending, LinkId, Lost, NoEnd, NoLiveLink, Offer, Offered, PeerAbort, Ready, Reply, Reset, SendAccept, SendConfirm, Setup, Side, Wait, WaitsAnswer, WaitsConfirm, WaitsLink, WaitsProposal, WasReset, Whole, Wrong, after_clc, after_event, after_loss, clc_step, early_state, end_state, expects, front, front_of, group_of, group_on, half, has_ended, has_last, head, is_over, is_raw, is_up, lacks, lends_by, loses_group_with, offered, other, part, pipe_of, step_told, stream, terms_of, untaken}
use Rattle.history_laws.specs.Made.{IsMade, IsMadeAll}
use Rattle.history_laws.specs.Offers.{HasOffers, HasStates, HasStream, is_holding, is_none, is_own_state}
use Rattle.history_laws.proofs.Basics.{by-bool, none-is, or-left, or-true}
use Rattle.history_laws.proofs.Items.{pipe-is-up}
use Rattle.history_laws.proofs.Offers.{Answers, ByVerdict, ForFault, NotTaken, accept-step, all-offers, answers, front-in, kept, none-expects, proposal-step, state-early, state-up, states}
use Rattle.link_laws.specs.Awaited.{AreOnKnown}
use Rattle.link_laws.specs.Lasting.{InOrEnded}
use Rattle.lending_laws.specs.Lendings.{AreDone, AreLendings}
use Rattle.lending_laws.proofs.Lendings.{all-lendings, all-psn, all-streams, are-done-all, same-link}
use Rattle.wire_laws.specs.Agreement.{Agrees}
use Rattle.wire_laws.proofs.Agreement.{idle-any}
use Rattle.wire_laws.proofs.FreedKeys.{lent-group, owed-from}
use Rattle.wire_laws.proofs.Whole.{agrees}
use Rattle.wire_laws.proofs.Causes.Fits.{none-wrong}
use Rattle.wire_laws.proofs.Causes.Settled.{by-event, group-stays}

-- that a side has offered on a socket
abbrev pub HasOffered : Side → ℕ → List Entry → Type 0
HasOffered x s past = (o : Offered) × (offered x s past ≡ Some o)

-- what the history shows for a cause of an end that is not up
abbrev pub IsShownEarly : Setup → List ℕ → Side → ℕ → List Entry → ResetCause → Type 0
IsShownEarly setup payload x s past (NoLiveLink group) = (group ≡ group_on s past) × ((has_ended x group past ≡ true) × HasOffered B s past)
IsShownEarly setup payload x s past (BadClc fault) = IsTrue (is_raw s past) × HasStood payload s (λ f. f ≡ Faulty fault) past
IsShownEarly setup payload x s past (BadStep kind) = IsTrue (is_raw s past) × HasStood payload s (λ f. (m : ClcMessage) × ((len : ℕ) × ((f ≡ Whole m len) × (kind_of m ≡ kind)))) past
IsShownEarly setup payload x s past OwnAbort = ⊥
IsShownEarly setup payload x s past PeerAbort = ⊥
IsShownEarly setup payload x s past (Gap told taken) = ⊥

-- which verdicts are told as a reset
told-reset : (group : ℕ) (m : ClcMessage) (w : ClcStep) (c : ResetCause) → step_told group m w ≡ Reset c → ((w ≡ Lost) × (c ≡ NoLiveLink group)) ⊎ ((kind : SentKind) × ((w ≡ Wrong kind) × (c ≡ BadStep kind)))
told-reset group m Lost c e = inl (refl, cc)
told-reset group m (Wrong kind) c e = inr (kind, (refl, cc))
told-reset group m (SendAccept first) c e = cc
told-reset group m (SendConfirm true) c e = cc
told-reset group m (SendConfirm false) c e = cc
told-reset group m AskKey c e = cc
told-reset group m (Wait hold) c e = cc
told-reset group m (Decline lack) c e = cc
told-reset group m Fell c e = cc
told-reset group (ConfirmMessage o) Ready c e = by o.first e
  where
    by : (b : Bool) → (if b then Sent LinkSent else Established) ≡ Reset c → ((Ready ≡ Lost) × (c ≡ NoLiveLink group)) ⊎ ((kind : SentKind) × ((Ready ≡ Wrong kind) × (c ≡ BadStep kind)))
    by true f = cc
    by false f = cc
told-reset group (ProposalMessage p) Ready c e = cc
told-reset group (AcceptMessage o) Ready c e = cc
told-reset group (DeclineMessage r) Ready c e = cc

-- a wrong message is named by its kind
wrong-kind : (raw : Bool) (state : EndState) (m : ClcMessage) (l : Lacks) (kind : SentKind) → verdict raw state m l ≡ Wrong kind → kind_of m ≡ kind
wrong-kind raw WaitsProposal (ProposalMessage p) l kind e = absurd (proposal-step (λ w. w ≡ Wrong kind → ⊥) (λ q. cc) (λ h q. cc) (λ a q. cc) (λ b q. cc) raw p l e)
wrong-kind raw WaitsProposal (AcceptMessage o) l kind e = cc
wrong-kind raw WaitsProposal (ConfirmMessage o) l kind e = cc
wrong-kind raw WaitsProposal (DeclineMessage r) l kind e = cc
wrong-kind raw WaitsAnswer (ProposalMessage p) l kind e = cc
wrong-kind raw WaitsAnswer (AcceptMessage o) l kind e = absurd (accept-step (λ w. w ≡ Wrong kind → ⊥) (λ q. cc) (λ h q. cc) (λ a q. cc) (λ b q. cc) o l e)
wrong-kind raw WaitsAnswer (ConfirmMessage o) l kind e = cc
wrong-kind raw WaitsAnswer (DeclineMessage r) l kind e = cc
wrong-kind raw WaitsConfirm (ProposalMessage p) l kind e = cc
wrong-kind raw WaitsConfirm (AcceptMessage o) l kind e = cc
wrong-kind true WaitsConfirm (ConfirmMessage o) l kind e = cc
wrong-kind false WaitsConfirm (ConfirmMessage o) l kind e = by (o.psn == l.group) e
  where
    by : (b : Bool) → (if b then Ready else Lost) ≡ Wrong kind → kind_of (ConfirmMessage o) ≡ kind
    by true f = cc
    by false f = cc
wrong-kind raw WaitsConfirm (DeclineMessage r) l kind e = cc
wrong-kind raw NoEnd m l kind e = cc
wrong-kind raw WaitsLink m l kind e = cc
wrong-kind raw IsUp m l kind e = cc
wrong-kind raw HasFallen m l kind e = cc
wrong-kind raw (WasReset cause) m l kind e = cc

-- an end is lost with a Confirm of another group, between two managers
record Loses (raw : Bool) (state : EndState) (m : ClcMessage) (l : Lacks) : Type 0 where
  pub waits : state ≡ WaitsConfirm
  pub offer : Offer
  pub message_is : m ≡ ConfirmMessage offer
  pub plain : raw ≡ false
  pub others : (offer.psn == l.group) ≡ false

lost-in : (raw : Bool) (state : EndState) (m : ClcMessage) (l : Lacks) → verdict raw state m l ≡ Lost → Loses raw state m l
lost-in raw WaitsProposal (ProposalMessage p) l e = absurd (proposal-step (λ w. w ≡ Lost → ⊥) (λ q. cc) (λ h q. cc) (λ a q. cc) (λ b q. cc) raw p l e)
lost-in raw WaitsProposal (AcceptMessage o) l e = cc
lost-in raw WaitsProposal (ConfirmMessage o) l e = cc
lost-in raw WaitsProposal (DeclineMessage r) l e = cc
lost-in raw WaitsAnswer (ProposalMessage p) l e = cc
lost-in raw WaitsAnswer (AcceptMessage o) l e = absurd (accept-step (λ w. w ≡ Lost → ⊥) (λ q. cc) (λ h q. cc) (λ a q. cc) (λ b q. cc) o l e)
lost-in raw WaitsAnswer (ConfirmMessage o) l e = cc
lost-in raw WaitsAnswer (DeclineMessage r) l e = cc
lost-in raw WaitsConfirm (ProposalMessage p) l e = cc
lost-in raw WaitsConfirm (AcceptMessage o) l e = cc
lost-in true WaitsConfirm (ConfirmMessage o) l e = cc
lost-in false WaitsConfirm (ConfirmMessage o) l e = by (o.psn == l.group) refl e
  where
    by : (b : Bool) → (o.psn == l.group) ≡ b → (if b then Ready else Lost) ≡ Lost → Loses false WaitsConfirm (ConfirmMessage o) l
    by true q f = cc
    by false q f = record { waits = refl; offer = o; message_is = refl; plain = refl; others = q }
lost-in raw WaitsConfirm (DeclineMessage r) l e = cc
lost-in raw NoEnd m l e = cc
lost-in raw WaitsLink m l e = cc
lost-in raw IsUp m l e = cc
lost-in raw HasFallen m l e = cc
lost-in raw (WasReset cause) m l e = cc

-- bytes that are no message come from a raw client
faulty-raw : (payload : List ℕ) (d : Side) (s : ℕ) (past : List Entry) (fault : ClcFault) → front payload d s past ≡ Faulty fault → is_raw s past ≡ true
faulty-raw payload d s past fault f = by-bool (is_raw s past ≡ true) (is_raw s past) (λ r. r) (λ r. absurd (none (untaken d s past) (sym (ap (λ b. front_of b (stream payload d s past) (untaken d s past)) r) ∙ f)))
  where
    none : (ms : List ClcMessage) → front_of_posts (head ms) ≡ Faulty fault → ⊥
    none [] g = cc
    none (n ∷ ms) g = cc

loss-reset : (b : Bool) (g : ℕ) (state : EndState) (c : ResetCause) → after_loss b g state ≡ WasReset c → (state ≡ WasReset c) ⊎ ((b ≡ true) × (c ≡ NoLiveLink g))
loss-reset true g WaitsLink c e = inr (refl, cc)
loss-reset true g NoEnd c e = inl e
loss-reset true g WaitsProposal c e = inl e
loss-reset true g WaitsAnswer c e = inl e
loss-reset true g WaitsConfirm c e = inl e
loss-reset true g IsUp c e = inl e
loss-reset true g HasFallen c e = inl e
loss-reset true g (WasReset cause) c e = inl e
loss-reset false g state c e = inl e

clc-reset : (r : Reply) (state : EndState) (c : ResetCause) → after_clc r state ≡ WasReset c → (state ≡ WasReset c) ⊎ (r ≡ Reset c)
clc-reset (Sent AcceptSent) state c e = cc
clc-reset (Sent ConfirmSent) state c e = cc
clc-reset (Sent LinkSent) state c e = cc
clc-reset (Declined lack) state c e = cc
clc-reset FellBack state c e = cc
clc-reset (Reset cause) state c e = inr (let d : cause ≡ c = cc in ap (λ k. Reset k) d)
clc-reset _ state c e = inl e

-- the group of an offer
abbrev group_by : Option LinkId → ℕ
group_by n = unwrap_or (option_map (λ (link : LinkId). link.group) n) 0

module _ (setup : Setup) (payload : List ℕ) (past : List Entry) (m : IsMadeAll setup payload past) (known : AreOnKnown setup past) (s : ℕ) where
  -- an end that is not up is not over
  not-over : (x : Side) (g : ℕ) → g ≡ group_on s past → is_up x s past ≡ false → is_over (half x (pipe_of setup payload g s past)) ≡ false
  not-over x g is low = by-bool (is_over (half x (pipe_of setup payload g s past)) ≡ false) (is_over (half x (pipe_of setup payload g s past)))
      (λ o. let a : Agrees setup payload past = agrees setup payload past m known in
      let told = over-has-told (terms_of setup) x (part payload (group_on s past) s past) (a.feasible s (group_on s past) (inr refl)) (ap (λ n. is_over (half x (pipe_of setup payload n s past))) (sym is) ∙ o) in
      let none = idle-any (terms_of setup) x (part payload (group_on s past) s past) (pipe-is-up (terms_of setup) x payload (group_on s past) s past ∙ low) in
      absurd (true≢false (sym told.0 ∙ ap (λ ms. has_last ms) none))) (λ o. o)

  -- a B that waits for the Confirm is in the group that it offered, or that has ended
  in-or-ended : (o : Offered) → offered B s past ≡ Some o → end_state B s past ≡ WaitsConfirm → InOrEnded B o.link.group past
  in-or-ended o f w = by-bool (InOrEnded B o.link.group past) (has_ended B o.link.group past) (λ g. inr g)
      (λ g. let are : AreLendings B past = all-lendings setup payload past m B in
      let d : AreDone setup payload B past = are-done-all setup payload past m (owed-from setup payload past m known) B in
      let l : Lending = lends_by s o.link o.offer in
      let low : is_up B s past ≡ false = by-bool (is_up B s past ≡ false) (is_up B s past) (λ u. absurd (up-not (sym (state-up B s past u) ∙ w))) (λ u. u) in
      let lent = d.stays_lent l (are.offer_of s o f) (ap is_holding w) (not-over B o.link.group (sym (ap (λ q. group_by (option_map (λ (p : Offered). p.link) q)) f)) low) g in
      let q = lent-group setup payload past m known B l lent in
      inl (sym q.0))
    where
      up-not : IsUp ≡ WaitsConfirm → ⊥
      up-not i = cc

  -- a raw socket has no end at A
  raw-at-b : (x : Side) → is_raw s past ≡ true → expects (end_state x s past) ≡ true → x ≡ B
  raw-at-b B r w = refl
  raw-at-b A r w = absurd (by-bool ⊥ (is_none (early_state A s past)) (λ n. true≢false (sym w ∙ none-expects A s past n)) (λ n. let st = states setup payload past m s in true≢false (sym r ∙ st.apart (st.opened n))))

  -- a lost end has lost its group
  lost-ended : (x : Side) (n : ClcMessage) (len : ℕ) → front payload (other x) s past ≡ Whole n len → clc_step setup payload x s n past ≡ Lost → (has_ended x (group_on s past) past ≡ true) × HasOffered B s past
  lost-ended x n len f w = at x (lost-in (is_raw s past) (end_state x s past) n (lacks setup payload x past) w) f
    where
      st : HasStates s past
      st = states setup payload past m s

      off : HasOffers s past
      off = all-offers setup payload past m s

      waits-not : end_state A s past ≡ WaitsConfirm → ⊥
      waits-not q = by-bool ⊥ (is_up A s past) (λ u. (let z : IsUp ≡ WaitsConfirm = sym (state-up A s past u) ∙ q in cc)) (λ u. true≢false (sym (st.own A) ∙ ap (is_own_state A) (sym (state-early A s past u) ∙ q)))

      b-offered : (q : Option Offered) → offered B s past ≡ q → (p : Offered) → offered A s past ≡ Some p → (o : Offered) × (offered B s past ≡ Some o)
      b-offered None i p j = absurd (none-is p (sym (off.answer i) ∙ j))
      b-offered (Some o) i p j = (o, i)

      at-b : (l : Loses (is_raw s past) (end_state B s past) n (lacks setup payload B past)) → front payload A s past ≡ Whole n len → (has_ended B (group_on s past) past ≡ true) × HasOffered B s past
      at-b l g =
          let c = off.confirmed l.offer (front-in payload A s past (ConfirmMessage l.offer) len l.plain (g ∙ ap (λ k. Whole k len) l.message_is)) in
          let p : Offered = record { link = c.0; offer = l.offer } in
          let b = b-offered (offered B s past) refl p c.1 in
          let named = same-link setup payload past m s p c.1 in
          let group : group_on s past ≡ c.0.group = ap group_by named in
          let own : group_on s past ≡ b.0.link.group = ap (λ q. group_by (option_map (λ (r : Offered). r.link) q)) b.1 in
          let psn : l.offer.psn ≡ c.0.group = all-psn setup payload past m A s p c.1 in
          (by psn group own (in-or-ended b.0 b.1 l.waits), b)
        where
          by : {g h : ℕ} → l.offer.psn ≡ g → group_on s past ≡ g → group_on s past ≡ h → InOrEnded B h past → has_ended B (group_on s past) past ≡ true
          by psn group own (inr e) = subst (λ k. has_ended B k past ≡ true) (sym own) e
          by psn group own (inl e) = absurd (true≢false (sym (eq-eqb l.offer.psn (group_of B past) (psn ∙ (sym group ∙ (own ∙ sym e)))) ∙ l.others))

      at : (y : Side) → Loses (is_raw s past) (end_state y s past) n (lacks setup payload y past) → front payload (other y) s past ≡ Whole n len → (has_ended y (group_on s past) past ≡ true) × HasOffered B s past
      at A l g = absurd (waits-not l.waits)
      at B l g = at-b l g

module _ (setup : Setup) (payload : List ℕ) (e : Entry) (past : List Entry) (m : IsMadeAll setup payload (e ∷ past)) (known : AreOnKnown setup (e ∷ past)) (x : Side) (s : ℕ) where
  abbrev one : (before : ℕ) × IsMade setup payload past before e
  one = m.0

  b-stays : HasOffered B s past → HasOffered B s (e ∷ past)
  b-stays q = (q.0, kept setup payload past one.0 e one.1 (states setup payload past m.1) (all-offers setup payload past m.1) B s q.0 q.1)

  -- what was shown is shown
  stays : (c : ResetCause) → IsShownEarly setup payload x s past c → IsShownEarly setup payload x s (e ∷ past) c
  stays (NoLiveLink n) p = let q = p.1 in (p.0 ∙ sym (group-stays setup payload e past m s q.1.0 q.1.1), (or-true (loses_group_with x n e past) (has_ended x n past) q.0, b-stays q.1))
  stays (BadClc fault) p = (or-true (raws s e.event e.reply) (is_raw s past) p.0, inr p.1)
  stays (BadStep kind) p = (or-true (raws s e.event e.reply) (is_raw s past) p.0, inr p.1)
  stays OwnAbort p = p
  stays PeerAbort p = p
  stays (Gap told taken) p = p

  streams : HasStream s past
  streams = all-streams setup payload past m.1 (owed-from setup payload past m.1 known.1) s

  raw-stays : is_raw s past ≡ true → is_raw s (e ∷ past) ≡ true
  raw-stays r = or-true (raws s e.event e.reply) (is_raw s past) r

  fault-shown : (y : Side) (fault : ClcFault) → expects (end_state y s past) ≡ true → front payload (other y) s past ≡ Faulty fault → IsShownEarly setup payload y s (e ∷ past) (BadClc fault)
  fault-shown y fault w f =
      let r = faulty-raw payload (other y) s past fault f in
      let is : y ≡ B = raw-at-b setup payload past m.1 known.1 s y r w in
      (raw-stays r, inl (ap (λ z. front payload (other z) s past) (sym is) ∙ f))

  lost-shown : (y : Side) (n : ClcMessage) (len : ℕ) → front payload (other y) s past ≡ Whole n len → clc_step setup payload y s n past ≡ Lost → IsShownEarly setup payload y s (e ∷ past) (NoLiveLink (group_on s past))
  lost-shown y n len f w =
      let q = lost-ended setup payload past m.1 known.1 s y n len f w in
      let o = q.1 in
      (sym (group-stays setup payload e past m s o.0 o.1), (or-true (loses_group_with y (group_on s past) e past) (has_ended y (group_on s past) past) q.0, b-stays q.1))

  wrong-shown : (y : Side) (n : ClcMessage) (len : ℕ) (kind : SentKind) → expects (end_state y s past) ≡ true → front payload (other y) s past ≡ Whole n len → clc_step setup payload y s n past ≡ Wrong kind → IsShownEarly setup payload y s (e ∷ past) (BadStep kind)
  wrong-shown y n len kind w f v = by-bool _ (is_raw s past)
      (λ r. let is : y ≡ B = raw-at-b setup payload past m.1 known.1 s y r w in
      (raw-stays r, inl (n, (len, (ap (λ z. front payload (other z) s past) (sym is) ∙ f, wrong-kind (is_raw s past) (end_state y s past) n (lacks setup payload y past) kind v)))))
      (λ r. absurd (none-wrong setup payload past m.1 s streams r y n len kind w f v))

  by-told : (y : Side) (n : ClcMessage) (len : ℕ) (c : ResetCause) → expects (end_state y s past) ≡ true → front payload (other y) s past ≡ Whole n len → step_told (group_on s past) n (clc_step setup payload y s n past) ≡ Reset c → IsShownEarly setup payload y s (e ∷ past) c
  by-told y n len c w f r = by (told-reset (group_on s past) n (clc_step setup payload y s n past) c r)
    where
      by : ((clc_step setup payload y s n past ≡ Lost) × (c ≡ NoLiveLink (group_on s past))) ⊎ ((kind : SentKind) × ((clc_step setup payload y s n past ≡ Wrong kind) × (c ≡ BadStep kind))) → IsShownEarly setup payload y s (e ∷ past) c
      by (inl q) = subst (IsShownEarly setup payload y s (e ∷ past)) (sym q.1) (lost-shown y n len f q.0)
      by (inr q) = let t = q.1 in subst (IsShownEarly setup payload y s (e ∷ past)) (sym t.1) (wrong-shown y n len q.0 w f t.0)

  -- a reset as an answer to a CLC message
  answered : (c : ResetCause) → e.event ≡ ClcEvent s (other x) → e.reply ≡ Reset c → IsShownEarly setup payload x s (e ∷ past) c
  answered c ev r = for x (answers setup payload past one.0 e one.1 s (other x) ev)
    where
      not-idle : e.reply ≡ Idle → ⊥
      not-idle i = (let z : Idle ≡ Reset c = sym i ∙ r in cc)

      same : (d : ResetCause) → Reset d ≡ Reset c → d ≡ c
      same d q = cc

      for : (y : Side) → Answers setup payload s (other y) past e.reply → IsShownEarly setup payload y s (e ∷ past) c
      for y (NotTaken i) = absurd (not-idle i)
      for A (ForFault fault w f i) = subst (IsShownEarly setup payload A s (e ∷ past)) (same (BadClc fault) (sym i ∙ r)) (fault-shown A fault w f)
      for B (ForFault fault w f i) = subst (IsShownEarly setup payload B s (e ∷ past)) (same (BadClc fault) (sym i ∙ r)) (fault-shown B fault w f)
      for A (ByVerdict n len w f i) = by-told A n len c w f (sym i ∙ r)
      for B (ByVerdict n len w f i) = by-told B n len c w f (sym i ∙ r)

  -- a reset with the group
  with-group : loses_group_with x (group_on s past) e past ≡ true → IsShownEarly setup payload x s (e ∷ past) (NoLiveLink (group_on s past))
  with-group l = by (offered B s past) refl
    where
      by : (q : Option Offered) → offered B s past ≡ q → IsShownEarly setup payload x s (e ∷ past) (NoLiveLink (group_on s past))
      by None i =
          let zero : group_on s past ≡ 0 = ap (λ q. group_by (option_map (λ (p : Offered). p.link) q)) i in
          absurd (true≢false (sym l ∙ ap (λ n. not (n == 0) && ((group_of x past == n) && not (group_of x (e ∷ past) == n))) zero))
      by (Some o) i = (sym (group-stays setup payload e past m s o i), (or-left (loses_group_with x (group_on s past) e past) (has_ended x (group_on s past) past) l, b-stays (o, i)))

  early-step : (c : ResetCause) → (early_state x s past ≡ WasReset c → IsShownEarly setup payload x s past c) → early_state x s (e ∷ past) ≡ WasReset c → IsShownEarly setup payload x s (e ∷ past) c
  early-step c was f = elim (loss-reset (loses_group_with x (group_on s past) e past) (group_on s past) (after_event x s e.event e.reply (early_state x s past)) c f) [
    | inl g ↦ mid g
    | inr g ↦ subst (IsShownEarly setup payload x s (e ∷ past)) (sym g.1) (with-group g.0)
  ]
    where
      mid : after_event x s e.event e.reply (early_state x s past) ≡ WasReset c → IsShownEarly setup payload x s (e ∷ past) c
      mid g = by (by-event x s e.event e.reply (early_state x s past) (WasReset c) refl g)
        where
          clc : e.event ≡ ClcEvent s (other x) → (early_state x s past ≡ WasReset c) ⊎ (e.reply ≡ Reset c) → IsShownEarly setup payload x s (e ∷ past) c
          clc ev (inl h) = stays c (was h)
          clc ev (inr h) = answered c ev h

          by : (early_state x s past ≡ WasReset c) ⊎ ((e.event ≡ ClcEvent s (other x)) × (after_clc e.reply (early_state x s past) ≡ WasReset c)) → IsShownEarly setup payload x s (e ∷ past) c
          by (inl h) = stays c (was h)
          by (inr h) = clc h.0 (clc-reset e.reply (early_state x s past) c h.1)

-- an end that was reset before it was up was so for a cause that the history shows
pub early-shown : (setup : Setup) (payload : List ℕ) (past : List Entry) → IsMadeAll setup payload past → AreOnKnown setup past → (x : Side) (s : ℕ) (c : ResetCause) → early_state x s past ≡ WasReset c → IsShownEarly setup payload x s past c
early-shown setup payload [] m known x s c f = (let z : NoEnd ≡ WasReset c = f in cc)
early-shown setup payload (e ∷ past) m known x s c f = early-step setup payload e past m known x s c (early-shown setup payload past m.1 known.1 x s c) f
