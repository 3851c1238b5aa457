-- What an entry makes of the state of an end: nothing, or what the answer to its CLC message says, or a reset with its group.
use Rattle.std.proofs.Common.{Bool, List, ap, eqb-true, false, if◌then◌else◌, not, refl, subst, sym, true, ℕ, ◌&&◌, ◌==◌, ◌||◌, ◌∙◌, ◌≡◌}
use Rattle.pipe_model.specs.declared.reply.Reply.TheVariants.{Idle, Sent}
use Rattle.pipe_model.specs.declared.reply.SentKind.TheVariants.{Accept as AcceptSent, ConfirmLink as LinkSent}
use Rattle.clc_wire.specs.declared.message.ClcMessage.TheVariants.{Accept as AcceptMessage, Confirm as ConfirmMessage, Decline as DeclineMessage, Proposal as ProposalMessage}
use Rattle.pipe_model.specs.declared.event.Event.TheVariants.{Clc as ClcEvent, Raw, Write as WriteEvent}
use Rattle.pipe_model.specs.Replies.{told}
use Rattle.std.specs.Prelude.{slice_index_or}
use Rattle.history_laws.specs.Words.{A, Abort, AskKey, Await, B, BadClc, ClcFault, ClcMessage, ClcStep, Close, Complete, Cut, Decline, Declined, Deliver, EndState, Entry, Established, Event, Faulty, Fell, Finish, Front, Grow, HasFallen, Heal, IsUp, Lost, Move, NameUsed, NoEnd, NoMessage, NotCapable, Open, Opened, Read, Ready, Reply, Report, Reset, SendAccept, SendConfirm, Setup, Side, Swallow, Test, Trim, Wait, WaitsAnswer, WaitsConfirm, WaitsLink, WaitsProposal, WasReset, Whole, Wrong, Wrote, after_clc, after_event, after_raw, clc_step, clc_told, early_state, end_state, expects, front, front_told, group_on, is_opened, is_raw, is_up, other, reply_of, step_told}
use Rattle.history_laws.proofs.Offers.Offering.{sends-accept}
use Rattle.history_laws.specs.Made.{IsMade}
use Rattle.history_laws.specs.Offers.{is_none}
use Rattle.history_laws.proofs.Basics.{by-bool}

-- the state of an end that is up, and of one that is not
pub state-up : (x : Side) (s : ℕ) (past : List Entry) → is_up x s past ≡ true → end_state x s past ≡ IsUp
state-up x s past e = ap (λ b. if b then IsUp else early_state x s past) e

pub state-early : (x : Side) (s : ℕ) (past : List Entry) → is_up x s past ≡ false → end_state x s past ≡ early_state x s past
state-early x s past e = ap (λ b. if b then IsUp else early_state x s past) e

-- how a CLC event is answered: not at all; for bytes that are no message; or by the verdict on the message at the front
pub data Answers (setup : Setup) (payload : List ℕ) (s : ℕ) (dir : Side) (past : List Entry) (r : Reply) : Type 0 where
  NotTaken : r ≡ Idle → Answers setup payload s dir past r
  ForFault : (fault : ClcFault) → expects (end_state (other dir) s past) ≡ true → front payload dir s past ≡ Faulty fault → r ≡ Reset (BadClc fault) → Answers setup payload s dir past r
  ByVerdict : (m : ClcMessage) (len : ℕ) → expects (end_state (other dir) s past) ≡ true → front payload dir s past ≡ Whole m len
      → r ≡ step_told (group_on s past) m (clc_step setup payload (other dir) s m past) → Answers setup payload s dir past r

-- a verdict is told as sending an Accept only where it sends one
pub told-accept : (group : ℕ) (m : ClcMessage) (w : ClcStep) → step_told group m w ≡ Sent AcceptSent → sends-accept w ≡ true
told-accept group m (SendAccept first) e = refl
told-accept group m (SendConfirm true) e = cc
told-accept group m (SendConfirm false) e = cc
told-accept group m AskKey e = cc
told-accept group m (Wait hold) e = cc
told-accept group m (Decline lack) e = cc
told-accept group m Fell e = cc
told-accept group (ConfirmMessage o) Ready e = by o.first e
  where
    by : (b : Bool) → (if b then Sent LinkSent else Established) ≡ Sent AcceptSent → sends-accept Ready ≡ true
    by true e = cc
    by false e = cc
told-accept group (ProposalMessage p) Ready e = cc
told-accept group (AcceptMessage o) Ready e = cc
told-accept group (DeclineMessage r) Ready e = cc
told-accept group m Lost e = cc
told-accept group m (Wrong kind) e = cc

module _ (setup : Setup) (payload : List ℕ) (past : List Entry) (before : ℕ) (e : Entry) (made : IsMade setup payload past before e) where
  pub answers : (s : ℕ) (dir : Side) → e.event ≡ ClcEvent s dir → Answers setup payload s dir past e.reply
  answers s dir ev = by (expects (end_state (other dir) s past)) refl
    where
      reply-is : e.reply ≡ clc_told setup payload s dir past
      reply-is = made.reply ∙ ap (λ v. reply_of before (told setup payload past v)) ev

      fronted : expects (end_state (other dir) s past) ≡ true → (f : Front) → front payload dir s past ≡ f → e.reply ≡ front_told setup payload (other dir) s past f → Answers setup payload s dir past e.reply
      fronted x NoMessage g h = NotTaken h
      fronted x (Faulty fault) g h = ForFault fault x g h
      fronted x (Whole m len) g h = ByVerdict m len x g h

      by : (b : Bool) → expects (end_state (other dir) s past) ≡ b → Answers setup payload s dir past e.reply
      by true g = fronted g (front payload dir s past) refl (reply-is ∙ ap (λ b. if b then front_told setup payload (other dir) s past (front payload dir s past) else Idle) g)
      by false g = NotTaken (reply-is ∙ ap (λ b. if b then front_told setup payload (other dir) s past (front payload dir s past) else Idle) g)

  -- a socket that was opened, or is raw, is not opened again
  pub used : (s : ℕ) → e.event ≡ Open s → (is_opened s past || is_raw s past) ≡ true → e.reply ≡ NameUsed
  used s ev k = made.reply ∙ (ap (λ v. reply_of before (told setup payload past v)) ev ∙ ap (λ b. if b then NameUsed else (if not (slice_index_or setup.capable 0 false && slice_index_or setup.capable 1 false) then Declined (NotCapable (slice_index_or setup.capable 0 false) (slice_index_or setup.capable 1 false)) else Opened)) k)

-- what an event makes of a state, by its kind: nothing; what the answer to the CLC message says; or, without an end before, what raw bytes do
pub data Does (x : Side) (s : ℕ) (e : Entry) (state : EndState) (new : EndState) : Type 0 where
  DoesNothing : new ≡ state → Does x s e state new
  DoesTake : e.event ≡ ClcEvent s (other x) → new ≡ after_clc e.reply state → Does x s e state new
  DoesBegin : is_none state ≡ true → x ≡ B → new ≡ WaitsProposal → Does x s e state new

module _ (setup : Setup) (payload : List ℕ) (past : List Entry) (before : ℕ) (e : Entry) (made : IsMade setup payload past before e) (s : ℕ) (known : (is_opened s past || is_raw s past) ≡ true) where
  pub does : (x : Side) (state : EndState) → Does x s e state (after_event x s e.event e.reply state)
  does x state = by e.event refl
    where
      same : (v : Event) → e.event ≡ v → after_event x s v e.reply state ≡ state → Does x s e state (after_event x s e.event e.reply state)
      same v g h = DoesNothing (ap (λ w. after_event x s w e.reply state) g ∙ h)

      turned : (t : ℕ) → (s == t) ≡ true → s ≡ t
      turned t h = eqb-true s t h

      opened : (y : Side) (t : ℕ) → e.event ≡ Open t → after_event y s (Open t) e.reply state ≡ state
      opened y t g = by-bool (after_event y s (Open t) e.reply state ≡ state) (s == t) (λ h. ap (λ r. after_event y s (Open t) r state) (used setup payload past before e made t g (ap (λ n. is_opened n past || is_raw n past) (sym (turned t h)) ∙ known)) ∙ named y) (λ h. other-one y e.reply h)
        where
          named : (z : Side) → after_event z s (Open t) NameUsed state ≡ state
          named A = refl
          named B = refl

          other-one : (z : Side) (r : Reply) → (s == t) ≡ false → after_event z s (Open t) r state ≡ state
          other-one A Opened h = ap (λ b. if b then WaitsAnswer else state) h
          other-one B Opened h = ap (λ b. if b then WaitsProposal else state) h
          other-one A (Declined lack) h = ap (λ b. if b then HasFallen else state) h
          other-one B (Declined lack) h = ap (λ b. if b then HasFallen else state) h
          other-one A _ h = refl
          other-one B _ h = refl

      clc : (t : ℕ) (dir : Side) → e.event ≡ ClcEvent t dir → (y : Side) → x ≡ y → Does x s e state (after_event y s (ClcEvent t dir) e.reply state)
      clc t B g A i = by-bool (Does x s e state (after_event A s (ClcEvent t B) e.reply state)) (s == t)
          (λ h. DoesTake (g ∙ (ap (λ n. ClcEvent n B) (sym (turned t h)) ∙ ap (λ z. ClcEvent s (other z)) (sym i))) (ap (λ b. if b then after_clc e.reply state else state) h))
          (λ h. DoesNothing (ap (λ b. if b then after_clc e.reply state else state) h))
      clc t A g B i = by-bool (Does x s e state (after_event B s (ClcEvent t A) e.reply state)) (s == t)
          (λ h. DoesTake (g ∙ (ap (λ n. ClcEvent n A) (sym (turned t h)) ∙ ap (λ z. ClcEvent s (other z)) (sym i))) (ap (λ b. if b then after_clc e.reply state else state) h))
          (λ h. DoesNothing (ap (λ b. if b then after_clc e.reply state else state) h))
      clc t A g A i = DoesNothing refl
      clc t B g B i = DoesNothing refl

      raw : (t at len : ℕ) (r : Reply) (y : Side) → x ≡ y → Does x s e state (after_event y s (Raw t at len) r state)
      raw t at len (Wrote n) A i = by-bool (Does x s e state (after_event A s (Raw t at len) (Wrote n) state)) (s == t) (λ h. DoesNothing (ap (λ b. if b then after_raw A state else state) h)) (λ h. DoesNothing (ap (λ b. if b then after_raw A state else state) h))
      raw t at len (Wrote n) B i = by-bool (Does x s e state (after_event B s (Raw t at len) (Wrote n) state)) (s == t) (λ h. begins h (is_none state) refl) (λ h. DoesNothing (ap (λ b. if b then after_raw B state else state) h))
        where
          kept : (st : EndState) → is_none st ≡ false → after_raw B st ≡ st
          kept NoEnd n = cc
          kept WaitsProposal n = refl
          kept WaitsAnswer n = refl
          kept WaitsConfirm n = refl
          kept WaitsLink n = refl
          kept IsUp n = refl
          kept HasFallen n = refl
          kept (WasReset cause) n = refl

          from-none : (st : EndState) → is_none st ≡ true → after_raw B st ≡ WaitsProposal
          from-none NoEnd n = refl
          from-none WaitsProposal n = cc
          from-none WaitsAnswer n = cc
          from-none WaitsConfirm n = cc
          from-none WaitsLink n = cc
          from-none IsUp n = cc
          from-none HasFallen n = cc
          from-none (WasReset cause) n = cc

          begins : (s == t) ≡ true → (b : Bool) → is_none state ≡ b → Does x s e state (after_event B s (Raw t at len) (Wrote n) state)
          begins h true m = DoesBegin m i (ap (λ b. if b then after_raw B state else state) h ∙ from-none state m)
          begins h false m = DoesNothing (ap (λ b. if b then after_raw B state else state) h ∙ kept state m)
      raw t at len _ A i = DoesNothing refl
      raw t at len _ B i = DoesNothing refl

      plain : (v : Event) → e.event ≡ v → ((y : Side) → after_event y s v e.reply state ≡ state) → Does x s e state (after_event x s e.event e.reply state)
      plain v g h = same v g (h x)

      carry : (v : Event) → e.event ≡ v → Does x s e state (after_event x s v e.reply state) → Does x s e state (after_event x s e.event e.reply state)
      carry v g d = subst (λ w. Does x s e state (after_event x s w e.reply state)) (sym g) d

      two : (P : Side → Type 0) → P A → P B → (y : Side) → P y
      two P a b A = a
      two P a b B = b

      by : (v : Event) → e.event ≡ v → Does x s e state (after_event x s e.event e.reply state)
      by (Open t) g = plain (Open t) g (λ y. opened y t g)
      by (Raw t at len) g = carry (Raw t at len) g (raw t at len e.reply x refl)
      by (ClcEvent t dir) g = carry (ClcEvent t dir) g (clc t dir g x refl)
      by (WriteEvent end at len) g = plain _ g (two (λ y. after_event y s (WriteEvent end at len) e.reply state ≡ state) refl refl)
      by (Read end len) g = plain _ g (two (λ y. after_event y s (Read end len) e.reply state ≡ state) refl refl)
      by (Finish end) g = plain _ g (two (λ y. after_event y s (Finish end) e.reply state ≡ state) refl refl)
      by (Close end) g = plain _ g (two (λ y. after_event y s (Close end) e.reply state ≡ state) refl refl)
      by (Abort end) g = plain _ g (two (λ y. after_event y s (Abort end) e.reply state ≡ state) refl refl)
      by (Await end) g = plain _ g (two (λ y. after_event y s (Await end) e.reply state ≡ state) refl refl)
      by (Deliver slot dir) g = plain _ g (two (λ y. after_event y s (Deliver slot dir) e.reply state ≡ state) refl refl)
      by (Complete slot dir) g = plain _ g (two (λ y. after_event y s (Complete slot dir) e.reply state ≡ state) refl refl)
      by (Swallow slot dir) g = plain _ g (two (λ y. after_event y s (Swallow slot dir) e.reply state ≡ state) refl refl)
      by (Cut slot) g = plain _ g (two (λ y. after_event y s (Cut slot) e.reply state ≡ state) refl refl)
      by (Heal slot) g = plain _ g (two (λ y. after_event y s (Heal slot) e.reply state ≡ state) refl refl)
      by (Report z slot) g = plain _ g (two (λ y. after_event y s (Report z slot) e.reply state ≡ state) refl refl)
      by (Move end) g = plain _ g (two (λ y. after_event y s (Move end) e.reply state ≡ state) refl refl)
      by Grow g = plain _ g (two (λ y. after_event y s Grow e.reply state ≡ state) refl refl)
      by (Test z slot) g = plain _ g (two (λ y. after_event y s (Test z slot) e.reply state ≡ state) refl refl)
      by (Trim z) g = plain _ g (two (λ y. after_event y s (Trim z) e.reply state ≡ state) refl refl)
