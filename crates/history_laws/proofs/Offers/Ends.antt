-- After every history that the definitions make: the states of an end are its own, and no socket is both opened and raw.
use Rattle.std.proofs.Common.{Bool, List, [], ap, eqb-true, false, if◌then◌else◌, inl, inr, length, not, refl, sym, true, true≢false, ℕ, ◌&&◌, ◌-◌, ◌==◌, ◌||◌, ◌∙◌, ◌∷◌, ◌≡◌, ◌⊎◌}
use Rattle.pipe_model.specs.declared.event.Event.TheVariants.{Clc as ClcEvent, Raw}
use Rattle.pipe_model.specs.declared.reply.Reply.TheVariants.{Idle, Sent}
use Rattle.pipe_model.specs.Fallback.{opens, raws, stream_room}
use Rattle.pipe_model.specs.declared.reply.SentKind.TheVariants.{Accept as AcceptSent, Confirm as ConfirmSent, ConfirmLink as LinkSent}
use Rattle.pipe_model.specs.Replies.{raw_room, told}
use Rattle.history_laws.specs.Words.{A, B, BadClc, Declined, EndState, Entry, Event, FellBack, HasFallen, IsUp, NameUsed, NoEnd, Open, Opened, Reply, Reset, Setup, Side, WaitsAnswer, WaitsConfirm, WaitsLink, WaitsProposal, WasReset, Wrote, after_clc, after_event, after_loss, clc_step, early_state, end_state, expects, group_on, is_name_used, is_opened, is_raw, is_up, lacks, loses_group_with, other, reply_of, stream}
use Rattle.history_laws.specs.Offers.{HasStates, is_none, is_own_state}
use Rattle.history_laws.proofs.Basics.{by-bool, or-left, or-none, or-parts, or-true}
use Rattle.history_laws.proofs.Offers.StateChanges.{Answers, ByVerdict, Does, DoesBegin, DoesNothing, DoesTake, ForFault, NotTaken, answers, does, state-early, state-up, told-accept, used}
use Rattle.history_laws.proofs.Offers.Offering.{NeverWaits, accepts-in}
use Rattle.history_laws.specs.Made.{IsMadeAll, IsMade}

-- an end that has none expects nothing
pub none-expects : (x : Side) (s : ℕ) (past : List Entry) → is_none (early_state x s past) ≡ true → expects (end_state x s past) ≡ false
none-expects x s past n = by-bool (expects (end_state x s past) ≡ false) (is_up x s past) (λ u. ap expects (state-up x s past u)) (λ u. ap expects (state-early x s past u) ∙ by (early_state x s past) n)
  where
    by : (st : EndState) → is_none st ≡ true → expects st ≡ false
    by NoEnd m = refl
    by WaitsProposal m = cc
    by WaitsAnswer m = cc
    by WaitsConfirm m = cc
    by WaitsLink m = cc
    by IsUp m = cc
    by HasFallen m = cc
    by (WasReset cause) m = cc

-- what an event makes of no end
fresh-own : (x : Side) (s : ℕ) (v : Event) (r : Reply) → (v ≡ ClcEvent s (other x) → r ≡ Idle) → is_own_state x (after_event x s v r NoEnd) ≡ true
fresh-own A s (Open t) Opened c = by-bool (is_own_state A (if s == t then WaitsAnswer else NoEnd) ≡ true) (s == t) (λ h. ap (λ b. is_own_state A (if b then WaitsAnswer else NoEnd)) h) (λ h. ap (λ b. is_own_state A (if b then WaitsAnswer else NoEnd)) h)
fresh-own B s (Open t) Opened c = by-bool (is_own_state B (if s == t then WaitsProposal else NoEnd) ≡ true) (s == t) (λ h. ap (λ b. is_own_state B (if b then WaitsProposal else NoEnd)) h) (λ h. ap (λ b. is_own_state B (if b then WaitsProposal else NoEnd)) h)
fresh-own A s (Open t) (Declined lack) c = by-bool (is_own_state A (if s == t then HasFallen else NoEnd) ≡ true) (s == t) (λ h. ap (λ b. is_own_state A (if b then HasFallen else NoEnd)) h) (λ h. ap (λ b. is_own_state A (if b then HasFallen else NoEnd)) h)
fresh-own B s (Open t) (Declined lack) c = by-bool (is_own_state B (if s == t then HasFallen else NoEnd) ≡ true) (s == t) (λ h. ap (λ b. is_own_state B (if b then HasFallen else NoEnd)) h) (λ h. ap (λ b. is_own_state B (if b then HasFallen else NoEnd)) h)
fresh-own A s (Raw t at len) (Wrote n) c = by-bool (is_own_state A (if s == t then NoEnd else NoEnd) ≡ true) (s == t) (λ h. ap (λ b. is_own_state A (if b then NoEnd else NoEnd)) h) (λ h. ap (λ b. is_own_state A (if b then NoEnd else NoEnd)) h)
fresh-own B s (Raw t at len) (Wrote n) c = by-bool (is_own_state B (if s == t then WaitsProposal else NoEnd) ≡ true) (s == t) (λ h. ap (λ b. is_own_state B (if b then WaitsProposal else NoEnd)) h) (λ h. ap (λ b. is_own_state B (if b then WaitsProposal else NoEnd)) h)
fresh-own A s (ClcEvent t B) r c = by-bool (is_own_state A (if s == t then after_clc r NoEnd else NoEnd) ≡ true) (s == t) (λ h. ap (λ b. is_own_state A (if b then after_clc r NoEnd else NoEnd)) h ∙ ap (λ q. is_own_state A (after_clc q NoEnd)) (c (ap (λ n. ClcEvent n B) (sym (eqb-true s t h))))) (λ h. ap (λ b. is_own_state A (if b then after_clc r NoEnd else NoEnd)) h)
fresh-own B s (ClcEvent t A) r c = by-bool (is_own_state B (if s == t then after_clc r NoEnd else NoEnd) ≡ true) (s == t) (λ h. ap (λ b. is_own_state B (if b then after_clc r NoEnd else NoEnd)) h ∙ ap (λ q. is_own_state B (after_clc q NoEnd)) (c (ap (λ n. ClcEvent n A) (sym (eqb-true s t h))))) (λ h. ap (λ b. is_own_state B (if b then after_clc r NoEnd else NoEnd)) h)
fresh-own A s _ r c = refl
fresh-own B s _ r c = refl

-- and an end comes about by an event that opens the socket, or by raw bytes, which give none to A
abbrev Begun : Side → ℕ → Event → Reply → Type 0
Begun x s v r = (opens s v r ≡ true) ⊎ ((x ≡ B) × (raws s v r ≡ true))

still-none : (st : EndState) (P : Type 0) → st ≡ NoEnd → is_none st ≡ false → P
still-none st P e n = absurd (true≢false (sym (ap is_none e) ∙ n))

fresh-begun : (x : Side) (s : ℕ) (v : Event) (r : Reply) → (v ≡ ClcEvent s (other x) → r ≡ Idle) → is_none (after_event x s v r NoEnd) ≡ false → Begun x s v r
fresh-begun A s (Open t) Opened c n = by-bool (Begun A s (Open t) Opened) (s == t) (λ h. inl (ap (λ b. b && true) h)) (λ h. still-none (if s == t then WaitsAnswer else NoEnd) _ (ap (λ b. if b then WaitsAnswer else NoEnd) h) n)
fresh-begun B s (Open t) Opened c n = by-bool (Begun B s (Open t) Opened) (s == t) (λ h. inl (ap (λ b. b && true) h)) (λ h. still-none (if s == t then WaitsProposal else NoEnd) _ (ap (λ b. if b then WaitsProposal else NoEnd) h) n)
fresh-begun A s (Open t) (Declined lack) c n = by-bool (Begun A s (Open t) (Declined lack)) (s == t) (λ h. inl (ap (λ b. b && true) h)) (λ h. still-none (if s == t then HasFallen else NoEnd) _ (ap (λ b. if b then HasFallen else NoEnd) h) n)
fresh-begun B s (Open t) (Declined lack) c n = by-bool (Begun B s (Open t) (Declined lack)) (s == t) (λ h. inl (ap (λ b. b && true) h)) (λ h. still-none (if s == t then HasFallen else NoEnd) _ (ap (λ b. if b then HasFallen else NoEnd) h) n)
fresh-begun A s (Raw t at len) (Wrote m) c n = still-none (if s == t then NoEnd else NoEnd) _ (by-bool ((if s == t then NoEnd else NoEnd) ≡ NoEnd) (s == t) (λ h. ap (λ b. if b then NoEnd else NoEnd) h) (λ h. ap (λ b. if b then NoEnd else NoEnd) h)) n
fresh-begun B s (Raw t at len) (Wrote m) c n = by-bool (Begun B s (Raw t at len) (Wrote m)) (s == t) (λ h. inr (refl, ap (λ b. b && true) h)) (λ h. still-none (if s == t then WaitsProposal else NoEnd) _ (ap (λ b. if b then WaitsProposal else NoEnd) h) n)
fresh-begun A s (ClcEvent t B) r c n = still-none (if s == t then after_clc r NoEnd else NoEnd) _ (by-bool ((if s == t then after_clc r NoEnd else NoEnd) ≡ NoEnd) (s == t) (λ h. ap (λ b. if b then after_clc r NoEnd else NoEnd) h ∙ ap (λ q. after_clc q NoEnd) (c (ap (λ m. ClcEvent m B) (sym (eqb-true s t h))))) (λ h. ap (λ b. if b then after_clc r NoEnd else NoEnd) h)) n
fresh-begun B s (ClcEvent t A) r c n = still-none (if s == t then after_clc r NoEnd else NoEnd) _ (by-bool ((if s == t then after_clc r NoEnd else NoEnd) ≡ NoEnd) (s == t) (λ h. ap (λ b. if b then after_clc r NoEnd else NoEnd) h ∙ ap (λ q. after_clc q NoEnd) (c (ap (λ m. ClcEvent m A) (sym (eqb-true s t h))))) (λ h. ap (λ b. if b then after_clc r NoEnd else NoEnd) h)) n
fresh-begun A s _ r c n = absurd (true≢false n)
fresh-begun B s _ r c n = absurd (true≢false n)

-- a reset with the group
pub loss-own : (x : Side) (b : Bool) (g : ℕ) (st : EndState) → is_own_state x st ≡ true → is_own_state x (after_loss b g st) ≡ true
loss-own x true g NoEnd o = o
loss-own x true g WaitsProposal o = o
loss-own x true g WaitsAnswer o = o
loss-own x true g WaitsConfirm o = o
loss-own A true g WaitsLink o = refl
loss-own B true g WaitsLink o = refl
loss-own x true g IsUp o = o
loss-own x true g HasFallen o = o
loss-own x true g (WasReset cause) o = o
loss-own x false g st o = o

pub loss-none : (b : Bool) (g : ℕ) (st : EndState) → is_none (after_loss b g st) ≡ is_none st
loss-none true g NoEnd = refl
loss-none true g WaitsProposal = refl
loss-none true g WaitsAnswer = refl
loss-none true g WaitsConfirm = refl
loss-none true g WaitsLink = refl
loss-none true g IsUp = refl
loss-none true g HasFallen = refl
loss-none true g (WasReset cause) = refl
loss-none false g st = refl

-- an answer to a CLC message
take-own : (x : Side) (r : Reply) (st : EndState) → is_own_state x st ≡ true → (x ≡ A → r ≡ Sent AcceptSent → ⊥) → is_own_state x (after_clc r st) ≡ true
take-own A (Sent AcceptSent) st o n = absurd (n refl refl)
take-own B (Sent AcceptSent) st o n = refl
take-own A (Sent ConfirmSent) st o n = refl
take-own B (Sent ConfirmSent) st o n = refl
take-own A (Sent LinkSent) st o n = refl
take-own B (Sent LinkSent) st o n = refl
take-own A (Declined lack) st o n = refl
take-own B (Declined lack) st o n = refl
take-own A FellBack st o n = refl
take-own B FellBack st o n = refl
take-own A (Reset cause) st o n = refl
take-own B (Reset cause) st o n = refl
take-own x _ st o n = o

-- A and B wait for their own
pub never-waits : (s : ℕ) (past : List Entry) → HasStates s past → NeverWaits s past
never-waits s past h = (λ e. at A WaitsProposal e refl refl, λ e. at B WaitsAnswer e refl refl)
  where
    at : (x : Side) (st : EndState) → end_state x s past ≡ st → is_own_state x st ≡ false → is_own_state x IsUp ≡ true → ⊥
    at x st e f g = by-bool ⊥ (is_up x s past) (λ u. true≢false (sym g ∙ (ap (is_own_state x) (sym (state-up x s past u) ∙ e) ∙ f))) (λ u. true≢false (sym (h.own x) ∙ (ap (is_own_state x) (sym (state-early x s past u) ∙ e) ∙ f)))

module _ (setup : Setup) (payload : List ℕ) (past : List Entry) (before : ℕ) (e : Entry) (made : IsMade setup payload past before e) (s : ℕ) (h : HasStates s past) where
  -- A is never told that it sent an Accept
  no-accept-at-a : e.event ≡ ClcEvent s B → e.reply ≡ Sent AcceptSent → ⊥
  no-accept-at-a ev r = by (answers setup payload past before e made s B ev)
    where
      by : Answers setup payload s B past e.reply → ⊥
      by (NotTaken i) = (let w : Idle ≡ Sent AcceptSent = sym i ∙ r in cc)
      by (ForFault fault x f i) = (let w : Reset (BadClc fault) ≡ Sent AcceptSent = sym i ∙ r in cc)
      by (ByVerdict m len x f i) =
          let q = accepts-in (is_raw s past) (end_state A s past) m (lacks setup payload A past) (told-accept (group_on s past) m (clc_step setup payload A s m past) (sym i ∙ r)) in
          let n = never-waits s past h in n.0 q.0

  abbrev mid : Side → EndState
  mid x = after_event x s e.event e.reply (early_state x s past)

  idle-of-none : (x : Side) → is_none (early_state x s past) ≡ true → e.event ≡ ClcEvent s (other x) → e.reply ≡ Idle
  idle-of-none x n ev = by x (answers setup payload past before e made s (other x) ev) (none-expects x s past n)
    where
      by : (y : Side) → Answers setup payload s (other y) past e.reply → expects (end_state y s past) ≡ false → e.reply ≡ Idle
      by y (NotTaken i) f = i
      by A (ForFault fault x f i) g = absurd (true≢false (sym x ∙ g))
      by B (ForFault fault x f i) g = absurd (true≢false (sym x ∙ g))
      by A (ByVerdict m len x f i) g = absurd (true≢false (sym x ∙ g))
      by B (ByVerdict m len x f i) g = absurd (true≢false (sym x ∙ g))

  none-is : (st : EndState) → is_none st ≡ true → st ≡ NoEnd
  none-is NoEnd m = refl
  none-is WaitsProposal m = cc
  none-is WaitsAnswer m = cc
  none-is WaitsConfirm m = cc
  none-is WaitsLink m = cc
  none-is IsUp m = cc
  none-is HasFallen m = cc
  none-is (WasReset cause) m = cc

  mid-own : (x : Side) → is_own_state x (mid x) ≡ true
  mid-own x = by-bool (is_own_state x (mid x) ≡ true) (is_none (early_state x s past))
      (λ n. ap (λ st. is_own_state x (after_event x s e.event e.reply st)) (none-is (early_state x s past) n) ∙ fresh-own x s e.event e.reply (idle-of-none x n))
      (λ n. by (does setup payload past before e made s (h.begun x n) x (early_state x s past)))
    where
      begin-own : (y : Side) → y ≡ B → is_own_state y WaitsProposal ≡ true
      begin-own A i = cc
      begin-own B i = refl

      by : Does x s e (early_state x s past) (mid x) → is_own_state x (mid x) ≡ true
      by (DoesNothing i) = ap (is_own_state x) i ∙ h.own x
      by (DoesTake ev i) = ap (is_own_state x) i ∙ take-own x e.reply (early_state x s past) (h.own x) (λ a r. no-accept-at-a (ev ∙ ap (λ y. ClcEvent s (other y)) a) r)
      by (DoesBegin n b i) = ap (is_own_state x) i ∙ begin-own x b

  known-stays : (is_opened s past || is_raw s past) ≡ true → (is_opened s (e ∷ past) || is_raw s (e ∷ past)) ≡ true
  known-stays k = by (or-parts (is_opened s past) (is_raw s past) k)
    where
      by : (is_opened s past ≡ true) ⊎ (is_raw s past ≡ true) → (is_opened s (e ∷ past) || is_raw s (e ∷ past)) ≡ true
      by (inl o) = or-left (is_opened s (e ∷ past)) (is_raw s (e ∷ past)) (or-true (opens s e.event e.reply) (is_opened s past) o)
      by (inr r) = or-true (is_opened s (e ∷ past)) (is_raw s (e ∷ past)) (or-true (raws s e.event e.reply) (is_raw s past) r)

  mid-begun : (x : Side) → is_none (mid x) ≡ false → ((is_opened s past || is_raw s past) ≡ true) ⊎ Begun x s e.event e.reply
  mid-begun x n = by-bool (((is_opened s past || is_raw s past) ≡ true) ⊎ Begun x s e.event e.reply) (is_none (early_state x s past))
      (λ m. inr (fresh-begun x s e.event e.reply (idle-of-none x m) (ap (λ st. is_none (after_event x s e.event e.reply st)) (sym (none-is (early_state x s past) m)) ∙ n))) (λ m. inl (h.begun x m))

  -- a socket is opened only where it is new, and gets raw bytes only where it was not opened
  pub opens-new : opens s e.event e.reply ≡ true → (is_opened s past || is_raw s past) ≡ false
  opens-new o = by-bool ((is_opened s past || is_raw s past) ≡ false) (is_opened s past || is_raw s past) (λ k. absurd (old k e.event refl)) (λ k. k)
    where
      old : (is_opened s past || is_raw s past) ≡ true → (v : Event) → e.event ≡ v → ⊥
      old k (Open t) g =
          let o2 : ((s == t) && not (is_name_used e.reply)) ≡ true = sym (ap (λ w. opens s w e.reply) g) ∙ o in
          let is : s ≡ t = by-bool (s ≡ t) (s == t) (λ q. eqb-true s t q) (λ q. absurd (true≢false (sym o2 ∙ ap (λ b. b && not (is_name_used e.reply)) q))) in
          let r : e.reply ≡ NameUsed = used setup payload past before e made t g (ap (λ n. is_opened n past || is_raw n past) (sym is) ∙ k) in
          true≢false (sym o2 ∙ (ap (λ q. (s == t) && not (is_name_used q)) r ∙ and-false (s == t)))
        where
          and-false : (b : Bool) → (b && false) ≡ false
          and-false true = refl
          and-false false = refl
      old k v g = true≢false (sym o ∙ (ap (λ w. opens s w e.reply) g ∙ refl))

  pub states-after : HasStates s (e ∷ past)
  states-after = record { own = λ x. loss-own x (loses_group_with x (group_on s past) e past) (group_on s past) (mid x) (mid-own x); begun = begun; opened = opened; apart = apart }
    where
      begun : (x : Side) → is_none (early_state x s (e ∷ past)) ≡ false → (is_opened s (e ∷ past) || is_raw s (e ∷ past)) ≡ true
      begun x n = by (mid-begun x (sym (loss-none (loses_group_with x (group_on s past) e past) (group_on s past) (mid x)) ∙ n))
        where
          by : ((is_opened s past || is_raw s past) ≡ true) ⊎ Begun x s e.event e.reply → (is_opened s (e ∷ past) || is_raw s (e ∷ past)) ≡ true
          by (inl k) = known-stays k
          by (inr (inl o)) = or-left (is_opened s (e ∷ past)) (is_raw s (e ∷ past)) (or-left (opens s e.event e.reply) (is_opened s past) o)
          by (inr (inr r)) = or-true (is_opened s (e ∷ past)) (is_raw s (e ∷ past)) (or-left (raws s e.event e.reply) (is_raw s past) r.1)

      opened : is_none (early_state A s (e ∷ past)) ≡ false → is_opened s (e ∷ past) ≡ true
      opened n = by-bool (is_opened s (e ∷ past) ≡ true) (is_none (early_state A s past))
          (λ m. by (fresh-begun A s e.event e.reply (idle-of-none A m) (ap (λ st. is_none (after_event A s e.event e.reply st)) (sym (none-is (early_state A s past) m)) ∙ (sym (loss-none (loses_group_with A (group_on s past) e past) (group_on s past) (mid A)) ∙ n))))
          (λ m. or-true (opens s e.event e.reply) (is_opened s past) (h.opened m))
        where
          by : Begun A s e.event e.reply → is_opened s (e ∷ past) ≡ true
          by (inl o) = or-left (opens s e.event e.reply) (is_opened s past) o
          by (inr r) = (let w : A ≡ B = r.0 in cc)

      both : (raws s e.event e.reply ≡ true) → is_opened s past ≡ false
      both r = by-bool (is_opened s past ≡ false) (is_opened s past) (λ o. absurd (rawed o e.event refl)) (λ o. o)
        where
          rawed : is_opened s past ≡ true → (v : Event) → e.event ≡ v → ⊥
          rawed o (Raw t at len) g =
              let r2 : ((s == t) && not (is_name_used e.reply)) ≡ true = sym (ap (λ w. raws s w e.reply) g) ∙ r in
              let is : s ≡ t = by-bool (s ≡ t) (s == t) (λ q. eqb-true s t q) (λ q. absurd (true≢false (sym r2 ∙ ap (λ b. b && not (is_name_used e.reply)) q))) in
              let n : e.reply ≡ NameUsed = made.reply ∙ (ap (λ w. reply_of before (told setup payload past w)) g ∙ ap (λ b. if b then NameUsed else raw_room (stream_room - length (stream payload A t past)) len) (ap (λ m. is_opened m past) (sym is) ∙ o)) in
              true≢false (sym r2 ∙ (ap (λ q. (s == t) && not (is_name_used q)) n ∙ and-false (s == t)))
            where
              and-false : (b : Bool) → (b && false) ≡ false
              and-false true = refl
              and-false false = refl
          rawed o v g = true≢false (sym r ∙ (ap (λ w. raws s w e.reply) g ∙ refl))

      -- an event either opens or is raw
      one-kind : (v : Event) (q : Reply) → opens s v q ≡ true → raws s v q ≡ false
      one-kind (Open t) q o = refl
      one-kind v q o = absurd (true≢false (sym o))

      apart : is_opened s (e ∷ past) ≡ true → is_raw s (e ∷ past) ≡ false
      apart o = by (or-parts (opens s e.event e.reply) (is_opened s past) o)
        where
          none : (a b : Bool) → a ≡ false → b ≡ false → (a || b) ≡ false
          none true b p q = absurd (true≢false p)
          none false b p q = q

          by : (opens s e.event e.reply ≡ true) ⊎ (is_opened s past ≡ true) → is_raw s (e ∷ past) ≡ false
          by (inl p) = (let q = or-none (is_opened s past) (is_raw s past) (opens-new p) in none (raws s e.event e.reply) (is_raw s past) (one-kind e.event e.reply p) q.1)
          by (inr p) = none (raws s e.event e.reply) (is_raw s past) (by-bool (raws s e.event e.reply ≡ false) (raws s e.event e.reply) (λ r. absurd (true≢false (sym p ∙ both r))) (λ r. r)) (h.apart p)

-- after each history
pub states : (setup : Setup) (payload : List ℕ) (past : List Entry) → IsMadeAll setup payload past → (s : ℕ) → HasStates s past
states setup payload [] m s = record { own = own; begun = λ x n. absurd (true≢false n); opened = λ n. absurd (true≢false n); apart = λ o. refl }
  where
    own : (x : Side) → is_own_state x NoEnd ≡ true
    own A = refl
    own B = refl
states setup payload (e ∷ past) m s = let one = m.0 in states-after setup payload past one.0 e one.1 s (states setup payload past m.1 s)
