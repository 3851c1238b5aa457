-- An end that is up, has fallen back or was reset stays so, and the group of one that is up stays.
use Rattle.std.proofs.Common.{Bool, List, [], ap, eqb-true, false, if◌then◌else◌, inl, inr, refl, sym, true, true≢false, ℕ, ◌==◌, ◌||◌, ◌∙◌, ◌∷◌, ◌≡◌, ◌⊎◌}
use Rattle.std.specs.Prelude.{None, Option, Some, is_some, option_map, unwrap_or}
use Rattle.pipe_model.specs.Causes.{StaySettled, is_settled, kept_cause}
use Rattle.pipe_model.specs.Connections.{comes_up}
use Rattle.pipe_model.specs.declared.event.Event.TheVariants.{Clc as ClcEvent, Raw}
use Rattle.pipe_model.specs.declared.reply.Reply.TheVariants.{Idle, Sent}
use Rattle.pipe_model.specs.declared.reply.ResetCause.{ResetCause}
use Rattle.pipe_model.specs.declared.reply.SentKind.TheVariants.{Accept as AcceptSent, Confirm as ConfirmSent, ConfirmLink as LinkSent}
use Rattle.pipe_model.proofs.Lawful.{cause-stays}
use Rattle.history_laws.specs.Words.{A, B, Declined, EndState, Entry, Event, FellBack, HasFallen, IsUp, LinkId, NoEnd, Offered, Open, Opened, Reply, Reset, Setup, Side, WaitsAnswer, WaitsConfirm, WaitsLink, WaitsProposal, WasReset, Wrote, after_clc, after_event, after_loss, after_raw, early_state, end_state, expects, group_on, is_out, is_up, loses_group_with, offered, other}
use Rattle.history_laws.specs.Made.{IsMade, IsMadeAll}
use Rattle.history_laws.specs.Offers.{is_none}
use Rattle.history_laws.proofs.Basics.{by-bool, or-parts, or-true}
use Rattle.history_laws.proofs.Offers.{Answers, ByVerdict, Does, DoesBegin, DoesNothing, DoesTake, ForFault, NotTaken, all-offers, answers, does, kept, state-early, state-up, states}
use Rattle.link_laws.specs.Awaited.{AreOnKnown}
use Rattle.link_laws.proofs.Joined.{flows-of}
use Rattle.link_laws.proofs.Lasting.{entered}
use Rattle.lending_laws.specs.Owed.{OwedWith}
use Rattle.lending_laws.proofs.Ends.{up-in-group}
use Rattle.wire_laws.proofs.FreedKeys.{owed-from}

-- whether an end is up, or was reset
abbrev pub is_hard : EndState → Bool
is_hard IsUp = true
is_hard (WasReset cause) = true
is_hard _ = false

soft : (state z : EndState) (P : Type 0) → is_hard state ≡ false → is_hard z ≡ true → state ≡ z → P
soft state z P f g e = absurd (true≢false (sym g ∙ (ap is_hard (sym e) ∙ f)))

raw-hard : (state z : EndState) → is_hard z ≡ true → after_raw B state ≡ z → state ≡ z
raw-hard NoEnd z h e = soft WaitsProposal z (NoEnd ≡ z) refl h e
raw-hard WaitsProposal z h e = e
raw-hard WaitsAnswer z h e = e
raw-hard WaitsConfirm z h e = e
raw-hard WaitsLink z h e = e
raw-hard IsUp z h e = e
raw-hard HasFallen z h e = e
raw-hard (WasReset cause) z h e = e

-- before its group ends, an end is so with an event only where it was, or by an answer to its CLC message
abbrev ByEvent : Side → ℕ → Event → Reply → EndState → EndState → Type 0
ByEvent x s v r state z = (state ≡ z) ⊎ ((v ≡ ClcEvent s (other x)) × (after_clc r state ≡ z))

pub by-event : (x : Side) (s : ℕ) (v : Event) (r : Reply) (state z : EndState) → is_hard z ≡ true → after_event x s v r state ≡ z → ByEvent x s v r state z
by-event A s (Open t) Opened state z h e = by (s == t) e
  where
    by : (b : Bool) → (if b then WaitsAnswer else state) ≡ z → ByEvent A s (Open t) Opened state z
    by true f = soft WaitsAnswer z _ refl h f
    by false f = inl f
by-event B s (Open t) Opened state z h e = by (s == t) e
  where
    by : (b : Bool) → (if b then WaitsProposal else state) ≡ z → ByEvent B s (Open t) Opened state z
    by true f = soft WaitsProposal z _ refl h f
    by false f = inl f
by-event A s (Open t) (Declined lack) state z h e = by (s == t) e
  where
    by : (b : Bool) → (if b then HasFallen else state) ≡ z → ByEvent A s (Open t) (Declined lack) state z
    by true f = soft HasFallen z _ refl h f
    by false f = inl f
by-event B s (Open t) (Declined lack) state z h e = by (s == t) e
  where
    by : (b : Bool) → (if b then HasFallen else state) ≡ z → ByEvent B s (Open t) (Declined lack) state z
    by true f = soft HasFallen z _ refl h f
    by false f = inl f
by-event A s (Raw t at len) (Wrote n) state z h e = by (s == t) e
  where
    by : (b : Bool) → (if b then after_raw A state else state) ≡ z → ByEvent A s (Raw t at len) (Wrote n) state z
    by true f = inl f
    by false f = inl f
by-event B s (Raw t at len) (Wrote n) state z h e = by (s == t) e
  where
    by : (b : Bool) → (if b then after_raw B state else state) ≡ z → ByEvent B s (Raw t at len) (Wrote n) state z
    by true f = inl (raw-hard state z h f)
    by false f = inl f
by-event A s (ClcEvent t B) r state z h e = by (s == t) refl e
  where
    by : (b : Bool) → (s == t) ≡ b → (if b then after_clc r state else state) ≡ z → ByEvent A s (ClcEvent t B) r state z
    by true q f = inr (ap (λ n. ClcEvent n B) (sym (eqb-true s t q)), f)
    by false q f = inl f
by-event B s (ClcEvent t A) r state z h e = by (s == t) refl e
  where
    by : (b : Bool) → (s == t) ≡ b → (if b then after_clc r state else state) ≡ z → ByEvent B s (ClcEvent t A) r state z
    by true q f = inr (ap (λ n. ClcEvent n A) (sym (eqb-true s t q)), f)
    by false q f = inl f
by-event A s v r state z h e = inl e
by-event B s v r state z h e = inl e

-- no early state is that of an end that is up
clc-up : (r : Reply) (state : EndState) → after_clc r state ≡ IsUp → state ≡ IsUp
clc-up (Sent AcceptSent) state e = cc
clc-up (Sent ConfirmSent) state e = cc
clc-up (Sent LinkSent) state e = cc
clc-up (Declined lack) state e = cc
clc-up FellBack state e = cc
clc-up (Reset cause) state e = cc
clc-up _ state e = e

loss-up : (b : Bool) (g : ℕ) (state : EndState) → after_loss b g state ≡ IsUp → state ≡ IsUp
loss-up true g WaitsLink e = cc
loss-up true g NoEnd e = e
loss-up true g WaitsProposal e = e
loss-up true g WaitsAnswer e = e
loss-up true g WaitsConfirm e = e
loss-up true g IsUp e = e
loss-up true g HasFallen e = e
loss-up true g (WasReset cause) e = e
loss-up false g state e = e

pub early-down : (x : Side) (s : ℕ) (past : List Entry) → early_state x s past ≡ IsUp → ⊥
early-down x s [] e = cc
early-down x s (e ∷ past) f = by (early-down x s past) (by-event x s e.event e.reply (early_state x s past) IsUp refl (loss-up (loses_group_with x (group_on s past) e past) (group_on s past) (after_event x s e.event e.reply (early_state x s past)) f))
  where
    by : (early_state x s past ≡ IsUp → ⊥) → ByEvent x s e.event e.reply (early_state x s past) IsUp → ⊥
    by was (inl g) = was g
    by was (inr g) = was (clc-up e.reply (early_state x s past) g.1)

-- an end that is up has a connection, which B has offered
pub up-offered : (setup : Setup) (payload : List ℕ) (past : List Entry) → IsMadeAll setup payload past → (x : Side) (s : ℕ) → is_up x s past ≡ true → (o : Offered) × (offered B s past ≡ Some o)
up-offered setup payload [] m x s u = absurd (true≢false (sym u))
up-offered setup payload (e ∷ past) m x s u = by (up-offered setup payload past m.1 x s) (or-parts (is_some (comes_up x s e past)) (is_up x s past) u)
  where
    stays : (o : Offered) → offered B s past ≡ Some o → (o : Offered) × (offered B s (e ∷ past) ≡ Some o)
    stays o f = let one = m.0 in (o, kept setup payload past one.0 e one.1 (states setup payload past m.1) (all-offers setup payload past m.1) B s o f)

    now : (c : Option LinkId) → comes_up x s e past ≡ c → is_some c ≡ true → (o : Offered) × (offered B s (e ∷ past) ≡ Some o)
    now None i c = absurd (true≢false (sym c))
    now (Some link) i c = let q = up-in-group setup payload e past m (entered setup payload e past m (flows-of setup payload (e ∷ past) m)) x s link i in stays q.0 q.1.0

    by : (is_up x s past ≡ true → (o : Offered) × (offered B s past ≡ Some o)) → (is_some (comes_up x s e past) ≡ true) ⊎ (is_up x s past ≡ true) → (o : Offered) × (offered B s (e ∷ past) ≡ Some o)
    by was (inl c) = now (comes_up x s e past) refl c
    by was (inr w) = (let q = was w in stays q.0 q.1)

-- the group of a connection that was offered stays
pub group-stays : (setup : Setup) (payload : List ℕ) (e : Entry) (past : List Entry) → IsMadeAll setup payload (e ∷ past) → (s : ℕ) (o : Offered) → offered B s past ≡ Some o → group_on s (e ∷ past) ≡ group_on s past
group-stays setup payload e past m s o f =
    let one = m.0 in
    let g : Option Offered → ℕ = λ q. unwrap_or (option_map (λ (link : LinkId). link.group) (option_map (λ (p : Offered). p.link) q)) 0 in
    ap g (kept setup payload past one.0 e one.1 (states setup payload past m.1) (all-offers setup payload past m.1) B s o f) ∙ sym (ap g f)

-- an end that has left its handshake stays as it is
loss-same : (b : Bool) (g : ℕ) (state : EndState) → is_settled state ≡ true → after_loss b g state ≡ state
loss-same true g NoEnd e = absurd (true≢false (sym e))
loss-same true g WaitsProposal e = absurd (true≢false (sym e))
loss-same true g WaitsAnswer e = absurd (true≢false (sym e))
loss-same true g WaitsConfirm e = absurd (true≢false (sym e))
loss-same true g WaitsLink e = absurd (true≢false (sym e))
loss-same true g IsUp e = refl
loss-same true g HasFallen e = refl
loss-same true g (WasReset cause) e = refl
loss-same false g state e = refl

settled-some : (state : EndState) → is_settled state ≡ true → is_none state ≡ false
settled-some NoEnd e = absurd (true≢false (sym e))
settled-some WaitsProposal e = refl
settled-some WaitsAnswer e = refl
settled-some WaitsConfirm e = refl
settled-some WaitsLink e = refl
settled-some IsUp e = refl
settled-some HasFallen e = refl
settled-some (WasReset cause) e = refl

settled-expects : (state : EndState) → is_settled state ≡ true → expects state ≡ false
settled-expects NoEnd e = refl
settled-expects WaitsProposal e = absurd (true≢false (sym e))
settled-expects WaitsAnswer e = absurd (true≢false (sym e))
settled-expects WaitsConfirm e = absurd (true≢false (sym e))
settled-expects WaitsLink e = refl
settled-expects IsUp e = refl
settled-expects HasFallen e = refl
settled-expects (WasReset cause) e = refl

settled-out : (state : EndState) → is_settled state ≡ true → (state ≡ IsUp → ⊥) → is_out state ≡ true
settled-out NoEnd e n = refl
settled-out WaitsProposal e n = absurd (true≢false (sym e))
settled-out WaitsAnswer e n = absurd (true≢false (sym e))
settled-out WaitsConfirm e n = absurd (true≢false (sym e))
settled-out WaitsLink e n = absurd (true≢false (sym e))
settled-out IsUp e n = absurd (n refl)
settled-out HasFallen e n = refl
settled-out (WasReset cause) e n = refl

module _ (setup : Setup) (payload : List ℕ) (e : Entry) (past : List Entry) (m : IsMadeAll setup payload (e ∷ past)) (known : AreOnKnown setup (e ∷ past)) where
  abbrev one : (before : ℕ) × IsMade setup payload past before e
  one = m.0

  -- who comes up had not left its handshake
  pub with-it : OwedWith e past
  with-it = let w = owed-from setup payload (e ∷ past) m known in let r = w.1 in r.0

  -- an answer to a settled end is none
  idle : (x : Side) (s : ℕ) → is_settled (end_state x s past) ≡ true → e.event ≡ ClcEvent s (other x) → e.reply ≡ Idle
  idle x s f ev = for x f (answers setup payload past one.0 e one.1 s (other x) ev)
    where
      for : (y : Side) → is_settled (end_state y s past) ≡ true → Answers setup payload s (other y) past e.reply → e.reply ≡ Idle
      for y p (NotTaken i) = i
      for A p (ForFault fault x f i) = absurd (true≢false (sym x ∙ settled-expects (end_state A s past) p))
      for B p (ForFault fault x f i) = absurd (true≢false (sym x ∙ settled-expects (end_state B s past) p))
      for A p (ByVerdict n len x f i) = absurd (true≢false (sym x ∙ settled-expects (end_state A s past) p))
      for B p (ByVerdict n len x f i) = absurd (true≢false (sym x ∙ settled-expects (end_state B s past) p))

  pub early-stays : (x : Side) (s : ℕ) → is_up x s past ≡ false → is_settled (early_state x s past) ≡ true → early_state x s (e ∷ past) ≡ early_state x s past
  early-stays x s low f = ap (after_loss (loses_group_with x (group_on s past) e past) (group_on s past)) (by (let h = states setup payload past m.1 s in does setup payload past one.0 e one.1 s (h.begun x (settled-some (early_state x s past) f)) x (early_state x s past)))
      ∙ loss-same (loses_group_with x (group_on s past) e past) (group_on s past) (early_state x s past) f
    where
      by : Does x s e (early_state x s past) (after_event x s e.event e.reply (early_state x s past)) → after_event x s e.event e.reply (early_state x s past) ≡ early_state x s past
      by (DoesNothing i) = i
      by (DoesTake ev i) = i ∙ ap (λ r. after_clc r (early_state x s past)) (idle x s (ap is_settled (state-early x s past low) ∙ f) ev)
      by (DoesBegin n b i) = absurd (true≢false (sym n ∙ settled-some (early_state x s past) f))

  ends-stay : (x : Side) (s : ℕ) → is_settled (end_state x s past) ≡ true → end_state x s (e ∷ past) ≡ end_state x s past
  ends-stay x s f = by-bool (end_state x s (e ∷ past) ≡ end_state x s past) (is_up x s past)
      (λ u. state-up x s (e ∷ past) (or-true (is_some (comes_up x s e past)) (is_up x s past) u) ∙ sym (state-up x s past u))
      (λ u. let early : end_state x s past ≡ early_state x s past = state-early x s past u in
      let set : is_settled (early_state x s past) ≡ true = ap is_settled (sym early) ∙ f in
      state-early x s (e ∷ past) (still u (settled-out (early_state x s past) set (early-down x s past)) (comes_up x s e past) refl) ∙ (early-stays x s u set ∙ sym early))
    where
      still : is_up x s past ≡ false → is_out (early_state x s past) ≡ true → (c : Option LinkId) → comes_up x s e past ≡ c → is_up x s (e ∷ past) ≡ false
      still u out None i = ap (λ c. is_some c || is_up x s past) i ∙ u
      still u out (Some link) i = absurd (true≢false (sym out ∙ (ap is_out (sym (state-early x s past u)) ∙ (let w = with-it in w.waits x s link i))))

  pub stay-settled : (s : ℕ) → StaySettled s e past
  stay-settled s = record {
    ends = λ x. ends-stay x s;
    group = λ x f. by-bool (group_on s (e ∷ past) ≡ group_on s past) (is_up x s past)
        (λ u. let q = up-offered setup payload past m.1 x s u in group-stays setup payload e past m s q.0 q.1)
        (λ u. absurd (early-down x s past (sym (state-early x s past u) ∙ f)));
  }

  -- a kept cause stays
  pub kept-stays : (x : Side) (s : ℕ) (cause : ResetCause) → kept_cause setup payload x s past ≡ Some cause → kept_cause setup payload x s (e ∷ past) ≡ Some cause
  kept-stays x s cause k = let made = one.1 in cause-stays setup payload x s e past one.0 cause (stay-settled s) made.reply k
