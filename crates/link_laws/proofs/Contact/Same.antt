-- An end that waits for a message of the handshake waits on, where nothing happens on its socket.
use Rattle.std.proofs.Common.{Bool, List, ap, false, if◌then◌else◌, refl, sym, true, true≢false, ℕ, ◌||◌, ◌∙◌, ◌∷◌, ◌≡◌}
use Rattle.std.specs.Prelude.{is_some}
use Rattle.pipe_model.specs.Connections.{comes_up}
use Rattle.history_laws.specs.Words.{EndState, Entry, HasFallen, IsUp, NoEnd, Side, WaitsAnswer, WaitsConfirm, WaitsLink, WaitsProposal, WasReset, after_loss, early_state, end_state, group_on, is_up, loses_group_with}

-- whether the end of the group and other sockets leave such an end alone
abbrev pub is_waiting_state : EndState → Bool
is_waiting_state NoEnd = true
is_waiting_state WaitsProposal = true
is_waiting_state WaitsAnswer = true
is_waiting_state WaitsConfirm = true
is_waiting_state _ = false

pub loss-keeps : (b : Bool) (g : ℕ) (st : EndState) → is_waiting_state st ≡ true → after_loss b g st ≡ st
loss-keeps true g NoEnd e = refl
loss-keeps true g WaitsProposal e = refl
loss-keeps true g WaitsAnswer e = refl
loss-keeps true g WaitsConfirm e = refl
loss-keeps true g WaitsLink e = absurd (true≢false (sym e))
loss-keeps true g IsUp e = refl
loss-keeps true g HasFallen e = refl
loss-keeps true g (WasReset c) e = refl
loss-keeps false g st e = refl

pub loss-back : (b : Bool) (g : ℕ) (st : EndState) → is_waiting_state (after_loss b g st) ≡ true → after_loss b g st ≡ st
loss-back true g NoEnd e = refl
loss-back true g WaitsProposal e = refl
loss-back true g WaitsAnswer e = refl
loss-back true g WaitsConfirm e = refl
loss-back true g WaitsLink e = absurd (true≢false (sym e))
loss-back true g IsUp e = refl
loss-back true g HasFallen e = refl
loss-back true g (WasReset c) e = refl
loss-back false g st e = refl

-- an end that waits is not up, and its early state is that
pub state-parts : (x : Side) (s : ℕ) (past : List Entry) (want : EndState) → is_waiting_state want ≡ true → end_state x s past ≡ want → (is_up x s past ≡ false) × (early_state x s past ≡ want)
state-parts x s past want w e = by (is_up x s past) refl e
  where
    by : (b : Bool) → is_up x s past ≡ b → (if b then IsUp else early_state x s past) ≡ want → (b ≡ false) × (early_state x s past ≡ want)
    by true p q = absurd (true≢false (sym w ∙ ap is_waiting_state (sym q)))
    by false p q = (refl, q)

pub state-from : (x : Side) (s : ℕ) (past : List Entry) (want : EndState) → is_up x s past ≡ false → early_state x s past ≡ want → end_state x s past ≡ want
state-from x s past want u e = ap (λ b. if b then IsUp else early_state x s past) u ∙ e

pub not-up-before : (x : Side) (s : ℕ) (e : Entry) (past : List Entry) → is_up x s (e ∷ past) ≡ false → is_up x s past ≡ false
not-up-before x s e past h = by (is_some (comes_up x s e past)) (is_up x s past) h
  where
    by : (a b : Bool) → (a || b) ≡ false → b ≡ false
    by true b h = absurd (true≢false h)
    by false b h = h

-- an end that waits after the entry waited so before, where only the end of the group may have changed it
pub waited : (x : Side) (s : ℕ) (e : Entry) (past : List Entry) (want : EndState) → is_waiting_state want ≡ true → early_state x s (e ∷ past) ≡ after_loss (loses_group_with x (group_on s past) e past) (group_on s past) (early_state x s past) → end_state x s (e ∷ past) ≡ want → end_state x s past ≡ want
waited x s e past want w early h =
    let after = state-parts x s (e ∷ past) want w h in
    let st : early_state x s (e ∷ past) ≡ early_state x s past = early ∙ loss-back (loses_group_with x (group_on s past) e past) (group_on s past) (early_state x s past) (ap is_waiting_state (sym early ∙ after.1) ∙ w) in
    state-from x s past want (not-up-before x s e past after.0) (sym st ∙ after.1)

-- and waits on
pub waits-on : (x : Side) (s : ℕ) (e : Entry) (past : List Entry) (want : EndState) → is_waiting_state want ≡ true → early_state x s (e ∷ past) ≡ after_loss (loses_group_with x (group_on s past) e past) (group_on s past) (early_state x s past) → is_up x s (e ∷ past) ≡ is_up x s past → end_state x s past ≡ want → end_state x s (e ∷ past) ≡ want
waits-on x s e past want w early up h =
    let before = state-parts x s past want w h in
    state-from x s (e ∷ past) want (up ∙ before.0) (early ∙ loss-keeps (loses_group_with x (group_on s past) e past) (group_on s past) (early_state x s past) (ap is_waiting_state before.1 ∙ w) ∙ before.1)
