-- What an end is after a played history, as its host sees it, and what a call is told where it waits.
use Rattle.std.proofs.Common.{◌≡◌, ◌∙◌, ◌⊎◌, inl, inr, ℕ, Bool, true, false, if◌then◌else◌, List, refl, ap, sym, true≢false}
use Rattle.smc_num.specs.declared.Side.{Side}
use Rattle.smc_num.specs.declared.Side.TheVariants.{A, B}
use Rattle.pipe_model.specs.declared.setup.Setup.{Setup}
use Rattle.pipe_model.specs.declared.entry.Entry.{Entry}
use Rattle.pipe_model.specs.declared.event.End.{End}
use Rattle.pipe_model.specs.declared.reply.Reply.TheVariants.{NotYet}
use Rattle.pipe_model.specs.Calls.{Writes, Reads, Plain}
use Rattle.pipe_model.specs.Connections.{EndState, NoEnd, WaitsProposal, WaitsAnswer, WaitsConfirm, WaitsLink, IsUp, HasFallen, WasReset, end_state, is_up}
use Rattle.pipe_model.specs.Fallback.{is_fallen_state}
use Rattle.pipe_model.specs.Replies.{end_told}
use Rattle.clc_handshake.specs.declared.stage.EndState.TheVariants.{Absent, Up, FellBack}
use Rattle.clc_handshake.specs.Stages.{seen_state}
use Rattle.world_core.specs.Sockets.{Socket, Unopened, Fallen, Proposed, Refused, FirstAccepted, FirstConfirmed, AwaitsLink, FirstUpAtA, FirstUp, Accepted, AcceptRefused, AcceptFallen, Confirmed, Up as UpAtBoth, up_at, early_at}
use Rattle.world_core.specs.Played.{IsOneLink, IsPlayed}
use Rattle.world_core.proofs.PlayedWorlds.{played}
use Rattle.world_core.proofs.TakenMessages.{end-is}

-- whether an end is up in a state, and whether it was reset
abbrev pub is_up_state : EndState → Bool
is_up_state IsUp = true
is_up_state _ = false

abbrev pub is_reset_state : EndState → Bool
is_reset_state (WasReset cause) = true
is_reset_state _ = false

-- no end is up before it is, and none is reset
pub record IsEarly (st : EndState) : Type 0 where
  pub up : is_up_state st ≡ false
  pub reset : is_reset_state st ≡ false

is-early-at : (k : Socket) (x : Side) → IsEarly (early_at k x)
is-early-at Unopened A = record { up = refl; reset = refl }
is-early-at Unopened B = record { up = refl; reset = refl }
is-early-at Fallen A = record { up = refl; reset = refl }
is-early-at Fallen B = record { up = refl; reset = refl }
is-early-at Proposed A = record { up = refl; reset = refl }
is-early-at Proposed B = record { up = refl; reset = refl }
is-early-at (Refused r) A = record { up = refl; reset = refl }
is-early-at (Refused r) B = record { up = refl; reset = refl }
is-early-at (FirstAccepted o) A = record { up = refl; reset = refl }
is-early-at (FirstAccepted o) B = record { up = refl; reset = refl }
is-early-at (FirstConfirmed o p) A = record { up = refl; reset = refl }
is-early-at (FirstConfirmed o p) B = record { up = refl; reset = refl }
is-early-at (AwaitsLink o p) A = record { up = refl; reset = refl }
is-early-at (AwaitsLink o p) B = record { up = refl; reset = refl }
is-early-at (FirstUpAtA o p) A = record { up = refl; reset = refl }
is-early-at (FirstUpAtA o p) B = record { up = refl; reset = refl }
is-early-at (FirstUp o p) A = record { up = refl; reset = refl }
is-early-at (FirstUp o p) B = record { up = refl; reset = refl }
is-early-at (Accepted o) A = record { up = refl; reset = refl }
is-early-at (Accepted o) B = record { up = refl; reset = refl }
is-early-at (AcceptRefused o r) A = record { up = refl; reset = refl }
is-early-at (AcceptRefused o r) B = record { up = refl; reset = refl }
is-early-at (AcceptFallen o) A = record { up = refl; reset = refl }
is-early-at (AcceptFallen o) B = record { up = refl; reset = refl }
is-early-at (Confirmed o p) A = record { up = refl; reset = refl }
is-early-at (Confirmed o p) B = record { up = refl; reset = refl }
is-early-at (UpAtBoth o p) A = record { up = refl; reset = refl }
is-early-at (UpAtBoth o p) B = record { up = refl; reset = refl }

-- what an end is
pub record IsEnd (x : Side) (s : ℕ) (past : List Entry) : Type 0 where
  pub up : is_up_state (end_state x s past) ≡ is_up x s past
  pub reset : is_reset_state (end_state x s past) ≡ false

up-by : (b : Bool) (st : EndState) → IsEarly st → is_up_state (if b then IsUp else st) ≡ b
up-by true st e = refl
up-by false st e = e.up

reset-by : (b : Bool) (st : EndState) → IsEarly st → is_reset_state (if b then IsUp else st) ≡ false
reset-by true st e = refl
reset-by false st e = e.reset

pub is-end : (setup : Setup) (one : IsOneLink setup) (payload : List ℕ) (past : List Entry) (n : ℕ) → IsPlayed setup payload past n → (x : Side) (s : ℕ) → IsEnd x s past
is-end setup one payload past n p x s =
    let w = played setup one payload past n p in
    let world = w.world in
    let h = world.sockets s in
    let at = h.stands in
    record {
      up = ap (λ st. is_up_state st) (end-is setup h.at s past at x) ∙ (up-by (up_at h.at x) (early_at h.at x) (is-early-at h.at x) ∙ sym (at.up x));
      reset = ap (λ st. is_reset_state st) (end-is setup h.at s past at x) ∙ reset-by (up_at h.at x) (early_at h.at x) (is-early-at h.at x);
    }

-- what is seen of an end says what it is
pub seen-absent : (st : EndState) → seen_state st ≡ Absent → st ≡ NoEnd
seen-absent NoEnd e = refl
seen-absent _ e = cc

pub seen-up : (st : EndState) → seen_state st ≡ Up → st ≡ IsUp
seen-up IsUp e = refl
seen-up _ e = cc

pub seen-fallen : (st : EndState) → seen_state st ≡ FellBack → st ≡ HasFallen
seen-fallen HasFallen e = refl
seen-fallen _ e = cc

pub absent-or : (st : EndState) → (seen_state st ≡ Absent) ⊎ (seen_state st ≡ Absent → ⊥)
absent-or NoEnd = inl refl
absent-or WaitsProposal = inr (λ e. cc)
absent-or WaitsAnswer = inr (λ e. cc)
absent-or WaitsConfirm = inr (λ e. cc)
absent-or WaitsLink = inr (λ e. cc)
absent-or IsUp = inr (λ e. cc)
absent-or HasFallen = inr (λ e. cc)
absent-or (WasReset cause) = inr (λ e. cc)

-- an end that waits
pub record Waits (st : EndState) : Type 0 where
  pub up : is_up_state st ≡ false
  pub fallen : is_fallen_state st ≡ false
  pub told : (setup : Setup) (payload : List ℕ) (end : End) (past : List Entry) → ((bytes : List ℕ) → end_told setup payload end (Writes bytes) past st ≡ Plain NotYet) × ((n : ℕ) → end_told setup payload end (Reads n) past st ≡ Plain NotYet)

pub waits : (st : EndState) → (seen_state st ≡ Absent → ⊥) → (seen_state st ≡ Up → ⊥) → (seen_state st ≡ FellBack → ⊥) → is_reset_state st ≡ false → Waits st
waits NoEnd a u f r = absurd (a refl)
waits WaitsProposal a u f r = record { up = refl; fallen = refl; told = λ setup payload end past. (λ bytes. refl, λ n. refl) }
waits WaitsAnswer a u f r = record { up = refl; fallen = refl; told = λ setup payload end past. (λ bytes. refl, λ n. refl) }
waits WaitsConfirm a u f r = record { up = refl; fallen = refl; told = λ setup payload end past. (λ bytes. refl, λ n. refl) }
waits WaitsLink a u f r = record { up = refl; fallen = refl; told = λ setup payload end past. (λ bytes. refl, λ n. refl) }
waits IsUp a u f r = absurd (u refl)
waits HasFallen a u f r = absurd (f refl)
waits (WasReset cause) a u f r = absurd (true≢false r)
