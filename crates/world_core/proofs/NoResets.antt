-- No end is ever reset: none closes, none aborts, and no group ends; so there is no cause to show.
use Rattle.std.proofs.Common.{◌≡◌, ap, refl, sym, ◌∙◌}
use Rattle.std.specs.Prelude.{◌&&◌, ℕ, Bool, true, false, if◌then◌else◌, List, [], ◌∷◌, Some, None, is_some}
use Rattle.smc_num.specs.declared.Side.{Side}
use Rattle.smc_num.specs.declared.Side.TheVariants.{A, B}
use Rattle.smc_num.specs.Names.{other}
use Rattle.pipe_model.specs.declared.event.Event.{Event}
use Rattle.pipe_model.specs.declared.event.Event.TheVariants.{Open as OpenEvent, Write, Read, Clc, Deliver, Complete}
use Rattle.pipe_model.specs.declared.reply.Reply.{Reply}
use Rattle.pipe_model.specs.declared.setup.Setup.{Setup}
use Rattle.pipe_model.specs.declared.entry.Entry.{Entry}
use Rattle.pipe_model.specs.Closing.{cause_of, struck}
use Rattle.pipe_model.specs.declared.closing.Phase.{Phase}
use Rattle.pipe_model.specs.declared.closing.Phase.TheVariants.{Open}
use Rattle.pipe_model.specs.declared.reply.ResetCause.TheVariants.{PeerAbort}
use Rattle.pipe_model.specs.Pipe.{half}
use Rattle.pipe_model.specs.Connections.{EndState, IsUp, group_on}
use Rattle.pipe_model.specs.Lending.{pipe_of}
use Rattle.pipe_model.specs.Fallback.{fallen_call, own_phase, fallen_phase, peer_did, is_fallen}
use Rattle.pipe_model.specs.Causes.{kept_in, kept_cause, CausesAreShown}
use Rattle.pipe_model.specs.Fits.{Fits}
use Rattle.world_core.specs.Played.{IsOneLink, IsPlayed}
use Rattle.world_core.specs.Sockets.{Socket, Unopened, Fallen, Proposed, Refused, FirstAccepted, FirstConfirmed, AwaitsLink, FirstUpAtA, FirstUp, Accepted, AcceptRefused, AcceptFallen, Confirmed, Up, up_at, early_at, end_at}
use Rattle.world_core.proofs.TakenMessages.{end-is}
use Rattle.world_core.proofs.PlayedWorlds.{played}
use Rattle.world_core.proofs.Handshaken.{shaken}
use Rattle.world_core.proofs.Pipes.{has-pipe}
use Rattle.world_core.proofs.Plain.{and-false}

-- an end that no call closes stays open
built-keeps : (setup : Setup) (m : ℕ) (x : Side) (s : ℕ) (event : Event) (reply : Reply) (phase : Phase) → Fits setup m event → fallen_call x s event reply phase ≡ phase
built-keeps setup m x s (OpenEvent t) reply phase b = refl
built-keeps setup m x s (Write end at len) reply phase b = refl
built-keeps setup m x s (Read end len) reply phase b = refl
built-keeps setup m x s (Clc t dir) reply phase b = refl
built-keeps setup m x s (Deliver slot dir) reply phase b = refl
built-keeps setup m x s (Complete slot dir) reply phase b = refl
built-keeps setup m x s _ reply phase b = absurd b

pub own-open : (setup : Setup) (payload : List ℕ) (past : List Entry) (n : ℕ) → IsPlayed setup payload past n → (x : Side) (s : ℕ) → own_phase x s past ≡ Open
own-open setup payload [] n p x s = refl
own-open setup payload (e ∷ older) n p x s =
    let made = p.1 in
    built-keeps setup _ x s e.event e.reply (own_phase x s older) made.built ∙ own-open setup payload older p.0 p.3 x s

pub fallen-open : (setup : Setup) (payload : List ℕ) (past : List Entry) (n : ℕ) → IsPlayed setup payload past n → (x : Side) (s : ℕ) → fallen_phase x s past ≡ Open
fallen-open setup payload past n p x s =
    let own = own-open setup payload past n p x s in
    let peer : peer_did (λ q. is_some (cause_of q)) x s past ≡ false = ap (λ q. is_fallen (other x) s past && is_some (cause_of q)) (own-open setup payload past n p (other x) s) ∙ and-false (is_fallen (other x) s past) in
    ap (λ b. if b then struck PeerAbort (own_phase x s past) else own_phase x s past) peer ∙ own

-- in each state of an end that is open there is no cause
keeps-none : (setup : Setup) (payload : List ℕ) (x : Side) (s : ℕ) (past : List Entry) → (half x (pipe_of setup payload (group_on s past) s past)).phase ≡ Open → fallen_phase x s past ≡ Open
    → (k : Socket) → kept_in setup payload x s past (end_at k x) ≡ None
keeps-none setup payload x s past up fallen k = by (up_at k x) k refl
  where
    early : (y : Side) (j : Socket) → kept_in setup payload x s past (early_at j y) ≡ None
    early y Unopened = refl
    early y Fallen = ap cause_of fallen
    early A Proposed = refl
    early B Proposed = refl
    early A (Refused r) = refl
    early B (Refused r) = ap cause_of fallen
    early A (FirstAccepted o) = refl
    early B (FirstAccepted o) = refl
    early A (FirstConfirmed o p) = refl
    early B (FirstConfirmed o p) = refl
    early y (AwaitsLink o p) = refl
    early y (FirstUpAtA o p) = refl
    early y (FirstUp o p) = refl
    early A (Accepted o) = refl
    early B (Accepted o) = refl
    early A (AcceptRefused o r) = ap cause_of fallen
    early B (AcceptRefused o r) = refl
    early y (AcceptFallen o) = ap cause_of fallen
    early A (Confirmed o p) = refl
    early B (Confirmed o p) = refl
    early A (Up o p) = refl
    early B (Up o p) = refl

    by : (b : Bool) (j : Socket) → up_at j x ≡ b → kept_in setup payload x s past (if b then IsUp else early_at j x) ≡ None
    by true j e = ap cause_of up
    by false j e = early x j

module _ (setup : Setup) (one : IsOneLink setup) (payload : List ℕ) (past : List Entry) (n : ℕ) (p : IsPlayed setup payload past n) where
  -- no end keeps a cause
  pub no-cause : (x : Side) (s : ℕ) → kept_cause setup payload x s past ≡ None
  no-cause x s =
      let w = played setup one payload past n p in
      let world = w.world in
      let h = world.sockets s in
      let pipe_is = has-pipe setup payload s past n p (shaken setup one payload past n p) in
      let open_end = pipe_is.open_end x in
      ap (λ (e : EndState). kept_in setup payload x s past e) (end-is setup h.at s past h.stands x) ∙ keeps-none setup payload x s past open_end.phase (fallen-open setup payload past n p x s) h.at

  pub causes-shown : CausesAreShown setup payload past
  causes-shown x s cause e = absurd (let g : None ≡ Some cause = sym (no-cause x s) ∙ e in cc)
