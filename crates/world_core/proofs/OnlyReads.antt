-- Which events hand out bytes, and which take a post off a wire.
use Rattle.std.specs.Prelude.{◌≡◌, ℕ, List, [], ◌++◌, Option, Some, None, length, take, drop}
use Rattle.std.proofs.Common.{refl, ap, sym, ◌∙◌, append-nil}
use Rattle.smc_num.specs.declared.Side.{Side}
use Rattle.smc_num.specs.Names.{other}
use Rattle.pipe_model.specs.declared.setup.Setup.{Setup}
use Rattle.pipe_model.specs.declared.entry.Entry.{Entry}
use Rattle.pipe_model.specs.declared.event.End.{End}
use Rattle.pipe_model.specs.declared.event.Event.{Event}
use Rattle.pipe_model.specs.declared.event.Event.TheVariants.{Open, Raw, Write, Read, Finish, Close, Abort, Await, Move, Clc, Deliver, Complete, Swallow, Cut, Heal, Report, Grow, Test, Trim}
use Rattle.pipe_model.specs.declared.reply.ResetCause.{ResetCause}
use Rattle.pipe_model.specs.Fits.{Fits}
use Rattle.pipe_model.specs.Calls.{Told, Plain, Hands, Writes, half_told}
use Rattle.pipe_model.specs.Closing.{cause_of}
use Rattle.pipe_model.specs.Ends.{Half}
use Rattle.pipe_model.specs.Lending.{pipe_of}
use Rattle.pipe_model.specs.Pipe.{Pipe, half}
use Rattle.pipe_model.specs.Words.{element_size}
use Rattle.pipe_model.specs.Connections.{EndState, NoEnd, WaitsProposal, WaitsAnswer, WaitsConfirm, WaitsLink, IsUp, HasFallen, WasReset, end_state, group_on}
use Rattle.pipe_model.specs.Fallback.{Queues, queues}
use Rattle.pipe_model.specs.Replies.{told, end_told, fallen_told}
use Rattle.world_core.specs.Heard.{told_bytes}
use Rattle.world_core.specs.Played.{handed}
use Rattle.world_core.specs.Leaving.{IsLeaving}

-- a write hands out none, whatever its end is
end-takes : (size : ℕ) (bytes : List ℕ) (h : Half) (out : List ℕ) (cause : Option ResetCause) → told_bytes (half_told size (Writes bytes) h out cause) ≡ []
end-takes size bytes h out None = refl
end-takes size bytes h out (Some cause) = refl

stream-takes : (bytes : List ℕ) (q : Queues) (cause : Option ResetCause) → told_bytes (fallen_told (Writes bytes) q cause) ≡ []
stream-takes bytes q None = refl
stream-takes bytes q (Some cause) = refl

pub write-takes : (setup : Setup) (payload : List ℕ) (end : End) (bytes : List ℕ) (past : List Entry) (st : EndState) → told_bytes (end_told setup payload end (Writes bytes) past st) ≡ []
write-takes setup payload end bytes past NoEnd = refl
write-takes setup payload end bytes past WaitsProposal = refl
write-takes setup payload end bytes past WaitsAnswer = refl
write-takes setup payload end bytes past WaitsConfirm = refl
write-takes setup payload end bytes past WaitsLink = refl
write-takes setup payload end bytes past IsUp =
    let p : Pipe = pipe_of setup payload (group_on end.s past) end.s past in
    end-takes (element_size setup) bytes (half end.side p) (half (other end.side) p).out (cause_of (half end.side p).phase)
write-takes setup payload end bytes past HasFallen = let q : Queues = queues payload end.side end.s past in stream-takes bytes q (cause_of q.phase)
write-takes setup payload end bytes past (WasReset cause) = refl

-- an event that fits and is no read
pub only_reads : (setup : Setup) (payload : List ℕ) (past : List Entry) (n : ℕ) (event : Event) → Fits setup n event → ((end : End) (len : ℕ) → event ≡ Read end len → ⊥) → told_bytes (told setup payload past event) ≡ []
only_reads setup payload past n (Open s) fits apart = refl
only_reads setup payload past n (Clc s dir) fits apart = refl
only_reads setup payload past n (Write end at len) fits apart = write-takes setup payload end (take len (drop at payload)) past (end_state end.side end.s past)
only_reads setup payload past n (Read end len) fits apart = absurd (apart end len refl)
only_reads setup payload past n (Deliver slot dir) fits apart = refl
only_reads setup payload past n (Complete slot dir) fits apart = refl
only_reads setup payload past n (Raw s at len) fits apart = absurd fits
only_reads setup payload past n (Finish end) fits apart = absurd fits
only_reads setup payload past n (Close end) fits apart = absurd fits
only_reads setup payload past n (Abort end) fits apart = absurd fits
only_reads setup payload past n (Await end) fits apart = absurd fits
only_reads setup payload past n (Move end) fits apart = absurd fits
only_reads setup payload past n (Swallow slot dir) fits apart = absurd fits
only_reads setup payload past n (Cut slot) fits apart = absurd fits
only_reads setup payload past n (Heal slot) fits apart = absurd fits
only_reads setup payload past n (Report x slot) fits apart = absurd fits
only_reads setup payload past n Grow fits apart = absurd fits
only_reads setup payload past n (Test x slot) fits apart = absurd fits
only_reads setup payload past n (Trim x) fits apart = absurd fits

-- how many that are
pub none-long : (t : Told) → told_bytes t ≡ [] → 0 ≡ handed t
none-long (Plain reply) e = refl
none-long (Hands bytes) e = sym (ap length e)

pub unheard : (bytes : List ℕ) (t : Told) → told_bytes t ≡ [] → bytes ≡ bytes ++ told_bytes t
unheard bytes t e = sym (ap (λ (bs : List ℕ). bytes ++ bs) e ∙ append-nil bytes)

-- the events that fit, the opening of a socket, CLC messages and calls apart
pub leaves : (setup : Setup) (n : ℕ) (event : Event) → Fits setup n event → ((s : ℕ) → event ≡ Open s → ⊥) → ((s : ℕ) (dir : Side) → event ≡ Clc s dir → ⊥)
    → ((end : End) (at len : ℕ) → event ≡ Write end at len → ⊥) → ((end : End) (len : ℕ) → event ≡ Read end len → ⊥) → IsLeaving event
leaves setup n (Open s) fits o c w r = absurd (o s refl)
leaves setup n (Clc s dir) fits o c w r = absurd (c s dir refl)
leaves setup n (Write end at len) fits o c w r = absurd (w end at len refl)
leaves setup n (Read end len) fits o c w r = absurd (r end len refl)
leaves setup n (Deliver slot dir) fits o c w r = fits
leaves setup n (Complete slot dir) fits o c w r = fits
leaves setup n (Raw s at len) fits o c w r = fits
leaves setup n (Finish end) fits o c w r = fits
leaves setup n (Close end) fits o c w r = fits
leaves setup n (Abort end) fits o c w r = fits
leaves setup n (Await end) fits o c w r = fits
leaves setup n (Move end) fits o c w r = fits
leaves setup n (Swallow slot dir) fits o c w r = fits
leaves setup n (Cut slot) fits o c w r = fits
leaves setup n (Heal slot) fits o c w r = fits
leaves setup n (Report x slot) fits o c w r = fits
leaves setup n Grow fits o c w r = fits
leaves setup n (Test x slot) fits o c w r = fits
leaves setup n (Trim x) fits o c w r = fits

-- one of them lands or completes
pub lands-or-completes : (event : Event) → IsLeaving event → ((slot : ℕ) (dir : Side) → event ≡ Deliver slot dir → ⊥) → ((slot : ℕ) (dir : Side) → event ≡ Complete slot dir → ⊥) → ⊥
lands-or-completes (Deliver slot dir) leaving d c = d slot dir refl
lands-or-completes (Complete slot dir) leaving d c = c slot dir refl
lands-or-completes (Open s) leaving d c = leaving
lands-or-completes (Clc s dir) leaving d c = leaving
lands-or-completes (Write end at len) leaving d c = leaving
lands-or-completes (Read end len) leaving d c = leaving
lands-or-completes (Raw s at len) leaving d c = leaving
lands-or-completes (Finish end) leaving d c = leaving
lands-or-completes (Close end) leaving d c = leaving
lands-or-completes (Abort end) leaving d c = leaving
lands-or-completes (Await end) leaving d c = leaving
lands-or-completes (Move end) leaving d c = leaving
lands-or-completes (Swallow slot dir) leaving d c = leaving
lands-or-completes (Cut slot) leaving d c = leaving
lands-or-completes (Heal slot) leaving d c = leaving
lands-or-completes (Report x slot) leaving d c = leaving
lands-or-completes Grow leaving d c = leaving
lands-or-completes (Test x slot) leaving d c = leaving
lands-or-completes (Trim x) leaving d c = leaving
