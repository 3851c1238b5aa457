-- The handshake of one end: what it waits for, and what each step of it leads to.
-- A reader learns here which message an end takes next, or what has become of it.
use Rattle.std.specs.Prelude.{ℕ, Bool, true, false}
use Rattle.smc_num.specs.declared.Side.{Side}
use Rattle.smc_num.specs.declared.Side.TheVariants.{A, B}
use Rattle.clc_wire.specs.declared.message.ClcMessage.{ClcMessage}
use Rattle.clc_wire.specs.declared.message.ClcMessage.TheVariants.{Accept, Confirm}
use Rattle.pipe_model.specs.declared.reply.Reply.{Reply}
use Rattle.pipe_model.specs.declared.reply.Reply.TheVariants.{Established}
use Rattle.pipe_model.specs.declared.reply.ResetCause.TheVariants.{NoLiveLink, BadStep}
use Rattle.pipe_model.specs.declared.verdict.ClcStep.{ClcStep}
use Rattle.pipe_model.specs.declared.verdict.ClcStep.TheVariants.{SendAccept, SendConfirm, AskKey, Wait, Decline, Fell, Ready, Lost, Wrong}
use Rattle.pipe_model.specs.Connections.{EndState, WaitsProposal, WaitsAnswer, WaitsConfirm, WaitsLink, IsUp, HasFallen, WasReset, NoEnd, after_clc}
use Rattle.clc_handshake.specs.declared.stage.EndState.{EndState as Seen}
use Rattle.clc_handshake.specs.declared.stage.EndState.TheVariants.{Absent, Clc as SeenClc, Link as SeenLink, Up as SeenUp, FellBack as SeenFallen, Reset as SeenReset}
use Rattle.clc_handshake.specs.declared.stage.Stage.{Stage}
use Rattle.clc_handshake.specs.declared.stage.Stage.TheVariants.{Proposal as AwaitsProposal, Answer, Confirm as AwaitsConfirm, Link, Up, FellBack, Reset}

-- an end in its handshake: whether its socket is raw, and what it waits for or what has become of it
pub record Hand : Type 0 where
  pub raw : Bool
  pub state : EndState

-- the state that a stage names
abbrev pub state_of : Stage → EndState
state_of AwaitsProposal = WaitsProposal
state_of Answer = WaitsAnswer
state_of AwaitsConfirm = WaitsConfirm
state_of Link = WaitsLink
state_of Up = IsUp
state_of FellBack = HasFallen
state_of (Reset cause) = WasReset cause

-- what others see of an end; which CLC message it waits for they don't
abbrev pub seen_state : EndState → Seen
seen_state NoEnd = Absent
seen_state WaitsProposal = SeenClc
seen_state WaitsAnswer = SeenClc
seen_state WaitsConfirm = SeenClc
seen_state WaitsLink = SeenLink
seen_state IsUp = SeenUp
seen_state HasFallen = SeenFallen
seen_state (WasReset cause) = SeenReset cause

-- what an end waits for first: at B for a Proposal, at A for the answer to its own
abbrev pub first_state : Side → EndState
first_state A = WaitsAnswer
first_state B = WaitsProposal

-- in first contact a Confirm, sent or taken, is followed by CONFIRM LINK; in later contact the end is up with it
abbrev pub after_confirm : Bool → EndState
after_confirm true = WaitsLink
after_confirm false = IsUp

-- an end that is ready for a message
abbrev pub after_ready : ClcMessage → EndState → EndState
after_ready (Confirm offer) state = after_confirm offer.first
after_ready _ state = state

-- the group that an offer names, 0 where the message is none
abbrev pub named_group : ClcMessage → ℕ
named_group (Accept offer) = offer.psn
named_group (Confirm offer) = offer.psn
named_group _ = 0

-- what an end is after a step with a message; one that waits or asks for a key stays as it is
abbrev pub after_step : ClcStep → ClcMessage → EndState → EndState
after_step (SendAccept first) message state = WaitsConfirm
after_step (SendConfirm first) message state = after_confirm first
after_step AskKey message state = state
after_step (Wait hold) message state = state
after_step (Decline lack) message state = HasFallen
after_step Fell message state = HasFallen
after_step Ready message state = after_ready message state
after_step Lost message state = WasReset (NoLiveLink (named_group message))
after_step (Wrong kind) message state = WasReset (BadStep kind)

-- what a reply tells that the end is then: established, or as its connection says
abbrev pub after_reply : Reply → EndState → EndState
after_reply Established state = IsUp
after_reply reply state = after_clc reply state
