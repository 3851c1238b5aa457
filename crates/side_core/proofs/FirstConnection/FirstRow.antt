-- What each call of the first worked row must find is so: of the plain managers by computation, and so of the sides.
use Rattle.std.proofs.Common.{◌≡◌, ◌∙◌, true, false, [], refl, subst, arith}
use Rattle.smc_num.specs.declared.Side.TheVariants.{A, B}
use Rattle.smc_num.specs.Names.{no_link}
use Rattle.clc_wire.specs.declared.message.ClcMessage.TheVariants.{Accept, Confirm}
use Rattle.llc_wire.specs.declared.LlcMessage.{LlcMessage}
use Rattle.pipe_model.specs.declared.flow.FlowStep.{FlowStep}
use Rattle.pipe_model.specs.declared.flow.LinkView.{LinkView}
use Rattle.pipe_model.specs.Flows.{flow_step}
use Rattle.pipe_model.specs.Messages.{confirm_link}
use Rattle.pipe_model.specs.Ends.{fresh}
use Rattle.conn_end.specs.Kept.{Kept}
use Rattle.side_core.specs.Records.{conn_at}
use Rattle.side_core.specs.Manager.{Manager, Represents}
use Rattle.side_core.specs.Taking.{MayTake}
use Rattle.side_core.specs.Acting.{IsSoundAt, MayConfirm, confirms_link}
use Rattle.side_core.specs.Landing.{CanMake}
use Rattle.side_core.specs.FirstRow.{first_setup, first_link, paths, proposed, a_offer, b_offer, a_open, a_confirmed, a_linked, b_open, b_accepted, b_made, b_ready, b_linked}
use Rattle.side_core.proofs.Managers.{IsSoundHalf, Confirms, take_kept, sound_kept, first_sound_kept, make_kept, confirm_kept, confirm_step}

-- the Proposal may be taken
proposal_may : MayTake 0 proposed no_link paths b_open
proposal_may = record { socket = omega arith; waits = refl; hears = tt; slots = refl; tokens = omega arith; begun = omega arith; serial = omega arith; made = omega arith }

pub may_accept : (v : Manager Kept) → Represents v b_open → MayTake 0 proposed no_link paths v
may_accept v st = take_kept 0 proposed no_link paths v b_open st proposal_may

pub sound_accept : (v : Manager Kept) → Represents v b_open → IsSoundAt v.records.terms.size (conn_at 0 v.records)
sound_accept v st = sound_kept 0 v b_open st tt

-- the Accept may be taken
accept_may : MayTake 0 (Accept b_offer) first_link paths a_open
accept_may = record { socket = omega arith; waits = refl; hears = (record { slot = refl; group = refl; named = refl; rmb = refl; index = omega arith; token = omega arith; within = omega arith; new = refl }, λ e. refl); slots = refl; tokens = omega arith; begun = omega arith; serial = omega arith; made = omega arith }

pub may_confirm : (v : Manager Kept) → Represents v a_open → MayTake 0 (Accept b_offer) first_link paths v
may_confirm v st = take_kept 0 (Accept b_offer) first_link paths v a_open st accept_may

pub sound_confirm : (v : Manager Kept) → Represents v a_open → IsSoundAt v.records.terms.size (conn_at 0 v.records)
sound_confirm v st = sound_kept 0 v a_open st tt

-- the link may be made at the server
pub may_make : (v : Manager Kept) → Represents v b_accepted → CanMake first_link v.desk
may_make v st = make_kept first_link v b_accepted st (record { slot = refl; group = refl; begun = refl; none = refl; next = refl })

-- the Confirm may be taken
confirm_may : MayTake 0 (Confirm a_offer) first_link paths b_made
confirm_may = record { socket = omega arith; waits = refl; hears = (record { slot = refl; group = refl; named = refl; rmb = refl; index = omega arith; token = omega arith; within = omega arith; new = refl }, refl); slots = refl; tokens = tt; begun = omega arith; serial = omega arith; made = omega arith }

pub may_ask : (v : Manager Kept) → Represents v b_made → MayTake 0 (Confirm a_offer) first_link paths v
may_ask v st = take_kept 0 (Confirm a_offer) first_link paths v b_made st confirm_may

-- a new end is sound
new_sound : IsSoundHalf 16384 (record (fresh 1) { live = [] })
new_sound = record { out_few = omega arith; number_few = omega arith; fits = omega arith }

pub sound_ask : (v : Manager Kept) → Represents v b_made → IsSoundAt v.records.terms.size (conn_at 0 v.records)
sound_ask v st = sound_kept 0 v b_made st new_sound

-- what is seen of the slot as the link is confirmed
abbrev pub view : LinkView
view = record { path_up = true; stands_here = true; stands_there = true }

-- CONFIRM LINK
abbrev pub asked : LlcMessage
asked = confirm_link first_setup B false first_link 17

-- the reply to it
abbrev pub answered : LlcMessage
answered = confirm_link first_setup A true first_link 17

-- it may land
asked_confirms : Confirms true asked view first_link a_confirmed
asked_confirms = record { kind = tt; slot = refl; group = refl; latest = refl; step = refl; pending = refl; waits = refl }

pub may_answer : (v : Manager Kept) → Represents v a_confirmed → MayConfirm asked view first_link v
may_answer v st = confirm_kept true asked view first_link v a_confirmed st asked_confirms

pub sound_answer : (v : Manager Kept) → Represents v a_confirmed → IsSoundAt v.records.terms.size (conn_at v.desk.first v.records)
sound_answer v st = first_sound_kept v a_confirmed st new_sound

pub answers : (v w : Manager Kept) (step : FlowStep) → Represents v a_confirmed → step ≡ flow_step v.desk.side v.desk.flow asked view 1 true → Represents w (confirms_link step first_link a_confirmed) → Represents w a_linked
answers v w step st e new = subst (λ s. Represents w (confirms_link s first_link a_confirmed)) (e ∙ confirm_step true asked view first_link v a_confirmed st asked_confirms) new

-- the reply may land
answered_confirms : Confirms false answered view first_link b_ready
answered_confirms = record { kind = tt; slot = refl; group = refl; latest = refl; step = refl; pending = refl; waits = refl }

pub may_establish : (v : Manager Kept) → Represents v b_ready → MayConfirm answered view first_link v
may_establish v st = confirm_kept false answered view first_link v b_ready st answered_confirms

pub sound_establish : (v : Manager Kept) → Represents v b_ready → IsSoundAt v.records.terms.size (conn_at v.desk.first v.records)
sound_establish v st = first_sound_kept v b_ready st new_sound

pub establishes : (v w : Manager Kept) (step : FlowStep) → Represents v b_ready → step ≡ flow_step v.desk.side v.desk.flow answered view 1 true → Represents w (confirms_link step first_link b_ready) → Represents w b_linked
establishes v w step st e new = subst (λ s. Represents w (confirms_link s first_link b_ready)) (e ∙ confirm_step false answered view first_link v b_ready st answered_confirms) new
