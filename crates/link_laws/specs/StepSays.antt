-- What a step says of its side, its flows and the message that landed: each step is taken for one kind of message, and in one state of the flows.
use Rattle.std.specs.Prelude.{Bool, false, true, ℕ, ◌≡◌}
use Rattle.pipe_model.specs.declared.flow.FlowStep.TheVariants.{Confirmed, Live}
use Rattle.pipe_model.specs.declared.flow.KeyPhase.TheVariants.{Asked}
use Rattle.history_laws.specs.Words.{A, AddKeys, AddLink, AddSeen, AddSent, AskLink, B, ConfirmLink, ConfirmRkey, DeleteLink, DeleteRkey, Deleting, Echo, FlowStep, Forget, Gone, KeyPhase, KeysSent, Learn, LinkFlow, LlcMessage, ReplyAdd, ReplyKeys, ReplyRetry, Retry, SendKeys, Side, TestLink, Withdraw, is_adding, named_slot}

-- the kinds of messages
abbrev pub is_add_request : LlcMessage → Bool
is_add_request (AddLink false rejected reason mac gid qp k mtu psn) = true
is_add_request m = false

abbrev pub is_add_answer : LlcMessage → Bool
is_add_answer (AddLink true rejected reason mac gid qp k mtu psn) = true
is_add_answer m = false

abbrev pub is_tell_request : LlcMessage → Bool
is_tell_request (AddKeys false j count keys) = true
is_tell_request m = false

abbrev pub is_tell_answer : LlcMessage → Bool
is_tell_answer (AddKeys true j count keys) = true
is_tell_answer m = false

abbrev pub is_ask_request : LlcMessage → Bool
is_ask_request (ConfirmRkey false retry negative others tokens) = true
is_ask_request m = false

abbrev pub is_ask_answer : LlcMessage → Bool
is_ask_answer (ConfirmRkey true retry negative others tokens) = true
is_ask_answer m = false

abbrev pub is_delete_request : LlcMessage → Bool
is_delete_request (DeleteRkey false negative count mask keys) = true
is_delete_request m = false

abbrev pub is_delete_answer : LlcMessage → Bool
is_delete_answer (DeleteRkey true negative count mask keys) = true
is_delete_answer m = false

abbrev pub is_drop_message : LlcMessage → Bool
is_drop_message (DeleteLink reply every orderly k reason) = true
is_drop_message m = false

abbrev pub is_test_message : LlcMessage → Bool
is_test_message (TestLink reply bytes) = true
is_test_message m = false

abbrev pub is_confirm_message : LlcMessage → Bool
is_confirm_message (ConfirmLink reply mac gid qp k user most) = true
is_confirm_message m = false

-- what a step says
abbrev pub StepSays : Side → LinkFlow → KeyPhase → LlcMessage → ℕ → FlowStep → Type 0
StepSays x link key m landed (Live reply first) = is_confirm_message m ≡ true
StepSays x link key m landed SendKeys = (x ≡ B) × ((is_add_answer m ≡ true) × ((on : ℕ) × (link ≡ AddSent (named_slot m landed) on)))
StepSays x link key m landed AskLink = (x ≡ B) × ((is_tell_answer m ≡ true) × ((on : ℕ) × (link ≡ KeysSent (named_slot m landed) on)))
StepSays x link key m landed (ReplyKeys true) = (x ≡ A) × ((is_tell_request m ≡ true) × (link ≡ AddSeen (named_slot m landed)))
StepSays x link key m landed (ReplyKeys false) = (x ≡ A) × (is_tell_request m ≡ true)
StepSays x link key m landed (ReplyAdd again) = (x ≡ A) × (is_add_request m ≡ true)
StepSays x link key m landed ReplyRetry = (x ≡ B) × ((is_ask_request m ≡ true) × (is_adding link ≡ true))
StepSays x link key m landed Learn = (is_ask_request m ≡ true) × (x ≡ B → is_adding link ≡ false)
StepSays x link key m landed Confirmed = (is_ask_answer m ≡ true) × (key ≡ Asked)
StepSays x link key m landed Retry = (is_ask_answer m ≡ true) × (key ≡ Asked)
StepSays x link key m landed Withdraw = (is_delete_answer m ≡ true) × (key ≡ Deleting)
StepSays x link key m landed Forget = is_delete_request m ≡ true
StepSays x link key m landed (Gone report) = is_drop_message m ≡ true
StepSays x link key m landed Echo = is_test_message m ≡ true
StepSays x link key m landed step = Unit {0}
