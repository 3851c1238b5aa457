-- What is under way of a side's key flow: a CONFIRM RKEY or a DELETE RKEY, or its answer, on the link that carries the request.
use Rattle.std.specs.Prelude.{Bool, List, Option, Some, false, true, ℕ, ◌&&◌, ◌==◌, ◌≡◌}
use Rattle.history_laws.specs.Words.{ConfirmRkey, DeleteRkey, Entry, Flow, LlcMessage, Side, flow_of, is_asked, is_deleting, other, same_side}
use Rattle.link_laws.specs.Linked.{Under}
use Rattle.link_laws.specs.UnderWay.{AreCarriedOf}

-- what such a message on the link of a slot says of the flows of the side that asked
abbrev pub key_fits : ℕ → LlcMessage → Flow → Bool
key_fits slot (ConfirmRkey reply retry negative others tokens) f = is_asked f.key && (f.on == slot)
key_fits slot (DeleteRkey reply negative count mask keys) f = is_deleting f.key && (f.on == slot)
key_fits slot m f = false

-- a request of a flow is sent by its side, the reply by the other
abbrev pub sender_in : Bool → Side → Side
sender_in false x = x
sender_in true x = other x

-- whether a message of that sender is of the key flow of a side
abbrev pub is_key_of : Side → Side → LlcMessage → Bool
is_key_of x from (ConfirmRkey reply retry negative others tokens) = same_side from (sender_in reply x)
is_key_of x from (DeleteRkey reply negative count mask keys) = same_side from (sender_in reply x)
is_key_of x from m = false

-- the messages of the key flow of a side
abbrev pub key_kind : Side → Under → Bool
key_kind x w = is_key_of x w.from w.message

-- on links that are not dead nothing of a side's key flow is under way but one message, and that fits the side's flows
pub record HasKeyFlow (x : Side) (past : List Entry) : Type 0 where
  -- what is under way of it
  pub under : Option Under
  -- Clc, Trim, Report and Deliver post its messages
  pub carried : AreCarriedOf (key_kind x) past under
  -- Report posts it again on another link; Deliver of the answer frees the flow
  pub fits : (w : Under) → under ≡ Some w → key_fits w.link.slot w.message (flow_of x past) ≡ true
