-- What a CDC message is that lands where its token names no lending any more.
-- A reader learns here that nothing is lost with it: the end that it was for is over.
use Rattle.std.specs.Prelude.{List, Some, false, true, ℕ, ◌≡◌}
use Rattle.pipe_model.specs.Parts.{CarriesNone}
use Rattle.pipe_model.specs.declared.sent.Sent.{Sent}
use Rattle.history_laws.specs.Words.{Entry, Offered, Setup, Side, group_on, half, has_ended, is_over, offered, other, pipe_of}
use Rattle.history_laws.specs.Wires.{next_to_land}

-- that a message of a side under a token comes late: it is the next of an end whose peer offered that token, the peer's end is over,
-- its group stands, and the message carries no bytes
pub record IsLate (setup : Setup) (payload : List ℕ) (dir : Side) (past : List Entry) (token : ℕ) : Type 0 where
  pub s : ℕ
  pub offer : Offered
  -- Clc: the taker offered the token
  pub offered_is : offered (other dir) s past ≡ Some offer
  -- the message has it
  pub token_is : token ≡ offer.offer.token
  -- Deliver and Complete: it has taken the last of its peer, and its own last has completed
  pub over : is_over (half (other dir) (pipe_of setup payload (group_on s past) s past)) ≡ true
  -- Report and Deliver: no message comes on a link whose group has ended at its taker
  pub stands : has_ended (other dir) (group_on s past) past ≡ false
  -- the message, as its end sent it
  pub sent : Sent
  -- it is the next to land
  pub sent_is : next_to_land (half dir (pipe_of setup payload (group_on s past) s past)) ≡ Some sent
  -- Close, Abort and Move: behind a last snapshot come last ones and validations alone
  pub none : CarriesNone sent
