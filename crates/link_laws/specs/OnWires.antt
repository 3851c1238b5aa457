-- An LLC message that waits on a link.
use Rattle.std.specs.Prelude.{List, ◌≡◌}
use Rattle.history_laws.specs.Words.{Entry, LinkId, Llc, LlcMessage, Placed, Side, unlanded}
use Rattle.history_laws.specs.Lists.{IsAmong}

-- a message of a side waits on a link, not landed
pub record IsWaiting (l : LinkId) (y : Side) (m : LlcMessage) (past : List Entry) : Type 0 where
  pub placed : Placed
  pub among : IsAmong placed (unlanded l y past)
  pub post_is : placed.post ≡ Llc y l m
