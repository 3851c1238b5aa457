-- While a side's keys are deleted, no element of their RMBs is lent.
use Rattle.std.specs.Prelude.{List, Some, false, true, ℕ, ◌==◌, ◌≡◌, ◌⊎◌}
use Rattle.pipe_model.specs.Posts.{last_delete}
use Rattle.pipe_model.specs.Keys.{deleted}
use Rattle.history_laws.specs.Words.{Entry, Key, Lending, LinkId, LlcMessage, Setup, Side, flow_of, is_dead, is_deleting, keys_of, lent}
use Rattle.history_laws.specs.Lists.{IsAmong}
use Rattle.link_laws.specs.OnWires.{IsWaiting}
use Rattle.link_laws.specs.KeyFlows.{key_kind}

-- no element of an RMB is lent
abbrev pub IsIdleRmb : Setup → List ℕ → Side → ℕ → List Entry → Type 0
IsIdleRmb setup payload x rmb past = (l : Lending) → IsAmong l (lent setup payload x past) → (l.place.rmb == rmb) ≡ false

-- these numbers are no key's, or each that of a key of an RMB none of whose elements is lent
abbrev pub AreIdle : Setup → List ℕ → Side → List ℕ → List Entry → Type 0
AreIdle setup payload x named past = (n : ℕ) → IsAmong n named → (n ≡ 0) ⊎ ((k : Key) × (IsAmong k (keys_of x past).keys × ((k.key ≡ n) × IsIdleRmb setup payload x k.rmb past)))

-- so are the numbers that the last DELETE RKEY of a side named, while its answer is awaited, and those that such a message or its answer
-- names on a link that is not dead
pub record AreDeleting (setup : Setup) (payload : List ℕ) (x : Side) (past : List Entry) : Type 0 where
  pub last : is_deleting (flow_of x past).key ≡ true → (m : LlcMessage) × ((last_delete x past ≡ Some m) × AreIdle setup payload x (deleted m) past)
  pub way : (l : LinkId) (y : Side) (m : LlcMessage) → is_dead l past ≡ false → IsWaiting l y m past → key_kind x (record { from = y; link = l; message = m }) ≡ true → AreIdle setup payload x (deleted m) past
