-- What B tells of its keys for a new link, and A's answer, while they are under way.
use Rattle.std.specs.Prelude.{List, Some, [], false, take, true, ℕ, ◌≡◌}
use Rattle.history_laws.specs.Words.{A, AddKeys, B, Entry, Key, LinkId, LlcMessage, NewKey, book_of, flow_of, is_adding, is_dead, keys_of, link_at, named_slot, table_of}
use Rattle.history_laws.specs.Lists.{IsAmong}
use Rattle.link_laws.specs.Linked.{is_open_key}
use Rattle.link_laws.specs.KeyChanges.{HasUse}
use Rattle.link_laws.specs.OnWires.{IsWaiting}
use Rattle.link_laws.specs.StepSays.{is_tell_answer, is_tell_request}
use Rattle.lending_laws.specs.Tokens.{PairsBound, use_of}

-- while B adds a link, no key request of it is out
abbrev pub AreCalm : List Entry → Type 0
AreCalm past = is_adding (flow_of B past).link ≡ true → is_open_key (flow_of B past).key ≡ false

-- the keys for a new link that a message tells
abbrev pub told_new : LlcMessage → List NewKey
told_new (AddKeys reply j count us) = take count us
told_new m = []

-- what B tells on a slot is bound at B: reference and new number to one RMB, and the new number for the very link that B knows on the new slot
pub record TellsNew (on : ℕ) (m : LlcMessage) (past : List Entry) : Type 0 where
  pub pairs : PairsBound on (named_slot m on) (told_new m) (keys_of B past).keys
  pub very : (u : NewKey) → IsAmong u (told_new m) → (k : Key) → IsAmong k (keys_of B past).keys → k.key ≡ u.fresh → (l : LinkId) → link_at (named_slot m on) (table_of B past) ≡ Some l → k.link ≡ l

-- what A answers on a link: the new number is bound at A to each RMB that B knows by the reference on that link
abbrev pub TellsKnown : LinkId → LlcMessage → List Entry → Type 0
TellsKnown l m past = (u : NewKey) → IsAmong u (told_new m) → (k : Key) → IsAmong k (book_of B past) → k.key ≡ u.reference → k.link ≡ l → HasUse (use_of u.fresh k.rmb (named_slot m l.slot)) (keys_of A past).keys

-- so it is on links that are not dead
pub record AreTelling (past : List Entry) : Type 0 where
  -- Deliver: B tells its keys as A answers ADD LINK; Report and Deliver post them again
  pub asks : (l : LinkId) (m : LlcMessage) → is_dead l past ≡ false → IsWaiting l B m past → is_tell_request m ≡ true → TellsNew l.slot m past
  -- Deliver: A answers
  pub answers : (l : LinkId) (m : LlcMessage) → is_dead l past ≡ false → IsWaiting l A m past → is_tell_answer m ≡ true → TellsKnown l m past
