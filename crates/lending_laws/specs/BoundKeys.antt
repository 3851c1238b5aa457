-- What the law of bound keys hangs on: numbers that were bound and are free, and what lendings owe for them.
use Rattle.std.specs.Prelude.{List, Some, [], false, true, ℕ, ◌∷◌, ◌≡◌, ◌⊎◌}
use Rattle.pipe_model.specs.Keys.{deleted}
use Rattle.history_laws.specs.Words.{Binding, Entry, Lending, Setup, Side, Withdraw, group_of, has, is_done_with, is_used, keys_of, last_binding, lendings, lent, named_rmbs}
use Rattle.history_laws.specs.Lists.{IsAmong}
use Rattle.link_laws.specs.FabricChanges.{Takes}

-- the lendings of the RMB of a binding that had begun by then are done with
abbrev pub IsFreed : Side → Binding → List Entry → Type 0
IsFreed x b past = (l : Lending) → IsAmong l b.begun → l.place.rmb ≡ b.rmb → is_done_with x l past ≡ true

-- each number that was bound and isn't: the lendings of its last RMB that had begun by then are done with
abbrev pub AreFreed : Side → List Entry → Type 0
AreFreed x past = (n : ℕ) (b : Binding) → last_binding x n past ≡ Some b → is_used n (keys_of x past).keys ≡ false → IsFreed x b past

-- what lendings owe, after a history: each that isn't lent is done with, and one that is lent is of the side's group
pub record OwedLendings (setup : Setup) (payload : List ℕ) (x : Side) (past : List Entry) : Type 0 where
  -- Clc, Report, Deliver, Complete and Read end lendings
  pub done : (l : Lending) → IsAmong l (lendings x past) → IsAmong l (lent setup payload x past) ⊎ (is_done_with x l past ≡ true)
  -- Clc begins a group, Report ends one
  pub group : (l : Lending) → IsAmong l (lent setup payload x past) → l.group ≡ group_of x past

-- what they owe with an entry: done with stays, and no element of an RMB is lent whose keys are withdrawn
pub record OwedLendingsWith (setup : Setup) (payload : List ℕ) (x : Side) (e : Entry) (past : List Entry) : Type 0 where
  -- each event: what is done with stays so
  pub stays : (l : Lending) → IsAmong l (lendings x past) → is_done_with x l past ≡ true → is_done_with x l (e ∷ past) ≡ true
  -- Deliver: the answer to DELETE RKEY withdraws the keys that Trim named
  pub idle : (t : Takes x e past Withdraw) (l : Lending) → IsAmong l (lent setup payload x past) → has l.place.rmb (named_rmbs (deleted t.act.message) (keys_of x past).keys) ≡ false

-- both, after each prefix and with each entry
abbrev pub OwedByLendings : Setup → List ℕ → Side → List Entry → Type 0
OwedByLendings setup payload x [] = Unit {0}
OwedByLendings setup payload x (e ∷ past) = OwedLendings setup payload x past × OwedLendingsWith setup payload x e past × OwedByLendings setup payload x past
