-- The bytes that a history hands out, and the histories whose entries are made where so many were handed out before.
-- A reader learns here what is asked of the bytes beside the entries: each entry adds what its answer gives.
use Rattle.std.specs.Prelude.{List, [], length, ℕ, ◌++◌, ◌∷◌, ◌≡◌}
use Rattle.pipe_model.specs.Calls.{Hands, Plain, Told}
use Rattle.pipe_model.specs.Lawful.{Given, claims_bytes}
use Rattle.pipe_model.specs.Replies.{told}
use Rattle.history_laws.specs.Made.{IsMade}
use Rattle.history_laws.specs.Words.{Entry, Event, Setup}

-- the bytes of an answer
abbrev pub told_bytes : Told → List ℕ
told_bytes (Plain reply) = []
told_bytes (Hands bytes) = bytes

-- the bytes of all answers of a history
abbrev pub all_bytes : Setup → List ℕ → List Entry → List ℕ
all_bytes setup payload [] = []
all_bytes setup payload (e ∷ older) = all_bytes setup payload older ++ told_bytes (told setup payload older e.event)

-- an event after a history adds to the bytes handed out before it those that its answer gives
pub record AddsBytes (setup : Setup) (payload : List ℕ) (past : List Entry) (event : Event) (before heard : List ℕ) : Type 0 where
  -- Read hands out bytes, and no other event does
  pub given : List ℕ
  -- they come behind those before them
  pub heard_is : heard ≡ before ++ given
  -- Read: they are those of the answer, where these are claimed
  pub given_is : Given (claims_bytes setup payload past event) (told setup payload past event) given

-- each entry has the reply and the posts that the definitions give where so many bytes were handed out before, and these are the bytes
abbrev pub IsMadeWith : Setup → List ℕ → List Entry → List ℕ → Type 0
IsMadeWith setup payload [] heard = heard ≡ []
IsMadeWith setup payload (e ∷ older) heard = (before : List ℕ) × ((IsMade setup payload older (length before) e × AddsBytes setup payload older e.event before heard) × IsMadeWith setup payload older before)

-- each entry is made where the answers before it handed out so many bytes
abbrev pub IsMadeCounted : Setup → List ℕ → List Entry → Type 0
IsMadeCounted setup payload [] = Unit {0}
IsMadeCounted setup payload (e ∷ older) = IsMade setup payload older (length (all_bytes setup payload older)) e × IsMadeCounted setup payload older
