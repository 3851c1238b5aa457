-- The bytes that a history hands out.
-- A reader learns here what is asked of them beside the entries: each entry adds what its answer gives.
use Rattle.std.specs.Prelude.{◌≡◌, ℕ, List, [], ◌∷◌, ◌++◌}
use Rattle.pipe_model.specs.declared.event.Event.{Event}
use Rattle.pipe_model.specs.declared.setup.Setup.{Setup}
use Rattle.pipe_model.specs.declared.entry.Entry.{Entry}
use Rattle.pipe_model.specs.Calls.{Told, Plain, Hands}
use Rattle.pipe_model.specs.Replies.{told}
use Rattle.pipe_model.specs.Lawful.{claims_bytes, Given}

-- the bytes of an answer
abbrev pub told_bytes : Told → List ℕ
told_bytes (Plain reply) = []
told_bytes (Hands bytes) = bytes

-- the bytes of all answers of a history
abbrev pub all_bytes : Setup → List ℕ → List Entry → List ℕ
all_bytes setup payload [] = []
all_bytes setup payload (e ∷ older) = all_bytes setup payload older ++ told_bytes (told setup payload older e.event)

-- an event after a history adds to the bytes handed out before it those that its answer gives
pub record AddsBytes (setup : Setup) (payload : List ℕ) (past : List Entry) (event : Event) (before heard : List ℕ) : Type 0 where
  pub given : List ℕ
  pub heard_is : heard ≡ before ++ given
  pub given_is : Given (claims_bytes setup payload past event) (told setup payload past event) given

-- these are the bytes that a history hands out
abbrev pub IsHeard : Setup → List ℕ → List Entry → List ℕ → Type 0
IsHeard setup payload [] heard = heard ≡ []
IsHeard setup payload (e ∷ older) heard = (before : List ℕ) × AddsBytes setup payload older e.event before heard × IsHeard setup payload older before
