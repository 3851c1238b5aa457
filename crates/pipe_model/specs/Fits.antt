-- Which events a world takes.
-- A reader learns here what an actor must keep to: known sockets, known slots, bytes of the payload.
use Rattle.std.specs.Prelude.{◌≡◌, ℕ, ◌+◌, ◌<◌, ◌≤◌}
use Rattle.pipe_model.specs.declared.setup.Setup.{Setup}
use Rattle.pipe_model.specs.declared.event.Event.{Event}
use Rattle.pipe_model.specs.declared.event.Event.TheVariants.{Open, Clc, Write, Read, Deliver, Complete}

-- sockets are below their number, the slot is the one that is built, and the bytes lie in a payload
-- of so many; no other event is built
-- ours: what an actor must keep to
abbrev pub Fits : Setup → ℕ → Event → Type 0
Fits setup payload (Open s) = s < setup.sockets
Fits setup payload (Clc s dir) = s < setup.sockets
Fits setup payload (Write end at len) = (end.s < setup.sockets) × (at + len ≤ payload)
Fits setup payload (Read end len) = end.s < setup.sockets
Fits setup payload (Deliver slot dir) = slot ≡ 1
Fits setup payload (Complete slot dir) = slot ≡ 1
Fits setup payload _ = ⊥
