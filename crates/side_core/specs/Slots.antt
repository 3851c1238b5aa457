-- The records of connections by socket, as a slab holds them.
-- A reader learns here which record a socket's key finds, and what a `&mut` to a record leaves behind.
use Rattle.std.specs.Prelude.{◌≡◌, ℕ, ◌-◌, List, map, slice_index_or, slice_set, Option, Some, None, option_map}
use Rattle.slab.specs.Slab.{Slab, slab_len}
use Rattle.conn_end.specs.Kept.{Kept}
use Rattle.side_core.specs.Records.{Connection}
use Rattle.side_core.specs.declared.record.Record.{Record}
use Rattle.side_core.specs.declared.shelf.Held.{Held}

-- records by socket, none where a socket has no connection, how many more there is room for, and how many there may be
pub record Slots : Type 0 where
  pub slots : List (Option (Connection Kept))
  pub room : ℕ
  pub capacity : ℕ

-- the connection of a record
abbrev pub conn_of : Record → Connection Kept
conn_of r = record { route = r.route; end = r.end }

-- the connection that a key finds
abbrev pub found : List (Option Held) → Option ℕ → Option (Connection Kept)
found held None = None
found held (Some key) = option_map (λ h. conn_of h.record) (slice_index_or held key None)

-- what a slab of records and the sockets' keys show
abbrev pub slots_of : Slab Held → List (Option ℕ) → Slots
slots_of held keys = record { slots = map (found held.slots) keys; room = held.capacity - slab_len held; capacity = held.capacity }

-- the record of a socket
abbrev pub slot_at : ℕ → Slots → Option (Connection Kept)
slot_at s v = slice_index_or v.slots s None

-- that a slot holds the record of a socket
abbrev pub IsOf : ℕ → Option Held → Type 0
IsOf s None = ⊥
IsOf s (Some h) = h.s ≡ s

-- that a key finds the record of a socket
abbrev pub IsKeyOf : List (Option Held) → ℕ → Option ℕ → Type 0
IsKeyOf held s None = Unit {0}
IsKeyOf held s (Some key) = IsOf s (slice_index_or held key None)

-- that each socket's key finds its own record
abbrev pub IsShelf : Slab Held → List (Option ℕ) → Type 0
IsShelf held keys = (s : ℕ) → IsKeyOf held.slots s (slice_index_or keys s None)

-- the record of a socket becomes another one
abbrev pub with_slot : ℕ → Option (Connection Kept) → Slots → Slots
with_slot s c v = record v { slots = slice_set v.slots s c }
