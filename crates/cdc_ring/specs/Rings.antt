-- The send ring of one end of a connection, in plain counts of the bytes that went through it. A reader learns here how
-- large the window is, which bytes are to be posted, and what each call makes of the counts.
use Rattle.std.specs.Prelude.{ℕ, ◌+◌, ◌-◌, ◌%◌, ◌<◌, ◌≤◌, ◌==◌, nat_lt, min, if◌then◌else◌, List, [], ◌∷◌, ◌++◌, length, take, drop, filter}
use Rattle.cdc_ring.specs.declared.Piece.{Piece}

-- A ring over an element of `size` bytes: how many bytes have completed, the accepted bytes behind those, how many bytes
-- were posted in all at each posting that has not completed, and how many the peer has read
pub record Ring : Type 0 where
  pub size : ℕ
  pub completed : ℕ
  pub bytes : List ℕ
  pub posted : List ℕ
  pub acked : ℕ

-- a ring that has accepted nothing
abbrev pub fresh : ℕ → Ring
fresh size = record { size = size; completed = 0; bytes = []; posted = []; acked = 0 }

-- how many bytes were accepted in all
abbrev pub accepted : Ring → ℕ
accepted ring = ring.completed + length ring.bytes

-- the last of the places, or the one before them
abbrev pub last_from : ℕ → List ℕ → ℕ
last_from from [] = from
last_from from (place ∷ places) = last_from place places

-- up to where the bytes are posted
abbrev pub last_posted : Ring → ℕ
last_posted ring = last_from ring.completed ring.posted

-- how many bytes more it may accept: what is neither read by the peer nor completed fills the element
abbrev pub window : Ring → ℕ
window ring = ring.size - (accepted ring - min ring.acked ring.completed)

-- the front of the bytes that fits the window is accepted
abbrev pub accepts : List ℕ → Ring → Ring
accepts bytes ring = record ring { bytes = ring.bytes ++ take (window ring) bytes }

-- how many bytes are to be posted
abbrev pub unposted : Ring → ℕ
unposted ring = accepted ring - last_posted ring

-- where they go in the element: up to its end, and the rest from its start
abbrev pub front_piece : Ring → Piece
front_piece ring = let place = last_posted ring % ring.size in record { place = place; len = min (unposted ring) (ring.size - place) }

abbrev pub back_piece : Ring → Piece
back_piece ring = record { place = 0; len = unposted ring - (front_piece ring).len }

-- all accepted bytes are posted
abbrev pub posts : Ring → Ring
posts ring = if unposted ring == 0 then ring else record ring { posted = ring.posted ++ accepted ring ∷ [] }

-- the bytes up to a place have completed
abbrev pub completes : ℕ → Ring → Ring
completes place ring = record ring { completed = place; bytes = drop (place - ring.completed) ring.bytes; posted = filter (λ p. nat_lt place p) ring.posted }

-- the peer has read the bytes up to a place
abbrev pub acks : ℕ → Ring → Ring
acks place ring = record ring { acked = place }

-- what is not completed is to be posted again
abbrev pub rewinds : Ring → Ring
rewinds ring = record ring { posted = [] }

-- the bytes of a piece whose first byte has a place in the stream
abbrev pub held_at : ℕ → ℕ → Ring → List ℕ
held_at from len ring = take len (drop (from - ring.completed) ring.bytes)

-- places that rise from one place up to another
abbrev pub Rises : ℕ → List ℕ → ℕ → Type 0
Rises from [] to = from ≤ to
Rises from (place ∷ places) to = (from < place) × Rises place places to

-- what holds of every ring: the postings rise from the completed bytes up to the accepted ones, the peer has read no more
-- than these, and what is neither read nor completed fits the element
pub record IsSound (ring : Ring) : Type 0 where
  pub some : 0 < ring.size
  pub posted : Rises ring.completed ring.posted (accepted ring)
  pub acked : ring.acked ≤ accepted ring
  pub window : accepted ring ≤ min ring.acked ring.completed + ring.size
