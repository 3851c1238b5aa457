-- What a shelf ends as, where a `&mut` to one of its records is returned.
-- A reader learns here that only the record of that socket changes.
use Rattle.std.specs.Prelude.{ℕ, Some}
use Rattle.std.specs.Borrow.{MutBor, Fml, Lends}
use Rattle.side_core.specs.Slots.{Slots, conn_of, with_slot}
use Rattle.side_core.specs.declared.record.Record.{Record}
use Rattle.side_core.specs.contracts.record.Record.{the_row as record_row}
use Rattle.side_core.specs.contracts.shelf.Shelf.{the_row}

-- the shelf ends with the last record written through r at a socket
abbrev pub LendsRecord : MutBor Slots → ℕ → MutBor Record → Fml
LendsRecord v s r = Lends the_row record_row v r (λ w. with_slot s (Some (conn_of w)) v.now)
