-- Tables by socket: records in their slab, tokens, handshakes, and what a change at one socket leaves at the others.
mod Acts
mod Arriving
mod Halves
mod Hands
mod Seats
mod Shelving
mod Tables
mod Tokens
-- something is done to an end
pub use Rattle.side_core.proofs.Sockets.Acts.{acts_fit}
-- or goes on over TCP alone
pub use Rattle.side_core.proofs.Sockets.Acts.{falls_fit}
-- the client makes a link
pub use Rattle.side_core.proofs.Sockets.Acts.{makes_fit}
-- an end begins its handshake
pub use Rattle.side_core.proofs.Sockets.Acts.{opens_fit}
-- that a message of a plain end may come
pub use Rattle.side_core.proofs.Sockets.Arriving.{Comes}
-- that one may complete
pub use Rattle.side_core.proofs.Sockets.Arriving.{Ends}
-- a socket that a token of the peer names has a connection
pub use Rattle.side_core.proofs.Sockets.Arriving.{aimer_there}
-- bytes that land leave a side fit
pub use Rattle.side_core.proofs.Sockets.Arriving.{bytes_kept}
-- a message that may land finds its connection, and the plain one of that
pub use Rattle.side_core.proofs.Sockets.Arriving.{comes, comes_there}
-- so does one that may complete
pub use Rattle.side_core.proofs.Sockets.Arriving.{ends, ends_there}
-- two values that are the same there are the same
pub use Rattle.side_core.proofs.Sockets.Arriving.{some_same}
-- the one that is found
pub use Rattle.side_core.proofs.Sockets.Hands.{hand_found}
-- a handshake in the place of another leaves a side fit
pub use Rattle.side_core.proofs.Sockets.Hands.{hand_kept}
-- a manager with other handshakes
pub use Rattle.side_core.proofs.Sockets.Hands.{handed}
-- one of them becomes another one
pub use Rattle.side_core.proofs.Sockets.Hands.{hands_set}
-- none at all sockets
pub use Rattle.side_core.proofs.Sockets.Hands.{no_hands_are}
-- a plain manager with other handshakes
pub use Rattle.side_core.proofs.Sockets.Hands.{works_hand}
-- all fits together in a manager, but for the state of the end of a socket
pub use Rattle.side_core.proofs.Sockets.Seats.{IsSeated}
-- what holds of the tables of a desk by its group: none before first contact, and later a confirmed RMB and a live link
pub use Rattle.side_core.proofs.Sockets.Seats.{IsTable}
-- what a socket finds after a change of its own
pub use Rattle.side_core.proofs.Sockets.Seats.{changed_here}
-- what fits at all sockets but one, and suits there, fits
pub use Rattle.side_core.proofs.Sockets.Seats.{fits}
-- the route of the connection that is changed
pub use Rattle.side_core.proofs.Sockets.Seats.{route_changed}
-- and of all others
pub use Rattle.side_core.proofs.Sockets.Seats.{route_elsewhere}
-- what fits, fits at all sockets but one
pub use Rattle.side_core.proofs.Sockets.Seats.{seated}
-- and where that one's state suits its connection, all fits
pub use Rattle.side_core.proofs.Sockets.Seats.{sits}
-- other records with the same connections at all sockets but one, and elements at that
pub use Rattle.side_core.proofs.Sockets.Seats.{with_records}
-- a desk with other tables
pub use Rattle.side_core.proofs.Sockets.Seats.{with_tables}
-- what a socket finds under its key
pub use Rattle.side_core.proofs.Sockets.Shelving.{finds}
-- the key of a socket that has a record
pub use Rattle.side_core.proofs.Sockets.Shelving.{key_here}
-- the length that the sockets' keys have
pub use Rattle.side_core.proofs.Sockets.Shelving.{key_within}
-- no records
pub use Rattle.side_core.proofs.Sockets.Shelving.{no_records_found}
-- a shelf owns its slots after a record is put in or taken out
pub use Rattle.side_core.proofs.Sockets.Shelving.{put_owns, take_owns}
-- and has the record, or no longer
pub use Rattle.side_core.proofs.Sockets.Shelving.{put_slots, take_slots}
-- what a shelf shows once a record was written
pub use Rattle.side_core.proofs.Sockets.Shelving.{written}
-- a connection that learns of its peer
pub use Rattle.side_core.proofs.Sockets.Tables.{filed_aimed}
-- the last idle record is made for the terms
pub use Rattle.side_core.proofs.Sockets.Tables.{last_made}
-- a connection learns of its peer, whose token named no connection
pub use Rattle.side_core.proofs.Sockets.Tables.{table_aimed}
-- a connection begins with the next token
pub use Rattle.side_core.proofs.Sockets.Tables.{table_begun}
-- a connection changes
pub use Rattle.side_core.proofs.Sockets.Tables.{table_changed}
-- a connection leaves, and its end is spare again
pub use Rattle.side_core.proofs.Sockets.Tables.{table_left}
-- the socket that a token of the peer names, or none
pub use Rattle.side_core.proofs.Sockets.Tokens.{aimer_is, aimer_none}
-- and that a token of the side names
pub use Rattle.side_core.proofs.Sockets.Tokens.{holder_is, holder_none}
-- the last token names the last socket
pub use Rattle.side_core.proofs.Sockets.Tokens.{named_last}
-- where nothing was found, nothing passes
pub use Rattle.side_core.proofs.Sockets.Tokens.{none_found}
-- where at most one may pass
pub use Rattle.side_core.proofs.Sockets.Tokens.{one_may_pass}
