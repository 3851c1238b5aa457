-- What an entry posts, by kind: the pipes post writes and CDC messages, handshake and flows CLC and LLC messages; and what each kind leaves as it was.
mod Asked
mod Control
mod Data
mod Free
mod PipePosts
mod Spoken
-- of any event
pub use Rattle.history_laws.proofs.Posts.Asked.{all-control}
-- that a post is a CLC or an LLC message
pub use Rattle.history_laws.proofs.Posts.Control.{IsControl}
-- what the pipes post with an entry
pub use Rattle.history_laws.proofs.Posts.Data.{connections-data}
-- posts of the pipes change no fabric
pub use Rattle.history_laws.proofs.Posts.Data.{unseen-after}
-- what is free
pub use Rattle.history_laws.proofs.Posts.Free.{free-append}
-- what a landing makes the flows post
pub use Rattle.history_laws.proofs.Posts.Free.{act-free}
-- posts of pipes, flows and losses offer nothing
pub use Rattle.history_laws.proofs.Posts.Free.{data-free, ready-free, loss-free}
-- lists
pub use Rattle.history_laws.proofs.Posts.PipePosts.{filter_map-flat}
-- the messages that the pipe of a socket gives an end to post
pub use Rattle.history_laws.proofs.Posts.PipePosts.{given}
-- what is nothing for each is nothing in all, and what one socket gives is found among all
pub use Rattle.history_laws.proofs.Posts.PipePosts.{flat-none, met}
-- nothing on a socket
pub use Rattle.history_laws.proofs.Posts.Spoken.{AreWired}
-- they say nothing
pub use Rattle.history_laws.proofs.Posts.Spoken.{says-nothing}
-- they offer nothing
pub use Rattle.history_laws.proofs.Posts.Spoken.{offers-nothing}
-- they begin no group
pub use Rattle.history_laws.proofs.Posts.Spoken.{begins-nothing}
-- posts of the pipes are on links, and so are lists of such posts
pub use Rattle.history_laws.proofs.Posts.Spoken.{data-wired, wired-append}
