-- Keys bound and keys learnt, from what lendings, links, flows and messages owe.
mod Agree
mod Asked
mod Asking
mod Bound
mod Covered
mod Deleting
mod Groups
mod Learnt
mod Pairs
mod Tokens
-- so what x has learnt of a confirmed RMB of y on a near link is the key that y bound last, and x finds just that
pub use Rattle.lending_laws.proofs.Keys.Agree.{agrees}
-- the key of an RMB for a link, among keys of which none is twice; and a key that is bound is the one bound last
pub use Rattle.lending_laws.proofs.Keys.Agree.{bound-is, last-is}
-- a side without a group asks for no key
pub use Rattle.lending_laws.proofs.Keys.Asked.{no-ask}
-- an RMB is registered for several links of different slots: it has a key on each
pub use Rattle.lending_laws.proofs.Keys.Asked.{on-have}
-- two links that are not pending are one, where they have one slot
pub use Rattle.lending_laws.proofs.Keys.Asked.{one-slot}
-- the step, request that goes on and request that begins
pub use Rattle.lending_laws.proofs.Keys.Asked.{asked-after}
-- so the answer confirms an RMB with a key for each known link
pub use Rattle.lending_laws.proofs.Keys.Asked.{answers-owed}
-- what a side that asks for keys asks about, and its table and list after it
pub use Rattle.lending_laws.proofs.Keys.Asking.{asked-key, asked-rmb, asked-table, asked-told}
-- of each that is among them
pub use Rattle.lending_laws.proofs.Keys.Bound.{all-where}
-- a bound number stays bound to its RMB for its slot, but for a withdrawal and the group's end; over every list of entries
pub use Rattle.lending_laws.proofs.Keys.Bound.{stays-bound}
-- a key is its own
pub use Rattle.lending_laws.proofs.Keys.Bound.{its-use}
-- the very key stays, where each registering for its slot is for its link
pub use Rattle.lending_laws.proofs.Keys.Bound.{stays-key}
-- a side without a group has no keys
pub use Rattle.lending_laws.proofs.Keys.Bound.{no-group}
-- the binding of a number that is bound
pub use Rattle.lending_laws.proofs.Keys.Bound.{binding-is}
-- that of a number that isn't bound is the earlier one
pub use Rattle.lending_laws.proofs.Keys.Bound.{binding-was}
-- what had begun at a binding is among all lendings
pub use Rattle.lending_laws.proofs.Keys.Bound.{begun-among}
-- after every history in which lendings pay what they owe
pub use Rattle.lending_laws.proofs.Keys.Bound.{are-freed}
-- the law of bound keys with each entry of it
pub use Rattle.lending_laws.proofs.Keys.Bound.{are-bound}
-- the link of a slot is on it, and slots begin with 1
pub use Rattle.lending_laws.proofs.Keys.Covered.{at-is}
-- the step
pub use Rattle.lending_laws.proofs.Keys.Covered.{covered-after}
-- the two words for a member of a list
pub use Rattle.lending_laws.proofs.Keys.Deleting.{in-among}
-- a number among these
pub use Rattle.lending_laws.proofs.Keys.Deleting.{has-among}
-- an RMB of idle numbers is idle
pub use Rattle.lending_laws.proofs.Keys.Deleting.{named-idle}
-- the keys that are withdrawn are of idle RMBs
pub use Rattle.lending_laws.proofs.Keys.Deleting.{withdrawn-idle}
-- after every history
pub use Rattle.lending_laws.proofs.Keys.Deleting.{all-deleting}
-- equal posts of LLC messages have equal messages
pub use Rattle.lending_laws.proofs.Keys.Deleting.{message-of}
-- over every history
pub use Rattle.lending_laws.proofs.Keys.Groups.{of-groups}
-- both tables have one link on the slot of a link that stands near
pub use Rattle.lending_laws.proofs.Keys.Learnt.{near-at}
-- all three of what is learnt
pub use Rattle.lending_laws.proofs.Keys.Learnt.{told-after}
-- as they are posted, each RMB having a key on the link that carries them and on the new one
pub use Rattle.lending_laws.proofs.Keys.Pairs.{pairs-posted}
-- the entry of what is known that a reference names
pub use Rattle.lending_laws.proofs.Keys.Pairs.{known-is}
-- their taker, who knows of a link that stands at x what is bound there, reads them right
pub use Rattle.lending_laws.proofs.Keys.Pairs.{pairs-read}
-- so does what a whole message tells
pub use Rattle.lending_laws.proofs.Keys.Tokens.{tells-stay}
-- a key that a token tells to a side with that table
pub use Rattle.lending_laws.proofs.Keys.Tokens.{token-from}
-- the key of an RMB on a slot
pub use Rattle.lending_laws.proofs.Keys.Tokens.{on-use}
-- a list cut short has only what it had
pub use Rattle.lending_laws.proofs.Keys.Tokens.{cut-among}
-- a CONFIRM RKEY for an RMB that has a key for each of its links tells bound keys, its carrier being one of them
pub use Rattle.lending_laws.proofs.Keys.Tokens.{posts-tell}
-- what a side learns from a request is bound at the side that asked
pub use Rattle.lending_laws.proofs.Keys.Tokens.{told-by-request}
