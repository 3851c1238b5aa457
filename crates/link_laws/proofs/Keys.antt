-- What an entry does to the keys of a side and to what a side has learnt, once for all events; and what is true of keys over every list of entries.
mod Apart
mod BookEntries
mod BookLists
mod Entries
mod Lists
mod Range
mod Wanted
mod WantedFrom
-- no key is so too
pub use Rattle.link_laws.proofs.Keys.Apart.{none-are}
-- nor do keys that are kept
pub use Rattle.link_laws.proofs.Keys.Apart.{filter-are}
-- over every list of entries
pub use Rattle.link_laws.proofs.Keys.Apart.{keys-are}
-- one key an RMB and slot, over every list of entries
pub use Rattle.link_laws.proofs.Keys.BookLists.{book-once}
-- where a learnt key comes from
pub use Rattle.link_laws.proofs.Keys.BookLists.{book-from}
-- a side without a group has learnt nothing, and has confirmed nothing
pub use Rattle.link_laws.proofs.Keys.BookLists.{book-none}
-- nor has it confirmed an RMB
pub use Rattle.link_laws.proofs.Keys.BookLists.{confirmed-none}
-- one RMB more
pub use Rattle.link_laws.proofs.Keys.BookLists.{confirms-from}
-- an RMB that is confirmed after an entry was so, or is confirmed with the entry
pub use Rattle.link_laws.proofs.Keys.BookLists.{confirmed-from}
-- as keys are withdrawn, an RMB that is confirmed after the entry is not of those, or is confirmed with the entry
pub use Rattle.link_laws.proofs.Keys.BookLists.{withdrawn-from}
-- a fact that goes on with each item
pub use Rattle.link_laws.proofs.Keys.Entries.{fold-goes}
-- what one of the items brings about, and the others keep
pub use Rattle.link_laws.proofs.Keys.Entries.{fold-reaches}
-- a CONFIRM RKEY of the side registers
pub use Rattle.link_laws.proofs.Keys.Entries.{post-asks}
-- what one post does to keys: nothing, or an offer of first contact, or a CONFIRM RKEY of the side itself
pub use Rattle.link_laws.proofs.Keys.Entries.{post-goes}
-- the keys after what has landed
pub use Rattle.link_laws.proofs.Keys.Entries.{taken}
-- what has landed: the four steps that change keys
pub use Rattle.link_laws.proofs.Keys.Entries.{act-goes}
-- what is posted: offers of first contact and CONFIRM RKEYs; and all goes with the group
pub use Rattle.link_laws.proofs.Keys.Entries.{posts-go-by}
-- what a CONFIRM RKEY that is posted brings about, `P` being kept by all posts
pub use Rattle.link_laws.proofs.Keys.Entries.{posts-reach}
-- all together
pub use Rattle.link_laws.proofs.Keys.Entries.{keys-after}
-- what is among the second of two lists is among both
pub use Rattle.link_laws.proofs.Keys.Lists.{right-among}
-- the other answer of a test
pub use Rattle.link_laws.proofs.Keys.Lists.{not-of}
-- a test that would give true gives false
pub use Rattle.link_laws.proofs.Keys.Lists.{not-alike}
-- what a test finds, and what it doesn't
pub use Rattle.link_laws.proofs.Keys.Lists.{any-of}
-- no element passes, so this one does not
pub use Rattle.link_laws.proofs.Keys.Lists.{none-of}
-- an element that passes
pub use Rattle.link_laws.proofs.Keys.Lists.{any-found}
-- the first that passes
pub use Rattle.link_laws.proofs.Keys.Lists.{found-is}
-- nothing is found, so none passes
pub use Rattle.link_laws.proofs.Keys.Lists.{found-none}
-- keys that are kept
pub use Rattle.link_laws.proofs.Keys.Lists.{kept-in}
-- what is kept was there and passes
pub use Rattle.link_laws.proofs.Keys.Lists.{kept-from}
-- what is among the first of two lists is among both
pub use Rattle.link_laws.proofs.Keys.Lists.{among-left}
-- a number is that of one key, and so is the use
pub use Rattle.link_laws.proofs.Keys.Lists.{one-number}
-- a key of an RMB and slot passes the test for them
pub use Rattle.link_laws.proofs.Keys.Lists.{use-of}
-- and the test tells both
pub use Rattle.link_laws.proofs.Keys.Lists.{of-use}
-- an RMB and slot are those of one key
pub use Rattle.link_laws.proofs.Keys.Lists.{one-use}
-- the key that an RMB gets as it is registered for a link
pub use Rattle.link_laws.proofs.Keys.Lists.{new_key}
-- the new key stands there
pub use Rattle.link_laws.proofs.Keys.Lists.{registered}
-- what is registered was there, of another RMB or slot, or is that key
pub use Rattle.link_laws.proofs.Keys.Lists.{registered-from}
-- a key of another RMB or slot stays
pub use Rattle.link_laws.proofs.Keys.Lists.{stays-beside}
-- a registering leaves no number twice, and no RMB and slot
pub use Rattle.link_laws.proofs.Keys.Lists.{registers-are}
-- each key keeps number, RMB and slot
pub use Rattle.link_laws.proofs.Keys.Lists.{keeps-use}
-- a key stays, where a link of its slot is its own
pub use Rattle.link_laws.proofs.Keys.Lists.{keeps-key}
-- over every history in which what is registered is in range
pub use Rattle.link_laws.proofs.Keys.Range.{keys-in}
-- a list that is mapped keeps what is in it
pub use Rattle.link_laws.proofs.Keys.Range.{among-map}
-- the loss of a slot
pub use Rattle.link_laws.proofs.Keys.Wanted.{loses-so}
-- a report
pub use Rattle.link_laws.proofs.Keys.Wanted.{reports-so}
-- all events together
pub use Rattle.link_laws.proofs.Keys.WantedFrom.{wanted-from}
