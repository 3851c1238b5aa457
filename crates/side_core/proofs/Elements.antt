-- Elements and offers: what is free, lent and given back, what a verdict tells of its side, and the posts of an offer.
mod Beginning
mod Counting
mod Loans
mod Offering
mod OneRmb
mod Verdicts
-- the offer of a side that has begun a group is the new one
pub use Rattle.side_core.proofs.Elements.Beginning.{begun_offer}
-- a number that is not 0
pub use Rattle.side_core.proofs.Elements.Counting.{above_none}
-- two lists that pass alike have the first that passes at the same place
pub use Rattle.side_core.proofs.Elements.Counting.{alike_position}
-- how many elements are free
pub use Rattle.side_core.proofs.Elements.Counting.{free_count}
-- what there is, is something
pub use Rattle.side_core.proofs.Elements.Counting.{is_there}
-- the key of the RMB of the lowest free element is known, where that of the one RMB is
pub use Rattle.side_core.proofs.Elements.Counting.{key_known}
-- where some are free there is a first one
pub use Rattle.side_core.proofs.Elements.Counting.{some_free}
-- elements that are lent to different connections are apart
pub use Rattle.side_core.proofs.Elements.Loans.{apart}
-- and how often each was lent, up to one
pub use Rattle.side_core.proofs.Elements.Loans.{epochs_stay}
-- the first free element of a side with one RMB is one of its elements
pub use Rattle.side_core.proofs.Elements.Loans.{first_among}
-- one less is free where the first free one is lent
pub use Rattle.side_core.proofs.Elements.Loans.{one_less}
-- and one more where an element is given back
pub use Rattle.side_core.proofs.Elements.Loans.{one_more}
-- a change of an element leaves its place
pub use Rattle.side_core.proofs.Elements.Loans.{places_stay}
-- the post of an Accept, in other words for its offer
pub use Rattle.side_core.proofs.Elements.Offering.{accept_post}
-- and of a Confirm
pub use Rattle.side_core.proofs.Elements.Offering.{confirm_post}
-- the first free element of a side with one RMB is in it
pub use Rattle.side_core.proofs.Elements.OneRmb.{first_in_one}
-- the one live link of one slot is the lightest
pub use Rattle.side_core.proofs.Elements.OneRmb.{one_live}
-- what a step tells of the state of the end and of the facts of its side
pub use Rattle.side_core.proofs.Elements.Verdicts.{Tells}
-- what holds of either, holds of what a condition chooses
pub use Rattle.side_core.proofs.Elements.Verdicts.{by_if}
-- what the verdict on a message tells
pub use Rattle.side_core.proofs.Elements.Verdicts.{told}
