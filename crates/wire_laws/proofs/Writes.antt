-- Each write that waits to land: whose it is, which element it goes to, and under which key; so each that lands is home.
mod Aimed
mod Batches
mod Bound
mod Confirmed
mod Groups
mod Home
mod Lent
mod NewWrites
-- its message stands behind it; and it goes into an element that the peer has lent
pub use Rattle.wire_laws.proofs.Writes.Lent.{goes-to-lent, has-message}
-- the RMB of each element that is lent is confirmed
pub use Rattle.wire_laws.proofs.Writes.Confirmed.{lent-confirmed}
-- and under a key that is bound there, where the link stands
pub use Rattle.wire_laws.proofs.Writes.Bound.{goes-under-bound}
-- each write that lands is home
pub use Rattle.wire_laws.proofs.Writes.Home.{lands-home}
-- what would land on a slot is first on a link that is not dead, which stands at both sides
pub use Rattle.wire_laws.proofs.Writes.Home.{alive-stands, lands-at}
-- the posts on a link are its side's own; and the lending that an offer begins
pub use Rattle.wire_laws.proofs.Writes.Lent.{each-behind, lending-begun, long-map, on-wire-at, token-is}
-- a write that waits is of an end that is up and on that link, into the element that its peer has offered
pub use Rattle.wire_laws.proofs.Writes.Aimed.{Aims, IsAimed, IsNews, News, aim-one-at, aim-stays-at, all-aimed, each-split, few, news-of, then-is, turns}
-- places behind which posts stand
pub use Rattle.wire_laws.proofs.Writes.NewWrites.{behind-at, drop-behind, entry-new}
-- the writes of a message, with what stands behind them
pub use Rattle.wire_laws.proofs.Writes.Batches.{BatchTells, CarriesOn, EachBefore, Tells, PostsOf, batch-tells, flat-append, later-behind, none-behind}
-- the element of a write is lent, and its key is bound to the RMB of that alone
pub use Rattle.wire_laws.proofs.Writes.Bound.{AreBoundAt, IsBoundFor, all-bound-at, is-lent, once}
-- what is plain of offers, links and ends
pub use Rattle.wire_laws.proofs.Writes.Groups.{plain-of}
-- the link on which an end comes up is of the group of its connection; and all that holds of wires, pipes and links of ends
pub use Rattle.wire_laws.proofs.Writes.Groups.{comes-group, holds-of}
-- the link of an end that is up, where its peer's side has it too, is live, and the group has not ended there
pub use Rattle.wire_laws.proofs.Writes.Groups.{IsShared, shared}
