-- What comes to the connection of a socket: messages of its peer that land, messages of its own that complete, and what is
-- asked of the bytes that it keeps.
-- A reader learns here what the connection may rely on then.
use Rattle.std.specs.Prelude.{◌≡◌, ◌≤◌, ℕ, ◌+◌, false, length, Option, Some, None}
use Rattle.smc_num.specs.Places.{address_of}
use Rattle.cdc_wire.specs.declared.CdcMessage.{CdcMessage}
use Rattle.clc_wire.specs.declared.offer.Offer.{Offer}
use Rattle.pipe_model.specs.declared.snapshot.Snapshot.{Snapshot}
use Rattle.pipe_model.specs.declared.sent.Sent.{Sent}
use Rattle.pipe_model.specs.Ends.{Half, is_over}
use Rattle.pipe_model.specs.Posts.{offered_place}
use Rattle.conn_end.specs.Kept.{Kept, Represents}
use Rattle.conn_end.specs.Arrivals.{Lands, Completes, MayComplete}
use Rattle.side_core.specs.Records.{Connection}

-- that a message may land at a plain end that is not over
pub record Arrives (k : Kept) (m : CdcMessage) (plain : Snapshot) (h : Half) (sent : Sent) : Type 0 where
  pub lands : Lands k m plain h sent
  pub going : is_over h ≡ false

-- that there is one
pub record MayArrive (k : Kept) (m : CdcMessage) (plain : Snapshot) : Type 0 where
  pub end : Half
  pub sent : Sent
  pub arrives : Arrives k m plain end sent

-- that a message may land at what may be no connection
abbrev pub MayArriveAt : CdcMessage → Snapshot → Option (Connection Kept) → Type 0
MayArriveAt m plain None = ⊥
MayArriveAt m plain (Some k) = MayArrive k.end m plain

-- that one that was sent lands at what may be no connection
abbrev pub ArrivesAt : CdcMessage → Snapshot → Sent → Option (Connection Kept) → Option (Connection Half) → Type 0
ArrivesAt m plain sent (Some k) (Some c) = Arrives k.end m plain c.end sent
ArrivesAt m plain sent _ _ = ⊥

-- that a message of what may be no connection may complete
abbrev pub MayCompleteAt : CdcMessage → Snapshot → Option (Connection Kept) → Type 0
MayCompleteAt m plain None = ⊥
MayCompleteAt m plain (Some k) = MayComplete k.end m plain

-- that one that was sent completes
abbrev pub CompletesAt : CdcMessage → Snapshot → Sent → Option (Connection Kept) → Option (Connection Half) → Type 0
CompletesAt m plain sent (Some k) (Some c) = Completes k.end m plain c.end sent
CompletesAt m plain sent _ _ = ⊥

-- that an address of the peer's element is the place of bytes that an end keeps, the first of which has a place in the stream
pub record IsGoing (size : ℕ) (o : Offer) (k : Kept) (place len : ℕ) (h : Half) (first : ℕ) : Type 0 where
  pub stands : Represents k h
  pub address : place ≡ address_of size (offered_place o) first
  pub from : h.fin.told ≤ first
  pub to : first + len ≤ length h.out

-- that of a connection with a peer
abbrev pub IsGoingTo : ℕ → Option Offer → Kept → ℕ → ℕ → Half → ℕ → Type 0
IsGoingTo size None k address len h first = ⊥
IsGoingTo size (Some o) k address len h first = IsGoing size o k address len h first

-- that of what may be no connection
abbrev pub IsGoingAt : ℕ → Option (Connection Kept) → ℕ → ℕ → Half → ℕ → Type 0
IsGoingAt size None address len h first = ⊥
IsGoingAt size (Some c) address len h first = IsGoingTo size c.route.peer c.end address len h first

-- that there is such a plain end, and such a place
pub record MayGo (size : ℕ) (c : Option (Connection Kept)) (address len : ℕ) : Type 0 where
  pub end : Half
  pub first : ℕ
  pub going : IsGoingAt size c address len end first
