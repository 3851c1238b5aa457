-- CLC messages: their spelling, and what stands at the front of bytes.
use Rattle.std.specs.Prelude.{◌≡◌, ℕ, List, Result, Ok}
use Rattle.clc_wire.specs.declared.fault.ClcFault.{ClcFault}
use Rattle.clc_wire.specs.declared.header.Kind.{Kind}
use Rattle.clc_wire.specs.declared.header.Kind.TheVariants.{Proposal as ProposalKind, Accept as AcceptKind, Confirm as ConfirmKind, Decline as DeclineKind}
use Rattle.clc_wire.specs.declared.header.Header.{Header}
use Rattle.clc_wire.specs.declared.message.ClcMessage.{ClcMessage}
use Rattle.clc_wire.specs.declared.message.ClcMessage.TheVariants.{Proposal, Accept, Confirm, Decline}
use Rattle.clc_wire.specs.Reading.{◌>>=◌}
use Rattle.clc_wire.specs.Header.{written_length, header_at, trailer_at}
use Rattle.clc_wire.specs.Proposal.{IsProposal, proposal_bytes, proposal_at}
use Rattle.clc_wire.specs.Offer.{IsOffer, OfferFits, offer_bytes, offer_at}
use Rattle.clc_wire.specs.Refusal.{IsRefusal, refusal_bytes, refusal_at}

-- the fields of 24 and of 4 bits fit
-- after RFC 7609, A.2
abbrev pub Fits : ClcMessage → Type 0
Fits (Proposal p) = Unit {0}
Fits (Accept o) = OfferFits o
Fits (Confirm o) = OfferFits o
Fits (Decline r) = Unit {0}

-- the fields have the widths of their types
-- after RFC 7609, A.2
abbrev pub IsMessage : ClcMessage → Type 0
IsMessage (Proposal p) = IsProposal p
IsMessage (Accept o) = IsOffer o
IsMessage (Confirm o) = IsOffer o
IsMessage (Decline r) = IsRefusal r

-- a Proposal names no IPv6 prefix, since none is written
-- ours: subnets are compared by IPv4 alone
abbrev pub HasNoPrefix : ClcMessage → Type 0
HasNoPrefix (Proposal p) = p.v6 ≡ 0
HasNoPrefix (Accept o) = Unit {0}
HasNoPrefix (Confirm o) = Unit {0}
HasNoPrefix (Decline r) = Unit {0}

-- the one spelling of a message
-- after RFC 7609, A.2
abbrev pub clc_bytes : ClcMessage → List ℕ
clc_bytes (Proposal p) = proposal_bytes p
clc_bytes (Accept o) = offer_bytes AcceptKind o
clc_bytes (Confirm o) = offer_bytes ConfirmKind o
clc_bytes (Decline r) = refusal_bytes r

-- the length of a message, as it is written
-- after RFC 7609, A.2
abbrev pub clc_length : ClcMessage → ℕ
clc_length (Proposal p) = written_length ProposalKind
clc_length (Accept o) = written_length AcceptKind
clc_length (Confirm o) = written_length ConfirmKind
clc_length (Decline r) = written_length DeclineKind

-- the message of this header
-- after RFC 7609, A.2
abbrev pub message_at : Header → List ℕ → Result ClcMessage ClcFault
message_at h bytes = fields h.kind
  where
    fields : Kind → Result ClcMessage ClcFault
    fields ProposalKind = proposal_at h.length bytes >>= λ p. Ok (Proposal p)
    fields AcceptKind = Ok (Accept (offer_at h.mark bytes))
    fields ConfirmKind = Ok (Confirm (offer_at h.mark bytes))
    fields DeclineKind = Ok (Decline (refusal_at h.mark bytes))

-- the message at the front of the bytes and its length, or the first fault by place
-- after RFC 7609, A.2; the order of faults is ours
unfoldable pub clc_front : List ℕ → Result (ClcMessage × ℕ) ClcFault
clc_front bytes = do
  header ← header_at bytes
  message ← message_at header bytes
  trailer ← trailer_at header.length bytes
  Ok (message, header.length)
