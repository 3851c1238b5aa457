-- A message that was written is read again, whatever bytes follow it.
use Rattle.std.proofs.Common.{◌≡◌, ℕ, false, List, ◌++◌, Ok, refl, ap}
use Rattle.clc_wire.specs.declared.header.Kind.TheVariants.{Proposal as ProposalKind, Accept as AcceptKind, Confirm as ConfirmKind, Decline as DeclineKind}
use Rattle.clc_wire.specs.declared.message.ClcMessage.{ClcMessage}
use Rattle.clc_wire.specs.declared.message.ClcMessage.TheVariants.{Proposal, Accept, Confirm, Decline}
use Rattle.clc_wire.specs.Proposal.{proposal_bytes}
use Rattle.clc_wire.specs.Offer.{offer_bytes}
use Rattle.clc_wire.specs.Refusal.{refusal_bytes}
use Rattle.clc_wire.specs.Clc.{Fits, IsMessage, HasNoPrefix, clc_bytes, clc_length, clc_front}
use Rattle.clc_wire.proofs.Places.{goes_on}
use Rattle.clc_wire.proofs.HeaderBack.{front_back}
use Rattle.clc_wire.proofs.ProposalBack as proposal
use Rattle.clc_wire.proofs.OfferBack as offer
use Rattle.clc_wire.proofs.RefusalBack as refusal

pub message_back : (message : ClcMessage) (rest : List ℕ) → IsMessage message → Fits message → HasNoPrefix message
    → clc_front (clc_bytes message ++ rest) ≡ Ok (message, clc_length message)
message_back (Proposal p) rest is fits none =
    let read = proposal.proposal_back p rest is none in
    front_back ProposalKind false (proposal_bytes p) rest (proposal.from_8 p rest) 48 (Proposal p) refl (proposal.begins p rest) read.1
    (goes_on _ p (λ p. Ok (Proposal p)) read.0)
message_back (Accept o) rest is fits none =
    let read = offer.offer_back AcceptKind o rest is fits in
    front_back AcceptKind o.first (offer_bytes AcceptKind o) rest (offer.from_8 o rest) 64 (Accept o) refl (offer.begins AcceptKind o rest) read.1
    (ap (λ o. Ok (Accept o)) read.0)
message_back (Confirm o) rest is fits none =
    let read = offer.offer_back ConfirmKind o rest is fits in
    front_back ConfirmKind o.first (offer_bytes ConfirmKind o) rest (offer.from_8 o rest) 64 (Confirm o) refl (offer.begins ConfirmKind o rest) read.1
    (ap (λ o. Ok (Confirm o)) read.0)
message_back (Decline r) rest is fits none =
    let read = refusal.refusal_back r rest is in
    front_back DeclineKind r.out (refusal_bytes r) rest (refusal.from_8 r rest) 24 (Decline r) refl (refusal.begins r rest) read.1
    (ap (λ r. Ok (Decline r)) read.0)
