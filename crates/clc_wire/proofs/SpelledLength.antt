-- How long the spellings are.
use Rattle.std.proofs.Common.{◌≡◌, ◌+◌, ◌*◌, ℕ, false, List, [], ◌∷◌, ◌++◌, length, arith, length-append}
use Rattle.byteorder.specs.Endian.{big_bytes}
use Rattle.clc_wire.specs.declared.header.Kind.{Kind}
use Rattle.clc_wire.specs.declared.header.Kind.TheVariants.{Proposal as ProposalKind, Accept as AcceptKind, Confirm as ConfirmKind, Decline as DeclineKind}
use Rattle.clc_wire.specs.declared.proposal.Proposal.{Proposal}
use Rattle.clc_wire.specs.declared.offer.Offer.{Offer}
use Rattle.clc_wire.specs.declared.refusal.Refusal.{Refusal}
use Rattle.clc_wire.specs.declared.message.ClcMessage.{ClcMessage}
use Rattle.clc_wire.specs.declared.message.ClcMessage.TheVariants.{Proposal as AProposal, Accept, Confirm, Decline}
use Rattle.clc_wire.specs.Header.{eye_catcher, header_bytes}
use Rattle.clc_wire.specs.Proposal.{IsProposal, proposal_bytes}
use Rattle.clc_wire.specs.Offer.{IsOffer, offer_bytes}
use Rattle.clc_wire.specs.Refusal.{IsRefusal, refusal_bytes}
use Rattle.clc_wire.specs.Clc.{IsMessage, clc_bytes, clc_length}

-- the lengths of parts add up
parts_5 : (h a b c d : List ℕ) → length (h ++ a ++ b ++ c ++ d) ≡ length h + length a + length b + length c + length d
parts_5 h a b c d = simp length-append

parts_10 : (h a b c d e f g i j : List ℕ) → length (h ++ a ++ b ++ c ++ d ++ e ++ f ++ g ++ i ++ j)
    ≡ length h + length a + length b + length c + length d + length e + length f + length g + length i + length j
parts_10 h a b c d e f g i j = simp length-append

parts_14 : (h a b c d e f g i j k l m n : List ℕ) → length (h ++ a ++ b ++ c ++ d ++ e ++ f ++ g ++ i ++ j ++ k ++ l ++ m ++ n)
    ≡ length h + length a + length b + length c + length d + length e + length f + length g + length i + length j + length k + length l + length m + length n
parts_14 h a b c d e f g i j k l m n = simp length-append

proposal_length : (p : Proposal) → IsProposal p → length (proposal_bytes p) ≡ 52
unfolding proposal_bytes
proposal_length p is =
    let sum = parts_10 (header_bytes ProposalKind false) p.peer p.gid p.mac (big_bytes 2 0) (big_bytes 4 p.subnet) (p.prefix ∷ []) (big_bytes 2 0) (0 ∷ []) eye_catcher in
    omega (arith, sum, is.0, is.1, is.2)

offer_length : (kind : Kind) (o : Offer) → IsOffer o → length (offer_bytes kind o) ≡ 68
unfolding offer_bytes
offer_length kind o is =
    let sum = parts_14 (header_bytes kind o.first) o.peer o.gid o.mac (big_bytes 3 o.qp) (big_bytes 4 o.key) (o.index ∷ []) (big_bytes 4 o.token)
    ((o.size * 16 + o.mtu) ∷ []) (0 ∷ []) (big_bytes 8 o.address) (0 ∷ []) (big_bytes 3 o.psn) eye_catcher in
    omega (arith, sum, is.0, is.1, is.2)

refusal_length : (r : Refusal) → IsRefusal r → length (refusal_bytes r) ≡ 28
unfolding refusal_bytes
refusal_length r is =
    let sum = parts_5 (header_bytes DeclineKind r.out) r.peer (big_bytes 4 r.diagnosis) (big_bytes 4 0) eye_catcher in
    omega (arith, sum, is.0)

-- how long a message is that was written
pub message_length : (message : ClcMessage) → IsMessage message → length (clc_bytes message) ≡ clc_length message
message_length (AProposal p) is = proposal_length p is
message_length (Accept o) is = offer_length AcceptKind o is
message_length (Confirm o) is = offer_length ConfirmKind o is
message_length (Decline r) is = refusal_length r is
