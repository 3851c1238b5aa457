-- A Proposal that was written is read again, where it names no IPv6 prefix.
use Rattle.std.proofs.Common.{◌≡◌, ◌∙◌, ◌+◌, ◌*◌, ℕ, true, false, List, [], ◌∷◌, ◌++◌, drop, Ok, Err, nat_le, refl, sym, ap, append_assoc, if◌then◌else◌, arith}
use Rattle.std.specs.Prelude.{slice_index}
use Rattle.byteorder.specs.Endian.{big_bytes}
use Rattle.field_cases.specs.Fields.{number_at}
use Rattle.clc_wire.specs.declared.fault.ClcFault.TheVariants.{BadLength}
use Rattle.clc_wire.specs.declared.header.Kind.TheVariants.{Proposal as ProposalKind}
use Rattle.clc_wire.specs.declared.proposal.Proposal.{Proposal}
use Rattle.clc_wire.specs.Header.{eye_catcher, header_bytes}
use Rattle.clc_wire.specs.Proposal.{IsProposal, area_of, prefixes_of, proposal_fields, proposal_bytes, proposal_at}
use Rattle.clc_wire.proofs.Places.{behind, behind_number, bytes_back, number_back, byte_back}

-- ---- the bytes from a place on

abbrev from_38 : Proposal → List ℕ → List ℕ
from_38 p rest = big_bytes 2 0 ++ (big_bytes 4 p.subnet ++ (p.prefix ∷ (big_bytes 2 0 ++ (0 ∷ (eye_catcher ++ rest)))))

abbrev pub from_8 : Proposal → List ℕ → List ℕ
from_8 p rest = p.peer ++ (p.gid ++ (p.mac ++ from_38 p rest))

-- the parts of a spelling from the left, and from the right
grouped : (h a b c d e f g i j rest : List ℕ)
    → h ++ a ++ b ++ c ++ d ++ e ++ f ++ g ++ i ++ j ++ rest
    ≡ h ++ (a ++ (b ++ (c ++ (d ++ (e ++ (f ++ (g ++ (i ++ (j ++ rest)))))))))
grouped h a b c d e f g i j rest = simp append_assoc

pub begins : (p : Proposal) (rest : List ℕ) → proposal_bytes p ++ rest ≡ header_bytes ProposalKind false ++ from_8 p rest
unfolding proposal_bytes
begins p rest =
    grouped (header_bytes ProposalKind false) p.peer p.gid p.mac (big_bytes 2 0) (big_bytes 4 p.subnet) (p.prefix ∷ []) (big_bytes 2 0) (0 ∷ []) eye_catcher rest

-- ---- what stands at each place

-- the fields and the trailer
back : (p : Proposal) (rest bytes : List ℕ) → IsProposal p → p.v6 ≡ 0 → drop 8 bytes ≡ from_8 p rest
    → (proposal_at 52 bytes ≡ Ok p) × (drop 48 bytes ≡ eye_catcher ++ rest)
unfolding proposal_at
back p rest bytes is none at_8 =
    let at_16 = behind bytes p.peer _ 8 8 at_8 is.0 in
    let at_32 = behind bytes p.gid _ 16 16 at_16 is.1 in
    let at_38 = behind bytes p.mac _ 32 6 at_32 is.2 in
    let at_40 = behind_number bytes 2 0 _ 38 at_38 in
    let at_44 = behind_number bytes 4 p.subnet _ 40 at_40 in
    let at_45 = behind bytes (p.prefix ∷ []) _ 44 1 at_44 refl in
    let at_47 = behind_number bytes 2 0 _ 45 at_45 in
    let at_48 = behind bytes (0 ∷ []) _ 47 1 at_47 refl in
    let area : area_of bytes ≡ 40 = ap (λ n. 40 + n) (number_back bytes 2 0 _ 38 at_38 (omega arith)) in
    let prefixes : prefixes_of bytes ≡ 0 = ap (λ a. slice_index bytes (a + 7)) area ∙ byte_back bytes 0 _ 47 at_47 in
    let peer = bytes_back bytes p.peer _ 8 8 at_8 is.0 in
    let gid = bytes_back bytes p.gid _ 16 16 at_16 is.1 in
    let mac = bytes_back bytes p.mac _ 32 6 at_32 is.2 in
    let subnet = ap (λ a. number_at 4 a bytes) area ∙ number_back bytes 4 p.subnet _ 40 at_40 is.3 in
    let prefix = ap (λ a. slice_index bytes (a + 4)) area ∙ byte_back bytes p.prefix _ 44 at_44 in
    let v6 = prefixes ∙ sym none in
    let fields : proposal_fields bytes ≡ p = λ i. record { peer = peer i; gid = gid i; mac = mac i; subnet = subnet i; prefix = prefix i; v6 = v6 i } in
    let fits : nat_le (area_of bytes + 8 + 17 * prefixes_of bytes + 4) 52 ≡ true = λ i. nat_le (area i + 8 + 17 * prefixes i + 4) 52 in
    ((λ i. if fits i then Ok (fields i) else Err (BadLength 52)), at_48)

-- a Proposal that was written, with any bytes behind it
pub proposal_back : (p : Proposal) (rest : List ℕ) → IsProposal p → p.v6 ≡ 0
    → (proposal_at 52 (proposal_bytes p ++ rest) ≡ Ok p) × (drop 48 (proposal_bytes p ++ rest) ≡ eye_catcher ++ rest)
proposal_back p rest is none = back p rest (proposal_bytes p ++ rest) is none (ap (drop 8) (begins p rest))
