-- A Decline that was written is read again.
use Rattle.std.proofs.Common.{◌≡◌, ℕ, List, ◌++◌, drop, ap, append_assoc}
use Rattle.byteorder.specs.Endian.{big_bytes}
use Rattle.clc_wire.specs.declared.header.Kind.TheVariants.{Decline}
use Rattle.clc_wire.specs.declared.refusal.Refusal.{Refusal}
use Rattle.clc_wire.specs.Header.{eye_catcher, header_bytes}
use Rattle.clc_wire.specs.Refusal.{IsRefusal, refusal_bytes, refusal_at}
use Rattle.clc_wire.proofs.Places.{behind, behind_number, bytes_back, number_back}

-- the bytes behind the header
abbrev pub from_8 : Refusal → List ℕ → List ℕ
from_8 r rest = r.peer ++ (big_bytes 4 r.diagnosis ++ (big_bytes 4 0 ++ (eye_catcher ++ rest)))

-- the parts of a spelling from the left, and from the right
grouped : (h a b c d rest : List ℕ) → h ++ a ++ b ++ c ++ d ++ rest ≡ h ++ (a ++ (b ++ (c ++ (d ++ rest))))
grouped h a b c d rest = simp append_assoc

pub begins : (r : Refusal) (rest : List ℕ) → refusal_bytes r ++ rest ≡ header_bytes Decline r.out ++ from_8 r rest
unfolding refusal_bytes
begins r rest = grouped (header_bytes Decline r.out) r.peer (big_bytes 4 r.diagnosis) (big_bytes 4 0) eye_catcher rest

-- the fields and the trailer
back : (r : Refusal) (rest bytes : List ℕ) → IsRefusal r → drop 8 bytes ≡ from_8 r rest
    → (refusal_at r.out bytes ≡ r) × (drop 24 bytes ≡ eye_catcher ++ rest)
unfolding refusal_at
back r rest bytes is at_8 =
    let at_16 = behind bytes r.peer _ 8 8 at_8 is.0 in
    let at_20 = behind_number bytes 4 r.diagnosis _ 16 at_16 in
    let at_24 = behind_number bytes 4 0 _ 20 at_20 in
    let peer = bytes_back bytes r.peer _ 8 8 at_8 is.0 in
    let diagnosis = number_back bytes 4 r.diagnosis _ 16 at_16 is.1 in
    ((λ i. record { out = r.out; peer = peer i; diagnosis = diagnosis i }), at_24)

-- a Decline that was written, with any bytes behind it
pub refusal_back : (r : Refusal) (rest : List ℕ) → IsRefusal r
    → (refusal_at r.out (refusal_bytes r ++ rest) ≡ r) × (drop 24 (refusal_bytes r ++ rest) ≡ eye_catcher ++ rest)
refusal_back r rest is = back r rest (refusal_bytes r ++ rest) is (ap (drop 8) (begins r rest))
