-- An Accept or a Confirm that was written is read again.
use Rattle.std.proofs.Common.{◌≡◌, ◌∙◌, ◌+◌, ◌*◌, ◌/◌, ◌%◌, ◌<◌, ℕ, List, [], ◌∷◌, ◌++◌, drop, refl, ap, arith, append_assoc}
use Rattle.byteorder.specs.Endian.{big_bytes}
use Rattle.clc_wire.specs.declared.header.Kind.{Kind}
use Rattle.clc_wire.specs.declared.offer.Offer.{Offer}
use Rattle.clc_wire.specs.Header.{eye_catcher, header_bytes}
use Rattle.clc_wire.specs.Offer.{IsOffer, OfferFits, offer_bytes, offer_at}
use Rattle.clc_wire.proofs.Places.{behind, behind_number, bytes_back, number_back, byte_back}

-- ---- the bytes from a place on

abbrev from_52 : Offer → List ℕ → List ℕ
from_52 o rest = big_bytes 8 o.address ++ (0 ∷ (big_bytes 3 o.psn ++ (eye_catcher ++ rest)))

abbrev from_38 : Offer → List ℕ → List ℕ
from_38 o rest = big_bytes 3 o.qp ++ (big_bytes 4 o.key ++ (o.index ∷ (big_bytes 4 o.token ++ ((o.size * 16 + o.mtu) ∷ (0 ∷ from_52 o rest)))))

abbrev pub from_8 : Offer → List ℕ → List ℕ
from_8 o rest = o.peer ++ (o.gid ++ (o.mac ++ from_38 o rest))

-- the parts of a spelling from the left, and from the right
grouped : (h a b c d e f g i j k l m n rest : List ℕ)
    → h ++ a ++ b ++ c ++ d ++ e ++ f ++ g ++ i ++ j ++ k ++ l ++ m ++ n ++ rest
    ≡ h ++ (a ++ (b ++ (c ++ (d ++ (e ++ (f ++ (g ++ (i ++ (j ++ (k ++ (l ++ (m ++ (n ++ rest)))))))))))))
grouped h a b c d e f g i j k l m n rest = simp append_assoc

pub begins : (kind : Kind) (o : Offer) (rest : List ℕ) → offer_bytes kind o ++ rest ≡ header_bytes kind o.first ++ from_8 o rest
unfolding offer_bytes
begins kind o rest =
    grouped (header_bytes kind o.first) o.peer o.gid o.mac (big_bytes 3 o.qp) (big_bytes 4 o.key) (o.index ∷ []) (big_bytes 4 o.token)
    ((o.size * 16 + o.mtu) ∷ []) (0 ∷ []) (big_bytes 8 o.address) (0 ∷ []) (big_bytes 3 o.psn) eye_catcher rest

-- ---- what stands at each place

-- the two parts of a byte
high : (size mtu : ℕ) → mtu < 16 → (size * 16 + mtu) / 16 ≡ size
high size mtu fits = omega arith

low : (size mtu : ℕ) → mtu < 16 → (size * 16 + mtu) % 16 ≡ mtu
low size mtu fits = omega arith

-- the fields and the trailer
back : (o : Offer) (rest bytes : List ℕ) → IsOffer o → OfferFits o → drop 8 bytes ≡ from_8 o rest
    → (offer_at o.first bytes ≡ o) × (drop 64 bytes ≡ eye_catcher ++ rest)
unfolding offer_at
back o rest bytes is fits at_8 =
    let at_16 = behind bytes o.peer _ 8 8 at_8 is.0 in
    let at_32 = behind bytes o.gid _ 16 16 at_16 is.1 in
    let at_38 = behind bytes o.mac _ 32 6 at_32 is.2 in
    let at_41 = behind_number bytes 3 o.qp _ 38 at_38 in
    let at_45 = behind_number bytes 4 o.key _ 41 at_41 in
    let at_46 = behind bytes (o.index ∷ []) _ 45 1 at_45 refl in
    let at_50 = behind_number bytes 4 o.token _ 46 at_46 in
    let at_52 = behind bytes ((o.size * 16 + o.mtu) ∷ 0 ∷ []) _ 50 2 at_50 refl in
    let at_60 = behind_number bytes 8 o.address _ 52 at_52 in
    let at_61 = behind bytes (0 ∷ []) _ 60 1 at_60 refl in
    let at_64 = behind_number bytes 3 o.psn _ 61 at_61 in
    let peer = bytes_back bytes o.peer _ 8 8 at_8 is.0 in
    let gid = bytes_back bytes o.gid _ 16 16 at_16 is.1 in
    let mac = bytes_back bytes o.mac _ 32 6 at_32 is.2 in
    let qp = number_back bytes 3 o.qp _ 38 at_38 fits.0 in
    let key = number_back bytes 4 o.key _ 41 at_41 is.3 in
    let index = byte_back bytes o.index _ 45 at_45 in
    let token = number_back bytes 4 o.token _ 46 at_46 is.4 in
    let codes = byte_back bytes (o.size * 16 + o.mtu) _ 50 at_50 in
    let size = ap (λ b. b / 16) codes ∙ high o.size o.mtu fits.2 in
    let mtu = ap (λ b. b % 16) codes ∙ low o.size o.mtu fits.2 in
    let address = number_back bytes 8 o.address _ 52 at_52 is.5 in
    let psn = number_back bytes 3 o.psn _ 61 at_61 fits.3 in (
      (λ i. record {
        first = o.first;
        peer = peer i;
        gid = gid i;
        mac = mac i;
        qp = qp i;
        key = key i;
        index = index i;
        token = token i;
        size = size i;
        mtu = mtu i;
        address = address i;
        psn = psn i;
      }),
      at_64,
    )

-- an Accept or a Confirm that was written, with any bytes behind it
pub offer_back : (kind : Kind) (o : Offer) (rest : List ℕ) → IsOffer o → OfferFits o
    → (offer_at o.first (offer_bytes kind o ++ rest) ≡ o) × (drop 64 (offer_bytes kind o ++ rest) ≡ eye_catcher ++ rest)
offer_back kind o rest is fits = back o rest (offer_bytes kind o ++ rest) is fits (ap (drop 8) (begins kind o rest))
