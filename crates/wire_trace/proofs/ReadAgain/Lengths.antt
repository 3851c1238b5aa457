-- How long the spellings of messages are.
use Rattle.std.proofs.Common.{◌≡◌, ◌∙◌, ℕ, ◌+◌, ◌*◌, ◌⊎◌, inl, inr, List, [], ◌∷◌, ◌++◌, length, refl, arith, length-append}
use Rattle.byteorder.specs.Endian.{big_bytes}
use Rattle.field_cases.specs.Fields.{zeros}
use Rattle.clc_wire.specs.declared.message.ClcMessage.{ClcMessage}
use Rattle.clc_wire.specs.declared.message.ClcMessage.TheVariants.{Proposal, Accept, Confirm, Decline}
use Rattle.clc_wire.specs.Clc as clc
use Rattle.clc_wire.proofs.SpelledLength.{message_length}
use Rattle.llc_wire.specs.declared.LlcMessage.{LlcMessage}
use Rattle.llc_wire.specs.declared.LlcMessage.TheVariants.{ConfirmLink, AddLink, AddKeys, DeleteLink, ConfirmRkey, TestLink, DeleteRkey}
use Rattle.llc_wire.specs.DeleteRkey.{keys_bytes}
use Rattle.llc_wire.specs.Llc as llc

parts_7 : (a b c d e f g : List ℕ) → length ((((((a ++ b) ++ c) ++ d) ++ e) ++ f) ++ g) ≡ length a + length b + length c + length d + length e + length f + length g
parts_7 a b c d e f g = simp length-append

parts_8 : (a b c d e f g h : List ℕ) → length (((((((a ++ b) ++ c) ++ d) ++ e) ++ f) ++ g) ++ h) ≡ length a + length b + length c + length d + length e + length f + length g + length h
parts_8 a b c d e f g h = simp length-append

keys_length : (keys : List ℕ) → length (keys_bytes keys) ≡ 4 * length keys
keys_length [] = refl
keys_length (key ∷ keys) = let rest = keys_length keys in omega (arith, rest)

pub llc_length : (m : LlcMessage) → llc.IsMessage m → length (llc.llc_bytes m) ≡ 44
llc_length (ConfirmLink reply mac gid qp link user most) w =
    let sum = parts_7 mac gid (big_bytes 3 qp) (link ∷ []) (big_bytes 4 user) (most ∷ []) (zeros 9) in omega (arith, sum, w.0, w.1)
llc_length (AddLink reply rejected reason mac gid qp link mtu psn) w =
    let sum = parts_8 mac (zeros 2) gid (big_bytes 3 qp) (link ∷ []) (mtu ∷ []) (big_bytes 3 psn) (zeros 8) in omega (arith, sum, w.0, w.1)
llc_length (AddKeys reply link count keys) w = refl
llc_length (DeleteLink reply all orderly link reason) w = refl
llc_length (ConfirmRkey reply retry negative others tokens) w = refl
llc_length (TestLink reply test) w = let sum = length-append test (zeros 24) in omega (arith, sum, w)
llc_length (DeleteRkey reply negative count mask keys) w = let sum = length-append (keys_bytes keys) (zeros 4) in omega (arith, sum, keys_length keys, w.0)

-- the lengths that a CLC message may have
clc_lengths : (m : ClcMessage) → (clc.clc_length m ≡ 52) ⊎ ((clc.clc_length m ≡ 68) ⊎ (clc.clc_length m ≡ 28))
clc_lengths (Proposal p) = inl refl
clc_lengths (Accept o) = inr (inl refl)
clc_lengths (Confirm o) = inr (inl refl)
clc_lengths (Decline r) = inr (inr refl)

pub clc_length_is : (m : ClcMessage) → clc.IsMessage m → (length (clc.clc_bytes m) ≡ 52) ⊎ ((length (clc.clc_bytes m) ≡ 68) ⊎ (length (clc.clc_bytes m) ≡ 28))
clc_length_is m w = by (clc_lengths m)
  where
    long : length (clc.clc_bytes m) ≡ clc.clc_length m
    long = message_length m w

    by : (clc.clc_length m ≡ 52) ⊎ ((clc.clc_length m ≡ 68) ⊎ (clc.clc_length m ≡ 28)) → (length (clc.clc_bytes m) ≡ 52) ⊎ ((length (clc.clc_bytes m) ≡ 68) ⊎ (length (clc.clc_bytes m) ≡ 28))
    by (inl e) = inl (long ∙ e)
    by (inr (inl e)) = inr (inl (long ∙ e))
    by (inr (inr e)) = inr (inr (long ∙ e))
