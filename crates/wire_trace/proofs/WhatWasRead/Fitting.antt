-- Messages that were read fit: their fields of fewer bits than their types have no more.
use Rattle.std.proofs.Common.{ℕ, ◌+◌, ◌%◌, ◌<◌, ◌^◌, Bool, true, false, if◌then◌else◌, List, Result, Ok, Err, IfOk, drop, slice_index, sym, subst, arith, get_or-drop, ◌==◌, nat_lt}
use Rattle.byteorder.specs.Numbers.{big_from-lt}
use Rattle.field_cases.specs.Fields.{number_at}
use Rattle.clc_wire.specs.declared.header.Kind.{Kind}
use Rattle.clc_wire.specs.declared.header.Kind.TheVariants.{Proposal as ProposalKind, Accept as AcceptKind, Confirm as ConfirmKind, Decline as DeclineKind}
use Rattle.clc_wire.specs.declared.fault.ClcFault.{ClcFault}
use Rattle.clc_wire.specs.declared.message.ClcMessage.{ClcMessage}
use Rattle.clc_wire.specs.declared.message.ClcMessage.TheVariants.{Proposal}
use Rattle.clc_wire.specs.Reading.{◌>>=◌}
use Rattle.clc_wire.specs.Header.{header_at, trailer_at}
use Rattle.clc_wire.specs.Proposal.{proposal_at}
use Rattle.clc_wire.specs.Offer.{OfferFits, offer_at}
use Rattle.clc_wire.specs.Clc as clc
use Rattle.llc_wire.specs.AddKeys.{add_keys_at, add_keys_read}
use Rattle.llc_wire.specs.AddLink.{add_link_at, reason_where}
use Rattle.llc_wire.specs.ConfirmLink.{confirm_link_at}
use Rattle.llc_wire.specs.ConfirmRkey.{confirm_rkey_at, confirm_rkey_read}
use Rattle.llc_wire.specs.DeleteLink.{delete_link_at}
use Rattle.llc_wire.specs.DeleteRkey.{delete_rkey_at, delete_rkey_read}
use Rattle.llc_wire.specs.TestLink.{test_link_at}
use Rattle.llc_wire.specs.declared.LlcFault.TheVariants.{BadCount}
use Rattle.llc_wire.specs.Llc as llc

-- bytes, of which none is above 255
abbrev pub AreSmall : List ℕ → Type 0
AreSmall bytes = (k : ℕ) → slice_index bytes k < 256

pub number_low : (n place : ℕ) (bytes : List ℕ) → AreSmall bytes → number_at n place bytes < 256 ^ n
number_low n place bytes small = big_from-lt 0 n (drop place bytes) (λ k. subst (λ b. b < 256) (sym (get_or-drop place bytes k 0)) (small (place + k)))

-- of what is read one way or another
pub if_ok : {T E : Type 0} (P : T → Type 0) (b : Bool) (x y : Result T E) → IfOk x P → IfOk y P → IfOk (if b then x else y) P
if_ok P true x y h g = h
if_ok P false x y h g = g

-- of what is read after something else
pub then_ok : {A B : Type 0} (P : A → Type 0) (Q : B → Type 0) (read : Result A ClcFault) (next : A → Result B ClcFault) → IfOk read P → ((a : A) → P a → IfOk (next a) Q) → IfOk (read >>= next) Q
then_ok P Q (Ok a) next h g = g a h
then_ok P Q (Err e) next h g = tt

pub none_asked : {A : Type 0} (read : Result A ClcFault) → IfOk read (λ a. Unit {0})
none_asked (Ok a) = tt
none_asked (Err e) = tt

reason_low : (rejected : Bool) (second : ℕ) → reason_where rejected (second % 16) < 16
reason_low true second = omega arith
reason_low false second = omega arith

module _ (bytes : List ℕ) (small : AreSmall bytes) where
  keys_fit : IfOk (add_keys_read bytes) llc.Fits
  keys_fit = if_ok llc.Fits (nat_lt 2 (slice_index bytes 5)) (Err (BadCount (slice_index bytes 5))) (Ok (add_keys_at bytes)) tt tt

  rkeys_fit : IfOk (confirm_rkey_read bytes) llc.Fits
  rkeys_fit = if_ok llc.Fits (nat_lt 2 (slice_index bytes 4)) (Err (BadCount (slice_index bytes 4))) (Ok (confirm_rkey_at bytes)) tt tt

  gone_fit : IfOk (delete_rkey_read bytes) llc.Fits
  gone_fit = if_ok llc.Fits (nat_lt 8 (slice_index bytes 4)) (Err (BadCount (slice_index bytes 4))) (Ok (delete_rkey_at bytes)) tt tt

  by_type : (kind : ℕ) → IfOk (llc.message_at kind bytes) llc.Fits
  by_type kind =
      if_ok llc.Fits (kind == 1) (Ok (confirm_link_at bytes)) _ (number_low 3 26 bytes small)
      (if_ok llc.Fits (kind == 2) (Ok (add_link_at bytes)) _ (reason_low _ (slice_index bytes 2), number_low 3 28 bytes small, omega arith, number_low 3 33 bytes small)
      (if_ok llc.Fits (kind == 3) (add_keys_read bytes) _ keys_fit
      (if_ok llc.Fits (kind == 4) (Ok (delete_link_at bytes)) _ tt
      (if_ok llc.Fits (kind == 6) (confirm_rkey_read bytes) _ rkeys_fit
      (if_ok llc.Fits (kind == 7) (Ok (test_link_at bytes)) (delete_rkey_read bytes) tt gone_fit)))))

  pub llc_fits : IfOk (llc.llc_read bytes) llc.Fits
  llc_fits = if_ok llc.Fits (llc.is_llc_type (slice_index bytes 0)) _ _ (if_ok llc.Fits (slice_index bytes 1 == 44) (llc.message_at (slice_index bytes 0) bytes) _ (by_type (slice_index bytes 0)) tt) tt

  offer_fits : (mark : Bool) → OfferFits (offer_at mark bytes)
  unfolding offer_at
  offer_fits mark = let byte = small 50 in (number_low 3 38 bytes small, omega (arith, byte), omega arith, number_low 3 61 bytes small)

  by_kind : (kind : Kind) (len : ℕ) (mark : Bool) → IfOk (clc.message_at (record { kind = kind; length = len; mark = mark }) bytes) clc.Fits
  by_kind ProposalKind len mark = then_ok (λ p. Unit {0}) clc.Fits (proposal_at len bytes) (λ p. Ok (Proposal p)) (none_asked (proposal_at len bytes)) (λ p _. tt)
  by_kind AcceptKind len mark = offer_fits mark
  by_kind ConfirmKind len mark = offer_fits mark
  by_kind DeclineKind len mark = tt

  pub clc_fits : IfOk (clc.clc_front bytes) (λ (found : ClcMessage × ℕ). clc.Fits found.0)
  unfolding clc.clc_front
  clc_fits =
      then_ok (λ _. Unit {0}) _ (header_at bytes) _ (none_asked (header_at bytes))
      (λ header _. then_ok clc.Fits _ (clc.message_at header bytes) _ (by_kind header.kind header.length header.mark)
      (λ m fits. then_ok (λ _. Unit {0}) _ (trailer_at header.length bytes) _ (none_asked (trailer_at header.length bytes)) (λ _ _. fits)))
