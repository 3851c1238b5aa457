-- Messages that were read have the widths and lengths of their types, and are such as are read again.
use Rattle.std.proofs.Common.{◌≡◌, ◌∙◌, ℕ, ◌+◌, ◌-◌, ◌*◌, ◌%◌, ◌<◌, ◌≤◌, ◌^◌, ◌==◌, nat_lt, nat_le, Bool, true, false, if◌then◌else◌, List, [], ◌∷◌, length, take, drop, slice_index, Result, Ok, Err, IfOk, refl, sym, ap, arith, length-drop, length-take-le, append-nil}
use Rattle.std.proofs.lemmas.Bool.{and_parts, leb-true, ltb-false, eqb-true}
use Rattle.std.proofs.lemmas.List.Elements.{All-from_recursion}
use Rattle.field_cases.specs.Fields.{number_at, bytes_at}
use Rattle.clc_wire.specs.declared.header.Kind.{Kind}
use Rattle.clc_wire.specs.declared.header.Kind.TheVariants.{Proposal as ProposalKind, Accept as AcceptKind, Confirm as ConfirmKind, Decline as DeclineKind}
use Rattle.clc_wire.specs.declared.header.Header.{Header}
use Rattle.clc_wire.specs.declared.fault.ClcFault.{ClcFault}
use Rattle.clc_wire.specs.declared.fault.ClcFault.TheVariants.{Short, BadLength}
use Rattle.clc_wire.specs.declared.proposal.Proposal.{Proposal as ProposalFields}
use Rattle.clc_wire.specs.declared.message.ClcMessage.{ClcMessage}
use Rattle.clc_wire.specs.declared.message.ClcMessage.TheVariants.{Proposal, Accept, Confirm, Decline}
use Rattle.clc_wire.specs.Header.{eye_catcher, eye_at, kind_at, length_at, mark_at, header_at, trailer_at, allows}
use Rattle.clc_wire.specs.Proposal.{IsProposal, proposal_bytes, proposal_fields, proposal_at, area_of, prefixes_of}
use Rattle.clc_wire.specs.Offer.{IsOffer, offer_at}
use Rattle.clc_wire.specs.Refusal.{IsRefusal, refusal_at}
use Rattle.clc_wire.specs.Clc as clc
use Rattle.clc_wire.proofs.ReadsBack.{message_back}
use Rattle.llc_wire.specs.declared.LlcMessage.{LlcMessage}
use Rattle.llc_wire.specs.declared.LlcFault.{LlcFault}
use Rattle.llc_wire.specs.declared.LlcFault.TheVariants.{BadCount}
use Rattle.llc_wire.specs.AddKeys.{IsNewKey, new_key_at, add_keys_at, add_keys_read}
use Rattle.llc_wire.specs.AddLink.{add_link_at, reason_where}
use Rattle.llc_wire.specs.ConfirmLink.{confirm_link_at}
use Rattle.llc_wire.specs.ConfirmRkey.{IsToken, token_at, confirm_rkey_at, confirm_rkey_read}
use Rattle.llc_wire.specs.DeleteLink.{delete_link_at}
use Rattle.llc_wire.specs.DeleteRkey.{keys_at, delete_rkey_at, delete_rkey_read}
use Rattle.llc_wire.specs.TestLink.{test_link_at}
use Rattle.llc_wire.specs.Frame.{is_set}
use Rattle.llc_wire.specs.Llc as llc
use Rattle.cdc_wire.specs.Cdc as cdc
use Rattle.wire_trace.proofs.WhatWasRead.Fitting.{AreSmall, number_low, if_ok, then_ok, none_asked}

-- a run of bytes that are all there
run_long : (n place : ℕ) (bytes : List ℕ) → place + n ≤ length bytes → length (bytes_at n place bytes) ≡ n
run_long n place bytes there =
    let same : place + n - place ≡ n = omega arith in
    let left = length-drop place bytes in
    ap (λ m. length (take m (drop place bytes))) same ∙ length-take-le n (drop place bytes) (omega (arith, left, there))

-- what is asked of an LLC message beside that it fits
abbrev pub LlcTold : LlcMessage → Type 0
LlcTold m = llc.IsMessage m × llc.IsReadable m

-- of a count that has room
counted : (b : Bool) (most count : ℕ) (m : LlcMessage) → (nat_lt most count ≡ b) → (count ≤ most → LlcTold m) → IfOk {T = LlcMessage} {E = LlcFault} (if b then Err (BadCount count) else Ok m) LlcTold
counted true most count m e told = tt
counted false most count m e told = told (ltb-false most count e)

none_rejected : (rejected : Bool) (reason : ℕ) → rejected ≡ false → reason_where rejected reason ≡ 0
none_rejected true reason e = absurd (cc)
none_rejected false reason e = refl

module _ (bytes : List ℕ) (small : AreSmall bytes) (whole : length bytes ≡ 44) where
  new_key : (place : ℕ) → IsNewKey (new_key_at place bytes)
  new_key place = record { reference = number_low 4 place bytes small; fresh = number_low 4 (place + 4) bytes small; address = number_low 8 (place + 8) bytes small }

  token : (place : ℕ) → IsToken (token_at place bytes)
  token place = record { key = number_low 4 (place + 1) bytes small; address = number_low 8 (place + 5) bytes small }

  keys_told : IfOk (add_keys_read bytes) LlcTold
  keys_told =
      counted (nat_lt 2 (slice_index bytes 5)) 2 (slice_index bytes 5) (add_keys_at bytes) refl
      (λ few. ((refl, All-from_recursion IsNewKey (new_key_at 8 bytes ∷ new_key_at 24 bytes ∷ []) (new_key 8, (new_key 24, tt))), few))

  rkeys_told : IfOk (confirm_rkey_read bytes) LlcTold
  rkeys_told =
      counted (nat_lt 2 (slice_index bytes 4)) 2 (slice_index bytes 4) (confirm_rkey_at bytes) refl
      (λ few. ((refl, All-from_recursion IsToken (token_at 4 bytes ∷ token_at 17 bytes ∷ token_at 30 bytes ∷ []) (token 4, (token 17, (token 30, tt)))), (few, refl)))

  low : (place : ℕ) → number_at 4 place bytes < 2 ^ 32
  low place = number_low 4 place bytes small

  gone_told : IfOk (delete_rkey_read bytes) LlcTold
  gone_told =
      counted (nat_lt 8 (slice_index bytes 4)) 8 (slice_index bytes 4) (delete_rkey_at bytes) refl
      (λ few. ((refl, All-from_recursion (λ (key : ℕ). key < 2 ^ 32) (keys_at bytes) (low 8, (low 12, (low 16, (low 20, (low 24, (low 28, (low 32, (low 36, tt))))))))), few))

  by_type : (kind : ℕ) → IfOk (llc.message_at kind bytes) LlcTold
  by_type kind =
      if_ok LlcTold (kind == 1) (Ok (confirm_link_at bytes)) _ ((run_long 6 4 bytes (omega (arith, whole)), run_long 16 10 bytes (omega (arith, whole)), low 30), tt)
      (if_ok LlcTold (kind == 2) (Ok (add_link_at bytes)) _ ((run_long 6 4 bytes (omega (arith, whole)), run_long 16 12 bytes (omega (arith, whole))), none_rejected (is_set 0x40 (slice_index bytes 3)) (slice_index bytes 2 % 16))
      (if_ok LlcTold (kind == 3) (add_keys_read bytes) _ keys_told
      (if_ok LlcTold (kind == 4) (Ok (delete_link_at bytes)) _ (low 5, tt)
      (if_ok LlcTold (kind == 6) (confirm_rkey_read bytes) _ rkeys_told
      (if_ok LlcTold (kind == 7) (Ok (test_link_at bytes)) (delete_rkey_read bytes) (run_long 16 4 bytes (omega (arith, whole)), tt) gone_told)))))

  pub llc_told : IfOk (llc.llc_read bytes) LlcTold
  llc_told = if_ok LlcTold (llc.is_llc_type (slice_index bytes 0)) _ _ (if_ok LlcTold (slice_index bytes 1 == 44) (llc.message_at (slice_index bytes 0) bytes) _ (by_type (slice_index bytes 0)) tt) tt

pub cdc_told : (bytes : List ℕ) → AreSmall bytes → IfOk (cdc.cdc_read bytes) cdc.IsMessage
cdc_told bytes small =
    if_ok cdc.IsMessage (slice_index bytes 0 == 254) _ _
    (if_ok cdc.IsMessage (slice_index bytes 1 == 44) (Ok (cdc.fields_of bytes)) _
    (record {
      number = number_low 2 2 bytes small;
      token = number_low 4 4 bytes small;
      told_wrap = number_low 2 10 bytes small;
      told_count = number_low 4 12 bytes small;
      read_wrap = number_low 2 18 bytes small;
      read_count = number_low 4 20 bytes small;
    }) tt) tt

-- a header whose length is allowed, and whose message is all there
record IsWhole (bytes : List ℕ) (header : Header) : Type 0 where
  pub fine : allows header.kind header.length ≡ true
  pub there : header.length ≤ length bytes

length_fine : (bytes : List ℕ) (short passes : Bool) (len : ℕ) → IfOk {T = ℕ} {E = ClcFault} (if short then Err Short else if passes then Ok len else Err (BadLength len)) (λ l. (l ≡ len) × (passes ≡ true))
length_fine bytes true passes len = tt
length_fine bytes false true len = (refl, refl)
length_fine bytes false false len = tt

reaches : (bytes : List ℕ) (header : Header) (short : Bool) → nat_lt (length bytes) header.length ≡ short → allows header.kind header.length ≡ true
    → IfOk {T = Header} {E = ClcFault} (if short then Err Short else Ok header) (IsWhole bytes)
reaches bytes header true e fine = tt
reaches bytes header false e fine = record { fine = fine; there = ltb-false (length bytes) header.length e }

module _ (bytes : List ℕ) (small : AreSmall bytes) where
  header_whole : IfOk (header_at bytes) (IsWhole bytes)
  header_whole =
      then_ok (λ _. Unit {0}) (IsWhole bytes) (eye_at 0 eye_catcher bytes) _ (none_asked (eye_at 0 eye_catcher bytes))
      (λ _ _. then_ok (λ _. Unit {0}) (IsWhole bytes) (kind_at bytes) _ (none_asked (kind_at bytes))
      (λ kind _. then_ok (λ (l : ℕ). (l ≡ number_at 2 5 bytes) × (allows kind (number_at 2 5 bytes) ≡ true)) (IsWhole bytes) (length_at kind bytes) _
      (length_fine bytes (nat_lt (length bytes) 7) (allows kind (number_at 2 5 bytes)) (number_at 2 5 bytes))
      (λ len fine. then_ok (λ _. Unit {0}) (IsWhole bytes) (mark_at bytes) _ (none_asked (mark_at bytes))
      (λ mark _. reaches bytes (record { kind = kind; length = len; mark = mark }) (nat_lt (length bytes) len) refl (ap (allows kind) fine.0 ∙ fine.1)))))

  proposal_told : (len : ℕ) → 52 ≤ length bytes → IfOk (proposal_at len bytes) IsProposal
  unfolding proposal_at
  proposal_told len there =
      if_ok IsProposal (nat_le (area_of bytes + 8 + 17 * prefixes_of bytes + 4) len) (Ok (proposal_fields bytes)) (Err (BadLength len))
      (run_long 8 8 bytes (omega (arith, there)), run_long 16 16 bytes (omega (arith, there)), run_long 6 32 bytes (omega (arith, there)), number_low 4 (area_of bytes) bytes small) tt

  offer_told : (mark : Bool) → 68 ≤ length bytes → IsOffer (offer_at mark bytes)
  unfolding offer_at
  offer_told mark there =
      (run_long 8 8 bytes (omega (arith, there)), run_long 16 16 bytes (omega (arith, there)), run_long 6 32 bytes (omega (arith, there)), number_low 4 41 bytes small, number_low 4 46 bytes small, number_low 8 52 bytes small)

  refusal_told : (mark : Bool) → 28 ≤ length bytes → IsRefusal (refusal_at mark bytes)
  unfolding refusal_at
  refusal_told mark there = (run_long 8 8 bytes (omega (arith, there)), number_low 4 16 bytes small)

  by_kind : (kind : Kind) (len : ℕ) (mark : Bool) → IsWhole bytes (record { kind = kind; length = len; mark = mark }) → IfOk (clc.message_at (record { kind = kind; length = len; mark = mark }) bytes) clc.IsMessage
  by_kind ProposalKind len mark w =
      let fine = and_parts (nat_le 52 len) (nat_le len 1024) w.fine in
      let least = leb-true 52 len fine.0 in
      then_ok IsProposal clc.IsMessage (proposal_at len bytes) (λ p. Ok (Proposal p)) (proposal_told len (omega (arith, least, w.there))) (λ p told. told)
  by_kind AcceptKind len mark w = let is = eqb-true len 68 w.fine in offer_told mark (omega (arith, is, w.there))
  by_kind ConfirmKind len mark w = let is = eqb-true len 68 w.fine in offer_told mark (omega (arith, is, w.there))
  by_kind DeclineKind len mark w = let is = eqb-true len 28 w.fine in refusal_told mark (omega (arith, is, w.there))

  pub clc_told : IfOk (clc.clc_front bytes) (λ (found : ClcMessage × ℕ). clc.IsMessage found.0)
  unfolding clc.clc_front
  clc_told =
      then_ok (IsWhole bytes) _ (header_at bytes) _ header_whole
      (λ header w. then_ok clc.IsMessage _ (clc.message_at header bytes) _ (by_kind header.kind header.length header.mark w)
      (λ m told. then_ok (λ _. Unit {0}) _ (trailer_at header.length bytes) _ (none_asked (trailer_at header.length bytes)) (λ _ _. told)))

same_bytes : (p : ProposalFields) → proposal_bytes (record p { v6 = 0 }) ≡ proposal_bytes p
unfolding proposal_bytes
same_bytes p = refl

abbrev message_in : ClcMessage → Result (ClcMessage × ℕ) ClcFault → ClcMessage
message_in d (Ok found) = found.0
message_in d (Err fault) = d

abbrev v6_of : ClcMessage → ℕ
v6_of (Proposal p) = p.v6
v6_of _ = 0

-- a message that is read of its own spelling names no prefix
pub no_prefix : (m : ClcMessage) (n : ℕ) → clc.IsMessage m → clc.clc_front (clc.clc_bytes m) ≡ Ok (m, n) → clc.HasNoPrefix m
no_prefix (Proposal p) n w e =
    let q : ProposalFields = record p { v6 = 0 } in
    let back = message_back (Proposal q) [] w tt refl in
    let both : ◌≡◌ {A = Result (ClcMessage × ℕ) ClcFault} (Ok (Proposal p, n)) (Ok (Proposal q, 52)) =
    sym e ∙ ap clc.clc_front (sym (same_bytes p) ∙ sym (append-nil (proposal_bytes q))) ∙ back in
    ap (λ r. v6_of (message_in (Proposal q) r)) both
no_prefix (Accept o) n w e = tt
no_prefix (Confirm o) n w e = tt
no_prefix (Decline r) n w e = tt
