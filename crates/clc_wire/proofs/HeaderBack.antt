-- A header that was written is read again, and so is the trailer.
use Rattle.std.proofs.Common.{◌≡◌, ◌∙◌, ◌≤◌, ◌<◌, ◌+◌, ◌-◌, ◌^◌, ℕ, nat_eq, Bool, true, false, List, [], ◌∷◌, ◌++◌, length, drop, Ok, Err, refl, ap, arith, length-append, length-drop, if◌then◌else◌}
use Rattle.std.specs.List.{starts_with}
use Rattle.byteorder.specs.Numbers.{big_number-reads_back}
use Rattle.field_cases.specs.Fields.{number_at}
use Rattle.clc_wire.specs.declared.fault.ClcFault.TheVariants.{Short, BadEye, BadLength, BadVersion, BadTrailer}
use Rattle.clc_wire.specs.declared.header.Kind.{Kind}
use Rattle.clc_wire.specs.declared.header.Kind.TheVariants.{Proposal as ProposalKind, Accept as AcceptKind, Confirm as ConfirmKind, Decline as DeclineKind}
use Rattle.clc_wire.specs.declared.message.ClcMessage.{ClcMessage}
use Rattle.clc_wire.specs.Clc.{message_at, clc_front}
use Rattle.clc_wire.specs.Reading.{field}
use Rattle.clc_wire.specs.Header.{eye_catcher, code_of, kind_of, written_length, allows, header_bytes, eye_at, kind_at, length_at, mark_at, header_at, trailer_at}
use Rattle.clc_wire.proofs.Places.{goes_on, there}

-- ---- the header

kind_back : (kind : Kind) → kind_of (code_of kind) ≡ Ok kind
kind_back ProposalKind = refl
kind_back AcceptKind = refl
kind_back ConfirmKind = refl
kind_back DeclineKind = refl

allows_back : (kind : Kind) → allows kind (written_length kind) ≡ true
allows_back ProposalKind = refl
allows_back AcceptKind = refl
allows_back ConfirmKind = refl
allows_back DeclineKind = refl

least : (kind : Kind) → 28 ≤ written_length kind
least ProposalKind = omega arith
least AcceptKind = omega arith
least ConfirmKind = omega arith
least DeclineKind = omega arith

most : (kind : Kind) → written_length kind < 256 ^ 2
most ProposalKind = omega arith
most AcceptKind = omega arith
most ConfirmKind = omega arith
most DeclineKind = omega arith

eye_back : (rest : List ℕ) → 4 ≤ length (eye_catcher ++ rest) → eye_at 0 eye_catcher (eye_catcher ++ rest) ≡ Ok (tt {0})
eye_back rest enough =
    let bytes = eye_catcher ++ rest in
    goes_on _ _ (λ _. eye_at 1 (drop 1 eye_catcher) bytes) (there bytes 1 (BadEye 0) (tt {0}) (omega arith))
    ∙ goes_on _ _ (λ _. eye_at 2 (drop 2 eye_catcher) bytes) (there bytes 2 (BadEye 1) (tt {0}) (omega arith))
    ∙ goes_on _ _ (λ _. eye_at 3 (drop 3 eye_catcher) bytes) (there bytes 3 (BadEye 2) (tt {0}) (omega arith))
    ∙ goes_on _ _ (λ _. eye_at 4 [] bytes) (there bytes 4 (BadEye 3) (tt {0}) (omega arith))

type_back : (kind : Kind) (mark : Bool) (rest : List ℕ) → 5 ≤ length (header_bytes kind mark ++ rest) → kind_at (header_bytes kind mark ++ rest) ≡ Ok kind
type_back kind mark rest enough = goes_on _ _ kind_of (there (header_bytes kind mark ++ rest) 5 Short (code_of kind) enough) ∙ kind_back kind

len_back : (kind : Kind) (mark : Bool) (rest : List ℕ) → 7 ≤ length (header_bytes kind mark ++ rest)
    → length_at kind (header_bytes kind mark ++ rest) ≡ Ok (written_length kind)
len_back kind mark rest enough =
    let bytes = header_bytes kind mark ++ rest in
    let len : number_at 2 5 bytes ≡ written_length kind = big_number-reads_back 2 (written_length kind) ((if mark then 0x18 else 0x10) ∷ rest) (most kind) in
    ap (λ n. field bytes 7 (allows kind n) (BadLength n) n) len
    ∙ ap (λ passes. field bytes 7 passes (BadLength (written_length kind)) (written_length kind)) (allows_back kind)
    ∙ there bytes 7 (BadLength (written_length kind)) (written_length kind) enough

mark_back : (kind : Kind) (mark : Bool) (rest : List ℕ) → 8 ≤ length (header_bytes kind mark ++ rest) → mark_at (header_bytes kind mark ++ rest) ≡ Ok mark
mark_back kind true rest enough = there (header_bytes kind true ++ rest) 8 (BadVersion 1) true enough
mark_back kind false rest enough = there (header_bytes kind false ++ rest) 8 (BadVersion 1) false enough

-- the header that was written
pub header_back : (kind : Kind) (mark : Bool) (rest : List ℕ) → written_length kind ≤ length (header_bytes kind mark ++ rest)
    → header_at (header_bytes kind mark ++ rest) ≡ Ok (record { kind = kind; length = written_length kind; mark = mark })
header_back kind mark rest enough =
    let bytes = header_bytes kind mark ++ rest in
    let least = least kind in
    goes_on _ _ _ (eye_back (drop 4 bytes) (omega arith))
    ∙ goes_on _ _ _ (type_back kind mark rest (omega arith))
    ∙ goes_on _ _ _ (len_back kind mark rest (omega arith))
    ∙ goes_on _ _ _ (mark_back kind mark rest (omega arith))
    ∙ there bytes (written_length kind) Short _ enough

-- ---- the trailer

-- the trailer that was written
trailer_back : (bytes rest : List ℕ) (len : ℕ) → drop (len - 4) bytes ≡ eye_catcher ++ rest → trailer_at len bytes ≡ Ok (tt {0})
trailer_back bytes rest len here = ap (λ xs. if starts_with nat_eq xs eye_catcher then Ok (tt {0}) else Err BadTrailer) here

-- where the trailer stands says how long the spelling is
spelled_length : (spelling rest : List ℕ) (place : ℕ) → drop place (spelling ++ rest) ≡ eye_catcher ++ rest → length spelling ≡ place + 4
spelled_length spelling rest place here =
    omega (arith, ap length here, length-drop place (spelling ++ rest), length-append spelling rest, length-append eye_catcher rest)

-- ---- the whole message

-- a spelling with its header in front and its trailer at the end, whose fields are read as the message
pub front_back : (kind : Kind) (mark : Bool) (spelling rest body : List ℕ) (place : ℕ) (message : ClcMessage)
    → written_length kind ≡ place + 4
    → spelling ++ rest ≡ header_bytes kind mark ++ body
    → drop place (spelling ++ rest) ≡ eye_catcher ++ rest
    → message_at (record { kind = kind; length = written_length kind; mark = mark }) (spelling ++ rest) ≡ Ok message
    → clc_front (spelling ++ rest) ≡ Ok (message, written_length kind)
unfolding clc_front
front_back kind mark spelling rest body place message len begins ends fields =
    let bytes = spelling ++ rest in
    let spelled = spelled_length spelling rest place ends in
    let same_length = length-append spelling rest in
    let enough : written_length kind ≤ length (header_bytes kind mark ++ body) = omega (arith, ap length begins) in
    let header : header_at bytes ≡ Ok (record { kind = kind; length = written_length kind; mark = mark }) = ap header_at begins ∙ header_back kind mark body enough in
    let place_is : written_length kind - 4 ≡ place = omega arith in
    let trailer : trailer_at (written_length kind) bytes ≡ Ok (tt {0}) = trailer_back bytes rest (written_length kind) (ap (λ k. drop k bytes) place_is ∙ ends) in
    goes_on _ _ _ header ∙ goes_on _ _ _ fields ∙ goes_on _ _ _ trailer
