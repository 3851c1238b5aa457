-- Fields at their places: what stands behind a field, and what is read of it.
use Rattle.std.proofs.Common.{◌≡◌, ◌∙◌, ◌≤◌, ◌<◌, ◌+◌, ◌^◌, ℕ, true, List, ◌∷◌, ◌++◌, length, take, drop, Ok, Err, Result, add-zero, sym, ap, if◌then◌else◌}
use Rattle.std.specs.Prelude.{slice_index}
use Rattle.std.proofs.Math.Seq.{take-append_seam, drop-append_seam}
use Rattle.std.proofs.lemmas.Bool.{le-ltb}
use Rattle.std.proofs.lemmas.List.{drop-drop, get_or-drop}
use Rattle.byteorder.specs.Endian.{big_bytes, big_number}
use Rattle.byteorder.specs.Numbers.{big_number-reads_back, length-bytes_high_first}
use Rattle.field_cases.specs.Fields.{number_at}
use Rattle.clc_wire.specs.declared.fault.ClcFault.{ClcFault}
use Rattle.clc_wire.specs.declared.fault.ClcFault.TheVariants.{Short}
use Rattle.clc_wire.specs.Reading.{◌>>=◌, field}

-- reading goes on after a field that was read
pub goes_on : {A B : Type 0} (read : Result A ClcFault) (value : A) (next : A → Result B ClcFault) → read ≡ Ok value → (read >>= next) ≡ next value
goes_on read value next e = ap (λ r. r >>= next) e

-- a field whose bytes are there, and whose test passes
pub there : {A : Type 0} (bytes : List ℕ) (place : ℕ) (fault : ClcFault) (value : A) → place ≤ length bytes → field bytes place true fault value ≡ Ok value
there bytes place fault value reaches = ap (λ short. if short then Err Short else Ok value) (le-ltb (length bytes) place reaches)

-- what stands behind a field
pub behind : (bytes xs rest : List ℕ) (place n : ℕ) → drop place bytes ≡ xs ++ rest → length xs ≡ n → drop (place + n) bytes ≡ rest
behind bytes xs rest place n here len =
    sym (drop-drop n place bytes) ∙ ap (drop n) here ∙ ap (λ k. drop k (xs ++ rest)) (sym len) ∙ drop-append_seam xs rest

-- the same behind a number
pub behind_number : (bytes : List ℕ) (n x : ℕ) (rest : List ℕ) (place : ℕ) → drop place bytes ≡ big_bytes n x ++ rest → drop (place + n) bytes ≡ rest
behind_number bytes n x rest place here = behind bytes (big_bytes n x) rest place n here (length-bytes_high_first n x)

-- the bytes of a field
pub bytes_back : (bytes xs rest : List ℕ) (place n : ℕ) → drop place bytes ≡ xs ++ rest → length xs ≡ n → take n (drop place bytes) ≡ xs
bytes_back bytes xs rest place n here len = ap (take n) here ∙ ap (λ k. take k (xs ++ rest)) (sym len) ∙ take-append_seam xs rest

-- the number of a field
pub number_back : (bytes : List ℕ) (n x : ℕ) (rest : List ℕ) (place : ℕ) → drop place bytes ≡ big_bytes n x ++ rest → x < 256 ^ n → number_at n place bytes ≡ x
number_back bytes n x rest place here fits = ap (big_number n) here ∙ big_number-reads_back n x rest fits

-- the byte of a field
pub byte_back : (bytes : List ℕ) (x : ℕ) (rest : List ℕ) (place : ℕ) → drop place bytes ≡ x ∷ rest → slice_index bytes place ≡ x
byte_back bytes x rest place here =
    ap (λ k. slice_index bytes k) (sym (add-zero place)) ∙ sym (get_or-drop place bytes 0 0) ∙ ap (λ xs. slice_index xs 0) here
