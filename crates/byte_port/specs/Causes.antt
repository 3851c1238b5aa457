-- What a source and a sink tell of their calls.
-- A reader learns here when a call fails, and which bytes it moves.
use Rattle.std.specs.Prelude.{ℕ, ◌+◌, ◌-◌, ◌^◌, ◌≤◌, ◌<◌, ◌≡◌, min, List, [], ◌++◌, length, take, drop, Option, Some, None, Result, Ok, Err, OnErr}

-- the count of faults has risen, or stands at the greatest u64
abbrev pub Rose : ℕ → ℕ → Type 0
Rose before now = min (before + 1) (2 ^ 64 - 1) ≤ now

-- the count never falls, and a call fails only where it rose
pub record HasCause {T E : Type 0} (before now : ℕ) (result : Result T E) : Type 0 where
  pub later : before ≤ now
  pub failed : OnErr result (Rose before now)

-- where what is left is told: the next bytes went over, none only at the end, and a failure keeps all
abbrev pub HandsOver : {E : Type 0} → Option (List ℕ) → Option (List ℕ) → Result ℕ E → List ℕ → Type 0
HandsOver None new result out = Unit {0}
HandsOver (Some left) None result out = ⊥
HandsOver (Some left) (Some rest) (Err e) out = rest ≡ left
HandsOver (Some left) (Some rest) (Ok n) out = (n ≤ length left) × (take n out ≡ take n left) × (rest ≡ drop n left) × (0 < length out → n ≡ 0 → left ≡ [])

-- where what is held is told: the front of the piece stands behind it, and a failure keeps it
abbrev pub TakesIn : {E : Type 0} → Option (List ℕ) → Option (List ℕ) → Result ℕ E → List ℕ → Type 0
TakesIn None new result piece = Unit {0}
TakesIn (Some held) None result piece = ⊥
TakesIn (Some held) (Some now) (Err e) piece = now ≡ held
TakesIn (Some held) (Some now) (Ok n) piece = now ≡ held ++ take n piece

-- where it is told, what was held has this text behind it
abbrev pub Grew : Option (List ℕ) → Option (List ℕ) → List ℕ → Type 0
Grew None new text = Unit {0}
Grew (Some held) None text = ⊥
Grew (Some held) (Some now) text = now ≡ held ++ text

-- where it is told, these are the bytes that were left
abbrev pub IsRead : Option (List ℕ) → List ℕ → Type 0
IsRead None bytes = Unit {0}
IsRead (Some left) bytes = bytes ≡ left

-- what was read so far and what is left are what was left
abbrev pub IsReading : Option (List ℕ) → Option (List ℕ) → List ℕ → Type 0
IsReading None now read = Unit {0}
IsReading (Some left) None read = ⊥
IsReading (Some left) (Some rest) read = left ≡ read ++ rest
