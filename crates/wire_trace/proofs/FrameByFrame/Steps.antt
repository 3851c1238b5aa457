-- Reading one frame after another, and how far a reader has come.
use Rattle.std.proofs.Common.{◌≡◌, ◌∙◌, ℕ, zero, suc, ◌+◌, ◌<◌, ◌≤◌, true, false, if◌then◌else◌, List, [], ◌∷◌, ◌++◌, length, drop, Result, Ok, Err, refl, ap, arith, drop-drop}
use Rattle.pipe_model.specs.declared.post.PostRef.{PostRef}
use Rattle.pipe_model.specs.declared.post.Placed.{Placed}
use Rattle.wire_trace.specs.declared.fault.TraceFault.{TraceFault}
use Rattle.wire_trace.specs.declared.fault.TraceFault.TheVariants.{NoMemory, BadMagic, Short, BadField, BadMessage, BadOrder, BadEnd}
use Rattle.wire_trace.specs.Files.{◌>>=◌, frame_at, is_end, end_at, frames_from, before_all, all_frames, IsFault}

-- reading goes on after what was read
pub goes_on : {X Y : Type 0} (read : Result X TraceFault) (value : X) (next : X → Result Y TraceFault) → read ≡ Ok value → (read >>= next) ≡ next value
goes_on read value next e = ap (λ r. r >>= next) e

-- what is read where no end is at the front
abbrev pub after_frame : ℕ → ℕ → List Placed → List ℕ → (Placed × ℕ) → Result (List Placed) TraceFault
after_frame most place read bytes found = frames_from most (place + found.1) found.0.at (read ++ found.0 ∷ []) (drop found.1 bytes)

module _ (most place : ℕ) (last : PostRef) (read : List Placed) (bytes : List ℕ) where
  pub ends : is_end bytes ≡ true → frames_from (suc most) place last read bytes ≡ end_at place read bytes
  ends e = ap (λ b. if b then end_at place read bytes else (frame_at place last bytes >>= after_frame most place read bytes)) e

  goes : is_end bytes ≡ false → frames_from (suc most) place last read bytes ≡ (frame_at place last bytes >>= after_frame most place read bytes)
  goes e = ap (λ b. if b then end_at place read bytes else (frame_at place last bytes >>= after_frame most place read bytes)) e

  pub next : (found : Placed × ℕ) → is_end bytes ≡ false → frame_at place last bytes ≡ Ok found
      → frames_from (suc most) place last read bytes ≡ after_frame most place read bytes found
  next found e f = goes e ∙ ap (λ r. r >>= after_frame most place read bytes) f

  pub breaks : (fault : TraceFault) → is_end bytes ≡ false → frame_at place last bytes ≡ Err fault → frames_from (suc most) place last read bytes ≡ Err fault
  breaks fault e f = goes e ∙ ap (λ r. r >>= after_frame most place read bytes) f

-- a reader has come to this place, and what is read there is what is read in all
pub record Reading (bytes : List ℕ) (place : ℕ) (last : PostRef) (read : List Placed) : Type 0 where
  pub most : ℕ
  pub enough : length bytes < place + most
  pub same : all_frames bytes ≡ frames_from most place last read (drop place bytes)

pub begun : (bytes : List ℕ) → Reading bytes 5 before_all []
begun bytes = record { most = length bytes; enough = omega arith; same = refl }

module _ (bytes : List ℕ) (place : ℕ) (last : PostRef) (read : List Placed) (there : place ≤ length bytes) where
  ended_by : (most : ℕ) → length bytes < place + most → is_end (drop place bytes) ≡ true → frames_from most place last read (drop place bytes) ≡ end_at place read (drop place bytes)
  ended_by zero enough e = absurd (omega arith)
  ended_by (suc most) enough e = ends most place last read (drop place bytes) e

  pub ended : Reading bytes place last read → is_end (drop place bytes) ≡ true → all_frames bytes ≡ end_at place read (drop place bytes)
  ended r e = r.same ∙ ended_by r.most r.enough e

  broken_by : (fault : TraceFault) (most : ℕ) → length bytes < place + most → is_end (drop place bytes) ≡ false → frame_at place last (drop place bytes) ≡ Err fault → frames_from most place last read (drop place bytes) ≡ Err fault
  broken_by fault zero enough e f = absurd (omega arith)
  broken_by fault (suc most) enough e f = breaks most place last read (drop place bytes) fault e f

  pub broken : (fault : TraceFault) → Reading bytes place last read → is_end (drop place bytes) ≡ false → frame_at place last (drop place bytes) ≡ Err fault → all_frames bytes ≡ Err fault
  broken fault r e f = r.same ∙ broken_by fault r.most r.enough e f

  on_by : (found : Placed × ℕ) (most : ℕ) → length bytes < place + most → all_frames bytes ≡ frames_from most place last read (drop place bytes)
      → is_end (drop place bytes) ≡ false → frame_at place last (drop place bytes) ≡ Ok found → 1 ≤ found.1 → Reading bytes (place + found.1) found.0.at (read ++ found.0 ∷ [])
  on_by found zero enough same e f some = absurd (omega arith)
  on_by found (suc most) enough same e f some = record {
    most = most;
    enough = omega (arith, enough, some);
    same = same ∙ next most place last read (drop place bytes) found e f ∙ ap (frames_from most (place + found.1) found.0.at (read ++ found.0 ∷ [])) (drop-drop found.1 place bytes);
  }

  pub on : (found : Placed × ℕ) → Reading bytes place last read → is_end (drop place bytes) ≡ false → frame_at place last (drop place bytes) ≡ Ok found → 1 ≤ found.1
      → Reading bytes (place + found.1) found.0.at (read ++ found.0 ∷ [])
  on found r e f some = on_by found r.most r.enough r.same e f some

-- the fault that bytes have
pub is_fault : (fault : TraceFault) (wanted : Result (List Placed) TraceFault) → wanted ≡ Err fault → IsFault fault wanted
is_fault NoMemory wanted e = tt
is_fault BadMagic wanted e = e
is_fault (Short place) wanted e = e
is_fault (BadField place) wanted e = e
is_fault (BadMessage place) wanted e = e
is_fault (BadOrder place) wanted e = e
is_fault (BadEnd place) wanted e = e
