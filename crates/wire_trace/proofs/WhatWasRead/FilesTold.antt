-- The posts of a file are such as have a file that is read as them.
use Rattle.std.proofs.Common.{◌≡◌, ◌∙◌, ℕ, zero, suc, ◌+◌, ◌<◌, ◌≤◌, ◌^◌, ◌==◌, nat_le, Bool, true, false, if◌then◌else◌, ◌⊎◌, inl, inr, List, [], ◌∷◌, ◌++◌, length, drop, Ok, All, refl, sym, ap, subst, arith, append_assoc, append-nil}
use Rattle.std.specs.List.{starts_with}
use Rattle.std.specs.Prelude.{nat_eq}
use Rattle.std.proofs.lemmas.Bool.{and_cases, leb-false, eqb-false}
use Rattle.std.proofs.lemmas.List.Elements.{All-cons, All-nil}
use Rattle.field_cases.specs.Fields.{number_at}
use Rattle.pipe_model.specs.declared.post.PostRef.{PostRef}
use Rattle.pipe_model.specs.declared.post.Placed.{Placed}
use Rattle.wire_trace.specs.declared.fault.TraceFault.TheVariants.{BadMagic}
use Rattle.wire_trace.specs.Heads.{head_at}
use Rattle.wire_trace.specs.Files.{◌>>=◌, magic, behind_head, frame_at, is_end, end_at, frames_from, all_frames, before_all, posts_of, file_of}
use Rattle.wire_trace.specs.Traced.{IsPlaced, IsNumbered, AreBehind, AreTraced}
use Rattle.wire_trace.proofs.WhatWasRead.Fitting.{AreSmall, number_low}
use Rattle.wire_trace.proofs.ReadAgain.{IsHead, one_file}
use Rattle.wire_trace.proofs.WhatWasRead.HeadsAgain.{small_behind}
use Rattle.wire_trace.proofs.FrameByFrame.{after_frame}
use Rattle.wire_trace.proofs.WhatWasRead.PostsTold.{post_told}
use Rattle.wire_trace.proofs.WhatWasRead.FilesAgain.{bound, passed, FrameRead, frame_as, small_range, range_long, end_as, file_again}

head_small : (bytes : List ℕ) → AreSmall bytes → IsHead (head_at bytes)
head_small bytes small = record {
  entry = number_low 4 0 bytes small;
  group = number_low 4 8 bytes small;
  incarnation = number_low 4 12 bytes small;
  socket = number_low 4 16 bytes small;
  len = number_low 2 20 bytes small;
}

-- a frame that is no end has an entry
some_entry : (bytes : List ℕ) → 22 ≤ length bytes → is_end bytes ≡ false → 1 ≤ number_at 4 0 bytes
some_entry bytes long e = by (and_cases (nat_le 4 (length bytes)) (number_at 4 0 bytes == 0) e)
  where
    by : (nat_le 4 (length bytes) ≡ false) ⊎ ((number_at 4 0 bytes == 0) ≡ false) → 1 ≤ number_at 4 0 bytes
    by (inl short) = let less = leb-false 4 (length bytes) short in absurd (omega (arith, less, long))
    by (inr some) = above (number_at 4 0 bytes) (eqb-false (number_at 4 0 bytes) 0 some)
      where
        above : (n : ℕ) → (n ≡ 0 → ⊥) → 1 ≤ n
        above zero not_zero = absurd (not_zero refl)
        above (suc n) not_zero = omega arith

-- the posts behind those that were read before are told wholly
record ReadOn (last : PostRef) (read posts : List Placed) : Type 0 where
  pub more : List Placed
  pub all : posts ≡ read ++ more
  pub told : All IsPlaced more
  pub numbered : All (λ p. IsNumbered p.at) more
  pub behind : AreBehind last more
  pub few : length posts < 2 ^ 32

module _ (last : PostRef) (bytes : List ℕ) (p : Placed) (n : ℕ) (small : AreSmall bytes) (r : FrameRead last bytes p n) where
  whole : 22 + (head_at bytes).len ≤ length bytes
  whole = subst (λ m. m ≤ length bytes) r.long r.reaches

  placed : IsPlaced p
  placed = record {
    entry = subst (λ (at : PostRef). at.entry < 2 ^ 32) (sym r.at) (number_low 4 0 bytes small);
    told = post_told (head_at bytes) (behind_head (head_at bytes) bytes) p.post r.fields (head_small bytes small) (small_range bytes (head_at bytes).len small) (range_long bytes (head_at bytes).len whole) r.message;
  }

  numbered : is_end bytes ≡ false → IsNumbered p.at
  numbered e = subst IsNumbered (sym r.at) (record { entry = some_entry bytes (omega (arith, whole)) e; low = r.fields.post_low; high = r.fields.post_high })

  on : (read posts : List Placed) → is_end bytes ≡ false → ReadOn p.at (read ++ p ∷ []) posts → ReadOn last read posts
  on read posts e later = record {
    more = p ∷ later.more;
    all = later.all ∙ append_assoc read (p ∷ []) later.more;
    told = All-cons IsPlaced p later.more placed later.told;
    numbered = All-cons (λ (q : Placed). IsNumbered q.at) p later.more (numbered e) later.numbered;
    behind = (r.behind, later.behind);
    few = later.few;
  }

ended : (place : ℕ) (last : PostRef) (read : List Placed) (bytes : List ℕ) (posts : List Placed) → AreSmall bytes → end_at place read bytes ≡ Ok posts → ReadOn last read posts
ended place last read bytes posts small e =
    let end = end_as place read bytes posts e in
    let count : length posts ≡ number_at 4 4 bytes = ap length (sym end.all) ∙ sym end.count in
    record {
      more = [];
      all = sym end.all ∙ sym (append-nil read);
      told = All-nil IsPlaced;
      numbered = All-nil (λ (q : Placed). IsNumbered q.at);
      behind = tt;
      few = subst (λ m. m < 2 ^ 32) (sym count) (number_low 4 4 bytes small);
    }

frames_told : (most place : ℕ) (last : PostRef) (read : List Placed) (bytes : List ℕ) (posts : List Placed) → AreSmall bytes → frames_from most place last read bytes ≡ Ok posts → ReadOn last read posts
frames_told zero place last read bytes posts small e = absurd (cc)
frames_told (suc most) place last read bytes posts small e =
    by (is_end bytes) refl e
    (λ found. frames_told most (place + found.1) found.0.at (read ++ found.0 ∷ []) (drop found.1 bytes) posts (small_behind found.1 bytes small))
  where
    by : (b : Bool) → is_end bytes ≡ b → (if b then end_at place read bytes else (frame_at place last bytes >>= after_frame most place read bytes)) ≡ Ok posts
        → ((found : Placed × ℕ) → after_frame most place read bytes found ≡ Ok posts → ReadOn found.0.at (read ++ found.0 ∷ []) posts) → ReadOn last read posts
    by true b e later = ended place last read bytes posts small e
    by false b e later =
        let found = bound (frame_at place last bytes) (after_frame most place read bytes) posts e in
        on last bytes found.0.0 found.0.1 small (frame_as place last bytes found.0.0 found.0.1 found.1) read posts b (later found.0 found.2)

pub file_told : (bytes : List ℕ) (posts : List Placed) → AreSmall bytes → posts_of bytes ≡ Ok posts → AreTraced posts
file_told bytes posts small e =
    let begins = passed (starts_with nat_eq bytes magic) BadMagic (all_frames bytes) posts e in
    let read = frames_told (length bytes) 5 before_all [] (drop 5 bytes) posts (small_behind 5 bytes small) begins.1 in
    record {
      told = subst (All IsPlaced) (sym read.all) read.told;
      numbered = subst (All (λ (q : Placed). IsNumbered q.at)) (sym read.all) read.numbered;
      behind = subst (AreBehind before_all) (sym read.all) read.behind;
      few = read.few;
    }

-- no other list has the file that was read
pub file_alone : (bytes : List ℕ) (posts : List Placed) → AreSmall bytes → posts_of bytes ≡ Ok posts → (others : List Placed) → All IsPlaced others → file_of others ≡ bytes → others ≡ posts
file_alone bytes posts small e others told same =
    one_file others posts told (file_told bytes posts small e).told (same ∙ sym (file_again bytes posts small e))
