-- Bytes of which posts were read are the file of the posts.
use Rattle.std.proofs.Common.{◌≡◌, ◌∙◌, ℕ, zero, suc, ◌+◌, ◌-◌, ◌<◌, ◌≤◌, ◌==◌, ◌&&◌, Bool, true, false, if◌then◌else◌, ltb, nat_eq, List, [], ◌∷◌, ◌++◌, length, take, drop, slice_range, Option, Some, None, Result, Ok, Err, refl, sym, ap, subst, arith, append_assoc, length-drop, take-append-drop, take_all, length-take-le, append-nil, nat_le, All}
use Rattle.std.specs.List.{starts_with}
use Rattle.std.proofs.lemmas.Bool.{and_parts, ltb-false, eqb-true}
use Rattle.std.proofs.lemmas.Bool.Decides.{Decides-eqb}
use Rattle.std.proofs.lemmas.Slice.Eq.{starts_is}
use Rattle.std.proofs.lemmas.Grind.{flat_map-append}
use Rattle.std.proofs.lemmas.List.Elements.{All-tail}
use Rattle.byteorder.specs.Endian.{big_bytes}
use Rattle.field_cases.specs.Fields.{number_at}
use Rattle.pipe_model.specs.declared.post.Post.{Post}
use Rattle.pipe_model.specs.declared.post.PostRef.{PostRef}
use Rattle.pipe_model.specs.declared.post.Placed.{Placed}
use Rattle.wire_trace.specs.declared.fault.TraceFault.{TraceFault}
use Rattle.wire_trace.specs.declared.fault.TraceFault.TheVariants.{BadMagic, Short, BadField, BadOrder, BadEnd}
use Rattle.wire_trace.specs.declared.head.Head.{Head}
use Rattle.wire_trace.specs.Heads.{head_bytes, head_at, is_allowed}
use Rattle.wire_trace.specs.Messages.{message_bytes, head_for, post_in}
use Rattle.wire_trace.specs.Files.{◌>>=◌, magic, frame_bytes, frame_of, frames_of, end_bytes, file_of, whole_at, allowed_at, behind_head, is_behind, placed_at, frame_at, is_end, end_at, frames_from, all_frames, before_all, posts_of}
use Rattle.wire_trace.proofs.WhatWasRead.Fitting.{AreSmall}
use Rattle.wire_trace.proofs.WhatWasRead.HeadsAgain.{four_at, joined, head_again, small_behind}
use Rattle.wire_trace.proofs.WhatWasRead.Spelled.{Allowed, allowed, spelled}
use Rattle.wire_trace.proofs.FrameByFrame.{after_frame}

-- where reading came to an end, it had begun
pub bound : {X Y : Type 0} (read : Result X TraceFault) (next : X → Result Y TraceFault) (y : Y) → (read >>= next) ≡ Ok y → (x : X) × (read ≡ Ok x) × (next x ≡ Ok y)
bound (Ok x) next y e = (x, refl, e)
bound (Err fault) next y e = absurd (cc)

-- a test that stopped nothing
pub not_stopped : {X : Type 0} (b : Bool) (fault : TraceFault) (read : Result X TraceFault) (x : X) → (if b then Err fault else read) ≡ Ok x → (b ≡ false) × (read ≡ Ok x)
not_stopped true fault read x e = absurd (cc)
not_stopped false fault read x e = (refl, e)

-- a test that was passed
pub passed : {X : Type 0} (b : Bool) (fault : TraceFault) (read : Result X TraceFault) (x : X) → (if b then read else Err fault) ≡ Ok x → (b ≡ true) × (read ≡ Ok x)
passed true fault read x e = (refl, e)
passed false fault read x e = absurd (cc)

abbrev value_of : {X : Type 0} → X → Result X TraceFault → X
value_of d (Ok x) = x
value_of d (Err e) = d

pub same_value : {X : Type 0} (x y : X) → ◌≡◌ {A = Result X TraceFault} (Ok x) (Ok y) → x ≡ y
same_value x y e = ap (value_of x) e

-- what `placed_at` tells of a post
record PlacedAs (last at : PostRef) (found : Option Post) (p : Placed) : Type 0 where
  pub post : Post
  pub some : found ≡ Some post
  pub behind : is_behind last at ≡ true
  pub is : record { at = at; post = post } ≡ p

placed_as : (place : ℕ) (last at : PostRef) (found : Option Post) (p : Placed) → placed_at place last at found ≡ Ok p → PlacedAs last at found p
placed_as place last at None p e = absurd (cc)
placed_as place last at (Some post) p e =
    let both = passed (is_behind last at) (BadOrder place) (Ok (record { at = at; post = post })) p e in
    record { post = post; some = refl; behind = both.0; is = same_value _ p both.1 }

-- what was read of a frame
pub record FrameRead (last : PostRef) (bytes : List ℕ) (p : Placed) (n : ℕ) : Type 0 where
  pub at : p.at ≡ (head_at bytes).at
  pub long : n ≡ 22 + (head_at bytes).len
  pub reaches : n ≤ length bytes
  pub fields : Allowed (head_at bytes)
  pub message : post_in (head_at bytes) (behind_head (head_at bytes) bytes) ≡ Some p.post
  pub behind : is_behind last p.at ≡ true

module _ (place : ℕ) (last : PostRef) (bytes : List ℕ) where
  whole_as : (h : Head) → whole_at place bytes ≡ Ok h → (head_at bytes ≡ h) × (22 + h.len ≤ length bytes)
  whole_as h e =
      let inner : Result Head TraceFault = if ltb (length bytes) (22 + (head_at bytes).len) then Err (Short place) else Ok (head_at bytes) in
      let first = not_stopped (ltb (length bytes) 22) (Short place) inner h e in
      let second = not_stopped (ltb (length bytes) (22 + (head_at bytes).len)) (Short place) (Ok (head_at bytes)) h first.1 in
      let same = same_value (head_at bytes) h second.1 in
      (same, subst (λ (g : Head). 22 + g.len ≤ length bytes) same (ltb-false (length bytes) (22 + (head_at bytes).len) second.0))

  pub frame_as : (p : Placed) (n : ℕ) → frame_at place last bytes ≡ Ok (p, n) → FrameRead last bytes p n
  unfolding frame_at
  frame_as p n e =
      let whole = bound (whole_at place bytes) (λ h. allowed_at place h >>= λ fields. placed_at place last h.at (post_in h (behind_head h bytes)) >>= λ placed. Ok (placed, 22 + h.len)) (p, n) e in
      let h = whole.0 in
      let is = whole_as h whole.1 in
      let fields = bound (allowed_at place h) (λ fields. placed_at place last h.at (post_in h (behind_head h bytes)) >>= λ placed. Ok (placed, 22 + h.len)) (p, n) whole.2 in
      let fine = passed (is_allowed h) (BadField place) (Ok (tt {0})) fields.0 fields.1 in
      let order = bound (placed_at place last h.at (post_in h (behind_head h bytes))) (λ placed. Ok (placed, 22 + h.len)) (p, n) fields.2 in
      let found = placed_as place last h.at (post_in h (behind_head h bytes)) order.0 order.1 in
      let pair : (order.0, 22 + h.len) ≡ (p, n) = same_value _ (p, n) order.2 in
      let p_is : record { at = h.at; post = found.post } ≡ p = found.is ∙ ap (λ (x : Placed × ℕ). x.0) pair in
      let n_is : 22 + h.len ≡ n = ap (λ (x : Placed × ℕ). x.1) pair in
      record {
        at = sym (ap (λ (x : Placed). x.at) p_is) ∙ sym (ap (λ (g : Head). g.at) is.0);
        long = sym n_is ∙ sym (ap (λ (g : Head). 22 + g.len) is.0);
        reaches = subst (λ m. m ≤ length bytes) n_is is.1;
        fields = subst Allowed (sym is.0) (allowed h fine.0);
        message = (λ i. post_in (is.0 i) (behind_head (is.0 i) bytes)) ∙ found.some ∙ ap (λ (x : Placed). Some x.post) p_is;
        behind = ap (λ (x : Placed). is_behind last x.at) (sym p_is) ∙ found.behind;
      }

-- the bytes behind a head
pub behind_is : (bytes : List ℕ) (len : ℕ) → slice_range bytes 22 (22 + len) ≡ take len (drop 22 bytes)
behind_is bytes len = let same : 22 + len - 22 ≡ len = omega arith in ap (λ n. take n (drop 22 bytes)) same

small_front : (n : ℕ) (bytes : List ℕ) → AreSmall bytes → AreSmall (take n bytes)
small_front zero bytes small k = omega arith
small_front (suc n) [] small k = small k
small_front (suc n) (b ∷ bytes) small zero = small 0
small_front (suc n) (b ∷ bytes) small (suc k) = small_front n bytes (λ i. small (suc i)) k

pub small_range : (bytes : List ℕ) (len : ℕ) → AreSmall bytes → AreSmall (slice_range bytes 22 (22 + len))
small_range bytes len small = subst AreSmall (sym (behind_is bytes len)) (small_front len (drop 22 bytes) (small_behind 22 bytes small))

pub range_long : (bytes : List ℕ) (len : ℕ) → 22 + len ≤ length bytes → length (slice_range bytes 22 (22 + len)) ≡ len
range_long bytes len reaches =
    ap length (behind_is bytes len) ∙ (let left = length-drop 22 bytes in length-take-le len (drop 22 bytes) (omega (arith, left, reaches)))

-- a frame that was read has these bytes
pub frame_again : (last : PostRef) (bytes : List ℕ) (p : Placed) (n : ℕ) → AreSmall bytes → FrameRead last bytes p n → frame_of p ≡ take n bytes
unfolding frame_bytes
frame_again last bytes p n small r =
    let h = head_at bytes in
    let reaches : 22 + h.len ≤ length bytes = subst (λ m. m ≤ length bytes) r.long r.reaches in
    let long = range_long bytes h.len reaches in
    let told = spelled h (behind_head h bytes) p.post r.fields (small_range bytes h.len small) long r.message in
    let len : length (message_bytes p.post) ≡ h.len = ap length told.message ∙ long in
    let head : head_for p.at p.post (length (message_bytes p.post)) ≡ h =
    λ i. record { at = r.at i; kind = told.kind i; side = told.side i; link = told.link i; socket = told.socket i; len = len i } in
    joined 22 h.len bytes (head_bytes (head_for p.at p.post (length (message_bytes p.post)))) (message_bytes p.post)
    (ap head_bytes head ∙ head_again bytes small (omega (arith, reaches)))
    (told.message ∙ behind_is bytes h.len)
    ∙ ap (λ m. take m bytes) (sym r.long)

-- the end that was read has these bytes
end_again : (bytes : List ℕ) (count : ℕ) → AreSmall bytes → length bytes ≡ 8 → number_at 4 0 bytes ≡ 0 → number_at 4 4 bytes ≡ count → bytes ≡ end_bytes count
end_again bytes count small long zeros counted =
    sym (take_all 8 bytes (omega (arith, long)))
    ∙ sym (joined 4 4 bytes (big_bytes 4 0) (big_bytes 4 count)
    (ap (big_bytes 4) (sym zeros) ∙ four_at bytes small 0 (omega (arith, long)))
    (ap (big_bytes 4) (sym counted) ∙ four_at bytes small 4 (omega (arith, long))))

-- what is read at the end
pub record EndRead (read : List Placed) (bytes : List ℕ) (posts : List Placed) : Type 0 where
  pub all : read ≡ posts
  pub long : length bytes ≡ 8
  pub count : number_at 4 4 bytes ≡ length read

pub end_as : (place : ℕ) (read : List Placed) (bytes : List ℕ) (posts : List Placed) → end_at place read bytes ≡ Ok posts → EndRead read bytes posts
end_as place read bytes posts e =
    let inner : Result (List Placed) TraceFault = if (length bytes == 8) && (number_at 4 4 bytes == length read) then Ok read else Err (BadEnd place) in
    let whole = not_stopped (ltb (length bytes) 8) (Short place) inner posts e in
    let right = passed ((length bytes == 8) && (number_at 4 4 bytes == length read)) (BadEnd place) (Ok read) posts whole.1 in
    let both = and_parts (length bytes == 8) (number_at 4 4 bytes == length read) right.0 in
    record { all = same_value read posts right.1; long = eqb-true (length bytes) 8 both.0; count = eqb-true (number_at 4 4 bytes) (length read) both.1 }

one_more : (p : Placed) (read : List Placed) → frames_of (read ++ p ∷ []) ≡ frames_of read ++ frame_of p
one_more p read = flat_map-append frame_of read (p ∷ []) ∙ ap (λ xs. frames_of read ++ xs) (append-nil (frame_of p))

-- the claim for what is read from a place on
abbrev AreAgain : List Placed → List ℕ → List Placed → Type 0
AreAgain read bytes posts = frames_of read ++ bytes ≡ frames_of posts ++ end_bytes (length posts)

ended_again : (place : ℕ) (read : List Placed) (bytes : List ℕ) (posts : List Placed) → AreSmall bytes → is_end bytes ≡ true → end_at place read bytes ≡ Ok posts → AreAgain read bytes posts
ended_again place read bytes posts small b e =
    let end = end_as place read bytes posts e in
    let zeros = and_parts (nat_le 4 (length bytes)) (number_at 4 0 bytes == 0) b in
    (λ i. frames_of (end.all i) ++ end_again bytes (length read) small end.long (eqb-true (number_at 4 0 bytes) 0 zeros.1) end.count i)
    ∙ ap (λ (xs : List Placed). frames_of posts ++ end_bytes (length xs)) end.all

went_on : (last : PostRef) (read : List Placed) (bytes : List ℕ) (posts : List Placed) (found : Placed × ℕ) → AreSmall bytes → FrameRead last bytes found.0 found.1
    → AreAgain (read ++ found.0 ∷ []) (drop found.1 bytes) posts → AreAgain read bytes posts
went_on last read bytes posts found small r again =
    ap (λ xs. frames_of read ++ xs) (sym (take-append-drop found.1 bytes) ∙ ap (λ xs. xs ++ drop found.1 bytes) (sym (frame_again last bytes found.0 found.1 small r)))
    ∙ sym (append_assoc (frames_of read) (frame_of found.0) (drop found.1 bytes))
    ∙ ap (λ xs. xs ++ drop found.1 bytes) (sym (one_more found.0 read))
    ∙ again

frames_again : (most place : ℕ) (last : PostRef) (read : List Placed) (bytes : List ℕ) (posts : List Placed) → AreSmall bytes → frames_from most place last read bytes ≡ Ok posts → AreAgain read bytes posts
frames_again zero place last read bytes posts small e = absurd (cc)
frames_again (suc most) place last read bytes posts small e =
    by (is_end bytes) refl e
    (λ found. frames_again most (place + found.1) found.0.at (read ++ found.0 ∷ []) (drop found.1 bytes) posts (small_behind found.1 bytes small))
  where
    by : (b : Bool) → is_end bytes ≡ b → (if b then end_at place read bytes else (frame_at place last bytes >>= after_frame most place read bytes)) ≡ Ok posts
        → ((found : Placed × ℕ) → after_frame most place read bytes found ≡ Ok posts → AreAgain (read ++ found.0 ∷ []) (drop found.1 bytes) posts) → AreAgain read bytes posts
    by true b e on = ended_again place read bytes posts small b e
    by false b e on =
        let found = bound (frame_at place last bytes) (after_frame most place read bytes) posts e in
        went_on last read bytes posts found.0 small (frame_as place last bytes found.0.0 found.0.1 found.1) (on found.0 found.2)

pub small_bytes : (bytes : List ℕ) → All (λ (b : ℕ). b < 256) bytes → AreSmall bytes
small_bytes [] all k = omega arith
small_bytes (b ∷ bytes) all zero = all 0 0 (omega arith)
small_bytes (b ∷ bytes) all (suc k) = small_bytes bytes (All-tail (λ (b : ℕ). b < 256) b bytes all) k

pub file_again : (bytes : List ℕ) (posts : List Placed) → AreSmall bytes → posts_of bytes ≡ Ok posts → file_of posts ≡ bytes
file_again bytes posts small e =
    let begins = passed (starts_with nat_eq bytes magic) BadMagic (all_frames bytes) posts e in
    let whole = (starts_is Decides-eqb bytes magic (starts_with nat_eq bytes magic) refl).0 begins.0 in
    ap (λ xs. magic ++ xs) (sym (frames_again (length bytes) 5 before_all [] (drop 5 bytes) posts (small_behind 5 bytes small) begins.1)) ∙ sym whole
