-- The file of posts is read as the posts.
use Rattle.std.proofs.Common.{◌≡◌, ◌∙◌, ℕ, zero, suc, ◌+◌, ◌<◌, ◌≤◌, ◌^◌, if◌then◌else◌, List, [], ◌∷◌, ◌++◌, length, Ok, Err, All, sym, ap, arith, length-append, append_assoc, append-nil}
use Rattle.std.proofs.lemmas.Bool.{eq-eqb}
use Rattle.std.proofs.lemmas.List.Elements.{All-head, All-tail}
use Rattle.byteorder.specs.Numbers.{big_number-reads_back}
use Rattle.pipe_model.specs.declared.post.PostRef.{PostRef}
use Rattle.pipe_model.specs.declared.post.Placed.{Placed}
use Rattle.wire_trace.specs.declared.fault.TraceFault.TheVariants.{BadEnd}
use Rattle.wire_trace.specs.Files.{frame_of, frames_of, end_bytes, file_of, frames_from, before_all, posts_of}
use Rattle.wire_trace.specs.Traced.{IsPlaced, IsNumbered, AreBehind, AreTraced}
use Rattle.wire_trace.proofs.FrameByFrame.{next}
use Rattle.wire_trace.proofs.ReadAgain.FramesBack.{size_of, frame_length, frame_dropped, no_end, frame_read}

frames_back : (posts : List Placed) (most place : ℕ) (last : PostRef) (read : List Placed) → All IsPlaced posts → All (λ p. IsNumbered p.at) posts → AreBehind last posts
    → length read + length posts < 2 ^ 32 → length posts < most
    → frames_from most place last read (frames_of posts ++ end_bytes (length read + length posts)) ≡ Ok (read ++ posts)
frames_back posts zero place last read told numbered behind few enough = absurd (omega arith)
frames_back [] (suc most) place last read told numbered behind few enough =
    let count : length read + 0 ≡ length read = omega arith in
    ap (λ b. if b then Ok read else Err (BadEnd place)) (eq-eqb _ _ (big_number-reads_back 4 (length read + 0) [] few ∙ count))
    ∙ ap Ok (sym (append-nil read))
frames_back (p ∷ posts) (suc most) place last read told numbered behind few enough =
    let told_p = All-head IsPlaced p posts told in
    let numbered_p = All-head (λ (p : Placed). IsNumbered p.at) p posts numbered in
    let last_bytes = end_bytes (length read + length (p ∷ posts)) in
    let rest = frames_of posts ++ last_bytes in
    let count : length read + length (p ∷ posts) ≡ length (read ++ p ∷ []) + length posts = let sum = length-append read (p ∷ []) in omega (arith, sum) in
    ap (frames_from (suc most) place last read) (append_assoc (frame_of p) (frames_of posts) last_bytes)
    ∙ next most place last read (frame_of p ++ rest) (p, 22 + size_of p.post) (no_end p rest told_p numbered_p.entry) (frame_read place last p rest told_p numbered_p behind.0)
    ∙ ap (frames_from most (place + (22 + size_of p.post)) p.at (read ++ p ∷ [])) (frame_dropped p rest ∙ ap (λ n. frames_of posts ++ end_bytes n) count)
    ∙ frames_back posts most (place + (22 + size_of p.post)) p.at (read ++ p ∷ []) (All-tail IsPlaced p posts told) (All-tail (λ (p : Placed). IsNumbered p.at) p posts numbered) behind.1 (omega (arith, few, count)) (omega (arith, enough))
    ∙ ap Ok (append_assoc read (p ∷ []) posts)

-- each frame has at least one byte
frames_long : (posts : List Placed) → length posts ≤ length (frames_of posts)
frames_long [] = omega arith
frames_long (p ∷ posts) =
    let rest = frames_long posts in
    let sum = length-append (frame_of p) (frames_of posts) in
    let long = frame_length p [] in
    omega (arith, rest, sum, long)

pub file_back : (posts : List Placed) → AreTraced posts → posts_of (file_of posts) ≡ Ok posts
file_back posts t =
    let sum = length-append (frames_of posts) (end_bytes (length posts)) in
    let long = frames_long posts in
    let count : length posts ≡ length {A = Placed} [] + length posts = omega arith in
    ap (λ n. frames_from (length (file_of posts)) 5 before_all [] (frames_of posts ++ end_bytes n)) count
    ∙ frames_back posts (length (file_of posts)) 5 before_all [] t.told t.numbered t.behind (omega (arith, t.few)) (omega (arith, sum, long))
