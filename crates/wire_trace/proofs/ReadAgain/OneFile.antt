-- No two lists of posts have the same file.
use Rattle.std.proofs.Common.{◌≡◌, ◌∙◌, ℕ, ◌+◌, List, [], ◌∷◌, ◌++◌, length, drop, Some, All, unwrap_or, refl, sym, ap, arith, length-append, append_assoc}
use Rattle.std.proofs.lemmas.List.Elements.{All-head, All-tail}
use Rattle.pipe_model.specs.declared.post.Placed.{Placed}
use Rattle.wire_trace.specs.declared.head.Head.{Head}
use Rattle.wire_trace.specs.Heads.{head_at}
use Rattle.wire_trace.specs.Messages.{post_in}
use Rattle.wire_trace.specs.Files.{behind_head, frame_of, frames_of, end_bytes, file_of}
use Rattle.wire_trace.specs.Traced.{IsPlaced}
use Rattle.wire_trace.proofs.ReadAgain.FramesBack.{head_of, frame_length, frame_dropped, head_there, post_there}

-- where a frame stands there is more than an end
frame_or_end : (p : Placed) (posts : List Placed) (m n : ℕ) → end_bytes m ≡ frames_of (p ∷ posts) ++ end_bytes n → ⊥
frame_or_end p posts m n e =
    let lengths : 8 ≡ length ((frame_of p ++ frames_of posts) ++ end_bytes n) = ap length e in
    let sum = length-append (frame_of p ++ frames_of posts) (end_bytes n) in
    let more = length-append (frame_of p) (frames_of posts) in
    let long = frame_length p [] in
    omega (arith, lengths, sum, more, long)

-- two frames that begin the same bytes are those of one post
module _ (p q : Placed) (r s : List ℕ) (wp : IsPlaced p) (wq : IsPlaced q) (whole : frame_of p ++ r ≡ frame_of q ++ s) where
  same_head : head_of p ≡ head_of q
  same_head = sym (head_there p r wp) ∙ ap head_at whole ∙ head_there q s wq

  same_message : Some p.post ≡ Some q.post
  same_message = sym (post_there p r wp) ∙ (λ i. post_in (same_head i) (behind_head (same_head i) (whole i))) ∙ post_there q s wq

  same_at : p.at ≡ q.at
  same_at = ap (λ (h : Head). h.at) same_head

  same_post : p.post ≡ q.post
  same_post = ap (λ o. unwrap_or o p.post) same_message

  same_rest : r ≡ s
  same_rest = sym (frame_dropped p r) ∙ (λ i. drop (22 + (same_head i).len) (whole i)) ∙ frame_dropped q s

pub same_frames : (ps qs : List Placed) (m n : ℕ) → All IsPlaced ps → All IsPlaced qs → frames_of ps ++ end_bytes m ≡ frames_of qs ++ end_bytes n → ps ≡ qs
same_frames [] [] m n tp tq e = refl
same_frames [] (q ∷ qs) m n tp tq e = absurd (frame_or_end q qs m n e)
same_frames (p ∷ ps) [] m n tp tq e = absurd (frame_or_end p ps n m (sym e))
same_frames (p ∷ ps) (q ∷ qs) m n tp tq e =
    let r = frames_of ps ++ end_bytes m in
    let s = frames_of qs ++ end_bytes n in
    let wp = All-head IsPlaced p ps tp in
    let wq = All-head IsPlaced q qs tq in
    let whole : frame_of p ++ r ≡ frame_of q ++ s = sym (append_assoc (frame_of p) (frames_of ps) (end_bytes m)) ∙ e ∙ append_assoc (frame_of q) (frames_of qs) (end_bytes n) in
    let rest = same_frames ps qs m n (All-tail IsPlaced p ps tp) (All-tail IsPlaced q qs tq) (same_rest p q r s wp wq whole) in
    λ i. record { at = same_at p q r s wp wq whole i; post = same_post p q r s wp wq whole i } ∷ rest i

pub one_file : (ps qs : List Placed) → All IsPlaced ps → All IsPlaced qs → file_of ps ≡ file_of qs → ps ≡ qs
one_file ps qs tp tq e = same_frames ps qs (length ps) (length qs) tp tq (ap (drop 5) e)
