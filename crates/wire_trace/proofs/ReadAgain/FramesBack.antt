-- A frame is read again, whatever follows it.
use Rattle.std.proofs.Common.{◌≡◌, ◌∙◌, ℕ, ◌+◌, ◌-◌, ◌<◌, ◌≤◌, ◌^◌, ◌==◌, ◌||◌, true, false, if◌then◌else◌, ◌⊎◌, inl, inr, List, ◌++◌, length, take, drop, ltb, Option, Some, None, Result, Ok, Err, IfSome, unwrap_or, refl, sym, ap, arith, length-append, append_assoc}
use Rattle.std.proofs.Math.Seq.{take-append_seam, drop-append_seam}
use Rattle.std.proofs.lemmas.Bool.{le-ltb, le-leb, eq-eqb, and_from, and_right, or_left, or_right, ne_eqb}
use Rattle.smc_num.specs.declared.LinkId.{LinkId}
use Rattle.smc_num.specs.declared.Side.{Side}
use Rattle.smc_num.specs.declared.Side.TheVariants.{A, B}
use Rattle.smc_num.specs.Names.{no_link}
use Rattle.pipe_model.specs.declared.post.Post.{Post}
use Rattle.pipe_model.specs.declared.post.Post.TheVariants.{Write, Cdc, Llc, Clc}
use Rattle.pipe_model.specs.declared.post.PostRef.{PostRef}
use Rattle.pipe_model.specs.declared.post.Placed.{Placed}
use Rattle.wire_trace.specs.declared.fault.TraceFault.{TraceFault}
use Rattle.wire_trace.specs.declared.fault.TraceFault.TheVariants.{Short, BadField, BadOrder}
use Rattle.wire_trace.specs.declared.head.Head.{Head}
use Rattle.wire_trace.specs.Heads.{head_bytes, head_at, is_link, is_no_link, allows_post, allows_link, allows_length, is_allowed}
use Rattle.wire_trace.specs.Messages.{message_bytes, kind_of, side_code, link_told, socket_told, head_for, post_in}
use Rattle.wire_trace.specs.Files.{frame_bytes, frame_of, whole_at, allowed_at, behind_head, is_behind, placed_at, frame_at, is_end}
use Rattle.wire_trace.specs.Traced.{IsLink, IsTold, IsPlaced, IsNumbered}
use Rattle.wire_trace.proofs.ReadAgain.Lengths.{llc_length, clc_length_is}
use Rattle.wire_trace.proofs.ReadAgain.MessagesBack.{post_back}
use Rattle.wire_trace.proofs.ReadAgain.HeadBack.{IsHead, head_back}
use Rattle.wire_trace.proofs.FrameByFrame.{goes_on}

-- how long the message of a post is
abbrev pub size_of : Post → ℕ
size_of post = length (message_bytes post)

-- the head of a post
abbrev pub head_of : Placed → Head
head_of p = head_for p.at p.post (size_of p.post)

-- a length is one of those of CLC messages
clc_allowed : (len : ℕ) → (len ≡ 52) ⊎ ((len ≡ 68) ⊎ (len ≡ 28)) → allows_length 1 len ≡ true
clc_allowed len (inl e) = or_left _ _ (or_left _ _ (eq-eqb len 52 e))
clc_allowed len (inr (inl e)) = or_left _ _ (or_right _ _ (eq-eqb len 68 e))
clc_allowed len (inr (inr e)) = or_right _ _ (eq-eqb len 28 e)

clc_short : (len : ℕ) → (len ≡ 52) ⊎ ((len ≡ 68) ⊎ (len ≡ 28)) → len ≤ 68
clc_short len (inl e) = omega (arith, e)
clc_short len (inr (inl e)) = omega (arith, e)
clc_short len (inr (inr e)) = omega (arith, e)

pub size_short : (post : Post) → IsTold post → size_of post ≤ 68
size_short (Write from link key address len) t = omega arith
size_short (Cdc from link m) t = omega arith
size_short (Llc from link m) t = let long = llc_length m t.1 in omega (arith, long)
size_short (Clc from s link m) t = clc_short _ (clc_length_is m t.2)

size_allowed : (post : Post) → IsTold post → allows_length (kind_of post) (size_of post) ≡ true
size_allowed (Write from link key address len) t = refl
size_allowed (Cdc from link m) t = refl
size_allowed (Llc from link m) t = eq-eqb _ 44 (llc_length m t.1)
size_allowed (Clc from s link m) t = clc_allowed _ (clc_length_is m t.2)

link_is : (link : LinkId) → IsLink link → is_link link ≡ true
link_is link h = and_from _ _ (and_from _ _ (and_from _ _ (le-leb 1 link.slot h.slot_low) (le-leb link.slot 8 h.slot_high)) (le-leb 1 link.group h.group_low)) (le-leb 1 link.incarnation h.incarnation_low)

link_or_none : (link : Option LinkId) → IfSome link IsLink → (is_link (unwrap_or link no_link) || is_no_link (unwrap_or link no_link)) ≡ true
link_or_none None h = refl
link_or_none (Some link) h = or_left _ _ (link_is link h)

link_allowed : (at : PostRef) (post : Post) (len : ℕ) → IsTold post → allows_link (head_for at post len) ≡ true
link_allowed at (Write from link key address size) len t = and_from _ _ (link_is link t.0) refl
link_allowed at (Cdc from link m) len t = and_from _ _ (link_is link t.0) refl
link_allowed at (Llc from link m) len t = and_from _ _ (link_is link t.0) refl
link_allowed at (Clc from s link m) len t = link_or_none link t.1

kind_low : (post : Post) → 1 ≤ kind_of post
kind_low (Write from link key address len) = omega arith
kind_low (Cdc from link m) = omega arith
kind_low (Llc from link m) = omega arith
kind_low (Clc from s link m) = omega arith

kind_high : (post : Post) → kind_of post ≤ 4
kind_high (Write from link key address len) = omega arith
kind_high (Cdc from link m) = omega arith
kind_high (Llc from link m) = omega arith
kind_high (Clc from s link m) = omega arith

side_high : (side : Side) → side_code side ≤ 1
side_high A = omega arith
side_high B = omega arith

post_allowed : (at : PostRef) (post : Post) (len : ℕ) → IsNumbered at → allows_post (head_for at post len) ≡ true
post_allowed at post len n =
    and_from _ _ (and_from _ _ (and_from _ _ (and_from _ _ (le-leb 1 at.post n.low) (le-leb at.post 6 n.high)) (le-leb 1 _ (kind_low post))) (le-leb _ 4 (kind_high post))) (le-leb _ 1 (side_high _))

pub head_allowed : (p : Placed) → IsPlaced p → IsNumbered p.at → is_allowed (head_of p) ≡ true
head_allowed p w n = and_from _ _ (and_from _ _ (post_allowed p.at p.post (size_of p.post) n) (link_allowed p.at p.post (size_of p.post) w.told)) (size_allowed p.post w.told)

link_wide : (link : LinkId) → IsLink link → (link.group < 2 ^ 32) × (link.incarnation < 2 ^ 32)
link_wide link h = (h.group_high, h.incarnation_high)

told_wide : (post : Post) → IsTold post → ((link_told post).group < 2 ^ 32) × ((link_told post).incarnation < 2 ^ 32) × (socket_told post < 2 ^ 32)
told_wide (Write from link key address len) t = (t.0.group_high, t.0.incarnation_high, omega arith)
told_wide (Cdc from link m) t = (t.0.group_high, t.0.incarnation_high, omega arith)
told_wide (Llc from link m) t = (t.0.group_high, t.0.incarnation_high, omega arith)
told_wide (Clc from s (Some link) m) t = (t.1.group_high, t.1.incarnation_high, t.0)
told_wide (Clc from s None m) t = (omega arith, omega arith, t.0)

head_wide : (p : Placed) → IsPlaced p → IsHead (head_of p)
head_wide p w =
    let wide = told_wide p.post w.told in
    let short = size_short p.post w.told in
    record { entry = w.entry; group = wide.0; incarnation = wide.1; socket = wide.2; len = omega (arith, short) }

module _ (p : Placed) (rest : List ℕ) where
  parted : frame_of p ++ rest ≡ head_bytes (head_of p) ++ (message_bytes p.post ++ rest)
  unfolding frame_bytes
  parted = append_assoc (head_bytes (head_of p)) (message_bytes p.post) rest

  pub frame_length : length (frame_of p) ≡ 22 + size_of p.post
  unfolding frame_bytes
  frame_length = length-append (head_bytes (head_of p)) (message_bytes p.post)

  -- what follows a frame
  pub frame_dropped : drop (22 + size_of p.post) (frame_of p ++ rest) ≡ rest
  frame_dropped = ap (λ n. drop n (frame_of p ++ rest)) (sym frame_length) ∙ drop-append_seam (frame_of p) rest

  pub frame_reaches : 22 + size_of p.post ≤ length (frame_of p ++ rest)
  frame_reaches = let sum = length-append (frame_of p) rest in omega (arith, sum, frame_length)

  module _ (w : IsPlaced p) where
    pub head_there : head_at (frame_of p ++ rest) ≡ head_of p
    head_there = ap head_at parted ∙ head_back (head_of p) (message_bytes p.post ++ rest) (head_wide p w)

    pub message_there : behind_head (head_of p) (frame_of p ++ rest) ≡ message_bytes p.post
    message_there =
        let same : 22 + size_of p.post - 22 ≡ size_of p.post = omega arith in
        ap (λ bytes. take (22 + size_of p.post - 22) (drop 22 bytes)) parted ∙ ap (λ n. take n (message_bytes p.post ++ rest)) same
        ∙ take-append_seam (message_bytes p.post) rest

    pub post_there : post_in (head_of p) (behind_head (head_of p) (frame_of p ++ rest)) ≡ Some p.post
    post_there = ap (post_in (head_of p)) message_there ∙ post_back p.at p.post (size_of p.post) w.told

    pub no_end : 1 ≤ p.at.entry → is_end (frame_of p ++ rest) ≡ false
    no_end some = and_right _ _ (ap (λ (h : Head). h.at.entry == 0) head_there ∙ ne_eqb p.at.entry 0 (λ e. absurd (omega (arith, e, some))))

whole_is : (place : ℕ) (bytes : List ℕ) (h : Head) → head_at bytes ≡ h → 22 + h.len ≤ length bytes → whole_at place bytes ≡ Ok h
whole_is place bytes h e reaches =
    ap (λ b. if b then Err (Short place) else inner) (le-ltb (length bytes) 22 (omega (arith, reaches)))
    ∙ ap (λ (g : Head). if ltb (length bytes) (22 + g.len) then Err (Short place) else Ok g) e
    ∙ ap (λ b. if b then Err (Short place) else Ok h) (le-ltb (length bytes) (22 + h.len) reaches)
  where
    inner : Result Head TraceFault
    inner = if ltb (length bytes) (22 + (head_at bytes).len) then Err (Short place) else Ok (head_at bytes)

-- a frame is read as its post
pub frame_read : (place : ℕ) (last : PostRef) (p : Placed) (rest : List ℕ) → IsPlaced p → IsNumbered p.at → is_behind last p.at ≡ true
    → frame_at place last (frame_of p ++ rest) ≡ Ok (p, 22 + size_of p.post)
unfolding frame_at
frame_read place last p rest w n behind =
    let bytes = frame_of p ++ rest in
    let h = head_of p in
    goes_on (whole_at place bytes) h _ (whole_is place bytes h (head_there p rest w) (frame_reaches p rest))
    ∙ goes_on (allowed_at place h) tt _ (ap (λ b. if b then Ok (tt {0}) else Err (BadField place)) (head_allowed p w n))
    ∙ goes_on (placed_at place last h.at (post_in h (behind_head h bytes))) p _
    (ap (placed_at place last h.at) (post_there p rest w) ∙ ap (λ b. if b then Ok p else Err (BadOrder place)) behind)
