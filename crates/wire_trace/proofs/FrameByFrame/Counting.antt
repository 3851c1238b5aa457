-- The posts of entries, entry by entry, and how their frames are put.
use Rattle.std.proofs.Common.{◌≡◌, ◌∙◌, ℕ, ◌+◌, ◌<◌, List, [], ◌∷◌, ◌++◌, false, Option, Result, Ok, Err, length, drop, get_or, refl, sym, ap, arith, length-append}
use Rattle.std.proofs.lemmas.List.{drop_more}
use Rattle.std.proofs.lemmas.Grind.{flat_map-append}
use Rattle.std.specs.Result.{IsErr}
use Rattle.byte_port.specs.Pages.{Stands, Wrote}
use Rattle.byte_port.proofs.Paging.{Going, cut_off}
use Rattle.pipe_model.specs.declared.post.Post.{Post}
use Rattle.pipe_model.specs.declared.entry.Entry.{Entry}
use Rattle.pipe_model.specs.History.{numbered}
use Rattle.wire_trace.specs.Files.{frame_bytes, frame_of, frames_of, posts_from}

-- the frame of the next post stands in front of those of the later ones
pub next_frame : (entry : ℕ) (posts : List Post) (i : ℕ) (d : Post) → i < length posts
    → frames_of (numbered entry (i + 1) (drop i posts)) ≡ frame_bytes (record { entry = entry; post = i + 1 }) (get_or posts i d) ++ frames_of (numbered entry (i + 1 + 1) (drop (i + 1) posts))
next_frame entry posts i d l = ap (λ xs. frames_of (numbered entry (i + 1) xs)) (drop_more posts i d l)

-- the frames of the next entry stand in front of those of the later ones
pub next_frames : (entries : List Entry) (i : ℕ) (e : Entry) (posts : List Post) → e ≡ get_or entries i e → posts ≡ e.posts → i < length entries
    → frames_of (posts_from (i + 1) (drop i entries)) ≡ frames_of (numbered (i + 1) 1 posts) ++ frames_of (posts_from (i + 1 + 1) (drop (i + 1) entries))
next_frames entries i e posts is same l =
    ap (λ xs. frames_of (posts_from (i + 1) xs)) (drop_more entries i e l)
    ∙ flat_map-append frame_of (numbered (i + 1) 1 (get_or entries i e).posts) (posts_from (i + 1 + 1) (drop (i + 1) entries))
    ∙ ap (λ xs. frames_of (numbered (i + 1) 1 xs) ++ frames_of (posts_from (i + 1 + 1) (drop (i + 1) entries))) (ap (λ (x : Entry). x.posts) (sym is) ∙ sym same)

numbered_length : (entry first : ℕ) (posts : List Post) → length (numbered entry first posts) ≡ length posts
numbered_length entry first [] = refl
numbered_length entry first (post ∷ posts) = let rest = numbered_length entry (first + 1) posts in omega (arith, rest)

-- the posts of the next entry are counted with those of the later ones
pub next_count : (entries : List Entry) (i : ℕ) (e : Entry) (posts : List Post) → e ≡ get_or entries i e → posts ≡ e.posts → i < length entries
    → length (posts_from (i + 1) (drop i entries)) ≡ length posts + length (posts_from (i + 1 + 1) (drop (i + 1) entries))
next_count entries i e posts is same l =
    let sum = length-append (numbered (i + 1) 1 (get_or entries i e).posts) (posts_from (i + 1 + 1) (drop (i + 1) entries)) in
    let these = numbered_length (i + 1) 1 (get_or entries i e).posts in
    let here : length (get_or entries i e).posts ≡ length posts = ap (λ (x : Entry). length x.posts) (sym is) ∙ ap length (sym same) in
    ap (λ xs. length (posts_from (i + 1) xs)) (drop_more entries i e l) ∙ omega (arith, sum, these, here)

module _ (a : Option (List ℕ)) (p : List ℕ) (b : Option (List ℕ)) (q piece text : List ℕ) where
  -- a call that failed put a front of the next piece
  pub broke_off : {T E : Type 0} (rest later : List ℕ) (result : Result T E) (c : Option (List ℕ)) (r : List ℕ) → IsErr result → Going a p b q rest text → rest ≡ piece ++ later → Stands false b q c r piece → Wrote result a p c r text
  broke_off rest later (Ok x) c r failed going next s = absurd (cc)
  broke_off rest later (Err e) c r failed going next s = cut_off a p b q rest text going c r piece later next s
