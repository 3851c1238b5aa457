-- The file of posts, and the posts of a file.
-- A reader learns here what stands in a trace, and which fault bytes have that are none.
use Rattle.std.specs.Prelude.{◌≡◌, ℕ, zero, suc, ◌+◌, ◌==◌, ◌&&◌, ◌||◌, nat_lt, nat_le, nat_eq, Bool, List, [], ◌∷◌, ◌++◌, length, drop, flat_map, Option, Some, None, Result, Ok, Err, if◌then◌else◌}
use Rattle.std.specs.List.{starts_with}
use Rattle.byteorder.specs.Endian.{big_bytes}
use Rattle.field_cases.specs.Fields.{number_at, bytes_at}
use Rattle.pipe_model.specs.declared.post.Post.{Post}
use Rattle.pipe_model.specs.declared.post.PostRef.{PostRef}
use Rattle.pipe_model.specs.declared.post.Placed.{Placed}
use Rattle.pipe_model.specs.declared.entry.Entry.{Entry}
use Rattle.pipe_model.specs.History.{numbered}
use Rattle.wire_trace.specs.declared.fault.TraceFault.{TraceFault}
use Rattle.wire_trace.specs.declared.fault.TraceFault.TheVariants.{NoMemory, BadMagic, Short, BadField, BadMessage, BadOrder, BadEnd}
use Rattle.wire_trace.specs.declared.head.Head.{Head}
use Rattle.wire_trace.specs.Heads.{head_bytes, head_at, is_allowed}
use Rattle.wire_trace.specs.Messages.{message_bytes, head_for, post_in}

-- what a trace begins with: SMCT, and the number of the format
abbrev pub magic : List ℕ
magic = 0x53 ∷ 0x4d ∷ 0x43 ∷ 0x54 ∷ 0x01 ∷ []

-- the frame of a post
unfoldable pub frame_bytes : PostRef → Post → List ℕ
frame_bytes at post = head_bytes (head_for at post (length (message_bytes post))) ++ message_bytes post

abbrev pub frame_of : Placed → List ℕ
frame_of p = frame_bytes p.at p.post

-- frames, one behind another
abbrev pub frames_of : List Placed → List ℕ
frames_of posts = flat_map frame_of posts

-- the end of a trace of so many frames
abbrev pub end_bytes : ℕ → List ℕ
end_bytes count = big_bytes 4 0 ++ big_bytes 4 count

-- the file of posts
abbrev pub file_of : List Placed → List ℕ
file_of posts = magic ++ (frames_of posts ++ end_bytes (length posts))

-- the posts of entries with their places, the first entry having this number
abbrev pub posts_from : ℕ → List Entry → List Placed
posts_from number [] = []
posts_from number (e ∷ es) = numbered number 1 e.posts ++ posts_from (number + 1) es

-- the posts of a history, whose first entry comes first
abbrev pub posts_in : List Entry → List Placed
posts_in entries = posts_from 1 entries

-- reading goes on with the value, or ends with the fault
infixl 10 ◌>>=◌
abbrev pub ◌>>=◌ : {X Y : Type 0} → Result X TraceFault → (X → Result Y TraceFault) → Result Y TraceFault
(Ok value) >>= next = next value
(Err fault) >>= next = Err fault

-- the head of a frame that is whole
abbrev pub whole_at : ℕ → List ℕ → Result Head TraceFault
whole_at place bytes =
    if nat_lt (length bytes) 22 then Err (Short place) else
    if nat_lt (length bytes) (22 + (head_at bytes).len) then Err (Short place) else Ok (head_at bytes)

-- the fields of a head may stand together
abbrev pub allowed_at : ℕ → Head → Result (Unit {0}) TraceFault
allowed_at place h = if is_allowed h then Ok (tt {0}) else Err (BadField place)

-- the bytes of the message behind a head
abbrev pub behind_head : Head → List ℕ → List ℕ
behind_head h bytes = bytes_at h.len 22 bytes

-- whether a post is behind another in the history
abbrev pub is_behind : PostRef → PostRef → Bool
is_behind last at = nat_lt last.entry at.entry || ((last.entry == at.entry) && nat_lt last.post at.post)

-- the post of a frame, where its message was read, and it is behind the last one
abbrev pub placed_at : ℕ → PostRef → PostRef → Option Post → Result Placed TraceFault
placed_at place last at None = Err (BadMessage place)
placed_at place last at (Some post) = if is_behind last at then Ok (record { at = at; post = post }) else Err (BadOrder place)

-- the post of the frame at the front, which begins at this place behind that of the last post, and the
-- frame's length; or the first of its faults
unfoldable pub frame_at : ℕ → PostRef → List ℕ → Result (Placed × ℕ) TraceFault
frame_at place last bytes = do
  head ← whole_at place bytes
  fields ← allowed_at place head
  placed ← placed_at place last head.at (post_in head (behind_head head bytes))
  Ok (placed, 22 + head.len)

-- whether the end of the file is at the front: an entry of 0
abbrev pub is_end : List ℕ → Bool
is_end bytes = nat_le 4 (length bytes) && (number_at 4 0 bytes == 0)

-- the posts that were read, where the end of the file is whole, gives their number, and nothing follows
abbrev pub end_at : ℕ → List Placed → List ℕ → Result (List Placed) TraceFault
end_at place read bytes =
    if nat_lt (length bytes) 8 then Err (Short place) else
    if (length bytes == 8) && (number_at 4 4 bytes == length read) then Ok read else Err (BadEnd place)

-- the posts that were read, and those of the frames from this place on, of which there are fewer than `most`
abbrev pub frames_from : ℕ → ℕ → PostRef → List Placed → List ℕ → Result (List Placed) TraceFault
frames_from zero place last read bytes = Err (Short place)
frames_from (suc most) place last read bytes =
    if is_end bytes then end_at place read bytes
    else frame_at place last bytes >>= λ found. frames_from most (place + found.1) found.0.at (read ++ found.0 ∷ []) (drop found.1 bytes)

-- the place before all posts
abbrev pub before_all : PostRef
before_all = record { entry = 0; post = 0 }

-- the posts of the frames behind the first five bytes
abbrev pub all_frames : List ℕ → Result (List Placed) TraceFault
all_frames bytes = frames_from (length bytes) 5 before_all [] (drop 5 bytes)

-- the posts of which the bytes are the file, or the first fault by place
abbrev pub posts_of : List ℕ → Result (List Placed) TraceFault
posts_of bytes = if starts_with nat_eq bytes magic then all_frames bytes else Err BadMagic

-- the fault is the one that the bytes have; where memory was wanting, nothing is said of them
abbrev pub IsFault : TraceFault → Result (List Placed) TraceFault → Type 0
IsFault NoMemory wanted = Unit {0}
IsFault fault wanted = wanted ≡ Err fault
