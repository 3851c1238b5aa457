-- What stands in an RMB of a side: the bytes of each write of the peer that has landed, at the write's address.
-- A reader learns here which bytes a write carries, and when a wire carries the bytes of an end without a hole.
use Rattle.std.specs.Prelude.{◌≡◌, ◌⊎◌, ◌<◌, ◌≤◌, ◌==◌, ℕ, ◌+◌, ◌-◌, ◌%◌, true, false, if◌then◌else◌, List, [], ◌∷◌, map, take, drop, slice_index_or, Option, Some, None, option_map, option_and_then, unwrap_or}
use Rattle.smc_num.specs.declared.Side.{Side}
use Rattle.smc_num.specs.Names.{other, same_side, head}
use Rattle.smc_num.specs.Places.{Place, address_of}
use Rattle.cdc_wire.specs.declared.CdcMessage.{CdcMessage}
use Rattle.rmb_region.specs.Regions.{Buffer, IsWhole, fresh, lands, byte_at}
use Rattle.rc_link.specs.Wire.{next_cdc}
use Rattle.pipe_model.specs.declared.setup.Setup.{Setup}
use Rattle.pipe_model.specs.declared.post.Post.{Post}
use Rattle.pipe_model.specs.declared.post.Post.TheVariants.{Write, Cdc, Llc, Clc}
use Rattle.pipe_model.specs.declared.entry.Entry.{Entry}
use Rattle.pipe_model.specs.declared.sent.Sent.{Sent}
use Rattle.pipe_model.specs.Words.{element_size, elements_of}
use Rattle.pipe_model.specs.History.{Offered}
use Rattle.pipe_model.specs.Posts.{offered_place}
use Rattle.pipe_model.specs.Wires.{unlanded}
use Rattle.pipe_model.specs.Ends.{Half, to_land}
use Rattle.pipe_model.specs.Pipe.{half}
use Rattle.pipe_model.specs.Lending.{Lending, pipe_of, record_of}
use Rattle.world_core.specs.OneLink.{the_link}
use Rattle.world_core.specs.WireSteps.{landing_now}

-- how many bytes the writes before it carry
abbrev pub carried : List Post → ℕ
carried [] = 0
carried (Write from link key address len ∷ posts) = len + carried posts
carried (Cdc from link m ∷ posts) = 0
carried (Llc from link m ∷ posts) = carried posts
carried (Clc from s link m ∷ posts) = carried posts

-- the posts of a side that are to land on the one link, the oldest first
abbrev pub waiting_posts : Side → List Entry → List Post
waiting_posts x past = map (λ c. c.post) (unlanded the_link x past)

-- how many bytes the message of an end that is next to land tells
abbrev pub told_next : Half → ℕ
told_next h = unwrap_or (option_map (λ (m : Sent). m.snapshot.told) (head (to_land h))) 0

-- the bytes of a write, by the posts behind it: the last of the writes ends where the message tells
abbrev pub bytes_of : Half → ℕ → List Post → List ℕ
bytes_of h len rest = take len (drop (told_next h - (len + carried rest)) h.out)

-- a write of a side lands for the connection of a lending, in the buffer of the RMB that has its element
abbrev pub written_for : Setup → List ℕ → Side → List Entry → ℕ → ℕ → List Post → Option Lending → Buffer → Buffer
written_for setup payload x past address len rest None b = b
written_for setup payload x past address len rest (Some l) b =
    if l.place.rmb == b.rmb then lands address (bytes_of (half x (pipe_of setup payload l.group l.s past)) len rest) b else b

-- the first of these posts of a side lands at its peer
abbrev pub first_lands : Setup → List ℕ → Side → List Entry → List Post → Buffer → Buffer
first_lands setup payload x past (Write from link key address len ∷ rest) b =
    written_for setup payload x past address len rest (option_and_then (λ (m : CdcMessage). record_of setup payload (other x) m.token past) (next_cdc rest)) b
first_lands setup payload x past _ b = b

-- the buffer of an RMB of a side's peer, which the side writes into
abbrev pub peer_buffer : Setup → List ℕ → Side → ℕ → List Entry → Buffer
peer_buffer setup payload x rmb [] = fresh rmb (elements_of setup (other x)) (element_size setup)
peer_buffer setup payload x rmb (e ∷ past) =
    if landing_now the_link x e past == 0 then peer_buffer setup payload x rmb past
    else first_lands setup payload x past (waiting_posts x past) (peer_buffer setup payload x rmb past)

-- the buffer of an RMB of a side after a history
abbrev pub buffer_of : Setup → List ℕ → Side → ℕ → List Entry → Buffer
buffer_of setup payload y rmb past = peer_buffer setup payload (other y) rmb past

-- that the bytes of a stream from one count to another stand at their places in an element
abbrev pub Stand : ℕ → Place → ℕ → ℕ → List ℕ → Buffer → Type 0
Stand size place from to out b = (n : ℕ) → from ≤ n → n < to → byte_at (address_of size place n) b ≡ slice_index_or out n 0

-- that messages go on from one count to another without a hole
abbrev pub GoOn : ℕ → List Sent → ℕ → Type 0
GoOn reach [] last = reach ≡ last
GoOn reach (m ∷ ms) last = (m.from ≡ reach) × GoOn m.snapshot.told ms last

-- that the messages of an end do, and those that are to land go on from what its peer was told
abbrev pub Follows : Half → Half → Type 0
Follows h k = GoOn 0 h.sent h.last.told × GoOn k.taken.told (to_land h) h.last.told

-- that posts of a side carry, under a token, the bytes of an end from a count on to its place in an element, each message behind
-- the bytes that it tells
abbrev pub Carries : ℕ → Side → Place → ℕ → ℕ → List Post → List Sent → ℕ → Type 0
Carries size x place token reach [] ms last = (ms ≡ []) × (reach ≡ last)
Carries size x place token reach (Write from link key address len ∷ posts) ms last =
    (m : CdcMessage) × (next_cdc posts ≡ Some m) ×
    ((((token == m.token) ≡ true) × (address ≡ address_of size place reach) × (reach % size + len ≤ size) × Carries size x place token (reach + len) posts ms last)
    ⊎ (((token == m.token) ≡ false) × Carries size x place token reach posts ms last))
Carries size x place token reach (Cdc from link m ∷ posts) ms last =
    (same_side x from ≡ true) ×
    ((((token == m.token) ≡ true) × ((s : Sent) × (rest : List Sent) × (ms ≡ s ∷ rest) × (s.snapshot.told ≡ reach) × Carries size x place token reach posts rest last))
    ⊎ (((token == m.token) ≡ false) × Carries size x place token reach posts ms last))
Carries size x place token reach (Llc from link m ∷ posts) ms last = Carries size x place token reach posts ms last
Carries size x place token reach (Clc from s link m ∷ posts) ms last = Carries size x place token reach posts ms last

-- how far the bytes of the end of a socket at a side have landed: from there on the wire carries them; the peer was told no more;
-- and those that its peer has not read stand in the element that the peer offered
pub record Reaches (setup : Setup) (payload : List ℕ) (x : Side) (s : ℕ) (o : Offered) (past : List Entry) : Type 0 where
  pub reach : ℕ
  pub carries : Carries (element_size setup) x (offered_place o.offer) o.offer.token reach (waiting_posts x past) (to_land (half x (pipe_of setup payload 1 s past))) (half x (pipe_of setup payload 1 s past)).last.told
  pub told : (half (other x) (pipe_of setup payload 1 s past)).taken.told ≤ reach
  pub stand : Stand (element_size setup) (offered_place o.offer) (half (other x) (pipe_of setup payload 1 s past)).rd reach (half x (pipe_of setup payload 1 s past)).out (peer_buffer setup payload x 1 past)

-- that a buffer is the one RMB of a side
pub record IsRmb (setup : Setup) (y : Side) (b : Buffer) : Type 0 where
  pub whole : IsWhole b
  pub rmb : b.rmb ≡ 1
  pub size : b.size ≡ element_size setup
  pub elements : b.elements ≡ elements_of setup y
