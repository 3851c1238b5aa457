-- What stands in the RMBs of a side: for each byte of an RMB, what the last write that landed over it brought.
-- A reader learns here which RMB a write goes into, which bytes it brings, and when the bytes of a stream stand at their places in an element.
use Rattle.std.specs.Prelude.{Bool, List, None, Option, Some, [], drop, if◌then◌else◌, nat_le, nat_lt, option_and_then, option_map, slice_index_or, unwrap_or, ℕ, ◌&&◌, ◌+◌, ◌-◌, ◌<◌, ◌∷◌, ◌≡◌, ◌≤◌}
use Rattle.smc_num.specs.Keys.{rmbs_bound}
use Rattle.smc_num.specs.Places.{address_of}
use Rattle.pipe_model.specs.History.{entry_at}
use Rattle.pipe_model.specs.Home.{following_cdc}
use Rattle.pipe_model.specs.declared.post.Post.TheVariants.{Clc, Write}
use Rattle.pipe_model.specs.declared.sent.Sent.{Sent}
use Rattle.history_laws.specs.Words.{Cdc, CdcMessage, Deliver, Entry, Event, Half, Landed, Lending, Llc, Offered, Place, Post, PostRef, Reply, Setup, Side, element_size, group_on, half, has, head, keys_of, offered_place, other, pipe_of, post_at, record_of, same_side, to_land}

-- how many bytes the writes before the next CDC message carry
abbrev pub carried : List Post → ℕ
carried [] = 0
carried (Write from link key address len ∷ posts) = len + carried posts
carried (Cdc from link m ∷ posts) = 0
carried (Llc from link m ∷ posts) = carried posts
carried (Clc from s link m ∷ posts) = carried posts

-- what an entry posts behind a post
abbrev pub behind : PostRef → List Entry → List Post
behind at past = unwrap_or (option_map (λ (e : Entry). drop at.post e.posts) (entry_at at.entry past)) []

-- how many bytes the message of an end that is next to land tells
abbrev pub told_next : Half → ℕ
told_next h = unwrap_or (option_map (λ (m : Sent). m.snapshot.told) (head (to_land h))) 0

-- the count from which on a write carries the bytes of an end: the last of the writes ends where the message behind them tells
abbrev pub carries_from : Half → ℕ → List Post → ℕ
carries_from h len rest = told_next h - (len + carried rest)

-- the connection for which a write lands: that of the lending at its taker which the message behind it names
abbrev pub lands_for : Setup → List ℕ → Side → PostRef → List Entry → Option Lending
lands_for setup payload y at past = option_and_then (λ (m : CdcMessage). record_of setup payload y m.token past) (following_cdc at past)

-- the byte of that connection's stream so far behind the first that a write carries
abbrev pub brought : Setup → List ℕ → Side → PostRef → List Entry → ℕ → ℕ → Option Lending → ℕ
brought setup payload y at past len n None = 0
brought setup payload y at past len n (Some l) =
    let h : Half = half (other y) (pipe_of setup payload l.group l.s past) in
    slice_index_or h.out (carries_from h len (behind at past) + n) 0

-- whether an address is one of so many from another on
abbrev pub covers : ℕ → ℕ → ℕ → Bool
covers first len address = nat_le first address && nat_lt address (first + len)

-- the byte at an address of an RMB of a side once a post has landed there, by the byte before: a write goes into the RMB to which its key is bound
abbrev pub byte_after : Setup → List ℕ → Side → ℕ → ℕ → PostRef → List Entry → ℕ → Option Post → ℕ
byte_after setup payload y rmb address at past was (Some (Write from link key first len)) =
    if has rmb (rmbs_bound key link (keys_of y past).keys) && covers first len address then brought setup payload y at past len (address - first) (lands_for setup payload y at past) else was
byte_after setup payload y rmb address at past was _ = was

-- the same with an event: what lands at a side was sent by its peer
abbrev pub byte_with : Setup → List ℕ → Side → ℕ → ℕ → List Entry → ℕ → Event → Reply → ℕ
byte_with setup payload y rmb address past was (Deliver slot dir) (Landed at) = if same_side (other y) dir then byte_after setup payload y rmb address at past was (post_at at past) else was
byte_with setup payload y rmb address past was _ _ = was

-- the byte at an address of an RMB of a side after a history; nothing has been written at first
abbrev pub byte_in : Setup → List ℕ → Side → ℕ → ℕ → List Entry → ℕ
byte_in setup payload y rmb address [] = 0
byte_in setup payload y rmb address (e ∷ past) = byte_with setup payload y rmb address past (byte_in setup payload y rmb address past) e.event e.reply

-- that the bytes of a stream from one count to another stand at their places in an element of a side
abbrev pub StandIn : Setup → List ℕ → Side → List Entry → Place → List ℕ → ℕ → ℕ → Type 0
StandIn setup payload y past place out from to = (n : ℕ) → from ≤ n → n < to → byte_in setup payload y place.rmb (address_of (element_size setup) place n) past ≡ slice_index_or out n 0

-- that the bytes which the end of a socket at a side has not read, up to a count, stand in the element that it has offered, as its peer accepted them
abbrev pub StandUnread : Setup → List ℕ → Side → ℕ → Offered → List Entry → ℕ → Type 0
StandUnread setup payload y s o past to =
    StandIn setup payload y past (offered_place o.offer) (half (other y) (pipe_of setup payload (group_on s past) s past)).out (half y (pipe_of setup payload (group_on s past) s past)).rd to
