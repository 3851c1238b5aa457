-- The bytes of messages, and what they are the one spelling of.
-- A reader learns here how each kind of post is spelled in a trace.
use Rattle.std.specs.Prelude.{ℕ, ◌==◌, List, ◌++◌, Option, Some, None, option_map, unwrap_or, Result, Ok, Err, if◌then◌else◌}
use Rattle.std.specs.Str.{bytes_eq}
use Rattle.byteorder.specs.Endian.{big_bytes}
use Rattle.field_cases.specs.Fields.{number_at}
use Rattle.smc_num.specs.declared.Side.{Side}
use Rattle.smc_num.specs.declared.Side.TheVariants.{A, B}
use Rattle.smc_num.specs.declared.LinkId.{LinkId}
use Rattle.smc_num.specs.Names.{no_link}
use Rattle.clc_wire.specs.declared.message.ClcMessage.{ClcMessage}
use Rattle.clc_wire.specs.declared.fault.ClcFault.{ClcFault}
use Rattle.clc_wire.specs.Clc.{clc_bytes, clc_front}
use Rattle.llc_wire.specs.declared.LlcMessage.{LlcMessage}
use Rattle.llc_wire.specs.declared.LlcFault.{LlcFault}
use Rattle.llc_wire.specs.Llc.{llc_bytes, llc_read}
use Rattle.cdc_wire.specs.declared.CdcMessage.{CdcMessage}
use Rattle.cdc_wire.specs.declared.CdcFault.{CdcFault}
use Rattle.cdc_wire.specs.Cdc.{cdc_bytes, cdc_read}
use Rattle.pipe_model.specs.declared.post.Post.{Post}
use Rattle.pipe_model.specs.declared.post.Post.TheVariants.{Write, Cdc, Llc, Clc}
use Rattle.pipe_model.specs.declared.post.PostRef.{PostRef}
use Rattle.pipe_model.specs.History.{sender}
use Rattle.wire_trace.specs.declared.head.Head.{Head}
use Rattle.wire_trace.specs.Heads.{is_no_link}

-- a remote write: its key, its address and its length
abbrev pub write_bytes : ℕ → ℕ → ℕ → List ℕ
write_bytes key address len = big_bytes 4 key ++ big_bytes 8 address ++ big_bytes 4 len

-- the one spelling of what was posted
abbrev pub message_bytes : Post → List ℕ
message_bytes (Write from link key address len) = write_bytes key address len
message_bytes (Cdc from link m) = cdc_bytes m
message_bytes (Llc from link m) = llc_bytes m
message_bytes (Clc from s link m) = clc_bytes m

-- the byte of a side
abbrev pub side_code : Side → ℕ
side_code A = 0
side_code B = 1

-- the kind of a post
abbrev pub kind_of : Post → ℕ
kind_of (Clc from s link m) = 1
kind_of (Llc from link m) = 2
kind_of (Cdc from link m) = 3
kind_of (Write from link key address len) = 4

-- the link that a head tells of a post
abbrev pub link_told : Post → LinkId
link_told (Write from link key address len) = link
link_told (Cdc from link m) = link
link_told (Llc from link m) = link
link_told (Clc from s link m) = unwrap_or link no_link

-- the socket that a head tells of a post
abbrev pub socket_told : Post → ℕ
socket_told (Clc from s link m) = s
socket_told _ = 0

-- what stands in front of a message of so many bytes, which was posted at a place
abbrev pub head_for : PostRef → Post → ℕ → Head
head_for at post len = record { at = at; kind = kind_of post; side = side_code (sender post); link = link_told post; socket = socket_told post; len = len }

-- the side of a byte
abbrev pub side_of : ℕ → Side
side_of code = if code == 0 then A else B

-- the link that a CLC message names, if it names one
abbrev pub link_named : LinkId → Option LinkId
link_named link = if is_no_link link then None else Some link

-- the message that was read, where the bytes are its one spelling
abbrev pub if_spelled : {M : Type 0} → (M → List ℕ) → List ℕ → M → Option M
if_spelled spelling bytes m = if bytes_eq (spelling m) bytes then Some m else None

-- the CLC message of which the bytes are the one spelling
abbrev pub clc_if : List ℕ → Result (ClcMessage × ℕ) ClcFault → Option ClcMessage
clc_if bytes (Ok read) = if_spelled clc_bytes bytes read.0
clc_if bytes (Err fault) = None

abbrev pub clc_in : List ℕ → Option ClcMessage
clc_in bytes = clc_if bytes (clc_front bytes)

-- the LLC message of which the bytes are the one spelling
abbrev pub llc_if : List ℕ → Result LlcMessage LlcFault → Option LlcMessage
llc_if bytes (Ok m) = if_spelled llc_bytes bytes m
llc_if bytes (Err fault) = None

abbrev pub llc_in : List ℕ → Option LlcMessage
llc_in bytes = llc_if bytes (llc_read bytes)

-- the CDC message of which the bytes are the one spelling
abbrev pub cdc_if : List ℕ → Result CdcMessage CdcFault → Option CdcMessage
cdc_if bytes (Ok m) = if_spelled cdc_bytes bytes m
cdc_if bytes (Err fault) = None

abbrev pub cdc_in : List ℕ → Option CdcMessage
cdc_in bytes = cdc_if bytes (cdc_read bytes)

-- the remote write of these bytes
abbrev pub write_in : Head → List ℕ → Post
write_in h bytes = Write (side_of h.side) h.link (number_at 4 0 bytes) (number_at 8 4 bytes) (number_at 4 12 bytes)

-- the post of a head, where the bytes behind it are the one spelling of a message of its kind
unfoldable pub post_in : Head → List ℕ → Option Post
post_in h bytes =
    if h.kind == 1 then option_map (λ m. Clc (side_of h.side) h.socket (link_named h.link) m) (clc_in bytes) else
    if h.kind == 2 then option_map (λ m. Llc (side_of h.side) h.link m) (llc_in bytes) else
    if h.kind == 3 then option_map (λ m. Cdc (side_of h.side) h.link m) (cdc_in bytes) else
    Some (write_in h bytes)
