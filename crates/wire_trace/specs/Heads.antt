-- The 22 bytes in front of a message.
-- A reader learns here where each field stands, and which fields may stand together.
use Rattle.std.specs.Prelude.{ℕ, ◌==◌, ◌&&◌, ◌||◌, nat_le, Bool, List, [], ◌∷◌, ◌++◌, slice_index, if◌then◌else◌}
use Rattle.byteorder.specs.Endian.{big_bytes}
use Rattle.field_cases.specs.Fields.{number_at}
use Rattle.smc_num.specs.declared.LinkId.{LinkId}
use Rattle.wire_trace.specs.declared.head.Head.{Head}

-- a head, field by field
abbrev pub head_bytes : Head → List ℕ
head_bytes h =
    big_bytes 4 h.at.entry ++ h.at.post ∷ [] ++ h.kind ∷ [] ++ h.side ∷ [] ++ h.link.slot ∷ []
    ++ big_bytes 4 h.link.group ++ big_bytes 4 h.link.incarnation ++ big_bytes 4 h.socket ++ big_bytes 2 h.len

-- the head at the front of bytes
abbrev pub head_at : List ℕ → Head
head_at bytes = record {
  at = record { entry = number_at 4 0 bytes; post = slice_index bytes 4 };
  kind = slice_index bytes 5;
  side = slice_index bytes 6;
  link = record { group = number_at 4 8 bytes; slot = slice_index bytes 7; incarnation = number_at 4 12 bytes };
  socket = number_at 4 16 bytes;
  len = number_at 2 20 bytes;
}

-- whether it is the name of a link
abbrev pub is_link : LinkId → Bool
is_link link = ((nat_le 1 link.slot && nat_le link.slot 8) && nat_le 1 link.group) && nat_le 1 link.incarnation

-- whether it names no link
abbrev pub is_no_link : LinkId → Bool
is_no_link link = ((link.slot == 0) && (link.group == 0)) && (link.incarnation == 0)

-- whether the number of the post, the kind and the side may be
abbrev pub allows_post : Head → Bool
allows_post h = (((nat_le 1 h.at.post && nat_le h.at.post 6) && nat_le 1 h.kind) && nat_le h.kind 4) && nat_le h.side 1

-- whether link and socket may be with this kind: a CLC message alone may name no link, and names a socket
abbrev pub allows_link : Head → Bool
allows_link h = if h.kind == 1 then is_link h.link || is_no_link h.link else is_link h.link && (h.socket == 0)

-- whether messages of this kind may have this length
abbrev pub allows_length : ℕ → ℕ → Bool
allows_length kind len = if kind == 1 then ((len == 52) || (len == 68)) || (len == 28) else if kind == 4 then len == 16 else len == 44

-- whether the fields may stand together
abbrev pub is_allowed : Head → Bool
is_allowed h = (allows_post h && allows_link h) && allows_length h.kind h.len
