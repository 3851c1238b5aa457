-- A head is read again, whatever follows it.
use Rattle.std.proofs.Common.{◌≡◌, ℕ, ◌<◌, ◌^◌, List, [], ◌++◌}
use Rattle.byteorder.specs.Numbers.{big_number-reads_back}
use Rattle.wire_trace.specs.declared.head.Head.{Head}
use Rattle.wire_trace.specs.Heads.{head_bytes, head_at}

-- the numbers of a head have the widths of their fields
pub record IsHead (h : Head) : Type 0 where
  pub entry : h.at.entry < 2 ^ 32
  pub group : h.link.group < 2 ^ 32
  pub incarnation : h.link.incarnation < 2 ^ 32
  pub socket : h.socket < 2 ^ 32
  pub len : h.len < 2 ^ 16

pub head_back : (h : Head) (rest : List ℕ) → IsHead h → head_at (head_bytes h ++ rest) ≡ h
head_back h rest w i = record {
  at = record { entry = big_number-reads_back 4 h.at.entry [] w.entry i; post = h.at.post };
  kind = h.kind;
  side = h.side;
  link = record { group = big_number-reads_back 4 h.link.group [] w.group i; slot = h.link.slot; incarnation = big_number-reads_back 4 h.link.incarnation [] w.incarnation i };
  socket = big_number-reads_back 4 h.socket [] w.socket i;
  len = big_number-reads_back 2 h.len [] w.len i;
}
