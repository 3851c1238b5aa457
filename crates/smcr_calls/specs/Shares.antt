-- What each entry took from the application, and handed to it.
-- A reader learns here nothing new of the text: the sums of a socket's line are those of the shares of its ends.
use Rattle.std.specs.Prelude.{◌≡◌, ℕ, ◌==◌, ◌&&◌, Bool, List, [], ◌∷◌, ◌++◌, codes, Option, Some, None, if◌then◌else◌}
use Rattle.std.specs.List.{flat_map, sum_by}
use Rattle.smc_num.specs.declared.Side.{Side}
use Rattle.smc_num.specs.declared.Side.TheVariants.{A, B}
use Rattle.pipe_model.specs.declared.entry.Entry.{Entry}
use Rattle.pipe_model.specs.declared.event.End.{End}
use Rattle.pipe_model.specs.declared.event.Event.{Event}
use Rattle.pipe_model.specs.declared.event.Event.TheVariants.{Raw, Write, Read}
use Rattle.scene_text.specs.Spelling.{name_text}
use Rattle.scene_text.specs.Fields.{two_numbers}
use Rattle.scene_text.specs.HistoryText.{same_side, taken_by, handed_by, sockets_after}
use Rattle.smcr_calls.specs.declared.print.Listed.{Listed}
use Rattle.smcr_calls.specs.declared.print.Share.{Share}

-- the end on which an event is a call; the bytes of a raw client count as A's
abbrev pub caller : Event → Option End
caller (Raw s at len) = Some (record { side = A; s = s })
caller (Write end at len) = Some end
caller (Read end len) = Some end
caller _ = None

-- the share of an entry that is a call
abbrev pub share_at : Option End → ℕ → ℕ → List Share
share_at None wrote read = []
share_at (Some end) wrote read = (record { end = end; wrote = wrote; read = read }) ∷ []

abbrev pub share_of : Entry → List Share
share_of e = share_at (caller e.event) (taken_by e.reply) (handed_by e.reply)

-- the shares of a history
abbrev pub shares_of : List Entry → List Share
shares_of history = flat_map share_of history

-- whether a share is one of that end
abbrev pub is_at : Side → ℕ → Share → Bool
is_at x s share = same_side x share.end.side && (share.end.s == s)

-- what of a share was taken, and handed out, at an end
abbrev pub wrote_in : Side → ℕ → Share → ℕ
wrote_in x s share = if is_at x s share then share.wrote else 0

abbrev pub read_in : Side → ℕ → Share → ℕ
read_in x s share = if is_at x s share then share.read else 0

-- what an end wrote and read in all
abbrev pub shared_sums_text : List Share → Side → ℕ → List ℕ
shared_sums_text shares x s = two_numbers (codes " wrote ") (sum_by (wrote_in x s) shares) (codes " read ") (sum_by (read_in x s) shares)

-- the same behind the letter of the end
unfoldable pub shared_end_text : List ℕ → List Share → Side → ℕ → List ℕ
shared_end_text word shares x s = word ++ shared_sums_text shares x s

-- the sums of both ends of a socket, and the end of its line
unfoldable pub shared_ends_text : List Share → ℕ → List ℕ
shared_ends_text shares s = shared_end_text (codes " A") shares A s ++ (shared_end_text (codes " B") shares B s ++ codes "\n")

-- a socket with the sums of its two ends
abbrev pub shared_socket_text : List (List ℕ) → List Share → ℕ → List ℕ
shared_socket_text names shares s = codes "socket " ++ (name_text names s ++ shared_ends_text shares s)

-- these are the sockets of a history, and the shares of their ends
pub record IsListed (listed : Listed) (history : List Entry) : Type 0 where
  pub sockets : listed.sockets.items ≡ sockets_after [] history
  pub shares : listed.shares.items ≡ shares_of history
