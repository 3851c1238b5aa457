-- Words to write histories down by hand, and what the definitions give for one.
use Rattle.std.proofs.Common.{ℕ, ◌+◌, List, [], ◌∷◌}
use Rattle.smc_num.specs.declared.LinkId.{LinkId}
use Rattle.pipe_model.specs.declared.setup.Setup.{Setup}
use Rattle.pipe_model.specs.declared.event.Event.{Event}
use Rattle.pipe_model.specs.declared.reply.Reply.{Reply}
use Rattle.pipe_model.specs.declared.reply.Reply.TheVariants.{Bytes}
use Rattle.pipe_model.specs.declared.post.PostRef.{PostRef}
use Rattle.pipe_model.specs.declared.post.Post.{Post}
use Rattle.pipe_model.specs.declared.entry.Entry.{Entry}
use Rattle.pipe_model.specs.Replies.{told}
use Rattle.pipe_model.specs.Lawful.{reply_of, posted}

-- the link of a group on a slot
abbrev pub link : ℕ → ℕ → ℕ → LinkId
link group slot incarnation = record { group = group; slot = slot; incarnation = incarnation }

-- the place of a post
abbrev pub at : ℕ → ℕ → PostRef
at entry post = record { entry = entry; post = post }

-- the MAC of a port of host 10, which is A, or 11, which is B
abbrev pub mac : ℕ → ℕ → List ℕ
mac host port = 2 ∷ 0 ∷ 0 ∷ 0 ∷ host ∷ port ∷ []

-- its GID
abbrev pub gid : ℕ → ℕ → List ℕ
gid host port = 254 ∷ 128 ∷ 0 ∷ 0 ∷ 0 ∷ 0 ∷ 0 ∷ 0 ∷ 0 ∷ 0 ∷ 0 ∷ 0 ∷ 0 ∷ 0 ∷ host ∷ port ∷ []

-- the peer id of the host
abbrev pub peer : ℕ → List ℕ
peer host = 0 ∷ 1 ∷ 2 ∷ 0 ∷ 0 ∷ 0 ∷ host ∷ 1 ∷ []

-- an entry of main
abbrev pub entry : Event → Reply → List Post → Entry
entry event reply posts = record { actor = 0; event = event; reply = reply; posts = posts }

-- the bytes that a reply hands out, and those that a history has handed out
abbrev pub handed_by : Reply → ℕ
handed_by (Bytes from len) = len
handed_by _ = 0

-- how many bytes a history has handed out
abbrev pub handed : List Entry → ℕ
handed [] = 0
handed (e ∷ older) = handed older + handed_by e.reply

-- the reply and the posts that the definitions give for each entry after those before it, the newest first
abbrev pub given : Setup → List ℕ → List Entry → List (Reply × List Post)
given setup payload [] = []
given setup payload (e ∷ older) = (reply_of (handed older) (told setup payload older e.event), posted setup payload older (handed older) e.event) ∷ given setup payload older

-- those that the history has
abbrev pub written : List Entry → List (Reply × List Post)
written [] = []
written (e ∷ older) = (e.reply, e.posts) ∷ written older
