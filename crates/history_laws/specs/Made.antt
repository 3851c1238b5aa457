-- Which histories the laws are about: those whose entries have the reply and the posts that the definitions give.
-- A reader learns here all that a law asks of a history: not which events it has, nor how many bytes were handed out.
use Rattle.std.specs.Prelude.{List, [], ℕ, ◌∷◌, ◌≡◌}
use Rattle.pipe_model.specs.Replies.{told}
use Rattle.pipe_model.specs.Lawful.{posted}
use Rattle.history_laws.specs.Words.{Entry, Setup, reply_of}

-- that an entry has the reply and the posts that the definitions give, whatever its event
pub record IsMade (setup : Setup) (payload : List ℕ) (past : List Entry) (before : ℕ) (e : Entry) : Type 0 where
  -- what the actor is told
  pub reply : e.reply ≡ reply_of before (told setup payload past e.event)
  -- what both managers post with it
  pub posts : e.posts ≡ posted setup payload past before e.event

-- each entry has the reply and the posts that the definitions give
abbrev pub IsMadeAll : Setup → List ℕ → List Entry → Type 0
IsMadeAll setup payload [] = Unit {0}
IsMadeAll setup payload (e ∷ past) = ((before : ℕ) × IsMade setup payload past before e) × IsMadeAll setup payload past
