-- Posts by kind: those of the pipes, and those that offer nothing.
use Rattle.std.specs.Prelude.{Bool, List, [], false, true, ◌∷◌, ◌≡◌}
use Rattle.pipe_model.specs.declared.post.Post.TheVariants.{Clc, Write}
use Rattle.clc_wire.specs.declared.message.ClcMessage.TheVariants.{Accept as AcceptMessage, Confirm as ConfirmMessage}
use Rattle.history_laws.specs.Words.{Cdc, Post}

-- whether a post is a write or a CDC message
abbrev pub is_data : Post → Bool
is_data (Write from link key address len) = true
is_data (Cdc from link message) = true
is_data _ = false

-- each of these posts is
abbrev pub AreData : List Post → Type 0
AreData [] = Unit {0}
AreData (p ∷ ps) = (is_data p ≡ true) × AreData ps

-- that something holds of each post
abbrev pub EachPost : (Post → Type 0) → List Post → Type 0
EachPost P [] = Unit {0}
EachPost P (post ∷ posts) = P post × EachPost P posts

-- that a post offers nothing: it is no Accept and no Confirm
abbrev pub IsFree : Post → Type 0
IsFree (Clc from s link (AcceptMessage o)) = ⊥
IsFree (Clc from s link (ConfirmMessage o)) = ⊥
IsFree post = Unit {0}

-- that none of them offers
abbrev pub AreFree : List Post → Type 0
AreFree [] = Unit {0}
AreFree (p ∷ ps) = IsFree p × AreFree ps
