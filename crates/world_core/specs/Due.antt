-- What the pipes post with an entry, by the end that acts: what is due to it after its call, or after its message has completed.
-- A reader learns here which one end may post with an entry, and that it posts just what is due to it.
use Rattle.std.specs.Prelude.{◌≡◌, ℕ, not, Bool, true, false, if◌then◌else◌, List, [], ◌∷◌, flat_map}
use Rattle.smc_num.specs.declared.Side.{Side}
use Rattle.smc_num.specs.Names.{other, same_side}
use Rattle.pipe_model.specs.declared.setup.Setup.{Setup}
use Rattle.pipe_model.specs.declared.post.Post.{Post}
use Rattle.pipe_model.specs.declared.entry.Entry.{Entry}
use Rattle.pipe_model.specs.declared.sent.Sent.{Sent}
use Rattle.pipe_model.specs.Words.{element_size}
use Rattle.pipe_model.specs.History.{offered}
use Rattle.pipe_model.specs.Ends.{Half, is_due, batch}
use Rattle.pipe_model.specs.Pipe.{Item, Calls, Completes, half, apply}
use Rattle.pipe_model.specs.Connections.{deeds, group_on}
use Rattle.pipe_model.specs.Lending.{pipe_of}
use Rattle.pipe_model.specs.Posts.{sent_posts, connection_posts}
use Rattle.world_core.specs.Wired.{EachItem}

-- what is due to an end
abbrev pub due_of : ℕ → Half → List Sent
due_of depth h = if is_due depth h then batch h ∷ [] else []

-- whether an item is a call of the end at a side, or completes a message of it
abbrev pub acts_at : Side → Item → Bool
acts_at x (Calls y call) = same_side x y
acts_at x (Completes y) = same_side x y
acts_at x _ = false

-- the end of a socket at a side after one item more, before what is due is posted
abbrev pub end_after : Setup → List ℕ → Side → ℕ → Item → List Entry → Half
end_after setup payload x s item past = half x (apply (element_size setup) item (pipe_of setup payload (group_on s past) s past))

-- the posts of what is due to it
abbrev pub due_posts : Setup → List ℕ → Side → ℕ → Item → Entry → List Entry → List Post
due_posts setup payload x s item d past = flat_map (sent_posts (element_size setup) x (offered (other x) s past) (d ∷ past)) (due_of setup.depth (end_after setup payload x s item past))

-- the pipes post what is due to the one end that an entry makes act, and where none acts they post nothing; `d` is the draft of `e`
pub record PostsDue (setup : Setup) (payload : List ℕ) (d e : Entry) (past : List Entry) : Type 0 where
  pub none : ((x : Side) (s : ℕ) → EachItem (λ item. not (acts_at x item)) (deeds payload s e.event e.reply past)) → connection_posts setup payload d past ≡ []
  pub due : (x : Side) (s : ℕ) (item : Item) → deeds payload s e.event e.reply past ≡ item ∷ [] → acts_at x item ≡ true → connection_posts setup payload d past ≡ due_posts setup payload x s item d past
