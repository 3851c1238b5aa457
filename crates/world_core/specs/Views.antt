-- When two histories show the same of links, sockets, lendings and keys.
-- A reader learns here which posts are seen by the pipes alone, and what the rest of the definitions sees.
use Rattle.std.specs.Prelude.{◌≡◌, ℕ, Bool, true, false, List, [], ◌∷◌, ◌++◌}
use Rattle.smc_num.specs.declared.Side.{Side}
use Rattle.smc_num.specs.declared.LinkId.{LinkId}
use Rattle.pipe_model.specs.declared.post.Post.{Post}
use Rattle.pipe_model.specs.declared.post.Post.TheVariants.{Write, Cdc}
use Rattle.pipe_model.specs.declared.entry.Entry.{Entry}
use Rattle.pipe_model.specs.History.{offered}
use Rattle.pipe_model.specs.Fabric.{path_up, fabric}
use Rattle.pipe_model.specs.Wires.{is_cut}
use Rattle.pipe_model.specs.Connections.{is_up, early_state}
use Rattle.pipe_model.specs.Lending.{lendings}
use Rattle.pipe_model.specs.Keys.{keys_of, book_of}
use Rattle.pipe_model.specs.Fallback.{is_raw, is_opened, untaken}
use Rattle.pipe_model.specs.Posts.{groups_begun}
use Rattle.world_core.specs.OneLink.{llc_waiting}

-- whether a post is a write or a CDC message
abbrev pub is_data : Post → Bool
is_data (Write from link key address len) = true
is_data (Cdc from link message) = true
is_data _ = false

-- each of these posts is
abbrev pub AreData : List Post → Type 0
AreData [] = Unit {0}
AreData (p ∷ ps) = (is_data p ≡ true) × AreData ps

-- an entry with more posts
abbrev pub plus : Entry → List Post → Entry
plus e more = record e { posts = e.posts ++ more }

-- two histories that show the same of links, sockets, lendings and keys
pub record ShowsSame (one two : List Entry) : Type 0 where
  pub path : path_up 1 one ≡ path_up 1 two
  pub cut : (link : LinkId) → is_cut link one ≡ is_cut link two
  pub groups : groups_begun one ≡ groups_begun two
  pub fabric_is : fabric one ≡ fabric two
  pub offer : (x : Side) (s : ℕ) → offered x s one ≡ offered x s two
  pub messages : (x : Side) (s : ℕ) → untaken x s one ≡ untaken x s two
  pub lent : (x : Side) → lendings x one ≡ lendings x two
  pub keys : (x : Side) → keys_of x one ≡ keys_of x two
  pub book : (x : Side) → book_of x one ≡ book_of x two
  pub up : (x : Side) (s : ℕ) → is_up x s one ≡ is_up x s two
  pub early : (x : Side) (s : ℕ) → early_state x s one ≡ early_state x s two
  pub raw : (s : ℕ) → is_raw s one ≡ is_raw s two
  pub opened : (s : ℕ) → is_opened s one ≡ is_opened s two
  pub waiting : (link : LinkId) (x : Side) → llc_waiting link x one ≡ llc_waiting link x two
