-- What an entry does to one wire: nothing leaves it, its next post lands, or its oldest landed post completes.
-- A reader learns here the three ways in which a wire goes on, and which posts with CDC messages stand on which link.
use Rattle.std.specs.Prelude.{◌≡◌, ◌⊎◌, ◌≤◌, ℕ, List, [], ◌∷◌, length, Some}
use Rattle.smc_num.specs.declared.Side.{Side}
use Rattle.smc_num.specs.declared.LinkId.{LinkId}
use Rattle.pipe_model.specs.declared.post.Post.{Post}
use Rattle.pipe_model.specs.declared.post.Post.TheVariants.{Cdc}
use Rattle.pipe_model.specs.declared.post.Placed.{Placed}
use Rattle.pipe_model.specs.declared.entry.Entry.{Entry}
use Rattle.pipe_model.specs.Pipe.{Lands, Completes}
use Rattle.pipe_model.specs.Connections.{deeds, if_own}
use Rattle.world_core.specs.Wired.{EachItem, passes_by}
use Rattle.pipe_model.specs.History.{post_at}
use Rattle.pipe_model.specs.Wires.{unlanded, uncompleted, if_latest, leaves, lands_on, completes_on}

-- how many posts of a side leave a link with an entry, how many land, and how many complete
abbrev pub leaving : LinkId → Side → Entry → List Entry → ℕ
leaving link x e past = if_latest link past (leaves x link.slot e.event e.reply)

abbrev pub landing_now : LinkId → Side → Entry → List Entry → ℕ
landing_now link x e past = if_latest link past (lands_on x link.slot e.event e.reply)

abbrev pub completing_now : LinkId → Side → Entry → List Entry → ℕ
completing_now link x e past = if_latest link past (completes_on x link.slot e.event e.reply)

-- nothing of a side leaves the link
pub record Stays (link : LinkId) (x : Side) (e : Entry) (past : List Entry) : Type 0 where
  pub leaves : leaving link x e past ≡ 0
  pub lands : landing_now link x e past ≡ 0
  pub completes : completing_now link x e past ≡ 0

-- the next post of a side lands
pub record LandsNow (link : LinkId) (x : Side) (e : Entry) (past : List Entry) : Type 0 where
  pub first : Placed
  pub rest : List Placed
  pub waiting : unlanded link x past ≡ first ∷ rest
  pub leaves : leaving link x e past ≡ 1
  pub lands : landing_now link x e past ≡ 1
  pub completes : completing_now link x e past ≡ 0

-- the oldest landed post of a side completes
pub record CompletesNow (link : LinkId) (x : Side) (e : Entry) (past : List Entry) : Type 0 where
  pub first : Placed
  pub rest : List Placed
  pub waiting : uncompleted link x past ≡ first ∷ rest
  pub leaves : leaving link x e past ≡ 0
  pub lands : landing_now link x e past ≡ 0
  pub completes : completing_now link x e past ≡ 1

-- that a post, where it is a CDC message, is on this link
abbrev pub IsCdcOn : LinkId → Post → Type 0
IsCdcOn link (Cdc from l message) = l ≡ link
IsCdcOn link _ = Unit {0}

-- that something holds of each post
abbrev pub EachPost : (Post → Type 0) → List Post → Type 0
EachPost P [] = Unit {0}
EachPost P (post ∷ posts) = P post × EachPost P posts

-- that a placed post stands in the history at its place
pub record IsPlaced (past : List Entry) (c : Placed) : Type 0 where
  pub within : c.at.entry ≤ length past
  pub is : post_at c.at past ≡ Some c.post

-- that something holds of each placed post
abbrev pub EachPlaced : (Placed → Type 0) → List Placed → Type 0
EachPlaced P [] = Unit {0}
EachPlaced P (c ∷ cs) = P c × EachPlaced P cs

-- the ways in which an entry moves the messages of a side on a link, with what it gives the pipe of each socket: none leaves
-- the link, the next post lands, or the oldest landed one completes
abbrev pub Way : List ℕ → LinkId → Side → Entry → List Entry → Type 0
Way payload link x e past =
    (Stays link x e past × ((s : ℕ) → EachItem (passes_by x) (deeds payload s e.event e.reply past)))
    ⊎ (((l : LandsNow link x e past) × ((s : ℕ) → deeds payload s e.event e.reply past ≡ if_own (Lands x) x s (Some l.first.at) past))
    ⊎ ((l : CompletesNow link x e past) × ((s : ℕ) → deeds payload s e.event e.reply past ≡ if_own (Completes x) x s (Some l.first.at) past)))
