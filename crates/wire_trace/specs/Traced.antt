-- Which posts a trace tells wholly.
-- A reader learns here what a writer asks of a post, and what more makes it be read again.
use Rattle.std.specs.Prelude.{◌≡◌, ◌<◌, ◌≤◌, ◌^◌, true, List, [], ◌∷◌, length, All, IfSome}
use Rattle.smc_num.specs.declared.LinkId.{LinkId}
use Rattle.clc_wire.specs.Clc as clc
use Rattle.llc_wire.specs.Llc as llc
use Rattle.cdc_wire.specs.Cdc as cdc
use Rattle.pipe_model.specs.declared.post.Post.{Post}
use Rattle.pipe_model.specs.declared.post.Post.TheVariants.{Write, Cdc, Llc, Clc}
use Rattle.pipe_model.specs.declared.post.PostRef.{PostRef}
use Rattle.pipe_model.specs.declared.post.Placed.{Placed}
use Rattle.pipe_model.specs.declared.entry.Entry.{Entry}
use Rattle.wire_trace.specs.Files.{is_behind, before_all}

-- the fields of its message that have fewer bits than their types fit
abbrev pub IsWritable : Post → Type 0
IsWritable (Write from link key address len) = Unit {0}
IsWritable (Cdc from link m) = Unit {0}
IsWritable (Llc from link m) = llc.Fits m
IsWritable (Clc from s link m) = clc.Fits m

-- the posts of all entries do so
abbrev pub AreWritable : List Entry → Type 0
AreWritable entries = All (λ e. All IsWritable e.posts) entries

-- the name of a link: slot 1 to 8, a group and an incarnation of at least 1
pub record IsLink (link : LinkId) : Type 0 where
  pub slot_low : 1 ≤ link.slot
  pub slot_high : link.slot ≤ 8
  pub group_low : 1 ≤ link.group
  pub group_high : link.group < 2 ^ 32
  pub incarnation_low : 1 ≤ link.incarnation
  pub incarnation_high : link.incarnation < 2 ^ 32

-- a post whose link has a name, and whose message is read again
abbrev pub IsTold : Post → Type 0
IsTold (Write from link key address len) = IsLink link × (key < 2 ^ 32) × (address < 2 ^ 64) × (len < 2 ^ 32)
IsTold (Cdc from link m) = IsLink link × cdc.IsMessage m
IsTold (Llc from link m) = IsLink link × llc.IsMessage m × llc.Fits m × llc.IsReadable m
IsTold (Clc from s link m) = (s < 2 ^ 32) × IfSome link IsLink × clc.IsMessage m × clc.Fits m × clc.HasNoPrefix m

-- a post of this kind at a place
pub record IsPlaced (p : Placed) : Type 0 where
  pub entry : p.at.entry < 2 ^ 32
  pub told : IsTold p.post

-- each is behind the one before it, the first behind this place
abbrev pub AreBehind : PostRef → List Placed → Type 0
AreBehind last [] = Unit {0}
AreBehind last (p ∷ posts) = (is_behind last p.at ≡ true) × AreBehind p.at posts

-- a post's number in its entry is 1 to 6
pub record IsNumbered (at : PostRef) : Type 0 where
  pub entry : 1 ≤ at.entry
  pub low : 1 ≤ at.post
  pub high : at.post ≤ 6

-- posts whose file is read as them: each is told wholly, they are numbered as in a history, and in order
pub record AreTraced (posts : List Placed) : Type 0 where
  pub told : All IsPlaced posts
  pub numbered : All (λ p. IsNumbered p.at) posts
  pub behind : AreBehind before_all posts
  pub few : length posts < 2 ^ 32

-- an entry with at most six posts, each of them told wholly
pub record IsToldEntry (e : Entry) : Type 0 where
  pub few : length e.posts ≤ 6
  pub told : All IsTold e.posts

-- a history of fewer than 2^29 entries whose posts are told wholly
pub record AreTold (entries : List Entry) : Type 0 where
  pub few : length entries < 2 ^ 29
  pub told : All IsToldEntry entries
