-- What a search for a place finds, and what a pass over the members learns.
use Rattle.std.specs.Prelude.{◌≡◌, ◌≢◌, ℕ, ◌+◌, ◌<◌, ◌≤◌, List, true, false, length, slice_index, slice_index_or}
use Rattle.alert_board.specs.declared.flags.News.{News}
use Rattle.alert_board.specs.Alerts.{Later, news_at}
use Rattle.alert_board.specs.Known.{Looked}
use Rattle.wait_set.specs.declared.member.Waiting.{Waiting}
use Rattle.wait_set.specs.Ready.{is_ready}
use Rattle.wait_set.specs.Waiting.{nobody, place_of}

-- the i-th member has the place
pub record IsAt (members : List Waiting) (place i : ℕ) : Type 0 where
  pub in_range : i < length members
  pub has_place : place_of members i ≡ place

-- a member with the place would go to i
pub record IsGapFor (members : List Waiting) (place i : ℕ) : Type 0 where
  pub in_range : i ≤ length members
  pub lower_before : (j : ℕ) → j < i → place_of members j < place
  pub higher_after : (j : ℕ) → i ≤ j → j < length members → place < place_of members j

-- the first n members' places were loaded once each, and nothing else
pub record Asked (members : List Waiting) (n : ℕ) (old new : Looked) : Type 0 where
  pub board : new.board ≡ old.board
  pub later : (p : ℕ) → Later (news_at old.seen p) (news_at new.seen p)
  pub loaded : (i : ℕ) → i < n → slice_index new.loads (place_of members i) ≡ slice_index old.loads (place_of members i) + 1
  pub others : (p : ℕ) → ((i : ℕ) → i < n → place_of members i ≢ p) → (news_at new.seen p ≡ news_at old.seen p) × (slice_index new.loads p ≡ slice_index old.loads p)

-- none of the first n members is ready by what the look has seen
abbrev pub NoneReady : List Waiting → ℕ → Looked → Type 0
NoneReady members n look = (i : ℕ) → i < n → is_ready (slice_index_or members i nobody) (news_at look.seen (place_of members i)) ≡ false

-- the first that is ready, by this news
pub record IsFirst (members : List Waiting) (i : ℕ) (news : News) (old new : Looked) : Type 0 where
  pub in_range : i < length members
  pub asked : Asked members (i + 1) old new
  pub seen : news_at new.seen (place_of members i) ≡ news
  pub ready : is_ready (slice_index_or members i nobody) news ≡ true
  pub none_before : NoneReady members i new
