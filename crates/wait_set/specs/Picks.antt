-- What each call does to the set and to the look.
use Rattle.std.specs.Prelude.{◌≡◌, ◌≢◌, ◌⊎◌, ℕ, ◌+◌, ◌<◌, ◌≤◌, List, true, false, length, slice_index, Some, is_some, IsSome, IsNone}
use Rattle.alert_board.specs.declared.flags.News.{News}
use Rattle.alert_board.specs.Alerts.{news_at}
use Rattle.alert_board.specs.Known.{Looked}
use Rattle.wait_set.specs.declared.member.Member.{Member}
use Rattle.wait_set.specs.declared.member.Waiting.{Waiting}
use Rattle.wait_set.specs.Ready.{is_ready}
use Rattle.wait_set.specs.Waiting.{waiting_at, IsRising}

-- every member but the one with this place stays as it was
abbrev pub OthersStay : ℕ → List Waiting → List Waiting → Type 0
OthersStay place old new = (p : ℕ) → p ≢ place → waiting_at new p ≡ waiting_at old p

-- the same places are in the set
abbrev pub SamePlaces : List Waiting → List Waiting → Type 0
SamePlaces old new = (p : ℕ) → is_some (waiting_at new p) ≡ is_some (waiting_at old p)

-- the look has seen and loaded nothing more at this place
abbrev pub StaysAt : ℕ → Looked → Looked → Type 0
StaysAt place old new = (news_at new.seen place ≡ news_at old.seen place) × (slice_index new.loads place ≡ slice_index old.loads place)

-- the look has loaded this place's word once more
abbrev pub LoadsAt : ℕ → Looked → Looked → Type 0
LoadsAt place old new = slice_index new.loads place ≡ slice_index old.loads place + 1

-- the set has one member more, which was never picked
pub record IsAdded (member : Member) (old new : List Waiting) : Type 0 where
  pub there : waiting_at new member.place ≡ Some (record { member = member; picked = 0 })
  pub others : OthersStay member.place old new
  pub count : length new ≡ length old + 1
  pub rising : IsRising new

-- the set has one member less
pub record IsRemoved (place : ℕ) (old new : List Waiting) : Type 0 where
  pub gone : IsNone (waiting_at new place)
  pub others : OthersStay place old new
  pub count : length new + 1 ≡ length old
  pub rising : IsRising new

-- the lowest member that is ready was picked, by this news
pub record IsPicked (place : ℕ) (news : News) (old new : List Waiting) (before after : Looked) : Type 0 where
  pub ready : (w : Waiting) × (waiting_at old place ≡ Some w) × (is_ready w news ≡ true) × (waiting_at new place ≡ Some (record w { picked = news.number }))
  pub seen : news_at after.seen place ≡ news
  pub loaded : (p : ℕ) → p ≤ place → IsSome (waiting_at old p) → LoadsAt p before after
  pub unloaded : (p : ℕ) → (place < p) ⊎ IsNone (waiting_at old p) → StaysAt p before after
  pub none_lower : (p : ℕ) (w : Waiting) → p < place → waiting_at old p ≡ Some w → is_ready w (news_at after.seen p) ≡ false
  pub others : OthersStay place old new
  pub count : length new ≡ length old
  pub rising : IsRising new

-- no member is ready
pub record IsNonePicked (members : List Waiting) (before after : Looked) : Type 0 where
  pub loaded : (p : ℕ) → IsSome (waiting_at members p) → LoadsAt p before after
  pub unloaded : (p : ℕ) → IsNone (waiting_at members p) → StaysAt p before after
  pub none_ready : (p : ℕ) (w : Waiting) → waiting_at members p ≡ Some w → is_ready w (news_at after.seen p) ≡ false
