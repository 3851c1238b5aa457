-- The rule of the board's table, and what each step does to the view of its seat.
use Rattle.std.specs.Prelude.{◌≡◌, ◌<◌, ◌≤◌, ◌+◌, ◌^◌, ℕ, true, false, List, [], ◌∷◌, ◌++◌, length, map, replicate, slice_index, slice_set}
use mathlib.Core.Option.{some}
use lib.ListN.{get_elem?}
use Rattle.atomic_table.specs.Table.{State, Me, Step}
use Rattle.alert_board.specs.declared.flags.Alert.{Alert}
use Rattle.alert_board.specs.declared.flags.News.{News}
use Rattle.alert_board.specs.declared.rule.View.{View}
use Rattle.alert_board.specs.Alerts.{no_alert, FitsAll, Later, Rises, earliest, last_of, latest, log_at, news_at}
use Rattle.alert_board.specs.Word.{word_of}

-- the pen's view has the lists, and what each view has seen or was told is of them
abbrev pub Fits : List (List Alert) → ℕ → ℕ → View → Type 0
Fits logs pen id view = (view.pen ≡ true → (id ≡ pen) × (view.logs ≡ logs)) × FitsAll logs view.seen × FitsAll logs view.told

-- the pen, before the first publication
abbrev pub first_view : ℕ → View
first_view places = record { pen = true; logs = replicate places []; seen = []; told = []; loads = [] }

-- a look that has seen the last publication of each place
abbrev pub fresh_look : View → View
fresh_look view = record { pen = false; logs = []; seen = map last_of view.logs; told = []; loads = replicate (length view.logs) 0 }

-- a look that has seen the same
abbrev pub same_look : View → View
same_look view = record { pen = false; logs = []; seen = view.seen; told = []; loads = view.loads }

-- two looks in one: it has seen the later at each place, and is told the earlier
abbrev pub joined : View → View → View
joined view other = record view { seen = latest view.seen other.seen; told = earliest view.seen other.seen }

-- the pen is told what a look has seen
abbrev pub met : View → View → View
met view other = record view { told = other.seen }

-- what a joined seat leaves
abbrev pub spent_view : View
spent_view = record { pen = false; logs = []; seen = []; told = []; loads = [] }

module _ {S : Type 0} where
  -- each word is the last publication of its place
  abbrev pub Kept : State S View → Type 0
  Kept s = (logs : List (List Alert)) × (pen : ℕ) × (length s.words ≡ length logs) × ((place : ℕ) → slice_index s.words place ≡ word_of (last_of (log_at logs place)))
      × ((place : ℕ) → Rises (log_at logs place)) × ((place : ℕ) → length (log_at logs place) < 2 ^ 32)
      × ((id : ℕ) (view : View) → get_elem? s.views id ≡ some view → Fits logs pen id view)

  -- one load of a place's word
  abbrev pub Polled : Step S → Me S View → ℕ → Me S View → Type 0
  Polled s me found now = (news : News) × (found ≡ word_of news) × (news.number < 2 ^ 32) × (news.number ≡ 0 → news.flags ≡ no_alert) × Later (news_at me.0.seen s.word) news
      × (now.0 ≡ record me.0 { seen = slice_set me.0.seen s.word news; loads = slice_set me.0.loads s.word (slice_index me.0.loads s.word + 1) }) × (now.1 ≡ me.1)

  -- one more publication
  abbrev pub Published : Alert → Step S → Me S View → ℕ → Me S View → Type 0
  Published flags s me found now = (now.0 ≡ record me.0 { logs = slice_set me.0.logs s.word (log_at me.0.logs s.word ++ flags ∷ []) })
      × ((place : ℕ) → Rises (log_at now.0.logs place)) × (now.1 ≡ me.1)

  -- what the pen was told is of its lists, and no later than the last of each
  abbrev pub Compared : Step S → Me S View → ℕ → Me S View → Type 0
  Compared s me found now = (now ≡ me) × FitsAll me.0.logs me.0.told × ((place : ℕ) → Later (news_at me.0.told place) (last_of (log_at me.0.logs place)))

  -- what the look was told is no later than what it has seen, where the number is not above
  abbrev pub Ordered : Step S → Me S View → ℕ → Me S View → Type 0
  Ordered s me found now = (now ≡ me) × ((place : ℕ) → (news_at me.0.told place).number ≤ (news_at me.0.seen place).number → Later (news_at me.0.told place) (news_at me.0.seen place))
