-- What pen and look show.
use Rattle.std.specs.Prelude.{ℕ, ◌+◌, List, [], ◌∷◌, ◌++◌, length, map, replicate, slice_index, slice_set}
use Rattle.atomic_table.specs.Seated.{TableId}
use Rattle.alert_board.specs.declared.flags.Alert.{Alert}
use Rattle.alert_board.specs.declared.flags.News.{News}
use Rattle.alert_board.specs.Alerts.{log_at, last_of, latest}

-- which board it is, with the number of its places in `words`
abbrev pub BoardId : Type 0
BoardId = TableId

-- a pen: of which board it is, and the publications of each place
pub record Told : Type 0 where
  pub board : BoardId
  pub logs : List (List Alert)

-- a look: of which board it is, what it has seen at each place, and how often it has loaded each place's word
pub record Looked : Type 0 where
  pub board : BoardId
  pub seen : List News
  pub loads : List ℕ

-- the pen after one more publication
abbrev pub published : Told → ℕ → Alert → Told
published pen place flags = record pen { logs = slice_set pen.logs place (log_at pen.logs place ++ flags ∷ []) }

-- the look after one load at a place, which found this
abbrev pub polled : Looked → ℕ → News → Looked
polled look place news = record look { seen = slice_set look.seen place news; loads = slice_set look.loads place (slice_index look.loads place + 1) }

-- a look that has seen the last publication of each place, and has loaded nothing
abbrev pub fresh : Told → Looked
fresh pen = record { board = pen.board; seen = map last_of pen.logs; loads = replicate (length pen.logs) 0 }

-- the look after it took in what another has seen
abbrev pub joined_look : Looked → Looked → Looked
joined_look look other = record look { seen = latest look.seen other.seen }
