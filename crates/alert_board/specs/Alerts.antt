-- Flags, the publications of a place, and what was seen of them.
use Rattle.std.specs.Prelude.{◌≡◌, ◌≤◌, ℕ, zero, suc, true, false, List, [], ◌∷◌, length, slice_index_or, nat_lt, if◌then◌else◌}
use Rattle.alert_board.specs.declared.flags.Alert.{Alert}
use Rattle.alert_board.specs.declared.flags.News.{News}

-- no flag is set
abbrev pub no_alert : Alert
no_alert = record { readable = false; done = false; closed = false; reset = false }

-- what stands at a place before its first publication
abbrev pub no_news : News
no_news = record { number = 0; flags = no_alert }

-- done, closed and reset are not taken back
abbrev pub Keeps : Alert → Alert → Type 0
Keeps old new = (old.done ≡ true → new.done ≡ true) × (old.closed ≡ true → new.closed ≡ true) × (old.reset ≡ true → new.reset ≡ true)

-- the publications of a place, of one list for each place
abbrev pub log_at : List (List Alert) → ℕ → List Alert
log_at logs place = slice_index_or logs place []

-- what was seen at a place
abbrev pub news_at : List News → ℕ → News
news_at seen place = slice_index_or seen place no_news

-- the flags of the publication with this number, and none for 0
abbrev pub flags_at : ℕ → List Alert → Alert
flags_at zero log = no_alert
flags_at (suc before) log = slice_index_or log before no_alert

-- the last publication of a place
abbrev pub last_of : List Alert → News
last_of log = record { number = length log; flags = flags_at (length log) log }

-- it is one of the publications, or number 0 with no flag
abbrev pub IsOf : List Alert → News → Type 0
IsOf log news = (news.number ≤ length log) × (news.flags ≡ flags_at news.number log)

-- what was seen at each place is of that place
abbrev pub FitsAll : List (List Alert) → List News → Type 0
FitsAll logs seen = (place : ℕ) → IsOf (log_at logs place) (news_at seen place)

-- along the numbers done, closed and reset are never taken back
abbrev pub Rises : List Alert → Type 0
Rises log = (i j : ℕ) → i ≤ j → j ≤ length log → Keeps (flags_at i log) (flags_at j log)

-- no older, the same where the numbers agree, and nothing taken back
abbrev pub Later : News → News → Type 0
Later old new = (old.number ≤ new.number) × (old.number ≡ new.number → old.flags ≡ new.flags) × Keeps old.flags new.flags

-- the later of two
abbrev pub later_of : News → News → News
later_of a b = if nat_lt a.number b.number then b else a

-- the earlier of two
abbrev pub earlier_of : News → News → News
earlier_of a b = if nat_lt a.number b.number then a else b

-- at each place the one of two that `pick` takes
abbrev pub each_of : (News → News → News) → List News → List News → List News
each_of pick [] ys = ys
each_of pick (x ∷ xs) [] = x ∷ xs
each_of pick (x ∷ xs) (y ∷ ys) = pick x y ∷ each_of pick xs ys

-- what was seen last at each place
abbrev pub latest : List News → List News → List News
latest xs ys = each_of later_of xs ys

-- what was seen first at each place
abbrev pub earliest : List News → List News → List News
earliest xs ys = each_of earlier_of xs ys
