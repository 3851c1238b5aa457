-- A publication as one word.
use Rattle.std.specs.Prelude.{ℕ, ◌+◌, ◌*◌, Bool, true, false}
use Rattle.alert_board.specs.declared.flags.Alert.{Alert}
use Rattle.alert_board.specs.declared.flags.News.{News}

-- a flag as a bit
abbrev pub bit_of : Bool → ℕ
bit_of true = 1
bit_of false = 0

-- the four flags as a number below 16
abbrev pub code_of : Alert → ℕ
code_of flags = bit_of flags.readable + 2 * bit_of flags.done + 4 * bit_of flags.closed + 8 * bit_of flags.reset

-- the word of a place whose last publication this is
abbrev pub word_of : News → ℕ
word_of news = 16 * news.number + code_of news.flags
