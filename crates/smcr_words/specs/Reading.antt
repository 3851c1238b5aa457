-- What `clap` is asked to read, and what its reading says of the words.
use Rattle.std.specs.Prelude.{◌≡◌, ◌<◌, ◌≤◌, ◌||◌, ◌==◌, ◌&&◌, not, Bool, true, false, List, [], ◌∷◌, length, Option, Some, None, is_some, option_map, option_and_then, if◌then◌else◌, slice_get, codes}
use Rattle.std.specs.Str.{bytes_eq, chars}
use Rattle.clap.specs.Lexer.{long_of, short_of}
use Rattle.clap.specs.Words.{App, Rule, Text, new_app, new_rule, with_rule}
use Rattle.clap.specs.Simple.{on_top}
use Rattle.clap.specs.declared.builder.ArgAction.TheVariants.{Set}
use Rattle.smcr_words.specs.Commands.{without_dashes}
use Rattle.smcr_words.specs.declared.parser.Asked.{Asked}
use Rattle.smcr_words.specs.declared.WordsFault.{WordsFault}
use Rattle.smcr_words.specs.declared.WordsFault.TheVariants.{Usage}

abbrev pub command_rule : Rule
command_rule = record (new_rule (codes "command")) { required = true; action = Some Set }

abbrev pub value_rule : Rule
value_rule = record (new_rule (codes "value")) { action = Some Set }

-- what is parsed: one value that is required and one that may follow, and no flag
abbrev pub smcr : App
smcr = with_rule (with_rule (on_top (λ s. record s { no_binary_name = true; disable_help_flag = true }) (new_app (codes "smcr"))) command_rule) value_rule

-- `--`
abbrev pub is_dashes : Text → Bool
is_dashes w = bytes_eq w (codes "--")

-- `--name`, or `-` and a character
abbrev pub is_flag : Text → Bool
is_flag w = is_some (long_of w) || is_some (option_and_then (λ flags. slice_get (chars flags) 0) (short_of w))

-- the words without the first that is `--`, where none before it is a flag
abbrev pub values_of : List Text → Option (List Text)
values_of [] = Some []
values_of (w ∷ ws) = if is_dashes w then Some ws else (if is_flag w then None else option_map (λ vs. w ∷ vs) (values_of ws))

abbrev pub option_listed : Option Text → List Text
option_listed None = []
option_listed (Some v) = v ∷ []

-- the words that were read
abbrev pub listed : Asked → List Text
listed r = r.command.now ∷ option_listed (option_map (λ v. v.now) r.value)

-- what was read is all the values
abbrev pub IsRead : List Text → Asked → Type 0
IsRead words r = values_of words ≡ Some (listed r)

-- a usage fault comes where there is not one value or two
abbrev pub IsRefused : List Text → WordsFault → Type 0
IsRefused words e = e ≡ Usage → (vs : List Text) → values_of words ≡ Some vs → (0 < length vs) → (length vs ≤ 2) → ⊥

abbrev pub begins_with_hyphen : Text → Bool
begins_with_hyphen [] = false
begins_with_hyphen (x ∷ xs) = x == 45

abbrev pub no_hyphens : List Text → Bool
no_hyphens [] = true
no_hyphens (w ∷ ws) = not (begins_with_hyphen w) && no_hyphens ws

-- what was read is all the words but the first `--`
abbrev pub IsWholly : List Text → Asked → Type 0
IsWholly words r = without_dashes words ≡ listed r

-- a usage fault comes only where those words are not one or two, or one of them begins with a hyphen
abbrev pub IsNoCommand : List Text → WordsFault → Type 0
IsNoCommand words e = e ≡ Usage → no_hyphens (without_dashes words) ≡ true → 0 < length (without_dashes words) → length (without_dashes words) ≤ 2 → ⊥
