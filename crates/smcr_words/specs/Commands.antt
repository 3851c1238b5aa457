-- The command that the words after the program's name are.
-- A reader learns here what each list of words asks for; both readings equal `command_of`.
use Rattle.std.specs.Prelude.{ℕ, List, [], ◌∷◌, Option, Some, None, if◌then◌else◌, codes}
use Rattle.std.specs.Str.{bytes_eq}
use Rattle.smcr_words.specs.declared.Command.{Command}
use Rattle.smcr_words.specs.declared.Command.TheVariants.{Run, Show, Trace}

-- the words without the first that is `--`
abbrev pub without_dashes : List (List ℕ) → List (List ℕ)
without_dashes [] = []
without_dashes (w ∷ ws) = if bytes_eq w (codes "--") then ws else w ∷ without_dashes ws

-- the command of this name
abbrev pub command_named : List ℕ → Option Command
command_named word = if bytes_eq word (codes "run") then Some Run else if bytes_eq word (codes "show") then Some Show else if bytes_eq word (codes "trace") then Some Trace else None

-- the command that the words are which are left: its name, and nothing more
abbrev pub only_command : List (List ℕ) → Option Command
only_command (word ∷ []) = command_named word
only_command _ = None

-- the command that words are, if they are one
abbrev pub command_of : List (List ℕ) → Option Command
command_of words = only_command (without_dashes words)
