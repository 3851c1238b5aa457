-- What the printer is given, as the definitions see it.
-- A reader learns here nothing new: names are known by their bytes.
use Rattle.std.specs.Prelude.{ℕ, List, map, String, string_bytes}
use Rattle.scene_text.specs.HistoryText.{Printed}
use Rattle.smcr_calls.specs.declared.print.Texts.{Texts}

-- names by their bytes
abbrev pub names_of : {A : Type 0} → List (String A) → List (List ℕ)
names_of names = map string_bytes names

abbrev pub printed : Texts → Printed
printed t = record { names = names_of t.names.now; actors = names_of t.actors.now; payload = t.payload.now; heard = t.heard.now }
