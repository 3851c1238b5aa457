use Rattle.std.proofs.Common.{◌≡◌, ◌∙◌, ◌++◌, ℕ, List, [], ◌∷◌, None, string_bytes, string_eq, sym, ap, is_some}
use Rattle.std.specs.Str.{bytes_eq}
use Rattle.std.specs.Map.{keys_of}
use Rattle.std.proofs.lemmas.List.{length-map}
use Rattle.std.proofs.lemmas.Map.Entries.{length-keys_of}
use Rattle.indexmap.specs.IndexMap.{get, get_by}
use Rattle.indexmap.proofs.CallerLemmas.{insert_entry-new}
use Rattle.scene_text.proofs.Mentions.{found, added, texts, texts-push, position-texts, is_none}
use Rattle.scene_text.proofs.scenes.mention.Goals as goal
use Rattle.scene_text.proofs.scenes.mention.Goals.{In-Some, In_default}

pub returns-in-Some-clause-number : goal.returns-in-Some-clause-number
returns-in-Some-clause-number c =
    let es = c.args.names.now.entries in
    (found (texts es) c.args.name.now c.in-Some.s (sym (position-texts es c.args.name.now) ∙ sym c.get_index_of.ensures.index ∙ c.in-Some.is)).0

pub returns-in-Some-clause-names : goal.returns-in-Some-clause-names
returns-in-Some-clause-names c =
    let es = c.args.names.now.entries in
    (found (texts es) c.args.name.now c.in-Some.s (sym (position-texts es c.args.name.now) ∙ sym c.get_index_of.ensures.index ∙ c.in-Some.is)).1

pub returns-clause-number : goal.returns-clause-number
returns-clause-number c =
    let es = c.args.names.now.entries in
    c.len-s.ensures.len ∙ sym (length-map (keys_of es) string_bytes ∙ length-keys_of es) ∙ (added (texts es) c.args.name.now (sym (position-texts es c.args.name.now) ∙ sym c.get_index_of.ensures.index ∙ c.in_default.is)).0

pub returns-clause-names : goal.returns-clause-names
returns-clause-names c =
    let es = c.args.names.now.entries in
    let name = c.args.name.now in
    let text = c.in_ok-key.ensures.ok in
    let absent : get string_eq c.args.names.now c.in_ok-key.key ≡ None = ap (λ (t : List ℕ). get_by (λ k. bytes_eq t (string_bytes k)) c.args.names.now) text ∙ is_none _ (sym c.get_index_of.ensures.found ∙ ap is_some c.in_default.is) in
    let more : texts c.insert.new.self.entries ≡ texts es ++ name ∷ [] = ap texts (c.in_ok-insert.ensures.entries ∙ insert_entry-new string_eq c.args.names.now c.in_ok-key.key tt absent) ∙ texts-push es c.in_ok-key.key ∙ ap (λ t. texts es ++ t ∷ []) text in
    more ∙ (added (texts es) name (sym (position-texts es name) ∙ sym c.get_index_of.ensures.index ∙ c.in_default.is)).1
