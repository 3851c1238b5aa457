-- What clap makes of the words of a command with one value that is required and one that may follow.
use Rattle.std.proofs.Common.{◌≡◌, ◌∙◌, ◌<◌, ◌≤◌, ◌+◌, ◌||◌, ◌⊎◌, inl, inr, ℕ, suc, Bool, true, false, List, [], ◌∷◌, ◌++◌, length, fold, Option, Some, None, is_some, option_map, option_and_then, refl, sym, ap, ap₂, subst, true≢false, codes, arith}
use Rattle.std.specs.Prelude.{slice_get}
use Rattle.std.specs.Str.{chars}
use Rattle.clap.specs.Lexer.{long_of, short_of}
use Rattle.clap.specs.Kinds.{Kinds, or_else}
use Rattle.clap.specs.Walk.{Held, Row, Rule, Step, Text, Walk, idle, value, walked, used, word_met, after_step, first_of, settled, finished}
use Rattle.clap.specs.Simple.{Shape, built, entered, matches_of, is_simple as simple}
use Rattle.clap.specs.Faults.{fault_of, turn_fault, walk_fault, word_fault, step_fault, entered_fault, settle_fault, defaults_fault, check_fault, is_simple_and_free}
use Rattle.clap.proofs.OnLiterals.{clap_on_literals}
use Rattle.smcr_words.specs.Reading.{smcr, command_rule, is_dashes, is_flag, values_of, option_listed}
use Rattle.smcr_words.proofs.Dashes.{tells}

abbrev top : Shape
top = (built smcr).top

abbrev held : List Row → Option (Text × List Text) → Held
held rows pending = record { rows = rows; pending = pending; skip = 0 }

abbrev walk_at : ℕ → Held → Bool → Walk
walk_at n h trailing = record { held = h; waiting = idle; position = n; is_trailing = trailing; stopped = None }

abbrev first_rule : List Rule → Rule
first_rule [] = command_rule
first_rule (a ∷ rest) = a

-- where the walk stands once these values were met
abbrev stands : List Text → Bool → Walk
stands [] t = walk_at 1 (held [] None) t
stands (a ∷ []) t = walk_at 2 (held [] (Some (codes "command", a ∷ []))) t
stands (a ∷ b ∷ vs) t = walk_at 3 (held (used (first_rule top.rules) (a ∷ []) []) (Some (codes "value", b ∷ []))) t

or_false : (a b : Bool) → (a || b) ≡ false → (a ≡ false) × (b ≡ false)
or_false true b e = absurd (true≢false e)
or_false false b e = (refl, e)

is_none : {X : Type 0} (o : Option X) → is_some o ≡ false → o ≡ None
is_none None e = refl
is_none (Some x) e = absurd (true≢false e)

-- ---- a word that is no flag and not `--` is a value

abbrev first_char : Text → Option ℕ
first_char flags = slice_get (chars flags) 0

module _ (n : ℕ) (rows : List Row) (p : Option (Text × List Text)) (w : Text) where
  abbrev Plain : Type 0
  Plain = (word_met top.rules [] false idle n w (held rows p) ≡ (held rows p, value)) × (word_fault top [] false idle w (held rows p) ≡ [])

  plain_short : (s : Option Text) → is_dashes w ≡ false → long_of w ≡ None → short_of w ≡ s → option_and_then first_char s ≡ None → Plain
  unfolding clap_on_literals
  plain_short None d l s e = (rw (d, l, s) refl, rw (d, l, s) refl)
  plain_short (Some []) d l s e = (rw (d, l, s) refl, rw (d, l, s) refl)
  plain_short (Some (x ∷ xs)) d l s e = (rw (d, l, s, e) refl, rw (d, l, s, e) refl)

  plain : is_dashes w ≡ false → is_flag w ≡ false → Plain
  plain d f = let o = or_false (is_some (long_of w)) _ f in plain_short (short_of w) d (is_none _ o.0) refl (is_none _ o.1)

  plain_turn : is_dashes w ≡ false → is_flag w ≡ false → turn_fault top [] (walk_at n (held rows p) false) w ≡ step_fault top n (held rows p) value
  plain_turn d f = let q = plain d f in ap₂ (λ (k : Kinds) (m : Held × Step). or_else k (step_fault top n m.0 m.1)) q.1 q.0

  plain_walk : is_dashes w ≡ false → is_flag w ≡ false → walked top.rules [] (walk_at n (held rows p) false) w ≡ after_step top.rules w (walk_at n (held rows p) false) (held rows p) value
  unfolding walked
  plain_walk d f = ap (λ (m : Held × Step). after_step top.rules w (walk_at n (held rows p) false) m.0 m.1) (plain d f).0

  -- a flag is refused
  flag_char : (x : ℕ) (xs : Text) (o : Option ℕ) → is_dashes w ≡ false → long_of w ≡ None → short_of w ≡ Some (x ∷ xs) → first_char (x ∷ xs) ≡ o → is_some o ≡ true
      → 0 < length (turn_fault top [] (walk_at n (held rows p) false) w)
  unfolding clap_on_literals
  flag_char x xs None d l e c h = absurd (true≢false (sym h))
  flag_char x xs (Some ch) d l e c h = rw (d, l, e, c) (omega arith)

  flag_short : (s : Option Text) → is_dashes w ≡ false → long_of w ≡ None → short_of w ≡ s → is_some (option_and_then first_char s) ≡ true → 0 < length (turn_fault top [] (walk_at n (held rows p) false) w)
  unfolding chars
  flag_short None d l e h = absurd (true≢false (sym h))
  flag_short (Some []) d l e h = absurd (true≢false (sym h))
  flag_short (Some (x ∷ xs)) d l e h = flag_char x xs (first_char (x ∷ xs)) d l e refl h

  flag_long : (s : Option (Text × Option Text)) → is_dashes w ≡ false → long_of w ≡ s → (is_some s || is_some (option_and_then first_char (short_of w))) ≡ true
      → 0 < length (turn_fault top [] (walk_at n (held rows p) false) w)
  flag_long None d l f = flag_short (short_of w) d l refl f
  flag_long (Some q) d l f = rw (d, l) (omega arith)

  flag_turn : is_dashes w ≡ false → is_flag w ≡ true → 0 < length (turn_fault top [] (walk_at n (held rows p) false) w)
  flag_turn d f = flag_long (long_of w) d refl f

  -- `--` is passed over, once
  dash_turn : is_dashes w ≡ true → turn_fault top [] (walk_at n (held rows p) false) w ≡ []
  dash_turn d = rw d refl

  dash_walk : is_dashes w ≡ true → walked top.rules [] (walk_at n (held rows p) false) w ≡ walk_at n (held rows p) true
  unfolding walked
  dash_walk d = rw d refl

-- ---- the walk over all words

abbrev IsValue : Bool → Text → Type 0
IsValue true w = Unit {0}
IsValue false w = (is_dashes w ≡ false) × (is_flag w ≡ false)

step0 : (t : Bool) (w : Text) → IsValue t w → (turn_fault top [] (stands [] t) w ≡ []) × (walked top.rules [] (stands [] t) w ≡ stands (w ∷ []) t)
unfolding clap_on_literals
step0 true w v = (refl, refl)
step0 false w v = (plain_turn 1 [] None w v.0 v.1, plain_walk 1 [] None w v.0 v.1)

step1 : (a : Text) (t : Bool) (w : Text) → IsValue t w → (turn_fault top [] (stands (a ∷ []) t) w ≡ []) × (walked top.rules [] (stands (a ∷ []) t) w ≡ stands (a ∷ w ∷ []) t)
unfolding clap_on_literals
step1 a true w v = (refl, refl)
step1 a false w v = (plain_turn 2 [] (Some (codes "command", a ∷ [])) w v.0 v.1, plain_walk 2 [] (Some (codes "command", a ∷ [])) w v.0 v.1)

step2 : (a b : Text) (t : Bool) (w : Text) → IsValue t w → 0 < length (turn_fault top [] (stands (a ∷ b ∷ []) t) w)
unfolding clap_on_literals
step2 a b true w v = omega arith
step2 a b false w v = let e = plain_turn 3 (used (first_rule top.rules) (a ∷ []) []) (Some (codes "value", b ∷ [])) w v.0 v.1 in subst (λ k. 0 < length k) (sym e) (omega arith)

abbrev go : Bool → List Text → Option (List Text)
go true ws = Some ws
go false ws = values_of ws

abbrev run : Walk → List Text → Walk
run = fold (walked top.rules [])

abbrev Took : List Text → Bool → List Text → Type 0
Took vals t ws = (vs : List Text) × (later : Bool) × (go t ws ≡ Some vs) × (length vals + length vs ≤ 2) × (walk_fault top [] (stands vals t) ws ≡ []) × (run (stands vals t) ws ≡ stands (vals ++ vs) later)

abbrev Refused : List Text → Bool → List Text → Type 0
Refused vals t ws = ((vs : List Text) → go t ws ≡ Some vs → length vals + length vs ≤ 2 → ⊥) × (0 < length (walk_fault top [] (stands vals t) ws))

ends : (t : Bool) → go t [] ≡ Some []
ends true = refl
ends false = refl

no_fault : (w : Walk) → walk_fault top [] w [] ≡ []
unfolding walk_fault
no_fault w = refl

-- a step without a fault, and one with
on : (w next : Walk) (word : Text) (ws : List Text) → turn_fault top [] w word ≡ [] → walked top.rules [] w word ≡ next → walk_fault top [] w (word ∷ ws) ≡ walk_fault top [] next ws
unfolding walk_fault
on w next word ws none is = ap₂ (λ (k : Kinds) (v : Walk). or_else k (walk_fault top [] v ws)) none is

longer : (k next : Kinds) → 0 < length k → 0 < length (or_else k next)
longer [] next h = absurd (omega arith)
longer (k ∷ ks) next h = h

off : (w : Walk) (word : Text) (ws : List Text) → 0 < length (turn_fault top [] w word) → 0 < length (walk_fault top [] w (word ∷ ws))
unfolding walk_fault
off w word ws h = longer _ (walk_fault top [] (walked top.rules [] w word) ws) h

mapped : (w : Text) (o : Option (List Text)) (vs : List Text) → option_map (λ us. w ∷ us) o ≡ Some vs → (us : List Text) × (o ≡ Some us) × (length vs ≡ suc (length us))
mapped w None vs e = absurd (true≢false (sym (ap is_some e)))
mapped w (Some us) vs e = (us, refl, ap (λ (o : Option (List Text)). length (unwrap o)) (sym e))
  where
    unwrap : Option (List Text) → List Text
    unwrap None = []
    unwrap (Some xs) = xs

goes_value : (t : Bool) (w : Text) (ws : List Text) → IsValue t w → go t (w ∷ ws) ≡ option_map (λ us. w ∷ us) (go t ws)
goes_value true w ws v = refl
goes_value false w ws v = rw (v.0, v.1) refl

goes_dash : (w : Text) (ws : List Text) → is_dashes w ≡ true → go false (w ∷ ws) ≡ go true ws
goes_dash w ws d = rw d refl

goes_flag : (w : Text) (ws : List Text) → is_dashes w ≡ false → is_flag w ≡ true → go false (w ∷ ws) ≡ None
goes_flag w ws d f = rw (d, f) refl

none_some : (vs : List Text) (o : Option (List Text)) → o ≡ None → o ≡ Some vs → ⊥
none_some vs o n s = true≢false (ap is_some (sym s ∙ n))

append_nil : (vals : List Text) → vals ++ [] ≡ vals
append_nil [] = refl
append_nil (v ∷ vs) = ap (λ us. v ∷ us) (append_nil vs)

-- the walk is over
stops : (vals : List Text) (t : Bool) → length vals ≤ 2 → Took vals t []
stops vals t h = ([], t, ends t, omega arith, no_fault (stands vals t), ap (λ us. stands us t) (sym (append_nil vals)))

-- the same walk, a word later and with one more value
takes_value : (vals more : List Text) (t : Bool) (w : Text) (ws : List Text) → IsValue t w → length more ≡ suc (length vals) → ((vs : List Text) → more ++ vs ≡ vals ++ w ∷ vs)
    → turn_fault top [] (stands vals t) w ≡ [] → walked top.rules [] (stands vals t) w ≡ stands more t
    → Took more t ws ⊎ Refused more t ws → Took vals t (w ∷ ws) ⊎ Refused vals t (w ∷ ws)
takes_value vals more t w ws v len same turn next (inl k) =
    inl (
      w ∷ k.0,
      k.1,
      goes_value t w ws v ∙ ap (option_map (λ us. w ∷ us)) k.2,
      (let a = k.3 in omega (arith, len)),
      on (stands vals t) (stands more t) w ws turn next ∙ k.4,
      ap (λ (x : Walk). run x ws) next ∙ k.5 ∙ ap (λ us. stands us k.1) (same k.0),
    )
takes_value vals more t w ws v len same turn next (inr k) =
    inr (
      (λ vs e fits. let m = mapped w (go t ws) vs (sym (goes_value t w ws v) ∙ e) in k.0 m.0 m.1 (let a = m.2 in omega (arith, len))),
      subst (λ j. 0 < length j) (sym (on (stands vals t) (stands more t) w ws turn next)) k.1,
    )

takes_dash : (vals : List Text) (w : Text) (ws : List Text) → is_dashes w ≡ true → turn_fault top [] (stands vals false) w ≡ [] → walked top.rules [] (stands vals false) w ≡ stands vals true
    → Took vals true ws ⊎ Refused vals true ws → Took vals false (w ∷ ws) ⊎ Refused vals false (w ∷ ws)
takes_dash vals w ws d turn next (inl k) =
    inl (k.0, k.1, goes_dash w ws d ∙ k.2, k.3, on (stands vals false) (stands vals true) w ws turn next ∙ k.4, ap (λ (x : Walk). run x ws) next ∙ k.5)
takes_dash vals w ws d turn next (inr k) =
    inr ((λ vs e fits. k.0 vs (sym (goes_dash w ws d) ∙ e) fits), subst (λ j. 0 < length j) (sym (on (stands vals false) (stands vals true) w ws turn next)) k.1)

refuses_flag : (vals : List Text) (w : Text) (ws : List Text) → is_dashes w ≡ false → is_flag w ≡ true → 0 < length (turn_fault top [] (stands vals false) w) → Refused vals false (w ∷ ws)
refuses_flag vals w ws d f bad = ((λ vs e fits. none_some vs _ (goes_flag w ws d f) e), off (stands vals false) w ws bad)

refuses_third : (a b : Text) (t : Bool) (w : Text) (ws : List Text) → IsValue t w → Refused (a ∷ b ∷ []) t (w ∷ ws)
refuses_third a b t w ws v = ((λ vs e fits. let m = mapped w (go t ws) vs (sym (goes_value t w ws v) ∙ e) in let n = m.2 in omega arith), off (stands (a ∷ b ∷ []) t) w ws (step2 a b t w v))

abbrev Meets : List Text → Bool → List Text → Type 0
Meets vals t ws = Took vals t ws ⊎ Refused vals t ws

abbrev second : Text → Option (Text × List Text)
second b = Some (codes "value", b ∷ [])

abbrev first_row : Text → List Row
first_row a = used (first_rule top.rules) (a ∷ []) []

two_true : (a b : Text) (ws : List Text) → Meets (a ∷ b ∷ []) true ws
two_true a b [] = inl (stops (a ∷ b ∷ []) true (omega arith))
two_true a b (w ∷ ws) = inr (refuses_third a b true w ws tt)

two_other : (a b w : Text) (ws : List Text) → is_dashes w ≡ false → (is_flag w ≡ true) ⊎ (is_flag w ≡ false) → Meets (a ∷ b ∷ []) false (w ∷ ws)
two_other a b w ws d (inl f) = inr (refuses_flag (a ∷ b ∷ []) w ws d f (flag_turn 3 (first_row a) (second b) w d f))
two_other a b w ws d (inr f) = inr (refuses_third a b false w ws (d, f))

two_next : (a b w : Text) (ws : List Text) → (is_dashes w ≡ true) ⊎ (is_dashes w ≡ false) → Meets (a ∷ b ∷ []) false (w ∷ ws)
two_next a b w ws (inl d) = takes_dash (a ∷ b ∷ []) w ws d (dash_turn 3 (first_row a) (second b) w d) (dash_walk 3 (first_row a) (second b) w d) (two_true a b ws)
two_next a b w ws (inr d) = two_other a b w ws d (tells (is_flag w))

two_false : (a b : Text) (ws : List Text) → Meets (a ∷ b ∷ []) false ws
two_false a b [] = inl (stops (a ∷ b ∷ []) false (omega arith))
two_false a b (w ∷ ws) = two_next a b w ws (tells (is_dashes w))

abbrev first : Text → Option (Text × List Text)
first a = Some (codes "command", a ∷ [])

one_true : (a : Text) (ws : List Text) → Meets (a ∷ []) true ws
one_true a [] = inl (stops (a ∷ []) true (omega arith))
one_true a (w ∷ ws) = takes_value (a ∷ []) (a ∷ w ∷ []) true w ws tt refl (λ vs. refl) (step1 a true w tt).0 (step1 a true w tt).1 (two_true a w ws)

one_other : (a w : Text) (ws : List Text) → is_dashes w ≡ false → (is_flag w ≡ true) ⊎ (is_flag w ≡ false) → Meets (a ∷ []) false (w ∷ ws)
one_other a w ws d (inl f) = inr (refuses_flag (a ∷ []) w ws d f (flag_turn 2 [] (first a) w d f))
one_other a w ws d (inr f) = takes_value (a ∷ []) (a ∷ w ∷ []) false w ws (d, f) refl (λ vs. refl) (step1 a false w (d, f)).0 (step1 a false w (d, f)).1 (two_false a w ws)

one_next : (a w : Text) (ws : List Text) → (is_dashes w ≡ true) ⊎ (is_dashes w ≡ false) → Meets (a ∷ []) false (w ∷ ws)
one_next a w ws (inl d) = takes_dash (a ∷ []) w ws d (dash_turn 2 [] (first a) w d) (dash_walk 2 [] (first a) w d) (one_true a ws)
one_next a w ws (inr d) = one_other a w ws d (tells (is_flag w))

one_false : (a : Text) (ws : List Text) → Meets (a ∷ []) false ws
one_false a [] = inl (stops (a ∷ []) false (omega arith))
one_false a (w ∷ ws) = one_next a w ws (tells (is_dashes w))

none_true : (ws : List Text) → Meets [] true ws
none_true [] = inl (stops [] true (omega arith))
none_true (w ∷ ws) = takes_value [] (w ∷ []) true w ws tt refl (λ vs. refl) (step0 true w tt).0 (step0 true w tt).1 (one_true w ws)

none_other : (w : Text) (ws : List Text) → is_dashes w ≡ false → (is_flag w ≡ true) ⊎ (is_flag w ≡ false) → Meets [] false (w ∷ ws)
none_other w ws d (inl f) = inr (refuses_flag [] w ws d f (flag_turn 1 [] None w d f))
none_other w ws d (inr f) = takes_value [] (w ∷ []) false w ws (d, f) refl (λ vs. refl) (step0 false w (d, f)).0 (step0 false w (d, f)).1 (one_false w ws)

none_next : (w : Text) (ws : List Text) → (is_dashes w ≡ true) ⊎ (is_dashes w ≡ false) → Meets [] false (w ∷ ws)
none_next w ws (inl d) = takes_dash [] w ws d (dash_turn 1 [] None w d) (dash_walk 1 [] None w d) (none_true ws)
none_next w ws (inr d) = none_other w ws d (tells (is_flag w))

meets : (ws : List Text) → Meets [] false ws
meets [] = inl (stops [] false (omega arith))
meets (w ∷ ws) = none_next w ws (tells (is_dashes w))

-- ---- the end

-- what the whole parse faults, by the faults of the walk and where it stands at the end
abbrev final : Kinds → Walk → Kinds
final k w = let below : Kinds = entered_fault (built smcr) w.stopped in
    or_else k (or_else below (or_else (settle_fault top.rules top.args_override_self w.held)
    (or_else (defaults_fault (settled top.rules w.held).rows top.rules) (check_fault top (finished top.rules w.held) (is_some (entered (built smcr) w.stopped))))))

fault_is : (ws : List Text) → fault_of smcr ws ≡ final (walk_fault top [] (stands [] false) ws) (run (stands [] false) ws)
fault_is ws = refl

final_none : (t : Bool) → 0 < length (final [] (stands [] t))
unfolding clap_on_literals
final_none t = omega arith

final_one : (a : Text) (t : Bool) → final [] (stands (a ∷ []) t) ≡ []
unfolding clap_on_literals
final_one a t = refl

final_two : (a b : Text) (t : Bool) → final [] (stands (a ∷ b ∷ []) t) ≡ []
unfolding clap_on_literals
final_two a b t = refl

rows_are : (ws : List Text) → matches_of smcr ws ≡ finished top.rules (run (stands [] false) ws).held
rows_are ws = refl

-- the values that a parse finds
abbrev Finds : List Row → List Text → Type 0
Finds rows vs = (a : Text) × (v : Option Text) × (vs ≡ a ∷ option_listed v) × (first_of (codes "command") rows ≡ Some a) × (first_of (codes "value") rows ≡ v)

finds_one : (a : Text) (t : Bool) → Finds (finished top.rules (stands (a ∷ []) t).held) (a ∷ [])
finds_one a t = (a, None, refl, refl, refl)

finds_two : (a b : Text) (t : Bool) → Finds (finished top.rules (stands (a ∷ b ∷ []) t).held) (a ∷ b ∷ [])
finds_two a b t = (a, Some b, refl, refl, refl)

finds : (vs : List Text) (t : Bool) → length vs ≤ 2 → final [] (stands vs t) ≡ [] → Finds (finished top.rules (stands vs t).held) vs
finds [] t h e = absurd (let n = final_none t in let m : length (final [] (stands [] t)) ≡ 0 = ap (λ (k : Kinds). length k) e in omega arith)
finds (a ∷ []) t h e = finds_one a t
finds (a ∷ b ∷ []) t h e = finds_two a b t
finds (a ∷ b ∷ c ∷ vs) t h e = absurd (omega arith)

no_final : (vs : List Text) (t : Bool) → 0 < length vs → length vs ≤ 2 → final [] (stands vs t) ≡ []
no_final [] t h l = absurd (omega arith)
no_final (a ∷ []) t h l = final_one a t
no_final (a ∷ b ∷ []) t h l = final_two a b t
no_final (a ∷ b ∷ c ∷ vs) t h l = absurd (omega arith)

final_at : (ws vs : List Text) (t : Bool) → walk_fault top [] (stands [] false) ws ≡ [] → run (stands [] false) ws ≡ stands vs t → fault_of smcr ws ≡ final [] (stands vs t)
final_at ws vs t none is = fault_is ws ∙ ap₂ final none is

reads_by : (ws : List Text) → Meets [] false ws → fault_of smcr ws ≡ [] → (vs : List Text) × (values_of ws ≡ Some vs) × Finds (matches_of smcr ws) vs
reads_by ws (inl k) e = (k.0, k.2, subst (λ (x : Walk). Finds (finished top.rules x.held) k.0) (sym k.5) (finds k.0 k.1 (let a = k.3 in omega arith) (sym (final_at ws k.0 k.1 k.4 k.5) ∙ e)))
reads_by ws (inr k) e = absurd (let n : length (fault_of smcr ws) ≡ 0 = ap (λ (x : Kinds). length x) e in let m : 0 < length (fault_of smcr ws) = longer (walk_fault top [] (stands [] false) ws) _ k.1 in omega arith)

-- a parse that faults nothing finds the values of the words, one or two
pub reads : (ws : List Text) → fault_of smcr ws ≡ [] → (vs : List Text) × (values_of ws ≡ Some vs) × Finds (matches_of smcr ws) vs
reads ws = reads_by ws (meets ws)

same_values : (us vs : List Text) (o : Option (List Text)) → o ≡ Some us → o ≡ Some vs → us ≡ vs
same_values us vs o a b = ap unwrap (sym a ∙ b)
  where
    unwrap : Option (List Text) → List Text
    unwrap None = []
    unwrap (Some xs) = xs

accepts_by : (ws : List Text) → Meets [] false ws → (vs : List Text) → values_of ws ≡ Some vs → 0 < length vs → length vs ≤ 2 → fault_of smcr ws ≡ []
accepts_by ws (inl k) vs e some most = let same = same_values k.0 vs (values_of ws) k.2 e in
    final_at ws k.0 k.1 k.4 k.5 ∙ no_final k.0 k.1 (subst (λ us. 0 < length us) (sym same) some) (let a = k.3 in omega arith)
accepts_by ws (inr k) vs e some most = absurd (k.0 vs e (omega arith))

-- and one that finds a fault has another number of values
pub accepts : (ws : List Text) (vs : List Text) → values_of ws ≡ Some vs → 0 < length vs → length vs ≤ 2 → fault_of smcr ws ≡ []
accepts ws = accepts_by ws (meets ws)

pub is_simple : is_simple_and_free smcr ≡ true
unfolding clap_on_literals
is_simple = refl

pub is_simple_app : simple smcr ≡ true
unfolding clap_on_literals
is_simple_app = refl
