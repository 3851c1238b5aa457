-- The items that an entry gives a connection: fates and establishments, and at most one call, landing or completion.
use Rattle.std.proofs.Common.{Bool, List, [], ap, append_assoc, false, filter_map, if◌then◌else◌, not, refl, reverse, subst, sym, true, true≢false, ℕ, ◌&&◌, ◌++◌, ◌==◌, ◌∙◌, ◌∷◌, ◌≡◌}
use Rattle.std.proofs.lemmas.List.{reverse-append}
use Rattle.std.specs.List.{cons_option}
use Rattle.std.specs.Prelude.{None, Option, Some, option_and_then, option_map, option_to_list}
use Rattle.pipe_model.specs.Pipe.{Lands}
use Rattle.std.specs.Option.{option_or}
use Rattle.history_laws.specs.Words.{A, B, Calls, Completes, Entry, Event, Fabric, Fate, GroupEnd, Item, Known, LinkId, LinkPhase, Reply, Side, Up, act_by, confirmed_by, deeds, fabric, fate_of, fates, group_end, group_of, is_fate, items, offered, peer, phase_of, same_phase, table_of, up_by, ups}
use Rattle.history_laws.specs.Items.{EachItem}

-- tests over lists of items
pub each-append : (test : Item → Bool) (is js : List Item) → EachItem test is → EachItem test js → EachItem test (is ++ js)
each-append test [] js p q = q
each-append test (i ∷ is) js p q = (p.0, each-append test is js p.1 q)

pub each-reverse : (test : Item → Bool) (is : List Item) → EachItem test is → EachItem test (reverse is)
each-reverse test [] p = tt
each-reverse test (i ∷ is) p = subst (λ js. EachItem test js) (sym (reverse-append (i ∷ []) is)) (each-append test (reverse is) (reverse (i ∷ [])) (each-reverse test is p.1) (p.0, tt))

pub each-more : (one two : Item → Bool) → ((item : Item) → one item ≡ true → two item ≡ true) → (is : List Item) → EachItem one is → EachItem two is
each-more one two f [] p = tt
each-more one two f (i ∷ is) p = (f i p.0, each-more one two f is p.1)

-- fates alone
abbrev pub is_a_fate : Item → Bool
is_a_fate (Fate x link phase) = true
is_a_fate _ = false

one-fate : (b : Bool) (x : Side) (known : Known) (is : List Item) → EachItem is_a_fate is → EachItem is_a_fate (cons_option (if b then Some (Fate x known.link known.phase) else None) is)
one-fate true x known is p = (refl, p)
one-fate false x known is p = p

only-fates : (x : Side) (group : ℕ) (before table : List Known) → EachItem is_a_fate (filter_map (fate_of x group before) table)
only-fates x group before [] = tt
only-fates x group before (known ∷ table) = one-fate ((known.link.group == group) && (is_fate known.phase && not (same_phase known.phase (phase_of known.link before)))) x known _ (only-fates x group before table)

pub fates-only : (test : Item → Bool) (x : Side) (group : ℕ) (e : Entry) (past : List Entry) → ((link : LinkId) (phase : LinkPhase) → test (Fate x link phase) ≡ true) → EachItem test (fates x group e past)
fates-only test x group e past f = over (table_of x (e ∷ past))
  where
    one-of : (b : Bool) (known : Known) (is : List Item) → EachItem test is → EachItem test (cons_option (if b then Some (Fate x known.link known.phase) else None) is)
    one-of true known is p = (f known.link known.phase, p)
    one-of false known is p = p

    over : (table : List Known) → EachItem test (filter_map (fate_of x group (table_of x past)) table)
    over [] = tt
    over (known ∷ table) = one-of ((known.link.group == group) && (is_fate known.phase && not (same_phase known.phase (phase_of known.link (table_of x past))))) known _ (over table)

-- what stands below the deeds of an entry
abbrev pub below : ℕ → ℕ → Entry → List Entry → List Item
below group s e past = reverse (ups A s e past ++ ups B s e past) ++ reverse (group_end A group e past ++ group_end B group e past) ++ reverse (fates A group e past ++ fates B group e past)

-- an item that establishes nothing
abbrev pub is_no_up : Item → Bool
is_no_up (Up x link) = false
is_no_up _ = true

fate-no-up : (item : Item) → is_a_fate item ≡ true → is_no_up item ≡ true
fate-no-up (Fate x link phase) e = refl
fate-no-up (Up y link) e = absurd (true≢false (sym e))
fate-no-up (GroupEnd y) e = refl
fate-no-up (Calls y call) e = refl
fate-no-up (Lands y) e = refl
fate-no-up (Completes y) e = refl

pub fates-no-up : (group : ℕ) (e : Entry) (past : List Entry) → EachItem is_no_up (reverse (fates A group e past ++ fates B group e past))
fates-no-up group e past = each-reverse is_no_up (fates A group e past ++ fates B group e past) (each-more is_a_fate is_no_up fate-no-up (fates A group e past ++ fates B group e past)
    (each-append is_a_fate (fates A group e past) (fates B group e past) (only-fates A group (table_of A past) (table_of A (e ∷ past))) (only-fates B group (table_of B past) (table_of B (e ∷ past)))))

-- all that an entry gives
from-left : (ds us gs fs : List Item) → ((ds ++ us) ++ gs) ++ fs ≡ ds ++ ((us ++ gs) ++ fs)
from-left ds us gs fs = ap (λ is. is ++ fs) (append_assoc ds us gs) ∙ append_assoc ds (us ++ gs) fs

pub items-are : (payload : List ℕ) (group s : ℕ) (e : Entry) (past : List Entry) → items payload group s e past ≡ deeds payload s e.event e.reply past ++ below group s e past
items-are payload group s e past = from-left (deeds payload s e.event e.reply past) (reverse (ups A s e past ++ ups B s e past)) (reverse (group_end A group e past ++ group_end B group e past)) (reverse (fates A group e past ++ fates B group e past))

-- an entry whose event, reply and fabric are the same gives the same
abbrev items_with : List ℕ → ℕ → ℕ → Event → Reply → Fabric → List Entry → List Item
items_with payload group s event reply f past =
    let up : Side → Option LinkId = λ x. option_or (up_by x s event reply past) (option_and_then (λ act. confirmed_by (offered B s past) act.link act.step) (act_by x event reply past)) in
    let loses : Side → Bool = λ x. not (group == 0) && ((group_of x past == group) && not ((peer x f).group == group)) in
    deeds payload s event reply past ++ reverse (option_to_list (option_map (Up A) (up A)) ++ option_to_list (option_map (Up B) (up B))) ++
    reverse ((if loses A then GroupEnd A ∷ [] else []) ++ (if loses B then GroupEnd B ∷ [] else [])) ++
    reverse (filter_map (fate_of A group (table_of A past)) (peer A f).table ++ filter_map (fate_of B group (table_of B past)) (peer B f).table)

pub same-items : (payload : List ℕ) (group s : ℕ) (d e : Entry) (past : List Entry) → d.event ≡ e.event → d.reply ≡ e.reply → fabric (d ∷ past) ≡ fabric (e ∷ past) → items payload group s d past ≡ items payload group s e past
same-items payload group s d e past v r f =
    ap (λ event. items_with payload group s event d.reply (fabric (d ∷ past)) past) v ∙ ap (λ reply. items_with payload group s e.event reply (fabric (d ∷ past)) past) r ∙ ap (λ g. items_with payload group s e.event e.reply g past) f
