-- The items that an entry gives a connection: fates and establishments, and at most one call, landing or completion.
use Rattle.std.proofs.Common.{◌≡◌, ◌∙◌, ◌==◌, ℕ, Bool, true, false, if◌then◌else◌, List, [], ◌∷◌, ◌++◌, length, take, drop, reverse, filter_map, refl, ap, sym, subst, ◌&&◌, not, true≢false, append-nil, append_assoc}
use Rattle.std.specs.Prelude.{Option, Some, None, option_and_then, option_map, option_to_list}
use Rattle.std.specs.List.{cons_option}
use Rattle.std.specs.Option.{option_or}
use Rattle.std.proofs.lemmas.List.{reverse-append}
use Rattle.smc_num.specs.declared.Side.{Side}
use Rattle.smc_num.specs.declared.Side.TheVariants.{A, B}
use Rattle.smc_num.specs.declared.LinkId.{LinkId}
use Rattle.smc_num.specs.declared.LinkPhase.{LinkPhase}
use Rattle.smc_num.specs.Links.{Known, same_phase}
use Rattle.pipe_model.specs.declared.setup.Setup.{Setup}
use Rattle.pipe_model.specs.declared.event.Event.{Event}
use Rattle.pipe_model.specs.declared.event.Event.TheVariants.{Open, Write, Read, Clc, Deliver, Complete}
use Rattle.pipe_model.specs.declared.reply.Reply.{Reply}
use Rattle.pipe_model.specs.declared.entry.Entry.{Entry}
use Rattle.pipe_model.specs.Calls.{Writes, Reads}
use Rattle.pipe_model.specs.Fabric.{Fabric, fabric, peer, act_by, table_of, group_of}
use Rattle.pipe_model.specs.History.{offered}
use Rattle.pipe_model.specs.Pipe.{Item, Fate, GroupEnd, Up, Calls, Lands, Completes}
use Rattle.pipe_model.specs.Connections.{is_fate, phase_of, fate_of, fates, group_end, ups, up_by, confirmed_by, comes_up, deeds, items, landed_at, completed_at}
use Rattle.pipe_model.specs.Fits.{Fits}
use Rattle.world_core.specs.OneLink.{the_link}
use Rattle.world_core.specs.Wired.{EachItem, EachUpOn, passes_by, keeps_open}
use Rattle.world_core.specs.Agreement.{GoesOn}
use Rattle.world_core.proofs.Ways.{call-items, own-items}

-- tests over lists of items
pub each-append : (test : Item → Bool) (is js : List Item) → EachItem test is → EachItem test js → EachItem test (is ++ js)
each-append test [] js p q = q
each-append test (i ∷ is) js p q = (p.0, each-append test is js p.1 q)

pub each-reverse : (test : Item → Bool) (is : List Item) → EachItem test is → EachItem test (reverse is)
each-reverse test [] p = tt
each-reverse test (i ∷ is) p = subst (λ js. EachItem test js) (sym (reverse-append (i ∷ []) is)) (each-append test (reverse is) (reverse (i ∷ [])) (each-reverse test is p.1) (p.0, tt))

pub each-more : (one two : Item → Bool) → ((item : Item) → one item ≡ true → two item ≡ true) → (is : List Item) → EachItem one is → EachItem two is
each-more one two f [] p = tt
each-more one two f (i ∷ is) p = (f i p.0, each-more one two f is p.1)

-- an item that is a fate or an establishment
abbrev pub is_fate_or_up : Item → Bool
is_fate_or_up (Fate x link phase) = true
is_fate_or_up (Up x link) = true
is_fate_or_up _ = false

pub fate-or-up-passes : (x : Side) (item : Item) → is_fate_or_up item ≡ true → passes_by x item ≡ true
fate-or-up-passes x (Fate y link phase) e = refl
fate-or-up-passes x (Up y link) e = refl
fate-or-up-passes x (GroupEnd y) e = absurd (true≢false (sym e))
fate-or-up-passes x (Calls y call) e = absurd (true≢false (sym e))
fate-or-up-passes x (Lands y) e = absurd (true≢false (sym e))
fate-or-up-passes x (Completes y) e = absurd (true≢false (sym e))

pub fate-or-up-open : (item : Item) → is_fate_or_up item ≡ true → keeps_open item ≡ true
fate-or-up-open (Fate y link phase) e = refl
fate-or-up-open (Up y link) e = refl
fate-or-up-open (GroupEnd y) e = absurd (true≢false (sym e))
fate-or-up-open (Calls y call) e = absurd (true≢false (sym e))
fate-or-up-open (Lands y) e = absurd (true≢false (sym e))
fate-or-up-open (Completes y) e = absurd (true≢false (sym e))

-- fates alone
abbrev pub is_a_fate : Item → Bool
is_a_fate (Fate x link phase) = true
is_a_fate _ = false

one-fate : (b : Bool) (x : Side) (known : Known) (is : List Item) → EachItem is_a_fate is → EachItem is_a_fate (cons_option (if b then Some (Fate x known.link known.phase) else None) is)
one-fate true x known is p = (refl, p)
one-fate false x known is p = p

only-fates : (x : Side) (group : ℕ) (before table : List Known) → EachItem is_a_fate (filter_map (fate_of x group before) table)
only-fates x group before [] = tt
only-fates x group before (known ∷ table) = one-fate ((known.link.group == group) && (is_fate known.phase && not (same_phase known.phase (phase_of known.link before)))) x known _ (only-fates x group before table)

pub fates-only : (test : Item → Bool) (x : Side) (group : ℕ) (e : Entry) (past : List Entry) → ((link : LinkId) (phase : LinkPhase) → test (Fate x link phase) ≡ true) → EachItem test (fates x group e past)
fates-only test x group e past f = over (table_of x (e ∷ past))
  where
    one-of : (b : Bool) (known : Known) (is : List Item) → EachItem test is → EachItem test (cons_option (if b then Some (Fate x known.link known.phase) else None) is)
    one-of true known is p = (f known.link known.phase, p)
    one-of false known is p = p

    over : (table : List Known) → EachItem test (filter_map (fate_of x group (table_of x past)) table)
    over [] = tt
    over (known ∷ table) = one-of ((known.link.group == group) && (is_fate known.phase && not (same_phase known.phase (phase_of known.link (table_of x past))))) known _ (over table)

fate-either : (item : Item) → is_a_fate item ≡ true → is_fate_or_up item ≡ true
fate-either (Fate x link phase) e = refl
fate-either _ e = absurd (true≢false (sym e))

one-up : (x : Side) (o : Option LinkId) → EachItem is_fate_or_up (option_to_list (option_map (Up x) o))
one-up x None = tt
one-up x (Some link) = (refl, tt)

-- what stands below the deeds of an entry
abbrev pub below : ℕ → ℕ → Entry → List Entry → List Item
below group s e past = reverse (ups A s e past ++ ups B s e past) ++ reverse (group_end A group e past ++ group_end B group e past) ++ reverse (fates A group e past ++ fates B group e past)

no-end : (x : Side) (group : ℕ) (e : Entry) (past : List Entry) → GoesOn e past → group_end x group e past ≡ []
no-end x group e past g = ap (λ b. if b then GroupEnd x ∷ [] else []) (g.stands x group)

no-ends : (group : ℕ) (e : Entry) (past : List Entry) → GoesOn e past → reverse (group_end A group e past ++ group_end B group e past) ≡ []
no-ends group e past g = ap (λ is. reverse (is ++ group_end B group e past)) (no-end A group e past g) ∙ ap (λ is. reverse is) (no-end B group e past g)

middle-none : (is js ks : List Item) → js ≡ [] → is ++ js ++ ks ≡ is ++ ks
middle-none is js ks e = ap (λ (l : List Item). (is ++ l) ++ ks) e ∙ ap (λ (l : List Item). l ++ ks) (append-nil is)

pub below-is : (group s : ℕ) (e : Entry) (past : List Entry) → GoesOn e past → below group s e past ≡ reverse (ups A s e past ++ ups B s e past) ++ reverse (fates A group e past ++ fates B group e past)
below-is group s e past g = middle-none (reverse (ups A s e past ++ ups B s e past)) (reverse (group_end A group e past ++ group_end B group e past)) (reverse (fates A group e past ++ fates B group e past)) (no-ends group e past g)

-- where no group ends and no link changes, establishments alone are left
pub below-ups : (group s : ℕ) (e : Entry) (past : List Entry) (us : List Item) → ups A s e past ++ ups B s e past ≡ us → ((x : Side) → group_end x group e past ≡ []) → ((x : Side) → fates x group e past ≡ [])
    → below group s e past ≡ reverse us ++ [] ++ []
below-ups group s e past us up ends still =
    ap (λ (is : List Item). reverse is ++ reverse (group_end A group e past ++ group_end B group e past) ++ reverse (fates A group e past ++ fates B group e past)) up
    ∙ (ap (λ (is : List Item). reverse us ++ reverse (is ++ group_end B group e past) ++ reverse (fates A group e past ++ fates B group e past)) (ends A)
    ∙ (ap (λ (is : List Item). reverse us ++ reverse is ++ reverse (fates A group e past ++ fates B group e past)) (ends B)
    ∙ (ap (λ (is : List Item). reverse us ++ [] ++ reverse (is ++ fates B group e past)) (still A) ∙ ap (λ (is : List Item). reverse us ++ [] ++ reverse is) (still B))))

-- it is fates and establishments
pub below-calm : (group s : ℕ) (e : Entry) (past : List Entry) → GoesOn e past → EachItem is_fate_or_up (below group s e past)
below-calm group s e past g =
    let u = each-append is_fate_or_up (ups A s e past) (ups B s e past) (one-up A (comes_up A s e past)) (one-up B (comes_up B s e past)) in
    let f = each-more is_a_fate is_fate_or_up fate-either (fates A group e past ++ fates B group e past)
    (each-append is_a_fate (fates A group e past) (fates B group e past) (only-fates A group (table_of A past) (table_of A (e ∷ past))) (only-fates B group (table_of B past) (table_of B (e ∷ past)))) in
    subst (λ is. EachItem is_fate_or_up is) (sym (below-is group s e past g))
    (each-append is_fate_or_up (reverse (ups A s e past ++ ups B s e past)) (reverse (fates A group e past ++ fates B group e past)) (each-reverse is_fate_or_up (ups A s e past ++ ups B s e past) u) (each-reverse is_fate_or_up (fates A group e past ++ fates B group e past) f))

-- what an event that is built makes an end do leaves both open
pub deeds-open : (setup : Setup) (payload : List ℕ) (s : ℕ) (event : Event) (reply : Reply) (past : List Entry) → Fits setup (length payload) event → EachItem keeps_open (deeds payload s event reply past)
deeds-open setup payload s (Open t) reply past b = tt
deeds-open setup payload s (Clc t dir) reply past b = tt
deeds-open setup payload s (Write end at len) reply past b = call-items keeps_open end (Writes (take len (drop at payload))) s past refl
deeds-open setup payload s (Read end len) reply past b = call-items keeps_open end (Reads len) s past refl
deeds-open setup payload s (Deliver slot dir) reply past b = own-items keeps_open (Lands dir) dir s (landed_at slot dir reply past) past refl
deeds-open setup payload s (Complete slot dir) reply past b = own-items keeps_open (Completes dir) dir s (completed_at reply) past refl
deeds-open setup payload s _ reply past b = absurd b

-- establishments are on the link
pub on-append : (link : LinkId) (is js : List Item) → EachUpOn link is → EachUpOn link js → EachUpOn link (is ++ js)
on-append link [] js p q = q
on-append link (Fate x l phase ∷ is) js p q = on-append link is js p q
on-append link (GroupEnd x ∷ is) js p q = on-append link is js p q
on-append link (Up x l ∷ is) js p q = (p.0, on-append link is js p.1 q)
on-append link (Calls x call ∷ is) js p q = on-append link is js p q
on-append link (Lands x ∷ is) js p q = on-append link is js p q
on-append link (Completes x ∷ is) js p q = on-append link is js p q

-- an item that establishes nothing
abbrev pub is_no_up : Item → Bool
is_no_up (Up x link) = false
is_no_up _ = true

pub on-none : (link : LinkId) (is : List Item) → EachItem is_no_up is → EachUpOn link is
on-none link [] p = tt
on-none link (Fate x l phase ∷ is) p = on-none link is p.1
on-none link (GroupEnd x ∷ is) p = on-none link is p.1
on-none link (Up x l ∷ is) p = absurd (true≢false (sym p.0))
on-none link (Calls x call ∷ is) p = on-none link is p.1
on-none link (Lands x ∷ is) p = on-none link is p.1
on-none link (Completes x ∷ is) p = on-none link is p.1

fate-no-up : (item : Item) → is_a_fate item ≡ true → is_no_up item ≡ true
fate-no-up (Fate x link phase) e = refl
fate-no-up (Up y link) e = absurd (true≢false (sym e))
fate-no-up (GroupEnd y) e = refl
fate-no-up (Calls y call) e = refl
fate-no-up (Lands y) e = refl
fate-no-up (Completes y) e = refl

on-ups : (x y : Side) (link : LinkId) (o p : Option LinkId) → ((l : LinkId) → o ≡ Some l → l ≡ link) → ((l : LinkId) → p ≡ Some l → l ≡ link) → EachUpOn link (reverse (option_to_list (option_map (Up x) o) ++ option_to_list (option_map (Up y) p)))
on-ups x y link None None f g = tt
on-ups x y link None (Some l) f g = (g l refl, tt)
on-ups x y link (Some l) None f g = (f l refl, tt)
on-ups x y link (Some l) (Some k) f g = (g k refl, (f l refl, tt))

pub fates-no-up : (group : ℕ) (e : Entry) (past : List Entry) → EachItem is_no_up (reverse (fates A group e past ++ fates B group e past))
fates-no-up group e past = each-reverse is_no_up (fates A group e past ++ fates B group e past) (each-more is_a_fate is_no_up fate-no-up (fates A group e past ++ fates B group e past)
    (each-append is_a_fate (fates A group e past) (fates B group e past) (only-fates A group (table_of A past) (table_of A (e ∷ past))) (only-fates B group (table_of B past) (table_of B (e ∷ past)))))

pub below-on : (group s : ℕ) (e : Entry) (past : List Entry) → GoesOn e past → EachUpOn the_link (below group s e past)
below-on group s e past g =
    subst (λ is. EachUpOn the_link is) (sym (below-is group s e past g))
    (on-append the_link (reverse (ups A s e past ++ ups B s e past)) (reverse (fates A group e past ++ fates B group e past))
    (on-ups A B the_link (comes_up A s e past) (comes_up B s e past) (λ l q. let u = g.ups A s l q in u.0) (λ l q. let u = g.ups B s l q in u.0))
    (on-none the_link (reverse (fates A group e past ++ fates B group e past)) (fates-no-up group e past)))

pub deeds-no-up : (setup : Setup) (payload : List ℕ) (s : ℕ) (event : Event) (reply : Reply) (past : List Entry) → Fits setup (length payload) event → EachItem is_no_up (deeds payload s event reply past)
deeds-no-up setup payload s (Open t) reply past b = tt
deeds-no-up setup payload s (Clc t dir) reply past b = tt
deeds-no-up setup payload s (Write end at len) reply past b = call-items is_no_up end (Writes (take len (drop at payload))) s past refl
deeds-no-up setup payload s (Read end len) reply past b = call-items is_no_up end (Reads len) s past refl
deeds-no-up setup payload s (Deliver slot dir) reply past b = own-items is_no_up (Lands dir) dir s (landed_at slot dir reply past) past refl
deeds-no-up setup payload s (Complete slot dir) reply past b = own-items is_no_up (Completes dir) dir s (completed_at reply) past refl
deeds-no-up setup payload s _ reply past b = absurd b

-- all that an entry gives
from-left : (ds us gs fs : List Item) → ((ds ++ us) ++ gs) ++ fs ≡ ds ++ ((us ++ gs) ++ fs)
from-left ds us gs fs = ap (λ is. is ++ fs) (append_assoc ds us gs) ∙ append_assoc ds (us ++ gs) fs

pub items-are : (payload : List ℕ) (group s : ℕ) (e : Entry) (past : List Entry) → items payload group s e past ≡ deeds payload s e.event e.reply past ++ below group s e past
items-are payload group s e past = from-left (deeds payload s e.event e.reply past) (reverse (ups A s e past ++ ups B s e past)) (reverse (group_end A group e past ++ group_end B group e past)) (reverse (fates A group e past ++ fates B group e past))

pub items-open : (setup : Setup) (payload : List ℕ) (group s : ℕ) (e : Entry) (past : List Entry) → Fits setup (length payload) e.event → GoesOn e past → EachItem keeps_open (items payload group s e past)
items-open setup payload group s e past b g = subst (λ is. EachItem keeps_open is) (sym (items-are payload group s e past))
    (each-append keeps_open (deeds payload s e.event e.reply past) (below group s e past) (deeds-open setup payload s e.event e.reply past b)
    (each-more is_fate_or_up keeps_open fate-or-up-open (below group s e past) (below-calm group s e past g)))

pub items-on : (setup : Setup) (payload : List ℕ) (group s : ℕ) (e : Entry) (past : List Entry) → Fits setup (length payload) e.event → GoesOn e past → EachUpOn the_link (items payload group s e past)
items-on setup payload group s e past b g = subst (λ is. EachUpOn the_link is) (sym (items-are payload group s e past))
    (on-append the_link (deeds payload s e.event e.reply past) (below group s e past) (on-none the_link (deeds payload s e.event e.reply past) (deeds-no-up setup payload s e.event e.reply past b)) (below-on group s e past g))

-- an entry whose event, reply and fabric are the same gives the same
abbrev items_with : List ℕ → ℕ → ℕ → Event → Reply → Fabric → List Entry → List Item
items_with payload group s event reply f past =
    let up : Side → Option LinkId = λ x. option_or (up_by x s event reply past) (option_and_then (λ act. confirmed_by (offered B s past) act.link act.step) (act_by x event reply past)) in
    let loses : Side → Bool = λ x. not (group == 0) && ((group_of x past == group) && not ((peer x f).group == group)) in
    deeds payload s event reply past ++ reverse (option_to_list (option_map (Up A) (up A)) ++ option_to_list (option_map (Up B) (up B))) ++
    reverse ((if loses A then GroupEnd A ∷ [] else []) ++ (if loses B then GroupEnd B ∷ [] else [])) ++
    reverse (filter_map (fate_of A group (table_of A past)) (peer A f).table ++ filter_map (fate_of B group (table_of B past)) (peer B f).table)

pub same-items : (payload : List ℕ) (group s : ℕ) (d e : Entry) (past : List Entry) → d.event ≡ e.event → d.reply ≡ e.reply → fabric (d ∷ past) ≡ fabric (e ∷ past) → items payload group s d past ≡ items payload group s e past
same-items payload group s d e past v r f =
    ap (λ event. items_with payload group s event d.reply (fabric (d ∷ past)) past) v ∙ ap (λ reply. items_with payload group s e.event reply (fabric (d ∷ past)) past) r ∙ ap (λ g. items_with payload group s e.event e.reply g past) f
