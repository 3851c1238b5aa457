-- What an entry gives a connection, with no word on links or built events: fates, ends of groups and establishments leave each end on its link, and there is one deed at most.
use Rattle.std.proofs.Common.{Bool, List, [], ap, append_assoc, drop, false, if◌then◌else◌, not, refl, reverse, subst, sym, take, true, true≢false, ℕ, ◌&&◌, ◌++◌, ◌==◌, ◌||◌, ◌∙◌, ◌∷◌, ◌≡◌}
use Rattle.pipe_model.specs.Pipe.{Lands}
use Rattle.std.specs.Prelude.{None, Option, Some, option_map, option_to_list}
use Rattle.pipe_model.specs.Connections.{comes_up}
use Rattle.pipe_model.specs.Calls.{Moves}
use Rattle.pipe_model.specs.declared.event.End.{End}
use Rattle.pipe_model.specs.declared.event.Event.TheVariants.{Write}
use Rattle.history_laws.specs.Words.{A, Abort, Aborts, Await, Awaits, B, Calls, Close, Closes, Complete, Completes, Deliver, Entry, Event, Fate, Finish, Finishes, GroupEnd, Half, Item, LinkId, Move, Post, Read, Reads, Reply, Side, Swallow, Terms, Up, Writes, completed_at, deeds, fates, group_end, group_of, half, is_own, is_up, landed_at, loses_group_with, passes, pipe, ups}
use Rattle.history_laws.specs.Items.{EachItem}
use Rattle.history_laws.proofs.Items.Entries.{below, each-append, each-more, each-reverse, fates-only}
use Rattle.history_laws.proofs.Items.Sending.{AllStayOn, Counts, StaysOn, counts-step}
use Rattle.history_laws.proofs.Items.Ups.{news-up, raised, step-up}
use Rattle.history_laws.proofs.Basics.{entry-of, is_no_message, of_side}
use Rattle.history_laws.proofs.Wires.{apart}
use Rattle.history_laws.proofs.Tables.{no-news}

-- a fate, or the end of a group
abbrev pub is_below : Item → Bool
is_below (Fate x link phase) = true
is_below (GroupEnd x) = true
is_below _ = false

ended : (x y : Side) (a b : Bool) → EachItem is_below (reverse ((if a then GroupEnd x ∷ [] else []) ++ (if b then GroupEnd y ∷ [] else [])))
ended x y true true = (refl, (refl, tt))
ended x y true false = (refl, tt)
ended x y false true = (refl, tt)
ended x y false false = tt

pub all-ends : (group : ℕ) (e : Entry) (past : List Entry) → EachItem is_below (reverse (group_end A group e past ++ group_end B group e past))
all-ends group e past = ended A B (loses_group_with A group e past) (loses_group_with B group e past)

pub all-fates : (group : ℕ) (e : Entry) (past : List Entry) → EachItem is_below (reverse (fates A group e past ++ fates B group e past))
all-fates group e past = each-reverse is_below (fates A group e past ++ fates B group e past)
    (each-append is_below (fates A group e past) (fates B group e past) (fates-only is_below A group e past (λ link phase. refl)) (fates-only is_below B group e past (λ link phase. refl)))

-- such items leave an end on its link, and as up as it was
below-stays : (x : Side) (item : Item) (h : Half) → is_below item ≡ true → StaysOn x item h
below-stays x (Fate y link phase) h e = tt
below-stays x (GroupEnd y) h e = tt
below-stays x (Up y link) h e = absurd (true≢false (sym e))
below-stays x (Calls y call) h e = absurd (true≢false (sym e))
below-stays x (Lands y) h e = tt
below-stays x (Completes y) h e = tt

below-raises : (x : Side) (is : List Item) → EachItem is_below is → raised x is ≡ false
below-raises x [] p = refl
below-raises x (Fate y l phase ∷ is) p = below-raises x is p.1
below-raises x (GroupEnd y ∷ is) p = below-raises x is p.1
below-raises x (Up y l ∷ is) p = absurd (true≢false (sym p.0))
below-raises x (Calls y call ∷ is) p = below-raises x is p.1
below-raises x (Lands y ∷ is) p = below-raises x is p.1
below-raises x (Completes y ∷ is) p = below-raises x is p.1

stay-below : (t : Terms) (x : Side) (news items : List Item) → EachItem is_below news → AllStayOn t x news items
stay-below t x [] items p = tt
stay-below t x (item ∷ news) items p = (below-stays x item (half x (pipe t (news ++ items))) p.0, stay-below t x news items p.1)

pub stay-append : (t : Terms) (x : Side) (is js items : List Item) → AllStayOn t x is (js ++ items) → AllStayOn t x js items → AllStayOn t x (is ++ js) items
stay-append t x [] js items p q = q
stay-append t x (item ∷ is) js items p q = (subst (λ all. StaysOn x item (half x (pipe t all))) (sym (append_assoc is js items)) p.0, stay-append t x is js items p.1 q)

no-side : (X : Type 0) → false ≡ true → X
no-side X e = absurd (true≢false (sym e))

stay-ups : (t : Terms) (x : Side) (a b : Option LinkId) (items : List Item) → ((l : LinkId) → of_side x a b ≡ Some l → (half x (pipe t items)).up ≡ false) →
    AllStayOn t x (reverse (option_to_list (option_map (Up A) a) ++ option_to_list (option_map (Up B) b))) items
stay-ups t A None None items f = tt
stay-ups t A (Some l) None items f = (λ q. f l refl, tt)
stay-ups t A None (Some k) items f = (λ q. no-side _ q, tt)
stay-ups t A (Some l) (Some k) items f = (λ q. no-side _ q, (λ q. f l refl, tt))
stay-ups t B None None items f = tt
stay-ups t B (Some l) None items f = (λ q. no-side _ q, tt)
stay-ups t B None (Some k) items f = (λ q. f k refl, tt)
stay-ups t B (Some l) (Some k) items f = (λ q. step-up t B (Up A l) (pipe t items) ∙ f k refl, (λ q. no-side _ q, tt))

pub of-side-is : (x : Side) (s : ℕ) (e : Entry) (past : List Entry) → of_side x (comes_up A s e past) (comes_up B s e past) ≡ comes_up x s e past
of-side-is A s e past = refl
of-side-is B s e past = refl

module _ (t : Terms) (x : Side) (group s : ℕ) (e : Entry) (past : List Entry) (items : List Item) (once : (l : LinkId) → comes_up x s e past ≡ Some l → (half x (pipe t items)).up ≡ false) where
  abbrev Ups : List Item
  Ups = reverse (ups A s e past ++ ups B s e past)

  abbrev Ends : List Item
  Ends = reverse (group_end A group e past ++ group_end B group e past)

  abbrev Fates : List Item
  Fates = reverse (fates A group e past ++ fates B group e past)

  -- all that stands below the deeds leaves the end on its link
  pub stay-all-below : AllStayOn t x (below group s e past) items
  stay-all-below =
      stay-append t x (Ups ++ Ends) Fates items
      (stay-append t x Ups Ends (Fates ++ items)
      (stay-ups t x (comes_up A s e past) (comes_up B s e past) (Ends ++ (Fates ++ items)) (λ l q.
      news-up t x Ends (Fates ++ items) ∙ (ap (λ b. b || (half x (pipe t (Fates ++ items))).up) (below-raises x Ends (all-ends group e past)) ∙
      (news-up t x Fates items ∙ (ap (λ b. b || (half x (pipe t items)).up) (below-raises x Fates (all-fates group e past)) ∙ once l (sym (of-side-is x s e past) ∙ q))))))
      (stay-below t x Ends (Fates ++ items) (all-ends group e past)))
      (stay-below t x Fates items (all-fates group e past))

below-no-message : (item : Item) → is_below item ≡ true → is_no_message item ≡ true
below-no-message (Fate x link phase) e = refl
below-no-message (GroupEnd x) e = refl
below-no-message (Up x link) e = refl
below-no-message (Calls x call) e = refl
below-no-message (Lands x) e = absurd (true≢false (sym e))
below-no-message (Completes x) e = absurd (true≢false (sym e))

ups-no-message : (a b : Option LinkId) → EachItem is_no_message (reverse (option_to_list (option_map (Up A) a) ++ option_to_list (option_map (Up B) b)))
ups-no-message None None = tt
ups-no-message (Some l) None = (refl, tt)
ups-no-message None (Some k) = (refl, tt)
ups-no-message (Some l) (Some k) = (refl, (refl, tt))

pub below-messages : (group s : ℕ) (e : Entry) (past : List Entry) → EachItem is_no_message (below group s e past)
below-messages group s e past =
    each-append is_no_message (reverse (ups A s e past ++ ups B s e past) ++ reverse (group_end A group e past ++ group_end B group e past)) (reverse (fates A group e past ++ fates B group e past))
    (each-append is_no_message (reverse (ups A s e past ++ ups B s e past)) (reverse (group_end A group e past ++ group_end B group e past)) (ups-no-message (comes_up A s e past) (comes_up B s e past))
    (each-more is_below is_no_message below-no-message (reverse (group_end A group e past ++ group_end B group e past)) (all-ends group e past)))
    (each-more is_below is_no_message below-no-message (reverse (fates A group e past ++ fates B group e past)) (all-fates group e past))

pub message-apart : (x : Side) (item : Item) → is_no_message item ≡ true → apart x item ≡ true
message-apart x (Fate y link phase) e = refl
message-apart x (GroupEnd y) e = refl
message-apart x (Up y link) e = refl
message-apart x (Calls y call) e = refl
message-apart x (Lands y) e = absurd (true≢false (sym e))
message-apart x (Completes y) e = absurd (true≢false (sym e))

pub counts-all : (t : Terms) (x : Side) (news items : List Item) → EachItem is_no_message news → AllStayOn t x news items → Counts (half x (pipe t items)) (half x (pipe t (news ++ items)))
counts-all t x [] items p s = (refl, refl)
counts-all t x (item ∷ news) items p s =
    let c = counts-all t x news items p.1 s.1 in
    let d = counts-step t x item (pipe t (news ++ items)) (message-apart x item p.0) s.0 in
    (d.0 ∙ c.0, d.1 ∙ c.1)

-- the deeds of an entry: none; one that is no move; or a move, beside which an entry gives nothing
abbrev pub is_deed : Item → Bool
is_deed (Lands x) = true
is_deed (Completes x) = true
is_deed (Calls x (Writes bytes)) = true
is_deed (Calls x (Reads n)) = true
is_deed (Calls x Finishes) = true
is_deed (Calls x Closes) = true
is_deed (Calls x Aborts) = true
is_deed (Calls x Awaits) = true
is_deed _ = false

pub deed-stays : (x : Side) (item : Item) (h : Half) → is_deed item ≡ true → StaysOn x item h
deed-stays x (Lands y) h e = tt
deed-stays x (Completes y) h e = tt
deed-stays x (Fate y link phase) h e = tt
deed-stays x (GroupEnd y) h e = tt
deed-stays x (Up y link) h e = absurd (true≢false (sym e))
deed-stays x (Calls y (Writes bytes)) h e = tt
deed-stays x (Calls y (Reads n)) h e = tt
deed-stays x (Calls y Finishes) h e = tt
deed-stays x (Calls y Closes) h e = tt
deed-stays x (Calls y Aborts) h e = tt
deed-stays x (Calls y Awaits) h e = tt
deed-stays x (Calls y Moves) h e = absurd (true≢false (sym e))

pub data Shape (s : ℕ) (e : Entry) (past : List Entry) (is : List Item) : Type 0 where
  NoDeed : is ≡ [] → Shape s e past is
  Deed : (item : Item) → is ≡ item ∷ [] → is_deed item ≡ true → Shape s e past is
  MoveDeed : (y : Side) → is ≡ Calls y Moves ∷ [] → ((group : ℕ) → below group s e past ≡ []) → Shape s e past is

and-not : (a b : Bool) → (a && (b && not b)) ≡ false
and-not true true = refl
and-not true false = refl
and-not false b = refl

module _ (payload : List ℕ) (s actor : ℕ) (posts : List Post) (reply : Reply) (past : List Entry) where
  one : (event : Event) (b : Bool) (item : Item) → is_deed item ≡ true → Shape s (entry-of actor event reply posts) past (if b then item ∷ [] else [])
  one event true item d = Deed item refl d
  one event false item d = NoDeed refl

  still-none : (end : End) (x : Side) (group : ℕ) → group_end x group (entry-of actor (Move end) reply posts) past ≡ []
  still-none end A group = ap (λ b. if b then GroupEnd A ∷ [] else []) (and-not (not (group == 0)) (group_of A past == group))
  still-none end B group = ap (λ b. if b then GroupEnd B ∷ [] else []) (and-not (not (group == 0)) (group_of B past == group))

  move-alone : (end : End) (group : ℕ) → below group s (entry-of actor (Move end) reply posts) past ≡ []
  move-alone end group =
      ap (λ is. reverse (is ++ group_end B group (entry-of actor (Move end) reply posts) past) ++ reverse (fates A group (entry-of actor (Move end) reply posts) past ++ fates B group (entry-of actor (Move end) reply posts) past)) (still-none end A group) ∙
      (ap (λ is. reverse is ++ reverse (fates A group (entry-of actor (Move end) reply posts) past ++ fates B group (entry-of actor (Move end) reply posts) past)) (still-none end B group) ∙
      (ap (λ is. reverse (is ++ fates B group (entry-of actor (Move end) reply posts) past)) (no-news A group past) ∙ ap (λ (is : List Item). reverse is) (no-news B group past)))

  moving : (end : End) (b : Bool) → Shape s (entry-of actor (Move end) reply posts) past (if b then Calls end.side Moves ∷ [] else [])
  moving end true = MoveDeed end.side refl (move-alone end)
  moving end false = NoDeed refl

  pub shape : (event : Event) → Shape s (entry-of actor event reply posts) past (deeds payload s event reply past)
  shape (Write end at len) = one (Write end at len) ((s == end.s) && is_up end.side s past) (Calls end.side (Writes (take len (drop at payload)))) refl
  shape (Read end len) = one (Read end len) ((s == end.s) && is_up end.side s past) (Calls end.side (Reads len)) refl
  shape (Finish end) = one (Finish end) ((s == end.s) && is_up end.side s past) (Calls end.side Finishes) refl
  shape (Close end) = one (Close end) ((s == end.s) && is_up end.side s past) (Calls end.side Closes) refl
  shape (Abort end) = one (Abort end) ((s == end.s) && is_up end.side s past) (Calls end.side Aborts) refl
  shape (Await end) = one (Await end) ((s == end.s) && is_up end.side s past) (Calls end.side Awaits) refl
  shape (Move end) = moving end ((s == end.s) && is_up end.side s past)
  shape (Deliver slot dir) = one (Deliver slot dir) (passes (is_own dir s past) (landed_at slot dir reply past)) (Lands dir) refl
  shape (Complete slot dir) = one (Complete slot dir) (passes (is_own dir s past) (completed_at reply)) (Completes dir) refl
  shape (Swallow slot dir) = one (Swallow slot dir) (passes (is_own dir s past) (completed_at reply)) (Completes dir) refl
  shape event = NoDeed refl
