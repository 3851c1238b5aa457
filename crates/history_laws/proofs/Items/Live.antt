-- What items make of the live links of an end and of whether its group stands: only fates and the group's end touch them.
use Rattle.std.proofs.Common.{Bool, List, [], ap, drop, false, filter, filter_map, if◌then◌else◌, length, min, not, refl, reverse, sym, take, true, true≢false, ℕ, ◌&&◌, ◌++◌, ◌+◌, ◌==◌, ◌∙◌, ◌∷◌, ◌≡◌}
use Rattle.pipe_model.specs.Calls.{Moves}
use Rattle.std.specs.Prelude.{None, Option, Some, option_map, option_to_list}
use Rattle.pipe_model.specs.declared.sent.Sent.{Sent as Message}
use Rattle.pipe_model.specs.Ends.{takes, with_link}
use Rattle.smc_num.specs.declared.LinkPhase.TheVariants.{Live as LiveLink}
use Rattle.pipe_model.specs.Pipe.{Lands}
use Rattle.pipe_model.specs.declared.event.Event.TheVariants.{Write}
use Rattle.std.proofs.lemmas.List.{reverse-append}
use Rattle.std.specs.List.{cons_option}
use Rattle.pipe_model.specs.Connections.{comes_up}
use Rattle.history_laws.specs.Words.{A, Abort, Aborts, Await, Awaits, B, Call, Calls, Close, Closes, Complete, Completes, Dead, Deliver, Entry, Event, Fate, Finish, Finishes, Gap, GroupEnd, Half, Item, Known, LinkId, LinkPhase, Move, PeerAbort, Pending, Pipe, Read, Reads, Reply, Side, Swallow, Terms, Unused, Up, Writes, after_close, after_completing, after_finish, after_moving, apply, calls, check, completed_at, completes, counts_completed, deeds, fate_of, fates, group_end, half, is_due, is_due_for_move, is_fate, is_over, is_own, is_up, items, landed_at, loses_group_with, lowest_link, meets_fate, part, passes, phase_of, pipe, posts_batch, same_link, same_phase, same_side, settle, shows_gap, step, strikes, table_of, takes_snapshot, unread, ups, validates, window, wire_number}
use Rattle.history_laws.proofs.Basics.{at-half, same-self}

-- an end with the same live links, whose group stands as it did
record Same (h k : Half) : Type 0 where
  live : k.live ≡ h.live
  stands : k.stands ≡ h.stands

same-it : (h : Half) → Same h h
same-it h = record { live = refl; stands = refl }

same-either : (b : Bool) (h j k : Half) → Same h j → Same h k → Same h (if b then j else k)
same-either true h j k a c = a
same-either false h j k a c = c

settles : (depth : ℕ) (h : Half) → Same h (settle depth h)
settles depth h = same-either (is_due depth h) h (posts_batch h) h (record { live = refl; stands = refl }) (same-it h)

called : (size : ℕ) (call : Call) (h : Half) → Same h (calls size call h)
called size (Writes bytes) h = same-either _ h h (record h { out = h.out ++ take (window size h) bytes }) (same-it h) (record { live = refl; stands = refl })
called size (Reads n) h = same-either _ h h (record h { rd = h.rd + min n (unread h) }) (same-it h) (record { live = refl; stands = refl })
called size Finishes h = same-either _ h h (record h { finished = true; phase = after_finish h.phase }) (same-it h) (record { live = refl; stands = refl })
called size Closes h = same-either _ h h (record h { finished = true; phase = after_close h.phase }) (same-it h) (record { live = refl; stands = refl })
called size Aborts h = record { live = refl; stands = refl }
called size Awaits h = same-it h
called size Moves h = same-either (is_due_for_move h) h (record h { link = lowest_link h; last = h.fin; flight = []; phase = after_moving h.phase; sent = h.sent ++ check h ∷ []; landed = length h.sent; completed = length h.sent }) h (record { live = refl; stands = refl }) (same-it h)

taken-by : (m : Option Message) (h : Half) → Same h (takes m h)
taken-by None h = same-it h
taken-by (Some m) h =
    same-either (is_over h) h h (if m.check then validates m.snapshot.number h else takes_snapshot m.snapshot h) (same-it h)
    (same-either m.check h (validates m.snapshot.number h) (takes_snapshot m.snapshot h)
    (same-either (shows_gap m.snapshot.number h.taken.number) h (strikes (Gap (wire_number m.snapshot.number) (wire_number h.taken.number)) h) h (record { live = refl; stands = refl }) (same-it h))
    (same-either m.snapshot.aborted h (strikes PeerAbort (record h { taken = m.snapshot })) (record h { taken = m.snapshot }) (record { live = refl; stands = refl }) (record { live = refl; stands = refl })))

completed-by : (m : Option Message) (h : Half) → Same h (completes m h)
completed-by None h = same-it h
completed-by (Some m) h = same-either m.check h (counts_completed h) (record (counts_completed h) { fin = m.snapshot; flight = drop 1 h.flight; phase = after_completing m.snapshot h.phase }) (record { live = refl; stands = refl }) (record { live = refl; stands = refl })

-- whether an item touches the live links of the end at a side, or its group
abbrev pub touches : Side → Item → Bool
touches x (Fate y link phase) = same_side x y
touches x (GroupEnd y) = same_side x y
touches x _ = false

applied : (size : ℕ) (x : Side) (item : Item) (p : Pipe) → touches x item ≡ false → Same (half x p) (half x (apply size item p))
applied size = at-half size (λ x item h k. touches x item ≡ false → Same h k) (record {
  fate = λ x link phase h e. absurd (true≢false (sym (same-self x) ∙ e));
  gone = λ x h e. absurd (true≢false (sym (same-self x) ∙ e));
  up = λ x link h e. record { live = refl; stands = refl };
  call = λ x call h e. called size call h;
  land = λ x h e. record { live = refl; stands = refl };
  take = λ x m h e. taken-by m h;
  complete = λ x m h e. completed-by m h;
  rest = λ x item h e. same-it h;
})

-- what a fate makes of live links
abbrev pub meets : LinkId → LinkPhase → List LinkId → List LinkId
meets link LiveLink ls = with_link link ls
meets link _ ls = filter (λ l. not (same_link link l)) ls

-- what an item makes of them, and of whether the group stands
abbrev pub live_by : Side → Item → List LinkId → List LinkId
live_by x (Fate y link phase) ls = if same_side x y then meets link phase ls else ls
live_by x _ ls = ls

abbrev pub stands_by : Side → Item → Bool → Bool
stands_by x (GroupEnd y) b = not (same_side x y) && b
stands_by x _ b = b

-- and what items do, the newest first
abbrev pub live_after : Side → List Item → List LinkId → List LinkId
live_after x [] ls = ls
live_after x (i ∷ is) ls = live_by x i (live_after x is ls)

abbrev pub stands_after : Side → List Item → Bool → Bool
stands_after x [] b = b
stands_after x (i ∷ is) b = stands_by x i (stands_after x is b)

met : (link : LinkId) (phase : LinkPhase) (h : Half) → ((meets_fate link phase h).live ≡ meets link phase h.live) × ((meets_fate link phase h).stands ≡ h.stands)
met link Unused h = (refl, refl)
met link Pending h = (refl, refl)
met link LiveLink h = (refl, refl)
met link Dead h = (refl, refl)

stepped : (t : Terms) (x : Side) (item : Item) (p : Pipe) → ((half x (step t item p)).live ≡ live_by x item (half x p).live) × ((half x (step t item p)).stands ≡ stands_by x item (half x p).stands)
stepped t x item p = by x item
  where
    settled : (x : Side) (item : Item) → ((half x (step t item p)).live ≡ (half x (apply t.size item p)).live) × ((half x (step t item p)).stands ≡ (half x (apply t.size item p)).stands)
    settled A item = let s = settles t.depth (apply t.size item p).a in (s.live, s.stands)
    settled B item = let s = settles t.depth (apply t.size item p).b in (s.live, s.stands)

    plain : (x : Side) (item : Item) → touches x item ≡ false → ((half x (step t item p)).live ≡ (half x p).live) × ((half x (step t item p)).stands ≡ (half x p).stands)
    plain x item e = let s = settled x item in let a = applied t.size x item p e in (s.0 ∙ a.live, s.1 ∙ a.stands)

    by : (x : Side) (item : Item) → ((half x (step t item p)).live ≡ live_by x item (half x p).live) × ((half x (step t item p)).stands ≡ stands_by x item (half x p).stands)
    by A (Fate A link phase) = let s = settled A (Fate A link phase) in let m = met link phase p.a in (s.0 ∙ m.0, s.1 ∙ m.1)
    by B (Fate B link phase) = let s = settled B (Fate B link phase) in let m = met link phase p.b in (s.0 ∙ m.0, s.1 ∙ m.1)
    by A (Fate B link phase) = plain A (Fate B link phase) refl
    by B (Fate A link phase) = plain B (Fate A link phase) refl
    by A (GroupEnd A) = settled A (GroupEnd A)
    by B (GroupEnd B) = settled B (GroupEnd B)
    by A (GroupEnd B) = plain A (GroupEnd B) refl
    by B (GroupEnd A) = plain B (GroupEnd A) refl
    by x (Up y link) = plain x (Up y link) refl
    by x (Calls y call) = plain x (Calls y call) refl
    by x (Lands y) = plain x (Lands y) refl
    by x (Completes y) = plain x (Completes y) refl

-- the live links of an end, and whether its group stands, after some news
pub news-live : (t : Terms) (x : Side) (news is : List Item) → ((half x (pipe t (news ++ is))).live ≡ live_after x news (half x (pipe t is)).live) × ((half x (pipe t (news ++ is))).stands ≡ stands_after x news (half x (pipe t is)).stands)
news-live t x [] is = (refl, refl)
news-live t x (i ∷ news) is = let s = stepped t x i (pipe t (news ++ is)) in let r = news-live t x news is in (s.0 ∙ ap (λ ls. live_by x i ls) r.0, s.1 ∙ ap (λ b. stands_by x i b) r.1)

live-append : (x : Side) (is js : List Item) (ls : List LinkId) → live_after x (is ++ js) ls ≡ live_after x is (live_after x js ls)
live-append x [] js ls = refl
live-append x (i ∷ is) js ls = ap (λ ks. live_by x i ks) (live-append x is js ls)

stands-append : (x : Side) (is js : List Item) (b : Bool) → stands_after x (is ++ js) b ≡ stands_after x is (stands_after x js b)
stands-append x [] js b = refl
stands-append x (i ∷ is) js b = ap (λ c. stands_by x i c) (stands-append x is js b)

-- items that are no fates, or no ends of a group
if-live : (x : Side) (b : Bool) (item : Item) (ls : List LinkId) → touches x item ≡ false → live_after x (if b then item ∷ [] else []) ls ≡ ls
if-live x false item ls e = refl
if-live x true (Fate y link phase) ls e = ap (λ b. if b then meets link phase ls else ls) e
if-live x true (GroupEnd y) ls e = refl
if-live x true (Up y link) ls e = refl
if-live x true (Calls y call) ls e = refl
if-live x true (Lands y) ls e = refl
if-live x true (Completes y) ls e = refl

if-stands : (x : Side) (b : Bool) (item : Item) (c : Bool) → touches x item ≡ false → stands_after x (if b then item ∷ [] else []) c ≡ c
if-stands x false item c e = refl
if-stands x true (Fate y link phase) c e = refl
if-stands x true (GroupEnd y) c e = ap (λ b. not b && c) e
if-stands x true (Up y link) c e = refl
if-stands x true (Calls y call) c e = refl
if-stands x true (Lands y) c e = refl
if-stands x true (Completes y) c e = refl

deeds-none : (P : List Item → Type 0) → P [] → ((b : Bool) (item : Item) → ((x : Side) → touches x item ≡ false) → P (if b then item ∷ [] else [])) → (payload : List ℕ) (s : ℕ) (event : Event) (reply : Reply) (past : List Entry) → P (deeds payload s event reply past)
deeds-none P n f payload s (Write end at len) reply past = f ((s == end.s) && is_up end.side s past) (Calls end.side (Writes (take len (drop at payload)))) (λ x. refl)
deeds-none P n f payload s (Read end len) reply past = f ((s == end.s) && is_up end.side s past) (Calls end.side (Reads len)) (λ x. refl)
deeds-none P n f payload s (Finish end) reply past = f ((s == end.s) && is_up end.side s past) (Calls end.side Finishes) (λ x. refl)
deeds-none P n f payload s (Close end) reply past = f ((s == end.s) && is_up end.side s past) (Calls end.side Closes) (λ x. refl)
deeds-none P n f payload s (Abort end) reply past = f ((s == end.s) && is_up end.side s past) (Calls end.side Aborts) (λ x. refl)
deeds-none P n f payload s (Await end) reply past = f ((s == end.s) && is_up end.side s past) (Calls end.side Awaits) (λ x. refl)
deeds-none P n f payload s (Move end) reply past = f ((s == end.s) && is_up end.side s past) (Calls end.side Moves) (λ x. refl)
deeds-none P n f payload s (Deliver slot dir) reply past = f (passes (is_own dir s past) (landed_at slot dir reply past)) (Lands dir) (λ x. refl)
deeds-none P n f payload s (Complete slot dir) reply past = f (passes (is_own dir s past) (completed_at reply)) (Completes dir) (λ x. refl)
deeds-none P n f payload s (Swallow slot dir) reply past = f (passes (is_own dir s past) (completed_at reply)) (Completes dir) (λ x. refl)
deeds-none P n f payload s _ reply past = n

ups-live : (x : Side) (a b : Option LinkId) (ls : List LinkId) → live_after x (reverse (option_to_list (option_map (Up A) a) ++ option_to_list (option_map (Up B) b))) ls ≡ ls
ups-live x None None ls = refl
ups-live x (Some a) None ls = refl
ups-live x None (Some b) ls = refl
ups-live x (Some a) (Some b) ls = refl

ups-stand : (x : Side) (a b : Option LinkId) (c : Bool) → stands_after x (reverse (option_to_list (option_map (Up A) a) ++ option_to_list (option_map (Up B) b))) c ≡ c
ups-stand x None None c = refl
ups-stand x (Some a) None c = refl
ups-stand x None (Some b) c = refl
ups-stand x (Some a) (Some b) c = refl

ends-live : (x : Side) (a b : Bool) (ls : List LinkId) → live_after x (reverse ((if a then GroupEnd A ∷ [] else []) ++ (if b then GroupEnd B ∷ [] else []))) ls ≡ ls
ends-live x true true ls = refl
ends-live x true false ls = refl
ends-live x false true ls = refl
ends-live x false false ls = refl

-- of two, that of a side
abbrev side_of : Side → Bool → Bool → Bool
side_of A a b = a
side_of B a b = b

ends-stand : (x : Side) (a b c : Bool) → stands_after x (reverse ((if a then GroupEnd A ∷ [] else []) ++ (if b then GroupEnd B ∷ [] else []))) c ≡ (not (side_of x a b) && c)
ends-stand A true true c = refl
ends-stand A true false c = refl
ends-stand A false true c = refl
ends-stand A false false c = refl
ends-stand B true true c = refl
ends-stand B true false c = refl
ends-stand B false true c = refl
ends-stand B false false c = refl

-- fates, the oldest first
abbrev pub forth : Side → List Item → List LinkId → List LinkId
forth x [] ls = ls
forth x (i ∷ is) ls = forth x is (live_by x i ls)

reversed : (x : Side) (is : List Item) (ls : List LinkId) → live_after x (reverse is) ls ≡ forth x is ls
reversed x [] ls = refl
reversed x (i ∷ is) ls = ap (λ js. live_after x js ls) (reverse-append (i ∷ []) is) ∙ (live-append x (reverse is) (i ∷ []) ls ∙ reversed x is (live_by x i ls))

forth-append : (x : Side) (is js : List Item) (ls : List LinkId) → forth x (is ++ js) ls ≡ forth x js (forth x is ls)
forth-append x [] js ls = refl
forth-append x (i ∷ is) js ls = forth-append x is js (live_by x i ls)

-- the fates at the other side
apart : (x y : Side) (group : ℕ) (t u : List Known) → same_side x y ≡ false → (ls : List LinkId) → forth x (filter_map (fate_of y group t) u) ls ≡ ls
apart x y group t [] d ls = refl
apart x y group t (n ∷ u) d ls = by ((n.link.group == group) && (is_fate n.phase && not (same_phase n.phase (phase_of n.link t)))) (apart x y group t u d)
  where
    by : (b : Bool) → ((ls : List LinkId) → forth x (filter_map (fate_of y group t) u) ls ≡ ls) → forth x (cons_option (if b then Some (Fate y n.link n.phase) else None) (filter_map (fate_of y group t) u)) ls ≡ ls
    by true ih = ih (if same_side x y then meets n.link n.phase ls else ls) ∙ ap (λ b. if b then meets n.link n.phase ls else ls) d
    by false ih = ih ls

fates-live : (x : Side) (group : ℕ) (e : Entry) (past : List Entry) (ls : List LinkId) → live_after x (reverse (fates A group e past ++ fates B group e past)) ls ≡ forth x (fates x group e past) ls
fates-live A group e past ls = reversed A (fates A group e past ++ fates B group e past) ls ∙ (forth-append A (fates A group e past) (fates B group e past) ls ∙ apart A B group (table_of B past) (table_of B (e ∷ past)) refl (forth A (fates A group e past) ls))
fates-live B group e past ls = reversed B (fates A group e past ++ fates B group e past) ls ∙ (forth-append B (fates A group e past) (fates B group e past) ls ∙ ap (λ ks. forth B (fates B group e past) ks) (apart B A group (table_of A past) (table_of A (e ∷ past)) refl ls))

-- fates end no group
calm : (x y : Side) (group : ℕ) (t u : List Known) (is : List Item) (c : Bool) → ((d : Bool) → stands_after x (reverse is) d ≡ d) → stands_after x (reverse (filter_map (fate_of y group t) u ++ is)) c ≡ c
calm x y group t [] is c f = f c
calm x y group t (n ∷ u) is c f = by ((n.link.group == group) && (is_fate n.phase && not (same_phase n.phase (phase_of n.link t)))) (calm x y group t u is c f)
  where
    by : (b : Bool) → stands_after x (reverse (filter_map (fate_of y group t) u ++ is)) c ≡ c → stands_after x (reverse (cons_option (if b then Some (Fate y n.link n.phase) else None) (filter_map (fate_of y group t) u) ++ is)) c ≡ c
    by true ih = ap (λ js. stands_after x js c) (reverse-append (Fate y n.link n.phase ∷ []) (filter_map (fate_of y group t) u ++ is)) ∙ (stands-append x (reverse (filter_map (fate_of y group t) u ++ is)) (Fate y n.link n.phase ∷ []) c ∙ ih)
    by false ih = ih

none-calm : (x : Side) (group : ℕ) (t u : List Known) (c : Bool) → stands_after x (reverse (filter_map (fate_of B group t) u)) c ≡ c
none-calm x group t [] c = refl
none-calm x group t (n ∷ u) c = by ((n.link.group == group) && (is_fate n.phase && not (same_phase n.phase (phase_of n.link t)))) (none-calm x group t u c)
  where
    by : (b : Bool) → stands_after x (reverse (filter_map (fate_of B group t) u)) c ≡ c → stands_after x (reverse (cons_option (if b then Some (Fate B n.link n.phase) else None) (filter_map (fate_of B group t) u))) c ≡ c
    by true ih = ap (λ js. stands_after x js c) (reverse-append (Fate B n.link n.phase ∷ []) (filter_map (fate_of B group t) u)) ∙ (stands-append x (reverse (filter_map (fate_of B group t) u)) (Fate B n.link n.phase ∷ []) c ∙ ih)
    by false ih = ih

-- what an entry makes of the live links of an end, and of whether its group stands
pub entry-live : (t : Terms) (x : Side) (payload : List ℕ) (group s : ℕ) (e : Entry) (past : List Entry)
    → ((half x (pipe t (part payload group s (e ∷ past)))).live ≡ forth x (fates x group e past) (half x (pipe t (part payload group s past))).live)
    × ((half x (pipe t (part payload group s (e ∷ past)))).stands ≡ (not (loses_group_with x group e past) && (half x (pipe t (part payload group s past))).stands))
entry-live t x payload group s e past =
    let n = news-live t x (items payload group s e past) (part payload group s past) in
    (n.0 ∙ live (half x (pipe t (part payload group s past))).live, n.1 ∙ (stands (half x (pipe t (part payload group s past))).stands ∙ ap (λ b. not b && (half x (pipe t (part payload group s past))).stands) (which x)))
  where
    which : (x : Side) → side_of x (loses_group_with A group e past) (loses_group_with B group e past) ≡ loses_group_with x group e past
    which A = refl
    which B = refl

    live : (ls : List LinkId) → live_after x (items payload group s e past) ls ≡ forth x (fates x group e past) ls
    live ls =
        let ds = deeds payload s e.event e.reply past in
        let us = reverse (ups A s e past ++ ups B s e past) in
        let gs = reverse (group_end A group e past ++ group_end B group e past) in
        let fs = reverse (fates A group e past ++ fates B group e past) in
        live-append x ((ds ++ us) ++ gs) fs ls
        ∙ (live-append x (ds ++ us) gs (live_after x fs ls)
        ∙ (ap (λ ks. live_after x (ds ++ us) ks) (ends-live x (loses_group_with A group e past) (loses_group_with B group e past) (live_after x fs ls))
        ∙ (live-append x ds us (live_after x fs ls)
        ∙ (ap (λ ks. live_after x ds ks) (ups-live x (comes_up A s e past) (comes_up B s e past) (live_after x fs ls))
        ∙ (deeds-none (λ js. live_after x js (live_after x fs ls) ≡ live_after x fs ls) refl (λ b item h. if-live x b item (live_after x fs ls) (h x)) payload s e.event e.reply past
        ∙ fates-live x group e past ls)))))

    stands : (c : Bool) → stands_after x (items payload group s e past) c ≡ (not (side_of x (loses_group_with A group e past) (loses_group_with B group e past)) && c)
    stands c =
        let ds = deeds payload s e.event e.reply past in
        let us = reverse (ups A s e past ++ ups B s e past) in
        let gs = reverse (group_end A group e past ++ group_end B group e past) in
        let fs = reverse (fates A group e past ++ fates B group e past) in
        let quiet : stands_after x fs c ≡ c = calm x A group (table_of A past) (table_of A (e ∷ past)) (fates B group e past) c (none-calm x group (table_of B past) (table_of B (e ∷ past))) in
        stands-append x ((ds ++ us) ++ gs) fs c
        ∙ (ap (λ d. stands_after x ((ds ++ us) ++ gs) d) quiet
        ∙ (stands-append x (ds ++ us) gs c
        ∙ (ap (λ d. stands_after x (ds ++ us) d) (ends-stand x (loses_group_with A group e past) (loses_group_with B group e past) c)
        ∙ (stands-append x ds us (not (side_of x (loses_group_with A group e past) (loses_group_with B group e past)) && c)
        ∙ (ap (λ d. stands_after x ds d) (ups-stand x (comes_up A s e past) (comes_up B s e past) (not (side_of x (loses_group_with A group e past) (loses_group_with B group e past)) && c))
        ∙ deeds-none (λ js. stands_after x js (not (side_of x (loses_group_with A group e past) (loses_group_with B group e past)) && c) ≡ (not (side_of x (loses_group_with A group e past) (loses_group_with B group e past)) && c)) refl (λ b item h. if-stands x b item (not (side_of x (loses_group_with A group e past) (loses_group_with B group e past)) && c) (h x)) payload s e.event e.reply past)))))
