-- An end of a private pipe is up just where its end in the history is, after every list of entries, and one that is not up posts nothing.
use Rattle.std.specs.Prelude.{Bool, List, None, Option, Some, [], drop, false, if◌then◌else◌, is_some, length, min, not, option_map, option_to_list, reverse, take, true, ℕ, ◌&&◌, ◌++◌, ◌+◌, ◌==◌, ◌||◌, ◌∷◌}
use Rattle.std.proofs.Common.{ap, refl, sym, true≢false, ◌∙◌, ◌≡◌}
use Rattle.pipe_model.specs.Closing.{is_group_gone, may_move}
use Rattle.pipe_model.specs.Ends.{moves, takes}
use Rattle.pipe_model.specs.Calls.{Moves}
use Rattle.smc_num.specs.declared.LinkPhase.TheVariants.{Live as LiveLink}
use Rattle.pipe_model.specs.declared.sent.Sent.{Sent as Message}
use Rattle.std.specs.List.{list_any}
use Rattle.std.proofs.Math.Seq.{drop-length}
use Rattle.pipe_model.specs.Pipe.{Lands}
use Rattle.pipe_model.specs.Connections.{comes_up as comes_up_with}
use Rattle.pipe_model.specs.declared.event.Event.TheVariants.{Write}
use Rattle.std.proofs.lemmas.List.Folds.{list_any-append}
use Rattle.history_laws.specs.Words.{A, Abort, Aborts, Await, Awaits, B, Call, Calls, Close, Closes, Complete, Completes, Dead, Deliver, Entry, Event, Fate, Finish, Finishes, Gap, GroupEnd, Half, Item, LinkId, LinkPhase, Move, PeerAbort, Pending, Pipe, Read, Reads, Reply, Side, Swallow, Terms, Unused, Up, Writes, after_close, after_completing, after_finish, after_moving, apply, calls, check, completed_at, completes, counts_completed, deeds, fates, group_end, half, has_link, is_due, is_due_for_move, is_over, is_own, is_up, items, landed_at, loses_group_with, lowest_link, meets_fate, part, passes, pipe, posts_batch, posts_of, same_side, settle, shows_gap, step, strikes, takes_snapshot, unread, ups, validates, window, wire_number}
use Rattle.history_laws.proofs.Basics.{at-half, not-due, of-side, or-nothing, or-shift, same-self}
use Rattle.history_laws.specs.Items.{EachItem}
use Rattle.history_laws.proofs.Items.Entries.{fates-no-up, is_no_up}

-- an end that is as up as another, and has sent the same where it is not
pub record KeepsUp (h k : Half) : Type 0 where
  pub up : k.up ≡ h.up
  pub sent : h.up ≡ false → k.sent ≡ h.sent

keeps-it : (h : Half) → KeepsUp h h
keeps-it h = record { up = refl; sent = λ e. refl }

keeps-either : (b : Bool) (h j k : Half) → KeepsUp h j → KeepsUp h k → KeepsUp h (if b then j else k)
keeps-either true h j k a c = a
keeps-either false h j k a c = c

keeps-both : (h j k : Half) → KeepsUp h j → KeepsUp j k → KeepsUp h k
keeps-both h j k a c = record { up = c.up ∙ a.up; sent = λ e. c.sent (a.up ∙ e) ∙ a.sent e }

settles : (depth : ℕ) (h : Half) → KeepsUp h (settle depth h)
settles depth h = record {
  up = by_up (is_due depth h);
  sent = λ e. ap (λ (b : Bool). (if b then posts_batch h else h).sent) (not-due h.up (not (is_group_gone h.phase)) _ e);
}
  where
    by_up : (b : Bool) → (if b then posts_batch h else h).up ≡ h.up
    by_up true = refl
    by_up false = refl

abbrev moved-on : Half → Half
moved-on h = record h {
  link = lowest_link h;
  last = h.fin;
  flight = [];
  phase = after_moving h.phase;
  sent = h.sent ++ check h ∷ [];
  landed = length h.sent;
  completed = length h.sent;
}

moving : (h : Half) → KeepsUp h (moves h)
moving h = record {
  up = by_up (is_due_for_move h);
  sent = λ e. ap (λ (b : Bool). (if b then moved-on h else h).sent) (not-due h.up h.stands (not (has_link h.link h.live) && may_move h.phase) e);
}
  where
    by_up : (b : Bool) → (if b then moved-on h else h).up ≡ h.up
    by_up true = refl
    by_up false = refl

called : (size : ℕ) (call : Call) (h : Half) → KeepsUp h (calls size call h)
called size (Writes bytes) h = keeps-either _ h h (record h { out = h.out ++ take (window size h) bytes }) (keeps-it h) (record { up = refl; sent = λ e. refl })
called size (Reads n) h = keeps-either _ h h (record h { rd = h.rd + min n (unread h) }) (keeps-it h) (record { up = refl; sent = λ e. refl })
called size Finishes h = keeps-either _ h h (record h { finished = true; phase = after_finish h.phase }) (keeps-it h) (record { up = refl; sent = λ e. refl })
called size Closes h = keeps-either _ h h (record h { finished = true; phase = after_close h.phase }) (keeps-it h) (record { up = refl; sent = λ e. refl })
called size Aborts h = record { up = refl; sent = λ e. refl }
called size Awaits h = keeps-it h
called size Moves h = moving h

fated : (link : LinkId) (phase : LinkPhase) (h : Half) → KeepsUp h (meets_fate link phase h)
fated link Unused h = record { up = refl; sent = λ e. refl }
fated link Pending h = record { up = refl; sent = λ e. refl }
fated link LiveLink h = record { up = refl; sent = λ e. refl }
fated link Dead h = record { up = refl; sent = λ e. refl }

taken-by : (m : Option Message) (h : Half) → KeepsUp h (takes m h)
taken-by None h = keeps-it h
taken-by (Some m) h =
    keeps-either (is_over h) h h (if m.check then validates m.snapshot.number h else takes_snapshot m.snapshot h) (keeps-it h)
    (keeps-either m.check h (validates m.snapshot.number h) (takes_snapshot m.snapshot h)
    (keeps-either (shows_gap m.snapshot.number h.taken.number) h (strikes (Gap (wire_number m.snapshot.number) (wire_number h.taken.number)) h) h (record { up = refl; sent = λ e. refl }) (keeps-it h))
    (keeps-either m.snapshot.aborted h (strikes PeerAbort (record h { taken = m.snapshot })) (record h { taken = m.snapshot }) (record { up = refl; sent = λ e. refl }) (record { up = refl; sent = λ e. refl })))

completed-by : (m : Option Message) (h : Half) → KeepsUp h (completes m h)
completed-by None h = keeps-it h
completed-by (Some m) h = keeps-either m.check h (counts_completed h) (record (counts_completed h) { fin = m.snapshot; flight = drop 1 h.flight; phase = after_completing m.snapshot h.phase }) (record { up = refl; sent = λ e. refl }) (record { up = refl; sent = λ e. refl })

-- whether an item establishes the end at a side
abbrev pub raises : Side → Item → Bool
raises x (Up y link) = same_side x y
raises x _ = false

-- whether one of them does
abbrev pub raised : Side → List Item → Bool
raised x is = list_any (raises x) is

-- an item that is not keeps it
applied : (size : ℕ) (x : Side) (item : Item) (p : Pipe) → raises x item ≡ false → KeepsUp (half x p) (half x (apply size item p))
applied size = at-half size (λ x item h k. raises x item ≡ false → KeepsUp h k) (record {
  fate = λ x link phase h e. fated link phase h;
  gone = λ x h e. record { up = refl; sent = λ f. refl };
  up = λ x link h e. absurd (true≢false (sym (same-self x) ∙ e));
  call = λ x call h e. called size call h;
  land = λ x h e. record { up = refl; sent = λ f. refl };
  take = λ x m h e. taken-by m h;
  complete = λ x m h e. completed-by m h;
  rest = λ x item h e. keeps-it h;
})

stepped : (t : Terms) (x : Side) (item : Item) (p : Pipe) → raises x item ≡ false → KeepsUp (half x p) (half x (step t item p))
stepped t A item p e = keeps-both p.a (apply t.size item p).a (settle t.depth (apply t.size item p).a) (applied t.size A item p e) (settles t.depth (apply t.size item p).a)
stepped t B item p e = keeps-both p.b (apply t.size item p).b (settle t.depth (apply t.size item p).b) (applied t.size B item p e) (settles t.depth (apply t.size item p).b)

-- and one that does brings it up
risen : (size : ℕ) (x : Side) (item : Item) (p : Pipe) → raises x item ≡ true → (half x (apply size item p)).up ≡ true
risen size A (Up A link) p e = refl
risen size B (Up B link) p e = refl
risen size A _ p e = cc
risen size B _ p e = cc

pub apply-up : (size : ℕ) (x : Side) (item : Item) (p : Pipe) → (half x (apply size item p)).up ≡ (raises x item || (half x p).up)
apply-up size x item p = by_test (raises x item) refl
  where
    by_test : (b : Bool) → raises x item ≡ b → (half x (apply size item p)).up ≡ (b || (half x p).up)
    by_test true e = risen size x item p e
    by_test false e = let s = applied size x item p e in s.up

pub step-up : (t : Terms) (x : Side) (item : Item) (p : Pipe) → (half x (step t item p)).up ≡ (raises x item || (half x p).up)
step-up t A item p = let s = settles t.depth (apply t.size item p).a in s.up ∙ apply-up t.size A item p
step-up t B item p = let s = settles t.depth (apply t.size item p).b in s.up ∙ apply-up t.size B item p

-- some news establish an end, or it was so before
pub news-up : (t : Terms) (x : Side) (news items : List Item) → (half x (pipe t (news ++ items))).up ≡ (raised x news || (half x (pipe t items)).up)
news-up t x [] items = refl
news-up t x (item ∷ news) items = step-up t x item (pipe t (news ++ items)) ∙ ap (λ b. raises x item || b) (news-up t x news items) ∙ or-shift (raises x item) (raised x news) (half x (pipe t items)).up

-- an end that is not up has sent nothing since
pub silent-after : (t : Terms) (x : Side) (news is : List Item) → (half x (pipe t (news ++ is))).up ≡ false → (half x (pipe t (news ++ is))).sent ≡ (half x (pipe t is)).sent
silent-after t x [] is e = refl
silent-after t x (item ∷ news) is e = by_test (raises x item) refl (silent-after t x news is)
  where
    by_test : (b : Bool) → raises x item ≡ b → ((half x (pipe t (news ++ is))).up ≡ false → (half x (pipe t (news ++ is))).sent ≡ (half x (pipe t is)).sent) → (half x (step t item (pipe t (news ++ is)))).sent ≡ (half x (pipe t is)).sent
    by_test true f rest = let wrong : true ≡ false = ap (λ b. b || (half x (pipe t (news ++ is))).up) (sym f) ∙ (sym (step-up t x item (pipe t (news ++ is))) ∙ e) in cc
    by_test false f rest = let s = stepped t x item (pipe t (news ++ is)) f in let low : (half x (pipe t (news ++ is))).up ≡ false = sym s.up ∙ e in s.sent low ∙ rest low

pub silent : (t : Terms) (x : Side) (news is : List Item) → (half x (pipe t (news ++ is))).up ≡ false → posts_of t x news is ≡ []
silent t x news is e =
    ap (λ (ms : List Message). drop (length (half x (pipe t is)).sent) ms) (silent-after t x news is e) ∙ drop-length (half x (pipe t is)).sent

-- which items of an entry bring an end up
pub raised-none : (x : Side) (is : List Item) → EachItem is_no_up is → raised x is ≡ false
raised-none x [] p = refl
raised-none x (Fate y l phase ∷ is) p = raised-none x is p.1
raised-none x (GroupEnd y ∷ is) p = raised-none x is p.1
raised-none x (Up y l ∷ is) p = absurd (true≢false (sym p.0))
raised-none x (Calls y call ∷ is) p = raised-none x is p.1
raised-none x (Lands y ∷ is) p = raised-none x is p.1
raised-none x (Completes y ∷ is) p = raised-none x is p.1

raised-ups : (x : Side) (a b : Option LinkId) → raised x (reverse (option_to_list (option_map (Up A) a) ++ option_to_list (option_map (Up B) b))) ≡ of-side x a b
raised-ups A None None = refl
raised-ups A None (Some l) = refl
raised-ups A (Some l) None = refl
raised-ups A (Some l) (Some k) = refl
raised-ups B None None = refl
raised-ups B None (Some l) = refl
raised-ups B (Some l) None = refl
raised-ups B (Some l) (Some k) = refl

of-side-is : (x : Side) (s : ℕ) (e : Entry) (past : List Entry) → of-side x (comes_up_with A s e past) (comes_up_with B s e past) ≡ is_some (comes_up_with x s e past)
of-side-is A s e past = refl
of-side-is B s e past = refl

ends-none : (x : Side) (a b : Bool) → raised x (reverse ((if a then GroupEnd A ∷ [] else []) ++ (if b then GroupEnd B ∷ [] else []))) ≡ false
ends-none x true true = refl
ends-none x true false = refl
ends-none x false true = refl
ends-none x false false = refl

none-if : (x : Side) (b : Bool) (item : Item) → raises x item ≡ false → list_any (raises x) (if b then item ∷ [] else []) ≡ false
none-if x true item e = ap (λ b. b || false) e
none-if x false item e = refl

none-in-deeds : (x : Side) (payload : List ℕ) (s : ℕ) (event : Event) (reply : Reply) (past : List Entry) → list_any (raises x) (deeds payload s event reply past) ≡ false
none-in-deeds x payload s (Write end at len) reply past = none-if x ((s == end.s) && is_up end.side s past) (Calls end.side (Writes (take len (drop at payload)))) refl
none-in-deeds x payload s (Read end len) reply past = none-if x ((s == end.s) && is_up end.side s past) (Calls end.side (Reads len)) refl
none-in-deeds x payload s (Finish end) reply past = none-if x ((s == end.s) && is_up end.side s past) (Calls end.side Finishes) refl
none-in-deeds x payload s (Close end) reply past = none-if x ((s == end.s) && is_up end.side s past) (Calls end.side Closes) refl
none-in-deeds x payload s (Abort end) reply past = none-if x ((s == end.s) && is_up end.side s past) (Calls end.side Aborts) refl
none-in-deeds x payload s (Await end) reply past = none-if x ((s == end.s) && is_up end.side s past) (Calls end.side Awaits) refl
none-in-deeds x payload s (Move end) reply past = none-if x ((s == end.s) && is_up end.side s past) (Calls end.side Moves) refl
none-in-deeds x payload s (Deliver slot dir) reply past = none-if x (passes (is_own dir s past) (landed_at slot dir reply past)) (Lands dir) refl
none-in-deeds x payload s (Complete slot dir) reply past = none-if x (passes (is_own dir s past) (completed_at reply)) (Completes dir) refl
none-in-deeds x payload s (Swallow slot dir) reply past = none-if x (passes (is_own dir s past) (completed_at reply)) (Completes dir) refl
none-in-deeds x payload s _ reply past = refl

raised-items : (x : Side) (payload : List ℕ) (group s : ℕ) (e : Entry) (past : List Entry) → raised x (items payload group s e past) ≡ is_some (comes_up_with x s e past)
raised-items x payload group s e past =
    let ds = deeds payload s e.event e.reply past in
    let us = reverse (ups A s e past ++ ups B s e past) in
    let gs = reverse (group_end A group e past ++ group_end B group e past) in
    let fs = reverse (fates A group e past ++ fates B group e past) in
    list_any-append (raises x) ((ds ++ us) ++ gs) fs
    ∙ (ap (λ b. raised x ((ds ++ us) ++ gs) || b) (raised-none x fs (fates-no-up group e past))
    ∙ (or-nothing (raised x ((ds ++ us) ++ gs))
    ∙ (list_any-append (raises x) (ds ++ us) gs
    ∙ (ap (λ b. raised x (ds ++ us) || b) (ends-none x (loses_group_with A group e past) (loses_group_with B group e past))
    ∙ (or-nothing (raised x (ds ++ us))
    ∙ (list_any-append (raises x) ds us
    ∙ (ap (λ b. b || raised x us) (none-in-deeds x payload s e.event e.reply past)
    ∙ (raised-ups x (comes_up_with A s e past) (comes_up_with B s e past) ∙ of-side-is x s e past))))))))

-- the end of the pipe is up where the end in the history is
pub pipe-is-up : (t : Terms) (x : Side) (payload : List ℕ) (group s : ℕ) (past : List Entry) → (half x (pipe t (part payload group s past))).up ≡ is_up x s past
pipe-is-up t A payload group s [] = refl
pipe-is-up t B payload group s [] = refl
pipe-is-up t x payload group s (e ∷ past) =
    news-up t x (items payload group s e past) (part payload group s past)
    ∙ (ap (λ b. b || (half x (pipe t (part payload group s past))).up) (raised-items x payload group s e past) ∙ ap (λ b. is_some (comes_up_with x s e past) || b) (pipe-is-up t x payload group s past))
