-- The links of an end are of its connection's group, and an end whose group has ended is open no more; over any items of the group.
use Rattle.std.proofs.Common.{Bool, List, [], ap, false, filter, if◌then◌else◌, length, min, not, refl, subst, sym, take, true, true≢false, ℕ, ◌&&◌, ◌++◌, ◌+◌, ◌∙◌, ◌∷◌, ◌≡◌}
use Rattle.std.specs.Prelude.{None, Option, Some, drop, nat_lt, unwrap_or}
use Rattle.pipe_model.specs.Calls.{Moves}
use Rattle.pipe_model.specs.Closing.{may_move}
use Rattle.pipe_model.specs.Ends.{present, takes, with_link}
use Rattle.pipe_model.specs.declared.sent.Sent.{Sent}
use Rattle.smc_num.specs.declared.LinkPhase.TheVariants.{Live as LiveLink}
use Rattle.history_laws.specs.Words.{A, Aborts, Awaits, B, Call, Closes, Dead, Fate, Finishes, Gap, Half, Item, LinkId, LinkPhase, PeerAbort, Pending, Pipe, Reads, Side, Terms, Unused, Up, Writes, after_close, after_completing, after_finish, after_moving, apply, calls, check, completes, counts_completed, half, has_link, head, is_due, is_due_for_move, is_over, lowest_link, meets_fate, pipe, posts_batch, same_link, settle, shows_gap, step, strikes, takes_snapshot, unread, validates, window, wire_number}
use Rattle.history_laws.proofs.Basics.{at-half, either, settled-half}
use Rattle.wire_laws.proofs.Causes.Phases.{abort-shut, close-shut, completing-shut, ended-shut, finish-shut, is_open, posting-shut, struck-shut}

-- links of a group
abbrev pub AreIn : ℕ → List LinkId → Type 0
AreIn g [] = Unit {0}
AreIn g (l ∷ ls) = (l.group ≡ g) × AreIn g ls

-- that an item names links of a group alone
abbrev pub IsOf : ℕ → Item → Type 0
IsOf g (Fate x link phase) = link.group ≡ g
IsOf g (Up x link) = link.group ≡ g
IsOf g item = Unit {0}

abbrev pub AreOf : ℕ → List Item → Type 0
AreOf g [] = Unit {0}
AreOf g (item ∷ items) = IsOf g item × AreOf g items

-- the live links of an end are of a group, and so is its own, once it is up
pub record OnGroup (g : ℕ) (h : Half) : Type 0 where
  pub own : h.up ≡ true → h.link.group ≡ g
  pub live : AreIn g h.live

in-with : (g : ℕ) (link : LinkId) (ls : List LinkId) → link.group ≡ g → AreIn g ls → AreIn g (with_link link ls)
in-with g link [] e p = (e, tt)
in-with g link (l ∷ ls) e p = by (nat_lt link.slot l.slot) (in-with g link ls e p.1)
  where
    by : (b : Bool) → AreIn g (with_link link ls) → AreIn g (if b then link ∷ l ∷ ls else l ∷ with_link link ls)
    by true q = (e, p)
    by false q = (p.0, q)

in-without : (g : ℕ) (link : LinkId) (ls : List LinkId) → AreIn g ls → AreIn g (filter (λ l. not (same_link link l)) ls)
in-without g link [] p = tt
in-without g link (l ∷ ls) p = by (not (same_link link l)) (in-without g link ls p.1)
  where
    by : (b : Bool) → AreIn g (filter (λ l. not (same_link link l)) ls) → AreIn g (if b then l ∷ filter (λ l. not (same_link link l)) ls else filter (λ l. not (same_link link l)) ls)
    by true q = (p.0, q)
    by false q = q

same-group : (g : ℕ) (h k : Half) → k.up ≡ h.up → k.link ≡ h.link → k.live ≡ h.live → OnGroup g h → OnGroup g k
same-group g h k u l v p = record { own = λ e. ap (λ (link : LinkId). link.group) l ∙ p.own (sym u ∙ e); live = subst (λ ls. AreIn g ls) (sym v) p.live }

-- the lowest live link, or its own
lowest-in : (g : ℕ) (link : LinkId) (ls : List LinkId) → AreIn g ls → link.group ≡ g → (unwrap_or (head ls) link).group ≡ g
lowest-in g link [] p e = e
lowest-in g link (l ∷ ls) p e = p.0

abbrev moved-on : Half → Half
moved-on h = record h {
  link = lowest_link h;
  last = h.fin;
  flight = [];
  phase = after_moving h.phase;
  sent = h.sent ++ check h ∷ [];
  landed = length h.sent;
  completed = length h.sent;
}

abbrev G : ℕ → Side → Item → Half → Half → Type 0
G g x item h k = IsOf g item → OnGroup g h → OnGroup g k

fated : (g : ℕ) (link : LinkId) (phase : LinkPhase) (h : Half) → link.group ≡ g → OnGroup g h → OnGroup g (meets_fate link phase h)
fated g link LiveLink h e p = record { own = p.own; live = in-with g link h.live e p.live }
fated g link Unused h e p = record { own = p.own; live = in-without g link h.live p.live }
fated g link Pending h e p = record { own = p.own; live = in-without g link h.live p.live }
fated g link Dead h e p = record { own = p.own; live = in-without g link h.live p.live }

called : (g size : ℕ) (call : Call) (h : Half) → OnGroup g h → OnGroup g (calls size call h)
called g size (Writes bytes) h p = either (OnGroup g) h (record h { out = h.out ++ take (window size h) bytes }) _ p (same-group g h _ refl refl refl p)
called g size (Reads n) h p = either (OnGroup g) h (record h { rd = h.rd + min n (unread h) }) _ p (same-group g h _ refl refl refl p)
called g size Finishes h p = either (OnGroup g) h (record h { finished = true; phase = after_finish h.phase }) _ p (same-group g h _ refl refl refl p)
called g size Closes h p = either (OnGroup g) h (record h { finished = true; phase = after_close h.phase }) _ p (same-group g h _ refl refl refl p)
called g size Aborts h p = same-group g h _ refl refl refl p
called g size Awaits h p = p
called g size Moves h p = either (OnGroup g) (moved-on h) h (is_due_for_move h) (record { own = λ u. lowest-in g h.link h.live p.live (p.own u); live = p.live }) p

taken : (g : ℕ) (o : Option Sent) (h : Half) → OnGroup g h → OnGroup g (takes o h)
taken g None h p = p
taken g (Some m) h p = either (OnGroup g) h (if m.check then validates m.snapshot.number h else takes_snapshot m.snapshot h) (is_over h) p
    (either (OnGroup g) (validates m.snapshot.number h) (takes_snapshot m.snapshot h) m.check
    (either (OnGroup g) (strikes (Gap (wire_number m.snapshot.number) (wire_number h.taken.number)) h) h (shows_gap m.snapshot.number h.taken.number) (same-group g h _ refl refl refl p) p)
    (either (OnGroup g) (strikes PeerAbort (record h { taken = m.snapshot })) (record h { taken = m.snapshot }) m.snapshot.aborted (same-group g h _ refl refl refl p) (same-group g h _ refl refl refl p)))

completed : (g : ℕ) (o : Option Sent) (h : Half) → OnGroup g h → OnGroup g (completes o h)
completed g None h p = p
completed g (Some m) h p = either (OnGroup g) (counts_completed h) (record (counts_completed h) { fin = m.snapshot; flight = drop 1 h.flight; phase = after_completing m.snapshot h.phase }) m.check (same-group g h _ refl refl refl p) (same-group g h _ refl refl refl p)

item-group : (g size : ℕ) (x : Side) (item : Item) (p : Pipe) → IsOf g item → OnGroup g (half x p) → OnGroup g (half x (apply size item p))
item-group g size = at-half size (G g) (record {
  fate = λ x link phase h e p. fated g link phase h e p;
  gone = λ x h e p. same-group g h _ refl refl refl p;
  up = λ x link h e p. record { own = λ u. e; live = p.live };
  call = λ x call h e p. called g size call h p;
  land = λ x h e p. same-group g h _ refl refl refl p;
  take = λ x m h e p. taken g m h p;
  complete = λ x m h e p. completed g m h p;
  rest = λ x item h e p. p;
})

pub group-step : (g : ℕ) (t : Terms) (x : Side) (item : Item) (p : Pipe) → IsOf g item → OnGroup g (half x p) → OnGroup g (half x (step t item p))
group-step g t x item p e q = subst (OnGroup g) (sym (settled-half t x item p)) (settled (half x (apply t.size item p)) (item-group g t.size x item p e q))
  where
    settled : (h : Half) → OnGroup g h → OnGroup g (settle t.depth h)
    settled h r = either (OnGroup g) (posts_batch h) h (is_due t.depth h) (same-group g h _ refl refl refl r) r

pub on-group : (g : ℕ) (t : Terms) (x : Side) (items : List Item) → AreOf g items → OnGroup g (half x (pipe t items))
on-group g t x [] a = first x
  where
    first : (y : Side) → OnGroup g (half y (pipe t []))
    first A = record { own = λ u. absurd (true≢false (sym u)); live = tt }
    first B = record { own = λ u. absurd (true≢false (sym u)); live = tt }
on-group g t x (item ∷ items) a = group-step g t x item (pipe t items) a.0 (on-group g t x items a.1)

-- an end whose group has ended is open no more
abbrev pub IsShut : Half → Type 0
IsShut h = h.stands ≡ false → is_open h.phase ≡ false

abbrev S : Side → Item → Half → Half → Type 0
S x item h k = IsShut h → IsShut k

due-stands : (up stands rest : Bool) → stands ≡ false → ((up && stands) && rest) ≡ false
due-stands true true rest e = absurd (true≢false e)
due-stands true false rest e = refl
due-stands false stands rest e = refl

shut-called : (size : ℕ) (call : Call) (h : Half) → IsShut h → IsShut (calls size call h)
shut-called size (Writes bytes) h p = either IsShut h (record h { out = h.out ++ take (window size h) bytes }) _ p p
shut-called size (Reads n) h p = either IsShut h (record h { rd = h.rd + min n (unread h) }) _ p p
shut-called size Finishes h p = either IsShut h (record h { finished = true; phase = after_finish h.phase }) _ p (λ e. finish-shut h.phase (p e))
shut-called size Closes h p = either IsShut h (record h { finished = true; phase = after_close h.phase }) _ p (λ e. close-shut h.phase (p e))
shut-called size Aborts h p = λ e. abort-shut h.phase (p e)
shut-called size Awaits h p = p
shut-called size Moves h p = λ e. by (is_due_for_move h) refl e
  where
    by : (b : Bool) → is_due_for_move h ≡ b → (if b then moved-on h else h).stands ≡ false → is_open (if b then moved-on h else h).phase ≡ false
    by true q e = absurd (true≢false (sym q ∙ due-stands h.up h.stands (not (has_link h.link h.live) && may_move h.phase) e))
    by false q e = p e

shut-fated : (link : LinkId) (phase : LinkPhase) (h : Half) → IsShut h → IsShut (meets_fate link phase h)
shut-fated link Unused h p = p
shut-fated link Pending h p = p
shut-fated link LiveLink h p = p
shut-fated link Dead h p = p

shut-taken : (o : Option Sent) (h : Half) → IsShut h → IsShut (takes o h)
shut-taken None h p = p
shut-taken (Some m) h p = either IsShut h (if m.check then validates m.snapshot.number h else takes_snapshot m.snapshot h) (is_over h) p
    (either IsShut (validates m.snapshot.number h) (takes_snapshot m.snapshot h) m.check
    (either IsShut (strikes (Gap (wire_number m.snapshot.number) (wire_number h.taken.number)) h) h (shows_gap m.snapshot.number h.taken.number) (λ e. struck-shut (Gap (wire_number m.snapshot.number) (wire_number h.taken.number)) h.phase (p e)) p)
    (either IsShut (strikes PeerAbort (record h { taken = m.snapshot })) (record h { taken = m.snapshot }) m.snapshot.aborted (λ e. struck-shut PeerAbort h.phase (p e)) p))

shut-completed : (o : Option Sent) (h : Half) → IsShut h → IsShut (completes o h)
shut-completed None h p = p
shut-completed (Some m) h p = either IsShut (counts_completed h) (record (counts_completed h) { fin = m.snapshot; flight = drop 1 h.flight; phase = after_completing m.snapshot h.phase }) m.check p (λ e. completing-shut m.snapshot h.phase (p e))

item-shut : (size : ℕ) (x : Side) (item : Item) (p : Pipe) → IsShut (half x p) → IsShut (half x (apply size item p))
item-shut size = at-half size S (record {
  fate = λ x link phase h p. shut-fated link phase h p;
  gone = λ x h p e. ended-shut h.link.group h.phase;
  up = λ x link h p. p;
  call = λ x call h p. shut-called size call h p;
  land = λ x h p. p;
  take = λ x m h p. shut-taken m h p;
  complete = λ x m h p. shut-completed m h p;
  rest = λ x item h p. p;
})

pub is-shut : (t : Terms) (x : Side) (items : List Item) → IsShut (half x (pipe t items))
is-shut t x [] = first x
  where
    first : (y : Side) → IsShut (half y (pipe t []))
    first A = λ e. absurd (true≢false e)
    first B = λ e. absurd (true≢false e)
is-shut t x (item ∷ items) = subst IsShut (sym (settled-half t x item (pipe t items))) (settled (half x (apply t.size item (pipe t items))) (item-shut t.size x item (pipe t items) (is-shut t x items)))
  where
    settled : (h : Half) → IsShut h → IsShut (settle t.depth h)
    settled h r = either IsShut (posts_batch h) h (is_due t.depth h) (λ e. posting-shut (present h) h.phase (r e)) r

-- an end that is up stays so
abbrev U : Side → Item → Half → Half → Type 0
U x item h k = h.up ≡ true → k.up ≡ true

up-called : (size : ℕ) (call : Call) (h : Half) → h.up ≡ true → (calls size call h).up ≡ true
up-called size (Writes bytes) h u = either (λ k. k.up ≡ true) h (record h { out = h.out ++ take (window size h) bytes }) _ u u
up-called size (Reads n) h u = either (λ k. k.up ≡ true) h (record h { rd = h.rd + min n (unread h) }) _ u u
up-called size Finishes h u = either (λ k. k.up ≡ true) h (record h { finished = true; phase = after_finish h.phase }) _ u u
up-called size Closes h u = either (λ k. k.up ≡ true) h (record h { finished = true; phase = after_close h.phase }) _ u u
up-called size Aborts h u = u
up-called size Awaits h u = u
up-called size Moves h u = either (λ k. k.up ≡ true) (moved-on h) h (is_due_for_move h) u u

up-fated : (link : LinkId) (phase : LinkPhase) (h : Half) → h.up ≡ true → (meets_fate link phase h).up ≡ true
up-fated link Unused h u = u
up-fated link Pending h u = u
up-fated link LiveLink h u = u
up-fated link Dead h u = u

up-taken : (o : Option Sent) (h : Half) → h.up ≡ true → (takes o h).up ≡ true
up-taken None h u = u
up-taken (Some m) h u = either (λ k. k.up ≡ true) h (if m.check then validates m.snapshot.number h else takes_snapshot m.snapshot h) (is_over h) u
    (either (λ k. k.up ≡ true) (validates m.snapshot.number h) (takes_snapshot m.snapshot h) m.check
    (either (λ k. k.up ≡ true) (strikes (Gap (wire_number m.snapshot.number) (wire_number h.taken.number)) h) h (shows_gap m.snapshot.number h.taken.number) u u)
    (either (λ k. k.up ≡ true) (strikes PeerAbort (record h { taken = m.snapshot })) (record h { taken = m.snapshot }) m.snapshot.aborted u u))

up-completed : (o : Option Sent) (h : Half) → h.up ≡ true → (completes o h).up ≡ true
up-completed None h u = u
up-completed (Some m) h u = either (λ k. k.up ≡ true) (counts_completed h) (record (counts_completed h) { fin = m.snapshot; flight = drop 1 h.flight; phase = after_completing m.snapshot h.phase }) m.check u u

item-up : (size : ℕ) (x : Side) (item : Item) (p : Pipe) → (half x p).up ≡ true → (half x (apply size item p)).up ≡ true
item-up size = at-half size U (record {
  fate = λ x link phase h u. up-fated link phase h u;
  gone = λ x h u. u;
  up = λ x link h u. refl;
  call = λ x call h u. up-called size call h u;
  land = λ x h u. u;
  take = λ x m h u. up-taken m h u;
  complete = λ x m h u. up-completed m h u;
  rest = λ x item h u. u;
})

pub stays-up : (t : Terms) (x : Side) (news items : List Item) → (half x (pipe t items)).up ≡ true → (half x (pipe t (news ++ items))).up ≡ true
stays-up t x [] items u = u
stays-up t x (item ∷ news) items u = subst (λ (h : Half). h.up ≡ true) (sym (settled-half t x item (pipe t (news ++ items)))) (settled (half x (apply t.size item (pipe t (news ++ items)))) (item-up t.size x item (pipe t (news ++ items)) (stays-up t x news items u)))
  where
    settled : (h : Half) → h.up ≡ true → (settle t.depth h).up ≡ true
    settled h r = either (λ k. k.up ≡ true) (posts_batch h) h (is_due t.depth h) r r
