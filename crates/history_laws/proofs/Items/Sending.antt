-- What some news make of an end that does not move: what it sends goes on its link, and it stays there.
use Rattle.std.proofs.Common.{Bool, List, [], ap, append-nil, append_assoc, arith, drop, false, if◌then◌else◌, length, max, min, not, refl, subst, sym, take, true, true≢false, ℕ, ◌&&◌, ◌++◌, ◌+◌, ◌||◌, ◌∙◌, ◌∷◌, ◌≡◌, ◌≤◌}
use Rattle.pipe_model.specs.Calls.{Moves}
use Rattle.pipe_model.specs.declared.sent.Sent.{Sent}
use Rattle.pipe_model.specs.Ends.{batch, moves, takes}
use Rattle.std.specs.Prelude.{None, Option, Some, is_some}
use Rattle.smc_num.specs.declared.LinkPhase.TheVariants.{Live}
use Rattle.history_laws.specs.Words.{A, Aborts, Awaits, B, Call, Calls, Closes, Completes, Dead, EachOf, Finishes, Gap, Half, Item, LinkId, LinkPhase, PeerAbort, Pending, Pipe, Reads, Side, Terms, Unused, Up, Writes, after_close, after_completing, after_finish, after_moving, apply, calls, cause_of, check, completes, counts_completed, half, head, is_closing, is_due, is_due_for_move, is_ended, is_over, lowest_link, meets_fate, pipe, posts_batch, same_side, settle, shows_gap, step, strikes, takes_snapshot, to_complete, unread, validates, window, wire_number}
use Rattle.history_laws.proofs.Basics.{at-half, by-bool, either, is-up-where-due, same-self, settled-half}
use Rattle.history_laws.proofs.Wires.{apart}
use Rattle.history_laws.specs.Wires.{HasGone}

-- that an item leaves the end at a side, in this state, on its link
abbrev pub StaysOn : Side → Item → Half → Type 0
StaysOn x (Up y link) h = same_side x y ≡ true → h.up ≡ false
StaysOn x (Calls y Moves) h = same_side x y ≡ true → is_due_for_move h ≡ false
StaysOn x _ h = Unit {0}

-- that each of some news does, the newest first
abbrev pub AllStayOn : Terms → Side → List Item → List Item → Type 0
AllStayOn t x [] items = Unit {0}
AllStayOn t x (item ∷ news) items = StaysOn x item (half x (pipe t (news ++ items))) × AllStayOn t x news items

-- what an end has sent since on its link, on which it stayed; where it isn't up it has sent nothing
pub record Sends (h k : Half) : Type 0 where
  pub more : List Sent
  pub sent_is : k.sent ≡ h.sent ++ more
  pub on : EachOf (λ m. m.link ≡ k.link) more
  pub up : h.up ≡ true → k.up ≡ true
  pub same : h.up ≡ true → k.link ≡ h.link
  pub none : k.up ≡ false → more ≡ []

pub sends-none : (h : Half) → Sends h h
sends-none h = record { more = []; sent_is = sym (append-nil h.sent); on = tt; up = λ e. e; same = λ e. refl; none = λ e. refl }

-- an item that changes neither messages nor link, but for an end that comes up
abbrev pub Keeps : Half → Half → Type 0
Keeps h k = (k.sent ≡ h.sent) × (h.up ≡ true → (k.up ≡ true) × (k.link ≡ h.link))

kept-sends : (h k : Half) → Keeps h k → Sends h k
kept-sends h k e = record { more = []; sent_is = e.0 ∙ sym (append-nil h.sent); on = tt; up = λ u. (let q = e.1 u in q.0); same = λ u. (let q = e.1 u in q.1); none = λ u. refl }

pub each-two : (P : Sent → Type 0) (ms ns : List Sent) → EachOf P ms → EachOf P ns → EachOf P (ms ++ ns)
each-two P [] ns p q = q
each-two P (m ∷ ms) ns p q = (p.0, each-two P ms ns p.1 q)

pub sends-on : (h k j : Half) → Sends h k → Sends k j → Sends h j
sends-on h k j p q = record {
  more = p.more ++ q.more;
  sent_is = q.sent_is ∙ ap (λ ms. ms ++ q.more) p.sent_is ∙ append_assoc h.sent p.more q.more;
  on = each-two (λ m. m.link ≡ j.link) p.more q.more
      (by-bool (EachOf (λ m. m.link ≡ j.link) p.more) k.up (λ u. subst (λ l. EachOf (λ m. m.link ≡ l) p.more) (sym (q.same u)) p.on) (λ u. subst (λ ms. EachOf (λ m. m.link ≡ j.link) ms) (sym (p.none u)) tt)) q.on;
  up = λ u. q.up (p.up u);
  same = λ u. q.same (p.up u) ∙ p.same u;
  none = λ u. ap (λ ms. p.more ++ ms) (q.none u) ∙ append-nil p.more ∙ p.none (by-bool (k.up ≡ false) k.up (λ v. absurd (true≢false (sym (q.up v) ∙ u))) (λ v. v));
}

settles : (depth : ℕ) (h k : Half) → Sends h k → Sends h (settle depth k)
settles depth h k p = by (is_due depth k) refl
  where
    by : (b : Bool) → is_due depth k ≡ b → Sends h (if b then posts_batch k else k)
    by false e = p
    by true e = sends-on h k (posts_batch k) p (record {
      more = batch k ∷ [];
      sent_is = refl;
      on = (refl, tt);
      up = λ u. u;
      same = λ u. refl;
      none = λ u. absurd (true≢false (sym (is-up-where-due depth k e) ∙ u));
    })

kept-takes : (o : Option Sent) (h : Half) → Keeps h (takes o h)
kept-takes None h = (refl, λ u. (u, refl))
kept-takes (Some m) h = either (Keeps h) h (if m.check then validates m.snapshot.number h else takes_snapshot m.snapshot h) (is_over h) (refl, λ u. (u, refl))
    (either (Keeps h) (validates m.snapshot.number h) (takes_snapshot m.snapshot h) m.check
    (either (Keeps h) (strikes (Gap (wire_number m.snapshot.number) (wire_number h.taken.number)) h) h (shows_gap m.snapshot.number h.taken.number) (refl, λ u. (u, refl)) (refl, λ u. (u, refl)))
    (either (Keeps h) (strikes PeerAbort (record h { taken = m.snapshot })) (record h { taken = m.snapshot }) m.snapshot.aborted (refl, λ u. (u, refl)) (refl, λ u. (u, refl))))

kept-completes : (o : Option Sent) (h : Half) → Keeps h (completes o h)
kept-completes None h = (refl, λ u. (u, refl))
kept-completes (Some m) h = either (Keeps h) (counts_completed h) (record (counts_completed h) { fin = m.snapshot; flight = drop 1 h.flight; phase = after_completing m.snapshot h.phase }) m.check (refl, λ u. (u, refl)) (refl, λ u. (u, refl))

kept-fate : (link : LinkId) (phase : LinkPhase) (h : Half) → Keeps h (meets_fate link phase h)
kept-fate link Unused h = (refl, λ u. (u, refl))
kept-fate link Pending h = (refl, λ u. (u, refl))
kept-fate link Live h = (refl, λ u. (u, refl))
kept-fate link Dead h = (refl, λ u. (u, refl))

undue : (h : Half) → is_due_for_move h ≡ false → moves h ≡ h
undue h e = ap (λ b. if b then record h { link = lowest_link h; last = h.fin; flight = []; phase = after_moving h.phase; sent = h.sent ++ check h ∷ []; landed = length h.sent; completed = length h.sent } else h) e

kept-call : (size : ℕ) (call : Call) (h : Half) → StaysOn A (Calls A call) h → Keeps h (calls size call h)
kept-call size (Writes bytes) h s = either (Keeps h) h (record h { out = h.out ++ take (window size h) bytes }) (is_some (cause_of h.phase) || is_ended h) (refl, λ u. (u, refl)) (refl, λ u. (u, refl))
kept-call size (Reads n) h s = either (Keeps h) h (record h { rd = h.rd + min n (unread h) }) (is_some (cause_of h.phase) || is_closing h.phase) (refl, λ u. (u, refl)) (refl, λ u. (u, refl))
kept-call size Finishes h s = either (Keeps h) h (record h { finished = true; phase = after_finish h.phase }) (is_some (cause_of h.phase)) (refl, λ u. (u, refl)) (refl, λ u. (u, refl))
kept-call size Closes h s = either (Keeps h) h (record h { finished = true; phase = after_close h.phase }) (is_some (cause_of h.phase)) (refl, λ u. (u, refl)) (refl, λ u. (u, refl))
kept-call size Aborts h s = (refl, λ u. (u, refl))
kept-call size Awaits h s = (refl, λ u. (u, refl))
kept-call size Moves h s = subst (λ k. Keeps h k) (sym (undue h (s refl))) (refl, λ u. (u, refl))

of-self : (x : Side) (call : Call) (h : Half) → StaysOn x (Calls x call) h → StaysOn A (Calls A call) h
of-self A call h s = s
of-self B (Writes bytes) h s = tt
of-self B (Reads n) h s = tt
of-self B Finishes h s = tt
of-self B Closes h s = tt
of-self B Aborts h s = tt
of-self B Awaits h s = tt
of-self B Moves h s = s

keeps : (size : ℕ) (x : Side) (item : Item) (p : Pipe) → StaysOn x item (half x p) → Keeps (half x p) (half x (apply size item p))
keeps size = at-half size (λ x item h k. StaysOn x item h → Keeps h k) (record {
  fate = λ x link phase h s. kept-fate link phase h;
  gone = λ x h s. (refl, λ u. (u, refl));
  up = λ x link h s. (refl, λ u. absurd (true≢false (sym u ∙ s (same-self x))));
  call = λ x call h s. kept-call size call h (of-self x call h s);
  land = λ x h s. (refl, λ u. (u, refl));
  take = λ x m h s. kept-takes m h;
  complete = λ x m h s. kept-completes m h;
  rest = λ x item h s. (refl, λ u. (u, refl));
})

pub sends-step : (t : Terms) (x : Side) (item : Item) (p : Pipe) → StaysOn x item (half x p) → Sends (half x p) (half x (step t item p))
sends-step t x item p s = subst (λ k. Sends (half x p) k) (sym (settled-half t x item p)) (settles t.depth (half x p) (half x (apply t.size item p)) (kept-sends (half x p) (half x (apply t.size item p)) (keeps t.size x item p s)))

pub sends-all : (t : Terms) (x : Side) (news items : List Item) → AllStayOn t x news items → Sends (half x (pipe t items)) (half x (pipe t (news ++ items)))
sends-all t x [] items s = sends-none (half x (pipe t items))
sends-all t x (item ∷ news) items s = sends-on (half x (pipe t items)) (half x (pipe t (news ++ items))) (half x (step t item (pipe t (news ++ items)))) (sends-all t x news items s.1) (sends-step t x item (pipe t (news ++ items)) s.0)

-- how many have landed and completed
abbrev pub Counts : Half → Half → Type 0
Counts h k = (k.landed ≡ h.landed) × (k.completed ≡ h.completed)

settle-counts : (depth : ℕ) (k : Half) → Counts k (settle depth k)
settle-counts depth k = either (λ j. Counts k j) (posts_batch k) k (is_due depth k) (refl, refl) (refl, refl)

counts-takes : (o : Option Sent) (h : Half) → Counts h (takes o h)
counts-takes None h = (refl, refl)
counts-takes (Some m) h = either (Counts h) h (if m.check then validates m.snapshot.number h else takes_snapshot m.snapshot h) (is_over h) (refl, refl)
    (either (Counts h) (validates m.snapshot.number h) (takes_snapshot m.snapshot h) m.check
    (either (Counts h) (strikes (Gap (wire_number m.snapshot.number) (wire_number h.taken.number)) h) h (shows_gap m.snapshot.number h.taken.number) (refl, refl) (refl, refl))
    (either (Counts h) (strikes PeerAbort (record h { taken = m.snapshot })) (record h { taken = m.snapshot }) m.snapshot.aborted (refl, refl) (refl, refl)))

counts-fate : (link : LinkId) (phase : LinkPhase) (h : Half) → Counts h (meets_fate link phase h)
counts-fate link Unused h = (refl, refl)
counts-fate link Pending h = (refl, refl)
counts-fate link Live h = (refl, refl)
counts-fate link Dead h = (refl, refl)

counts-call : (size : ℕ) (call : Call) (h : Half) → StaysOn A (Calls A call) h → Counts h (calls size call h)
counts-call size (Writes bytes) h s = either (Counts h) h (record h { out = h.out ++ take (window size h) bytes }) (is_some (cause_of h.phase) || is_ended h) (refl, refl) (refl, refl)
counts-call size (Reads n) h s = either (Counts h) h (record h { rd = h.rd + min n (unread h) }) (is_some (cause_of h.phase) || is_closing h.phase) (refl, refl) (refl, refl)
counts-call size Finishes h s = either (Counts h) h (record h { finished = true; phase = after_finish h.phase }) (is_some (cause_of h.phase)) (refl, refl) (refl, refl)
counts-call size Closes h s = either (Counts h) h (record h { finished = true; phase = after_close h.phase }) (is_some (cause_of h.phase)) (refl, refl) (refl, refl)
counts-call size Aborts h s = (refl, refl)
counts-call size Awaits h s = (refl, refl)
counts-call size Moves h s = subst (λ k. Counts h k) (sym (undue h (s refl))) (refl, refl)

counts-item : (size : ℕ) (x : Side) (item : Item) (p : Pipe) → apart x item ≡ true → StaysOn x item (half x p) → Counts (half x p) (half x (apply size item p))
counts-item size = at-half size (λ x item h k. apart x item ≡ true → StaysOn x item h → Counts h k) (record {
  fate = λ x link phase h a s. counts-fate link phase h;
  gone = λ x h a s. (refl, refl);
  up = λ x link h a s. (refl, refl);
  call = λ x call h a s. counts-call size call h (of-self x call h s);
  land = λ x h a s. absurd (true≢false (sym a ∙ ap (λ b. not b) (same-self x)));
  take = λ x m h a s. counts-takes m h;
  complete = λ x m h a s. absurd (true≢false (sym a ∙ ap (λ b. not b) (same-self x)));
  rest = λ x item h a s. (refl, refl);
})

counts-on : (h k j : Half) → Counts h k → Counts k j → Counts h j
counts-on h k j p q = (q.0 ∙ p.0, q.1 ∙ p.1)

pub counts-step : (t : Terms) (x : Side) (item : Item) (p : Pipe) → apart x item ≡ true → StaysOn x item (half x p) → Counts (half x p) (half x (step t item p))
counts-step t x item p a s = subst (λ k. Counts (half x p) k) (sym (settled-half t x item p))
    (counts-on (half x p) (half x (apply t.size item p)) (settle t.depth (half x (apply t.size item p))) (counts-item t.size x item p a s) (settle-counts t.depth (half x (apply t.size item p))))

-- a message that has not landed completes: it was swallowed
swallowed-by : (m : Sent) (h : Half) → h.completed ≡ h.landed → HasGone h (completes (Some m) h) (h.landed + 1) (h.completed + 1)
swallowed-by m h l =
    let e : max h.landed (h.completed + 1) ≡ h.landed + 1 = omega (arith, l) in
    either (λ k. HasGone h k (h.landed + 1) (h.completed + 1)) (counts_completed h) (record (counts_completed h) { fin = m.snapshot; flight = drop 1 h.flight; phase = after_completing m.snapshot h.phase }) m.check
    (record { landed_is = e; completed_is = refl; more = []; sent_is = sym (append-nil h.sent) })
    (record { landed_is = e; completed_is = refl; more = []; sent_is = sym (append-nil h.sent) })

swallowed-one : (size : ℕ) (x : Side) (p : Pipe) (m : Sent) → head (to_complete (half x p)) ≡ Some m → (half x p).completed ≡ (half x p).landed → HasGone (half x p) (half x (apply size (Completes x) p)) ((half x p).landed + 1) ((half x p).completed + 1)
swallowed-one size A p m e l = subst (λ o. HasGone p.a (completes o p.a) (p.a.landed + 1) (p.a.completed + 1)) (sym e) (swallowed-by m p.a l)
swallowed-one size B p m e l = subst (λ o. HasGone p.b (completes o p.b) (p.b.landed + 1) (p.b.completed + 1)) (sym e) (swallowed-by m p.b l)

pub swallows-one : (t : Terms) (x : Side) (p : Pipe) (m : Sent) → head (to_complete (half x p)) ≡ Some m → (half x p).completed ≡ (half x p).landed →
    ((half x (step t (Completes x) p)).landed ≡ (half x p).landed + 1) × ((half x (step t (Completes x) p)).completed ≡ (half x p).completed + 1)
swallows-one t x p m e l =
    let g = swallowed-one t.size x p m e l in
    let c = settle-counts t.depth (half x (apply t.size (Completes x) p)) in
    (ap (λ (k : Half). k.landed) (settled-half t x (Completes x) p) ∙ (c.0 ∙ g.landed_is), ap (λ (k : Half). k.completed) (settled-half t x (Completes x) p) ∙ (c.1 ∙ g.completed_is))

-- what a move that is due makes of an end: all that it sent is left behind, and it goes on, on its lowest live link
pub record MovesOff (h k : Half) : Type 0 where
  pub more : List Sent
  pub sent_is : k.sent ≡ h.sent ++ more
  pub on : EachOf (λ m. m.link ≡ k.link) more
  pub landed_is : k.landed ≡ length h.sent
  pub completed_is : k.completed ≡ length h.sent
  pub link_is : k.link ≡ lowest_link h
  pub up : k.up ≡ true

and-first : (a b c : Bool) → ((a && b) && c) ≡ true → a ≡ true
and-first true b c e = refl
and-first false b c e = absurd (true≢false (sym e))

due-up : (h : Half) → is_due_for_move h ≡ true → h.up ≡ true
due-up h e = and-first h.up h.stands _ e

moves-off : (h : Half) → is_due_for_move h ≡ true → MovesOff h (moves h)
moves-off h e = subst (λ (b : Bool). MovesOff h (if b then record h { link = lowest_link h; last = h.fin; flight = []; phase = after_moving h.phase; sent = h.sent ++ check h ∷ []; landed = length h.sent; completed = length h.sent } else h)) (sym e)
    (record { more = check h ∷ []; sent_is = refl; on = (refl, tt); landed_is = refl; completed_is = refl; link_is = refl; up = due-up h e })

moved-settles : (depth : ℕ) (h k : Half) → MovesOff h k → MovesOff h (settle depth k)
moved-settles depth h k p = either (λ j. MovesOff h j) (posts_batch k) k (is_due depth k)
    (record {
      more = p.more ++ batch k ∷ [];
      sent_is = ap (λ ms. ms ++ batch k ∷ []) p.sent_is ∙ append_assoc h.sent p.more (batch k ∷ []);
      on = each-two (λ m. m.link ≡ k.link) p.more (batch k ∷ []) p.on (refl, tt);
      landed_is = p.landed_is;
      completed_is = p.completed_is;
      link_is = p.link_is;
      up = p.up;
    }) p

pub moves-step : (t : Terms) (x : Side) (p : Pipe) → is_due_for_move (half x p) ≡ true → MovesOff (half x p) (half x (step t (Calls x Moves) p))
moves-step t A p e = moved-settles t.depth p.a (moves p.a) (moves-off p.a e)
moves-step t B p e = moved-settles t.depth p.b (moves p.b) (moves-off p.b e)

-- no fewer have completed
counts-less : (h k : Half) → Counts h k → h.completed ≤ k.completed
counts-less h k c = omega (arith, c.1)

completes-less : (o : Option Sent) (h : Half) → h.completed ≤ (completes o h).completed
completes-less None h = omega arith
completes-less (Some m) h = either (λ k. h.completed ≤ k.completed) (counts_completed h) (record (counts_completed h) { fin = m.snapshot; flight = drop 1 h.flight; phase = after_completing m.snapshot h.phase }) m.check (omega arith) (omega arith)

less-item : (size : ℕ) (x : Side) (item : Item) (p : Pipe) → StaysOn x item (half x p) → (half x p).completed ≤ (half x (apply size item p)).completed
less-item size = at-half size (λ x item h k. StaysOn x item h → h.completed ≤ k.completed) (record {
  fate = λ x link phase h s. counts-less h (meets_fate link phase h) (counts-fate link phase h);
  gone = λ x h s. omega arith;
  up = λ x link h s. omega arith;
  call = λ x call h s. counts-less h (calls size call h) (counts-call size call h (of-self x call h s));
  land = λ x h s. omega arith;
  take = λ x m h s. counts-less h (takes m h) (counts-takes m h);
  complete = λ x m h s. completes-less m h;
  rest = λ x item h s. omega arith;
})

pub less-step : (t : Terms) (x : Side) (item : Item) (p : Pipe) → StaysOn x item (half x p) → (half x p).completed ≤ (half x (step t item p)).completed
less-step t x item p s =
    let c = settle-counts t.depth (half x (apply t.size item p)) in
    let n : (half x (step t item p)).completed ≡ (half x (apply t.size item p)).completed = ap (λ (k : Half). k.completed) (settled-half t x item p) ∙ c.1 in
    omega (arith, n, less-item t.size x item p s)
