-- What an end keeps over its news: what it has not completed goes on from the bytes that have completed; what it accepted, read and landed grows.
use Rattle.std.proofs.Common.{Bool, List, [], ap, append-nil, append_assoc, arith, drop, false, if◌then◌else◌, length, length-append, length-drop, drop-drop, max, min, refl, subst, sym, take, true, ℕ, ◌++◌, ◌+◌, ◌-◌, ◌||◌, ◌∙◌, ◌∷◌, ◌≡◌, ◌≤◌}
use Rattle.std.specs.Prelude.{None, Option, Some, is_some}
use Rattle.std.proofs.lemmas.List.{drop-append-le}
use Rattle.std.proofs.Math.Seq.{drop-append_seam}
use Rattle.smc_num.specs.declared.LinkPhase.TheVariants.{Live}
use Rattle.pipe_model.specs.Calls.{Moves}
use Rattle.pipe_model.specs.Ends.{batch, fresh, present, takes}
use Rattle.pipe_model.specs.Pipe.{Lands}
use Rattle.pipe_model.specs.declared.sent.Sent.{Sent}
use Rattle.pipe_model.proofs.Pipes.{is-marked}
use Rattle.history_laws.specs.Words.{A, Aborts, Awaits, B, Call, Calls, Closes, Completes, Dead, EachOf, Fate, Finishes, Gap, GroupEnd, Half, IsFeasible, IsMarked, Item, LinkId, LinkPhase, PeerAbort, Pending, Pipe, Reads, Side, Terms, Unused, Up, Writes, after_close, after_completing, after_finish, after_moving, apply, calls, cause_of, check, completes, counts_completed, half, head, is_closing, is_due, is_due_for_move, is_ended, is_over, lowest_link, meets_fate, pipe, posts_batch, settle, shows_gap, strikes, takes_snapshot, to_complete, to_land, unread, validates, window, wire_number}
use Rattle.history_laws.proofs.Basics.{at-half, drop-none, either, settled-half}

-- that messages go on from a count, each from where the one before it ends at the least, up to a last count
abbrev pub Onward : ℕ → List Sent → ℕ → Type 0
Onward reach [] last = reach ≤ last
Onward reach (m ∷ ms) last = (reach ≤ m.from) × ((m.from ≤ m.snapshot.told) × Onward m.snapshot.told ms last)

onward-less : (reach less last : ℕ) (ms : List Sent) → less ≤ reach → Onward reach ms last → Onward less ms last
onward-less reach less last [] l o = omega (arith, l, o)
onward-less reach less last (m ∷ ms) l o = (omega (arith, l, o.0), o.1)

pub onward-tail : (reach last : ℕ) (m : Sent) (ms : List Sent) → Onward reach (m ∷ ms) last → Onward reach ms last
onward-tail reach last m ms o = onward-less m.snapshot.told reach last ms (omega (arith, o.0, o.1.0)) o.1.1

onward-up : (reach last : ℕ) (ms : List Sent) → Onward reach ms last → reach ≤ last
onward-up reach last [] o = o
onward-up reach last (m ∷ ms) o = let q = onward-up m.snapshot.told last ms o.1.1 in omega (arith, o.0, o.1.0, q)

onward-append : (reach last : ℕ) (ms : List Sent) (m : Sent) → last ≤ m.from → m.from ≤ m.snapshot.told → Onward reach ms last → Onward reach (ms ++ m ∷ []) m.snapshot.told
onward-append reach last [] m l f o = (omega (arith, l, o), (f, omega arith))
onward-append reach last (k ∷ ms) m l f o = (o.0, (o.1.0, onward-append k.snapshot.told last ms m l f o.1.1))

-- each of them is no earlier
pub onward-each : (reach last : ℕ) (ms : List Sent) → Onward reach ms last → EachOf (λ m. reach ≤ m.from) ms
onward-each reach last [] o = tt
onward-each reach last (m ∷ ms) o = (o.0, onward-each reach last ms (onward-tail reach last m ms o))

pub record IsOnward (h : Half) : Type 0 where
  pub onward : Onward h.fin.told (to_complete h) h.last.told
  pub within : h.completed ≤ length h.sent
  pub told : h.last.told ≤ length h.out

-- posting
batch-from : (b : Bool) (last out : ℕ) → last ≤ out → (last ≤ (if b then (if b then last else out) else last)) × (((if b then (if b then last else out) else last) ≤ (if b then last else out)) × ((if b then last else out) ≤ out))
batch-from true last out l = (omega arith, (omega arith, l))
batch-from false last out l = (omega arith, (l, omega arith))

posted : (h : Half) → IsOnward h → IsOnward (posts_batch h)
posted h i =
    let b = batch-from (is_some (cause_of h.phase)) h.last.told (length h.out) i.told in
    record {
      onward = subst (λ ms. Onward h.fin.told ms (present h).told) (sym (drop-append-le h.completed h.sent (batch h ∷ []) i.within)) (onward-append h.fin.told h.last.told (to_complete h) (batch h) b.0 b.1.0 i.onward);
      within = omega (arith, i.within, length-append h.sent (batch h ∷ []));
      told = b.1.1;
    }

settles : (depth : ℕ) (h : Half) → IsOnward h → IsOnward (settle depth h)
settles depth h i = either IsOnward (posts_batch h) h (is_due depth h) (posted h i) i

-- calls
moved : (h : Half) → IsOnward h → IsOnward (record h { link = lowest_link h; last = h.fin; flight = []; phase = after_moving h.phase; sent = h.sent ++ check h ∷ []; landed = length h.sent; completed = length h.sent })
moved h i = record {
  onward = subst (λ ms. Onward h.fin.told ms h.fin.told) (sym (drop-append_seam h.sent (check h ∷ []))) (omega arith, (omega arith, omega arith));
  within = omega (arith, length-append h.sent (check h ∷ []));
  told = omega (arith, i.told, onward-up h.fin.told h.last.told (to_complete h) i.onward);
}

called : (size : ℕ) (call : Call) (h : Half) → IsOnward h → IsOnward (calls size call h)
called size (Writes bytes) h i = either IsOnward h (record h { out = h.out ++ take (window size h) bytes }) (is_some (cause_of h.phase) || is_ended h) i (record { onward = i.onward; within = i.within; told = omega (arith, i.told, length-append h.out (take (window size h) bytes)) })
called size (Reads n) h i = either IsOnward h (record h { rd = h.rd + min n (unread h) }) (is_some (cause_of h.phase) || is_closing h.phase) i (record { onward = i.onward; within = i.within; told = i.told })
called size Finishes h i = either IsOnward h (record h { finished = true; phase = after_finish h.phase }) (is_some (cause_of h.phase)) i (record { onward = i.onward; within = i.within; told = i.told })
called size Closes h i = either IsOnward h (record h { finished = true; phase = after_close h.phase }) (is_some (cause_of h.phase)) i (record { onward = i.onward; within = i.within; told = i.told })
called size Aborts h i = record { onward = i.onward; within = i.within; told = i.told }
called size Awaits h i = i
called size Moves h i = either IsOnward (record h { link = lowest_link h; last = h.fin; flight = []; phase = after_moving h.phase; sent = h.sent ++ check h ∷ []; landed = length h.sent; completed = length h.sent }) h (is_due_for_move h) (moved h i) i

-- fates, landings and completions
fated : (link : LinkId) (phase : LinkPhase) (h : Half) → IsOnward h → IsOnward (meets_fate link phase h)
fated link Unused h i = record { onward = i.onward; within = i.within; told = i.told }
fated link Pending h i = record { onward = i.onward; within = i.within; told = i.told }
fated link Live h i = record { onward = i.onward; within = i.within; told = i.told }
fated link Dead h i = record { onward = i.onward; within = i.within; told = i.told }

taken : (o : Option Sent) (h : Half) → IsOnward h → IsOnward (takes o h)
taken None h i = i
taken (Some m) h i = either IsOnward h (if m.check then validates m.snapshot.number h else takes_snapshot m.snapshot h) (is_over h) i
    (either IsOnward (validates m.snapshot.number h) (takes_snapshot m.snapshot h) m.check
    (either IsOnward (strikes (Gap (wire_number m.snapshot.number) (wire_number h.taken.number)) h) h (shows_gap m.snapshot.number h.taken.number) (record { onward = i.onward; within = i.within; told = i.told }) i)
    (either IsOnward (strikes PeerAbort (record h { taken = m.snapshot })) (record h { taken = m.snapshot }) m.snapshot.aborted (record { onward = i.onward; within = i.within; told = i.told }) (record { onward = i.onward; within = i.within; told = i.told })))

one-completes : (h : Half) (m : Sent) (rest : List Sent) → to_complete h ≡ m ∷ rest → IsOnward h → IsOnward (completes (Some m) h)
one-completes h m rest q i = either IsOnward (counts_completed h) (record (counts_completed h) { fin = m.snapshot; flight = drop 1 h.flight; phase = after_completing m.snapshot h.phase }) m.check
    (record { onward = subst (λ ms. Onward h.fin.told ms h.last.told) (sym tail) (onward-tail h.fin.told h.last.told m rest was); within = some; told = i.told })
    (record { onward = subst (λ ms. Onward m.snapshot.told ms h.last.told) (sym tail) was.1.1; within = some; told = i.told })
  where
    was : Onward h.fin.told (m ∷ rest) h.last.told
    was = subst (λ ms. Onward h.fin.told ms h.last.told) q i.onward

    tail : drop (h.completed + 1) h.sent ≡ rest
    tail = sym (drop-drop 1 h.completed h.sent) ∙ ap (λ ks. drop 1 ks) q ∙ drop-none rest

    some : h.completed + 1 ≤ length h.sent
    some = let a : length h.sent - h.completed ≡ length (m ∷ rest) = sym (length-drop h.completed h.sent) ∙ ap (λ ms. length ms) q in omega (arith, a)

next-completes : (h : Half) → IsOnward h → IsOnward (completes (head (to_complete h)) h)
next-completes h i = by (to_complete h) refl
  where
    by : (ms : List Sent) → to_complete h ≡ ms → IsOnward (completes (head ms) h)
    by [] q = i
    by (m ∷ rest) q = one-completes h m rest q i

-- over every list of items
abbrev AreOnward : Pipe → Type 0
AreOnward p = IsOnward p.a × IsOnward p.b

still : (h k : Half) → k.fin ≡ h.fin → k.last ≡ h.last → k.sent ≡ h.sent → k.completed ≡ h.completed → k.out ≡ h.out → IsOnward h → IsOnward k
still h k a b c d e i = record {
  onward = subst (λ n. Onward n (to_complete k) k.last.told) (sym (ap (λ f. f.told) a)) (subst (λ n. Onward h.fin.told (to_complete k) n) (sym (ap (λ f. f.told) b)) (subst (λ ms. Onward h.fin.told (drop k.completed ms) h.last.told) (sym c) (subst (λ n. Onward h.fin.told (drop n h.sent) h.last.told) (sym d) i.onward)));
  within = omega (arith, i.within, d, ap (λ ms. length ms) c);
  told = omega (arith, i.told, ap (λ f. f.told) b, ap (λ ms. length ms) e);
}

after : (size : ℕ) (item : Item) (p : Pipe) → AreOnward p → AreOnward (apply size item p)
after size (Fate A link phase) p i = (fated link phase p.a i.0, i.1)
after size (Fate B link phase) p i = (i.0, fated link phase p.b i.1)
after size (GroupEnd A) p i = (record { onward = i.0.onward; within = i.0.within; told = i.0.told }, i.1)
after size (GroupEnd B) p i = (i.0, record { onward = i.1.onward; within = i.1.within; told = i.1.told })
after size (Up A link) p i = (record { onward = i.0.onward; within = i.0.within; told = i.0.told }, i.1)
after size (Up B link) p i = (i.0, record { onward = i.1.onward; within = i.1.within; told = i.1.told })
after size (Calls A call) p i = (called size call p.a i.0, i.1)
after size (Calls B call) p i = (i.0, called size call p.b i.1)
after size (Lands A) p i = (record { onward = i.0.onward; within = i.0.within; told = i.0.told }, taken (head (to_land p.a)) p.b i.1)
after size (Lands B) p i = (taken (head (to_land p.b)) p.a i.0, record { onward = i.1.onward; within = i.1.within; told = i.1.told })
after size (Completes A) p i = (next-completes p.a i.0, i.1)
after size (Completes B) p i = (i.0, next-completes p.b i.1)

fresh-onward : (number : ℕ) → IsOnward (fresh number)
fresh-onward number = record { onward = omega arith; within = omega arith; told = omega arith }

are-onward : (t : Terms) (is : List Item) → AreOnward (pipe t is)
are-onward t [] = (fresh-onward t.number, fresh-onward t.number)
are-onward t (item ∷ is) = let a = after t.size item (pipe t is) (are-onward t is) in (settles t.depth (apply t.size item (pipe t is)).a a.0, settles t.depth (apply t.size item (pipe t is)).b a.1)

pub is-onward : (t : Terms) (x : Side) (is : List Item) → IsOnward (half x (pipe t is))
is-onward t A is = (are-onward t is).0
is-onward t B is = (are-onward t is).1

-- what an end has not completed begins no earlier than what has completed ends
pub from-completed : (h : Half) → IsOnward h → EachOf (λ m. h.fin.told ≤ m.from) (to_complete h)
from-completed h i = onward-each h.fin.told h.last.told (to_complete h) i.onward

-- what an end has accepted, read and landed after some news
pub record IsGrown (h k : Half) : Type 0 where
  pub out : List ℕ
  pub out_is : k.out ≡ h.out ++ out
  pub read : h.rd ≤ k.rd
  pub landed : h.landed ≤ k.landed

grown-none : (h k : Half) → k.out ≡ h.out → k.rd ≡ h.rd → k.landed ≡ h.landed → IsGrown h k
grown-none h k a b c = record { out = []; out_is = a ∙ sym (append-nil h.out); read = omega (arith, b); landed = omega (arith, c) }

pub grown-on : (h k j : Half) → IsGrown h k → IsGrown k j → IsGrown h j
grown-on h k j p q = record { out = p.out ++ q.out; out_is = q.out_is ∙ ap (λ bs. bs ++ q.out) p.out_is ∙ append_assoc h.out p.out q.out; read = omega (arith, p.read, q.read); landed = omega (arith, p.landed, q.landed) }

grown-call : (size : ℕ) (call : Call) (h : Half) → h.landed ≤ length h.sent → IsGrown h (calls size call h)
grown-call size (Writes bytes) h l = either (IsGrown h) h (record h { out = h.out ++ take (window size h) bytes }) (is_some (cause_of h.phase) || is_ended h) (grown-none h h refl refl refl)
    (record { out = take (window size h) bytes; out_is = refl; read = omega arith; landed = omega arith })
grown-call size (Reads n) h l = either (IsGrown h) h (record h { rd = h.rd + min n (unread h) }) (is_some (cause_of h.phase) || is_closing h.phase) (grown-none h h refl refl refl)
    (record { out = []; out_is = sym (append-nil h.out); read = omega arith; landed = omega arith })
grown-call size Finishes h l = either (IsGrown h) h (record h { finished = true; phase = after_finish h.phase }) (is_some (cause_of h.phase)) (grown-none h h refl refl refl) (grown-none h (record h { finished = true; phase = after_finish h.phase }) refl refl refl)
grown-call size Closes h l = either (IsGrown h) h (record h { finished = true; phase = after_close h.phase }) (is_some (cause_of h.phase)) (grown-none h h refl refl refl) (grown-none h (record h { finished = true; phase = after_close h.phase }) refl refl refl)
grown-call size Aborts h l = grown-none h (calls size Aborts h) refl refl refl
grown-call size Awaits h l = grown-none h h refl refl refl
grown-call size Moves h l = either (IsGrown h) (record h { link = lowest_link h; last = h.fin; flight = []; phase = after_moving h.phase; sent = h.sent ++ check h ∷ []; landed = length h.sent; completed = length h.sent }) h (is_due_for_move h)
    (record { out = []; out_is = sym (append-nil h.out); read = omega arith; landed = l }) (grown-none h h refl refl refl)

grown-fate : (link : LinkId) (phase : LinkPhase) (h : Half) → IsGrown h (meets_fate link phase h)
grown-fate link Unused h = grown-none h (meets_fate link Unused h) refl refl refl
grown-fate link Pending h = grown-none h (meets_fate link Pending h) refl refl refl
grown-fate link Live h = grown-none h (meets_fate link Live h) refl refl refl
grown-fate link Dead h = grown-none h (meets_fate link Dead h) refl refl refl

grown-takes : (o : Option Sent) (h : Half) → IsGrown h (takes o h)
grown-takes None h = grown-none h h refl refl refl
grown-takes (Some m) h = either (IsGrown h) h (if m.check then validates m.snapshot.number h else takes_snapshot m.snapshot h) (is_over h) (grown-none h h refl refl refl)
    (either (IsGrown h) (validates m.snapshot.number h) (takes_snapshot m.snapshot h) m.check
    (either (IsGrown h) (strikes (Gap (wire_number m.snapshot.number) (wire_number h.taken.number)) h) h (shows_gap m.snapshot.number h.taken.number) (grown-none h (strikes (Gap (wire_number m.snapshot.number) (wire_number h.taken.number)) h) refl refl refl) (grown-none h h refl refl refl))
    (either (IsGrown h) (strikes PeerAbort (record h { taken = m.snapshot })) (record h { taken = m.snapshot }) m.snapshot.aborted (grown-none h (strikes PeerAbort (record h { taken = m.snapshot })) refl refl refl) (grown-none h (record h { taken = m.snapshot }) refl refl refl)))

grown-counted : (h k : Half) → k.out ≡ h.out → k.rd ≡ h.rd → k.landed ≡ max h.landed (h.completed + 1) → IsGrown h k
grown-counted h k a b c = record { out = []; out_is = a ∙ sym (append-nil h.out); read = omega (arith, b); landed = omega (arith, c) }

grown-completes : (o : Option Sent) (h : Half) → IsGrown h (completes o h)
grown-completes None h = grown-none h h refl refl refl
grown-completes (Some m) h = either (IsGrown h) (counts_completed h) (record (counts_completed h) { fin = m.snapshot; flight = drop 1 h.flight; phase = after_completing m.snapshot h.phase }) m.check
    (grown-counted h (counts_completed h) refl refl refl) (grown-counted h (record (counts_completed h) { fin = m.snapshot; flight = drop 1 h.flight; phase = after_completing m.snapshot h.phase }) refl refl refl)

grown-item : (size : ℕ) (x : Side) (item : Item) (p : Pipe) → (half x p).landed ≤ length (half x p).sent → IsGrown (half x p) (half x (apply size item p))
grown-item size = at-half size (λ x item h k. h.landed ≤ length h.sent → IsGrown h k) (record {
  fate = λ x link phase h l. grown-fate link phase h;
  gone = λ x h l. record { out = []; out_is = sym (append-nil h.out); read = omega arith; landed = omega arith };
  up = λ x link h l. record { out = []; out_is = sym (append-nil h.out); read = omega arith; landed = omega arith };
  call = λ x call h l. grown-call size call h l;
  land = λ x h l. record { out = []; out_is = sym (append-nil h.out); read = omega arith; landed = omega arith };
  take = λ x m h l. grown-takes m h;
  complete = λ x m h l. grown-completes m h;
  rest = λ x item h l. record { out = []; out_is = sym (append-nil h.out); read = omega arith; landed = omega arith };
})

grown-settled : (depth : ℕ) (h k : Half) → IsGrown h k → IsGrown h (settle depth k)
grown-settled depth h k p = either (IsGrown h) (posts_batch k) k (is_due depth k) (record { out = p.out; out_is = p.out_is; read = p.read; landed = p.landed }) p

pub grown-step : (t : Terms) (x : Side) (item : Item) (is : List Item) → IsFeasible t is → IsGrown (half x (pipe t is)) (half x (pipe t (item ∷ is)))
grown-step t x item is f =
    let m : IsMarked (half x (pipe t is)) = is-marked t x is f in
    subst (λ k. IsGrown (half x (pipe t is)) k) (sym (settled-half t x item (pipe t is)))
    (grown-settled t.depth (half x (pipe t is)) (half x (apply t.size item (pipe t is))) (grown-item t.size x item (pipe t is) m.landed_sent))

pub grown-all : (t : Terms) (x : Side) (news is : List Item) → IsFeasible t (news ++ is) → IsGrown (half x (pipe t is)) (half x (pipe t (news ++ is)))
grown-all t x [] is f = grown-none (half x (pipe t is)) (half x (pipe t is)) refl refl refl
grown-all t x (item ∷ news) is f = grown-on (half x (pipe t is)) (half x (pipe t (news ++ is))) (half x (pipe t (item ∷ (news ++ is)))) (grown-all t x news is f.1) (grown-step t x item (news ++ is) f.1)
