-- What has been posted is not due any more, so that an item which changes nothing posts nothing.
use Rattle.std.proofs.Common.{◌≡◌, ℕ, ◌==◌, ◌&&◌, not, Bool, true, false, List, [], ◌∷◌, refl, if◌then◌else◌, arith, length, nat_lt}
use Rattle.std.specs.Prelude.{is_some}
use Rattle.pipe_model.specs.declared.snapshot.Snapshot.{Snapshot}
use Rattle.smc_num.specs.Names.{has_link}
use Rattle.pipe_model.specs.Words.{same_bool}
use Rattle.pipe_model.specs.Snapshot.{tells_same}
use Rattle.smc_num.specs.declared.Side.{Side}
use Rattle.smc_num.specs.declared.Side.TheVariants.{A, B}
use Rattle.pipe_model.specs.Closing.{Phase, Open, Finished, Closing, ClosePosted, CloseDone, Resetting, AbortPosted, AbortDone, GroupGone, cause_of, is_closing, is_group_gone, after_posting}
use Rattle.pipe_model.specs.Ends.{Half, present, posts_batch, settle, is_due}
use Rattle.pipe_model.specs.Pipe.{Terms, Item, half, pipe, apply}
use Rattle.pipe_model.specs.Parts.{IsSettled}

same-number : (n : ℕ) → (n == n) ≡ true
same-number n = grind arith

same-bool : (b : Bool) → same_bool b b ≡ true
same-bool true = refl
same-bool false = refl

all-true : (a b c d e : Bool) → a ≡ true → b ≡ true → c ≡ true → d ≡ true → e ≡ true → ((a && b) && (c && (d && e))) ≡ true
all-true a b c d e p q r s t = rw (p, q, r, s, t) refl

tells-same : (s : Snapshot) → tells_same s s ≡ true
tells-same s = all-true (s.told == s.told) (s.read == s.read) (same_bool s.done s.done) (same_bool s.closed s.closed) (same_bool s.aborted s.aborted)
    (same-number s.told) (same-number s.read) (same-bool s.done) (same-bool s.closed) (same-bool s.aborted)

-- the phase after posting has a cause exactly where it had one before, and is closing exactly where it was
pub cause-kept : (s : Snapshot) (p : Phase) → is_some (cause_of (after_posting s p)) ≡ is_some (cause_of p)
cause-kept s Open = refl
cause-kept s Finished = refl
cause-kept s Closing = closing-kept s.closed
  where
    closing-kept : (b : Bool) → is_some (cause_of (if b then ClosePosted else Closing)) ≡ false
    closing-kept true = refl
    closing-kept false = refl
cause-kept s ClosePosted = refl
cause-kept s CloseDone = refl
cause-kept s (Resetting cause) = refl
cause-kept s (AbortPosted cause) = refl
cause-kept s (AbortDone cause) = refl
cause-kept s (GroupGone group) = refl

pub closing-kept : (s : Snapshot) (p : Phase) → is_closing (after_posting s p) ≡ is_closing p
closing-kept s Open = refl
closing-kept s Finished = refl
closing-kept s Closing = both s.closed
  where
    both : (b : Bool) → is_closing (if b then ClosePosted else Closing) ≡ true
    both true = refl
    both false = refl
closing-kept s ClosePosted = refl
closing-kept s CloseDone = refl
closing-kept s (Resetting cause) = refl
closing-kept s (AbortPosted cause) = refl
closing-kept s (AbortDone cause) = refl
closing-kept s (GroupGone group) = refl

told-again : (r : Bool) (a b : ℕ) → ((if r then (if r then a else b) else b) == (if r then a else b)) ≡ true
told-again true a b = same-number a
told-again false a b = same-number b

told-as : (r q : Bool) (a b : ℕ) → q ≡ r → ((if q then (if r then a else b) else b) == (if r then a else b)) ≡ true
told-as r q a b e = rw e (told-again r a b)

closed-as : (p q c : Bool) → q ≡ p → same_bool (q && c) (p && c) ≡ true
closed-as p q c e = rw e (same-bool (p && c))

bool-as : (p q : Bool) → q ≡ p → same_bool q p ≡ true
bool-as p q e = rw e (same-bool p)

-- after posting, the end would tell what it has told
tells-again : (h : Half) → tells_same (present (posts_batch h)) (present h) ≡ true
tells-again h =
    let after : Phase = after_posting (present h) h.phase in
    all-true ((present (posts_batch h)).told == (present h).told) (h.rd == h.rd) (same_bool h.finished h.finished)
    (same_bool (present (posts_batch h)).closed (present h).closed) (same_bool (present (posts_batch h)).aborted (present h).aborted)
    (told-as (is_some (cause_of h.phase)) (is_some (cause_of after)) h.last.told (length h.out) (cause-kept (present h) h.phase))
    (same-number h.rd) (same-bool h.finished)
    (closed-as (is_closing h.phase) (is_closing after) (h.fin.told == length h.out) (closing-kept (present h) h.phase))
    (bool-as (is_some (cause_of h.phase)) (is_some (cause_of after)) (cause-kept (present h) h.phase))

not-due : (a b c d : Bool) → d ≡ true → (a && (b && (c && not d))) ≡ false
not-due true true true d e = rw e refl
not-due true true false d e = refl
not-due true false c d e = refl
not-due false b c d e = refl

posted-not-due : (depth : ℕ) (h : Half) → is_due depth (posts_batch h) ≡ false
posted-not-due depth h =
    let h2 : Half = posts_batch h in
    not-due (h2.up && not (is_group_gone h2.phase)) (has_link h2.link h2.live) (nat_lt (length h2.flight) depth) (tells_same (present h2) (present h)) (tells-again h)

settled-by : (depth : ℕ) (h : Half) (b : Bool) → is_due depth h ≡ b → is_due depth (if b then posts_batch h else h) ≡ false
settled-by depth h true e = posted-not-due depth h
settled-by depth h false e = e

-- what has settled is not due
settled : (depth : ℕ) (h : Half) → is_due depth (settle depth h) ≡ false
settled depth h = settled-by depth h (is_due depth h) refl

-- nothing is due after an item, whatever the part
pub nothing-due : (t : Terms) (x : Side) (items : List Item) → IsSettled t.depth (half x (pipe t items))
nothing-due t A [] = refl
nothing-due t B [] = refl
nothing-due t A (item ∷ items) = settled t.depth (apply t.size item (pipe t items)).a
nothing-due t B (item ∷ items) = settled t.depth (apply t.size item (pipe t items)).b
