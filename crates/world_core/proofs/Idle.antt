-- An end that is not established has sent nothing, and one that is sends on its link.
use Rattle.std.proofs.Common.{◌≡◌, ◌∙◌, ℕ, ◌+◌, min, Bool, true, false, not, if◌then◌else◌, List, [], ◌∷◌, ◌++◌, length, take, drop, refl, sym, subst, ◌||◌, ◌&&◌, true≢false, nat_lt, append-nil}
use Rattle.std.specs.Prelude.{Option, Some, None, is_some}
use Rattle.smc_num.specs.declared.Side.{Side}
use Rattle.smc_num.specs.declared.Side.TheVariants.{A, B}
use Rattle.smc_num.specs.declared.LinkId.{LinkId}
use Rattle.smc_num.specs.declared.LinkPhase.{LinkPhase}
use Rattle.smc_num.specs.declared.LinkPhase.TheVariants.{Unused, Pending, Live, Dead}
use Rattle.smc_num.specs.Names.{head, has_link}
use Rattle.smc_num.specs.Numbers.{wire_number}
use Rattle.pipe_model.specs.declared.reply.ResetCause.TheVariants.{PeerAbort, Gap}
use Rattle.pipe_model.specs.declared.sent.Sent.{Sent}
use Rattle.pipe_model.specs.Snapshot.{shows_gap, tells_same}
use Rattle.pipe_model.specs.Closing.{cause_of, is_closing, is_group_gone, after_completing}
use Rattle.pipe_model.specs.Ends.{Half, fresh, settle, is_due, is_over, meets_fate, takes, takes_snapshot, validates, strikes, completes, counts_completed, batch, present, posts_batch, window, unread, to_land, to_complete, lands, comes_up}
use Rattle.pipe_model.specs.Calls.{Call, Writes, Reads, calls, is_ended}
use Rattle.pipe_model.specs.Pipe.{Pipe, Terms, Item, Fate, GroupEnd, Up, Calls, Lands, Completes, half, pipe, apply, step}
use Rattle.pipe_model.specs.Parts.{EachOf}
use Rattle.world_core.specs.Wired.{IsOnLink, EachUpOn, EachItem, keeps_open, HasGone, passes_by}
use Rattle.world_core.proofs.OpenEnds.{each-append}
use Rattle.world_core.proofs.Growth.{either, gone-on, passed-by}

-- what holds of an end whose link, establishment and messages alone matter, and who knows nothing of the rest
abbrev pub IsSame : Half → Half → Type 0
IsSame h k = (k.up ≡ h.up) × (k.link ≡ h.link) × (k.sent ≡ h.sent)

pub same-takes : (o : Option Sent) (h : Half) → IsSame h (takes o h)
same-takes None h = (refl, refl, refl)
same-takes (Some m) h = either (IsSame h) h (if m.check then validates m.snapshot.number h else takes_snapshot m.snapshot h) (is_over h) (refl, refl, refl)
    (either (IsSame h) (validates m.snapshot.number h) (takes_snapshot m.snapshot h) m.check
    (either (IsSame h) (strikes (Gap (wire_number m.snapshot.number) (wire_number h.taken.number)) h) h (shows_gap m.snapshot.number h.taken.number) (refl, refl, refl) (refl, refl, refl))
    (either (IsSame h) (strikes PeerAbort (record h { taken = m.snapshot })) (record h { taken = m.snapshot }) m.snapshot.aborted (refl, refl, refl) (refl, refl, refl)))

pub same-completes : (o : Option Sent) (h : Half) → IsSame h (completes o h)
same-completes None h = (refl, refl, refl)
same-completes (Some m) h = either (IsSame h) (counts_completed h) (record (counts_completed h) { fin = m.snapshot; flight = drop 1 h.flight; phase = after_completing m.snapshot h.phase }) m.check (refl, refl, refl) (refl, refl, refl)

pub same-fate : (link : LinkId) (phase : LinkPhase) (h : Half) → IsSame h (meets_fate link phase h)
same-fate link Unused h = (refl, refl, refl)
same-fate link Pending h = (refl, refl, refl)
same-fate link Live h = (refl, refl, refl)
same-fate link Dead h = (refl, refl, refl)

pub same-call : (size : ℕ) (call : Call) (h : Half) → keeps_open (Calls A call) ≡ true → IsSame h (calls size call h)
same-call size (Writes bytes) h k = either (IsSame h) h (record h { out = h.out ++ take (window size h) bytes }) (is_some (cause_of h.phase) || is_ended h) (refl, refl, refl) (refl, refl, refl)
same-call size (Reads n) h k = either (IsSame h) h (record h { rd = h.rd + min n (unread h) }) (is_some (cause_of h.phase) || is_closing h.phase) (refl, refl, refl) (refl, refl, refl)
same-call size _ h k = absurd (true≢false (sym k))

-- what holds of the first holds of the second
module _ (P : Half → Type 0) (by : (h k : Half) → IsSame h k → P h → P k) (ups : LinkId → Type 0) (up : (link : LinkId) (h : Half) → ups link → P h → P (comes_up link h)) where
  abbrev Ups : Item → Type 0
  Ups (Up x link) = ups link
  Ups item = Unit {0}

  pub applied : (size : ℕ) (item : Item) (p : Pipe) → keeps_open item ≡ true → Ups item → P p.a × P p.b → P (apply size item p).a × P (apply size item p).b
  applied size (Fate A link phase) p k u o = (by p.a (meets_fate link phase p.a) (same-fate link phase p.a) o.0, o.1)
  applied size (Fate B link phase) p k u o = (o.0, by p.b (meets_fate link phase p.b) (same-fate link phase p.b) o.1)
  applied size (GroupEnd x) p k u o = absurd (true≢false (sym k))
  applied size (Up A link) p k u o = (up link p.a u o.0, o.1)
  applied size (Up B link) p k u o = (o.0, up link p.b u o.1)
  applied size (Calls A call) p k u o = (by p.a (calls size call p.a) (same-call size call p.a k) o.0, o.1)
  applied size (Calls B call) p k u o = (o.0, by p.b (calls size call p.b) (same-call size call p.b k) o.1)
  applied size (Lands A) p k u o = (by p.a (lands p.a) (refl, refl, refl) o.0, by p.b (takes (head (to_land p.a)) p.b) (same-takes (head (to_land p.a)) p.b) o.1)
  applied size (Lands B) p k u o = (by p.a (takes (head (to_land p.b)) p.a) (same-takes (head (to_land p.b)) p.a) o.0, by p.b (lands p.b) (refl, refl, refl) o.1)
  applied size (Completes A) p k u o = (by p.a (completes (head (to_complete p.a)) p.a) (same-completes (head (to_complete p.a)) p.a) o.0, o.1)
  applied size (Completes B) p k u o = (o.0, by p.b (completes (head (to_complete p.b)) p.b) (same-completes (head (to_complete p.b)) p.b) o.1)

  abbrev pub EachUp : List Item → Type 0
  EachUp [] = Unit {0}
  EachUp (item ∷ items) = Ups item × EachUp items

  module _ (posts : (depth : ℕ) (h : Half) → P h → P (settle depth h)) (first : (number : ℕ) → P (fresh number)) where
    pub throughout : (t : Terms) (items : List Item) → EachItem keeps_open items → EachUp items → P (pipe t items).a × P (pipe t items).b
    throughout t [] k u = (first t.number, first t.number)
    throughout t (item ∷ items) k u =
        let q = applied t.size item (pipe t items) k.0 u.0 (throughout t items k.1 u.1) in
        (posts t.depth (apply t.size item (pipe t items)).a q.0, posts t.depth (apply t.size item (pipe t items)).b q.1)

-- an end that is due is established
due-up : (up rest : Bool) (b : Bool) → ((up && b) && rest) ≡ true → up ≡ true
due-up true rest b e = refl
due-up false rest b e = e

pub is-up-where-due : (depth : ℕ) (h : Half) → is_due depth h ≡ true → h.up ≡ true
is-up-where-due depth h e = due-up h.up (has_link h.link h.live && (nat_lt (length h.flight) depth && not (tells_same (present h) h.last))) (not (is_group_gone h.phase)) e

by-due : (P : Half → Type 0) (h k : Half) (b due : Bool) → due ≡ b → (due ≡ true → P h) → P k → P (if b then h else k)
by-due P h k true due e p q = p e
by-due P h k false due e p q = q

-- nothing is sent before
abbrev IsIdle : Half → Type 0
IsIdle h = h.up ≡ false → h.sent ≡ []

idle-by : (h k : Half) → IsSame h k → IsIdle h → IsIdle k
idle-by h k s i f = s.2 ∙ i (sym s.0 ∙ f)

idle-up : (link : LinkId) (h : Half) → Unit {0} → IsIdle h → IsIdle (comes_up link h)
idle-up link h u i f = absurd (true≢false f)

idle-posts : (depth : ℕ) (h : Half) → IsIdle h → IsIdle (settle depth h)
idle-posts depth h i = by-due IsIdle (posts_batch h) h (is_due depth h) (is_due depth h) refl (λ e f. absurd (true≢false (sym (is-up-where-due depth h e) ∙ f))) i

any-up : (items : List Item) → EachUp IsIdle idle-by (λ _. Unit {0}) idle-up items
any-up [] = tt
any-up (Fate x link phase ∷ items) = (tt, any-up items)
any-up (GroupEnd x ∷ items) = (tt, any-up items)
any-up (Up x link ∷ items) = (tt, any-up items)
any-up (Calls x call ∷ items) = (tt, any-up items)
any-up (Lands x ∷ items) = (tt, any-up items)
any-up (Completes x ∷ items) = (tt, any-up items)

idle-half : (x : Side) (p : Pipe) → IsIdle p.a × IsIdle p.b → IsIdle (half x p)
idle-half A p i = i.0
idle-half B p i = i.1

-- an end that is not established has sent nothing
pub idle : (t : Terms) (x : Side) (items : List Item) → EachItem keeps_open items → (half x (pipe t items)).up ≡ false → (half x (pipe t items)).sent ≡ []
idle t x items k = idle-half x (pipe t items) (throughout IsIdle idle-by (λ _. Unit {0}) idle-up idle-posts (λ n e. refl) t items k (any-up items))

-- on its link
module _ (link : LinkId) where
  on-by : (h k : Half) → IsSame h k → IsOnLink link h → IsOnLink link k
  on-by h k s o = record { own = λ e. s.1 ∙ o.own (sym s.0 ∙ e); sent = subst (λ ms. EachOf (λ m. m.link ≡ link) ms) (sym s.2) o.sent }

  on-up : (l : LinkId) (h : Half) → l ≡ link → IsOnLink link h → IsOnLink link (comes_up l h)
  on-up l h u o = record { own = λ e. u; sent = o.sent }

  on-posts : (depth : ℕ) (h : Half) → IsOnLink link h → IsOnLink link (settle depth h)
  on-posts depth h o = by-due (IsOnLink link) (posts_batch h) h (is_due depth h) (is_due depth h) refl
      (λ e. record { own = o.own; sent = each-append (λ m. m.link ≡ link) h.sent (batch h) o.sent (o.own (is-up-where-due depth h e)) }) o

  ups-on : (items : List Item) → EachUpOn link items → EachUp (IsOnLink link) on-by (λ l. l ≡ link) on-up items
  ups-on [] u = tt
  ups-on (Fate x l phase ∷ items) u = (tt, ups-on items u)
  ups-on (GroupEnd x ∷ items) u = (tt, ups-on items u)
  ups-on (Up x l ∷ items) u = (u.0, ups-on items u.1)
  ups-on (Calls x call ∷ items) u = (tt, ups-on items u)
  ups-on (Lands x ∷ items) u = (tt, ups-on items u)
  ups-on (Completes x ∷ items) u = (tt, ups-on items u)

  on-half : (x : Side) (p : Pipe) → IsOnLink link p.a × IsOnLink link p.b → IsOnLink link (half x p)
  on-half A p i = i.0
  on-half B p i = i.1

  -- what an end has sent went on the link of its establishment
  pub on-link : (t : Terms) (x : Side) (items : List Item) → EachItem keeps_open items → EachUpOn link items → IsOnLink link (half x (pipe t items))
  on-link t x items k u = on-half x (pipe t items)
      (throughout (IsOnLink link) on-by (λ l. l ≡ link) on-up on-posts (λ n. record { own = λ e. absurd (true≢false (sym e)); sent = tt }) t items k (ups-on items u))

-- where no item of some news lands or completes a message of an end, its messages grow at their end alone
pub all-passed-by : (t : Terms) (x : Side) (news items : List Item) → EachItem (passes_by x) news → HasGone (half x (pipe t items)) (half x (pipe t (news ++ items))) (half x (pipe t items)).landed (half x (pipe t items)).completed
all-passed-by t x [] items k = gone-none (half x (pipe t items))
  where
    gone-none : (h : Half) → HasGone h h h.landed h.completed
    gone-none h = record { landed_is = refl; completed_is = refl; more = []; sent_is = sym (append-nil h.sent) }
all-passed-by t x (item ∷ news) items k =
    let g = all-passed-by t x news items k.1 in
    let s = passed-by t x item (pipe t (news ++ items)) k.0 in
    let m = gone-on (half x (pipe t items)) (half x (pipe t (news ++ items))) (half x (step t item (pipe t (news ++ items)))) _ _ _ _ g s in
    record { landed_is = m.landed_is ∙ g.landed_is; completed_is = m.completed_is ∙ g.completed_is; more = m.more; sent_is = m.sent_is }
