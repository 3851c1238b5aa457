-- How an end of a private pipe comes to be reset: it aborts, its group ends, or it takes an abort or a gap of its peer; over any items.
use Rattle.std.proofs.Common.{Bool, [], ap, false, if◌then◌else◌, inl, inr, min, refl, subst, take, true, ℕ, ◌++◌, ◌+◌, ◌||◌, ◌∷◌, ◌≡◌, ◌⊎◌}
use Rattle.std.specs.Prelude.{None, Option, Some, is_some, drop, length}
use Rattle.pipe_model.specs.Pipe.{Lands}
use Rattle.pipe_model.specs.Calls.{Moves}
use Rattle.pipe_model.specs.Closing.{abort_told, ended_with}
use Rattle.pipe_model.specs.Ends.{present, takes}
use Rattle.pipe_model.specs.declared.reply.ResetCause.{ResetCause}
use Rattle.pipe_model.specs.declared.reply.ResetCause.TheVariants.{OwnAbort}
use Rattle.pipe_model.specs.declared.sent.Sent.{Sent}
use Rattle.smc_num.specs.declared.LinkPhase.TheVariants.{Live as LiveLink}
use Rattle.history_laws.specs.Words.{A, Aborts, Awaits, B, Call, Calls, Closes, Completes, Dead, Done, Fate, Finishes, Gap, GroupEnd, Half, Item, LinkId, LinkPhase, NoLiveLink, PeerAbort, Pending, Pipe, Reads, Side, Terms, Unused, Up, Writes, after_close, after_completing, after_finish, after_moving, apply, calls, cause_of, check, completes, counts_completed, half, head, is_due, is_due_for_move, is_ended, is_over, lowest_link, meets_fate, other, posts_batch, settle, shows_gap, step, strikes, takes_snapshot, to_complete, to_land, unread, validates, window, wire_number}
use Rattle.history_laws.proofs.Basics.{settled-half}
use Rattle.wire_laws.proofs.Causes.Phases.{Has, abort-new, close-new, completing-new, ended-new, finish-new, is_open, moving-new, posting-new, struck-new}

-- that a message of its peer strikes an end, which is open and not over: it tells aborted, or validates and shows a gap
pub record IsTaken (m : Sent) (h : Half) (c : ResetCause) : Type 0 where
  pub over : is_over h ≡ false
  pub stood : is_open h.phase ≡ true
  pub told : ((m.check ≡ false) × ((m.snapshot.aborted ≡ true) × (c ≡ PeerAbort))) ⊎ ((m.check ≡ true) × ((shows_gap m.snapshot.number h.taken.number ≡ true) × (c ≡ Gap (wire_number m.snapshot.number) (wire_number h.taken.number))))

-- how the end at a side is reset with an item
pub data IsStruck (x : Side) (item : Item) (p : Pipe) (c : ResetCause) : Type 0 where
  ByCall : item ≡ Calls x Aborts → c ≡ OwnAbort → abort_told (half x p).phase ≡ Done → IsStruck x item p c
  ByEnd : item ≡ GroupEnd x → c ≡ NoLiveLink (half x p).link.group → IsStruck x item p c
  ByMessage : item ≡ Lands (other x) → (m : Sent) → head (to_land (half (other x) p)) ≡ Some m → IsTaken m (half x p) c → IsStruck x item p c

-- one of two ends
pick : (c : ResetCause) (R : Type 0) (b : Bool) (h k : Half) → (Has c h.phase → R) → (Has c k.phase → R) → Has c (if b then h else k).phase → R
pick c R true h k f g e = f e
pick c R false h k f g e = g e

-- one of two ends, with the test
pick-by : (c : ResetCause) (R : Type 0) (b : Bool) (h k : Half) → (b ≡ true → Has c h.phase → R) → (b ≡ false → Has c k.phase → R) → Has c (if b then h else k).phase → R
pick-by c R true h k f g e = f refl e
pick-by c R false h k f g e = g refl e

module _ (c : ResetCause) where
  calls-new : (size : ℕ) (call : Call) (h : Half) → Has c (calls size call h).phase → Has c h.phase ⊎ ((call ≡ Aborts) × ((c ≡ OwnAbort) × (abort_told h.phase ≡ Done)))
  calls-new size (Writes bytes) h e = pick c _ (is_some (cause_of h.phase) || is_ended h) h (record h { out = h.out ++ take (window size h) bytes }) inl inl e
  calls-new size (Reads n) h e = pick c _ _ h (record h { rd = h.rd + min n (unread h) }) inl inl e
  calls-new size Finishes h e = pick c _ _ h (record h { finished = true; phase = after_finish h.phase }) inl (λ f. inl (finish-new c h.phase f)) e
  calls-new size Closes h e = pick c _ _ h (record h { finished = true; phase = after_close h.phase }) inl (λ f. inl (close-new c h.phase f)) e
  calls-new size Aborts h e = elim (abort-new c h.phase e) [ inl f ↦ inl f | inr q ↦ inr (refl, q) ]
  calls-new size Awaits h e = inl e
  calls-new size Moves h e =
      pick c _ (is_due_for_move h) (record h { link = lowest_link h; last = h.fin; flight = []; phase = after_moving h.phase; sent = h.sent ++ check h ∷ []; landed = length h.sent; completed = length h.sent }) h (λ f. inl (moving-new c h.phase f)) inl e

  fate-new : (link : LinkId) (phase : LinkPhase) (h : Half) → Has c (meets_fate link phase h).phase → Has c h.phase
  fate-new link Unused h e = e
  fate-new link Pending h e = e
  fate-new link LiveLink h e = e
  fate-new link Dead h e = e

  taken-new : (o : Option Sent) (h : Half) → Has c (takes o h).phase → Has c h.phase ⊎ ((m : Sent) × ((o ≡ Some m) × IsTaken m h c))
  taken-new None h e = inl e
  taken-new (Some m) h e = pick-by c _ (is_over h) h (if m.check then validates m.snapshot.number h else takes_snapshot m.snapshot h) (λ q f. inl f)
      (λ q f. pick-by c _ m.check (validates m.snapshot.number h) (takes_snapshot m.snapshot h)
      (λ r g. pick-by c _ (shows_gap m.snapshot.number h.taken.number) (strikes (Gap (wire_number m.snapshot.number) (wire_number h.taken.number)) h) h
      (λ s i. elim (struck-new c (Gap (wire_number m.snapshot.number) (wire_number h.taken.number)) h.phase i) [
        | inl j ↦ inl j
        | inr j ↦ inr (m, (refl, record { over = q; stood = j.1; told = inr (r, (s, j.0)) }))
      ]) (λ s i. inl i) g)
      (λ r g. pick-by c _ m.snapshot.aborted (strikes PeerAbort (record h { taken = m.snapshot })) (record h { taken = m.snapshot })
      (λ s i. elim (struck-new c PeerAbort h.phase i) [
        | inl j ↦ inl j
        | inr j ↦ inr (m, (refl, record { over = q; stood = j.1; told = inl (r, (s, j.0)) }))
      ]) (λ s i. inl i) g) f) e

  completes-new : (o : Option Sent) (h : Half) → Has c (completes o h).phase → Has c h.phase
  completes-new None h e = e
  completes-new (Some m) h e = pick c _ m.check (counts_completed h) (record (counts_completed h) { fin = m.snapshot; flight = drop 1 h.flight; phase = after_completing m.snapshot h.phase }) (λ f. f) (λ f. completing-new c m.snapshot h.phase f) e

  called : (size : ℕ) (x : Side) (call : Call) (p : Pipe) → Has c (calls size call (half x p)).phase → Has c (half x p).phase ⊎ IsStruck x (Calls x call) p c
  called size x call p e = elim (calls-new size call (half x p) e) [
    | inl f ↦ inl f
    | inr q ↦ (let r = q.1 in inr (ByCall (ap (λ k. Calls x k) q.0) r.0 r.1))
  ]

  ended : (x : Side) (p : Pipe) → Has c (ended_with (half x p).link.group (half x p).phase) → Has c (half x p).phase ⊎ IsStruck x (GroupEnd x) p c
  ended x p e = elim (ended-new c (half x p).link.group (half x p).phase e) [
    | inl f ↦ inl f
    | inr q ↦ inr (ByEnd refl q)
  ]

  taken : (x : Side) (p : Pipe) → Has c (takes (head (to_land (half (other x) p))) (half x p)).phase → Has c (half x p).phase ⊎ IsStruck x (Lands (other x)) p c
  taken x p e = elim (taken-new (head (to_land (half (other x) p))) (half x p) e) [
    | inl f ↦ inl f
    | inr q ↦ (let r = q.1 in inr (ByMessage refl q.0 r.0 r.1))
  ]

  item-new : (size : ℕ) (x : Side) (item : Item) (p : Pipe) → Has c (half x (apply size item p)).phase → Has c (half x p).phase ⊎ IsStruck x item p c
  item-new size A (Fate A link phase) p e = inl (fate-new link phase p.a e)
  item-new size A (GroupEnd A) p e = ended A p e
  item-new size A (Calls A call) p e = called size A call p e
  item-new size A (Lands B) p e = taken A p e
  item-new size A (Completes A) p e = inl (completes-new (head (to_complete p.a)) p.a e)
  item-new size A (Fate B link phase) p e = inl e
  item-new size A (GroupEnd B) p e = inl e
  item-new size A (Up A link) p e = inl e
  item-new size A (Up B link) p e = inl e
  item-new size A (Calls B call) p e = inl e
  item-new size A (Lands A) p e = inl e
  item-new size A (Completes B) p e = inl e
  item-new size B (Fate B link phase) p e = inl (fate-new link phase p.b e)
  item-new size B (GroupEnd B) p e = ended B p e
  item-new size B (Calls B call) p e = called size B call p e
  item-new size B (Lands A) p e = taken B p e
  item-new size B (Completes B) p e = inl (completes-new (head (to_complete p.b)) p.b e)
  item-new size B (Fate A link phase) p e = inl e
  item-new size B (GroupEnd A) p e = inl e
  item-new size B (Up A link) p e = inl e
  item-new size B (Up B link) p e = inl e
  item-new size B (Calls A call) p e = inl e
  item-new size B (Lands B) p e = inl e
  item-new size B (Completes A) p e = inl e

  settled-new : (depth : ℕ) (h : Half) → Has c (settle depth h).phase → Has c h.phase
  settled-new depth h e = pick c _ (is_due depth h) (posts_batch h) h (λ f. posting-new c (present h) h.phase f) (λ f. f) e

  -- with an item the end at a side is reset only so
  pub strike : (t : Terms) (x : Side) (item : Item) (p : Pipe) → Has c (half x (step t item p)).phase → Has c (half x p).phase ⊎ IsStruck x item p c
  strike t x item p e = item-new t.size x item p (settled-new t.depth (half x (apply t.size item p)) (subst (λ (h : Half). Has c h.phase) (settled-half t x item p) e))
