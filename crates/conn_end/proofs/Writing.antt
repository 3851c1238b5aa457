-- A write: how many bytes fit, and what is kept of them.
use Rattle.std.proofs.Common.{◌≡◌, ◌∙◌, ℕ, ◌+◌, ◌-◌, ◌≤◌, ◌==◌, Bool, true, false, ◌||◌, cond, List, [], ◌∷◌, ◌++◌, length, drop, take, min, None, refl, sym, ap, ap₂, subst, arith, length-take, true≢false}
use Rattle.std.specs.Prelude.{is_some}
use Rattle.std.proofs.lemmas.Bool.{eqb-true, eqb-false, ne_eqb}
use Rattle.std.proofs.lemmas.List.{length-append, drop-append-le}
use Rattle.cdc_ring.specs.Rings.{window as ring_window, accepts as ring_accepts}
use Rattle.cdc_ring.specs.Kept.{Kept as KeptRing, Represents as RingRepresents}
use Rattle.pipe_model.specs.declared.reply.Reply.TheVariants.{Wrote as SaysWrote, Full as SaysFull, Ended as SaysEnded}
use Rattle.pipe_model.specs.declared.snapshot.Snapshot.{Snapshot}
use Rattle.pipe_model.specs.Words.{is_nil}
use Rattle.pipe_model.specs.Closing.{cause_of}
use Rattle.pipe_model.specs.Ends.{Half, window}
use Rattle.pipe_model.specs.Calls.{Writes, Plain, is_ended, accepts, half_told}
use Rattle.conn_end.specs.Kept.{Course, at_course, ring_of, IsWhole}
use Rattle.conn_end.specs.declared.answers.EndReply.TheVariants.{Wrote, Full, Ended}
use Rattle.conn_end.specs.Told.{told_of, wrote_told, IsPlaced, Answers}
use Rattle.conn_end.proofs.Ends.{Stands, came, stands_there}

or_true : (a : Bool) → (a || true) ≡ true
or_true true = refl
or_true false = refl

-- an end that takes no bytes stays as it is
pub takes_none : (size : ℕ) (bytes : List ℕ) (h : Half) → is_ended h ≡ true → accepts size bytes h ≡ h
takes_none size bytes h e = ap (λ b. cond (is_some (cause_of h.phase) || b) h (record h { out = h.out ++ take (window size h) bytes })) e ∙ ap (λ b. cond b h (record h { out = h.out ++ take (window size h) bytes })) (or_true (is_some (cause_of h.phase)))

takes_some : (size : ℕ) (bytes : List ℕ) (h : Half) → cause_of h.phase ≡ None → is_ended h ≡ false → accepts size bytes h ≡ record h { out = h.out ++ take (window size h) bytes }
takes_some size bytes h none free = ap₂ (λ o b. cond (is_some o || b) h (record h { out = h.out ++ take (window size h) bytes })) none free

-- the window of the ring is the end's
pub window_is : (size : ℕ) (ring : KeptRing) (count : ℕ) (c : Course) (h : Half) → Stands size ring count c h → ring_window (ring_of size ring.bytes c) ≡ window size h
window_is size ring count c h s =
    ap₂ (λ n m. size - (n - m)) (s.whole.counted ∙ s.accepted) (ap₂ (λ (a b : Snapshot). min a.read b.told) s.taken s.fin)

-- what is kept after bytes were accepted
pub whole_written : (size : ℕ) (ring more : KeptRing) (count n : ℕ) (c : Course) (bytes : List ℕ) → IsWhole size ring count c → n ≡ min (length bytes) (ring_window (ring_of size ring.bytes c)) → RingRepresents more (ring_accepts bytes (ring_of size ring.bytes c)) → IsWhole size more (count + n) c
whole_written size ring more count n c bytes w fits stands =
    let w1 : length more.bytes ≡ length ring.bytes + min (ring_window (ring_of size ring.bytes c)) (length bytes) = ap length stands.bytes ∙ length-append ring.bytes (take (ring_window (ring_of size ring.bytes c)) bytes) ∙ ap (λ k. length ring.bytes + k) (length-take (ring_window (ring_of size ring.bytes c)) bytes) in
    record {
      few = w.few;
      most = w.most;
      climbs = w.climbs;
      last = w.last;
      reads = w.reads;
      ring = subst (λ bs. RingRepresents more (ring_of size bs c)) (sym stands.bytes) stands;
      counted = omega (arith, w.counted, w1, fits);
    }

pub written : (size : ℕ) (ring more : KeptRing) (count n : ℕ) (c : Course) (bytes : List ℕ) (h : Half) → Stands size ring count c h → cause_of c.phase ≡ None → is_ended (at_course c h) ≡ false → n ≡ min (length bytes) (ring_window (ring_of size ring.bytes c)) → RingRepresents more (ring_accepts bytes (ring_of size ring.bytes c)) → Stands size more (count + n) c (accepts size bytes h)
written size ring more count n c bytes h s none free fits stands =
    let w : ℕ = window size h in
    let same = window_is size ring count c h s in
    let out : List ℕ = h.out ++ take w bytes in
    let free' : is_ended h ≡ false = ap is_ended (sym (came size ring count c h s)) ∙ free in
    let none' : cause_of h.phase ≡ None = ap cause_of (sym s.phase) ∙ none in
    let len : length out ≡ length h.out + min w (length bytes) = length-append h.out (take w bytes) ∙ ap (λ k. length h.out + k) (length-take w bytes) in
    let low : c.fin.told ≤ length h.out = omega (arith, s.whole.counted, s.accepted) in
    stands_there size more (count + n) c (record h { out = out }) (accepts size bytes h)
    (whole_written size ring more count n c bytes s.whole fits stands)
    (omega (arith, s.accepted, len, fits, same))
    (stands.bytes ∙ ap₂ (λ (bs : List ℕ) k. bs ++ take k bytes) (s.bytes ∙ ap (λ (t : Snapshot). drop t.told h.out) (sym s.fin)) same ∙ sym (drop-append-le c.fin.told h.out (take w bytes) low))
    (ap (λ (q : Half). record q { out = out }) (came size ring count c h s) ∙ sym (takes_some size bytes h none' free'))

-- a list is empty where its length is 0
pub nil_is : (bytes : List ℕ) → (length bytes == 0) ≡ is_nil bytes
nil_is [] = refl
nil_is (b ∷ bytes) = ne_eqb (length (b ∷ bytes)) 0 (λ (e : length (b ∷ bytes) ≡ 0). omega (arith, e))

-- some bytes are one at least
some_bytes : (bytes : List ℕ) → is_nil bytes ≡ false → 1 ≤ length bytes
some_bytes [] e = absurd (true≢false e)
some_bytes (b ∷ bytes) e = omega arith

fits_told : (k n w rd : ℕ) (out : List ℕ) (b : Bool) → (w == 0) ≡ b → 1 ≤ k → n ≡ min k w → told_of (wrote_told n) rd out ≡ Plain (cond b SaysFull (SaysWrote (min k w)))
fits_told k n w rd out true none some is =
    let zero' : n ≡ 0 = omega (arith, eqb-true w 0 none, is) in ap (λ m. told_of (wrote_told m) rd out) zero'
fits_told k n w rd out false room some is =
    let more : (n ≡ 0 → ⊥) = λ (e : n ≡ 0). eqb-false w 0 room (omega (arith, e, is, some)) in
    ap (λ b. told_of (cond b Full (Wrote n)) rd out) (ne_eqb n 0 more) ∙ ap (λ m. Plain (SaysWrote m)) is

fits_placed : (size rd n : ℕ) (b : Bool) → (n == 0) ≡ b → IsPlaced size rd (cond b Full (Wrote n))
fits_placed size rd n true e = tt
fits_placed size rd n false e = tt

-- what a write is told that finds the end free
pub write_answers : (size n : ℕ) (bytes : List ℕ) (h : Half) → cause_of h.phase ≡ None → is_ended h ≡ false → is_nil bytes ≡ false → n ≡ min (length bytes) (window size h) → Answers size (Writes bytes) h (wrote_told n)
write_answers size n bytes h none free some is = record {
  told = λ peer_out.
      fits_told (length bytes) n (window size h) h.rd peer_out (window size h == 0) refl (some_bytes bytes some) is
      ∙ sym (ap (λ o. half_told size (Writes bytes) h peer_out o) none
      ∙ ap₂ (λ a b. Plain (cond a SaysEnded (cond b (SaysWrote 0) (cond (window size h == 0) SaysFull (SaysWrote (min (length bytes) (window size h))))))) free some);
  place = fits_placed size h.rd n (n == 0) refl;
}

-- what it is told where the end takes no more bytes, and where it has none
pub ended_answers : (size : ℕ) (bytes : List ℕ) (h : Half) → cause_of h.phase ≡ None → is_ended h ≡ true → Answers size (Writes bytes) h Ended
ended_answers size bytes h none ended = record {
  told = λ peer_out. sym (ap (λ o. half_told size (Writes bytes) h peer_out o) none
      ∙ ap (λ a. Plain (cond a SaysEnded (cond (is_nil bytes) (SaysWrote 0) (cond (window size h == 0) SaysFull (SaysWrote (min (length bytes) (window size h))))))) ended);
  place = tt;
}

pub nothing_answers : (size : ℕ) (bytes : List ℕ) (h : Half) → cause_of h.phase ≡ None → is_ended h ≡ false → is_nil bytes ≡ true → Answers size (Writes bytes) h (Wrote 0)
nothing_answers size bytes h none free nil = record {
  told = λ peer_out. sym (ap (λ o. half_told size (Writes bytes) h peer_out o) none
      ∙ ap₂ (λ a b. Plain (cond a SaysEnded (cond b (SaysWrote 0) (cond (window size h == 0) SaysFull (SaysWrote (min (length bytes) (window size h))))))) free nil);
  place = tt;
}
