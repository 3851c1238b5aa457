-- Each kind of item keeps what holds of the two ends. The end that acts comes first, its peer second.
use Rattle.std.proofs.Common.{◌≡◌, ◌∙◌, ℕ, ◌+◌, ◌-◌, ◌<◌, ◌≤◌, ◌⊎◌, inl, inr, min, max, Bool, true, false, List, [], ◌∷◌, ◌++◌, length, take, drop, refl, ap, sym, subst, arith, if◌then◌else◌, length-append, length-take, nat_lt, ltb-true, ltb-false, true≢false}
use Rattle.std.proofs.Math.Seq.{drop-append_seam}
use Rattle.smc_num.specs.declared.LinkId.{LinkId}
use Rattle.smc_num.specs.declared.LinkPhase.{LinkPhase}
use Rattle.smc_num.specs.declared.LinkPhase.TheVariants.{Unused, Pending, Live, Dead}
use Rattle.pipe_model.specs.declared.snapshot.Snapshot.{Snapshot}
use Rattle.pipe_model.specs.declared.reply.ResetCause.TheVariants.{PeerAbort, Gap}
use Rattle.smc_num.specs.Names.{head}
use Rattle.smc_num.specs.Numbers.{wire_number}
use Rattle.pipe_model.specs.Closing.{Phase, after_moving, after_completing, after_finish, after_close}
use Rattle.pipe_model.specs.Ends.{Half, Sent, is_over, is_due_for_move, window, unread, check, moves, lands, takes, takes_snapshot, validates, strikes, counts_completed, completes, to_land, to_complete, meets_fate, loses_group, comes_up, lowest_link}
use Rattle.pipe_model.specs.Calls.{accepts, reads, finishes, closes, aborts}
use Rattle.pipe_model.specs.Parts.{snapshots, Climbs, CountUp}
use Rattle.pipe_model.proofs.Pipes.Chains.{Under, Rises, Ascends, under-more, under-append, under-drop, ascends-less, ascends-tail, climbs-told, next-of}
use Rattle.pipe_model.proofs.Pipes.Sound.{AheadAt, AheadOf, Way, Both}

-- of two numbers the first is below the second, or it is not
pub lt-or : (a b : ℕ) → (a < b) ⊎ (b ≤ a)
lt-or a b = by (nat_lt a b) refl
  where
    by : (c : Bool) → nat_lt a b ≡ c → (a < b) ⊎ (b ≤ a)
    by true e = inl (ltb-true a b e)
    by false e = inr (ltb-false a b e)

module _ (size depth : ℕ) where
  -- one of two ends, whichever it is
  either : (h1 h2 k : Half) (b : Bool) → Both size depth h1 k → Both size depth h2 k → Both size depth (if b then h1 else h2) k
  either h1 h2 k true x y = x
  either h1 h2 k false x y = y

  -- fates touch no count and no message
  pub kept-fate : (h k : Half) (link : LinkId) (phase : LinkPhase) → Both size depth h k → Both size depth (meets_fate link phase h) k
  kept-fate h k link Unused b = b
  kept-fate h k link Pending b = b
  kept-fate h k link Live b = b
  kept-fate h k link Dead b = b

  pub kept-end : (h k : Half) → Both size depth h k → Both size depth (loses_group h) k
  kept-end h k b = b

  pub kept-up : (h k : Half) (link : LinkId) → Both size depth h k → Both size depth (comes_up link h) k
  kept-up h k link b = b

  -- a write
  accepted : (h k : Half) (bytes : List ℕ) → length bytes ≤ window size h → Way size depth h k → Way size depth (record h { out = h.out ++ bytes }) k
  accepted h k bytes fits w =
      let c = w.0 in
      let a = w.1 in
      let l : length (h.out ++ bytes) ≡ length h.out + length bytes = length-append h.out bytes in (
        record {
          fin_last = c.fin_last;
          last_out = omega (arith, c.last_out, l);
          fin_number = c.fin_number;
          last_number = c.last_number;
          last_read = c.last_read;
          window_fin = omega (arith, c.window_fin, c.window_taken, l, fits);
          window_taken = omega (arith, c.window_fin, c.window_taken, l, fits);
          taken_out = omega (arith, c.taken_out, l);
          rd_out = omega (arith, c.rd_out, l);
          taken_rd = c.taken_rd;
          rd_taken = c.rd_taken;
          taken_number = c.taken_number;
        },
        record {
          within = a.within;
          under = under-more h.number h.number (length h.out) (length (h.out ++ bytes)) h.rd h.rd h.sent (omega arith) (omega (arith, l)) (omega arith) a.under;
          ascends = a.ascends;
        },
        w.2,
        w.3,
      )

  pub kept-write : (h k : Half) (bytes : List ℕ) → Both size depth h k → Both size depth (accepts size bytes h) k
  kept-write h k bytes b =
      let fits : length (take (window size h) bytes) ≤ window size h = simp length-take (omega arith) in
      either h (record h { out = h.out ++ take (window size h) bytes }) k _ b (accepted h k (take (window size h) bytes) fits b.0, b.1)

  -- a read of so many bytes
  read-reaches : (rd k : ℕ) (s : Snapshot) → k ≤ s.told - rd → (s.aborted ≡ true) ⊎ (rd ≤ s.told) → (s.aborted ≡ true) ⊎ (rd + k ≤ s.told)
  read-reaches rd k s l (inl e) = inl e
  read-reaches rd k s l (inr e) = inr (omega arith)

  has-read : (h k : Half) (bytes : ℕ) → bytes ≤ unread h → Both size depth h k → Both size depth (record h { rd = h.rd + bytes }) k
  has-read h k bytes fits b =
      let w = b.0 in
      let v = b.1 in
      let c = w.0 in
      let a = w.1 in
      let d = v.0 in
      let e = v.1 in (
        (
          record {
            fin_last = c.fin_last;
            last_out = c.last_out;
            fin_number = c.fin_number;
            last_number = c.last_number;
            last_read = omega (arith, c.last_read);
            window_fin = c.window_fin;
            window_taken = c.window_taken;
            taken_out = c.taken_out;
            rd_out = c.rd_out;
            taken_rd = c.taken_rd;
            rd_taken = c.rd_taken;
            taken_number = c.taken_number;
          },
          record {
            within = a.within;
            under = under-more h.number h.number (length h.out) (length h.out) h.rd (h.rd + bytes) h.sent (omega arith) (omega arith) (omega arith) a.under;
            ascends = a.ascends;
          },
          w.2,
          w.3,
        ),
        (
          record {
            fin_last = d.fin_last;
            last_out = d.last_out;
            fin_number = d.fin_number;
            last_number = d.last_number;
            last_read = d.last_read;
            window_fin = d.window_fin;
            window_taken = d.window_taken;
            taken_out = d.taken_out;
            rd_out = omega (arith, d.rd_out, d.taken_out, fits);
            taken_rd = omega (arith, d.taken_rd);
            rd_taken = read-reaches h.rd bytes h.taken fits d.rd_taken;
            taken_number = d.taken_number;
          },
          record {
            within = e.within;
            under = e.under;
            ascends = ascends-less h.taken.number h.taken.number h.taken.read h.taken.read (max h.taken.told h.rd) (max h.taken.told (h.rd + bytes)) (drop k.landed k.sent) (omega arith) (omega arith) (omega (arith, fits)) e.ascends;
          },
          v.2,
          v.3,
        ),
      )

  pub kept-read : (h k : Half) (bytes : ℕ) → Both size depth h k → Both size depth (reads bytes h) k
  kept-read h k bytes b = either h (record h { rd = h.rd + min bytes (unread h) }) k _ b (has-read h k (min bytes (unread h)) (omega arith) b)

  pub kept-finish : (h k : Half) → Both size depth h k → Both size depth (finishes h) k
  kept-finish h k b = either h (record h { finished = true; phase = after_finish h.phase }) k _ b b

  pub kept-close : (h k : Half) → Both size depth h k → Both size depth (closes h) k
  kept-close h k b = either h (record h { finished = true; phase = after_close h.phase }) k _ b b

  pub kept-abort : (h k : Half) → Both size depth h k → Both size depth (aborts h) k
  kept-abort h k b = b

  -- a move: whatever was sent before it is out of reach, and nothing is under way
  moved : (h k : Half) (link : LinkId) (phase : Phase) (c : Sent) → c.check ≡ true → c.snapshot.number ≡ h.fin.number → c.snapshot.told ≡ h.fin.told → c.snapshot.read ≡ h.rd → Both size depth h k →
      Both size depth (record h { link = link; last = h.fin; flight = []; phase = phase; sent = h.sent ++ c ∷ []; landed = length h.sent; completed = length h.sent }) k
  moved h k link phase r is_check e f g b =
      let w = b.0 in
      let c = w.0 in
      let a = w.1 in
      let fl = w.2 in
      let t = climbs-told h.fin h.last h.flight fl.climbs in
      let l : length (h.sent ++ r ∷ []) ≡ length h.sent + 1 = length-append h.sent (r ∷ []) in
      let d : drop (length h.sent) (h.sent ++ r ∷ []) ≡ r ∷ [] = drop-append_seam h.sent (r ∷ []) in
      let none : snapshots (r ∷ []) ≡ [] = ap (λ q. if q then [] else r.snapshot ∷ []) is_check in (
        (
          record {
            fin_last = omega arith;
            last_out = omega (arith, c.fin_last, c.last_out);
            fin_number = omega arith;
            last_number = omega (arith, c.fin_number, c.last_number);
            last_read = omega (arith, t.1, c.last_read);
            window_fin = c.window_fin;
            window_taken = c.window_taken;
            taken_out = c.taken_out;
            rd_out = c.rd_out;
            taken_rd = c.taken_rd;
            rd_taken = c.rd_taken;
            taken_number = c.taken_number;
          },
          record {
            within = omega (arith, l);
            under = under-append h.number (length h.out) h.rd h.sent r a.under (omega (arith, e, c.fin_number, c.last_number)) (omega (arith, f, c.fin_last, c.last_out)) (omega (arith, g));
            ascends = subst (λ ms. Ascends k.taken.number k.taken.read (max k.taken.told k.rd) ms) (sym d) (inl (is_check, tt));
          },
          record {
            within = omega (arith, l);
            is = sym (ap (λ ms. snapshots ms) d ∙ none);
            climbs = refl;
            numbered = tt;
            few = omega arith;
          },
          omega arith,
        ),
        b.1,
      )

  move-by : (h k : Half) (b : Bool) → Both size depth h k →
      Both size depth (if b then record h { link = lowest_link h; last = h.fin; flight = []; phase = after_moving h.phase; sent = h.sent ++ check h ∷ []; landed = length h.sent; completed = length h.sent } else h) k
  move-by h k true b = moved h k (lowest_link h) (after_moving h.phase) (check h) refl refl refl refl b
  move-by h k false b = b

  pub kept-move : (h k : Half) → Both size depth h k → Both size depth (moves h) k
  kept-move h k b = move-by h k (is_due_for_move h) b

  -- the message that is to land, and what stands after it
  pub next-ascends : (h k : Half) (r : Sent) → drop h.landed h.sent ≡ r ∷ drop (h.landed + 1) h.sent → Both size depth h k → Ascends k.taken.number k.taken.read (max k.taken.told k.rd) (r ∷ drop (h.landed + 1) h.sent)
  next-ascends h k r d b = let a = b.0 in let c = a.1 in subst (λ ms. Ascends k.taken.number k.taken.read (max k.taken.told k.rd) ms) d c.ascends

  pub next-under : (h k : Half) (r : Sent) → drop h.landed h.sent ≡ r ∷ drop (h.landed + 1) h.sent → Both size depth h k → Under h.number (length h.out) h.rd (r ∷ drop (h.landed + 1) h.sent)
  next-under h k r d b = let a = b.0 in let c = a.1 in subst (λ ms. Under h.number (length h.out) h.rd ms) d (under-drop h.number (length h.out) h.rd h.landed h.sent c.under)

  -- it is passed over
  passed : (h k : Half) (r : Sent) → h.landed < length h.sent → drop h.landed h.sent ≡ r ∷ drop (h.landed + 1) h.sent → Both size depth h k → Both size depth (lands h) k
  passed h k r more d b =
      let w = b.0 in
      let a = w.1 in (
        (
          w.0,
          record {
            within = omega (arith, more);
            under = a.under;
            ascends = ascends-tail k.taken.number k.taken.read (max k.taken.told k.rd) r (drop (h.landed + 1) h.sent) (next-ascends h k r d b);
          },
          w.2,
          omega (arith, w.3),
        ),
        b.1,
      )

  -- it is taken
  rises-of : (number read reach : ℕ) (r : Sent) (ms : List Sent) → r.check ≡ false → Ascends number read reach (r ∷ ms) → Rises number read reach r.snapshot × Ascends r.snapshot.number r.snapshot.read (max reach r.snapshot.told) ms
  rises-of number read reach r ms e (inl a) = absurd (true≢false (sym a.0 ∙ e))
  rises-of number read reach r ms e (inr a) = (a.1, a.2)

  taken-reach : (told rd : ℕ) (s : Snapshot) → (s.aborted ≡ true) ⊎ (max told rd ≤ s.told) → (s.aborted ≡ true) ⊎ (rd ≤ s.told)
  taken-reach told rd s (inl e) = inl e
  taken-reach told rd s (inr e) = inr (omega arith)

  taken : (h k : Half) (r : Sent) → r.check ≡ false → h.landed < length h.sent → drop h.landed h.sent ≡ r ∷ drop (h.landed + 1) h.sent → Both size depth h k →
      Both size depth (lands h) (record k { taken = r.snapshot })
  taken h k r e more d b =
      let w = b.0 in
      let v = b.1 in
      let c = w.0 in
      let a = w.1 in
      let g = v.0 in
      let u = next-under h k r d b in
      let rest : List Sent = drop (h.landed + 1) h.sent in
      let s : Snapshot = r.snapshot in
      let q = rises-of k.taken.number k.taken.read (max k.taken.told k.rd) r rest e (next-ascends h k r d b) in
      let p = q.0 in (
        (
          record {
            fin_last = c.fin_last;
            last_out = c.last_out;
            fin_number = c.fin_number;
            last_number = c.last_number;
            last_read = c.last_read;
            window_fin = c.window_fin;
            window_taken = c.window_taken;
            taken_out = u.1;
            rd_out = c.rd_out;
            taken_rd = c.taken_rd;
            rd_taken = taken-reach k.taken.told k.rd s p.2;
            taken_number = u.0;
          },
          record {
            within = omega (arith, more);
            under = a.under;
            ascends = ascends-less s.number s.number s.read s.read (max (max k.taken.told k.rd) s.told) (max s.told k.rd) rest (omega arith) (omega arith) (omega arith) q.1;
          },
          w.2,
          omega (arith, w.3),
        ),
        (
          record {
            fin_last = g.fin_last;
            last_out = g.last_out;
            fin_number = g.fin_number;
            last_number = g.last_number;
            last_read = g.last_read;
            window_fin = g.window_fin;
            window_taken = omega (arith, g.window_taken, p.1);
            taken_out = g.taken_out;
            rd_out = g.rd_out;
            taken_rd = u.2;
            rd_taken = g.rd_taken;
            taken_number = g.taken_number;
          },
          v.1,
          v.2,
          v.3,
        ),
      )

  either-peer : (h k1 k2 : Half) (b : Bool) → Both size depth h k1 → Both size depth h k2 → Both size depth h (if b then k1 else k2)
  either-peer h k1 k2 true x y = x
  either-peer h k1 k2 false x y = y

  landed-by : (h k : Half) (r : Sent) (over is_check : Bool) → r.check ≡ is_check → h.landed < length h.sent → drop h.landed h.sent ≡ r ∷ drop (h.landed + 1) h.sent → Both size depth h k →
      Both size depth (lands h) (if over then k else if is_check then validates r.snapshot.number k else takes_snapshot r.snapshot k)
  landed-by h k r true is_check e more d b = passed h k r more d b
  landed-by h k r false true e more d b =
      let f = passed h k r more d b in
      either-peer (lands h) (strikes (Gap (wire_number r.snapshot.number) (wire_number k.taken.number)) k) k _ f f
  landed-by h k r false false e more d b =
      let f = taken h k r e more d b in
      either-peer (lands h) (strikes PeerAbort (record k { taken = r.snapshot })) (record k { taken = r.snapshot }) _ f f

  pub kept-landing : (h k : Half) → h.landed < length h.sent → Both size depth h k → Both size depth (lands h) (takes (head (to_land h)) k)
  kept-landing h k more b =
      let next = next-of h.landed h.sent more in
      subst (λ o. Both size depth (lands h) (takes o k)) (sym (ap (λ ms. head ms) next.1)) (landed-by h k next.0 (is_over k) next.0.check refl more next.1 b)

  -- what completes has landed, or is passed over as it is swallowed
  counted-by : (h k : Half) → (h.completed < h.landed) ⊎ (h.landed ≤ h.completed) → h.completed < length h.sent → Both size depth h k → AheadAt (max h.landed (h.completed + 1)) h k
  counted-by h k (inl l) more b =
      let w = b.0 in
      let e : h.landed ≡ max h.landed (h.completed + 1) = omega arith in
      subst (λ n. AheadAt n h k) e w.1
  counted-by h k (inr l) more b =
      let w = b.0 in
      let more2 : h.landed < length h.sent = omega (arith, l, more) in
      let next = next-of h.landed h.sent more2 in
      let p = passed h k next.0 more2 next.1 b in
      let v = p.0 in
      let e : h.landed + 1 ≡ max h.landed (h.completed + 1) = omega (arith, w.3, l) in
      subst (λ n. AheadAt n h k) e v.1

  -- the head of the flight
  pub head-of : (rest : List Snapshot) (flight : List Snapshot) (is_check : Bool) (s : Snapshot) → is_check ≡ false → flight ≡ (if is_check then rest else s ∷ rest) → flight ≡ s ∷ rest
  head-of rest flight is_check s e f = f ∙ ap (λ b. if b then rest else s ∷ rest) e

  completed : (h k : Half) (phase : Phase) (r : Sent) → r.check ≡ false → h.completed < length h.sent → drop h.completed h.sent ≡ r ∷ drop (h.completed + 1) h.sent →
      AheadOf (counts_completed h) k → Both size depth h k →
      Both size depth (record (counts_completed h) { fin = r.snapshot; flight = drop 1 h.flight; phase = phase }) k
  completed h k phase r e more d a b =
      let w = b.0 in
      let c = w.0 in
      let f = w.2 in
      let s : Snapshot = r.snapshot in
      let rest : List Snapshot = snapshots (drop (h.completed + 1) h.sent) in
      let i : h.flight ≡ s ∷ rest = head-of rest h.flight r.check s e (f.is ∙ ap (λ ms. snapshots ms) d) in
      let climbs = subst (λ ss. Climbs h.fin ss h.last) i f.climbs in
      let numbered = subst (λ ss. CountUp ss h.number) i f.numbered in
      let tail : drop 1 h.flight ≡ rest = ap (λ ss. drop 1 ss) i in
      let few : length (s ∷ rest) ≤ depth = subst (λ ss. length ss ≤ depth) i f.few in
      let t = climbs-told s h.last rest climbs.1 in
      let first = climbs.0 in (
        (
          record {
            fin_last = t.0;
            last_out = c.last_out;
            fin_number = t.2;
            last_number = c.last_number;
            last_read = c.last_read;
            window_fin = omega (arith, c.window_fin, first.1);
            window_taken = c.window_taken;
            taken_out = c.taken_out;
            rd_out = c.rd_out;
            taken_rd = c.taken_rd;
            rd_taken = c.rd_taken;
            taken_number = c.taken_number;
          },
          a,
          record {
            within = omega (arith, more);
            is = tail;
            climbs = subst (λ ss. Climbs s ss h.last) (sym tail) climbs.1;
            numbered = subst (λ ss. CountUp ss h.number) (sym tail) numbered.1;
            few = subst (λ ss. length ss ≤ depth) (sym tail) (omega (arith, few));
          },
          omega arith,
        ),
        b.1,
      )

  confirmed : (h k : Half) (r : Sent) → r.check ≡ true → h.completed < length h.sent → drop h.completed h.sent ≡ r ∷ drop (h.completed + 1) h.sent → AheadOf (counts_completed h) k → Both size depth h k →
      Both size depth (counts_completed h) k
  confirmed h k r e more d a b =
      let w = b.0 in
      let f = w.2 in
      let rest : List Snapshot = snapshots (drop (h.completed + 1) h.sent) in (
        (
          w.0,
          a,
          record {
            within = omega (arith, more);
            is = f.is ∙ ap (λ ms. snapshots ms) d ∙ ap (λ q. if q then rest else r.snapshot ∷ rest) e;
            climbs = f.climbs;
            numbered = f.numbered;
            few = f.few;
          },
          omega arith,
        ),
        b.1,
      )

  completes-by : (h k : Half) (r : Sent) (is_check : Bool) → r.check ≡ is_check → h.completed < length h.sent → drop h.completed h.sent ≡ r ∷ drop (h.completed + 1) h.sent → AheadOf (counts_completed h) k → Both size depth h k →
      Both size depth (if is_check then counts_completed h else record (counts_completed h) { fin = r.snapshot; flight = drop 1 h.flight; phase = after_completing r.snapshot h.phase }) k
  completes-by h k r true e more d a b = confirmed h k r e more d a b
  completes-by h k r false e more d a b = completed h k (after_completing r.snapshot h.phase) r e more d a b

  pub kept-completion : (h k : Half) → h.completed < length h.sent → Both size depth h k → Both size depth (completes (head (to_complete h)) h) k
  kept-completion h k more b =
      let next = next-of h.completed h.sent more in
      let a = counted-by h k (lt-or h.completed h.landed) more b in
      subst (λ o. Both size depth (completes o h) k) (sym (ap (λ ms. head ms) next.1)) (completes-by h k next.0 next.0.check refl more next.1 a b)

-- the snapshot that is next to complete is the oldest of the flight, and tells no less than the last one that completed
pub next-completes : (size depth : ℕ) (h k : Half) (r : Sent) → r.check ≡ false → drop h.completed h.sent ≡ r ∷ drop (h.completed + 1) h.sent → Both size depth h k →
    (h.flight ≡ r.snapshot ∷ snapshots (drop (h.completed + 1) h.sent)) × (h.fin.told ≤ r.snapshot.told) × (r.snapshot.told ≤ length h.out)
next-completes size depth h k r e d b =
    let w = b.0 in
    let c = w.0 in
    let f = w.2 in
    let rest : List Snapshot = snapshots (drop (h.completed + 1) h.sent) in
    let i : h.flight ≡ r.snapshot ∷ rest = head-of size depth rest h.flight r.check r.snapshot e (f.is ∙ ap (λ ms. snapshots ms) d) in
    let climbs = subst (λ ss. Climbs h.fin ss h.last) i f.climbs in
    let first = climbs.0 in
    let t = climbs-told r.snapshot h.last rest climbs.1 in
    (i, first.1, omega (arith, t.0, c.last_out))
