-- The bytes that an open end was told have landed without a hole, where all validation messages were near.
use Rattle.std.proofs.Common.{◌≡◌, ◌∙◌, ℕ, ◌+◌, ◌==◌, ◌<◌, ◌≤◌, ◌⊎◌, inl, inr, min, max, nat_lt, Bool, true, false, not, List, [], ◌∷◌, ◌++◌, length, take, drop, refl, ap, sym, subst, arith, if◌then◌else◌, ◌||◌, ◌&&◌, true≢false, ltb-true}
use Rattle.std.specs.Prelude.{Some, is_some}
use Rattle.std.proofs.lemmas.List.{drop-append-le}
use Rattle.std.proofs.Math.Seq.{drop-append_seam}
use Rattle.std.proofs.lemmas.Bool.{eq-eqb, or_right}
use Rattle.smc_num.specs.declared.Side.{Side}
use Rattle.smc_num.specs.declared.Side.TheVariants.{A, B}
use Rattle.smc_num.specs.declared.LinkId.{LinkId}
use Rattle.smc_num.specs.declared.LinkPhase.{LinkPhase}
use Rattle.smc_num.specs.declared.LinkPhase.TheVariants.{Unused, Pending, Live, Dead}
use Rattle.smc_num.specs.Names.{other, head}
use Rattle.smc_num.specs.Numbers.{wire_number}
use Rattle.pipe_model.specs.declared.reply.ResetCause.TheVariants.{PeerAbort, Gap}
use Rattle.pipe_model.specs.declared.snapshot.Snapshot.{Snapshot}
use Rattle.pipe_model.specs.Snapshot.{shows_gap, is_near}
use Rattle.pipe_model.specs.Closing.{Phase, cause_of, ended_with, after_finish, after_close, after_abort, after_posting, after_completing, after_moving}
use Rattle.pipe_model.specs.Ends.{Half, Sent, fresh, settle, is_due, is_over, is_due_for_move, meets_fate, loses_group, takes, takes_snapshot, validates, strikes, lands, completes, counts_completed, check, lowest_link, present, batch, posts_batch, window, unread, to_land, to_complete}
use Rattle.pipe_model.specs.Calls.{Call, Writes, Reads, Finishes, Closes, Aborts, Awaits, Moves, calls, is_ended}
use Rattle.pipe_model.specs.Pipe.{Pipe, Terms, Item, Fate, GroupEnd, Up, Calls, Lands, Completes, half, pipe, apply, is_near_at, lands_near, is_near_part}
use Rattle.pipe_model.specs.Parts.{actor, CanFollow, IsFeasible, broken_after, is_broken, covered_after, covered, is_shut, Climbs, snapshots, MayTake, HasAllTold, GoesOn}
use Rattle.pipe_model.proofs.Pipes.Chains.{next-of, rest-of}
use Rattle.pipe_model.proofs.Pipes.Sound.{Both}
use Rattle.pipe_model.proofs.Pipes.Items.{lt-or, next-completes}
use Rattle.pipe_model.proofs.Pipes.Parts.{BothOf, both, both-after}
use Rattle.pipe_model.proofs.Pipes.Facts.{may-take}
use Rattle.pipe_model.proofs.Pipes.Shuts.{ShutOf, shut-of, over-shut, and-parts, finish-shut, close-shut, abort-shut, struck-shut, ended-shut, posting-shut, completing-shut, moving-shut}
use Rattle.pipe_model.proofs.Pipes.Near.{no-gap}
use Rattle.pipe_model.proofs.Pipes.Joins.{Comes, Behind, comes-append, comes-snapshot, comes-check, behind-append, behind-first, behind-rest, climbs-behind, in-flight}

-- of an end that sends and its peer: the bytes that have landed, and the messages that are to land
pub record Whole (broken : Bool) (covered : ℕ) (queue : List Sent) (last : ℕ) (fin : Snapshot) (flight : List Snapshot) (peer_phase : Phase) (peer_taken : Snapshot) : Type 0 where
  pub behind : Behind peer_taken fin flight
  pub comes : (is_shut peer_phase ≡ true) ⊎ ((covered ≡ peer_taken.told) × ((broken ≡ true) ⊎ Comes peer_taken queue last))

abbrev pub WholeOf : Bool → ℕ → Half → Half → Type 0
WholeOf b c h k = Whole b c (to_land h) h.last.told h.fin h.flight k.phase k.taken

abbrev pub WholeBoth : Bool → ℕ → Bool → ℕ → Half → Half → Type 0
WholeBoth b c d e h k = WholeOf b c h k × WholeOf d e k h

either : (b : Bool) (c : ℕ) (d : Bool) (e : ℕ) (h1 h2 k : Half) (i : Bool) → WholeBoth b c d e h1 k → WholeBoth b c d e h2 k → WholeBoth b c d e (if i then h1 else h2) k
either b c d e h1 h2 k true x y = x
either b c d e h1 h2 k false x y = y

either-peer : (b : Bool) (c : ℕ) (d : Bool) (e : ℕ) (h k1 k2 : Half) (i : Bool) → WholeBoth b c d e h k1 → WholeBoth b c d e h k2 → WholeBoth b c d e h (if i then k1 else k2)
either-peer b c d e h k1 k2 true x y = x
either-peer b c d e h k1 k2 false x y = y

-- the taker's phase changes so that a shut end stays so
reshut : (b : Bool) (c : ℕ) (h k : Half) (q : Phase) → (is_shut k.phase ≡ true → is_shut q ≡ true) → WholeOf b c h k → WholeOf b c h (record k { phase = q })
reshut b c h k q f w = record { behind = w.behind; comes = by w.comes }
  where
    by : (is_shut k.phase ≡ true) ⊎ ((c ≡ k.taken.told) × ((b ≡ true) ⊎ Comes k.taken (to_land h) h.last.told)) → (is_shut q ≡ true) ⊎ ((c ≡ k.taken.told) × ((b ≡ true) ⊎ Comes k.taken (to_land h) h.last.told))
    by (inl e) = inl (f e)
    by (inr e) = inr e

-- the way may break
rebroken : (b b2 : Bool) (c : ℕ) (h k : Half) → (b ≡ true → b2 ≡ true) → WholeOf b c h k → WholeOf b2 c h k
rebroken b b2 c h k f w = record { behind = w.behind; comes = by w.comes }
  where
    by : (is_shut k.phase ≡ true) ⊎ ((c ≡ k.taken.told) × ((b ≡ true) ⊎ Comes k.taken (to_land h) h.last.told)) → (is_shut k.phase ≡ true) ⊎ ((c ≡ k.taken.told) × ((b2 ≡ true) ⊎ Comes k.taken (to_land h) h.last.told))
    by (inl e) = inl e
    by (inr (e, inl g)) = inr (e, inl (f g))
    by (inr (e, inr g)) = inr (e, inr g)

-- posting
from-by : (b : Bool) (told last : ℕ) → (b ≡ true) ⊎ ((if b then told else last) ≤ last)
from-by true told last = inl refl
from-by false told last = inr (omega arith)

posted : (size depth : ℕ) (b : Bool) (c : ℕ) (h k : Half) → Both size depth h k → WholeOf b c h k → WholeOf b c (posts_batch h) k
posted size depth b c h k both w =
    let v = both.0 in
    let n = v.0 in
    let a = v.1 in
    let d : drop h.landed (h.sent ++ batch h ∷ []) ≡ drop h.landed h.sent ++ batch h ∷ [] = drop-append-le h.landed h.sent (batch h ∷ []) a.within in
    record {
      behind = behind-append k.taken h.fin (present h) h.flight (λ e. absurd (omega (arith, e, n.taken_number))) w.behind;
      comes = by d w.comes;
    }
  where
    by : drop h.landed (h.sent ++ batch h ∷ []) ≡ drop h.landed h.sent ++ batch h ∷ [] → (is_shut k.phase ≡ true) ⊎ ((c ≡ k.taken.told) × ((b ≡ true) ⊎ Comes k.taken (to_land h) h.last.told)) → (is_shut k.phase ≡ true) ⊎ ((c ≡ k.taken.told) × ((b ≡ true) ⊎ Comes k.taken (to_land (posts_batch h)) (present h).told))
    by d (inl e) = inl e
    by d (inr (e, inl g)) = inr (e, inl g)
    by d (inr (e, inr g)) = inr (
      e,
      inr (subst (λ ms. Comes k.taken ms (present h).told) (sym d)
          (comes-append k.taken h.last.told (to_land h) (batch h) refl (from-by (is_some (cause_of h.phase)) (present h).told h.last.told) g)),
    )

settled : (size depth : ℕ) (b : Bool) (c : ℕ) (d : Bool) (e : ℕ) (h k : Half) → Both size depth h k → WholeBoth b c d e h k → WholeBoth b c d e (settle depth h) (settle depth k)
settled size depth b c d e h k both w =
    let mine : WholeBoth b c d e (posts_batch h) k = (posted size depth b c h k both w.0, reshut d e k h (after_posting (present h) h.phase) (posting-shut (present h) h.phase) w.1) in
    let first : WholeBoth b c d e (settle depth h) k = either b c d e (posts_batch h) h k (is_due depth h) mine w in
    either-peer b c d e (settle depth h) (posts_batch k) k (is_due depth k)
    (reshut b c (settle depth h) k (after_posting (present k) k.phase) (posting-shut (present k) k.phase) first.0, by (is_due depth h)) first
  where
    theirs : WholeOf d e (posts_batch k) h
    theirs = posted size depth d e k h (both.1, both.0) w.1

    by : (i : Bool) → WholeOf d e (posts_batch k) (if i then posts_batch h else h)
    by true = reshut d e (posts_batch k) h (after_posting (present h) h.phase) (posting-shut (present h) h.phase) theirs
    by false = theirs

-- calls
moved-whole : (b b2 : Bool) (c : ℕ) (h k : Half) → WholeOf b c h k →
    WholeOf b2 c (record h { link = lowest_link h; last = h.fin; flight = []; phase = after_moving h.phase; sent = h.sent ++ check h ∷ []; landed = length h.sent; completed = length h.sent }) k
moved-whole b b2 c h k w = record { behind = behind-first k.taken h.fin h.flight w.behind; comes = by w.comes }
  where
    d : drop (length h.sent) (h.sent ++ check h ∷ []) ≡ check h ∷ []
    d = drop-append_seam h.sent (check h ∷ [])

    checked : Comes k.taken (check h ∷ []) h.fin.told
    checked = inr (refl, behind-first k.taken h.fin h.flight w.behind, omega arith)

    new : Comes k.taken (drop (length h.sent) (h.sent ++ check h ∷ [])) h.fin.told
    new = subst (λ ms. Comes k.taken ms h.fin.told) (sym d) checked

    by : (is_shut k.phase ≡ true) ⊎ ((c ≡ k.taken.told) × ((b ≡ true) ⊎ Comes k.taken (to_land h) h.last.told)) → (is_shut k.phase ≡ true) ⊎ ((c ≡ k.taken.told) × ((b2 ≡ true) ⊎ Comes k.taken (drop (length h.sent) (h.sent ++ check h ∷ [])) h.fin.told))
    by (inl e) = inl e
    by (inr e) = inr (e.0, inr new)

moves-by : (b : Bool) (c : ℕ) (d : Bool) (e : ℕ) (h k : Half) (i : Bool) → WholeBoth b c d e h k →
    WholeBoth (b && not i) c d e (if i then record h { link = lowest_link h; last = h.fin; flight = []; phase = after_moving h.phase; sent = h.sent ++ check h ∷ []; landed = length h.sent; completed = length h.sent } else h) k
moves-by b c d e h k true w = (moved-whole b (b && false) c h k w.0, reshut d e k h (after_moving h.phase) (moving-shut h.phase) w.1)
moves-by b c d e h k false w = (rebroken b (b && true) c h k (λ f. ap (λ i. i && true) f) w.0, w.1)

call-whole : (size : ℕ) (x : Side) (call : Call) (b : Bool) (c : ℕ) (d : Bool) (e : ℕ) (h k : Half) → WholeBoth b c d e h k → WholeBoth (broken_after (Calls x call) h b) c d e (calls size call h) k
call-whole size x (Writes bytes) b c d e h k w = either b c d e h (record h { out = h.out ++ take (window size h) bytes }) k (is_some (cause_of h.phase) || is_ended h) w w
call-whole size x (Reads n) b c d e h k w = either b c d e h (record h { rd = h.rd + min n (unread h) }) k _ w w
call-whole size x Finishes b c d e h k w = either b c d e h (record h { finished = true; phase = after_finish h.phase }) k _ w (w.0, reshut d e k h (after_finish h.phase) (finish-shut h.phase) w.1)
call-whole size x Closes b c d e h k w = either b c d e h (record h { finished = true; phase = after_close h.phase }) k _ w (w.0, reshut d e k h (after_close h.phase) (close-shut h.phase) w.1)
call-whole size x Aborts b c d e h k w = (w.0, reshut d e k h (after_abort h.phase) (abort-shut h.phase) w.1)
call-whole size x Awaits b c d e h k w = w
call-whole size x Moves b c d e h k w = moves-by b c d e h k (is_due_for_move h) w

-- fates
fate-whole : (link : LinkId) (phase : LinkPhase) (b : Bool) (c : ℕ) (d : Bool) (e : ℕ) (h k : Half) → WholeBoth b c d e h k → WholeBoth b c d e (meets_fate link phase h) k
fate-whole link Unused b c d e h k w = w
fate-whole link Pending b c d e h k w = w
fate-whole link Live b c d e h k w = w
fate-whole link Dead b c d e h k w = w

group-whole : (b : Bool) (c : ℕ) (d : Bool) (e : ℕ) (h k : Half) → WholeBoth b c d e h k → WholeBoth b c d e (loses_group h) k
group-whole b c d e h k w = (w.0, reshut d e k h (ended_with h.link.group h.phase) (λ _. ended-shut h.link.group h.phase) w.1)

-- completions
counted-by : (b : Bool) (c : ℕ) (h k : Half) → (h.completed < h.landed) ⊎ (h.landed ≤ h.completed) → h.completed ≤ h.landed → WholeOf b c h k → WholeOf (b || (h.completed == h.landed)) c (counts_completed h) k
counted-by b c h k (inl l) o w =
    let e : h.landed ≡ max h.landed (h.completed + 1) = omega arith in
    subst (λ n. Whole (b || (h.completed == h.landed)) c (drop n h.sent) h.last.told h.fin h.flight k.phase k.taken) e (rebroken b (b || (h.completed == h.landed)) c h k (λ f. ap (λ i. i || (h.completed == h.landed)) f) w)
counted-by b c h k (inr l) o w = record { behind = w.behind; comes = by w.comes }
  where
    same : h.completed ≡ h.landed
    same = omega (arith, l, o)

    by : (is_shut k.phase ≡ true) ⊎ ((c ≡ k.taken.told) × ((b ≡ true) ⊎ Comes k.taken (to_land h) h.last.told)) → (is_shut k.phase ≡ true) ⊎ ((c ≡ k.taken.told) × (((b || (h.completed == h.landed)) ≡ true) ⊎ Comes k.taken (to_land (counts_completed h)) h.last.told))
    by (inl e) = inl e
    by (inr e) = inr (e.0, inl (or_right b (h.completed == h.landed) (eq-eqb h.completed h.landed same)))

completes-by : (size depth : ℕ) (b b2 : Bool) (c : ℕ) (d : Bool) (e : ℕ) (h k : Half) (r : Sent) (is_check : Bool) → r.check ≡ is_check → drop h.completed h.sent ≡ r ∷ drop (h.completed + 1) h.sent → Both size depth h k → WholeOf b2 c (counts_completed h) k → WholeOf d e k h →
    WholeBoth b2 c d e (if is_check then counts_completed h else record (counts_completed h) { fin = r.snapshot; flight = drop 1 h.flight; phase = after_completing r.snapshot h.phase }) k
completes-by size depth b b2 c d e h k r true f g both w v = (w, v)
completes-by size depth b b2 c d e h k r false f g both w v =
    let n = next-completes size depth h k r f g both in
    let rest = snapshots (drop (h.completed + 1) h.sent) in
    let tail : drop 1 h.flight ≡ rest = ap (λ ss. drop 1 ss) n.0 in
    let flight = subst (λ ss. Behind k.taken h.fin ss) n.0 w.behind in (
      record { behind = subst (λ ss. Behind k.taken r.snapshot ss) (sym tail) (behind-rest k.taken h.fin r.snapshot rest flight); comes = w.comes },
      reshut d e k h (after_completing r.snapshot h.phase) (completing-shut r.snapshot h.phase) v,
    )

completes-whole : (size depth : ℕ) (b : Bool) (c : ℕ) (d : Bool) (e : ℕ) (h k : Half) → h.completed < length h.sent → Both size depth h k → WholeBoth b c d e h k →
    WholeBoth (b || (h.completed == h.landed)) c d e (completes (head (to_complete h)) h) k
completes-whole size depth b c d e h k more both w =
    let next = next-of h.completed h.sent more in
    let v = both.0 in
    let n = counted-by b c h k (lt-or h.completed h.landed) v.3 w.0 in
    subst (λ o. WholeBoth (b || (h.completed == h.landed)) c d e (completes o h) k) (sym (ap (λ ms. head ms) next.1)) (completes-by size depth b (b || (h.completed == h.landed)) c d e h k next.0 next.0.check refl next.1 both n w.1)

-- landings
module _ (size depth : ℕ) (c : ℕ) (d : Bool) (e : ℕ) (h k : Half) (m : Sent) where
  abbrev Before : Type 0
  Before = Whole false c (m ∷ drop (h.landed + 1) h.sent) h.last.told h.fin h.flight k.phase k.taken

  -- its taker is over
  over-whole : (c2 : ℕ) → is_shut k.phase ≡ true → Before → WholeOf d e k h → WholeBoth false c2 d e (lands h) k
  over-whole c2 s w v = (record { behind = w.behind; comes = inl s }, v)

  -- it is a validation message
  check-by : m.check ≡ true → (gap : Bool) → shows_gap m.snapshot.number k.taken.number ≡ gap → is_near m.snapshot.number k.taken.number ≡ true → Before → WholeOf d e k h →
      WholeBoth false c d e (lands h) (if gap then strikes (Gap (wire_number m.snapshot.number) (wire_number k.taken.number)) k else k)
  check-by f true g near w v = (record { behind = w.behind; comes = inl (struck-shut (Gap (wire_number m.snapshot.number) (wire_number k.taken.number)) k.phase) }, v)
  check-by f false g near w v = (record { behind = w.behind; comes = by w.comes }, v)
    where
      by : (is_shut k.phase ≡ true) ⊎ ((c ≡ k.taken.told) × ((false ≡ true) ⊎ Comes k.taken (m ∷ drop (h.landed + 1) h.sent) h.last.told)) → (is_shut k.phase ≡ true) ⊎ ((c ≡ k.taken.told) × ((false ≡ true) ⊎ Comes k.taken (drop (h.landed + 1) h.sent) h.last.told))
      by (inl i) = inl i
      by (inr (i, inl j)) = absurd (true≢false (sym j))
      by (inr (i, inr j)) = inr (i, inr (inl (comes-check k.taken h.last.told m (drop (h.landed + 1) h.sent) f (no-gap m.snapshot.number k.taken.number near g) j)))

  -- it is a snapshot
  covers : (a b : Bool) (from told taken : ℕ) → a ≡ false → nat_lt c from ≡ b → c ≡ taken → from ≤ taken → taken ≤ told → (if a || b then c else max c told) ≡ told
  covers true b from told taken f g i j l = absurd (true≢false f)
  covers false true from told taken f g i j l = absurd (omega (arith, ltb-true c from g, i, j))
  covers false false from told taken f g i j l = omega (arith, i, l)

  joins-of : m.snapshot.aborted ≡ false → (m.snapshot.aborted ≡ true) ⊎ (m.from ≤ k.taken.told) → m.from ≤ k.taken.told
  joins-of f (inl g) = absurd (true≢false (sym g ∙ f))
  joins-of f (inr g) = g

  tells-of : m.snapshot.aborted ≡ false → (m.snapshot.aborted ≡ true) ⊎ (k.taken.told ≤ m.snapshot.told) → k.taken.told ≤ m.snapshot.told
  tells-of f (inl g) = absurd (true≢false (sym g ∙ f))
  tells-of f (inr g) = g

  snapshot-by : m.check ≡ false → (aborted : Bool) → m.snapshot.aborted ≡ aborted → Behind m.snapshot h.fin h.flight → MayTake size m.snapshot k → Before → WholeOf d e k h →
      WholeBoth false (if m.check || nat_lt c m.from then c else max c m.snapshot.told) d e (lands h) (if aborted then strikes PeerAbort (record k { taken = m.snapshot }) else record k { taken = m.snapshot })
  snapshot-by f true g n t w v = (record { behind = n; comes = inl (struck-shut PeerAbort k.phase) }, v)
  snapshot-by f false g n t w v = (record { behind = n; comes = by w.comes }, v)
    where
      by : (is_shut k.phase ≡ true) ⊎ ((c ≡ k.taken.told) × ((false ≡ true) ⊎ Comes k.taken (m ∷ drop (h.landed + 1) h.sent) h.last.told)) →
          (is_shut k.phase ≡ true) ⊎ (((if m.check || nat_lt c m.from then c else max c m.snapshot.told) ≡ m.snapshot.told) × ((false ≡ true) ⊎ Comes m.snapshot (drop (h.landed + 1) h.sent) h.last.told))
      by (inl i) = inl i
      by (inr (i, inl j)) = absurd (true≢false (sym j))
      by (inr (i, inr j)) =
          let s = comes-snapshot k.taken h.last.told m (drop (h.landed + 1) h.sent) f j in
          inr (covers m.check (nat_lt c m.from) m.from m.snapshot.told k.taken.told f refl i (joins-of g s.0) (tells-of g t.tells_on), inr (inl s.1))

  check-covers : (b : Bool) (told : ℕ) → m.check ≡ true → c ≡ (if m.check || b then c else told)
  check-covers b told f = sym (ap (λ i. if i || b then c else told) f)

  near-of : (is_check over near : Bool) → is_check ≡ true → over ≡ false → ((not is_check || over) || near) ≡ true → near ≡ true
  near-of true true near f g i = absurd (true≢false g)
  near-of true false near f g i = i
  near-of false over near f g i = absurd (true≢false (sym f))

  lands-by : (over is_check : Bool) → is_over k ≡ over → m.check ≡ is_check → is_near_at (Some m) k ≡ true → drop h.landed h.sent ≡ m ∷ drop (h.landed + 1) h.sent → Both size depth h k → ShutOf k → Before → WholeOf d e k h →
      WholeBoth false (covered_after (Some m) c) d e (lands h) (if over then k else if is_check then validates m.snapshot.number k else takes_snapshot m.snapshot k)
  lands-by true is_check f g near i both s w v = over-whole (covered_after (Some m) c) (over-shut k s f) w v
  lands-by false true f g near i both s w v =
      subst (λ n. WholeBoth false n d e (lands h) (validates m.snapshot.number k)) (check-covers (nat_lt c m.from) (max c m.snapshot.told) g)
      (check-by g (shows_gap m.snapshot.number k.taken.number) refl (near-of m.check (is_over k) (is_near m.snapshot.number k.taken.number) g f near) w v)
  lands-by false false f g near i both s w v =
      let x = both.0 in
      let a = x.2 in
      let has = in-flight h.completed h.landed h.sent m (drop (h.landed + 1) h.sent) x.3 i g in
      let behind : Behind m.snapshot h.fin h.flight = subst (λ ss. Behind m.snapshot h.fin ss) (sym a.is) (climbs-behind h.fin m.snapshot h.last (snapshots (drop h.completed h.sent)) (subst (λ ss. Climbs h.fin ss h.last) a.is a.climbs) has) in
      snapshot-by g m.snapshot.aborted refl behind (may-take size depth h k m i g both) w v

lands-whole : (size depth : ℕ) (b : Bool) (c : ℕ) (d : Bool) (e : ℕ) (h k : Half) → h.landed < length h.sent → b ≡ false → is_near_at (head (to_land h)) k ≡ true → Both size depth h k → ShutOf k → WholeBoth b c d e h k →
    WholeBoth b (covered_after (head (to_land h)) c) d e (lands h) (takes (head (to_land h)) k)
lands-whole size depth b c d e h k more f near both s w =
    let next = next-of h.landed h.sent more in
    let first : head (to_land h) ≡ Some next.0 = ap (λ ms. head ms) next.1 in
    let mine : Whole false c (next.0 ∷ drop (h.landed + 1) h.sent) h.last.told h.fin h.flight k.phase k.taken =
    subst (λ ms. Whole false c ms h.last.told h.fin h.flight k.phase k.taken) next.1 (subst (λ i. WholeOf i c h k) f w.0) in
    subst (λ i. WholeBoth i (covered_after (head (to_land h)) c) d e (lands h) (takes (head (to_land h)) k)) (sym f)
    (subst (λ o. WholeBoth false (covered_after o c) d e (lands h) (takes o k)) (sym first)
    (lands-by size depth c d e h k next.0 (is_over k) next.0.check refl refl (subst (λ o. is_near_at o k ≡ true) first near) next.1 both s mine w.1))

-- every part
abbrev pub WholeFrom : (Side → Bool) → (Side → ℕ) → Side → Pipe → Type 0
WholeFrom broken covered x p = WholeBoth (broken x) (covered x) (broken (other x)) (covered (other x)) (half x p) (half (other x) p)

abbrev pub IsWhole : Terms → List Item → Side → Pipe → Type 0
IsWhole t items x p = WholeFrom (λ y. is_broken t y items) (λ y. covered t y items) x p

seen-from : (broken : Side → Bool) (covered : Side → ℕ) (x y : Side) (p : Pipe) → WholeFrom broken covered x p → WholeFrom broken covered y p
seen-from broken covered A A p w = w
seen-from broken covered A B p w = (w.1, w.0)
seen-from broken covered B A p w = (w.1, w.0)
seen-from broken covered B B p w = w

-- one item, from the end that acts
kept : (t : Terms) (item : Item) (items : List Item) → CanFollow item (half (actor item) (pipe t items)) (is_broken t (actor item) items) → lands_near item (pipe t items) ≡ true → BothOf t (actor item) (pipe t items) → ((y : Side) → ShutOf (half y (pipe t items))) →
    IsWhole t items (actor item) (pipe t items) → IsWhole t (item ∷ items) (actor item) (apply t.size item (pipe t items))
kept t (Fate A link phase) items f n b s w = fate-whole link phase (is_broken t A items) (covered t A items) (is_broken t B items) (covered t B items) (pipe t items).a (pipe t items).b w
kept t (Fate B link phase) items f n b s w = fate-whole link phase (is_broken t B items) (covered t B items) (is_broken t A items) (covered t A items) (pipe t items).b (pipe t items).a w
kept t (GroupEnd A) items f n b s w = group-whole (is_broken t A items) (covered t A items) (is_broken t B items) (covered t B items) (pipe t items).a (pipe t items).b w
kept t (GroupEnd B) items f n b s w = group-whole (is_broken t B items) (covered t B items) (is_broken t A items) (covered t A items) (pipe t items).b (pipe t items).a w
kept t (Up A link) items f n b s w = w
kept t (Up B link) items f n b s w = w
kept t (Calls A call) items f n b s w = call-whole t.size A call (is_broken t A items) (covered t A items) (is_broken t B items) (covered t B items) (pipe t items).a (pipe t items).b w
kept t (Calls B call) items f n b s w = call-whole t.size B call (is_broken t B items) (covered t B items) (is_broken t A items) (covered t A items) (pipe t items).b (pipe t items).a w
kept t (Lands A) items f n b s w = lands-whole t.size t.depth (is_broken t A items) (covered t A items) (is_broken t B items) (covered t B items) (pipe t items).a (pipe t items).b f.0 f.1 n b (s B) w
kept t (Lands B) items f n b s w = lands-whole t.size t.depth (is_broken t B items) (covered t B items) (is_broken t A items) (covered t A items) (pipe t items).b (pipe t items).a f.0 f.1 n b (s A) w
kept t (Completes A) items f n b s w = completes-whole t.size t.depth (is_broken t A items) (covered t A items) (is_broken t B items) (covered t B items) (pipe t items).a (pipe t items).b f b w
kept t (Completes B) items f n b s w = completes-whole t.size t.depth (is_broken t B items) (covered t B items) (is_broken t A items) (covered t A items) (pipe t items).b (pipe t items).a f b w

fresh-whole : (number : ℕ) → WholeOf false 0 (fresh number) (fresh number)
fresh-whole number = record { behind = λ _. omega arith; comes = inr (refl, inr (inl (omega arith))) }

all-whole : (t : Terms) (items : List Item) → IsFeasible t items → is_near_part t items ≡ true → IsWhole t items A (pipe t items)
all-whole t [] f n = (fresh-whole t.number, fresh-whole t.number)
all-whole t (item ∷ items) f n =
    let near = and-parts (is_near_part t items) (lands_near item (pipe t items)) n in
    let w = seen-from (λ y. is_broken t y items) (λ y. covered t y items) A (actor item) (pipe t items) (all-whole t items f.1 near.0) in
    let k = kept t item items f.0 near.1 (both t (actor item) items f.1) (λ y. shut-of t y items f.1) w in
    settled t.size t.depth (is_broken t A (item ∷ items)) (covered t A (item ∷ items)) (is_broken t B (item ∷ items)) (covered t B (item ∷ items)) (apply t.size item (pipe t items)).a (apply t.size item (pipe t items)).b (both-after t A item items f)
    (seen-from (λ y. is_broken t y (item ∷ items)) (λ y. covered t y (item ∷ items)) (actor item) A (apply t.size item (pipe t items)) k)

pub whole : (t : Terms) (x : Side) (items : List Item) → IsFeasible t items → is_near_part t items ≡ true → WholeOf (is_broken t x items) (covered t x items) (half x (pipe t items)) (half (other x) (pipe t items))
whole t x items f n = let w = seen-from (λ y. is_broken t y items) (λ y. covered t y items) A x (pipe t items) (all-whole t items f n) in w.0

-- an open end has all bytes that it was told
told-of : (b : Bool) (c : ℕ) (h k : Half) → is_shut k.phase ≡ false → WholeOf b c h k → c ≡ k.taken.told
told-of b c h k s w = by w.comes
  where
    by : (is_shut k.phase ≡ true) ⊎ ((c ≡ k.taken.told) × ((b ≡ true) ⊎ Comes k.taken (to_land h) h.last.told)) → c ≡ k.taken.told
    by (inl e) = absurd (true≢false (sym e ∙ s))
    by (inr e) = e.0

pub told-landed : (t : Terms) (x : Side) (items : List Item) → IsFeasible t items → is_near_part t items ≡ true → HasAllTold (covered t x items) (half (other x) (pipe t items))
told-landed t x items f n s = told-of (is_broken t x items) (covered t x items) (half x (pipe t items)) (half (other x) (pipe t items)) s (whole t x items f n)

-- the bytes of the snapshot that is next to land go on from there
joins-by : (b : Bool) (c : ℕ) (h k : Half) (m : Sent) → is_shut k.phase ≡ false → b ≡ false → drop h.landed h.sent ≡ m ∷ drop (h.landed + 1) h.sent → m.check ≡ false → WholeOf b c h k → (m.snapshot.aborted ≡ true) ⊎ (m.from ≤ k.taken.told)
joins-by b c h k m s o d e w = by w.comes
  where
    by : (is_shut k.phase ≡ true) ⊎ ((c ≡ k.taken.told) × ((b ≡ true) ⊎ Comes k.taken (to_land h) h.last.told)) → (m.snapshot.aborted ≡ true) ⊎ (m.from ≤ k.taken.told)
    by (inl i) = absurd (true≢false (sym i ∙ s))
    by (inr (i, inl j)) = absurd (true≢false (sym j ∙ o))
    by (inr (i, inr j)) = let r = comes-snapshot k.taken h.last.told m (drop (h.landed + 1) h.sent) e (subst (λ ms. Comes k.taken ms h.last.told) d j) in r.0

pub next-joins : (t : Terms) (x : Side) (items : List Item) (m : Sent) → IsFeasible t (Lands x ∷ items) → is_near_part t items ≡ true →
    head (to_land (half x (pipe t items))) ≡ Some m → m.check ≡ false → GoesOn m (half (other x) (pipe t items))
next-joins t x items m f n e g s =
    let c = f.0 in
    joins-by (is_broken t x items) (covered t x items) (half x (pipe t items)) (half (other x) (pipe t items)) m s c.1 (rest-of (half x (pipe t items)).landed (half x (pipe t items)).sent m e) g (whole t x items f.1 n)
