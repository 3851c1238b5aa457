-- Messages that land and complete: what is kept after them.
use Rattle.std.proofs.Common.{◌≡◌, ◌∙◌, ℕ, ◌+◌, ◌-◌, ◌%◌, ◌<◌, ◌≤◌, Bool, true, false, ◌&&◌, cond, nat_lt, List, [], ◌∷◌, length, drop, Some, refl, sym, ap, ap₂, subst, arith, true≢false, ⊎_elim}
use Rattle.std.proofs.lemmas.List.{drop-drop, length-drop}
use Rattle.smc_num.specs.Numbers.{wire_number, is_past, cursor_of}
use Rattle.std.specs.Prelude.{Option, is_some, unwrap_or}
use Rattle.smc_num.specs.declared.Cursor.{Cursor}
use Rattle.smc_num.specs.Names.{head}
use Rattle.cdc_wire.specs.declared.CdcMessage.{CdcMessage}
use Rattle.cdc_ring.specs.Rings.{Ring, last_from, accepted, acks, completes as ring_completes}
use Rattle.cdc_ring.specs.Flights.{Climbs, rising}
use Rattle.cdc_ring.specs.Kept.{Kept as KeptRing, Represents as RingRepresents, IsPlaceFrom}
use Rattle.cdc_ring.proofs.Flying.{a_ring_is_sound, the_oldest_posting_goes, the_last_snapshot_tells_the_last_posted_byte}
use Rattle.cdc_ring.proofs.Rising.{last-below}
use Rattle.pipe_model.specs.declared.snapshot.Snapshot.{Snapshot}
use Rattle.pipe_model.specs.declared.sent.Sent.{Sent}
use Rattle.pipe_model.specs.declared.reply.ResetCause.TheVariants.{PeerAbort, Gap}
use Rattle.pipe_model.specs.Snapshot.{spelled, validation, is_validation, shows_gap}
use Rattle.pipe_model.specs.Closing.{after_completing}
use Rattle.pipe_model.specs.Ends.{fresh as fresh_half}
use Rattle.pipe_model.specs.Ends.{Half, is_over, strikes, takes, takes_snapshot, validates, counts_completed, completes}
use Rattle.pipe_model.specs.Parts.{is_shut}
use Rattle.conn_end.specs.Kept.{Kept, Course, at_course, ring_of, tolds, IsWhole}
use Rattle.conn_end.specs.Arrivals.{IsTakable, IsSpelling, Lands, Completes}
use Rattle.conn_end.proofs.Ends.{Stands, came, stands_there, after, whole_phase, phase_only}
use Rattle.conn_end.proofs.Phases.{struck_shut, open_before_strike, open_before_completing}

-- a message is one of validation exactly where it was sent as one
pub checks_is : (size : ℕ) (m : CdcMessage) (plain : Snapshot) (sent : Sent) → IsSpelling size m plain sent → is_validation m ≡ sent.check
checks_is size m plain sent spells = by_check sent.check spells.spelled
  where
    by_check : (b : Bool) → m ≡ cond b (validation size m.token sent.snapshot) (spelled size m.token sent.snapshot) → is_validation m ≡ b
    by_check true e = ap is_validation e
    by_check false e = ap is_validation e

-- how far a snapshot's message tells and reads
pub message_is : (size : ℕ) (m : CdcMessage) (plain : Snapshot) (sent : Sent) → IsSpelling size m plain sent → sent.check ≡ false → m ≡ spelled size m.token sent.snapshot
message_is size m plain sent spells e = spells.spelled ∙ ap (λ b. cond b (validation size m.token sent.snapshot) (spelled size m.token sent.snapshot)) e

-- a validation message has the wire number of its snapshot
pub number_is : (size : ℕ) (m : CdcMessage) (plain : Snapshot) (sent : Sent) → IsSpelling size m plain sent → m.number ≡ wire_number sent.snapshot.number
number_is size m plain sent spells = by_check sent.check spells.spelled
  where
    by_check : (b : Bool) → m ≡ cond b (validation size m.token sent.snapshot) (spelled size m.token sent.snapshot) → m.number ≡ wire_number sent.snapshot.number
    by_check true e = ap (λ (n : CdcMessage). n.number) e
    by_check false e = ap (λ (n : CdcMessage). n.number) e

wire_twice : (n : ℕ) → wire_number (wire_number n) ≡ wire_number n
wire_twice n = omega arith

-- only the 16 bits of its number count
pub validates_wire : (m n : ℕ) (h : Half) → m ≡ wire_number n → validates m h ≡ validates n h
validates_wire m n h e =
    let same : wire_number m ≡ wire_number n = ap wire_number e ∙ wire_twice n in
    ap (λ (w : ℕ). cond (nat_lt 0 ((w + (65_536 - wire_number h.taken.number)) % 65_536) && nat_lt ((w + (65_536 - wire_number h.taken.number)) % 65_536) 32_768) (strikes (Gap w (wire_number h.taken.number)) h) h) same

-- a validation message that shows a gap strikes
pub validates_gap : (told taken : ℕ) (h : Half) → told < 65_536 → taken ≡ wire_number h.taken.number → is_past told taken ≡ true → validates told h ≡ strikes (Gap told taken) h
validates_gap told taken h fits is past =
    let low : wire_number told ≡ told = omega (arith, fits) in
    let same : wire_number taken ≡ wire_number h.taken.number = ap wire_number is ∙ wire_twice h.taken.number in
    let gap : shows_gap told h.taken.number ≡ true = sym (ap (λ (w : ℕ). nat_lt 0 ((wire_number told + (65_536 - w)) % 65_536) && nat_lt ((wire_number told + (65_536 - w)) % 65_536) 32_768) same) ∙ past in
    ap (λ b. cond b (strikes (Gap (wire_number told) (wire_number h.taken.number)) h) h) gap ∙ ap₂ (λ a b. strikes (Gap a b) h) low (sym is)

-- an end that is neither reset nor closing after a validation message was neither before
pub open_before_validating : (told : ℕ) (h : Half) → is_shut (validates told h).phase ≡ false → is_shut h.phase ≡ false
open_before_validating told h e = by_gap (shows_gap told h.taken.number) e
  where
    by_gap : (b : Bool) → is_shut (cond b (strikes (Gap (wire_number told) (wire_number h.taken.number)) h) h).phase ≡ false → is_shut h.phase ≡ false
    by_gap true e = open_before_strike (Gap (wire_number told) (wire_number h.taken.number)) h.phase e
    by_gap false e = e

-- an aborted snapshot strikes
pub takes_aborted : (s : Snapshot) (h : Half) → s.aborted ≡ true → strikes PeerAbort (record h { taken = s }) ≡ takes_snapshot s h
takes_aborted s h e = sym (ap (λ b. cond b (strikes PeerAbort (record h { taken = s })) (record h { taken = s })) e)

-- what is kept after a validation message
pub whole_validated : (size : ℕ) (ring : KeptRing) (count : ℕ) (c d : Course) (told : ℕ) → IsWhole size ring count c → d ≡ record c { phase = d.phase } → ((q : Half) → at_course d q ≡ validates told (at_course c q)) → IsWhole size ring count d
whole_validated size ring count c d told w e is =
    whole_phase size ring count c d w (phase_only c d e)
    (λ o. open_before_validating told (at_course c (fresh_half 1)) (ap (λ (q : Half). is_shut q.phase) (sym (is (fresh_half 1))) ∙ o))

-- what an end that is not over makes of a message
pub takes_fresh : (sent : Sent) (h : Half) → is_over h ≡ false → sent.check ≡ false → takes (Some sent) h ≡ takes_snapshot sent.snapshot h
takes_fresh sent h going fresh = ap₂ (λ a b. cond a h (cond b (validates sent.snapshot.number h) (takes_snapshot sent.snapshot h))) going fresh

pub takes_check : (sent : Sent) (h : Half) → is_over h ≡ false → sent.check ≡ true → takes (Some sent) h ≡ validates sent.snapshot.number h
takes_check sent h going checks = ap₂ (λ a b. cond a h (cond b (validates sent.snapshot.number h) (takes_snapshot sent.snapshot h))) going checks

-- the phase of an end that has taken a snapshot
taken_shut : (s : Snapshot) (h : Half) → s.aborted ≡ true → is_shut (takes_snapshot s h).phase ≡ true
taken_shut s h aborted = ap (λ b. is_shut (cond b (strikes PeerAbort (record h { taken = s })) (record h { taken = s })).phase) aborted ∙ struck_shut PeerAbort h.phase

taken_open : (s : Snapshot) (h : Half) (b : Bool) → s.aborted ≡ b → is_shut (takes_snapshot s h).phase ≡ false → is_shut h.phase ≡ false
taken_open s h true aborted free = absurd (true≢false (sym (taken_shut s h aborted) ∙ free))
taken_open s h false going free = sym (ap (λ b. is_shut (cond b (strikes PeerAbort (record h { taken = s })) (record h { taken = s })).phase) going) ∙ free

-- what is kept after a snapshot was taken
pub whole_taken : (size : ℕ) (ring more : KeptRing) (count : ℕ) (c d : Course) (s : Snapshot) (h : Half) → Stands size ring count c h → IsTakable size s h → RingRepresents more (acks s.read (ring_of size ring.bytes c)) → d ≡ record c { taken = s; phase = d.phase } → d.phase ≡ (takes_snapshot s (at_course c h)).phase → IsWhole size more count d
whole_taken size ring more count c d s h stands may rings e phase = subst (λ (x : Course). IsWhole size more count x) (sym e) (record {
  few = w.few;
  most = w.most;
  climbs = w.climbs;
  last = w.last;
  ring = subst (λ bs. RingRepresents more (ring_of size bs (record c { taken = s; phase = d.phase }))) (sym rings.bytes) rings;
  counted = ap (λ bs. c.fin.told + length bs) rings.bytes ∙ w.counted;
  reads = reads;
})
  where
    w : IsWhole size ring count c
    w = stands.whole

    reads : is_shut d.phase ≡ false → c.read ≤ s.told
    reads free =
        let taken : is_shut (takes_snapshot s (at_course c h)).phase ≡ false = ap is_shut (sym phase) ∙ free in
        let before : is_shut c.phase ≡ false = taken_open s (at_course c h) s.aborted refl taken in
        ⊎_elim (λ aborted. absurd (true≢false (sym (taken_shut s (at_course c h) aborted) ∙ taken)))
        (λ more. omega (arith, w.reads before, more, ap (λ (t : Snapshot). t.told) stands.taken)) may.tells_on

pub taken : (size : ℕ) (ring more : KeptRing) (count : ℕ) (c d : Course) (s : Snapshot) (h : Half) → Stands size ring count c h → IsTakable size s h → RingRepresents more (acks s.read (ring_of size ring.bytes c)) → d ≡ record c { taken = s; phase = d.phase } → at_course d h ≡ takes_snapshot s (at_course c h) → Stands size more count d (takes_snapshot s h)
taken size ring more count c d s h stands may rings e is =
    stands_there size more count d h (takes_snapshot s h)
    (whole_taken size ring more count c d s h stands may rings e (ap (λ (q : Half). q.phase) is))
    stands.accepted
    (rings.bytes ∙ stands.bytes ∙ ap (λ (t : Snapshot). drop t.told h.out) (sym (ap (λ (x : Course). x.fin) e ∙ stands.fin)))
    (is ∙ ap (takes_snapshot s) (came size ring count c h stands))

-- the oldest snapshot of a flight, and those behind it
oldest : (ss : List Snapshot) (s : Snapshot) → head ss ≡ Some s → ss ≡ s ∷ drop 1 ss
oldest [] s e = absurd (true≢false (sym (ap is_some e)))
oldest (x ∷ ss) s e = ap (λ (o : Option Snapshot). unwrap_or o x ∷ ss) e

-- counts that do not fall end no lower than they begin
climbs_above : (from : ℕ) (ts : List ℕ) → Climbs from ts → from ≤ last_from from ts
climbs_above from [] climbs = omega arith
climbs_above from (t ∷ ts) climbs = omega (arith, climbs.0, climbs_above t ts climbs.1)

-- the last snapshot tells no more than was accepted
pub last_within : (size : ℕ) (ring : KeptRing) (count : ℕ) (c : Course) → IsWhole size ring count c → c.last.told ≤ count
last_within size ring count c w =
    let r : Ring = ring_of size ring.bytes c in
    let sound = a_ring_is_sound ring r w.ring in
    omega (arith, last-below c.fin.told r.posted (accepted r) sound.posted, the_last_snapshot_tells_the_last_posted_byte r (tolds c.flight) w.climbs refl, w.last, w.counted)

module _ (size : ℕ) (ring : KeptRing) (count : ℕ) (c : Course) (s : Snapshot) (w : IsWhole size ring count c) (first : head c.flight ≡ Some s) where
  flying : c.flight ≡ s ∷ drop 1 c.flight
  flying = oldest c.flight s first

  climbing : Climbs c.fin.told (s.told ∷ tolds (drop 1 c.flight))
  climbing = subst (λ ss. Climbs c.fin.told (tolds ss)) flying w.climbs

  last_one : last_from s.told (tolds (drop 1 c.flight)) ≡ c.last.told
  last_one = sym (ap (λ ss. last_from c.fin.told (tolds ss)) flying) ∙ w.last

  -- the oldest snapshot tells no less than the last completed one, and no more than was accepted
  pub oldest_from : c.fin.told ≤ s.told
  oldest_from = climbing.0

  pub oldest_to : s.told ≤ count
  oldest_to = omega (arith, climbs_above s.told (tolds (drop 1 c.flight)) climbing.1, last_one, last_within size ring count c w)

  -- so that the ring may complete it
  pub may_complete : (m : Cursor) → m ≡ cursor_of size s.told → IsPlaceFrom (λ r. r.completed) ring m
  may_complete m spelled = record { ring = ring_of size ring.bytes c; stands = w.ring; place = s.told; spelled = spelled; from = oldest_from; to = omega (arith, oldest_to, w.counted) }

  -- what is kept then
  pub whole_completed : (more : KeptRing) (d : Course) → RingRepresents more (ring_completes s.told (ring_of size ring.bytes c)) → d ≡ record c { fin = s; flight = drop 1 c.flight; phase = after_completing s c.phase } → IsWhole size more count d
  whole_completed more d rings e = subst (λ (x : Course). IsWhole size more count x) (sym e) (record {
    few = omega (arith, ap length flying, w.few);
    most = w.most;
    ring = subst (λ ps. RingRepresents more (record { size = size; completed = s.told; bytes = more.bytes; posted = ps; acked = c.taken.read })) goes
        (subst (λ bs. RingRepresents more (record (ring_completes s.told (ring_of size ring.bytes c)) { bytes = bs })) (sym rings.bytes) rings);
    counted = omega (arith, ap length rings.bytes, length-drop (s.told - c.fin.told) ring.bytes, oldest_from, oldest_to, w.counted);
    climbs = climbing.1;
    last = last_one;
    reads = λ free. w.reads (open_before_completing s c.phase free);
  })
    where
      goes : (ring_completes s.told (ring_of size ring.bytes c)).posted ≡ rising s.told (tolds (drop 1 c.flight))
      goes = the_oldest_posting_goes (ring_of size ring.bytes c) s.told (tolds (drop 1 c.flight)) oldest_from (ap (λ ss. rising c.fin.told (tolds ss)) flying)

-- and for which ends it stands
pub completed : (size : ℕ) (ring more : KeptRing) (count : ℕ) (c d : Course) (s : Snapshot) (h : Half) → Stands size ring count c h → head h.flight ≡ Some s → RingRepresents more (ring_completes s.told (ring_of size ring.bytes c)) → d ≡ record c { fin = s; flight = drop 1 c.flight; phase = after_completing s c.phase } → Stands size more count d (record (counts_completed h) { fin = s; flight = drop 1 h.flight; phase = after_completing s h.phase })
completed size ring more count c d s h stands first rings e =
    let mine : head c.flight ≡ Some s = ap head stands.flight ∙ first in
    let from = oldest_from size ring count c s stands.whole mine in
    let n : ℕ = s.told - c.fin.told in
    let place : c.fin.told + n ≡ s.told = omega (arith, from) in
    stands_there size more count d (counts_completed h) (record (counts_completed h) { fin = s; flight = drop 1 h.flight; phase = after_completing s h.phase })
    (whole_completed size ring count c s stands.whole mine more d rings e)
    stands.accepted
    (rings.bytes ∙ ap (drop n) (stands.bytes ∙ ap (λ (t : Snapshot). drop t.told h.out) (sym stands.fin)) ∙ drop-drop n c.fin.told h.out ∙ ap (λ k. drop k h.out) place ∙ ap (λ (x : Course). drop x.fin.told h.out) (sym e))
    (ap (λ (x : Course). at_course x (counts_completed h)) e ∙ ap (λ (q : Half). record (counts_completed q) { fin = s; flight = drop 1 q.flight; phase = after_completing s q.phase }) (came size ring count c h stands))

-- what an end makes of a message of its own that has completed
pub completes_fresh : (sent : Sent) (h : Half) → sent.check ≡ false → completes (Some sent) h ≡ record (counts_completed h) { fin = sent.snapshot; flight = drop 1 h.flight; phase = after_completing sent.snapshot h.phase }
completes_fresh sent h e = ap (λ b. cond b (counts_completed h) (record (counts_completed h) { fin = sent.snapshot; flight = drop 1 h.flight; phase = after_completing sent.snapshot h.phase })) e

pub completes_check : (sent : Sent) (h : Half) → sent.check ≡ true → completes (Some sent) h ≡ counts_completed h
completes_check sent h e = ap (λ b. cond b (counts_completed h) (record (counts_completed h) { fin = sent.snapshot; flight = drop 1 h.flight; phase = after_completing sent.snapshot h.phase })) e

-- what a ring makes of a cursor up to which the peer has read, and of one up to which the bytes have completed
abbrev pub Acks : KeptRing → Cursor → KeptRing → Type 0
Acks ring m more = (r : Ring) (place : ℕ) → RingRepresents ring r → m ≡ cursor_of r.size place → r.acked ≤ place → place ≤ accepted r → RingRepresents more (acks place r)

abbrev pub Completing : KeptRing → Cursor → KeptRing → Type 0
Completing ring m more = (r : Ring) (place : ℕ) → RingRepresents ring r → m ≡ cursor_of r.size place → r.completed ≤ place → place ≤ accepted r → RingRepresents more (ring_completes place r)

module _ (k : Kept) (m : CdcMessage) (plain : Snapshot) (h : Half) (sent : Sent) (l : Lands k m plain h sent) (fresh : sent.check ≡ false) where
  landed_is : plain ≡ sent.snapshot
  landed_is = l.spelling.plainly fresh

  landed_may : IsTakable k.size plain h
  landed_may = subst (λ (s : Snapshot). IsTakable k.size s h) (sym landed_is) (l.taken fresh)

  landed_rings : (more : KeptRing) → Acks k.ring m.read more → RingRepresents more (acks plain.read (ring_of k.size k.ring.bytes k.course))
  landed_rings more acks =
      let s = l.stands in
      let may = landed_may in
      acks (ring_of k.size k.ring.bytes k.course) plain.read s.whole.ring
      (ap (λ (n : CdcMessage). n.read) (message_is k.size m plain sent l.spelling fresh) ∙ ap (λ (t : Snapshot). cursor_of k.size t.read) (sym landed_is))
      (omega (arith, may.reads_on, ap (λ (t : Snapshot). t.read) s.taken))
      (omega (arith, may.reads_accepted, s.whole.counted, s.accepted))

  -- what is kept once a snapshot of the peer was taken
  pub landed_whole : (more : KeptRing) (d : Course) → Acks k.ring m.read more → d ≡ record k.course { taken = plain; phase = d.phase } → ((q : Half) → at_course d q ≡ takes_snapshot plain (at_course k.course q)) → IsWhole k.size more k.accepted d
  landed_whole more d acks e is = whole_taken k.size k.ring more k.accepted k.course d plain h l.stands landed_may (landed_rings more acks) e (ap (λ (q : Half). q.phase) (is h))

  pub landed : (more : KeptRing) (d : Course) → is_over h ≡ false → Acks k.ring m.read more → d ≡ record k.course { taken = plain; phase = d.phase } → ((q : Half) → at_course d q ≡ takes_snapshot plain (at_course k.course q)) → Stands k.size more k.accepted d (takes (Some sent) h)
  landed more d going acks e is =
      subst (λ (g : Half). Stands k.size more k.accepted d g) (ap (λ (t : Snapshot). takes_snapshot t h) landed_is ∙ sym (takes_fresh sent h going fresh))
      (taken k.size k.ring more k.accepted k.course d plain h l.stands landed_may (landed_rings more acks) e (is h))

-- and once a validation message was
pub validated : (k : Kept) (m : CdcMessage) (plain : Snapshot) (h : Half) (sent : Sent) (d : Course) → Lands k m plain h sent → sent.check ≡ true → is_over h ≡ false → d ≡ record k.course { phase = d.phase } → ((q : Half) → at_course d q ≡ validates m.number (at_course k.course q)) → Stands k.size k.ring k.accepted d (takes (Some sent) h)
validated k m plain h sent d l checks going e is =
    subst (λ (g : Half). Stands k.size k.ring k.accepted d g) (validates_wire m.number sent.snapshot.number h (number_is k.size m plain sent l.spelling) ∙ sym (takes_check sent h going checks))
    (after k.size k.ring k.accepted k.course d h (validates m.number) l.stands (whole_validated k.size k.ring k.accepted k.course d m.number l.stands.whole e is) (ap (λ (x : Course). x.fin) e) (is h))

module _ (k : Kept) (m : CdcMessage) (plain : Snapshot) (h : Half) (sent : Sent) (l : Completes k m plain h sent) (fresh : sent.check ≡ false) where
  done_is : plain ≡ sent.snapshot
  done_is = l.spelling.plainly fresh

  done_first : head h.flight ≡ Some plain
  done_first = l.oldest fresh ∙ ap Some (sym done_is)

  done_mine : head k.course.flight ≡ Some plain
  done_mine = ap head l.stands.flight ∙ done_first

  done_told : m.told ≡ cursor_of k.size plain.told
  done_told = ap (λ (n : CdcMessage). n.told) (message_is k.size m plain sent l.spelling fresh) ∙ ap (λ (t : Snapshot). cursor_of k.size t.told) (sym done_is)

  pub done_requires : IsPlaceFrom (λ r. r.completed) k.ring m.told
  done_requires = may_complete k.size k.ring k.accepted k.course plain l.stands.whole done_mine m.told done_told

  done_rings : (more : KeptRing) → Completing k.ring m.told more → RingRepresents more (ring_completes plain.told (ring_of k.size k.ring.bytes k.course))
  done_rings more rings =
      let w = l.stands.whole in
      rings (ring_of k.size k.ring.bytes k.course) plain.told w.ring done_told (oldest_from k.size k.ring k.accepted k.course plain w done_mine)
      (omega (arith, oldest_to k.size k.ring k.accepted k.course plain w done_mine, w.counted))

  -- what is kept once a snapshot of its own has completed
  pub done_whole : (more : KeptRing) (d : Course) → Completing k.ring m.told more → d ≡ record k.course { fin = plain; flight = drop 1 k.course.flight; phase = after_completing plain k.course.phase } → IsWhole k.size more k.accepted d
  done_whole more d rings e = whole_completed k.size k.ring k.accepted k.course plain l.stands.whole done_mine more d (done_rings more rings) e

  pub done : (more : KeptRing) (d : Course) → Completing k.ring m.told more → d ≡ record k.course { fin = plain; flight = drop 1 k.course.flight; phase = after_completing plain k.course.phase } → Stands k.size more k.accepted d (completes (Some sent) h)
  done more d rings e =
      subst (λ (g : Half). Stands k.size more k.accepted d g)
      (ap (λ (t : Snapshot). record (counts_completed h) { fin = t; flight = drop 1 h.flight; phase = after_completing t h.phase }) done_is ∙ sym (completes_fresh sent h fresh))
      (completed k.size k.ring more k.accepted k.course d plain h l.stands done_first (done_rings more rings) e)
