-- That what is kept stands for some plain end, and for each that differs only in what its owner knows; what an await is told.
use Rattle.std.proofs.Common.{◌≡◌, ◌∙◌, ℕ, ◌-◌, ◌%◌, ◌≤◌, Bool, true, false, cond, zero, suc, List, ◌++◌, drop, refl, sym, ap, arith, replicate, true≢false}
use Rattle.std.specs.Prelude.{Option, Some, None}
use Rattle.std.proofs.lemmas.List.{length-append, length-replicate}
use Rattle.smc_num.specs.declared.LinkId.{LinkId}
use Rattle.smc_num.specs.declared.LinkPhase.{LinkPhase}
use Rattle.smc_num.specs.declared.LinkPhase.TheVariants.{Unused, Pending, Live, Dead}
use Rattle.pipe_model.specs.declared.reply.Reply.{Reply}
use Rattle.pipe_model.specs.declared.reply.Reply.TheVariants.{Idle, Done as SaysDone}
use Rattle.pipe_model.specs.declared.reply.ResetCause.{ResetCause}
use Rattle.smc_num.specs.Names.{head, no_link}
use Rattle.cdc_wire.specs.declared.CdcMessage.{CdcMessage}
use Rattle.pipe_model.specs.declared.snapshot.Snapshot.{Snapshot}
use Rattle.pipe_model.specs.declared.sent.Sent.{Sent}
use Rattle.pipe_model.specs.Snapshot.{spelled, validation}
use Rattle.pipe_model.specs.Parts.{MayTake}
use Rattle.cdc_ring.specs.declared.Piece.{Piece}
use Rattle.conn_end.specs.Batches.{IsKeptPiece}
use Rattle.conn_end.specs.Arrivals.{IsTakable, IsSpelling, MayLand, MayComplete}
use Rattle.pipe_model.specs.Closing.{cause_of}
use Rattle.pipe_model.specs.Ends.{Half, fresh, meets_fate}
use Rattle.pipe_model.specs.Calls.{Told, Plain, Reads, Awaits, is_waiting, half_told}
use Rattle.conn_end.specs.declared.answers.EndReply.{EndReply}
use Rattle.conn_end.specs.declared.answers.EndReply.TheVariants.{Wrote, Full, Take, Empty, End, Ended, Done, Reset}
use Rattle.conn_end.specs.Kept.{Kept, IsKept, Represents, at_course}
use Rattle.conn_end.specs.Told.{told_of, awaited, Answers}
use Rattle.conn_end.proofs.Ends.{stands_there}

-- a plain end whose completed bytes are all 0
abbrev pub with_zeros : Kept → Half
with_zeros k = at_course k.course (record (fresh 1) { out = replicate k.course.fin.told 0 ++ k.ring.bytes })

drop_zeros : (n : ℕ) (bytes : List ℕ) → drop n (replicate n 0 ++ bytes) ≡ bytes
drop_zeros zero bytes = refl
drop_zeros (suc n) bytes = drop_zeros n bytes

pub stands_for_zeros : (k : Kept) → IsKept k → Represents k (with_zeros k)
stands_for_zeros k w =
    let n : ℕ = k.course.fin.told in
    stands_there k.size k.ring k.accepted k.course (record (fresh 1) { out = replicate n 0 ++ k.ring.bytes }) (with_zeros k) w
    (omega (arith, w.counted, length-append (replicate n 0) k.ring.bytes, length-replicate {A = ℕ} n 0)) (sym (drop_zeros n k.ring.bytes)) refl

pub fate_is_its_owners : (k : Kept) (h : Half) (link : LinkId) (stage : LinkPhase) → Represents k h → Represents k (meets_fate link stage h)
fate_is_its_owners k h link Unused s = s
fate_is_its_owners k h link Pending s = s
fate_is_its_owners k h link Live s = s
fate_is_its_owners k h link Dead s = s

-- what an await is told by a read's answer
abbrev pub waits : Told → Reply
waits t = cond (is_waiting t) Idle SaysDone

-- an await after a read: by the cause of a reset, and by what the read is told
awaits : (size : ℕ) (h : Half) (out : List ℕ) (cause : Option ResetCause) → half_told size Awaits h out cause ≡ Plain (waits (half_told size (Reads 1) h out cause))
awaits size h out None = refl
awaits size h out (Some cause) = refl

told_awaited : (reply : EndReply) (rd : ℕ) (out : List ℕ) → waits (told_of reply rd out) ≡ awaited reply
told_awaited (Wrote n) rd out = refl
told_awaited Full rd out = refl
told_awaited (Take from len) rd out = refl
told_awaited Empty rd out = refl
told_awaited End rd out = refl
told_awaited Ended rd out = refl
told_awaited Done rd out = refl
told_awaited (Reset cause) rd out = refl

pub an_await_is_told : (size : ℕ) (h : Half) (reply : EndReply) (out : List ℕ) → Answers size (Reads 1) h reply → half_told size Awaits h out (cause_of h.phase) ≡ Plain (awaited reply)
an_await_is_told size h reply out a = awaits size h out (cause_of h.phase) ∙ ap (λ (t : Told). Plain (waits t)) (sym (a.told out)) ∙ ap Plain (told_awaited reply h.rd out)

-- a spelled snapshot, and a spelled validation message, as messages that were sent
abbrev pub was_sent : Bool → Snapshot → Sent
was_sent check s = record { link = no_link; check = check; from = 0; snapshot = s }

pub spelled_by : (size token : ℕ) (m : CdcMessage) (s : Snapshot) → m ≡ spelled size token s → IsSpelling size m s (was_sent false s)
spelled_by size token m s e = record { spelled = e ∙ ap (λ t. spelled size t s) (sym (ap (λ (n : CdcMessage). n.token) e)); plainly = λ fresh. refl }

pub checked_by : (size token : ℕ) (m : CdcMessage) (s : Snapshot) → m ≡ validation size token s → IsSpelling size m s (was_sent true s)
checked_by size token m s e = record { spelled = e ∙ ap (λ t. validation size t s) (sym (ap (λ (n : CdcMessage). n.token) e)); plainly = λ fresh. refl }

-- an end may take a validation message at any time, and a snapshot where a plain end may for which it stands
pub may_take_check : (k : Kept) (token : ℕ) (m : CdcMessage) (s : Snapshot) → IsKept k → m ≡ validation k.size token s → MayLand k m s
may_take_check k token m s w e = record {
  end = with_zeros k;
  sent = was_sent true s;
  lands = record {
    stands = stands_for_zeros k w;
    spelling = checked_by k.size token m s e;
    taken = λ fresh. absurd (true≢false fresh);
  };
}

pub takable_spelled : (k : Kept) (token : ℕ) (m : CdcMessage) (s : Snapshot) → IsKept k → m ≡ spelled k.size token s → ((h : Half) → Represents k h → IsTakable k.size s h) → MayLand k m s
takable_spelled k token m s w e may = record {
  end = with_zeros k;
  sent = was_sent false s;
  lands = record {
    stands = stands_for_zeros k w;
    spelling = spelled_by k.size token m s e;
    taken = λ fresh. may (with_zeros k) (stands_for_zeros k w);
  };
}

-- the oldest snapshot under way may complete
pub may_complete_oldest : (k : Kept) (token : ℕ) (m : CdcMessage) (s : Snapshot) → IsKept k → m ≡ spelled k.size token s → head k.course.flight ≡ Some s → MayComplete k m s
may_complete_oldest k token m s w e first = record {
  end = with_zeros k;
  sent = was_sent false s;
  completes = record {
    stands = stands_for_zeros k w;
    spelling = spelled_by k.size token m s e;
    oldest = λ fresh. first;
  };
}

-- the bytes behind the completed ones are kept
pub keeps_first : (k : Kept) (piece : Piece) → IsKept k → piece.place ≡ k.course.fin.told % k.size → piece.len ≤ k.accepted - k.course.fin.told → IsKeptPiece k piece
keeps_first k piece w place len = record {
  end = with_zeros k;
  first = k.course.fin.told;
  holds = record {
    stands = stands_for_zeros k w;
    place = place;
    from = omega arith;
    to = omega (arith, w.counted, len, (stands_for_zeros k w).accepted);
  };
}

-- what lands in the pipe may be taken
pub takable : (size : ℕ) (s : Snapshot) (h : Half) → MayTake size s h → IsTakable size s h
takable size s h may = record { reads_on = may.reads_on; reads_accepted = may.reads_accepted; fits = may.fits; tells_on = may.tells_on }
