-- What a verdict leaves as it is, and the manager after a message was taken.
-- A reader learns here that a verdict changes the handshake of its own socket alone, and no buffer.
use Rattle.std.proofs.Common.{◌≡◌, ◌∙◌, ◌<◌, ◌^◌, ℕ, arith, Bool, true, false, List, Option, Some, None, refl, sym, ap, subst}
use Rattle.std.specs.Prelude.{slice_index_or, slice_set}
use Rattle.smc_num.specs.declared.LinkId.{LinkId}
use Rattle.clc_wire.specs.declared.message.ClcMessage.{ClcMessage}
use Rattle.clc_wire.specs.declared.message.ClcMessage.TheVariants.{Accept, Confirm}
use Rattle.clc_handshake.specs.Stages.{Hand, after_step}
use Rattle.pipe_model.specs.declared.verdict.ClcStep.{ClcStep}
use Rattle.pipe_model.specs.declared.verdict.ClcStep.TheVariants.{SendAccept, SendConfirm, AskKey, Decline, Fell, Ready, Lost, Wrong}
use Rattle.pipe_model.specs.Ends.{Half}
use Rattle.pipe_model.specs.Handshake.{verdict}
use Rattle.conn_end.specs.Kept.{Kept}
use Rattle.side_core.specs.Records.{Connection, conn_at}
use Rattle.side_core.specs.Desk.{Desk, lacks_of}
use Rattle.side_core.specs.Manager.{IsWorking, Manager, Works, Represents, no_hand, hand_at, state_at, with_hand}
use Rattle.side_core.specs.Taking.{verdict_at, by_verdict, quits_from, takes_message}
use Rattle.side_core.proofs.Elements.{by_if}
use Rattle.side_core.specs.Taking.{MayTake}
use Rattle.side_core.specs.Acting.{IsSoundAt}
use Rattle.side_core.specs.Fit.{Allows, IsManager}
use Rattle.side_core.proofs.Managers.Allowed.{allowed, asks_no_key}
use Rattle.side_core.proofs.Managers.Takes.{takes_fit}
use Rattle.pipe_model.specs.Pipe.{Terms}
use Rattle.side_core.proofs.Managers.Managing.{take_plain}
use Rattle.side_core.proofs.Sockets.{works_hand}

-- that a manager has the handshakes and the buffers of another one
record IsBeside (m n : Manager Half) : Type 0 where
  hands : n.hands ≡ m.hands
  regions : n.regions ≡ m.regions

quits_beside : (s : ℕ) (o : Option (Connection Half)) (m : Manager Half) → IsBeside m (quits_from s o m)
quits_beside s None m = record { hands = refl; regions = refl }
quits_beside s (Some c) m = record { hands = refl; regions = refl }

by_beside : (s : ℕ) (message : ClcMessage) (link : LinkId) (paths : List Bool) (m : Manager Half) (step : ClcStep) → IsBeside m (by_verdict s message link paths m step)
by_beside s message link paths m (SendAccept true) = record { hands = refl; regions = refl }
by_beside s message link paths m (SendAccept false) = record { hands = refl; regions = refl }
by_beside s (Accept o) link paths m (SendConfirm true) = record { hands = refl; regions = refl }
by_beside s (Accept o) link paths m (SendConfirm false) = record { hands = refl; regions = refl }
by_beside s (Confirm o) link paths m Ready = by_if (IsBeside m) o.first _ _ (λ _. record { hands = refl; regions = refl }) (λ _. record { hands = refl; regions = refl })
by_beside s message link paths m (Decline lack) = quits_beside s (conn_at s m.records) m
by_beside s message link paths m Fell = quits_beside s (conn_at s m.records) m
by_beside s message link paths m Lost = quits_beside s (conn_at s m.records) m
by_beside s message link paths m (Wrong kind) = quits_beside s (conn_at s m.records) m
by_beside s message link paths m step = record { hands = refl; regions = refl }

-- the verdict is the plain manager's
pub same_verdict : (s : ℕ) (message : ClcMessage) (paths : List Bool) (v : Manager Kept) (m : Manager Half) → Represents v m → verdict_at s message paths v ≡ verdict_at s message paths m
same_verdict s message paths v m stands =
    ap (λ (hands : List Hand). verdict (slice_index_or hands s no_hand).raw (slice_index_or hands s no_hand).state message (lacks_of paths v.desk)) stands.hands
    ∙ ap (λ (d : Desk). verdict (hand_at s m).raw (state_at s m) message (lacks_of paths d)) stands.works.desk

-- the handshake of a socket after a step
abbrev pub stepped : {E : Type 0} → ℕ → ClcMessage → ClcStep → Manager E → Hand
stepped s message step m = record (hand_at s m) { state = after_step step message (state_at s m) }

-- the manager after it took a message
pub taken_stands : (s : ℕ) (message : ClcMessage) (link : LinkId) (paths : List Bool) (v w : Manager Kept) (m : Manager Half) (step : ClcStep) → Represents v m → step ≡ verdict_at s message paths m
    → Works w.desk w.records (by_verdict s message link paths m step) → w.hands ≡ slice_set v.hands s (stepped s message step v) → w.regions ≡ v.regions → Represents w (takes_message s message link paths m)
taken_stands s message link paths v w m step stands is works hands regions =
    subst (λ (x : ClcStep). Represents w (with_hand s (stepped s message x m) (by_verdict s message link paths m x))) is stands_then
  where
    beside : IsBeside m (by_verdict s message link paths m step)
    beside = by_beside s message link paths m step

    stands_then : Represents w (with_hand s (stepped s message step m) (by_verdict s message link paths m step))
    stands_then = record {
      works = works_hand s (stepped s message step m) w.desk w.records (by_verdict s message link paths m step) works;
      hands = hands
          ∙ ap (λ (hs : List Hand). slice_set hs s (record (slice_index_or hs s no_hand) { state = after_step step message (slice_index_or hs s no_hand).state })) stands.hands
          ∙ ap (λ (hs : List Hand). slice_set hs s (stepped s message step m)) (sym beside.hands);
      regions = regions ∙ stands.regions ∙ sym beside.regions;
    }

-- the step may be carried out
pub judged : (s : ℕ) (message : ClcMessage) (link : LinkId) (paths : List Bool) (v : Manager Kept) (step : ClcStep) → IsManager v → MayTake s message link paths v → step ≡ verdict_at s message paths v → IsSoundAt v.records.terms.size (conn_at s v.records) → Allows s step message link paths v.desk v.records
judged s message link paths v step i may is sound =
    subst (λ (d : Desk). Allows s step message link paths d v.records) (sym i.stands.works.desk)
    (allowed s message link paths i.plain v.records step i.fit (take_plain s message link paths v i.plain i.stands may) (is ∙ same_verdict s message paths v i.plain i.stands) i.stands.works.records sound)

-- it never asks for a key
pub never_asks : (s : ℕ) (message : ClcMessage) (link : LinkId) (paths : List Bool) (v : Manager Kept) → IsManager v → MayTake s message link paths v → verdict_at s message paths v ≡ AskKey → ⊥
never_asks s message link paths v i may asks = asks_no_key s message link paths i.plain i.fit (take_plain s message link paths v i.plain i.stands may) (sym asks ∙ same_verdict s message paths v i.plain i.stands)

-- and all fits then
pub taken_kept : (s : ℕ) (message : ClcMessage) (link : LinkId) (paths : List Bool) (v w : Manager Kept) (step : ClcStep) → (i : IsManager v) → MayTake s message link paths v → step ≡ verdict_at s message paths v
    → ((m : Manager Half) → Works v.desk v.records m → Works w.desk w.records (by_verdict s message link paths m step)) → w.hands ≡ slice_set v.hands s (stepped s message step v) → w.regions ≡ v.regions → IsManager w
taken_kept s message link paths v w step i may is works hands regions = record {
  plain = takes_message s message link paths i.plain;
  stands = taken_stands s message link paths v w i.plain step i.stands (is ∙ same_verdict s message paths v i.plain i.stands) (works i.plain i.stands.works) hands regions;
  fit = takes_fit s message link paths i.plain i.fit (take_plain s message link paths v i.plain i.stands may);
}

-- and the side works
pub working : (v : Manager Kept) → IsManager v → IsWorking v.desk v.records
working v i = record {
  plain = i.plain;
  works = i.stands.works;
  number =
      let most : i.plain.desk.setup.number < 2 ^ 16 = i.fit.set.most in
      let same : v.records.terms.number ≡ i.plain.desk.setup.number = ap (λ (t : Terms). t.number) (i.stands.works.records.terms ∙ i.fit.terms) in
      omega (arith, most, same);
}
