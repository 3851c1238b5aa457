-- For which plain ends what is kept stands, after its calls and news.
use Rattle.std.proofs.Common.{◌≡◌, ◌∙◌, ℕ, ◌≤◌, Bool, false, List, length, drop, refl, sym, ap, subst}
use Rattle.cdc_ring.specs.Kept.{Kept as KeptRing}
use Rattle.pipe_model.specs.Closing.{cause_of}
use Rattle.pipe_model.specs.Ends.{Half}
use Rattle.pipe_model.specs.Calls.{Call, half_told}
use Rattle.pipe_model.specs.Parts.{is_shut}
use Rattle.conn_end.specs.declared.answers.EndReply.{EndReply}
use Rattle.conn_end.specs.Kept.{Course, at_course, IsWhole, Agrees}
use Rattle.conn_end.specs.Told.{told_of, IsPlaced, Answers}

-- what is kept stands for an end
abbrev pub Stands : ℕ → KeptRing → ℕ → Course → Half → Type 0
Stands size ring count c h = Agrees size ring count c h.out h.rd h.taken h.fin h.last h.number h.flight h.phase h.finished

-- an end for which what is kept stands has come as far
pub came : (size : ℕ) (ring : KeptRing) (count : ℕ) (c : Course) (h : Half) → Stands size ring count c h → at_course c h ≡ h
came size ring count c h s = λ i. record h { rd = s.read i; taken = s.taken i; fin = s.fin i; last = s.last i; number = s.number i; flight = s.flight i; phase = s.phase i; finished = s.finished i }

-- what is kept stands for an end that has come as far, with the bytes of another one
pub stands_there : (size : ℕ) (ring : KeptRing) (count : ℕ) (c : Course) (h g : Half) → IsWhole size ring count c → count ≡ length h.out → ring.bytes ≡ drop c.fin.told h.out → at_course c h ≡ g → Stands size ring count c g
stands_there size ring count c h g whole counted bytes e = subst (λ (g : Half). Stands size ring count c g) e (record {
  whole = whole;
  accepted = counted;
  bytes = bytes;
  read = refl;
  taken = refl;
  fin = refl;
  last = refl;
  number = refl;
  flight = refl;
  phase = refl;
  finished = refl;
})

-- after a call or news that leaves its bytes
pub after : (size : ℕ) (ring : KeptRing) (count : ℕ) (c d : Course) (h : Half) (f : Half → Half) → Stands size ring count c h → IsWhole size ring count d → d.fin ≡ c.fin → at_course d h ≡ f (at_course c h) → Stands size ring count d (f h)
after size ring count c d h f s whole fin e =
    stands_there size ring count d h (f h) whole s.accepted (s.bytes ∙ ap (λ t. drop t.told h.out) (sym (fin ∙ s.fin))) (e ∙ ap f (came size ring count c h s))

-- an answer that is right for an end that has come as far is right for the end
pub answers : (size : ℕ) (call : Call) (reply : EndReply) (ring : KeptRing) (count : ℕ) (c : Course) (h : Half) → Stands size ring count c h → ((peer_out : List ℕ) → told_of reply c.read peer_out ≡ half_told size call (at_course c h) peer_out (cause_of c.phase)) → IsPlaced size c.read reply → Answers size call h reply
answers size call reply ring count c h s told place = subst (λ (q : Half). Answers size call q reply) (came size ring count c h s) (record { told = told; place = place })

-- what holds of an end holds once its phase has gone on, unless it is open again
pub whole_phase : (size : ℕ) (ring : KeptRing) (count : ℕ) (c d : Course) → IsWhole size ring count c → d ≡ record c { phase = d.phase; finished = d.finished } → (is_shut d.phase ≡ false → is_shut c.phase ≡ false) → IsWhole size ring count d
whole_phase size ring count c d w e shut = subst (λ (x : Course). IsWhole size ring count x) (sym e) (record {
  few = w.few;
  most = w.most;
  ring = w.ring;
  counted = w.counted;
  climbs = w.climbs;
  last = w.last;
  reads = λ o. w.reads (shut o);
})

-- and once it has read told bytes
pub whole_read : (size : ℕ) (ring : KeptRing) (count : ℕ) (c d : Course) → IsWhole size ring count c → d ≡ record c { read = d.read } → (is_shut d.phase ≡ false → d.read ≤ d.taken.told) → IsWhole size ring count d
whole_read size ring count c d w e told = subst (λ (x : Course). IsWhole size ring count x) (sym e) (record {
  few = w.few;
  most = w.most;
  ring = w.ring;
  counted = w.counted;
  climbs = w.climbs;
  last = w.last;
  reads = λ o. subst (λ (t : ℕ). d.read ≤ t) (ap (λ (x : Course). x.taken.told) e) (told (ap (λ (x : Course). is_shut x.phase) e ∙ o));
})

-- the same where only the phase has changed
pub phase_only : (c d : Course) → d ≡ record c { phase = d.phase } → d ≡ record c { phase = d.phase; finished = d.finished }
phase_only c d e = e ∙ ap (λ (b : Bool). record c { phase = d.phase; finished = b }) (sym (ap (λ (x : Course). x.finished) e))
