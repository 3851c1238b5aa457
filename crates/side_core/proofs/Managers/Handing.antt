-- What an answer to a read hands out.
-- A reader learns here that it is never more than was asked for, nor than an element has.
use Rattle.std.proofs.Common.{◌≡◌, ◌∙◌, ℕ, ◌+◌, ◌-◌, ◌≤◌, ◌==◌, ◌||◌, nat_lt, min, List, [], ◌∷◌, length, take, drop, replicate, Option, Some, None, unwrap_or, option_map, sym, ap, subst, arith}
use Rattle.std.proofs.lemmas.List.{length-take, length-drop, length-replicate}
use Rattle.rmb_region.specs.Regions.{Buffer}
use Rattle.pipe_model.specs.declared.reply.Reply.{Reply}
use Rattle.pipe_model.specs.declared.reply.ResetCause.{ResetCause}
use Rattle.pipe_model.specs.Closing.{cause_of, is_closing}
use Rattle.pipe_model.specs.Ends.{Half, fresh, unread}
use Rattle.pipe_model.specs.Calls.{Told, Plain, Hands, Reads, half_told}
use Rattle.conn_end.specs.Kept.{Kept}
use Rattle.conn_end.specs.declared.answers.EndReply.{EndReply}
use Rattle.conn_end.specs.declared.answers.EndReply.TheVariants.{Take}
use Rattle.conn_end.specs.Told.{Answers}
use Rattle.side_core.specs.declared.route.Route.{Route}
use Rattle.side_core.specs.Desk.{Desk}
use Rattle.side_core.specs.Records.{Connection, StandsAt, conn_at, half_at, route_at}
use Rattle.side_core.specs.Manager.{Manager}
use Rattle.side_core.specs.Acting.{IsSoundAt, MayHand, IsHandable}
use Rattle.side_core.specs.Fit.{HasElement, IsOneBuffer, IsManager}
use Rattle.pipe_model.specs.declared.snapshot.Snapshot.{Snapshot}
use Rattle.pipe_model.specs.Pipe.{Terms}
use Rattle.pipe_model.specs.Words.{element_size}
use Rattle.side_core.proofs.Elements.{by_if}
use Rattle.side_core.proofs.Ends.{same_size}
use Rattle.side_core.proofs.Managers.Managing.{has_here}

-- how many bytes are handed out
abbrev pub handed_len : Told → ℕ
handed_len (Plain reply) = 0
handed_len (Hands bytes) = length bytes

-- that they are no more than was asked for, nor than is unread
record IsFew (n : ℕ) (h : Half) (told : Told) : Type 0 where
  asked : handed_len told ≤ n
  unread_too : handed_len told ≤ unread h

none_handed : (n : ℕ) (h : Half) (reply : Reply) → IsFew n h (Plain reply)
none_handed n h reply = record { asked = omega arith; unread_too = omega arith }

few_told : (size n : ℕ) (h : Half) (out : List ℕ) (cause : Option ResetCause) → IsFew n h (half_told size (Reads n) h out cause)
few_told size n h out None =
    by_if (IsFew n h) (is_closing h.phase) _ _ (λ _. none_handed n h _) (λ _.
    by_if (IsFew n h) (n == 0) _ _ (λ _. record { asked = omega arith; unread_too = omega arith }) (λ _.
    by_if (IsFew n h) (nat_lt 0 (unread h)) _ _ (λ _. few) (λ _.
    by_if (IsFew n h) (h.taken.done || h.taken.closed) _ _ (λ _. none_handed n h _) (λ _. none_handed n h _))))
  where
    few : IsFew n h (Hands (take (min n (unread h)) (drop h.rd out)))
    few = let e = length-take (min n (unread h)) (drop h.rd out) in record { asked = omega (arith, e); unread_too = omega (arith, e) }
few_told size n h out (Some cause) = none_handed n h _

few_answered : (size n from len : ℕ) (h : Half) → Answers size (Reads n) h (Take from len) → (len ≤ n) × (len ≤ unread h)
few_answered size n from len h answers =
    let out : List ℕ = replicate (h.rd + len) 0 in
    let few : IsFew n h (half_told size (Reads n) h out (cause_of h.phase)) = few_told size n h out (cause_of h.phase) in
    let same : length (take len (drop h.rd out)) ≡ handed_len (half_told size (Reads n) h out (cause_of h.phase)) = ap handed_len (answers.told out) in
    let all : length out ≡ h.rd + len = length-replicate (h.rd + len) 0 in
    let rest : length (drop h.rd out) ≡ length out - h.rd = length-drop h.rd out in
    let front : length (take len (drop h.rd out)) ≡ min len (length (drop h.rd out)) = length-take len (drop h.rd out) in
    let asked = few.asked in
    let unread_too = few.unread_too in
    (omega (arith, same, all, rest, front, asked), omega (arith, same, all, rest, front, unread_too))

-- what is unread fits into an element
unread_few : (size number : ℕ) (k : Option (Connection Kept)) (c : Option (Connection Half)) → StandsAt k c → IsSoundAt size k → unread (unwrap_or (option_map (λ (x : Connection Half). x.end) c) (fresh number)) ≤ size
unread_few size number None None stands sound = omega arith
unread_few size number None (Some c) stands sound = absurd stands
unread_few size number (Some k) None stands sound = absurd stands
unread_few size number (Some k) (Some c) stands sound =
    let fits = sound.fits in
    let read = stands.end.read in
    let told : k.end.course.taken.told ≡ c.end.taken.told = ap (λ (s : Snapshot). s.told) stands.end.taken in
    omega (arith, fits, read, told)

may_hand : (reply : EndReply) (o : Option Route) (s : ℕ) (d : Desk) (buffers : List Buffer) (size n : ℕ) (h : Half) → HasElement s d o → IsOneBuffer d buffers → size ≡ element_size d.setup → Answers size (Reads n) h reply → unread h ≤ size → MayHand reply o buffers n
may_hand (Take from len) (Some r) s d [] size n h has one same answers few = absurd one
may_hand (Take from len) (Some r) s d (b ∷ c ∷ bs) size n h has one same answers few = absurd one
may_hand (Take from len) (Some r) s d (b ∷ []) size n h has one same answers few =
    let both = few_answered size n from len h answers in
    let asked : len ≤ n = both.0 in
    let fits : len ≤ unread h = both.1 in
    let b_size = one.2 in
    let b_elements = one.1 in
    let low = has.0.low in
    let high = has.0.high in
    subst (λ k. IsHandable len k r.element.index n (b ∷ [])) (sym has.0.rmb) (record {
      room_for = asked;
      some = omega arith;
      there = omega arith;
      within = subst (λ k. len ≤ k) (sym b_size) (subst (λ k. len ≤ k) same (omega (arith, fits, few)));
      low = low;
      high = subst (λ k. r.element.index ≤ k) (sym b_elements) high;
    })
may_hand reply o s d buffers size n h has one same answers few = _

-- an answer to a read may hand its bytes out
pub handable : (s n : ℕ) (v : Manager Kept) (reply : EndReply) (i : IsManager v) → IsSoundAt v.records.terms.size (conn_at s v.records) → Answers v.records.terms.size (Reads n) (half_at s i.plain.records) reply → MayHand reply (route_at s v.records) v.regions n
handable s n v reply i sound answers =
    may_hand reply (route_at s v.records) s v.desk v.regions v.records.terms.size n (half_at s i.plain.records) (has_here s v i)
    (subst (λ (d : Desk). IsOneBuffer d v.regions) (sym i.stands.works.desk) (subst (λ bs. IsOneBuffer i.plain.desk bs) (sym i.stands.regions) i.fit.buffer))
    (same_size v i.plain i.stands ∙ ap (λ (t : Terms). t.size) i.fit.terms ∙ ap (λ (d : Desk). element_size d.setup) (sym i.stands.works.desk))
    answers (unread_few v.records.terms.size i.plain.records.terms.number (conn_at s v.records) (conn_at s i.plain.records) (i.stands.works.records.each s) sound)
