use Rattle.std.proofs.Common.{◌≡◌, ◌∙◌, ℕ, List, [], ◌∷◌, ◌++◌, length, sym, ap, subst, arith, rules}
use Rattle.cdc_ring.specs.Rings.{last_from, posts}
use Rattle.cdc_ring.specs.Kept.{Kept, IsKept, Represents}
use Rattle.cdc_ring.proofs.Standing.{kept-posted, posted_more, posted_nothing}
use Rattle.cdc_ring.proofs.SendRing.posted.Goals as goal

pub invariant_of-self : goal.invariant_of-self
invariant_of-self c =
    let r = c.self.inside in
    let k : Kept = record { size = r.size; completed = r.completed; bytes = r.bytes.items; marks = r.marks.items; acked = r.acked; unread = r.unread } in
    let low : c.last_mark.result ≡ last_from 0 k.marks = search rules in
    let len : c.len-held.result ≡ length k.bytes = search rules in
    let marks : c.push.new.self.items ≡ k.marks ++ length k.bytes ∷ [] = c.push.ensures.items ∙ ap (λ n. k.marks ++ n ∷ []) len in
    (c.self.invariant.0, subst (λ (ms : List ℕ). IsKept (record k { marks = ms })) (sym marks) (kept-posted k c.self.invariant.1 (omega (arith, low, len, c.if-last_mark-held.true))))

pub returns-then-last_mark-held : goal.returns-then-last_mark-held
returns-then-last_mark-held c = λ ring stands.
    let r = c.self.inside in
    let k : Kept = record { size = r.size; completed = r.completed; bytes = r.bytes.items; marks = r.marks.items; acked = r.acked; unread = r.unread } in
    let low : c.last_mark.result ≡ last_from 0 k.marks = search rules in
    let len : c.len-held.result ≡ length k.bytes = search rules in
    let marks : c.push.new.self.items ≡ k.marks ++ length k.bytes ∷ [] = c.push.ensures.items ∙ ap (λ n. k.marks ++ n ∷ []) len in
    subst (λ (ms : List ℕ). Represents (record k { marks = ms }) (posts ring)) (sym marks) (posted_more k c.self.invariant.1 (omega (arith, low, len, c.if-last_mark-held.true)) ring (subst (λ v. Represents v ring) (sym c.self.view_is) stands))

pub returns-else-last_mark-held : goal.returns-else-last_mark-held
returns-else-last_mark-held c = λ ring stands.
    let r = c.self.inside in
    let k : Kept = record { size = r.size; completed = r.completed; bytes = r.bytes.items; marks = r.marks.items; acked = r.acked; unread = r.unread } in
    let low : c.last_mark.result ≡ last_from 0 k.marks = search rules in
    let len : c.len-held.result ≡ length k.bytes = search rules in
    subst (λ v. Represents v (posts ring)) c.self.view_is (posted_nothing k (omega (arith, low, len, c.if-last_mark-held.false)) ring (subst (λ v. Represents v ring) (sym c.self.view_is) stands))
