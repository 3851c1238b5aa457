-- A link that was ever made has stood at a side: so each link that was ever the latest of its slot stands at a side or was lost there.
use Rattle.std.proofs.Common.{List, Some, [], ap, false, if◌then◌else◌, inl, inr, refl, subst, sym, true, true≢false, ℕ, ◌+◌, ◌==◌, ◌||◌, ◌∙◌, ◌∷◌, ◌≡◌, ◌⊎◌}
use Rattle.pipe_model.specs.Fabric.{does}
use Rattle.pipe_model.specs.declared.flow.FlowStep.TheVariants.{Live}
use Rattle.history_laws.specs.Words.{A, B, Entry, Fabric, FlowStep, Gone, LinkId, LlcMessage, Peer, Pending, ReplyAdd, Setup, Side, begins_group, fabric, flow_after, latest, link_at, lowest_live, made_on, makes, named_slot, peer, put, reports, stands, table_of, with_flow, with_peer}
use Rattle.history_laws.proofs.Basics.{by-bool, none-is, or-true, some-is}
use Rattle.history_laws.specs.Made.{IsMadeAll}
use Rattle.link_laws.proofs.Lasting.Links.{not-lost, put-there, stands-known, stands-or-lost}
use Rattle.link_laws.proofs.Sound.{put-link}
use Rattle.link_laws.proofs.Fabric.{fabric-after}
use Rattle.link_laws.specs.Lasting.{AllFlows, has_stood, is_lost}

-- a link that is the latest of its slot was so before, or stands at A
abbrev Comes : Fabric → Fabric → Type 0
Comes f g = (l : LinkId) → link_at l.slot g.latest ≡ Some l → (link_at l.slot f.latest ≡ Some l) ⊎ (stands l (peer A g).table ≡ true)

comes-made : (f h : Fabric) (link : LinkId) → h.latest ≡ f.latest → Comes f (makes link h)
comes-made f h link same l at = by-bool ((link_at l.slot f.latest ≡ Some l) ⊎ (stands l (peer A (makes link h)).table ≡ true)) (link.slot == l.slot)
    (λ q. inr (subst (λ k. stands k (put (record { link = link; phase = Pending }) h.a.table) ≡ true) (some-is link l (sym (ap (λ b. if b then Some link else link_at l.slot h.latest) q) ∙ here)) (put-there link h.a.table)))
    (λ q. inl (ap (λ ks. link_at l.slot ks) (sym same) ∙ (sym (ap (λ b. if b then Some link else link_at l.slot h.latest) q) ∙ here)))
  where
    here : (if link.slot == l.slot then Some link else link_at l.slot h.latest) ≡ Some l
    here = sym (put-link l.slot (record { link = link; phase = Pending }) h.latest) ∙ at

comes-peer : (f : Fabric) (x : Side) (p : Peer) → Comes f (with_peer x p f)
comes-peer f A p l at = inl at
comes-peer f B p l at = inl at

comes-does : (f : Fabric) (x : Side) (l : LinkId) (m : LlcMessage) (step : FlowStep) → Comes f (does x l m step f)
comes-does f A l m (Live reply first) = λ k at. inl at
comes-does f A l m (ReplyAdd false) = comes-made f (with_peer A (with_flow (flow_after (ReplyAdd false) m l.slot (lowest_live f.a.table)) f.a) f) (record { group = f.a.group; slot = named_slot m l.slot; incarnation = made_on (named_slot m l.slot) f + 1 }) refl
comes-does f A l m (ReplyAdd true) = λ k at. inl at
comes-does f A l m (Gone true) = λ k at. inl at
comes-does f A l m (Gone false) = λ k at. inl at
comes-does f A l m step = λ k at. inl at
comes-does f B l m (Live reply first) = λ k at. inl at
comes-does f B l m (ReplyAdd false) = comes-made f (with_peer B (with_flow (flow_after (ReplyAdd false) m l.slot (lowest_live f.b.table)) f.b) f) (record { group = f.b.group; slot = named_slot m l.slot; incarnation = made_on (named_slot m l.slot) f + 1 }) refl
comes-does f B l m (ReplyAdd true) = λ k at. inl at
comes-does f B l m (Gone true) = λ k at. inl at
comes-does f B l m (Gone false) = λ k at. inl at
comes-does f B l m step = λ k at. inl at

comes-with : (e : Entry) (past : List Entry) → Comes (fabric past) (fabric (e ∷ past))
comes-with e past = fabric-after e past (λ g. Comes (fabric past) g) (record {
  was = λ l at. inl at;
  begun_b = λ link o i n. comes-peer (fabric past) B (begins_group link.group);
  begun_a = λ link o i n. comes-made (fabric past) (with_peer A (begins_group link.group) (fabric past)) link refl;
  asked = λ x flow told r. comes-peer (fabric past) x (record (peer x (fabric past)) { flow = flow; told = told });
  taken = λ x act is q. comes-does (fabric past) x act.link act.message act.step;
  reported = λ x k. comes-peer (fabric past) x (reports k (peer x (fabric past)));
})

-- the latest link of a slot has stood at a side
pub latest-stood : (past : List Entry) (l : LinkId) → latest l.slot past ≡ Some l → has_stood l past ≡ true
latest-stood [] l at = absurd (none-is l at)
latest-stood (e ∷ past) l at = elim (comes-with e past l at) [
  | inl old ↦ or-true (stands l (table_of A (e ∷ past)) || stands l (table_of B (e ∷ past))) (has_stood l past) (latest-stood past l old)
  | inr s ↦ stands-known A l (e ∷ past) s
]

-- the latest link of a slot, and each that ever stood, stands at a side and was not lost there, or was lost there and does not stand
pub one-of-both : (setup : Setup) (payload : List ℕ) (past : List Entry) → IsMadeAll setup payload past → AllFlows setup payload past → (x : Side) (link : LinkId) → has_stood link past ≡ true
    → ((stands link (table_of x past) ≡ true) × (is_lost x link past ≡ false)) ⊎ ((stands link (table_of x past) ≡ false) × (is_lost x link past ≡ true))
one-of-both setup payload past m flows x link h = elim (stands-or-lost setup payload past m flows x link h) [
  | inl s ↦ inl (s, not-lost setup payload past m flows x link s)
  | inr l ↦ by-bool _ (stands link (table_of x past)) (λ s. absurd (true≢false (sym l ∙ not-lost setup payload past m flows x link s))) (λ s. inr (s, l))
]
