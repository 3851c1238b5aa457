-- Entries that change the flows of one side alone: a key request, a test, a trim, and most landings.
use Rattle.std.proofs.Common.{List, None, ap, arith, inl, inr, refl, subst, sym, true, ℕ, ◌∙◌, ◌∷◌, ◌≡◌, ◌⊎◌}
use Rattle.std.specs.Prelude.{Option}
use Rattle.history_laws.specs.Words.{A, B, Entry, Fabric, Flow, LinkId, Side, fabric, flow_of, is_first_contact, is_pending, link_at, link_or_none, made_on, peer, phase_at, table_of, with_peer}
use Rattle.link_laws.specs.Linked.{Under, under_in}
use Rattle.link_laws.proofs.Contact.Changes.{Calm, IsStarting, Moves}
use Rattle.link_laws.specs.Contact.{IsConfirming}

-- one side with other flows
abbrev reflow : Side → Flow → List LinkId → Fabric → Fabric
reflow x flow told f = with_peer x (record (peer x f) { flow = flow; told = told }) f

group-same : (x y : Side) (flow : Flow) (told : List LinkId) (f : Fabric) → (peer y (reflow x flow told f)).group ≡ (peer y f).group
group-same A A flow told f = refl
group-same A B flow told f = refl
group-same B A flow told f = refl
group-same B B flow told f = refl

table-same : (x y : Side) (flow : Flow) (told : List LinkId) (f : Fabric) → (peer y (reflow x flow told f)).table ≡ (peer y f).table
table-same A A flow told f = refl
table-same A B flow told f = refl
table-same B A flow told f = refl
table-same B B flow told f = refl

latest-same : (x : Side) (flow : Flow) (told : List LinkId) (f : Fabric) → Fabric.latest (reflow x flow told f) ≡ f.latest
latest-same A flow told f = refl
latest-same B flow told f = refl

flow-cases : (x y : Side) (flow : Flow) (told : List LinkId) (f : Fabric) → ((peer y (reflow x flow told f)).flow ≡ (peer y f).flow) ⊎ ((y ≡ x) × ((peer y (reflow x flow told f)).flow ≡ flow))
flow-cases A A flow told f = inr (refl, refl)
flow-cases A B flow told f = inl refl
flow-cases B A flow told f = inl refl
flow-cases B B flow told f = inr (refl, refl)

-- what such an entry does
pub moves-flow : (past : List Entry) (under : Option Under) (e : Entry) (x : Side) (flow : Flow) (told : List LinkId)
    → fabric (e ∷ past) ≡ with_peer x (record (peer x (fabric past)) { flow = flow; told = told }) (fabric past)
    → (is_first_contact flow.link ≡ true → is_first_contact (flow_of x past).link ≡ true)
    → (Calm past under → IsStarting x past → flow ≡ flow_of x past)
    → ((link : LinkId) → under ≡ None → IsConfirming B link past → under_in e.posts ≡ None)
    → Moves past under e
moves-flow past under e x flow told same first still none = record {
  group = λ y. inl (ap (λ (f : Fabric). (peer y f).group) same ∙ group-same x y flow told (fabric past));
  first = λ y h. (was y h (flow-cases x y flow told (fabric past)), ap (λ (f : Fabric). (peer y f).group) same ∙ group-same x y flow told (fabric past));
  pending = λ y l m at p. (ap (λ ks. link_at l.slot ks) (sym (table y)) ∙ at, ap (λ ks. is_pending (phase_at l.slot ks)) (sym (table y)) ∙ p);
  made = λ k. omega (arith, made k);
  next = λ t k. made k;
  empty = λ t. ap (λ (f : Fabric). f.b.group) same ∙ group-same x B flow told (fabric past);
  still = λ y c st g. (on y c st (flow-cases x y flow told (fabric past)), table y);
  none = none;
}
  where
    table : (y : Side) → table_of y (e ∷ past) ≡ table_of y past
    table y = ap (λ (f : Fabric). (peer y f).table) same ∙ table-same x y flow told (fabric past)

    made : (k : ℕ) → made_on k (fabric (e ∷ past)) ≡ made_on k (fabric past)
    made k = ap (λ f. made_on k f) same ∙ ap (λ ks. (link_or_none k ks).incarnation) (latest-same x flow told (fabric past))

    was : (y : Side) → is_first_contact (flow_of y (e ∷ past)).link ≡ true → ((peer y (reflow x flow told (fabric past))).flow ≡ flow_of y past) ⊎ ((y ≡ x) × ((peer y (reflow x flow told (fabric past))).flow ≡ flow)) → is_first_contact (flow_of y past).link ≡ true
    was y h (inl q) = ap (λ (f : Flow). is_first_contact f.link) (sym (ap (λ (f : Fabric). (peer y f).flow) same ∙ q)) ∙ h
    was y h (inr q) = subst (λ z. is_first_contact (flow_of z past).link ≡ true) (sym q.0) (first (ap (λ (f : Flow). is_first_contact f.link) (sym (ap (λ (f : Fabric). (peer y f).flow) same ∙ q.1)) ∙ h))

    on : (y : Side) → Calm past under → IsStarting y past → ((peer y (reflow x flow told (fabric past))).flow ≡ flow_of y past) ⊎ ((y ≡ x) × ((peer y (reflow x flow told (fabric past))).flow ≡ flow)) → flow_of y (e ∷ past) ≡ flow_of y past
    on y c st (inl q) = ap (λ (f : Fabric). (peer y f).flow) same ∙ q
    on y c st (inr q) = ap (λ (f : Fabric). (peer y f).flow) same ∙ q.1 ∙ still c (subst (λ z. IsStarting z past) q.0 st) ∙ ap (λ z. flow_of z past) (sym q.0)
