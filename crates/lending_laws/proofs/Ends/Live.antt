-- An end has the live links of its side while the side is in its group, up or not; so an up end whose group stands has them.
use Rattle.std.proofs.Common.{Bool, List, [], ap, eq-eqb, eqb-true, false, filter_map, if◌then◌else◌, inl, inr, not, refl, subst, sym, true, true≢false, ℕ, ◌&&◌, ◌==◌, ◌∙◌, ◌∷◌, ◌≡◌, ◌≢◌}
use Rattle.std.proofs.lemmas.Bool.{ne_eqb}
use Rattle.pipe_model.specs.Connections.{comes_up}
use Rattle.std.specs.Prelude.{None, Option, Some, is_some, option_and_then, option_map, unwrap_or}
use Rattle.pipe_model.specs.declared.flow.FlowStep.TheVariants.{Live}
use Rattle.history_laws.specs.Words.{A, Act, B, Entry, FlowStep, Half, LinkId, Offered, Setup, Side, act_in, confirmed_by, fabric, fate_of, fates, group_of, group_on, half, has_ended, is_first_on, is_up, live_links, loses_group_with, offered, peer, pipe_of, same_link, stands, table_of, terms_of}
use Rattle.history_laws.proofs.Items.{entry-live, forth, pipe-is-up}
use Rattle.history_laws.proofs.Basics.{and-both, by-bool, link-is, none-is, or-left, or-none, or-parts, or-true}
use Rattle.history_laws.specs.Made.{IsMadeAll}
use Rattle.history_laws.proofs.Offers.{all-offers, kept, states}
use Rattle.link_laws.proofs.Lasting.{ByPhase, ByPut, Changed, EndsHere, Entered, NoneLiveOf, Shape, Starts, Stays, entered, live-made, live-mapped, live-none, none-live-stands, other-group, shapes}
use Rattle.link_laws.specs.Linked.{AreOf, Begins, Confirms, Goes, HasNone, IsOwn, IsSound}
use Rattle.link_laws.specs.Lasting.{AllFlows, InOrEnded}
use Rattle.link_laws.proofs.Waiting.{by-kind}
use Rattle.link_laws.proofs.Sound.{has-group}
use Rattle.lending_laws.specs.Ends.{AllBegin, BeginsNew, HasLive, HasLiveIn}
use Rattle.lending_laws.specs.Owed.{AllOwn}
use Rattle.lending_laws.proofs.Ends.Comes.{later-offer}
use Rattle.lending_laws.proofs.Lendings.{grouped-own}

module _ (setup : Setup) (payload : List ℕ) (e : Entry) (past : List Entry) (it : Entered e past) (begins : BeginsNew e past) (x : Side) (s g : ℕ) (some : g ≡ 0 → ⊥) (was : HasLiveIn setup payload x s g past) where
  abbrev old : Half
  old = half x (pipe_of setup payload g s past)

  abbrev new : Half
  new = half x (pipe_of setup payload g s (e ∷ past))

  live-is : new.live ≡ forth x (fates x g e past) old.live
  live-is = let h = entry-live (terms_of setup) x payload g s e past in h.0

  stands-is : new.stands ≡ (not (loses_group_with x g e past) && old.stands)
  stands-is = let h = entry-live (terms_of setup) x payload g s e past in h.1

  own : IsOwn x (peer x (fabric past))
  own = it.linked.own x

  own-after : IsOwn x (peer x (fabric (e ∷ past)))
  own-after = it.linked_after.own x

  -- no group is lost where the side is in it after the entry, or was not in it
  kept-here : group_of x (e ∷ past) ≡ g → loses_group_with x g e past ≡ false
  kept-here h = by (not (g == 0)) (group_of x past == g) (eq-eqb (group_of x (e ∷ past)) g h)
    where
      by : (a b : Bool) → (group_of x (e ∷ past) == g) ≡ true → (a && (b && not (group_of x (e ∷ past) == g))) ≡ false
      by true true q = ap not q
      by true false q = refl
      by false b q = refl

  kept-apart : (group_of x past == g) ≡ false → loses_group_with x g e past ≡ false
  kept-apart h = by (not (g == 0)) (group_of x past == g) h
    where
      by : (a b : Bool) → b ≡ false → (a && (b && not (group_of x (e ∷ past) == g))) ≡ false
      by true true q = absurd (true≢false q)
      by true false q = refl
      by false b q = refl

  is-lost : (group_of x past == g) ≡ true → (group_of x (e ∷ past) == g) ≡ false → loses_group_with x g e past ≡ true
  is-lost p q = ap (λ b. not b && ((group_of x past == g) && not (group_of x (e ∷ past) == g))) (ne_eqb g 0 some) ∙ (ap (λ b. b && not (group_of x (e ∷ past) == g)) p ∙ ap not q)

  standing : loses_group_with x g e past ≡ false → old.stands ≡ true → new.stands ≡ true
  standing l t = stands-is ∙ (ap (λ b. not b && old.stands) l ∙ t)

  -- the group goes on
  goes-on : group_of x past ≡ g → group_of x (e ∷ past) ≡ g → new.live ≡ live_links (table_of x (e ∷ past))
  goes-on p q = live-is ∙ (ap (λ ls. forth x (fates x g e past) ls) (let h = was.here p in h.0) ∙ by (shapes e past it x))
    where
      of : AreOf g (table_of x (e ∷ past))
      of = subst (λ n. AreOf n (table_of x (e ∷ past))) q (own-after.owned (λ z. some (sym q ∙ z)))

      changed : Changed (table_of x past) (table_of x (e ∷ past)) → forth x (fates x g e past) (live_links (table_of x past)) ≡ live_links (table_of x (e ∷ past))
      changed (ByPhase f same may is) = ap (λ u. forth x (filter_map (fate_of x g (table_of x past)) u) (live_links (table_of x past))) is
          ∙ (live-mapped x g (table_of x past) f same may own.rises (subst (λ u. AreOf g u) is of) ∙ ap live_links (sym is))
      changed (ByPut link e is) = ap (λ u. forth x (filter_map (fate_of x g (table_of x past)) u) (live_links (table_of x past))) is
          ∙ (live-made x g (table_of x past) link own.rises e ∙ ap live_links (sym is))

      by : Shape x e (peer x (fabric past)) (peer x (fabric (e ∷ past))) → forth x (fates x g e past) (live_links (table_of x past)) ≡ live_links (table_of x (e ∷ past))
      by (Stays h c) = changed c
      by (EndsHere h) = absurd (some (sym q ∙ h))
      by (Starts link o i h l n k) = absurd (some (sym p ∙ begins.none x link o i))

  -- the group begins
  comes-in : (group_of x past == g) ≡ false → group_of x (e ∷ past) ≡ g → (new.live ≡ live_links (table_of x (e ∷ past))) × (new.stands ≡ true)
  comes-in p q = by (shapes e past it x)
    where
      apart : group_of x past ≡ g → ⊥
      apart h = true≢false (sym (eq-eqb (group_of x past) g h) ∙ p)

      by : Shape x e (peer x (fabric past)) (peer x (fabric (e ∷ past))) → (new.live ≡ live_links (table_of x (e ∷ past))) × (new.stands ≡ true)
      by (Stays h c) = absurd (apart (sym h ∙ q))
      by (EndsHere h) = absurd (some (sym q ∙ h))
      by (Starts link o i h l n k) =
          let fresh : has_ended x g past ≡ false = subst (λ k. has_ended x k past ≡ false) (sym h ∙ q) (begins.new x link o i) in
          let w = was.before apart fresh in
          (live-is ∙ (ap (λ ls. forth x (fates x g e past) ls) w.0 ∙ (live-none x g (table_of x past) (table_of x (e ∷ past)) (n g) ∙ sym l)), standing (kept-apart p) w.1)

  here-after : group_of x (e ∷ past) ≡ g → (new.live ≡ live_links (table_of x (e ∷ past))) × (new.stands ≡ true)
  here-after q = by-bool ((new.live ≡ live_links (table_of x (e ∷ past))) × (new.stands ≡ true)) (group_of x past == g)
      (λ p. let h = was.here (eqb-true (group_of x past) g p) in (goes-on (eqb-true (group_of x past) g p) q, standing (kept-here q) h.1))
      (λ p. comes-in p q)

  before-after : (group_of x (e ∷ past) ≡ g → ⊥) → has_ended x g (e ∷ past) ≡ false → (new.live ≡ []) × (new.stands ≡ true)
  before-after n ended =
      let both = or-none (loses_group_with x g e past) (has_ended x g past) ended in
      by-bool ((new.live ≡ []) × (new.stands ≡ true)) (group_of x past == g)
      (λ p. absurd (true≢false (sym (is-lost p (ne_eqb (group_of x (e ∷ past)) g n)) ∙ both.0)))
      (λ p. let w = was.before (λ h. true≢false (sym (eq-eqb (group_of x past) g h) ∙ p)) both.1 in
      (live-is ∙ (ap (λ ls. forth x (fates x g e past) ls) w.0 ∙ live-none x g (table_of x past) (table_of x (e ∷ past)) (none own-after.sound)), standing both.0 w.1))
    where
      of : (peer x (fabric (e ∷ past))).group ≢ 0 → NoneLiveOf g (table_of x (e ∷ past))
      of k = other-group g (group_of x (e ∷ past)) (table_of x (e ∷ past)) n (own-after.owned k)

      none : IsSound x (peer x (fabric (e ∷ past))) → NoneLiveOf g (table_of x (e ∷ past))
      none (HasNone k f t) = none-live-stands g (table_of x (e ∷ past)) t
      none (Begins k f t) = of k
      none (Confirms link k f t) = of k
      none (Goes j k l f) = of k

  ended-after : has_ended x g (e ∷ past) ≡ true → new.stands ≡ false
  ended-after h = elim (or-parts (loses_group_with x g e past) (has_ended x g past) h) [
    | inl l ↦ stands-is ∙ ap (λ b. not b && old.stands) l
    | inr r ↦ stands-is ∙ (ap (λ b. not (loses_group_with x g e past) && b) (was.ended r) ∙ none (not (loses_group_with x g e past)))
  ]
    where
      none : (b : Bool) → (b && false) ≡ false
      none true = refl
      none false = refl

  pub live-goes-on : HasLiveIn setup payload x s g (e ∷ past)
  live-goes-on = record { here = here-after; before = before-after; ended = ended-after }

-- live*: after every history, of any end in any group
pub has-live-in : (setup : Setup) (payload : List ℕ) (past : List Entry) → IsMadeAll setup payload past → AllFlows setup payload past → AllBegin past → (x : Side) (s g : ℕ) → (g ≡ 0 → ⊥) → HasLiveIn setup payload x s g past
has-live-in setup payload [] m flows begins x s g some = record { here = λ h. absurd (some (sym h ∙ zero x)); before = λ n h. at x; ended = λ h. absurd (true≢false (sym h)) }
  where
    zero : (x : Side) → group_of x [] ≡ 0
    zero A = refl
    zero B = refl

    at : (x : Side) → ((half x (pipe_of setup payload g s [])).live ≡ []) × ((half x (pipe_of setup payload g s [])).stands ≡ true)
    at A = (refl, refl)
    at B = (refl, refl)
has-live-in setup payload (e ∷ past) m flows begins x s g some = live-goes-on setup payload e past (entered setup payload e past m flows) begins.0 x s g some (has-live-in setup payload past m.1 flows.1 begins.1 x s g some)

-- a side that is in a group stays there, or it ends
goes-in : (e : Entry) (past : List Entry) (x : Side) (g : ℕ) → (g ≡ 0 → ⊥) → InOrEnded x g past → InOrEnded x g (e ∷ past)
goes-in e past x g some (inr h) = inr (or-true (loses_group_with x g e past) (has_ended x g past) h)
goes-in e past x g some (inl h) = by-bool (InOrEnded x g (e ∷ past)) (group_of x (e ∷ past) == g)
    (λ q. inl (eqb-true (group_of x (e ∷ past)) g q))
    (λ q. inr (or-left (loses_group_with x g e past) (has_ended x g past) (ap (λ b. not b && ((group_of x past == g) && not (group_of x (e ∷ past) == g))) (ne_eqb g 0 some) ∙ (ap (λ b. b && not (group_of x (e ∷ past) == g)) (eq-eqb (group_of x past) g h) ∙ ap not q))))

-- before each entry B is sound
pub own-all : (setup : Setup) (payload : List ℕ) (past : List Entry) → AllFlows setup payload past → AllOwn past
own-all setup payload [] flows = tt
own-all setup payload (e ∷ past) flows = (let h = flows.0.0 in h.linked.own B, own-all setup payload past flows.1)

-- an end comes up while its side is in the group of the offer
pub up-in-group : (setup : Setup) (payload : List ℕ) (e : Entry) (past : List Entry) → IsMadeAll setup payload (e ∷ past) → Entered e past → (x : Side) (s : ℕ) (link : LinkId) → comes_up x s e past ≡ Some link → (o : Offered) × ((offered B s past ≡ Some o) × (group_of x past ≡ o.link.group))
up-in-group setup payload e past m it x s link u = by-kind setup payload e past m s ((o : Offered) × ((offered B s past ≡ Some o) × (group_of x past ≡ o.link.group))) x link u
    (λ ev r n. let o = later-offer setup payload e past m x s ev r in (o.0, (o.1.0, sym o.1.1.1)))
    (λ f. by (act_in x e past) refl f)
  where
    by : (k : Option Act) → act_in x e past ≡ k → option_and_then (λ act. confirmed_by (offered B s past) act.link act.step) k ≡ Some link → (o : Offered) × ((offered B s past ≡ Some o) × (group_of x past ≡ o.link.group))
    by None i c = absurd (none-is link c)
    by (Some act) i c = step act.step c
      where
        stood : (z : Side) → act_in z e past ≡ Some act → stands act.link (table_of z past) ≡ true
        stood A i = let b = it.lands A act i in b.at_a
        stood B i = let b = it.lands B act i in b.at_b

        at : (q : Option Offered) → offered B s past ≡ q → is_first_on act.link q ≡ true → (o : Offered) × ((offered B s past ≡ Some o) × (group_of x past ≡ o.link.group))
        at None j t = absurd (true≢false (sym t))
        at (Some o) j t =
            let same = and-both o.offer.first (same_link o.link act.link) t in
            let g = has-group x (peer x (fabric past)) act.link (it.linked.own x) (stood x i) in
            (o, (j, sym g.1 ∙ ap (λ (l : LinkId). l.group) (sym (link-is o.link act.link same.1))))

        named : (b : Bool) → is_first_on act.link (offered B s past) ≡ b → (if b then Some act.link else None) ≡ Some link → is_first_on act.link (offered B s past) ≡ true
        named true q k = q
        named false q k = absurd (none-is link k)

        step : (w : FlowStep) → confirmed_by (offered B s past) act.link w ≡ Some link → (o : Offered) × ((offered B s past ≡ Some o) × (group_of x past ≡ o.link.group))
        step (Live reply true) k = at (offered B s past) refl (named (is_first_on act.link (offered B s past)) refl k)
        step w k = absurd (none-is link k)

-- an end that is up is in the group of its offer, which its side is in, or which has ended there
pub up-in : (setup : Setup) (payload : List ℕ) (past : List Entry) → IsMadeAll setup payload past → AllFlows setup payload past → (x : Side) (s : ℕ) → is_up x s past ≡ true → (o : Offered) × ((offered B s past ≡ Some o) × InOrEnded x o.link.group past)
up-in setup payload [] m flows x s u = absurd (true≢false (sym u))
up-in setup payload (e ∷ past) m flows x s u = on (elim (or-parts (is_some (comes_up x s e past)) (is_up x s past) u) [ inl c ↦ now (comes_up x s e past) refl c | inr w ↦ up-in setup payload past m.1 flows.1 x s w ])
  where
    now : (k : Option LinkId) → comes_up x s e past ≡ k → is_some k ≡ true → (o : Offered) × ((offered B s past ≡ Some o) × InOrEnded x o.link.group past)
    now None i c = absurd (true≢false (sym c))
    now (Some link) i c = let q = up-in-group setup payload e past m (entered setup payload e past m flows) x s link i in (q.0, (q.1.0, inl q.1.1))

    on : (o : Offered) × ((offered B s past ≡ Some o) × InOrEnded x o.link.group past) → (o : Offered) × ((offered B s (e ∷ past) ≡ Some o) × InOrEnded x o.link.group (e ∷ past))
    on q =
        let some = grouped-own setup payload past m.1 (own-all setup payload past flows.1) s q.0 q.1.0 in (
          q.0,
          (
            kept setup payload past m.0.0 e m.0.1 (states setup payload past m.1) (all-offers setup payload past m.1) B s q.0 q.1.0,
            goes-in e past x q.0.link.group (λ z. true≢false (sym (eq-eqb q.0.link.group 0 z) ∙ some)) q.1.1,
          ),
        )

-- `live`
pub has-live : (setup : Setup) (payload : List ℕ) (past : List Entry) → IsMadeAll setup payload past → AllFlows setup payload past → AllBegin past → HasLive setup payload past
has-live setup payload past m flows begins = record { live = live }
  where
    live : (x : Side) (s : ℕ) → (half x (pipe_of setup payload (group_on s past) s past)).stands ≡ true → (half x (pipe_of setup payload (group_on s past) s past)).up ≡ true → (half x (pipe_of setup payload (group_on s past) s past)).live ≡ live_links (table_of x past)
    live x s st u =
        let q = up-in setup payload past m flows x s (sym (pipe-is-up (terms_of setup) x payload (group_on s past) s past) ∙ u) in
        let on : group_on s past ≡ q.0.link.group = ap (λ k. unwrap_or (option_map (λ (l : LinkId). l.group) (option_map (λ (o : Offered). o.link) k)) 0) q.1.0 in
        let some = grouped-own setup payload past m (own-all setup payload past flows) s q.0 q.1.0 in
        let h = has-live-in setup payload past m flows begins x s (group_on s past) (λ z. true≢false (sym (eq-eqb q.0.link.group 0 (sym on ∙ z)) ∙ some)) in
        elim q.1.1 [
          | inl i ↦ (let w = h.here (i ∙ sym on) in w.0)
          | inr d ↦ absurd (true≢false (sym st ∙ h.ended (ap (λ g. has_ended x g past) on ∙ d)))
        ]
