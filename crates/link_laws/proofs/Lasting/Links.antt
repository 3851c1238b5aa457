-- Links over every history: one that stands was not lost; one that ever stood stands at each side or was lost there; a live one stays live or
-- is lost.
use Rattle.std.proofs.Common.{Bool, List, None, Some, [], ap, arith, cond, eq-eqb, eqb-true, false, filter, if◌then◌else◌, inl, inr, map, not, refl, subst, sym, true, true≢false, ℕ, ◌&&◌, ◌+◌, ◌<◌, ◌==◌, ◌||◌, ◌∙◌, ◌∷◌, ◌≡◌, ◌≤◌, ◌⊎◌}
use Rattle.smc_num.specs.declared.LinkPhase.TheVariants.{Live as LiveLink}
use Rattle.std.proofs.lemmas.Bool.{ne_eqb}
use Rattle.std.specs.Prelude.{option_map, unwrap_or}
use Rattle.pipe_model.specs.Fabric.{does, loses}
use Rattle.pipe_model.specs.declared.flow.FlowStep.TheVariants.{Live}
use Rattle.history_laws.specs.Words.{A, Act, B, Dead, Entry, Fabric, Flow, FlowStep, Gone, Known, LinkId, LlcMessage, Peer, Pending, ReplyAdd, Setup, Side, Unused, act_in, all_dead, at_slot, begins_drop, begins_group, ends_group, fabric, flow_after, goes_on, has_link, is_live, is_standing, link_at, live_links, lowest_live, made_on, makes, named_slot, peer, phase_at, put, reports, same_link, set_phase, stands, table_of, with_flow, with_peer, without_slot}
use Rattle.history_laws.specs.Tables.{Rises}
use Rattle.history_laws.proofs.Basics.{and-both, by-bool, link-is, live-is, none-is, or-left, or-parts, or-true, some-is}
use Rattle.history_laws.specs.Made.{IsMadeAll}
use Rattle.link_laws.proofs.Sound.{all-none, at-stands, link-self, none-stands, put-link, put-phase, put-stands, set-beside, set-dead, set-here, stands-at}
use Rattle.link_laws.proofs.Lasting.EachEntry.{Entered, entered}
use Rattle.link_laws.proofs.UnderWay.{lives-stands, loses-stands, reports-stands, stands-made}
use Rattle.link_laws.specs.Linked.{IsOwn}
use Rattle.link_laws.proofs.Fabric.{fabric-after}
use Rattle.link_laws.specs.Lasting.{AllFlows, IsLiveOrLost, NoneAgain, StandsOrLost, has_stood, is_lost}

-- a link is that of its slot, and live
abbrev pub LivesAt : LinkId → List Known → Type 0
LivesAt l ks = (link_at l.slot ks ≡ Some l) × (phase_at l.slot ks ≡ LiveLink)

-- a link among the live ones is that of its slot, and live
pub live-at : (low : ℕ) (l : LinkId) (ks : List Known) → Rises low ks → has_link l (live_links ks) ≡ true → (low ≤ l.slot) × LivesAt l ks
live-at low l [] r h = absurd (true≢false (sym h))
live-at low l (n ∷ ks) r h = by (is_live n.phase) refl h (λ t. live-at (n.link.slot + 1) l ks r.1 t)
  where
    later : (n.link.slot + 1 ≤ l.slot) × LivesAt l ks → (low ≤ l.slot) × LivesAt l (n ∷ ks)
    later q =
        let apart : (n.link.slot == l.slot) ≡ false = ne_eqb n.link.slot l.slot (λ e. omega (arith, e, q.0)) in
        (omega (arith, r.0, q.0), (ap (λ b. option_map (λ (n : Known). n.link) (cond b (Some n) (at_slot l.slot ks))) apart ∙ q.1.0, ap (λ b. unwrap_or (option_map (λ (n : Known). n.phase) (cond b (Some n) (at_slot l.slot ks))) Unused) apart ∙ q.1.1))

    by : (b : Bool) → is_live n.phase ≡ b → has_link l (map (λ (known : Known). known.link) (if b then n ∷ filter (λ (known : Known). is_live known.phase) ks else filter (λ (known : Known). is_live known.phase) ks)) ≡ true → (has_link l (live_links ks) ≡ true → (n.link.slot + 1 ≤ l.slot) × LivesAt l ks) → (low ≤ l.slot) × LivesAt l (n ∷ ks)
    by false v t ih = later (ih t)
    by true v t ih = elim (or-parts (same_link l n.link) (has_link l (live_links ks)) t) [
      | inr q ↦ later (ih q)
      | inl q ↦ (
          let same : n.link ≡ l = sym (link-is l n.link q) in
          let here : (n.link.slot == l.slot) ≡ true = eq-eqb n.link.slot l.slot (ap (λ (l : LinkId). l.slot) same) in
          (subst (λ (k : LinkId). low ≤ k.slot) same r.0, (ap (λ b. option_map (λ (n : Known). n.link) (cond b (Some n) (at_slot l.slot ks))) here ∙ ap Some same, ap (λ b. unwrap_or (option_map (λ (n : Known). n.phase) (cond b (Some n) (at_slot l.slot ks))) Unused) here ∙ live-is n.phase v)))
    ]

-- and the other way round
pub at-live : (l : LinkId) (ks : List Known) → LivesAt l ks → has_link l (live_links ks) ≡ true
at-live l [] a = absurd (none-is l a.0)
at-live l (n ∷ ks) a = by (n.link.slot == l.slot) a.0 a.1 (λ p q. at-live l ks (p, q))
  where
    none-later : (b : Bool) → has_link l (live_links ks) ≡ true → has_link l (map (λ (known : Known). known.link) (if b then n ∷ filter (λ (known : Known). is_live known.phase) ks else filter (λ (known : Known). is_live known.phase) ks)) ≡ true
    none-later true h = or-true (same_link l n.link) (has_link l (live_links ks)) h
    none-later false h = h

    by : (b : Bool) → option_map (λ (n : Known). n.link) (cond b (Some n) (at_slot l.slot ks)) ≡ Some l → unwrap_or (option_map (λ (n : Known). n.phase) (cond b (Some n) (at_slot l.slot ks))) Unused ≡ LiveLink
        → (link_at l.slot ks ≡ Some l → phase_at l.slot ks ≡ LiveLink → has_link l (live_links ks) ≡ true) → has_link l (live_links (n ∷ ks)) ≡ true
    by true p q ih =
        let here : has_link l (map (λ (known : Known). known.link) (n ∷ filter (λ (known : Known). is_live known.phase) ks)) ≡ true = or-left (same_link l n.link) (has_link l (live_links ks)) (ap (λ m. same_link l m) (some-is n.link l p) ∙ link-self l) in
        ap (λ b. has_link l (map (λ (known : Known). known.link) (if b then n ∷ filter (λ (known : Known). is_live known.phase) ks else filter (λ (known : Known). is_live known.phase) ks))) (ap is_live q) ∙ here
    by false p q ih = none-later (is_live n.phase) (ih p q)

-- what was live, and still stands on its slot, is live
abbrev pub KeepsLive : List Known → List Known → Type 0
KeepsLive t u = (l : LinkId) → LivesAt l t → link_at l.slot u ≡ Some l → is_standing (phase_at l.slot u) ≡ true → phase_at l.slot u ≡ LiveLink

keeps-same : (t : List Known) → KeepsLive t t
keeps-same t l a at st = a.1

keeps-none : (t : List Known) → KeepsLive t []
keeps-none t l a at st = absurd (none-is l at)

keeps-live : (k : ℕ) (t : List Known) → KeepsLive t (set_phase k LiveLink t)
keeps-live k t l a at st = by-bool (phase_at l.slot (set_phase k LiveLink t) ≡ LiveLink) (l.slot == k)
    (λ q. subst (λ j. phase_at j (set_phase k LiveLink t) ≡ LiveLink) (sym (eqb-true l.slot k q)) (set-here k LiveLink t (ap is_standing (subst (λ j. phase_at j t ≡ LiveLink) (eqb-true l.slot k q) a.1))))
    (λ q. set-beside l.slot k LiveLink t q ∙ a.1)

keeps-dead : (k : ℕ) (t : List Known) → KeepsLive t (set_phase k Dead t)
keeps-dead k t l a at st = by-bool (phase_at l.slot (set_phase k Dead t) ≡ LiveLink) (l.slot == k)
    (λ q. absurd (true≢false (sym st ∙ (ap (λ j. is_standing (phase_at j (set_phase k Dead t))) (eqb-true l.slot k q) ∙ set-dead k t))))
    (λ q. set-beside l.slot k Dead t q ∙ a.1)

keeps-all : (t u : List Known) → KeepsLive t (all_dead u)
keeps-all t u l a at st = absurd (true≢false (sym (at-stands l (all_dead u) at st) ∙ none-stands l (all_dead u) (all-none u)))

keeps-put : (link : LinkId) (t : List Known) → ((l : LinkId) → LivesAt l t → l ≡ link → ⊥) → KeepsLive t (put (record { link = link; phase = Pending }) t)
keeps-put link t apart l a at st = by-bool (phase_at l.slot (put (record { link = link; phase = Pending }) t) ≡ LiveLink) (link.slot == l.slot)
    (λ q. absurd (apart l a (sym (some-is link l (sym (put-link l.slot (record { link = link; phase = Pending }) t ∙ ap (λ b. if b then Some link else link_at l.slot t) q) ∙ at)))))
    (λ q. put-phase l.slot (record { link = link; phase = Pending }) t ∙ (ap (λ b. if b then Pending else phase_at l.slot t) q ∙ a.1))

keeps-loses : (k : ℕ) (p : Peer) → KeepsLive p.table (loses k p).table
keeps-loses k p = by (lowest_live (set_phase k Dead p.table) == 0)
  where
    by : (b : Bool) → KeepsLive p.table (Peer.table (if b then ends_group (without_slot k p) else goes_on k (without_slot k p)))
    by true = keeps-all p.table (set_phase k Dead p.table)
    by false = keeps-dead k p.table

keeps-reports : (k : ℕ) (p : Peer) → KeepsLive p.table (reports k p).table
keeps-reports k p = by (loses k p) ((loses k p).group == 0) (keeps-loses k p)
  where
    by : (q : Peer) (b : Bool) → KeepsLive p.table q.table → KeepsLive p.table (Peer.table (if b then q else with_flow (begins_drop k (lowest_live q.table)) q))
    by q true t = t
    by q false t = t

-- a link that is made stands
pub put-there : (link : LinkId) (ks : List Known) → stands link (put (record { link = link; phase = Pending }) ks) ≡ true
put-there link ks =
    let self : (link.slot == link.slot) ≡ true = eq-eqb link.slot link.slot refl in
    at-stands link (put (record { link = link; phase = Pending }) ks)
    (put-link link.slot (record { link = link; phase = Pending }) ks ∙ ap (λ b. if b then Some link else link_at link.slot ks) self)
    (ap is_standing (put-phase link.slot (record { link = link; phase = Pending }) ks ∙ ap (λ b. if b then Pending else phase_at link.slot ks) self))

-- what an entry does to live and to new links: a live one that still stands is live, and what comes to stand at one side stands at both
pub record Turns (f g : Fabric) : Type 0 where
  pub keeps : (x : Side) → KeepsLive (peer x f).table (peer x g).table
  pub both : (y x : Side) (l : LinkId) → stands l (peer y g).table ≡ true → (stands l (peer y f).table ≡ true) ⊎ (stands l (peer x g).table ≡ true)

module _ (e : Entry) (past : List Entry) (it : Entered e past) where
  abbrev f : Fabric
  f = fabric past

  alone : (x : Side) (p : Peer) → KeepsLive (peer x f).table p.table → ((l : LinkId) → stands l p.table ≡ true → stands l (peer x f).table ≡ true) → Turns f (with_peer x p f)
  alone A p k s = record { keeps = keeps; both = both }
    where
      keeps : (x : Side) → KeepsLive (peer x f).table (peer x (with_peer A p f)).table
      keeps A = k
      keeps B = keeps-same f.b.table

      both : (y x : Side) (l : LinkId) → stands l (peer y (with_peer A p f)).table ≡ true → (stands l (peer y f).table ≡ true) ⊎ (stands l (peer x (with_peer A p f)).table ≡ true)
      both A x l t = inl (s l t)
      both B x l t = inl t
  alone B p k s = record { keeps = keeps; both = both }
    where
      keeps : (x : Side) → KeepsLive (peer x f).table (peer x (with_peer B p f)).table
      keeps A = keeps-same f.a.table
      keeps B = k

      both : (y x : Side) (l : LinkId) → stands l (peer y (with_peer B p f)).table ≡ true → (stands l (peer y f).table ≡ true) ⊎ (stands l (peer x (with_peer B p f)).table ≡ true)
      both A x l t = inl t
      both B x l t = inl (s l t)

  -- a live link is not a new one
  not-new : (x : Side) (link : LinkId) → link.incarnation ≡ made_on link.slot f + 1 → (l : LinkId) → LivesAt l (peer x f).table → l ≡ link → ⊥
  not-new x link next l a same =
      let old : l.incarnation ≤ made_on l.slot f = stands-made f it.under it.linked x l (at-stands l (peer x f).table a.0 (ap is_standing a.1)) in
      let new : link.incarnation ≤ made_on link.slot f = subst (λ (m : LinkId). m.incarnation ≤ made_on m.slot f) same old in
      omega (arith, new, next)

  -- a link is made
  made-turns : (link : LinkId) (p q : Peer) → link.incarnation ≡ made_on link.slot f + 1 → (p.table ≡ []) ⊎ (p.table ≡ f.a.table) → q.table ≡ f.b.table → Turns f (makes link (record f { a = p; b = q }))
  made-turns link p q next pt qt = record { keeps = keeps; both = both }
    where
      keeps : (x : Side) → KeepsLive (peer x f).table (peer x (makes link (record f { a = p; b = q }))).table
      keeps A = elim pt [
        | inl n ↦ subst (λ t. KeepsLive f.a.table (put (record { link = link; phase = Pending }) t)) (sym n) fresh
        | inr n ↦ subst (λ t. KeepsLive f.a.table (put (record { link = link; phase = Pending }) t)) (sym n) (keeps-put link f.a.table (not-new A link next))
      ]
        where
          fresh : KeepsLive f.a.table (put (record { link = link; phase = Pending }) [])
          fresh l a at st = absurd (by-bool ⊥ (link.slot == l.slot)
              (λ b. not-new A link next l a (sym (some-is link l (sym (ap (λ b. if b then Some link else None) b) ∙ (sym (put-link l.slot (record { link = link; phase = Pending }) []) ∙ at)))))
              (λ b. none-is l (sym (ap (λ b. if b then Some link else None) b) ∙ (sym (put-link l.slot (record { link = link; phase = Pending }) []) ∙ at))))
      keeps B = subst (λ t. KeepsLive f.b.table (put (record { link = link; phase = Pending }) t)) (sym qt) (keeps-put link f.b.table (not-new B link next))

      there : (x : Side) → stands link (peer x (makes link (record f { a = p; b = q }))).table ≡ true
      there A = put-there link p.table
      there B = put-there link q.table

      both : (y x : Side) (l : LinkId) → stands l (peer y (makes link (record f { a = p; b = q }))).table ≡ true → (stands l (peer y f).table ≡ true) ⊎ (stands l (peer x (makes link (record f { a = p; b = q }))).table ≡ true)
      both A x l t = elim (put-stands l (record { link = link; phase = Pending }) p.table t) [
        | inl same ↦ inr (subst (λ m. stands m (peer x (makes link (record f { a = p; b = q }))).table ≡ true) (sym same) (there x))
        | inr s ↦ elim pt [ inl n ↦ absurd (true≢false (sym (ap (λ t. stands l t) (sym n) ∙ s))) | inr n ↦ inl (ap (λ t. stands l t) (sym n) ∙ s) ]
      ]
      both B x l t = elim (put-stands l (record { link = link; phase = Pending }) q.table t) [
        | inl same ↦ inr (subst (λ m. stands m (peer x (makes link (record f { a = p; b = q }))).table ≡ true) (sym same) (there x))
        | inr s ↦ inl (ap (λ t. stands l t) (sym qt) ∙ s)
      ]

  rises : (x : Side) → Rises 1 (peer x f).table
  rises x = let own : IsOwn x (peer x f) = it.linked.own x in own.rises

  stood : (x : Side) (act : Act) → act_in x e past ≡ Some act → stands act.link (peer x f).table ≡ true
  stood A act is = let b = it.lands A act is in b.at_a
  stood B act is = let b = it.lands B act is in b.at_b

  stepped : (x : Side) (l : LinkId) (m : LlcMessage) (step : FlowStep) → stands l (peer x f).table ≡ true → Turns f (does x l m step f)
  stepped x l m step st = by step
    where
      flows : (x : Side) (change : Flow → Flow) → Turns f (with_peer x (with_flow change (peer x f)) f)
      flows x change = alone x (with_flow change (peer x f)) (keeps-same (peer x f).table) (λ l s. s)

      live : (x : Side) → stands l (peer x f).table ≡ true → (reply first : Bool) → Turns f (does x l m (Live reply first) f)
      live A i reply first = alone A _ (keeps-live l.slot f.a.table) (λ n s. lives-stands l f.a.table (rises A) i n s)
      live B i reply first = alone B _ (keeps-live l.slot f.b.table) (λ n s. lives-stands l f.b.table (rises B) i n s)

      adds : (x : Side) → Turns f (does x l m (ReplyAdd false) f)
      adds A = made-turns _ _ f.b refl (inr refl) refl
      adds B = made-turns _ f.a _ refl (inr refl) refl

      gone : (x : Side) → Turns f (does x l m (Gone true) f)
      gone A = alone A _ (keeps-loses (named_slot m l.slot) (with_flow (flow_after (Gone true) m l.slot (lowest_live f.a.table)) f.a)) (λ n s. loses-stands n (named_slot m l.slot) (with_flow (flow_after (Gone true) m l.slot (lowest_live f.a.table)) f.a) s)
      gone B = alone B _ (keeps-loses (named_slot m l.slot) (with_flow (flow_after (Gone true) m l.slot (lowest_live f.b.table)) f.b)) (λ n s. loses-stands n (named_slot m l.slot) (with_flow (flow_after (Gone true) m l.slot (lowest_live f.b.table)) f.b) s)

      by : (step : FlowStep) → Turns f (does x l m step f)
      by (Live reply first) = live x st reply first
      by (ReplyAdd false) = adds x
      by (ReplyAdd true) = flows x (flow_after (ReplyAdd true) m l.slot (lowest_live (peer x f).table))
      by (Gone true) = gone x
      by (Gone false) = flows x (flow_after (Gone false) m l.slot (lowest_live (peer x f).table))
      by step = flows x (flow_after step m l.slot (lowest_live (peer x f).table))

  taken : (x : Side) (act : Act) → act_in x e past ≡ Some act → Turns f (does x act.link act.message act.step f)
  taken x act is = stepped x act.link act.message act.step (stood x act is)

  -- after any entry
  pub turns : Turns f (fabric (e ∷ past))
  turns = fabric-after e past (λ g. Turns f g) (record {
    was = record { keeps = λ x. keeps-same (peer x f).table; both = λ y x l s. inl s };
    begun_b = λ link o i n. alone B (begins_group link.group) (keeps-none f.b.table) (λ l s. absurd (true≢false (sym s)));
    begun_a = λ link o i n. made-turns link (begins_group link.group) f.b (let j = it.joins link o i in j.next) (inl refl) refl;
    asked = λ x flow told r. alone x (record (peer x f) { flow = flow; told = told }) (keeps-same (peer x f).table) (λ l s. s);
    taken = λ x act is q. taken x act is;
    reported = λ x k. alone x (reports k (peer x f)) (keeps-reports k (peer x f)) (λ l s. reports-stands l k (peer x f) s);
  })

  -- a live link stays live, or is lost
  pub lasts-with : (x : Side) (link : LinkId) → has_link link (live_links (table_of x past)) ≡ true → IsLiveOrLost x link (e ∷ past)
  lasts-with x link live = by-bool (IsLiveOrLost x link (e ∷ past)) (stands link (table_of x (e ∷ past))) stays lost
    where
      at : LivesAt link (table_of x past)
      at = let h = live-at 1 link (table_of x past) (rises x) live in h.1

      stays : stands link (table_of x (e ∷ past)) ≡ true → IsLiveOrLost x link (e ∷ past)
      stays s =
          let own : IsOwn x (peer x (fabric (e ∷ past))) = it.linked_after.own x in
          let h = stands-at 1 link (table_of x (e ∷ past)) own.rises s in
          let k : KeepsLive (table_of x past) (table_of x (e ∷ past)) = turns.keeps x in
          inr (at-live link (table_of x (e ∷ past)) (h.1, k link at h.1 h.2))

      lost : stands link (table_of x (e ∷ past)) ≡ false → IsLiveOrLost x link (e ∷ past)
      lost s =
          let was : stands link (table_of x past) ≡ true = at-stands link (table_of x past) at.0 (ap is_standing at.1) in
          inl (ap (λ b. (b && not (stands link (table_of x (e ∷ past)))) || is_lost x link past) was ∙ ap (λ b. (true && not b) || is_lost x link past) s)

  -- one that stands, or was lost, still does
  stays-with : (x : Side) (link : LinkId) → StandsOrLost x link past → StandsOrLost x link (e ∷ past)
  stays-with x link (inr l) = inr (or-true (stands link (table_of x past) && not (stands link (table_of x (e ∷ past)))) (is_lost x link past) l)
  stays-with x link (inl s) = by-bool (StandsOrLost x link (e ∷ past)) (stands link (table_of x (e ∷ past)))
      (λ t. inl t)
      (λ t. inr (ap (λ b. (b && not (stands link (table_of x (e ∷ past)))) || is_lost x link past) s ∙ ap (λ b. (true && not b) || is_lost x link past) t))

  -- one that comes to stand at a side stands at the other, or did before
  pub known-with : (x : Side) (link : LinkId) → (has_stood link past ≡ true → StandsOrLost x link past) → ((y : Side) → stands link (table_of y past) ≡ true → has_stood link past ≡ true) → has_stood link (e ∷ past) ≡ true → StandsOrLost x link (e ∷ past)
  known-with x link was known h = elim (or-parts (stands link (table_of A (e ∷ past)) || stands link (table_of B (e ∷ past))) (has_stood link past) h) [
    | inr old ↦ stays-with x link (was old)
    | inl new ↦ elim (or-parts (stands link (table_of A (e ∷ past))) (stands link (table_of B (e ∷ past))) new) [ inl s ↦ from A s | inr s ↦ from B s ]
  ]
    where
      from : (y : Side) → stands link (table_of y (e ∷ past)) ≡ true → StandsOrLost x link (e ∷ past)
      from y s = elim (turns.both y x link s) [ inl t ↦ stays-with x link (was (known y t)) | inr t ↦ inl t ]

-- a link that stands has stood
pub stands-known : (y : Side) (link : LinkId) (past : List Entry) → stands link (table_of y past) ≡ true → has_stood link past ≡ true
stands-known y link [] s = absurd (true≢false (sym s ∙ none y))
  where
    none : (y : Side) → stands link (table_of y []) ≡ false
    none A = refl
    none B = refl
stands-known A link (e ∷ past) s = or-left (stands link (table_of A (e ∷ past)) || stands link (table_of B (e ∷ past))) (has_stood link past) (or-left (stands link (table_of A (e ∷ past))) (stands link (table_of B (e ∷ past))) s)
stands-known B link (e ∷ past) s = or-left (stands link (table_of A (e ∷ past)) || stands link (table_of B (e ∷ past))) (has_stood link past) (or-true (stands link (table_of A (e ∷ past))) (stands link (table_of B (e ∷ past))) s)

-- a link that ever stood stands at a side, or was lost there
pub stands-or-lost : (setup : Setup) (payload : List ℕ) (past : List Entry) → IsMadeAll setup payload past → AllFlows setup payload past → (x : Side) (link : LinkId) → has_stood link past ≡ true → StandsOrLost x link past
stands-or-lost setup payload [] all flows x link h = absurd (true≢false (sym h))
stands-or-lost setup payload (e ∷ past) all flows x link h = known-with e past (entered setup payload e past all flows) x link (stands-or-lost setup payload past all.1 flows.1 x link) (λ y. stands-known y link past) h

-- what was lost was made
pub lost-made : (setup : Setup) (payload : List ℕ) (past : List Entry) → IsMadeAll setup payload past → AllFlows setup payload past → (x : Side) (link : LinkId) → is_lost x link past ≡ true → link.incarnation ≤ made_on link.slot (fabric past)
lost-made setup payload [] all flows x link h = absurd (true≢false (sym h))
lost-made setup payload (e ∷ past) all flows x link h = by (entered setup payload e past all flows) (lost-made setup payload past all.1 flows.1 x link)
  where
    by : Entered e past → (is_lost x link past ≡ true → link.incarnation ≤ made_on link.slot (fabric past)) → link.incarnation ≤ made_on link.slot (fabric (e ∷ past))
    by it was = elim (or-parts (stands link (table_of x past) && not (stands link (table_of x (e ∷ past)))) (is_lost x link past) h) [
      | inl q ↦ grown (let s = and-both (stands link (table_of x past)) (not (stands link (table_of x (e ∷ past)))) q in stands-made (fabric past) it.under it.linked x link s.0)
      | inr q ↦ grown (was q)
    ]
      where
        grown : link.incarnation ≤ made_on link.slot (fabric past) → link.incarnation ≤ made_on link.slot (fabric (e ∷ past))
        grown a = let b : made_on link.slot (fabric past) ≤ made_on link.slot (fabric (e ∷ past)) = it.grows.rises link.slot in omega (arith, a, b)

-- a link that stands was not lost
pub not-lost : (setup : Setup) (payload : List ℕ) (past : List Entry) → IsMadeAll setup payload past → AllFlows setup payload past → (x : Side) (link : LinkId) → stands link (table_of x past) ≡ true → is_lost x link past ≡ false
not-lost setup payload [] all flows x link s = refl
not-lost setup payload (e ∷ past) all flows x link s = by (entered setup payload e past all flows) (not-lost setup payload past all.1 flows.1 x link) (lost-made setup payload past all.1 flows.1 x link)
  where
    now : (b : Bool) → (b && not (stands link (table_of x (e ∷ past)))) ≡ false
    now true = ap not s
    now false = refl

    both : (a b : Bool) → a ≡ false → b ≡ false → (a || b) ≡ false
    both true b p q = p
    both false b p q = q

    by : Entered e past → (stands link (table_of x past) ≡ true → is_lost x link past ≡ false) → (is_lost x link past ≡ true → link.incarnation ≤ made_on link.slot (fabric past)) → is_lost x link (e ∷ past) ≡ false
    by it was made = both (stands link (table_of x past) && not (stands link (table_of x (e ∷ past)))) (is_lost x link past) (now (stands link (table_of x past))) (elim (it.grows.comes x link s) [
      | inl t ↦ was t
      | inr new ↦ by-bool (is_lost x link past ≡ false) (is_lost x link past) (λ l. absurd (let a : link.incarnation ≤ made_on link.slot (fabric past) = made l in let b : made_on link.slot (fabric past) < link.incarnation = new in omega (arith, a, b))) (λ l. l)
    ])

-- `again`
pub none-again : (setup : Setup) (payload : List ℕ) (past : List Entry) → IsMadeAll setup payload past → AllFlows setup payload past → NoneAgain past
none-again setup payload past all flows = record { again = not-lost setup payload past all flows }
