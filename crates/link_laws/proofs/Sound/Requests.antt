-- The other flows of a side: keys, tests and drops. They change neither links nor the link flow.
use Rattle.std.proofs.Common.{Bool, List, None, Some, [], ap, arith, false, filter, if◌then◌else◌, not, refl, subst, sym, true, true≢false, ℕ, ◌&&◌, ◌++◌, ◌==◌, ◌∙◌, ◌∷◌, ◌≡◌, ◌≢◌}
use Rattle.std.specs.Prelude.{Option}
use Rattle.pipe_model.specs.declared.flow.KeyPhase.TheVariants.{Asked, Free, Retry as RetryWaits}
use Rattle.smc_num.specs.declared.LinkPhase.TheVariants.{Live as LiveLink}
use Rattle.pipe_model.specs.Flows.{LinkSent, begins_confirm}
use Rattle.std.specs.Option.{option_or}
use Rattle.pipe_model.specs.Messages.{add_link}
use Rattle.pipe_model.specs.Fabric.{loses}
use Rattle.std.proofs.lemmas.Bool.{ne_eqb}
use Rattle.history_laws.specs.Words.{A, Abandoned, AddSeen, AddSent, B, Dead, Deleting, Drop, Entry, Fabric, FirstContact, Flow, Key, KeyPhase, Keys, KeysSent, LinkFlow, LinkId, LinkPhase, Llc, NoFlow, Peer, Post, Side, add_again, add_keys, begins_delete, begins_drop, begins_test, confirms_on, delete_link, deleting_rmbs, drop_posts, ends_group, fabric, flow_slot, goes_on, is_asked, is_dropping, is_standing, key_again, keys_of, link_or_none, loss_posts, lost_link, lowest_live, no_flow, pair_on, peer, phase_at, report_posts, reports, resends_add, resends_key, set_phase, with_flow, with_peer, without_slot, Setup}
use Rattle.history_laws.proofs.Basics.{and-both}
use Rattle.link_laws.specs.Linked.{AreFlowing, AreLinked, AreLive, Begins, CarryDrops, Confirms, FitsUnder, Goes, HasNone, IsOwn, IsSound, LinkFits, Under, is_own_flow, phases, then_posted, under_in, under_of}
use Rattle.link_laws.proofs.Sound.Frames.{answered, reflowed-a, reflowed-b}
use Rattle.link_laws.proofs.Sound.OneSide.{IsGoing, after-rises, true-not-false, was-going}
use Rattle.link_laws.proofs.Sound.Landings.{asks-add, tells-keys}
use Rattle.link_laws.proofs.Sound.Taken.{slot-of}
use Rattle.link_laws.proofs.Sound.Slots.{lowest-is}
use Rattle.link_laws.proofs.Sound.Reports.{lost-a, lost-b, reported-a, reported-b}

-- other flows of the side
pub reflow-own : (x : Side) (p : Peer) (flow : Flow) (told : List LinkId) → IsOwn x p → (p.flow ≡ no_flow → flow ≡ no_flow) → (p.flow ≡ record no_flow { link = FirstContact } → flow ≡ record no_flow { link = FirstContact }) → (AreFlowing x (phases p) p.flow → AreFlowing x (phases p) flow) → IsOwn x (record p { flow = flow; told = told })
reflow-own x p flow told own none first goes = record { rises = own.rises; owned = own.owned; sound = by own.sound }
  where
    by : IsSound x p → IsSound x (record p { flow = flow; told = told })
    by (HasNone g f s) = HasNone g (none f) s
    by (Begins g f t) = Begins g (first f) t
    by (Confirms link g f t) = Confirms link g (first f) t
    by (Goes k g live f) = Goes k g live (goes f)

pub reflowed : (x : Side) (flow : Flow) (told : List LinkId) (f : Fabric) (u : Option Under) → flow.link ≡ Flow.link (Peer.flow (peer x f)) → IsOwn x (record (peer x f) { flow = flow; told = told }) → AreLinked f u → AreLinked (with_peer x (record (peer x f) { flow = flow; told = told }) f) u
reflowed A flow told f u e own all = reflowed-a flow told f u e own all
reflowed B flow told f u e own all = reflowed-b flow told f u e own all

module _ (x : Side) (f : Fabric) (u : Option Under) (all : AreLinked f u) where
  -- a key flow ends
  pub key-freed : AreLinked (with_peer x (with_flow (λ (f : Flow). record f { key = Free }) (peer x f)) f) u
  key-freed = reflowed x (record (peer x f).flow { key = Free }) (peer x f).told f u refl (reflow-own x (peer x f) (record (peer x f).flow { key = Free }) (peer x f).told (all.own x) (λ e. ap (λ (f : Flow). record f { key = Free }) e) (λ e. ap (λ (f : Flow). record f { key = Free }) e)
      (λ s. record { own = s.own; link = s.link; key = λ out. absurd (true≢false (sym out)); tests = s.tests; drops = s.drops })) all

  -- or has to be begun again
  pub key-waits : (peer x f).flow.key ≡ Asked → AreLinked (with_peer x (with_flow (λ (f : Flow). record f { key = RetryWaits }) (peer x f)) f) u
  key-waits asked = reflowed x (record (peer x f).flow { key = RetryWaits }) (peer x f).told f u refl (reflow-own x (peer x f) (record (peer x f).flow { key = RetryWaits }) (peer x f).told (all.own x) (λ e. absurd (free e)) (λ e. absurd (free e))
      (λ s. record { own = s.own; link = s.link; key = λ out. absurd (true≢false (sym out)); tests = s.tests; drops = s.drops })) all
    where
      free : {link : LinkFlow} → (peer x f).flow ≡ record no_flow { link = link } → ⊥
      free e = true-not-false (is_asked (peer x f).flow.key) (ap is_asked asked) (ap (λ (f : Flow). is_asked f.key) e)

  -- a request is begun on a live link, beyond first contact
  module _ (going : IsGoing x (peer x f)) (ne : (peer x f).group ≢ 0) (carrier : ℕ) (live : phases (peer x f) carrier ≡ LiveLink) where
    begun : (flow : Flow) (told : List LinkId) → flow.link ≡ Flow.link (Peer.flow (peer x f)) → AreFlowing x (phases (peer x f)) flow → AreLinked (with_peer x (record (peer x f) { flow = flow; told = told }) f) u
    begun flow told e s = let own : IsOwn x (peer x f) = all.own x in reflowed x flow told f u e (record { rises = own.rises; owned = own.owned; sound = Goes carrier ne live s }) all

    flowing : AreFlowing x (phases (peer x f)) (peer x f).flow
    flowing = going.flowing

    pub key-asked : (rmb : ℕ) → AreLinked (with_peer x (confirms_on carrier rmb (peer x f)) f) u
    key-asked rmb = begun (begins_confirm rmb carrier (peer x f).flow) _ refl (record { own = flowing.own; link = flowing.link; key = λ out. live; tests = flowing.tests; drops = flowing.drops })

    pub delete-asked : AreLinked (with_peer x (with_flow (begins_delete carrier) (peer x f)) f) u
    delete-asked = begun (begins_delete carrier (peer x f).flow) _ refl (record { own = flowing.own; link = flowing.link; key = λ out. live; tests = flowing.tests; drops = flowing.drops })

    pub test-asked : AreLinked (with_peer x (with_flow (begins_test carrier) (peer x f)) f) u
    test-asked = begun (begins_test carrier (peer x f).flow) _ refl (record { own = flowing.own; link = flowing.link; key = flowing.key; tests = (live, flowing.tests); drops = flowing.drops })

  tests-fewer : (phase : ℕ → LinkPhase) (g : ℕ → Bool) (ks : List ℕ) → AreLive phase ks → AreLive phase (filter g ks)
  tests-fewer phase g [] s = tt
  tests-fewer phase g (k ∷ ks) s = by (g k) (tests-fewer phase g ks s.1)
    where
      by : (b : Bool) → AreLive phase (filter g ks) → AreLive phase (if b then k ∷ filter g ks else filter g ks)
      by true rest = (s.0, rest)
      by false rest = rest

  drops-fewer : (phase : ℕ → LinkPhase) (g : Drop → Bool) (ds : List Drop) → CarryDrops phase ds → CarryDrops phase (filter g ds)
  drops-fewer phase g [] s = tt
  drops-fewer phase g (d ∷ ds) s = by (g d) (drops-fewer phase g ds s.1)
    where
      by : (b : Bool) → CarryDrops phase (filter g ds) → CarryDrops phase (if b then d ∷ filter g ds else filter g ds)
      by true rest = (s.0, rest)
      by false rest = rest

  -- answers
  pub tests-answered : (g : ℕ → Bool) → AreLinked (with_peer x (with_flow (λ (f : Flow). record f { tests = filter g f.tests }) (peer x f)) f) u
  tests-answered g = reflowed x (record (peer x f).flow { tests = filter g (peer x f).flow.tests }) (peer x f).told f u refl (reflow-own x (peer x f) (record (peer x f).flow { tests = filter g (peer x f).flow.tests }) (peer x f).told (all.own x) (λ e. ap (λ (f : Flow). record f { tests = filter g f.tests }) e) (λ e. ap (λ (f : Flow). record f { tests = filter g f.tests }) e)
      (λ s. record { own = s.own; link = s.link; key = s.key; tests = tests-fewer (phases (peer x f)) g (peer x f).flow.tests s.tests; drops = s.drops })) all

  pub drops-answered : (g : Drop → Bool) → AreLinked (with_peer x (with_flow (λ (f : Flow). record f { drops = filter g f.drops }) (peer x f)) f) u
  drops-answered g = reflowed x (record (peer x f).flow { drops = filter g (peer x f).flow.drops }) (peer x f).told f u refl (reflow-own x (peer x f) (record (peer x f).flow { drops = filter g (peer x f).flow.drops }) (peer x f).told (all.own x) (λ e. ap (λ (f : Flow). record f { drops = filter g f.drops }) e) (λ e. ap (λ (f : Flow). record f { drops = filter g f.drops }) e)
      (λ s. record { own = s.own; link = s.link; key = s.key; tests = s.tests; drops = drops-fewer (phases (peer x f)) g (peer x f).flow.drops s.drops })) all

-- what a report posts: of the link flow, the request or the keys of B that were carried by the lost link
pub under-append : (ps qs : List Post) → under_in (ps ++ qs) ≡ option_or (under_in ps) (under_in qs)
under-append [] qs = refl
under-append (p ∷ ps) qs = by (under_of p) (under-append ps qs)
  where
    by : (o : Option Under) → under_in (ps ++ qs) ≡ option_or (under_in ps) (under_in qs) → option_or o (under_in (ps ++ qs)) ≡ option_or (option_or o (under_in ps)) (under_in qs)
    by None e = e
    by (Some w) e = refl

no-drop : (x : Side) (k : ℕ) (own : Bool) (p : Peer) → under_in (drop_posts x k own p) ≡ None
no-drop x k own p = by (own && not (is_dropping k p.flow))
  where
    by : (b : Bool) → under_in (if b then Llc x (link_or_none (lowest_live p.table) p.table) (delete_link k) ∷ [] else []) ≡ None
    by true = refl
    by false = refl

no-key : (x : Side) (p : Peer) (keys : List Key) (rmbs : List ℕ) (phase : KeyPhase) (b : Bool) → under_in (if b then key_again x p keys rmbs phase ∷ [] else []) ≡ None
no-key x p keys rmbs Deleting true = refl
no-key x p keys rmbs Free true = refl
no-key x p keys rmbs Asked true = refl
no-key x p keys rmbs RetryWaits true = refl
no-key x p keys rmbs phase false = refl

-- the part of them
abbrev pub add_part : Side → ℕ → Peer → Flow → List Entry → List Post
add_part x k p before past = if resends_add k before.link then add_again x p (keys_of x past) (pair_on x (flow_slot before.link) past) before.link else []

pub under-loss : (setup : Setup) (x : Side) (k : ℕ) (own : Bool) (p : Peer) (before : Flow) (past : List Entry) → (p.group == 0) ≡ false → under_in (loss_posts setup x k own p before past) ≡ under_in (add_part x k p before past)
under-loss setup x k own p before past ne =
    ap (λ b. under_in (if b then [] else (drop_posts x k own p ++ (if resends_key k before then key_again x p (keys_of x past).keys (deleting_rmbs setup x past) before.key ∷ [] else [])) ++ add_part x k p before past)) ne
    ∙ (under-append (drop_posts x k own p ++ (if resends_key k before then key_again x p (keys_of x past).keys (deleting_rmbs setup x past) before.key ∷ [] else [])) (add_part x k p before past)
    ∙ (ap (λ o. option_or o (under_in (add_part x k p before past))) (under-append (drop_posts x k own p) (if resends_key k before then key_again x p (keys_of x past).keys (deleting_rmbs setup x past) before.key ∷ [] else []))
    ∙ (ap (λ o. option_or (option_or o (under_in (if resends_key k before then key_again x p (keys_of x past).keys (deleting_rmbs setup x past) before.key ∷ [] else []))) (under_in (add_part x k p before past))) (no-drop x k own p)
    ∙ ap (λ o. option_or o (under_in (add_part x k p before past))) (no-key x p (keys_of x past).keys (deleting_rmbs setup x past) before.key (resends_key k before)))))

-- the request and the keys of B as they are made
add-fits : (f : Fabric) (l : LinkId) (k qp group : ℕ) → (k == 0) ≡ false → f.b.flow.link ≡ AddSent k l.slot → FitsUnder (record { from = B; link = l; message = add_link B false k qp group }) f
add-fits f l k qp group ne e = asks-add f l k false 0 [] [] qp 5 group ne e

keys-fit : (f : Fabric) (l : LinkId) (on k : ℕ) (keys : List Key) (rmbs : List ℕ) → f.b.flow.link ≡ KeysSent k l.slot → FitsUnder (record { from = B; link = l; message = add_keys false on k keys rmbs }) f
keys-fit f l on k keys rmbs e = tells-keys f l k 0 [] e

-- B has lost a link, and posts its request again
module _ (k : ℕ) (own : Bool) (past : List Entry) (f : Fabric) (u : Option Under) (was : AreLinked f u) where
  pub reposted : (setup : Setup) (q : Peer) → Flow.link q.flow ≡ Flow.link (Peer.flow (loses k f.b)) → AreLinked (with_peer B q f) u → AreLinked (with_peer B q f) (then_posted (loss_posts setup B k own (loses k f.b) f.b.flow past) u)
  reposted setup q same lost = by (lowest_live (set_phase k Dead f.b.table) == 0) refl same
    where
      Goal : Peer → Type 0
      Goal p = AreLinked (with_peer B q f) (then_posted (loss_posts setup B k own p f.b.flow past) u)

      quiet : (p : Peer) → under_in (loss_posts setup B k own p f.b.flow past) ≡ None → AreLinked (with_peer B q f) (then_posted (loss_posts setup B k own p f.b.flow past) u)
      quiet p e = subst (λ o. AreLinked (with_peer B q f) (option_or o u)) (sym e) lost

      again : (low : ℕ) → phase_at low (set_phase k Dead f.b.table) ≡ LiveLink → AreFlowing B (phases f.b) f.b.flow → (flow : LinkFlow) → f.b.flow.link ≡ flow → q.flow.link ≡ lost_link k low flow → (b : Bool) → resends_add k flow ≡ b → (ks : Keys) (qp : ℕ) (p : Peer) → p.table ≡ set_phase k Dead f.b.table → lowest_live p.table ≡ low
          → AreLinked (with_peer B q f) (option_or (under_in (if b then add_again B p ks qp flow else [])) u)
      again low live fl flow e is false r ks qp p t lows = lost
      again low live fl (AddSent j on) e is true r ks qp p t lows =
          let h = and-both (not (j == k)) (on == k) r in
          let s : LinkFits (phases f.b) (AddSent j on) = subst (λ flow. LinkFits (phases f.b) flow) e fl.link in
          answered (with_peer B q f) u (record { from = B; link = link_or_none (lowest_live p.table) p.table; message = add_link B false j qp p.group }) (add-fits (with_peer B q f) (link_or_none (lowest_live p.table) p.table) j qp p.group (ne_eqb j 0 (λ z. omega (arith, z, s.0)))
          (is ∙ (resent j on h.0 h.1 ∙ ap (λ n. AddSent j n) (sym (slot-of (lowest_live p.table) p.table (ap (λ n. is_standing (phase_at n p.table)) lows ∙ (ap (λ ks. is_standing (phase_at low ks)) t ∙ ap is_standing live)) ∙ lows))))) lost
        where
          resent : (j on : ℕ) → not (j == k) ≡ true → (on == k) ≡ true → lost_link k low (AddSent j on) ≡ AddSent j low
          resent j on n o = by (j == k) (on == k) n o
            where
              by : (b c : Bool) → not b ≡ true → c ≡ true → (if b then Abandoned on else if c then AddSent j low else AddSent j on) ≡ AddSent j low
              by true c n o = absurd (true≢false (sym n))
              by false true n o = refl
              by false false n o = absurd (true≢false (sym o))
      again low live fl (KeysSent j on) e is true r ks qp p t lows =
          let h = and-both (not (j == k)) (on == k) r in
          answered (with_peer B q f) u (record { from = B; link = link_or_none (lowest_live p.table) p.table; message = add_keys false (lowest_live p.table) j ks.keys ks.confirmed }) (keys-fit (with_peer B q f) (link_or_none (lowest_live p.table) p.table) (lowest_live p.table) j ks.keys ks.confirmed
          (is ∙ (resent j on h.0 h.1 ∙ ap (λ n. KeysSent j n) (sym (slot-of (lowest_live p.table) p.table (ap (λ n. is_standing (phase_at n p.table)) lows ∙ (ap (λ ks. is_standing (phase_at low ks)) t ∙ ap is_standing live)) ∙ lows))))) lost
        where
          resent : (j on : ℕ) → not (j == k) ≡ true → (on == k) ≡ true → lost_link k low (KeysSent j on) ≡ KeysSent j low
          resent j on n o = by (j == k) (on == k) n o
            where
              by : (b c : Bool) → not b ≡ true → c ≡ true → (if b then Abandoned on else if c then KeysSent j low else KeysSent j on) ≡ KeysSent j low
              by true c n o = absurd (true≢false (sym n))
              by false true n o = refl
              by false false n o = absurd (true≢false (sym o))
      again low live fl NoFlow e is true r ks qp p t lows = absurd (true≢false (sym r))
      again low live fl FirstContact e is true r ks qp p t lows = absurd (true≢false (sym r))
      again low live fl (LinkSent j) e is true r ks qp p t lows = absurd (true≢false (sym r))
      again low live fl (Abandoned on) e is true r ks qp p t lows = absurd (true≢false (sym r))
      again low live fl (AddSeen j) e is true r ks qp p t lows = absurd (true≢false (sym r))

      by : (b : Bool) → (lowest_live (set_phase k Dead f.b.table) == 0) ≡ b → q.flow.link ≡ Flow.link (Peer.flow (if b then ends_group (without_slot k f.b) else goes_on k (without_slot k f.b)))
          → AreLinked (with_peer B q f) (then_posted (loss_posts setup B k own (if b then ends_group (without_slot k f.b) else goes_on k (without_slot k f.b)) f.b.flow past) u)
      by true e is = lost
      by false e is =
          let g = was-going B k f.b (was.own B) e in
          let low = lowest-is 1 (set_phase k Dead f.b.table) (omega arith) (after-rises B k f.b (was.own B)) e in
          subst (λ o. AreLinked (with_peer B q f) (option_or o u)) (sym (under-loss setup B k own (goes_on k (without_slot k f.b)) f.b.flow past (ne_eqb f.b.group 0 (λ z. g.0 z))))
          (again (lowest_live (set_phase k Dead f.b.table)) low.1 g.1 f.b.flow.link refl is (resends_add k f.b.flow.link) refl (keys_of B past) (pair_on B (flow_slot f.b.flow.link) past) (goes_on k (without_slot k f.b)) refl refl)

-- A posts nothing of the link flow again
pub quiet-a : (setup : Setup) (k : ℕ) (own : Bool) (past : List Entry) (f : Fabric) (u : Option Under) → AreLinked f u → (q : Peer) → AreLinked (with_peer A q f) u → AreLinked (with_peer A q f) (then_posted (loss_posts setup A k own (loses k f.a) f.a.flow past) u)
quiet-a setup k own past f u was q lost = by (lowest_live (set_phase k Dead f.a.table) == 0) refl
  where
    none : (flow : LinkFlow) → is_own_flow A flow ≡ true → resends_add k flow ≡ false
    none NoFlow e = refl
    none FirstContact e = refl
    none (AddSeen j) e = refl
    none (AddSent j on) e = absurd (true≢false (sym e))
    none (KeysSent j on) e = absurd (true≢false (sym e))
    none (LinkSent j) e = refl
    none (Abandoned on) e = refl

    by : (b : Bool) → (lowest_live (set_phase k Dead f.a.table) == 0) ≡ b → AreLinked (with_peer A q f) (then_posted (loss_posts setup A k own (if b then ends_group (without_slot k f.a) else goes_on k (without_slot k f.a)) f.a.flow past) u)
    by true e = lost
    by false e =
        let g = was-going A k f.a (was.own A) e in
        let fl : AreFlowing A (phases f.a) f.a.flow = g.1 in
        subst (λ o. AreLinked (with_peer A q f) (option_or o u))
        (sym (under-loss setup A k own (goes_on k (without_slot k f.a)) f.a.flow past (ne_eqb f.a.group 0 (λ z. g.0 z))
        ∙ ap (λ b. under_in (if b then add_again A (goes_on k (without_slot k f.a)) (keys_of A past) (pair_on A (flow_slot f.a.flow.link) past) f.a.flow.link else [])) (none f.a.flow.link fl.own)))
        lost

same-reported : (k : ℕ) (p : Peer) → Flow.link (Peer.flow (reports k p)) ≡ Flow.link (Peer.flow (loses k p))
same-reported k p = by (loses k p) ((loses k p).group == 0)
  where
    at : (carrier : ℕ) (flow : Flow) (b : Bool) → Flow.link (if b then flow else record flow { drops = record { slot = k; on = carrier } ∷ flow.drops }) ≡ flow.link
    at carrier flow true = refl
    at carrier flow false = refl

    by : (q : Peer) (b : Bool) → Flow.link (Peer.flow (if b then q else with_flow (begins_drop k (lowest_live q.table)) q)) ≡ q.flow.link
    by q true = refl
    by q false = at (lowest_live q.table) q.flow (is_dropping k q.flow)

-- a side reports a link of its own
pub reports-linked : (setup : Setup) (x : Side) (k : ℕ) (past : List Entry) (u : Option Under) → AreLinked (fabric past) u → AreLinked (with_peer x (reports k (peer x (fabric past))) (fabric past)) (then_posted (report_posts setup x k true past) u)
reports-linked setup A k past u all = quiet-a setup k true past (fabric past) u all (reports k (peer A (fabric past))) (reported-a k (fabric past) u all)
reports-linked setup B k past u all = reposted k true past (fabric past) u all setup (reports k (peer B (fabric past))) (same-reported k (peer B (fabric past))) (reported-b k (fabric past) u all)

-- or as the peer has
pub loses-linked : (setup : Setup) (x : Side) (k : ℕ) (past : List Entry) (u : Option Under) → AreLinked (fabric past) u → AreLinked (with_peer x (loses k (peer x (fabric past))) (fabric past)) (then_posted (report_posts setup x k false past) u)
loses-linked setup A k past u all = quiet-a setup k false past (fabric past) u all (loses k (peer A (fabric past))) (lost-a k (fabric past) u all)
loses-linked setup B k past u all = reposted k false past (fabric past) u all setup (loses k (peer B (fabric past))) refl (lost-b k (fabric past) u all)
