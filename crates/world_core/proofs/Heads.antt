-- What lands next on the link, where it is a CDC message, spells what an end has to land next, and likewise what completes.
use Rattle.std.proofs.Common.{◌≡◌, ◌∙◌, ◌==◌, ◌⊎◌, inl, inr, ℕ, ◌-◌, ◌<◌, Bool, true, false, if◌then◌else◌, List, [], ◌∷◌, take, drop, filter, refl, ap, sym, subst, ◌&&◌, true≢false, eqb-true, eq-eqb, arith, lt-ltb, suc, zero}
use Rattle.std.specs.Prelude.{Option, Some, None, is_some, cond}
use Rattle.std.specs.List.{cons_option}
use Rattle.smc_num.specs.declared.Side.{Side}
use Rattle.smc_num.specs.declared.LinkId.{LinkId}
use Rattle.smc_num.specs.Names.{other, same_side, same_link, head}
use Rattle.cdc_wire.specs.declared.CdcMessage.{CdcMessage}
use Rattle.pipe_model.specs.declared.setup.Setup.{Setup}
use Rattle.pipe_model.specs.declared.post.Post.TheVariants.{Cdc}
use Rattle.pipe_model.specs.declared.post.Placed.{Placed}
use Rattle.pipe_model.specs.declared.entry.Entry.{Entry}
use Rattle.pipe_model.specs.declared.sent.Sent.{Sent}
use Rattle.pipe_model.specs.Words.{element_size}
use Rattle.pipe_model.specs.Snapshot.{spelled, validation}
use Rattle.pipe_model.specs.History.{Offered, offered, next_number, numbered}
use Rattle.pipe_model.specs.Wires.{is_on, completes_later, unlanded, uncompleted}
use Rattle.pipe_model.specs.Ends.{Half, to_land, to_complete}
use Rattle.pipe_model.specs.Parts.{EachOf}
use Rattle.pipe_model.specs.Pipe.{half}
use Rattle.pipe_model.specs.Lending.{pipe_of}
use Rattle.world_core.specs.Played.{IsPlayed}
use Rattle.world_core.specs.OneLink.{the_link}
use Rattle.world_core.specs.Wired.{cdc_under, if_meant, cdcs, message, returning, IsCarried, IsOpenSent}
use Rattle.world_core.specs.WireSteps.{EachPlaced, leaving, landing_now, completing_now}
use Rattle.world_core.specs.Agreement.{HasOffers, IsShaken, IsElse, Agree, Spelling, next_to_land, next_to_complete}
use Rattle.world_core.proofs.OpenEnds.{each-head, MaySent}
use Rattle.world_core.proofs.Places.{placed-append, placed-drop, placed-take, placed-filter}
use Rattle.world_core.proofs.Carried.{begins}
use Rattle.world_core.proofs.Feasible.{has-returning, returning-head}
use Rattle.world_core.proofs.Own.{grouped}
use Rattle.world_core.proofs.Agreement.{agrees}
use Rattle.world_core.proofs.Pipes.{offers-of, has-pipe}
use Rattle.world_core.proofs.Plain.{and-left}

-- what is on a wire is of that side and on that link
module _ (link : LinkId) (x : Side) where
  abbrev IsThere : Placed → Type 0
  IsThere c = is_on link x c.post ≡ true

  tested : (cs : List Placed) → EachPlaced IsThere (filter (λ c. is_on link x c.post) cs)
  tested [] = tt
  tested (c ∷ cs) = by (is_on link x c.post) refl (tested cs)
    where
      by : (b : Bool) → is_on link x c.post ≡ b → EachPlaced IsThere (filter (λ d. is_on link x d.post) cs) → EachPlaced IsThere (cond b (c ∷ filter (λ d. is_on link x d.post) cs) (filter (λ d. is_on link x d.post) cs))
      by true e p = (e, p)
      by false e p = p

  pub unlanded-there : (past : List Entry) → EachPlaced IsThere (unlanded link x past)
  unlanded-there [] = tt
  unlanded-there (e ∷ past) = placed-append IsThere (drop (leaving link x e past) (unlanded link x past)) _ (placed-drop IsThere (leaving link x e past) (unlanded link x past) (unlanded-there past)) (tested (numbered (next_number past) 1 e.posts))

  pub uncompleted-there : (past : List Entry) → EachPlaced IsThere (uncompleted link x past)
  uncompleted-there [] = tt
  uncompleted-there (e ∷ past) = placed-append IsThere (drop (completing_now link x e past) (uncompleted link x past)) _ (placed-drop IsThere (completing_now link x e past) (uncompleted link x past) (uncompleted-there past))
      (placed-filter IsThere (λ c. completes_later c.post) (take (landing_now link x e past) (unlanded link x past)) (placed-take IsThere (landing_now link x e past) (unlanded link x past) (unlanded-there past)))

  -- so a CDC message is meant under its own token
  pub first-meant : (queue : List Placed) (c : Placed) (rest : List Placed) (from : Side) (l : LinkId) (m : CdcMessage) → EachPlaced IsThere queue → queue ≡ c ∷ rest → c.post ≡ Cdc from l m → cdc_under x m.token c.post ≡ Some m
  first-meant queue c rest from l m p q e =
      let there = subst (λ cs. EachPlaced IsThere cs) q p in
      let same : same_side x from ≡ true = and-left (same_side x from) (same_link link l) (ap (λ post. is_on link x post) (sym e) ∙ there.0) in
      ap (λ post. cdc_under x m.token post) e ∙ ap (λ b. if_meant (b && (m.token == m.token)) m) same ∙ ap (λ b. if_meant b m) (eq-eqb m.token m.token refl)

-- some offer gave a token, or none did
abbrev pub Gave : Side → ℕ → List Entry → Type 0
Gave y token past = (s : ℕ) × ((o : Offered) × ((offered y s past ≡ Some o) × (token ≡ o.offer.token)))

gave-by : (y : Side) (token : ℕ) (past : List Entry) (s : ℕ) (q : Option Offered) → offered y s past ≡ q → Gave y token past ⊎ IsElse token q
gave-by y token past s None e = inr tt
gave-by y token past s (Some o) e = by (token == o.offer.token) refl
  where
    by : (b : Bool) → (token == o.offer.token) ≡ b → Gave y token past ⊎ ((token == o.offer.token) ≡ false)
    by true f = inl (s, (o, (e, eqb-true token o.offer.token f)))
    by false f = inr f

search-below : (y : Side) (token : ℕ) (past : List Entry) (n : ℕ) → Gave y token past ⊎ ((s : ℕ) → s < n → IsElse token (offered y s past))
search-below y token past zero = inr (λ s l. absurd (omega (arith, l)))
search-below y token past (suc n) = by (search-below y token past n) (gave-by y token past n (offered y n past) refl)
  where
    by : Gave y token past ⊎ ((s : ℕ) → s < n → IsElse token (offered y s past)) → Gave y token past ⊎ IsElse token (offered y n past) → Gave y token past ⊎ ((s : ℕ) → s < suc n → IsElse token (offered y s past))
    by (inl g) q = inl g
    by (inr f) (inl g) = inl g
    by (inr f) (inr e) = inr (λ s l. last s l (s == n) refl)
      where
        last : (s : ℕ) → s < suc n → (b : Bool) → (s == n) ≡ b → IsElse token (offered y s past)
        last s l true h = subst (λ k. IsElse token (offered y k past)) (sym (eqb-true s n h)) e
        last s l false h = f s (below s l (λ g. true≢false (sym (eq-eqb s n g) ∙ h)))
          where
            below : (s : ℕ) → s < suc n → ((s ≡ n) → ⊥) → s < n
            below s l d = omega (arith, l, d)

pub gave : (setup : Setup) (y : Side) (token : ℕ) (past : List Entry) → HasOffers setup past → Gave y token past ⊎ ((s : ℕ) → IsElse token (offered y s past))
gave setup y token past h = by (search-below y token past setup.sockets)
  where
    by : Gave y token past ⊎ ((s : ℕ) → s < setup.sockets → IsElse token (offered y s past)) → Gave y token past ⊎ ((s : ℕ) → IsElse token (offered y s past))
    by (inl g) = inl g
    by (inr f) = inr (λ s. at s (offered y s past) refl)
      where
        at : (s : ℕ) (q : Option Offered) → offered y s past ≡ q → IsElse token q
        at s None e = tt
        at s (Some o) e = subst (λ q. IsElse token q) e (f s (h.known y s o e))

module _ (setup : Setup) (payload : List ℕ) (x : Side) (past : List Entry) (n : ℕ) (played : IsPlayed setup payload past n) (shaken : IsShaken setup past) where
  abbrev End : ℕ → ℕ → Half
  End g s = half x (pipe_of setup payload g s past)

  spelled-so : (token : ℕ) (r : Sent) (m : CdcMessage) → r.check ≡ false → m ≡ message (element_size setup) token r → m ≡ spelled (element_size setup) token r.snapshot
  spelled-so token r m c e = e ∙ ap (λ b. if b then validation (element_size setup) token r.snapshot else spelled (element_size setup) token r.snapshot) c

  spelling : (place : Half → Option Sent) (s : ℕ) (o : Offered) (m : CdcMessage) (r : Sent) → offered (other x) s past ≡ Some o → m.token ≡ o.offer.token → place (End 1 s) ≡ Some r → IsOpenSent r → m ≡ message (element_size setup) o.offer.token r → Spelling setup payload x past m place
  spelling place s o m r f t p w e = record {
    s = s;
    offer = o;
    offered_is = f;
    token = t;
    sent = r;
    sent_is = subst (λ g. place (End g s) ≡ Some r) (sym (grouped setup past (offers-of setup past shaken) (other x) s o f)) p;
    open_sent = w;
    spells = subst (λ k. m ≡ spelled (element_size setup) k r.snapshot) (sym t) (spelled-so o.offer.token r m w.0 e);
  }

  open-at : (i s : ℕ) (o : Offered) (r : Sent) → offered (other x) s past ≡ Some o → head (drop i (End 1 s).sent) ≡ Some r → IsOpenSent r
  open-at i s o r f e =
      let p = has-pipe setup payload s past n played shaken in
      let q = p.open_end x in
      let each : EachOf IsOpenSent (End 1 s).sent = subst (λ g. EachOf IsOpenSent (End g s).sent) (grouped setup past (offers-of setup past shaken) (other x) s o f) q.sent in
      subst (λ k. MaySent IsOpenSent k) e (each-head IsOpenSent i (End 1 s).sent each)

  not-none : (token : ℕ) (m : CdcMessage) (queue : List Placed) (c : Placed) (rest : List Placed) → queue ≡ c ∷ rest → cdc_under x token c.post ≡ Some m → cdcs x token queue ≡ m ∷ cdcs x token rest
  not-none token m queue c rest q e = ap (λ cs. cdcs x token cs) q ∙ ap (λ k. cons_option k (cdcs x token rest)) e

  -- what lands next
  pub lands-spelled : (c : Placed) (rest : List Placed) (from : Side) (l : LinkId) (m : CdcMessage) → unlanded the_link x past ≡ c ∷ rest → c.post ≡ Cdc from l m → Spelling setup payload x past m next_to_land
  lands-spelled c rest from l m q e = by (gave setup (other x) m.token past (offers-of setup past shaken))
    where
      agree : Agree setup payload past
      agree = agrees setup payload past n played shaken

      first : cdcs x m.token (unlanded the_link x past) ≡ m ∷ cdcs x m.token rest
      first = not-none m.token m (unlanded the_link x past) c rest q (first-meant the_link x (unlanded the_link x past) c rest from l m (unlanded-there the_link x past) q e)

      by : Gave (other x) m.token past ⊎ ((s : ℕ) → IsElse m.token (offered (other x) s past)) → Spelling setup payload x past m next_to_land
      by (inr f) = let w = agree.strange x in absurd (true≢false (sym (ap (λ ms. is_some (head ms)) (sym (w.landing m.token f) ∙ first))))
      by (inl g) =
          let s : ℕ = g.0 in
          let h = g.1 in
          let o : Offered = h.0 in
          let i = h.1 in
          let w : IsCarried (element_size setup) the_link x o.offer.token past (End 1 s) = agree.carried x s o i.0 in
          let b = begins (message (element_size setup) o.offer.token) m (cdcs x o.offer.token rest) (to_land (End 1 s)) (sym (subst (λ k. cdcs x k (unlanded the_link x past) ≡ m ∷ cdcs x k rest) i.1 first) ∙ w.landing) in
          let next : head (to_land (End 1 s)) ≡ Some b.x = ap (λ ms. head ms) b.is in
          spelling next_to_land s o m b.x i.0 i.1 next (open-at (End 1 s).landed s o b.x i.0 next) b.first_is

  -- what completes next
  pub completes-spelled : (c : Placed) (rest : List Placed) (from : Side) (l : LinkId) (m : CdcMessage) → uncompleted the_link x past ≡ c ∷ rest → c.post ≡ Cdc from l m → Spelling setup payload x past m next_to_complete
  completes-spelled c rest from l m q e = by (gave setup (other x) m.token past (offers-of setup past shaken))
    where
      agree : Agree setup payload past
      agree = agrees setup payload past n played shaken

      first : cdcs x m.token (uncompleted the_link x past) ≡ m ∷ cdcs x m.token rest
      first = not-none m.token m (uncompleted the_link x past) c rest q (first-meant the_link x (uncompleted the_link x past) c rest from l m (uncompleted-there the_link x past) q e)

      by : Gave (other x) m.token past ⊎ ((s : ℕ) → IsElse m.token (offered (other x) s past)) → Spelling setup payload x past m next_to_complete
      by (inr f) = let w = agree.strange x in absurd (true≢false (sym (ap (λ ms. is_some (head ms)) (sym (w.completing m.token f) ∙ first))))
      by (inl g) =
          let s : ℕ = g.0 in
          let h = g.1 in
          let o : Offered = h.0 in
          let i = h.1 in
          let k : Half = End 1 s in
          let w : IsCarried (element_size setup) the_link x o.offer.token past (End 1 s) = agree.carried x s o i.0 in
          let b = begins (message (element_size setup) o.offer.token) m (cdcs x o.offer.token rest) (returning (End 1 s)) (sym (subst (λ t. cdcs x t (uncompleted the_link x past) ≡ m ∷ cdcs x t rest) i.1 first) ∙ w.completing) in
          let next : head (to_complete (End 1 s)) ≡ Some b.x = returning-head (k.landed - k.completed) (to_complete k) b.others b.x b.is in
          let landed : k.completed < k.landed = has-returning k b.x b.others b.is in
          spelling next_to_complete s o m b.x i.0 i.1 (ap (λ c. if c then head (to_complete k) else None) (lt-ltb k.completed k.landed landed) ∙ next) (open-at k.completed s o b.x i.0 next) b.first_is
