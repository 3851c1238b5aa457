-- Wires and pipes agree in every history whose entries have the replies and posts that the definitions give, given what links, offers and establishments owe.
use Rattle.std.proofs.Common.{Bool, List, [], ap, drop, false, filter, if◌then◌else◌, inl, inr, map, refl, subst, sym, take, true, true≢false, ℕ, ◌++◌, ◌==◌, ◌||◌, ◌∙◌, ◌∷◌, ◌≡◌}
use Rattle.std.specs.Prelude.{None, Option, Some, is_some}
use Rattle.std.specs.List.{cons_option}
use Rattle.pipe_model.specs.Connections.{comes_up}
use Rattle.pipe_model.specs.Pipe.{Lands}
use Rattle.std.proofs.lemmas.Bool.{eqb-true}
use Rattle.pipe_model.specs.Ends.{fresh}
use Rattle.history_laws.specs.Words.{A, B, CdcMessage, Completes, Entry, Half, IsFeasible, LinkId, Offered, Placed, Setup, Side, Terms, completes_later, deeds, element_size, group_on, half, head, is_broken, is_on, is_up, items, next_number, no_link, numbered, offered, other, part, pipe_of, same_link, terms_of, uncompleted, unlanded}
use Rattle.history_laws.specs.Wires.{EachPlaced, IsCarried, IsElse, cdc_under, cdcs, completing_now, landing_now, leaving, message}
use Rattle.history_laws.specs.Made.{IsMadeAll, IsMade}
use Rattle.history_laws.proofs.Wires.{CompletesHere, Elsewhere, Goes, LandsHere, Quietly, SwallowedHere, apart, group_by, own-none, placed-append, placed-drop, placed-filter, placed-take}
use Rattle.history_laws.proofs.Basics.{by-bool, cdcs-append, is_no_message, lands-nothing, none-is, or-right, returns-nothing, some-is}
use Rattle.history_laws.specs.Items.{EachItem}
use Rattle.history_laws.proofs.Items.{below, below-messages, each-append, items-are, pipe-is-up}
use Rattle.link_laws.specs.Lasting.{is_lost}
use Rattle.lending_laws.specs.Ends.{OffersGoOn}
use Rattle.wire_laws.specs.Agreement.{Agrees, AllOwed, CarriesNone, IsCarriedOn, IsCutOff, IsItsGroup, OwedToAgreement}
use Rattle.wire_laws.proofs.Agreement.Way.{carried-step, goes-on}
use Rattle.wire_laws.proofs.Agreement.Feasible.{broken-more, cut-step, each-both, feasible-more, feasible-step}
use Rattle.wire_laws.proofs.Agreement.Ends.{b-offered, idle-any, no-news-strange}

-- nothing under a token
module _ (x : Side) (token : ℕ) where
  abbrev NoneIn : Placed → Type 0
  NoneIn c = cdc_under x token c.post ≡ None

  split : (o : Option CdcMessage) (ms : List CdcMessage) → cons_option o ms ≡ [] → (o ≡ None) × (ms ≡ [])
  split None ms f = (refl, f)
  split (Some m) ms f = absurd (true≢false (ap (λ ns. is_some (head ns)) f))

  each-none : (ps : List Placed) → cdcs x token ps ≡ [] → EachPlaced NoneIn ps
  each-none [] e = tt
  each-none (p ∷ ps) e = let q = split (cdc_under x token p.post) (cdcs x token ps) e in (q.0, each-none ps q.1)

  none-each : (ps : List Placed) → EachPlaced NoneIn ps → cdcs x token ps ≡ []
  none-each [] e = refl
  none-each (p ∷ ps) e = ap (λ o. cons_option o (cdcs x token ps)) e.0 ∙ none-each ps e.1

-- an end that is up was offered an element by its peer
pub up-offered : (setup : Setup) (payload : List ℕ) (x : Side) (s : ℕ) (past : List Entry) → AllOwed setup payload past → is_up x s past ≡ true → (o : Offered) × (offered (other x) s past ≡ Some o)
up-offered setup payload x s [] a u = absurd (true≢false (sym u))
up-offered setup payload x s (e ∷ past) a u = by (comes_up x s e past) refl (λ k v. up-offered setup payload x s past k v)
  where
    beside : OffersGoOn e past
    beside = let q = a.1 in q.0

    rest : AllOwed setup payload past
    rest = let q = a.1 in q.1

    by : (c : Option LinkId) → comes_up x s e past ≡ c → (AllOwed setup payload past → is_up x s past ≡ true → (o : Offered) × (offered (other x) s past ≡ Some o)) → (o : Offered) × (offered (other x) s (e ∷ past) ≡ Some o)
    by (Some l) f again = let r = beside.answers x s l f in (r.0, beside.kept (other x) s r.0 r.1)
    by None f again = let r = again rest (ap (λ c. is_some c || is_up x s past) (sym f) ∙ u) in (r.0, beside.kept (other x) s r.0 r.1)

module _ (setup : Setup) (payload : List ℕ) (e : Entry) (past : List Entry) (before : ℕ) (made : IsMade setup payload past before e) (owed : OwedToAgreement setup payload past) (beside : OffersGoOn e past) (all : AllOwed setup payload past) (agree : Agrees setup payload past) where
  abbrev T : Terms
  T = terms_of setup

  -- a connection that was offered keeps its group
  pub same-group : (s : ℕ) (r : Offered) → offered B s past ≡ Some r → group_on s (e ∷ past) ≡ group_on s past
  same-group s r f = ap (λ q. group_by q) (beside.kept B s r f) ∙ sym (ap (λ q. group_by q) f)

  its-group : (s group : ℕ) (r : Offered) → offered B s past ≡ Some r → IsItsGroup group s (e ∷ past) → group_on s past ≡ group
  its-group s group r f (inl n) = absurd (none-is r (sym n ∙ beside.kept B s r f))
  its-group s group r f (inr q) = sym (q ∙ same-group s r f)

  -- one that was not offered gets no message
  both-none : (x : Side) (s : ℕ) → offered B s past ≡ None → offered (other x) s past ≡ None
  both-none A s f = f
  both-none B s f = owed.answer s f

  each-apart : (x : Side) (s : ℕ) → offered (other x) s past ≡ None → EachItem (apart x) (deeds payload s e.event e.reply past)
  each-apart x s f = by (goes-on setup payload e past before made owed beside agree no_link x)
    where
      none : deeds payload s e.event e.reply past ≡ [] → EachItem (apart x) (deeds payload s e.event e.reply past)
      none d = subst (λ is. EachItem (apart x) is) (sym d) tt

      by : Goes payload no_link x e past → EachItem (apart x) (deeds payload s e.event e.reply past)
      by (Quietly st a) = a s
      by (Elsewhere st l c item diff r i q d) = none (d s ∙ own-none item x s (Some c.at) past f)
      by (LandsHere l r d) = none (d s ∙ own-none (Lands x) x s (Some l.first.at) past f)
      by (CompletesHere l r d) = none (d s ∙ own-none (Completes x) x s (Some l.first.at) past f)
      by (SwallowedHere l may d) = none (d s ∙ own-none (Completes x) x s (Some l.first.at) past f)

  no-messages : (s group : ℕ) → offered B s past ≡ None → EachItem is_no_message (items payload group s e past)
  no-messages s group f = subst (λ is. EachItem is_no_message is) (sym (items-are payload group s e past))
      (each-append is_no_message (deeds payload s e.event e.reply past) (below group s e past)
      (each-both (deeds payload s e.event e.reply past) (each-apart A s (both-none A s f)) (each-apart B s (both-none B s f))) (below-messages group s e past))

  feasible-on : (s group : ℕ) → IsItsGroup group s (e ∷ past) → (q : Option Offered) → offered B s past ≡ q → IsFeasible T (part payload group s (e ∷ past))
  feasible-on s group of (Some r) f = subst (λ g. IsFeasible T (part payload g s (e ∷ past))) (its-group s group r f of) (feasible-step setup payload e past before made owed beside agree s)
  feasible-on s group of None f = feasible-more T (items payload group s e past) (part payload group s past) (no-messages s group f) (agree.feasible s group (inl f))

  not-up : (x : Side) (s : ℕ) → offered (other x) s past ≡ None → is_up x s past ≡ true → ⊥
  not-up x s f u = let r = up-offered setup payload x s past all u in none-is r.0 (sym f ∙ r.1)

  cut-on : (x : Side) (s group : ℕ) → IsItsGroup group s (e ∷ past) → (q : Option Offered) → offered B s past ≡ q → is_broken T x (part payload group s (e ∷ past)) ≡ true → IsCutOff (half x (pipe_of setup payload group s (e ∷ past))) (e ∷ past)
  cut-on x s group of (Some r) f b =
      let g : group_on s past ≡ group = its-group s group r f of in
      subst (λ i. IsCutOff (half x (pipe_of setup payload i s (e ∷ past))) (e ∷ past)) g
      (cut-step setup payload e past before made owed beside agree x s (subst (λ i. is_broken T x (part payload i s (e ∷ past)) ≡ true) (sym g) b))
  cut-on x s group of None f b =
      let c = agree.cut_off x s group (inl f) (broken-more T x (items payload group s e past) (part payload group s past) (no-messages s group f) b) in
      absurd (not-up x s (both-none x s f) (sym (pipe-is-up T x payload group s past) ∙ c.up))

  -- under a token that no offer gave
  strange-step : (x : Side) (token : ℕ) → ((s : ℕ) → IsElse token (offered (other x) s past)) → (link : LinkId) → CarriesNone link x token (e ∷ past)
  strange-step x token f link =
      let c = agree.strange x token f link in
      let u = each-none x token (unlanded link x past) c.landing in
      let v = each-none x token (uncompleted link x past) c.completing in
      record {
        landing = cdcs-append x token (drop (leaving link x e past) (unlanded link x past)) (filter (λ d. is_on link x d.post) (numbered (next_number past) 1 e.posts)) ∙
            (ap (λ ms. ms ++ cdcs x token (filter (λ d. is_on link x d.post) (numbered (next_number past) 1 e.posts))) (none-each x token _ (placed-drop (NoneIn x token) (leaving link x e past) (unlanded link x past) u)) ∙
            no-news-strange setup payload e past before made owed beside link x token f);
        completing = none-each x token (uncompleted link x (e ∷ past)) (placed-append (NoneIn x token) (drop (completing_now link x e past) (uncompleted link x past)) _
            (placed-drop (NoneIn x token) (completing_now link x e past) (uncompleted link x past) v)
            (placed-filter (NoneIn x token) (λ d. completes_later d.post) (take (landing_now link x e past) (unlanded link x past)) (placed-take (NoneIn x token) (landing_now link x e past) (unlanded link x past) u)));
      }

  else-before : (y : Side) (t token : ℕ) → IsElse token (offered y t (e ∷ past)) → IsElse token (offered y t past)
  else-before y t token f = by (offered y t past) refl
    where
      by : (q : Option Offered) → offered y t past ≡ q → IsElse token q
      by None h = tt
      by (Some r) h = subst (λ q. IsElse token q) (beside.kept y t r h) f

  -- the token of a new offer was given by none
  new-token : (after : OwedToAgreement setup payload (e ∷ past)) (y : Side) (s : ℕ) (o : Offered) → offered y s (e ∷ past) ≡ Some o → offered y s past ≡ None → (t : ℕ) → IsElse o.offer.token (offered y t past)
  new-token after y s o f n t = by (offered y t past) refl
    where
      by : (q : Option Offered) → offered y t past ≡ q → IsElse o.offer.token q
      by None i = tt
      by (Some r) i = by-bool _ (o.offer.token == r.offer.token)
          (λ j. absurd (none-is r (sym n ∙ (ap (λ k. offered y k past) (after.tokens y s t o r f (beside.kept y t r i) (eqb-true o.offer.token r.offer.token j)) ∙ i))))
          (λ j. j)

  -- an end that was offered just now has sent nothing
  new-carried : (after : OwedToAgreement setup payload (e ∷ past)) (x : Side) (s : ℕ) (o : Offered) → offered (other x) s (e ∷ past) ≡ Some o → offered (other x) s past ≡ None → (link : LinkId) →
      IsCarriedOn (element_size setup) link x o.offer.token (e ∷ past) (half x (pipe_of setup payload (group_on s (e ∷ past)) s (e ∷ past)))
  new-carried after x s o f n link =
      let k : Half = half x (pipe_of setup payload (group_on s (e ∷ past)) s (e ∷ past)) in
      let c = strange-step x o.offer.token (new-token after (other x) s o f n) link in
      let low : is_up x s (e ∷ past) ≡ false = by-bool _ (is_up x s (e ∷ past)) (λ u. absurd (was u)) (λ u. u) in
      let sent : k.sent ≡ [] = idle-any T x (part payload (group_on s (e ∷ past)) s (e ∷ past)) (pipe-is-up T x payload (group_on s (e ∷ past)) s (e ∷ past) ∙ low) in
      by k sent c (same_link link k.link)
    where
      was : is_up x s (e ∷ past) ≡ true → ⊥
      was u = of (comes_up x s e past) refl
        where
          of : (c : Option LinkId) → comes_up x s e past ≡ c → ⊥
          of (Some l) i = let r = beside.answers x s l i in none-is r.0 (sym n ∙ r.1)
          of None i = not-up x s n (ap (λ c. is_some c || is_up x s past) (sym i) ∙ u)

      by : (k : Half) → k.sent ≡ [] → CarriesNone link x o.offer.token (e ∷ past) → (b : Bool) → IsCarried (element_size setup) link x o.offer.token (e ∷ past) (if b then k else fresh 0)
      by k sent c true = record {
        landing = c.landing ∙ sym (ap (λ ms. map (message (element_size setup) o.offer.token) ms) (lands-nothing k sent));
        completing = c.completing ∙ sym (ap (λ ms. map (message (element_size setup) o.offer.token) ms) (returns-nothing k sent));
      }
      by k sent c false = record { landing = c.landing; completing = c.completing }

  carried-on : (after : OwedToAgreement setup payload (e ∷ past)) (x : Side) (s : ℕ) (o : Offered) → offered (other x) s (e ∷ past) ≡ Some o → (link : LinkId) → is_lost x link (e ∷ past) ≡ false → (q : Option Offered) → offered (other x) s past ≡ q →
      IsCarriedOn (element_size setup) link x o.offer.token (e ∷ past) (half x (pipe_of setup payload (group_on s (e ∷ past)) s (e ∷ past)))
  carried-on after x s o f link kept None h = new-carried after x s o f h link
  carried-on after x s o f link kept (Some r) h =
      let b = b-offered setup payload e past before made owed beside (other x) s r h in
      subst (λ (p : Offered). IsCarriedOn (element_size setup) link x p.offer.token (e ∷ past) (half x (pipe_of setup payload (group_on s (e ∷ past)) s (e ∷ past)))) (some-is r o (sym (beside.kept (other x) s r h) ∙ f))
      (subst (λ g. IsCarriedOn (element_size setup) link x r.offer.token (e ∷ past) (half x (pipe_of setup payload g s (e ∷ past)))) (sym (same-group s b.0 b.1))
      (carried-step setup payload e past before made owed beside agree x s r h link (or-right _ (is_lost x link past) kept)))

  -- they go on agreeing
  pub agree-step : OwedToAgreement setup payload (e ∷ past) → Agrees setup payload (e ∷ past)
  agree-step after = record {
    feasible = λ s group of. feasible-on s group of (offered B s past) refl;
    cut_off = λ x s group of b. cut-on x s group of (offered B s past) refl b;
    carried = λ x s o f link kept. carried-on after x s o f link kept (offered (other x) s past) refl;
    strange = λ x token f link. strange-step x token (λ s. else-before (other x) s token (f s)) link;
  }

at-first : (setup : Setup) (payload : List ℕ) → Agrees setup payload []
at-first setup payload = record {
  feasible = λ s group of. tt;
  cut_off = λ x s group of b. absurd (true≢false (sym b));
  carried = λ x s o f link kept. absurd (none-is o f);
  strange = λ x token f link. record { landing = refl; completing = refl };
}

pub now-owed : (setup : Setup) (payload : List ℕ) (past : List Entry) → AllOwed setup payload past → OwedToAgreement setup payload past
now-owed setup payload [] a = a
now-owed setup payload (e ∷ past) a = a.0

-- wires and pipes agree
pub agrees : (setup : Setup) (payload : List ℕ) (past : List Entry) → IsMadeAll setup payload past → AllOwed setup payload past → Agrees setup payload past
agrees setup payload [] m a = at-first setup payload
agrees setup payload (e ∷ past) m a =
    let one = m.0 in
    let q = a.1 in
    agree-step setup payload e past one.0 one.1 (now-owed setup payload past q.1) q.0 q.1 (agrees setup payload past m.1 q.1) a.0
