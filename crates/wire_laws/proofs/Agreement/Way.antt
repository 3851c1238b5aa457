-- With each entry, every link that a side has not lost goes on carrying of each of its ends just what the end has under way there.
use Rattle.pipe_model.specs.declared.sent.Sent.{Sent}
use Rattle.std.proofs.Common.{Bool, List, [], ap, arith, drop, false, if◌then◌else◌, inl, inr, length, map, not, refl, subst, suc, sym, true, true≢false, ℕ, ◌&&◌, ◌++◌, ◌-◌, ◌<◌, ◌||◌, ◌∙◌, ◌∷◌, ◌≡◌, ◌⊎◌}
use Rattle.pipe_model.specs.Pipe.{Lands}
use Rattle.pipe_model.proofs.Pipes.{is-marked}
use Rattle.std.specs.Prelude.{Some}
use Rattle.pipe_model.specs.Calls.{Moves}
use Rattle.pipe_model.specs.Wires.{may_swallow}
use Rattle.history_laws.specs.Words.{A, B, Calls, CdcMessage, Completes, Entry, Half, IsMarked, Item, LinkId, Offered, Placed, Setup, Side, Terms, deeds, element_size, group_on, half, head, if_own, is_cdc, is_cut, is_due_for_move, is_nil, offered, other, part, pipe, same_link, same_side, some_reported, stands, step, table_of, terms_of, to_complete, uncompleted, unlanded}
use Rattle.history_laws.proofs.Wires.{CompletesHere, Elsewhere, Goes, Is, IsMessage, IsNot, IsOrNot, LandsHere, Quietly, SwallowedHere, SwallowedNow, apart, first-stands, goes, is-or-not, next-completes, next-lands, nil-is, own-some, returning-long, uncompleted-stand, unlanded-stand}
use Rattle.history_laws.proofs.Items.{Counts, Deed, MoveDeed, MovesOff, NoDeed, Sends, Shape, StaysOn, below, deed-stays, moves-step, shape}
use Rattle.history_laws.specs.Made.{IsMade}
use Rattle.history_laws.proofs.Basics.{and-both, and-left, by-bool, has-returning, link-is, none-is, returning-head, same-is, some-is}
use Rattle.history_laws.specs.Wires.{CompletesNow, LandsNow, Stays, cdc_under, cdcs, message, returning}
use Rattle.history_laws.specs.Items.{EachItem}
use Rattle.link_laws.specs.Lasting.{is_lost}
use Rattle.lending_laws.specs.Ends.{OffersGoOn}
use Rattle.wire_laws.specs.Agreement.{Agrees, IsCarriedOn, OwedToAgreement}
use Rattle.wire_laws.proofs.Agreement.Ends.{Mid, Now, Then, completes-counts, idle-any, lands-counts, news-own, none-counts, none-sends, one-counts, one-sends, swallowed-counts, then-one}
use Rattle.wire_laws.proofs.Agreement.Step.{first-is-here, landed-is-here, own, step-completes, step-elsewhere, step-lands, step-leaves, step-moves, step-passes, step-stays, step-swallowed, step-swallows-other}

long-map : (g : Sent → CdcMessage) (ms : List Sent) → length (map g ms) ≡ length ms
long-map g [] = refl
long-map g (m ∷ ms) = ap (λ n. suc n) (long-map g ms)

stood : (a b : Bool) → (not a || not b) ≡ false → (a ≡ true) × (b ≡ true)
stood true true e = (refl, refl)
stood true false e = absurd (true≢false e)
stood false b e = absurd (true≢false e)

message-stays : (x : Side) (item : Item) (h : Half) → IsMessage x item → StaysOn x item h
message-stays x (Lands y) h i = tt
message-stays x (Completes y) h i = tt
message-stays x _ h i = absurd i

module _ (setup : Setup) (payload : List ℕ) (e : Entry) (past : List Entry) (before : ℕ) (made : IsMade setup payload past before e) (owed : OwedToAgreement setup payload past) (beside : OffersGoOn e past) (agree : Agrees setup payload past) where
  abbrev T : Terms
  T = terms_of setup

  abbrev P : ℕ → List Item
  P s = part payload (group_on s past) s past

  abbrev Ds : ℕ → List Item
  Ds s = deeds payload s e.event e.reply past

  abbrev H : Side → ℕ → Half
  H x s = Now setup payload e past before made owed beside x s

  abbrev K : Side → ℕ → Half
  K x s = Then setup payload e past before made owed beside x s

  abbrev M : Side → ℕ → Half
  M x s = Mid setup payload e past before made owed beside x s

  -- a link that no side has reported was not lost
  pub alive-not-lost : (x : Side) (link : LinkId) → some_reported link past ≡ false → is_lost x link past ≡ false
  alive-not-lost A link r = owed.again A link (let q = stood (stands link (table_of A past)) (stands link (table_of B past)) r in q.0)
  alive-not-lost B link r = owed.again B link (let q = stood (stands link (table_of A past)) (stands link (table_of B past)) r in q.1)

  pub goes-on : (link : LinkId) (x : Side) → Goes payload link x e past
  goes-on link x = goes payload link past setup before e.actor e.posts x e.event e.reply made.reply

  pub deed-shape : (s : ℕ) → Shape s e past (Ds s)
  deed-shape s = shape payload s e.actor e.posts e.reply past e.event

  pub mark : (x : Side) (s : ℕ) → IsMarked (H x s)
  mark x s = is-marked T x (P s) (agree.feasible s (group_on s past) (inr refl))

  module _ (x : Side) (s : ℕ) (o : Offered) (f : offered (other x) s past ≡ Some o) where
    abbrev Size : ℕ
    Size = element_size setup

    abbrev Goal : LinkId → Type 0
    Goal link = IsCarriedOn Size link x o.offer.token (e ∷ past) (K x s)

    abbrev Idle : Type 0
    Idle = (H x s).up ≡ false → (H x s).sent ≡ []

    idle : Idle
    idle = idle-any T x (P s)

    -- the deeds, by the post that moves
    own-unlanded : (link : LinkId) (c : Placed) (rest : List Placed) (item : Item) → unlanded link x past ≡ c ∷ rest → Ds s ≡ if_own item x s (Some c.at) past → Ds s ≡ (if is_cdc x o.offer.token c.post then item ∷ [] else [])
    own-unlanded link c rest item w d = d ∙ own-some item x s c.at past o c.post f (first-stands past (unlanded link x past) c rest (unlanded-stand link x past) w)

    own-uncompleted : (link : LinkId) (c : Placed) (rest : List Placed) (item : Item) → uncompleted link x past ≡ c ∷ rest → Ds s ≡ if_own item x s (Some c.at) past → Ds s ≡ (if is_cdc x o.offer.token c.post then item ∷ [] else [])
    own-uncompleted link c rest item w d = d ∙ own-some item x s c.at past o c.post f (first-stands past (uncompleted link x past) c rest (uncompleted-stand link x past) w)

    pick : (item : Item) (b c : Bool) → b ≡ c → Ds s ≡ (if b then item ∷ [] else []) → Ds s ≡ (if c then item ∷ [] else [])
    pick item b c q d = d ∙ ap (λ t. if t then item ∷ [] else []) q

    first-of : (ps : List Placed) (c : Placed) → head ps ≡ Some c → (rest : List Placed) × (ps ≡ c ∷ rest)
    first-of [] c q = absurd (none-is c q)
    first-of (p ∷ ps) c q = (ps, ap (λ r. r ∷ ps) (some-is p c q))

    module _ (link : LinkId) (kept : is_lost x link past ≡ false) where
      car : IsCarriedOn Size link x o.offer.token past (H x s)
      car = agree.carried x s o f link kept

      -- an end that stays, of which nothing moves on this link
      calm : (p : Sends (H x s) (K x s)) → Counts (H x s) (K x s) → Stays link x e past → Goal link
      calm p n st = step-stays Size link x o.offer.token e past (H x s) (K x s) (mark x s) idle car p (news-own setup payload e past before made owed beside x s o f p.more p.sent_is link) n st

      calm-none : Ds s ≡ [] → Stays link x e past → Goal link
      calm-none d st = calm (none-sends setup payload e past before made owed beside x s d) (none-counts setup payload e past before made owed beside x s d) st

      calm-one : (item : Item) → Ds s ≡ item ∷ [] → EachItem (apart x) (Ds s) → StaysOn x item (M x s) → Stays link x e past → Goal link
      calm-one item d a o2 st =
          let q = subst (λ is. EachItem (apart x) is) d a in
          calm (one-sends setup payload e past before made owed beside x s item d o2) (one-counts setup payload e past before made owed beside x s item d q.0 o2) st

      -- the end moves off
      moved : Ds s ≡ Calls x Moves ∷ [] → ((group : ℕ) → below group s e past ≡ []) → is_due_for_move (M x s) ≡ true → Stays link x e past → Goal link
      moved d none due st =
          let none-below : M x s ≡ H x s = ap (λ is. half x (pipe T (is ++ P s))) (none (group_on s past)) in
          let due-now : is_due_for_move (H x s) ≡ true = ap (λ h. is_due_for_move h) (sym none-below) ∙ due in
          let q = moves-step T x (pipe T (below (group_on s past) s e past ++ P s)) due in
          let p : MovesOff (H x s) (K x s) = subst (λ k. MovesOff (H x s) k) (sym (then-one setup payload e past before made owed beside x s (Calls x Moves) d))
          (subst (λ h. MovesOff h (half x (step T (Calls x Moves) (pipe T (below (group_on s past) s e past ++ P s))))) none-below q) in
          step-moves Size link x o.offer.token e past (H x s) (K x s) (mark x s) idle car p (news-own setup payload e past before made owed beside x s o f p.more p.sent_is link)
          (by-bool _ (same_link link (H x s).link) (λ c. absurd (true≢false (sym (owed.left x s due-now) ∙ (ap (λ l. is_lost x l past) (sym (link-is link (H x s).link c)) ∙ kept)))) (λ c. c)) st

      quiet : EachItem (apart x) (Ds s) → Stays link x e past → Shape s e past (Ds s) → Goal link
      quiet a st (NoDeed d) = calm-none d st
      quiet a st (Deed item d is) = calm-one item d a (deed-stays x item (M x s) is) st
      quiet a st (MoveDeed y d none) = by-bool _ (same_side x y)
          (λ c. by-bool _ (is_due_for_move (M x s))
          (λ due. moved (d ∙ ap (λ z. Calls z Moves ∷ []) (sym (same-is x y c))) none due st)
          (λ due. calm-one (Calls y Moves) d a (λ q. due) st))
          (λ c. calm-one (Calls y Moves) d a (λ q. absurd (true≢false (sym q ∙ c))) st)

      -- something of the side moves on another link, which is alive
      elsewhere : Stays link x e past → (l : LinkId) (c : Placed) (item : Item) → same_link link l ≡ false → some_reported l past ≡ false → IsMessage x item → Ds s ≡ if_own item x s (Some c.at) past → head (unlanded l x past) ≡ Some c ⊎ head (uncompleted l x past) ≡ Some c → Goal link
      elsewhere st l c item diff r i d (inl q) = by (is-or-not x o.offer.token c.post)
        where
          by : IsOrNot x o.offer.token c.post → Goal link
          by (IsNot n m) = let w = first-of (unlanded l x past) c q in calm-none (pick item _ false n (own-unlanded l c w.0 item w.1 d)) st
          by (Is m n p) =
              let w = first-of (unlanded l x past) c q in
              let ds = pick item _ true n (own-unlanded l c w.0 item w.1 d) in
              let there = first-is-here Size l x o.offer.token e past (H x s) (K x s) (mark x s) idle (agree.carried x s o f l (alive-not-lost x l r)) c w.0 w.1 m p in
              let t = one-sends setup payload e past before made owed beside x s item ds (message-stays x item (M x s) i) in
              step-elsewhere Size link x o.offer.token e past (H x s) (K x s) (mark x s) idle car t (news-own setup payload e past before made owed beside x s o f t.more t.sent_is link)
              (ap (λ j. same_link link j) (sym (link-is l (H x s).link there.0)) ∙ diff) there.1 st
      elsewhere st l c item diff r i d (inr q) = by (is-or-not x o.offer.token c.post)
        where
          by : IsOrNot x o.offer.token c.post → Goal link
          by (IsNot n m) = let w = first-of (uncompleted l x past) c q in calm-none (pick item _ false n (own-uncompleted l c w.0 item w.1 d)) st
          by (Is m n p) =
              let w = first-of (uncompleted l x past) c q in
              let ds = pick item _ true n (own-uncompleted l c w.0 item w.1 d) in
              let there = landed-is-here Size l x o.offer.token e past (H x s) (K x s) (mark x s) idle (agree.carried x s o f l (alive-not-lost x l r)) c w.0 w.1 m p in
              let t = one-sends setup payload e past before made owed beside x s item ds (message-stays x item (M x s) i) in
              step-elsewhere Size link x o.offer.token e past (H x s) (K x s) (mark x s) idle car t (news-own setup payload e past before made owed beside x s o f t.more t.sent_is link)
              (ap (λ j. same_link link j) (sym (link-is l (H x s).link there.0)) ∙ diff) there.1 st

      -- the next post lands
      landing : (l : LandsNow link x e past) → Ds s ≡ if_own (Lands x) x s (Some l.first.at) past → IsOrNot x o.offer.token l.first.post → Goal link
      landing l d (Is m n p) =
          let ds = pick (Lands x) _ true n (own-unlanded link l.first l.rest (Lands x) l.waiting d) in
          let t = one-sends setup payload e past before made owed beside x s (Lands x) ds tt in
          let c = lands-counts setup payload e past before made owed beside x s ds in
          step-lands Size link x o.offer.token e past (H x s) (K x s) (mark x s) idle car t (news-own setup payload e past before made owed beside x s o f t.more t.sent_is link) l m p c.0 c.1
      landing l d (IsNot n m) =
          let ds = pick (Lands x) _ false n (own-unlanded link l.first l.rest (Lands x) l.waiting d) in
          let t = none-sends setup payload e past before made owed beside x s ds in
          step-passes Size link x o.offer.token e past (H x s) (K x s) (mark x s) idle car t (news-own setup payload e past before made owed beside x s o f t.more t.sent_is link) (none-counts setup payload e past before made owed beside x s ds) l m

      -- the oldest landed one completes
      pub returns-own : (l : CompletesNow link x e past) (m : CdcMessage) → cdc_under x o.offer.token l.first.post ≡ Some m → (q : Sent) × ((head (to_complete (H x s)) ≡ Some q) × ((H x s).completed < (H x s).landed))
      returns-own l m p =
          let there = landed-is-here Size link x o.offer.token e past (H x s) (K x s) (mark x s) idle car l.first l.rest l.waiting m p in
          let c = own Size link x o.offer.token e past (H x s) (K x s) (mark x s) idle car there.0 in
          let b = next-completes Size link x o.offer.token e past (H x s) (K x s) (mark x s) c l m p in
          (b.x, (returning-head ((H x s).landed - (H x s).completed) (to_complete (H x s)) b.others b.x b.is, has-returning (H x s) b.x b.others b.is))

      completing : (l : CompletesNow link x e past) → Ds s ≡ if_own (Completes x) x s (Some l.first.at) past → IsOrNot x o.offer.token l.first.post → Goal link
      completing l d (Is m n p) =
          let ds = pick (Completes x) _ true n (own-uncompleted link l.first l.rest (Completes x) l.waiting d) in
          let t = one-sends setup payload e past before made owed beside x s (Completes x) ds tt in
          let r = returns-own l m p in
          let v = r.1 in
          let c = completes-counts setup payload e past before made owed beside x s ds r.0 v.0 v.1 in
          step-completes Size link x o.offer.token e past (H x s) (K x s) (mark x s) idle car t (news-own setup payload e past before made owed beside x s o f t.more t.sent_is link) l m p c.0 c.1
      completing l d (IsNot n m) =
          let ds = pick (Completes x) _ false n (own-uncompleted link l.first l.rest (Completes x) l.waiting d) in
          let t = none-sends setup payload e past before made owed beside x s ds in
          step-leaves Size link x o.offer.token e past (H x s) (K x s) (mark x s) idle car t (news-own setup payload e past before made owed beside x s o f t.more t.sent_is link) (none-counts setup payload e past before made owed beside x s ds) l m

      -- the next is swallowed
      pub swallowed-own : (l : SwallowedNow link x e past) → may_swallow link x past ≡ true → (m : CdcMessage) → cdc_under x o.offer.token l.first.post ≡ Some m → (q : Sent) × ((head (to_complete (H x s)) ≡ Some q) × ((H x s).completed ≡ (H x s).landed))
      swallowed-own l may m p =
          let there = first-is-here Size link x o.offer.token e past (H x s) (K x s) (mark x s) idle car l.first l.rest l.waiting m p in
          let c = own Size link x o.offer.token e past (H x s) (K x s) (mark x s) idle car there.0 in
          let b = next-lands Size link x o.offer.token e past (H x s) (K x s) (mark x s) c l.first l.rest l.waiting m p in
          let both = and-both (is_cut link past && not (some_reported link past)) _ may in
          let empty : uncompleted link x past ≡ [] = nil-is (uncompleted link x past) (and-left (is_nil (uncompleted link x past)) _ both.1) in
          let none : [] ≡ map (message Size o.offer.token) (returning (H x s)) = sym (ap (λ ps. cdcs x o.offer.token ps) empty) ∙ c.completing in
          let n : length (returning (H x s)) ≡ 0 = sym (long-map (message Size o.offer.token) (returning (H x s))) ∙ ap (λ ms. length ms) (sym none) in
          let k = mark x s in
          let same : (H x s).completed ≡ (H x s).landed = omega (arith, n, returning-long (H x s) k, k.completed_landed) in
          (b.x, (ap (λ i. head (drop i (H x s).sent)) same ∙ ap (λ ms. head ms) b.is, same))

      swallowing : (l : SwallowedNow link x e past) → may_swallow link x past ≡ true → Ds s ≡ if_own (Completes x) x s (Some l.first.at) past → IsOrNot x o.offer.token l.first.post → Goal link
      swallowing l may d (Is m n p) =
          let ds = pick (Completes x) _ true n (own-unlanded link l.first l.rest (Completes x) l.waiting d) in
          let t = one-sends setup payload e past before made owed beside x s (Completes x) ds tt in
          let r = swallowed-own l may m p in
          let v = r.1 in
          let c = swallowed-counts setup payload e past before made owed beside x s ds r.0 v.0 v.1 in
          step-swallowed Size link x o.offer.token e past (H x s) (K x s) (mark x s) idle car t (news-own setup payload e past before made owed beside x s o f t.more t.sent_is link) l m p v.1 c.0 c.1
      swallowing l may d (IsNot n m) =
          let ds = pick (Completes x) _ false n (own-unlanded link l.first l.rest (Completes x) l.waiting d) in
          let t = none-sends setup payload e past before made owed beside x s ds in
          step-swallows-other Size link x o.offer.token e past (H x s) (K x s) (mark x s) idle car t (news-own setup payload e past before made owed beside x s o f t.more t.sent_is link) (none-counts setup payload e past before made owed beside x s ds) l m

      by-way : Goes payload link x e past → Goal link
      by-way (Quietly st a) = quiet (a s) st (deed-shape s)
      by-way (Elsewhere st l c item diff r i q d) = elsewhere st l c item diff r i (d s) q
      by-way (LandsHere l r d) = landing l (d s) (is-or-not x o.offer.token l.first.post)
      by-way (CompletesHere l r d) = completing l (d s) (is-or-not x o.offer.token l.first.post)
      by-way (SwallowedHere l may d) = swallowing l may (d s) (is-or-not x o.offer.token l.first.post)

      pub carried-step : Goal link
      carried-step = by-way (goes-on link x)
