-- Each part goes on being one that can be, and where the way of an end is broken, its link was cut.
use Rattle.std.proofs.Common.{Bool, List, [], ap, arith, false, if◌then◌else◌, inl, inr, length, length-append, ne_eqb, not, refl, subst, sym, true, true≢false, ℕ, ◌&&◌, ◌++◌, ◌+◌, ◌<◌, ◌||◌, ◌∙◌, ◌∷◌, ◌≡◌, ◌⊎◌}
use Rattle.pipe_model.specs.Pipe.{Lands}
use Rattle.pipe_model.specs.Parts.{actor, broken_after, is_swallowed}
use Rattle.pipe_model.specs.Calls.{Moves}
use Rattle.std.specs.Prelude.{None, Option, Some}
use Rattle.history_laws.specs.Words.{A, Aborts, Awaits, B, Call, Calls, Closes, Completes, Entry, Fate, Finishes, GroupEnd, Half, IsFeasible, Item, LinkId, Offered, Placed, Reads, Setup, Side, Terms, Up, Writes, deeds, element_size, group_on, half, head, if_own, is_broken, is_cdc, is_cut, is_due_for_move, items, offered, other, part, pipe, post_at, same_link, same_side, some_reported, terms_of, uncompleted, unlanded}
use Rattle.history_laws.specs.Items.{EachItem}
use Rattle.history_laws.proofs.Basics.{and-both, and-false, and-left, by-bool, is_no_message, link-is, none-is, or-none, or-true, same-link, some-is, some-left}
use Rattle.history_laws.proofs.Wires.{CompletesHere, Elsewhere, Goes, Is, IsNot, IsOrNot, LandsHere, Quietly, SwallowedHere, apart, first-stands, is-or-not, next-lands, not-both, own-none, own-some, uncompleted-stand, unlanded-stand}
use Rattle.history_laws.proofs.Items.{Deed, MoveDeed, NoDeed, Sends, Shape, StaysOn, below, below-messages, deed-stays, each-append, items-are, message-apart}
use Rattle.history_laws.specs.Made.{IsMade}
use Rattle.link_laws.specs.Lasting.{is_lost}
use Rattle.lending_laws.specs.Ends.{OffersGoOn}
use Rattle.wire_laws.specs.Agreement.{Agrees, IsCutOff, OwedToAgreement}
use Rattle.wire_laws.proofs.Agreement.Ends.{Mid, Now, Then, idle-any, items-by, mid-counts, mid-sends, none-sends, one-sends}
use Rattle.wire_laws.proofs.Agreement.Step.{first-is-here, landed-is-here, own}
use Rattle.wire_laws.proofs.Agreement.Way.{alive-not-lost, deed-shape, goes-on, mark, returns-own, swallowed-own}

-- items that land and complete nothing
pub feasible-more : (t : Terms) (news is : List Item) → EachItem is_no_message news → IsFeasible t is → IsFeasible t (news ++ is)
feasible-more t [] is p c = c
feasible-more t (Fate x link phase ∷ news) is p c = (tt, feasible-more t news is p.1 c)
feasible-more t (GroupEnd x ∷ news) is p c = (tt, feasible-more t news is p.1 c)
feasible-more t (Up x link ∷ news) is p c = (tt, feasible-more t news is p.1 c)
feasible-more t (Calls x call ∷ news) is p c = (tt, feasible-more t news is p.1 c)
feasible-more t (Lands x ∷ news) is p c = absurd (true≢false (sym p.0))
feasible-more t (Completes x ∷ news) is p c = absurd (true≢false (sym p.0))

-- an item that is apart from an end breaks no way of it
calls-keep : (call : Call) (x : Side) (h : Half) (b : Bool) → broken_after (Calls x call) h b ≡ true → b ≡ true
calls-keep (Writes bytes) x h b e = e
calls-keep (Reads n) x h b e = e
calls-keep Finishes x h b e = e
calls-keep Closes x h b e = e
calls-keep Aborts x h b e = e
calls-keep Awaits x h b e = e
calls-keep Moves x h b e = and-left b (not (is_due_for_move h)) e

either-keep : (c : Bool) (a b : Bool) → (a ≡ true → b ≡ true) → (if c then a else b) ≡ true → b ≡ true
either-keep true a b f e = f e
either-keep false a b f e = e

apart-keep : (x : Side) (item : Item) (h : Half) (b : Bool) → apart x item ≡ true → (if same_side x (actor item) then broken_after item h b else b) ≡ true → b ≡ true
apart-keep x (Fate y link phase) h b p e = either-keep (same_side x y) b b (λ q. q) e
apart-keep x (GroupEnd y) h b p e = either-keep (same_side x y) b b (λ q. q) e
apart-keep x (Up y link) h b p e = either-keep (same_side x y) b b (λ q. q) e
apart-keep x (Calls y call) h b p e = either-keep (same_side x y) (broken_after (Calls y call) h b) b (calls-keep call y h b) e
apart-keep x (Lands y) h b p e = either-keep (same_side x y) b b (λ q. q) e
apart-keep x (Completes y) h b p e = other-side (same_side x y) p e
  where
    other-side : (c : Bool) → not c ≡ true → (if c then (b || is_swallowed h) else b) ≡ true → b ≡ true
    other-side true q g = absurd (true≢false (sym q))
    other-side false q g = g

pub broken-more : (t : Terms) (x : Side) (news is : List Item) → EachItem is_no_message news → is_broken t x (news ++ is) ≡ true → is_broken t x is ≡ true
broken-more t x [] is p e = e
broken-more t x (item ∷ news) is p e = broken-more t x news is p.1 (apart-keep x item (half x (pipe t (news ++ is))) (is_broken t x (news ++ is)) (message-apart x item p.0) e)

both-apart : (item : Item) → apart A item ≡ true → apart B item ≡ true → is_no_message item ≡ true
both-apart (Fate x link phase) e f = refl
both-apart (GroupEnd x) e f = refl
both-apart (Up x link) e f = refl
both-apart (Calls x call) e f = refl
both-apart (Lands A) e f = absurd (true≢false (sym e))
both-apart (Lands B) e f = absurd (true≢false (sym f))
both-apart (Completes A) e f = absurd (true≢false (sym e))
both-apart (Completes B) e f = absurd (true≢false (sym f))

pub each-both : (is : List Item) → EachItem (apart A) is → EachItem (apart B) is → EachItem is_no_message is
each-both [] p q = tt
each-both (i ∷ is) p q = (both-apart i p.0 q.0, each-both is p.1 q.1)

module _ (setup : Setup) (payload : List ℕ) (e : Entry) (past : List Entry) (before : ℕ) (made : IsMade setup payload past before e) (owed : OwedToAgreement setup payload past) (beside : OffersGoOn e past) (agree : Agrees setup payload past) where
  abbrev T : Terms
  T = terms_of setup

  abbrev P : ℕ → List Item
  P s = part payload (group_on s past) s past

  abbrev I : ℕ → List Item
  I s = items payload (group_on s past) s e past

  abbrev Below : ℕ → List Item
  Below s = below (group_on s past) s e past

  abbrev Ds : ℕ → List Item
  Ds s = deeds payload s e.event e.reply past

  abbrev H : Side → ℕ → Half
  H x s = Now setup payload e past before made owed beside x s

  abbrev K : Side → ℕ → Half
  K x s = Then setup payload e past before made owed beside x s

  abbrev M : Side → ℕ → Half
  M x s = Mid setup payload e past before made owed beside x s

  -- what an entry makes of the messages of an end: nothing; one lands, on a link that was not cut; one that has landed completes; or the next is swallowed, on a link that was
  data OwnWay (x : Side) (s : ℕ) : Type 0 where
    Apart : EachItem (apart x) (Ds s) → OwnWay x s
    LandsOwn : Ds s ≡ Lands x ∷ [] → (H x s).landed < length (H x s).sent → is_cut (H x s).link past ≡ false → OwnWay x s
    CompletesOwn : Ds s ≡ Completes x ∷ [] → (H x s).completed < (H x s).landed → OwnWay x s
    SwallowsOwn : Ds s ≡ Completes x ∷ [] → (H x s).completed ≡ (H x s).landed → (H x s).landed < length (H x s).sent → is_cut (H x s).link past ≡ true → (H x s).up ≡ true → OwnWay x s

  none-of : (x : Side) (s : ℕ) → Ds s ≡ [] → OwnWay x s
  none-of x s d = Apart (subst (λ is. EachItem (apart x) is) (sym d) tt)

  module _ (x : Side) (s : ℕ) where
    abbrev L : LinkId
    L = (H x s).link

    not-offered : offered (other x) s past ≡ None → Goes payload L x e past → OwnWay x s
    not-offered f (Quietly st a) = Apart (a s)
    not-offered f (Elsewhere st l c item diff r i q d) = none-of x s (d s ∙ own-none item x s (Some c.at) past f)
    not-offered f (LandsHere l r d) = none-of x s (d s ∙ own-none (Lands x) x s (Some l.first.at) past f)
    not-offered f (CompletesHere l r d) = none-of x s (d s ∙ own-none (Completes x) x s (Some l.first.at) past f)
    not-offered f (SwallowedHere l may d) = none-of x s (d s ∙ own-none (Completes x) x s (Some l.first.at) past f)

    module _ (o : Offered) (f : offered (other x) s past ≡ Some o) where
      by-post : (c : Placed) (item : Item) (b : Bool) → post_at c.at past ≡ Some c.post → Ds s ≡ if_own item x s (Some c.at) past → is_cdc x o.offer.token c.post ≡ b → Ds s ≡ (if b then item ∷ [] else [])
      by-post c item b p d q = d ∙ (own-some item x s c.at past o c.post f p ∙ ap (λ t. if t then item ∷ [] else []) q)

      first-of : (ps : List Placed) (c : Placed) → head ps ≡ Some c → (rest : List Placed) × (ps ≡ c ∷ rest)
      first-of [] c q = absurd (none-is c q)
      first-of (p ∷ ps) c q = (ps, ap (λ r. r ∷ ps) (some-is p c q))

      idle : (H x s).up ≡ false → (H x s).sent ≡ []
      idle = idle-any T x (P s)

      nowhere-else : (l : LinkId) → same_link L l ≡ false → same_link l L ≡ true → OwnWay x s
      nowhere-else l diff same = absurd (true≢false (sym (ap (λ k. same_link L k) (link-is l L same) ∙ same-link L) ∙ diff))

      is-offered : Goes payload L x e past → OwnWay x s
      is-offered (Quietly st a) = Apart (a s)
      is-offered (Elsewhere st l c item diff r i (inl q) d) = by (is-or-not x o.offer.token c.post)
        where
          by : IsOrNot x o.offer.token c.post → OwnWay x s
          by (IsNot n m) = let w = first-of (unlanded l x past) c q in none-of x s (by-post c item false (first-stands past (unlanded l x past) c w.0 (unlanded-stand l x past) w.1) (d s) n)
          by (Is m n p) =
              let w = first-of (unlanded l x past) c q in
              let there = first-is-here (element_size setup) l x o.offer.token e past (H x s) (K x s) (mark setup payload e past before made owed beside agree x s) idle (agree.carried x s o f l (alive-not-lost setup payload e past before made owed beside agree x l r)) c w.0 w.1 m p in
              nowhere-else l diff there.0
      is-offered (Elsewhere st l c item diff r i (inr q) d) = by (is-or-not x o.offer.token c.post)
        where
          by : IsOrNot x o.offer.token c.post → OwnWay x s
          by (IsNot n m) = let w = first-of (uncompleted l x past) c q in none-of x s (by-post c item false (first-stands past (uncompleted l x past) c w.0 (uncompleted-stand l x past) w.1) (d s) n)
          by (Is m n p) =
              let w = first-of (uncompleted l x past) c q in
              let there = landed-is-here (element_size setup) l x o.offer.token e past (H x s) (K x s) (mark setup payload e past before made owed beside agree x s) idle (agree.carried x s o f l (alive-not-lost setup payload e past before made owed beside agree x l r)) c w.0 w.1 m p in
              nowhere-else l diff there.0
      is-offered (LandsHere l r d) = by (is-or-not x o.offer.token l.first.post)
        where
          by : IsOrNot x o.offer.token l.first.post → OwnWay x s
          by (IsNot n m) = none-of x s (by-post l.first (Lands x) false (first-stands past (unlanded L x past) l.first l.rest (unlanded-stand L x past) l.waiting) (d s) n)
          by (Is m n p) =
              let a = or-none (is_cut L past) (some_reported L past) r in
              let c = agree.carried x s o f L (alive-not-lost setup payload e past before made owed beside agree x L a.1) in
              let h : Half = H x s in
              let b = next-lands (element_size setup) L x o.offer.token e past h (K x s) (mark setup payload e past before made owed beside agree x s)
              (own (element_size setup) L x o.offer.token e past h (K x s) (mark setup payload e past before made owed beside agree x s) idle c (same-link L)) l.first l.rest l.waiting m p in
              LandsOwn (by-post l.first (Lands x) true (first-stands past (unlanded L x past) l.first l.rest (unlanded-stand L x past) l.waiting) (d s) n) (omega (arith, some-left h.landed h.sent b.x b.others b.is)) a.0
      is-offered (CompletesHere l r d) = by (is-or-not x o.offer.token l.first.post)
        where
          by : IsOrNot x o.offer.token l.first.post → OwnWay x s
          by (IsNot n m) = none-of x s (by-post l.first (Completes x) false (first-stands past (uncompleted L x past) l.first l.rest (uncompleted-stand L x past) l.waiting) (d s) n)
          by (Is m n p) =
              let w = returns-own setup payload e past before made owed beside agree x s o f L (alive-not-lost setup payload e past before made owed beside agree x L r) l m p in
              let v = w.1 in
              CompletesOwn (by-post l.first (Completes x) true (first-stands past (uncompleted L x past) l.first l.rest (uncompleted-stand L x past) l.waiting) (d s) n) v.1
      is-offered (SwallowedHere l may d) = by (is-or-not x o.offer.token l.first.post)
        where
          by : IsOrNot x o.offer.token l.first.post → OwnWay x s
          by (IsNot n m) = none-of x s (by-post l.first (Completes x) false (first-stands past (unlanded L x past) l.first l.rest (unlanded-stand L x past) l.waiting) (d s) n)
          by (Is m n p) =
              let both = and-both (is_cut L past && not (some_reported L past)) _ may in
              let a = not-both (is_cut L past) (some_reported L past) both.0 in
              let kept : is_lost x L past ≡ false = alive-not-lost setup payload e past before made owed beside agree x L a.1 in
              let c = agree.carried x s o f L kept in
              let h : Half = H x s in
              let w = swallowed-own setup payload e past before made owed beside agree x s o f L kept l may m p in
              let v = w.1 in
              let there = first-is-here (element_size setup) L x o.offer.token e past h (K x s) (mark setup payload e past before made owed beside agree x s) idle c l.first l.rest l.waiting m p in
              let b = next-lands (element_size setup) L x o.offer.token e past h (K x s) (mark setup payload e past before made owed beside agree x s)
              (own (element_size setup) L x o.offer.token e past h (K x s) (mark setup payload e past before made owed beside agree x s) idle c there.0) l.first l.rest l.waiting m p in
              SwallowsOwn (by-post l.first (Completes x) true (first-stands past (unlanded L x past) l.first l.rest (unlanded-stand L x past) l.waiting) (d s) n) v.1 (omega (arith, some-left h.landed h.sent b.x b.others b.is)) a.0 there.1

    own-way : OwnWay x s
    own-way = by (offered (other x) s past) refl
      where
        by : (q : Option Offered) → offered (other x) s past ≡ q → OwnWay x s
        by None f = not-offered f (goes-on setup payload e past before made owed beside agree L x)
        by (Some o) f = is-offered o f (goes-on setup payload e past before made owed beside agree L x)

    -- what an end has to land it still has, below its deeds
    mid-length : length (M x s).sent ≡ length (H x s).sent + length (let p = mid-sends setup payload e past before made owed beside x s in p.more)
    mid-length = let p = mid-sends setup payload e past before made owed beside x s in ap (λ ms. length ms) p.sent_is ∙ length-append (H x s).sent p.more

    mid-feasible : IsFeasible T (Below s ++ P s)
    mid-feasible = feasible-more T (Below s) (P s) (below-messages (group_on s past) s e past) (agree.feasible s (group_on s past) (inr refl))

    unbroken : is_cut L past ≡ false → is_broken T x (Below s ++ P s) ≡ false
    unbroken q = by-bool _ (is_broken T x (Below s ++ P s)) (λ b. let c = agree.cut_off x s (group_on s past) (inr refl) (broken-more T x (Below s) (P s) (below-messages (group_on s past) s e past) b) in absurd (true≢false (sym c.cut ∙ q))) (λ b. b)

    -- the part can be, where the entry moves a message of this end
    moved-feasible : OwnWay x s → (EachItem (apart x) (Ds s)) ⊎ IsFeasible T (I s ++ P s)
    moved-feasible (Apart a) = inl a
    moved-feasible (LandsOwn d less q) =
        let c = mid-counts setup payload e past before made owed beside x s in
        inr (subst (λ is. IsFeasible T (is ++ P s)) (sym (items-by setup payload e past before made owed beside s (Lands x ∷ []) d)) ((omega (arith, less, c.0, mid-length), unbroken q), mid-feasible))
    moved-feasible (CompletesOwn d less) =
        let c = mid-counts setup payload e past before made owed beside x s in
        let k = mark setup payload e past before made owed beside agree x s in
        inr (subst (λ is. IsFeasible T (is ++ P s)) (sym (items-by setup payload e past before made owed beside s (Completes x ∷ []) d)) (omega (arith, less, k.landed_sent, c.1, mid-length), mid-feasible))
    moved-feasible (SwallowsOwn d same less q u) =
        let c = mid-counts setup payload e past before made owed beside x s in
        inr (subst (λ is. IsFeasible T (is ++ P s)) (sym (items-by setup payload e past before made owed beside s (Completes x ∷ []) d)) (omega (arith, less, same, c.1, mid-length), mid-feasible))

    -- a way that is broken is that of a link which was cut
    cut-sent : Sends (H x s) (K x s) → is_cut L past ≡ true → (H x s).up ≡ true → IsCutOff (K x s) (e ∷ past)
    cut-sent p c u = record { cut = or-true _ (is_cut (K x s).link past) (ap (λ l. is_cut l past) (p.same u) ∙ c); up = p.up u }

    was-broken : Sends (H x s) (K x s) → is_broken T x (Below s ++ P s) ≡ true → IsCutOff (K x s) (e ∷ past)
    was-broken p b = let c = agree.cut_off x s (group_on s past) (inr refl) (broken-more T x (Below s) (P s) (below-messages (group_on s past) s e past) b) in cut-sent p c.cut c.up

    broken-by : (ds : List Item) → Ds s ≡ ds → is_broken T x (I s ++ P s) ≡ true → is_broken T x ((ds ++ Below s) ++ P s) ≡ true
    broken-by ds d b = subst (λ is. is_broken T x (is ++ P s) ≡ true) (items-by setup payload e past before made owed beside s ds d) b

    one-broken : (item : Item) → Ds s ≡ item ∷ [] → apart x item ≡ true → StaysOn x item (M x s) → is_broken T x (I s ++ P s) ≡ true → IsCutOff (K x s) (e ∷ past)
    one-broken item d a o b = was-broken (one-sends setup payload e past before made owed beside x s item d o) (apart-keep x item (M x s) (is_broken T x (Below s ++ P s)) a (broken-by (item ∷ []) d b))

    apart-of : (item : Item) → Ds s ≡ item ∷ [] → EachItem (apart x) (Ds s) → apart x item ≡ true
    apart-of item d a = let q = subst (λ is. EachItem (apart x) is) d a in q.0

    shaped : EachItem (apart x) (Ds s) → Shape s e past (Ds s) → is_broken T x (I s ++ P s) ≡ true → IsCutOff (K x s) (e ∷ past)
    shaped a (NoDeed d) b = was-broken (none-sends setup payload e past before made owed beside x s d) (broken-by [] d b)
    shaped a (Deed item d is) b = one-broken item d (apart-of item d a) (deed-stays x item (M x s) is) b
    shaped a (MoveDeed y d none) b = by-bool _ (same_side x y)
        (λ c. by-bool _ (is_due_for_move (M x s)) (λ due. absurd (true≢false (sym (broken-by (Calls y Moves ∷ []) d b) ∙ mended c due))) (λ due. one-broken (Calls y Moves) d refl (λ q. due) b))
        (λ c. one-broken (Calls y Moves) d refl (λ q. absurd (true≢false (sym q ∙ c))) b)
      where
        mended : same_side x y ≡ true → is_due_for_move (M x s) ≡ true → is_broken T x (Calls y Moves ∷ (Below s ++ P s)) ≡ false
        mended c due =
            ap (λ t. if t then (is_broken T x (Below s ++ P s) && not (is_due_for_move (M x s))) else is_broken T x (Below s ++ P s)) c ∙
            (ap (λ t. is_broken T x (Below s ++ P s) && not t) due ∙ and-false (is_broken T x (Below s ++ P s)))

    cut-by : OwnWay x s → is_broken T x (I s ++ P s) ≡ true → IsCutOff (K x s) (e ∷ past)
    cut-by (Apart a) b = shaped a (deed-shape setup payload e past before made owed beside agree s) b
    cut-by (LandsOwn d less q) b =
        was-broken (one-sends setup payload e past before made owed beside x s (Lands x) d tt) (either-keep (same_side x x) _ _ (λ r. r) (broken-by (Lands x ∷ []) d b))
    cut-by (CompletesOwn d less) b =
        let c = mid-counts setup payload e past before made owed beside x s in
        let still : is_swallowed (M x s) ≡ false = ne_eqb (M x s).completed (M x s).landed (λ q. omega (arith, less, c.0, c.1, q)) in
        was-broken (one-sends setup payload e past before made owed beside x s (Completes x) d tt)
        (either-keep (same_side x x) (is_broken T x (Below s ++ P s) || is_swallowed (M x s)) (is_broken T x (Below s ++ P s)) (λ r. or-none (is_broken T x (Below s ++ P s)) (is_swallowed (M x s)) still r) (broken-by (Completes x ∷ []) d b))
      where
        or-none : (a c : Bool) → c ≡ false → (a || c) ≡ true → a ≡ true
        or-none true c q r = refl
        or-none false c q r = absurd (true≢false (sym r ∙ q))
    cut-by (SwallowsOwn d same less q u) b = cut-sent (one-sends setup payload e past before made owed beside x s (Completes x) d tt) q u

    pub cut-step : is_broken T x (I s ++ P s) ≡ true → IsCutOff (K x s) (e ∷ past)
    cut-step = cut-by own-way

  pub feasible-step : (s : ℕ) → IsFeasible T (I s ++ P s)
  feasible-step s = by (moved-feasible A s (own-way A s)) (moved-feasible B s (own-way B s))
    where
      by : (EachItem (apart A) (Ds s)) ⊎ IsFeasible T (I s ++ P s) → (EachItem (apart B) (Ds s)) ⊎ IsFeasible T (I s ++ P s) → IsFeasible T (I s ++ P s)
      by (inr c) q = c
      by (inl a) (inr c) = c
      by (inl a) (inl b) = subst (λ is. IsFeasible T (is ++ P s)) (sym (items-are payload (group_on s past) s e past))
          (feasible-more T (Ds s ++ Below s) (P s) (each-append is_no_message (Ds s) (Below s) (each-both (Ds s) a b) (below-messages (group_on s past) s e past)) (agree.feasible s (group_on s past) (inr refl)))
