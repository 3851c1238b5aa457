-- With each entry the bytes that stand in an element which is lent go on standing until they are read, and those that land stand.
use Rattle.std.proofs.Common.{Bool, List, [], ap, append_assoc, arith, drop, drop-drop, eq-eqb, eqb-true, false, filter_map, flat_map, if◌then◌else◌, inl, inr, length, length-append, length-drop, map, not, refl, subst, suc, sym, true, true≢false, zero, ℕ, ◌&&◌, ◌++◌, ◌+◌, ◌-◌, ◌<◌, ◌==◌, ◌||◌, ◌∙◌, ◌∷◌, ◌≡◌, ◌≤◌, ◌⊎◌}
use Rattle.std.specs.Prelude.{None, Option, Some, is_some, slice_index_or}
use Rattle.std.specs.List.{cons_option, range_with_len}
use Rattle.std.proofs.lemmas.Bool.{cases_lt}
use Rattle.std.proofs.lemmas.List.{drop-append-le, get_or_append_left}
use Rattle.std.proofs.lemmas.Nat.{mod_below, pow_pos}
use Rattle.smc_num.specs.Places.{address_of, places_in}
use Rattle.pipe_model.specs.Connections.{comes_up}
use Rattle.pipe_model.specs.Calls.{Moves}
use Rattle.pipe_model.specs.Parts.{CarriesFew, covered, covered_after}
use Rattle.pipe_model.specs.Pipe.{Lands}
use Rattle.pipe_model.specs.declared.post.Post.TheVariants.{Write}
use Rattle.pipe_model.specs.declared.sent.Sent.{Sent}
use Rattle.pipe_model.proofs.Pipes.{carries-few, is-marked}
use Rattle.history_laws.specs.Items.{EachItem}
use Rattle.history_laws.specs.Lists.{IsAmong}
use Rattle.history_laws.specs.Made.{IsMade, IsMadeAll}
use Rattle.history_laws.specs.Wires.{LandsNow, cdc_under, cdcs, leaving, message}
use Rattle.history_laws.specs.Words.{Calls, CdcMessage, Completes, EachOf, Entry, Half, IsFeasible, IsMarked, Item, Lending, LinkId, Offered, Place, Placed, PostRef, Setup, Side, Terms, deeds, element_size, elements_of, group_on, half, head, if_own, is_cut, is_dead, is_up, items, lends, lends_by, lent, offered, offered_place, other, part, pipe_of, rmbs_of, same_link, same_place, some_reported, terms_of, to_complete, to_land, uncompleted, unlanded, draft, passes, is_own, up_to}
use Rattle.history_laws.proofs.Basics.{and-both, by-bool, cdcs-append, drop-none, link-is, none-is, or-none, or-right, same-link, same-self, some-is}
use Rattle.history_laws.proofs.Items.{Deed, MoveDeed, MovesOff, NoDeed, Sends, Shape, below, below-messages, items-are, pipe-is-up}
use Rattle.history_laws.proofs.Offers.{all-offers, states}
use Rattle.history_laws.proofs.Posts.{given}
use Rattle.history_laws.proofs.Wires.{CompletesHere, Elsewhere, Goes, Is, IsNot, IsOrNot, LandsHere, Quietly, SwallowedHere, apart, first-stands, goes, is-or-not, own-some, uncompleted-stand, unlanded-stand}
use Rattle.history_laws.specs.Offers.{Begins, BeginsNone, BeginsOne}
use Rattle.link_laws.specs.Awaited.{AreOnKnown}
use Rattle.link_laws.specs.Lasting.{NoneAgain, is_lost}
use Rattle.link_laws.proofs.Joined.{flows-of}
use Rattle.link_laws.proofs.Lasting.{none-again}
use Rattle.lending_laws.specs.Ends.{AllPlain, OffersGoOn}
use Rattle.lending_laws.specs.Lendings.{AreApart, Changes, HasElements}
use Rattle.lending_laws.proofs.Lendings.{changes, in-new, not-offered}
use Rattle.wire_laws.specs.Agreement.{Agrees, OwedToAgreement}
use Rattle.wire_laws.specs.Memory.{byte_after, byte_in}
use Rattle.pipe_model.specs.Ends.{fresh}
use Rattle.wire_laws.proofs.Agreement.{Holds, alive-not-lost, Mid, Now, Then, deed-shape, feasible-step, first-is-here, idle-any, landed-is-here, mid-counts, mid-sends, now-owed, up-offered}
use Rattle.wire_laws.proofs.Whole.{lendings-hold}
use Rattle.wire_laws.proofs.Writes.{Aims, IsAimed, IsNews, News, aim-stays-at, alive-stands, all-aimed, behind-at, each-behind, each-split, holds-of, lending-begun, long-map, news-of, plain-of, then-is, turns}
use Rattle.wire_laws.proofs.Memory.Brought.{its-lent, kept-else, kept-own, own-byte}
use Rattle.wire_laws.proofs.Memory.Covered.{covered-below, covered-item, covered-more, covered-none, covered-within, told-within}
use Rattle.wire_laws.proofs.Memory.Ends.{IsGrown, IsOnward, Onward, grown-all, is-onward, onward-each, onward-tail}
use Rattle.wire_laws.proofs.Memory.Landings.{BytesAfter, IsNoWrite, Unwritten, Written, bytes-of}
use Rattle.wire_laws.proofs.Memory.NewBytes.{Waits, new-waits}

abbrev pub StandsAt : Setup → List ℕ → Side → Offered → List Entry → List ℕ → ℕ → Type 0
StandsAt setup payload y o past out n = byte_in setup payload y (offered_place o.offer).rmb (address_of (element_size setup) (offered_place o.offer) n) past ≡ slice_index_or out n 0

-- what stands of an end's bytes in the element of its peer: those that have landed without a hole and are not read; and of those that are
-- under way on a link that is neither lost nor cut, each that no write waits for
pub record AreStanding (setup : Setup) (payload : List ℕ) (x : Side) (s : ℕ) (o : Offered) (past : List Entry) (h k : Half) (reach : ℕ) : Type 0 where
  pub landed : (n : ℕ) → k.rd ≤ n → n < reach → StandsAt setup payload (other x) o past h.out n
  pub coming : (earlier : List Sent) (m : Sent) (later : List Sent) → h.sent ≡ earlier ++ m ∷ later → h.landed ≤ length earlier → is_lost x h.link past ≡ false → is_cut h.link past ≡ false → (n : ℕ) → m.from ≤ n → n < m.snapshot.told → k.rd ≤ n
      → Waits setup payload x h.link past s o n (unlanded h.link x past) ⊎ StandsAt setup payload (other x) o past h.out n

abbrev pub StandingIn : Setup → List ℕ → Side → ℕ → Offered → ℕ → List Entry → Type 0
StandingIn setup payload x s o group past = AreStanding setup payload x s o past (half x (pipe_of setup payload group s past)) (half (other x) (pipe_of setup payload group s past)) (covered (terms_of setup) x (part payload group s past))

-- lists
in-append : {X : Type 0} (a : X) (xs ys : List X) → IsAmong a (xs ++ ys) → IsAmong a xs ⊎ IsAmong a ys
in-append a [] ys i = inr i
in-append a (x ∷ xs) ys (inl e) = inl (inl e)
in-append a (x ∷ xs) ys (inr i) = elim (in-append a xs ys i) [ inl j ↦ inl (inr j) | inr j ↦ inr j ]

low-range : (rmb from n : ℕ) (p : Place) → IsAmong p (map (λ i. let place : Place = record { rmb = rmb; index = i } in place) (range_with_len from n)) → from ≤ p.index
low-range rmb from zero p i = absurd i
low-range rmb from (suc n) p (inl e) = omega (arith, ap (λ (q : Place). q.index) e)
low-range rmb from (suc n) p (inr i) = omega (arith, low-range rmb (from + 1) n p i)

low-places : (elements : ℕ) (rs : List ℕ) (p : Place) → IsAmong p (flat_map (places_in elements) rs) → 1 ≤ p.index
low-places elements [] p i = absurd i
low-places elements (r ∷ rs) p i = elim (in-append p (places_in elements r) (flat_map (places_in elements) rs) i) [ inl j ↦ low-range r 1 elements p j | inr j ↦ low-places elements rs p j ]

nothing-there : (m : Sent) (ms : List Sent) → [] ≡ m ∷ ms → ⊥
nothing-there m ms e = true≢false (sym (ap (λ ns. is_some (head ns)) e))

split-drop : (n : ℕ) (ms : List Sent) (m : Sent) (rest : List Sent) → drop n ms ≡ m ∷ rest → (earlier : List Sent) × ((ms ≡ earlier ++ m ∷ rest) × (n ≡ length earlier))
split-drop zero [] m rest e = absurd (nothing-there m rest e)
split-drop zero (k ∷ ms) m rest e = ([], (e, refl))
split-drop (suc n) [] m rest e = absurd (nothing-there m rest e)
split-drop (suc n) (k ∷ ms) m rest e = let r = split-drop n ms m rest e in (k ∷ r.0, (ap (λ ns. k ∷ ns) r.1.0, ap (λ i. suc i) r.1.1))

-- a message among two lists
abbrev InFirst : List Sent → List Sent → Sent → Type 0
InFirst first earlier m = (later : List Sent) × (first ≡ earlier ++ m ∷ later)

abbrev InSecond : List Sent → List Sent → List Sent → Sent → List Sent → Type 0
InSecond first second earlier m later = (between : List Sent) × (second ≡ between ++ m ∷ later)

split-two : (first second earlier : List Sent) (m : Sent) (later : List Sent) → first ++ second ≡ earlier ++ m ∷ later → InFirst first earlier m ⊎ InSecond first second earlier m later
split-two [] second earlier m later e = inr (earlier, e)
split-two (k ∷ first) second [] m later e = inl (first, ap (λ j. j ∷ first) (some-is k m (ap (λ ms. head ms) e)))
split-two (k ∷ first) second (j ∷ earlier) m later e = elim (split-two first second earlier m later (tail k (first ++ second) j (earlier ++ m ∷ later) e)) [
  | inl r ↦ inl (r.0, ap (λ ms. k ∷ ms) r.1 ∙ ap (λ i. i ∷ (earlier ++ m ∷ r.0)) (some-is k j (ap (λ ms. head ms) e)))
  | inr r ↦ inr r
]
  where
    tail : (a : Sent) (ns : List Sent) (b : Sent) (ms : List Sent) → a ∷ ns ≡ b ∷ ms → ns ≡ ms
    tail a ns b ms q = cc

onward-drop : (n reach last : ℕ) (ms : List Sent) → Onward reach ms last → Onward reach (drop n ms) last
onward-drop zero reach last [] o = o
onward-drop zero reach last (m ∷ ms) o = o
onward-drop (suc n) reach last [] o = o
onward-drop (suc n) reach last (m ∷ ms) o = onward-drop n reach last ms (onward-tail reach last m ms o)

-- which items land a message
abbrev is_landing : Item → Bool
is_landing (Lands x) = true
is_landing _ = false

no-landing : (x : Side) (b : Bool) (is : List Item) → is ≡ (if b then Completes x ∷ [] else []) → is ≡ Lands x ∷ [] → ⊥
no-landing x true is e f = true≢false (sym (ap (λ (js : List Item). passes is_landing (head js)) (sym e ∙ f)))
no-landing x false is e f = true≢false (sym (ap (λ (js : List Item). passes is_landing (head js)) (sym e ∙ f)))

no-item : (x : Side) (is : List Item) → is ≡ [] → is ≡ Lands x ∷ [] → ⊥
no-item x is e f = true≢false (sym (ap (λ (js : List Item). passes is_landing (head js)) (sym e ∙ f)))

first-of : (ps : List Placed) (c : Placed) → head ps ≡ Some c → (rest : List Placed) × (ps ≡ c ∷ rest)
first-of [] c q = absurd (none-is c q)
first-of (p ∷ ps) c q = (ps, ap (λ r. r ∷ ps) (some-is p c q))

-- the next message of an end lands, as a CDC message that is first on a link which is not dead
record IsLanding (x : Side) (link : LinkId) (token : ℕ) (past : List Entry) : Type 0 where
  alive : is_dead link past ≡ false
  first : Placed
  rest : List Placed
  waiting : unlanded link x past ≡ first ∷ rest
  cdc : CdcMessage
  under : cdc_under x token first.post ≡ Some cdc

module _ (setup : Setup) (payload : List ℕ) (elements : HasElements setup) (e : Entry) (past : List Entry) (m : IsMadeAll setup payload (e ∷ past)) (known : AreOnKnown setup (e ∷ past)) where
  abbrev T : Terms
  T = terms_of setup

  abbrev Size : ℕ
  Size = element_size setup

  hh : Holds setup payload past
  hh = holds-of setup payload past m.1 known.1

  agree : Agrees setup payload past
  agree = hh.agree

  owed : OwedToAgreement setup payload past
  owed = now-owed setup payload past hh.all

  pub beside : OffersGoOn e past
  beside = let a : AllPlain setup payload (e ∷ past) = plain-of setup payload (e ∷ past) m known in a.1.0.0

  abbrev made : IsMade setup payload past m.0.0 e
  made = m.0.1

  again : NoneAgain past
  again = none-again setup payload past m.1 (flows-of setup payload past m.1)

  alive-kept : (x : Side) (link : LinkId) → is_dead link past ≡ false → is_lost x link past ≡ false
  alive-kept x link alive = again.again x link (alive-stands setup payload past m.1 known.1 link alive x)

  module _ (x : Side) (s : ℕ) (o : Offered) (f : offered (other x) s past ≡ Some o) (is-lent : IsAmong (lends_by s o.link o.offer) (lent setup payload (other x) past)) where
    abbrev P : List Item
    P = part payload (group_on s past) s past

    abbrev I : List Item
    I = items payload (group_on s past) s e past

    abbrev H : Side → Half
    H y = Now setup payload e past m.0.0 made owed beside y s

    abbrev K : Side → Half
    K y = Then setup payload e past m.0.0 made owed beside y s

    abbrev At : Place
    At = offered_place o.offer

    feasible : IsFeasible T P
    feasible = agree.feasible s (group_on s past) (inr refl)

    feasible-now : IsFeasible T (I ++ P)
    feasible-now = feasible-step setup payload e past m.0.0 made owed beside agree s

    grown : (y : Side) → IsGrown (H y) (K y)
    grown y = grown-all T y I P feasible-now

    bytes : BytesAfter setup payload x (other x) e past
    bytes = bytes-of setup payload past m.1 known.1 x m.0.0 e made

    places-apart : AreApart setup payload (other x) past
    places-apart = (lendings-hold setup payload past (other x) elements m.1 known.1).1.0

    low-index : (t : ℕ) (r : Offered) → offered (other x) t past ≡ Some r → 1 ≤ (offered_place r.offer).index
    low-index t r g = low-places (elements_of setup (other x)) (up_to (rmbs_of setup (other x))) (offered_place r.offer) (places-apart.in_range (lends_by t r.link r.offer) (lending-begun setup payload past m.1 known.1 (other x) t r g))

    -- what stands goes on standing
    module _ (n : ℕ) (low : (H (other x)).rd ≤ n) (high : n < length (H x).out) (stood : StandsAt setup payload (other x) o past (H x).out n) where
      abbrev Address : ℕ
      Address = address_of Size At n

      abbrev Was : ℕ
      Was = byte_in setup payload (other x) At.rmb Address past

      module _ (link : LinkId) (at : PostRef) (key first len : ℕ) (rest : List Placed) (alive : is_dead link past ≡ false) (q : unlanded link x past ≡ record { at = at; post = Write x link key first len } ∷ rest) where
        abbrev Goal : Type 0
        Goal = byte_after setup payload (other x) At.rmb Address at past Was (Some (Write x link key first len)) ≡ slice_index_or (H x).out n 0

        own-kept : (t : ℕ) (r : Offered) → IsAimed setup payload x link past at first len rest t r → t ≡ s → Goal
        own-kept t r a same =
            let b : IsAimed setup payload x link past at first len rest s r = subst (λ j. IsAimed setup payload x link past at first len rest j r) same a in
            let c : IsAimed setup payload x link past at first len rest s o = subst (λ p. IsAimed setup payload x link past at first len rest s p) (some-is r o (sym b.offered_is ∙ f)) b in
            kept-own setup payload past m.1 known.1 x link at key first len rest alive q s o c n Was low high stood

        else-kept : (t : ℕ) (r : Offered) → IsAimed setup payload x link past at first len rest t r → (t == s) ≡ false → Goal
        else-kept t r a other-one =
            kept-else setup payload past m.1 known.1 x link at key first len rest alive q t r a At Address Was (low-index s o f) (low-index t r a.offered_is)
            (by-bool (same_place At (offered_place r.offer) ≡ false) (same_place At (offered_place r.offer))
            (λ p. absurd (true≢false (sym (eq-eqb t s (sym (ap (λ (l : Lending). l.s) (places-apart.places (lends_by s o.link o.offer) (lends_by t r.link r.offer) is-lent (its-lent setup payload past m.1 known.1 x link at key first len rest alive q t r a) p)))) ∙ other-one))) (λ p. p))
            (omega arith) (let b = mod_below n Size (pow_pos (setup.size_code + 14)) in omega (arith, b)) ∙ stood

        after-write : Goal
        after-write = by (behind-at (Aims setup payload x link past) [] (record { at = at; post = Write x link key first len }) rest (unlanded link x past) q (all-aimed setup payload past m.1 (plain-of setup payload past m.1 known.1) x link (alive-kept x link alive)))
          where
            by : (t : ℕ) × ((r : Offered) × IsAimed setup payload x link past at first len rest t r) → Goal
            by (t, (r, a)) = by-bool Goal (t == s) (λ c. own-kept t r a (eqb-true t s c)) (λ c. else-kept t r a c)

      still-stands : StandsAt setup payload (other x) o (e ∷ past) (K x).out n
      still-stands = by bytes ∙ sym (ap (λ bs. slice_index_or bs n 0) (grown x).out_is ∙ get_or_append_left (H x).out (grown x).out 0 n high)
        where
          by : BytesAfter setup payload x (other x) e past → byte_in setup payload (other x) At.rmb Address (e ∷ past) ≡ slice_index_or (H x).out n 0
          by (Unwritten same none) = same At.rmb Address ∙ stood
          by (Written link at key first len rest alive q now firsts) = now At.rmb Address ∙ after-write link at key first len rest alive q

    was-read : (n : ℕ) → (K (other x)).rd ≤ n → (H (other x)).rd ≤ n
    was-read n l = omega (arith, l, (grown (other x)).read)

    -- a write goes on waiting, or it has landed
    module _ (n : ℕ) (w : Waits setup payload x (H x).link past s o n (unlanded (H x).link x past)) (kept : is_lost x (H x).link past ≡ false) (uncut : is_cut (H x).link past ≡ false) where
      abbrev L : LinkId
      L = (H x).link

      abbrev W : Placed
      W = record { at = w.at; post = Write x L w.key w.address w.len }

      abbrev New : List Placed
      New = News setup payload e past m.0.0 made owed beside hh.all agree L x

      waits-on : (front : List Placed) → drop (leaving L x e past) (unlanded L x past) ≡ front ++ W ∷ w.rest → Waits setup payload x L (e ∷ past) s o n (unlanded L x (e ∷ past))
      waits-on front q =
          let a = aim-stays-at setup payload e past m.0.0 made owed beside hh.all agree x L kept w.at w.address w.len w.rest s o w.aimed in
          record { at = w.at; key = w.key; address = w.address; len = w.len; front = front; rest = w.rest ++ New; is = ap (λ cs. cs ++ New) q ∙ append_assoc front (W ∷ w.rest) New; aimed = a.0; low = omega (arith, a.1, w.low); high = omega (arith, a.1, w.high) }

      abbrev Goes-on : Type 0
      Goes-on = Waits setup payload x L (e ∷ past) s o n (unlanded L x (e ∷ past)) ⊎ StandsAt setup payload (other x) o (e ∷ past) (K x).out n

      stays : leaving L x e past ≡ 0 → Goes-on
      stays z = inl (waits-on w.front (ap (λ i. drop i (unlanded L x past)) z ∙ (drop-none (unlanded L x past) ∙ w.is)))

      now-stands : is_dead L past ≡ false → unlanded L x past ≡ W ∷ w.rest → (l : LandsNow L x e past) → n < length (H x).out → StandsAt setup payload (other x) o (e ∷ past) (K x).out n
      now-stands alive q l high = by bytes ∙ sym (ap (λ bs. slice_index_or bs n 0) (grown x).out_is ∙ get_or_append_left (H x).out (grown x).out 0 n high)
        where
          first-is : l.first ≡ W
          first-is = some-is l.first W (ap (λ cs. head cs) (sym l.waiting ∙ q))

          by : BytesAfter setup payload x (other x) e past → byte_in setup payload (other x) At.rmb (address_of Size At n) (e ∷ past) ≡ slice_index_or (H x).out n 0
          by (Unwritten same none) = absurd (subst (λ (c : Placed). IsNoWrite c.post) first-is (none L l))
          by (Written link at key first len rest alive2 q2 now firsts) =
              now At.rmb (address_of Size At n) ∙
              (ap (λ (c : Placed). byte_after setup payload (other x) At.rmb (address_of Size At n) c.at past (byte_in setup payload (other x) At.rmb (address_of Size At n) past) (Some c.post)) (sym (firsts L l) ∙ first-is) ∙
              own-byte setup payload past m.1 known.1 x L w.at w.key w.address w.len w.rest alive q s o w.aimed n (byte_in setup payload (other x) At.rmb (address_of Size At n) past) w.low w.high)

      goes-by : n < length (H x).out → Goes payload L x e past → Goes-on
      goes-by high (Quietly st a) = stays st.leaves
      goes-by high (Elsewhere st l c item diff r i d q) = stays st.leaves
      goes-by high (CompletesHere l r d) = stays l.leaves
      goes-by high (SwallowedHere l may d) = absurd (true≢false (sym (and-both (is_cut L past) (not (some_reported L past)) (and-both (is_cut L past && not (some_reported L past)) _ may).0).0 ∙ uncut))
      goes-by high (LandsHere l alive d) = by w.front w.is
        where
          by : (front : List Placed) → unlanded L x past ≡ front ++ W ∷ w.rest → Goes-on
          by [] q = inr (now-stands alive q l high)
          by (c ∷ front) q = inl (waits-on front (ap (λ i. drop i (unlanded L x past)) l.leaves ∙ (ap (λ cs. drop 1 cs) q ∙ drop-none (front ++ W ∷ w.rest))))

    module _ (was : StandingIn setup payload x s o (group_on s past) past) where
      told-out : (earlier : List Sent) (k : Sent) (later : List Sent) → (H x).sent ≡ earlier ++ k ∷ later → k.snapshot.told ≤ length (H x).out
      told-out earlier k later q = (each-split (λ j. j.snapshot.told ≤ length (H x).out) earlier k later (subst (λ ms. EachOf (λ j. j.snapshot.told ≤ length (H x).out) ms) q (told-within T x P feasible))).0

      abbrev Comes : LinkId → ℕ → Type 0
      Comes l n = Waits setup payload x l (e ∷ past) s o n (unlanded l x (e ∷ past)) ⊎ StandsAt setup payload (other x) o (e ∷ past) (K x).out n

      goes-there : Goes payload (H x).link x e past
      goes-there = goes payload (H x).link past setup m.0.0 e.actor e.posts x e.event e.reply made.reply

      -- what was sent before
      old-coming : (earlier : List Sent) (k : Sent) (later : List Sent) → (H x).sent ≡ earlier ++ k ∷ later → (K x).landed ≤ length earlier → is_lost x (H x).link past ≡ false → is_cut (H x).link past ≡ false → (n : ℕ) → k.from ≤ n → n < k.snapshot.told → (K (other x)).rd ≤ n → Comes (H x).link n
      old-coming earlier k later q l kept uncut n a b c = by (was.coming earlier k later q (omega (arith, l, (grown x).landed)) kept uncut n a b (was-read n c))
        where
          high : n < length (H x).out
          high = omega (arith, b, told-out earlier k later q)

          by : Waits setup payload x (H x).link past s o n (unlanded (H x).link x past) ⊎ StandsAt setup payload (other x) o past (H x).out n → Comes (H x).link n
          by (inl w) = goes-by n w kept uncut high goes-there
          by (inr st) = inr (still-stands n (was-read n c) high st)

      abbrev Given : List Sent
      Given = given setup payload (draft setup payload past m.0.0 e.event) past x s

      news : IsNews (H x) (K x) Given
      news = news-of setup payload e past m.0.0 made owed beside hh.all agree x s

      -- what is sent now
      new-coming : (between : List Sent) (k : Sent) (later : List Sent) → Given ≡ between ++ k ∷ later → (earlier : List Sent) → (K x).sent ≡ earlier ++ k ∷ later → (n : ℕ) → k.from ≤ n → n < k.snapshot.told → Comes (K x).link n
      new-coming between k later g earlier q n a b = subst (λ l. Comes l n) on (inl (record {
        at = w.at;
        key = w.key;
        address = w.address;
        len = w.len;
        front = drop (leaving k.link x e past) (unlanded k.link x past) ++ w.front;
        rest = w.rest;
        is = ap (λ cs. drop (leaving k.link x e past) (unlanded k.link x past) ++ cs) w.is ∙ sym (append_assoc (drop (leaving k.link x e past) (unlanded k.link x past)) w.front (record { at = w.at; post = Write x k.link w.key w.address w.len } ∷ w.rest));
        aimed = w.aimed;
        low = w.low;
        high = w.high;
      }))
        where
          on : k.link ≡ (K x).link
          on = (each-split (λ j. j.link ≡ (K x).link) between k later (subst (λ ms. EachOf (λ j. j.link ≡ (K x).link) ms) g news.on)).0

          few-of : CarriesFew Size (length (K x).out) k
          few-of = (each-split (CarriesFew Size (length (K x).out)) earlier k later (subst (λ ms. EachOf (CarriesFew Size (length (K x).out)) ms) q (carries-few T x (I ++ P) feasible-now))).0

          plain : k.check ≡ false
          plain = by-bool (k.check ≡ false) k.check (λ c. absurd (let z = few-of.check c in omega (arith, z, a, b))) (λ c. c)

          w : Waits setup payload x k.link (e ∷ past) s o n (News setup payload e past m.0.0 made owed beside hh.all agree k.link x)
          w = new-waits setup payload e past m.0.0 made owed beside hh.all agree x s o f between k later g plain (few-of.few, few-of.forward) n a b

      coming-now : (earlier : List Sent) (k : Sent) (later : List Sent) → (K x).sent ≡ earlier ++ k ∷ later → (K x).landed ≤ length earlier → is_lost x (K x).link (e ∷ past) ≡ false → is_cut (K x).link (e ∷ past) ≡ false → (n : ℕ) → k.from ≤ n → n < k.snapshot.told → (K (other x)).rd ≤ n → Comes (K x).link n
      coming-now earlier k later q l kept uncut n a b c = by (split-two (H x).sent Given earlier k later (sym news.sent_is ∙ q))
        where
          old : (more : List Sent) → (H x).sent ≡ earlier ++ k ∷ more → (K x).link ≡ (H x).link → Comes (K x).link n
          old more r same = subst (λ j. Comes j n) (sym same) (old-coming earlier k more r l
              (or-right _ (is_lost x (H x).link past) (ap (λ j. is_lost x j (e ∷ past)) (sym same) ∙ kept)) (or-right _ (is_cut (H x).link past) (ap (λ j. is_cut j (e ∷ past)) (sym same) ∙ uncut)) n a b c)

          long : (more : List Sent) → (H x).sent ≡ earlier ++ k ∷ more → length earlier < length (H x).sent
          long more r = omega (arith, ap (λ ms. length ms) r, length-append earlier (k ∷ more))

          by-turn : (more : List Sent) → (H x).sent ≡ earlier ++ k ∷ more → Sends (H x) (K x) ⊎ ((_ : Unit {0}) × MovesOff (H x) (K x)) → Comes (K x).link n
          by-turn more r (inl p) = by-bool (Comes (K x).link n) (H x).up (λ u. old more r (p.same u)) (λ u. absurd (omega (arith, long more r, ap (λ ms. length ms) (idle-any T x P u))))
          by-turn more r (inr p) = absurd (omega (arith, long more r, l, p.1.landed_is))

          by : InFirst (H x).sent earlier k ⊎ InSecond (H x).sent Given earlier k later → Comes (K x).link n
          by (inl r) = by-turn r.0 r.1 (elim (turns setup payload e past m.0.0 made owed beside hh.all agree x s) [ inl p ↦ inl p | inr p ↦ inr (tt, p.1) ])
          by (inr r) = new-coming r.0 k later r.1 earlier q n a b

      -- what lands
      abbrev Ds : List Item
      Ds = deeds payload s e.event e.reply past

      abbrev Bs : List Item
      Bs = below (group_on s past) s e past

      abbrev M : Half
      M = Mid setup payload e past m.0.0 made owed beside x s

      mark : IsMarked (H x)
      mark = is-marked T x P feasible

      below-cover : covered T x (Bs ++ P) ≡ covered T x P
      below-cover = covered-below T x Bs P (below-messages (group_on s past) s e past)

      old-landed : (n : ℕ) → (K (other x)).rd ≤ n → n < covered T x P → StandsAt setup payload (other x) o (e ∷ past) (K x).out n
      old-landed n c high = still-stands n (was-read n c) (omega (arith, high, covered-within T x P feasible)) (was.landed n (was-read n c) high)

      is-landing : Ds ≡ Lands x ∷ [] → IsLanding x (H x).link o.offer.token past
      is-landing d = by goes-there
        where
          elsewhere : (l : LinkId) (c : Placed) (item : Item) → same_link (H x).link l ≡ false → some_reported l past ≡ false → Ds ≡ if_own item x s (Some c.at) past → head (unlanded l x past) ≡ Some c ⊎ head (uncompleted l x past) ≡ Some c → ⊥
          elsewhere l c item diff r ds (inl q) = at (is-or-not x o.offer.token c.post)
            where
              w : (rest : List Placed) × (unlanded l x past ≡ c ∷ rest)
              w = first-of (unlanded l x past) c q

              at : IsOrNot x o.offer.token c.post → ⊥
              at (IsNot n i) = no-item x Ds (ds ∙ (own-some item x s c.at past o c.post f (first-stands past (unlanded l x past) c w.0 (unlanded-stand l x past) w.1) ∙ ap (λ (b : Bool). if b then item ∷ [] else []) n)) d
              at (Is i n p) =
                  let there = first-is-here Size l x o.offer.token e past (H x) (K x) mark (idle-any T x P) (agree.carried x s o f l (alive-not-lost setup payload e past m.0.0 made owed beside agree x l r)) c w.0 w.1 i p in
                  true≢false (sym (ap (λ j. same_link (H x).link j) (link-is l (H x).link there.0) ∙ same-link (H x).link) ∙ diff)
          elsewhere l c item diff r ds (inr q) = at (is-or-not x o.offer.token c.post)
            where
              w : (rest : List Placed) × (uncompleted l x past ≡ c ∷ rest)
              w = first-of (uncompleted l x past) c q

              at : IsOrNot x o.offer.token c.post → ⊥
              at (IsNot n i) = no-item x Ds (ds ∙ (own-some item x s c.at past o c.post f (first-stands past (uncompleted l x past) c w.0 (uncompleted-stand l x past) w.1) ∙ ap (λ (b : Bool). if b then item ∷ [] else []) n)) d
              at (Is i n p) =
                  let there = landed-is-here Size l x o.offer.token e past (H x) (K x) mark (idle-any T x P) (agree.carried x s o f l (alive-not-lost setup payload e past m.0.0 made owed beside agree x l r)) c w.0 w.1 i p in
                  true≢false (sym (ap (λ j. same_link (H x).link j) (link-is l (H x).link there.0) ∙ same-link (H x).link) ∙ diff)

          here-lands : (l : LandsNow (H x).link x e past) → is_dead (H x).link past ≡ false → Ds ≡ if_own (Lands x) x s (Some l.first.at) past → IsOrNot x o.offer.token l.first.post → IsLanding x (H x).link o.offer.token past
          here-lands l alive ds (Is i n p) = record { alive = alive; first = l.first; rest = l.rest; waiting = l.waiting; cdc = i; under = p }
          here-lands l alive ds (IsNot n i) = absurd (no-item x Ds (ds ∙ (own-some (Lands x) x s l.first.at past o l.first.post f (first-stands past (unlanded (H x).link x past) l.first l.rest (unlanded-stand (H x).link x past) l.waiting) ∙ ap (λ (b : Bool). if b then Lands x ∷ [] else []) n)) d)

          by : Goes payload (H x).link x e past → IsLanding x (H x).link o.offer.token past
          by (Quietly st a) = let c : EachItem (apart x) (Lands x ∷ []) = subst (λ is. EachItem (apart x) is) d (a s) in absurd (true≢false (sym c.0 ∙ ap (λ b. not b) (same-self x)))
          by (Elsewhere st l c item diff r i q ds) = absurd (elsewhere l c item diff r (ds s) q)
          by (LandsHere l alive ds) = here-lands l alive (ds s) (is-or-not x o.offer.token l.first.post)
          by (CompletesHere l r ds) = absurd (no-landing x (passes (is_own x s past) (Some l.first.at)) Ds (ds s) d)
          by (SwallowedHere l may ds) = absurd (no-landing x (passes (is_own x s past) (Some l.first.at)) Ds (ds s) d)

      module _ (l : IsLanding x (H x).link o.offer.token past) (k : Sent) (later : List Sent) (next : to_land (H x) ≡ k ∷ later) where
        kept-link : is_lost x (H x).link past ≡ false
        kept-link = alive-kept x (H x).link l.alive

        carried-is : cdcs x o.offer.token (unlanded (H x).link x past) ≡ map (message Size o.offer.token) (to_land (H x))
        carried-is = let c = agree.carried x s o f (H x).link kept-link in c.landing ∙ ap (λ (b : Bool). map (message Size o.offer.token) (to_land (if b then H x else fresh 0))) (same-link (H x).link)

        -- no write waits behind it for its bytes
        none-waits : (n : ℕ) → n < k.snapshot.told → Waits setup payload x (H x).link past s o n (unlanded (H x).link x past) → ⊥
        none-waits n high w = by w.front (sym l.waiting ∙ w.is)
          where
            W : Placed
            W = record { at = w.at; post = Write x (H x).link w.key w.address w.len }

            many : length (cdcs x o.offer.token (unlanded (H x).link x past)) ≡ 1 + length later
            many = ap (λ cs. length cs) carried-is ∙ (long-map (message Size o.offer.token) (to_land (H x)) ∙ (ap (λ ms. length ms) next ∙ (let z : length (k ∷ later) ≡ 1 + length later = omega arith in z)))

            later-ones : EachOf (λ j. k.snapshot.told ≤ j.from) (drop ((H x).landed + 1) (H x).sent)
            later-ones =
                let i : IsOnward (H x) = is-onward T x P in
                let c : (H x).completed + ((H x).landed - (H x).completed) ≡ (H x).landed = omega (arith, mark.completed_landed) in
                let q : drop ((H x).landed - (H x).completed) (to_complete (H x)) ≡ k ∷ later = drop-drop ((H x).landed - (H x).completed) (H x).completed (H x).sent ∙ (ap (λ j. drop j (H x).sent) c ∙ next) in
                let u : Onward (H x).fin.told (k ∷ later) (H x).last.told = subst (λ ms. Onward (H x).fin.told ms (H x).last.told) q (onward-drop ((H x).landed - (H x).completed) (H x).fin.told (H x).last.told (to_complete (H x)) i.onward) in
                subst (λ ms. EachOf (λ j. k.snapshot.told ≤ j.from) ms) (sym (sym (drop-drop 1 (H x).landed (H x).sent) ∙ (ap (λ ms. drop 1 ms) next ∙ drop-none later))) (onward-each k.snapshot.told (H x).last.told later u.1.1)

            late : length w.aimed.later + 1 ≤ length later → ⊥
            late few =
                let a = w.aimed in
                let b : length (H x).sent - (H x).landed ≡ length (k ∷ later) = sym (length-drop (H x).landed (H x).sent) ∙ ap (λ ms. length ms) next in
                let t : k.snapshot.told ≤ a.sent.from = each-behind (λ j. k.snapshot.told ≤ j.from) ((H x).landed + 1) a.by.earlier a.sent a.later
                (omega (arith, few, b, ap (λ ms. length ms) a.by.sent_is, length-append a.by.earlier (a.sent ∷ a.later)))
                (subst (λ ms. EachOf (λ j. k.snapshot.told ≤ j.from) (drop ((H x).landed + 1) ms)) a.by.sent_is later-ones) in
                omega (arith, t, a.not_before, w.low, high)

            counted : (front : List Placed) → length (cdcs x o.offer.token (front ++ record { at = w.at; post = Write x (H x).link w.key w.address w.len } ∷ w.rest)) ≡ length (cdcs x o.offer.token front) + (length w.aimed.later + 1)
            counted front = ap (λ cs. length cs) (cdcs-append x o.offer.token front (record { at = w.at; post = Write x (H x).link w.key w.address w.len } ∷ w.rest)) ∙
                (length-append (cdcs x o.offer.token front) (cdcs x o.offer.token w.rest) ∙ (let z : length (cdcs x o.offer.token w.rest) ≡ length w.aimed.later + 1 = ap (λ cs. length cs) w.aimed.waiting ∙ (long-map (message Size o.offer.token) (w.aimed.sent ∷ w.aimed.later) ∙ (let y : length (w.aimed.sent ∷ w.aimed.later) ≡ length w.aimed.later + 1 = omega arith in y)) in ap (λ i. length (cdcs x o.offer.token front) + i) z))

            one-more : (c : Placed) (front : List Placed) → cdc_under x o.offer.token c.post ≡ Some l.cdc → length (cdcs x o.offer.token (c ∷ front)) ≡ 1 + length (cdcs x o.offer.token front)
            one-more c front u = ap (λ q. length (cons_option q (cdcs x o.offer.token front))) u ∙ (let z : length (l.cdc ∷ cdcs x o.offer.token front) ≡ 1 + length (cdcs x o.offer.token front) = omega arith in z)

            by : (front : List Placed) → l.first ∷ l.rest ≡ front ++ record { at = w.at; post = Write x (H x).link w.key w.address w.len } ∷ w.rest → ⊥
            by [] q = none-is l.cdc (ap (λ (c : Placed). cdc_under x o.offer.token c.post) (sym (some-is l.first (record { at = w.at; post = Write x (H x).link w.key w.address w.len }) (ap (λ cs. head cs) q))) ∙ l.under)
            by (c ∷ front) q =
                let first-is : l.first ≡ c = some-is l.first c (ap (λ cs. head cs) q) in
                let u : cdc_under x o.offer.token c.post ≡ Some l.cdc = ap (λ (d : Placed). cdc_under x o.offer.token d.post) (sym first-is) ∙ l.under in
                let n1 = counted (c ∷ front) in
                let n2 = one-more c front u in
                let n3 : length (cdcs x o.offer.token (unlanded (H x).link x past)) ≡ length (cdcs x o.offer.token ((c ∷ front) ++ record { at = w.at; post = Write x (H x).link w.key w.address w.len } ∷ w.rest)) = ap (λ cs. length (cdcs x o.offer.token cs)) (l.waiting ∙ q) in
                late (omega (arith, n1, n2, n3, many))

        new-landed : (n : ℕ) → (K (other x)).rd ≤ n → k.from ≤ n → n < k.snapshot.told → StandsAt setup payload (other x) o (e ∷ past) (K x).out n
        new-landed n c a b =
            let sp = split-drop (H x).landed (H x).sent k later next in
            by (was.coming sp.0 k later sp.1.0 (omega (arith, sp.1.1)) kept-link (let r = or-none (is_cut (H x).link past) (some_reported (H x).link past) l.alive in r.0) n a b (was-read n c)) (omega (arith, b, told-out sp.0 k later sp.1.0))
          where
            by : Waits setup payload x (H x).link past s o n (unlanded (H x).link x past) ⊎ StandsAt setup payload (other x) o past (H x).out n → n < length (H x).out → StandsAt setup payload (other x) o (e ∷ past) (K x).out n
            by (inl w) high = absurd (none-waits n b w)
            by (inr st) high = still-stands n (was-read n c) high st

        mid-next : head (to_land M) ≡ Some k
        mid-next =
            let p : Sends (H x) M = mid-sends setup payload e past m.0.0 made owed beside x s in
            ap (λ i. head (drop i M.sent)) (mid-counts setup payload e past m.0.0 made owed beside x s).0 ∙
            (ap (λ ms. head (drop (H x).landed ms)) p.sent_is ∙ (ap (λ ms. head ms) (drop-append-le (H x).landed (H x).sent p.more mark.landed_sent) ∙ ap (λ ms. head (ms ++ p.more)) next))

      with-landing : (n : ℕ) → (K (other x)).rd ≤ n → IsLanding x (H x).link o.offer.token past → n < covered_after (head (to_land M)) (covered T x P) → StandsAt setup payload (other x) o (e ∷ past) (K x).out n
      with-landing n c l high = elim (cases_lt n (covered T x P)) [
        | inl less ↦ old-landed n c less
        | inr more ↦ by more (to_land (H x)) refl
      ]
        where
          none-left : cdcs x o.offer.token (unlanded (H x).link x past) ≡ [] → ⊥
          none-left q = true≢false (ap (λ ns. is_some (head ns)) (sym (ap (λ p. cons_option p (cdcs x o.offer.token l.rest)) l.under) ∙ (ap (λ cs. cdcs x o.offer.token cs) (sym l.waiting) ∙ q)))

          by : covered T x P ≤ n → (ms : List Sent) → to_land (H x) ≡ ms → StandsAt setup payload (other x) o (e ∷ past) (K x).out n
          by more [] q = absurd (none-left (let r = agree.carried x s o f (H x).link (alive-kept x (H x).link l.alive) in r.landing ∙ (ap (λ (b : Bool). map (message Size o.offer.token) (to_land (if b then H x else fresh 0))) (same-link (H x).link) ∙ ap (λ ms. map (message Size o.offer.token) ms) q)))
          by more (k ∷ later) q =
              let r = covered-more (head (to_land M)) (covered T x P) n more high in
              let same : r.0 ≡ k = some-is r.0 k (sym r.1.0 ∙ mid-next l k later q) in
              new-landed l k later q n c (subst (λ (j : Sent). j.from ≤ n) same r.1.1.0) (subst (λ (j : Sent). n < j.snapshot.told) same r.1.1.1)

      landed-now : (n : ℕ) → (K (other x)).rd ≤ n → n < covered T x (I ++ P) → StandsAt setup payload (other x) o (e ∷ past) (K x).out n
      landed-now n c high = by (deed-shape setup payload e past m.0.0 made owed beside agree s)
        where
          of : (ds : List Item) → Ds ≡ ds → covered T x (I ++ P) ≡ covered T x (ds ++ (Bs ++ P))
          of ds d = ap (λ is. covered T x (is ++ P)) (items-are payload (group_on s past) s e past ∙ ap (λ js. js ++ Bs) d) ∙ ap (λ is. covered T x is) (append_assoc ds Bs P)

          one : (item : Item) → Ds ≡ item ∷ [] → StandsAt setup payload (other x) o (e ∷ past) (K x).out n
          one item d = elim (covered-item T x item (Bs ++ P)) [
            | inl q ↦ old-landed n c (omega (arith, high, of (item ∷ []) d, q, below-cover))
            | inr q ↦ with-landing n c (is-landing (d ∙ ap (λ i. i ∷ []) q.0)) (omega (arith, high, of (item ∷ []) d, q.1, ap (λ i. covered_after (head (to_land M)) i) below-cover))
          ]

          by : Shape s e past Ds → StandsAt setup payload (other x) o (e ∷ past) (K x).out n
          by (NoDeed d) = old-landed n c (omega (arith, high, of [] d, below-cover))
          by (Deed item d is) = one item d
          by (MoveDeed y d none) = one (Calls y Moves) d

      pub stands-after : StandingIn setup payload x s o (group_on s past) (e ∷ past)
      stands-after = record { landed = landed-now; coming = coming-now }

-- after every history
nothing-sent : (setup : Setup) (payload : List ℕ) (x : Side) (s : ℕ) (o : Offered) (past : List Entry) (h k : Half) (reach : ℕ) → h.sent ≡ [] → reach ≡ 0 → AreStanding setup payload x s o past h k reach
nothing-sent setup payload x s o past h k reach e z = record { landed = λ n l b. absurd (omega (arith, z, b)); coming = λ earlier m later q. absurd (omega (arith, ap (λ ms. length ms) (sym e ∙ q), length-append earlier (m ∷ later))) }

pub all-stand : (setup : Setup) (payload : List ℕ) (past : List Entry) → HasElements setup → IsMadeAll setup payload past → AreOnKnown setup past → (x : Side) (s : ℕ) (o : Offered) → offered (other x) s past ≡ Some o → IsAmong (lends_by s o.link o.offer) (lent setup payload (other x) past) → StandingIn setup payload x s o (group_on s past) past
all-stand setup payload [] elements m known x s o f i = absurd i
all-stand setup payload (e ∷ past) elements m known x s o f i = by (offered (other x) s past) refl (λ r g j. all-stand setup payload past elements m.1 known.1 x s r g j)
  where
    changed : Changes setup payload (other x) e past
    changed = changes setup payload past m.0.0 e m.0.1 (states setup payload past m.1) (all-offers setup payload past m.1) (other x)

    not-up : offered (other x) s past ≡ None → is_up x s (e ∷ past) ≡ false
    not-up n = come (comes_up x s e past) refl
      where
        come : (c : Option LinkId) → comes_up x s e past ≡ c → is_up x s (e ∷ past) ≡ false
        come (Some l) q = let r = (beside setup payload elements e past m known).answers x s l q in absurd (none-is r.0 (sym n ∙ r.1))
        come None q = ap (λ c. is_some c || is_up x s past) q ∙ by-bool (is_up x s past ≡ false) (is_up x s past) (λ u. let r = up-offered setup payload x s past (let h : Holds setup payload past = holds-of setup payload past m.1 known.1 in h.all) u in absurd (none-is r.0 (sym n ∙ r.1))) (λ u. u)

    lent-before : (r : Offered) → offered (other x) s past ≡ Some r → IsAmong (lends_by s o.link o.offer) (lent setup payload (other x) past)
    lent-before r g = elim (changed.was (lends_by s o.link o.offer) i) [
      | inl j ↦ absurd (began changed.begins j)
      | inr j ↦ j.0
    ]
      where
        began : Begins setup payload (other x) e past → IsAmong (lends_by s o.link o.offer) (filter_map (lends (other x)) e.posts) → ⊥
        began (BeginsNone n q) j = subst (λ ls. IsAmong (lends_by s o.link o.offer) ls) n j
        began (BeginsOne n) j =
            let same : s ≡ n.s = ap (λ (l : Lending). l.s) (in-new setup payload past m.0.0 e m.0.1 (states setup payload past m.1) (all-offers setup payload past m.1) (other x) n (lends_by s o.link o.offer) j) in
            none-is r (sym (not-offered setup payload past m.0.0 e m.0.1 (states setup payload past m.1) (all-offers setup payload past m.1) (other x) n) ∙ (ap (λ t. offered (other x) t past) (sym same) ∙ g))

    by : (q : Option Offered) → offered (other x) s past ≡ q → ((r : Offered) → offered (other x) s past ≡ Some r → IsAmong (lends_by s r.link r.offer) (lent setup payload (other x) past) → StandingIn setup payload x s r (group_on s past) past)
        → StandingIn setup payload x s o (group_on s (e ∷ past)) (e ∷ past)
    by None g before =
        let idle = idle-any (terms_of setup) x (part payload (group_on s (e ∷ past)) s (e ∷ past)) (pipe-is-up (terms_of setup) x payload (group_on s (e ∷ past)) s (e ∷ past) ∙ not-up g) in
        nothing-sent setup payload x s o (e ∷ past) _ _ _ idle (covered-none (terms_of setup) x (part payload (group_on s (e ∷ past)) s (e ∷ past)) idle)
    by (Some r) g before =
        let same : r ≡ o = some-is r o (sym ((beside setup payload elements e past m known).kept (other x) s r g) ∙ f) in
        let g2 : offered (other x) s past ≡ Some o = g ∙ ap (λ k. Some k) same in
        let j = lent-before r g in
        let h : Holds setup payload past = holds-of setup payload past m.1 known.1 in
        subst (λ k. StandingIn setup payload x s o k (e ∷ past)) (sym (then-is setup payload e past m.0.0 m.0.1 (now-owed setup payload past h.all) (beside setup payload elements e past m known) h.all h.agree (other x) s o g2))
        (stands-after setup payload elements e past m known x s o g2 j (before o g2 j))
