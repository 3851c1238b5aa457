-- The ends of a connection that are not up are as they were made, but that they know the live links of their side's group.
use Rattle.cdc_wire.specs.declared.CdcMessage.{CdcMessage}
use Rattle.pipe_model.specs.Calls.{Reads, Writes}
use Rattle.pipe_model.specs.Closing.{is_group_gone}
use Rattle.pipe_model.specs.Connections.{completed_at, is_own, landed_at}
use Rattle.pipe_model.specs.History.{Offered, is_cdc, offered}
use Rattle.pipe_model.specs.Lending.{pipe_of, terms_of}
use Rattle.pipe_model.specs.Snapshot.{tells_same}
use Rattle.pipe_model.specs.Wires.{uncompleted, unlanded}
use Rattle.pipe_model.specs.Words.{element_size}
use Rattle.pipe_model.specs.declared.entry.Entry.{Entry}
use Rattle.pipe_model.specs.declared.post.Placed.{Placed}
use Rattle.pipe_model.specs.declared.post.PostRef.{PostRef}
use Rattle.pipe_model.specs.declared.reply.Reply.{Reply}
use Rattle.pipe_model.specs.declared.setup.Setup.{Setup}
use Rattle.smc_num.specs.Links.{Known, live_links}
use Rattle.smc_num.specs.Names.{has_link, head, other}
use Rattle.smc_num.specs.declared.LinkId.{LinkId}
use Rattle.smc_num.specs.declared.Side.{Side}
use Rattle.smc_num.specs.declared.Side.TheVariants.{A, B}
use Rattle.std.proofs.Common.{true≢false, Bool, List, [], ap, drop, eq-eqb, false, filter_map, if◌then◌else◌, inl, inr, length, map, nat_lt, not, refl, reverse, sym, take, true, ℕ, ◌&&◌, ◌++◌, ◌==◌, ◌||◌, ◌∙◌, ◌∷◌, ◌≡◌}
use Rattle.std.specs.Prelude.{None, Option, Some, is_some, option_map, option_to_list}
use Rattle.world_core.proofs.Handshaken.{gives-items, shaken}
use Rattle.world_core.proofs.LinkFacts.{is_live_at, live-where-up}
use Rattle.world_core.proofs.Own.{Is, IsNot, IsOrNot, is-or-not, own-none, own-some}
use Rattle.world_core.proofs.Places.{first-stands, uncompleted-stand, unlanded-stand}
use Rattle.world_core.proofs.QuietEvents.{by-side}
use Rattle.world_core.specs.OneLink.{Asking, Begun, LiveAtA, LiveAtBoth, Made, NoLink, Stage, fabric_at, the_known, the_link}
use Rattle.pipe_model.specs.Fits.{Fits}
use Rattle.world_core.specs.Played.{IsOneLink, IsPlayed}
use Rattle.world_core.specs.Sockets.{FirstUp, FirstUpAtA, HasWorld, IsWorld, Socket, first_step, is_unoffered, suits, up_at}
use Rattle.world_core.specs.WireSteps.{CompletesNow, LandsNow, Way}
use Rattle.pipe_model.specs.declared.event.End.{End}
use Rattle.smc_num.specs.declared.LinkPhase.TheVariants.{Pending, Live as LiveLink}
use Rattle.pipe_model.specs.Ends.{Half, fresh, settle, posts_batch, present, meets_fate, to_land}
use Rattle.pipe_model.specs.Pipe.{Item, Fate, Lands, Completes, Calls, Up, half, pipe, Terms}
use Rattle.pipe_model.specs.declared.event.Event.TheVariants.{Open, Write, Read, Clc, Deliver, Complete}
use Rattle.pipe_model.specs.declared.event.Event.{Event}
use Rattle.pipe_model.specs.Connections.{fate_of, fates, ups, items, part, deeds, if_own, is_up, comes_up as comes_up_with}
use Rattle.pipe_model.specs.Fabric.{Fabric, peer, table_of}
use Rattle.world_core.proofs.PlayedWorlds.{played as has-world}
use Rattle.world_core.proofs.PipeSteps.{rests as rests-still}
use Rattle.world_core.specs.Wired.{cdc_under, cdcs, message, returning, EachItem, passes_by}
use Rattle.world_core.specs.Agreement.{Agree, GivesItems}
use Rattle.world_core.proofs.Agreement.{agrees}
use Rattle.std.specs.List.{cons_option}
use Rattle.world_core.proofs.Plain.{and-false}

-- the links that a side knows: none, the link while it is pending, or the link while it is live
data Held : Type 0 where
  Nothing : Held
  Waits : Held
  Lives : Held

abbrev table_with : Held → List Known
table_with Nothing = []
table_with Waits = the_known Pending ∷ []
table_with Lives = the_known LiveLink ∷ []

abbrev lives : Held → Bool
lives Lives = true
lives _ = false

abbrev held : Side → Stage → Held
held A (Made s) = Waits
held A (Asking s qp) = Waits
held B (Made s) = Waits
held B (Asking s qp) = Waits
held B (LiveAtA s qp) = Waits
held A (LiveAtA s qp) = Lives
held x (LiveAtBoth s) = Lives
held x _ = Nothing

table-is : (x : Side) (stage : Stage) → (peer x (fabric_at stage)).table ≡ table_with (held x stage)
table-is A NoLink = refl
table-is A (Begun s) = refl
table-is A (Made s) = refl
table-is A (Asking s qp) = refl
table-is A (LiveAtA s qp) = refl
table-is A (LiveAtBoth s) = refl
table-is B NoLink = refl
table-is B (Begun s) = refl
table-is B (Made s) = refl
table-is B (Asking s qp) = refl
table-is B (LiveAtA s qp) = refl
table-is B (LiveAtBoth s) = refl

live-is : (x : Side) (stage : Stage) → is_live_at x stage ≡ lives (held x stage)
live-is A NoLink = refl
live-is A (Begun s) = refl
live-is A (Made s) = refl
live-is A (Asking s qp) = refl
live-is A (LiveAtA s qp) = refl
live-is A (LiveAtBoth s) = refl
live-is B NoLink = refl
live-is B (Begun s) = refl
live-is B (Made s) = refl
live-is B (Asking s qp) = refl
live-is B (LiveAtA s qp) = refl
live-is B (LiveAtBoth s) = refl

-- a link that is live stays so
abbrev Lasts : Held → Held → Type 0
Lasts from to = lives from ≡ true → lives to ≡ true

abbrev fate_if : Side → Bool → List Item
fate_if x b = if b then Fate x the_link LiveLink ∷ [] else []

abbrev comes_live : Held → Held → Bool
comes_live from to = not (lives from) && lives to

fates-by : (x : Side) (from to : Held) → Lasts from to → filter_map (fate_of x 1 (table_with from)) (table_with to) ≡ fate_if x (comes_live from to)
fates-by x Nothing Nothing l = refl
fates-by x Nothing Waits l = refl
fates-by x Nothing Lives l = refl
fates-by x Waits Nothing l = refl
fates-by x Waits Waits l = refl
fates-by x Waits Lives l = refl
fates-by x Lives Nothing l = absurd (true≢false (sym (l refl)))
fates-by x Lives Waits l = absurd (true≢false (sym (l refl)))
fates-by x Lives Lives l = refl

-- an end that knows these links
abbrev knows : ℕ → Held → Half
knows number t = record (fresh number) { live = live_links (table_with t) }

learns : (number : ℕ) (from to : Held) → Lasts from to → (if comes_live from to then meets_fate the_link LiveLink (knows number from) else knows number from) ≡ knows number to
learns number Nothing Nothing l = refl
learns number Nothing Waits l = refl
learns number Nothing Lives l = refl
learns number Waits Nothing l = refl
learns number Waits Waits l = refl
learns number Waits Lives l = refl
learns number Lives Nothing l = absurd (true≢false (sym (l refl)))
learns number Lives Waits l = absurd (true≢false (sym (l refl)))
learns number Lives Lives l = refl

-- what fates make of ends that are not up
down-rests : (depth : ℕ) (h : Half) → h.up ≡ false → settle depth h ≡ h
down-rests depth h e =
    ap (λ b. if (b && not (is_group_gone h.phase)) && (has_link h.link h.live && (nat_lt (length h.flight) depth && not (tells_same (present h) h.last))) then posts_batch h else h) e

module _ (t : Terms) (is : List Item) where
  abbrev EndAt : Side → Half
  EndAt x = half x (pipe t is)

  met-own : (x : Side) → (EndAt x).up ≡ false → half x (pipe t (Fate x the_link LiveLink ∷ is)) ≡ meets_fate the_link LiveLink (EndAt x)
  met-own A e = down-rests t.depth (meets_fate the_link LiveLink (half A (pipe t is))) e
  met-own B e = down-rests t.depth (meets_fate the_link LiveLink (half B (pipe t is))) e

  met-other : (x : Side) → half (other x) (pipe t (Fate x the_link LiveLink ∷ is)) ≡ EndAt (other x)
  met-other A = rests-still t B is
  met-other B = rests-still t A is

abbrev which : Side → Bool → Bool → Bool
which A a b = a
which B a b = b

abbrev met_if : Bool → Half → Half
met_if b h = if b then meets_fate the_link LiveLink h else h

with-fates : (t : Terms) (is : List Item) (a b : Bool) → (half A (pipe t is)).up ≡ false → (half B (pipe t is)).up ≡ false → (x : Side)
    → half x (pipe t (reverse (fate_if A a ++ fate_if B b) ++ is)) ≡ met_if (which x a b) (half x (pipe t is))
with-fates t is false false d e A = refl
with-fates t is false false d e B = refl
with-fates t is true false d e A = met-own t is A d
with-fates t is true false d e B = met-other t is A
with-fates t is false true d e A = met-other t is B
with-fates t is false true d e B = met-own t is B e
with-fates t is true true d e A = met-other t (Fate A the_link LiveLink ∷ is) B ∙ met-own t is A d
with-fates t is true true d e B =
    met-own t (Fate A the_link LiveLink ∷ is) B (ap (λ h. h.up) (met-other t is A) ∙ e) ∙ ap (λ h. meets_fate the_link LiveLink h) (met-other t is A)

-- no call reaches an end that is not up
if-false : {X : Type 0} (b : Bool) (x y : X) → b ≡ false → (if b then x else y) ≡ y
if-false true x y e = cc
if-false false x y e = refl

own-passes : (item : Item) (x : Side) (s : ℕ) (at : Option PostRef) (past : List Entry) → passes_by x item ≡ false → EachItem (passes_by x) (if_own item x s at past) → if_own item x s at past ≡ []
own-passes item x s None past n p = refl
own-passes item x s (Some at) past n p = by (is_own x s past at) p
  where
    by : (b : Bool) → EachItem (passes_by x) (if b then item ∷ [] else []) → (if b then item ∷ [] else []) ≡ []
    by true q = absurd (true≢false (sym q.0 ∙ n))
    by false q = refl

module _ (setup : Setup) (payload : List ℕ) (s : ℕ) (past : List Entry) (down : (x : Side) → is_up x s past ≡ false) where
  no-call : (end : End) (b : Bool) (items : List Item) → (if b && is_up end.side s past then items else []) ≡ []
  no-call end b items = if-false (b && is_up end.side s past) items [] (ap (λ u. b && u) (down end.side) ∙ and-false b)

  stays-none : (event : Event) (reply : Reply) → Fits setup (length payload) event → EachItem (passes_by A) (deeds payload s event reply past) → EachItem (passes_by B) (deeds payload s event reply past) → deeds payload s event reply past ≡ []
  stays-none (Write end at len) reply b p q = no-call end (s == end.s) (Calls end.side (Writes (take len (drop at payload))) ∷ [])
  stays-none (Read end len) reply b p q = no-call end (s == end.s) (Calls end.side (Reads len) ∷ [])
  stays-none (Open r) reply b p q = refl
  stays-none (Clc r dir) reply b p q = refl
  stays-none (Deliver slot A) reply b p q = own-passes (Lands A) A s (landed_at slot A reply past) past refl p
  stays-none (Deliver slot B) reply b p q = own-passes (Lands B) B s (landed_at slot B reply past) past refl q
  stays-none (Complete slot A) reply b p q = own-passes (Completes A) A s (completed_at reply) past refl p
  stays-none (Complete slot B) reply b p q = own-passes (Completes B) B s (completed_at reply) past refl q
  stays-none _ reply b p q = absurd b

none-first : (o : Option CdcMessage) (ms : List CdcMessage) → cons_option o ms ≡ [] → o ≡ None
none-first None ms f = refl
none-first (Some m) ms f = absurd (true≢false (ap (λ ns. is_some (head ns)) f))

module _ (setup : Setup) (one : IsOneLink setup) (payload : List ℕ) where
  abbrev T : Terms
  T = terms_of setup

  module _ (e : Entry) (past : List Entry) (n : ℕ) (p : IsPlayed setup payload (e ∷ past) n) (s : ℕ) (down : (x : Side) → is_up x s past ≡ false)
      (as_made : (x : Side) → (t : Held) × (half x (pipe T (part payload 1 s past)) ≡ knows setup.number t)) where
    agree : Agree setup payload past
    agree = agrees setup payload past p.0 p.3 (shaken setup one payload past p.0 p.3)

    carries-none : (x : Side) (o : Offered) → offered (other x) s past ≡ Some o → (cdcs x o.offer.token (unlanded the_link x past) ≡ []) × (cdcs x o.offer.token (uncompleted the_link x past) ≡ [])
    carries-none x o f =
        let c = agree.carried x s o f in
        let k = as_made x in (
          c.landing ∙ ap (λ h. map (message (element_size setup) o.offer.token) (to_land h)) k.1,
          c.completing ∙ ap (λ h. map (message (element_size setup) o.offer.token) (returning h)) k.1,
        )

    not-own : (x : Side) (token : ℕ) (c : Placed) (rest : List Placed) → cdcs x token (c ∷ rest) ≡ [] → IsOrNot x token c.post → is_cdc x token c.post ≡ false
    not-own x token c rest none (IsNot i n) = i
    not-own x token c rest none (Is m i n) = let z : None ≡ Some m = sym (none-first (cdc_under x token c.post) (cdcs x token rest) none) ∙ n in cc

    lands-none : (x : Side) (l : LandsNow the_link x e past) (o : Option Offered) → offered (other x) s past ≡ o → if_own (Lands x) x s (Some l.first.at) past ≡ []
    lands-none x l None f = own-none (Lands x) x s (Some l.first.at) past f
    lands-none x l (Some o) f =
        let place = first-stands past (unlanded the_link x past) l.first l.rest (unlanded-stand the_link x past) l.waiting in
        let c = carries-none x o f in
        own-some (Lands x) x s l.first.at past o l.first.post f place
        ∙ ap (λ b. if b then Lands x ∷ [] else []) (not-own x o.offer.token l.first l.rest (ap (λ ps. cdcs x o.offer.token ps) (sym l.waiting) ∙ c.0) (is-or-not x o.offer.token l.first.post))

    completes-none : (x : Side) (l : CompletesNow the_link x e past) (o : Option Offered) → offered (other x) s past ≡ o → if_own (Completes x) x s (Some l.first.at) past ≡ []
    completes-none x l None f = own-none (Completes x) x s (Some l.first.at) past f
    completes-none x l (Some o) f =
        let place = first-stands past (uncompleted the_link x past) l.first l.rest (uncompleted-stand the_link x past) l.waiting in
        let c = carries-none x o f in
        own-some (Completes x) x s l.first.at past o l.first.post f place
        ∙ ap (λ b. if b then Completes x ∷ [] else []) (not-own x o.offer.token l.first l.rest (ap (λ ps. cdcs x o.offer.token ps) (sym l.waiting) ∙ c.1) (is-or-not x o.offer.token l.first.post))

    by-ways : Way payload the_link A e past → Way payload the_link B e past → deeds payload s e.event e.reply past ≡ []
    by-ways (inr (inl w)) v = w.1 s ∙ lands-none A w.0 (offered B s past) refl
    by-ways (inr (inr w)) v = w.1 s ∙ completes-none A w.0 (offered B s past) refl
    by-ways (inl w) (inr (inl v)) = v.1 s ∙ lands-none B v.0 (offered A s past) refl
    by-ways (inl w) (inr (inr v)) = v.1 s ∙ completes-none B v.0 (offered A s past) refl
    by-ways (inl w) (inl v) = let m = p.1 in stays-none setup payload s past down e.event e.reply m.built (w.1 s) (v.1 s)

    gives : GivesItems setup payload p.0 e past
    gives = gives-items setup one payload e past n p

    no-deeds : deeds payload s e.event e.reply past ≡ []
    no-deeds = by-ways (gives.way A) (gives.way B)

    -- the items are fates alone
    only-fates : is_up A s (e ∷ past) ≡ false → is_up B s (e ∷ past) ≡ false → items payload 1 s e past ≡ reverse (fates A 1 e past ++ fates B 1 e past)
    only-fates a b =
        gives.items_are s
        ∙ (ap (λ (ds : List Item). ds ++ (reverse (ups A s e past ++ ups B s e past) ++ reverse (fates A 1 e past ++ fates B 1 e past))) no-deeds
        ∙ (ap (λ (us : List Item). reverse (us ++ ups B s e past) ++ reverse (fates A 1 e past ++ fates B 1 e past)) (no-up A a)
        ∙ ap (λ (us : List Item). reverse us ++ reverse (fates A 1 e past ++ fates B 1 e past)) (no-up B b)))
      where
        none : (x : Side) (o : Option LinkId) (b : Bool) → (is_some o || b) ≡ false → option_to_list (option_map (Up x) o) ≡ []
        none x None b f = refl
        none x (Some link) b f = absurd (true≢false f)

        no-up : (x : Side) → is_up x s (e ∷ past) ≡ false → ups x s e past ≡ []
        no-up x f = none x (comes_up_with x s e past) (is_up x s past) f

-- where the link is live at a side, an end there is up
own-step : (t n : ℕ) (k : Socket) (q : Bool) → (if t == t then first_step k == n else q) ≡ true → (first_step k == n) ≡ true
own-step t n k q e = sym (ap (λ b. if b then first_step k == n else q) (eq-eqb t t refl)) ∙ e

four : (k : Socket) → (first_step k == 4) ≡ true → up_at k A ≡ true
four (FirstUpAtA o p) e = refl
four _ e = absurd (true≢false (sym e))

five : (k : Socket) (x : Side) → (first_step k == 5) ≡ true → up_at k x ≡ true
five (FirstUp o p) x e = refl
five _ x e = absurd (true≢false (sym e))

live-has-up : (stage : Stage) (x : Side) → is_live_at x stage ≡ true → (t : ℕ) × ((k : Socket) → suits stage t k ≡ true → up_at k x ≡ true)
live-has-up (LiveAtA t qp) A e = (t, λ k f. four k (own-step t 4 k (is_unoffered k) f))
live-has-up (LiveAtBoth t) A e = (t, λ k f. five k A (own-step t 5 k (first_step k == 0) f))
live-has-up (LiveAtBoth t) B e = (t, λ k f. five k B (own-step t 5 k (first_step k == 0) f))
live-has-up _ A e = absurd (true≢false (sym e))
live-has-up _ B e = absurd (true≢false (sym e))

live-lasts : (setup : Setup) (from to : Stage) (e : Entry) (past : List Entry) → IsWorld setup from past → IsWorld setup to (e ∷ past) → (x : Side) → Lasts (held x from) (held x to)
live-lasts setup from to e past was now x l =
    let h = live-has-up from x (live-is x from ∙ l) in
    let k = was.sockets h.0 in
    let at = k.stands in
    let up : is_up x h.0 past ≡ true = at.up x ∙ h.1 k.at k.suits_is in
    sym (live-is x to) ∙ live-where-up setup to (e ∷ past) now x h.0 (ap (λ b. is_some (comes_up_with x h.0 e past) || b) up ∙ or-true (is_some (comes_up_with x h.0 e past)))
  where
    or-true : (b : Bool) → (b || true) ≡ true
    or-true true = refl
    or-true false = refl

module _ (setup : Setup) (one : IsOneLink setup) (payload : List ℕ) where
  table-now : (stage : Stage) (past : List Entry) → IsWorld setup stage past → (x : Side) → table_of x past ≡ table_with (held x stage)
  table-now stage past w x = let l = w.link in ap (λ (f : Fabric). (peer x f).table) l.fabric_is ∙ table-is x stage

  known-of : (number : ℕ) (ks : List Known) (t : Held) → ks ≡ table_with t → record (fresh number) { live = live_links ks } ≡ knows number t
  known-of number ks t e = ap (λ (ks : List Known). let h : Half = record (fresh number) { live = live_links ks } in h) e

  -- an end is as it was made, where neither end is up
  pub fresh-ends : (past : List Entry) (n : ℕ) → IsPlayed setup payload past n → (s : ℕ) → is_up A s past ≡ false → is_up B s past ≡ false
      → (x : Side) → half x (pipe_of setup payload 1 s past) ≡ record (fresh setup.number) { live = live_links (table_of x past) }
  fresh-ends [] n p s a b A = refl
  fresh-ends [] n p s a b B = refl
  fresh-ends (e ∷ past) n p s a b x =
      step (has-world setup one payload past p.0 p.3) (has-world setup one payload (e ∷ past) n p)
      (λ y. fresh-ends past p.0 p.3 s (before A a) (before B b) y)
    where
      or-none : (a b : Bool) → (a || b) ≡ false → b ≡ false
      or-none true b f = absurd (true≢false f)
      or-none false b f = f

      before : (y : Side) → is_up y s (e ∷ past) ≡ false → is_up y s past ≡ false
      before y f = or-none (is_some (comes_up_with y s e past)) (is_up y s past) f

      step : HasWorld setup past → HasWorld setup (e ∷ past) → ((y : Side) → half y (pipe_of setup payload 1 s past) ≡ record (fresh setup.number) { live = live_links (table_of y past) })
          → half x (pipe_of setup payload 1 s (e ∷ past)) ≡ record (fresh setup.number) { live = live_links (table_of x (e ∷ past)) }
      step was now rest =
          let from : Stage = was.stage in
          let to : Stage = now.stage in
          let as_made : (y : Side) → half y (pipe_of setup payload 1 s past) ≡ knows setup.number (held y from) = λ y. rest y ∙ known-of setup.number (table_of y past) (held y from) (table-now from past was.world y) in
          let lasts = live-lasts setup from to e past was.world now.world in
          let fate : (y : Side) → fates y 1 e past ≡ fate_if y (comes_live (held y from) (held y to)) = λ y.
          ap (λ (ks : List Known). filter_map (fate_of y 1 ks) (table_of y (e ∷ past))) (table-now from past was.world y)
          ∙ (ap (λ (ks : List Known). filter_map (fate_of y 1 (table_with (held y from))) ks) (table-now to (e ∷ past) now.world y) ∙ fates-by y (held y from) (held y to) (lasts y)) in
          let its = only-fates setup one payload e past n p s (by-side (λ y. is_up y s past ≡ false) (before A a) (before B b)) (λ y. (held y from, as_made y)) a b in
          let up : (y : Side) → (half y (pipe_of setup payload 1 s past)).up ≡ false = λ y. ap (λ h. h.up) (as_made y) in
          ap (λ (is : List Item). half x (pipe (terms_of setup) (is ++ part payload 1 s past))) its
          ∙ (ap (λ (fs : List Item). half x (pipe (terms_of setup) (reverse (fs ++ fates B 1 e past) ++ part payload 1 s past))) (fate A)
          ∙ (ap (λ (fs : List Item). half x (pipe (terms_of setup) (reverse (fate_if A (comes_live (held A from) (held A to)) ++ fs) ++ part payload 1 s past))) (fate B)
          ∙ (with-fates (terms_of setup) (part payload 1 s past) (comes_live (held A from) (held A to)) (comes_live (held B from) (held B to)) (up A) (up B) x
          ∙ (ap (λ b. met_if b (half x (pipe_of setup payload 1 s past))) (by-side (λ y. which y (comes_live (held A from) (held A to)) (comes_live (held B from) (held B to)) ≡ comes_live (held y from) (held y to)) refl refl x)
          ∙ (ap (λ h. met_if (comes_live (held x from) (held x to)) h) (as_made x)
          ∙ (learns setup.number (held x from) (held x to) (lasts x) ∙ sym (known-of setup.number (table_of x (e ∷ past)) (held x to) (table-now to (e ∷ past) now.world x))))))))
