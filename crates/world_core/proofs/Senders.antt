-- What an end posts with an entry: nothing, where it neither calls nor has a message completed, and one message at most else.
use Rattle.std.proofs.Common.{◌≡◌, ◌∙◌, ◌==◌, ℕ, ◌+◌, ◌≤◌, Bool, true, false, not, if◌then◌else◌, List, [], ◌∷◌, ◌++◌, length, take, drop, reverse, refl, ap, sym, subst, ◌||◌, ◌&&◌, true≢false, arith, append_assoc}
use Rattle.std.specs.Prelude.{Option, Some, None, option_map, option_to_list}
use Rattle.smc_num.specs.declared.Side.{Side}
use Rattle.smc_num.specs.declared.Side.TheVariants.{A, B}
use Rattle.smc_num.specs.declared.LinkId.{LinkId}
use Rattle.smc_num.specs.Names.{same_side}
use Rattle.pipe_model.specs.declared.setup.Setup.{Setup}
use Rattle.pipe_model.specs.declared.event.Event.{Event}
use Rattle.pipe_model.specs.declared.event.End.{End}
use Rattle.pipe_model.specs.declared.event.Event.TheVariants.{Open, Write, Read, Clc, Deliver, Complete}
use Rattle.pipe_model.specs.declared.reply.Reply.{Reply}
use Rattle.pipe_model.specs.declared.post.PostRef.{PostRef}
use Rattle.pipe_model.specs.declared.entry.Entry.{Entry}
use Rattle.pipe_model.specs.Words.{passes}
use Rattle.pipe_model.specs.Ends.{Half}
use Rattle.pipe_model.specs.Calls.{Call, Writes, Reads}
use Rattle.pipe_model.specs.Pipe.{Pipe, Terms, Item, Fate, GroupEnd, Up, Calls, Lands, Completes, half, pipe, apply}
use Rattle.pipe_model.specs.Connections.{is_up, call_on, is_own, if_own, deeds, items, part, landed_at, completed_at}
use Rattle.pipe_model.specs.Fits.{Fits}
use Rattle.world_core.specs.Played.{IsPlayed}
use Rattle.world_core.specs.OneLink.{the_link}
use Rattle.world_core.specs.Wired.{EachItem, keeps_open}
use Rattle.world_core.specs.Agreement.{GoesOn, IsShaken}
use Rattle.world_core.proofs.Idle.{same-fate, same-call, same-takes, same-completes}
use Rattle.world_core.proofs.EntryItems.{items-are, below, below-calm, is_fate_or_up}
use Rattle.world_core.proofs.UpEnds.{pipe-is-up, news-up, raised}
use Rattle.world_core.proofs.Quiet.{all-spared, landing-quiet, again-quiet, new-quiet, one-more, IsCallUp, AreCallsUp}
use Rattle.world_core.proofs.Halves.{at-half}

-- what an entry makes a connection do is one thing at most
pub data DeedsAre (ds : List Item) : Type 0 where
  Nothing : ds ≡ [] → DeedsAre ds
  Landing : (y : Side) → ds ≡ Lands y ∷ [] → DeedsAre ds
  Calling : (y : Side) (call : Call) → ds ≡ Calls y call ∷ [] → DeedsAre ds
  Completing : (y : Side) → ds ≡ Completes y ∷ [] → DeedsAre ds

call-are : (end : End) (call : Call) (s : ℕ) (past : List Entry) → DeedsAre (call_on end call s past)
call-are end call s past = by ((s == end.s) && is_up end.side s past)
  where
    by : (b : Bool) → DeedsAre (if b then Calls end.side call ∷ [] else [])
    by true = Calling end.side call refl
    by false = Nothing refl

lands-are : (y : Side) (s : ℕ) (at : Option PostRef) (past : List Entry) → DeedsAre (if_own (Lands y) y s at past)
lands-are y s at past = by (passes (is_own y s past) at)
  where
    by : (b : Bool) → DeedsAre (if b then Lands y ∷ [] else [])
    by true = Landing y refl
    by false = Nothing refl

completes-are : (y : Side) (s : ℕ) (at : Option PostRef) (past : List Entry) → DeedsAre (if_own (Completes y) y s at past)
completes-are y s at past = by (passes (is_own y s past) at)
  where
    by : (b : Bool) → DeedsAre (if b then Completes y ∷ [] else [])
    by true = Completing y refl
    by false = Nothing refl

pub deeds-are : (setup : Setup) (payload : List ℕ) (s : ℕ) (event : Event) (reply : Reply) (past : List Entry) → Fits setup (length payload) event → DeedsAre (deeds payload s event reply past)
deeds-are setup payload s (Open t) reply past b = Nothing refl
deeds-are setup payload s (Clc t dir) reply past b = Nothing refl
deeds-are setup payload s (Write end at len) reply past b = call-are end (Writes (take len (drop at payload))) s past
deeds-are setup payload s (Read end len) reply past b = call-are end (Reads len) s past
deeds-are setup payload s (Deliver slot dir) reply past b = lands-are dir s (landed_at slot dir reply past) past
deeds-are setup payload s (Complete slot dir) reply past b = completes-are dir s (completed_at reply) past
deeds-are setup payload s _ reply past b = absurd b

-- an item with which the end at a side posts nothing
abbrev pub rests : Side → Item → Bool
rests x (Calls y call) = not (same_side x y)
rests x (Completes y) = not (same_side x y)
rests x _ = true

pub apply-sent : (size : ℕ) (x : Side) (item : Item) (p : Pipe) → keeps_open item ≡ true → (half x (apply size item p)).sent ≡ (half x p).sent
apply-sent size = at-half size (λ x item h k. keeps_open item ≡ true → k.sent ≡ h.sent) (record {
  fate = λ x link phase h o. let s = same-fate link phase h in s.2;
  gone = λ x h o. absurd (true≢false (sym o));
  up = λ x link h o. refl;
  call = λ x call h o. let s = same-call size call h o in s.2;
  land = λ x h o. refl;
  take = λ x m h o. let s = same-takes m h in s.2;
  complete = λ x m h o. let s = same-completes m h in s.2;
  rest = λ x item h o. refl;
})

module _ (t : Terms) (x : Side) (items : List Item) where
  abbrev Before : Half
  Before = half x (pipe t items)

  pub deeds-rest : (ds : List Item) → DeedsAre ds → EachItem (rests x) ds → EachItem keeps_open items → (half x (pipe t (ds ++ items))).sent ≡ Before.sent
  deeds-rest ds (Nothing e) r k = ap (λ is. (half x (pipe t (is ++ items))).sent) e
  deeds-rest ds (Landing y e) r k = ap (λ is. (half x (pipe t (is ++ items))).sent) e ∙ landing-quiet t x y items k
  deeds-rest ds (Calling y call e) r k =
      let q = subst (λ is. EachItem (rests x) is) e r in
      ap (λ is. (half x (pipe t (is ++ items))).sent) e ∙ ap (λ (h : Half). h.sent) (all-spared t x (Calls y call ∷ []) items q)
  deeds-rest ds (Completing y e) r k =
      let q = subst (λ is. EachItem (rests x) is) e r in
      ap (λ is. (half x (pipe t (is ++ items))).sent) e ∙ ap (λ (h : Half). h.sent) (all-spared t x (Completes y ∷ []) items q)

  one : (item : Item) → keeps_open item ≡ true → length (half x (pipe t (item ∷ items))).sent ≤ length Before.sent + 1
  one item k = one-more t x item items (apply-sent t.size x item (pipe t items) k)

  pub deeds-one : (ds : List Item) → DeedsAre ds → EachItem keeps_open ds → length (half x (pipe t (ds ++ items))).sent ≤ length Before.sent + 1
  deeds-one ds (Nothing e) k = subst (λ is. length (half x (pipe t (is ++ items))).sent ≤ length Before.sent + 1) (sym e) (omega arith)
  deeds-one ds (Landing y e) k = subst (λ is. length (half x (pipe t (is ++ items))).sent ≤ length Before.sent + 1) (sym e) (one (Lands y) refl)
  deeds-one ds (Calling y call e) k = let q = subst (λ is. EachItem keeps_open is) e k in subst (λ is. length (half x (pipe t (is ++ items))).sent ≤ length Before.sent + 1) (sym e) (one (Calls y call) q.0)
  deeds-one ds (Completing y e) k = subst (λ is. length (half x (pipe t (is ++ items))).sent ≤ length Before.sent + 1) (sym e) (one (Completes y) refl)

-- establishments
abbrev pub UpList : Option LinkId → Option LinkId → List Item
UpList a b = reverse (option_to_list (option_map (Up A) a) ++ option_to_list (option_map (Up B) b))

module _ (t : Terms) (items : List Item) where
  pub again : (x : Side) (a b : Option LinkId) → ((l : LinkId) → a ≡ Some l → l ≡ the_link) → ((l : LinkId) → b ≡ Some l → l ≡ the_link) → (half x (pipe t items)).up ≡ true → (half x (pipe t items)).link ≡ the_link →
      (half x (pipe t (UpList a b ++ items))).sent ≡ (half x (pipe t items)).sent
  again x None None f g u l = refl
  again A None (Some k) f g u l = ap (λ (h : Half). h.sent) (all-spared t A (Up B k ∷ []) items (refl, tt))
  again B None (Some k) f g u l = again-quiet t B k items u (l ∙ sym (g k refl))
  again A (Some j) None f g u l = again-quiet t A j items u (l ∙ sym (f j refl))
  again B (Some j) None f g u l = ap (λ (h : Half). h.sent) (all-spared t B (Up A j ∷ []) items (refl, tt))
  again A (Some j) (Some k) f g u l = ap (λ (h : Half). h.sent) (all-spared t A (Up B k ∷ []) (Up A j ∷ items) (refl, tt)) ∙ again-quiet t A j items u (l ∙ sym (f j refl))
  again B (Some j) (Some k) f g u l =
      let s = all-spared t B (Up A j ∷ []) items (refl, tt) in
      again-quiet t B k (Up A j ∷ items) (ap (λ (h : Half). h.up) s ∙ u) (ap (λ (h : Half). h.link) s ∙ l ∙ sym (g k refl)) ∙ ap (λ (h : Half). h.sent) s

  pub anew : (x : Side) (a b : Option LinkId) → EachItem keeps_open items → AreCallsUp t items → (half x (pipe t items)).up ≡ false → (half x (pipe t (UpList a b ++ items))).sent ≡ (half x (pipe t items)).sent
  anew x None None k c u = refl
  anew A None (Some j) k c u = ap (λ (h : Half). h.sent) (all-spared t A (Up B j ∷ []) items (refl, tt))
  anew B None (Some j) k c u = new-quiet t B j items k c u
  anew A (Some i) None k c u = new-quiet t A i items k c u
  anew B (Some i) None k c u = ap (λ (h : Half). h.sent) (all-spared t B (Up A i ∷ []) items (refl, tt))
  anew A (Some i) (Some j) k c u = ap (λ (h : Half). h.sent) (all-spared t A (Up B j ∷ []) (Up A i ∷ items) (refl, tt)) ∙ new-quiet t A i items k c u
  anew B (Some i) (Some j) k c u =
      let s = all-spared t B (Up A i ∷ []) items (refl, tt) in
      new-quiet t B j (Up A i ∷ items) (refl, k) (tt, c) (ap (λ (h : Half). h.up) s ∙ u) ∙ ap (λ (h : Half). h.sent) s

-- calls are made on ends that are up
pub calm-calls : (t : Terms) (news items : List Item) → EachItem is_fate_or_up news → AreCallsUp t items → AreCallsUp t (news ++ items)
calm-calls t [] items p c = c
calm-calls t (Fate x link phase ∷ news) items p c = (tt, calm-calls t news items p.1 c)
calm-calls t (Up x link ∷ news) items p c = (tt, calm-calls t news items p.1 c)
calm-calls t (GroupEnd x ∷ news) items p c = absurd (true≢false (sym p.0))
calm-calls t (Calls x call ∷ news) items p c = absurd (true≢false (sym p.0))
calm-calls t (Lands x ∷ news) items p c = absurd (true≢false (sym p.0))
calm-calls t (Completes x ∷ news) items p c = absurd (true≢false (sym p.0))

call-up : (t : Terms) (end : End) (call : Call) (s : ℕ) (past : List Entry) (items : List Item) → (is_up end.side s past ≡ true → (half end.side (pipe t items)).up ≡ true) → AreCallsUp t items → AreCallsUp t (call_on end call s past ++ items)
call-up t end call s past items f c = by (s == end.s) (is_up end.side s past) refl
  where
    by : (b u : Bool) → is_up end.side s past ≡ u → AreCallsUp t ((if b && u then Calls end.side call ∷ [] else []) ++ items)
    by true true e = (f e, c)
    by true false e = c
    by false u e = c

own-calls : (t : Terms) (item : Item) (y : Side) (s : ℕ) (at : Option PostRef) (past : List Entry) (items : List Item) → IsCallUp item (pipe t items) → AreCallsUp t items → AreCallsUp t (if_own item y s at past ++ items)
own-calls t item y s at past items i c = by (passes (is_own y s past) at)
  where
    by : (b : Bool) → AreCallsUp t ((if b then item ∷ [] else []) ++ items)
    by true = (i, c)
    by false = c

deeds-calls : (setup : Setup) (payload : List ℕ) (t : Terms) (s : ℕ) (event : Event) (reply : Reply) (past : List Entry) (items : List Item) → Fits setup (length payload) event → ((x : Side) → is_up x s past ≡ true → (half x (pipe t items)).up ≡ true) → AreCallsUp t items →
    AreCallsUp t (deeds payload s event reply past ++ items)
deeds-calls setup payload t s (Open r) reply past items b f c = c
deeds-calls setup payload t s (Clc r dir) reply past items b f c = c
deeds-calls setup payload t s (Write end at len) reply past items b f c = call-up t end (Writes (take len (drop at payload))) s past items (f end.side) c
deeds-calls setup payload t s (Read end len) reply past items b f c = call-up t end (Reads len) s past items (f end.side) c
deeds-calls setup payload t s (Deliver slot dir) reply past items b f c = own-calls t (Lands dir) dir s (landed_at slot dir reply past) past items tt c
deeds-calls setup payload t s (Complete slot dir) reply past items b f c = own-calls t (Completes dir) dir s (completed_at reply) past items tt c
deeds-calls setup payload t s _ reply past items b f c = absurd b

or-true : (a : Bool) → (a || true) ≡ true
or-true true = refl
or-true false = refl

module _ (setup : Setup) (payload : List ℕ) (t : Terms) where
  -- an end of the pipe is up below the deeds too
  up-below : (x : Side) (g s : ℕ) (e : Entry) (past : List Entry) (n : ℕ) → IsPlayed setup payload past n → IsShaken setup past → GoesOn e past → is_up x s past ≡ true → (half x (pipe t (below g s e past ++ part payload g s past))).up ≡ true
  up-below x g s e past n p h go u =
      news-up t x (below g s e past) (part payload g s past) ∙
      ap (λ b. raised x (below g s e past) || b) (pipe-is-up t x payload g s past ∙ u) ∙ or-true (raised x (below g s e past))

  pub calls-up : (g s : ℕ) (past : List Entry) (n : ℕ) → IsPlayed setup payload past n → IsShaken setup past → AreCallsUp t (part payload g s past)
  calls-up g s [] n p h = tt
  calls-up g s (e ∷ past) n p h =
      let m = p.1 in
      let q = h.1 in
      let r = q.1 in
      let c = calm-calls t (below g s e past) (part payload g s past) (below-calm g s e past r.0) (calls-up g s past p.0 p.3 r.1) in
      let d = deeds-calls setup payload t s e.event e.reply past (below g s e past ++ part payload g s past) m.built (λ x u. up-below x g s e past p.0 p.3 r.1 r.0 u) c in
      subst (λ is. AreCallsUp t is) (sym (ap (λ is. is ++ part payload g s past) (items-are payload g s e past) ∙ append_assoc (deeds payload s e.event e.reply past) (below g s e past) (part payload g s past))) d
