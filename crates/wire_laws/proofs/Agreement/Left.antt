-- An end that is up is on a link that is live at its side or was lost there; so one that may move is on a lost one.
use Rattle.std.proofs.Common.{Bool, List, [], ap, append-nil, append_assoc, false, inl, inr, not, refl, reverse, subst, sym, true, true≢false, ℕ, ◌&&◌, ◌++◌, ◌||◌, ◌∙◌, ◌∷◌, ◌≡◌, ◌⊎◌}
use Rattle.std.specs.Prelude.{None, Option, Some, is_some, option_map, option_to_list, unwrap_or}
use Rattle.pipe_model.specs.Pipe.{Lands}
use Rattle.pipe_model.specs.Connections.{comes_up}
use Rattle.pipe_model.specs.Closing.{may_move}
use Rattle.pipe_model.specs.Calls.{Moves}
use Rattle.history_laws.specs.Words.{A, B, Calls, Completes, Entry, Fate, GroupEnd, Half, Item, LinkId, Pipe, Setup, Side, Terms, Up, apply, deeds, fates, group_end, group_on, half, has_link, head, is_due, is_due_for_move, is_up, live_links, lowest_link, part, pipe, pipe_of, posts_batch, same_side, settle, step, table_of, terms_of, ups}
use Rattle.history_laws.specs.Items.{EachItem}
use Rattle.history_laws.proofs.Items.{AllStayOn, Deed, MoveDeed, MovesOff, NoDeed, Sends, Shape, all-ends, all-fates, below, deed-stays, is_below, moves-step, of-side-is, pipe-is-up, sends-step, shape}
use Rattle.history_laws.proofs.Basics.{by-bool, either, none-is, not-true, of_side, or-true, same-is, same-link, some-is}
use Rattle.history_laws.specs.Made.{IsMade}
use Rattle.link_laws.specs.Lasting.{IsLiveOrLost, is_lost}
use Rattle.lending_laws.specs.Ends.{HasLive, LivesOn, OffersGoOn}
use Rattle.wire_laws.specs.Agreement.{OwedToAgreement}
use Rattle.wire_laws.proofs.Agreement.Ends.{Mid, Now, Then, below-stay, none-sends, one-sends, then-none, then-one}

-- the link of the newest establishment of an end among some news
abbrev or_up : Bool → LinkId → Option LinkId → Option LinkId
or_up true link o = Some link
or_up false link o = o

abbrev pub upped : Side → List Item → Option LinkId
upped x [] = None
upped x (Up y link ∷ is) = or_up (same_side x y) link (upped x is)
upped x (item ∷ is) = upped x is

below-upped : (x : Side) (is js : List Item) → EachItem is_below is → upped x (is ++ js) ≡ upped x js
below-upped x [] js p = refl
below-upped x (Fate y l phase ∷ is) js p = below-upped x is js p.1
below-upped x (GroupEnd y ∷ is) js p = below-upped x is js p.1
below-upped x (Up y l ∷ is) js p = absurd (true≢false (sym p.0))
below-upped x (Calls y call ∷ is) js p = below-upped x is js p.1
below-upped x (Lands y ∷ is) js p = below-upped x is js p.1
below-upped x (Completes y ∷ is) js p = below-upped x is js p.1

ups-upped : (x : Side) (a b : Option LinkId) (js : List Item) → upped x js ≡ None → upped x (reverse (option_to_list (option_map (Up A) a) ++ option_to_list (option_map (Up B) b)) ++ js) ≡ of_side x a b
ups-upped A None None js e = e
ups-upped A (Some l) None js e = refl
ups-upped A None (Some k) js e = e
ups-upped A (Some l) (Some k) js e = refl
ups-upped B None None js e = e
ups-upped B (Some l) None js e = e
ups-upped B None (Some k) js e = refl
ups-upped B (Some l) (Some k) js e = refl

all-below : (is : List Item) (x : Side) → EachItem is_below is → upped x is ≡ None
all-below [] x p = refl
all-below (Fate y l phase ∷ is) x p = all-below is x p.1
all-below (GroupEnd y ∷ is) x p = all-below is x p.1
all-below (Up y l ∷ is) x p = absurd (true≢false (sym p.0))
all-below (Calls y call ∷ is) x p = all-below is x p.1
all-below (Lands y ∷ is) x p = all-below is x p.1
all-below (Completes y ∷ is) x p = all-below is x p.1

pub upped-below : (x : Side) (group s : ℕ) (e : Entry) (past : List Entry) → upped x (below group s e past) ≡ comes_up x s e past
upped-below x group s e past =
    let us : List Item = reverse (ups A s e past ++ ups B s e past) in
    let gs : List Item = reverse (group_end A group e past ++ group_end B group e past) in
    let fs : List Item = reverse (fates A group e past ++ fates B group e past) in
    ap (λ is. upped x is) (append_assoc us gs fs) ∙
    (ups-upped x (comes_up A s e past) (comes_up B s e past) (gs ++ fs) (below-upped x gs fs (all-ends group e past) ∙ all-below fs x (all-fates group e past)) ∙ of-side-is x s e past)

-- an end that comes up among some news is up on that link
settle-kept : (depth : ℕ) (k : Half) → ((settle depth k).link ≡ k.link) × ((settle depth k).up ≡ k.up)
settle-kept depth k = either (λ j. (j.link ≡ k.link) × (j.up ≡ k.up)) (posts_batch k) k (is_due depth k) (refl, refl) (refl, refl)

abbrev IsUpOn : LinkId → Half → Type 0
IsUpOn link h = (h.link ≡ link) × (h.up ≡ true)

up-on : (t : Terms) (x : Side) (link : LinkId) (p : Pipe) → IsUpOn link (half x (step t (Up x link) p))
up-on t A link p = settle-kept t.depth (apply t.size (Up A link) p).a
up-on t B link p = settle-kept t.depth (apply t.size (Up B link) p).b

stays-up-on : (h k : Half) (link : LinkId) → Sends h k → IsUpOn link h → IsUpOn link k
stays-up-on h k link p u = (p.same u.1 ∙ u.0, p.up u.1)

pub comes-on : (t : Terms) (x : Side) (link : LinkId) (news items : List Item) → AllStayOn t x news items → upped x news ≡ Some link → IsUpOn link (half x (pipe t (news ++ items)))
comes-on t x link [] items s e = absurd (none-is link e)
comes-on t x link (Up y l ∷ news) items s e = by (same_side x y) refl e (λ f. comes-on t x link news items s.1 f)
  where
    by : (b : Bool) → same_side x y ≡ b → or_up b l (upped x news) ≡ Some link → (upped x news ≡ Some link → IsUpOn link (half x (pipe t (news ++ items)))) → IsUpOn link (half x (step t (Up y l) (pipe t (news ++ items))))
    by true i f rest = subst (λ z. IsUpOn link (half x (step t (Up z l) (pipe t (news ++ items))))) (same-is x y i) (subst (λ k. IsUpOn k (half x (step t (Up x l) (pipe t (news ++ items))))) (some-is l link f) (up-on t x l (pipe t (news ++ items))))
    by false i f rest = stays-up-on _ _ link (sends-step t x (Up y l) (pipe t (news ++ items)) s.0) (rest f)
comes-on t x link (Fate y l phase ∷ news) items s e = stays-up-on _ _ link (sends-step t x (Fate y l phase) (pipe t (news ++ items)) s.0) (comes-on t x link news items s.1 e)
comes-on t x link (GroupEnd y ∷ news) items s e = stays-up-on _ _ link (sends-step t x (GroupEnd y) (pipe t (news ++ items)) s.0) (comes-on t x link news items s.1 e)
comes-on t x link (Calls y call ∷ news) items s e = stays-up-on _ _ link (sends-step t x (Calls y call) (pipe t (news ++ items)) s.0) (comes-on t x link news items s.1 e)
comes-on t x link (Lands y ∷ news) items s e = stays-up-on _ _ link (sends-step t x (Lands y) (pipe t (news ++ items)) s.0) (comes-on t x link news items s.1 e)
comes-on t x link (Completes y ∷ news) items s e = stays-up-on _ _ link (sends-step t x (Completes y) (pipe t (news ++ items)) s.0) (comes-on t x link news items s.1 e)

-- what the due of a move says
due-is : (up stood not_there may : Bool) → ((up && stood) && (not_there && may)) ≡ true → (up ≡ true) × ((stood ≡ true) × (not_there ≡ true))
due-is true true true true e = (refl, (refl, refl))
due-is true true true false e = absurd (true≢false (sym e))
due-is true true false may e = absurd (true≢false (sym e))
due-is true false n may e = absurd (true≢false (sym e))
due-is false stood n may e = absurd (true≢false (sym e))

pub due-of : (h : Half) → is_due_for_move h ≡ true → (h.up ≡ true) × ((h.stands ≡ true) × (has_link h.link h.live ≡ false))
due-of h e = let q = due-is h.up h.stands (not (has_link h.link h.live)) (may_move h.phase) e in let r = q.1 in (q.0, (r.0, not-true (has_link h.link h.live) r.1))

-- an end that may move is on a link that its side has lost
pub left-of : (setup : Setup) (payload : List ℕ) (past : List Entry) → HasLive setup payload past → (x : Side) (s : ℕ) →
    ((half x (pipe_of setup payload (group_on s past) s past)).up ≡ true → IsLiveOrLost x (half x (pipe_of setup payload (group_on s past) s past)).link past) →
    is_due_for_move (half x (pipe_of setup payload (group_on s past) s past)) ≡ true → is_lost x (half x (pipe_of setup payload (group_on s past) s past)).link past ≡ true
left-of setup payload past w x s on due =
    let h : Half = half x (pipe_of setup payload (group_on s past) s past) in
    let d = due-of h due in
    let r = d.1 in
    by (on d.0) (ap (λ ls. has_link h.link ls) (sym (w.live x s r.0 d.0)) ∙ r.1)
  where
    by : IsLiveOrLost x (half x (pipe_of setup payload (group_on s past) s past)).link past → has_link (half x (pipe_of setup payload (group_on s past) s past)).link (live_links (table_of x past)) ≡ false →
        is_lost x (half x (pipe_of setup payload (group_on s past) s past)).link past ≡ true
    by (inl l) n = l
    by (inr i) n = absurd (true≢false (sym i ∙ n))

module _ (setup : Setup) (payload : List ℕ) (e : Entry) (past : List Entry) (before : ℕ) (made : IsMade setup payload past before e) (owed : OwedToAgreement setup payload past) (beside : OffersGoOn e past) (w : HasLive setup payload past) (lives : LivesOn e past) (x : Side) (s : ℕ)
    (on : (Now setup payload e past before made owed beside x s).up ≡ true → IsLiveOrLost x (Now setup payload e past before made owed beside x s).link past) where
  abbrev T : Terms
  T = terms_of setup

  abbrev H : Half
  H = Now setup payload e past before made owed beside x s

  abbrev M : Half
  M = Mid setup payload e past before made owed beside x s

  abbrev K : Half
  K = Then setup payload e past before made owed beside x s

  abbrev Ds : List Item
  Ds = deeds payload s e.event e.reply past

  abbrev Bs : List Item
  Bs = below (group_on s past) s e past

  abbrev P : List Item
  P = part payload (group_on s past) s past

  lasting : (l : LinkId) → IsLiveOrLost x l past → IsLiveOrLost x l (e ∷ past)
  lasting l (inl q) = inl (or-true _ (is_lost x l past) q)
  lasting l (inr q) = lives.lasts x l q

  -- it was up, and stays on its link
  same-on : Sends H K → H.up ≡ true → IsLiveOrLost x K.link (e ∷ past)
  same-on p u = subst (λ l. IsLiveOrLost x l (e ∷ past)) (sym (p.same u)) (lasting H.link (on u))

  -- it moves to its lowest live link
  lowest : (live : List LinkId) → H.live ≡ live → live ≡ live_links (table_of x past) → H.up ≡ true → IsLiveOrLost x (unwrap_or (head live) H.link) past
  lowest [] i q u = on u
  lowest (l ∷ ls) i q u = inr (subst (λ ms. has_link l ms ≡ true) q (ap (λ b. b || has_link l ls) (same-link l)))

  moved-on : Ds ≡ Calls x Moves ∷ [] → Bs ≡ [] → is_due_for_move M ≡ true → IsLiveOrLost x K.link (e ∷ past)
  moved-on d none due =
      let mid : M ≡ H = ap (λ is. half x (pipe T (is ++ P))) none in
      let g = due-of H (ap (λ h. is_due_for_move h) (sym mid) ∙ due) in
      let r = g.1 in
      let q : MovesOff M (half x (step T (Calls x Moves) (pipe T (Bs ++ P)))) = moves-step T x (pipe T (Bs ++ P)) due in
      let link : K.link ≡ lowest_link H = ap (λ (k : Half). k.link) (then-one setup payload e past before made owed beside x s (Calls x Moves) d) ∙ (q.link_is ∙ ap (λ h. lowest_link h) mid) in
      subst (λ l. IsLiveOrLost x l (e ∷ past)) (sym link) (lasting (lowest_link H) (lowest H.live refl (w.live x s r.0 g.0) g.0))

  -- it comes up
  mid-on : (l : LinkId) → comes_up x s e past ≡ Some l → IsUpOn l M
  mid-on l f = comes-on T x l Bs P (below-stay setup payload e past before made owed beside x s) (upped-below x (group_on s past) s e past ∙ f)

  risen-on : (l : LinkId) → comes_up x s e past ≡ Some l → Sends M K → IsLiveOrLost x K.link (e ∷ past)
  risen-on l f p = let u = stays-up-on M K l p (mid-on l f) in subst (λ k. IsLiveOrLost x k (e ∷ past)) (sym u.0) (lives.comes x s l f)

  from-mid : Shape s e past Ds → (Sends M K) ⊎ (Bs ≡ [])
  from-mid (NoDeed d) = inl (subst (λ k. Sends M k) (sym (then-none setup payload e past before made owed beside x s d)) (record { more = []; sent_is = sym (append-nil M.sent); on = tt; up = λ u. u; same = λ u. refl; none = λ u. refl }))
  from-mid (Deed item d is) = inl (subst (λ k. Sends M k) (sym (then-one setup payload e past before made owed beside x s item d)) (sends-step T x item (pipe T (Bs ++ P)) (deed-stays x item M is)))
  from-mid (MoveDeed y d none) = inr (none (group_on s past))

  rises : (l : LinkId) → comes_up x s e past ≡ Some l → (Sends M K) ⊎ (Bs ≡ []) → IsLiveOrLost x K.link (e ∷ past)
  rises l f (inl p) = risen-on l f p
  rises l f (inr none) = absurd (none-is l (sym (ap (λ is. upped x is) none) ∙ (upped-below x (group_on s past) s e past ∙ f)))

  was-up : H.up ≡ true → Shape s e past Ds → IsLiveOrLost x K.link (e ∷ past)
  was-up u (NoDeed d) = same-on (none-sends setup payload e past before made owed beside x s d) u
  was-up u (Deed item d is) = same-on (one-sends setup payload e past before made owed beside x s item d (deed-stays x item M is)) u
  was-up u (MoveDeed y d none) = by-bool _ (same_side x y)
      (λ c. by-bool _ (is_due_for_move M)
      (λ due. moved-on (d ∙ ap (λ z. Calls z Moves ∷ []) (sym (same-is x y c))) (none (group_on s past)) due)
      (λ due. same-on (one-sends setup payload e past before made owed beside x s (Calls y Moves) d (λ q. due)) u))
      (λ c. same-on (one-sends setup payload e past before made owed beside x s (Calls y Moves) d (λ q. absurd (true≢false (sym q ∙ c)))) u)

  pub on-step : is_up x s (e ∷ past) ≡ true → IsLiveOrLost x K.link (e ∷ past)
  on-step v = by (comes_up x s e past) refl
    where
      by : (c : Option LinkId) → comes_up x s e past ≡ c → IsLiveOrLost x K.link (e ∷ past)
      by (Some l) f = rises l f (from-mid (shape payload s e.actor e.posts e.reply past e.event))
      by None f = was-up (pipe-is-up T x payload (group_on s past) s past ∙ (ap (λ c. is_some c || is_up x s past) (sym f) ∙ v)) (shape payload s e.actor e.posts e.reply past e.event)

  -- on which link an end is that is up: on the one that it was on; on its lowest live one, as it moves; or on the one on which it comes up
  abbrev LinkTurn : Type 0
  LinkTurn = ((H.up ≡ true) × (K.link ≡ H.link)) ⊎ (((H.up ≡ true) × ((H.stands ≡ true) × (K.link ≡ lowest_link H))) ⊎ ((l : LinkId) × ((comes_up x s e past ≡ Some l) × (K.link ≡ l))))

  turned-up : H.up ≡ true → Shape s e past Ds → LinkTurn
  turned-up u (NoDeed d) = inl (u, (let p = none-sends setup payload e past before made owed beside x s d in p.same u))
  turned-up u (Deed item d is) = inl (u, (let p = one-sends setup payload e past before made owed beside x s item d (deed-stays x item M is) in p.same u))
  turned-up u (MoveDeed y d none) = by-bool _ (same_side x y)
      (λ c. by-bool _ (is_due_for_move M)
      (λ due. moved (d ∙ ap (λ z. Calls z Moves ∷ []) (sym (same-is x y c))) (none (group_on s past)) due)
      (λ due. inl (u, (let p = one-sends setup payload e past before made owed beside x s (Calls y Moves) d (λ q. due) in p.same u))))
      (λ c. inl (u, (let p = one-sends setup payload e past before made owed beside x s (Calls y Moves) d (λ q. absurd (true≢false (sym q ∙ c))) in p.same u)))
    where
      moved : Ds ≡ Calls x Moves ∷ [] → Bs ≡ [] → is_due_for_move M ≡ true → LinkTurn
      moved d none due =
          let mid : M ≡ H = ap (λ is. half x (pipe T (is ++ P))) none in
          let g = due-of H (ap (λ h. is_due_for_move h) (sym mid) ∙ due) in
          let q : MovesOff M (half x (step T (Calls x Moves) (pipe T (Bs ++ P)))) = moves-step T x (pipe T (Bs ++ P)) due in
          inr (inl (g.0, (g.1.0, ap (λ (k : Half). k.link) (then-one setup payload e past before made owed beside x s (Calls x Moves) d) ∙ (q.link_is ∙ ap (λ h. lowest_link h) mid))))

  risen : (l : LinkId) → comes_up x s e past ≡ Some l → (Sends M K) ⊎ (Bs ≡ []) → LinkTurn
  risen l f (inl p) = let u = stays-up-on M K l p (mid-on l f) in inr (inr (l, (f, u.0)))
  risen l f (inr none) = absurd (none-is l (sym (ap (λ is. upped x is) none) ∙ (upped-below x (group_on s past) s e past ∙ f)))

  pub link-turn : is_up x s (e ∷ past) ≡ true → LinkTurn
  link-turn v = by (comes_up x s e past) refl
    where
      by : (c : Option LinkId) → comes_up x s e past ≡ c → LinkTurn
      by (Some l) f = risen l f (from-mid (shape payload s e.actor e.posts e.reply past e.event))
      by None f = turned-up (pipe-is-up T x payload (group_on s past) s past ∙ (ap (λ c. is_some c || is_up x s past) (sym f) ∙ v)) (shape payload s e.actor e.posts e.reply past e.event)
