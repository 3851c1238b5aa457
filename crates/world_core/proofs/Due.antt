-- The one end that an entry makes act posts what is due to it.
use Rattle.std.proofs.Common.{◌≡◌, ◌∙◌, ◌==◌, ℕ, Bool, true, false, not, if◌then◌else◌, List, [], ◌∷◌, ◌++◌, length, drop, reverse, flat_map, refl, ap, sym, subst, ◌&&◌, true≢false, eqb-true, ◌||◌, nat_lt}
use Rattle.std.specs.Prelude.{Option, Some, None, is_some, option_map, option_to_list}
use Rattle.std.proofs.Math.Seq.{drop-length, drop-append_seam}
use Rattle.smc_num.specs.declared.Side.{Side}
use Rattle.smc_num.specs.declared.Side.TheVariants.{A, B}
use Rattle.smc_num.specs.Names.{other, same_side, head, has_link}
use Rattle.pipe_model.specs.Snapshot.{tells_same}
use Rattle.pipe_model.specs.Closing.{is_group_gone}
use Rattle.pipe_model.specs.declared.setup.Setup.{Setup}
use Rattle.pipe_model.specs.declared.event.Event.{Event}
use Rattle.pipe_model.specs.declared.event.Event.TheVariants.{Open, Write, Read, Clc, Deliver, Complete}
use Rattle.pipe_model.specs.declared.entry.Entry.{Entry}
use Rattle.pipe_model.specs.Words.{element_size}
use Rattle.pipe_model.specs.History.{Offered, offered}
use Rattle.pipe_model.specs.Ends.{Half, settle, is_due, batch, posts_batch, present}
use Rattle.pipe_model.specs.Pipe.{Pipe, Terms, Item, Fate, GroupEnd, Up, Calls, Lands, Completes, half, pipe, apply, sent_since}
use Rattle.pipe_model.specs.Connections.{fates, comes_up, is_up, deeds, items, part, group_on, landed_at}
use Rattle.pipe_model.specs.Lending.{terms_of}
use Rattle.pipe_model.specs.Posts.{sent_posts, end_posts, connection_posts}
use Rattle.pipe_model.specs.Lawful.{draft}
use Rattle.pipe_model.specs.Fits.{Fits}
use Rattle.world_core.specs.Played.{IsMade, IsPlayed}
use Rattle.world_core.specs.Wired.{EachItem, keeps_open}
use Rattle.world_core.specs.Due.{due_of, acts_at, due_posts, PostsDue}
use Rattle.world_core.specs.Agreement.{IsOnlyLink, HasOffers, GoesOn, IsShaken, IsCalm}
use Rattle.world_core.proofs.Growth.{settled-half}
use Rattle.world_core.proofs.PipePosts.{given, flat-none}
use Rattle.world_core.proofs.EntryItems.{below, below-is, deeds-open, fates-no-up}
use Rattle.world_core.proofs.Ways.{own-items}
use Rattle.world_core.proofs.UpEnds.{pipe-is-up, news-up, raises, raised-none, apply-up}
use Rattle.world_core.proofs.Quiet.{all-spared}
use Rattle.world_core.proofs.Senders.{rests, apply-sent}
use Rattle.world_core.proofs.Batches.{f-spares, over, given-is, below-rests}
use Rattle.world_core.proofs.OneSender.{Single, single, nowhere, all-of, rest-posts}
use Rattle.world_core.proofs.Plain.{and-both, same-is}
use Rattle.world_core.proofs.Rising.{comes_by}

-- what one item makes an end post is what is due after it
settled-since : (depth : ℕ) (h k : Half) → k.sent ≡ h.sent → sent_since h (settle depth k) ≡ due_of depth k
settled-since depth h k e = by (is_due depth k)
  where
    by : (b : Bool) → drop (length h.sent) (if b then posts_batch k else k).sent ≡ (if b then batch k ∷ [] else [])
    by true = ap (λ ms. drop (length h.sent) (ms ++ batch k ∷ [])) e ∙ drop-append_seam h.sent (batch k ∷ [])
    by false = ap (λ ms. drop (length h.sent) ms) e ∙ drop-length h.sent

pub one-since : (t : Terms) (x : Side) (item : Item) (items : List Item) → keeps_open item ≡ true → sent_since (half x (pipe t items)) (half x (pipe t (item ∷ items))) ≡ due_of t.depth (half x (apply t.size item (pipe t items)))
one-since t x item items k =
    ap (λ h. sent_since (half x (pipe t items)) h) (settled-half t x item (pipe t items)) ∙ settled-since t.depth (half x (pipe t items)) (half x (apply t.size item (pipe t items))) (apply-sent t.size x item (pipe t items) k)

-- an item of an end depends on that end alone, where it is a call or a completion
own-half : (size : ℕ) (x : Side) (item : Item) (p q : Pipe) → acts_at x item ≡ true → half x p ≡ half x q → half x (apply size item p) ≡ half x (apply size item q)
own-half size A (Calls A call) p q a e = ap (λ h. half A (apply size (Calls A call) (record p { a = h }))) e
own-half size B (Calls B call) p q a e = ap (λ h. half B (apply size (Calls B call) (record p { b = h }))) e
own-half size A (Completes A) p q a e = ap (λ h. half A (apply size (Completes A) (record p { a = h }))) e
own-half size B (Completes B) p q a e = ap (λ h. half B (apply size (Completes B) (record p { b = h }))) e
own-half size A _ p q a e = absurd (true≢false (sym a))
own-half size B _ p q a e = absurd (true≢false (sym a))

acts-not-rests : (x : Side) (item : Item) → acts_at x item ≡ true → rests x item ≡ false
acts-not-rests x (Calls y call) a = ap (λ b. not b) a
acts-not-rests x (Completes y) a = ap (λ b. not b) a
acts-not-rests x (Fate y link phase) a = absurd (true≢false (sym a))
acts-not-rests x (GroupEnd y) a = absurd (true≢false (sym a))
acts-not-rests x (Up y link) a = absurd (true≢false (sym a))
acts-not-rests x (Lands y) a = absurd (true≢false (sym a))

idle-rests : (x : Side) (items : List Item) → EachItem (λ item. not (acts_at x item)) items → EachItem (rests x) items
idle-rests x [] p = tt
idle-rests x (Calls y call ∷ items) p = (p.0, idle-rests x items p.1)
idle-rests x (Completes y ∷ items) p = (p.0, idle-rests x items p.1)
idle-rests x (Fate y link phase ∷ items) p = (refl, idle-rests x items p.1)
idle-rests x (GroupEnd y ∷ items) p = (refl, idle-rests x items p.1)
idle-rests x (Up y link ∷ items) p = (refl, idle-rests x items p.1)
idle-rests x (Lands y ∷ items) p = (refl, idle-rests x items p.1)

not-due-down : (depth : ℕ) (h : Half) → h.up ≡ false → due_of depth h ≡ []
not-due-down depth h e = ap (λ b. if b then batch h ∷ [] else []) (by h.up e)
  where
    by : (u : Bool) → u ≡ false → ((u && not (is_group_gone h.phase)) && (has_link h.link h.live && (nat_lt (length h.flight) depth && not (tells_same (present h) h.last)))) ≡ false
    by u f = ap (λ b. (b && not (is_group_gone h.phase)) && (has_link h.link h.live && (nat_lt (length h.flight) depth && not (tells_same (present h) h.last)))) f

no-raise : (x : Side) (item : Item) → acts_at x item ≡ true → raises x item ≡ false
no-raise x (Calls y call) a = refl
no-raise x (Completes y) a = refl
no-raise x (Fate y link phase) a = refl
no-raise x (GroupEnd y) a = refl
no-raise x (Lands y) a = refl
no-raise x (Up y link) a = absurd (true≢false (sym a))

module _ (setup : Setup) (payload : List ℕ) (e : Entry) (past : List Entry) (before n : ℕ) (made : IsMade setup payload past before e) (played : IsPlayed setup payload past n)
    (offers : HasOffers setup past) (only : IsOnlyLink past) (go : GoesOn e past) (shaken : IsShaken setup past) (calm : (x : Side) → IsCalm x e past) where
  abbrev D : Entry
  D = draft setup payload past before e.event

  abbrev T : Terms
  T = terms_of setup

  abbrev P : ℕ → List Item
  P s = part payload (group_on s past) s past

  abbrev Below : ℕ → List Item
  Below s = below (group_on s past) s e past

  not-empty : (item : Item) (ds : List Item) → ds ≡ [] → ds ≡ item ∷ [] → ⊥
  not-empty item ds f g = true≢false (sym (ap (λ is. is_some (head is)) (sym f ∙ g)))

  idle-not : (x : Side) (item : Item) (ds : List Item) → EachItem (λ i. not (acts_at x i)) ds → ds ≡ item ∷ [] → acts_at x item ≡ true → ⊥
  idle-not x item ds p f a = let q = subst (λ is. EachItem (λ i. not (acts_at x i)) is) f p in true≢false (sym q.0 ∙ ap (λ b. not b) a)

  -- no end comes up with a call or a completion
  none-by : (x y : Side) (s : ℕ) (item : Item) (event : Event) → e.event ≡ event → Fits setup (length payload) event → deeds payload s event e.reply past ≡ item ∷ [] → acts_at x item ≡ true → comes_by y s event e.reply past ≡ None
  none-by x y s item (Open t) v b d a = absurd (not-empty item [] refl d)
  none-by x y s item (Clc t dir) v b d a = absurd (not-empty item [] refl d)
  none-by x A s item (Write end at len) v b d a = refl
  none-by x B s item (Write end at len) v b d a = refl
  none-by x A s item (Read end len) v b d a = refl
  none-by x B s item (Read end len) v b d a = refl
  none-by x A s item (Complete slot dir) v b d a = refl
  none-by x B s item (Complete slot dir) v b d a = refl
  none-by x y s item (Deliver slot dir) v b d a = absurd (idle-not x item (deeds payload s (Deliver slot dir) e.reply past) (own-items (λ i. not (acts_at x i)) (Lands dir) dir s (landed_at slot dir e.reply past) past refl) d a)
  none-by x y s item _ v b d a = absurd b

  module _ (x : Side) (s : ℕ) (item : Item) (d : deeds payload s e.event e.reply past ≡ item ∷ []) (a : acts_at x item ≡ true) where
    none-up : (y : Side) → comes_up y s e past ≡ None
    none-up y = none-by x y s item e.event refl made.built d a

    abbrev F : List Item
    F = reverse (fates A (group_on s past) e past ++ fates B (group_on s past) e past)

    below-fates : Below s ≡ F
    below-fates =
        below-is (group_on s past) s e past go ∙ ap (λ o. reverse (option_to_list (option_map (Up A) o) ++ option_to_list (option_map (Up B) (comes_up B s e past))) ++ F) (none-up A) ∙
        ap (λ o. reverse (option_to_list (option_map (Up B) o)) ++ F) (none-up B)

    item-open : keeps_open item ≡ true
    item-open = let q = subst (λ is. EachItem keeps_open is) d (deeds-open setup payload s e.event e.reply past made.built) in q.0

    -- the end below the item
    same-below : is_up x s past ≡ true → half x (pipe T (Below s ++ P s)) ≡ half x (pipe T (P s))
    same-below u = ap (λ is. half x (pipe T (is ++ P s))) below-fates ∙ all-spared T x F (P s) (f-spares setup payload e past before n made played offers only go shaken calm x s u)

    up-below : is_up x s past ≡ false → (half x (pipe T (Below s ++ P s))).up ≡ false
    up-below u =
        ap (λ is. (half x (pipe T (is ++ P s))).up) below-fates ∙
        news-up T x F (P s) ∙
        ap (λ b. b || (half x (pipe T (P s))).up) (raised-none x F (fates-no-up (group_on s past) e past)) ∙ pipe-is-up T x payload (group_on s past) s past ∙ u

    apply-down : (p : Pipe) → (half x p).up ≡ false → (half x (apply T.size item p)).up ≡ false
    apply-down p u = apply-up T.size x item p ∙ ap (λ b. b || (half x p).up) (no-raise x item a) ∙ u

    due-same : (u : Bool) → is_up x s past ≡ u → due_of T.depth (half x (apply T.size item (pipe T (Below s ++ P s)))) ≡ due_of T.depth (half x (apply T.size item (pipe T (P s))))
    due-same true u = ap (λ h. due_of T.depth h) (own-half T.size x item (pipe T (Below s ++ P s)) (pipe T (P s)) a (same-below u))
    due-same false u =
        not-due-down T.depth (half x (apply T.size item (pipe T (Below s ++ P s)))) (apply-down (pipe T (Below s ++ P s)) (up-below u)) ∙
        sym (not-due-down T.depth (half x (apply T.size item (pipe T (P s)))) (apply-down (pipe T (P s)) (pipe-is-up T x payload (group_on s past) s past ∙ u)))

    -- it is given what is due
    given-due : given setup payload D past x s ≡ due_of T.depth (half x (apply T.size item (pipe T (P s))))
    given-due =
        given-is setup payload e past before n made played offers only go shaken calm x s ∙
        ap (λ h. sent_since (half x (pipe T (P s))) h) (over setup payload e past before n made played offers only go shaken calm x s) ∙
        ap (λ is. sent_since (half x (pipe T (P s))) (half x (pipe T (is ++ (Below s ++ P s))))) d ∙
        ap (λ ms. drop (length ms) (half x (pipe T (item ∷ (Below s ++ P s)))).sent) (sym (below-rests setup payload e past before n made played offers only go shaken calm x s (is_up x s past) refl)) ∙
        one-since T x item (Below s ++ P s) item-open ∙ due-same (is_up x s past) refl

    abbrev Q : Type 0
    Q = Single setup payload e past before n made played offers only go shaken calm

    its-own : (q : Q) (b : Bool) → ((s == q.s) && same_side x q.x) ≡ b → b ≡ true
    its-own q true f = refl
    its-own q false f = let r = subst (λ is. EachItem (rests x) is) d (q.rest x s f) in absurd (true≢false (sym r.0 ∙ acts-not-rests x item a))

    all-are : (q : Q) (o : Option Offered) → offered (other q.x) q.s past ≡ o → connection_posts setup payload D past ≡ end_posts setup payload q.x q.s D past
    all-are q None f =
        let none : end_posts setup payload q.x q.s D past ≡ [] = ap (λ r. flat_map (sent_posts (element_size setup) q.x r (D ∷ past)) (given setup payload D past q.x q.s)) f ∙ flat-none _ (given setup payload D past q.x q.s) (λ m. refl) in
        nowhere setup payload e past before n made played offers only go shaken calm q none ∙ sym none
    all-are q (Some o) f = all-of setup payload e past before n made played offers only go shaken calm q o f

    due-are : connection_posts setup payload D past ≡ due_posts setup payload x s item D past
    due-are =
        let q : Q = single setup payload e past before n made played offers only go shaken calm in
        let r = and-both (s == q.s) (same_side x q.x) (its-own q ((s == q.s) && same_side x q.x) refl ∙ refl) in
        all-are q (offered (other q.x) q.s past) refl ∙ ap (λ y. end_posts setup payload y q.s D past) (sym (same-is x q.x r.1)) ∙ ap (λ t. end_posts setup payload x t D past) (sym (eqb-true s q.s r.0)) ∙
        ap (λ ms. flat_map (sent_posts (element_size setup) x (offered (other x) s past) (D ∷ past)) ms) given-due

  none-acts : ((x : Side) (s : ℕ) → EachItem (λ item. not (acts_at x item)) (deeds payload s e.event e.reply past)) → connection_posts setup payload D past ≡ []
  none-acts f =
      let q = single setup payload e past before n made played offers only go shaken calm in
      nowhere setup payload e past before n made played offers only go shaken calm q
      (rest-posts setup payload e past before n made played offers only go shaken calm q.x q.s (idle-rests q.x (deeds payload q.s e.event e.reply past) (f q.x q.s)))

  pub posts-due : PostsDue setup payload D e past
  posts-due = record { none = none-acts; due = λ x s item d a. due-are x s item d a }
