-- In a played history the pipes post with an entry nothing, or one batch of one end.
use Rattle.std.proofs.Common.{◌≡◌, ◌∙◌, inl, inr, ℕ, ◌-◌, ◌≤◌, Bool, true, false, List, [], ◌++◌, length, drop, reverse, refl, ap, sym, subst, ◌||◌, true≢false, arith, append_assoc, length-drop}
use Rattle.std.specs.Prelude.{Option, Some, None}
use Rattle.std.proofs.Math.Seq.{drop-length}
use Rattle.smc_num.specs.declared.Side.{Side}
use Rattle.smc_num.specs.declared.Side.TheVariants.{A, B}
use Rattle.smc_num.specs.declared.LinkId.{LinkId}
use Rattle.smc_num.specs.Names.{other}
use Rattle.pipe_model.specs.declared.setup.Setup.{Setup}
use Rattle.pipe_model.specs.declared.entry.Entry.{Entry}
use Rattle.pipe_model.specs.History.{Offered, offered}
use Rattle.pipe_model.specs.Ends.{Half}
use Rattle.pipe_model.specs.Pipe.{Terms, Item, half, pipe, sent_since, posts_of}
use Rattle.pipe_model.specs.Connections.{fates, comes_up, is_up, deeds, items, part, group_on}
use Rattle.pipe_model.specs.Lending.{terms_of}
use Rattle.pipe_model.specs.Lawful.{draft}
use Rattle.world_core.specs.Played.{IsMade, IsPlayed}
use Rattle.world_core.specs.OneLink.{the_link}
use Rattle.world_core.specs.Wired.{EachItem, keeps_open, IsOnLink}
use Rattle.world_core.specs.Agreement.{IsOnlyLink, HasOffers, GoesOn, IsShaken, IsCalm}
use Rattle.world_core.proofs.Idle.{idle, on-link}
use Rattle.world_core.proofs.PipePosts.{given}
use Rattle.world_core.proofs.EntryItems.{each-append, each-reverse, each-more, items-are, deeds-open, below, below-is, below-calm, is_fate_or_up, fate-or-up-open, fates-only, fates-no-up}
use Rattle.world_core.proofs.Parts.{part-open, part-on, up-offered}
use Rattle.world_core.proofs.UpEnds.{pipe-is-up, news-up, raised-none}
use Rattle.world_core.proofs.Own.{grouped}
use Rattle.world_core.proofs.Agreed.{draft-items}
use Rattle.world_core.proofs.Quiet.{spares, all-spared}
use Rattle.world_core.proofs.Senders.{rests, deeds-are, deeds-rest, deeds-one, UpList, again, anew, calm-calls, calls-up}

module _ (setup : Setup) (payload : List ℕ) (e : Entry) (past : List Entry) (before n : ℕ) (made : IsMade setup payload past before e) (played : IsPlayed setup payload past n)
    (offers : HasOffers setup past) (only : IsOnlyLink past) (go : GoesOn e past) (shaken : IsShaken setup past) (calm : (x : Side) → IsCalm x e past) where
  abbrev pub T : Terms
  T = terms_of setup

  abbrev pub D : Entry
  D = draft setup payload past before e.event

  abbrev pub G : ℕ → ℕ
  G s = group_on s past

  abbrev pub P : ℕ → List Item
  P s = part payload (G s) s past

  abbrev pub F : ℕ → List Item
  F s = reverse (fates A (G s) e past ++ fates B (G s) e past)

  p-open : (s : ℕ) → EachItem keeps_open (P s)
  p-open s = part-open setup payload (G s) s past n played shaken

  p-up : (x : Side) (s : ℕ) → (half x (pipe T (P s))).up ≡ is_up x s past
  p-up x s = pipe-is-up T x payload (G s) s past

  f-calm : (s : ℕ) → EachItem is_fate_or_up (F s)
  f-calm s = each-reverse is_fate_or_up (fates A (G s) e past ++ fates B (G s) e past) (each-append is_fate_or_up (fates A (G s) e past) (fates B (G s) e past) (fates-only is_fate_or_up A (G s) e past (λ l p. refl)) (fates-only is_fate_or_up B (G s) e past (λ l p. refl)))

  f-open : (s : ℕ) → EachItem keeps_open (F s ++ P s)
  f-open s = each-append keeps_open (F s) (P s) (each-more is_fate_or_up keeps_open fate-or-up-open (F s) (f-calm s)) (p-open s)

  f-up : (x : Side) (s : ℕ) → (half x (pipe T (F s ++ P s))).up ≡ is_up x s past
  f-up x s = news-up T x (F s) (P s) ∙ ap (λ b. b || (half x (pipe T (P s))).up) (raised-none x (F s) (fates-no-up (G s) e past)) ∙ p-up x s

  -- the group of a connection with an end that is up
  up-grouped : (x : Side) (s : ℕ) → is_up x s past ≡ true → G s ≡ 1
  up-grouped x s u = by (offered (other x) s past) refl
    where
      by : (o : Option Offered) → offered (other x) s past ≡ o → G s ≡ 1
      by None f = absurd (true≢false (sym u ∙ up-offered setup payload x s past shaken f))
      by (Some o) f = grouped setup past offers (other x) s o f

  no-fates : (x : Side) (s : ℕ) → is_up x s past ≡ true → fates x (G s) e past ≡ []
  no-fates x s u = by (calm x)
    where
      by : IsCalm x e past → fates x (G s) e past ≡ []
      by (inl c) = ap (λ g. fates x g e past) (up-grouped x s u) ∙ c
      by (inr c) = absurd (true≢false (sym u ∙ c.1 s))

  -- what the fates leave of an end that is up
  pub f-spares : (x : Side) (s : ℕ) → is_up x s past ≡ true → EachItem (spares x) (F s)
  f-spares A s u = each-reverse (spares A) (fates A (G s) e past ++ fates B (G s) e past) (each-append (spares A) (fates A (G s) e past) (fates B (G s) e past) (subst (λ is. EachItem (spares A) is) (sym (no-fates A s u)) tt) (fates-only (spares A) B (G s) e past (λ l p. refl)))
  f-spares B s u = each-reverse (spares B) (fates A (G s) e past ++ fates B (G s) e past) (each-append (spares B) (fates A (G s) e past) (fates B (G s) e past) (fates-only (spares B) A (G s) e past (λ l p. refl)) (subst (λ is. EachItem (spares B) is) (sym (no-fates B s u)) tt))

  on : (x : Side) (s : ℕ) → IsOnLink the_link (half x (pipe T (P s)))
  on x s = on-link the_link T x (P s) (p-open s) (part-on setup payload (G s) s past n played shaken)

  ups-on : (x : Side) (s : ℕ) (l : LinkId) → comes_up x s e past ≡ Some l → l ≡ the_link
  ups-on x s l f = let u = go.ups x s l f in u.0

  -- fates and establishments make no end post
  pub below-rests : (x : Side) (s : ℕ) (u : Bool) → is_up x s past ≡ u → (half x (pipe T (below (G s) s e past ++ P s))).sent ≡ (half x (pipe T (P s))).sent
  below-rests x s true u =
      let q = all-spared T x (F s) (P s) (f-spares x s u) in
      let o = on x s in
      below-sent x s ∙ again T (F s ++ P s) x (comes_up A s e past) (comes_up B s e past) (ups-on A s) (ups-on B s) (f-up x s ∙ u) (ap (λ (h : Half). h.link) q ∙ o.own (p-up x s ∙ u)) ∙ ap (λ (h : Half). h.sent) q
    where
      below-sent : (x : Side) (s : ℕ) → (half x (pipe T (below (G s) s e past ++ P s))).sent ≡ (half x (pipe T (UpList (comes_up A s e past) (comes_up B s e past) ++ (F s ++ P s)))).sent
      below-sent x s = ap (λ is. (half x (pipe T is)).sent) (ap (λ is. is ++ P s) (below-is (G s) s e past go) ∙ append_assoc (UpList (comes_up A s e past) (comes_up B s e past)) (F s) (P s))
  below-rests x s false u =
      below-sent x s ∙ anew T (F s ++ P s) x (comes_up A s e past) (comes_up B s e past) (f-open s) (calm-calls T (F s) (P s) (f-calm s) (calls-up setup payload T (G s) s past n played shaken)) (f-up x s ∙ u) ∙
      idle T x (F s ++ P s) (f-open s) (f-up x s ∙ u) ∙ sym (idle T x (P s) (p-open s) (p-up x s ∙ u))
    where
      below-sent : (x : Side) (s : ℕ) → (half x (pipe T (below (G s) s e past ++ P s))).sent ≡ (half x (pipe T (UpList (comes_up A s e past) (comes_up B s e past) ++ (F s ++ P s)))).sent
      below-sent x s = ap (λ is. (half x (pipe T is)).sent) (ap (λ is. is ++ P s) (below-is (G s) s e past go) ∙ append_assoc (UpList (comes_up A s e past) (comes_up B s e past)) (F s) (P s))

  below-open : (s : ℕ) → EachItem keeps_open (below (G s) s e past ++ P s)
  below-open s = each-append keeps_open (below (G s) s e past) (P s) (each-more is_fate_or_up keeps_open fate-or-up-open (below (G s) s e past) (below-calm (G s) s e past go)) (p-open s)

  pub over : (x : Side) (s : ℕ) → half x (pipe T (items payload (G s) s e past ++ P s)) ≡ half x (pipe T (deeds payload s e.event e.reply past ++ (below (G s) s e past ++ P s)))
  over x s = ap (λ is. half x (pipe T is)) (ap (λ is. is ++ P s) (items-are payload (G s) s e past) ∙ append_assoc (deeds payload s e.event e.reply past) (below (G s) s e past) (P s))

  pub given-is : (x : Side) (s : ℕ) → given setup payload D past x s ≡ sent_since (half x (pipe T (P s))) (half x (pipe T (items payload (G s) s e past ++ P s)))
  given-is x s = ap (λ is. posts_of T x is (P s)) (draft-items setup payload e past before n made played offers only go shaken (G s) s)

  -- an end that rests posts nothing
  pub given-none : (x : Side) (s : ℕ) → EachItem (rests x) (deeds payload s e.event e.reply past) → given setup payload D past x s ≡ []
  given-none x s r =
      let q = deeds-rest T x (below (G s) s e past ++ P s) (deeds payload s e.event e.reply past) (deeds-are setup payload s e.event e.reply past made.built) r (below-open s) in
      given-is x s ∙ ap (λ ms. drop (length (half x (pipe T (P s))).sent) ms) (ap (λ (h : Half). h.sent) (over x s) ∙ q ∙ below-rests x s (is_up x s past) refl) ∙ drop-length (half x (pipe T (P s))).sent

  -- an end posts one message at most
  pub given-few : (x : Side) (s : ℕ) → length (given setup payload D past x s) ≤ 1
  given-few x s =
      let ds : List Item = deeds payload s e.event e.reply past in
      let k = deeds-open-of s in
      let q = deeds-one T x (below (G s) s e past ++ P s) ds (deeds-are setup payload s e.event e.reply past made.built) k in
      let b : length (half x (pipe T (below (G s) s e past ++ P s))).sent ≡ length (half x (pipe T (P s))).sent = ap (λ ms. length ms) (below-rests x s (is_up x s past) refl) in
      let o : length (half x (pipe T (items payload (G s) s e past ++ P s))).sent ≡ length (half x (pipe T (ds ++ (below (G s) s e past ++ P s)))).sent = ap (λ (h : Half). length h.sent) (over x s) in
      let l : length (given setup payload D past x s) ≡ length (half x (pipe T (items payload (G s) s e past ++ P s))).sent - length (half x (pipe T (P s))).sent = ap (λ ms. length ms) (given-is x s) ∙ length-drop (length (half x (pipe T (P s))).sent) (half x (pipe T (items payload (G s) s e past ++ P s))).sent in
      omega (arith, q, b, o, l)
    where
      deeds-open-of : (s : ℕ) → EachItem keeps_open (deeds payload s e.event e.reply past)
      deeds-open-of s = deeds-open setup payload s e.event e.reply past made.built
