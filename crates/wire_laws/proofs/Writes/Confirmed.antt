-- The RMB of each element that is lent is confirmed.
use Rattle.std.proofs.Common.{Bool, List, [], ap, false, filter, filter_map, if◌then◌else◌, inl, inr, not, refl, subst, sym, true, true≢false, ℕ, ◌==◌, ◌∙◌, ◌∷◌, ◌≡◌, ◌⊎◌}
use Rattle.std.specs.Prelude.{None, Some, nat_lt, unwrap_or}
use Rattle.pipe_model.specs.Keys.{confirms, deleted}
use Rattle.pipe_model.specs.Lending.{free_places}
use Rattle.pipe_model.specs.Handshake.{is_ready}
use Rattle.pipe_model.specs.declared.event.Event.TheVariants.{Clc as ClcEvent}
use Rattle.history_laws.specs.Words.{A, B, Entry, Keys, Lending, LinkId, Offer, Offered, Place, Setup, Side, Withdraw, accept_post, act_by, act_in, confirm_post, fabric, group_of, has, head, keys_of, lacks, lends, lends_by, lent, named_link, named_rmbs, new_offer, next_free, no_link, offered, peer, returns, rmb_at}
use Rattle.history_laws.specs.Lists.{IsAmong}
use Rattle.history_laws.specs.Made.{IsMadeAll}
use Rattle.history_laws.specs.Offers.{Accepts, Confirms, HasOffers, HasStates, Offers, OffersAccept, OffersConfirm, OffersNone, accept_link}
use Rattle.history_laws.proofs.Basics.{none-is}
use Rattle.history_laws.proofs.Offers.{accept-new, all-offers, confirm-new, free-lends-all, of-entry, states}
use Rattle.history_laws.proofs.Posts.{data-free}
use Rattle.link_laws.specs.Awaited.{AreOnKnown}
use Rattle.link_laws.specs.FabricChanges.{OffersFirst, Takes}
use Rattle.link_laws.specs.KeyChanges.{Goes, GroupGoes, Withdrawn}
use Rattle.link_laws.proofs.Keys.{keys-after, kept-in, not-of}
use Rattle.link_laws.specs.Linked.{IsOwn}
use Rattle.lending_laws.proofs.Keys.{has-among}
use Rattle.lending_laws.proofs.Known.{begun-keys}
use Rattle.lending_laws.proofs.Ends.{own-all}
use Rattle.lending_laws.proofs.Lendings.{AcceptFacts, ConfirmFacts, accept-facts-of, all-psn, changes, confirm-facts-of, grouped-own, in-new, new-place}
use Rattle.link_laws.proofs.Joined.{flows-of}
use Rattle.wire_laws.proofs.FreedKeys.{lent-group, withdrawn-not-lent}
use Rattle.wire_laws.proofs.Writes.Groups.{owns}

-- what was confirmed is so beside one RMB more
confirms-more : (new : ℕ) (rs : List ℕ) (r : ℕ) → IsAmong r rs → IsAmong r (confirms new rs)
confirms-more new [] r i = absurd i
confirms-more new (s ∷ rs) r i = by (new == s) (nat_lt new s) i (λ h. confirms-more new rs r h)
  where
    by : (b c : Bool) → IsAmong r (s ∷ rs) → (IsAmong r rs → IsAmong r (confirms new rs)) → IsAmong r (if b then s ∷ rs else if c then new ∷ s ∷ rs else s ∷ confirms new rs)
    by true c h rest = h
    by false true h rest = inr h
    by false false (inl e) rest = inl e
    by false false (inr h) rest = inr (rest h)

-- a confirmed RMB stays so, but for a withdrawal and the group's end
pub stays-confirmed : (x : Side) (e : Entry) (past : List Entry) (rmb : ℕ) → IsAmong rmb (keys_of x past).confirmed → IsAmong rmb (keys_of x (e ∷ past)).confirmed ⊎ Goes x e past rmb
stays-confirmed x e past rmb i = keys-after x e past (λ ks. IsAmong rmb ks.confirmed ⊎ Goes x e past rmb) (record {
  was = inl i;
  withdrawn = λ t. named t (has rmb (named_rmbs (deleted t.act.message) (keys_of x past).keys)) refl;
  registered = λ r link from ks p. p;
  confirmed = λ r from ks p. elim p [ inl h ↦ inl (confirms-more r ks.confirmed rmb h) | inr g ↦ inr g ];
  ended = λ none. inr (GroupGoes none);
})
  where
    named : (t : Takes x e past Withdraw) (b : Bool) → has rmb (named_rmbs (deleted t.act.message) (keys_of x past).keys) ≡ b
        → IsAmong rmb (filter (λ r. not (has r (named_rmbs (deleted t.act.message) (keys_of x past).keys))) (keys_of x past).confirmed) ⊎ Goes x e past rmb
    named t true q = inr (Withdrawn t q)
    named t false q = inl (kept-in (λ r. not (has r (named_rmbs (deleted t.act.message) (keys_of x past).keys))) rmb (keys_of x past).confirmed i (not-of _ q))

-- the RMB of the lowest free element is confirmed, where the side is ready
ready-is : (ps : List Place) (confirmed : List ℕ) (p : Place) → is_ready ps confirmed ≡ true → IsAmong (unwrap_or (head ps) p).rmb confirmed
ready-is [] confirmed p e = absurd (true≢false (sym e))
ready-is (q ∷ ps) confirmed p e = has-among q.rmb confirmed e

no-clc-act : (x : Side) (e : Entry) (past : List Entry) (s : ℕ) (d : Side) → e.event ≡ ClcEvent s d → act_in x e past ≡ None
no-clc-act A e past s d ev = ap (λ v. act_by A v e.reply past) ev
no-clc-act B e past s d ev = ap (λ v. act_by B v e.reply past) ev

module _ (setup : Setup) (payload : List ℕ) (e : Entry) (past : List Entry) (m : IsMadeAll setup payload (e ∷ past)) (known : AreOnKnown setup (e ∷ past)) (x : Side) (l : Lending) (i : IsAmong l (lent setup payload x (e ∷ past))) where
  in-group-now : (l.group ≡ group_of x (e ∷ past)) × ((l.group == 0) ≡ false)
  in-group-now = lent-group setup payload (e ∷ past) m known x l i

  some : (group_of x (e ∷ past) == 0) ≡ false
  some = ap (λ g. g == 0) (sym in-group-now.0) ∙ in-group-now.1

  -- what was confirmed before a CLC event is so after it
  through : (s : ℕ) (d : Side) → e.event ≡ ClcEvent s d → (rmb : ℕ) → IsAmong rmb (keys_of x past).confirmed → IsAmong rmb (keys_of x (e ∷ past)).confirmed
  through s d ev rmb h = by (stays-confirmed x e past rmb h)
    where
      by : IsAmong rmb (keys_of x (e ∷ past)).confirmed ⊎ Goes x e past rmb → IsAmong rmb (keys_of x (e ∷ past)).confirmed
      by (inl k) = k
      by (inr (Withdrawn t q)) = absurd (none-is t.act (sym (no-clc-act x e past s d ev) ∙ t.is))
      by (inr (GroupGoes none)) = absurd (true≢false (ap (λ g. g == 0) (sym none) ∙ some))

  -- an offer of first contact confirms the RMB
  first : (link : LinkId) (o : Offer) → OffersFirst x e link o → IsAmong (rmb_at o.address) (keys_of x (e ∷ past)).confirmed
  first link o it = subst (λ (ks : Keys). IsAmong (rmb_at o.address) ks.confirmed) (sym (begun-keys setup payload e past m x link o it some)) (inl refl)

  -- an element that was lent before
  old : IsAmong l (lent setup payload x past) → IsAmong l.place.rmb (keys_of x past).confirmed → IsAmong l.place.rmb (keys_of x (e ∷ past)).confirmed
  old was h = by (stays-confirmed x e past l.place.rmb h)
    where
      by : IsAmong l.place.rmb (keys_of x (e ∷ past)).confirmed ⊎ Goes x e past l.place.rmb → IsAmong l.place.rmb (keys_of x (e ∷ past)).confirmed
      by (inl k) = k
      by (inr (Withdrawn t q)) = absurd (withdrawn-not-lent setup payload e past m x t l.place.rmb q l refl was)
      by (inr (GroupGoes none)) = absurd (true≢false (ap (λ g. g == 0) (sym none) ∙ some))

-- a new one
module _ (setup : Setup) (payload : List ℕ) (e : Entry) (past : List Entry) (m : IsMadeAll setup payload (e ∷ past)) (known : AreOnKnown setup (e ∷ past)) where
  st-of : (s : ℕ) → HasStates s past
  st-of = states setup payload past m.1

  off-of : (s : ℕ) → HasOffers s past
  off-of = all-offers setup payload past m.1

  own-b : IsOwn B (peer B (fabric past))
  own-b = owns setup payload past m.1 known.1 B

  psn : (s : ℕ) (o : Offered) → offered B s past ≡ Some o → o.offer.psn ≡ o.link.group
  psn = all-psn setup payload past m.1 B

  grouped : (s : ℕ) (o : Offered) → offered B s past ≡ Some o → (o.link.group == 0) ≡ false
  grouped = grouped-own setup payload past m.1 (own-all setup payload past (flows-of setup payload past m.1))

  by-accept : (a : Accepts setup payload e past) (l : Lending) → IsAmong l (lent setup payload B (e ∷ past)) → l ≡ lends_by a.s (accept_link setup payload a.first past) (new_offer setup payload B a.first (accept_link setup payload a.first past) past) → IsAmong l.place.rmb (keys_of B (e ∷ past)).confirmed
  by-accept a l i q = subst (λ n. IsAmong n (keys_of B (e ∷ past)).confirmed) (ap (λ (k : Lending). k.place.rmb) (sym q)) (by a.first refl)
    where
      by : (b : Bool) → a.first ≡ b → IsAmong (rmb_at (new_offer setup payload B a.first (accept_link setup payload a.first past) past).address) (keys_of B (e ∷ past)).confirmed
      by true f = first setup payload e past m known B l i (accept_link setup payload a.first past) (new_offer setup payload B a.first (accept_link setup payload a.first past) past) (record { s = a.s; posted = subst (λ ps. IsAmong (accept_post setup payload a.s a.first (accept_link setup payload a.first past) past) ps) (sym a.posts_are) (inl refl); first = f })
      by false f =
          let facts : AcceptFacts (lacks setup payload B past) a.first = accept-facts-of setup payload past m.0.0 e m.0.1 st-of off-of own-b psn grouped a in
          subst (λ n. IsAmong n (keys_of B (e ∷ past)).confirmed) (sym (ap (λ (p : Place). p.rmb) (new-place setup payload B a.s a.first (accept_link setup payload a.first past) past)))
          (through setup payload e past m known B l i a.s A a.event_is (next_free setup payload B past).rmb (ready-is (free_places setup payload B past) (keys_of B past).confirmed (record { rmb = 0; index = 0 }) (facts.ready f)))

  by-confirm : (c : Confirms setup payload e past) (l : Lending) → IsAmong l (lent setup payload A (e ∷ past)) → l ≡ lends_by c.s (unwrap_or (named_link c.s past) no_link) (new_offer setup payload A c.first (unwrap_or (named_link c.s past) no_link) past) → IsAmong l.place.rmb (keys_of A (e ∷ past)).confirmed
  by-confirm c l i q = subst (λ n. IsAmong n (keys_of A (e ∷ past)).confirmed) (ap (λ (k : Lending). k.place.rmb) (sym q)) (by c.first refl)
    where
      by : (b : Bool) → c.first ≡ b → IsAmong (rmb_at (new_offer setup payload A c.first (unwrap_or (named_link c.s past) no_link) past).address) (keys_of A (e ∷ past)).confirmed
      by true f = first setup payload e past m known A l i (unwrap_or (named_link c.s past) no_link) (new_offer setup payload A c.first (unwrap_or (named_link c.s past) no_link) past) (record { s = c.s; posted = subst (λ ps. IsAmong (confirm_post setup payload c.s c.first (unwrap_or (named_link c.s past) no_link) past) ps) (sym c.posts_are) (inl refl); first = f })
      by false f =
          let facts : ConfirmFacts c.offer (lacks setup payload A past) c.first = confirm-facts-of setup payload past m.0.0 e m.0.1 st-of off-of own-b psn grouped c in
          subst (λ n. IsAmong n (keys_of A (e ∷ past)).confirmed) (sym (ap (λ (p : Place). p.rmb) (new-place setup payload A c.s c.first (unwrap_or (named_link c.s past) no_link) past)))
          (through setup payload e past m known A l i c.s B c.event_is (next_free setup payload A past).rmb (ready-is (free_places setup payload A past) (keys_of A past).confirmed (record { rmb = 0; index = 0 }) (facts.ready f)))

  fresh-confirmed : (x : Side) (l : Lending) → IsAmong l (lent setup payload x (e ∷ past)) → IsAmong l (filter_map (lends x) e.posts) → IsAmong l.place.rmb (keys_of x (e ∷ past)).confirmed
  fresh-confirmed x l i j = by (of-entry setup payload past m.0.0 e m.0.1 st-of off-of) x i j
    where
      by : Offers setup payload e past → (y : Side) → IsAmong l (lent setup payload y (e ∷ past)) → IsAmong l (filter_map (lends y) e.posts) → IsAmong l.place.rmb (keys_of y (e ∷ past)).confirmed
      by (OffersNone f) y k n = absurd (subst (λ ls. IsAmong l ls) (free-lends-all y e.posts f) n)
      by (OffersAccept a) A k n = absurd (subst (λ ls. IsAmong l ls) (ap (λ ps. filter_map (lends A) ps) a.posts_are ∙ free-lends-all A a.more (data-free a.more a.plain)) n)
      by (OffersConfirm c) B k n = absurd (subst (λ ls. IsAmong l ls) (ap (λ ps. filter_map (lends B) ps) c.posts_are ∙ free-lends-all B c.more (data-free c.more c.plain)) n)
      by (OffersAccept a) B k n = by-accept a l k (in-new setup payload past m.0.0 e m.0.1 st-of off-of B (accept-new setup payload past m.0.0 e m.0.1 st-of off-of a) l n)
      by (OffersConfirm c) A k n = by-confirm c l k (in-new setup payload past m.0.0 e m.0.1 st-of off-of A (confirm-new setup payload past m.0.0 e m.0.1 st-of off-of c) l n)

-- after every history
pub lent-confirmed : (setup : Setup) (payload : List ℕ) (past : List Entry) → IsMadeAll setup payload past → AreOnKnown setup past → (x : Side) (l : Lending) → IsAmong l (lent setup payload x past) → IsAmong l.place.rmb (keys_of x past).confirmed
lent-confirmed setup payload [] m known x l i = absurd i
lent-confirmed setup payload (e ∷ past) m known x l i = by (lent-confirmed setup payload past m.1 known.1 x l) (let c = changes setup payload past m.0.0 e m.0.1 (states setup payload past m.1) (all-offers setup payload past m.1) x in c.was l i)
  where
    by : (IsAmong l (lent setup payload x past) → IsAmong l.place.rmb (keys_of x past).confirmed) → IsAmong l (filter_map (lends x) e.posts) ⊎ (IsAmong l (lent setup payload x past) × (returns setup payload x e past l ≡ false)) → IsAmong l.place.rmb (keys_of x (e ∷ past)).confirmed
    by was (inl j) = fresh-confirmed setup payload e past m known x l i j
    by was (inr q) = old setup payload e past m known x l i q.0 (was q.0)
