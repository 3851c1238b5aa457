-- What an entry makes a side lend, and what holds of offers after every history that the definitions make: at most one a socket and side.
use Rattle.std.proofs.Common.{Bool, List, [], ap, drop, eq-eqb, eqb-true, false, filter_map, if◌then◌else◌, inl, inr, refl, subst, suc, sym, true, true≢false, zero, ℕ, ◌&&◌, ◌++◌, ◌==◌, ◌∙◌, ◌∷◌, ◌≡◌, ◌⊎◌}
use Rattle.std.specs.Prelude.{None, Option, Some, is_some, option_and_then, option_map, unwrap_or}
use Rattle.pipe_model.specs.declared.post.Post.TheVariants.{Clc, Write}
use Rattle.clc_wire.specs.declared.message.ClcMessage.TheVariants.{Accept as AcceptMessage, Confirm as ConfirmMessage, Decline as DeclineMessage, Proposal as ProposalMessage}
use Rattle.std.specs.List.{cons_option}
use Rattle.pipe_model.specs.declared.reply.Reply.TheVariants.{Sent}
use Rattle.pipe_model.specs.declared.reply.SentKind.TheVariants.{Accept as AcceptSent, Confirm as ConfirmSent, ConfirmLink as LinkSent}
use Rattle.pipe_model.specs.declared.event.Event.TheVariants.{Clc as ClcEvent}
use Rattle.pipe_model.specs.Fallback.{front_of_posts}
use Rattle.pipe_model.specs.Connections.{comes_up}
use Rattle.std.specs.Option.{option_or}
use Rattle.history_laws.specs.Words.{A, B, Cdc, ClcMessage, Declined, EndState, Entry, FellBack, HasFallen, IsUp, LinkId, Llc, NoEnd, Offer, Offered, Post, Reply, Reset, Setup, Side, WaitsAnswer, WaitsConfirm, WaitsLink, WaitsProposal, WasReset, Whole, act_in, after_clc, after_event, after_loss, clc_in, confirmed_by, early_state, end_state, front, front_of, group_on, head, is_raw, is_up, lends, lends_by, loses_group_with, named_link, new_offer, no_link, offer_in, offered, offered_if, other, same_side, stream, takes_clc, untaken, up_by}
use Rattle.history_laws.specs.Lists.{IsAmong}
use Rattle.history_laws.specs.Posts.{AreFree, IsFree}
use Rattle.history_laws.specs.Offers.{Accepts, Begins, BeginsNone, BeginsOne, Confirms, HasOffers, HasStates, NewLending, Offers, OffersAccept, OffersConfirm, OffersNone, accept_link, confirm_reply, is_early, is_none}
use Rattle.history_laws.proofs.Basics.{by-bool, none-is, or-left, or-true}
use Rattle.history_laws.proofs.Offers.StateChanges.{Does, DoesBegin, DoesNothing, DoesTake, does, state-early, state-up}
use Rattle.history_laws.specs.Made.{IsMadeAll, IsMade}
use Rattle.history_laws.proofs.Offers.Offering.{offers}
use Rattle.history_laws.proofs.Offers.Ends.{never-waits, states}
use Rattle.history_laws.proofs.Posts.{data-free}

-- lists
pub in-append : {X : Type 0} (x : X) (xs ys : List X) → IsAmong x (xs ++ ys) → IsAmong x xs ⊎ IsAmong x ys
in-append x [] ys i = inr i
in-append x (z ∷ xs) ys (inl e) = inl (inl e)
in-append x (z ∷ xs) ys (inr i) = by (in-append x xs ys i)
  where
    by : IsAmong x xs ⊎ IsAmong x ys → IsAmong x (z ∷ xs) ⊎ IsAmong x ys
    by (inl j) = inl (inr j)
    by (inr j) = inr j

pub in-front : {X : Type 0} (x : X) (xs ys : List X) → IsAmong x xs → IsAmong x (xs ++ ys)
in-front x [] ys i = absurd i
in-front x (z ∷ xs) ys (inl e) = inl e
in-front x (z ∷ xs) ys (inr i) = inr (in-front x xs ys i)

pub in-back : {X : Type 0} (x : X) (xs ys : List X) → IsAmong x ys → IsAmong x (xs ++ ys)
in-back x [] ys i = i
in-back x (z ∷ xs) ys i = inr (in-back x xs ys i)

pub in-drop : {X : Type 0} (x : X) (n : ℕ) (xs : List X) → IsAmong x (drop n xs) → IsAmong x xs
in-drop x zero xs i = i
in-drop x (suc n) [] i = i
in-drop x (suc n) (z ∷ xs) i = inr (in-drop x n xs i)

-- free posts begin nothing
free-lends : (x : Side) (p : Post) → IsFree p → lends x p ≡ None
free-lends A (Write from link key address len) f = refl
free-lends B (Write from link key address len) f = refl
free-lends A (Cdc from link m) f = refl
free-lends B (Cdc from link m) f = refl
free-lends A (Llc from link m) f = refl
free-lends B (Llc from link m) f = refl
free-lends A (Clc from s link (AcceptMessage o)) f = absurd f
free-lends B (Clc from s link (AcceptMessage o)) f = absurd f
free-lends A (Clc from s link (ConfirmMessage o)) f = absurd f
free-lends B (Clc from s link (ConfirmMessage o)) f = absurd f
free-lends A (Clc A s None (ProposalMessage p)) f = refl
free-lends A (Clc B s None (ProposalMessage p)) f = refl
free-lends B (Clc A s None (ProposalMessage p)) f = refl
free-lends B (Clc B s None (ProposalMessage p)) f = refl
free-lends A (Clc A s (Some link) (ProposalMessage p)) f = refl
free-lends A (Clc B s (Some link) (ProposalMessage p)) f = refl
free-lends B (Clc A s (Some link) (ProposalMessage p)) f = refl
free-lends B (Clc B s (Some link) (ProposalMessage p)) f = refl
free-lends A (Clc A s None (DeclineMessage p)) f = refl
free-lends A (Clc B s None (DeclineMessage p)) f = refl
free-lends B (Clc A s None (DeclineMessage p)) f = refl
free-lends B (Clc B s None (DeclineMessage p)) f = refl
free-lends A (Clc A s (Some link) (DeclineMessage p)) f = refl
free-lends A (Clc B s (Some link) (DeclineMessage p)) f = refl
free-lends B (Clc A s (Some link) (DeclineMessage p)) f = refl
free-lends B (Clc B s (Some link) (DeclineMessage p)) f = refl

free-offer : (x : Side) (t : ℕ) (p : Post) → IsFree p → offer_in x t p ≡ None
free-offer A t (Write from link key address len) f = refl
free-offer B t (Write from link key address len) f = refl
free-offer A t (Cdc from link m) f = refl
free-offer B t (Cdc from link m) f = refl
free-offer A t (Llc from link m) f = refl
free-offer B t (Llc from link m) f = refl
free-offer A t (Clc from s link (AcceptMessage o)) f = absurd f
free-offer B t (Clc from s link (AcceptMessage o)) f = absurd f
free-offer A t (Clc from s link (ConfirmMessage o)) f = absurd f
free-offer B t (Clc from s link (ConfirmMessage o)) f = absurd f
free-offer A t (Clc A s None (ProposalMessage p)) f = refl
free-offer A t (Clc B s None (ProposalMessage p)) f = refl
free-offer B t (Clc A s None (ProposalMessage p)) f = refl
free-offer B t (Clc B s None (ProposalMessage p)) f = refl
free-offer A t (Clc A s (Some link) (ProposalMessage p)) f = refl
free-offer A t (Clc B s (Some link) (ProposalMessage p)) f = refl
free-offer B t (Clc A s (Some link) (ProposalMessage p)) f = refl
free-offer B t (Clc B s (Some link) (ProposalMessage p)) f = refl
free-offer A t (Clc A s None (DeclineMessage p)) f = refl
free-offer A t (Clc B s None (DeclineMessage p)) f = refl
free-offer B t (Clc A s None (DeclineMessage p)) f = refl
free-offer B t (Clc B s None (DeclineMessage p)) f = refl
free-offer A t (Clc A s (Some link) (DeclineMessage p)) f = refl
free-offer A t (Clc B s (Some link) (DeclineMessage p)) f = refl
free-offer B t (Clc A s (Some link) (DeclineMessage p)) f = refl
free-offer B t (Clc B s (Some link) (DeclineMessage p)) f = refl

pub none-in : {X : Type 0} (f : Post → Option X) → ((p : Post) → IsFree p → f p ≡ None) → (ps : List Post) → AreFree ps → filter_map f ps ≡ []
none-in f g [] a = refl
none-in f g (p ∷ ps) a = ap (λ o. cons_option o (filter_map f ps)) (g p a.0) ∙ none-in f g ps a.1

pub free-lends-all : (x : Side) (ps : List Post) → AreFree ps → filter_map (lends x) ps ≡ []
free-lends-all x = none-in (lends x) (free-lends x)

pub free-offers-all : (x : Side) (t : ℕ) (ps : List Post) → AreFree ps → filter_map (offer_in x t) ps ≡ []
free-offers-all x t = none-in (offer_in x t) (free-offer x t)

-- no Accept and no Confirm is among them
abbrev pub is_offer_message : ClcMessage → Bool
is_offer_message (AcceptMessage o) = true
is_offer_message (ConfirmMessage o) = true
is_offer_message m = false

free-clc : (d : Side) (s : ℕ) (ps : List Post) → AreFree ps → (m : ClcMessage) → IsAmong m (filter_map (clc_in d s) ps) → is_offer_message m ≡ false
free-clc d s [] a m i = absurd i
free-clc d s (Write from link key address len ∷ ps) a m i = free-clc d s ps a.1 m i
free-clc d s (Cdc from link n ∷ ps) a m i = free-clc d s ps a.1 m i
free-clc d s (Llc from link n ∷ ps) a m i = free-clc d s ps a.1 m i
free-clc d s (Clc from t link n ∷ ps) a m i = by (same_side d from && (s == t)) (free-clc d s ps a.1 m) i
  where
    plain : (k : ClcMessage) → IsFree (Clc from t link k) → is_offer_message k ≡ false
    plain (ProposalMessage p) f = refl
    plain (AcceptMessage o) f = absurd f
    plain (ConfirmMessage o) f = absurd f
    plain (DeclineMessage r) f = refl

    by : (b : Bool) → (IsAmong m (filter_map (clc_in d s) ps) → is_offer_message m ≡ false) → IsAmong m (cons_option (if b then Some n else None) (filter_map (clc_in d s) ps)) → is_offer_message m ≡ false
    by true rest (inl e) = ap is_offer_message e ∙ plain n a.0
    by true rest (inr j) = rest j
    by false rest j = rest j

-- an offer that is a socket's own, or not
pub offered-one : (b : Bool) (link : LinkId) (o : Offer) → cons_option (offered_if b link o) [] ≡ (if b then record { link = link; offer = o } ∷ [] else [])
offered-one true link o = refl
offered-one false link o = refl

-- an end that is past the states in which it may offer stays so
loss-later : (b : Bool) (g : ℕ) (st : EndState) → is_early st ≡ false → is_early (after_loss b g st) ≡ false
loss-later true g NoEnd e = e
loss-later true g WaitsProposal e = e
loss-later true g WaitsAnswer e = e
loss-later true g WaitsConfirm e = e
loss-later true g WaitsLink e = refl
loss-later true g IsUp e = e
loss-later true g HasFallen e = e
loss-later true g (WasReset cause) e = e
loss-later false g st e = e

take-later : (r : Reply) (st : EndState) → is_early st ≡ false → is_early (after_clc r st) ≡ false
take-later (Sent AcceptSent) st e = refl
take-later (Sent ConfirmSent) st e = refl
take-later (Sent LinkSent) st e = refl
take-later (Declined lack) st e = refl
take-later FellBack st e = refl
take-later (Reset cause) st e = refl
take-later _ st e = e

pub not-none : (st : EndState) → is_early st ≡ false → is_none st ≡ false
not-none NoEnd e = absurd (true≢false e)
not-none _ e = refl

later-of : (x : Side) (s : ℕ) (past : List Entry) → is_early (early_state x s past) ≡ false → is_early (end_state x s past) ≡ false
later-of x s past e = by-bool (is_early (end_state x s past) ≡ false) (is_up x s past) (λ u. ap is_early (state-up x s past u)) (λ u. ap is_early (state-early x s past u) ∙ e)

pub taken-as : (x : Side) (s : ℕ) (e : Entry) (st : EndState) → e.event ≡ ClcEvent s (other x) → after_event x s e.event e.reply st ≡ after_clc e.reply st
taken-as A s e st ev = ap (λ v. after_event A s v e.reply st) ev ∙ ap (λ b. if b then after_clc e.reply st else st) (eq-eqb s s refl)
taken-as B s e st ev = ap (λ v. after_event B s v e.reply st) ev ∙ ap (λ b. if b then after_clc e.reply st else st) (eq-eqb s s refl)

pub taken-later : (x : Side) (s : ℕ) (e : Entry) (past : List Entry) → e.event ≡ ClcEvent s (other x) → (r : Reply) → e.reply ≡ r → ((st : EndState) → is_early (after_clc r st) ≡ false) → is_early (end_state x s (e ∷ past)) ≡ false
taken-later x s e past ev r q f = later-of x s (e ∷ past) (loss-later (loses_group_with x (group_on s past) e past) (group_on s past) (after_event x s e.event e.reply (early_state x s past))
    (ap is_early (taken-as x s e (early_state x s past) ev ∙ ap (λ p. after_clc p (early_state x s past)) q) ∙ f (early_state x s past)))

-- a message at the front of a stream of the managers
pub front-in : (payload : List ℕ) (d : Side) (s : ℕ) (past : List Entry) (m : ClcMessage) (len : ℕ) → is_raw s past ≡ false → front payload d s past ≡ Whole m len → IsAmong m (untaken d s past)
front-in payload d s past m len r f = by (untaken d s past) (sym (ap (λ b. front_of b (stream payload d s past) (untaken d s past)) r) ∙ f)
  where
    by : (ms : List ClcMessage) → front_of_posts (head ms) ≡ Whole m len → IsAmong m ms
    by [] g = cc
    by (n ∷ ms) g = inl (let w : n ≡ m = cc in sym w)

module _ (setup : Setup) (payload : List ℕ) (past : List Entry) (before : ℕ) (e : Entry) (made : IsMade setup payload past before e) (st : (s : ℕ) → HasStates s past) (off : (s : ℕ) → HasOffers s past) where
  pub of-entry : Offers setup payload e past
  of-entry = offers setup payload past before e made (λ s. never-waits s past (st s))

  -- A that waits for an answer is on a socket that is not raw, and takes what B has offered
  not-raw : (s : ℕ) → end_state A s past ≡ WaitsAnswer → is_raw s past ≡ false
  not-raw s w = by-bool (is_raw s past ≡ false) (is_up A s past) (λ u. absurd (up-not (sym (state-up A s past u) ∙ w)))
      (λ u. let h = st s in h.apart (h.opened (ap is_none (sym (state-early A s past u) ∙ w))))
    where
      up-not : IsUp ≡ WaitsAnswer → ⊥
      up-not i = cc

  pub accept-is : (c : Confirms setup payload e past) → (link : LinkId) × (offered B c.s past ≡ Some (record { link = link; offer = c.offer }))
  accept-is c = let h = off c.s in h.accepted c.offer (front-in payload B c.s past (AcceptMessage c.offer) c.len (not-raw c.s c.waits) c.front_is)

  -- a side that takes part in an offer
  abbrev pub accept-new : Accepts setup payload e past → NewLending setup payload B e past
  accept-new a = record {
    s = a.s;
    first = a.first;
    link = accept_link setup payload a.first past;
    event_is = a.event_is;
    early = ap is_early a.waits;
    later = taken-later B a.s e past a.event_is (Sent AcceptSent) a.reply_is (λ s. refl);
    offers = λ t. ap (λ ps. filter_map (offer_in B t) ps) a.posts_are ∙ (ap (λ os. cons_option (offered_if (t == a.s) (accept_link setup payload a.first past) (new_offer setup payload B a.first (accept_link setup payload a.first past) past)) os) (free-offers-all B t a.more (data-free a.more a.plain))
        ∙ offered-one (t == a.s) (accept_link setup payload a.first past) (new_offer setup payload B a.first (accept_link setup payload a.first past) past));
    named_is = λ i. (let w : A ≡ B = sym i in cc);
    link_is = λ i. refl;
    step_is = (a.message, a.step_is);
    posts_are = (a.more, a.posts_are);
    reply_is = a.reply_is;
    lends_one = ap (λ ps. filter_map (lends B) ps) a.posts_are ∙ ap (λ ls. lends_by a.s (accept_link setup payload a.first past) (new_offer setup payload B a.first (accept_link setup payload a.first past) past) ∷ ls) (free-lends-all B a.more (data-free a.more a.plain));
  }

  pub named-is : (c : Confirms setup payload e past) → named_link c.s past ≡ Some (unwrap_or (named_link c.s past) no_link)
  named-is c = let q = accept-is c in ap (λ o. option_map (λ (r : Offered). r.link) o) q.1 ∙ ap (λ l. Some l) (sym (ap (λ o. unwrap_or (option_map (λ (r : Offered). r.link) o) no_link) q.1))

  pub confirm-later : (c : Confirms setup payload e past) (first : Bool) → e.reply ≡ confirm_reply first → is_early (end_state A c.s (e ∷ past)) ≡ false
  confirm-later c true r = taken-later A c.s e past c.event_is (Sent ConfirmSent) r (λ s. refl)
  confirm-later c false r = ap is_early (state-up A c.s (e ∷ past) (or-left (is_some (comes_up A c.s e past)) (is_up A c.s past) (ap (λ o. is_some o) comes)))
    where
      comes : comes_up A c.s e past ≡ Some (unwrap_or (named_link c.s past) no_link)
      comes = ap (λ o. option_or o (option_and_then (λ act. confirmed_by (offered B c.s past) act.link act.step) (act_in A e past)))
          (ap (λ v. up_by A c.s v e.reply past) c.event_is ∙ (ap (λ q. up_by A c.s (ClcEvent c.s B) q past) r ∙ (ap (λ b. if b then named_link c.s past else None) (eq-eqb c.s c.s refl) ∙ named-is c)))

  abbrev pub confirm-new : Confirms setup payload e past → NewLending setup payload A e past
  confirm-new c =
      let link : LinkId = unwrap_or (named_link c.s past) no_link in
      record {
        s = c.s;
        first = c.first;
        link = link;
        event_is = c.event_is;
        early = ap is_early c.waits;
        later = confirm-later c c.first c.reply_is;
        offers = λ t. ap (λ ps. filter_map (offer_in A t) ps) c.posts_are ∙ (ap (λ os. cons_option (offered_if (t == c.s) (unwrap_or (named_link c.s past) no_link) (new_offer setup payload A c.first (unwrap_or (named_link c.s past) no_link) past)) os) (free-offers-all A t c.more (data-free c.more c.plain))
            ∙ offered-one (t == c.s) (unwrap_or (named_link c.s past) no_link) (new_offer setup payload A c.first (unwrap_or (named_link c.s past) no_link) past));
        named_is = λ i. named-is c;
        link_is = λ i. (let w : A ≡ B = i in cc);
        step_is = (AcceptMessage c.offer, c.step_is);
        posts_are = (c.more, c.posts_are);
        reply_is = c.reply_is;
        lends_one = ap (λ ps. filter_map (lends A) ps) c.posts_are ∙ ap (λ ls. lends_by c.s (unwrap_or (named_link c.s past) no_link) (new_offer setup payload A c.first (unwrap_or (named_link c.s past) no_link) past) ∷ ls) (free-lends-all A c.more (data-free c.more c.plain));
      }

  -- what the entry makes a side lend
  pub begins : (x : Side) → Begins setup payload x e past
  begins x = by of-entry x
    where
      by : Offers setup payload e past → (y : Side) → Begins setup payload y e past
      by (OffersNone f) y = BeginsNone (free-lends-all y e.posts f) (λ t. free-offers-all y t e.posts f)
      by (OffersAccept a) B = BeginsOne (accept-new a)
      by (OffersAccept a) A = BeginsNone (ap (λ ps. filter_map (lends A) ps) a.posts_are ∙ free-lends-all A a.more (data-free a.more a.plain)) (λ t. ap (λ ps. filter_map (offer_in A t) ps) a.posts_are ∙ free-offers-all A t a.more (data-free a.more a.plain))
      by (OffersConfirm c) A = BeginsOne (confirm-new c)
      by (OffersConfirm c) B = BeginsNone (ap (λ ps. filter_map (lends B) ps) c.posts_are ∙ free-lends-all B c.more (data-free c.more c.plain)) (λ t. ap (λ ps. filter_map (offer_in B t) ps) c.posts_are ∙ free-offers-all B t c.more (data-free c.more c.plain))

  -- an end that is past those states stays so
  pub later-stays : (x : Side) (s : ℕ) → is_early (end_state x s past) ≡ false → is_early (end_state x s (e ∷ past)) ≡ false
  later-stays x s l = by-bool (is_early (end_state x s (e ∷ past)) ≡ false) (is_up x s past)
      (λ u. ap is_early (state-up x s (e ∷ past) (or-true (is_some (comes_up x s e past)) (is_up x s past) u)))
      (λ u. waiting (sym (ap is_early (state-early x s past u)) ∙ l))
    where
      waiting : is_early (early_state x s past) ≡ false → is_early (end_state x s (e ∷ past)) ≡ false
      waiting m = later-of x s (e ∷ past) (loss-later (loses_group_with x (group_on s past) e past) (group_on s past) (after_event x s e.event e.reply (early_state x s past)) (by (let h = st s in does setup payload past before e made s (h.begun x (not-none (early_state x s past) m)) x (early_state x s past))))
        where
          by : Does x s e (early_state x s past) (after_event x s e.event e.reply (early_state x s past)) → is_early (after_event x s e.event e.reply (early_state x s past)) ≡ false
          by (DoesNothing i) = ap is_early i ∙ m
          by (DoesTake ev i) = ap is_early i ∙ take-later e.reply (early_state x s past) m
          by (DoesBegin n b i) = absurd (true≢false (sym n ∙ not-none (early_state x s past) m))

  -- an offer stays: no second one is made on its socket
  pub kept : (x : Side) (s : ℕ) (o : Offered) → offered x s past ≡ Some o → offered x s (e ∷ past) ≡ Some o
  kept x s o i = by (begins x)
    where
      as-was : filter_map (offer_in x s) e.posts ≡ [] → offered x s (e ∷ past) ≡ Some o
      as-was n = ap (λ (os : List Offered). option_or (head os) (offered x s past)) n ∙ i

      by : Begins setup payload x e past → offered x s (e ∷ past) ≡ Some o
      by (BeginsNone l n) = as-was (n s)
      by (BeginsOne n) = by-bool (offered x s (e ∷ past) ≡ Some o) (s == n.s)
          (λ q. absurd (true≢false (sym n.early ∙ (ap (λ t. is_early (end_state x t past)) (sym (eqb-true s n.s q)) ∙ (let h = off s in h.later x o i)))))
          (λ q. as-was (n.offers s ∙ ap (λ b. if b then record { link = n.link; offer = new_offer setup payload x n.first n.link past } ∷ [] else []) q))

  -- where it was not there before, it is new
  pub new-or-old : (x : Side) (s : ℕ) → (offered x s (e ∷ past) ≡ offered x s past) ⊎ ((n : NewLending setup payload x e past) × ((s ≡ n.s) × (offered x s (e ∷ past) ≡ Some (record { link = n.link; offer = new_offer setup payload x n.first n.link past }))))
  new-or-old x s = by (begins x)
    where
      by : Begins setup payload x e past → (offered x s (e ∷ past) ≡ offered x s past) ⊎ ((n : NewLending setup payload x e past) × ((s ≡ n.s) × (offered x s (e ∷ past) ≡ Some (record { link = n.link; offer = new_offer setup payload x n.first n.link past }))))
      by (BeginsNone l n) = inl (ap (λ (os : List Offered). option_or (head os) (offered x s past)) (n s))
      by (BeginsOne n) = by-bool _ (s == n.s)
          (λ q. inr (n, (eqb-true s n.s q, ap (λ (os : List Offered). option_or (head os) (offered x s past)) (n.offers s ∙ ap (λ b. if b then record { link = n.link; offer = new_offer setup payload x n.first n.link past } ∷ [] else []) q))))
          (λ q. inl (ap (λ (os : List Offered). option_or (head os) (offered x s past)) (n.offers s ∙ ap (λ b. if b then record { link = n.link; offer = new_offer setup payload x n.first n.link past } ∷ [] else []) q)))

  later-after : (s : ℕ) (x : Side) (o : Offered) → offered x s (e ∷ past) ≡ Some o → is_early (end_state x s (e ∷ past)) ≡ false
  later-after s x o i = by (new-or-old x s)
    where
      by : (offered x s (e ∷ past) ≡ offered x s past) ⊎ ((n : NewLending setup payload x e past) × ((s ≡ n.s) × (offered x s (e ∷ past) ≡ Some (record { link = n.link; offer = new_offer setup payload x n.first n.link past })))) → is_early (end_state x s (e ∷ past)) ≡ false
      by (inl same) = later-stays x s (let h = off s in h.later x o (sym same ∙ i))
      by (inr q) = let n = q.0 in let r = q.1 in ap (λ t. is_early (end_state x t (e ∷ past))) r.0 ∙ n.later

  accepted-after : (s : ℕ) (o : Offer) → IsAmong (AcceptMessage o) (untaken B s (e ∷ past)) → (link : LinkId) × (offered B s (e ∷ past) ≡ Some (record { link = link; offer = o }))
  accepted-after s o i = by (in-append (AcceptMessage o) (drop (if takes_clc B s e.event e.reply then 1 else 0) (untaken B s past)) (filter_map (clc_in B s) e.posts) i)
    where
      old : IsAmong (AcceptMessage o) (untaken B s past) → (link : LinkId) × (offered B s (e ∷ past) ≡ Some (record { link = link; offer = o }))
      old j = let h = off s in let q = h.accepted o j in (q.0, kept B s (record { link = q.0; offer = o }) q.1)

      new : Offers setup payload e past → IsAmong (AcceptMessage o) (filter_map (clc_in B s) e.posts) → (link : LinkId) × (offered B s (e ∷ past) ≡ Some (record { link = link; offer = o }))
      new (OffersNone f) j = absurd (true≢false (free-clc B s e.posts f (AcceptMessage o) j))
      new (OffersConfirm c) j = absurd (true≢false (free-clc B s c.more (data-free c.more c.plain) (AcceptMessage o) (subst (λ ps. IsAmong (AcceptMessage o) (filter_map (clc_in B s) ps)) c.posts_are j)))
      new (OffersAccept a) j = meet (s == a.s) refl (subst (λ ps. IsAmong (AcceptMessage o) (filter_map (clc_in B s) ps)) a.posts_are j)
        where
          link : LinkId
          link = accept_link setup payload a.first past

          offer : Offer
          offer = new_offer setup payload B a.first (accept_link setup payload a.first past) past

          is-offered : (s == a.s) ≡ true → offered B s (e ∷ past) ≡ Some (record { link = link; offer = offer })
          is-offered q = ap (λ ps. option_or (head (filter_map (offer_in B s) ps)) (offered B s past)) a.posts_are ∙ ap (λ b. option_or (head (cons_option (offered_if b link offer) (filter_map (offer_in B s) a.more))) (offered B s past)) q

          meet : (b : Bool) → (s == a.s) ≡ b → IsAmong (AcceptMessage o) (cons_option (if b then Some (AcceptMessage offer) else None) (filter_map (clc_in B s) a.more)) → (l : LinkId) × (offered B s (e ∷ past) ≡ Some (record { link = l; offer = o }))
          meet true q (inl k) = (link, is-offered q ∙ ap (λ (p : Offer). Some (record { link = link; offer = p })) (let w : offer ≡ o = same-offer offer o (sym k) in w))
            where
              same-offer : (p r : Offer) → AcceptMessage p ≡ AcceptMessage r → p ≡ r
              same-offer p r h = cc
          meet true q (inr k) = absurd (true≢false (free-clc B s a.more (data-free a.more a.plain) (AcceptMessage o) k))
          meet false q k = absurd (true≢false (free-clc B s a.more (data-free a.more a.plain) (AcceptMessage o) k))

      by : IsAmong (AcceptMessage o) (drop (if takes_clc B s e.event e.reply then 1 else 0) (untaken B s past)) ⊎ IsAmong (AcceptMessage o) (filter_map (clc_in B s) e.posts) → (link : LinkId) × (offered B s (e ∷ past) ≡ Some (record { link = link; offer = o }))
      by (inl j) = old (in-drop (AcceptMessage o) (if takes_clc B s e.event e.reply then 1 else 0) (untaken B s past) j)
      by (inr j) = new of-entry j

  confirmed-after : (s : ℕ) (o : Offer) → IsAmong (ConfirmMessage o) (untaken A s (e ∷ past)) → (link : LinkId) × (offered A s (e ∷ past) ≡ Some (record { link = link; offer = o }))
  confirmed-after s o i = by (in-append (ConfirmMessage o) (drop (if takes_clc A s e.event e.reply then 1 else 0) (untaken A s past)) (filter_map (clc_in A s) e.posts) i)
    where
      old : IsAmong (ConfirmMessage o) (untaken A s past) → (link : LinkId) × (offered A s (e ∷ past) ≡ Some (record { link = link; offer = o }))
      old j = let h = off s in let q = h.confirmed o j in (q.0, kept A s (record { link = q.0; offer = o }) q.1)

      new : Offers setup payload e past → IsAmong (ConfirmMessage o) (filter_map (clc_in A s) e.posts) → (link : LinkId) × (offered A s (e ∷ past) ≡ Some (record { link = link; offer = o }))
      new (OffersNone f) j = absurd (true≢false (free-clc A s e.posts f (ConfirmMessage o) j))
      new (OffersAccept a) j = absurd (true≢false (free-clc A s a.more (data-free a.more a.plain) (ConfirmMessage o) (subst (λ ps. IsAmong (ConfirmMessage o) (filter_map (clc_in A s) ps)) a.posts_are j)))
      new (OffersConfirm c) j = meet (s == c.s) refl (subst (λ ps. IsAmong (ConfirmMessage o) (filter_map (clc_in A s) ps)) c.posts_are j)
        where
          link : LinkId
          link = unwrap_or (named_link c.s past) no_link

          offer : Offer
          offer = new_offer setup payload A c.first (unwrap_or (named_link c.s past) no_link) past

          is-offered : (s == c.s) ≡ true → offered A s (e ∷ past) ≡ Some (record { link = link; offer = offer })
          is-offered q = ap (λ ps. option_or (head (filter_map (offer_in A s) ps)) (offered A s past)) c.posts_are ∙ ap (λ b. option_or (head (cons_option (offered_if b link offer) (filter_map (offer_in A s) c.more))) (offered A s past)) q

          meet : (b : Bool) → (s == c.s) ≡ b → IsAmong (ConfirmMessage o) (cons_option (if b then Some (ConfirmMessage offer) else None) (filter_map (clc_in A s) c.more)) → (l : LinkId) × (offered A s (e ∷ past) ≡ Some (record { link = l; offer = o }))
          meet true q (inl k) = (link, is-offered q ∙ ap (λ (p : Offer). Some (record { link = link; offer = p })) (let w : offer ≡ o = same-offer offer o (sym k) in w))
            where
              same-offer : (p r : Offer) → ConfirmMessage p ≡ ConfirmMessage r → p ≡ r
              same-offer p r h = cc
          meet true q (inr k) = absurd (true≢false (free-clc A s c.more (data-free c.more c.plain) (ConfirmMessage o) k))
          meet false q k = absurd (true≢false (free-clc A s c.more (data-free c.more c.plain) (ConfirmMessage o) k))

      by : IsAmong (ConfirmMessage o) (drop (if takes_clc A s e.event e.reply then 1 else 0) (untaken A s past)) ⊎ IsAmong (ConfirmMessage o) (filter_map (clc_in A s) e.posts) → (link : LinkId) × (offered A s (e ∷ past) ≡ Some (record { link = link; offer = o }))
      by (inl j) = old (in-drop (ConfirmMessage o) (if takes_clc A s e.event e.reply then 1 else 0) (untaken A s past) j)
      by (inr j) = new of-entry j

  answer-after : (s : ℕ) → offered B s (e ∷ past) ≡ None → offered A s (e ∷ past) ≡ None
  answer-after s none = by of-entry
    where
      before-none : (o : Option Offered) → offered B s past ≡ o → offered B s past ≡ None
      before-none None i = i
      before-none (Some q) i = absurd (none-is q (sym none ∙ kept B s q i))

      was : offered A s past ≡ None
      was = let h = off s in h.answer (before-none (offered B s past) refl)

      by : Offers setup payload e past → offered A s (e ∷ past) ≡ None
      by (OffersNone f) = ap (λ (os : List Offered). option_or (head os) (offered A s past)) (free-offers-all A s e.posts f) ∙ was
      by (OffersAccept a) = ap (λ (ps : List Post). option_or (head (filter_map (offer_in A s) ps)) (offered A s past)) a.posts_are ∙ (ap (λ (os : List Offered). option_or (head os) (offered A s past)) (free-offers-all A s a.more (data-free a.more a.plain)) ∙ was)
      by (OffersConfirm c) = by-bool (offered A s (e ∷ past) ≡ None) (s == c.s)
          (λ q. let b = accept-is c in absurd (none-is _ (sym (before-none (offered B s past) refl) ∙ (ap (λ t. offered B t past) (eqb-true s c.s q) ∙ b.1))))
          (λ q. ap (λ (os : List Offered). option_or (head os) (offered A s past)) (let n = confirm-new c in n.offers s ∙ ap (λ b. if b then record { link = n.link; offer = new_offer setup payload A n.first n.link past } ∷ [] else []) q) ∙ was)

  pub offers-after : (s : ℕ) → HasOffers s (e ∷ past)
  offers-after s = record { later = later-after s; accepted = accepted-after s; confirmed = confirmed-after s; answer = answer-after s }

-- after each history
pub all-offers : (setup : Setup) (payload : List ℕ) (past : List Entry) → IsMadeAll setup payload past → (s : ℕ) → HasOffers s past
all-offers setup payload [] m s = record { later = λ x o i. absurd (none-is o i); accepted = λ o i. absurd i; confirmed = λ o i. absurd i; answer = λ i. refl }
all-offers setup payload (e ∷ past) m s = let one = m.0 in offers-after setup payload past one.0 e one.1 (states setup payload past m.1) (all-offers setup payload past m.1) s
