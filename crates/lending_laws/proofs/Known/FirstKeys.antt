-- In first contact a side has the key that it offered and has confirmed no other RMB: after every history.
use Rattle.std.proofs.Common.{Bool, List, Some, [], ap, arith, eq-eqb, eqb-true, false, if◌then◌else◌, inl, inr, refl, subst, sym, true, true≢false, ℕ, ◌++◌, ◌+◌, ◌==◌, ◌∙◌, ◌∷◌, ◌≡◌, ◌≢◌, ◌⊎◌}
use Rattle.std.specs.Prelude.{None, Option, fold, option_map, unwrap_or}
use Rattle.pipe_model.specs.Keys.{by_post, confirms, offers as offers_keys}
use Rattle.pipe_model.specs.Flows.{LinkSent}
use Rattle.pipe_model.specs.declared.post.Post.TheVariants.{Clc, Write}
use Rattle.pipe_model.specs.Fabric.{does, loses}
use Rattle.pipe_model.specs.declared.flow.KeyPhase.TheVariants.{Asked, Free}
use Rattle.pipe_model.specs.declared.event.Event.TheVariants.{Clc as ClcEvent}
use Rattle.pipe_model.specs.declared.flow.FlowStep.TheVariants.{Confirmed}
use Rattle.history_laws.specs.Words.{A, Abandoned, AddKeys, AddLink, AddSeen, AddSent, B, Cdc, ConfirmLink, ConfirmRkey, DeleteLink, DeleteRkey, Deleting, Entry, Fabric, FirstContact, Flow, FlowStep, Forget, Key, Keys, KeysSent, Known, Learn, LinkFlow, LinkId, Llc, LlcMessage, NoFlow, Offer, Offered, Peer, Post, ReplyAdd, ReplyRetry, SendKeys, Setup, Side, TestLink, Withdraw, accept_post, act_by, act_in, at_side, book_of, by_act, confirm_post, delete_reply, fabric, flow_of, group_of, groups_begun, is_first_contact, key_base, key_reply, keys_of, named_link, new_offer, next_free, no_flow, no_keys, no_link, number_for, offered, other, peer, peer_of, registers, resends_key, rkey_post, rmb_address, rmb_at, table_of}
use Rattle.history_laws.specs.Posts.{AreData, is_data}
use Rattle.history_laws.specs.Made.{IsMadeAll, IsMade}
use Rattle.history_laws.specs.Lists.{IsAmong}
use Rattle.history_laws.specs.Offers.{Accepts, Confirms as ConfirmsOffer, HasOffers, NewLending, accept_link, is_early}
use Rattle.history_laws.proofs.Basics.{none-is, rmb-of, some-is}
use Rattle.history_laws.proofs.Offers.{all-offers, new-or-old, states}
use Rattle.link_laws.specs.Linked.{AreLinked, Begins as BeginsSound, Confirms as ConfirmsSound, Goes, HasNone, IsOwn, IsSound, LinkFits, Under, phases}
use Rattle.link_laws.specs.StepSays.{is_ask_request, is_delete_request}
use Rattle.link_laws.specs.Posted.{AreSilent, AsksAgain, ByForgetting, ByAnswer as ByKeysAnswer, ByLearning, ByLoss, ByRefusal, ByRetry, ByTelling, ByTrim, ByVerdict, DeletesAgain, KeysPosted, Loss, TellsAgain, VerdictAsks, is_of_keys}
use Rattle.link_laws.specs.KeyChanges.{ByAnswer, ByOffer, Confirms, ForAsked, ForMade, ForOffer, ForTold, GroupGoes, Registers, Withdrawn, changes_keys, offered_key}
use Rattle.link_laws.specs.FabricChanges.{OffersFirst, Takes, offer_post}
use Rattle.link_laws.proofs.KeyMessages.{keys-posted, takes-says}
use Rattle.link_laws.proofs.Fabric.{fabric-taken}
use Rattle.link_laws.proofs.Keys.{confirmed-from, registered}
use Rattle.link_laws.specs.Joined.{HasContact, IsContacted}
use Rattle.link_laws.specs.Awaited.{AreAwaited}
use Rattle.link_laws.proofs.Contact.{Begins, Joins, Kind, Moves, Plain, Readies, joined-next, kind-given, offered-row}
use Rattle.link_laws.specs.Offered.{AreOffered}
use Rattle.link_laws.specs.Contact.{AreCounted, AreLater, IsOfferedFirst}
use Rattle.link_laws.proofs.Joined.{has-contact}
use Rattle.link_laws.proofs.Waiting.{all-awaited}
use Rattle.link_laws.specs.UnderWay.{HasFlows}
use Rattle.lending_laws.proofs.Keys.{asked-key, message-of, stays-key}
use Rattle.lending_laws.proofs.Ends.{begins-a, begins-b, same-first}
use Rattle.lending_laws.proofs.Known.FirstOffers.{BeginsA, BeginsB, begins-a as first-a, begins-b as first-b}
use Rattle.lending_laws.specs.FirstKeys.{HasFirstKeys}
use Rattle.lending_laws.proofs.Lendings.{same-link}

-- a side without a group has no keys
pub none-without : (x : Side) (past : List Entry) → group_of x past ≡ 0 → keys_of x past ≡ no_keys
none-without x [] z = refl
none-without x (e ∷ past) z = ap (λ b. if b then no_keys else fold (by_post x (table_of x (e ∷ past))) (by_act x (flow_of x past) (table_of x (e ∷ past)) (act_in x e past) (keys_of x past)) e.posts) (eq-eqb (group_of x (e ∷ past)) 0 z)

-- a side in first contact does nothing else
pub first-flow : (x : Side) (p : Peer) → IsSound x p → is_first_contact p.flow.link ≡ true → p.flow ≡ record no_flow { link = FirstContact }
first-flow x p (HasNone g f n) first = absurd (true≢false (sym first ∙ ap (λ (f : Flow). is_first_contact f.link) f))
first-flow x p (BeginsSound g f t) first = f
first-flow x p (ConfirmsSound link g f t) first = f
first-flow x p (Goes k g l f) first = absurd (by p.flow.link first f.link)
  where
    by : (flow : LinkFlow) → is_first_contact flow ≡ true → LinkFits (phases p) flow → ⊥
    by FirstContact h fits = fits
    by NoFlow h fits = true≢false (sym h)
    by (AddSent j on) h fits = true≢false (sym h)
    by (KeysSent j on) h fits = true≢false (sym h)
    by (LinkSent j) h fits = true≢false (sym h)
    by (Abandoned on) h fits = true≢false (sym h)
    by (AddSeen j) h fits = true≢false (sym h)

-- data change no keys
data-keeps : (x : Side) (table : List Known) (ks : Keys) (ps : List Post) → AreData ps → fold (by_post x table) ks ps ≡ ks
data-keeps x table ks [] d = refl
data-keeps x table ks (p ∷ ps) d = ap (λ ks. fold (by_post x table) ks ps) (one x p d.0) ∙ data-keeps x table ks ps d.1
  where
    one : (x : Side) (p : Post) → is_data p ≡ true → by_post x table ks p ≡ ks
    one A (Write from link key address len) h = refl
    one A (Cdc from link m) h = refl
    one B (Write from link key address len) h = refl
    one B (Cdc from link m) h = refl
    one x (Llc from link m) h = absurd (true≢false (sym h))
    one x (Clc from s link m) h = absurd (true≢false (sym h))

key-reply-no : (b : Bool) (m : LlcMessage) → is_ask_request m ≡ true → is_ask_request (key_reply b m) ≡ false
key-reply-no b (ConfirmRkey reply retry negative others tokens) e = refl
key-reply-no b (DeleteRkey reply negative count mask keys) e = absurd (true≢false (sym e))
key-reply-no b (ConfirmLink reply mac gid qp k user most) e = absurd (true≢false (sym e))
key-reply-no b (AddLink reply rejected reason mac gid qp k mtu psn) e = absurd (true≢false (sym e))
key-reply-no b (AddKeys reply k count keys) e = absurd (true≢false (sym e))
key-reply-no b (DeleteLink reply every orderly k reason) e = absurd (true≢false (sym e))
key-reply-no b (TestLink reply bytes) e = absurd (true≢false (sym e))

-- a request that is posted is one of two: of a verdict, or again as a link is lost
pub data AskPosted (setup : Setup) (payload : List ℕ) (e : Entry) (past : List Entry) (x : Side) (post : Post) : Type 0 where
  AskedByVerdict : VerdictAsks setup payload x e past → post ≡ rkey_post x (next_free setup payload x past).rmb (peer_of x past) (keys_of x past).keys → AskPosted setup payload e past x post
  AskedAgain : (k : ℕ) → Loss x k e past → ((loses k (peer_of x past)).group == 0) ≡ false → ((step : FlowStep) → changes_keys step ≡ true → Takes x e past step → ⊥) → (flow_of x past).key ≡ Asked → resends_key k (flow_of x past) ≡ true
      → post ≡ rkey_post x (loses k (peer_of x past)).flow.rmb (loses k (peer_of x past)) (keys_of x past).keys
      → (before after : List Post) → e.posts ≡ before ++ post ∷ after → AreSilent before → AskPosted setup payload e past x post

pub ask-posted : (setup : Setup) (payload : List ℕ) (e : Entry) (past : List Entry) (before : ℕ) → IsMade setup payload past before e → (x : Side) (l : LinkId) (m : LlcMessage) → is_ask_request m ≡ true → IsAmong (Llc x l m) e.posts → AskPosted setup payload e past x (Llc x l m)
ask-posted setup payload e past before made x l m is i = by (keys-posted setup payload past before e made x l m (keys-kind m is) i)
  where
    keys-kind : (m : LlcMessage) → is_ask_request m ≡ true → is_of_keys m ≡ true
    keys-kind (ConfirmRkey reply retry negative others tokens) e = refl
    keys-kind (DeleteRkey reply negative count mask keys) e = absurd (true≢false (sym e))
    keys-kind (ConfirmLink reply mac gid qp k user most) e = absurd (true≢false (sym e))
    keys-kind (AddLink reply rejected reason mac gid qp k mtu psn) e = absurd (true≢false (sym e))
    keys-kind (AddKeys reply k count keys) e = absurd (true≢false (sym e))
    keys-kind (DeleteLink reply every orderly k reason) e = absurd (true≢false (sym e))
    keys-kind (TestLink reply bytes) e = absurd (true≢false (sym e))

    not-it : (n : LlcMessage) → m ≡ n → is_ask_request n ≡ false → ⊥
    not-it n q f = true≢false (sym is ∙ (ap is_ask_request q ∙ f))

    by : KeysPosted setup payload e past x (Llc x l m) → AskPosted setup payload e past x (Llc x l m)
    by (ByVerdict va h) = AskedByVerdict va h
    by (ByLoss k loss some still (AsksAgain a r h qs rs split silent)) = AskedAgain k loss some still a r h qs rs split silent
    by (ByLoss k loss some still (DeletesAgain a r h)) = absurd (not-it _ (message-of x x l _ m _ h) refl)
    by (ByLoss k loss some still (TellsAgain j on f r h)) = absurd (not-it _ (message-of x x l _ m _ h) refl)
    by (ByTrim ev r h) = absurd (not-it _ (message-of x x l _ m _ h) refl)
    by (ByTelling t h) = absurd (not-it _ (message-of x B l _ m _ h) refl)
    by (ByKeysAnswer t h) = absurd (not-it _ (message-of x x l _ m _ h) refl)
    by (ByRefusal t h) = absurd (not-it _ (message-of x x l _ m _ h) refl)
    by (ByRetry t h) = absurd (not-it _ (message-of x x l _ m _ h) (key-reply-no true t.act.message (takes-says x e past ReplyRetry t).1.0))
    by (ByLearning t h) = absurd (not-it _ (message-of x x l _ m _ h) (key-reply-no false t.act.message (takes-says x e past Learn t).0))
    by (ByForgetting t h) = absurd (not-it _ (message-of x x l _ m _ h) (delete-no t.act.message (takes-says x e past Forget t)))
      where
        delete-no : (n : LlcMessage) → is_delete_request n ≡ true → is_ask_request (delete_reply t.act.link (book_of x past) n) ≡ false
        delete-no (DeleteRkey reply negative count mask keys) e = refl
        delete-no (ConfirmRkey reply retry negative others tokens) e = absurd (true≢false (sym e))
        delete-no (ConfirmLink reply mac gid qp k user most) e = refl
        delete-no (AddLink reply rejected reason mac gid qp k mtu psn) e = refl
        delete-no (AddKeys reply k count keys) e = refl
        delete-no (DeleteLink reply every orderly k reason) e = refl
        delete-no (TestLink reply bytes) e = refl

module _ (setup : Setup) (payload : List ℕ) (e : Entry) (past : List Entry) (m : IsMadeAll setup payload (e ∷ past)) where
  -- an offer of first contact is made in no group
  pub first-none : (x : Side) (link : LinkId) (o : Offer) → OffersFirst x e link o → group_of x past ≡ 0
  first-none A link o it = begins-a setup payload e past m link o it
  first-none B link o it = (begins-b setup payload e past m link o it).0

  -- the keys of a side that offers in first contact
  pub begun-keys : (x : Side) (link : LinkId) (o : Offer) → OffersFirst x e link o → (group_of x (e ∷ past) == 0) ≡ false → keys_of x (e ∷ past) ≡ record { keys = registers (key_base x) (rmb_at o.address) [] link; confirmed = confirms (rmb_at o.address) [] }
  begun-keys x link o it some = ap (λ b. if b then no_keys else fold (by_post x (table_of x (e ∷ past))) (by_act x (flow_of x past) (table_of x (e ∷ past)) (act_in x e past) (keys_of x past)) e.posts) some ∙ (by x it)
    where
      no-act : (z : Side) (s : ℕ) → e.event ≡ ClcEvent s (other z) → act_in z e past ≡ None
      no-act A s ev = ap (λ v. act_by A v e.reply past) ev
      no-act B s ev = ap (λ v. act_by B v e.reply past) ev

      taken : (z : Side) (s : ℕ) → e.event ≡ ClcEvent s (other z) → group_of z past ≡ 0 → by_act z (flow_of z past) (table_of z (e ∷ past)) (act_in z e past) (keys_of z past) ≡ no_keys
      taken z s ev none = ap (λ o. by_act z (flow_of z past) (table_of z (e ∷ past)) o (keys_of z past)) (no-act z s ev) ∙ none-without z past none

      by : (z : Side) → OffersFirst z e link o → fold (by_post z (table_of z (e ∷ past))) (by_act z (flow_of z past) (table_of z (e ∷ past)) (act_in z e past) (keys_of z past)) e.posts ≡ record { keys = registers (key_base z) (rmb_at o.address) [] link; confirmed = confirms (rmb_at o.address) [] }
      by B it = at (first-b setup payload e past m link o it)
        where
          at : BeginsB setup payload e past link o → fold (by_post B (table_of B (e ∷ past))) (by_act B (flow_of B past) (table_of B (e ∷ past)) (act_in B e past) (keys_of B past)) e.posts ≡ record { keys = registers (key_base B) (rmb_at o.address) [] link; confirmed = confirms (rmb_at o.address) [] }
          at b = with-it b.accepts b.first
            where
              with-it : (a : Accepts setup payload e past) → a.first ≡ true → fold (by_post B (table_of B (e ∷ past))) (by_act B (flow_of B past) (table_of B (e ∷ past)) (act_in B e past) (keys_of B past)) e.posts ≡ record { keys = registers (key_base B) (rmb_at o.address) [] link; confirmed = confirms (rmb_at o.address) [] }
              with-it a first =
                  ap (λ ks. fold (by_post B (table_of B (e ∷ past))) ks e.posts) (taken B a.s a.event_is (first-none B link o it))
                  ∙ (ap (λ ps. fold (by_post B (table_of B (e ∷ past))) no_keys ps) (a.posts_are ∙ posts)
                  ∙ (data-keeps B (table_of B (e ∷ past)) (offers_keys B link o no_keys) a.more a.plain
                  ∙ ap (λ b. if b then record { keys = registers (key_base B) (rmb_at o.address) [] link; confirmed = confirms (rmb_at o.address) [] } else no_keys) it.first))
                where
                  posts : accept_post setup payload a.s a.first (accept_link setup payload a.first past) past ∷ a.more ≡ offer_post B a.s link o ∷ a.more
                  posts = ap (λ b. accept_post setup payload a.s b (accept_link setup payload b past) past ∷ a.more) first
                      ∙ (ap (λ l. accept_post setup payload a.s true l past ∷ a.more) (sym b.link_is)
                      ∙ ap (λ n. offer_post B a.s link n ∷ a.more) (sym b.offer_is))
      by A it = at (first-a setup payload e past m link o it)
        where
          at : BeginsA setup payload e past link o → fold (by_post A (table_of A (e ∷ past))) (by_act A (flow_of A past) (table_of A (e ∷ past)) (act_in A e past) (keys_of A past)) e.posts ≡ record { keys = registers (key_base A) (rmb_at o.address) [] link; confirmed = confirms (rmb_at o.address) [] }
          at b = with-it b.confirms b.first b.link_is
            where
              with-it : (c : ConfirmsOffer setup payload e past) → c.first ≡ true → link ≡ unwrap_or (named_link c.s past) no_link → fold (by_post A (table_of A (e ∷ past))) (by_act A (flow_of A past) (table_of A (e ∷ past)) (act_in A e past) (keys_of A past)) e.posts ≡ record { keys = registers (key_base A) (rmb_at o.address) [] link; confirmed = confirms (rmb_at o.address) [] }
              with-it c first link_is =
                  ap (λ ks. fold (by_post A (table_of A (e ∷ past))) ks e.posts) (taken A c.s c.event_is (first-none A link o it))
                  ∙ (ap (λ ps. fold (by_post A (table_of A (e ∷ past))) no_keys ps) (c.posts_are ∙ posts)
                  ∙ (data-keeps A (table_of A (e ∷ past)) (offers_keys A link o no_keys) c.more c.plain
                  ∙ ap (λ b. if b then record { keys = registers (key_base A) (rmb_at o.address) [] link; confirmed = confirms (rmb_at o.address) [] } else no_keys) it.first))
                where
                  posts : confirm_post setup payload c.s c.first (unwrap_or (named_link c.s past) no_link) past ∷ c.more ≡ offer_post A c.s link o ∷ c.more
                  posts = ap (λ b. confirm_post setup payload c.s b (unwrap_or (named_link c.s past) no_link) past ∷ c.more) first
                      ∙ (ap (λ l. confirm_post setup payload c.s true l past ∷ c.more) (sym link_is)
                      ∙ ap (λ n. offer_post A c.s link n ∷ c.more) (sym b.offer_is))

  module _ (x : Side) (sound : IsSound x (peer x (fabric past))) (sound_after : IsSound x (peer x (fabric (e ∷ past)))) where
    -- while a side stays in first contact, in its group
    module _ (first : is_first_contact (flow_of x past).link ≡ true) (first_after : is_first_contact (flow_of x (e ∷ past)).link ≡ true) (some : group_of x past ≢ 0) (some_after : group_of x (e ∷ past) ≢ 0) where
      flow-is : flow_of x past ≡ record no_flow { link = FirstContact }
      flow-is = first-flow x (peer x (fabric past)) sound first

      flow-after : flow_of x (e ∷ past) ≡ record no_flow { link = FirstContact }
      flow-after = first-flow x (peer x (fabric (e ∷ past))) sound_after first_after

      not-asked : (flow_of x past).key ≡ Asked → ⊥
      not-asked a = (let z : Free ≡ Asked = sym (ap (λ (f : Flow). f.key) flow-is) ∙ a in cc)

      not-deleting : (flow_of x past).key ≡ Deleting → ⊥
      not-deleting a = (let z : Free ≡ Deleting = sym (ap (λ (f : Flow). f.key) flow-is) ∙ a in cc)

      -- nothing is registered
      no-register : (rmb : ℕ) (link : LinkId) → Registers x e past rmb link → ⊥
      no-register _ _ (ForMade rmb t i) = true≢false (sym first_after ∙ (ap (λ (f : Fabric). is_first_contact (peer x f).flow.link) (fabric-taken x e past t.act t.is ∙ ap (λ v. does x t.act.link t.act.message v (fabric past)) t.does) ∙ over x (takes-says x e past (ReplyAdd false) t).0))
        where
          over : (z : Side) → z ≡ A → is_first_contact (peer z (does z t.act.link t.act.message (ReplyAdd false) (fabric past))).flow.link ≡ false
          over A q = refl
          over B q = (let w : B ≡ A = q in cc)
      no-register _ _ (ForTold rmb t i) = true≢false (sym first_after ∙ (ap (λ (f : Fabric). is_first_contact (peer x f).flow.link) (fabric-taken x e past t.act t.is ∙ ap (λ v. does x t.act.link t.act.message v (fabric past)) t.does) ∙ over x))
        where
          over : (z : Side) → is_first_contact (peer z (does z t.act.link t.act.message SendKeys (fabric past))).flow.link ≡ false
          over A = refl
          over B = refl
      no-register _ _ (ForOffer link o it) = some (first-none x link o it)
      no-register _ _ (ForAsked link tokens it i) = by (ask-posted setup payload e past m.0.0 m.0.1 x it.on (ConfirmRkey false it.retry it.negative it.others tokens) refl it.posted)
        where
          by : AskPosted setup payload e past x (Llc x it.on (ConfirmRkey false it.retry it.negative it.others tokens)) → ⊥
          by (AskedByVerdict va h) = (let z : Free ≡ Asked = sym (ap (λ (f : Flow). f.key) flow-after) ∙ asked-key setup payload x e past va in cc)
          by (AskedAgain k loss left still a r h qs rs split silent) = not-asked a

      no-withdraw : Takes x e past Withdraw → ⊥
      no-withdraw t = not-deleting (takes-says x e past Withdraw t).1

      -- each key stays
      first-stays : (k : Key) → IsAmong k (keys_of x past).keys → IsAmong k (keys_of x (e ∷ past)).keys
      first-stays k i = elim (stays-key x e past k (λ rmb link reg s. absurd (no-register rmb link reg)) i) [
        | inl h ↦ h
        | inr (Withdrawn t named) ↦ absurd (no-withdraw t)
        | inr (GroupGoes none) ↦ absurd (some_after none)
      ]

      -- and no RMB becomes confirmed
      first-confirmed : (r : ℕ) → IsAmong r (keys_of x (e ∷ past)).confirmed → IsAmong r (keys_of x past).confirmed
      first-confirmed r i = elim (confirmed-from x e past r i) [ inl h ↦ h | inr c ↦ absurd (by r c) ]
        where
          by : (r : ℕ) → Confirms x e past r → ⊥
          by _ (ByAnswer t) = not-asked (takes-says x e past Confirmed t).1
          by _ (ByOffer link o it) = some (first-none x link o it)

  -- where a side's first contact comes from: it was so, or the side offers with the entry
  module _ (x : Side) (under : Option Under) (linked : AreLinked (fabric past) under) (all : IsContacted past under) (wait : AreAwaited past under) (kind : Kind past under e) (after : Option Under) (linked_after : AreLinked (fabric (e ∷ past)) after) (contacted_after : IsContacted (e ∷ past) after) (was : HasFirstKeys x past) where
    offers : AreOffered past
    offers = all.offers

    counted : AreCounted past
    counted = all.counted

    sound : IsSound x (peer x (fabric past))
    sound = let o : IsOwn x (peer x (fabric past)) = linked.own x in o.sound

    sound-after : IsSound x (peer x (fabric (e ∷ past)))
    sound-after = let o : IsOwn x (peer x (fabric (e ∷ past))) = linked_after.own x in o.sound

    -- an offer that was made before is of a group in which the side was before
    module _ (s : ℕ) (o : Offered) (i : offered x s past ≡ Some o) (f : o.offer.first ≡ true) (first : is_first_contact (flow_of x (e ∷ past)).link ≡ true) (g : group_of x (e ∷ past) ≡ o.link.group) where
      was-so : (is_first_contact (flow_of x past).link ≡ true) × (group_of x (e ∷ past) ≡ group_of x past)
      was-so = by x refl kind
        where
          same : (z : Side) → peer z (fabric (e ∷ past)) ≡ peer z (fabric past) → z ≡ x → (is_first_contact (flow_of x past).link ≡ true) × (group_of x (e ∷ past) ≡ group_of x past)
          same z h q = subst (λ w. peer w (fabric (e ∷ past)) ≡ peer w (fabric past) → (is_first_contact (flow_of x past).link ≡ true) × (group_of x (e ∷ past) ≡ group_of x past)) (sym q)
              (λ h. (ap (λ (p : Peer). is_first_contact p.flow.link) (sym h) ∙ first, ap (λ (p : Peer). p.group) h)) h

          by : (z : Side) → z ≡ x → Kind past under e → (is_first_contact (flow_of x past).link ≡ true) × (group_of x (e ∷ past) ≡ group_of x past)
          by z q (Plain k) = let mv : Moves past under e = k.moves in mv.first x first
          by A q (Begins t p k) = same A (ap (peer A) k.changed) q
          by B q (Begins t p k) = absurd (let le = offers.begun x s o i in (let new : p.link.group ≡ groups_begun past + 1 = k.group in (let at : group_of B (e ∷ past) ≡ p.link.group = ap (λ (f : Fabric). f.b.group) k.changed in (let here : group_of B (e ∷ past) ≡ o.link.group = ap (λ w. group_of w (e ∷ past)) q ∙ g in omega (arith, le, new, at, here)))))
          by z q (Readies t n k) = same z (ap (peer z) k.changed) q
          by B q (Joins t n p k) = (ap (λ w. is_first_contact (flow_of w past).link) (sym q) ∙ (ap (λ (f : Fabric). is_first_contact f.b.flow.link) (sym k.changed) ∙ (ap (λ w. is_first_contact (flow_of w (e ∷ past)).link) q ∙ first)), ap (λ w. group_of w (e ∷ past)) (sym q) ∙ (ap (λ (f : Fabric). f.b.group) k.changed ∙ ap (λ w. group_of w past) q))
          by A q (Joins t n p k) = absurd (at found.0 found.1.0)
            where
              found : (r : Offered) × (IsOfferedFirst t r past × ((u : ℕ) → (u == t) ≡ false → AreLater u past))
              found = offered-row past under t n all.contact k.accept k.accept_first

              mine : offered A s past ≡ Some o
              mine = ap (λ w. offered w s past) q ∙ i

              at : (r : Offered) → IsOfferedFirst t r past → ⊥
              at r row = early (subst (λ n. offered A n past ≡ Some o) same-socket mine)
                where
                  link : p.link ≡ r.link
                  link = joined-next past under e linked offers counted all.contact t n p k r row

                  named : (b : Offered) × ((offered B s past ≡ Some b) × (b.link ≡ o.link))
                  named = from (offered B s past) refl (same-link setup payload past m.1 s o mine)
                    where
                      from : (q : Option Offered) → offered B s past ≡ q → option_map (λ (b : Offered). b.link) q ≡ Some o.link → (b : Offered) × ((offered B s past ≡ Some b) × (b.link ≡ o.link))
                      from None h c = absurd (none-is o.link c)
                      from (Some b) h c = (b, (h, some-is b.link o.link c))

                  same-socket : s ≡ t
                  same-socket = wait.lone s t named.0 r named.1.0 row.named (same-first setup payload past m.1 s o named.0 mine named.1.0 ∙ f) row.first
                      (ap (λ (l : LinkId). l.group) named.1.1 ∙ (sym (ap (λ w. group_of w (e ∷ past)) q ∙ g) ∙ (ap (λ (f : Fabric). f.a.group) k.changed ∙ ap (λ (l : LinkId). l.group) link)))

                  early : offered A t past ≡ Some o → ⊥
                  early h = let off : HasOffers t past = all-offers setup payload past m.1 t in true≢false (sym (ap is_early row.waits_a) ∙ off.later A o h)

      some-is-there : group_of x past ≢ 0
      some-is-there z = later x i (sym (was-so.1 ∙ z) ∙ g)
        where
          later : (w : Side) → offered w s past ≡ Some o → 0 ≡ o.link.group → ⊥
          later B h q = offers.some s o h (sym q)
          later A h q = by (offered B s past) refl (same-link setup payload past m.1 s o h)
            where
              by : (b : Option Offered) → offered B s past ≡ b → option_map (λ (b : Offered). b.link) b ≡ Some o.link → ⊥
              by None h c = none-is o.link c
              by (Some b) h c = offers.some s b h (ap (λ (l : LinkId). l.group) (some-is b.link o.link c) ∙ sym q)

      some-after : group_of x (e ∷ past) ≢ 0
      some-after z = some-is-there (sym was-so.1 ∙ z)

      old-key : IsAmong (offered_key o) (keys_of x (e ∷ past)).keys
      old-key = first-stays x sound sound-after was-so.0 first some-is-there some-after (offered_key o) (was.key s o i f was-so.0 (sym was-so.1 ∙ g))

      old-only : (r : ℕ) → IsAmong r (keys_of x (e ∷ past)).confirmed → r ≡ rmb_at o.offer.address
      old-only r h = was.only s o i f was-so.0 (sym was-so.1 ∙ g) r (first-confirmed x sound sound-after was-so.0 first some-is-there some-after r h)

    -- one that is made with the entry
    module _ (n : NewLending setup payload x e past) (f : n.first ≡ true) (first : is_first_contact (flow_of x (e ∷ past)).link ≡ true) where
      abbrev offer : Offer
      offer = new_offer setup payload x n.first n.link past

      it : OffersFirst x e n.link offer
      it = record { s = n.s; posted = subst (λ ps. IsAmong (offer_post x n.s n.link offer) ps) (sym (let p = n.posts_are in p.1)) (head-is x n.first n.link); first = f }
        where
          head-is : (z : Side) (b : Bool) (l : LinkId) → IsAmong (offer_post z n.s l (new_offer setup payload z b l past)) (at_side z (confirm_post setup payload n.s b l past) (accept_post setup payload n.s b l past) ∷ (let p = n.posts_are in p.0))
          head-is A b l = inl refl
          head-is B b l = inl refl

      some-group : (group_of x (e ∷ past) == 0) ≡ false
      some-group = by (group_of x (e ∷ past) == 0) refl
        where
          by : (b : Bool) → (group_of x (e ∷ past) == 0) ≡ b → b ≡ false
          by false q = refl
          by true q = absurd (flowing sound-after)
            where
              flowing : IsSound x (peer x (fabric (e ∷ past))) → ⊥
              flowing (HasNone g fl none) = true≢false (sym first ∙ ap (λ (f : Flow). is_first_contact f.link) fl)
              flowing (BeginsSound g fl t) = g (eqb-true (group_of x (e ∷ past)) 0 q)
              flowing (ConfirmsSound l g fl t) = g (eqb-true (group_of x (e ∷ past)) 0 q)
              flowing (Goes k g l fl) = g (eqb-true (group_of x (e ∷ past)) 0 q)

      keys-are-so : keys_of x (e ∷ past) ≡ record { keys = registers (key_base x) (rmb_at offer.address) [] n.link; confirmed = confirms (rmb_at offer.address) [] }
      keys-are-so = begun-keys x n.link offer it some-group

      new-key-is : offered_key (record { link = n.link; offer = offer }) ≡ record { key = number_for (key_base x) (rmb_at offer.address) n.link.slot []; rmb = rmb_at offer.address; link = n.link }
      new-key-is = ap (λ k. record { key = k; rmb = rmb_at (rmb_address (next_free setup payload x past).rmb); link = n.link })
          (ap (λ ks. number_for (key_base x) (next_free setup payload x past).rmb n.link.slot (Keys.keys ks)) (none-without x past (first-none x n.link offer it))
          ∙ ap (λ r. number_for (key_base x) r n.link.slot []) (sym (rmb-of (next_free setup payload x past).rmb)))

      new-key : IsAmong (offered_key (record { link = n.link; offer = offer })) (keys_of x (e ∷ past)).keys
      new-key = subst (λ ks. IsAmong (offered_key (record { link = n.link; offer = offer })) (Keys.keys ks)) (sym keys-are-so) (subst (λ k. IsAmong k (registers (key_base x) (rmb_at offer.address) [] n.link)) (sym new-key-is) (registered (key_base x) (rmb_at offer.address) n.link []))

      new-only : (r : ℕ) → IsAmong r (keys_of x (e ∷ past)).confirmed → r ≡ rmb_at offer.address
      new-only r h = one (subst (λ ks. IsAmong r (Keys.confirmed ks)) keys-are-so h)
        where
          one : IsAmong r (rmb_at offer.address ∷ []) → r ≡ rmb_at offer.address
          one (inl q) = q
          one (inr q) = absurd q

    -- the step
    pub first-keys-after : HasFirstKeys x (e ∷ past)
    first-keys-after = record { key = λ s o i f c g. key s o i f c g (came s); only = λ s o i f c g. only s o i f c g (came s) }
      where
        came : (s : ℕ) → (offered x s (e ∷ past) ≡ offered x s past) ⊎ ((n : NewLending setup payload x e past) × ((s ≡ n.s) × (offered x s (e ∷ past) ≡ Some (record { link = n.link; offer = new_offer setup payload x n.first n.link past }))))
        came s = new-or-old setup payload past m.0.0 e m.0.1 (states setup payload past m.1) (all-offers setup payload past m.1) x s

        key : (s : ℕ) (o : Offered) → offered x s (e ∷ past) ≡ Some o → o.offer.first ≡ true → is_first_contact (flow_of x (e ∷ past)).link ≡ true → group_of x (e ∷ past) ≡ o.link.group
            → (offered x s (e ∷ past) ≡ offered x s past) ⊎ ((n : NewLending setup payload x e past) × ((s ≡ n.s) × (offered x s (e ∷ past) ≡ Some (record { link = n.link; offer = new_offer setup payload x n.first n.link past })))) → IsAmong (offered_key o) (keys_of x (e ∷ past)).keys
        key s o i f c g (inl same) = old-key s o (sym same ∙ i) f c g
        key s o i f c g (inr w) = let mine = some-is _ o (sym w.1.1 ∙ i) in subst (λ q. IsAmong (offered_key q) (keys_of x (e ∷ past)).keys) mine (new-key w.0 (ap (λ (q : Offered). q.offer.first) mine ∙ f) c)

        only : (s : ℕ) (o : Offered) → offered x s (e ∷ past) ≡ Some o → o.offer.first ≡ true → is_first_contact (flow_of x (e ∷ past)).link ≡ true → group_of x (e ∷ past) ≡ o.link.group
            → (offered x s (e ∷ past) ≡ offered x s past) ⊎ ((n : NewLending setup payload x e past) × ((s ≡ n.s) × (offered x s (e ∷ past) ≡ Some (record { link = n.link; offer = new_offer setup payload x n.first n.link past })))) → (r : ℕ) → IsAmong r (keys_of x (e ∷ past)).confirmed → r ≡ rmb_at o.offer.address
        only s o i f c g (inl same) = old-only s o (sym same ∙ i) f c g
        only s o i f c g (inr w) = let mine = some-is _ o (sym w.1.1 ∙ i) in subst (λ q. (r : ℕ) → IsAmong r (keys_of x (e ∷ past)).confirmed → r ≡ rmb_at (Offered.offer q).address) mine (new-only w.0 (ap (λ (q : Offered). q.offer.first) mine ∙ f) c)

-- after every history
pub all-first-keys : (setup : Setup) (payload : List ℕ) (past : List Entry) → IsMadeAll setup payload past → (x : Side) → HasFirstKeys x past
all-first-keys setup payload [] m x = record { key = λ s o i. absurd (none-is o (none x s i)); only = λ s o i. absurd (none-is o (none x s i)) }
  where
    none : (x : Side) (s : ℕ) {o : Offered} → offered x s [] ≡ Some o → None ≡ Some o
    none x s i = i
all-first-keys setup payload (e ∷ past) m x = by (has-contact setup payload past m.1) (has-contact setup payload (e ∷ past) m) (all-awaited setup payload past m.1) (all-first-keys setup payload past m.1 x)
  where
    by : (c : HasContact past) → HasContact (e ∷ past) → AreAwaited past (HasFlows.under c.flows) → HasFirstKeys x past → HasFirstKeys x (e ∷ past)
    by c d wait was =
        let f : HasFlows past = c.flows in
        let g : HasFlows (e ∷ past) = d.flows in
        let h : IsMade setup payload past m.0.0 e = m.0.1 in
        first-keys-after setup payload e past m x f.under f.linked c.contacted wait (kind-given setup payload past f.under m.0.0 e (record { reply = h.reply; posts = h.posts }) f.linked f.carried c.contacted) g.under g.linked d.contacted was
