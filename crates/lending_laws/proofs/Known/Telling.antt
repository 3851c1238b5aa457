-- What B tells of its keys for a new link, and A's answer, while they are under way: the step.
use Rattle.std.proofs.Common.{Bool, List, [], ap, eq-eqb, false, if◌then◌else◌, inl, inr, not, refl, subst, sym, true, true≢false, ℕ, ◌==◌, ◌∙◌, ◌∷◌, ◌≡◌}
use Rattle.std.specs.Prelude.{None, Option, Some, option_map, unwrap_or}
use Rattle.pipe_model.specs.Flows.{LinkSent}
use Rattle.smc_num.specs.declared.LinkPhase.TheVariants.{Live as LiveLink}
use Rattle.pipe_model.specs.Messages.{new_key_of, no_new_key}
use Rattle.pipe_model.specs.Fabric.{does, loses}
use Rattle.pipe_model.specs.declared.flow.KeyPhase.TheVariants.{Asked}
use Rattle.pipe_model.specs.declared.flow.FlowStep.TheVariants.{Answered, Confirmed, Live}
use Rattle.pipe_model.specs.Keys.{deleted}
use Rattle.history_laws.specs.Words.{A, Abandoned, Act, AddKeys, AddLink, AddSeen, AddSent, AskLink, B, ConfirmLink, ConfirmRkey, DeleteLink, DeleteRkey, Deleting, Deliver, Echo, Entry, Event, Fabric, FirstContact, Flow, FlowStep, Forget, Gone, Key, KeyPhase, KeyToken, Keys, KeysSent, Known, Learn, LinkFlow, LinkId, LinkPhase, Llc, LlcMessage, NewKey, NoFlow, Offer, Offered, Over, Peer, Pending, Reject, Reply, ReplyAdd, ReplyKeys, ReplyRetry, Retry, SendKeys, Setup, Side, Skip, TestLink, Unused, Withdraw, act_by, act_in, add_keys, at_slot, book_of, delete_reply, ends_group, fabric, flow_of, goes_on, group_of, has, is_adding, is_dead, is_live, key_base, key_reply, keys_of, lacks, link_at, link_or_none, llc_step, lost_link, lowest_live, named_rmbs, named_slot, no_link, peer, peer_of, phase_at, registers_all, reports, resends_add, stands, table_of, with_peer, without_slot}
use Rattle.history_laws.proofs.Basics.{and-both, b-not-a, none-is, not-true, or-left, or-true, rmb-of, some-is}
use Rattle.history_laws.specs.Tables.{Rises}
use Rattle.history_laws.specs.Lists.{IsAmong}
use Rattle.history_laws.specs.Made.{IsMadeAll}
use Rattle.link_laws.specs.StepSays.{is_add_request, is_ask_request, is_delete_request, is_tell_answer, is_tell_request}
use Rattle.link_laws.specs.Linked.{AreLinked, Begins, Confirms as ConfirmsSound, Goes, HasNone, IsOwn, IsSound, LinkFits, Under, is_link_message, is_open_key, is_telling_on, phases, under_fits}
use Rattle.link_laws.specs.Posted.{AsksAgain, ByAnswer, ByForgetting, ByLearning, ByLoss, ByRefusal, ByRetry, ByTelling, ByTrim, ByVerdict, DeletesAgain, KeysPosted, Loss, TellsAgain, is_of_keys}
use Rattle.link_laws.specs.UnderWay.{HasFlows, link_kind}
use Rattle.link_laws.specs.OnWires.{IsWaiting}
use Rattle.link_laws.proofs.UnderWay.{both-stand, under-fits}
use Rattle.link_laws.proofs.KeyMessages.{keys-posted, takes-says, waited-alive, waited-or-posted, waiting-under}
use Rattle.link_laws.specs.Covered.{AreCovered, HasKey}
use Rattle.link_laws.specs.FabricChanges.{IsRequest, OffersFirst, Takes, is_keyed}
use Rattle.link_laws.proofs.Keys.{act-goes, book-from, keys-after, keys-are, loses-so, one-number, one-use, posts-go-by, reports-so}
use Rattle.link_laws.specs.Joined.{HasContact}
use Rattle.link_laws.proofs.Joined.{has-contact}
use Rattle.link_laws.proofs.Sound.{has-group, set-link, stands-at}
use Rattle.link_laws.specs.Owed.{CanJoin}
use Rattle.link_laws.specs.KeyChanges.{AsksKey, ByOffer, Confirms, ByAnswer as ConfirmsByAnswer, ForAsked, ForMade, ForOffer, ForTold, GroupGoes, HasUse, Learns, OfAnswer, OfKeys, OfOffer, OfRequest, Registers, Withdrawn, link_named}
use Rattle.link_laws.proofs.Fabric.{fabric-after, fabric-taken, one-step}
use Rattle.link_laws.proofs.Waiting.{HasLanded, grows-of, has-landed, landed-under}
use Rattle.link_laws.specs.Learnt.{AreKnown}
use Rattle.link_laws.specs.Contact.{IsConfirming, IsJoinedFirst}
use Rattle.lending_laws.proofs.Keys.{at-is, cut-among, message-of, on-use, pairs-posted, stays-bound}
use Rattle.lending_laws.specs.Telling.{AreTelling, TellsKnown, TellsNew, told_new}
use Rattle.lending_laws.proofs.Known.Calm.{all-calm}
use Rattle.lending_laws.proofs.Known.FirstKeys.{AskPosted, AskedAgain, AskedByVerdict, ask-posted, first-none}
use Rattle.lending_laws.proofs.Known.FlowsMade.{add-link, joins-at}
use Rattle.lending_laws.proofs.Known.AskFacts.{AskFacts, asks-facts}
use Rattle.lending_laws.specs.Tokens.{PairsBound, use_of}
use Rattle.lending_laws.proofs.Known.Requesting.{link-of}
use Rattle.lending_laws.proofs.Known.ToldMade.{confirms-first}

-- what lands at one side does not land at the other
acts-apart : (event : Event) (reply : Reply) (past : List Entry) (a b : Act) → act_by A event reply past ≡ Some a → act_by B event reply past ≡ Some b → ⊥
acts-apart (Deliver slot A) reply past a b p q = none-is a p
acts-apart (Deliver slot B) reply past a b p q = none-is b q
acts-apart event reply past a b p q = none-is a p

-- the messages of the keys for a new link
tell-link : (m : LlcMessage) → is_tell_request m ≡ true → is_link_message m ≡ true
tell-link (AddKeys reply k count keys) e = refl
tell-link (ConfirmLink reply mac gid qp k user most) e = absurd (true≢false (sym e))
tell-link (AddLink reply rejected reason mac gid qp k mtu psn) e = absurd (true≢false (sym e))
tell-link (DeleteLink reply every orderly k reason) e = absurd (true≢false (sym e))
tell-link (ConfirmRkey reply retry negative others tokens) e = absurd (true≢false (sym e))
tell-link (TestLink reply bytes) e = absurd (true≢false (sym e))
tell-link (DeleteRkey reply negative count mask keys) e = absurd (true≢false (sym e))

answer-link : (m : LlcMessage) → is_tell_answer m ≡ true → is_link_message m ≡ true
answer-link (AddKeys reply k count keys) e = refl
answer-link (ConfirmLink reply mac gid qp k user most) e = absurd (true≢false (sym e))
answer-link (AddLink reply rejected reason mac gid qp k mtu psn) e = absurd (true≢false (sym e))
answer-link (DeleteLink reply every orderly k reason) e = absurd (true≢false (sym e))
answer-link (ConfirmRkey reply retry negative others tokens) e = absurd (true≢false (sym e))
answer-link (TestLink reply bytes) e = absurd (true≢false (sym e))
answer-link (DeleteRkey reply negative count mask keys) e = absurd (true≢false (sym e))

link-keys : (m : LlcMessage) → is_tell_request m ≡ true → is_of_keys m ≡ true
link-keys (AddKeys reply k count keys) e = refl
link-keys (ConfirmLink reply mac gid qp k user most) e = absurd (true≢false (sym e))
link-keys (AddLink reply rejected reason mac gid qp k mtu psn) e = absurd (true≢false (sym e))
link-keys (DeleteLink reply every orderly k reason) e = absurd (true≢false (sym e))
link-keys (ConfirmRkey reply retry negative others tokens) e = absurd (true≢false (sym e))
link-keys (TestLink reply bytes) e = absurd (true≢false (sym e))
link-keys (DeleteRkey reply negative count mask keys) e = absurd (true≢false (sym e))

answer-keys : (m : LlcMessage) → is_tell_answer m ≡ true → is_of_keys m ≡ true
answer-keys (AddKeys reply k count keys) e = refl
answer-keys (ConfirmLink reply mac gid qp k user most) e = absurd (true≢false (sym e))
answer-keys (AddLink reply rejected reason mac gid qp k mtu psn) e = absurd (true≢false (sym e))
answer-keys (DeleteLink reply every orderly k reason) e = absurd (true≢false (sym e))
answer-keys (ConfirmRkey reply retry negative others tokens) e = absurd (true≢false (sym e))
answer-keys (TestLink reply bytes) e = absurd (true≢false (sym e))
answer-keys (DeleteRkey reply negative count mask keys) e = absurd (true≢false (sym e))

-- B's keys are no ADD LINK
tell-not-add : (m : LlcMessage) → is_tell_request m ≡ true → is_add_request m ≡ false
tell-not-add (AddKeys reply k count keys) e = refl
tell-not-add (ConfirmLink reply mac gid qp k user most) e = absurd (true≢false (sym e))
tell-not-add (AddLink reply rejected reason mac gid qp k mtu psn) e = absurd (true≢false (sym e))
tell-not-add (DeleteLink reply every orderly k reason) e = absurd (true≢false (sym e))
tell-not-add (ConfirmRkey reply retry negative others tokens) e = absurd (true≢false (sym e))
tell-not-add (TestLink reply bytes) e = absurd (true≢false (sym e))
tell-not-add (DeleteRkey reply negative count mask keys) e = absurd (true≢false (sym e))

-- nor are answers of the key flows of this kind
key-reply-tells : (b : Bool) (m : LlcMessage) → is_ask_request m ≡ true → (is_tell_request (key_reply b m) ≡ false) × (is_tell_answer (key_reply b m) ≡ false)
key-reply-tells b (ConfirmRkey reply retry negative others tokens) e = (refl, refl)
key-reply-tells b (DeleteRkey reply negative count mask keys) e = absurd (true≢false (sym e))
key-reply-tells b (ConfirmLink reply mac gid qp k user most) e = absurd (true≢false (sym e))
key-reply-tells b (AddLink reply rejected reason mac gid qp k mtu psn) e = absurd (true≢false (sym e))
key-reply-tells b (AddKeys reply k count keys) e = absurd (true≢false (sym e))
key-reply-tells b (DeleteLink reply every orderly k reason) e = absurd (true≢false (sym e))
key-reply-tells b (TestLink reply bytes) e = absurd (true≢false (sym e))

delete-reply-tells : (on : LinkId) (book : List Key) (m : LlcMessage) → is_delete_request m ≡ true → (is_tell_request (delete_reply on book m) ≡ false) × (is_tell_answer (delete_reply on book m) ≡ false)
delete-reply-tells on book (DeleteRkey reply negative count mask keys) e = (refl, refl)
delete-reply-tells on book (ConfirmRkey reply retry negative others tokens) e = absurd (true≢false (sym e))
delete-reply-tells on book (ConfirmLink reply mac gid qp k user most) e = absurd (true≢false (sym e))
delete-reply-tells on book (AddLink reply rejected reason mac gid qp k mtu psn) e = absurd (true≢false (sym e))
delete-reply-tells on book (AddKeys reply k count keys) e = absurd (true≢false (sym e))
delete-reply-tells on book (DeleteLink reply every orderly k reason) e = absurd (true≢false (sym e))
delete-reply-tells on book (TestLink reply bytes) e = absurd (true≢false (sym e))

-- while such a message is under way B has told its keys, or has given the link up
fits-request : (slot : ℕ) (m : LlcMessage) (a b : LinkFlow) (pa pb : ℕ → LinkPhase) → is_tell_request m ≡ true → under_fits B slot m a b pa pb ≡ true → is_telling_on (named_slot m slot) slot b ≡ true
fits-request slot (AddKeys false k count keys) a b pa pb is e = e
fits-request slot (AddKeys true k count keys) a b pa pb is e = absurd (true≢false (sym is))
fits-request slot (ConfirmLink reply mac gid qp k user most) a b pa pb is e = absurd (true≢false (sym is))
fits-request slot (AddLink reply rejected reason mac gid qp k mtu psn) a b pa pb is e = absurd (true≢false (sym is))
fits-request slot (DeleteLink reply every orderly k reason) a b pa pb is e = absurd (true≢false (sym is))
fits-request slot (ConfirmRkey reply retry negative others tokens) a b pa pb is e = absurd (true≢false (sym is))
fits-request slot (TestLink reply bytes) a b pa pb is e = absurd (true≢false (sym is))
fits-request slot (DeleteRkey reply negative count mask keys) a b pa pb is e = absurd (true≢false (sym is))

fits-answer : (slot : ℕ) (m : LlcMessage) (a b : LinkFlow) (pa pb : ℕ → LinkPhase) → is_tell_answer m ≡ true → under_fits A slot m a b pa pb ≡ true → is_telling_on (named_slot m slot) slot b ≡ true
fits-answer slot (AddKeys true k count keys) a b pa pb is e = e
fits-answer slot (AddKeys false k count keys) a b pa pb is e = absurd (true≢false (sym is))
fits-answer slot (ConfirmLink reply mac gid qp k user most) a b pa pb is e = absurd (true≢false (sym is))
fits-answer slot (AddLink reply rejected reason mac gid qp k mtu psn) a b pa pb is e = absurd (true≢false (sym is))
fits-answer slot (DeleteLink reply every orderly k reason) a b pa pb is e = absurd (true≢false (sym is))
fits-answer slot (ConfirmRkey reply retry negative others tokens) a b pa pb is e = absurd (true≢false (sym is))
fits-answer slot (TestLink reply bytes) a b pa pb is e = absurd (true≢false (sym is))
fits-answer slot (DeleteRkey reply negative count mask keys) a b pa pb is e = absurd (true≢false (sym is))

telling-adds : (j on : ℕ) (f : LinkFlow) → is_telling_on j on f ≡ true → is_adding f ≡ true
telling-adds j on (KeysSent i o) e = refl
telling-adds j on (Abandoned o) e = refl
telling-adds j on NoFlow e = absurd (true≢false (sym e))
telling-adds j on FirstContact e = absurd (true≢false (sym e))
telling-adds j on (AddSent i o) e = absurd (true≢false (sym e))
telling-adds j on (LinkSent i) e = absurd (true≢false (sym e))
telling-adds j on (AddSeen i) e = absurd (true≢false (sym e))

-- what is said of such a message that waits
waits-telling : (past : List Entry) → HasFlows past → (l : LinkId) (m : LlcMessage) → is_dead l past ≡ false → IsWaiting l B m past → is_tell_request m ≡ true → is_telling_on (named_slot m l.slot) l.slot (flow_of B past).link ≡ true
waits-telling past flows l m alive w is = fits-request l.slot m (flow_of A past).link (flow_of B past).link (phases (peer A (fabric past))) (phases (peer B (fabric past))) is
    (under-fits past flows (record { from = B; link = l; message = m }) (waiting-under link_kind past flows.under flows.carried l B m alive w (tell-link m is)))

answer-telling : (past : List Entry) → HasFlows past → (l : LinkId) (m : LlcMessage) → is_dead l past ≡ false → IsWaiting l A m past → is_tell_answer m ≡ true → is_telling_on (named_slot m l.slot) l.slot (flow_of B past).link ≡ true
answer-telling past flows l m alive w is = fits-answer l.slot m (flow_of A past).link (flow_of B past).link (phases (peer A (fabric past))) (phases (peer B (fabric past))) is
    (under-fits past flows (record { from = A; link = l; message = m }) (waiting-under link_kind past flows.under flows.carried l A m alive w (answer-link m is)))

-- a side that adds a link has a group
adding-group : (x : Side) (p : Peer) → IsSound x p → is_adding p.flow.link ≡ true → p.group ≡ 0 → ⊥
adding-group x p (HasNone g f n) adds z = true≢false (sym adds ∙ ap (λ (f : Flow). is_adding f.link) f)
adding-group x p (Begins g f t) adds z = g z
adding-group x p (ConfirmsSound link g f t) adds z = g z
adding-group x p (Goes k g l f) adds z = g z

-- while it tells keys, the new link is pending, and the carrier is live
sending-fits : (p : Peer) → IsSound B p → (j on : ℕ) → p.flow.link ≡ KeysSent j on → (phases p j ≡ Pending) × (phases p on ≡ LiveLink)
sending-fits p (HasNone g f n) j on q = absurd (let z : NoFlow ≡ KeysSent j on = sym (ap (λ (f : Flow). f.link) f) ∙ q in cc)
sending-fits p (Begins g f t) j on q = absurd (let z : FirstContact ≡ KeysSent j on = sym (ap (λ (f : Flow). f.link) f) ∙ q in cc)
sending-fits p (ConfirmsSound link g f t) j on q = absurd (let z : FirstContact ≡ KeysSent j on = sym (ap (λ (f : Flow). f.link) f) ∙ q in cc)
sending-fits p (Goes k g l f) j on q = let h : LinkFits (phases p) (KeysSent j on) = subst (λ g. LinkFits (phases p) g) q f.link in (h.1, h.2)

seen-fits : (p : Peer) → IsSound A p → (j : ℕ) → p.flow.link ≡ AddSeen j → phases p j ≡ Pending
seen-fits p (HasNone g f n) j q = absurd (let z : NoFlow ≡ AddSeen j = sym (ap (λ (f : Flow). f.link) f) ∙ q in cc)
seen-fits p (Begins g f t) j q = absurd (let z : FirstContact ≡ AddSeen j = sym (ap (λ (f : Flow). f.link) f) ∙ q in cc)
seen-fits p (ConfirmsSound link g f t) j q = absurd (let z : FirstContact ≡ AddSeen j = sym (ap (λ (f : Flow). f.link) f) ∙ q in cc)
seen-fits p (Goes k g l f) j q = subst (λ g. LinkFits (phases p) g) q f.link

-- a slot that is in use has a link
slot-link : (j : ℕ) (ks : List Known) → (phase_at j ks ≡ Unused → ⊥) → (l : LinkId) × (link_at j ks ≡ Some l)
slot-link j ks used = by (at_slot j ks) refl
  where
    by : (o : Option Known) → at_slot j ks ≡ o → (l : LinkId) × (link_at j ks ≡ Some l)
    by None q = absurd (used (ap (λ (o : Option Known). unwrap_or (option_map (λ (m : Known). m.phase) o) Unused) q))
    by (Some n) q = (n.link, ap (λ (o : Option Known). option_map (λ (m : Known). m.link) o) q)

pending-link : (j : ℕ) (ks : List Known) → phase_at j ks ≡ Pending → (l : LinkId) × (link_at j ks ≡ Some l)
pending-link j ks q = slot-link j ks (λ u. not-unused (sym q ∙ u))
  where
    not-unused : Pending ≡ Unused → ⊥
    not-unused e = cc

live-link : (j : ℕ) (ks : List Known) → phase_at j ks ≡ LiveLink → (l : LinkId) × (link_at j ks ≡ Some l)
live-link j ks q = slot-link j ks (λ u. not-unused (sym q ∙ u))
  where
    not-unused : LiveLink ≡ Unused → ⊥
    not-unused e = cc

-- as B tells its keys they are bound, the new ones for the very link
module _ (past : List Entry) (covered : AreCovered B past) (rises : Rises 1 (table_of B past)) (sound : IsSound B (peer B (fabric past))) (j on : ℕ) (flow : (flow_of B past).link ≡ KeysSent j on) where
  fits : (phases (peer B (fabric past)) j ≡ Pending) × (phases (peer B (fabric past)) on ≡ LiveLink)
  fits = sending-fits (peer B (fabric past)) sound j on flow

  fresh : (l : LinkId) × (link_at j (table_of B past) ≡ Some l)
  fresh = pending-link j (table_of B past) fits.0

  carrier : (l : LinkId) × (link_at on (table_of B past) ≡ Some l)
  carrier = live-link on (table_of B past) fits.1

  fresh-slot : fresh.0.slot ≡ j
  fresh-slot = (at-is 1 j (table_of B past) fresh.0 rises fresh.1).1

  carrier-slot : carrier.0.slot ≡ on
  carrier-slot = (at-is 1 on (table_of B past) carrier.0 rises carrier.1).1

  abbrev ks : List Key
  ks = (keys_of B past).keys

  has-both : (rmb : ℕ) → IsAmong rmb (keys_of B past).confirmed → HasKey rmb carrier.0 ks × HasKey rmb fresh.0 ks
  has-both rmb i = (
    covered rmb i on carrier.0 carrier.1 (or-left (is_live (phase_at on (table_of B past))) (is_keyed on (flow_of B past).link) (ap is_live fits.1)),
    covered rmb i j fresh.0 fresh.1 (or-true (is_live (phase_at j (table_of B past))) (is_keyed j (flow_of B past).link) (ap (λ f. is_keyed j f) flow ∙ eq-eqb j j refl)),
  )

  very : (u : NewKey) → IsAmong u (told_new (add_keys false on j ks (keys_of B past).confirmed)) → (k : Key) → IsAmong k ks → k.key ≡ u.fresh → (l : LinkId) → link_at j (table_of B past) ≡ Some l → k.link ≡ l
  very u i k ik eq l at = by c.0 c.1.0 c.1.1
    where
      c : (rmb : ℕ) × (IsAmong rmb (keys_of B past).confirmed × (u ≡ new_key_of on j ks rmb))
      c = cut-among (new_key_of on j ks) (keys_of B past).confirmed 2 (no_new_key ∷ no_new_key ∷ []) u i

      by : (rmb : ℕ) → IsAmong rmb (keys_of B past).confirmed → u ≡ new_key_of on j ks rmb → k.link ≡ l
      by rmb ic is = with-it (has-both rmb ic).1
        where
          with-it : HasKey rmb fresh.0 ks → k.link ≡ l
          with-it h =
              let slot : h.key.link.slot ≡ j = ap (λ (l : LinkId). l.slot) h.on ∙ fresh-slot in
              let w = on-use rmb j ks h.key h.among h.of slot in
              let same : k ≡ w.key = one-number ks (keys-are B past).numbers k w.key ik w.among (eq ∙ (ap (λ (v : NewKey). v.fresh) is ∙ sym w.number)) in
              let one : w.key ≡ h.key = one-use ks (keys-are B past).uses w.key h.key w.among h.among (w.of ∙ (rmb-of rmb ∙ sym h.of)) (w.slot ∙ sym slot) in
              ap (λ (n : Key). n.link) (same ∙ one) ∙ (h.on ∙ some-is fresh.0 l (sym fresh.1 ∙ at))

  tells-now : TellsNew on (add_keys false on j ks (keys_of B past).confirmed) past
  tells-now = record { pairs = pairs-posted on j carrier.0 fresh.0 (keys_of B past).confirmed ks carrier-slot fresh-slot has-both; very = very }

  -- told on the carrier
  tells-on : (l : LinkId) (n : LlcMessage) → n ≡ add_keys false on j ks (keys_of B past).confirmed → l ≡ link_or_none on (table_of B past) → TellsNew l.slot n past
  tells-on l n is at = subst (λ s. TellsNew s n past) (sym slot) (subst (λ q. TellsNew on q past) (sym is) tells-now)
    where
      slot : l.slot ≡ on
      slot = ap (λ (l : LinkId). l.slot) (at ∙ ap (λ o. unwrap_or o no_link) carrier.1) ∙ carrier-slot

-- where B tells its keys again after the loss of a link, its flow goes on
loses-sent : (k : ℕ) (p : Peer) (j on : ℕ) → ((loses k p).group == 0) ≡ false → p.flow.link ≡ KeysSent j on → resends_add k (KeysSent j on) ≡ true → (loses k p).flow.link ≡ KeysSent j (lowest_live (loses k p).table)
loses-sent k p j on some f r = by (lowest_live (without_slot k p).table == 0) some
  where
    two : (not (j == k) ≡ true) × ((on == k) ≡ true)
    two = and-both (not (j == k)) (on == k) r

    kept : (c : ℕ) → lost_link k c (KeysSent j on) ≡ KeysSent j c
    kept c = ap (λ b. if b then Abandoned on else if on == k then KeysSent j c else KeysSent j on) (not-true (j == k) two.0) ∙ ap (λ b. if b then KeysSent j c else KeysSent j on) two.1

    by : (b : Bool) → ((if b then ends_group (without_slot k p) else goes_on k (without_slot k p)).group == 0) ≡ false
        → (if b then ends_group (without_slot k p) else goes_on k (without_slot k p)).flow.link ≡ KeysSent j (lowest_live (if b then ends_group (without_slot k p) else goes_on k (without_slot k p)).table)
    by true s = absurd (true≢false s)
    by false s = ap (λ g. lost_link k (lowest_live (without_slot k p).table) g) f ∙ kept (lowest_live (without_slot k p).table)

module _ (setup : Setup) (payload : List ℕ) (e : Entry) (past : List Entry) (m : IsMadeAll setup payload (e ∷ past)) where
  flows : HasFlows past
  flows = let c : HasContact past = has-contact setup payload past m.1 in c.flows

  later : HasFlows (e ∷ past)
  later = let c : HasContact (e ∷ past) = has-contact setup payload (e ∷ past) m in c.flows

  own : (x : Side) → IsOwn x (peer x (fabric past))
  own x = let l : AreLinked (fabric past) flows.under = flows.linked in l.own x

  own-after : (x : Side) → IsOwn x (peer x (fabric (e ∷ past)))
  own-after x = let l : AreLinked (fabric (e ∷ past)) later.under = later.linked in l.own x

  stands-on : (x : Side) (l : LinkId) → is_dead l past ≡ false → stands l (table_of x past) ≡ true
  stands-on A l alive = (both-stand l past alive).at_a
  stands-on B l alive = (both-stand l past alive).at_b

  some-after : (x : Side) (l : LinkId) → is_dead l (e ∷ past) ≡ false → group_of x (e ∷ past) ≡ 0 → ⊥
  some-after x l alive = (has-group x (peer x (fabric (e ∷ past))) l (own-after x) (at x)).0
    where
      at : (z : Side) → stands l (table_of z (e ∷ past)) ≡ true
      at A = (both-stand l (e ∷ past) alive).at_a
      at B = (both-stand l (e ∷ past) alive).at_b

  -- while B adds a link
  module _ (adds : is_adding (flow_of B past).link ≡ true) where
    some-was : group_of B past ≡ 0 → ⊥
    some-was = let o : IsOwn B (peer B (fabric past)) = own B in adding-group B (peer B (fabric past)) o.sound adds

    shut : (key : KeyPhase) → (flow_of B past).key ≡ key → is_open_key key ≡ true → ⊥
    shut key q out = true≢false (sym (ap is_open_key q ∙ out) ∙ all-calm setup payload past m.1 adds)

    no-offer : (link : LinkId) (o : Offer) → OffersFirst B e link o → ⊥
    no-offer link o it = some-was (first-none setup payload e past m B link o it)

    no-join : (link : LinkId) (o : Offer) → OffersFirst A e link o → ⊥
    no-join link o it = let j : CanJoin link past = joins-at setup payload e past m link o it in true≢false (sym adds ∙ ap (λ (f : Flow). is_adding f.link) j.flow)

    no-ask : (tokens : List KeyToken) → AsksKey B e tokens → ⊥
    no-ask tokens it = by (ask-posted setup payload e past m.0.0 m.0.1 B it.on (ConfirmRkey false it.retry it.negative it.others tokens) refl it.posted)
      where
        by : AskPosted setup payload e past B (Llc B it.on (ConfirmRkey false it.retry it.negative it.others tokens)) → ⊥
        by (AskedByVerdict va h) = let f : AskFacts (lacks setup payload B past) = asks-facts setup payload B e past va in true≢false (sym adds ∙ f.idle)
        by (AskedAgain k loss some still a r h before after split silent) = shut Asked a refl

    no-withdraw : Takes B e past Withdraw → ⊥
    no-withdraw t = shut Deleting (takes-says B e past Withdraw t).1 refl

    no-confirm : Takes B e past Confirmed → ⊥
    no-confirm t = shut Asked (takes-says B e past Confirmed t).1 refl

    no-make : Takes B e past (ReplyAdd false) → ⊥
    no-make t = b-not-a (takes-says B e past (ReplyAdd false) t).0

    -- its keys stay, but as it tells them for the new link
    keys-stay : ((i o : ℕ) → (flow_of B past).link ≡ AddSent i o → ⊥) → (group_of B (e ∷ past) ≡ 0 → ⊥) → keys_of B (e ∷ past) ≡ keys_of B past
    keys-stay not_sent some = keys-after B e past (λ ks. ks ≡ keys_of B past) (record {
      was = refl;
      withdrawn = λ t. absurd (no-withdraw t);
      registered = λ rmb link from ks p. absurd (no-register rmb link from);
      confirmed = λ rmb from ks p. absurd (none-confirmed rmb from);
      ended = λ none. absurd (some none);
    })
      where
        no-register : (rmb : ℕ) (link : LinkId) → Registers B e past rmb link → ⊥
        no-register _ _ (ForMade rmb t i) = no-make t
        no-register _ _ (ForTold rmb t i) = let says = takes-says B e past SendKeys t in not_sent (named_slot t.act.message t.act.link.slot) says.1.1.0 says.1.1.1
        no-register _ _ (ForOffer link o it) = no-offer link o it
        no-register _ _ (ForAsked link tokens it known) = no-ask tokens it

        none-confirmed : (rmb : ℕ) → Confirms B e past rmb → ⊥
        none-confirmed _ (ConfirmsByAnswer t) = no-confirm t
        none-confirmed _ (ByOffer link o it) = no-offer link o it

    abbrev ToldSo : Takes B e past SendKeys → Keys → Type 0
    ToldSo t ks = ks ≡ record (keys_of B past) { keys = registers_all (key_base B) (link_named B e past t.act) (keys_of B past).confirmed (keys_of B past).keys }

    tells-keys : (t : Takes B e past SendKeys) → (group_of B (e ∷ past) ≡ 0 → ⊥) → keys_of B (e ∷ past) ≡ record (keys_of B past) { keys = registers_all (key_base B) (link_named B e past t.act) (keys_of B past).confirmed (keys_of B past).keys }
    tells-keys t some = posts-go-by B e past (ToldSo t) (act-goes B e past (ToldSo t) (λ none. absurd (none SendKeys refl t)) (λ u. absurd (no-make u)) told (λ u. absurd (no-confirm u)) (λ u. absurd (no-withdraw u)))
        (λ link o it ks p. absurd (no-offer link o it)) (λ link tokens it known ks p. absurd (no-ask tokens it)) (λ none. absurd (some none))
      where
        told : (u : Takes B e past SendKeys) → ToldSo t (record (keys_of B past) { keys = registers_all (key_base B) (link_named B e past u.act) (keys_of B past).confirmed (keys_of B past).keys })
        told u = ap (λ (a : Act). record (keys_of B past) { keys = registers_all (key_base B) (link_named B e past a) (keys_of B past).confirmed (keys_of B past).keys }) (some-is u.act t.act (sym u.is ∙ t.is))

    -- and no slot of it gets another link, unless A makes one
    module _ (j : ℕ) (apart : Takes A e past (ReplyAdd false) → ⊥) where
      abbrev T : Fabric → Type 0
      T f = (l : LinkId) → link_at j (peer B f).table ≡ Some l → link_at j (table_of B past) ≡ Some l

      table-asked : (x : Side) (flow : Flow) (told : List LinkId) → IsRequest x flow (peer x (fabric past)) → T (with_peer x (record (peer x (fabric past)) { flow = flow; told = told }) (fabric past))
      table-asked A flow told r l at = at
      table-asked B flow told r l at = at

      table-reported : (x : Side) (k : ℕ) → T (with_peer x (reports k (peer x (fabric past))) (fabric past))
      table-reported A k l at = at
      table-reported B k l at = (reports-so B j k (peer B (fabric past))).link l at

      table-taken : (x : Side) (act : Act) → act_in x e past ≡ Some act → act.step ≡ llc_step x act.link act.message past (fabric past) → T (does x act.link act.message act.step (fabric past))
      table-taken A act is step = by act.step refl
        where
          by : (st : FlowStep) → act.step ≡ st → T (does A act.link act.message st (fabric past))
          by (ReplyAdd false) d l at = absurd (apart (record { act = act; is = is; does = d }))
          by (ReplyAdd true) d l at = at
          by (Live reply first) d l at = at
          by (Gone true) d l at = at
          by (Gone false) d l at = at
          by Skip d l at = at
          by SendKeys d l at = at
          by Over d l at = at
          by AskLink d l at = at
          by (ReplyKeys known) d l at = at
          by Reject d l at = at
          by Confirmed d l at = at
          by Retry d l at = at
          by Withdraw d l at = at
          by ReplyRetry d l at = at
          by Learn d l at = at
          by Forget d l at = at
          by Answered d l at = at
          by Echo d l at = at
      table-taken B act is step = by act.step refl
        where
          by : (st : FlowStep) → act.step ≡ st → T (does B act.link act.message st (fabric past))
          by (ReplyAdd false) d l at = absurd (no-make (record { act = act; is = is; does = d }))
          by (ReplyAdd true) d l at = at
          by (Live reply first) d l at = sym (set-link j act.link.slot LiveLink (table_of B past)) ∙ at
          by (Gone true) d l at = (loses-so B j (named_slot act.message act.link.slot) (peer B (fabric past))).link l at
          by (Gone false) d l at = at
          by Skip d l at = at
          by SendKeys d l at = at
          by Over d l at = at
          by AskLink d l at = at
          by (ReplyKeys known) d l at = at
          by Reject d l at = at
          by Confirmed d l at = at
          by Retry d l at = at
          by Withdraw d l at = at
          by ReplyRetry d l at = at
          by Learn d l at = at
          by Forget d l at = at
          by Answered d l at = at
          by Echo d l at = at

      table-was : T (fabric (e ∷ past))
      table-was = fabric-after e past T (record {
        was = λ l at. at;
        begun_b = λ link o it n l at. absurd (no-offer link o it);
        begun_a = λ link o it n l at. absurd (no-join link o it);
        asked = table-asked;
        taken = table-taken;
        reported = table-reported;
      })

  -- what B tells, after the entry
  module _ (was : AreTelling past) (covered : AreCovered B (e ∷ past)) (l : LinkId) (n : LlcMessage) (alive : is_dead l (e ∷ past) ≡ false) (is : is_tell_request n ≡ true) where
    some : group_of B (e ∷ past) ≡ 0 → ⊥
    some = some-after B l alive

    asks-old : IsWaiting l B n past → TellsNew l.slot n (e ∷ past)
    asks-old w = record {
      pairs = subst (λ (ks : Keys). PairsBound l.slot (named_slot n l.slot) (told_new n) ks.keys) (sym same) old.pairs;
      very = λ u i k ik eq link at. old.very u i k (subst (λ (ks : Keys). IsAmong k ks.keys) same ik) eq link (table-was adds (named_slot n l.slot) apart link at);
    }
      where
        alive_was : is_dead l past ≡ false
        alive_was = waited-alive e past (grows-of setup payload e past m) flows.empty l B n w alive

        tells : is_telling_on (named_slot n l.slot) l.slot (flow_of B past).link ≡ true
        tells = waits-telling past flows l n alive_was w is

        adds : is_adding (flow_of B past).link ≡ true
        adds = telling-adds (named_slot n l.slot) l.slot (flow_of B past).link tells

        old : TellsNew l.slot n past
        old = was.asks l n alive_was w is

        same : keys_of B (e ∷ past) ≡ keys_of B past
        same = keys-stay adds (λ i o q. true≢false (sym tells ∙ ap (λ g. is_telling_on (named_slot n l.slot) l.slot g) q)) some

        apart : Takes A e past (ReplyAdd false) → ⊥
        apart t =
            let land : HasLanded A past t.act = has-landed setup payload past m.0.0 e m.0.1 A t.act t.is in
            let says = (takes-says A e past (ReplyAdd false) t).1 in
            let mine = landed-under link_kind A past t.act flows.under land flows.carried (add-link t.act.message says) in
            let its = waiting-under link_kind past flows.under flows.carried l B n alive_was w (tell-link n is) in
            true≢false (sym says ∙ (ap (λ (w : Under). is_add_request w.message) (some-is _ _ (sym mine ∙ its)) ∙ tell-not-add n is))

    not-it : (q : LlcMessage) → n ≡ q → is_tell_request q ≡ false → ⊥
    not-it q h f = true≢false (sym is ∙ (ap is_tell_request h ∙ f))

    rises : Rises 1 (table_of B (e ∷ past))
    rises = let o : IsOwn B (peer B (fabric (e ∷ past))) = own-after B in o.rises

    sound : IsSound B (peer B (fabric (e ∷ past)))
    sound = let o : IsOwn B (peer B (fabric (e ∷ past))) = own-after B in o.sound

    asks-told : (t : Takes B e past SendKeys) → n ≡ add_keys false (lowest_live (table_of B past)) (named_slot t.act.message t.act.link.slot) (registers_all (key_base B) (link_or_none (named_slot t.act.message t.act.link.slot) (table_of B past)) (keys_of B past).confirmed (keys_of B past).keys) (keys_of B past).confirmed
        → l ≡ link_or_none (lowest_live (table_of B past)) (table_of B past) → TellsNew l.slot n (e ∷ past)
    asks-told t message link = tells-on (e ∷ past) covered rises sound j on flow l n (message ∙ (ap (λ tb. add_keys false on j (registers_all (key_base B) (link_or_none j tb) (keys_of B past).confirmed (keys_of B past).keys) (keys_of B past).confirmed) (sym table)
        ∙ ap (λ (ks : Keys). add_keys false on j ks.keys ks.confirmed) (sym keys))) (link ∙ ap (λ tb. link_or_none on tb) (sym table))
      where
        j : ℕ
        j = named_slot t.act.message t.act.link.slot

        on : ℕ
        on = lowest_live (table_of B past)

        changed : fabric (e ∷ past) ≡ does B t.act.link t.act.message SendKeys (fabric past)
        changed = fabric-taken B e past t.act t.is ∙ ap (λ v. does B t.act.link t.act.message v (fabric past)) t.does

        table : table_of B (e ∷ past) ≡ table_of B past
        table = ap (λ (f : Fabric). f.b.table) changed

        sent : (flow_of B past).link ≡ AddSent j (takes-says B e past SendKeys t).1.1.0
        sent = (takes-says B e past SendKeys t).1.1.1

        flow : (flow_of B (e ∷ past)).link ≡ KeysSent j on
        flow = ap (λ (f : Fabric). f.b.flow.link) changed

        keys : keys_of B (e ∷ past) ≡ record (keys_of B past) { keys = registers_all (key_base B) (link_or_none j (table_of B (e ∷ past))) (keys_of B past).confirmed (keys_of B past).keys }
        keys = tells-keys (ap is_adding sent) t some

    asks-again : (k : ℕ) → Loss B k e past → ((loses k (peer_of B past)).group == 0) ≡ false → (j on : ℕ) → (flow_of B past).link ≡ KeysSent j on → resends_add k (KeysSent j on) ≡ true
        → n ≡ add_keys false (lowest_live (loses k (peer_of B past)).table) j (keys_of B past).keys (keys_of B past).confirmed → l ≡ link_or_none (lowest_live (loses k (peer_of B past)).table) (loses k (peer_of B past)).table → TellsNew l.slot n (e ∷ past)
    asks-again k loss some_left j on f r message link = tells-on (e ∷ past) covered rises sound j (lowest_live (loses k (peer_of B past)).table) (loss.link ∙ loses-sent k (peer_of B past) j on some_left f r) l n
        (message ∙ ap (λ (ks : Keys). add_keys false (lowest_live (loses k (peer_of B past)).table) j ks.keys ks.confirmed) (sym same)) (link ∙ ap (λ tb. link_or_none (lowest_live (loses k (peer_of B past)).table) tb) (sym loss.table))
      where
        apart : (i o : ℕ) → (flow_of B past).link ≡ AddSent i o → ⊥
        apart i o q = (let z : KeysSent j on ≡ AddSent i o = sym f ∙ q in cc)

        same : keys_of B (e ∷ past) ≡ keys_of B past
        same = keys-stay (ap is_adding f) apart some

    asks-posted : KeysPosted setup payload e past B (Llc B l n) → TellsNew l.slot n (e ∷ past)
    asks-posted (ByTelling t h) = asks-told t (message-of B B l _ n _ h) (link-of B B l _ n _ h)
    asks-posted (ByLoss k loss some_left still (TellsAgain j on f r h)) = asks-again k loss some_left j on f r (message-of B B l _ n _ h) (link-of B B l _ n _ h)
    asks-posted (ByLoss k loss some_left still (AsksAgain a r h before after split silent)) = absurd (not-it _ (message-of B B l _ n _ h) refl)
    asks-posted (ByLoss k loss some_left still (DeletesAgain a r h)) = absurd (not-it _ (message-of B B l _ n _ h) refl)
    asks-posted (ByVerdict va h) = absurd (not-it _ (message-of B B l _ n _ h) refl)
    asks-posted (ByTrim ev r h) = absurd (not-it _ (message-of B B l _ n _ h) refl)
    asks-posted (ByAnswer t h) = absurd (not-it _ (message-of B B l _ n _ h) refl)
    asks-posted (ByRefusal t h) = absurd (not-it _ (message-of B B l _ n _ h) refl)
    asks-posted (ByRetry t h) = absurd (not-it _ (message-of B B l _ n _ h) (key-reply-tells true t.act.message (takes-says B e past ReplyRetry t).1.0).0)
    asks-posted (ByLearning t h) = absurd (not-it _ (message-of B B l _ n _ h) (key-reply-tells false t.act.message (takes-says B e past Learn t).0).0)
    asks-posted (ByForgetting t h) = absurd (not-it _ (message-of B B l _ n _ h) (delete-reply-tells t.act.link (book_of B past) t.act.message (takes-says B e past Forget t)).0)

    asks-after : IsWaiting l B n (e ∷ past) → TellsNew l.slot n (e ∷ past)
    asks-after w = elim (waited-or-posted l B n e past w) [
      | inl h ↦ asks-old h
      | inr i ↦ asks-posted (keys-posted setup payload past m.0.0 e m.0.1 B l n (link-keys n is) i)
    ]

  -- what A answers, after the entry
  module _ (was : AreTelling past) (covered : AreCovered A past) (known : AreKnown A past)
      (forgotten : (t : Takes A e past Withdraw) (k : Key) → IsAmong k (book_of B past) → has k.rmb (named_rmbs (deleted t.act.message) (keys_of A past).keys) ≡ true → stands k.link (table_of A past) ≡ false)
      (l : LinkId) (n : LlcMessage) (alive : is_dead l (e ∷ past) ≡ false) (is : is_tell_answer n ≡ true) where
    answers-old : IsWaiting l A n past → IsWaiting l A n (e ∷ past) → TellsKnown l n (e ∷ past)
    answers-old w w_after u i k ik eq on = elim (book-from B e past k ik) [
      | inl h ↦ stays h (was.answers l n alive_was w is u i k h eq on)
      | inr new ↦ absurd (learns k new)
    ]
      where
        alive_was : is_dead l past ≡ false
        alive_was = waited-alive e past (grows-of setup payload e past m) flows.empty l A n w alive

        adds : is_adding (flow_of B past).link ≡ true
        adds = telling-adds (named_slot n l.slot) l.slot (flow_of B past).link (answer-telling past flows l n alive_was w is)

        tells : is_telling_on (named_slot n l.slot) l.slot (flow_of B (e ∷ past)).link ≡ true
        tells = answer-telling (e ∷ past) later l n alive w_after is

        stays : IsAmong k (book_of B past) → HasUse (use_of u.fresh k.rmb (named_slot n l.slot)) (keys_of A past).keys → HasUse (use_of u.fresh k.rmb (named_slot n l.slot)) (keys_of A (e ∷ past)).keys
        stays h it = elim (stays-bound A e past (use_of u.fresh k.rmb (named_slot n l.slot)) it) [
          | inl there ↦ there
          | inr (Withdrawn t named) ↦ absurd (true≢false (sym (ap (λ q. stands q (table_of A past)) on ∙ stands-on A l alive_was) ∙ forgotten t k h named))
          | inr (GroupGoes none) ↦ absurd (some-after A l alive none)
        ]

        begun : (o : Offered) → IsConfirming B o.link past → ⊥
        begun o c = true≢false (sym adds ∙ ap (λ (f : Flow). is_adding f.link) c.flow)

        learns : (k : Key) → Learns B e past k → ⊥
        learns _ (OfOffer o t) = let h = confirms-first setup payload e past m t.s t.event t.reply o t.offered in begun h.1.0 (IsJoinedFirst.at_b h.1.1)
        learns _ (OfRequest k t i) = true≢false (sym adds ∙ (takes-says B e past Learn t).1 refl)
        learns _ (OfAnswer k t i) = true≢false (sym tells ∙ ap (λ (f : Fabric). is_telling_on (named_slot n l.slot) l.slot f.b.flow.link) (fabric-taken B e past t.act t.is ∙ ap (λ v. does B t.act.link t.act.message v (fabric past)) t.does))
        learns _ (OfKeys k t i) = b-not-a (takes-says B e past (ReplyKeys true) t).0

    not-answer : (q : LlcMessage) → n ≡ q → is_tell_answer q ≡ false → ⊥
    not-answer q h f = true≢false (sym is ∙ (ap is_tell_answer h ∙ f))

    answers-now : (t : Takes A e past (ReplyKeys true)) → l ≡ t.act.link → TellsKnown l (add_keys true t.act.link.slot (named_slot t.act.message t.act.link.slot) (keys_of A past).keys (keys_of A past).confirmed) (e ∷ past)
    answers-now t link u i k ik eq at = elim (book-from B e past k ik) [
      | inl h ↦ stays (bound h)
      | inr new ↦ absurd (learns k new)
    ]
      where
        on : LinkId
        on = t.act.link

        j : ℕ
        j = named_slot t.act.message t.act.link.slot

        ks : List Key
        ks = (keys_of A past).keys

        land : HasLanded A past t.act
        land = has-landed setup payload past m.0.0 e m.0.1 A t.act t.is

        o : IsOwn A (peer A (fabric past))
        o = own A

        stands-here : stands t.act.link (table_of A past) ≡ true
        stands-here = stands-on A t.act.link land.alive

        carrier : link_at t.act.link.slot (table_of A past) ≡ Some t.act.link
        carrier = (stands-at 1 t.act.link (table_of A past) o.rises stands-here).1

        fresh-at : (link : LinkId) × (link_at (named_slot t.act.message t.act.link.slot) (table_of A past) ≡ Some link)
        fresh-at = pending-link (named_slot t.act.message t.act.link.slot) (table_of A past) (seen-fits (peer A (fabric past)) o.sound (named_slot t.act.message t.act.link.slot) (takes-says A e past (ReplyKeys true) t).1.1)

        pairs : PairsBound t.act.link.slot (named_slot t.act.message t.act.link.slot) (told_new (add_keys true t.act.link.slot (named_slot t.act.message t.act.link.slot) (keys_of A past).keys (keys_of A past).confirmed)) (keys_of A past).keys
        pairs = pairs-posted t.act.link.slot (named_slot t.act.message t.act.link.slot) t.act.link fresh-at.0 (keys_of A past).confirmed (keys_of A past).keys refl (at-is 1 (named_slot t.act.message t.act.link.slot) (table_of A past) fresh-at.0 o.rises fresh-at.1).1
            (λ rmb c. (covered rmb c t.act.link.slot t.act.link carrier refl, covered rmb c (named_slot t.act.message t.act.link.slot) fresh-at.0 fresh-at.1 refl))

        bound : IsAmong k (book_of B past) → HasUse (use_of u.fresh k.rmb (named_slot t.act.message t.act.link.slot)) (keys_of A past).keys
        bound h =
            let b = pairs u i in
            let its = known k h (ap (λ q. stands q (table_of A past)) (at ∙ link) ∙ stands-here) in
            let one = one-number (keys_of A past).keys (keys-are A past).numbers its.key b.1.0.key its.among b.1.0.among (its.number ∙ (eq ∙ sym b.1.0.number)) in
            let same : b.0 ≡ k.rmb = sym b.1.0.of ∙ (ap (λ (n : Key). n.rmb) (sym one) ∙ its.of) in
            subst (λ r. HasUse (use_of u.fresh r (named_slot t.act.message t.act.link.slot)) (keys_of A past).keys) same b.1.1

        stays : HasUse (use_of u.fresh k.rmb (named_slot t.act.message t.act.link.slot)) (keys_of A past).keys → HasUse (use_of u.fresh k.rmb (named_slot t.act.message t.act.link.slot)) (keys_of A (e ∷ past)).keys
        stays it = elim (stays-bound A e past (use_of u.fresh k.rmb (named_slot t.act.message t.act.link.slot)) it) [
          | inl there ↦ there
          | inr (Withdrawn v named) ↦ absurd (not-both (one-step A e past (ReplyKeys true) Withdraw t v))
          | inr (GroupGoes none) ↦ absurd (some-after A l alive none)
        ]
          where
            not-both : ReplyKeys true ≡ Withdraw → ⊥
            not-both q = cc

        learns : (k : Key) → Learns B e past k → ⊥
        learns _ (OfOffer o v) = none-is t.act (sym (ap (λ event. act_by A event e.reply past) v.event) ∙ t.is)
        learns _ (OfRequest k v i) = acts-apart e.event e.reply past t.act v.act t.is v.is
        learns _ (OfAnswer k v i) = acts-apart e.event e.reply past t.act v.act t.is v.is
        learns _ (OfKeys k v i) = acts-apart e.event e.reply past t.act v.act t.is v.is

    answers-posted : KeysPosted setup payload e past A (Llc A l n) → TellsKnown l n (e ∷ past)
    answers-posted (ByAnswer t h) = subst (λ q. TellsKnown l q (e ∷ past)) (sym (message-of A A l _ n _ h)) (answers-now t (link-of A A l _ n _ h))
    answers-posted (ByRefusal t h) = λ u i. absurd (subst (λ q. IsAmong u (told_new q)) (message-of A A l _ n _ h) i)
    answers-posted (ByTelling t h) = absurd (not-answer _ (message-of A B l _ n _ h) refl)
    answers-posted (ByLoss k loss some_left still (TellsAgain j on f r h)) = absurd (not-answer _ (message-of A A l _ n _ h) refl)
    answers-posted (ByLoss k loss some_left still (AsksAgain a r h before after split silent)) = absurd (not-answer _ (message-of A A l _ n _ h) refl)
    answers-posted (ByLoss k loss some_left still (DeletesAgain a r h)) = absurd (not-answer _ (message-of A A l _ n _ h) refl)
    answers-posted (ByVerdict va h) = absurd (not-answer _ (message-of A A l _ n _ h) refl)
    answers-posted (ByTrim ev r h) = absurd (not-answer _ (message-of A A l _ n _ h) refl)
    answers-posted (ByRetry t h) = absurd (not-answer _ (message-of A A l _ n _ h) (key-reply-tells true t.act.message (takes-says A e past ReplyRetry t).1.0).1)
    answers-posted (ByLearning t h) = absurd (not-answer _ (message-of A A l _ n _ h) (key-reply-tells false t.act.message (takes-says A e past Learn t).0).1)
    answers-posted (ByForgetting t h) = absurd (not-answer _ (message-of A A l _ n _ h) (delete-reply-tells t.act.link (book_of A past) t.act.message (takes-says A e past Forget t)).1)

    answers-after : IsWaiting l A n (e ∷ past) → TellsKnown l n (e ∷ past)
    answers-after w = elim (waited-or-posted l A n e past w) [
      | inl h ↦ answers-old h w
      | inr i ↦ answers-posted (keys-posted setup payload past m.0.0 e m.0.1 A l n (answer-keys n is) i)
    ]

  -- the step
  pub telling-after : AreTelling past → AreCovered B (e ∷ past) → AreCovered A past → AreKnown A past
      → ((t : Takes A e past Withdraw) (k : Key) → IsAmong k (book_of B past) → has k.rmb (named_rmbs (deleted t.act.message) (keys_of A past).keys) ≡ true → stands k.link (table_of A past) ≡ false)
      → AreTelling (e ∷ past)
  telling-after was covered_b covered_a known forgotten = record {
    asks = λ l n alive w is. asks-after was covered_b l n alive is w;
    answers = λ l n alive w is. answers-after was covered_a known forgotten l n alive is w;
  }
