-- What is lent is of the side's group; an offer's group is not 0, and its packet sequence number is its group.
use Rattle.std.proofs.Common.{Bool, List, [], ap, arith, eq-eqb, eqb-true, false, filter, filter_map, fold, if◌then◌else◌, inl, inr, map, nat_lt, not, refl, subst, sym, true, true≢false, ℕ, ◌&&◌, ◌+◌, ◌==◌, ◌||◌, ◌∙◌, ◌∷◌, ◌≡◌, ◌≢◌, ◌⊎◌}
use Rattle.pipe_model.specs.declared.reply.Hold.TheVariants.{AddLink as AddLinkHold, ConfirmRkey as ConfirmRkeyHold, DeleteRkey as DeleteRkeyHold, FirstContact as FirstContactHold}
use Rattle.pipe_model.specs.declared.reply.Lack.TheVariants.{Raw as RawLack}
use Rattle.std.specs.Prelude.{Some, option_map, unwrap_or}
use Rattle.pipe_model.specs.Handshake.{verdict}
use Rattle.clc_wire.specs.declared.message.ClcMessage.TheVariants.{Accept as AcceptMessage}
use Rattle.pipe_model.specs.Fabric.{after}
use Rattle.pipe_model.specs.declared.event.Event.TheVariants.{Clc as ClcEvent}
use Rattle.pipe_model.specs.declared.reply.Reply.TheVariants.{Sent}
use Rattle.pipe_model.specs.declared.reply.SentKind.TheVariants.{Accept as AcceptSent}
use Rattle.history_laws.specs.Words.{A, AskKey, B, ClcStep, Decline, Entry, Fabric, GroupLost, Known, Lacks, Lending, LinkId, NoClientElement, NoServerElement, NoSlot, NoSubnet, Offer, Offered, OldGroup, Proposal, SendAccept, SendConfirm, Setup, Side, Wait, WaitsProposal, accept_post, confirm_post, end_state, fabric, fewest, first_contact_step, flow_of, group_of, groups_begun, is_asked, is_deleting, is_first_contact, is_live, is_over_on, is_raw, key_step, lacks, leaves_handshake, lends, lends_by, lent, lighter, lightest, link_now, live_links, load, loses_group_with, named_link, new_offer, no_link, offered, on_accept, on_first_accept, on_later_accept, on_proposal, peer, returns, table_of}
use Rattle.history_laws.proofs.Basics.{by-bool, or-none, some-live}
use Rattle.history_laws.specs.Made.{IsMade}
use Rattle.history_laws.specs.Offers.{Accepts, Confirms, HasOffers, HasStates, Offers, OffersAccept, OffersConfirm, OffersNone, accept_link, confirm_reply}
use Rattle.history_laws.proofs.Offers.{accept-is, accept-new, accepts-in, confirm-new, free-lends-all, of-entry, sends-accept}
use Rattle.history_laws.specs.Lists.{IsAmong}
use Rattle.history_laws.proofs.Posts.{data-free}
use Rattle.link_laws.specs.Linked.{AreOf, Begins, Confirms as ConfirmsContact, Goes, HasNone, IsOwn, IsSound}
use Rattle.lending_laws.proofs.Lendings.Lendings.{changes, in-new}

-- a verdict that sends is none of those that hold or decline
pub if-not : (b : Bool) (w r v : ClcStep) → (w ≡ v → ⊥) → (if b then w else r) ≡ v → (b ≡ false) × (r ≡ v)
if-not true w r v n e = absurd (n e)
if-not false w r v n e = (refl, e)

key-not-accept : (l : Lacks) (first : Bool) → key_step l ≡ SendAccept first → ⊥
key-not-accept l first e =
    let a = if-not (is_asked l.key_flow) (Wait ConfirmRkeyHold) (if l.adding then Wait AddLinkHold else AskKey) (SendAccept first) (λ h. cc) e in
    let b = if-not l.adding (Wait AddLinkHold) AskKey (SendAccept first) (λ h. cc) a.1 in (let w : AskKey ≡ SendAccept first = b.1 in cc)

key-not-confirm : (l : Lacks) (first : Bool) → key_step l ≡ SendConfirm first → ⊥
key-not-confirm l first e =
    let a = if-not (is_asked l.key_flow) (Wait ConfirmRkeyHold) (if l.adding then Wait AddLinkHold else AskKey) (SendConfirm first) (λ h. cc) e in
    let b = if-not l.adding (Wait AddLinkHold) AskKey (SendConfirm first) (λ h. cc) a.1 in (let w : AskKey ≡ SendConfirm first = b.1 in cc)

-- B accepts where an element is free and its group is beyond first contact, in first contact just where it has no group
pub record AcceptFacts (l : Lacks) (first : Bool) : Type 0 where
  pub beyond : l.first_contact ≡ false
  pub some : (l.free == 0) ≡ false
  pub first_is : (l.group == 0) ≡ first
  pub calm : is_deleting l.key_flow ≡ false
  pub ready : first ≡ false → l.rmb_ready ≡ true

pub accept-facts : (raw : Bool) (p : Proposal) (l : Lacks) (first : Bool) → on_proposal raw p l ≡ SendAccept first → AcceptFacts l first
accept-facts raw p l first e =
    let rest : ClcStep = if not l.rmb_ready then key_step l else SendAccept false in
    let grouped : ClcStep = if l.group == 0 then first_contact_step raw l else rest in
    let lacking : ClcStep = if l.free == 0 then Decline (NoServerElement l.elements) else grouped in
    let deleting : ClcStep = if is_deleting l.key_flow then Wait DeleteRkeyHold else lacking in
    let starting : ClcStep = if l.first_contact then Wait FirstContactHold else deleting in
    let a = if-not (not ((p.subnet == l.subnet.0) && (p.prefix == l.subnet.1))) (Decline NoSubnet) starting (SendAccept first) (λ h. cc) e in
    let b = if-not l.first_contact (Wait FirstContactHold) deleting (SendAccept first) (λ h. cc) a.1 in
    let c = if-not (is_deleting l.key_flow) (Wait DeleteRkeyHold) lacking (SendAccept first) (λ h. cc) b.1 in
    let d = if-not (l.free == 0) (Decline (NoServerElement l.elements)) grouped (SendAccept first) (λ h. cc) c.1 in
    record { beyond = b.0; some = d.0; first_is = by (l.group == 0) refl d.1; calm = c.0; ready = readied (l.group == 0) d.1 }
  where
    first-of : (a b : Bool) → SendAccept a ≡ SendAccept b → a ≡ b
    first-of a b h = cc

    not-false : (b : Bool) → not b ≡ false → b ≡ true
    not-false true h = refl
    not-false false h = absurd (true≢false h)

    readied : (g : Bool) → (if g then first_contact_step raw l else (if not l.rmb_ready then key_step l else SendAccept false)) ≡ SendAccept first → first ≡ false → l.rmb_ready ≡ true
    readied true q f =
        let a = if-not raw (Decline RawLack) (if l.slots_up == 0 then Decline (NoSlot l.links) else SendAccept true) (SendAccept first) (λ w. cc) q in
        let b = if-not (l.slots_up == 0) (Decline (NoSlot l.links)) (SendAccept true) (SendAccept first) (λ w. cc) a.1 in
        absurd (true≢false (first-of true first b.1 ∙ f))
    readied false q f = let a = if-not (not l.rmb_ready) (key_step l) (SendAccept false) (SendAccept first) (key-not-accept l first) q in not-false l.rmb_ready a.0

    by : (g : Bool) → (l.group == 0) ≡ g → (if g then first_contact_step raw l else (if not l.rmb_ready then key_step l else SendAccept false)) ≡ SendAccept first → (l.group == 0) ≡ first
    by true h q =
        let a = if-not raw (Decline RawLack) (if l.slots_up == 0 then Decline (NoSlot l.links) else SendAccept true) (SendAccept first) (λ w. cc) q in
        let b = if-not (l.slots_up == 0) (Decline (NoSlot l.links)) (SendAccept true) (SendAccept first) (λ w. cc) a.1 in
        h ∙ first-of true first b.1
    by false h q = let a = if-not (not l.rmb_ready) (key_step l) (SendAccept false) (SendAccept first) (key-not-accept l first) q in h ∙ first-of false first a.1

-- A confirms in first contact where it has no group, and else where it is in the group of the offer and an element is free
pub record ConfirmFacts (o : Offer) (l : Lacks) (first : Bool) : Type 0 where
  pub first_is : o.first ≡ first
  pub fresh : first ≡ true → (l.group == 0) ≡ true
  pub named : first ≡ false → (o.psn == l.group) ≡ true
  pub some : first ≡ false → (l.free == 0) ≡ false
  pub calm : first ≡ false → is_deleting l.key_flow ≡ false
  pub ready : first ≡ false → l.rmb_ready ≡ true

pub confirm-facts : (o : Offer) (l : Lacks) (first : Bool) → on_accept o l ≡ SendConfirm first → ConfirmFacts o l first
confirm-facts o l first e = by o.first refl e
  where
    first-of : (a b : Bool) → SendConfirm a ≡ SendConfirm b → a ≡ b
    first-of a b h = cc

    not-false : (b : Bool) → not b ≡ false → b ≡ true
    not-false true h = refl
    not-false false h = absurd (true≢false h)

    by : (b : Bool) → o.first ≡ b → (if b then on_first_accept l else on_later_accept o l) ≡ SendConfirm first → ConfirmFacts o l first
    by true f q =
        let a = if-not (not (l.group == 0)) (Wait OldGroup) (SendConfirm true) (SendConfirm first) (λ w. cc) q in
        let is : true ≡ first = first-of true first a.1 in
        record { first_is = f ∙ is; fresh = λ w. not-false (l.group == 0) a.0; named = λ w. absurd (true≢false (is ∙ w)); some = λ w. absurd (true≢false (is ∙ w)); calm = λ w. absurd (true≢false (is ∙ w)); ready = λ w. absurd (true≢false (is ∙ w)) }
    by false f q =
        let ready : ClcStep = if not l.rmb_ready then key_step l else SendConfirm false in
        let lacking : ClcStep = if l.free == 0 then Decline (NoClientElement l.elements) else ready in
        let deleting : ClcStep = if is_deleting l.key_flow then Wait DeleteRkeyHold else lacking in
        let a = if-not (not (o.psn == l.group)) (Decline (GroupLost o.psn l.group)) deleting (SendConfirm first) (λ w. cc) q in
        let b = if-not (is_deleting l.key_flow) (Wait DeleteRkeyHold) lacking (SendConfirm first) (λ w. cc) a.1 in
        let c = if-not (l.free == 0) (Decline (NoClientElement l.elements)) ready (SendConfirm first) (λ w. cc) b.1 in
        let d = if-not (not l.rmb_ready) (key_step l) (SendConfirm false) (SendConfirm first) (key-not-confirm l first) c.1 in
        let is : false ≡ first = first-of false first d.1 in
        record { first_is = f ∙ is; fresh = λ w. absurd (true≢false (sym w ∙ sym is)); named = λ w. not-false (o.psn == l.group) a.0; some = λ w. c.0; calm = λ w. b.0; ready = λ w. not-false l.rmb_ready d.0 }

-- the live links of a side are of its group
abbrev AllOf : ℕ → List LinkId → Type 0
AllOf g [] = Unit {0}
AllOf g (l ∷ ls) = (l.group ≡ g) × AllOf g ls

live-of : (g : ℕ) (ks : List Known) → AreOf g ks → AllOf g (live_links ks)
live-of g [] a = tt
live-of g (k ∷ ks) a = by (is_live k.phase) (live-of g ks a.1)
  where
    by : (b : Bool) → AllOf g (live_links ks) → AllOf g (map (λ known. known.link) (if b then k ∷ filter (λ known. is_live known.phase) ks else filter (λ known. is_live known.phase) ks))
    by true r = (a.0, r)
    by false r = r

fold-of : (g : ℕ) (used : List LinkId) (l : LinkId) (ls : List LinkId) → l.group ≡ g → AllOf g ls → (fold (lighter used) l ls).group ≡ g
fold-of g used l [] e a = e
fold-of g used l (k ∷ ls) e a = fold-of g used (lighter used l k) ls (by (nat_lt (load k used) (load l used))) a.1
  where
    by : (b : Bool) → (if b then k else l).group ≡ g
    by true = a.0
    by false = e

lightest-of : (g : ℕ) (used : List LinkId) (ls : List LinkId) → AllOf g ls → (ls ≡ [] → ⊥) → (lightest used ls).group ≡ g
lightest-of g used [] a n = absurd (n refl)
lightest-of g used (l ∷ ls) a n = fold-of g used l ls a.0 a.1

pub fewest-group : (setup : Setup) (payload : List ℕ) (past : List Entry) → IsOwn B (peer B (fabric past)) → (group_of B past == 0) ≡ false → is_first_contact (flow_of B past).link ≡ false → (fewest setup payload past).group ≡ group_of B past
fewest-group setup payload past own g f = by own.sound
  where
    some : group_of B past ≢ 0
    some e = true≢false (sym (eq-eqb (group_of B past) 0 e) ∙ g)

    by : IsSound B (peer B (fabric past)) → (fewest setup payload past).group ≡ group_of B past
    by (HasNone n h k) = absurd (some n)
    by (Begins n h t) = absurd (true≢false (sym (ap (λ (w : _). is_first_contact w.link) h) ∙ f))
    by (ConfirmsContact link n h t) = absurd (true≢false (sym (ap (λ (w : _). is_first_contact w.link) h) ∙ f))
    by (Goes k n live flowing) = lightest-of (group_of B past) (map (link_now setup payload past) (lent setup payload B past)) (live_links (table_of B past)) (live-of (group_of B past) (table_of B past) (own.owned some)) (some-live k (table_of B past) live)

module _ (setup : Setup) (payload : List ℕ) (past : List Entry) (before : ℕ) (e : Entry) (made : IsMade setup payload past before e) (st : (s : ℕ) → HasStates s past) (off : (s : ℕ) → HasOffers s past) (own : IsOwn B (peer B (fabric past)))
    (psn : (s : ℕ) (o : Offered) → offered B s past ≡ Some o → o.offer.psn ≡ o.link.group) (grouped : (s : ℕ) (o : Offered) → offered B s past ≡ Some o → (o.link.group == 0) ≡ false) where
  -- the group of a new lending is its side's after the entry, and not 0
  abbrev GroupFits : (x : Side) → LinkId → Type 0
  GroupFits x link = (link.group ≡ group_of x (e ∷ past)) × ((link.group == 0) ≡ false)

  pub accept-facts-of : (a : Accepts setup payload e past) → AcceptFacts (lacks setup payload B past) a.first
  accept-facts-of a =
      let q = accepts-in (is_raw a.s past) (end_state B a.s past) a.message (lacks setup payload B past) (ap sends-accept a.step_is) in
      let r = q.1 in
      accept-facts (is_raw a.s past) r.0 (lacks setup payload B past) a.first (sym (ap (λ w. verdict (is_raw a.s past) w a.message (lacks setup payload B past)) a.waits ∙ ap (λ m. verdict (is_raw a.s past) WaitsProposal m (lacks setup payload B past)) r.1) ∙ a.step_is)

  pub confirm-facts-of : (c : Confirms setup payload e past) → ConfirmFacts c.offer (lacks setup payload A past) c.first
  confirm-facts-of c = confirm-facts c.offer (lacks setup payload A past) c.first (sym (ap (λ w. verdict (is_raw c.s past) w (AcceptMessage c.offer) (lacks setup payload A past)) c.waits) ∙ c.step_is)

  accept-fits : (a : Accepts setup payload e past) → GroupFits B (accept_link setup payload a.first past)
  accept-fits a = by a.first refl (accept-facts-of a)
    where
      fabric-is : (first : Bool) → a.first ≡ first → fabric (e ∷ past) ≡ after (ClcEvent a.s A) (Sent AcceptSent) (accept_post setup payload a.s first (accept_link setup payload first past) past ∷ a.more) past (fabric past)
      fabric-is first i = ap (λ v. after v e.reply e.posts past (fabric past)) a.event_is ∙ (ap (λ r. after (ClcEvent a.s A) r e.posts past (fabric past)) a.reply_is ∙ (ap (λ ps. after (ClcEvent a.s A) (Sent AcceptSent) ps past (fabric past)) a.posts_are
          ∙ ap (λ b. after (ClcEvent a.s A) (Sent AcceptSent) (accept_post setup payload a.s b (accept_link setup payload b past) past ∷ a.more) past (fabric past)) i))

      plus-some : (n : ℕ) → (n + 1 == 0) ≡ false
      plus-some n = by-bool ((n + 1 == 0) ≡ false) (n + 1 == 0) (λ z. absurd (let w = eqb-true (n + 1) 0 z in omega (arith, w))) (λ z. z)

      by : (first : Bool) → a.first ≡ first → AcceptFacts (lacks setup payload B past) a.first → GroupFits B (accept_link setup payload a.first past)
      by true i f = (ap (λ b. (accept_link setup payload b past).group) i ∙ sym (ap (λ (g : Fabric). (peer B g).group) (fabric-is true i)), ap (λ b. ((accept_link setup payload b past).group == 0)) i ∙ plus-some (groups_begun past))
      by false i f =
          let some : (group_of B past == 0) ≡ false = f.first_is ∙ i in
          let is : (fewest setup payload past).group ≡ group_of B past = fewest-group setup payload past own some f.beyond in
          (ap (λ b. (accept_link setup payload b past).group) i ∙ (is ∙ sym (ap (λ (g : Fabric). (peer B g).group) (fabric-is false i))), ap (λ b. ((accept_link setup payload b past).group == 0)) i ∙ (ap (λ n. n == 0) is ∙ some))

  confirm-fits : (c : Confirms setup payload e past) → GroupFits A (unwrap_or (named_link c.s past) no_link)
  confirm-fits c = by c.first refl (confirm-facts-of c)
    where
      link : LinkId
      link = unwrap_or (named_link c.s past) no_link

      offer-is : (l : LinkId) × (offered B c.s past ≡ Some (record { link = l; offer = c.offer }))
      offer-is = accept-is setup payload past before e made st off c

      link-is : (unwrap_or (named_link c.s past) no_link) ≡ offer-is.0
      link-is = ap (λ o. unwrap_or (option_map (λ (r : Offered). r.link) o) no_link) offer-is.1

      some : ((unwrap_or (named_link c.s past) no_link).group == 0) ≡ false
      some = ap (λ (l : LinkId). l.group == 0) link-is ∙ grouped c.s (record { link = offer-is.0; offer = c.offer }) offer-is.1

      fabric-is : (first : Bool) → c.first ≡ first → fabric (e ∷ past) ≡ after (ClcEvent c.s B) (confirm_reply first) (confirm_post setup payload c.s first (unwrap_or (named_link c.s past) no_link) past ∷ c.more) past (fabric past)
      fabric-is first i = ap (λ v. after v e.reply e.posts past (fabric past)) c.event_is ∙ (ap (λ r. after (ClcEvent c.s B) r e.posts past (fabric past)) (c.reply_is ∙ ap confirm_reply i) ∙ (ap (λ ps. after (ClcEvent c.s B) (confirm_reply first) ps past (fabric past)) c.posts_are
          ∙ ap (λ b. after (ClcEvent c.s B) (confirm_reply first) (confirm_post setup payload c.s b (unwrap_or (named_link c.s past) no_link) past ∷ c.more) past (fabric past)) i))

      by : (first : Bool) → c.first ≡ first → ConfirmFacts c.offer (lacks setup payload A past) c.first → GroupFits A (unwrap_or (named_link c.s past) no_link)
      by true i f = (sym (ap (λ (g : Fabric). (peer A g).group) (fabric-is true i)), some)
      by false i f =
          let named : c.offer.psn ≡ group_of A past = eqb-true c.offer.psn (group_of A past) (f.named i) in
          let same : c.offer.psn ≡ offer-is.0.group = psn c.s (record { link = offer-is.0; offer = c.offer }) offer-is.1 in
          (ap (λ (l : LinkId). l.group) link-is ∙ (sym same ∙ (named ∙ sym (ap (λ (g : Fabric). (peer A g).group) (fabric-is false i)))), some)

  pub new-fits : (x : Side) (l : Lending) → IsAmong l (filter_map (lends x) e.posts) → (l.group ≡ group_of x (e ∷ past)) × ((l.group == 0) ≡ false)
  new-fits x l i = by (of-entry setup payload past before e made st off) x i
    where
      one : (n : LinkId) (s : ℕ) (o : Offer) (y : Side) → GroupFits y n → l ≡ lends_by s n o → (l.group ≡ group_of y (e ∷ past)) × ((l.group == 0) ≡ false)
      one n s o y f q = (ap (λ (k : Lending). k.group) q ∙ f.0, ap (λ (k : Lending). k.group == 0) q ∙ f.1)

      by : Offers setup payload e past → (y : Side) → IsAmong l (filter_map (lends y) e.posts) → (l.group ≡ group_of y (e ∷ past)) × ((l.group == 0) ≡ false)
      by (OffersNone f) y j = absurd (subst (λ ls. IsAmong l ls) (free-lends-all y e.posts f) j)
      by (OffersAccept a) B j = let n = accept-new setup payload past before e made st off a in one n.link n.s (new_offer setup payload B n.first n.link past) B (accept-fits a) (in-new setup payload past before e made st off B n l j)
      by (OffersAccept a) A j = absurd (subst (λ ls. IsAmong l ls) (ap (λ ps. filter_map (lends A) ps) a.posts_are ∙ free-lends-all A a.more (data-free a.more a.plain)) j)
      by (OffersConfirm c) A j = let n = confirm-new setup payload past before e made st off c in one n.link n.s (new_offer setup payload A n.first n.link past) A (confirm-fits c) (in-new setup payload past before e made st off A n l j)
      by (OffersConfirm c) B j = absurd (subst (λ ls. IsAmong l ls) (ap (λ ps. filter_map (lends B) ps) c.posts_are ∙ free-lends-all B c.more (data-free c.more c.plain)) j)

  -- what is lent is of the side's group
  pub group-after : (x : Side) → ((l : Lending) → IsAmong l (lent setup payload x past) → (l.group ≡ group_of x past) × ((l.group == 0) ≡ false)) → (l : Lending) → IsAmong l (lent setup payload x (e ∷ past)) → (l.group ≡ group_of x (e ∷ past)) × ((l.group == 0) ≡ false)
  group-after x was l i = (let c = changes setup payload past before e made st off x in by (c.was l i))
    where
      by : IsAmong l (filter_map (lends x) e.posts) ⊎ (IsAmong l (lent setup payload x past) × (returns setup payload x e past l ≡ false)) → (l.group ≡ group_of x (e ∷ past)) × ((l.group == 0) ≡ false)
      by (inl j) = new-fits x l j
      by (inr q) =
          let w = was l q.0 in
          let a = or-none (leaves_handshake x l.s e.event e.reply) (loses_group_with x l.group e past || is_over_on setup payload x l (e ∷ past)) q.1 in
          let b = or-none (loses_group_with x l.group e past) (is_over_on setup payload x l (e ∷ past)) a.1 in
          (sym (eqb-true (group_of x (e ∷ past)) l.group (stands (l.group == 0) (group_of x past == l.group) (group_of x (e ∷ past) == l.group) w.1 (eq-eqb (group_of x past) l.group (sym w.0)) b.0)), w.1)
        where
          stands : (z g h : Bool) → z ≡ false → g ≡ true → (not z && (g && not h)) ≡ false → h ≡ true
          stands true g h p q r = absurd (true≢false p)
          stands false false h p q r = absurd (true≢false (sym q))
          stands false true true p q r = refl
          stands false true false p q r = absurd (true≢false r)
