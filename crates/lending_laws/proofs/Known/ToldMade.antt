-- What offers of first contact tell is bound at their side, and is new to the other: with each entry of a history that is made by the definitions.
use Rattle.std.proofs.Common.{Bool, List, [], ap, arith, cond, eq-eqb, eqb-true, false, if◌then◌else◌, inl, inr, refl, subst, sym, true, true≢false, ℕ, ◌++◌, ◌+◌, ◌==◌, ◌∙◌, ◌∷◌, ◌≡◌, ◌≤◌, ◌⊎◌}
use Rattle.pipe_model.specs.declared.reply.Reply.TheVariants.{Idle, Sent}
use Rattle.pipe_model.specs.declared.reply.SentKind.TheVariants.{Accept as AcceptSent, Confirm as ConfirmSent, ConfirmRkey as KeySent, ConfirmLink as LinkSent}
use Rattle.clc_wire.specs.declared.message.ClcMessage.TheVariants.{Accept as AcceptMessage, Confirm as ConfirmMessage, Decline as DeclineMessage, Proposal as ProposalMessage}
use Rattle.pipe_model.specs.Handshake.{verdict}
use Rattle.pipe_model.specs.declared.event.Event.TheVariants.{Clc as ClcEvent}
use Rattle.std.specs.Prelude.{None, Option, Some, option_map, unwrap_or}
use Rattle.pipe_model.specs.Lawful.{asked}
use Rattle.pipe_model.specs.Fabric.{after}
use Rattle.history_laws.specs.Words.{A, AskKey, B, BadClc, ClcMessage, ClcStep, Decline, Declined, Entry, Established, Fabric, Fell, FellBack, Flow, Held, Key, Known, Lacks, LinkId, Lost, Offer, Offered, Pending, Post, Ready, Reset, SendAccept, SendConfirm, Setup, Side, Wait, WaitsConfirm, Whole, Wrong, act_by, act_in, book_of, clc_posts, clc_step, confirm_post, connection_posts, draft, end_state, fabric, front, front_posts, group_of, group_on, groups_begun, has_ended, head, is_first_contact, is_raw, keys_of, lacks, link_at, made_on, named_link, new_offer, no_link, offered, other, peer, put, stands, step_told, stream, table_of, untaken}
use Rattle.history_laws.specs.Made.{IsMadeAll, IsMade}
use Rattle.history_laws.proofs.Offers.{Answers, ByVerdict, ForFault, NotTaken, all-offers, answers, front-in, kept, new-or-old, states}
use Rattle.history_laws.specs.Lists.{IsAmong}
use Rattle.history_laws.proofs.Basics.{none-is, some-is}
use Rattle.history_laws.specs.Offers.{Confirms, HasOffers, NewLending}
use Rattle.link_laws.specs.Joined.{HasContact, IsContacted}
use Rattle.link_laws.proofs.Joined.{flows-of, has-contact}
use Rattle.link_laws.specs.UnderWay.{HasFlows}
use Rattle.link_laws.specs.Offered.{AreOffered}
use Rattle.link_laws.specs.Linked.{AreLinked}
use Rattle.link_laws.specs.FabricChanges.{OffersFirst}
use Rattle.link_laws.specs.Contact.{IsConfirming, IsJoinedFirst}
use Rattle.link_laws.proofs.Contact.{front-head, joined-row}
use Rattle.link_laws.proofs.Sound.{has-group, put-link, stands-at}
use Rattle.link_laws.specs.KeyChanges.{Learns, OfAnswer, OfKeys, OfOffer, OfRequest, TakesOffer, offered_key}
use Rattle.link_laws.specs.Learnt.{AreMade, BeginsFirst, IsNear}
use Rattle.link_laws.proofs.Keys.{book-from}
use Rattle.link_laws.specs.Owed.{CanJoin}
use Rattle.lending_laws.proofs.Lendings.{TakesConfirm, ready-in}
use Rattle.lending_laws.proofs.Known.Requesting.{links-made}
use Rattle.lending_laws.proofs.Known.FirstOffers.{BeginsA, BeginsB, begins-a, begins-b as first-b}
use Rattle.lending_laws.proofs.Ends.{at-most, begins-b, same-first}
use Rattle.lending_laws.proofs.Known.FlowsMade.{joined-offer, joins-at}
use Rattle.lending_laws.proofs.Known.FirstKeys.{all-first-keys}

-- which verdicts are told as sending a Confirm, or as asking for the first link
told-confirm : (group : ℕ) (m : ClcMessage) (w : ClcStep) → step_told group m w ≡ Sent ConfirmSent → w ≡ SendConfirm true
told-confirm group m (SendConfirm true) e = refl
told-confirm group m (SendConfirm false) e = cc
told-confirm group m (SendAccept first) e = (let z : Sent AcceptSent ≡ Sent ConfirmSent = e in cc)
told-confirm group m AskKey e = (let z : Sent KeySent ≡ Sent ConfirmSent = e in cc)
told-confirm group m (Wait hold) e = (let z : Held hold ≡ Sent ConfirmSent = e in cc)
told-confirm group m (Decline lack) e = (let z : Declined lack ≡ Sent ConfirmSent = e in cc)
told-confirm group m Fell e = (let z : FellBack ≡ Sent ConfirmSent = e in cc)
told-confirm group (ConfirmMessage o) Ready e = absurd (by o.first e)
  where
    by : (b : Bool) → (if b then Sent LinkSent else Established) ≡ Sent ConfirmSent → ⊥
    by true e = (let z : Sent LinkSent ≡ Sent ConfirmSent = e in cc)
    by false e = (let z : Established ≡ Sent ConfirmSent = e in cc)
told-confirm group (ProposalMessage p) Ready e = (let z : Idle ≡ Sent ConfirmSent = e in cc)
told-confirm group (AcceptMessage o) Ready e = (let z : Idle ≡ Sent ConfirmSent = e in cc)
told-confirm group (DeclineMessage r) Ready e = (let z : Idle ≡ Sent ConfirmSent = e in cc)
told-confirm group m Lost e = cc
told-confirm group m (Wrong kind) e = cc

told-link : (group : ℕ) (m : ClcMessage) (w : ClcStep) → step_told group m w ≡ Sent LinkSent → (w ≡ Ready) × ((o : Offer) × ((m ≡ ConfirmMessage o) × (o.first ≡ true)))
told-link group m (SendConfirm true) e = (let z : Sent ConfirmSent ≡ Sent LinkSent = e in cc)
told-link group m (SendConfirm false) e = (let z : Established ≡ Sent LinkSent = e in cc)
told-link group m (SendAccept first) e = (let z : Sent AcceptSent ≡ Sent LinkSent = e in cc)
told-link group m AskKey e = (let z : Sent KeySent ≡ Sent LinkSent = e in cc)
told-link group m (Wait hold) e = (let z : Held hold ≡ Sent LinkSent = e in cc)
told-link group m (Decline lack) e = (let z : Declined lack ≡ Sent LinkSent = e in cc)
told-link group m Fell e = (let z : FellBack ≡ Sent LinkSent = e in cc)
told-link group (ConfirmMessage o) Ready e = by o.first refl e
  where
    by : (b : Bool) → o.first ≡ b → (if b then Sent LinkSent else Established) ≡ Sent LinkSent → (Ready ≡ Ready) × ((p : Offer) × ((ConfirmMessage o ≡ ConfirmMessage p) × (p.first ≡ true)))
    by true f e = (refl, (o, (refl, f)))
    by false f e = (let z : Established ≡ Sent LinkSent = e in cc)
told-link group (ProposalMessage p) Ready e = (let z : Idle ≡ Sent LinkSent = e in cc)
told-link group (AcceptMessage o) Ready e = (let z : Idle ≡ Sent LinkSent = e in cc)
told-link group (DeclineMessage r) Ready e = (let z : Idle ≡ Sent LinkSent = e in cc)
told-link group m Lost e = cc
told-link group m (Wrong kind) e = cc

-- B is ready where the Confirm is of its group
ready-psn : (raw : Bool) (o : Offer) (l : Lacks) → verdict raw WaitsConfirm (ConfirmMessage o) l ≡ Ready → (o.psn == l.group) ≡ true
ready-psn true o l e = cc
ready-psn false o l e = by (o.psn == l.group) refl e
  where
    by : (b : Bool) → (o.psn == l.group) ≡ b → (if b then Ready else Lost) ≡ Ready → (o.psn == l.group) ≡ true
    by true q e = q
    by false q e = cc

module _ (setup : Setup) (payload : List ℕ) (e : Entry) (past : List Entry) (m : IsMadeAll setup payload (e ∷ past)) where
  abbrev contact : HasContact past
  contact = has-contact setup payload past m.1

  all : IsContacted past (HasFlows.under (HasContact.flows contact))
  all = contact.contacted

  offers : AreOffered past
  offers = all.offers

  linked : AreLinked (fabric past) (HasFlows.under (HasContact.flows contact))
  linked = let f : HasFlows past = contact.flows in f.linked

  -- A takes the Accept of first contact: it offers in its turn, on the link that B's offer names
  accepts-first : (s : ℕ) → e.event ≡ ClcEvent s B → e.reply ≡ Sent ConfirmSent → (o : Offered) → offered B s past ≡ Some o → (p : Offer) × OffersFirst A e o.link p
  accepts-first s ev r o i = by (answers setup payload past m.0.0 e m.0.1 s B ev)
    where
      by : Answers setup payload s B past e.reply → (p : Offer) × OffersFirst A e o.link p
      by (NotTaken q) = absurd (let z : Idle ≡ Sent ConfirmSent = sym q ∙ r in cc)
      by (ForFault fault x f q) = absurd (let z : Reset (BadClc fault) ≡ Sent ConfirmSent = sym q ∙ r in cc)
      by (ByVerdict n len x f q) = (new_offer setup payload A true o.link past, record { s = s; posted = subst (λ ps. IsAmong (confirm_post setup payload s true o.link past) ps) (sym posts) (inl refl); first = refl })
        where
          step : clc_step setup payload A s n past ≡ SendConfirm true
          step = told-confirm (group_on s past) n (clc_step setup payload A s n past) (sym q ∙ r)

          named : unwrap_or (named_link s past) no_link ≡ o.link
          named = ap (λ q. unwrap_or (option_map (λ (p : Offered). p.link) q) no_link) i

          rest : List Post
          rest = connection_posts setup payload (draft setup payload past m.0.0 e.event) past

          posts : e.posts ≡ confirm_post setup payload s true o.link past ∷ rest
          posts = let g : IsMade setup payload past m.0.0 e = m.0.1 in
              g.posts ∙ (ap (λ w. asked setup payload past e.event w ++ rest) (sym g.reply ∙ r)
              ∙ (ap (λ v. asked setup payload past v (Sent ConfirmSent) ++ rest) ev
              ∙ (ap (λ fr. front_posts setup payload A s past fr ++ rest) f
              ∙ (ap (λ w. clc_posts setup payload A s n past w ++ rest) step
              ∙ ap (λ l. confirm_post setup payload s true l past ∷ rest) named))))

  -- B takes the Confirm of first contact: it is in its row
  pub confirms-first : (s : ℕ) → e.event ≡ ClcEvent s A → e.reply ≡ Sent LinkSent → (p : Offered) → offered A s past ≡ Some p → (p.offer.first ≡ true) × ((o : Offered) × IsJoinedFirst s o p past (HasFlows.under (HasContact.flows contact)))
  confirms-first s ev r p i = by (answers setup payload past m.0.0 e m.0.1 s A ev)
    where
      by : Answers setup payload s A past e.reply → (p.offer.first ≡ true) × ((o : Offered) × IsJoinedFirst s o p past (HasFlows.under (HasContact.flows contact)))
      by (NotTaken q) = absurd (let z : Idle ≡ Sent LinkSent = sym q ∙ r in cc)
      by (ForFault fault x f q) = absurd (let z : Reset (BadClc fault) ≡ Sent LinkSent = sym q ∙ r in cc)
      by (ByVerdict n len x f q) = (sym (ap (λ (q : Offered). q.offer.first) same-offer) ∙ step.1.1.1, (row.0, subst (λ w. IsJoinedFirst s row.0 w past (HasFlows.under (HasContact.flows contact))) (some-is row.1.0 p (sym (IsJoinedFirst.answered row.1.1) ∙ i)) row.1.1))
        where
          step : (clc_step setup payload B s n past ≡ Ready) × ((o : Offer) × ((n ≡ ConfirmMessage o) × (o.first ≡ true)))
          step = told-link (group_on s past) n (clc_step setup payload B s n past) (sym q ∙ r)

          takes : TakesConfirm (is_raw s past) (end_state B s past) n
          takes = ready-in (is_raw s past) (end_state B s past) n (lacks setup payload B past) step.0

          whole : front payload A s past ≡ Whole (ConfirmMessage step.1.0) len
          whole = f ∙ ap (λ w. Whole w len) step.1.1.0

          first : head (untaken A s past) ≡ Some (ConfirmMessage step.1.0)
          first = front-head (is_raw s past) (stream payload A s past) (untaken A s past) (ConfirmMessage step.1.0) len takes.plain whole

          psn : Offer.psn step.1.0 ≡ group_of B past
          psn = eqb-true (Offer.psn step.1.0) (group_of B past) (ready-psn (is_raw s past) step.1.0 (lacks setup payload B past) (ap (λ w. verdict (is_raw s past) w (ConfirmMessage step.1.0) (lacks setup payload B past)) (sym takes.waits) ∙ (ap (λ w. verdict (is_raw s past) (end_state B s past) w (lacks setup payload B past)) (sym step.1.1.0) ∙ step.0)))

          row : (o : Offered) × ((q : Offered) × IsJoinedFirst s o q past (HasFlows.under (HasContact.flows contact)))
          row = joined-row setup payload past (HasFlows.under (HasContact.flows contact)) linked all s step.1.0 first step.1.1.1 psn

          same-offer : record { link = (let off : HasOffers s past = all-offers setup payload past m.1 s in (off.confirmed step.1.0 (front-in payload A s past (ConfirmMessage step.1.0) len takes.plain whole)).0); offer = step.1.0 } ≡ p
          same-offer = let off : HasOffers s past = all-offers setup payload past m.1 s in some-is _ p (sym (off.confirmed step.1.0 (front-in payload A s past (ConfirmMessage step.1.0) len takes.plain whole)).1 ∙ i)

  -- an offer of A names a link that was made
  a-made-by : ((s : ℕ) (p : Offered) → offered A s past ≡ Some p → p.link.incarnation ≤ made_on p.link.slot (fabric past)) → (s : ℕ) (p : Offered) → offered A s (e ∷ past) ≡ Some p → p.link.incarnation ≤ made_on p.link.slot (fabric (e ∷ past))
  a-made-by was s p i = by (new-or-old setup payload past m.0.0 e m.0.1 (states setup payload past m.1) (all-offers setup payload past m.1) A s)
    where
      later : (l : LinkId) → l.incarnation ≤ made_on l.slot (fabric past) → l.incarnation ≤ made_on l.slot (fabric (e ∷ past))
      later l h = let g = (links-made setup payload e past m).made l.slot in omega (arith, h, g)

      by : (offered A s (e ∷ past) ≡ offered A s past) ⊎ ((n : NewLending setup payload A e past) × ((s ≡ n.s) × (offered A s (e ∷ past) ≡ Some (record { link = n.link; offer = new_offer setup payload A n.first n.link past })))) → p.link.incarnation ≤ made_on p.link.slot (fabric (e ∷ past))
      by (inl same) = later p.link (was s p (sym same ∙ i))
      by (inr w) = split p.offer.first refl
        where
          n : NewLending setup payload A e past
          n = w.0

          mine : record { link = n.link; offer = new_offer setup payload A n.first n.link past } ≡ p
          mine = some-is (record { link = n.link; offer = new_offer setup payload A n.first n.link past }) p (sym w.1.1 ∙ i)

          named : (b : Offered) × ((offered B s past ≡ Some b) × (b.link ≡ n.link))
          named = from (offered B s past) refl (ap (λ t. named_link t past) w.1.0 ∙ n.named_is refl)
            where
              from : (q : Option Offered) → offered B s past ≡ q → option_map (λ (b : Offered). b.link) q ≡ Some n.link → (b : Offered) × ((offered B s past ≡ Some b) × (b.link ≡ n.link))
              from None h c = absurd (none-is n.link c)
              from (Some b) h c = (b, (h, some-is b.link n.link c))

          made : BeginsA setup payload e past n.link (new_offer setup payload A n.first n.link past) → n.link.incarnation ≤ made_on n.link.slot (fabric (e ∷ past))
          made b = let is : made_on n.link.slot (fabric (e ∷ past)) ≡ n.link.incarnation = ap (λ f. made_on n.link.slot f) b.changed ∙ (ap (λ (o : Option LinkId). (unwrap_or o no_link).incarnation) (put-link n.link.slot (record { link = n.link; phase = Pending }) (Fabric.latest (fabric past))) ∙ ap (λ b. LinkId.incarnation (unwrap_or (if b then Some n.link else link_at n.link.slot (Fabric.latest (fabric past))) no_link)) (eq-eqb n.link.slot n.link.slot refl)) in omega (arith, is)

          from-link : n.link.incarnation ≤ made_on n.link.slot (fabric (e ∷ past)) → p.link.incarnation ≤ made_on p.link.slot (fabric (e ∷ past))
          from-link h = subst (λ (l : LinkId). l.incarnation ≤ made_on l.slot (fabric (e ∷ past))) (ap (λ (q : Offered). q.link) mine) h

          split : (b : Bool) → p.offer.first ≡ b → p.link.incarnation ≤ made_on p.link.slot (fabric (e ∷ past))
          split true f = from-link (made (begins-a setup payload e past m n.link (new_offer setup payload A n.first n.link past) (record { s = n.s; posted = subst (λ ps. IsAmong (confirm_post setup payload n.s n.first n.link past) ps) (sym (let q = n.posts_are in q.1)) (inl refl); first = ap (λ (q : Offered). q.offer.first) mine ∙ f })))
          split false f = from-link (later n.link (subst (λ (l : LinkId). l.incarnation ≤ made_on l.slot (fabric past)) named.1.1 (offers.made s named.0 named.1.0 (same-first setup payload (e ∷ past) m s p named.0 i (kept setup payload past m.0.0 e m.0.1 (states setup payload past m.1) (all-offers setup payload past m.1) B s named.0 named.1.0) ∙ f))))

-- no group has the number 0
ended-zero : (past : List Entry) → has_ended A 0 past ≡ true → ⊥
ended-zero [] h = true≢false (sym h)
ended-zero (e ∷ past) h = ended-zero past h

-- after every history
pub a-made : (setup : Setup) (payload : List ℕ) (past : List Entry) → IsMadeAll setup payload past → (s : ℕ) (p : Offered) → offered A s past ≡ Some p → p.link.incarnation ≤ made_on p.link.slot (fabric past)
a-made setup payload [] m s p i = absurd (none-is p i)
a-made setup payload (e ∷ past) m s p i = a-made-by setup payload e past m (a-made setup payload past m.1) s p i

same-event : (s t : ℕ) (x y : Side) → ClcEvent s x ≡ ClcEvent t y → s ≡ t
same-event s t x y e = cc

same-side-event : (s t : ℕ) (x y : Side) → ClcEvent s x ≡ ClcEvent t y → x ≡ y
same-side-event s t x y e = cc

module _ (setup : Setup) (payload : List ℕ) (e : Entry) (past : List Entry) (m : IsMadeAll setup payload (e ∷ past)) where
  -- an offer that is taken in first contact names a link that is made
  pub offered-made : (y : Side) (o : Offered) → TakesOffer y e past o → o.link.incarnation ≤ made_on o.link.slot (fabric (e ∷ past))
  offered-made A o t = let p = accepts-first setup payload e past m t.s t.event t.reply o t.offered in made (begins-a setup payload e past m o.link p.0 p.1)
    where
      made : {p : Offer} → BeginsA setup payload e past o.link p → o.link.incarnation ≤ made_on o.link.slot (fabric (e ∷ past))
      made b = let is : made_on o.link.slot (fabric (e ∷ past)) ≡ o.link.incarnation = ap (λ f. made_on o.link.slot f) b.changed ∙ (ap (λ (q : Option LinkId). (unwrap_or q no_link).incarnation) (put-link o.link.slot (record { link = o.link; phase = Pending }) (Fabric.latest (fabric past))) ∙ ap (λ b. LinkId.incarnation (unwrap_or (if b then Some o.link else link_at o.link.slot (Fabric.latest (fabric past))) no_link)) (eq-eqb o.link.slot o.link.slot refl)) in omega (arith, is)
  offered-made B o t = let h = a-made setup payload past m.1 t.s o t.offered in let g = (links-made setup payload e past m).made o.link.slot in omega (arith, h, g)

  -- its key is bound at its side, where the link stands there or is known to both
  pub key-made : (x : Side) (o : Offered) → TakesOffer (other x) e past o → IsNear x o.link (e ∷ past) → IsAmong (offered_key o) (keys_of x past).keys
  key-made B o t near =
      let p = accepts-first setup payload e past m t.s t.event t.reply o t.offered in
      let j = joins-at setup payload e past m o.link p.0 p.1 in
      let h = joined-offer setup payload e past m o.link p.0 p.1 in
      (all-first-keys setup payload past m.1 B).key t.s o t.offered (first h) (ap (λ (f : Flow). is_first_contact f.link) j.flow) j.group
    where
      first : (s : ℕ) × ((p : Offered) × ((offered B s past ≡ Some p) × ((p.offer.first ≡ true) × ((p.link ≡ o.link) × (e.event ≡ ClcEvent s B))))) → o.offer.first ≡ true
      first h = ap (λ (q : Offered). q.offer.first) (some-is o h.1.0 (sym t.offered ∙ (ap (λ s. offered B s past) (same-event t.s h.0 B B (sym t.event ∙ h.1.1.1.1.1)) ∙ h.1.1.0))) ∙ h.1.1.1.0
  key-made A p t near = by (confirms-first setup payload e past m t.s t.event t.reply p t.offered)
    where
      c : HasContact past
      c = has-contact setup payload past m.1

      same : fabric (e ∷ past) ≡ fabric past
      same = ap (λ v. after v e.reply e.posts past (fabric past)) t.event ∙ ap (λ r. after (ClcEvent t.s A) r e.posts past (fabric past)) t.reply

      links : AreLinked (fabric past) (HasFlows.under (HasContact.flows c))
      links = let f : HasFlows past = c.flows in f.linked

      group : group_of A past ≡ p.link.group
      group = at near
        where
          at : IsNear A p.link (e ∷ past) → group_of A past ≡ p.link.group
          at (inl s) = let h = has-group A (peer A (fabric past)) p.link (links.own A) (ap (λ f. stands p.link (peer A f).table) (sym same) ∙ s) in sym h.1
          at (inr (s, g)) = let h = has-group B (peer B (fabric past)) p.link (links.own B) (ap (λ f. stands p.link (peer B f).table) (sym same) ∙ s) in ap (λ f. (peer A f).group) (sym same) ∙ (g ∙ (ap (λ f. (peer B f).group) same ∙ sym h.1))

      by : (p.offer.first ≡ true) × ((o : Offered) × IsJoinedFirst t.s o p past (HasFlows.under (HasContact.flows c))) → IsAmong (offered_key p) (keys_of A past).keys
      by h = rows h.0 h.1.0 h.1.1
        where
          rows : p.offer.first ≡ true → (o : Offered) → IsJoinedFirst t.s o p past (HasFlows.under (HasContact.flows c)) → IsAmong (offered_key p) (keys_of A past).keys
          rows first o row = at row.at_a
            where
              at : IsConfirming A o.link past ⊎ (has_ended A o.link.group past ≡ true) → IsAmong (offered_key p) (keys_of A past).keys
              at (inl k) = (all-first-keys setup payload past m.1 A).key t.s p t.offered first (ap (λ (f : Flow). is_first_contact f.link) k.flow) group
              at (inr gone) = absurd (true≢false (sym gone ∙ (ap (λ g. has_ended A g past) (sym (ap (λ (l : LinkId). l.group) row.link) ∙ sym group) ∙ stands-on)))
                where
                  some : group_of A past ≡ 0 → ⊥
                  some z = ended-zero past (ap (λ g. has_ended A g past) (sym z ∙ (group ∙ ap (λ (l : LinkId). l.group) row.link)) ∙ gone)

                  stands-on : has_ended A (group_of A past) past ≡ false
                  stands-on = let all : IsContacted past (HasFlows.under (HasContact.flows c)) = c.contacted in let offers : AreOffered past = all.offers in offers.stands A some

  -- as a side begins a group, its peer knows nothing of the group's links
  pub first-made : (x : Side) → BeginsFirst x e → AreMade (other x) past → (k : Key) → IsAmong k (book_of (other x) (e ∷ past)) → IsNear x k.link (e ∷ past) → ⊥
  first-made B new made k i near = by near
    where
      b : BeginsB setup payload e past new.link new.offer
      b = first-b setup payload e past m new.link new.offer new.offers

      by : IsNear B k.link (e ∷ past) → ⊥
      by (inl s) = true≢false (sym s ∙ ap (λ (f : Fabric). stands k.link f.b.table) b.changed)
      by (inr (s, g)) =
          let n : new.link.group ≡ groups_begun past + 1 = (begins-b setup payload e past m new.link new.offer new.offers).1 in
          let at : group_of B (e ∷ past) ≡ new.link.group = ap (λ (f : Fabric). f.b.group) b.changed in
          let a : group_of A (e ∷ past) ≡ group_of A past = ap (λ (f : Fabric). f.a.group) b.changed in
          let most = at-most setup payload past m.1 (flows-of setup payload past m.1) A in
          omega (arith, n, at, a, most, g)
  first-made A new made k i near = old (book-from B e past k i)
    where
      b : BeginsA setup payload e past new.link new.offer
      b = begins-a setup payload e past m new.link new.offer new.offers

      j : CanJoin new.link past
      j = joins-at setup payload e past m new.link new.offer new.offers

      table-a : table_of A (e ∷ past) ≡ record { link = new.link; phase = Pending } ∷ []
      table-a = ap (λ (f : Fabric). f.a.table) b.changed

      table-b : table_of B (e ∷ past) ≡ record { link = new.link; phase = Pending } ∷ []
      table-b = ap (λ (f : Fabric). f.b.table) b.changed ∙ ap (λ t. put (record { link = new.link; phase = Pending }) t) j.table

      alone : stands k.link (record { link = new.link; phase = Pending } ∷ []) ≡ true → k.link ≡ new.link
      alone s = at (stands-at 1 k.link (record { link = new.link; phase = Pending } ∷ []) (j.slot, tt) s).1
        where
          at : link_at k.link.slot (record { link = new.link; phase = Pending } ∷ []) ≡ Some k.link → k.link ≡ new.link
          at h = by (new.link.slot == k.link.slot) h
            where
              by : (c : Bool) → option_map (λ (n : Known). n.link) (cond c (Some (record { link = new.link; phase = Pending })) None) ≡ Some k.link → k.link ≡ new.link
              by true h = sym (some-is new.link k.link h)
              by false h = absurd (none-is k.link h)

      link : k.link ≡ new.link
      link = at near
        where
          at : IsNear A k.link (e ∷ past) → k.link ≡ new.link
          at (inl s) = alone (ap (λ t. stands k.link t) (sym table-a) ∙ s)
          at (inr (s, g)) = alone (ap (λ t. stands k.link t) (sym table-b) ∙ s)

      old : IsAmong k (book_of B past) ⊎ Learns B e past k → ⊥
      old (inl h) = let le = made k h in let n = j.next in omega (arith, subst (λ (l : LinkId). l.incarnation ≤ made_on l.slot (fabric past)) link le, n)
      old (inr new) = learns k new
        where
          event : e.event ≡ ClcEvent (Confirms.s b.confirms) B
          event = Confirms.event_is b.confirms

          none : act_in B e past ≡ None
          none = ap (λ v. act_by B v e.reply past) event

          learns : (k : Key) → Learns B e past k → ⊥
          learns _ (OfOffer o t) = (let z : A ≡ B = same-side-event t.s (Confirms.s b.confirms) A B (sym t.event ∙ event) in cc)
          learns _ (OfRequest k t i) = none-is t.act (sym none ∙ t.is)
          learns _ (OfAnswer k t i) = none-is t.act (sym none ∙ t.is)
          learns _ (OfKeys k t i) = none-is t.act (sym none ∙ t.is)
