-- An end comes up on a link that is live at its side after the entry, or was lost there.
use Rattle.std.proofs.Common.{Bool, List, [], ap, eq-eqb, eqb-true, false, fold, if◌then◌else◌, inl, inr, map, nat_lt, not, refl, subst, sym, true, true≢false, ℕ, ◌&&◌, ◌==◌, ◌||◌, ◌∙◌, ◌∷◌, ◌≡◌, ◌⊎◌}
use Rattle.std.specs.Prelude.{None, Option, Some, option_and_then, option_map}
use Rattle.smc_num.specs.declared.LinkPhase.TheVariants.{Live as LiveLink}
use Rattle.clc_wire.specs.declared.message.ClcMessage.TheVariants.{Accept as AcceptMessage, Confirm as ConfirmMessage, Decline as DeclineMessage, Proposal as ProposalMessage}
use Rattle.pipe_model.specs.Handshake.{verdict}
use Rattle.pipe_model.specs.declared.reply.Reply.TheVariants.{Idle, Sent}
use Rattle.pipe_model.specs.declared.reply.SentKind.TheVariants.{Accept as AcceptSent, Confirm as ConfirmSent, ConfirmLink as LinkSent}
use Rattle.pipe_model.specs.declared.event.Event.TheVariants.{Clc as ClcEvent}
use Rattle.pipe_model.specs.Fabric.{does}
use Rattle.pipe_model.specs.declared.flow.FlowStep.TheVariants.{Live}
use Rattle.pipe_model.specs.Connections.{comes_up}
use Rattle.history_laws.specs.Words.{A, Act, B, BadClc, BadStep, ClcMessage, Dead, Declined, EndState, Entry, Established, Fabric, FellBack, FlowStep, HasFallen, Held, IsUp, Lacks, LinkId, LinkPhase, Lost, NoEnd, NoLiveLink, Offer, Offered, Pending, Ready, Reset, SendConfirm, Setup, Side, Unused, WaitsAnswer, WaitsConfirm, WaitsLink, WaitsProposal, WasReset, Whole, Wrong, act_in, confirm_post, confirmed_by, early_state, end_state, fabric, fewest, flow_of, front, group_of, group_on, has_link, is_first_contact, is_first_on, is_raw, is_standing, is_up, lacks, lent, lighter, lightest, link_now, live_links, load, new_offer, offered, on_accept, other, peer, phase_at, same_link, set_phase, stands, step_told, table_of}
use Rattle.history_laws.proofs.Basics.{by-bool, none-is, or-left, or-true, some-is, some-live}
use Rattle.history_laws.proofs.Offers.{Answers, ByVerdict, ForFault, NotTaken, accept-is, accept-step, accepts-in, all-offers, answers, front-in, kept, new-or-old, of-entry, proposal-step, sends-accept, state-early, state-up, states}
use Rattle.history_laws.specs.Offers.{HasOffers, HasStates, NewLending, Offers, OffersAccept, OffersConfirm, OffersNone, accept_link, confirm_reply, is_none, is_own_state}
use Rattle.history_laws.specs.Made.{IsMadeAll, IsMade}
use Rattle.history_laws.specs.Lists.{IsAmong}
use Rattle.link_laws.proofs.Sound.{at-stands, has-group, link-self, set-here, set-link, stands-at}
use Rattle.link_laws.specs.Linked.{AreLinked, AreTogether, Begins, Confirms, Goes, HasNone, IsOwn, IsSound, Under, phases, slot_fits}
use Rattle.link_laws.proofs.Lasting.{Entered, LivesAt, at-live, entered, free-among, lasts-with, live-at, stands-known, stands-or-lost}
use Rattle.link_laws.specs.Lasting.{AllFlows, IsLiveOrLost, is_lost}
use Rattle.link_laws.specs.Awaited.{first_up}
use Rattle.link_laws.proofs.Fabric.{fabric-taken}
use Rattle.link_laws.proofs.Waiting.{by-kind}
use Rattle.lending_laws.proofs.Lendings.{accept-facts, all-psn, confirm-facts, same-link}
use Rattle.lending_laws.specs.Ends.{LivesOn}

-- the link with the fewest records is among those from which it is taken
fold-in : (used : List LinkId) (l : LinkId) (ls : List LinkId) → (fold (lighter used) l ls ≡ l) ⊎ (has_link (fold (lighter used) l ls) ls ≡ true)
fold-in used l [] = inl refl
fold-in used l (k ∷ ls) = by (nat_lt (load k used) (load l used)) refl (fold-in used (lighter used l k) ls)
  where
    by : (b : Bool) → nat_lt (load k used) (load l used) ≡ b → (fold (lighter used) (lighter used l k) ls ≡ lighter used l k) ⊎ (has_link (fold (lighter used) (lighter used l k) ls) ls ≡ true)
        → (fold (lighter used) (lighter used l k) ls ≡ l) ⊎ ((same_link (fold (lighter used) (lighter used l k) ls) k || has_link (fold (lighter used) (lighter used l k) ls) ls) ≡ true)
    by b q (inr h) = inr (or-true (same_link (fold (lighter used) (lighter used l k) ls) k) (has_link (fold (lighter used) (lighter used l k) ls) ls) h)
    by true q (inl h) = inr (or-left (same_link (fold (lighter used) (lighter used l k) ls) k) (has_link (fold (lighter used) (lighter used l k) ls) ls)
        (ap (λ m. same_link m k) (h ∙ ap (λ b. if b then k else l) q) ∙ link-self k))
    by false q (inl h) = inl (h ∙ ap (λ b. if b then k else l) q)

lightest-in : (used : List LinkId) (ls : List LinkId) → (ls ≡ [] → ⊥) → has_link (lightest used ls) ls ≡ true
lightest-in used [] n = absurd (n refl)
lightest-in used (l ∷ ls) n = elim (fold-in used l ls) [
  | inl h ↦ or-left (same_link (fold (lighter used) l ls) l) (has_link (fold (lighter used) l ls) ls) (ap (λ m. same_link m l) h ∙ link-self l)
  | inr h ↦ or-true (same_link (fold (lighter used) l ls) l) (has_link (fold (lighter used) l ls) ls) h
]

-- the link of a later Accept is live at B
pub fewest-live : (setup : Setup) (payload : List ℕ) (past : List Entry) → IsOwn B (peer B (fabric past)) → (group_of B past == 0) ≡ false → is_first_contact (flow_of B past).link ≡ false → has_link (fewest setup payload past) (live_links (table_of B past)) ≡ true
fewest-live setup payload past own g f = by own.sound
  where
    by : IsSound B (peer B (fabric past)) → has_link (fewest setup payload past) (live_links (table_of B past)) ≡ true
    by (HasNone n h k) = absurd (true≢false (sym (eq-eqb (group_of B past) 0 n) ∙ g))
    by (Begins n h t) = absurd (true≢false (sym (ap (λ (w : _). is_first_contact w.link) h) ∙ f))
    by (Confirms link n h t) = absurd (true≢false (sym (ap (λ (w : _). is_first_contact w.link) h) ∙ f))
    by (Goes k n live flowing) = lightest-in (map (link_now setup payload past) (lent setup payload B past)) (live_links (table_of B past)) (some-live k (table_of B past) live)

-- what is live at B is live at A, where it stands there
pub live-there : (past : List Entry) (u : Option Under) (it : AreLinked (fabric past) u) → (link : LinkId) → LivesAt link (table_of B past) → stands link (table_of A past) ≡ true → stands link (table_of B past) ≡ true → LivesAt link (table_of A past)
live-there past u it link b s t =
    let a = stands-at 1 link (table_of A past) (let own : IsOwn A (peer A (fabric past)) = it.own A in own.rises) s in
    let ga = has-group A (peer A (fabric past)) link (it.own A) s in
    let gb = has-group B (peer B (fabric past)) link (it.own B) t in
    let both : AreTogether (fabric past).a (fabric past).b = it.together ga.0 (sym ga.1 ∙ gb.1) in
    (a.1, by (phase_at link.slot (table_of A past)) a.2 (sym (ap (λ p. slot_fits (fabric past).b.flow.link link.slot (phases (fabric past).a link.slot) p) b.1) ∙ both.slots link.slot))
  where
    by : (p : LinkPhase) → is_standing p ≡ true → slot_fits (fabric past).b.flow.link link.slot p LiveLink ≡ true → p ≡ LiveLink
    by LiveLink s f = refl
    by Pending s f = absurd (true≢false (sym f))
    by Unused s f = absurd (true≢false (sym s))
    by Dead s f = absurd (true≢false (sym s))

-- how an end is established by a CLC message: A by an Accept that is not of first contact, B by such a Confirm
data HowUp (raw : Bool) (state : EndState) (m : ClcMessage) (l : Lacks) : Type 0 where
  ByAccept : (o : Offer) → state ≡ WaitsAnswer → m ≡ AcceptMessage o → on_accept o l ≡ SendConfirm false → HowUp raw state m l
  ByConfirm : (o : Offer) → state ≡ WaitsConfirm → raw ≡ false → m ≡ ConfirmMessage o → o.first ≡ false → (o.psn == l.group) ≡ true → HowUp raw state m l

not-up : (m : ClcMessage) (group : ℕ) (k : _) → step_told group m (Wrong k) ≡ Established → ⊥
not-up m group k e = (let w : Reset (BadStep k) ≡ Established = e in cc)

how-up : (group : ℕ) (raw : Bool) (state : EndState) (m : ClcMessage) (l : Lacks) → step_told group m (verdict raw state m l) ≡ Established → HowUp raw state m l
how-up group raw WaitsProposal (ProposalMessage p) l e = absurd (proposal-step (λ w. step_told group (ProposalMessage p) w ≡ Established → ⊥) (λ q. cc) (λ h q. (let w : Held h ≡ Established = q in cc)) (λ a q. (let w : Declined a ≡ Established = q in cc)) (λ b q. (let w : Sent AcceptSent ≡ Established = q in cc)) raw p l e)
how-up group raw WaitsAnswer (AcceptMessage o) l e = ByAccept o refl refl (accept-step (λ w. step_told group (AcceptMessage o) w ≡ Established → w ≡ SendConfirm false) (λ q. cc) (λ h q. absurd (let w : Held h ≡ Established = q in cc)) (λ a q. absurd (let w : Declined a ≡ Established = q in cc)) sent o l e)
  where
    sent : (b : Bool) → step_told group (AcceptMessage o) (SendConfirm b) ≡ Established → SendConfirm b ≡ SendConfirm false
    sent false q = refl
    sent true q = absurd (let w : Sent ConfirmSent ≡ Established = q in cc)
how-up group raw WaitsAnswer (DeclineMessage r) l e = absurd (let w : FellBack ≡ Established = e in cc)
how-up group raw WaitsConfirm (DeclineMessage r) l e = absurd (let w : FellBack ≡ Established = e in cc)
how-up group true WaitsConfirm (ConfirmMessage o) l e = absurd (not-up (ConfirmMessage o) group _ e)
how-up group false WaitsConfirm (ConfirmMessage o) l e = at (o.psn == l.group) refl e
  where
    by : (b : Bool) → o.first ≡ b → (if b then Sent LinkSent else Established) ≡ Established → b ≡ false
    by false f q = refl
    by true f q = absurd (let w : Sent LinkSent ≡ Established = q in cc)

    at : (b : Bool) → (o.psn == l.group) ≡ b → step_told group (ConfirmMessage o) (if b then Ready else Lost) ≡ Established → HowUp false WaitsConfirm (ConfirmMessage o) l
    at true f q = ByConfirm o refl refl refl (by o.first refl q) f
    at false f q = absurd (let w : Reset (NoLiveLink group) ≡ Established = q in cc)
how-up group raw WaitsProposal (AcceptMessage o) l e = absurd (not-up (AcceptMessage o) group _ e)
how-up group raw WaitsProposal (ConfirmMessage o) l e = absurd (not-up (ConfirmMessage o) group _ e)
how-up group raw WaitsProposal (DeclineMessage r) l e = absurd (not-up (DeclineMessage r) group _ e)
how-up group raw WaitsAnswer (ProposalMessage p) l e = absurd (not-up (ProposalMessage p) group _ e)
how-up group raw WaitsAnswer (ConfirmMessage o) l e = absurd (not-up (ConfirmMessage o) group _ e)
how-up group raw WaitsConfirm (ProposalMessage p) l e = absurd (not-up (ProposalMessage p) group _ e)
how-up group raw WaitsConfirm (AcceptMessage o) l e = absurd (not-up (AcceptMessage o) group _ e)
how-up group raw NoEnd m l e = absurd (not-up m group _ e)
how-up group raw WaitsLink m l e = absurd (not-up m group _ e)
how-up group raw IsUp m l e = absurd (not-up m group _ e)
how-up group raw HasFallen m l e = absurd (not-up m group _ e)
how-up group raw (WasReset cause) m l e = absurd (not-up m group _ e)

-- B has offered where A has
b-offered : (s : ℕ) (past : List Entry) → HasOffers s past → (o : Offered) → offered A s past ≡ Some o → (p : Offered) × (offered B s past ≡ Some p)
b-offered s past h o i = by (offered B s past) refl
  where
    by : (q : Option Offered) → offered B s past ≡ q → (p : Offered) × (offered B s past ≡ Some p)
    by None n = absurd (none-is o (sym (h.answer n) ∙ i))
    by (Some p) n = (p, n)

-- the offers of both sides on a socket are of the same kind of contact
pub same-first : (setup : Setup) (payload : List ℕ) (past : List Entry) → IsMadeAll setup payload past → (s : ℕ) (o p : Offered) → offered A s past ≡ Some o → offered B s past ≡ Some p → p.offer.first ≡ o.offer.first
same-first setup payload [] m s o p i j = absurd (none-is o i)
same-first setup payload (e ∷ past) m s o p i j = by m.0.0 m.0.1 (same-first setup payload past m.1 s o)
  where
    offs : (t : ℕ) → HasOffers t past
    offs = all-offers setup payload past m.1

    by : (before : ℕ) → IsMade setup payload past before e → ((p : Offered) → offered A s past ≡ Some o → offered B s past ≡ Some p → p.offer.first ≡ o.offer.first) → p.offer.first ≡ o.offer.first
    by before made was = at (new-or-old setup payload past before e made (states setup payload past m.1) offs A s)
      where
        b-is : (t : ℕ) (q : Offered) → s ≡ t → offered B t past ≡ Some q → p ≡ q
        b-is t q k h = some-is p q (sym j ∙ (ap (λ r. offered B r (e ∷ past)) k ∙ kept setup payload past before e made (states setup payload past m.1) offs B t q h))

        at : (offered A s (e ∷ past) ≡ offered A s past) ⊎ ((n : NewLending setup payload A e past) × ((s ≡ n.s) × (offered A s (e ∷ past) ≡ Some (record { link = n.link; offer = new_offer setup payload A n.first n.link past })))) → p.offer.first ≡ o.offer.first
        at (inl same) =
            let here : offered A s past ≡ Some o = sym same ∙ i in
            let q = b-offered s past (offs s) o here in
            ap (λ (r : Offered). r.offer.first) (b-is s q.0 refl q.1) ∙ was q.0 here q.1
        at (inr w) = new w.0 w.1.0 w.1.1 (of-entry setup payload past before e made (states setup payload past m.1) offs)
          where
            socket : (a b : ℕ) (d : Side) → ClcEvent a d ≡ ClcEvent b B → a ≡ b
            socket a b d k = cc

            side : (a b : ℕ) → ClcEvent a A ≡ ClcEvent b B → ⊥
            side a b k = cc

            replies : (a b : Bool) → confirm_reply a ≡ confirm_reply b → a ≡ b
            replies true true k = refl
            replies false false k = refl
            replies true false k = absurd (let w : Sent ConfirmSent ≡ Established = k in cc)
            replies false true k = absurd (let w : Established ≡ Sent ConfirmSent = k in cc)

            new : (n : NewLending setup payload A e past) → s ≡ n.s → offered A s (e ∷ past) ≡ Some (record { link = n.link; offer = new_offer setup payload A n.first n.link past }) → Offers setup payload e past → p.offer.first ≡ o.offer.first
            new n k g (OffersNone free) = absurd (let ps = n.posts_are in free-among n.s n.link (new_offer setup payload A n.first n.link past) e.posts free (subst (λ qs. IsAmong (confirm_post setup payload n.s n.first n.link past) qs) (sym ps.1) (inl refl)))
            new n k g (OffersAccept a) = absurd (side a.s n.s (sym a.event_is ∙ n.event_is))
            new n k g (OffersConfirm c) =
                let b = accept-is setup payload past before e made (states setup payload past m.1) offs c in
                let facts = confirm-facts c.offer (lacks setup payload A past) c.first (sym (ap (λ w. verdict (is_raw c.s past) w (AcceptMessage c.offer) (lacks setup payload A past)) c.waits) ∙ c.step_is) in
                let t : s ≡ c.s = k ∙ socket n.s c.s B (sym n.event_is ∙ c.event_is) in
                let mine : o ≡ record { link = n.link; offer = new_offer setup payload A n.first n.link past } = some-is o _ (sym i ∙ g) in
                ap (λ (r : Offered). r.offer.first) (b-is c.s (record { link = b.0; offer = c.offer }) t b.1) ∙ (facts.first_is ∙ (replies c.first n.first (sym c.reply_is ∙ n.reply_is) ∙ sym (ap (λ (r : Offered). r.offer.first) mine)))

-- what an end waits for, where it is not up
early-of : (x : Side) (s : ℕ) (past : List Entry) (w : EndState) → end_state x s past ≡ w → (IsUp ≡ w → ⊥) → early_state x s past ≡ w
early-of x s past w i n = by-bool (early_state x s past ≡ w) (is_up x s past) (λ u. absurd (n (sym (state-up x s past u) ∙ i))) (λ u. sym (state-early x s past u) ∙ i)

-- an end that is established by a CLC message is not in first contact, and its side is in the group of the offer
pub later-offer : (setup : Setup) (payload : List ℕ) (e : Entry) (past : List Entry) → IsMadeAll setup payload (e ∷ past) → (x : Side) (s : ℕ) → e.event ≡ ClcEvent s (other x) → e.reply ≡ Established → (o : Offered) × ((offered B s past ≡ Some o) × ((o.offer.first ≡ false) × (o.link.group ≡ group_of x past)))
later-offer setup payload e past m x s ev r = by x (answers setup payload past m.0.0 e m.0.1 s (other x) ev)
  where
    off : HasOffers s past
    off = all-offers setup payload past m.1 s

    st : HasStates s past
    st = states setup payload past m.1 s

    accepted : (n : ClcMessage) (len : ℕ) → front payload B s past ≡ Whole n len → HowUp (is_raw s past) (end_state A s past) n (lacks setup payload A past) → (o : Offered) × ((offered B s past ≡ Some o) × ((o.offer.first ≡ false) × (o.link.group ≡ group_of A past)))
    accepted n len f (ByAccept o w k g) =
        let early = early-of A s past WaitsAnswer w (λ i. cc) in
        let q = off.accepted o (front-in payload B s past (AcceptMessage o) len (st.apart (st.opened (ap is_none early))) (f ∙ ap (λ m. Whole m len) k)) in
        let facts = confirm-facts o (lacks setup payload A past) false g in
        (record { link = q.0; offer = o }, (q.1, (facts.first_is, sym (all-psn setup payload past m.1 B s (record { link = q.0; offer = o }) q.1) ∙ eqb-true o.psn (group_of A past) (facts.named refl))))
    accepted n len f (ByConfirm o w raw k first psn) = absurd (let early = early-of A s past WaitsConfirm w (λ i. cc) in true≢false (sym (st.own A) ∙ ap (λ q. is_own_state A q) early))

    confirmed : (n : ClcMessage) (len : ℕ) → front payload A s past ≡ Whole n len → HowUp (is_raw s past) (end_state B s past) n (lacks setup payload B past) → (o : Offered) × ((offered B s past ≡ Some o) × ((o.offer.first ≡ false) × (o.link.group ≡ group_of B past)))
    confirmed n len f (ByAccept o w k g) = absurd (let early = early-of B s past WaitsAnswer w (λ i. cc) in true≢false (sym (st.own B) ∙ ap (λ q. is_own_state B q) early))
    confirmed n len f (ByConfirm o w raw k first psn) =
        let q = off.confirmed o (front-in payload A s past (ConfirmMessage o) len raw (f ∙ ap (λ m. Whole m len) k)) in
        let p = b-offered s past off (record { link = q.0; offer = o }) q.1 in
        let named : p.0.link ≡ q.0 = some-is p.0.link q.0 (sym (ap (λ r. option_map (λ (k : Offered). k.link) r) p.1) ∙ same-link setup payload past m.1 s (record { link = q.0; offer = o }) q.1) in
        (p.0, (p.1, (same-first setup payload past m.1 s (record { link = q.0; offer = o }) p.0 q.1 p.1 ∙ first, ap (λ (k : LinkId). k.group) named ∙ (sym (all-psn setup payload past m.1 A s (record { link = q.0; offer = o }) q.1) ∙ eqb-true o.psn (group_of B past) psn))))

    by : (y : Side) → Answers setup payload s (other y) past e.reply → (o : Offered) × ((offered B s past ≡ Some o) × ((o.offer.first ≡ false) × (o.link.group ≡ group_of y past)))
    by y (NotTaken i) = absurd (let w : Idle ≡ Established = sym i ∙ r in cc)
    by y (ForFault fault x f i) = absurd (let w : Reset (BadClc fault) ≡ Established = sym i ∙ r in cc)
    by A (ByVerdict n len x f i) = accepted n len f (how-up (group_on s past) (is_raw s past) (end_state A s past) n (lacks setup payload A past) (sym i ∙ r))
    by B (ByVerdict n len x f i) = confirmed n len f (how-up (group_on s past) (is_raw s past) (end_state B s past) n (lacks setup payload B past) (sym i ∙ r))

-- what is live, or was lost, is so after the entry
pub live-or-lost : (e : Entry) (past : List Entry) → Entered e past → (x : Side) (link : LinkId) → IsLiveOrLost x link past → IsLiveOrLost x link (e ∷ past)
live-or-lost e past it x link (inl l) = inl (or-true (stands link (table_of x past) && not (stands link (table_of x (e ∷ past)))) (is_lost x link past) l)
live-or-lost e past it x link (inr l) = lasts-with e past it x link l

-- the link that an Accept of later contact names is live, or was lost, at either side
pub later-live : (setup : Setup) (payload : List ℕ) (past : List Entry) → IsMadeAll setup payload past → AllFlows setup payload past → (s : ℕ) (o : Offered) → offered B s past ≡ Some o → o.offer.first ≡ false → (x : Side) → IsLiveOrLost x o.link past
later-live setup payload [] m flows s o i f x = absurd (none-is o i)
later-live setup payload (e ∷ past) m flows s o i f x = live-or-lost e past it x o.link (by (new-or-old setup payload past m.0.0 e m.0.1 (states setup payload past m.1) (all-offers setup payload past m.1) B s) (λ j. later-live setup payload past m.1 flows.1 s o j f x))
  where
    it : Entered e past
    it = entered setup payload e past m flows

    at : (link : LinkId) → has_link link (live_links (table_of B past)) ≡ true → (x : Side) → IsLiveOrLost x link past
    at link live B = inr live
    at link live A =
        let b = live-at 1 link (table_of B past) (let own : IsOwn B (peer B (fabric past)) = it.linked.own B in own.rises) live in
        let sb : stands link (table_of B past) ≡ true = at-stands link (table_of B past) b.1.0 (ap is_standing b.1.1) in
        elim (stands-or-lost setup payload past m.1 flows.1 A link (stands-known B link past sb)) [
          | inl s ↦ inr (at-live link (table_of A past) (live-there past it.under it.linked link b.1 s sb))
          | inr l ↦ inl l
        ]

    by : (offered B s (e ∷ past) ≡ offered B s past) ⊎ ((n : NewLending setup payload B e past) × ((s ≡ n.s) × (offered B s (e ∷ past) ≡ Some (record { link = n.link; offer = new_offer setup payload B n.first n.link past })))) → (offered B s past ≡ Some o → IsLiveOrLost x o.link past) → IsLiveOrLost x o.link past
    by (inl same) was = was (sym same ∙ i)
    by (inr w) was =
        let n = w.0 in
        let mine : o ≡ record { link = n.link; offer = new_offer setup payload B n.first n.link past } = some-is o _ (sym i ∙ w.1.1) in
        let first : n.first ≡ false = sym (ap (λ (r : Offered). r.offer.first) mine) ∙ f in
        let step = n.step_is in
        let q = accepts-in (is_raw n.s past) (end_state B n.s past) step.0 (lacks setup payload B past) (ap sends-accept step.1) in
        let facts = accept-facts (is_raw n.s past) q.1.0 (lacks setup payload B past) n.first (sym (ap (λ w. verdict (is_raw n.s past) w step.0 (lacks setup payload B past)) q.0 ∙ ap (λ m. verdict (is_raw n.s past) WaitsProposal m (lacks setup payload B past)) q.1.1) ∙ step.1) in
        let live = fewest-live setup payload past (it.linked.own B) (facts.first_is ∙ first) facts.beyond in
        let link : o.link ≡ fewest setup payload past = ap (λ (r : Offered). r.link) mine ∙ (n.link_is refl ∙ ap (λ b. accept_link setup payload b past) first) in
        subst (λ l. IsLiveOrLost x l past) (sym link) (at (fewest setup payload past) live x)

-- in first contact an end comes up on a link that is live at its side after the entry
pub first-live : (e : Entry) (past : List Entry) → Entered e past → (x : Side) (s : ℕ) (link : LinkId) → first_up x s e past ≡ Some link → has_link link (live_links (table_of x (e ∷ past))) ≡ true
first-live e past it x s link u = by (act_in x e past) refl u
  where
    by : (o : Option Act) → act_in x e past ≡ o → option_and_then (λ act. confirmed_by (offered B s past) act.link act.step) o ≡ Some link → has_link link (live_links (table_of x (e ∷ past))) ≡ true
    by None i c = absurd (none-is link c)
    by (Some act) i c = step act.step refl c
      where
        stood : (z : Side) → act_in z e past ≡ Some act → stands act.link (table_of z past) ≡ true
        stood A i = let b = it.lands A act i in b.at_a
        stood B i = let b = it.lands B act i in b.at_b

        table : (z : Side) (reply first : Bool) → (peer z (does z act.link act.message (Live reply first) (fabric past))).table ≡ set_phase act.link.slot LiveLink (table_of z past)
        table A reply first = refl
        table B reply first = refl

        live : (reply first : Bool) → act.step ≡ Live reply first → link ≡ act.link → has_link link (live_links (table_of x (e ∷ past))) ≡ true
        live reply first d same =
            let is : table_of x (e ∷ past) ≡ set_phase act.link.slot LiveLink (table_of x past) = ap (λ (f : Fabric). (peer x f).table) (fabric-taken x e past act i ∙ ap (λ w. does x act.link act.message w (fabric past)) d) ∙ table x reply first in
            let own : IsOwn x (peer x (fabric past)) = it.linked.own x in
            let a = stands-at 1 act.link (table_of x past) own.rises (stood x i) in
            subst (λ l. has_link l (live_links (table_of x (e ∷ past))) ≡ true) (sym same) (subst (λ t. has_link act.link (live_links t) ≡ true) (sym is)
            (at-live act.link (set_phase act.link.slot LiveLink (table_of x past)) (set-link act.link.slot act.link.slot LiveLink (table_of x past) ∙ a.1, set-here act.link.slot LiveLink (table_of x past) a.2)))

        named : (b : Bool) → (if b then Some act.link else None) ≡ Some link → link ≡ act.link
        named true k = sym (some-is act.link link k)
        named false k = absurd (none-is link k)

        step : (w : FlowStep) → act.step ≡ w → confirmed_by (offered B s past) act.link w ≡ Some link → has_link link (live_links (table_of x (e ∷ past))) ≡ true
        step (Live reply true) d k = live reply true d (named (is_first_on act.link (offered B s past)) k)
        step w d k = absurd (none-is link k)

-- `comes` and `lasts`
pub lives-on : (setup : Setup) (payload : List ℕ) (e : Entry) (past : List Entry) → IsMadeAll setup payload (e ∷ past) → AllFlows setup payload (e ∷ past) → LivesOn e past
lives-on setup payload e past m flows = record { comes = comes; lasts = lasts-with e past it }
  where
    it : Entered e past
    it = entered setup payload e past m flows

    comes : (x : Side) (s : ℕ) (link : LinkId) → comes_up x s e past ≡ Some link → IsLiveOrLost x link (e ∷ past)
    comes x s link u = by-kind setup payload e past m s (IsLiveOrLost x link (e ∷ past)) x link u
        (λ ev r n.
        let o = later-offer setup payload e past m x s ev r in
        let same : o.0.link ≡ link = some-is o.0.link link (sym (ap (λ q. option_map (λ (p : Offered). p.link) q) o.1.0) ∙ n) in
        live-or-lost e past it x link (subst (λ l. IsLiveOrLost x l past) same (later-live setup payload past m.1 flows.1 s o.0 o.1.0 o.1.1.0 x)))
        (λ f. inr (first-live e past it x s link f))
