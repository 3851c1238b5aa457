-- The least from which all of it follows: B's links are of its group, parts can be, sockets are known, and a first link finds its end waiting.
use Rattle.std.proofs.Common.{Bool, List, [], ap, eqb-true, false, if◌then◌else◌, inl, inr, refl, subst, sym, true, true≢false, ℕ, ◌<◌, ◌==◌, ◌∙◌, ◌∷◌, ◌≡◌, ◌⊎◌}
use Rattle.clc_wire.specs.declared.message.ClcMessage.TheVariants.{Accept as AcceptMessage, Confirm as ConfirmMessage, Decline as DeclineMessage, Proposal as ProposalMessage}
use Rattle.pipe_model.specs.Handshake.{verdict}
use Rattle.pipe_model.specs.declared.reply.Reply.TheVariants.{Idle, Sent}
use Rattle.pipe_model.specs.declared.reply.SentKind.TheVariants.{Accept as AcceptSent, Confirm as ConfirmSent, ConfirmLink as LinkSent}
use Rattle.pipe_model.specs.declared.event.Event.TheVariants.{Clc as ClcEvent, Raw}
use Rattle.std.specs.Prelude.{None, Option, Some, option_and_then, option_map}
use Rattle.pipe_model.specs.declared.flow.FlowStep.TheVariants.{Live}
use Rattle.pipe_model.specs.Connections.{comes_up}
use Rattle.history_laws.specs.Words.{A, Act, AskKey, B, ClcMessage, ClcStep, Decline, Declined, EndState, Entry, Established, Event, Fell, FellBack, FlowStep, HasFallen, Held, RelendsOnlyDone, IsUp, Lacks, Lending, LinkId, Lost, NoEnd, Offer, Offered, Open, Opened, Ready, Reply, Reset, SendAccept, SendConfirm, Setup, Side, Wait, WaitsAnswer, WaitsConfirm, WaitsLink, WaitsProposal, WasReset, Whole, Wrong, Wrote, act_in, after_clc, after_event, after_loss, after_raw, clc_step, confirmed_by, early_state, element_size, end_state, expects, front, group_on, has_ended, is_out, is_raw, is_up, lacks, lendings, lends_by, lent, loses_group_with, named_link, new_offer, offered, other, step_told}
use Rattle.history_laws.proofs.Offers.{Answers, ByVerdict, ForFault, NotTaken, accept-step, all-offers, answers, confirms-in, front-in, kept, never-waits, new-or-old, proposal-step, sends-confirm, state-early, state-up, states}
use Rattle.history_laws.specs.Made.{IsMadeAll, IsMade}
use Rattle.history_laws.specs.Offers.{HasOffers, HasStates, NewLending}
use Rattle.history_laws.proofs.Basics.{by-bool, none-is}
use Rattle.history_laws.specs.Lists.{IsAmong}
use Rattle.link_laws.specs.Awaited.{AllWith, LeastWith, first_up}
use Rattle.link_laws.proofs.Waiting.{by-kind}
use Rattle.link_laws.specs.Lasting.{is_lost}
use Rattle.lending_laws.specs.Owed.{AllOwn, ArePlainOffers, OwedFrom, OwedLeast, OwedWith}
use Rattle.lending_laws.specs.Ends.{OffersGoOn}
use Rattle.lending_laws.proofs.Lendings.Lendings.{all-lendings}
use Rattle.lending_laws.proofs.Lendings.Owed.{grouped-own}
use Rattle.lending_laws.specs.Lendings.{AreApart, AreDone, AreLendings, HasElements}
use Rattle.lending_laws.proofs.Lendings.All.{are-apart-all, are-done-all, relends-all, reuse}
use Rattle.lending_laws.specs.Reuse.{AreCarriedOn, CarriesNoBytes}

-- it does so of a Confirm alone, at an end that waits for it, on a socket that is not raw
pub record TakesConfirm (raw : Bool) (state : EndState) (m : ClcMessage) : Type 0 where
  pub waits : state ≡ WaitsConfirm
  pub offer : Offer
  pub message_is : m ≡ ConfirmMessage offer
  pub plain : raw ≡ false

pub ready-in : (raw : Bool) (state : EndState) (m : ClcMessage) (l : Lacks) → verdict raw state m l ≡ Ready → TakesConfirm raw state m
ready-in raw WaitsProposal (ProposalMessage p) l e = absurd (proposal-step (λ w. w ≡ Ready → ⊥) (λ q. cc) (λ h q. cc) (λ a q. cc) (λ b q. cc) raw p l e)
ready-in raw WaitsProposal (AcceptMessage o) l e = cc
ready-in raw WaitsProposal (ConfirmMessage o) l e = cc
ready-in raw WaitsProposal (DeclineMessage r) l e = cc
ready-in raw WaitsAnswer (ProposalMessage p) l e = cc
ready-in raw WaitsAnswer (AcceptMessage o) l e = absurd (accept-step (λ w. w ≡ Ready → ⊥) (λ q. cc) (λ h q. cc) (λ a q. cc) (λ b q. cc) o l e)
ready-in raw WaitsAnswer (ConfirmMessage o) l e = cc
ready-in raw WaitsAnswer (DeclineMessage r) l e = cc
ready-in raw WaitsConfirm (ProposalMessage p) l e = cc
ready-in raw WaitsConfirm (AcceptMessage o) l e = cc
ready-in true WaitsConfirm (ConfirmMessage o) l e = cc
ready-in false WaitsConfirm (ConfirmMessage o) l e = record { waits = refl; offer = o; message_is = refl; plain = refl }
ready-in raw WaitsConfirm (DeclineMessage r) l e = cc
ready-in raw NoEnd m l e = cc
ready-in raw WaitsLink m l e = cc
ready-in raw IsUp m l e = cc
ready-in raw HasFallen m l e = cc
ready-in raw (WasReset cause) m l e = cc

-- a verdict told as establishing an end, or as asking to confirm a link, takes a Confirm or sends one
abbrev pub Goes : ClcStep → Type 0
Goes w = (w ≡ Ready) ⊎ (sends-confirm w ≡ true)

told-goes : (group : ℕ) (m : ClcMessage) (w : ClcStep) (r : Reply) → step_told group m w ≡ r → (r ≡ Established) ⊎ ((r ≡ Sent LinkSent) ⊎ (r ≡ Sent ConfirmSent)) → Goes w
told-goes group m (SendConfirm first) r e k = inr refl
told-goes group m Ready r e k = inl refl
told-goes group m (SendAccept first) r e (inl k) = (let z : Sent AcceptSent ≡ Established = e ∙ k in cc)
told-goes group m (SendAccept first) r e (inr (inl k)) = (let z : Sent AcceptSent ≡ Sent LinkSent = e ∙ k in cc)
told-goes group m (SendAccept first) r e (inr (inr k)) = (let z : Sent AcceptSent ≡ Sent ConfirmSent = e ∙ k in cc)
told-goes group m AskKey r e (inl k) = cc
told-goes group m AskKey r e (inr (inl k)) = cc
told-goes group m AskKey r e (inr (inr k)) = cc
told-goes group m (Wait hold) r e (inl k) = (let z : Held hold ≡ Established = e ∙ k in cc)
told-goes group m (Wait hold) r e (inr (inl k)) = (let z : Held hold ≡ Sent LinkSent = e ∙ k in cc)
told-goes group m (Wait hold) r e (inr (inr k)) = (let z : Held hold ≡ Sent ConfirmSent = e ∙ k in cc)
told-goes group m (Decline lack) r e (inl k) = (let z : Declined lack ≡ Established = e ∙ k in cc)
told-goes group m (Decline lack) r e (inr (inl k)) = (let z : Declined lack ≡ Sent LinkSent = e ∙ k in cc)
told-goes group m (Decline lack) r e (inr (inr k)) = (let z : Declined lack ≡ Sent ConfirmSent = e ∙ k in cc)
told-goes group m Fell r e (inl k) = (let z : FellBack ≡ Established = e ∙ k in cc)
told-goes group m Fell r e (inr (inl k)) = (let z : FellBack ≡ Sent LinkSent = e ∙ k in cc)
told-goes group m Fell r e (inr (inr k)) = (let z : FellBack ≡ Sent ConfirmSent = e ∙ k in cc)
told-goes group m Lost r e (inl k) = cc
told-goes group m Lost r e (inr (inl k)) = cc
told-goes group m Lost r e (inr (inr k)) = cc
told-goes group m (Wrong kind) r e (inl k) = cc
told-goes group m (Wrong kind) r e (inr (inl k)) = cc
told-goes group m (Wrong kind) r e (inr (inr k)) = cc

abbrev Forward : Reply → Type 0
Forward r = (r ≡ Established) ⊎ ((r ≡ Sent LinkSent) ⊎ (r ≡ Sent ConfirmSent))

module _ (setup : Setup) (payload : List ℕ) (e : Entry) (past : List Entry) (m : IsMadeAll setup payload (e ∷ past)) (s : ℕ) where
  abbrev one : (before : ℕ) × IsMade setup payload past before e
  one = m.0

  abbrev st : HasStates s past
  st = states setup payload past m.1 s

  abbrev off : HasOffers s past
  off = all-offers setup payload past m.1 s

  -- B goes forward by a Confirm, which A has offered
  b-forward : e.event ≡ ClcEvent s A → Forward e.reply → (o : Offered) × (offered A s past ≡ Some o)
  b-forward ev f = by (answers setup payload past one.0 e one.1 s A ev)
    where
      idle : e.reply ≡ Idle → Forward e.reply → ⊥
      idle i (inl k) = (let z : Idle ≡ Established = sym i ∙ k in cc)
      idle i (inr (inl k)) = (let z : Idle ≡ Sent LinkSent = sym i ∙ k in cc)
      idle i (inr (inr k)) = (let z : Idle ≡ Sent ConfirmSent = sym i ∙ k in cc)

      not-reset : (r : Reply) → Forward r → (c : _) → r ≡ Reset c → ⊥
      not-reset r (inl k) c q = (let z : Established ≡ Reset c = sym k ∙ q in cc)
      not-reset r (inr (inl k)) c q = (let z : Sent LinkSent ≡ Reset c = sym k ∙ q in cc)
      not-reset r (inr (inr k)) c q = (let z : Sent ConfirmSent ≡ Reset c = sym k ∙ q in cc)

      taken : (n : ClcMessage) (len : ℕ) → front payload A s past ≡ Whole n len → Goes (clc_step setup payload B s n past) → (o : Offered) × (offered A s past ≡ Some o)
      taken n len g (inl w) =
          let t = ready-in (is_raw s past) (end_state B s past) n (lacks setup payload B past) w in
          let c = off.confirmed t.offer (front-in payload A s past (ConfirmMessage t.offer) len t.plain (g ∙ ap (λ k. Whole k len) t.message_is)) in
          (record { link = c.0; offer = t.offer }, c.1)
      taken n len g (inr w) = (let q = confirms-in (is_raw s past) (end_state B s past) n (lacks setup payload B past) w in let never = never-waits s past st in absurd (never.1 q.0))

      by : Answers setup payload s A past e.reply → (o : Offered) × (offered A s past ≡ Some o)
      by (NotTaken i) = absurd (idle i f)
      by (ForFault fault x g i) = absurd (not-reset e.reply f _ i)
      by (ByVerdict n len x g i) = taken n len g (told-goes (group_on s past) n (clc_step setup payload B s n past) e.reply (sym i) f)

  named-offered : (link : LinkId) → named_link s past ≡ Some link → (o : Offered) × (offered B s past ≡ Some o)
  named-offered link n = by (offered B s past) refl
    where
      by : (o : Option Offered) → offered B s past ≡ o → (o : Offered) × (offered B s past ≡ Some o)
      by None i = absurd (none-is link (sym (ap (λ q. option_map (λ (p : Offered). p.link) q) i) ∙ n))
      by (Some o) i = (o, i)

  expects-in : (st : EndState) → expects st ≡ true → is_out st ≡ false
  expects-in NoEnd x = absurd (true≢false (sym x))
  expects-in WaitsProposal x = refl
  expects-in WaitsAnswer x = refl
  expects-in WaitsConfirm x = refl
  expects-in WaitsLink x = refl
  expects-in IsUp x = refl
  expects-in HasFallen x = absurd (true≢false (sym x))
  expects-in (WasReset cause) x = absurd (true≢false (sym x))

  up-waits : (x : Side) → e.event ≡ ClcEvent s (other x) → e.reply ≡ Established → is_out (end_state x s past) ≡ false
  up-waits x ev r = by x (answers setup payload past one.0 e one.1 s (other x) ev)
    where
      by : (y : Side) → Answers setup payload s (other y) past e.reply → is_out (end_state y s past) ≡ false
      by y (NotTaken i) = (let z : Idle ≡ Established = sym i ∙ r in cc)
      by A (ForFault fault x f i) = expects-in (end_state A s past) x
      by B (ForFault fault x f i) = expects-in (end_state B s past) x
      by A (ByVerdict n len x f i) = expects-in (end_state A s past) x
      by B (ByVerdict n len x f i) = expects-in (end_state B s past) x

-- an end waits for the link since an answer that sent it there
loss-link : (b : Bool) (g : ℕ) (state : EndState) → after_loss b g state ≡ WaitsLink → state ≡ WaitsLink
loss-link true g WaitsLink e = cc
loss-link true g NoEnd e = e
loss-link true g WaitsProposal e = e
loss-link true g WaitsAnswer e = e
loss-link true g WaitsConfirm e = e
loss-link true g IsUp e = e
loss-link true g HasFallen e = e
loss-link true g (WasReset cause) e = e
loss-link false g state e = e

clc-link : (r : Reply) (st : EndState) → after_clc r st ≡ WaitsLink → (st ≡ WaitsLink) ⊎ Forward r
clc-link (Sent AcceptSent) st e = cc
clc-link (Sent ConfirmSent) st e = inr (inr (inr refl))
clc-link (Sent LinkSent) st e = inr (inr (inl refl))
clc-link (Declined lack) st e = cc
clc-link FellBack st e = cc
clc-link (Reset cause) st e = cc
clc-link _ st e = inl e

raw-link : (st : EndState) → after_raw B st ≡ WaitsLink → st ≡ WaitsLink
raw-link NoEnd e = cc
raw-link WaitsProposal e = e
raw-link WaitsAnswer e = e
raw-link WaitsConfirm e = e
raw-link WaitsLink e = e
raw-link IsUp e = e
raw-link HasFallen e = e
raw-link (WasReset cause) e = e

link-by : (s : ℕ) (v : Event) (r : Reply) (st : EndState) → after_event B s v r st ≡ WaitsLink → (st ≡ WaitsLink) ⊎ ((v ≡ ClcEvent s A) × Forward r)
link-by s (Open t) Opened st e = by (s == t) e
  where
    by : (b : Bool) → (if b then WaitsProposal else st) ≡ WaitsLink → (st ≡ WaitsLink) ⊎ ((Open t ≡ ClcEvent s A) × Forward Opened)
    by true k = cc
    by false k = inl k
link-by s (Open t) (Declined lack) st e = by (s == t) e
  where
    by : (b : Bool) → (if b then HasFallen else st) ≡ WaitsLink → (st ≡ WaitsLink) ⊎ ((Open t ≡ ClcEvent s A) × Forward (Declined lack))
    by true k = cc
    by false k = inl k
link-by s (Raw t at len) (Wrote n) st e = by (s == t) e
  where
    by : (b : Bool) → (if b then after_raw B st else st) ≡ WaitsLink → (st ≡ WaitsLink) ⊎ ((Raw t at len ≡ ClcEvent s A) × Forward (Wrote n))
    by true k = inl (raw-link st k)
    by false k = inl k
link-by s (ClcEvent t A) r st e = by (s == t) refl e
  where
    by : (b : Bool) → (s == t) ≡ b → (if b then after_clc r st else st) ≡ WaitsLink → (st ≡ WaitsLink) ⊎ ((ClcEvent t A ≡ ClcEvent s A) × Forward r)
    by false q k = inl k
    by true q k = at (clc-link r st k)
      where
        at : (st ≡ WaitsLink) ⊎ Forward r → (st ≡ WaitsLink) ⊎ ((ClcEvent t A ≡ ClcEvent s A) × Forward r)
        at (inl z) = inl z
        at (inr f) = inr (ap (λ n. ClcEvent n A) (sym (eqb-true s t q)), f)
link-by s _ r st e = inl e

-- B's end waits for the link only once A has offered
pub link-offered : (setup : Setup) (payload : List ℕ) (past : List Entry) → IsMadeAll setup payload past → (s : ℕ) → early_state B s past ≡ WaitsLink → (o : Offered) × (offered A s past ≡ Some o)
link-offered setup payload [] m s w = (let z : NoEnd ≡ WaitsLink = w in cc)
link-offered setup payload (e ∷ past) m s w = by (link-offered setup payload past m.1 s) (link-by s e.event e.reply (early_state B s past) (loss-link (loses_group_with B (group_on s past) e past) (group_on s past) (after_event B s e.event e.reply (early_state B s past)) w))
  where
    stays : (o : Offered) × (offered A s past ≡ Some o) → (o : Offered) × (offered A s (e ∷ past) ≡ Some o)
    stays q = (let one = m.0 in (q.0, kept setup payload past one.0 e one.1 (states setup payload past m.1) (all-offers setup payload past m.1) A s q.0 q.1))

    by : (early_state B s past ≡ WaitsLink → (o : Offered) × (offered A s past ≡ Some o)) → (early_state B s past ≡ WaitsLink) ⊎ ((e.event ≡ ClcEvent s A) × Forward e.reply) → (o : Offered) × (offered A s (e ∷ past) ≡ Some o)
    by was (inl k) = stays (was k)
    by was (inr k) = stays (b-forward setup payload e past m s k.0 k.1)

module _ (setup : Setup) (payload : List ℕ) (e : Entry) (past : List Entry) (m : IsMadeAll setup payload (e ∷ past)) (least : LeastWith setup e past) where
  -- a first link that is confirmed is that of an offer
  first-offered : (s : ℕ) (link : LinkId) (a : Option Act) (o : Option Offered) → option_and_then (λ act. confirmed_by o act.link act.step) a ≡ Some link → (q : Offered) × (o ≡ Some q)
  first-offered s link None o f = absurd (none-is link f)
  first-offered s link (Some act) (Some q) f = (q, refl)
  first-offered s link (Some act) None f = absurd (none-is link (sym (by act.step) ∙ f))
    where
      by : (w : FlowStep) → confirmed_by None act.link w ≡ None
      by (Live reply true) = refl
      by _ = refl

  waiting : (x : Side) (s : ℕ) (link : LinkId) → first_up x s e past ≡ Some link → early_state x s past ≡ WaitsLink
  waiting x s link f = by-bool (early_state x s past ≡ WaitsLink) (is_up x s past)
      (λ u. (let z : IsUp ≡ WaitsLink = sym (state-up x s past u) ∙ least.first x s link f in cc))
      (λ u. sym (state-early x s past u) ∙ least.first x s link f)

  pub with-least : OwedWith e past
  with-least = record {
    waits = λ x s link c. by-kind setup payload e past m s (is_out (end_state x s past) ≡ false) x link c (λ ev r n. up-waits setup payload e past m s x ev r) (λ f. ap is_out (least.first x s link f));
    answers = λ x s link c. by-kind setup payload e past m s ((o : Offered) × (offered (other x) s past ≡ Some o)) x link c (later x s link) (first x s link);
  }
    where
      later : (x : Side) (s : ℕ) (link : LinkId) → e.event ≡ ClcEvent s (other x) → e.reply ≡ Established → named_link s past ≡ Some link → (o : Offered) × (offered (other x) s past ≡ Some o)
      later A s link ev r n = named-offered setup payload e past m s link n
      later B s link ev r n = b-forward setup payload e past m s ev (inl r)

      first : (x : Side) (s : ℕ) (link : LinkId) → first_up x s e past ≡ Some link → (o : Offered) × (offered (other x) s past ≡ Some o)
      first A s link f = first-offered s link (act_in A e past) (offered B s past) f
      first B s link f = link-offered setup payload past m.1 s (waiting B s link f)

  -- an end comes up once
  not-up : (x : Side) (s : ℕ) (link : LinkId) → comes_up x s e past ≡ Some link → is_up x s past ≡ false
  not-up x s link c = by-kind setup payload e past m s (is_up x s past ≡ false) x link c
      (λ ev r n. by-bool (is_up x s past ≡ false) (is_up x s past) (λ u. absurd (up-answers x s ev r u)) (λ u. u))
      (λ f. by-bool (is_up x s past ≡ false) (is_up x s past) (λ u. (let z : IsUp ≡ WaitsLink = sym (state-up x s past u) ∙ least.first x s link f in cc)) (λ u. u))
    where
      up-answers : (x : Side) (s : ℕ) → e.event ≡ ClcEvent s (other x) → e.reply ≡ Established → is_up x s past ≡ true → ⊥
      up-answers x s ev r u = (let one = m.0 in by x (answers setup payload past one.0 e one.1 s (other x) ev) u)
        where
          no-expects : (y : Side) → is_up y s past ≡ true → expects (end_state y s past) ≡ true → ⊥
          no-expects y u x = true≢false (sym x ∙ ap expects (state-up y s past u))

          by : (y : Side) → Answers setup payload s (other y) past e.reply → is_up y s past ≡ true → ⊥
          by y (NotTaken i) u = (let z : Idle ≡ Established = sym i ∙ r in cc)
          by A (ForFault fault x f i) u = no-expects A u x
          by B (ForFault fault x f i) u = no-expects B u x
          by A (ByVerdict n len x f i) u = no-expects A u x
          by B (ByVerdict n len x f i) u = no-expects B u x

  -- what the agreement of wires and pipes wants with an entry
  pub go-on-plain : OffersGoOn e past
  go-on-plain = (let one = m.0 in let w = with-least in record { kept = kept setup payload past one.0 e one.1 (states setup payload past m.1) (all-offers setup payload past m.1); once = not-up; answers = w.answers })

-- offers are on known sockets
pub all-known : (setup : Setup) (payload : List ℕ) (past : List Entry) → IsMadeAll setup payload past → AllWith setup past → (x : Side) (s : ℕ) (o : Offered) → offered x s past ≡ Some o → s < setup.sockets
all-known setup payload [] m w x s o i = absurd (none-is o i)
all-known setup payload (e ∷ past) m w x s o i =
    let one = m.0 in
    by w.0 (all-known setup payload past m.1 w.1 x s o) (new-or-old setup payload past one.0 e one.1 (states setup payload past m.1) (all-offers setup payload past m.1) x s)
  where
    by : LeastWith setup e past → (offered x s past ≡ Some o → s < setup.sockets)
        → (offered x s (e ∷ past) ≡ offered x s past) ⊎ ((n : NewLending setup payload x e past) × ((s ≡ n.s) × (offered x s (e ∷ past) ≡ Some (record { link = n.link; offer = new_offer setup payload x n.first n.link past })))) → s < setup.sockets
    by least was (inl same) = was (sym same ∙ i)
    by least was (inr q) = (let n = q.0 in let r = q.1 in subst (λ t. t < setup.sockets) (sym r.0) (least.known n.s (other x) n.event_is))

-- what the agreement of wires and pipes wants of offers, without a word on parts
pub plain-offers : (setup : Setup) (payload : List ℕ) (past : List Entry) → IsMadeAll setup payload past → AllOwn past → AllWith setup past → ArePlainOffers setup past
plain-offers setup payload past m own with_it = record {
  known = all-known setup payload past m with_it;
  tokens = λ x s t o r i j e.
      let are = all-lendings setup payload past m x in
      ap (λ (l : Lending). l.s) (are.by_token (lends_by s o.link o.offer) (lends_by t r.link r.offer) (are.offer_of s o i) (are.offer_of t r j) e);
  answer = λ s. let h = all-offers setup payload past m s in h.answer;
  grouped = grouped-own setup payload past m own;
}

-- with each entry, out of the least
all-with : (setup : Setup) (payload : List ℕ) (past : List Entry) → OwedLeast setup payload past → AllWith setup past
all-with setup payload [] w = tt
all-with setup payload (e ∷ past) w = let rest = w.1 in (rest.0, all-with setup payload past rest.1)

-- all that is owed, from the least
pub from-least : (setup : Setup) (payload : List ℕ) (past : List Entry) → IsMadeAll setup payload past → OwedLeast setup payload past → OwedFrom setup payload past
from-least setup payload [] m w = record { known = λ x s o i. absurd (none-is o i); own = w.own; feasible = w.feasible }
from-least setup payload (e ∷ past) m w =
    let now = w.0 in
    let rest = w.1 in
    (record { known = all-known setup payload (e ∷ past) m (all-with setup payload (e ∷ past) w); own = now.own; feasible = now.feasible }, (with-least setup payload e past m rest.0, from-least setup payload past m.1 rest.1))

-- an element is lent again only when it is done with, from the least that is owed
pub relending : (setup : Setup) (payload : List ℕ) (e : Entry) (past : List Entry) (x : Side) → HasElements setup → IsMadeAll setup payload (e ∷ past) → OwedLeast setup payload past → RelendsOnlyDone x e past
relending setup payload e past x elements m w = relends-all setup payload elements e past m (from-least setup payload past m.1 w) x

-- lendings are apart, held and done with, from the least that is owed
pub lending-laws : (setup : Setup) (payload : List ℕ) (past : List Entry) (x : Side) → HasElements setup → IsMadeAll setup payload past → OwedLeast setup payload past → AreLendings x past × (AreApart setup payload x past × AreDone setup payload x past)
lending-laws setup payload past x elements m w = (all-lendings setup payload past m x, (are-apart-all setup payload elements past m (from-least setup payload past m w) x, are-done-all setup payload past m (from-least setup payload past m w) x))

-- reuse from the least
pub no-old-bytes : (setup : Setup) (payload : List ℕ) (past : List Entry) (y : Side) (l : Lending) (link : LinkId) → IsMadeAll setup payload past → OwedLeast setup payload past → AreCarriedOn setup payload past → IsAmong l (lendings y past)
    → (IsAmong l (lent setup payload y past) → ⊥) → has_ended y l.group past ≡ false → is_lost (other y) link past ≡ false → CarriesNoBytes (element_size setup) link (other y) l past
no-old-bytes setup payload past y l link m w c i n g k = reuse setup payload past m (from-least setup payload past m w) c y l i n g link k
