-- An entry offers at most once: an end that waits for the message it takes, under the next token of its side.
use Rattle.std.proofs.Common.{◌≡◌, ◌∙◌, ◌==◌, ◌⊎◌, inl, inr, ℕ, Bool, true, false, not, if◌then◌else◌, List, [], ◌∷◌, length, filter_map, refl, ap, sym, ◌&&◌, true≢false}
use Rattle.std.specs.Prelude.{Some, None, option_map, unwrap_or}
use Rattle.std.specs.List.{cons_option}
use Rattle.smc_num.specs.declared.Side.{Side}
use Rattle.smc_num.specs.declared.Side.TheVariants.{A, B}
use Rattle.smc_num.specs.declared.LinkId.{LinkId}
use Rattle.smc_num.specs.Names.{other, same_side, no_link}
use Rattle.clc_wire.specs.declared.offer.Offer.{Offer}
use Rattle.clc_wire.specs.declared.proposal.Proposal.{Proposal}
use Rattle.clc_wire.specs.declared.message.ClcMessage.{ClcMessage}
use Rattle.clc_wire.specs.declared.message.ClcMessage.TheVariants.{Proposal as ProposalMessage, Accept as AcceptMessage, Confirm as ConfirmMessage, Decline as DeclineMessage}
use Rattle.pipe_model.specs.declared.verdict.ClcStep.{ClcStep}
use Rattle.pipe_model.specs.declared.verdict.ClcStep.TheVariants.{SendAccept, SendConfirm, AskKey, Wait, Decline, Fell, Ready, Lost, Wrong}
use Rattle.pipe_model.specs.declared.verdict.Lacks.{Lacks}
use Rattle.llc_wire.specs.declared.LlcMessage.{LlcMessage}
use Rattle.pipe_model.specs.declared.reply.Hold.{Hold}
use Rattle.pipe_model.specs.declared.reply.Hold.TheVariants.{FirstContact as FirstContactHold, AddLink as AddLinkHold, ConfirmRkey as ConfirmRkeyHold, DeleteRkey as DeleteRkeyHold}
use Rattle.pipe_model.specs.declared.reply.Lack.TheVariants.{NoSubnet, NoServerElement, NoSlot, Raw as Raw_lack}
use Rattle.pipe_model.specs.declared.reply.SentKind.TheVariants.{Confirm as ConfirmKind}
use Rattle.pipe_model.specs.declared.setup.Setup.{Setup}
use Rattle.pipe_model.specs.declared.event.Event.{Event}
use Rattle.pipe_model.specs.declared.event.Event.TheVariants.{Open, Write, Read, Clc as ClcEvent, Deliver, Complete}
use Rattle.pipe_model.specs.declared.reply.Reply.{Reply}
use Rattle.pipe_model.specs.declared.reply.Reply.TheVariants.{Idle, Opened}
use Rattle.pipe_model.specs.declared.post.Post.{Post}
use Rattle.pipe_model.specs.declared.post.Post.TheVariants.{Write as WritePost, Cdc, Llc, Clc}
use Rattle.pipe_model.specs.declared.entry.Entry.{Entry}
use Rattle.pipe_model.specs.History.{Offered, offered, offer_in, offered_if}
use Rattle.pipe_model.specs.Connections.{EndState, WaitsProposal, WaitsAnswer, WaitsConfirm, end_state}
use Rattle.pipe_model.specs.Handshake.{key_step, on_proposal, on_accept, on_confirm, verdict, lacks}
use Rattle.pipe_model.specs.Flows.{is_asked, is_deleting}
use Rattle.pipe_model.specs.Fabric.{act_of}
use Rattle.pipe_model.specs.Wires.{landing}
use Rattle.pipe_model.specs.Fallback.{Front, NoMessage, Faulty, Whole, front, is_raw}
use Rattle.pipe_model.specs.Connections.{named_link}
use Rattle.pipe_model.specs.Posts.{new_offer, clc_posts, ready_posts, first_link, fewest}
use Rattle.pipe_model.specs.Replies.{clc_step}
use Rattle.pipe_model.specs.Lawful.{front_posts, asked}
use Rattle.pipe_model.specs.Fits.{Fits}
use Rattle.world_core.specs.Sockets.{Socket, Proposed, Refused, FirstAccepted, Accepted, StandsAt, end_at, offered_at}
use Rattle.world_core.specs.WireSteps.{EachPost}
use Rattle.world_core.proofs.TakenMessages.{end-is}
use Rattle.world_core.proofs.AskedPosts.{IsLlc, either-llc, of-act}

-- which states make a verdict an offer
abbrev accepts : ClcStep → Bool
accepts (SendAccept first) = true
accepts _ = false

abbrev confirms : ClcStep → Bool
confirms (SendConfirm first) = true
confirms _ = false

abbrev waits_proposal : EndState → Bool
waits_proposal WaitsProposal = true
waits_proposal _ = false

abbrev waits_answer : EndState → Bool
waits_answer WaitsAnswer = true
waits_answer _ = false

if-no : (f : ClcStep → Bool) (b : Bool) (p q : ClcStep) → f p ≡ false → f q ≡ false → f (if b then p else q) ≡ false
if-no f true p q e g = e
if-no f false p q e g = g

key-no : (f : ClcStep → Bool) (l : Lacks) → f AskKey ≡ false → ((h : Hold) → f (Wait h) ≡ false) → f (key_step l) ≡ false
key-no f l e g = if-no f (is_asked l.key_flow) _ _ (g ConfirmRkeyHold) (if-no f l.adding _ _ (g AddLinkHold) e)

proposal-confirms : (raw : Bool) (p : Proposal) (l : Lacks) → confirms (on_proposal raw p l) ≡ false
proposal-confirms raw p l =
    if-no confirms (not ((p.subnet == l.subnet.0) && (p.prefix == l.subnet.1))) (Decline NoSubnet) _ refl (if-no confirms l.first_contact (Wait FirstContactHold) _ refl
    (if-no confirms (is_deleting l.key_flow) (Wait DeleteRkeyHold) _ refl (if-no confirms (l.free == 0) (Decline (NoServerElement l.elements)) _ refl
    (if-no confirms (l.group == 0) _ _ (if-no confirms raw (Decline Raw_lack) _ refl (if-no confirms (l.slots_up == 0) (Decline (NoSlot l.links)) (SendAccept true) refl refl))
    (if-no confirms (not l.rmb_ready) _ (SendAccept false) (key-no confirms l refl (λ h. refl)) refl)))))

accept-accepts : (o : Offer) (l : Lacks) → accepts (on_accept o l) ≡ false
accept-accepts o l =
    if-no accepts o.first _ _ (if-no accepts (not (l.group == 0)) _ _ refl refl)
    (if-no accepts (not (o.psn == l.group)) _ _ refl (if-no accepts (is_deleting l.key_flow) _ _ refl (if-no accepts (l.free == 0) _ _ refl (if-no accepts (not l.rmb_ready) _ _ (key-no accepts l refl (λ h. refl)) refl))))

confirm-no : (f : ClcStep → Bool) (raw : Bool) (o : Offer) (l : Lacks) → f (Wrong ConfirmKind) ≡ false → f Ready ≡ false → f Lost ≡ false → f (if raw then Wrong ConfirmKind else on_confirm o l) ≡ false
confirm-no f raw o l w r t = if-no f raw (Wrong ConfirmKind) _ w (if-no f (o.psn == l.group) Ready Lost r t)

-- the state that a verdict with an offer was given in
accepts-in : (raw : Bool) (state : EndState) (m : ClcMessage) (l : Lacks) → accepts (verdict raw state m l) ≡ true → waits_proposal state ≡ true
accepts-in raw WaitsProposal m l e = refl
accepts-in raw WaitsAnswer (AcceptMessage o) l e = absurd (true≢false (sym e ∙ accept-accepts o l))
accepts-in raw WaitsConfirm (ConfirmMessage o) l e = absurd (true≢false (sym e ∙ confirm-no accepts raw o l refl refl refl))
accepts-in raw _ m l e = e

confirms-in : (raw : Bool) (state : EndState) (m : ClcMessage) (l : Lacks) → confirms (verdict raw state m l) ≡ true → waits_answer state ≡ true
confirms-in raw WaitsAnswer m l e = refl
confirms-in raw WaitsProposal (ProposalMessage p) l e = absurd (true≢false (sym e ∙ proposal-confirms raw p l))
confirms-in raw WaitsConfirm (ConfirmMessage o) l e = absurd (true≢false (sym e ∙ confirm-no confirms raw o l refl refl refl))
confirms-in raw _ m l e = e

-- B alone waits for a Proposal, and has not offered then; A alone waits for an Accept, and has not offered then
proposal-at : (k : Socket) (y : Side) → waits_proposal (end_at k y) ≡ true → (y ≡ B) × (offered_at k y ≡ None)
proposal-at Proposed B e = (refl, refl)
proposal-at Proposed A e = absurd (true≢false (sym e))
proposal-at _ A e = absurd (true≢false (sym e))
proposal-at _ B e = absurd (true≢false (sym e))

answer-at : (k : Socket) (y : Side) → waits_answer (end_at k y) ≡ true → (y ≡ A) × (offered_at k y ≡ None)
answer-at Proposed A e = (refl, refl)
answer-at Proposed B e = absurd (true≢false (sym e))
answer-at (Refused r) A e = (refl, refl)
answer-at (FirstAccepted o) A e = (refl, refl)
answer-at (Accepted o) A e = (refl, refl)
answer-at _ A e = absurd (true≢false (sym e))
answer-at _ B e = absurd (true≢false (sym e))

-- where a socket stands
pub record HasSocketAt (setup : Setup) (s : ℕ) (past : List Entry) : Type 0 where
  pub at : Socket
  pub stands : StandsAt setup at s past

-- what posts offer and lend
pub record NoOffers (ps : List Post) : Type 0 where
  pub offers : (x : Side) (s : ℕ) → filter_map (offer_in x s) ps ≡ []

-- one offer of a side on a socket
pub record OneOffer (event : Event) (past : List Entry) (ps : List Post) : Type 0 where
  pub y : Side
  pub t : ℕ
  pub offer : Offered
  pub event_is : event ≡ ClcEvent t (other y)
  pub new : offered y t past ≡ None
  pub offers : (x : Side) (s : ℕ) → filter_map (offer_in x s) ps ≡ (if same_side x y && (s == t) then offer ∷ [] else [])

llc-none : (ps : List Post) → EachPost IsLlc ps → NoOffers ps
llc-none ps p = record { offers = λ x s. by x s ps p }
  where
    none : (x : Side) (s : ℕ) (from : Side) (link : LinkId) (m : LlcMessage) → offer_in x s (Llc from link m) ≡ None
    none A s from link m = refl
    none B s from link m = refl

    by : (x : Side) (s : ℕ) (qs : List Post) → EachPost IsLlc qs → filter_map (offer_in x s) qs ≡ []
    by x s [] q = refl
    by x s (Llc from link m ∷ qs) q = ap (λ o. cons_option o (filter_map (offer_in x s) qs)) (none x s from link m) ∙ by x s qs q.1
    by x s (WritePost from link key address len ∷ qs) q = absurd q.0
    by x s (Cdc from link m ∷ qs) q = absurd q.0
    by x s (Clc from r link m ∷ qs) q = absurd q.0

one-of : (b : Bool) (link : LinkId) (o : Offer) → cons_option (offered_if b link o) [] ≡ (if b then record { link = link; offer = o } ∷ [] else [])
one-of true link o = refl
one-of false link o = refl

sides-differ : A ≡ B → ⊥
sides-differ e = true≢false (ap (λ x. same_side A x) e)

module _ (setup : Setup) (payload : List ℕ) (past : List Entry) (t : ℕ) (k : Socket) (at : StandsAt setup k t past) where
  state-is : (test : EndState → Bool) (y : Side) → test (end_state y t past) ≡ true → test (end_at k y) ≡ true
  state-is test y e = ap (λ s. test s) (sym (end-is setup k t past at y)) ∙ e

  accept-offers : (link : LinkId) (first : Bool) → waits_proposal (end_state B t past) ≡ true → OneOffer (ClcEvent t A) past (Clc B t (Some link) (AcceptMessage (new_offer setup payload B first link past)) ∷ [])
  accept-offers link first w = let q = proposal-at k B (state-is waits_proposal B w) in record {
    y = B;
    t = t;
    offer = record { link = link; offer = new_offer setup payload B first link past };
    event_is = refl;
    new = at.offer B ∙ q.1;
    offers = λ x s. by x s;
  }
    where
      by : (x : Side) (s : ℕ) → filter_map (offer_in x s) (Clc B t (Some link) (AcceptMessage (new_offer setup payload B first link past)) ∷ []) ≡ (if same_side x B && (s == t) then record { link = link; offer = new_offer setup payload B first link past } ∷ [] else [])
      by A s = refl
      by B s = one-of (s == t) link (new_offer setup payload B first link past)

  confirm-offers : (link : LinkId) (first : Bool) → waits_answer (end_state A t past) ≡ true → OneOffer (ClcEvent t B) past (Clc A t (Some link) (ConfirmMessage (new_offer setup payload A first link past)) ∷ [])
  confirm-offers link first w = let q = answer-at k A (state-is waits_answer A w) in record {
    y = A;
    t = t;
    offer = record { link = link; offer = new_offer setup payload A first link past };
    event_is = refl;
    new = at.offer A ∙ q.1;
    offers = λ x s. by x s;
  }
    where
      by : (x : Side) (s : ℕ) → filter_map (offer_in x s) (Clc A t (Some link) (ConfirmMessage (new_offer setup payload A first link past)) ∷ []) ≡ (if same_side x A && (s == t) then record { link = link; offer = new_offer setup payload A first link past } ∷ [] else [])
      by A s = one-of (s == t) link (new_offer setup payload A first link past)
      by B s = refl

  abbrev Offers : Event → List Post → Type 0
  Offers event ps = NoOffers ps ⊎ OneOffer event past ps

  none : (event : Event) → Offers event []
  none event = inl (record { offers = λ x s. refl })

  -- a post without an offer
  refuses-none : (event : Event) (from : Side) (s : ℕ) (m : ClcMessage) → Offers event (Clc from s None m ∷ [])
  refuses-none event A s m = inl (record { offers = λ x r. by x r })
    where
      by : (x : Side) (r : ℕ) → filter_map (offer_in x r) (Clc A s None m ∷ []) ≡ []
      by A r = refl
      by B r = refl
  refuses-none event B s m = inl (record { offers = λ x r. by x r })
    where
      by : (x : Side) (r : ℕ) → filter_map (offer_in x r) (Clc B s None m ∷ []) ≡ []
      by A r = refl
      by B r = refl

  ready-none : (event : Event) (m : ClcMessage) → Offers event (ready_posts setup t m past)
  ready-none event (ConfirmMessage o) = inl (llc-none _ (either-llc o.first _ _ (tt, tt) tt))
  ready-none event (ProposalMessage p) = none event
  ready-none event (AcceptMessage o) = none event
  ready-none event (DeclineMessage r) = none event

  step-offers : (dir : Side) (m : ClcMessage) (step : ClcStep) → clc_step setup payload (other dir) t m past ≡ step → Offers (ClcEvent t dir) (clc_posts setup payload (other dir) t m past step)
  step-offers A m (SendAccept first) e =
      let w = accepts-in (is_raw t past) (end_state B t past) m (lacks setup payload B past) (ap (λ s. accepts s) e) in
      accept-by first w
    where
      accept-by : (first : Bool) → waits_proposal (end_state B t past) ≡ true → Offers (ClcEvent t A) (clc_posts setup payload B t m past (SendAccept first))
      accept-by true w = inr (accept-offers (first_link setup past) true w)
      accept-by false w = inr (accept-offers (fewest setup payload past) false w)
  step-offers B m (SendAccept first) e =
      let w = accepts-in (is_raw t past) (end_state A t past) m (lacks setup payload A past) (ap (λ s. accepts s) e) in
      let q = proposal-at k A (state-is waits_proposal A w) in absurd (sides-differ q.0)
  step-offers B m (SendConfirm first) e =
      let w = confirms-in (is_raw t past) (end_state A t past) m (lacks setup payload A past) (ap (λ s. confirms s) e) in
      inr (confirm-offers (unwrap_or (named_link t past) no_link) first w)
  step-offers A m (SendConfirm first) e =
      let w = confirms-in (is_raw t past) (end_state B t past) m (lacks setup payload B past) (ap (λ s. confirms s) e) in
      let q = answer-at k B (state-is waits_answer B w) in absurd (sides-differ (sym q.0))
  step-offers dir m AskKey e = inl (llc-none _ (tt, tt))
  step-offers dir m (Wait hold) e = none (ClcEvent t dir)
  step-offers dir m (Decline lack) e = refuses-none (ClcEvent t dir) (other dir) t _
  step-offers dir m Fell e = none (ClcEvent t dir)
  step-offers dir m Ready e = ready-none (ClcEvent t dir) m
  step-offers dir m Lost e = none (ClcEvent t dir)
  step-offers dir m (Wrong kind) e = none (ClcEvent t dir)

  front-offers : (dir : Side) (f : Front) → Offers (ClcEvent t dir) (front_posts setup payload (other dir) t past f)
  front-offers dir NoMessage = none (ClcEvent t dir)
  front-offers dir (Faulty fault) = none (ClcEvent t dir)
  front-offers dir (Whole m len) = step-offers dir m (clc_step setup payload (other dir) t m past) refl

  clc-offers : (dir : Side) (reply : Reply) → Offers (ClcEvent t dir) (asked setup payload past (ClcEvent t dir) reply)
  clc-offers dir Idle = none (ClcEvent t dir)
  clc-offers dir reply = front-offers dir (front payload dir t past)

no-offers-in : NoOffers []
no-offers-in = record { offers = λ x s. refl }

open-offers : (setup : Setup) (payload : List ℕ) (past : List Entry) (s : ℕ) (reply : Reply) → NoOffers (asked setup payload past (Open s) reply)
open-offers setup payload past s Opened = record { offers = λ x r. by x r }
  where
    by : (x : Side) (r : ℕ) → filter_map (offer_in x r) (asked setup payload past (Open s) Opened) ≡ []
    by A r = refl
    by B r = refl
open-offers setup payload past s _ = no-offers-in

-- what an event makes handshake and flows offer: nothing, or once
pub asked-offers : (setup : Setup) (payload : List ℕ) (past : List Entry) → ((s : ℕ) → HasSocketAt setup s past) → (event : Event) (reply : Reply) → Fits setup (length payload) event →
    NoOffers (asked setup payload past event reply) ⊎ OneOffer event past (asked setup payload past event reply)
asked-offers setup payload past h (Open s) reply b = inl (open-offers setup payload past s reply)
asked-offers setup payload past h (ClcEvent t dir) reply b = let q = h t in clc-offers setup payload past t q.at q.stands dir reply
asked-offers setup payload past h (Write end from len) reply b = inl no-offers-in
asked-offers setup payload past h (Read end len) reply b = inl no-offers-in
asked-offers setup payload past h (Deliver slot dir) reply b = inl (llc-none _ (of-act setup (other dir) past (act_of (other dir) (option_map (λ c. c.post) (landing slot dir past)) past)))
asked-offers setup payload past h (Complete slot dir) reply b = inl no-offers-in
asked-offers setup payload past h _ reply b = absurd b
