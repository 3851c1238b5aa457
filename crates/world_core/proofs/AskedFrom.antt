-- What handshake and flows post with an event is at most one post, and it comes from the side that acts.
use Rattle.std.proofs.Common.{true≢false, ◌≡◌, ◌∙◌, ◌⊎◌, inl, inr, ℕ, ◌<◌, ◌≤◌, ◌==◌, Bool, true, false, not, if◌then◌else◌, List, [], ◌∷◌, length, filter_map, refl, ap, sym, subst, ◌&&◌, arith, eq-eqb}
use Rattle.std.specs.Prelude.{Option, Some, None, is_some, option_map, unwrap_or}
use Rattle.std.specs.List.{cons_option}
use Rattle.smc_num.specs.declared.Side.{Side}
use Rattle.smc_num.specs.declared.Side.TheVariants.{A, B}
use Rattle.smc_num.specs.declared.LinkId.{LinkId}
use Rattle.smc_num.specs.Names.{other, same_side, head, no_link}
use Rattle.clc_wire.specs.declared.offer.Offer.{Offer}
use Rattle.clc_wire.specs.declared.proposal.Proposal.{Proposal}
use Rattle.clc_wire.specs.declared.message.ClcMessage.{ClcMessage}
use Rattle.clc_wire.specs.declared.message.ClcMessage.TheVariants.{Proposal as ProposalMessage, Accept as AcceptMessage, Confirm as ConfirmMessage, Decline as DeclineMessage}
use Rattle.pipe_model.specs.declared.verdict.ClcStep.{ClcStep}
use Rattle.pipe_model.specs.declared.verdict.ClcStep.TheVariants.{SendAccept, SendConfirm, AskKey, Wait, Decline, Fell, Ready, Lost, Wrong}
use Rattle.pipe_model.specs.declared.verdict.Lacks.{Lacks}
use Rattle.pipe_model.specs.declared.setup.Setup.{Setup}
use Rattle.pipe_model.specs.declared.event.Event.{Event}
use Rattle.pipe_model.specs.declared.event.Event.TheVariants.{Open, Write, Read, Clc as ClcEvent, Deliver, Complete}
use Rattle.pipe_model.specs.declared.reply.Reply.{Reply}
use Rattle.pipe_model.specs.declared.reply.Reply.TheVariants.{Idle, Opened}
use Rattle.pipe_model.specs.declared.post.Post.{Post}
use Rattle.pipe_model.specs.declared.post.Post.TheVariants.{Write as WritePost, Cdc, Llc, Clc}
use Rattle.pipe_model.specs.declared.post.Placed.{Placed}
use Rattle.pipe_model.specs.declared.entry.Entry.{Entry}
use Rattle.pipe_model.specs.History.{Offered, offer_in, offered_if}
use Rattle.pipe_model.specs.Connections.{EndState, WaitsProposal, WaitsAnswer, WaitsConfirm, end_state, named_link}
use Rattle.pipe_model.specs.Handshake.{key_step, on_proposal, on_accept, verdict, lacks}
use Rattle.pipe_model.specs.Flows.{is_asked, is_deleting}
use Rattle.pipe_model.specs.Fabric.{act_of}
use Rattle.pipe_model.specs.Wires.{landing, unlanded}
use Rattle.pipe_model.specs.Fallback.{Front, NoMessage, Faulty, Whole, front, is_raw}
use Rattle.pipe_model.specs.Posts.{new_offer, clc_posts, ready_posts, first_link, fewest}
use Rattle.pipe_model.specs.Replies.{clc_step}
use Rattle.pipe_model.specs.Lawful.{front_posts, act_posts, asked}
use Rattle.pipe_model.specs.Fits.{Fits}
use Rattle.world_core.specs.OneLink.{Stage, NoLink, Begun, Made, Asking, LiveAtA, LiveAtBoth, is_made, llc_of, the_link}
use Rattle.world_core.specs.Sockets.{Socket, FirstAccepted, StandsAt, end_at, IsWorld}
use Rattle.world_core.specs.WireSteps.{EachPost}
use Rattle.world_core.specs.Managers.{awaits_confirm}
use Rattle.world_core.specs.Sending.{acting_side}
use Rattle.world_core.proofs.TakenMessages.{end-is}
use Rattle.world_core.proofs.Landings.{lands-made, lands-unmade, acts-none, first-llc, no-llc-first}
use Rattle.world_core.proofs.Confirmations.{request, answer, act-a, act-b}
use Rattle.world_core.proofs.NewOffers.{NoOffers, OneOffer, asked-offers}
use Rattle.world_core.proofs.Plain.{same-is, twice}

-- that a post comes from a side, and is about a known socket where it is a CLC message
abbrev pub IsFrom : ℕ → Side → Post → Type 0
IsFrom sockets y (WritePost from link key address len) = from ≡ y
IsFrom sockets y (Cdc from link message) = from ≡ y
IsFrom sockets y (Llc from link message) = from ≡ y
IsFrom sockets y (Clc from s link message) = (from ≡ y) × (s < sockets)

-- that there is at most one such post, and no CDC message
pub record AreFew (sockets : ℕ) (y : Side) (posts : List Post) : Type 0 where
  pub from : EachPost (IsFrom sockets y) posts
  pub few : length posts ≤ 1

-- a message is ready to be taken at B alone
abbrev readies : ClcStep → Bool
readies Ready = true
readies _ = false

if-not : (b : Bool) (p q : ClcStep) → readies p ≡ false → readies q ≡ false → readies (if b then p else q) ≡ false
if-not true p q e g = e
if-not false p q e g = g

key-not : (l : Lacks) → readies (key_step l) ≡ false
key-not l = if-not (is_asked l.key_flow) _ _ refl (if-not l.adding _ _ refl refl)

proposal-not : (raw : Bool) (p : Proposal) (l : Lacks) → readies (on_proposal raw p l) ≡ false
proposal-not raw p l =
    if-not (not ((p.subnet == l.subnet.0) && (p.prefix == l.subnet.1))) _ _ refl (if-not l.first_contact _ _ refl
    (if-not (is_deleting l.key_flow) _ _ refl (if-not (l.free == 0) _ _ refl
    (if-not (l.group == 0) _ _ (if-not raw _ _ refl (if-not (l.slots_up == 0) _ _ refl refl))
    (if-not (not l.rmb_ready) _ _ (key-not l) refl)))))

accept-not : (o : Offer) (l : Lacks) → readies (on_accept o l) ≡ false
accept-not o l =
    if-not o.first _ _ (if-not (not (l.group == 0)) _ _ refl refl)
    (if-not (not (o.psn == l.group)) _ _ refl (if-not (is_deleting l.key_flow) _ _ refl (if-not (l.free == 0) _ _ refl (if-not (not l.rmb_ready) _ _ (key-not l) refl))))

ready-in : (raw : Bool) (state : EndState) (m : ClcMessage) (l : Lacks) → readies (verdict raw state m l) ≡ true → awaits_confirm state ≡ true
ready-in raw WaitsConfirm m l e = refl
ready-in raw WaitsProposal (ProposalMessage p) l e = absurd (true≢false (sym e ∙ proposal-not raw p l))
ready-in raw WaitsAnswer (AcceptMessage o) l e = absurd (true≢false (sym e ∙ accept-not o l))
ready-in raw _ m l e = e

ready-at : (k : Socket) (y : Side) → awaits_confirm (end_at k y) ≡ true → B ≡ y
ready-at k B e = refl
ready-at (FirstAccepted o) A e = cc
ready-at _ A e = cc

abbrev taker : Event → Side
taker (ClcEvent s dir) = other dir
taker _ = A

-- the side that offers takes the message
module _ (past : List Entry) (t : ℕ) (dir : Side) where
  offer-side : (y : Side) (ps : List Post) (o : Offered) → filter_map (offer_in y t) ps ≡ o ∷ [] → NoOffers ps ⊎ OneOffer (ClcEvent t dir) past ps → y ≡ other dir
  offer-side y ps o e (inl n) = absurd (true≢false (ap (λ (os : List Offered). is_some (head os)) (sym e ∙ n.offers y t)))
  offer-side y ps o e (inr r) = by (same_side y r.y) refl
    where
      by : (b : Bool) → same_side y r.y ≡ b → y ≡ other dir
      by true f = same-is y r.y f ∙ (twice r.y ∙ sym (ap (λ v. taker v) r.event_is))
      by false f = absurd (true≢false (ap (λ (os : List Offered). is_some (head os)) (sym e ∙ r.offers y t ∙ ap (λ b. if b && (t == r.t) then r.offer ∷ [] else []) f)))

  accept-side : (link : LinkId) (o : Offer) → NoOffers (Clc B t (Some link) (AcceptMessage o) ∷ []) ⊎ OneOffer (ClcEvent t dir) past (Clc B t (Some link) (AcceptMessage o) ∷ []) → B ≡ other dir
  accept-side link o q = offer-side B _ (record { link = link; offer = o }) (ap (λ b. cons_option (offered_if b link o) []) (eq-eqb t t refl)) q

  confirm-side : (link : LinkId) (o : Offer) → NoOffers (Clc A t (Some link) (ConfirmMessage o) ∷ []) ⊎ OneOffer (ClcEvent t dir) past (Clc A t (Some link) (ConfirmMessage o) ∷ []) → A ≡ other dir
  confirm-side link o q = offer-side A _ (record { link = link; offer = o }) (ap (λ b. cons_option (offered_if b link o) []) (eq-eqb t t refl)) q

few-none : (sockets : ℕ) (y : Side) → AreFew sockets y []
few-none sockets y = record { from = tt; few = omega arith }

few-one : (sockets : ℕ) (y : Side) (p : Post) → IsFrom sockets y p → AreFew sockets y (p ∷ [])
few-one sockets y p f = record { from = (f, tt); few = omega arith }

few-if : (sockets : ℕ) (y : Side) (b : Bool) (ps qs : List Post) → AreFew sockets y ps → AreFew sockets y qs → AreFew sockets y (if b then ps else qs)
few-if sockets y true ps qs f g = f
few-if sockets y false ps qs f g = g

module _ (setup : Setup) (payload : List ℕ) (past : List Entry) (t : ℕ) (known : t < setup.sockets) (k : Socket) (at : StandsAt setup k t past) (dir : Side) where
  abbrev Offers : List Post → Type 0
  Offers ps = NoOffers ps ⊎ OneOffer (ClcEvent t dir) past ps

  abbrev Few : List Post → Type 0
  Few ps = AreFew setup.sockets (other dir) ps

  few-ready : (m : ClcMessage) → B ≡ other dir → Few (ready_posts setup t m past)
  few-ready (ConfirmMessage o) e = few-if setup.sockets (other dir) o.first _ [] (few-one setup.sockets (other dir) _ e) (few-none setup.sockets (other dir))
  few-ready (ProposalMessage p) e = few-none setup.sockets (other dir)
  few-ready (AcceptMessage o) e = few-none setup.sockets (other dir)
  few-ready (DeclineMessage r) e = few-none setup.sockets (other dir)

  few-step : (m : ClcMessage) (step : ClcStep) → clc_step setup payload (other dir) t m past ≡ step → Offers (clc_posts setup payload (other dir) t m past step) → Few (clc_posts setup payload (other dir) t m past step)
  few-step m (SendAccept true) e q = few-one setup.sockets (other dir) _ (accept-side past t dir (first_link setup past) (new_offer setup payload B true (first_link setup past) past) q, known)
  few-step m (SendAccept false) e q = few-one setup.sockets (other dir) _ (accept-side past t dir (fewest setup payload past) (new_offer setup payload B false (fewest setup payload past) past) q, known)
  few-step m (SendConfirm first) e q = few-one setup.sockets (other dir) _ (confirm-side past t dir (unwrap_or (named_link t past) no_link) (new_offer setup payload A first (unwrap_or (named_link t past) no_link) past) q, known)
  few-step m AskKey e q = few-one setup.sockets (other dir) _ refl
  few-step m (Wait hold) e q = few-none setup.sockets (other dir)
  few-step m (Decline lack) e q = few-one setup.sockets (other dir) _ (refl, known)
  few-step m Fell e q = few-none setup.sockets (other dir)
  few-step m Ready e q =
      let w = ready-in (is_raw t past) (end_state (other dir) t past) m (lacks setup payload (other dir) past) (ap (λ s. readies s) e) in
      few-ready m (ready-at k (other dir) (ap (λ s. awaits_confirm s) (sym (end-is setup k t past at (other dir))) ∙ w))
  few-step m Lost e q = few-none setup.sockets (other dir)
  few-step m (Wrong kind) e q = few-none setup.sockets (other dir)

  few-front : (f : Front) → Offers (front_posts setup payload (other dir) t past f) → Few (front_posts setup payload (other dir) t past f)
  few-front NoMessage q = few-none setup.sockets (other dir)
  few-front (Faulty fault) q = few-none setup.sockets (other dir)
  few-front (Whole m len) q = few-step m (clc_step setup payload (other dir) t m past) refl q

  few-clc : Offers (front_posts setup payload (other dir) t past (front payload dir t past)) → (reply : Reply) → Few (asked setup payload past (ClcEvent t dir) reply)
  few-clc q Idle = few-none setup.sockets (other dir)
  few-clc q reply = few-front (front payload dir t past) q

-- what a landing makes the flows post
module _ (setup : Setup) (stage : Stage) (past : List Entry) (world : IsWorld setup stage past) where
  abbrev acts_on : Side → Option Placed → List Post
  acts_on dir o = act_posts setup (other dir) past (act_of (other dir) (option_map (λ c. c.post) o) past)

  abbrev FewActs : Side → Option Placed → Type 0
  FewActs dir o = AreFew setup.sockets (other dir) (acts_on dir o)

  of-llc : (st : Stage) → stage ≡ st → (dir : Side) (c : Placed) (p : Post) → head (unlanded the_link dir past) ≡ Some c → llc_of c.post ≡ Some p → c.post ≡ p → FewActs dir (Some c)
  of-llc (Asking t qp) s B c p first llc is =
      let w : IsWorld setup (Asking t qp) past = subst (λ u. IsWorld setup u past) s world in
      let at = w.link in
      let f = first-llc (unlanded the_link B past) c p (Llc B the_link (request setup 0 t qp past c)) [] first llc (at.waiting B) in
      subst (λ ps. AreFew setup.sockets A ps) (sym (ap (λ a. act_posts setup A past a) (act-a setup 0 t qp past c at (is ∙ f.0)))) (few-one setup.sockets A _ refl)
  of-llc (LiveAtA t qp) s A c p first llc is =
      let w : IsWorld setup (LiveAtA t qp) past = subst (λ u. IsWorld setup u past) s world in
      let at = w.link in
      let f = first-llc (unlanded the_link A past) c p (Llc A the_link (answer setup 0 t qp past c qp)) [] first llc (at.waiting A) in
      subst (λ ps. AreFew setup.sockets B ps) (sym (ap (λ a. act_posts setup B past a) (act-b setup 0 t qp past c at (is ∙ f.0)))) (few-none setup.sockets B)
  of-llc (Asking t qp) s A c p first llc is = let w : IsWorld setup (Asking t qp) past = subst (λ u. IsWorld setup u past) s world in let at = w.link in absurd (no-llc-first (unlanded the_link A past) c p first llc (at.waiting A))
  of-llc (LiveAtA t qp) s B c p first llc is = let w : IsWorld setup (LiveAtA t qp) past = subst (λ u. IsWorld setup u past) s world in let at = w.link in absurd (no-llc-first (unlanded the_link B past) c p first llc (at.waiting B))
  of-llc NoLink s A c p first llc is = let w : IsWorld setup NoLink past = subst (λ u. IsWorld setup u past) s world in let at = w.link in absurd (no-llc-first (unlanded the_link A past) c p first llc (at.waiting A))
  of-llc NoLink s B c p first llc is = let w : IsWorld setup NoLink past = subst (λ u. IsWorld setup u past) s world in let at = w.link in absurd (no-llc-first (unlanded the_link B past) c p first llc (at.waiting B))
  of-llc (Begun t) s A c p first llc is = let w : IsWorld setup (Begun t) past = subst (λ u. IsWorld setup u past) s world in let at = w.link in absurd (no-llc-first (unlanded the_link A past) c p first llc (at.waiting A))
  of-llc (Begun t) s B c p first llc is = let w : IsWorld setup (Begun t) past = subst (λ u. IsWorld setup u past) s world in let at = w.link in absurd (no-llc-first (unlanded the_link B past) c p first llc (at.waiting B))
  of-llc (Made t) s A c p first llc is = let w : IsWorld setup (Made t) past = subst (λ u. IsWorld setup u past) s world in let at = w.link in absurd (no-llc-first (unlanded the_link A past) c p first llc (at.waiting A))
  of-llc (Made t) s B c p first llc is = let w : IsWorld setup (Made t) past = subst (λ u. IsWorld setup u past) s world in let at = w.link in absurd (no-llc-first (unlanded the_link B past) c p first llc (at.waiting B))
  of-llc (LiveAtBoth t) s A c p first llc is = let w : IsWorld setup (LiveAtBoth t) past = subst (λ u. IsWorld setup u past) s world in let at = w.link in absurd (no-llc-first (unlanded the_link A past) c p first llc (at.waiting A))
  of-llc (LiveAtBoth t) s B c p first llc is = let w : IsWorld setup (LiveAtBoth t) past = subst (λ u. IsWorld setup u past) s world in let at = w.link in absurd (no-llc-first (unlanded the_link B past) c p first llc (at.waiting B))

  of-post : (dir : Side) (c : Placed) → head (unlanded the_link dir past) ≡ Some c → (p : Post) → c.post ≡ p → FewActs dir (Some c)
  of-post dir c first (Llc from link m) e = of-llc stage refl dir c (Llc from link m) first (ap llc_of e) e
  of-post dir c first (WritePost from link key address len) e = subst (λ a. AreFew setup.sockets (other dir) (act_posts setup (other dir) past a)) (sym (acts-none c.post (ap llc_of e) (other dir) past)) (few-none setup.sockets (other dir))
  of-post dir c first (Cdc from link m) e = subst (λ a. AreFew setup.sockets (other dir) (act_posts setup (other dir) past a)) (sym (acts-none c.post (ap llc_of e) (other dir) past)) (few-none setup.sockets (other dir))
  of-post dir c first (Clc from s link m) e = subst (λ a. AreFew setup.sockets (other dir) (act_posts setup (other dir) past a)) (sym (acts-none c.post (ap llc_of e) (other dir) past)) (few-none setup.sockets (other dir))

  few-landing : (dir : Side) → FewActs dir (landing 1 dir past)
  few-landing dir = by (is_made stage) refl
    where
      found : (o : Option Placed) → (o ≡ None) ⊎ (o ≡ head (unlanded the_link dir past)) → FewActs dir o
      found None f = few-none setup.sockets (other dir)
      found (Some c) (inl f) = absurd (true≢false (ap (λ (o : Option Placed). is_some o) f))
      found (Some c) (inr f) = of-post dir c (sym f) c.post refl

      by : (b : Bool) → is_made stage ≡ b → FewActs dir (landing 1 dir past)
      by true e = found (landing 1 dir past) (inr (lands-made setup stage past dir world.link e))
      by false e = found (landing 1 dir past) (inl (lands-unmade setup stage past dir world.link e))

-- what handshake and flows post with an event that is built
pub asked-few : (setup : Setup) (payload : List ℕ) (stage : Stage) (past : List Entry) → IsWorld setup stage past → (event : Event) (reply : Reply) → Fits setup (length payload) event → AreFew setup.sockets (acting_side event) (asked setup payload past event reply)
asked-few setup payload stage past w (Open s) Opened b = few-one setup.sockets A _ (refl, b)
asked-few setup payload stage past w (Open s) _ b = few-none setup.sockets A
asked-few setup payload stage past w (ClcEvent t dir) reply b =
    let h = w.sockets t in
    few-clc setup payload past t b h.at h.stands dir (asked-offers setup payload past (λ s. let k = w.sockets s in record { at = k.at; stands = k.stands }) (ClcEvent t dir) Opened b) reply
asked-few setup payload stage past w (Write end from len) reply b = few-none setup.sockets end.side
asked-few setup payload stage past w (Read end len) reply b = few-none setup.sockets end.side
asked-few setup payload stage past w (Deliver slot dir) reply b = subst (λ k. FewActs setup stage past w dir (landing k dir past)) (sym b) (few-landing setup stage past w dir)
asked-few setup payload stage past w (Complete slot dir) reply b = few-none setup.sockets dir
asked-few setup payload stage past w _ reply b = absurd b
