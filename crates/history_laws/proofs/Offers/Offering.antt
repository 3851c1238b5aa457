-- What an entry offers, whatever its event: nothing; or B takes a Proposal, or A an Accept, and offers one element.
use Rattle.clc_wire.specs.declared.message.ClcMessage.TheVariants.{Accept as AcceptMessage, Confirm as ConfirmMessage, Decline as DeclineMessage, Proposal as ProposalMessage}
use Rattle.std.proofs.Common.{Bool, List, [], ap, false, if◌then◌else◌, not, refl, subst, sym, true, true≢false, ℕ, ◌&&◌, ◌++◌, ◌==◌, ◌∙◌, ◌∷◌, ◌≡◌}
use Rattle.pipe_model.specs.declared.reply.Hold.TheVariants.{AddLink as AddLinkHold, ConfirmRkey as ConfirmRkeyHold, DeleteRkey as DeleteRkeyHold, FirstContact as FirstContactHold}
use Rattle.pipe_model.specs.declared.reply.Lack.TheVariants.{Raw as RawLack}
use Rattle.pipe_model.specs.Handshake.{on_confirm, verdict}
use Rattle.pipe_model.specs.declared.reply.SentKind.TheVariants.{Accept as AcceptSent, AddLink as AddLinkSent, Confirm as ConfirmKind, DeleteRkey as DeleteSent, ConfirmLink as LinkSent, TestLink as TestSent}
use Rattle.pipe_model.specs.Lawful.{asked}
use Rattle.pipe_model.specs.declared.event.Event.TheVariants.{Clc as ClcEvent, Raw, Write as WriteEvent}
use Rattle.pipe_model.specs.Replies.{ready_told, told}
use Rattle.pipe_model.specs.declared.reply.Reply.TheVariants.{Idle, Sent}
use Rattle.pipe_model.specs.Fabric.{loses}
use Rattle.std.specs.Prelude.{option_map}
use Rattle.pipe_model.specs.Wires.{landing}
use Rattle.history_laws.specs.Words.{A, Abort, AskKey, Await, B, ClcMessage, ClcStep, Close, Complete, Cut, Decline, Deliver, Done, EndState, Entry, Established, Event, Faulty, Fell, Finish, Front, GroupLost, Grow, HasFallen, Heal, Hold, IsUp, Lack, Lacks, Lost, Move, NoClientElement, NoEnd, NoMessage, NoServerElement, NoSlot, NoSubnet, Offer, OldGroup, Open, Opened, Post, Proposal, Read, Ready, Reply, Report, SendAccept, SendConfirm, Setup, Side, Swallow, Test, Trim, Wait, WaitsAnswer, WaitsConfirm, WaitsLink, WaitsProposal, WasReset, Whole, Wrong, accept_post, act_of, clc_posts, clc_step, clc_told, connection_posts, draft, end_state, expects, first_contact_step, flow_of, front, front_posts, front_told, group_on, is_asked, is_deleting, is_raw, key_step, lacks, on_accept, on_first_accept, on_later_accept, on_proposal, other, peer_of, reply_of, step_told}
use Rattle.history_laws.specs.Made.{IsMade}
use Rattle.history_laws.specs.Posts.{AreData, AreFree}
use Rattle.history_laws.proofs.Posts.{act-free, connections-data, data-free, free-append, loss-free, ready-free}
use Rattle.history_laws.specs.Offers.{Offers, OffersAccept, OffersConfirm, OffersNone, accept_link, confirm_reply}

-- a verdict that offers an element was given on a Proposal at an end that waits for it, or on an Accept
abbrev pub OnProposal : EndState → ClcMessage → Type 0
OnProposal state m = (state ≡ WaitsProposal) × ((p : Proposal) × (m ≡ ProposalMessage p))

abbrev pub OnAccept : EndState → ClcMessage → Type 0
OnAccept state m = (state ≡ WaitsAnswer) × ((o : Offer) × (m ≡ AcceptMessage o))

-- whether a verdict sends an Accept, or a Confirm
abbrev pub sends-accept : ClcStep → Bool
sends-accept (SendAccept first) = true
sends-accept _ = false

abbrev pub sends-confirm : ClcStep → Bool
sends-confirm (SendConfirm first) = true
sends-confirm _ = false

module _ (P : ClcStep → Type 0) where
  if-both : (b : Bool) (f g : ClcStep) → P f → P g → P (if b then f else g)
  if-both true f g p q = p
  if-both false f g p q = q

  key-step : P AskKey → ((h : Hold) → P (Wait h)) → (l : Lacks) → P (key_step l)
  key-step k w l = if-both (is_asked l.key_flow) (Wait ConfirmRkeyHold) (if l.adding then Wait AddLinkHold else AskKey) (w ConfirmRkeyHold) (if-both l.adding (Wait AddLinkHold) AskKey (w AddLinkHold) k)

  -- what can be said to an Accept, to a Proposal and to a Confirm
  pub accept-step : P AskKey → ((h : Hold) → P (Wait h)) → ((a : Lack) → P (Decline a)) → ((b : Bool) → P (SendConfirm b)) → (o : Offer) (l : Lacks) → P (on_accept o l)
  accept-step k w d c o l =
      if-both o.first (on_first_accept l) (on_later_accept o l) (if-both (not (l.group == 0)) (Wait OldGroup) (SendConfirm true) (w OldGroup) (c true))
      (if-both (not (o.psn == l.group)) (Decline (GroupLost o.psn l.group)) (if is_deleting l.key_flow then Wait DeleteRkeyHold else if l.free == 0 then Decline (NoClientElement l.elements) else if not l.rmb_ready then key_step l else SendConfirm false) (d (GroupLost o.psn l.group))
      (if-both (is_deleting l.key_flow) (Wait DeleteRkeyHold) (if l.free == 0 then Decline (NoClientElement l.elements) else if not l.rmb_ready then key_step l else SendConfirm false) (w DeleteRkeyHold)
      (if-both (l.free == 0) (Decline (NoClientElement l.elements)) (if not l.rmb_ready then key_step l else SendConfirm false) (d (NoClientElement l.elements))
      (if-both (not l.rmb_ready) (key_step l) (SendConfirm false) (key-step k w l) (c false)))))

  pub proposal-step : P AskKey → ((h : Hold) → P (Wait h)) → ((a : Lack) → P (Decline a)) → ((b : Bool) → P (SendAccept b)) → (raw : Bool) (p : Proposal) (l : Lacks) → P (on_proposal raw p l)
  proposal-step k w d c raw p l =
      let rest : ClcStep = if not l.rmb_ready then key_step l else SendAccept false in
      let grouped : ClcStep = if l.group == 0 then first_contact_step raw l else rest in
      let lacking : ClcStep = if l.free == 0 then Decline (NoServerElement l.elements) else grouped in
      let deleting : ClcStep = if is_deleting l.key_flow then Wait DeleteRkeyHold else lacking in
      let starting : ClcStep = if l.first_contact then Wait FirstContactHold else deleting in
      if-both (not ((p.subnet == l.subnet.0) && (p.prefix == l.subnet.1))) (Decline NoSubnet) starting (d NoSubnet)
      (if-both l.first_contact (Wait FirstContactHold) deleting (w FirstContactHold)
      (if-both (is_deleting l.key_flow) (Wait DeleteRkeyHold) lacking (w DeleteRkeyHold)
      (if-both (l.free == 0) (Decline (NoServerElement l.elements)) grouped (d (NoServerElement l.elements))
      (if-both (l.group == 0) (first_contact_step raw l) rest
      (if-both raw (Decline RawLack) (if l.slots_up == 0 then Decline (NoSlot l.links) else SendAccept true) (d RawLack) (if-both (l.slots_up == 0) (Decline (NoSlot l.links)) (SendAccept true) (d (NoSlot l.links)) (c true)))
      (if-both (not l.rmb_ready) (key_step l) (SendAccept false) (key-step k w l) (c false))))))

  pub confirm-step : P Ready → P Lost → (o : Offer) (l : Lacks) → P (on_confirm o l)
  confirm-step r t o l = if-both (o.psn == l.group) Ready Lost r t

  pub taken-step : P Ready → P Lost → P (Wrong ConfirmKind) → (raw : Bool) (o : Offer) (l : Lacks) → P (if raw then Wrong ConfirmKind else on_confirm o l)
  taken-step r t w raw o l = if-both raw (Wrong ConfirmKind) (on_confirm o l) w (confirm-step r t o l)

accept-none : (o : Offer) (l : Lacks) → sends-accept (on_accept o l) ≡ false
accept-none = accept-step (λ w. sends-accept w ≡ false) refl (λ h. refl) (λ a. refl) (λ b. refl)

proposal-none : (raw : Bool) (p : Proposal) (l : Lacks) → sends-confirm (on_proposal raw p l) ≡ false
proposal-none = proposal-step (λ w. sends-confirm w ≡ false) refl (λ h. refl) (λ a. refl) (λ b. refl)

pub accepts-in : (raw : Bool) (state : EndState) (m : ClcMessage) (l : Lacks) → sends-accept (verdict raw state m l) ≡ true → OnProposal state m
accepts-in raw WaitsProposal (ProposalMessage p) l e = (refl, (p, refl))
accepts-in raw WaitsProposal (AcceptMessage o) l e = absurd (true≢false (sym e))
accepts-in raw WaitsProposal (ConfirmMessage o) l e = absurd (true≢false (sym e))
accepts-in raw WaitsProposal (DeclineMessage r) l e = absurd (true≢false (sym e))
accepts-in raw WaitsAnswer (ProposalMessage p) l e = absurd (true≢false (sym e))
accepts-in raw WaitsAnswer (AcceptMessage o) l e = absurd (true≢false (sym e ∙ accept-none o l))
accepts-in raw WaitsAnswer (ConfirmMessage o) l e = absurd (true≢false (sym e))
accepts-in raw WaitsAnswer (DeclineMessage r) l e = absurd (true≢false (sym e))
accepts-in raw WaitsConfirm (ProposalMessage p) l e = absurd (true≢false (sym e))
accepts-in raw WaitsConfirm (AcceptMessage o) l e = absurd (true≢false (sym e))
accepts-in raw WaitsConfirm (ConfirmMessage o) l e = absurd (true≢false (sym e ∙ taken-step (λ w. sends-accept w ≡ false) refl refl refl raw o l))
accepts-in raw WaitsConfirm (DeclineMessage r) l e = absurd (true≢false (sym e))
accepts-in raw NoEnd m l e = absurd (true≢false (sym e))
accepts-in raw WaitsLink m l e = absurd (true≢false (sym e))
accepts-in raw IsUp m l e = absurd (true≢false (sym e))
accepts-in raw HasFallen m l e = absurd (true≢false (sym e))
accepts-in raw (WasReset cause) m l e = absurd (true≢false (sym e))

pub confirms-in : (raw : Bool) (state : EndState) (m : ClcMessage) (l : Lacks) → sends-confirm (verdict raw state m l) ≡ true → OnAccept state m
confirms-in raw WaitsProposal (ProposalMessage p) l e = absurd (true≢false (sym e ∙ proposal-none raw p l))
confirms-in raw WaitsProposal (AcceptMessage o) l e = absurd (true≢false (sym e))
confirms-in raw WaitsProposal (ConfirmMessage o) l e = absurd (true≢false (sym e))
confirms-in raw WaitsProposal (DeclineMessage r) l e = absurd (true≢false (sym e))
confirms-in raw WaitsAnswer (ProposalMessage p) l e = absurd (true≢false (sym e))
confirms-in raw WaitsAnswer (AcceptMessage o) l e = (refl, (o, refl))
confirms-in raw WaitsAnswer (ConfirmMessage o) l e = absurd (true≢false (sym e))
confirms-in raw WaitsAnswer (DeclineMessage r) l e = absurd (true≢false (sym e))
confirms-in raw WaitsConfirm (ProposalMessage p) l e = absurd (true≢false (sym e))
confirms-in raw WaitsConfirm (AcceptMessage o) l e = absurd (true≢false (sym e))
confirms-in raw WaitsConfirm (ConfirmMessage o) l e = absurd (true≢false (sym e ∙ taken-step (λ w. sends-confirm w ≡ false) refl refl refl raw o l))
confirms-in raw WaitsConfirm (DeclineMessage r) l e = absurd (true≢false (sym e))
confirms-in raw NoEnd m l e = absurd (true≢false (sym e))
confirms-in raw WaitsLink m l e = absurd (true≢false (sym e))
confirms-in raw IsUp m l e = absurd (true≢false (sym e))
confirms-in raw HasFallen m l e = absurd (true≢false (sym e))
confirms-in raw (WasReset cause) m l e = absurd (true≢false (sym e))

-- A never waits for a Proposal, and B never for an answer
abbrev pub NeverWaits : ℕ → List Entry → Type 0
NeverWaits s past = ((end_state A s past ≡ WaitsProposal) → ⊥) × ((end_state B s past ≡ WaitsAnswer) → ⊥)

module _ (setup : Setup) (payload : List ℕ) (past : List Entry) (before : ℕ) (e : Entry) (made : IsMade setup payload past before e) where
  abbrev more : List Post
  more = connection_posts setup payload (draft setup payload past before e.event) past

  more-data : AreData more
  more-data = connections-data setup payload (draft setup payload past before e.event) past

  -- what was asked for, by the reply
  pub posts-are : e.posts ≡ asked setup payload past e.event e.reply ++ more
  posts-are = made.posts ∙ ap (λ r. asked setup payload past e.event r ++ more) (sym made.reply)

  pub free-as : AreFree (asked setup payload past e.event e.reply) → Offers setup payload e past
  free-as f = OffersNone (subst (λ ps. AreFree ps) (sym posts-are) (free-append (asked setup payload past e.event e.reply) more f (data-free more more-data)))

  module _ (s : ℕ) (dir : Side) (ev : e.event ≡ ClcEvent s dir) (never : NeverWaits s past) where
    reply-of : e.reply ≡ clc_told setup payload s dir past
    reply-of = made.reply ∙ ap (λ v. reply_of before (told setup payload past v)) ev

    asked-of : (r : Reply) → e.reply ≡ r → (ps : List Post) → asked setup payload past (ClcEvent s dir) r ≡ ps → asked setup payload past e.event e.reply ≡ ps
    asked-of r g ps h = ap (λ v. asked setup payload past v e.reply) ev ∙ (ap (λ q. asked setup payload past (ClcEvent s dir) q) g ∙ h)

    free-with : (r : Reply) → e.reply ≡ r → AreFree (asked setup payload past (ClcEvent s dir) r) → Offers setup payload e past
    free-with r g f = free-as (subst (λ ps. AreFree ps) (sym (asked-of r g _ refl)) f)

    front-of : (f : Front) → front payload dir s past ≡ f → front_posts setup payload (other dir) s past (front payload dir s past) ≡ front_posts setup payload (other dir) s past f
    front-of f g = ap (λ h. front_posts setup payload (other dir) s past h) g

    -- by the verdict
    by-step : (m : ClcMessage) (len : ℕ) → front payload dir s past ≡ Whole m len → e.reply ≡ step_told (group_on s past) m (clc_step setup payload (other dir) s m past)
        → (step : ClcStep) → clc_step setup payload (other dir) s m past ≡ step → Offers setup payload e past
    by-step m len f r step st = go step st (r ∙ ap (λ w. step_told (group_on s past) m w) st)
      where
        posts-for : (w : ClcStep) → clc_step setup payload (other dir) s m past ≡ w → front_posts setup payload (other dir) s past (front payload dir s past) ≡ clc_posts setup payload (other dir) s m past w
        posts-for w g = front-of (Whole m len) f ∙ ap (λ v. clc_posts setup payload (other dir) s m past v) g

        free-front : (w : ClcStep) → clc_step setup payload (other dir) s m past ≡ w → AreFree (clc_posts setup payload (other dir) s m past w) → AreFree (front_posts setup payload (other dir) s past (front payload dir s past))
        free-front w g a = subst (λ ps. AreFree ps) (sym (posts-for w g)) a

        confirmed : (first : Bool) → clc_step setup payload (other dir) s m past ≡ SendConfirm first → e.reply ≡ confirm_reply first → (d : Side) → dir ≡ d → Offers setup payload e past
        confirmed first g h A i = let q = confirms-in (is_raw s past) (end_state B s past) m (lacks setup payload B past) (ap sends-confirm (ap (λ d. clc_step setup payload (other d) s m past) (sym i) ∙ g)) in absurd (never.1 q.0)
        confirmed first g h B i =
            let q = confirms-in (is_raw s past) (end_state A s past) m (lacks setup payload A past) (ap sends-confirm (ap (λ d. clc_step setup payload (other d) s m past) (sym i) ∙ g)) in
            let w = q.1 in
            let is : m ≡ AcceptMessage w.0 = w.1 in
            OffersConfirm (record {
              s = s;
              first = first;
              offer = w.0;
              len = len;
              more = more;
              event_is = ev ∙ ap (λ d. ClcEvent s d) i;
              reply_is = h;
              waits = q.0;
              front_is = ap (λ d. front payload d s past) (sym i) ∙ (f ∙ ap (λ n. Whole n len) is);
              step_is = ap (λ n. clc_step setup payload A s n past) (sym is) ∙ (ap (λ d. clc_step setup payload (other d) s m past) (sym i) ∙ g);
              posts_are = posts-are ∙ ap (λ ps. ps ++ more) (asked-of (confirm_reply first) h (front_posts setup payload (other dir) s past (front payload dir s past)) (asks first) ∙ (posts-for (SendConfirm first) g ∙ ap (λ d. clc_posts setup payload (other d) s m past (SendConfirm first)) i));
              plain = more-data;
            })
          where
            asks : (b : Bool) → asked setup payload past (ClcEvent s dir) (confirm_reply b) ≡ front_posts setup payload (other dir) s past (front payload dir s past)
            asks true = refl
            asks false = refl

        accepted : (first : Bool) → clc_step setup payload (other dir) s m past ≡ SendAccept first → e.reply ≡ Sent AcceptSent → (d : Side) → dir ≡ d → Offers setup payload e past
        accepted first g h B i = let q = accepts-in (is_raw s past) (end_state A s past) m (lacks setup payload A past) (ap sends-accept (ap (λ d. clc_step setup payload (other d) s m past) (sym i) ∙ g)) in absurd (never.0 q.0)
        accepted first g h A i =
            let q = accepts-in (is_raw s past) (end_state B s past) m (lacks setup payload B past) (ap sends-accept (ap (λ d. clc_step setup payload (other d) s m past) (sym i) ∙ g)) in
            OffersAccept (record {
              s = s;
              first = first;
              message = m;
              len = len;
              more = more;
              event_is = ev ∙ ap (λ d. ClcEvent s d) i;
              reply_is = h;
              waits = q.0;
              front_is = ap (λ d. front payload d s past) (sym i) ∙ f;
              step_is = ap (λ d. clc_step setup payload (other d) s m past) (sym i) ∙ g;
              posts_are = posts-are ∙ ap (λ ps. ps ++ more) (asked-of (Sent AcceptSent) h (front_posts setup payload (other dir) s past (front payload dir s past)) refl ∙ (posts-for (SendAccept first) g ∙ (ap (λ d. clc_posts setup payload (other d) s m past (SendAccept first)) i ∙ accepts first)));
              plain = more-data;
            })
          where
            accepts : (b : Bool) → clc_posts setup payload B s m past (SendAccept b) ≡ accept_post setup payload s b (accept_link setup payload b past) past ∷ []
            accepts true = refl
            accepts false = refl

        go : (w : ClcStep) → clc_step setup payload (other dir) s m past ≡ w → e.reply ≡ step_told (group_on s past) m w → Offers setup payload e past
        go (SendAccept first) g h = accepted first g h dir refl
        go (SendConfirm true) g h = confirmed true g h dir refl
        go (SendConfirm false) g h = confirmed false g h dir refl
        go AskKey g h = free-with _ h (free-front AskKey g (tt, tt))
        go (Wait hold) g h = free-with _ h (free-front (Wait hold) g tt)
        go (Decline lack) g h = free-with _ h (free-front (Decline lack) g (tt, tt))
        go Fell g h = free-with _ h (free-front Fell g tt)
        go Ready g h = ready m h
          where
            free : AreFree (front_posts setup payload (other dir) s past (front payload dir s past))
            free = free-front Ready g (ready-free setup s m past)

            either : (b : Bool) → e.reply ≡ (if b then Sent LinkSent else Established) → Offers setup payload e past
            either true k = free-with (Sent LinkSent) k free
            either false k = free-with Established k free

            ready : (n : ClcMessage) → e.reply ≡ ready_told n → Offers setup payload e past
            ready (ConfirmMessage o) k = either o.first k
            ready (ProposalMessage p) k = free-with Idle k tt
            ready (AcceptMessage o) k = free-with Idle k tt
            ready (DeclineMessage r2) k = free-with Idle k tt
        go Lost g h = free-with _ h (free-front Lost g tt)
        go (Wrong kind) g h = free-with _ h (free-front (Wrong kind) g tt)

    by-front : (f : Front) → front payload dir s past ≡ f → e.reply ≡ front_told setup payload (other dir) s past f → Offers setup payload e past
    by-front NoMessage g h = free-with Idle h tt
    by-front (Faulty fault) g h = free-with _ h (subst (λ ps. AreFree ps) (sym (front-of (Faulty fault) g)) tt)
    by-front (Whole m len) g h = by-step m len g h (clc_step setup payload (other dir) s m past) refl

    pub clc-offers : Offers setup payload e past
    clc-offers = by (expects (end_state (other dir) s past)) refl
      where
        by : (b : Bool) → expects (end_state (other dir) s past) ≡ b → Offers setup payload e past
        by true g = by-front (front payload dir s past) refl (reply-of ∙ ap (λ b. if b then front_told setup payload (other dir) s past (front payload dir s past) else Idle) g)
        by false g = free-with Idle (reply-of ∙ ap (λ b. if b then front_told setup payload (other dir) s past (front payload dir s past) else Idle) g) tt

  -- whatever the event
  pub offers : ((s : ℕ) → NeverWaits s past) → Offers setup payload e past
  offers never = by e.event refl
    where
      plainly : (v : Event) → e.event ≡ v → AreFree (asked setup payload past v e.reply) → Offers setup payload e past
      plainly v g f = free-as (subst (λ w. AreFree (asked setup payload past w e.reply)) (sym g) f)

      open-free : (s : ℕ) (r : Reply) → AreFree (asked setup payload past (Open s) r)
      open-free s Opened = (tt, tt)
      open-free s _ = tt

      report-free : (x : Side) (k : ℕ) (r : Reply) → AreFree (asked setup payload past (Report x k) r)
      report-free x k Done = loss-free setup x k true (loses k (peer_of x past)) (flow_of x past) past
      report-free x k _ = tt

      grow-free : (r : Reply) → AreFree (asked setup payload past Grow r)
      grow-free (Sent AddLinkSent) = (tt, tt)
      grow-free _ = tt

      test-free : (x : Side) (k : ℕ) (r : Reply) → AreFree (asked setup payload past (Test x k) r)
      test-free x k (Sent TestSent) = (tt, tt)
      test-free x k _ = tt

      trim-free : (x : Side) (r : Reply) → AreFree (asked setup payload past (Trim x) r)
      trim-free x (Sent DeleteSent) = (tt, tt)
      trim-free x _ = tt

      by : (v : Event) → e.event ≡ v → Offers setup payload e past
      by (Open s) g = plainly (Open s) g (open-free s e.reply)
      by (Raw s at len) g = plainly (Raw s at len) g tt
      by (WriteEvent end at len) g = plainly (WriteEvent end at len) g tt
      by (Read end len) g = plainly (Read end len) g tt
      by (Finish end) g = plainly (Finish end) g tt
      by (Close end) g = plainly (Close end) g tt
      by (Abort end) g = plainly (Abort end) g tt
      by (Await end) g = plainly (Await end) g tt
      by (ClcEvent s dir) g = clc-offers s dir g (never s)
      by (Deliver slot dir) g = plainly (Deliver slot dir) g (act-free setup (other dir) past (act_of (other dir) (option_map (λ c. c.post) (landing slot dir past)) past))
      by (Complete slot dir) g = plainly (Complete slot dir) g tt
      by (Swallow slot dir) g = plainly (Swallow slot dir) g tt
      by (Cut slot) g = plainly (Cut slot) g tt
      by (Heal slot) g = plainly (Heal slot) g tt
      by (Report x slot) g = plainly (Report x slot) g (report-free x slot e.reply)
      by (Move end) g = plainly (Move end) g tt
      by Grow g = plainly Grow g (grow-free e.reply)
      by (Test x slot) g = plainly (Test x slot) g (test-free x slot e.reply)
      by (Trim x) g = plainly (Trim x) g (trim-free x e.reply)
