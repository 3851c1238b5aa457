-- What stands in A's stream: a Proposal only while B waits for it, and a Decline only once A's end is out.
use Rattle.std.proofs.Common.{Bool, List, [], ap, append-nil, eqb-true, false, filter_map, if◌then◌else◌, inl, inr, not, refl, subst, sym, true, ℕ, ◌&&◌, ◌++◌, ◌==◌, ◌∙◌, ◌∷◌, ◌≡◌}
use Rattle.pipe_model.specs.declared.post.Post.TheVariants.{Clc, Write}
use Rattle.clc_wire.specs.declared.message.ClcMessage.TheVariants.{Accept as AcceptMessage, Confirm as ConfirmMessage, Decline as DeclineMessage, Proposal as ProposalMessage}
use Rattle.pipe_model.specs.declared.flow.KeyPhase.TheVariants.{Asked, Free, Retry as RetryWaits}
use Rattle.pipe_model.specs.declared.reply.SentKind.TheVariants.{AddLink as AddLinkSent, DeleteRkey as DeleteSent, ConfirmLink as LinkSent, TestLink as TestSent}
use Rattle.pipe_model.specs.Flows.{LinkSent}
use Rattle.pipe_model.specs.declared.flow.FlowStep.TheVariants.{Answered, Confirmed, Live}
use Rattle.pipe_model.specs.Fabric.{loses}
use Rattle.std.specs.Prelude.{None, Option, Some, option_map, unwrap_or}
use Rattle.pipe_model.specs.declared.event.Event.TheVariants.{Clc as ClcEvent, Raw, Write as WriteEvent}
use Rattle.std.specs.List.{cons_option}
use Rattle.pipe_model.specs.Lawful.{asked}
use Rattle.std.proofs.lemmas.List.Elements.{filter_map-append}
use Rattle.pipe_model.specs.declared.reply.Reply.TheVariants.{Idle, Sent}
use Rattle.pipe_model.specs.Wires.{landing}
use Rattle.history_laws.specs.Words.{A, Abandoned, Abort, Act, AddSeen, AddSent, AskKey, AskLink, Await, B, Cdc, ClcMessage, ClcStep, Close, Complete, Cut, Decline, Deleting, Deliver, Done, Echo, Entry, Event, Faulty, Fell, Finish, FirstContact, Flow, FlowStep, Forget, Front, Gone, Grow, Heal, Key, KeyPhase, Keys, KeysSent, Lack, Learn, LinkFlow, LinkId, Llc, LlcMessage, Lost, Move, NoFlow, NoMessage, Offer, Open, Opened, Over, Peer, Post, Proposal, Read, Ready, Refusal, Reject, Reply, ReplyAdd, ReplyKeys, ReplyRetry, Report, Retry, SendAccept, SendConfirm, SendKeys, Setup, Side, Skip, Swallow, Test, Trim, Wait, Whole, Withdraw, Wrong, act_of, act_posts, add_again, clc_in, clc_posts, clc_step, connection_posts, deleting_rmbs, draft, drop_posts, flow_of, front, front_posts, gives_up, group_on, is_dropping, key_again, keys_of, loss_posts, named_link, named_slot, new_offer, no_link, other, peer_of, proposal, ready_posts, refusal, resends_add, resends_key, step_posts, step_told}
use Rattle.history_laws.specs.Posts.{AreData}
use Rattle.history_laws.specs.Made.{IsMade}
use Rattle.history_laws.specs.Lists.{IsAmong}
use Rattle.history_laws.proofs.Offers.Offering.{posts-are}
use Rattle.history_laws.proofs.Posts.{connections-data}
use Rattle.history_laws.proofs.Offers.StateChanges.{Answers, ByVerdict, ForFault, NotTaken, answers}

whole-is : (k n : ClcMessage) (a b : ℕ) → Whole k a ≡ Whole n b → k ≡ n
whole-is k n a b e = cc

-- that a post is no CLC message
abbrev pub IsNoClc : Post → Type 0
IsNoClc (Clc from s link m) = ⊥
IsNoClc post = Unit {0}

abbrev pub AreNoClc : List Post → Type 0
AreNoClc [] = Unit {0}
AreNoClc (p ∷ ps) = IsNoClc p × AreNoClc ps

silent-append : (ps qs : List Post) → AreNoClc ps → AreNoClc qs → AreNoClc (ps ++ qs)
silent-append [] qs a b = b
silent-append (p ∷ ps) qs a b = (a.0, silent-append ps qs a.1 b)

either-silent : (b : Bool) (ps qs : List Post) → AreNoClc ps → AreNoClc qs → AreNoClc (if b then ps else qs)
either-silent true ps qs p q = p
either-silent false ps qs p q = q

ready-silent : (setup : Setup) (s : ℕ) (m : ClcMessage) (past : List Entry) → AreNoClc (ready_posts setup s m past)
ready-silent setup s (ConfirmMessage o) past = either-silent o.first _ _ (tt, tt) tt
ready-silent setup s (ProposalMessage p) past = tt
ready-silent setup s (AcceptMessage o) past = tt
ready-silent setup s (DeclineMessage r) past = tt

key-silent : (x : Side) (p : Peer) (keys : List Key) (rmbs : List ℕ) (phase : KeyPhase) → IsNoClc (key_again x p keys rmbs phase)
key-silent x p keys rmbs Free = tt
key-silent x p keys rmbs Asked = tt
key-silent x p keys rmbs RetryWaits = tt
key-silent x p keys rmbs Deleting = tt

add-silent : (x : Side) (p : Peer) (ks : Keys) (qp : ℕ) (flow : LinkFlow) → AreNoClc (add_again x p ks qp flow)
add-silent x p ks qp NoFlow = tt
add-silent x p ks qp FirstContact = tt
add-silent x p ks qp (AddSent k on) = (tt, tt)
add-silent x p ks qp (KeysSent k on) = (tt, tt)
add-silent x p ks qp (LinkSent k) = tt
add-silent x p ks qp (Abandoned on) = tt
add-silent x p ks qp (AddSeen k) = tt

loss-silent : (setup : Setup) (x : Side) (k : ℕ) (own : Bool) (p : Peer) (before : Flow) (past : List Entry) → AreNoClc (loss_posts setup x k own p before past)
loss-silent setup x k own p before past = either-silent (p.group == 0) _ _ tt
    (silent-append (drop_posts x k own p ++ (if resends_key k before then key_again x p (keys_of x past).keys (deleting_rmbs setup x past) before.key ∷ [] else [])) _
    (silent-append (drop_posts x k own p) _ (either-silent (own && not (is_dropping k p.flow)) _ _ (tt, tt) tt) (either-silent (resends_key k before) _ _ (key-silent x p (keys_of x past).keys (deleting_rmbs setup x past) before.key, tt) tt))
    (either-silent (resends_add k before.link) _ _ (add-silent x p (keys_of x past) _ before.link) tt))

step-silent : (setup : Setup) (x : Side) (on : LinkId) (m : LlcMessage) (past : List Entry) (step : FlowStep) → AreNoClc (step_posts setup x on m past step)
step-silent setup x on m past Skip = tt
step-silent setup x on m past (Live true first) = (tt, tt)
step-silent setup x on m past (Live false first) = tt
step-silent setup x on m past SendKeys = (tt, tt)
step-silent setup x on m past Over = tt
step-silent setup x on m past AskLink = (tt, tt)
step-silent setup x on m past (ReplyKeys true) = (tt, tt)
step-silent setup x on m past (ReplyKeys false) = (tt, tt)
step-silent setup x on m past (ReplyAdd again) = (tt, tt)
step-silent setup x on m past Reject = (tt, tt)
step-silent setup x on m past Confirmed = tt
step-silent setup x on m past Retry = tt
step-silent setup x on m past Withdraw = tt
step-silent setup x on m past ReplyRetry = (tt, tt)
step-silent setup x on m past Learn = (tt, tt)
step-silent setup x on m past Forget = (tt, tt)
step-silent setup x on m past (Gone report) = (tt, either-silent report _ _ (loss-silent setup x (named_slot m on.slot) false (loses (named_slot m on.slot) (peer_of x past)) (flow_of x past) past) tt)
step-silent setup x on m past Answered = tt
step-silent setup x on m past Echo = (tt, tt)

-- what a landing makes the flows post
act-silent : (setup : Setup) (x : Side) (past : List Entry) (o : Option Act) → AreNoClc (act_posts setup x past o)
act-silent setup x past None = tt
act-silent setup x past (Some act) = step-silent setup x act.link act.message past act.step

-- a CLC message of A that an entry posts: a Proposal as the socket is opened, a Decline as A declines, or a Confirm
pub data NewMessage (s : ℕ) (e : Entry) (m : ClcMessage) : Type 0 where
  AsOpened : e.event ≡ Open s → e.reply ≡ Opened → (p : Proposal) → m ≡ ProposalMessage p → NewMessage s e m
  AsDeclined : e.event ≡ ClcEvent s B → gives_up e.reply ≡ true → (r : Refusal) → m ≡ DeclineMessage r → NewMessage s e m
  AsConfirmed : (o : Offer) → m ≡ ConfirmMessage o → NewMessage s e m

silent-none : (d : Side) (s : ℕ) (ps : List Post) → AreNoClc ps → filter_map (clc_in d s) ps ≡ []
silent-none d s [] a = refl
silent-none d s (Write from link key address len ∷ ps) a = silent-none d s ps a.1
silent-none d s (Cdc from link n ∷ ps) a = silent-none d s ps a.1
silent-none d s (Llc from link n ∷ ps) a = silent-none d s ps a.1
silent-none d s (Clc from t link n ∷ ps) a = absurd a.0

data-silent : (ps : List Post) → AreData ps → AreNoClc ps
data-silent [] a = tt
data-silent (Write from link key address len ∷ ps) a = (tt, data-silent ps a.1)
data-silent (Cdc from link n ∷ ps) a = (tt, data-silent ps a.1)
data-silent (Llc from link n ∷ ps) a = (let w : false ≡ true = a.0 in cc)
data-silent (Clc from t link n ∷ ps) a = (let w : false ≡ true = a.0 in cc)

module _ (setup : Setup) (payload : List ℕ) (past : List Entry) (before : ℕ) (e : Entry) (made : IsMade setup payload past before e) (s : ℕ) where
  one-message : (t : ℕ) (n m : ClcMessage) → IsAmong m (cons_option (if s == t then Some n else None) []) → (s ≡ t) × (m ≡ n)
  one-message t n m i = by (s == t) refl i
    where
      by : (b : Bool) → (s == t) ≡ b → IsAmong m (cons_option (if b then Some n else None) []) → (s ≡ t) × (m ≡ n)
      by true q (inl k) = (eqb-true s t q, k)
      by true q (inr k) = absurd k
      by false q k = absurd k

  -- the posts of A in what is asked for are all of its CLC messages
  pub messages-are : filter_map (clc_in A s) e.posts ≡ filter_map (clc_in A s) (asked setup payload past e.event e.reply)
  messages-are =
      let more : List Post = connection_posts setup payload (draft setup payload past before e.event) past in
      ap (λ ps. filter_map (clc_in A s) ps) (posts-are setup payload past before e made)
      ∙ (filter_map-append (clc_in A s) (asked setup payload past e.event e.reply) more
      ∙ (ap (λ (ms : List ClcMessage). filter_map (clc_in A s) (asked setup payload past e.event e.reply) ++ ms) (silent-none A s more (data-silent more (connections-data setup payload (draft setup payload past before e.event) past)))
      ∙ append-nil (filter_map (clc_in A s) (asked setup payload past e.event e.reply))))

  pub new-message : (m : ClcMessage) → IsAmong m (filter_map (clc_in A s) e.posts) → NewMessage s e m
  new-message m i = by e.event refl (subst (λ ms. IsAmong m ms) messages-are i)
    where
      quiet : (v : Event) → AreNoClc (asked setup payload past v e.reply) → IsAmong m (filter_map (clc_in A s) (asked setup payload past v e.reply)) → NewMessage s e m
      quiet v a j = absurd (subst (λ ms. IsAmong m ms) (silent-none A s (asked setup payload past v e.reply) a) j)

      opened : (t : ℕ) → e.event ≡ Open t → (r : Reply) → e.reply ≡ r → IsAmong m (filter_map (clc_in A s) (asked setup payload past (Open t) r)) → NewMessage s e m
      opened t g Opened h j = (let q = one-message t (ProposalMessage (proposal setup)) m j in AsOpened (g ∙ ap (λ n. Open n) (sym q.0)) h (proposal setup) q.1)
      opened t g _ h j = absurd j

      answered : (t : ℕ) (dir : Side) → e.event ≡ ClcEvent t dir → IsAmong m (filter_map (clc_in A s) (front_posts setup payload (other dir) t past (front payload dir t past))) → (e.reply ≡ Idle → ⊥) → NewMessage s e m
      answered t dir g j asks = at (answers setup payload past before e made t dir g) (front payload dir t past) refl j
        where
          none : (n : ClcMessage) (w : ClcStep) → AreNoClc (clc_posts setup payload (other dir) t n past w) → IsAmong m (filter_map (clc_in A s) (clc_posts setup payload (other dir) t n past w)) → NewMessage s e m
          none n w a j = absurd (subst (λ ms. IsAmong m ms) (silent-none A s (clc_posts setup payload (other dir) t n past w) a) j)

          confirmed : (first : Bool) (y : Side) (n : ClcMessage) → IsAmong m (filter_map (clc_in A s) (clc_posts setup payload y t n past (SendConfirm first))) → NewMessage s e m
          confirmed first y n j = (let q = one-message t (ConfirmMessage (new_offer setup payload A first (unwrap_or (named_link t past) no_link) past)) m j in AsConfirmed (new_offer setup payload A first (unwrap_or (named_link t past) no_link) past) q.1)

          declined : (lack : Lack) (n : ClcMessage) → gives_up e.reply ≡ true → (z : Side) → dir ≡ z → IsAmong m (filter_map (clc_in A s) (clc_posts setup payload (other z) t n past (Decline lack))) → NewMessage s e m
          declined lack n up A z j = absurd j
          declined lack n up B z j = (let q = one-message t (DeclineMessage (refusal A lack)) m j in AsDeclined (g ∙ (ap (λ y. ClcEvent t y) z ∙ ap (λ k. ClcEvent k B) (sym q.0))) up (refusal A lack) q.1)

          by-step : (n : ClcMessage) (len : ℕ) (w : ClcStep) → clc_step setup payload (other dir) t n past ≡ w → (e.reply ≡ step_told (group_on t past) n w) → IsAmong m (filter_map (clc_in A s) (clc_posts setup payload (other dir) t n past w)) → NewMessage s e m
          by-step n len (SendAccept true) x r j = absurd j
          by-step n len (SendAccept false) x r j = absurd j
          by-step n len (SendConfirm first) x r j = confirmed first (other dir) n j
          by-step n len AskKey x r j = none n AskKey (tt, tt) j
          by-step n len (Wait hold) x r j = absurd j
          by-step n len (Decline lack) x r j = declined lack n (ap gives_up r) dir refl j
          by-step n len Fell x r j = absurd j
          by-step n len Ready x r j = none n Ready (ready-silent setup t n past) j
          by-step n len Lost x r j = absurd j
          by-step n len (Wrong kind) x r j = absurd j

          at : Answers setup payload t dir past e.reply → (f : Front) → front payload dir t past ≡ f → IsAmong m (filter_map (clc_in A s) (front_posts setup payload (other dir) t past f)) → NewMessage s e m
          at a NoMessage q j = absurd j
          at a (Faulty fault) q j = absurd j
          at (NotTaken r) (Whole n len) q j = absurd (asks r)
          at (ForFault fault x f r) (Whole n len) q j = (let w : Faulty fault ≡ Whole n len = sym f ∙ q in cc)
          at (ByVerdict k len2 x f r) (Whole n len) q j = (let w : Whole k len2 ≡ Whole n len = sym f ∙ q in let same : k ≡ n = whole-is k n len2 len w in by-step n len (clc_step setup payload (other dir) t n past) refl (r ∙ ap (λ o. step_told (group_on t past) o (clc_step setup payload (other dir) t o past)) same) j)

      asked-front : (t : ℕ) (dir : Side) (r : Reply) → IsAmong m (filter_map (clc_in A s) (asked setup payload past (ClcEvent t dir) r)) → (r ≡ Idle → ⊥) × IsAmong m (filter_map (clc_in A s) (front_posts setup payload (other dir) t past (front payload dir t past)))
      asked-front t dir Idle j = absurd j
      asked-front t dir _ j = (λ h. cc, j)

      report-quiet : (y : Side) (k : ℕ) (r : Reply) → AreNoClc (asked setup payload past (Report y k) r)
      report-quiet y k Done = loss-silent setup y k true (loses k (peer_of y past)) (flow_of y past) past
      report-quiet y k _ = tt

      grow-quiet : (r : Reply) → AreNoClc (asked setup payload past Grow r)
      grow-quiet (Sent AddLinkSent) = (tt, tt)
      grow-quiet _ = tt

      test-quiet : (y : Side) (k : ℕ) (r : Reply) → AreNoClc (asked setup payload past (Test y k) r)
      test-quiet y k (Sent TestSent) = (tt, tt)
      test-quiet y k _ = tt

      trim-quiet : (y : Side) (r : Reply) → AreNoClc (asked setup payload past (Trim y) r)
      trim-quiet y (Sent DeleteSent) = (tt, tt)
      trim-quiet y _ = tt

      by : (v : Event) → e.event ≡ v → IsAmong m (filter_map (clc_in A s) (asked setup payload past e.event e.reply)) → NewMessage s e m
      by v g j = at v g (subst (λ w. IsAmong m (filter_map (clc_in A s) (asked setup payload past w e.reply))) g j)
        where
          at : (v : Event) → e.event ≡ v → IsAmong m (filter_map (clc_in A s) (asked setup payload past v e.reply)) → NewMessage s e m
          at (Open t) g j = opened t g e.reply refl j
          at (ClcEvent t dir) g j = (let q = asked-front t dir e.reply j in answered t dir g q.1 q.0)
          at (Deliver slot dir) g j = quiet (Deliver slot dir) (act-silent setup (other dir) past (act_of (other dir) (option_map (λ c. c.post) (landing slot dir past)) past)) j
          at (Report y slot) g j = quiet (Report y slot) (report-quiet y slot e.reply) j
          at Grow g j = quiet Grow (grow-quiet e.reply) j
          at (Test y slot) g j = quiet (Test y slot) (test-quiet y slot e.reply) j
          at (Trim y) g j = quiet (Trim y) (trim-quiet y e.reply) j
          at (Raw t from len) g j = absurd j
          at (WriteEvent end from len) g j = absurd j
          at (Read end len) g j = absurd j
          at (Finish end) g j = absurd j
          at (Close end) g j = absurd j
          at (Abort end) g j = absurd j
          at (Await end) g j = absurd j
          at (Complete slot dir) g j = absurd j
          at (Swallow slot dir) g j = absurd j
          at (Cut slot) g j = absurd j
          at (Heal slot) g j = absurd j
          at (Move end) g j = absurd j
