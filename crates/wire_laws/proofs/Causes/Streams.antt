-- What B says on a socket: its CLC messages are Accepts and Declines, after every history that the definitions make.
use Rattle.std.proofs.Common.{Bool, List, [], drop, false, filter_map, if◌then◌else◌, inl, inr, not, subst, sym, true, ℕ, ◌&&◌, ◌++◌, ◌==◌, ◌∷◌, ◌≡◌, ◌⊎◌}
use Rattle.std.specs.Prelude.{None, Option, Some, option_map}
use Rattle.std.specs.List.{cons_option}
use Rattle.pipe_model.specs.declared.post.Post.TheVariants.{Clc, Write}
use Rattle.clc_wire.specs.declared.message.ClcMessage.TheVariants.{Accept as AcceptMessage, Confirm as ConfirmMessage, Decline as DeclineMessage, Proposal as ProposalMessage}
use Rattle.pipe_model.specs.declared.flow.KeyPhase.TheVariants.{Asked, Free, Retry as RetryWaits}
use Rattle.pipe_model.specs.declared.reply.SentKind.TheVariants.{AddLink as AddLinkSent, DeleteRkey as DeleteSent, TestLink as TestSent}
use Rattle.pipe_model.specs.declared.reply.Reply.TheVariants.{Idle, Sent}
use Rattle.pipe_model.specs.declared.event.Event.TheVariants.{Clc as ClcEvent}
use Rattle.pipe_model.specs.Flows.{LinkSent}
use Rattle.pipe_model.specs.declared.flow.FlowStep.TheVariants.{Answered, Confirmed, Live}
use Rattle.pipe_model.specs.Fabric.{loses}
use Rattle.pipe_model.specs.Lawful.{asked}
use Rattle.pipe_model.specs.Wires.{landing}
use Rattle.history_laws.specs.Words.{A, Abandoned, Act, AddSeen, AddSent, AskKey, AskLink, B, Cdc, ClcMessage, ClcStep, Decline, Deleting, Deliver, Done, Echo, Entry, Event, Faulty, Fell, FirstContact, Flow, FlowStep, Forget, Front, Gone, Grow, Key, KeyPhase, Keys, KeysSent, Lack, Learn, LinkFlow, LinkId, Llc, LlcMessage, Lost, NoFlow, NoMessage, Open, Opened, Over, Peer, Post, Ready, Reject, Reply, ReplyAdd, ReplyKeys, ReplyRetry, Report, Retry, SendAccept, SendConfirm, SendKeys, Setup, Side, Skip, Test, Trim, Wait, Whole, Withdraw, Wrong, act_of, act_posts, add_again, clc_in, clc_posts, clc_step, connection_posts, deleting_rmbs, draft, drop_posts, flow_of, front, front_posts, is_dropping, key_again, keys_of, loss_posts, named_slot, other, peer_of, ready_posts, refusal, resends_add, resends_key, step_posts, takes_clc, untaken}
use Rattle.history_laws.specs.Posts.{AreData, EachPost}
use Rattle.history_laws.specs.Made.{IsMade, IsMadeAll}
use Rattle.history_laws.specs.Lists.{IsAmong}
use Rattle.history_laws.proofs.Offers.{in-append, in-drop}
use Rattle.history_laws.proofs.Posts.{connections-data}

-- that a message is one that B may send
abbrev pub IsAnswer : ClcMessage → Type 0
IsAnswer (ProposalMessage p) = ⊥
IsAnswer (ConfirmMessage o) = ⊥
IsAnswer (AcceptMessage o) = Unit {0}
IsAnswer (DeclineMessage r) = Unit {0}

abbrev IsFor : Side → ClcMessage → Type 0
IsFor A m = Unit {0}
IsFor B m = IsAnswer m

-- that a post is none of B but such a message
abbrev IsRight : Post → Type 0
IsRight (Clc from s link m) = IsFor from m
IsRight (Write from link key address len) = Unit {0}
IsRight (Cdc from link m) = Unit {0}
IsRight (Llc from link m) = Unit {0}

right-append : (ps qs : List Post) → EachPost IsRight ps → EachPost IsRight qs → EachPost IsRight (ps ++ qs)
right-append [] qs p q = q
right-append (post ∷ ps) qs p q = (p.0, right-append ps qs p.1 q)

either-right : (b : Bool) (ps qs : List Post) → EachPost IsRight ps → EachPost IsRight qs → EachPost IsRight (if b then ps else qs)
either-right true ps qs p q = p
either-right false ps qs p q = q

ready : (setup : Setup) (s : ℕ) (m : ClcMessage) (past : List Entry) → EachPost IsRight (ready_posts setup s m past)
ready setup s (ConfirmMessage o) past = either-right o.first _ _ (tt, tt) tt
ready setup s (ProposalMessage p) past = tt
ready setup s (AcceptMessage o) past = tt
ready setup s (DeclineMessage r) past = tt

declines : (x : Side) (lack : Lack) → IsFor x (DeclineMessage (refusal x lack))
declines A lack = tt
declines B lack = tt

of-verdict : (setup : Setup) (payload : List ℕ) (x : Side) (s : ℕ) (m : ClcMessage) (past : List Entry) (step : ClcStep) → EachPost IsRight (clc_posts setup payload x s m past step)
of-verdict setup payload x s m past (SendAccept true) = (tt, tt)
of-verdict setup payload x s m past (SendAccept false) = (tt, tt)
of-verdict setup payload x s m past (SendConfirm first) = (tt, tt)
of-verdict setup payload x s m past AskKey = (tt, tt)
of-verdict setup payload x s m past (Wait hold) = tt
of-verdict setup payload x s m past (Decline lack) = (declines x lack, tt)
of-verdict setup payload x s m past Fell = tt
of-verdict setup payload x s m past Ready = ready setup s m past
of-verdict setup payload x s m past Lost = tt
of-verdict setup payload x s m past (Wrong kind) = tt

of-front : (setup : Setup) (payload : List ℕ) (x : Side) (s : ℕ) (past : List Entry) (f : Front) → EachPost IsRight (front_posts setup payload x s past f)
of-front setup payload x s past NoMessage = tt
of-front setup payload x s past (Faulty fault) = tt
of-front setup payload x s past (Whole m len) = of-verdict setup payload x s m past (clc_step setup payload x s m past)

of-key : (x : Side) (p : Peer) (keys : List Key) (rmbs : List ℕ) (phase : KeyPhase) → IsRight (key_again x p keys rmbs phase)
of-key x p keys rmbs Free = tt
of-key x p keys rmbs Asked = tt
of-key x p keys rmbs RetryWaits = tt
of-key x p keys rmbs Deleting = tt

of-add : (x : Side) (p : Peer) (ks : Keys) (qp : ℕ) (flow : LinkFlow) → EachPost IsRight (add_again x p ks qp flow)
of-add x p ks qp NoFlow = tt
of-add x p ks qp FirstContact = tt
of-add x p ks qp (AddSent k on) = (tt, tt)
of-add x p ks qp (KeysSent k on) = (tt, tt)
of-add x p ks qp (LinkSent k) = tt
of-add x p ks qp (Abandoned on) = tt
of-add x p ks qp (AddSeen k) = tt

of-loss : (setup : Setup) (x : Side) (k : ℕ) (own : Bool) (p : Peer) (before : Flow) (past : List Entry) → EachPost IsRight (loss_posts setup x k own p before past)
of-loss setup x k own p before past = either-right (p.group == 0) _ _ tt
    (right-append (drop_posts x k own p ++ (if resends_key k before then key_again x p (keys_of x past).keys (deleting_rmbs setup x past) before.key ∷ [] else [])) _
    (right-append (drop_posts x k own p) _ (either-right (own && not (is_dropping k p.flow)) _ _ (tt, tt) tt) (either-right (resends_key k before) _ _ (of-key x p (keys_of x past).keys (deleting_rmbs setup x past) before.key, tt) tt))
    (either-right (resends_add k before.link) _ _ (of-add x p (keys_of x past) _ before.link) tt))

of-step : (setup : Setup) (x : Side) (on : LinkId) (m : LlcMessage) (past : List Entry) (step : FlowStep) → EachPost IsRight (step_posts setup x on m past step)
of-step setup x on m past Skip = tt
of-step setup x on m past (Live true first) = (tt, tt)
of-step setup x on m past (Live false first) = tt
of-step setup x on m past SendKeys = (tt, tt)
of-step setup x on m past Over = tt
of-step setup x on m past AskLink = (tt, tt)
of-step setup x on m past (ReplyKeys true) = (tt, tt)
of-step setup x on m past (ReplyKeys false) = (tt, tt)
of-step setup x on m past (ReplyAdd again) = (tt, tt)
of-step setup x on m past Reject = (tt, tt)
of-step setup x on m past Confirmed = tt
of-step setup x on m past Retry = tt
of-step setup x on m past Withdraw = tt
of-step setup x on m past ReplyRetry = (tt, tt)
of-step setup x on m past Learn = (tt, tt)
of-step setup x on m past Forget = (tt, tt)
of-step setup x on m past (Gone report) = (tt, either-right report _ _ (of-loss setup x (named_slot m on.slot) false (loses (named_slot m on.slot) (peer_of x past)) (flow_of x past) past) tt)
of-step setup x on m past Answered = tt
of-step setup x on m past Echo = (tt, tt)

of-act : (setup : Setup) (x : Side) (past : List Entry) (o : Option Act) → EachPost IsRight (act_posts setup x past o)
of-act setup x past None = tt
of-act setup x past (Some act) = of-step setup x act.link act.message past act.step

of-asked : (setup : Setup) (payload : List ℕ) (past : List Entry) (event : Event) (reply : Reply) → EachPost IsRight (asked setup payload past event reply)
of-asked setup payload past (Open s) Opened = (tt, tt)
of-asked setup payload past (ClcEvent s dir) Idle = tt
of-asked setup payload past (ClcEvent s dir) reply = of-front setup payload (other dir) s past (front payload dir s past)
of-asked setup payload past (Deliver slot dir) reply = of-act setup (other dir) past (act_of (other dir) (option_map (λ c. c.post) (landing slot dir past)) past)
of-asked setup payload past (Report x slot) Done = of-loss setup x slot true (loses slot (peer_of x past)) (flow_of x past) past
of-asked setup payload past Grow (Sent AddLinkSent) = (tt, tt)
of-asked setup payload past (Test x slot) (Sent TestSent) = (tt, tt)
of-asked setup payload past (Trim x) (Sent DeleteSent) = (tt, tt)
of-asked setup payload past _ _ = tt

of-data : (ps : List Post) → AreData ps → EachPost IsRight ps
of-data [] a = tt
of-data (Write from link key address len ∷ ps) a = (tt, of-data ps a.1)
of-data (Cdc from link n ∷ ps) a = (tt, of-data ps a.1)
of-data (Llc from link n ∷ ps) a = (let w : false ≡ true = a.0 in cc)
of-data (Clc from t link n ∷ ps) a = (let w : false ≡ true = a.0 in cc)

-- what B says among such posts
said : (s : ℕ) (m : ClcMessage) (ps : List Post) → EachPost IsRight ps → IsAmong m (filter_map (clc_in B s) ps) → IsAnswer m
said s m [] a i = absurd i
said s m (Write from link key address len ∷ ps) a i = said s m ps a.1 i
said s m (Cdc from link n ∷ ps) a i = said s m ps a.1 i
said s m (Llc from link n ∷ ps) a i = said s m ps a.1 i
said s m (Clc A t link n ∷ ps) a i = said s m ps a.1 i
said s m (Clc B t link n ∷ ps) a i = by (s == t) i (said s m ps a.1)
  where
    by : (b : Bool) → IsAmong m (cons_option (if b then Some n else None) (filter_map (clc_in B s) ps)) → (IsAmong m (filter_map (clc_in B s) ps) → IsAnswer m) → IsAnswer m
    by true (inl q) rest = subst IsAnswer (sym q) a.0
    by true (inr j) rest = rest j
    by false j rest = rest j

right-posts : (setup : Setup) (payload : List ℕ) (past : List Entry) (before : ℕ) (e : Entry) → IsMade setup payload past before e → EachPost IsRight e.posts
right-posts setup payload past before e made =
    let d : Entry = draft setup payload past before e.event in
    subst (EachPost IsRight) (sym made.posts) (right-append d.posts (connection_posts setup payload d past) (of-asked setup payload past e.event d.reply) (of-data (connection_posts setup payload d past) (connections-data setup payload d past)))

-- what stands in B's stream
pub answers-alone : (setup : Setup) (payload : List ℕ) (past : List Entry) → IsMadeAll setup payload past → (s : ℕ) (m : ClcMessage) → IsAmong m (untaken B s past) → IsAnswer m
answers-alone setup payload [] made s m i = absurd i
answers-alone setup payload (e ∷ past) made s m i = by (answers-alone setup payload past made.1 s m) (in-append m (drop (if takes_clc B s e.event e.reply then 1 else 0) (untaken B s past)) (filter_map (clc_in B s) e.posts) i)
  where
    by : (IsAmong m (untaken B s past) → IsAnswer m) → IsAmong m (drop (if takes_clc B s e.event e.reply then 1 else 0) (untaken B s past)) ⊎ IsAmong m (filter_map (clc_in B s) e.posts) → IsAnswer m
    by was (inl j) = was (in-drop m (if takes_clc B s e.event e.reply then 1 else 0) (untaken B s past) j)
    by was (inr j) = let one = made.0 in said s m e.posts (right-posts setup payload past one.0 e one.1) j
