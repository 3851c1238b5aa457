-- Handshake and flows post CLC and LLC messages alone.
use Rattle.std.proofs.Common.{◌≡◌, ◌==◌, ℕ, ◌&&◌, not, Bool, true, false, if◌then◌else◌, List, [], ◌∷◌, ◌++◌, length, filter_map, refl}
use Rattle.std.specs.Prelude.{Option, Some, None, option_map}
use Rattle.smc_num.specs.declared.Side.{Side}
use Rattle.smc_num.specs.declared.LinkId.{LinkId}
use Rattle.smc_num.specs.Names.{other}
use Rattle.smc_num.specs.Keys.{Key}
use Rattle.clc_wire.specs.declared.message.ClcMessage.{ClcMessage}
use Rattle.clc_wire.specs.declared.message.ClcMessage.TheVariants.{Proposal as ProposalMessage, Accept as AcceptMessage, Confirm as ConfirmMessage, Decline as DeclineMessage}
use Rattle.llc_wire.specs.declared.LlcMessage.{LlcMessage}
use Rattle.pipe_model.specs.declared.flow.KeyPhase.{KeyPhase}
use Rattle.pipe_model.specs.declared.flow.KeyPhase.TheVariants.{Free, Asked, Retry as RetryWaits, Deleting}
use Rattle.pipe_model.specs.declared.verdict.ClcStep.{ClcStep}
use Rattle.pipe_model.specs.declared.verdict.ClcStep.TheVariants.{SendAccept, SendConfirm, AskKey, Wait, Decline, Fell, Ready, Lost, Wrong}
use Rattle.pipe_model.specs.declared.flow.FlowStep.{FlowStep}
use Rattle.pipe_model.specs.declared.flow.FlowStep.TheVariants.{Skip, Live, SendKeys, Over, AskLink, ReplyKeys, ReplyAdd, Reject, Confirmed, Retry, Withdraw, ReplyRetry, Learn, Forget, Gone, Answered, Echo}
use Rattle.pipe_model.specs.declared.setup.Setup.{Setup}
use Rattle.pipe_model.specs.declared.event.Event.{Event}
use Rattle.pipe_model.specs.declared.event.Event.TheVariants.{Open, Write, Read, Clc as ClcEvent, Deliver, Complete}
use Rattle.pipe_model.specs.declared.reply.Reply.{Reply}
use Rattle.pipe_model.specs.declared.reply.Reply.TheVariants.{Idle, Opened}
use Rattle.pipe_model.specs.declared.post.Post.{Post}
use Rattle.pipe_model.specs.declared.post.Post.TheVariants.{Write as WritePost, Cdc, Llc, Clc}
use Rattle.pipe_model.specs.declared.entry.Entry.{Entry}
use Rattle.pipe_model.specs.Wires.{landing}
use Rattle.pipe_model.specs.Flows.{Flow, LinkFlow, NoFlow, FirstContact, AddSent, KeysSent, LinkSent, Abandoned, AddSeen, is_dropping, resends_key, resends_add, named_slot}
use Rattle.pipe_model.specs.Fabric.{Peer, Act, act_of, loses, flow_of}
use Rattle.pipe_model.specs.Fallback.{Front, NoMessage, Faulty, Whole, front}
use Rattle.pipe_model.specs.Keys.{Keys, keys_of}
use Rattle.pipe_model.specs.Posts.{clc_posts, ready_posts, step_posts, loss_posts, drop_posts, key_again, add_again, peer_of, deleting_rmbs}
use Rattle.pipe_model.specs.Replies.{clc_step}
use Rattle.pipe_model.specs.Lawful.{front_posts, act_posts, asked}
use Rattle.pipe_model.specs.Fits.{Fits}
use Rattle.world_core.specs.Wired.{cdc_under}
use Rattle.world_core.specs.WireSteps.{IsCdcOn, EachPost}

-- that a post is a CLC or an LLC message
abbrev pub IsControl : Post → Type 0
IsControl (Cdc from link m) = ⊥
IsControl (WritePost from link key address len) = ⊥
IsControl _ = Unit {0}

either : (b : Bool) (ps qs : List Post) → EachPost IsControl ps → EachPost IsControl qs → EachPost IsControl (if b then ps else qs)
either true ps qs p q = p
either false ps qs p q = q

ready : (setup : Setup) (s : ℕ) (m : ClcMessage) (past : List Entry) → EachPost IsControl (ready_posts setup s m past)
ready setup s (ConfirmMessage o) past = either o.first _ _ (tt, tt) tt
ready setup s (ProposalMessage p) past = tt
ready setup s (AcceptMessage o) past = tt
ready setup s (DeclineMessage r) past = tt

of-verdict : (setup : Setup) (payload : List ℕ) (x : Side) (s : ℕ) (m : ClcMessage) (past : List Entry) (step : ClcStep) → EachPost IsControl (clc_posts setup payload x s m past step)
of-verdict setup payload x s m past (SendAccept true) = (tt, tt)
of-verdict setup payload x s m past (SendAccept false) = (tt, tt)
of-verdict setup payload x s m past (SendConfirm first) = (tt, tt)
of-verdict setup payload x s m past AskKey = (tt, tt)
of-verdict setup payload x s m past (Wait hold) = tt
of-verdict setup payload x s m past (Decline lack) = (tt, tt)
of-verdict setup payload x s m past Fell = tt
of-verdict setup payload x s m past Ready = ready setup s m past
of-verdict setup payload x s m past Lost = tt
of-verdict setup payload x s m past (Wrong kind) = tt

of-front : (setup : Setup) (payload : List ℕ) (x : Side) (s : ℕ) (past : List Entry) (f : Front) → EachPost IsControl (front_posts setup payload x s past f)
of-front setup payload x s past NoMessage = tt
of-front setup payload x s past (Faulty fault) = tt
of-front setup payload x s past (Whole m len) = of-verdict setup payload x s m past (clc_step setup payload x s m past)

-- that a post is an LLC message
abbrev pub IsLlc : Post → Type 0
IsLlc (Llc from link m) = Unit {0}
IsLlc _ = ⊥

append-llc : (ps qs : List Post) → EachPost IsLlc ps → EachPost IsLlc qs → EachPost IsLlc (ps ++ qs)
append-llc [] qs p q = q
append-llc (post ∷ ps) qs p q = (p.0, append-llc ps qs p.1 q)

pub either-llc : (b : Bool) (ps qs : List Post) → EachPost IsLlc ps → EachPost IsLlc qs → EachPost IsLlc (if b then ps else qs)
either-llc true ps qs p q = p
either-llc false ps qs p q = q

llc-control : (posts : List Post) → EachPost IsLlc posts → EachPost IsControl posts
llc-control [] p = tt
llc-control (Llc from link m ∷ posts) p = (tt, llc-control posts p.1)
llc-control (WritePost from link key address len ∷ posts) p = absurd p.0
llc-control (Cdc from link m ∷ posts) p = absurd p.0
llc-control (Clc from s link m ∷ posts) p = absurd p.0

of-key : (x : Side) (p : Peer) (keys : List Key) (rmbs : List ℕ) (phase : KeyPhase) → IsLlc (key_again x p keys rmbs phase)
of-key x p keys rmbs Free = tt
of-key x p keys rmbs Asked = tt
of-key x p keys rmbs RetryWaits = tt
of-key x p keys rmbs Deleting = tt

of-add : (x : Side) (p : Peer) (ks : Keys) (qp : ℕ) (flow : LinkFlow) → EachPost IsLlc (add_again x p ks qp flow)
of-add x p ks qp NoFlow = tt
of-add x p ks qp FirstContact = tt
of-add x p ks qp (AddSent k on) = (tt, tt)
of-add x p ks qp (KeysSent k on) = (tt, tt)
of-add x p ks qp (LinkSent k) = tt
of-add x p ks qp (Abandoned on) = tt
of-add x p ks qp (AddSeen k) = tt

of-loss : (setup : Setup) (x : Side) (k : ℕ) (own : Bool) (p : Peer) (before : Flow) (past : List Entry) → EachPost IsLlc (loss_posts setup x k own p before past)
of-loss setup x k own p before past = either-llc (p.group == 0) _ _ tt
    (append-llc (drop_posts x k own p ++ (if resends_key k before then key_again x p (keys_of x past).keys (deleting_rmbs setup x past) before.key ∷ [] else [])) _
    (append-llc (drop_posts x k own p) _ (either-llc (own && not (is_dropping k p.flow)) _ _ (tt, tt) tt) (either-llc (resends_key k before) _ _ (of-key x p (keys_of x past).keys (deleting_rmbs setup x past) before.key, tt) tt))
    (either-llc (resends_add k before.link) _ _ (of-add x p (keys_of x past) _ before.link) tt))

of-step : (setup : Setup) (x : Side) (on : LinkId) (m : LlcMessage) (past : List Entry) (step : FlowStep) → EachPost IsLlc (step_posts setup x on m past step)
of-step setup x on m past Skip = tt
of-step setup x on m past (Live true first) = (tt, tt)
of-step setup x on m past (Live false first) = tt
of-step setup x on m past SendKeys = (tt, tt)
of-step setup x on m past Over = tt
of-step setup x on m past AskLink = (tt, tt)
of-step setup x on m past (ReplyKeys true) = (tt, tt)
of-step setup x on m past (ReplyKeys false) = (tt, tt)
of-step setup x on m past (ReplyAdd again) = (tt, tt)
of-step setup x on m past Reject = (tt, tt)
of-step setup x on m past Confirmed = tt
of-step setup x on m past Retry = tt
of-step setup x on m past Withdraw = tt
of-step setup x on m past ReplyRetry = (tt, tt)
of-step setup x on m past Learn = (tt, tt)
of-step setup x on m past Forget = (tt, tt)
of-step setup x on m past (Gone report) = (tt, either-llc report _ _ (of-loss setup x (named_slot m on.slot) false (loses (named_slot m on.slot) (peer_of x past)) (flow_of x past) past) tt)
of-step setup x on m past Answered = tt
of-step setup x on m past Echo = (tt, tt)

pub of-act : (setup : Setup) (x : Side) (past : List Entry) (o : Option Act) → EachPost IsLlc (act_posts setup x past o)
of-act setup x past None = tt
of-act setup x past (Some act) = of-step setup x act.link act.message past act.step

-- what an event that is built makes handshake and flows post
pub asked-control : (setup : Setup) (payload : List ℕ) (past : List Entry) (event : Event) (reply : Reply) → Fits setup (length payload) event → EachPost IsControl (asked setup payload past event reply)
asked-control setup payload past (Open s) Opened b = (tt, tt)
asked-control setup payload past (Open s) _ b = tt
asked-control setup payload past (ClcEvent s dir) Idle b = tt
asked-control setup payload past (ClcEvent s dir) reply b = of-front setup payload (other dir) s past (front payload dir s past)
asked-control setup payload past (Write end at len) reply b = tt
asked-control setup payload past (Read end len) reply b = tt
asked-control setup payload past (Deliver slot dir) reply b = llc-control _ (of-act setup (other dir) past (act_of (other dir) (option_map (λ c. c.post) (landing slot dir past)) past))
asked-control setup payload past (Complete slot dir) reply b = tt
asked-control setup payload past _ reply b = absurd b

-- no CDC message is none under any token, and none on another link
pub none-under : (x : Side) (token : ℕ) (posts : List Post) → EachPost IsControl posts → filter_map (cdc_under x token) posts ≡ []
none-under x token [] p = refl
none-under x token (WritePost from link key address len ∷ posts) p = absurd p.0
none-under x token (Llc from link m ∷ posts) p = none-under x token posts p.1
none-under x token (Clc from s link m ∷ posts) p = none-under x token posts p.1
none-under x token (Cdc from link m ∷ posts) p = absurd p.0

pub none-else : (link : LinkId) (posts : List Post) → EachPost IsControl posts → EachPost (IsCdcOn link) posts
none-else link [] p = tt
none-else link (WritePost from l key address len ∷ posts) p = absurd p.0
none-else link (Llc from l m ∷ posts) p = (tt, none-else link posts p.1)
none-else link (Clc from s l m ∷ posts) p = (tt, none-else link posts p.1)
none-else link (Cdc from l m ∷ posts) p = absurd p.0
