-- Handshake and flows post CLC and LLC messages alone.
use Rattle.pipe_model.specs.declared.post.Post.TheVariants.{Clc, Write as WritePost}
use Rattle.std.proofs.Common.{Bool, List, [], false, if◌then◌else◌, not, true, ℕ, ◌&&◌, ◌++◌, ◌==◌, ◌∷◌}
use Rattle.clc_wire.specs.declared.message.ClcMessage.TheVariants.{Accept as AcceptMessage, Confirm as ConfirmMessage, Decline as DeclineMessage, Proposal as ProposalMessage}
use Rattle.pipe_model.specs.declared.flow.KeyPhase.TheVariants.{Asked, Free, Retry as RetryWaits}
use Rattle.pipe_model.specs.Flows.{LinkSent}
use Rattle.pipe_model.specs.declared.flow.FlowStep.TheVariants.{Answered, Confirmed, Live}
use Rattle.pipe_model.specs.Fabric.{loses}
use Rattle.std.specs.Prelude.{None, Option, Some}
use Rattle.history_laws.specs.Words.{Abandoned, Act, AddSeen, AddSent, AskKey, AskLink, Cdc, ClcMessage, ClcStep, Decline, Deleting, Echo, Entry, Faulty, Fell, FirstContact, Flow, FlowStep, Forget, Front, Gone, Key, KeyPhase, Keys, KeysSent, Learn, LinkFlow, LinkId, Llc, LlcMessage, Lost, NoFlow, NoMessage, Over, Peer, Post, Ready, Reject, ReplyAdd, ReplyKeys, ReplyRetry, Retry, SendAccept, SendConfirm, SendKeys, Setup, Side, Skip, Wait, Whole, Withdraw, Wrong, act_posts, add_again, clc_posts, clc_step, deleting_rmbs, drop_posts, flow_of, front_posts, is_dropping, key_again, keys_of, loss_posts, named_slot, peer_of, ready_posts, resends_add, resends_key, step_posts}
use Rattle.history_laws.specs.Posts.{EachPost}

-- that a post is a CLC or an LLC message
abbrev pub IsControl : Post → Type 0
IsControl (Cdc from link m) = ⊥
IsControl (WritePost from link key address len) = ⊥
IsControl _ = Unit {0}

either : (b : Bool) (ps qs : List Post) → EachPost IsControl ps → EachPost IsControl qs → EachPost IsControl (if b then ps else qs)
either true ps qs p q = p
either false ps qs p q = q

ready : (setup : Setup) (s : ℕ) (m : ClcMessage) (past : List Entry) → EachPost IsControl (ready_posts setup s m past)
ready setup s (ConfirmMessage o) past = either o.first _ _ (tt, tt) tt
ready setup s (ProposalMessage p) past = tt
ready setup s (AcceptMessage o) past = tt
ready setup s (DeclineMessage r) past = tt

of-verdict : (setup : Setup) (payload : List ℕ) (x : Side) (s : ℕ) (m : ClcMessage) (past : List Entry) (step : ClcStep) → EachPost IsControl (clc_posts setup payload x s m past step)
of-verdict setup payload x s m past (SendAccept true) = (tt, tt)
of-verdict setup payload x s m past (SendAccept false) = (tt, tt)
of-verdict setup payload x s m past (SendConfirm first) = (tt, tt)
of-verdict setup payload x s m past AskKey = (tt, tt)
of-verdict setup payload x s m past (Wait hold) = tt
of-verdict setup payload x s m past (Decline lack) = (tt, tt)
of-verdict setup payload x s m past Fell = tt
of-verdict setup payload x s m past Ready = ready setup s m past
of-verdict setup payload x s m past Lost = tt
of-verdict setup payload x s m past (Wrong kind) = tt

pub of-front : (setup : Setup) (payload : List ℕ) (x : Side) (s : ℕ) (past : List Entry) (f : Front) → EachPost IsControl (front_posts setup payload x s past f)
of-front setup payload x s past NoMessage = tt
of-front setup payload x s past (Faulty fault) = tt
of-front setup payload x s past (Whole m len) = of-verdict setup payload x s m past (clc_step setup payload x s m past)

-- that a post is an LLC message
abbrev pub IsLlc : Post → Type 0
IsLlc (Llc from link m) = Unit {0}
IsLlc _ = ⊥

append-llc : (ps qs : List Post) → EachPost IsLlc ps → EachPost IsLlc qs → EachPost IsLlc (ps ++ qs)
append-llc [] qs p q = q
append-llc (post ∷ ps) qs p q = (p.0, append-llc ps qs p.1 q)

pub either-llc : (b : Bool) (ps qs : List Post) → EachPost IsLlc ps → EachPost IsLlc qs → EachPost IsLlc (if b then ps else qs)
either-llc true ps qs p q = p
either-llc false ps qs p q = q

pub llc-control : (posts : List Post) → EachPost IsLlc posts → EachPost IsControl posts
llc-control [] p = tt
llc-control (Llc from link m ∷ posts) p = (tt, llc-control posts p.1)
llc-control (WritePost from link key address len ∷ posts) p = absurd p.0
llc-control (Cdc from link m ∷ posts) p = absurd p.0
llc-control (Clc from s link m ∷ posts) p = absurd p.0

of-key : (x : Side) (p : Peer) (keys : List Key) (rmbs : List ℕ) (phase : KeyPhase) → IsLlc (key_again x p keys rmbs phase)
of-key x p keys rmbs Free = tt
of-key x p keys rmbs Asked = tt
of-key x p keys rmbs RetryWaits = tt
of-key x p keys rmbs Deleting = tt

of-add : (x : Side) (p : Peer) (ks : Keys) (qp : ℕ) (flow : LinkFlow) → EachPost IsLlc (add_again x p ks qp flow)
of-add x p ks qp NoFlow = tt
of-add x p ks qp FirstContact = tt
of-add x p ks qp (AddSent k on) = (tt, tt)
of-add x p ks qp (KeysSent k on) = (tt, tt)
of-add x p ks qp (LinkSent k) = tt
of-add x p ks qp (Abandoned on) = tt
of-add x p ks qp (AddSeen k) = tt

pub of-loss : (setup : Setup) (x : Side) (k : ℕ) (own : Bool) (p : Peer) (before : Flow) (past : List Entry) → EachPost IsLlc (loss_posts setup x k own p before past)
of-loss setup x k own p before past = either-llc (p.group == 0) _ _ tt
    (append-llc (drop_posts x k own p ++ (if resends_key k before then key_again x p (keys_of x past).keys (deleting_rmbs setup x past) before.key ∷ [] else [])) _
    (append-llc (drop_posts x k own p) _ (either-llc (own && not (is_dropping k p.flow)) _ _ (tt, tt) tt) (either-llc (resends_key k before) _ _ (of-key x p (keys_of x past).keys (deleting_rmbs setup x past) before.key, tt) tt))
    (either-llc (resends_add k before.link) _ _ (of-add x p (keys_of x past) _ before.link) tt))

of-step : (setup : Setup) (x : Side) (on : LinkId) (m : LlcMessage) (past : List Entry) (step : FlowStep) → EachPost IsLlc (step_posts setup x on m past step)
of-step setup x on m past Skip = tt
of-step setup x on m past (Live true first) = (tt, tt)
of-step setup x on m past (Live false first) = tt
of-step setup x on m past SendKeys = (tt, tt)
of-step setup x on m past Over = tt
of-step setup x on m past AskLink = (tt, tt)
of-step setup x on m past (ReplyKeys true) = (tt, tt)
of-step setup x on m past (ReplyKeys false) = (tt, tt)
of-step setup x on m past (ReplyAdd again) = (tt, tt)
of-step setup x on m past Reject = (tt, tt)
of-step setup x on m past Confirmed = tt
of-step setup x on m past Retry = tt
of-step setup x on m past Withdraw = tt
of-step setup x on m past ReplyRetry = (tt, tt)
of-step setup x on m past Learn = (tt, tt)
of-step setup x on m past Forget = (tt, tt)
of-step setup x on m past (Gone report) = (tt, either-llc report _ _ (of-loss setup x (named_slot m on.slot) false (loses (named_slot m on.slot) (peer_of x past)) (flow_of x past) past) tt)
of-step setup x on m past Answered = tt
of-step setup x on m past Echo = (tt, tt)

pub of-act : (setup : Setup) (x : Side) (past : List Entry) (o : Option Act) → EachPost IsLlc (act_posts setup x past o)
of-act setup x past None = tt
of-act setup x past (Some act) = of-step setup x act.link act.message past act.step
