-- What the pipes post is writes and CDC messages, and what the flows post is LLC messages: neither offers anything.
use Rattle.std.proofs.Common.{Bool, List, [], false, if◌then◌else◌, not, true, ℕ, ◌&&◌, ◌++◌, ◌==◌, ◌∷◌, ◌≡◌}
use Rattle.pipe_model.specs.declared.post.Post.TheVariants.{Clc, Write}
use Rattle.clc_wire.specs.declared.message.ClcMessage.TheVariants.{Accept as AcceptMessage, Confirm as ConfirmMessage, Decline as DeclineMessage, Proposal as ProposalMessage}
use Rattle.pipe_model.specs.declared.flow.KeyPhase.TheVariants.{Asked, Free, Retry as RetryWaits}
use Rattle.pipe_model.specs.Flows.{LinkSent}
use Rattle.pipe_model.specs.declared.flow.FlowStep.TheVariants.{Answered, Confirmed, Live}
use Rattle.pipe_model.specs.Fabric.{loses}
use Rattle.std.specs.Prelude.{None, Option, Some}
use Rattle.history_laws.specs.Words.{Abandoned, Act, AddSeen, AddSent, AskLink, Cdc, ClcMessage, Deleting, Echo, Entry, FirstContact, Flow, FlowStep, Forget, Gone, Key, KeyPhase, Keys, KeysSent, Learn, LinkFlow, LinkId, Llc, LlcMessage, NoFlow, Over, Peer, Post, Reject, ReplyAdd, ReplyKeys, ReplyRetry, Retry, SendKeys, Setup, Side, Skip, Withdraw, act_posts, add_again, deleting_rmbs, drop_posts, flow_of, is_dropping, key_again, keys_of, loss_posts, named_slot, peer_of, ready_posts, resends_add, resends_key, step_posts}
use Rattle.history_laws.specs.Posts.{AreData, AreFree, IsFree, is_data}

-- what is free
pub free-append : (ps qs : List Post) → AreFree ps → AreFree qs → AreFree (ps ++ qs)
free-append [] qs a b = b
free-append (p ∷ ps) qs a b = (a.0, free-append ps qs a.1 b)

data-is-free : (p : Post) → is_data p ≡ true → IsFree p
data-is-free (Write from link key address len) e = tt
data-is-free (Cdc from link m) e = tt
data-is-free (Llc from link m) e = cc
data-is-free (Clc from s link m) e = cc

pub data-free : (ps : List Post) → AreData ps → AreFree ps
data-free [] a = tt
data-free (p ∷ ps) a = (data-is-free p a.0, data-free ps a.1)

pub either-free : (b : Bool) (ps qs : List Post) → AreFree ps → AreFree qs → AreFree (if b then ps else qs)
either-free true ps qs p q = p
either-free false ps qs p q = q

pub ready-free : (setup : Setup) (s : ℕ) (m : ClcMessage) (past : List Entry) → AreFree (ready_posts setup s m past)
ready-free setup s (ConfirmMessage o) past = either-free o.first _ _ (tt, tt) tt
ready-free setup s (ProposalMessage p) past = tt
ready-free setup s (AcceptMessage o) past = tt
ready-free setup s (DeclineMessage r) past = tt

key-free : (x : Side) (p : Peer) (keys : List Key) (rmbs : List ℕ) (phase : KeyPhase) → IsFree (key_again x p keys rmbs phase)
key-free x p keys rmbs Free = tt
key-free x p keys rmbs Asked = tt
key-free x p keys rmbs RetryWaits = tt
key-free x p keys rmbs Deleting = tt

add-free : (x : Side) (p : Peer) (ks : Keys) (qp : ℕ) (flow : LinkFlow) → AreFree (add_again x p ks qp flow)
add-free x p ks qp NoFlow = tt
add-free x p ks qp FirstContact = tt
add-free x p ks qp (AddSent k on) = (tt, tt)
add-free x p ks qp (KeysSent k on) = (tt, tt)
add-free x p ks qp (LinkSent k) = tt
add-free x p ks qp (Abandoned on) = tt
add-free x p ks qp (AddSeen k) = tt

pub loss-free : (setup : Setup) (x : Side) (k : ℕ) (own : Bool) (p : Peer) (before : Flow) (past : List Entry) → AreFree (loss_posts setup x k own p before past)
loss-free setup x k own p before past = either-free (p.group == 0) _ _ tt
    (free-append (drop_posts x k own p ++ (if resends_key k before then key_again x p (keys_of x past).keys (deleting_rmbs setup x past) before.key ∷ [] else [])) _
    (free-append (drop_posts x k own p) _ (either-free (own && not (is_dropping k p.flow)) _ _ (tt, tt) tt) (either-free (resends_key k before) _ _ (key-free x p (keys_of x past).keys (deleting_rmbs setup x past) before.key, tt) tt))
    (either-free (resends_add k before.link) _ _ (add-free x p (keys_of x past) _ before.link) tt))

step-free : (setup : Setup) (x : Side) (on : LinkId) (m : LlcMessage) (past : List Entry) (step : FlowStep) → AreFree (step_posts setup x on m past step)
step-free setup x on m past Skip = tt
step-free setup x on m past (Live true first) = (tt, tt)
step-free setup x on m past (Live false first) = tt
step-free setup x on m past SendKeys = (tt, tt)
step-free setup x on m past Over = tt
step-free setup x on m past AskLink = (tt, tt)
step-free setup x on m past (ReplyKeys true) = (tt, tt)
step-free setup x on m past (ReplyKeys false) = (tt, tt)
step-free setup x on m past (ReplyAdd again) = (tt, tt)
step-free setup x on m past Reject = (tt, tt)
step-free setup x on m past Confirmed = tt
step-free setup x on m past Retry = tt
step-free setup x on m past Withdraw = tt
step-free setup x on m past ReplyRetry = (tt, tt)
step-free setup x on m past Learn = (tt, tt)
step-free setup x on m past Forget = (tt, tt)
step-free setup x on m past (Gone report) = (tt, either-free report _ _ (loss-free setup x (named_slot m on.slot) false (loses (named_slot m on.slot) (peer_of x past)) (flow_of x past) past) tt)
step-free setup x on m past Answered = tt
step-free setup x on m past Echo = (tt, tt)

-- what a landing makes the flows post
pub act-free : (setup : Setup) (x : Side) (past : List Entry) (o : Option Act) → AreFree (act_posts setup x past o)
act-free setup x past None = tt
act-free setup x past (Some act) = step-free setup x act.link act.message past act.step
