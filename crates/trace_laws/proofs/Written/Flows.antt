-- What the flows of a side post is bounded: the answer to a message that lands, and what is posted as a link is lost.
use Rattle.std.proofs.Common.{Bool, List, None, Option, Some, [], arith, drop, false, if◌then◌else◌, length, not, true, ℕ, ◌&&◌, ◌*◌, ◌++◌, ◌+◌, ◌==◌, ◌∷◌, ◌≤◌}
use Rattle.std.specs.Prelude.{option_and_then, option_map}
use Rattle.pipe_model.specs.declared.flow.FlowStep.TheVariants.{Answered, Confirmed, Live}
use Rattle.pipe_model.specs.declared.flow.KeyPhase.TheVariants.{Asked, Free, Retry as RetryWaits}
use Rattle.pipe_model.specs.declared.post.Post.TheVariants.{Clc, Write}
use Rattle.pipe_model.specs.Fabric.{loses}
use Rattle.pipe_model.specs.Flows.{LinkSent}
use Rattle.pipe_model.specs.Messages.{drop_reply, echo, next_pair}
use Rattle.pipe_model.specs.Wires.{landing}
use Rattle.history_laws.specs.Words.{Abandoned, AddKeys, AddLink, AddSeen, AddSent, AskLink, Cdc, ConfirmLink, ConfirmRkey, DeleteLink, DeleteRkey, Deleting, Echo, Entry, FirstContact, FlowStep, Forget, Gone, Key, KeyPhase, Keys, KeysSent, Learn, LinkFlow, LinkId, Llc, LlcMessage, NoFlow, Over, Peer, Placed, Post, Reject, ReplyAdd, ReplyKeys, ReplyRetry, Retry, SendKeys, Setup, Side, Skip, TestLink, Withdraw, act_of, act_posts, add_again, delete_reply, deleting_rmbs, drop_posts, fabric, flow_of, flow_slot, head, is_dead, is_dropping, is_on, key_again, key_reply, keys_of, landing_on, latest, link_or_none, lowest_live, named_slot, next_number, numbered, pair_on, peer_of, report_posts, resends_add, resends_key, step_posts, table_of, book_of, unlanded}
use Rattle.history_laws.specs.Posts.{EachPost}
use Rattle.history_laws.specs.Wires.{EachPlaced, leaving}
use Rattle.history_laws.proofs.Wires.{placed-append, placed-drop, placed-filter}
use Rattle.trace_laws.specs.Codes.{HasCodes}
use Rattle.trace_laws.proofs.Written.Bounds.{AreEntriesIn, IsLinkIn, IsLlcIn, IsPostIn}
use Rattle.trace_laws.proofs.Written.Links.{IsFabricIn, IsFlowIn, IsPeerIn, IsSomeIn, loses-in, named-in, peer-in}
use Rattle.trace_laws.proofs.Written.Offers.{next-in, pair-in}
use Rattle.trace_laws.proofs.Written.Tables.{found-in}

pub each-append : (P : Post → Type 0) (ps qs : List Post) → EachPost P ps → EachPost P qs → EachPost P (ps ++ qs)
each-append P [] qs i j = j
each-append P (p ∷ ps) qs i j = (i.0, each-append P ps qs i.1 j)

pub each-either : (P : Post → Type 0) (b : Bool) (ps qs : List Post) → EachPost P ps → EachPost P qs → EachPost P (if b then ps else qs)
each-either P true ps qs i j = i
each-either P false ps qs i j = j

module _ (most count : ℕ) where
  -- what waits on a link
  abbrev IsPlacedIn : Placed → Type 0
  IsPlacedIn c = IsPostIn most count c.post

  numbered-in : (n k : ℕ) (posts : List Post) → EachPost (IsPostIn most count) posts → EachPlaced IsPlacedIn (numbered n k posts)
  numbered-in n k [] i = tt
  numbered-in n k (post ∷ posts) i = (i.0, numbered-in n (k + 1) posts i.1)

  unlanded-in : (link : LinkId) (x : Side) (past : List Entry) → AreEntriesIn most count past → EachPlaced IsPlacedIn (unlanded link x past)
  unlanded-in link x [] i = tt
  unlanded-in link x (e ∷ past) i = placed-append IsPlacedIn (drop (leaving link x e past) (unlanded link x past)) _
      (placed-drop IsPlacedIn (leaving link x e past) (unlanded link x past) (unlanded-in link x past i.1))
      (placed-filter IsPlacedIn (λ c. is_on link x c.post) (numbered (next_number past) 1 e.posts) (numbered-in (next_number past) 1 e.posts i.0))

  next-placed-in : (cs : List Placed) → EachPlaced IsPlacedIn cs → IsSomeIn most count (option_map (λ (c : Placed). c.post) (head cs))
  next-placed-in [] i = tt
  next-placed-in (c ∷ cs) i = i.0

  pub landing-in : (slot : ℕ) (dir : Side) (past : List Entry) → AreEntriesIn most count past → IsSomeIn most count (option_map (λ (c : Placed). c.post) (landing slot dir past))
  landing-in slot dir past i = by (latest slot past)
    where
      on : (link : LinkId) (b : Bool) → IsSomeIn most count (option_map (λ (c : Placed). c.post) (if b then None else head (unlanded link dir past)))
      on link true = tt
      on link false = next-placed-in (unlanded link dir past) (unlanded-in link dir past i)

      by : (o : Option LinkId) → IsSomeIn most count (option_map (λ (c : Placed). c.post) (option_and_then (λ link. landing_on link dir past) o))
      by None = tt
      by (Some link) = on link (is_dead link past)

  -- the replies that repeat what was asked
  key-reply-in : (retry : Bool) (m : LlcMessage) → IsLlcIn most count m → IsLlcIn most count (key_reply retry m)
  key-reply-in retry (ConfirmRkey reply again negative others tokens) i = tt
  key-reply-in retry (ConfirmLink reply mac gid qp k user links) i = i
  key-reply-in retry (AddLink reply rejected reason mac gid qp k mtu psn) i = i
  key-reply-in retry (AddKeys reply k number keys) i = i
  key-reply-in retry (DeleteLink reply every orderly k reason) i = i
  key-reply-in retry (TestLink reply bytes) i = i
  key-reply-in retry (DeleteRkey reply negative number mask keys) i = i

  drop-reply-in : (m : LlcMessage) → IsLlcIn most count m → IsLlcIn most count (drop_reply m)
  drop-reply-in (ConfirmRkey reply again negative others tokens) i = i
  drop-reply-in (ConfirmLink reply mac gid qp k user links) i = i
  drop-reply-in (AddLink reply rejected reason mac gid qp k mtu psn) i = i
  drop-reply-in (AddKeys reply k number keys) i = i
  drop-reply-in (DeleteLink reply every orderly k reason) i = i
  drop-reply-in (TestLink reply bytes) i = i
  drop-reply-in (DeleteRkey reply negative number mask keys) i = i

  echo-in : (m : LlcMessage) → IsLlcIn most count m → IsLlcIn most count (echo m)
  echo-in (ConfirmRkey reply again negative others tokens) i = i
  echo-in (ConfirmLink reply mac gid qp k user links) i = i
  echo-in (AddLink reply rejected reason mac gid qp k mtu psn) i = i
  echo-in (AddKeys reply k number keys) i = i
  echo-in (DeleteLink reply every orderly k reason) i = i
  echo-in (TestLink reply bytes) i = i
  echo-in (DeleteRkey reply negative number mask keys) i = i

  delete-reply-in : (on : LinkId) (book : List Key) (m : LlcMessage) → IsLlcIn most count m → IsLlcIn most count (delete_reply on book m)
  delete-reply-in on book (ConfirmRkey reply again negative others tokens) i = i
  delete-reply-in on book (ConfirmLink reply mac gid qp k user links) i = i
  delete-reply-in on book (AddLink reply rejected reason mac gid qp k mtu psn) i = i
  delete-reply-in on book (AddKeys reply k number keys) i = i
  delete-reply-in on book (DeleteLink reply every orderly k reason) i = i
  delete-reply-in on book (TestLink reply bytes) i = i
  delete-reply-in on book (DeleteRkey reply negative number mask keys) i = i

  -- what is posted again as a link is lost, on the lowest live link
  key-again-in : (x : Side) (p : Peer) (keys : List Key) (rmbs : List ℕ) (phase : KeyPhase) → IsPeerIn most count p → IsPostIn most count (key_again x p keys rmbs phase)
  key-again-in x p keys rmbs Deleting i = (found-in most count (lowest_live p.table) p.table i.table, tt)
  key-again-in x p keys rmbs Free i = (found-in most count (lowest_live p.table) p.table i.table, tt)
  key-again-in x p keys rmbs Asked i = (found-in most count (lowest_live p.table) p.table i.table, tt)
  key-again-in x p keys rmbs RetryWaits i = (found-in most count (lowest_live p.table) p.table i.table, tt)

  add-again-in : (x : Side) (p : Peer) (ks : Keys) (qp : ℕ) (flow : LinkFlow) → IsPeerIn most count p → qp ≤ 16 * count + most → IsFlowIn most count flow → EachPost (IsPostIn most count) (add_again x p ks qp flow)
  add-again-in x p ks qp (AddSent k on) i q f = ((found-in most count (lowest_live p.table) p.table i.table, (omega arith, q, omega arith, i.group, f)), tt)
  add-again-in x p ks qp (KeysSent k on) i q f = ((found-in most count (lowest_live p.table) p.table i.table, f), tt)
  add-again-in x p ks qp NoFlow i q f = tt
  add-again-in x p ks qp FirstContact i q f = tt
  add-again-in x p ks qp (LinkSent k) i q f = tt
  add-again-in x p ks qp (Abandoned on) i q f = tt
  add-again-in x p ks qp (AddSeen k) i q f = tt

  slot-in : (flow : LinkFlow) → IsFlowIn most count flow → flow_slot flow ≤ most
  slot-in (AddSent k on) f = f
  slot-in (KeysSent k on) f = f
  slot-in (LinkSent k) f = f
  slot-in (AddSeen k) f = f
  slot-in NoFlow f = omega arith
  slot-in FirstContact f = omega arith
  slot-in (Abandoned on) f = omega arith

module _ (setup : Setup) (codes : HasCodes setup) (payload : List ℕ) (past : List Entry) (count : ℕ) (room : length past + 1 ≤ count) (links : IsFabricIn setup.links count (fabric past)) where
  abbrev IsIn : Post → Type 0
  IsIn post = IsPostIn setup.links count post

  side-in : (x : Side) → IsPeerIn setup.links count (peer_of x past)
  side-in x = peer-in setup.links count x (fabric past) links

  pair-of : (x : Side) (k : ℕ) → k ≤ setup.links → pair_on x k past ≤ 16 * count + setup.links
  pair-of x k l = pair-in setup codes payload past count room x k l

  next-of : (x : Side) (k : ℕ) → k ≤ setup.links → next_pair x k past ≤ 16 * count + setup.links
  next-of x k l = next-in setup codes payload past count room x k l

  -- what a side posts as it loses the link of a slot
  pub report-in : (x : Side) (k : ℕ) (own : Bool) → k ≤ setup.links → EachPost IsIn (report_posts setup x k own past)
  report-in x k own l = each-either IsIn (p.group == 0) _ _ tt
      (each-append IsIn (drop_posts x k own p ++ (if resends_key k (flow_of x past) then key_again x p (keys_of x past).keys (deleting_rmbs setup x past) (flow_of x past).key ∷ [] else [])) _
      (each-append IsIn (drop_posts x k own p) _
      (each-either IsIn (own && not (is_dropping k p.flow)) _ _ ((found-in setup.links count (lowest_live p.table) p.table i.table, l), tt) tt)
      (each-either IsIn (resends_key k (flow_of x past)) _ _ (key-again-in setup.links count x p (keys_of x past).keys (deleting_rmbs setup x past) (flow_of x past).key i, tt) tt))
      (each-either IsIn (resends_add k (flow_of x past).link) _ _
      (add-again-in setup.links count x p (keys_of x past) (pair_on x (flow_slot (flow_of x past).link) past) (flow_of x past).link i (pair-of x (flow_slot (flow_of x past).link) (slot-in setup.links count (flow_of x past).link before.flow)) before.flow) tt))
    where
      p : Peer
      p = loses k (peer_of x past)

      before : IsPeerIn setup.links count (peer_of x past)
      before = side-in x

      i : IsPeerIn setup.links count p
      i = loses-in setup.links count k (peer_of x past) before

  module _ (x : Side) (on : LinkId) (m : LlcMessage) (at : IsLinkIn setup.links count on) (i : IsLlcIn setup.links count m) where
    named : named_slot m on.slot ≤ setup.links
    named = named-in setup.links count m on.slot i at.slot

    -- what a step makes a side post
    step-in : (step : FlowStep) → EachPost IsIn (step_posts setup x on m past step)
    step-in (Live true first) = ((at, (pair-of x on.slot at.slot, at.slot)), tt)
    step-in (Live false first) = tt
    step-in SendKeys = ((found-in setup.links count (lowest_live (table_of x past)) (table_of x past) (let p = side-in x in p.table), named), tt)
    step-in AskLink = ((known, (pair-of x _ known.slot, known.slot)), tt)
      where
        known : IsLinkIn setup.links count (link_or_none (named_slot m on.slot) (table_of x past))
        known = found-in setup.links count (named_slot m on.slot) (table_of x past) (let p = side-in x in p.table)
    step-in (ReplyKeys true) = ((at, named), tt)
    step-in (ReplyKeys false) = ((at, named), tt)
    step-in (ReplyAdd again) = ((at, (omega arith, by again, omega arith, (let p = side-in x in p.group), named)), tt)
      where
        by : (b : Bool) → (if b then pair_on x (named_slot m on.slot) past else next_pair x (named_slot m on.slot) past) ≤ 16 * count + setup.links
        by true = pair-of x (named_slot m on.slot) named
        by false = next-of x (named_slot m on.slot) named
    step-in Reject = ((at, (omega arith, omega arith, omega arith, omega arith, named)), tt)
    step-in ReplyRetry = ((at, key-reply-in setup.links count true m i), tt)
    step-in Learn = ((at, key-reply-in setup.links count false m i), tt)
    step-in Forget = ((at, delete-reply-in setup.links count on (book_of x past) m i), tt)
    step-in (Gone report) = ((at, drop-reply-in setup.links count m i), each-either IsIn report _ _ (report-in x (named_slot m on.slot) false named) tt)
    step-in Echo = ((at, echo-in setup.links count m i), tt)
    step-in Skip = tt
    step-in Over = tt
    step-in Confirmed = tt
    step-in Retry = tt
    step-in Withdraw = tt
    step-in Answered = tt

  -- what a landing makes a side post
  pub act-in : (x : Side) (o : Option Post) → IsSomeIn setup.links count o → EachPost IsIn (act_posts setup x past (act_of x o past))
  act-in x None i = tt
  act-in x (Some (Write from link key address len)) i = tt
  act-in x (Some (Cdc from link m)) i = tt
  act-in x (Some (Clc from s link m)) i = tt
  act-in x (Some (Llc from link m)) i = step-in x link m i.0 i.1 _
