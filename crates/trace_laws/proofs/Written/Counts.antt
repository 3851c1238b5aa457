-- Queue pairs and groups are no more than entries.
use Rattle.std.proofs.Common.{Bool, List, None, [], ap, arith, cond, false, filter, if◌then◌else◌, length, refl, subst, suc, sym, true, ℕ, ◌*◌, ◌++◌, ◌+◌, ◌==◌, ◌∙◌, ◌∷◌, ◌≡◌, ◌≤◌}
use Rattle.std.specs.Prelude.{option_map, unwrap_or}
use Rattle.clc_wire.specs.declared.message.ClcMessage.TheVariants.{Accept as AcceptMessage, Confirm as ConfirmMessage, Decline as DeclineMessage, Proposal as ProposalMessage}
use Rattle.pipe_model.specs.declared.event.Event.TheVariants.{Clc as ClcEvent}
use Rattle.pipe_model.specs.declared.post.Post.TheVariants.{Clc, Write}
use Rattle.pipe_model.specs.declared.reply.Reply.TheVariants.{Idle, Sent}
use Rattle.pipe_model.specs.declared.reply.SentKind.TheVariants.{AddLink as AddLinkSent, DeleteRkey as DeleteSent, TestLink as TestSent}
use Rattle.pipe_model.specs.Fabric.{loses}
use Rattle.pipe_model.specs.Lawful.{asked}
use Rattle.pipe_model.specs.Messages.{new_pair, pair_number, serial}
use Rattle.pipe_model.specs.Posts.{begins_group_in}
use Rattle.pipe_model.specs.Wires.{landing}
use Rattle.history_laws.specs.Words.{A, AskKey, B, Cdc, ClcMessage, ClcStep, Decline, Deliver, Done, Entry, Event, Faulty, Fell, Front, Grow, Llc, Lost, NoMessage, Open, Opened, Post, Ready, Reply, Report, SendAccept, SendConfirm, Setup, Side, Test, Trim, Wait, Whole, Wrong, accept_post, act_of, act_posts, clc_posts, clc_step, confirm_post, connection_posts, draft, fewest, first_link, flow_of, front, front_posts, groups_begun, grow_post, head, keys_of, named_link, next_free, no_link, open_slots, other, pair_on, peer_of, proposal_post, ready_posts, refusal, report_posts, rkey_post, test_post, trim_post}
use Rattle.history_laws.specs.Made.{IsMade, IsMadeAll}
use Rattle.history_laws.specs.Posts.{AreFree, IsFree}
use Rattle.history_laws.proofs.Posts.{act-free, connections-data, data-free, loss-free, ready-free}

-- how many queue pairs a side has made, and their numbers
pub serial-most : (x : Side) (past : List Entry) → serial x past ≤ length past
serial-most x [] = omega arith
serial-most x (e ∷ past) = by (new_pair x e past == 0) (serial-most x past)
  where
    by : (b : Bool) → serial x past ≤ length past → serial x past + (if b then 0 else 1) ≤ suc (length past)
    by true h = omega (arith, h)
    by false h = omega (arith, h)

pub pair-most : (x : Side) (k : ℕ) (past : List Entry) → pair_on x k past ≤ 16 * length past + k
pair-most x k [] = omega arith
pair-most x k (e ∷ past) = by (new_pair x e past == k) (pair-most x k past) (serial-most x past)
  where
    by : (b : Bool) → pair_on x k past ≤ 16 * length past + k → serial x past ≤ length past → (if b then pair_number (serial x past + 1) k else pair_on x k past) ≤ 16 * (suc (length past)) + k
    by true h l = omega (arith, h, l)
    by false h l = omega (arith, h, l)

-- how many groups are begun with posts
abbrev begun_in : List Post → ℕ
begun_in posts = length (filter begins_group_in posts)

begun-append : (ps qs : List Post) → begun_in (ps ++ qs) ≡ begun_in ps + begun_in qs
begun-append [] qs = omega arith
begun-append (p ∷ ps) qs = by (begins_group_in p) (begun-append ps qs)
  where
    by : (b : Bool) → begun_in (ps ++ qs) ≡ begun_in ps + begun_in qs
        → length (cond b (p ∷ filter begins_group_in (ps ++ qs)) (filter begins_group_in (ps ++ qs))) ≡ length (cond b (p ∷ filter begins_group_in ps) (filter begins_group_in ps)) + begun_in qs
    by true h = omega (arith, h)
    by false h = h

free-one : (p : Post) → IsFree p → begins_group_in p ≡ false
free-one (Write from link key address len) f = refl
free-one (Cdc from link m) f = refl
free-one (Llc from link m) f = refl
free-one (Clc A s link (ProposalMessage p)) f = refl
free-one (Clc B s link (ProposalMessage p)) f = refl
free-one (Clc A s link (DeclineMessage r)) f = refl
free-one (Clc B s link (DeclineMessage r)) f = refl
free-one (Clc from s link (AcceptMessage o)) f = absurd f
free-one (Clc from s link (ConfirmMessage o)) f = absurd f

free-none : (ps : List Post) → AreFree ps → begun_in ps ≡ 0
free-none [] f = refl
free-none (p ∷ ps) f = ap (λ b. length (cond b (p ∷ filter begins_group_in ps) (filter begins_group_in ps))) (free-one p f.0) ∙ free-none ps f.1

free-few : (ps : List Post) → AreFree ps → begun_in ps ≤ 1
free-few ps f = let n = free-none ps f in omega (arith, n)

one-few : (p : Post) → begun_in (p ∷ []) ≤ 1
one-few p = by (begins_group_in p)
  where
    by : (b : Bool) → length (cond b (p ∷ []) []) ≤ 1
    by true = omega arith
    by false = omega arith

module _ (setup : Setup) (payload : List ℕ) (past : List Entry) where
  verdict-few : (x : Side) (s : ℕ) (m : ClcMessage) (step : ClcStep) → begun_in (clc_posts setup payload x s m past step) ≤ 1
  verdict-few x s m (SendAccept true) = one-few (accept_post setup payload s true (first_link setup past) past)
  verdict-few x s m (SendAccept false) = one-few (accept_post setup payload s false (fewest setup payload past) past)
  verdict-few x s m (SendConfirm first) = one-few (confirm_post setup payload s first (unwrap_or (named_link s past) no_link) past)
  verdict-few x s m AskKey = one-few (rkey_post x (next_free setup payload x past).rmb (peer_of x past) (keys_of x past).keys)
  verdict-few x s m (Decline lack) = one-few (Clc x s None (DeclineMessage (refusal x lack)))
  verdict-few x s m Ready = free-few (ready_posts setup s m past) (ready-free setup s m past)
  verdict-few x s m (Wait hold) = omega arith
  verdict-few x s m Fell = omega arith
  verdict-few x s m Lost = omega arith
  verdict-few x s m (Wrong kind) = omega arith

  front-few : (x : Side) (s : ℕ) (f : Front) → begun_in (front_posts setup payload x s past f) ≤ 1
  front-few x s NoMessage = omega arith
  front-few x s (Faulty fault) = omega arith
  front-few x s (Whole m len) = verdict-few x s m (clc_step setup payload x s m past)

  asked-few : (event : Event) (reply : Reply) → begun_in (asked setup payload past event reply) ≤ 1
  asked-few (Open s) Opened = one-few (proposal_post setup s)
  asked-few (ClcEvent s dir) Idle = omega arith
  asked-few (ClcEvent s dir) reply = front-few (other dir) s (front payload dir s past)
  asked-few (Deliver slot dir) reply = free-few (act_posts setup (other dir) past (act_of (other dir) (option_map (λ c. c.post) (landing slot dir past)) past)) (act-free setup (other dir) past (act_of (other dir) (option_map (λ c. c.post) (landing slot dir past)) past))
  asked-few (Report x slot) Done = free-few (report_posts setup x slot true past) (loss-free setup x slot true (loses slot (peer_of x past)) (flow_of x past) past)
  asked-few Grow (Sent AddLinkSent) = one-few (grow_post (unwrap_or (head (open_slots setup past)) 0) past)
  asked-few (Test x slot) (Sent TestSent) = one-few (test_post x slot past)
  asked-few (Trim x) (Sent DeleteSent) = one-few (trim_post setup payload x past)
  asked-few _ _ = omega arith

  made-few : (before : ℕ) (e : Entry) → IsMade setup payload past before e → begun_in e.posts ≤ 1
  made-few before e m =
      let d : Entry = draft setup payload past before e.event in
      let more : List Post = connection_posts setup payload d past in
      let n = begun-append d.posts more in
      let f = asked-few e.event d.reply in
      let z = free-none more (data-free more (connections-data setup payload d past)) in
      subst (λ ps. begun_in ps ≤ 1) (sym m.posts) (omega (arith, n, f, z))

-- each group is begun with an entry
pub groups-most : (setup : Setup) (payload : List ℕ) (past : List Entry) → IsMadeAll setup payload past → groups_begun past ≤ length past
groups-most setup payload [] m = omega arith
groups-most setup payload (e ∷ past) m = let g = groups-most setup payload past m.1 in let f = made-few setup payload past m.0.0 e m.0.1 in omega (arith, g, f)
