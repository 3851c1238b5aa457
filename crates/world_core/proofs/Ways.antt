-- Which of the three ways an entry goes: calls and CLC messages leave the wires alone, a delivery and a completion move one post.
use Rattle.std.proofs.Common.{◌≡◌, ◌∙◌, ◌==◌, ◌⊎◌, inl, inr, ℕ, Bool, true, false, if◌then◌else◌, List, [], ◌∷◌, length, take, drop, refl, ap, sym, subst, ◌&&◌}
use Rattle.std.specs.Prelude.{Option, Some, None, is_some, option_and_then, option_map}
use Rattle.smc_num.specs.declared.Side.{Side}
use Rattle.smc_num.specs.declared.Side.TheVariants.{A, B}
use Rattle.smc_num.specs.declared.LinkId.{LinkId}
use Rattle.smc_num.specs.Names.{other, same_link, head}
use Rattle.pipe_model.specs.declared.setup.Setup.{Setup}
use Rattle.pipe_model.specs.declared.event.Event.{Event}
use Rattle.pipe_model.specs.declared.event.End.{End}
use Rattle.pipe_model.specs.declared.event.Event.TheVariants.{Open, Write, Read, Clc, Deliver, Complete}
use Rattle.pipe_model.specs.declared.reply.Reply.{Reply}
use Rattle.pipe_model.specs.declared.reply.Reply.TheVariants.{Idle, Landed, Dropped, Completed}
use Rattle.pipe_model.specs.declared.post.Post.{Post}
use Rattle.pipe_model.specs.declared.post.Post.TheVariants.{Write as WritePost, Cdc, Llc, Clc as ClcPost}
use Rattle.pipe_model.specs.declared.post.PostRef.{PostRef}
use Rattle.pipe_model.specs.declared.post.Placed.{Placed}
use Rattle.pipe_model.specs.declared.entry.Entry.{Entry}
use Rattle.pipe_model.specs.Words.{passes}
use Rattle.pipe_model.specs.Calls.{Call, Writes, Reads}
use Rattle.pipe_model.specs.Fabric.{latest, is_latest}
use Rattle.pipe_model.specs.Wires.{is_cut, some_reported, unlanded, uncompleted, landing, landing_on, completing, completing_on, completed_told, if_latest}
use Rattle.pipe_model.specs.Lending.{record_of}
use Rattle.pipe_model.specs.Pipe.{Item, Calls, Lands, Completes}
use Rattle.pipe_model.specs.Connections.{is_up, call_on, is_own, if_own}
use Rattle.pipe_model.specs.Replies.{told, lands_told, deliver_told}
use Rattle.pipe_model.specs.Lawful.{reply_of}
use Rattle.pipe_model.specs.Fits.{Fits}
use Rattle.world_core.specs.Played.{IsMade}
use Rattle.world_core.specs.OneLink.{the_link}
use Rattle.world_core.specs.Wired.{EachItem, passes_by}
use Rattle.world_core.specs.WireSteps.{Way}
use Rattle.world_core.specs.Agreement.{IsOnlyLink}
use Rattle.world_core.proofs.Plain.{or-right}

abbrev pub Chosen : Bool → ℕ → ℕ
Chosen b n = if b then n else 0

if-zero : (link : LinkId) (past : List Entry) → if_latest link past 0 ≡ 0
if-zero link past = by (is_latest link past)
  where
    by : (b : Bool) → Chosen b 0 ≡ 0
    by true = refl
    by false = refl

-- items of one test
pub call-items : (test : Item → Bool) (end : End) (call : Call) (s : ℕ) (past : List Entry) → test (Calls end.side call) ≡ true → EachItem test (call_on end call s past)
call-items test end call s past e = by ((s == end.s) && is_up end.side s past)
  where
    by : (b : Bool) → EachItem test (if b then Calls end.side call ∷ [] else [])
    by true = (e, tt)
    by false = tt

pub own-items : (test : Item → Bool) (item : Item) (x : Side) (s : ℕ) (at : Option PostRef) (past : List Entry) → test item ≡ true → EachItem test (if_own item x s at past)
own-items test item x s at past e = by (passes (is_own x s past) at)
  where
    by : (b : Bool) → EachItem test (if b then item ∷ [] else [])
    by true = (e, tt)
    by false = tt

-- what a delivery and a completion find
record Found (what : Option Placed) (queue : List Placed) (past : List Entry) : Type 0 where
  pub first : Placed
  pub rest : List Placed
  pub is : what ≡ Some first
  pub queue_is : queue ≡ first ∷ rest
  pub latest_is : is_latest the_link past ≡ true

found-by : (queue : List Placed) (past : List Entry) (what : Option Placed) → is_latest the_link past ≡ true → what ≡ head queue → (what ≡ None) ⊎ Found what queue past
found-by [] past what l e = inl e
found-by (c ∷ cs) past what l e = inr (record { first = c; rest = cs; is = e; queue_is = refl; latest_is = l })

is-latest : (past : List Entry) → latest 1 past ≡ Some the_link → is_latest the_link past ≡ true
is-latest past e = ap (λ o. passes (same_link the_link) o) e

landing-found : (d : Side) (past : List Entry) → IsOnlyLink past → (landing 1 d past ≡ None) ⊎ Found (landing 1 d past) (unlanded the_link d past) past
landing-found d past (inl e) = inl (ap (λ o. option_and_then (λ link. landing_on link d past) o) e)
landing-found d past (inr e) =
    found-by (unlanded the_link d past) past (landing 1 d past) (is-latest past e.0)
    (ap (λ o. option_and_then (λ link. landing_on link d past) o) e.0 ∙ ap (λ b. if b then None else head (unlanded the_link d past)) e.1)

completing-found : (d : Side) (past : List Entry) → IsOnlyLink past → (completing 1 d past ≡ None) ⊎ Found (completing 1 d past) (uncompleted the_link d past) past
completing-found d past (inl e) = inl (ap (λ o. option_and_then (λ link. completing_on link d past) o) e)
completing-found d past (inr e) =
    found-by (uncompleted the_link d past) past (completing 1 d past) (is-latest past e.0)
    (ap (λ o. option_and_then (λ link. completing_on link d past) o) e.0 ∙
    ap (λ b. if b then None else head (uncompleted the_link d past)) (or-right (is_cut the_link past) (some_reported the_link past) e.1))

-- a landing is told as landed or as dropped
lands-as : (setup : Setup) (payload : List ℕ) (y : Side) (past : List Entry) (c : Placed) (post : Post) → (lands_told setup payload y past c post ≡ Landed c.at) ⊎ ((token : ℕ) × (lands_told setup payload y past c post ≡ Dropped token))
lands-as setup payload y past c (Cdc from link m) = by (is_some (record_of setup payload y m.token past))
  where
    by : (b : Bool) → ((if b then Landed c.at else Dropped m.token) ≡ Landed c.at) ⊎ ((token : ℕ) × ((if b then Landed c.at else Dropped m.token) ≡ Dropped token))
    by true = inl refl
    by false = inr (m.token, refl)
lands-as setup payload y past c (WritePost from link key address len) = inl refl
lands-as setup payload y past c (Llc from link m) = inl refl
lands-as setup payload y past c (ClcPost from s link m) = inl refl

module _ (payload : List ℕ) (past : List Entry) (e : Entry) where
  abbrev As : Event → Reply → Entry
  As event reply = record e { event = event; reply = reply }

  abbrev WayAs : Side → Event → Reply → Type 0
  WayAs x event reply = Way payload the_link x (As event reply) past

  idle-deliver : (x d : Side) → WayAs x (Deliver 1 d) Idle
  idle-deliver A A = inl (record { leaves = if-zero the_link past; lands = if-zero the_link past; completes = if-zero the_link past }, λ s. tt)
  idle-deliver A B = inl (record { leaves = if-zero the_link past; lands = if-zero the_link past; completes = if-zero the_link past }, λ s. tt)
  idle-deliver B A = inl (record { leaves = if-zero the_link past; lands = if-zero the_link past; completes = if-zero the_link past }, λ s. tt)
  idle-deliver B B = inl (record { leaves = if-zero the_link past; lands = if-zero the_link past; completes = if-zero the_link past }, λ s. tt)

  idle-complete : (x d : Side) → WayAs x (Complete 1 d) Idle
  idle-complete A A = inl (record { leaves = if-zero the_link past; lands = if-zero the_link past; completes = if-zero the_link past }, λ s. tt)
  idle-complete A B = inl (record { leaves = if-zero the_link past; lands = if-zero the_link past; completes = if-zero the_link past }, λ s. tt)
  idle-complete B A = inl (record { leaves = if-zero the_link past; lands = if-zero the_link past; completes = if-zero the_link past }, λ s. tt)
  idle-complete B B = inl (record { leaves = if-zero the_link past; lands = if-zero the_link past; completes = if-zero the_link past }, λ s. tt)

  One : is_latest the_link past ≡ true → if_latest the_link past 1 ≡ 1
  One l = ap (λ b. Chosen b 1) l

  landed-way : (x d : Side) (f : Found (landing 1 d past) (unlanded the_link d past) past) → WayAs x (Deliver 1 d) (Landed f.first.at)
  landed-way A A f = inr (inl (record { first = f.first; rest = f.rest; waiting = f.queue_is; leaves = One f.latest_is; lands = One f.latest_is; completes = if-zero the_link past }, λ s. refl))
  landed-way A B f = inl (record { leaves = if-zero the_link past; lands = if-zero the_link past; completes = if-zero the_link past }, λ s. own-items (passes_by A) (Lands B) B s (Some f.first.at) past refl)
  landed-way B A f = inl (record { leaves = if-zero the_link past; lands = if-zero the_link past; completes = if-zero the_link past }, λ s. own-items (passes_by B) (Lands A) A s (Some f.first.at) past refl)
  landed-way B B f = inr (inl (record { first = f.first; rest = f.rest; waiting = f.queue_is; leaves = One f.latest_is; lands = One f.latest_is; completes = if-zero the_link past }, λ s. refl))

  dropped-way : (x d : Side) (token : ℕ) (f : Found (landing 1 d past) (unlanded the_link d past) past) → WayAs x (Deliver 1 d) (Dropped token)
  dropped-way A A token f = inr (inl (record { first = f.first; rest = f.rest; waiting = f.queue_is; leaves = One f.latest_is; lands = One f.latest_is; completes = if-zero the_link past }, λ s. ap (λ o. if_own (Lands A) A s (option_map (λ c. c.at) o) past) f.is))
  dropped-way A B token f = inl (record { leaves = if-zero the_link past; lands = if-zero the_link past; completes = if-zero the_link past }, λ s. own-items (passes_by A) (Lands B) B s (option_map (λ c. c.at) (landing 1 B past)) past refl)
  dropped-way B A token f = inl (record { leaves = if-zero the_link past; lands = if-zero the_link past; completes = if-zero the_link past }, λ s. own-items (passes_by B) (Lands A) A s (option_map (λ c. c.at) (landing 1 A past)) past refl)
  dropped-way B B token f = inr (inl (record { first = f.first; rest = f.rest; waiting = f.queue_is; leaves = One f.latest_is; lands = One f.latest_is; completes = if-zero the_link past }, λ s. ap (λ o. if_own (Lands B) B s (option_map (λ c. c.at) o) past) f.is))

  completed-way : (x d : Side) (f : Found (completing 1 d past) (uncompleted the_link d past) past) → WayAs x (Complete 1 d) (Completed f.first.at)
  completed-way A A f = inr (inr (record { first = f.first; rest = f.rest; waiting = f.queue_is; leaves = if-zero the_link past; lands = if-zero the_link past; completes = One f.latest_is }, λ s. refl))
  completed-way A B f = inl (record { leaves = if-zero the_link past; lands = if-zero the_link past; completes = if-zero the_link past }, λ s. own-items (passes_by A) (Completes B) B s (Some f.first.at) past refl)
  completed-way B A f = inl (record { leaves = if-zero the_link past; lands = if-zero the_link past; completes = if-zero the_link past }, λ s. own-items (passes_by B) (Completes A) A s (Some f.first.at) past refl)
  completed-way B B f = inr (inr (record { first = f.first; rest = f.rest; waiting = f.queue_is; leaves = if-zero the_link past; lands = if-zero the_link past; completes = One f.latest_is }, λ s. refl))

  deliver-way : (setup : Setup) (x d : Side) (reply : Reply) → reply ≡ deliver_told setup payload (other d) past (landing 1 d past) → (landing 1 d past ≡ None) ⊎ Found (landing 1 d past) (unlanded the_link d past) past → WayAs x (Deliver 1 d) reply
  deliver-way setup x d reply r (inl n) = subst (λ q. WayAs x (Deliver 1 d) q) (sym (r ∙ ap (λ o. deliver_told setup payload (other d) past o) n)) (idle-deliver x d)
  deliver-way setup x d reply r (inr f) = by (lands-as setup payload (other d) past f.first f.first.post)
    where
      told_is : reply ≡ lands_told setup payload (other d) past f.first f.first.post
      told_is = r ∙ ap (λ o. deliver_told setup payload (other d) past o) f.is

      by : (lands_told setup payload (other d) past f.first f.first.post ≡ Landed f.first.at) ⊎ ((token : ℕ) × (lands_told setup payload (other d) past f.first f.first.post ≡ Dropped token)) → WayAs x (Deliver 1 d) reply
      by (inl q) = subst (λ p. WayAs x (Deliver 1 d) p) (sym (told_is ∙ q)) (landed-way x d f)
      by (inr q) = subst (λ p. WayAs x (Deliver 1 d) p) (sym (told_is ∙ q.1)) (dropped-way x d q.0 f)

  complete-way : (x d : Side) (reply : Reply) → reply ≡ completed_told (completing 1 d past) → (completing 1 d past ≡ None) ⊎ Found (completing 1 d past) (uncompleted the_link d past) past → WayAs x (Complete 1 d) reply
  complete-way x d reply r (inl n) = subst (λ q. WayAs x (Complete 1 d) q) (sym (r ∙ ap (λ o. completed_told o) n)) (idle-complete x d)
  complete-way x d reply r (inr f) = subst (λ q. WayAs x (Complete 1 d) q) (sym (r ∙ ap (λ o. completed_told o) f.is)) (completed-way x d f)

  way-as : (setup : Setup) (before : ℕ) (x : Side) (event : Event) (reply : Reply) → IsOnlyLink past → Fits setup (length payload) event → reply ≡ reply_of before (told setup payload past event) → WayAs x event reply
  way-as setup before x (Open s) reply o b r = inl (record { leaves = if-zero the_link past; lands = if-zero the_link past; completes = if-zero the_link past }, λ t. tt)
  way-as setup before x (Clc s dir) reply o b r = inl (record { leaves = if-zero the_link past; lands = if-zero the_link past; completes = if-zero the_link past }, λ t. tt)
  way-as setup before x (Write end at len) reply o b r = inl (record { leaves = if-zero the_link past; lands = if-zero the_link past; completes = if-zero the_link past }, λ t. call-items (passes_by x) end (Writes (take len (drop at payload))) t past refl)
  way-as setup before x (Read end len) reply o b r = inl (record { leaves = if-zero the_link past; lands = if-zero the_link past; completes = if-zero the_link past }, λ t. call-items (passes_by x) end (Reads len) t past refl)
  way-as setup before x (Deliver slot d) reply o b r =
      subst (λ k. WayAs x (Deliver k d) reply) (sym b) (deliver-way setup x d reply (r ∙ ap (λ k. reply_of before (told setup payload past (Deliver k d))) b) (landing-found d past o))
  way-as setup before x (Complete slot d) reply o b r =
      subst (λ k. WayAs x (Complete k d) reply) (sym b) (complete-way x d reply (r ∙ ap (λ k. reply_of before (told setup payload past (Complete k d))) b) (completing-found d past o))
  way-as setup before x _ reply o b r = absurd b

  -- every entry of a played history goes one of these ways
  pub way : (setup : Setup) (before : ℕ) (x : Side) → IsOnlyLink past → IsMade setup payload past before e → Way payload the_link x e past
  way setup before x o m = way-as setup before x e.event e.reply o m.built m.reply
