-- Each event of a world of one link that moves ends alone, and what it makes of the two managers and what is posted.
use Rattle.std.proofs.Common.{◌≡◌, ◌∙◌, ℕ, ◌==◌, Bool, true, false, if◌then◌else◌, List, [], ◌∷◌, take, drop, refl, ap, sym, subst}
use Rattle.std.specs.Prelude.{Option, Some, None, option_map, is_some}
use Rattle.smc_num.specs.declared.Side.{Side}
use Rattle.smc_num.specs.declared.Side.TheVariants.{A, B}
use Rattle.smc_num.specs.declared.LinkId.{LinkId}
use Rattle.smc_num.specs.Names.{other, head}
use Rattle.clc_wire.specs.declared.message.ClcMessage.{ClcMessage}
use Rattle.clc_wire.specs.declared.message.ClcMessage.TheVariants.{Proposal as ProposalMessage, Accept as AcceptMessage, Confirm as ConfirmMessage, Decline as DeclineMessage}
use Rattle.rmb_region.specs.Regions.{Buffer}
use Rattle.pipe_model.specs.declared.setup.Setup.{Setup}
use Rattle.pipe_model.specs.declared.event.End.{End}
use Rattle.pipe_model.specs.declared.event.Event.{Event}
use Rattle.pipe_model.specs.declared.event.Event.TheVariants.{Open, Write, Read, Clc, Deliver, Complete}
use Rattle.pipe_model.specs.declared.reply.Reply.{Reply}
use Rattle.pipe_model.specs.declared.reply.Reply.TheVariants.{NameUsed, Idle, Held, Landed, Completed, Dropped, Sent as SentReply, Established}
use Rattle.pipe_model.specs.declared.reply.SentKind.TheVariants.{ConfirmLink as LinkSent}
use Rattle.pipe_model.specs.declared.reply.Hold.{Hold}
use Rattle.pipe_model.specs.declared.post.Post.{Post}
use Rattle.pipe_model.specs.declared.post.Post.TheVariants.{Write as WritePost, Cdc, Llc, Clc as ClcPost}
use Rattle.pipe_model.specs.declared.post.PostRef.{PostRef}
use Rattle.pipe_model.specs.declared.post.Placed.{Placed}
use Rattle.pipe_model.specs.declared.entry.Entry.{Entry}
use Rattle.pipe_model.specs.declared.sent.Sent.{Sent}
use Rattle.pipe_model.specs.declared.verdict.ClcStep.{ClcStep}
use Rattle.pipe_model.specs.declared.verdict.ClcStep.TheVariants.{SendAccept, SendConfirm, AskKey, Wait, Decline, Fell, Ready, Lost, Wrong}
use Rattle.pipe_model.specs.History.{post_at}
use Rattle.pipe_model.specs.Calls.{Call, Writes, Reads}
use Rattle.pipe_model.specs.Fabric.{act_of}
use Rattle.pipe_model.specs.Wires.{landing, unlanded}
use Rattle.pipe_model.specs.Ends.{to_land, to_complete}
use Rattle.pipe_model.specs.Pipe.{Lands, Completes}
use Rattle.pipe_model.specs.Connections.{is_up, end_state, group_on, deeds, call_on, if_own}
use Rattle.pipe_model.specs.Lending.{leaves_handshake, record_of}
use Rattle.pipe_model.specs.Fallback.{Front, NoMessage, Faulty, Whole, front}
use Rattle.pipe_model.specs.Posts.{clc_posts, ready_posts}
use Rattle.pipe_model.specs.Replies.{front_told, step_told, clc_step, clc_told, expects, lands_told, deliver_told}
use Rattle.pipe_model.specs.Lawful.{asked, act_posts, front_posts}
use Rattle.world_core.specs.OneLink.{Stage, IsAtStage, the_link, is_made, llc_of}
use Rattle.world_core.specs.Sockets.{IsWorld}
use Rattle.world_core.specs.Played.{IsPlayed}
use Rattle.world_core.specs.Agreement.{HasOffers, IsShaken}
use Rattle.world_core.specs.Wired.{is_transfer}
use Rattle.world_core.proofs.Landings.{lands-made, lands-unmade, quiet-landed}
use Rattle.world_core.proofs.InHistory.{first-waiting-in}
use Rattle.world_core.specs.Managers.{end_of}
use Rattle.world_core.proofs.Moves.{IsQuiet}
use Rattle.world_core.proofs.QuietEvents.{by-side, entry-of, quiet-write, quiet-read, quiet-complete, quiet-name, quiet-idle-clc, quiet-held-clc, quiet-idle-landing}
use Rattle.world_core.proofs.QuietEntries.{IsCalm}
use Rattle.world_core.proofs.KeyedEnds.{KnowsEnds, up-facts}
use Rattle.world_core.proofs.CallEntries.{IsCalled, IsNothing, nothing-done, is-called, not-called}
use Rattle.world_core.proofs.WireEntries.{IsMessage, IsTaken, IsDone, message-lands, message-completes, not-message}
use Rattle.world_core.proofs.KnownEntries.{LentToUp, knows-ends, offers-of, calm-of}
use Rattle.world_core.proofs.Plain.{and-false}

-- what is held asks for nothing
held-step : (setup : Setup) (payload : List ℕ) (x : Side) (s g : ℕ) (m : ClcMessage) (past : List Entry) (step : ClcStep) (hold : Hold) → step_told g m step ≡ Held hold → clc_posts setup payload x s m past step ≡ []
held-step setup payload x s g m past (SendAccept first) hold e = cc
held-step setup payload x s g m past (SendConfirm true) hold e = cc
held-step setup payload x s g m past (SendConfirm false) hold e = cc
held-step setup payload x s g m past AskKey hold e = cc
held-step setup payload x s g m past (Wait h) hold e = refl
held-step setup payload x s g m past (Decline lack) hold e = cc
held-step setup payload x s g m past Fell hold e = cc
held-step setup payload x s g (ProposalMessage p) past Ready hold e = refl
held-step setup payload x s g (AcceptMessage o) past Ready hold e = refl
held-step setup payload x s g (DeclineMessage r) past Ready hold e = refl
held-step setup payload x s g (ConfirmMessage o) past Ready hold e = by o.first e
  where
    by : (b : Bool) → (if b then SentReply LinkSent else Established) ≡ Held hold → ready_posts setup s (ConfirmMessage o) past ≡ []
    by true e = cc
    by false e = cc
held-step setup payload x s g m past Lost hold e = refl
held-step setup payload x s g m past (Wrong kind) hold e = refl

held-front : (setup : Setup) (payload : List ℕ) (x : Side) (s : ℕ) (past : List Entry) (f : Front) (hold : Hold) → front_told setup payload x s past f ≡ Held hold → front_posts setup payload x s past f ≡ []
held-front setup payload x s past NoMessage hold e = refl
held-front setup payload x s past (Faulty fault) hold e = refl
held-front setup payload x s past (Whole m len) hold e = held-step setup payload x s (group_on s past) m past (clc_step setup payload x s m past) hold e

held-clc : (setup : Setup) (payload : List ℕ) (s : ℕ) (dir : Side) (past : List Entry) (hold : Hold) → clc_told setup payload s dir past ≡ Held hold → asked setup payload past (Clc s dir) (Held hold) ≡ []
held-clc setup payload s dir past hold e = by (expects (end_state (other dir) s past)) e
  where
    by : (b : Bool) → (if b then front_told setup payload (other dir) s past (front payload dir s past) else Idle) ≡ Held hold → front_posts setup payload (other dir) s past (front payload dir s past) ≡ []
    by true e = held-front setup payload (other dir) s past (front payload dir s past) hold e
    by false e = cc

-- what would land is the first that waits
landing-head : (setup : Setup) (stage : Stage) (past : List Entry) (dir : Side) (c : Placed) → IsAtStage setup stage past → landing 1 dir past ≡ Some c → head (unlanded the_link dir past) ≡ Some c
landing-head setup stage past dir c at next = by (is_made stage) refl
  where
    by : (b : Bool) → is_made stage ≡ b → head (unlanded the_link dir past) ≡ Some c
    by true made = sym (lands-made setup stage past dir at made) ∙ next
    by false made = let none : None ≡ Some c = sym (lands-unmade setup stage past dir at made) ∙ next in cc

-- a landing asks for nothing unless it is of an LLC message
no-act : (setup : Setup) (x : Side) (past : List Entry) (o : Option Post) → (p : Post) → o ≡ Some p → llc_of p ≡ None → act_posts setup x past (act_of x o past) ≡ []
no-act setup x past o (WritePost from link key address len) e n = ap (λ q. act_posts setup x past (act_of x q past)) e
no-act setup x past o (Cdc from link m) e n = ap (λ q. act_posts setup x past (act_of x q past)) e
no-act setup x past o (ClcPost from s link m) e n = ap (λ q. act_posts setup x past (act_of x q past)) e
no-act setup x past o (Llc from link m) e n = cc

idle-landing : (setup : Setup) (payload : List ℕ) (x : Side) (past : List Entry) (o : Option Placed) → deliver_told setup payload x past o ≡ Idle → act_posts setup x past (act_of x (option_map (λ c. c.post) o) past) ≡ []
idle-landing setup payload x past None e = refl
idle-landing setup payload x past (Some c) e = by c.post e
  where
    dropped : (b : Bool) (token : ℕ) → (if b then Landed c.at else Dropped token) ≡ Idle → act_posts setup x past (act_of x (Some c.post) past) ≡ []
    dropped true token e = cc
    dropped false token e = cc

    by : (p : Post) → lands_told setup payload x past c p ≡ Idle → act_posts setup x past (act_of x (Some c.post) past) ≡ []
    by (Cdc from link m) e = dropped (is_some (record_of setup payload x m.token past)) m.token e
    by (WritePost from link key address len) e = cc
    by (ClcPost from s link m) e = cc
    by (Llc from link m) e = cc

-- the events that leave no handshake
abbrev stays-in : Event → Reply → Type 0
stays-in event reply = (x : Side) (s : ℕ) → leaves_handshake x s event reply ≡ false

module _ (setup : Setup) (payload : List ℕ) (regions : List Buffer) (stage : Stage) (past : List Entry) (world : IsWorld setup stage past) (lent_up : LentToUp setup payload past) (actor n : ℕ) (posts : List Post) where
  -- an entry that moves ends alone
  module _ (event : Event) (reply : Reply) (played : IsPlayed setup payload (entry-of actor event reply posts ∷ past) n) (shaken : IsShaken setup (entry-of actor event reply posts ∷ past))
      (quiet : IsQuiet (entry-of actor event reply []) past) (none : asked setup payload past event reply ≡ []) (stays : stays-in event reply) where
    calm-now : IsCalm setup payload stage (entry-of actor event reply posts) past
    calm-now = calm-of setup payload stage (entry-of actor event reply posts) past n played shaken world quiet none stays

    knows-now : KnowsEnds setup payload past
    knows-now = let q = shaken.1 in let r = q.1 in knows-ends setup payload past played.0 played.3 r.1 lent_up

    offers-now : HasOffers setup past
    offers-now = let q = shaken.1 in let r = q.1 in offers-of setup past r.1

    quiet-nothing : ((s : ℕ) → deeds payload s event reply past ≡ []) → IsNothing setup payload regions (entry-of actor event reply posts) past
    quiet-nothing d = nothing-done setup payload regions stage (entry-of actor event reply posts) past calm-now knows-now played.0 played.1 none d

    quiet-called : (end : End) (call : Call) → ((s : ℕ) → deeds payload s event reply past ≡ call_on end call s past) → is_transfer call ≡ true → is_up end.side end.s past ≡ true → IsCalled setup payload regions end.side end.s call (entry-of actor event reply posts) past
    quiet-called end call d transfer up =
        let f = up-facts setup payload stage end.side end.s past world knows-now up in
        is-called setup payload regions stage (entry-of actor event reply posts) past calm-now knows-now played.0 played.1 none end call d transfer (offers-now.known (other end.side) end.s (record { link = the_link; offer = f.offer }) f.theirs) up

    quiet-not-called : (end : End) (call : Call) → ((s : ℕ) → deeds payload s event reply past ≡ call_on end call s past) → is_up end.side end.s past ≡ false → IsNothing setup payload regions (entry-of actor event reply posts) past
    quiet-not-called end call d down = not-called setup payload regions stage (entry-of actor event reply posts) past calm-now knows-now played.0 played.1 none end call d down

    quiet-lands : (x : Side) (s : ℕ) (at : PostRef) → IsMessage x s at past → (sent : Sent) → ((t : ℕ) → deeds payload t event reply past ≡ if_own (Lands x) x t (Some at) past)
        → head (to_land (end_of setup payload x s past)) ≡ Some sent → IsTaken setup payload regions x s sent (entry-of actor event reply posts) past
    quiet-lands x s at m sent d first = message-lands setup payload regions stage (entry-of actor event reply posts) past calm-now knows-now played.0 played.1 none offers-now at x s m sent d first

    quiet-completes : (x : Side) (s : ℕ) (at : PostRef) → IsMessage x s at past → (sent : Sent) → ((t : ℕ) → deeds payload t event reply past ≡ if_own (Completes x) x t (Some at) past)
        → head (to_complete (end_of setup payload x s past)) ≡ Some sent → IsDone setup payload regions x s sent (entry-of actor event reply posts) past
    quiet-completes x s at m sent d first = message-completes setup payload regions stage (entry-of actor event reply posts) past calm-now knows-now played.0 played.1 none offers-now at x s m sent d first

  -- what of a played history an entry takes
  abbrev Plays : Event → Reply → Type 0
  Plays event reply = IsPlayed setup payload (entry-of actor event reply posts ∷ past) n × IsShaken setup (entry-of actor event reply posts ∷ past)

  -- a write
  pub wrote : (end : End) (at len : ℕ) (reply : Reply) → Plays (Write end at len) reply → is_up end.side end.s past ≡ true
      → IsCalled setup payload regions end.side end.s (Writes (take len (drop at payload))) (entry-of actor (Write end at len) reply posts) past
  wrote end at len reply p up = quiet-called (Write end at len) reply p.0 p.1 (quiet-write actor past end at len reply) refl
      (by-side (λ x. (s : ℕ) → leaves_handshake x s (Write end at len) reply ≡ false) (λ s. refl) (λ s. refl)) end (Writes (take len (drop at payload))) (λ s. refl) refl up

  pub wrote-not : (end : End) (at len : ℕ) (reply : Reply) → Plays (Write end at len) reply → is_up end.side end.s past ≡ false → IsNothing setup payload regions (entry-of actor (Write end at len) reply posts) past
  wrote-not end at len reply p down = quiet-not-called (Write end at len) reply p.0 p.1 (quiet-write actor past end at len reply) refl
      (by-side (λ x. (s : ℕ) → leaves_handshake x s (Write end at len) reply ≡ false) (λ s. refl) (λ s. refl)) end (Writes (take len (drop at payload))) (λ s. refl) down

  -- a read
  pub did-read : (end : End) (len : ℕ) (reply : Reply) → Plays (Read end len) reply → is_up end.side end.s past ≡ true → IsCalled setup payload regions end.side end.s (Reads len) (entry-of actor (Read end len) reply posts) past
  did-read end len reply p up = quiet-called (Read end len) reply p.0 p.1 (quiet-read actor past end len reply) refl
      (by-side (λ x. (s : ℕ) → leaves_handshake x s (Read end len) reply ≡ false) (λ s. refl) (λ s. refl)) end (Reads len) (λ s. refl) refl up

  pub did-not-read : (end : End) (len : ℕ) (reply : Reply) → Plays (Read end len) reply → is_up end.side end.s past ≡ false → IsNothing setup payload regions (entry-of actor (Read end len) reply posts) past
  did-not-read end len reply p down = quiet-not-called (Read end len) reply p.0 p.1 (quiet-read actor past end len reply) refl
      (by-side (λ x. (s : ℕ) → leaves_handshake x s (Read end len) reply ≡ false) (λ s. refl) (λ s. refl)) end (Reads len) (λ s. refl) down

  -- a socket that was opened before
  pub open-refused : (s : ℕ) → Plays (Open s) NameUsed → IsNothing setup payload regions (entry-of actor (Open s) NameUsed posts) past
  open-refused s p = quiet-nothing (Open s) NameUsed p.0 p.1 (quiet-name actor past s) refl
      (by-side (λ x. (t : ℕ) → leaves_handshake x t (Open s) NameUsed ≡ false) (λ t. refl) (λ t. refl)) (λ t. refl)

  -- no message that waits, or one that is held
  pub clc-idle : (s : ℕ) (dir : Side) → Plays (Clc s dir) Idle → IsNothing setup payload regions (entry-of actor (Clc s dir) Idle posts) past
  clc-idle s dir p = quiet-nothing (Clc s dir) Idle p.0 p.1 (quiet-idle-clc actor past s dir) refl (stays dir) (λ t. refl)
    where
      stays : (d : Side) → stays-in (Clc s d) Idle
      stays A = by-side (λ x. (t : ℕ) → leaves_handshake x t (Clc s A) Idle ≡ false) (λ t. refl) (λ t. and-false (t == s))
      stays B = by-side (λ x. (t : ℕ) → leaves_handshake x t (Clc s B) Idle ≡ false) (λ t. and-false (t == s)) (λ t. refl)

  pub clc-held : (s : ℕ) (hold : Hold) → Plays (Clc s A) (Held hold) → IsNothing setup payload regions (entry-of actor (Clc s A) (Held hold) posts) past
  clc-held s hold p = let m = p.0 in let made = m.1 in
      quiet-nothing (Clc s A) (Held hold) p.0 p.1 (quiet-held-clc actor past s hold) (held-clc setup payload s A past hold (sym made.reply))
      (by-side (λ x. (t : ℕ) → leaves_handshake x t (Clc s A) (Held hold) ≡ false) (λ t. refl) (λ t. and-false (t == s))) (λ t. refl)

  -- no post that would land, or complete
  pub landing-idle : (slot : ℕ) (dir : Side) → Plays (Deliver slot dir) Idle → IsNothing setup payload regions (entry-of actor (Deliver slot dir) Idle posts) past
  landing-idle slot dir p = let m = p.0 in let made = m.1 in
      quiet-nothing (Deliver slot dir) Idle p.0 p.1 (quiet-idle-landing actor past slot dir) (idle-landing setup payload (other dir) past (landing slot dir past) (sym made.reply))
      (by-side (λ x. (t : ℕ) → leaves_handshake x t (Deliver slot dir) Idle ≡ false) (λ t. refl) (λ t. refl)) (λ t. refl)

  pub completion-idle : (slot : ℕ) (dir : Side) → Plays (Complete slot dir) Idle → IsNothing setup payload regions (entry-of actor (Complete slot dir) Idle posts) past
  completion-idle slot dir p = quiet-nothing (Complete slot dir) Idle p.0 p.1 (quiet-complete actor past slot dir Idle) refl
      (by-side (λ x. (t : ℕ) → leaves_handshake x t (Complete slot dir) Idle ≡ false) (λ t. refl) (λ t. refl)) (λ t. refl)

  -- a completion of a write, or of a CDC message
  pub write-completed : (slot : ℕ) (dir from : Side) (at : PostRef) (link : LinkId) (key address len : ℕ) → post_at at past ≡ Some (WritePost from link key address len) → Plays (Complete slot dir) (Completed at)
      → IsNothing setup payload regions (entry-of actor (Complete slot dir) (Completed at) posts) past
  write-completed slot dir from at link key address len e p = quiet-nothing (Complete slot dir) (Completed at) p.0 p.1 (quiet-complete actor past slot dir (Completed at)) refl
      (by-side (λ x. (t : ℕ) → leaves_handshake x t (Complete slot dir) (Completed at) ≡ false) (λ t. refl) (λ t. refl)) (λ t. not-message dir from link key address len at past (Completes dir) t e)

  pub cdc-completed : (slot : ℕ) (dir : Side) (s : ℕ) (at : PostRef) (sent : Sent) → IsMessage dir s at past → head (to_complete (end_of setup payload dir s past)) ≡ Some sent → Plays (Complete slot dir) (Completed at)
      → IsDone setup payload regions dir s sent (entry-of actor (Complete slot dir) (Completed at) posts) past
  cdc-completed slot dir s at sent m first p = quiet-completes (Complete slot dir) (Completed at) p.0 p.1 (quiet-complete actor past slot dir (Completed at)) refl
      (by-side (λ x. (t : ℕ) → leaves_handshake x t (Complete slot dir) (Completed at) ≡ false) (λ t. refl) (λ t. refl)) dir s at m sent (λ t. refl) first

  -- a landing of a write, or of a CDC message
  pub write-landed : (dir from : Side) (c : Placed) (link : LinkId) (key address len : ℕ) → landing 1 dir past ≡ Some c → c.post ≡ WritePost from link key address len → Plays (Deliver 1 dir) (Landed c.at)
      → IsNothing setup payload regions (entry-of actor (Deliver 1 dir) (Landed c.at) posts) past
  write-landed dir from c link key address len next e p =
      let first = landing-head setup stage past dir c world.link next in
      let plain : llc_of c.post ≡ None = ap (λ q. llc_of q) e in
      quiet-nothing (Deliver 1 dir) (Landed c.at) p.0 p.1 (quiet-landed setup stage actor past dir c world.link first plain)
      (no-act setup (other dir) past (option_map (λ c. c.post) (landing 1 dir past)) c.post (ap (λ o. option_map (λ (c : Placed). c.post) o) next) plain)
      (by-side (λ x. (t : ℕ) → leaves_handshake x t (Deliver 1 dir) (Landed c.at) ≡ false) (λ t. refl) (λ t. refl))
      (λ t. not-message dir from link key address len c.at past (Lands dir) t (first-waiting-in the_link dir past c first ∙ ap (λ q. Some q) e))

  pub cdc-landed : (dir : Side) (s : ℕ) (c : Placed) (sent : Sent) → landing 1 dir past ≡ Some c → IsMessage dir s c.at past → head (to_land (end_of setup payload dir s past)) ≡ Some sent → Plays (Deliver 1 dir) (Landed c.at)
      → IsTaken setup payload regions dir s sent (entry-of actor (Deliver 1 dir) (Landed c.at) posts) past
  cdc-landed dir s c sent next m first p =
      let at_head = landing-head setup stage past dir c world.link next in
      let plain : llc_of c.post ≡ None = cdc-plain c.post (Cdc dir m.link m.message) (sym (first-waiting-in the_link dir past c at_head) ∙ m.post) refl in
      quiet-lands (Deliver 1 dir) (Landed c.at) p.0 p.1 (quiet-landed setup stage actor past dir c world.link at_head plain)
      (no-act setup (other dir) past (option_map (λ c. c.post) (landing 1 dir past)) c.post (ap (λ o. option_map (λ (c : Placed). c.post) o) next) plain)
      (by-side (λ x. (t : ℕ) → leaves_handshake x t (Deliver 1 dir) (Landed c.at) ≡ false) (λ t. refl) (λ t. refl))
      dir s c.at m sent (λ t. refl) first
    where
      cdc-plain : (p q : Post) → Some p ≡ Some q → llc_of q ≡ None → llc_of p ≡ None
      cdc-plain p q e f = subst (λ r. llc_of r ≡ None) (is p q e) f
        where
          is : (p q : Post) → Some p ≡ Some q → q ≡ p
          is p q e = cc
