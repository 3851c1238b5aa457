-- What is declined is declined for a lack that holds, over every list of entries: the verdict on a message names no other.
use Rattle.std.proofs.Common.{◌≡◌, ◌==◌, ◌&&◌, ◌||◌, not, ℕ, ◌-◌, Bool, true, false, if◌then◌else◌, List, [], ◌∷◌, length, refl, ap, sym, subst, arith, ◌∙◌}
use Rattle.std.proofs.lemmas.Bool.{eq-eqb, eqb-true}
use Rattle.std.specs.Prelude.{◌≢◌, Option, Some, None, is_some, slice_index_or, nat_lt, take, drop, IsTrue}
use Rattle.smc_num.specs.declared.Side.{Side}
use Rattle.smc_num.specs.declared.Side.TheVariants.{A, B}
use Rattle.smc_num.specs.Names.{other, same_side, has, head}
use Rattle.smc_num.specs.Links.{is_live, phase_at}
use Rattle.clc_wire.specs.declared.offer.Offer.{Offer}
use Rattle.clc_wire.specs.declared.proposal.Proposal.{Proposal}
use Rattle.clc_wire.specs.declared.message.ClcMessage.{ClcMessage}
use Rattle.clc_wire.specs.declared.message.ClcMessage.TheVariants.{Proposal as ProposalMessage, Accept as AcceptMessage, Confirm as ConfirmMessage, Decline as DeclineMessage}
use Rattle.pipe_model.specs.declared.verdict.ClcStep.{ClcStep}
use Rattle.pipe_model.specs.declared.verdict.ClcStep.TheVariants.{SendAccept, SendConfirm, AskKey, Wait, Decline, Fell, Ready, Lost, Wrong}
use Rattle.pipe_model.specs.declared.verdict.Lacks.{Lacks}
use Rattle.pipe_model.specs.declared.reply.Hold.TheVariants.{FirstContact as FirstContactHold, AddLink as AddLinkHold, ConfirmRkey as ConfirmRkeyHold, DeleteRkey as DeleteRkeyHold, TestLink as TestLinkHold, OldGroup}
use Rattle.pipe_model.specs.declared.reply.Lack.{Lack}
use Rattle.pipe_model.specs.declared.reply.Lack.TheVariants.{NotCapable, NoSubnet, NoServerElement, NoClientElement, NoSlot, GroupLost, Raw as RawLack}
use Rattle.pipe_model.specs.declared.reply.SentKind.TheVariants.{Accept as AcceptSent, ConfirmLink as LinkSent, AddLink as AddLinkSent, TestLink as TestSent, DeleteRkey as DeleteSent, Confirm as ConfirmKind}
use Rattle.pipe_model.specs.declared.reply.ResetCause.{ResetCause}
use Rattle.pipe_model.specs.declared.event.End.{End as EndName}
use Rattle.pipe_model.specs.declared.event.Event.{Event}
use Rattle.pipe_model.specs.declared.event.Event.TheVariants.{Open, Raw, Write, Read, Finish, Close, Abort, Await, Move, Clc, Deliver, Complete, Swallow, Cut, Heal, Report, Grow, Test, Trim}
use Rattle.pipe_model.specs.declared.reply.Reply.{Reply}
use Rattle.pipe_model.specs.declared.reply.Reply.TheVariants.{Opened, NameUsed, Wrote, Full, Empty, Ended, End, Idle, Done, Sent, Established, Held, FellBack, Reset, Landed, Dropped, Declined, Moved, GroupEnded}
use Rattle.pipe_model.specs.declared.post.Post.{Post}
use Rattle.pipe_model.specs.declared.post.Post.TheVariants.{Write as WritePost, Cdc, Llc, Clc as ClcPost}
use Rattle.pipe_model.specs.declared.post.Placed.{Placed}
use Rattle.pipe_model.specs.declared.setup.Setup.{Setup}
use Rattle.pipe_model.specs.declared.entry.Entry.{Entry}
use Rattle.pipe_model.specs.Words.{is_nil, element_size, subnet_of, is_capable}
use Rattle.pipe_model.specs.declared.closing.Phase.{Phase}
use Rattle.pipe_model.specs.Closing.{Open as OpenPhase, Finished, Closing, ClosePosted, CloseDone, Resetting, AbortPosted, AbortDone, GroupGone, cause_of, is_closing, finish_told, close_told, abort_told}
use Rattle.pipe_model.specs.Calls.{Call, Writes, Reads, Finishes, Closes, Aborts, Awaits, Moves, Told, Plain, Hands, half_told, is_ended, is_waiting, read_told}
use Rattle.pipe_model.specs.Ends.{Half, window, unread, is_due_for_move}
use Rattle.pipe_model.specs.Pipe.{half}
use Rattle.pipe_model.specs.Fabric.{Peer, group_of, flow_of, table_of, path_up, loses, loses_group_with}
use Rattle.pipe_model.specs.Flows.{Flow, is_deleting, is_asked, is_adding, is_first_contact}
use Rattle.pipe_model.specs.Connections.{EndState, NoEnd, WaitsProposal, WaitsAnswer, WaitsConfirm, WaitsLink, IsUp, HasFallen, WasReset, end_state, early_state, after_clc, after_raw, after_event, after_loss, is_up, group_on}
use Rattle.pipe_model.specs.Lending.{free_places, pipe_of, record_of}
use Rattle.pipe_model.specs.Wires.{landing, completing, swallowed, completed_told}
use Rattle.pipe_model.specs.Fallback.{Front, NoMessage, Faulty, Whole, front, Queues, queues, fallen_write, fallen_read, has_finished, is_opened, is_raw, stream, stream_room}
use Rattle.pipe_model.specs.Handshake.{lacks, verdict, slots_up, on_proposal, on_later_accept, on_first_accept, key_step}
use Rattle.pipe_model.specs.Posts.{peer_of, trimmed}
use Rattle.pipe_model.specs.Replies.{told, clc_step, front_told, step_told, ready_told, expects, deliver_told, lands_told, end_told, fallen_told, waiting_told, lost_told, standing_at, dead_at, open_slots, grow_to, is_asking_or_waiting}
use Rattle.pipe_model.specs.Lawful.{reply_of}
use Rattle.pipe_model.specs.Causes.{IsElsewhere, IsOfOtherGroup, IsLacking, DeclinesForLack}

-- whether an answer is that something is declined
abbrev declines : Reply → Bool
declines (Declined lack) = true
declines _ = false

abbrev is-declined : Told → Bool
is-declined (Plain reply) = declines reply
is-declined (Hands bytes) = false

neither : (b : Bool) (p q : Reply) → declines p ≡ false → declines q ≡ false → declines (if b then p else q) ≡ false
neither true p q e f = e
neither false p q e f = f

neither-told : (b : Bool) (p q : Told) → is-declined p ≡ false → is-declined q ≡ false → is-declined (if b then p else q) ≡ false
neither-told true p q e f = e
neither-told false p q e f = f

-- no call is declined
finish-not : (p : Phase) → declines (finish_told p) ≡ false
finish-not OpenPhase = refl
finish-not p = refl

close-not : (p : Phase) → declines (close_told p) ≡ false
close-not OpenPhase = refl
close-not Finished = refl
close-not p = refl

abort-not : (p : Phase) → declines (abort_told p) ≡ false
abort-not OpenPhase = refl
abort-not Finished = refl
abort-not p = refl

up-call : (size : ℕ) (call : Call) (h : Half) (out : List ℕ) (cause : Option ResetCause) → is-declined (half_told size call h out cause) ≡ false
up-call size (Writes bytes) h out None = neither (is_ended h) Ended _ refl (neither (is_nil bytes) (Wrote 0) _ refl (neither (window size h == 0) Full _ refl refl))
up-call size (Reads n) h out None = neither-told (is_closing h.phase) (Plain Ended) _ refl (neither-told (n == 0) (Hands []) _ refl (neither-told (nat_lt 0 (unread h)) (Hands _) _ refl (neither-told (h.taken.done || h.taken.closed) (Plain End) (Plain Empty) refl refl)))
up-call size Finishes h out None = finish-not h.phase
up-call size Closes h out None = close-not h.phase
up-call size Aborts h out None = abort-not h.phase
up-call size Awaits h out None = neither (is_waiting (read_told 1 h out)) Idle Done refl refl
up-call size Moves h out None = neither (is_due_for_move h) (Moved _ _) Idle refl refl
up-call size Awaits h out (Some cause) = refl
up-call size Moves h out (Some cause) = neither (is_due_for_move h) (Moved _ _) Idle refl refl
up-call size call h out (Some cause) = refl

fallen-read : (done : Bool) (held : List ℕ) (len : ℕ) (phase : Phase) → is-declined (fallen_read done held len phase) ≡ false
fallen-read done held len phase = neither-told (is_closing phase) (Plain Ended) _ refl (neither-told (len == 0) (Hands []) _ refl (neither-told (nat_lt 0 (length held)) (Hands _) _ refl (neither-told done (Plain End) (Plain Empty) refl refl)))

fallen-call : (call : Call) (q : Queues) (cause : Option ResetCause) → is-declined (fallen_told call q cause) ≡ false
fallen-call (Writes bytes) q None = neither (has_finished q.phase || q.peer_closed) Ended _ refl (neither (length bytes == 0) (Wrote 0) _ refl (neither (q.room == 0) Full _ refl refl))
fallen-call (Reads n) q None = fallen-read q.peer_done q.held n q.phase
fallen-call Finishes q None = finish-not q.phase
fallen-call Closes q None = close-not q.phase
fallen-call Aborts q None = abort-not q.phase
fallen-call Awaits q None = neither (is_waiting (fallen_read q.peer_done q.held 1 q.phase)) Idle Done refl refl
fallen-call Moves q None = refl
fallen-call Awaits q (Some cause) = refl
fallen-call Moves q (Some cause) = refl
fallen-call call q (Some cause) = refl

waiting-call : (call : Call) → declines (waiting_told call) ≡ false
waiting-call Awaits = refl
waiting-call Moves = refl
waiting-call call = refl

lost-call : (cause : ResetCause) (call : Call) → declines (lost_told cause call) ≡ false
lost-call cause Awaits = refl
lost-call cause Moves = refl
lost-call cause call = refl

call-not : (setup : Setup) (payload : List ℕ) (end : EndName) (call : Call) (past : List Entry) (state : EndState) → is-declined (end_told setup payload end call past state) ≡ false
call-not setup payload end call past NoEnd = refl
call-not setup payload end call past IsUp =
    let p = pipe_of setup payload (group_on end.s past) end.s past in
    up-call (element_size setup) call (half end.side p) (half (other end.side) p).out (cause_of (half end.side p).phase)
call-not setup payload end call past HasFallen = let q : Queues = queues payload end.side end.s past in fallen-call call q (cause_of q.phase)
call-not setup payload end call past (WasReset cause) = lost-call cause call
call-not setup payload end call past WaitsProposal = waiting-call call
call-not setup payload end call past WaitsAnswer = waiting-call call
call-not setup payload end call past WaitsConfirm = waiting-call call
call-not setup payload end call past WaitsLink = waiting-call call

-- nor what the wires and the flows are asked
complete-not : (o : Option Placed) → declines (completed_told o) ≡ false
complete-not None = refl
complete-not (Some c) = refl

land-not : (setup : Setup) (payload : List ℕ) (x : Side) (past : List Entry) (c : Placed) (post : Post) → declines (lands_told setup payload x past c post) ≡ false
land-not setup payload x past c (Cdc from link m) = neither (is_some (record_of setup payload x m.token past)) (Landed c.at) (Dropped m.token) refl refl
land-not setup payload x past c (WritePost from link key address len) = refl
land-not setup payload x past c (Llc from link m) = refl
land-not setup payload x past c (ClcPost from s link m) = refl

deliver-not : (setup : Setup) (payload : List ℕ) (x : Side) (past : List Entry) (o : Option Placed) → declines (deliver_told setup payload x past o) ≡ false
deliver-not setup payload x past None = refl
deliver-not setup payload x past (Some c) = land-not setup payload x past c c.post

grow-not : (o : Option ℕ) → declines (grow_to o) ≡ false
grow-not None = refl
grow-not (Some k) = refl

-- what an answer that declines nothing leaves to show
nothing-named : (setup : Setup) (payload : List ℕ) (past : List Entry) (event : Event) (n : ℕ) (t : Told) → is-declined t ≡ false → DeclinesForLack setup payload event (reply_of n t) past
nothing-named setup payload past event n (Plain (Declined lack)) e = absurd (cc)
nothing-named setup payload past event n (Plain reply) e = tt
nothing-named setup payload past event n (Hands bytes) e = tt

-- an end waits for a Proposal at B alone, and for an answer at A alone
abbrev is-at : EndState → Side → Bool
is-at WaitsProposal x = same_side B x
is-at WaitsAnswer x = same_side A x
is-at _ x = true

at-either : (x : Side) (b : Bool) (p q : EndState) → is-at p x ≡ true → is-at q x ≡ true → is-at (if b then p else q) x ≡ true
at-either x true p q e f = e
at-either x false p q e f = f

at-clc : (x : Side) (reply : Reply) (state : EndState) → is-at state x ≡ true → is-at (after_clc reply state) x ≡ true
at-clc x (Sent AcceptSent) state e = refl
at-clc x (Sent ConfirmKind) state e = refl
at-clc x (Sent LinkSent) state e = refl
at-clc x (Declined lack) state e = refl
at-clc x FellBack state e = refl
at-clc x (Reset cause) state e = refl
at-clc x reply state e = e

at-event : (x : Side) (s : ℕ) (event : Event) (reply : Reply) (state : EndState) → is-at state x ≡ true → is-at (after_event x s event reply state) x ≡ true
at-event A s (Open t) Opened state e = at-either A (s == t) WaitsAnswer state refl e
at-event B s (Open t) Opened state e = at-either B (s == t) WaitsProposal state refl e
at-event A s (Open t) (Declined lack) state e = at-either A (s == t) HasFallen state refl e
at-event B s (Open t) (Declined lack) state e = at-either B (s == t) HasFallen state refl e
at-event A s (Raw t at len) (Wrote n) state e = at-either A (s == t) state state e e
at-event B s (Raw t at len) (Wrote n) state e = at-either B (s == t) (after_raw B state) state (by state e) e
  where
    by : (st : EndState) → is-at st B ≡ true → is-at (after_raw B st) B ≡ true
    by NoEnd f = refl
    by st f = f
at-event A s (Clc t B) reply state e = at-either A (s == t) (after_clc reply state) state (at-clc A reply state e) e
at-event B s (Clc t A) reply state e = at-either B (s == t) (after_clc reply state) state (at-clc B reply state e) e
at-event A s event reply state e = e
at-event B s event reply state e = e

at-loss : (x : Side) (lost : Bool) (group : ℕ) (state : EndState) → is-at state x ≡ true → is-at (after_loss lost group state) x ≡ true
at-loss x true group WaitsLink e = refl
at-loss x true group state e = e
at-loss x false group state e = e

at-early : (x : Side) (s : ℕ) (past : List Entry) → is-at (early_state x s past) x ≡ true
at-early x s [] = refl
at-early x s (e ∷ older) = at-loss x (loses_group_with x (group_on s older) e older) (group_on s older) (after_event x s e.event e.reply (early_state x s older)) (at-event x s e.event e.reply (early_state x s older) (at-early x s older))

at-end : (x : Side) (s : ℕ) (past : List Entry) → is-at (end_state x s past) x ≡ true
at-end x s past = at-either x (is_up x s past) IsUp (early_state x s past) refl (at-early x s past)

none-left : {X : Type 0} (xs : List X) → (length xs == 0) ≡ true → xs ≡ []
none-left [] e = refl
none-left (x ∷ xs) e = absurd (let f : length (x ∷ xs) ≡ 0 = eqb-true (length (x ∷ xs)) 0 e in omega (arith, f))

key-step-not : (l : Lacks) (lack : Lack) → key_step l ≡ Decline lack → ⊥
key-step-not l lack e = by (is_asked l.key_flow) l.adding e
  where
    by : (a b : Bool) → (if a then Wait ConfirmRkeyHold else if b then Wait AddLinkHold else AskKey) ≡ Decline lack → ⊥
    by true b f = cc
    by false true f = cc
    by false false f = cc

-- two pairs of numbers that are equal pass the test for it
same-pairs : (a b : ℕ) (q : ℕ × ℕ) → (a, b) ≡ q → ((a == q.0) && (b == q.1)) ≡ true
same-pairs a b q e = subst (λ (r : ℕ × ℕ). ((a == r.0) && (b == r.1)) ≡ true) e (ap (λ (c : Bool). c && (b == b)) (eq-eqb a a refl) ∙ eq-eqb b b refl)

module _ (setup : Setup) (payload : List ℕ) (past : List Entry) (s : ℕ) where
  abbrev LacksAt : Side → Lack → Type 0
  LacksAt dir lack = IsLacking setup payload (Clc s dir) past lack

  -- B's rules, one after the other
  proposal-rows : (p : Proposal) (len : ℕ) (lack : Lack) (l : Lacks) → l ≡ lacks setup payload B past → front payload A s past ≡ Whole (ProposalMessage p) len
      → (same contact deleting none first raw no_slot unready : Bool) → ((p.subnet == l.subnet.0) && (p.prefix == l.subnet.1)) ≡ same → (l.free == 0) ≡ none → (l.group == 0) ≡ first → is_raw s past ≡ raw → (l.slots_up == 0) ≡ no_slot
      → (if not same then Decline NoSubnet else
      if contact then Wait FirstContactHold else
      if deleting then Wait DeleteRkeyHold else
      if none then Decline (NoServerElement l.elements) else
      if first then (if raw then Decline RawLack else if no_slot then Decline (NoSlot l.links) else SendAccept true) else
      if unready then key_step l else SendAccept false) ≡ Decline lack
      → LacksAt A lack
  proposal-rows p len lack l l_is f false contact deleting none first raw no_slot unready a b c d g e =
      subst (LacksAt A) (let i : NoSubnet ≡ lack = cc in i)
      (record {
        proposal = p;
        len = len;
        stands = f;
        elsewhere = λ i. let j : true ≡ false = sym (same-pairs p.subnet p.prefix l.subnet (i ∙ ap (λ (k : Lacks). k.subnet) (sym l_is))) ∙ a in cc;
      })
  proposal-rows p len lack l l_is f true true deleting none first raw no_slot unready a b c d g e = absurd (cc)
  proposal-rows p len lack l l_is f true false true none first raw no_slot unready a b c d g e = absurd (cc)
  proposal-rows p len lack l l_is f true false false true first raw no_slot unready a b c d g e =
      subst (LacksAt A) (let i : NoServerElement l.elements ≡ lack = cc in i)
      (none-left (free_places setup payload B past) (ap (λ (k : Lacks). k.free == 0) (sym l_is) ∙ b), ap (λ (k : Lacks). k.elements) l_is)
  proposal-rows p len lack l l_is f true false false false true true no_slot unready a b c d g e =
      subst (LacksAt A) (let i : RawLack ≡ lack = cc in i) (eqb-true (group_of B past) 0 (ap (λ (k : Lacks). k.group == 0) (sym l_is) ∙ c), d)
  proposal-rows p len lack l l_is f true false false false true false true unready a b c d g e =
      subst (LacksAt A) (let i : NoSlot l.links ≡ lack = cc in i)
      (eqb-true (group_of B past) 0 (ap (λ (k : Lacks). k.group == 0) (sym l_is) ∙ c), (none-left (slots_up setup past) (ap (λ (k : Lacks). k.slots_up == 0) (sym l_is) ∙ g), ap (λ (k : Lacks). k.links) l_is))
  proposal-rows p len lack l l_is f true false false false true false false unready a b c d g e = absurd (cc)
  proposal-rows p len lack l l_is f true false false false false raw no_slot true a b c d g e = absurd (key-step-not l lack e)
  proposal-rows p len lack l l_is f true false false false false raw no_slot false a b c d g e = absurd (cc)

  -- A's rules for an Accept of later contact
  accept-rows : (o : Offer) (len : ℕ) (lack : Lack) (l : Lacks) → l ≡ lacks setup payload A past → front payload B s past ≡ Whole (AcceptMessage o) len → o.first ≡ false
      → (here deleting none unready : Bool) → (o.psn == l.group) ≡ here → (l.free == 0) ≡ none
      → (if not here then Decline (GroupLost o.psn l.group) else
      if deleting then Wait DeleteRkeyHold else
      if none then Decline (NoClientElement l.elements) else
      if unready then key_step l else SendConfirm false) ≡ Decline lack
      → LacksAt B lack
  accept-rows o len lack l l_is f later false deleting none unready a b e =
      subst (LacksAt B) (let i : GroupLost o.psn l.group ≡ lack = cc in i)
      (record {
        offer = o;
        len = len;
        stands = f;
        later = later;
        named_is = refl;
        has_is = ap (λ (k : Lacks). k.group) l_is;
        others = λ i. let j : true ≡ false = sym (eq-eqb o.psn l.group i) ∙ a in cc;
      })
  accept-rows o len lack l l_is f later true true none unready a b e = absurd (cc)
  accept-rows o len lack l l_is f later true false true unready a b e =
      subst (LacksAt B) (let i : NoClientElement l.elements ≡ lack = cc in i)
      (none-left (free_places setup payload A past) (ap (λ (k : Lacks). k.free == 0) (sym l_is) ∙ b), ap (λ (k : Lacks). k.elements) l_is)
  accept-rows o len lack l l_is f later true false false true a b e = absurd (key-step-not l lack e)
  accept-rows o len lack l l_is f later true false false false a b e = absurd (cc)

  accept-lacks : (o : Offer) (len : ℕ) (lack : Lack) (l : Lacks) → l ≡ lacks setup payload A past → front payload B s past ≡ Whole (AcceptMessage o) len
      → (first : Bool) → o.first ≡ first → (if first then on_first_accept l else on_later_accept o l) ≡ Decline lack → LacksAt B lack
  accept-lacks o len lack l l_is f true g e = absurd (by (l.group == 0) e)
    where
      by : (b : Bool) → (if not b then Wait OldGroup else SendConfirm true) ≡ Decline lack → ⊥
      by true h = cc
      by false h = cc
  accept-lacks o len lack l l_is f false g e = accept-rows o len lack l l_is f g (o.psn == l.group) (is_deleting l.key_flow) (l.free == 0) (not l.rmb_ready) refl refl e

  confirm-not : (raw here : Bool) (lack : Lack) → (if raw then Wrong ConfirmKind else if here then Ready else Lost) ≡ Decline lack → ⊥
  confirm-not true here lack e = cc
  confirm-not false true lack e = cc
  confirm-not false false lack e = cc

  -- the verdict on a message that stands at the front
  verdict-lacks : (dir : Side) (raw : Bool) (state : EndState) (m : ClcMessage) (len : ℕ) (lack : Lack) → is-at state (other dir) ≡ true → is_raw s past ≡ raw → front payload dir s past ≡ Whole m len
      → verdict raw state m (lacks setup payload (other dir) past) ≡ Decline lack → LacksAt dir lack
  verdict-lacks A raw WaitsProposal (ProposalMessage p) len lack at r f e =
      let l : Lacks = lacks setup payload B past in
      proposal-rows p len lack l refl f ((p.subnet == l.subnet.0) && (p.prefix == l.subnet.1)) l.first_contact (is_deleting l.key_flow) (l.free == 0) (l.group == 0) raw (l.slots_up == 0) (not l.rmb_ready) refl refl refl r refl e
  verdict-lacks B raw WaitsProposal m len lack at r f e = absurd (let i : false ≡ true = at in cc)
  verdict-lacks A raw WaitsProposal m len lack at r f e = absurd (cc)
  verdict-lacks A raw WaitsAnswer m len lack at r f e = absurd (let i : false ≡ true = at in cc)
  verdict-lacks B raw WaitsAnswer (AcceptMessage o) len lack at r f e = accept-lacks o len lack (lacks setup payload A past) refl f o.first refl e
  verdict-lacks B raw WaitsAnswer m len lack at r f e = absurd (cc)
  verdict-lacks dir raw WaitsConfirm (ConfirmMessage o) len lack at r f e = absurd (confirm-not raw (o.psn == group_of (other dir) past) lack e)
  verdict-lacks dir raw WaitsConfirm m len lack at r f e = absurd (cc)
  verdict-lacks dir raw state m len lack at r f e = absurd (cc)

  ready-named : (dir : Side) (m : ClcMessage) → DeclinesForLack setup payload (Clc s dir) (ready_told m) past
  ready-named dir (ConfirmMessage o) = by o.first
    where
      by : (b : Bool) → DeclinesForLack setup payload (Clc s dir) (if b then Sent LinkSent else Established) past
      by true = tt
      by false = tt
  ready-named dir m = tt

  step-named : (dir : Side) (group : ℕ) (m : ClcMessage) (step : ClcStep) → ((lack : Lack) → step ≡ Decline lack → LacksAt dir lack) → DeclinesForLack setup payload (Clc s dir) (step_told group m step) past
  step-named dir group m (SendAccept first) h = tt
  step-named dir group m (SendConfirm true) h = tt
  step-named dir group m (SendConfirm false) h = tt
  step-named dir group m AskKey h = tt
  step-named dir group m (Wait hold) h = tt
  step-named dir group m (Decline lack) h = h lack refl
  step-named dir group m Fell h = tt
  step-named dir group m Ready h = ready-named dir m
  step-named dir group m Lost h = tt
  step-named dir group m (Wrong kind) h = tt

  front-named : (dir : Side) (b : Bool) (f : Front) → front payload dir s past ≡ f → DeclinesForLack setup payload (Clc s dir) (if b then front_told setup payload (other dir) s past f else Idle) past
  front-named dir false f e = tt
  front-named dir true NoMessage e = tt
  front-named dir true (Faulty fault) e = tt
  front-named dir true (Whole m len) e =
      step-named dir (group_on s past) m (clc_step setup payload (other dir) s m past)
      (λ lack g. verdict-lacks dir (is_raw s past) (end_state (other dir) s past) m len lack (at-end (other dir) s past) refl e g)

-- an open is declined where not both sides are capable
open-named : (setup : Setup) (payload : List ℕ) (s : ℕ) (past : List Entry) (used a b both : Bool) → a ≡ is_capable setup A → b ≡ is_capable setup B → (a && b) ≡ both
    → DeclinesForLack setup payload (Open s) (if used then NameUsed else if not both then Declined (NotCapable a b) else Opened) past
open-named setup payload s past true a b both e f g = tt
open-named setup payload s past false a b true e f g = tt
open-named setup payload s past false a b false e f g = (e, (f, g))

-- what any event is told
pub told-named : (setup : Setup) (payload : List ℕ) (past : List Entry) (event : Event) (n : ℕ) → DeclinesForLack setup payload event (reply_of n (told setup payload past event)) past
told-named setup payload past (Open s) n =
    open-named setup payload s past (is_opened s past || is_raw s past) (is_capable setup A) (is_capable setup B) (is_capable setup A && is_capable setup B) refl refl refl
told-named setup payload past (Raw s at len) n =
    nothing-named setup payload past (Raw s at len) n (told setup payload past (Raw s at len))
    (neither (is_opened s past) NameUsed _ refl (neither (not (len == 0) && (stream_room - length (stream payload A s past) == 0)) Full (Wrote _) refl refl))
told-named setup payload past (Write end at len) n =
    nothing-named setup payload past (Write end at len) n (told setup payload past (Write end at len)) (call-not setup payload end (Writes (take len (drop at payload))) past (end_state end.side end.s past))
told-named setup payload past (Read end len) n = nothing-named setup payload past (Read end len) n (told setup payload past (Read end len)) (call-not setup payload end (Reads len) past (end_state end.side end.s past))
told-named setup payload past (Finish end) n = nothing-named setup payload past (Finish end) n (told setup payload past (Finish end)) (call-not setup payload end Finishes past (end_state end.side end.s past))
told-named setup payload past (Close end) n = nothing-named setup payload past (Close end) n (told setup payload past (Close end)) (call-not setup payload end Closes past (end_state end.side end.s past))
told-named setup payload past (Abort end) n = nothing-named setup payload past (Abort end) n (told setup payload past (Abort end)) (call-not setup payload end Aborts past (end_state end.side end.s past))
told-named setup payload past (Await end) n = nothing-named setup payload past (Await end) n (told setup payload past (Await end)) (call-not setup payload end Awaits past (end_state end.side end.s past))
told-named setup payload past (Move end) n = nothing-named setup payload past (Move end) n (told setup payload past (Move end)) (call-not setup payload end Moves past (end_state end.side end.s past))
told-named setup payload past (Clc s dir) n = front-named setup payload past s dir (expects (end_state (other dir) s past)) (front payload dir s past) refl
told-named setup payload past (Deliver slot dir) n =
    nothing-named setup payload past (Deliver slot dir) n (told setup payload past (Deliver slot dir)) (deliver-not setup payload (other dir) past (landing slot dir past))
told-named setup payload past (Complete slot dir) n = nothing-named setup payload past (Complete slot dir) n (told setup payload past (Complete slot dir)) (complete-not (completing slot dir past))
told-named setup payload past (Swallow slot dir) n = nothing-named setup payload past (Swallow slot dir) n (told setup payload past (Swallow slot dir)) (complete-not (swallowed slot dir past))
told-named setup payload past (Cut k) n = nothing-named setup payload past (Cut k) n (told setup payload past (Cut k)) (neither (path_up k past) Done Idle refl refl)
told-named setup payload past (Heal k) n = nothing-named setup payload past (Heal k) n (told setup payload past (Heal k)) (neither (path_up k past) Idle Done refl refl)
told-named setup payload past (Report x k) n =
    nothing-named setup payload past (Report x k) n (told setup payload past (Report x k))
    (neither (standing_at k (table_of x past) && dead_at k (table_of x past) past) _ Idle (neither ((loses k (peer_of x past)).group == 0) (GroupEnded _) Done refl refl) refl)
told-named setup payload past Grow n =
    let f : Flow = flow_of B past in
    nothing-named setup payload past Grow n (told setup payload past Grow)
    (neither (group_of B past == 0) Idle _ refl (neither (is_first_contact f.link) (Held _) _ refl (neither (is_adding f.link) (Held _) _ refl (neither (is_asked f.key) (Held _) _ refl (neither (is_deleting f.key) (Held _) _ refl (grow-not (head (open_slots setup past))))))))
told-named setup payload past (Test x k) n =
    nothing-named setup payload past (Test x k) n (told setup payload past (Test x k))
    (neither (not (is_live (phase_at k (table_of x past)))) Idle _ refl (neither (has k (flow_of x past).tests) (Held TestLinkHold) (Sent TestSent) refl refl))
told-named setup payload past (Trim x) n =
    let f : Flow = flow_of x past in
    nothing-named setup payload past (Trim x) n (told setup payload past (Trim x))
    (neither (group_of x past == 0) Idle _ refl (neither (is_first_contact f.link) (Held _) _ refl (neither (is_adding f.link) (Held _) _ refl (neither (is_asking_or_waiting f.key) (Held _) _ refl (neither (is_deleting f.key) (Held _) _ refl (neither (is_nil (trimmed setup payload x past)) Idle (Sent DeleteSent) refl refl))))))
