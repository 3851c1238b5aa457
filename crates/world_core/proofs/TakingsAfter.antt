-- What the taking of a CLC message makes of both hosts: nothing where none is due or it is held; else the taker has sent what its manager
-- posts, and the message has left the stream of its sender.
use Rattle.std.proofs.Common.{◌≡◌, ◌∙◌, ℕ, ◌+◌, ◌<◌, ◌≤◌, ◌^◌, ◌&&◌, ◌==◌, not, Bool, true, false, if◌then◌else◌, List, [], ◌∷◌, ◌++◌, length, filter, refl, ap, sym, subst, arith, inl, inr, map}
use Rattle.std.specs.Prelude.{Option, Some, None, ◌⊎◌, option_map, unwrap_or, IfSome}
use Rattle.std.proofs.lemmas.List.{length-set}
use Rattle.smc_num.specs.declared.Side.{Side}
use Rattle.smc_num.specs.declared.Side.TheVariants.{A, B}
use Rattle.smc_num.specs.declared.LinkId.{LinkId}
use Rattle.smc_num.specs.Names.{other, same_side, no_link, head, up_to}
use Rattle.clc_wire.specs.declared.message.ClcMessage.{ClcMessage}
use Rattle.clc_wire.specs.declared.message.ClcMessage.TheVariants.{Proposal as ProposalMessage, Accept as AcceptMessage, Confirm as ConfirmMessage, Decline as DeclineMessage}
use Rattle.rmb_region.specs.Regions.{Buffer}
use Rattle.pipe_model.specs.declared.setup.Setup.{Setup}
use Rattle.pipe_model.specs.declared.entry.Entry.{Entry}
use Rattle.pipe_model.specs.declared.event.Event.TheVariants.{Clc}
use Rattle.pipe_model.specs.declared.reply.Reply.{Reply}
use Rattle.pipe_model.specs.declared.reply.Reply.TheVariants.{Idle, Held, Sent, Established}
use Rattle.pipe_model.specs.declared.reply.Hold.{Hold}
use Rattle.pipe_model.specs.declared.reply.SentKind.TheVariants.{Confirm as ConfirmSent, ConfirmLink as LinkSent}
use Rattle.pipe_model.specs.declared.verdict.ClcStep.{ClcStep}
use Rattle.pipe_model.specs.declared.verdict.ClcStep.TheVariants.{SendAccept, SendConfirm, AskKey, Wait, Decline, Fell, Ready, Lost, Wrong}
use Rattle.pipe_model.specs.declared.verdict.Lacks.{Lacks}
use Rattle.pipe_model.specs.declared.post.Post.{Post}
use Rattle.pipe_model.specs.History.{offered, next_number}
use Rattle.pipe_model.specs.Ends.{Half}
use Rattle.pipe_model.specs.Fabric.{path_up}
use Rattle.pipe_model.specs.Connections.{EndState, NoEnd, WaitsProposal, WaitsAnswer, WaitsConfirm, WaitsLink, IsUp, HasFallen, WasReset, end_state}
use Rattle.pipe_model.specs.Fallback.{untaken, written, takes_message as takes_it}
use Rattle.pipe_model.specs.Replies.{expects, step_told, told}
use Rattle.pipe_model.specs.Lawful.{reply_of, posted}
use Rattle.conn_end.specs.Kept.{Kept}
use Rattle.clc_handshake.specs.Stages.{seen_state, named_group}
use Rattle.rc_link.specs.Wire.{Queues, room_of}
use Rattle.side_core.specs.Desk.{Desk, lacks_of}
use Rattle.side_core.specs.Landing.{is_wait, CanMake}
use Rattle.side_core.specs.Manager.{Manager, Represents, hand_at, state_at}
use Rattle.side_core.specs.Acting.{IsSoundAt}
use Rattle.side_core.specs.Records.{conn_at}
use Rattle.side_core.specs.Taking.{MayTake, verdict_at, taking_told, taking_posts, takes_message, with_desk}
use Rattle.side_core.proofs.Elements.{Tells, told as tells}
use Rattle.world_core.specs.declared.host.Host.{Host}
use Rattle.world_core.specs.declared.host.Untaken.{Untaken}
use Rattle.world_core.specs.declared.host.Outflow.{Outflow}
use Rattle.world_core.specs.Played.{IsPlayed, IsMade}
use Rattle.world_core.specs.Landed.{buffer_of}
use Rattle.world_core.specs.OneLink.{the_link}
use Rattle.world_core.specs.Managers.{manager_of}
use Rattle.world_core.specs.WireSteps.{landing_now}
use Rattle.world_core.specs.Sending.{carried_from, goes_on_wire, moved, outflow_at, puts_all, takes_next, MaySendAll}
use Rattle.world_core.specs.Handing.{due_of, due_on, hands_over, link_made_by, makes_at, MayMake, is_taken_on, is_taken_by}
use Rattle.world_core.specs.Steps.{entry_of, does_something}
use Rattle.world_core.specs.Hosts.{AreHostsAfter, IsHostAfter, IsNext, IsStreamAfter, with_posts, wire_at, paths_after}
use Rattle.world_core.proofs.QuietEvents.{entry-of}
use Rattle.world_core.proofs.SoundEnds.{sound-at}
use Rattle.world_core.proofs.EndRecords.{state-is}
use Rattle.world_core.proofs.HostsAfter.{if-none, hosts-after}
use Rattle.world_core.proofs.TakenAlone.{paths_of}
use Rattle.world_core.proofs.HostsOn.{PlaysBy, own-sent, own-kept, theirs-then, may-go}
use Rattle.world_core.proofs.StreamsAfter.{Flowing, their-flows, their-taken}
use Rattle.world_core.proofs.ClcTaken.{IsTaken, link_with, link_of, held}
use Rattle.world_core.proofs.TakenMessagesAll.{taken, idle}
use Rattle.world_core.proofs.MayTakes.{MayMake as MayMakeAt, may-take, can-make, told-kept, would-take, would-idle}
use Rattle.world_core.proofs.Plain.{and-false, twice}

-- what an end is to take, by its state
pub due-some : (st : EndState) (f : Outflow) (u : Untaken) → due_of (seen_state st) f ≡ Some u → (expects st ≡ true) × (f.next ≡ Some u)
due-some WaitsProposal f u e = (refl, e)
due-some WaitsAnswer f u e = (refl, e)
due-some WaitsConfirm f u e = (refl, e)
due-some NoEnd f u e = cc
due-some WaitsLink f u e = cc
due-some IsUp f u e = cc
due-some HasFallen f u e = cc
due-some (WasReset cause) f u e = cc

due-none : (st : EndState) (f : Outflow) → due_of (seen_state st) f ≡ None → (expects st ≡ false) ⊎ (f.next ≡ None)
due-none WaitsProposal f e = inr e
due-none WaitsAnswer f e = inr e
due-none WaitsConfirm f e = inr e
due-none NoEnd f e = inl refl
due-none WaitsLink f e = inl refl
due-none IsUp f e = inl refl
due-none HasFallen f e = inl refl
due-none (WasReset cause) f e = inl refl

-- what is held waits
held-waits : (g : ℕ) (m : ClcMessage) (step : ClcStep) (hold : Hold) → step_told g m step ≡ Held hold → is_wait step ≡ true
held-waits g m (Wait h) hold e = refl
held-waits g m (SendAccept first) hold e = cc
held-waits g m (SendConfirm true) hold e = cc
held-waits g m (SendConfirm false) hold e = cc
held-waits g m AskKey hold e = cc
held-waits g m (Decline lack) hold e = cc
held-waits g m Fell hold e = cc
held-waits g m Lost hold e = cc
held-waits g m (Wrong kind) hold e = cc
held-waits g (ProposalMessage p) Ready hold e = cc
held-waits g (AcceptMessage o) Ready hold e = cc
held-waits g (DeclineMessage r) Ready hold e = cc
held-waits g (ConfirmMessage o) Ready hold e = by o.first e
  where
    by : (b : Bool) → (if b then Sent LinkSent else Established) ≡ Held hold → false ≡ true
    by true e = cc
    by false e = cc

-- a message that does not wait is taken
step-takes : (g : ℕ) (m : ClcMessage) (state : EndState) (l : Lacks) (step : ClcStep) → Tells step state m l → (step ≡ AskKey → ⊥) → ((hold : Hold) → step_told g m step ≡ Held hold → ⊥) → takes_it (step_told g m step) ≡ true
step-takes g m state l (SendAccept first) t a w = refl
step-takes g m state l (SendConfirm true) t a w = refl
step-takes g m state l (SendConfirm false) t a w = refl
step-takes g m state l AskKey t a w = absurd (a refl)
step-takes g m state l (Wait h) t a w = absurd (w h refl)
step-takes g m state l (Decline lack) t a w = refl
step-takes g m state l Fell t a w = refl
step-takes g m state l Lost t a w = refl
step-takes g m state l (Wrong kind) t a w = refl
step-takes g (ProposalMessage p) state l Ready t a w = absurd t
step-takes g (AcceptMessage o) state l Ready t a w = absurd t
step-takes g (DeclineMessage r) state l Ready t a w = absurd t
step-takes g (ConfirmMessage o) state l Ready t a w = by o.first
  where
    by : (b : Bool) → takes_it (if b then Sent LinkSent else Established) ≡ true
    by true = refl
    by false = refl

-- a link that is named is the only one
named : (o : Option LinkId) → unwrap_or o no_link ≡ the_link → o ≡ Some the_link
named None e = let zero-one : 0 ≡ 1 = ap (λ (l : LinkId). l.group) e in absurd (omega (arith, zero-one))
named (Some l) e = ap Some e

-- the link is made at the peer just where its manager has it
made-alike : (r : Reply) (link : Option LinkId) (m : Manager Half) → (r ≡ Sent ConfirmSent → link ≡ Some the_link) → with_desk (makes_at (link_made_by r link)) m ≡ link_with r m
made-alike (Sent ConfirmSent) link m is = ap (λ (o : Option LinkId). with_desk (makes_at o) m) (is refl)
made-alike _ link m is = refl

may-make : (r : Reply) (link : Option LinkId) (d : Desk) → (r ≡ Sent ConfirmSent → (link ≡ Some the_link) × CanMake the_link d) → MayMake (link_made_by r link) d
may-make (Sent ConfirmSent) link d is = let f = is refl in subst (λ (o : Option LinkId). MayMake o d) (sym f.0) f.1
may-make _ link d is = tt

module _ (setup : Setup) (payload : List ℕ) (past : List Entry) (heard s : ℕ) (dir : Side) (own theirs : Host) (before : AreHostsAfter setup payload past heard (other dir) own theirs) (known : s < setup.sockets)
    (paths : List Bool) (are-paths : paths ≡ paths_after setup past) where
  pub own-is : state_at s own.core ≡ end_state (other dir) s past
  own-is = let h = before.own in state-is setup payload (buffer_of setup payload (other dir) 1 past ∷ []) (other dir) past own.core h.side s known

  pub socket-at-theirs : s < length theirs.flows.items
  socket-at-theirs = let h = before.theirs in subst (λ n. s < n) (sym h.sockets) known

  theirs-before : IsHostAfter setup payload dir past theirs
  theirs-before = subst (λ x. IsHostAfter setup payload x past theirs) (sym (twice dir)) before.theirs

  next-before : IsNext dir s past (outflow_at s theirs.flows.items).next
  next-before = let h = theirs-before in let f : IsStreamAfter payload dir s past (outflow_at s theirs.flows.items) = h.flows s known in f.next

  -- a message is due: the taker waits for it, and it is the first that was not taken
  record IsDue (u : Untaken) : Type 0 where
    pub waits : expects (end_state (other dir) s past) ≡ true
    pub first : head (untaken dir s past) ≡ Some u.message
    pub link : u.link ≡ option_map (λ o. o.link) (offered dir s past)

  is-due : (u : Untaken) → due_on s own.core theirs.flows.items ≡ Some u → IsDue u
  is-due u e =
      let f = due-some (state_at s own.core) (outflow_at s theirs.flows.items) u e in
      let next = next-before in record {
        waits = ap expects (sym own-is) ∙ f.0;
        first = sym next.message ∙ ap (λ (o : Option Untaken). option_map (λ v. v.message) o) f.1;
        link = subst (λ (o : Option Untaken). IfSome o (λ v. v.link ≡ option_map (λ o. o.link) (offered dir s past))) f.1 next.link;
      }

  none-due : due_on s own.core theirs.flows.items ≡ None → (expects (end_state (other dir) s past) ≡ false) ⊎ (head (untaken dir s past) ≡ None)
  none-due e = by (due-none (state_at s own.core) (outflow_at s theirs.flows.items) e)
    where
      by : (expects (state_at s own.core) ≡ false) ⊎ ((outflow_at s theirs.flows.items).next ≡ None) → (expects (end_state (other dir) s past) ≡ false) ⊎ (head (untaken dir s past) ≡ None)
      by (inl f) = inl (ap expects (sym own-is) ∙ f)
      by (inr f) = let next = next-before in inr (sym next.message ∙ ap (λ (o : Option Untaken). option_map (λ v. v.message) o) f)

  made-now : (actor : ℕ) → IsMade setup payload past heard (entry_of setup payload past heard actor (Clc s dir))
  made-now actor = record { built = known; reply = refl; posts = refl }

  plays : (actor : ℕ) → IsPlayed setup payload (entry_of setup payload past heard actor (Clc s dir) ∷ past) (heard + 0)
  plays actor = (heard, made-now actor, refl, before.played)

  given-by : (regions : List Buffer) (actor : ℕ) (u : Untaken) → due_on s own.core theirs.flows.items ≡ Some u → IsTaken setup payload regions (other dir) s u.message (link_of dir s past) (entry_of setup payload past heard actor (Clc s dir)) past
  given-by regions actor u e =
      let set = before.set in
      let d = is-due u e in
      taken setup set.one payload regions past (heard + 0) s dir (entry_of setup payload past heard actor (Clc s dir)) refl (plays actor) d.waits u.message d.first

  up-now : paths_of past ≡ paths
  up-now = let set = before.set in let one = set.one in sym (are-paths ∙ ap (λ n. map (λ k. path_up k past) (up_to n)) one.links)

  abbrev own-regions : List Buffer
  own-regions = buffer_of setup payload (other dir) 1 past ∷ []

  abbrev own-manager : Manager Half
  own-manager = manager_of setup payload (buffer_of setup payload (other dir) 1 past ∷ []) (other dir) past

  own-stands : Represents own.core (manager_of setup payload (buffer_of setup payload (other dir) 1 past ∷ []) (other dir) past)
  own-stands = let h = before.own in h.side

  -- the reply is what the manager is told
  told-alike : (m : ClcMessage) → taking_told s m paths own.core ≡ taking_told s m (paths_of past) own-manager
  told-alike m =
      told-kept s m paths own.core own-manager own-stands
      ∙ ap (λ paths. taking_told s m paths own-manager) (sym up-now)

  reply-now : (u : Untaken) → due_on s own.core theirs.flows.items ≡ Some u → taking_told s u.message paths own.core ≡ reply_of heard (told setup payload past (Clc s dir))
  reply-now u e = let t = given-by own-regions 0 u e in told-alike u.message ∙ sym t.reply

  -- whether it would be taken
  would-now : (u : Untaken) → due_on s own.core theirs.flows.items ≡ Some u → not (is_wait (verdict_at s u.message paths own.core)) ≡ does_something (told setup payload past (Clc s dir))
  would-now u e =
      let set = before.set in
      let d = is-due u e in
      ap (λ paths. not (is_wait (verdict_at s u.message paths own.core))) (sym up-now)
      ∙ sym (would-take setup set.one payload own-regions past heard before.played s known dir d.waits u.message d.first own.core own-stands)

  would-not : due_on s own.core theirs.flows.items ≡ None → false ≡ does_something (told setup payload past (Clc s dir))
  would-not e = let set = before.set in sym (would-idle setup set.one payload own-regions past heard before.played s known dir (none-due e))

  pub would-be-taken : is_taken_on s paths own.core theirs.flows.items ≡ does_something (told setup payload past (Clc s dir))
  would-be-taken = by (due_on s own.core theirs.flows.items) refl
    where
      by : (o : Option Untaken) → due_on s own.core theirs.flows.items ≡ o → is_taken_by s paths own.core o ≡ does_something (told setup payload past (Clc s dir))
      by None e = would-not e
      by (Some u) e = would-now u e

  link-alike : (u : Untaken) → due_on s own.core theirs.flows.items ≡ Some u → unwrap_or u.link no_link ≡ link_of dir s past
  link-alike u e = let d = is-due u e in ap (λ (o : Option LinkId). unwrap_or o no_link) d.link

  -- what a caller must see to
  pub may-take-now : length past ≤ 2 ^ 18 → (u : Untaken) → due_on s own.core theirs.flows.items ≡ Some u → MayTake s u.message (unwrap_or u.link no_link) paths own.core
  may-take-now few u e =
      let set = before.set in
      let d = is-due u e in
      subst (λ (l : LinkId). MayTake s u.message l paths own.core) (sym (link-alike u e)) (subst (λ paths. MayTake s u.message (link_of dir s past) paths own.core) up-now
      (may-take setup payload set past heard before.played few own-regions dir own.core own-stands s known d.waits u.message d.first))

  pub sound-now : length past ≤ 2 ^ 18 → IsSoundAt own.core.records.terms.size (conn_at s own.core.records)
  sound-now few = sound-at setup payload before.set past heard before.played few (other dir) own-regions own.core own-stands s

  lands-none : (y : Side) (reply : Reply) (posts : List Post) (actor : ℕ) → landing_now the_link y (entry-of actor (Clc s dir) reply posts) past ≡ 0
  lands-none y reply posts actor = if-none past

  unmoved-by : (y : Side) (w : Queues) → moved y (Clc s dir) w ≡ w
  unmoved-by y w = refl

  silent-by : (t : ℕ) (reply : Reply) → written payload (other dir) t (Clc s dir) reply past ≡ []
  silent-by t reply = by (other dir)
    where
      by : (x : Side) → written payload x t (Clc s dir) reply past ≡ []
      by A = refl
      by B = refl

  -- where no message leaves the stream of the sender
  still-flows : (actor : ℕ) → takes_it (reply_of heard (told setup payload past (Clc s dir))) ≡ false
      → Flowing payload setup.sockets (other (other dir)) (entry_of setup payload past heard actor (Clc s dir) ∷ past) theirs.flows.items
  still-flows actor none =
      let set = before.set in
      let h = before.theirs in
      their-flows setup set.one payload (entry_of setup payload past heard actor (Clc s dir)) past (heard + 0) (plays actor) (other (other dir)) (twice (other dir)) theirs.flows.items
      (λ t. ap (λ b. (t == s) && (same_side (other (other dir)) dir && b)) none ∙ (ap (λ b. (t == s) && b) (and-false (same_side (other (other dir)) dir)) ∙ and-false (t == s)))
      (λ t. refl) h.flows

  module _ (few : length past < 2 ^ 18) where
    -- the peer where nothing changes at it
    theirs-kept : (actor : ℕ) → takes_it (reply_of heard (told setup payload past (Clc s dir))) ≡ false
        → manager_of setup payload (buffer_of setup payload (other (other dir)) 1 past ∷ []) (other (other dir)) (entry_of setup payload past heard actor (Clc s dir) ∷ past) ≡ manager_of setup payload (buffer_of setup payload (other (other dir)) 1 past ∷ []) (other (other dir)) past
        → IsHostAfter setup payload (other (other dir)) (entry_of setup payload past heard actor (Clc s dir) ∷ past) theirs
    theirs-kept actor none is =
        let h = before.theirs in
        theirs-then setup payload past heard (Clc s dir) own theirs before few known lands-none unmoved-by silent-by actor theirs (subst (λ (m : Manager Half). Represents theirs.core m) (sym is) h.side) refl h.sockets (still-flows actor none)

    -- no message is due
    pub nothing-due : due_on s own.core theirs.flows.items ≡ None → (posts : List Post) → posts ≡ [] → PlaysBy setup payload past heard (Clc s dir) Idle posts (other dir) own theirs
    nothing-due e posts none =
        let set = before.set in
        let h = before.own in
        let so = λ (regions : List Buffer) (actor : ℕ). idle setup set.one payload regions past (heard + 0) s dir (entry_of setup payload past heard actor (Clc s dir)) refl (plays actor) (none-due e) in
        record {
          reply_is = let t = so [] 0 in sym t.reply;
          posts_are = let t = so [] 0 in none ∙ sym t.posts;
          after = λ actor.
              let of-own = so own-regions actor in
              let of-theirs = so (buffer_of setup payload (other (other dir)) 1 past ∷ []) actor in
              hosts-after setup payload before.set past heard before.played (Clc s dir) known actor few (other dir) own theirs
              (own-kept setup payload past heard (Clc s dir) own theirs before few known lands-none unmoved-by silent-by actor own (subst (λ (m : Manager Half). Represents own.core m) (sym (of-own.both (other dir))) h.side) of-own.posts refl refl)
              (theirs-kept actor (ap (λ r. takes_it r) of-own.reply) (of-theirs.both (other (other dir))));
        }

    -- a message is due, and the manager has taken it
    module _ (u : Untaken) (due : due_on s own.core theirs.flows.items ≡ Some u) (r : Reply) (reply_is : r ≡ taking_told s u.message paths own.core) (v : Manager Kept)
        (side : (m : Manager Half) → Represents own.core m → Represents v (takes_message s u.message (unwrap_or u.link no_link) paths m))
        (first posts : List Post) (none : first ≡ []) (posts_are : (m : Manager Half) → Represents own.core m → posts ≡ first ++ taking_posts s u.message (unwrap_or u.link no_link) paths m) where
      posts-so : posts ≡ posted setup payload past heard (Clc s dir)
      posts-so =
          let t = given-by own-regions 0 u due in
          posts_are own-manager own-stands
          ∙ (ap (λ ps. ps ++ taking_posts s u.message (unwrap_or u.link no_link) paths own-manager) none
          ∙ (ap (λ (l : LinkId). taking_posts s u.message l paths own-manager) (link-alike u due)
          ∙ (ap (λ paths. taking_posts s u.message (link_of dir s past) paths own-manager) (sym up-now) ∙ sym t.posts)))

      reply-so : r ≡ reply_of heard (told setup payload past (Clc s dir))
      reply-so = reply_is ∙ reply-now u due

      stands-so : (actor : ℕ) → Represents v (manager_of setup payload (buffer_of setup payload (other dir) 1 past ∷ []) (other dir) (entry_of setup payload past heard actor (Clc s dir) ∷ past))
      stands-so actor =
          let t = given-by own-regions actor u due in
          subst (λ (m : Manager Half). Represents v m) (ap (λ (l : LinkId). takes_message s u.message l paths own-manager) (link-alike u due) ∙ (ap (λ paths. takes_message s u.message (link_of dir s past) paths own-manager) (sym up-now) ∙ sym t.own))
          (side own-manager own-stands)

      pub may-send-now : MaySendAll (length own.flows.items) v posts × (length (filter goes_on_wire posts) ≤ room_of (wire_at 1 own))
      may-send-now = may-go setup payload past heard (Clc s dir) own theirs before few known lands-none unmoved-by silent-by 0 v (stands-so 0) posts posts-so

      theirs-so : (actor : ℕ) → manager_of setup payload (buffer_of setup payload (other (other dir)) 1 past ∷ []) (other (other dir)) (entry_of setup payload past heard actor (Clc s dir) ∷ past)
          ≡ link_with r (manager_of setup payload (buffer_of setup payload (other (other dir)) 1 past ∷ []) (other (other dir)) past)
      theirs-so actor =
          let t = given-by (buffer_of setup payload (other (other dir)) 1 past ∷ []) actor u due in
          t.theirs ∙ ap (λ q. link_with q (manager_of setup payload (buffer_of setup payload (other (other dir)) 1 past ∷ []) (other (other dir)) past)) (sym reply-so)

      -- it is held
      pub held-now : (hold : Hold) → r ≡ Held hold → (g : Host) → g.core ≡ v → (wire_at 1 g) ≡ (wire_at 1 own) → g.flows.items ≡ own.flows.items → PlaysBy setup payload past heard (Clc s dir) r posts (other dir) g theirs
      held-now hold is g core wire flows =
          let waits : is_wait (verdict_at s u.message (paths_of past) own-manager) ≡ true =
          held-waits (named_group u.message) u.message (verdict_at s u.message (paths_of past) own-manager) hold (sym (told-alike u.message) ∙ (sym reply_is ∙ is)) in
          let h = held s u.message (link_of dir s past) (paths_of past) own-manager waits in
          let none-posted : posted setup payload past heard (Clc s dir) ≡ [] = let t = given-by own-regions 0 u due in t.posts ∙ h.1 in
          record {
            reply_is = reply-so;
            posts_are = posts-so;
            after = λ actor.
                hosts-after setup payload before.set past heard before.played (Clc s dir) known actor few (other dir) g theirs
                (own-kept setup payload past heard (Clc s dir) own theirs before few known lands-none unmoved-by silent-by actor g (subst (λ w. Represents w (manager_of setup payload (buffer_of setup payload (other dir) 1 past ∷ []) (other dir) (entry_of setup payload past heard actor (Clc s dir) ∷ past))) (sym core) (stands-so actor)) none-posted wire flows)
                (theirs-kept actor (ap (λ q. takes_it q) (sym reply-so ∙ is)) (theirs-so actor ∙ ap (λ q. link_with q (manager_of setup payload (buffer_of setup payload (other (other dir)) 1 past ∷ []) (other (other dir)) past)) is));
          }

      -- where it confirms first contact, the message is about the link, which may be made at its sender
      made-at : r ≡ Sent ConfirmSent → MayMakeAt dir s past theirs.core.desk
      made-at is =
          let set = before.set in
          let d = is-due u due in
          let h = before.theirs in
          can-make setup set.one payload (buffer_of setup payload (other (other dir)) 1 past ∷ []) past (heard + 0) s dir (entry_of setup payload past heard 0 (Clc s dir)) refl (plays 0) d.waits u.message d.first (sym reply-so ∙ is) theirs.core h.side

      link-there : r ≡ Sent ConfirmSent → u.link ≡ Some the_link
      link-there is = let q = made-at is in named u.link (link-alike u due ∙ q.link)

      -- what its sender must see to
      pub may-make-now : MayMake (link_made_by r u.link) theirs.core.desk
      may-make-now = may-make r u.link theirs.core.desk (λ is. let q = made-at is in (link-there is, q.can))

      taken-so : ((hold : Hold) → r ≡ Held hold → ⊥) → (verdict_at s u.message paths own.core ≡ AskKey → ⊥) → takes_it (reply_of heard (told setup payload past (Clc s dir))) ≡ true
      taken-so not_held not_asked =
          ap (λ q. takes_it q) (sym reply-so ∙ reply_is)
          ∙ step-takes (named_group u.message) u.message (state_at s own.core) (lacks_of paths own.core.desk) (verdict_at s u.message paths own.core)
          (tells (hand_at s own.core).raw (state_at s own.core) u.message (lacks_of paths own.core.desk)) not_asked (λ hold e. not_held hold (reply_is ∙ e))

      over-flows : (actor : ℕ) → takes_it (reply_of heard (told setup payload past (Clc s dir))) ≡ true
          → Flowing payload setup.sockets (other (other dir)) (entry_of setup payload past heard actor (Clc s dir) ∷ past) (hands_over s u.message theirs.flows.items)
      over-flows actor takes =
          let set = before.set in
          let d = is-due u due in
          let h = theirs-before in
          subst (λ x. Flowing payload setup.sockets x (entry_of setup payload past heard actor (Clc s dir) ∷ past) (hands_over s u.message theirs.flows.items)) (twice dir)
          (their-taken setup set.one payload (entry_of setup payload past heard actor (Clc s dir)) past (heard + 0) (plays actor) dir s u.message refl takes d.first theirs.flows.items h.sockets h.flows)

      -- it is taken
      pub taken-now : ((hold : Hold) → r ≡ Held hold → ⊥) → (verdict_at s u.message paths own.core ≡ AskKey → ⊥) → (number : ℕ) → number ≡ next_number past → (g l : Host) → g.core ≡ v
          → ((m : Manager Half) → Represents v m → (wire_at 1 g) ≡ with_posts (carried_from m number 1 posts) (wire_at 1 own)) → g.flows.items ≡ puts_all posts own.flows.items
          → ((m : Manager Half) → Represents theirs.core m → Represents l.core (with_desk (makes_at (link_made_by r u.link)) m)) → (wire_at 1 l) ≡ (wire_at 1 theirs) → l.flows.items ≡ hands_over s u.message theirs.flows.items
          → PlaysBy setup payload past heard (Clc s dir) r posts (other dir) g l
      taken-now not_held not_asked number n g l core wire flows side_too wire_too flows_too =
          let takes = taken-so not_held not_asked in
          let h = before.theirs in
          record {
            reply_is = reply-so;
            posts_are = posts-so;
            after = λ actor.
                hosts-after setup payload before.set past heard before.played (Clc s dir) known actor few (other dir) g l
                (own-sent setup payload past heard (Clc s dir) own theirs before few known lands-none unmoved-by silent-by actor g (subst (λ w. Represents w (manager_of setup payload (buffer_of setup payload (other dir) 1 past ∷ []) (other dir) (entry_of setup payload past heard actor (Clc s dir) ∷ past))) (sym core) (stands-so actor)) posts posts-so number n
                (λ m st. wire m (subst (λ w. Represents w m) core st)) flows)
                (theirs-then setup payload past heard (Clc s dir) own theirs before few known lands-none unmoved-by silent-by actor l
                (subst (λ (m : Manager Half). Represents l.core m) (made-alike r u.link (manager_of setup payload (buffer_of setup payload (other (other dir)) 1 past ∷ []) (other (other dir)) past) link-there ∙ sym (theirs-so actor)) (side_too _ h.side))
                wire_too (ap length flows_too ∙ (length-set theirs.flows.items s (takes_next u.message (outflow_at s theirs.flows.items)) ∙ h.sockets))
                (subst (λ fs. Flowing payload setup.sockets (other (other dir)) (entry_of setup payload past heard actor (Clc s dir) ∷ past) fs) (sym flows_too) (over-flows actor takes)));
          }
