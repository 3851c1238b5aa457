-- An entry in which a side takes a CLC message, or finds none: what both managers are then and what is posted, where each socket had its lending.
use Rattle.clc_handshake.specs.Stages.{Hand, after_step, named_group}
use Rattle.clc_wire.specs.Clc.{clc_length}
use Rattle.clc_wire.specs.declared.offer.Offer.{Offer}
use Rattle.clc_wire.specs.declared.refusal.Refusal.{Refusal}
use Rattle.pipe_model.specs.Ends.{Half}
use Rattle.pipe_model.specs.Fabric.{table_of}
use Rattle.pipe_model.specs.Handshake.{lacks, on_accept, on_confirm, on_proposal}
use Rattle.pipe_model.specs.History.{Offered, offered}
use Rattle.pipe_model.specs.Lending.{free_places}
use Rattle.pipe_model.specs.Messages.{proposal}
use Rattle.pipe_model.specs.Pipe.{half}
use Rattle.pipe_model.specs.Posts.{offered_place}
use Rattle.pipe_model.specs.declared.entry.Entry.{Entry}
use Rattle.pipe_model.specs.declared.post.Post.{Post}
use Rattle.pipe_model.specs.declared.reply.Hold.{Hold}
use Rattle.pipe_model.specs.declared.setup.Setup.{Setup}
use Rattle.rmb_region.specs.Regions.{Buffer}
use Rattle.side_core.specs.Desk.{makes_link}
use Rattle.side_core.specs.Manager.{Manager, hand_at, no_hand, state_at, with_hand}
use Rattle.side_core.specs.Taking.{by_verdict, takes_message, taking_posts, taking_told, verdict_at, verdict_posts, verdict_risen, with_desk}
use Rattle.smc_num.specs.Links.{live_links}
use Rattle.smc_num.specs.Names.{head, no_link, other}
use Rattle.smc_num.specs.declared.LinkId.{LinkId}
use Rattle.smc_num.specs.declared.Side.{Side}
use Rattle.smc_num.specs.declared.Side.TheVariants.{A, B}
use Rattle.std.proofs.Common.{true≢false, Bool, List, [], ap, eqb-true, false, filter_map, if◌then◌else◌, inl, inr, length, refl, subst, suc, sym, true, zero, ℕ, ◌++◌, ◌<◌, ◌==◌, ◌∙◌, ◌∷◌, ◌≡◌, ◌⊎◌}
use Rattle.std.specs.Prelude.{None, Option, Some, option_map, slice_index_or, slice_set, unwrap_or}
use Rattle.world_core.proofs.AcceptEntries.{first-accepted, later-accepted}
use Rattle.world_core.proofs.ConfirmEntries.{IsFirstConfirmed, first-confirmed}
use Rattle.world_core.proofs.EndedRows.{AreOf}
use Rattle.world_core.proofs.FreshEnds.{fresh-ends}
use Rattle.world_core.proofs.Handshaken.{shaken}
use Rattle.world_core.proofs.LastingLendings.{has_fallen, lendings-last}
use Rattle.world_core.proofs.LaterConfirms.{later-confirmed}
use Rattle.world_core.proofs.LaterManagers.{new_end}
use Rattle.world_core.proofs.LendingFacts.{each-map, played-lendings, sub-lent}
use Rattle.world_core.proofs.Lendings.{lent-to-up}
use Rattle.world_core.proofs.LentRows.{same-verdict}
use Rattle.world_core.proofs.QuietEvents.{by-side, entry-of}
use Rattle.world_core.proofs.QuietManagers.{clc-held, clc-idle}
use Rattle.world_core.proofs.QuitManagers.{confirm-refused}
use Rattle.world_core.proofs.TakenAlone.{IsTakenBy, accept-declined, answer-refused, paths_of, proposal-declined}
use Rattle.world_core.specs.Agreement.{IsShaken}
use Rattle.world_core.specs.Lent.{AreLendings, IsOfOffer}
use Rattle.world_core.specs.Managers.{HasLendings, manager_of}
use Rattle.world_core.specs.OneLink.{Begun, IsAtStage, LiveAtBoth, Made, Stage, the_link}
use Rattle.world_core.specs.Played.{IsOneLink, IsPlayed}
use Rattle.world_core.specs.Sockets.{Socket, Proposed, Refused, FirstAccepted, FirstConfirmed, Accepted, AcceptRefused, Confirmed, StandsAt, IsWorld, IsOffer, suits, end_at, untaken_at, offered_at, on_link}
use Rattle.pipe_model.specs.declared.event.Event.TheVariants.{Clc}
use Rattle.pipe_model.specs.declared.reply.Reply.{Reply}
use Rattle.pipe_model.specs.declared.reply.Reply.TheVariants.{Idle, Held, Sent, Declined, Established, FellBack}
use Rattle.pipe_model.specs.declared.reply.SentKind.TheVariants.{Accept as AcceptSent, Confirm as ConfirmSent, ConfirmLink as LinkSent}
use Rattle.pipe_model.specs.declared.verdict.ClcStep.{ClcStep}
use Rattle.pipe_model.specs.declared.verdict.ClcStep.TheVariants.{SendAccept, SendConfirm, Wait, Decline, Fell, Ready}
use Rattle.clc_wire.specs.declared.message.ClcMessage.{ClcMessage}
use Rattle.clc_wire.specs.declared.message.ClcMessage.TheVariants.{Proposal as ProposalMessage, Accept as AcceptMessage, Confirm as ConfirmMessage, Decline as DeclineMessage}
use Rattle.pipe_model.specs.Connections.{EndState, WaitsProposal, end_state, early_state, after_event, after_loss, is_up, named_link, group_on}
use Rattle.world_core.proofs.Offers.{has-free, unlent-free, none-lent}
use Rattle.world_core.proofs.Verdicts.{OnProposal, OnAccept, refuses, holds, begins, joins, on-proposal, on-first, on-later, on-confirm}
use Rattle.world_core.proofs.PlayedWorlds.{played as has-world}
use Rattle.world_core.proofs.Handshakes.{offer-of}
use Rattle.world_core.proofs.ReadyManagers.{asks-to-confirm}
use Rattle.world_core.proofs.EstablishedManagers.{comes-up-later}
use Rattle.world_core.proofs.TakenMessages.{end-is, told-is, begun-with, made-with, live-with, verdict-is, front-is}
use Rattle.pipe_model.specs.Fallback.{Whole, front, front_of_posts}
use Rattle.pipe_model.specs.Replies.{clc_step, clc_told, expects, front_told, step_told}
use Rattle.world_core.proofs.LinkFacts.{no-group-ends-with}
use Rattle.pipe_model.specs.Lending.{Lending, lends, lent, leaves_handshake, pipe_of}
use Rattle.side_core.specs.Landing.{is_wait}
use Rattle.world_core.proofs.Plain.{if-same, and-false, none-some}

-- what becomes of the manager of the peer: where A has sent the Confirm of first contact, the link is made there
abbrev pub link_with : Reply → Manager Half → Manager Half
link_with (Sent ConfirmSent) m = with_desk (makes_link the_link) m
link_with _ m = m

-- the link that a side's message on a socket is about
abbrev pub link_of : Side → ℕ → List Entry → LinkId
link_of dir s past = unwrap_or (option_map (λ (o : Offered). o.link) (offered dir s past)) no_link

-- an entry in which a side takes a message: its reply, its posts and its manager are what its manager makes of the message
pub record IsTaken (setup : Setup) (payload : List ℕ) (regions : List Buffer) (x : Side) (s : ℕ) (m : ClcMessage) (link : LinkId) (e : Entry) (past : List Entry) : Type 0 where
  pub reply : e.reply ≡ taking_told s m (paths_of past) (manager_of setup payload regions x past)
  pub posts : e.posts ≡ taking_posts s m link (paths_of past) (manager_of setup payload regions x past)
  pub own : manager_of setup payload regions x (e ∷ past) ≡ takes_message s m link (paths_of past) (manager_of setup payload regions x past)
  pub theirs : manager_of setup payload regions (other x) (e ∷ past) ≡ link_with e.reply (manager_of setup payload regions (other x) past)

-- that a Confirm of first contact is sent by A alone, as it takes the Accept of B
pub record Confirms (setup : Setup) (x : Side) (s : ℕ) (past : List Entry) : Type 0 where
  pub side : x ≡ A
  pub begun : IsAtStage setup (Begun s) past
  pub link : link_of B s past ≡ the_link

-- that, and each socket has its lending
pub record IsTakenSo (setup : Setup) (payload : List ℕ) (regions : List Buffer) (x : Side) (s : ℕ) (m : ClcMessage) (link : LinkId) (e : Entry) (past : List Entry) : Type 0 where
  pub taken : IsTaken setup payload regions x s m link e past
  pub confirms : e.reply ≡ Sent ConfirmSent → Confirms setup x s past
  pub lendings_are : HasLendings setup payload (e ∷ past)

-- an entry in which nothing is taken
pub record IsIdle (setup : Setup) (payload : List ℕ) (regions : List Buffer) (e : Entry) (past : List Entry) : Type 0 where
  pub reply : e.reply ≡ Idle
  pub posts : e.posts ≡ []
  pub both : (x : Side) → manager_of setup payload regions x (e ∷ past) ≡ manager_of setup payload regions x past

-- that, and each socket has its lending
pub record IsIdleSo (setup : Setup) (payload : List ℕ) (regions : List Buffer) (e : Entry) (past : List Entry) : Type 0 where
  pub idle : IsIdle setup payload regions e past
  pub lendings_are : HasLendings setup payload (e ∷ past)

-- a message that is held changes nothing
map-get : {X : Type 0} (xs : List X) (s : ℕ) (d : X) → slice_set xs s (slice_index_or xs s d) ≡ xs
map-get [] s d = refl
map-get (x ∷ xs) zero d = refl
map-get (x ∷ xs) (suc s) d = ap (λ ys. x ∷ ys) (map-get xs s d)

held-by : (s : ℕ) (m : ClcMessage) (link : LinkId) (paths : List Bool) (v : Manager Half) (step : ClcStep) → is_wait step ≡ true
    → (with_hand s (record (hand_at s v) { state = after_step step m (state_at s v) }) (by_verdict s m link paths v step) ≡ v) × (verdict_posts s m link paths v step ++ verdict_risen s m link v step ≡ [])
held-by s m link paths v (Wait hold) e = (ap (λ (hs : List Hand). record v { hands = hs }) (map-get v.hands s no_hand), refl)
held-by s m link paths v _ e = absurd (true≢false (sym e))

pub held : (s : ℕ) (m : ClcMessage) (link : LinkId) (paths : List Bool) (v : Manager Half) → is_wait (verdict_at s m paths v) ≡ true
    → (takes_message s m link paths v ≡ v) × (taking_posts s m link paths v ≡ [])
held s m link paths v e = held-by s m link paths v (verdict_at s m paths v) e

-- each lending of a socket is of the place that its side offered there
of-place : (setup : Setup) (payload : List ℕ) (x : Side) (s : ℕ) (past : List Entry) (ob : Offer) → offered x s past ≡ on_link ob → AreLendings setup payload x past → AreOf s (offered_place ob) (lent setup payload x past)
of-place setup payload x s past ob ours a =
    each-map (IsOfOffer x past) (λ k. (k.s == s) ≡ true → k.place ≡ offered_place ob) of (lent setup payload x past) (sub-lent setup payload x (IsOfOffer x past) past a.offers)
  where
    same : (a b : Offer) → on_link a ≡ on_link b → a ≡ b
    same a b e = ap (λ q. unwrap_or (option_map (λ (p : Offered). p.offer) q) a) e

    of : (k : Lending) → IsOfOffer x past k → (k.s == s) ≡ true → k.place ≡ offered_place ob
    of k f e =
        let g = f.1 in
        let here : offered x k.s past ≡ on_link ob = ap (λ t. offered x t past) (eqb-true k.s s e) ∙ ours in
        let is : f.0 ≡ ob = same f.0 ob (sym g.0 ∙ here) in
        ap (λ l. l.place) g.1 ∙ ap (λ o. offered_place o) is

module _ (setup : Setup) (one : IsOneLink setup) (payload : List ℕ) (regions : List Buffer) (past : List Entry) (stage : Stage) (world : IsWorld setup stage past) (was : HasLendings setup payload past) (actor n s : ℕ) (posts : List Post) (known : s < setup.sockets) where
  abbrev Plays : Side → Reply → Type 0
  Plays dir reply = IsPlayed setup payload (entry-of actor (Clc s dir) reply posts ∷ past) n

  shaken-now : (dir : Side) (reply : Reply) → Plays dir reply → IsShaken setup (entry-of actor (Clc s dir) reply posts ∷ past)
  shaken-now dir reply p = shaken setup one payload (entry-of actor (Clc s dir) reply posts ∷ past) n p

  fresh-at : (x : Side) → is_up A s past ≡ false → is_up B s past ≡ false → (before : ℕ) → IsPlayed setup payload past before → half x (pipe_of setup payload 1 s past) ≡ new_end setup.number (live_links (table_of x past))
  fresh-at x a b before q = fresh-ends setup one payload past before q s a b x

  -- a message is taken
  from-alone : (dir : Side) (reply : Reply) (m : ClcMessage) (link : LinkId) → ((v : Manager Half) → link_with reply v ≡ v) → (reply ≡ Sent ConfirmSent → ⊥)
      → IsTakenBy setup payload regions (other dir) s m link (entry-of actor (Clc s dir) reply posts) past → IsTakenSo setup payload regions (other dir) s m link (entry-of actor (Clc s dir) reply posts) past
  from-alone dir reply m link same other_reply t = record {
    confirms = λ e. absurd (other_reply e);
    taken = record { reply = t.reply; posts = t.posts; own = t.own; theirs = t.theirs ∙ sym (same (manager_of setup payload regions (other (other dir)) past)) };
    lendings_are = t.lendings_are;
  }

  abbrev Goal : Side → Reply → ClcMessage → LinkId → Type 0
  Goal dir reply m link = IsTakenSo setup payload regions (other dir) s m link (entry-of actor (Clc s dir) reply posts) past

  -- from what is told to what is so
  told-so : (dir : Side) (reply told : Reply) (m : ClcMessage) (link : LinkId) → Plays dir reply → reply ≡ told → (Plays dir told → Goal dir told m link) → Goal dir reply m link
  told-so dir reply told m link p e f = subst (λ r. Goal dir r m link) (sym e) (f (subst (λ r. Plays dir r) e p))

  -- what an entry with this verdict is told
  told-by : (k : Socket) (dir : Side) (m : ClcMessage) (step : ClcStep) → StandsAt setup k s past → expects (end_at k (other dir)) ≡ true → head (untaken_at setup k dir) ≡ Some m
      → clc_step setup payload (other dir) s m past ≡ step → (reply : Reply) → Plays dir reply → reply ≡ step_told (group_on s past) m step
  told-by k dir m step at waits first e reply p =
      let made = p.1 in
      made.reply
      ∙ (told-is setup payload k s dir past at
      ∙ (ap (λ b. if b then front_told setup payload (other dir) s past (front_of_posts (head (untaken_at setup k dir))) else Idle) waits
      ∙ (ap (λ o. front_told setup payload (other dir) s past (front_of_posts o)) first ∙ ap (λ st. step_told (group_on s past) m st) e)))

  front-by : (k : Socket) (dir : Side) (m : ClcMessage) → StandsAt setup k s past → head (untaken_at setup k dir) ≡ Some m → front payload dir s past ≡ Whole m (clc_length m)
  front-by k dir m at first = front-is setup payload k s dir past at ∙ ap (λ o. front_of_posts o) first

  -- an end stays as it was, as long as it is not up
  early-stays : (dir : Side) (reply : Reply) → Plays dir reply → ((x : Side) (t : ℕ) (st : EndState) → after_event x t (Clc s dir) reply st ≡ st)
      → (x : Side) (t : ℕ) → early_state x t (entry-of actor (Clc s dir) reply posts ∷ past) ≡ early_state x t past
  early-stays dir reply p a x t =
      let w = has-world setup one payload (entry-of actor (Clc s dir) reply posts ∷ past) n p in
      ap (λ b. after_loss b (group_on t past) (after_event x t (Clc s dir) reply (early_state x t past))) (no-group-ends-with setup stage w.stage (entry-of actor (Clc s dir) reply posts) past world w.world x (group_on t past))
      ∙ a x t (early_state x t past)

  -- B takes a Proposal
  on-the-proposal : (reply : Reply) → StandsAt setup Proposed s past → Plays A reply → Goal A reply (ProposalMessage (proposal setup)) no_link
  on-the-proposal reply at p = by (on-proposal setup one payload past stage world.link (proposal setup))
    where
      state : end_state B s past ≡ WaitsProposal
      state = end-is setup Proposed s past at B

      step-at : (step : ClcStep) → on_proposal false (proposal setup) (lacks setup payload B past) ≡ step → clc_step setup payload B s (ProposalMessage (proposal setup)) past ≡ step
      step-at step e = verdict-is setup payload Proposed s B past (ProposalMessage (proposal setup)) step at e

      by : OnProposal stage (length (free_places setup payload B past) == 0) (on_proposal false (proposal setup) (lacks setup payload B past)) → Goal A reply (ProposalMessage (proposal setup)) no_link
      by (refuses lack e) =
          told-so A reply (Declined lack) (ProposalMessage (proposal setup)) no_link p (told-by Proposed A (ProposalMessage (proposal setup)) (Decline lack) at refl refl (step-at (Decline lack) e) reply p)
          (λ q. from-alone A (Declined lack) (ProposalMessage (proposal setup)) no_link (λ v. refl) (λ e. cc)
          (proposal-declined setup payload regions stage past one.links world was actor n s posts known (proposal setup) (clc_length (ProposalMessage (proposal setup))) lack state (front-by Proposed A (ProposalMessage (proposal setup)) at refl) (step-at (Decline lack) e) q (shaken-now A (Declined lack) q) no_link))
      by (holds hold e) =
          told-so A reply (Held hold) (ProposalMessage (proposal setup)) no_link p (told-by Proposed A (ProposalMessage (proposal setup)) (Wait hold) at refl refl (step-at (Wait hold) e) reply p)
          (λ q. held-so hold q (step-at (Wait hold) e))
        where
          held-so : (hold : Hold) → Plays A (Held hold) → clc_step setup payload B s (ProposalMessage (proposal setup)) past ≡ Wait hold → Goal A (Held hold) (ProposalMessage (proposal setup)) no_link
          held-so hold q st =
              let here : Manager Half = manager_of setup payload regions B past in
              let v : verdict_at s (ProposalMessage (proposal setup)) (paths_of past) here ≡ Wait hold = same-verdict setup payload B past regions s (ProposalMessage (proposal setup)) one.links known ∙ st in
              let f = held s (ProposalMessage (proposal setup)) no_link (paths_of past) here (ap (λ st. is_wait st) v) in
              let i = clc-held setup payload regions stage past world (lent-to-up setup payload stage past world was) actor n posts s hold (q, shaken-now A (Held hold) q) in
              record {
                taken = record {
                  reply = ap (λ st. step_told (named_group (ProposalMessage (proposal setup))) (ProposalMessage (proposal setup)) st) (sym v);
                  posts = i.posts ∙ sym f.1;
                  own = i.kept B ∙ sym f.0;
                  theirs = i.kept A;
                };
                confirms = λ e. cc;
                lendings_are = lendings-last setup one payload (entry-of actor (Clc s A) (Held hold) posts) past n q was
                    (by-side (λ x. (t : ℕ) → leaves_handshake x t (Clc s A) (Held hold) ≡ false) (λ t. refl) (λ t. and-false (t == s)))
                    (λ x. ap (λ (ps : List Post). filter_map (lends x) ps) i.posts)
                    (λ x t some. ap (λ st. has_fallen st) (early-stays A (Held hold) q (by-side (λ x. (t : ℕ) (st : EndState) → after_event x t (Clc s A) (Held hold) st ≡ st) (λ t st. refl) (λ t st. if-same (t == s) st)) x t));
              }
      by (begins is none e) =
          let f = has-free setup payload B past one.rmbs_b none in
          told-so A reply (Sent AcceptSent) (ProposalMessage (proposal setup)) no_link p (told-by Proposed A (ProposalMessage (proposal setup)) (SendAccept true) at refl refl (step-at (SendAccept true) e) reply p)
          (λ q. from-alone A (Sent AcceptSent) (ProposalMessage (proposal setup)) no_link (λ v. refl) (λ e. cc)
          (first-accepted setup one payload regions past was s known f.0 f.1 (fresh-at B (at.up A) (at.up B) p.0 p.3) (proposal setup) (clc_length (ProposalMessage (proposal setup))) state (front-by Proposed A (ProposalMessage (proposal setup)) at refl) actor n posts q (shaken-now A (Sent AcceptSent) q)
          (subst (λ (st : Stage). IsWorld setup st past) is world) (step-at (SendAccept true) e)))
      by (joins u is none e) =
          let f = has-free setup payload B past one.rmbs_b none in
          told-so A reply (Sent AcceptSent) (ProposalMessage (proposal setup)) no_link p (told-by Proposed A (ProposalMessage (proposal setup)) (SendAccept false) at refl refl (step-at (SendAccept false) e) reply p)
          (λ q. from-alone A (Sent AcceptSent) (ProposalMessage (proposal setup)) no_link (λ v. refl) (λ e. cc)
          (later-accepted setup one payload regions past was s known f.0 f.1 (fresh-at B (at.up A) (at.up B) p.0 p.3) (proposal setup) (clc_length (ProposalMessage (proposal setup))) state (front-by Proposed A (ProposalMessage (proposal setup)) at refl) actor n posts q (shaken-now A (Sent AcceptSent) q)
          u (subst (λ (st : Stage). IsWorld setup st past) is world) (step-at (SendAccept false) e)))

  -- A takes a Decline
  on-the-decline : (reply : Reply) (r : Refusal) → StandsAt setup (Refused r) s past → Plays B reply → Goal B reply (DeclineMessage r) no_link
  on-the-decline reply r at p =
      let st = verdict-is setup payload (Refused r) s A past (DeclineMessage r) Fell at refl in
      told-so B reply FellBack (DeclineMessage r) no_link p (told-by (Refused r) B (DeclineMessage r) Fell at refl refl st reply p)
      (λ q. from-alone B FellBack (DeclineMessage r) no_link (λ v. refl) (λ e. cc)
      (answer-refused setup payload regions stage past one.links world was actor n s posts known r (clc_length (DeclineMessage r)) (end-is setup (Refused r) s past at A) (front-by (Refused r) B (DeclineMessage r) at refl) st q (shaken-now B FellBack q) no_link))

  -- A takes the Accept of first contact
  on-the-first-accept : (reply : Reply) (o : Offer) → StandsAt setup (FirstAccepted o) s past → stage ≡ Begun s → Plays B reply → Goal B reply (AcceptMessage o) the_link
  on-the-first-accept reply o at begun p =
      let w : IsWorld setup (Begun s) past = subst (λ (st : Stage). IsWorld setup st past) begun world in
      let i : IsOffer setup B true o = offer-of setup (FirstAccepted o) B o at.offers refl in
      let v : on_accept o (lacks setup payload A past) ≡ SendConfirm true = on-first setup payload past s o w.link i.first_is in
      let st = verdict-is setup payload (FirstAccepted o) s A past (AcceptMessage o) (SendConfirm true) at v in
      let f = unlent-free setup payload A past one.rmbs_a (none-lent setup payload A past (w.unlent A refl)) one.elements_a in
      told-so B reply (Sent ConfirmSent) (AcceptMessage o) the_link p (told-by (FirstAccepted o) B (AcceptMessage o) (SendConfirm true) at refl refl st reply p)
      (λ q. so (first-confirmed setup one payload regions past s w was known f.0 f.1 (fresh-at A (at.up A) (at.up B) p.0 p.3) o (clc_length (AcceptMessage o)) (at.offer B) (front-by (FirstAccepted o) B (AcceptMessage o) at refl) st actor n posts q (shaken-now B (Sent ConfirmSent) q)))
    where
      at_begun : IsAtStage setup (Begun s) past
      at_begun = subst (λ (st : Stage). IsAtStage setup st past) begun world.link

      so : IsFirstConfirmed setup payload regions s o (entry-of actor (Clc s B) (Sent ConfirmSent) posts) past → Goal B (Sent ConfirmSent) (AcceptMessage o) the_link
      so t = record { taken = record { reply = t.taken; posts = t.posts; own = t.own; theirs = t.theirs }; confirms = λ e. record { side = refl; begun = at_begun; link = ap (λ (q : Option Offered). unwrap_or (option_map (λ r. r.link) q) no_link) (at.offer B) }; lendings_are = t.lendings_are }

  named-by : (k : Socket) (o : Offer) → StandsAt setup k s past → offered_at k B ≡ on_link o → named_link s past ≡ Some the_link
  named-by k o at e = ap (λ (q : Option Offered). option_map (λ r. r.link) q) (at.offer B ∙ e)

  -- B takes the Confirm of first contact
  on-the-first-confirm : (reply : Reply) (o c : Offer) → StandsAt setup (FirstConfirmed o c) s past → stage ≡ Made s → Plays A reply → Goal A reply (ConfirmMessage c) the_link
  on-the-first-confirm reply o c at made p =
      let w : IsWorld setup (Made s) past = subst (λ (st : Stage). IsWorld setup st past) made world in
      let j : IsOffer setup A true c = offer-of setup (FirstConfirmed o c) A c at.offers refl in
      let v : on_confirm c (lacks setup payload B past) ≡ Ready = on-confirm setup payload past (Made s) c w.link refl j.psn in
      let st = verdict-is setup payload (FirstConfirmed o c) s B past (ConfirmMessage c) Ready at v in
      told-so A reply (Sent LinkSent) (ConfirmMessage c) the_link p (told-by (FirstConfirmed o c) A (ConfirmMessage c) Ready at refl refl st reply p ∙ ap (λ b. if b then Sent LinkSent else Established) j.first_is)
      (λ q. from-alone A (Sent LinkSent) (ConfirmMessage c) the_link (λ v. refl) (λ e. cc)
      (asks-to-confirm setup payload regions past one.links s w was actor n posts known c (clc_length (ConfirmMessage c)) (at.offer A) (named-by (FirstConfirmed o c) o at refl) j.first_is (end-is setup (FirstConfirmed o c) s past at B) (at.up B)
      (front-by (FirstConfirmed o c) A (ConfirmMessage c) at refl) st q (shaken-now A (Sent LinkSent) q)))

  -- A takes an Accept of later contact
  on-the-later-accept : (u : ℕ) (reply : Reply) (o : Offer) → StandsAt setup (Accepted o) s past → stage ≡ LiveAtBoth u → Plays B reply → Goal B reply (AcceptMessage o) the_link
  on-the-later-accept u reply o at live p = by (on-later setup one payload past u o (let v = w in v.link) (let j = i in j.first_is) (let j = i in j.psn))
    where
      w : IsWorld setup (LiveAtBoth u) past
      w = subst (λ (st : Stage). IsWorld setup st past) live world

      i : IsOffer setup B false o
      i = offer-of setup (Accepted o) B o at.offers refl

      step-at : (step : ClcStep) → on_accept o (lacks setup payload A past) ≡ step → clc_step setup payload A s (AcceptMessage o) past ≡ step
      step-at step e = verdict-is setup payload (Accepted o) s A past (AcceptMessage o) step at e

      by : OnAccept (length (free_places setup payload A past) == 0) (on_accept o (lacks setup payload A past)) → Goal B reply (AcceptMessage o) the_link
      by (refuses lack e) =
          told-so B reply (Declined lack) (AcceptMessage o) the_link p (told-by (Accepted o) B (AcceptMessage o) (Decline lack) at refl refl (step-at (Decline lack) e) reply p)
          (λ q. from-alone B (Declined lack) (AcceptMessage o) the_link (λ v. refl) (λ e. cc)
          (accept-declined setup payload regions stage past one.links world was actor n s posts known o (clc_length (AcceptMessage o)) lack (end-is setup (Accepted o) s past at A) (front-by (Accepted o) B (AcceptMessage o) at refl) (step-at (Decline lack) e) q (shaken-now B (Declined lack) q) the_link))
      by (joins none e) =
          let f = has-free setup payload A past one.rmbs_a none in
          told-so B reply Established (AcceptMessage o) the_link p (told-by (Accepted o) B (AcceptMessage o) (SendConfirm false) at refl refl (step-at (SendConfirm false) e) reply p)
          (λ q. from-alone B Established (AcceptMessage o) the_link (λ v. refl) (λ e. cc)
          (later-confirmed setup one payload regions past u s w was known f.0 f.1 (fresh-at A (at.up A) (at.up B) p.0 p.3) o (clc_length (AcceptMessage o)) at (front-by (Accepted o) B (AcceptMessage o) at refl) (step-at (SendConfirm false) e) actor n posts q (shaken-now B Established q)))

  -- B takes a Confirm of later contact
  on-the-later-confirm : (u : ℕ) (reply : Reply) (o c : Offer) → StandsAt setup (Confirmed o c) s past → stage ≡ LiveAtBoth u → Plays A reply → Goal A reply (ConfirmMessage c) the_link
  on-the-later-confirm u reply o c at live p =
      let w : IsWorld setup (LiveAtBoth u) past = subst (λ (st : Stage). IsWorld setup st past) live world in
      let j : IsOffer setup A false c = offer-of setup (Confirmed o c) A c at.offers refl in
      let v : on_confirm c (lacks setup payload B past) ≡ Ready = on-confirm setup payload past (LiveAtBoth u) c w.link refl j.psn in
      let st = verdict-is setup payload (Confirmed o c) s B past (ConfirmMessage c) Ready at v in
      told-so A reply Established (ConfirmMessage c) the_link p (told-by (Confirmed o c) A (ConfirmMessage c) Ready at refl refl st reply p ∙ ap (λ b. if b then Sent LinkSent else Established) j.first_is)
      (λ q. from-alone A Established (ConfirmMessage c) the_link (λ v. refl) (λ e. cc)
      (comes-up-later setup payload regions past one.links u s w was actor n posts known c (clc_length (ConfirmMessage c)) (at.offer A) (named-by (Confirmed o c) o at refl) j.first_is j.rmb (end-is setup (Confirmed o c) s past at B) (at.up B)
      (front-by (Confirmed o c) A (ConfirmMessage c) at refl) st q (shaken-now A Established q) o (at.offer B)))

  -- B takes the Decline of A
  on-the-refusal : (reply : Reply) (o : Offer) (r : Refusal) → StandsAt setup (AcceptRefused o r) s past → Plays A reply → Goal A reply (DeclineMessage r) no_link
  on-the-refusal reply o r at p =
      let i : IsOffer setup B false o = offer-of setup (AcceptRefused o r) B o at.offers refl in
      let st = verdict-is setup payload (AcceptRefused o r) s B past (DeclineMessage r) Fell at refl in
      let a : AreLendings setup payload B past = played-lendings setup one payload past p.0 p.3 B in
      told-so A reply FellBack (DeclineMessage r) no_link p (told-by (AcceptRefused o r) A (DeclineMessage r) Fell at refl refl st reply p)
      (λ q. from-alone A FellBack (DeclineMessage r) no_link (λ v. refl) (λ e. cc)
      (confirm-refused setup payload regions stage past one.links one.rmbs_b world was actor n s posts r (clc_length (DeclineMessage r)) o known (at.offer B) i (end-is setup (AcceptRefused o r) s past at B) (at.up B) a.places
      (of-place setup payload B s past o (at.offer B) a) (front-by (AcceptRefused o r) A (DeclineMessage r) at refl) st q (shaken-now A FellBack q) no_link))

  -- whatever is taken
  with-message : (dir : Side) (reply : Reply) (link : LinkId) (a m : ClcMessage) → Some a ≡ Some m → Goal dir reply a link → Goal dir reply m link
  with-message dir reply link a m e g = subst (λ c. Goal dir reply c link) (ap (λ q. unwrap_or q a) e) g

  on-offer : (k : Socket) (dir : Side) (o : Offer) → StandsAt setup k s past → offered_at k dir ≡ on_link o → the_link ≡ link_of dir s past
  on-offer k dir o at e = sym (ap (λ (q : Option Offered). unwrap_or (option_map (λ r. r.link) q) no_link) (at.offer dir ∙ e))

  no-offer : (k : Socket) (dir : Side) → StandsAt setup k s past → offered_at k dir ≡ None → no_link ≡ link_of dir s past
  no-offer k dir at e = sym (ap (λ (q : Option Offered). unwrap_or (option_map (λ r. r.link) q) no_link) (at.offer dir ∙ e))

  at-link : (dir : Side) (reply : Reply) (m : ClcMessage) (a b : LinkId) → a ≡ b → Goal dir reply m a → Goal dir reply m b
  at-link dir reply m a b e g = subst (λ l. Goal dir reply m l) e g

  pub clc-taken : (k : Socket) (dir : Side) (reply : Reply) (m : ClcMessage) → StandsAt setup k s past → suits stage s k ≡ true → Plays dir reply → expects (end_at k (other dir)) ≡ true → head (untaken_at setup k dir) ≡ Some m
      → Goal dir reply m (link_of dir s past)
  clc-taken Proposed A reply m at suit p waits first =
      at-link A reply m no_link (link_of A s past) (no-offer Proposed A at refl) (with-message A reply no_link (ProposalMessage (proposal setup)) m first (on-the-proposal reply at p))
  clc-taken (Refused r) B reply m at suit p waits first =
      at-link B reply m no_link (link_of B s past) (no-offer (Refused r) B at refl) (with-message B reply no_link (DeclineMessage r) m first (on-the-decline reply r at p))
  clc-taken (FirstAccepted o) B reply m at suit p waits first =
      at-link B reply m the_link (link_of B s past) (on-offer (FirstAccepted o) B o at refl) (with-message B reply the_link (AcceptMessage o) m first (on-the-first-accept reply o at (begun-with stage s o suit) p))
  clc-taken (FirstConfirmed o c) A reply m at suit p waits first =
      at-link A reply m the_link (link_of A s past) (on-offer (FirstConfirmed o c) A c at refl) (with-message A reply the_link (ConfirmMessage c) m first (on-the-first-confirm reply o c at (made-with stage s o c suit) p))
  clc-taken (Accepted o) B reply m at suit p waits first =
      let u = live-with stage s (Accepted o) refl refl suit in
      at-link B reply m the_link (link_of B s past) (on-offer (Accepted o) B o at refl) (with-message B reply the_link (AcceptMessage o) m first (on-the-later-accept u.0 reply o at u.1 p))
  clc-taken (AcceptRefused o r) A reply m at suit p waits first =
      at-link A reply m no_link (link_of A s past) (no-offer (AcceptRefused o r) A at refl) (with-message A reply no_link (DeclineMessage r) m first (on-the-refusal reply o r at p))
  clc-taken (Confirmed o c) A reply m at suit p waits first =
      let u = live-with stage s (Confirmed o c) refl refl suit in
      at-link A reply m the_link (link_of A s past) (on-offer (Confirmed o c) A c at refl) (with-message A reply the_link (ConfirmMessage c) m first (on-the-later-confirm u.0 reply o c at u.1 p))
  clc-taken k A reply m at suit p waits first = absurd (none-some m first)
  clc-taken k B reply m at suit p waits first = absurd (none-some m first)

  -- nothing is taken
  idle-told : (dir : Side) (k : Socket) → StandsAt setup k s past → (expects (end_at k (other dir)) ≡ false) ⊎ (head (untaken_at setup k dir) ≡ None) → clc_told setup payload s dir past ≡ Idle
  idle-told dir k at (inl e) = told-is setup payload k s dir past at ∙ ap (λ b. if b then front_told setup payload (other dir) s past (front_of_posts (head (untaken_at setup k dir))) else Idle) e
  idle-told dir k at (inr e) =
      told-is setup payload k s dir past at
      ∙ (ap (λ o. if expects (end_at k (other dir)) then front_told setup payload (other dir) s past (front_of_posts o) else Idle) e
      ∙ if-same (expects (end_at k (other dir))) Idle)

  idle-so : (dir : Side) → Plays dir Idle → IsIdleSo setup payload regions (entry-of actor (Clc s dir) Idle posts) past
  idle-so dir q =
      let i = clc-idle setup payload regions stage past world (lent-to-up setup payload stage past world was) actor n posts s dir (q, shaken-now dir Idle q) in
      record {
        idle = record { reply = refl; posts = i.posts; both = i.kept };
        lendings_are = lendings-last setup one payload (entry-of actor (Clc s dir) Idle posts) past n q was
            (stays dir)
            (λ x. ap (λ (ps : List Post). filter_map (lends x) ps) i.posts)
            (λ x t some. ap (λ st. has_fallen st) (early-stays dir Idle q (after dir) x t));
      }
    where
      stays : (d : Side) (x : Side) (t : ℕ) → leaves_handshake x t (Clc s d) Idle ≡ false
      stays A = by-side (λ x. (t : ℕ) → leaves_handshake x t (Clc s A) Idle ≡ false) (λ t. refl) (λ t. and-false (t == s))
      stays B = by-side (λ x. (t : ℕ) → leaves_handshake x t (Clc s B) Idle ≡ false) (λ t. and-false (t == s)) (λ t. refl)

      after : (d : Side) (x : Side) (t : ℕ) (st : EndState) → after_event x t (Clc s d) Idle st ≡ st
      after A = by-side (λ x. (t : ℕ) (st : EndState) → after_event x t (Clc s A) Idle st ≡ st) (λ t st. refl) (λ t st. if-same (t == s) st)
      after B = by-side (λ x. (t : ℕ) (st : EndState) → after_event x t (Clc s B) Idle st ≡ st) (λ t st. if-same (t == s) st) (λ t st. refl)

  pub clc-idles : (dir : Side) (reply : Reply) (k : Socket) → StandsAt setup k s past → Plays dir reply → (expects (end_at k (other dir)) ≡ false) ⊎ (head (untaken_at setup k dir) ≡ None)
      → IsIdleSo setup payload regions (entry-of actor (Clc s dir) reply posts) past
  clc-idles dir reply k at p none =
      let made = p.1 in
      let e : reply ≡ Idle = made.reply ∙ idle-told dir k at none in
      subst (λ r. IsIdleSo setup payload regions (entry-of actor (Clc s dir) r posts) past) (sym e) (idle-so dir (subst (λ r. Plays dir r) e p))
