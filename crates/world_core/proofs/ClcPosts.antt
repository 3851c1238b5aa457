-- Which posts of an entry are CLC messages: at most one, of the side that acts, whose end has not fallen back and has none untaken.
use Rattle.std.proofs.Common.{◌≡◌, ◌∙◌, ap, sym, subst, refl}
use Rattle.std.proofs.lemmas.Bool.{eqb-true, eq-eqb}
use Rattle.std.specs.Prelude.{Bool, List, None, Option, Some, [], false, filter_map, if◌then◌else◌, length, option_map, true, ℕ, ◌&&◌, ◌||◌, ◌++◌, ◌==◌, ◌<◌, ◌∷◌, not, slice_index_or}
use Rattle.std.specs.List.{cons_option}
use Rattle.std.specs.Option.{option_or}
use Rattle.smc_num.specs.declared.Side.{Side}
use Rattle.smc_num.specs.declared.Side.TheVariants.{A, B}
use Rattle.smc_num.specs.declared.LinkId.{LinkId}
use Rattle.smc_num.specs.Names.{other, head, same_side}
use Rattle.clc_wire.specs.declared.offer.Offer.{Offer}
use Rattle.clc_wire.specs.declared.proposal.Proposal.{Proposal}
use Rattle.clc_wire.specs.declared.message.ClcMessage.{ClcMessage}
use Rattle.clc_wire.specs.declared.message.ClcMessage.TheVariants.{Proposal as ProposalMessage, Accept as AcceptMessage, Confirm as ConfirmMessage, Decline as DeclineMessage}
use Rattle.pipe_model.specs.declared.reply.Lack.{Lack}
use Rattle.pipe_model.specs.declared.reply.Lack.TheVariants.{NotCapable, NoSubnet, NoServerElement, NoClientElement, NoSlot, GroupLost}
use Rattle.pipe_model.specs.declared.reply.Hold.TheVariants.{FirstContact as FirstContactHold, AddLink as AddLinkHold, ConfirmRkey as ConfirmRkeyHold, DeleteRkey as DeleteRkeyHold, OldGroup}
use Rattle.pipe_model.specs.Flows.{is_asked, is_deleting}
use Rattle.pipe_model.specs.declared.reply.Reply.{Reply}
use Rattle.pipe_model.specs.declared.reply.Reply.TheVariants.{Idle, Opened, NameUsed, Declined}
use Rattle.pipe_model.specs.declared.event.Event.{Event}
use Rattle.pipe_model.specs.declared.event.Event.TheVariants.{Open, Write, Read, Clc as ClcEvent, Deliver, Complete}
use Rattle.pipe_model.specs.declared.post.Post.{Post}
use Rattle.pipe_model.specs.declared.post.Post.TheVariants.{Write as WritePost, Cdc, Llc, Clc}
use Rattle.pipe_model.specs.declared.verdict.ClcStep.{ClcStep}
use Rattle.pipe_model.specs.declared.verdict.ClcStep.TheVariants.{SendAccept, SendConfirm, AskKey, Wait, Decline, Fell, Ready, Lost, Wrong}
use Rattle.pipe_model.specs.declared.verdict.Lacks.{Lacks}
use Rattle.pipe_model.specs.declared.setup.Setup.{Setup}
use Rattle.pipe_model.specs.declared.entry.Entry.{Entry}
use Rattle.pipe_model.specs.History.{Offered, offered, offer_in, offered_if}
use Rattle.pipe_model.specs.Wires.{landing}
use Rattle.pipe_model.specs.Fabric.{act_of}
use Rattle.pipe_model.specs.Connections.{end_state}
use Rattle.pipe_model.specs.Handshake.{lacks, verdict, on_proposal, on_accept}
use Rattle.pipe_model.specs.Fallback.{Front, front, front_of, front_of_posts, stream, untaken, is_fallen, is_fallen_state, is_opened, is_raw, clc_in}
use Rattle.pipe_model.specs.Messages.{proposal, refusal}
use Rattle.pipe_model.specs.Posts.{clc_posts, new_offer, connection_posts}
use Rattle.pipe_model.specs.Replies.{clc_step, open_told, told}
use Rattle.pipe_model.specs.Lawful.{asked, draft, front_posts, reply_of}
use Rattle.pipe_model.specs.Fits.{Fits}
use Rattle.world_core.specs.Played.{IsMade, IsOneLink, IsPlayed}
use Rattle.world_core.specs.Sockets.{Accepted, AcceptFallen, AcceptRefused, AwaitsLink, Confirmed, Fallen, FirstAccepted, FirstConfirmed, FirstUp, FirstUpAtA, HasWorld, IsWorld, Proposed, Refused, Socket, StandsAt, Unopened, Up, end_at, offered_at, opened_at, untaken_at}
use Rattle.world_core.specs.OneLink.{Stage}
use Rattle.world_core.specs.Sending.{acting_side, puts_all}
use Rattle.world_core.specs.Streams.{may_post_clc}
use Rattle.world_core.specs.Views.{AreData}
use Rattle.world_core.specs.WireSteps.{EachPost}
use Rattle.world_core.specs.declared.host.Outflow.{Outflow}
use Rattle.world_core.proofs.AskedPosts.{IsLlc, of-act}
use Rattle.world_core.proofs.DataPosts.{connections-data}
use Rattle.world_core.proofs.PlayedWorlds.{played}
use Rattle.world_core.proofs.TakenMessages.{end-is}
use Rattle.world_core.proofs.Plain.{and-both, same-is}

-- that a post is no CLC message
abbrev pub NoClc : Post → Type 0
NoClc (Clc from s link m) = ⊥
NoClc _ = Unit {0}

-- an offer is made for the link that its message is about
abbrev pub IsOfLink : Setup → List ℕ → Side → List Entry → Option LinkId → Offer → Type 0
IsOfLink setup payload y past None o = ⊥
IsOfLink setup payload y past (Some link) o = (first : Bool) × (o ≡ new_offer setup payload y first link past)

-- a message is one that a side makes after a history
abbrev pub IsNew : Setup → List ℕ → Side → List Entry → Option LinkId → ClcMessage → Type 0
IsNew setup payload y past link (ProposalMessage p) = p ≡ proposal setup
IsNew setup payload y past link (AcceptMessage o) = (y ≡ B) × IsOfLink setup payload y past link o
IsNew setup payload y past link (ConfirmMessage o) = (y ≡ A) × IsOfLink setup payload y past link o
IsNew setup payload y past link (DeclineMessage r) = (lack : Lack) × (r ≡ refusal y lack)

-- what holds as a side posts a message on a socket
pub record IsAsked (setup : Setup) (payload : List ℕ) (past : List Entry) (y : Side) (t : ℕ) (link : Option LinkId) (m : ClcMessage) : Type 0 where
  pub socket : t < setup.sockets
  pub unfallen : is_fallen y t past ≡ false
  pub taken : untaken y t past ≡ []
  pub about : link ≡ option_map (λ o. o.link) (option_or (head (filter_map (offer_in y t) (Clc y t link m ∷ []))) (offered y t past))
  pub new : IsNew setup payload y past link m

-- handshake and flows post no CLC message, or one
data Asks (setup : Setup) (payload : List ℕ) (past : List Entry) (y : Side) (posts : List Post) : Type 0 where
  AsksNone : EachPost NoClc posts → Asks setup payload past y posts
  AsksOne : (t : ℕ) (link : Option LinkId) (m : ClcMessage) → posts ≡ Clc y t link m ∷ [] → IsAsked setup payload past y t link m → Asks setup payload past y posts

-- an entry posts no CLC message, or one of the side that acts
pub data Puts (setup : Setup) (payload : List ℕ) (e : Entry) (past : List Entry) : Type 0 where
  PutsNone : EachPost NoClc e.posts → Puts setup payload e past
  PutsOne : (t : ℕ) (link : Option LinkId) (m : ClcMessage) (more : List Post) → e.posts ≡ Clc (acting_side e.event) t link m ∷ more → EachPost NoClc more
      → IsAsked setup payload past (acting_side e.event) t link m → Puts setup payload e past

-- the offer that goes with a message is that which its side has made then
about-accept : (t : ℕ) (link : LinkId) (o : Offer) (q : Option Offered) → Some link ≡ option_map (λ r. r.link) (option_or (head (filter_map (offer_in B t) (Clc B t (Some link) (AcceptMessage o) ∷ []))) q)
about-accept t link o q = ap (λ b. option_map (λ r. r.link) (option_or (head (cons_option (offered_if b link o) [])) q)) (sym (eq-eqb t t refl))

about-confirm : (t : ℕ) (link : LinkId) (o : Offer) (q : Option Offered) → Some link ≡ option_map (λ r. r.link) (option_or (head (filter_map (offer_in A t) (Clc A t (Some link) (ConfirmMessage o) ∷ []))) q)
about-confirm t link o q = ap (λ b. option_map (λ r. r.link) (option_or (head (cons_option (offered_if b link o) [])) q)) (sym (eq-eqb t t refl))

-- the steps that a side never takes
abbrev SuitsB : ClcStep → Type 0
SuitsB (SendConfirm first) = ⊥
SuitsB _ = Unit {0}

abbrev SuitsA : ClcStep → Type 0
SuitsA (SendAccept first) = ⊥
SuitsA _ = Unit {0}

rows-b : (l : Lacks) (far contact deleting none free slot unready asking adding : Bool) → SuitsB (
    if far then Decline NoSubnet else
    if contact then Wait FirstContactHold else
    if deleting then Wait DeleteRkeyHold else
    if none then Decline (NoServerElement l.elements) else
    if free then (if slot then Decline (NoSlot l.links) else SendAccept true) else
    if unready then (if asking then Wait ConfirmRkeyHold else if adding then Wait AddLinkHold else AskKey) else SendAccept false)
rows-b l true contact deleting none free slot unready asking adding = tt
rows-b l false true deleting none free slot unready asking adding = tt
rows-b l false false true none free slot unready asking adding = tt
rows-b l false false false true free slot unready asking adding = tt
rows-b l false false false false true true unready asking adding = tt
rows-b l false false false false true false unready asking adding = tt
rows-b l false false false false false slot true true adding = tt
rows-b l false false false false false slot true false true = tt
rows-b l false false false false false slot true false false = tt
rows-b l false false false false false slot false asking adding = tt

suits-proposal : (p : Proposal) (l : Lacks) → SuitsB (on_proposal false p l)
suits-proposal p l =
    rows-b l (not ((p.subnet == l.subnet.0) && (p.prefix == l.subnet.1))) l.first_contact (is_deleting l.key_flow) (l.free == 0) (l.group == 0) (l.slots_up == 0) (not l.rmb_ready) (is_asked l.key_flow) l.adding

rows-a : (o : Offer) (l : Lacks) (first old lost deleting none unready asking adding : Bool) → SuitsA (
    if first then (if old then Wait OldGroup else SendConfirm true) else
    if lost then Decline (GroupLost o.psn l.group) else
    if deleting then Wait DeleteRkeyHold else
    if none then Decline (NoClientElement l.elements) else
    if unready then (if asking then Wait ConfirmRkeyHold else if adding then Wait AddLinkHold else AskKey) else SendConfirm false)
rows-a o l true true lost deleting none unready asking adding = tt
rows-a o l true false lost deleting none unready asking adding = tt
rows-a o l false old true deleting none unready asking adding = tt
rows-a o l false old false true none unready asking adding = tt
rows-a o l false old false false true unready asking adding = tt
rows-a o l false old false false false true true adding = tt
rows-a o l false old false false false true false true = tt
rows-a o l false old false false false true false false = tt
rows-a o l false old false false false false asking adding = tt

suits-accept : (o : Offer) (l : Lacks) → SuitsA (on_accept o l)
suits-accept o l = rows-a o l o.first (not (l.group == 0)) (not (o.psn == l.group)) (is_deleting l.key_flow) (l.free == 0) (not l.rmb_ready) (is_asked l.key_flow) l.adding

module _ (setup : Setup) (payload : List ℕ) (past : List Entry) (t : ℕ) (socket : t < setup.sockets) where
  -- what holds at an end that takes a message
  record IsWaiting (y : Side) : Type 0 where
    unfallen : is_fallen y t past ≡ false
    taken : untaken y t past ≡ []
    unoffered : offered y t past ≡ None

  refuses : (y : Side) (lack : Lack) → IsWaiting y → filter_map (offer_in y t) (Clc y t None (DeclineMessage (refusal y lack)) ∷ []) ≡ [] → Asks setup payload past y (Clc y t None (DeclineMessage (refusal y lack)) ∷ [])
  refuses y lack w none = AsksOne t None (DeclineMessage (refusal y lack)) refl (record {
    socket = socket;
    unfallen = w.unfallen;
    taken = w.taken;
    about = ap (λ q. option_map (λ o. o.link) q) (sym w.unoffered) ∙ ap (λ (os : List Offered). option_map (λ o. o.link) (option_or (head os) (offered y t past))) (sym none);
    new = (lack, refl);
  })

  accepts : (first : Bool) (link : LinkId) → IsWaiting B → Asks setup payload past B (Clc B t (Some link) (AcceptMessage (new_offer setup payload B first link past)) ∷ [])
  accepts first link w = AsksOne t (Some link) (AcceptMessage (new_offer setup payload B first link past)) refl (record {
    socket = socket;
    unfallen = w.unfallen;
    taken = w.taken;
    about = about-accept t link (new_offer setup payload B first link past) (offered B t past);
    new = (refl, (first, refl));
  })

  confirms : (first : Bool) (link : LinkId) → IsWaiting A → Asks setup payload past A (Clc A t (Some link) (ConfirmMessage (new_offer setup payload A first link past)) ∷ [])
  confirms first link w = AsksOne t (Some link) (ConfirmMessage (new_offer setup payload A first link past)) refl (record {
    socket = socket;
    unfallen = w.unfallen;
    taken = w.taken;
    about = about-confirm t link (new_offer setup payload A first link past) (offered A t past);
    new = (refl, (first, refl));
  })

  -- B takes a Proposal
  by-b : (p : Proposal) (step : ClcStep) → SuitsB step → IsWaiting B → Asks setup payload past B (clc_posts setup payload B t (ProposalMessage p) past step)
  by-b p (SendAccept true) f w = accepts true _ w
  by-b p (SendAccept false) f w = accepts false _ w
  by-b p (SendConfirm first) f w = absurd f
  by-b p AskKey f w = AsksNone (tt, tt)
  by-b p (Wait hold) f w = AsksNone tt
  by-b p (Decline lack) f w = refuses B lack w refl
  by-b p Fell f w = AsksNone tt
  by-b p Ready f w = AsksNone tt
  by-b p Lost f w = AsksNone tt
  by-b p (Wrong kind) f w = AsksNone tt

  -- A takes an Accept
  by-a : (o : Offer) (step : ClcStep) → SuitsA step → IsWaiting A → Asks setup payload past A (clc_posts setup payload A t (AcceptMessage o) past step)
  by-a o (SendAccept first) f w = absurd f
  by-a o (SendConfirm first) f w = confirms first _ w
  by-a o AskKey f w = AsksNone (tt, tt)
  by-a o (Wait hold) f w = AsksNone tt
  by-a o (Decline lack) f w = refuses A lack w refl
  by-a o Fell f w = AsksNone tt
  by-a o Ready f w = AsksNone tt
  by-a o Lost f w = AsksNone tt
  by-a o (Wrong kind) f w = AsksNone tt

  -- B takes a Confirm
  by-first : (b : Bool) (post : Post) → NoClc post → Asks setup payload past B (if b then post ∷ [] else [])
  by-first true post n = AsksNone (n, tt)
  by-first false post n = AsksNone tt

  by-confirm : (o : Offer) (b : Bool) → Asks setup payload past B (clc_posts setup payload B t (ConfirmMessage o) past (if b then Ready else Lost))
  by-confirm o true = by-first o.first _ tt
  by-confirm o false = AsksNone tt

  module _ (k : Socket) (at : StandsAt setup k t past) where
    waiting : (y : Side) → is_fallen_state (end_at k y) ≡ false → untaken_at setup k y ≡ [] → offered_at k y ≡ None → IsWaiting y
    waiting y f m o = record { unfallen = ap is_fallen_state (end-is setup k t past at y) ∙ f; taken = at.messages y ∙ m; unoffered = at.offer y ∙ o }

    judged : (y : Side) (m : ClcMessage) (step : ClcStep) → verdict false (end_at k y) m (lacks setup payload y past) ≡ step → Asks setup payload past y (clc_posts setup payload y t m past step)
        → Asks setup payload past y (clc_posts setup payload y t m past (clc_step setup payload y t m past))
    judged y m step e a =
        subst (λ (s : ClcStep). Asks setup payload past y (clc_posts setup payload y t m past s))
        (sym (ap (λ b. verdict b (end_state y t past) m (lacks setup payload y past)) at.raw ∙ (ap (λ s. verdict false s m (lacks setup payload y past)) (end-is setup k t past at y) ∙ e))) a

  -- whatever stands at the front
  of-socket : (k : Socket) (dir : Side) → StandsAt setup k t past → Asks setup payload past (other dir) (front_posts setup payload (other dir) t past (front_of_posts (head (untaken_at setup k dir))))
  of-socket Proposed A at = judged Proposed at B (ProposalMessage (proposal setup)) _ refl (by-b (proposal setup) _ (suits-proposal (proposal setup) (lacks setup payload B past)) (waiting Proposed at B refl refl refl))
  of-socket (Refused r) B at = judged (Refused r) at A (DeclineMessage r) Fell refl (AsksNone tt)
  of-socket (FirstAccepted o) B at = judged (FirstAccepted o) at A (AcceptMessage o) _ refl (by-a o _ (suits-accept o (lacks setup payload A past)) (waiting (FirstAccepted o) at A refl refl refl))
  of-socket (FirstConfirmed o p) A at = judged (FirstConfirmed o p) at B (ConfirmMessage p) _ refl (by-confirm p _)
  of-socket (Accepted o) B at = judged (Accepted o) at A (AcceptMessage o) _ refl (by-a o _ (suits-accept o (lacks setup payload A past)) (waiting (Accepted o) at A refl refl refl))
  of-socket (AcceptRefused o r) A at = judged (AcceptRefused o r) at B (DeclineMessage r) Fell refl (AsksNone tt)
  of-socket (Confirmed o p) A at = judged (Confirmed o p) at B (ConfirmMessage p) _ refl (by-confirm p _)
  of-socket Unopened dir at = AsksNone tt
  of-socket Fallen dir at = AsksNone tt
  of-socket Proposed B at = AsksNone tt
  of-socket (Refused r) A at = AsksNone tt
  of-socket (FirstAccepted o) A at = AsksNone tt
  of-socket (FirstConfirmed o p) B at = AsksNone tt
  of-socket (AwaitsLink o p) dir at = AsksNone tt
  of-socket (FirstUpAtA o p) dir at = AsksNone tt
  of-socket (FirstUp o p) dir at = AsksNone tt
  of-socket (Accepted o) A at = AsksNone tt
  of-socket (AcceptRefused o r) B at = AsksNone tt
  of-socket (AcceptFallen o) dir at = AsksNone tt
  of-socket (Confirmed o p) B at = AsksNone tt
  of-socket (Up o p) dir at = AsksNone tt

  -- a message is taken, or none is
  front-is : (k : Socket) (dir : Side) → StandsAt setup k t past → front payload dir t past ≡ front_of_posts (head (untaken_at setup k dir))
  front-is k dir at =
      ap (λ b. front_of b (stream payload dir t past) (untaken dir t past)) at.raw
      ∙ ap (λ (ms : List ClcMessage). front_of_posts (head ms)) (at.messages dir)

  by-reply : (dir : Side) (reply : Reply) → Asks setup payload past (other dir) (front_posts setup payload (other dir) t past (front payload dir t past)) → Asks setup payload past (other dir) (asked setup payload past (ClcEvent t dir) reply)
  by-reply dir Idle a = AsksNone tt
  by-reply dir reply a = a

  takes-asks : (k : Socket) (dir : Side) (reply : Reply) → StandsAt setup k t past → Asks setup payload past (other dir) (asked setup payload past (ClcEvent t dir) reply)
  takes-asks k dir reply at = by-reply dir reply (subst (λ (f : Front). Asks setup payload past (other dir) (front_posts setup payload (other dir) t past f)) (sym (front-is k dir at)) (of-socket k dir at))

  -- a socket is opened
  opens-asks : (k : Socket) (reply : Reply) → StandsAt setup k t past → reply ≡ open_told setup t past → Asks setup payload past A (asked setup payload past (Open t) reply)
  opens-asks k reply at r = by_opened (is_opened t past) refl
    where
      unopened : (j : Socket) → opened_at j ≡ false → j ≡ Unopened
      unopened Unopened e = refl
      unopened _ e = cc

      by_told : (q : Reply) → StandsAt setup Unopened t past → Asks setup payload past A (asked setup payload past (Open t) q)
      by_told Opened at2 = AsksOne t None (ProposalMessage (proposal setup)) refl (record {
        socket = socket;
        unfallen = ap is_fallen_state (end-is setup Unopened t past at2 A);
        taken = at2.messages A;
        about = ap (λ q. option_map (λ o. o.link) q) (sym (at2.offer A));
        new = refl;
      })
      by_told _ at2 = AsksNone tt

      by_opened : (b : Bool) → is_opened t past ≡ b → Asks setup payload past A (asked setup payload past (Open t) reply)
      by_opened true e =
          subst (λ (q : Reply). Asks setup payload past A (asked setup payload past (Open t) q))
          (sym (r ∙ ap (λ b. if b || is_raw t past then NameUsed else if not (slice_index_or setup.capable 0 false && slice_index_or setup.capable 1 false) then Declined (NotCapable (slice_index_or setup.capable 0 false) (slice_index_or setup.capable 1 false)) else Opened) e)) (AsksNone tt)
      by_opened false e = by_told reply (subst (λ (j : Socket). StandsAt setup j t past) (unopened k (sym at.opened ∙ e)) at)

llc-no-clc : (posts : List Post) → EachPost IsLlc posts → EachPost NoClc posts
llc-no-clc [] p = tt
llc-no-clc (Llc from link m ∷ posts) p = (tt, llc-no-clc posts p.1)
llc-no-clc (WritePost from link key address len ∷ posts) p = absurd p.0
llc-no-clc (Cdc from link m ∷ posts) p = absurd p.0
llc-no-clc (Clc from s link m ∷ posts) p = absurd p.0

data-no-clc : (posts : List Post) → AreData posts → EachPost NoClc posts
data-no-clc [] p = tt
data-no-clc (WritePost from link key address len ∷ posts) p = (tt, data-no-clc posts p.1)
data-no-clc (Cdc from link m ∷ posts) p = (tt, data-no-clc posts p.1)
data-no-clc (Llc from link m ∷ posts) p = let e = p.0 in cc
data-no-clc (Clc from s link m ∷ posts) p = let e = p.0 in cc

append : (ps qs : List Post) → EachPost NoClc ps → EachPost NoClc qs → EachPost NoClc (ps ++ qs)
append [] qs p q = q
append (post ∷ ps) qs p q = (p.0, append ps qs p.1 q)

-- whatever event
asks : (setup : Setup) (payload : List ℕ) (past : List Entry) (stage : Stage) (before : ℕ) (event : Event) (reply : Reply) → Fits setup (length payload) event → IsWorld setup stage past
    → reply ≡ reply_of before (told setup payload past event) → Asks setup payload past (acting_side event) (asked setup payload past event reply)
asks setup payload past stage before (Open t) reply built w r = let h = w.sockets t in opens-asks setup payload past t built h.at reply h.stands r
asks setup payload past stage before (ClcEvent t dir) reply built w r = let h = w.sockets t in takes-asks setup payload past t built h.at dir reply h.stands
asks setup payload past stage before (Write end at len) reply built w r = AsksNone tt
asks setup payload past stage before (Read end len) reply built w r = AsksNone tt
asks setup payload past stage before (Deliver slot dir) reply built w r = AsksNone (llc-no-clc _ (of-act setup (other dir) past (act_of (other dir) (option_map (λ c. c.post) (landing slot dir past)) past)))
asks setup payload past stage before (Complete slot dir) reply built w r = AsksNone tt
asks setup payload past stage before _ reply built w r = absurd built

-- what a played entry posts
pub puts : (setup : Setup) → IsOneLink setup → (payload : List ℕ) (e : Entry) (past : List Entry) (n : ℕ) → IsPlayed setup payload (e ∷ past) n → Puts setup payload e past
puts setup one payload e past n p = by_asks (asks setup payload past world.stage p.0 e.event e.reply made.built world.world made.reply)
  where
    world : HasWorld setup past
    world = played setup one payload past p.0 p.3

    made : IsMade setup payload past p.0 e
    made = p.1

    more : List Post
    more = connection_posts setup payload (draft setup payload past p.0 e.event) past

    no_more : EachPost NoClc more
    no_more = data-no-clc more (connections-data setup payload (draft setup payload past p.0 e.event) past)

    posts : e.posts ≡ asked setup payload past e.event e.reply ++ more
    posts = made.posts ∙ ap (λ (r : Reply). asked setup payload past e.event r ++ more) (sym made.reply)

    by_asks : Asks setup payload past (acting_side e.event) (asked setup payload past e.event e.reply) → Puts setup payload e past
    by_asks (AsksNone a) = PutsNone (subst (λ (ps : List Post). EachPost NoClc ps) (sym posts) (append _ more a no_more))
    by_asks (AsksOne t link m is a) = PutsOne t link m more (posts ∙ ap (λ (ps : List Post). ps ++ more) is) no_more a

-- posts without a CLC message give none, and put nothing into a stream
pub none-in : (x : Side) (s : ℕ) (posts : List Post) → EachPost NoClc posts → filter_map (clc_in x s) posts ≡ []
none-in x s [] p = refl
none-in x s (WritePost from link key address len ∷ posts) p = none-in x s posts p.1
none-in x s (Cdc from link m ∷ posts) p = none-in x s posts p.1
none-in x s (Llc from link m ∷ posts) p = none-in x s posts p.1
none-in x s (Clc from t link m ∷ posts) p = absurd p.0

pub none-offered : (x : Side) (s : ℕ) (posts : List Post) → EachPost NoClc posts → filter_map (offer_in x s) posts ≡ []
none-offered x s [] p = refl
none-offered A s (WritePost from link key address len ∷ posts) p = none-offered A s posts p.1
none-offered A s (Cdc from link m ∷ posts) p = none-offered A s posts p.1
none-offered A s (Llc from link m ∷ posts) p = none-offered A s posts p.1
none-offered A s (Clc from t link m ∷ posts) p = absurd p.0
none-offered B s (WritePost from link key address len ∷ posts) p = none-offered B s posts p.1
none-offered B s (Cdc from link m ∷ posts) p = none-offered B s posts p.1
none-offered B s (Llc from link m ∷ posts) p = none-offered B s posts p.1
none-offered B s (Clc from t link m ∷ posts) p = absurd p.0

pub none-put : (posts : List Post) (flows : List Outflow) → EachPost NoClc posts → puts_all posts flows ≡ flows
none-put [] flows p = refl
none-put (WritePost from link key address len ∷ posts) flows p = none-put posts flows p.1
none-put (Cdc from link m ∷ posts) flows p = none-put posts flows p.1
none-put (Llc from link m ∷ posts) flows p = none-put posts flows p.1
none-put (Clc from t link m ∷ posts) flows p = absurd p.0

-- no other posts one
pub no-clc-posts : (setup : Setup) → IsOneLink setup → (payload : List ℕ) (e : Entry) (past : List Entry) (n : ℕ) → IsPlayed setup payload (e ∷ past) n → may_post_clc e.event ≡ false → EachPost NoClc e.posts
no-clc-posts setup one payload e past n p none = by_event e.event refl
  where
    made : IsMade setup payload past p.0 e
    made = p.1

    with_more : (event : Event) → e.event ≡ event → EachPost NoClc (asked setup payload past event e.reply) → EachPost NoClc e.posts
    with_more event is a =
        let more : List Post = connection_posts setup payload (draft setup payload past p.0 e.event) past in
        subst (λ (ps : List Post). EachPost NoClc ps)
        (sym (made.posts ∙ (ap (λ (r : Reply). asked setup payload past e.event r ++ more) (sym made.reply) ∙ ap (λ (v : Event). asked setup payload past v e.reply ++ more) is)))
        (append (asked setup payload past event e.reply) more a (data-no-clc more (connections-data setup payload (draft setup payload past p.0 e.event) past)))

    by_event : (event : Event) → e.event ≡ event → EachPost NoClc e.posts
    by_event (Write end at len) is = with_more (Write end at len) is tt
    by_event (Read end len) is = with_more (Read end len) is tt
    by_event (Complete slot dir) is = with_more (Complete slot dir) is tt
    by_event (Deliver slot dir) is = with_more (Deliver slot dir) is (llc-no-clc _ (of-act setup (other dir) past (act_of (other dir) (option_map (λ c. c.post) (landing slot dir past)) past)))
    by_event (Open s) is = let h : true ≡ false = sym (ap may_post_clc is) ∙ none in cc
    by_event (ClcEvent s dir) is = let h : true ≡ false = sym (ap may_post_clc is) ∙ none in cc
    by_event event is = absurd (subst (Fits setup (length payload)) is made.built)

-- what an entry posts for a side on a socket: nothing, or one message of the side that acts
pub data News (setup : Setup) (payload : List ℕ) (e : Entry) (past : List Entry) (x : Side) (s : ℕ) : Type 0 where
  NoNews : filter_map (clc_in x s) e.posts ≡ [] → News setup payload e past x s
  OneNews : (link : Option LinkId) (m : ClcMessage) → filter_map (clc_in x s) e.posts ≡ m ∷ [] → filter_map (offer_in x s) e.posts ≡ filter_map (offer_in x s) (Clc x s link m ∷ []) → x ≡ acting_side e.event → IsAsked setup payload past x s link m → News setup payload e past x s

pub one-in : (x : Side) (s : ℕ) (y : Side) (t : ℕ) (link : Option LinkId) (m : ClcMessage) (more : List Post) → EachPost NoClc more
    → filter_map (clc_in x s) (Clc y t link m ∷ more) ≡ (if same_side x y && (s == t) then m ∷ [] else [])
one-in x s y t link m more none = ap (λ (ms : List ClcMessage). cons_option (if same_side x y && (s == t) then Some m else None) ms) (none-in x s more none) ∙ by (same_side x y && (s == t))
  where
    by : (b : Bool) → cons_option (if b then Some m else None) [] ≡ (if b then m ∷ [] else [])
    by true = refl
    by false = refl

pub news : (setup : Setup) (payload : List ℕ) (e : Entry) (past : List Entry) → Puts setup payload e past → (x : Side) (s : ℕ) → News setup payload e past x s
news setup payload e past (PutsNone none) x s = NoNews (none-in x s e.posts none)
news setup payload e past (PutsOne t link m more is none a) x s = by (same_side x (acting_side e.event) && (s == t)) refl
  where
    found : filter_map (clc_in x s) e.posts ≡ (if same_side x (acting_side e.event) && (s == t) then m ∷ [] else [])
    found = ap (λ (ps : List Post). filter_map (clc_in x s) ps) is ∙ one-in x s (acting_side e.event) t link m more none

    by : (b : Bool) → (same_side x (acting_side e.event) && (s == t)) ≡ b → News setup payload e past x s
    by true f =
        let both = and-both (same_side x (acting_side e.event)) (s == t) f in
        let side : x ≡ acting_side e.event = same-is x (acting_side e.event) both.0 in
        let socket : s ≡ t = eqb-true s t both.1 in
        OneNews link m (found ∙ ap (λ b. if b then m ∷ [] else []) f)
        (ap (λ (ps : List Post). filter_map (offer_in x s) ps) is ∙ (ap (λ (os : List Offered). cons_option (offer_in x s (Clc (acting_side e.event) t link m)) os) (none-offered x s more none)
        ∙ (ap (λ y. filter_map (offer_in x s) (Clc y t link m ∷ [])) (sym side) ∙ ap (λ r. filter_map (offer_in x s) (Clc x r link m ∷ [])) (sym socket)))) side
        (subst (λ (y : Side). IsAsked setup payload past y s link m) (sym side) (subst (λ (r : ℕ). IsAsked setup payload past (acting_side e.event) r link m) (sym (eqb-true s t both.1)) a))
    by false f = NoNews (found ∙ ap (λ b. if b then m ∷ [] else []) f)
