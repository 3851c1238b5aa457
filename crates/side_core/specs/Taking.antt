-- What a manager does with a CLC message.
-- A reader learns here, verdict by verdict, what is posted, what the manager keeps then, and what a caller must see to.
use Rattle.std.specs.Prelude.{◌≡◌, ◌≤◌, ◌<◌, ◌^◌, ℕ, ◌+◌, ◌==◌, ◌&&◌, Bool, true, false, if◌then◌else◌, List, [], ◌∷◌, ◌++◌, length, filter_map, Option, Some, None, option_map}
use Rattle.smc_num.specs.declared.LinkId.{LinkId}
use Rattle.smc_num.specs.Links.{live_links}
use Rattle.smc_num.specs.Places.{rmb_at}
use Rattle.clc_wire.specs.declared.offer.Offer.{Offer}
use Rattle.clc_wire.specs.declared.message.ClcMessage.{ClcMessage}
use Rattle.clc_wire.specs.declared.message.ClcMessage.TheVariants.{Proposal, Accept, Confirm, Decline as DeclineMessage}
use Rattle.pipe_model.specs.declared.reply.Reply.{Reply}
use Rattle.pipe_model.specs.declared.post.Post.{Post}
use Rattle.pipe_model.specs.declared.post.Post.TheVariants.{Llc, Clc}
use Rattle.pipe_model.specs.declared.verdict.ClcStep.{ClcStep}
use Rattle.pipe_model.specs.declared.verdict.ClcStep.TheVariants.{SendAccept, SendConfirm, Decline, Fell, Ready, Lost, Wrong}
use Rattle.pipe_model.specs.Ends.{Half}
use Rattle.pipe_model.specs.Handshake.{verdict}
use Rattle.pipe_model.specs.Messages.{confirm_link, refusal}
use Rattle.pipe_model.specs.Posts.{lightest}
use Rattle.pipe_model.specs.Replies.{expects, step_told}
use Rattle.clc_handshake.specs.Stages.{named_group, after_step}
use Rattle.side_core.specs.declared.route.Route.{Route}
use Rattle.side_core.specs.Records.{Connection, Records, conn_at, route_at, aimer, begins, aims, rises, leaves}
use Rattle.side_core.specs.Desk.{Desk, lacks_of, first_link, made_on, pair_at, new_offer, next_place, next_element, lends_next, takes_back, begins_group, makes_link, learns_offer}
use Rattle.side_core.specs.Manager.{Manager, hand_at, state_at, with_hand}
use Rattle.side_core.specs.Acting.{risen_at}

-- the verdict on a message for the end of a socket, where these paths are up
abbrev pub verdict_at : {E : Type 0} → ℕ → ClcMessage → List Bool → Manager E → ClcStep
verdict_at s message paths m = verdict (hand_at s m).raw (state_at s m) message (lacks_of paths m.desk)

-- the links that the connections of a side are on
abbrev pub links_in_use : {E : Type 0} → Records E → List LinkId
links_in_use {E = E} r = filter_map (λ c. option_map (λ (k : Connection E). k.route.link) c) r.by_socket

-- the link that an Accept names: in first contact one that is to be made, later the live one with the fewest connections
abbrev pub offered_link : {E : Type 0} → Bool → List Bool → Manager E → LinkId
offered_link first paths m = if first then first_link paths m.desk else lightest (links_in_use m.records) (live_links m.desk.links.known)

-- the offer that a manager makes for a link
abbrev pub offer_for : {E : Type 0} → Bool → LinkId → Manager E → Offer
offer_for first link m = new_offer first link (m.records.tokens + 1) m.desk

-- CONFIRM LINK, which the server posts as it takes the Confirm of first contact
abbrev pub asks_link : {E : Type 0} → LinkId → ClcMessage → Manager E → List Post
asks_link link (Confirm o) m = if o.first then Llc m.desk.side link (confirm_link m.desk.setup m.desk.side false link (pair_at link.slot m.desk)) ∷ [] else []
asks_link link message m = []

-- the Confirm that answers an Accept
abbrev pub confirm_posts : {E : Type 0} → ℕ → Bool → ClcMessage → LinkId → Manager E → List Post
confirm_posts s first (Accept o) link m = Clc m.desk.side s (Some link) (Confirm (offer_for first link m)) ∷ []
confirm_posts s first message link m = []

-- the CLC and LLC posts of a verdict, where the message is about this link
abbrev pub verdict_posts : {E : Type 0} → ℕ → ClcMessage → LinkId → List Bool → Manager E → ClcStep → List Post
verdict_posts s message link paths m (SendAccept first) = let to : LinkId = offered_link first paths m in Clc m.desk.side s (Some to) (Accept (offer_for first to m)) ∷ []
verdict_posts s message link paths m (SendConfirm first) = confirm_posts s first message link m
verdict_posts s message link paths m (Decline lack) = Clc m.desk.side s None (DeclineMessage (refusal m.desk.side lack)) ∷ []
verdict_posts s message link paths m Ready = asks_link link message m
verdict_posts s message link paths m _ = []

-- the manager with its desk changed
abbrev pub with_desk : {E : Type 0} → (Desk → Desk) → Manager E → Manager E
with_desk change m = record m { desk = change m.desk }

-- the lowest free element is lent to a new connection of a socket, on a link
abbrev pub starts : ℕ → LinkId → Manager Half → Manager Half
starts s link m = record m { desk = lends_next s m.desk; records = begins s link (next_element m.desk) (live_links m.desk.links.known) m.records }

-- the connection of a socket learns what the peer offers
abbrev pub hears : ℕ → Offer → Manager Half → Manager Half
hears s o m = record m { records = aims s o m.records }

-- it is established
abbrev pub rises_at : ℕ → Manager Half → Manager Half
rises_at s m = record m { records = rises s m.records }

-- it gives its element back, where it has one
abbrev pub quits_from : ℕ → Option (Connection Half) → Manager Half → Manager Half
quits_from s None m = m
quits_from s (Some c) m = record m { desk = takes_back c.route.element m.desk; records = leaves s m.records }

-- the same of the connection of a socket
abbrev pub quits : ℕ → Manager Half → Manager Half
quits s m = quits_from s (conn_at s m.records) m

-- an Accept: in first contact a group begins
abbrev pub accepts : ℕ → Bool → LinkId → Manager Half → Manager Half
accepts s first link m = starts s link (if first then with_desk (begins_group s link (next_place m.desk).rmb) m else m)

-- a Confirm of first contact: a group begins, its link is made, and the key that the Accept tells is learnt
abbrev pub first_confirms : ℕ → LinkId → Offer → Manager Half → Manager Half
first_confirms s link o m = hears s o (starts s link (with_desk (λ d. learns_offer link o (makes_link link (begins_group s link (next_place d).rmb d))) m))

-- a Confirm of later contact: the end is established
abbrev pub later_confirms : ℕ → LinkId → Offer → Manager Half → Manager Half
later_confirms s link o m = rises_at s (hears s o (starts s link m))

-- the server takes a Confirm: in first contact it learns the key, and later the end is established
abbrev pub is_ready : ℕ → LinkId → Offer → Manager Half → Manager Half
is_ready s link o m = if o.first then hears s o (with_desk (learns_offer link o) m) else rises_at s (hears s o m)

-- the client takes an Accept
abbrev pub confirms_by : ℕ → Bool → ClcMessage → LinkId → Manager Half → Manager Half
confirms_by s first (Accept o) link m = if first then first_confirms s link o m else later_confirms s link o m
confirms_by s first message link m = m

-- the server is ready for a message
abbrev pub readies_by : ℕ → ClcMessage → LinkId → Manager Half → Manager Half
readies_by s (Confirm o) link m = is_ready s link o m
readies_by s message link m = m

-- what a verdict makes of a manager, the states of its handshakes apart
abbrev pub by_verdict : ℕ → ClcMessage → LinkId → List Bool → Manager Half → ClcStep → Manager Half
by_verdict s message link paths m (SendAccept first) = accepts s first (offered_link first paths m) m
by_verdict s message link paths m (SendConfirm first) = confirms_by s first message link m
by_verdict s message link paths m Ready = readies_by s message link m
by_verdict s message link paths m (Decline lack) = quits s m
by_verdict s message link paths m Fell = quits s m
by_verdict s message link paths m Lost = quits s m
by_verdict s message link paths m (Wrong kind) = quits s m
by_verdict s message link paths m _ = m

-- the manager after it took a message
abbrev pub takes_message : ℕ → ClcMessage → LinkId → List Bool → Manager Half → Manager Half
takes_message s message link paths m = let step : ClcStep = verdict_at s message paths m in
    with_hand s (record (hand_at s m) { state = after_step step message (state_at s m) }) (by_verdict s message link paths m step)

-- what the client's end posts as it is established by an Accept
abbrev pub confirmed_posts : ℕ → Bool → ClcMessage → LinkId → Manager Half → List Post
confirmed_posts s first (Accept o) link m = if first then [] else risen_at s (hears s o (starts s link m))
confirmed_posts s first message link m = []

-- what the server's end posts as it is established by a Confirm: whatever became due before
abbrev pub ready_posts : ℕ → ClcMessage → Manager Half → List Post
ready_posts s (Confirm o) m = if o.first then [] else risen_at s (hears s o m)
ready_posts s message m = []

-- what a verdict makes the end post that it establishes
abbrev pub verdict_risen : ℕ → ClcMessage → LinkId → Manager Half → ClcStep → List Post
verdict_risen s message link m (SendConfirm first) = confirmed_posts s first message link m
verdict_risen s message link m Ready = ready_posts s message m
verdict_risen s message link m _ = []

-- all that a manager posts as it takes a message
abbrev pub taking_posts : ℕ → ClcMessage → LinkId → List Bool → Manager Half → List Post
taking_posts s message link paths m = let step : ClcStep = verdict_at s message paths m in verdict_posts s message link paths m step ++ verdict_risen s message link m step

-- what a message is told
abbrev pub taking_told : {E : Type 0} → ℕ → ClcMessage → List Bool → Manager E → Reply
taking_told s message paths m = step_told (named_group message) message (verdict_at s message paths m)

-- that an offer is one that the other side may make on a link: of an element of its RMB, under a token of its own
pub record IsOffer {E : Type 0} (o : Offer) (link : LinkId) (m : Manager E) : Type 0 where
  pub slot : link.slot ≡ 1
  pub group : o.psn ≡ link.group
  pub named : (link.group == 0) ≡ false
  pub rmb : rmb_at o.address ≡ 1
  pub index : 1 ≤ o.index
  pub token : 1 ≤ o.token
  pub within : o.token ≤ length m.records.by_socket
  pub new : aimer o.token m.records ≡ None

-- that a link is the next one on its slot, where first contact makes it
abbrev pub IsNext : {E : Type 0} → Offer → LinkId → Manager E → Type 0
IsNext o link m = (o.first && (m.desk.group == 0)) ≡ true → link.incarnation ≡ made_on link.slot m.desk + 1

-- that a message about a link is one that may come to a manager for the connection of a socket
abbrev pub MayHear : {E : Type 0} → ℕ → ClcMessage → LinkId → Manager E → Type 0
MayHear s (Accept o) link m = IsOffer o link m × IsNext o link m
MayHear s (Confirm o) link m = IsOffer o link m × (option_map (λ (r : Route). r.link) (route_at s m.records) ≡ Some link)
MayHear s message link m = Unit {0}

-- that a side has a token left where a message may make it lend an element
abbrev pub MayLend : {E : Type 0} → ClcMessage → Manager E → Type 0
MayLend (Proposal p) m = m.records.tokens < length m.records.by_socket
MayLend (Accept o) m = m.records.tokens < length m.records.by_socket
MayLend message m = Unit {0}

-- what a caller must see to: the end waits for a CLC message, which may come to it, and the counts are far from their ends
pub record MayTake {E : Type 0} (s : ℕ) (message : ClcMessage) (link : LinkId) (paths : List Bool) (m : Manager E) : Type 0 where
  pub socket : s < length m.hands
  pub waits : expects (state_at s m) ≡ true
  pub hears : MayHear s message link m
  pub slots : length paths ≡ 1
  pub tokens : MayLend message m
  pub begun : m.desk.begun < 2 ^ 31
  pub serial : m.desk.serial < 2 ^ 20
  pub made : made_on 1 m.desk < 2 ^ 31
