-- What each event makes the managers post, after a history.
-- A reader learns here the writes and CDC messages of the ends, the CLC messages of the handshake, and the LLC messages of the flows.
use Rattle.std.specs.Prelude.{ℕ, ◌+◌, ◌-◌, ◌%◌, ◌==◌, ◌&&◌, not, nat_lt, nat_le, Bool, true, false, if◌then◌else◌, List, [], ◌∷◌, ◌++◌, length, map, filter, filter_map, flat_map, fold, Option, Some, None, option_to_list, unwrap_or}
use Rattle.std.specs.Option.{option_or}
use Rattle.smc_num.specs.declared.Side.{Side}
use Rattle.smc_num.specs.declared.Side.TheVariants.{A, B}
use Rattle.smc_num.specs.declared.LinkId.{LinkId}
use Rattle.smc_num.specs.Names.{other, same_side, same_link, has, head, up_to, no_link}
use Rattle.smc_num.specs.Links.{link_or_none, live_links, unpending, lowest_live}
use Rattle.smc_num.specs.Places.{rmb_at, Place, address_of}
use Rattle.smc_num.specs.Keys.{Key, key_base, number_for, registers_on, registers_all}
use Rattle.clc_wire.specs.declared.offer.Offer.{Offer}
use Rattle.clc_wire.specs.declared.message.ClcMessage.{ClcMessage}
use Rattle.clc_wire.specs.declared.message.ClcMessage.TheVariants.{Proposal as ProposalMessage, Accept as AcceptMessage, Confirm as ConfirmMessage, Decline as DeclineMessage}
use Rattle.llc_wire.specs.declared.LlcMessage.{LlcMessage}
use Rattle.llc_wire.specs.declared.LlcMessage.TheVariants.{TestLink, DeleteRkey}
use Rattle.pipe_model.specs.declared.flow.KeyPhase.{KeyPhase}
use Rattle.pipe_model.specs.declared.flow.KeyPhase.TheVariants.{Deleting}
use Rattle.pipe_model.specs.declared.verdict.ClcStep.{ClcStep}
use Rattle.pipe_model.specs.declared.verdict.ClcStep.TheVariants.{SendAccept, SendConfirm, AskKey, Decline, Ready}
use Rattle.pipe_model.specs.declared.flow.FlowStep.{FlowStep}
use Rattle.pipe_model.specs.declared.flow.FlowStep.TheVariants.{Live, SendKeys, AskLink, ReplyKeys, ReplyAdd, Reject, ReplyRetry, Learn, Forget, Gone, Echo}
use Rattle.pipe_model.specs.declared.post.Post.{Post}
use Rattle.pipe_model.specs.declared.post.Post.TheVariants.{Write, Cdc, Llc, Clc}
use Rattle.pipe_model.specs.declared.setup.Setup.{Setup}
use Rattle.pipe_model.specs.declared.entry.Entry.{Entry}
use Rattle.pipe_model.specs.Words.{element_size, rmbs_of}
use Rattle.pipe_model.specs.Snapshot.{spelled, validation}
use Rattle.pipe_model.specs.History.{next_number, Offered, offered}
use Rattle.pipe_model.specs.Ends.{Sent}
use Rattle.pipe_model.specs.Pipe.{posts_of, half}
use Rattle.pipe_model.specs.Flows.{Flow, LinkFlow, AddSent, KeysSent, flow_slot, is_dropping, resends_key, resends_add, named_slot}
use Rattle.pipe_model.specs.Fabric.{Peer, fabric, peer, loses, group_of, table_of, flow_of, made_on}
use Rattle.pipe_model.specs.Connections.{named_link, group_on, is_up, items, part}
use Rattle.pipe_model.specs.Lending.{Lending, lendings, lent, free_places, is_idle, terms_of, pipe_of}
use Rattle.pipe_model.specs.Keys.{Keys, keys_of, book_of, named_rmbs, deleted, last_bound}
use Rattle.pipe_model.specs.Messages.{proposal, offer, refusal, confirm_link, add_link, reject_link, delete_link, test_bytes, add_keys, no_add_keys, confirm_rkey, delete_rkey, key_reply, drop_reply, echo, delete_reply, pair_on, next_pair}
use Rattle.pipe_model.specs.Handshake.{slots_up}

-- the writes for the bytes from one place of the stream to another, of which the second goes round
-- RFC 7609, 4.7: bytes go round the element
abbrev pub writes : ℕ → Side → LinkId → ℕ → Place → ℕ → ℕ → List Post
writes size x link key place from to =
    if from == to then [] else
    if nat_le (from % size + (to - from)) size then Write x link key (address_of size place from) (to - from) ∷ [] else
    Write x link key (address_of size place from) (size - from % size) ∷ Write x link key (address_of size place 0) (to - from - (size - from % size)) ∷ []

-- the peer's element of a connection
-- RFC 7609, 3.5
abbrev pub offered_place : Offer → Place
offered_place o = record { rmb = rmb_at o.address; index = o.index }

-- a CDC message of an end, spelled under the peer's token, after the writes for its bytes
-- RFC 7609, 4.7: a CDC message follows the writes that it tells
abbrev pub cdc_posts : ℕ → Side → ℕ → Offer → Sent → List Post
cdc_posts size x key o m =
    if m.check then Cdc x m.link (validation size o.token m.snapshot) ∷ [] else
    writes size x m.link key (offered_place o) m.from m.snapshot.told ++ Cdc x m.link (spelled size o.token m.snapshot) ∷ []

-- the key is the one last bound to the peer's RMB for the link
-- RFC 7609, 2.1; which key once the group has ended is ours
abbrev pub sent_posts : ℕ → Side → Option Offered → List Entry → Sent → List Post
sent_posts size x None past m = []
sent_posts size x (Some o) past m = cdc_posts size x (unwrap_or (last_bound (other x) (rmb_at o.offer.address) m.link past) 0) o.offer m

-- what the pipe of a socket's connection posts with an entry, of which the CLC and LLC posts stand
-- ours: what the machine of a connection posts
abbrev pub end_posts : Setup → List ℕ → Side → ℕ → Entry → List Entry → List Post
end_posts setup payload x s e past =
    let group : ℕ = group_on s past in
    flat_map (sent_posts (element_size setup) x (offered (other x) s past) (e ∷ past))
    (posts_of (terms_of setup) x (items payload group s e past) (part payload group s past))

-- the same of both ends
-- ours: what the machine of a connection posts
abbrev pub pipe_posts : Setup → List ℕ → ℕ → Entry → List Entry → List Post
pipe_posts setup payload s e past = end_posts setup payload A s e past ++ end_posts setup payload B s e past

-- whether a connection was offered on a socket
-- ours: a look-up
abbrev pub is_offered : List Entry → ℕ → Bool
is_offered past s = not (group_on s past == 0)

-- the sockets on which a connection was offered
-- ours: a look-up
abbrev pub offered_sockets : Setup → List Entry → List ℕ
offered_sockets setup past = filter (is_offered past) (map (λ n. n - 1) (up_to setup.sockets))

-- what all connections post with an entry
-- ours: their order
abbrev pub connection_posts : Setup → List ℕ → Entry → List Entry → List Post
connection_posts setup payload e past = flat_map (λ s. pipe_posts setup payload s e past) (offered_sockets setup past)

-- the next token of a side; tokens count its lendings
-- ours: RFC 7609, 3.4, lets the receiver choose
abbrev pub next_token : Side → List Entry → ℕ
next_token x past = length (lendings x past) + 1

-- whether a post is an Accept of first contact
-- RFC 7609, 3.5: first contact makes a group
abbrev pub begins_group_in : Post → Bool
begins_group_in (Clc B s link (AcceptMessage o)) = o.first
begins_group_in _ = false

-- how many groups B has begun
-- RFC 7609, 3.5: first contact makes a group
abbrev pub groups_begun : List Entry → ℕ
groups_begun [] = 0
groups_begun (e ∷ older) = groups_begun older + length (filter begins_group_in e.posts)

-- the link that B names in first contact: of the next group, on the lowest slot with its path up
-- RFC 7609, 3.5; the lowest slot is ours
abbrev pub first_link : Setup → List Entry → LinkId
first_link setup past = let slot : ℕ = unwrap_or (head (slots_up setup past)) 0 in
    record { group = groups_begun past + 1; slot = slot; incarnation = made_on slot (fabric past) + 1 }

-- the link that an end of B is on
-- ours: the RFC leaves open which link a connection takes
abbrev pub link_now : Setup → List ℕ → List Entry → Lending → LinkId
link_now setup payload past l = if is_up B l.s past then (half B (pipe_of setup payload l.group l.s past)).link else unwrap_or (named_link l.s past) no_link

-- how many records of B are on a link
-- ours: the RFC leaves open which link a connection takes
abbrev pub load : LinkId → List LinkId → ℕ
load link used = length (filter (same_link link) used)

-- the live link with the fewest records, the lowest slot on a tie
-- ours: the RFC leaves open which link a connection takes
abbrev pub lighter : List LinkId → LinkId → LinkId → LinkId
lighter used a b = if nat_lt (load b used) (load a used) then b else a

-- the link with the fewest records among these
-- ours: the RFC leaves open which link a connection takes
abbrev pub lightest : List LinkId → List LinkId → LinkId
lightest used [] = no_link
lightest used (link ∷ links) = fold (lighter used) link links

-- the live link of B with the fewest of its records
-- ours: the RFC leaves open which link a connection takes
abbrev pub fewest : Setup → List ℕ → List Entry → LinkId
fewest setup payload past = lightest (map (link_now setup payload past) (lent setup payload B past)) (live_links (table_of B past))

-- the lowest free element of a side
-- ours: the RFC leaves open which free element is taken
abbrev pub next_free : Setup → List ℕ → Side → List Entry → Place
next_free setup payload x past = unwrap_or (head (free_places setup payload x past)) (record { rmb = 0; index = 0 })

-- the number that an RMB has, or would get, for a slot
-- ours: an adapter chooses its keys as it likes
abbrev pub own_key : Side → ℕ → ℕ → List Entry → ℕ
own_key x rmb slot past = number_for (key_base x) rmb slot (keys_of x past).keys

-- an offer of the lowest free element, in first contact with a new queue pair
-- RFC 7609, 3.5
abbrev pub new_offer : Setup → List ℕ → Side → Bool → LinkId → List Entry → Offer
new_offer setup payload x first link past = let place : Place = next_free setup payload x past in
    offer setup x first link (if first then next_pair x link.slot past else pair_on x link.slot past) (own_key x place.rmb link.slot past) place (next_token x past)

-- the Accept of B
-- RFC 7609, 3.5
abbrev pub accept_post : Setup → List ℕ → ℕ → Bool → LinkId → List Entry → Post
accept_post setup payload s first link past = Clc B s (Some link) (AcceptMessage (new_offer setup payload B first link past))

-- the Confirm of A
-- RFC 7609, 3.5
abbrev pub confirm_post : Setup → List ℕ → ℕ → Bool → LinkId → List Entry → Post
confirm_post setup payload s first link past = Clc A s (Some link) (ConfirmMessage (new_offer setup payload A first link past))

-- CONFIRM RKEY for an RMB on the lowest live link, with the keys that its registering gives
-- RFC 7609, 3.3: CONFIRM RKEY
abbrev pub rkey_post : Side → ℕ → Peer → List Key → Post
rkey_post x rmb p keys = Llc x (link_or_none (lowest_live p.table) p.table) (confirm_rkey (lowest_live p.table) (unpending p.table) rmb (registers_on (key_base x) (unpending p.table) rmb keys))

-- a side after a history
-- ours: a part of the state
abbrev pub peer_of : Side → List Entry → Peer
peer_of x past = peer x (fabric past)

-- B takes a Confirm: in first contact it asks A to confirm the link
-- RFC 7609, 3.5
abbrev pub ready_posts : Setup → ℕ → ClcMessage → List Entry → List Post
ready_posts setup s (ConfirmMessage o) past = let link : LinkId = unwrap_or (named_link s past) no_link in
    if o.first then Llc B link (confirm_link setup B false link (pair_on B link.slot past)) ∷ [] else []
ready_posts setup s m past = []

-- what a verdict makes its side post
-- RFC 7609, 3.5
abbrev pub clc_posts : Setup → List ℕ → Side → ℕ → ClcMessage → List Entry → ClcStep → List Post
clc_posts setup payload x s m past (SendAccept true) = accept_post setup payload s true (first_link setup past) past ∷ []
clc_posts setup payload x s m past (SendAccept false) = accept_post setup payload s false (fewest setup payload past) past ∷ []
clc_posts setup payload x s m past (SendConfirm first) = confirm_post setup payload s first (unwrap_or (named_link s past) no_link) past ∷ []
clc_posts setup payload x s m past AskKey = rkey_post x (next_free setup payload x past).rmb (peer_of x past) (keys_of x past).keys ∷ []
clc_posts setup payload x s m past (Decline lack) = Clc x s None (DeclineMessage (refusal x lack)) ∷ []
clc_posts setup payload x s m past Ready = ready_posts setup s m past
clc_posts setup payload x s m past _ = []

-- the RMBs that the last DELETE RKEY of a side named
-- ours: a look-up in the history
abbrev pub delete_request : Side → Post → Option LlcMessage
delete_request x (Llc from link (DeleteRkey false negative count mask keys)) = if same_side x from then Some (DeleteRkey false negative count mask keys) else None
delete_request x _ = None

-- the last DELETE RKEY of a side
-- ours: a look-up in the history
abbrev pub last_delete : Side → List Entry → Option LlcMessage
last_delete x [] = None
last_delete x (e ∷ older) = option_or (head (filter_map (delete_request x) e.posts)) (last_delete x older)

-- the RMBs that it named
-- ours: a look-up in the history
abbrev pub deleting_rmbs : Setup → Side → List Entry → List ℕ
deleting_rmbs setup x past = filter (λ rmb. has rmb (flat_map (λ m. named_rmbs (deleted m) (keys_of x past).keys) (option_to_list (last_delete x past)))) (up_to (rmbs_of setup x))

-- the key request and the ADD LINK request that are posted again after a loss
-- ours: a request whose carrier is lost is posted again
abbrev pub key_again : Side → Peer → List Key → List ℕ → KeyPhase → Post
key_again x p keys rmbs Deleting = Llc x (link_or_none (lowest_live p.table) p.table) (delete_rkey (lowest_live p.table) rmbs keys)
key_again x p keys rmbs _ = rkey_post x p.flow.rmb p keys

-- the ADD LINK request or its keys, built anew
-- ours: a request whose carrier is lost is posted again
abbrev pub add_again : Side → Peer → Keys → ℕ → LinkFlow → List Post
add_again x p ks qp (AddSent k on) = Llc x (link_or_none (lowest_live p.table) p.table) (add_link x false k qp p.group) ∷ []
add_again x p ks qp (KeysSent k on) = Llc x (link_or_none (lowest_live p.table) p.table) (add_keys false (lowest_live p.table) k ks.keys ks.confirmed) ∷ []
add_again x p ks qp _ = []

-- DELETE LINK, unless one for that slot is outstanding
-- RFC 7609, 3.3: DELETE LINK; one a slot is ours
abbrev pub drop_posts : Side → ℕ → Bool → Peer → List Post
drop_posts x k own p = if own && not (is_dropping k p.flow) then Llc x (link_or_none (lowest_live p.table) p.table) (delete_link k) ∷ [] else []

-- what a side posts as it reports the link of a slot, `p` being the side after the loss and `before` its flows before it
-- RFC 7609, 3.3: DELETE LINK; the order is ours
abbrev pub loss_posts : Setup → Side → ℕ → Bool → Peer → Flow → List Entry → List Post
loss_posts setup x k own p before past =
    if p.group == 0 then [] else
    drop_posts x k own p ++
    (if resends_key k before then key_again x p (keys_of x past).keys (deleting_rmbs setup x past) before.key ∷ [] else []) ++
    (if resends_add k before.link then add_again x p (keys_of x past) (pair_on x (flow_slot before.link) past) before.link else [])

-- what a side posts as it reports the link of a slot after a history
-- RFC 7609, 3.3: DELETE LINK; the order is ours
abbrev pub report_posts : Setup → Side → ℕ → Bool → List Entry → List Post
report_posts setup x k own past = loss_posts setup x k own (loses k (peer_of x past)) (flow_of x past) past

-- ADD LINK CONTINUATION of B for the new link, on its lowest live link
-- RFC 7609, 3.3: ADD LINK CONTINUATION
abbrev pub keys_post : ℕ → Peer → Keys → Post
keys_post k p ks = Llc B (link_or_none (lowest_live p.table) p.table) (add_keys false (lowest_live p.table) k (registers_all (key_base B) (link_or_none k p.table) ks.confirmed ks.keys) ks.confirmed)

-- what a step of the flows makes its side post, the landed message having come on `on`
-- RFC 7609, 3.3
abbrev pub step_posts : Setup → Side → LinkId → LlcMessage → List Entry → FlowStep → List Post
step_posts setup x on m past (Live true first) = Llc x on (confirm_link setup x true on (pair_on x on.slot past)) ∷ []
step_posts setup x on m past SendKeys = keys_post (named_slot m on.slot) (peer_of x past) (keys_of x past) ∷ []
step_posts setup x on m past AskLink = let link : LinkId = link_or_none (named_slot m on.slot) (table_of x past) in Llc x link (confirm_link setup x false link (pair_on x link.slot past)) ∷ []
step_posts setup x on m past (ReplyKeys true) = Llc x on (add_keys true on.slot (named_slot m on.slot) (keys_of x past).keys (keys_of x past).confirmed) ∷ []
step_posts setup x on m past (ReplyKeys false) = Llc x on (no_add_keys (named_slot m on.slot)) ∷ []
step_posts setup x on m past (ReplyAdd again) = let k : ℕ = named_slot m on.slot in Llc x on (add_link x true k (if again then pair_on x k past else next_pair x k past) (group_of x past)) ∷ []
step_posts setup x on m past Reject = Llc x on (reject_link (named_slot m on.slot)) ∷ []
step_posts setup x on m past ReplyRetry = Llc x on (key_reply true m) ∷ []
step_posts setup x on m past Learn = Llc x on (key_reply false m) ∷ []
step_posts setup x on m past Forget = Llc x on (delete_reply on (book_of x past) m) ∷ []
step_posts setup x on m past (Gone report) = Llc x on (drop_reply m) ∷ (if report then report_posts setup x (named_slot m on.slot) false past else [])
step_posts setup x on m past Echo = Llc x on (echo m) ∷ []
step_posts setup x on m past _ = []

-- the RMBs that a side would trim: those with keys and no element lent
-- ours: the RFC leaves open when an RMB is given up
abbrev pub trimmed : Setup → List ℕ → Side → List Entry → List ℕ
trimmed setup payload x past = filter (λ rmb. has rmb (map (λ k. k.rmb) (keys_of x past).keys) && is_idle rmb (lent setup payload x past)) (up_to (rmbs_of setup x))

-- DELETE RKEY for the RMBs to be trimmed
-- RFC 7609, 3.3: DELETE RKEY
abbrev pub trim_post : Setup → List ℕ → Side → List Entry → Post
trim_post setup payload x past = let p : Peer = peer_of x past in
    Llc x (link_or_none (lowest_live p.table) p.table) (delete_rkey (lowest_live p.table) (trimmed setup payload x past) (keys_of x past).keys)

-- ADD LINK for a slot
-- RFC 7609, 3.3: ADD LINK
abbrev pub grow_post : ℕ → List Entry → Post
grow_post k past = let p : Peer = peer_of B past in Llc B (link_or_none (lowest_live p.table) p.table) (add_link B false k (next_pair B k past) p.group)

-- TEST LINK on the link of a slot
-- RFC 7609, 3.3: TEST LINK
abbrev pub test_post : Side → ℕ → List Entry → Post
test_post x k past = Llc x (link_or_none k (table_of x past)) (TestLink false (test_bytes (next_number past)))

-- the Proposal of A
-- RFC 7609, 3.5
abbrev pub proposal_post : Setup → ℕ → Post
proposal_post setup s = Clc A s None (ProposalMessage (proposal setup))
