-- The messages that the two managers make.
-- A reader learns here their addresses, the numbers of their queue pairs, what an offer holds, and each LLC message of the flows.
use Rattle.std.specs.Prelude.{ℕ, ◌+◌, ◌*◌, ◌/◌, ◌%◌, ◌^◌, ◌==◌, not, Bool, true, false, if◌then◌else◌, List, [], ◌∷◌, ◌++◌, length, take, map, filter, replicate, Option, Some, None, unwrap_or, slice_index_or}
use Rattle.smc_num.specs.declared.Side.{Side}
use Rattle.smc_num.specs.declared.Side.TheVariants.{A, B}
use Rattle.smc_num.specs.declared.LinkId.{LinkId}
use Rattle.smc_num.specs.Names.{at_side}
use Rattle.smc_num.specs.Places.{Place, rmb_address}
use Rattle.smc_num.specs.Keys.{Key, key_for_slot, rmbs_bound}
use Rattle.clc_wire.specs.declared.proposal.Proposal.{Proposal}
use Rattle.clc_wire.specs.declared.offer.Offer.{Offer}
use Rattle.clc_wire.specs.declared.refusal.Refusal.{Refusal}
use Rattle.clc_wire.specs.declared.message.ClcMessage.TheVariants.{Accept, Confirm}
use Rattle.llc_wire.specs.declared.NewKey.{NewKey}
use Rattle.llc_wire.specs.declared.KeyToken.{KeyToken}
use Rattle.llc_wire.specs.declared.LlcMessage.{LlcMessage}
use Rattle.llc_wire.specs.declared.LlcMessage.TheVariants.{ConfirmLink, AddLink, AddKeys, DeleteLink, ConfirmRkey, TestLink, DeleteRkey}
use Rattle.pipe_model.specs.declared.flow.FlowStep.{FlowStep}
use Rattle.pipe_model.specs.declared.flow.FlowStep.TheVariants.{ReplyAdd}
use Rattle.pipe_model.specs.declared.reply.Lack.{Lack}
use Rattle.pipe_model.specs.declared.reply.Lack.TheVariants.{NotCapable, NoSubnet, NoServerElement, NoClientElement, NoSlot, GroupLost, Raw}
use Rattle.pipe_model.specs.declared.event.Event.{Event}
use Rattle.pipe_model.specs.declared.event.Event.TheVariants.{Grow}
use Rattle.pipe_model.specs.declared.reply.SentKind.TheVariants.{AddLink as AddLinkSent}
use Rattle.pipe_model.specs.declared.reply.Reply.{Reply}
use Rattle.pipe_model.specs.declared.reply.Reply.TheVariants.{Sent}
use Rattle.pipe_model.specs.declared.post.Post.{Post}
use Rattle.pipe_model.specs.declared.post.Post.TheVariants.{Clc, Llc}
use Rattle.pipe_model.specs.declared.setup.Setup.{Setup}
use Rattle.pipe_model.specs.declared.entry.Entry.{Entry}
use Rattle.pipe_model.specs.Words.{is_nil}
use Rattle.pipe_model.specs.Flows.{named_slot}
use Rattle.pipe_model.specs.Fabric.{Act, act_in}

-- the addresses of the port of a slot
-- ours: the addresses of ports that are none
abbrev pub mac : Side → ℕ → List ℕ
mac x port = 0x02 ∷ 0 ∷ 0 ∷ 0 ∷ at_side x 0x0a 0x0b ∷ port ∷ []

-- the GID of a port
-- ours: the addresses of ports that are none
abbrev pub gid : Side → ℕ → List ℕ
gid x port = 0xfe ∷ 0x80 ∷ replicate 12 0 ++ at_side x 0x0a 0x0b ∷ port ∷ []

-- the name of a side as a peer
-- RFC 7609, A.2: an instance number and a MAC
abbrev pub peer_id : Side → List ℕ
peer_id x = 0 ∷ 1 ∷ mac x 1

-- the slot for which a post makes a queue pair: an offer of first contact
-- RFC 7609, 3.5 and 3.3: a link has a queue pair; when it is made is ours
abbrev pub pair_in : Side → Post → ℕ
pair_in B (Clc B s (Some link) (Accept o)) = if o.first then link.slot else 0
pair_in A (Clc A s (Some link) (Confirm o)) = if o.first then link.slot else 0
pair_in _ _ = 0

-- or a new ADD LINK request
-- RFC 7609, 3.5 and 3.3: a link has a queue pair; when it is made is ours
abbrev pub asked_pair : Event → Reply → Post → ℕ
asked_pair Grow (Sent AddLinkSent) (Llc B link (AddLink reply rejected reason mac gid qp k mtu psn)) = k
asked_pair _ _ _ = 0

-- or a new accepting reply to one
-- RFC 7609, 3.5 and 3.3: a link has a queue pair; when it is made is ours
abbrev pub accepted_pair : LlcMessage → ℕ → FlowStep → ℕ
accepted_pair m landed (ReplyAdd false) = named_slot m landed
accepted_pair m landed _ = 0

-- the slot for which an act makes a queue pair
-- RFC 7609, 3.5 and 3.3: a link has a queue pair; when it is made is ours
abbrev pub act_pair : Option Act → ℕ
act_pair None = 0
act_pair (Some act) = accepted_pair act.message act.link.slot act.step

-- the slot for which the posts of an entry make one
-- RFC 7609, 3.5 and 3.3: a link has a queue pair; when it is made is ours
abbrev pub first_pair : Side → Event → Reply → List Post → ℕ
first_pair x event reply [] = 0
first_pair x event reply (post ∷ posts) = pair_in x post + at_side x 0 (asked_pair event reply post)

-- the slot for which a side makes a queue pair in an entry, 0 for none
-- RFC 7609, 3.5 and 3.3: a link has a queue pair; when it is made is ours
abbrev pub new_pair : Side → Entry → List Entry → ℕ
new_pair x e past = act_pair (act_in x e past) + first_pair x e.event e.reply e.posts

-- how many queue pairs a side has made
-- ours: an adapter chooses its queue pairs as it likes
abbrev pub serial : Side → List Entry → ℕ
serial x [] = 0
serial x (e ∷ older) = serial x older + (if new_pair x e older == 0 then 0 else 1)

-- the number of a queue pair
-- ours: an adapter chooses its queue pairs as it likes
abbrev pub pair_number : ℕ → ℕ → ℕ
pair_number serial slot = 16 * serial + slot

-- the number of a side's latest queue pair on a slot, and of the next one that it would make there
-- ours: an adapter chooses its queue pairs as it likes
abbrev pub pair_on : Side → ℕ → List Entry → ℕ
pair_on x k [] = 0
pair_on x k (e ∷ older) = if new_pair x e older == k then pair_number (serial x older + 1) k else pair_on x k older

-- the number that the next queue pair on a slot would get
-- ours: an adapter chooses its queue pairs as it likes
abbrev pub next_pair : Side → ℕ → List Entry → ℕ
next_pair x k past = pair_number (serial x past + 1) k

-- the Proposal of A
-- RFC 7609, A.2.2
abbrev pub proposal : Setup → Proposal
proposal setup = let subnet : ℕ × ℕ = slice_index_or setup.subnet 0 (0, 0) in
    record { peer = peer_id A; gid = gid A 1; mac = mac A 1; subnet = subnet.0; prefix = subnet.1; v6 = 0 }

-- an offer of an element for a link
-- RFC 7609, A.2.3 and A.2.4; ours: `psn`, there the initial packet sequence number, carries the group's number, since
-- the fabric in memory has no packet sequence
abbrev pub offer : Setup → Side → Bool → LinkId → ℕ → ℕ → Place → ℕ → Offer
offer setup x first link qp key place token = record {
  first = first;
  peer = peer_id x;
  gid = gid x link.slot;
  mac = mac x link.slot;
  qp = qp;
  key = key;
  index = place.index;
  token = token;
  size = setup.size_code;
  mtu = 5;
  address = rmb_address place.rmb;
  psn = link.group;
}

-- why a Decline was sent, as its number
-- ours: the codes; RFC 7609, A.2.5, leaves them to the peers
abbrev pub diagnosis : Lack → ℕ
diagnosis (NotCapable a b) = 0
diagnosis NoSubnet = 2
diagnosis (NoServerElement elements) = 3
diagnosis (NoClientElement elements) = 4
diagnosis (NoSlot links) = 5
diagnosis (GroupLost named stands) = 6
diagnosis Raw = 7

-- whether a Decline says that the sides are out of synch
-- RFC 7609, A.2.5; when it is set is ours
abbrev pub is_out_of_synch : Lack → Bool
is_out_of_synch (GroupLost named stands) = true
is_out_of_synch _ = false

-- a Decline
-- RFC 7609, A.2.5
abbrev pub refusal : Side → Lack → Refusal
refusal x lack = record { out = is_out_of_synch lack; peer = peer_id x; diagnosis = diagnosis lack }

-- the messages of the flows of links
-- RFC 7609, A.3: CONFIRM LINK; the link user id is the group's number: ours
abbrev pub confirm_link : Setup → Side → Bool → LinkId → ℕ → LlcMessage
confirm_link setup x reply link qp = ConfirmLink reply (mac x link.slot) (gid x link.slot) qp link.slot link.group setup.links

-- ADD LINK for a slot, or the reply that accepts it
-- RFC 7609, A.3: ADD LINK; ours: the packet sequence number carries the group's number
abbrev pub add_link : Side → Bool → ℕ → ℕ → ℕ → LlcMessage
add_link x reply slot qp group = AddLink reply false 0 (mac x slot) (gid x slot) qp slot 5 group

-- the reply that rejects it
-- RFC 7609, A.3: ADD LINK
abbrev pub reject_link : ℕ → LlcMessage
reject_link slot = AddLink true true 1 (replicate 6 0) (replicate 16 0) 0 slot 0 0

-- DELETE LINK for a lost path
-- RFC 7609, A.3: DELETE LINK, for a lost path
abbrev pub delete_link : ℕ → LlcMessage
delete_link slot = DeleteLink false false false slot 0x0001_0000

-- the bytes of a TEST LINK: the number of its entry
-- ours: RFC 7609, A.3, lets the tester choose
abbrev pub test_bytes : ℕ → List ℕ
test_bytes n = n / 2 ^ 24 ∷ n / 2 ^ 16 % 256 ∷ n / 256 % 256 ∷ n % 256 ∷ replicate 12 0

-- as many entries as a message has room for, the unused ones 0
-- ours: a list helper
abbrev pub padded : {X : Type 0} → ℕ → X → List X → List X
padded n none xs = take n (xs ++ replicate n none)

-- an unused entry
-- ours: the RFC does not say what an unused entry holds
abbrev pub no_new_key : NewKey
no_new_key = record { reference = 0; fresh = 0; address = 0 }

-- an unused token
-- ours: the RFC does not say what an unused entry holds
abbrev pub no_token : KeyToken
no_token = record { number = 0; key = 0; address = 0 }

-- the key of an RMB for a slot, 0 where it has none
-- ours: a look-up
abbrev pub key_on : ℕ → ℕ → List Key → ℕ
key_on rmb slot keys = unwrap_or (key_for_slot rmb slot keys) 0

-- ADD LINK CONTINUATION: of each confirmed RMB the key for the link that carries it and the one for the new slot
-- RFC 7609, A.3: ADD LINK CONTINUATION
abbrev pub new_key_of : ℕ → ℕ → List Key → ℕ → NewKey
new_key_of on slot keys rmb = record { reference = key_on rmb on keys; fresh = key_on rmb slot keys; address = rmb_address rmb }

-- ADD LINK CONTINUATION for a slot, on the link of another
-- RFC 7609, A.3: ADD LINK CONTINUATION
abbrev pub add_keys : Bool → ℕ → ℕ → List Key → List ℕ → LlcMessage
add_keys reply on slot keys rmbs = AddKeys reply slot (length rmbs) (padded 2 no_new_key (map (new_key_of on slot keys) rmbs))

-- the reply to one that is not expected
-- RFC 7609, A.3: ADD LINK CONTINUATION
abbrev pub no_add_keys : ℕ → LlcMessage
no_add_keys slot = AddKeys true slot 0 (no_new_key ∷ no_new_key ∷ [])

-- CONFIRM RKEY: the key of an RMB for the link that carries it, with the count of the others, then the other slots upwards
-- RFC 7609, A.3: CONFIRM RKEY; the order of links is ours
abbrev pub token_for : ℕ → List Key → ℕ → KeyToken
token_for rmb keys slot = record { number = slot; key = key_on rmb slot keys; address = rmb_address rmb }

-- the slots of the other links
-- ours: a list helper
abbrev pub other_slots : ℕ → List LinkId → List ℕ
other_slots on links = filter (λ k. not (k == on)) (map (λ link. link.slot) links)

-- the token for the link that carries the message
-- RFC 7609, A.3: CONFIRM RKEY; the order of links is ours
abbrev pub first_token : ℕ → ℕ → List Key → ℕ → KeyToken
first_token others rmb keys on = record { number = others; key = key_on rmb on keys; address = rmb_address rmb }

-- CONFIRM RKEY for an RMB and these links
-- RFC 7609, A.3: CONFIRM RKEY; the order of links is ours
abbrev pub confirm_rkey : ℕ → List LinkId → ℕ → List Key → LlcMessage
confirm_rkey on links rmb keys = let others : List ℕ = other_slots on links in
    ConfirmRkey false false false (length others) (padded 3 no_token (first_token (length others) rmb keys on ∷ map (token_for rmb keys) others))

-- DELETE RKEY: the keys of the RMBs for the link that carries it
-- RFC 7609, A.3: DELETE RKEY; the order of keys is ours
abbrev pub delete_rkey : ℕ → List ℕ → List Key → LlcMessage
delete_rkey on rmbs keys = DeleteRkey false false (length rmbs) 0 (padded 8 0 (map (λ rmb. key_on rmb on keys) rmbs))

-- replies repeat the request's fields
-- RFC 7609, A.3; what a reply repeats is ours
abbrev pub key_reply : Bool → LlcMessage → LlcMessage
key_reply retry (ConfirmRkey reply again negative others tokens) = ConfirmRkey true retry negative others tokens
key_reply retry m = m

-- the reply to DELETE LINK
-- RFC 7609, A.3; what a reply repeats is ours
abbrev pub drop_reply : LlcMessage → LlcMessage
drop_reply (DeleteLink reply every orderly link reason) = DeleteLink true every orderly link reason
drop_reply m = m

-- the reply to TEST LINK
-- RFC 7609, A.3; what a reply repeats is ours
abbrev pub echo : LlcMessage → LlcMessage
echo (TestLink reply bytes) = TestLink true bytes
echo m = m

-- in the reply to DELETE RKEY the bits, from the high end, of the keys that weren't known
-- RFC 7609, A.3: DELETE RKEY, the error mask
abbrev pub is_unknown : LinkId → List Key → ℕ → Bool
is_unknown on book key = is_nil (rmbs_bound key on book)

-- the bits of the entries that are set, from the high end
-- RFC 7609, A.3: DELETE RKEY, the error mask
abbrev pub mask_of : ℕ → List Bool → ℕ
mask_of bit [] = 0
mask_of bit (unknown ∷ rest) = (if unknown then bit else 0) + mask_of (bit / 2) rest

-- the reply to DELETE RKEY
-- RFC 7609, A.3: DELETE RKEY, the error mask
abbrev pub delete_reply : LinkId → List Key → LlcMessage → LlcMessage
delete_reply on book (DeleteRkey reply negative count mask keys) =
    let unknown : ℕ = mask_of 0x80 (map (is_unknown on book) (take count keys)) in DeleteRkey true (not (unknown == 0)) count unknown keys
delete_reply on book m = m
