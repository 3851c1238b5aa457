-- What holds of the links, the groups and the flows of both sides after every played history, and of the one message of the link flow
-- that is under way.
-- A reader learns here, slot by slot and flow by flow, how the two sides may differ.
use Rattle.std.specs.Prelude.{Bool, List, None, Option, Some, [], false, if◌then◌else◌, not, true, ℕ, ◌&&◌, ◌==◌, ◌||◌, ◌∷◌, ◌≡◌, ◌≢◌, ◌≤◌}
use Rattle.smc_num.specs.declared.LinkPhase.TheVariants.{Live as LiveLink}
use Rattle.pipe_model.specs.Flows.{LinkSent}
use Rattle.std.specs.Option.{option_or}
use Rattle.history_laws.specs.Words.{A, Abandoned, AddKeys, AddLink, AddSeen, AddSent, B, ConfirmLink, Drop, Fabric, FirstContact, Flow, KeyPhase, KeysSent, Known, LinkFlow, LinkId, LinkPhase, Llc, LlcMessage, NoFlow, Peer, Pending, Post, Side, is_asked, is_deleting, is_first_contact, is_live, is_pending, is_standing, link_at, no_flow, peer, phase_at, same_link, same_side, stands}
use Rattle.history_laws.specs.Tables.{Rises}

-- each known link is of a group
abbrev pub AreOf : ℕ → List Known → Type 0
AreOf group [] = Unit {0}
AreOf group (k ∷ ks) = (k.link.group ≡ group) × AreOf group ks

-- none stands
abbrev pub NoneStands : List Known → Type 0
NoneStands [] = Unit {0}
NoneStands (k ∷ ks) = (is_standing k.phase ≡ false) × NoneStands ks

-- the links of these slots are live
abbrev pub AreLive : (ℕ → LinkPhase) → List ℕ → Type 0
AreLive phase [] = Unit {0}
AreLive phase (k ∷ ks) = (phase k ≡ LiveLink) × AreLive phase ks

-- the links that carry the drops are live
abbrev pub CarryDrops : (ℕ → LinkPhase) → List Drop → Type 0
CarryDrops phase [] = Unit {0}
CarryDrops phase (d ∷ ds) = (phase d.on ≡ LiveLink) × CarryDrops phase ds

-- what the phases of a side's links are in a state of its link flow: the new link is pending, or not live yet, and the carrier is live
abbrev pub LinkFits : (ℕ → LinkPhase) → LinkFlow → Type 0
LinkFits phase NoFlow = Unit {0}
LinkFits phase FirstContact = ⊥
LinkFits phase (AddSent k on) = (1 ≤ k) × (is_live (phase k) ≡ false) × (phase on ≡ LiveLink)
LinkFits phase (KeysSent k on) = (1 ≤ k) × (phase k ≡ Pending) × (phase on ≡ LiveLink)
LinkFits phase (LinkSent k) = phase k ≡ Pending
LinkFits phase (Abandoned on) = phase on ≡ LiveLink
LinkFits phase (AddSeen k) = phase k ≡ Pending

-- which states of the link flow a side has: A is the client, B the server
abbrev pub is_own_flow : Side → LinkFlow → Bool
is_own_flow x NoFlow = true
is_own_flow x FirstContact = true
is_own_flow A (AddSeen k) = true
is_own_flow A flow = false
is_own_flow B (AddSeen k) = false
is_own_flow B flow = true

-- whether a key request is out
abbrev pub is_open_key : KeyPhase → Bool
is_open_key phase = is_asked phase || is_deleting phase

-- all flows of a side whose group is beyond first contact
pub record AreFlowing (x : Side) (phase : ℕ → LinkPhase) (f : Flow) : Type 0 where
  -- Deliver: each step leaves a side in states of its own
  pub own : is_own_flow x f.link ≡ true
  -- Report and Deliver may lose the new link, or the one that carries the request
  pub link : LinkFits phase f.link
  -- Clc and Trim begin a request; Report moves it to another link
  pub key : is_open_key f.key ≡ true → phase f.on ≡ LiveLink
  -- Test begins one; Report drops it with its link
  pub tests : AreLive phase f.tests
  -- Report begins one; a second Report moves it to another link
  pub drops : CarryDrops phase f.drops

-- the phases of the links that a side knows, by slot
abbrev pub phases : Peer → ℕ → LinkPhase
phases p k = phase_at k p.table

-- a side has no group, and none of its links stands; or is in first contact, with no link or one that is pending; or has a live link
pub data IsSound (x : Side) (p : Peer) : Type 0 where
  HasNone : p.group ≡ 0 → p.flow ≡ no_flow → NoneStands p.table → IsSound x p
  Begins : p.group ≢ 0 → p.flow ≡ record no_flow { link = FirstContact } → p.table ≡ [] → IsSound x p
  Confirms : (link : LinkId) → p.group ≢ 0 → p.flow ≡ record no_flow { link = FirstContact } → p.table ≡ record { link = link; phase = Pending } ∷ [] → IsSound x p
  Goes : (k : ℕ) → p.group ≢ 0 → phases p k ≡ LiveLink → AreFlowing x (phases p) p.flow → IsSound x p

-- what a side knows in its group: slots from 1 rise, and its links are of its group
pub record IsOwn (x : Side) (p : Peer) : Type 0 where
  -- Clc and Deliver put a new link into the table
  pub rises : Rises 1 p.table
  -- Clc: a group begins with an empty table
  pub owned : p.group ≢ 0 → AreOf p.group p.table
  -- Report and Deliver: the group ends with its last live link
  pub sound : IsSound x p

-- the links that a side knows are the latest of their slots
pub record AreLatest (p : Peer) (latest : List Known) : Type 0 where
  -- Clc and Deliver make a link only on a slot where none stands
  pub known : (k : ℕ) (link : LinkId) → link_at k p.table ≡ Some link → link_at k latest ≡ Some link

-- whether B waits for the reply to CONFIRM LINK for a slot
abbrev pub is_confirming : ℕ → LinkFlow → Bool
is_confirming k FirstContact = true
is_confirming k (LinkSent j) = j == k
is_confirming k flow = false

-- whether A waits for CONFIRM LINK for a slot
abbrev pub is_seen : ℕ → LinkFlow → Bool
is_seen k (AddSeen j) = j == k
is_seen k flow = false

-- how the phases of a slot may differ, the flow being B's: what is live at B is not pending at A, and what is live at A and pending at
-- B is being confirmed
abbrev pub slot_fits : LinkFlow → ℕ → LinkPhase → LinkPhase → Bool
slot_fits flow k Pending LiveLink = false
slot_fits flow k LiveLink Pending = is_confirming k flow
slot_fits flow k a b = true

-- how the two link flows may differ, A's first: while B tells its keys or asks to confirm a link, A waits for that, or has lost the link,
-- or has it live
abbrev pub flows_fit : LinkFlow → LinkFlow → (ℕ → LinkPhase) → Bool
flows_fit a (KeysSent k on) phase = is_seen k a || not (is_standing (phase k))
flows_fit a (LinkSent k) phase = is_seen k a || not (is_pending (phase k))
flows_fit a b phase = true

-- two sides in one group
pub record AreTogether (a b : Peer) : Type 0 where
  -- Clc and Deliver: both tables get a new link at once
  pub same : (k : ℕ) → link_at k a.table ≡ link_at k b.table
  -- Deliver: CONFIRM LINK makes the link live at A, its reply at B
  pub slots : (k : ℕ) → slot_fits b.flow.link k (phases a k) (phases b k) ≡ true
  -- Deliver: B leaves first contact with the reply, after A
  pub first : is_first_contact a.flow.link ≡ true → is_first_contact b.flow.link ≡ true
  -- Report at A, which forgets that it waits; Deliver of ADD LINK
  pub flows : flows_fit a.flow.link b.flow.link (phases a) ≡ true

-- a message of the link flow under way
pub record Under : Type 0 where
  pub from : Side
  pub link : LinkId
  pub message : LlcMessage

-- whether B waits for the reply to ADD LINK for a slot that was sent on the link of another
abbrev pub is_adding_on : ℕ → ℕ → LinkFlow → Bool
is_adding_on k slot (AddSent j on) = (j == k) && (on == slot)
is_adding_on k slot (Abandoned on) = on == slot
is_adding_on k slot flow = false

-- the same of its keys
abbrev pub is_telling_on : ℕ → ℕ → LinkFlow → Bool
is_telling_on k slot (KeysSent j on) = (j == k) && (on == slot)
is_telling_on k slot (Abandoned on) = on == slot
is_telling_on k slot flow = false

-- whether a link was accepted, for all that A knows: B has the new link pending, and A waits for its CONFIRM LINK or has lost it
abbrev pub is_accepted : ℕ → LinkFlow → LinkFlow → LinkPhase → LinkPhase → Bool
is_accepted k a (AddSent j on) pa pb = is_pending pb && (is_seen k a || not (is_standing pa))
is_accepted k a b pa pb = true

-- what a message under way says of the two flows, A's first, and of the phases
abbrev pub under_fits : Side → ℕ → LlcMessage → LinkFlow → LinkFlow → (ℕ → LinkPhase) → (ℕ → LinkPhase) → Bool
under_fits B slot (AddLink false rejected reason mac gid qp k mtu psn) a b pa pb = not (k == 0) && is_adding_on k slot b
under_fits A slot (AddLink true true reason mac gid qp k mtu psn) a b pa pb = is_adding_on k slot b
under_fits A slot (AddLink true false reason mac gid qp k mtu psn) a b pa pb = is_adding_on k slot b && is_accepted k a b (pa k) (pb k)
under_fits B slot (AddKeys false k count keys) a b pa pb = is_telling_on k slot b
under_fits A slot (AddKeys true k count keys) a b pa pb = is_telling_on k slot b
under_fits B slot (ConfirmLink false mac gid qp k user most) a b pa pb = is_confirming slot b && ((is_first_contact a || is_seen slot a) && (is_pending (pa slot) && is_pending (pb slot)))
under_fits A slot (ConfirmLink true mac gid qp k user most) a b pa pb = is_confirming slot b && (is_live (pa slot) && is_pending (pb slot))
under_fits x slot m a b pa pb = false

-- a link stands at both sides
pub record StandsAtBoth (link : LinkId) (f : Fabric) : Type 0 where
  pub at_a : stands link f.a.table ≡ true
  pub at_b : stands link f.b.table ≡ true

-- the message fits the flows, as long as its link stands at both sides
abbrev pub FitsUnder : Under → Fabric → Type 0
FitsUnder w f = StandsAtBoth w.link f → under_fits w.from w.link.slot w.message f.a.flow.link f.b.flow.link (phases f.a) (phases f.b) ≡ true

-- links, groups and flows, with the last message of the link flow, if it was not taken
pub record AreLinked (f : Fabric) (under : Option Under) : Type 0 where
  -- Clc and Deliver make a link
  pub latest_rises : Rises 1 f.latest
  -- Clc and Deliver: a slot is made anew where no link stands on it at either side
  pub latest : (x : Side) → AreLatest (peer x f) f.latest
  -- each event that changes flows, and Report, which loses a link
  pub own : (x : Side) → IsOwn x (peer x f)
  -- Report, and Deliver of DELETE LINK: one side loses a link that the other still has
  pub together : f.a.group ≢ 0 → f.a.group ≡ f.b.group → AreTogether f.a f.b
  -- Deliver takes a message and answers it; Report ends the flow that it fits, or posts it again
  pub fits : (w : Under) → under ≡ Some w → FitsUnder w f

-- whether a message is of the link flow
abbrev pub is_link_message : LlcMessage → Bool
is_link_message (ConfirmLink reply mac gid qp k user most) = true
is_link_message (AddLink reply rejected reason mac gid qp k mtu psn) = true
is_link_message (AddKeys reply k count keys) = true
is_link_message m = false

-- the message of the link flow in a post
abbrev pub under_of : Post → Option Under
under_of (Llc from link m) = if is_link_message m then Some (record { from = from; link = link; message = m }) else None
under_of post = None

-- the first among the posts of an entry
abbrev pub under_in : List Post → Option Under
under_in [] = None
under_in (post ∷ posts) = option_or (under_of post) (under_in posts)

-- what was under way, after a message has landed
abbrev pub left_by : LlcMessage → Option Under → Option Under
left_by m under = if is_link_message m then None else under

-- what is under way after posts
abbrev pub then_posted : List Post → Option Under → Option Under
then_posted posts under = option_or (under_in posts) under

-- what a wire carries of the link flow
abbrev pub carried_on : LinkId → Side → Option Under → List LlcMessage
carried_on l x None = []
carried_on l x (Some w) = if same_side x w.from && same_link l w.link then w.message ∷ [] else []
