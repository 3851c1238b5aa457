-- What an entry offers and lends, in which states the ends of a socket are, and what stands in its streams.
-- A reader learns here the three ways in which an entry offers, and what holds of ends and offers after every history.
use Rattle.std.specs.Prelude.{Bool, List, None, Some, [], false, filter_map, if◌then◌else◌, not, true, unwrap_or, ℕ, ◌==◌, ◌||◌, ◌∷◌, ◌≡◌, ◌⊎◌}
use Rattle.pipe_model.specs.declared.reply.Reply.TheVariants.{Sent}
use Rattle.pipe_model.specs.declared.reply.SentKind.TheVariants.{Accept as AcceptSent, Confirm as ConfirmSent}
use Rattle.pipe_model.specs.declared.event.Event.TheVariants.{Clc as ClcEvent}
use Rattle.clc_wire.specs.declared.message.ClcMessage.TheVariants.{Accept as AcceptMessage, Confirm as ConfirmMessage, Decline as DeclineMessage, Proposal as ProposalMessage}
use Rattle.history_laws.specs.Words.{A, B, ClcMessage, EndState, Entry, Established, LinkId, NoEnd, Offer, Offered, Post, Proposal, Refusal, Reply, SendAccept, SendConfirm, Setup, Side, WaitsAnswer, WaitsConfirm, WaitsProposal, Whole, accept_post, at_side, clc_step, confirm_post, early_state, end_state, fewest, first_link, front, is_opened, is_out, is_raw, is_up, lends, lends_by, named_link, new_offer, no_link, offer_in, offered, other, untaken}
use Rattle.history_laws.specs.Posts.{AreData, AreFree}
use Rattle.history_laws.specs.Lists.{IsAmong}

-- the reply to an Accept that is taken: in later contact the end is established at once
abbrev pub confirm_reply : Bool → Reply
confirm_reply true = Sent ConfirmSent
confirm_reply false = Established

-- the link that an Accept names
abbrev pub accept_link : Setup → List ℕ → Bool → List Entry → LinkId
accept_link setup payload true past = first_link setup past
accept_link setup payload false past = fewest setup payload past

-- B takes a Proposal and offers
pub record Accepts (setup : Setup) (payload : List ℕ) (e : Entry) (past : List Entry) : Type 0 where
  pub s : ℕ
  pub first : Bool
  pub message : ClcMessage
  pub len : ℕ
  pub more : List Post
  pub event_is : e.event ≡ ClcEvent s A
  pub reply_is : e.reply ≡ Sent AcceptSent
  pub waits : end_state B s past ≡ WaitsProposal
  pub front_is : front payload A s past ≡ Whole message len
  pub step_is : clc_step setup payload B s message past ≡ SendAccept first
  pub posts_are : e.posts ≡ accept_post setup payload s first (accept_link setup payload first past) past ∷ more
  pub plain : AreData more

-- A takes an Accept and offers in turn
pub record Confirms (setup : Setup) (payload : List ℕ) (e : Entry) (past : List Entry) : Type 0 where
  pub s : ℕ
  pub first : Bool
  pub offer : Offer
  pub len : ℕ
  pub more : List Post
  pub event_is : e.event ≡ ClcEvent s B
  pub reply_is : e.reply ≡ confirm_reply first
  pub waits : end_state A s past ≡ WaitsAnswer
  pub front_is : front payload B s past ≡ Whole (AcceptMessage offer) len
  pub step_is : clc_step setup payload A s (AcceptMessage offer) past ≡ SendConfirm first
  pub posts_are : e.posts ≡ confirm_post setup payload s first (unwrap_or (named_link s past) no_link) past ∷ more
  pub plain : AreData more

-- what an entry offers: nothing, or once, at one side and on one socket
pub data Offers (setup : Setup) (payload : List ℕ) (e : Entry) (past : List Entry) : Type 0 where
  OffersNone : AreFree e.posts → Offers setup payload e past
  OffersAccept : Accepts setup payload e past → Offers setup payload e past
  OffersConfirm : Confirms setup payload e past → Offers setup payload e past

-- whether an end may still offer: there is none yet, or it waits for a Proposal or an answer
abbrev pub is_early : EndState → Bool
is_early NoEnd = true
is_early WaitsProposal = true
is_early WaitsAnswer = true
is_early _ = false

-- whether there is no end yet
abbrev pub is_none : EndState → Bool
is_none NoEnd = true
is_none _ = false

-- which states an end has: A waits for no Proposal and no Confirm, B for no answer
abbrev pub is_own_state : Side → EndState → Bool
is_own_state A WaitsProposal = false
is_own_state A WaitsConfirm = false
is_own_state B WaitsAnswer = false
is_own_state x state = true

-- what holds of the two ends of a socket after each history that is made by the definitions: their states are their own; where
-- there is one, the socket was opened or is raw, and it was opened where A has one; and no socket is both
pub record HasStates (s : ℕ) (past : List Entry) : Type 0 where
  -- Clc: what an end becomes is one of its side
  pub own : (x : Side) → is_own_state x (early_state x s past) ≡ true
  -- Raw begins the end of B alone
  pub begun : (x : Side) → is_none (early_state x s past) ≡ false → (is_opened s past || is_raw s past) ≡ true
  -- Open begins both ends
  pub opened : is_none (early_state A s past) ≡ false → is_opened s past ≡ true
  -- Open under the name of a raw client, and Raw under that of an open socket, begin nothing
  pub apart : is_opened s past ≡ true → is_raw s past ≡ false

-- what an entry makes a side lend: one element, for a socket on which the side had not offered, and has gone on from there
pub record NewLending (setup : Setup) (payload : List ℕ) (x : Side) (e : Entry) (past : List Entry) : Type 0 where
  pub s : ℕ
  pub first : Bool
  pub link : LinkId
  pub event_is : e.event ≡ ClcEvent s (other x)
  pub early : is_early (end_state x s past) ≡ true
  pub later : is_early (end_state x s (e ∷ past)) ≡ false
  pub offers : (t : ℕ) → filter_map (offer_in x t) e.posts ≡ (if t == s then record { link = link; offer = new_offer setup payload x first link past } ∷ [] else [])
  pub named_is : x ≡ A → named_link s past ≡ Some link
  pub link_is : x ≡ B → link ≡ accept_link setup payload first past
  pub step_is : (m : ClcMessage) × (clc_step setup payload x s m past ≡ at_side x (SendConfirm first) (SendAccept first))
  pub posts_are : (rest : List Post) × (e.posts ≡ at_side x (confirm_post setup payload s first link past) (accept_post setup payload s first link past) ∷ rest)
  pub reply_is : e.reply ≡ at_side x (confirm_reply first) (Sent AcceptSent)
  pub lends_one : filter_map (lends x) e.posts ≡ lends_by s link (new_offer setup payload x first link past) ∷ []

-- what an entry makes a side lend: nothing, or one element
pub data Begins (setup : Setup) (payload : List ℕ) (x : Side) (e : Entry) (past : List Entry) : Type 0 where
  BeginsNone : filter_map (lends x) e.posts ≡ [] → ((t : ℕ) → filter_map (offer_in x t) e.posts ≡ []) → Begins setup payload x e past
  BeginsOne : NewLending setup payload x e past → Begins setup payload x e past

-- what holds of the offers on a socket: an end that has offered is past the states in which it may; an Accept and a Confirm under
-- way are the offers that were made; and A has offered only where B has
pub record HasOffers (s : ℕ) (past : List Entry) : Type 0 where
  -- Clc: an end that offers goes on from there
  pub later : (x : Side) (o : Offered) → offered x s past ≡ Some o → is_early (end_state x s past) ≡ false
  -- Clc: what stands in the stream is B's own Accept
  pub accepted : (o : Offer) → IsAmong (AcceptMessage o) (untaken B s past) → (link : LinkId) × (offered B s past ≡ Some (record { link = link; offer = o }))
  -- Clc: what stands in the stream is A's own Confirm
  pub confirmed : (o : Offer) → IsAmong (ConfirmMessage o) (untaken A s past) → (link : LinkId) × (offered A s past ≡ Some (record { link = link; offer = o }))
  -- Clc: A offers as it takes B's Accept
  pub answer : offered B s past ≡ None → offered A s past ≡ None

-- whether an end that has offered still holds its element: it waits for the Confirm or for its link, or is up
abbrev pub is_holding : EndState → Bool
is_holding state = not (is_early state || is_out state)

-- that no Proposal is among these messages
abbrev pub NoProposal : List ClcMessage → Type 0
NoProposal ms = (p : Proposal) → IsAmong (ProposalMessage p) ms → ⊥

-- that a Proposal stands first in A's stream, for which B still waits, and no other
pub record IsProposed (s : ℕ) (past : List Entry) : Type 0 where
  -- Clc: once B has taken it, it stands there no more
  pub early : is_early (end_state B s past) ≡ true
  pub proposal : Proposal
  pub rest : List ClcMessage
  pub stream_is : untaken A s past ≡ ProposalMessage proposal ∷ rest
  -- Open posts one, and a socket is opened once
  pub none : NoProposal rest

-- what stands in A's stream: nothing before the socket is opened, at most one Proposal, no Accept, and a Decline only once A's end is out
pub record HasStream (s : ℕ) (past : List Entry) : Type 0 where
  -- Deliver may establish an end, which then waited
  pub down : (x : Side) → is_none (early_state x s past) ≡ true → is_up x s past ≡ false
  -- Open begins both ends
  pub some : is_opened s past ≡ true → is_none (early_state A s past) ≡ false
  -- Open posts the first message
  pub unopened : is_opened s past ≡ false → untaken A s past ≡ []
  -- Clc: B takes the Proposal
  pub shape : NoProposal (untaken A s past) ⊎ IsProposed s past
  -- Clc: A posts a Confirm or a Decline
  pub no_accept : (o : Offer) → IsAmong (AcceptMessage o) (untaken A s past) → ⊥
  -- Clc: A declines as it falls back
  pub declined : (r : Refusal) → IsAmong (DeclineMessage r) (untaken A s past) → (is_out (end_state A s past) ≡ true) × (is_none (early_state A s past) ≡ false)
