-- What the handshake owes to links and flows.
-- A reader learns here which four facts of first contact the step of links and flows needs, and where.
use Rattle.std.specs.Prelude.{List, None, Option, [], false, true, unwrap_or, ℕ, ◌+◌, ◌∷◌, ◌≡◌, ◌≢◌, ◌≤◌}
use Rattle.clc_wire.specs.declared.message.ClcMessage.TheVariants.{Accept as AcceptMessage, Confirm as ConfirmMessage}
use Rattle.history_laws.specs.Words.{A, AskKey, B, ClcMessage, Entry, FirstContact, LinkId, Offer, Pending, Ready, SendConfirm, Setup, Side, Whole, clc_step, end_state, expects, fabric, flow_of, front, group_of, groups_begun, is_first_contact, made_on, named_link, no_flow, no_link, other, stands, table_of}
use Rattle.link_laws.specs.Linked.{Under}

-- a message at the front of the stream of a side, for which the other side's end waits
pub record IsTaken (payload : List ℕ) (s : ℕ) (dir : Side) (m : ClcMessage) (past : List Entry) : Type 0 where
  pub waits : expects (end_state (other dir) s past) ≡ true
  pub len : ℕ
  pub front : front payload dir s past ≡ Whole m len

-- A may join the group of a link: B is in first contact there, with no link, and the link is the next of its slot
pub record CanJoin (link : LinkId) (past : List Entry) : Type 0 where
  pub some : link.group ≢ 0
  pub slot : 1 ≤ link.slot
  pub group : group_of B past ≡ link.group
  pub flow : flow_of B past ≡ record no_flow { link = FirstContact }
  pub table : table_of B past ≡ []
  pub next : link.incarnation ≡ made_on link.slot (fabric past) + 1

-- B may ask A to confirm a link: B is in first contact with that link alone; so is A, if the link stands there; and nothing of the link
-- flow is under way
pub record CanAsk (link : LinkId) (past : List Entry) (under : Option Under) : Type 0 where
  pub flow : is_first_contact (flow_of B past).link ≡ true
  pub table : table_of B past ≡ record { link = link; phase = Pending } ∷ []
  pub at_a : stands link (table_of A past) ≡ true → is_first_contact (flow_of A past).link ≡ true
  pub none : under ≡ None

-- a side may ask its peer to confirm keys: it has a group, beyond first contact
pub record CanAskKey (x : Side) (past : List Entry) : Type 0 where
  pub group : group_of x past ≢ 0
  pub beyond : is_first_contact (flow_of x past).link ≡ false

-- what the handshake owes after a history, where `under` is what is under way of the link flow: A's group is one that B has begun; A joins,
-- B asks for the first link, and A asks for a key, only where they may
pub record OwedByHandshake (setup : Setup) (payload : List ℕ) (past : List Entry) (under : Option Under) : Type 0 where
  -- Clc: the number of the group that B begins is new at A
  pub begins : group_of A past ≤ groups_begun past
  -- Clc: A takes an Accept of first contact
  pub joins : (s : ℕ) (dir : Side) (m : ClcMessage) → IsTaken payload s dir m past → clc_step setup payload (other dir) s m past ≡ SendConfirm true → CanJoin (unwrap_or (named_link s past) no_link) past
  -- Clc: B takes the Confirm of first contact
  pub asks : (s : ℕ) (dir : Side) (o : Offer) → IsTaken payload s dir (ConfirmMessage o) past → clc_step setup payload (other dir) s (ConfirmMessage o) past ≡ Ready → o.first ≡ true → CanAsk (unwrap_or (named_link s past) no_link) past under
  -- Clc: A takes an Accept of later contact while an RMB lacks its key
  pub keys : (s : ℕ) (o : Offer) → IsTaken payload s B (AcceptMessage o) past → clc_step setup payload A s (AcceptMessage o) past ≡ AskKey → CanAskKey A past
