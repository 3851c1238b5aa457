-- Which keys a confirmed RMB has: A's on each known link, B's on each that is live, or whose keys it tells or which it confirms; and what is owed for it.
use Rattle.std.specs.Prelude.{Bool, List, None, Some, false, true, ℕ, ◌||◌, ◌∷◌, ◌≡◌}
use Rattle.pipe_model.specs.declared.flow.FlowStep.TheVariants.{Confirmed, Live}
use Rattle.history_laws.specs.Words.{A, B, Entry, Key, LinkId, Offer, Peer, ReplyAdd, SendKeys, Side, act_in, fabric, flow_of, group_of, is_live, keys_of, link_at, named_slot, peer, phase_at, table_of}
use Rattle.history_laws.specs.Lists.{IsAmong}
use Rattle.link_laws.specs.FabricChanges.{OffersFirst, Takes, is_keyed}

-- an RMB has a key for that very link
pub record HasKey (rmb : ℕ) (l : LinkId) (ks : List Key) : Type 0 where
  pub key : Key
  pub among : IsAmong key ks
  pub of : key.rmb ≡ rmb
  pub on : key.link ≡ l

-- on which slots a side has a key of each confirmed RMB
abbrev pub wants_keys : Side → ℕ → Peer → Bool
wants_keys A j p = true
wants_keys B j p = is_live (phase_at j p.table) || is_keyed j p.flow.link

-- each confirmed RMB has a key for the link of each such slot
abbrev pub AreCovered : Side → List Entry → Type 0
AreCovered x past = (rmb : ℕ) → IsAmong rmb (keys_of x past).confirmed → (j : ℕ) (l : LinkId) → link_at j (table_of x past) ≡ Some l → wants_keys x j (peer x (fabric past)) ≡ true → HasKey rmb l (keys_of x past).keys

-- where a link comes from on whose slot a side has keys: it was there so; A has just made it; B has just told its keys; or it was just
-- made in first contact
pub data Wanted (x : Side) (e : Entry) (past : List Entry) (j : ℕ) (l : LinkId) : Type 0 where
  WasWanted : link_at j (table_of x past) ≡ Some l → wants_keys x j (peer x (fabric past)) ≡ true → Wanted x e past j l
  NowMade : (t : Takes x e past (ReplyAdd false)) → named_slot t.act.message t.act.link.slot ≡ j → Wanted x e past j l
  NowTold : (t : Takes x e past SendKeys) → named_slot t.act.message t.act.link.slot ≡ j → Wanted x e past j l
  NowBegun : (o : Offer) → OffersFirst A e l o → ((z : Side) → act_in z e past ≡ None) → Wanted x e past j l

-- what link flows and first contact owe with an entry
pub record OwedByFlows (e : Entry) (past : List Entry) : Type 0 where
  -- the answer to CONFIRM LINK lands on the link that B is confirming
  pub confirming : (reply first : Bool) (t : Takes B e past (Live reply first)) → is_keyed t.act.link.slot (flow_of B past).link ≡ true
  -- as A makes a link for an ADD LINK, B has not told its keys for it
  pub adding : (t : Takes A e past (ReplyAdd false)) → is_keyed (named_slot t.act.message t.act.link.slot) (flow_of B past).link ≡ false
  -- as A makes the first link of a group, each RMB that B has confirmed has a key for it
  pub first_b : (l : LinkId) (o : Offer) → OffersFirst A e l o → (rmb : ℕ) → IsAmong rmb (keys_of B past).confirmed → HasKey rmb l (keys_of B past).keys
  -- an offer of first contact is made in no group; and what the side then knows is that link at most
  pub first_none : (x : Side) (l : LinkId) (o : Offer) → OffersFirst x e l o → group_of x past ≡ 0
  pub first_one : (x : Side) (l : LinkId) (o : Offer) → OffersFirst x e l o → (j : ℕ) (m : LinkId) → link_at j (table_of x (e ∷ past)) ≡ Some m → m ≡ l

-- what the key flow of a side owes: as the answer to CONFIRM RKEY confirms an RMB, it has a key for each known link
abbrev pub OwedByAnswers : Side → Entry → List Entry → Type 0
OwedByAnswers x e past = Takes x e past Confirmed → (j : ℕ) (l : LinkId) → link_at j (table_of x past) ≡ Some l → HasKey (flow_of x past).rmb l (keys_of x past).keys
