-- All that other subjects owe for the keys of a side: with each entry, in the words of what was tested, as weak as the proofs allow; and what is claimed of them.
use Rattle.std.specs.Prelude.{List, Option, Some, [], false, take, true, ℕ, ◌∷◌, ◌≡◌, ◌≤◌, ◌⊎◌}
use Rattle.pipe_model.specs.declared.flow.FlowStep.TheVariants.{Confirmed}
use Rattle.pipe_model.specs.Keys.{deleted}
use Rattle.history_laws.specs.Words.{Act, AddKeys, AskLink, Entry, Key, Learn, LinkId, LlcMessage, NewKey, Offered, ReplyKeys, Side, Withdraw, act_in, book_of, fabric, flow_of, has, keys_of, known_rmb, link_at, made_on, named_rmbs, named_slot, other, peer, rmb_at, stands, table_of}
use Rattle.history_laws.specs.Lists.{IsAmong}
use Rattle.link_laws.specs.KeyChanges.{HasUse, TakesOffer, offered_key, told_by}
use Rattle.link_laws.specs.Linked.{AreLatest, AreLinked, Under}
use Rattle.link_laws.specs.FabricChanges.{Takes}
use Rattle.link_laws.specs.Covered.{AreCovered, OwedByFlows, wants_keys}
use Rattle.link_laws.specs.Learnt.{AreTold, BeginsFirst, IsNear}
use Rattle.link_laws.specs.Moves.{OwedByMoves}
use Rattle.lending_laws.specs.Tokens.{TellsBound, use_of}
use Rattle.lending_laws.specs.Asked.{AreAsked, OwedByRequests}

-- a side learns of the keys for a new link: B of A's answer, A of B's keys
pub record TakesKeys (x : Side) (e : Entry) (past : List Entry) : Type 0 where
  pub act : Act
  pub is : act_in x e past ≡ Some act
  pub does : (act.step ≡ AskLink) ⊎ (act.step ≡ ReplyKeys true)

-- a reference that the taker knows on the link that carries the keys has, at x, a key of its RMB for the new link's slot
abbrev pub TellsPairs : LinkId → LlcMessage → List Key → List Key → Type 0
TellsPairs on (AddKeys reply j count us) book ks = (u : NewKey) → IsAmong u (take count us) → (rmb : ℕ) → known_rmb u.reference on book ≡ Some rmb → HasUse (use_of u.fresh rmb j) ks
TellsPairs on m book ks = Unit {0}

-- what is owed of the messages that tell keys
pub record OwedByTold (x : Side) (e : Entry) (past : List Entry) : Type 0 where
  -- the peer knows latest links alone, and what lands there is on the latest link of its slot
  pub latest : AreLatest (peer (other x) (fabric past)) (fabric past).latest
  pub lands : (act : Act) → act_in (other x) e past ≡ Some act → link_at act.link.slot (fabric past).latest ≡ Some act.link
  -- an offer of first contact that is taken names a link that is made
  pub offered : (o : Offered) → TakesOffer (other x) e past o → o.link.incarnation ≤ made_on o.link.slot (fabric (e ∷ past))
  -- a CONFIRM RKEY that lands tells bound keys, and of no RMB that is confirmed
  pub request : (t : Takes (other x) e past Learn) → TellsBound t.act.link.slot t.act.message (keys_of x past).keys
  pub unconfirmed : (t : Takes (other x) e past Learn) (k : Key) → IsAmong k (told_by (other x) t.act t.act.link.slot past) → IsAmong k.rmb (keys_of x past).confirmed → ⊥
  -- keys for a new link that land tell bound keys
  pub pairs : (t : TakesKeys (other x) e past) → TellsPairs t.act.link t.act.message (book_of (other x) past) (keys_of x past).keys
  -- x is A, or it is B and its flow is for that slot still; or B has given the link up, and what is told of it is the very key
  pub adding : (t : TakesKeys (other x) e past) → (wants_keys x (named_slot t.act.message t.act.link.slot) (peer x (fabric past)) ≡ true)
      ⊎ ((k : Key) → IsAmong k (told_by (other x) t.act (named_slot t.act.message t.act.link.slot) past) → IsAmong k.rmb (keys_of x past).confirmed → IsNear x k.link (e ∷ past) → IsAmong k (keys_of x past).keys)
  -- what is learnt of an offer is bound at x so, where its link stands there; and is the very key, where its RMB is confirmed already
  pub told : (o : Offered) → TakesOffer (other x) e past o → stands o.link (table_of x (e ∷ past)) ≡ true → HasUse (offered_key o) (keys_of x past).keys
  pub exact : (o : Offered) → TakesOffer (other x) e past o → IsAmong (rmb_at o.offer.address) (keys_of x past).confirmed → IsNear x o.link (e ∷ past) → IsAmong (offered_key o) (keys_of x past).keys
  -- as x begins a group, the peer knows nothing of its links
  pub first : BeginsFirst x e → (k : Key) → IsAmong k (book_of (other x) (e ∷ past)) → IsNear x k.link (e ∷ past) → ⊥

-- what is owed of the answers to key requests
pub record OwedByReplies (x : Side) (e : Entry) (past : List Entry) : Type 0 where
  -- as the answer to CONFIRM RKEY confirms an RMB, what the peer has learnt of it on links that x holds for dead is bound
  pub answered : Takes x e past Confirmed → (k : Key) → IsAmong k (book_of (other x) past) → k.rmb ≡ (flow_of x past).rmb → stands k.link (table_of x past) ≡ false → IsNear x k.link (e ∷ past) → IsAmong k (keys_of x past).keys
  -- as keys are withdrawn, the peer knows none of them on a link that stands at x
  pub forgotten : (t : Takes x e past Withdraw) (k : Key) → IsAmong k (book_of (other x) past) → has k.rmb (named_rmbs (deleted t.act.message) (keys_of x past).keys) ≡ true → stands k.link (table_of x past) ≡ false

-- with each entry of a history, at both sides
abbrev pub AllReplies : List Entry → Type 0
AllReplies [] = Unit {0}
AllReplies (e ∷ past) = ((x : Side) → OwedByReplies x e past) × AllReplies past

-- what is owed with an entry
pub record OwedKeys (x : Side) (e : Entry) (past : List Entry) : Type 0 where
  pub under : Option Under
  pub linked : AreLinked (fabric (e ∷ past)) under
  pub moves : OwedByMoves e past
  pub flows : OwedByFlows e past
  pub requests : OwedByRequests x e past
  pub told : OwedByTold x e past
  pub replies : OwedByReplies x e past

-- all that is claimed of the keys of a side, beside what holds over every list
pub record HasKeys (x : Side) (past : List Entry) : Type 0 where
  pub told : AreTold x past
  pub covered : AreCovered x past
  pub asked : AreAsked x past
