-- What an entry may do to the keys of a side and to what a side has learnt: each change with the message that makes it.
use Rattle.std.specs.Prelude.{Bool, List, Some, [], false, filter_map, take, true, ℕ, ◌<◌, ◌==◌, ◌∷◌, ◌≡◌}
use Rattle.std.specs.List.{list_any}
use Rattle.pipe_model.specs.declared.flow.FlowStep.TheVariants.{Confirmed}
use Rattle.pipe_model.specs.Keys.{confirms, deleted, forgets, new_key, token_keys}
use Rattle.pipe_model.specs.declared.reply.SentKind.{SentKind}
use Rattle.pipe_model.specs.declared.reply.SentKind.TheVariants.{Confirm as ConfirmSent, ConfirmLink as LinkSent}
use Rattle.pipe_model.specs.Flows.{LinkSent}
use Rattle.pipe_model.specs.declared.event.Event.TheVariants.{Clc as ClcEvent}
use Rattle.pipe_model.specs.declared.reply.Reply.TheVariants.{Sent}
use Rattle.smc_num.specs.Keys.{binds}
use Rattle.history_laws.specs.Words.{A, Act, AddKeys, AskLink, B, ConfirmRkey, Entry, FlowStep, Forget, Key, KeyToken, Keys, Known, Learn, LinkId, Llc, LlcMessage, Offer, Offered, ReplyAdd, ReplyKeys, SendKeys, Side, Withdraw, book_of, fabric, flow_of, group_of, has, is_for, key_base, keys_of, link_or_none, named_rmbs, named_slot, no_keys, offered, other, peer, registers, rmb_at, table_of, token_rmb, unpending, withdraws}
use Rattle.history_laws.specs.Lists.{IsAmong}
use Rattle.link_laws.specs.FabricChanges.{OffersFirst, Takes}

-- no two of these are alike
abbrev pub NoTwo : (Key → Key → Bool) → List Key → Type 0
NoTwo alike [] = Unit {0}
NoTwo alike (k ∷ ks) = (list_any (alike k) ks ≡ false) × NoTwo alike ks

-- two keys have one number
abbrev pub same_number : Key → Key → Bool
same_number k j = k.key == j.key

-- two keys are of one RMB and slot
abbrev pub same_use : Key → Key → Bool
same_use k j = is_for k.rmb k.link.slot j

-- what is true of the keys of a side: no number twice, no RMB and slot twice, and numbers above the base
pub record AreKeys (base : ℕ) (ks : List Key) : Type 0 where
  -- Clc and Deliver bind the lowest free number
  pub numbers : NoTwo same_number ks
  -- Clc and Deliver: a registering for another link of the slot keeps the number
  pub uses : NoTwo same_use ks
  -- Clc and Deliver: numbers are bound from the base on
  pub above : (k : Key) → IsAmong k ks → base < k.key

-- a side posts a CONFIRM RKEY with an entry
pub record AsksKey (x : Side) (e : Entry) (tokens : List KeyToken) : Type 0 where
  pub on : LinkId
  pub retry : Bool
  pub negative : Bool
  pub others : ℕ
  pub posted : IsAmong (Llc x on (ConfirmRkey false retry negative others tokens)) e.posts

-- whether a step changes the keys of its side
abbrev pub changes_keys : FlowStep → Bool
changes_keys (ReplyAdd false) = true
changes_keys SendKeys = true
changes_keys Confirmed = true
changes_keys Withdraw = true
changes_keys step = false

-- the link of the slot that a landed message names
abbrev pub link_named : Side → Entry → List Entry → Act → LinkId
link_named x e past act = link_or_none (named_slot act.message act.link.slot) (table_of x (e ∷ past))

-- an RMB is registered for a link with an entry: A makes the link, or B tells its keys for it, and the RMB is confirmed; or the side
-- offers it in first contact; or it asks to confirm it, and the link is known and not pending
pub data Registers (x : Side) (e : Entry) (past : List Entry) : ℕ → LinkId → Type 0 where
  ForMade : (rmb : ℕ) (t : Takes x e past (ReplyAdd false)) → IsAmong rmb (keys_of x past).confirmed → Registers x e past rmb (link_named x e past t.act)
  ForTold : (rmb : ℕ) (t : Takes x e past SendKeys) → IsAmong rmb (keys_of x past).confirmed → Registers x e past rmb (link_named x e past t.act)
  ForOffer : (link : LinkId) (o : Offer) → OffersFirst x e link o → Registers x e past (rmb_at o.address) link
  ForAsked : (link : LinkId) (tokens : List KeyToken) → AsksKey x e tokens → IsAmong link (unpending (table_of x (e ∷ past))) → Registers x e past (token_rmb tokens) link

-- an RMB becomes confirmed with an entry: the answer to CONFIRM RKEY lands, or the side offers it in first contact
pub data Confirms (x : Side) (e : Entry) (past : List Entry) : ℕ → Type 0 where
  ByAnswer : Takes x e past Confirmed → Confirms x e past (flow_of x past).rmb
  ByOffer : (link : LinkId) (o : Offer) → OffersFirst x e link o → Confirms x e past (rmb_at o.address)

-- a fact about keys goes on with each change that an entry makes, the first of them by what has landed
pub record GoesOn (x : Side) (e : Entry) (past : List Entry) (P : Keys → Type 0) : Type 0 where
  pub was : P (keys_of x past)
  pub withdrawn : (t : Takes x e past Withdraw) → P (withdraws (named_rmbs (deleted t.act.message) (keys_of x past).keys) (keys_of x past))
  pub registered : (rmb : ℕ) (link : LinkId) → Registers x e past rmb link → (ks : Keys) → P ks → P (record ks { keys = registers (key_base x) rmb ks.keys link })
  pub confirmed : (rmb : ℕ) → Confirms x e past rmb → (ks : Keys) → P ks → P (record ks { confirmed = confirms rmb ks.confirmed })
  pub ended : group_of x (e ∷ past) ≡ 0 → P no_keys

-- the key that an offer tells
abbrev pub offered_key : Offered → Key
offered_key o = record { key = o.offer.key; rmb = rmb_at o.offer.address; link = o.link }

-- what a side sends as it takes the peer's offer of first contact
abbrev pub answer_kind : Side → SentKind
answer_kind A = ConfirmSent
answer_kind B = LinkSent

-- a side takes the peer's offer of first contact with an entry: A the Accept, B the Confirm
pub record TakesOffer (x : Side) (e : Entry) (past : List Entry) (o : Offered) : Type 0 where
  pub s : ℕ
  pub event : e.event ≡ ClcEvent s (other x)
  pub reply : e.reply ≡ Sent (answer_kind x)
  pub offered : offered (other x) s past ≡ Some o

-- the keys that a message tells its taker, where it learns
abbrev pub told_keys : LinkId → List Known → ℕ → LlcMessage → List Key → List Key
told_keys on table slot (ConfirmRkey reply retry negative others tokens) book = token_keys on table others tokens
told_keys on table slot (AddKeys reply link count keys) book = filter_map (new_key on (link_or_none slot table) book) (take count keys)
told_keys on table slot m book = []

-- the keys that a landed message tells, of the link of a slot where it tells of one
abbrev pub told_by : Side → Act → ℕ → List Entry → List Key
told_by x act slot past = told_keys act.link (table_of x past) slot act.message (book_of x past)

-- a side learns a key with an entry: of the peer's offer of first contact, of a CONFIRM RKEY, of A's answer to the keys for a new link, or
-- of B's keys for it
pub data Learns (x : Side) (e : Entry) (past : List Entry) : Key → Type 0 where
  OfOffer : (o : Offered) → TakesOffer x e past o → Learns x e past (offered_key o)
  OfRequest : (k : Key) (t : Takes x e past Learn) → IsAmong k (told_by x t.act t.act.link.slot past) → Learns x e past k
  OfAnswer : (k : Key) (t : Takes x e past AskLink) → IsAmong k (told_by x t.act (named_slot t.act.message t.act.link.slot) past) → Learns x e past k
  OfKeys : (k : Key) (t : Takes x e past (ReplyKeys true)) → IsAmong k (told_by x t.act (named_slot t.act.message t.act.link.slot) past) → Learns x e past k

-- a fact about what is known goes on with each change that an entry makes
pub record GoesOnLearnt (x : Side) (e : Entry) (past : List Entry) (P : List Key → Type 0) : Type 0 where
  pub was : P (book_of x past)
  pub forgot : (t : Takes x e past Forget) → P (forgets t.act.link t.act.message (book_of x past))
  pub learnt : (k : Key) → Learns x e past k → (book : List Key) → P book → P (binds k book)
  pub ended : group_of x (e ∷ past) ≡ 0 → P []

-- a key with the number, the RMB and the slot of another
pub record HasUse (k : Key) (ks : List Key) : Type 0 where
  pub key : Key
  pub among : IsAmong key ks
  pub number : key.key ≡ k.key
  pub of : key.rmb ≡ k.rmb
  pub slot : key.link.slot ≡ k.link.slot

-- the keys of an RMB are withdrawn with an entry, or all go with the group
pub data Goes (x : Side) (e : Entry) (past : List Entry) (rmb : ℕ) : Type 0 where
  Withdrawn : (t : Takes x e past Withdraw) → has rmb (named_rmbs (deleted t.act.message) (keys_of x past).keys) ≡ true → Goes x e past rmb
  GroupGoes : group_of x (e ∷ past) ≡ 0 → Goes x e past rmb

-- the links whose keys were in the last CONFIRM RKEY of a side
abbrev pub told_of : Side → List Entry → List LinkId
told_of x past = (peer x (fabric past)).told
