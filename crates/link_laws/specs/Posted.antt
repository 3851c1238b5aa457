-- Which messages that tell or name keys an entry posts, and what becomes of a side's key flow with it: each case with what makes it.
use Rattle.std.specs.Prelude.{Bool, List, [], false, not, true, ℕ, ◌++◌, ◌==◌, ◌∷◌, ◌≡◌, ◌⊎◌}
use Rattle.pipe_model.specs.Fabric.{loses}
use Rattle.pipe_model.specs.declared.event.Event.TheVariants.{Clc as ClcEvent}
use Rattle.pipe_model.specs.declared.reply.Reply.TheVariants.{Sent}
use Rattle.pipe_model.specs.declared.reply.SentKind.TheVariants.{DeleteRkey as DeleteSent, ConfirmRkey as KeySent}
use Rattle.pipe_model.specs.declared.flow.KeyPhase.TheVariants.{Asked, Free, Retry as RetryWaits}
use Rattle.pipe_model.specs.Messages.{delete_rkey, no_add_keys}
use Rattle.pipe_model.specs.Posts.{keys_post}
use Rattle.history_laws.specs.Words.{AddKeys, AskKey, B, ClcMessage, ConfirmRkey, DeleteRkey, Deleting, Entry, FlowStep, Forget, KeysSent, Learn, Llc, LlcMessage, Peer, Post, ReplyKeys, ReplyRetry, SendKeys, Setup, Side, Trim, Whole, add_keys, book_of, clc_step, delete_reply, deleting_rmbs, end_state, expects, fabric, flow_of, front, is_adding, key_again, key_reply, keys_of, link_or_none, lowest_live, named_slot, next_free, other, peer, peer_of, resends_add, resends_key, rkey_post, trim_post}
use Rattle.history_laws.specs.Lists.{IsAmong}
use Rattle.link_laws.specs.KeyChanges.{changes_keys, told_of}
use Rattle.link_laws.specs.FabricChanges.{Takes}
use Rattle.link_laws.specs.Linked.{is_open_key}

-- whether a message tells or names keys
abbrev pub is_of_keys : LlcMessage → Bool
is_of_keys (AddKeys reply j count keys) = true
is_of_keys (ConfirmRkey reply retry negative others tokens) = true
is_of_keys (DeleteRkey reply negative count mask keys) = true
is_of_keys m = false

abbrev pub is_keys_post : Post → Bool
is_keys_post (Llc from link m) = is_of_keys m
is_keys_post post = false

-- two states of a side that are alike but for tests and for the requests to delete links
pub record IsLike (p q : Peer) : Type 0 where
  pub group : p.group ≡ q.group
  pub table : p.table ≡ q.table
  pub link : p.flow.link ≡ q.flow.link
  pub key : p.flow.key ≡ q.flow.key
  pub rmb : p.flow.rmb ≡ q.flow.rmb
  pub told : p.told ≡ q.told

-- a side loses the link of a slot with an entry, as it reports it or as it takes a DELETE LINK
abbrev pub Loss : Side → ℕ → Entry → List Entry → Type 0
Loss x k e past = IsLike (peer x (fabric (e ∷ past))) (loses k (peer_of x past))

-- a side asks its peer to confirm the keys of an RMB, as a verdict says
pub record VerdictAsks (setup : Setup) (payload : List ℕ) (x : Side) (e : Entry) (past : List Entry) : Type 0 where
  pub s : ℕ
  pub message : ClcMessage
  pub len : ℕ
  pub event_is : e.event ≡ ClcEvent s (other x)
  pub reply_is : e.reply ≡ Sent KeySent
  pub waits : expects (end_state x s past) ≡ true
  pub front_is : front payload (other x) s past ≡ Whole message len
  pub step_is : clc_step setup payload x s message past ≡ AskKey
  pub more : List Post
  pub posts_are : e.posts ≡ rkey_post x (next_free setup payload x past).rmb (peer_of x past) (keys_of x past).keys ∷ more

-- LLC messages that neither tell nor name keys
abbrev pub is_silent : Post → Bool
is_silent (Llc from link m) = not (is_of_keys m)
is_silent post = false

abbrev pub AreSilent : List Post → Type 0
AreSilent [] = Unit {0}
AreSilent (p ∷ ps) = (is_silent p ≡ true) × AreSilent ps

-- what a side that has lost a link posts again of keys: its request to confirm, or to delete, or B's keys for a new link
pub data PostedAgain (setup : Setup) (x : Side) (k : ℕ) (past : List Entry) (posts : List Post) (post : Post) : Type 0 where
  AsksAgain : (flow_of x past).key ≡ Asked → resends_key k (flow_of x past) ≡ true → post ≡ rkey_post x (loses k (peer_of x past)).flow.rmb (loses k (peer_of x past)) (keys_of x past).keys → (before after : List Post) → posts ≡ before ++ post ∷ after → AreSilent before → PostedAgain setup x k past posts post
  DeletesAgain : (flow_of x past).key ≡ Deleting → resends_key k (flow_of x past) ≡ true → post ≡ Llc x (link_or_none (lowest_live (loses k (peer_of x past)).table) (loses k (peer_of x past)).table) (delete_rkey (lowest_live (loses k (peer_of x past)).table) (deleting_rmbs setup x past) (keys_of x past).keys) → PostedAgain setup x k past posts post
  TellsAgain : (j on : ℕ) → (flow_of x past).link ≡ KeysSent j on → resends_add k (KeysSent j on) ≡ true → post ≡ Llc x (link_or_none (lowest_live (loses k (peer_of x past)).table) (loses k (peer_of x past)).table) (add_keys false (lowest_live (loses k (peer_of x past)).table) j (keys_of x past).keys (keys_of x past).confirmed) → PostedAgain setup x k past posts post

-- how a message that tells or names keys comes to be posted by a side
pub data KeysPosted (setup : Setup) (payload : List ℕ) (e : Entry) (past : List Entry) (x : Side) (post : Post) : Type 0 where
  ByVerdict : VerdictAsks setup payload x e past → post ≡ rkey_post x (next_free setup payload x past).rmb (peer_of x past) (keys_of x past).keys → KeysPosted setup payload e past x post
  ByLoss : (k : ℕ) → Loss x k e past → ((loses k (peer_of x past)).group == 0) ≡ false → ((step : FlowStep) → changes_keys step ≡ true → Takes x e past step → ⊥) → PostedAgain setup x k past e.posts post → KeysPosted setup payload e past x post
  ByTrim : e.event ≡ Trim x → e.reply ≡ Sent DeleteSent → post ≡ trim_post setup payload x past → KeysPosted setup payload e past x post
  ByTelling : (t : Takes x e past SendKeys) → post ≡ keys_post (named_slot t.act.message t.act.link.slot) (peer_of x past) (keys_of x past) → KeysPosted setup payload e past x post
  ByAnswer : (t : Takes x e past (ReplyKeys true)) → post ≡ Llc x t.act.link (add_keys true t.act.link.slot (named_slot t.act.message t.act.link.slot) (keys_of x past).keys (keys_of x past).confirmed) → KeysPosted setup payload e past x post
  ByRefusal : (t : Takes x e past (ReplyKeys false)) → post ≡ Llc x t.act.link (no_add_keys (named_slot t.act.message t.act.link.slot)) → KeysPosted setup payload e past x post
  ByRetry : (t : Takes x e past ReplyRetry) → post ≡ Llc x t.act.link (key_reply true t.act.message) → KeysPosted setup payload e past x post
  ByLearning : (t : Takes x e past Learn) → post ≡ Llc x t.act.link (key_reply false t.act.message) → KeysPosted setup payload e past x post
  ByForgetting : (t : Takes x e past Forget) → post ≡ Llc x t.act.link (delete_reply t.act.link (book_of x past) t.act.message) → KeysPosted setup payload e past x post

-- what becomes of a side's key flow: it stays; it is free or waits to ask again; it asks, as a verdict says; it deletes; or a link was lost
pub data KeyTurn (setup : Setup) (payload : List ℕ) (x : Side) (e : Entry) (past : List Entry) : Type 0 where
  KeyStays : (flow_of x (e ∷ past)).key ≡ (flow_of x past).key → (flow_of x (e ∷ past)).rmb ≡ (flow_of x past).rmb → told_of x (e ∷ past) ≡ told_of x past → KeyTurn setup payload x e past
  KeyFree : (flow_of x (e ∷ past)).key ≡ Free → KeyTurn setup payload x e past
  KeyRetries : (flow_of x (e ∷ past)).key ≡ RetryWaits → KeyTurn setup payload x e past
  KeyAsks : VerdictAsks setup payload x e past → KeyTurn setup payload x e past
  KeyDeletes : e.event ≡ Trim x → e.reply ≡ Sent DeleteSent → (more : List Post) → e.posts ≡ trim_post setup payload x past ∷ more → (flow_of x (e ∷ past)).key ≡ Deleting → KeyTurn setup payload x e past
  KeyLoses : (k : ℕ) → Loss x k e past → (((loses k (peer_of x past)).group == 0) ≡ false → resends_key k (flow_of x past) ≡ true → IsAmong (key_again x (loses k (peer_of x past)) (keys_of x past).keys (deleting_rmbs setup x past) (flow_of x past).key) e.posts) → KeyTurn setup payload x e past

-- B adds a link after an entry: it did so before; or it has just begun, where no key request is out
abbrev pub AddsFrom : Entry → List Entry → Type 0
AddsFrom e past = is_adding (flow_of B (e ∷ past)).link ≡ true → (is_adding (flow_of B past).link ≡ true) ⊎ (((flow_of B (e ∷ past)).key ≡ (flow_of B past).key) × (is_open_key (flow_of B past).key ≡ false))
