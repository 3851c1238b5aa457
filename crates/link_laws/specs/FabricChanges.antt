-- What an entry may do to the fabric: six kinds of change, each with the message that makes it.
use Rattle.std.specs.Prelude.{Bool, List, None, Some, false, true, ℕ, ◌==◌, ◌≡◌}
use Rattle.pipe_model.specs.declared.post.Post.TheVariants.{Clc}
use Rattle.clc_wire.specs.declared.message.ClcMessage.TheVariants.{Accept as AcceptMessage, Confirm as ConfirmMessage}
use Rattle.pipe_model.specs.Fabric.{does}
use Rattle.pipe_model.specs.declared.reply.SentKind.TheVariants.{ConfirmLink as LinkSent}
use Rattle.pipe_model.specs.Flows.{LinkSent}
use Rattle.history_laws.specs.Words.{A, Act, B, Entry, Fabric, FirstContact, Flow, FlowStep, KeysSent, LinkFlow, LinkId, Offer, Peer, Post, Side, act_in, begins_group, fabric, llc_step, makes, peer, reports, with_peer}
use Rattle.history_laws.specs.Lists.{IsAmong}

-- the post by which a side offers an element on a socket: B's Accept, A's Confirm
abbrev pub offer_post : Side → ℕ → LinkId → Offer → Post
offer_post A s link o = Clc A s (Some link) (ConfirmMessage o)
offer_post B s link o = Clc B s (Some link) (AcceptMessage o)

-- a side posts an offer of first contact with an entry
pub record OffersFirst (x : Side) (e : Entry) (link : LinkId) (o : Offer) : Type 0 where
  pub s : ℕ
  pub posted : IsAmong (offer_post x s link o) e.posts
  pub first : o.first ≡ true

-- a message lands at a side with an entry, and it takes this step
pub record Takes (x : Side) (e : Entry) (past : List Entry) (step : FlowStep) : Type 0 where
  pub act : Act
  pub is : act_in x e past ≡ Some act
  pub does : act.step ≡ step

-- whether B's link flow is one in which the link of a slot has keys already: its keys are told, or it is being confirmed
abbrev pub is_keyed : ℕ → LinkFlow → Bool
is_keyed j FirstContact = true
is_keyed j (KeysSent k on) = k == j
is_keyed j (LinkSent k) = k == j
is_keyed j flow = false

-- a request changes flows alone, and tells no keys for a link
pub record IsRequest (x : Side) (flow : Flow) (p : Peer) : Type 0 where
  pub keyed : (j : ℕ) → is_keyed j flow.link ≡ true → is_keyed j p.flow.link ≡ true

-- a fact about the fabric goes on with each change that an entry may make
pub record GoesOnFabric (e : Entry) (past : List Entry) (P : Fabric → Type 0) : Type 0 where
  pub was : P (fabric past)
  pub begun_b : (link : LinkId) (o : Offer) → OffersFirst B e link o → ((x : Side) → act_in x e past ≡ None) → P (with_peer B (begins_group link.group) (fabric past))
  pub begun_a : (link : LinkId) (o : Offer) → OffersFirst A e link o → ((x : Side) → act_in x e past ≡ None) → P (makes link (with_peer A (begins_group link.group) (fabric past)))
  pub asked : (x : Side) (flow : Flow) (told : List LinkId) → IsRequest x flow (peer x (fabric past)) → P (with_peer x (record (peer x (fabric past)) { flow = flow; told = told }) (fabric past))
  pub taken : (x : Side) (act : Act) → act_in x e past ≡ Some act → act.step ≡ llc_step x act.link act.message past (fabric past) → P (does x act.link act.message act.step (fabric past))
  pub reported : (x : Side) (k : ℕ) → P (with_peer x (reports k (peer x (fabric past))) (fabric past))
