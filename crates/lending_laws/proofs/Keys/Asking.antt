-- What a verdict that asks for keys does to its side, and what the posts of requests say.
use Rattle.std.proofs.Common.{List, ap, refl, ℕ, ◌∙◌, ◌∷◌, ◌≡◌}
use Rattle.pipe_model.specs.Fabric.{after}
use Rattle.pipe_model.specs.declared.event.Event.TheVariants.{Clc as ClcEvent}
use Rattle.pipe_model.specs.declared.reply.Reply.TheVariants.{Sent}
use Rattle.pipe_model.specs.declared.reply.SentKind.TheVariants.{ConfirmRkey as KeySent}
use Rattle.pipe_model.specs.declared.flow.KeyPhase.TheVariants.{Asked}
use Rattle.history_laws.specs.Words.{A, B, Entry, Fabric, Peer, Setup, Side, confirms_on, fabric, flow_of, keys_of, link_or_none, lowest_live, next_free, other, peer, peer_of, rkey_post, rmb_address, rmb_at, table_of, unpending, with_peer}
use Rattle.history_laws.proofs.Basics.{rmb-of}
use Rattle.link_laws.specs.Posted.{VerdictAsks}
use Rattle.link_laws.specs.KeyChanges.{told_of}

module _ (setup : Setup) (payload : List ℕ) (x : Side) (e : Entry) (past : List Entry) (va : VerdictAsks setup payload x e past) where
  abbrev rmb : ℕ
  rmb = (next_free setup payload x past).rmb

  -- the fabric after it
  pub asked-fabric : fabric (e ∷ past) ≡ with_peer x (confirms_on (link_or_none (lowest_live (peer_of x past).table) (peer_of x past).table).slot (rmb_at (rmb_address (next_free setup payload x past).rmb)) (peer x (fabric past))) (fabric past)
  asked-fabric = ap (λ v. after v e.reply e.posts past (fabric past)) va.event_is
      ∙ (ap (λ r. after (ClcEvent va.s (other x)) r e.posts past (fabric past)) va.reply_is
      ∙ (ap (λ ps. after (ClcEvent va.s (other x)) (Sent KeySent) ps past (fabric past)) va.posts_are ∙ by x))
    where
      by : (z : Side) → after (ClcEvent va.s (other z)) (Sent KeySent) (rkey_post z (next_free setup payload z past).rmb (peer_of z past) (keys_of z past).keys ∷ va.more) past (fabric past)
          ≡ with_peer z (confirms_on (link_or_none (lowest_live (peer_of z past).table) (peer_of z past).table).slot (rmb_at (rmb_address (next_free setup payload z past).rmb)) (peer z (fabric past))) (fabric past)
      by A = refl
      by B = refl

  own : (z : Side) (q : Peer) (f : Fabric) → peer z (with_peer z q f) ≡ q
  own A q f = refl
  own B q f = refl

  -- its side after it
  pub asked-peer : peer x (fabric (e ∷ past)) ≡ confirms_on (link_or_none (lowest_live (peer_of x past).table) (peer_of x past).table).slot (rmb_at (rmb_address (next_free setup payload x past).rmb)) (peer x (fabric past))
  asked-peer = ap (peer x) asked-fabric ∙ own x _ (fabric past)

  pub asked-key : (flow_of x (e ∷ past)).key ≡ Asked
  asked-key = ap (λ (p : Peer). p.flow.key) asked-peer

  pub asked-rmb : (flow_of x (e ∷ past)).rmb ≡ (next_free setup payload x past).rmb
  asked-rmb = ap (λ (p : Peer). p.flow.rmb) asked-peer ∙ rmb-of (next_free setup payload x past).rmb

  pub asked-table : table_of x (e ∷ past) ≡ table_of x past
  asked-table = ap (λ (p : Peer). p.table) asked-peer

  pub asked-told : told_of x (e ∷ past) ≡ unpending (table_of x past)
  asked-told = ap (λ (p : Peer). p.told) asked-peer
