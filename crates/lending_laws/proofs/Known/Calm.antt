-- While B adds a link no key request of it is out: the step, and after every history.
use Rattle.std.proofs.Common.{Bool, List, [], ap, false, if◌then◌else◌, inl, inr, refl, sym, true, true≢false, ℕ, ◌==◌, ◌∙◌, ◌∷◌, ◌≡◌, ◌⊎◌}
use Rattle.pipe_model.specs.declared.reply.Reply.TheVariants.{Idle, Sent}
use Rattle.pipe_model.specs.declared.reply.SentKind.TheVariants.{DeleteRkey as DeleteSent}
use Rattle.pipe_model.specs.Replies.{told}
use Rattle.pipe_model.specs.declared.reply.Hold.TheVariants.{AddLink as AddLinkHold, ConfirmRkey as ConfirmRkeyHold, DeleteRkey as DeleteRkeyHold, FirstContact as FirstContactHold}
use Rattle.pipe_model.specs.Fabric.{loses}
use Rattle.history_laws.specs.Words.{B, Entry, Held, Peer, Setup, Side, Trim, ends_group, flow_of, goes_on, group_of, is_adding, is_asking_or_waiting, is_deleting, is_first_contact, is_nil, lacks, lowest_live, peer_of, reply_of, trimmed, without_slot}
use Rattle.history_laws.specs.Made.{IsMadeAll, IsMade}
use Rattle.link_laws.specs.Linked.{is_open_key}
use Rattle.link_laws.proofs.KeyMessages.{adds-from, key-turn}
use Rattle.link_laws.specs.Posted.{KeyAsks, KeyDeletes, KeyFree, KeyLoses, KeyRetries, KeyStays, KeyTurn}
use Rattle.lending_laws.specs.Telling.{AreCalm}
use Rattle.lending_laws.proofs.Known.AskFacts.{AskFacts, asks-facts}

-- a side that begins to delete keys adds no link
trim-calm : (setup : Setup) (payload : List ℕ) (past : List Entry) (before : ℕ) (e : Entry) → IsMade setup payload past before e → (x : Side) → e.event ≡ Trim x → e.reply ≡ Sent DeleteSent → is_adding (flow_of x past).link ≡ false
trim-calm setup payload past before e made x ev r = by (group_of x past == 0) (is_first_contact (flow_of x past).link) (is_adding (flow_of x past).link) (is_asking_or_waiting (flow_of x past).key) (is_deleting (flow_of x past).key) (is_nil (trimmed setup payload x past)) refl
    (sym (ap (λ v. reply_of before (told setup payload past v)) ev) ∙ (sym made.reply ∙ r))
  where
    by : (b c d g h i : Bool) → is_adding (flow_of x past).link ≡ d → (if b then Idle else if c then Held FirstContactHold else if d then Held AddLinkHold else if g then Held ConfirmRkeyHold else if h then Held DeleteRkeyHold else if i then Idle else Sent DeleteSent) ≡ Sent DeleteSent
        → is_adding (flow_of x past).link ≡ false
    by true c d g h i q e = absurd (let z : Idle ≡ Sent DeleteSent = e in cc)
    by false true d g h i q e = absurd (let z : Held FirstContactHold ≡ Sent DeleteSent = e in cc)
    by false false true g h i q e = absurd (let z : Held AddLinkHold ≡ Sent DeleteSent = e in cc)
    by false false false g h i q e = q

-- a loss opens no key request
loses-open : (k : ℕ) (p : Peer) → is_open_key p.flow.key ≡ false → is_open_key (loses k p).flow.key ≡ false
loses-open k p h = by (lowest_live (without_slot k p).table == 0)
  where
    by : (b : Bool) → is_open_key (if b then ends_group (without_slot k p) else goes_on k (without_slot k p)).flow.key ≡ false
    by true = refl
    by false = h

-- the step
calm-after : (setup : Setup) (payload : List ℕ) (e : Entry) (past : List Entry) → IsMadeAll setup payload (e ∷ past) → AreCalm past → AreCalm (e ∷ past)
calm-after setup payload e past m was adds = by (adds-from setup payload past m.0.0 e m.0.1 adds)
  where
    by : (is_adding (flow_of B past).link ≡ true) ⊎ (((flow_of B (e ∷ past)).key ≡ (flow_of B past).key) × (is_open_key (flow_of B past).key ≡ false)) → is_open_key (flow_of B (e ∷ past)).key ≡ false
    by (inr h) = ap is_open_key h.0 ∙ h.1
    by (inl before) = turned (key-turn setup payload past m.0.0 e m.0.1 B)
      where
        turned : KeyTurn setup payload B e past → is_open_key (flow_of B (e ∷ past)).key ≡ false
        turned (KeyStays a b c) = ap is_open_key a ∙ was before
        turned (KeyFree a) = ap is_open_key a
        turned (KeyRetries a) = ap is_open_key a
        turned (KeyAsks va) = absurd (let f : AskFacts (lacks setup payload B past) = asks-facts setup payload B e past va in true≢false (sym before ∙ f.idle))
        turned (KeyDeletes ev r more posts a) = absurd (true≢false (sym before ∙ trim-calm setup payload past m.0.0 e m.0.1 B ev r))
        turned (KeyLoses k loss again) = ap is_open_key loss.key ∙ loses-open k (peer_of B past) (was before)

-- after every history
pub all-calm : (setup : Setup) (payload : List ℕ) (past : List Entry) → IsMadeAll setup payload past → AreCalm past
all-calm setup payload [] m adds = absurd (true≢false (sym adds))
all-calm setup payload (e ∷ past) m adds = calm-after setup payload e past m (all-calm setup payload past m.1) adds
