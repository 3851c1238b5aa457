-- In a played history a side that takes a CLC message does what its manager makes of it; one that finds none does nothing.
use Rattle.pipe_model.specs.declared.entry.Entry.{Entry}
use Rattle.pipe_model.specs.declared.setup.Setup.{Setup}
use Rattle.rmb_region.specs.Regions.{Buffer}
use Rattle.smc_num.specs.Names.{head, other}
use Rattle.smc_num.specs.declared.Side.{Side}
use Rattle.std.proofs.Common.{List, [], ap, false, inl, inr, subst, sym, true, ℕ, ◌∙◌, ◌∷◌, ◌≡◌, ◌⊎◌}
use Rattle.std.specs.Prelude.{None, Some}
use Rattle.world_core.proofs.AllLendings.{has-lendings}
use Rattle.world_core.proofs.QuietEvents.{entry-of}
use Rattle.world_core.proofs.TakenAlone.{paths_of}
use Rattle.world_core.specs.OneLink.{Stage}
use Rattle.world_core.specs.Played.{IsOneLink, IsPlayed}
use Rattle.world_core.specs.Sockets.{untaken_at}
use Rattle.world_core.specs.Sockets.{HasSocket, end_at}
use Rattle.pipe_model.specs.declared.event.Event.{Event}
use Rattle.pipe_model.specs.declared.event.Event.TheVariants.{Clc}
use Rattle.pipe_model.specs.Connections.{end_state}
use Rattle.pipe_model.specs.Fallback.{untaken}
use Rattle.pipe_model.specs.Replies.{expects}
use Rattle.world_core.proofs.PlayedWorlds.{played as has-world}
use Rattle.world_core.proofs.TakenMessages.{end-is}
use Rattle.clc_wire.specs.declared.message.ClcMessage.{ClcMessage}
use Rattle.world_core.proofs.ClcTaken.{IsTaken, IsTakenSo, IsIdle, link_of, clc-taken, clc-idles}

-- the one path is up
pub paths-up : (setup : Setup) (one : IsOneLink setup) (payload : List ℕ) (past : List Entry) (n : ℕ) → IsPlayed setup payload past n → paths_of past ≡ true ∷ []
paths-up setup one payload past n p = let v = has-world setup one payload past n p in let w = v.world in let l = w.link in ap (λ b. b ∷ []) l.path

module _ (setup : Setup) (one : IsOneLink setup) (payload : List ℕ) (regions : List Buffer) (past : List Entry) (n s : ℕ) (dir : Side) where
  -- a message is taken, or held
  pub taken-by-entry : (e : Entry) → e.event ≡ Clc s dir → IsPlayed setup payload (e ∷ past) n → expects (end_state (other dir) s past) ≡ true → (m : ClcMessage) → head (untaken dir s past) ≡ Some m
      → IsTakenSo setup payload regions (other dir) s m (link_of dir s past) (entry-of e.actor (Clc s dir) e.reply e.posts) past
  taken-by-entry e is p waits m first =
      let v = has-world setup one payload past p.0 p.3 in
      let w = v.world in
      let h = w.sockets s in
      let at = h.stands in
      let q : IsPlayed setup payload (entry-of e.actor (Clc s dir) e.reply e.posts ∷ past) n = subst (λ (ev : Event). IsPlayed setup payload (entry-of e.actor ev e.reply e.posts ∷ past) n) is p in
      let made = q.1 in
      clc-taken setup one payload regions past v.stage v.world (has-lendings setup one payload past p.0 p.3) e.actor n s e.posts made.built h.at dir e.reply m h.stands h.suits_is q
      (ap (λ st. expects st) (sym (end-is setup h.at s past at (other dir))) ∙ waits) (ap (λ (ms : List ClcMessage). head ms) (sym (at.messages dir)) ∙ first)

  pub taken : (e : Entry) → e.event ≡ Clc s dir → IsPlayed setup payload (e ∷ past) n → expects (end_state (other dir) s past) ≡ true → (m : ClcMessage) → head (untaken dir s past) ≡ Some m
      → IsTaken setup payload regions (other dir) s m (link_of dir s past) e past
  taken e is p waits m first =
      let t = taken-by-entry e is p waits m first in
      subst (λ (ev : Event). IsTaken setup payload regions (other dir) s m (link_of dir s past) (entry-of e.actor ev e.reply e.posts) past) (sym is) t.taken

  -- no message is there, or the end expects none
  pub idle : (e : Entry) → e.event ≡ Clc s dir → IsPlayed setup payload (e ∷ past) n → (expects (end_state (other dir) s past) ≡ false) ⊎ (head (untaken dir s past) ≡ None) → IsIdle setup payload regions e past
  idle e is p none =
      let v = has-world setup one payload past p.0 p.3 in
      let w = v.world in
      let h = w.sockets s in
      let at = h.stands in
      let q : IsPlayed setup payload (entry-of e.actor (Clc s dir) e.reply e.posts ∷ past) n = subst (λ (ev : Event). IsPlayed setup payload (entry-of e.actor ev e.reply e.posts ∷ past) n) is p in
      let made = q.1 in
      let i = clc-idles setup one payload regions past v.stage v.world (has-lendings setup one payload past p.0 p.3) e.actor n s e.posts made.built dir e.reply h.at h.stands q (at-socket h none) in
      subst (λ (ev : Event). IsIdle setup payload regions (entry-of e.actor ev e.reply e.posts) past) (sym is) i.idle
    where
      at-socket : {stage : Stage} (h : HasSocket setup stage s past) → (expects (end_state (other dir) s past) ≡ false) ⊎ (head (untaken dir s past) ≡ None) → (expects (end_at h.at (other dir)) ≡ false) ⊎ (head (untaken_at setup h.at dir) ≡ None)
      at-socket h (inl e) = inl (ap (λ st. expects st) (sym (end-is setup h.at s past h.stands (other dir))) ∙ e)
      at-socket h (inr e) = let at = h.stands in inr (ap (λ (ms : List ClcMessage). head ms) (sym (at.messages dir)) ∙ e)
