-- An entry that completes a post, or none: what becomes of both managers and what is posted, by the post that completes.
use Rattle.std.proofs.Common.{◌≡◌, ℕ, ◌+◌, List, ◌∷◌, refl, ap, sym, subst}
use Rattle.std.specs.Prelude.{Some, None}
use Rattle.smc_num.specs.declared.Side.{Side}
use Rattle.smc_num.specs.declared.LinkId.{LinkId}
use Rattle.smc_num.specs.Names.{head}
use Rattle.rmb_region.specs.Regions.{Buffer}
use Rattle.pipe_model.specs.declared.setup.Setup.{Setup}
use Rattle.pipe_model.specs.declared.event.Event.TheVariants.{Complete}
use Rattle.pipe_model.specs.declared.reply.Reply.{Reply}
use Rattle.pipe_model.specs.declared.reply.Reply.TheVariants.{Idle, Completed}
use Rattle.pipe_model.specs.declared.post.Post.TheVariants.{Write as WritePost}
use Rattle.pipe_model.specs.declared.post.Placed.{Placed}
use Rattle.pipe_model.specs.declared.entry.Entry.{Entry}
use Rattle.pipe_model.specs.declared.sent.Sent.{Sent}
use Rattle.pipe_model.specs.History.{post_at}
use Rattle.pipe_model.specs.Ends.{to_complete}
use Rattle.pipe_model.specs.Wires.{completing, completed_told}
use Rattle.pipe_model.specs.Lawful.{posted}
use Rattle.world_core.specs.Agreement.{IsShaken}
use Rattle.world_core.specs.Played.{IsOneLink, IsPlayed, IsMade}
use Rattle.world_core.specs.Steps.{entry_of}
use Rattle.world_core.specs.Managers.{HasLendings, end_of}
use Rattle.world_core.proofs.QuietEvents.{entry-of}
use Rattle.world_core.proofs.CallEntries.{IsNothing}
use Rattle.world_core.proofs.WireEntries.{IsMessage, IsDone}
use Rattle.world_core.proofs.QuietManagers.{completion-idle, write-completed, cdc-completed}
use Rattle.world_core.proofs.Lendings.{lent-to-up}
use Rattle.world_core.proofs.Handshaken.{shaken}
use Rattle.world_core.proofs.PlayedWorlds.{played}

module _ (setup : Setup) (one : IsOneLink setup) (payload : List ℕ) (past : List Entry) (heard : ℕ) (p : IsPlayed setup payload past heard) (lendings_are : HasLendings setup payload past) (regions : List Buffer) (x : Side) (actor : ℕ) where
  abbrev With : Reply → Entry
  With reply = entry-of actor (Complete 1 x) reply (posted setup payload past heard (Complete 1 x))

  -- the entry is played
  plays : (reply : Reply) → reply ≡ completed_told (completing 1 x past) → IsPlayed setup payload (With reply ∷ past) (heard + 0) × IsShaken setup (With reply ∷ past)
  plays reply is =
      let made : IsMade setup payload past heard (With reply) = record { built = refl; reply = is; posts = refl } in
      let now : IsPlayed setup payload (With reply ∷ past) (heard + 0) = (heard, made, refl, p) in
      (now, shaken setup one payload (With reply ∷ past) (heard + 0) now)

  -- nothing completes
  pub completes-nothing : completing 1 x past ≡ None → IsNothing setup payload regions (entry_of setup payload past heard actor (Complete 1 x)) past
  completes-nothing none =
      let w = played setup one payload past heard p in
      let is : Idle ≡ completed_told (completing 1 x past) = sym (ap (λ o. completed_told o) none) in
      subst (λ r. IsNothing setup payload regions (With r) past) is
      (completion-idle setup payload regions w.stage past w.world (lent-to-up setup payload w.stage past w.world lendings_are) actor (heard + 0) (posted setup payload past heard (Complete 1 x)) 1 x (plays Idle is))

  module _ (c : Placed) (next : completing 1 x past ≡ Some c) where
    is-completed : Completed c.at ≡ completed_told (completing 1 x past)
    is-completed = sym (ap (λ o. completed_told o) next)

    -- a write completes
    pub completes-write : (from : Side) (link : LinkId) (key address len : ℕ) → post_at c.at past ≡ Some (WritePost from link key address len)
        → IsNothing setup payload regions (entry_of setup payload past heard actor (Complete 1 x)) past
    completes-write from link key address len post =
        let w = played setup one payload past heard p in
        subst (λ r. IsNothing setup payload regions (With r) past) is-completed
        (write-completed setup payload regions w.stage past w.world (lent-to-up setup payload w.stage past w.world lendings_are) actor (heard + 0) (posted setup payload past heard (Complete 1 x)) 1 x from c.at link key address len post
        (plays (Completed c.at) is-completed))

    -- a CDC message completes
    pub completes-message : (s : ℕ) (sent : Sent) → IsMessage x s c.at past → head (to_complete (end_of setup payload x s past)) ≡ Some sent
        → IsDone setup payload regions x s sent (entry_of setup payload past heard actor (Complete 1 x)) past
    completes-message s sent m first =
        let w = played setup one payload past heard p in
        subst (λ r. IsDone setup payload regions x s sent (With r) past) is-completed
        (cdc-completed setup payload regions w.stage past w.world (lent-to-up setup payload w.stage past w.world lendings_are) actor (heard + 0) (posted setup payload past heard (Complete 1 x)) 1 x s c.at sent m first
        (plays (Completed c.at) is-completed))
