-- An entry that lands a post, or none: what becomes of both managers and what is posted, by the post that lands.
use Rattle.std.proofs.Common.{◌≡◌, ◌∙◌, ℕ, ◌+◌, Bool, true, false, if◌then◌else◌, List, [], ◌∷◌, refl, ap, sym, subst}
use Rattle.std.specs.Prelude.{Option, Some, None, is_some}
use Rattle.smc_num.specs.declared.Side.{Side}
use Rattle.smc_num.specs.declared.Side.TheVariants.{A, B}
use Rattle.smc_num.specs.declared.LinkId.{LinkId}
use Rattle.smc_num.specs.Names.{head, other}
use Rattle.cdc_wire.specs.declared.CdcMessage.{CdcMessage}
use Rattle.llc_wire.specs.declared.LlcMessage.{LlcMessage}
use Rattle.rmb_region.specs.Regions.{Buffer}
use Rattle.pipe_model.specs.declared.setup.Setup.{Setup}
use Rattle.pipe_model.specs.declared.event.Event.TheVariants.{Deliver}
use Rattle.pipe_model.specs.declared.reply.Reply.{Reply}
use Rattle.pipe_model.specs.declared.reply.Reply.TheVariants.{Idle, Landed, Dropped}
use Rattle.pipe_model.specs.declared.post.Post.{Post}
use Rattle.pipe_model.specs.declared.post.Post.TheVariants.{Write as WritePost, Cdc, Llc}
use Rattle.pipe_model.specs.declared.post.Placed.{Placed}
use Rattle.pipe_model.specs.declared.entry.Entry.{Entry}
use Rattle.pipe_model.specs.declared.sent.Sent.{Sent}
use Rattle.pipe_model.specs.Ends.{to_land}
use Rattle.pipe_model.specs.Wires.{landing, unlanded}
use Rattle.pipe_model.specs.Lending.{Lending}
use Rattle.pipe_model.specs.Replies.{deliver_told, lands_told}
use Rattle.pipe_model.specs.Lawful.{posted}
use Rattle.pipe_model.specs.Messages.{confirm_link}
use Rattle.world_core.specs.OneLink.{the_link, llc_of}
use Rattle.world_core.specs.Agreement.{IsShaken}
use Rattle.world_core.specs.Played.{IsOneLink, IsPlayed, IsMade}
use Rattle.world_core.specs.Steps.{entry_of}
use Rattle.world_core.specs.Managers.{HasLendings, end_of}
use Rattle.world_core.proofs.QuietEvents.{entry-of}
use Rattle.world_core.proofs.CallEntries.{IsNothing}
use Rattle.world_core.proofs.WireEntries.{IsMessage, IsTaken}
use Rattle.world_core.proofs.QuietManagers.{landing-idle, write-landed, cdc-landed}
use Rattle.world_core.proofs.LinkEntries.{IsConfirmed, request-landed, answer-landed}
use Rattle.world_core.proofs.ConfirmEnds.{Front, asks, answers}
use Rattle.world_core.proofs.Lendings.{lent-to-up}
use Rattle.world_core.proofs.NeverOver.{names-record}
use Rattle.world_core.proofs.Handshaken.{shaken}
use Rattle.world_core.proofs.PlayedWorlds.{played}

module _ (setup : Setup) (one : IsOneLink setup) (payload : List ℕ) (past : List Entry) (heard : ℕ) (p : IsPlayed setup payload past heard) (lendings_are : HasLendings setup payload past) (regions : List Buffer) (x : Side) (actor : ℕ) where
  abbrev With : Reply → Entry
  With reply = entry-of actor (Deliver 1 x) reply (posted setup payload past heard (Deliver 1 x))

  -- the entry is played
  pub plays : (reply : Reply) → reply ≡ deliver_told setup payload (other x) past (landing 1 x past) → IsPlayed setup payload (With reply ∷ past) (heard + 0) × IsShaken setup (With reply ∷ past)
  plays reply is =
      let made : IsMade setup payload past heard (With reply) = record { built = refl; reply = is; posts = refl } in
      let now : IsPlayed setup payload (With reply ∷ past) (heard + 0) = (heard, made, refl, p) in
      (now, shaken setup one payload (With reply ∷ past) (heard + 0) now)

  -- nothing lands
  pub lands-nothing : landing 1 x past ≡ None → IsNothing setup payload regions (entry_of setup payload past heard actor (Deliver 1 x)) past
  lands-nothing none =
      let w = played setup one payload past heard p in
      let is : Idle ≡ deliver_told setup payload (other x) past (landing 1 x past) = sym (ap (λ o. deliver_told setup payload (other x) past o) none) in
      subst (λ r. IsNothing setup payload regions (With r) past) is
      (landing-idle setup payload regions w.stage past w.world (lent-to-up setup payload w.stage past w.world lendings_are) actor (heard + 0) (posted setup payload past heard (Deliver 1 x)) 1 x (plays Idle is))

  module _ (c : Placed) (next : landing 1 x past ≡ Some c) where
    pub told-as : (post : Post) → c.post ≡ post → lands_told setup payload (other x) past c post ≡ Landed c.at → Landed c.at ≡ deliver_told setup payload (other x) past (landing 1 x past)
    told-as post e is = sym (ap (λ o. deliver_told setup payload (other x) past o) next ∙ (ap (λ q. lands_told setup payload (other x) past c q) e ∙ is))

    -- a write lands
    pub write-told : (from : Side) (link : LinkId) (key address len : ℕ) → c.post ≡ WritePost from link key address len → Landed c.at ≡ deliver_told setup payload (other x) past (landing 1 x past)
    write-told from link key address len e = told-as (WritePost from link key address len) e refl

    pub lands-write : (from : Side) (link : LinkId) (key address len : ℕ) → c.post ≡ WritePost from link key address len → IsNothing setup payload regions (entry_of setup payload past heard actor (Deliver 1 x)) past
    lands-write from link key address len e =
        let w = played setup one payload past heard p in
        let is = write-told from link key address len e in
        subst (λ r. IsNothing setup payload regions (With r) past) is
        (write-landed setup payload regions w.stage past w.world (lent-to-up setup payload w.stage past w.world lendings_are) actor (heard + 0) (posted setup payload past heard (Deliver 1 x)) x from c link key address len next e
        (plays (Landed c.at) is))

    -- a CDC message lands: it is never dropped
    pub message-told : (rest : List Placed) (from : Side) (link : LinkId) (m : CdcMessage) → unlanded the_link x past ≡ c ∷ rest → c.post ≡ Cdc from link m → Landed c.at ≡ deliver_told setup payload (other x) past (landing 1 x past)
    message-told rest from link m queue e =
        let named = names-record setup one payload past heard p x c rest from link m queue e in
        told-as (Cdc from link m) e (ap (λ (o : Option Lending). if is_some o then Landed c.at else Dropped m.token) named.named)

    pub lands-message : (rest : List Placed) (from : Side) (link : LinkId) (m : CdcMessage) → unlanded the_link x past ≡ c ∷ rest → c.post ≡ Cdc from link m → (s : ℕ) (sent : Sent) → IsMessage x s c.at past
        → head (to_land (end_of setup payload x s past)) ≡ Some sent → IsTaken setup payload regions x s sent (entry_of setup payload past heard actor (Deliver 1 x)) past
    lands-message rest from link m queue e s sent is_message first =
        let w = played setup one payload past heard p in
        let is = message-told rest from link m queue e in
        subst (λ r. IsTaken setup payload regions x s sent (With r) past) is
        (cdc-landed setup payload regions w.stage past w.world (lent-to-up setup payload w.stage past w.world lendings_are) actor (heard + 0) (posted setup payload past heard (Deliver 1 x)) x s c sent next is_message first
        (plays (Landed c.at) is))

-- CONFIRM LINK lands at A, or the reply to it at B
pub llc-told : (setup : Setup) (one : IsOneLink setup) (payload : List ℕ) (past : List Entry) (heard : ℕ) (p : IsPlayed setup payload past heard) (lendings_are : HasLendings setup payload past) (x : Side) (c : Placed)
    → landing 1 x past ≡ Some c → (from : Side) (link : LinkId) (m : LlcMessage) → c.post ≡ Llc from link m → Landed c.at ≡ deliver_told setup payload (other x) past (landing 1 x past)
llc-told setup one payload past heard p lendings_are x c next from link m e = told-as setup one payload past heard p lendings_are [] x 0 c next (Llc from link m) e refl

pub lands-llc : (setup : Setup) (one : IsOneLink setup) (payload : List ℕ) (past : List Entry) (heard : ℕ) (p : IsPlayed setup payload past heard) (lendings_are : HasLendings setup payload past) (regions : List Buffer) (x : Side) (actor : ℕ) (c : Placed)
    → landing 1 x past ≡ Some c → (q : Post) (reply : Bool) → c.post ≡ q → Front setup past x q reply → IsConfirmed setup payload regions (other x) reply (entry_of setup payload past heard actor (Deliver 1 x)) past
lands-llc setup one payload past heard p lendings_are regions x actor c next q reply e (asks qp world) =
    let is = llc-told setup one payload past heard p lendings_are B c next B the_link (confirm_link setup B false the_link qp) e in
    let now = plays setup one payload past heard p lendings_are regions B actor (Landed c.at) is in
    subst (λ r. IsConfirmed setup payload regions A true (entry-of actor (Deliver 1 B) r (posted setup payload past heard (Deliver 1 B))) past) is
    (request-landed setup payload regions past lendings_are c actor (heard + 0) (posted setup payload past heard (Deliver 1 B)) (Llc B the_link (confirm_link setup B false the_link qp)) (ap (λ post. llc_of post) e) qp world next now.0 now.1)
lands-llc setup one payload past heard p lendings_are regions x actor c next q reply e (answers qp world) =
    let is = llc-told setup one payload past heard p lendings_are A c next A the_link (confirm_link setup A true the_link qp) e in
    let now = plays setup one payload past heard p lendings_are regions A actor (Landed c.at) is in
    subst (λ r. IsConfirmed setup payload regions B false (entry-of actor (Deliver 1 A) r (posted setup payload past heard (Deliver 1 A))) past) is
    (answer-landed setup payload regions past lendings_are c actor (heard + 0) (posted setup payload past heard (Deliver 1 A)) (Llc A the_link (confirm_link setup A true the_link qp)) (ap (λ post. llc_of post) e) qp world next now.0 now.1)
