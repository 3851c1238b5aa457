-- A CDC message, and CONFIRM LINK or the reply to it, has just landed: the peer takes it, and posts what becomes due.
use Rattle.std.proofs.Common.{◌≡◌, ◌∙◌, ℕ, ◌+◌, ◌≤◌, ◌<◌, ◌^◌, Bool, true, List, [], ◌∷◌, length, map, filter, ap, sym, subst}
use Rattle.std.specs.Prelude.{Some, None}
use Rattle.smc_num.specs.declared.Side.{Side}
use Rattle.smc_num.specs.declared.LinkId.{LinkId}
use Rattle.smc_num.specs.Names.{other}
use Rattle.cdc_wire.specs.declared.CdcMessage.{CdcMessage}
use Rattle.llc_wire.specs.declared.LlcMessage.{LlcMessage}
use Rattle.rmb_region.specs.Regions.{Buffer}
use Rattle.pipe_model.specs.declared.event.Event.TheVariants.{Deliver}
use Rattle.pipe_model.specs.declared.reply.Reply.TheVariants.{Landed}
use Rattle.pipe_model.specs.declared.flow.FlowStep.TheVariants.{Live}
use Rattle.pipe_model.specs.declared.flow.LinkView.{LinkView}
use Rattle.pipe_model.specs.declared.post.Post.{Post}
use Rattle.pipe_model.specs.declared.post.Post.TheVariants.{Cdc, Llc}
use Rattle.pipe_model.specs.declared.sent.Sent.{Sent}
use Rattle.pipe_model.specs.declared.entry.Entry.{Entry}
use Rattle.pipe_model.specs.Ends.{Half, takes, lands}
use Rattle.pipe_model.specs.Wires.{landing}
use Rattle.pipe_model.specs.Replies.{deliver_told}
use Rattle.pipe_model.specs.Lawful.{posted}
use Rattle.pipe_model.specs.Flows.{flow_step}
use Rattle.rc_link.specs.declared.InFlight.{InFlight}
use Rattle.rc_link.specs.Wire.{placed, with_landed, room_of}
use Rattle.conn_end.specs.Kept.{Kept}
use Rattle.side_core.specs.Records.{conn_at}
use Rattle.side_core.specs.Acting.{IsSoundAt, MayConfirm, acts_at, confirms_link, confirming_posts, due_at}
use Rattle.side_core.specs.Landing.{LandsIn, MayLandIn, dropped}
use Rattle.side_core.specs.Manager.{Manager, Represents}
use Rattle.world_core.specs.declared.host.Host.{Host}
use Rattle.world_core.specs.declared.moment.Moment.{Moment}
use Rattle.world_core.specs.OneLink.{the_link}
use Rattle.world_core.specs.Managers.{manager_of, changes_end}
use Rattle.world_core.specs.Leaving.{HasLanded}
use Rattle.world_core.specs.Landed.{buffer_of, waiting_posts}
use Rattle.world_core.specs.Steps.{entry_of}
use Rattle.world_core.specs.Sending.{carried_from, goes_on_wire, puts_all, MaySendAll}
use Rattle.world_core.specs.Hosts.{IsPlayedBy, past_of, with_posts, wire_at}
use Rattle.world_core.proofs.WireEntries.{IsTaken}
use Rattle.world_core.proofs.LinkEntries.{IsConfirmed}
use Rattle.world_core.proofs.LandedEnds.{left-stands}
use Rattle.world_core.proofs.MessageEnds.{landing as message-landing}
use Rattle.world_core.proofs.WriteEnds.{wire-posts, buffer-stays-cdc, buffer-stays-llc}
use Rattle.world_core.proofs.ConfirmEnds.{confirmation}
use Rattle.world_core.proofs.SoundEnds.{sound-at}
use Rattle.world_core.proofs.OnWire.{next-lands, landing-is}
use Rattle.world_core.proofs.LandingEntries.{message-told, lands-message, llc-told, lands-llc}
use Rattle.world_core.proofs.LandingsAfter.{Taker, one-lands, few-before, lent-now, sent-landing, may-be-sent, has-room, IsLeft}
use Rattle.world_core.proofs.Plain.{twice}

-- what is known of a message that has landed: what becomes of the manager that takes it, what is posted, and what becomes of the sender's
pub record IsTaking (at : Moment) (x : Side) (taken sent : Manager Half) (posts : List Post) : Type 0 where
  pub buffer : (actor : ℕ) → buffer_of at.setup.now at.payload.now (other x) 1 (entry_of at.setup.now at.payload.now (past_of at) at.heard actor (Deliver 1 x) ∷ past_of at) ≡ buffer_of at.setup.now at.payload.now (other x) 1 (past_of at)
  pub taker : (actor : ℕ) → manager_of at.setup.now at.payload.now (buffer_of at.setup.now at.payload.now (other x) 1 (past_of at) ∷ []) (other x) (entry_of at.setup.now at.payload.now (past_of at) at.heard actor (Deliver 1 x) ∷ past_of at) ≡ taken
  pub sender : (actor : ℕ) → manager_of at.setup.now at.payload.now (buffer_of at.setup.now at.payload.now x 1 (past_of at) ∷ []) x (entry_of at.setup.now at.payload.now (past_of at) at.heard actor (Deliver 1 x) ∷ past_of at) ≡ sent
  pub posts_are : posted at.setup.now at.payload.now (past_of at) at.heard (Deliver 1 x) ≡ posts

module _ (at : Moment) (x : Side) (c : InFlight) (h k : Host) (landed : HasLanded at x c h k) (few : length at.history.now < 2 ^ 18) where
  abbrev First : Host
  First = landed.was

  abbrev Past : List Entry
  Past = past_of at

  abbrev After : ℕ → Entry
  After actor = entry_of at.setup.now at.payload.now (past_of at) at.heard actor (Deliver 1 x)

  abbrev TheirRegions : List Buffer
  TheirRegions = buffer_of at.setup.now at.payload.now (other x) 1 (past_of at) ∷ []

  abbrev OwnRegions : List Buffer
  OwnRegions = buffer_of at.setup.now at.payload.now x 1 (past_of at) ∷ []

  -- the managers before
  abbrev pub Their : Manager Half
  Their = manager_of at.setup.now at.payload.now (buffer_of at.setup.now at.payload.now (other x) 1 (past_of at) ∷ []) (other x) (past_of at)

  abbrev pub Own : Manager Half
  Own = manager_of at.setup.now at.payload.now (buffer_of at.setup.now at.payload.now x 1 (past_of at) ∷ []) x (past_of at)

  pub theirs-stand : Represents k.core Their
  theirs-stand = let hosts = landed.hosts in let theirs = hosts.theirs in theirs.side

  next-is : landing 1 x (past_of at) ≡ Some (placed c)
  next-is =
      let hosts = landed.hosts in
      let set = hosts.set in
      let own = hosts.own in
      landing-is at.setup.now at.payload.now x Past (wire_at 1 landed.was) own.wire c set.one at.heard hosts.played landed.first

  left : IsLeft landed.was h
  left = record { wire = landed.wire ∙ ap (λ o. with_landed o (wire_at 1 landed.was)) (sym landed.first); core = landed.core; flows = landed.flows }

  own-stands : Represents h.core Own
  own-stands = let hosts = landed.hosts in let own = hosts.own in subst (λ (v : Manager Kept). Represents v Own) (sym landed.core) own.side

  -- the posts of the sender, of which this is the first
  first-posts : (rest : List InFlight) → (wire_at 1 landed.was).waiting ≡ c ∷ rest → (post : Post) → c.post ≡ post → waiting_posts x Past ≡ post ∷ map (λ (d : InFlight). d.post) rest
  first-posts rest is post e =
      let hosts = landed.hosts in
      let own = hosts.own in
      wire-posts at.setup.now at.payload.now x Past (wire_at 1 landed.was) own.wire ∙ (ap (λ (cs : List InFlight). map (λ (d : InFlight). d.post) cs) is ∙ ap (λ p. p ∷ map (λ (d : InFlight). d.post) rest) e)

  -- the peer has taken it, and posts
  module _ (taken sent : Manager Half) (due : List Post) (t : IsTaking at x taken sent due) (told_now : Landed c.at ≡ deliver_told at.setup.now at.payload.now (other x) (past_of at) (landing 1 x (past_of at)))
      (v : Manager Kept) (posts : List Post) (posts_are : posts ≡ due) (acted : Represents v taken) where
    posts-now : posts ≡ posted at.setup.now at.payload.now (past_of at) at.heard (Deliver 1 x)
    posts-now = posts_are ∙ sym t.posts_are

    stands-now : (actor : ℕ) → Represents v (Taker at.setup.now at.payload.now (past_of at) at.heard x landed.was k landed.hosts (few-before at x landed.was k landed.hosts few) actor)
    stands-now actor = subst (λ (b : Buffer). Represents v (manager_of at.setup.now at.payload.now (b ∷ []) (other x) (After actor ∷ Past))) (sym (t.buffer actor)) (subst (λ (m : Manager Half). Represents v m) (sym (t.taker actor)) acted)

    pub posts-may-go : MaySendAll (length k.flows.items) v posts
    posts-may-go = may-be-sent at x First k landed.hosts few v posts posts-now stands-now

    pub posts-fit : length (filter goes_on_wire posts) ≤ room_of (wire_at 1 k)
    posts-fit = has-room at x First k landed.hosts few v posts posts-now stands-now

    pub message-lands : Represents h.core sent → (l : Host) (entry : ℕ) → entry ≡ length at.history.now + 1 → l.core ≡ v → ((n : Manager Half) → Represents v n → (wire_at 1 l) ≡ with_posts (carried_from n entry 1 posts) (wire_at 1 k))
        → l.flows.items ≡ puts_all posts k.flows.items → IsPlayedBy at (Deliver 1 x) (Landed c.at) posts x h l
    message-lands own_stands l entry number core_is wire_is flows_are =
        sent-landing at x First k landed.hosts few v posts posts-now stands-now h sent (Landed c.at) told_now left t.sender own_stands l entry number core_is wire_is flows_are

  -- a CDC message has landed
  module _ (link : LinkId) (m : CdcMessage) (is_cdc : c.post ≡ Cdc x link m) where
    pub record IsCdcTaken : Type 0 where
      pub s : ℕ
      pub sent : Sent
      pub may : MayLandIn m c.plain k.core
      pub lands_in : LandsIn s m c.plain sent k.core (manager_of at.setup.now at.payload.now (buffer_of at.setup.now at.payload.now (other x) 1 (past_of at) ∷ []) (other x) (past_of at))
      pub kept : dropped m.token k.core ≡ None
      pub told : Landed c.at ≡ deliver_told at.setup.now at.payload.now (other x) (past_of at) (landing 1 x (past_of at))
      pub own_stands : Represents h.core (changes_end s lands (manager_of at.setup.now at.payload.now (buffer_of at.setup.now at.payload.now x 1 (past_of at) ∷ []) x (past_of at)))
      pub taking : IsTaking at x (acts_at s (takes (Some sent)) (manager_of at.setup.now at.payload.now (buffer_of at.setup.now at.payload.now (other x) 1 (past_of at) ∷ []) (other x) (past_of at)))
          (changes_end s lands (manager_of at.setup.now at.payload.now (buffer_of at.setup.now at.payload.now x 1 (past_of at) ∷ []) x (past_of at)))
          (due_at s (takes (Some sent)) (manager_of at.setup.now at.payload.now (buffer_of at.setup.now at.payload.now (other x) 1 (past_of at) ∷ []) (other x) (past_of at)))

    pub cdc-taken : IsCdcTaken
    cdc-taken =
        let hosts = landed.hosts in
        let set = hosts.set in
        let own = hosts.own in
        let theirs = hosts.theirs in
        let next = next-lands at.setup.now at.payload.now x Past (wire_at 1 landed.was) own.wire c landed.first in
        let lendings = lent-now at x First k hosts few in
        let d = message-landing at.setup.now at.payload.now set Past at.heard hosts.played x hosts.few lendings TheirRegions k.core theirs.side (wire_at 1 landed.was) own.wire c next.rest x link m next.carried_is is_cdc in
        let told = message-told at.setup.now set.one at.payload.now Past at.heard hosts.played lendings OwnRegions x 0 (placed c) next-is (map placed next.rest) x link m next.queue_is is_cdc in
        let is : (regions : List Buffer) (actor : ℕ) → IsTaken at.setup.now at.payload.now regions x d.s d.sent (After actor) Past = λ regions actor.
        lands-message at.setup.now set.one at.payload.now Past at.heard hosts.played lendings regions x actor (placed c) next-is (map placed next.rest) x link m next.queue_is is_cdc d.s d.sent d.message d.next in
        record {
          s = d.s;
          sent = d.sent;
          may = d.may;
          lands_in = d.lands;
          kept = d.kept;
          told = told;
          own_stands = left-stands d.s h.core Own own-stands;
          taking = record {
            buffer = λ actor. buffer-stays-cdc at.setup.now at.payload.now x (After actor) Past (one-lands at.setup.now at.payload.now Past at.heard x First k hosts (few-before at x First k hosts few) actor (placed c) next-is told) x link m
                (map (λ (d : InFlight). d.post) next.rest) (first-posts next.rest next.carried_is (Cdc x link m) is_cdc);
            taker = λ actor. let q = is TheirRegions actor in q.taker;
            sender = λ actor. let q = is OwnRegions actor in q.sender;
            posts_are = let q = is TheirRegions 0 in q.posts;
          };
        }

  -- CONFIRM LINK, or the reply to it, has landed
  module _ (link : LinkId) (m : LlcMessage) (is_llc : c.post ≡ Llc x link m) where
    pub record IsLlcTaken : Type 0 where
      pub reply : Bool
      pub link_is : link ≡ the_link
      pub step : (view : LinkView) → flow_step k.core.desk.side k.core.desk.flow m view link.slot true ≡ Live reply true
      pub may : (view : LinkView) → MayConfirm m view link k.core
      pub sound : IsSoundAt k.core.records.terms.size (conn_at k.core.desk.first k.core.records)
      pub told : Landed c.at ≡ deliver_told at.setup.now at.payload.now (other x) (past_of at) (landing 1 x (past_of at))
      pub own_stands : Represents h.core (manager_of at.setup.now at.payload.now (buffer_of at.setup.now at.payload.now x 1 (past_of at) ∷ []) x (past_of at))
      pub taking : IsTaking at x (confirms_link (Live reply true) the_link (manager_of at.setup.now at.payload.now (buffer_of at.setup.now at.payload.now (other x) 1 (past_of at) ∷ []) (other x) (past_of at)))
          (manager_of at.setup.now at.payload.now (buffer_of at.setup.now at.payload.now x 1 (past_of at) ∷ []) x (past_of at))
          (confirming_posts (Live reply true) the_link (manager_of at.setup.now at.payload.now (buffer_of at.setup.now at.payload.now (other x) 1 (past_of at) ∷ []) (other x) (past_of at)))

    pub llc-taken : IsLlcTaken
    llc-taken =
        let hosts = landed.hosts in
        let set = hosts.set in
        let own = hosts.own in
        let theirs = hosts.theirs in
        let next = next-lands at.setup.now at.payload.now x Past (wire_at 1 landed.was) own.wire c landed.first in
        let lendings = lent-now at x First k hosts few in
        let d = confirmation at.setup.now at.payload.now set Past at.heard hosts.played TheirRegions x k.core theirs.side (wire_at 1 landed.was) own.wire c next.rest x link m next.carried_is is_llc in
        let told = llc-told at.setup.now set.one at.payload.now Past at.heard hosts.played lendings x (placed c) next-is x link m is_llc in
        let is : (regions : List Buffer) (actor : ℕ) → IsConfirmed at.setup.now at.payload.now regions (other x) d.reply (After actor) Past = λ regions actor.
        lands-llc at.setup.now set.one at.payload.now Past at.heard hosts.played lendings regions x actor (placed c) next-is (Llc x link m) d.reply is_llc d.front in
        record {
          reply = d.reply;
          link_is = d.link_is;
          step = d.step;
          may = d.may;
          sound = sound-at at.setup.now at.payload.now set Past at.heard hosts.played hosts.few (other x) TheirRegions k.core theirs.side k.core.desk.first;
          told = told;
          own_stands = own-stands;
          taking = record {
            buffer = λ actor. buffer-stays-llc at.setup.now at.payload.now x (After actor) Past (one-lands at.setup.now at.payload.now Past at.heard x First k hosts (few-before at x First k hosts few) actor (placed c) next-is told) x link m
                (map (λ (d : InFlight). d.post) next.rest) (first-posts next.rest next.carried_is (Llc x link m) is_llc);
            taker = λ actor. let q = is TheirRegions actor in q.taker;
            sender = λ actor. let q = is OwnRegions actor in
                subst (λ (y : Side). manager_of at.setup.now at.payload.now OwnRegions y (After actor ∷ Past) ≡ manager_of at.setup.now at.payload.now OwnRegions y Past) (sym (twice x)) q.theirs;
            posts_are = let q = is TheirRegions 0 in q.posts;
          };
        }
