-- The LLC message at the front of a wire is CONFIRM LINK or the reply to it, and the manager at the other side may take it.
use Rattle.std.proofs.Common.{◌≡◌, ◌∙◌, ℕ, ◌==◌, Bool, true, false, List, [], ◌∷◌, map, refl, ap, sym, subst, eq-eqb}
use Rattle.std.specs.Prelude.{Some}
use Rattle.smc_num.specs.declared.Side.{Side}
use Rattle.smc_num.specs.declared.Side.TheVariants.{A, B}
use Rattle.smc_num.specs.declared.LinkId.{LinkId}
use Rattle.smc_num.specs.declared.LinkPhase.TheVariants.{Pending}
use Rattle.smc_num.specs.Names.{other, head}
use Rattle.smc_num.specs.Links.{link_at, phase_at}
use Rattle.rmb_region.specs.Regions.{Buffer}
use Rattle.llc_wire.specs.declared.LlcMessage.{LlcMessage}
use Rattle.pipe_model.specs.declared.setup.Setup.{Setup}
use Rattle.pipe_model.specs.declared.entry.Entry.{Entry}
use Rattle.pipe_model.specs.declared.post.Post.{Post}
use Rattle.pipe_model.specs.declared.post.Post.TheVariants.{Llc}
use Rattle.pipe_model.specs.declared.post.Placed.{Placed}
use Rattle.pipe_model.specs.declared.flow.LinkView.{LinkView}
use Rattle.pipe_model.specs.declared.flow.FlowStep.{FlowStep}
use Rattle.pipe_model.specs.declared.flow.FlowStep.TheVariants.{Live}
use Rattle.pipe_model.specs.History.{Offered}
use Rattle.pipe_model.specs.Flows.{flow_step}
use Rattle.pipe_model.specs.Fabric.{Fabric, peer}
use Rattle.pipe_model.specs.Connections.{WaitsLink}
use Rattle.pipe_model.specs.Wires.{unlanded}
use Rattle.pipe_model.specs.Messages.{confirm_link}
use Rattle.rc_link.specs.declared.InFlight.{InFlight}
use Rattle.rc_link.specs.Wire.{Queues, placed}
use Rattle.conn_end.specs.Kept.{Kept}
use Rattle.side_core.specs.Desk.{Desk, IsConfirmLink, IsPendingFor}
use Rattle.side_core.specs.Manager.{Manager, Represents, state_at}
use Rattle.side_core.specs.Acting.{MayConfirm, IsWaitingFor}
use Rattle.world_core.specs.OneLink.{Stage, NoLink, Begun, Made, Asking, LiveAtA, LiveAtBoth, the_link, llc_of, is_of_first}
use Rattle.world_core.specs.Sockets.{IsWorld}
use Rattle.world_core.specs.Played.{IsPlayed}
use Rattle.world_core.specs.Hosts.{IsWorldSet, IsWireAfter}
use Rattle.world_core.specs.Managers.{manager_of, first_on}
use Rattle.world_core.proofs.Landings.{first-llc, no-llc-first}
use Rattle.world_core.proofs.Confirming.{Confirming, at_a, at_b, IsWaiting, is-waiting}
use Rattle.world_core.proofs.Records.{all-offers}
use Rattle.world_core.proofs.PlayedWorlds.{played}
use Rattle.world_core.proofs.Handshaken.{has-offers}
use Rattle.world_core.proofs.FirstOn.{first-is}
use Rattle.world_core.proofs.EndRecords.{state-is}

from-is : {a b : Side} {k l : LinkId} {m q : LlcMessage} → Llc a k m ≡ Llc b l q → a ≡ b
from-is e = cc

link-is : {a b : Side} {k l : LinkId} {m q : LlcMessage} → Llc a k m ≡ Llc b l q → k ≡ l
link-is e = cc

message-is : {a b : Side} {k l : LinkId} {m q : LlcMessage} → Llc a k m ≡ Llc b l q → m ≡ q
message-is e = cc

-- the side in first contact began its group on the socket of the stage
pub first-of-stage : (setup : Setup) (past : List Entry) {x : Side} {t : ℕ} {from to : Stage} {reply : Bool} → Confirming x t from to reply → IsWorld setup from past → first_on x past ≡ t
first-of-stage setup past {x} {t} {from} c world =
    let w = is-waiting setup past c world in
    let o : Offered = record { link = the_link; offer = w.own } in
    let a = all-offers setup from past world x t o w.ours in
    let offer = a.1 in
    first-is x t past o (λ s d. w.others s d x) w.ours (offer.first_is ∙ of-first c)
  where
    of-first : {x : Side} {t : ℕ} {from to : Stage} {reply : Bool} → Confirming x t from to reply → is_of_first from t ≡ true
    of-first (at_a t qp rq) = eq-eqb t t refl
    of-first (at_b t qp) = eq-eqb t t refl

-- which LLC message of a side is at the front of its wire
pub data Front (setup : Setup) (past : List Entry) : Side → Post → Bool → Type 0 where
  asks : (qp : ℕ) → IsWorld setup (Asking (first_on A past) qp) past → Front setup past B (Llc B the_link (confirm_link setup B false the_link qp)) true
  answers : (qp : ℕ) → IsWorld setup (LiveAtA (first_on B past) qp) past → Front setup past A (Llc A the_link (confirm_link setup A true the_link qp)) false

pub record HasFront (setup : Setup) (past : List Entry) (x : Side) (p : Post) : Type 0 where
  pub reply : Bool
  pub front : Front setup past x p reply

front-by : (setup : Setup) (past : List Entry) (x : Side) (stage : Stage) (c : Placed) (p : Post) → IsWorld setup stage past → head (unlanded the_link x past) ≡ Some c → llc_of c.post ≡ Some p → HasFront setup past x p
front-by setup past B (Asking t qp) c p w h l =
    let at = w.link in
    let first = first-llc (unlanded the_link B past) c p (Llc B the_link (confirm_link setup B false the_link qp)) [] h l (at.waiting B) in
    record { reply = true; front = subst (λ q. Front setup past B q true) (sym first.0) (asks qp (subst (λ s. IsWorld setup (Asking s qp) past) (sym (first-of-stage setup past (at_a t qp 0) w)) w)) }
front-by setup past A (LiveAtA t qp) c p w h l =
    let at = w.link in
    let first = first-llc (unlanded the_link A past) c p (Llc A the_link (confirm_link setup A true the_link qp)) [] h l (at.waiting A) in
    record { reply = false; front = subst (λ q. Front setup past A q false) (sym first.0) (answers qp (subst (λ s. IsWorld setup (LiveAtA s qp) past) (sym (first-of-stage setup past (at_b t qp) w)) w)) }
front-by setup past A NoLink c p w h l = let at = w.link in absurd (no-llc-first (unlanded the_link A past) c p h l (at.waiting A))
front-by setup past A (Begun t) c p w h l = let at = w.link in absurd (no-llc-first (unlanded the_link A past) c p h l (at.waiting A))
front-by setup past A (Made t) c p w h l = let at = w.link in absurd (no-llc-first (unlanded the_link A past) c p h l (at.waiting A))
front-by setup past A (Asking t qp) c p w h l = let at = w.link in absurd (no-llc-first (unlanded the_link A past) c p h l (at.waiting A))
front-by setup past A (LiveAtBoth t) c p w h l = let at = w.link in absurd (no-llc-first (unlanded the_link A past) c p h l (at.waiting A))
front-by setup past B NoLink c p w h l = let at = w.link in absurd (no-llc-first (unlanded the_link B past) c p h l (at.waiting B))
front-by setup past B (Begun t) c p w h l = let at = w.link in absurd (no-llc-first (unlanded the_link B past) c p h l (at.waiting B))
front-by setup past B (Made t) c p w h l = let at = w.link in absurd (no-llc-first (unlanded the_link B past) c p h l (at.waiting B))
front-by setup past B (LiveAtA t qp) c p w h l = let at = w.link in absurd (no-llc-first (unlanded the_link B past) c p h l (at.waiting B))
front-by setup past B (LiveAtBoth t) c p w h l = let at = w.link in absurd (no-llc-first (unlanded the_link B past) c p h l (at.waiting B))

module _ (setup : Setup) (payload : List ℕ) (set : IsWorldSet setup payload) (past : List Entry) (n : ℕ) (p : IsPlayed setup payload past n) (regions : List Buffer) where
  -- what the manager of a side does with a message, whatever is seen of the link, and that it may
  pub record Confirms (y : Side) (message : LlcMessage) (reply : Bool) (v : Manager Kept) : Type 0 where
    pub step : (view : LinkView) → flow_step v.desk.side v.desk.flow message view 1 true ≡ Live reply true
    pub may : (view : LinkView) → MayConfirm message view the_link v

  module _ (v : Manager Kept) (y : Side) (st : Represents v (manager_of setup payload regions y past)) {from to : Stage} {reply : Bool} (c : Confirming y (first_on y past) from to reply) (world : IsWorld setup from past) where
    waits : IsWaiting setup y (first_on y past) past
    waits = is-waiting setup past c world

    state : state_at v.desk.first v ≡ WaitsLink
    state =
        let w = st.works in
        let offers = has-offers setup set.one payload past n p in
        ap (λ (d : Desk). state_at d.first v) w.desk
        ∙ (state-is setup payload regions y past v st (first_on y past) (offers.known y (first_on y past) (record { link = the_link; offer = waits.own }) waits.ours) ∙ waits.state)

    confirms-by : (message : LlcMessage) → IsConfirmLink message → ((view : LinkView) → flow_step v.desk.side v.desk.flow message view 1 true ≡ Live reply true) → (v.desk.group == 0) ≡ false → link_at 1 v.desk.links.known ≡ Some the_link → phase_at 1 v.desk.links.known ≡ Pending → Confirms y message reply v
    confirms-by message kind step group latest pending = record {
      step = step;
      may = λ view. record {
        kind = kind;
        slot = refl;
        group = group;
        latest = latest;
        pending = subst (λ (f : FlowStep). IsPendingFor f 1 v.desk.links.known) (sym (step view)) pending;
        waits = subst (λ (f : FlowStep). IsWaitingFor f v) (sym (step view)) state;
      };
    }

  asked-a : (v : Manager Kept) → Represents v (manager_of setup payload regions A past) → (qp : ℕ) → IsWorld setup (Asking (first_on A past) qp) past → Confirms A (confirm_link setup B false the_link qp) true v
  asked-a v st qp world =
      let w = st.works in
      let link = world.link in
      confirms-by v A st (at_a (first_on A past) qp 0) world (confirm_link setup B false the_link qp) tt
      (λ view. ap (λ (d : Desk). flow_step d.side d.flow (confirm_link setup B false the_link qp) view 1 true) w.desk ∙ ap (λ (f : Fabric). flow_step A (peer A f).flow (confirm_link setup B false the_link qp) view 1 true) link.fabric_is)
      (ap (λ (d : Desk). d.group == 0) w.desk ∙ ap (λ (f : Fabric). (peer A f).group == 0) link.fabric_is)
      (ap (λ (d : Desk). link_at 1 d.links.known) w.desk ∙ ap (λ (f : Fabric). link_at 1 (peer A f).table) link.fabric_is)
      (ap (λ (d : Desk). phase_at 1 d.links.known) w.desk ∙ ap (λ (f : Fabric). phase_at 1 (peer A f).table) link.fabric_is)

  answered-b : (v : Manager Kept) → Represents v (manager_of setup payload regions B past) → (qp : ℕ) → IsWorld setup (LiveAtA (first_on B past) qp) past → Confirms B (confirm_link setup A true the_link qp) false v
  answered-b v st qp world =
      let w = st.works in
      let link = world.link in
      confirms-by v B st (at_b (first_on B past) qp) world (confirm_link setup A true the_link qp) tt
      (λ view. ap (λ (d : Desk). flow_step d.side d.flow (confirm_link setup A true the_link qp) view 1 true) w.desk ∙ ap (λ (f : Fabric). flow_step B (peer B f).flow (confirm_link setup A true the_link qp) view 1 true) link.fabric_is)
      (ap (λ (d : Desk). d.group == 0) w.desk ∙ ap (λ (f : Fabric). (peer B f).group == 0) link.fabric_is)
      (ap (λ (d : Desk). link_at 1 d.links.known) w.desk ∙ ap (λ (f : Fabric). link_at 1 (peer B f).table) link.fabric_is)
      (ap (λ (d : Desk). phase_at 1 d.links.known) w.desk ∙ ap (λ (f : Fabric). phase_at 1 (peer B f).table) link.fabric_is)

  -- an LLC message at the front of the wire of a side, and the manager of the other
  pub record Confirmation (x from : Side) (link : LinkId) (message : LlcMessage) (v : Manager Kept) : Type 0 where
    pub reply : Bool
    pub front : Front setup past x (Llc from link message) reply
    pub from_is : from ≡ x
    pub link_is : link ≡ the_link
    pub step : (view : LinkView) → flow_step v.desk.side v.desk.flow message view link.slot true ≡ Live reply true
    pub may : (view : LinkView) → MayConfirm message view link v

  confirmation-by : (x : Side) (v : Manager Kept) → Represents v (manager_of setup payload regions (other x) past) → (from : Side) (link : LinkId) (message : LlcMessage) (q : Post) (reply : Bool) → Llc from link message ≡ q → Front setup past x q reply → Confirmation x from link message v
  confirmation-by x v st from link message q reply e (asks qp world) =
      let k = asked-a v st qp world in
      subst (λ (m : LlcMessage). Confirmation B from link m v) (sym (message-is e))
      record { reply = true; front = subst (λ q. Front setup past B q true) (sym (ap (λ m. Llc from link m) (sym (message-is e)) ∙ e)) (asks qp world); from_is = from-is e; link_is = link-is e; step = λ view. ap (λ (l : LinkId). flow_step v.desk.side v.desk.flow (confirm_link setup B false the_link qp) view l.slot true) (link-is e) ∙ k.step view; may = λ view. subst (λ (l : LinkId). MayConfirm (confirm_link setup B false the_link qp) view l v) (sym (link-is e)) (k.may view) }
  confirmation-by x v st from link message q reply e (answers qp world) =
      let k = answered-b v st qp world in
      subst (λ (m : LlcMessage). Confirmation A from link m v) (sym (message-is e))
      record { reply = false; front = subst (λ q. Front setup past A q false) (sym (ap (λ m. Llc from link m) (sym (message-is e)) ∙ e)) (answers qp world); from_is = from-is e; link_is = link-is e; step = λ view. ap (λ (l : LinkId). flow_step v.desk.side v.desk.flow (confirm_link setup A true the_link qp) view l.slot true) (link-is e) ∙ k.step view; may = λ view. subst (λ (l : LinkId). MayConfirm (confirm_link setup A true the_link qp) view l v) (sym (link-is e)) (k.may view) }

  -- it is confirmed
  pub confirmation : (x : Side) (v : Manager Kept) → Represents v (manager_of setup payload regions (other x) past) → (w : Queues) → IsWireAfter setup payload x past w → (c : InFlight) (rest : List InFlight) (from : Side) (link : LinkId) (message : LlcMessage)
      → w.waiting ≡ c ∷ rest → c.post ≡ Llc from link message → Confirmation x from link message v
  confirmation x v st w wire c rest from link message q e =
      let queue : unlanded the_link x past ≡ placed c ∷ map placed rest = sym wire.waiting ∙ ap (λ cs. map placed cs) q in
      let world = played setup set.one payload past n p in
      let f = front-by setup past x world.stage (placed c) (Llc from link message) world.world (ap (λ cs. head cs) queue) (ap (λ post. llc_of post) e) in
      confirmation-by x v st from link message (Llc from link message) f.reply refl f.front
