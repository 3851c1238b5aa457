-- What link flows and first contact owe to keys is paid with each entry of a history that is made by the definitions.
use Rattle.std.proofs.Common.{Bool, List, [], ap, cond, false, not, refl, sym, true, true≢false, ℕ, ◌==◌, ◌∙◌, ◌∷◌, ◌≡◌}
use Rattle.pipe_model.specs.Flows.{LinkSent}
use Rattle.std.specs.Prelude.{None, Some, option_map, unwrap_or}
use Rattle.pipe_model.specs.declared.event.Event.TheVariants.{Clc as ClcEvent}
use Rattle.pipe_model.specs.Handshake.{verdict}
use Rattle.clc_wire.specs.declared.message.ClcMessage.TheVariants.{Accept as AcceptMessage}
use Rattle.pipe_model.specs.declared.flow.FlowStep.TheVariants.{Live}
use Rattle.history_laws.specs.Words.{A, Abandoned, AddKeys, AddLink, AddSeen, AddSent, B, ConfirmLink, ConfirmRkey, DeleteLink, DeleteRkey, Entry, Fabric, FirstContact, Flow, KeysSent, Known, LinkFlow, LinkId, LinkPhase, LlcMessage, NoFlow, Offer, Offered, Pending, ReplyAdd, Setup, Side, TestLink, fabric, flow_of, group_of, is_first_contact, is_raw, keys_of, lacks, link_at, named_link, named_slot, no_link, offered, other, peer, table_of}
use Rattle.history_laws.proofs.Basics.{and-both, none-is, some-is}
use Rattle.history_laws.specs.Made.{IsMadeAll, IsMade}
use Rattle.history_laws.specs.Offers.{Confirms}
use Rattle.history_laws.proofs.Offers.{accept-is, all-offers, states}
use Rattle.history_laws.specs.Lists.{IsAmong}
use Rattle.link_laws.specs.Linked.{is_adding_on, is_confirming, is_link_message, phases, under_fits}
use Rattle.link_laws.specs.FabricChanges.{OffersFirst, Takes, is_keyed}
use Rattle.link_laws.specs.StepSays.{is_add_request, is_confirm_message}
use Rattle.link_laws.specs.UnderWay.{HasFlows, link_kind}
use Rattle.link_laws.proofs.Waiting.{HasLanded, has-landed, landed-under}
use Rattle.link_laws.proofs.UnderWay.{under-fits}
use Rattle.link_laws.specs.Joined.{HasContact}
use Rattle.link_laws.proofs.Joined.{flows-of, has-contact}
use Rattle.link_laws.specs.Owed.{CanJoin}
use Rattle.link_laws.proofs.Lasting.{Entered, entered}
use Rattle.link_laws.specs.Covered.{HasKey, OwedByFlows}
use Rattle.link_laws.proofs.KeyMessages.{takes-says}
use Rattle.link_laws.specs.KeyChanges.{offered_key}
use Rattle.lending_laws.proofs.Known.FirstOffers.{BeginsA, BeginsB, begins-a, begins-b}
use Rattle.lending_laws.proofs.Lendings.{confirm-facts}
use Rattle.lending_laws.proofs.Known.FirstKeys.{all-first-keys, first-none}
use Rattle.lending_laws.specs.FirstKeys.{HasFirstKeys}

-- the answer to CONFIRM LINK fits a flow that waits for it
keyed-confirming : (k : ℕ) (flow : LinkFlow) → is_confirming k flow ≡ true → is_keyed k flow ≡ true
keyed-confirming k FirstContact e = refl
keyed-confirming k (LinkSent j) e = e
keyed-confirming k NoFlow e = absurd (true≢false (sym e))
keyed-confirming k (AddSent j on) e = absurd (true≢false (sym e))
keyed-confirming k (KeysSent j on) e = absurd (true≢false (sym e))
keyed-confirming k (Abandoned on) e = absurd (true≢false (sym e))
keyed-confirming k (AddSeen j) e = absurd (true≢false (sym e))

fits-keyed : (slot : ℕ) (m : LlcMessage) (a b : LinkFlow) (pa pb : ℕ → LinkPhase) → is_confirm_message m ≡ true → under_fits A slot m a b pa pb ≡ true → is_keyed slot b ≡ true
fits-keyed slot (ConfirmLink true mac gid qp k user most) a b pa pb is e = keyed-confirming slot b (let h = and-both (is_confirming slot b) _ e in h.0)
fits-keyed slot (ConfirmLink false mac gid qp k user most) a b pa pb is e = absurd (true≢false (sym e))
fits-keyed slot (AddLink reply rejected reason mac gid qp k mtu psn) a b pa pb is e = absurd (true≢false (sym is))
fits-keyed slot (AddKeys reply k count keys) a b pa pb is e = absurd (true≢false (sym is))
fits-keyed slot (DeleteLink reply every orderly k reason) a b pa pb is e = absurd (true≢false (sym is))
fits-keyed slot (ConfirmRkey reply retry negative others tokens) a b pa pb is e = absurd (true≢false (sym is))
fits-keyed slot (TestLink reply bytes) a b pa pb is e = absurd (true≢false (sym is))
fits-keyed slot (DeleteRkey reply negative count mask keys) a b pa pb is e = absurd (true≢false (sym is))

-- a request to add a link fits a flow that has told no keys for it
adding-keyless : (j k slot : ℕ) (flow : LinkFlow) → is_adding_on k slot flow ≡ true → is_keyed j flow ≡ false
adding-keyless j k slot (AddSent i on) e = refl
adding-keyless j k slot (Abandoned on) e = refl
adding-keyless j k slot NoFlow e = absurd (true≢false (sym e))
adding-keyless j k slot FirstContact e = absurd (true≢false (sym e))
adding-keyless j k slot (KeysSent i on) e = absurd (true≢false (sym e))
adding-keyless j k slot (LinkSent i) e = absurd (true≢false (sym e))
adding-keyless j k slot (AddSeen i) e = absurd (true≢false (sym e))

fits-keyless : (j slot : ℕ) (m : LlcMessage) (a b : LinkFlow) (pa pb : ℕ → LinkPhase) → is_add_request m ≡ true → under_fits B slot m a b pa pb ≡ true → is_keyed j b ≡ false
fits-keyless j slot (AddLink false rejected reason mac gid qp k mtu psn) a b pa pb is e = adding-keyless j k slot b (let h = and-both (not (k == 0)) (is_adding_on k slot b) e in h.1)
fits-keyless j slot (AddLink true rejected reason mac gid qp k mtu psn) a b pa pb is e = absurd (true≢false (sym is))
fits-keyless j slot (ConfirmLink reply mac gid qp k user most) a b pa pb is e = absurd (true≢false (sym is))
fits-keyless j slot (AddKeys reply k count keys) a b pa pb is e = absurd (true≢false (sym is))
fits-keyless j slot (DeleteLink reply every orderly k reason) a b pa pb is e = absurd (true≢false (sym is))
fits-keyless j slot (ConfirmRkey reply retry negative others tokens) a b pa pb is e = absurd (true≢false (sym is))
fits-keyless j slot (TestLink reply bytes) a b pa pb is e = absurd (true≢false (sym is))
fits-keyless j slot (DeleteRkey reply negative count mask keys) a b pa pb is e = absurd (true≢false (sym is))

confirm-link : (m : LlcMessage) → is_confirm_message m ≡ true → is_link_message m ≡ true
confirm-link (ConfirmLink reply mac gid qp k user most) is = refl
confirm-link (AddLink reply rejected reason mac gid qp k mtu psn) is = absurd (true≢false (sym is))
confirm-link (AddKeys reply k count keys) is = absurd (true≢false (sym is))
confirm-link (DeleteLink reply every orderly k reason) is = absurd (true≢false (sym is))
confirm-link (ConfirmRkey reply retry negative others tokens) is = absurd (true≢false (sym is))
confirm-link (TestLink reply bytes) is = absurd (true≢false (sym is))
confirm-link (DeleteRkey reply negative count mask keys) is = absurd (true≢false (sym is))

-- an ADD LINK is of the link flow
pub add-link : (m : LlcMessage) → is_add_request m ≡ true → is_link_message m ≡ true
add-link (AddLink reply rejected reason mac gid qp k mtu psn) is = refl
add-link (ConfirmLink reply mac gid qp k user most) is = absurd (true≢false (sym is))
add-link (AddKeys reply k count keys) is = absurd (true≢false (sym is))
add-link (DeleteLink reply every orderly k reason) is = absurd (true≢false (sym is))
add-link (ConfirmRkey reply retry negative others tokens) is = absurd (true≢false (sym is))
add-link (TestLink reply bytes) is = absurd (true≢false (sym is))
add-link (DeleteRkey reply negative count mask keys) is = absurd (true≢false (sym is))

-- a message of the link flow that lands fits the flows
pub landed-fits : (setup : Setup) (payload : List ℕ) (past : List Entry) (before : ℕ) (e : Entry) → IsMade setup payload past before e → HasFlows past → (x : Side) (step : _) (t : Takes x e past step) → is_link_message t.act.message ≡ true
    → under_fits (other x) t.act.link.slot t.act.message (flow_of A past).link (flow_of B past).link (phases (peer A (fabric past))) (phases (peer B (fabric past))) ≡ true
landed-fits setup payload past before e made flows x step t is =
    let land : HasLanded x past t.act = has-landed setup payload past before e made x t.act t.is in
    under-fits past flows (record { from = other x; link = t.act.link; message = t.act.message }) (landed-under link_kind x past t.act flows.under land flows.carried is)

module _ (setup : Setup) (payload : List ℕ) (e : Entry) (past : List Entry) (m : IsMadeAll setup payload (e ∷ past)) where
  flows : HasFlows past
  flows = let c : HasContact past = has-contact setup payload past m.1 in c.flows

  -- as A joins, B's offer is the one that names the link
  pub joined-offer : (l : LinkId) (o : Offer) → OffersFirst A e l o → (s : ℕ) × ((p : Offered) × ((offered B s past ≡ Some p) × ((p.offer.first ≡ true) × ((p.link ≡ l) × (e.event ≡ ClcEvent s B)))))
  joined-offer l o it = by (begins-a setup payload e past m l o it)
    where
      by : BeginsA setup payload e past l o → (s : ℕ) × ((p : Offered) × ((offered B s past ≡ Some p) × ((p.offer.first ≡ true) × ((p.link ≡ l) × (e.event ≡ ClcEvent s B)))))
      by b = with-it b.confirms b.first b.link_is
        where
          with-it : (c : Confirms setup payload e past) → c.first ≡ true → l ≡ unwrap_or (named_link c.s past) no_link → (s : ℕ) × ((p : Offered) × ((offered B s past ≡ Some p) × ((p.offer.first ≡ true) × ((p.link ≡ l) × (e.event ≡ ClcEvent s B)))))
          with-it c first link_is =
              let h = accept-is setup payload past m.0.0 e m.0.1 (states setup payload past m.1) (all-offers setup payload past m.1) c in
              let f = confirm-facts c.offer (lacks setup payload A past) c.first (sym (ap (λ w. verdict (is_raw c.s past) w (AcceptMessage c.offer) (lacks setup payload A past)) c.waits) ∙ c.step_is) in
              (c.s, (record { link = h.0; offer = c.offer }, (h.1, (f.first_is ∙ first, (ap (λ q. unwrap_or (option_map (λ (p : Offered). p.link) q) no_link) (sym h.1) ∙ sym link_is, c.event_is)))))

  pub joins-at : (l : LinkId) (o : Offer) → OffersFirst A e l o → CanJoin l past
  joins-at l o it = let i : Entered e past = entered setup payload e past m (flows-of setup payload (e ∷ past) m) in i.joins l o it

  -- what link flows and first contact owe
  pub flows-made : OwedByFlows e past
  flows-made = record { confirming = confirming; adding = adding; first_b = first-key; first_none = first-none setup payload e past m; first_one = one }
    where
      confirming : (reply first : Bool) (t : Takes B e past (Live reply first)) → is_keyed t.act.link.slot (flow_of B past).link ≡ true
      confirming reply first t =
          let says = takes-says B e past (Live reply first) t in
          fits-keyed t.act.link.slot t.act.message (flow_of A past).link (flow_of B past).link (phases (peer A (fabric past))) (phases (peer B (fabric past))) says (landed-fits setup payload past m.0.0 e m.0.1 flows B (Live reply first) t (confirm-link t.act.message says))

      adding : (t : Takes A e past (ReplyAdd false)) → is_keyed (named_slot t.act.message t.act.link.slot) (flow_of B past).link ≡ false
      adding t =
          let says = (takes-says A e past (ReplyAdd false) t).1 in
          fits-keyless (named_slot t.act.message t.act.link.slot) t.act.link.slot t.act.message (flow_of A past).link (flow_of B past).link (phases (peer A (fabric past))) (phases (peer B (fabric past))) says (landed-fits setup payload past m.0.0 e m.0.1 flows A (ReplyAdd false) t (add-link t.act.message says))

      first-key : (l : LinkId) (o : Offer) → OffersFirst A e l o → (rmb : ℕ) → IsAmong rmb (keys_of B past).confirmed → HasKey rmb l (keys_of B past).keys
      first-key l o it rmb i = by (joined-offer l o it) (joins-at l o it) (all-first-keys setup payload past m.1 B)
        where
          by : (s : ℕ) × ((p : Offered) × ((offered B s past ≡ Some p) × ((p.offer.first ≡ true) × ((p.link ≡ l) × (e.event ≡ ClcEvent s B))))) → CanJoin l past → HasFirstKeys B past → HasKey rmb l (keys_of B past).keys
          by h j k =
              let first : is_first_contact (flow_of B past).link ≡ true = ap (λ (f : Flow). is_first_contact f.link) j.flow in
              let group : group_of B past ≡ LinkId.group (Offered.link h.1.0) = j.group ∙ ap (λ (l : LinkId). l.group) (sym h.1.1.1.1.0) in
              record { key = offered_key h.1.0; among = k.key h.0 h.1.0 h.1.1.0 h.1.1.1.0 first group; of = sym (k.only h.0 h.1.0 h.1.1.0 h.1.1.1.0 first group rmb i); on = h.1.1.1.1.0 }

      alone : (j : ℕ) (l n : LinkId) → link_at j (record { link = l; phase = Pending } ∷ []) ≡ Some n → n ≡ l
      alone j l n e = by (l.slot == j) e
        where
          by : (b : Bool) → option_map (λ (m : Known). m.link) (cond b (Some (record { link = l; phase = Pending })) None) ≡ Some n → n ≡ l
          by true e = sym (some-is l n e)
          by false e = absurd (none-is n e)

      one : (x : Side) (l : LinkId) (o : Offer) → OffersFirst x e l o → (j : ℕ) (n : LinkId) → link_at j (table_of x (e ∷ past)) ≡ Some n → n ≡ l
      one A l o it j n at = let b : BeginsA setup payload e past l o = begins-a setup payload e past m l o it in alone j l n (ap (λ (f : Fabric). link_at j f.a.table) (sym b.changed) ∙ at)
      one B l o it j n at = let b : BeginsB setup payload e past l o = begins-b setup payload e past m l o it in absurd (none-is n (ap (λ (f : Fabric). link_at j f.b.table) (sym b.changed) ∙ at))
