-- What the confirmation of a link leaves together.
-- A reader learns here that all fits once the ends of a side hear that it is live, and the one in first contact is established.
use Rattle.std.proofs.Common.{◌≡◌, ◌∙◌, ℕ, zero, suc, ◌<◌, ◌==◌, if◌then◌else◌, true, false, List, [], ◌∷◌, length, map, Option, Some, None, IsSome, option_map, refl, sym, ap, subst, true≢false, inl, inr}
use Rattle.std.specs.Prelude.{slice_index_or}
use Rattle.std.proofs.lemmas.Bool.{cases_lt, eq-eqb}
use Rattle.std.proofs.lemmas.List.{length-map, get_or_past}
use Rattle.smc_num.specs.declared.LinkId.{LinkId}
use Rattle.smc_num.specs.declared.LinkPhase.{LinkPhase}
use Rattle.smc_num.specs.declared.LinkPhase.TheVariants.{Live as LiveLink}
use Rattle.smc_num.specs.Links.{Known, link_at, first_live, set_phase}
use Rattle.llc_wire.specs.declared.LlcMessage.{LlcMessage}
use Rattle.pipe_model.specs.declared.flow.LinkView.{LinkView}
use Rattle.pipe_model.specs.declared.flow.FlowStep.{FlowStep}
use Rattle.pipe_model.specs.declared.flow.FlowStep.TheVariants.{Live}
use Rattle.pipe_model.specs.Ends.{Half, meets_fate}
use Rattle.pipe_model.specs.Connections.{NoEnd, WaitsLink, IsUp}
use Rattle.clc_handshake.specs.Stages.{Hand}
use Rattle.side_core.specs.Records.{Connection, Records, route_at}
use Rattle.side_core.specs.Desk.{goes_live}
use Rattle.side_core.specs.Manager.{Manager, no_hand, hand_at, state_at}
use Rattle.side_core.specs.Acting.{all_hear, link_lives, first_rises, confirms_link, IsWaitingFor, step_at, MayConfirm}
use Rattle.side_core.specs.Taking.{rises_at}
use Rattle.side_core.specs.Fit.{Suits, HasElement, IsOneSlot, IsFit}
use Rattle.side_core.proofs.Elements.{by_if}
use Rattle.side_core.proofs.Sockets.{seated, fits, sits, with_records, IsTable, with_tables}
use Rattle.side_core.proofs.Managers.Steps.{risen_suits, risen_route, rises_seat}

-- an end that hears of a link stays where it is
heard : (f : Connection Half → Connection Half) → ((c : Connection Half) → (f c).route ≡ c.route) → (xs : List (Option (Connection Half))) (t : ℕ) → option_map (λ (c : Connection Half). c.route) (slice_index_or (map (option_map f) xs) t None) ≡ option_map (λ (c : Connection Half). c.route) (slice_index_or xs t None)
heard f keeps [] t = refl
heard f keeps (None ∷ xs) zero = refl
heard f keeps (Some c ∷ xs) zero = ap Some (keeps c)
heard f keeps (x ∷ xs) (suc t) = heard f keeps xs t

pub heard_route : (link : LinkId) (r : Records Half) (t : ℕ) → route_at t (all_hear link r) ≡ route_at t r
heard_route link r t = heard (λ c. record c { end = meets_fate link LiveLink c.end }) (λ c. refl) r.by_socket t

-- the link of the one slot gets another phase
one_phase : (slot : ℕ) (phase : LinkPhase) (known : List Known) → IsOneSlot known → IsOneSlot (set_phase slot phase known)
one_phase slot phase [] one = tt
one_phase slot phase (k ∷ []) one = by_if (λ (x : Known). x.link.slot ≡ 1) (k.link.slot == slot) (record k { phase = phase }) k (λ _. one) (λ _. one)
one_phase slot phase (k ∷ j ∷ known) one = absurd one

-- and where it goes live, there is a live one
one_lives : (slot : ℕ) (known : List Known) → slot ≡ 1 → IsOneSlot known → IsSome (link_at slot known) → IsSome (first_live (set_phase slot LiveLink known))
one_lives slot [] is one there = absurd (true≢false (sym there))
one_lives slot (k ∷ []) is one there = subst (λ b. IsSome (first_live ((if b then record k { phase = LiveLink } else k) ∷ []))) (sym (eq-eqb k.link.slot slot (one ∙ sym is))) refl
one_lives slot (k ∷ j ∷ known) is one there = absurd one

-- a link goes live
pub lives_fit : (link : LinkId) (m : Manager Half) → IsFit m → (m.desk.group == 0) ≡ false → link.slot ≡ 1 → IsSome (link_at link.slot m.desk.links.known) → IsFit (link_lives link m)
lives_fit link m fit group slot there = fits 0 (link_lives link m)
    (with_tables 0 (goes_live link.slot m.desk) (record m { records = all_hear link m.records }) table
    (with_records 0 (all_hear link m.records) m refl (length-map m.records.by_socket _) refl refl (λ t _. heard_route link m.records t) (subst (λ o. HasElement 0 m.desk o) (sym (heard_route link m.records 0)) (fit.elements 0)) (seated 0 m fit)))
    (subst (λ o. Suits (state_at 0 m) o) (sym (heard_route link m.records 0)) (fit.suits 0))
  where
    table : IsTable (goes_live link.slot m.desk) m.records.spare
    table = record {
      slot = one_phase link.slot LiveLink m.desk.links.known fit.slot;
      quiet = λ e. absurd (true≢false (sym e ∙ group));
      room = fit.room;
      unconfirmed = fit.unconfirmed;
      confirmed = fit.confirmed;
      live = λ e later. one_lives link.slot m.desk.links.known slot fit.slot there;
    }

-- an end that waits for its link has a socket
waits_within : (s : ℕ) (m : Manager Half) → state_at s m ≡ WaitsLink → s < length m.hands
waits_within s m waits = elim (cases_lt s (length m.hands)) [
  | inl below ↦ below
  | inr past ↦ absurd (let e : NoEnd ≡ WaitsLink = sym (ap (λ (h : Hand). h.state) (get_or_past m.hands s no_hand past)) ∙ waits in cc)
]

-- the end in first contact is established
pub first_rises_fit : (m : Manager Half) → IsFit m → state_at m.desk.first m ≡ WaitsLink → IsFit (first_rises m)
first_rises_fit m fit waits = sits m.desk.first (record (hand_at m.desk.first m) { state = IsUp }) (rises_at m.desk.first m) (rises_seat m.desk.first m (seated m.desk.first m fit)) (waits_within m.desk.first m waits)
    (subst (λ o. Suits IsUp o) (sym (risen_route m.desk.first m.records)) (risen_suits (route_at m.desk.first m.records) (subst (λ x. Suits x (route_at m.desk.first m.records)) waits (fit.suits m.desk.first))))

-- what fits, fits once a link was confirmed
pub confirms_fit : (message : LlcMessage) (view : LinkView) (link : LinkId) (m : Manager Half) → IsFit m → MayConfirm message view link m → IsFit (confirms_link (step_at message view link m) link m)
confirms_fit message view link m fit may = by_step (step_at message view link m) may.waits
  where
    lives : IsFit (link_lives link m)
    lives = lives_fit link m fit may.group may.slot (subst (λ o. IsSome o) (sym may.latest) refl)

    by_step : (x : FlowStep) → IsWaitingFor x m → IsFit (confirms_link x link m)
    by_step (Live reply true) waits = first_rises_fit (link_lives link m) lives waits
    by_step (Live reply false) waits = lives
    by_step x waits = fit
