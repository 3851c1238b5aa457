-- What calls, landings and new links leave together.
-- A reader learns here that nothing which an end does, and no bytes that land, changes what fits in a manager.
use Rattle.std.proofs.Common.{◌≡◌, ◌∙◌, ℕ, zero, suc, ◌-◌, ◌<◌, ◌==◌, Bool, true, false, if◌then◌else◌, nat_lt, List, [], ◌∷◌, length, Option, Some, None, IsSome, option_map, unwrap_or, cond, refl, sym, ap, subst, true≢false}
use Rattle.std.specs.Prelude.{slice_index_or, slice_set}
use Rattle.std.proofs.lemmas.Bool.{eq-eqb, or_right}
use Rattle.std.proofs.lemmas.List.{length-set}
use Rattle.smc_num.specs.declared.LinkId.{LinkId}
use Rattle.smc_num.specs.declared.Side.{Side}
use Rattle.smc_num.specs.declared.Side.TheVariants.{A, B}
use Rattle.smc_num.specs.declared.LinkPhase.TheVariants.{Unused, Pending}
use Rattle.smc_num.specs.Links.{Known, is_live, is_pending, is_standing, phase_at, first_live, put}
use Rattle.rmb_region.specs.Regions.{Buffer, fresh, lands as lands_in}
use Rattle.pipe_model.specs.Ends.{Half, settle}
use Rattle.pipe_model.specs.Connections.{EndState, NoEnd, HasFallen}
use Rattle.clc_handshake.specs.Stages.{Hand, first_state}
use Rattle.side_core.specs.declared.route.Route.{Route}
use Rattle.side_core.specs.Records.{Connection, route_at, settles}
use Rattle.side_core.specs.Desk.{Desk, makes_link}
use Rattle.side_core.specs.Manager.{Manager, state_at, with_hand}
use Rattle.side_core.specs.Acting.{acts_at, bytes_land}
use Rattle.side_core.specs.Taking.{with_desk}
use Rattle.side_core.specs.Landing.{CanMake, opens_at, falls_at}
use Rattle.side_core.specs.Fit.{Suits, HasElement, IsOneSlot, IsOneBuffer, IsFit}
use Rattle.side_core.proofs.Sockets.Seats.{seated, sits, fits, with_records, IsTable, with_tables, routes_kept}

-- something is done to an end
pub acts_fit : (s : ℕ) (act : Half → Half) (m : Manager Half) → IsFit m → IsFit (acts_at s act m)
acts_fit s act m fit = fits s (acts_at s act m) (with_records s (settles s act m.records) m refl (length-set m.records.by_socket s _) refl refl (λ t _. same t) (subst (λ o. HasElement s m.desk o) (sym (same s)) (fit.elements s)) (seated s m fit)) (subst (λ o. Suits (state_at s m) o) (sym (same s)) (fit.suits s))
  where
    same : (t : ℕ) → route_at t (settles s act m.records) ≡ route_at t m.records
    same t = routes_kept s t (λ (c : Connection Half). record c { end = settle m.records.terms.depth (act c.end) }) m.records (λ c. refl)

-- a buffer in which bytes have landed is the same one
one_buffer : (d : Desk) (bs : List Buffer) (i address : ℕ) (bytes : List ℕ) → IsOneBuffer d bs → IsOneBuffer d (slice_set bs i (lands_in address bytes (slice_index_or bs i (fresh 0 0 0))))
one_buffer d [] i address bytes one = absurd one
one_buffer d (b ∷ []) zero address bytes one = one
one_buffer d (b ∷ []) (suc i) address bytes one = one
one_buffer d (b ∷ c ∷ bs) i address bytes one = absurd one

-- bytes land
pub bytes_fit : (rmb address : ℕ) (bytes : List ℕ) (m : Manager Half) → IsFit m → IsFit (bytes_land rmb address bytes m)
bytes_fit rmb address bytes m fit = record {
  set = fit.set;
  terms = fit.terms;
  sockets = fit.sockets;
  records = fit.records;
  buffer = one_buffer m.desk m.regions (rmb - 1) address bytes fit.buffer;
  slot = fit.slot;
  places = fit.places;
  spare = fit.spare;
  epochs = fit.epochs;
  tokens = fit.tokens;
  quiet = fit.quiet;
  room = fit.room;
  unconfirmed = fit.unconfirmed;
  confirmed = fit.confirmed;
  live = fit.live;
  suits = fit.suits;
  elements = fit.elements;
}

-- the handshake of a socket becomes another one
pub hand_fit : (s : ℕ) (h : Hand) (m : Manager Half) → IsFit m → s < length m.hands → Suits h.state (route_at s m.records) → IsFit (with_hand s h m)
hand_fit s h m fit within suits = sits s h m (seated s m fit) within suits

no_connection : (state : EndState) (o : Option Route) → Suits state o → state ≡ NoEnd → o ≡ None
no_connection state o suits e = by_route o (subst (λ x. Suits x o) e suits)
  where
    by_route : (x : Option Route) → Suits NoEnd x → x ≡ None
    by_route None fits = refl
    by_route (Some r) fits = absurd fits

first_suits : (x : Side) → Suits (first_state x) None
first_suits A = tt
first_suits B = tt

-- an end begins its handshake
pub opens_fit : (s : ℕ) (raw : Bool) (m : Manager Half) → IsFit m → s < length m.hands → state_at s m ≡ NoEnd → IsFit (opens_at s raw m)
opens_fit s raw m fit within none = hand_fit s (record { raw = raw; state = first_state m.desk.side }) m fit within (subst (λ o. Suits (first_state m.desk.side) o) (sym (no_connection (state_at s m) (route_at s m.records) (fit.suits s) none)) (first_suits m.desk.side))

-- or goes on over TCP alone
pub falls_fit : (s : ℕ) (m : Manager Half) → IsFit m → s < length m.hands → state_at s m ≡ NoEnd → IsFit (falls_at s m)
falls_fit s m fit within none = hand_fit s (record { raw = false; state = HasFallen }) m fit within (subst (λ o. Suits HasFallen o) (sym (no_connection (state_at s m) (route_at s m.records) (fit.suits s) none)) tt)

-- a link that is put on the slot
pub put_one : (new : Known) (known : List Known) → new.link.slot ≡ 1 → IsOneSlot known → IsOneSlot (put new known)
put_one new [] slot one = slot
put_one new (k ∷ []) slot one = subst (λ b. IsOneSlot (if b then new ∷ [] else if nat_lt new.link.slot k.link.slot then new ∷ k ∷ [] else k ∷ new ∷ [])) (sym (eq-eqb new.link.slot k.link.slot (slot ∙ sym one))) slot
put_one new (k ∷ j ∷ known) slot one = absurd one

-- on the one slot there is a live link, or none stands
live_one : (known : List Known) → IsOneSlot known → IsSome (first_live known) → is_standing (phase_at 1 known) ≡ true
live_one [] one live = absurd (true≢false (sym live))
live_one (k ∷ []) one live =
    ap (λ b. is_standing (unwrap_or (option_map (λ (x : Known). x.phase) (cond b (Some k) None)) Unused)) (eq-eqb k.link.slot 1 one)
    ∙ or_right (is_pending k.phase) (is_live k.phase) (by_test (is_live k.phase) live)
  where
    by_test : (b : Bool) → IsSome (option_map (λ (x : Known). x.link) (cond b (Some k) None)) → b ≡ true
    by_test true there = refl
    by_test false there = absurd (true≢false (sym there))
live_one (k ∷ j ∷ known) one live = absurd one

-- the client makes a link
pub makes_fit : (link : LinkId) (m : Manager Half) → IsFit m → CanMake link m.desk → (m.desk.group == 0) ≡ false → IsFit (with_desk (makes_link link) m)
makes_fit link m fit can group = fits 0 (with_desk (makes_link link) m) (with_tables 0 (makes_link link m.desk) m table (seated 0 m fit)) (fit.suits 0)
  where
    none : is_standing (phase_at 1 m.desk.links.known) ≡ false
    none = ap (λ n. is_standing (phase_at n m.desk.links.known)) (sym can.slot) ∙ can.none

    table : IsTable (makes_link link m.desk) m.records.spare
    table = record {
      slot = put_one (record { link = link; phase = Pending }) m.desk.links.known can.slot fit.slot;
      quiet = λ e. absurd (true≢false (sym e ∙ group));
      room = fit.room;
      unconfirmed = fit.unconfirmed;
      confirmed = fit.confirmed;
      live = λ e later. absurd (true≢false (sym (live_one m.desk.links.known fit.slot (fit.live e later)) ∙ none));
    }
