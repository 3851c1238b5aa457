-- The manager of a side that nothing concerned.
-- A reader learns here that all fits in it.
use Rattle.std.proofs.Common.{◌≡◌, ◌∙◌, ℕ, zero, suc, ◌<◌, ◌≤◌, List, [], ◌∷◌, length, map, replicate, None, option_map, refl, sym, ap, subst, arith, true≢false}
use Rattle.std.specs.Prelude.{slice_index_or}
use Rattle.std.proofs.lemmas.List.{length-map, length-replicate, length-append}
use Rattle.std.proofs.lemmas.List.FromFn.{length-map-range_with_len}
use Rattle.smc_num.specs.declared.Side.{Side}
use Rattle.smc_num.specs.Names.{up_to}
use Rattle.smc_num.specs.Places.{Place, all_places, places_in}
use Rattle.rmb_region.specs.Regions.{fresh as fresh_buffer}
use Rattle.element_ledger.specs.Lendings.{Row, fresh}
use Rattle.element_ledger.proofs.Changes.{fresh_places}
use Rattle.pipe_model.specs.declared.setup.Setup.{Setup}
use Rattle.pipe_model.specs.Words.{element_size, rmbs_of, elements_of}
use Rattle.pipe_model.specs.Ends.{Half}
use Rattle.clc_handshake.specs.Stages.{Hand}
use Rattle.side_core.specs.Records.{Connection, route_at}
use Rattle.side_core.specs.Setups.{IsSet}
use Rattle.side_core.specs.Desk.{new_desk}
use Rattle.side_core.specs.Manager.{no_hand, new_manager}
use Rattle.side_core.specs.Fit.{Suits, HasElement, IsOneBuffer, IsFit}
use Rattle.side_core.proofs.Elements.{free_count}

-- the same everywhere
pub all_same : {X : Type 0} (n k : ℕ) (x : X) → slice_index_or (replicate n x) k x ≡ x
all_same zero k x = refl
all_same (suc n) zero x = refl
all_same (suc n) (suc k) x = all_same n k x

-- elements that were never lent are free
all_free : (ps : List Place) → free_count (map fresh ps) ≡ length (map fresh ps)
all_free [] = refl
all_free (p ∷ ps) = ap suc (all_free ps)

never_lent : (ps : List Place) (k : ℕ) (d : Row) → k < length (map fresh ps) → (slice_index_or (map fresh ps) k d).epoch ≤ 0
never_lent [] k d below = absurd (omega (arith, below))
never_lent (p ∷ ps) zero d below = omega arith
never_lent (p ∷ ps) (suc k) d below = never_lent ps k d (omega (arith, below))

-- a side has at least one
some_places : (n : ℕ) → 1 ≤ n → 0 < length (all_places 1 n)
some_places n some =
    let long = length-append (places_in n 1) [] in
    let here : length (places_in n 1) ≡ n = length-map-range_with_len (λ i. let p : Place = record { rmb = 1; index = i } in p) 1 n in
    omega (arith, long, here, some)

-- a new manager
pub new_fit : (x : Side) (setup : Setup) → IsSet setup x → IsFit (new_manager x setup)
new_fit x setup set = record {
  set = set;
  terms = refl;
  sockets = length-replicate setup.sockets no_hand;
  records = length-replicate setup.sockets None;
  buffer = subst (λ n. IsOneBuffer (new_desk x setup) (map (λ rmb. fresh_buffer rmb (elements_of setup x) (element_size setup)) (up_to n))) (sym set.rmbs) (refl, refl, refl);
  slot = tt;
  places = fresh_places (all_places (rmbs_of setup x) (elements_of setup x)) ∙ ap (λ n. all_places n (elements_of setup x)) set.rmbs;
  spare = sym (all_free (all_places (rmbs_of setup x) (elements_of setup x)));
  epochs = λ k d below. never_lent (all_places (rmbs_of setup x) (elements_of setup x)) k d below;
  tokens = omega arith;
  quiet = λ _. refl;
  room = λ _. subst (λ n. 0 < n) (sym (length-map (all_places (rmbs_of setup x) (elements_of setup x)) fresh)) (subst (λ n. 0 < length (all_places n (elements_of setup x))) (sym set.rmbs) (some_places (elements_of setup x) set.elements));
  unconfirmed = λ _. refl;
  confirmed = λ e. absurd (true≢false e);
  live = λ e later. absurd (true≢false e);
  suits = λ s. subst (λ (h : Hand). Suits h.state (route_at {E = Half} s (new_manager x setup).records)) (sym (all_same setup.sockets s no_hand)) (subst (λ o. Suits no_hand.state o) (sym (no_route s)) tt);
  elements = λ s. subst (λ o. HasElement s (new_desk x setup) o) (sym (no_route s)) tt;
}
  where
    no_route : (s : ℕ) → route_at {E = Half} s (new_manager x setup).records ≡ None
    no_route s = ap (option_map (λ (c : Connection Half). c.route)) (all_same setup.sockets s None)
