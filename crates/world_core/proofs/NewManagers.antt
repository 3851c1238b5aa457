-- After no entry each side's manager is a new one.
use Rattle.std.proofs.Common.{◌≡◌, ◌∙◌, ℕ, ◌+◌, List, [], ◌∷◌, length, map, filter, replicate, refl, ap, sym, suc, zero}
use Rattle.std.specs.List.{range_with_len}
use Rattle.std.specs.Prelude.{Option, None}
use Rattle.std.proofs.lemmas.List.{length-map}
use Rattle.smc_num.specs.declared.Side.{Side}
use Rattle.smc_num.specs.declared.Side.TheVariants.{A, B}
use Rattle.smc_num.specs.Places.{Place, all_places, is_free}
use Rattle.rmb_region.specs.Regions.{Buffer}
use Rattle.pipe_model.specs.declared.setup.Setup.{Setup}
use Rattle.pipe_model.specs.Words.{rmbs_of, elements_of}
use Rattle.pipe_model.specs.Ends.{Half}
use Rattle.element_ledger.specs.Lendings.{fresh}
use Rattle.clc_handshake.specs.Stages.{Hand}
use Rattle.side_core.specs.Desk.{Desk, new_desk}
use Rattle.side_core.specs.Records.{Connection, Records, no_records}
use Rattle.side_core.specs.Manager.{Manager, new_manager, no_hand}
use Rattle.pipe_model.specs.Lending.{terms_of}
use Rattle.world_core.specs.Managers.{manager_of, desk_of, records_of}

-- the same everywhere
pub map-same : {X : Type 0} (x : X) (from n : ℕ) → map (λ (k : ℕ). x) (range_with_len from n) ≡ replicate n x
map-same x from zero = refl
map-same x from (suc n) = ap (λ xs. x ∷ xs) (map-same x (from + 1) n)

-- where nothing is taken all is free
all-free : (ps : List Place) → filter (is_free []) ps ≡ ps
all-free [] = refl
all-free (p ∷ ps) = ap (λ qs. p ∷ qs) (all-free ps)

module _ (setup : Setup) (payload : List ℕ) (x : Side) where
  pub new-desk : desk_of setup payload x [] ≡ new_desk x setup
  new-desk = by_side x
    where
      made : map {B = ℕ} (λ (k : ℕ). 0) (range_with_len 1 setup.links) ≡ replicate setup.links 0
      made = map-same 0 1 setup.links

      by_side : (x : Side) → desk_of setup payload x [] ≡ new_desk x setup
      by_side A = ap (λ (ns : List ℕ). record (new_desk A setup) { links = record { slots = setup.links; known = []; made = ns } }) made
      by_side B = ap (λ (ns : List ℕ). record (new_desk B setup) { links = record { slots = setup.links; known = []; made = ns } }) made

  pub new-records : records_of setup payload x [] ≡ no_records (terms_of setup) setup.sockets (length (new_desk x setup).rows)
  new-records =
      let all : List Place = all_places (rmbs_of setup x) (elements_of setup x) in
      ap (λ (cs : List (Option (Connection Half))). let r : Records Half = record { terms = terms_of setup; by_socket = cs; tokens = 0; spare = length (filter (is_free []) all) } in r) (map-same None 0 setup.sockets)
      ∙ ap (λ n. record (no_records (terms_of setup) setup.sockets 0) { spare = n }) (ap (λ (ps : List Place). length ps) (all-free all) ∙ sym (length-map all fresh))

  pub new-manager : (regions : List Buffer) → manager_of setup payload regions x [] ≡ record (new_manager x setup) { regions = regions }
  new-manager regions =
      ap (λ (d : Desk). record (manager_of setup payload regions x []) { desk = d }) new-desk
      ∙ (ap (λ (hs : List Hand). let m : Manager Half = record { desk = new_desk x setup; hands = hs; records = records_of setup payload x []; regions = regions } in m) (map-same no_hand 0 setup.sockets)
      ∙ ap (λ (r : Records Half). let m : Manager Half = record { desk = new_desk x setup; hands = replicate setup.sockets no_hand; records = r; regions = regions } in m) new-records)
