-- The parts of a side that nothing concerned.
-- A reader learns here that together they are a new manager.
use Rattle.std.proofs.Common.{◌≡◌, ◌∙◌, ℕ, List, [], ◌∷◌, length, map, replicate, None, sym, ap, subst, arith}
use Rattle.std.proofs.lemmas.List.{length-map, length-append}
use Rattle.std.proofs.lemmas.List.FromFn.{length-map-range_with_len}
use Rattle.smc_num.specs.declared.Side.{Side}
use Rattle.smc_num.specs.Names.{up_to}
use Rattle.smc_num.specs.Places.{Place, all_places, places_in}
use Rattle.rmb_region.specs.Regions.{Buffer, fresh as fresh_buffer}
use Rattle.element_ledger.specs.Lendings.{fresh}
use Rattle.pipe_model.specs.declared.setup.Setup.{Setup}
use Rattle.pipe_model.specs.Words.{element_size, rmbs_of, elements_of}
use Rattle.pipe_model.specs.Lending.{terms_of}
use Rattle.pipe_model.specs.Ends.{Half}
use Rattle.clc_handshake.specs.Stages.{Hand}
use Rattle.conn_end.specs.Kept.{Kept}
use Rattle.side_core.specs.Inside.{made_with}
use Rattle.side_core.specs.Records.{Records, AllStand, no_records}
use Rattle.side_core.specs.Setups.{IsSet}
use Rattle.side_core.specs.Desk.{Desk, new_desk}
use Rattle.side_core.specs.Manager.{Manager, Represents, IsTiedAt, no_hand, new_manager}
use Rattle.side_core.specs.Fit.{IsManager}
use Rattle.side_core.proofs.Managers.News.{new_fit, all_same}

-- the elements of a side
rows_long : (x : Side) (setup : Setup) → IsSet setup x → length (new_desk x setup).rows ≡ elements_of setup x
rows_long x setup set = length-map (all_places (rmbs_of setup x) (elements_of setup x)) fresh ∙ ap (λ n. length (all_places n (elements_of setup x))) set.rmbs ∙ one (elements_of setup x)
  where
    one : (n : ℕ) → length (all_places 1 n) ≡ n
    one n =
        let long = length-append (places_in n 1) [] in
        let here : length (places_in n 1) ≡ n = length-map-range_with_len (λ i. let p : Place = record { rmb = 1; index = i } in p) 1 n in
        omega (arith, long, here)

-- that these are the parts of a side
pub record AreNew (x : Side) (setup : Setup) (desk : Desk) (hands : List Hand) (regions : List Buffer) (size elements : ℕ) : Type 0 where
  pub set : IsSet setup x
  pub desk_is : desk ≡ new_desk x setup
  pub hands_are : hands ≡ replicate setup.sockets no_hand
  pub regions_are : regions ≡ fresh_buffer 1 elements size ∷ []
  pub size_is : size ≡ element_size setup
  pub elements_are : elements ≡ elements_of setup x

buffers_new : (x : Side) (setup : Setup) (desk : Desk) (hands : List Hand) (regions : List Buffer) (size elements : ℕ) → AreNew x setup desk hands regions size elements → regions ≡ map (λ rmb. fresh_buffer rmb (elements_of setup x) (element_size setup)) (up_to (rmbs_of setup x))
buffers_new x setup desk hands regions size elements new =
    new.regions_are
    ∙ ap (λ n. fresh_buffer 1 n size ∷ []) new.elements_are
    ∙ ap (λ n. fresh_buffer 1 (elements_of setup x) n ∷ []) new.size_is
    ∙ sym (ap (λ n. map (λ rmb. fresh_buffer rmb (elements_of setup x) (element_size setup)) (up_to n)) new.set.rmbs)

-- they are a new manager
pub newly : {E : Type 0} (x : Side) (setup : Setup) (desk : Desk) (hands : List Hand) (records : Records E) (regions : List Buffer) (size elements : ℕ) → AreNew x setup desk hands regions size elements
    → records ≡ no_records (made_with size setup.depth setup.number) setup.sockets elements → (let m : Manager E = record { desk = desk; hands = hands; records = records; regions = regions } in m) ≡ new_manager {E = E} x setup
newly {E = E} x setup desk hands records regions size elements new none =
    ap (λ (d : Desk). let m : Manager E = record { desk = d; hands = hands; records = records; regions = regions } in m) new.desk_is
    ∙ ap (λ (hs : List Hand). let m : Manager E = record { desk = new_desk x setup; hands = hs; records = records; regions = regions } in m) new.hands_are
    ∙ ap (λ (r : Records E). let m : Manager E = record { desk = new_desk x setup; hands = replicate setup.sockets no_hand; records = r; regions = regions } in m)
    (none ∙ ap (λ n. no_records {E = E} (made_with n setup.depth setup.number) setup.sockets elements) new.size_is
    ∙ ap (λ n. no_records {E = E} (terms_of setup) setup.sockets n) (new.elements_are ∙ sym (rows_long x setup new.set)))
    ∙ ap (λ (bs : List Buffer). let m : Manager E = record { desk = new_desk x setup; hands = replicate setup.sockets no_hand; records = no_records (terms_of setup) setup.sockets (length (new_desk x setup).rows); regions = bs } in m)
    (buffers_new x setup desk hands regions size elements new)

-- and stand for the plain one
pub newly_stands : (x : Side) (setup : Setup) (v : Manager Kept) (size elements : ℕ) → AreNew x setup v.desk v.hands v.regions size elements
    → AllStand v.records (no_records (made_with size setup.depth setup.number) setup.sockets elements) → Represents v (new_manager {E = Half} x setup)
newly_stands x setup v size elements new all = record {
  works = record {
    desk = new.desk_is;
    records = subst (λ n. AllStand v.records (no_records (terms_of setup) setup.sockets n)) (new.elements_are ∙ sym (rows_long x setup new.set))
        (subst (λ n. AllStand v.records (no_records (made_with n setup.depth setup.number) setup.sockets elements)) new.size_is all);
    tied = λ s. subst (λ o. IsTiedAt (new_desk x setup).links.known o) (sym (all_same setup.sockets s None)) tt;
  };
  hands = new.hands_are;
  regions = buffers_new x setup v.desk v.hands v.regions size elements new;
}

pub newly_kept : (x : Side) (setup : Setup) (v : Manager Kept) (size elements : ℕ) → AreNew x setup v.desk v.hands v.regions size elements
    → AllStand v.records (no_records (made_with size setup.depth setup.number) setup.sockets elements) → IsManager v
newly_kept x setup v size elements new all = record { plain = new_manager x setup; stands = newly_stands x setup v size elements new all; fit = new_fit x setup new.set }
