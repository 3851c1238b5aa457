-- What the steps of the handshake do to a connection.
-- A reader learns here that all fits as a connection begins, learns what its peer offers, is established and ends.
use Rattle.std.proofs.Common.{◌≡◌, ◌≢◌, ◌∙◌, ℕ, zero, suc, ◌+◌, ◌<◌, ◌≤◌, ◌==◌, true, false, List, [], ◌∷◌, length, map, Option, Some, None, option_map, unwrap_or, refl, sym, ap, subst, arith, true≢false, inl, inr}
use Rattle.std.specs.Prelude.{slice_index_or, slice_set}
use Rattle.std.proofs.lemmas.Bool.{cases_eq, eq-eqb}
use Rattle.std.proofs.lemmas.List.{get_or-set_same, length-set}
use Rattle.smc_num.specs.declared.LinkId.{LinkId}
use Rattle.smc_num.specs.Links.{live_links}
use Rattle.smc_num.specs.Places.{same_place, rmb_at, all_places}
use Rattle.clc_wire.specs.declared.offer.Offer.{Offer}
use Rattle.element_ledger.specs.declared.Element.{Element}
use Rattle.element_ledger.specs.Lendings.{Row, Rows, first_free, next_lending, lending_of, changes_at, place_of, lends, freed}
use Rattle.element_ledger.proofs.Changes.{lending_of-lends}
use Rattle.element_ledger.proofs.Once.{lent_stays, others_stay}
use Rattle.pipe_model.specs.Words.{elements_of}
use Rattle.pipe_model.specs.Ends.{Half, settle, comes_up}
use Rattle.pipe_model.specs.Keys.{confirms}
use Rattle.pipe_model.specs.Connections.{WaitsConfirm, WaitsLink, IsUp}
use Rattle.side_core.specs.declared.route.Route.{Route}
use Rattle.side_core.specs.Records.{Connection, Records, conn_at, route_at, new_route, begins, aims, rises, leaves}
use Rattle.side_core.specs.Desk.{Desk, next_place, next_element, begins_group, makes_link, learns_offer, takes_back}
use Rattle.side_core.specs.Manager.{Manager, state_at}
use Rattle.side_core.specs.Taking.{with_desk, starts, hears, rises_at, quits, quits_from}
use Rattle.side_core.specs.Fit.{Suits, HasElement}
use Rattle.side_core.proofs.Elements.{first_in_one, some_free, is_there, apart, one_less, one_more, places_stay, epochs_stay, first_among}
use Rattle.side_core.proofs.Sockets.{IsSeated, with_records, IsTable, with_tables, route_changed, route_elsewhere}

-- the elements of a side with one RMB
abbrev ledger_of : Desk → Rows
ledger_of d = record { rmbs = 1; elements = elements_of d.setup d.side; rows = d.rows }

-- the peer's offer is learnt
aimed_element : (s : ℕ) (o : Offer) (d : Desk) (x : Option Route) → rmb_at o.address ≡ 1 → 1 ≤ o.index → HasElement s d x → HasElement s d (option_map (λ (r : Route). let q : Route = record r { peer = Some o } in q) x)
aimed_element s o d None rmb index has = tt
aimed_element s o d (Some r) rmb index has = (has.0, (rmb, index))

pub aimed_suits : (o : Offer) (x : Option Route) → Suits WaitsConfirm x → Suits WaitsLink (option_map (λ (r : Route). let q : Route = record r { peer = Some o } in q) x)
aimed_suits o None suits = absurd suits
aimed_suits o (Some r) suits = (suits.0, refl)

pub aimed_route : (s : ℕ) (o : Offer) (r : Records Half) → route_at s (aims s o r) ≡ option_map (λ (x : Route). let q : Route = record x { peer = Some o } in q) (route_at s r)
aimed_route s o r = route_changed s (λ c. record c { route = record c.route { peer = Some o } }) (λ x. record x { peer = Some o }) r (λ c. refl)

pub hears_seat : (s : ℕ) (o : Offer) (m : Manager Half) → rmb_at o.address ≡ 1 → 1 ≤ o.index → IsSeated s m → IsSeated s (hears s o m)
hears_seat s o m rmb index seat = with_records s (aims s o m.records) m refl (length-set m.records.by_socket s _) refl refl
    (λ t other. route_elsewhere s t _ m.records other)
    (subst (λ x. HasElement s m.desk x) (sym (aimed_route s o m.records)) (aimed_element s o m.desk (route_at s m.records) rmb index (seat.elements s)))
    seat

-- the connection is established
risen_element : (s : ℕ) (d : Desk) (x : Option Route) → HasElement s d x → HasElement s d (option_map (λ (r : Route). let q : Route = record r { up = true } in q) x)
risen_element s d None has = tt
risen_element s d (Some r) has = has

pub risen_suits : (x : Option Route) → Suits WaitsLink x → Suits IsUp (option_map (λ (r : Route). let q : Route = record r { up = true } in q) x)
risen_suits None suits = absurd suits
risen_suits (Some r) suits = (refl, suits.1)

pub risen_route : (s : ℕ) (r : Records Half) → route_at s (rises s r) ≡ option_map (λ (x : Route). let q : Route = record x { up = true } in q) (route_at s r)
risen_route s r = route_changed s (λ c. record c { route = record c.route { up = true }; end = settle r.terms.depth (comes_up c.route.link c.end) }) (λ x. record x { up = true }) r (λ c. refl)

pub rises_seat : (s : ℕ) (m : Manager Half) → IsSeated s m → IsSeated s (rises_at s m)
rises_seat s m seat = with_records s (rises s m.records) m refl (length-set m.records.by_socket s _) refl refl
    (λ t other. route_elsewhere s t _ m.records other)
    (subst (λ x. HasElement s m.desk x) (sym (risen_route s m.records)) (risen_element s m.desk (route_at s m.records) (seat.elements s)))
    seat

-- a connection begins on an element
abbrev begun : ℕ → LinkId → List LinkId → Manager Half → Element → Manager Half
begun s link live m e = record m { desk = record m.desk { rows = map (changes_at (place_of e) (lends s)) m.desk.rows }; records = begins s link e live m.records }

-- another's element stays lent
other_lent : (s t : ℕ) (r : Row) (d : Desk) (x : Option Route) → map (λ q. q.place) d.rows ≡ all_places 1 (elements_of d.setup d.side) → first_free d.rows ≡ Some r → HasElement t d x → HasElement t (record d { rows = map (changes_at r.place (lends s)) d.rows }) x
other_lent s t r d None places free has = tt
other_lent s t r d (Some x) places free has = (record { lending = lent_stays (ledger_of d) r s x.element (record { conn = t; own = false; peer = false }) places free has.0.lending; rmb = has.0.rmb; low = has.0.low; high = has.0.high }, has.1)

new_lent : (s : ℕ) (r : Row) (link : LinkId) (token : ℕ) (d : Desk) → map (λ q. q.place) d.rows ≡ all_places 1 (elements_of d.setup d.side) → first_free d.rows ≡ Some r → HasElement s (record d { rows = map (changes_at r.place (lends s)) d.rows }) (Some (new_route link (next_lending r) token))
new_lent s r link token d places free =
    let among = first_among (elements_of d.setup d.side) d.rows r places free in
    (record { lending = lending_of-lends s d.rows r free; rmb = first_in_one (elements_of d.setup d.side) d.rows r places free; low = among.0; high = among.1 }, tt)

begun_seat : (s : ℕ) (link : LinkId) (r : Row) (live : List LinkId) (m : Manager Half) → first_free m.desk.rows ≡ Some r → IsSeated s m → s < length m.records.by_socket → m.records.tokens < length m.records.by_socket → (m.desk.group == 0) ≡ false → IsSeated s (begun s link live m (next_lending r))
begun_seat s link r live m free seat within tokens group = record {
  set = seat.set;
  terms = seat.terms;
  sockets = seat.sockets;
  records = length-set m.records.by_socket s _ ∙ seat.records;
  buffer = seat.buffer;
  slot = seat.slot;
  places = places_stay r.place (lends s) m.desk.rows (λ q. refl) ∙ seat.places;
  spare = let e = one_less (ledger_of m.desk) r s seat.places free in omega (arith, e, seat.spare);
  epochs = epochs_stay r.place (lends s) m.desk.rows m.records.tokens (m.records.tokens + 1) (omega arith) (λ q old. omega (arith, old)) seat.epochs;
  tokens = subst (λ n. m.records.tokens + 1 ≤ n) (sym (length-set m.records.by_socket s _)) (omega (arith, tokens));
  quiet = seat.quiet;
  room = λ e. absurd (true≢false (sym e ∙ group));
  unconfirmed = seat.unconfirmed;
  confirmed = seat.confirmed;
  live = seat.live;
  suits = λ t other. subst (λ o. Suits (state_at t m) o) (sym (route_elsewhere s t _ m.records other)) (seat.suits t other);
  elements = λ t. elim (cases_eq t s) [
    | inl is ↦ subst (λ n. HasElement n (begun s link live m (next_lending r)).desk (route_at n (begun s link live m (next_lending r)).records)) (sym is) (subst (λ o. HasElement s (begun s link live m (next_lending r)).desk o) (sym here) (new_lent s r link (m.records.tokens + 1) m.desk seat.places free))
    | inr other ↦ subst (λ o. HasElement t (begun s link live m (next_lending r)).desk o) (sym (route_elsewhere s t _ m.records other)) (other_lent s t r m.desk (route_at t m.records) seat.places free (seat.elements t))
  ];
}
  where
    here : route_at s (begun s link live m (next_lending r)).records ≡ Some (new_route link (next_lending r) (m.records.tokens + 1))
    here = ap (option_map (λ (c : Connection Half). c.route)) (get_or-set_same m.records.by_socket s _ None within)

-- the next element is that of the first free one
next_is : (d : Desk) (r : Row) → first_free d.rows ≡ Some r → next_element d ≡ next_lending r
next_is d r free = ap (λ o. unwrap_or (option_map next_lending o) (record { rmb = 0; index = 0; epoch = 0 })) free

pub starts_seat : (s : ℕ) (link : LinkId) (m : Manager Half) → IsSeated s m → s < length m.records.by_socket → m.records.tokens < length m.records.by_socket → 0 < m.records.spare → (m.desk.group == 0) ≡ false → IsSeated s (starts s link m)
starts_seat s link m seat within tokens room group =
    let (r, free) = is_there (first_free m.desk.rows) (some_free m.desk.rows (subst (λ n. 0 < n) seat.spare room)) in
    subst (λ e. IsSeated s (begun s link (live_links m.desk.links.known) m e)) (sym (next_is m.desk r free)) (begun_seat s link r (live_links m.desk.links.known) m free seat within tokens group)

pub starts_route : (s : ℕ) (link : LinkId) (m : Manager Half) → s < length m.records.by_socket → route_at s (starts s link m).records ≡ Some (new_route link (next_element m.desk) (m.records.tokens + 1))
starts_route s link m within = ap (option_map (λ (c : Connection Half). c.route)) (get_or-set_same m.records.by_socket s _ None within)

-- the RMB of the next element is the one
next_rmb : (s : ℕ) (m : Manager Half) → IsSeated s m → 0 < m.records.spare → (next_place m.desk).rmb ≡ 1
next_rmb s m seat room =
    let (r, free) = is_there (first_free m.desk.rows) (some_free m.desk.rows (subst (λ n. 0 < n) seat.spare room)) in
    ap (λ o. (unwrap_or (option_map (λ (q : Row). q.place) o) (record { rmb = 0; index = 0 })).rmb) free ∙ first_in_one (elements_of m.desk.setup m.desk.side) m.desk.rows r seat.places free

first_confirmed : (s : ℕ) (m : Manager Half) → IsSeated s m → m.desk.group ≡ 0 → confirms (next_place m.desk).rmb m.desk.confirmed ≡ 1 ∷ []
first_confirmed s m seat none =
    let before = eq-eqb m.desk.group 0 none in
    ap (λ ns. confirms (next_place m.desk).rmb ns) (seat.unconfirmed before) ∙ ap (λ n. confirms n []) (next_rmb s m seat (seat.room before))

-- a group begins
pub group_seat : (s : ℕ) (link : LinkId) (m : Manager Half) → IsSeated s m → m.desk.group ≡ 0 → (link.group == 0) ≡ false → IsSeated s (with_desk (begins_group s link (next_place m.desk).rmb) m)
group_seat s link m seat none named = with_tables s (begins_group s link (next_place m.desk).rmb m.desk) m table seat
  where
    table : IsTable (begins_group s link (next_place m.desk).rmb m.desk) m.records.spare
    table = record {
      slot = tt;
      quiet = λ e. refl;
      room = λ e. absurd (true≢false (sym e ∙ named));
      unconfirmed = λ e. absurd (true≢false (sym e ∙ named));
      confirmed = λ e. first_confirmed s m seat none;
      live = λ e later. absurd (true≢false later);
    }

-- and its link is made
pub first_seat : (s : ℕ) (link : LinkId) (o : Offer) (m : Manager Half) → IsSeated s m → m.desk.group ≡ 0 → link.slot ≡ 1 → (link.group == 0) ≡ false → IsSeated s (with_desk (λ d. learns_offer link o (makes_link link (begins_group s link (next_place d).rmb d))) m)
first_seat s link o m seat none slot named = with_tables s (learns_offer link o (makes_link link (begins_group s link (next_place m.desk).rmb m.desk))) m table seat
  where
    table : IsTable (learns_offer link o (makes_link link (begins_group s link (next_place m.desk).rmb m.desk))) m.records.spare
    table = record {
      slot = slot;
      quiet = λ e. absurd (true≢false (sym e ∙ named));
      room = λ e. absurd (true≢false (sym e ∙ named));
      unconfirmed = λ e. absurd (true≢false (sym e ∙ named));
      confirmed = λ e. first_confirmed s m seat none;
      live = λ e later. absurd (true≢false later);
    }

-- a key of the peer is learnt
pub learns_seat : (s : ℕ) (link : LinkId) (o : Offer) (m : Manager Half) → IsSeated s m → IsSeated s (with_desk (learns_offer link o) m)
learns_seat s link o m seat = with_tables s (learns_offer link o m.desk) m (record { slot = seat.slot; quiet = seat.quiet; room = seat.room; unconfirmed = seat.unconfirmed; confirmed = seat.confirmed; live = seat.live }) seat

-- nothing is left at a socket whose connection goes
gone : (xs : List (Option (Connection Half))) (s : ℕ) → slice_index_or (slice_set xs s None) s None ≡ None
gone [] s = refl
gone (x ∷ xs) zero = refl
gone (x ∷ xs) (suc s) = gone xs s

-- another's element is at another place
other_stays : (s t : ℕ) (e : Element) (d : Desk) (x : Option Route) → map (λ q. q.place) d.rows ≡ all_places 1 (elements_of d.setup d.side) → lending_of e d.rows ≡ Some (record { conn = s; own = false; peer = false }) → t ≢ s → HasElement t d x → HasElement t (takes_back e d) x
other_stays s t e d None places lent other has = tt
other_stays s t e d (Some x) places lent other has =
    let far : same_place (place_of e) (place_of x.element) ≡ false = apart (ledger_of d) e x.element (record { conn = s; own = false; peer = false }) (record { conn = t; own = false; peer = false }) places lent has.0.lending (λ same. other (sym same)) in
    (record { lending = others_stay (place_of e) freed x.element d.rows (λ q. refl) far ∙ has.0.lending; rmb = has.0.rmb; low = has.0.low; high = has.0.high }, has.1)

left_seat : (s : ℕ) (c : Connection Half) (m : Manager Half) → lending_of c.route.element m.desk.rows ≡ Some (record { conn = s; own = false; peer = false }) → IsSeated s m → IsSeated s (quits_from s (Some c) m)
left_seat s c m lent seat = record {
  set = seat.set;
  terms = seat.terms;
  sockets = seat.sockets;
  records = length-set m.records.by_socket s None ∙ seat.records;
  buffer = seat.buffer;
  slot = seat.slot;
  places = places_stay (place_of c.route.element) freed m.desk.rows (λ q. refl) ∙ seat.places;
  spare = ap (λ n. n + 1) seat.spare ∙ sym (one_more (ledger_of m.desk) c.route.element (record { conn = s; own = false; peer = false }) seat.places lent);
  epochs = epochs_stay (place_of c.route.element) freed m.desk.rows m.records.tokens m.records.tokens (omega arith) (λ q old. old) seat.epochs;
  tokens = subst (λ n. m.records.tokens ≤ n) (sym (length-set m.records.by_socket s None)) seat.tokens;
  quiet = seat.quiet;
  room = λ e. omega arith;
  unconfirmed = seat.unconfirmed;
  confirmed = seat.confirmed;
  live = seat.live;
  suits = λ t other. subst (λ o. Suits (state_at t m) o) (sym (route_elsewhere s t None m.records other)) (seat.suits t other);
  elements = λ t. elim (cases_eq t s) [
    | inl is ↦ subst (λ n. HasElement n (takes_back c.route.element m.desk) (route_at n (leaves s m.records))) (sym is) (subst (λ o. HasElement s (takes_back c.route.element m.desk) o) (sym (ap (option_map (λ (x : Connection Half). x.route)) (gone m.records.by_socket s))) tt)
    | inr other ↦ subst (λ o. HasElement t (takes_back c.route.element m.desk) o) (sym (route_elsewhere s t None m.records other)) (other_stays s t c.route.element m.desk (route_at t m.records) seat.places lent other (seat.elements t))
  ];
}

-- a connection ends, where there is one
pub quits_seat : (s : ℕ) (m : Manager Half) → IsSeated s m → IsSeated s (quits s m)
quits_seat s m seat = by_conn (conn_at s m.records) (seat.elements s)
  where
    by_conn : (o : Option (Connection Half)) → HasElement s m.desk (option_map (λ (x : Connection Half). x.route) o) → IsSeated s (quits_from s o m)
    by_conn None has = seat
    by_conn (Some c) has = left_seat s c m has.0.lending seat

pub quits_route : (s : ℕ) (m : Manager Half) → route_at s (quits s m).records ≡ None
quits_route s m = by_conn (conn_at s m.records) refl
  where
    by_conn : (o : Option (Connection Half)) → conn_at s m.records ≡ o → route_at s (quits_from s o m).records ≡ None
    by_conn None none = ap (option_map (λ (x : Connection Half). x.route)) none
    by_conn (Some c) there = ap (option_map (λ (x : Connection Half). x.route)) (gone m.records.by_socket s)
