-- What a change at one socket leaves at the others.
-- A reader learns here that an end with another state fits where its connection suits that.
use Rattle.std.proofs.Common.{◌≡◌, ◌≢◌, ◌∙◌, ℕ, zero, suc, ◌<◌, ◌≤◌, ◌==◌, true, false, not, List, [], ◌∷◌, length, map, filter, Option, Some, None, IsSome, option_map, All, refl, sym, ap, subst, inl, inr}
use Rattle.std.specs.Prelude.{slice_index_or, slice_set}
use Rattle.std.proofs.lemmas.Bool.{cases_eq}
use Rattle.std.proofs.lemmas.List.{get_or-set_same, get_or-set_other, length-set}
use Rattle.smc_num.specs.Places.{all_places}
use Rattle.smc_num.specs.Links.{first_live}
use Rattle.element_ledger.specs.Lendings.{is_lent}
use Rattle.pipe_model.specs.Words.{elements_of}
use Rattle.pipe_model.specs.Lending.{terms_of}
use Rattle.pipe_model.specs.Flows.{is_first_contact}
use Rattle.pipe_model.specs.Ends.{Half}
use Rattle.clc_handshake.specs.Stages.{Hand}
use Rattle.side_core.specs.declared.route.Route.{Route}
use Rattle.side_core.specs.Records.{Connection, Records, conn_at, route_at, changes}
use Rattle.side_core.specs.Setups.{IsSet}
use Rattle.side_core.specs.Desk.{Desk}
use Rattle.side_core.specs.Manager.{Manager, no_hand, state_at, with_hand}
use Rattle.side_core.specs.Fit.{Suits, HasElement, IsOneSlot, IsOneBuffer, IsFit}

-- all fits together in a manager, but for the state of the end of a socket
pub record IsSeated (s : ℕ) (m : Manager Half) : Type 0 where
  pub set : IsSet m.desk.setup m.desk.side
  pub terms : m.records.terms ≡ terms_of m.desk.setup
  pub sockets : length m.hands ≡ m.desk.setup.sockets
  pub records : length m.records.by_socket ≡ m.desk.setup.sockets
  pub buffer : IsOneBuffer m.desk m.regions
  pub slot : IsOneSlot m.desk.links.known
  pub places : map (λ r. r.place) m.desk.rows ≡ all_places 1 (elements_of m.desk.setup m.desk.side)
  pub spare : m.records.spare ≡ length (filter (λ r. not (is_lent r)) m.desk.rows)
  pub epochs : All (λ r. r.epoch ≤ m.records.tokens) m.desk.rows
  pub tokens : m.records.tokens ≤ length m.records.by_socket
  pub quiet : (m.desk.group == 0) ≡ true → m.desk.links.known ≡ []
  pub room : (m.desk.group == 0) ≡ true → 0 < m.records.spare
  pub unconfirmed : (m.desk.group == 0) ≡ true → m.desk.confirmed ≡ []
  pub confirmed : (m.desk.group == 0) ≡ false → m.desk.confirmed ≡ 1 ∷ []
  pub live : (m.desk.group == 0) ≡ false → is_first_contact m.desk.flow.link ≡ false → IsSome (first_live m.desk.links.known)
  pub suits : (t : ℕ) → t ≢ s → Suits (state_at t m) (route_at t m.records)
  pub elements : (t : ℕ) → HasElement t m.desk (route_at t m.records)

-- what fits, fits at all sockets but one
pub seated : (s : ℕ) (m : Manager Half) → IsFit m → IsSeated s m
seated s m fit = record {
  set = fit.set;
  terms = fit.terms;
  sockets = fit.sockets;
  records = fit.records;
  buffer = fit.buffer;
  slot = fit.slot;
  places = fit.places;
  spare = fit.spare;
  epochs = fit.epochs;
  tokens = fit.tokens;
  quiet = fit.quiet;
  room = fit.room;
  unconfirmed = fit.unconfirmed;
  confirmed = fit.confirmed;
  live = fit.live;
  suits = λ t other. fit.suits t;
  elements = fit.elements;
}

-- and where that one's state suits its connection, all fits
pub sits : (s : ℕ) (h : Hand) (m : Manager Half) → IsSeated s m → s < length m.hands → Suits h.state (route_at s m.records) → IsFit (with_hand s h m)
sits s h m seat within suits = record {
  set = seat.set;
  terms = seat.terms;
  sockets = length-set m.hands s h ∙ seat.sockets;
  records = seat.records;
  buffer = seat.buffer;
  slot = seat.slot;
  places = seat.places;
  spare = seat.spare;
  epochs = seat.epochs;
  tokens = seat.tokens;
  quiet = seat.quiet;
  room = seat.room;
  unconfirmed = seat.unconfirmed;
  confirmed = seat.confirmed;
  live = seat.live;
  suits = λ t. elim (cases_eq t s) [
    | inl is ↦ subst (λ n. Suits (state_at n (with_hand s h m)) (route_at n m.records)) (sym is) (subst (λ (x : Hand). Suits x.state (route_at s m.records)) (sym (get_or-set_same m.hands s h no_hand within)) suits)
    | inr other ↦ subst (λ (x : Hand). Suits x.state (route_at t m.records)) (sym (get_or-set_other m.hands s t h no_hand other)) (seat.suits t other)
  ];
  elements = seat.elements;
}

-- what fits at all sockets but one, and suits there, fits
pub fits : (s : ℕ) (m : Manager Half) → IsSeated s m → Suits (state_at s m) (route_at s m.records) → IsFit m
fits s m seat here = record {
  set = seat.set;
  terms = seat.terms;
  sockets = seat.sockets;
  records = seat.records;
  buffer = seat.buffer;
  slot = seat.slot;
  places = seat.places;
  spare = seat.spare;
  epochs = seat.epochs;
  tokens = seat.tokens;
  quiet = seat.quiet;
  room = seat.room;
  unconfirmed = seat.unconfirmed;
  confirmed = seat.confirmed;
  live = seat.live;
  suits = λ t. elim (cases_eq t s) [
    | inl is ↦ subst (λ n. Suits (state_at n m) (route_at n m.records)) (sym is) here
    | inr other ↦ seat.suits t other
  ];
  elements = seat.elements;
}

-- other records with the same connections at all sockets but one, and elements at that
pub with_records : (s : ℕ) (r : Records Half) (m : Manager Half) → r.terms ≡ m.records.terms → length r.by_socket ≡ length m.records.by_socket → r.tokens ≡ m.records.tokens → r.spare ≡ m.records.spare → ((t : ℕ) → t ≢ s → route_at t r ≡ route_at t m.records) → HasElement s m.desk (route_at s r) → IsSeated s m → IsSeated s (record m { records = r })
with_records s r m terms long tokens spare others here seat = record {
  set = seat.set;
  terms = terms ∙ seat.terms;
  sockets = seat.sockets;
  records = long ∙ seat.records;
  buffer = seat.buffer;
  slot = seat.slot;
  places = seat.places;
  spare = spare ∙ seat.spare;
  epochs = λ k d below. subst (λ n. (slice_index_or m.desk.rows k d).epoch ≤ n) (sym tokens) (seat.epochs k d below);
  tokens = subst (λ n. r.tokens ≤ n) (sym long) (subst (λ n. n ≤ length m.records.by_socket) (sym tokens) seat.tokens);
  quiet = seat.quiet;
  room = λ none. subst (λ n. 0 < n) (sym spare) (seat.room none);
  unconfirmed = seat.unconfirmed;
  confirmed = seat.confirmed;
  live = seat.live;
  suits = λ t other. subst (λ o. Suits (state_at t m) o) (sym (others t other)) (seat.suits t other);
  elements = λ t. elim (cases_eq t s) [
    | inl is ↦ subst (λ n. HasElement n m.desk (route_at n r)) (sym is) here
    | inr other ↦ subst (λ o. HasElement t m.desk o) (sym (others t other)) (seat.elements t)
  ];
}

-- an element is lent by its desk's elements alone
element_stays : (t : ℕ) (d e : Desk) (o : Option Route) → HasElement t e o → HasElement t (record d { side = e.side; setup = e.setup; rows = e.rows }) o
element_stays t d e None has = tt
element_stays t d e (Some r) has = (record { lending = has.0.lending; rmb = has.0.rmb; low = has.0.low; high = has.0.high }, has.1)

-- what holds of the tables of a desk by its group: none before first contact, and later a confirmed RMB and a live link
pub record IsTable (d : Desk) (spare : ℕ) : Type 0 where
  pub slot : IsOneSlot d.links.known
  pub quiet : (d.group == 0) ≡ true → d.links.known ≡ []
  pub room : (d.group == 0) ≡ true → 0 < spare
  pub unconfirmed : (d.group == 0) ≡ true → d.confirmed ≡ []
  pub confirmed : (d.group == 0) ≡ false → d.confirmed ≡ 1 ∷ []
  pub live : (d.group == 0) ≡ false → is_first_contact d.flow.link ≡ false → IsSome (first_live d.links.known)

-- a desk with other tables
pub with_tables : (s : ℕ) (d : Desk) (m : Manager Half) → IsTable d m.records.spare → IsSeated s m → IsSeated s (record m { desk = record d { side = m.desk.side; setup = m.desk.setup; rows = m.desk.rows } })
with_tables s d m table seat = record {
  set = seat.set;
  terms = seat.terms;
  sockets = seat.sockets;
  records = seat.records;
  buffer = seat.buffer;
  slot = table.slot;
  places = seat.places;
  spare = seat.spare;
  epochs = seat.epochs;
  tokens = seat.tokens;
  quiet = table.quiet;
  room = table.room;
  unconfirmed = table.unconfirmed;
  confirmed = table.confirmed;
  live = table.live;
  suits = seat.suits;
  elements = λ t. element_stays t d m.desk (route_at t m.records) (seat.elements t);
}

-- what a socket finds after a change of its own
pub changed_here : {X : Type 0} (f : X → X) (xs : List (Option X)) (s : ℕ) → slice_index_or (slice_set xs s (option_map f (slice_index_or xs s None))) s None ≡ option_map f (slice_index_or xs s None)
changed_here f [] s = refl
changed_here f (x ∷ xs) zero = refl
changed_here f (x ∷ xs) (suc s) = changed_here f xs s

-- the route of the connection that is changed
pub route_changed : (s : ℕ) (f : Connection Half → Connection Half) (g : Route → Route) (r : Records Half) → ((c : Connection Half) → (f c).route ≡ g c.route) → route_at s (changes s f r) ≡ option_map g (route_at s r)
route_changed s f g r says = ap (option_map (λ (c : Connection Half). c.route)) (changed_here f r.by_socket s) ∙ by_conn (conn_at s r)
  where
    by_conn : (o : Option (Connection Half)) → option_map (λ (c : Connection Half). c.route) (option_map f o) ≡ option_map g (option_map (λ (c : Connection Half). c.route) o)
    by_conn None = refl
    by_conn (Some c) = ap Some (says c)

-- and of all others
pub route_elsewhere : (s t : ℕ) (x : Option (Connection Half)) (r : Records Half) → t ≢ s → route_at t (record r { by_socket = slice_set r.by_socket s x }) ≡ route_at t r
route_elsewhere s t x r other = ap (option_map (λ (c : Connection Half). c.route)) (get_or-set_other r.by_socket s t x None other)

-- a change that leaves the route leaves all routes
pub routes_kept : (s t : ℕ) (f : Connection Half → Connection Half) (r : Records Half) → ((c : Connection Half) → (f c).route ≡ c.route) → route_at t (changes s f r) ≡ route_at t r
routes_kept s t f r keeps = elim (cases_eq t s) [
  | inl is ↦ ap (λ n. route_at n (changes s f r)) is ∙ (route_changed s f (λ x. x) r keeps ∙ same (route_at s r)) ∙ ap (λ n. route_at n r) (sym is)
  | inr other ↦ route_elsewhere s t (option_map f (conn_at s r)) r other
]
  where
    same : (o : Option Route) → option_map (λ (x : Route). x) o ≡ o
    same None = refl
    same (Some x) = refl
