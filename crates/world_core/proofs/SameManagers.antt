-- What a manager looks at in the past: where two histories show the same, it keeps the same, and where they show the same but
-- for one end, just that end differs.
use Rattle.std.proofs.Common.{◌≡◌, ◌∙◌, ℕ, Bool, List, length, map, filter, refl, ap, if◌then◌else◌}
use Rattle.std.specs.Prelude.{Option, Some, None, option_map, unwrap_or}
use Rattle.smc_num.specs.declared.Side.{Side}
use Rattle.smc_num.specs.declared.LinkId.{LinkId}
use Rattle.smc_num.specs.Names.{at_side, no_link, up_to, other}
use Rattle.smc_num.specs.Places.{all_places, is_free}
use Rattle.clc_wire.specs.declared.offer.Offer.{Offer}
use Rattle.element_ledger.specs.Lendings.{Row}
use Rattle.pipe_model.specs.declared.setup.Setup.{Setup}
use Rattle.pipe_model.specs.declared.entry.Entry.{Entry}
use Rattle.pipe_model.specs.Words.{rmbs_of, elements_of}
use Rattle.pipe_model.specs.Fabric.{Fabric, fabric, peer, made_on}
use Rattle.pipe_model.specs.Ends.{Half}
use Rattle.pipe_model.specs.Connections.{named_link, is_up, end_state}
use Rattle.pipe_model.specs.Lending.{Lending, lendings, lent, lent_places, free_places}
use Rattle.pipe_model.specs.Fallback.{is_raw}
use Rattle.pipe_model.specs.Keys.{Keys, keys_of, book_of}
use Rattle.pipe_model.specs.Messages.{serial, pair_on}
use Rattle.pipe_model.specs.Posts.{groups_begun}
use Rattle.smc_num.specs.Keys.{Key}
use Rattle.clc_handshake.specs.Stages.{Hand}
use Rattle.side_core.specs.declared.route.Route.{Route}
use Rattle.side_core.specs.Records.{Connection}
use Rattle.side_core.specs.Desk.{Desk, most_slots}
use Rattle.world_core.specs.Managers.{desk_of, hand_of, conn_of, end_of, rows_of, row_of, first_on, heard_on, epoch_in, lending_on, awaits_confirm}
use Rattle.pipe_model.specs.History.{Offered, offered}

-- two histories show the same of what the desk of a side looks at
pub record SameDesk (setup : Setup) (payload : List ℕ) (x : Side) (one two : List Entry) : Type 0 where
  pub fabric_is : fabric one ≡ fabric two
  pub groups : groups_begun one ≡ groups_begun two
  pub pairs : map (λ k. pair_on x k one) (up_to most_slots) ≡ map (λ k. pair_on x k two) (up_to most_slots)
  pub serial_is : serial x one ≡ serial x two
  pub keys : keys_of x one ≡ keys_of x two
  pub book : book_of x one ≡ book_of x two
  pub all : lendings x one ≡ lendings x two
  pub lent_is : lent setup payload x one ≡ lent setup payload x two
  pub first : first_on x one ≡ first_on x two

-- a desk of these parts
abbrev pub desk_from : Setup → Side → Fabric → ℕ → List ℕ → ℕ → Keys → List Key → List Row → ℕ → Desk
desk_from setup x f groups pairs number ks book rows first = record {
  side = x;
  setup = setup;
  group = (peer x f).group;
  begun = at_side x 0 groups;
  links = record { slots = setup.links; known = (peer x f).table; made = map (λ k. made_on k f) (up_to setup.links) };
  flow = (peer x f).flow;
  pairs = pairs;
  serial = number;
  keys = ks.keys;
  confirmed = ks.confirmed;
  book = book;
  rows = rows;
  first = first;
}

-- the rows of these lendings
abbrev pub rows_from : Setup → Side → List Lending → List Lending → List Row
rows_from setup x all lent_now = map (row_of all lent_now) (all_places (rmbs_of setup x) (elements_of setup x))

module _ (setup : Setup) (payload : List ℕ) (x : Side) (one two : List Entry) where
  pub same-rows : SameDesk setup payload x one two → rows_of setup payload x one ≡ rows_of setup payload x two
  same-rows s = ap (λ (all : List Lending). rows_from setup x all (lent setup payload x one)) s.all ∙ ap (λ (now : List Lending). rows_from setup x (lendings x two) now) s.lent_is

  pub same-desk : SameDesk setup payload x one two → desk_of setup payload x one ≡ desk_of setup payload x two
  same-desk s =
      ap (λ f. desk_from setup x f (groups_begun one) (map (λ k. pair_on x k one) (up_to most_slots)) (serial x one) (keys_of x one) (book_of x one) (rows_of setup payload x one) (first_on x one)) s.fabric_is
      ∙ (ap (λ n. desk_from setup x (fabric two) n (map (λ k. pair_on x k one) (up_to most_slots)) (serial x one) (keys_of x one) (book_of x one) (rows_of setup payload x one) (first_on x one)) s.groups
      ∙ (ap (λ (ns : List ℕ). desk_from setup x (fabric two) (groups_begun two) ns (serial x one) (keys_of x one) (book_of x one) (rows_of setup payload x one) (first_on x one)) s.pairs
      ∙ (ap (λ n. desk_from setup x (fabric two) (groups_begun two) (map (λ k. pair_on x k two) (up_to most_slots)) n (keys_of x one) (book_of x one) (rows_of setup payload x one) (first_on x one)) s.serial_is
      ∙ (ap (λ ks. desk_from setup x (fabric two) (groups_begun two) (map (λ k. pair_on x k two) (up_to most_slots)) (serial x two) ks (book_of x one) (rows_of setup payload x one) (first_on x one)) s.keys
      ∙ (ap (λ (b : List Key). desk_from setup x (fabric two) (groups_begun two) (map (λ k. pair_on x k two) (up_to most_slots)) (serial x two) (keys_of x two) b (rows_of setup payload x one) (first_on x one)) s.book
      ∙ (ap (λ (rs : List Row). desk_from setup x (fabric two) (groups_begun two) (map (λ k. pair_on x k two) (up_to most_slots)) (serial x two) (keys_of x two) (book_of x two) rs (first_on x one)) (same-rows s)
      ∙ ap (λ n. desk_from setup x (fabric two) (groups_begun two) (map (λ k. pair_on x k two) (up_to most_slots)) (serial x two) (keys_of x two) (book_of x two) (rows_of setup payload x two) n) s.first))))))

-- two histories show the same of the route of a socket's connection
pub record SameRoute (x : Side) (one two : List Entry) (s : ℕ) : Type 0 where
  pub up : is_up x s one ≡ is_up x s two
  pub link : named_link s one ≡ named_link s two
  pub heard : heard_on x s one ≡ heard_on x s two

-- and of its handshake
pub record SameSocket (x : Side) (one two : List Entry) (s : ℕ) : Type 0 where
  pub raw : is_raw s one ≡ is_raw s two
  pub state : end_state x s one ≡ end_state x s two
  pub route : SameRoute x one two s

pub hand-same : (x : Side) (one two : List Entry) (s : ℕ) → is_raw s one ≡ is_raw s two → end_state x s one ≡ end_state x s two → hand_of x one s ≡ hand_of x two s
hand-same x one two s raw state =
    ap (λ b. let h : Hand = record { raw = b; state = end_state x s one } in h) raw
    ∙ ap (λ e. let h : Hand = record { raw = is_raw s two; state = e } in h) state

pub same-hand : (x : Side) (one two : List Entry) (s : ℕ) → SameSocket x one two s → hand_of x one s ≡ hand_of x two s
same-hand x one two s same = hand-same x one two s same.raw same.state

-- what an end has heard is its peer's offer, as long as it may have heard it
pub heard-same : (x : Side) (one two : List Entry) (s : ℕ) → end_state x s one ≡ end_state x s two → offered (other x) s one ≡ offered (other x) s two → heard_on x s one ≡ heard_on x s two
heard-same x one two s state offer =
    ap (λ st. if awaits_confirm st then None else option_map (λ (p : Offered). p.offer) (offered (other x) s one)) state
    ∙ ap (λ q. if awaits_confirm (end_state x s two) then None else option_map (λ (p : Offered). p.offer) q) offer

-- a route of these parts
abbrev pub route_from : Option LinkId → Bool → List Lending → Option Offer → Lending → Route
route_from link up all heard l = record {
  link = unwrap_or link no_link;
  up = up;
  element = record { rmb = l.place.rmb; index = l.place.index; epoch = epoch_in l.place all };
  token = l.token;
  peer = heard;
}

-- a connection of these parts
abbrev pub conn_from : ℕ → Option LinkId → Bool → List Lending → Option Offer → Half → List Lending → Option (Connection Half)
conn_from s link up all heard end lent_now =
    option_map (λ l. let c : Connection Half = record { route = route_from link up all heard l; end = end } in c) (lending_on s lent_now)

module _ (setup : Setup) (payload : List ℕ) (x : Side) (one two : List Entry) where
  -- all but its lending and its end
  pub routed-conn : (s : ℕ) → SameRoute x one two s
      → conn_of setup payload x one s ≡ conn_from s (named_link s two) (is_up x s two) (lendings x one) (heard_on x s two) (end_of setup payload x s one) (lent setup payload x one)
  routed-conn s same =
      ap (λ o. conn_from s o (is_up x s one) (lendings x one) (heard_on x s one) (end_of setup payload x s one) (lent setup payload x one)) same.link
      ∙ (ap (λ b. conn_from s (named_link s two) b (lendings x one) (heard_on x s one) (end_of setup payload x s one) (lent setup payload x one)) same.up
      ∙ ap (λ (o : Option Offer). conn_from s (named_link s two) (is_up x s two) (lendings x one) o (end_of setup payload x s one) (lent setup payload x one)) same.heard)

  -- all but the end
  moved-conn : (s : ℕ) → SameRoute x one two s → lendings x one ≡ lendings x two → lent setup payload x one ≡ lent setup payload x two
      → conn_of setup payload x one s ≡ conn_from s (named_link s two) (is_up x s two) (lendings x two) (heard_on x s two) (end_of setup payload x s one) (lent setup payload x two)
  moved-conn s same all now =
      routed-conn s same
      ∙ (ap (λ (ls : List Lending). conn_from s (named_link s two) (is_up x s two) ls (heard_on x s two) (end_of setup payload x s one) (lent setup payload x one)) all
      ∙ ap (λ (ls : List Lending). conn_from s (named_link s two) (is_up x s two) (lendings x two) (heard_on x s two) (end_of setup payload x s one) ls) now)

  pub same-conn : (s : ℕ) → SameRoute x one two s → lendings x one ≡ lendings x two → lent setup payload x one ≡ lent setup payload x two
      → end_of setup payload x s one ≡ end_of setup payload x s two → conn_of setup payload x one s ≡ conn_of setup payload x two s
  same-conn s same all now end =
      moved-conn s same all now
      ∙ ap (λ h. conn_from s (named_link s two) (is_up x s two) (lendings x two) (heard_on x s two) h (lent setup payload x two)) end

  -- the end has changed
  changed-end : (s : ℕ) (act : Half → Half) (link : Option LinkId) (up : Bool) (all : List Lending) (heard : Option Offer) (h : Half) (found : Option Lending)
      → option_map (λ l. let c : Connection Half = record { route = route_from link up all heard l; end = act h } in c) found
      ≡ option_map (λ (c : Connection Half). let k : Connection Half = record c { end = act c.end } in k) (option_map (λ l. let c : Connection Half = record { route = route_from link up all heard l; end = h } in c) found)
  changed-end s act link up all heard h None = refl
  changed-end s act link up all heard h (Some l) = refl

  pub acted-conn : (s : ℕ) (act : Half → Half) → SameRoute x one two s → lendings x one ≡ lendings x two → lent setup payload x one ≡ lent setup payload x two
      → end_of setup payload x s one ≡ act (end_of setup payload x s two)
      → conn_of setup payload x one s ≡ option_map (λ (c : Connection Half). let k : Connection Half = record c { end = act c.end } in k) (conn_of setup payload x two s)
  acted-conn s act same all now end =
      moved-conn s same all now
      ∙ (ap (λ h. conn_from s (named_link s two) (is_up x s two) (lendings x two) (heard_on x s two) h (lent setup payload x two)) end
      ∙ changed-end s act (named_link s two) (is_up x s two) (lendings x two) (heard_on x s two) (end_of setup payload x s two) (lending_on s (lent setup payload x two)))

  -- the counts
  pub same-spare : lent setup payload x one ≡ lent setup payload x two → length (free_places setup payload x one) ≡ length (free_places setup payload x two)
  same-spare now = ap (λ (ls : List Lending). length (filter (is_free (lent_places ls)) (all_places (rmbs_of setup x) (elements_of setup x)))) now
