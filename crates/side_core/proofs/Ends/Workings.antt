-- What a change of the desk or of the connections leaves of a side that works.
-- A reader learns here that the ends stay tied to the live links of their side.
use Rattle.std.proofs.Common.{true≢false, inl, inr, ℕ, ◌≡◌, ◌∙◌, ◌<◌, Bool, true, false, cond, List, length, set, Option, Some, None, option_map, refl, sym, ap, subst}
use Rattle.std.specs.Prelude.{IsSome, IsSomeAnd}
use Rattle.std.proofs.Math.ListN.{get_or}
use Rattle.std.proofs.lemmas.Bool.{cases_eq}
use Rattle.std.proofs.lemmas.List.{get_or-set_same, get_or-set_other}
use Rattle.smc_num.specs.declared.LinkId.{LinkId}
use Rattle.smc_num.specs.Links.{Known, live_links}
use Rattle.clc_wire.specs.declared.offer.Offer.{Offer}
use Rattle.element_ledger.specs.declared.Element.{Element}
use Rattle.pipe_model.specs.Ends.{Half, is_due, settle, posts_batch, comes_up}
use Rattle.conn_end.specs.Kept.{Kept}
use Rattle.side_core.specs.declared.route.Route.{Route}
use Rattle.side_core.proofs.Ends.Standing.{there_within}
use Rattle.side_core.specs.Records.{Connection, Records, AllStand, conn_at, route_at, changes, begins, aims, rises}
use Rattle.side_core.specs.Desk.{Desk, next_element, lends_next}
use Rattle.side_core.specs.Manager.{Manager, Works, IsTiedAt}
use Rattle.side_core.specs.Taking.{with_desk, starts, hears, rises_at}

-- one place of a list becomes another one, and what holds of each place still does
pub each_of : {X : Type 0} (P : Option X → Type 0) (xs : List (Option X)) (s : ℕ) (x : Option X) → s < length xs → ((t : ℕ) → P (get_or xs t None)) → P x → (t : ℕ) → P (get_or (set xs s x) t None)
each_of P xs s x within each new t = elim (cases_eq t s) [
  | inl is ↦ subst P (sym (ap (λ n. get_or (set xs s x) n None) is ∙ get_or-set_same xs s x None within)) new
  | inr differs ↦ subst P (sym (get_or-set_other xs s t x None differs)) (each t)
]

-- posting what is due changes no link
pub settle_live : (depth : ℕ) (h : Half) → (settle depth h).live ≡ h.live
settle_live depth h = by_due (is_due depth h)
  where
    by_due : (b : Bool) → (cond b (posts_batch h) h).live ≡ h.live
    by_due true = refl
    by_due false = refl

-- a change of one connection that leaves its live links leaves all tied
pub tied_changes : (known : List Known) (r : Records Half) (s : ℕ) (f : Connection Half → Connection Half) → s < length r.by_socket
    → ((c : Connection Half) → (f c).end.live ≡ c.end.live) → ((t : ℕ) → IsTiedAt known (conn_at t r)) → (t : ℕ) → IsTiedAt known (conn_at t (changes s f r))
tied_changes known r s f within same tied = each_of (IsTiedAt known) r.by_socket s (option_map f (conn_at s r)) within tied (mapped (conn_at s r) (tied s))
  where
    mapped : (o : Option (Connection Half)) → IsTiedAt known o → IsTiedAt known (option_map f o)
    mapped None t = _
    mapped (Some c) t = record { live = same c ∙ t.live }

-- a desk that changes no live link
pub works_desk : (d new : Desk) (r : Records Kept) (m : Manager Half) (change : Desk → Desk) → new ≡ change d
    → live_links (change d).links.known ≡ live_links d.links.known → Works d r m → Works new r (with_desk change m)
works_desk d new r m change is same works = record {
  desk = is ∙ ap change works.desk;
  records = works.records;
  tied = λ t. carried (conn_at t m.records) (works.tied t);
}
  where
    same_here : live_links (change m.desk).links.known ≡ live_links m.desk.links.known
    same_here = subst (λ x. live_links (change x).links.known ≡ live_links x.links.known) works.desk same

    carried : (o : Option (Connection Half)) → IsTiedAt m.desk.links.known o → IsTiedAt (change m.desk).links.known o
    carried None t = _
    carried (Some c) t = record { live = t.live ∙ sym same_here }

-- a new connection starts
pub works_start : (d new : Desk) (r w : Records Kept) (m : Manager Half) (s : ℕ) (link : LinkId) (e : Element) → s < length r.by_socket → e ≡ next_element d → new ≡ lends_next s d
    → ((rh : Records Half) (live : List LinkId) → AllStand r rh → AllStand w (begins s link e live rh)) → Works d r m → Works new w (starts s link m)
works_start d new r w m s link e within is lent begun works = record {
  desk = lent ∙ ap (lends_next s) works.desk;
  records = subst (λ x. AllStand w (begins s link x (live_links m.desk.links.known) m.records)) (is ∙ ap next_element works.desk) (begun m.records (live_links m.desk.links.known) works.records);
  tied = each_of (IsTiedAt m.desk.links.known) m.records.by_socket s _ (subst (λ n. s < n) works.records.sockets within) works.tied (record { live = refl });
}

-- a connection learns what the peer offers
pub works_hears : (d : Desk) (r w : Records Kept) (m : Manager Half) (s : ℕ) (o : Offer) → s < length r.by_socket
    → ((rh : Records Half) → AllStand r rh → AllStand w (aims s o rh)) → Works d r m → Works d w (hears s o m)
works_hears d r w m s o within aimed works = record {
  desk = works.desk;
  records = aimed m.records works.records;
  tied = tied_changes m.desk.links.known m.records s _ (subst (λ n. s < n) works.records.sockets within) (λ c. refl) works.tied;
}

-- a connection is established
pub works_rises : (d : Desk) (r w : Records Kept) (m : Manager Half) (s : ℕ) → s < length r.by_socket → AllStand w (rises s m.records) → Works d r m → Works d w (rises_at s m)
works_rises d r w m s within risen works = record {
  desk = works.desk;
  records = risen;
  tied = tied_changes m.desk.links.known m.records s _ (subst (λ n. s < n) works.records.sockets within) (λ c. settle_live m.records.terms.depth (comes_up c.route.link c.end)) works.tied;
}

-- a socket with a route is in range
pub route_within : {E : Type 0} (s : ℕ) (r : Records E) (route : Route) → route_at s r ≡ Some route → s < length r.by_socket
route_within {E = E} s r route is = within (get_or r.by_socket s None) refl is
  where
    within : (o : Option (Connection E)) → get_or r.by_socket s None ≡ o → option_map (λ c. c.route) o ≡ Some route → s < length r.by_socket
    within None e f = absurd (let g : None ≡ Some route = f in cc)
    within (Some k) e f = there_within r.by_socket s k e

-- and so is one with a route of some kind
pub some_there : (s : ℕ) (r : Records Kept) (P : Route → Type 0) → IsSomeAnd (route_at s r) P → IsSome (conn_at s r)
some_there s r P some = at (conn_at s r) some
  where
    at : (o : Option (Connection Kept)) → IsSomeAnd (option_map (λ c. c.route) o) P → IsSome o
    at None none = absurd none
    at (Some k) holds = refl

pub some_within : (s : ℕ) (r : Records Kept) → IsSome (conn_at s r) → s < length r.by_socket
some_within s r some = at (conn_at s r) refl some
  where
    at : (o : Option (Connection Kept)) → conn_at s r ≡ o → IsSome o → s < length r.by_socket
    at None e none = absurd (true≢false (sym none))
    at (Some k) e holds = there_within r.by_socket s k e
