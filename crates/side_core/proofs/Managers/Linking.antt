-- The link of the one slot, as it is made and as it goes live.
-- A reader learns here that the ends of a side stay tied to its live links then.
use Rattle.std.proofs.Common.{◌≡◌, ◌∙◌, ℕ, zero, suc, if◌then◌else◌, nat_lt, true, false, cond, List, [], ◌∷◌, map, Option, Some, None, option_map, unwrap_or, refl, sym, ap, subst, true≢false}
use Rattle.std.specs.Prelude.{slice_index_or}
use Rattle.std.proofs.lemmas.Bool.{eq-eqb}
use Rattle.std.proofs.lemmas.List.{length-map}
use Rattle.smc_num.specs.declared.LinkId.{LinkId}
use Rattle.smc_num.specs.declared.LinkPhase.{LinkPhase}
use Rattle.smc_num.specs.declared.LinkPhase.TheVariants.{Unused, Pending, Live as LiveLink, Dead}
use Rattle.smc_num.specs.Links.{Known, is_live, is_standing, link_at, phase_at, live_links, put, set_phase}
use Rattle.pipe_model.specs.declared.flow.FlowStep.{FlowStep}
use Rattle.pipe_model.specs.declared.flow.FlowStep.TheVariants.{Live}
use Rattle.pipe_model.specs.Ends.{Half, with_link, meets_fate}
use Rattle.conn_end.specs.Kept.{Kept}
use Rattle.side_core.specs.Records.{Connection, Records, StandsAt, conn_at}
use Rattle.side_core.specs.Desk.{Desk, makes_link, goes_live, confirmed_by, IsPendingFor}
use Rattle.side_core.specs.Manager.{Manager, Works, Represents, IsTiedAt}
use Rattle.side_core.specs.Acting.{link_lives, confirms_link, confirming_posts, rises_first, hands_after, posts_after}
use Rattle.side_core.specs.Landing.{CanMake}
use Rattle.side_core.specs.Taking.{with_desk}
use Rattle.side_core.specs.Fit.{IsOneSlot}
use Rattle.side_core.proofs.Ends.{works_desk}

-- a link that does not stand is not live
phase_dead : (phase : LinkPhase) → is_standing phase ≡ false → is_live phase ≡ false
phase_dead Unused e = refl
phase_dead Pending e = refl
phase_dead LiveLink e = absurd (true≢false e)
phase_dead Dead e = refl

none_live : (k : Known) → is_live k.phase ≡ false → live_links (k ∷ []) ≡ []
none_live k e = ap (λ b. map (λ (x : Known). x.link) (cond b (k ∷ []) [])) e

phase_one : (k : Known) → k.link.slot ≡ 1 → phase_at 1 (k ∷ []) ≡ k.phase
phase_one k slot = ap (λ b. unwrap_or (option_map (λ (x : Known). x.phase) (cond b (Some k) None)) Unused) (eq-eqb k.link.slot 1 slot)

link_one : (k : Known) → k.link.slot ≡ 1 → link_at 1 (k ∷ []) ≡ Some k.link
link_one k slot = ap (λ b. option_map (λ (x : Known). x.link) (cond b (Some k) None)) (eq-eqb k.link.slot 1 slot)

-- a new link is pending, and takes the place of one that stood no more
put_live : (new : Known) (known : List Known) → new.link.slot ≡ 1 → is_live new.phase ≡ false → IsOneSlot known → is_standing (phase_at 1 known) ≡ false → live_links (put new known) ≡ live_links known
put_live new [] slot pending one none = none_live new pending
put_live new (k ∷ []) slot pending one none =
    ap (λ b. live_links (if b then new ∷ [] else if nat_lt new.link.slot k.link.slot then new ∷ k ∷ [] else k ∷ new ∷ [])) (eq-eqb new.link.slot k.link.slot (slot ∙ sym one))
    ∙ none_live new pending ∙ sym (none_live k (phase_dead k.phase (ap is_standing (sym (phase_one k one)) ∙ none)))
put_live new (k ∷ j ∷ known) slot pending one none = absurd one

-- a link that is made leaves the live ones
pub made_works : (link : LinkId) (d new : Desk) (r : Records Kept) (m : Manager Half) → CanMake link d → IsOneSlot d.links.known → new ≡ makes_link link d → Works d r m → Works new r (with_desk (makes_link link) m)
made_works link d new r m can one is works = works_desk d new r m (makes_link link) is
    (put_live (record { link = link; phase = Pending }) d.links.known can.slot refl one (ap (λ n. is_standing (phase_at n d.links.known)) (sym can.slot) ∙ can.none)) works

-- a pending link goes live, and is the only one
goes_one : (k : Known) (link : LinkId) → k.link.slot ≡ 1 → link ≡ k.link → live_links (set_phase 1 LiveLink (k ∷ [])) ≡ link ∷ []
goes_one k link slot is = ap (λ b. live_links ((if b then record k { phase = LiveLink } else k) ∷ [])) (eq-eqb k.link.slot 1 slot) ∙ ap (λ l. l ∷ []) (sym is)

pending_one : (k : Known) → k.link.slot ≡ 1 → phase_at 1 (k ∷ []) ≡ Pending → live_links (k ∷ []) ≡ []
pending_one k slot pending = none_live k (ap is_live (sym (phase_one k slot) ∙ pending))

-- so each end that knows the live ones knows them then
hears_live : (link : LinkId) (known : List Known) (live : List LinkId) → link.slot ≡ 1 → IsOneSlot known → link_at 1 known ≡ Some link → phase_at 1 known ≡ Pending → live ≡ live_links known → with_link link live ≡ live_links (set_phase 1 LiveLink known)
hears_live link [] live slot one latest pending knows = absurd (let e : None ≡ Some link = latest in cc)
hears_live link (k ∷ []) live slot one latest pending knows =
    ap (with_link link) (knows ∙ pending_one k one pending) ∙ sym (goes_one k link one (let e : Some k.link ≡ Some link = sym (link_one k one) ∙ latest in cc))
hears_live link (k ∷ j ∷ known) live slot one latest pending knows = absurd one

-- the connections that hear of a link
heard_conn : (f : Connection Half → Connection Half) (xs : List (Option (Connection Half))) (t : ℕ) → slice_index_or (map (option_map f) xs) t None ≡ option_map f (slice_index_or xs t None)
heard_conn f [] t = refl
heard_conn f (x ∷ xs) zero = refl
heard_conn f (x ∷ xs) (suc t) = heard_conn f xs t

-- an end that hears of a link stands for the same
stands_heard : (link : LinkId) (k : Option (Connection Kept)) (c : Option (Connection Half)) → StandsAt k c → StandsAt k (option_map (λ (x : Connection Half). let y : Connection Half = record x { end = meets_fate link LiveLink x.end } in y) c)
stands_heard link None None stands = stands
stands_heard link None (Some c) stands = absurd stands
stands_heard link (Some k) None stands = absurd stands
stands_heard link (Some k) (Some c) stands = record { route = stands.route; up = stands.up; link = stands.link; end = stands.end }

tied_heard : (link : LinkId) (known : List Known) (c : Option (Connection Half)) → link.slot ≡ 1 → IsOneSlot known → link_at 1 known ≡ Some link → phase_at 1 known ≡ Pending → IsTiedAt known c → IsTiedAt (set_phase 1 LiveLink known) (option_map (λ (x : Connection Half). let y : Connection Half = record x { end = meets_fate link LiveLink x.end } in y) c)
tied_heard link known None slot one latest pending tied = tied
tied_heard link known (Some c) slot one latest pending tied = record { live = hears_live link known c.end.live slot one latest pending tied.live }

-- a side whose link goes live
pub lives_works : (link : LinkId) (d : Desk) (r : Records Kept) (m : Manager Half) → link.slot ≡ 1 → IsOneSlot d.links.known → link_at link.slot d.links.known ≡ Some link → phase_at link.slot d.links.known ≡ Pending → Works d r m → Works (goes_live link.slot d) r (link_lives link m)
lives_works link d r m slot one latest pending works = record {
  desk = ap (goes_live link.slot) works.desk;
  records = record {
    terms = works.records.terms;
    tokens = works.records.tokens;
    spare = works.records.spare;
    sockets = works.records.sockets ∙ sym (length-map m.records.by_socket _);
    each = λ t. subst (λ o. StandsAt (conn_at t r) o) (sym (heard_conn _ m.records.by_socket t)) (stands_heard link (conn_at t r) (conn_at t m.records) (works.records.each t));
    sizes = works.records.sizes;
  };
  tied = λ t. subst (λ o. IsTiedAt (set_phase link.slot LiveLink m.desk.links.known) o) (sym (heard_conn _ m.records.by_socket t))
      (subst (λ n. IsTiedAt (set_phase n LiveLink m.desk.links.known) (option_map (λ (x : Connection Half). let y : Connection Half = record x { end = meets_fate link LiveLink x.end } in y) (conn_at t m.records))) (sym slot)
      (tied_heard link m.desk.links.known (conn_at t m.records) slot (subst (λ (e : Desk). IsOneSlot e.links.known) works.desk one)
      (subst (λ n. link_at n m.desk.links.known ≡ Some link) slot (subst (λ (e : Desk). link_at link.slot e.links.known ≡ Some link) works.desk latest))
      (subst (λ n. phase_at n m.desk.links.known ≡ Pending) slot (subst (λ (e : Desk). phase_at link.slot e.links.known ≡ Pending) works.desk pending)) (works.tied t)));
}

-- the manager whose link a step has confirmed, before any end is established by it
abbrev pub heard_by : FlowStep → LinkId → Manager Half → Manager Half
heard_by (Live reply first) link m = link_lives link m
heard_by _ link m = m

pub heard_works : (step : FlowStep) (link : LinkId) (d : Desk) (r : Records Kept) (m : Manager Half) → link.slot ≡ 1 → IsOneSlot d.links.known → link_at link.slot d.links.known ≡ Some link → IsPendingFor step link.slot d.links.known → Works d r m → Works (confirmed_by step link.slot d) r (heard_by step link m)
heard_works (Live reply first) link d r m slot one latest pending works = lives_works link d r m slot one latest pending works
heard_works step link d r m slot one latest pending works = works

-- the manager after the step
pub confirmed_stands : (step : FlowStep) (link : LinkId) (v w : Manager Kept) (m : Manager Half) → Represents v m → Works w.desk w.records (rises_first step (heard_by step link m)) → w.hands ≡ hands_after step v.desk.first v.hands → w.regions ≡ v.regions → Represents w (confirms_link step link m)
confirmed_stands (Live reply true) link v w m stands works hands regions = record {
  works = record { desk = works.desk; records = works.records; tied = works.tied };
  hands = hands ∙ ap (λ hs. hands_after (Live reply true) v.desk.first hs) stands.hands ∙ ap (λ (d : Desk). hands_after (Live reply true) d.first m.hands) stands.works.desk;
  regions = regions ∙ stands.regions;
}
confirmed_stands (Live reply false) link v w m stands works hands regions = record { works = works; hands = hands ∙ stands.hands; regions = regions ∙ stands.regions }
confirmed_stands step link v w m stands works hands regions = record { works = works; hands = hands ∙ stands.hands; regions = regions ∙ stands.regions }

-- and what it posts
pub confirmed_posts : (step : FlowStep) (link : LinkId) (m : Manager Half) → posts_after step link (heard_by step link m) ≡ confirming_posts step link m
confirmed_posts (Live reply first) link m = refl
confirmed_posts step link m = refl
