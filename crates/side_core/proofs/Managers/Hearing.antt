-- A connection that has started, and one that has heard its peer's offer.
-- A reader learns here what is then known of the record that a socket has.
use Rattle.std.proofs.Common.{ℕ, ◌≡◌, ◌∙◌, ◌<◌, ◌≤◌, ◌+◌, ◌^◌, ◌==◌, Bool, true, false, cond, List, length, set, Option, Some, None, option_map, is_some, unwrap_or, refl, sym, ap, subst, arith, true≢false}
use Rattle.std.specs.Prelude.{IsSome, IsSomeAnd}
use Rattle.std.specs.List.{position_or_len}
use Rattle.std.proofs.lemmas.List.{get_or-set_same, length-set}
use Rattle.std.proofs.lemmas.List.Folds.{position_or_len-set}
use Rattle.smc_num.specs.declared.LinkId.{LinkId}
use Rattle.smc_num.specs.Names.{has_link, no_link}
use Rattle.smc_num.specs.Links.{live_links}
use Rattle.smc_num.specs.Places.{rmb_at}
use Rattle.clc_wire.specs.declared.offer.Offer.{Offer}
use Rattle.element_ledger.specs.declared.Element.{Element}
use Rattle.pipe_model.specs.Ends.{Half, comes_up, fresh}
use Rattle.conn_end.specs.Kept.{Kept, Represents as EndStands}
use Rattle.side_core.specs.declared.route.Route.{Route}
use Rattle.side_core.specs.declared.route.Way.{Way}
use Rattle.side_core.specs.Taking.{starts, hears}
use Rattle.side_core.proofs.Managers.Allowed.{aimers_same}
use Rattle.side_core.proofs.Sockets.{changed_here}
use Rattle.side_core.specs.Records.{new_route, Connection, Records, AllStand, Stands, StandsAt, conn_at, route_at, link_at, aimer, is_aimed_at, begins, aims, IsSmall}
use Rattle.side_core.specs.Posting.{IsWay, posts_at, due_posts}
use Rattle.side_core.specs.Desk.{Desk, next_element}
use Rattle.side_core.specs.Manager.{Manager, Works, IsTiedAt}
use Rattle.side_core.specs.Acting.{way_of, key_to, risen_at, risen_from, IsSound, IsSoundAt}

-- what stands for a plain connection is there
pub record IsThere (o : Option (Connection Kept)) (c : Connection Half) : Type 0 where
  pub kept : Connection Kept
  pub is : o ≡ Some kept
  pub stands : Stands kept c

pub there : (o : Option (Connection Kept)) (p : Option (Connection Half)) (c : Connection Half) → StandsAt o p → p ≡ Some c → IsThere o c
there o p c stands is = at o (subst (StandsAt o) is stands)
  where
    at : (q : Option (Connection Kept)) → StandsAt q (Some c) → IsThere q c
    at None s = absurd s
    at (Some k) s = record { kept = k; is = refl; stands = s }

-- and what has such a route has a plain connection
pub record HasPlain (p : Option (Connection Half)) (route : Route) : Type 0 where
  pub conn : Connection Half
  pub is : p ≡ Some conn
  pub route_is : conn.route ≡ route

pub has_plain : (o : Option (Connection Kept)) (p : Option (Connection Half)) (route : Route) → StandsAt o p → option_map (λ k. k.route) o ≡ Some route → HasPlain p route
has_plain None p route stands is = absurd (let e : None ≡ Some route = is in cc)
has_plain (Some k) None route stands is = absurd stands
has_plain (Some k) (Some c) route stands is = record { conn = c; is = refl; route_is = sym stands.route ∙ (let e : k.route ≡ route = cc in e) }

-- a new connection is aimed at nothing
pub aimer_begun : (token s : ℕ) (link : LinkId) (e : Element) (live : List LinkId) (p : Records Half) → conn_at s p ≡ None → aimer token (begins s link e live p) ≡ aimer token p
aimer_begun token s link e live p none =
    let same = position_or_len-set (is_aimed_at token) p.by_socket s (begins_at) None (sym (ap (is_aimed_at token) none)) in
    ap (λ n. cond (Rattle.std.proofs.Common.nat_lt n (length (begins s link e live p).by_socket)) (Some n) None) same
    ∙ ap (λ n. cond (Rattle.std.proofs.Common.nat_lt (position_or_len (is_aimed_at token) p.by_socket) n) (Some (position_or_len (is_aimed_at token) p.by_socket)) None) (length-set p.by_socket s begins_at)
  where
    begins_at : Option (Connection Half)
    begins_at = Some (record { route = Rattle.side_core.specs.Records.new_route link e (p.tokens + 1); end = record (Rattle.pipe_model.specs.Ends.fresh p.terms.number) { live = live } })

-- the connection of a socket as its end is established
pub record IsRising (s : ℕ) (d : Desk) (r : Records Kept) (m : Manager Half) (route : Route) (way : Way) : Type 0 where
  pub way_is : IsWay (comes_up (link_at s r)) way (conn_at s m.records)
  pub posts : posts_at s (comes_up (link_at s r)) way m.records (conn_at s m.records) ≡ risen_at s m

-- its route as it is then
abbrev pub risen : Route → Route
risen route = record route { up = true }

pub rising : (s : ℕ) (d : Desk) (r : Records Kept) (m : Manager Half) (route : Route) (way : Way) → Works d r m → route_at s r ≡ Some route → way ≡ way_of d (risen route) → IsRising s d r m route way
rising s d r m route way works is way_is = at (has_plain (conn_at s r) (conn_at s m.records) route (works.records.each s) is)
  where
    link : link_at s r ≡ route.link
    link = named (conn_at s r) is
      where
        named : (o : Option (Connection Kept)) → option_map (λ k. k.route) o ≡ Some route → unwrap_or (option_map (λ k. k.route.link) o) no_link ≡ route.link
        named None e = absurd (let f : None ≡ Some route = e in cc)
        named (Some k) e = ap (λ q. q.link) (let f : k.route ≡ route = cc in f)

    at : HasPlain (conn_at s m.records) route → IsRising s d r m route way
    at found =
        let live : found.conn.end.live ≡ live_links m.desk.links.known = (subst (IsTiedAt m.desk.links.known) found.is (works.tied s)).live in
        record {
          way_is = subst (IsWay (comes_up (link_at s r)) way) (sym found.is)
              (ap (λ w. w.live) way_is ∙ ap (λ x. has_link route.link (live_links x.links.known)) works.desk ∙ ap (has_link route.link) (sym live)
              ∙ ap (λ l. has_link l found.conn.end.live) (sym link));
          posts = ap (λ o. posts_at s (comes_up (link_at s r)) way m.records o) found.is
              ∙ ap (λ l. due_posts m.records.terms.size m.records.terms.depth way.side way.key found.conn.route.peer (comes_up l found.conn.end)) (link ∙ ap (λ q. q.link) (sym found.route_is))
              ∙ ap (λ w. due_posts m.records.terms.size m.records.terms.depth w.side w.key found.conn.route.peer (comes_up found.conn.route.link found.conn.end)) way_is
              ∙ ap (λ x. due_posts m.records.terms.size m.records.terms.depth x.side (key_to x route.link route.peer) found.conn.route.peer (comes_up found.conn.route.link found.conn.end)) works.desk
              ∙ ap (λ q. due_posts m.records.terms.size m.records.terms.depth m.desk.side (key_to m.desk q.link q.peer) found.conn.route.peer (comes_up found.conn.route.link found.conn.end)) (sym found.route_is)
              ∙ ap (risen_from m) (sym found.is);
        }

-- where there is nothing, the plain records have nothing either
pub none_plain : (o : Option (Connection Kept)) (p : Option (Connection Half)) → StandsAt o p → o ≡ None → p ≡ None
none_plain None None stands is = refl
none_plain None (Some c) stands is = absurd stands
none_plain (Some k) p stands is = absurd (let e : Some k ≡ None = is in cc)

-- the plain connection that starts
abbrev pub begun_at : ℕ → LinkId → Manager Half → Connection Half
begun_at s link m = record { route = new_route link (next_element m.desk) (m.records.tokens + 1); end = record (fresh m.records.terms.number) { live = live_links m.desk.links.known } }

-- and what it is once it has heard the peer's offer
abbrev pub heard_at : ℕ → LinkId → Offer → Manager Half → Connection Half
heard_at s link o m = let c : Connection Half = begun_at s link m in record c { route = record c.route { peer = Some o } }

pub heard_is : (s : ℕ) (link : LinkId) (o : Offer) (m : Manager Half) → s < length m.records.by_socket → conn_at s (hears s o (starts s link m)).records ≡ Some (heard_at s link o m)
heard_is s link o m within =
    changed_here (λ c. record c { route = record c.route { peer = Some o } }) (starts s link m).records.by_socket s
    ∙ ap (option_map (λ (c : Connection Half). let k : Connection Half = record c { route = record c.route { peer = Some o } } in k)) (get_or-set_same m.records.by_socket s (Some (begun_at s link m)) None within)

-- what is known of the records as a connection has started
pub record IsStarted (s token : ℕ) (r w : Records Kept) : Type 0 where
  pub there_is : IsSome (conn_at s w)
  pub alone : aimer token w ≡ None
  pub sockets : length w.by_socket ≡ length r.by_socket

pub started_facts : (s token : ℕ) (link : LinkId) (r w : Records Kept) (m : Manager Half) → AllStand r m.records → conn_at s r ≡ None → s < length r.by_socket → aimer token r ≡ None
    → AllStand w (starts s link m).records → IsStarted s token r w
started_facts s token link r w m all none within alone started =
    let new = begun_at s link m in
    let in_plain : s < length m.records.by_socket = subst (λ n. s < n) all.sockets within in
    let found = there (conn_at s w) (conn_at s (starts s link m).records) new (started.each s) (get_or-set_same m.records.by_socket s (Some new) None in_plain) in
    record {
      there_is = ap is_some found.is;
      alone = aimers_same token w (starts s link m).records started
          ∙ aimer_begun token s link (next_element m.desk) (live_links m.desk.links.known) m.records (none_plain (conn_at s r) (conn_at s m.records) (all.each s) none)
          ∙ sym (aimers_same token r m.records all) ∙ alone;
      sockets = started.sockets ∙ length-set m.records.by_socket s (Some new) ∙ sym all.sockets;
    }

-- an end that has just started has counts that are far from their ends
new_sound : (size : ℕ) (k : Kept) (number : ℕ) (live : List LinkId) → number < 2 ^ 63 → EndStands k (record (fresh number) { live = live }) → IsSound size k
new_sound size k number live small stands = record {
  accepted = subst (λ n. n < 2 ^ 63) (sym stands.accepted) (omega arith);
  number = subst (λ n. n < 2 ^ 63) (sym stands.number) (omega arith);
  fits = subst (λ t. t.told ≤ k.course.read + size) (sym stands.taken) (omega arith);
}

-- two that stand for one end have the same counts
pub sound_same : (size : ℕ) (k l : Kept) (h : Half) → EndStands k h → EndStands l h → IsSound size k → IsSound size l
sound_same size k l h one two sound = record {
  accepted = subst (λ n. n < 2 ^ 63) (one.accepted ∙ sym two.accepted) sound.accepted;
  number = subst (λ n. n < 2 ^ 63) (one.number ∙ sym two.number) sound.number;
  fits = subst (λ n. l.course.taken.told ≤ n + size) (one.read ∙ sym two.read) (subst (λ t. t.told ≤ k.course.read + size) (one.taken ∙ sym two.taken) sound.fits);
}

-- what is known of a connection whose end is to be established
pub record MayRise (s : ℕ) (w : Records Kept) : Type 0 where
  pub peer : IsSomeAnd (route_at s w) (λ r. IsSomeAnd r.peer (λ o. rmb_at o.address < 256))
  pub sound : IsSoundAt w.terms.size (conn_at s w)

-- a connection with an offer, which stands for a plain one of sound counts
may_rise_at : (s : ℕ) (w : Records Kept) (c : Connection Half) (o : Offer) → IsThere (conn_at s w) c → c.route.peer ≡ Some o → rmb_at o.address ≡ 1
    → ((k : Kept) → EndStands k c.end → IsSound w.terms.size k) → MayRise s w
may_rise_at s w c o found peer rmb sound = record {
  peer = subst (λ x. IsSomeAnd (option_map (λ (k : Connection Kept). k.route) x) (λ r. IsSomeAnd r.peer (λ q. rmb_at q.address < 256))) (sym found.is)
      (subst (λ r. IsSomeAnd r.peer (λ q. rmb_at q.address < 256)) (sym found.stands.route)
      (subst (λ p. IsSomeAnd p (λ q. rmb_at q.address < 256)) (sym peer) (subst (λ n. n < 256) (sym rmb) (omega arith))));
  sound = subst (λ x. IsSoundAt w.terms.size x) (sym found.is) (sound found.kept.end found.stands.end);
}

pub may_rise_new : (s : ℕ) (link : LinkId) (o : Offer) (w : Records Kept) (m : Manager Half) → s < length m.records.by_socket → rmb_at o.address ≡ 1 → m.records.terms.number < 2 ^ 63
    → AllStand w (hears s o (starts s link m)).records → MayRise s w
may_rise_new s link o w m within rmb small all =
    may_rise_at s w (heard_at s link o m) o (there (conn_at s w) (conn_at s (hears s o (starts s link m)).records) (heard_at s link o m) (all.each s) (heard_is s link o m within)) refl rmb
    (λ k stands. new_sound w.terms.size k m.records.terms.number (live_links m.desk.links.known) small stands)

-- the server's connection that waits for the Confirm hears the offer
pub may_rise_heard : (s : ℕ) (o : Offer) (r w : Records Kept) (p : Records Half) → AllStand r p → AllStand w (aims s o p) → IsSome (conn_at s r) → rmb_at o.address ≡ 1
    → IsSoundAt r.terms.size (conn_at s r) → MayRise s w
may_rise_heard s o r w p before after some rmb sound = at (conn_at s r) (conn_at s p) refl (before.each s) some sound
  where
    same_size : r.terms.size ≡ w.terms.size
    same_size = ap (λ t. t.size) (before.terms ∙ sym after.terms)

    at : (x : Option (Connection Kept)) (y : Option (Connection Half)) → conn_at s p ≡ y → StandsAt x y → IsSome x → IsSoundAt r.terms.size x → MayRise s w
    at None y e stands there_is sound_is = absurd (true≢false (sym there_is))
    at (Some k) None e stands there_is sound_is = absurd stands
    at (Some k) (Some c) e stands there_is sound_is =
        let now : Connection Half = record c { route = record c.route { peer = Some o } } in
        may_rise_at s w now o (there (conn_at s w) (conn_at s (aims s o p)) now (after.each s) (changed_here (λ x. record x { route = record x.route { peer = Some o } }) p.by_socket s ∙ ap (option_map (λ (x : Connection Half). let q : Connection Half = record x { route = record x.route { peer = Some o } } in q)) e))
        refl rmb (λ l l_stands. subst (λ n. IsSound n l) same_size (sound_same r.terms.size k.end l c.end stands.end l_stands sound_is))
