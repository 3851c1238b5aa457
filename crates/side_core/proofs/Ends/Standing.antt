-- Records that stand for plain ones.
-- A reader learns here that a change of one record, with that of the plain one, leaves all others standing.
use Rattle.std.proofs.Common.{◌≡◌, ◌≢◌, ◌∙◌, ℕ, ◌<◌, ◌++◌, List, length, get_or, set, Option, Some, None, is_some, option_map, unwrap_or, refl, sym, ap, subst, arith, inl, inr, true, true≢false, ◌+◌}
use Rattle.std.proofs.lemmas.Bool.{cases_eq}
use Rattle.std.proofs.lemmas.List.{get_or-set_same, get_or-set_other, get_or_past, length-set}
use Rattle.pipe_model.specs.Pipe.{Terms}
use Rattle.pipe_model.specs.Ends.{Half, fresh, settle, comes_up}
use Rattle.pipe_model.specs.declared.post.Post.{Post}
use Rattle.conn_end.specs.Kept.{Kept, Represents}
use Rattle.side_core.specs.declared.route.Way.{Way}
use Rattle.side_core.specs.Records.{Connection, Records, AllStand, IsSized, Stands, StandsAt, conn_at, half_at, changes, settles, begins, leaves, new_route}
use Rattle.side_core.specs.Inside.{IsMade}
use Rattle.side_core.specs.Posting.{IsWay, IsOnWay, SameCourse, posts_at, due_posts}
use Rattle.side_core.proofs.Ends.Keeping.{IsAlike, settle_up, settle_link}
use Rattle.side_core.proofs.Ends.Acting.{acted_stands}
use Rattle.smc_num.specs.declared.LinkId.{LinkId}
use Rattle.element_ledger.specs.declared.Element.{Element}
use Rattle.clc_wire.specs.declared.offer.Offer.{Offer}
use Rattle.side_core.specs.declared.route.Route.{Route}
use Rattle.conn_end.specs.Batches.{may_post}

-- one place of two lists becomes another one in each
pub each_set : (xs : List (Option (Connection Kept))) (ys : List (Option (Connection Half))) (s : ℕ) (x : Option (Connection Kept)) (y : Option (Connection Half)) → ((t : ℕ) → StandsAt (get_or xs t None) (get_or ys t None)) → length xs ≡ length ys → s < length xs → StandsAt x y → (t : ℕ) → StandsAt (get_or (set xs s x) t None) (get_or (set ys s y) t None)
each_set xs ys s x y each same within here t = elim (cases_eq t s) [
  | inl is ↦ subst (λ a. StandsAt a (get_or (set ys s y) t None)) (sym (ap (λ n. get_or (set xs s x) n None) is ∙ get_or-set_same xs s x None within))
      (subst (StandsAt x) (sym (ap (λ n. get_or (set ys s y) n None) is ∙ get_or-set_same ys s y None (subst (λ n. s < n) same within))) here)
  | inr differs ↦ subst (λ a. StandsAt a (get_or (set ys s y) t None)) (sym (get_or-set_other xs s t x None differs))
      (subst (StandsAt (get_or xs t None)) (sym (get_or-set_other ys s t y None differs)) (each t))
]

-- one place of a list becomes another one, whose end is made for elements of the same size
sized_set : (size : ℕ) (xs : List (Option (Connection Kept))) (s : ℕ) (x : Option (Connection Kept)) → ((t : ℕ) → IsSized size (get_or xs t None)) → s < length xs → IsSized size x → (t : ℕ) → IsSized size (get_or (set xs s x) t None)
sized_set size xs s x sizes within here t = elim (cases_eq t s) [
  | inl is ↦ subst (IsSized size) (sym (ap (λ n. get_or (set xs s x) n None) is ∙ get_or-set_same xs s x None within)) here
  | inr differs ↦ subst (IsSized size) (sym (get_or-set_other xs s t x None differs)) (sizes t)
]

-- and so in the records whose one socket is changed by that
sizes_set : (v w : Records Kept) (s : ℕ) (x : Option (Connection Kept)) → ((t : ℕ) → IsSized v.terms.size (conn_at t v)) → w.terms ≡ v.terms → w.by_socket ≡ set v.by_socket s x → s < length v.by_socket → IsSized v.terms.size x → (t : ℕ) → IsSized w.terms.size (conn_at t w)
sizes_set v w s x sizes terms by_socket within here t =
    subst (λ (ts : Terms). IsSized ts.size (conn_at t w)) (sym terms)
    (subst (λ xs. IsSized v.terms.size (get_or xs t None)) (sym by_socket) (sized_set v.terms.size v.by_socket s x sizes within here t))

pub as_many : (xs : List (Option (Connection Kept))) (ys : List (Option (Connection Half))) (s : ℕ) (x : Option (Connection Kept)) (y : Option (Connection Half)) → length xs ≡ length ys → length (set xs s x) ≡ length (set ys s y)
as_many xs ys s x y same = length-set xs s x ∙ same ∙ sym (length-set ys s y)

-- a socket with a connection is in range
pub there_within : {X : Type 0} (xs : List (Option X)) (s : ℕ) (x : X) → get_or xs s None ≡ Some x → s < length xs
there_within xs s x is = let some : is_some (get_or xs s None) ≡ Rattle.std.proofs.Common.true = ap is_some is in grind (arith, get_or_past)

-- the plain connection of a socket
pub record IsFound (r : Records Half) (s : ℕ) (k : Connection Kept) : Type 0 where
  pub conn : Connection Half
  pub is : conn_at s r ≡ Some conn
  pub stands : Stands k conn

pub finds_plain : (v : Records Kept) (r : Records Half) (s : ℕ) (k : Connection Kept) → AllStand v r → conn_at s v ≡ Some k → IsFound r s k
finds_plain v r s k all is = by_conn (conn_at s r) refl (subst (λ a. StandsAt a (conn_at s r)) is (all.each s))
  where
    by_conn : (y : Option (Connection Half)) → conn_at s r ≡ y → StandsAt (Some k) y → IsFound r s k
    by_conn None e stands = absurd stands
    by_conn (Some c) e stands = record { conn = c; is = e; stands = stands }

-- its end
pub half_is : (r : Records Half) (s : ℕ) (c : Connection Half) → conn_at s r ≡ Some c → half_at s r ≡ c.end
half_is r s c is = ap (λ o. unwrap_or (option_map (λ (x : Connection Half). x.end) o) (fresh r.terms.number)) is

-- that records are as others, with one socket changed
pub record IsWith (v : Records Kept) (s : ℕ) (x : Option (Connection Kept)) (w : Records Kept) : Type 0 where
  pub terms : w.terms ≡ v.terms
  pub tokens : w.tokens ≡ v.tokens
  pub spare : w.spare ≡ v.spare
  pub by_socket : w.by_socket ≡ set v.by_socket s x

-- a connection is changed
pub changed_stands : (v w : Records Kept) (r : Records Half) (s : ℕ) (old new : Connection Kept) (f : Connection Half → Connection Half) → AllStand v r → IsWith v s (Some new) w → conn_at s v ≡ Some old → new.end.size ≡ old.end.size → (found : IsFound r s old) → Stands new (f found.conn) → AllStand w (changes s f r)
changed_stands v w r s old new f all is_with is size found stands = record {
  terms = is_with.terms ∙ all.terms;
  tokens = is_with.tokens ∙ all.tokens;
  spare = is_with.spare ∙ all.spare;
  sockets = ap length is_with.by_socket ∙ as_many v.by_socket r.by_socket s (Some new) (option_map f (conn_at s r)) all.sockets;
  each = λ t. subst (λ xs. StandsAt (get_or xs t None) (get_or (set r.by_socket s (option_map f (conn_at s r))) t None)) (sym is_with.by_socket)
      (each_set v.by_socket r.by_socket s (Some new) (option_map f (conn_at s r)) all.each all.sockets (there_within v.by_socket s old is)
      (subst (λ o. StandsAt (Some new) (option_map f o)) (sym found.is) stands) t);
  sizes = sizes_set v w s (Some new) all.sizes is_with.terms is_with.by_socket (there_within v.by_socket s old is) (size ∙ subst (IsSized v.terms.size) is (all.sizes s));
}

-- what it posts
pub posted : (v : Records Kept) (r : Records Half) (s : ℕ) (k : Connection Kept) (act : Half → Half) (way : Way) (before after : List Post) → AllStand v r → IsMade v.terms k.end → (found : IsFound r s k) → after ≡ before ++ due_posts k.end.size k.end.course.depth way.side way.key k.route.peer (act found.conn.end) → after ≡ before ++ posts_at s act way r (conn_at s r)
posted v r s k act way before after all made found posts =
    let size : k.end.size ≡ r.terms.size = made.size ∙ ap (λ (t : Terms). t.size) all.terms in
    let depth : k.end.course.depth ≡ r.terms.depth = made.depth ∙ ap (λ (t : Terms). t.depth) all.terms in
    posts
    ∙ ap (λ n. before ++ due_posts n k.end.course.depth way.side way.key k.route.peer (act found.conn.end)) size
    ∙ ap (λ n. before ++ due_posts r.terms.size n way.side way.key k.route.peer (act found.conn.end)) depth
    ∙ ap (λ (q : Route). before ++ due_posts r.terms.size r.terms.depth way.side way.key q.peer (act found.conn.end)) found.stands.route
    ∙ ap (λ o. before ++ posts_at s act way r o) (sym found.is)

-- whether it may post
pub is_way : (act : Half → Half) (way : Way) (r : Records Half) (s : ℕ) (c : Connection Half) → conn_at s r ≡ Some c → IsWay act way (conn_at s r) → IsWay act way (Some c)
is_way act way r s c is way_is = subst (IsWay act way) is way_is

-- something was done to the end of a socket, and what was due then was posted
pub settles_at : (v w : Records Kept) (r : Records Half) (s : ℕ) (old new : Connection Kept) (act : Half → Half) → AllStand v r → IsWith v s (Some new) w → conn_at s v ≡ Some old → IsMade v.terms old.end → SameCourse old new → (found : IsFound r s old) → IsAlike found.conn.end (act found.conn.end) → Represents new.end (settle old.end.course.depth (act found.conn.end)) → AllStand w (settles s act r)
settles_at v w r s old new act all is_with is made same found alike after =
    changed_stands v w r s old new (λ c. record c { end = settle r.terms.depth (act c.end) }) all is_with is same.terms.size found
    (acted_stands old new found.conn (act found.conn.end) r.terms.depth same found.stands alike after (made.depth ∙ ap (λ (t : Terms). t.depth) all.terms))

-- on which way an end is then
pub on_way : (c : Connection Half) (k : Connection Kept) (act : Half → Half) (way : Way) → Stands k c → IsAlike c.end (act c.end) → way.live ≡ may_post (act c.end) → IsOnWay k.route.link way (act c.end)
on_way c k act way stands alike live = record {
  live = live;
  link = λ up. alike.link ∙ stands.link (sym stands.up ∙ sym alike.up ∙ up) ∙ ap (λ (q : Route). q.link) (sym stands.route);
}

-- one was established
pub risen_stands : (old new : Connection Kept) (c : Connection Half) (depth : ℕ) → SameCourse (record old { route = record old.route { up = true } }) new → Stands old c → Represents new.end (settle old.end.course.depth (comes_up old.route.link c.end)) → old.end.course.depth ≡ depth → Stands new (record c { route = record c.route { up = true }; end = settle depth (comes_up c.route.link c.end) })
risen_stands old new c depth same stands after is = record {
  route = same.route ∙ ap (λ (q : Route). let risen : Route = record q { up = true } in risen) stands.route;
  up = settle_up depth (comes_up c.route.link c.end);
  link = λ up. settle_link depth (comes_up c.route.link c.end);
  end = subst (λ d. Represents new.end (settle d (comes_up c.route.link c.end))) is (subst (λ (q : Route). Represents new.end (settle old.end.course.depth (comes_up q.link c.end))) stands.route after);
}

-- one has learnt of its peer
pub aimed_stands : (old : Connection Kept) (c : Connection Half) (o : Offer) (end : Kept) → end ≡ record old.end { token = o.token } → Stands old c → Stands (record { route = record old.route { peer = Some o }; end = end }) (record c { route = record c.route { peer = Some o } })
aimed_stands old c o end is stands = subst (λ (e : Kept). Stands (record { route = record old.route { peer = Some o }; end = e }) (record c { route = record c.route { peer = Some o } })) (sym is) (record {
  route = ap (λ (q : Route). let aimed : Route = record q { peer = Some o } in aimed) stands.route;
  up = stands.up;
  link = stands.link;
  end = stands.end;
})

-- one has left
pub left_stands : (v w : Records Kept) (r : Records Half) (s : ℕ) → AllStand v r → w.terms ≡ v.terms → w.tokens ≡ v.tokens → w.spare ≡ v.spare + 1 → w.by_socket ≡ set v.by_socket s None → s < length v.by_socket → AllStand w (leaves s r)
left_stands v w r s all terms tokens spare by_socket within = record {
  terms = terms ∙ all.terms;
  tokens = tokens ∙ all.tokens;
  spare = spare ∙ ap (λ n. n + 1) all.spare;
  sockets = ap length by_socket ∙ as_many v.by_socket r.by_socket s None None all.sockets;
  each = λ t. subst (λ xs. StandsAt (get_or xs t None) (get_or (set r.by_socket s None) t None)) (sym by_socket) (each_set v.by_socket r.by_socket s None None all.each all.sockets within tt t);
  sizes = sizes_set v w s None all.sizes terms by_socket within tt;
}

-- one that has begun
abbrev plain_begun : Records Half → LinkId → Element → List LinkId → Connection Half
plain_begun r link element live = record { route = new_route link element (r.tokens + 1); end = record (fresh r.terms.number) { live = live } }

-- one has begun
pub begun_stands : (v w : Records Kept) (r : Records Half) (s : ℕ) (link : LinkId) (element : Element) (live : List LinkId) (k : Connection Kept) → AllStand v r → w.terms ≡ v.terms → w.tokens ≡ v.tokens + 1 → w.spare + 1 ≡ v.spare → w.by_socket ≡ set v.by_socket s (Some k) → s < length v.by_socket → k.route ≡ new_route link element (v.tokens + 1) → k.end.size ≡ v.terms.size → Represents k.end (fresh v.terms.number) → AllStand w (begins s link element live r)
begun_stands v w r s link element live k all terms tokens spare by_socket within route size end = record {
  terms = terms ∙ all.terms;
  tokens = tokens ∙ ap (λ n. n + 1) all.tokens;
  spare = omega (arith, spare, all.spare);
  sockets = ap length by_socket ∙ as_many v.by_socket r.by_socket s (Some k) (Some (plain_begun r link element live)) all.sockets;
  each = λ t. subst (λ xs. StandsAt (get_or xs t None) (get_or (set r.by_socket s (Some (plain_begun r link element live))) t None)) (sym by_socket)
      (each_set v.by_socket r.by_socket s (Some k) (Some (plain_begun r link element live)) all.each all.sockets within stands t);
  sizes = sizes_set v w s (Some k) all.sizes terms by_socket within size;
}
  where
    stands : Stands k (plain_begun r link element live)
    stands = record {
      route = route ∙ ap (λ n. new_route link element (n + 1)) all.tokens;
      up = refl;
      link = λ up. absurd (true≢false (sym up));
      end = subst (λ (q : Terms). Represents k.end (record (fresh q.number) { live = live })) all.terms end;
    }
