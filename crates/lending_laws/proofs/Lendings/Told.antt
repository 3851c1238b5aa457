-- An end whose pipe has sent a last snapshot has posted it under its peer's token: so when a connection is over, both ends have told their last.
use Rattle.std.proofs.Common.{Bool, List, [], ap, arith, eq-eqb, eqb-true, false, if◌then◌else◌, inl, inr, map, nat_lt, not, refl, subst, suc, sym, true, true≢false, zero, ℕ, ◌%◌, ◌&&◌, ◌++◌, ◌+◌, ◌-◌, ◌<◌, ◌==◌, ◌||◌, ◌∙◌, ◌∷◌, ◌≡◌, ◌≢◌, ◌≤◌}
use Rattle.std.specs.List.{list_any, range_with_len}
use Rattle.std.proofs.lemmas.List.Folds.{list_any-append}
use Rattle.std.specs.Prelude.{Some, flat_map}
use Rattle.pipe_model.specs.declared.snapshot.Snapshot.{Snapshot}
use Rattle.pipe_model.specs.Lending.{posts_last, tells_last}
use Rattle.pipe_model.specs.Snapshot.{flag}
use Rattle.pipe_model.specs.declared.sent.Sent.{Sent}
use Rattle.history_laws.specs.Words.{A, B, Cdc, EachOf, Entry, Offer, Offered, Post, Setup, Side, cdc_posts, connection_posts, element_size, end_posts, group_on, has_last, is_last, is_offered, items, offered, offered_place, offered_sockets, other, part, pipe_posts, posts_of, same_side, sent_posts, spelled, terms_of, up_to, validation, writes}
use Rattle.history_laws.proofs.Basics.{by-bool, or-left, or-true, same-self}
use Rattle.history_laws.specs.Lists.{IsAmong}
use Rattle.history_laws.proofs.Items.{IsHonest}
use Rattle.link_laws.proofs.Keys.{among-map}
use Rattle.lending_laws.proofs.Lendings.Lendings.{filter-in}

-- lists
pub any-back : (f : Post → Bool) (ps qs : List Post) → list_any f qs ≡ true → list_any f (ps ++ qs) ≡ true
any-back f ps qs e = list_any-append f ps qs ∙ or-true (list_any f ps) (list_any f qs) e

any-front : (f : Post → Bool) (ps qs : List Post) → list_any f ps ≡ true → list_any f (ps ++ qs) ≡ true
any-front f ps qs e = list_any-append f ps qs ∙ or-left (list_any f ps) (list_any f qs) e

any-flat : {X : Type 0} (f : Post → Bool) (g : X → List Post) (xs : List X) (x : X) → IsAmong x xs → list_any f (g x) ≡ true → list_any f (flat_map g xs) ≡ true
any-flat f g [] x i e = absurd i
any-flat f g (y ∷ ys) x (inl q) e = any-front f (g y) (flat_map g ys) (ap (λ z. list_any f (g z)) (sym q) ∙ e)
any-flat f g (y ∷ ys) x (inr i) e = any-back f (g y) (flat_map g ys) (any-flat f g ys x i e)

eqb-ne : (k n : ℕ) → (k == n) ≡ false → k ≢ n
eqb-ne k n e q = true≢false (sym (eq-eqb k n q) ∙ e)

in-range : (from n k : ℕ) → from ≤ k → k < from + n → IsAmong k (range_with_len from n)
in-range from zero k a b = absurd (omega (arith, a, b))
in-range from (suc n) k a b = by-bool (IsAmong k (range_with_len from (suc n))) (k == from) (λ e. inl (eqb-true k from e)) (λ e. inr (in-range (from + 1) n k (let d : k ≢ from = eqb-ne k from e in omega (arith, a, d)) (omega (arith, b))))

-- the socket is among those on which a connection was offered
pub in-offered : (setup : Setup) (past : List Entry) (s : ℕ) → s < setup.sockets → (group_on s past == 0) ≡ false → IsAmong s (offered_sockets setup past)
in-offered setup past s low g = filter-in (is_offered past) s (map (λ n. n - 1) (up_to setup.sockets)) (subst (λ k. IsAmong k (map (λ n. n - 1) (up_to setup.sockets))) (let w : s + 1 - 1 ≡ s = omega arith in w) (among-map (λ n. n - 1) (s + 1) (up_to setup.sockets) (in-range 1 setup.sockets (s + 1) (omega arith) (omega (arith, low))))) (ap (λ b. not b) g)

-- a last snapshot is spelled as one
last-spelled : (size token : ℕ) (m : Snapshot) → is_last m ≡ true → tells_last (spelled size token m) ≡ true
last-spelled size token m e = by m.done m.closed m.aborted e
  where
    by : (d c a : Bool) → (c || a) ≡ true → nat_lt 0x1f ((flag d 0x80 + (flag c 0x40 + flag a 0x20)) % 0x80) ≡ true
    by true true true e = refl
    by true true false e = refl
    by true false true e = refl
    by false true true e = refl
    by false true false e = refl
    by false false true e = refl
    by true false false e = absurd (true≢false (sym e))
    by false false false e = absurd (true≢false (sym e))

spells : (size : ℕ) (x : Side) (key : ℕ) (o : Offer) (m : Sent) → is_last m.snapshot ≡ true → m.check ≡ false → list_any (posts_last x o.token) (cdc_posts size x key o m) ≡ true
spells size x key o m last plain =
    ap (λ b. list_any (posts_last x o.token) (if b then Cdc x m.link (validation size o.token m.snapshot) ∷ [] else writes size x m.link key (offered_place o) m.from m.snapshot.told ++ Cdc x m.link (spelled size o.token m.snapshot) ∷ [])) plain
    ∙ any-back (posts_last x o.token) (writes size x m.link key (offered_place o) m.from m.snapshot.told) (Cdc x m.link (spelled size o.token m.snapshot) ∷ [])
    (or-left (same_side x x && ((o.token == o.token) && tells_last (spelled size o.token m.snapshot))) false
    (ap (λ b. b && ((o.token == o.token) && tells_last (spelled size o.token m.snapshot))) (same-self x) ∙ (ap (λ b. b && tells_last (spelled size o.token m.snapshot)) (eq-eqb o.token o.token refl) ∙ last-spelled size o.token m.snapshot last)))

-- the posts of an end tell its last snapshot, where it is among its messages
sends-last : (size : ℕ) (x : Side) (o : Offered) (past : List Entry) (ms : List Sent) → EachOf IsHonest ms → has_last ms ≡ true → list_any (posts_last x o.offer.token) (flat_map (sent_posts size x (Some o) past) ms) ≡ true
sends-last size x o past [] h e = absurd (true≢false (sym e))
sends-last size x o past (m ∷ ms) h e = by-bool _ (is_last m.snapshot)
    (λ l. any-front (posts_last x o.offer.token) (sent_posts size x (Some o) past m) (flat_map (sent_posts size x (Some o) past) ms) (spells size x _ o.offer m l (plain l)))
    (λ l. any-back (posts_last x o.offer.token) (sent_posts size x (Some o) past m) (flat_map (sent_posts size x (Some o) past) ms) (sends-last size x o past ms h.1 (ap (λ b. b || has_last ms) (sym l) ∙ e)))
  where
    plain : is_last m.snapshot ≡ true → m.check ≡ false
    plain l = by-bool (m.check ≡ false) m.check (λ c. absurd (true≢false (sym l ∙ h.0 c))) (λ c. c)

-- so do the posts of all connections
pub connections-last : (setup : Setup) (payload : List ℕ) (x : Side) (s : ℕ) (o : Offered) (e : Entry) (past : List Entry) → offered (other x) s past ≡ Some o → IsAmong s (offered_sockets setup past)
    → EachOf IsHonest (posts_of (terms_of setup) x (items payload (group_on s past) s e past) (part payload (group_on s past) s past))
    → has_last (posts_of (terms_of setup) x (items payload (group_on s past) s e past) (part payload (group_on s past) s past)) ≡ true
    → list_any (posts_last x o.offer.token) (connection_posts setup payload e past) ≡ true
connections-last setup payload x s o e past i there h last = any-flat (posts_last x o.offer.token) (λ t. pipe_posts setup payload t e past) (offered_sockets setup past) s there (at x own)
  where
    own : list_any (posts_last x o.offer.token) (end_posts setup payload x s e past) ≡ true
    own = ap (λ q. list_any (posts_last x o.offer.token) (flat_map (sent_posts (element_size setup) x q (e ∷ past)) (posts_of (terms_of setup) x (items payload (group_on s past) s e past) (part payload (group_on s past) s past)))) i
        ∙ sends-last (element_size setup) x o (e ∷ past) (posts_of (terms_of setup) x (items payload (group_on s past) s e past) (part payload (group_on s past) s past)) h last

    at : (y : Side) → list_any (posts_last x o.offer.token) (end_posts setup payload y s e past) ≡ true → list_any (posts_last x o.offer.token) (pipe_posts setup payload s e past) ≡ true
    at A p = any-front (posts_last x o.offer.token) (end_posts setup payload A s e past) (end_posts setup payload B s e past) p
    at B p = any-back (posts_last x o.offer.token) (end_posts setup payload A s e past) (end_posts setup payload B s e past) p
