-- Of what all pipes post with an entry, the CDC messages under one token on one link are those that one end sends there.
use Rattle.std.proofs.Common.{Bool, List, [], ap, append-nil, arith, eq-eqb, false, filter, filter_map, flat_map, if◌then◌else◌, map, nat_le, refl, sym, true, ℕ, ◌%◌, ◌&&◌, ◌++◌, ◌+◌, ◌-◌, ◌<◌, ◌==◌, ◌∙◌, ◌∷◌, ◌≡◌}
use Rattle.std.specs.Prelude.{None, Option, Some, cond}
use Rattle.std.specs.List.{cons_option}
use Rattle.pipe_model.specs.declared.post.Post.TheVariants.{Clc, Write}
use Rattle.pipe_model.specs.declared.sent.Sent.{Sent}
use Rattle.std.proofs.lemmas.List.Elements.{filter_map-append}
use Rattle.std.proofs.lemmas.List.{map-append}
use Rattle.history_laws.specs.Words.{A, B, Cdc, CdcMessage, Entry, LinkId, Llc, Offer, Offered, Place, Placed, Post, Setup, Side, connection_posts, element_size, end_posts, is_offered, is_on, numbered, offered, offered_place, offered_sockets, other, pipe_posts, same_link, same_side, sent_posts, spelled, validation, writes}
use Rattle.history_laws.specs.Wires.{IsElse, cdc_under, cdcs, if_meant, message}
use Rattle.history_laws.proofs.Basics.{either-way, same-self}
use Rattle.history_laws.specs.Posts.{EachPost}
use Rattle.history_laws.proofs.Posts.{IsControl, filter_map-flat, flat-none, given, met}
use Rattle.wire_laws.proofs.Agreement.Step.{on_it}

-- the CDC message of a side under a token on a link in a post
abbrev pub under : LinkId → Side → ℕ → Post → Option CdcMessage
under link x token (Cdc from l m) = if_meant ((same_side x from && same_link link l) && (token == m.token)) m
under link x token _ = None

meet : (x : Side) (token : ℕ) (link : LinkId) (m : CdcMessage) (from : Side) (l : LinkId) (a b : Bool) (c : Placed) (ms : List CdcMessage) (ps : List Placed) → c.post ≡ Cdc from l m → same_side x from ≡ a → cdcs x token ps ≡ ms →
    cdcs x token (cond (a && b) (c ∷ ps) ps) ≡ cons_option (if_meant ((a && b) && (token == m.token)) m) ms
meet x token link m from l true true c ms ps p e f =
    ap (λ post. cons_option (cdc_under x token post) (cdcs x token ps)) p ∙ (ap (λ s. cons_option (if_meant (s && (token == m.token)) m) (cdcs x token ps)) e ∙ ap (λ q. cons_option (if_meant (true && (token == m.token)) m) q) f)
meet x token link m from l true false c ms ps p e f = f
meet x token link m from l false b c ms ps p e f = f

-- the new posts on a link
pub news-are : (link : LinkId) (x : Side) (token entry first : ℕ) (posts : List Post) → cdcs x token (filter (λ c. is_on link x c.post) (numbered entry first posts)) ≡ filter_map (under link x token) posts
news-are link x token entry first [] = refl
news-are link x token entry first (Write from l key address len ∷ posts) =
    either-way x token (is_on link x (Write from l key address len)) (record { at = record { entry = entry; post = first }; post = Write from l key address len }) (filter_map (under link x token) posts) _ refl (news-are link x token entry (first + 1) posts)
news-are link x token entry first (Llc from l m ∷ posts) =
    either-way x token (is_on link x (Llc from l m)) (record { at = record { entry = entry; post = first }; post = Llc from l m }) (filter_map (under link x token) posts) _ refl (news-are link x token entry (first + 1) posts)
news-are link x token entry first (Clc from s l m ∷ posts) =
    either-way x token (is_on link x (Clc from s l m)) (record { at = record { entry = entry; post = first }; post = Clc from s l m }) (filter_map (under link x token) posts) _ refl (news-are link x token entry (first + 1) posts)
news-are link x token entry first (Cdc from l m ∷ posts) =
    meet x token link m from l (same_side x from) (same_link link l) (record { at = record { entry = entry; post = first }; post = Cdc from l m }) (filter_map (under link x token) posts) _ refl refl (news-are link x token entry (first + 1) posts)

pub none-asked : (link : LinkId) (x : Side) (token : ℕ) (posts : List Post) → EachPost IsControl posts → filter_map (under link x token) posts ≡ []
none-asked link x token [] p = refl
none-asked link x token (Write from l key address len ∷ posts) p = absurd p.0
none-asked link x token (Llc from l m ∷ posts) p = none-asked link x token posts p.1
none-asked link x token (Clc from s l m ∷ posts) p = none-asked link x token posts p.1
none-asked link x token (Cdc from l m ∷ posts) p = absurd p.0

module _ (link : LinkId) (x : Side) (token : ℕ) where
  choice : (a b : Bool) (one two : List Post) → filter_map (under link x token) one ≡ [] → filter_map (under link x token) two ≡ [] → filter_map (under link x token) (if a then [] else if b then one else two) ≡ []
  choice true b one two e f = refl
  choice false true one two e f = e
  choice false false one two e f = f

  no-writes : (y : Side) (size : ℕ) (l : LinkId) (key : ℕ) (place : Place) (from to : ℕ) → filter_map (under link x token) (writes size y l key place from to) ≡ []
  no-writes y size l key place from to = choice (from == to) (nat_le (from % size + (to - from)) size) _ _ refl refl

  -- the writes and the one CDC message of a batch
  batch : (y : Side) (size key : ℕ) (o : Offer) (m : Sent) (check : Bool) (found : Option CdcMessage) →
      under link x token (Cdc y m.link (if check then validation size o.token m.snapshot else spelled size o.token m.snapshot)) ≡ found →
      filter_map (under link x token) (if check then Cdc y m.link (validation size o.token m.snapshot) ∷ [] else writes size y m.link key (offered_place o) m.from m.snapshot.told ++ Cdc y m.link (spelled size o.token m.snapshot) ∷ []) ≡ cons_option found []
  batch y size key o m true found e = ap (λ f. cons_option f []) e
  batch y size key o m false found e =
      filter_map-append (under link x token) (writes size y m.link key (offered_place o) m.from m.snapshot.told) (Cdc y m.link (spelled size o.token m.snapshot) ∷ []) ∙
      ap (λ ms. ms ++ filter_map (under link x token) (Cdc y m.link (spelled size o.token m.snapshot) ∷ [])) (no-writes y size m.link key (offered_place o) m.from m.snapshot.told) ∙
      ap (λ f. cons_option f []) e

  token-of : (size : ℕ) (o : Offer) (m : Sent) (check : Bool) → (if check then validation size o.token m.snapshot else spelled size o.token m.snapshot).token ≡ o.token
  token-of size o m true = refl
  token-of size o m false = refl

  none-meant : (a b : Bool) (m : CdcMessage) → b ≡ false → if_meant (a && b) m ≡ None
  none-meant true b m e = ap (λ c. if_meant c m) e
  none-meant false b m e = refl

  -- those of the other side
  sent-other : (size : ℕ) (o : Option Offered) (past : List Entry) (m : Sent) → filter_map (under link x token) (sent_posts size (other x) o past m) ≡ []
  sent-other size None past m = refl
  sent-other size (Some o) past m = batch (other x) size _ o.offer m m.check None (by x _)
    where
      by : (y : Side) (c : CdcMessage) → if_meant ((same_side y (other y) && same_link link m.link) && (token == c.token)) c ≡ None
      by A c = refl
      by B c = refl

  -- those under another token
  sent-else : (size : ℕ) (o : Option Offered) (past : List Entry) (m : Sent) → IsElse token o → filter_map (under link x token) (sent_posts size x o past m) ≡ []
  sent-else size None past m e = refl
  sent-else size (Some o) past m e = batch x size _ o.offer m m.check None (none-meant (same_side x x && same_link link m.link) _ _ (ap (λ t. token == t) (token-of size o.offer m m.check) ∙ e))

-- those under the own token
sent-own : (link : LinkId) (x : Side) (size : ℕ) (o : Offered) (past : List Entry) (m : Sent) → filter_map (under link x o.offer.token) (sent_posts size x (Some o) past m) ≡ map (message size o.offer.token) (on_it link (m ∷ []))
sent-own link x size o past m = batch link x o.offer.token x size _ o.offer m m.check (if_meant (same_link link m.link) (message size o.offer.token m)) meant ∙ by (same_link link m.link)
  where
    meant : under link x o.offer.token (Cdc x m.link (message size o.offer.token m)) ≡ if_meant (same_link link m.link) (message size o.offer.token m)
    meant =
        ap (λ b. if_meant ((b && same_link link m.link) && (o.offer.token == (message size o.offer.token m).token)) (message size o.offer.token m)) (same-self x) ∙
        (ap (λ b. if_meant (same_link link m.link && b) (message size o.offer.token m)) (eq-eqb o.offer.token (message size o.offer.token m).token (sym (token-of link x o.offer.token size o.offer m m.check))) ∙
        both (same_link link m.link))
      where
        both : (b : Bool) → if_meant (b && true) (message size o.offer.token m) ≡ if_meant b (message size o.offer.token m)
        both true = refl
        both false = refl

    by : (b : Bool) → cons_option (if_meant b (message size o.offer.token m)) [] ≡ map (message size o.offer.token) (cond b (m ∷ []) [])
    by true = refl
    by false = refl

on-cons : (link : LinkId) (m : Sent) (ms : List Sent) → on_it link (m ∷ ms) ≡ on_it link (m ∷ []) ++ on_it link ms
on-cons link m ms = by (same_link link m.link)
  where
    by : (b : Bool) → cond b (m ∷ on_it link ms) (on_it link ms) ≡ cond b (m ∷ []) [] ++ on_it link ms
    by true = refl
    by false = refl

pub all-own : (link : LinkId) (x : Side) (size : ℕ) (o : Offered) (past : List Entry) (ms : List Sent) → flat_map (λ m. filter_map (under link x o.offer.token) (sent_posts size x (Some o) past m)) ms ≡ map (message size o.offer.token) (on_it link ms)
all-own link x size o past [] = refl
all-own link x size o past (m ∷ ms) =
    ap (λ ns. ns ++ flat_map (λ n. filter_map (under link x o.offer.token) (sent_posts size x (Some o) past n)) ms) (sent-own link x size o past m) ∙
    ap (λ ns. map (message size o.offer.token) (on_it link (m ∷ [])) ++ ns) (all-own link x size o past ms) ∙
    sym (map-append (message size o.offer.token) (on_it link (m ∷ [])) (on_it link ms)) ∙
    ap (λ ns. map (message size o.offer.token) ns) (sym (on-cons link m ms))

module _ (link : LinkId) (setup : Setup) (payload : List ℕ) (e : Entry) (past : List Entry) where
  pub end-other : (x : Side) (token s : ℕ) → filter_map (under link x token) (end_posts setup payload (other x) s e past) ≡ []
  end-other x token s =
      filter_map-flat (under link x token) (sent_posts (element_size setup) (other x) (offered (other (other x)) s past) (e ∷ past)) (given setup payload e past (other x) s) ∙
      flat-none _ (given setup payload e past (other x) s) (sent-other link x token (element_size setup) (offered (other (other x)) s past) (e ∷ past))

  end-else : (x : Side) (token s : ℕ) → IsElse token (offered (other x) s past) → filter_map (under link x token) (end_posts setup payload x s e past) ≡ []
  end-else x token s n =
      filter_map-flat (under link x token) (sent_posts (element_size setup) x (offered (other x) s past) (e ∷ past)) (given setup payload e past x s) ∙
      flat-none _ (given setup payload e past x s) (λ m. sent-else link x token (element_size setup) (offered (other x) s past) (e ∷ past) m n)

  pub end-own : (x : Side) (s : ℕ) (o : Offered) → offered (other x) s past ≡ Some o → filter_map (under link x o.offer.token) (end_posts setup payload x s e past) ≡ map (message (element_size setup) o.offer.token) (on_it link (given setup payload e past x s))
  end-own x s o f =
      ap (λ q. filter_map (under link x o.offer.token) (flat_map (sent_posts (element_size setup) x q (e ∷ past)) (given setup payload e past x s))) f ∙
      filter_map-flat (under link x o.offer.token) (sent_posts (element_size setup) x (Some o) (e ∷ past)) (given setup payload e past x s) ∙
      all-own link x (element_size setup) o (e ∷ past) (given setup payload e past x s)

  pub pipe-of-end : (x : Side) (token s : ℕ) → filter_map (under link x token) (pipe_posts setup payload s e past) ≡ filter_map (under link x token) (end_posts setup payload x s e past)
  pipe-of-end A token s =
      filter_map-append (under link A token) (end_posts setup payload A s e past) (end_posts setup payload B s e past) ∙
      ap (λ ms. filter_map (under link A token) (end_posts setup payload A s e past) ++ ms) (end-other A token s) ∙ append-nil (filter_map (under link A token) (end_posts setup payload A s e past))
  pipe-of-end B token s =
      filter_map-append (under link B token) (end_posts setup payload A s e past) (end_posts setup payload B s e past) ∙
      ap (λ ms. ms ++ filter_map (under link B token) (end_posts setup payload B s e past)) (end-other B token s)

  -- under a token that no offer gave, nothing is posted
  pub nothing-strange : (x : Side) (token : ℕ) → ((s : ℕ) → IsElse token (offered (other x) s past)) → filter_map (under link x token) (connection_posts setup payload e past) ≡ []
  nothing-strange x token n =
      filter_map-flat (under link x token) (λ s. pipe_posts setup payload s e past) (offered_sockets setup past) ∙
      flat-none _ (offered_sockets setup past) (λ s. pipe-of-end x token s ∙ end-else x token s (n s))

  -- under the token of an offer, what its end sends on the link is
  pub own-posted : (x : Side) (s : ℕ) (o : Offered) → offered (other x) s past ≡ Some o → ((t : ℕ) → (t == s) ≡ false → IsElse o.offer.token (offered (other x) t past)) → s < setup.sockets → is_offered past s ≡ true →
      filter_map (under link x o.offer.token) (connection_posts setup payload e past) ≡ map (message (element_size setup) o.offer.token) (on_it link (given setup payload e past x s))
  own-posted x s o f n l g =
      filter_map-flat (under link x o.offer.token) (λ t. pipe_posts setup payload t e past) (offered_sockets setup past) ∙
      met (λ t. filter_map (under link x o.offer.token) (pipe_posts setup payload t e past)) (is_offered past) s (λ t d. pipe-of-end x o.offer.token t ∙ end-else x o.offer.token t (n t d)) 1 setup.sockets g (omega arith) (omega arith) (omega (arith, l)) ∙
      pipe-of-end x o.offer.token s ∙ end-own x s o f
