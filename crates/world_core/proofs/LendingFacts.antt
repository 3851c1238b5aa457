-- The lendings of a side and its offers: a socket has at most one lending, exactly where the side has offered; tokens and places are apart.
use Rattle.pipe_model.specs.Lending.{lent}
use Rattle.std.proofs.Common.{◌≡◌, ap, arith, cond, refl, subst, sym, ◌∙◌}
use Rattle.std.specs.Prelude.{find, unwrap_or, Bool, List, None, Option, Some, [], false, filter, filter_map, length, map, not, option_map, true, ℕ, ◌++◌, ◌<◌, ◌==◌, ◌||◌, ◌∷◌, ◌≤◌}
use Rattle.std.specs.List.{IsDistinct, AllByRecursion, list_any, cons_option}
use Rattle.std.proofs.lemmas.Bool.{eqb-true, eq-eqb, ne_eqb}
use Rattle.std.proofs.lemmas.List.{length-map}
use Rattle.std.proofs.lemmas.Map.Keys.{IsDistinct-cons}
use Rattle.std.proofs.lemmas.Map.Steps.{length-le_from_distinct_below}
use Rattle.pipe_model.specs.declared.post.Post.TheVariants.{Clc}
use Rattle.clc_wire.specs.declared.message.ClcMessage.TheVariants.{Accept as AcceptMessage, Confirm as ConfirmMessage}
use Rattle.clc_wire.specs.declared.offer.Offer.{Offer}
use Rattle.pipe_model.specs.declared.entry.Entry.{Entry}
use Rattle.pipe_model.specs.Words.{rmbs_of}
use Rattle.pipe_model.specs.Plain.{begun}
use Rattle.world_core.proofs.TakenMessages.{same}
use Rattle.smc_num.specs.declared.LinkId.{LinkId}
use Rattle.world_core.specs.OneLink.{Stage, the_link}
use Rattle.smc_num.specs.declared.Side.TheVariants.{A, B}
use Rattle.pipe_model.specs.Fits.{Fits}
use Rattle.world_core.specs.Played.{IsOneLink, IsPlayed}
use Rattle.std.specs.Option.{option_or}
use Rattle.smc_num.specs.Places.{Place, is_free, same_place}
use Rattle.pipe_model.specs.Posts.{offered_place}
use Rattle.pipe_model.specs.declared.setup.Setup.{Setup}
use Rattle.world_core.proofs.PlayedWorlds.{goes, played}
use Rattle.world_core.proofs.Shaken.{offer-link}
use Rattle.world_core.specs.Lent.{AreCounted, AreLendings, Begins, BeginsNone, BeginsOne, EachLending, HavePlaces, HaveSockets, IsOfOffer}
use Rattle.world_core.proofs.Offers.{IsFree, is-free}
use Rattle.smc_num.specs.Names.{head}
use Rattle.pipe_model.specs.declared.post.Post.{Post}
use Rattle.smc_num.specs.declared.Side.{Side}
use Rattle.pipe_model.specs.History.{Offered, offer_in, offered, offered_if}
use Rattle.pipe_model.specs.Lending.{Lending, lendings, lends, lends_by, lent_places, returns}
use Rattle.world_core.specs.Sockets.{IsWorld}

-- each lending of a list
pub each-map : (P Q : Lending → Type 0) → ((l : Lending) → P l → Q l) → (ls : List Lending) → EachLending P ls → EachLending Q ls
each-map P Q f [] a = tt
each-map P Q f (l ∷ ls) a = (f l a.0, each-map P Q f ls a.1)

pub each-two : (P Q R : Lending → Type 0) → ((l : Lending) → P l → Q l → R l) → (ls : List Lending) → EachLending P ls → EachLending Q ls → EachLending R ls
each-two P Q R f [] a b = tt
each-two P Q R f (l ∷ ls) a b = (f l a.0 b.0, each-two P Q R f ls a.1 b.1)

pub each-append : (P : Lending → Type 0) (ls ms : List Lending) → EachLending P ls → EachLending P ms → EachLending P (ls ++ ms)
each-append P [] ms a b = b
each-append P (l ∷ ls) ms a b = (a.0, each-append P ls ms a.1 b)

each-front : (P : Lending → Type 0) (ls ms : List Lending) → EachLending P (ls ++ ms) → EachLending P ls
each-front P [] ms a = tt
each-front P (l ∷ ls) ms a = (a.0, each-front P ls ms a.1)

each-back : (P : Lending → Type 0) (ls ms : List Lending) → EachLending P (ls ++ ms) → EachLending P ms
each-back P [] ms a = a
each-back P (l ∷ ls) ms a = each-back P ls ms a.1

each-filter : (P : Lending → Type 0) (f : Lending → Bool) (ls : List Lending) → EachLending P ls → EachLending P (filter f ls)
each-filter P f [] a = tt
each-filter P f (l ∷ ls) a = by_test (f l) (each-filter P f ls a.1)
  where
    by_test : (b : Bool) → EachLending P (filter f ls) → EachLending P (cond b (l ∷ filter f ls) (filter f ls))
    by_test true r = (a.0, r)
    by_test false r = r

pub turned : (a b : ℕ) → (b == a) ≡ false → (a == b) ≡ false
turned a b e = ne_eqb a b (λ same. let t = eq-eqb b a (sym same) in let wrong : true ≡ false = sym t ∙ e in cc)

-- the lending that is found by its socket
pub find-append : (f : Lending → Bool) (ls ms : List Lending) → find f (ls ++ ms) ≡ option_or (find f ls) (find f ms)
find-append f [] ms = refl
find-append f (l ∷ ls) ms = by_test (f l) (find-append f ls ms)
  where
    by_test : (b : Bool) → find f (ls ++ ms) ≡ option_or (find f ls) (find f ms) → cond b (Some l) (find f (ls ++ ms)) ≡ option_or (cond b (Some l) (find f ls)) (find f ms)
    by_test true rest = refl
    by_test false rest = rest

abbrev pub lends-for : ℕ → Offered → Lending
lends-for s q = lends_by s q.link q.offer

map-or : (s : ℕ) (a b : Option Offered) → option_map (lends-for s) (option_or a b) ≡ option_or (option_map (lends-for s) a) (option_map (lends-for s) b)
map-or s None b = refl
map-or s (Some q) b = refl

met-offer : (s t : ℕ) (link : LinkId) (o : Offer) (ls : List Lending) (qs : List Offered) → find (λ l. l.s == s) ls ≡ option_map (lends-for s) (head qs)
    → find (λ l. l.s == s) (lends_by t link o ∷ ls) ≡ option_map (lends-for s) (head (cons_option (offered_if (s == t) link o) qs))
met-offer s t link o ls qs rest = by_test (s == t) refl
  where
    by_test : (b : Bool) → (s == t) ≡ b → cond (t == s) (Some (lends_by t link o)) (find (λ l. l.s == s) ls) ≡ option_map (lends-for s) (head (cons_option (offered_if b link o) qs))
    by_test true e =
        let same : s ≡ t = eqb-true s t e in
        ap (λ b. cond b (Some (lends_by t link o)) (find (λ l. l.s == s) ls)) (eq-eqb t s (sym same)) ∙ ap (λ n. Some (lends_by n link o)) (sym same)
    by_test false e = ap (λ b. cond b (Some (lends_by t link o)) (find (λ l. l.s == s) ls)) (turned t s e) ∙ rest

pub found-in : (x : Side) (s : ℕ) (ps : List Post) → find (λ l. l.s == s) (filter_map (lends x) ps) ≡ option_map (lends-for s) (head (filter_map (offer_in x s) ps))
found-in x s [] = refl
found-in B s (Clc B t (Some link) (AcceptMessage o) ∷ ps) = met-offer s t link o (filter_map (lends B) ps) (filter_map (offer_in B s) ps) (found-in B s ps)
found-in A s (Clc A t (Some link) (ConfirmMessage o) ∷ ps) = met-offer s t link o (filter_map (lends A) ps) (filter_map (offer_in A s) ps) (found-in A s ps)
found-in x s (p ∷ ps) = found-in x s ps

-- a lending of a socket is found exactly where the side has offered there, after every list of entries
pub found-lending : (x : Side) (s : ℕ) (past : List Entry) → find (λ l. l.s == s) (lendings x past) ≡ option_map (lends-for s) (offered x s past)
found-lending x s [] = refl
found-lending x s (e ∷ older) =
    find-append (λ l. l.s == s) (filter_map (lends x) e.posts) (lendings x older)
    ∙ (ap (λ (o : Option Lending). option_or o (find (λ l. l.s == s) (lendings x older))) (found-in x s e.posts)
    ∙ (ap (λ (o : Option Lending). option_or (option_map (lends-for s) (head (filter_map (offer_in x s) e.posts))) o) (found-lending x s older)
    ∙ sym (map-or s (head (filter_map (offer_in x s) e.posts)) (offered x s older))))

-- what a socket finds is one of them
pub found-each : (P : Lending → Type 0) (s : ℕ) (ls : List Lending) (l : Lending) → EachLending P ls → find (λ k. k.s == s) ls ≡ Some l → P l
found-each P s [] l a e = cc
found-each P s (k ∷ ks) l a e = by (k.s == s) e (λ r. found-each P s ks l a.1 r)
  where
    by : (b : Bool) → cond b (Some k) (find (λ k. k.s == s) ks) ≡ Some l → (find (λ k. k.s == s) ks ≡ Some l → P l) → P l
    by true e rest = subst P (ap (λ q. unwrap_or q k) e) a.0
    by false e rest = rest e

-- a socket without a lending
not-among : (s : ℕ) (ls : List Lending) → find (λ l. l.s == s) ls ≡ None → EachLending (λ m. (m.s == s) ≡ false) ls
not-among s [] e = tt
not-among s (l ∷ ls) e = by_test (l.s == s) refl e (not-among s ls)
  where
    by_test : (b : Bool) → (l.s == s) ≡ b → cond b (Some l) (find (λ l. l.s == s) ls) ≡ None → (find (λ l. l.s == s) ls ≡ None → EachLending (λ m. (m.s == s) ≡ false) ls) → EachLending (λ m. (m.s == s) ≡ false) (l ∷ ls)
    by_test true f h rest = cc
    by_test false f h rest = (f, rest h)

-- each lending is the one that its socket finds
finds-each : (ls : List Lending) → HaveSockets ls → EachLending (λ l. find (λ m. m.s == l.s) ls ≡ Some l) ls
finds-each [] h = tt
finds-each (l ∷ ls) h = (
  ap (λ b. cond b (Some l) (find (λ m. m.s == l.s) ls)) (eq-eqb l.s l.s refl),
  each-two (λ m. (m.s == l.s) ≡ false) (λ m. find (λ k. k.s == m.s) ls ≡ Some m) (λ m. find (λ k. k.s == m.s) (l ∷ ls) ≡ Some m)
      (λ m apart found. ap (λ b. cond b (Some l) (find (λ k. k.s == m.s) ls)) (turned l.s m.s apart) ∙ found) ls h.0 (finds-each ls h.1),
)

-- each offer is on the link
pub offer-on-link : (setup : Setup) (stage : Stage) (past : List Entry) → IsWorld setup stage past → (x : Side) (s : ℕ) (q : Offered) → offered x s past ≡ Some q → q.link ≡ the_link
offer-on-link setup stage past w x s q e = let h = w.sockets s in let at = h.stands in offer-link h.at x q (sym (at.offer x) ∙ e)

-- each lending is that of an offer
of-offer : (setup : Setup) (stage : Stage) (past : List Entry) → IsWorld setup stage past → (x : Side) (l : Lending) → find (λ m. m.s == l.s) (lendings x past) ≡ Some l → IsOfOffer x past l
of-offer setup stage past w x l e = by_offer (offered x l.s past) refl (sym (found-lending x l.s past) ∙ e)
  where
    by_offer : (o : Option Offered) → offered x l.s past ≡ o → option_map (lends-for l.s) o ≡ Some l → IsOfOffer x past l
    by_offer None f g = cc
    by_offer (Some q) f g =
        let link : q.link ≡ the_link = offer-on-link setup stage past w x l.s q f in
        let is : l ≡ lends-for l.s q = cc in
        (q.offer, (f ∙ ap (λ n. let r : Offered = record { link = n; offer = q.offer } in Some r) link, is ∙ ap (λ n. lends_by l.s n q.offer) link))

pub each-of-offer : (setup : Setup) (stage : Stage) (past : List Entry) → IsWorld setup stage past → (x : Side) → HaveSockets (lendings x past) → EachLending (IsOfOffer x past) (lendings x past)
each-of-offer setup stage past w x h =
    each-map (λ l. find (λ m. m.s == l.s) (lendings x past) ≡ Some l) (IsOfOffer x past) (of-offer setup stage past w x) (lendings x past) (finds-each (lendings x past) h)

-- what is lent was lent
pub sub-lent : (setup : Setup) (payload : List ℕ) (x : Side) (P : Lending → Type 0) (past : List Entry) → EachLending P (lendings x past) → EachLending P (lent setup payload x past)
sub-lent setup payload x P [] a = tt
sub-lent setup payload x P (e ∷ older) a =
    each-append P (filter_map (lends x) e.posts) (filter (λ l. not (returns setup payload x e older l)) (lent setup payload x older))
    (each-front P (filter_map (lends x) e.posts) (lendings x older) a)
    (each-filter P (λ l. not (returns setup payload x e older l)) (lent setup payload x older) (sub-lent setup payload x P older (each-back P (filter_map (lends x) e.posts) (lendings x older) a)))

-- places stay apart as lendings end, and as a free one is lent
places-filter : (f : Lending → Bool) (ls : List Lending) → HavePlaces ls → HavePlaces (filter f ls)
places-filter f [] h = tt
places-filter f (l ∷ ls) h = by_test (f l) (places-filter f ls h.1)
  where
    by_test : (b : Bool) → HavePlaces (filter f ls) → HavePlaces (cond b (l ∷ filter f ls) (filter f ls))
    by_test true r = (each-filter (λ m. same_place l.place m.place ≡ false) f ls h.0, r)
    by_test false r = r

pub free-apart : (p : Place) (ls : List Lending) → is_free (lent_places ls) p ≡ true → EachLending (λ m. same_place p m.place ≡ false) ls
free-apart p [] e = tt
free-apart p (l ∷ ls) e = by_test (same_place p l.place) refl e (free-apart p ls)
  where
    by_test : (b : Bool) → same_place p l.place ≡ b → not (b || list_any (same_place p) (lent_places ls)) ≡ true → (is_free (lent_places ls) p ≡ true → EachLending (λ m. same_place p m.place ≡ false) ls)
        → EachLending (λ m. same_place p m.place ≡ false) (l ∷ ls)
    by_test true f h rest = cc
    by_test false f h rest = (f, rest h)

-- what one entry makes of them
module _ (setup : Setup) (one : IsOneLink setup) (payload : List ℕ) (x : Side) (e : Entry) (older : List Entry) where
  rmbs : (y : Side) → rmbs_of setup y ≡ 1
  rmbs A = one.rmbs_a
  rmbs B = one.rmbs_b

  pub lendings-on : (n : ℕ) (stage : Stage) → IsWorld setup stage (e ∷ older) → Fits setup n e.event → Begins setup payload x e older → AreLendings setup payload x older → AreLendings setup payload x (e ∷ older)
  lendings-on n stage w built (BeginsNone none) a =
      let same : lendings x (e ∷ older) ≡ lendings x older = ap (λ (ls : List Lending). ls ++ lendings x older) none in
      let sockets : HaveSockets (lendings x (e ∷ older)) = subst (λ (ls : List Lending). HaveSockets ls) (sym same) a.sockets in
      record {
        counted = subst (λ (ls : List Lending). AreCounted ls) (sym same) a.counted;
        sockets = sockets;
        few = subst (λ (ls : List Lending). EachLending (λ l. l.s < setup.sockets) ls) (sym same) a.few;
        offers = each-of-offer setup stage (e ∷ older) w x sockets;
        places = subst (λ (ls : List Lending). HavePlaces (ls ++ filter (λ l. not (returns setup payload x e older l)) (lent setup payload x older))) (sym none) (places-filter (λ l. not (returns setup payload x e older l)) (lent setup payload x older) a.places);
      }
  lendings-on n stage w built (BeginsOne s dir o event begun none free token) a =
      let same : lendings x (e ∷ older) ≡ lends_by s the_link o ∷ lendings x older = ap (λ (ls : List Lending). ls ++ lendings x older) begun in
      let apart : EachLending (λ m. (m.s == s) ≡ false) (lendings x older) = not-among s (lendings x older) (found-lending x s older ∙ ap (λ (q : Option Offered). option_map (lends-for s) q) none) in
      let sockets : HaveSockets (lendings x (e ∷ older)) = subst (λ (ls : List Lending). HaveSockets ls) (sym same) (apart, a.sockets) in
      let low : s < setup.sockets = subst (Fits setup n) event built in
      let place : IsFree setup payload x older (offered_place o) = is-free setup payload x older (rmbs x) (offered_place o) free in
      record {
        counted = subst (λ (ls : List Lending). AreCounted ls) (sym same) (token, a.counted);
        sockets = sockets;
        few = subst (λ (ls : List Lending). EachLending (λ l. l.s < setup.sockets) ls) (sym same) (low, a.few);
        offers = each-of-offer setup stage (e ∷ older) w x sockets;
        places = subst (λ (ls : List Lending). HavePlaces (ls ++ filter (λ l. not (returns setup payload x e older l)) (lent setup payload x older))) (sym begun) (
          each-filter (λ m. same_place (offered_place o) m.place ≡ false) (λ l. not (returns setup payload x e older l)) (lent setup payload x older) (free-apart (offered_place o) (lent setup payload x older) place.free),
          places-filter (λ l. not (returns setup payload x e older l)) (lent setup payload x older) a.places,
        );
      }

-- after every history that is played
pub played-lendings : (setup : Setup) → IsOneLink setup → (payload : List ℕ) (past : List Entry) (n : ℕ) → IsPlayed setup payload past n → (x : Side) → AreLendings setup payload x past
played-lendings setup one payload [] n p x = record { counted = tt; sockets = tt; few = tt; offers = tt; places = tt }
played-lendings setup one payload (e ∷ older) n p x =
    let g = played setup one payload older p.0 p.3 in
    let made = p.1 in
    let h = goes setup one payload g.stage p.0 e older made g.world in
    lendings-on setup one payload x e older (length payload) h.stage h.world made.built (h.begins x) (played-lendings setup one payload older p.0 p.3 x)

-- an offer is of a socket that there is
pub offer-known : (setup : Setup) (payload : List ℕ) (x : Side) (past : List Entry) → AreLendings setup payload x past → (s : ℕ) (o : Offered) → offered x s past ≡ Some o → s < setup.sockets
offer-known setup payload x past a s o e = found-each (λ l. l.s < setup.sockets) s (lendings x past) (lends-for s o) a.few (found-lending x s past ∙ ap (λ (q : Option Offered). option_map (lends-for s) q) e)

-- sockets are few, so lendings are
distinct : (ls : List Lending) → HaveSockets ls → IsDistinct (λ a b. a == b) (map (λ l. l.s) ls)
unfolding IsDistinct
distinct [] h = tt
distinct (l ∷ ls) h = IsDistinct-cons _ _ _ (from ls h.0) (distinct ls h.1)
  where
    from : (ms : List Lending) → EachLending (λ m. (m.s == l.s) ≡ false) ms → AllByRecursion (λ k. (l.s == k) ≡ false) (map (λ m. m.s) ms)
    from [] a = tt
    from (m ∷ ms) a = (turned l.s m.s a.0, from ms a.1)

below : (n : ℕ) (ls : List Lending) → EachLending (λ l. l.s < n) ls → (q : ℕ) → list_any (λ m. q == m) (map (λ l. l.s) ls) ≡ true → q < n
below n [] a q h = absurd (let e : false ≡ true = h in cc)
below n (l ∷ ls) a q h = by_test (q == l.s) refl h (below n ls a.1 q)
  where
    by_test : (b : Bool) → (q == l.s) ≡ b → (b || list_any (λ m. q == m) (map (λ l. l.s) ls)) ≡ true → (list_any (λ m. q == m) (map (λ l. l.s) ls) ≡ true → q < n) → q < n
    by_test true e g rest = let same = eqb-true q l.s e in let low = a.0 in omega (arith, same, low)
    by_test false e g rest = rest g

pub at-most : (n : ℕ) (ls : List Lending) → HaveSockets ls → EachLending (λ l. l.s < n) ls → length ls ≤ n
at-most n ls h a =
    let le = length-le_from_distinct_below (map (λ l. l.s) ls) n (distinct ls h) (below n ls a) in
    let same : length (map (λ l. l.s) ls) ≡ length ls = length-map ls (λ l. l.s) in
    omega (arith, le, same)

pub few-lendings : (setup : Setup) (payload : List ℕ) (x : Side) (past : List Entry) → AreLendings setup payload x past → length (lendings x past) ≤ setup.sockets
few-lendings setup payload x past a = at-most setup.sockets (lendings x past) a.sockets a.few

pub room-for-one : (setup : Setup) (payload : List ℕ) (x : Side) (past : List Entry) (s : ℕ) → AreLendings setup payload x past → s < setup.sockets → offered x s past ≡ None → length (lendings x past) < setup.sockets
room-for-one setup payload x past s a low none =
    let l : Lending = record { place = record { rmb = 0; index = 0 }; s = s; group = 0; token = 0 } in
    let apart : EachLending (λ m. (m.s == s) ≡ false) (lendings x past) = not-among s (lendings x past) (found-lending x s past ∙ ap (λ (q : Option Offered). option_map (lends-for s) q) none) in
    let most : length (l ∷ lendings x past) ≤ setup.sockets = at-most setup.sockets (l ∷ lendings x past) (apart, a.sockets) (low, a.few) in
    omega (arith, most)

-- tokens tell sockets apart
found-token : (s : ℕ) (ls : List Lending) (l : Lending) → AreCounted ls → find (λ m. m.s == s) ls ≡ Some l → l.token ≤ length ls
found-token s [] l c e = cc
found-token s (k ∷ ls) l c e = by_test (k.s == s) e (found-token s ls l c.1)
  where
    by_test : (b : Bool) → cond b (Some k) (find (λ m. m.s == s) ls) ≡ Some l → (find (λ m. m.s == s) ls ≡ Some l → l.token ≤ length ls) → l.token ≤ length (k ∷ ls)
    by_test true h rest = let same : k.token ≡ l.token = ap (λ (m : Lending). m.token) (let g : k ≡ l = cc in g) in let token = c.0 in omega (arith, same, token)
    by_test false h rest = let low = rest h in omega (arith, low)

tokens-apart : (s r : ℕ) (ls : List Lending) (l m : Lending) → AreCounted ls → find (λ k. k.s == s) ls ≡ Some l → find (λ k. k.s == r) ls ≡ Some m → l.token ≡ m.token → s ≡ r
tokens-apart s r [] l m c e f same = cc
tokens-apart s r (k ∷ ls) l m c e f same = by_tests (k.s == s) (k.s == r) refl refl e f (λ g h. tokens-apart s r ls l m c.1 g h same)
  where
    by_tests : (a b : Bool) → (k.s == s) ≡ a → (k.s == r) ≡ b → cond a (Some k) (find (λ j. j.s == s) ls) ≡ Some l → cond b (Some k) (find (λ j. j.s == r) ls) ≡ Some m
        → (find (λ j. j.s == s) ls ≡ Some l → find (λ j. j.s == r) ls ≡ Some m → s ≡ r) → s ≡ r
    by_tests true true i j g h rest = sym (eqb-true k.s s i) ∙ eqb-true k.s r j
    by_tests true false i j g h rest =
        let is : k.token ≡ l.token = ap (λ (n : Lending). n.token) (let q : k ≡ l = cc in q) in
        let low = found-token r ls m c.1 h in let token = c.0 in absurd (omega (arith, is, low, token, same))
    by_tests false true i j g h rest =
        let is : k.token ≡ m.token = ap (λ (n : Lending). n.token) (let q : k ≡ m = cc in q) in
        let low = found-token s ls l c.1 g in let token = c.0 in absurd (omega (arith, is, low, token, same))
    by_tests false false i j g h rest = rest g h

pub tokens-tell : (setup : Setup) (payload : List ℕ) (x : Side) (past : List Entry) → AreLendings setup payload x past → (s r : ℕ) (o q : Offered) → offered x s past ≡ Some o → offered x r past ≡ Some q → o.offer.token ≡ q.offer.token → s ≡ r
tokens-tell setup payload x past a s r o q e f same =
    tokens-apart s r (lendings x past) (lends-for s o) (lends-for r q) a.counted
    (found-lending x s past ∙ ap (λ (p : Option Offered). option_map (lends-for s) p) e) (found-lending x r past ∙ ap (λ (p : Option Offered). option_map (lends-for r) p) f) same
