-- Each write that waits on a link which its side has not lost goes into an element that the peer has lent, unless the group has ended there.
use Rattle.std.proofs.Common.{Bool, List, [], ap, append_assoc, arith, drop, false, filter, if◌then◌else◌, inl, inr, length, length-append, length-drop, map, refl, subst, suc, sym, true, true≢false, zero, ℕ, ◌++◌, ◌+◌, ◌-◌, ◌∙◌, ◌∷◌, ◌≡◌, ◌≤◌, ◌⊎◌, ◌&&◌, ◌==◌}
use Rattle.std.specs.Prelude.{Some, is_some, unwrap_or}
use Rattle.std.specs.List.{cons_option}
use Rattle.pipe_model.specs.Ends.{fresh}
use Rattle.pipe_model.specs.Parts.{CarriesNone}
use Rattle.pipe_model.specs.declared.post.Post.TheVariants.{Clc, Write}
use Rattle.pipe_model.specs.declared.sent.Sent.{Sent}
use Rattle.history_laws.specs.Words.{Cdc, CdcMessage, EachOf, Entry, Half, Lending, LinkId, Llc, Offered, Placed, Post, PostRef, Setup, Side, element_size, group_on, half, has_ended, head, is_on, lendings, lends_by, lent, next_number, numbered, offered, other, pipe_of, same_link, same_side, spelled, to_land, unlanded, validation}
use Rattle.history_laws.specs.Lists.{IsAmong}
use Rattle.history_laws.specs.Made.{IsMadeAll}
use Rattle.history_laws.specs.Wires.{EachPlaced, cdc_under, cdcs, if_meant, leaving, message}
use Rattle.history_laws.proofs.Wires.{placed-append, placed-drop}
use Rattle.history_laws.proofs.Basics.{and-both, cdcs-append, link-is, other-other, same-is, same-link}
use Rattle.link_laws.specs.Awaited.{AreOnKnown}
use Rattle.lending_laws.specs.Lendings.{AreDone, AreLendings, HasReturned}
use Rattle.lending_laws.specs.Owed.{OwedLendings}
use Rattle.lending_laws.proofs.Lendings.{all-lendings, all-owed, are-done-all, peer-quiet}
use Rattle.wire_laws.specs.Agreement.{Agrees}
use Rattle.wire_laws.specs.Writes.{GoesToLent, HasMessage, IsWaitingWrite}
use Rattle.wire_laws.proofs.FreedKeys.{owed-from}
use Rattle.wire_laws.proofs.Agreement.{Holds}
use Rattle.wire_laws.proofs.Writes.Aimed.{Aims, IsAimed, all-aimed}
use Rattle.wire_laws.proofs.Writes.Groups.{holds-of, plain-of}
use Rattle.wire_laws.proofs.Writes.NewWrites.{behind-at}

-- the posts on a link are its side's own, on that link
on-filter : (link : LinkId) (x : Side) (cs : List Placed) → EachPlaced (λ c. is_on link x c.post ≡ true) (filter (λ c. is_on link x c.post) cs)
on-filter link x [] = tt
on-filter link x (c ∷ cs) = by (is_on link x c.post) refl (on-filter link x cs)
  where
    by : (b : Bool) → is_on link x c.post ≡ b → EachPlaced (λ d. is_on link x d.post ≡ true) (filter (λ d. is_on link x d.post) cs) → EachPlaced (λ d. is_on link x d.post ≡ true) (if b then c ∷ filter (λ d. is_on link x d.post) cs else filter (λ d. is_on link x d.post) cs)
    by true e rest = (e, rest)
    by false e rest = rest

pub all-on-wire : (link : LinkId) (x : Side) (past : List Entry) → EachPlaced (λ c. is_on link x c.post ≡ true) (unlanded link x past)
all-on-wire link x [] = tt
all-on-wire link x (e ∷ past) = placed-append (λ c. is_on link x c.post ≡ true) (drop (leaving link x e past) (unlanded link x past)) (filter (λ c. is_on link x c.post) (numbered (next_number past) 1 e.posts))
    (placed-drop (λ c. is_on link x c.post ≡ true) (leaving link x e past) (unlanded link x past) (all-on-wire link x past)) (on-filter link x (numbered (next_number past) 1 e.posts))

placed-behind : (P : Placed → Type 0) (front rest : List Placed) → EachPlaced P (front ++ rest) → EachPlaced P rest
placed-behind P [] rest a = a
placed-behind P (c ∷ front) rest a = placed-behind P front rest a.1

-- so is each of them
pub on-wire-at : (link : LinkId) (x : Side) (past : List Entry) (front : List Placed) (c : Placed) (rest : List Placed) → unlanded link x past ≡ front ++ c ∷ rest → is_on link x c.post ≡ true
on-wire-at link x past front c rest q = (placed-behind (λ d. is_on link x d.post ≡ true) front (c ∷ rest) (subst (λ cs. EachPlaced (λ d. is_on link x d.post ≡ true) cs) q (all-on-wire link x past))).0

-- the first CDC message under a token among some posts is one of them
among-posts : (link : LinkId) (x : Side) (token : ℕ) (m : CdcMessage) (ms : List CdcMessage) (cs : List Placed) → EachPlaced (λ c. is_on link x c.post ≡ true) cs → cdcs x token cs ≡ m ∷ ms → IsAmong (Cdc x link m) (map (λ c. c.post) cs)
among-posts link x token m ms [] on e = absurd (true≢false (ap (λ ns. is_some (head ns)) (sym e)))
among-posts link x token m ms (c ∷ cs) on e = by c.post on.0 e (λ f. among-posts link x token m ms cs on.1 f)
  where
    by : (post : Post) → is_on link x post ≡ true → cons_option (cdc_under x token post) (cdcs x token cs) ≡ m ∷ ms → (cdcs x token cs ≡ m ∷ ms → IsAmong (Cdc x link m) (map (λ d. d.post) cs)) → IsAmong (Cdc x link m) (post ∷ map (λ d. d.post) cs)
    by (Write from l key address len) o f again = inr (again f)
    by (Llc from l n) o f again = inr (again f)
    by (Clc from s l n) o f again = inr (again f)
    by (Cdc from l n) o f again = meant (same_side x from && (token == n.token)) f
      where
        meant : (b : Bool) → cons_option (if_meant b n) (cdcs x token cs) ≡ m ∷ ms → IsAmong (Cdc x link m) (Cdc from l n ∷ map (λ d. d.post) cs)
        meant false g = inr (again g)
        meant true g =
            let b = and-both (same_side x from) (same_link link l) o in
            inl (ap (λ k. Cdc x link k) (sym (ap (λ ns. unwrap_or (head ns) n) g)) ∙ (ap (λ z. Cdc z link n) (same-is x from b.0) ∙ ap (λ k. Cdc from k n) (link-is link l b.1)))

-- what is behind the first ones that have landed is still to land
pub each-behind : (P : Sent → Type 0) (n : ℕ) (ms : List Sent) (m : Sent) (rest : List Sent) → n ≤ length ms → EachOf P (drop n (ms ++ m ∷ rest)) → P m
each-behind P zero [] m rest l a = a.0
each-behind P zero (k ∷ ms) m rest l a = each-behind P zero ms m rest (omega arith) (tail ms a)
  where
    tail : (ns : List Sent) → EachOf P (k ∷ (ns ++ m ∷ rest)) → EachOf P (drop 0 (ns ++ m ∷ rest))
    tail [] b = b.1
    tail (j ∷ ns) b = b.1
each-behind P (suc n) [] m rest l a = absurd (omega (arith, l))
each-behind P (suc n) (k ∷ ms) m rest l a = each-behind P n ms m rest (omega (arith, l)) a

pub long-map : {X Y : Type 0} (f : X → Y) (xs : List X) → length (map f xs) ≡ length xs
long-map f [] = refl
long-map f (x ∷ xs) = ap suc (long-map f xs)

pub token-is : (size token : ℕ) (m : Sent) → (message size token m).token ≡ token
token-is size token m = by m.check
  where
    by : (b : Bool) → (if b then validation size token m.snapshot else spelled size token m.snapshot).token ≡ token
    by true = refl
    by false = refl

module _ (setup : Setup) (payload : List ℕ) (past : List Entry) (m : IsMadeAll setup payload past) (known : AreOnKnown setup past) where
  abbrev Size : ℕ
  Size = element_size setup

  abbrev pub AimedAt : Side → LinkId → PostRef → ℕ → ℕ → List Placed → Type 0
  AimedAt x link at address len behind = (s : ℕ) × ((o : Offered) × IsAimed setup payload x link past at address len behind s o)

  pub aimed-at : (x : Side) (link : LinkId) (at : PostRef) (key address len : ℕ) (behind : List Placed) → IsWaitingWrite x link past at key address len behind → AimedAt x link at address len behind
  aimed-at x link at key address len behind w =
      behind-at (Aims setup payload x link past) w.before (record { at = at; post = Write x link key address len }) behind (unlanded link x past) w.unlanded_is (all-aimed setup payload past m (plain-of setup payload past m known) x link w.kept)

  -- its message stands behind it
  pub has-message : (x : Side) (link : LinkId) (at : PostRef) (key address len : ℕ) (behind : List Placed) → IsWaitingWrite x link past at key address len behind → HasMessage x link past at behind
  has-message x link at key address len behind w = by (aimed-at x link at key address len behind w)
    where
      on : EachPlaced (λ c. is_on link x c.post ≡ true) behind
      on = placed-behind (λ c. is_on link x c.post ≡ true) (w.before ++ record { at = at; post = Write x link key address len } ∷ []) behind
          (subst (λ cs. EachPlaced (λ c. is_on link x c.post ≡ true) cs) (w.unlanded_is ∙ sym (append_assoc w.before (record { at = at; post = Write x link key address len } ∷ []) behind)) (all-on-wire link x past))

      by : AimedAt x link at address len behind → HasMessage x link past at behind
      by (s, (o, a)) = record {
        message = message Size o.offer.token a.sent;
        following = a.following;
        under_way = among-posts link x o.offer.token (message Size o.offer.token a.sent) (map (message Size o.offer.token) a.later) behind on a.waiting;
      }

  agree : Agrees setup payload past
  agree = let h : Holds setup payload past = holds-of setup payload past m known in h.agree

  -- what it tells has not landed
  under-way : (x : Side) (link : LinkId) (at : PostRef) (key address len : ℕ) (behind : List Placed) (w : IsWaitingWrite x link past at key address len behind) (s : ℕ) (o : Offered) (a : IsAimed setup payload x link past at address len behind s o)
      → (P : Sent → Type 0) → EachOf P (to_land (half x (pipe_of setup payload (group_on s past) s past))) → P a.sent
  under-way x link at key address len behind w s o a P each =
      each-behind P h.landed a.by.earlier a.sent a.later (omega (arith, few, long, ap (λ ms. length ms) a.by.sent_is, length-append a.by.earlier (a.sent ∷ a.later)))
      (subst (λ ms. EachOf P (drop h.landed ms)) a.by.sent_is each)
    where
      h : Half
      h = half x (pipe_of setup payload (group_on s past) s past)

      it : Placed
      it = record { at = at; post = Write x link key address len }

      on-link : (if same_link link h.link then h else fresh 0) ≡ h
      on-link = ap (λ (b : Bool). if b then h else fresh 0) (ap (λ l. same_link link l) a.by.on ∙ same-link link)

      carried : cdcs x o.offer.token (unlanded link x past) ≡ map (message Size o.offer.token) (to_land h)
      carried = let c = agree.carried x s o a.offered_is link w.kept in c.landing ∙ ap (λ k. map (message Size o.offer.token) (to_land k)) on-link

      long : length (cdcs x o.offer.token (unlanded link x past)) ≡ length h.sent - h.landed
      long = ap (λ ms. length ms) carried ∙ (long-map (message Size o.offer.token) (to_land h) ∙ length-drop h.landed h.sent)

      parts : cdcs x o.offer.token (unlanded link x past) ≡ cdcs x o.offer.token w.before ++ (message Size o.offer.token a.sent ∷ map (message Size o.offer.token) a.later)
      parts = ap (λ cs. cdcs x o.offer.token cs) w.unlanded_is ∙ (cdcs-append x o.offer.token w.before (it ∷ behind) ∙ ap (λ cs. cdcs x o.offer.token w.before ++ cs) a.waiting)

      few : length a.later + 1 ≤ length (cdcs x o.offer.token (unlanded link x past))
      few = omega (arith, ap (λ ms. length ms) parts, length-append (cdcs x o.offer.token w.before) (message Size o.offer.token a.sent ∷ map (message Size o.offer.token) a.later), long-map (message Size o.offer.token) a.later)

  lendings-owed : OwedLendings setup payload past
  lendings-owed = all-owed setup payload past m (owed-from setup payload past m known)

  abbrev pub ItsLending : ℕ → Offered → Lending
  ItsLending s o = lends_by s o.link o.offer

  pub lending-begun : (x : Side) (s : ℕ) (o : Offered) → offered x s past ≡ Some o → IsAmong (ItsLending s o) (lendings x past)
  lending-begun x s o f = let l : AreLendings x past = all-lendings setup payload past m x in l.offer_of s o f

  -- the element is lent
  pub lent-for : (x : Side) (link : LinkId) (at : PostRef) (key address len : ℕ) (behind : List Placed) → IsWaitingWrite x link past at key address len behind → (s : ℕ) (o : Offered) → IsAimed setup payload x link past at address len behind s o
      → has_ended (other x) o.link.group past ≡ false → IsAmong (ItsLending s o) (lent setup payload (other x) past)
  lent-for x link at key address len behind w s o a ended = by (let d : AreDone setup payload (other x) past = are-done-all setup payload past m (owed-from setup payload past m known) (other x) in d.returned (ItsLending s o) begun)
    where
      begun : IsAmong (ItsLending s o) (lendings (other x) past)
      begun = lending-begun (other x) s o a.offered_is

      by : IsAmong (ItsLending s o) (lent setup payload (other x) past) ⊎ HasReturned setup payload (other x) (ItsLending s o) past → IsAmong (ItsLending s o) (lent setup payload (other x) past)
      by (inl i) = i
      by (inr r) =
          let quiet = peer-quiet setup payload past m lendings-owed (other x) (ItsLending s o) begun r ended in
          absurd (a.some (under-way x link at key address len behind w s o a CarriesNone (subst (λ z. EachOf CarriesNone (to_land (half z (pipe_of setup payload (group_on s past) s past)))) (other-other x) quiet)))

  abbrev pub goes-by : (x : Side) (link : LinkId) (at : PostRef) (key address len : ℕ) (behind : List Placed) → IsWaitingWrite x link past at key address len behind → (s : ℕ) (o : Offered) → IsAimed setup payload x link past at address len behind s o
      → GoesToLent setup payload (other x) past at address len
  goes-by x link at key address len behind w s o a = record {
    message = message Size o.offer.token a.sent;
    following = a.following;
    lending = ItsLending s o;
    begun = lending-begun (other x) s o a.offered_is;
    named = sym (token-is Size o.offer.token a.sent);
    from_start = a.from_start;
    to_end = a.to_end;
    lent_now = λ ended. lent-for x link at key address len behind w s o a ended;
  }

  pub goes-to-lent : (x : Side) (link : LinkId) (at : PostRef) (key address len : ℕ) (behind : List Placed) → IsWaitingWrite x link past at key address len behind → GoesToLent setup payload (other x) past at address len
  goes-to-lent x link at key address len behind w = let q = aimed-at x link at key address len behind w in goes-by x link at key address len behind w q.0 q.1.0 q.1.1
