-- What a write brings that lands: the bytes of its end's stream from its count on, into the element that the peer has offered.
use Rattle.std.proofs.Common.{Bool, List, [], ap, arith, drop, eq-eqb, eqb-true, false, if◌then◌else◌, inr, length, length-append, length-drop, map, nat_le, refl, subst, sym, true, true≢false, ℕ, ◌&&◌, ◌++◌, ◌+◌, ◌-◌, ◌<◌, ◌==◌, ◌||◌, ◌∙◌, ◌∷◌, ◌≡◌, ◌≤◌}
use Rattle.std.specs.Prelude.{Some, nat_lt, option_and_then, option_map, slice_index_or, unwrap_or}
use Rattle.std.proofs.lemmas.Bool.{le-leb, lt-ltb}
use Rattle.std.proofs.lemmas.Nat.{pow_pos}
use Rattle.std.proofs.Math.Seq.{drop-append_seam}
use Rattle.smc_num.specs.Keys.{rmbs_bound}
use Rattle.smc_num.specs.Places.{address_of, element_start}
use Rattle.pipe_model.specs.Ends.{fresh}
use Rattle.pipe_model.specs.Parts.{IsCounted}
use Rattle.pipe_model.specs.declared.post.Post.TheVariants.{Write}
use Rattle.pipe_model.specs.declared.sent.Sent.{Sent}
use Rattle.pipe_model.proofs.Pipes.{is-counted, is-marked}
use Rattle.history_laws.specs.Lists.{IsAmong}
use Rattle.history_laws.specs.Made.{IsMadeAll}
use Rattle.history_laws.specs.Wires.{cdcs, message}
use Rattle.history_laws.specs.Words.{CdcMessage, EachOf, Entry, Half, IsFeasible, IsMarked, LinkId, Offered, Place, Placed, PostRef, Setup, Side, Terms, element_size, group_on, half, has, head, is_dead, keys_of, lends_by, lent, offered, offered_place, other, part, pipe_of, record_of, rmb_at, same_link, same_place, stands, table_of, terms_of, to_complete, to_land, unlanded}
use Rattle.history_laws.proofs.Basics.{and-both, by-bool, other-other, same-link, some-is}
use Rattle.link_laws.specs.Awaited.{AreOnKnown}
use Rattle.link_laws.specs.Lasting.{NoneAgain, is_lost}
use Rattle.link_laws.proofs.Joined.{flows-of}
use Rattle.link_laws.proofs.Lasting.{none-again}
use Rattle.lending_laws.proofs.Lendings.{lending-group, names-record}
use Rattle.wire_laws.specs.Agreement.{Agrees, OwedToAgreement}
use Rattle.wire_laws.specs.Memory.{behind, brought, byte_after, carries_from, covers, lands_for, told_next}
use Rattle.wire_laws.specs.Writes.{IsWaitingWrite}
use Rattle.wire_laws.proofs.Agreement.{Holds, now-owed}
use Rattle.wire_laws.proofs.Writes.{IsAimed, alive-stands, all-bound-at, AreBoundAt, IsBoundFor, behind-at, each-behind, each-split, holds-of, is-lent, lending-begun, long-map, once, token-is}
use Rattle.wire_laws.proofs.Memory.Covered.{told-within}
use Rattle.wire_laws.proofs.Memory.Ends.{from-completed, is-onward}
use Rattle.wire_laws.proofs.Memory.Ring.{apart-elements, covers-in, own-place, that-place}

byte-if : (b : Bool) (a c : ℕ) → b ≡ true → (if b then a else c) ≡ a
byte-if true a c e = refl
byte-if false a c e = absurd (true≢false (sym e))

has-self : (r : ℕ) → has r (r ∷ []) ≡ true
has-self r = ap (λ b. b || false) (eq-eqb r r refl)

has-only : (r k : ℕ) → has r (k ∷ []) ≡ true → r ≡ k
has-only r k e = by (r == k) refl e
  where
    by : (b : Bool) → (r == k) ≡ b → (b || false) ≡ true → r ≡ k
    by true q f = eqb-true r k q
    by false q f = absurd (true≢false (sym f))

pub as-many : (landed : ℕ) (earlier : List Sent) (m : Sent) (later sent : List Sent) → sent ≡ earlier ++ m ∷ later → length (drop landed sent) ≡ length (m ∷ later) → drop landed sent ≡ m ∷ later
as-many landed earlier m later sent q long =
    let a : length sent ≡ length earlier + length (m ∷ later) = ap (λ ms. length ms) q ∙ length-append earlier (m ∷ later) in
    let b : length sent - landed ≡ length (m ∷ later) = sym (length-drop landed sent) ∙ long in
    let n : landed ≡ length earlier = omega (arith, a, b) in
    ap (λ ms. drop landed ms) q ∙ (ap (λ k. drop k (earlier ++ m ∷ later)) n ∙ drop-append_seam earlier (m ∷ later))

module _ (setup : Setup) (payload : List ℕ) (past : List Entry) (m : IsMadeAll setup payload past) (known : AreOnKnown setup past) where
  abbrev T : Terms
  T = terms_of setup

  abbrev Size : ℕ
  Size = element_size setup

  h-of : Holds setup payload past
  h-of = holds-of setup payload past m known

  owed : OwedToAgreement setup payload past
  owed = now-owed setup payload past h-of.all

  abbrev H : Side → ℕ → Half
  H x s = half x (pipe_of setup payload (group_on s past) s past)

  feasible : (s : ℕ) → IsFeasible T (part payload (group_on s past) s past)
  feasible s = let a : Agrees setup payload past = h-of.agree in a.feasible s (group_on s past) (inr refl)

  counts : (x : Side) (s : ℕ) → IsCounted Size (H x s) (half (other x) (pipe_of setup payload (group_on s past) s past))
  counts x s = is-counted T x (part payload (group_on s past) s past) (feasible s)

  -- a write that is the first on a link which is not dead
  module _ (x : Side) (link : LinkId) (at : PostRef) (key first len : ℕ) (rest : List Placed) (alive : is_dead link past ≡ false) (q : unlanded link x past ≡ record { at = at; post = Write x link key first len } ∷ rest) where
    kept : is_lost x link past ≡ false
    kept = let again : NoneAgain past = none-again setup payload past m (flows-of setup payload past m) in again.again x link (alive-stands setup payload past m known link alive x)

    there : stands link (table_of (other x) past) ≡ true
    there = alive-stands setup payload past m known link alive (other x)

    waits : IsWaitingWrite x link past at key first len rest
    waits = record { kept = kept; before = []; unlanded_is = q }

    module _ (s : ℕ) (o : Offered) (a : IsAimed setup payload x link past at first len rest s o) where
      -- another account of it is of the same end
      same-socket : (t : ℕ) (r : Offered) → IsAimed setup payload x link past at first len rest t r → t ≡ s
      same-socket t r b = owed.tokens (other x) t s r o b.offered_is a.offered_is
          (sym (token-is Size r.offer.token b.sent) ∙ (ap (λ (c : CdcMessage). c.token) (some-is (message Size r.offer.token b.sent) (message Size o.offer.token a.sent) (sym b.following ∙ a.following)) ∙ token-is Size o.offer.token a.sent))

      bound-to : rmbs_bound key link (keys_of (other x) past).keys ≡ rmb_at o.offer.address ∷ []
      bound-to = by (behind-at (AreBoundAt setup payload x link past) [] (record { at = at; post = Write x link key first len }) rest (unlanded link x past) q (all-bound-at setup payload past m known x link kept))
        where
          by : (t : ℕ) × ((r : Offered) × (IsAimed setup payload x link past at first len rest t r × IsBoundFor setup payload x link past key r)) → rmbs_bound key link (keys_of (other x) past).keys ≡ rmb_at o.offer.address ∷ []
          by (t, (r, (b, u))) =
              let same : r ≡ o = some-is r o (sym (ap (λ k. offered (other x) k past) (sym (same-socket t r b)) ∙ b.offered_is) ∙ a.offered_is) in
              once setup payload past m known x link at key first len rest waits t r b there (u there) ∙ ap (λ (p : Offered). rmb_at p.offer.address ∷ []) same

      pub its-lent : IsAmong (lends_by s o.link o.offer) (lent setup payload (other x) past)
      its-lent = is-lent setup payload past m known x link at key first len rest waits s o a there

      its-group : o.link.group ≡ group_on s past
      its-group = lending-group setup payload past m (other x) (lends_by s o.link o.offer) (lending-begun setup payload past m known (other x) s o a.offered_is)

      named : lands_for setup payload (other x) at past ≡ Some (lends_by s o.link o.offer)
      named = ap (λ f. option_and_then (λ (c : CdcMessage). record_of setup payload (other x) c.token past) f) a.following ∙
          (ap (λ t. record_of setup payload (other x) t past) (token-is Size o.offer.token a.sent) ∙ names-record setup payload past m (other x) (lends_by s o.link o.offer) its-lent)

      -- its message is the next of its end
      pub next-is : to_land (H x s) ≡ a.sent ∷ a.later
      next-is = as-many (H x s).landed a.by.earlier a.sent a.later (H x s).sent a.by.sent_is long
        where
          on-link : (if same_link link (H x s).link then H x s else fresh 0) ≡ H x s
          on-link = ap (λ (b : Bool). if b then H x s else fresh 0) (ap (λ l. same_link link l) a.by.on ∙ same-link link)

          carried-is : cdcs x o.offer.token (unlanded link x past) ≡ map (message Size o.offer.token) (to_land (H x s))
          carried-is = let g : Agrees setup payload past = h-of.agree in let c = g.carried x s o a.offered_is link kept in c.landing ∙ ap (λ k. map (message Size o.offer.token) (to_land k)) on-link

          long : length (to_land (H x s)) ≡ length (a.sent ∷ a.later)
          long = sym (long-map (message Size o.offer.token) (to_land (H x s))) ∙ (ap (λ cs. length cs) (sym carried-is ∙ (ap (λ cs. cdcs x o.offer.token cs) q ∙ a.waiting)) ∙ long-map (message Size o.offer.token) (a.sent ∷ a.later))

      from-is : carries_from (H x s) len (behind at past) ≡ a.count
      from-is =
          let told : told_next (H x s) ≡ a.sent.snapshot.told = ap (λ ms. unwrap_or (option_map (λ (k : Sent). k.snapshot.told) (head ms)) 0) next-is in
          omega (arith, told, a.up_to)

      brought-is : (n : ℕ) → brought setup payload (other x) at past len n (lands_for setup payload (other x) at past) ≡ slice_index_or (H x s).out (a.count + n) 0
      brought-is n =
          ap (λ l. brought setup payload (other x) at past len n l) named ∙
          (ap (λ z. of z o.link.group) (other-other x) ∙ (ap (λ g. of x g) its-group ∙ ap (λ k. slice_index_or (H x s).out (k + n) 0) from-is))
        where
          of : Side → ℕ → ℕ
          of z g = slice_index_or (half z (pipe_of setup payload g s past)).out (carries_from (half z (pipe_of setup payload g s past)) len (behind at past) + n) 0

      abbrev pub After : ℕ → ℕ → ℕ → ℕ
      After rmb address was = byte_after setup payload (other x) rmb address at past was (Some (Write x link key first len))

      byte-is : (rmb address was : ℕ) → After rmb address was ≡ (if has rmb (rmb_at o.offer.address ∷ []) && covers first len address then slice_index_or (H x s).out (a.count + (address - first)) 0 else was)
      byte-is rmb address was =
          ap (λ rs. if has rmb rs && covers first len address then brought setup payload (other x) at past len (address - first) (lands_for setup payload (other x) at past) else was) bound-to ∙
          ap (λ v. if has rmb (rmb_at o.offer.address ∷ []) && covers first len address then v else was) (brought-is (address - first))

      abbrev At : Place
      At = offered_place o.offer

      pos : 0 < Size
      pos = pow_pos (setup.size_code + 14)

      -- the bytes that it carries stand there
      pub own-byte : (n was : ℕ) → a.count ≤ n → n < a.count + len → After At.rmb (address_of Size At n) was ≡ slice_index_or (H x s).out n 0
      own-byte n was low high =
          let p = own-place Size pos At a.count len a.in_one n low high in
          let f : first ≡ address_of Size At a.count = a.address_is in
          let u : nat_le first (address_of Size At n) ≡ true = le-leb first (address_of Size At n) (omega (arith, f, p.0)) in
          let v : nat_lt (address_of Size At n) (first + len) ≡ true = lt-ltb (address_of Size At n) (first + len) (omega (arith, f, p.1.0)) in
          let c : (has At.rmb (At.rmb ∷ []) && covers first len (address_of Size At n)) ≡ true = ap (λ b. b && covers first len (address_of Size At n)) (has-self At.rmb) ∙ (ap (λ b. b && nat_lt (address_of Size At n) (first + len)) u ∙ v) in
          byte-is At.rmb (address_of Size At n) was ∙ (byte-if (has At.rmb (At.rmb ∷ []) && covers first len (address_of Size At n)) (slice_index_or (H x s).out (a.count + (address_of Size At n - first)) 0) was c ∙
          ap (λ k. slice_index_or (H x s).out k 0) (let e : a.count + (address_of Size At n - first) ≡ n = omega (arith, f, p.1.1) in e))

      -- what its peer has not read goes on standing
      not-earlier : (H x s).fin.told ≤ a.count
      not-earlier =
          let f : EachOf (λ k. (H x s).fin.told ≤ k.from) (to_complete (H x s)) = from-completed (H x s) (is-onward T x (part payload (group_on s past) s past)) in
          let k : IsMarked (H x s) = is-marked T x (part payload (group_on s past) s past) (feasible s) in
          let few : length (H x s).sent - (H x s).landed ≡ length (a.sent ∷ a.later) = sym (length-drop (H x s).landed (H x s).sent) ∙ ap (λ ms. length ms) next-is in
          let n : (H x s).fin.told ≤ a.sent.from = each-behind (λ j. (H x s).fin.told ≤ j.from) (H x s).completed a.by.earlier a.sent a.later
          (omega (arith, few, k.completed_landed, ap (λ ms. length ms) a.by.sent_is, length-append a.by.earlier (a.sent ∷ a.later)))
          (subst (λ ms. EachOf (λ j. (H x s).fin.told ≤ j.from) (drop (H x s).completed ms)) a.by.sent_is f) in
          omega (arith, n, a.not_before)

      not-later : a.count + len ≤ length (H x s).out
      not-later =
          let t = each-split (λ k. k.snapshot.told ≤ length (H x s).out) a.by.earlier a.sent a.later (subst (λ ms. EachOf (λ k. k.snapshot.told ≤ length (H x s).out) ms) a.by.sent_is (told-within T x (part payload (group_on s past) s past) (feasible s))) in
          omega (arith, t.0, a.up_to)

      abbrev Stays : ℕ → ℕ → Bool → Type 0
      Stays n was b = (if b then slice_index_or (H x s).out (a.count + (address_of Size At n - first)) 0 else was) ≡ slice_index_or (H x s).out n 0

      pub kept-own : (n was : ℕ) → (half (other x) (pipe_of setup payload (group_on s past) s past)).rd ≤ n → n < length (H x s).out → was ≡ slice_index_or (H x s).out n 0 → After At.rmb (address_of Size At n) was ≡ slice_index_or (H x s).out n 0
      kept-own n was low high stood = byte-is At.rmb (address_of Size At n) was ∙ by-bool (Stays n was (has At.rmb (At.rmb ∷ []) && covers first len (address_of Size At n))) (has At.rmb (At.rmb ∷ []) && covers first len (address_of Size At n)) covered else-where
        where
          covered : (has At.rmb (At.rmb ∷ []) && covers first len (address_of Size At n)) ≡ true → Stays n was (has At.rmb (At.rmb ∷ []) && covers first len (address_of Size At n))
          covered e =
              let c = covers-in first len (address_of Size At n) (and-both (has At.rmb (At.rmb ∷ [])) (covers first len (address_of Size At n)) e).1 in
              let f : first ≡ address_of Size At a.count = a.address_is in
              let k : IsCounted Size (H x s) (half (other x) (pipe_of setup payload (group_on s past) s past)) = counts x s in
              let p : a.count + (address_of Size At n - address_of Size At a.count) ≡ n = that-place Size pos At a.count len a.in_one n (omega (arith, high, k.window_of_completed, not-earlier)) (omega (arith, not-later, k.accepted_fits, low)) (omega (arith, f, c.0)) (omega (arith, f, c.1)) in
              byte-if (has At.rmb (At.rmb ∷ []) && covers first len (address_of Size At n)) (slice_index_or (H x s).out (a.count + (address_of Size At n - first)) 0) was e ∙
              ap (λ i. slice_index_or (H x s).out i 0) (let i : a.count + (address_of Size At n - first) ≡ n = omega (arith, f, p) in i)

          else-where : (has At.rmb (At.rmb ∷ []) && covers first len (address_of Size At n)) ≡ false → Stays n was (has At.rmb (At.rmb ∷ []) && covers first len (address_of Size At n))
          else-where e = ap (λ (b : Bool). if b then slice_index_or (H x s).out (a.count + (address_of Size At n - first)) 0 else was) e ∙ stood

      -- and what stands in another element
      pub kept-else : (place : Place) (address was : ℕ) → 1 ≤ place.index → 1 ≤ At.index → same_place place At ≡ false → element_start Size place ≤ address → address < element_start Size place + Size → After place.rmb address was ≡ was
      kept-else place address was low here differ from to = byte-is place.rmb address was ∙ ap (λ (b : Bool). if b then slice_index_or (H x s).out (a.count + (address - first)) 0 else was) (by-bool _ (has place.rmb (At.rmb ∷ []) && covers first len address) wrong (λ e. e))
        where
          wrong : (has place.rmb (At.rmb ∷ []) && covers first len address) ≡ true → (has place.rmb (At.rmb ∷ []) && covers first len address) ≡ false
          wrong e =
              let b = and-both (has place.rmb (At.rmb ∷ [])) (covers first len address) e in
              let c = covers-in first len address b.1 in
              let r : place.rmb ≡ At.rmb = has-only place.rmb At.rmb b.0 in
              absurd (apart-elements Size pos place At r low here
              (λ i. true≢false (sym (ap (λ d. d && (place.index == At.index)) (eq-eqb place.rmb At.rmb r) ∙ eq-eqb place.index At.index i) ∙ differ))
              address from to (omega (arith, a.from_start, c.0)) (omega (arith, a.to_end, c.1)))
