-- The ends that a manager keeps are sound after each played history: their counts are small, and what they were told fits.
use Rattle.std.proofs.Common.{◌≡◌, ◌∙◌, ◌⊎◌, inl, inr, ℕ, ◌+◌, ◌*◌, ◌^◌, ◌≤◌, ◌<◌, Bool, true, false, List, [], ◌∷◌, ◌++◌, length, reverse, filter_map, nat_lt, refl, ap, sym, subst, true≢false, arith, ltb-true, ltb-false, length-append, mul-le-mul}
use Rattle.std.specs.Prelude.{Option, Some, None, option_map, option_to_list, is_some, unwrap_or}
use Rattle.std.specs.List.{cons_option}
use Rattle.std.proofs.lemmas.List.{length-reverse, get_or_past}
use Rattle.std.proofs.Math.Nat.{pow-le-pow_right}
use Rattle.smc_num.specs.declared.Side.{Side}
use Rattle.smc_num.specs.declared.Side.TheVariants.{A, B}
use Rattle.smc_num.specs.declared.LinkId.{LinkId}
use Rattle.smc_num.specs.Names.{other}
use Rattle.smc_num.specs.Links.{Known}
use Rattle.rmb_region.specs.Regions.{Buffer}
use Rattle.pipe_model.specs.declared.setup.Setup.{Setup}
use Rattle.pipe_model.specs.declared.entry.Entry.{Entry}
use Rattle.pipe_model.specs.Words.{element_size}
use Rattle.pipe_model.specs.Fabric.{peer, table_of}
use Rattle.pipe_model.specs.Ends.{Half}
use Rattle.pipe_model.specs.Pipe.{Item, Up, Pipe, Terms, half}
use Rattle.pipe_model.specs.Parts.{IsCounted}
use Rattle.pipe_model.specs.Connections.{comes_up, ups, fates, fate_of, deeds, items, part, group_on}
use Rattle.pipe_model.specs.Lending.{Lending, lent, terms_of, pipe_of}
use Rattle.pipe_model.proofs.Pipes.{is-counted}
use Rattle.conn_end.specs.Kept.{Kept}
use Rattle.side_core.specs.Records.{Connection, Stands, StandsAt, conn_at}
use Rattle.side_core.specs.Manager.{Manager, Represents}
use Rattle.side_core.specs.Acting.{IsSound, IsSoundAt}
use Rattle.side_core.specs.Setups.{IsSet}
use Rattle.world_core.specs.OneLink.{Stage, NoLink, Begun, Made, Asking, LiveAtA, LiveAtBoth, fabric_at}
use Rattle.world_core.specs.Played.{IsOneLink, IsPlayed}
use Rattle.world_core.specs.Agreement.{IsShaken, GoesOn}
use Rattle.world_core.specs.Hosts.{IsWorldSet}
use Rattle.world_core.specs.Managers.{manager_of, records_of, conn_of, end_of, route_of, lending_on, each_socket}
use Rattle.world_core.proofs.SmallEnds.{small}
use Rattle.world_core.proofs.Parts.{part-open}
use Rattle.world_core.proofs.EntryItems.{items-are, below, below-is}
use Rattle.world_core.proofs.Senders.{DeedsAre, Nothing, Landing, Calling, Completing, deeds-are}
use Rattle.world_core.proofs.PlayedWorlds.{played}
use Rattle.world_core.proofs.Handshaken.{shaken}
use Rattle.world_core.proofs.Pipes.{has-pipe}
use Rattle.world_core.proofs.Tables.{at-socket, sockets-long}

-- how many items an entry gives a connection
few-deeds : (ds : List Item) → DeedsAre ds → length ds ≤ 1
few-deeds ds (Nothing e) = let l : length ds ≡ 0 = ap (λ (is : List Item). length is) e in omega (arith, l)
few-deeds ds (Landing y e) = let l : length ds ≡ 1 = ap (λ (is : List Item). length is) e in omega (arith, l)
few-deeds ds (Calling y call e) = let l : length ds ≡ 1 = ap (λ (is : List Item). length is) e in omega (arith, l)
few-deeds ds (Completing y e) = let l : length ds ≡ 1 = ap (λ (is : List Item). length is) e in omega (arith, l)

few-ups : (f : LinkId → Item) (o : Option LinkId) → length (option_to_list (option_map f o)) ≤ 1
few-ups f None = omega arith
few-ups f (Some link) = omega arith

one-more : (f : Item) (is : List Item) → length (f ∷ is) ≡ length is + 1
one-more f is = omega arith

few-by : (o : Option Item) (is : List Item) (n : ℕ) → length is ≤ n → length (cons_option o is) ≤ n + 1
few-by None is n l = omega (arith, l)
few-by (Some f) is n l = omega (arith, l, one-more f is)

few-found : (f : Known → Option Item) (table : List Known) → length (filter_map f table) ≤ length table
few-found f [] = omega arith
few-found f (k ∷ table) = let more : length (k ∷ table) ≡ length table + 1 = omega arith in omega (arith, few-by (f k) (filter_map f table) (length table) (few-found f table), more)

at-most-one : (table : List Known) → (length table ≡ 0) ⊎ (length table ≡ 1) → length table ≤ 1
at-most-one table (inl e) = omega (arith, e)
at-most-one table (inr e) = omega (arith, e)

few-known : (stage : Stage) (x : Side) → (length (peer x (fabric_at stage)).table ≡ 0) ⊎ (length (peer x (fabric_at stage)).table ≡ 1)
few-known NoLink A = inl refl
few-known NoLink B = inl refl
few-known (Begun s) A = inl refl
few-known (Begun s) B = inl refl
few-known (Made s) A = inr refl
few-known (Made s) B = inr refl
few-known (Asking s qp) A = inr refl
few-known (Asking s qp) B = inr refl
few-known (LiveAtA s qp) A = inr refl
few-known (LiveAtA s qp) B = inr refl
few-known (LiveAtBoth s) A = inr refl
few-known (LiveAtBoth s) B = inr refl

two-lists : (is js : List Item) → length is ≤ 1 → length js ≤ 1 → length (reverse (is ++ js)) ≤ 2
two-lists is js l m = let r : length (reverse (is ++ js)) ≡ length (is ++ js) = length-reverse (is ++ js) in let a : length (is ++ js) ≡ length is + length js = length-append is js in omega (arith, l, m, r, a)

module _ (setup : Setup) (one : IsOneLink setup) (payload : List ℕ) where
  few-fates : (x : Side) (group : ℕ) (e : Entry) (past : List Entry) (n : ℕ) → IsPlayed setup payload (e ∷ past) n → length (fates x group e past) ≤ 1
  few-fates x group e past n p =
      let w = played setup one payload (e ∷ past) n p in
      let world = w.world in
      let link = world.link in
      let t : length (table_of x (e ∷ past)) ≡ length (peer x (fabric_at w.stage)).table = ap (λ f. length (peer x f).table) link.fabric_is in
      omega (arith, few-found (fate_of x group (table_of x past)) (table_of x (e ∷ past)), t, at-most-one (peer x (fabric_at w.stage)).table (few-known w.stage x))

  few-below : (group s : ℕ) (e : Entry) (past : List Entry) (n : ℕ) → IsPlayed setup payload (e ∷ past) n → GoesOn e past → length (below group s e past) ≤ 4
  few-below group s e past n p g =
      let l : length (below group s e past) ≡ length (reverse (ups A s e past ++ ups B s e past) ++ reverse (fates A group e past ++ fates B group e past)) = ap (λ (is : List Item). length is) (below-is group s e past g) in
      let a : length (reverse (ups A s e past ++ ups B s e past) ++ reverse (fates A group e past ++ fates B group e past)) ≡ length (reverse (ups A s e past ++ ups B s e past)) + length (reverse (fates A group e past ++ fates B group e past))
      = length-append (reverse (ups A s e past ++ ups B s e past)) (reverse (fates A group e past ++ fates B group e past)) in
      let u = two-lists (ups A s e past) (ups B s e past) (few-ups (Up A) (comes_up A s e past)) (few-ups (Up B) (comes_up B s e past)) in
      let f = two-lists (fates A group e past) (fates B group e past) (few-fates A group e past n p) (few-fates B group e past n p) in
      omega (arith, l, a, u, f)

  few-items : (group s : ℕ) (e : Entry) (past : List Entry) (n : ℕ) → IsPlayed setup payload (e ∷ past) n → GoesOn e past → length (items payload group s e past) ≤ 5
  few-items group s e past n p g =
      let m = p.1 in
      let l : length (items payload group s e past) ≡ length (deeds payload s e.event e.reply past ++ below group s e past) = ap (λ (is : List Item). length is) (items-are payload group s e past) in
      let a : length (deeds payload s e.event e.reply past ++ below group s e past) ≡ length (deeds payload s e.event e.reply past) + length (below group s e past) = length-append (deeds payload s e.event e.reply past) (below group s e past) in
      let d = few-deeds (deeds payload s e.event e.reply past) (deeds-are setup payload s e.event e.reply past m.built) in
      omega (arith, l, a, d, few-below group s e past n p g)

  -- a part is not much longer than its history
  few-in-part : (group s : ℕ) (past : List Entry) (n : ℕ) → IsPlayed setup payload past n → IsShaken setup past → length (part payload group s past) ≤ 5 * length past
  few-in-part group s [] n p h = omega arith
  few-in-part group s (e ∷ past) n p h =
      let r = h.1 in
      let q = r.1 in
      let a : length (items payload group s e past ++ part payload group s past) ≡ length (items payload group s e past) + length (part payload group s past) = length-append (items payload group s e past) (part payload group s past) in
      let i = few-items group s e past n p q.0 in
      let rest = few-in-part group s past p.0 p.3 q.1 in
      let more : length (e ∷ past) ≡ length past + 1 = omega arith in
      omega (arith, a, i, rest, more)

-- that the counts of a plain end are small, and what it was told fits
pub record IsSoundHalf (size : ℕ) (h : Half) : Type 0 where
  pub out_few : length h.out < 2 ^ 63
  pub number_few : h.number < 2 ^ 63
  pub fits : h.taken.told ≤ h.rd + size

told-fits : (size : ℕ) (x : Side) (p : Pipe) → IsCounted size (half (other x) p) (half (other (other x)) p) → (half x p).taken.told ≤ (half x p).rd + size
told-fits size A p c = c.taken_fits
told-fits size B p c = c.taken_fits

power-le : (a b : ℕ) → a ≤ b → 2 ^ a ≤ 2 ^ b
power-le a b l = pow-le-pow_right (omega arith) l

small-size : (size : ℕ) (items : ℕ) → size ≤ 524_288 → items ≤ 1_310_720 → size * items < 2 ^ 63
small-size size items s i = let m : size * items ≤ 524_288 * 1_310_720 = mul-le-mul s i in omega (arith, m)

module _ (setup : Setup) (payload : List ℕ) (set : IsWorldSet setup payload) (past : List Entry) (n : ℕ) (p : IsPlayed setup payload past n) (few : length past ≤ 2 ^ 18) where
  -- each end of a connection is
  pub sound-half : (x : Side) (s : ℕ) → IsSoundHalf (element_size setup) (end_of setup payload x s past)
  sound-half x s =
      let group : ℕ = group_on s past in
      let h = shaken setup set.one payload past n p in
      let q = has-pipe setup payload s past n p h in
      let can = q.can_be in
      let w = small (terms_of setup) x (part payload group s past) (part-open setup payload group s past n p h) in
      let i = few-in-part setup set.one payload group s past n p h in
      let of_set : IsSet setup x = set.set x in
      let size : element_size setup ≤ 2 ^ 19 = power-le (setup.size_code + 14) 19 (omega (arith, of_set.size)) in
      let bytes : element_size setup * length (part payload group s past) < 2 ^ 63 = small-size (element_size setup) (length (part payload group s past)) (omega (arith, size)) (omega (arith, i, few)) in
      record {
        out_few = omega (arith, bytes, w.out_few);
        number_few = omega (arith, w.number_few, i, few, of_set.most);
        fits = told-fits (element_size setup) x (pipe_of setup payload group s past) (is-counted (terms_of setup) (other x) (part payload group s past) can.feasible);
      }

-- what stands for a sound plain end is sound
sound-kept : (size : ℕ) (k : Connection Kept) (c : Connection Half) → Stands k c → IsSoundHalf size c.end → IsSound size k.end
sound-kept size k c st h =
    let e = st.end in
    let number = e.number in
    let taken : k.end.course.taken.told ≡ c.end.taken.told = ap (λ t. t.told) e.taken in
    let read = e.read in
    let accepted = e.accepted in
    record { accepted = omega (arith, accepted, h.out_few); number = omega (arith, number, h.number_few); fits = omega (arith, taken, read, h.fits) }

sound-by : (size : ℕ) (ok : Option (Connection Kept)) (oc : Option (Connection Half)) → StandsAt ok oc → ((c : Connection Half) → oc ≡ Some c → IsSoundHalf size c.end) → IsSoundAt size ok
sound-by size None None st f = tt
sound-by size None (Some c) st f = tt
sound-by size (Some k) None st f = absurd st
sound-by size (Some k) (Some c) st f = sound-kept size k c st (f c refl)

-- the connection of a socket, where one is kept
module _ (setup : Setup) (payload : List ℕ) (x : Side) (past : List Entry) where
  end-by : (s : ℕ) (o : Option Lending) (c : Connection Half) → option_map (λ l. let c : Connection Half = record { route = route_of x s past l; end = end_of setup payload x s past } in c) o ≡ Some c → c.end ≡ end_of setup payload x s past
  end-by s None c e = absurd (true≢false (sym (ap (λ (q : Option (Connection Half)). is_some q) e)))
  end-by s (Some l) c e = sym (the-end (record { route = route_of x s past l; end = end_of setup payload x s past }) c e)
    where
      the-end : (a b : Connection Half) → Some a ≡ Some b → a.end ≡ b.end
      the-end a b e = ap (λ (q : Option (Connection Half)). unwrap_or (option_map (λ c. c.end) q) a.end) e

  pub conn-end : (s : ℕ) (c : Connection Half) → conn_at s (records_of setup payload x past) ≡ Some c → (s < setup.sockets) × (c.end ≡ end_of setup payload x s past)
  conn-end s c e = by (nat_lt s setup.sockets) refl
    where
      all : List (Option (Connection Half))
      all = each_socket (conn_of setup payload x past) setup.sockets

      by : (b : Bool) → nat_lt s setup.sockets ≡ b → (s < setup.sockets) × (c.end ≡ end_of setup payload x s past)
      by true t = let l = ltb-true s setup.sockets t in (l, end-by s (lending_on s (lent setup payload x past)) c (sym (at-socket (conn_of setup payload x past) setup.sockets s None l) ∙ e))
      by false t = absurd (true≢false (sym (ap (λ (q : Option (Connection Half)). is_some q) (sym (get_or_past all s None (let l : length all ≡ setup.sockets = sockets-long (conn_of setup payload x past) setup.sockets in omega (arith, l, ltb-false s setup.sockets t))) ∙ e))))

module _ (setup : Setup) (payload : List ℕ) (set : IsWorldSet setup payload) (past : List Entry) (n : ℕ) (p : IsPlayed setup payload past n) (few : length past ≤ 2 ^ 18) where
  -- so each end that is kept is sound
  pub sound-at : (x : Side) (regions : List Buffer) (v : Manager Kept) → Represents v (manager_of setup payload regions x past) → (s : ℕ) → IsSoundAt v.records.terms.size (conn_at s v.records)
  sound-at x regions v st s =
      let w = st.works in
      let r = w.records in
      subst (λ (t : Terms). IsSoundAt t.size (conn_at s v.records)) (sym r.terms)
      (sound-by (element_size setup) (conn_at s v.records) (conn_at s (records_of setup payload x past)) (r.each s)
      (λ c e. let k = conn-end setup payload x past s c e in subst (λ h. IsSoundHalf (element_size setup) h) (sym k.1) (sound-half setup payload set past n p few x s)))
