-- The writes of a batch go into the element that the peer offered, and stay so directed as the history grows.
use Rattle.std.proofs.Common.{◌≡◌, ◌∙◌, ℕ, ◌+◌, ◌-◌, ◌%◌, ◌≤◌, ◌<◌, ◌==◌, Bool, true, false, if◌then◌else◌, List, [], ◌∷◌, ◌++◌, length, drop, filter_map, refl, ap, sym, subst, arith, suc, append_assoc, slice_get, length-append, nat_le}
use Rattle.std.specs.Prelude.{Option, Some, option_and_then, is_some}
use Rattle.std.proofs.lemmas.Bool.{leb-true}
use Rattle.std.proofs.lemmas.Nat.{pow_pos}
use Rattle.std.proofs.Math.Nat.{zero-mod}
use Rattle.std.proofs.Math.Seq.{drop-append-add}
use Rattle.smc_num.specs.declared.Side.{Side}
use Rattle.smc_num.specs.Names.{other, head}
use Rattle.smc_num.specs.Places.{Place, element_start, address_of}
use Rattle.cdc_wire.specs.declared.CdcMessage.{CdcMessage}
use Rattle.pipe_model.specs.declared.post.Post.{Post}
use Rattle.pipe_model.specs.declared.post.Post.TheVariants.{Write, Cdc, Llc, Clc}
use Rattle.pipe_model.specs.declared.post.Placed.{Placed}
use Rattle.pipe_model.specs.declared.setup.Setup.{Setup}
use Rattle.pipe_model.specs.declared.entry.Entry.{Entry}
use Rattle.pipe_model.specs.declared.sent.Sent.{Sent}
use Rattle.pipe_model.specs.Words.{element_size}
use Rattle.pipe_model.specs.Snapshot.{spelled, validation}
use Rattle.pipe_model.specs.History.{Offered, offered, entry_at, next_number, numbered}
use Rattle.pipe_model.specs.Parts.{CarriesFew}
use Rattle.pipe_model.specs.Connections.{comes_up, is_up}
use Rattle.pipe_model.specs.Posts.{writes, offered_place, cdc_posts}
use Rattle.pipe_model.specs.Home.{cdc_in, following_cdc}
use Rattle.world_core.specs.OneLink.{the_link, the_key}
use Rattle.world_core.specs.WireSteps.{EachPlaced, EachPost}
use Rattle.world_core.specs.Directed.{GoesHome, IsUnderWay, EachThen}
use Rattle.world_core.proofs.AskedPosts.{IsControl}
use Rattle.world_core.proofs.Carrying.{drop-none}
use Rattle.world_core.proofs.Plain.{or-true}

-- what an entry has, and the entries before it
get-suc : {X : Type 0} (x : X) (xs : List X) (i j : ℕ) → j ≡ suc i → slice_get (x ∷ xs) j ≡ slice_get xs i
get-suc x xs i j e = ap (λ k. slice_get (x ∷ xs) k) e

get-first : {X : Type 0} (x : X) (xs : List X) (j : ℕ) → j ≡ 0 → slice_get (x ∷ xs) j ≡ Some x
get-first x xs j e = ap (λ k. slice_get (x ∷ xs) k) e

entry-stays : (e : Entry) (past : List Entry) (n : ℕ) → n ≤ length past → entry_at n (e ∷ past) ≡ entry_at n past
entry-stays e past n le = get-suc e past (length past - n) (length (e ∷ past) - n) (omega (arith, le))

entry-new : (e : Entry) (past : List Entry) → entry_at (next_number past) (e ∷ past) ≡ Some e
entry-new e past = get-first e past (length (e ∷ past) - (length past + 1)) (omega arith)

-- a directed write stays so
module _ (setup : Setup) (e : Entry) (past : List Entry) (kept : (x : Side) (s : ℕ) (o : Offered) → offered x s past ≡ Some o → offered x s (e ∷ past) ≡ Some o) where
  goes-on : (found now : Option CdcMessage) → now ≡ found → (post : Post) → GoesHome setup found past post → GoesHome setup now (e ∷ past) post
  goes-on found now same (Write from link key address len) d = record {
    s = d.s;
    offer = d.offer;
    message = d.message;
    offered_is = kept (other from) d.s d.offer d.offered_is;
    up = or-true (is_some (comes_up from d.s e past)) (is_up from d.s past) d.up;
    on = d.on;
    key_is = d.key_is;
    from_start = d.from_start;
    to_end = d.to_end;
    found_is = same ∙ d.found_is;
    token = d.token;
  }
  goes-on found now same (Cdc from link m) d = tt
  goes-on found now same (Llc from link m) d = tt
  goes-on found now same (Clc from s link m) d = tt

  pub under-way-still : (c : Placed) → IsUnderWay setup past c → IsUnderWay setup (e ∷ past) c
  under-way-still c w = record {
    within = omega (arith, w.within);
    home = goes-on (following_cdc c.at past) (following_cdc c.at (e ∷ past)) (ap (λ o. option_and_then (λ (f : Entry). head (filter_map cdc_in (drop c.at.post f.posts))) o) (entry-stays e past c.at.entry w.within)) c.post w.home;
  }

-- the new ones are directed by what stands behind them
drop-behind : (xs : List Post) (x : Post) (ys : List Post) (n : ℕ) → n ≡ length xs + 1 → drop n (xs ++ x ∷ ys) ≡ ys
drop-behind xs x ys n e = ap (λ k. drop k (xs ++ x ∷ ys)) e ∙ drop-append-add xs (x ∷ ys) 1 ∙ drop-none ys

pub new-under-way : (setup : Setup) (e : Entry) (past : List Entry) (before posts : List Post) (first : ℕ) → e.posts ≡ before ++ posts → first ≡ length before + 1
    → EachThen (λ post rest. GoesHome setup (head (filter_map cdc_in rest)) (e ∷ past) post) posts → EachPlaced (IsUnderWay setup (e ∷ past)) (numbered (next_number past) first posts)
new-under-way setup e past before [] first p f g = tt
new-under-way setup e past before (post ∷ posts) first p f g =
    let behind : drop first e.posts ≡ posts = ap (λ ps. drop first ps) p ∙ drop-behind before post posts first f in
    let found : head (filter_map cdc_in posts) ≡ following_cdc (record { entry = next_number past; post = first }) (e ∷ past) =
    sym (ap (λ o. option_and_then (λ (g : Entry). head (filter_map cdc_in (drop first g.posts))) o) (entry-new e past) ∙ ap (λ ps. head (filter_map cdc_in ps)) behind) in
    let n : length (before ++ post ∷ []) ≡ length before + 1 = length-append before (post ∷ []) in (
      record {
        within = omega arith;
        home = subst (λ o. GoesHome setup o (e ∷ past) post) found g.0;
      },
      new-under-way setup e past (before ++ post ∷ []) posts (first + 1) (p ∙ sym (append_assoc before (post ∷ []) posts)) (omega (arith, f, n)) g.1,
    )

-- posts of the handshake and the flows in front of others
pub control-front : (setup : Setup) (past : List Entry) (ps qs : List Post) → EachPost IsControl ps → EachThen (λ post rest. GoesHome setup (head (filter_map cdc_in rest)) past post) qs
    → EachThen (λ post rest. GoesHome setup (head (filter_map cdc_in rest)) past post) (ps ++ qs)
control-front setup past [] qs c g = g
control-front setup past (Write from link key address len ∷ ps) qs c g = absurd c.0
control-front setup past (Cdc from link m ∷ ps) qs c g = absurd c.0
control-front setup past (Llc from link m ∷ ps) qs c g = (tt, control-front setup past ps qs c.1 g)
control-front setup past (Clc from s link m ∷ ps) qs c g = (tt, control-front setup past ps qs c.1 g)

-- the bytes of a batch lie in the element: in one piece, or in two of which the second goes round
in-one : (size start from to : ℕ) → from % size + (to - from) ≤ size → (start + from % size) + (to - from) ≤ start + size
in-one size start from to fits = omega (arith, fits)

to-the-end : (size start from : ℕ) → 0 < size → (start + from % size) + (size - from % size) ≤ start + size
to-the-end size start from pos = omega (arith, pos)

gone-round : (size start from to : ℕ) → 0 < size → to ≤ from + size → (start + 0 % size) + (to - from - (size - from % size)) ≤ start + size
gone-round size start from to pos few = let none : 0 % size ≡ 0 = zero-mod size in omega (arith, none, few)

at-front : (size start n : ℕ) → start ≤ start + n % size
at-front size start n = omega arith

-- one batch
module _ (setup : Setup) (x : Side) (s : ℕ) (offer : Offered) (key out : ℕ) (m : Sent) (past : List Entry) (offered_is : offered (other x) s past ≡ Some offer) (up : is_up x s past ≡ true)
    (on : m.link ≡ the_link) (key_is : key ≡ (the_key (other x)).key) (few : CarriesFew (element_size setup) out m) where
  abbrev Size : ℕ
  Size = element_size setup

  abbrev At : Place
  At = offered_place offer.offer

  abbrev Start : ℕ
  Start = element_start Size At

  abbrev Told : Post
  Told = Cdc x m.link (spelled Size offer.offer.token m.snapshot)

  abbrev Goes : Post → List Post → Type 0
  Goes post rest = GoesHome setup (head (filter_map cdc_in rest)) past post

  one-write : (address len : ℕ) (found : Option CdcMessage) → Start ≤ address → address + len ≤ Start + Size → found ≡ Some (spelled Size offer.offer.token m.snapshot) → GoesHome setup found past (Write x m.link key address len)
  one-write address len found low high f = record {
    s = s;
    offer = offer;
    message = spelled Size offer.offer.token m.snapshot;
    offered_is = offered_is;
    up = up;
    on = on;
    key_is = key_is;
    from_start = low;
    to_end = high;
    found_is = f;
    token = refl;
  }

  pos : 0 < Size
  pos = pow_pos (setup.size_code + 14)

  writes-go : (a b : Bool) → (nat_le (m.from % Size + (m.snapshot.told - m.from)) Size) ≡ b
      → EachThen Goes ((if a then [] else if b then Write x m.link key (address_of Size At m.from) (m.snapshot.told - m.from) ∷ [] else
      Write x m.link key (address_of Size At m.from) (Size - m.from % Size) ∷ Write x m.link key (address_of Size At 0) (m.snapshot.told - m.from - (Size - m.from % Size)) ∷ []) ++ Told ∷ [])
  writes-go true b e = (tt, tt)
  writes-go false true e = (
    one-write (address_of Size At m.from) (m.snapshot.told - m.from) _ (at-front Size Start m.from) (in-one Size Start m.from m.snapshot.told (leb-true (m.from % Size + (m.snapshot.told - m.from)) Size e)) refl,
    (tt, tt),
  )
  writes-go false false e = (
    one-write (address_of Size At m.from) (Size - m.from % Size) _ (at-front Size Start m.from) (to-the-end Size Start m.from pos) refl,
    (
      one-write (address_of Size At 0) (m.snapshot.told - m.from - (Size - m.from % Size)) _ (at-front Size Start 0) (gone-round Size Start m.from m.snapshot.told pos few.few) refl,
      (tt, tt),
    ),
  )

  batch-by : (check : Bool) → EachThen Goes (if check then Cdc x m.link (validation Size offer.offer.token m.snapshot) ∷ [] else writes Size x m.link key At m.from m.snapshot.told ++ Told ∷ [])
  batch-by true = (tt, tt)
  batch-by false = writes-go (m.from == m.snapshot.told) (nat_le (m.from % Size + (m.snapshot.told - m.from)) Size) refl

  pub batch-goes : EachThen Goes (cdc_posts Size x key offer.offer m)
  batch-goes = batch-by m.check
