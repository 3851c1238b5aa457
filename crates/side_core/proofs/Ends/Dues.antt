-- What a batch posts.
-- A reader learns here why its two pieces are the writes of the private pipe, and why nothing is posted that is not due.
use Rattle.std.proofs.Common.{◌≡◌, ◌∙◌, ℕ, ◌+◌, ◌-◌, ◌%◌, ◌<◌, ◌≤◌, nat_le, min, Bool, true, false, ◌&&◌, cond, List, [], ◌∷◌, ◌++◌, length, Option, Some, None, is_some, refl, sym, ap, ap₂, arith, true≢false, inl, inr, unwrap_or}
use Rattle.std.proofs.lemmas.Bool.{cases_lt, cases_eq, eq-eqb, ne_eqb, le-leb, lt-leb}
use Rattle.std.proofs.Math.Nat.{mod-lt}
use Rattle.smc_num.specs.declared.Side.{Side}
use Rattle.smc_num.specs.declared.LinkId.{LinkId}
use Rattle.smc_num.specs.Names.{has_link}
use Rattle.smc_num.specs.Places.{Place, element_start, address_of}
use Rattle.cdc_ring.specs.declared.Piece.{Piece}
use Rattle.clc_wire.specs.declared.offer.Offer.{Offer}
use Rattle.pipe_model.specs.declared.post.Post.{Post}
use Rattle.pipe_model.specs.declared.post.Post.TheVariants.{Write, Cdc}
use Rattle.pipe_model.specs.Snapshot.{spelled}
use Rattle.pipe_model.specs.Ends.{Half, present, batch, is_due}
use Rattle.pipe_model.specs.Posts.{writes, offered_place}
use Rattle.conn_end.specs.declared.answers.Batch.{Batch}
use Rattle.conn_end.specs.Kept.{Kept, Represents}
use Rattle.conn_end.specs.Batches.{front_of, back_of, may_post, owed_alone, message_of, due_with, batch_of}
use Rattle.conn_end.proofs.Arriving.{last_within}
use Rattle.side_core.specs.declared.route.Way.{Way}
use Rattle.side_core.specs.Posting.{due_posts, batch_posts, piece_posts, posts_of_batch}

-- the write of a piece
piece_none : (x : Side) (link : LinkId) (key start : ℕ) (piece : Piece) → piece.len ≡ 0 → piece_posts x link key start piece ≡ []
piece_none x link key start piece none = ap (λ b. cond b [] (Write x link key (start + piece.place) piece.len ∷ [])) (eq-eqb piece.len 0 none)

piece_some : (x : Side) (link : LinkId) (key start place len n : ℕ) → len ≡ n → 0 < n → piece_posts x link key start (record { place = place; len = len }) ≡ Write x link key (start + place) n ∷ []
piece_some x link key start place len n is some =
    ap (λ b. cond b [] (Write x link key (start + place) len ∷ [])) (ne_eqb len 0 (λ none. omega (arith, none, is, some)))
    ∙ ap (λ m. Write x link key (start + place) m ∷ []) is

-- bytes go up to the end of the element, and the rest from its start
module _ (size : ℕ) (x : Side) (link : LinkId) (key : ℕ) (place : Place) (from to : ℕ) (some : 0 < size) where
  inside : from % size < size
  inside = mod-lt from some

  abbrev both : ℕ → ℕ → List Post
  both a b = Write x link key (address_of size place from) a ∷ Write x link key (address_of size place 0) b ∷ []

  -- no bytes
  none_same : from ≡ to → piece_posts x link key (element_start size place) (front_of size from to) ++ piece_posts x link key (element_start size place) (back_of size from to) ≡ writes size x link key place from to
  none_same e =
      ap₂ (λ (a b : List Post). a ++ b)
      (piece_none x link key (element_start size place) (front_of size from to) (omega (arith, e)))
      (piece_none x link key (element_start size place) (back_of size from to) (omega (arith, e)))
      ∙ sym (ap (λ b. cond b [] (cond (nat_le (from % size + (to - from)) size) (Write x link key (address_of size place from) (to - from) ∷ []) (both (size - from % size) (to - from - (size - from % size))))) (eq-eqb from to e))

  -- bytes that fit in front of the end
  one_same : from < to → from % size + (to - from) ≤ size → piece_posts x link key (element_start size place) (front_of size from to) ++ piece_posts x link key (element_start size place) (back_of size from to) ≡ writes size x link key place from to
  one_same more fits =
      ap₂ (λ (a b : List Post). a ++ b)
      (piece_some x link key (element_start size place) (from % size) (min (to - from) (size - from % size)) (to - from) (omega (arith, more, fits)) (omega (arith, more)))
      (piece_none x link key (element_start size place) (back_of size from to) (omega (arith, more, fits)))
      ∙ sym (ap (λ b. cond b [] (cond (nat_le (from % size + (to - from)) size) (Write x link key (address_of size place from) (to - from) ∷ []) (both (size - from % size) (to - from - (size - from % size))))) (ne_eqb from to (λ e. omega (arith, e, more)))
      ∙ ap (λ b. cond b (Write x link key (address_of size place from) (to - from) ∷ []) (both (size - from % size) (to - from - (size - from % size)))) (le-leb (from % size + (to - from)) size fits))

  -- bytes that go round
  two_same : from < to → size < from % size + (to - from) → piece_posts x link key (element_start size place) (front_of size from to) ++ piece_posts x link key (element_start size place) (back_of size from to) ≡ writes size x link key place from to
  two_same more round =
      ap₂ (λ (a b : List Post). a ++ b)
      (piece_some x link key (element_start size place) (from % size) (min (to - from) (size - from % size)) (size - from % size) (omega (arith, more, round)) (omega (arith, inside)))
      (piece_some x link key (element_start size place) 0 ((to - from) - min (to - from) (size - from % size)) (to - from - (size - from % size)) (omega (arith, more, round)) (omega (arith, more, round, inside))
      ∙ ap (λ (n : ℕ). Write x link key (element_start size place + n) (to - from - (size - from % size)) ∷ []) (start_is size))
      ∙ sym (ap (λ b. cond b [] (cond (nat_le (from % size + (to - from)) size) (Write x link key (address_of size place from) (to - from) ∷ []) (both (size - from % size) (to - from - (size - from % size))))) (ne_eqb from to (λ e. omega (arith, e, more)))
      ∙ ap (λ b. cond b (Write x link key (address_of size place from) (to - from) ∷ []) (both (size - from % size) (to - from - (size - from % size)))) (lt-leb (from % size + (to - from)) size round))
    where
      start_is : (n : ℕ) → 0 ≡ 0 % n
      start_is n = omega arith

  pub pieces_are_writes : from ≤ to → piece_posts x link key (element_start size place) (front_of size from to) ++ piece_posts x link key (element_start size place) (back_of size from to) ≡ writes size x link key place from to
  pieces_are_writes rising = elim (cases_eq from to) [
    | inl e ↦ none_same e
    | inr differs ↦ elim (cases_lt size (from % size + (to - from))) [
      | inl round ↦ two_same (omega (arith, rising, differs)) round
      | inr fits ↦ one_same (omega (arith, rising, differs)) fits
    ]
  ]

-- an end for which something is due may post
first_and_third : (a b c d : Bool) → (a && b) && (c && d) ≡ true → a && c ≡ true
first_and_third true true true d e = refl
first_and_third true true false d e = e
first_and_third true false c d e = absurd (true≢false (sym e))
first_and_third false b c d e = e

pub due_may_post : (depth : ℕ) (h : Half) → is_due depth h ≡ true → may_post h ≡ true
due_may_post depth h due = first_and_third h.up _ (has_link h.link h.live) _ due

pub due_is_up : (depth : ℕ) (h : Half) → is_due depth h ≡ true → h.up ≡ true
due_is_up depth h due = up h.up (has_link h.link h.live) (due_may_post depth h due)
  where
    up : (a b : Bool) → a && b ≡ true → a ≡ true
    up true b e = refl
    up false b e = e

-- the batch of an end that owes no validation
pub batch_is : (k : Kept) (h : Half) → k.owes ≡ false → batch_of k h ≡ cond (is_due k.course.depth h) (Some (due_with k h None)) None
batch_is k h owes = by_due (is_due k.course.depth h) refl
  where
    gives : Bool → Bool → Bool → Option Batch
    gives m d o = cond m (cond d (Some (due_with k h (cond o (Some (message_of k.size k.token (Rattle.pipe_model.specs.Ends.check h))) None))) (owed_alone (cond o (Some (message_of k.size k.token (Rattle.pipe_model.specs.Ends.check h))) None))) None

    gives_none : (m : Bool) → gives m false false ≡ None
    gives_none true = refl
    gives_none false = refl

    by_due : (b : Bool) → is_due k.course.depth h ≡ b → batch_of k h ≡ cond (is_due k.course.depth h) (Some (due_with k h None)) None
    by_due true due = ap (λ m. gives m (is_due k.course.depth h) k.owes) (due_may_post k.course.depth h due) ∙ ap (λ d. gives true d k.owes) due ∙ ap (λ o. gives true true o) owes ∙ sym (ap (λ (d : Bool). cond d (Some (due_with k h None)) None) due)
    by_due false due = ap (λ d. gives (may_post h) d k.owes) due ∙ ap (λ o. gives (may_post h) false o) owes ∙ gives_none (may_post h) ∙ sym (ap (λ (d : Bool). cond d (Some (due_with k h None)) None) due)

-- an end that gives no batch posts nothing
pub nothing_due : (size : ℕ) (x : Side) (key : ℕ) (peer : Option Offer) (k : Kept) (h : Half) → k.owes ≡ false → None ≡ batch_of k h → due_posts size k.course.depth x key peer h ≡ []
nothing_due size x key peer k h owes none = by_due (is_due k.course.depth h) refl
  where
    by_due : (b : Bool) → is_due k.course.depth h ≡ b → due_posts size k.course.depth x key peer h ≡ []
    by_due true due = absurd (true≢false (sym (ap is_some (none ∙ batch_is k h owes ∙ ap (λ (d : Bool). cond d (Some (due_with k h None)) None) due))))
    by_due false due = ap (λ (d : Bool). cond d (batch_posts size x key peer h) []) due

-- nor does one without a peer
pub no_peer : (size depth : ℕ) (x : Side) (key : ℕ) (peer : Option Offer) (h : Half) → peer ≡ None → due_posts size depth x key peer h ≡ []
no_peer size depth x key peer h none = ap (λ p. due_posts size depth x key p h) none ∙ by_due (is_due depth h)
  where
    by_due : (b : Bool) → cond b (batch_posts size x key None h) [] ≡ []
    by_due true = refl
    by_due false = refl

-- the bytes that a batch tells begin no later than they end
pub tells_on : (k : Kept) (h : Half) → Represents k h → (batch h).from ≤ (present h).told
tells_on k h stands = by_reset (present h).aborted
  where
    from : h.last.told ≤ length h.out
    from = omega (arith, last_within k.size k.ring k.accepted k.course stands.whole, stands.accepted, ap (λ (s : Rattle.pipe_model.specs.declared.snapshot.Snapshot.Snapshot). s.told) stands.last)

    by_reset : (b : Bool) → cond b (cond b h.last.told (length h.out)) h.last.told ≤ cond b h.last.told (length h.out)
    by_reset true = omega arith
    by_reset false = from

-- what the batch of an end posts is what is due
pub posts_due : (k : Kept) (h : Half) (b : Batch) (o : Offer) (way : Way) (link : LinkId) → k.owes ≡ false → Some b ≡ batch_of k h → Represents k h → k.token ≡ o.token → (h.up ≡ true → h.link ≡ link) → posts_of_batch k.size way link o b ≡ due_posts k.size k.course.depth way.side way.key (Some o) h
posts_due k h b o way link owes is stands token on = by_due (is_due k.course.depth h) refl
  where
    posts_with : LinkId → ℕ → List Post
    posts_with l label = (piece_posts way.side l way.key (element_start k.size (offered_place o)) (front_of k.size (batch h).from (present h).told) ++ piece_posts way.side l way.key (element_start k.size (offered_place o)) (back_of k.size (batch h).from (present h).told)) ++ Cdc way.side l (spelled k.size label (present h)) ∷ []

    some : 0 < k.size
    some = omega (arith, stands.whole.ring.whole.some, stands.whole.ring.size)

    by_due : (d : Bool) → is_due k.course.depth h ≡ d → posts_of_batch k.size way link o b ≡ due_posts k.size k.course.depth way.side way.key (Some o) h
    by_due true due =
        let here : Some b ≡ Some (due_with k h None) = is ∙ batch_is k h owes ∙ ap (λ (d : Bool). cond d (Some (due_with k h None)) None) due in
        ap (λ (p : Option Batch). posts_of_batch k.size way link o (unwrap_or p b)) here
        ∙ ap₂ posts_with (sym (on (due_is_up k.course.depth h due))) token
        ∙ ap (λ (ps : List Post). ps ++ Cdc way.side h.link (spelled k.size o.token (present h)) ∷ []) (pieces_are_writes k.size way.side h.link way.key (offered_place o) (batch h).from (present h).told some (tells_on k h stands))
        ∙ sym (ap (λ (d : Bool). cond d (batch_posts k.size way.side way.key (Some o) h) []) due)
    by_due false due = absurd (true≢false (ap is_some (is ∙ batch_is k h owes ∙ ap (λ (d : Bool). cond d (Some (due_with k h None)) None) due)))
