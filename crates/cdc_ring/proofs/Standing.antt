-- What a kept ring stands for after each call.
use Rattle.std.proofs.Common.{◌≡◌, ◌∙◌, ℕ, ◌+◌, ◌-◌, ◌*◌, ◌/◌, ◌%◌, ◌<◌, ◌≤◌, ◌==◌, ◌⊎◌, inl, inr, false, if◌then◌else◌, List, [], ◌∷◌, ◌++◌, length, map, filter, nat_lt, min, take, drop, sym, ap, ap₂, subst, arith}
use Rattle.std.specs.Prelude.{max}
use Rattle.std.proofs.lemmas.Bool.{eq-eqb, ne_eqb, cases_lt}
use Rattle.std.proofs.lemmas.Nat.{mod_below, div-add-mod', mod-mul-add}
use Rattle.std.proofs.lemmas.Grind.{common_steps}
use Rattle.std.proofs.lemmas.List.{take_min, map-append, length-map}
use Rattle.smc_num.specs.declared.Cursor.{Cursor}
use Rattle.smc_num.specs.Numbers.{cursor_of}
use Rattle.cdc_ring.specs.declared.Piece.{Piece}
use Rattle.cdc_ring.specs.Rings.{Ring, Rises, accepted, last_from, last_posted, window, accepts, unposted, front_piece, back_piece, posts, completes, held_at}
use Rattle.cdc_ring.specs.Kept.{Kept, IsKept, Represents}
use Rattle.cdc_ring.proofs.Rising.{rises-further, rises-push, past, rises-past, last-marks, places-past}

-- the window in distances
pub window_kept : (k : Kept) (ring : Ring) → Represents k ring → window ring ≡ k.size - max (length k.bytes) k.unread
window_kept k ring stands =
    let len : length k.bytes ≡ length ring.bytes = ap length stands.bytes in
    omega (arith, len, stands.size, stands.unread)

-- bytes are accepted
pub kept-accepted : (k : Kept) (bytes : List ℕ) (count : ℕ) → IsKept k → count ≡ min (length bytes) (k.size - max (length k.bytes) k.unread) → IsKept (record k { bytes = k.bytes ++ take count bytes; unread = k.unread + count })
kept-accepted k bytes count whole is =
    let len : length (k.bytes ++ take count bytes) ≡ length k.bytes + count = grind (arith, common_steps, is) in record {
      some = whole.some;
      rounds = whole.rounds;
      inside = whole.inside;
      held = omega (arith, len, is, whole.held);
      unread = omega (arith, is, whole.unread);
      marks = rises-further 0 k.marks (length k.bytes) (length (k.bytes ++ take count bytes)) whole.marks (omega (arith, len));
    }

pub accepted_more : (k : Kept) (bytes : List ℕ) (count : ℕ) → IsKept k → count ≡ min (length bytes) (k.size - max (length k.bytes) k.unread) → (ring : Ring) → Represents k ring → Represents (record k { bytes = k.bytes ++ take count bytes; unread = k.unread + count }) (accepts bytes ring)
accepted_more k bytes count whole is ring stands =
    let room : count ≡ min (window ring) (length bytes) = omega (arith, is, window_kept k ring stands) in
    let same : k.bytes ++ take count bytes ≡ ring.bytes ++ take (window ring) bytes = ap₂ (λ xs ys. xs ++ ys) stands.bytes (ap (λ n. take n bytes) room ∙ take_min (window ring) bytes) in
    let len : length (k.bytes ++ take count bytes) ≡ length k.bytes + count = grind (arith, common_steps, is) in record {
      whole = kept-accepted k bytes count whole is;
      size = stands.size;
      completed = stands.completed;
      bytes = same;
      posted = stands.posted;
      acked = stands.acked;
      unread = omega (arith, stands.unread, len, ap length same, ap length stands.bytes);
    }

-- the last mark is the last posted place
pub posted_kept : (k : Kept) (ring : Ring) → Represents k ring → last_posted ring ≡ ring.completed + last_from 0 k.marks
posted_kept k ring stands =
    ap₂ (λ from ps. last_from from ps) (let e : ring.completed ≡ ring.completed + 0 = omega arith in e) stands.posted ∙ last-marks ring.completed 0 k.marks

pub unposted_kept : (k : Kept) (ring : Ring) → Represents k ring → unposted ring ≡ length k.bytes - last_from 0 k.marks
unposted_kept k ring stands = omega (arith, posted_kept k ring stands, ap length stands.bytes)

-- nothing is to be posted
pub posted_nothing : (k : Kept) → length k.bytes ≤ last_from 0 k.marks → (ring : Ring) → Represents k ring → Represents k (posts ring)
posted_nothing k all ring stands =
    let none : unposted ring ≡ 0 = omega (arith, unposted_kept k ring stands) in
    subst (λ b. Represents k (if b then ring else record ring { posted = ring.posted ++ accepted ring ∷ [] })) (sym (eq-eqb (unposted ring) 0 none)) stands

-- all bytes are posted
pub kept-posted : (k : Kept) → IsKept k → last_from 0 k.marks < length k.bytes → IsKept (record k { marks = k.marks ++ length k.bytes ∷ [] })
kept-posted k whole some = record {
  some = whole.some;
  rounds = whole.rounds;
  inside = whole.inside;
  held = whole.held;
  unread = whole.unread;
  marks = rises-push 0 k.marks (length k.bytes) whole.marks some;
}

-- the bytes up to a place have completed
pub kept-completed : (k : Kept) (n : ℕ) (cursor : Cursor) → IsKept k → n ≤ length k.bytes → cursor.wrap < 65_536 → cursor.count < k.size → IsKept (record k { completed = cursor; bytes = drop n k.bytes; marks = past n k.marks })
kept-completed k n cursor whole within rounds inside =
    let len : length (drop n k.bytes) ≡ length k.bytes - n = grind (arith, common_steps) in record {
      some = whole.some;
      rounds = rounds;
      inside = inside;
      held = omega (arith, len, whole.held);
      unread = whole.unread;
      marks = subst (λ to. Rises 0 (past n k.marks) to) (sym len) (rises-past n 0 k.marks (length k.bytes) whole.marks (omega arith) within);
    }

-- a cursor stands for a place within the element
pub cursor_inside : (size : ℕ) (cursor : Cursor) (place : ℕ) → 0 < size → cursor ≡ cursor_of size place → cursor.count < size
cursor_inside size cursor place some spelled = omega (arith, ap (λ c. c.count) spelled, mod_below place size some)

pub cursor_rounds : (size : ℕ) (cursor : Cursor) (place : ℕ) → cursor ≡ cursor_of size place → cursor.wrap < 65_536
cursor_rounds size cursor place spelled = omega (arith, ap (λ c. c.wrap) spelled)

pub posted_more : (k : Kept) → IsKept k → last_from 0 k.marks < length k.bytes → (ring : Ring) → Represents k ring → Represents (record k { marks = k.marks ++ length k.bytes ∷ [] }) (posts ring)
posted_more k whole more ring stands =
    let some : (unposted ring == 0) ≡ false = ne_eqb (unposted ring) 0 (λ none. omega (arith, none, more, unposted_kept k ring stands)) in
    let end : accepted ring ≡ ring.completed + length k.bytes = omega (arith, ap length stands.bytes) in
    let is : Represents (record k { marks = k.marks ++ length k.bytes ∷ [] }) (record ring { posted = ring.posted ++ accepted ring ∷ [] }) = record {
      whole = kept-posted k whole more;
      size = stands.size;
      completed = stands.completed;
      bytes = stands.bytes;
      posted = ap₂ (λ (ps : List ℕ) (p : ℕ). ps ++ p ∷ []) stands.posted end ∙ sym (map-append (λ m. ring.completed + m) k.marks (length k.bytes ∷ []));
      acked = stands.acked;
      unread = stands.unread;
    } in
    subst (λ b. Represents (record k { marks = k.marks ++ length k.bytes ∷ [] }) (if b then ring else record ring { posted = ring.posted ++ accepted ring ∷ [] })) (sym some) is

pub completed_more : (k : Kept) (n : ℕ) (cursor : Cursor) → IsKept k → (ring : Ring) (place : ℕ) → Represents k ring → cursor ≡ cursor_of ring.size place → ring.completed + n ≡ place → place ≤ accepted ring → Represents (record k { completed = cursor; bytes = drop n k.bytes; marks = past n k.marks }) (completes place ring)
completed_more k n cursor whole ring place stands spelled moved to =
    let within : n ≤ length k.bytes = omega (arith, ap length stands.bytes) in
    let count : n ≡ place - ring.completed = omega arith in
    let len : length (drop n k.bytes) ≡ length k.bytes - n = grind (arith, common_steps) in
    let inside : cursor.count < k.size = omega (arith, stands.size, cursor_inside ring.size cursor place (omega (arith, whole.some, stands.size)) spelled) in
    let same : drop n k.bytes ≡ drop (place - ring.completed) ring.bytes = ap₂ drop count stands.bytes in record {
      whole = kept-completed k n cursor whole within (cursor_rounds ring.size cursor place spelled) inside;
      size = stands.size;
      completed = spelled;
      bytes = same;
      posted = ap₂ (λ p ps. filter (λ q. nat_lt p q) ps) (sym moved) stands.posted ∙ places-past ring.completed n k.marks ∙ ap (λ p. map (λ m. p + m) (past n k.marks)) moved;
      acked = stands.acked;
      unread = omega (arith, stands.unread, len, ap length same, ap length stands.bytes);
    }

-- where the unposted bytes go
pub pieces_kept : (k : Kept) (n front : ℕ) (next : Cursor) → n ≡ last_from 0 k.marks → ((place : ℕ) → k.completed ≡ cursor_of k.size place → next ≡ cursor_of k.size (place + n)) → front ≡ min (length k.bytes - n) (k.size - next.count) → (ring : Ring) → Represents k ring → ◌≡◌ {A = Piece × Piece} (record { place = next.count; len = front }, record { place = 0; len = length k.bytes - n - front }) (front_piece ring, back_piece ring)
pieces_kept k n front next is moves least ring stands =
    let last : last_posted ring ≡ ring.completed + n = omega (arith, is, posted_kept k ring stands) in
    let all : unposted ring ≡ length k.bytes - n = omega (arith, is, unposted_kept k ring stands) in
    let place : next.count ≡ last_posted ring % ring.size = ap (λ c. c.count) (moves ring.completed (stands.completed ∙ ap (λ s. cursor_of s ring.completed) (sym stands.size))) ∙ ap₂ (λ p s. p % s) (sym last) stands.size in
    let len : front ≡ (front_piece ring).len = least ∙ ap₂ min (sym all) (ap₂ (λ s p. s - p) stands.size place) in
    let rest : length k.bytes - n - front ≡ (back_piece ring).len = ap₂ (λ a b. a - b) (sym all) len in
    λ i. (record { place = place i; len = len i }, record { place = 0; len = rest i })

-- a place in an element, moved on by at most the element
moved_round : (size from k : ℕ) → 0 < size → k ≤ size → ((from + k) % size < size) × (((from + k) % size ≡ from % size + k) ⊎ ((from + k) % size + size ≡ from % size + k))
moved_round size from k some within = elim (cases_lt (from % size + k) size) [
  | inl same ↦
      let regrouped : from + k ≡ from / size * size + (from % size + k) = omega (arith, div-add-mod' from size) in
      (mod_below (from + k) size some, inl (ap (λ m. m % size) regrouped ∙ mod-mul-add (from / size) size (from % size + k) same))
  | inr next ↦
      let below = mod_below from size some in
      let regrouped : from + k ≡ (from / size + 1) * size + (from % size + k - size) = omega (arith, div-add-mod' from size) in
      let rest : (from + k) % size ≡ from % size + k - size = ap (λ m. m % size) regrouped ∙ mod-mul-add (from / size + 1) size (from % size + k - size) (omega (arith, below)) in
      (mod_below (from + k) size some, inr (omega (arith, rest)))
]

-- a place of the element tells how far a held byte is behind the completed ones, but at the end of a full ring
pub offset_kept : (k : Kept) (place len offset : ℕ) → (k.completed.count ≤ place → offset ≡ place - k.completed.count) → (place < k.completed.count → offset ≡ k.size - k.completed.count + place) → (ring : Ring) (from : ℕ) → Represents k ring → place ≡ from % ring.size → ring.completed ≤ from → from + len ≤ accepted ring → (offset ≡ from - ring.completed) ⊎ ((offset ≡ 0) × (len ≡ 0))
offset_kept k place len offset ahead round ring from stands spelled low high =
    let held : length ring.bytes ≤ ring.size = omega (arith, stands.whole.held, stands.size, ap length stands.bytes) in
    let start : k.completed.count ≡ ring.completed % ring.size = ap (λ c. c.count) stands.completed in
    let some : 0 < ring.size = omega (arith, stands.whole.some, stands.size) in
    let moved = moved_round ring.size ring.completed (from - ring.completed) some (omega arith) in
    let here : (ring.completed + (from - ring.completed)) % ring.size ≡ place = ap (λ n. n % ring.size) (let e : ring.completed + (from - ring.completed) ≡ from = omega arith in e) ∙ sym spelled in
    let below = mod_below ring.completed ring.size some in
    elim (cases_lt place k.completed.count) [
      | inl before ↦ elim moved.1 [
        | inl same ↦ absurd (omega (arith, same, here, start, before))
        | inr next ↦ inl (omega (arith, round before, next, here, start, stands.size, below))
      ]
      | inr behind ↦ elim moved.1 [
        | inl same ↦ inl (omega (arith, ahead behind, same, here, start))
        | inr next ↦ inr (omega (arith, ahead behind, next, here, start, below), omega (arith, next, here, start, behind, below))
      ]
    ]

pub held_within : (k : Kept) (len offset : ℕ) (ring : Ring) (from : ℕ) → Represents k ring → ring.completed ≤ from → from + len ≤ accepted ring → (offset ≡ from - ring.completed) ⊎ ((offset ≡ 0) × (len ≡ 0)) → offset + len ≤ length k.bytes
held_within k len offset ring from stands low high (inl at) = omega (arith, at, ap length stands.bytes)
held_within k len offset ring from stands low high (inr (at, none)) = omega (arith, at, none)

pub held_bytes : (k : Kept) (len offset : ℕ) (ring : Ring) (from : ℕ) → Represents k ring → (offset ≡ from - ring.completed) ⊎ ((offset ≡ 0) × (len ≡ 0)) → take len (drop offset k.bytes) ≡ held_at from len ring
held_bytes k len offset ring from stands (inl at) = ap₂ (λ n xs. take len (drop n xs)) at stands.bytes
held_bytes k len offset ring from stands (inr (at, none)) = ap (λ n. take n (drop offset k.bytes)) none ∙ sym (ap (λ n. take n (drop (from - ring.completed) ring.bytes)) none)

-- a mark is kept for each posting
pub marks_are_postings : (k : Kept) (ring : Ring) → Represents k ring → length k.marks ≡ length ring.posted
marks_are_postings k ring stands = sym (ap length stands.posted ∙ length-map k.marks (λ m. ring.completed + m))
