-- Where the bytes of a buffer stand after a landing, and where a reader that goes round an element finds them.
use Rattle.std.proofs.Common.{◌≡◌, ◌∙◌, ◌⊎◌, inl, inr, ℕ, ◌+◌, ◌-◌, ◌*◌, ◌/◌, ◌%◌, ◌<◌, ◌≤◌, List, ◌++◌, length, take, drop, get_or, sym, ap, subst, refl, arith}
use Rattle.std.proofs.lemmas.Bool.{cases_lt}
use Rattle.std.proofs.lemmas.Grind.{common_steps}
use Rattle.std.proofs.lemmas.List.{get_or_append_left, get_or-append_right, get_or-take, get_or-drop, length-replicate}
use Rattle.std.proofs.lemmas.Nat.{div-add-mod', mod-mul-add, mod_below, mul-add-lt}
use Rattle.smc_num.specs.Places.{rmb_address, address_of}
use Rattle.rmb_region.specs.Regions.{Buffer, IsWhole, IsInside, fresh, lands, byte_at, place, element, read_round, round_from, offset}

module _ (xs bytes : List ℕ) (s : ℕ) (fits : s + length bytes ≤ length xs) where
  len_take : length (take s xs) ≡ s
  len_take = grind (arith, common_steps)

  pub landed-length : length (take s xs ++ (bytes ++ drop (s + length bytes) xs)) ≡ length xs
  landed-length = grind (arith, common_steps)

  pub landed-within : (k : ℕ) → k < length bytes → get_or (take s xs ++ (bytes ++ drop (s + length bytes) xs)) (s + k) 0 ≡ get_or bytes k 0
  landed-within k within =
      get_or-append_right (take s xs) (bytes ++ drop (s + length bytes) xs) s (s + k) 0 len_take (omega arith)
      ∙ ap (λ i. get_or (bytes ++ drop (s + length bytes) xs) i 0) (let e : s + k - s ≡ k = omega arith in e)
      ∙ get_or_append_left bytes (drop (s + length bytes) xs) 0 k within

  pub landed-before : (i : ℕ) → i < s → get_or (take s xs ++ (bytes ++ drop (s + length bytes) xs)) i 0 ≡ get_or xs i 0
  landed-before i before =
      get_or_append_left (take s xs) (bytes ++ drop (s + length bytes) xs) 0 i (omega (arith, len_take))
      ∙ get_or-take s xs i 0 before

  pub landed-behind : (i : ℕ) → s + length bytes ≤ i → get_or (take s xs ++ (bytes ++ drop (s + length bytes) xs)) i 0 ≡ get_or xs i 0
  landed-behind i behind =
      get_or-append_right (take s xs) (bytes ++ drop (s + length bytes) xs) s i 0 len_take (omega arith)
      ∙ get_or-append_right bytes (drop (s + length bytes) xs) (length bytes) (i - s) 0 refl (omega arith)
      ∙ get_or-drop (s + length bytes) xs (i - s - length bytes) 0
      ∙ ap (λ j. get_or xs j 0) (let e : s + length bytes + (i - s - length bytes) ≡ i = omega arith in e)

-- a list read round its end
pub round-read : (xs : List ℕ) (r k : ℕ) → r < length xs → k < length xs → (q : ℕ) → (q < length xs) × ((q ≡ r + k) ⊎ (q + length xs ≡ r + k)) → get_or (round_from r xs) k 0 ≡ get_or xs q 0
round-read xs r k from within q (inside, inl ahead) =
    get_or_append_left (drop r xs) (take r xs) 0 k (grind (arith, common_steps))
    ∙ get_or-drop r xs k 0 ∙ ap (λ i. get_or xs i 0) (sym ahead)
round-read xs r k from within q (inside, inr round) =
    get_or-append_right (drop r xs) (take r xs) (length xs - r) k 0 (grind (arith, common_steps)) (omega arith)
    ∙ get_or-take r xs (k - (length xs - r)) 0 (omega arith)
    ∙ ap (λ i. get_or xs i 0) (let e : k - (length xs - r) ≡ q = omega arith in e)

-- a place in an element, moved on by less than the element
pub moved_round : (size from k : ℕ) → 0 < size → k < size → ((from + k) % size < size) × (((from + k) % size ≡ from % size + k) ⊎ ((from + k) % size + size ≡ from % size + k))
moved_round size from k some within = elim (cases_lt (from % size + k) size) [
  | inl same ↦
      let regrouped : from + k ≡ from / size * size + (from % size + k) = omega (arith, div-add-mod' from size) in
      (mod_below (from + k) size some, inl (ap (λ m. m % size) regrouped ∙ mod-mul-add (from / size) size (from % size + k) same))
  | inr next ↦
      let below = mod_below from size some in
      let regrouped : from + k ≡ (from / size + 1) * size + (from % size + k - size) = omega (arith, div-add-mod' from size) in
      let rest : (from + k) % size ≡ from % size + k - size = ap (λ m. m % size) regrouped ∙ mod-mul-add (from / size + 1) size (from % size + k - size) (omega arith) in
      (mod_below (from + k) size some, inr (omega arith))
]

-- an element has its bytes
pub element-length : (b : Buffer) (index : ℕ) → IsWhole b → 1 ≤ index → index ≤ b.elements → length (element index b) ≡ b.size
element-length b index whole one most =
    let last : (index - 1) * b.size + (b.size - 1) < b.elements * b.size = omega (arith, mul-add-lt (index - 1) b.size (b.size - 1) b.elements (omega arith) (omega (arith, whole.some))) in
    grind (arith, common_steps, whole.all, whole.some, last)

-- and they stand in the buffer one behind the other
pub element-read : (b : Buffer) (index q : ℕ) → q < b.size → get_or (element index b) q 0 ≡ get_or b.bytes ((index - 1) * b.size + q) 0
element-read b index q inside =
    get_or-take b.size (drop ((index - 1) * b.size) b.bytes) q 0 inside ∙ get_or-drop ((index - 1) * b.size) b.bytes q 0

pub a_new_buffer_is_whole : (rmb elements size : ℕ) → 0 < size → IsWhole (fresh rmb elements size)
a_new_buffer_is_whole rmb elements size some = record { some = some; all = length-replicate (elements * size) 0 }

pub a_landing_keeps_the_buffer_whole : (b : Buffer) (address : ℕ) (bytes : List ℕ) → IsWhole b → IsInside address (length bytes) b → IsWhole (lands address bytes b)
a_landing_keeps_the_buffer_whole b address bytes whole inside =
    record { some = whole.some; all = landed-length b.bytes bytes (offset address b) (omega (arith, whole.all, inside.begins, inside.ends)) ∙ whole.all }

pub a_landing_writes_its_range : (b : Buffer) (address : ℕ) (bytes : List ℕ) (k : ℕ) → IsWhole b → IsInside address (length bytes) b → k < length bytes → byte_at (address + k) (lands address bytes b) ≡ get_or bytes k 0
a_landing_writes_its_range b address bytes k whole inside within =
    ap (λ i. get_or (lands address bytes b).bytes i 0) (let e : address + k - rmb_address b.rmb ≡ offset address b + k = omega (arith, inside.begins) in e)
    ∙ landed-within b.bytes bytes (offset address b) (omega (arith, whole.all, inside.begins, inside.ends)) k within

pub a_landing_leaves_all_else : (b : Buffer) (address : ℕ) (bytes : List ℕ) (at : ℕ) → IsWhole b → IsInside address (length bytes) b → rmb_address b.rmb ≤ at → (at < address) ⊎ (address + length bytes ≤ at) → byte_at at (lands address bytes b) ≡ byte_at at b
a_landing_leaves_all_else b address bytes at whole inside low (inl before) =
    landed-before b.bytes bytes (offset address b) (omega (arith, whole.all, inside.begins, inside.ends)) (offset at b) (omega (arith, inside.begins))
a_landing_leaves_all_else b address bytes at whole inside low (inr behind) =
    landed-behind b.bytes bytes (offset address b) (omega (arith, whole.all, inside.begins, inside.ends)) (offset at b) (omega (arith, inside.begins))

pub a_reader_finds_each_byte_at_its_address : (b : Buffer) (index from len k : ℕ) → IsWhole b → 1 ≤ index → index ≤ b.elements → len ≤ b.size → k < len → get_or (read_round index from len b) k 0 ≡ byte_at (address_of b.size (place b index) (from + k)) b
a_reader_finds_each_byte_at_its_address b index from len k whole one most few within =
    let size = element-length b index whole one most in
    let moved = moved_round b.size from k whole.some (omega arith) in
    get_or-take len (round_from (from % b.size) (element index b)) k 0 within
    ∙ round-read (element index b) (from % b.size) k (omega (arith, size, mod_below from b.size whole.some)) (omega (arith, size)) ((from + k) % b.size) (subst (λ n. ((from + k) % b.size < n) × (((from + k) % b.size ≡ from % b.size + k) ⊎ ((from + k) % b.size + n ≡ from % b.size + k))) (sym size) moved)
    ∙ element-read b index ((from + k) % b.size) moved.0
    ∙ ap (λ i. get_or b.bytes i 0) (let e : (index - 1) * b.size + (from + k) % b.size ≡ rmb_address b.rmb + (index - 1) * b.size + (from + k) % b.size - rmb_address b.rmb = omega arith in e)
