-- What a read of an open end is told: how many bytes that hands out, which they are, and what it makes of the end.
use Rattle.std.proofs.Common.{◌≡◌, ◌∙◌, ℕ, ◌+◌, ◌<◌, ◌≤◌, ◌%◌, ◌/◌, ◌*◌, ◌++◌, ◌-◌, append-nil, length-append, ◌==◌, ◌||◌, min, Bool, true, false, if◌then◌else◌, List, [], length, take, drop, replicate, get_or, refl, ap, sym, subst, arith, eqb-true, ltb-false, nat_lt}
use Rattle.std.specs.Prelude.{is_some}
use Rattle.std.proofs.lemmas.List.{take_at, drop_at, take_all, drop_all, length-replicate, length-take-le, length-take, length-drop, get_or-take, get_or-drop}
use Rattle.std.proofs.lemmas.Grind.{same_number_lists}
use Rattle.smc_num.specs.Places.{Place, address_of, element_start}
use Rattle.std.proofs.lemmas.Grind.{common_steps}
use Rattle.std.proofs.lemmas.Nat.{div-add-mod', mod-mul-add, mod_below}
use Rattle.rmb_region.specs.Regions.{Buffer, byte_at, read_round, round_from, element, place as place_of}
use Rattle.rmb_region.proofs.Bytes.{a_reader_finds_each_byte_at_its_address, element-length}
use Rattle.pipe_model.specs.declared.closing.Phase.TheVariants.{Open}
use Rattle.pipe_model.specs.declared.reply.Reply.TheVariants.{Bytes, End, Ended, Empty}
use Rattle.pipe_model.specs.Closing.{cause_of, is_closing}
use Rattle.pipe_model.specs.Ends.{Half, unread}
use Rattle.pipe_model.specs.Calls.{Told, Plain, Hands, Reads, reads, half_told}
use Rattle.pipe_model.specs.Lawful.{reply_of}
use Rattle.conn_end.specs.Told.{Answers, told_of}
use Rattle.conn_end.specs.declared.answers.EndReply.{EndReply}
use Rattle.conn_end.specs.declared.answers.EndReply.TheVariants.{Take, Wrote as TookBytes, Full as NoRoom, Empty as NoneYet, End as AtEnd, Ended as HasEnded, Done as WasDone, Reset as ByReset}
use Rattle.world_core.specs.Played.{handed}
use Rattle.world_core.specs.Heard.{told_bytes}
use Rattle.world_core.specs.Calling.{taken, replied}
use Rattle.world_core.proofs.Stood.{IsElement, slice-length, some-size}

-- so many bytes as are told
pub handed-is : (t : Told) → handed t ≡ length (told_bytes t)
handed-is (Plain reply) = refl
handed-is (Hands bytes) = refl

-- the bytes of an answer of an end
pub answer-bytes : (answer : EndReply) (rd : ℕ) (out : List ℕ) → told_bytes (told_of answer rd out) ≡ take (taken answer) (drop rd out)
answer-bytes (Take from len) rd out = refl
answer-bytes (TookBytes count) rd out = refl
answer-bytes NoRoom rd out = refl
answer-bytes NoneYet rd out = refl
answer-bytes AtEnd rd out = refl
answer-bytes HasEnded rd out = refl
answer-bytes WasDone rd out = refl
answer-bytes (ByReset cause) rd out = refl

-- the reply that says it, where the peer has so many
pub answer-replied : (answer : EndReply) (before rd : ℕ) (out : List ℕ) → rd + taken answer ≤ length out → replied answer before ≡ reply_of before (told_of answer rd out)
answer-replied (Take from len) before rd out fits = ap (λ n. Bytes before n) (sym (slice-length rd len out fits))
answer-replied (TookBytes count) before rd out fits = refl
answer-replied NoRoom before rd out fits = refl
answer-replied NoneYet before rd out fits = refl
answer-replied AtEnd before rd out fits = refl
answer-replied HasEnded before rd out fits = refl
answer-replied WasDone before rd out fits = refl
answer-replied (ByReset cause) before rd out fits = refl

-- what a read of an open end is told
module _ (size len : ℕ) (h : Half) (is_open : h.phase ≡ Open) where
  abbrev Count : ℕ
  Count = min len (unread h)

  abbrev told_with : List ℕ → Told
  told_with out = half_told size (Reads len) h out (cause_of h.phase)

  told-open : (out : List ℕ) → told_with out ≡ (if len == 0 then Hands [] else if nat_lt 0 (unread h) then Hands (take Count (drop h.rd out)) else if h.taken.done || h.taken.closed then Plain End else Plain Empty)
  told-open out =
      ap (λ p. half_told size (Reads len) h out (cause_of p)) is_open
      ∙ ap (λ p. if is_closing p then Plain Ended else if len == 0 then Hands [] else if nat_lt 0 (unread h) then Hands (take Count (drop h.rd out)) else if h.taken.done || h.taken.closed then Plain End else Plain Empty) is_open

  none-left : (n : ℕ) (out : List ℕ) → n ≡ 0 → [] ≡ take n (drop h.rd out)
  none-left n out e = sym (ap (λ k. take k (drop h.rd out)) e)

  -- the bytes
  pub told-bytes : (out : List ℕ) → told_bytes (told_with out) ≡ take Count (drop h.rd out)
  told-bytes out = ap (λ t. told_bytes t) (told-open out) ∙ by (len == 0) refl
    where
      at_end : (b : Bool) → told_bytes (if b then Plain End else Plain Empty) ≡ []
      at_end true = refl
      at_end false = refl

      rest : (b : Bool) → nat_lt 0 (unread h) ≡ b → told_bytes (if b then Hands (take Count (drop h.rd out)) else if h.taken.done || h.taken.closed then Plain End else Plain Empty) ≡ take Count (drop h.rd out)
      rest true e = refl
      rest false e = at_end (h.taken.done || h.taken.closed) ∙ none-left Count out (omega (arith, ltb-false 0 (unread h) e))

      by : (b : Bool) → (len == 0) ≡ b → told_bytes (if b then Hands [] else if nat_lt 0 (unread h) then Hands (take Count (drop h.rd out)) else if h.taken.done || h.taken.closed then Plain End else Plain Empty) ≡ take Count (drop h.rd out)
      by true e = none-left Count out (omega (arith, eqb-true len 0 e))
      by false e = rest (nat_lt 0 (unread h)) refl

  -- how many they are
  pub told-count : (out : List ℕ) → h.rd + Count ≤ length out → handed (told_with out) ≡ Count
  told-count out fits = handed-is (told_with out) ∙ (ap (λ (bs : List ℕ). length bs) (told-bytes out) ∙ slice-length h.rd Count out fits)

  -- as many as an answer of the end says
  pub answer-count : (answer : EndReply) → Answers size (Reads len) h answer → taken answer ≡ Count
  answer-count answer a =
      let out : List ℕ = replicate (h.rd + (taken answer + Count)) 0 in
      let long : length out ≡ h.rd + (taken answer + Count) = length-replicate (h.rd + (taken answer + Count)) 0 in
      sym (slice-length h.rd (taken answer) out (omega (arith, long)))
      ∙ (ap (λ (bs : List ℕ). length bs) (sym (answer-bytes answer h.rd out) ∙ (ap (λ t. told_bytes t) (a.told out) ∙ told-bytes out))
      ∙ slice-length h.rd Count out (omega (arith, long)))

  -- to read as many is the same
  pub reads-count : reads Count h ≡ reads len h
  reads-count = ap (λ k. if is_some (cause_of h.phase) || is_closing h.phase then h else record h { rd = h.rd + k }) (let e : min Count (unread h) ≡ min len (unread h) = omega arith in e)

-- a list read round has all its elements
round-long : (from : ℕ) (xs : List ℕ) → length (round_from from xs) ≡ length xs
round-long from xs = length-append (drop from xs) (take from xs) ∙ (let d = length-drop from xs in let t = length-take from xs in omega (arith, d, t))

-- a place in an element that was brought into it before
mod-add : (size n k : ℕ) → 0 < size → (n % size + k) % size ≡ (n + k) % size
mod-add size n k some =
    let regrouped : n + k ≡ n / size * size + (n % size + k) = omega (arith, div-add-mod' n size) in
    let parts : n % size + k ≡ (n % size + k) / size * size + (n % size + k) % size = omega (arith, div-add-mod' (n % size + k) size) in
    let both : n + k ≡ (n / size + (n % size + k) / size) * size + (n % size + k) % size = regrouped ∙ more (n / size) ((n % size + k) / size) size (n % size + k) ((n % size + k) % size) parts in
    sym (ap (λ m. m % size) both ∙ mod-mul-add (n / size + (n % size + k) / size) size ((n % size + k) % size) (mod_below (n % size + k) size some))
  where
    more : (a b size x r : ℕ) → x ≡ b * size + r → a * size + x ≡ (a + b) * size + r
    more a b size x r e = grind (arith, common_steps)

-- what is read round an element are the bytes of the stream that stand in it
pub element-bytes : (size : ℕ) (place : Place) (b : Buffer) → IsElement size place b → (rd count to : ℕ) (out : List ℕ) → rd + count ≤ to → to ≤ length out → count ≤ size
    → ((k : ℕ) → rd ≤ k → k < to → byte_at (address_of size place k) b ≡ get_or out k 0) → read_round place.index (rd % size) count b ≡ take count (drop rd out)
element-bytes size place b is rd count to out fits long few stand =
    same_number_lists (read_round place.index (rd % size) count b) (take count (drop rd out)) (round-length ∙ sym (slice-length rd count out (omega (arith, fits, long)))) (λ k within.
    let w : k < count = subst (λ n. k < n) round-length within in
    a_reader_finds_each_byte_at_its_address b place.index (rd % size) count k is.whole is.low is.high (omega (arith, few, is.size_is)) w
    ∙ (ap (λ a. byte_at a b) (same-address k)
    ∙ (stand (rd + k) (omega arith) (omega (arith, w, fits))
    ∙ sym (get_or-take count (drop rd out) k 0 w ∙ get_or-drop rd out k 0))))
  where
    round-length : length (read_round place.index (rd % size) count b) ≡ count
    round-length = let full = element-length b place.index is.whole is.low is.high in
        length-take-le count (round_from ((rd % size) % b.size) (element place.index b)) (omega (arith, few, is.size_is, full, round-long ((rd % size) % b.size) (element place.index b)))

    same-address : (k : ℕ) → address_of b.size (place_of b place.index) (rd % size + k) ≡ address_of size place (rd + k)
    same-address k =
        ap (λ n. address_of n (place_of b place.index) (rd % size + k)) is.size_is
        ∙ (ap (λ r. element_start size (record { rmb = r; index = place.index }) + (rd % size + k) % size) (sym is.rmb)
        ∙ ap (λ m. element_start size place + m) (mod-add size rd k (some-size size place b is)))

-- new places
abbrev zeros : ℕ → List ℕ
zeros n = replicate n 0

zeros-long : (n : ℕ) → length (zeros n) ≡ n
zeros-long n = length-replicate n 0

-- new places behind bytes, and what is written into them
module _ (before d : List ℕ) (from count : ℕ) (grown : d ≡ before ++ zeros count) (behind : from ≡ length before) where
  grown-long : length d ≡ from + count
  grown-long = ap (λ (xs : List ℕ). length xs) grown ∙ (length-append before (zeros count) ∙ (let r : length (zeros count) ≡ count = zeros-long count in omega (arith, r, behind)))

  front-is : take from d ≡ before
  front-is = ap (λ (xs : List ℕ). take from xs) grown ∙ take_at before (zeros count) from (sym behind)

  rest-is : drop from d ≡ zeros count
  rest-is = ap (λ (xs : List ℕ). drop from xs) grown ∙ drop_at before (zeros count) from (sym behind)

  pub places-are : take (length d - from) (drop from d) ≡ zeros count
  places-are = ap (λ (xs : List ℕ). take (length d - from) xs) rest-is ∙ take_all (length d - from) (zeros count) (let r : length (zeros count) ≡ count = zeros-long count in let g = grown-long in omega (arith, r, g))

  pub places-long : length (take (length d - from) (drop from d)) ≡ count
  places-long = ap (λ (xs : List ℕ). length xs) places-are ∙ zeros-long count

  pub put-behind : (out items : List ℕ) (n : ℕ) → length out ≡ count → n ≡ length d
      → take n (take from d ++ (out ++ drop (length d - from) (drop from d)) ++ drop (length (take from d ++ (out ++ drop (length d - from) (drop from d)))) items) ≡ before ++ out
  put-behind out items n long size =
      ap (λ (xs : List ℕ). take n (xs ++ drop (length xs) items)) whole
      ∙ take_at (before ++ out) (drop (length (before ++ out)) items) n (length-append before out ∙ (let g = grown-long in omega (arith, g, size, long, behind)))
    where
      none-left : drop (length d - from) (drop from d) ≡ []
      none-left = drop_all (length d - from) (drop from d) (let r : length (drop from d) ≡ length d - from = length-drop from d in omega (arith, r))

      whole : take from d ++ (out ++ drop (length d - from) (drop from d)) ≡ before ++ out
      whole =
          ap (λ (xs : List ℕ). take from d ++ (out ++ xs)) none-left
          ∙ (ap (λ (xs : List ℕ). take from d ++ xs) (append-nil out)
          ∙ ap (λ (xs : List ℕ). xs ++ out) front-is)
