-- Numbers and cursors that have not come round tell the plain numbers, so that a message is read back as the snapshot that it spells.
use Rattle.std.proofs.Common.{◌≡◌, ◌∙◌, ◌⊎◌, inl, inr, ℕ, ◌+◌, ◌-◌, ◌*◌, ◌/◌, ◌%◌, ◌<◌, ◌≤◌, nat_lt, Bool, true, false, if◌then◌else◌, refl, ap, sym, arith, ltb-true, ltb-false, mul-le-mul_right, true≢false}
use Rattle.std.proofs.lemmas.Nat.{div-add-mod', mod-mul-add, mod_below}
use Rattle.smc_num.proofs.Rounds.{rounds}
use Rattle.smc_num.specs.Numbers.{wire_number, cursor_of}
use Rattle.cdc_wire.specs.declared.CdcMessage.{CdcMessage}
use Rattle.pipe_model.specs.declared.snapshot.Snapshot.{Snapshot}
use Rattle.pipe_model.specs.Snapshot.{flag, spelled, Spells}
use Rattle.pipe_model.specs.Spelling.{least_from, on_circle, number_from, count_from, has_flag, read_snapshot, IsWithin}
use Rattle.std.specs.Prelude.{List, Some}
use Rattle.smc_num.specs.declared.Side.{Side}
use Rattle.smc_num.specs.declared.Side.TheVariants.{A, B}
use Rattle.smc_num.specs.Names.{other, head}
use Rattle.pipe_model.specs.Ends.{Half, Sent, to_land}
use Rattle.pipe_model.specs.Pipe.{Pipe, Terms, Item, half, pipe}
use Rattle.pipe_model.specs.Parts.{IsFeasible, IsCounted, MayTake}
use Rattle.pipe_model.proofs.Pipes.Facts.{is-counted, lands-well}

-- a number that has not come round is the least one from the base on
least-by : (circle below base n q place : ℕ) → below + q ≡ base → place < circle → q < circle → base ≤ n → n < base + circle → (n ≡ below + place) ⊎ (n ≡ below + circle + place) → (base - q) + ((if nat_lt place q then circle else 0) + place) ≡ n
least-by circle below base n q place e inside within from near r = by (nat_lt place q) refl r
  where
    by : (b : Bool) → nat_lt place q ≡ b → (n ≡ below + place) ⊎ (n ≡ below + circle + place) → (base - q) + ((if b then circle else 0) + place) ≡ n
    by true f (inl g) = let l : place < q = ltb-true place q f in absurd (omega (arith, l, g, e, from))
    by true f (inr g) = omega (arith, g, e)
    by false f (inl g) = omega (arith, g, e)
    by false f (inr g) = let l : q ≤ place = ltb-false place q f in absurd (omega (arith, l, g, e, near))

least-is : (circle base n : ℕ) → 0 < circle → base ≤ n → n < base + circle → least_from circle base (n % circle) ≡ n
least-is circle base n some from near =
    least-by circle (base / circle * circle) base n (base % circle) (n % circle) (div-add-mod' base circle) (mod_below n circle some) (mod_below base circle some) from near
    (by (rounds circle base n some from (omega (arith, near))))
  where
    by : (n / circle ≡ base / circle) ⊎ (n / circle ≡ base / circle + 1) → (n ≡ base / circle * circle + n % circle) ⊎ (n ≡ base / circle * circle + circle + n % circle)
    by (inl r) = inl (omega (arith, ap (λ q. q * circle) r, div-add-mod' n circle))
    by (inr r) = inr (omega (arith, ap (λ q. q * circle) r, div-add-mod' n circle))

-- the place of a cursor on its circle
on_circle-is : (size place : ℕ) → 0 < size → on_circle size (cursor_of size place) ≡ place % (65_536 * size)
on_circle-is size place some =
    let wrap : ℕ = place / size % 65_536 in
    let inside : wrap * size + place % size < 65_536 * size = below wrap (place % size) (mod_below (place / size) 65_536 (omega arith)) (mod_below place size some) in
    let whole : place ≡ place / size / 65_536 * (65_536 * size) + (wrap * size + place % size) = regrouped (place / size) (place % size) (div-add-mod' place size) in
    sym (ap (λ n. n % (65_536 * size)) whole ∙ mod-mul-add (place / size / 65_536) (65_536 * size) (wrap * size + place % size) inside)
  where
    below : (w c : ℕ) → w < 65_536 → c < size → w * size + c < 65_536 * size
    below w c l m = let more : (w + 1) * size ≤ 65_536 * size = mul-le-mul_right size (omega (arith, l)) in omega (arith, more, m)

    regrouped : (q c : ℕ) → q * size + c ≡ place → place ≡ q / 65_536 * (65_536 * size) + (q % 65_536 * size + c)
    regrouped q c e = omega (arith, e, ap (λ n. n * size) (div-add-mod' q 65_536))

-- flags
flags-are : (done closed aborted : Bool) →
    (has_flag 0x80 (flag done 0x80 + (flag closed 0x40 + flag aborted 0x20)) ≡ done) × (has_flag 0x40 (flag done 0x80 + (flag closed 0x40 + flag aborted 0x20)) ≡ closed) × (has_flag 0x20 (flag done 0x80 + (flag closed 0x40 + flag aborted 0x20)) ≡ aborted)
flags-are true true true = (refl, refl, refl)
flags-are true true false = (refl, refl, refl)
flags-are true false true = (refl, refl, refl)
flags-are true false false = (refl, refl, refl)
flags-are false true true = (refl, refl, refl)
flags-are false true false = (refl, refl, refl)
flags-are false false true = (refl, refl, refl)
flags-are false false false = (refl, refl, refl)

count-is : (size base n : ℕ) → 0 < size → base ≤ n → n < base + 65_536 * size → count_from size base (cursor_of size n) ≡ n
count-is size base n some from near =
    ap (λ p. least_from (65_536 * size) base p) (on_circle-is size n some) ∙ least-is (65_536 * size) base n (omega (arith, some)) from near

-- a number is told but for rounds of the circle
residue-by : (circle round base q place : ℕ) → round * circle + q ≡ base → place < circle → ((base - q) + ((if nat_lt place q then circle else 0) + place)) % circle ≡ place
residue-by circle round base q place e inside = by (nat_lt place q)
  where
    by : (b : Bool) → ((base - q) + ((if b then circle else 0) + place)) % circle ≡ place
    by true =
        let f : (base - q) + (circle + place) ≡ (round + 1) * circle + place = omega (arith, e) in
        ap (λ n. n % circle) f ∙ mod-mul-add (round + 1) circle place inside
    by false =
        let f : (base - q) + (0 + place) ≡ round * circle + place = omega (arith, e) in
        ap (λ n. n % circle) f ∙ mod-mul-add round circle place inside

pub number-back : (size : ℕ) (m : CdcMessage) (taken s : Snapshot) → Spells size m s → wire_number (read_snapshot size taken m).number ≡ wire_number s.number
number-back size m taken s e =
    ap (λ (n : CdcMessage). wire_number (read_snapshot size taken n).number) e
    ∙ residue-by 65_536 (taken.number / 65_536) taken.number (taken.number % 65_536) (wire_number s.number) (div-add-mod' taken.number 65_536) (mod_below s.number 65_536 (omega arith))

spelled-read : (size token : ℕ) (taken s : Snapshot) → 0 < size → IsWithin size taken s → read_snapshot size taken (spelled size token s) ≡ record s { number = number_from taken.number (wire_number s.number) }
spelled-read size token taken s some w =
    let told : count_from size (taken.told - size) (cursor_of size s.told) ≡ s.told = count-is size (taken.told - size) s.told some (omega (arith, w.told)) (omega (arith, w.told_near, some)) in
    let read : count_from size taken.read (cursor_of size s.read) ≡ s.read = count-is size taken.read s.read some w.read w.read_near in
    let flags = flags-are s.done s.closed s.aborted in
    λ i. record { number = number_from taken.number (wire_number s.number); told = told i; read = read i; done = flags.0 i; closed = flags.1 i; aborted = flags.2 i }

-- all but the number is read back, and the number too where it has not come round
pub counts-back : (size : ℕ) (m : CdcMessage) (taken s : Snapshot) → 0 < size → Spells size m s → IsWithin size taken s → read_snapshot size taken m ≡ record s { number = number_from taken.number m.number }
counts-back size m taken s some e w =
    ap (λ n. read_snapshot size taken n) e ∙ (spelled-read size m.token taken s some w ∙ ap (λ (n : CdcMessage). record s { number = number_from taken.number n.number }) (sym e))

pub read-back : (size : ℕ) (m : CdcMessage) (taken s : Snapshot) → 0 < size → Spells size m s → IsWithin size taken s → taken.number ≤ s.number → s.number < taken.number + 65_536 → read_snapshot size taken m ≡ s
read-back size m taken s some e w from near =
    ap (λ n. read_snapshot size taken n) e ∙ (spelled-read size m.token taken s some w ∙ ap (λ n. record s { number = n }) (least-is 65_536 taken.number s.number (omega arith) from near))

-- what is next to land is within the distances from what its taker has taken
within : (size : ℕ) (s : Snapshot) (x y : Half) → 0 < size → MayTake size s y → IsCounted size x y → IsCounted size y x → y.taken.aborted ≡ false → IsWithin size y.taken s
within size s x y some m c d e = record {
  told = m.tells_near;
  told_near = by c.read_told;
  read = m.reads_on;
  read_near = omega (arith, m.reads_accepted, d.window_of_read, some);
}
  where
    by : (y.taken.aborted ≡ true) ⊎ (y.rd ≤ y.taken.told) → s.told + size < y.taken.told + 65_536 * size
    by (inl f) = absurd (true≢false (sym f ∙ e))
    by (inr f) = omega (arith, m.fits, f, some)

other-side : (size : ℕ) (x : Side) (p : Pipe) → IsCounted size (half (other x) p) (half (other (other x)) p) → IsCounted size (half (other x) p) (half x p)
other-side size A p c = c
other-side size B p c = c

pub next-within : (t : Terms) (x : Side) (items : List Item) (m : Sent) → 0 < t.size → IsFeasible t items → head (to_land (half x (pipe t items))) ≡ Some m → m.check ≡ false → (half (other x) (pipe t items)).taken.aborted ≡ false
    → IsWithin t.size (half (other x) (pipe t items)).taken m.snapshot
next-within t x items m some f e g a =
    within t.size m.snapshot (half x (pipe t items)) (half (other x) (pipe t items)) some (lands-well t x items m f e g) (is-counted t x items f) (other-side t.size x (pipe t items) (is-counted t (other x) items f)) a
