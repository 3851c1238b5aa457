-- A subnet that is printed is read as the same subnet.
use Rattle.std.proofs.Common.{◌≡◌, ◌∙◌, ℕ, ◌+◌, ◌*◌, ◌/◌, ◌%◌, ◌^◌, ◌-◌, ◌<◌, ◌≤◌, Bool, true, false, List, [], ◌∷◌, ◌++◌, Ok, Err, cond, refl, ap, arith}
use Rattle.std.specs.Prelude.{not, codes}
use Rattle.std.specs.List.{list_all}
use Rattle.std.specs.Fmt.{decimal}
use Rattle.std.proofs.lemmas.Bool.{eq-eqb}
use Rattle.std.proofs.lemmas.List.{length-append}
use Rattle.scene_text.specs.declared.faults.LineKind.TheVariants as kinds
use Rattle.scene_text.specs.declared.limits.TheConstants.{MOST_PREFIX_BITS}
use Rattle.scene_text.specs.Words.{◌>>=◌, point, slash, parts, number_in, as_subnet, address_with, address_in, address_of, has_host_bits, subnet_in, subnet_of}
use Rattle.scene_text.specs.Scenes.{IsSubnet}
use Rattle.scene_text.specs.Printing.{address_text, subnet_text}
use Rattle.scene_text.proofs.ReadBack.Splits.{differs, all-append, all-weaker, whole_part, first_part, is_plain, is_word_byte, plain_differs, plain_in_words, IsWord}
use Rattle.scene_text.proofs.ReadBack.Digits.{in_range_read, number_plain}

part_read : (most n : ℕ) → n ≤ most → most ≤ 255 → as_subnet (number_in 0 most (decimal n)) ≡ Ok n
part_read most n h few = ap as_subnet (in_range_read n (omega arith) 0 most (omega arith) h)

no_point : (n : ℕ) → n ≤ 255 → list_all (differs point) (decimal n) ≡ true
no_point n h = all-weaker is_plain (differs point) (plain_differs point (omega arith)) (decimal n) (number_plain n (omega arith))

four_parts : (a b c d : ℕ) → a ≤ 255 → b ≤ 255 → c ≤ 255 → d ≤ 255 → parts point (decimal a ++ (codes "." ++ (decimal b ++ (codes "." ++ (decimal c ++ (codes "." ++ decimal d)))))) ≡ decimal a ∷ decimal b ∷ decimal c ∷ decimal d ∷ []
four_parts a b c d ha hb hc hd =
    first_part point (decimal a) _ (no_point a ha)
    ∙ ap (λ more. decimal a ∷ more) (first_part point (decimal b) _ (no_point b hb)
    ∙ ap (λ more. decimal b ∷ more) (first_part point (decimal c) _ (no_point c hc)
    ∙ ap (λ more. decimal c ∷ more) (whole_part point (decimal d) (no_point d hd))))

four_read : (a b c d : ℕ) → a ≤ 255 → b ≤ 255 → c ≤ 255 → d ≤ 255 → address_with (decimal a) (decimal b) (decimal c) (decimal d) ≡ Ok (((a * 256 + b) * 256 + c) * 256 + d)
four_read a b c d ha hb hc hd = rw (part_read 255 a ha (omega arith), part_read 255 b hb (omega arith), part_read 255 c hc (omega arith), part_read 255 d hd (omega arith)) refl

module _ (n : ℕ) (h : n < 4294967296) where
  pub address_read : address_of (address_text n) ≡ Ok n
  address_read =
      let a : n / 256 / 256 / 256 ≤ 255 = omega arith in
      let b : n / 256 / 256 % 256 ≤ 255 = omega arith in
      let c : n / 256 % 256 ≤ 255 = omega arith in
      let d : n % 256 ≤ 255 = omega arith in
      let whole : ((n / 256 / 256 / 256 * 256 + n / 256 / 256 % 256) * 256 + n / 256 % 256) * 256 + n % 256 ≡ n = omega arith in
      ap address_in (four_parts _ _ _ _ a b c d) ∙ four_read _ _ _ _ a b c d ∙ ap Ok whole

  -- what passes digits and points passes an address
  module _ (p : ℕ → Bool) (plain : (b : ℕ) → is_plain b ≡ true → p b ≡ true) (of_point : p point ≡ true) where
    digits_pass : (m : ℕ) → m ≤ 255 → list_all p (decimal m) ≡ true
    digits_pass m few = all-weaker is_plain p plain (decimal m) (number_plain m (omega arith))

    before : (m : ℕ) (rest : List ℕ) → m ≤ 255 → list_all p rest ≡ true → list_all p (decimal m ++ (codes "." ++ rest)) ≡ true
    before m rest few k = all-append p (decimal m) (codes "." ++ rest) (digits_pass m few) (rw (of_point, k) refl)

    pub address_passes : list_all p (address_text n) ≡ true
    address_passes = before _ _ (omega arith) (before _ _ (omega arith) (before _ _ (omega arith) (digits_pass (n % 256) (omega arith))))

module _ (net : ℕ × ℕ) (fits : net.0 < 4294967296) (is : IsSubnet net) where
  no_host_bits : has_host_bits net.0 net.1 ≡ false
  no_host_bits = ap not (eq-eqb (net.0 % 2 ^ (MOST_PREFIX_BITS - net.1)) 0 is.1)

  two_parts : parts slash (subnet_text net) ≡ address_text net.0 ∷ decimal net.1 ∷ []
  two_parts =
      let few : net.1 ≤ 32 = is.0 in
      first_part slash (address_text net.0) (decimal net.1) (address_passes net.0 fits (differs slash) (plain_differs slash (omega arith)) refl)
      ∙ ap (λ more. address_text net.0 ∷ more) (whole_part slash (decimal net.1) (all-weaker is_plain (differs slash) (plain_differs slash (omega arith)) (decimal net.1) (number_plain net.1 (omega arith))))

  pub subnet_read : subnet_of (subnet_text net) ≡ Ok net
  subnet_read =
      ap subnet_in two_parts
      ∙ ap (λ r. r >>= λ address. as_subnet (number_in 0 MOST_PREFIX_BITS (decimal net.1)) >>= λ prefix. cond (has_host_bits address prefix) (Err kinds.Subnet) (Ok (address, prefix))) (address_read net.0 fits)
      ∙ ap (λ r. r >>= λ prefix. cond (has_host_bits net.0 prefix) (Err kinds.Subnet) (Ok (net.0, prefix))) (part_read MOST_PREFIX_BITS net.1 is.0 (omega arith))
      ∙ ap (λ t. cond t (Err kinds.Subnet) (Ok net)) no_host_bits

  pub subnet_word : IsWord (subnet_text net)
  subnet_word =
      let few : net.1 ≤ 32 = is.0 in
      let whole : list_all is_word_byte (codes "/" ++ decimal net.1) ≡ true = all-weaker is_plain is_word_byte plain_in_words (decimal net.1) (number_plain net.1 (omega arith)) in
      record {
        some = omega (arith, length-append (address_text net.0) (codes "/" ++ decimal net.1));
        whole = all-append is_word_byte (address_text net.0) (codes "/" ++ decimal net.1) (address_passes net.0 fits is_word_byte plain_in_words refl) whole;
      }
