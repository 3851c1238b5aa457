-- Texts by way of a page.
use Rattle.std.proofs.Common.{◌≡◌, ◌∙◌, ℕ, zero, suc, ◌+◌, ◌≤◌, Bool, true, false, List, [], ◌∷◌, ◌++◌, Option, Some, None, Result, Ok, Err, length, take, drop, refl, sym, ap, subst, append_assoc, append-nil, arith}
use Rattle.std.specs.Prelude.{OnOk, is_ok, if◌then◌else◌, ◌==◌}
use Rattle.std.proofs.lemmas.List.{take-append-drop, drop-drop, take_all}
use Rattle.std.proofs.lemmas.Bool.{eqb-true}
use Rattle.std.proofs.Math.Seq.{take-append-add, take-append_seam}
use Rattle.byte_port.specs.Causes.{Grew, TakesIn}
use Rattle.byte_port.specs.Pages.{Went, Stands, Wrote}

take_front : (n : ℕ) (xs ys : List ℕ) → (m : ℕ) × (take m (xs ++ ys) ≡ take n xs)
take_front zero xs ys = (zero, refl)
take_front (suc n) [] ys = (zero, refl)
take_front (suc n) (x ∷ xs) ys = let rest = take_front n xs ys in (suc rest.0, ap (λ zs. x ∷ zs) rest.1)

grew_on : (old mid new : Option (List ℕ)) (xs ys : List ℕ) → Grew old mid xs → Grew mid new ys → Grew old new (xs ++ ys)
grew_on None mid new xs ys g h = tt
grew_on (Some held) None new xs ys g h = absurd g
grew_on (Some held) (Some now) None xs ys g h = h
grew_on (Some held) (Some now) (Some last) xs ys g h = h ∙ ap (λ zs. zs ++ ys) g ∙ append_assoc held xs ys

grew_none : (old : Option (List ℕ)) → Grew old old []
grew_none None = tt
grew_none (Some held) = sym (append-nil held)

taken : (E : Type 0) (old new : Option (List ℕ)) (n : ℕ) (piece : List ℕ) → TakesIn {E = E} old new (Ok n) piece → Grew old new (take n piece)
taken E None new n piece t = tt
taken E (Some held) None n piece t = t
taken E (Some held) (Some now) n piece t = t

stayed : (E : Type 0) (e : E) (old new : Option (List ℕ)) (piece : List ℕ) → TakesIn {E = E} old new (Err e) piece → Grew old new []
stayed E e None new piece t = tt
stayed E e (Some held) None piece t = t
stayed E e (Some held) (Some now) piece t = t ∙ sym (append-nil held)

-- what a sink took of the page is with the sink
pub sent : (E : Type 0) (a b c : Option (List ℕ)) (bytes page : List ℕ) (d n : ℕ) → Went a page b (drop d bytes) [] → TakesIn {E = E} b c (Ok n) (drop d bytes) → Went a page c (drop (d + n) bytes) []
sent E a b c bytes page d n s t = record {
  more = s.more ++ take n (drop d bytes);
  took = grew_on a b c s.more (take n (drop d bytes)) s.took (taken E b c n (drop d bytes) t);
  rest = s.rest ∙ ap (λ zs. s.more ++ zs) (sym (take-append-drop n (drop d bytes))) ∙ ap (λ zs. s.more ++ (take n (drop d bytes) ++ zs)) (drop-drop n d bytes) ∙ sym (append_assoc s.more (take n (drop d bytes)) (drop (d + n) bytes));
}

-- a sink that failed took nothing
pub kept : (E : Type 0) (e : E) (a b c : Option (List ℕ)) (page left piece : List ℕ) → Went a page b left [] → TakesIn {E = E} b c (Err e) piece → Went a page c left []
kept E e a b c page left piece s t = record {
  more = s.more;
  took = subst (λ zs. Grew a c zs) (append-nil s.more) (grew_on a b c s.more [] s.took (stayed E e b c piece t));
  rest = s.rest;
}

-- what follows a text in another that begins with it
abbrev pub after : List ℕ → List ℕ → Option (List ℕ)
after [] text = Some text
after (x ∷ xs) [] = None
after (x ∷ xs) (y ∷ ys) = if x == y then after xs ys else None

-- it begins with it
abbrev pub Begins : Option (List ℕ) → Type 0
Begins None = ⊥
Begins (Some rest) = Unit {0}

-- it begins with it, and what follows stands there
abbrev pub Follows : Option (List ℕ) → Bool → Option (List ℕ) → List ℕ → Option (List ℕ) → List ℕ → Type 0
Follows None whole held page now left = ⊥
Follows (Some rest) whole held page now left = Stands whole held page now left rest

after_if : (same : Bool) (x y : ℕ) (xs ys rest : List ℕ) → (same ≡ true → x ≡ y) → (after xs ys ≡ Some rest → ys ≡ xs ++ rest) → (if same then after xs ys else None) ≡ Some rest → y ∷ ys ≡ x ∷ (xs ++ rest)
after_if true x y xs ys rest e f g = ap (λ z. z ∷ ys) (sym (e refl)) ∙ ap (λ zs. x ∷ zs) (f g)
after_if false x y xs ys rest e f g = absurd (cc)

after_is : (xs text rest : List ℕ) → after xs text ≡ Some rest → text ≡ xs ++ rest
after_is [] text rest e = cc
after_is (x ∷ xs) [] rest e = absurd (cc)
after_is (x ∷ xs) (y ∷ ys) rest e = after_if (x == y) x y xs ys rest (eqb-true x y) (after_is xs ys rest) e

begins_is : (found : Option (List ℕ)) → Begins found → (rest : List ℕ) × (found ≡ Some rest)
begins_is None e = absurd e
begins_is (Some rest) e = (rest, refl)

follows_is : (found : Option (List ℕ)) (whole : Bool) (b : Option (List ℕ)) (q : List ℕ) (c : Option (List ℕ)) (r : List ℕ) → Follows found whole b q c r → (rest : List ℕ) × Stands whole b q c r rest × (found ≡ Some rest)
follows_is None whole b q c r f = absurd f
follows_is (Some rest) whole b q c r f = (rest, f, refl)

module _ (a : Option (List ℕ)) (p : List ℕ) where
  nothing : Went a p a p []
  nothing = record { more = []; took = grew_none a; rest = append-nil p }

  -- nothing was put yet
  pub none_put : Stands true a p a p []
  unfolding Stands
  none_put = (0, nothing)

  module _ (b : Option (List ℕ)) (q : List ℕ) where
    went_on : (c : Option (List ℕ)) (r xs ys : List ℕ) → Went a p b q xs → Went b q c r ys → Went a p c r (xs ++ ys)
    went_on c r xs ys s t = record {
      more = s.more ++ t.more;
      took = grew_on a b c s.more t.more s.took t.took;
      rest = sym (append_assoc p xs ys) ∙ ap (λ zs. zs ++ ys) s.rest ∙ append_assoc s.more q ys ∙ ap (λ zs. s.more ++ zs) t.rest ∙ sym (append_assoc s.more t.more r);
    }

    -- a front of a text is one of a longer text
    pub more : (xs ys : List ℕ) → Stands false a p b q xs → Stands false a p b q (xs ++ ys)
    unfolding Stands
    more xs ys s = let front = take_front s.0 xs ys in (front.0, subst (λ zs. Went a p b q zs) (sym front.1) s.1)

    -- the same where the text is spelled out
    pub more_of : (xs text : List ℕ) → Stands false a p b q xs → Begins (after xs text) → Stands false a p b q text
    more_of xs text s e = let rest = begins_is (after xs text) e in subst (λ zs. Stands false a p b q zs) (sym (after_is xs text rest.0 rest.1)) (more xs rest.0 s)

    behind_by : (whole : Bool) (c : Option (List ℕ)) (r xs ys : List ℕ) → Stands true a p b q xs → Stands whole b q c r ys → Stands whole a p c r (xs ++ ys)
    unfolding Stands
    behind_by true c r xs ys s t = (0, went_on c r xs ys s.1 t.1)
    behind_by false c r xs ys s t = (length xs + t.0, subst (λ zs. Went a p c r zs) (sym (take-append-add xs ys t.0)) (went_on c r xs (take t.0 ys) s.1 t.1))

  -- what is put behind a text
  pub behind : (whole : Bool) (c : Option (List ℕ)) (r xs ys : List ℕ) (b : Option (List ℕ)) (q : List ℕ) → Stands true a p b q xs → Stands whole b q c r ys → Stands whole a p c r (xs ++ ys)
  behind whole c r xs ys b q s t = behind_by b q whole c r xs ys s t

  -- the same where the text is spelled out
  pub behind_of : (whole : Bool) (c : Option (List ℕ)) (r text : List ℕ) (b : Option (List ℕ)) (q xs : List ℕ) → Stands true a p b q xs → Follows (after xs text) whole b q c r → Stands whole a p c r text
  behind_of whole c r text b q xs s f = let rest = follows_is (after xs text) whole b q c r f in subst (λ zs. Stands whole a p c r zs) (sym (after_is xs text rest.0 rest.2)) (behind whole c r xs rest.0 b q s rest.1)

-- a text that was put on the page
pub put_on : (a : Option (List ℕ)) (page text : List ℕ) → Stands true a page a (page ++ text) text
unfolding Stands
put_on a page text = (0, record { more = []; took = grew_none a; rest = refl })

-- a text that went to the sink behind an empty page
gone : (a b : Option (List ℕ)) (text : List ℕ) → Grew a b text → Went a [] b [] text
gone a b text g = record { more = text; took = g; rest = sym (append-nil text) }

pub gone_any : {T E : Type 0} (result : Result T E) (a b : Option (List ℕ)) (text : List ℕ) → OnOk result (Grew a b text) → (n : ℕ) × (n ≤ length text) × Grew a b (take n text) → Wrote result a [] b [] text
unfolding Stands
gone_any (Ok x) a b text g f = (0, gone a b text g)
gone_any (Err e) a b text g f = (f.0, gone a b (take f.0 text) f.2)

-- a text behind a page that went to the sink
pub turned : (whole : Bool) (a : Option (List ℕ)) (p : List ℕ) (b : Option (List ℕ)) (q : List ℕ) (c : Option (List ℕ)) (r text : List ℕ) → Stands true a p b q [] → q ≡ [] → Stands whole b [] c r text → Stands whole a p c r text
turned whole a p b q c r text s e w = behind a p whole c r [] text b [] (subst (λ zs. Stands true a p b zs []) e s) w

-- nothing of a text stands behind a page that did not go to the sink
pub stuck : (a : Option (List ℕ)) (p : List ℕ) (b : Option (List ℕ)) (q text : List ℕ) → Stands true a p b q [] → Stands false a p b q text
unfolding Stands
stuck a p b q text s = (0, s.1)

-- what went stands there
pub stands : (a : Option (List ℕ)) (p : List ℕ) (b : Option (List ℕ)) (q text : List ℕ) → Went a p b q text → Stands true a p b q text
unfolding Stands
stands a p b q text w = (0, w)

-- so much of a text was put that this rest is left
pub record Going (held : Option (List ℕ)) (page : List ℕ) (now : Option (List ℕ)) (left rest text : List ℕ) : Type 0 where
  pub said : List ℕ
  pub so_far : Stands true held page now left said
  pub all : said ++ rest ≡ text

module _ (a : Option (List ℕ)) (p : List ℕ) where
  pub at_start : (text : List ℕ) → Going a p a p text text
  at_start text = record { said = []; so_far = none_put a p; all = refl }

  module _ (b : Option (List ℕ)) (q rest text : List ℕ) (going : Going a p b q rest text) where
    pub at_end : rest ≡ [] → Stands true a p b q text
    at_end e = subst (λ zs. Stands true a p b q zs) (sym (append-nil going.said) ∙ ap (λ zs. going.said ++ zs) (sym e) ∙ going.all) going.so_far

    module _ (c : Option (List ℕ)) (r piece later : List ℕ) (next : rest ≡ piece ++ later) where
      whole : text ≡ (going.said ++ piece) ++ later
      whole = sym going.all ∙ ap (λ zs. going.said ++ zs) next ∙ sym (append_assoc going.said piece later)

      -- the next piece was put
      pub one_more : Stands true b q c r piece → Going a p c r later text
      one_more s = record { said = going.said ++ piece; so_far = behind a p true c r going.said piece b q going.so_far s; all = sym whole }

      -- a front of the next piece was
      pub cut_off : Stands false b q c r piece → Stands false a p c r text
      cut_off s = subst (λ zs. Stands false a p c r zs) (sym whole) (more a p c r (going.said ++ piece) later (behind a p false c r going.said piece b q going.so_far s))

-- how a text is put piece by piece
pub ruleset pieces = (none_put, more, more_of, behind, behind_of)

take_twice : (m n : ℕ) (xs : List ℕ) → (k : ℕ) × (take k xs ≡ take m (take n xs))
take_twice zero n xs = (zero, refl)
take_twice (suc m) zero xs = (zero, refl)
take_twice (suc m) (suc n) [] = (zero, refl)
take_twice (suc m) (suc n) (x ∷ xs) = let rest = take_twice m n xs in (suc rest.0, ap (λ zs. x ∷ zs) rest.1)

-- a text on a page that was empty before, as the sink sees it
module _ (a : Option (List ℕ)) (p : List ℕ) (empty : p ≡ []) (b : Option (List ℕ)) (q text : List ℕ) where
  front_of : (n : ℕ) (xs : List ℕ) → Went a p b q xs → (take n text ≡ xs) → (m : ℕ) × Grew a b (take m text)
  front_of n xs w e =
      let all : take n text ≡ w.more ++ q = e ∙ ap (λ zs. zs ++ xs) (sym empty) ∙ w.rest in
      let front : w.more ≡ take (length w.more) (take n text) = sym (take-append_seam w.more q) ∙ ap (take (length w.more)) (sym all) in
      let short = take_twice (length w.more) n text in
      (short.0, subst (λ zs. Grew a b zs) (front ∙ sym short.1) w.took)

  -- a call that failed left a front of it
  pub broken_off : Stands false a p b q text → (m : ℕ) × Grew a b (take m text)
  unfolding Stands
  broken_off s = front_of s.0 (take s.0 text) s.1 refl

-- all of it went there
pub flushed : (a : Option (List ℕ)) (p : List ℕ) (b : Option (List ℕ)) (q : List ℕ) (c : Option (List ℕ)) (r text : List ℕ) → p ≡ [] → Stands true a p b q text → Stands true b q c r [] → r ≡ [] → Grew a c text
unfolding Stands
flushed a p b q c r text empty s t e =
    let w = went_on a p b q c r text [] s.1 t.1 in
    let all : text ≡ w.more = sym (append-nil text) ∙ ap (λ zs. zs ++ (text ++ [])) (sym empty) ∙ w.rest ∙ ap (λ zs. w.more ++ zs) e ∙ append-nil w.more in
    subst (λ zs. Grew a c zs) (sym all) w.took

-- or, where the last flush failed, a front of it
pub unflushed : (a : Option (List ℕ)) (p : List ℕ) (b : Option (List ℕ)) (q : List ℕ) (c : Option (List ℕ)) (r text : List ℕ) → p ≡ [] → Stands true a p b q text → Stands true b q c r [] → (m : ℕ) × Grew a c (take m text)
unfolding Stands
unflushed a p b q c r text empty s t = let w = went_on a p b q c r text [] s.1 t.1 in front_of a p empty c r text (length text) (text ++ []) w (take_all (length text) text (omega arith) ∙ sym (append-nil text))
