-- How far the bytes of an end have landed without a hole: what an entry adds to it, and that the end has accepted so many.
use Rattle.std.proofs.Common.{Bool, List, [], ap, arith, drop, false, if◌then◌else◌, inl, inr, length, length-append, max, refl, sym, true, true≢false, zero, suc, ℕ, ◌++◌, ◌+◌, ◌||◌, ◌<◌, ◌∙◌, ◌∷◌, ◌≡◌, ◌≤◌, ◌⊎◌}
use Rattle.std.specs.Prelude.{None, Option, Some, nat_lt}
use Rattle.std.proofs.lemmas.Bool.{ltb-false}
use Rattle.pipe_model.specs.Parts.{CarriesFew, covered, covered_after}
use Rattle.pipe_model.specs.Pipe.{Lands}
use Rattle.pipe_model.specs.declared.sent.Sent.{Sent}
use Rattle.pipe_model.proofs.Pipes.{carries-few}
use Rattle.history_laws.specs.Items.{EachItem}
use Rattle.history_laws.specs.Words.{Calls, Completes, EachOf, Fate, GroupEnd, IsFeasible, Item, Side, Terms, Up, half, head, pipe, same_side, to_land}
use Rattle.history_laws.proofs.Basics.{by-bool, each-drop, is_no_message, same-is}
use Rattle.history_laws.proofs.Items.{news-grow}
use Rattle.wire_laws.proofs.Memory.Ends.{IsGrown, grown-step}

-- what is no message adds nothing
pub covered-below : (t : Terms) (x : Side) (news is : List Item) → EachItem is_no_message news → covered t x (news ++ is) ≡ covered t x is
covered-below t x [] is e = refl
covered-below t x (Fate y link phase ∷ news) is e = covered-below t x news is e.1
covered-below t x (GroupEnd y ∷ news) is e = covered-below t x news is e.1
covered-below t x (Up y link ∷ news) is e = covered-below t x news is e.1
covered-below t x (Calls y call ∷ news) is e = covered-below t x news is e.1
covered-below t x (Lands y ∷ news) is e = absurd (true≢false (sym e.0))
covered-below t x (Completes y ∷ news) is e = absurd (true≢false (sym e.0))

-- one item adds nothing, or it is a landing of the end
pub covered-item : (t : Terms) (x : Side) (item : Item) (is : List Item) → (covered t x (item ∷ is) ≡ covered t x is) ⊎ ((item ≡ Lands x) × (covered t x (item ∷ is) ≡ covered_after (head (to_land (half x (pipe t is)))) (covered t x is)))
covered-item t x (Fate y link phase) is = inl refl
covered-item t x (GroupEnd y) is = inl refl
covered-item t x (Up y link) is = inl refl
covered-item t x (Calls y call) is = inl refl
covered-item t x (Completes y) is = inl refl
covered-item t x (Lands y) is = by-bool _ (same_side x y)
    (λ c. inr (ap (λ z. Lands z) (sym (same-is x y c)), ap (λ (b : Bool). if b then covered_after (head (to_land (half x (pipe t is)))) (covered t x is) else covered t x is) c))
    (λ c. inl (ap (λ (b : Bool). if b then covered_after (head (to_land (half x (pipe t is)))) (covered t x is) else covered t x is) c))

-- what a message adds
pub covered-more : (o : Option Sent) (c n : ℕ) → c ≤ n → n < covered_after o c → (m : Sent) × ((o ≡ Some m) × ((m.from ≤ n) × (n < m.snapshot.told)))
covered-more None c n l h = absurd (omega (arith, l, h))
covered-more (Some m) c n l h = by m.check (nat_lt c m.from) refl h
  where
    by : (a b : Bool) → nat_lt c m.from ≡ b → n < (if a || b then c else max c m.snapshot.told) → (k : Sent) × ((Some m ≡ Some k) × ((k.from ≤ n) × (n < k.snapshot.told)))
    by true b e g = absurd (omega (arith, l, g))
    by false true e g = absurd (omega (arith, l, g))
    by false false e g = let f = ltb-false c m.from e in (m, (refl, (omega (arith, l, f), omega (arith, l, g))))

-- an end has accepted no less
first-within : (out : ℕ) (ms : List Sent) → EachOf (λ m. m.snapshot.told ≤ out) ms → (c : ℕ) → c ≤ out → covered_after (head ms) c ≤ out
first-within out [] e c l = l
first-within out (m ∷ ms) e c l = by (m.check || nat_lt c m.from)
  where
    by : (b : Bool) → (if b then c else max c m.snapshot.told) ≤ out
    by true = l
    by false = omega (arith, l, e.0)

each-within : (size out : ℕ) (ms : List Sent) → EachOf (CarriesFew size out) ms → EachOf (λ m. m.snapshot.told ≤ out) ms
each-within size out [] e = tt
each-within size out (m ∷ ms) e = (let c : CarriesFew size out m = e.0 in c.within, each-within size out ms e.1)

-- so have its messages
pub told-within : (t : Terms) (x : Side) (is : List Item) → IsFeasible t is → EachOf (λ m. m.snapshot.told ≤ length (half x (pipe t is)).out) (half x (pipe t is)).sent
told-within t x is f = each-within t.size (length (half x (pipe t is)).out) (half x (pipe t is)).sent (carries-few t x is f)

pub covered-within : (t : Terms) (x : Side) (is : List Item) → IsFeasible t is → covered t x is ≤ length (half x (pipe t is)).out
covered-within t x [] f = omega arith
covered-within t x (item ∷ is) f =
    let g : IsGrown (half x (pipe t is)) (half x (pipe t (item ∷ is))) = grown-step t x item is f.1 in
    let long : length (half x (pipe t (item ∷ is))).out ≡ length (half x (pipe t is)).out + length g.out = ap (λ bs. length bs) g.out_is ∙ length-append (half x (pipe t is)).out g.out in
    let was : covered t x is ≤ length (half x (pipe t is)).out = covered-within t x is f.1 in
    let one : covered_after (head (to_land (half x (pipe t is)))) (covered t x is) ≤ length (half x (pipe t is)).out = first-within (length (half x (pipe t is)).out) (to_land (half x (pipe t is)))
    (each-drop (λ m. m.snapshot.told ≤ length (half x (pipe t is)).out) (half x (pipe t is)).landed (half x (pipe t is)).sent (told-within t x is f.1)) (covered t x is) was in
    elim (covered-item t x item is) [
      | inl q ↦ omega (arith, q, long, was)
      | inr q ↦ omega (arith, q.1, long, one)
    ]

-- of an end that has sent nothing nothing has landed
none-left : (ms ns : List Sent) → ms ++ ns ≡ [] → ms ≡ []
none-left [] ns e = refl
none-left (m ∷ ms) ns e = absurd (omega (arith, ap (λ ks. length ks) e))

drop-nothing : (n : ℕ) (ms : List Sent) → ms ≡ [] → drop n ms ≡ []
drop-nothing zero ms e = ap (λ ns. drop 0 ns) e
drop-nothing (suc n) ms e = ap (λ ns. drop (suc n) ns) e

pub covered-none : (t : Terms) (x : Side) (is : List Item) → (half x (pipe t is)).sent ≡ [] → covered t x is ≡ 0
covered-none t x [] e = refl
covered-none t x (item ∷ is) e =
    let g = news-grow t x (item ∷ []) is in
    let before : (half x (pipe t is)).sent ≡ [] = none-left (half x (pipe t is)).sent g.more (sym g.sent_is ∙ e) in
    let was : covered t x is ≡ 0 = covered-none t x is before in
    elim (covered-item t x item is) [
      | inl q ↦ q ∙ was
      | inr q ↦ q.1 ∙ (ap (λ ms. covered_after (head ms) (covered t x is)) (drop-nothing (half x (pipe t is)).landed (half x (pipe t is)).sent before) ∙ was)
    ]
