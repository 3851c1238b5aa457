-- A part can be as long as what lands was sent and what completes has landed; and then nothing is ever swallowed.
use Rattle.std.proofs.Common.{◌≡◌, ◌∙◌, ℕ, ◌+◌, ◌-◌, ◌≤◌, ◌<◌, Bool, true, false, if◌then◌else◌, List, [], ◌∷◌, ◌++◌, length, take, refl, ap, sym, ◌&&◌, ◌||◌, not, true≢false, arith, suc, zero, length-take, ne_eqb}
use Rattle.std.specs.Prelude.{Some, is_some}
use Rattle.smc_num.specs.declared.Side.{Side}
use Rattle.smc_num.specs.declared.Side.TheVariants.{A, B}
use Rattle.smc_num.specs.Names.{same_side, head}
use Rattle.pipe_model.specs.declared.sent.Sent.{Sent}
use Rattle.pipe_model.specs.Ends.{Half, is_due_for_move}
use Rattle.pipe_model.specs.Calls.{Writes, Reads, Finishes, Closes, Aborts, Awaits, Moves}
use Rattle.pipe_model.specs.Pipe.{Pipe, Terms, Item, Fate, GroupEnd, Up, Calls, Lands, Completes, half, pipe}
use Rattle.pipe_model.specs.Parts.{has_swallow, swallows, is_swallowed, is_broken, broken_after, actor}
use Rattle.pipe_model.proofs.Pipes.{is-marked}
use Rattle.world_core.specs.Wired.{EachItem, returning}
use Rattle.world_core.specs.Agreement.{CanBe}
use Rattle.world_core.proofs.Plain.{or-right}

or-left : (a b : Bool) → (a || b) ≡ false → a ≡ false
or-left true b e = e
or-left false b e = refl

or-both : (a b : Bool) → a ≡ false → b ≡ false → (a || b) ≡ false
or-both a b e f = ap (λ c. c || b) e ∙ f

and-false : (a b : Bool) → a ≡ false → (a && b) ≡ false
and-false a b e = ap (λ c. c && b) e

-- where nothing was swallowed no way is broken
kept-whole : (x : Side) (item : Item) (p : Pipe) (broken : Bool) → broken ≡ false → swallows item p ≡ false → (if same_side x (actor item) then broken_after item (half x p) broken else broken) ≡ false
kept-whole A (Fate A link phase) p broken e f = e
kept-whole A (Fate B link phase) p broken e f = e
kept-whole B (Fate A link phase) p broken e f = e
kept-whole B (Fate B link phase) p broken e f = e
kept-whole A (GroupEnd A) p broken e f = e
kept-whole A (GroupEnd B) p broken e f = e
kept-whole B (GroupEnd A) p broken e f = e
kept-whole B (GroupEnd B) p broken e f = e
kept-whole A (Up A link) p broken e f = e
kept-whole A (Up B link) p broken e f = e
kept-whole B (Up A link) p broken e f = e
kept-whole B (Up B link) p broken e f = e
kept-whole A (Calls A (Writes bytes)) p broken e f = e
kept-whole A (Calls A (Reads n)) p broken e f = e
kept-whole A (Calls A Finishes) p broken e f = e
kept-whole A (Calls A Closes) p broken e f = e
kept-whole A (Calls A Aborts) p broken e f = e
kept-whole A (Calls A Awaits) p broken e f = e
kept-whole A (Calls A Moves) p broken e f = and-false broken (not (is_due_for_move p.a)) e
kept-whole B (Calls B (Writes bytes)) p broken e f = e
kept-whole B (Calls B (Reads n)) p broken e f = e
kept-whole B (Calls B Finishes) p broken e f = e
kept-whole B (Calls B Closes) p broken e f = e
kept-whole B (Calls B Aborts) p broken e f = e
kept-whole B (Calls B Awaits) p broken e f = e
kept-whole B (Calls B Moves) p broken e f = and-false broken (not (is_due_for_move p.b)) e
kept-whole A (Calls B call) p broken e f = e
kept-whole B (Calls A call) p broken e f = e
kept-whole A (Lands A) p broken e f = e
kept-whole A (Lands B) p broken e f = e
kept-whole B (Lands A) p broken e f = e
kept-whole B (Lands B) p broken e f = e
kept-whole A (Completes A) p broken e f = or-both broken (is_swallowed p.a) e f
kept-whole A (Completes B) p broken e f = e
kept-whole B (Completes A) p broken e f = e
kept-whole B (Completes B) p broken e f = or-both broken (is_swallowed p.b) e f

pub unbroken : (t : Terms) (x : Side) (items : List Item) → has_swallow t items ≡ false → is_broken t x items ≡ false
unbroken t x [] e = refl
unbroken t x (item ∷ items) e =
    kept-whole x item (pipe t items) (is_broken t x items) (unbroken t x items (or-left (has_swallow t items) (swallows item (pipe t items)) e)) (or-right (has_swallow t items) (swallows item (pipe t items)) e)

-- an item that lands and completes nothing
abbrev pub is_no_message : Item → Bool
is_no_message (Lands x) = false
is_no_message (Completes x) = false
is_no_message _ = true

can-any : (t : Terms) (item : Item) (items : List Item) → is_no_message item ≡ true → CanBe t items → CanBe t (item ∷ items)
can-any t (Fate x link phase) items e c = record { feasible = (tt, c.feasible); whole = or-both (has_swallow t items) false c.whole refl }
can-any t (GroupEnd x) items e c = record { feasible = (tt, c.feasible); whole = or-both (has_swallow t items) false c.whole refl }
can-any t (Up x link) items e c = record { feasible = (tt, c.feasible); whole = or-both (has_swallow t items) false c.whole refl }
can-any t (Calls x call) items e c = record { feasible = (tt, c.feasible); whole = or-both (has_swallow t items) false c.whole refl }
can-any t (Lands x) items e c = absurd (true≢false (sym e))
can-any t (Completes x) items e c = absurd (true≢false (sym e))

-- such items can always be
pub can-more : (t : Terms) (news items : List Item) → EachItem is_no_message news → CanBe t items → CanBe t (news ++ items)
can-more t [] items e c = c
can-more t (item ∷ news) items e c = can-any t item (news ++ items) e.0 (can-more t news items e.1 c)

-- a message lands that was sent
pub can-land : (t : Terms) (x : Side) (items : List Item) → (half x (pipe t items)).landed + 1 ≤ length (half x (pipe t items)).sent → CanBe t items → CanBe t (Lands x ∷ items)
can-land t x items l c = record { feasible = ((omega (arith, l), unbroken t x items c.whole), c.feasible); whole = or-both (has_swallow t items) false c.whole refl }

-- a message completes that has landed
pub can-complete : (t : Terms) (x : Side) (items : List Item) → (half x (pipe t items)).completed < (half x (pipe t items)).landed → CanBe t items → CanBe t (Completes x ∷ items)
can-complete t x items l c =
    let m = is-marked t x items c.feasible in
    record {
      feasible = (omega (arith, l, m.landed_sent), c.feasible);
      whole = or-both (has_swallow t items) (is_swallowed (half x (pipe t items))) c.whole (ne_eqb (half x (pipe t items)).completed (half x (pipe t items)).landed (λ e. omega (arith, l, e)));
    }

-- what an end has of landed messages begins with one
pub has-returning : (h : Half) (m : Sent) (rest : List Sent) → returning h ≡ m ∷ rest → h.completed < h.landed
has-returning h m rest e =
    let n : length (returning h) ≡ length (m ∷ rest) = ap (λ ms. length ms) e in
    let l : length (returning h) ≤ h.landed - h.completed = simp length-take (omega arith) in
    omega (arith, n, l)

pub returning-head : (n : ℕ) (ms rest : List Sent) (m : Sent) → take n ms ≡ m ∷ rest → head ms ≡ Some m
returning-head zero [] rest m e = ap (λ ns. head ns) e
returning-head zero (k ∷ ms) rest m e = absurd (true≢false (sym (ap (λ ns. is_some (head ns)) e)))
returning-head (suc n) [] rest m e = ap (λ ns. head ns) e
returning-head (suc n) (k ∷ ms) rest m e = ap (λ ns. head ns) e
