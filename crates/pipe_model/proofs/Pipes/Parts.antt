-- What holds of the two ends of a pipe after every part that can be, by induction over the part.
use Rattle.std.proofs.Common.{ℕ, Bool, inr, List, [], ◌∷◌, refl, arith}
use Rattle.smc_num.specs.declared.Side.{Side}
use Rattle.smc_num.specs.declared.Side.TheVariants.{A, B}
use Rattle.smc_num.specs.Names.{other}
use Rattle.pipe_model.specs.Ends.{Half, fresh}
use Rattle.pipe_model.specs.Calls.{Call, Writes, Reads, Finishes, Closes, Aborts, Awaits, Moves, calls}
use Rattle.pipe_model.specs.Pipe.{Terms, Item, Fate, GroupEnd, Up, Calls, Lands, Completes, Pipe, half, pipe, apply}
use Rattle.pipe_model.specs.Parts.{actor, CanFollow, IsFeasible}
use Rattle.pipe_model.proofs.Pipes.Sound.{Way, Both, settled}
use Rattle.pipe_model.proofs.Pipes.Items.{kept-fate, kept-end, kept-up, kept-write, kept-read, kept-finish, kept-close, kept-abort, kept-move, kept-landing, kept-completion}

-- both ends of a pipe, from one of them
abbrev pub BothOf : Terms → Side → Pipe → Type 0
BothOf t x p = Both t.size t.depth (half x p) (half (other x) p)

call-kept : (size depth : ℕ) (call : Call) (h k : Half) → Both size depth h k → Both size depth (calls size call h) k
call-kept size depth (Writes bytes) h k b = kept-write size depth h k bytes b
call-kept size depth (Reads n) h k b = kept-read size depth h k n b
call-kept size depth Finishes h k b = kept-finish size depth h k b
call-kept size depth Closes h k b = kept-close size depth h k b
call-kept size depth Aborts h k b = kept-abort size depth h k b
call-kept size depth Awaits h k b = b
call-kept size depth Moves h k b = kept-move size depth h k b

-- one item, from the end that acts
kept : (t : Terms) (item : Item) (p : Pipe) (broken : Bool) → CanFollow item (half (actor item) p) broken → BothOf t (actor item) p → BothOf t (actor item) (apply t.size item p)
kept t (Fate A link phase) p broken f b = kept-fate t.size t.depth p.a p.b link phase b
kept t (Fate B link phase) p broken f b = kept-fate t.size t.depth p.b p.a link phase b
kept t (GroupEnd A) p broken f b = kept-end t.size t.depth p.a p.b b
kept t (GroupEnd B) p broken f b = kept-end t.size t.depth p.b p.a b
kept t (Up A link) p broken f b = kept-up t.size t.depth p.a p.b link b
kept t (Up B link) p broken f b = kept-up t.size t.depth p.b p.a link b
kept t (Calls A call) p broken f b = call-kept t.size t.depth call p.a p.b b
kept t (Calls B call) p broken f b = call-kept t.size t.depth call p.b p.a b
kept t (Lands A) p broken f b = kept-landing t.size t.depth p.a p.b f.0 b
kept t (Lands B) p broken f b = kept-landing t.size t.depth p.b p.a f.0 b
kept t (Completes A) p broken f b = kept-completion t.size t.depth p.a p.b f b
kept t (Completes B) p broken f b = kept-completion t.size t.depth p.b p.a f b

-- seen from either end it is the same
pub seen-from : (t : Terms) (x y : Side) (p : Pipe) → BothOf t x p → BothOf t y p
seen-from t A A p b = b
seen-from t A B p b = (b.1, b.0)
seen-from t B A p b = (b.1, b.0)
seen-from t B B p b = b

after : (t : Terms) (item : Item) (p : Pipe) (broken : Bool) → CanFollow item (half (actor item) p) broken → BothOf t A p → BothOf t A (apply t.size item p)
after t item p broken f b = seen-from t (actor item) A (apply t.size item p) (kept t item p broken f (seen-from t A (actor item) p b))

fresh-way : (size depth number : ℕ) → Way size depth (fresh number) (fresh number)
fresh-way size depth number = (
  record {
    fin_last = omega arith;
    last_out = omega arith;
    fin_number = omega arith;
    last_number = omega arith;
    last_read = omega arith;
    window_fin = omega arith;
    window_taken = omega arith;
    taken_out = omega arith;
    rd_out = omega arith;
    taken_rd = omega arith;
    rd_taken = inr (omega arith);
    taken_number = omega arith;
  },
  record { within = omega arith; under = tt; ascends = tt },
  record { within = omega arith; is = refl; climbs = refl; numbered = tt; few = omega arith },
  omega arith,
)

holds : (t : Terms) (items : List Item) → IsFeasible t items → BothOf t A (pipe t items)
holds t [] f = (fresh-way t.size t.depth t.number, fresh-way t.size t.depth t.number)
holds t (item ∷ items) f = settled t.size t.depth (apply t.size item (pipe t items)).a (apply t.size item (pipe t items)).b (after t item (pipe t items) _ f.0 (holds t items f.1))

-- over every part that can be, for either side
pub both : (t : Terms) (x : Side) (items : List Item) → IsFeasible t items → BothOf t x (pipe t items)
both t x items f = seen-from t A x (pipe t items) (holds t items f)

-- and after the next item, before what becomes due with it is posted
pub both-after : (t : Terms) (x : Side) (item : Item) (items : List Item) → IsFeasible t (item ∷ items) → BothOf t x (apply t.size item (pipe t items))
both-after t x item items f = seen-from t A x (apply t.size item (pipe t items)) (after t item (pipe t items) _ f.0 (holds t items f.1))
