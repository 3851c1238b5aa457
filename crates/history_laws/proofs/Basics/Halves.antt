-- What an item makes of the end at a side: what holds of each thing that can become of an end holds of it.
use Rattle.std.proofs.Common.{ℕ}
use Rattle.pipe_model.specs.Ends.{comes_up, lands, loses_group, takes}
use Rattle.pipe_model.specs.Pipe.{Lands}
use Rattle.std.specs.Prelude.{Option}
use Rattle.pipe_model.specs.declared.sent.Sent.{Sent}
use Rattle.history_laws.specs.Words.{A, B, Call, Calls, Completes, Fate, GroupEnd, Half, Item, LinkId, LinkPhase, Pipe, Side, Up, apply, calls, completes, half, head, meets_fate, other, to_complete, to_land}

-- by the side of the end, the item, and the end before and after it
pub record HoldsOfEach (size : ℕ) (P : Side → Item → Half → Half → Type 0) : Type 0 where
  pub fate : (x : Side) (link : LinkId) (phase : LinkPhase) (h : Half) → P x (Fate x link phase) h (meets_fate link phase h)
  pub gone : (x : Side) (h : Half) → P x (GroupEnd x) h (loses_group h)
  pub up : (x : Side) (link : LinkId) (h : Half) → P x (Up x link) h (comes_up link h)
  pub call : (x : Side) (call : Call) (h : Half) → P x (Calls x call) h (calls size call h)
  pub land : (x : Side) (h : Half) → P x (Lands x) h (lands h)
  pub take : (x : Side) (m : Option Sent) (h : Half) → P x (Lands (other x)) h (takes m h)
  pub complete : (x : Side) (m : Option Sent) (h : Half) → P x (Completes x) h (completes m h)
  pub rest : (x : Side) (item : Item) (h : Half) → P x item h h

pub at-half : (size : ℕ) (P : Side → Item → Half → Half → Type 0) → HoldsOfEach size P → (x : Side) (item : Item) (p : Pipe) → P x item (half x p) (half x (apply size item p))
at-half size P e A (Fate A link phase) p = e.fate A link phase p.a
at-half size P e A (Fate B link phase) p = e.rest A (Fate B link phase) p.a
at-half size P e B (Fate A link phase) p = e.rest B (Fate A link phase) p.b
at-half size P e B (Fate B link phase) p = e.fate B link phase p.b
at-half size P e A (GroupEnd A) p = e.gone A p.a
at-half size P e A (GroupEnd B) p = e.rest A (GroupEnd B) p.a
at-half size P e B (GroupEnd A) p = e.rest B (GroupEnd A) p.b
at-half size P e B (GroupEnd B) p = e.gone B p.b
at-half size P e A (Up A link) p = e.up A link p.a
at-half size P e A (Up B link) p = e.rest A (Up B link) p.a
at-half size P e B (Up A link) p = e.rest B (Up A link) p.b
at-half size P e B (Up B link) p = e.up B link p.b
at-half size P e A (Calls A call) p = e.call A call p.a
at-half size P e A (Calls B call) p = e.rest A (Calls B call) p.a
at-half size P e B (Calls A call) p = e.rest B (Calls A call) p.b
at-half size P e B (Calls B call) p = e.call B call p.b
at-half size P e A (Lands A) p = e.land A p.a
at-half size P e A (Lands B) p = e.take A (head (to_land p.b)) p.a
at-half size P e B (Lands A) p = e.take B (head (to_land p.a)) p.b
at-half size P e B (Lands B) p = e.land B p.b
at-half size P e A (Completes A) p = e.complete A (head (to_complete p.a)) p.a
at-half size P e A (Completes B) p = e.rest A (Completes B) p.a
at-half size P e B (Completes A) p = e.rest B (Completes A) p.b
at-half size P e B (Completes B) p = e.complete B (head (to_complete p.b)) p.b
