-- What holds of one direction, an end and its peer, after every part that can be: counts, the flight, landings and completions.
use Rattle.std.proofs.Common.{◌≡◌, ◌∙◌, ℕ, ◌+◌, ◌≤◌, ◌⊎◌, inl, inr, max, true, false, List, ◌∷◌, drop, ap, sym, subst, arith, true≢false}
use Rattle.std.specs.Prelude.{Some}
use Rattle.smc_num.specs.declared.Side.{Side}
use Rattle.smc_num.specs.Names.{other, head}
use Rattle.pipe_model.specs.declared.snapshot.Snapshot.{Snapshot}
use Rattle.pipe_model.specs.Ends.{Half, Sent, to_land, to_complete}
use Rattle.pipe_model.specs.Pipe.{Terms, Item, half, pipe}
use Rattle.pipe_model.specs.Parts.{IsFeasible, IsCounted, IsMarked, IsFlying, MayTake, snapshots, Climbs}
use Rattle.pipe_model.proofs.Pipes.Chains.{Rises, Ascends, rest-of}
use Rattle.pipe_model.proofs.Pipes.Sound.{Both}
use Rattle.pipe_model.proofs.Pipes.Joins.{climbs-has, in-flight}
use Rattle.pipe_model.proofs.Pipes.Parts.{both}
use Rattle.pipe_model.proofs.Pipes.Items.{next-ascends, next-under, head-of}

counted : (size depth : ℕ) (x y : Half) → Both size depth x y → IsCounted size x y
counted size depth x y b =
    let w = b.0 in
    let c = w.0 in
    record {
      completed = c.fin_last;
      told = c.last_out;
      window_of_read = c.window_taken;
      window_of_completed = c.window_fin;
      taken = c.taken_out;
      taken_fits = omega (arith, c.taken_out, c.window_taken, c.taken_rd);
      accepted_fits = omega (arith, c.window_taken, c.taken_rd);
      read = c.rd_out;
      read_told = c.rd_taken;
      read_taken = c.taken_rd;
      completed_number = c.fin_number;
      last_number = c.last_number;
      taken_number = c.taken_number;
    }

flying : (size depth : ℕ) (x y : Half) → Both size depth x y → IsFlying depth x
flying size depth x y b = let w = b.0 in let f = w.2 in record { uncompleted = f.is; few = f.few; climbs = f.climbs; numbers = f.numbered }

marked : (size depth : ℕ) (x y : Half) → Both size depth x y → IsMarked x
marked size depth x y b = let w = b.0 in let a = w.1 in record { completed_landed = w.3; landed_sent = a.within }

rises-next : (number read reach : ℕ) (r : Sent) (ms : List Sent) → r.check ≡ false → Ascends number read reach (r ∷ ms) → Rises number read reach r.snapshot
rises-next number read reach r ms e (inl a) = absurd (true≢false (sym a.0 ∙ e))
rises-next number read reach r ms e (inr a) = a.1

told-of : (told rd : ℕ) (s : Snapshot) → (s.aborted ≡ true) ⊎ (max told rd ≤ s.told) → (s.aborted ≡ true) ⊎ (told ≤ s.told)
told-of told rd s (inl e) = inl e
told-of told rd s (inr e) = inr (omega arith)

pub may-take : (size depth : ℕ) (x y : Half) (m : Sent) → drop x.landed x.sent ≡ m ∷ drop (x.landed + 1) x.sent → m.check ≡ false → Both size depth x y → MayTake size m.snapshot y
may-take size depth x y m d snap b =
    let u = next-under size depth x y m d b in
    let r = rises-next y.taken.number y.taken.read (max y.taken.told y.rd) m (drop (x.landed + 1) x.sent) snap (next-ascends size depth x y m d b) in
    let w = b.0 in
    let v = b.1 in
    let c = w.0 in
    let g = v.0 in
    let a = w.2 in
    let climbs = subst (λ ss. Climbs x.fin ss x.last) a.is a.climbs in
    let has = in-flight x.completed x.landed x.sent m (drop (x.landed + 1) x.sent) w.3 d snap in
    let least = climbs-has x.fin m.snapshot x.last (snapshots (drop x.completed x.sent)) climbs has in
    record {
      number_rises = r.0;
      reads_on = r.1;
      reads_accepted = omega (arith, u.2, g.rd_out);
      fits = omega (arith, u.1, c.window_taken, c.taken_rd);
      tells_on = told-of y.taken.told y.rd m.snapshot r.2;
      tells_near = omega (arith, least, c.window_fin, c.taken_out);
    }

pub may-complete : (size depth : ℕ) (x y : Half) (m : Sent) → drop x.completed x.sent ≡ m ∷ drop (x.completed + 1) x.sent → m.check ≡ false → Both size depth x y → head x.flight ≡ Some m.snapshot
may-complete size depth x y m d snap b =
    let w = b.0 in
    let f = w.2 in
    ap (λ ss. head ss) (head-of size depth (snapshots (drop (x.completed + 1) x.sent)) x.flight m.check m.snapshot snap (f.is ∙ ap (λ ms. snapshots ms) d))

-- over every part that can be, for either side
pub is-counted : (t : Terms) (x : Side) (items : List Item) → IsFeasible t items → IsCounted t.size (half x (pipe t items)) (half (other x) (pipe t items))
is-counted t x items f = counted t.size t.depth (half x (pipe t items)) (half (other x) (pipe t items)) (both t x items f)

pub is-flying : (t : Terms) (x : Side) (items : List Item) → IsFeasible t items → IsFlying t.depth (half x (pipe t items))
is-flying t x items f = flying t.size t.depth (half x (pipe t items)) (half (other x) (pipe t items)) (both t x items f)

pub is-marked : (t : Terms) (x : Side) (items : List Item) → IsFeasible t items → IsMarked (half x (pipe t items))
is-marked t x items f = marked t.size t.depth (half x (pipe t items)) (half (other x) (pipe t items)) (both t x items f)

-- a snapshot that is next to land meets the conditions of its taker, and one that is next to complete is the oldest of the flight
pub lands-well : (t : Terms) (x : Side) (items : List Item) (m : Sent) → IsFeasible t items → head (to_land (half x (pipe t items))) ≡ Some m → m.check ≡ false → MayTake t.size m.snapshot (half (other x) (pipe t items))
lands-well t x items m f e snap =
    may-take t.size t.depth (half x (pipe t items)) (half (other x) (pipe t items)) m (rest-of (half x (pipe t items)).landed (half x (pipe t items)).sent m e) snap (both t x items f)

pub completes-well : (t : Terms) (x : Side) (items : List Item) (m : Sent) → IsFeasible t items → head (to_complete (half x (pipe t items))) ≡ Some m → m.check ≡ false → head (half x (pipe t items)).flight ≡ Some m.snapshot
completes-well t x items m f e snap =
    may-complete t.size t.depth (half x (pipe t items)) (half (other x) (pipe t items)) m (rest-of (half x (pipe t items)).completed (half x (pipe t items)).sent m e) snap (both t x items f)
