-- What holds of the two ends of a pipe together, split by subject and stated over plain fields, so that an item
-- which does not touch a field needs no proof for it.
use Rattle.std.proofs.Common.{◌≡◌, ◌∙◌, ℕ, ◌+◌, ◌<◌, ◌≤◌, ◌⊎◌, inl, inr, max, Bool, true, false, List, [], ◌∷◌, ◌++◌, length, drop, refl, ap, sym, subst, arith, if◌then◌else◌, length-append, not, ◌&&◌, nat_lt, true≢false, ltb-true}
use Rattle.std.specs.Prelude.{is_some}
use Rattle.std.proofs.lemmas.List.{drop-append-le}
use Rattle.pipe_model.specs.declared.snapshot.Snapshot.{Snapshot}
use Rattle.smc_num.specs.Names.{has_link}
use Rattle.pipe_model.specs.Snapshot.{tells_same}
use Rattle.pipe_model.specs.Closing.{cause_of, is_group_gone}
use Rattle.pipe_model.specs.Ends.{Half, Sent, present, batch, posts_batch, settle, is_due}
use Rattle.pipe_model.specs.Parts.{snapshots, Climbs, CountUp}
use Rattle.pipe_model.proofs.Pipes.Chains.{Under, Rises, Ascends, under-more, under-append, ascends-append, snapshots-append, climbs-append, counts-append, under-drop}

-- counts of one direction: of an end that sends, and of its peer that takes
pub record Counts (size out number rd : ℕ) (fin last taken : Snapshot) (peer_rd : ℕ) (peer_taken : Snapshot) : Type 0 where
  pub fin_last : fin.told ≤ last.told
  pub last_out : last.told ≤ out
  pub fin_number : fin.number ≤ last.number
  pub last_number : last.number ≤ number
  pub last_read : last.read ≤ rd
  pub window_fin : out ≤ fin.told + size
  pub window_taken : out ≤ taken.read + size
  pub taken_out : peer_taken.told ≤ out
  pub rd_out : peer_rd ≤ out
  pub taken_rd : taken.read ≤ peer_rd
  pub rd_taken : (peer_taken.aborted ≡ true) ⊎ (peer_rd ≤ peer_taken.told)
  pub taken_number : peer_taken.number ≤ number

-- the messages that an end has sent, of which the peer has passed a number
pub record Ahead (sent : List Sent) (landed out number rd peer_rd : ℕ) (peer_taken : Snapshot) : Type 0 where
  pub within : landed ≤ length sent
  pub under : Under number out rd sent
  pub ascends : Ascends peer_taken.number peer_taken.read (max peer_taken.told peer_rd) (drop landed sent)

-- the snapshots under way, of the messages of which a number has completed
pub record Flight (depth : ℕ) (sent : List Sent) (done number : ℕ) (fin last : Snapshot) (flight : List Snapshot) : Type 0 where
  pub within : done ≤ length sent
  pub is : flight ≡ snapshots (drop done sent)
  pub climbs : Climbs fin flight last
  pub numbered : CountUp flight number
  pub few : length flight ≤ depth

-- one direction
abbrev pub CountsOf : ℕ → Half → Half → Type 0
CountsOf size h k = Counts size (length h.out) h.number h.rd h.fin h.last h.taken k.rd k.taken

abbrev pub AheadAt : ℕ → Half → Half → Type 0
AheadAt landed h k = Ahead h.sent landed (length h.out) h.number h.rd k.rd k.taken

abbrev pub AheadOf : Half → Half → Type 0
AheadOf h k = AheadAt h.landed h k

abbrev pub FlightOf : ℕ → Half → Type 0
FlightOf depth h = Flight depth h.sent h.completed h.number h.fin h.last h.flight

abbrev pub Way : ℕ → ℕ → Half → Half → Type 0
Way size depth h k = CountsOf size h k × AheadOf h k × FlightOf depth h × (h.completed ≤ h.landed)

-- both directions
abbrev pub Both : ℕ → ℕ → Half → Half → Type 0
Both size depth h k = Way size depth h k × Way size depth k h

-- an end posts what is due
present-told : (b : Bool) (last out : ℕ) → last ≤ out → (last ≤ (if b then last else out)) × ((if b then last else out) ≤ out)
present-told true last out l = (omega arith, l)
present-told false last out l = (l, omega arith)

present-rises : (b : Bool) (number rd last out : ℕ) (s : Snapshot) → s.number ≡ number + 1 → s.read ≡ rd → s.aborted ≡ b → s.told ≡ (if b then last else out) → Rises number rd out s
present-rises true number rd last out s n e f g = (omega arith, omega arith, inl f)
present-rises false number rd last out s n e f g = (omega arith, omega arith, inr (omega arith))

posted-counts : (size : ℕ) (h k : Half) → CountsOf size h k → CountsOf size (posts_batch h) k
posted-counts size h k c =
    let t = present-told (is_some (cause_of h.phase)) h.last.told (length h.out) c.last_out in
    record {
      fin_last = omega (arith, t.0, c.fin_last);
      last_out = t.1;
      fin_number = omega (arith, c.fin_number, c.last_number);
      last_number = omega arith;
      last_read = omega arith;
      window_fin = c.window_fin;
      window_taken = c.window_taken;
      taken_out = c.taken_out;
      rd_out = c.rd_out;
      taken_rd = c.taken_rd;
      rd_taken = c.rd_taken;
      taken_number = omega (arith, c.taken_number);
    }

posted-ahead : (size : ℕ) (h k : Half) → CountsOf size h k → k.taken.read ≤ h.rd → AheadOf h k → AheadOf (posts_batch h) k
posted-ahead size h k c r a =
    let t = present-told (is_some (cause_of h.phase)) h.last.told (length h.out) c.last_out in
    let u : Under (h.number + 1) (length h.out) h.rd h.sent = under-more h.number (h.number + 1) (length h.out) (length h.out) h.rd h.rd h.sent (omega arith) (omega arith) (omega arith) a.under in
    let v : Under h.number (length h.out) h.rd (drop h.landed h.sent) = under-drop h.number (length h.out) h.rd h.landed h.sent a.under in
    let l : length (h.sent ++ batch h ∷ []) ≡ length h.sent + 1 = length-append h.sent (batch h ∷ []) in
    let d : drop h.landed (h.sent ++ batch h ∷ []) ≡ drop h.landed h.sent ++ batch h ∷ [] = drop-append-le h.landed h.sent (batch h ∷ []) a.within in
    record {
      within = omega (arith, a.within, l);
      under = under-append (h.number + 1) (length h.out) h.rd h.sent (batch h) u (omega arith) t.1 (omega arith);
      ascends = subst (λ ms. Ascends k.taken.number k.taken.read (max k.taken.told k.rd) ms) (sym d)
          (ascends-append k.taken.number k.taken.read (max k.taken.told k.rd) h.number (length h.out) h.rd (drop h.landed h.sent) (batch h) refl v c.taken_number r (omega (arith, c.taken_out, c.rd_out))
          (present-rises (is_some (cause_of h.phase)) h.number h.rd h.last.told (length h.out) (present h) refl refl refl refl) a.ascends);
    }

posted-flight : (size depth : ℕ) (h k : Half) → CountsOf size h k → nat_lt (length h.flight) depth ≡ true → FlightOf depth h → FlightOf depth (posts_batch h)
posted-flight size depth h k c room f =
    let t = present-told (is_some (cause_of h.phase)) h.last.told (length h.out) c.last_out in
    let l : length (h.sent ++ batch h ∷ []) ≡ length h.sent + 1 = length-append h.sent (batch h ∷ []) in
    let n : length (h.flight ++ present h ∷ []) ≡ length h.flight + 1 = length-append h.flight (present h ∷ []) in
    let d : drop h.completed (h.sent ++ batch h ∷ []) ≡ drop h.completed h.sent ++ batch h ∷ [] = drop-append-le h.completed h.sent (batch h ∷ []) f.within in
    let less : length h.flight < depth = ltb-true (length h.flight) depth room in
    record {
      within = omega (arith, f.within, l);
      is = ap (λ ss. ss ++ present h ∷ []) f.is ∙ sym (snapshots-append (drop h.completed h.sent) (batch h) refl) ∙ ap (λ ms. snapshots ms) (sym d);
      climbs = climbs-append h.fin h.last (present h) h.flight (omega (arith, c.last_number), t.0, c.last_read) f.climbs;
      numbered = counts-append h.number h.flight (present h) refl f.numbered;
      few = omega (arith, n, less);
    }

-- whoever posts, the other direction stays as it is: none of its fields is touched
due-room : (a b c d e : Bool) → ((a && b) && (c && (d && e))) ≡ true → d ≡ true
due-room true true true true e h = refl
due-room true true true false e h = h
due-room true true false d e h = absurd (true≢false (sym h))
due-room true false c d e h = absurd (true≢false (sym h))
due-room false b c d e h = absurd (true≢false (sym h))

settled-by : (size depth : ℕ) (h k : Half) (b : Bool) → is_due depth h ≡ b → Both size depth h k → Both size depth (if b then posts_batch h else h) k
settled-by size depth h k true e b =
    let w = b.0 in
    let v = b.1 in
    let c = w.0 in
    let other = v.0 in
    let room = due-room h.up (not (is_group_gone h.phase)) (has_link h.link h.live) (nat_lt (length h.flight) depth) (not (tells_same (present h) h.last)) e in
    ((posted-counts size h k c, posted-ahead size h k c other.taken_rd w.1, posted-flight size depth h k c room w.2, w.3), v)
settled-by size depth h k false e b = b

pub settled : (size depth : ℕ) (h k : Half) → Both size depth h k → Both size depth (settle depth h) (settle depth k)
settled size depth h k b =
    let first : Both size depth (settle depth h) k = settled-by size depth h k (is_due depth h) refl b in
    let second : Both size depth (settle depth k) (settle depth h) = settled-by size depth k (settle depth h) (is_due depth k) refl (first.1, first.0) in
    (second.1, second.0)
