-- What is due, and what is kept once it was posted.
use Rattle.std.proofs.Common.{◌≡◌, ◌∙◌, ℕ, ◌+◌, ◌-◌, ◌%◌, ◌<◌, ◌≤◌, ◌==◌, Bool, true, false, cond, List, [], ◌∷◌, ◌++◌, length, take, drop, min, refl, sym, ap, ap₂, subst, arith}
use Rattle.std.specs.Prelude.{is_some}
use Rattle.std.proofs.lemmas.List.{drop-drop, length-append, length-map, map-append}
use Rattle.cdc_ring.specs.declared.Piece.{Piece}
use Rattle.cdc_ring.specs.Rings.{Ring, held_at, last_from, last_posted, accepted, unposted, front_piece, back_piece, posts}
use Rattle.cdc_ring.specs.Flights.{Climbs, rising}
use Rattle.cdc_ring.specs.Kept.{Kept as KeptRing, Represents as RingRepresents, IsHeld}
use Rattle.cdc_ring.proofs.Flying.{a_ring_is_sound, the_last_snapshot_tells_the_last_posted_byte, a_snapshot_more_is_a_posting, a_snapshot_without_bytes_is_no_posting, postings_are_no_more_than_snapshots}
use Rattle.pipe_model.specs.declared.snapshot.Snapshot.{Snapshot}
use Rattle.pipe_model.specs.Closing.{cause_of, after_posting}
use Rattle.pipe_model.specs.Ends.{Half, present, batch, posts_batch}
use Rattle.conn_end.specs.Kept.{Kept, Course, at_course, ring_of, tolds, IsWhole}
use Rattle.conn_end.specs.Batches.{HoldsPiece, IsKeptPiece, front_of, back_of, no_piece, pieces_for, posts_for}
use Rattle.conn_end.proofs.Ends.{Stands, came, stands_there}
use Rattle.conn_end.proofs.Arriving.{last_within}
use Rattle.conn_end.proofs.Phases.{open_before_posting}

-- one count more at the end of those that do not fall
climbs_push : (from : ℕ) (ts : List ℕ) (t : ℕ) → Climbs from ts → last_from from ts ≤ t → Climbs from (ts ++ t ∷ [])
climbs_push from [] t climbs more = (more, tt)
climbs_push from (u ∷ ts) t climbs more = (climbs.0, climbs_push u ts t climbs.1 more)

last_push : (from : ℕ) (ts : List ℕ) (t : ℕ) → last_from from (ts ++ t ∷ []) ≡ t
last_push from [] t = refl
last_push from (u ∷ ts) t = last_push u ts t

tolds_push : (ss : List Snapshot) (s : Snapshot) → tolds (ss ++ s ∷ []) ≡ tolds ss ++ s.told ∷ []
tolds_push ss s = map-append (λ (t : Snapshot). t.told) ss (s ∷ [])

-- a posting changes the postings alone
posts_is : (r : Ring) → posts r ≡ record r { posted = (posts r).posted }
posts_is r = by_test (unposted r == 0)
  where
    by_test : (b : Bool) → cond b r (record r { posted = r.posted ++ accepted r ∷ [] }) ≡ record r { posted = (cond b r (record r { posted = r.posted ++ accepted r ∷ [] })).posted }
    by_test true = refl
    by_test false = refl

module _ (size : ℕ) (ring : KeptRing) (count : ℕ) (c : Course) (w : IsWhole size ring count c) where
  r : Ring
  r = ring_of size ring.bytes c

  -- a flight with room has room for a posting
  pub marks_few : length c.flight < c.depth → length ring.marks < 8
  marks_few room =
      let marks : length (rising c.fin.told (tolds c.flight)) ≡ length ring.marks = ap length w.ring.posted ∙ length-map ring.marks (λ mark. c.fin.told + mark) in
      omega (arith, marks, postings_are_no_more_than_snapshots c.fin.told (tolds c.flight), length-map c.flight (λ (s : Snapshot). s.told), room, w.most)

  -- the postings after a snapshot more
  posted_is : (s : Snapshot) (b : Bool) → s.told ≡ cond b c.last.told count → (cond b (ring_of size ring.bytes c) (posts (ring_of size ring.bytes c))) ≡ record (ring_of size ring.bytes c) { posted = rising c.fin.told (tolds (c.flight ++ s ∷ [])) }
  posted_is s true told =
      ap (λ ps. record (ring_of size ring.bytes c) { posted = ps }) (sym (ap (rising c.fin.told) (tolds_push c.flight s)
      ∙ ap (λ t. rising c.fin.told (tolds c.flight ++ t ∷ [])) (told ∙ sym w.last)
      ∙ a_snapshot_without_bytes_is_no_posting c.fin.told (tolds c.flight) w.climbs))
  posted_is s false told =
      posts_is (ring_of size ring.bytes c)
      ∙ ap (λ ps. record (ring_of size ring.bytes c) { posted = ps })
      (a_snapshot_more_is_a_posting (ring_of size ring.bytes c) (tolds c.flight) (a_ring_is_sound ring (ring_of size ring.bytes c) w.ring) w.climbs refl
      ∙ ap (λ t. rising c.fin.told (tolds c.flight ++ t ∷ [])) (w.counted ∙ sym told)
      ∙ sym (ap (rising c.fin.told) (tolds_push c.flight s)))

  no_less : (s : Snapshot) (b : Bool) → s.told ≡ cond b c.last.told count → last_from c.fin.told (tolds c.flight) ≤ s.told
  no_less s true told = omega (arith, told, w.last)
  no_less s false told = omega (arith, told, w.last, last_within size ring count c w)

  -- what is kept once a snapshot was posted
  pub whole_posted : (more : KeptRing) (d : Course) (s : Snapshot) → length c.flight < c.depth → s.told ≡ cond s.aborted c.last.told count → RingRepresents more (posts_for s (ring_of size ring.bytes c)) → d ≡ record c { last = s; number = s.number; flight = c.flight ++ s ∷ []; phase = after_posting s c.phase } → IsWhole size more count d
  whole_posted more d s room told rings e =
      let now : RingRepresents more (record (ring_of size ring.bytes c) { posted = rising c.fin.told (tolds (c.flight ++ s ∷ [])) }) = subst (λ (x : Ring). RingRepresents more x) (posted_is s s.aborted told) rings in
      subst (λ (x : Course). IsWhole size more count x) (sym e) (record {
        few = omega (arith, length-append c.flight (s ∷ []), room);
        most = w.most;
        ring = subst (λ bs. RingRepresents more (record { size = size; completed = c.fin.told; bytes = bs; posted = rising c.fin.told (tolds (c.flight ++ s ∷ [])); acked = c.taken.read })) (sym now.bytes) now;
        counted = ap (λ bs. c.fin.told + length bs) now.bytes ∙ w.counted;
        climbs = subst (Climbs c.fin.told) (sym (tolds_push c.flight s)) (climbs_push c.fin.told (tolds c.flight) s.told w.climbs (no_less s s.aborted told));
        last = ap (last_from c.fin.told) (tolds_push c.flight s) ∙ last_push c.fin.told (tolds c.flight) s.told;
        reads = λ free. w.reads (open_before_posting s c.phase free);
      })

  pub bytes_stay : (more : KeptRing) (s : Snapshot) → s.told ≡ cond s.aborted c.last.told count → RingRepresents more (posts_for s (ring_of size ring.bytes c)) → more.bytes ≡ ring.bytes
  bytes_stay more s told rings =
      let now : RingRepresents more (record (ring_of size ring.bytes c) { posted = rising c.fin.told (tolds (c.flight ++ s ∷ [])) }) = subst (λ (x : Ring). RingRepresents more x) (posted_is s s.aborted told) rings in now.bytes

-- for which ends it stands then
pub posted : (size : ℕ) (ring more : KeptRing) (count : ℕ) (c d : Course) (s : Snapshot) (h : Half) → Stands size ring count c h → length c.flight < c.depth → s.told ≡ cond s.aborted c.last.told count → RingRepresents more (posts_for s (ring_of size ring.bytes c)) → d ≡ record c { last = s; number = s.number; flight = c.flight ++ s ∷ []; phase = after_posting s c.phase } → s ≡ present h → Stands size more count d (posts_batch h)
posted size ring more count c d s h stands room told rings e is =
    stands_there size more count d (record h { sent = h.sent ++ batch h ∷ [] }) (posts_batch h)
    (whole_posted size ring count c stands.whole more d s room told rings e)
    stands.accepted
    (bytes_stay size ring count c stands.whole more s told rings ∙ stands.bytes ∙ ap (λ (t : Snapshot). drop t.told h.out) (sym (ap (λ (x : Course). x.fin) e ∙ stands.fin)))
    (ap (λ (x : Course). at_course x (record h { sent = h.sent ++ batch h ∷ [] })) e
    ∙ ap₂ (λ (q : Half) (t : Snapshot). record q { sent = h.sent ++ batch h ∷ []; last = t; number = t.number; flight = q.flight ++ t ∷ []; phase = after_posting t q.phase }) (came size ring count c h stands) is)

-- where the bytes of what is due go
pub pieces_are : (size : ℕ) (ring : KeptRing) (count : ℕ) (c : Course) (h : Half) → Stands size ring count c h → pieces_for size (present h) (ring_of size ring.bytes c) ≡ (front_of size (batch h).from (present h).told, back_of size (batch h).from (present h).told)
pieces_are size ring count c h stands = by_reset (is_some (cause_of h.phase))
  where
    r : Ring
    r = ring_of size ring.bytes c

    told : Bool → ℕ
    told b = cond b h.last.told (length h.out)

    from : Bool → ℕ
    from b = cond b (cond b h.last.told (length h.out)) h.last.told

    last : last_posted (ring_of size ring.bytes c) ≡ h.last.told
    last = the_last_snapshot_tells_the_last_posted_byte (ring_of size ring.bytes c) (tolds c.flight) stands.whole.climbs refl ∙ stands.whole.last ∙ ap (λ (t : Snapshot). t.told) stands.last

    by_reset : (b : Bool) → ◌≡◌ {A = Piece × Piece} (cond b (record { place = (cond b h.last.told (length h.out)) % size; len = 0 }, no_piece) (front_piece (ring_of size ring.bytes c), back_piece (ring_of size ring.bytes c)))
        (front_of size (cond b (cond b h.last.told (length h.out)) h.last.told) (cond b h.last.told (length h.out)), back_of size (cond b (cond b h.last.told (length h.out)) h.last.told) (cond b h.last.told (length h.out)))
    by_reset true =
        let t : ℕ = h.last.told in
        let none : 0 ≡ min (t - t) (size - t % size) = omega arith in
        let rest : 0 ≡ (t - t) - min (t - t) (size - t % size) = omega arith in
        λ i. (record { place = t % size; len = none i }, record { place = 0; len = rest i })
    by_reset false = ap₂ (λ a l. (front_of size l a, back_of size l a)) (stands.whole.counted ∙ stands.accepted) last

-- the ring holds the bytes of a piece that the end keeps
pub piece_held : (k : Kept) (piece : Piece) → IsKeptPiece k piece → IsHeld piece k.ring
piece_held k piece p =
    let s = p.holds.stands in
    record {
      ring = ring_of k.size k.ring.bytes k.course;
      stands = s.whole.ring;
      from = p.first;
      spelled = p.holds.place;
      low = omega (arith, p.holds.from, ap (λ (t : Snapshot). t.told) s.fin);
      high = omega (arith, p.holds.to, s.whole.counted, s.accepted);
    }

-- and they are those that the end accepted
pub piece_is : (k : Kept) (piece : Piece) (h : Half) (first : ℕ) (bytes : List ℕ) → HoldsPiece k piece h first → ((r : Ring) (from : ℕ) → RingRepresents k.ring r → piece.place ≡ from % r.size → r.completed ≤ from → from + piece.len ≤ accepted r → bytes ≡ held_at from piece.len r) → bytes ≡ take piece.len (drop first h.out)
piece_is k piece h first bytes p held =
    let s = p.stands in
    let low : k.course.fin.told ≤ first = omega (arith, p.from, ap (λ (t : Snapshot). t.told) s.fin) in
    let n : ℕ = first - k.course.fin.told in
    let place : k.course.fin.told + n ≡ first = omega (arith, low) in
    held (ring_of k.size k.ring.bytes k.course) first s.whole.ring p.place low (omega (arith, p.to, s.whole.counted, s.accepted))
    ∙ ap (λ bs. take piece.len (drop n bs)) (s.bytes ∙ ap (λ (t : Snapshot). drop t.told h.out) (sym s.fin))
    ∙ ap (take piece.len) (drop-drop n k.course.fin.told h.out ∙ ap (λ m. drop m h.out) place)
