-- The postings of a ring, the snapshots under way, and what is posted after each call.
use Rattle.std.proofs.Common.{◌≡◌, ◌∙◌, ℕ, suc, ◌<◌, ◌≤◌, ◌==◌, Bool, true, false, cond, List, [], ◌∷◌, ◌++◌, length, filter, nat_lt, refl, sym, ap, subst, arith}
use Rattle.std.proofs.lemmas.Bool.{ltb-true, ltb-false, lt-ltb, le-ltb, eqb-true, eqb-false}
use Rattle.cdc_ring.specs.Rings.{Ring, Rises, IsSound, accepted, last_from, last_posted, unposted, posts, completes}
use Rattle.cdc_ring.specs.Kept.{Kept, Represents}
use Rattle.cdc_ring.specs.Flights.{Climbs, rising}
use Rattle.cdc_ring.proofs.Rising.{last-below, rises_up}

pub a_ring_is_sound : (kept : Kept) (ring : Ring) → Represents kept ring → IsSound ring
a_ring_is_sound kept ring stands =
    let len : length kept.bytes ≡ length ring.bytes = ap length stands.bytes in
    let some : 0 < ring.size = omega (arith, stands.whole.some, stands.size) in record {
      some = some;
      posted = subst (λ ps. Rises ring.completed ps (accepted ring)) (sym stands.posted) (rises_up ring.completed 0 kept.marks (length kept.bytes) ring.completed (accepted ring) (omega arith) (omega (arith, len)) stands.whole.marks);
      acked = omega (arith, stands.unread);
      window = omega (arith, stands.unread, len, stands.size, stands.whole.held, stands.whole.unread);
    }

-- the last place of a ring with one posting more
last-push : (from : ℕ) (places : List ℕ) (place : ℕ) → last_from from (places ++ place ∷ []) ≡ place
last-push from [] place = refl
last-push from (p ∷ places) place = last-push p places place

pub posting_leaves_nothing_unposted : (ring : Ring) → IsSound ring → last_posted (posts ring) ≡ accepted ring
posting_leaves_nothing_unposted ring sound = by_test (unposted ring == 0) refl
  where
    by_test : (b : Bool) → (unposted ring == 0) ≡ b → last_posted (cond b ring (record ring { posted = ring.posted ++ accepted ring ∷ [] })) ≡ accepted ring
    by_test true none = omega (arith, eqb-true (unposted ring) 0 none, last-below ring.completed ring.posted (accepted ring) sound.posted)
    by_test false some = last-push ring.completed ring.posted (accepted ring)

-- the last place past one
last-past : (n from : ℕ) (places : List ℕ) (to : ℕ) → Rises from places to → n ≤ from → last_from from (filter (λ p. nat_lt n p) places) ≡ last_from from places
last-past n from [] to rises low = refl
last-past n from (place ∷ places) to rises low =
    ap (λ b. last_from from (cond b (place ∷ filter (λ p. nat_lt n p) places) (filter (λ p. nat_lt n p) places))) (lt-ltb n place (omega (arith, rises.0)))
    ∙ last-past n place places to rises.1 (omega (arith, rises.0))

last-kept : (n from : ℕ) (places : List ℕ) (to : ℕ) → Rises from places to → from ≤ n → n ≤ last_from from places → last_from n (filter (λ p. nat_lt n p) places) ≡ last_from from places
last-kept n from [] to rises low high = omega arith
last-kept n from (place ∷ places) to rises low high = by_test (nat_lt n place) refl (λ le. last-kept n place places to rises.1 le high)
  where
    by_test : (b : Bool) → nat_lt n place ≡ b → (place ≤ n → last_from n (filter (λ p. nat_lt n p) places) ≡ last_from place places) → last_from n (filter (λ p. nat_lt n p) (place ∷ places)) ≡ last_from place places
    by_test true above rest =
        ap (λ b. last_from n (cond b (place ∷ filter (λ p. nat_lt n p) places) (filter (λ p. nat_lt n p) places))) above
        ∙ last-past n place places to rises.1 (omega (arith, ltb-true n place above))
    by_test false below rest =
        ap (λ b. last_from n (cond b (place ∷ filter (λ p. nat_lt n p) places) (filter (λ p. nat_lt n p) places))) below ∙ rest (ltb-false n place below)

pub completing_unposts_nothing : (ring : Ring) (place : ℕ) → IsSound ring → ring.completed ≤ place → place ≤ last_posted ring → last_posted (completes place ring) ≡ last_posted ring
completing_unposts_nothing ring place sound low high = last-kept place ring.completed ring.posted (accepted ring) sound.posted low high

-- one count, new or not
rising-new : (from told : ℕ) (tolds : List ℕ) → from < told → rising from (told ∷ tolds) ≡ told ∷ rising told tolds
rising-new from told tolds above = ap (λ b. cond b (told ∷ rising told tolds) (rising from tolds)) (lt-ltb from told above)

rising-old : (from told : ℕ) (tolds : List ℕ) → told ≤ from → rising from (told ∷ tolds) ≡ rising from tolds
rising-old from told tolds below = ap (λ b. cond b (told ∷ rising told tolds) (rising from tolds)) (le-ltb from told below)

pub last-rising : (from : ℕ) (tolds : List ℕ) → Climbs from tolds → last_from from (rising from tolds) ≡ last_from from tolds
last-rising from [] climbs = refl
last-rising from (told ∷ tolds) climbs = by_test (nat_lt from told) refl (last-rising told tolds climbs.1)
  where
    by_test : (b : Bool) → nat_lt from told ≡ b → last_from told (rising told tolds) ≡ last_from told tolds → last_from from (rising from (told ∷ tolds)) ≡ last_from told tolds
    by_test true above rest = ap (λ ps. last_from from ps) (rising-new from told tolds (ltb-true from told above)) ∙ rest
    by_test false below rest =
        let le = ltb-false from told below in
        ap (λ ps. last_from from ps) (rising-old from told tolds le) ∙ (let same : from ≡ told = omega (arith, le, climbs.0) in ap (λ n. last_from n (rising n tolds)) same ∙ rest)

pub the_last_snapshot_tells_the_last_posted_byte : (ring : Ring) (tolds : List ℕ) → Climbs ring.completed tolds → ring.posted ≡ rising ring.completed tolds → last_posted ring ≡ last_from ring.completed tolds
the_last_snapshot_tells_the_last_posted_byte ring tolds climbs posted = ap (λ ps. last_from ring.completed ps) posted ∙ last-rising ring.completed tolds climbs

-- one count more at the end
pub rising-more : (from : ℕ) (tolds : List ℕ) (told : ℕ) → Climbs from tolds → rising from (tolds ++ told ∷ []) ≡ cond (nat_lt (last_from from tolds) told) (rising from tolds ++ told ∷ []) (rising from tolds)
rising-more from [] told climbs = refl
rising-more from (t ∷ tolds) told climbs = by_test (nat_lt from t) refl (rising-more t tolds told climbs.1)
  where
    end : Bool
    end = nat_lt (last_from t tolds) told

    shift : (b : Bool) → t ∷ cond b (rising t tolds ++ told ∷ []) (rising t tolds) ≡ cond b ((t ∷ rising t tolds) ++ told ∷ []) (t ∷ rising t tolds)
    shift true = refl
    shift false = refl

    by_test : (b : Bool) → nat_lt from t ≡ b → rising t (tolds ++ told ∷ []) ≡ cond end (rising t tolds ++ told ∷ []) (rising t tolds) → rising from (t ∷ (tolds ++ told ∷ [])) ≡ cond end (rising from (t ∷ tolds) ++ told ∷ []) (rising from (t ∷ tolds))
    by_test true above rest =
        let gt = ltb-true from t above in
        rising-new from t (tolds ++ told ∷ []) gt ∙ ap (λ ps. t ∷ ps) rest ∙ shift end ∙ ap (λ ps. cond end (ps ++ told ∷ []) ps) (sym (rising-new from t tolds gt))
    by_test false below rest =
        let le = ltb-false from t below in
        let same : from ≡ t = omega (arith, le, climbs.0) in
        rising-old from t (tolds ++ told ∷ []) le ∙ ap (λ n. rising n (tolds ++ told ∷ [])) same ∙ rest ∙ ap (λ n. cond end (rising n tolds ++ told ∷ []) (rising n tolds)) (sym same) ∙ ap (λ ps. cond end (ps ++ told ∷ []) ps) (sym (rising-old from t tolds le))

pub a_snapshot_without_bytes_is_no_posting : (from : ℕ) (tolds : List ℕ) → Climbs from tolds → rising from (tolds ++ last_from from tolds ∷ []) ≡ rising from tolds
a_snapshot_without_bytes_is_no_posting from tolds climbs =
    rising-more from tolds (last_from from tolds) climbs ∙ ap (λ b. cond b (rising from tolds ++ last_from from tolds ∷ []) (rising from tolds)) (le-ltb (last_from from tolds) (last_from from tolds) (omega arith))

pub a_snapshot_more_is_a_posting : (ring : Ring) (tolds : List ℕ) → IsSound ring → Climbs ring.completed tolds → ring.posted ≡ rising ring.completed tolds → (posts ring).posted ≡ rising ring.completed (tolds ++ accepted ring ∷ [])
a_snapshot_more_is_a_posting ring tolds sound climbs posted = by_test (unposted ring == 0) refl
  where
    last : last_posted ring ≡ last_from ring.completed tolds
    last = the_last_snapshot_tells_the_last_posted_byte ring tolds climbs posted

    below : last_posted ring ≤ accepted ring
    below = last-below ring.completed ring.posted (accepted ring) sound.posted

    more : (b : Bool) → nat_lt (last_from ring.completed tolds) (accepted ring) ≡ b → rising ring.completed (tolds ++ accepted ring ∷ []) ≡ cond b (rising ring.completed tolds ++ accepted ring ∷ []) (rising ring.completed tolds)
    more b is = rising-more ring.completed tolds (accepted ring) climbs ∙ ap (λ b. cond b (rising ring.completed tolds ++ accepted ring ∷ []) (rising ring.completed tolds)) is

    by_test : (b : Bool) → (unposted ring == 0) ≡ b → (cond b ring (record ring { posted = ring.posted ++ accepted ring ∷ [] })).posted ≡ rising ring.completed (tolds ++ accepted ring ∷ [])
    by_test true none = posted ∙ sym (more false (le-ltb (last_from ring.completed tolds) (accepted ring) (omega (arith, last, below, eqb-true (unposted ring) 0 none))))
    by_test false some =
        let above : last_from ring.completed tolds < accepted ring = omega (arith, last, below, λ (e : unposted ring ≡ 0). eqb-false (unposted ring) 0 some e) in
        ap (λ ps. ps ++ accepted ring ∷ []) posted ∙ sym (more true (lt-ltb (last_from ring.completed tolds) (accepted ring) above))

-- counts above one are all kept
kept-above : (n from : ℕ) (tolds : List ℕ) → n ≤ from → filter (λ p. nat_lt n p) (rising from tolds) ≡ rising from tolds
kept-above n from [] low = refl
kept-above n from (told ∷ tolds) low = by_test (nat_lt from told) refl (λ le. kept-above n told tolds le) (kept-above n from tolds low)
  where
    by_test : (b : Bool) → nat_lt from told ≡ b → (n ≤ told → filter (λ p. nat_lt n p) (rising told tolds) ≡ rising told tolds) → filter (λ p. nat_lt n p) (rising from tolds) ≡ rising from tolds → filter (λ p. nat_lt n p) (rising from (told ∷ tolds)) ≡ rising from (told ∷ tolds)
    by_test true above rest old =
        let gt = ltb-true from told above in
        let new = rising-new from told tolds gt in
        ap (λ ps. filter (λ p. nat_lt n p) ps) new
        ∙ ap (λ b. cond b (told ∷ filter (λ p. nat_lt n p) (rising told tolds)) (filter (λ p. nat_lt n p) (rising told tolds))) (lt-ltb n told (omega (arith, gt)))
        ∙ ap (λ ps. told ∷ ps) (rest (omega (arith, gt))) ∙ sym new
    by_test false below rest old =
        let same = rising-old from told tolds (ltb-false from told below) in
        ap (λ ps. filter (λ p. nat_lt n p) ps) same ∙ old ∙ sym same

oldest : (from told : ℕ) (tolds : List ℕ) → from ≤ told → filter (λ p. nat_lt told p) (rising from (told ∷ tolds)) ≡ rising told tolds
oldest from told tolds low = by_test (nat_lt from told) refl
  where
    by_test : (b : Bool) → nat_lt from told ≡ b → filter (λ p. nat_lt told p) (rising from (told ∷ tolds)) ≡ rising told tolds
    by_test true above =
        ap (λ ps. filter (λ p. nat_lt told p) ps) (rising-new from told tolds (ltb-true from told above))
        ∙ ap (λ b. cond b (told ∷ filter (λ p. nat_lt told p) (rising told tolds)) (filter (λ p. nat_lt told p) (rising told tolds))) (le-ltb told told (omega arith))
        ∙ kept-above told told tolds (omega arith)
    by_test false below =
        let le = ltb-false from told below in
        let same : from ≡ told = omega (arith, le) in
        ap (λ ps. filter (λ p. nat_lt told p) ps) (rising-old from told tolds le) ∙ ap (λ n. filter (λ p. nat_lt told p) (rising n tolds)) same ∙ kept-above told told tolds (omega arith)

pub the_oldest_posting_goes : (ring : Ring) (told : ℕ) (tolds : List ℕ) → ring.completed ≤ told → ring.posted ≡ rising ring.completed (told ∷ tolds) → (completes told ring).posted ≡ rising told tolds
the_oldest_posting_goes ring told tolds low posted = ap (λ ps. filter (λ p. nat_lt told p) ps) posted ∙ oldest ring.completed told tolds low

pub postings_are_no_more_than_snapshots : (from : ℕ) (tolds : List ℕ) → length (rising from tolds) ≤ length tolds
postings_are_no_more_than_snapshots from [] = omega arith
postings_are_no_more_than_snapshots from (told ∷ tolds) = by_test (nat_lt from told) refl (postings_are_no_more_than_snapshots told tolds) (postings_are_no_more_than_snapshots from tolds)
  where
    by_test : (b : Bool) → nat_lt from told ≡ b → length (rising told tolds) ≤ length tolds → length (rising from tolds) ≤ length tolds → length (rising from (told ∷ tolds)) ≤ suc (length tolds)
    by_test true above rest old = omega (arith, ap length (rising-new from told tolds (ltb-true from told above)), rest)
    by_test false below rest old = omega (arith, ap length (rising-old from told tolds (ltb-false from told below)), old)
