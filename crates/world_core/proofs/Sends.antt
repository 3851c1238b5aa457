-- A host sends the posts of an entry one after another.
-- A reader learns here that what was sent so far, and what is left, make all posts of the entry.
use Rattle.std.proofs.Common.{◌≡◌, ◌∙◌, ℕ, ◌+◌, ◌-◌, ◌<◌, ◌≤◌, Bool, true, false, if◌then◌else◌, List, [], ◌∷◌, length, filter, Option, Some, None, IsSome, option_map, unwrap_or, refl, sym, ap, subst, append_assoc, length-append, arith, drop, get_or, slice_set, slice_index_or, suc, zero}
use Rattle.std.proofs.lemmas.List.{length-set, drop_more}
use Rattle.std.proofs.lemmas.Bool.{false≢true}
use Rattle.pipe_model.specs.declared.post.Post.{Post}
use Rattle.pipe_model.specs.declared.post.Post.TheVariants.{Write, Cdc, Llc, Clc}
use Rattle.pipe_model.specs.declared.post.PostRef.{PostRef}
use Rattle.pipe_model.specs.declared.snapshot.Snapshot.{Snapshot}
use Rattle.pipe_model.specs.Ends.{Half}
use Rattle.conn_end.specs.Kept.{Kept}
use Rattle.rc_link.specs.declared.InFlight.{InFlight}
use Rattle.rc_link.specs.Wire.{Queues, empty, room_of, with_post}
use Rattle.side_core.specs.Records.{aimer, half_at}
use Rattle.side_core.specs.Manager.{Manager, Represents}
use Rattle.side_core.proofs.Managers.{aimers_same}
use Rattle.world_core.specs.declared.host.Outflow.{Outflow}
use Rattle.world_core.specs.Hosts.{with_posts}
use Rattle.world_core.specs.Sending.{no_snapshot, plain_of, goes_on_wire, carried_from, posts_one, puts, puts_one, puts_all, outflow_at, wire_in, MaySendAll}

-- the snapshot beside a CDC message whose token names an end
pub plain_found : (core : Manager Kept) (m : Manager Half) (token : ℕ) (plain : Snapshot) → Represents core m → IsSome (aimer token core.records)
    → ((s : ℕ) → aimer token core.records ≡ Some s → plain ≡ (half_at s m.records).last)
    → plain ≡ unwrap_or (option_map (λ s. (half_at s m.records).last) (aimer token m.records)) no_snapshot
plain_found core m token plain stands some is = by (aimer token core.records) refl some
  where
    by : (o : Option ℕ) → aimer token core.records ≡ o → IsSome o → plain ≡ unwrap_or (option_map (λ s. (half_at s m.records).last) (aimer token m.records)) no_snapshot
    by None e has = absurd (false≢true has)
    by (Some s) e has =
        is s e ∙ ap (λ (o : Option ℕ). unwrap_or (option_map (λ t. (half_at t m.records).last) o) no_snapshot) (sym e ∙ aimers_same token core.records m.records stands.works.records)

-- a wire on which a post goes is there
pub is-there : (ws : List Queues) (i : ℕ) → 0 < room_of (slice_index_or ws i (empty 0 false)) → i < length ws
is-there [] i room = absurd (omega (arith, room))
is-there (w ∷ ws) zero room = omega arith
is-there (w ∷ ws) (suc i) room = let l = is-there ws i room in omega (arith, l)

-- the wires after a post on the one slot
pub carried-on : (slot : ℕ) (ws now : List Queues) (w : Queues) → slot ≡ 1 → 0 < room_of (wire_in slot ws) → now ≡ slice_set ws (slot - 1) w → wire_in 1 now ≡ w
carried-on slot ws now w one room is =
    ap (λ (vs : List Queues). wire_in 1 vs) (is ∙ ap (λ k. slice_set ws (k - 1) w) one) ∙ by ws (is-there ws 0 (subst (λ k. 0 < room_of (wire_in k ws)) one room))
  where
    by : (vs : List Queues) → 0 < length vs → slice_index_or (slice_set vs 0 w) 0 (empty 0 false) ≡ w
    by [] few = absurd (omega (arith, few))
    by (v ∷ vs) few = refl

room_left : (c : InFlight) (w : Queues) → room_of (with_post c w) ≡ room_of w - 1
room_left c w = let l = length-append w.waiting (c ∷ []) in omega (arith, l)

-- a post goes on the wire of the one slot with the plain snapshot that stands beside it
module _ (at : PostRef) (ws now : List Queues) (post : Post) (slot : ℕ) (plain : Snapshot) (one : slot ≡ 1) (room : 0 < room_of (wire_in slot ws)) (goes : goes_on_wire post ≡ true)
    (is : now ≡ slice_set ws (slot - 1) (with_post (record { at = at; post = post; plain = plain }) (wire_in slot ws))) where
  abbrev Item : InFlight
  Item = record { at = at; post = post; plain = plain }

  first : wire_in 1 now ≡ with_post (record { at = at; post = post; plain = plain }) (wire_in 1 ws)
  first = carried-on slot ws now (with_post Item (wire_in slot ws)) one room is ∙ ap (λ k. with_post Item (wire_in k ws)) one

  pub goes_out : (m : Manager Half) → plain ≡ plain_of m post → wire_in 1 now ≡ posts_one m at post (wire_in 1 ws)
  goes_out m beside =
      first
      ∙ (ap (λ s. with_post (record { at = at; post = post; plain = s }) (wire_in 1 ws)) beside
      ∙ ap (λ b. if b then with_post (record { at = at; post = post; plain = plain_of m post }) (wire_in 1 ws) else wire_in 1 ws) (sym goes))

  pub leaves_room : room_of (wire_in 1 now) ≡ room_of (wire_in 1 ws) - (if goes_on_wire post then 1 else 0)
  leaves_room = ap (λ (w : Queues). room_of w) first ∙ (room_left Item (wire_in 1 ws) ∙ ap (λ b. room_of (wire_in 1 ws) - (if b then 1 else 0)) (sym goes))

-- a place with these numbers
pub place_is : (at : PostRef) (entry number : ℕ) → at.entry ≡ entry → at.post ≡ number → at ≡ record { entry = entry; post = number }
place_is at entry number e f = ap (λ n. record at { entry = n }) e ∙ ap (λ k. let p : PostRef = record { entry = entry; post = k } in p) f

-- one more post, then more
behind : (c : InFlight) (cs : List InFlight) (w : Queues) (b : Bool) → with_posts cs (if b then with_post c w else w) ≡ with_posts (if b then c ∷ cs else cs) w
behind c cs w true = ap (λ xs. record w { waiting = xs }) (append_assoc w.waiting (c ∷ []) cs)
behind c cs w false = refl

room_behind : (posts : List Post) (post : Post) (room now : ℕ) (b : Bool) → length (if b then post ∷ filter goes_on_wire posts else filter goes_on_wire posts) ≤ room
    → now ≡ room - (if b then 1 else 0) → length (filter goes_on_wire posts) ≤ now
room_behind posts post room now true few e = omega (arith, few, e)
room_behind posts post room now false few e = omega (arith, few, e)

pub same_length : (post : Post) (flows : List Outflow) → length (puts_one post flows) ≡ length flows
same_length (Clc from s link message) flows = length-set flows s (puts link message (outflow_at s flows))
same_length (Write from link key address len) flows = refl
same_length (Cdc from link message) flows = refl
same_length (Llc from link message) flows = refl

-- what is left of the posts of an entry, the first of them with this number, makes of what was sent so far what all make of what was
-- there before
pub record Sends (entry : ℕ) (core : Manager Kept) (all : List Post) (wire : Queues) (flows : List Outflow) (number : ℕ) (posts : List Post) (w : Queues) (fs : List Outflow) : Type 0 where
  pub carried : (m : Manager Half) → Represents core m → with_posts (carried_from m entry number posts) w ≡ with_posts (carried_from m entry 1 all) wire
  pub streams : puts_all posts fs ≡ puts_all all flows
  pub may : MaySendAll (length fs) core posts
  pub room : length (filter goes_on_wire posts) ≤ room_of w

pub sends_next : (entry : ℕ) (core : Manager Kept) (all : List Post) (wire : Queues) (flows : List Outflow) (number : ℕ) (post : Post) (posts : List Post) (w : Queues) (fs : List Outflow)
    → Sends entry core all wire flows number (post ∷ posts) w fs → (v : Queues) (gs : List Outflow)
    → ((m : Manager Half) → Represents core m → v ≡ posts_one m (record { entry = entry; post = number }) post w) → gs ≡ puts_one post fs
    → room_of v ≡ room_of w - (if goes_on_wire post then 1 else 0) → Sends entry core all wire flows (number + 1) posts v gs
sends_next entry core all wire flows number post posts w fs sends v gs is puts_is room = record {
  carried = λ m stands.
      ap (with_posts (carried_from m entry (number + 1) posts)) (is m stands)
      ∙ behind (record { at = record { entry = entry; post = number }; post = post; plain = plain_of m post }) (carried_from m entry (number + 1) posts) w (goes_on_wire post)
      ∙ sends.carried m stands;
  streams = ap (puts_all posts) puts_is ∙ sends.streams;
  may = subst (λ n. MaySendAll n core posts) (sym (ap length puts_is ∙ same_length post fs)) sends.may.1;
  room = room_behind posts post (room_of w) (room_of v) (goes_on_wire post) sends.room room;
}

-- the same by the number of the post in the entry
pub sends_at : (entry : ℕ) (core : Manager Kept) (all : List Post) (wire : Queues) (flows : List Outflow) (i : ℕ) (d : Post) → i < length all → (w : Queues) (fs : List Outflow)
    → Sends entry core all wire flows (i + 1) (drop i all) w fs → (at : PostRef) → at.entry ≡ entry → at.post ≡ i + 1 → (now : Manager Kept) → now ≡ core → (v : Queues) (gs : List Outflow)
    → ((m : Manager Half) → Represents now m → v ≡ posts_one m at (get_or all i d) w) → gs ≡ puts_one (get_or all i d) fs
    → room_of v ≡ room_of w - (if goes_on_wire (get_or all i d) then 1 else 0) → Sends entry core all wire flows (i + 1 + 1) (drop (i + 1) all) v gs
sends_at entry core all wire flows i d within w fs sends at e f now g v gs is puts_is room =
    sends_next entry core all wire flows (i + 1) (get_or all i d) (drop (i + 1) all) w fs
    (subst (λ ps. Sends entry core all wire flows (i + 1) ps w fs) (drop_more all i d within) sends) v gs
    (λ m stands. is m (subst (λ c. Represents c m) (sym g) stands) ∙ ap (λ (r : PostRef). posts_one m r (get_or all i d) w) (place_is at entry (i + 1) e f)) puts_is room
