-- The queues of a wire are those of the history: the same would land and complete, and an event takes off both alike.
use Rattle.std.proofs.Common.{true≢false, ◌≡◌, ◌∙◌, ◌⊎◌, inl, inr, ℕ, Bool, true, false, if◌then◌else◌, List, [], ◌∷◌, length, map, refl, ap, sym, subst, ◌||◌, arith}
use Rattle.std.specs.Prelude.{Option, Some, None, is_some, option_map, option_and_then}
use Rattle.smc_num.specs.declared.Side.{Side}
use Rattle.smc_num.specs.declared.Side.TheVariants.{A, B}
use Rattle.smc_num.specs.declared.LinkId.{LinkId}
use Rattle.smc_num.specs.Names.{other, same_link, head}
use Rattle.pipe_model.specs.declared.setup.Setup.{Setup}
use Rattle.pipe_model.specs.declared.event.Event.{Event}
use Rattle.pipe_model.specs.declared.event.Event.TheVariants.{Open, Write, Read, Clc, Deliver, Complete}
use Rattle.pipe_model.specs.declared.reply.Reply.{Reply}
use Rattle.pipe_model.specs.declared.reply.Reply.TheVariants.{Landed, Dropped, Completed}
use Rattle.pipe_model.specs.declared.post.Post.{Post}
use Rattle.pipe_model.specs.declared.post.Post.TheVariants.{Write as WritePost, Cdc, Llc, Clc as ClcPost}
use Rattle.pipe_model.specs.declared.post.Placed.{Placed}
use Rattle.pipe_model.specs.declared.entry.Entry.{Entry}
use Rattle.pipe_model.specs.Words.{passes}
use Rattle.pipe_model.specs.Fabric.{latest, is_latest}
use Rattle.pipe_model.specs.Wires.{is_cut, some_reported, unlanded, uncompleted, landing, landing_on, completing, completing_on, completed_told, if_latest, leaves, completes_on}
use Rattle.pipe_model.specs.Lending.{record_of}
use Rattle.pipe_model.specs.Replies.{told, lands_told, deliver_told}
use Rattle.pipe_model.specs.Lawful.{reply_of}
use Rattle.rc_link.specs.declared.InFlight.{InFlight}
use Rattle.rc_link.specs.Wire.{Queues, placed, landing as next_landing, completing as next_completing, with_landed, with_completed}
use Rattle.pipe_model.specs.Fits.{Fits}
use Rattle.world_core.specs.Played.{IsOneLink, IsMade, IsPlayed}
use Rattle.world_core.specs.OneLink.{the_link}
use Rattle.world_core.specs.WireSteps.{Stays, LandsNow, CompletesNow, Way}
use Rattle.world_core.specs.Agreement.{IsOnlyLink}
use Rattle.world_core.specs.Hosts.{IsWireAfter}
use Rattle.world_core.specs.Sending.{moved}
use Rattle.world_core.proofs.Ways.{way, Chosen}
use Rattle.world_core.proofs.Shaken.{only-link}
use Rattle.world_core.proofs.PlayedWorlds.{played}
use Rattle.world_core.proofs.Unmade.{idle-link}
use Rattle.world_core.proofs.Plain.{or-right}

-- the first of what a wire carries
head-placed : (cs : List InFlight) → option_map placed (head cs) ≡ head (map placed cs)
head-placed [] = refl
head-placed (c ∷ cs) = refl

if-none : (a b c : Bool) (q : Option InFlight) → a ≡ false → b ≡ false → c ≡ false → (if a || (b || c) then None else q) ≡ q
if-none false false false q d e f = refl
if-none true b c q d e f = absurd (true≢false d)
if-none false true c q d e f = absurd (true≢false e)
if-none false false true q d e f = absurd (true≢false f)

none-placed : (q : Option InFlight) → option_map placed q ≡ None → q ≡ None
none-placed None e = refl
none-placed (Some c) e = absurd (true≢false (ap (λ (o : Option Placed). is_some o) e))

some-placed : (q : Option InFlight) → is_some (option_map placed q) ≡ is_some q
some-placed None = refl
some-placed (Some c) = refl

pub only-of : (setup : Setup) (one : IsOneLink setup) (payload : List ℕ) (past : List Entry) (n : ℕ) → IsPlayed setup payload past n → IsOnlyLink past
only-of setup one payload past n p = let w = played setup one payload past n p in let world = w.world in only-link setup w.stage past world.link

module _ (setup : Setup) (payload : List ℕ) (x : Side) (past : List Entry) (w : Queues) (wire : IsWireAfter setup payload x past w) where
  pub lands-first : next_landing w ≡ head w.waiting
  lands-first = if-none w.cut w.by_a w.by_b (head w.waiting) wire.uncut wire.unreported_a wire.unreported_b

  pub completes-first : next_completing w ≡ head w.landed
  completes-first = if-none false w.by_a w.by_b (head w.landed) refl wire.unreported_a wire.unreported_b

  waiting-head : option_map placed (next_landing w) ≡ head (unlanded the_link x past)
  waiting-head = ap (λ q. option_map placed q) lands-first ∙ head-placed w.waiting ∙ ap (λ ps. head ps) wire.waiting

  landed-head : option_map placed (next_completing w) ≡ head (uncompleted the_link x past)
  landed-head = ap (λ q. option_map placed q) completes-first ∙ head-placed w.landed ∙ ap (λ ps. head ps) wire.landed

  module _ (one : IsOneLink setup) (n : ℕ) (p : IsPlayed setup payload past n) where
    -- the same would land
    pub same-landing : option_map placed (next_landing w) ≡ landing 1 x past
    same-landing = by (only-of setup one payload past n p)
      where
        by : IsOnlyLink past → option_map placed (next_landing w) ≡ landing 1 x past
        by (inl e) = let i = idle-link setup one payload x past n p e in waiting-head ∙ ap (λ ps. head ps) i.waiting ∙ sym (ap (λ o. option_and_then (λ link. landing_on link x past) o) e)
        by (inr e) = waiting-head ∙ sym (ap (λ o. option_and_then (λ link. landing_on link x past) o) e.0 ∙ ap (λ b. if b then None else head (unlanded the_link x past)) e.1)

    -- and complete
    pub same-completing : option_map placed (next_completing w) ≡ completing 1 x past
    same-completing = by (only-of setup one payload past n p)
      where
        by : IsOnlyLink past → option_map placed (next_completing w) ≡ completing 1 x past
        by (inl e) = let i = idle-link setup one payload x past n p e in landed-head ∙ ap (λ ps. head ps) i.landed ∙ sym (ap (λ o. option_and_then (λ link. completing_on link x past) o) e)
        by (inr e) =
            landed-head ∙ sym (ap (λ o. option_and_then (λ link. completing_on link x past) o) e.0 ∙
            ap (λ b. if b then None else head (uncompleted the_link x past)) (or-right (is_cut the_link past) (some_reported the_link past) e.1))

    pub lands-alike : is_some (next_landing w) ≡ is_some (landing 1 x past)
    lands-alike = sym (some-placed (next_landing w)) ∙ ap (λ (o : Option Placed). is_some o) same-landing

    pub completes-alike : is_some (next_completing w) ≡ is_some (completing 1 x past)
    completes-alike = sym (some-placed (next_completing w)) ∙ ap (λ (o : Option Placed). is_some o) same-completing

-- numbers that an entry has of a wire
chosen-zero : (b : Bool) → Chosen b 0 ≡ 1 → ⊥
chosen-zero true e = let q : 0 ≡ 1 = e in omega (arith, q)
chosen-zero false e = let q : 0 ≡ 1 = e in omega (arith, q)

never : (link : LinkId) (past : List Entry) (n : ℕ) → n ≡ 0 → if_latest link past n ≡ 1 → ⊥
never link past n z e = chosen-zero (is_latest link past) (ap (λ k. Chosen (is_latest link past) k) (sym z) ∙ e)

always : (past : List Entry) (n : ℕ) → latest 1 past ≡ Some the_link → n ≡ 1 → if_latest the_link past n ≡ 0 → ⊥
always past n l o e =
    let is : is_latest the_link past ≡ true = ap (λ q. passes (same_link the_link) q) l in
    let q : 1 ≡ 0 = sym (ap (λ b. Chosen b n) is ∙ o) ∙ e in omega (arith, q)

leaves-else : (reply : Reply) → leaves A 1 (Deliver 1 B) reply ≡ 0
leaves-else (Landed at) = refl
leaves-else (Dropped token) = refl
leaves-else _ = refl

leaves-other : (reply : Reply) → leaves B 1 (Deliver 1 A) reply ≡ 0
leaves-other (Landed at) = refl
leaves-other (Dropped token) = refl
leaves-other _ = refl

completes-else : (reply : Reply) → completes_on A 1 (Complete 1 B) reply ≡ 0
completes-else (Completed at) = refl
completes-else _ = refl

completes-other : (reply : Reply) → completes_on B 1 (Complete 1 A) reply ≡ 0
completes-other (Completed at) = refl
completes-other _ = refl

leaves-self : (x : Side) (c : Placed) (token : ℕ) → (leaves x 1 (Deliver 1 x) (Landed c.at) ≡ 1) × (leaves x 1 (Deliver 1 x) (Dropped token) ≡ 1)
leaves-self A c token = (refl, refl)
leaves-self B c token = (refl, refl)

completes-self : (x : Side) (c : Placed) → completes_on x 1 (Complete 1 x) (Completed c.at) ≡ 1
completes-self A c = refl
completes-self B c = refl

-- what lands leaves the wire
told-leaves : (setup : Setup) (payload : List ℕ) (x y : Side) (past : List Entry) (c : Placed) (post : Post) → leaves x 1 (Deliver 1 x) (lands_told setup payload y past c post) ≡ 1
told-leaves setup payload x y past c (Cdc from link m) = by (is_some (record_of setup payload y m.token past))
  where
    by : (b : Bool) → leaves x 1 (Deliver 1 x) (if b then Landed c.at else Dropped m.token) ≡ 1
    by true = let q = leaves-self x c 0 in q.0
    by false = let q = leaves-self x c m.token in q.1
told-leaves setup payload x y past c (WritePost from link key address len) = let q = leaves-self x c 0 in q.0
told-leaves setup payload x y past c (Llc from link m) = let q = leaves-self x c 0 in q.0
told-leaves setup payload x y past c (ClcPost from s link m) = let q = leaves-self x c 0 in q.0

-- what an entry does to a wire, and to the link in the history
pub data Moving (x : Side) (e : Entry) (past : List Entry) (w : Queues) : Type 0 where
  Moves_none : Stays the_link x e past → moved x e.event w ≡ w → Moving x e past w
  Moves_landed : LandsNow the_link x e past → moved x e.event w ≡ with_landed (head w.waiting) w → Moving x e past w
  Moves_completed : CompletesNow the_link x e past → moved x e.event w ≡ with_completed (head w.landed) w → Moving x e past w

module _ (setup : Setup) (one : IsOneLink setup) (payload : List ℕ) (past : List Entry) (n : ℕ) (p : IsPlayed setup payload past n) (before : ℕ) (e : Entry) where
  abbrev As : Event → Reply → Entry
  As event reply = record e { event = event; reply = reply }

  only : IsOnlyLink past
  only = only-of setup one payload past n p

  is-there : (o : Option LinkId) (x : Side) (c : Placed) (f : LinkId → Option Placed) → (o ≡ None) ⊎ (o ≡ Some the_link) → option_and_then f o ≡ Some c → o ≡ Some the_link
  is-there o x c f (inr l) g = l
  is-there o x c f (inl l) g = absurd (true≢false (sym (ap (λ (q : Option Placed). is_some q) (sym (ap (λ q. option_and_then f q) l) ∙ g))))

  latest-of : (latest 1 past ≡ None) ⊎ (latest 1 past ≡ Some the_link)
  latest-of = by only
    where
      by : IsOnlyLink past → (latest 1 past ≡ None) ⊎ (latest 1 past ≡ Some the_link)
      by (inl l) = inl l
      by (inr l) = inr l.0

  module _ (x : Side) (w : Queues) (wire : IsWireAfter setup payload x past w) where
    -- nothing lands
    none-lands : (reply : Reply) → reply ≡ deliver_told setup payload (other x) past (landing 1 x past) → Stays the_link x (As (Deliver 1 x) reply) past → next_landing w ≡ None
    none-lands reply r s = by (landing 1 x past) refl
      where
        by : (o : Option Placed) → landing 1 x past ≡ o → next_landing w ≡ None
        by None f = none-placed (next_landing w) (same-landing setup payload x past w wire one n p ∙ f)
        by (Some c) f =
            let is : latest 1 past ≡ Some the_link = is-there (latest 1 past) x c (λ link. landing_on link x past) latest-of f in
            absurd (always past (leaves x 1 (Deliver 1 x) reply) is
            (ap (λ q. leaves x 1 (Deliver 1 x) q) (r ∙ ap (λ o. deliver_told setup payload (other x) past o) f) ∙ told-leaves setup payload x (other x) past c c.post) s.leaves)

    none-completes : (reply : Reply) → reply ≡ completed_told (completing 1 x past) → Stays the_link x (As (Complete 1 x) reply) past → next_completing w ≡ None
    none-completes reply r s = by (completing 1 x past) refl
      where
        by : (o : Option Placed) → completing 1 x past ≡ o → next_completing w ≡ None
        by None f = none-placed (next_completing w) (same-completing setup payload x past w wire one n p ∙ f)
        by (Some c) f =
            let is : latest 1 past ≡ Some the_link = is-there (latest 1 past) x c (λ link. completing_on link x past) latest-of f in
            absurd (always past (completes_on x 1 (Complete 1 x) reply) is (ap (λ q. completes_on x 1 (Complete 1 x) q) (r ∙ ap (λ o. completed_told o) f) ∙ completes-self x c) s.completes)

  module _ (w : Queues) where
    deliver-moves : (x d : Side) (wire : IsWireAfter setup payload x past w) (reply : Reply) → reply ≡ deliver_told setup payload (other d) past (landing 1 d past) → Way payload the_link x (As (Deliver 1 d) reply) past → Moving x (As (Deliver 1 d) reply) past w
    deliver-moves A A wire reply r (inl v) = Moves_none v.0 (ap (λ o. with_landed o w) (none-lands A w wire reply r v.0))
    deliver-moves B B wire reply r (inl v) = Moves_none v.0 (ap (λ o. with_landed o w) (none-lands B w wire reply r v.0))
    deliver-moves A A wire reply r (inr (inl v)) = Moves_landed v.0 (ap (λ o. with_landed o w) (lands-first setup payload A past w wire))
    deliver-moves B B wire reply r (inr (inl v)) = Moves_landed v.0 (ap (λ o. with_landed o w) (lands-first setup payload B past w wire))
    deliver-moves A A wire reply r (inr (inr v)) = let l = v.0 in absurd (never the_link past 0 refl l.completes)
    deliver-moves B B wire reply r (inr (inr v)) = let l = v.0 in absurd (never the_link past 0 refl l.completes)
    deliver-moves A B wire reply r (inl v) = Moves_none v.0 refl
    deliver-moves B A wire reply r (inl v) = Moves_none v.0 refl
    deliver-moves A B wire reply r (inr (inl v)) = let l = v.0 in absurd (never the_link past (leaves A 1 (Deliver 1 B) reply) (leaves-else reply) l.leaves)
    deliver-moves B A wire reply r (inr (inl v)) = let l = v.0 in absurd (never the_link past (leaves B 1 (Deliver 1 A) reply) (leaves-other reply) l.leaves)
    deliver-moves A B wire reply r (inr (inr v)) = let l = v.0 in absurd (never the_link past 0 refl l.completes)
    deliver-moves B A wire reply r (inr (inr v)) = let l = v.0 in absurd (never the_link past 0 refl l.completes)

    complete-moves : (x d : Side) (wire : IsWireAfter setup payload x past w) (reply : Reply) → reply ≡ completed_told (completing 1 d past) → Way payload the_link x (As (Complete 1 d) reply) past → Moving x (As (Complete 1 d) reply) past w
    complete-moves A A wire reply r (inl v) = Moves_none v.0 (ap (λ o. with_completed o w) (none-completes A w wire reply r v.0))
    complete-moves B B wire reply r (inl v) = Moves_none v.0 (ap (λ o. with_completed o w) (none-completes B w wire reply r v.0))
    complete-moves A A wire reply r (inr (inr v)) = Moves_completed v.0 (ap (λ o. with_completed o w) (completes-first setup payload A past w wire))
    complete-moves B B wire reply r (inr (inr v)) = Moves_completed v.0 (ap (λ o. with_completed o w) (completes-first setup payload B past w wire))
    complete-moves A A wire reply r (inr (inl v)) = let l = v.0 in absurd (never the_link past 0 refl l.leaves)
    complete-moves B B wire reply r (inr (inl v)) = let l = v.0 in absurd (never the_link past 0 refl l.leaves)
    complete-moves A B wire reply r (inl v) = Moves_none v.0 refl
    complete-moves B A wire reply r (inl v) = Moves_none v.0 refl
    complete-moves A B wire reply r (inr (inr v)) = let l = v.0 in absurd (never the_link past (completes_on A 1 (Complete 1 B) reply) (completes-else reply) l.completes)
    complete-moves B A wire reply r (inr (inr v)) = let l = v.0 in absurd (never the_link past (completes_on B 1 (Complete 1 A) reply) (completes-other reply) l.completes)
    complete-moves A B wire reply r (inr (inl v)) = let l = v.0 in absurd (never the_link past 0 refl l.leaves)
    complete-moves B A wire reply r (inr (inl v)) = let l = v.0 in absurd (never the_link past 0 refl l.leaves)

    -- an event that neither delivers nor completes
    calls-move : (x : Side) (event : Event) (reply : Reply) → leaves x 1 event reply ≡ 0 → completes_on x 1 event reply ≡ 0 → moved x event w ≡ w → Way payload the_link x (As event reply) past → Moving x (As event reply) past w
    calls-move x event reply f g m (inl v) = Moves_none v.0 m
    calls-move x event reply f g m (inr (inl v)) = let l = v.0 in absurd (never the_link past (leaves x 1 event reply) f l.leaves)
    calls-move x event reply f g m (inr (inr v)) = let l = v.0 in absurd (never the_link past (completes_on x 1 event reply) g l.completes)

    moving-as : (x : Side) (wire : IsWireAfter setup payload x past w) (event : Event) (reply : Reply) → Fits setup (length payload) event → reply ≡ reply_of before (told setup payload past event) → Way payload the_link x (As event reply) past → Moving x (As event reply) past w
    moving-as x wire (Open s) reply b r v = calls-move x (Open s) reply refl refl refl v
    moving-as x wire (Clc s dir) reply b r v = calls-move x (Clc s dir) reply refl refl refl v
    moving-as x wire (Write end at len) reply b r v = calls-move x (Write end at len) reply refl refl refl v
    moving-as x wire (Read end len) reply b r v = calls-move x (Read end len) reply refl refl refl v
    moving-as x wire (Deliver slot d) reply b r v =
        subst (λ k. Moving x (As (Deliver k d) reply) past w) (sym b)
        (deliver-moves x d wire reply (r ∙ ap (λ k. reply_of before (told setup payload past (Deliver k d))) b) (subst (λ k. Way payload the_link x (As (Deliver k d) reply) past) b v))
    moving-as x wire (Complete slot d) reply b r v =
        subst (λ k. Moving x (As (Complete k d) reply) past w) (sym b)
        (complete-moves x d wire reply (r ∙ ap (λ k. reply_of before (told setup payload past (Complete k d))) b) (subst (λ k. Way payload the_link x (As (Complete k d) reply) past) b v))
    moving-as x wire _ reply b r v = absurd b

  -- an entry of a played history moves a wire as it moves the link
  pub moving : (made : IsMade setup payload past before e) (x : Side) (w : Queues) → IsWireAfter setup payload x past w → Moving x e past w
  moving made x w wire = moving-as w x wire e.event e.reply made.built made.reply (way payload past e setup before x only made)
