-- The plain snapshots beside the messages on a wire stay those of an end, whatever an entry does to both.
use Rattle.std.proofs.Common.{◌≡◌, ◌∙◌, ℕ, ◌+◌, ◌-◌, ◌≤◌, ◌<◌, Bool, true, false, if◌then◌else◌, List, [], ◌∷◌, ◌++◌, length, take, drop, refl, ap, sym, true≢false, append-nil, arith}
use Rattle.std.specs.Prelude.{Option, Some, None, option_map, is_some}
use Rattle.std.specs.List.{cons_option}
use Rattle.std.proofs.lemmas.List.{map-append}
use Rattle.std.proofs.lemmas.List.Elements.{filter_map-append}
use Rattle.smc_num.specs.declared.Side.{Side}
use Rattle.cdc_wire.specs.declared.CdcMessage.{CdcMessage}
use Rattle.pipe_model.specs.declared.snapshot.Snapshot.{Snapshot}
use Rattle.pipe_model.specs.declared.sent.Sent.{Sent}
use Rattle.pipe_model.specs.declared.post.Post.{Post}
use Rattle.pipe_model.specs.declared.post.Post.TheVariants.{Write, Cdc, Llc, Clc}
use Rattle.pipe_model.specs.Wires.{completes_later}
use Rattle.pipe_model.specs.Ends.{Half, to_land}
use Rattle.pipe_model.specs.Parts.{IsMarked}
use Rattle.rc_link.specs.declared.InFlight.{InFlight}
use Rattle.rc_link.specs.Wire.{landed_with}
use Rattle.world_core.specs.Wired.{cdc_under, returning, HasGone}
use Rattle.world_core.specs.Hosts.{plain_under, plains, shots}
use Rattle.world_core.proofs.Carried.{Begins, begins, some-left, landing-grows, returning-same, landing-next, returning-next, returned-next}

-- appended posts
pub plains-append : (x : Side) (token : ℕ) (cs ds : List InFlight) → plains x token (cs ++ ds) ≡ plains x token cs ++ plains x token ds
plains-append x token cs ds = filter_map-append (plain_under x token) cs ds

-- a post that is not the end's is none of its plain snapshots
pub plain-none : (x : Side) (token : ℕ) (c : InFlight) → cdc_under x token c.post ≡ None → plain_under x token c ≡ None
plain-none x token c n = ap (λ (o : Option CdcMessage). option_map (λ m. c.plain) o) n

pub plain-some : (x : Side) (token : ℕ) (c : InFlight) (m : CdcMessage) → cdc_under x token c.post ≡ Some m → plain_under x token c ≡ Some c.plain
plain-some x token c m n = ap (λ (o : Option CdcMessage). option_map (λ k. c.plain) o) n

-- a landed CDC message completes later
later : (x : Side) (token : ℕ) (c : InFlight) (m : CdcMessage) (post : Post) → cdc_under x token post ≡ Some m → (ls : List InFlight) → (if completes_later post then ls ++ c ∷ [] else ls) ≡ ls ++ c ∷ []
later x token c m (Cdc from link k) n ls = refl
later x token c m (Write from link key address len) n ls = refl
later x token c m (Llc from link k) n ls = absurd (true≢false (sym (ap (λ o. is_some o) n)))
later x token c m (Clc from s link k) n ls = refl

pub landed-own : (x : Side) (token : ℕ) (c : InFlight) (m : CdcMessage) → cdc_under x token c.post ≡ Some m → (ls : List InFlight) → plains x token (landed_with c ls) ≡ plains x token ls ++ c.plain ∷ []
landed-own x token c m n ls =
    ap (λ ks. plains x token ks) (later x token c m c.post n ls) ∙ plains-append x token ls (c ∷ []) ∙ ap (λ (o : Option Snapshot). plains x token ls ++ cons_option o []) (plain-some x token c m n)

other-by : (x : Side) (token : ℕ) (c : InFlight) (b : Bool) → cdc_under x token c.post ≡ None → (ls : List InFlight) → plains x token (if b then ls ++ c ∷ [] else ls) ≡ plains x token ls
other-by x token c true n ls = plains-append x token ls (c ∷ []) ∙ ap (λ (o : Option Snapshot). plains x token ls ++ cons_option o []) (plain-none x token c n) ∙ append-nil (plains x token ls)
other-by x token c false n ls = refl

pub landed-other : (x : Side) (token : ℕ) (c : InFlight) → cdc_under x token c.post ≡ None → (ls : List InFlight) → plains x token (landed_with c ls) ≡ plains x token ls
landed-other x token c n ls = other-by x token c (completes_later c.post) n ls

-- an end before and after, with the snapshots on the wire before
module _ (h k : Half) (mark : IsMarked h) where
  snaps-append : (xs ys : List Sent) → shots (xs ++ ys) ≡ shots xs ++ shots ys
  snaps-append xs ys = map-append (λ (m : Sent). m.snapshot) xs ys

  to-land-is : (l c : ℕ) (g : HasGone h k l c) → drop l (h.sent ++ g.more) ≡ to_land k
  to-land-is l c g = ap (λ ms. drop l ms) (sym g.sent_is) ∙ ap (λ n. drop n k.sent) (sym g.landed_is)

  returning-is : (l c : ℕ) (g : HasGone h k l c) → take (l - c) (drop c (h.sent ++ g.more)) ≡ returning k
  returning-is l c g =
      ap (λ ms. take (l - c) (drop c ms)) (sym g.sent_is) ∙ ap (λ n. take (n - c) (drop c k.sent)) (sym g.landed_is) ∙ ap (λ n. take (k.landed - n) (drop n k.sent)) (sym g.completed_is)

  -- those that wait to land, with those that are posted
  pub still-waits : (l c : ℕ) (g : HasGone h k l c) (left : List Snapshot) → l ≤ length h.sent → left ≡ shots (drop l h.sent) → left ++ shots g.more ≡ shots (to_land k)
  still-waits l c g left o f =
      ap (λ ss. ss ++ shots g.more) f ∙ sym (snaps-append (drop l h.sent) g.more) ∙ ap (λ ms. shots ms) (sym (landing-grows h.sent g.more l c o)) ∙ ap (λ ms. shots ms) (to-land-is l c g)

  -- those that have landed, where none lands or completes
  pub still-returns : (g : HasGone h k h.landed h.completed) → shots (returning h) ≡ shots (returning k)
  still-returns g = ap (λ ms. shots ms) (sym (returning-same h.sent g.more h.landed h.completed mark.landed_sent mark.completed_landed) ∙ returning-is h.landed h.completed g)

  -- one lands: it is the first of those that wait
  pub record OneLands (first : Snapshot) (rest : List Snapshot) (more : List Sent) : Type 0 where
    pub landing : rest ++ shots more ≡ shots (to_land k)
    pub completing : shots (returning h) ++ first ∷ [] ≡ shots (returning k)

  pub one-lands : (g : HasGone h k (h.landed + 1) h.completed) (first : Snapshot) (rest : List Snapshot) → first ∷ rest ≡ shots (to_land h) → OneLands first rest g.more
  one-lands g first rest w =
      let b : Begins (λ (m : Sent). m.snapshot) first rest (to_land h) = begins (λ (m : Sent). m.snapshot) first rest (to_land h) w in
      let room : h.landed + 1 ≤ length h.sent = some-left h.landed h.sent b.x b.others b.is in
      let next : drop (h.landed + 1) h.sent ≡ b.others = landing-next h.sent b.others b.x h.landed b.is in
      record {
        landing = still-waits (h.landed + 1) h.completed g rest room (b.rest_is ∙ ap (λ ms. shots ms) (sym next));
        completing = ap (λ q. shots (returning h) ++ q ∷ []) b.first_is ∙ sym (snaps-append (returning h) (b.x ∷ [])) ∙
            ap (λ ms. shots ms) (sym (returning-next h.sent b.others b.x h.landed h.completed mark.completed_landed b.is)) ∙
            ap (λ ms. shots ms) (sym (returning-same h.sent g.more (h.landed + 1) h.completed room (omega (arith, mark.completed_landed)))) ∙
            ap (λ ms. shots ms) (returning-is (h.landed + 1) h.completed g);
      }

  -- one completes: it is the first of those that have landed
  pub one-completes : (g : HasGone h k h.landed (h.completed + 1)) (first : Snapshot) (rest : List Snapshot) → h.completed < h.landed → first ∷ rest ≡ shots (returning h) → rest ≡ shots (returning k)
  one-completes g first rest o w =
      let b : Begins (λ (m : Sent). m.snapshot) first rest (returning h) = begins (λ (m : Sent). m.snapshot) first rest (returning h) w in
      b.rest_is ∙ ap (λ ms. shots ms) (sym (returned-next h.sent b.others b.x h.landed h.completed o b.is)) ∙
      ap (λ ms. shots ms) (sym (returning-same h.sent g.more h.landed (h.completed + 1) mark.landed_sent (omega (arith, o)))) ∙
      ap (λ ms. shots ms) (returning-is h.landed (h.completed + 1) g)
