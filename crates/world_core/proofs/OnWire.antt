-- What would land or complete on a wire is the first of its queue in the history, of its side and on the one link.
use Rattle.std.proofs.Common.{true≢false, ◌≡◌, ◌∙◌, ℕ, ◌&&◌, Bool, true, false, List, [], ◌∷◌, map, filter, take, drop, cond, refl, ap, sym, subst}
use Rattle.std.specs.Prelude.{Option, Some, None, option_map}
use Rattle.smc_num.specs.declared.Side.{Side}
use Rattle.smc_num.specs.declared.LinkId.{LinkId}
use Rattle.smc_num.specs.Names.{same_side, same_link, head}
use Rattle.clc_wire.specs.declared.message.ClcMessage.{ClcMessage}
use Rattle.pipe_model.specs.declared.setup.Setup.{Setup}
use Rattle.pipe_model.specs.declared.post.Post.{Post}
use Rattle.pipe_model.specs.declared.post.Post.TheVariants.{Clc}
use Rattle.pipe_model.specs.declared.post.Placed.{Placed}
use Rattle.pipe_model.specs.declared.entry.Entry.{Entry}
use Rattle.pipe_model.specs.Words.{passes}
use Rattle.pipe_model.specs.History.{post_at, sender, link_of_post}
use Rattle.pipe_model.specs.Wires.{unlanded, uncompleted, landing, completing, completes_later, is_on}
use Rattle.rc_link.specs.declared.InFlight.{InFlight}
use Rattle.rc_link.specs.Wire.{Queues, placed, landing as would_land, completing as would_complete}
use Rattle.world_core.specs.OneLink.{the_link}
use Rattle.world_core.specs.Played.{IsOneLink, IsPlayed}
use Rattle.world_core.specs.WireSteps.{EachPlaced, landing_now, completing_now}
use Rattle.world_core.specs.Hosts.{IsWireAfter}
use Rattle.world_core.proofs.Heads.{unlanded-there, uncompleted-there}
use Rattle.world_core.proofs.Places.{placed-append, placed-drop, unlanded-stand, uncompleted-stand, first-stands}
use Rattle.world_core.proofs.WireMoves.{lands-first, completes-first, same-landing, same-completing}
use Rattle.world_core.proofs.Plain.{and-left, same-is}

-- the first of a queue
pub record IsFirst (c : InFlight) (queue : List InFlight) : Type 0 where
  pub rest : List InFlight
  pub is : queue ≡ c ∷ rest

pub first-in : (c : InFlight) (queue : List InFlight) → head queue ≡ Some c → IsFirst c queue
first-in c [] e = cc
first-in c (d ∷ cs) e = record { rest = cs; is = ap (λ q. q ∷ cs) (some-is d c e) }
  where
    some-is : (d c : InFlight) → Some d ≡ Some c → d ≡ c
    some-is d c e = cc

and-right : (a b : Bool) → (a && b) ≡ true → b ≡ true
and-right true b e = e
and-right false b e = absurd (true≢false (sym e))

-- a post that is on the wire of a side
module _ (x : Side) (c : InFlight) (there : is_on the_link x c.post ≡ true) where
  pub sent-by : (post : Post) → c.post ≡ post → sender post ≡ x
  sent-by post e = sym (same-is x (sender post) (and-left (same_side x (sender post)) (passes (same_link the_link) (link_of_post post)) (ap (λ q. is_on the_link x q) (sym e) ∙ there)))

  pub never-clc : (from : Side) (s : ℕ) (link : Option LinkId) (m : ClcMessage) → c.post ≡ Clc from s link m → ⊥
  never-clc from s link m e =
      true≢false (sym (and-right (same_side x from) false (ap (λ q. is_on the_link x q) (sym e) ∙ there)))

-- an LLC message is done with as it lands
later-tested : (cs : List Placed) → EachPlaced (λ c. completes_later c.post ≡ true) (filter (λ c. completes_later c.post) cs)
later-tested [] = tt
later-tested (c ∷ cs) = by (completes_later c.post) refl (later-tested cs)
  where
    by : (b : Bool) → completes_later c.post ≡ b → EachPlaced (λ d. completes_later d.post ≡ true) (filter (λ d. completes_later d.post) cs)
        → EachPlaced (λ d. completes_later d.post ≡ true) (cond b (c ∷ filter (λ d. completes_later d.post) cs) (filter (λ d. completes_later d.post) cs))
    by true e p = (e, p)
    by false e p = p

all-later : (link : LinkId) (x : Side) (past : List Entry) → EachPlaced (λ c. completes_later c.post ≡ true) (uncompleted link x past)
all-later link x [] = tt
all-later link x (e ∷ past) =
    placed-append (λ c. completes_later c.post ≡ true) (drop (completing_now link x e past) (uncompleted link x past)) (filter (λ c. completes_later c.post) (take (landing_now link x e past) (unlanded link x past)))
    (placed-drop (λ c. completes_later c.post ≡ true) (completing_now link x e past) (uncompleted link x past) (all-later link x past)) (later-tested (take (landing_now link x e past) (unlanded link x past)))

-- a post of a history that has left, or is about to leave, one of the queues of a wire
pub record IsNextOn (x : Side) (c : InFlight) (past : List Entry) (queue : List Placed) (carried : List InFlight) : Type 0 where
  pub rest : List InFlight
  pub carried_is : carried ≡ c ∷ rest
  pub queue_is : queue ≡ placed c ∷ map placed rest
  pub there : is_on the_link x c.post ≡ true
  pub stands : post_at c.at past ≡ Some c.post

module _ (setup : Setup) (payload : List ℕ) (x : Side) (past : List Entry) (w : Queues) (wire : IsWireAfter setup payload x past w) where
  pub no-landing : IsOneLink setup → (n : ℕ) → IsPlayed setup payload past n → would_land w ≡ None → landing 1 x past ≡ None
  no-landing one n p none = sym (same-landing setup payload x past w wire one n p) ∙ ap (λ (o : Option InFlight). option_map placed o) none

  pub no-completing : IsOneLink setup → (n : ℕ) → IsPlayed setup payload past n → would_complete w ≡ None → completing 1 x past ≡ None
  no-completing one n p none = sym (same-completing setup payload x past w wire one n p) ∙ ap (λ (o : Option InFlight). option_map placed o) none

  module _ (c : InFlight) where
    pub landing-is : IsOneLink setup → (n : ℕ) → IsPlayed setup payload past n → would_land w ≡ Some c → landing 1 x past ≡ Some (placed c)
    landing-is one n p first = sym (same-landing setup payload x past w wire one n p) ∙ ap (λ (o : Option InFlight). option_map placed o) first

    pub completing-is : IsOneLink setup → (n : ℕ) → IsPlayed setup payload past n → would_complete w ≡ Some c → completing 1 x past ≡ Some (placed c)
    completing-is one n p first = sym (same-completing setup payload x past w wire one n p) ∙ ap (λ (o : Option InFlight). option_map placed o) first

    next-on : (queue : List Placed) (carried : List InFlight) → map placed carried ≡ queue → EachPlaced (λ d. is_on the_link x d.post ≡ true) queue
        → ((rest : List Placed) → queue ≡ placed c ∷ rest → post_at c.at past ≡ Some c.post) → head carried ≡ Some c → IsNextOn x c past queue carried
    next-on queue carried is each stands first =
        let f = first-in c carried first in
        let q : queue ≡ placed c ∷ map placed f.rest = sym is ∙ ap (λ (cs : List InFlight). map placed cs) f.is in
        let t = subst (λ cs. EachPlaced (λ d. is_on the_link x d.post ≡ true) cs) q each in
        record { rest = f.rest; carried_is = f.is; queue_is = q; there = t.0; stands = stands (map placed f.rest) q }

    -- it is no LLC message where it completes
    pub completes-late : would_complete w ≡ Some c → completes_later c.post ≡ true
    completes-late first =
        let f = first-in c w.landed (sym (completes-first setup payload x past w wire) ∙ first) in
        let t = subst (λ cs. EachPlaced (λ d. completes_later d.post ≡ true) cs) (sym wire.landed ∙ ap (λ (cs : List InFlight). map placed cs) f.is) (all-later the_link x past) in
        t.0

    pub next-lands : would_land w ≡ Some c → IsNextOn x c past (unlanded the_link x past) w.waiting
    next-lands first =
        next-on (unlanded the_link x past) w.waiting wire.waiting (unlanded-there the_link x past) (λ rest q. first-stands past (unlanded the_link x past) (placed c) rest (unlanded-stand the_link x past) q)
        (sym (lands-first setup payload x past w wire) ∙ first)

    pub next-completes : would_complete w ≡ Some c → IsNextOn x c past (uncompleted the_link x past) w.landed
    next-completes first =
        next-on (uncompleted the_link x past) w.landed wire.landed (uncompleted-there the_link x past) (λ rest q. first-stands past (uncompleted the_link x past) (placed c) rest (uncompleted-stand the_link x past) q)
        (sym (completes-first setup payload x past w wire) ∙ first)
