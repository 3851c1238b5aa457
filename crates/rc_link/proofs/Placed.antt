-- The posts of a wire without the plain snapshots beside them move alike.
use Rattle.std.proofs.Common.{◌≡◌, refl, sym, Bool, true, false, if◌then◌else◌, List, [], ◌∷◌, ◌++◌, drop, take, map, filter, None, option_map}
use Rattle.std.proofs.lemmas.List.{map-append, append-nil}
use Rattle.smc_num.specs.Names.{head}
use Rattle.pipe_model.specs.Wires.{completes_later}
use Rattle.rc_link.specs.declared.InFlight.{InFlight}
use Rattle.rc_link.specs.Wire.{Queues, placed, unlanded, uncompleted, is_dead, is_reported, may_swallow, landing, completing, swallowing, with_landed, with_completed, with_swallowed, landed_with}

-- the first
head-placed : (cs : List InFlight) → option_map placed (head cs) ≡ head (map placed cs)
head-placed [] = refl
head-placed (c ∷ cs) = refl

-- the first, unless something holds
head-unless : (b : Bool) (cs : List InFlight) → option_map placed (if b then None else head cs) ≡ (if b then None else head (map placed cs))
head-unless true cs = refl
head-unless false cs = head-placed cs

-- the first, where something holds
head-if : (b : Bool) (cs : List InFlight) → option_map placed (if b then head cs else None) ≡ (if b then head (map placed cs) else None)
head-if true cs = head-placed cs
head-if false cs = refl

-- a post joins the landed ones
landed-with : (b : Bool) (c : InFlight) (landed : List InFlight) → completes_later c.post ≡ b
    → map placed (landed_with c landed) ≡ map placed landed ++ filter (λ p. completes_later p.post) (placed c ∷ [])
landed-with true c landed later = rw later (map-append placed landed (c ∷ []))
landed-with false c landed later = rw later (sym (append-nil (map placed landed)))

-- what has not landed, after a landing from these
unlanded-from : (b : Bool) (cs : List InFlight) (w : Queues)
    → unlanded (with_landed (if b then None else head cs) (record w { waiting = cs })) ≡ (if b then map placed cs else drop 1 (map placed cs))
unlanded-from true cs w = refl
unlanded-from false [] w = refl
unlanded-from false (c ∷ cs) w = refl

-- what has landed, after it
uncompleted-from : (b : Bool) (cs : List InFlight) (w : Queues)
    → uncompleted (with_landed (if b then None else head cs) (record w { waiting = cs }))
    ≡ (if b then uncompleted w else uncompleted w ++ filter (λ p. completes_later p.post) (take 1 (map placed cs)))
uncompleted-from true cs w = refl
uncompleted-from false [] w = sym (append-nil (uncompleted w))
uncompleted-from false (c ∷ cs) w = landed-with (completes_later c.post) c w.landed refl

-- what has landed, after a completion of these
completed-from : (b : Bool) (cs : List InFlight) (w : Queues)
    → uncompleted (with_completed (if b then None else head cs) (record w { landed = cs })) ≡ (if b then map placed cs else drop 1 (map placed cs))
completed-from true cs w = refl
completed-from false [] w = refl
completed-from false (c ∷ cs) w = refl

-- what has not landed, after a swallow from these
swallowed-from : (b : Bool) (cs : List InFlight) (w : Queues)
    → unlanded (with_swallowed (if b then head cs else None) (record w { waiting = cs })) ≡ (if b then drop 1 (map placed cs) else map placed cs)
swallowed-from true [] w = refl
swallowed-from true (c ∷ cs) w = refl
swallowed-from false cs w = refl

-- the post that lands
pub lands : (w : Queues) → option_map placed (landing w) ≡ (if is_dead w then None else head (unlanded w))
lands w = head-unless (is_dead w) w.waiting

-- what has not landed after it
pub unlanded-landed : (w : Queues) → unlanded (with_landed (landing w) w) ≡ (if is_dead w then unlanded w else drop 1 (unlanded w))
unlanded-landed w = unlanded-from (is_dead w) w.waiting w

-- what has landed after it
pub uncompleted-landed : (w : Queues) → uncompleted (with_landed (landing w) w)
    ≡ (if is_dead w then uncompleted w else uncompleted w ++ filter (λ p. completes_later p.post) (take 1 (unlanded w)))
uncompleted-landed w = uncompleted-from (is_dead w) w.waiting w

-- the post that completes
pub completes : (w : Queues) → option_map placed (completing w) ≡ (if is_reported w then None else head (uncompleted w))
completes w = head-unless (is_reported w) w.landed

-- what has landed and not completed after it
pub uncompleted-completed : (w : Queues) → uncompleted (with_completed (completing w) w) ≡ (if is_reported w then uncompleted w else drop 1 (uncompleted w))
uncompleted-completed w = completed-from (is_reported w) w.landed w

-- the post that is swallowed
pub swallows : (w : Queues) → option_map placed (swallowing w) ≡ (if may_swallow w then head (unlanded w) else None)
swallows w = head-if (may_swallow w) w.waiting

-- what has not landed after it
pub unlanded-swallowed : (w : Queues) → unlanded (with_swallowed (swallowing w) w) ≡ (if may_swallow w then drop 1 (unlanded w) else unlanded w)
unlanded-swallowed w = swallowed-from (may_swallow w) w.waiting w
