-- A wire goes on standing for the history: what leaves it and what is posted on it, with the plain snapshots beside.
use Rattle.std.proofs.Common.{◌≡◌, ◌∙◌, Bool, true, false, if◌then◌else◌, List, [], ◌∷◌, ◌++◌, take, drop, map, filter, refl, ap, sym, true≢false, append-nil}
use Rattle.std.specs.Prelude.{Option, Some, None, is_some}
use Rattle.std.proofs.lemmas.List.{map-append}
use Rattle.smc_num.specs.declared.Side.{Side}
use Rattle.smc_num.specs.declared.LinkId.{LinkId}
use Rattle.smc_num.specs.Names.{head}
use Rattle.pipe_model.specs.declared.entry.Entry.{Entry}
use Rattle.pipe_model.specs.declared.post.Placed.{Placed}
use Rattle.pipe_model.specs.History.{next_number, numbered}
use Rattle.pipe_model.specs.Wires.{is_on, unlanded, uncompleted, completes_later}
use Rattle.rc_link.specs.declared.InFlight.{InFlight}
use Rattle.rc_link.specs.Wire.{Queues, placed, landed_with}
use Rattle.world_core.specs.WireSteps.{Stays, LandsNow, CompletesNow, landing_now, completing_now}
use Rattle.world_core.proofs.Carrying.{drop-none, take-none}

-- the posts of an entry on a wire
abbrev news : LinkId → Side → Entry → List Entry → List Placed
news link x e past = filter (λ c. is_on link x c.post) (numbered (next_number past) 1 e.posts)

-- a queue that stands for placed posts begins with one that stands for the first
pub record Fronts (first : Placed) (rest : List Placed) (cs : List InFlight) : Type 0 where
  pub c : InFlight
  pub others : List InFlight
  pub is : cs ≡ c ∷ others
  pub first_is : placed c ≡ first
  pub rest_is : map placed others ≡ rest

pub fronts : (first : Placed) (rest : List Placed) (cs : List InFlight) → map placed cs ≡ first ∷ rest → Fronts first rest cs
fronts first rest [] e = absurd (true≢false (sym (ap (λ ps. is_some (head ps)) e)))
fronts first rest (c ∷ cs) e = record { c = c; others = cs; is = refl; first_is = ap (λ ps. or-else (head ps)) e; rest_is = ap (λ ps. drop 1 ps) e }
  where
    or-else : Option Placed → Placed
    or-else None = first
    or-else (Some p) = p

-- a post that lands goes over, or is done with
later-by : (b : Bool) (c : InFlight) (ls : List InFlight) → map placed (if b then ls ++ c ∷ [] else ls) ≡ map placed ls ++ (if b then placed c ∷ [] else [])
later-by true c ls = map-append placed ls (c ∷ [])
later-by false c ls = sym (append-nil (map placed ls))

kept-one : (b : Bool) (p : Placed) → (if b then p ∷ [] else []) ≡ (if b then p ∷ filter (λ d. completes_later d.post) [] else filter (λ d. completes_later d.post) [])
kept-one true p = refl
kept-one false p = refl

module _ (link : LinkId) (x : Side) (e : Entry) (past : List Entry) (cs : List InFlight) (are : map placed cs ≡ news link x e past) where
  -- the wire as it was
  module _ (w : Queues) (waiting : map placed w.waiting ≡ unlanded link x past) (landed : map placed w.landed ≡ uncompleted link x past) where
    pub stays-waiting : Stays link x e past → map placed (w.waiting ++ cs) ≡ unlanded link x (e ∷ past)
    stays-waiting s =
        map-append placed w.waiting cs ∙ ap (λ ps. ps ++ map placed cs) waiting ∙ ap (λ ps. unlanded link x past ++ ps) are ∙
        ap (λ ps. ps ++ news link x e past) (sym (ap (λ n. drop n (unlanded link x past)) s.leaves ∙ drop-none (unlanded link x past)))

    same-landed : completing_now link x e past ≡ 0 → landing_now link x e past ≡ 0 → map placed w.landed ≡ uncompleted link x (e ∷ past)
    same-landed c l =
        landed ∙ sym (append-nil (uncompleted link x past)) ∙
        ap (λ ps. uncompleted link x past ++ filter (λ d. completes_later d.post) ps) (sym (ap (λ n. take n (unlanded link x past)) l ∙ take-none (unlanded link x past))) ∙
        ap (λ ps. ps ++ filter (λ d. completes_later d.post) (take (landing_now link x e past) (unlanded link x past))) (sym (ap (λ n. drop n (uncompleted link x past)) c ∙ drop-none (uncompleted link x past)))

    pub stays-landed : Stays link x e past → map placed w.landed ≡ uncompleted link x (e ∷ past)
    stays-landed s = same-landed s.completes s.lands

    module _ (l : LandsNow link x e past) where
      pub front-waits : Fronts l.first l.rest w.waiting
      front-waits = fronts l.first l.rest w.waiting (waiting ∙ l.waiting)

      pub lands-waiting : map placed (drop 1 w.waiting ++ cs) ≡ unlanded link x (e ∷ past)
      lands-waiting = let f = front-waits in
          ap (λ ds. map placed (drop 1 ds ++ cs)) f.is ∙ (map-append placed f.others cs ∙ (ap (λ ps. ps ++ map placed cs) f.rest_is ∙ (ap (λ ps. l.rest ++ ps) are ∙
          ap (λ ps. ps ++ news link x e past) (sym (ap (λ n. drop n (unlanded link x past)) l.leaves ∙ ap (λ ps. drop 1 ps) l.waiting)))))

      pub lands-landed : let f = front-waits in map placed (landed_with f.c w.landed) ≡ uncompleted link x (e ∷ past)
      lands-landed = let f = front-waits in
          later-by (completes_later f.c.post) f.c w.landed ∙
          (ap (λ ps. ps ++ (if completes_later f.c.post then placed f.c ∷ [] else [])) landed ∙
          (ap (λ (p : Placed). uncompleted link x past ++ (if completes_later p.post then p ∷ [] else [])) f.first_is ∙
          (ap (λ ps. uncompleted link x past ++ ps) (kept-one (completes_later l.first.post) l.first) ∙
          (ap (λ ps. uncompleted link x past ++ filter (λ d. completes_later d.post) ps) (sym (ap (λ n. take n (unlanded link x past)) l.lands ∙ (ap (λ ps. take 1 ps) l.waiting ∙ ap (λ ps. l.first ∷ ps) (take-none l.rest)))) ∙
          ap (λ ps. ps ++ filter (λ d. completes_later d.post) (take (landing_now link x e past) (unlanded link x past))) (sym (ap (λ n. drop n (uncompleted link x past)) l.completes ∙ drop-none (uncompleted link x past)))))))

    module _ (l : CompletesNow link x e past) where
      pub front-landed : Fronts l.first l.rest w.landed
      front-landed = fronts l.first l.rest w.landed (landed ∙ l.waiting)

      pub completes-waiting : map placed (w.waiting ++ cs) ≡ unlanded link x (e ∷ past)
      completes-waiting =
          map-append placed w.waiting cs ∙ (ap (λ ps. ps ++ map placed cs) waiting ∙ (ap (λ ps. unlanded link x past ++ ps) are ∙
          ap (λ ps. ps ++ news link x e past) (sym (ap (λ n. drop n (unlanded link x past)) l.leaves ∙ drop-none (unlanded link x past)))))

      pub completes-landed : map placed (drop 1 w.landed) ≡ uncompleted link x (e ∷ past)
      completes-landed = let f = front-landed in
          ap (λ ds. map placed (drop 1 ds)) f.is ∙ (f.rest_is ∙ (sym (append-nil l.rest) ∙
          (ap (λ ps. l.rest ++ filter (λ d. completes_later d.post) ps) (sym (ap (λ n. take n (unlanded link x past)) l.lands ∙ take-none (unlanded link x past))) ∙
          ap (λ ps. ps ++ filter (λ d. completes_later d.post) (take (landing_now link x e past) (unlanded link x past))) (sym (ap (λ n. drop n (uncompleted link x past)) l.completes ∙ ap (λ ps. drop 1 ps) l.waiting)))))
