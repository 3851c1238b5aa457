-- Runs, line by line and pump by pump.
use Rattle.std.proofs.Common.{◌≡◌, ◌∙◌, ℕ, ◌+◌, ◌-◌, ◌<◌, refl, ap, sym, arith, Option, Some, None, Ok, Err, suc}
use Rattle.pipe_model.specs.declared.event.Event.{Event}
use Rattle.pipe_model.specs.declared.reply.Reply.{Reply}
use Rattle.pipe_model.specs.declared.entry.StepFault.{StepFault}
use Rattle.world_core.specs.Steps.{Seen, stepped, refusal, reply_to, answer_or, world_or, some_answer, answer_of_next, world_after_next, next_event, after_step, pump_answer, after_pump}
use Rattle.smcr_calls.specs.Runs.{Ran, ended, stopped, pumped, pumps, SameScene}

-- a refused step leaves the world as it was
refused-or : (r : Option StepFault) (reply : Reply) (new old : Seen) (fault : StepFault) → some_answer (answer_or r reply) ≡ Err fault → world_or r new old ≡ old
refused-or None reply new old fault e = absurd (cc)
refused-or (Some f) reply new old fault e = refl

refused-next : (next : Option Event) (actor : ℕ) (w : Seen) (fault : StepFault) → answer_of_next next w ≡ Err fault → world_after_next next actor w ≡ w
refused-next None actor w fault e = refl
refused-next (Some event) actor w fault e = refused-or (refusal w event) (reply_to w event) (stepped actor event w) w fault e

pub refused-pump : (actor : ℕ) (w : Seen) (fault : StepFault) → pump_answer w ≡ Err fault → after_pump actor w ≡ w
refused-pump actor w fault e = refused-next (next_event w) actor w fault e

-- where nothing is due, nothing changes
idle-or : (r : Option StepFault) (reply : Reply) (new old : Seen) → some_answer (answer_or r reply) ≡ Ok None → world_or r new old ≡ old
idle-or None reply new old e = absurd (cc)
idle-or (Some f) reply new old e = refl

idle-next : (next : Option Event) (actor : ℕ) (w : Seen) → answer_of_next next w ≡ Ok None → world_after_next next actor w ≡ w
idle-next None actor w e = refl
idle-next (Some event) actor w e = idle-or (refusal w event) (reply_to w event) (stepped actor event w) w e

pub idle-pump : (actor : ℕ) (w : Seen) → pump_answer w ≡ Ok None → after_pump actor w ≡ w
idle-pump actor w e = idle-next (next_event w) actor w e

-- setup and payload stay
scene-or : (r : Option StepFault) (actor : ℕ) (event : Event) (w : Seen) → SameScene w (world_or r (stepped actor event w) w)
scene-or None actor event w = record { setup = refl; payload = refl }
scene-or (Some f) actor event w = record { setup = refl; payload = refl }

pub scene-step : (actor : ℕ) (event : Event) (w : Seen) → SameScene w (after_step actor event w)
scene-step actor event w = scene-or (refusal w event) actor event w

scene-next : (next : Option Event) (actor : ℕ) (w : Seen) → SameScene w (world_after_next next actor w)
scene-next None actor w = record { setup = refl; payload = refl }
scene-next (Some event) actor w = scene-step actor event w

pub scene-pump : (actor : ℕ) (w : Seen) → SameScene w (after_pump actor w)
scene-pump actor w = scene-next (next_event w) actor w

pub scene-more : (a b c : Seen) → SameScene a b → SameScene b c → SameScene a c
scene-more a b c p q = record { setup = q.setup ∙ p.setup; payload = q.payload ∙ p.payload }

-- one pump of those that are left
pub pumps-more : (count done : ℕ) (w next : Seen) (reply : Reply) (whole : Ran) → done < count → pump_answer w ≡ Ok (Some reply) → next ≡ after_pump 0 w → pumps (count - done) w ≡ whole → pumps (count - (done + 1)) next ≡ whole
pumps-more count done w next reply whole less e f so_far =
    let one : suc (count - (done + 1)) ≡ count - done = omega arith in
    ap (pumps (count - (done + 1))) f ∙ ap (λ a. pumped a w (pumps (count - (done + 1)) (after_pump 0 w))) (sym e) ∙ ap (λ n. pumps n w) one ∙ so_far

-- the pumps end where nothing is due
pub pumps-idle : (count done : ℕ) (w next : Seen) (whole : Ran) → done < count → pump_answer w ≡ Ok None → next ≡ after_pump 0 w → pumps (count - done) w ≡ whole → ended next ≡ whole
pumps-idle count done w next whole less e f so_far =
    let one : suc (count - (done + 1)) ≡ count - done = omega arith in
    ap ended (f ∙ idle-pump 0 w e) ∙ ap (λ a. pumped a w (pumps (count - (done + 1)) (after_pump 0 w))) (sym e) ∙ ap (λ n. pumps n w) one ∙ so_far

-- and where a step is refused
pub pumps-refused : (count done : ℕ) (w next : Seen) (fault : StepFault) (whole : Ran) → done < count → pump_answer w ≡ Err fault → next ≡ after_pump 0 w → pumps (count - done) w ≡ whole → stopped next fault ≡ whole
pumps-refused count done w next fault whole less e f so_far =
    let one : suc (count - (done + 1)) ≡ count - done = omega arith in
    ap (λ v. stopped v fault) (f ∙ refused-pump 0 w fault e) ∙ ap (λ a. pumped a w (pumps (count - (done + 1)) (after_pump 0 w))) (sym e) ∙ ap (λ n. pumps n w) one ∙ so_far
