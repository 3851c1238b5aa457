-- What an event takes off the wires of both sides, side by side with the one that acts.
use Rattle.std.proofs.Common.{◌≡◌, ℕ, refl}
use Rattle.smc_num.specs.declared.Side.{Side}
use Rattle.smc_num.specs.declared.Side.TheVariants.{A, B}
use Rattle.smc_num.specs.Names.{other}
use Rattle.pipe_model.specs.declared.event.Event.TheVariants.{Deliver, Complete}
use Rattle.rc_link.specs.Wire.{Queues, landing, completing, with_landed, with_completed}
use Rattle.world_core.specs.Sending.{moved}

-- a delivery and a completion move the wire of their direction, and not the other
pub deliver-own : (x : Side) (slot : ℕ) (w : Queues) → moved x (Deliver slot x) w ≡ with_landed (landing w) w
deliver-own A slot w = refl
deliver-own B slot w = refl

pub deliver-else : (x : Side) (slot : ℕ) (w : Queues) → moved (other x) (Deliver slot x) w ≡ w
deliver-else A slot w = refl
deliver-else B slot w = refl

pub complete-own : (x : Side) (slot : ℕ) (w : Queues) → moved x (Complete slot x) w ≡ with_completed (completing w) w
complete-own A slot w = refl
complete-own B slot w = refl

pub complete-else : (x : Side) (slot : ℕ) (w : Queues) → moved (other x) (Complete slot x) w ≡ w
complete-else A slot w = refl
complete-else B slot w = refl
