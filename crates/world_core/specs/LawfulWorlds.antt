-- Worlds whose history is played, and so lawful.
-- A reader learns here what every run of steps keeps of what contracts see of a world.
use Rattle.std.specs.Prelude.{◌≡◌, length}
use Rattle.world_core.specs.Played.{IsOneLink, IsPlayed}
use Rattle.world_core.specs.Heard.{all_bytes}
use Rattle.world_core.specs.Steps.{Seen, past}

-- the world is one of one link, each entry of its history has the reply and the posts that the definitions give, and what was handed
-- out are the bytes of its answers
pub record IsLawfulWorld (w : Seen) : Type 0 where
  pub one : IsOneLink w.setup
  pub played : IsPlayed w.setup w.payload (past w) (length w.heard)
  pub heard_is : w.heard ≡ all_bytes w.setup w.payload (past w)
