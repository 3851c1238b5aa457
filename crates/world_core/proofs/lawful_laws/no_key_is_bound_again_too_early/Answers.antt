use Rattle.world_core.proofs.BoundKeys.{now-bound}
use Rattle.world_core.proofs.LawfulPasts.{bound}
use Rattle.world_core.proofs.lawful_laws.no_key_is_bound_again_too_early.Goals as goal

pub returns : goal.returns
returns c = record {
  again = λ setup one payload e past n p x. bound setup one payload e past n p x;
  one = λ setup one payload past n p x. now-bound setup one payload past n p x;
}
