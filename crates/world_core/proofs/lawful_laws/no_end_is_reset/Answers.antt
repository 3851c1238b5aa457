use Rattle.world_core.proofs.NoResets.{causes-shown, no-cause}
use Rattle.world_core.proofs.lawful_laws.no_end_is_reset.Goals as goal

pub returns : goal.returns
returns c = record {
  none = λ setup one payload past n p x s. no-cause setup one payload past n p x s;
  shown = λ setup one payload past n p. causes-shown setup one payload past n p;
}
