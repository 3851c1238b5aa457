use Rattle.world_core.proofs.LendingFacts.{played-lendings, few-lendings, room-for-one}
use Rattle.world_core.proofs.laws.lendings_are_few.Goals as goal

pub returns : goal.returns
returns c = record {
  most = λ setup payload past n x one p. few-lendings setup payload x past (played-lendings setup one payload past n p x);
  room = λ setup payload past n x s one p. room-for-one setup payload x past s (played-lendings setup one payload past n p x);
}
