use Rattle.world_core.proofs.LendingFacts.{played-lendings, tokens-tell}
use Rattle.world_core.proofs.laws.tokens_tell_sockets_apart.Goals as goal

pub returns : goal.returns
returns c = λ setup payload past n x s r o q one p. tokens-tell setup payload x past (played-lendings setup one payload past n p x) s r o q
