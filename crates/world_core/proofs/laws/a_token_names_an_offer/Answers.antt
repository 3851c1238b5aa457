use Rattle.world_core.proofs.LendingFacts.{played-lendings}
use Rattle.world_core.proofs.Records.{record-of-offer}
use Rattle.world_core.proofs.laws.a_token_names_an_offer.Goals as goal

pub returns : goal.returns
returns c = λ setup payload past n x token l one p. record-of-offer setup payload x past (played-lendings setup one payload past n p x) token l
