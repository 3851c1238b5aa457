use Rattle.history_laws.proofs.Tables.{all-rise}
use Rattle.history_laws.proofs.known_links.known_links_rise.Goals as goal

pub returns : goal.returns
returns c = λ x past. let all = all-rise past in all.of x
