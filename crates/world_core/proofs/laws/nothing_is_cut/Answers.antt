use Rattle.world_core.proofs.PlayedWorlds.{played}
use Rattle.world_core.proofs.LinkFacts.{few-groups, few-at}
use Rattle.world_core.proofs.laws.nothing_is_cut.Goals as goal

pub returns : goal.returns
returns c = record {
  path = λ setup payload past n one p. let g = played setup one payload past n p in let w = g.world in let at = w.link in at.path;
  link = λ setup payload past n one p. let g = played setup one payload past n p in let w = g.world in let at = w.link in at.uncut;
  begun = λ setup payload past n one p. let g = played setup one payload past n p in let w = g.world in few-groups setup g.stage past w.link;
  group = λ setup payload past n x one p. let g = played setup one payload past n p in let w = g.world in few-at setup g.stage past w.link x;
}
