use Rattle.std.proofs.Common.{rules, not}
use Rattle.std.proofs.lemmas.Fn.{filter_same}
use Rattle.smc_num.specs.Names.{same_link}
use Rattle.pipe_model.proofs.plain.links.take_out.Goals as goal

pub returns : goal.returns
returns c = filter_same _ (λ l. not (same_link c.args.link l)) _ (λ x b f' k. search rules) _ _ c.retain.ensures.filtered
