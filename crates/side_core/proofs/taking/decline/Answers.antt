use Rattle.std.proofs.Common.{◌++◌, ◌∷◌, [], None, ◌∙◌, ap}
use Rattle.pipe_model.specs.declared.post.Post.TheVariants.{Clc}
use Rattle.pipe_model.specs.Messages.{refusal}
use Rattle.clc_wire.specs.declared.message.ClcMessage.TheVariants.{Decline as DeclineMessage}
use Rattle.side_core.proofs.taking.decline.Goals as goal

-- src/taking.rt:274:1
pub returns : goal.returns
returns c = c.push_clc.ensures ∙ ap (λ r. c.args.posts.now.items ++ Clc c.args.desk.now.side c.args.s None (DeclineMessage r) ∷ []) (c.refusal-refusal.ensures ∙ ap (λ x. refusal x c.args.lack) c.side.ensures)
