use Rattle.std.proofs.Common.{◌∙◌, sym, ap, option_map}
use Rattle.pipe_model.specs.declared.post.Post.TheVariants.{Llc}
use Rattle.wire_trace.specs.Messages.{side_of}
use Rattle.wire_trace.proofs.FrameByFrame.{llc_read_there}
use Rattle.wire_trace.proofs.message.read_post.Goals as goal

pub returns-in-2 : goal.returns-in-2
returns-in-2 c =
    c.llc_post.ensures ∙ ap (option_map (λ m. Llc (side_of c.args.head.now.side) c.args.head.now.link m)) c.llc_in.ensures
    ∙ sym (llc_read_there c.args.head.now c.args.bytes.now c.in-2.is)
