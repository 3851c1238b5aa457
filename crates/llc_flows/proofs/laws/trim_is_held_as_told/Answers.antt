use Rattle.std.proofs.Common.{◌==◌, sym, ap}
use Rattle.std.specs.Prelude.{if◌then◌else◌}
use Rattle.pipe_model.specs.declared.reply.Hold.TheVariants.{FirstContact, AddLink, ConfirmRkey, DeleteRkey}
use Rattle.pipe_model.specs.declared.reply.Reply.{Reply}
use Rattle.pipe_model.specs.declared.reply.Reply.TheVariants.{Idle, Sent}
use Rattle.pipe_model.specs.declared.reply.SentKind.TheVariants.{DeleteRkey as DeleteSent}
use Rattle.pipe_model.specs.Words.{is_nil}
use Rattle.pipe_model.specs.Fabric.{flow_of, group_of}
use Rattle.pipe_model.specs.Flows.{Flow, is_first_contact, is_adding, is_deleting}
use Rattle.pipe_model.specs.Posts.{trimmed}
use Rattle.pipe_model.specs.Replies.{is_asking_or_waiting}
use Rattle.llc_flows.proofs.Held.{by_four}
use Rattle.llc_flows.proofs.laws.trim_is_held_as_told.Goals as goal

pub returns : goal.returns
returns c = λ setup payload x past.
    let f : Flow = flow_of x past in
    ap (λ (r : Reply). if group_of x past == 0 then Idle else r)
    (sym (by_four (is_first_contact f.link) (is_adding f.link) (is_asking_or_waiting f.key) (is_deleting f.key) FirstContact AddLink ConfirmRkey DeleteRkey (if is_nil (trimmed setup payload x past) then Idle else Sent DeleteSent)))
