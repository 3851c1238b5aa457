use Rattle.std.proofs.Common.{◌==◌, sym, ap}
use Rattle.std.specs.Prelude.{if◌then◌else◌}
use Rattle.smc_num.specs.declared.Side.TheVariants.{B}
use Rattle.smc_num.specs.Names.{head}
use Rattle.pipe_model.specs.declared.reply.Hold.TheVariants.{FirstContact, AddLink, ConfirmRkey, DeleteRkey}
use Rattle.pipe_model.specs.declared.reply.Reply.{Reply}
use Rattle.pipe_model.specs.declared.reply.Reply.TheVariants.{Idle}
use Rattle.pipe_model.specs.Fabric.{flow_of, group_of}
use Rattle.pipe_model.specs.Flows.{Flow, is_first_contact, is_adding, is_asked, is_deleting}
use Rattle.pipe_model.specs.Replies.{grow_to, open_slots}
use Rattle.llc_flows.proofs.Held.{by_four}
use Rattle.llc_flows.proofs.laws.grow_is_held_as_told.Goals as goal

pub returns : goal.returns
returns c = λ setup past.
    let f : Flow = flow_of B past in
    ap (λ (r : Reply). if group_of B past == 0 then Idle else r)
    (sym (by_four (is_first_contact f.link) (is_adding f.link) (is_asked f.key) (is_deleting f.key) FirstContact AddLink ConfirmRkey DeleteRkey (grow_to (head (open_slots setup past)))))
