use Rattle.std.proofs.Common.{◌∙◌, ap, Err}
use Rattle.world_core.specs.declared.settings.BadField.{BadField}
use Rattle.smcr_calls.proofs.Worlds.{none_is_bad}
use Rattle.smcr_calls.proofs.run.world_of.Goals as goal

pub unreachable-requires : goal.unreachable-requires
unreachable-requires c =
    let fault = c.in-Err-BadSetup in
    let bad : BadField = record { field = fault.field-0-0; value = fault.field-0-1 } in
    none_is_bad c.args.setup.now c.args.room c.requires.settings bad ((c.new.ensures.bad bad).0 (fault.is ∙ ap Err fault.field-0-is))
