use Rattle.std.proofs.Common.{◌∙◌, ap, map}
use Rattle.side_core.specs.Slots.{found}
use Rattle.side_core.proofs.Sockets.{no_records_found}
use Rattle.side_core.proofs.shelf.Shelf.new.Goals as goal

pub returns-clause-slots : goal.returns-clause-slots
returns-clause-slots c = ap (map (found _)) c.in_ok-keys.ensures ∙ no_records_found _ _
