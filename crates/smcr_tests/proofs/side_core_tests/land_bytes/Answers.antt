use Rattle.std.proofs.Common.{◌++◌, refl}
use Rattle.side_core.specs.FirstRow.{b_linked}
use Rattle.side_core.proofs.FirstConnection.{may_go, bytes_are, may_write, bytes_landed}
use Rattle.smcr_tests.proofs.side_core_tests.land_bytes.Goals as goal

pub outgoing-requires : goal.outgoing-requires
outgoing-requires g c = may_go c.args.a.now c.requires.client

pub land_write-requires : goal.land_write-requires
land_write-requires g c =
    may_write c.args.b.now c.outgoing.result.0.now c.outgoing.result.1.now c.requires.server
    (bytes_are c.args.a.now c.requires.client (c.outgoing.result.0.now ++ c.outgoing.result.1.now) c.outgoing.ensures)

pub returns : goal.returns
returns g c =
    bytes_landed c.land_write.new.self (c.outgoing.result.0.now ++ c.outgoing.result.1.now)
    (bytes_are c.args.a.now c.requires.client (c.outgoing.result.0.now ++ c.outgoing.result.1.now) c.outgoing.ensures)
    (c.land_write.ensures b_linked 1 c.requires.server refl)
