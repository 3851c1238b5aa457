use Rattle.std.proofs.Common.{◌∙◌, ap, map, sym}
use Rattle.rc_link.specs.declared.InFlight.{InFlight}
use Rattle.rc_link.specs.Wire.{next_cdc}
use Rattle.world_core.specs.Hosts.{wire_at}
use Rattle.world_core.proofs.LandingCases.{some-write, write-from, on-slot, some-follows, may-go, may-write, write-lands}
use Rattle.world_core.proofs.link.land_write.Goals as goal

pub unreachable-requires : goal.unreachable-requires
unreachable-requires c = some-write c.args.landed.post c.requires.write c.in_default.not-Write

pub unreachable-requires-in_default-next_cdc : goal.unreachable-requires-in_default-next_cdc
unreachable-requires-in_default-next_cdc c =
    let l = c.requires.landed in
    let post = c.args.landed in
    let own = c.args.own.now in
    let theirs = c.args.theirs.now in
    let w = c.in-Write in
    let is = write-from l.0 l.1 post own theirs l.2 l.3 w.from w.link w.key w.address w.len w.is in
    let slot = on-slot l.0 l.1 post own theirs l.2 l.3 w.link w.key w.address w.len is in
    some-follows l.0 l.1 post own theirs l.2 l.3 w.link w.key w.address w.len is (ap (λ k. next_cdc (map (λ (d : InFlight). d.post) (wire_at k own).waiting)) (sym slot) ∙ (sym c.next_cdc.ensures ∙ c.in_default-next_cdc.is))

pub outgoing-requires : goal.outgoing-requires
outgoing-requires c =
    let l = c.requires.landed in
    let post = c.args.landed in
    let own = c.args.own.now in
    let theirs = c.args.theirs.now in
    let w = c.in-Write in
    let is = write-from l.0 l.1 post own theirs l.2 l.3 w.from w.link w.key w.address w.len w.is in
    let slot = on-slot l.0 l.1 post own theirs l.2 l.3 w.link w.key w.address w.len is in
    may-go l.0 l.1 post own theirs l.2 l.3 w.link w.key w.address w.len is c.in-Some.message
    (ap (λ k. next_cdc (map (λ (d : InFlight). d.post) (wire_at k own).waiting)) (sym slot) ∙ (sym c.next_cdc.ensures ∙ c.in-Some.is))

pub land_write-requires : goal.land_write-requires
land_write-requires c =
    let l = c.requires.landed in
    let post = c.args.landed in
    let own = c.args.own.now in
    let theirs = c.args.theirs.now in
    let w = c.in-Write in
    let is = write-from l.0 l.1 post own theirs l.2 l.3 w.from w.link w.key w.address w.len w.is in
    let slot = on-slot l.0 l.1 post own theirs l.2 l.3 w.link w.key w.address w.len is in
    may-write l.0 l.1 post own theirs l.2 l.3 w.link w.key w.address w.len is c.in-Some.message
    (ap (λ k. next_cdc (map (λ (d : InFlight). d.post) (wire_at k own).waiting)) (sym slot) ∙ (sym c.next_cdc.ensures ∙ c.in-Some.is))
    c.outgoing.result.0.now c.outgoing.result.1.now c.outgoing.ensures

pub returns : goal.returns
returns c = λ at x landed few.
    let post = c.args.landed in
    let own = c.args.own.now in
    let theirs = c.args.theirs.now in
    let w = c.in-Write in
    let is = write-from at x post own theirs landed few w.from w.link w.key w.address w.len w.is in
    let slot = on-slot at x post own theirs landed few w.link w.key w.address w.len is in
    write-lands at x post own theirs landed few w.link w.key w.address w.len is c.in-Some.message
    (ap (λ k. next_cdc (map (λ (d : InFlight). d.post) (wire_at k own).waiting)) (sym slot) ∙ (sym c.next_cdc.ensures ∙ c.in-Some.is))
    c.outgoing.result.0.now c.outgoing.result.1.now c.outgoing.ensures c.land_write.new.self c.land_write.ensures
