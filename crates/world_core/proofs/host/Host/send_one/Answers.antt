-- Each post goes on the wire of its link's slot.
use Rattle.std.proofs.Common.{◌∙◌, ◌<◌, ap, length, subst, sym}
use Rattle.rc_link.specs.Wire.{room_of}
use Rattle.world_core.specs.Hosts.{wire_at}
use Rattle.world_core.specs.Sending.{MaySend, goes_on_wire, plain_of}
use Rattle.world_core.proofs.Sends.{goes_out, leaves_room, plain_found}
use Rattle.world_core.proofs.host.Host.send_one.Goals as goal

pub carry-requires : goal.carry-requires
carry-requires c =
    let may = subst (MaySend (length c.args.self.now.flows.items) c.args.self.now.core) c.in-Cdc.is c.requires.may in
    subst (λ k. 0 < room_of (wire_at k c.args.self.now)) (sym may.0) (c.requires.room (ap goes_on_wire c.in-Cdc.is))

pub returns-in-Cdc-clause-wire : goal.returns-in-Cdc-clause-wire
returns-in-Cdc-clause-wire c = λ m stands.
    let may = subst (MaySend (length c.args.self.now.flows.items) c.args.self.now.core) c.in-Cdc.is c.requires.may in
    goes_out c.args.at c.args.self.now.wires.items _ c.args.post.now c.in-Cdc.link.slot c.last-plain.result may.0 (subst (λ k. 0 < room_of (wire_at k c.args.self.now)) (sym may.0) (c.requires.room (ap goes_on_wire c.in-Cdc.is))) (ap goes_on_wire c.in-Cdc.is) c.carry.ensures.wires m (plain_found c.args.self.now.core m c.in-Cdc.message.token c.last-plain.result stands may.1 (λ s found. c.last-plain.ensures m s stands found) ∙ sym (ap (plain_of m) c.in-Cdc.is))

pub returns-in-Cdc-clause-room : goal.returns-in-Cdc-clause-room
returns-in-Cdc-clause-room c =
    let may = subst (MaySend (length c.args.self.now.flows.items) c.args.self.now.core) c.in-Cdc.is c.requires.may in
    leaves_room c.args.at c.args.self.now.wires.items _ c.args.post.now c.in-Cdc.link.slot c.last-plain.result may.0 (subst (λ k. 0 < room_of (wire_at k c.args.self.now)) (sym may.0) (c.requires.room (ap goes_on_wire c.in-Cdc.is))) (ap goes_on_wire c.in-Cdc.is) c.carry.ensures.wires

pub carry-requires-in-Write : goal.carry-requires-in-Write
carry-requires-in-Write c =
    let may = subst (MaySend (length c.args.self.now.flows.items) c.args.self.now.core) c.in-Write.is c.requires.may in
    subst (λ k. 0 < room_of (wire_at k c.args.self.now)) (sym may) (c.requires.room (ap goes_on_wire c.in-Write.is))

pub returns-in-Write-clause-wire : goal.returns-in-Write-clause-wire
returns-in-Write-clause-wire c = λ m stands.
    let may = subst (MaySend (length c.args.self.now.flows.items) c.args.self.now.core) c.in-Write.is c.requires.may in
    goes_out c.args.at c.args.self.now.wires.items _ c.args.post.now c.in-Write.link.slot _ may (subst (λ k. 0 < room_of (wire_at k c.args.self.now)) (sym may) (c.requires.room (ap goes_on_wire c.in-Write.is))) (ap goes_on_wire c.in-Write.is) c.carry-in-Write.ensures.wires m (sym (ap (plain_of m) c.in-Write.is))

pub returns-in-Write-clause-room : goal.returns-in-Write-clause-room
returns-in-Write-clause-room c =
    let may = subst (MaySend (length c.args.self.now.flows.items) c.args.self.now.core) c.in-Write.is c.requires.may in
    leaves_room c.args.at c.args.self.now.wires.items _ c.args.post.now c.in-Write.link.slot _ may (subst (λ k. 0 < room_of (wire_at k c.args.self.now)) (sym may) (c.requires.room (ap goes_on_wire c.in-Write.is))) (ap goes_on_wire c.in-Write.is) c.carry-in-Write.ensures.wires

pub carry-requires-in-Llc : goal.carry-requires-in-Llc
carry-requires-in-Llc c =
    let may = subst (MaySend (length c.args.self.now.flows.items) c.args.self.now.core) c.in-Llc.is c.requires.may in
    subst (λ k. 0 < room_of (wire_at k c.args.self.now)) (sym may) (c.requires.room (ap goes_on_wire c.in-Llc.is))

pub returns-in-Llc-clause-wire : goal.returns-in-Llc-clause-wire
returns-in-Llc-clause-wire c = λ m stands.
    let may = subst (MaySend (length c.args.self.now.flows.items) c.args.self.now.core) c.in-Llc.is c.requires.may in
    goes_out c.args.at c.args.self.now.wires.items _ c.args.post.now c.in-Llc.link.slot _ may (subst (λ k. 0 < room_of (wire_at k c.args.self.now)) (sym may) (c.requires.room (ap goes_on_wire c.in-Llc.is))) (ap goes_on_wire c.in-Llc.is) c.carry-in-Llc.ensures.wires m (sym (ap (plain_of m) c.in-Llc.is))

pub returns-in-Llc-clause-room : goal.returns-in-Llc-clause-room
returns-in-Llc-clause-room c =
    let may = subst (MaySend (length c.args.self.now.flows.items) c.args.self.now.core) c.in-Llc.is c.requires.may in
    leaves_room c.args.at c.args.self.now.wires.items _ c.args.post.now c.in-Llc.link.slot _ may (subst (λ k. 0 < room_of (wire_at k c.args.self.now)) (sym may) (c.requires.room (ap goes_on_wire c.in-Llc.is))) (ap goes_on_wire c.in-Llc.is) c.carry-in-Llc.ensures.wires
