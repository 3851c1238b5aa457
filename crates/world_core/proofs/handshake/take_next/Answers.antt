use Rattle.std.proofs.Common.{◌∙◌, ◌+◌, ◌≤◌, length, filter, refl, sym, ap, subst}
use Rattle.smc_num.specs.Names.{other}
use Rattle.pipe_model.specs.declared.event.Event.TheVariants.{Clc}
use Rattle.rc_link.specs.Wire.{room_of}
use Rattle.world_core.specs.Sending.{carried_from, goes_on_wire, puts_all, MaySendAll, wire_in}
use Rattle.world_core.specs.Hosts.{past_of, with_posts, wire_at}
use Rattle.world_core.proofs.HostsOn.{plays-at, few-past, few-now, number-past}
use Rattle.world_core.proofs.TakingsAfter.{may-take-now, sound-now, socket-at-theirs, held-now, may-make-now, may-send-now, taken-now}
use Rattle.world_core.proofs.handshake.take_next.Goals as goal

pub take_clc-reply-requires-clause-may : goal.take_clc-reply-requires-clause-may
take_clc-reply-requires-clause-may c =
    let at = c.args.moment in
    may-take-now at.setup.now at.payload.now (past_of at) at.heard c.args.s c.requires.hosts.0 c.args.own.now c.args.theirs.now c.requires.hosts.1 c.requires.socket c.args.moment.paths.now c.requires.paths (few-now at c.requires.few) c.args.next.now c.requires.due

pub take_clc-reply-requires-clause-sound : goal.take_clc-reply-requires-clause-sound
take_clc-reply-requires-clause-sound c =
    let at = c.args.moment in
    sound-now at.setup.now at.payload.now (past_of at) at.heard c.args.s c.requires.hosts.0 c.args.own.now c.args.theirs.now c.requires.hosts.1 c.requires.socket c.args.moment.paths.now c.requires.paths (few-now at c.requires.few)

pub returns-in-Held : goal.returns-in-Held
returns-in-Held c = λ dir hosts.
    let at = c.args.moment in
    let t = c.take_clc-reply in
    plays-at at (Clc c.args.s dir) t.result t.new.posts.items (other dir) _ c.args.theirs.now
    (held-now at.setup.now at.payload.now (past_of at) at.heard c.args.s dir c.args.own.now c.args.theirs.now hosts c.requires.socket c.args.moment.paths.now c.requires.paths (few-past at c.requires.few)
    c.args.next.now c.requires.due t.result t.ensures.told t.new.self t.ensures.side c.args.posts.now.items t.new.posts.items c.requires.none t.ensures.posts
    c.in-Held.field-0 c.in-Held.is _ refl refl refl)

pub hand_over-requires : goal.hand_over-requires
hand_over-requires c =
    let at = c.args.moment in
    let t = c.take_clc-reply in
    record {
      socket = socket-at-theirs at.setup.now at.payload.now (past_of at) at.heard c.args.s c.requires.hosts.0 c.args.own.now c.args.theirs.now c.requires.hosts.1 c.requires.socket c.args.moment.paths.now c.requires.paths;
      made = may-make-now at.setup.now at.payload.now (past_of at) at.heard c.args.s c.requires.hosts.0 c.args.own.now c.args.theirs.now c.requires.hosts.1 c.requires.socket c.args.moment.paths.now c.requires.paths (few-past at c.requires.few)
          c.args.next.now c.requires.due t.result t.ensures.told t.new.self t.ensures.side c.args.posts.now.items t.new.posts.items c.requires.none t.ensures.posts;
    }

pub send-requires : goal.send-requires
send-requires c =
    let at = c.args.moment in
    let t = c.take_clc-reply in
    let may = may-send-now at.setup.now at.payload.now (past_of at) at.heard c.args.s c.requires.hosts.0 c.args.own.now c.args.theirs.now c.requires.hosts.1 c.requires.socket c.args.moment.paths.now c.requires.paths (few-past at c.requires.few)
    c.args.next.now c.requires.due t.result t.ensures.told t.new.self t.ensures.side c.args.posts.now.items t.new.posts.items c.requires.none t.ensures.posts in
    record {
      may = subst (λ ps. MaySendAll (length c.args.own.now.flows.items) t.new.self ps) (sym c.as_slice.ensures.value) may.0;
      few = c.as_slice.ensures.fits;
      room = subst (λ ps. length (filter goes_on_wire ps) ≤ room_of (wire_at 1 c.args.own.now)) (sym c.as_slice.ensures.value) may.1;
    }

pub returns : goal.returns
returns c = λ dir hosts.
    let at = c.args.moment in
    let t = c.take_clc-reply in
    plays-at at (Clc c.args.s dir) t.result t.new.posts.items (other dir) c.send.new.self c.hand_over.new.host
    (taken-now at.setup.now at.payload.now (past_of at) at.heard c.args.s dir c.args.own.now c.args.theirs.now hosts c.requires.socket c.args.moment.paths.now c.requires.paths (few-past at c.requires.few)
    c.args.next.now c.requires.due t.result t.ensures.told t.new.self t.ensures.side c.args.posts.now.items t.new.posts.items c.requires.none t.ensures.posts
    c.in_default.not-Held t.ensures.asks (length at.history.now + 1) (number-past at) c.send.new.self c.hand_over.new.host c.send.ensures.core
    (λ m st. c.send.ensures.wire m st ∙ ap (λ ps. with_posts (carried_from m (length at.history.now + 1) 1 ps) (wire_at 1 c.args.own.now)) c.as_slice.ensures.value)
    (c.send.ensures.flows ∙ ap (λ ps. puts_all ps c.args.own.now.flows.items) c.as_slice.ensures.value)
    c.hand_over.ensures.core (ap (λ ws. wire_in 1 ws) c.hand_over.ensures.wires) c.hand_over.ensures.flows)
