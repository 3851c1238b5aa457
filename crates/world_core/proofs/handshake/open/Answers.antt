use Rattle.std.proofs.Common.{◌∙◌, ◌++◌, ◌+◌, length, refl, sym, ap}
use Rattle.smc_num.specs.declared.Side.TheVariants.{A}
use Rattle.pipe_model.specs.declared.event.Event.TheVariants.{Open}
use Rattle.side_core.specs.Landing.{opening_posts}
use Rattle.world_core.specs.Hosts.{past_of, with_posts, wire_at}
use Rattle.world_core.specs.Sending.{carried_from, puts_all}
use Rattle.world_core.proofs.HostsOn.{plays-at, few-past, number-past}
use Rattle.world_core.proofs.OpeningsAfter.{socket-at-client, socket-at-server, none-at-server, used-before, fallen-back, begun, not-both, first-fails}
use Rattle.world_core.proofs.handshake.open.Goals as goal
use Rattle.world_core.proofs.handshake.open.Goals.{else-a-via-then-a+else-b, else-a-via-else-a}
use Rattle.world_core.proofs.Plain.{and-true}

pub returns-then-is_opened : goal.returns-then-is_opened
returns-then-is_opened c =
    let at = c.args.moment in
    plays-at at (Open c.args.s) _ c.args.posts.now.items A _ c.args.server.now
    (used-before at.setup.now at.payload.now (past_of at) at.heard c.args.s c.args.client.now c.args.server.now c.requires.hosts (few-past at c.requires.few) c.requires.socket
    (sym c.is_opened.ensures ∙ c.if-is_opened.true) c.args.posts.now.items c.requires.none)

pub open-requires-clause-socket : goal.open-requires-clause-socket
open-requires-clause-socket c =
    let at = c.args.moment in
    socket-at-client at.setup.now at.payload.now (past_of at) at.heard c.args.s c.args.client.now c.args.server.now c.requires.hosts (few-past at c.requires.few) c.requires.socket

pub open-requires-then-b-clause-socket : goal.open-requires-then-b-clause-socket
open-requires-then-b-clause-socket c =
    let at = c.args.moment in
    socket-at-server at.setup.now at.payload.now (past_of at) at.heard c.args.s c.args.client.now c.args.server.now c.requires.hosts (few-past at c.requires.few) c.requires.socket

pub open-requires-then-b-clause-none : goal.open-requires-then-b-clause-none
open-requires-then-b-clause-none c =
    let at = c.args.moment in
    none-at-server at.setup.now at.payload.now (past_of at) at.heard c.args.s c.args.client.now c.args.server.now c.requires.hosts (few-past at c.requires.few) c.requires.socket (sym c.is_opened.ensures ∙ c.if-is_opened.false)

pub fall_back-requires-clause-socket : goal.fall_back-requires-clause-socket
fall_back-requires-clause-socket c =
    let at = c.args.moment in
    socket-at-client at.setup.now at.payload.now (past_of at) at.heard c.args.s c.args.client.now c.args.server.now c.requires.hosts (few-past at c.requires.few) c.requires.socket

pub fall_back-requires-else-a-clause-socket : goal.fall_back-requires-else-a-clause-socket
fall_back-requires-else-a-clause-socket c =
    let at = c.args.moment in
    socket-at-server at.setup.now at.payload.now (past_of at) at.heard c.args.s c.args.client.now c.args.server.now c.requires.hosts (few-past at c.requires.few) c.requires.socket

pub fall_back-requires-else-a-clause-none : goal.fall_back-requires-else-a-clause-none
fall_back-requires-else-a-clause-none c =
    let at = c.args.moment in
    none-at-server at.setup.now at.payload.now (past_of at) at.heard c.args.s c.args.client.now c.args.server.now c.requires.hosts (few-past at c.requires.few) c.requires.socket (sym c.is_opened.ensures ∙ c.if-is_opened.false)

pub returns-else-a : goal.returns-else-a
returns-else-a c =
    let at = c.args.moment in
    plays-at at (Open c.args.s) _ c.args.posts.now.items A _ _
    (fallen-back at.setup.now at.payload.now (past_of at) at.heard c.args.s c.args.client.now c.args.server.now c.requires.hosts (few-past at c.requires.few) c.requires.socket
    (sym c.is_opened.ensures ∙ c.if-is_opened.false)
    (elim c.else-a.branch [ else-a-via-then-a+else-b w ↦ not-both _ _ (λ e. w.if-b.false) | else-a-via-else-a w ↦ first-fails _ _ w.if-a.false ])
    c.args.posts.now.items c.requires.none _ _ c.fall_back.ensures refl refl c.fall_back-else-a.ensures refl refl)

pub returns-then-b : goal.returns-then-b
returns-then-b c =
    let at = c.args.moment in
    plays-at at (Open c.args.s) _ c.open-then-b.new.posts.items A _ _
    (begun at.setup.now at.payload.now (past_of at) at.heard c.args.s c.args.client.now c.args.server.now c.requires.hosts (few-past at c.requires.few) c.requires.socket
    (sym c.is_opened.ensures ∙ c.if-is_opened.false) (and-true _ _ c.if-a.true c.if-b.true) c.open-then-b.new.posts.items
    (c.open-then-b.ensures.posts ∙ ap (λ ps. ps ++ opening_posts c.args.s c.args.server.now.core.desk) (c.open.ensures.posts ∙ ap (λ ps. ps ++ opening_posts c.args.s c.args.client.now.core.desk) c.requires.none))
    _ (number-past at) c.open.new.self _ _ c.open.ensures.side c.send.ensures.core
    (λ m st. c.send.ensures.wire m st ∙ ap (λ ps. with_posts (carried_from m (length at.history.now + 1) 1 ps) (wire_at 1 c.args.client.now)) c.as_slice.ensures.value)
    (c.send.ensures.flows ∙ ap (λ ps. puts_all ps c.args.client.now.flows.items) c.as_slice.ensures.value) c.open-then-b.ensures.side refl refl)
