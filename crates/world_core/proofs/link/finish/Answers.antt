use Rattle.std.proofs.Common.{◌∙◌, ◌+◌, ◌≤◌, List, ap, refl, sym, subst, length, filter}
use Rattle.pipe_model.specs.declared.post.Post.{Post}
use Rattle.rc_link.specs.Wire.{room_of}
use Rattle.world_core.specs.Sending.{goes_on_wire, puts_all, carried_from, MaySendAll}
use Rattle.world_core.specs.Hosts.{with_posts, wire_at}
use Rattle.world_core.proofs.CompletionsAfter.{message-done, may-be-sent, has-room, message-completes, write-completes}
use Rattle.world_core.proofs.link.finish.Goals as goal

pub complete-requires-clause-may : goal.complete-requires-clause-may
complete-requires-clause-may c =
    let d = message-done c.args.moment c.requires.completed.0 c.args.done c.args.own.now c.requires.completed.1 c.requires.completed.2 c.requires.few c.in-Cdc.from c.in-Cdc.link c.in-Cdc.message c.in-Cdc.is in
    d.may

pub send-requires-clause-may : goal.send-requires-clause-may
send-requires-clause-may c =
    let did = c.complete.ensures in
    let slice = c.as_slice.ensures in
    let d = message-done c.args.moment c.requires.completed.0 c.args.done c.args.own.now c.requires.completed.1 c.requires.completed.2 c.requires.few c.in-Cdc.from c.in-Cdc.link c.in-Cdc.message c.in-Cdc.is in
    subst (λ (ps : List Post). MaySendAll (length c.args.own.now.flows.items) c.complete.new.self ps) (sym slice.value)
    (may-be-sent c.args.moment c.requires.completed.0 c.args.done c.args.own.now c.requires.completed.1 c.requires.completed.2 c.requires.few c.in-Cdc.from c.in-Cdc.link c.in-Cdc.message c.in-Cdc.is d
    c.complete.new.self c.args.posts.now.items c.complete.new.posts.items c.requires.none did.side did.posts)

pub send-requires-clause-room : goal.send-requires-clause-room
send-requires-clause-room c =
    let did = c.complete.ensures in
    let slice = c.as_slice.ensures in
    let d = message-done c.args.moment c.requires.completed.0 c.args.done c.args.own.now c.requires.completed.1 c.requires.completed.2 c.requires.few c.in-Cdc.from c.in-Cdc.link c.in-Cdc.message c.in-Cdc.is in
    subst (λ (ps : List Post). length (filter goes_on_wire ps) ≤ room_of (wire_at 1 c.args.own.now)) (sym slice.value)
    (has-room c.args.moment c.requires.completed.0 c.args.done c.args.own.now c.requires.completed.1 c.requires.completed.2 c.requires.few c.in-Cdc.from c.in-Cdc.link c.in-Cdc.message c.in-Cdc.is d
    c.complete.new.self c.args.posts.now.items c.complete.new.posts.items c.requires.none did.side did.posts)

pub returns-in-Cdc : goal.returns-in-Cdc
returns-in-Cdc c = λ x theirs done.
    let did = c.complete.ensures in
    let slice = c.as_slice.ensures in
    let sent = c.send.ensures in
    let d = message-done c.args.moment x c.args.done c.args.own.now theirs done c.requires.few c.in-Cdc.from c.in-Cdc.link c.in-Cdc.message c.in-Cdc.is in
    message-completes c.args.moment x c.args.done c.args.own.now theirs done c.requires.few c.in-Cdc.from c.in-Cdc.link c.in-Cdc.message c.in-Cdc.is d
    c.complete.new.self c.args.posts.now.items c.complete.new.posts.items c.requires.none did.side did.posts c.send.new.self (length c.args.moment.history.now + 1) refl sent.core
    (λ n stands. sent.wire n stands ∙ ap (λ (ps : List Post). with_posts (carried_from n (length c.args.moment.history.now + 1) 1 ps) (wire_at 1 c.args.own.now)) slice.value)
    (sent.flows ∙ ap (λ (ps : List Post). puts_all ps c.args.own.now.flows.items) slice.value)

pub returns-in_default : goal.returns-in_default
returns-in_default c = λ x theirs done. write-completes c.args.moment x c.args.done c.args.own.now theirs done c.requires.few c.args.posts.now.items c.in_default.not-Cdc c.requires.none
