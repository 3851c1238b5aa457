use Rattle.std.proofs.Common.{◌∙◌, ◌+◌, ◌≤◌, ◌++◌, List, ap, refl, sym, subst, length, filter}
use Rattle.std.specs.Prelude.{Some}
use Rattle.pipe_model.specs.declared.post.Post.{Post}
use Rattle.pipe_model.specs.Ends.{takes}
use Rattle.rc_link.specs.Wire.{room_of}
use Rattle.side_core.specs.Acting.{due_at}
use Rattle.world_core.specs.Sending.{goes_on_wire, puts_all, carried_from, MaySendAll}
use Rattle.world_core.specs.Hosts.{with_posts, wire_at}
use Rattle.world_core.proofs.LandingCases.{some-cdc, cdc-from}
use Rattle.world_core.proofs.LandingMessages.{Their, theirs-stand, cdc-taken, posts-may-go, posts-fit, message-lands}
use Rattle.world_core.proofs.link.land_cdc.Goals as goal

pub unreachable-requires : goal.unreachable-requires
unreachable-requires c = some-cdc c.args.landed.post c.requires.message c.in_default.not-Cdc

pub land_cdc-dropped-requires-clause-may : goal.land_cdc-dropped-requires-clause-may
land_cdc-dropped-requires-clause-may c =
    let at = c.args.moment in
    let few = c.requires.few in
    let post = c.args.landed in
    let theirs = c.args.theirs.now in
    let l = c.requires.landed in
    let m = c.in-Cdc in
    let is = cdc-from at l.0 post l.1 theirs l.2 few m.from m.link m.message m.is in
    let d = cdc-taken at l.0 post l.1 theirs l.2 few m.link m.message is in
    d.may

pub send-requires-clause-may : goal.send-requires-clause-may
send-requires-clause-may c =
    let at = c.args.moment in
    let few = c.requires.few in
    let post = c.args.landed in
    let theirs = c.args.theirs.now in
    let l = c.requires.landed in
    let m = c.in-Cdc in
    let is = cdc-from at l.0 post l.1 theirs l.2 few m.from m.link m.message m.is in
    let d = cdc-taken at l.0 post l.1 theirs l.2 few m.link m.message is in
    let did = c.land_cdc-dropped.ensures in
    let slice = c.as_slice.ensures in
    let was = Their at l.0 post l.1 theirs l.2 few in
    let stood = theirs-stand at l.0 post l.1 theirs l.2 few in
    let due = did.posts was d.s d.sent stood d.lands_in ∙ ap (λ (ps : List Post). ps ++ due_at d.s (takes (Some d.sent)) was) c.requires.none in
    let acted = did.side was d.s d.sent stood d.lands_in in
    subst (λ (ps : List Post). MaySendAll (length theirs.flows.items) c.land_cdc-dropped.new.self ps) (sym slice.value)
    (posts-may-go at l.0 post l.1 theirs l.2 few _ _ _ d.taking d.told c.land_cdc-dropped.new.self c.land_cdc-dropped.new.posts.items due acted)

pub send-requires-clause-room : goal.send-requires-clause-room
send-requires-clause-room c =
    let at = c.args.moment in
    let few = c.requires.few in
    let post = c.args.landed in
    let theirs = c.args.theirs.now in
    let l = c.requires.landed in
    let m = c.in-Cdc in
    let is = cdc-from at l.0 post l.1 theirs l.2 few m.from m.link m.message m.is in
    let d = cdc-taken at l.0 post l.1 theirs l.2 few m.link m.message is in
    let did = c.land_cdc-dropped.ensures in
    let slice = c.as_slice.ensures in
    let was = Their at l.0 post l.1 theirs l.2 few in
    let stood = theirs-stand at l.0 post l.1 theirs l.2 few in
    let due = did.posts was d.s d.sent stood d.lands_in ∙ ap (λ (ps : List Post). ps ++ due_at d.s (takes (Some d.sent)) was) c.requires.none in
    let acted = did.side was d.s d.sent stood d.lands_in in
    subst (λ (ps : List Post). length (filter goes_on_wire ps) ≤ room_of (wire_at 1 theirs)) (sym slice.value)
    (posts-fit at l.0 post l.1 theirs l.2 few _ _ _ d.taking d.told c.land_cdc-dropped.new.self c.land_cdc-dropped.new.posts.items due acted)

pub returns-in-None : goal.returns-in-None
returns-in-None c = λ x own landed.
    let at = c.args.moment in
    let few = c.requires.few in
    let post = c.args.landed in
    let theirs = c.args.theirs.now in
    let m = c.in-Cdc in
    let is = cdc-from at x post own theirs landed few m.from m.link m.message m.is in
    let d = cdc-taken at x post own theirs landed few m.link m.message is in
    let did = c.land_cdc-dropped.ensures in
    let slice = c.as_slice.ensures in
    let was = Their at x post own theirs landed few in
    let stood = theirs-stand at x post own theirs landed few in
    let due = did.posts was d.s d.sent stood d.lands_in ∙ ap (λ (ps : List Post). ps ++ due_at d.s (takes (Some d.sent)) was) c.requires.none in
    let acted = did.side was d.s d.sent stood d.lands_in in
    let sent = c.send.ensures in
    message-lands at x post own theirs landed few _ _ _ d.taking d.told c.land_cdc-dropped.new.self c.land_cdc-dropped.new.posts.items due acted d.own_stands c.send.new.self (length at.history.now + 1) refl sent.core
    (λ n stands. sent.wire n stands ∙ ap (λ (ps : List Post). with_posts (carried_from n (length at.history.now + 1) 1 ps) (wire_at 1 theirs)) slice.value)
    (sent.flows ∙ ap (λ (ps : List Post). puts_all ps theirs.flows.items) slice.value)

pub returns-in-Some : goal.returns-in-Some
returns-in-Some c = λ x own landed.
    let at = c.args.moment in
    let few = c.requires.few in
    let post = c.args.landed in
    let theirs = c.args.theirs.now in
    let m = c.in-Cdc in
    let is = cdc-from at x post own theirs landed few m.from m.link m.message m.is in
    let d = cdc-taken at x post own theirs landed few m.link m.message is in
    let did = c.land_cdc-dropped.ensures in
    let none = sym d.kept ∙ (sym did.told ∙ c.in-Some.is) in
    absurd cc
