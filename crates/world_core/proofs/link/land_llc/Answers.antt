use Rattle.std.proofs.Common.{◌∙◌, ◌+◌, ◌≤◌, ◌++◌, List, true, ap, refl, sym, subst, length, filter}
use Rattle.smc_num.specs.declared.LinkId.{LinkId}
use Rattle.pipe_model.specs.declared.flow.FlowStep.{FlowStep}
use Rattle.pipe_model.specs.declared.flow.FlowStep.TheVariants.{Live}
use Rattle.pipe_model.specs.declared.post.Post.{Post}
use Rattle.rc_link.specs.Wire.{room_of}
use Rattle.side_core.specs.Acting.{confirms_link, confirming_posts}
use Rattle.side_core.specs.Manager.{Represents}
use Rattle.world_core.specs.Sending.{goes_on_wire, puts_all, carried_from, MaySendAll}
use Rattle.world_core.specs.Hosts.{with_posts, wire_at}
use Rattle.world_core.proofs.LandingCases.{some-llc, llc-from}
use Rattle.world_core.proofs.LandingMessages.{Their, theirs-stand, llc-taken, posts-may-go, posts-fit, message-lands}
use Rattle.world_core.proofs.link.land_llc.Goals as goal

pub unreachable-requires : goal.unreachable-requires
unreachable-requires c = some-llc c.args.landed.post c.requires.message c.in_default.not-Llc

pub land_llc-requires-clause-may : goal.land_llc-requires-clause-may
land_llc-requires-clause-may c =
    let at = c.args.moment in
    let few = c.requires.few in
    let post = c.args.landed in
    let theirs = c.args.theirs.now in
    let l = c.requires.landed in
    let own = c.args.own.now in
    let m = c.in-Llc in
    let is = llc-from at l.0 post own theirs l.1 few m.from m.link m.message m.is in
    let d = llc-taken at l.0 post own theirs l.1 few m.link m.message is in
    d.may _

pub land_llc-requires-clause-sound : goal.land_llc-requires-clause-sound
land_llc-requires-clause-sound c =
    let at = c.args.moment in
    let few = c.requires.few in
    let post = c.args.landed in
    let theirs = c.args.theirs.now in
    let l = c.requires.landed in
    let own = c.args.own.now in
    let m = c.in-Llc in
    let is = llc-from at l.0 post own theirs l.1 few m.from m.link m.message m.is in
    let d = llc-taken at l.0 post own theirs l.1 few m.link m.message is in
    d.sound

pub send-requires-clause-may : goal.send-requires-clause-may
send-requires-clause-may c =
    let at = c.args.moment in
    let few = c.requires.few in
    let post = c.args.landed in
    let theirs = c.args.theirs.now in
    let l = c.requires.landed in
    let own = c.args.own.now in
    let m = c.in-Llc in
    let is = llc-from at l.0 post own theirs l.1 few m.from m.link m.message m.is in
    let d = llc-taken at l.0 post own theirs l.1 few m.link m.message is in
    let did = c.land_llc.ensures in
    let slice = c.as_slice.ensures in
    let was = Their at l.0 post own theirs l.1 few in
    let stood = theirs-stand at l.0 post own theirs l.1 few in
    let step = did.step ∙ d.step _ in
    let due = did.posts was stood
    ∙ (ap (λ (ps : List Post). ps ++ confirming_posts c.land_llc.result m.link was) c.requires.none
    ∙ (ap (λ (r : FlowStep). confirming_posts r m.link was) step ∙ ap (λ (l : LinkId). confirming_posts (Live d.reply true) l was) d.link_is)) in
    let acted = subst (λ (l : LinkId). Represents c.land_llc.new.self (confirms_link (Live d.reply true) l was)) d.link_is
    (subst (λ (r : FlowStep). Represents c.land_llc.new.self (confirms_link r m.link was)) step (did.side was stood)) in
    subst (λ (ps : List Post). MaySendAll (length theirs.flows.items) c.land_llc.new.self ps) (sym slice.value)
    (posts-may-go at l.0 post own theirs l.1 few _ _ _ d.taking d.told c.land_llc.new.self c.land_llc.new.posts.items due acted)

pub send-requires-clause-room : goal.send-requires-clause-room
send-requires-clause-room c =
    let at = c.args.moment in
    let few = c.requires.few in
    let post = c.args.landed in
    let theirs = c.args.theirs.now in
    let l = c.requires.landed in
    let own = c.args.own.now in
    let m = c.in-Llc in
    let is = llc-from at l.0 post own theirs l.1 few m.from m.link m.message m.is in
    let d = llc-taken at l.0 post own theirs l.1 few m.link m.message is in
    let did = c.land_llc.ensures in
    let slice = c.as_slice.ensures in
    let was = Their at l.0 post own theirs l.1 few in
    let stood = theirs-stand at l.0 post own theirs l.1 few in
    let step = did.step ∙ d.step _ in
    let due = did.posts was stood
    ∙ (ap (λ (ps : List Post). ps ++ confirming_posts c.land_llc.result m.link was) c.requires.none
    ∙ (ap (λ (r : FlowStep). confirming_posts r m.link was) step ∙ ap (λ (l : LinkId). confirming_posts (Live d.reply true) l was) d.link_is)) in
    let acted = subst (λ (l : LinkId). Represents c.land_llc.new.self (confirms_link (Live d.reply true) l was)) d.link_is
    (subst (λ (r : FlowStep). Represents c.land_llc.new.self (confirms_link r m.link was)) step (did.side was stood)) in
    subst (λ (ps : List Post). length (filter goes_on_wire ps) ≤ room_of (wire_at 1 theirs)) (sym slice.value)
    (posts-fit at l.0 post own theirs l.1 few _ _ _ d.taking d.told c.land_llc.new.self c.land_llc.new.posts.items due acted)

pub returns : goal.returns
returns c = λ x landed.
    let at = c.args.moment in
    let few = c.requires.few in
    let post = c.args.landed in
    let theirs = c.args.theirs.now in
    let own = c.args.own.now in
    let m = c.in-Llc in
    let is = llc-from at x post own theirs landed few m.from m.link m.message m.is in
    let d = llc-taken at x post own theirs landed few m.link m.message is in
    let did = c.land_llc.ensures in
    let slice = c.as_slice.ensures in
    let was = Their at x post own theirs landed few in
    let stood = theirs-stand at x post own theirs landed few in
    let step = did.step ∙ d.step _ in
    let due = did.posts was stood
    ∙ (ap (λ (ps : List Post). ps ++ confirming_posts c.land_llc.result m.link was) c.requires.none
    ∙ (ap (λ (r : FlowStep). confirming_posts r m.link was) step ∙ ap (λ (l : LinkId). confirming_posts (Live d.reply true) l was) d.link_is)) in
    let acted = subst (λ (l : LinkId). Represents c.land_llc.new.self (confirms_link (Live d.reply true) l was)) d.link_is
    (subst (λ (r : FlowStep). Represents c.land_llc.new.self (confirms_link r m.link was)) step (did.side was stood)) in
    let sent = c.send.ensures in
    message-lands at x post own theirs landed few _ _ _ d.taking d.told c.land_llc.new.self c.land_llc.new.posts.items due acted d.own_stands c.send.new.self (length at.history.now + 1) refl sent.core
    (λ n stands. sent.wire n stands ∙ ap (λ (ps : List Post). with_posts (carried_from n (length at.history.now + 1) 1 ps) (wire_at 1 theirs)) slice.value)
    (sent.flows ∙ ap (λ (ps : List Post). puts_all ps theirs.flows.items) slice.value)
