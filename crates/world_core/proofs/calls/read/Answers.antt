use Rattle.std.proofs.Common.{◌∙◌, ◌+◌, ◌≤◌, ◌++◌, ap, sym, subst, refl, append-nil}
use Rattle.std.specs.Prelude.{vec_len, vec_capacity}
use Rattle.world_core.specs.Played.{handed}
use Rattle.world_core.specs.Heard.{told_bytes}
use Rattle.world_core.specs.declared.host.Host.{Host}
use Rattle.world_core.specs.Hosts.{past_of}
use Rattle.world_core.proofs.ReadTold.{told-absent, told-waits, told-fell}
use Rattle.world_core.proofs.ReadsAfter.{read-absent, read-waits, read-fell}
use Rattle.world_core.proofs.calls.read.Goals as goal

pub read_fallen-requires-clause-room : goal.read_fallen-requires-clause-room
read_fallen-requires-clause-room c =
    let r = c.requires in
    subst (λ t. vec_len c.args.heard.now + handed t ≤ vec_capacity c.args.heard.now)
    (told-fell c.args.moment.setup.now c.args.moment.payload.now (past_of c.args.moment) c.args.moment.heard c.args.end c.args.len c.args.own.now c.args.theirs.now r.hosts r.socket (sym c.end_state.ensures ∙ c.in-FellBack.is)) r.room

pub returns-in-Absent-clause-played : goal.returns-in-Absent-clause-played
returns-in-Absent-clause-played c =
    let r = c.requires in
    read-absent c.args.moment c.args.end c.args.len c.args.own.now c.args.theirs.now r.hosts r.few r.socket c.args.posts.now.items r.none (sym c.end_state.ensures ∙ c.in-Absent.is)

pub returns-in-Absent-clause-heard : goal.returns-in-Absent-clause-heard
returns-in-Absent-clause-heard c =
    let r = c.requires in
    sym (ap (λ t. c.args.heard.now.items ++ told_bytes t) (told-absent c.args.moment.setup.now c.args.moment.payload.now (past_of c.args.moment) c.args.moment.heard c.args.end c.args.len c.args.own.now c.args.theirs.now r.hosts r.socket (sym c.end_state.ensures ∙ c.in-Absent.is))
    ∙ append-nil c.args.heard.now.items)

pub returns-in-Up-clause-played : goal.returns-in-Up-clause-played
returns-in-Up-clause-played c = c.read_established.ensures.played c.args.theirs.now c.requires.hosts

pub returns-in-FellBack-clause-played : goal.returns-in-FellBack-clause-played
returns-in-FellBack-clause-played c =
    let r = c.requires in
    let peers : Host = record { core = c.args.theirs.now.core; wires = c.args.theirs.now.wires; flows = c.read_fallen.new.flows } in
    read-fell c.args.moment c.args.end c.args.len c.args.own.now c.args.theirs.now r.hosts r.few r.socket c.read_fallen.result (vec_len c.args.heard.now) peers c.args.posts.now.items r.none
    (sym c.end_state.ensures ∙ c.in-FellBack.is) r.before refl refl c.read_fallen.ensures.told c.read_fallen.ensures.flows

pub returns-in-FellBack-clause-heard : goal.returns-in-FellBack-clause-heard
returns-in-FellBack-clause-heard c =
    let r = c.requires in
    c.read_fallen.ensures.heard
    ∙ ap (λ t. c.args.heard.now.items ++ told_bytes t) (sym (told-fell c.args.moment.setup.now c.args.moment.payload.now (past_of c.args.moment) c.args.moment.heard c.args.end c.args.len c.args.own.now c.args.theirs.now r.hosts r.socket (sym c.end_state.ensures ∙ c.in-FellBack.is)))

pub returns-in_default-clause-played : goal.returns-in_default-clause-played
returns-in_default-clause-played c =
    let r = c.requires in
    read-waits c.args.moment c.args.end c.args.len c.args.own.now c.args.theirs.now r.hosts r.few r.socket c.args.posts.now.items r.none
    (λ e. c.in_default.not-Absent (c.end_state.ensures ∙ e)) (λ e. c.in_default.not-Up (c.end_state.ensures ∙ e)) (λ e. c.in_default.not-FellBack (c.end_state.ensures ∙ e))

pub returns-in_default-clause-heard : goal.returns-in_default-clause-heard
returns-in_default-clause-heard c =
    let r = c.requires in
    sym (ap (λ t. c.args.heard.now.items ++ told_bytes t) (told-waits c.args.moment.setup.now c.args.moment.payload.now (past_of c.args.moment) c.args.moment.heard c.args.end c.args.len c.args.own.now c.args.theirs.now r.hosts r.socket
    (λ e. c.in_default.not-Absent (c.end_state.ensures ∙ e)) (λ e. c.in_default.not-Up (c.end_state.ensures ∙ e)) (λ e. c.in_default.not-FellBack (c.end_state.ensures ∙ e)))
    ∙ append-nil c.args.heard.now.items)
