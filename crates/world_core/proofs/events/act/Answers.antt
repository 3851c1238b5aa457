-- Only a read hands out bytes, and what is no call and no CLC message leaves a wire.
use Rattle.std.proofs.Common.{◌≡◌, ◌∙◌, ◌+◌, ◌^◌, ◌≤◌, ◌++◌, ap, length, subst, sym, take, drop, vec_len, vec_capacity}
use Rattle.smc_num.specs.declared.Side.TheVariants.{A}
use Rattle.pipe_model.specs.Fits.{Fits}
use Rattle.pipe_model.specs.Connections.{end_state}
use Rattle.world_core.specs.Heard.{told_bytes}
use Rattle.world_core.specs.Played.{handed}
use Rattle.world_core.specs.Hosts.{IsPlayedBy, past_of, told_at}
use Rattle.world_core.proofs.OnlyReads.{leaves, only_reads, unheard, write-takes}
use Rattle.world_core.proofs.events.act.Goals as goal

pub open-requires-clause-socket : goal.open-requires-clause-socket
open-requires-clause-socket c = subst (λ event. Fits c.args.moment.setup.now (length c.args.moment.payload.now) event) c.in-Open.is c.requires.fits

pub take_from-requires-clause-socket : goal.take_from-requires-clause-socket
take_from-requires-clause-socket c = subst (λ event. Fits c.args.moment.setup.now (length c.args.moment.payload.now) event) c.in-Clc.is c.requires.fits

pub write_at-requires-clause-socket : goal.write_at-requires-clause-socket
write_at-requires-clause-socket c = (subst (λ event. Fits c.args.moment.setup.now (length c.args.moment.payload.now) event) c.in-Write.is c.requires.fits).0

pub write_at-requires-clause-within : goal.write_at-requires-clause-within
write_at-requires-clause-within c = (subst (λ event. Fits c.args.moment.setup.now (length c.args.moment.payload.now) event) c.in-Write.is c.requires.fits).1

pub read_at-requires-clause-socket : goal.read_at-requires-clause-socket
read_at-requires-clause-socket c = subst (λ event. Fits c.args.moment.setup.now (length c.args.moment.payload.now) event) c.in-Read.is c.requires.fits

pub read_at-requires-clause-room : goal.read_at-requires-clause-room
read_at-requires-clause-room c = subst (λ event. vec_len c.args.heard.now + handed (told_at c.args.moment event) ≤ vec_capacity c.args.heard.now) c.in-Read.is c.requires.room

pub read_at-requires-clause-least : goal.read_at-requires-clause-least
read_at-requires-clause-least c = subst (λ event. vec_len c.args.heard.now + handed (told_at c.args.moment event) ≤ 2 ^ 26) c.in-Read.is c.requires.least

pub returns-in-Open-clause-played : goal.returns-in-Open-clause-played
returns-in-Open-clause-played c = subst (λ event. IsPlayedBy c.args.moment event c.open.result c.open.new.posts.items A c.open.new.client c.open.new.server) (sym c.in-Open.is) c.open.ensures

pub returns-in-Clc-clause-played : goal.returns-in-Clc-clause-played
returns-in-Clc-clause-played c = subst (λ event. IsPlayedBy c.args.moment event c.take_from.result c.take_from.new.posts.items A c.take_from.new.a c.take_from.new.b) (sym c.in-Clc.is) c.take_from.ensures

pub returns-in-Write-clause-played : goal.returns-in-Write-clause-played
returns-in-Write-clause-played c = subst (λ event. IsPlayedBy c.args.moment event c.write_at.result c.write_at.new.posts.items A c.write_at.new.a c.write_at.new.b) (sym c.in-Write.is) c.write_at.ensures

pub returns-in-Read-clause-played : goal.returns-in-Read-clause-played
returns-in-Read-clause-played c =
    let r = c.read_at in
    subst (λ event. IsPlayedBy c.args.moment event r.result r.new.posts.items A r.new.a r.new.b) (sym c.in-Read.is) r.ensures.played

pub returns-in-Read-clause-heard : goal.returns-in-Read-clause-heard
returns-in-Read-clause-heard c =
    let r = c.read_at in
    subst (λ event. r.new.heard.items ≡ c.args.heard.now.items ++ told_bytes (told_at c.args.moment event)) (sym c.in-Read.is) r.ensures.heard

pub returns-in-Open-clause-heard : goal.returns-in-Open-clause-heard
returns-in-Open-clause-heard c = unheard c.args.heard.now.items (told_at c.args.moment c.args.event) (ap (λ event. told_bytes (told_at c.args.moment event)) c.in-Open.is)

pub returns-in-Clc-clause-heard : goal.returns-in-Clc-clause-heard
returns-in-Clc-clause-heard c = unheard c.args.heard.now.items (told_at c.args.moment c.args.event) (ap (λ event. told_bytes (told_at c.args.moment event)) c.in-Clc.is)

pub returns-in-Write-clause-heard : goal.returns-in-Write-clause-heard
returns-in-Write-clause-heard c =
    let at = c.args.moment in
    let w = c.in-Write in
    unheard c.args.heard.now.items (told_at at c.args.event)
    (ap (λ event. told_bytes (told_at at event)) w.is ∙ write-takes at.setup.now at.payload.now w.end (take w.len (drop w.at at.payload.now)) (past_of at) (end_state w.end.side w.end.s (past_of at)))

pub returns-in_default-clause-heard : goal.returns-in_default-clause-heard
returns-in_default-clause-heard c =
    let at = c.args.moment in
    unheard c.args.heard.now.items (told_at at c.args.event) (only_reads at.setup.now at.payload.now (past_of at) (length at.payload.now) c.args.event c.requires.fits c.in_default.not-Read)

pub move_on-requires-clause-moves : goal.move_on-requires-clause-moves
move_on-requires-clause-moves c =
    let at = c.args.moment in
    let d = c.in_default in
    leaves at.setup.now (length at.payload.now) c.args.event c.requires.fits d.not-Open d.not-Clc d.not-Write d.not-Read
