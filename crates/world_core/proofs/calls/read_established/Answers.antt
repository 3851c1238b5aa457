use Rattle.std.proofs.Common.{◌≡◌, ◌∙◌, ◌+◌, ◌-◌, ◌≤◌, ℕ, List, ◌++◌, length, take, drop, ap, sym, subst, arith}
use Rattle.std.specs.Prelude.{vec_len, vec_capacity}
use Rattle.clc_handshake.specs.Stages.{seen_state}
use Rattle.clc_handshake.specs.declared.stage.EndState.TheVariants.{Up}
use Rattle.side_core.specs.Manager.{state_at}
use Rattle.world_core.specs.Hosts.{IsPlayedBy, past_of}
use Rattle.pipe_model.specs.declared.event.Event.TheVariants.{Read}
use Rattle.world_core.proofs.ReadAnswers.{places-long, put-behind}
use Rattle.world_core.proofs.ReadTold.{Count, here, peer_out, fits, handed-count, taken-count, answers-here, bytes-are, out-is}
use Rattle.world_core.proofs.ReadsAfter.{read-may, read-up}
use Rattle.world_core.proofs.Stood.{slice-length}
use Rattle.world_core.proofs.calls.read_established.Goals as goal

pub lengthen-requires : goal.lengthen-requires
lengthen-requires c =
    let r = c.requires in
    let seen : seen_state (state_at c.args.end.s c.args.own.now.core) ≡ Up = ap (λ st. seen_state st) r.up in
    let all = c.count_of.ensures
    ∙ (taken-count c.args.moment.setup.now c.args.moment.payload.now (past_of c.args.moment) c.args.moment.heard c.args.end c.args.len c.args.own.now r.hosts.0 r.hosts.1 r.socket seen c.would_read-answer.result
    (answers-here c.args.moment.setup.now c.args.moment.payload.now (past_of c.args.moment) c.args.moment.heard c.args.end c.args.len c.args.own.now r.hosts.0 r.hosts.1 r.socket seen c.args.len c.would_read-answer.result c.would_read-answer.ensures)
    ∙ sym (handed-count c.args.moment.setup.now c.args.moment.payload.now (past_of c.args.moment) c.args.moment.heard c.args.end c.args.len c.args.own.now r.hosts.0 r.hosts.1 r.socket seen)) in
    subst (λ n. vec_len c.args.heard.now + n ≤ vec_capacity c.args.heard.now) (sym all) r.room

pub read_up-requires-clause-may : goal.read_up-requires-clause-may
read_up-requires-clause-may c =
    let r = c.requires in
    let seen : seen_state (state_at c.args.end.s c.args.own.now.core) ≡ Up = ap (λ st. seen_state st) r.up in
    let grown = c.deref_mut.ensures.value ∙ c.lengthen.ensures.items in
    let behind : c.len-from.result ≡ length c.args.heard.now.items = omega (arith, c.len-from.ensures, c.args.heard.now.ok.0) in
    let long = places-long c.args.heard.now.items c.deref_mut.result.now c.len-from.result c.count_of.result grown behind in
    let all = c.count_of.ensures
    ∙ taken-count c.args.moment.setup.now c.args.moment.payload.now (past_of c.args.moment) c.args.moment.heard c.args.end c.args.len c.args.own.now r.hosts.0 r.hosts.1 r.socket seen c.would_read-answer.result
    (answers-here c.args.moment.setup.now c.args.moment.payload.now (past_of c.args.moment) c.args.moment.heard c.args.end c.args.len c.args.own.now r.hosts.0 r.hosts.1 r.socket seen c.args.len c.would_read-answer.result c.would_read-answer.ensures) in
    read-may c.args.moment c.args.end c.args.len c.args.own.now r.hosts.0 r.hosts.1 r.few r.socket seen (length (take (length c.deref_mut.result.now - c.len-from.result) (drop c.len-from.result c.deref_mut.result.now))) (long ∙ all)

pub returns-clause-played : goal.returns-clause-played
returns-clause-played c = λ theirs hosts.
    let r = c.requires in
    let seen : seen_state (state_at c.args.end.s c.args.own.now.core) ≡ Up = ap (λ st. seen_state st) r.up in
    let grown = c.deref_mut.ensures.value ∙ c.lengthen.ensures.items in
    let behind : c.len-from.result ≡ length c.args.heard.now.items = omega (arith, c.len-from.ensures, c.args.heard.now.ok.0) in
    let long = places-long c.args.heard.now.items c.deref_mut.result.now c.len-from.result c.count_of.result grown behind in
    let all = c.count_of.ensures
    ∙ taken-count c.args.moment.setup.now c.args.moment.payload.now (past_of c.args.moment) c.args.moment.heard c.args.end c.args.len c.args.own.now theirs hosts r.socket seen c.would_read-answer.result
    (answers-here c.args.moment.setup.now c.args.moment.payload.now (past_of c.args.moment) c.args.moment.heard c.args.end c.args.len c.args.own.now theirs hosts r.socket seen c.args.len c.would_read-answer.result c.would_read-answer.ensures) in
    subst (λ reply. IsPlayedBy c.args.moment (Read c.args.end c.args.len) reply c.read_up.new.posts.items c.args.end.side c.read_up.new.own theirs) (sym c.reply_to.ensures)
    (read-up c.args.moment c.args.end c.args.len c.args.own.now theirs hosts r.few r.socket seen (length (take (length c.deref_mut.result.now - c.len-from.result) (drop c.len-from.result c.deref_mut.result.now))) (long ∙ all)
    c.would_read-answer.result c.len-from.result c.read_up.new.own c.read_up.new.posts.items (c.len-from.ensures ∙ r.before) c.would_read-answer.ensures c.read_up.ensures.called)

pub returns-clause-heard : goal.returns-clause-heard
returns-clause-heard c =
    let r = c.requires in
    let seen : seen_state (state_at c.args.end.s c.args.own.now.core) ≡ Up = ap (λ st. seen_state st) r.up in
    let grown = c.deref_mut.ensures.value ∙ c.lengthen.ensures.items in
    let behind : c.len-from.result ≡ length c.args.heard.now.items = omega (arith, c.len-from.ensures, c.args.heard.now.ok.0) in
    let long = places-long c.args.heard.now.items c.deref_mut.result.now c.len-from.result c.count_of.result grown behind in
    let all = c.count_of.ensures
    ∙ taken-count c.args.moment.setup.now c.args.moment.payload.now (past_of c.args.moment) c.args.moment.heard c.args.end c.args.len c.args.own.now r.hosts.0 r.hosts.1 r.socket seen c.would_read-answer.result
    (answers-here c.args.moment.setup.now c.args.moment.payload.now (past_of c.args.moment) c.args.moment.heard c.args.end c.args.len c.args.own.now r.hosts.0 r.hosts.1 r.socket seen c.args.len c.would_read-answer.result c.would_read-answer.ensures) in
    let places : List ℕ = take (length c.deref_mut.result.now - c.len-from.result) (drop c.len-from.result c.deref_mut.result.now) in
    let out = c.read_up.ensures.out
    ∙ out-is c.args.moment.setup.now c.args.moment.payload.now (past_of c.args.moment) c.args.moment.heard c.args.end c.args.len c.args.own.now r.hosts.0 r.hosts.1 r.socket seen places c.read_up.result (long ∙ all)
    (answers-here c.args.moment.setup.now c.args.moment.payload.now (past_of c.args.moment) c.args.moment.heard c.args.end c.args.len c.args.own.now r.hosts.0 r.hosts.1 r.socket seen (length places) c.read_up.result c.read_up.ensures.told) in
    let out-long = ap (λ (xs : List ℕ). length xs) out
    ∙ (slice-length (here c.args.moment.setup.now c.args.moment.payload.now (past_of c.args.moment) c.args.moment.heard c.args.end c.args.len c.args.own.now r.hosts.0 r.hosts.1 r.socket).rd (Count c.args.moment.setup.now c.args.moment.payload.now (past_of c.args.moment) c.args.moment.heard c.args.end c.args.len c.args.own.now r.hosts.0 r.hosts.1 r.socket seen)
    (peer_out c.args.moment.setup.now c.args.moment.payload.now (past_of c.args.moment) c.args.moment.heard c.args.end c.args.len c.args.own.now r.hosts.0 r.hosts.1 r.socket) (fits c.args.moment.setup.now c.args.moment.payload.now (past_of c.args.moment) c.args.moment.heard c.args.end c.args.len c.args.own.now r.hosts.0 r.hosts.1 r.socket seen)
    ∙ sym all) in
    let size : c.lengthen.new.bytes.len ≡ length c.deref_mut.result.now = sym c.deref_mut.ensures.len in
    put-behind c.args.heard.now.items c.deref_mut.result.now c.len-from.result c.count_of.result grown behind c.read_up.new.out c.lengthen.new.bytes.items c.lengthen.new.bytes.len out-long size
    ∙ ap (λ (xs : List ℕ). c.args.heard.now.items ++ xs) (out ∙ sym (bytes-are c.args.moment.setup.now c.args.moment.payload.now (past_of c.args.moment) c.args.moment.heard c.args.end c.args.len c.args.own.now r.hosts.0 r.hosts.1 r.socket seen))
