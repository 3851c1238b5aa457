use Rattle.std.proofs.Common.{◌∙◌, Bool, cond, Option, Some, None, sym, ap}
use Rattle.std.proofs.lemmas.Bool.{eq-eqb, ne_eqb}
use Rattle.conn_end.specs.Kept.{Kept}
use Rattle.side_core.specs.Records.{Connection, holder, has_token}
use Rattle.side_core.specs.Inside.{made_with, socket_named}
use Rattle.side_core.proofs.Sockets.{holder_is, holder_none}
use Rattle.side_core.proofs.connections.Connections.holder.Goals as goal

pub returns-in_err-s : goal.returns-in_err-s
returns-in_err-s c =
    let x = c.self.inside in
    c.from_residual.ensures
    ∙ sym (holder_none (made_with x.size x.depth x.number) x.records x.by_token.items x.by_peer.items c.self.invariant.each c.args.token (ap (socket_named c.args.token) (sym c.deref.ensures.value) ∙ sym c.in_err-s.ensures))
    ∙ ap (holder c.args.token) c.self.view_is

pub returns-in_err-record : goal.returns-in_err-record
returns-in_err-record c =
    let x = c.self.inside in
    c.from_residual-in_err-record.ensures
    ∙ sym (holder_is (made_with x.size x.depth x.number) x.records x.by_token.items x.by_peer.items c.self.invariant.each c.args.token c.in_ok-s.s (ap (socket_named c.args.token) (sym c.deref.ensures.value) ∙ sym c.in_ok-s.ensures)
    ∙ ap (λ (k : Option (Connection Kept)). cond (has_token c.args.token k) (Some c.in_ok-s.s) None) (sym c.in_err-record.ensures))
    ∙ ap (holder c.args.token) c.self.view_is

pub returns-then-record-token : goal.returns-then-record-token
returns-then-record-token c =
    let x = c.self.inside in
    sym (holder_is (made_with x.size x.depth x.number) x.records x.by_token.items x.by_peer.items c.self.invariant.each c.args.token c.in_ok-s.s (ap (socket_named c.args.token) (sym c.deref.ensures.value) ∙ sym c.in_ok-s.ensures)
    ∙ ap (λ (k : Option (Connection Kept)). cond (has_token c.args.token k) (Some c.in_ok-s.s) None) (sym c.in_ok-record.ensures)
    ∙ ap (λ (b : Bool). cond b (Some c.in_ok-s.s) None) (eq-eqb c.in_ok-record.record.now.route.token c.args.token c.if-record-token.true))
    ∙ ap (holder c.args.token) c.self.view_is

pub returns : goal.returns
returns c =
    let x = c.self.inside in
    sym (holder_is (made_with x.size x.depth x.number) x.records x.by_token.items x.by_peer.items c.self.invariant.each c.args.token c.in_ok-s.s (ap (socket_named c.args.token) (sym c.deref.ensures.value) ∙ sym c.in_ok-s.ensures)
    ∙ ap (λ (k : Option (Connection Kept)). cond (has_token c.args.token k) (Some c.in_ok-s.s) None) (sym c.in_ok-record.ensures)
    ∙ ap (λ (b : Bool). cond b (Some c.in_ok-s.s) None) (ne_eqb c.in_ok-record.record.now.route.token c.args.token c.if-record-token.false))
    ∙ ap (holder c.args.token) c.self.view_is
