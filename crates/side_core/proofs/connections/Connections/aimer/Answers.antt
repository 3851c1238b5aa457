use Rattle.std.proofs.Common.{◌∙◌, ◌==◌, Bool, cond, Option, Some, None, sym, ap}
use Rattle.std.proofs.lemmas.Bool.{eq-eqb, ne_eqb}
use Rattle.conn_end.specs.Kept.{Kept}
use Rattle.pipe_model.specs.Words.{passes}
use Rattle.clc_wire.specs.declared.offer.Offer.{Offer}
use Rattle.side_core.specs.Records.{Connection, aimer, is_aimed_at}
use Rattle.side_core.specs.Inside.{made_with, socket_named}
use Rattle.side_core.proofs.Sockets.{aimer_is, aimer_none}
use Rattle.side_core.proofs.connections.Connections.aimer.Goals as goal

pub returns-in_err-s : goal.returns-in_err-s
returns-in_err-s c =
    let x = c.self.inside in
    c.from_residual.ensures
    ∙ sym (aimer_none (made_with x.size x.depth x.number) x.records x.by_token.items x.by_peer.items c.self.invariant.each c.args.token (ap (socket_named c.args.token) (sym c.deref.ensures.value) ∙ sym c.in_err-s.ensures))
    ∙ ap (aimer c.args.token) c.self.view_is

pub returns-in_err-record : goal.returns-in_err-record
returns-in_err-record c =
    let x = c.self.inside in
    c.from_residual-in_err-record.ensures
    ∙ sym (aimer_is (made_with x.size x.depth x.number) x.records x.by_token.items x.by_peer.items c.self.invariant.each c.args.token c.in_ok-s.s (ap (socket_named c.args.token) (sym c.deref.ensures.value) ∙ sym c.in_ok-s.ensures)
    ∙ ap (λ (k : Option (Connection Kept)). cond (is_aimed_at c.args.token k) (Some c.in_ok-s.s) None) (sym c.in_err-record.ensures))
    ∙ ap (aimer c.args.token) c.self.view_is

pub returns-in_err-offer : goal.returns-in_err-offer
returns-in_err-offer c =
    let x = c.self.inside in
    c.from_residual-in_err-offer.ensures
    ∙ sym (aimer_is (made_with x.size x.depth x.number) x.records x.by_token.items x.by_peer.items c.self.invariant.each c.args.token c.in_ok-s.s (ap (socket_named c.args.token) (sym c.deref.ensures.value) ∙ sym c.in_ok-s.ensures)
    ∙ ap (λ (k : Option (Connection Kept)). cond (is_aimed_at c.args.token k) (Some c.in_ok-s.s) None) (sym c.in_ok-record.ensures)
    ∙ ap (λ (o : Option Offer). cond (passes (λ (f : Offer). f.token == c.args.token) o) (Some c.in_ok-s.s) None) c.in_err-offer.was)
    ∙ ap (aimer c.args.token) c.self.view_is

pub returns-then-offer-token : goal.returns-then-offer-token
returns-then-offer-token c =
    let x = c.self.inside in
    sym (aimer_is (made_with x.size x.depth x.number) x.records x.by_token.items x.by_peer.items c.self.invariant.each c.args.token c.in_ok-s.s (ap (socket_named c.args.token) (sym c.deref.ensures.value) ∙ sym c.in_ok-s.ensures)
    ∙ ap (λ (k : Option (Connection Kept)). cond (is_aimed_at c.args.token k) (Some c.in_ok-s.s) None) (sym c.in_ok-record.ensures)
    ∙ ap (λ (o : Option Offer). cond (passes (λ (f : Offer). f.token == c.args.token) o) (Some c.in_ok-s.s) None) c.in_ok-offer.was
    ∙ ap (λ (b : Bool). cond b (Some c.in_ok-s.s) None) (eq-eqb c.in_ok-offer.offer.token c.args.token c.if-offer-token.true))
    ∙ ap (aimer c.args.token) c.self.view_is

pub returns : goal.returns
returns c =
    let x = c.self.inside in
    sym (aimer_is (made_with x.size x.depth x.number) x.records x.by_token.items x.by_peer.items c.self.invariant.each c.args.token c.in_ok-s.s (ap (socket_named c.args.token) (sym c.deref.ensures.value) ∙ sym c.in_ok-s.ensures)
    ∙ ap (λ (k : Option (Connection Kept)). cond (is_aimed_at c.args.token k) (Some c.in_ok-s.s) None) (sym c.in_ok-record.ensures)
    ∙ ap (λ (o : Option Offer). cond (passes (λ (f : Offer). f.token == c.args.token) o) (Some c.in_ok-s.s) None) c.in_ok-offer.was
    ∙ ap (λ (b : Bool). cond b (Some c.in_ok-s.s) None) (ne_eqb c.in_ok-offer.offer.token c.args.token c.if-offer-token.false))
    ∙ ap (aimer c.args.token) c.self.view_is
