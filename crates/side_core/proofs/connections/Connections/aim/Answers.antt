use Rattle.std.proofs.Common.{◌≡◌, ◌∙◌, ◌≤◌, Some, None, length, refl, sym, ap, subst, vec_capacity}
use Rattle.pipe_model.specs.Pipe.{Terms}
use Rattle.pipe_model.specs.Ends.{Half}
use Rattle.conn_end.specs.Kept.{Kept}
use Rattle.side_core.specs.Records.{Connection, Records, AllStand, aimer, aims, conn_at, is_aimed_at}
use Rattle.side_core.specs.Slots.{conn_of, slot_at, with_slot}
use Rattle.side_core.specs.Inside.{IsFiled, IsFiledAt, made_with, records_of}
use Rattle.side_core.proofs.Sockets.{none_found, table_aimed, filed_aimed}
use Rattle.side_core.proofs.Ends.{IsFound, there_within, finds_plain, changed_stands, aimed_stands}
use Rattle.side_core.proofs.connections.Connections.aim.Goals as goal

pub invariant_of-self : goal.invariant_of-self
invariant_of-self c =
    let x = c.self.inside in
    let o = c.args.offer.now in
    let terms : Terms = made_with x.size x.depth x.number in
    let k : Connection Kept = conn_of c.get_mut-record.result.now in
    let is : slot_at c.args.s x.records ≡ Some k = c.get_mut-record.ensures.value in
    let filed : IsFiled terms x.by_token.items x.by_peer.items c.args.s k = subst (IsFiledAt terms x.by_token.items x.by_peer.items c.args.s) is (c.self.invariant.each c.args.s) in
    let new : Connection Kept = record { route = record k.route { peer = Some o }; end = c.aim.new.self } in
    let most : o.token ≤ length x.by_peer.items = subst (λ n. o.token ≤ n) (sym (c.self.invariant.peers ∙ ap (λ (u : Records Kept). length u.by_socket) c.self.view_is)) c.requires.most in
    table_aimed terms x.records (with_slot c.args.s (Some new) x.records) x.by_token.items x.by_peer.items x.idle.items (vec_capacity x.by_token) (vec_capacity x.idle) c.args.s o new c.self.invariant
    (there_within x.records.slots c.args.s k is)
    (λ t. none_found (is_aimed_at o.token) x.records.slots None t refl (ap (aimer o.token) c.self.view_is ∙ c.requires.alone))
    c.requires.some refl refl refl
    (filed_aimed terms x.by_token.items x.by_peer.items c.args.s o k c.aim.new.self filed c.aim.ensures c.requires.some most c.requires.rmb c.requires.index)

pub returns : goal.returns
returns c = λ r.
    let x = c.self.inside in
    let o = c.args.offer.now in
    let terms : Terms = made_with x.size x.depth x.number in
    let v : Records Kept = records_of terms x.records x.by_token.items x.idle.items in
    let k : Connection Kept = conn_of c.get_mut-record.result.now in
    let is : conn_at c.args.s v ≡ Some k = c.get_mut-record.ensures.value in
    let new : Connection Kept = record { route = record k.route { peer = Some o }; end = c.aim.new.self } in
    let w : Records Kept = records_of terms (with_slot c.args.s (Some new) x.records) x.by_token.items x.idle.items in
    subst (λ (u : Records Kept). AllStand u r → AllStand w (aims c.args.s o r)) c.self.view_is
    (λ all.
    let found : IsFound r c.args.s k = finds_plain v r c.args.s k all is in
    changed_stands v w r c.args.s k new (λ (q : Connection Half). record q { route = record q.route { peer = Some o } }) all (record { terms = refl; tokens = refl; spare = refl; by_socket = refl }) is
    (ap (λ (e : Kept). e.size) c.aim.ensures) found (aimed_stands k found.conn o c.aim.new.self c.aim.ensures found.stands))
