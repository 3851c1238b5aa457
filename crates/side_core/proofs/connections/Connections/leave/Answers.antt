use Rattle.std.proofs.Common.{◌∙◌, List, [], ◌∷◌, ◌++◌, length, refl, ap, sym, subst, vec_capacity}
use Rattle.std.proofs.lemmas.List.{length-append}
use Rattle.pipe_model.specs.Pipe.{Terms}
use Rattle.conn_end.specs.Kept.{Kept}
use Rattle.side_core.specs.Records.{Connection, Records, AllStand, leaves}
use Rattle.side_core.specs.Slots.{conn_of}
use Rattle.side_core.specs.Inside.{IsTable, made_with, records_of}
use Rattle.side_core.proofs.Sockets.{table_left}
use Rattle.side_core.proofs.Ends.{there_within, left_stands}
use Rattle.side_core.proofs.connections.Connections.leave.Goals as goal

pub invariant_of-self : goal.invariant_of-self
invariant_of-self c =
    let x = c.self.inside in
    let terms : Terms = made_with x.size x.depth x.number in
    let left : Connection Kept = conn_of c.take-end.result in
    let e = c.take-end.ensures in
    subst (λ (ends : List Kept). IsTable terms c.take-end.new.self x.by_token.items x.by_peer.items ends (vec_capacity x.by_token) (vec_capacity c.push_reserved.new.self)) (sym c.push_reserved.ensures.items)
    (subst (λ n. IsTable terms c.take-end.new.self x.by_token.items x.by_peer.items (x.idle.items ++ left.end ∷ []) (vec_capacity x.by_token) n) (sym c.push_reserved.ensures.capacity)
    (table_left terms x.records c.take-end.new.self x.by_token.items x.by_peer.items x.idle.items (vec_capacity x.by_token) (vec_capacity x.idle) c.args.s left c.self.invariant e.taken (there_within x.records.slots c.args.s left e.taken) e.slots e.room e.most e.capacity))

pub returns-clause-leaves : goal.returns-clause-leaves
returns-clause-leaves c = λ r.
    let x = c.self.inside in
    let terms : Terms = made_with x.size x.depth x.number in
    let left : Connection Kept = conn_of c.take-end.result in
    let e = c.take-end.ensures in
    let v : Records Kept = records_of terms x.records x.by_token.items x.idle.items in
    let w : Records Kept = records_of terms c.take-end.new.self x.by_token.items c.push_reserved.new.self.items in
    subst (λ (u : Records Kept). AllStand u r → AllStand w (leaves c.args.s r)) c.self.view_is
    (λ all. left_stands v w r c.args.s all refl refl (ap length c.push_reserved.ensures.items ∙ length-append x.idle.items (left.end ∷ [])) e.slots (there_within x.records.slots c.args.s left e.taken))
