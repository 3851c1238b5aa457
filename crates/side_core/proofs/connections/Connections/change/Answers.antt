use Rattle.std.proofs.Common.{◌≡◌, ◌++◌, List, Some, refl, sym, subst, vec_capacity}
use Rattle.pipe_model.specs.declared.post.Post.{Post}
use Rattle.pipe_model.specs.Pipe.{Terms}
use Rattle.pipe_model.specs.Ends.{Half}
use Rattle.conn_end.specs.Kept.{Kept}
use Rattle.side_core.specs.Records.{Connection, Records, AllStand, conn_at, half_at, settles}
use Rattle.side_core.specs.Slots.{conn_of, slot_at, with_slot}
use Rattle.side_core.specs.Inside.{IsFiled, IsFiledAt, made_with, records_of}
use Rattle.side_core.specs.Posting.{IsWay, posts_at}
use Rattle.side_core.specs.Changes.{Makes, MakesAt, Tells}
use Rattle.side_core.proofs.Ends.{Leaves, makes_leave, filed_after, IsFound, there_within, finds_plain, is_way, settles_at, on_way, posted, half_is}
use Rattle.side_core.proofs.Sockets.{table_changed}
use Rattle.side_core.proofs.connections.Connections.change.Goals as goal

pub invariant_of-self : goal.invariant_of-self
invariant_of-self c =
    let x = c.self.inside in
    let terms : Terms = made_with x.size x.depth x.number in
    let k : Connection Kept = conn_of c.get_mut.result.now in
    let is : slot_at c.args.s x.records ≡ Some k = c.get_mut.ensures.value in
    let filed : IsFiled terms x.by_token.items x.by_peer.items c.args.s k = subst (IsFiledAt terms x.by_token.items x.by_peer.items c.args.s) is (c.self.invariant.each c.args.s) in
    let new : Connection Kept = conn_of c.change.new.self in
    table_changed terms x.records (with_slot c.args.s (Some new) x.records) x.by_token.items x.by_peer.items x.idle.items (vec_capacity x.by_token) (vec_capacity x.idle) c.args.s new c.self.invariant
    (there_within x.records.slots c.args.s k is) refl refl refl (filed_after terms x.by_token.items x.by_peer.items c.args.s k new filed c.change.ensures.same c.change.ensures.set)

pub returns-clause-end : goal.returns-clause-end
returns-clause-end c = λ r act.
    let x = c.self.inside in
    let terms : Terms = made_with x.size x.depth x.number in
    let v : Records Kept = records_of terms x.records x.by_token.items x.idle.items in
    let k : Connection Kept = conn_of c.get_mut.result.now in
    let is : conn_at c.args.s v ≡ Some k = c.get_mut.ensures.value in
    let filed : IsFiled terms x.by_token.items x.by_peer.items c.args.s k = subst (IsFiledAt terms x.by_token.items x.by_peer.items c.args.s) is (c.self.invariant.each c.args.s) in
    let new : Connection Kept = conn_of c.change.new.self in
    let w : Records Kept = records_of terms (with_slot c.args.s (Some new) x.records) x.by_token.items x.idle.items in
    subst (λ (u : Records Kept). AllStand u r → MakesAt u.terms.size c.args.change (conn_at c.args.s u) (conn_at c.args.s r) act → IsWay act c.args.way (conn_at c.args.s r) → AllStand w (settles c.args.s act r)) c.self.view_is
    (λ all makes may.
    let found : IsFound r c.args.s k = finds_plain v r c.args.s k all is in
    let h : Half = found.conn.end in
    let here : Makes x.size c.args.change k.end h act = subst (λ o. MakesAt x.size c.args.change (Some k) o act) found.is (subst (λ o. MakesAt x.size c.args.change o (conn_at c.args.s r) act) is makes) in
    let leaves : Leaves act = makes_leave x.size c.args.change k.end h act here in
    settles_at v w r c.args.s k new act all (record { terms = refl; tokens = refl; spare = refl; by_socket = refl }) is filed.made c.change.ensures.same found (leaves.alike h)
    (c.change.ensures.end h act (subst (λ n. Makes n c.args.change k.end h act) (sym filed.made.size) here) (is_way act c.args.way r c.args.s found.conn found.is may)))

pub returns-clause-posts : goal.returns-clause-posts
returns-clause-posts c = λ r act.
    let x = c.self.inside in
    let terms : Terms = made_with x.size x.depth x.number in
    let v : Records Kept = records_of terms x.records x.by_token.items x.idle.items in
    let k : Connection Kept = conn_of c.get_mut.result.now in
    let is : conn_at c.args.s v ≡ Some k = c.get_mut.ensures.value in
    let filed : IsFiled terms x.by_token.items x.by_peer.items c.args.s k = subst (IsFiledAt terms x.by_token.items x.by_peer.items c.args.s) is (c.self.invariant.each c.args.s) in
    let after : List Post = c.change.new.posts.items in
    let before : List Post = c.args.posts.now.items in
    subst (λ (u : Records Kept). AllStand u r → MakesAt u.terms.size c.args.change (conn_at c.args.s u) (conn_at c.args.s r) act → IsWay act c.args.way (conn_at c.args.s r) → after ≡ before ++ posts_at c.args.s act c.args.way r (conn_at c.args.s r)) c.self.view_is
    (λ all makes may.
    let found : IsFound r c.args.s k = finds_plain v r c.args.s k all is in
    let h : Half = found.conn.end in
    let here : Makes x.size c.args.change k.end h act = subst (λ o. MakesAt x.size c.args.change (Some k) o act) found.is (subst (λ o. MakesAt x.size c.args.change o (conn_at c.args.s r) act) is makes) in
    let leaves : Leaves act = makes_leave x.size c.args.change k.end h act here in
    posted v r c.args.s k act c.args.way before after all filed.made found
    (c.change.ensures.posts h act (subst (λ n. Makes n c.args.change k.end h act) (sym filed.made.size) here)
    (on_way found.conn k act c.args.way found.stands (leaves.alike h) (is_way act c.args.way r c.args.s found.conn found.is may))))

pub returns-clause-told : goal.returns-clause-told
returns-clause-told c = λ r.
    let x = c.self.inside in
    let terms : Terms = made_with x.size x.depth x.number in
    let v : Records Kept = records_of terms x.records x.by_token.items x.idle.items in
    let k : Connection Kept = conn_of c.get_mut.result.now in
    let is : conn_at c.args.s v ≡ Some k = c.get_mut.ensures.value in
    let filed : IsFiled terms x.by_token.items x.by_peer.items c.args.s k = subst (IsFiledAt terms x.by_token.items x.by_peer.items c.args.s) is (c.self.invariant.each c.args.s) in
    subst (λ (u : Records Kept). AllStand u r → Tells u.terms.size c.args.change (half_at c.args.s r) c.change.result) c.self.view_is
    (λ all.
    let found : IsFound r c.args.s k = finds_plain v r c.args.s k all is in
    subst (λ (g : Half). Tells x.size c.args.change g c.change.result) (sym (half_is r c.args.s found.conn found.is))
    (subst (λ n. Tells n c.args.change found.conn.end c.change.result) filed.made.size (c.change.ensures.told found.conn.end found.stands.end)))
