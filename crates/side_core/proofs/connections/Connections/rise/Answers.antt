use Rattle.std.proofs.Common.{◌≡◌, ◌++◌, List, Some, true, unwrap_or, option_map, Option, refl, ap, ◌∙◌, sym, subst, vec_capacity}
use Rattle.smc_num.specs.Names.{no_link}
use Rattle.pipe_model.specs.declared.post.Post.{Post}
use Rattle.pipe_model.specs.Pipe.{Terms}
use Rattle.pipe_model.specs.Ends.{Half, settle, comes_up}
use Rattle.conn_end.specs.Kept.{Kept}
use Rattle.conn_end.specs.Batches.{may_post}
use Rattle.side_core.specs.Records.{Connection, Records, AllStand, conn_at, link_at, rises}
use Rattle.side_core.specs.Slots.{conn_of, slot_at, with_slot}
use Rattle.side_core.specs.Inside.{IsFiled, IsFiledAt, made_with, records_of}
use Rattle.side_core.specs.Posting.{IsWay, posts_at, due_posts}
use Rattle.side_core.proofs.Ends.{filed_after, IsFound, there_within, finds_plain, is_way, changed_stands, risen_stands, posted}
use Rattle.side_core.proofs.Sockets.{table_changed}
use Rattle.side_core.proofs.connections.Connections.rise.Goals as goal

pub invariant_of-self : goal.invariant_of-self
invariant_of-self c =
    let x = c.self.inside in
    let terms : Terms = made_with x.size x.depth x.number in
    let k : Connection Kept = conn_of c.get_mut.result.now in
    let is : slot_at c.args.s x.records ≡ Some k = c.get_mut.ensures.value in
    let filed : IsFiled terms x.by_token.items x.by_peer.items c.args.s k = subst (IsFiledAt terms x.by_token.items x.by_peer.items c.args.s) is (c.self.invariant.each c.args.s) in
    let new : Connection Kept = conn_of c.rise.new.self in
    table_changed terms x.records (with_slot c.args.s (Some new) x.records) x.by_token.items x.by_peer.items x.idle.items (vec_capacity x.by_token) (vec_capacity x.idle) c.args.s new c.self.invariant
    (there_within x.records.slots c.args.s k is) refl refl refl (filed_after terms x.by_token.items x.by_peer.items c.args.s (record k { route = record k.route { up = true } }) new (record { made = filed.made; set = record { kept = filed.set.kept; owes = filed.set.owes; aimed = filed.set.aimed }; own = filed.own; peer = filed.peer }) c.rise.ensures.same c.rise.ensures.set)

pub returns-clause-end : goal.returns-clause-end
returns-clause-end c = λ r.
    let x = c.self.inside in
    let terms : Terms = made_with x.size x.depth x.number in
    let v : Records Kept = records_of terms x.records x.by_token.items x.idle.items in
    let k : Connection Kept = conn_of c.get_mut.result.now in
    let is : conn_at c.args.s v ≡ Some k = c.get_mut.ensures.value in
    let filed : IsFiled terms x.by_token.items x.by_peer.items c.args.s k = subst (IsFiledAt terms x.by_token.items x.by_peer.items c.args.s) is (c.self.invariant.each c.args.s) in
    let new : Connection Kept = conn_of c.rise.new.self in
    let w : Records Kept = records_of terms (with_slot c.args.s (Some new) x.records) x.by_token.items x.idle.items in
    let on : link_at c.args.s v ≡ k.route.link = ap (λ (o : Option (Connection Kept)). unwrap_or (option_map (λ q. q.route.link) o) no_link) is in
    subst (λ (u : Records Kept). AllStand u r → IsWay (comes_up (link_at c.args.s u)) c.args.way (conn_at c.args.s r) → AllStand w (rises c.args.s r)) c.self.view_is
    (λ all may.
    let found : IsFound r c.args.s k = finds_plain v r c.args.s k all is in
    let h : Half = found.conn.end in
    let live : c.args.way.live ≡ may_post (comes_up (link_at c.args.s v) h) = is_way (comes_up (link_at c.args.s v)) c.args.way r c.args.s found.conn found.is may in
    changed_stands v w r c.args.s k new (λ q. record q { route = record q.route { up = true }; end = settle r.terms.depth (comes_up q.route.link q.end) }) all (record { terms = refl; tokens = refl; spare = refl; by_socket = refl }) is c.rise.ensures.same.terms.size found
    (risen_stands k new found.conn r.terms.depth c.rise.ensures.same found.stands
    (c.rise.ensures.end h found.stands.end (subst (λ l. c.args.way.live ≡ may_post (comes_up l h)) on live))
    (filed.made.depth ∙ ap (λ (t : Terms). t.depth) all.terms)))

pub returns-clause-posts : goal.returns-clause-posts
returns-clause-posts c = λ r.
    let x = c.self.inside in
    let terms : Terms = made_with x.size x.depth x.number in
    let v : Records Kept = records_of terms x.records x.by_token.items x.idle.items in
    let k : Connection Kept = conn_of c.get_mut.result.now in
    let is : conn_at c.args.s v ≡ Some k = c.get_mut.ensures.value in
    let filed : IsFiled terms x.by_token.items x.by_peer.items c.args.s k = subst (IsFiledAt terms x.by_token.items x.by_peer.items c.args.s) is (c.self.invariant.each c.args.s) in
    let new : Connection Kept = conn_of c.rise.new.self in
    let w : Records Kept = records_of terms (with_slot c.args.s (Some new) x.records) x.by_token.items x.idle.items in
    let on : link_at c.args.s v ≡ k.route.link = ap (λ (o : Option (Connection Kept)). unwrap_or (option_map (λ q. q.route.link) o) no_link) is in
    let after : List Post = c.rise.new.posts.items in
    let before : List Post = c.args.posts.now.items in
    subst (λ (u : Records Kept). AllStand u r → IsWay (comes_up (link_at c.args.s u)) c.args.way (conn_at c.args.s r) → after ≡ before ++ posts_at c.args.s (comes_up (link_at c.args.s u)) c.args.way r (conn_at c.args.s r)) c.self.view_is
    (λ all may.
    let found : IsFound r c.args.s k = finds_plain v r c.args.s k all is in
    let h : Half = found.conn.end in
    let live : c.args.way.live ≡ may_post (comes_up (link_at c.args.s v) h) = is_way (comes_up (link_at c.args.s v)) c.args.way r c.args.s found.conn found.is may in
    posted v r c.args.s k (comes_up (link_at c.args.s v)) c.args.way before after all filed.made found
    (subst (λ l. c.args.way.live ≡ may_post (comes_up l h) → after ≡ before ++ due_posts k.end.size k.end.course.depth c.args.way.side c.args.way.key k.route.peer (comes_up l h)) (sym on) (c.rise.ensures.posts h found.stands.end) live))
