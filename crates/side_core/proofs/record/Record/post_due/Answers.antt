use Rattle.std.proofs.Common.{◌∙◌, ◌&&◌, not, ℕ, Option, ◌++◌, List, sym, ap, subst}
use Rattle.std.proofs.lemmas.List.{append-nil}
use Rattle.clc_wire.specs.declared.offer.Offer.{Offer}
use Rattle.pipe_model.specs.declared.post.Post.{Post}
use Rattle.side_core.specs.Inside.{IsAimed, IsOffered}
use Rattle.side_core.specs.Posting.{due_posts, posts_of_batch}
use Rattle.pipe_model.specs.Ends.{Half, settle}
use Rattle.conn_end.specs.Kept.{Kept}
use Rattle.conn_end.proofs.Owners.{with_zeros, stands_for_zeros}
use Rattle.side_core.specs.Slots.{conn_of}
use Rattle.side_core.proofs.Ends.{set_after, may_post_so, may_post_is, nothing_due, no_peer, posts_due}
use Rattle.side_core.proofs.record.Record.post_due.Goals as goal

pub returns-in_default-clause-posts : goal.returns-in_default-clause-posts
returns-in_default-clause-posts c = λ h stands on.
    let k = c.args.self.now.end in
    let w = c.args.way in
    sym (ap (λ (ps : List Post). c.args.posts.now.items ++ ps)
    (nothing_due k.size w.side w.key c.args.self.now.route.peer k h c.requires.set.owes (sym c.in_default.is ∙ c.next_batch.ensures.batch h stands on.live))
    ∙ append-nil c.args.posts.now.items)

pub returns-in_default-peer-clause-posts : goal.returns-in_default-peer-clause-posts
returns-in_default-peer-clause-posts c = λ h stands on.
    let k = c.args.self.now.end in
    let w = c.args.way in
    sym (ap (λ (ps : List Post). c.args.posts.now.items ++ ps)
    (no_peer k.size k.course.depth w.side w.key c.args.self.now.route.peer h c.in_default-peer.is)
    ∙ append-nil c.args.posts.now.items)

pub returns-clause-posts : goal.returns-clause-posts
returns-clause-posts c = λ h stands on.
    let k = c.args.self.now.end in
    let w = c.args.way in
    let o = c.in-Some-peer.offer in
    let aimed : IsOffered k.token o = subst (IsAimed k.token) c.in-Some-peer.is c.requires.set.aimed in
    let due = posts_due k h c.in-Some.batch o w c.args.self.now.route.link c.requires.set.owes (sym c.in-Some.is ∙ c.next_batch.ensures.batch h stands on.live) stands aimed.token on.link in
    let before = c.args.posts.now.items in
    c.push_batch.ensures
    ∙ ap (λ (n : ℕ). before ++ posts_of_batch n w c.args.self.now.route.link o c.in-Some.batch) c.requires.size
    ∙ ap (λ (ps : List Post). before ++ ps) due
    ∙ ap (λ (p : Option Offer). before ++ due_posts k.size k.course.depth w.side w.key p h) (sym c.in-Some-peer.is)

pub returns-in_default-clause-set : goal.returns-in_default-clause-set
returns-in_default-clause-set c =
    let k : Kept = c.args.self.now.end in
    let h : Half = may_post_so c.args.way.live (with_zeros k) in
    set_after (conn_of c.args.self.now) c.next_batch.new.self (settle k.course.depth h) c.requires.set c.next_batch.ensures.terms (c.next_batch.ensures.owes ∙ ap (λ b. b && not c.args.way.live) c.requires.set.owes ∙ sym c.requires.set.owes) (c.next_batch.ensures.end h (stands_for_zeros k c.requires.set.kept) (may_post_is c.args.way.live (with_zeros k)))

pub returns-in_default-peer-clause-set : goal.returns-in_default-peer-clause-set
returns-in_default-peer-clause-set c =
    let k : Kept = c.args.self.now.end in
    let h : Half = may_post_so c.args.way.live (with_zeros k) in
    set_after (conn_of c.args.self.now) c.next_batch.new.self (settle k.course.depth h) c.requires.set c.next_batch.ensures.terms (c.next_batch.ensures.owes ∙ ap (λ b. b && not c.args.way.live) c.requires.set.owes ∙ sym c.requires.set.owes) (c.next_batch.ensures.end h (stands_for_zeros k c.requires.set.kept) (may_post_is c.args.way.live (with_zeros k)))

pub returns-clause-set : goal.returns-clause-set
returns-clause-set c =
    let k : Kept = c.args.self.now.end in
    let h : Half = may_post_so c.args.way.live (with_zeros k) in
    set_after (conn_of c.args.self.now) c.next_batch.new.self (settle k.course.depth h) c.requires.set c.next_batch.ensures.terms (c.next_batch.ensures.owes ∙ ap (λ b. b && not c.args.way.live) c.requires.set.owes ∙ sym c.requires.set.owes) (c.next_batch.ensures.end h (stands_for_zeros k c.requires.set.kept) (may_post_is c.args.way.live (with_zeros k)))
