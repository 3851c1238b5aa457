use Rattle.std.proofs.Common.{refl, ◌≡◌, ◌++◌, ◌∙◌, ℕ, sym, subst, map, List, Some}
use Rattle.conn_end.specs.Kept.{Kept}
use Rattle.pipe_model.specs.declared.post.Post.{Post}
use Rattle.pipe_model.specs.Ends.{takes}
use Rattle.side_core.specs.declared.change.Change.{Change}
use Rattle.side_core.specs.declared.change.Change.TheVariants.{Land}
use Rattle.side_core.specs.Records.{conn_at, holder}
use Rattle.side_core.specs.Comings.{ArrivesAt, MayArriveAt}
use Rattle.side_core.specs.Landing.{MayLandIn, LandsIn}
use Rattle.side_core.specs.Acting.{acts_at, due_at}
use Rattle.side_core.specs.Fit.{IsManager}
use Rattle.side_core.specs.Manager.{Manager, Represents, hand_of}
use Rattle.side_core.proofs.Sockets.{acts_fit, Comes, comes, comes_there, some_same}
use Rattle.side_core.proofs.Ends.{IsWayOf, acted, acted_posts, makes_at, may_come, takes_leave}
use Rattle.side_core.proofs.side.SideCore.land_cdc.Goals as goal

pub invariant_of-self : goal.invariant_of-self
invariant_of-self c =
    let x = c.self.inside in
    let v : Manager Kept = record { desk = x.desk; hands = map hand_of x.hands.items; records = x.connections; regions = x.regions.items } in
    let s : ℕ = c.in-Some.s in
    let change : Change = Land c.args.message c.args.plain in
    let found : holder c.args.message.now.token v.records ≡ Some s = sym c.holder.ensures ∙ c.in-Some.is in
    let may : MayLandIn c.args.message.now c.args.plain.now v = subst (λ (u : Manager Kept). MayLandIn c.args.message.now c.args.plain.now u) (sym c.self.view_is) c.requires.may in
    let way_is : IsWayOf s c.way-way.result v = subst (λ (u : Manager Kept). IsWayOf s c.way-way.result u) (sym c.self.view_is) c.way-way.ensures in
    let i : IsManager v = c.self.invariant in
    let one : Comes c.args.message.now c.args.plain.now (conn_at s v.records) (conn_at s i.plain.records) = comes c.args.message.now c.args.plain.now (conn_at s v.records) (conn_at s i.plain.records) (i.stands.works.records.each s) (may.taker s found) in
    record {
      plain = acts_at s (takes (Some one.sent)) i.plain;
      stands = acted s (takes (Some one.sent)) c.way-way.result v c.change.new.self i.plain (takes_leave one.sent) (comes_there c.args.message.now c.args.plain.now (conn_at s v.records) (may.taker s found)) way_is
          (c.change.ensures.end i.plain.records (takes (Some one.sent)) i.stands.works.records
          (makes_at v.records.terms.size change (takes (Some one.sent)) (ArrivesAt c.args.message.now c.args.plain.now one.sent) (λ p no. no) (λ k no. no) (λ k d is. record { sent = one.sent; comes = is; is = refl }) (conn_at s v.records) (conn_at s i.plain.records) one.arrives)) i.stands;
      fit = acts_fit s (takes (Some one.sent)) i.plain i.fit;
    }

pub returns-clause-side : goal.returns-clause-side
returns-clause-side c = λ m t sent stands arrives.
    let x = c.self.inside in
    let v : Manager Kept = record { desk = x.desk; hands = map hand_of x.hands.items; records = x.connections; regions = x.regions.items } in
    let s : ℕ = c.in-Some.s in
    let change : Change = Land c.args.message c.args.plain in
    let found : holder c.args.message.now.token v.records ≡ Some s = sym c.holder.ensures ∙ c.in-Some.is in
    let may : MayLandIn c.args.message.now c.args.plain.now v = subst (λ (u : Manager Kept). MayLandIn c.args.message.now c.args.plain.now u) (sym c.self.view_is) c.requires.may in
    let way_is : IsWayOf s c.way-way.result v = subst (λ (u : Manager Kept). IsWayOf s c.way-way.result u) (sym c.self.view_is) c.way-way.ensures in
    let here : Represents v m = subst (λ (u : Manager Kept). Represents u m) (sym c.self.view_is) stands in
    let in_v : LandsIn t c.args.message.now c.args.plain.now sent v m = subst (λ (u : Manager Kept). LandsIn t c.args.message.now c.args.plain.now sent u m) (sym c.self.view_is) arrives in
    let same : s ≡ t = some_same s t (sym found ∙ in_v.held) in
    let at_s : ArrivesAt c.args.message.now c.args.plain.now sent (conn_at s v.records) (conn_at s m.records) = subst (λ (k : ℕ). ArrivesAt c.args.message.now c.args.plain.now sent (conn_at k v.records) (conn_at k m.records)) (sym same) in_v.lands in
    let new : Manager Kept = record v { records = c.change.new.self } in
    subst (λ (k : ℕ). Represents new (acts_at k (takes (Some sent)) m)) same
    (acted s (takes (Some sent)) c.way-way.result v c.change.new.self m (takes_leave sent) (comes_there c.args.message.now c.args.plain.now (conn_at s v.records) (may.taker s found)) way_is
    (c.change.ensures.end m.records (takes (Some sent)) here.works.records
    (makes_at v.records.terms.size change (takes (Some sent)) (ArrivesAt c.args.message.now c.args.plain.now sent) (λ p no. no) (λ k no. no) (λ k d is. record { sent = sent; comes = is; is = refl }) (conn_at s v.records) (conn_at s m.records) at_s)) here)

pub returns-clause-posts : goal.returns-clause-posts
returns-clause-posts c = λ m t sent stands arrives.
    let x = c.self.inside in
    let v : Manager Kept = record { desk = x.desk; hands = map hand_of x.hands.items; records = x.connections; regions = x.regions.items } in
    let s : ℕ = c.in-Some.s in
    let change : Change = Land c.args.message c.args.plain in
    let found : holder c.args.message.now.token v.records ≡ Some s = sym c.holder.ensures ∙ c.in-Some.is in
    let may : MayLandIn c.args.message.now c.args.plain.now v = subst (λ (u : Manager Kept). MayLandIn c.args.message.now c.args.plain.now u) (sym c.self.view_is) c.requires.may in
    let way_is : IsWayOf s c.way-way.result v = subst (λ (u : Manager Kept). IsWayOf s c.way-way.result u) (sym c.self.view_is) c.way-way.ensures in
    let here : Represents v m = subst (λ (u : Manager Kept). Represents u m) (sym c.self.view_is) stands in
    let in_v : LandsIn t c.args.message.now c.args.plain.now sent v m = subst (λ (u : Manager Kept). LandsIn t c.args.message.now c.args.plain.now sent u m) (sym c.self.view_is) arrives in
    let same : s ≡ t = some_same s t (sym found ∙ in_v.held) in
    let at_s : ArrivesAt c.args.message.now c.args.plain.now sent (conn_at s v.records) (conn_at s m.records) = subst (λ (k : ℕ). ArrivesAt c.args.message.now c.args.plain.now sent (conn_at k v.records) (conn_at k m.records)) (sym same) in_v.lands in
    let before : List Post = c.args.posts.now.items in
    let after : List Post = c.change.new.posts.items in
    subst (λ (k : ℕ). after ≡ before ++ due_at k (takes (Some sent)) m) same
    (acted_posts s (takes (Some sent)) c.way-way.result v m before after (takes_leave sent) way_is (c.change.ensures.posts m.records (takes (Some sent)) here.works.records
    (makes_at v.records.terms.size change (takes (Some sent)) (ArrivesAt c.args.message.now c.args.plain.now sent) (λ p no. no) (λ k no. no) (λ k d is. record { sent = sent; comes = is; is = refl }) (conn_at s v.records) (conn_at s m.records) at_s)) here)

pub change-requires-clause-may : goal.change-requires-clause-may
change-requires-clause-may c =
    let x = c.self.inside in
    let v : Manager Kept = record { desk = x.desk; hands = map hand_of x.hands.items; records = x.connections; regions = x.regions.items } in
    let s : ℕ = c.in-Some.s in
    let change : Change = Land c.args.message c.args.plain in
    let found : holder c.args.message.now.token v.records ≡ Some s = sym c.holder.ensures ∙ c.in-Some.is in
    let may : MayLandIn c.args.message.now c.args.plain.now v = subst (λ (u : Manager Kept). MayLandIn c.args.message.now c.args.plain.now u) (sym c.self.view_is) c.requires.may in
    may_come change (MayArriveAt c.args.message.now c.args.plain.now) (λ no. no) (λ k is. is) (conn_at s v.records) (may.taker s found)
