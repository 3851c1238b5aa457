use Rattle.std.proofs.Common.{refl, true≢false, ◌∙◌, sym, subst, ap, IsSome, List, map, length}
use Rattle.conn_end.specs.Kept.{Kept}
use Rattle.pipe_model.specs.Calls.{Call, Reads}
use Rattle.side_core.specs.declared.change.Change.{Change}
use Rattle.side_core.specs.declared.change.Change.TheVariants.{Read}
use Rattle.side_core.specs.Records.{conn_at}
use Rattle.side_core.specs.Acting.{call_of, acts_at}
use Rattle.side_core.specs.Fit.{IsManager}
use Rattle.side_core.specs.Manager.{Manager, Represents, hand_of, state_at}
use Rattle.side_core.proofs.Sockets.{acts_fit}
use Rattle.side_core.proofs.Ends.{IsWayOf, called, called_posts, may_come, reads_leave}
use Rattle.side_core.proofs.Managers.{up_has, handable}
use Rattle.std.proofs.Common.{refl, true≢false, Option}
use Rattle.side_core.specs.declared.route.Route.{Route}
use Rattle.side_core.specs.Records.{route_at}
use Rattle.side_core.specs.Acting.{IsSoundAt, MayHand}
use Rattle.rmb_region.specs.Regions.{Buffer}
use Rattle.side_core.proofs.side.SideCore.read.Goals as goal

pub invariant_of-self : goal.invariant_of-self
invariant_of-self c =
    let x = c.self.inside in
    let v : Manager Kept = record { desk = x.desk; hands = map hand_of x.hands.items; records = x.connections; regions = x.regions.items } in
    let i : IsManager v = c.self.invariant in
    let change : Change = Read (length c.args.out.now) in
    let call : Call = Reads (length c.args.out.now) in
    let way_is : IsWayOf c.args.s c.way-way.result v = subst (λ (u : Manager Kept). IsWayOf c.args.s c.way-way.result u) (sym c.self.view_is) c.way-way.ensures in
    let there : IsSome (conn_at c.args.s v.records) = up_has c.args.s v i (ap (state_at c.args.s) c.self.view_is ∙ c.requires.up) in
    record {
      plain = acts_at c.args.s (call_of call i.plain) i.plain;
      stands = called c.args.s call change c.way-way.result v c.change-reply.new.self i.plain (reads_leave (length c.args.out.now)) (λ k d stands. record { stands = stands.end; is = refl }) there way_is c.change-reply.ensures.end i.stands;
      fit = acts_fit c.args.s (call_of call i.plain) i.plain i.fit;
    }

pub returns-clause-side : goal.returns-clause-side
returns-clause-side c = λ m stands.
    let x = c.self.inside in
    let v : Manager Kept = record { desk = x.desk; hands = map hand_of x.hands.items; records = x.connections; regions = x.regions.items } in
    let i : IsManager v = c.self.invariant in
    let change : Change = Read (length c.args.out.now) in
    let call : Call = Reads (length c.args.out.now) in
    let way_is : IsWayOf c.args.s c.way-way.result v = subst (λ (u : Manager Kept). IsWayOf c.args.s c.way-way.result u) (sym c.self.view_is) c.way-way.ensures in
    let there : IsSome (conn_at c.args.s v.records) = up_has c.args.s v i (ap (state_at c.args.s) c.self.view_is ∙ c.requires.up) in
    called c.args.s call change c.way-way.result v c.change-reply.new.self m (reads_leave (length c.args.out.now)) (λ k d stands. record { stands = stands.end; is = refl }) there way_is c.change-reply.ensures.end (subst (λ (u : Manager Kept). Represents u m) (sym c.self.view_is) stands)

pub returns-clause-posts : goal.returns-clause-posts
returns-clause-posts c = λ m stands.
    let x = c.self.inside in
    let v : Manager Kept = record { desk = x.desk; hands = map hand_of x.hands.items; records = x.connections; regions = x.regions.items } in
    let change : Change = Read (length c.args.out.now) in
    let i : IsManager v = c.self.invariant in
    let call : Call = Reads (length c.args.out.now) in
    let way_is : IsWayOf c.args.s c.way-way.result v = subst (λ (u : Manager Kept). IsWayOf c.args.s c.way-way.result u) (sym c.self.view_is) c.way-way.ensures in
    let there : IsSome (conn_at c.args.s v.records) = up_has c.args.s v i (ap (state_at c.args.s) c.self.view_is ∙ c.requires.up) in
    called_posts c.args.s call change c.way-way.result v m c.args.posts.now.items c.change-reply.new.posts.items (reads_leave (length c.args.out.now)) (λ k d stands. record { stands = stands.end; is = refl }) there way_is c.change-reply.ensures.posts (subst (λ (u : Manager Kept). Represents u m) (sym c.self.view_is) stands)

pub hand_out-requires : goal.hand_out-requires
hand_out-requires c =
    let x = c.self.inside in
    let v : Manager Kept = record { desk = x.desk; hands = map hand_of x.hands.items; records = x.connections; regions = x.regions.items } in
    let i : IsManager v = c.self.invariant in
    let reply = c.change-reply.result in
    let sound : IsSoundAt v.records.terms.size (conn_at c.args.s v.records) = subst (λ (u : Manager Kept). IsSoundAt u.records.terms.size (conn_at c.args.s u.records)) (sym c.self.view_is) c.requires.sound in
    let here : MayHand reply (route_at c.args.s v.records) v.regions (length c.args.out.now) = handable c.args.s (length c.args.out.now) v reply i sound (c.change-reply.ensures.told i.plain.records i.stands.works.records) in
    subst (λ (bs : List Buffer). MayHand reply c.route-route.result bs (length c.args.out.now)) (sym c.deref.ensures.value)
    (subst (λ (o : Option Route). MayHand reply o v.regions (length c.args.out.now)) (sym c.route-route.ensures) here)

pub change-reply-requires-clause-may : goal.change-reply-requires-clause-may
change-reply-requires-clause-may c =
    let x = c.self.inside in
    let v : Manager Kept = record { desk = x.desk; hands = map hand_of x.hands.items; records = x.connections; regions = x.regions.items } in
    let there : IsSome (conn_at c.args.s v.records) = up_has c.args.s v c.self.invariant (ap (state_at c.args.s) c.self.view_is ∙ c.requires.up) in
    let change : Change = Read (length c.args.out.now) in
    may_come change IsSome (λ is. true≢false (sym is)) (λ k is. tt) (conn_at c.args.s v.records) there
