use Rattle.std.proofs.Common.{refl, true≢false, ◌∙◌, sym, subst, ap, IsSome, map}
use Rattle.conn_end.specs.Kept.{Kept}
use Rattle.pipe_model.specs.Calls.{Call}
use Rattle.side_core.specs.declared.change.Change.{Change}
use Rattle.side_core.specs.declared.change.Change.TheVariants.{End}
use Rattle.side_core.specs.Changes.{named}
use Rattle.side_core.specs.Records.{conn_at}
use Rattle.side_core.specs.Acting.{call_of, acts_at}
use Rattle.side_core.specs.Fit.{IsManager}
use Rattle.side_core.specs.Manager.{Manager, Represents, hand_of, state_at}
use Rattle.side_core.proofs.Sockets.{acts_fit}
use Rattle.side_core.proofs.Ends.{IsWayOf, called, called_posts, may_come, ends_leave, end_told}
use Rattle.side_core.proofs.Managers.{up_has}
use Rattle.side_core.proofs.side.SideCore.call.Goals as goal

pub invariant_of-self : goal.invariant_of-self
invariant_of-self c =
    let x = c.self.inside in
    let v : Manager Kept = record { desk = x.desk; hands = map hand_of x.hands.items; records = x.connections; regions = x.regions.items } in
    let i : IsManager v = c.self.invariant in
    let change : Change = End c.args.call in
    let call : Call = named c.args.call in
    let way_is : IsWayOf c.args.s c.way-way.result v = subst (λ (u : Manager Kept). IsWayOf c.args.s c.way-way.result u) (sym c.self.view_is) c.way-way.ensures in
    let there : IsSome (conn_at c.args.s v.records) = up_has c.args.s v i (ap (state_at c.args.s) c.self.view_is ∙ c.requires.up) in
    record {
      plain = acts_at c.args.s (call_of call i.plain) i.plain;
      stands = called c.args.s call change c.way-way.result v c.change.new.self i.plain (ends_leave c.args.call) (λ k d stands. record { stands = stands.end; is = refl }) there way_is c.change.ensures.end i.stands;
      fit = acts_fit c.args.s (call_of call i.plain) i.plain i.fit;
    }

pub returns-clause-told : goal.returns-clause-told
returns-clause-told c = λ m stands.
    let x = c.self.inside in
    let v : Manager Kept = record { desk = x.desk; hands = map hand_of x.hands.items; records = x.connections; regions = x.regions.items } in
    let here : Represents v m = subst (λ (u : Manager Kept). Represents u m) (sym c.self.view_is) stands in
    end_told c.args.s c.args.call v m c.change.result c.reply_of.result here (c.change.ensures.told m.records here.works.records) c.reply_of.ensures

pub returns-clause-side : goal.returns-clause-side
returns-clause-side c = λ m stands.
    let x = c.self.inside in
    let v : Manager Kept = record { desk = x.desk; hands = map hand_of x.hands.items; records = x.connections; regions = x.regions.items } in
    let i : IsManager v = c.self.invariant in
    let change : Change = End c.args.call in
    let call : Call = named c.args.call in
    let way_is : IsWayOf c.args.s c.way-way.result v = subst (λ (u : Manager Kept). IsWayOf c.args.s c.way-way.result u) (sym c.self.view_is) c.way-way.ensures in
    let there : IsSome (conn_at c.args.s v.records) = up_has c.args.s v i (ap (state_at c.args.s) c.self.view_is ∙ c.requires.up) in
    called c.args.s call change c.way-way.result v c.change.new.self m (ends_leave c.args.call) (λ k d stands. record { stands = stands.end; is = refl }) there way_is c.change.ensures.end (subst (λ (u : Manager Kept). Represents u m) (sym c.self.view_is) stands)

pub returns-clause-posts : goal.returns-clause-posts
returns-clause-posts c = λ m stands.
    let x = c.self.inside in
    let v : Manager Kept = record { desk = x.desk; hands = map hand_of x.hands.items; records = x.connections; regions = x.regions.items } in
    let change : Change = End c.args.call in
    let i : IsManager v = c.self.invariant in
    let call : Call = named c.args.call in
    let way_is : IsWayOf c.args.s c.way-way.result v = subst (λ (u : Manager Kept). IsWayOf c.args.s c.way-way.result u) (sym c.self.view_is) c.way-way.ensures in
    let there : IsSome (conn_at c.args.s v.records) = up_has c.args.s v i (ap (state_at c.args.s) c.self.view_is ∙ c.requires.up) in
    called_posts c.args.s call change c.way-way.result v m c.args.posts.now.items c.change.new.posts.items (ends_leave c.args.call) (λ k d stands. record { stands = stands.end; is = refl }) there way_is c.change.ensures.posts (subst (λ (u : Manager Kept). Represents u m) (sym c.self.view_is) stands)

pub change-requires-clause-may : goal.change-requires-clause-may
change-requires-clause-may c =
    let x = c.self.inside in
    let v : Manager Kept = record { desk = x.desk; hands = map hand_of x.hands.items; records = x.connections; regions = x.regions.items } in
    let there : IsSome (conn_at c.args.s v.records) = up_has c.args.s v c.self.invariant (ap (state_at c.args.s) c.self.view_is ∙ c.requires.up) in
    let change : Change = End c.args.call in
    may_come change IsSome (λ is. true≢false (sym is)) (λ k is. tt) (conn_at c.args.s v.records) there
