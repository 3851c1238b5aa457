use Rattle.std.proofs.Common.{◌++◌, ◌∙◌, refl, sym, subst, ap, map, List}
use Rattle.conn_end.specs.Kept.{Kept}
use Rattle.side_core.specs.Records.{conn_at}
use Rattle.side_core.specs.Fit.{IsManager}
use Rattle.side_core.specs.Manager.{Manager, Represents, hand_of}
use Rattle.pipe_model.specs.declared.post.Post.{Post}
use Rattle.side_core.specs.Acting.{IsSoundAt, MayConfirm}
use Rattle.side_core.proofs.Managers.{heard_by, confirmed_posts, confirmed_kept, confirmed_all, confirming_works, may_rise}
use Rattle.side_core.proofs.side.SideCore.land_llc.Goals as goal

pub confirmed-requires-clause-first : goal.confirmed-requires-clause-first
confirmed-requires-clause-first c =
    let x = c.self.inside in
    let v : Manager Kept = record { desk = x.desk; hands = map hand_of x.hands.items; records = x.connections; regions = x.regions.items } in
    let i : IsManager v = c.self.invariant in
    let may : MayConfirm c.args.message.now c.args.view.now c.args.link v = subst (λ (u : Manager Kept). MayConfirm c.args.message.now c.args.view.now c.args.link u) (sym c.self.view_is) c.requires.may in
    may_rise c.args.message.now c.args.view.now c.args.link v c.land-step.new.self c.land-step.result i may c.land-step.ensures.step c.land-step.ensures.desk (subst (λ (u : Manager Kept). IsSoundAt u.records.terms.size (conn_at u.desk.first u.records)) (sym c.self.view_is) c.requires.sound)

pub invariant_of-self : goal.invariant_of-self
invariant_of-self c =
    let x = c.self.inside in
    let v : Manager Kept = record { desk = x.desk; hands = map hand_of x.hands.items; records = x.connections; regions = x.regions.items } in
    let w : Manager Kept = record { desk = c.land-step.new.self; hands = map hand_of c.confirmed.new.hands.items; records = c.confirmed.new.connections; regions = x.regions.items } in
    let i : IsManager v = c.self.invariant in
    let may : MayConfirm c.args.message.now c.args.view.now c.args.link v = subst (λ (u : Manager Kept). MayConfirm c.args.message.now c.args.view.now c.args.link u) (sym c.self.view_is) c.requires.may in
    confirmed_kept c.args.message.now c.args.view.now c.args.link v w c.land-step.result i may c.land-step.ensures.step c.land-step.ensures.desk c.confirmed.ensures.works c.confirmed.ensures.hands refl

pub returns-clause-side : goal.returns-clause-side
returns-clause-side c = λ m stands.
    let x = c.self.inside in
    let v : Manager Kept = record { desk = x.desk; hands = map hand_of x.hands.items; records = x.connections; regions = x.regions.items } in
    let w : Manager Kept = record { desk = c.land-step.new.self; hands = map hand_of c.confirmed.new.hands.items; records = c.confirmed.new.connections; regions = x.regions.items } in
    let i : IsManager v = c.self.invariant in
    let may : MayConfirm c.args.message.now c.args.view.now c.args.link v = subst (λ (u : Manager Kept). MayConfirm c.args.message.now c.args.view.now c.args.link u) (sym c.self.view_is) c.requires.may in
    confirmed_all c.args.message.now c.args.view.now c.args.link v w c.land-step.result i may c.land-step.ensures.step c.land-step.ensures.desk c.confirmed.ensures.works c.confirmed.ensures.hands refl m (subst (λ (u : Manager Kept). Represents u m) (sym c.self.view_is) stands)

pub returns-clause-posts : goal.returns-clause-posts
returns-clause-posts c = λ m stands.
    let x = c.self.inside in
    let v : Manager Kept = record { desk = x.desk; hands = map hand_of x.hands.items; records = x.connections; regions = x.regions.items } in
    let i : IsManager v = c.self.invariant in
    let here : Represents v m = subst (λ (u : Manager Kept). Represents u m) (sym c.self.view_is) stands in
    let may : MayConfirm c.args.message.now c.args.view.now c.args.link v = subst (λ (u : Manager Kept). MayConfirm c.args.message.now c.args.view.now c.args.link u) (sym c.self.view_is) c.requires.may in
    c.confirmed.ensures.posts (heard_by c.land-step.result c.args.link m) (confirming_works c.args.message.now c.args.view.now c.args.link v c.land-step.new.self m c.land-step.result i may c.land-step.ensures.step c.land-step.ensures.desk here)
    ∙ ap (λ (ps : List Post). c.args.posts.now.items ++ ps) (confirmed_posts c.land-step.result c.args.link m)
