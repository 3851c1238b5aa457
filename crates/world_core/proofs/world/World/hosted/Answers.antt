-- A new world stands for an empty history.
use Rattle.std.proofs.Common.{refl}
use Rattle.smc_num.specs.declared.Side.TheVariants.{A, B}
use Rattle.world_core.specs.Steps.{Seen, fresh_world}
use Rattle.world_core.proofs.GoodSettings.{good}
use Rattle.world_core.proofs.FreshHosts.{fresh-host, fresh-world}
use Rattle.world_core.proofs.WorldAfter.{world-of-parts}
use Rattle.world_core.proofs.world.World.hosted.Goals as goal

pub new-requires : goal.new-requires
new-requires c = (good c.args.setup.now c.args.room c.requires.good).set A

pub invariant_of-result : goal.invariant_of-result
invariant_of-result c =
    let w : Seen = fresh_world c.args.setup.now c.args.payload.items c.args.room in
    let one = (good c.args.setup.now c.args.room c.requires.good).one in
    let a = fresh-host c.args.setup.now c.args.payload.items one A c.in_ok-a.a c.in_ok-a.ensures.core c.in_ok-a.ensures.wires c.in_ok-a.ensures.flows in
    let b = fresh-host c.args.setup.now c.args.payload.items one B c.in_ok-b.b c.in_ok-b.ensures.core c.in_ok-b.ensures.wires c.in_ok-b.ensures.flows in
    let h = c.requires.history in
    let r = c.requires.heard in
    let o = c.requires.opened in
    world-of-parts w _ _ w _ _ _ _ _ _ _ _ h.0 r.0 o.0 refl refl refl (fresh-world c.args.setup.now c.args.payload.items c.args.room _ _ _ c.in_ok-paths.ensures _ _ _ c.requires.good c.requires.payload a b h.1 r.1 o.1)
