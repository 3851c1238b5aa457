use Rattle.std.proofs.Common.{◌∙◌, [], take, ap, map}
use Rattle.smc_num.specs.declared.LinkId.{LinkId}
use Rattle.failover.specs.Tables.{Links}
use Rattle.failover.proofs.Shown.{none_known}
use Rattle.failover.proofs.LinkTable.clear.Goals as goal

pub returns : goal.returns
returns c =
    let t = c.self.inside in
    ap (λ ks. let v : Links = record { slots = t.slots; known = ks; made = map (λ (l : LinkId). l.incarnation) (take t.slots t.latest) } in v) (none_known 8 t.slots (take t.slots t.latest))
    ∙ ap (λ (v : Links). let w : Links = record v { known = [] } in w) c.self.view_is
