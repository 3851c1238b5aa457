use Rattle.std.proofs.Common.{subst, sym}
use Rattle.byte_port.specs.Causes.{IsReading}
use Rattle.byte_port.proofs.Growing.{reading-more, reading-rest}
use Rattle.byte_port.proofs.read_input.Goals as goal

pub returns-then-len-limit-clause-taken : goal.returns-then-len-limit-clause-taken
returns-then-len-limit-clause-taken g c = λ _.
    reading-rest _ _ _ (subst (IsReading (g.S.Source.left c.args.source.now) (g.S.Source.left c.read.new.self)) (sym c.in_ok-append.ensures.all)
    (reading-more _ _ _ _ c.loop.input.items c.read.new.out _ c.loop.invariant.reading c.in-Ok.ensures.bytes))
