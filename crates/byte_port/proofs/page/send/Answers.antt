use Rattle.std.proofs.Common.{arith, subst, ◌≡◌, List, ℕ, Ok}
use Rattle.std.proofs.lemmas.List.{take_rest}
use Rattle.byte_port.specs.Causes.{TakesIn}
use Rattle.byte_port.specs.declared.Failed.{Failed}
use Rattle.byte_port.proofs.Paging.{sent}
use Rattle.byte_port.proofs.page.send.Goals as goal

pub loop-gone-preserved : goal.loop-gone-preserved
loop-gone-preserved g c =
    record {
      within = grind arith;
      kept = sent _ _ _ _ c.args.bytes.now _ c.loop-gone.gone c.in_ok-count.count c.loop-gone.invariant.kept (subst (λ piece. TakesIn {E = Failed} (g.K.Sink.held c.loop-gone.sink) (g.K.Sink.held c.write.new.self) (Ok c.in_ok-count.count) piece) (take_rest c.args.bytes.now c.loop-gone.gone) c.in_ok-count.ensures.bytes);
      later = omega (arith, c.loop-gone.invariant.later, c.in_ok-count.ensures.cause.later);
    }
