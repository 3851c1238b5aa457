use Rattle.std.proofs.Common.{◌∙◌, ◌+◌, ap}
use Rattle.world_core.specs.Hosts.{wire_at}
use Rattle.world_core.proofs.Sends.{sends_at}
use Rattle.world_core.proofs.host.Host.send.Goals as goal

pub loop-post-preserved : goal.loop-post-preserved
loop-post-preserved c =
    let l = c.loop-post in
    record {
      entry = l.invariant.entry;
      number = ap (λ n. n + 1) l.invariant.number;
      core = c.send_one.ensures.core ∙ l.invariant.core;
      sends = sends_at c.args.entry c.args.self.now.core c.args.posts.now (wire_at 1 c.args.self.now) c.args.self.now.flows.items l.post-index _ c.loop-post-test.true (wire_at 1 l.self) l.self.flows.items l.invariant.sends
          l.place l.invariant.entry l.invariant.number l.self.core l.invariant.core (wire_at 1 c.send_one.new.self) c.send_one.new.self.flows.items c.send_one.ensures.wire c.send_one.ensures.flows c.send_one.ensures.room;
    }
