use Rattle.std.proofs.Common.{◌≡◌, ◌+◌, drop}
use Rattle.world_core.specs.Hosts.{wire_at}
use Rattle.world_core.proofs.Sends.{Sends}
use Rattle.world_core.proofs.host.Host.send.Given as goal

-- what is left makes of what was sent so far what all posts make of what was there before
abbrev pub invariant-loop-post : goal.invariant-loop-post
invariant-loop-post l = record {
  entry : l.place.entry ≡ l.fn.entry;
  number : l.place.post ≡ l.post-index + 1;
  core : l.self.core ≡ l.fn.self.core;
  sends : Sends l.fn.entry l.fn.self.core l.posts (wire_at 1 l.fn.self) l.fn.self.flows.items (l.post-index + 1) (drop l.post-index l.posts) (wire_at 1 l.self) l.self.flows.items;
}
