use Rattle.std.proofs.Common.{ap, sym, ◌∙◌}
use Rattle.wait_set.specs.Waiting.{place_of}
use Rattle.wait_set.proofs.Passes.{Polls, asked_more, none_more, first_here}
use Rattle.wait_set.proofs.search.first_ready.Goals as goal

pub returns-then-is_ready-clause-found : goal.returns-then-is_ready-clause-found
returns-then-is_ready-clause-found c =
    let facts = c.poll-news.ensures in
    let poll : Polls (place_of c.args.members.now c.loop-at.at) c.poll-news.result c.loop-at.look c.poll-news.new.self = record { board = ap (λ l. l.board) facts.whole; seen = facts.seen; loaded = facts.loaded; others = facts.others; later = facts.later } in
    first_here c.args.members.now c.loop-at.at c.loop-at-test.true c.requires.rising c.poll-news.result c.args.look.now c.loop-at.look c.poll-news.new.self c.loop-at.invariant.asked poll c.loop-at.invariant.none_ready (sym c.is_ready.ensures ∙ c.if-is_ready.true)

pub loop-at-preserved : goal.loop-at-preserved
loop-at-preserved c =
    let facts = c.poll-news.ensures in
    let poll : Polls (place_of c.args.members.now c.loop-at.at) c.poll-news.result c.loop-at.look c.poll-news.new.self = record { board = ap (λ l. l.board) facts.whole; seen = facts.seen; loaded = facts.loaded; others = facts.others; later = facts.later } in record {
      asked = asked_more c.args.members.now c.loop-at.at c.loop-at-test.true c.requires.rising c.poll-news.result c.args.look.now c.loop-at.look c.poll-news.new.self c.loop-at.invariant.asked poll;
      none_ready = none_more c.args.members.now c.loop-at.at c.loop-at-test.true c.requires.rising c.poll-news.result c.args.look.now c.loop-at.look c.poll-news.new.self c.loop-at.invariant.asked poll c.loop-at.invariant.none_ready (sym c.is_ready.ensures ∙ c.if-is_ready.false);
    }
