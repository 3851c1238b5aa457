use Rattle.std.proofs.Common.{◌+◌, false, sym, ◌∙◌, ap}
use Rattle.side_core.specs.Desk.{lends_next}
use Rattle.smc_num.specs.Links.{live_links}
use Rattle.side_core.specs.Taking.{links_in_use}
use Rattle.pipe_model.specs.Posts.{lightest}
use Rattle.side_core.specs.Desk.{new_offer}
use Rattle.side_core.proofs.Elements.{one_live, accept_post}
use Rattle.side_core.proofs.taking.accept_later.Goals as goal

-- src/taking.rt:133:1
pub returns-clause-posts : goal.returns-clause-posts
returns-clause-posts c = λ m paths works. let same = one_live c.args.desk.now.links.known (links_in_use m.records) c.in-Some.link c.requires.slot c.requires.live (sym c.lowest_link.ensures ∙ c.in-Some.is) ∙ ap (λ d. lightest (links_in_use m.records) (live_links d.links.known)) works.desk in accept_post c.args.posts.now.items c.push_clc.new.posts.items c.args.s c.start.new.desk.side c.offer-offer.result false c.in-Some.link (lightest (links_in_use m.records) (live_links m.desk.links.known)) m c.push_clc.ensures (ap (λ d. d.side) (c.start.ensures.desk ∙ ap (lends_next c.args.s) works.desk)) same (c.offer-offer.ensures ∙ ap (λ n. new_offer false c.in-Some.link (n + 1) c.args.desk.now) (c.tokens.ensures ∙ works.records.tokens) ∙ ap (new_offer false c.in-Some.link (m.records.tokens + 1)) works.desk)
