-- When a member is ready.
use Rattle.std.specs.Prelude.{Bool, ◌&&◌, ◌||◌, not, nat_lt}
use Rattle.alert_board.specs.declared.flags.Alert.{Alert}
use Rattle.alert_board.specs.declared.flags.News.{News}
use Rattle.wait_set.specs.declared.member.Waiting.{Waiting}

-- a flag of the mask is set
abbrev pub wants : Alert → Alert → Bool
wants mask flags = mask.readable && flags.readable || mask.done && flags.done || mask.closed && flags.closed || mask.reset && flags.reset

-- a flag of the mask is set and, for an edge member, the number is above the one last picked
abbrev pub is_ready : Waiting → News → Bool
is_ready w news = wants w.member.mask news.flags && (not w.member.edge || nat_lt w.picked news.number)
