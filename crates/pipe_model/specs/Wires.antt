-- The wires: the posts of each link and direction that have not landed, and those that have not completed.
-- A reader learns here what a cut and a report do to a link, and which post a delivery, a completion or a swallow is about.
use Rattle.std.specs.Prelude.{ℕ, ◌+◌, ◌/◌, ◌^◌, ◌==◌, ◌&&◌, ◌||◌, not, nat_lt, Bool, true, false, if◌then◌else◌, List, [], ◌∷◌, ◌++◌, take, drop, filter, Option, Some, None, option_and_then}
use Rattle.std.specs.List.{list_all}
use Rattle.smc_num.specs.declared.Side.{Side}
use Rattle.smc_num.specs.declared.Side.TheVariants.{A, B}
use Rattle.smc_num.specs.declared.LinkId.{LinkId}
use Rattle.smc_num.specs.declared.LinkPhase.TheVariants.{Pending, Live as LiveLink, Dead}
use Rattle.smc_num.specs.Names.{other, same_side, same_link, has_link, head}
use Rattle.smc_num.specs.Links.{Known, is_standing, phase_at, stands, link_at, link_or_none, unpending, lowest_live, put, set_phase, all_dead}
use Rattle.llc_wire.specs.declared.KeyToken.{KeyToken}
use Rattle.llc_wire.specs.declared.LlcMessage.{LlcMessage}
use Rattle.llc_wire.specs.declared.LlcMessage.TheVariants.{AddLink, ConfirmRkey}
use Rattle.clc_wire.specs.declared.message.ClcMessage.TheVariants.{Accept, Confirm}
use Rattle.pipe_model.specs.declared.flow.LinkView.{LinkView}
use Rattle.pipe_model.specs.declared.flow.FlowStep.{FlowStep}
use Rattle.pipe_model.specs.declared.flow.FlowStep.TheVariants.{Live, ReplyAdd, Gone}
use Rattle.pipe_model.specs.declared.reply.SentKind.TheVariants.{Accept as AcceptSent, Confirm as ConfirmSent, ConfirmRkey as KeySent, AddLink as AddLinkSent, TestLink as TestSent, DeleteRkey as DeleteSent}
use Rattle.pipe_model.specs.declared.event.Event.{Event}
use Rattle.pipe_model.specs.declared.event.Event.TheVariants.{Clc as ClcEvent, Deliver, Complete, Swallow, Cut, Heal, Report, Grow, Test, Trim}
use Rattle.pipe_model.specs.declared.reply.Reply.{Reply}
use Rattle.pipe_model.specs.declared.reply.Reply.TheVariants.{Done, Idle, Sent, Landed, Completed, Dropped, GroupEnded}
use Rattle.pipe_model.specs.declared.post.Post.{Post}
use Rattle.pipe_model.specs.declared.post.Post.TheVariants.{Llc, Clc}
use Rattle.pipe_model.specs.declared.post.Placed.{Placed}
use Rattle.pipe_model.specs.declared.entry.Entry.{Entry}
use Rattle.pipe_model.specs.Words.{is_nil, passes}
use Rattle.pipe_model.specs.History.{next_number, post_at, numbered, link_of_post, sender}
use Rattle.pipe_model.specs.Flows.{Flow, FirstContact, no_flow, flow_step, flow_after, named_slot, begins_add, begins_confirm, begins_delete, begins_test, begins_drop, lost}
use Rattle.pipe_model.specs.Fabric.{fabric, path_up, table_of, latest, is_latest}

-- whether an event cuts the path of a link that is the latest of its slot
-- ours: the fabric in memory
abbrev pub cuts : LinkId → Event → Reply → List Entry → Bool
cuts link (Cut k) Done past = (k == link.slot) && is_latest link past
cuts link _ _ past = false

-- whether a link is made with an entry while its path is down
-- ours: the fabric in memory
abbrev pub comes_cut : LinkId → Entry → List Entry → Bool
comes_cut link e past = (is_latest link (e ∷ past) && not (is_latest link past)) && not (path_up link.slot past)

-- whether a link was cut
-- ours: the fabric in memory
abbrev pub is_cut : LinkId → List Entry → Bool
is_cut link [] = false
is_cut link (e ∷ older) = (cuts link e.event e.reply older || comes_cut link e older) || is_cut link older

-- a side that knows a link no more, or holds it for dead, has reported it
-- ours: a side learns of a loss by its report alone
abbrev pub is_reported : Side → LinkId → List Entry → Bool
is_reported x link past = not (stands link (table_of x past))

-- whether some side has reported a link
-- ours: a side learns of a loss by its report alone
abbrev pub some_reported : LinkId → List Entry → Bool
some_reported link past = is_reported A link past || is_reported B link past

-- whether a link is dead: cut, or reported by some side
-- ours: a side learns of a loss by its report alone
abbrev pub is_dead : LinkId → List Entry → Bool
is_dead link past = is_cut link past || some_reported link past

-- whether a post goes on this wire
-- ours: the fabric in memory
abbrev pub is_on : LinkId → Side → Post → Bool
is_on link dir post = same_side dir (sender post) && passes (same_link link) (link_of_post post)

-- how many posts of a side leave the wire of a slot with an event, to land, to be dropped or to be swallowed
-- ours: the fabric in memory
abbrev pub leaves : Side → ℕ → Event → Reply → ℕ
leaves dir k (Deliver slot d) (Landed at) = if same_side dir d && (k == slot) then 1 else 0
leaves dir k (Deliver slot d) (Dropped token) = if same_side dir d && (k == slot) then 1 else 0
leaves dir k (Swallow slot d) (Completed at) = if same_side dir d && (k == slot) then 1 else 0
leaves dir k _ _ = 0

-- how many of them land, dropped ones included
-- ours: the fabric in memory
abbrev pub lands_on : Side → ℕ → Event → Reply → ℕ
lands_on dir k (Deliver slot d) (Landed at) = if same_side dir d && (k == slot) then 1 else 0
lands_on dir k (Deliver slot d) (Dropped token) = if same_side dir d && (k == slot) then 1 else 0
lands_on dir k _ _ = 0

-- how many landed posts complete with an event
-- ours: the fabric in memory
abbrev pub completes_on : Side → ℕ → Event → Reply → ℕ
completes_on dir k (Complete slot d) (Completed at) = if same_side dir d && (k == slot) then 1 else 0
completes_on dir k _ _ = 0

-- events of a slot concern its latest link
-- ours: the fabric in memory
abbrev pub if_latest : LinkId → List Entry → ℕ → ℕ
if_latest link past n = if is_latest link past then n else 0

-- the posts of a side on a link that have not landed, the oldest first
-- ours: the fabric in memory keeps the order of the posts
abbrev pub unlanded : LinkId → Side → List Entry → List Placed
unlanded link dir [] = []
unlanded link dir (e ∷ older) =
    drop (if_latest link older (leaves dir link.slot e.event e.reply)) (unlanded link dir older) ++
    filter (λ c. is_on link dir c.post) (numbered (next_number older) 1 e.posts)

-- an LLC message is done with when it lands; writes and CDC messages complete later
-- ours: no sender waits for the completion of an LLC message
abbrev pub completes_later : Post → Bool
completes_later (Llc from link message) = false
completes_later _ = true

-- the posts that have landed and not completed, the oldest first
-- ours: the fabric in memory keeps the order of the posts
abbrev pub uncompleted : LinkId → Side → List Entry → List Placed
uncompleted link dir [] = []
uncompleted link dir (e ∷ older) =
    drop (if_latest link older (completes_on dir link.slot e.event e.reply)) (uncompleted link dir older) ++
    filter (λ c. completes_later c.post) (take (if_latest link older (lands_on dir link.slot e.event e.reply)) (unlanded link dir older))

-- 1 for a swallow, 0 for any other event
-- ours: the fabric in memory
abbrev pub is_swallow : Event → Reply → ℕ
is_swallow (Swallow slot dir) (Completed at) = 1
is_swallow _ _ = 0

-- how many posts were swallowed so far
-- ours: the fabric in memory
abbrev pub swallows : List Entry → ℕ
swallows [] = 0
swallows (e ∷ older) = is_swallow e.event e.reply + swallows older

-- the post that would land on a link: none on one that is dead
-- ours: the fabric in memory
abbrev pub landing_on : LinkId → Side → List Entry → Option Placed
landing_on link dir past = if is_dead link past then None else head (unlanded link dir past)

-- the post that would complete on a link: none on one that a side has reported
-- ours: the fabric in memory
abbrev pub completing_on : LinkId → Side → List Entry → Option Placed
completing_on link dir past = if some_reported link past then None else head (uncompleted link dir past)

-- how many posts a world may swallow
-- ours: a bound of a world, as that of its entries
abbrev pub swallow_limit : ℕ
swallow_limit = 4096

-- whether the next post on a link may be swallowed: the link was cut and no side has reported it, and nothing waits to complete
-- ours: RFC 7609, 4.6, validates against such a loss
abbrev pub may_swallow : LinkId → Side → List Entry → Bool
may_swallow link dir past = (is_cut link past && not (some_reported link past)) && (is_nil (uncompleted link dir past) && nat_lt (swallows past) swallow_limit)

-- the post that would be swallowed on a link
-- ours: RFC 7609, 4.6, validates against such a loss
abbrev pub swallowed_on : LinkId → Side → List Entry → Option Placed
swallowed_on link dir past = if may_swallow link dir past then head (unlanded link dir past) else None

-- the post that would land on the latest link of a slot
-- ours: the fabric in memory
abbrev pub landing : ℕ → Side → List Entry → Option Placed
landing k dir past = option_and_then (λ link. landing_on link dir past) (latest k past)

-- the post that would complete on the latest link of a slot
-- ours: the fabric in memory
abbrev pub completing : ℕ → Side → List Entry → Option Placed
completing k dir past = option_and_then (λ link. completing_on link dir past) (latest k past)

-- the post that would be swallowed there
-- ours: the fabric in memory
abbrev pub swallowed : ℕ → Side → List Entry → Option Placed
swallowed k dir past = option_and_then (λ link. swallowed_on link dir past) (latest k past)

-- what Complete and Swallow are told, by the post that they are about
-- ours: what the actor is told
abbrev pub completed_told : Option Placed → Reply
completed_told None = Idle
completed_told (Some c) = Completed c.at

-- what Cut is told
-- ours: what the actor is told
abbrev pub cut_told : ℕ → List Entry → Reply
cut_told k past = if path_up k past then Done else Idle

-- what Heal is told
-- ours: what the actor is told
abbrev pub heal_told : ℕ → List Entry → Reply
heal_told k past = if path_up k past then Idle else Done
