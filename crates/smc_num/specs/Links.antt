-- The links that a side knows in its group, the lowest slot first, and their phases there.
use Rattle.std.specs.Prelude.{ℕ, ◌==◌, ◌&&◌, ◌||◌, not, nat_lt, Bool, true, false, if◌then◌else◌, List, [], ◌∷◌, map, filter, find, Option, option_map, unwrap_or}
use Rattle.std.specs.List.{list_any}
use Rattle.smc_num.specs.declared.LinkId.{LinkId}
use Rattle.smc_num.specs.declared.LinkPhase.{LinkPhase}
use Rattle.smc_num.specs.declared.LinkPhase.TheVariants.{Unused, Pending, Live, Dead}
use Rattle.smc_num.specs.Names.{same_link, no_link}

-- a link at a side, with its phase there
-- RFC 7609, 2.2: the links of a group; the phases are ours
pub record Known : Type 0 where
  pub link : LinkId
  pub phase : LinkPhase

-- whether a link in this phase is live
-- ours: a word on phases
abbrev pub is_live : LinkPhase → Bool
is_live Live = true
is_live _ = false

-- whether a link in this phase is pending
-- ours: a word on phases
abbrev pub is_pending : LinkPhase → Bool
is_pending Pending = true
is_pending _ = false

-- whether a link in this phase may carry what was asked on it, and its answers: one that is live
-- ours: a word on phases
abbrev pub may_carry : LinkPhase → Bool
may_carry phase = is_live phase

-- a link stands at a side from its making until the side has reported it
-- ours: a side knows that a link is lost only once it has reported it
abbrev pub is_standing : LinkPhase → Bool
is_standing phase = is_pending phase || may_carry phase

-- whether two phases are the same
-- ours: a test of equality
abbrev pub same_phase : LinkPhase → LinkPhase → Bool
same_phase Unused Unused = true
same_phase Pending Pending = true
same_phase Live Live = true
same_phase Dead Dead = true
same_phase _ _ = false

-- what a side knows on a slot
-- ours: a look-up in the table
abbrev pub at_slot : ℕ → List Known → Option Known
at_slot k table = find (λ known. known.link.slot == k) table

-- the link of a slot
-- ours: a look-up in the table
abbrev pub link_at : ℕ → List Known → Option LinkId
link_at k table = option_map (λ known. known.link) (at_slot k table)

-- the link of a slot, or no link
-- ours: a look-up in the table
abbrev pub link_or_none : ℕ → List Known → LinkId
link_or_none k table = unwrap_or (link_at k table) no_link

-- the phase of the link of a slot
-- ours: a look-up in the table
abbrev pub phase_at : ℕ → List Known → LinkPhase
phase_at k table = unwrap_or (option_map (λ known. known.phase) (at_slot k table)) Unused

-- whether that very link stands there
-- ours: a look-up in the table
abbrev pub stands : LinkId → List Known → Bool
stands link table = list_any (λ known. same_link link known.link && is_standing known.phase) table

-- the live links, the lowest slot first
-- ours: a look-up in the table
abbrev pub live_links : List Known → List LinkId
live_links table = map (λ known. known.link) (filter (λ known. is_live known.phase) table)

-- the links whose keys a peer may be told: all but the pending ones, dead ones included
-- ours: the RFC does not say whether a lost link's key is told on
abbrev pub unpending : List Known → List LinkId
unpending table = map (λ known. known.link) (filter (λ known. not (is_pending known.phase)) table)

-- the lowest live link, where there is one
-- ours: the RFC leaves open which link carries a request
abbrev pub first_live : List Known → Option LinkId
first_live table = option_map (λ known. known.link) (find (λ known. is_live known.phase) table)

-- the slot of the lowest live link, or 0
-- ours: the RFC leaves open which link carries a request
abbrev pub lowest_live : List Known → ℕ
lowest_live table = unwrap_or (option_map (λ link. link.slot) (first_live table)) 0

-- a new link takes the place of an earlier one on its slot
-- ours: a slot has one link at a time
abbrev pub put : Known → List Known → List Known
put new [] = new ∷ []
put new (known ∷ table) =
    if new.link.slot == known.link.slot then new ∷ table else
    if nat_lt new.link.slot known.link.slot then new ∷ known ∷ table else known ∷ put new table

-- a known link with another phase, where it is that of the slot
-- ours: a change of the table
abbrev pub with_phase : ℕ → LinkPhase → Known → Known
with_phase k phase known = if known.link.slot == k then record known { phase = phase } else known

-- the link of a slot gets another phase
-- ours: a change of the table
abbrev pub set_phase : ℕ → LinkPhase → List Known → List Known
set_phase k phase table = map (with_phase k phase) table

-- a known link that stands no more
-- ours: a change of the table
abbrev pub dead : Known → Known
dead known = record known { phase = Dead }

-- the group ends: all its links are dead
-- RFC 7609, 2.2: links are those of a group
abbrev pub all_dead : List Known → List Known
all_dead table = map dead table
