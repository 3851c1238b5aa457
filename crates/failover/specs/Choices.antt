-- Which link is chosen among those of a side, by their phases in the order of the slots, from slot 1 on.
use Rattle.std.specs.Prelude.{◌≡◌, ℕ, ◌+◌, ◌-◌, ◌<◌, ◌≤◌, ◌&&◌, not, nat_lt, Bool, true, false, if◌then◌else◌, List, [], ◌∷◌, fold, slice_index, slice_index_or, Option, Some, None}
use Rattle.smc_num.specs.declared.LinkPhase.{LinkPhase}
use Rattle.smc_num.specs.declared.LinkPhase.TheVariants.{Unused}
use Rattle.smc_num.specs.declared.LinkId.{LinkId}
use Rattle.smc_num.specs.Names.{has_link}
use Rattle.smc_num.specs.Links.{Known, is_live, live_links}

-- the lowest live slot, where these phases begin at a slot
abbrev pub lowest_from : ℕ → List LinkPhase → Option ℕ
lowest_from slot [] = None
lowest_from slot (phase ∷ phases) = if is_live phase then Some slot else lowest_from (slot + 1) phases

-- whether the link at a place of the list is live; a place past its end has none
abbrev pub is_live_at : List LinkPhase → ℕ → Bool
is_live_at phases i = is_live (slice_index_or phases i Unused)

-- the link of a slot is live, none of the live ones has fewer records, and none below it has as few
pub record IsFewest (phases : List LinkPhase) (loads : List ℕ) (slot : ℕ) : Type 0 where
  pub at : ℕ
  pub place : slot ≡ at + 1
  pub live : is_live_at phases at ≡ true
  pub fewest : (i : ℕ) → is_live_at phases i ≡ true → slice_index loads at ≤ slice_index loads i
  pub lowest : (i : ℕ) → i < at → is_live_at phases i ≡ true → slice_index loads at < slice_index loads i

-- of two links the one that weighs less, the first where they weigh the same
abbrev pub lighter : (LinkId → ℕ) → LinkId → LinkId → LinkId
lighter weight a b = if nat_lt (weight b) (weight a) then b else a

-- of a link and others the one that weighs least, the first where several do
abbrev pub lightest : (LinkId → ℕ) → LinkId → List LinkId → LinkId
lightest weight link links = fold (lighter weight) link links

-- what is told for the slot of each live link is what it weighs
abbrev pub AreLoads : (LinkId → ℕ) → List Known → List ℕ → Type 0
AreLoads weight known loads = (link : LinkId) → has_link link (live_links known) ≡ true → slice_index loads (link.slot - 1) ≡ weight link

-- among the first so many links: the place of a live one with the fewest records, before all that have as few
pub record IsBestAt (phases : List LinkPhase) (loads : List ℕ) (n at : ℕ) : Type 0 where
  pub within : at < n
  pub live : is_live_at phases at ≡ true
  pub fewest : (i : ℕ) → i < n → is_live_at phases i ≡ true → slice_index loads at ≤ slice_index loads i
  pub lowest : (i : ℕ) → i < at → is_live_at phases i ≡ true → slice_index loads at < slice_index loads i

-- among the first so many links: the best, or none where none of them is live
abbrev pub IsBest : List LinkPhase → List ℕ → ℕ → Option ℕ → Type 0
IsBest phases loads n None = (i : ℕ) → i < n → is_live_at phases i ≡ false
IsBest phases loads n (Some at) = IsBestAt phases loads n at

-- whether an established end moves, whose phase may let it: its link isn't live
abbrev pub is_due_for_move : LinkId → List Known → Bool → Bool
is_due_for_move link known may_move = not (has_link link (live_links known)) && may_move
