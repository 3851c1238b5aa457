-- What becomes of a link that has stood: it stands at a side, or was lost there.
-- A reader learns here when a side has lost a link, in words that a later link of the slot does not change.
use Rattle.std.specs.Prelude.{Bool, List, [], false, not, true, ℕ, ◌&&◌, ◌||◌, ◌∷◌, ◌≡◌, ◌⊎◌}
use Rattle.history_laws.specs.Words.{A, B, Entry, LinkId, Setup, Side, group_of, has_ended, has_link, live_links, stands, table_of}
use Rattle.link_laws.specs.UnderWay.{HasFlows}
use Rattle.link_laws.specs.Owed.{OwedByHandshake}

-- whether a side has lost a link: it stood there, and with some entry it did so no more
abbrev pub is_lost : Side → LinkId → List Entry → Bool
is_lost x link [] = false
is_lost x link (e ∷ older) = (stands link (table_of x older) && not (stands link (table_of x (e ∷ older)))) || is_lost x link older

-- that a link is live at a side, or was lost there
abbrev pub IsLiveOrLost : Side → LinkId → List Entry → Type 0
IsLiveOrLost x link past = (is_lost x link past ≡ true) ⊎ (has_link link (live_links (table_of x past)) ≡ true)

-- that a link stands at a side, or was lost there
abbrev pub StandsOrLost : Side → LinkId → List Entry → Type 0
StandsOrLost x link past = (stands link (table_of x past) ≡ true) ⊎ (is_lost x link past ≡ true)

-- whether a link has ever stood at a side
abbrev pub has_stood : LinkId → List Entry → Bool
has_stood link [] = false
has_stood link (e ∷ older) = (stands link (table_of A (e ∷ older)) || stands link (table_of B (e ∷ older))) || has_stood link older

-- of links: one that stands was not lost
pub record NoneAgain (past : List Entry) : Type 0 where
  -- Clc and Deliver: a slot is made anew with a higher incarnation
  pub again : (x : Side) (link : LinkId) → stands link (table_of x past) ≡ true → is_lost x link past ≡ false

-- before each entry links and flows are as they should be, and the handshake owes nothing to them
abbrev pub AllFlows : Setup → List ℕ → List Entry → Type 0
AllFlows setup payload [] = Unit {0}
AllFlows setup payload (e ∷ past) = ((all : HasFlows past) × OwedByHandshake setup payload past all.under) × AllFlows setup payload past

-- that a side is in a group, or has been in it until it ended
abbrev pub InOrEnded : Side → ℕ → List Entry → Type 0
InOrEnded x g past = (group_of x past ≡ g) ⊎ (has_ended x g past ≡ true)
