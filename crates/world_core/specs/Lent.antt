-- The lendings of a side in a world of one link.
-- A reader learns here that an entry begins at most one at a side, how the tokens count, and that sockets and places are apart.
use Rattle.std.specs.Prelude.{◌≡◌, ℕ, ◌+◌, ◌<◌, ◌==◌, false, List, [], ◌∷◌, length, filter_map, Some, None}
use Rattle.smc_num.specs.declared.Side.{Side}
use Rattle.smc_num.specs.Names.{head}
use Rattle.smc_num.specs.Places.{same_place}
use Rattle.clc_wire.specs.declared.offer.Offer.{Offer}
use Rattle.pipe_model.specs.declared.event.Event.TheVariants.{Clc as ClcEvent}
use Rattle.pipe_model.specs.declared.setup.Setup.{Setup}
use Rattle.pipe_model.specs.declared.entry.Entry.{Entry}
use Rattle.pipe_model.specs.History.{offered}
use Rattle.pipe_model.specs.Lending.{Lending, lends_by, lends, lendings, lent, free_places, is_over_on}
use Rattle.pipe_model.specs.Posts.{next_token, offered_place}
use Rattle.world_core.specs.OneLink.{the_link, Stage}
use Rattle.world_core.specs.Sockets.{IsWorld, on_link}

-- an entry begins no lending at a side, or one of the lowest free element, under the next token, for a socket on which the side had
-- not offered
pub data Begins (setup : Setup) (payload : List ℕ) (x : Side) (e : Entry) (older : List Entry) : Type 0 where
  BeginsNone : filter_map (lends x) e.posts ≡ [] → Begins setup payload x e older
  BeginsOne : (s : ℕ) (dir : Side) (o : Offer) → e.event ≡ ClcEvent s dir → filter_map (lends x) e.posts ≡ lends_by s the_link o ∷ [] → offered x s older ≡ None
      → head (free_places setup payload x older) ≡ Some (offered_place o) → o.token ≡ next_token x older → Begins setup payload x e older

-- an entry leads to a world
pub record LeadsOn (setup : Setup) (payload : List ℕ) (e : Entry) (older : List Entry) : Type 0 where
  pub stage : Stage
  pub world : IsWorld setup stage (e ∷ older)
  pub begins : (x : Side) → Begins setup payload x e older

-- tokens count the lendings
abbrev pub AreCounted : List Lending → Type 0
AreCounted [] = Unit {0}
AreCounted (l ∷ ls) = (l.token ≡ length ls + 1) × AreCounted ls

-- each of these lendings is so
abbrev pub EachLending : (Lending → Type 0) → List Lending → Type 0
EachLending P [] = Unit {0}
EachLending P (l ∷ ls) = P l × EachLending P ls

-- no two are for one socket
abbrev pub HaveSockets : List Lending → Type 0
HaveSockets [] = Unit {0}
HaveSockets (l ∷ ls) = EachLending (λ m. (m.s == l.s) ≡ false) ls × HaveSockets ls

-- no two are of one place
abbrev pub HavePlaces : List Lending → Type 0
HavePlaces [] = Unit {0}
HavePlaces (l ∷ ls) = EachLending (λ m. same_place l.place m.place ≡ false) ls × HavePlaces ls

-- the lending of a socket is that of the side's offer there
abbrev pub IsOfOffer : Side → List Entry → Lending → Type 0
IsOfOffer x past l = (o : Offer) × ((offered x l.s past ≡ on_link o) × (l ≡ lends_by l.s the_link o))

-- what holds of the lendings of a side after a history
pub record AreLendings (setup : Setup) (payload : List ℕ) (x : Side) (past : List Entry) : Type 0 where
  pub counted : AreCounted (lendings x past)
  pub sockets : HaveSockets (lendings x past)
  pub few : EachLending (λ l. l.s < setup.sockets) (lendings x past)
  pub offers : EachLending (IsOfOffer x past) (lendings x past)
  pub places : HavePlaces (lent setup payload x past)

-- no end of a lending was ever over
abbrev pub WasNeverOver : Setup → List ℕ → Side → List Entry → Type 0
WasNeverOver setup payload x [] = Unit {0}
WasNeverOver setup payload x (e ∷ older) =
    ((s : ℕ) (o : Offer) → offered x s (e ∷ older) ≡ on_link o → is_over_on setup payload x (lends_by s the_link o) (e ∷ older) ≡ false) × WasNeverOver setup payload x older
