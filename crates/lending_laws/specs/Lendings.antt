-- The lendings of a side after every history: what an entry does to them, how they end, and what is true of what is lent.
use Rattle.std.specs.Prelude.{List, Some, [], false, filter_map, length, true, ℕ, ◌+◌, ◌==◌, ◌∷◌, ◌≡◌, ◌≤◌, ◌⊎◌}
use Rattle.history_laws.specs.Words.{Entry, Lending, Offered, Setup, Side, all_places, elements_of, end_state, group_of, has_ended, is_done_with, is_out, is_over_on, lendings, lends, lends_by, lent, offered, other, returns, rmbs_of, same_place, told_last}
use Rattle.history_laws.specs.Lists.{IsAmong}
use Rattle.history_laws.specs.Offers.{Begins, is_holding}

-- tokens count the lendings: 1, 2, ..
abbrev pub AreCounted : List Lending → Type 0
AreCounted [] = Unit {0}
AreCounted (l ∷ ls) = (l.token ≡ length ls + 1) × AreCounted ls

-- that a lending is that of its socket's offer
abbrev pub IsOfOffer : Side → List Entry → Lending → Type 0
IsOfOffer x past l = (o : Offered) × ((offered x l.s past ≡ Some o) × (l ≡ lends_by l.s o.link o.offer))

-- the lendings of a side are numbered by their tokens, and each is that of the one offer of its socket and side, and the other way round
pub record AreLendings (x : Side) (past : List Entry) : Type 0 where
  -- Clc: an offer has the next token
  pub counted : AreCounted (lendings x past)
  -- Clc: an offer lends one element
  pub of_offer : (l : Lending) → IsAmong l (lendings x past) → IsOfOffer x past l
  -- Clc: an offer lends one element
  pub offer_of : (s : ℕ) (o : Offered) → offered x s past ≡ Some o → IsAmong (lends_by s o.link o.offer) (lendings x past)
  -- Clc: a side offers on a socket once
  pub by_socket : (l m : Lending) → IsAmong l (lendings x past) → IsAmong m (lendings x past) → l.s ≡ m.s → l ≡ m
  -- Clc: an offer has the next token
  pub by_token : (l m : Lending) → IsAmong l (lendings x past) → IsAmong m (lendings x past) → l.token ≡ m.token → l ≡ m

-- what an entry does to the elements that are lent: those that don't return stay, and those that it begins come; nothing else is lent
pub record Changes (setup : Setup) (payload : List ℕ) (x : Side) (e : Entry) (past : List Entry) : Type 0 where
  -- Clc
  pub begins : Begins setup payload x e past
  -- Clc, Report, Deliver, Complete and Read may end a lending
  pub stays : (l : Lending) → IsAmong l (lent setup payload x past) → returns setup payload x e past l ≡ false → IsAmong l (lent setup payload x (e ∷ past))
  -- Clc begins one
  pub was : (l : Lending) → IsAmong l (lent setup payload x (e ∷ past)) → IsAmong l (filter_map (lends x) e.posts) ⊎ (IsAmong l (lent setup payload x past) × (returns setup payload x e past l ≡ false))

-- that both ends of a socket have told their last snapshot, each under the token that its peer's offer gave it
abbrev pub HaveToldLast : ℕ → List Entry → Type 0
HaveToldLast s past = (y : Side) → (o : Offered) × ((offered (other y) s past ≡ Some o) × (told_last y o.offer.token past ≡ true))

-- how a lending has ended: with the side's group; as its end left the handshake or was reset in it; or as its end is over
pub data HasReturned (setup : Setup) (payload : List ℕ) (x : Side) (l : Lending) (past : List Entry) : Type 0 where
  WithGroup : has_ended x l.group past ≡ true → HasReturned setup payload x l past
  AsOut : is_out (end_state x l.s past) ≡ true → HasReturned setup payload x l past
  AsOver : is_over_on setup payload x l past ≡ true → HasReturned setup payload x l past

-- each lending of a side is lent, or has returned; and then it is done with
pub record AreDone (setup : Setup) (payload : List ℕ) (x : Side) (past : List Entry) : Type 0 where
  -- Clc (the end leaves its handshake), Report and Deliver (its group ends), Deliver, Complete and Read (it is over)
  pub returned : (l : Lending) → IsAmong l (lendings x past) → IsAmong l (lent setup payload x past) ⊎ HasReturned setup payload x l past
  -- Deliver: the end comes up with its first link
  pub stays_lent : (l : Lending) → IsAmong l (lendings x past) → is_holding (end_state x l.s past) ≡ true → is_over_on setup payload x l past ≡ false → has_ended x l.group past ≡ false → IsAmong l (lent setup payload x past)
  -- Report: what was lent when the group ended is done with
  pub done : (l : Lending) → IsAmong l (lendings x past) → IsAmong l (lent setup payload x past) ⊎ (is_done_with x l past ≡ true)

-- that a side has elements
pub record HasElements (setup : Setup) : Type 0 where
  -- a setting
  pub rmbs : (x : Side) → 1 ≤ rmbs_of setup x
  -- a setting
  pub elements : (x : Side) → 1 ≤ elements_of setup x

-- each lending is of a place of its side's RMBs; what is lent is of the side's group, its end holds it, and no two are of one place
pub record AreApart (setup : Setup) (payload : List ℕ) (x : Side) (past : List Entry) : Type 0 where
  -- Clc: the lowest free place is one of the places
  pub in_range : (l : Lending) → IsAmong l (lendings x past) → IsAmong l.place (all_places (rmbs_of setup x) (elements_of setup x))
  -- Clc begins a group, in which nothing is lent yet; Report ends one
  pub group : (l : Lending) → IsAmong l (lent setup payload x past) → (l.group ≡ group_of x past) × ((l.group == 0) ≡ false)
  -- Clc, Report and Deliver: an end that leaves gives its element back
  pub holds : (l : Lending) → IsAmong l (lent setup payload x past) → is_holding (end_state x l.s past) ≡ true
  -- Clc: the place of a new lending is free
  pub places : (l m : Lending) → IsAmong l (lent setup payload x past) → IsAmong m (lent setup payload x past) → same_place l.place m.place ≡ true → l ≡ m
