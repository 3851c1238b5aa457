-- Wires and pipes agree, over all links and incarnations, several connections and every event.
-- A reader learns here what a link carries of an end, and what links, offers and establishments owe to that.
use Rattle.std.specs.Prelude.{List, None, Some, [], false, true, ℕ, ◌<◌, ◌==◌, ◌∷◌, ◌≡◌, ◌⊎◌}
use Rattle.pipe_model.specs.declared.sent.Sent.{Sent}
use Rattle.history_laws.specs.Words.{A, B, CdcMessage, Entry, Half, IsFeasible, LinkId, Offered, Setup, Side, element_size, group_on, half, is_broken, is_cut, is_due_for_move, offered, other, part, pipe_of, stands, table_of, terms_of, uncompleted, unlanded}
use Rattle.history_laws.specs.Wires.{IsCarried, IsElse, cdcs, here, message, next_to_land}
use Rattle.link_laws.specs.Lasting.{is_lost}
use Rattle.lending_laws.specs.Ends.{OffersGoOn}

-- that a link carries, under a token, what an end has under way, if it is the end's link, and else nothing
abbrev pub IsCarriedOn : ℕ → LinkId → Side → ℕ → List Entry → Half → Type 0
IsCarriedOn size link x token past h = IsCarried size link x token past (here link h)

-- what is owed after a history. Of offers: they are on known sockets, under different tokens of their side; A offers only where B
-- has; and B's link has a group. Of links: one that stands was not lost. Of links and ends: one that may move is on a link that
-- its side has lost
pub record OwedToAgreement (setup : Setup) (payload : List ℕ) (past : List Entry) : Type 0 where
  -- Clc, on known sockets
  pub known : (x : Side) (s : ℕ) (o : Offered) → offered x s past ≡ Some o → s < setup.sockets
  -- Clc: an offer has the next token
  pub tokens : (x : Side) (s t : ℕ) (o r : Offered) → offered x s past ≡ Some o → offered x t past ≡ Some r → o.offer.token ≡ r.offer.token → s ≡ t
  -- Clc: A offers as it takes B's Accept
  pub answer : (s : ℕ) → offered B s past ≡ None → offered A s past ≡ None
  -- Clc: no group has the number 0
  pub grouped : (s : ℕ) (o : Offered) → offered B s past ≡ Some o → (o.link.group == 0) ≡ false
  -- Clc and Deliver: a slot is made anew with a higher incarnation
  pub again : (x : Side) (link : LinkId) → stands link (table_of x past) ≡ true → is_lost x link past ≡ false
  -- Move: an end moves off a lost link alone
  pub left : (x : Side) (s : ℕ) → is_due_for_move (half x (pipe_of setup payload (group_on s past) s past)) ≡ true → is_lost x (half x (pipe_of setup payload (group_on s past) s past)).link past ≡ true

-- after a history, and with each of its entries
abbrev pub AllOwed : Setup → List ℕ → List Entry → Type 0
AllOwed setup payload [] = OwedToAgreement setup payload []
AllOwed setup payload (e ∷ past) = OwedToAgreement setup payload (e ∷ past) × (OffersGoOn e past × AllOwed setup payload past)

-- the group of a socket's connection, or any where none was offered
abbrev pub IsItsGroup : ℕ → ℕ → List Entry → Type 0
IsItsGroup group s past = (offered B s past ≡ None) ⊎ (group ≡ group_on s past)

-- that a link whose messages were swallowed was cut, and is that of an end which is up
pub record IsCutOff (h : Half) (past : List Entry) : Type 0 where
  -- Swallow, on a link that was cut
  pub cut : is_cut h.link past ≡ true
  -- who has sent something is up
  pub up : h.up ≡ true

-- that a link carries nothing of a side under a token
pub record CarriesNone (link : LinkId) (x : Side) (token : ℕ) (past : List Entry) : Type 0 where
  -- no post under a token that nobody was offered
  pub landing : cdcs x token (unlanded link x past) ≡ []
  -- so none of them lands
  pub completing : cdcs x token (uncompleted link x past) ≡ []

-- that wires and pipes agree: each part can be; where a way is broken, its link was cut; each link that its side has not lost
-- carries of each end what is under way there, and no link carries anything else
pub record Agrees (setup : Setup) (payload : List ℕ) (past : List Entry) : Type 0 where
  -- Deliver, Complete and Swallow take the next that was sent
  pub feasible : (s group : ℕ) → IsItsGroup group s past → IsFeasible (terms_of setup) (part payload group s past)
  -- Swallow; Deliver lands nothing on a link that was cut
  pub cut_off : (x : Side) (s group : ℕ) → IsItsGroup group s past → is_broken (terms_of setup) x (part payload group s past) ≡ true → IsCutOff (half x (pipe_of setup payload group s past)) past
  -- Deliver, Complete, Swallow and Move, and each event in which an end posts
  pub carried : (x : Side) (s : ℕ) (o : Offered) → offered (other x) s past ≡ Some o → (link : LinkId) → is_lost x link past ≡ false → IsCarriedOn (element_size setup) link x o.offer.token past (half x (pipe_of setup payload (group_on s past) s past))
  -- Clc: a new offer has a token under which nothing is under way
  pub strange : (x : Side) (token : ℕ) → ((s : ℕ) → IsElse token (offered (other x) s past)) → (link : LinkId) → CarriesNone link x token past

-- that a CDC message is the next to land of one end, on that end's link, under the token of its peer's offer
pub record IsOneEnds (setup : Setup) (payload : List ℕ) (x : Side) (link : LinkId) (past : List Entry) (m : CdcMessage) : Type 0 where
  pub s : ℕ
  pub offer : Offered
  pub offered_is : offered (other x) s past ≡ Some offer
  pub token : m.token ≡ offer.offer.token
  pub link_is : link ≡ (half x (pipe_of setup payload (group_on s past) s past)).link
  pub sent : Sent
  pub sent_is : next_to_land (half x (pipe_of setup payload (group_on s past) s past)) ≡ Some sent
  pub spells : m ≡ message (element_size setup) offer.offer.token sent
