-- What other subjects owe to lendings, and what lendings give to the agreement of wires and pipes.
-- A reader learns here the least from which the laws of lendings follow.
use Rattle.std.specs.Prelude.{List, None, Some, [], false, true, ℕ, ◌<◌, ◌==◌, ◌∷◌, ◌≡◌, ◌⊎◌}
use Rattle.pipe_model.specs.Connections.{comes_up}
use Rattle.history_laws.specs.Words.{A, B, Entry, IsFeasible, LinkId, Offered, Setup, Side, end_state, fabric, group_on, has_ended, is_out, offered, other, part, peer, terms_of}
use Rattle.link_laws.specs.Linked.{IsOwn}
use Rattle.link_laws.specs.Awaited.{LeastWith}

-- what is owed with an entry: an end comes up only where its peer has offered, and where it has not left its handshake
pub record OwedWith (e : Entry) (past : List Entry) : Type 0 where
  -- Clc in later contact, Deliver in first contact: the peer has offered before
  pub answers : (x : Side) (s : ℕ) (link : LinkId) → comes_up x s e past ≡ Some link → (o : Offered) × (offered (other x) s past ≡ Some o)
  -- Clc, Deliver: who comes up has not left its handshake
  pub waits : (x : Side) (s : ℕ) (link : LinkId) → comes_up x s e past ≡ Some link → is_out (end_state x s past) ≡ false

-- what is owed after a history: offers are on known sockets; B has a live link or is in first contact, and its links are of its group;
-- the part of a connection can be; and where B has offered and its end has left the handshake, A's end is out too, or B's group ended
pub record OwedAfter (setup : Setup) (payload : List ℕ) (past : List Entry) : Type 0 where
  -- Clc
  pub known : (x : Side) (s : ℕ) (o : Offered) → offered x s past ≡ Some o → s < setup.sockets
  -- flows, by Report and Deliver
  pub own : IsOwn B (peer B (fabric past))
  -- the agreement of wires and pipes, by Deliver, Complete and Swallow
  pub feasible : (s : ℕ) → IsFeasible (terms_of setup) (part payload (group_on s past) s past)
  -- Clc: B declines a Confirm of a group that has ended
  pub fallen : (s : ℕ) (o : Offered) → offered B s past ≡ Some o → is_out (end_state B s past) ≡ true → (is_out (end_state A s past) ≡ true) ⊎ (has_ended B o.link.group past ≡ true)

-- what other subjects owe to lendings, after a history and with each of its entries
abbrev pub OwedLendings : Setup → List ℕ → List Entry → Type 0
OwedLendings setup payload [] = OwedAfter setup payload []
OwedLendings setup payload (e ∷ past) = OwedAfter setup payload (e ∷ past) × (OwedWith e past × OwedLendings setup payload past)

-- the same without the row of the handshake, which follows
pub record OwedBase (setup : Setup) (payload : List ℕ) (past : List Entry) : Type 0 where
  -- Clc
  pub known : (x : Side) (s : ℕ) (o : Offered) → offered x s past ≡ Some o → s < setup.sockets
  -- flows, by Report and Deliver
  pub own : IsOwn B (peer B (fabric past))
  -- the agreement of wires and pipes, by Deliver, Complete and Swallow
  pub feasible : (s : ℕ) → IsFeasible (terms_of setup) (part payload (group_on s past) s past)

-- what other subjects owe to lendings, after a history and with each of its entries
abbrev pub OwedFrom : Setup → List ℕ → List Entry → Type 0
OwedFrom setup payload [] = OwedBase setup payload []
OwedFrom setup payload (e ∷ past) = OwedBase setup payload (e ∷ past) × (OwedWith e past × OwedFrom setup payload past)

-- and after a history: B has no group, or is in first contact, or has a live link, and its links are of its group; and the part of a
-- connection can be
pub record LeastAfter (setup : Setup) (payload : List ℕ) (past : List Entry) : Type 0 where
  -- flows, by Report and Deliver
  pub own : IsOwn B (peer B (fabric past))
  -- the agreement of wires and pipes, by Deliver, Complete and Swallow
  pub feasible : (s : ℕ) → IsFeasible (terms_of setup) (part payload (group_on s past) s past)

-- the least that other subjects owe to lendings, after a history and with each of its entries
abbrev pub OwedLeast : Setup → List ℕ → List Entry → Type 0
OwedLeast setup payload [] = LeastAfter setup payload []
OwedLeast setup payload (e ∷ past) = LeastAfter setup payload (e ∷ past) × (LeastWith setup e past × OwedLeast setup payload past)

-- before each entry, B has no group, or is in first contact, or has a live link, and its links are of its group
abbrev pub AllOwn : List Entry → Type 0
AllOwn [] = Unit {0}
AllOwn (e ∷ past) = IsOwn B (peer B (fabric past)) × AllOwn past

-- what the agreement of wires and pipes wants of offers: they are on known sockets, the token tells the
-- socket, A offers only where B has, and B's link has a group
pub record ArePlainOffers (setup : Setup) (past : List Entry) : Type 0 where
  -- Clc, on known sockets
  pub known : (x : Side) (s : ℕ) (o : Offered) → offered x s past ≡ Some o → s < setup.sockets
  -- Clc: an offer has the next token
  pub tokens : (x : Side) (s t : ℕ) (o r : Offered) → offered x s past ≡ Some o → offered x t past ≡ Some r → o.offer.token ≡ r.offer.token → s ≡ t
  -- Clc: A offers as it takes B's Accept
  pub answer : (s : ℕ) → offered B s past ≡ None → offered A s past ≡ None
  -- Clc: no group has the number 0
  pub grouped : (s : ℕ) (o : Offered) → offered B s past ≡ Some o → (o.link.group == 0) ≡ false
