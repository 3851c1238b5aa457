-- What the agreement of wires and pipes wants of offers, links and ends.
use Rattle.std.specs.Prelude.{List, None, Some, [], false, true, ℕ, ◌<◌, ◌==◌, ◌∷◌, ◌≡◌}
use Rattle.pipe_model.specs.Connections.{comes_up}
use Rattle.history_laws.specs.Words.{A, B, Entry, LinkId, Offer, Offered, Setup, Side, group_of, group_on, half, has_ended, has_link, is_up, live_links, offered, other, pipe_of, stands, table_of}
use Rattle.link_laws.specs.Lasting.{IsLiveOrLost, is_lost}
use Rattle.link_laws.specs.FabricChanges.{OffersFirst}

-- of links and ends: an end whose group stands has the live links of its side
pub record HasLive (setup : Setup) (payload : List ℕ) (past : List Entry) : Type 0 where
  -- Report, Deliver and Clc change the live links of a side
  pub live : (x : Side) (s : ℕ) → (half x (pipe_of setup payload (group_on s past) s past)).stands ≡ true → (half x (pipe_of setup payload (group_on s past) s past)).up ≡ true →
      (half x (pipe_of setup payload (group_on s past) s past)).live ≡ live_links (table_of x past)

-- of links and establishments: an end comes up on a link that is live at its side, or was lost there; and a live link stays live, or is lost
pub record LivesOn (e : Entry) (past : List Entry) : Type 0 where
  -- Clc in later contact, Deliver in first contact
  pub comes : (x : Side) (s : ℕ) (link : LinkId) → comes_up x s e past ≡ Some link → IsLiveOrLost x link (e ∷ past)
  -- Report and Deliver lose links
  pub lasts : (x : Side) (link : LinkId) → has_link link (live_links (table_of x past)) ≡ true → IsLiveOrLost x link (e ∷ past)

-- with an entry: a side begins a group only where it has none, and none that has ended there
pub record BeginsNew (e : Entry) (past : List Entry) : Type 0 where
  -- Clc: the verdict asks for no group
  pub none : (x : Side) (link : LinkId) (o : Offer) → OffersFirst x e link o → group_of x past ≡ 0
  -- Clc: B counts its groups, and A joins one that B has just begun
  pub new : (x : Side) (link : LinkId) (o : Offer) → OffersFirst x e link o → has_ended x link.group past ≡ false

-- and with each entry
abbrev pub AllBegin : List Entry → Type 0
AllBegin [] = Unit {0}
AllBegin (e ∷ past) = BeginsNew e past × AllBegin past

-- of any end, up or not, in a group: while its side is in the group it has the side's live links, before that none, and after the group's end
-- its group stands no more
pub record HasLiveIn (setup : Setup) (payload : List ℕ) (x : Side) (s g : ℕ) (past : List Entry) : Type 0 where
  -- Report, Deliver and Clc change the live links of a side
  pub here : group_of x past ≡ g → ((half x (pipe_of setup payload g s past)).live ≡ live_links (table_of x past)) × ((half x (pipe_of setup payload g s past)).stands ≡ true)
  -- Clc begins the group
  pub before : (group_of x past ≡ g → ⊥) → has_ended x g past ≡ false → ((half x (pipe_of setup payload g s past)).live ≡ []) × ((half x (pipe_of setup payload g s past)).stands ≡ true)
  -- Report and Deliver end the group
  pub ended : has_ended x g past ≡ true → (half x (pipe_of setup payload g s past)).stands ≡ false

-- of offers and links, word for word as the agreement of wires and pipes wants it
pub record OwedPlain (setup : Setup) (past : List Entry) : Type 0 where
  -- Clc, on known sockets
  pub known : (x : Side) (s : ℕ) (o : Offered) → offered x s past ≡ Some o → s < setup.sockets
  -- Clc: an offer has the next token
  pub tokens : (x : Side) (s t : ℕ) (o r : Offered) → offered x s past ≡ Some o → offered x t past ≡ Some r → o.offer.token ≡ r.offer.token → s ≡ t
  -- Clc: A offers as it takes B's Accept
  pub answer : (s : ℕ) → offered B s past ≡ None → offered A s past ≡ None
  -- Clc: no group has the number 0
  pub grouped : (s : ℕ) (o : Offered) → offered B s past ≡ Some o → (o.link.group == 0) ≡ false
  -- Clc and Deliver: a slot is made anew with a higher incarnation
  pub again : (x : Side) (link : LinkId) → stands link (table_of x past) ≡ true → is_lost x link past ≡ false

-- what is owed with an entry: offers stay, and an end comes up once, where its peer has offered
pub record OffersGoOn (e : Entry) (past : List Entry) : Type 0 where
  -- Clc: a side offers on a socket once
  pub kept : (x : Side) (s : ℕ) (o : Offered) → offered x s past ≡ Some o → offered x s (e ∷ past) ≡ Some o
  -- Clc and Deliver: who comes up waited for it
  pub once : (x : Side) (s : ℕ) (link : LinkId) → comes_up x s e past ≡ Some link → is_up x s past ≡ false
  -- Clc in later contact, Deliver in first contact: the peer has offered before
  pub answers : (x : Side) (s : ℕ) (link : LinkId) → comes_up x s e past ≡ Some link → (o : Offered) × (offered (other x) s past ≡ Some o)

-- what the agreement wants, after a history and with each of its entries
abbrev pub AllPlain : Setup → List ℕ → List Entry → Type 0
AllPlain setup payload [] = OwedPlain setup [] × HasLive setup payload []
AllPlain setup payload (e ∷ past) = (OwedPlain setup (e ∷ past) × HasLive setup payload (e ∷ past)) × ((OffersGoOn e past × LivesOn e past) × AllPlain setup payload past)
