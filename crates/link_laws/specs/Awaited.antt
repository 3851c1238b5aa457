-- In first contact an end waits for its link: what is so of the ends of the socket whose offer began the group, and on which sockets messages are taken.
-- A reader learns here why the end that comes up with a first link was waiting for it.
use Rattle.std.specs.Prelude.{List, Option, Some, [], option_and_then, true, ℕ, ◌<◌, ◌∷◌, ◌≡◌, ◌⊎◌}
use Rattle.pipe_model.specs.declared.event.Event.TheVariants.{Clc as ClcEvent}
use Rattle.history_laws.specs.Words.{A, B, Entry, LinkId, Offered, Setup, Side, WaitsLink, act_in, confirmed_by, end_state, flow_of, group_of, is_first_contact, offered}
use Rattle.link_laws.specs.Linked.{Under}
use Rattle.link_laws.specs.Contact.{IsJoinedFirst, IsOfferedFirst}

-- the link whose confirmation in first contact establishes an end with an entry
abbrev pub first_up : Side → ℕ → Entry → List Entry → Option LinkId
first_up x s e past = option_and_then (λ act. confirmed_by (offered B s past) act.link act.step) (act_in x e past)

-- the least that is owed with an entry: CLC messages are taken on known sockets; and where the first link of a group is confirmed at a
-- side, the end for which it was made waits for it
pub record LeastWith (setup : Setup) (e : Entry) (past : List Entry) : Type 0 where
  -- Clc
  pub known : (s : ℕ) (dir : Side) → e.event ≡ ClcEvent s dir → s < setup.sockets
  -- Deliver: CONFIRM LINK at A, or its reply at B
  pub first : (x : Side) (s : ℕ) (link : LinkId) → first_up x s e past ≡ Some link → end_state x s past ≡ WaitsLink

-- and with each entry what is owed with it
abbrev pub AllWith : Setup → List Entry → Type 0
AllWith setup [] = Unit {0}
AllWith setup (e ∷ past) = LeastWith setup e past × AllWith setup past

-- no two offers of first contact are of one group; while A is in first contact in the group of one, the end at A of its socket waits for the
-- link; and while B is, so does the end at B, or the offer is in its row
pub record AreAwaited (past : List Entry) (under : Option Under) : Type 0 where
  -- Clc: the group that B begins is new
  pub lone : (s t : ℕ) (o q : Offered) → offered B s past ≡ Some o → offered B t past ≡ Some q → o.offer.first ≡ true → q.offer.first ≡ true → o.link.group ≡ q.link.group → s ≡ t
  -- Clc: A joins and its end waits; Report resets the end only with its group
  pub at_a : (s : ℕ) (o : Offered) → offered B s past ≡ Some o → o.offer.first ≡ true → is_first_contact (flow_of A past).link ≡ true → group_of A past ≡ o.link.group → end_state A s past ≡ WaitsLink
  -- Clc: B takes the Confirm and its end waits; Report resets the end only with its group
  pub at_b : (s : ℕ) (o : Offered) → offered B s past ≡ Some o → o.offer.first ≡ true → is_first_contact (flow_of B past).link ≡ true → group_of B past ≡ o.link.group → (end_state B s past ≡ WaitsLink) ⊎ (IsOfferedFirst s o past ⊎ ((p : Offered) × IsJoinedFirst s o p past under))

-- CLC messages are taken on known sockets
abbrev pub IsOnKnown : Setup → Entry → Type 0
IsOnKnown setup e = (s : ℕ) (dir : Side) → e.event ≡ ClcEvent s dir → s < setup.sockets

-- with each entry of a history
abbrev pub AreOnKnown : Setup → List Entry → Type 0
AreOnKnown setup [] = Unit {0}
AreOnKnown setup (e ∷ past) = IsOnKnown setup e × AreOnKnown setup past
