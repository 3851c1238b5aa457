-- One link beside the private pipes of the connections that share it.
-- A reader learns here which CDC messages on a link are those of an end, what its pipe has under way, when the two agree, and how an entry moves the posts of a side there.
use Rattle.std.specs.Prelude.{Bool, List, None, Option, Some, [], false, filter_map, if◌then◌else◌, length, map, take, true, ℕ, ◌&&◌, ◌++◌, ◌-◌, ◌==◌, ◌∷◌, ◌≡◌, ◌≤◌}
use Rattle.pipe_model.specs.declared.sent.Sent.{Sent}
use Rattle.pipe_model.specs.Wires.{completes_on, lands_on}
use Rattle.pipe_model.specs.Ends.{fresh}
use Rattle.history_laws.specs.Words.{Cdc, CdcMessage, Entry, Half, LinkId, Offered, Placed, Post, Side, head, if_latest, leaves, post_at, same_link, same_side, spelled, to_complete, to_land, uncompleted, unlanded, validation}

-- the message, where it is meant
abbrev pub if_meant : Bool → CdcMessage → Option CdcMessage
if_meant true m = Some m
if_meant false m = None

-- the CDC message of a side under a token in a post
abbrev pub cdc_under : Side → ℕ → Post → Option CdcMessage
cdc_under x token (Cdc from link m) = if_meant (same_side x from && (token == m.token)) m
cdc_under x token _ = None

-- the CDC messages of a side under a token among placed posts
abbrev pub cdcs : Side → ℕ → List Placed → List CdcMessage
cdcs x token placed = filter_map (cdc_under x token) (map (λ c. c.post) placed)

-- the CDC message for what an end has sent, under its peer's token
abbrev pub message : ℕ → ℕ → Sent → CdcMessage
message size token m = if m.check then validation size token m.snapshot else spelled size token m.snapshot

-- what an end sent that has landed and not completed, the oldest first
abbrev pub returning : Half → List Sent
returning h = take (h.landed - h.completed) (to_complete h)

-- that a wire carries, under a token, just what an end has under way
pub record IsCarried (size : ℕ) (link : LinkId) (x : Side) (token : ℕ) (past : List Entry) (h : Half) : Type 0 where
  -- each event in which the end posts; Deliver takes the first away
  pub landing : cdcs x token (unlanded link x past) ≡ map (message size token) (to_land h)
  -- Deliver brings one, Complete and Swallow take the first away
  pub completing : cdcs x token (uncompleted link x past) ≡ map (message size token) (returning h)

-- that of an end so many messages have landed and completed now, and that it has sent some more since
pub record HasGone (before now : Half) (landed completed : ℕ) : Type 0 where
  pub landed_is : now.landed ≡ landed
  pub completed_is : now.completed ≡ completed
  pub more : List Sent
  pub sent_is : now.sent ≡ before.sent ++ more

-- how many posts of a side leave a link with an entry, how many land, and how many complete
abbrev pub leaving : LinkId → Side → Entry → List Entry → ℕ
leaving link x e past = if_latest link past (leaves x link.slot e.event e.reply)

abbrev pub landing_now : LinkId → Side → Entry → List Entry → ℕ
landing_now link x e past = if_latest link past (lands_on x link.slot e.event e.reply)

abbrev pub completing_now : LinkId → Side → Entry → List Entry → ℕ
completing_now link x e past = if_latest link past (completes_on x link.slot e.event e.reply)

-- nothing of a side leaves the link
pub record Stays (link : LinkId) (x : Side) (e : Entry) (past : List Entry) : Type 0 where
  pub leaves : leaving link x e past ≡ 0
  pub lands : landing_now link x e past ≡ 0
  pub completes : completing_now link x e past ≡ 0

-- the next post of a side lands
pub record LandsNow (link : LinkId) (x : Side) (e : Entry) (past : List Entry) : Type 0 where
  pub first : Placed
  pub rest : List Placed
  pub waiting : unlanded link x past ≡ first ∷ rest
  pub leaves : leaving link x e past ≡ 1
  pub lands : landing_now link x e past ≡ 1
  pub completes : completing_now link x e past ≡ 0

-- the oldest landed post of a side completes
pub record CompletesNow (link : LinkId) (x : Side) (e : Entry) (past : List Entry) : Type 0 where
  pub first : Placed
  pub rest : List Placed
  pub waiting : uncompleted link x past ≡ first ∷ rest
  pub leaves : leaving link x e past ≡ 0
  pub lands : landing_now link x e past ≡ 0
  pub completes : completing_now link x e past ≡ 1

-- that a placed post stands in the history at its place
pub record IsPlaced (past : List Entry) (c : Placed) : Type 0 where
  pub within : c.at.entry ≤ length past
  pub is : post_at c.at past ≡ Some c.post

-- that something holds of each placed post
abbrev pub EachPlaced : (Placed → Type 0) → List Placed → Type 0
EachPlaced P [] = Unit {0}
EachPlaced P (c ∷ cs) = P c × EachPlaced P cs

-- that an offer has another token, where there is one
abbrev pub IsElse : ℕ → Option Offered → Type 0
IsElse token None = Unit {0}
IsElse token (Some o) = (token == o.offer.token) ≡ false

-- the message of an end that lands next, and the one that completes next, where one has landed and not completed
abbrev pub next_to_land : Half → Option Sent
next_to_land h = head (to_land h)

-- an end, where its link is this one; else an end that has sent nothing
abbrev pub here : LinkId → Half → Half
here link h = if same_link link h.link then h else fresh 0
