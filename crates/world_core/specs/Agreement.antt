-- What the pipes take from the handshake: the one link, the offers and the ends that come up.
-- A reader learns here which facts of links and sockets the agreement of wires and pipes rests on, and what it says.
use Rattle.std.specs.Prelude.{◌≡◌, ◌⊎◌, ◌<◌, ◌≤◌, ◌==◌, length, ℕ, true, false, if◌then◌else◌, nat_lt, List, [], ◌∷◌, Option, Some, None, ◌++◌, reverse}
use Rattle.smc_num.specs.declared.Side.{Side}
use Rattle.smc_num.specs.declared.Side.TheVariants.{A, B}
use Rattle.smc_num.specs.declared.LinkId.{LinkId}
use Rattle.smc_num.specs.declared.LinkPhase.TheVariants.{Live}
use Rattle.smc_num.specs.Names.{other, head}
use Rattle.cdc_wire.specs.declared.CdcMessage.{CdcMessage}
use Rattle.pipe_model.specs.declared.setup.Setup.{Setup}
use Rattle.pipe_model.specs.declared.sent.Sent.{Sent}
use Rattle.pipe_model.specs.Snapshot.{spelled}
use Rattle.pipe_model.specs.declared.post.Post.{Post}
use Rattle.pipe_model.specs.declared.post.PostRef.{PostRef}
use Rattle.pipe_model.specs.declared.entry.Entry.{Entry}
use Rattle.pipe_model.specs.Words.{element_size}
use Rattle.pipe_model.specs.History.{Offered, offered, post_at, is_cdc}
use Rattle.pipe_model.specs.Fabric.{latest, loses_group_with}
use Rattle.pipe_model.specs.Wires.{is_dead, unlanded, uncompleted}
use Rattle.pipe_model.specs.Pipe.{Terms, Item, Fate, half, is_near_part, posts_of}
use Rattle.pipe_model.specs.Ends.{Half, is_over, to_land, to_complete}
use Rattle.pipe_model.specs.Parts.{IsFeasible, has_swallow}
use Rattle.pipe_model.specs.Connections.{comes_up, is_up, ups, fates, deeds, if_own, items, part, group_on}
use Rattle.pipe_model.specs.Lending.{terms_of, pipe_of, lends_by, record_of}
use Rattle.pipe_model.specs.Posts.{sent_posts, connection_posts}
use Rattle.world_core.specs.OneLink.{the_link}
use Rattle.pipe_model.specs.Lawful.{draft}
use Rattle.world_core.specs.WireSteps.{Way}
use Rattle.world_core.specs.Wired.{cdcs, IsCarried, IsOpenEnd, IsOpenSent, IsOnLink}

-- the latest link of the slot: none, or the one link, which is not dead
abbrev pub IsOnlyLink : List Entry → Type 0
IsOnlyLink past = (latest 1 past ≡ None) ⊎ ((latest 1 past ≡ Some the_link) × (is_dead the_link past ≡ false))

-- what holds of the offers after a history: all are on the one link, on known sockets and under different tokens of their side,
-- and A offers only where B has
pub record HasOffers (setup : Setup) (past : List Entry) : Type 0 where
  pub link : (x : Side) (s : ℕ) (o : Offered) → offered x s past ≡ Some o → o.link ≡ the_link
  pub known : (x : Side) (s : ℕ) (o : Offered) → offered x s past ≡ Some o → s < setup.sockets
  pub tokens : (x : Side) (s t : ℕ) (o r : Offered) → offered x s past ≡ Some o → offered x t past ≡ Some r → o.offer.token ≡ r.offer.token → s ≡ t
  pub answer : (s : ℕ) → offered B s past ≡ None → offered A s past ≡ None

-- what the link does at a side with an entry: nothing, or it becomes live there, before which no end of that side is up
abbrev pub IsCalm : Side → Entry → List Entry → Type 0
IsCalm x e past = (fates x 1 e past ≡ []) ⊎ ((fates x 1 e past ≡ Fate x the_link Live ∷ []) × ((s : ℕ) → is_up x s past ≡ false))

-- what an entry does to offers and ends: offers stay, an end comes up on the one link where its peer had offered, and no group ends
pub record GoesOn (e : Entry) (past : List Entry) : Type 0 where
  pub kept : (x : Side) (s : ℕ) (o : Offered) → offered x s past ≡ Some o → offered x s (e ∷ past) ≡ Some o
  pub ups : (x : Side) (s : ℕ) (link : LinkId) → comes_up x s e past ≡ Some link → (link ≡ the_link) × ((o : Offered) × (offered (other x) s past ≡ Some o))
  pub stands : (x : Side) (group : ℕ) → loses_group_with x group e past ≡ false

-- what the pipes take from the handshake, after a history and with each of its entries
abbrev pub IsShaken : Setup → List Entry → Type 0
IsShaken setup [] = HasOffers setup []
IsShaken setup (e ∷ past) = HasOffers setup (e ∷ past) × (IsOnlyLink past × (GoesOn e past × IsShaken setup past))

-- that an offer has another token, where there is one
abbrev pub IsElse : ℕ → Option Offered → Type 0
IsElse token None = Unit {0}
IsElse token (Some o) = (token == o.offer.token) ≡ false

-- that the one link carries nothing of a side under a token that no offer of its peer gave
pub record CarriesNoStranger (x : Side) (past : List Entry) : Type 0 where
  pub landing : (token : ℕ) → ((s : ℕ) → IsElse token (offered (other x) s past)) → cdcs x token (unlanded the_link x past) ≡ []
  pub completing : (token : ℕ) → ((s : ℕ) → IsElse token (offered (other x) s past)) → cdcs x token (uncompleted the_link x past) ≡ []

-- that a part can be, and nothing was swallowed in it
pub record CanBe (t : Terms) (items : List Item) : Type 0 where
  pub feasible : IsFeasible t items
  pub whole : has_swallow t items ≡ false

-- that wires and pipes agree: each part can be, and the one link carries of each end what it has under way, and nothing else
pub record Agree (setup : Setup) (payload : List ℕ) (past : List Entry) : Type 0 where
  pub part_can_be : (s : ℕ) → CanBe (terms_of setup) (part payload 1 s past)
  pub carried : (x : Side) (s : ℕ) (o : Offered) → offered (other x) s past ≡ Some o → IsCarried (element_size setup) the_link x o.offer.token past (half x (pipe_of setup payload 1 s past))
  pub strange : (x : Side) → CarriesNoStranger x past

-- what holds of the connection of a socket, offered or not, in its own group: its part can be, nothing in it was swallowed, its
-- ends are open, and an end is up just where that of the socket is
pub record HasPipe (setup : Setup) (payload : List ℕ) (s : ℕ) (past : List Entry) : Type 0 where
  pub can_be : CanBe (terms_of setup) (part payload (group_on s past) s past)
  pub near : is_near_part (terms_of setup) (part payload (group_on s past) s past) ≡ true
  pub open_end : (x : Side) → IsOpenEnd (half x (pipe_of setup payload (group_on s past) s past))
  pub not_over : (x : Side) → is_over (half x (pipe_of setup payload (group_on s past) s past)) ≡ false
  pub up : (x : Side) → (half x (pipe_of setup payload (group_on s past) s past)).up ≡ is_up x s past
  pub idle : (x : Side) → is_up x s past ≡ false → (half x (pipe_of setup payload (group_on s past) s past)).sent ≡ []
  pub on_link : (x : Side) → IsOnLink the_link (half x (pipe_of setup payload (group_on s past) s past))

-- that a CDC message on the link spells what an end sent, which is this in the end's own list, under the token of its peer's offer
pub record Spelling (setup : Setup) (payload : List ℕ) (x : Side) (past : List Entry) (m : CdcMessage) (place : Half → Option Sent) : Type 0 where
  pub s : ℕ
  pub offer : Offered
  pub offered_is : offered (other x) s past ≡ Some offer
  pub token : m.token ≡ offer.offer.token
  pub sent : Sent
  pub sent_is : place (half x (pipe_of setup payload (group_on s past) s past)) ≡ Some sent
  pub open_sent : IsOpenSent sent
  pub spells : m ≡ spelled (element_size setup) m.token sent.snapshot

-- the message of an end that lands next, and the one that completes next, where one has landed and not completed
abbrev pub next_to_land : Half → Option Sent
next_to_land h = head (to_land h)

abbrev pub next_to_complete : Half → Option Sent
next_to_complete h = if nat_lt h.completed h.landed then head (to_complete h) else None

-- that all pipes together post with an entry the writes and the CDC message of one message of one end
pub record PostsOne (setup : Setup) (payload : List ℕ) (e : Entry) (past : List Entry) : Type 0 where
  pub x : Side
  pub s : ℕ
  pub offer : Offered
  pub offered_is : offered (other x) s past ≡ Some offer
  pub sent : Sent
  pub sent_is : posts_of (terms_of setup) x (items payload 1 s e past) (part payload 1 s past) ≡ sent ∷ []
  pub posts_are : connection_posts setup payload e past ≡ sent_posts (element_size setup) x (Some offer) (e ∷ past) sent
  pub few : length (connection_posts setup payload e past) ≤ 3

-- what all pipes post with an entry: nothing, or that
abbrev pub PostsFew : Setup → List ℕ → Entry → List Entry → Type 0
PostsFew setup payload e past = (connection_posts setup payload e past ≡ []) ⊎ PostsOne setup payload e past

-- what a played entry gives the connection of a socket: its deeds, above the establishments, above the fates of the one link, and no
-- end of a group; the draft of its posts gives the same; an end comes up on the one link where its peer has offered; and of each
-- side a post lands, completes, or neither
pub record GivesItems (setup : Setup) (payload : List ℕ) (before : ℕ) (e : Entry) (past : List Entry) : Type 0 where
  pub of_draft : (group s : ℕ) → items payload group s (draft setup payload past before e.event) past ≡ items payload group s e past
  pub items_are : (s : ℕ) → items payload 1 s e past ≡ deeds payload s e.event e.reply past ++ (reverse (ups A s e past ++ ups B s e past) ++ reverse (fates A 1 e past ++ fates B 1 e past))
  pub calm : (x : Side) → IsCalm x e past
  pub goes_on : GoesOn e past
  pub way : (x : Side) → Way payload the_link x e past

-- that a landing or completion of a post at a place is a connection's own just where the post is a CDC message under the token that
-- the peer of its end offered
abbrev pub IsOwnUnderToken : Item → Side → ℕ → PostRef → Offered → Post → List Entry → Type 0
IsOwnUnderToken item x s at o post past = offered (other x) s past ≡ Some o → post_at at past ≡ Some post → if_own item x s (Some at) past ≡ (if is_cdc x o.offer.token post then item ∷ [] else [])

-- that the token of a CDC message which lands next names the record of the end that its sender's peer offered, so that it is not dropped
pub record NamesRecord (setup : Setup) (payload : List ℕ) (x : Side) (past : List Entry) (m : CdcMessage) : Type 0 where
  pub spelling : Spelling setup payload x past m next_to_land
  pub named : record_of setup payload (other x) m.token past ≡ Some (lends_by spelling.s the_link spelling.offer.offer)
