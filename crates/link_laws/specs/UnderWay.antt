-- The messages of one kind among posts and on wires, and that nothing of the kind is under way on links that are not dead but one message.
-- A reader learns here the form in which each flow of requests is followed over the wires; a kind is a test of sender, link and message.
use Rattle.std.specs.Prelude.{Bool, List, None, Option, Some, [], false, if◌then◌else◌, not, option_map, true, ◌&&◌, ◌<◌, ◌∷◌, ◌≡◌, ◌≤◌, ◌⊎◌}
use Rattle.std.specs.Option.{option_or}
use Rattle.std.specs.List.{cons_option}
use Rattle.history_laws.specs.Words.{Entry, Fabric, LinkId, Llc, LlcMessage, Placed, Post, Side, fabric, is_dead, made_on, unlanded}
use Rattle.link_laws.specs.Linked.{AreLinked, Under, carried_on, is_link_message}

-- the message of a kind in a post
abbrev pub kind_of : (Under → Bool) → Post → Option Under
kind_of kind (Llc from link m) = if kind (record { from = from; link = link; message = m }) then Some (record { from = from; link = link; message = m }) else None
kind_of kind post = None

-- the first of a kind among posts
abbrev pub kind_in : (Under → Bool) → List Post → Option Under
kind_in kind [] = None
kind_in kind (post ∷ posts) = option_or (kind_of kind post) (kind_in kind posts)

-- the messages of a kind among placed posts
abbrev pub kind_messages : (Under → Bool) → List Placed → List LlcMessage
kind_messages kind [] = []
kind_messages kind (c ∷ cs) = cons_option (option_map (λ (w : Under). w.message) (kind_of kind c.post)) (kind_messages kind cs)

-- at most one of these posts is of a kind
abbrev pub HasOneOf : (Under → Bool) → List Post → Type 0
HasOneOf kind [] = Unit {0}
HasOneOf kind (post ∷ posts) = ((kind_of kind post ≡ None) ⊎ (kind_in kind posts ≡ None)) × HasOneOf kind posts

-- any LLC message
abbrev pub any_kind : Under → Bool
any_kind w = true

-- the messages of the link flow
abbrev pub link_kind : Under → Bool
link_kind w = is_link_message w.message

-- the messages of a kind whose link is not dead after a history
abbrev pub still : (Under → Bool) → List Entry → Under → Bool
still kind past w = kind w && not (is_dead w.link past)

-- what is under way is forgotten as soon as its link is dead
abbrev pub living : List Entry → Option Under → Option Under
living past None = None
living past (Some w) = if is_dead w.link past then None else Some w

-- on links that are not dead nothing of a kind is under way but that message, and the link of that message is not dead
pub record AreCarriedOf (kind : Under → Bool) (past : List Entry) (under : Option Under) : Type 0 where
  -- Report and Cut: the message is forgotten with its link
  pub alive : (w : Under) → under ≡ Some w → is_dead w.link past ≡ false
  -- Deliver and Swallow take it away; each event that posts brings one, where none was
  pub carried : (l : LinkId) (x : Side) → is_dead l past ≡ false → kind_messages kind (unlanded l x past) ≡ carried_on l x under

-- a link that is not made yet: of a later incarnation than its slot has
abbrev pub IsUnmade : LinkId → Fabric → Type 0
IsUnmade l f = made_on l.slot f < l.incarnation

-- no LLC message waits on a link that is not made yet
pub record AreEmpty (past : List Entry) : Type 0 where
  -- Clc and Deliver make a link, and post on links that were made
  pub empty : (l : LinkId) (x : Side) → IsUnmade l (fabric past) → kind_messages any_kind (unlanded l x past) ≡ []

-- each of these LLC messages is on a link that was made
abbrev pub AreOnMade : Fabric → List Post → Type 0
AreOnMade f [] = Unit {0}
AreOnMade f (Llc from link m ∷ posts) = (link.incarnation ≤ made_on link.slot f) × AreOnMade f posts
AreOnMade f (post ∷ posts) = AreOnMade f posts

-- links, groups, flows and what is under way of the link flow, after a history; and no LLC message is on a link that is not made yet
pub record HasFlows (past : List Entry) : Type 0 where
  -- what is under way of the link flow
  pub under : Option Under
  -- and fits both sides
  pub linked : AreLinked (fabric past) under
  -- on the links that are not dead
  pub carried : AreCarriedOf link_kind past under
  -- so that a new link begins with empty wires
  pub empty : AreEmpty past
