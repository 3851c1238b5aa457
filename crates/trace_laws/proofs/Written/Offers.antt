-- What handshakes post is bounded: Accepts, Confirms, the request to confirm a link, and the request for a key.
use Rattle.std.proofs.Common.{Bool, List, None, Option, Some, [], arith, false, filter_map, if◌then◌else◌, length, true, ℕ, ◌*◌, ◌+◌, ◌==◌, ◌∷◌, ◌≤◌}
use Rattle.std.specs.Prelude.{option_map, unwrap_or}
use Rattle.std.specs.List.{cons_option}
use Rattle.std.specs.Option.{option_or}
use Rattle.clc_wire.specs.declared.message.ClcMessage.TheVariants.{Accept as AcceptMessage, Confirm as ConfirmMessage, Decline as DeclineMessage, Proposal as ProposalMessage}
use Rattle.pipe_model.specs.declared.post.Post.TheVariants.{Clc}
use Rattle.pipe_model.specs.Messages.{next_pair}
use Rattle.history_laws.specs.Words.{A, AskKey, B, ClcMessage, ClcStep, Decline, Entry, Faulty, Fell, Front, LinkId, Llc, Lost, NoMessage, Offer, Offered, Post, Ready, SendAccept, SendConfirm, Setup, Side, Wait, Whole, Wrong, clc_posts, clc_step, confirm_link, fewest, first_link, front_posts, groups_begun, head, live_links, lowest_live, named_link, new_offer, no_link, offer_in, offered, offered_if, pair_on, path_up, peer_of, ready_posts, table_of, fabric}
use Rattle.history_laws.specs.Posts.{EachPost}
use Rattle.trace_laws.specs.Codes.{HasCodes}
use Rattle.trace_laws.proofs.Written.Bounds.{AreEntriesIn, IsLinkIn, IsOfferIn, IsOfferedIn, IsPostIn}
use Rattle.trace_laws.proofs.Written.Counts.{pair-most, serial-most}
use Rattle.trace_laws.proofs.Written.Links.{IsFabricIn, IsPeerIn, peer-in}
use Rattle.trace_laws.proofs.Written.Tables.{first-in, found-in, lightest-in, live-in, none-in}

module _ (most count : ℕ) where
  -- the offer that a side has made on a socket
  if-in : (b : Bool) (link : LinkId) (o : Offer) → IsLinkIn most count link → IsOfferedIn most count (offered_if b link o)
  if-in true link o i = i
  if-in false link o i = tt

  offer-in : (x : Side) (s : ℕ) (p : Post) → IsPostIn most count p → IsOfferedIn most count (offer_in x s p)
  offer-in B s (Clc B t (Some link) (AcceptMessage o)) i = if-in (s == t) link o i.0
  offer-in A s (Clc A t (Some link) (ConfirmMessage o)) i = if-in (s == t) link o i.0
  offer-in _ s _ i = tt

  or-in : (o p : Option Offered) → IsOfferedIn most count o → IsOfferedIn most count p → IsOfferedIn most count (option_or o p)
  or-in None p i j = j
  or-in (Some o) p i j = i

  head-in : (x : Side) (s : ℕ) (posts : List Post) → EachPost (IsPostIn most count) posts → IsOfferedIn most count (head (filter_map (offer_in x s) posts))
  head-in x s [] i = tt
  head-in x s (p ∷ posts) i = by (offer_in x s p) (offer-in x s p i.0) (head-in x s posts i.1)
    where
      by : (o : Option Offered) → IsOfferedIn most count o → IsOfferedIn most count (head (filter_map (offer_in x s) posts)) → IsOfferedIn most count (head (cons_option o (filter_map (offer_in x s) posts)))
      by None i j = j
      by (Some o) i j = i

  offered-in : (x : Side) (s : ℕ) (past : List Entry) → AreEntriesIn most count past → IsOfferedIn most count (offered x s past)
  offered-in x s [] i = tt
  offered-in x s (e ∷ past) i = or-in (head (filter_map (offer_in x s) e.posts)) (offered x s past) (head-in x s e.posts i.0) (offered-in x s past i.1)

  -- the link that the Accept on a socket names, or none
  pub named-link-in : (s : ℕ) (past : List Entry) → AreEntriesIn most count past → IsLinkIn most count (unwrap_or (named_link s past) no_link)
  named-link-in s past i = by (offered B s past) (offered-in B s past i)
    where
      by : (o : Option Offered) → IsOfferedIn most count o → IsLinkIn most count (unwrap_or (option_map (λ (q : Offered). q.link) o) no_link)
      by None j = none-in most count
      by (Some o) j = j

module _ (setup : Setup) (codes : HasCodes setup) (payload : List ℕ) (past : List Entry) (count : ℕ) (room : length past + 1 ≤ count) where
  -- the number of a queue pair
  pub pair-in : (x : Side) (k : ℕ) → k ≤ setup.links → pair_on x k past ≤ 16 * count + setup.links
  pair-in x k l = let p = pair-most x k past in omega (arith, p, l, room)

  pub next-in : (x : Side) (k : ℕ) → k ≤ setup.links → next_pair x k past ≤ 16 * count + setup.links
  next-in x k l = let s = serial-most x past in omega (arith, s, l, room)

  -- an offer for a link
  new-in : (x : Side) (first : Bool) (link : LinkId) → IsLinkIn setup.links count link → IsOfferIn setup.links count (new_offer setup payload x first link past)
  new-in x first link l = record { qp = by first; size = codes.size; mtu = omega arith; psn = l.group }
    where
      by : (b : Bool) → (if b then next_pair x link.slot past else pair_on x link.slot past) ≤ 16 * count + setup.links
      by true = next-in x link.slot l.slot
      by false = pair-in x link.slot l.slot

  module _ (groups : groups_begun past ≤ length past) (entries : AreEntriesIn setup.links count past) (links : IsFabricIn setup.links count (fabric past)) where
    first-link-in : IsLinkIn setup.links count (first_link setup past)
    first-link-in = record { slot = first-in (λ k. path_up k past) setup.links; group = omega (arith, groups, room) }

    table-in : (x : Side) → IsPeerIn setup.links count (peer_of x past)
    table-in x = peer-in setup.links count x (fabric past) links

    fewest-in : IsLinkIn setup.links count (fewest setup payload past)
    fewest-in = lightest-in setup.links count _ (live_links (table_of B past)) (live-in setup.links count (table_of B past) (let p = table-in B in p.table))

    offer-post-in : (x : Side) (s : ℕ) (first : Bool) (link : LinkId) → IsLinkIn setup.links count link → IsLinkIn setup.links count link × IsOfferIn setup.links count (new_offer setup payload x first link past)
    offer-post-in x s first link l = (l, new-in x first link l)

    ready-in : (s : ℕ) (m : ClcMessage) → EachPost (IsPostIn setup.links count) (ready_posts setup s m past)
    ready-in s (ConfirmMessage o) = by o.first
      where
        link : LinkId
        link = unwrap_or (named_link s past) no_link

        named : IsLinkIn setup.links count link
        named = named-link-in setup.links count s past entries

        by : (b : Bool) → EachPost (IsPostIn setup.links count) (if b then Llc B link (confirm_link setup B false link (pair_on B link.slot past)) ∷ [] else [])
        by true = ((named, (pair-in B link.slot named.slot, named.slot)), tt)
        by false = tt
    ready-in s (ProposalMessage p) = tt
    ready-in s (AcceptMessage o) = tt
    ready-in s (DeclineMessage r) = tt

    verdict-in : (x : Side) (s : ℕ) (m : ClcMessage) (step : ClcStep) → EachPost (IsPostIn setup.links count) (clc_posts setup payload x s m past step)
    verdict-in x s m (SendAccept true) = (offer-post-in B s true (first_link setup past) first-link-in, tt)
    verdict-in x s m (SendAccept false) = (offer-post-in B s false (fewest setup payload past) fewest-in, tt)
    verdict-in x s m (SendConfirm first) = (offer-post-in A s first (unwrap_or (named_link s past) no_link) (named-link-in setup.links count s past entries), tt)
    verdict-in x s m AskKey = ((found-in setup.links count (lowest_live (table_of x past)) (table_of x past) (let p = table-in x in p.table), tt), tt)
    verdict-in x s m (Decline lack) = (tt, tt)
    verdict-in x s m Ready = ready-in s m
    verdict-in x s m (Wait hold) = tt
    verdict-in x s m Fell = tt
    verdict-in x s m Lost = tt
    verdict-in x s m (Wrong kind) = tt

    -- what an end posts for the message that stands in front
    pub front-in : (x : Side) (s : ℕ) (f : Front) → EachPost (IsPostIn setup.links count) (front_posts setup payload x s past f)
    front-in x s NoMessage = tt
    front-in x s (Faulty fault) = tt
    front-in x s (Whole m len) = verdict-in x s m (clc_step setup payload x s m past)
