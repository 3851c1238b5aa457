-- What bounds the numbers in posts: slots, groups and queue pairs. Where they are so bounded a post can be written.
use Rattle.std.proofs.Common.{List, Option, None, Some, [], arith, ℕ, ◌*◌, ◌+◌, ◌<◌, ◌^◌, ◌∷◌, ◌≤◌}
use Rattle.clc_wire.specs.declared.message.ClcMessage.TheVariants.{Accept as AcceptMessage, Confirm as ConfirmMessage, Decline as DeclineMessage, Proposal as ProposalMessage}
use Rattle.pipe_model.specs.declared.post.Post.TheVariants.{Clc, Write}
use Rattle.history_laws.specs.Words.{AddKeys, AddLink, Cdc, ClcMessage, ConfirmLink, ConfirmRkey, DeleteLink, DeleteRkey, Entry, LinkId, Llc, LlcMessage, Offer, Offered, Post, TestLink}
use Rattle.history_laws.specs.Posts.{EachPost}
use Rattle.wire_trace.specs.Traced.{IsWritable}

-- a link, or no link: its slot is at most the most one, and its group is among so many
pub record IsLinkIn (most count : ℕ) (link : LinkId) : Type 0 where
  pub slot : link.slot ≤ most
  pub group : link.group ≤ count

-- an offer of such a group
pub record IsOfferIn (most count : ℕ) (o : Offer) : Type 0 where
  pub qp : o.qp ≤ 16 * count + most
  pub size : o.size < 16
  pub mtu : o.mtu < 16
  pub psn : o.psn ≤ count

abbrev pub IsClcIn : ℕ → ℕ → ClcMessage → Type 0
IsClcIn most count (ProposalMessage p) = Unit {0}
IsClcIn most count (AcceptMessage o) = IsOfferIn most count o
IsClcIn most count (ConfirmMessage o) = IsOfferIn most count o
IsClcIn most count (DeclineMessage r) = Unit {0}

-- a message of the flows, which names such a slot where it names one
abbrev pub IsLlcIn : ℕ → ℕ → LlcMessage → Type 0
IsLlcIn most count (ConfirmLink reply mac gid qp k user links) = (qp ≤ 16 * count + most) × (k ≤ most)
IsLlcIn most count (AddLink reply rejected reason mac gid qp k mtu psn) = (reason < 16) × (qp ≤ 16 * count + most) × (mtu < 16) × (psn ≤ count) × (k ≤ most)
IsLlcIn most count (AddKeys reply k number keys) = k ≤ most
IsLlcIn most count (DeleteLink reply every orderly k reason) = k ≤ most
IsLlcIn most count (ConfirmRkey reply retry negative others tokens) = Unit {0}
IsLlcIn most count (TestLink reply bytes) = Unit {0}
IsLlcIn most count (DeleteRkey reply negative number mask keys) = Unit {0}

abbrev pub IsPostIn : ℕ → ℕ → Post → Type 0
IsPostIn most count (Write from link key address len) = Unit {0}
IsPostIn most count (Cdc from link m) = Unit {0}
IsPostIn most count (Llc from link m) = IsLinkIn most count link × IsLlcIn most count m
IsPostIn most count (Clc from s None m) = IsClcIn most count m
IsPostIn most count (Clc from s (Some link) m) = IsLinkIn most count link × IsClcIn most count m

-- each post of each entry
abbrev pub AreEntriesIn : ℕ → ℕ → List Entry → Type 0
AreEntriesIn most count [] = Unit {0}
AreEntriesIn most count (e ∷ past) = EachPost (IsPostIn most count) e.posts × AreEntriesIn most count past

-- the link of an offer, where there is one
abbrev pub IsOfferedIn : ℕ → ℕ → Option Offered → Type 0
IsOfferedIn most count None = Unit {0}
IsOfferedIn most count (Some o) = IsLinkIn most count o.link

module _ (most count : ℕ) (few : most ≤ 8) (short : count ≤ 2 ^ 18) where
  offer-fits : (o : Offer) → IsOfferIn most count o → (o.qp < 2 ^ 24) × (o.size < 16) × (o.mtu < 16) × (o.psn < 2 ^ 24)
  offer-fits o i = (omega (arith, i.qp, few, short), i.size, i.mtu, omega (arith, i.psn, short))

  -- such a post can be written
  pub in-writable : (p : Post) → IsPostIn most count p → IsWritable p
  in-writable (Write from link key address len) i = tt
  in-writable (Cdc from link m) i = tt
  in-writable (Llc from link (ConfirmLink reply mac gid qp k user links)) i = omega (arith, i.1.0, few, short)
  in-writable (Llc from link (AddLink reply rejected reason mac gid qp k mtu psn)) i = let j = i.1 in (j.0, omega (arith, j.1, few, short), j.2, omega (arith, j.3, short))
  in-writable (Llc from link (AddKeys reply k number keys)) i = tt
  in-writable (Llc from link (DeleteLink reply every orderly k reason)) i = tt
  in-writable (Llc from link (ConfirmRkey reply retry negative others tokens)) i = tt
  in-writable (Llc from link (TestLink reply bytes)) i = tt
  in-writable (Llc from link (DeleteRkey reply negative number mask keys)) i = tt
  in-writable (Clc from s None (ProposalMessage p)) i = tt
  in-writable (Clc from s None (AcceptMessage o)) i = offer-fits o i
  in-writable (Clc from s None (ConfirmMessage o)) i = offer-fits o i
  in-writable (Clc from s None (DeclineMessage r)) i = tt
  in-writable (Clc from s (Some link) (ProposalMessage p)) i = tt
  in-writable (Clc from s (Some link) (AcceptMessage o)) i = offer-fits o i.1
  in-writable (Clc from s (Some link) (ConfirmMessage o)) i = offer-fits o i.1
  in-writable (Clc from s (Some link) (DeclineMessage r)) i = tt
