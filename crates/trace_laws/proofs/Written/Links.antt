-- The links, groups and flows of both sides stay bounded with each entry whose posts are.
use Rattle.std.proofs.Common.{Bool, List, None, Option, Some, [], arith, false, if◌then◌else◌, slice_get, true, zero, suc, ℕ, ◌+◌, ◌-◌, ◌==◌, ◌∷◌, ◌≤◌}
use Rattle.std.specs.Prelude.{option_and_then}
use Rattle.clc_wire.specs.declared.message.ClcMessage.TheVariants.{Accept as AcceptMessage, Confirm as ConfirmMessage}
use Rattle.smc_num.specs.declared.LinkPhase.TheVariants.{Live as LiveLink}
use Rattle.pipe_model.specs.declared.event.Event.TheVariants.{Clc as ClcEvent}
use Rattle.pipe_model.specs.declared.flow.FlowStep.TheVariants.{Answered, Confirmed, Live}
use Rattle.pipe_model.specs.declared.post.Post.TheVariants.{Clc, Write}
use Rattle.pipe_model.specs.declared.reply.Reply.TheVariants.{Sent}
use Rattle.pipe_model.specs.declared.reply.SentKind.TheVariants.{Accept as AcceptSent, AddLink as AddLinkSent, Confirm as ConfirmSent, ConfirmRkey as KeySent, DeleteRkey as DeleteSent, TestLink as TestSent}
use Rattle.pipe_model.specs.Fabric.{acts, after, begins, by_post, does, lands, learns_link, loses}
use Rattle.pipe_model.specs.Flows.{LinkSent}
use Rattle.history_laws.specs.Words.{A, Abandoned, AddKeys, AddLink, AddSeen, AddSent, AskLink, B, Cdc, ConfirmLink, ConfirmRkey, DeleteLink, DeleteRkey, Deliver, Done, Entry, Event, Fabric, FirstContact, Flow, FlowStep, Gone, GroupEnded, Grow, KeysSent, Landed, LinkFlow, LinkId, Llc, LlcMessage, NoFlow, Over, Peer, Post, PostRef, Reply, ReplyAdd, Report, Retry, SendKeys, Side, Test, TestLink, Trim, Withdraw, after_answer, asks_delete, asks_key, asks_link, begins_group, ends_group, fabric, flow_after, goes_on, is_dropping, llc_step, lost_link, lowest_live, made_on, makes, named_slot, other, peer, post_at, reports, with_peer, without_slot}
use Rattle.history_laws.specs.Posts.{EachPost}
use Rattle.trace_laws.proofs.Written.Bounds.{AreEntriesIn, IsLinkIn, IsLlcIn, IsPostIn}
use Rattle.trace_laws.proofs.Written.Tables.{AreKnownIn, dead-in, put-in, set-in}

module _ (most count : ℕ) where
  -- the slot that a flow is for
  abbrev pub IsFlowIn : LinkFlow → Type 0
  IsFlowIn NoFlow = Unit {0}
  IsFlowIn FirstContact = Unit {0}
  IsFlowIn (AddSent k on) = k ≤ most
  IsFlowIn (KeysSent k on) = k ≤ most
  IsFlowIn (LinkSent k) = k ≤ most
  IsFlowIn (Abandoned on) = Unit {0}
  IsFlowIn (AddSeen k) = k ≤ most

  pub record IsPeerIn (p : Peer) : Type 0 where
    pub group : p.group ≤ count
    pub table : AreKnownIn most count p.table
    pub flow : IsFlowIn p.flow.link

  pub record IsFabricIn (f : Fabric) : Type 0 where
    pub latest : AreKnownIn most count f.latest
    pub a : IsPeerIn f.a
    pub b : IsPeerIn f.b

  pub peer-in : (x : Side) (f : Fabric) → IsFabricIn f → IsPeerIn (peer x f)
  peer-in A f i = i.a
  peer-in B f i = i.b

  with-peer-in : (x : Side) (p : Peer) (f : Fabric) → IsPeerIn p → IsFabricIn f → IsFabricIn (with_peer x p f)
  with-peer-in A p f i g = record { latest = g.latest; a = i; b = g.b }
  with-peer-in B p f i g = record { latest = g.latest; a = g.a; b = i }

  begun-in : (group : ℕ) → group ≤ count → IsPeerIn (begins_group group)
  begun-in group i = record { group = i; table = tt; flow = tt }

  learns-in : (link : LinkId) (p : Peer) → IsLinkIn most count link → IsPeerIn p → IsPeerIn (learns_link link p)
  learns-in link p l i = record { group = i.group; table = put-in most count _ p.table l i.table; flow = i.flow }

  makes-in : (link : LinkId) (f : Fabric) → IsLinkIn most count link → IsFabricIn f → IsFabricIn (makes link f)
  makes-in link f l i = record { latest = put-in most count _ f.latest l i.latest; a = learns-in link f.a l i.a; b = learns-in link f.b l i.b }

  -- a side that loses a link
  lost-in : (k carrier : ℕ) (flow : LinkFlow) → IsFlowIn flow → IsFlowIn (lost_link k carrier flow)
  lost-in k carrier NoFlow i = tt
  lost-in k carrier FirstContact i = tt
  lost-in k carrier (AddSent j on) i = by (j == k) (on == k)
    where
      by : (b c : Bool) → IsFlowIn (if b then Abandoned on else if c then AddSent j carrier else AddSent j on)
      by true c = tt
      by false true = i
      by false false = i
  lost-in k carrier (KeysSent j on) i = by (j == k) (on == k)
    where
      by : (b c : Bool) → IsFlowIn (if b then Abandoned on else if c then KeysSent j carrier else KeysSent j on)
      by true c = tt
      by false true = i
      by false false = i
  lost-in k carrier (LinkSent j) i = by (j == k)
    where
      by : (b : Bool) → IsFlowIn (if b then NoFlow else LinkSent j)
      by true = tt
      by false = i
  lost-in k carrier (Abandoned on) i = by (on == k)
    where
      by : (b : Bool) → IsFlowIn (if b then NoFlow else Abandoned on)
      by true = tt
      by false = tt
  lost-in k carrier (AddSeen j) i = by (j == k)
    where
      by : (b : Bool) → IsFlowIn (if b then NoFlow else AddSeen j)
      by true = tt
      by false = i

  pub loses-in : (k : ℕ) (p : Peer) → IsPeerIn p → IsPeerIn (loses k p)
  loses-in k p i = by (lowest_live (without_slot k p).table == 0)
    where
      without : IsPeerIn (without_slot k p)
      without = record { group = i.group; table = set-in most count k _ p.table i.table; flow = i.flow }

      by : (b : Bool) → IsPeerIn (if b then ends_group (without_slot k p) else goes_on k (without_slot k p))
      by true = record { group = omega arith; table = dead-in most count (without_slot k p).table without.table; flow = tt }
      by false = record { group = i.group; table = without.table; flow = lost-in k (lowest_live (without_slot k p).table) p.flow.link i.flow }

  reports-in : (k : ℕ) (p : Peer) → IsPeerIn p → IsPeerIn (reports k p)
  reports-in k p i = by ((loses k p).group == 0) (is_dropping k (loses k p).flow)
    where
      was : IsPeerIn (loses k p)
      was = loses-in k p i

      by : (b c : Bool) → IsPeerIn (if b then loses k p else record (loses k p) { flow = if c then (loses k p).flow else record (loses k p).flow { drops = record { slot = k; on = lowest_live (loses k p).table } ∷ (loses k p).flow.drops } })
      by true c = was
      by false true = record { group = was.group; table = was.table; flow = was.flow }
      by false false = record { group = was.group; table = was.table; flow = was.flow }

  -- a message that a side takes
  pub named-in : (m : LlcMessage) (k : ℕ) → IsLlcIn most count m → k ≤ most → named_slot m k ≤ most
  named-in (ConfirmLink reply mac gid qp j user links) k i l = i.1
  named-in (AddLink reply rejected reason mac gid qp j mtu psn) k i l = i.4
  named-in (AddKeys reply j number keys) k i l = i
  named-in (DeleteLink reply every orderly j reason) k i l = i
  named-in (ConfirmRkey reply retry negative others tokens) k i l = l
  named-in (TestLink reply bytes) k i l = l
  named-in (DeleteRkey reply negative number mask keys) k i l = l

  answered-in : (m : LlcMessage) (k : ℕ) (f : Flow) → IsFlowIn f.link → IsFlowIn (after_answer m k f).link
  answered-in (DeleteLink reply every orderly j reason) k f i = i
  answered-in (TestLink reply bytes) k f i = i
  answered-in _ k f i = i

  flow-in : (step : FlowStep) (m : LlcMessage) (k carrier : ℕ) (f : Flow) → IsLlcIn most count m → k ≤ most → IsFlowIn f.link → IsFlowIn (flow_after step m k carrier f).link
  flow-in (Live reply first) m k carrier f i l g = tt
  flow-in SendKeys m k carrier f i l g = named-in m k i l
  flow-in Over m k carrier f i l g = tt
  flow-in AskLink m k carrier f i l g = named-in m k i l
  flow-in (ReplyAdd again) m k carrier f i l g = named-in m k i l
  flow-in Confirmed m k carrier f i l g = g
  flow-in Retry m k carrier f i l g = g
  flow-in Withdraw m k carrier f i l g = g
  flow-in Answered m k carrier f i l g = answered-in m k f g
  flow-in _ m k carrier f i l g = g

  module _ (x : Side) (link : LinkId) (m : LlcMessage) (l : IsLinkIn most count link) (i : IsLlcIn most count m) where
    acts-in : (step : FlowStep) (f : Fabric) → IsFabricIn f → IsFabricIn (acts x link m step f)
    acts-in (Live reply first) f g = let p = peer-in x f g in with-peer-in x _ f (record { group = p.group; table = set-in most count link.slot LiveLink (peer x f).table p.table; flow = p.flow }) g
    acts-in (ReplyAdd false) f g = let p = peer-in x f g in makes-in (record { group = (peer x f).group; slot = named_slot m link.slot; incarnation = made_on (named_slot m link.slot) f + 1 }) f
        (record { slot = named-in m link.slot i l.slot; group = p.group }) g
    acts-in (Gone true) f g = with-peer-in x _ f (loses-in (named_slot m link.slot) (peer x f) (peer-in x f g)) g
    acts-in _ f g = g

    does-in : (step : FlowStep) (f : Fabric) → IsFabricIn f → IsFabricIn (does x link m step f)
    does-in step f g = let p = peer-in x f g in acts-in step _ (with-peer-in x _ f (record {
      group = p.group;
      table = p.table;
      flow = flow-in step m link.slot (lowest_live (peer x f).table) (peer x f).flow i l.slot p.flow;
    }) g)

  abbrev pub IsSomeIn : Option Post → Type 0
  IsSomeIn None = Unit {0}
  IsSomeIn (Some post) = IsPostIn most count post

  lands-in : (o : Option Post) (x : Side) (past : List Entry) (f : Fabric) → IsSomeIn o → IsFabricIn f → IsFabricIn (lands o x past f)
  lands-in None x past f i g = g
  lands-in (Some (Write from link key address len)) x past f i g = g
  lands-in (Some (Cdc from link m)) x past f i g = g
  lands-in (Some (Clc from s link m)) x past f i g = g
  lands-in (Some (Llc from link m)) x past f i g = does-in x link m i.0 i.1 (llc_step x link m past f) f g

  -- a post that stands in the history
  one-in : (posts : List Post) (k : ℕ) → EachPost (IsPostIn most count) posts → IsSomeIn (slice_get posts k)
  one-in [] k i = tt
  one-in (post ∷ posts) zero i = i.0
  one-in (post ∷ posts) (suc k) i = one-in posts k i.1

  entry-in : (past : List Entry) (n k : ℕ) → AreEntriesIn most count past → IsSomeIn (option_and_then (λ (e : Entry). slice_get e.posts k) (slice_get past n))
  entry-in [] n k i = tt
  entry-in (e ∷ past) zero k i = one-in e.posts k i.0
  entry-in (e ∷ past) (suc n) k i = entry-in past n k i.1

  at-in : (at : PostRef) (past : List Entry) → AreEntriesIn most count past → IsSomeIn (post_at at past)
  at-in at past i = entry-in past _ (at.post - 1) i

  -- what an entry posts first
  begins-in : (post : Post) (f : Fabric) → IsPostIn most count post → IsFabricIn f → IsFabricIn (begins post f)
  begins-in (Clc B s (Some link) (AcceptMessage o)) f i g = by o.first
    where
      by : (b : Bool) → IsFabricIn (if b then with_peer B (begins_group link.group) f else f)
      by true = with-peer-in B (begins_group link.group) f (begun-in link.group (let l = i.0 in l.group)) g
      by false = g
  begins-in (Clc A s (Some link) (ConfirmMessage o)) f i g = by o.first
    where
      by : (b : Bool) → IsFabricIn (if b then makes link (with_peer A (begins_group link.group) f) else f)
      by true = makes-in link (with_peer A (begins_group link.group) f) i.0 (with-peer-in A (begins_group link.group) f (begun-in link.group (let l = i.0 in l.group)) g)
      by false = g
  begins-in _ f i g = g

  key-in : (x : Side) (post : Post) (f : Fabric) → IsFabricIn f → IsFabricIn (asks_key x post f)
  key-in x (Llc from link (ConfirmRkey reply retry negative others tokens)) f g = let p = peer-in x f g in with-peer-in x _ f (record { group = p.group; table = p.table; flow = p.flow }) g
  key-in x _ f g = g

  link-in : (post : Post) (f : Fabric) → IsPostIn most count post → IsFabricIn f → IsFabricIn (asks_link post f)
  link-in (Llc from link (AddLink reply rejected reason mac gid qp k mtu psn)) f i g = let p = peer-in B f g in with-peer-in B _ f (record { group = p.group; table = p.table; flow = let j = i.1 in j.4 }) g
  link-in _ f i g = g

  delete-in : (x : Side) (post : Post) (f : Fabric) → IsFabricIn f → IsFabricIn (asks_delete x post f)
  delete-in x (Llc from link m) f g = let p = peer-in x f g in with-peer-in x _ f (record { group = p.group; table = p.table; flow = p.flow }) g
  delete-in x _ f g = g

  by-post-in : (change : Post → Fabric → Fabric) → ((post : Post) (f : Fabric) → IsPostIn most count post → IsFabricIn f → IsFabricIn (change post f))
      → (posts : List Post) (f : Fabric) → EachPost (IsPostIn most count) posts → IsFabricIn f → IsFabricIn (by_post change posts f)
  by-post-in change each [] f i g = g
  by-post-in change each (post ∷ posts) f i g = each post f i.0 g

  -- after an entry
  pub after-in : (event : Event) (reply : Reply) (posts : List Post) (past : List Entry) (f : Fabric) → EachPost (IsPostIn most count) posts → AreEntriesIn most count past → IsFabricIn f → IsFabricIn (after event reply posts past f)
  after-in (ClcEvent s dir) (Sent AcceptSent) posts past f i es g = by-post-in begins begins-in posts f i g
  after-in (ClcEvent s dir) (Sent ConfirmSent) posts past f i es g = by-post-in begins begins-in posts f i g
  after-in (ClcEvent s dir) (Sent KeySent) posts past f i es g = by-post-in (asks_key (other dir)) (λ post h j k. key-in (other dir) post h k) posts f i g
  after-in (Deliver slot dir) (Landed at) posts past f i es g = lands-in (post_at at past) (other dir) past f (at-in at past es) g
  after-in (Report x slot) Done posts past f i es g = with-peer-in x _ f (reports-in slot (peer x f) (peer-in x f g)) g
  after-in (Report x slot) (GroupEnded group) posts past f i es g = with-peer-in x _ f (reports-in slot (peer x f) (peer-in x f g)) g
  after-in Grow (Sent AddLinkSent) posts past f i es g = by-post-in asks_link link-in posts f i g
  after-in (Test x slot) (Sent TestSent) posts past f i es g = let p = peer-in x f g in with-peer-in x _ f (record { group = p.group; table = p.table; flow = p.flow }) g
  after-in (Trim x) (Sent DeleteSent) posts past f i es g = by-post-in (asks_delete x) (λ post h j k. delete-in x post h k) posts f i g
  after-in _ _ posts past f i es g = g

  pub first-fabric-in : IsFabricIn (fabric [])
  first-fabric-in = record { latest = tt; a = record { group = omega arith; table = tt; flow = tt }; b = record { group = omega arith; table = tt; flow = tt } }
