-- What one entry does to the fabric: a fact that goes on with each of six kinds of change holds after the entry. All nineteen events are here.
use Rattle.std.proofs.Common.{Bool, List, None, Some, [], false, if◌then◌else◌, inl, refl, sym, true, true≢false, ℕ, ◌∷◌, ◌≡◌}
use Rattle.pipe_model.specs.Fabric.{after, begins, by_post, lands}
use Rattle.pipe_model.specs.declared.post.Post.TheVariants.{Clc, Write}
use Rattle.clc_wire.specs.declared.message.ClcMessage.TheVariants.{Accept as AcceptMessage, Confirm as ConfirmMessage, Decline as DeclineMessage, Proposal as ProposalMessage}
use Rattle.llc_wire.specs.declared.LlcMessage.TheVariants.{AddLink as AddLinkMessage, ConfirmRkey as ConfirmRkeyMessage, DeleteRkey as DeleteRkeyMessage, TestLink as TestLinkMessage}
use Rattle.std.specs.Prelude.{Option}
use Rattle.pipe_model.specs.declared.event.Event.TheVariants.{Clc as ClcEvent, Raw, Write as WriteEvent}
use Rattle.pipe_model.specs.declared.reply.Reply.TheVariants.{End as EndReply, Idle, Sent}
use Rattle.pipe_model.specs.declared.reply.SentKind.TheVariants.{Accept as AcceptKind, AddLink as AddLinkKind, Confirm as ConfirmKind, ConfirmLink as ConfirmLinkKind, ConfirmRkey as ConfirmRkeyKind, Decline as DeclineKind, DeleteRkey as DeleteRkeyKind, Proposal as ProposalKind, TestLink as TestLinkKind}
use Rattle.history_laws.specs.Words.{A, Abort, AddKeys, Await, B, Bytes, Cdc, Close, Complete, Completed, ConfirmLink, Cut, Declined, DeleteLink, Deliver, Done, Dropped, Empty, Ended, Entry, Established, Event, Fabric, FellBack, Finish, Full, GroupEnded, Grow, Heal, Held, Landed, Llc, Move, Moved, NameUsed, NoSocket, NotYet, Open, Opened, Post, Read, Reply, Report, Reset, Side, Swallow, Test, Trim, Wrote, act_by, act_in, act_of, asks_delete, asks_key, asks_link, begins_group, fabric, llc_step, makes, other, post_at, with_peer}
use Rattle.history_laws.specs.Lists.{IsAmong}
use Rattle.link_laws.specs.FabricChanges.{GoesOnFabric}

module _ (e : Entry) (past : List Entry) (P : Fabric → Type 0) (go : GoesOnFabric e past P) where
  abbrev f : Fabric
  f = fabric past

  -- what begins a group
  begun-by : ((x : Side) → act_in x e past ≡ None) → (post : Post) → IsAmong post e.posts → P (begins post f)
  begun-by n (Write from link key address len) i = go.was
  begun-by n (Cdc from link m) i = go.was
  begun-by n (Llc from link m) i = go.was
  begun-by n (Clc A s None m) i = go.was
  begun-by n (Clc B s None m) i = go.was
  begun-by n (Clc A s (Some link) (ProposalMessage m)) i = go.was
  begun-by n (Clc B s (Some link) (ProposalMessage m)) i = go.was
  begun-by n (Clc A s (Some link) (DeclineMessage m)) i = go.was
  begun-by n (Clc B s (Some link) (DeclineMessage m)) i = go.was
  begun-by n (Clc A s (Some link) (AcceptMessage o)) i = go.was
  begun-by n (Clc B s (Some link) (ConfirmMessage o)) i = go.was
  begun-by n (Clc A s (Some link) (ConfirmMessage o)) i = by o.first refl
    where
      by : (b : Bool) → o.first ≡ b → P (if b then makes link (with_peer A (begins_group link.group) f) else f)
      by true q = go.begun_a link o (record { s = s; posted = i; first = q }) n
      by false q = go.was
  begun-by n (Clc B s (Some link) (AcceptMessage o)) i = by o.first refl
    where
      by : (b : Bool) → o.first ≡ b → P (if b then with_peer B (begins_group link.group) f else f)
      by true q = go.begun_b link o (record { s = s; posted = i; first = q }) n
      by false q = go.was

  key-by : (x : Side) (post : Post) → P (asks_key x post f)
  key-by x (Write from link key address len) = go.was
  key-by x (Cdc from link m) = go.was
  key-by x (Clc from s link m) = go.was
  key-by x (Llc from link (ConfirmLink reply mac gid qp k user most)) = go.was
  key-by x (Llc from link (AddLinkMessage reply rejected reason mac gid qp k mtu psn)) = go.was
  key-by x (Llc from link (AddKeys reply k count keys)) = go.was
  key-by x (Llc from link (DeleteLink reply every orderly k reason)) = go.was
  key-by x (Llc from link (ConfirmRkeyMessage reply retry negative others tokens)) = go.asked x _ _ (record { keyed = λ j h. h })
  key-by x (Llc from link (TestLinkMessage reply bytes)) = go.was
  key-by x (Llc from link (DeleteRkeyMessage reply negative count mask keys)) = go.was

  link-by : (post : Post) → P (asks_link post f)
  link-by (Write from link key address len) = go.was
  link-by (Cdc from link m) = go.was
  link-by (Clc from s link m) = go.was
  link-by (Llc from link (ConfirmLink reply mac gid qp k user most)) = go.was
  link-by (Llc from link (AddLinkMessage reply rejected reason mac gid qp k mtu psn)) = go.asked B _ _ (record { keyed = λ j h. absurd (true≢false (sym h)) })
  link-by (Llc from link (AddKeys reply k count keys)) = go.was
  link-by (Llc from link (DeleteLink reply every orderly k reason)) = go.was
  link-by (Llc from link (ConfirmRkeyMessage reply retry negative others tokens)) = go.was
  link-by (Llc from link (TestLinkMessage reply bytes)) = go.was
  link-by (Llc from link (DeleteRkeyMessage reply negative count mask keys)) = go.was

  delete-by : (x : Side) (post : Post) → P (asks_delete x post f)
  delete-by x (Write from link key address len) = go.was
  delete-by x (Cdc from link m) = go.was
  delete-by x (Clc from s link m) = go.was
  delete-by x (Llc from link m) = go.asked x _ _ (record { keyed = λ j h. h })

  first-post : (change : Post → Fabric → Fabric) → ((post : Post) → IsAmong post e.posts → P (change post f)) → P (by_post change e.posts f)
  first-post change each = by e.posts each
    where
      by : (posts : List Post) → ((post : Post) → IsAmong post posts → P (change post f)) → P (by_post change posts f)
      by [] h = go.was
      by (post ∷ posts) h = h post (inl refl)

  lands-by : (x : Side) (o : Option Post) → act_in x e past ≡ act_of x o past → P (lands o x past f)
  lands-by x None is = go.was
  lands-by x (Some (Write from link key address len)) is = go.was
  lands-by x (Some (Cdc from link m)) is = go.was
  lands-by x (Some (Clc from s link m)) is = go.was
  lands-by x (Some (Llc from link m)) is = go.taken x (record { link = link; message = m; step = llc_step x link m past f }) is refl

  -- nothing lands with a CLC message
  no-act : (x : Side) (s : ℕ) (dir : Side) (reply : Reply) → act_in x e past ≡ act_by x (ClcEvent s dir) reply past → act_in x e past ≡ None
  no-act A s dir reply is = is
  no-act B s dir reply is = is

  by-event : (event : Event) (reply : Reply) → ((x : Side) → act_in x e past ≡ act_by x event reply past) → P (after event reply e.posts past f)
  by-event (Open s) reply is = go.was
  by-event (Raw s at len) reply is = go.was
  by-event (WriteEvent end at len) reply is = go.was
  by-event (Read end len) reply is = go.was
  by-event (Finish end) reply is = go.was
  by-event (Close end) reply is = go.was
  by-event (Abort end) reply is = go.was
  by-event (Await end) reply is = go.was
  by-event (Complete slot dir) reply is = go.was
  by-event (Swallow slot dir) reply is = go.was
  by-event (Cut k) reply is = go.was
  by-event (Heal k) reply is = go.was
  by-event (Move end) reply is = go.was
  by-event (ClcEvent s dir) Opened is = go.was
  by-event (ClcEvent s dir) NameUsed is = go.was
  by-event (ClcEvent s dir) NoSocket is = go.was
  by-event (ClcEvent s dir) (Wrote n) is = go.was
  by-event (ClcEvent s dir) Full is = go.was
  by-event (ClcEvent s dir) (Bytes from len) is = go.was
  by-event (ClcEvent s dir) Empty is = go.was
  by-event (ClcEvent s dir) EndReply is = go.was
  by-event (ClcEvent s dir) NotYet is = go.was
  by-event (ClcEvent s dir) Ended is = go.was
  by-event (ClcEvent s dir) Done is = go.was
  by-event (ClcEvent s dir) Idle is = go.was
  by-event (ClcEvent s dir) (Reset cause) is = go.was
  by-event (ClcEvent s dir) Established is = go.was
  by-event (ClcEvent s dir) FellBack is = go.was
  by-event (ClcEvent s dir) (Held hold) is = go.was
  by-event (ClcEvent s dir) (Declined lack) is = go.was
  by-event (ClcEvent s dir) (Landed at) is = go.was
  by-event (ClcEvent s dir) (Completed at) is = go.was
  by-event (ClcEvent s dir) (Dropped token) is = go.was
  by-event (ClcEvent s dir) (Moved from to) is = go.was
  by-event (ClcEvent s dir) (GroupEnded group) is = go.was
  by-event (ClcEvent s dir) (Sent ProposalKind) is = go.was
  by-event (ClcEvent s dir) (Sent AcceptKind) is = first-post begins (begun-by (λ x. no-act x s dir _ (is x)))
  by-event (ClcEvent s dir) (Sent ConfirmKind) is = first-post begins (begun-by (λ x. no-act x s dir _ (is x)))
  by-event (ClcEvent s dir) (Sent DeclineKind) is = go.was
  by-event (ClcEvent s dir) (Sent ConfirmLinkKind) is = go.was
  by-event (ClcEvent s dir) (Sent AddLinkKind) is = go.was
  by-event (ClcEvent s dir) (Sent ConfirmRkeyKind) is = first-post (asks_key (other dir)) (λ post i. key-by (other dir) post)
  by-event (ClcEvent s dir) (Sent DeleteRkeyKind) is = go.was
  by-event (ClcEvent s dir) (Sent TestLinkKind) is = go.was
  by-event (Deliver slot dir) Opened is = go.was
  by-event (Deliver slot dir) NameUsed is = go.was
  by-event (Deliver slot dir) NoSocket is = go.was
  by-event (Deliver slot dir) (Wrote n) is = go.was
  by-event (Deliver slot dir) Full is = go.was
  by-event (Deliver slot dir) (Bytes from len) is = go.was
  by-event (Deliver slot dir) Empty is = go.was
  by-event (Deliver slot dir) EndReply is = go.was
  by-event (Deliver slot dir) NotYet is = go.was
  by-event (Deliver slot dir) Ended is = go.was
  by-event (Deliver slot dir) Done is = go.was
  by-event (Deliver slot dir) Idle is = go.was
  by-event (Deliver slot dir) (Reset cause) is = go.was
  by-event (Deliver slot dir) Established is = go.was
  by-event (Deliver slot dir) FellBack is = go.was
  by-event (Deliver slot dir) (Held hold) is = go.was
  by-event (Deliver slot dir) (Sent kind) is = go.was
  by-event (Deliver slot dir) (Declined lack) is = go.was
  by-event (Deliver slot A) (Landed at) is = lands-by B (post_at at past) (is B)
  by-event (Deliver slot B) (Landed at) is = lands-by A (post_at at past) (is A)
  by-event (Deliver slot dir) (Completed at) is = go.was
  by-event (Deliver slot dir) (Dropped token) is = go.was
  by-event (Deliver slot dir) (Moved from to) is = go.was
  by-event (Deliver slot dir) (GroupEnded group) is = go.was
  by-event (Report y k) Opened is = go.was
  by-event (Report y k) NameUsed is = go.was
  by-event (Report y k) NoSocket is = go.was
  by-event (Report y k) (Wrote n) is = go.was
  by-event (Report y k) Full is = go.was
  by-event (Report y k) (Bytes from len) is = go.was
  by-event (Report y k) Empty is = go.was
  by-event (Report y k) EndReply is = go.was
  by-event (Report y k) NotYet is = go.was
  by-event (Report y k) Ended is = go.was
  by-event (Report y k) Done is = go.reported y k
  by-event (Report y k) Idle is = go.was
  by-event (Report y k) (Reset cause) is = go.was
  by-event (Report y k) Established is = go.was
  by-event (Report y k) FellBack is = go.was
  by-event (Report y k) (Held hold) is = go.was
  by-event (Report y k) (Sent kind) is = go.was
  by-event (Report y k) (Declined lack) is = go.was
  by-event (Report y k) (Landed at) is = go.was
  by-event (Report y k) (Completed at) is = go.was
  by-event (Report y k) (Dropped token) is = go.was
  by-event (Report y k) (Moved from to) is = go.was
  by-event (Report y k) (GroupEnded group) is = go.reported y k
  by-event Grow Opened is = go.was
  by-event Grow NameUsed is = go.was
  by-event Grow NoSocket is = go.was
  by-event Grow (Wrote n) is = go.was
  by-event Grow Full is = go.was
  by-event Grow (Bytes from len) is = go.was
  by-event Grow Empty is = go.was
  by-event Grow EndReply is = go.was
  by-event Grow NotYet is = go.was
  by-event Grow Ended is = go.was
  by-event Grow Done is = go.was
  by-event Grow Idle is = go.was
  by-event Grow (Reset cause) is = go.was
  by-event Grow Established is = go.was
  by-event Grow FellBack is = go.was
  by-event Grow (Held hold) is = go.was
  by-event Grow (Declined lack) is = go.was
  by-event Grow (Landed at) is = go.was
  by-event Grow (Completed at) is = go.was
  by-event Grow (Dropped token) is = go.was
  by-event Grow (Moved from to) is = go.was
  by-event Grow (GroupEnded group) is = go.was
  by-event Grow (Sent ProposalKind) is = go.was
  by-event Grow (Sent AcceptKind) is = go.was
  by-event Grow (Sent ConfirmKind) is = go.was
  by-event Grow (Sent DeclineKind) is = go.was
  by-event Grow (Sent ConfirmLinkKind) is = go.was
  by-event Grow (Sent AddLinkKind) is = first-post asks_link (λ post i. link-by post)
  by-event Grow (Sent ConfirmRkeyKind) is = go.was
  by-event Grow (Sent DeleteRkeyKind) is = go.was
  by-event Grow (Sent TestLinkKind) is = go.was
  by-event (Test y k) Opened is = go.was
  by-event (Test y k) NameUsed is = go.was
  by-event (Test y k) NoSocket is = go.was
  by-event (Test y k) (Wrote n) is = go.was
  by-event (Test y k) Full is = go.was
  by-event (Test y k) (Bytes from len) is = go.was
  by-event (Test y k) Empty is = go.was
  by-event (Test y k) EndReply is = go.was
  by-event (Test y k) NotYet is = go.was
  by-event (Test y k) Ended is = go.was
  by-event (Test y k) Done is = go.was
  by-event (Test y k) Idle is = go.was
  by-event (Test y k) (Reset cause) is = go.was
  by-event (Test y k) Established is = go.was
  by-event (Test y k) FellBack is = go.was
  by-event (Test y k) (Held hold) is = go.was
  by-event (Test y k) (Declined lack) is = go.was
  by-event (Test y k) (Landed at) is = go.was
  by-event (Test y k) (Completed at) is = go.was
  by-event (Test y k) (Dropped token) is = go.was
  by-event (Test y k) (Moved from to) is = go.was
  by-event (Test y k) (GroupEnded group) is = go.was
  by-event (Test y k) (Sent ProposalKind) is = go.was
  by-event (Test y k) (Sent AcceptKind) is = go.was
  by-event (Test y k) (Sent ConfirmKind) is = go.was
  by-event (Test y k) (Sent DeclineKind) is = go.was
  by-event (Test y k) (Sent ConfirmLinkKind) is = go.was
  by-event (Test y k) (Sent AddLinkKind) is = go.was
  by-event (Test y k) (Sent ConfirmRkeyKind) is = go.was
  by-event (Test y k) (Sent DeleteRkeyKind) is = go.was
  by-event (Test y k) (Sent TestLinkKind) is = go.asked y _ _ (record { keyed = λ j h. h })
  by-event (Trim y) Opened is = go.was
  by-event (Trim y) NameUsed is = go.was
  by-event (Trim y) NoSocket is = go.was
  by-event (Trim y) (Wrote n) is = go.was
  by-event (Trim y) Full is = go.was
  by-event (Trim y) (Bytes from len) is = go.was
  by-event (Trim y) Empty is = go.was
  by-event (Trim y) EndReply is = go.was
  by-event (Trim y) NotYet is = go.was
  by-event (Trim y) Ended is = go.was
  by-event (Trim y) Done is = go.was
  by-event (Trim y) Idle is = go.was
  by-event (Trim y) (Reset cause) is = go.was
  by-event (Trim y) Established is = go.was
  by-event (Trim y) FellBack is = go.was
  by-event (Trim y) (Held hold) is = go.was
  by-event (Trim y) (Declined lack) is = go.was
  by-event (Trim y) (Landed at) is = go.was
  by-event (Trim y) (Completed at) is = go.was
  by-event (Trim y) (Dropped token) is = go.was
  by-event (Trim y) (Moved from to) is = go.was
  by-event (Trim y) (GroupEnded group) is = go.was
  by-event (Trim y) (Sent ProposalKind) is = go.was
  by-event (Trim y) (Sent AcceptKind) is = go.was
  by-event (Trim y) (Sent ConfirmKind) is = go.was
  by-event (Trim y) (Sent DeclineKind) is = go.was
  by-event (Trim y) (Sent ConfirmLinkKind) is = go.was
  by-event (Trim y) (Sent AddLinkKind) is = go.was
  by-event (Trim y) (Sent ConfirmRkeyKind) is = go.was
  by-event (Trim y) (Sent DeleteRkeyKind) is = first-post (asks_delete y) (λ post i. delete-by y post)
  by-event (Trim y) (Sent TestLinkKind) is = go.was

  -- the fabric after the entry
  pub fabric-after : P (fabric (e ∷ past))
  fabric-after = by-event e.event e.reply (λ x. refl)
