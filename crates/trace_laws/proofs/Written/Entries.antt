-- What an entry posts is bounded, whatever its event.
use Rattle.std.proofs.Common.{Bool, List, [], ap, arith, false, if◌then◌else◌, length, refl, subst, sym, true, ℕ, ◌&&◌, ◌+◌, ◌∙◌, ◌∷◌, ◌≡◌, ◌≤◌}
use Rattle.pipe_model.specs.declared.event.Event.TheVariants.{Clc as ClcEvent}
use Rattle.pipe_model.specs.declared.post.Post.TheVariants.{Clc, Write}
use Rattle.pipe_model.specs.declared.reply.Reply.TheVariants.{Idle, Sent}
use Rattle.pipe_model.specs.declared.reply.SentKind.TheVariants.{AddLink as AddLinkSent, DeleteRkey as DeleteSent, TestLink as TestSent}
use Rattle.pipe_model.specs.Lawful.{asked}
use Rattle.pipe_model.specs.Replies.{lost_link_told, told}
use Rattle.history_laws.specs.Words.{B, Cdc, Deliver, Done, Entry, Event, Grow, Llc, Open, Opened, Post, Reply, Report, Setup, Side, Test, Trim, connection_posts, dead_at, draft, fabric, front, groups_begun, lowest_live, other, peer_of, reply_of, report_told, standing_at, table_of}
use Rattle.history_laws.specs.Made.{IsMade}
use Rattle.history_laws.specs.Posts.{AreData, EachPost}
use Rattle.history_laws.proofs.Posts.{connections-data}
use Rattle.trace_laws.specs.Codes.{HasCodes}
use Rattle.trace_laws.proofs.Written.Bounds.{AreEntriesIn, IsPostIn}
use Rattle.trace_laws.proofs.Written.Flows.{act-in, each-append, landing-in, report-in}
use Rattle.trace_laws.proofs.Written.Links.{IsFabricIn, IsPeerIn, peer-in}
use Rattle.trace_laws.proofs.Written.Offers.{front-in, next-in}
use Rattle.trace_laws.proofs.Written.Tables.{first-in, found-in, standing-in}

-- what pipes post has no such numbers
data-in : (most count : ℕ) (posts : List Post) → AreData posts → EachPost (IsPostIn most count) posts
data-in most count [] d = tt
data-in most count (Write from link key address len ∷ posts) d = (tt, data-in most count posts d.1)
data-in most count (Cdc from link m ∷ posts) d = (tt, data-in most count posts d.1)
data-in most count (Llc from link m ∷ posts) d = let f : false ≡ true = d.0 in cc
data-in most count (Clc from s link m ∷ posts) d = let f : false ≡ true = d.0 in cc

module _ (setup : Setup) (codes : HasCodes setup) (payload : List ℕ) (past : List Entry) (count : ℕ) (room : length past + 1 ≤ count)
    (groups : groups_begun past ≤ length past) (entries : AreEntriesIn setup.links count past) (links : IsFabricIn setup.links count (fabric past)) where
  abbrev IsIn : Post → Type 0
  IsIn post = IsPostIn setup.links count post

  side-in : (x : Side) → IsPeerIn setup.links count (peer_of x past)
  side-in x = peer-in setup.links count x (fabric past) links

  -- a link that is reported stands at the side
  reported : (x : Side) (k : ℕ) → report_told x k past ≡ Done → k ≤ setup.links
  reported x k told-so = by (standing_at k (table_of x past)) (dead_at k (table_of x past) past) refl told-so
    where
      by : (b c : Bool) → standing_at k (table_of x past) ≡ b → (if b && c then lost_link_told k (peer_of x past) else Idle) ≡ Done → k ≤ setup.links
      by true c e h = standing-in setup.links count k (table_of x past) (let p = side-in x in p.table) e
      by false c e h = let f : Idle ≡ Done = h in cc

  asked-in : (event : Event) (reply : Reply) → ((x : Side) (k : ℕ) → event ≡ Report x k → reply ≡ Done → k ≤ setup.links) → EachPost IsIn (asked setup payload past event reply)
  asked-in (Open s) Opened known = (tt, tt)
  asked-in (ClcEvent s dir) Idle known = tt
  asked-in (ClcEvent s dir) reply known = front-in setup codes payload past count room groups entries links (other dir) s (front payload dir s past)
  asked-in (Deliver slot dir) reply known = act-in setup codes payload past count room links (other dir) _ (landing-in setup.links count slot dir past entries)
  asked-in (Report x slot) Done known = report-in setup codes payload past count room links x slot true (known x slot refl refl)
  asked-in Grow (Sent AddLinkSent) known =
      let p = side-in B in
      let k = first-in _ setup.links in
      ((found-in setup.links count (lowest_live (table_of B past)) (table_of B past) p.table, (omega arith, next-in setup codes payload past count room B _ k, omega arith, p.group, k)), tt)
  asked-in (Test x slot) (Sent TestSent) known = ((found-in setup.links count slot (table_of x past) (let p = side-in x in p.table), tt), tt)
  asked-in (Trim x) (Sent DeleteSent) known = ((found-in setup.links count (lowest_live (table_of x past)) (table_of x past) (let p = side-in x in p.table), tt), tt)
  asked-in _ _ known = tt

  -- what an entry posts
  pub posts-in : (before : ℕ) (e : Entry) → IsMade setup payload past before e → EachPost IsIn e.posts
  posts-in before e m = subst (λ ps. EachPost IsIn ps) (sym m.posts)
      (each-append IsIn d.posts (connection_posts setup payload d past)
      (asked-in e.event d.reply (λ x k is done. reported x k (sym (ap (λ v. reply_of before (told setup payload past v)) is) ∙ done)))
      (data-in setup.links count (connection_posts setup payload d past) (connections-data setup payload d past)))
    where
      d : Entry
      d = draft setup payload past before e.event
