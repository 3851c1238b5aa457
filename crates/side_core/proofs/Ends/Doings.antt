-- What the end of a socket does under its manager.
-- A reader learns here that calls, landings and completions leave the live links, and that the manager then stands for what they make of it.
use Rattle.std.proofs.Common.{◌≡◌, ◌∙◌, ℕ, ◌<◌, ◌&&◌, ◌++◌, Bool, true, false, cond, List, [], length, Option, Some, None, is_some, IsSome, IfSome, option_map, refl, sym, ap, subst, true≢false}
use Rattle.smc_num.specs.declared.LinkId.{LinkId}
use Rattle.smc_num.specs.Names.{has_link}
use Rattle.smc_num.specs.Links.{live_links}
use Rattle.pipe_model.specs.declared.sent.Sent.{Sent}
use Rattle.pipe_model.specs.declared.post.Post.{Post}
use Rattle.pipe_model.specs.Pipe.{Terms}
use Rattle.pipe_model.specs.Snapshot.{shows_gap}
use Rattle.pipe_model.specs.Ends.{Half, settle, takes, validates, takes_snapshot, completes}
use Rattle.pipe_model.specs.declared.reply.Reply.{Reply}
use Rattle.pipe_model.specs.declared.reply.ResetCause.{ResetCause}
use Rattle.pipe_model.specs.Closing.{cause_of}
use Rattle.pipe_model.specs.Calls.{Call, Told, Plain, Writes, Reads, calls, half_told}
use Rattle.conn_end.specs.declared.answers.EndReply.{EndReply}
use Rattle.conn_end.specs.Told.{Answers, told_of}
use Rattle.side_core.specs.Landing.{told_at}
use Rattle.conn_end.specs.Kept.{Kept}
use Rattle.side_core.specs.declared.route.Way.{Way}
use Rattle.side_core.specs.Records.{Connection, Records, AllStand, StandsAt, conn_at, half_at, route_at, settles}
use Rattle.side_core.specs.Posting.{IsWay, posts_at, due_posts}
use Rattle.side_core.specs.Desk.{Desk}
use Rattle.side_core.specs.Manager.{Manager, Represents, IsTiedAt}
use Rattle.side_core.specs.Acting.{way_of, due_at, due_from, acts_at}
use Rattle.side_core.specs.declared.change.EndCall.{EndCall}
use Rattle.side_core.specs.declared.change.EndCall.TheVariants.{Finish, Close, Abort}
use Rattle.side_core.specs.Changes.{named}
use Rattle.side_core.proofs.Ends.Keeping.{IsAlike, writes_alike, reads_alike, ends_alike, takes_alike, completes_alike}
use Rattle.side_core.proofs.Ends.Standing.{there_within}
use Rattle.side_core.proofs.Ends.Workings.{settle_live, tied_changes}

-- that what is told are no bytes
record IsPlain (told : Told) : Type 0 where
  reply : Reply
  is : told ≡ Plain reply

-- that something done to an end leaves its number, its link, whether it is established, and the links that it knows
pub record Leaves (act : Half → Half) : Type 0 where
  pub alike : (h : Half) → IsAlike h (act h)
  pub live : (h : Half) → (act h).live ≡ h.live

either_live : (links : List LinkId) (a b : Half) (t : Bool) → a.live ≡ links → b.live ≡ links → (cond t a b).live ≡ links
either_live links a b true first second = first
either_live links a b false first second = second

pub writes_leave : (bytes : List ℕ) (size : ℕ) → Leaves (calls size (Writes bytes))
writes_leave bytes size = record { alike = writes_alike size bytes; live = λ h. either_live h.live h _ _ refl refl }

pub reads_leave : (n size : ℕ) → Leaves (calls size (Reads n))
reads_leave n size = record { alike = reads_alike size n; live = λ h. either_live h.live h _ _ refl refl }

pub ends_leave : (call : EndCall) (size : ℕ) → Leaves (calls size (named call))
ends_leave Finish size = record { alike = ends_alike size Finish; live = λ h. either_live h.live h _ (is_some (cause_of h.phase)) refl refl }
ends_leave Close size = record { alike = ends_alike size Close; live = λ h. either_live h.live h _ (is_some (cause_of h.phase)) refl refl }
ends_leave Abort size = record { alike = ends_alike size Abort; live = λ h. refl }

pub takes_leave : (sent : Sent) → Leaves (takes (Some sent))
takes_leave sent = record {
  alike = takes_alike sent;
  live = λ h. either_live h.live h _ _ refl
      (either_live h.live (validates sent.snapshot.number h) (takes_snapshot sent.snapshot h) sent.check
      (either_live h.live _ h (shows_gap sent.snapshot.number h.taken.number) refl refl)
      (either_live h.live _ _ sent.snapshot.aborted refl refl));
}

pub completes_leave : (sent : Sent) → Leaves (completes (Some sent))
completes_leave sent = record { alike = completes_alike sent; live = λ h. either_live h.live _ _ sent.check refl refl }

-- that a way is that of the connection of a socket
abbrev pub IsWayOf : ℕ → Way → Manager Kept → Type 0
IsWayOf s way v = IfSome (route_at s v.records) (λ r. way ≡ way_of v.desk r)

-- then it tells whether the end may post
way_there : (act : Half → Half) (way : Way) (d : Desk) (k : Option (Connection Kept)) (c : Option (Connection Half)) → Leaves act → StandsAt k c → IsTiedAt d.links.known c → IfSome (option_map (λ (x : Connection Kept). x.route) k) (λ r. way ≡ way_of d r) → IsWay act way c
way_there act way d None None leaves stands tied is = tt
way_there act way d None (Some c) leaves stands tied is = absurd stands
way_there act way d (Some k) None leaves stands tied is = absurd stands
way_there act way d (Some k) (Some c) leaves stands tied is =
    ap (λ (w : Way). w.live) (is ∙ ap (way_of d) stands.route)
    ∙ by_up c.route.up (λ up. stands.link up)
    ∙ ap (λ b. b && has_link c.end.link c.end.live) (sym stands.up)
    ∙ ap (λ b. b && has_link c.end.link c.end.live) (sym (leaves.alike c.end).up)
    ∙ ap (λ l. (act c.end).up && has_link l c.end.live) (sym (leaves.alike c.end).link)
    ∙ ap (λ ls. (act c.end).up && has_link (act c.end).link ls) (sym (leaves.live c.end))
  where
    by_up : (b : Bool) → (b ≡ true → c.end.link ≡ c.route.link) → b && has_link c.route.link (live_links d.links.known) ≡ b && has_link c.end.link c.end.live
    by_up false same = refl
    by_up true same = ap (λ l. has_link l (live_links d.links.known)) (sym (same refl)) ∙ ap (has_link c.end.link) (sym tied.live)

pub way_told : (s : ℕ) (act : Half → Half) (way : Way) (v : Manager Kept) (m : Manager Half) → Leaves act → Represents v m → IsWayOf s way v → IsWay act way (conn_at s m.records)
way_told s act way v m leaves stands is =
    way_there act way v.desk (conn_at s v.records) (conn_at s m.records) leaves (stands.works.records.each s)
    (subst (λ (d : Desk). IsTiedAt d.links.known (conn_at s m.records)) (sym stands.works.desk) (stands.works.tied s)) is

-- and what it posts
due_there : (act : Half → Half) (way : Way) (d : Desk) (m : Manager Half) (k : Option (Connection Kept)) (c : Option (Connection Half)) → d ≡ m.desk → StandsAt k c → IfSome (option_map (λ (x : Connection Kept). x.route) k) (λ r. way ≡ way_of d r) → posts_at 0 act way m.records c ≡ due_from act m c
due_there act way d m None None same stands is = refl
due_there act way d m None (Some c) same stands is = absurd stands
due_there act way d m (Some k) None same stands is = absurd stands
due_there act way d m (Some k) (Some c) same stands is =
    ap (λ (w : Way). due_posts m.records.terms.size m.records.terms.depth w.side w.key c.route.peer (act c.end))
    (is ∙ ap (way_of d) stands.route ∙ ap (λ (x : Desk). way_of x c.route) same)

-- the manager after something was done to the end of a socket
pub acted : (s : ℕ) (act : Half → Half) (way : Way) (v : Manager Kept) (w : Records Kept) (m : Manager Half) → Leaves act → IsSome (conn_at s v.records) → IsWayOf s way v → (IsWay act way (conn_at s m.records) → AllStand w (settles s act m.records)) → Represents v m → Represents (record v { records = w }) (acts_at s act m)
acted s act way v w m leaves some is after stands = record {
  works = record {
    desk = stands.works.desk;
    records = after (way_told s act way v m leaves stands is);
    tied = tied_changes m.desk.links.known m.records s (λ c. record c { end = settle m.records.terms.depth (act c.end) }) (subst (λ n. s < n) stands.works.records.sockets (within (conn_at s v.records) refl some))
        (λ c. settle_live m.records.terms.depth (act c.end) ∙ leaves.live c.end) stands.works.tied;
  };
  hands = stands.hands;
  regions = stands.regions;
}
  where
    within : (o : Option (Connection Kept)) → conn_at s v.records ≡ o → IsSome o → s < length v.records.by_socket
    within None e there = absurd (true≢false (sym there))
    within (Some k) e there = there_within v.records.by_socket s k e

pub acted_posts : (s : ℕ) (act : Half → Half) (way : Way) (v : Manager Kept) (m : Manager Half) (before after : List Post) → Leaves act → IsWayOf s way v → (IsWay act way (conn_at s m.records) → after ≡ before ++ posts_at s act way m.records (conn_at s m.records)) → Represents v m → after ≡ before ++ due_at s act m
acted_posts s act way v m before after leaves is posts stands =
    posts (way_told s act way v m leaves stands is)
    ∙ ap (λ (ps : List Post). before ++ ps) (due_there act way v.desk m (conn_at s v.records) (conn_at s m.records) stands.works.desk (stands.works.records.each s) is)

-- how many bytes an element has for both
pub same_size : (v : Manager Kept) (m : Manager Half) → Represents v m → v.records.terms.size ≡ m.records.terms.size
same_size v m stands = ap (λ (t : Terms). t.size) stands.works.records.terms

-- that a call hands out no bytes, whatever its end has come to
record IsNoRead (call : Call) : Type 0 where
  is : (size : ℕ) (h : Half) (out : List ℕ) (cause : Option ResetCause) → IsPlain (half_told size call h out cause)

-- then it is told what the definitions tell it
no_read_told : (s : ℕ) (call : Call) (v : Manager Kept) (m : Manager Half) (reply : EndReply) (result : Reply) → IsNoRead call → Represents v m → Answers v.records.terms.size call (half_at s m.records) reply
    → ((rd : ℕ) (told : Reply) → told_of reply rd [] ≡ Plain told → result ≡ told) → Plain result ≡ told_at s call [] m
no_read_told s call v m reply result no_read stands answers is =
    let h : Half = half_at s m.records in
    let plain : IsPlain (half_told m.records.terms.size call h [] (cause_of h.phase)) = no_read.is m.records.terms.size h [] (cause_of h.phase) in
    let told : told_of reply h.rd [] ≡ half_told m.records.terms.size call h [] (cause_of h.phase) = subst (λ n. told_of reply h.rd [] ≡ half_told n call h [] (cause_of h.phase)) (same_size v m stands) (answers.told []) in
    ap Plain (is h.rd plain.reply (told ∙ plain.is)) ∙ sym plain.is

-- what a write is told
write_plain : (bytes : List ℕ) (size : ℕ) (h : Half) (out : List ℕ) (cause : Option ResetCause) → IsPlain (half_told size (Writes bytes) h out cause)
write_plain bytes size h out None = record { reply = _; is = refl }
write_plain bytes size h out (Some cause) = record { reply = _; is = refl }

pub write_told : (s : ℕ) (bytes : List ℕ) (v : Manager Kept) (m : Manager Half) (reply : EndReply) (result : Reply) → Represents v m → Answers v.records.terms.size (Writes bytes) (half_at s m.records) reply
    → ((rd : ℕ) (told : Reply) → told_of reply rd [] ≡ Plain told → result ≡ told) → Plain result ≡ told_at s (Writes bytes) [] m
write_told s bytes v m reply result stands answers is = no_read_told s (Writes bytes) v m reply result (record { is = write_plain bytes }) stands answers is

-- what finish, close and abort are told
end_plain : (call : EndCall) (size : ℕ) (h : Half) (out : List ℕ) (cause : Option ResetCause) → IsPlain (half_told size (named call) h out cause)
end_plain Finish size h out None = record { reply = _; is = refl }
end_plain Finish size h out (Some cause) = record { reply = _; is = refl }
end_plain Close size h out None = record { reply = _; is = refl }
end_plain Close size h out (Some cause) = record { reply = _; is = refl }
end_plain Abort size h out None = record { reply = _; is = refl }
end_plain Abort size h out (Some cause) = record { reply = _; is = refl }

pub end_told : (s : ℕ) (call : EndCall) (v : Manager Kept) (m : Manager Half) (reply : EndReply) (result : Reply) → Represents v m → Answers v.records.terms.size (named call) (half_at s m.records) reply
    → ((rd : ℕ) (told : Reply) → told_of reply rd [] ≡ Plain told → result ≡ told) → Plain result ≡ told_at s (named call) [] m
end_told s call v m reply result stands answers is = no_read_told s (named call) v m reply result (record { is = end_plain call }) stands answers is
