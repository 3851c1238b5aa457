-- What happens to an end, as one change.
-- A reader learns here that no change touches the number last used, the end's link, or whether it is established.
use Rattle.std.proofs.Common.{◌≡◌, ◌++◌, ℕ, List, Option, Some, None, IsSome, refl, sym, subst, true≢false}
use Rattle.pipe_model.specs.declared.post.Post.{Post}
use Rattle.pipe_model.specs.Ends.{Half, takes, completes}
use Rattle.pipe_model.specs.Calls.{Call, Writes, Reads, calls}
use Rattle.conn_end.specs.Kept.{Kept, IsKept, Represents}
use Rattle.conn_end.proofs.Owners.{with_zeros, stands_for_zeros}
use Rattle.side_core.specs.declared.change.Change.{Change}
use Rattle.side_core.specs.declared.change.Change.TheVariants.{Write, Read, End, Land, Complete}
use Rattle.side_core.specs.Records.{Connection, Records, AllStand, Stands, StandsAt, conn_at, settles}
use Rattle.side_core.specs.declared.route.Way.{Way}
use Rattle.side_core.specs.Posting.{IsWay, posts_at}
use Rattle.side_core.specs.Manager.{Manager, Represents as ManagerStands}
use Rattle.side_core.specs.Acting.{acts_at, call_of, due_at}
use Rattle.side_core.specs.Changes.{MayCome, MayComeAt, Makes, MakesAt, named}
use Rattle.side_core.proofs.Ends.Doings.{Leaves, IsWayOf, acted, acted_posts, same_size, writes_leave, reads_leave, ends_leave, takes_leave, completes_leave}

-- what a change makes of some plain end
pub record IsMakeable (size : ℕ) (change : Change) (k : Kept) : Type 0 where
  pub end : Half
  pub act : Half → Half
  pub makes : Makes size change k end act

-- a change that may come makes something of some plain end
pub makeable : (size : ℕ) (change : Change) (k : Kept) → IsKept k → MayCome change k → IsMakeable size change k
makeable size (Write bytes) k kept may = record { end = with_zeros k; act = calls size (Writes bytes.now); makes = record { stands = stands_for_zeros k kept; is = refl } }
makeable size (Read len) k kept may = record { end = with_zeros k; act = calls size (Reads len); makes = record { stands = stands_for_zeros k kept; is = refl } }
makeable size (End call) k kept may = record { end = with_zeros k; act = calls size (named call); makes = record { stands = stands_for_zeros k kept; is = refl } }
makeable size (Land m plain) k kept may = record { end = may.end; act = takes (Some may.sent); makes = record { sent = may.sent; comes = may.arrives; is = refl } }
makeable size (Complete m plain) k kept may = record { end = may.end; act = completes (Some may.sent); makes = record { sent = may.sent; done = may.completes; is = refl } }

-- what is kept stands for that end
pub makes_stands : (size : ℕ) (change : Change) (k : Kept) (h : Half) (act : Half → Half) → Makes size change k h act → Represents k h
makes_stands size (Write bytes) k h act makes = makes.stands
makes_stands size (Read len) k h act makes = makes.stands
makes_stands size (End call) k h act makes = makes.stands
makes_stands size (Land m plain) k h act makes = makes.comes.lands.stands
makes_stands size (Complete m plain) k h act makes = makes.done.stands

-- a change leaves the link and the establishment of the end
pub makes_leave : (size : ℕ) (change : Change) (k : Kept) (h : Half) (act : Half → Half) → Makes size change k h act → Leaves act
makes_leave size (Write bytes) k h act makes = subst Leaves (sym makes.is) (writes_leave bytes.now size)
makes_leave size (Read len) k h act makes = subst Leaves (sym makes.is) (reads_leave len size)
makes_leave size (End call) k h act makes = subst Leaves (sym makes.is) (ends_leave call size)
makes_leave size (Land m plain) k h act makes = subst Leaves (sym makes.is) (takes_leave makes.sent)
makes_leave size (Complete m plain) k h act makes = subst Leaves (sym makes.is) (completes_leave makes.sent)

-- a change that may come to each connection of a kind may come to the one of a socket
pub may_come : (change : Change) (P : Option (Connection Kept) → Type 0) → (P None → ⊥) → ((k : Connection Kept) → P (Some k) → MayCome change k.end) → (o : Option (Connection Kept)) → P o → MayComeAt change o
may_come change P none each None is = absurd (none is)
may_come change P none each (Some k) is = each k is

-- and what it makes of each is what it makes of that
pub makes_at : (size : ℕ) (change : Change) (act : Half → Half) (Q : Option (Connection Kept) → Option (Connection Half) → Type 0) → ((p : Option (Connection Half)) → Q None p → ⊥) → ((k : Connection Kept) → Q (Some k) None → ⊥)
    → ((k : Connection Kept) (c : Connection Half) → Q (Some k) (Some c) → Makes size change k.end c.end act) → (o : Option (Connection Kept)) (p : Option (Connection Half)) → Q o p → MakesAt size change o p act
makes_at size change act Q none other each None p is = absurd (none p is)
makes_at size change act Q none other each (Some k) None is = absurd (other k is)
makes_at size change act Q none other each (Some k) (Some c) is = each k c is

-- what a call makes of a connection that is there
pub call_makes : (s : ℕ) (change : Change) (act : Half → Half) (v : Records Kept) (r : Records Half) → ((k : Connection Kept) (c : Connection Half) → Stands k c → Makes v.terms.size change k.end c.end act) → IsSome (conn_at s v) → AllStand v r → MakesAt v.terms.size change (conn_at s v) (conn_at s r) act
call_makes s change act v r each some all =
    makes_at v.terms.size change act (λ o p. IsSome o × StandsAt o p) (λ p is. true≢false (sym is.0)) (λ k is. is.1) (λ k c is. each k c is.1) (conn_at s v) (conn_at s r) (some, all.each s)

-- that a change does what a call does
abbrev pub DoesCall : Change → Call → ℕ → Type 0
DoesCall change call size = (k : Connection Kept) (c : Connection Half) → Stands k c → Makes size change k.end c.end (calls size call)

-- the manager after a call
pub called : (s : ℕ) (call : Call) (change : Change) (way : Way) (v : Manager Kept) (w : Records Kept) (m : Manager Half) → ((size : ℕ) → Leaves (calls size call)) → DoesCall change call v.records.terms.size → IsSome (conn_at s v.records) → IsWayOf s way v
    → ((r : Records Half) (act : Half → Half) → AllStand v.records r → MakesAt v.records.terms.size change (conn_at s v.records) (conn_at s r) act → IsWay act way (conn_at s r) → AllStand w (settles s act r))
    → ManagerStands v m → ManagerStands (record v { records = w }) (acts_at s (call_of call m) m)
called s call change way v w m leaves does some is after stands =
    let act : Half → Half = calls v.records.terms.size call in
    subst (λ n. ManagerStands (record v { records = w }) (acts_at s (calls n call) m)) (same_size v m stands)
    (acted s act way v w m (leaves v.records.terms.size) some is (after m.records act stands.works.records (call_makes s change act v.records m.records does some stands.works.records)) stands)

-- and what is posted with it
pub called_posts : (s : ℕ) (call : Call) (change : Change) (way : Way) (v : Manager Kept) (m : Manager Half) (before after : List Post) → ((size : ℕ) → Leaves (calls size call)) → DoesCall change call v.records.terms.size → IsSome (conn_at s v.records) → IsWayOf s way v
    → ((r : Records Half) (act : Half → Half) → AllStand v.records r → MakesAt v.records.terms.size change (conn_at s v.records) (conn_at s r) act → IsWay act way (conn_at s r) → after ≡ before ++ posts_at s act way r (conn_at s r))
    → ManagerStands v m → after ≡ before ++ due_at s (call_of call m) m
called_posts s call change way v m before after leaves does some is posts stands =
    let act : Half → Half = calls v.records.terms.size call in
    subst (λ n. after ≡ before ++ due_at s (calls n call) m) (same_size v m stands)
    (acted_posts s act way v m before after (leaves v.records.terms.size) is (posts m.records act stands.works.records (call_makes s change act v.records m.records does some stands.works.records)) stands)
