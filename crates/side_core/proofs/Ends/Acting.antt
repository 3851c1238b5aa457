-- What one connection is after something was done to its end.
-- A reader learns here that it stays set up as it was, and that its number stays far from the end of a u64.
use Rattle.std.proofs.Common.{◌≡◌, ◌∙◌, ℕ, ◌<◌, ◌^◌, Bool, true, false, ◌&&◌, [], ◌∷◌, refl, sym, ap, subst}
use Rattle.smc_num.specs.Names.{no_link}
use Rattle.pipe_model.specs.Ends.{Half, settle}
use Rattle.conn_end.specs.Batches.{may_post}
use Rattle.conn_end.specs.Kept.{Kept, Represents, SameTerms}
use Rattle.side_core.specs.Records.{Connection, Stands}
use Rattle.side_core.specs.Inside.{IsAimed, IsSet, IsMade, IsFiled}
use Rattle.pipe_model.specs.Pipe.{Terms}
use Rattle.side_core.specs.Posting.{SameCourse}
use Rattle.side_core.proofs.Ends.Keeping.{IsAlike, settle_up, settle_link}

-- it stays set up
pub set_after : (c : Connection Kept) (new : Kept) (g : Half) → IsSet c → SameTerms c.end new → new.owes ≡ c.end.owes → Represents new g → IsSet (record c { end = new })
set_after c new g set terms owes stands = record {
  kept = stands.whole;
  owes = owes ∙ set.owes;
  aimed = subst (λ label. IsAimed label c.route.peer) (sym terms.token) set.aimed;
}

-- its number stays
pub number_after : (old new : Kept) (h g : Half) → Represents old h → Represents new g → IsAlike h g → old.course.number < 2 ^ 63 → new.course.number < 2 ^ 63
number_after old new h g before after alike small = subst (λ n. n < 2 ^ 63) (before.number ∙ sym alike.number ∙ sym after.number) small

-- what is due is posted by the depth that it was made with
pub settled : (old mid new : Kept) (g : Half) → SameTerms old mid → Represents new (settle mid.course.depth g) → Represents new (settle old.course.depth g)
settled old mid new g terms stands = subst (λ d. Represents new (settle d g)) terms.depth stands

-- an end that may post, or may not, as told
abbrev pub may_post_so : Bool → Half → Half
may_post_so live h = record h { up = live; link = no_link; live = no_link ∷ [] }

pub may_post_is : (live : Bool) (h : Half) → live ≡ may_post (may_post_so live h)
may_post_is true h = refl
may_post_is false h = refl

-- a connection that keeps its course stays filed
pub filed_after : (terms : Terms) (by_token by_peer : Rattle.std.proofs.Common.List ℕ) (s : ℕ) (old new : Connection Kept) → IsFiled terms by_token by_peer s old → SameCourse old new → IsSet new → IsFiled terms by_token by_peer s new
filed_after terms by_token by_peer s old new filed same set = record {
  made = record { size = same.terms.size ∙ filed.made.size; depth = same.terms.depth ∙ filed.made.depth; first = same.terms.first ∙ filed.made.first };
  set = set;
  own = subst (λ r. Rattle.side_core.specs.Inside.socket_named r.token by_token ≡ Rattle.std.proofs.Common.Some s) (sym same.route) filed.own;
  peer = subst (λ r. Rattle.side_core.specs.Inside.IsPeerNamed by_peer s r.peer) (sym same.route) filed.peer;
}

-- and stands for what was done to the plain one
pub acted_stands : (old new : Connection Kept) (c : Connection Half) (g : Half) (depth : ℕ) → SameCourse old new → Stands old c → IsAlike c.end g → Represents new.end (settle old.end.course.depth g) → old.end.course.depth ≡ depth → Stands new (record c { end = settle depth g })
acted_stands old new c g depth same stands alike after is = record {
  route = same.route ∙ stands.route;
  up = settle_up depth g ∙ alike.up ∙ stands.up;
  link = λ up. settle_link depth g ∙ alike.link ∙ stands.link up;
  end = subst (λ d. Represents new.end (settle d g)) is after;
}
