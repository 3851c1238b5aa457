-- What goes on the wire of the posts of an entry: those of the history, as many as go, each CDC message with what its end told last.
use Rattle.std.proofs.Common.{◌≡◌, ◌∙◌, ◌==◌, ℕ, ◌+◌, ◌≤◌, Bool, true, false, if◌then◌else◌, List, [], ◌∷◌, length, map, filter, filter_map, refl, ap, sym, subst, ◌&&◌, true≢false, arith, eqb-true, suc}
use Rattle.std.specs.Prelude.{Option, Some, None, option_map, unwrap_or, cond}
use Rattle.std.specs.List.{cons_option}
use Rattle.smc_num.specs.declared.Side.{Side}
use Rattle.smc_num.specs.declared.LinkId.{LinkId}
use Rattle.smc_num.specs.Names.{same_side, same_link}
use Rattle.cdc_wire.specs.declared.CdcMessage.{CdcMessage}
use Rattle.pipe_model.specs.declared.snapshot.Snapshot.{Snapshot}
use Rattle.pipe_model.specs.declared.post.Post.{Post}
use Rattle.pipe_model.specs.declared.post.Post.TheVariants.{Write, Cdc, Llc, Clc}
use Rattle.pipe_model.specs.declared.post.Placed.{Placed}
use Rattle.pipe_model.specs.History.{numbered}
use Rattle.pipe_model.specs.Wires.{is_on}
use Rattle.pipe_model.specs.Ends.{Half}
use Rattle.rc_link.specs.declared.InFlight.{InFlight}
use Rattle.rc_link.specs.Wire.{placed}
use Rattle.side_core.specs.Records.{aimer, half_at}
use Rattle.side_core.specs.Manager.{Manager}
use Rattle.world_core.specs.OneLink.{the_link}
use Rattle.world_core.specs.Wired.{cdc_under, if_meant}
use Rattle.world_core.specs.WireSteps.{EachPost}
use Rattle.world_core.specs.Hosts.{plain_under, plains}
use Rattle.world_core.specs.Sending.{carried_from, plain_of, goes_on_wire, no_snapshot}
use Rattle.world_core.proofs.Carrying.{same-link as link-self}
use Rattle.world_core.proofs.PostsFrom.{IsSentBy, EndsWithCdc}
use Rattle.world_core.proofs.Plain.{and-false, and-right, same-self}

-- a post of the side goes where it is on the link
on-wire : (x from : Side) (l : LinkId) → (from ≡ x) × (l ≡ the_link) → (same_side x from && same_link the_link l) ≡ true
on-wire x from l f = ap (λ y. same_side x y && same_link the_link l) f.0 ∙ (ap (λ b. b && same_link the_link l) (same-self x) ∙ (ap (λ k. same_link the_link k) f.1 ∙ link-self the_link))

goes-on : (sockets : ℕ) (x : Side) (post : Post) → IsSentBy sockets x post → goes_on_wire post ≡ is_on the_link x post
goes-on sockets x (Write from l key address len) f = sym (on-wire x from l f)
goes-on sockets x (Cdc from l m) f = sym (on-wire x from l f)
goes-on sockets x (Llc from l m) f = sym (on-wire x from l f)
goes-on sockets x (Clc from s l m) f = sym (and-false (same_side x from))

module _ (m : Manager Half) (entry : ℕ) where
  abbrev made_of : ℕ → Post → InFlight
  made_of first post = record { at = record { entry = entry; post = first }; post = post; plain = plain_of m post }

  abbrev at_place : ℕ → Post → Placed
  at_place first post = record { at = record { entry = entry; post = first }; post = post }

  placed-if : (first : ℕ) (post : Post) (b : Bool) (cs : List InFlight) → map placed (if b then made_of first post ∷ cs else cs) ≡ cond b (at_place first post ∷ map placed cs) (map placed cs)
  placed-if first post true cs = refl
  placed-if first post false cs = refl

  -- they are those of the history
  pub carried-placed : (sockets : ℕ) (x : Side) (first : ℕ) (posts : List Post) → EachPost (IsSentBy sockets x) posts → map placed (carried_from m entry first posts) ≡ filter (λ c. is_on the_link x c.post) (numbered entry first posts)
  carried-placed sockets x first [] f = refl
  carried-placed sockets x first (post ∷ posts) f =
      placed-if first post (goes_on_wire post) (carried_from m entry (first + 1) posts) ∙
      (ap (λ b. cond b (at_place first post ∷ map placed (carried_from m entry (first + 1) posts)) (map placed (carried_from m entry (first + 1) posts))) (goes-on sockets x post f.0) ∙
      ap (λ cs. cond (is_on the_link x post) (at_place first post ∷ cs) cs) (carried-placed sockets x (first + 1) posts f.1))

  long-if : (first : ℕ) (post : Post) (b : Bool) (cs : List InFlight) (posts : List Post) → length cs ≡ length posts → length (if b then made_of first post ∷ cs else cs) ≡ length (cond b (post ∷ posts) posts)
  long-if first post true cs posts e = ap (λ n. suc n) e
  long-if first post false cs posts e = e

  -- as many as go
  pub carried-long : (first : ℕ) (posts : List Post) → length (carried_from m entry first posts) ≡ length (filter goes_on_wire posts)
  carried-long first [] = refl
  carried-long first (post ∷ posts) = long-if first post (goes_on_wire post) (carried_from m entry (first + 1) posts) (filter goes_on_wire posts) (carried-long (first + 1) posts)

  -- what the end told last whose messages carry a token
  abbrev pub told_by : ℕ → Snapshot
  told_by token = unwrap_or (option_map (λ s. (half_at s m.records).last) (aimer token m.records)) no_snapshot

  meant : (token : ℕ) (k : CdcMessage) (a b : Bool) → (a && (token == k.token)) ≡ b → option_map (λ j. told_by k.token) (if_meant b k) ≡ option_map (λ j. told_by token) (if_meant b k)
  meant token k a true e = ap (λ t. Some (told_by t)) (sym (eqb-true token k.token (and-right a (token == k.token) e)))
  meant token k a false e = refl

  plain-one : (x : Side) (token first : ℕ) (post : Post) → plain_under x token (made_of first post) ≡ option_map (λ j. told_by token) (cdc_under x token post)
  plain-one x token first (Write from l key address len) = refl
  plain-one x token first (Cdc from l k) = meant token k (same_side x from) (same_side x from && (token == k.token)) refl
  plain-one x token first (Llc from l k) = refl
  plain-one x token first (Clc from s l k) = refl

  cons-told : (s : Snapshot) (o : Option CdcMessage) (ks : List CdcMessage) → cons_option (option_map (λ j. s) o) (map (λ j. s) ks) ≡ map (λ j. s) (cons_option o ks)
  cons-told s None ks = refl
  cons-told s (Some k) ks = refl

  plains-if : (x : Side) (token first : ℕ) (post : Post) (b : Bool) → goes_on_wire post ≡ b → (cs : List InFlight) (ks : List CdcMessage) → plains x token cs ≡ map (λ j. told_by token) ks
      → plains x token (if b then made_of first post ∷ cs else cs) ≡ map (λ j. told_by token) (cons_option (cdc_under x token post) ks)
  plains-if x token first post true g cs ks e = ap (λ o. cons_option o (plains x token cs)) (plain-one x token first post) ∙ (ap (λ ss. cons_option (option_map (λ j. told_by token) (cdc_under x token post)) ss) e ∙ cons-told (told_by token) (cdc_under x token post) ks)
  plains-if x token first (Clc from s l k) false g cs ks e = e
  plains-if x token first (Write from l key address len) false g cs ks e = absurd (true≢false g)
  plains-if x token first (Cdc from l k) false g cs ks e = absurd (true≢false g)
  plains-if x token first (Llc from l k) false g cs ks e = absurd (true≢false g)

  -- beside each message under the token stands that
  pub carried-plain : (x : Side) (token first : ℕ) (posts : List Post) → plains x token (carried_from m entry first posts) ≡ map (λ j. told_by token) (filter_map (cdc_under x token) posts)
  carried-plain x token first [] = refl
  carried-plain x token first (post ∷ posts) = plains-if x token first post (goes_on_wire post) refl (carried_from m entry (first + 1) posts) (filter_map (cdc_under x token) posts) (carried-plain x token (first + 1) posts)

-- at most one CDC message is under a token
cons-few : (o : Option CdcMessage) → length (cons_option o []) ≤ 1
cons-few None = omega arith
cons-few (Some m) = omega arith

pub one-cdc : (x : Side) (token : ℕ) (posts : List Post) → EndsWithCdc posts → length (filter_map (cdc_under x token) posts) ≤ 1
one-cdc x token [] e = omega arith
one-cdc x token (Cdc from l m ∷ posts) e = subst (λ ps. length (filter_map (cdc_under x token) (Cdc from l m ∷ ps)) ≤ 1) (sym e) (cons-few (cdc_under x token (Cdc from l m)))
one-cdc x token (Write from l key address len ∷ posts) e = one-cdc x token posts e
one-cdc x token (Llc from l m ∷ posts) e = one-cdc x token posts e
one-cdc x token (Clc from s l m ∷ posts) e = one-cdc x token posts e
