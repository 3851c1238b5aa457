-- Events that move neither the link nor a socket: calls, completions, what is idle or held, and landings of writes and CDC messages.
use Rattle.std.proofs.Common.{◌≡◌, refl}
use Rattle.pipe_model.specs.declared.event.Event.TheVariants.{Open, Write, Read, Clc, Deliver, Complete}
use Rattle.pipe_model.specs.declared.reply.Reply.TheVariants.{Idle, Held, NameUsed}
use Rattle.pipe_model.specs.declared.reply.Hold.{Hold}
use Rattle.pipe_model.specs.declared.event.End.{End}
use Rattle.smc_num.specs.Names.{same_side}
use Rattle.smc_num.specs.declared.Side.{Side}
use Rattle.smc_num.specs.Keys.{Key}
use Rattle.pipe_model.specs.declared.post.Placed.{Placed}
use Rattle.world_core.proofs.Moves.{IsQuiet}
use Rattle.pipe_model.specs.declared.entry.Entry.{Entry}
use Rattle.pipe_model.specs.Connections.{EndState, after_event, up_by}
use Rattle.smc_num.specs.declared.Side.TheVariants.{A, B}
use Rattle.pipe_model.specs.Fabric.{is_latest, sets_path, after, fabric, act_by}
use Rattle.pipe_model.specs.Wires.{unlanded, cuts, if_latest, leaves}
use Rattle.pipe_model.specs.Parts.{actor}
use Rattle.world_core.specs.OneLink.{llc_in, llc_waiting}
use Rattle.std.specs.Prelude.{Bool, List, None, [], drop, false, filter_map, if◌then◌else◌, true, ℕ, ◌&&◌, ◌==◌}
use Rattle.pipe_model.specs.Keys.{book_clc}
use Rattle.pipe_model.specs.declared.post.Post.{Post}
use Rattle.pipe_model.specs.declared.event.Event.{Event}
use Rattle.pipe_model.specs.declared.reply.Reply.{Reply}
use Rattle.world_core.proofs.Plain.{if-same, and-false}
use Rattle.pipe_model.specs.Fallback.{takes_clc, opens, raws}
use Rattle.smc_num.specs.declared.LinkId.{LinkId}

pub by-side : (P : Side → Type 0) → P A → P B → (x : Side) → P x
by-side P a b A = a
by-side P a b B = b

-- an entry of an event
abbrev pub entry-of : ℕ → Event → Reply → List Post → Entry
entry-of actor event reply posts = record { actor = actor; event = event; reply = reply; posts = posts }

-- nothing leaves a wire
pub none-leaves : (b : Bool) (cs : List Placed) → filter_map llc_in (drop (if b then 0 else 0) cs) ≡ filter_map llc_in cs
none-leaves true cs = refl
none-leaves false cs = refl

pub never-both : (a b : Bool) → (a && (b && false)) ≡ false
never-both true true = refl
never-both true false = refl
never-both false b = refl

-- what an event shows of a side that it doesn't move
pub record IsStill (event : Event) (reply : Reply) (older : List Entry) (x : Side) : Type 0 where
  pub acts : act_by x event reply older ≡ None
  pub up : (s : ℕ) → up_by x s event reply older ≡ None
  pub early : (s : ℕ) (state : EndState) → after_event x s event reply state ≡ state
  pub book : (b : List Key) → book_clc x event reply older b ≡ b

module _ (actor : ℕ) (older : List Entry) where
  -- an event of which each effect is none
  pub quiet-by : (event : Event) (reply : Reply) → ((b : Bool) → sets_path 1 event reply b ≡ b) → ((link : LinkId) → cuts link event reply older ≡ false) → after event reply [] older (fabric older) ≡ fabric older
      → IsStill event reply older A → IsStill event reply older B → ((x : Side) (s : ℕ) → takes_clc x s event reply ≡ false) → ((s : ℕ) → opens s event reply ≡ false) → ((s : ℕ) → raws s event reply ≡ false)
      → ((link : LinkId) (x : Side) → filter_map llc_in (drop (if_latest link older (leaves x link.slot event reply)) (unlanded link x older)) ≡ llc_waiting link x older)
      → IsQuiet (entry-of actor event reply []) older
  quiet-by event reply path uncut same a b takes opened raw waiting = record {
    path = path;
    cuts_none = uncut;
    posts = refl;
    fabric_is = same;
    acts = λ x. let h = both x in h.acts;
    up = λ x. let h = both x in h.up;
    early = λ x. let h = both x in h.early;
    takes = takes;
    opened = opened;
    raw = raw;
    book = λ x. let h = both x in h.book;
    waiting = waiting;
  }
    where
      both : (x : Side) → IsStill event reply older x
      both = by-side (λ x. IsStill event reply older x) a b

  pub quiet-write : (end : End) (at len : ℕ) (reply : Reply) → IsQuiet (entry-of actor (Write end at len) reply []) older
  quiet-write end at len reply =
      quiet-by (Write end at len) reply (λ b. refl) (λ link. refl) refl (record { acts = refl; up = λ s. refl; early = λ s state. refl; book = λ b. refl }) (record { acts = refl; up = λ s. refl; early = λ s state. refl; book = λ b. refl })
      (λ x s. refl) (λ s. refl) (λ s. refl) (λ link x. none-leaves (is_latest link older) (unlanded link x older))

  pub quiet-read : (end : End) (len : ℕ) (reply : Reply) → IsQuiet (entry-of actor (Read end len) reply []) older
  quiet-read end len reply =
      quiet-by (Read end len) reply (λ b. refl) (λ link. refl) refl (record { acts = refl; up = λ s. refl; early = λ s state. refl; book = λ b. refl }) (record { acts = refl; up = λ s. refl; early = λ s state. refl; book = λ b. refl })
      (λ x s. refl) (λ s. refl) (λ s. refl) (λ link x. none-leaves (is_latest link older) (unlanded link x older))

  pub quiet-complete : (slot : ℕ) (dir : Side) (reply : Reply) → IsQuiet (entry-of actor (Complete slot dir) reply []) older
  quiet-complete slot dir reply =
      quiet-by (Complete slot dir) reply (λ b. refl) (λ link. refl) refl (record { acts = refl; up = λ s. refl; early = λ s state. refl; book = λ b. refl }) (record { acts = refl; up = λ s. refl; early = λ s state. refl; book = λ b. refl })
      (λ x s. refl) (λ s. refl) (λ s. refl) (λ link x. none-leaves (is_latest link older) (unlanded link x older))

  pub quiet-name : (t : ℕ) → IsQuiet (entry-of actor (Open t) NameUsed []) older
  quiet-name t =
      quiet-by (Open t) NameUsed (λ b. refl) (λ link. refl) refl (record { acts = refl; up = λ s. refl; early = λ s state. refl; book = λ b. refl }) (record { acts = refl; up = λ s. refl; early = λ s state. refl; book = λ b. refl })
      (λ x s. refl) (λ s. and-false (s == t)) (λ s. refl) (λ link x. none-leaves (is_latest link older) (unlanded link x older))

  pub quiet-idle-clc : (t : ℕ) (dir : Side) → IsQuiet (entry-of actor (Clc t dir) Idle []) older
  quiet-idle-clc t A =
      quiet-by (Clc t A) Idle (λ b. refl) (λ link. refl) refl (record { acts = refl; up = λ s. refl; early = λ s state. refl; book = λ b. refl }) (record { acts = refl; up = λ s. refl; early = λ s state. if-same (s == t) state; book = λ b. refl })
      (λ x s. never-both (s == t) (same_side x A)) (λ s. refl) (λ s. refl) (λ link x. none-leaves (is_latest link older) (unlanded link x older))
  quiet-idle-clc t B =
      quiet-by (Clc t B) Idle (λ b. refl) (λ link. refl) refl (record { acts = refl; up = λ s. refl; early = λ s state. if-same (s == t) state; book = λ b. refl }) (record { acts = refl; up = λ s. refl; early = λ s state. refl; book = λ b. refl })
      (λ x s. never-both (s == t) (same_side x B)) (λ s. refl) (λ s. refl) (λ link x. none-leaves (is_latest link older) (unlanded link x older))

  pub quiet-held-clc : (t : ℕ) (hold : Hold) → IsQuiet (entry-of actor (Clc t A) (Held hold) []) older
  quiet-held-clc t hold =
      quiet-by (Clc t A) (Held hold) (λ b. refl) (λ link. refl) refl (record { acts = refl; up = λ s. refl; early = λ s state. refl; book = λ b. refl }) (record { acts = refl; up = λ s. refl; early = λ s state. if-same (s == t) state; book = λ b. refl })
      (λ x s. never-both (s == t) (same_side x A)) (λ s. refl) (λ s. refl) (λ link x. none-leaves (is_latest link older) (unlanded link x older))

  pub quiet-idle-landing : (slot : ℕ) (dir : Side) → IsQuiet (entry-of actor (Deliver slot dir) Idle []) older
  quiet-idle-landing slot A =
      quiet-by (Deliver slot A) Idle (λ b. refl) (λ link. refl) refl (record { acts = refl; up = λ s. refl; early = λ s state. refl; book = λ b. refl }) (record { acts = refl; up = λ s. refl; early = λ s state. refl; book = λ b. refl })
      (λ x s. refl) (λ s. refl) (λ s. refl) (λ link x. none-leaves (is_latest link older) (unlanded link x older))
  quiet-idle-landing slot B =
      quiet-by (Deliver slot B) Idle (λ b. refl) (λ link. refl) refl (record { acts = refl; up = λ s. refl; early = λ s state. refl; book = λ b. refl }) (record { acts = refl; up = λ s. refl; early = λ s state. refl; book = λ b. refl })
      (λ x s. refl) (λ s. refl) (λ s. refl) (λ link x. none-leaves (is_latest link older) (unlanded link x older))
