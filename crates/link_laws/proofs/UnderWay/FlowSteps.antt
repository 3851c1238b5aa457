-- The whole step: after any entry that is given by the definitions, links, flows and the wires of the link flow go on, where the handshake
-- pays what it owes.
use Rattle.std.proofs.Common.{Bool, List, None, [], false, if◌then◌else◌, not, refl, subst, sym, true, ℕ, ◌&&◌, ◌||◌, ◌∷◌}
use Rattle.pipe_model.specs.Lawful.{asked}
use Rattle.std.specs.Prelude.{slice_index_or}
use Rattle.pipe_model.specs.Replies.{told}
use Rattle.pipe_model.specs.declared.event.Event.TheVariants.{Clc, Raw, Write}
use Rattle.history_laws.specs.Words.{Abort, Await, Close, Complete, Cut, Declined, Deliver, Entry, Event, Finish, Grow, Heal, Move, NameUsed, NotCapable, Open, Opened, Read, Report, Setup, Swallow, Test, Trim, connection_posts, draft, is_opened, is_raw, open_told, proposal_post, reply_of}
use Rattle.history_laws.specs.Made.{IsMade}
use Rattle.history_laws.proofs.Basics.{none-is}
use Rattle.link_laws.specs.UnderWay.{HasFlows}
use Rattle.link_laws.specs.Owed.{OwedByHandshake}
use Rattle.link_laws.proofs.UnderWay.Entries.{Draft, deliver, entry_of, quiet, swallow}
use Rattle.link_laws.proofs.UnderWay.Handshakes.{takes-clc}
use Rattle.link_laws.proofs.UnderWay.Asks.{grows, reported, tests, trims}
use Rattle.link_laws.proofs.UnderWay.Step.{GoesOn, goes-on}
use Rattle.link_laws.proofs.UnderWay.PostKinds.{no-llc-connections}
use Rattle.link_laws.proofs.Sound.{at-first}

module _ (setup : Setup) (payload : List ℕ) (past : List Entry) (all : HasFlows past) (owed : OwedByHandshake setup payload past all.under) where
  -- an event that changes no link, posts nothing and takes nothing from a wire, whatever it is told
  opens : (s : ℕ) → Draft past all.under (Open s) (open_told setup s past) (asked setup payload past (Open s) (open_told setup s past))
  opens s = by (is_opened s past || is_raw s past) (slice_index_or setup.capable 0 false) (slice_index_or setup.capable 1 false)
    where
      by : (b c d : Bool) → Draft past all.under (Open s) (if b then NameUsed else if not (c && d) then Declined (NotCapable c d) else Opened) (asked setup payload past (Open s) (if b then NameUsed else if not (c && d) then Declined (NotCapable c d) else Opened))
      by true c d = quiet past all (Open s) NameUsed [] (λ x k. refl) (λ actor posts. refl) tt
      by false true true = quiet past all (Open s) Opened (proposal_post setup s ∷ []) (λ x k. refl) (λ actor posts. refl) tt
      by false true false = quiet past all (Open s) (Declined (NotCapable true false)) [] (λ x k. refl) (λ actor posts. refl) tt
      by false false d = quiet past all (Open s) (Declined (NotCapable false d)) [] (λ x k. refl) (λ actor posts. refl) tt

  drafts : (before : ℕ) (event : Event) → Draft past all.under event (reply_of before (told setup payload past event)) (asked setup payload past event (reply_of before (told setup payload past event)))
  drafts before (Open s) = opens s
  drafts before (Raw s at len) = quiet past all (Raw s at len) _ [] (λ x k. refl) (λ actor posts. refl) tt
  drafts before (Write end at len) = quiet past all (Write end at len) _ [] (λ x k. refl) (λ actor posts. refl) tt
  drafts before (Read end len) = quiet past all (Read end len) _ [] (λ x k. refl) (λ actor posts. refl) tt
  drafts before (Finish end) = quiet past all (Finish end) _ [] (λ x k. refl) (λ actor posts. refl) tt
  drafts before (Close end) = quiet past all (Close end) _ [] (λ x k. refl) (λ actor posts. refl) tt
  drafts before (Abort end) = quiet past all (Abort end) _ [] (λ x k. refl) (λ actor posts. refl) tt
  drafts before (Await end) = quiet past all (Await end) _ [] (λ x k. refl) (λ actor posts. refl) tt
  drafts before (Move end) = quiet past all (Move end) _ [] (λ x k. refl) (λ actor posts. refl) tt
  drafts before (Clc s dir) = takes-clc setup payload past all owed s dir
  drafts before (Deliver slot dir) = deliver past all setup payload slot dir
  drafts before (Complete slot dir) = quiet past all (Complete slot dir) _ [] (λ x k. refl) (λ actor posts. refl) tt
  drafts before (Swallow slot dir) = swallow past all slot dir
  drafts before (Cut slot) = quiet past all (Cut slot) _ [] (λ x k. refl) (λ actor posts. refl) tt
  drafts before (Heal slot) = quiet past all (Heal slot) _ [] (λ x k. refl) (λ actor posts. refl) tt
  drafts before (Report x slot) = reported past all setup payload x slot
  drafts before Grow = grows past all setup payload
  drafts before (Test x slot) = tests past all setup payload x slot
  drafts before (Trim x) = trims past all setup payload x

  -- any entry
  pub any-goes : (before : ℕ) (e : Entry) → IsMade setup payload past before e → GoesOn e past all.under
  any-goes before e given =
      subst (λ r. GoesOn (entry_of e.actor e.event r e.posts) past all.under) (sym given.reply)
      (subst (λ ps. GoesOn (entry_of e.actor e.event (reply_of before (told setup payload past e.event)) ps) past all.under) (sym given.posts)
      (drafts before e.event e.actor (connection_posts setup payload (draft setup payload past before e.event) past) (no-llc-connections setup payload (draft setup payload past before e.event) past)))

  -- the step over all events
  abbrev pub flows-go-on : (before : ℕ) (e : Entry) → IsMade setup payload past before e → HasFlows (e ∷ past)
  flows-go-on before e given = goes-on e past all (any-goes before e given)

-- at first
abbrev pub flows-at-first : HasFlows []
flows-at-first = record {
  under = None;
  linked = at-first;
  carried = record { alive = λ w e. absurd (none-is w e); carried = λ l x alive. refl };
  empty = record { empty = λ l x un. refl };
}
