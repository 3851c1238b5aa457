-- Each entry of a lawful history is a lawful step after those before it, and what a call is told is a function of its part.
use Rattle.std.proofs.Common.{◌≡◌, ◌∙◌, ℕ, Bool, true, List, [], ◌∷◌, ◌++◌, map, reverse, refl, ap, sym, subst}
use Rattle.std.proofs.lemmas.List.{reverse-append, append_assoc, append-nil}
use Rattle.pipe_model.specs.declared.event.End.{End}
use Rattle.pipe_model.specs.declared.setup.Setup.{Setup}
use Rattle.pipe_model.specs.declared.entry.Entry.{Entry}
use Rattle.pipe_model.specs.Calls.{Call, Told, Plain, Hands}
use Rattle.pipe_model.specs.Pipe.{Terms, Item, Calls, pipe, told, told as pipe_told, lands_near, is_near_part}
use Rattle.pipe_model.specs.Connections.{IsUp, group_on, part, end_state}
use Rattle.pipe_model.specs.Lending.{terms_of, pipe_of}
use Rattle.pipe_model.specs.Replies.{call_told, end_told}
use Rattle.pipe_model.specs.Lawful.{IsStep, IsLawfulPast, IsLawful, IsLawfulAfter, TwoWorlds, answers, item_told, as_claimed, claims}
use Rattle.pipe_model.proofs.Pipes.{and-parts}

-- an entry somewhere in a lawful past: it is a step after a lawful one, with the bytes that this handed out
record IsStepIn (setup : Setup) (payload : List ℕ) (older : List Entry) (e : Entry) (heard : List ℕ) : Type 0 where
  before : List ℕ
  lawful : IsLawfulPast setup payload older before
  after : List ℕ
  step : IsStep setup payload older before e after
  later : List ℕ
  heard_is : heard ≡ after ++ later

step-in : (setup : Setup) (payload : List ℕ) (more : List Entry) (e : Entry) (older : List Entry) (heard : List ℕ) → IsLawfulPast setup payload (more ++ e ∷ older) heard → IsStepIn setup payload older e heard
step-in setup payload [] e older heard l = record { before = l.0; lawful = l.2; after = heard; step = l.1; later = []; heard_is = sym (append-nil heard) }
step-in setup payload (x ∷ more) e older heard l =
    let i = step-in setup payload more e older l.0 l.2 in
    let s = l.1 in
    record {
      before = i.before;
      lawful = i.lawful;
      after = i.after;
      step = i.step;
      later = i.later ++ s.given;
      heard_is = s.heard_is ∙ (ap (λ bs. bs ++ s.given) i.heard_is ∙ append_assoc i.after i.later s.given);
    }

-- a history with an entry in its midst, turned
turned : (earlier : List Entry) (e : Entry) (later : List Entry) → reverse (earlier ++ e ∷ later) ≡ reverse later ++ e ∷ reverse earlier
turned earlier e later =
    reverse-append earlier (e ∷ later) ∙ (ap (λ l. l ++ reverse earlier) (reverse-append (e ∷ []) later) ∙ append_assoc (reverse later) (e ∷ []) (reverse earlier))

-- each entry of a lawful history is a lawful step after those before it
pub step-of-lawful : (setup : Setup) (payload : List ℕ) (earlier : List Entry) (e : Entry) (later : List Entry) (heard : List ℕ)
    → IsLawful setup payload (earlier ++ e ∷ later) heard → IsLawfulAfter setup payload earlier e heard
step-of-lawful setup payload earlier e later heard lawful =
    let i = step-in setup payload (reverse later) e (reverse earlier) heard (subst (λ past. IsLawfulPast setup payload past heard) (turned earlier e later) lawful) in
    record { before = i.before; lawful = i.lawful; after = i.after; step = i.step; later = i.later; heard_is = i.heard_is }

-- of a near part all is claimed
pub claimed-whole : (t : Told) → as_claimed true t ≡ t
claimed-whole (Plain reply) = refl
claimed-whole (Hands bytes) = refl

item-whole : (t : Terms) (item : Item) (older : List Item) (near : Bool) → near ≡ true → map (as_claimed near) (item_told t item older) ≡ item_told t item older
item-whole t (Calls x call) older near e = ap (λ b. as_claimed b (pipe_told t x call (pipe t older)) ∷ []) e ∙ ap (λ a. a ∷ []) (claimed-whole (pipe_told t x call (pipe t older)))
item-whole t item older near e = refl

pub near-whole : (t : Terms) (items : List Item) → is_near_part t items ≡ true → claims t items ≡ answers t items
near-whole t [] e = refl
near-whole t (item ∷ older) e =
    let near = and-parts (is_near_part t older) (lands_near item (pipe t older)) e in
    ap (λ said. said ++ claims t older) (item-whole t item older (is_near_part t older) near.0) ∙ ap (λ said. item_told t item older ++ said) (near-whole t older near.0)

-- what the calls of a connection are told is a function of its terms and its part
pub told-by-part : (t u : Setup) (p q : List ℕ) (s r : ℕ) (past past2 : List Entry) → TwoWorlds t u p q s r past past2
told-by-part t u p q s r past past2 same_terms same_parts =
    ap (answers (terms_of t)) same_parts ∙ ap (λ terms. answers terms (part q (group_on r past2) r past2)) same_terms

-- a call on an established end is told what its private pipe says
pub told-by-pipe : (setup : Setup) (payload : List ℕ) (end : End) (call : Call) (past : List Entry) → end_state end.side end.s past ≡ IsUp
    → call_told setup payload end call past ≡ told (terms_of setup) end.side call (pipe_of setup payload (group_on end.s past) end.s past)
told-by-pipe setup payload end call past up = ap (end_told setup payload end call past) up
