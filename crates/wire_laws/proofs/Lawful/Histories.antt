-- A made history is lawful, with the bytes that its answers hand out.
use Rattle.std.proofs.Common.{Bool, List, [], refl, ℕ, ◌∷◌}
use Rattle.pipe_model.specs.Calls.{Hands, Plain, Told}
use Rattle.pipe_model.specs.Lawful.{Given, IsLawfulPast, claims_bytes}
use Rattle.pipe_model.specs.Replies.{told}
use Rattle.history_laws.specs.Made.{IsMadeAll}
use Rattle.history_laws.specs.Words.{Entry, Setup}
use Rattle.link_laws.specs.Awaited.{AreOnKnown}
use Rattle.lending_laws.specs.Lendings.{HasElements}
use Rattle.wire_laws.specs.Heard.{IsMadeCounted, IsMadeWith, all_bytes, told_bytes}
use Rattle.wire_laws.proofs.Lawful.Steps.{lawful-step}

-- its entries are made
made-all : (setup : Setup) (payload : List ℕ) (past : List Entry) (heard : List ℕ) → IsMadeWith setup payload past heard → IsMadeAll setup payload past
made-all setup payload [] heard w = tt
made-all setup payload (e ∷ past) heard w = let r = w.1 in let q = r.0 in ((_, q.0), made-all setup payload past w.0 r.1)

-- it is lawful
pub made-lawful : (setup : Setup) (payload : List ℕ) (past : List Entry) (heard : List ℕ) → HasElements setup → IsMadeWith setup payload past heard → AreOnKnown setup past → IsLawfulPast setup payload past heard
made-lawful setup payload [] heard elements w known = w
made-lawful setup payload (e ∷ past) heard elements w known =
    let r = w.1 in
    let q = r.0 in
    (w.0, lawful-step setup payload past w.0 e heard elements (made-all setup payload past w.0 r.1) known q.0 q.1, made-lawful setup payload past w.0 elements r.1 known.1)

-- the bytes of an answer are what it hands out
is-given : (claimed : Bool) (t : Told) → Given claimed t (told_bytes t)
is-given claimed (Plain reply) = refl
is-given claimed (Hands bytes) = record { as_long = refl; same = λ c. refl }

with-all : (setup : Setup) (payload : List ℕ) (past : List Entry) → IsMadeCounted setup payload past → IsMadeWith setup payload past (all_bytes setup payload past)
with-all setup payload [] m = refl
with-all setup payload (e ∷ past) m =
    let t : Told = told setup payload past e.event in
    (all_bytes setup payload past, ((m.0, record { given = told_bytes t; heard_is = refl; given_is = is-given (claims_bytes setup payload past e.event) t }), with-all setup payload past m.1))

-- and so it is with the bytes of its answers
pub counted-lawful : (setup : Setup) (payload : List ℕ) (past : List Entry) → HasElements setup → IsMadeCounted setup payload past → AreOnKnown setup past → IsLawfulPast setup payload past (all_bytes setup payload past)
counted-lawful setup payload past elements m known = made-lawful setup payload past (all_bytes setup payload past) elements (with-all setup payload past m) known

-- and every lawful history is made so
pub lawful-made : (setup : Setup) (payload : List ℕ) (past : List Entry) (heard : List ℕ) → IsLawfulPast setup payload past heard → IsMadeWith setup payload past heard
lawful-made setup payload [] heard w = w
lawful-made setup payload (e ∷ past) heard w = let step = w.1 in (w.0, ((record { reply = step.reply; posts = step.posts }, record { given = step.given; heard_is = step.heard_is; given_is = step.given_is }), lawful-made setup payload past w.0 w.2))
