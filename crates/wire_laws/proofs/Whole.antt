-- Links, flows, first contact, lendings and the agreement of wires and pipes together: what is asked of a history is that CLC messages are taken on known sockets.
use Rattle.std.proofs.Common.{List, [], false, inr, refl, ℕ, ◌∷◌, ◌≡◌}
use Rattle.history_laws.specs.Words.{B, Entry, RelendsOnlyDone, Lending, LinkId, Setup, Side, element_size, group_on, has_ended, lendings, lent, other}
use Rattle.history_laws.specs.Made.{IsMadeAll}
use Rattle.history_laws.specs.Lists.{IsAmong}
use Rattle.link_laws.specs.Awaited.{AreOnKnown}
use Rattle.link_laws.proofs.Joined.{flows-of, has-contact}
use Rattle.link_laws.proofs.Waiting.{with-of}
use Rattle.link_laws.specs.Joined.{HasContact}
use Rattle.link_laws.specs.Lasting.{is_lost}
use Rattle.lending_laws.proofs.Ends.{all-plain}
use Rattle.lending_laws.specs.Owed.{LeastAfter, OwedLeast}
use Rattle.lending_laws.specs.Lendings.{AreApart, AreDone, AreLendings, HasElements}
use Rattle.lending_laws.proofs.Lendings.{lending-laws, no-old-bytes, relending}
use Rattle.lending_laws.specs.Reuse.{CarriesNoBytes}
use Rattle.wire_laws.specs.Agreement.{Agrees}
use Rattle.wire_laws.proofs.Agreement.{agrees-plain}

-- wires and pipes agree
pub agrees : (setup : Setup) (payload : List ℕ) (past : List Entry) → IsMadeAll setup payload past → AreOnKnown setup past → Agrees setup payload past
agrees setup payload past m known = agrees-plain setup payload past m (all-plain setup payload past m (flows-of setup payload past m) (with-of setup payload past m known))

-- what lendings want of a history
after-of : (setup : Setup) (payload : List ℕ) (past : List Entry) → IsMadeAll setup payload past → AreOnKnown setup past → LeastAfter setup payload past
after-of setup payload past m known = let c : HasContact past = has-contact setup payload past m in let a : Agrees setup payload past = agrees setup payload past m known in
    record { own = c.flows.linked.own B; feasible = λ s. a.feasible s (group_on s past) (inr refl) }

pub least-of : (setup : Setup) (payload : List ℕ) (past : List Entry) → IsMadeAll setup payload past → AreOnKnown setup past → OwedLeast setup payload past
least-of setup payload [] m known = after-of setup payload [] m known
least-of setup payload (e ∷ past) m known = (let all = with-of setup payload (e ∷ past) m known in (after-of setup payload (e ∷ past) m known, (all.0, least-of setup payload past m.1 known.1)))

-- lendings are numbered and apart, and what is not lent is done with
pub lendings-hold : (setup : Setup) (payload : List ℕ) (past : List Entry) (x : Side) → HasElements setup → IsMadeAll setup payload past → AreOnKnown setup past → AreLendings x past × (AreApart setup payload x past × AreDone setup payload x past)
lendings-hold setup payload past x elements m known = lending-laws setup payload past x elements m (least-of setup payload past m known)

-- no element is lent again too early
pub lent-holds : (setup : Setup) (payload : List ℕ) (e : Entry) (past : List Entry) (x : Side) → HasElements setup → IsMadeAll setup payload (e ∷ past) → AreOnKnown setup past → RelendsOnlyDone x e past
lent-holds setup payload e past x elements m known = relending setup payload e past x elements m (least-of setup payload past m.1 known)

-- and no link that the peer has not lost carries bytes of a connection whose lending has ended, while its group stands
pub no-bytes-come : (setup : Setup) (payload : List ℕ) (past : List Entry) (y : Side) (l : Lending) (link : LinkId) → IsMadeAll setup payload past → AreOnKnown setup past → IsAmong l (lendings y past) → (IsAmong l (lent setup payload y past) → ⊥)
    → has_ended y l.group past ≡ false → is_lost (other y) link past ≡ false → CarriesNoBytes (element_size setup) link (other y) l past
no-bytes-come setup payload past y l link m known = no-old-bytes setup payload past y l link m (least-of setup payload past m known) (let a : Agrees setup payload past = agrees setup payload past m known in a.carried)
