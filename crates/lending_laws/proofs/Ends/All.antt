-- All that the agreement of wires and pipes wants of offers, links and ends, from what first contact owes.
use Rattle.std.proofs.Common.{List, [], ℕ, ◌∷◌}
use Rattle.history_laws.specs.Words.{Entry, Setup}
use Rattle.history_laws.specs.Made.{IsMadeAll}
use Rattle.link_laws.specs.Lasting.{AllFlows, NoneAgain}
use Rattle.link_laws.specs.Awaited.{AllWith}
use Rattle.link_laws.proofs.Lasting.{none-again}
use Rattle.lending_laws.specs.Ends.{AllPlain, OffersGoOn, OwedPlain}
use Rattle.lending_laws.specs.Owed.{ArePlainOffers}
use Rattle.lending_laws.proofs.Lendings.{go-on-plain, plain-offers}
use Rattle.lending_laws.proofs.Ends.Live.{has-live, own-all}
use Rattle.lending_laws.proofs.Ends.Begins.{all-begin}
use Rattle.lending_laws.proofs.Ends.Comes.{lives-on}

-- what is wanted after a history
pub plain-after : (setup : Setup) (payload : List ℕ) (past : List Entry) → IsMadeAll setup payload past → AllFlows setup payload past → AllWith setup past → OwedPlain setup past
plain-after setup payload past m flows known =
    let o : ArePlainOffers setup past = plain-offers setup payload past m (own-all setup payload past flows) known in
    let a : NoneAgain past = none-again setup payload past m flows in
    record { known = o.known; tokens = o.tokens; answer = o.answer; grouped = o.grouped; again = a.again }

-- and with an entry
pub plain-with : (setup : Setup) (payload : List ℕ) (e : Entry) (past : List Entry) → IsMadeAll setup payload (e ∷ past) → AllWith setup (e ∷ past) → OffersGoOn e past
plain-with setup payload e past m known = let g : OffersGoOn e past = go-on-plain setup payload e past m known.0 in record { kept = g.kept; once = g.once; answers = g.answers }

-- after a history and with each of its entries
pub all-plain : (setup : Setup) (payload : List ℕ) (past : List Entry) → IsMadeAll setup payload past → AllFlows setup payload past → AllWith setup past → AllPlain setup payload past
all-plain setup payload [] m flows known = (plain-after setup payload [] m flows known, has-live setup payload [] m flows (all-begin setup payload [] m flows))
all-plain setup payload (e ∷ past) m flows known = (
  (plain-after setup payload (e ∷ past) m flows known, has-live setup payload (e ∷ past) m flows (all-begin setup payload (e ∷ past) m flows)),
  ((plain-with setup payload e past m known, lives-on setup payload e past m flows), all-plain setup payload past m.1 flows.1 known.1),
)
