-- After every history that the definitions make each confirmed RMB has a key on each link on whose slot its side has keys.
use Rattle.std.proofs.Common.{List, [], ℕ, ◌∷◌}
use Rattle.history_laws.specs.Words.{Entry, Setup, Side}
use Rattle.history_laws.specs.Made.{IsMadeAll}
use Rattle.link_laws.specs.Covered.{AreCovered}
use Rattle.lending_laws.proofs.Keys.{answers-owed, covered-after}
use Rattle.lending_laws.proofs.Known.FlowsMade.{flows-made}
use Rattle.lending_laws.proofs.Known.Requesting.{all-asking, links-made}
use Rattle.lending_laws.specs.Asking.{AreAsking}

pub all-covered : (setup : Setup) (payload : List ℕ) (past : List Entry) → IsMadeAll setup payload past → (x : Side) → AreCovered x past
all-covered setup payload [] m x = λ rmb i. absurd i
all-covered setup payload (e ∷ past) m x = let a : AreAsking x past = all-asking setup payload past m.1 x in
    covered-after x e past (links-made setup payload e past m) (flows-made setup payload e past m) (answers-owed x e past a.listed) (all-covered setup payload past m.1 x)
