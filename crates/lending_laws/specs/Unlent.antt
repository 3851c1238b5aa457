-- What the law of bound keys hangs on: of a number that was bound and is free, no element is lent that was lent in its RMB by then.
use Rattle.std.specs.Prelude.{List, Some, false, ℕ, ◌≡◌}
use Rattle.history_laws.specs.Words.{Binding, Entry, Lending, Setup, Side, is_used, keys_of, last_binding, lent}
use Rattle.history_laws.specs.Lists.{IsAmong}

abbrev pub AreUnlent : Setup → List ℕ → Side → List Entry → Type 0
AreUnlent setup payload x past = (n : ℕ) (b : Binding) → last_binding x n past ≡ Some b → is_used n (keys_of x past).keys ≡ false → (l : Lending) → IsAmong l b.begun → l.place.rmb ≡ b.rmb → IsAmong l (lent setup payload x past) → ⊥
