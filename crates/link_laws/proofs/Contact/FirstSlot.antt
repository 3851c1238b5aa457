-- The slot that B names in first contact is one of the slots, from 1 on.
use Rattle.std.proofs.Common.{Bool, List, arith, false, filter, if◌then◌else◌, length, suc, true, true≢false, zero, ℕ, ◌+◌, ◌==◌, ◌∷◌, ◌≡◌, ◌≤◌}
use Rattle.std.specs.List.{range_with_len}
use Rattle.std.specs.Prelude.{unwrap_or}
use Rattle.pipe_model.specs.Handshake.{slots_up}
use Rattle.history_laws.specs.Words.{Entry, Setup, head, path_up}

least : (g : ℕ → Bool) (a n : ℕ) → 1 ≤ a → (length (filter g (range_with_len a n)) == 0) ≡ false → 1 ≤ unwrap_or (head (filter g (range_with_len a n))) 0
least g a zero le e = absurd (true≢false e)
least g a (suc n) le e = by (g a) e (λ f. least g (a + 1) n (omega (arith, le)) f)
  where
    by : (b : Bool) → (length (if b then a ∷ filter g (range_with_len (a + 1) n) else filter g (range_with_len (a + 1) n)) == 0) ≡ false → ((length (filter g (range_with_len (a + 1) n)) == 0) ≡ false → 1 ≤ unwrap_or (head (filter g (range_with_len (a + 1) n))) 0) → 1 ≤ unwrap_or (head (if b then a ∷ filter g (range_with_len (a + 1) n) else filter g (range_with_len (a + 1) n))) 0
    by true e ih = le
    by false e ih = ih e

pub first-slot : (setup : Setup) (past : List Entry) → (length (slots_up setup past) == 0) ≡ false → 1 ≤ unwrap_or (head (slots_up setup past)) 0
first-slot setup past e = least (λ k. path_up k past) 1 setup.links (omega arith) e
