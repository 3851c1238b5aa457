-- After every list of entries no key of a side has the number of another, none the RMB and slot of another, and all numbers are above the side's base.
use Rattle.std.proofs.Common.{Bool, List, [], filter, not, ℕ, ◌∷◌}
use Rattle.pipe_model.specs.Keys.{deleted}
use Rattle.history_laws.specs.Words.{Entry, Key, Side, has, key_base, keys_of, named_rmbs}
use Rattle.link_laws.specs.KeyChanges.{AreKeys, same_number, same_use}
use Rattle.link_laws.proofs.Keys.Lists.{kept-from, registers-are, two-filter}
use Rattle.link_laws.proofs.Keys.Entries.{keys-after}

-- no key is so too
pub none-are : (base : ℕ) → AreKeys base []
none-are base = record { numbers = tt; uses = tt; above = λ k i. absurd i }

-- nor do keys that are kept
pub filter-are : (base : ℕ) (p : Key → Bool) (ks : List Key) → AreKeys base ks → AreKeys base (filter p ks)
filter-are base p ks are = record { numbers = two-filter same_number p ks are.numbers; uses = two-filter same_use p ks are.uses; above = λ k i. are.above k (kept-from p k ks i).0 }

-- over every list of entries
pub keys-are : (x : Side) (past : List Entry) → AreKeys (key_base x) (keys_of x past).keys
keys-are x [] = none-are (key_base x)
keys-are x (e ∷ past) = keys-after x e past (λ ks. AreKeys (key_base x) ks.keys) (record {
  was = keys-are x past;
  withdrawn = λ t. filter-are (key_base x) (λ k. not (has k.rmb (named_rmbs (deleted t.act.message) (keys_of x past).keys))) (keys_of x past).keys (keys-are x past);
  registered = λ rmb link from ks are. registers-are (key_base x) rmb link ks.keys are;
  confirmed = λ rmb from ks are. are;
  ended = λ none. none-are (key_base x);
})
