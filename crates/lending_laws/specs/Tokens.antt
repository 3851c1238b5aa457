-- What a CONFIRM RKEY and an ADD LINK CONTINUATION tell, beside the keys that its side has bound.
use Rattle.std.specs.Prelude.{List, [], take, ℕ, ◌∷◌}
use Rattle.history_laws.specs.Words.{ConfirmRkey, Key, KeyToken, LlcMessage, NewKey, rmb_at}
use Rattle.history_laws.specs.Lists.{IsAmong}
use Rattle.link_laws.specs.KeyChanges.{HasUse}

-- a number that is bound to an RMB for a slot
abbrev pub use_of : ℕ → ℕ → ℕ → Key
use_of number rmb slot = record { key = number; rmb = rmb; link = record { group = 0; slot = slot; incarnation = 0 } }

-- the tokens of a message on a link are bound: the first for the slot of the link, the others for the slots that they name
abbrev pub AreTokens : ℕ → ℕ → List KeyToken → List Key → Type 0
AreTokens on others [] ks = Unit {0}
AreTokens on others (t ∷ ts) ks = HasUse (use_of t.key (rmb_at t.address) on) ks × ((u : KeyToken) → IsAmong u (take others ts) → HasUse (use_of u.key (rmb_at u.address) u.number) ks)

-- what a message on the link of a slot tells of keys is bound; request and answer tell the same
abbrev pub TellsBound : ℕ → LlcMessage → List Key → Type 0
TellsBound on (ConfirmRkey reply retry negative others tokens) ks = AreTokens on others tokens ks
TellsBound on m ks = Unit {0}

-- keys for the new link of slot `j`, told on the link of slot `on`: reference and fresh number are bound to one RMB, for these slots
abbrev pub PairsBound : ℕ → ℕ → List NewKey → List Key → Type 0
PairsBound on j us ks = (u : NewKey) → IsAmong u us → (rmb : ℕ) × (HasUse (use_of u.reference rmb on) ks × HasUse (use_of u.fresh rmb j) ks)
