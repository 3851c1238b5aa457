-- What is declined is declined for the lack that is named, and the lack holds.
use Rattle.std.proofs.Common.{List, subst, sym, ℕ, ◌∷◌}
use Rattle.pipe_model.specs.Causes.{DeclinesForLack}
use Rattle.pipe_model.proofs.Lawful.{told-named}
use Rattle.history_laws.specs.Words.{Entry, Setup}
use Rattle.history_laws.specs.Made.{IsMadeAll}

pub declined-lacking : (setup : Setup) (payload : List ℕ) (e : Entry) (past : List Entry) → IsMadeAll setup payload (e ∷ past) → DeclinesForLack setup payload e.event e.reply past
declined-lacking setup payload e past m = let one = m.0 in let made = one.1 in subst (λ r. DeclinesForLack setup payload e.event r past) (sym made.reply) (told-named setup payload past e.event one.0)
