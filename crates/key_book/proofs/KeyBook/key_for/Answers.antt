use Rattle.std.proofs.Common.{◌∙◌, ℕ, option_map, ap}
use Rattle.smc_num.specs.Keys.{bound}
use Rattle.key_book.specs.Books.{keys_in}
use Rattle.key_book.proofs.KeysOf.{key_of_known}
use Rattle.key_book.proofs.KeyBook.key_for.Goals as goal

pub returns-clause-key : goal.returns-clause-key
returns-clause-key c = ap (λ o. option_map (λ (r : ℕ × ℕ). r.0) o) c.known_for.ensures ∙ key_of_known c.args.rmb c.args.link c.deref.result.now ∙ ap (λ ls. bound c.args.rmb c.args.link (keys_in ls)) c.deref.ensures.value ∙ ap (λ b. bound c.args.rmb c.args.link (keys_in b.known)) c.self.view_is
