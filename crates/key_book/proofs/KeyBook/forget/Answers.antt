use Rattle.std.proofs.Common.{◌∙◌, ◌≤◌, ◌*◌, ◌==◌, not, sym, ap, subst}
use Rattle.smc_num.specs.Keys.{without_rmb}
use Rattle.key_book.specs.Books.{keys_in, IsBook}
use Rattle.key_book.proofs.KeysOf.{keys_in-forgets}
use Rattle.key_book.proofs.Kept.{filtered_book}
use Rattle.key_book.proofs.KeyBook.forget.Goals as goal

pub invariant_of-self : goal.invariant_of-self
invariant_of-self c =
    let b = c.self.inside in (
      subst (λ ls. IsBook (record { rmbs = b.rmbs; links = b.links; known = ls })) (sym c.remove_rmb.ensures.items) (filtered_book b.rmbs b.links (λ k. not (k.rmb == c.args.rmb)) b.known.items c.self.invariant.0),
      subst (λ n. b.rmbs * b.links ≤ n) (sym c.remove_rmb.ensures.capacity) c.self.invariant.1,
    )

pub returns-clause-keys : goal.returns-clause-keys
returns-clause-keys c =
    ap keys_in c.remove_rmb.ensures.items ∙ keys_in-forgets c.args.rmb c.self.inside.known.items
    ∙ ap (λ b. without_rmb c.args.rmb (keys_in b.known)) c.self.view_is
