use Rattle.std.proofs.Common.{◌∙◌, ◌≤◌, ◌*◌, not, sym, ap, subst}
use Rattle.smc_num.specs.Names.{has}
use Rattle.smc_num.specs.Keys.{rmbs_bound, without_named}
use Rattle.key_book.specs.Books.{keys_in, IsBook}
use Rattle.key_book.proofs.KeysOf.{keys_in-named}
use Rattle.key_book.proofs.Kept.{filtered_book}
use Rattle.key_book.proofs.KeyBook.forget_key.Goals as goal

pub invariant_of-self : goal.invariant_of-self
invariant_of-self c =
    let b = c.self.inside in (
      subst (λ ls. IsBook (record { rmbs = b.rmbs; links = b.links; known = ls })) (sym c.remove_named.ensures.items)
          (filtered_book b.rmbs b.links (λ k. not (has k.rmb (rmbs_bound c.args.key c.args.link (keys_in b.known.items)))) b.known.items c.self.invariant.0),
      subst (λ n. b.rmbs * b.links ≤ n) (sym c.remove_named.ensures.capacity) c.self.invariant.1,
    )

pub returns-clause-keys : goal.returns-clause-keys
returns-clause-keys c =
    ap keys_in c.remove_named.ensures.items ∙ keys_in-named c.args.key c.args.link c.self.inside.known.items
    ∙ ap (λ b. without_named c.args.key c.args.link (keys_in b.known)) c.self.view_is
