use Rattle.std.proofs.Common.{◌∙◌, sym, ap, subst, arith}
use Rattle.smc_num.specs.Keys.{Key, binds, IsInRange}
use Rattle.key_book.specs.Books.{Learnt, keys_in, IsBook}
use Rattle.key_book.proofs.KeysOf.{keys_in-learns}
use Rattle.key_book.proofs.Kept.{learns_book, room_for}
use Rattle.key_book.proofs.KeyBook.learn.Goals as goal

pub replace-requires : goal.replace-requires
replace-requires c =
    let b = c.self.inside in
    let here : IsInRange b.rmbs b.links c.args.rmb c.args.link.slot = subst (λ k. IsInRange k.rmbs k.links c.args.rmb c.args.link.slot) (sym c.self.view_is) c.requires in
    let few = room_for b.rmbs b.links (record { key = record { key = c.args.key; rmb = c.args.rmb; link = c.args.link }; address = c.args.address }) b.known.items c.self.invariant.0 here in
    let room = c.self.invariant.1 in
    omega (arith, few, room)

pub invariant_of-self : goal.invariant_of-self
invariant_of-self c =
    let b = c.self.inside in
    let here : IsInRange b.rmbs b.links c.args.rmb c.args.link.slot = subst (λ k. IsInRange k.rmbs k.links c.args.rmb c.args.link.slot) (sym c.self.view_is) c.requires in
    let new : Learnt = record { key = record { key = c.args.key; rmb = c.args.rmb; link = c.args.link }; address = c.args.address } in
    let room = c.self.invariant.1 in
    let kept = c.replace.ensures.capacity in (
      subst (λ ls. IsBook (record { rmbs = b.rmbs; links = b.links; known = ls })) (sym c.replace.ensures.items) (learns_book b.rmbs b.links new b.known.items c.self.invariant.0 here),
      omega (arith, room, kept),
    )

pub returns-clause-keys : goal.returns-clause-keys
returns-clause-keys c =
    let key : Key = record { key = c.args.key; rmb = c.args.rmb; link = c.args.link } in
    ap keys_in c.replace.ensures.items ∙ keys_in-learns (record { key = key; address = c.args.address }) c.self.inside.known.items
    ∙ ap (λ b. binds key (keys_in b.known)) c.self.view_is
