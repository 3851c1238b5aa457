use Rattle.std.proofs.Common.{◌≡◌, ◌∙◌, ℕ, ◌<◌, List, length, Some, None, option_map, sym, ap, subst}
use Rattle.std.specs.Prelude.{find}
use Rattle.smc_num.specs.Keys.{is_named}
use Rattle.key_book.specs.Books.{Learnt, forgets, forgets_named}
use Rattle.key_book.proofs.KeysOf.{found_is_named, none_is_named, named_go_on, fewer_left}
use Rattle.key_book.proofs.learnt.remove_named.Goals as goal

pub loop-rmb-smaller : goal.loop-rmb-smaller
loop-rmb-smaller c =
    let named = found_is_named c.args.key c.args.link c.in-Some.rmb c.loop-rmb.known.items
    (sym (ap (λ (ls : List Learnt). option_map (λ (l : Learnt). l.key.rmb) (find (λ l. is_named c.args.key c.args.link l.key) ls)) c.deref.ensures.value) ∙ sym c.rmb_in.ensures ∙ c.in-Some.is) in
    subst (λ (ls : List Learnt). length ls < length c.loop-rmb.known.items) (sym c.remove_rmb.ensures.items) (fewer_left c.args.key c.args.link c.in-Some.rmb c.loop-rmb.known.items named)

pub loop-rmb-preserved : goal.loop-rmb-preserved
loop-rmb-preserved c =
    let named = found_is_named c.args.key c.args.link c.in-Some.rmb c.loop-rmb.known.items
    (sym (ap (λ (ls : List Learnt). option_map (λ (l : Learnt). l.key.rmb) (find (λ l. is_named c.args.key c.args.link l.key) ls)) c.deref.ensures.value) ∙ sym c.rmb_in.ensures ∙ c.in-Some.is) in (
      ap (forgets_named c.args.key c.args.link) c.remove_rmb.ensures.items ∙ named_go_on c.args.key c.args.link c.in-Some.rmb c.loop-rmb.known.items named ∙ c.loop-rmb.invariant.0,
      c.remove_rmb.ensures.capacity ∙ c.loop-rmb.invariant.1,
    )

pub returns-clause-items : goal.returns-clause-items
returns-clause-items c =
    none_is_named c.args.key c.args.link c.loop-rmb.known.items
    (sym (ap (λ (ls : List Learnt). option_map (λ (l : Learnt). l.key.rmb) (find (λ l. is_named c.args.key c.args.link l.key) ls)) c.deref.ensures.value) ∙ sym c.rmb_in.ensures ∙ c.in_default.is)
    ∙ c.loop-rmb.invariant.0
