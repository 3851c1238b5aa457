use Rattle.std.proofs.Common.{◌∙◌, ◌+◌, ◌++◌, ◌∷◌, [], map, sym, ap, arith, append_assoc}
use Rattle.smc_num.specs.Places.{places_in}
use Rattle.element_ledger.specs.Lendings.{fresh}
use Rattle.element_ledger.proofs.Changes.{places_in-more, map-append}
use Rattle.element_ledger.proofs.rows.push_rmb.Goals as goal

pub loop-i-preserved : goal.loop-i-preserved
loop-i-preserved c =
    let i = c.loop-i.i in
    let before = c.args.rows.now.items in
    let there = map fresh (places_in i c.args.rmb) in
    let next = fresh (record { rmb = c.args.rmb; index = i + 1 }) in
    let long = c.push_within.ensures.len in
    let long_before = c.loop-i.invariant.len in
    let room = c.push_within.ensures.capacity in
    let room_before = c.loop-i.invariant.capacity in
    record {
      items = c.push_within.ensures.items ∙ ap (λ xs. xs ++ next ∷ []) c.loop-i.invariant.items ∙ append_assoc before there (next ∷ [])
          ∙ ap (λ xs. before ++ xs) (sym (ap (map fresh) (places_in-more i c.args.rmb) ∙ map-append (places_in i c.args.rmb) (record { rmb = c.args.rmb; index = i + 1 } ∷ [])));
      len = omega (arith, long, long_before);
      capacity = omega (arith, room, room_before);
    }
