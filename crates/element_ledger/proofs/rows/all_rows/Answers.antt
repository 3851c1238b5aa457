use Rattle.std.proofs.Common.{◌≡◌, ◌∙◌, ◌+◌, ◌*◌, ◌++◌, map, suc, sym, ap, arith}
use Rattle.std.proofs.Math.Nat.{suc-mul}
use Rattle.smc_num.specs.Places.{places_in, all_places}
use Rattle.element_ledger.specs.Lendings.{fresh}
use Rattle.element_ledger.proofs.Changes.{all_places-more, map-append}
use Rattle.element_ledger.proofs.rows.all_rows.Goals as goal

pub loop-i-preserved : goal.loop-i-preserved
loop-i-preserved c =
    let i = c.loop-i.i in
    let n = c.args.elements in
    let long = c.push_rmb.ensures.len in
    let long_before = c.loop-i.invariant.len in
    let room = c.push_rmb.ensures.capacity in
    let room_before = c.loop-i.invariant.capacity in
    let one_more : (i + 1) * n ≡ i * n + n = ap (λ k. k * n) (let e : i + 1 ≡ suc i = omega arith in e) ∙ suc-mul i n in
    record {
      items = c.push_rmb.ensures.items ∙ ap (λ xs. xs ++ map fresh (places_in n (i + 1))) c.loop-i.invariant.items
          ∙ sym (ap (map fresh) (all_places-more i n) ∙ map-append (all_places i n) (places_in n (i + 1)));
      len = omega (arith, long, long_before, one_more);
      capacity = omega (arith, room, room_before);
    }
