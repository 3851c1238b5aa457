use Rattle.std.proofs.Common.{◌∙◌, ℕ, [], ◌∷◌, map, take, ap, refl}
use Rattle.smc_num.specs.declared.LinkId.{LinkId}
use Rattle.failover.specs.Tables.{Links}
use Rattle.failover.proofs.Shown.{none_known, none_made, order-take}
use Rattle.failover.proofs.LinkTable.new.Goals as goal

abbrev slot_of : LinkId → ℕ
slot_of l = l.slot

abbrev count_of : LinkId → ℕ
count_of l = l.incarnation

pub invariant_of-result : goal.invariant_of-result
invariant_of-result c = (c.requires.1, refl, refl, order-take 1 c.args.slots _ (ap slot_of c.unmade.ensures, (ap slot_of c.unmade-2.ensures, (ap slot_of c.unmade-3.ensures, (ap slot_of c.unmade-4.ensures, (ap slot_of c.unmade-5.ensures, (ap slot_of c.unmade-6.ensures, (ap slot_of c.unmade-7.ensures, (ap slot_of c.unmade-8.ensures, tt)))))))))

pub returns : goal.returns
returns c =
    let ls = c.unmade.result ∷ c.unmade-2.result ∷ c.unmade-3.result ∷ c.unmade-4.result ∷ c.unmade-5.result ∷ c.unmade-6.result ∷ c.unmade-7.result ∷ c.unmade-8.result ∷ [] in
    ap (λ ks. let v : Links = record { slots = c.args.slots; known = ks; made = map count_of (take c.args.slots ls) } in v) (none_known 8 c.args.slots (take c.args.slots ls))
    ∙ ap (λ ms. let v : Links = record { slots = c.args.slots; known = []; made = ms } in v) (none_made c.args.slots ls (ap count_of c.unmade.ensures, (ap count_of c.unmade-2.ensures, (ap count_of c.unmade-3.ensures, (ap count_of c.unmade-4.ensures, (ap count_of c.unmade-5.ensures, (ap count_of c.unmade-6.ensures, (ap count_of c.unmade-7.ensures, (ap count_of c.unmade-8.ensures, tt)))))))) c.requires.1)
