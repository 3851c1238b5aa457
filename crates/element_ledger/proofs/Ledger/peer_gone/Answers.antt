use Rattle.std.proofs.Common.{◌∙◌, map, ap}
use Rattle.std.specs.Prelude.{option_and_then}
use Rattle.element_ledger.specs.declared.rows.Change.TheVariants.{PeerGone}
use Rattle.element_ledger.specs.Lendings.{changed_lending, lending_of, place_of}
use Rattle.element_ledger.proofs.Changes.{changed_places, lending_of-changed}
use Rattle.element_ledger.proofs.Ledger.peer_gone.Goals as goal

pub invariant_of-self : goal.invariant_of-self
invariant_of-self c = (ap (λ rs. map (λ r. r.place) rs) c.change_at.ensures ∙ changed_places (place_of c.args.e) PeerGone c.self.inside.rows.items ∙ c.self.invariant.0, c.self.invariant.1, c.self.invariant.2)

pub returns-clause-lending : goal.returns-clause-lending
returns-clause-lending c =
    ap (λ rs. lending_of c.args.e rs) c.change_at.ensures ∙ lending_of-changed c.args.e PeerGone c.self.inside.rows.items
    ∙ ap (λ v. option_and_then (changed_lending PeerGone) (lending_of c.args.e v.rows)) c.self.view_is
