use Rattle.std.proofs.Common.{rules}
use Rattle.std.proofs.lemmas.List.Sorted.{answers_always}
use Rattle.wait_set.proofs.Places.{searched}
use Rattle.wait_set.proofs.search.position.Goals as goal

-- the closure gives a member's place
pub returns : goal.returns
returns c =
    let facts = c.binary_search_by_key.ensures in
    let by_place = facts.position (λ w. w.member.place) (answers_always _ _ _ (λ f a r g called. search rules)) in
    searched _ c.requires c.args.place _ facts.bound by_place
