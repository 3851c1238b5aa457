use Rattle.std.proofs.Common.{◌≡◌, length, vec_capacity}
use Rattle.key_book.specs.Books.{forgets_named}
use Rattle.key_book.proofs.learnt.remove_named.Given as goal

-- what has to go of what is left has to go of all
abbrev pub invariant-loop-rmb : goal.invariant-loop-rmb
invariant-loop-rmb l = (forgets_named l.key l.link l.known.items ≡ forgets_named l.key l.link l.fn.known.items) × (vec_capacity l.known ≡ vec_capacity l.fn.known)

abbrev pub decreases-loop-rmb : goal.decreases-loop-rmb
decreases-loop-rmb l = length l.known.items
