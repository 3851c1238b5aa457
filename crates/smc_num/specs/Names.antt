-- Sides and links, and the small words on lists that the definitions of all crates share.
use Rattle.std.specs.Prelude.{ℕ, ◌==◌, ◌&&◌, Bool, true, false, List, [], ◌∷◌, Option, Some, None}
use Rattle.std.specs.List.{list_any, range_with_len}
use Rattle.smc_num.specs.declared.Side.{Side}
use Rattle.smc_num.specs.declared.Side.TheVariants.{A, B}
use Rattle.smc_num.specs.declared.LinkId.{LinkId}

-- the other side
-- RFC 7609, 1: a connection joins a TCP client and a TCP server
abbrev pub other : Side → Side
other A = B
other B = A

-- whether two sides are the same
-- ours: a test of equality
abbrev pub same_side : Side → Side → Bool
same_side A A = true
same_side A B = false
same_side B A = false
same_side B B = true

-- the one for side A, or the one for side B
-- ours: a choice by side
abbrev pub at_side : {X : Type 0} → Side → X → X → X
at_side A a b = a
at_side B a b = b

-- whether two links are the same
-- RFC 7609, 2.2: a link is one of a group; the incarnation is ours
abbrev pub same_link : LinkId → LinkId → Bool
same_link a b = (a.group == b.group) && ((a.slot == b.slot) && (a.incarnation == b.incarnation))

-- no link: the name that nothing has
-- ours: groups, slots and incarnations count from 1
abbrev pub no_link : LinkId
no_link = record { group = 0; slot = 0; incarnation = 0 }

-- whether the link is among them
-- ours: a list helper
abbrev pub has_link : LinkId → List LinkId → Bool
has_link link links = list_any (same_link link) links

-- whether the number is among them
-- ours: a list helper
abbrev pub has : ℕ → List ℕ → Bool
has n ns = list_any (λ m. n == m) ns

-- the first, where there is one
-- ours: a list helper
abbrev pub head : {X : Type 0} → List X → Option X
head [] = None
head (x ∷ xs) = Some x

-- the numbers from 1 to n, upwards
-- ours: a list helper
abbrev pub up_to : ℕ → List ℕ
up_to n = range_with_len 1 n
