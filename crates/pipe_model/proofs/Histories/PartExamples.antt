-- Parts that can be, worked out: bytes that come twice after a move, a gap, and two where less would be too much to ask.
use Rattle.std.proofs.Common.{◌≡◌, List, [], ◌∷◌, true, refl, arith}
use Rattle.smc_num.specs.declared.Side.TheVariants.{A, B}
use Rattle.smc_num.specs.declared.LinkId.{LinkId}
use Rattle.smc_num.specs.declared.LinkPhase.TheVariants.{Live, Dead}
use Rattle.pipe_model.specs.declared.reply.ResetCause.TheVariants.{Gap}
use Rattle.pipe_model.specs.Closing.{AbortPosted}
use Rattle.pipe_model.specs.Calls.{Writes, Reads, Closes, Aborts, Moves}
use Rattle.pipe_model.specs.Pipe.{Terms, Item, Fate, Up, Calls, Lands, Completes, pipe, is_near_part}
use Rattle.pipe_model.specs.Parts.{IsFeasible, covered, is_broken}

abbrev t : Terms
t = record { size = 16; depth = 4; number = 1 }

abbrev one : LinkId
one = record { group = 1; slot = 1; incarnation = 1 }

abbrev two : LinkId
two = record { group = 1; slot = 2; incarnation = 1 }

abbrev opened : List Item
opened = Up B one ∷ Up A one ∷ Fate B two Live ∷ Fate A two Live ∷ Fate B one Live ∷ Fate A one Live ∷ []

opened-can-be : IsFeasible t opened
opened-can-be = (tt, (tt, (tt, (tt, (tt, (tt, tt))))))

-- A writes and B takes it; the link is lost before A learns of it, and A moves and posts the bytes again, with one more
abbrev moved : List Item
moved = Lands A ∷ Lands A ∷ Calls A (Writes (6 ∷ [])) ∷ Calls A Moves ∷ Fate A one Dead ∷ Lands A ∷ Calls A (Writes (7 ∷ 8 ∷ 9 ∷ [])) ∷ opened

moved-can-be : IsFeasible t moved
moved-can-be = ((omega arith, refl), ((omega arith, refl), (tt, (tt, (tt, ((omega arith, refl), (tt, opened-can-be)))))))

moved-is-near : is_near_part t moved ≡ true
moved-is-near = refl

moved-lands-once-more : covered t A moved ≡ 3
moved-lands-once-more = refl

-- A writes and the message is swallowed; after A has moved its validation message shows B the gap
abbrev lost : List Item
lost = Lands A ∷ Calls A Moves ∷ Fate A one Dead ∷ Completes A ∷ Calls A (Writes (7 ∷ 8 ∷ 9 ∷ [])) ∷ opened

lost-can-be : IsFeasible t lost
lost-can-be = ((omega arith, refl), (tt, (tt, (omega arith, (tt, opened-can-be)))))

lost-resets : (pipe t lost).b.phase ≡ AbortPosted (Gap 1 0)
lost-resets = refl

-- a closing end may have read more than it was told: B has read and closed before A, which moves and aborts, tells less again
abbrev closing : List Item
closing = Lands A ∷ Lands A ∷ Calls A Moves ∷ Calls A Aborts ∷ Fate A one Dead ∷ Calls B Closes ∷ Calls B (Reads 3) ∷ Lands A ∷ Calls A (Writes (7 ∷ 8 ∷ 9 ∷ [])) ∷ opened

closing-can-be : IsFeasible t closing
closing-can-be = ((omega arith, refl), ((omega arith, refl), (tt, (tt, (tt, (tt, (tt, ((omega arith, refl), (tt, opened-can-be)))))))))

closing-has-read : (pipe t closing).b.rd ≡ 3
closing-has-read = refl

closing-was-told-less : (pipe t closing).b.taken.told ≡ 0
closing-was-told-less = refl

-- were a message to land on a broken way, the bytes of the one that was swallowed before it would lack, and nothing tells it
abbrev swallowed : List Item
swallowed = Lands A ∷ Calls A (Writes (8 ∷ [])) ∷ Completes A ∷ Calls A (Writes (7 ∷ [])) ∷ opened

swallowed-breaks : is_broken t A (Calls A (Writes (8 ∷ [])) ∷ Completes A ∷ Calls A (Writes (7 ∷ [])) ∷ opened) ≡ true
swallowed-breaks = refl

swallowed-tells : (pipe t swallowed).b.taken.told ≡ 2
swallowed-tells = refl

swallowed-lacks : covered t A swallowed ≡ 0
swallowed-lacks = refl
