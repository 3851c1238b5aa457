-- The first worked row: one connection of two peers with one slot and one RMB each, which first contact establishes and on which two bytes go.
-- A reader learns here for which plain manager each side stands after each of its calls.
use Rattle.std.specs.Prelude.{true, false, List, Bool, [], ◌∷◌, Some}
use Rattle.smc_num.specs.declared.Side.TheVariants.{A, B}
use Rattle.smc_num.specs.declared.LinkId.{LinkId}
use Rattle.smc_num.specs.Names.{no_link}
use Rattle.smc_num.specs.Places.{Place}
use Rattle.clc_wire.specs.declared.offer.Offer.{Offer}
use Rattle.clc_wire.specs.declared.message.ClcMessage.{ClcMessage}
use Rattle.clc_wire.specs.declared.message.ClcMessage.TheVariants.{Proposal, Accept, Confirm}
use Rattle.pipe_model.specs.declared.flow.FlowStep.TheVariants.{Live}
use Rattle.pipe_model.specs.declared.snapshot.Snapshot.{Snapshot}
use Rattle.pipe_model.specs.declared.sent.Sent.{Sent}
use Rattle.pipe_model.specs.declared.setup.Setup.{Setup}
use Rattle.pipe_model.specs.Settings.{default_setup}
use Rattle.pipe_model.specs.Messages.{proposal, offer}
use Rattle.pipe_model.specs.Ends.{Half, takes, completes}
use Rattle.pipe_model.specs.Calls.{Writes, Reads}
use Rattle.side_core.specs.Desk.{makes_link}
use Rattle.side_core.specs.Manager.{Manager, new_manager}
use Rattle.side_core.specs.Taking.{takes_message, with_desk}
use Rattle.side_core.specs.Acting.{acts_at, bytes_land, call_of, confirms_link}
use Rattle.side_core.specs.Landing.{opens_at}

-- the default peers, but with the one slot and the one RMB a side that are built
abbrev pub first_setup : Setup
first_setup = record default_setup { links = 1; rmbs = 1 ∷ 1 ∷ [] }

-- the link of first contact
abbrev pub first_link : LinkId
first_link = record { group = 1; slot = 1; incarnation = 1 }

-- the one path is up
abbrev pub paths : List Bool
paths = true ∷ []

-- the Proposal
abbrev pub proposed : ClcMessage
proposed = Proposal (proposal first_setup)

-- the first element of an RMB, which each side offers
abbrev pub element : Place
element = record { rmb = 1; index = 1 }

-- the server's offer
abbrev pub b_offer : Offer
b_offer = offer first_setup B true first_link 17 513 element 1

-- the client's
abbrev pub a_offer : Offer
a_offer = offer first_setup A true first_link 17 257 element 1

-- the snapshot of the client's one CDC message, behind its two bytes, and the message
abbrev pub a_told : Snapshot
a_told = record { number = 1; told = 2; read = 0; done = false; closed = false; aborted = false }

abbrev pub a_sent : Sent
a_sent = record { link = first_link; check = false; from = 0; snapshot = a_told }

-- the snapshot of the server's, behind its read, and the message
abbrev pub b_told : Snapshot
b_told = record { number = 1; told = 0; read = 2; done = false; closed = false; aborted = false }

abbrev pub b_sent : Sent
b_sent = record { link = first_link; check = false; from = 0; snapshot = b_told }

-- the client, call by call: it opens, takes the Accept, takes CONFIRM LINK, writes, takes the server's CDC message, and its own completes
abbrev pub a_open : Manager Half
a_open = opens_at 0 false (new_manager A first_setup)

abbrev pub a_confirmed : Manager Half
a_confirmed = takes_message 0 (Accept b_offer) first_link paths a_open

abbrev pub a_linked : Manager Half
a_linked = confirms_link (Live true true) first_link a_confirmed

abbrev pub a_wrote : Manager Half
a_wrote = acts_at 0 (call_of (Writes (104 ∷ 105 ∷ [])) a_linked) a_linked

abbrev pub a_heard : Manager Half
a_heard = acts_at 0 (takes (Some b_sent)) a_wrote

abbrev pub a_done : Manager Half
a_done = acts_at 0 (completes (Some a_sent)) a_heard

-- the server, call by call: it opens, takes the Proposal, has the link, takes the Confirm, takes the reply to CONFIRM LINK, has the
-- bytes, takes the client's CDC message, reads, and its own completes
abbrev pub b_open : Manager Half
b_open = opens_at 0 false (new_manager B first_setup)

abbrev pub b_accepted : Manager Half
b_accepted = takes_message 0 proposed no_link paths b_open

abbrev pub b_made : Manager Half
b_made = with_desk (makes_link first_link) b_accepted

abbrev pub b_ready : Manager Half
b_ready = takes_message 0 (Confirm a_offer) first_link paths b_made

abbrev pub b_linked : Manager Half
b_linked = confirms_link (Live false true) first_link b_ready

abbrev pub b_landed : Manager Half
b_landed = bytes_land 1 4294967296 (104 ∷ 105 ∷ []) b_linked

abbrev pub b_heard : Manager Half
b_heard = acts_at 0 (takes (Some a_sent)) b_landed

abbrev pub b_read : Manager Half
b_read = acts_at 0 (call_of (Reads 2) b_heard) b_heard

abbrev pub b_done : Manager Half
b_done = acts_at 0 (completes (Some b_sent)) b_read
