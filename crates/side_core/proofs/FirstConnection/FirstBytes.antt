-- What each call of the first worked row must find is so, from its write on: of the plain managers by computation, and so of the sides.
use Rattle.std.proofs.Common.{◌≡◌, ◌∙◌, ℕ, ◌+◌, List, [], ◌∷◌, ◌++◌, length, Some, unwrap_or, refl, ap, sym, subst, arith, inr, length-append}
use Rattle.cdc_wire.specs.declared.CdcMessage.{CdcMessage}
use Rattle.pipe_model.specs.Snapshot.{spelled}
use Rattle.pipe_model.specs.Calls.{Reads}
use Rattle.pipe_model.specs.Connections.{IsUp}
use Rattle.pipe_model.specs.Ends.{Half, fresh}
use Rattle.conn_end.specs.Kept.{Kept}
use Rattle.std.specs.Prelude.{take, drop}
use Rattle.side_core.specs.Records.{Connection, conn_at, new_route, aimer}
use Rattle.side_core.specs.Comings.{IsGoingAt}
use Rattle.side_core.proofs.Managers.{aimers_same, IsSoundHalf, Comes, Goes, Keeps, sound_kept, state_kept, write_kept, lands_in, may_land, completes_in, may_complete, going_at, goes_out}
use Rattle.side_core.specs.Manager.{Manager, Represents, state_at}
use Rattle.side_core.specs.Acting.{IsSoundAt, MayWrite, acts_at, bytes_land, call_of}
use Rattle.side_core.specs.Landing.{LandsIn, MayLandIn, CompletesIn, MayCompleteIn, MayGoOut}
use Rattle.side_core.specs.FirstRow.{first_link, b_offer, a_told, a_sent, b_told, b_sent, a_linked, a_wrote, a_heard, b_linked, b_landed, b_heard, b_read}

-- the connection of the one socket
abbrev conn_of : Manager Half → Connection Half
conn_of m = unwrap_or (conn_at 0 m.records) (record { route = new_route first_link (record { rmb = 0; index = 0; epoch = 0 }) 0; end = fresh 1 })

-- the write
linked_sound : IsSoundHalf 16384 (conn_of a_linked).end
linked_sound = record { out_few = omega arith; number_few = omega arith; fits = omega arith }

pub up_write : (v : Manager Kept) → Represents v a_linked → state_at 0 v ≡ IsUp
up_write v st = state_kept 0 v a_linked st

pub sound_write : (v : Manager Kept) → Represents v a_linked → IsSoundAt v.records.terms.size (conn_at 0 v.records)
sound_write v st = sound_kept 0 v a_linked st linked_sound

-- its bytes leave the client, and land at the server
keeps : Keeps 0 1 4294967296 2 0 (conn_of a_wrote) b_offer a_wrote
keeps = record { there = refl; peer = refl; aimed = refl; place = refl; from = omega arith; to = omega arith }

pub may_go : (v : Manager Kept) → Represents v a_wrote → MayGoOut 1 4294967296 2 v
may_go v st = goes_out 0 1 4294967296 2 0 (conn_of a_wrote) b_offer v a_wrote st keeps

pub bytes_are : (v : Manager Kept) → Represents v a_wrote → (joined : List ℕ) → ((s : ℕ) (h : Half) (first : ℕ) → aimer 1 v.records ≡ Some s → IsGoingAt v.records.terms.size (conn_at s v.records) 4294967296 2 h first → joined ≡ take 2 (drop first h.out)) → joined ≡ 104 ∷ 105 ∷ []
bytes_are v st joined told = let w = st.works in told 0 (conn_of a_wrote).end 0 (aimers_same 1 v.records a_wrote.records w.records) (going_at 0 1 4294967296 2 0 (conn_of a_wrote) b_offer v a_wrote st keeps)

may_bytes : MayWrite first_link 513 4294967296 2 b_linked
may_bytes = record { rmb = 1; bound = refl; inside = record { begins = omega arith; ends = omega arith } }

two : (front back : List ℕ) → front ++ back ≡ 104 ∷ 105 ∷ [] → 2 ≡ length front + length back
two front back e = sym (sym (length-append front back) ∙ ap (λ (bs : List ℕ). length bs) e)

pub may_write : (v : Manager Kept) (front back : List ℕ) → Represents v b_linked → front ++ back ≡ 104 ∷ 105 ∷ [] → MayWrite first_link 513 4294967296 (length front + length back) v
may_write v front back st e = write_kept first_link 513 4294967296 (length front + length back) v b_linked st (subst (λ n. MayWrite first_link 513 4294967296 n b_linked) (two front back e) may_bytes)

pub bytes_landed : (w : Manager Kept) (bytes : List ℕ) → bytes ≡ 104 ∷ 105 ∷ [] → Represents w (bytes_land 1 4294967296 bytes b_linked) → Represents w b_landed
bytes_landed w bytes e new = subst (λ bs. Represents w (bytes_land 1 4294967296 bs b_linked)) e new

-- the client's message lands
abbrev pub written : CdcMessage
written = spelled 16384 1 a_told

written_comes : Comes 0 written a_sent (conn_of b_landed) b_landed
written_comes = record { there = refl; held = refl; spelled = refl; taken = record { reads_on = omega arith; reads_accepted = omega arith; fits = omega arith; tells_on = inr (omega arith) }; going = refl; sound = record { out_few = omega arith; number_few = omega arith; fits = omega arith } }

pub may_hear_written : (v : Manager Kept) → Represents v b_landed → MayLandIn written a_told v
may_hear_written v st = may_land 0 written a_sent (conn_of b_landed) v b_landed st written_comes

pub hears_written : (v : Manager Kept) → Represents v b_landed → LandsIn 0 written a_told a_sent v b_landed
hears_written v st = lands_in 0 written a_sent (conn_of b_landed) v b_landed st written_comes

-- the read
heard_sound : IsSoundHalf 16384 (conn_of b_heard).end
heard_sound = record { out_few = omega arith; number_few = omega arith; fits = omega arith }

pub up_read : (v : Manager Kept) → Represents v b_heard → state_at 0 v ≡ IsUp
up_read v st = state_kept 0 v b_heard st

pub sound_read : (v : Manager Kept) → Represents v b_heard → IsSoundAt v.records.terms.size (conn_at 0 v.records)
sound_read v st = sound_kept 0 v b_heard st heard_sound

pub reads_two : (w : Manager Kept) (n : ℕ) → n ≡ 2 → Represents w (acts_at 0 (call_of (Reads n) b_heard) b_heard) → Represents w b_read
reads_two w n e new = subst (λ k. Represents w (acts_at 0 (call_of (Reads k) b_heard) b_heard)) e new

-- the server's message lands
abbrev pub has_read : CdcMessage
has_read = spelled 16384 1 b_told

read_comes : Comes 0 has_read b_sent (conn_of a_wrote) a_wrote
read_comes = record { there = refl; held = refl; spelled = refl; taken = record { reads_on = omega arith; reads_accepted = omega arith; fits = omega arith; tells_on = inr (omega arith) }; going = refl; sound = record { out_few = omega arith; number_few = omega arith; fits = omega arith } }

pub may_hear_read : (v : Manager Kept) → Represents v a_wrote → MayLandIn has_read b_told v
may_hear_read v st = may_land 0 has_read b_sent (conn_of a_wrote) v a_wrote st read_comes

pub hears_read : (v : Manager Kept) → Represents v a_wrote → LandsIn 0 has_read b_told b_sent v a_wrote
hears_read v st = lands_in 0 has_read b_sent (conn_of a_wrote) v a_wrote st read_comes

-- both complete
written_goes : Goes 0 written a_sent (conn_of a_heard) a_heard
written_goes = record { there = refl; aimed = refl; spelled = refl; oldest = refl; sound = record { out_few = omega arith; number_few = omega arith; fits = omega arith } }

pub may_complete_written : (v : Manager Kept) → Represents v a_heard → MayCompleteIn written a_told v
may_complete_written v st = may_complete 0 written a_sent (conn_of a_heard) v a_heard st written_goes

pub completes_written : (v : Manager Kept) → Represents v a_heard → CompletesIn 0 written a_told a_sent v a_heard
completes_written v st = completes_in 0 written a_sent (conn_of a_heard) v a_heard st written_goes

read_goes : Goes 0 has_read b_sent (conn_of b_read) b_read
read_goes = record { there = refl; aimed = refl; spelled = refl; oldest = refl; sound = record { out_few = omega arith; number_few = omega arith; fits = omega arith } }

pub may_complete_read : (v : Manager Kept) → Represents v b_read → MayCompleteIn has_read b_told v
may_complete_read v st = may_complete 0 has_read b_sent (conn_of b_read) v b_read st read_goes

pub completes_read : (v : Manager Kept) → Represents v b_read → CompletesIn 0 has_read b_told b_sent v b_read
completes_read v st = completes_in 0 has_read b_sent (conn_of b_read) v b_read st read_goes
