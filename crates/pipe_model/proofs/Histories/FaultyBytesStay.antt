-- A raw client sends a header with an unknown type: B's end is reset, and the bytes stay in the stream.
-- A history written down by hand, entry by entry: each reply and each post is the one that the definitions give.
use Rattle.std.proofs.Common.{◌≡◌, ℕ, List, [], ◌∷◌, ◌++◌, true, refl, reverse, replicate}
use Rattle.smc_num.specs.declared.Side.TheVariants.{A}
use Rattle.clc_wire.specs.declared.fault.ClcFault.TheVariants.{BadType}
use Rattle.clc_wire.specs.Clc.{clc_front}
use Rattle.pipe_model.specs.declared.setup.Setup.{Setup}
use Rattle.pipe_model.specs.declared.entry.Entry.{Entry}
use Rattle.pipe_model.specs.declared.event.Event.TheVariants.{Raw, Clc as ClcEvent}
use Rattle.pipe_model.specs.declared.reply.Reply.TheVariants.{Wrote, Reset, Idle}
use Rattle.pipe_model.specs.declared.reply.ResetCause.TheVariants.{BadClc}
use Rattle.pipe_model.proofs.Histories.Written.{entry, given, written}

-- the scene: raw r e2,d4,c3,d9,09,00,34,10 | clc r A | raw r 00*65535 | clc r A
abbrev setup : Setup
setup = record { capable = true ∷ true ∷ []; subnet = (167772160, 24) ∷ (167772160, 24) ∷ []; links = 2; size_code = 0; rmbs = 2 ∷ 2 ∷ []; elements = 4 ∷ 4 ∷ []; depth = 1; number = 1; sockets = 1 }

-- the bytes of its writes
abbrev payload : List ℕ
payload = 0xe2 ∷ 0xd4 ∷ 0xc3 ∷ 0xd9 ∷ 0x09 ∷ 0x00 ∷ 0x34 ∷ 0x10 ∷ replicate 65535 0

-- what happened, the oldest entry first: of the 65,535 bytes there is room for all but seven
abbrev history : List Entry
history =
    -- 1 raw r e2,d4,c3,d9,09,00,34,10: wrote 8
    entry (Raw 0 0 8) (Wrote 8) [] ∷
    -- 2 clc r A: reset bad message bad type 9
    entry (ClcEvent 0 A) (Reset (BadClc (BadType 9))) [] ∷
    -- 3 raw r 00*65535: wrote 65528
    entry (Raw 0 8 65535) (Wrote 65528) [] ∷
    -- 4 clc r A: idle
    entry (ClcEvent 0 A) Idle [] ∷
    []

are-given : given setup payload (reverse history) ≡ written (reverse history)
unfolding clc_front
are-given = refl
