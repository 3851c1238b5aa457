-- Two posts are swallowed on a cut link, so that the validation message of the move shows a gap.
-- A history written down by hand, entry by entry: each reply and each post is the one that the definitions give.
use Rattle.smc_num.specs.declared.Side.TheVariants.{A, B}
use Rattle.smc_num.specs.declared.LinkId.{LinkId}
use Rattle.clc_wire.specs.declared.message.ClcMessage.TheVariants.{Proposal as ProposalMessage, Accept as AcceptMessage, Confirm as ConfirmMessage}
use Rattle.llc_wire.specs.declared.LlcMessage.TheVariants.{ConfirmLink, AddLink, AddKeys, DeleteLink}
use Rattle.pipe_model.specs.declared.post.PostRef.{PostRef}
use Rattle.pipe_model.specs.declared.setup.Setup.{Setup}
use Rattle.pipe_model.specs.declared.entry.Entry.{Entry}
use Rattle.pipe_model.specs.declared.event.Event.TheVariants.{Open, Write as WriteEvent, Read, Clc as ClcEvent, Deliver, Complete, Swallow, Cut, Report, Move, Grow}
use Rattle.pipe_model.specs.declared.reply.Reply.TheVariants.{Opened, Wrote, Done, Reset, Sent as SentReply, Landed, Completed, Moved}
use Rattle.pipe_model.specs.declared.reply.SentKind.TheVariants.{Accept as AcceptKind, Confirm as ConfirmKind, ConfirmLink as ConfirmLinkKind, AddLink as AddLinkKind}
use Rattle.pipe_model.specs.declared.reply.ResetCause.TheVariants.{PeerAbort, Gap}
use Rattle.pipe_model.specs.declared.post.Post.TheVariants.{Write as WritePost, Cdc, Llc, Clc as ClcPost}
use Rattle.std.proofs.Common.{◌≡◌, ℕ, List, [], ◌∷◌, true, false, refl, Some, None, reverse, ◌++◌, replicate}
use Rattle.pipe_model.proofs.Histories.Written.{link, at, peer, gid, mac, entry, given, written}

-- the scene: open s | pump 9 | grow | pump 9 | write A.s 01 | pump 4 | write A.s 02 | pump 4 | write A.s 03 | pump 4 | cut
-- 1 | write A.s 04 | swallow 1 A | swallow 1 A | report A 1 | move A.s | pump 9 | read B.s 9 | move B.s | pump 9
-- | write A.s 05
abbrev setup : Setup
setup = record { capable = true ∷ true ∷ []; subnet = (167772160, 24) ∷ (167772160, 24) ∷ []; links = 2; size_code = 0; rmbs = 2 ∷ 2 ∷ []; elements = 4 ∷ 4 ∷ []; depth = 1; number = 1; sockets = 1 }

-- the bytes of its writes
abbrev payload : List ℕ
payload = 1 ∷ 2 ∷ 3 ∷ 4 ∷ 5 ∷ []

-- what happened, the oldest entry first
abbrev history : List Entry
history =
    -- 1 open s: opened
    entry (Open 0) Opened (ClcPost A 0 None (ProposalMessage (record { peer = peer 10; gid = gid 10 1; mac = mac 10 1; subnet = 167772160; prefix = 24; v6 = 0 })) ∷ []) ∷
    -- 2 clc s A: sent accept
    entry (ClcEvent 0 A) (SentReply AcceptKind) (ClcPost B 0 (Some (link 1 1 1)) (AcceptMessage (record { first = true; peer = peer 11; gid = gid 11 1; mac = mac 11 1; qp = 17; key = 513; index = 1; token = 1; size = 0; mtu = 5; address = 4294967296; psn = 1 })) ∷ []) ∷
    -- 3 clc s B: sent confirm
    entry (ClcEvent 0 B) (SentReply ConfirmKind) (ClcPost A 0 (Some (link 1 1 1)) (ConfirmMessage (record { first = true; peer = peer 10; gid = gid 10 1; mac = mac 10 1; qp = 17; key = 257; index = 1; token = 1; size = 0; mtu = 5; address = 4294967296; psn = 1 })) ∷ []) ∷
    -- 4 clc s A: sent confirm link
    entry (ClcEvent 0 A) (SentReply ConfirmLinkKind) (Llc B (link 1 1 1) (ConfirmLink false (mac 11 1) (gid 11 1) 17 1 1 2) ∷ []) ∷
    -- 5 deliver 1 B: landed 4.1
    entry (Deliver 1 B) (Landed (at 4 1)) (Llc A (link 1 1 1) (ConfirmLink true (mac 10 1) (gid 10 1) 17 1 1 2) ∷ []) ∷
    -- 6 deliver 1 A: landed 5.1
    entry (Deliver 1 A) (Landed (at 5 1)) [] ∷
    -- 7 grow: sent add link
    entry Grow (SentReply AddLinkKind) (Llc B (link 1 1 1) (AddLink false false 0 (mac 11 2) (gid 11 2) 34 2 5 1) ∷ []) ∷
    -- 8 deliver 1 B: landed 7.1
    entry (Deliver 1 B) (Landed (at 7 1)) (Llc A (link 1 1 1) (AddLink true false 0 (mac 10 2) (gid 10 2) 34 2 5 1) ∷ []) ∷
    -- 9 deliver 1 A: landed 8.1
    entry (Deliver 1 A) (Landed (at 8 1)) (Llc B (link 1 1 1) (AddKeys false 2 1 ((record { reference = 513; fresh = 514; address = 4294967296 }) ∷ (record { reference = 0; fresh = 0; address = 0 }) ∷ [])) ∷ []) ∷
    -- 10 deliver 1 B: landed 9.1
    entry (Deliver 1 B) (Landed (at 9 1)) (Llc A (link 1 1 1) (AddKeys true 2 1 ((record { reference = 257; fresh = 258; address = 4294967296 }) ∷ (record { reference = 0; fresh = 0; address = 0 }) ∷ [])) ∷ []) ∷
    -- 11 deliver 1 A: landed 10.1
    entry (Deliver 1 A) (Landed (at 10 1)) (Llc B (link 1 2 1) (ConfirmLink false (mac 11 2) (gid 11 2) 34 2 1 2) ∷ []) ∷
    -- 12 deliver 2 B: landed 11.1
    entry (Deliver 2 B) (Landed (at 11 1)) (Llc A (link 1 2 1) (ConfirmLink true (mac 10 2) (gid 10 2) 34 2 1 2) ∷ []) ∷
    -- 13 deliver 2 A: landed 12.1
    entry (Deliver 2 A) (Landed (at 12 1)) [] ∷
    -- 14 write A.s 01: wrote 1
    entry (WriteEvent (record { side = A; s = 0 }) 0 1) (Wrote 1) (WritePost A (link 1 1 1) 513 4294967296 1 ∷ Cdc A (link 1 1 1) (record { number = 1; token = 1; told = record { wrap = 0; count = 1 }; read = record { wrap = 0; count = 0 }; producer = 0; state = 0 }) ∷ []) ∷
    -- 15 deliver 1 A: landed 14.1
    entry (Deliver 1 A) (Landed (at 14 1)) [] ∷
    -- 16 deliver 1 A: landed 14.2
    entry (Deliver 1 A) (Landed (at 14 2)) [] ∷
    -- 17 complete 1 A: completed 14.1
    entry (Complete 1 A) (Completed (at 14 1)) [] ∷
    -- 18 complete 1 A: completed 14.2
    entry (Complete 1 A) (Completed (at 14 2)) [] ∷
    -- 19 write A.s 02: wrote 1
    entry (WriteEvent (record { side = A; s = 0 }) 1 1) (Wrote 1) (WritePost A (link 1 1 1) 513 4294967297 1 ∷ Cdc A (link 1 1 1) (record { number = 2; token = 1; told = record { wrap = 0; count = 2 }; read = record { wrap = 0; count = 0 }; producer = 0; state = 0 }) ∷ []) ∷
    -- 20 deliver 1 A: landed 19.1
    entry (Deliver 1 A) (Landed (at 19 1)) [] ∷
    -- 21 deliver 1 A: landed 19.2
    entry (Deliver 1 A) (Landed (at 19 2)) [] ∷
    -- 22 complete 1 A: completed 19.1
    entry (Complete 1 A) (Completed (at 19 1)) [] ∷
    -- 23 complete 1 A: completed 19.2
    entry (Complete 1 A) (Completed (at 19 2)) [] ∷
    -- 24 write A.s 03: wrote 1
    entry (WriteEvent (record { side = A; s = 0 }) 2 1) (Wrote 1) (WritePost A (link 1 1 1) 513 4294967298 1 ∷ Cdc A (link 1 1 1) (record { number = 3; token = 1; told = record { wrap = 0; count = 3 }; read = record { wrap = 0; count = 0 }; producer = 0; state = 0 }) ∷ []) ∷
    -- 25 deliver 1 A: landed 24.1
    entry (Deliver 1 A) (Landed (at 24 1)) [] ∷
    -- 26 deliver 1 A: landed 24.2
    entry (Deliver 1 A) (Landed (at 24 2)) [] ∷
    -- 27 complete 1 A: completed 24.1
    entry (Complete 1 A) (Completed (at 24 1)) [] ∷
    -- 28 complete 1 A: completed 24.2
    entry (Complete 1 A) (Completed (at 24 2)) [] ∷
    -- 29 cut 1: done
    entry (Cut 1) Done [] ∷
    -- 30 write A.s 04: wrote 1
    entry (WriteEvent (record { side = A; s = 0 }) 3 1) (Wrote 1) (WritePost A (link 1 1 1) 513 4294967299 1 ∷ Cdc A (link 1 1 1) (record { number = 4; token = 1; told = record { wrap = 0; count = 4 }; read = record { wrap = 0; count = 0 }; producer = 0; state = 0 }) ∷ []) ∷
    -- 31 swallow 1 A: completed 30.1
    entry (Swallow 1 A) (Completed (at 30 1)) [] ∷
    -- 32 swallow 1 A: completed 30.2
    entry (Swallow 1 A) (Completed (at 30 2)) [] ∷
    -- 33 report A 1: done
    entry (Report A 1) Done (Llc A (link 1 2 1) (DeleteLink false false false 1 65536) ∷ []) ∷
    -- 34 move A.s: moved 1 2
    entry (Move (record { side = A; s = 0 })) (Moved 1 2) (Cdc A (link 1 2 1) (record { number = 4; token = 1; told = record { wrap = 0; count = 4 }; read = record { wrap = 0; count = 0 }; producer = 8; state = 0 }) ∷ []) ∷
    -- 35 deliver 2 A: landed 33.1
    entry (Deliver 2 A) (Landed (at 33 1)) (Llc B (link 1 2 1) (DeleteLink true false false 1 65536) ∷ []) ∷
    -- 36 deliver 2 A: landed 34.1
    entry (Deliver 2 A) (Landed (at 34 1)) [] ∷
    -- 37 deliver 2 B: landed 35.1
    entry (Deliver 2 B) (Landed (at 35 1)) [] ∷
    -- 38 complete 2 A: completed 34.1
    entry (Complete 2 A) (Completed (at 34 1)) [] ∷
    -- 39 read B.s 9: reset gap 4 3
    entry (Read (record { side = B; s = 0 }) 9) (Reset (Gap 4 3)) [] ∷
    -- 40 move B.s: moved 1 2
    entry (Move (record { side = B; s = 0 })) (Moved 1 2) (Cdc B (link 1 2 1) (record { number = 0; token = 1; told = record { wrap = 0; count = 0 }; read = record { wrap = 0; count = 0 }; producer = 8; state = 0 }) ∷ Cdc B (link 1 2 1) (record { number = 1; token = 1; told = record { wrap = 0; count = 0 }; read = record { wrap = 0; count = 0 }; producer = 0; state = 32 }) ∷ []) ∷
    -- 41 deliver 2 B: landed 40.1
    entry (Deliver 2 B) (Landed (at 40 1)) [] ∷
    -- 42 deliver 2 B: landed 40.2
    entry (Deliver 2 B) (Landed (at 40 2)) (Cdc A (link 1 2 1) (record { number = 5; token = 1; told = record { wrap = 0; count = 4 }; read = record { wrap = 0; count = 0 }; producer = 0; state = 32 }) ∷ []) ∷
    -- 43 deliver 2 A: landed 42.1
    entry (Deliver 2 A) (Landed (at 42 1)) [] ∷
    -- 44 complete 2 A: completed 42.1
    entry (Complete 2 A) (Completed (at 42 1)) [] ∷
    -- 45 complete 2 B: completed 40.1
    entry (Complete 2 B) (Completed (at 40 1)) [] ∷
    -- 46 complete 2 B: completed 40.2
    entry (Complete 2 B) (Completed (at 40 2)) [] ∷
    -- 47 write A.s 05: reset peer abort
    entry (WriteEvent (record { side = A; s = 0 }) 4 1) (Reset PeerAbort) [] ∷
    []

are-given : given setup payload (reverse history) ≡ written (reverse history)
are-given = refl
