-- A DELETE RKEY whose link died with its reply is posted again, and the peer, which has forgotten the key, says so.
-- A history written down by hand, entry by entry: each reply and each post is the one that the definitions give.
use Rattle.smc_num.specs.declared.Side.TheVariants.{A, B}
use Rattle.clc_wire.specs.declared.message.ClcMessage.TheVariants.{Proposal as ProposalMessage, Accept as AcceptMessage, Confirm as ConfirmMessage}
use Rattle.llc_wire.specs.declared.LlcMessage.TheVariants.{ConfirmLink, AddLink, AddKeys, DeleteLink, DeleteRkey}
use Rattle.pipe_model.specs.declared.setup.Setup.{Setup}
use Rattle.pipe_model.specs.declared.entry.Entry.{Entry}
use Rattle.pipe_model.specs.declared.event.Event.TheVariants.{Open, Clc as ClcEvent, Deliver, Complete, Cut, Report, Grow, Close, Trim}
use Rattle.pipe_model.specs.declared.reply.Reply.TheVariants.{Opened, Done, Sent as SentReply, Landed, Completed, Idle}
use Rattle.pipe_model.specs.declared.reply.SentKind.TheVariants.{Accept as AcceptKind, Confirm as ConfirmKind, ConfirmLink as ConfirmLinkKind, AddLink as AddLinkKind, DeleteRkey as DeleteRkeyKind}
use Rattle.pipe_model.specs.declared.post.Post.TheVariants.{Cdc, Llc, Clc as ClcPost}
use Rattle.std.proofs.Common.{◌≡◌, ℕ, List, [], ◌∷◌, true, false, refl, Some, None, reverse}
use Rattle.pipe_model.proofs.Histories.Written.{link, at, peer, gid, mac, entry, given, written}

-- the scene: open s | pump 9 | grow | pump 9 | close A.s | close B.s | pump 9 | trim A | deliver 1 A | cut 1 | report
-- A 1 | pump 9 | trim A
abbrev setup : Setup
setup = record { capable = true ∷ true ∷ []; subnet = (167772160, 24) ∷ (167772160, 24) ∷ []; links = 2; size_code = 0; rmbs = 2 ∷ 2 ∷ []; elements = 4 ∷ 4 ∷ []; depth = 1; number = 1; sockets = 1 }

-- the bytes of its writes
abbrev payload : List ℕ
payload = []

-- what happened, the oldest entry first
abbrev history : List Entry
history =
    -- 1 open s: opened
    entry (Open 0) Opened (ClcPost A 0 None (ProposalMessage (record { peer = peer 10; gid = gid 10 1; mac = mac 10 1; subnet = 167772160; prefix = 24; v6 = 0 })) ∷ []) ∷
    -- 2 clc s A: sent accept
    entry (ClcEvent 0 A) (SentReply AcceptKind) (ClcPost B 0 (Some (link 1 1 1)) (AcceptMessage (record { first = true; peer = peer 11; gid = gid 11 1; mac = mac 11 1; qp = 17; key = 513; index = 1; token = 1; size = 0; mtu = 5; address = 4294967296; psn = 1 })) ∷ []) ∷
    -- 3 clc s B: sent confirm
    entry (ClcEvent 0 B) (SentReply ConfirmKind) (ClcPost A 0 (Some (link 1 1 1)) (ConfirmMessage (record { first = true; peer = peer 10; gid = gid 10 1; mac = mac 10 1; qp = 17; key = 257; index = 1; token = 1; size = 0; mtu = 5; address = 4294967296; psn = 1 })) ∷ []) ∷
    -- 4 clc s A: sent confirm link
    entry (ClcEvent 0 A) (SentReply ConfirmLinkKind) (Llc B (link 1 1 1) (ConfirmLink false (mac 11 1) (gid 11 1) 17 1 1 2) ∷ []) ∷
    -- 5 deliver 1 B: landed 4.1
    entry (Deliver 1 B) (Landed (at 4 1)) (Llc A (link 1 1 1) (ConfirmLink true (mac 10 1) (gid 10 1) 17 1 1 2) ∷ []) ∷
    -- 6 deliver 1 A: landed 5.1
    entry (Deliver 1 A) (Landed (at 5 1)) [] ∷
    -- 7 grow: sent add link
    entry Grow (SentReply AddLinkKind) (Llc B (link 1 1 1) (AddLink false false 0 (mac 11 2) (gid 11 2) 34 2 5 1) ∷ []) ∷
    -- 8 deliver 1 B: landed 7.1
    entry (Deliver 1 B) (Landed (at 7 1)) (Llc A (link 1 1 1) (AddLink true false 0 (mac 10 2) (gid 10 2) 34 2 5 1) ∷ []) ∷
    -- 9 deliver 1 A: landed 8.1
    entry (Deliver 1 A) (Landed (at 8 1)) (Llc B (link 1 1 1) (AddKeys false 2 1 ((record { reference = 513; fresh = 514; address = 4294967296 }) ∷ (record { reference = 0; fresh = 0; address = 0 }) ∷ [])) ∷ []) ∷
    -- 10 deliver 1 B: landed 9.1
    entry (Deliver 1 B) (Landed (at 9 1)) (Llc A (link 1 1 1) (AddKeys true 2 1 ((record { reference = 257; fresh = 258; address = 4294967296 }) ∷ (record { reference = 0; fresh = 0; address = 0 }) ∷ [])) ∷ []) ∷
    -- 11 deliver 1 A: landed 10.1
    entry (Deliver 1 A) (Landed (at 10 1)) (Llc B (link 1 2 1) (ConfirmLink false (mac 11 2) (gid 11 2) 34 2 1 2) ∷ []) ∷
    -- 12 deliver 2 B: landed 11.1
    entry (Deliver 2 B) (Landed (at 11 1)) (Llc A (link 1 2 1) (ConfirmLink true (mac 10 2) (gid 10 2) 34 2 1 2) ∷ []) ∷
    -- 13 deliver 2 A: landed 12.1
    entry (Deliver 2 A) (Landed (at 12 1)) [] ∷
    -- 14 close A.s: done
    entry (Close (record { side = A; s = 0 })) Done (Cdc A (link 1 1 1) (record { number = 1; token = 1; told = record { wrap = 0; count = 0 }; read = record { wrap = 0; count = 0 }; producer = 0; state = 192 }) ∷ []) ∷
    -- 15 close B.s: done
    entry (Close (record { side = B; s = 0 })) Done (Cdc B (link 1 1 1) (record { number = 1; token = 1; told = record { wrap = 0; count = 0 }; read = record { wrap = 0; count = 0 }; producer = 0; state = 192 }) ∷ []) ∷
    -- 16 deliver 1 A: landed 14.1
    entry (Deliver 1 A) (Landed (at 14 1)) [] ∷
    -- 17 deliver 1 B: landed 15.1
    entry (Deliver 1 B) (Landed (at 15 1)) [] ∷
    -- 18 complete 1 A: completed 14.1
    entry (Complete 1 A) (Completed (at 14 1)) [] ∷
    -- 19 complete 1 B: completed 15.1
    entry (Complete 1 B) (Completed (at 15 1)) [] ∷
    -- 20 trim A: sent delete rkey
    entry (Trim A) (SentReply DeleteRkeyKind) (Llc A (link 1 1 1) (DeleteRkey false false 1 0 (257 ∷ 0 ∷ 0 ∷ 0 ∷ 0 ∷ 0 ∷ 0 ∷ 0 ∷ [])) ∷ []) ∷
    -- 21 deliver 1 A: landed 20.1
    entry (Deliver 1 A) (Landed (at 20 1)) (Llc B (link 1 1 1) (DeleteRkey true false 1 0 (257 ∷ 0 ∷ 0 ∷ 0 ∷ 0 ∷ 0 ∷ 0 ∷ 0 ∷ [])) ∷ []) ∷
    -- 22 cut 1: done
    entry (Cut 1) Done [] ∷
    -- 23 report A 1: done
    entry (Report A 1) Done (Llc A (link 1 2 1) (DeleteLink false false false 1 65536) ∷ Llc A (link 1 2 1) (DeleteRkey false false 1 0 (258 ∷ 0 ∷ 0 ∷ 0 ∷ 0 ∷ 0 ∷ 0 ∷ 0 ∷ [])) ∷ []) ∷
    -- 24 deliver 2 A: landed 23.1
    entry (Deliver 2 A) (Landed (at 23 1)) (Llc B (link 1 2 1) (DeleteLink true false false 1 65536) ∷ []) ∷
    -- 25 deliver 2 A: landed 23.2
    entry (Deliver 2 A) (Landed (at 23 2)) (Llc B (link 1 2 1) (DeleteRkey true true 1 128 (258 ∷ 0 ∷ 0 ∷ 0 ∷ 0 ∷ 0 ∷ 0 ∷ 0 ∷ [])) ∷ []) ∷
    -- 26 deliver 2 B: landed 24.1
    entry (Deliver 2 B) (Landed (at 24 1)) [] ∷
    -- 27 deliver 2 B: landed 25.1
    entry (Deliver 2 B) (Landed (at 25 1)) [] ∷
    -- 28 trim A: idle
    entry (Trim A) Idle [] ∷
    []

are-given : given setup payload (reverse history) ≡ written (reverse history)
are-given = refl
