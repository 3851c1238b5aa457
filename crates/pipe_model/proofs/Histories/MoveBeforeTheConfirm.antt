-- An end loses a message with its link and moves before the server has taken the Confirm: the gap shows as the server is established.
-- A history written down by hand, entry by entry: each reply and each post is the one that the definitions give.
use Rattle.smc_num.specs.declared.Side.TheVariants.{A, B}
use Rattle.clc_wire.specs.declared.message.ClcMessage.TheVariants.{Proposal as ProposalMessage, Accept as AcceptMessage, Confirm as ConfirmMessage}
use Rattle.llc_wire.specs.declared.LlcMessage.TheVariants.{ConfirmLink, AddLink, AddKeys, DeleteLink}
use Rattle.pipe_model.specs.declared.setup.Setup.{Setup}
use Rattle.pipe_model.specs.declared.entry.Entry.{Entry}
use Rattle.pipe_model.specs.declared.event.Event.TheVariants.{Open, Write as WriteEvent, Clc as ClcEvent, Deliver, Swallow, Cut, Report, Move, Grow, Abort}
use Rattle.pipe_model.specs.declared.reply.Reply.TheVariants.{Opened, Wrote, Done, Reset, Sent as SentReply, Landed, Completed, Moved, Established}
use Rattle.pipe_model.specs.declared.reply.SentKind.TheVariants.{Accept as AcceptKind, Confirm as ConfirmKind, ConfirmLink as ConfirmLinkKind, AddLink as AddLinkKind}
use Rattle.pipe_model.specs.declared.reply.ResetCause.TheVariants.{Gap}
use Rattle.pipe_model.specs.declared.post.Post.TheVariants.{Write as WritePost, Cdc, Llc, Clc as ClcPost}
use Rattle.std.proofs.Common.{◌≡◌, ℕ, List, [], ◌∷◌, true, false, refl, Some, None, reverse}
use Rattle.pipe_model.proofs.Histories.Written.{link, at, peer, gid, mac, entry, given, written}

-- the scene: open s | pump 9 | grow | pump 9 | open t | clc t A | clc t B | write A.t 41 | cut 2 | swallow 2 A |
-- swallow 2 A | report A 2 | move A.t | deliver 1 A | deliver 1 A | abort A.t | deliver 1 A | clc t A | write B.t 01
abbrev setup : Setup
setup = record { capable = true ∷ true ∷ []; subnet = (167772160, 24) ∷ (167772160, 24) ∷ []; links = 2; size_code = 0; rmbs = 2 ∷ 2 ∷ []; elements = 4 ∷ 4 ∷ []; depth = 1; number = 1; sockets = 2 }

-- the bytes of its writes
abbrev payload : List ℕ
payload = 65 ∷ 1 ∷ []

-- what happened, the oldest entry first
abbrev history : List Entry
history =
    -- 1 open s: opened
    entry (Open 0) Opened (ClcPost A 0 None (ProposalMessage (record { peer = peer 10; gid = gid 10 1; mac = mac 10 1; subnet = 167772160; prefix = 24; v6 = 0 })) ∷ []) ∷
    -- 2 clc s A: sent accept
    entry (ClcEvent 0 A) (SentReply AcceptKind) (ClcPost B 0 (Some (link 1 1 1)) (AcceptMessage (record { first = true; peer = peer 11; gid = gid 11 1; mac = mac 11 1; qp = 17; key = 513; index = 1; token = 1; size = 0; mtu = 5; address = 4294967296; psn = 1 })) ∷ []) ∷
    -- 3 clc s B: sent confirm
    entry (ClcEvent 0 B) (SentReply ConfirmKind) (ClcPost A 0 (Some (link 1 1 1)) (ConfirmMessage (record { first = true; peer = peer 10; gid = gid 10 1; mac = mac 10 1; qp = 17; key = 257; index = 1; token = 1; size = 0; mtu = 5; address = 4294967296; psn = 1 })) ∷ []) ∷
    -- 4 clc s A: sent confirm link
    entry (ClcEvent 0 A) (SentReply ConfirmLinkKind) (Llc B (link 1 1 1) (ConfirmLink false (mac 11 1) (gid 11 1) 17 1 1 2) ∷ []) ∷
    -- 5 deliver 1 B: landed 4.1
    entry (Deliver 1 B) (Landed (at 4 1)) (Llc A (link 1 1 1) (ConfirmLink true (mac 10 1) (gid 10 1) 17 1 1 2) ∷ []) ∷
    -- 6 deliver 1 A: landed 5.1
    entry (Deliver 1 A) (Landed (at 5 1)) [] ∷
    -- 7 grow: sent add link
    entry Grow (SentReply AddLinkKind) (Llc B (link 1 1 1) (AddLink false false 0 (mac 11 2) (gid 11 2) 34 2 5 1) ∷ []) ∷
    -- 8 deliver 1 B: landed 7.1
    entry (Deliver 1 B) (Landed (at 7 1)) (Llc A (link 1 1 1) (AddLink true false 0 (mac 10 2) (gid 10 2) 34 2 5 1) ∷ []) ∷
    -- 9 deliver 1 A: landed 8.1
    entry (Deliver 1 A) (Landed (at 8 1)) (Llc B (link 1 1 1) (AddKeys false 2 1 ((record { reference = 513; fresh = 514; address = 4294967296 }) ∷ (record { reference = 0; fresh = 0; address = 0 }) ∷ [])) ∷ []) ∷
    -- 10 deliver 1 B: landed 9.1
    entry (Deliver 1 B) (Landed (at 9 1)) (Llc A (link 1 1 1) (AddKeys true 2 1 ((record { reference = 257; fresh = 258; address = 4294967296 }) ∷ (record { reference = 0; fresh = 0; address = 0 }) ∷ [])) ∷ []) ∷
    -- 11 deliver 1 A: landed 10.1
    entry (Deliver 1 A) (Landed (at 10 1)) (Llc B (link 1 2 1) (ConfirmLink false (mac 11 2) (gid 11 2) 34 2 1 2) ∷ []) ∷
    -- 12 deliver 2 B: landed 11.1
    entry (Deliver 2 B) (Landed (at 11 1)) (Llc A (link 1 2 1) (ConfirmLink true (mac 10 2) (gid 10 2) 34 2 1 2) ∷ []) ∷
    -- 13 deliver 2 A: landed 12.1
    entry (Deliver 2 A) (Landed (at 12 1)) [] ∷
    -- 14 open t: opened
    entry (Open 1) Opened (ClcPost A 1 None (ProposalMessage (record { peer = peer 10; gid = gid 10 1; mac = mac 10 1; subnet = 167772160; prefix = 24; v6 = 0 })) ∷ []) ∷
    -- 15 clc t A: sent accept
    entry (ClcEvent 1 A) (SentReply AcceptKind) (ClcPost B 1 (Some (link 1 2 1)) (AcceptMessage (record { first = false; peer = peer 11; gid = gid 11 2; mac = mac 11 2; qp = 34; key = 514; index = 2; token = 2; size = 0; mtu = 5; address = 4294967296; psn = 1 })) ∷ []) ∷
    -- 16 clc t B: established
    entry (ClcEvent 1 B) Established (ClcPost A 1 (Some (link 1 2 1)) (ConfirmMessage (record { first = false; peer = peer 10; gid = gid 10 2; mac = mac 10 2; qp = 34; key = 258; index = 2; token = 2; size = 0; mtu = 5; address = 4294967296; psn = 1 })) ∷ []) ∷
    -- 17 write A.t 41: wrote 1
    entry (WriteEvent (record { side = A; s = 1 }) 0 1) (Wrote 1) (WritePost A (link 1 2 1) 514 4294983680 1 ∷ Cdc A (link 1 2 1) (record { number = 1; token = 2; told = record { wrap = 0; count = 1 }; read = record { wrap = 0; count = 0 }; producer = 0; state = 0 }) ∷ []) ∷
    -- 18 cut 2: done
    entry (Cut 2) Done [] ∷
    -- 19 swallow 2 A: completed 17.1
    entry (Swallow 2 A) (Completed (at 17 1)) [] ∷
    -- 20 swallow 2 A: completed 17.2
    entry (Swallow 2 A) (Completed (at 17 2)) [] ∷
    -- 21 report A 2: done
    entry (Report A 2) Done (Llc A (link 1 1 1) (DeleteLink false false false 2 65536) ∷ []) ∷
    -- 22 move A.t: moved 2 1
    entry (Move (record { side = A; s = 1 })) (Moved 2 1) (Cdc A (link 1 1 1) (record { number = 1; token = 2; told = record { wrap = 0; count = 1 }; read = record { wrap = 0; count = 0 }; producer = 8; state = 0 }) ∷ []) ∷
    -- 23 deliver 1 A: landed 21.1
    entry (Deliver 1 A) (Landed (at 21 1)) (Llc B (link 1 1 1) (DeleteLink true false false 2 65536) ∷ []) ∷
    -- 24 deliver 1 A: landed 22.1
    entry (Deliver 1 A) (Landed (at 22 1)) [] ∷
    -- 25 abort A.t: done
    entry (Abort (record { side = A; s = 1 })) Done (Cdc A (link 1 1 1) (record { number = 2; token = 2; told = record { wrap = 0; count = 1 }; read = record { wrap = 0; count = 0 }; producer = 0; state = 32 }) ∷ []) ∷
    -- 26 deliver 1 A: landed 25.1
    entry (Deliver 1 A) (Landed (at 25 1)) [] ∷
    -- 27 clc t A: established
    entry (ClcEvent 1 A) Established [] ∷
    -- 28 write B.t 01: reset gap 1 0
    entry (WriteEvent (record { side = B; s = 1 }) 1 1) (Reset (Gap 1 0)) [] ∷
    []

are-given : given setup payload (reverse history) ≡ written (reverse history)
are-given = refl
