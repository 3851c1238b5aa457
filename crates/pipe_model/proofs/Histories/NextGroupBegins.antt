-- Both sides report the only link: the group ends with its connection, and the next open begins a group on the healed slot.
-- A history written down by hand, entry by entry: each reply and each post is the one that the definitions give.
use Rattle.smc_num.specs.declared.Side.TheVariants.{A, B}
use Rattle.clc_wire.specs.declared.message.ClcMessage.TheVariants.{Proposal as ProposalMessage, Accept as AcceptMessage, Confirm as ConfirmMessage}
use Rattle.llc_wire.specs.declared.LlcMessage.TheVariants.{ConfirmLink}
use Rattle.pipe_model.specs.declared.setup.Setup.{Setup}
use Rattle.pipe_model.specs.declared.entry.Entry.{Entry}
use Rattle.pipe_model.specs.declared.event.Event.TheVariants.{Open, Clc as ClcEvent, Deliver, Cut, Report, Heal}
use Rattle.pipe_model.specs.declared.reply.Reply.TheVariants.{Opened, Done, Sent as SentReply, Landed, GroupEnded}
use Rattle.pipe_model.specs.declared.reply.SentKind.TheVariants.{Accept as AcceptKind, Confirm as ConfirmKind, ConfirmLink as ConfirmLinkKind}
use Rattle.pipe_model.specs.declared.post.Post.TheVariants.{Llc, Clc as ClcPost}
use Rattle.std.proofs.Common.{◌≡◌, ℕ, List, [], ◌∷◌, true, false, refl, Some, None, reverse}
use Rattle.pipe_model.proofs.Histories.Written.{link, at, peer, gid, mac, entry, given, written}

-- the scene: open s | pump 9 | cut 1 | report A 1 | report B 1 | heal 1 | open t | pump 9
abbrev setup : Setup
setup = record { capable = true ∷ true ∷ []; subnet = (167772160, 24) ∷ (167772160, 24) ∷ []; links = 2; size_code = 0; rmbs = 2 ∷ 2 ∷ []; elements = 4 ∷ 4 ∷ []; depth = 1; number = 1; sockets = 2 }

-- the bytes of its writes
abbrev payload : List ℕ
payload = []

-- what happened, the oldest entry first
abbrev history : List Entry
history =
    -- 1 open s: opened
    entry (Open 0) Opened (ClcPost A 0 None (ProposalMessage (record { peer = peer 10; gid = gid 10 1; mac = mac 10 1; subnet = 167772160; prefix = 24; v6 = 0 })) ∷ []) ∷
    -- 2 clc s A: sent accept
    entry (ClcEvent 0 A) (SentReply AcceptKind) (ClcPost B 0 (Some (link 1 1 1)) (AcceptMessage (record { first = true; peer = peer 11; gid = gid 11 1; mac = mac 11 1; qp = 17; key = 513; index = 1; token = 1; size = 0; mtu = 5; address = 4294967296; psn = 1 })) ∷ []) ∷
    -- 3 clc s B: sent confirm
    entry (ClcEvent 0 B) (SentReply ConfirmKind) (ClcPost A 0 (Some (link 1 1 1)) (ConfirmMessage (record { first = true; peer = peer 10; gid = gid 10 1; mac = mac 10 1; qp = 17; key = 257; index = 1; token = 1; size = 0; mtu = 5; address = 4294967296; psn = 1 })) ∷ []) ∷
    -- 4 clc s A: sent confirm link
    entry (ClcEvent 0 A) (SentReply ConfirmLinkKind) (Llc B (link 1 1 1) (ConfirmLink false (mac 11 1) (gid 11 1) 17 1 1 2) ∷ []) ∷
    -- 5 deliver 1 B: landed 4.1
    entry (Deliver 1 B) (Landed (at 4 1)) (Llc A (link 1 1 1) (ConfirmLink true (mac 10 1) (gid 10 1) 17 1 1 2) ∷ []) ∷
    -- 6 deliver 1 A: landed 5.1
    entry (Deliver 1 A) (Landed (at 5 1)) [] ∷
    -- 7 cut 1: done
    entry (Cut 1) Done [] ∷
    -- 8 report A 1: group ended 1
    entry (Report A 1) (GroupEnded 1) [] ∷
    -- 9 report B 1: group ended 1
    entry (Report B 1) (GroupEnded 1) [] ∷
    -- 10 heal 1: done
    entry (Heal 1) Done [] ∷
    -- 11 open t: opened
    entry (Open 1) Opened (ClcPost A 1 None (ProposalMessage (record { peer = peer 10; gid = gid 10 1; mac = mac 10 1; subnet = 167772160; prefix = 24; v6 = 0 })) ∷ []) ∷
    -- 12 clc t A: sent accept
    entry (ClcEvent 1 A) (SentReply AcceptKind) (ClcPost B 1 (Some (link 2 1 2)) (AcceptMessage (record { first = true; peer = peer 11; gid = gid 11 1; mac = mac 11 1; qp = 33; key = 513; index = 1; token = 2; size = 0; mtu = 5; address = 4294967296; psn = 2 })) ∷ []) ∷
    -- 13 clc t B: sent confirm
    entry (ClcEvent 1 B) (SentReply ConfirmKind) (ClcPost A 1 (Some (link 2 1 2)) (ConfirmMessage (record { first = true; peer = peer 10; gid = gid 10 1; mac = mac 10 1; qp = 33; key = 257; index = 1; token = 2; size = 0; mtu = 5; address = 4294967296; psn = 2 })) ∷ []) ∷
    -- 14 clc t A: sent confirm link
    entry (ClcEvent 1 A) (SentReply ConfirmLinkKind) (Llc B (link 2 1 2) (ConfirmLink false (mac 11 1) (gid 11 1) 33 1 2 2) ∷ []) ∷
    -- 15 deliver 1 B: landed 14.1
    entry (Deliver 1 B) (Landed (at 14 1)) (Llc A (link 2 1 2) (ConfirmLink true (mac 10 1) (gid 10 1) 33 1 2 2) ∷ []) ∷
    -- 16 deliver 1 A: landed 15.1
    entry (Deliver 1 A) (Landed (at 15 1)) [] ∷
    []

are-given : given setup payload (reverse history) ≡ written (reverse history)
are-given = refl
