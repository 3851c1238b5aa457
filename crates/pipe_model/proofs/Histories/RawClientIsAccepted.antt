-- A raw client gets an element, and loses it with a second Proposal.
-- A history written down by hand, entry by entry: each reply and each post is the one that the definitions give.
use Rattle.smc_num.specs.declared.Side.TheVariants.{A, B}
use Rattle.smc_num.specs.declared.LinkId.{LinkId}
use Rattle.clc_wire.specs.declared.message.ClcMessage.TheVariants.{Proposal as ProposalMessage, Accept as AcceptMessage, Confirm as ConfirmMessage}
use Rattle.llc_wire.specs.declared.LlcMessage.TheVariants.{ConfirmLink}
use Rattle.pipe_model.specs.declared.post.PostRef.{PostRef}
use Rattle.pipe_model.specs.declared.setup.Setup.{Setup}
use Rattle.pipe_model.specs.declared.entry.Entry.{Entry}
use Rattle.pipe_model.specs.declared.event.Event.TheVariants.{Open, Raw, Clc as ClcEvent, Deliver}
use Rattle.pipe_model.specs.declared.reply.Reply.TheVariants.{Opened, NameUsed, Wrote, Reset, Sent as SentReply, Landed}
use Rattle.pipe_model.specs.declared.reply.SentKind.TheVariants.{Proposal as ProposalKind, Accept as AcceptKind, Confirm as ConfirmKind, ConfirmLink as ConfirmLinkKind}
use Rattle.pipe_model.specs.declared.reply.ResetCause.TheVariants.{BadStep}
use Rattle.pipe_model.specs.declared.post.Post.TheVariants.{Llc, Clc as ClcPost}
use Rattle.std.proofs.Common.{◌≡◌, ℕ, List, [], ◌∷◌, true, false, refl, Some, None, reverse, ◌++◌, replicate}
use Rattle.pipe_model.proofs.Histories.Written.{link, at, peer, gid, mac, entry, given, written}
use Rattle.clc_wire.specs.Clc.{clc_front}
use Rattle.clc_wire.specs.Proposal.{proposal_at}

-- the scene: open s | pump 9 | raw r
-- e2,d4,c3,d9,01,00,34,10,00,01,02,00*3,0a,01,fe,80,00*12,0a,01,02,00*3,0a,01,00*2,0a,00*3,18,00*3,e2,d4,c3,d9 |
-- clc r A | raw r
-- e2,d4,c3,d9,01,00,34,10,00,01,02,00*3,0a,01,fe,80,00*12,0a,01,02,00*3,0a,01,00*2,0a,00*3,18,00*3,e2,d4,c3,d9 |
-- clc r A | open t | clc t A | open r
abbrev setup : Setup
setup = record { capable = true ∷ true ∷ []; subnet = (167772160, 24) ∷ (167772160, 24) ∷ []; links = 2; size_code = 0; rmbs = 2 ∷ 2 ∷ []; elements = 4 ∷ 4 ∷ []; depth = 1; number = 1; sockets = 3 }

-- the bytes of its writes
abbrev payload : List ℕ
payload = 226 ∷ 212 ∷ 195 ∷ 217 ∷ 1 ∷ 0 ∷ 52 ∷ 16 ∷ 0 ∷ 1 ∷ 2 ∷ 0 ∷ 0 ∷ 0 ∷ 10 ∷ 1 ∷ 254 ∷ 128 ∷ replicate 12 0 ++ 10 ∷ 1 ∷ 2 ∷ 0 ∷ 0 ∷ 0 ∷ 10 ∷ 1 ∷ 0 ∷ 0 ∷ 10 ∷ 0 ∷ 0 ∷ 0 ∷ 24 ∷ 0 ∷ 0 ∷ 0 ∷ 226 ∷ 212 ∷ 195 ∷ 217 ∷ 226 ∷ 212 ∷ 195 ∷ 217 ∷ 1 ∷ 0 ∷ 52 ∷ 16 ∷ 0 ∷ 1 ∷ 2 ∷ 0 ∷ 0 ∷ 0 ∷ 10 ∷ 1 ∷ 254 ∷ 128 ∷ replicate 12 0 ++ 10 ∷ 1 ∷ 2 ∷ 0 ∷ 0 ∷ 0 ∷ 10 ∷ 1 ∷ 0 ∷ 0 ∷ 10 ∷ 0 ∷ 0 ∷ 0 ∷ 24 ∷ 0 ∷ 0 ∷ 0 ∷ 226 ∷ 212 ∷ 195 ∷ 217 ∷ []

-- what happened, the oldest entry first
abbrev history : List Entry
history =
    -- 1 open s: opened
    entry (Open 0) Opened (ClcPost A 0 None (ProposalMessage (record { peer = peer 10; gid = gid 10 1; mac = mac 10 1; subnet = 167772160; prefix = 24; v6 = 0 })) ∷ []) ∷
    -- 2 clc s A: sent accept
    entry (ClcEvent 0 A) (SentReply AcceptKind) (ClcPost B 0 (Some (link 1 1 1)) (AcceptMessage (record { first = true; peer = peer 11; gid = gid 11 1; mac = mac 11 1; qp = 17; key = 513; index = 1; token = 1; size = 0; mtu = 5; address = 4294967296; psn = 1 })) ∷ []) ∷
    -- 3 clc s B: sent confirm
    entry (ClcEvent 0 B) (SentReply ConfirmKind) (ClcPost A 0 (Some (link 1 1 1)) (ConfirmMessage (record { first = true; peer = peer 10; gid = gid 10 1; mac = mac 10 1; qp = 17; key = 257; index = 1; token = 1; size = 0; mtu = 5; address = 4294967296; psn = 1 })) ∷ []) ∷
    -- 4 clc s A: sent confirm link
    entry (ClcEvent 0 A) (SentReply ConfirmLinkKind) (Llc B (link 1 1 1) (ConfirmLink false (mac 11 1) (gid 11 1) 17 1 1 2) ∷ []) ∷
    -- 5 deliver 1 B: landed 4.1
    entry (Deliver 1 B) (Landed (at 4 1)) (Llc A (link 1 1 1) (ConfirmLink true (mac 10 1) (gid 10 1) 17 1 1 2) ∷ []) ∷
    -- 6 deliver 1 A: landed 5.1
    entry (Deliver 1 A) (Landed (at 5 1)) [] ∷
    -- 7 raw r e2,d4,c3,d9,01,00,34,10,00,01,02,00*3,0a,01,fe,80,00*1 ..8,00*3,e2,d4,c3,d9: wrote 52
    entry (Raw 1 0 52) (Wrote 52) [] ∷
    -- 8 clc r A: sent accept
    entry (ClcEvent 1 A) (SentReply AcceptKind) (ClcPost B 1 (Some (link 1 1 1)) (AcceptMessage (record { first = false; peer = peer 11; gid = gid 11 1; mac = mac 11 1; qp = 17; key = 513; index = 2; token = 2; size = 0; mtu = 5; address = 4294967296; psn = 1 })) ∷ []) ∷
    -- 9 raw r e2,d4,c3,d9,01,00,34,10,00,01,02,00*3,0a,01,fe,80,00*1 ..8,00*3,e2,d4,c3,d9: wrote 52
    entry (Raw 1 52 52) (Wrote 52) [] ∷
    -- 10 clc r A: reset bad step proposal
    entry (ClcEvent 1 A) (Reset (BadStep ProposalKind)) [] ∷
    -- 11 open t: opened
    entry (Open 2) Opened (ClcPost A 2 None (ProposalMessage (record { peer = peer 10; gid = gid 10 1; mac = mac 10 1; subnet = 167772160; prefix = 24; v6 = 0 })) ∷ []) ∷
    -- 12 clc t A: sent accept
    entry (ClcEvent 2 A) (SentReply AcceptKind) (ClcPost B 2 (Some (link 1 1 1)) (AcceptMessage (record { first = false; peer = peer 11; gid = gid 11 1; mac = mac 11 1; qp = 17; key = 513; index = 2; token = 3; size = 0; mtu = 5; address = 4294967296; psn = 1 })) ∷ []) ∷
    -- 13 open r: name used
    entry (Open 1) NameUsed [] ∷
    []

are-given : given setup payload (reverse history) ≡ written (reverse history)
unfolding clc_front proposal_at
are-given = refl
