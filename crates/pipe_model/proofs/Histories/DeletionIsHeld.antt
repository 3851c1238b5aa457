-- While a link is being added and a key is asked for, a deletion of keys is held, and the key is asked for again.
-- A history written down by hand, entry by entry: each reply and each post is the one that the definitions give.
use Rattle.smc_num.specs.declared.Side.TheVariants.{A, B}
use Rattle.clc_wire.specs.declared.message.ClcMessage.TheVariants.{Proposal as ProposalMessage, Accept as AcceptMessage, Confirm as ConfirmMessage}
use Rattle.llc_wire.specs.declared.LlcMessage.TheVariants.{ConfirmLink, AddLink, AddKeys, ConfirmRkey}
use Rattle.pipe_model.specs.declared.setup.Setup.{Setup}
use Rattle.pipe_model.specs.declared.entry.Entry.{Entry}
use Rattle.pipe_model.specs.declared.event.Event.TheVariants.{Open, Clc as ClcEvent, Deliver, Grow, Trim}
use Rattle.pipe_model.specs.declared.reply.Reply.TheVariants.{Opened, Sent as SentReply, Landed, Held}
use Rattle.pipe_model.specs.declared.reply.SentKind.TheVariants.{Accept as AcceptKind, Confirm as ConfirmKind, ConfirmLink as ConfirmLinkKind, AddLink as AddLinkKind, ConfirmRkey as ConfirmRkeyKind}
use Rattle.pipe_model.specs.declared.post.Post.TheVariants.{Llc, Clc as ClcPost}
use Rattle.pipe_model.specs.declared.reply.Hold.TheVariants.{ConfirmRkey as ConfirmRkeyHold, AddLink as AddLinkHold}
use Rattle.std.proofs.Common.{◌≡◌, ℕ, List, [], ◌∷◌, true, false, refl, Some, None, reverse}
use Rattle.pipe_model.proofs.Histories.Written.{link, at, peer, gid, mac, entry, given, written}

-- the scene: set elements A 1 | open s | pump 9 | grow | open t | clc t A | clc t B | deliver 1 A | deliver 1 B |
-- deliver 1 A | deliver 1 B | trim A | deliver 1 B | deliver 1 A | deliver 2 B | trim A | clc t B
abbrev setup : Setup
setup = record { capable = true ∷ true ∷ []; subnet = (167772160, 24) ∷ (167772160, 24) ∷ []; links = 2; size_code = 0; rmbs = 2 ∷ 2 ∷ []; elements = 1 ∷ 4 ∷ []; depth = 1; number = 1; sockets = 2 }

-- the bytes of its writes
abbrev payload : List ℕ
payload = []

-- what happened, the oldest entry first
abbrev history : List Entry
history =
    -- 1 open s: opened
    entry (Open 0) Opened (ClcPost A 0 None (ProposalMessage (record { peer = peer 10; gid = gid 10 1; mac = mac 10 1; subnet = 167772160; prefix = 24; v6 = 0 })) ∷ []) ∷
    -- 2 clc s A: sent accept
    entry (ClcEvent 0 A) (SentReply AcceptKind) (ClcPost B 0 (Some (link 1 1 1)) (AcceptMessage (record { first = true; peer = peer 11; gid = gid 11 1; mac = mac 11 1; qp = 17; key = 513; index = 1; token = 1; size = 0; mtu = 5; address = 4294967296; psn = 1 })) ∷ []) ∷
    -- 3 clc s B: sent confirm
    entry (ClcEvent 0 B) (SentReply ConfirmKind) (ClcPost A 0 (Some (link 1 1 1)) (ConfirmMessage (record { first = true; peer = peer 10; gid = gid 10 1; mac = mac 10 1; qp = 17; key = 257; index = 1; token = 1; size = 0; mtu = 5; address = 4294967296; psn = 1 })) ∷ []) ∷
    -- 4 clc s A: sent confirm link
    entry (ClcEvent 0 A) (SentReply ConfirmLinkKind) (Llc B (link 1 1 1) (ConfirmLink false (mac 11 1) (gid 11 1) 17 1 1 2) ∷ []) ∷
    -- 5 deliver 1 B: landed 4.1
    entry (Deliver 1 B) (Landed (at 4 1)) (Llc A (link 1 1 1) (ConfirmLink true (mac 10 1) (gid 10 1) 17 1 1 2) ∷ []) ∷
    -- 6 deliver 1 A: landed 5.1
    entry (Deliver 1 A) (Landed (at 5 1)) [] ∷
    -- 7 grow: sent add link
    entry Grow (SentReply AddLinkKind) (Llc B (link 1 1 1) (AddLink false false 0 (mac 11 2) (gid 11 2) 34 2 5 1) ∷ []) ∷
    -- 8 open t: opened
    entry (Open 1) Opened (ClcPost A 1 None (ProposalMessage (record { peer = peer 10; gid = gid 10 1; mac = mac 10 1; subnet = 167772160; prefix = 24; v6 = 0 })) ∷ []) ∷
    -- 9 clc t A: sent accept
    entry (ClcEvent 1 A) (SentReply AcceptKind) (ClcPost B 1 (Some (link 1 1 1)) (AcceptMessage (record { first = false; peer = peer 11; gid = gid 11 1; mac = mac 11 1; qp = 17; key = 513; index = 2; token = 2; size = 0; mtu = 5; address = 4294967296; psn = 1 })) ∷ []) ∷
    -- 10 clc t B: sent confirm rkey
    entry (ClcEvent 1 B) (SentReply ConfirmRkeyKind) (Llc A (link 1 1 1) (ConfirmRkey false false false 0 ((record { number = 0; key = 258; address = 8589934592 }) ∷ (record { number = 0; key = 0; address = 0 }) ∷ (record { number = 0; key = 0; address = 0 }) ∷ [])) ∷ []) ∷
    -- 11 deliver 1 A: landed 10.1
    entry (Deliver 1 A) (Landed (at 10 1)) (Llc B (link 1 1 1) (ConfirmRkey true true false 0 ((record { number = 0; key = 258; address = 8589934592 }) ∷ (record { number = 0; key = 0; address = 0 }) ∷ (record { number = 0; key = 0; address = 0 }) ∷ [])) ∷ []) ∷
    -- 12 deliver 1 B: landed 7.1
    entry (Deliver 1 B) (Landed (at 7 1)) (Llc A (link 1 1 1) (AddLink true false 0 (mac 10 2) (gid 10 2) 34 2 5 1) ∷ []) ∷
    -- 13 deliver 1 A: landed 12.1
    entry (Deliver 1 A) (Landed (at 12 1)) (Llc B (link 1 1 1) (AddKeys false 2 1 ((record { reference = 513; fresh = 514; address = 4294967296 }) ∷ (record { reference = 0; fresh = 0; address = 0 }) ∷ [])) ∷ []) ∷
    -- 14 deliver 1 B: landed 11.1
    entry (Deliver 1 B) (Landed (at 11 1)) [] ∷
    -- 15 trim A: held add link
    entry (Trim A) (Held AddLinkHold) [] ∷
    -- 16 deliver 1 B: landed 13.1
    entry (Deliver 1 B) (Landed (at 13 1)) (Llc A (link 1 1 1) (AddKeys true 2 1 ((record { reference = 257; fresh = 259; address = 4294967296 }) ∷ (record { reference = 0; fresh = 0; address = 0 }) ∷ [])) ∷ []) ∷
    -- 17 deliver 1 A: landed 16.1
    entry (Deliver 1 A) (Landed (at 16 1)) (Llc B (link 1 2 1) (ConfirmLink false (mac 11 2) (gid 11 2) 34 2 1 2) ∷ []) ∷
    -- 18 deliver 2 B: landed 17.1
    entry (Deliver 2 B) (Landed (at 17 1)) (Llc A (link 1 2 1) (ConfirmLink true (mac 10 2) (gid 10 2) 34 2 1 2) ∷ []) ∷
    -- 19 trim A: held confirm rkey
    entry (Trim A) (Held ConfirmRkeyHold) [] ∷
    -- 20 clc t B: sent confirm rkey
    entry (ClcEvent 1 B) (SentReply ConfirmRkeyKind) (Llc A (link 1 1 1) (ConfirmRkey false false false 1 ((record { number = 1; key = 258; address = 8589934592 }) ∷ (record { number = 2; key = 260; address = 8589934592 }) ∷ (record { number = 0; key = 0; address = 0 }) ∷ [])) ∷ []) ∷
    []

are-given : given setup payload (reverse history) ≡ written (reverse history)
are-given = refl
