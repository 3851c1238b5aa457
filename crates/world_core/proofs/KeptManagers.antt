-- Where two histories show the same, a manager keeps the same; where they show the same but for the end of one socket, just that
-- end differs.
use Rattle.std.proofs.Common.{◌≡◌, ◌∙◌, ℕ, ◌<◌, ◌==◌, false, List, length, ap, sym}
use Rattle.std.specs.Prelude.{Option, None, option_map, slice_index_or, slice_set}
use Rattle.smc_num.specs.declared.Side.{Side}
use Rattle.rmb_region.specs.Regions.{Buffer}
use Rattle.pipe_model.specs.declared.setup.Setup.{Setup}
use Rattle.pipe_model.specs.declared.entry.Entry.{Entry}
use Rattle.pipe_model.specs.Ends.{Half, settle}
use Rattle.pipe_model.specs.Lending.{Lending, lendings, free_places, terms_of}
use Rattle.clc_handshake.specs.Stages.{Hand}
use Rattle.side_core.specs.Records.{Connection, conn_at}
use Rattle.side_core.specs.Desk.{Desk}
use Rattle.side_core.specs.Manager.{Manager}
use Rattle.side_core.specs.Acting.{acts_at}
use Rattle.world_core.specs.Managers.{manager_of, desk_of, hand_of, conn_of, end_of, each_socket, changes_end}
use Rattle.world_core.proofs.Tables.{same-sockets, set-socket, at-socket}
use Rattle.world_core.proofs.SameManagers.{SameDesk, SameSocket, same-desk, same-hand, same-conn, acted-conn, same-spare}

-- a manager of these parts
abbrev pub manager_from : Setup → List Buffer → Desk → List Hand → List (Option (Connection Half)) → ℕ → ℕ → Manager Half
manager_from setup regions desk hands conns tokens spare = record {
  desk = desk;
  hands = hands;
  records = record { terms = terms_of setup; by_socket = conns; tokens = tokens; spare = spare };
  regions = regions;
}

module _ (setup : Setup) (payload : List ℕ) (regions : List Buffer) (x : Side) (past : List Entry) where
  -- the connection of a known socket
  pub conn-at : (s : ℕ) → s < setup.sockets → conn_at s (manager_of setup payload regions x past).records ≡ conn_of setup payload x past s
  conn-at s l = at-socket (conn_of setup payload x past) setup.sockets s None l

module _ (setup : Setup) (payload : List ℕ) (regions : List Buffer) (x : Side) (one two : List Entry)
    (desk : SameDesk setup payload x one two) (each : (s : ℕ) → SameSocket x one two s) where
  -- all but the connections
  pub kept-but : (conns : List (Option (Connection Half))) → each_socket (conn_of setup payload x one) setup.sockets ≡ conns
      → manager_of setup payload regions x one ≡ manager_from setup regions (desk_of setup payload x two) (each_socket (hand_of x two) setup.sockets) conns (length (lendings x two)) (length (free_places setup payload x two))
  kept-but conns e =
      ap (λ d. manager_from setup regions d (each_socket (hand_of x one) setup.sockets) (each_socket (conn_of setup payload x one) setup.sockets) (length (lendings x one)) (length (free_places setup payload x one))) (same-desk setup payload x one two desk)
      ∙ (ap (λ (hs : List Hand). manager_from setup regions (desk_of setup payload x two) hs (each_socket (conn_of setup payload x one) setup.sockets) (length (lendings x one)) (length (free_places setup payload x one))) (same-sockets (hand_of x one) (hand_of x two) (λ s. same-hand x one two s (each s)) setup.sockets)
      ∙ (ap (λ (cs : List (Option (Connection Half))). manager_from setup regions (desk_of setup payload x two) (each_socket (hand_of x two) setup.sockets) cs (length (lendings x one)) (length (free_places setup payload x one))) e
      ∙ (ap (λ (ls : List Lending). manager_from setup regions (desk_of setup payload x two) (each_socket (hand_of x two) setup.sockets) conns (length ls) (length (free_places setup payload x one))) desk.all
      ∙ ap (λ n. manager_from setup regions (desk_of setup payload x two) (each_socket (hand_of x two) setup.sockets) conns (length (lendings x two)) n) (same-spare setup payload x one two desk.lent_is))))

  -- nothing has changed
  pub manager-kept : ((s : ℕ) → end_of setup payload x s one ≡ end_of setup payload x s two) → manager_of setup payload regions x one ≡ manager_of setup payload regions x two
  manager-kept ends = kept-but (each_socket (conn_of setup payload x two) setup.sockets)
      (same-sockets (conn_of setup payload x one) (conn_of setup payload x two) (λ s. same-conn setup payload x one two s (let k = each s in k.route) desk.all desk.lent_is (ends s)) setup.sockets)

  -- the end of one socket has changed
  pub end-changed : (s : ℕ) (act : Half → Half) → s < setup.sockets → ((t : ℕ) → (t == s) ≡ false → end_of setup payload x t one ≡ end_of setup payload x t two)
      → end_of setup payload x s one ≡ act (end_of setup payload x s two) → manager_of setup payload regions x one ≡ changes_end s act (manager_of setup payload regions x two)
  end-changed s act l others own =
      let was : List (Option (Connection Half)) = each_socket (conn_of setup payload x two) setup.sockets in
      let change : Connection Half → Connection Half = λ c. record c { end = act c.end } in
      kept-but (slice_set was s (option_map change (slice_index_or was s None)))
      (sym (set-socket (conn_of setup payload x two) (conn_of setup payload x one) setup.sockets s (λ t n. same-conn setup payload x one two t (let k = each t in k.route) desk.all desk.lent_is (others t n)))
      ∙ (ap (λ (c : Option (Connection Half)). slice_set was s c) (acted-conn setup payload x one two s act (let k = each s in k.route) desk.all desk.lent_is own)
      ∙ ap (λ (c : Option (Connection Half)). slice_set was s (option_map change c)) (sym (at-socket (conn_of setup payload x two) setup.sockets s None l))))

  -- something was done to it, and what is due then was posted
  pub end-acted : (s : ℕ) (act : Half → Half) → s < setup.sockets → ((t : ℕ) → (t == s) ≡ false → end_of setup payload x t one ≡ end_of setup payload x t two)
      → end_of setup payload x s one ≡ settle setup.depth (act (end_of setup payload x s two)) → manager_of setup payload regions x one ≡ acts_at s act (manager_of setup payload regions x two)
  end-acted s act l others own = end-changed s (λ h. settle setup.depth (act h)) l others own

-- a manager by its parts
pub by-parts : (setup : Setup) (payload : List ℕ) (regions : List Buffer) (x : Side) (past : List Entry) (desk : Desk) (hands : List Hand) (conns : List (Option (Connection Half))) (tokens spare : ℕ)
    → desk_of setup payload x past ≡ desk → each_socket (hand_of x past) setup.sockets ≡ hands → each_socket (conn_of setup payload x past) setup.sockets ≡ conns
    → length (lendings x past) ≡ tokens → length (free_places setup payload x past) ≡ spare
    → manager_of setup payload regions x past ≡ manager_from setup regions desk hands conns tokens spare
by-parts setup payload regions x past desk hands conns tokens spare d h c t n =
    ap (λ d. manager_from setup regions d (each_socket (hand_of x past) setup.sockets) (each_socket (conn_of setup payload x past) setup.sockets) (length (lendings x past)) (length (free_places setup payload x past))) d
    ∙ (ap (λ (hs : List Hand). manager_from setup regions desk hs (each_socket (conn_of setup payload x past) setup.sockets) (length (lendings x past)) (length (free_places setup payload x past))) h
    ∙ (ap (λ (cs : List (Option (Connection Half))). manager_from setup regions desk hands cs (length (lendings x past)) (length (free_places setup payload x past))) c
    ∙ (ap (λ n. manager_from setup regions desk hands conns n (length (free_places setup payload x past))) t
    ∙ ap (λ n. manager_from setup regions desk hands conns tokens n) n)))
