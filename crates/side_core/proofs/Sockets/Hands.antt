-- The handshakes of a side, by socket.
-- A reader learns here that a manager whose handshake of a socket becomes another one stands for the plain one with the same change.
use Rattle.std.proofs.Common.{◌≡◌, ◌∙◌, ℕ, zero, suc, List, [], ◌∷◌, map, replicate, Option, Some, None, refl, sym, ap}
use Rattle.std.specs.Prelude.{slice_index_or, slice_set}
use Rattle.clc_handshake.specs.Stages.{Hand}
use Rattle.pipe_model.specs.Ends.{Half}
use Rattle.conn_end.specs.Kept.{Kept}
use Rattle.side_core.specs.Records.{Records}
use Rattle.side_core.specs.Desk.{Desk}
use Rattle.side_core.specs.Manager.{Manager, Works, Represents, no_hand, hand_of, hand_in, with_hand}
use Rattle.side_core.specs.Fit.{IsFit, IsManager}

-- one of them becomes another one
pub hands_set : (hands : List (Option Hand)) (s : ℕ) (h : Hand) → map hand_of (slice_set hands s (Some h)) ≡ slice_set (map hand_of hands) s h
hands_set [] s h = refl
hands_set (x ∷ hands) zero h = refl
hands_set (x ∷ hands) (suc s) h = ap (λ hs. hand_of x ∷ hs) (hands_set hands s h)

-- the one that is found
pub hand_found : (hands : List (Option Hand)) (s : ℕ) (h : Hand) → Some h ≡ slice_index_or hands s (Some h) → (hand_in s hands ≡ no_hand → ⊥) → hand_in s hands ≡ h
hand_found [] s h is some = absurd (some refl)
hand_found (x ∷ hands) zero h is some = ap hand_of (sym is)
hand_found (x ∷ hands) (suc s) h is some = hand_found hands s h is some

-- none at all sockets
pub no_hands_are : (n : ℕ) → map hand_of (replicate n None) ≡ replicate n no_hand
no_hands_are zero = refl
no_hands_are (suc n) = ap (λ hs. no_hand ∷ hs) (no_hands_are n)

-- a plain manager with other handshakes
pub works_hand : (s : ℕ) (h : Hand) (d : Desk) (r : Records Kept) (m : Manager Half) → Works d r m → Works d r (with_hand s h m)
works_hand s h d r m works = record { desk = works.desk; records = works.records; tied = works.tied }

-- a manager with other handshakes
pub handed : (s : ℕ) (h : Hand) (v : Manager Kept) (hands : List (Option Hand)) (m : Manager Half) → v.hands ≡ map hand_of hands → Represents v m → Represents (record v { hands = map hand_of (slice_set hands s (Some h)) }) (with_hand s h m)
handed s h v hands m is stands = record {
  works = works_hand s h v.desk v.records m stands.works;
  hands = hands_set hands s h ∙ ap (λ hs. slice_set hs s h) (sym is ∙ stands.hands);
  regions = stands.regions;
}

pub hand_kept : (s : ℕ) (h : Hand) (v : Manager Kept) (hands : List (Option Hand)) → v.hands ≡ map hand_of hands → (i : IsManager v) → IsFit (with_hand s h i.plain) → IsManager (record v { hands = map hand_of (slice_set hands s (Some h)) })
hand_kept s h v hands is i fit = record { plain = with_hand s h i.plain; stands = handed s h v hands i.plain is i.stands; fit = fit }
