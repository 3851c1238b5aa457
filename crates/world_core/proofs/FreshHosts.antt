-- New hosts stand for an empty history.
use Rattle.world_core.specs.Hosts.{IsWireAfter}
use Rattle.std.specs.Prelude.{false, ◌≡◌, ◌≤◌, ◌<◌, ℕ, ◌^◌, zero, suc, false, List, [], ◌∷◌, length, map, replicate, None, true, Bool}
use Rattle.std.proofs.Common.{refl, sym, ap, subst, ◌∙◌, arith}
use Rattle.std.proofs.lemmas.List.{length-replicate}
use Rattle.smc_num.specs.declared.Side.{Side}
use Rattle.smc_num.specs.declared.Side.TheVariants.{A, B}
use Rattle.smc_num.specs.Names.{up_to}
use Rattle.rmb_region.specs.Regions.{Buffer, fresh}
use Rattle.pipe_model.specs.declared.setup.Setup.{Setup}
use Rattle.pipe_model.specs.declared.setup.Room.{Room}
use Rattle.pipe_model.specs.Words.{element_size, rmbs_of, elements_of}
use Rattle.pipe_model.specs.Ends.{Half}
use Rattle.pipe_model.specs.Fabric.{path_up}
use Rattle.rc_link.specs.Wire.{Queues, empty}
use Rattle.side_core.specs.Manager.{Manager, Represents, new_manager}
use Rattle.world_core.specs.declared.host.Host.{Host}
use Rattle.world_core.specs.declared.host.Outflow.{Outflow}
use Rattle.world_core.specs.Landed.{buffer_of}
use Rattle.world_core.specs.Managers.{manager_of}
use Rattle.world_core.specs.Played.{IsOneLink}
use Rattle.world_core.specs.Settings.{bad_field}
use Rattle.world_core.specs.Sending.{still, outflow_at, wire_in}
use Rattle.world_core.specs.Steps.{fresh_world}
use Rattle.world_core.specs.Hosts.{IsHostAfter, IsStreamAfter, IsWorldAfter, places_of, wire_at}
use Rattle.world_core.proofs.GoodSettings.{good, world-set}
use Rattle.world_core.proofs.NewManagers.{new-manager}
use Rattle.world_core.proofs.WiresAfter.{wire-first}

all-still : (n s : ℕ) → outflow_at s (replicate n still) ≡ still
all-still zero s = refl
all-still (suc n) zero = refl
all-still (suc n) (suc s) = all-still n s

still-is : (payload : List ℕ) (x : Side) (s : ℕ) → IsStreamAfter payload x s [] still
still-is payload x s = record { held = refl; next = record { message = refl; link = tt } }

module _ (setup : Setup) (payload : List ℕ) (one : IsOneLink setup) where
  one-rmb : (x : Side) → rmbs_of setup x ≡ 1
  one-rmb A = one.rmbs_a
  one-rmb B = one.rmbs_b

  same-buffer : (x : Side) → buffer_of setup payload x 1 [] ≡ fresh 1 (elements_of setup x) (element_size setup)
  same-buffer A = refl
  same-buffer B = refl

  regions-are : (x : Side) → map (λ rmb. fresh rmb (elements_of setup x) (element_size setup)) (up_to (rmbs_of setup x)) ≡ buffer_of setup payload x 1 [] ∷ []
  regions-are x = ap (λ n. map (λ rmb. fresh rmb (elements_of setup x) (element_size setup)) (up_to n)) (one-rmb x) ∙ ap (λ (b : Buffer). b ∷ []) (sym (same-buffer x))

  new-is : (x : Side) → new_manager x setup ≡ manager_of setup payload (buffer_of setup payload x 1 [] ∷ []) x []
  new-is x = ap (λ (bs : List Buffer). let m : Manager Half = record (new_manager x setup) { regions = bs } in m) (regions-are x) ∙ sym (new-manager setup payload x (buffer_of setup payload x 1 [] ∷ []))

  -- the wire of the one slot
  first-wire : (x : Side) (h : Host) → h.wires.items ≡ replicate setup.links (empty (places_of setup x) false) → wire_at 1 h ≡ empty (places_of setup x) false
  first-wire x h e = ap (λ (ws : List Queues). wire_in 1 ws) (e ∙ ap (λ n. replicate n (empty (places_of setup x) false)) one.links)

  pub fresh-host : (x : Side) (h : Host) → Represents h.core (new_manager x setup) → h.wires.items ≡ replicate setup.links (empty (places_of setup x) false) → h.flows.items ≡ replicate setup.sockets still → IsHostAfter setup payload x [] h
  fresh-host x h core wires flows = record {
    side = subst (λ (m : Manager Half). Represents h.core m) (new-is x) core;
    wire = subst (λ w. IsWireAfter setup payload x [] w) (sym (first-wire x h wires)) (wire-first setup payload x);
    sockets = ap length flows ∙ length-replicate setup.sockets still;
    flows = λ s few. subst (λ (f : Outflow). IsStreamAfter payload x s [] f) (sym (ap (λ (fs : List Outflow). outflow_at s fs) flows ∙ all-still setup.sockets s)) (still-is payload x s);
  }

-- a new world stands for an empty history
pub fresh-world : (setup : Setup) (payload : List ℕ) (room : Room) (a b : Host) (paths : List Bool) → paths ≡ replicate setup.links true → (history_room heard_room opened_room : ℕ) → bad_field setup room ≡ None → length payload < 2 ^ 32
    → IsHostAfter setup payload A [] a → IsHostAfter setup payload B [] b → room.entries ≤ history_room → room.bytes ≤ heard_room → room.entries ≤ opened_room
    → IsWorldAfter (fresh_world setup payload room) a b [] paths history_room heard_room opened_room
fresh-world setup payload room a b paths up history_room heard_room opened_room e few of_a of_b hr br or =
    let g = good setup room e in
    let one = g.one in record {
      hosts = record { set = world-set setup room payload e few; few = omega arith; played = refl; own = of_a; theirs = of_b };
      heard_is = refl;
      order = refl;
      paths_are = up ∙ (ap (λ n. replicate n true) one.links ∙ sym (ap (λ n. map (λ k. path_up k []) (up_to n)) one.links));
      entries = omega arith;
      bytes = omega arith;
      most_entries = g.entries;
      most_bytes = g.bytes;
      entries_fit = hr;
      bytes_fit = br;
      opened_fit = or;
    }
