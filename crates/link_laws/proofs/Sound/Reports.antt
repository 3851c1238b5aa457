-- A side loses a link, or reports it: links, groups and flows stay sound, and what was under way on another link still fits.
use Rattle.std.proofs.Common.{Bool, List, Some, false, if◌then◌else◌, refl, sym, true, ℕ, ◌==◌, ◌∙◌, ◌∷◌, ◌≡◌}
use Rattle.std.specs.Prelude.{Option}
use Rattle.pipe_model.specs.Fabric.{loses}
use Rattle.history_laws.specs.Words.{A, B, Dead, Fabric, Flow, Known, LinkId, Peer, all_dead, begins_drop, ends_group, goes_on, is_dropping, lowest_live, phase_at, reports, set_phase, stands, with_flow, with_peer, without_slot}
use Rattle.link_laws.specs.Linked.{AreLatest, AreLinked, FitsUnder, IsOwn, Under, phases}
use Rattle.link_laws.proofs.Sound.Slots.{all-link, all-none, none-stands, set-beside, set-dead, set-link}
use Rattle.link_laws.proofs.Sound.OneSide.{after-rises, loses-own, reports-own, true-not-false}
use Rattle.link_laws.proofs.Sound.Frames.{changed-a, changed-b, reflowed-a, reflowed-b, stood}
use Rattle.link_laws.proofs.Sound.Losses.{together-a, together-b, under-a, under-b}

lost-latest : (k : ℕ) (p : Peer) (latest : List Known) → AreLatest p latest → AreLatest (goes_on k (without_slot k p)) latest
lost-latest k p latest old = record { known = λ j link e. old.known j link (sym (set-link j k Dead p.table) ∙ e) }

ended-latest : (k : ℕ) (p : Peer) (latest : List Known) → AreLatest p latest → AreLatest (ends_group (without_slot k p)) latest
ended-latest k p latest old = record { known = λ j link e. old.known j link (sym (set-link j k Dead p.table) ∙ (sym (all-link j (set_phase k Dead p.table)) ∙ e)) }

same-link-flow : (k carrier : ℕ) (flow : Flow) → (begins_drop k carrier flow).link ≡ flow.link
same-link-flow k carrier flow = by (is_dropping k flow)
  where
    by : (b : Bool) → (if b then flow else record flow { drops = record { slot = k; on = carrier } ∷ flow.drops }).link ≡ flow.link
    by true = refl
    by false = refl

module _ (k : ℕ) (f : Fabric) (u : Option Under) (all : AreLinked f u) where
  gone : (l : LinkId) (p : Peer) → stands l (all_dead (set_phase k Dead p.table)) ≡ true → ⊥
  gone l p s = true-not-false (stands l (all_dead (set_phase k Dead p.table))) s (none-stands l (all_dead (set_phase k Dead p.table)) (all-none (set_phase k Dead p.table)))

  pub lost-a : AreLinked (with_peer A (loses k f.a) f) u
  lost-a = by (lowest_live (set_phase k Dead f.a.table) == 0) (loses-own A k f.a (all.own A))
    where
      carrier : ℕ
      carrier = lowest_live (set_phase k Dead f.a.table)

      fit : (w : Under) → u ≡ Some w → FitsUnder w (with_peer A (goes_on k (without_slot k f.a)) f)
      fit w is both =
          let was = stood k w.link f.a.table (after-rises A k f.a (all.own A)) both.at_a in
          under-a k (lowest_live (set_phase k Dead f.a.table)) (phases f.a) (λ j. phase_at j (set_phase k Dead f.a.table)) (λ j e. set-beside j k Dead f.a.table e) (set-dead k f.a.table)
          w.from w.link.slot w.message f.a.flow.link f.b.flow.link (phases f.b) was.0 (all.fits w is (record { at_a = was.1; at_b = both.at_b }))

      by : (b : Bool) → IsOwn A (if b then ends_group (without_slot k f.a) else goes_on k (without_slot k f.a)) → AreLinked (with_peer A (if b then ends_group (without_slot k f.a) else goes_on k (without_slot k f.a)) f) u
      by true own = changed-a (ends_group (without_slot k f.a)) f u u (ended-latest k f.a f.latest (all.latest A)) own (λ ne same. absurd (ne refl)) (λ w is both. absurd (gone w.link f.a both.at_a)) all
      by false own = changed-a (goes_on k (without_slot k f.a)) f u u (lost-latest k f.a f.latest (all.latest A)) own (λ ne same. together-a k f.a f.b (all.together ne same)) fit all

  pub lost-b : AreLinked (with_peer B (loses k f.b) f) u
  lost-b = by (lowest_live (set_phase k Dead f.b.table) == 0) (loses-own B k f.b (all.own B))
    where
      fit : (w : Under) → u ≡ Some w → FitsUnder w (with_peer B (goes_on k (without_slot k f.b)) f)
      fit w is both =
          let was = stood k w.link f.b.table (after-rises B k f.b (all.own B)) both.at_b in
          under-b k (lowest_live (set_phase k Dead f.b.table)) (phases f.b) (λ j. phase_at j (set_phase k Dead f.b.table)) (λ j e. set-beside j k Dead f.b.table e) (set-dead k f.b.table)
          w.from w.link.slot w.message f.a.flow.link f.b.flow.link (phases f.a) was.0 (all.fits w is (record { at_a = both.at_a; at_b = was.1 }))

      by : (b : Bool) → IsOwn B (if b then ends_group (without_slot k f.b) else goes_on k (without_slot k f.b)) → AreLinked (with_peer B (if b then ends_group (without_slot k f.b) else goes_on k (without_slot k f.b)) f) u
      by true own = changed-b (ends_group (without_slot k f.b)) f u u (ended-latest k f.b f.latest (all.latest B)) own (λ ne same. absurd (ne same)) (λ w is both. absurd (gone w.link f.b both.at_b)) all
      by false own = changed-b (goes_on k (without_slot k f.b)) f u u (lost-latest k f.b f.latest (all.latest B)) own (λ ne same. together-b k f.a f.b (all.together ne same)) fit all

-- of its own, with a DELETE LINK
pub reported-a : (k : ℕ) (f : Fabric) (u : Option Under) → AreLinked f u → AreLinked (with_peer A (reports k f.a) f) u
reported-a k f u all = by (loses k f.a) ((loses k f.a).group == 0) (reports-own A k f.a (all.own A)) (lost-a k f u all)
  where
    by : (q : Peer) (b : Bool) → IsOwn A (if b then q else with_flow (begins_drop k (lowest_live q.table)) q) → AreLinked (with_peer A q f) u → AreLinked (with_peer A (if b then q else with_flow (begins_drop k (lowest_live q.table)) q) f) u
    by q true own lost = lost
    by q false own lost = reflowed-a (begins_drop k (lowest_live q.table) q.flow) q.told (with_peer A q f) u (same-link-flow k (lowest_live q.table) q.flow) own lost

pub reported-b : (k : ℕ) (f : Fabric) (u : Option Under) → AreLinked f u → AreLinked (with_peer B (reports k f.b) f) u
reported-b k f u all = by (loses k f.b) ((loses k f.b).group == 0) (reports-own B k f.b (all.own B)) (lost-b k f u all)
  where
    by : (q : Peer) (b : Bool) → IsOwn B (if b then q else with_flow (begins_drop k (lowest_live q.table)) q) → AreLinked (with_peer B q f) u → AreLinked (with_peer B (if b then q else with_flow (begins_drop k (lowest_live q.table)) q) f) u
    by q true own lost = lost
    by q false own lost = reflowed-b (begins_drop k (lowest_live q.table) q.flow) q.told (with_peer B q f) u (same-link-flow k (lowest_live q.table) q.flow) own lost
