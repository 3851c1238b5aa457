-- First contact: B begins a group, A joins it and the first link is made, and B asks to confirm that link.
use Rattle.std.proofs.Common.{Bool, List, None, Some, [], ap, false, if◌then◌else◌, refl, subst, sym, true, true≢false, ℕ, ◌&&◌, ◌==◌, ◌||◌, ◌∙◌, ◌∷◌, ◌≡◌, ◌≢◌, ◌≤◌}
use Rattle.std.specs.Prelude.{Option}
use Rattle.smc_num.specs.declared.LinkPhase.TheVariants.{Live as LiveLink}
use Rattle.pipe_model.specs.Flows.{LinkSent}
use Rattle.history_laws.specs.Words.{A, Abandoned, AddSeen, AddSent, B, ConfirmLink, Dead, Fabric, FirstContact, Flow, KeysSent, Known, LinkFlow, LinkId, LinkPhase, NoFlow, Peer, Pending, Side, Unused, begins_group, fabric, is_first_contact, is_live, is_pending, link_at, makes, no_flow, peer, phase_at, put, stands, with_peer}
use Rattle.history_laws.proofs.Basics.{and-true, by-side, live-is, none-is}
use Rattle.history_laws.proofs.Tables.{put-rises}
use Rattle.history_laws.specs.Tables.{Rises}
use Rattle.link_laws.specs.Linked.{AreLatest, AreLinked, AreOf, AreTogether, Confirms, HasNone, IsOwn, StandsAtBoth, Under, flows_fit, is_confirming, is_seen, phases, slot_fits}
use Rattle.link_laws.proofs.Sound.Frames.{answered, changed-b, none-fits}
use Rattle.link_laws.proofs.Sound.OneSide.{begins-own}
use Rattle.link_laws.proofs.Sound.Slots.{put-link, stands-at}
use Rattle.link_laws.proofs.Sound.Landings.{first-not-live, standing-not-live}

-- B begins a group, in which A is not
pub begins-b : (group : ℕ) (f : Fabric) (u : Option Under) → group ≢ 0 → f.a.group ≢ group → AreLinked f u → AreLinked (with_peer B (begins_group group) f) u
begins-b group f u ne new all = changed-b (begins_group group) f u u (record { known = λ j n e. absurd (none-is n e) }) (begins-own B group ne) (λ g same. absurd (new same)) (λ w is both. absurd (true≢false (sym both.at_b))) all

put-latest : (new : Known) (ks latest : List Known) → ((j : ℕ) (n : LinkId) → link_at j ks ≡ Some n → link_at j latest ≡ Some n) → (j : ℕ) (n : LinkId) → link_at j (put new ks) ≡ Some n → link_at j (put new latest) ≡ Some n
put-latest new ks latest old j n e = put-link j new latest ∙ by (new.link.slot == j) (old j n) (sym (put-link j new ks) ∙ e)
  where
    by : (b : Bool) → (link_at j ks ≡ Some n → link_at j latest ≡ Some n) → (if b then Some new.link else link_at j ks) ≡ Some n → (if b then Some new.link else link_at j latest) ≡ Some n
    by true old e = e
    by false old e = old e

alike : (flow : LinkFlow) (k : ℕ) (p : LinkPhase) → slot_fits flow k p p ≡ true
alike flow k Unused = refl
alike flow k Pending = refl
alike flow k LiveLink = refl
alike flow k Dead = refl

-- A joins it
module _ (link : LinkId) (f : Fabric) (u : Option Under) (all : AreLinked f u) (ne : link.group ≢ 0) (one : 1 ≤ link.slot) (b_group : f.b.group ≡ link.group) (b_flow : f.b.flow ≡ record no_flow { link = FirstContact }) (b_table : f.b.table ≡ []) where
  abbrev new : Known
  new = record { link = link; phase = Pending }

  abbrev after : Fabric
  after = makes link (with_peer A (begins_group link.group) f)

  table : put new f.b.table ≡ new ∷ []
  table = ap (λ ks. put new ks) b_table

  same-tables : AreTogether after.a after.b
  same-tables = record {
    same = λ j. ap (λ ks. link_at j ks) (sym table);
    slots = λ j. ap (λ ks. slot_fits f.b.flow.link j (phase_at j (new ∷ [])) (phase_at j ks)) table ∙ alike f.b.flow.link j (phase_at j (new ∷ []));
    first = λ e. ap (λ (f : Flow). is_first_contact f.link) b_flow;
    flows = ap (λ (fl : Flow). flows_fit FirstContact fl.link (λ j. phase_at j (new ∷ []))) b_flow;
  }

  pub joins : AreLinked after None
  joins = record {
    latest_rises = put-rises 1 new f.latest one all.latest_rises;
    latest = by-side (λ x. AreLatest (peer x after) (put new f.latest)) (record { known = put-latest new [] f.latest (λ j n e. absurd (none-is n e)) }) (let old : AreLatest f.b f.latest = all.latest B in record { known = put-latest new f.b.table f.latest old.known });
    own = by-side (λ x. IsOwn x (peer x after))
        (record { rises = (one, tt); owned = λ g. (refl, tt); sound = Confirms link ne refl refl })
        (record { rises = subst (λ ks. Rises 1 ks) (sym table) (one, tt); owned = λ g. subst (λ ks. AreOf f.b.group ks) (sym table) (sym b_group, tt); sound = Confirms link (λ e. ne (sym b_group ∙ e)) b_flow table });
    together = λ g same. same-tables;
    fits = none-fits after;
  }

-- B asks to confirm the link; A is in first contact, if the link stands there
pub asks-first : (f : Fabric) (u : Option Under) (l : LinkId) (mac gid : List ℕ) (qp j user most : ℕ) → AreLinked f u → is_first_contact f.b.flow.link ≡ true → (StandsAtBoth l f → is_first_contact f.a.flow.link ≡ true) → AreLinked f (Some (record { from = B; link = l; message = ConfirmLink false mac gid qp j user most }))
asks-first f u l mac gid qp j user most all first_b first_a = answered f u (record { from = B; link = l; message = ConfirmLink false mac gid qp j user most }) fit all
  where
    confirming : (flow : LinkFlow) → is_first_contact flow ≡ true → is_confirming l.slot flow ≡ true
    confirming FirstContact e = refl
    confirming NoFlow e = absurd (true≢false (sym e))
    confirming (AddSent i on) e = absurd (true≢false (sym e))
    confirming (KeysSent i on) e = absurd (true≢false (sym e))
    confirming (LinkSent i) e = absurd (true≢false (sym e))
    confirming (Abandoned on) e = absurd (true≢false (sym e))
    confirming (AddSeen i) e = absurd (true≢false (sym e))

    pending : (x : Side) (p : Peer) → IsOwn x p → is_first_contact p.flow.link ≡ true → stands l p.table ≡ true → is_pending (phases p l.slot) ≡ true
    pending x p own first st = by (is_live (phases p l.slot)) refl
      where
        by : (b : Bool) → is_live (phases p l.slot) ≡ b → is_pending (phases p l.slot) ≡ true
        by true e = absurd (first-not-live x p l.slot own.sound first (live-is (phases p l.slot) e))
        by false e = let s = stands-at 1 l p.table own.rises st in standing-not-live (phases p l.slot) s.2 e

    fit : StandsAtBoth l f → (is_confirming l.slot f.b.flow.link && ((is_first_contact f.a.flow.link || is_seen l.slot f.a.flow.link) && (is_pending (phases f.a l.slot) && is_pending (phases f.b l.slot)))) ≡ true
    fit both = and-true (is_confirming l.slot f.b.flow.link) _ (confirming f.b.flow.link first_b) (and-true (is_first_contact f.a.flow.link || is_seen l.slot f.a.flow.link) _ (ap (λ b. b || is_seen l.slot f.a.flow.link) (first_a both)) (and-true (is_pending (phases f.a l.slot)) (is_pending (phases f.b l.slot)) (pending A f.a (all.own A) (first_a both) both.at_a) (pending B f.b (all.own B) first_b both.at_b)))

-- before anything has happened
pub at-first : AreLinked (fabric []) None
at-first = record {
  latest_rises = tt;
  latest = by-side (λ x. AreLatest (peer x (fabric [])) []) (record { known = λ j n e. absurd (none-is n e) }) (record { known = λ j n e. absurd (none-is n e) });
  own = by-side (λ x. IsOwn x (peer x (fabric []))) (record { rises = tt; owned = λ g. absurd (g refl); sound = HasNone refl refl tt }) (record { rises = tt; owned = λ g. absurd (g refl); sound = HasNone refl refl tt });
  together = λ ne same. absurd (ne refl);
  fits = none-fits (fabric []);
}
