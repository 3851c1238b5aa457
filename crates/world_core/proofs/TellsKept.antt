-- The plain snapshots on a wire stay those that an end has under way, as a post lands or completes and others are posted.
use Rattle.std.proofs.Common.{◌≡◌, ◌∙◌, ℕ, ◌+◌, List, [], ◌∷◌, ◌++◌, map, ap, sym, arith}
use Rattle.std.specs.Prelude.{Option, unwrap_or}
use Rattle.std.specs.List.{cons_option}
use Rattle.smc_num.specs.declared.Side.{Side}
use Rattle.smc_num.specs.declared.LinkId.{LinkId}
use Rattle.smc_num.specs.Names.{head}
use Rattle.pipe_model.specs.declared.snapshot.Snapshot.{Snapshot}
use Rattle.pipe_model.specs.declared.entry.Entry.{Entry}
use Rattle.pipe_model.specs.declared.sent.Sent.{Sent}
use Rattle.pipe_model.specs.declared.post.Placed.{Placed}
use Rattle.pipe_model.specs.Wires.{unlanded, uncompleted}
use Rattle.pipe_model.specs.Ends.{Half, to_land}
use Rattle.pipe_model.specs.Pipe.{sent_since}
use Rattle.pipe_model.specs.Parts.{IsMarked}
use Rattle.rc_link.specs.declared.InFlight.{InFlight}
use Rattle.rc_link.specs.Wire.{Queues, placed, landed_with}
use Rattle.world_core.specs.Wired.{cdc_under, returning, HasGone}
use Rattle.world_core.specs.WireSteps.{Stays, LandsNow, CompletesNow}
use Rattle.world_core.specs.Goings.{Going, Stayed, Lands_own, Lands_other, Completes_own, Completes_other}
use Rattle.world_core.specs.Hosts.{plains, shots, TellsPlainly, with_posts}
use Rattle.world_core.proofs.Growth.{since-more}
use Rattle.world_core.proofs.PlainWires.{plains-append, plain-none, plain-some, landed-own, landed-other, still-waits, still-returns, one-lands, one-completes}

zero-one : {n : ℕ} → n ≡ 0 → n ≡ 1 → ⊥
zero-one z o = let q : 0 ≡ 1 = sym z ∙ o in omega (arith, q)

-- the first of a queue
first-of : (c : InFlight) (others ws : List InFlight) (first : Placed) (rest : List Placed) → ws ≡ c ∷ others → map placed ws ≡ first ∷ rest → placed c ≡ first
first-of c others ws first rest is e = ap (λ ps. unwrap_or (head ps) first) (sym (ap (λ ds. map placed ds) is) ∙ e)

module _ (link : LinkId) (x : Side) (token : ℕ) (e : Entry) (past : List Entry) (h k : Half) (mark : IsMarked h) (cs : List InFlight) (plain : plains x token cs ≡ shots (sent_since h k)) (w : Queues) (tells : TellsPlainly x token w h) where
  posted : (l c : ℕ) (g : HasGone h k l c) → plains x token cs ≡ shots g.more
  posted l c g = plain ∙ ap (λ (ms : List Sent). shots ms) (since-more h k l c g)

  -- what waits, with what is posted
  with-posted : (ws : List InFlight) (l c : ℕ) (g : HasGone h k l c) → plains x token (ws ++ cs) ≡ plains x token ws ++ shots g.more
  with-posted ws l c g = plains-append x token ws cs ∙ ap (λ ss. plains x token ws ++ ss) (posted l c g)

  still-waiting : (g : HasGone h k h.landed h.completed) → plains x token (w.waiting ++ cs) ≡ shots (to_land k)
  still-waiting g = with-posted w.waiting h.landed h.completed g ∙ still-waits h k mark h.landed h.completed g (plains x token w.waiting) mark.landed_sent tells.landing

  still-landed : (g : HasGone h k h.landed h.completed) → plains x token w.landed ≡ shots (returning k)
  still-landed g = tells.completing ∙ still-returns h k mark g

  -- nothing leaves the wire
  pub tells-stays : Stays link x e past → Going link x token e past h k → TellsPlainly x token (with_posts cs w) k
  tells-stays s (Stayed q g) = record { landing = still-waiting g; completing = still-landed g }
  tells-stays s (Lands_other l n g) = absurd (zero-one s.leaves l.leaves)
  tells-stays s (Lands_own l m n g) = absurd (zero-one s.leaves l.leaves)
  tells-stays s (Completes_other l n g) = absurd (zero-one s.completes l.completes)
  tells-stays s (Completes_own l m n g o) = absurd (zero-one s.completes l.completes)

  -- the first post lands
  module _ (c : InFlight) (others : List InFlight) (is : w.waiting ≡ c ∷ others) (waiting : map placed w.waiting ≡ unlanded link x past) where
    abbrev landed_now : Queues
    landed_now = record w { waiting = others ++ cs; landed = landed_with c w.landed }

    own-post : (l : LandsNow link x e past) → c.post ≡ (l.first).post
    own-post l = ap (λ (p : Placed). p.post) (first-of c others w.waiting l.first l.rest is (waiting ∙ l.waiting))

    pub tells-lands : LandsNow link x e past → Going link x token e past h k → TellsPlainly x token landed_now k
    tells-lands r (Stayed q g) = absurd (zero-one q.leaves r.leaves)
    tells-lands r (Lands_other l n g) =
        let none = ap (λ p. cdc_under x token p) (own-post l) ∙ n in record {
          landing = with-posted others h.landed h.completed g ∙
              (ap (λ ss. ss ++ shots g.more) (sym (ap (λ ds. plains x token ds) is ∙ ap (λ (o : Option Snapshot). cons_option o (plains x token others)) (plain-none x token c none)))
              ∙ still-waits h k mark h.landed h.completed g (plains x token w.waiting) mark.landed_sent tells.landing);
          completing = landed-other x token c none w.landed ∙ still-landed g;
        }
    tells-lands r (Lands_own l m n g) =
        let some = ap (λ p. cdc_under x token p) (own-post l) ∙ n in
        let first : c.plain ∷ plains x token others ≡ shots (to_land h) = sym (ap (λ ds. plains x token ds) is ∙ ap (λ (o : Option Snapshot). cons_option o (plains x token others)) (plain-some x token c m some)) ∙ tells.landing in
        let b = one-lands h k mark g c.plain (plains x token others) first in record {
          landing = with-posted others (h.landed + 1) h.completed g ∙ b.landing;
          completing = landed-own x token c m some w.landed ∙ (ap (λ ss. ss ++ c.plain ∷ []) tells.completing ∙ b.completing);
        }
    tells-lands r (Completes_other l n g) = absurd (zero-one l.leaves r.leaves)
    tells-lands r (Completes_own l m n g o) = absurd (zero-one l.leaves r.leaves)

  -- the oldest landed post completes
  module _ (c : InFlight) (others : List InFlight) (is : w.landed ≡ c ∷ others) (landed : map placed w.landed ≡ uncompleted link x past) where
    abbrev completed_now : Queues
    completed_now = record w { waiting = w.waiting ++ cs; landed = others }

    landed-post : (l : CompletesNow link x e past) → c.post ≡ (l.first).post
    landed-post l = ap (λ (p : Placed). p.post) (first-of c others w.landed l.first l.rest is (landed ∙ l.waiting))

    pub tells-completes : CompletesNow link x e past → Going link x token e past h k → TellsPlainly x token completed_now k
    tells-completes r (Stayed q g) = absurd (zero-one q.completes r.completes)
    tells-completes r (Lands_other l n g) = absurd (zero-one l.completes r.completes)
    tells-completes r (Lands_own l m n g) = absurd (zero-one l.completes r.completes)
    tells-completes r (Completes_other l n g) =
        let none = ap (λ p. cdc_under x token p) (landed-post l) ∙ n in record {
          landing = still-waiting g;
          completing = sym (ap (λ ds. plains x token ds) is ∙ ap (λ (o : Option Snapshot). cons_option o (plains x token others)) (plain-none x token c none)) ∙ still-landed g;
        }
    tells-completes r (Completes_own l m n g o) =
        let some = ap (λ p. cdc_under x token p) (landed-post l) ∙ n in
        let first : c.plain ∷ plains x token others ≡ shots (returning h) = sym (ap (λ ds. plains x token ds) is ∙ ap (λ (p : Option Snapshot). cons_option p (plains x token others)) (plain-some x token c m some)) ∙ tells.completing in
        record {
          landing = with-posted w.waiting h.landed (h.completed + 1) g ∙ still-waits h k mark h.landed (h.completed + 1) g (plains x token w.waiting) mark.landed_sent tells.landing;
          completing = one-completes h k mark g c.plain (plains x token others) o first;
        }
