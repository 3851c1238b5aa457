-- At every side, after every list of entries, the links that are known have rising slots: no two on one. So a table that stays as it is gives no fate.
use Rattle.std.proofs.Common.{Bool, List, [], ap, arith, cond, eq-eqb, false, if◌then◌else◌, map, not, refl, subst, sym, true, ℕ, ◌&&◌, ◌+◌, ◌<◌, ◌==◌, ◌∙◌, ◌∷◌, ◌≡◌, ◌≤◌}
use Rattle.std.specs.Prelude.{None, Option, Some, filter_map, find, nat_lt, option_map, unwrap_or}
use Rattle.std.proofs.lemmas.Bool.{eqb-false, eqb-true, ltb-false, ltb-true, ne_eqb}
use Rattle.pipe_model.specs.Fabric.{acts, after, begins, by_post, lands, loses}
use Rattle.pipe_model.specs.declared.flow.FlowStep.TheVariants.{Live}
use Rattle.smc_num.specs.declared.LinkPhase.TheVariants.{Live as LiveLink}
use Rattle.pipe_model.specs.declared.post.Post.TheVariants.{Clc}
use Rattle.clc_wire.specs.declared.message.ClcMessage.TheVariants.{Accept as AcceptMessage, Confirm as ConfirmMessage}
use Rattle.pipe_model.specs.declared.event.Event.TheVariants.{Clc as ClcEvent}
use Rattle.pipe_model.specs.declared.reply.Reply.TheVariants.{Sent}
use Rattle.pipe_model.specs.declared.reply.SentKind.TheVariants.{Accept as AcceptSent, AddLink as AddLinkSent, Confirm as ConfirmSent, DeleteRkey as DeleteSent, ConfirmRkey as KeySent, TestLink as TestSent}
use Rattle.std.specs.List.{cons_option}
use Rattle.history_laws.specs.Words.{A, AddLink, B, ConfirmRkey, Dead, Deliver, Done, Entry, Event, Fabric, Fate, FlowStep, Gone, GroupEnded, Grow, Item, Known, Landed, LinkId, LinkPhase, Llc, LlcMessage, Peer, Pending, Post, Reply, ReplyAdd, Report, Side, Test, Trim, Unused, asks_delete, asks_key, asks_link, begins_drop, begins_group, dead, ends_group, fabric, fate_of, goes_on, is_fate, llc_step, lowest_live, makes, named_slot, other, peer, phase_of, post_at, put, reports, same_link, same_phase, set_phase, table_of, with_flow, with_peer, with_phase, without_slot}
use Rattle.history_laws.specs.Tables.{Rises}
use Rattle.history_laws.proofs.Basics.{and-false, by-side}

pub put-rises : (low : ℕ) (new : Known) (ks : List Known) → low ≤ new.link.slot → Rises low ks → Rises low (put new ks)
put-rises low new [] o r = (o, tt)
put-rises low new (k ∷ ks) o r = by (new.link.slot == k.link.slot) (nat_lt new.link.slot k.link.slot) refl refl (λ h. put-rises (k.link.slot + 1) new ks h r.1)
  where
    by : (b c : Bool) → (new.link.slot == k.link.slot) ≡ b → nat_lt new.link.slot k.link.slot ≡ c → (k.link.slot + 1 ≤ new.link.slot → Rises (k.link.slot + 1) (put new ks)) → Rises low (if b then new ∷ ks else if c then new ∷ k ∷ ks else k ∷ put new ks)
    by true c e f rest = let same : new.link.slot ≡ k.link.slot = eqb-true new.link.slot k.link.slot e in (o, subst (λ n. Rises (n + 1) ks) (sym same) r.1)
    by false true e f rest = (o, (omega (arith, ltb-true new.link.slot k.link.slot f), r.1))
    by false false e f rest = (r.0, rest (omega (arith, ltb-false new.link.slot k.link.slot f, eqb-false new.link.slot k.link.slot e)))

pub map-rises : (f : Known → Known) → ((k : Known) → (f k).link ≡ k.link) → (low : ℕ) (ks : List Known) → Rises low ks → Rises low (map f ks)
map-rises f same low [] r = tt
map-rises f same low (k ∷ ks) r = (rw (same k) r.0, rw (same k) (map-rises f same (k.link.slot + 1) ks r.1))

phase-link : (j : ℕ) (phase : LinkPhase) (k : Known) → (with_phase j phase k).link ≡ k.link
phase-link j phase k = by (k.link.slot == j)
  where
    by : (b : Bool) → (if b then record k { phase = phase } else k).link ≡ k.link
    by true = refl
    by false = refl

-- all three tables of a fabric
pub record AllRise (f : Fabric) : Type 0 where
  pub latest_rises : Rises 0 f.latest
  pub of : (x : Side) → Rises 0 (peer x f).table

with-one : (x : Side) (p : Peer) (f : Fabric) → Rises 0 p.table → AllRise f → AllRise (with_peer x p f)
with-one A p f r all = record { latest_rises = all.latest_rises; of = by-side (λ y. Rises 0 (peer y (with_peer A p f)).table) r (all.of B) }
with-one B p f r all = record { latest_rises = all.latest_rises; of = by-side (λ y. Rises 0 (peer y (with_peer B p f)).table) (all.of A) r }

made-rise : (link : LinkId) (f : Fabric) → AllRise f → AllRise (makes link f)
made-rise link f all = record {
  latest_rises = put-rises 0 (record { link = link; phase = Pending }) f.latest (omega arith) all.latest_rises;
  of = by-side (λ y. Rises 0 (peer y (makes link f)).table) (put-rises 0 (record { link = link; phase = Pending }) f.a.table (omega arith) (all.of A)) (put-rises 0 (record { link = link; phase = Pending }) f.b.table (omega arith) (all.of B));
}

lost-rises : (k : ℕ) (p : Peer) → Rises 0 p.table → Rises 0 (loses k p).table
lost-rises k p r = by (lowest_live (without_slot k p).table == 0)
  where
    set : Rises 0 (set_phase k Dead p.table)
    set = map-rises (with_phase k Dead) (phase-link k Dead) 0 p.table r

    by : (b : Bool) → Rises 0 (if b then ends_group (without_slot k p) else goes_on k (without_slot k p)).table
    by true = map-rises dead (λ k. refl) 0 (set_phase k Dead p.table) set
    by false = set

reported-rises : (k : ℕ) (p : Peer) → Rises 0 p.table → Rises 0 (reports k p).table
reported-rises k p r = by ((loses k p).group == 0)
  where
    by : (b : Bool) → Rises 0 (if b then loses k p else with_flow (begins_drop k (lowest_live (loses k p).table)) (loses k p)).table
    by true = lost-rises k p r
    by false = lost-rises k p r

acted-rise : (x : Side) (link : LinkId) (m : LlcMessage) (step : FlowStep) (f : Fabric) → AllRise f → AllRise (acts x link m step f)
acted-rise x link m (Live reply first) f all = with-one x _ f (map-rises (with_phase link.slot LiveLink) (phase-link link.slot LiveLink) 0 (peer x f).table (all.of x)) all
acted-rise x link m (ReplyAdd false) f all = made-rise _ f all
acted-rise x link m (Gone true) f all = with-one x _ f (lost-rises (named_slot m link.slot) (peer x f) (all.of x)) all
acted-rise x link m _ f all = all

landed-rise : (p : Option Post) (x : Side) (past : List Entry) (f : Fabric) → AllRise f → AllRise (lands p x past f)
landed-rise (Some (Llc from link m)) x past f all = acted-rise x link m (llc_step x link m past f) _ (with-one x _ f (all.of x) all)
landed-rise _ x past f all = all

begun-rise : (posts : List Post) (f : Fabric) → AllRise f → AllRise (by_post begins posts f)
begun-rise [] f all = all
begun-rise (Clc B s (Some link) (AcceptMessage o) ∷ posts) f all = by o.first
  where
    by : (b : Bool) → AllRise (if b then with_peer B (begins_group link.group) f else f)
    by true = with-one B (begins_group link.group) f tt all
    by false = all
begun-rise (Clc A s (Some link) (ConfirmMessage o) ∷ posts) f all = by o.first
  where
    by : (b : Bool) → AllRise (if b then makes link (with_peer A (begins_group link.group) f) else f)
    by true = made-rise link (with_peer A (begins_group link.group) f) (with-one A (begins_group link.group) f tt all)
    by false = all
begun-rise (p ∷ posts) f all = all

asked-key : (x : Side) (posts : List Post) (f : Fabric) → AllRise f → AllRise (by_post (asks_key x) posts f)
asked-key x [] f all = all
asked-key x (Llc from link (ConfirmRkey reply retry negative others tokens) ∷ posts) f all = with-one x _ f (all.of x) all
asked-key x (p ∷ posts) f all = all

asked-link : (posts : List Post) (f : Fabric) → AllRise f → AllRise (by_post asks_link posts f)
asked-link [] f all = all
asked-link (Llc from link (AddLink reply rejected reason mac gid qp k mtu psn) ∷ posts) f all = with-one B _ f (all.of B) all
asked-link (p ∷ posts) f all = all

asked-delete : (x : Side) (posts : List Post) (f : Fabric) → AllRise f → AllRise (by_post (asks_delete x) posts f)
asked-delete x [] f all = all
asked-delete x (Llc from link m ∷ posts) f all = with-one x _ f (all.of x) all
asked-delete x (p ∷ posts) f all = all

-- whatever an entry does
after-rise : (event : Event) (reply : Reply) (posts : List Post) (past : List Entry) (f : Fabric) → AllRise f → AllRise (after event reply posts past f)
after-rise (ClcEvent s dir) (Sent AcceptSent) posts past f all = begun-rise posts f all
after-rise (ClcEvent s dir) (Sent ConfirmSent) posts past f all = begun-rise posts f all
after-rise (ClcEvent s dir) (Sent KeySent) posts past f all = asked-key (other dir) posts f all
after-rise (Deliver slot dir) (Landed at) posts past f all = landed-rise (post_at at past) (other dir) past f all
after-rise (Report x slot) Done posts past f all = with-one x _ f (reported-rises slot (peer x f) (all.of x)) all
after-rise (Report x slot) (GroupEnded group) posts past f all = with-one x _ f (reported-rises slot (peer x f) (all.of x)) all
after-rise Grow (Sent AddLinkSent) posts past f all = asked-link posts f all
after-rise (Test x slot) (Sent TestSent) posts past f all = with-one x _ f (all.of x) all
after-rise (Trim x) (Sent DeleteSent) posts past f all = asked-delete x posts f all
after-rise _ _ posts past f all = all

pub all-rise : (past : List Entry) → AllRise (fabric past)
all-rise [] = record { latest_rises = tt; of = by-side (λ y. Rises 0 (peer y (fabric [])).table) tt tt }
all-rise (e ∷ older) = after-rise e.event e.reply e.posts older (fabric older) (all-rise older)

-- a table that stays as it is gives no fate
module _ (x : Side) (g : ℕ) where
  skips : (k : Known) (table ks : List Known) (low : ℕ) → k.link.slot < low → Rises low ks → filter_map (fate_of x g (k ∷ table)) ks ≡ filter_map (fate_of x g table) ks
  skips k table [] low o r = refl
  skips k table (j ∷ ks) low o r =
      ap (λ phase. cons_option (if (j.link.group == g) && (is_fate j.phase && not (same_phase j.phase phase)) then Some (Fate x j.link j.phase) else None) (filter_map (fate_of x g (k ∷ table)) ks)) elsewhere
      ∙ ap (λ (is : List Item). cons_option (fate_of x g table j) is) (skips k table ks (j.link.slot + 1) (omega (arith, o, r.0)) r.1)
    where
      apart : same_link j.link k.link ≡ false
      apart = ap (λ b. (j.link.group == k.link.group) && (b && (j.link.incarnation == k.link.incarnation))) (ne_eqb j.link.slot k.link.slot (λ h. omega (arith, h, o, r.0))) ∙ and-false (j.link.group == k.link.group)

      elsewhere : phase_of j.link (k ∷ table) ≡ phase_of j.link table
      elsewhere = ap (λ b. unwrap_or (option_map (λ (n : Known). n.phase) (cond b (Some k) (find (λ n. same_link j.link n.link) table))) Unused) apart

  pub settled : (low : ℕ) (table : List Known) → Rises low table → filter_map (fate_of x g table) table ≡ []
  settled low [] r = refl
  settled low (k ∷ ks) r =
      ap (λ phase. cons_option (if (k.link.group == g) && (is_fate k.phase && not (same_phase k.phase phase)) then Some (Fate x k.link k.phase) else None) (filter_map (fate_of x g (k ∷ ks)) ks)) here
      ∙ (ap (λ b. cons_option (if (k.link.group == g) && (is_fate k.phase && not b) then Some (Fate x k.link k.phase) else None) (filter_map (fate_of x g (k ∷ ks)) ks)) (alike k.phase)
      ∙ (ap (λ b. cons_option (if b then Some (Fate x k.link k.phase) else None) (filter_map (fate_of x g (k ∷ ks)) ks)) (never (k.link.group == g) (is_fate k.phase))
      ∙ (skips k ks ks (k.link.slot + 1) (omega arith) r.1 ∙ settled (k.link.slot + 1) ks r.1)))
    where
      itself : same_link k.link k.link ≡ true
      itself = rw (eq-eqb k.link.group k.link.group refl) (rw (eq-eqb k.link.slot k.link.slot refl) (eq-eqb k.link.incarnation k.link.incarnation refl))

      here : phase_of k.link (k ∷ ks) ≡ k.phase
      here = ap (λ b. unwrap_or (option_map (λ (n : Known). n.phase) (cond b (Some k) (find (λ n. same_link k.link n.link) ks))) Unused) itself

      alike : (p : LinkPhase) → same_phase p p ≡ true
      alike Unused = refl
      alike Pending = refl
      alike LiveLink = refl
      alike Dead = refl

      never : (a b : Bool) → (a && (b && false)) ≡ false
      never true true = refl
      never true false = refl
      never false b = refl

-- of every history
pub no-news : (x : Side) (g : ℕ) (past : List Entry) → filter_map (fate_of x g (table_of x past)) (table_of x past) ≡ []
no-news x g past = settled x g 0 (table_of x past) (let all = all-rise past in all.of x)
