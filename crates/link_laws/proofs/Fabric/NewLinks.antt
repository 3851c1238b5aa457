-- After any entry: links that stand newly are new, incarnations do not fall, and groups stay, end or begin.
use Rattle.std.proofs.Common.{Bool, List, Some, [], ap, arith, eqb-true, false, if◌then◌else◌, inl, inr, refl, subst, sym, true, true≢false, ℕ, ◌+◌, ◌<◌, ◌==◌, ◌∙◌, ◌∷◌, ◌≡◌, ◌≤◌, ◌⊎◌}
use Rattle.std.specs.Prelude.{unwrap_or}
use Rattle.pipe_model.specs.Fabric.{does, loses}
use Rattle.smc_num.specs.declared.LinkPhase.TheVariants.{Live as LiveLink}
use Rattle.pipe_model.specs.declared.flow.FlowStep.TheVariants.{Answered, Confirmed, Live}
use Rattle.history_laws.specs.Words.{A, Act, AskLink, B, Dead, Echo, Entry, Fabric, FlowStep, Forget, Gone, Known, Learn, LinkId, LlcMessage, Offer, Over, Peer, Pending, Reject, ReplyAdd, ReplyKeys, ReplyRetry, Retry, SendKeys, Side, Skip, Withdraw, act_in, all_dead, begins_drop, begins_group, ends_group, fabric, goes_on, link_at, llc_step, lowest_live, made_on, makes, named_slot, no_link, peer, put, reports, set_phase, stands, table_of, with_flow, with_peer, without_slot}
use Rattle.history_laws.specs.Tables.{Rises}
use Rattle.history_laws.proofs.Tables.{map-rises}
use Rattle.history_laws.proofs.Basics.{some-is}
use Rattle.link_laws.specs.Moves.{Moves, OwedByMoves}
use Rattle.link_laws.specs.Learnt.{BeginsFirst}
use Rattle.link_laws.proofs.Sound.{all-none, live-stands, none-stands, phase-link, put-link, put-stands, set-link, stands-at, stood}
use Rattle.link_laws.specs.FabricChanges.{OffersFirst}
use Rattle.link_laws.proofs.Fabric.Entries.{fabric-after}

module _ (e : Entry) (past : List Entry) (owed : OwedByMoves e past) where
  abbrev f : Fabric
  f = fabric past

  -- one side changes, and nothing stands newly there
  alone : (x : Side) (p : Peer) → ((l : LinkId) → stands l p.table ≡ true → stands l (peer x f).table ≡ true) → ((p.group ≡ (peer x f).group) ⊎ ((p.group ≡ 0) ⊎ BeginsFirst x e)) → Moves e f (with_peer x p f)
  alone A p st gr = record { fresh = fr; made = λ j. omega arith; groups = go }
    where
      fr : (z : Side) (l : LinkId) → stands l (peer z (with_peer A p f)).table ≡ true → (stands l (peer z f).table ≡ true) ⊎ (made_on l.slot f < l.incarnation)
      fr A l s = inl (st l s)
      fr B l s = inl s

      go : (z : Side) → ((peer z (with_peer A p f)).group ≡ (peer z f).group) ⊎ (((peer z (with_peer A p f)).group ≡ 0) ⊎ BeginsFirst z e)
      go A = gr
      go B = inl refl
  alone B p st gr = record { fresh = fr; made = λ j. omega arith; groups = go }
    where
      fr : (z : Side) (l : LinkId) → stands l (peer z (with_peer B p f)).table ≡ true → (stands l (peer z f).table ≡ true) ⊎ (made_on l.slot f < l.incarnation)
      fr A l s = inl s
      fr B l s = inl (st l s)

      go : (z : Side) → ((peer z (with_peer B p f)).group ≡ (peer z f).group) ⊎ (((peer z (with_peer B p f)).group ≡ 0) ⊎ BeginsFirst z e)
      go A = inl refl
      go B = gr

  -- a link is made
  puts : (link : LinkId) → link.incarnation ≡ made_on link.slot f + 1 → (j : ℕ) → made_on j f ≤ (unwrap_or (link_at j (put (record { link = link; phase = Pending }) f.latest)) no_link).incarnation
  puts link next j = subst (λ o. made_on j f ≤ (unwrap_or o no_link).incarnation) (sym (put-link j (record { link = link; phase = Pending }) f.latest)) (by (link.slot == j) refl)
    where
      by : (b : Bool) → (link.slot == j) ≡ b → made_on j f ≤ (unwrap_or (if b then Some link else link_at j f.latest) no_link).incarnation
      by true q = subst (λ i. made_on i f ≤ link.incarnation) (eqb-true link.slot j q) (omega (arith, next))
      by false q = omega arith

  new-stands : (link l : LinkId) (ks : List Known) → link.incarnation ≡ made_on link.slot f + 1 → stands l (put (record { link = link; phase = Pending }) ks) ≡ true → (stands l ks ≡ true) ⊎ (made_on l.slot f < l.incarnation)
  new-stands link l ks next s = elim (put-stands l (record { link = link; phase = Pending }) ks s) [
    | inl same ↦ inr (subst (λ (m : LinkId). made_on m.slot f < m.incarnation) (sym same) (omega (arith, next)))
    | inr h ↦ inl h
  ]

  makes-moves : (link : LinkId) (p q : Peer) → link.incarnation ≡ made_on link.slot f + 1 → p.table ≡ f.a.table → q.table ≡ f.b.table → p.group ≡ f.a.group → q.group ≡ f.b.group → Moves e f (makes link (record f { a = p; b = q }))
  makes-moves link p q next pt qt pg qg = record { fresh = fr; made = puts link next; groups = go }
    where
      fr : (z : Side) (l : LinkId) → stands l (peer z (makes link (record f { a = p; b = q }))).table ≡ true → (stands l (peer z f).table ≡ true) ⊎ (made_on l.slot f < l.incarnation)
      fr A l s = new-stands link l f.a.table next (ap (λ t. stands l (put (record { link = link; phase = Pending }) t)) (sym pt) ∙ s)
      fr B l s = new-stands link l f.b.table next (ap (λ t. stands l (put (record { link = link; phase = Pending }) t)) (sym qt) ∙ s)

      go : (z : Side) → ((peer z (makes link (record f { a = p; b = q }))).group ≡ (peer z f).group) ⊎ (((peer z (makes link (record f { a = p; b = q }))).group ≡ 0) ⊎ BeginsFirst z e)
      go A = inl pg
      go B = inl qg

  begun-a : (link : LinkId) (o : Offer) → OffersFirst A e link o → Moves e f (makes link (with_peer A (begins_group link.group) f))
  begun-a link o it = record { fresh = fr; made = puts link (owed.next link o it); groups = go }
    where
      fr : (z : Side) (l : LinkId) → stands l (peer z (makes link (with_peer A (begins_group link.group) f))).table ≡ true → (stands l (peer z f).table ≡ true) ⊎ (made_on l.slot f < l.incarnation)
      fr A l s = elim (new-stands link l [] (owed.next link o it) s) [ inl h ↦ absurd (true≢false (sym h)) | inr h ↦ inr h ]
      fr B l s = new-stands link l f.b.table (owed.next link o it) s

      go : (z : Side) → ((peer z (makes link (with_peer A (begins_group link.group) f))).group ≡ (peer z f).group) ⊎ (((peer z (makes link (with_peer A (begins_group link.group) f))).group ≡ 0) ⊎ BeginsFirst z e)
      go A = inr (inr (record { link = link; offer = o; offers = it }))
      go B = inl refl

  -- the loss of a slot
  loses-stands : (k : ℕ) (p : Peer) (l : LinkId) → Rises 1 p.table → stands l (loses k p).table ≡ true → stands l p.table ≡ true
  loses-stands k p l r s = by (lowest_live (set_phase k Dead p.table) == 0) s
    where
      by : (b : Bool) → stands l (if b then ends_group (without_slot k p) else goes_on k (without_slot k p)).table ≡ true → stands l p.table ≡ true
      by true t = absurd (true≢false (sym t ∙ none-stands l (all_dead (set_phase k Dead p.table)) (all-none (set_phase k Dead p.table))))
      by false t = (stood k l p.table (map-rises _ (phase-link k Dead) 1 p.table r) t).1

  loses-group : (k : ℕ) (p : Peer) → ((loses k p).group ≡ p.group) ⊎ ((loses k p).group ≡ 0)
  loses-group k p = by (lowest_live (set_phase k Dead p.table) == 0)
    where
      by : (b : Bool) → ((if b then ends_group (without_slot k p) else goes_on k (without_slot k p)).group ≡ p.group) ⊎ ((if b then ends_group (without_slot k p) else goes_on k (without_slot k p)).group ≡ 0)
      by true = inr refl
      by false = inl refl

  goes : (x : Side) (n m : ℕ) → (n ≡ m) ⊎ (n ≡ 0) → (n ≡ m) ⊎ ((n ≡ 0) ⊎ BeginsFirst x e)
  goes x n m (inl h) = inl h
  goes x n m (inr h) = inr (inl h)

  loses-moves : (x : Side) (k : ℕ) (p : Peer) → p.table ≡ (peer x f).table → p.group ≡ (peer x f).group → Moves e f (with_peer x (loses k p) f)
  loses-moves x k p t g = alone x (loses k p)
      (λ l s. ap (λ ks. stands l ks) (sym t) ∙ loses-stands k p l (subst (λ ks. Rises 1 ks) (sym t) (owed.rises x)) s)
      (goes x (loses k p).group (peer x f).group (elim (loses-group k p) [ inl h ↦ inl (h ∙ g) | inr h ↦ inr h ]))

  reported : (x : Side) (k : ℕ) → Moves e f (with_peer x (reports k (peer x f)) f)
  reported x k = by ((loses k (peer x f)).group == 0)
    where
      by : (b : Bool) → Moves e f (with_peer x (if b then loses k (peer x f) else with_flow (begins_drop k (lowest_live (loses k (peer x f)).table)) (loses k (peer x f))) f)
      by true = loses-moves x k (peer x f) refl refl
      by false = alone x _ (λ l s. loses-stands k (peer x f) l (owed.rises x) s) (goes x (loses k (peer x f)).group (peer x f).group (loses-group k (peer x f)))

  -- flows alone
  flows : (x : Side) (p : Peer) → p.table ≡ (peer x f).table → p.group ≡ (peer x f).group → Moves e f (with_peer x p f)
  flows x p t g = alone x p (λ l s. ap (λ ks. stands l ks) (sym t) ∙ s) (inl g)

  -- a link goes live
  live : (x : Side) (l0 : LinkId) → stands l0 (table_of x past) ≡ true → (l : LinkId) → stands l (set_phase l0.slot LiveLink (table_of x past)) ≡ true → stands l (table_of x past) ≡ true
  live x l0 s0 l s = elim (live-stands l l0.slot (table_of x past) s) [
    | inl h ↦ h
    | inr same ↦ (
        let at = (stands-at 1 l (set_phase l0.slot LiveLink (table_of x past)) (map-rises _ (phase-link l0.slot LiveLink) 1 (table_of x past) (owed.rises x)) s).1 in
        let at0 = (stands-at 1 l0 (table_of x past) (owed.rises x) s0).1 in
        let one : l0 ≡ l = some-is l0 l (sym at0 ∙ (ap (λ j. link_at j (table_of x past)) (sym same) ∙ (sym (set-link l.slot l0.slot LiveLink (table_of x past)) ∙ at))) in
        subst (λ m. stands m (table_of x past) ≡ true) one s0)
  ]

  taken-a : (l : LinkId) (m : LlcMessage) (step : FlowStep) → act_in A e past ≡ Some (record { link = l; message = m; step = step }) → Moves e f (does A l m step f)
  taken-a l m (Live reply first) is = alone A _ (live A l (owed.lives A reply first (record { act = record { link = l; message = m; step = Live reply first }; is = is; does = refl }))) (inl refl)
  taken-a l m (ReplyAdd false) is = makes-moves _ _ f.b refl refl refl refl refl
  taken-a l m (Gone true) is = loses-moves A (named_slot m l.slot) _ refl refl
  taken-a l m Skip is = flows A _ refl refl
  taken-a l m SendKeys is = flows A _ refl refl
  taken-a l m Over is = flows A _ refl refl
  taken-a l m AskLink is = flows A _ refl refl
  taken-a l m (ReplyKeys known) is = flows A _ refl refl
  taken-a l m (ReplyAdd true) is = flows A _ refl refl
  taken-a l m Reject is = flows A _ refl refl
  taken-a l m Confirmed is = flows A _ refl refl
  taken-a l m Retry is = flows A _ refl refl
  taken-a l m Withdraw is = flows A _ refl refl
  taken-a l m ReplyRetry is = flows A _ refl refl
  taken-a l m Learn is = flows A _ refl refl
  taken-a l m Forget is = flows A _ refl refl
  taken-a l m (Gone false) is = flows A _ refl refl
  taken-a l m Answered is = flows A _ refl refl
  taken-a l m Echo is = flows A _ refl refl

  taken-b : (l : LinkId) (m : LlcMessage) (step : FlowStep) → act_in B e past ≡ Some (record { link = l; message = m; step = step }) → Moves e f (does B l m step f)
  taken-b l m (Live reply first) is = alone B _ (live B l (owed.lives B reply first (record { act = record { link = l; message = m; step = Live reply first }; is = is; does = refl }))) (inl refl)
  taken-b l m (ReplyAdd false) is = makes-moves _ f.a _ refl refl refl refl refl
  taken-b l m (Gone true) is = loses-moves B (named_slot m l.slot) _ refl refl
  taken-b l m Skip is = flows B _ refl refl
  taken-b l m SendKeys is = flows B _ refl refl
  taken-b l m Over is = flows B _ refl refl
  taken-b l m AskLink is = flows B _ refl refl
  taken-b l m (ReplyKeys known) is = flows B _ refl refl
  taken-b l m (ReplyAdd true) is = flows B _ refl refl
  taken-b l m Reject is = flows B _ refl refl
  taken-b l m Confirmed is = flows B _ refl refl
  taken-b l m Retry is = flows B _ refl refl
  taken-b l m Withdraw is = flows B _ refl refl
  taken-b l m ReplyRetry is = flows B _ refl refl
  taken-b l m Learn is = flows B _ refl refl
  taken-b l m Forget is = flows B _ refl refl
  taken-b l m (Gone false) is = flows B _ refl refl
  taken-b l m Answered is = flows B _ refl refl
  taken-b l m Echo is = flows B _ refl refl

  taken : (x : Side) (act : Act) → act_in x e past ≡ Some act → act.step ≡ llc_step x act.link act.message past f → Moves e f (does x act.link act.message act.step f)
  taken A act is by = taken-a act.link act.message act.step is
  taken B act is by = taken-b act.link act.message act.step is

  begun-b : (link : LinkId) (o : Offer) → OffersFirst B e link o → Moves e f (with_peer B (begins_group link.group) f)
  begun-b link o it = alone B (begins_group link.group) (λ l s. absurd (true≢false (sym s))) (inr (inr (record { link = link; offer = o; offers = it })))

  was : Moves e f f
  was = record { fresh = λ z l s. inl s; made = λ j. omega arith; groups = λ z. inl refl }

  -- after any entry
  pub moves : Moves e f (fabric (e ∷ past))
  moves = fabric-after e past (λ g. Moves e f g) (record {
    was = was;
    begun_b = λ link o it n. begun-b link o it;
    begun_a = λ link o it n. begun-a link o it;
    asked = λ x flow told r. flows x (record (peer x f) { flow = flow; told = told }) refl refl;
    taken = taken;
    reported = reported;
  })
