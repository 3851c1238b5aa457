-- What an entry gives a connection, item by item: what stands below its deeds, and which event an abort or a landing is of.
use Rattle.std.proofs.Common.{Bool, List, [], ap, eqb-true, false, filter_map, if◌then◌else◌, inl, inr, not, refl, reverse, subst, true, ℕ, ◌&&◌, ◌++◌, ◌==◌, ◌∙◌, ◌∷◌, ◌≡◌, ◌⊎◌}
use Rattle.std.proofs.lemmas.List.{reverse-append}
use Rattle.std.specs.List.{cons_option}
use Rattle.std.specs.Option.{option_or}
use Rattle.std.specs.Prelude.{None, Option, Some, option_and_then, option_map, option_to_list}
use Rattle.pipe_model.specs.Calls.{Moves}
use Rattle.pipe_model.specs.Connections.{comes_up}
use Rattle.pipe_model.specs.Pipe.{Lands}
use Rattle.pipe_model.specs.declared.event.End.{End}
use Rattle.pipe_model.specs.declared.event.Event.TheVariants.{Clc as ClcEvent, Raw, Write}
use Rattle.history_laws.specs.Words.{A, Abort, Aborts, Act, Await, Awaits, B, Call, Calls, Close, Closes, Complete, Completes, Cut, Deliver, Entry, Event, Fabric, Fate, Finish, Finishes, GroupEnd, Grow, Heal, Item, Known, Landed, LinkId, LinkPhase, Move, Open, PostRef, Read, Reads, Reply, Report, Side, Swallow, Test, Trim, Up, Writes, act_in, act_of, confirmed_by, deeds, fabric, fate_of, fates, group_end, group_of, is_fate, is_own, is_up, landed_at, loses_group_with, offered, passes, peer, phase_of, post_at, same_phase, table_of, up_by, ups}
use Rattle.history_laws.specs.Lists.{IsAmong}
use Rattle.history_laws.proofs.Basics.{and-both}
use Rattle.history_laws.proofs.Items.{below}
use Rattle.history_laws.proofs.Offers.{in-append}
use Rattle.history_laws.proofs.Tables.{no-news}
use Rattle.link_laws.proofs.Fabric.{act-lands}

-- what stands in a list that is turned round
in-reverse : {X : Type 0} (x : X) (xs : List X) → IsAmong x (reverse xs) → IsAmong x xs
in-reverse x [] i = i
in-reverse x (y ∷ ys) i = by (in-reverse x ys) (in-append x (reverse ys) (y ∷ []) (subst (λ zs. IsAmong x zs) (reverse-append (y ∷ []) ys) i))
  where
    by : (IsAmong x (reverse ys) → IsAmong x ys) → IsAmong x (reverse ys) ⊎ IsAmong x (y ∷ []) → IsAmong x (y ∷ ys)
    by rest (inl j) = inr (rest j)
    by rest (inr (inl q)) = inl q
    by rest (inr (inr j)) = absurd j

-- what may stand below the deeds of an entry: the end of the group, an establishment, and fates of links of the group
pub data IsBeneath (group s : ℕ) (e : Entry) (past : List Entry) (item : Item) : Type 0 where
  AnEnd : (y : Side) → item ≡ GroupEnd y → loses_group_with y group e past ≡ true → IsBeneath group s e past item
  AnUp : (y : Side) (link : LinkId) → item ≡ Up y link → comes_up y s e past ≡ Some link → IsBeneath group s e past item
  AFate : (y : Side) (link : LinkId) (phase : LinkPhase) → item ≡ Fate y link phase → link.group ≡ group → IsBeneath group s e past item

module _ (group s : ℕ) (e : Entry) (past : List Entry) (item : Item) where
  in-up : (y : Side) → IsAmong item (ups y s e past) → IsBeneath group s e past item
  in-up y i = by (comes_up y s e past) refl i
    where
      by : (o : Option LinkId) → comes_up y s e past ≡ o → IsAmong item (option_to_list (option_map (Up y) o)) → IsBeneath group s e past item
      by None q j = absurd j
      by (Some link) q (inl j) = AnUp y link j q
      by (Some link) q (inr j) = absurd j

  in-end : (y : Side) → IsAmong item (group_end y group e past) → IsBeneath group s e past item
  in-end y i = by (loses_group_with y group e past) refl i
    where
      by : (b : Bool) → loses_group_with y group e past ≡ b → IsAmong item (if b then GroupEnd y ∷ [] else []) → IsBeneath group s e past item
      by true q (inl j) = AnEnd y j q
      by true q (inr j) = absurd j
      by false q j = absurd j

  in-fates : (y : Side) (before table : List Known) → IsAmong item (filter_map (fate_of y group before) table) → IsBeneath group s e past item
  in-fates y before [] i = absurd i
  in-fates y before (known ∷ table) i = by (known.link.group == group) (is_fate known.phase && not (same_phase known.phase (phase_of known.link before))) refl i (in-fates y before table)
    where
      by : (a b : Bool) → (known.link.group == group) ≡ a → IsAmong item (cons_option (if a && b then Some (Fate y known.link known.phase) else None) (filter_map (fate_of y group before) table)) → (IsAmong item (filter_map (fate_of y group before) table) → IsBeneath group s e past item) → IsBeneath group s e past item
      by true true q (inl j) rest = AFate y known.link known.phase j (eqb-true known.link.group group q)
      by true true q (inr j) rest = rest j
      by true false q j rest = rest j
      by false b q j rest = rest j

  -- what stands below the deeds
  pub beneath : IsAmong item (below group s e past) → IsBeneath group s e past item
  beneath i = by (in-append item (reverse (ups A s e past ++ ups B s e past) ++ reverse (group_end A group e past ++ group_end B group e past)) (reverse (fates A group e past ++ fates B group e past)) i)
    where
      pair : (xs ys : List Item) → IsAmong item (reverse (xs ++ ys)) → IsAmong item xs ⊎ IsAmong item ys
      pair xs ys j = in-append item xs ys (in-reverse item (xs ++ ys) j)

      of-ups : IsAmong item (ups A s e past) ⊎ IsAmong item (ups B s e past) → IsBeneath group s e past item
      of-ups (inl j) = in-up A j
      of-ups (inr j) = in-up B j

      of-ends : IsAmong item (group_end A group e past) ⊎ IsAmong item (group_end B group e past) → IsBeneath group s e past item
      of-ends (inl j) = in-end A j
      of-ends (inr j) = in-end B j

      of-fates : IsAmong item (fates A group e past) ⊎ IsAmong item (fates B group e past) → IsBeneath group s e past item
      of-fates (inl j) = in-fates A (table_of A past) (table_of A (e ∷ past)) j
      of-fates (inr j) = in-fates B (table_of B past) (table_of B (e ∷ past)) j

      first : IsAmong item (reverse (ups A s e past ++ ups B s e past)) ⊎ IsAmong item (reverse (group_end A group e past ++ group_end B group e past)) → IsBeneath group s e past item
      first (inl j) = of-ups (pair (ups A s e past) (ups B s e past) j)
      first (inr j) = of-ends (pair (group_end A group e past) (group_end B group e past) j)

      by : IsAmong item (reverse (ups A s e past ++ ups B s e past) ++ reverse (group_end A group e past ++ group_end B group e past)) ⊎ IsAmong item (reverse (fates A group e past ++ fates B group e past)) → IsBeneath group s e past item
      by (inl j) = first (in-append item (reverse (ups A s e past ++ ups B s e past)) (reverse (group_end A group e past ++ group_end B group e past)) j)
      by (inr j) = of-fates (pair (fates A group e past) (fates B group e past) j)

-- one deed, if there is one
if-one : (b : Bool) (i j : Item) → (if b then i ∷ [] else []) ≡ j ∷ [] → (b ≡ true) × (i ≡ j)
if-one true i j e = (refl, cc)
if-one false i j e = cc

-- an abort is of the event of that name
pub record OfAbort (x : Side) (s : ℕ) (v : Event) (past : List Entry) : Type 0 where
  pub end : End
  pub event_is : v ≡ Abort end
  pub socket : (s == end.s) ≡ true
  pub up : is_up end.side s past ≡ true
  pub side : end.side ≡ x

calls-same : (x y : Side) (a b : Call) → Calls x a ≡ Calls y b → (x ≡ y) × (a ≡ b)
calls-same x y a b e = (cc, cc)

pub abort-deed : (payload : List ℕ) (x : Side) (s : ℕ) (v : Event) (r : Reply) (past : List Entry) → deeds payload s v r past ≡ Calls x Aborts ∷ [] → OfAbort x s v past
abort-deed payload x s (Abort end) r past e =
    let q = if-one ((s == end.s) && is_up end.side s past) (Calls end.side Aborts) (Calls x Aborts) e in
    let b = and-both (s == end.s) (is_up end.side s past) q.0 in
    let c = calls-same end.side x Aborts Aborts q.1 in
    record { end = end; event_is = refl; socket = b.0; up = b.1; side = c.0 }
abort-deed payload x s (Write end at len) r past e = (let q = if-one _ (Calls end.side (Writes _)) (Calls x Aborts) e in let c = calls-same end.side x _ Aborts q.1 in let w = c.1 in cc)
abort-deed payload x s (Read end len) r past e = (let q = if-one _ (Calls end.side (Reads len)) (Calls x Aborts) e in let c = calls-same end.side x (Reads len) Aborts q.1 in let w : Reads len ≡ Aborts = c.1 in cc)
abort-deed payload x s (Finish end) r past e = (let q = if-one _ (Calls end.side Finishes) (Calls x Aborts) e in let c = calls-same end.side x Finishes Aborts q.1 in let w : Finishes ≡ Aborts = c.1 in cc)
abort-deed payload x s (Close end) r past e = (let q = if-one _ (Calls end.side Closes) (Calls x Aborts) e in let c = calls-same end.side x Closes Aborts q.1 in let w : Closes ≡ Aborts = c.1 in cc)
abort-deed payload x s (Await end) r past e = (let q = if-one _ (Calls end.side Awaits) (Calls x Aborts) e in let c = calls-same end.side x Awaits Aborts q.1 in let w : Awaits ≡ Aborts = c.1 in cc)
abort-deed payload x s (Move end) r past e = (let q = if-one _ (Calls end.side Moves) (Calls x Aborts) e in let c = calls-same end.side x Moves Aborts q.1 in let w : Moves ≡ Aborts = c.1 in cc)
abort-deed payload x s (Deliver slot dir) r past e = (let q = if-one _ (Lands dir) (Calls x Aborts) e in let w : Lands dir ≡ Calls x Aborts = q.1 in cc)
abort-deed payload x s (Complete slot dir) r past e = (let q = if-one _ (Completes dir) (Calls x Aborts) e in let w : Completes dir ≡ Calls x Aborts = q.1 in cc)
abort-deed payload x s (Swallow slot dir) r past e = (let q = if-one _ (Completes dir) (Calls x Aborts) e in let w : Completes dir ≡ Calls x Aborts = q.1 in cc)
abort-deed payload x s (Open t) r past e = cc
abort-deed payload x s (Raw t at len) r past e = cc
abort-deed payload x s (ClcEvent t dir) r past e = cc
abort-deed payload x s (Cut slot) r past e = cc
abort-deed payload x s (Heal slot) r past e = cc
abort-deed payload x s (Report y slot) r past e = cc
abort-deed payload x s Grow r past e = cc
abort-deed payload x s (Test y slot) r past e = cc
abort-deed payload x s (Trim y) r past e = cc

-- a landing is of a delivery, of a post that is the connection's own
pub record OfDelivery (y : Side) (s : ℕ) (v : Event) (r : Reply) (past : List Entry) : Type 0 where
  pub slot : ℕ
  pub event_is : v ≡ Deliver slot y
  pub own : passes (is_own y s past) (landed_at slot y r past) ≡ true

lands-same : (x y : Side) → Lands x ≡ Lands y → x ≡ y
lands-same x y e = cc

pub landing-deed : (payload : List ℕ) (y : Side) (s : ℕ) (v : Event) (r : Reply) (past : List Entry) → deeds payload s v r past ≡ Lands y ∷ [] → OfDelivery y s v r past
landing-deed payload y s (Deliver slot dir) r past e =
    let q = if-one (passes (is_own dir s past) (landed_at slot dir r past)) (Lands dir) (Lands y) e in
    let is : dir ≡ y = lands-same dir y q.1 in
    record { slot = slot; event_is = ap (λ z. Deliver slot z) is; own = subst (λ z. passes (is_own z s past) (landed_at slot z r past) ≡ true) is q.0 }
landing-deed payload y s (Complete slot dir) r past e = (let q = if-one _ (Completes dir) (Lands y) e in let w : Completes dir ≡ Lands y = q.1 in cc)
landing-deed payload y s (Swallow slot dir) r past e = (let q = if-one _ (Completes dir) (Lands y) e in let w : Completes dir ≡ Lands y = q.1 in cc)
landing-deed payload y s (Write end at len) r past e = (let q = if-one _ (Calls end.side (Writes _)) (Lands y) e in let w = q.1 in cc)
landing-deed payload y s (Read end len) r past e = (let q = if-one _ (Calls end.side (Reads len)) (Lands y) e in let w : Calls end.side (Reads len) ≡ Lands y = q.1 in cc)
landing-deed payload y s (Finish end) r past e = (let q = if-one _ (Calls end.side Finishes) (Lands y) e in let w : Calls end.side Finishes ≡ Lands y = q.1 in cc)
landing-deed payload y s (Close end) r past e = (let q = if-one _ (Calls end.side Closes) (Lands y) e in let w : Calls end.side Closes ≡ Lands y = q.1 in cc)
landing-deed payload y s (Abort end) r past e = (let q = if-one _ (Calls end.side Aborts) (Lands y) e in let w : Calls end.side Aborts ≡ Lands y = q.1 in cc)
landing-deed payload y s (Await end) r past e = (let q = if-one _ (Calls end.side Awaits) (Lands y) e in let w : Calls end.side Awaits ≡ Lands y = q.1 in cc)
landing-deed payload y s (Move end) r past e = (let q = if-one _ (Calls end.side Moves) (Lands y) e in let w : Calls end.side Moves ≡ Lands y = q.1 in cc)
landing-deed payload y s (Open t) r past e = cc
landing-deed payload y s (Raw t at len) r past e = cc
landing-deed payload y s (ClcEvent t dir) r past e = cc
landing-deed payload y s (Cut slot) r past e = cc
landing-deed payload y s (Heal slot) r past e = cc
landing-deed payload y s (Report z slot) r past e = cc
landing-deed payload y s Grow r past e = cc
landing-deed payload y s (Test z slot) r past e = cc
landing-deed payload y s (Trim z) r past e = cc

-- no deed is the end of a group
pub no-end : (payload : List ℕ) (y : Side) (s : ℕ) (v : Event) (r : Reply) (past : List Entry) → deeds payload s v r past ≡ GroupEnd y ∷ [] → ⊥
no-end payload y s (Deliver slot dir) r past e = (let q = if-one _ (Lands dir) (GroupEnd y) e in let w : Lands dir ≡ GroupEnd y = q.1 in cc)
no-end payload y s (Complete slot dir) r past e = (let q = if-one _ (Completes dir) (GroupEnd y) e in let w : Completes dir ≡ GroupEnd y = q.1 in cc)
no-end payload y s (Swallow slot dir) r past e = (let q = if-one _ (Completes dir) (GroupEnd y) e in let w : Completes dir ≡ GroupEnd y = q.1 in cc)
no-end payload y s (Write end at len) r past e = (let q = if-one _ (Calls end.side (Writes _)) (GroupEnd y) e in let w = q.1 in cc)
no-end payload y s (Read end len) r past e = (let q = if-one _ (Calls end.side (Reads len)) (GroupEnd y) e in let w : Calls end.side (Reads len) ≡ GroupEnd y = q.1 in cc)
no-end payload y s (Finish end) r past e = (let q = if-one _ (Calls end.side Finishes) (GroupEnd y) e in let w : Calls end.side Finishes ≡ GroupEnd y = q.1 in cc)
no-end payload y s (Close end) r past e = (let q = if-one _ (Calls end.side Closes) (GroupEnd y) e in let w : Calls end.side Closes ≡ GroupEnd y = q.1 in cc)
no-end payload y s (Abort end) r past e = (let q = if-one _ (Calls end.side Aborts) (GroupEnd y) e in let w : Calls end.side Aborts ≡ GroupEnd y = q.1 in cc)
no-end payload y s (Await end) r past e = (let q = if-one _ (Calls end.side Awaits) (GroupEnd y) e in let w : Calls end.side Awaits ≡ GroupEnd y = q.1 in cc)
no-end payload y s (Move end) r past e = (let q = if-one _ (Calls end.side Moves) (GroupEnd y) e in let w : Calls end.side Moves ≡ GroupEnd y = q.1 in cc)
no-end payload y s (Open t) r past e = cc
no-end payload y s (Raw t at len) r past e = cc
no-end payload y s (ClcEvent t dir) r past e = cc
no-end payload y s (Cut slot) r past e = cc
no-end payload y s (Heal slot) r past e = cc
no-end payload y s (Report z slot) r past e = cc
no-end payload y s Grow r past e = cc
no-end payload y s (Test z slot) r past e = cc
no-end payload y s (Trim z) r past e = cc

-- an entry that changes no links and establishes nobody gives a connection its deeds alone
and-not : (a b : Bool) → (a && (b && not b)) ≡ false
and-not true true = refl
and-not true false = refl
and-not false b = refl

pub below-none : (group s : ℕ) (e : Entry) (past : List Entry) → fabric (e ∷ past) ≡ fabric past → ((y : Side) → comes_up y s e past ≡ None) → below group s e past ≡ []
below-none group s e past f none =
    ap (λ is. reverse (is ++ ups B s e past) ++ reverse (group_end A group e past ++ group_end B group e past) ++ reverse (fates A group e past ++ fates B group e past)) (no-up A) ∙
    (ap (λ is. reverse is ++ reverse (group_end A group e past ++ group_end B group e past) ++ reverse (fates A group e past ++ fates B group e past)) (no-up B) ∙
    (ap (λ is. reverse (is ++ group_end B group e past) ++ reverse (fates A group e past ++ fates B group e past)) (no-end A) ∙
    (ap (λ is. reverse is ++ reverse (fates A group e past ++ fates B group e past)) (no-end B) ∙
    (ap (λ is. reverse (is ++ fates B group e past)) (no-fate A) ∙ ap (λ (is : List Item). reverse is) (no-fate B)))))
  where
    no-up : (y : Side) → ups y s e past ≡ []
    no-up y = ap (λ o. option_to_list (option_map (Up y) o)) (none y)

    no-end : (y : Side) → group_end y group e past ≡ []
    no-end y = ap (λ (g : Fabric). if not (group == 0) && ((group_of y past == group) && not ((peer y g).group == group)) then GroupEnd y ∷ [] else []) f ∙ ap (λ b. if b then GroupEnd y ∷ [] else []) (and-not (not (group == 0)) (group_of y past == group))

    no-fate : (y : Side) → fates y group e past ≡ []
    no-fate y = ap (λ (g : Fabric). filter_map (fate_of y group (table_of y past)) (peer y g).table) f ∙ no-news y group past

-- who comes up with an entry that is no CLC event does so with a message that lands
pub none-up : (s : ℕ) (e : Entry) (past : List Entry) → ((y : Side) → up_by y s e.event e.reply past ≡ None) → ((y : Side) → act_in y e past ≡ None) → (y : Side) → comes_up y s e past ≡ None
none-up s e past none acts y = ap (λ o. option_or o (option_and_then (λ act. confirmed_by (offered B s past) act.link act.step) (act_in y e past))) (none y) ∙ ap (λ a. option_and_then (λ (act : Act). confirmed_by (offered B s past) act.link act.step) a) (acts y)

-- a side acts where an LLC message lands alone
pub no-act : (y : Side) (e : Entry) (past : List Entry) → ((at : PostRef) (act : Act) → e.reply ≡ Landed at → act_of y (post_at at past) past ≡ Some act → ⊥) → act_in y e past ≡ None
no-act y e past f = by (act_in y e past) refl
  where
    by : (a : Option Act) → act_in y e past ≡ a → act_in y e past ≡ None
    by None i = i
    by (Some act) i = let a = act-lands y e.event e.reply past act i in absurd (f a.1.1.0 act a.1.1.1.1 a.1.1.1.0)
