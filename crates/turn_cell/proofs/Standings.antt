-- What holds of each seat and of their sums, where one seat changes, is cut in two, or takes in another.
use Rattle.std.proofs.Common.{◌≡◌, ℕ, zero, suc, ◌+◌, ◌<◌, ◌≤◌, ◌≢◌, List, [], ◌∷◌, ◌++◌, length, sym, refl, ap, ◌∙◌, subst, ⊎_elim, arith}
use Rattle.std.specs.Prelude.{slice_set}
use mathlib.Core.Option.{some, some-injective, some-ne-none}
use lib.ListN.{get_elem?}
use Rattle.atomic_table.proofs.Lists.{at_set, set_else, at_snoc}
use Rattle.turn_cell.specs.declared.rule.SeatView.{SeatView}
use Rattle.turn_cell.specs.Lists.{StartsWith, longer}
use Rattle.turn_cell.specs.Places.{times, merged, EachOnce}
use Rattle.turn_cell.specs.Views.{both_views, left_view, new_view, spent_view}
use Rattle.turn_cell.specs.Keeping.{Owns, Standing, once_below, total_of}
use Rattle.turn_cell.proofs.PlaceLemmas.{Below-more, Below-merged, Rising-merged, once_small, once_yes, times-merged}
use Rattle.turn_cell.proofs.ListLemmas.{all_seen, longer_most}

module _ {E : Type 0} where
  -- what holds of the views, where one is new
  set_views : (P Q : ℕ → SeatView E → Type 0) (views : List (SeatView E)) (id : ℕ) (w : SeatView E) → ((i : ℕ) (v : SeatView E) → i ≢ id → P i v → Q i v) → Q id w → ((i : ℕ) (v : SeatView E) → get_elem? views i ≡ some v → P i v)
      → (i : ℕ) (v : SeatView E) → get_elem? (slice_set views id w) i ≡ some v → Q i v
  set_views P Q views id w others own each i v e =
      ⊎_elim (λ t. subst (λ u. Q i u) t.1 (subst (λ k. Q k w) (sym t.0) own)) (λ t. others i v t.0 (each i v t.1)) (at_set views id i w v e)

  -- the new view stands in its place
  pub set_there : (views : List (SeatView E)) (id : ℕ) (v w : SeatView E) → get_elem? views id ≡ some v → get_elem? (slice_set views id w) id ≡ some w
  set_there [] id v w at = absurd (some-ne-none v (sym at))
  set_there (u ∷ vs) zero v w at = refl
  set_there (u ∷ vs) (suc id) v w at = set_there vs id v w at

  -- sums over the seats
  total_set : (f : SeatView E → ℕ) (views : List (SeatView E)) (id : ℕ) (v w : SeatView E) → get_elem? views id ≡ some v → total_of f (slice_set views id w) + f v ≡ total_of f views + f w
  total_set f [] id v w at = absurd (some-ne-none v (sym at))
  total_set f (u ∷ vs) zero v w at = let e : f u ≡ f v = ap f (some-injective u v at) in omega (arith, e)
  total_set f (u ∷ vs) (suc id) v w at = let e = total_set f vs id v w at in omega (arith, e)

  total_push : (f : SeatView E → ℕ) (views : List (SeatView E)) (w : SeatView E) → total_of f (views ++ w ∷ []) ≡ total_of f views + f w
  total_push f [] w = omega arith
  total_push f (u ∷ vs) w = let e = total_push f vs w in omega (arith, e)

  one_of : (f : SeatView E → ℕ) (views : List (SeatView E)) (id : ℕ) (v : SeatView E) → get_elem? views id ≡ some v → f v ≤ total_of f views
  one_of f [] id v at = absurd (some-ne-none v (sym at))
  one_of f (u ∷ vs) zero v at = let e : f u ≡ f v = ap f (some-injective u v at) in omega (arith, e)
  one_of f (u ∷ vs) (suc id) v at = let e = one_of f vs id v at in omega (arith, e)

  two_of : (f : SeatView E → ℕ) (views : List (SeatView E)) (id other : ℕ) (v w : SeatView E) → get_elem? views id ≡ some v → get_elem? views other ≡ some w → id ≢ other → f v + f w ≤ total_of f views
  two_of f [] id other v w at there apart = absurd (some-ne-none v (sym at))
  two_of f (u ∷ vs) zero zero v w at there apart = absurd (apart refl)
  two_of f (u ∷ vs) zero (suc j) v w at there apart = let e : f u ≡ f v = ap f (some-injective u v at) in let r = one_of f vs j w there in omega (arith, e, r)
  two_of f (u ∷ vs) (suc i) zero v w at there apart = let e : f u ≡ f w = ap f (some-injective u w there) in let r = one_of f vs i v at in omega (arith, e, r)
  two_of f (u ∷ vs) (suc i) (suc j) v w at there apart = let r = two_of f vs i j v w at there (λ e. apart (ap suc e)) in omega (arith, r)

  -- f is 0 at each view that has no seat left
  IdleAt : (SeatView E → ℕ) → List (SeatView E) → Type 0
  IdleAt f views = (i : ℕ) (u : SeatView E) → get_elem? views i ≡ some u → u.seats ≡ 0 → f u ≡ 0

  none_of : (f : SeatView E → ℕ) (views : List (SeatView E)) → IdleAt f views → total_of (λ v. v.seats) views ≡ 0 → total_of f views ≡ 0
  unfolding IdleAt
  none_of f [] idle z = refl
  none_of f (u ∷ vs) idle z = let a = idle 0 u refl (omega (arith, z)) in let b = none_of f vs (λ i w e. idle (suc i) w e) (omega (arith, z)) in omega (arith, a, b)

  -- so the sum is that of the one view that has all seats
  alone : (f : SeatView E → ℕ) (views : List (SeatView E)) (id : ℕ) (v : SeatView E) → IdleAt f views → get_elem? views id ≡ some v → total_of (λ v. v.seats) views ≡ v.seats → total_of f views ≡ f v
  unfolding IdleAt
  alone f [] id v idle at all = absurd (some-ne-none v (sym at))
  alone f (u ∷ vs) zero v idle at all =
      let e = some-injective u v at in let a : f u ≡ f v = ap f e in let s : u.seats ≡ v.seats = ap (λ (x : SeatView E). x.seats) e in
      let b = none_of f vs (λ i w e. idle (suc i) w e) (omega (arith, all, s)) in omega (arith, a, b)
  alone f (u ∷ vs) (suc id) v idle at all =
      let l = one_of (λ v. v.seats) vs id v at in let a = idle 0 u refl (omega (arith, all, l)) in
      let b = alone f vs id v (λ i w e. idle (suc i) w e) at (omega (arith, all, l)) in omega (arith, a, b)

  module _ (P : ℕ → SeatView E → Type 0) (seats n : ℕ) (views : List (SeatView E)) (standing : Standing P seats n views) (id : ℕ) (v : SeatView E) (at : get_elem? views id ≡ some v) where
    -- one seat changes, and the places of all then lie below m
    pub Standing-set : (Q : ℕ → SeatView E → Type 0) (m : ℕ) (w : SeatView E) → ((i : ℕ) (u : SeatView E) → i ≢ id → P i u → Q i u) → Q id w → w.seats ≡ v.seats
        → ((p : ℕ) → times p w.mine + once_below p n ≡ times p v.mine + once_below p m) → Standing Q seats m (slice_set views id w)
    Standing-set Q m w others own same once = record {
      each = set_views P Q views id w others own standing.each;
      sum = (let e = total_set (λ u. u.seats) views id v w at in let s = standing.sum in omega (arith, e, s, same));
      once = (λ p. let e = total_set (λ u. times p u.mine) views id v w at in let s = standing.once p in let o = once p in omega (arith, e, s, o));
    }

    -- one seat changes, and keeps its seats and places
    pub Standing-keep : (Q : ℕ → SeatView E → Type 0) (w : SeatView E) → ((i : ℕ) (u : SeatView E) → i ≢ id → P i u → Q i u) → Q id w → w.seats ≡ v.seats → w.mine ≡ v.mine → Standing Q seats n (slice_set views id w)
    Standing-keep Q w others own same mine = Standing-set Q n w others own same (λ p. ap (λ xs. times p xs + once_below p n) mine)

    pub Standing-split : 1 < v.seats → P id (left_view v) → ((i : ℕ) → P i (new_view v)) → Standing P seats n (slice_set views id (left_view v) ++ new_view v ∷ [])
    Standing-split more left right = record {
      each = (λ i u e. ⊎_elim (λ old. set_views P P views id (left_view v) (λ i u _ h. h) left standing.each i u old) (λ new. subst (λ x. P i x) new (right i)) (at_snoc (slice_set views id (left_view v)) (new_view v) u i e));
      sum = (let a = total_set (λ u. u.seats) views id v (left_view v) at in let b = total_push (λ u. u.seats) (slice_set views id (left_view v)) (new_view v) in let s = standing.sum in omega (arith, a, b, s, more));
      once = (λ p. let a = total_set (λ u. times p u.mine) views id v (left_view v) at in let b = total_push (λ u. times p u.mine) (slice_set views id (left_view v)) (new_view v) in let s = standing.once p in omega (arith, a, b, s));
    }

    module _ (other : ℕ) (w : SeatView E) (there : get_elem? (slice_set views id (both_views v w)) other ≡ some w) (apart : ¬ (other ≡ id)) where
      pub was_there : get_elem? views other ≡ some w
      was_there = sym (set_else views id other (both_views v w) apart) ∙ there

      -- no place is in both, so that the places of both rise
      pub Owns-joined : 0 < v.seats → Owns v.seen v.mine v.seats → Owns w.seen w.mine w.seats → Owns (longer v.seen w.seen) (merged v.mine w.mine) (v.seats + w.seats)
      Owns-joined some_seat mine theirs =
          let most = longer_most v.seen w.seen in record {
            rising = Rising-merged v.mine w.mine mine.rising (λ p. let t = two_of (λ u. times p u.mine) views id other v w at was_there (λ e. apart (sym e)) in let s = standing.once p in let o = once_small p n in omega (arith, t, s, o));
            below = Below-merged (length (longer v.seen w.seen)) v.mine w.mine (Below-more (length v.seen) (length (longer v.seen w.seen)) v.mine most.0 mine.below) (Below-more (length w.seen) (length (longer v.seen w.seen)) w.mine most.1 theirs.below);
            spent = (λ z. absurd (omega (arith, z, some_seat)));
          }

      pub Standing-join : P id (both_views v w) → P other spent_view → Standing P seats n (slice_set (slice_set views id (both_views v w)) other spent_view)
      Standing-join both spent = record {
        each = set_views P P (slice_set views id (both_views v w)) other spent_view (λ i u _ h. h) spent (set_views P P views id (both_views v w) (λ i u _ h. h) both standing.each);
        sum = (let a = total_set (λ u. u.seats) views id v (both_views v w) at in let b = total_set (λ u. u.seats) (slice_set views id (both_views v w)) other w spent_view there in let s = standing.sum in omega (arith, a, b, s));
        once = (λ p. let a = total_set (λ u. times p u.mine) views id v (both_views v w) at in let b = total_set (λ u. times p u.mine) (slice_set views id (both_views v w)) other w spent_view there in let s = standing.once p in
            let m = times-merged p v.mine w.mine in omega (arith, a, b, s, m));
      }

    -- a seat has no more than all seats
    pub within : v.seats ≤ seats
    within = let a = one_of (λ u. u.seats) views id v at in let s = standing.sum in omega (arith, a, s)

    -- where another has a seat too, it has fewer
    pub not_all : (other : ℕ) (w : SeatView E) → get_elem? views other ≡ some w → other ≢ id → 0 < w.seats → v.seats < seats
    not_all other w there apart some_seat = let t = two_of (λ u. u.seats) views other id w v there at apart in let s = standing.sum in omega (arith, t, s, some_seat)

    module _ (owns : (i : ℕ) (u : SeatView E) → P i u → Owns u.seen u.mine u.seats) (all : v.seats ≡ seats) where
      -- a seat with all seats has each place
      all_mine : (p : ℕ) → times p v.mine ≡ once_below p n
      unfolding IdleAt
      all_mine p = sym (alone (λ u. times p u.mine) views id v (λ i u e z. ap (λ xs. times p xs) ((owns i u (standing.each i u e)).spent z)) at (standing.sum ∙ sym all)) ∙ standing.once p

      -- and has seen the whole list
      pub whole_list : (log : List E) → length log ≡ n → StartsWith log v.seen → log ≡ v.seen
      whole_list log is starts = all_seen log v.seen starts.0 v.mine starts.1 (owns id v (standing.each id v at)).below (λ p. all_mine p ∙ ap (λ j. once_below p j) (sym is))

      pub each_once : (j : ℕ) → j ≡ n → EachOnce j v.mine
      each_once j is p l = all_mine p ∙ once_yes p n (subst (λ i. p < i) is l)
