-- What a pass over the members learns, one load after another.
use Rattle.std.proofs.Common.{◌≡◌, ◌≢◌, ℕ, suc, ◌+◌, ◌<◌, ◌≤◌, true, false, List, length, get_or, set, refl, sym, ap, ◌∙◌, subst, ⊎_elim, arith}
use Rattle.std.specs.Prelude.{is_some}
use Rattle.std.proofs.lemmas.List.{get_or_default, length-set}
use mathlib.Core.Logic.{dite}
use native.Mathlib.Decide.{ℕ_discrete, dec_le}
use Rattle.alert_board.specs.declared.flags.News.{News}
use Rattle.alert_board.specs.Alerts.{Later, news_at}
use Rattle.alert_board.specs.Known.{Looked}
use Rattle.alert_board.proofs.Logs.{later_self}
use Rattle.wait_set.specs.declared.member.Waiting.{Waiting}
use Rattle.wait_set.specs.Ready.{is_ready}
use Rattle.wait_set.specs.Waiting.{waiting_at, nobody, place_of, IsRising}
use Rattle.wait_set.specs.Picks.{IsPicked, IsNonePicked, SamePlaces, StaysAt, LoadsAt}
use Rattle.wait_set.specs.Search.{Asked, NoneReady, IsFirst}
use Rattle.wait_set.proofs.Places.{waiting_at-index, Indexed, index_of, found_at, none_at, below_from, apart}
use Rattle.wait_set.proofs.Edits.{rising-set, waiting_at-set_same, waiting_at-set_other}

pub later_trans : (a b c : News) → Later a b → Later b c → Later a c
later_trans a b c h g =
    let l = h.0 in let m = g.0 in (
      omega (arith, l, m),
      (λ e. h.1 (omega (arith, l, m, e)) ∙ g.1 (omega (arith, l, m, e))),
      ((λ t. g.2.0 (h.2.0 t)), (λ t. g.2.1 (h.2.1 t)), (λ t. g.2.2 (h.2.2 t))),
    )

-- what one poll says
pub record Polls (place : ℕ) (news : News) (old new : Looked) : Type 0 where
  pub board : new.board ≡ old.board
  pub seen : news_at new.seen place ≡ news
  pub loaded : LoadsAt place old new
  pub others : (p : ℕ) → p ≢ place → StaysAt p old new
  pub later : Later (news_at old.seen place) news

pub asked_none : (xs : List Waiting) (look : Looked) → Asked xs 0 look look
asked_none xs look = record {
  board = refl;
  later = λ p. later_self (news_at look.seen p);
  loaded = λ i lt. absurd (omega arith);
  others = λ p _. (refl, refl);
}

module _ (xs : List Waiting) (i : ℕ) (in_range : i < length xs) (rising : IsRising xs) (news : News) (old mid new : Looked) (asked : Asked xs i old mid) (poll : Polls (place_of xs i) news mid new) where
  -- the next place is none of those before
  fresh : (k : ℕ) → k < i → place_of xs k ≢ place_of xs i
  fresh k lt = apart xs k i rising lt in_range

  pub asked_more : Asked xs (i + 1) old new
  asked_more = record {
    board = poll.board ∙ asked.board;
    later = λ p. dite (ℕ_discrete p (place_of xs i))
        (λ e. subst (λ q. Later (news_at old.seen q) (news_at new.seen q)) (sym e) (subst (λ n. Later (news_at old.seen (place_of xs i)) n) (sym poll.seen) (later_trans (news_at old.seen (place_of xs i)) (news_at mid.seen (place_of xs i)) news (asked.later (place_of xs i)) poll.later)))
        (λ ne. subst (λ n. Later (news_at old.seen p) n) (sym (poll.others p ne).0) (asked.later p));
    loaded = λ k lt. dite (ℕ_discrete k i)
        (λ e. subst (λ j. LoadsAt (place_of xs j) old new) (sym e) (poll.loaded ∙ ap (λ n. n + 1) (asked.others (place_of xs i) fresh).1))
        (λ ne. let before : k < i = omega (arith, lt, ne) in (poll.others (place_of xs k) (fresh k before)).1 ∙ asked.loaded k before);
    others = λ p away.
        let ne : p ≢ place_of xs i = λ e. away i (omega arith) (sym e) in
        let was = asked.others p (λ k lt. away k (omega (arith, lt))) in
        let is = poll.others p ne in (is.0 ∙ was.0, is.1 ∙ was.1);
  }

  pub none_more : NoneReady xs i mid → is_ready (get_or xs i nobody) news ≡ false → NoneReady xs (i + 1) new
  none_more none not_ready k lt =
      dite (ℕ_discrete k i)
      (λ e. subst (λ j. is_ready (get_or xs j nobody) (news_at new.seen (place_of xs j)) ≡ false) (sym e) (subst (λ n. is_ready (get_or xs i nobody) n ≡ false) (sym poll.seen) not_ready))
      (λ ne. let before : k < i = omega (arith, lt, ne) in subst (λ n. is_ready (get_or xs k nobody) n ≡ false) (sym (poll.others (place_of xs k) (fresh k before)).0) (none k before))

  pub first_here : NoneReady xs i mid → is_ready (get_or xs i nobody) news ≡ true → IsFirst xs i news old new
  first_here none is = record {
    in_range = in_range;
    asked = asked_more;
    seen = poll.seen;
    ready = is;
    none_before = λ k before. subst (λ n. is_ready (get_or xs k nobody) n ≡ false) (sym (poll.others (place_of xs k) (fresh k before)).0) (none k before);
  }

-- the first n by place
module _ (xs : List Waiting) (rising : IsRising xs) (n : ℕ) (old new : Looked) (asked : Asked xs n old new) where
  loads_at : (p : ℕ) (w : Waiting) (t : Indexed xs p w) → t.index < n → LoadsAt p old new
  loads_at p w t lt = subst (λ q. LoadsAt q old new) t.place (asked.loaded t.index lt)

-- the pick, by place
pub picks : (xs : List Waiting) (i : ℕ) (news : News) (old new : Looked) → IsRising xs → IsFirst xs i news old new → IsPicked (place_of xs i) news xs (set xs i (record (get_or xs i nobody) { picked = news.number })) old new
picks xs i news old new rising first =
    let w : Waiting = record (get_or xs i nobody) { picked = news.number } in record {
      ready = (get_or xs i nobody, waiting_at-index xs i rising first.in_range, first.ready, waiting_at-set_same xs i w refl first.in_range rising);
      seen = first.seen;
      loaded = λ p le some. (
          let f = found_at xs p some in let t = index_of xs p f.0 f.1 in
          loads_at xs rising (i + 1) old new first.asked p f.0 t (up p t.index t.place t.in_range le));
      unloaded = λ p h. first.asked.others p (⊎_elim
          (λ above k lt e. above_first p k above (omega (arith, lt)) e)
          (λ none k lt. none_at xs k p rising none (let r = first.in_range in omega (arith, lt, r))) h);
      none_lower = λ p u lt is. (
          let t = index_of xs p u is in
          lower p u t (below_from xs t.index i rising t.in_range (let e = t.place in omega (arith, e, lt))));
      others = waiting_at-set_other xs i w refl;
      count = length-set xs i w;
      rising = rising-set xs i w refl first.in_range rising;
    }
  where
    up : (p k : ℕ) → place_of xs k ≡ p → k < length xs → p ≤ place_of xs i → k < i + 1
    up p k e in_range le = dite (dec_le (suc i) k) (λ above. absurd (let less = rising i k above in_range in omega (arith, less, e, le))) (λ below. omega (arith, below))

    above_first : (p k : ℕ) → place_of xs i < p → k ≤ i → place_of xs k ≢ p
    above_first p k above le e =
        dite (ℕ_discrete k i)
        (λ same. let s = ap (place_of xs) same in omega (arith, s, above, e))
        (λ ne. let less = rising k i (omega (arith, le, ne)) first.in_range in omega (arith, less, above, e))

    lower : (p : ℕ) (u : Waiting) (t : Indexed xs p u) → t.index < i → is_ready u (news_at new.seen p) ≡ false
    lower p u t lt = subst (λ q. is_ready u (news_at new.seen q) ≡ false) t.place (subst (λ x. is_ready x (news_at new.seen (place_of xs t.index)) ≡ false) t.is (first.none_before t.index lt))

-- no pick, by place
pub none_picked : (xs : List Waiting) (old new : Looked) → IsRising xs → Asked xs (length xs) old new → NoneReady xs (length xs) new → IsNonePicked xs old new
none_picked xs old new rising asked none = record {
  loaded = λ p some. (let f = found_at xs p some in let t = index_of xs p f.0 f.1 in loads_at xs rising (length xs) old new asked p f.0 t t.in_range);
  unloaded = λ p absent. asked.others p (λ k lt. none_at xs k p rising absent lt);
  none_ready = λ p u is. (
      let t = index_of xs p u is in
      subst (λ q. is_ready u (news_at new.seen q) ≡ false) t.place (subst (λ x. is_ready x (news_at new.seen (place_of xs t.index)) ≡ false) t.is (none t.index t.in_range)));
}

-- a pick leaves the places as they are
pub same_places : (place : ℕ) (news : News) (old new : List Waiting) (before after : Looked) → IsPicked place news old new before after → SamePlaces old new
same_places place news old new before after pick p =
    dite (ℕ_discrete p place)
    (λ e. subst (λ q. is_some (waiting_at new q) ≡ is_some (waiting_at old q)) (sym e) (ap (λ o. is_some o) pick.ready.3 ∙ sym (ap (λ o. is_some o) pick.ready.1)))
    (λ ne. ap (λ o. is_some o) (pick.others p ne))

-- a member that was read at its index is marked by some number
pub marked_rises : (found kept : List Waiting) (one : Waiting) (i picked : ℕ) → found ≡ kept → IsRising kept → i < length found → one ≡ get_or kept i one → IsRising (set kept i (record { member = one.member; picked = picked }))
marked_rises found kept one i picked read rising below is =
    let in_range : i < length kept = subst (λ xs. i < length xs) read below in
    rising-set kept i (record { member = one.member; picked = picked }) (ap (λ w. w.member.place) (is ∙ get_or_default kept i one nobody in_range)) in_range rising

-- the pick, after the list was read through a reference and a view
pub marked_picks : (found kept shown : List Waiting) (one : Waiting) (i : ℕ) (news : News) (old new : Looked) → found ≡ kept → kept ≡ shown → IsRising kept → IsFirst found i news old new → one ≡ get_or kept i one
    → IsPicked one.member.place news shown (set kept i (record { member = one.member; picked = news.number })) old new
marked_picks found kept shown one i news old new read view rising first is =
    let here : IsFirst kept i news old new = subst (λ xs. IsFirst xs i news old new) read first in
    subst (λ xs. IsPicked one.member.place news xs (set kept i (record { member = one.member; picked = news.number })) old new) view
    (subst (λ w. IsPicked w.member.place news kept (set kept i (record { member = w.member; picked = news.number })) old new) (sym (is ∙ get_or_default kept i one nobody here.in_range)) (picks kept i news old new rising here))

-- no pick, after the same
pub none_in_view : (found kept shown : List Waiting) (old new : Looked) → found ≡ kept → kept ≡ shown → IsRising kept → Asked found (length found) old new → NoneReady found (length found) new → IsNonePicked shown old new
none_in_view found kept shown old new read view rising asked none =
    none_picked shown old new (subst (λ xs. IsRising xs) view rising) (subst (λ xs. Asked xs (length xs) old new) (read ∙ view) asked) (subst (λ xs. NoneReady xs (length xs) new) (read ∙ view) none)
