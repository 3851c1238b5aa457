-- Each step of the board keeps its rule.
use Rattle.std.proofs.Common.{◌≡◌, ℕ, zero, suc, ◌+◌, ◌<◌, ◌^◌, ◌≢◌, List, [], ◌∷◌, ◌++◌, length, map, true, false, true≢false, sym, refl, ap, ◌∙◌, subst, ⊎_elim, length-append, arith}
use Rattle.std.specs.Prelude.{slice_index, slice_set, replicate}
use Rattle.std.proofs.lemmas.List.{get_or-set_same, get_or-set_other, length-set, set-get_or}
use mathlib.Core.Option.{some, some-injective, some-ne-none}
use lib.ListN.{get_elem?}
use Rattle.atomic_table.specs.Table.{Me, Step, keeps, Allows, Splits, Joins, opening}
use Rattle.atomic_table.proofs.Lists.{at_set, set_else, at_snoc, set_again}
use Rattle.alert_board.specs.declared.flags.Alert.{Alert}
use Rattle.alert_board.specs.declared.flags.News.{News}
use Rattle.alert_board.specs.declared.rule.View.{View}
use Rattle.alert_board.specs.Alerts.{Keeps, last_of, FitsAll, Rises, Later, log_at, news_at}
use Rattle.alert_board.specs.Word.{word_of}
use Rattle.alert_board.specs.Rule.{Fits, first_view, fresh_look, same_look, joined, met, spent_view, Kept, Polled, Published, Compared, Ordered}
use Rattle.alert_board.proofs.Logs.{rises_none, rises_longer, last_longer, none_at_zero, ordered, of_last, each_more, fits_more, fits_none, fits_last, fits_set, fits_latest, fits_earliest, log_at-none}
use Rattle.alert_board.proofs.Numbers.{length_replicate, zero_at}

-- what holds of the other views and of the new one holds of all
set_views : (P : ℕ → View → Type 0) (views : List View) (id : ℕ) (w : View) → ((i : ℕ) (v : View) → i ≢ id → get_elem? views i ≡ some v → P i v) → P id w → (i : ℕ) (v : View) → get_elem? (slice_set views id w) i ≡ some v → P i v
set_views P views id w others own i v e =
    ⊎_elim (λ t. subst (λ u. P i u) t.1 (subst (λ k. P k w) (sym t.0) own)) (λ t. others i v t.0 t.1) (at_set views id i w v e)

words_again : (words : List ℕ) (i : ℕ) → slice_set words i (slice_index words i) ≡ words
words_again words i = set-get_or words i 0

-- one more view beside the others
push_fits : (logs : List (List Alert)) (pen : ℕ) (views : List View) (id : ℕ) (v w : View) → get_elem? views id ≡ some v → ((i : ℕ) (u : View) → get_elem? views i ≡ some u → Fits logs pen i u) → ((i : ℕ) → Fits logs pen i w)
    → (i : ℕ) (u : View) → get_elem? (slice_set views id v ++ w ∷ []) i ≡ some u → Fits logs pen i u
push_fits logs pen views id v w at old new i u e = ⊎_elim (λ o. old i u (subst (λ (vs : List View). get_elem? vs i ≡ some u) (set_again views id v at) o)) (λ n. subst (λ x. Fits logs pen i x) n (new i)) (at_snoc (slice_set views id v) w u i e)

module _ {S : Type 0} where
  pub polls : (slots id place : ℕ) (me : Me S View) (st : Step S) → st.word ≡ place → me.0.pen ≡ false → Allows Kept slots id me place (λ n. n) (Polled st me)
  polls slots id place me st is blank s h len at range =
      let logs = h.0 in let f = h.6 id me.0 at in
      let news : News = last_of (log_at logs st.word) in
      let w : View = record { pen = me.0.pen; logs = me.0.logs; seen = slice_set me.0.seen st.word news; told = me.0.told; loads = slice_set me.0.loads st.word (slice_index me.0.loads st.word + 1) } in
      let words : slice_set s.words place (slice_index s.words place) ≡ s.words = words_again s.words place in (
        w,
        keeps,
        tt,
        (
          logs,
          h.1,
          ap (λ (ws : List ℕ). length ws) words ∙ h.2,
          (λ p. ap (λ (ws : List ℕ). slice_index ws p) words ∙ h.3 p),
          h.4,
          h.5,
          set_views (Fits logs h.1) s.views id w (λ i v _ e. h.6 i v e) (f.0, fits_set logs me.0.seen st.word news f.1 (of_last (log_at logs st.word)), f.2),
        ),
        (
          news,
          ap (λ i. slice_index s.words i) (sym is) ∙ h.3 st.word,
          h.5 st.word,
          none_at_zero (log_at logs st.word) news (of_last (log_at logs st.word)),
          ordered (log_at logs st.word) (news_at me.0.seen st.word) news (h.4 st.word) (f.1 st.word) (of_last (log_at logs st.word)) (f.1 st.word).0,
          refl,
          refl,
        ),
      )

  pub publishes : (slots id place number : ℕ) (flags : Alert) (me : Me S View) (st : Step S) → st.word ≡ place → me.0.pen ≡ true → number ≡ length (log_at me.0.logs place) + 1 → number < 2 ^ 32 → place < length me.0.logs
      → Keeps (last_of (log_at me.0.logs place)).flags flags → Allows Kept slots id me place (λ _. word_of (record { number = number; flags = flags })) (Published flags st me)
  publishes slots id place number flags me st is pen count room there keep s h len at range =
      let logs = h.0 in let f = h.6 id me.0 at in let mine = f.0 pen in
      let same : me.0.logs ≡ logs = mine.1 in
      let in_range : place < length logs = subst (λ (ls : List (List Alert)). place < length ls) same there in
      let log = log_at logs place in
      let more : List (List Alert) = slice_set logs place (log ++ flags ∷ []) in
      let w : View = record { pen = me.0.pen; logs = slice_set me.0.logs place (log_at me.0.logs place ++ flags ∷ []); seen = me.0.seen; told = me.0.told; loads = me.0.loads } in
      let count' : number ≡ length log + 1 = count ∙ ap (λ (ls : List (List Alert)). length (log_at ls place) + 1) same in
      let keep' : Keeps (last_of log).flags flags = subst (λ (ls : List (List Alert)). Keeps (last_of (log_at ls place)).flags flags) same keep in
      let next : News = record { number = number; flags = flags } in
      let last : last_of (log ++ flags ∷ []) ≡ next = last_longer log flags ∙ (λ i. record { number = sym count' i; flags = flags }) in
      let long : length (log ++ flags ∷ []) ≡ length log + 1 = length-append log (flags ∷ []) in
      let inside : place < length s.words = (let a = h.2 in omega (arith, a, in_range)) in
      let words : (q : ℕ) → slice_index (slice_set s.words place (word_of next)) q ≡ word_of (last_of (log_at more q)) =
      each_more logs place flags in_range (λ q xs. slice_index (slice_set s.words place (word_of next)) q ≡ word_of (last_of xs)) (get_or-set_same s.words place (word_of next) 0 inside ∙ ap word_of (sym last)) (λ q ne. get_or-set_other s.words place q (word_of next) 0 ne ∙ h.3 q) in
      let rising : (q : ℕ) → Rises (log_at more q) = each_more logs place flags in_range (λ q xs. Rises xs) (rises_longer log flags (h.4 place) keep') (λ q _. h.4 q) in
      let others : (i : ℕ) (v : View) → i ≢ id → get_elem? s.views i ≡ some v → Fits more h.1 i v =
      λ i v other e. let g = h.6 i v e in ((λ p. absurd (other ((g.0 p).0 ∙ sym mine.0))), fits_more logs place flags in_range v.seen g.1, fits_more logs place flags in_range v.told g.2) in
      let lists : w.logs ≡ more = ap (λ (ls : List (List Alert)). slice_set ls place (log_at ls place ++ flags ∷ [])) same in
      let own : Fits more h.1 id w = ((λ _. (mine.0, lists)), fits_more logs place flags in_range me.0.seen f.1, fits_more logs place flags in_range me.0.told f.2) in (
        w,
        keeps,
        tt,
        (
          more,
          h.1,
          length-set s.words place (word_of next) ∙ h.2 ∙ sym (length-set logs place (log ++ flags ∷ [])),
          words,
          rising,
          each_more logs place flags in_range (λ q xs. length xs < 2 ^ 32) (omega (arith, long, count', room)) (λ q _. h.5 q),
          set_views (Fits more h.1) s.views id w others own,
        ),
        (
          ap (λ i. record { pen = me.0.pen; logs = slice_set me.0.logs i (log_at me.0.logs i ++ flags ∷ []); seen = me.0.seen; told = me.0.told; loads = me.0.loads }) (sym is),
          (λ q. subst (λ (ls : List (List Alert)). Rises (log_at ls q)) (sym lists) (rising q)),
          refl,
        ),
      )

  pub looks : (id : ℕ) (v : View) → v.pen ≡ true → Splits (Kept {S = S}) id v v (fresh_look v)
  looks id v pen s h at =
      let f = h.6 id v at in let same = (f.0 pen).1 in
      let fresh : (i : ℕ) → Fits h.0 h.1 i (fresh_look v) = λ i. ((λ p. absurd (true≢false (sym p))), subst (λ (ls : List (List Alert)). FitsAll h.0 (map last_of ls)) (sym same) (fits_last h.0), fits_none h.0) in
      (h.0, h.1, h.2, h.3, h.4, h.5, push_fits h.0 h.1 s.views id v (fresh_look v) at h.6 fresh)

  pub copies : (id : ℕ) (v : View) → Splits (Kept {S = S}) id v v (same_look v)
  copies id v s h at =
      let f = h.6 id v at in
      let same : (i : ℕ) → Fits h.0 h.1 i (same_look v) = λ i. ((λ p. absurd (true≢false (sym p))), f.1, fits_none h.0) in
      (h.0, h.1, h.2, h.3, h.4, h.5, push_fits h.0 h.1 s.views id v (same_look v) at h.6 same)

  merges : (id : ℕ) (v : View) (other : ℕ) (w both : View) → both.pen ≡ v.pen → both.logs ≡ v.logs → ((logs : List (List Alert)) → FitsAll logs v.seen → FitsAll logs w.seen → FitsAll logs both.seen × FitsAll logs both.told)
      → Joins (Kept {S = S}) id v other w both spent_view
  merges id v other w both pen logs fits s h at apart there =
      let was : get_elem? s.views other ≡ some w = sym (set_else s.views id other both apart) ∙ there in
      let f = h.6 id v at in let g = h.6 other w was in
      let t = fits h.0 f.1 g.1 in
      let own : Fits h.0 h.1 id both = ((λ p. let m = f.0 (sym pen ∙ p) in (m.0, logs ∙ m.1)), t.0, t.1) in
      let gone : Fits h.0 h.1 other spent_view = ((λ p. absurd (true≢false (sym p))), fits_none h.0, fits_none h.0) in
      (h.0, h.1, h.2, h.3, h.4, h.5, set_views (Fits h.0 h.1) (slice_set s.views id both) other spent_view (λ i u _ e. set_views (Fits h.0 h.1) s.views id both (λ i u _ e. h.6 i u e) own i u e) gone)

  pub joins : (id : ℕ) (v : View) (other : ℕ) (w : View) → Joins (Kept {S = S}) id v other w (joined v w) spent_view
  joins id v other w = merges id v other w (joined v w) refl refl (λ logs a b. (fits_latest logs v.seen w.seen a b, fits_earliest logs v.seen w.seen a b))

  pub meets : (id : ℕ) (v : View) (other : ℕ) (w : View) → Joins (Kept {S = S}) id v other w (met v w) spent_view
  meets id v other w = merges id v other w (met v w) refl refl (λ logs a b. (a, b))

  -- a load of word 0 that leaves all as it is, and tells what the rule says of the seat
  tells : (slots id : ℕ) (me : Me S View) (then : ℕ → Me S View → Type 0) → ((logs : List (List Alert)) (pen found : ℕ) → ((place : ℕ) → Rises (log_at logs place)) → Fits logs pen id me.0 → then found me) → Allows Kept slots id me 0 (λ n. n) then
  tells slots id me then says s h len at range =
      let words : slice_set s.words 0 (slice_index s.words 0) ≡ s.words = words_again s.words 0 in (
        me.0,
        keeps,
        tt,
        (h.0, h.1, ap (λ (ws : List ℕ). length ws) words ∙ h.2, (λ p. ap (λ (ws : List ℕ). slice_index ws p) words ∙ h.3 p), h.4, h.5, set_views (Fits h.0 h.1) s.views id me.0 (λ i v _ e. h.6 i v e) (h.6 id me.0 at)),
        says h.0 h.1 (slice_index s.words 0) h.4 (h.6 id me.0 at),
      )

  pub compares : (slots id : ℕ) (me : Me S View) (st : Step S) → me.0.pen ≡ true → Allows Kept slots id me 0 (λ n. n) (Compared st me)
  compares slots id me st pen = tells slots id me (Compared st me) (λ logs seat found rises f.
      subst (λ (ls : List (List Alert)). (me ≡ me) × FitsAll ls me.0.told × ((p : ℕ) → Later (news_at me.0.told p) (last_of (log_at ls p)))) (sym (f.0 pen).1)
      (refl, f.2, λ p. ordered (log_at logs p) (news_at me.0.told p) (last_of (log_at logs p)) (rises p) (f.2 p) (of_last (log_at logs p)) (f.2 p).0))

  pub orders : (slots id : ℕ) (me : Me S View) (st : Step S) → Allows Kept slots id me 0 (λ n. n) (Ordered st me)
  orders slots id me st = tells slots id me (Ordered st me) (λ logs seat found rises f. (refl, λ p le. ordered (log_at logs p) (news_at me.0.told p) (news_at me.0.seen p) (rises p) (f.2 p) (f.1 p) le))

-- the table before the first publication
pub opens : (S : Type 0) (words : List ℕ) (places : ℕ) → words ≡ replicate places 0 → Kept {S = S} (opening words [] (first_view places))
opens S words places is = (
  replicate places [],
  0,
  ap (λ (ws : List ℕ). length ws) is ∙ length_replicate places 0 ∙ sym (length_replicate {A = List Alert} places []),
  (λ p. ap (λ (ws : List ℕ). slice_index ws p) is ∙ zero_at places p ∙ sym (ap (λ (xs : List Alert). word_of (last_of xs)) (log_at-none places p))),
  (λ p. subst (λ (xs : List Alert). Rises xs) (sym (log_at-none places p)) rises_none),
  (λ p. subst (λ (xs : List Alert). length xs < 2 ^ 32) (sym (log_at-none places p)) (omega arith)),
  one,
)
  where
    one : (id : ℕ) (v : View) → get_elem? (first_view places ∷ []) id ≡ some v → Fits (replicate places []) 0 id v
    one zero v e = subst (λ u. Fits (replicate places []) 0 zero u) (some-injective (first_view places) v e) ((λ _. (refl, refl)), fits_none (replicate places []), fits_none (replicate places []))
    one (suc id) v e = absurd (some-ne-none v (sym e))
