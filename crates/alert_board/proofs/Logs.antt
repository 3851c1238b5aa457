-- Publications of a place, what was seen of them, and both for all places.
use Rattle.std.proofs.Common.{◌≡◌, ◌≢◌, ℕ, zero, suc, ◌+◌, ◌<◌, ◌≤◌, Bool, true, false, List, [], ◌∷◌, ◌++◌, length, map, refl, sym, ap, ◌∙◌, subst, length-append, arith}
use Rattle.std.specs.Prelude.{slice_set, replicate, nat_lt, if◌then◌else◌}
use Rattle.std.proofs.lemmas.List.{get_or_append_left, get_or_at, get_or-set_same, get_or-set_other}
use Rattle.std.proofs.lemmas.Bool.Decides.{nat_tests}
use mathlib.Core.Logic.{dite}
use native.Mathlib.Decide.{ℕ_discrete, dec_le}
use Rattle.alert_board.specs.declared.flags.Alert.{Alert}
use Rattle.alert_board.specs.declared.flags.News.{News}
use Rattle.alert_board.specs.Alerts.{no_alert, no_news, Keeps, flags_at, last_of, IsOf, FitsAll, Rises, Later, log_at, news_at, later_of, earlier_of, each_of, latest, earliest}

pub keeps_self : (a : Alert) → Keeps a a
keeps_self a = ((λ h. h), (λ h. h), (λ h. h))

keeps_trans : (a b c : Alert) → Keeps a b → Keeps b c → Keeps a c
keeps_trans a b c h g = ((λ t. g.0 (h.0 t)), (λ t. g.1 (h.1 t)), (λ t. g.2 (h.2 t)))

pub later_self : (n : News) → Later n n
later_self n = (omega arith, (λ _. refl), keeps_self n.flags)

-- one more publication leaves the flags of those before it
flags_longer : (k : ℕ) (a : Alert) (log : List Alert) → k ≤ length log → flags_at k (log ++ a ∷ []) ≡ flags_at k log
flags_longer zero a log h = refl
flags_longer (suc k) a log h = get_or_append_left log (a ∷ []) no_alert k (omega arith)

flags_last : (k : ℕ) (a : Alert) (log : List Alert) → k ≡ length log + 1 → flags_at k (log ++ a ∷ []) ≡ a
flags_last zero a log h = absurd (omega arith)
flags_last (suc k) a log h = get_or_at log a [] no_alert k (omega arith)

is_of_longer : (log : List Alert) (a : Alert) (n : News) → IsOf log n → IsOf (log ++ a ∷ []) n
is_of_longer log a n h = ((let l = length-append log (a ∷ []) in let b = h.0 in omega (arith, l, b)), h.1 ∙ sym (flags_longer n.number a log h.0))

pub rises_none : Rises []
rises_none zero zero a b = keeps_self no_alert
rises_none zero (suc j) a b = absurd (omega arith)
rises_none (suc i) j a b = absurd (omega arith)

pub rises_longer : (log : List Alert) (a : Alert) → Rises log → Keeps (flags_at (length log) log) a → Rises (log ++ a ∷ [])
rises_longer log a rises keep i j le bound =
    dite (dec_le j (length log))
    (λ low. subst (λ x. Keeps x (flags_at j (log ++ a ∷ []))) (sym (flags_longer i a log (omega (arith, le, low)))) (subst (λ x. Keeps (flags_at i log) x) (sym (flags_longer j a log low)) (rises i j le low)))
    (λ high.
    let l = length-append log (a ∷ []) in
    let end : j ≡ length log + 1 = omega (arith, high, bound, l) in
    subst (λ x. Keeps (flags_at i (log ++ a ∷ [])) x) (sym (flags_last j a log end))
    (dite (dec_le i (length log))
    (λ low. subst (λ x. Keeps x a) (sym (flags_longer i a log low)) (keeps_trans (flags_at i log) (flags_at (length log) log) a (rises i (length log) low (omega arith)) keep))
    (λ up. subst (λ x. Keeps x a) (sym (flags_last i a log (omega (arith, up, le, end)))) (keeps_self a))))

pub last_longer : (log : List Alert) (a : Alert) → last_of (log ++ a ∷ []) ≡ record { number = length log + 1; flags = a }
last_longer log a =
    let l : length (log ++ a ∷ []) ≡ length log + 1 = length-append log (a ∷ []) in
    λ i. record { number = l i; flags = flags_last (length (log ++ a ∷ [])) a log l i }

-- number 0 has no flag
pub none_at_zero : (log : List Alert) (n : News) → IsOf log n → n.number ≡ 0 → n.flags ≡ no_alert
none_at_zero log n h e = h.1 ∙ ap (λ k. flags_at k log) e

-- of two that are of one list, that with the number not below is the later
pub ordered : (log : List Alert) (a b : News) → Rises log → IsOf log a → IsOf log b → a.number ≤ b.number → Later a b
ordered log a b rises h g le = (
  le,
  (λ e. h.1 ∙ ap (λ k. flags_at k log) e ∙ sym g.1),
  subst (λ x. Keeps x b.flags) (sym h.1) (subst (λ x. Keeps (flags_at a.number log) x) (sym g.1) (rises a.number b.number le g.0)),
)

-- no older than the last, and of the list: the last
pub is_last : (log : List Alert) (n : News) → Later (last_of log) n → IsOf log n → n ≡ last_of log
is_last log n later of =
    let same : n.number ≡ length log = (let a = later.0 in let b = of.0 in omega (arith, a, b)) in
    λ i. record { number = same i; flags = (of.1 ∙ ap (λ k. flags_at k log) same) i }

of_none : (log : List Alert) → IsOf log no_news
of_none log = (omega arith, refl)

pub of_last : (log : List Alert) → IsOf log (last_of log)
of_last log = (omega arith, refl)

-- the lists after a publication
module _ (logs : List (List Alert)) (p : ℕ) (a : Alert) (there : p < length logs) where
  pub each_more : (P : ℕ → List Alert → Type 0) → P p (log_at logs p ++ a ∷ []) → ((q : ℕ) → q ≢ p → P q (log_at logs q)) → (q : ℕ) → P q (log_at (slice_set logs p (log_at logs p ++ a ∷ [])) q)
  each_more P here others q =
      dite (ℕ_discrete q p)
      (λ e. subst (λ j. P j (log_at (slice_set logs p (log_at logs p ++ a ∷ [])) j)) (sym e) (subst (λ xs. P p xs) (sym (get_or-set_same logs p (log_at logs p ++ a ∷ []) [] there)) here))
      (λ ne. subst (λ xs. P q xs) (sym (get_or-set_other logs p q (log_at logs p ++ a ∷ []) [] ne)) (others q ne))

  pub fits_more : (seen : List News) → FitsAll logs seen → FitsAll (slice_set logs p (log_at logs p ++ a ∷ [])) seen
  fits_more seen h = each_more (λ q xs. IsOf xs (news_at seen q)) (is_of_longer (log_at logs p) a (news_at seen p) (h p)) (λ q _. h q)

news_past : (p : ℕ) → news_at [] p ≡ no_news
news_past zero = refl
news_past (suc p) = refl

pub fits_none : (logs : List (List Alert)) → FitsAll logs []
fits_none logs p = subst (λ n. IsOf (log_at logs p) n) (sym (news_past p)) (of_none (log_at logs p))

pub fits_last : (logs : List (List Alert)) → FitsAll logs (map last_of logs)
fits_last [] p = subst (λ n. IsOf (log_at [] p) n) (sym (news_past p)) (of_none (log_at [] p))
fits_last (x ∷ xs) zero = of_last x
fits_last (x ∷ xs) (suc p) = fits_last xs p

set_past : (seen : List News) (p : ℕ) (n : News) → length seen ≤ p → slice_set seen p n ≡ seen
set_past [] p n l = refl
set_past (x ∷ xs) zero n l = absurd (omega arith)
set_past (x ∷ xs) (suc p) n l = ap (λ ys. x ∷ ys) (set_past xs p n (omega arith))

pub fits_set : (logs : List (List Alert)) (seen : List News) (p : ℕ) (n : News) → FitsAll logs seen → IsOf (log_at logs p) n → FitsAll logs (slice_set seen p n)
fits_set logs seen p n h own q =
    dite (ℕ_discrete q p)
    (λ e. dite (dec_le (suc p) (length seen))
    (λ l. subst (λ j. IsOf (log_at logs j) (news_at (slice_set seen p n) j)) (sym e) (subst (λ m. IsOf (log_at logs p) m) (sym (get_or-set_same seen p n no_news (omega (arith, l)))) own))
    (λ g. subst (λ ys. IsOf (log_at logs q) (news_at ys q)) (sym (set_past seen p n (omega (arith, g)))) (h q)))
    (λ ne. subst (λ m. IsOf (log_at logs q) m) (sym (get_or-set_other seen p q n no_news ne)) (h q))

-- at each place it is one of the two
each_is : (P : ℕ → News → Type 0) (pick : News → News → News) (xs ys : List News) → ((p : ℕ) (a b : News) → P p a → P p b → P p (pick a b)) → ((p : ℕ) → P p (news_at xs p)) → ((p : ℕ) → P p (news_at ys p)) → (p : ℕ) → P p (news_at (each_of pick xs ys) p)
each_is P pick [] ys choose h g p = g p
each_is P pick (x ∷ xs) [] choose h g p = h p
each_is P pick (x ∷ xs) (y ∷ ys) choose h g zero = choose 0 x y (h 0) (g 0)
each_is P pick (x ∷ xs) (y ∷ ys) choose h g (suc p) = each_is (λ q n. P (suc q) n) pick xs ys (λ q a b. choose (suc q) a b) (λ q. h (suc q)) (λ q. g (suc q)) p

one_of : (P : News → Type 0) (t : Bool) (a b : News) → P a → P b → P (if t then a else b)
one_of P true a b h g = h
one_of P false a b h g = g

pub fits_latest : (logs : List (List Alert)) (xs ys : List News) → FitsAll logs xs → FitsAll logs ys → FitsAll logs (latest xs ys)
fits_latest logs xs ys = each_is (λ p n. IsOf (log_at logs p) n) later_of xs ys (λ p a b h g. one_of (λ n. IsOf (log_at logs p) n) (nat_lt a.number b.number) b a g h)

pub fits_earliest : (logs : List (List Alert)) (xs ys : List News) → FitsAll logs xs → FitsAll logs ys → FitsAll logs (earliest xs ys)
fits_earliest logs xs ys = each_is (λ p n. IsOf (log_at logs p) n) earlier_of xs ys (λ p a b h g. one_of (λ n. IsOf (log_at logs p) n) (nat_lt a.number b.number) a b h g)

pub length-each_of : (pick : News → News → News) (xs ys : List News) → length xs ≡ length ys → length (each_of pick xs ys) ≡ length xs
length-each_of pick [] ys e = sym e
length-each_of pick (x ∷ xs) [] e = refl
length-each_of pick (x ∷ xs) (y ∷ ys) e = ap suc (length-each_of pick xs ys (omega arith))

-- at each place of lists of one length, both are at hand
pub news_at-each_of : (pick : News → News → News) (xs ys : List News) (p : ℕ) → length xs ≡ length ys → pick no_news no_news ≡ no_news → news_at (each_of pick xs ys) p ≡ pick (news_at xs p) (news_at ys p)
news_at-each_of pick [] [] p e none = news_past p ∙ sym none ∙ (λ i. pick (sym (news_past p) i) (sym (news_past p) i))
news_at-each_of pick [] (y ∷ ys) p e none = absurd (omega arith)
news_at-each_of pick (x ∷ xs) [] p e none = absurd (omega arith)
news_at-each_of pick (x ∷ xs) (y ∷ ys) zero e none = refl
news_at-each_of pick (x ∷ xs) (y ∷ ys) (suc p) e none = news_at-each_of pick xs ys p (omega arith) none

-- the two that a join looks at: what it has seen afterwards is one, what it was told is the other
pub both_later : (old other new told : News) → new ≡ later_of old other → told ≡ earlier_of old other → (told.number ≤ new.number → Later told new) → Later old new × Later other new
both_later old other new told is from order = cases (nat_lt old.number other.number) refl
  where
    cases : (t : Bool) → nat_lt old.number other.number ≡ t → Later old new × Later other new
    cases true e =
        let n : new ≡ other = is ∙ ap (λ t. if t then other else old) e in
        let m : told ≡ old = from ∙ ap (λ t. if t then old else other) e in
        let le : old.number < other.number = grind (arith, nat_tests) in
        (subst (λ (x : News). Later x new) m (order (subst (λ (x : News). told.number ≤ x.number) (sym n) (subst (λ (x : News). x.number ≤ other.number) (sym m) (omega (arith, le))))), subst (λ (x : News). Later other x) (sym n) (later_self other))
    cases false e =
        let n : new ≡ old = is ∙ ap (λ t. if t then other else old) e in
        let m : told ≡ other = from ∙ ap (λ t. if t then old else other) e in
        let le : other.number ≤ old.number = grind (arith, nat_tests) in
        (subst (λ (x : News). Later old x) (sym n) (later_self old), subst (λ (x : News). Later x new) m (order (subst (λ (x : News). told.number ≤ x.number) (sym n) (subst (λ (x : News). x.number ≤ old.number) (sym m) le))))

-- a board with no publication
pub log_at-none : (n p : ℕ) → log_at (replicate n []) p ≡ []
log_at-none zero zero = refl
log_at-none zero (suc p) = refl
log_at-none (suc n) zero = refl
log_at-none (suc n) (suc p) = log_at-none n p
