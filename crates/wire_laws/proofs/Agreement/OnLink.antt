-- What an end has not completed, it has sent on its link.
use Rattle.std.proofs.Common.{List, [], ap, arith, drop, drop-drop, false, inr, length, refl, subst, suc, sym, true, true≢false, zero, ℕ, ◌++◌, ◌+◌, ◌-◌, ◌∙◌, ◌∷◌, ◌≡◌, ◌≤◌}
use Rattle.pipe_model.specs.declared.sent.Sent.{Sent}
use Rattle.std.proofs.lemmas.List.{drop-append-le}
use Rattle.std.proofs.Math.Seq.{drop-append_seam}
use Rattle.pipe_model.proofs.Pipes.{is-marked}
use Rattle.pipe_model.specs.Calls.{Moves}
use Rattle.history_laws.specs.Words.{Calls, EachOf, Entry, Half, IsMarked, Item, Setup, Side, Terms, deeds, group_on, half, is_due_for_move, part, pipe, same_side, step, terms_of, to_complete}
use Rattle.history_laws.proofs.Basics.{by-bool, each-drop, same-is}
use Rattle.history_laws.proofs.Items.{Deed, MoveDeed, MovesOff, NoDeed, Sends, Shape, StaysOn, below, deed-stays, less-step, moves-step, shape}
use Rattle.history_laws.specs.Made.{IsMade}
use Rattle.lending_laws.specs.Ends.{OffersGoOn}
use Rattle.wire_laws.specs.Agreement.{Agrees, OwedToAgreement}
use Rattle.wire_laws.proofs.Agreement.Ends.{Mid, Now, Then, idle-any, mid-counts, none-counts, none-sends, one-sends, then-one}

-- that what an end has not completed is on its link
abbrev pub IsOnOwn : Half → Type 0
IsOnOwn h = EachOf (λ m. m.link ≡ h.link) (to_complete h)

each-two : (P : Sent → Type 0) (ms ns : List Sent) → EachOf P ms → EachOf P ns → EachOf P (ms ++ ns)
each-two P [] ns p q = q
each-two P (m ∷ ms) ns p q = (p.0, each-two P ms ns p.1 q)

each-later : (P : Sent → Type 0) (c d : ℕ) (ms more : List Sent) → c ≤ length ms → c ≤ d → EachOf P (drop c ms) → EachOf P more → EachOf P (drop d (ms ++ more))
each-later P c d ms more l o p q =
    let n : c + (d - c) ≡ d = omega (arith, o) in
    subst (λ ns. EachOf P ns) (drop-drop (d - c) c (ms ++ more) ∙ ap (λ i. drop i (ms ++ more)) n)
    (each-drop P (d - c) (drop c (ms ++ more)) (subst (λ ns. EachOf P ns) (sym (drop-append-le c ms more l)) (each-two P (drop c ms) more p q)))

-- an end that stays on its link
pub stays-on-own : (h k : Half) → IsMarked h → (h.up ≡ false → h.sent ≡ []) → Sends h k → h.completed ≤ k.completed → IsOnOwn h → IsOnOwn k
stays-on-own h k mark idle p less on =
    let l : h.completed ≤ length h.sent = omega (arith, mark.completed_landed, mark.landed_sent) in
    subst (λ ms. EachOf (λ m. m.link ≡ k.link) (drop k.completed ms)) (sym p.sent_is)
    (each-later (λ m. m.link ≡ k.link) h.completed k.completed h.sent p.more l less
    (by-bool _ h.up (λ u. subst (λ i. EachOf (λ m. m.link ≡ i) (to_complete h)) (sym (p.same u)) on) (λ u. subst (λ ms. EachOf (λ m. m.link ≡ k.link) ms) (sym (none h.completed h.sent (idle u))) tt)) p.on)
  where
    none : (n : ℕ) (ms : List Sent) → ms ≡ [] → drop n ms ≡ []
    none zero ms e = ap (λ ns. drop 0 ns) e
    none (suc n) ms e = ap (λ ns. drop (suc n) ns) e

-- one that moves off
pub moves-on-own : (h k : Half) → MovesOff h k → IsOnOwn k
moves-on-own h k p =
    subst (λ ms. EachOf (λ m. m.link ≡ k.link) ms) (sym (ap (λ n. drop n k.sent) p.completed_is ∙ (ap (λ ms. drop (length h.sent) ms) p.sent_is ∙ drop-append_seam h.sent p.more))) p.on

-- with each entry
module _ (setup : Setup) (payload : List ℕ) (e : Entry) (past : List Entry) (before : ℕ) (made : IsMade setup payload past before e) (owed : OwedToAgreement setup payload past) (beside : OffersGoOn e past) (agree : Agrees setup payload past) (x : Side) (s : ℕ)
    (on : IsOnOwn (Now setup payload e past before made owed beside x s)) where
  abbrev T : Terms
  T = terms_of setup

  abbrev H : Half
  H = Now setup payload e past before made owed beside x s

  abbrev M : Half
  M = Mid setup payload e past before made owed beside x s

  abbrev K : Half
  K = Then setup payload e past before made owed beside x s

  abbrev Ds : List Item
  Ds = deeds payload s e.event e.reply past

  abbrev Bs : List Item
  Bs = below (group_on s past) s e past

  abbrev P : List Item
  P = part payload (group_on s past) s past

  staying : Sends H K → H.completed ≤ K.completed → IsOnOwn K
  staying p less = stays-on-own H K (is-marked T x P (agree.feasible s (group_on s past) (inr refl))) (idle-any T x P) p less on

  one : (item : Item) → Ds ≡ item ∷ [] → StaysOn x item M → IsOnOwn K
  one item d o =
      let c = mid-counts setup payload e past before made owed beside x s in
      let n : K.completed ≡ (half x (step T item (pipe T (Bs ++ P)))).completed = ap (λ (k : Half). k.completed) (then-one setup payload e past before made owed beside x s item d) in
      staying (one-sends setup payload e past before made owed beside x s item d o) (omega (arith, n, c.1, less-step T x item (pipe T (Bs ++ P)) o))

  moved : Ds ≡ Calls x Moves ∷ [] → is_due_for_move M ≡ true → IsOnOwn K
  moved d due = subst (λ k. IsOnOwn k) (sym (then-one setup payload e past before made owed beside x s (Calls x Moves) d)) (moves-on-own M (half x (step T (Calls x Moves) (pipe T (Bs ++ P)))) (moves-step T x (pipe T (Bs ++ P)) due))

  by : Shape s e past Ds → IsOnOwn K
  by (NoDeed d) = let c = none-counts setup payload e past before made owed beside x s d in staying (none-sends setup payload e past before made owed beside x s d) (omega (arith, c.1))
  by (Deed item d is) = one item d (deed-stays x item M is)
  by (MoveDeed y d none) = by-bool _ (same_side x y)
      (λ c. by-bool _ (is_due_for_move M) (λ due. moved (d ∙ ap (λ z. Calls z Moves ∷ []) (sym (same-is x y c))) due) (λ due. one (Calls y Moves) d (λ q. due)))
      (λ c. one (Calls y Moves) d (λ q. absurd (true≢false (sym q ∙ c))))

  pub on-own-step : IsOnOwn K
  on-own-step = by (shape payload s e.actor e.posts e.reply past e.event)
