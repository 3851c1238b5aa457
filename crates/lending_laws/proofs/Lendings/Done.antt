-- Over every history each lending is lent or has returned, an end that still holds its element has it lent, and what is not lent is done with.
use Rattle.std.proofs.Common.{Bool, List, [], ap, false, filter_map, inl, inr, not, refl, subst, sym, true, true≢false, ℕ, ◌&&◌, ◌||◌, ◌∙◌, ◌∷◌, ◌≡◌, ◌⊎◌}
use Rattle.std.specs.Prelude.{Some, is_some, option_map, unwrap_or}
use Rattle.pipe_model.specs.Connections.{comes_up, token_of}
use Rattle.pipe_model.specs.declared.event.Event.TheVariants.{Clc as ClcEvent}
use Rattle.pipe_model.specs.declared.reply.Reply.TheVariants.{Idle}
use Rattle.pipe_model.specs.Lending.{is_gone}
use Rattle.history_laws.specs.Words.{A, B, EndState, Entry, HasFallen, IsFeasible, IsUp, Lending, LinkId, NoEnd, Offered, Setup, Side, WaitsAnswer, WaitsConfirm, WaitsLink, WaitsProposal, WasReset, after_clc, after_event, after_loss, early_state, end_state, expects, group_on, half, has_ended, is_done_with, is_out, is_over, is_over_on, is_up, items, lendings, lends, lends_by, lent, loses_group_with, named_link, new_offer, offered, other, part, pipe_of, terms_of, told_last}
use Rattle.history_laws.specs.Made.{IsMadeAll, IsMade}
use Rattle.history_laws.specs.Lists.{IsAmong}
use Rattle.history_laws.proofs.Offers.{Answers, ByVerdict, Does, DoesBegin, DoesNothing, DoesTake, ForFault, NotTaken, all-offers, answers, does, in-back, new-or-old, state-early, state-up, states, taken-as}
use Rattle.history_laws.proofs.Items.{over-stays}
use Rattle.history_laws.specs.Offers.{HasStates, NewLending, confirm_reply, is_early, is_holding, is_none, is_own_state}
use Rattle.history_laws.proofs.Basics.{by-bool, none-is, or-left, or-none, or-true, some-is}
use Rattle.lending_laws.specs.Owed.{OwedLendings}
use Rattle.lending_laws.proofs.Lendings.Owed.{over-told, owed-now}
use Rattle.lending_laws.proofs.Lendings.Returns.{lending-group, lent-or-returned, out-early, same-link}
use Rattle.lending_laws.specs.Lendings.{AreDone, AsOut, AsOver, HasReturned, HaveToldLast, WithGroup}
use Rattle.lending_laws.proofs.Lendings.Lendings.{all-lendings}

-- an end of a lending that is over stays over
pub over-later : (setup : Setup) (payload : List ℕ) (e : Entry) (past : List Entry) → IsMadeAll setup payload (e ∷ past) → OwedLendings setup payload (e ∷ past) → (x : Side) (l : Lending) → IsAmong l (lendings x past) → is_over_on setup payload x l past ≡ true → is_over_on setup payload x l (e ∷ past) ≡ true
over-later setup payload e past m w x l i v =
    let now = owed-now setup payload (e ∷ past) w in
    let group : l.group ≡ group_on l.s (e ∷ past) = lending-group setup payload (e ∷ past) m x l (in-back l (filter_map (lends x) e.posts) (lendings x past) i) in
    let feasible : IsFeasible (terms_of setup) (part payload l.group l.s (e ∷ past)) = subst (λ g. IsFeasible (terms_of setup) (part payload g l.s (e ∷ past))) (sym group) (now.feasible l.s) in
    over-stays (terms_of setup) x (items payload l.group l.s e past) (part payload l.group l.s past) feasible v

-- each lending is lent, or has returned
pub all-returned : (setup : Setup) (payload : List ℕ) (past : List Entry) → IsMadeAll setup payload past → OwedLendings setup payload past → (x : Side) (l : Lending) → IsAmong l (lendings x past) → IsAmong l (lent setup payload x past) ⊎ HasReturned setup payload x l past
all-returned setup payload [] m w x l i = absurd i
all-returned setup payload (e ∷ past) m w x l i =
    let one = m.0 in
    let rest = w.1 in
    lent-or-returned setup payload past one.0 e one.1 (states setup payload past m.1) (all-offers setup payload past m.1) rest.0 x (over-later setup payload e past m w x) (all-lendings setup payload past m.1 x) (all-returned setup payload past m.1 rest.1 x) l i

-- A's end that has offered goes out with its group alone
waits-link : (st : EndState) → is_own_state A st ≡ true → is_early st ≡ false → is_out st ≡ false → (st ≡ WaitsLink) ⊎ (st ≡ IsUp)
waits-link NoEnd o e n = absurd (true≢false e)
waits-link WaitsProposal o e n = absurd (true≢false e)
waits-link WaitsAnswer o e n = absurd (true≢false e)
waits-link WaitsConfirm o e n = absurd (true≢false (sym o))
waits-link WaitsLink o e n = inl refl
waits-link IsUp o e n = inr refl
waits-link HasFallen o e n = absurd (true≢false n)
waits-link (WasReset cause) o e n = absurd (true≢false n)

pub loss-ends : (b : Bool) (g : ℕ) (st : EndState) → is_out st ≡ false → is_out (after_loss b g st) ≡ true → b ≡ true
loss-ends true g st n o = refl
loss-ends false g st n o = absurd (true≢false (sym o ∙ n))

module _ (setup : Setup) (payload : List ℕ) (e : Entry) (past : List Entry) (m : IsMadeAll setup payload (e ∷ past)) (s : ℕ) where
  abbrev one : (before : ℕ) × IsMade setup payload past before e
  one = m.0

  abbrev st : HasStates s past
  st = states setup payload past m.1 s

  abbrev mid : EndState
  mid = after_event A s e.event e.reply (early_state A s past)

  low-after : is_out (end_state A s (e ∷ past)) ≡ true → is_up A s (e ∷ past) ≡ false
  low-after o = by-bool (is_up A s (e ∷ past) ≡ false) (is_up A s (e ∷ past)) (λ u. absurd (true≢false (sym o ∙ ap is_out (state-up A s (e ∷ past) u)))) (λ u. u)

  -- the end held its element before the entry
  ends-now : (is_early (end_state A s past) ≡ false) → is_out (end_state A s past) ≡ false → is_out (end_state A s (e ∷ past)) ≡ true → loses_group_with A (group_on s past) e past ≡ true
  ends-now l n o =
      let low = low-after o in
      let was_low = or-none (is_some (comes_up A s e past)) (is_up A s past) low in
      let early : end_state A s past ≡ early_state A s past = state-early A s past was_low.1 in
      let is = waits-link (early_state A s past) (st.own A) (sym (ap is_early early) ∙ l) (sym (ap is_out early) ∙ n) in
      loss-ends (loses_group_with A (group_on s past) e past) (group_on s past) mid (mid-not-out (early_state A s past) refl is) (out-early A s (e ∷ past) o)
    where
      idle : early_state A s past ≡ WaitsLink → e.event ≡ ClcEvent s B → e.reply ≡ Idle
      idle w ev = by (answers setup payload past one.0 e one.1 s B ev)
        where
          no-expects : expects (end_state A s past) ≡ true → ⊥
          no-expects x = true≢false (sym x ∙ by-bool (expects (end_state A s past) ≡ false) (is_up A s past) (λ u. ap expects (state-up A s past u)) (λ u. ap expects (state-early A s past u ∙ w)))

          by : Answers setup payload s B past e.reply → e.reply ≡ Idle
          by (NotTaken i) = i
          by (ForFault fault x f i) = absurd (no-expects x)
          by (ByVerdict n len x f i) = absurd (no-expects x)

      mid-not-out : (state : EndState) → early_state A s past ≡ state → (state ≡ WaitsLink) ⊎ (state ≡ IsUp) → is_out mid ≡ false
      mid-not-out state q (inl w) = by (does setup payload past one.0 e one.1 s (st.begun A (ap is_none (q ∙ w))) A (early_state A s past))
        where
          by : Does A s e (early_state A s past) mid → is_out mid ≡ false
          by (DoesNothing i) = ap is_out (i ∙ (q ∙ w))
          by (DoesTake ev i) = ap is_out (i ∙ (ap (λ r. after_clc r (early_state A s past)) (idle (q ∙ w) ev) ∙ (q ∙ w)))
          by (DoesBegin k b i) = (let z : A ≡ B = b in cc)
      mid-not-out state q (inr w) = by (does setup payload past one.0 e one.1 s (st.begun A (ap is_none (q ∙ w))) A (early_state A s past))
        where
          up-idle : e.event ≡ ClcEvent s B → e.reply ≡ Idle
          up-idle ev = at (answers setup payload past one.0 e one.1 s B ev)
            where
              no-expects : expects (end_state A s past) ≡ true → ⊥
              no-expects x = true≢false (sym x ∙ by-bool (expects (end_state A s past) ≡ false) (is_up A s past) (λ u. ap expects (state-up A s past u)) (λ u. ap expects (state-early A s past u ∙ (q ∙ w))))

              at : Answers setup payload s B past e.reply → e.reply ≡ Idle
              at (NotTaken i) = i
              at (ForFault fault x f i) = absurd (no-expects x)
              at (ByVerdict n len x f i) = absurd (no-expects x)

          by : Does A s e (early_state A s past) mid → is_out mid ≡ false
          by (DoesNothing i) = ap is_out (i ∙ (q ∙ w))
          by (DoesTake ev i) = ap is_out (i ∙ (ap (λ r. after_clc r (early_state A s past)) (up-idle ev) ∙ (q ∙ w)))
          by (DoesBegin k b i) = (let z : A ≡ B = b in cc)

  -- it offers with the entry
  pub new-ends : (n : NewLending setup payload A e past) → s ≡ n.s → is_out (end_state A s (e ∷ past)) ≡ true → loses_group_with A (group_on s past) e past ≡ true
  new-ends n is o =
      loss-ends (loses_group_with A (group_on s past) e past) (group_on s past) mid (ap is_out (taken-as A s e (early_state A s past) (n.event_is ∙ ap (λ t. ClcEvent t B) (sym is))) ∙ not-out n.first n.reply_is) (out-early A s (e ∷ past) o)
    where
      waits : early_state A s past ≡ WaitsAnswer
      waits = at (end_state A n.s past) refl n.early
        where
          low : is_up A s past ≡ false
          low = by-bool (is_up A s past ≡ false) (is_up A s past) (λ u. absurd (true≢false (sym n.early ∙ (ap (λ t. is_early (end_state A t past)) (sym is) ∙ ap is_early (state-up A s past u))))) (λ u. u)

          early-is : end_state A n.s past ≡ early_state A s past
          early-is = ap (λ t. end_state A t past) (sym is) ∙ state-early A s past low

          kind : (q : EndState) → is_own_state A q ≡ true → is_early q ≡ true → is_none q ≡ false → q ≡ WaitsAnswer
          kind NoEnd a b c = absurd (true≢false c)
          kind WaitsProposal a b c = absurd (true≢false (sym a))
          kind WaitsAnswer a b c = refl
          kind WaitsConfirm a b c = absurd (true≢false (sym b))
          kind WaitsLink a b c = absurd (true≢false (sym b))
          kind IsUp a b c = absurd (true≢false (sym b))
          kind HasFallen a b c = absurd (true≢false (sym b))
          kind (WasReset cause) a b c = absurd (true≢false (sym b))

          at : (q : EndState) → end_state A n.s past ≡ q → is_early q ≡ true → early_state A s past ≡ WaitsAnswer
          at q i b = kind (early_state A s past) (st.own A) (ap is_early (sym early-is ∙ i) ∙ b) (by-bool (is_none (early_state A s past) ≡ false) (is_none (early_state A s past)) (λ z. absurd (none-offers z)) (λ z. z))
            where
              none-offers : is_none (early_state A s past) ≡ true → ⊥
              none-offers z = by (answers setup payload past one.0 e one.1 n.s B n.event_is)
                where
                  silent : (q : EndState) → is_none q ≡ true → expects q ≡ false
                  silent NoEnd k = refl
                  silent WaitsProposal k = cc
                  silent WaitsAnswer k = cc
                  silent WaitsConfirm k = cc
                  silent WaitsLink k = cc
                  silent IsUp k = cc
                  silent HasFallen k = cc
                  silent (WasReset cause) k = cc

                  no-reply : (b : Bool) → confirm_reply b ≡ Idle → ⊥
                  no-reply true k = cc
                  no-reply false k = cc

                  by : Answers setup payload n.s B past e.reply → ⊥
                  by (NotTaken k) = no-reply n.first (sym n.reply_is ∙ k)
                  by (ForFault fault x f k) = true≢false (sym x ∙ (ap expects early-is ∙ silent (early_state A s past) z))
                  by (ByVerdict nn len x f k) = true≢false (sym x ∙ (ap expects early-is ∙ silent (early_state A s past) z))

      not-out : (b : Bool) → e.reply ≡ confirm_reply b → is_out (after_clc e.reply (early_state A s past)) ≡ false
      not-out true r = ap (λ q. is_out (after_clc q (early_state A s past))) r
      not-out false r = ap (λ q. is_out (after_clc q (early_state A s past))) r ∙ ap is_out waits

-- after each history
pub out-ended : (setup : Setup) (payload : List ℕ) (past : List Entry) → IsMadeAll setup payload past → OwedLendings setup payload past → (s : ℕ) (o : Offered) → offered A s past ≡ Some o → is_out (end_state A s past) ≡ true → has_ended A o.link.group past ≡ true
out-ended setup payload [] m w s o i q = absurd (none-is o i)
out-ended setup payload (e ∷ past) m w s o i q =
    let one = m.0 in
    let rest = w.1 in
    by (out-ended setup payload past m.1 rest.1 s o) (new-or-old setup payload past one.0 e one.1 (states setup payload past m.1) (all-offers setup payload past m.1) A s)
  where
    -- the group of the connection, named by the Accept before the entry
    ends : group_on s past ≡ o.link.group → loses_group_with A (group_on s past) e past ≡ true → has_ended A o.link.group (e ∷ past) ≡ true
    ends g l = or-left (loses_group_with A o.link.group e past) (has_ended A o.link.group past) (ap (λ n. loses_group_with A n e past) (sym g) ∙ l)

    by : (offered A s past ≡ Some o → is_out (end_state A s past) ≡ true → has_ended A o.link.group past ≡ true)
        → (offered A s (e ∷ past) ≡ offered A s past) ⊎ ((n : NewLending setup payload A e past) × ((s ≡ n.s) × (offered A s (e ∷ past) ≡ Some (record { link = n.link; offer = new_offer setup payload A n.first n.link past })))) → has_ended A o.link.group (e ∷ past) ≡ true
    by was (inl same) =
        let j : offered A s past ≡ Some o = sym same ∙ i in
        let h = all-offers setup payload past m.1 s in
        let g : group_on s past ≡ o.link.group = ap (λ n. unwrap_or (option_map (λ (l : LinkId). l.group) n) 0) (same-link setup payload past m.1 s o j) in
        by-bool (has_ended A o.link.group (e ∷ past) ≡ true) (is_out (end_state A s past))
        (λ out. or-true (loses_group_with A o.link.group e past) (has_ended A o.link.group past) (was j out))
        (λ held. ends g (ends-now setup payload e past m s (h.later A o j) held q))
    by was (inr k) =
        let n = k.0 in
        let r = k.1 in
        let new : Offered = record { link = n.link; offer = new_offer setup payload A n.first n.link past } in
        let is : o ≡ new = some-is o new (sym i ∙ r.1) in
        ends (ap (λ c. unwrap_or (option_map (λ (l : LinkId). l.group) c) 0) (ap (λ t. named_link t past) r.0 ∙ n.named_is refl) ∙ sym (ap (λ (p : Offered). p.link.group) is)) (new-ends setup payload e past m s n r.0 q)

-- done with, by how a lending has ended
module _ (setup : Setup) (payload : List ℕ) (past : List Entry) (m : IsMadeAll setup payload past) (w : OwedLendings setup payload past) where
  out-gone : (y : Side) (s : ℕ) → is_out (end_state y s past) ≡ true → is_gone y s past ≡ true
  out-gone y s o = or-true (told_last y (token_of (other y) s past) past) (is_out (end_state y s past) || has_ended y (group_on s past) past) (or-left (is_out (end_state y s past)) (has_ended y (group_on s past) past) o)

  told-gone : (s : ℕ) → HaveToldLast s past → (y : Side) → is_gone y s past ≡ true
  told-gone s t y =
      let q = t y in
      let r = q.1 in
      or-left (told_last y (token_of (other y) s past) past) (is_out (end_state y s past) || has_ended y (group_on s past) past)
      (ap (λ o. told_last y (unwrap_or (option_map (λ (p : Offered). p.offer.token) o) 0) past) r.0 ∙ r.1)

  both-done : (x : Side) (l : Lending) → is_gone A l.s past ≡ true → is_gone B l.s past ≡ true → is_done_with x l past ≡ true
  both-done x l a b = or-left (is_gone A l.s past && is_gone B l.s past) (has_ended x l.group past) (ap (λ c. c && is_gone B l.s past) a ∙ b)

  pub done-if : (x : Side) (l : Lending) → IsAmong l (lendings x past) → HasReturned setup payload x l past → is_done_with x l past ≡ true
  done-if x l i (WithGroup g) = or-true (is_gone A l.s past && is_gone B l.s past) (has_ended x l.group past) g
  done-if x l i (AsOver v) =
      let t = over-told setup payload past m w x l.s (ap (λ g. is_over (half x (pipe_of setup payload g l.s past))) (sym (lending-group setup payload past m x l i)) ∙ v) in
      both-done x l (told-gone l.s t A) (told-gone l.s t B)
  done-if x l i (AsOut o) = by x i o
    where
      by : (y : Side) → IsAmong l (lendings y past) → is_out (end_state y l.s past) ≡ true → is_done_with y l past ≡ true
      by A j p =
          let are = all-lendings setup payload past m A in
          let q = are.of_offer l j in
          let r = q.1 in
          or-true (is_gone A l.s past && is_gone B l.s past) (has_ended A l.group past) (ap (λ (k : Lending). has_ended A k.group past) r.1 ∙ out-ended setup payload past m w l.s q.0 r.0 p)
      by B j p =
          let are = all-lendings setup payload past m B in
          let q = are.of_offer l j in
          let r = q.1 in
          let now = owed-now setup payload past w in
          at q.0 r.1 (now.fallen l.s q.0 r.0 p)
        where
          at : (o : Offered) → l ≡ lends_by l.s o.link o.offer → (is_out (end_state A l.s past) ≡ true) ⊎ (has_ended B o.link.group past ≡ true) → is_done_with B l past ≡ true
          at o is (inl a) = both-done B l (out-gone A l.s a) (out-gone B l.s p)
          at o is (inr g) = or-true (is_gone A l.s past && is_gone B l.s past) (has_ended B l.group past) (ap (λ (k : Lending). has_ended B k.group past) is ∙ g)

  -- how lendings end
  pub are-done : (x : Side) → AreDone setup payload x past
  are-done x = record {
    returned = all-returned setup payload past m w x;
    stays_lent = λ l i holds v g. still l holds v g (all-returned setup payload past m w x l i);
    done = λ l i. by l i (all-returned setup payload past m w x l i);
  }
    where
      still : (l : Lending) → is_holding (end_state x l.s past) ≡ true → is_over_on setup payload x l past ≡ false → has_ended x l.group past ≡ false → IsAmong l (lent setup payload x past) ⊎ HasReturned setup payload x l past → IsAmong l (lent setup payload x past)
      still l h v g (inl j) = j
      still l h v g (inr (WithGroup k)) = absurd (true≢false (sym k ∙ g))
      still l h v g (inr (AsOver k)) = absurd (true≢false (sym k ∙ v))
      still l h v g (inr (AsOut k)) = absurd (true≢false (sym h ∙ ap (λ b. not b) (or-true (is_early (end_state x l.s past)) (is_out (end_state x l.s past)) k)))

      by : (l : Lending) → IsAmong l (lendings x past) → IsAmong l (lent setup payload x past) ⊎ HasReturned setup payload x l past → IsAmong l (lent setup payload x past) ⊎ (is_done_with x l past ≡ true)
      by l i (inl j) = inl j
      by l i (inr h) = inr (done-if x l i h)
