-- What lendings want of the handshake follows from what an entry makes: so the laws of lendings stand on five short premises of other subjects.
use Rattle.std.proofs.Common.{Bool, List, [], ap, eq-eqb, false, if◌then◌else◌, inl, inr, refl, sym, true, true≢false, ℕ, ◌==◌, ◌||◌, ◌∙◌, ◌∷◌, ◌≡◌, ◌⊎◌}
use Rattle.pipe_model.specs.Fallback.{front_of_posts, opens}
use Rattle.std.specs.Prelude.{Some, is_some, option_map, unwrap_or}
use Rattle.clc_wire.specs.declared.message.ClcMessage.TheVariants.{Accept as AcceptMessage, Confirm as ConfirmMessage, Decline as DeclineMessage, Proposal as ProposalMessage}
use Rattle.pipe_model.proofs.Pipes.{over-has-told}
use Rattle.pipe_model.specs.declared.event.Event.TheVariants.{Clc as ClcEvent}
use Rattle.pipe_model.specs.Handshake.{verdict}
use Rattle.pipe_model.specs.declared.reply.Reply.TheVariants.{Sent}
use Rattle.pipe_model.specs.declared.reply.SentKind.TheVariants.{ConfirmLink as LinkSent}
use Rattle.pipe_model.specs.Connections.{comes_up}
use Rattle.history_laws.specs.Words.{A, B, ClcFault, ClcMessage, EndState, Entry, Established, Faulty, HasFallen, RelendsOnlyDone, IsUp, Lending, LinkId, Lost, NoEnd, Offer, Offered, Ready, Setup, Side, WaitsAnswer, WaitsConfirm, WaitsLink, WaitsProposal, WasReset, after_clc, after_event, after_loss, early_state, element_size, end_state, expects, front, front_of, gives_up, group_of, group_on, half, has_ended, head, is_opened, is_out, is_over, is_raw, is_up, lacks, lendings, lends_by, lent, loses_group_with, new_offer, offered, other, part, pipe_of, step_told, stream, terms_of, untaken}
use Rattle.history_laws.specs.Made.{IsMadeAll, IsMade}
use Rattle.history_laws.specs.Offers.{HasOffers, HasStates, HasStream, IsProposed, NewLending, NoProposal, is_early, is_none}
use Rattle.history_laws.proofs.Offers.{Answers, ByVerdict, Does, DoesBegin, DoesNothing, DoesTake, ForFault, NotTaken, all-offers, answers, does, front-in, new-or-old, not-none, opens-new, state-early, state-up, states, taken-as}
use Rattle.history_laws.proofs.Basics.{by-bool, none-is, or-left, or-none, or-parts, or-true, some-is}
use Rattle.history_laws.specs.Lists.{IsAmong}
use Rattle.link_laws.specs.Lasting.{is_lost}
use Rattle.lending_laws.specs.Owed.{OwedFrom, OwedLendings, OwedWith}
use Rattle.lending_laws.proofs.Lendings.Fallen.{down-after, none-out, stream-after}
use Rattle.lending_laws.proofs.Lendings.Returns.{out-early, out-stays, same-link}
use Rattle.lending_laws.proofs.Lendings.Lendings.{all-lendings}
use Rattle.lending_laws.proofs.Lendings.Done.{all-returned, are-done, loss-ends}
use Rattle.lending_laws.proofs.Lendings.Owed.{all-psn, last-up, owed-now}
use Rattle.lending_laws.specs.Lendings.{AreApart, AreDone, AsOut, AsOver, HasElements, HasReturned, WithGroup}
use Rattle.lending_laws.proofs.Lendings.Places.{all-groups, is-lent}
use Rattle.lending_laws.proofs.Lendings.Apart.{are-apart, take-out, waits-stays}
use Rattle.lending_laws.specs.Reuse.{AreCarriedOn, CarriesNoBytes}
use Rattle.lending_laws.proofs.Lendings.Reuse.{no-bytes}

-- the streams after each history
pub all-streams : (setup : Setup) (payload : List ℕ) (past : List Entry) → IsMadeAll setup payload past → OwedFrom setup payload past → (s : ℕ) → HasStream s past
all-streams setup payload [] m w s = record { down = λ x n. refl; some = λ o. absurd (true≢false (sym o)); unopened = λ o. refl; shape = inl (λ p i. i); no_accept = λ o i. i; declined = λ r i. absurd i }
all-streams setup payload (e ∷ past) m w s = let rest = w.1 in stream-after setup payload e past m rest.0 s (all-streams setup payload past m.1 rest.1 s)

-- an end that waits for a CLC message, and may not offer any more, waits for the Confirm
waits-confirm : (st : EndState) → expects st ≡ true → is_early st ≡ false → st ≡ WaitsConfirm
waits-confirm NoEnd x e = absurd (true≢false e)
waits-confirm WaitsProposal x e = absurd (true≢false e)
waits-confirm WaitsAnswer x e = absurd (true≢false e)
waits-confirm WaitsConfirm x e = refl
waits-confirm WaitsLink x e = absurd (true≢false (sym x))
waits-confirm IsUp x e = absurd (true≢false (sym x))
waits-confirm HasFallen x e = absurd (true≢false (sym x))
waits-confirm (WasReset cause) x e = absurd (true≢false (sym x))

-- the managers' messages are whole
no-fault : (payload : List ℕ) (d : Side) (s : ℕ) (past : List Entry) (fault : ClcFault) → is_raw s past ≡ false → front payload d s past ≡ Faulty fault → ⊥
no-fault payload d s past fault r f = by (untaken d s past) (sym (ap (λ b. front_of b (stream payload d s past) (untaken d s past)) r) ∙ f)
  where
    by : (ms : List ClcMessage) → front_of_posts (head ms) ≡ Faulty fault → ⊥
    by [] g = cc
    by (n ∷ ms) g = cc

module _ (setup : Setup) (payload : List ℕ) (e : Entry) (past : List Entry) (m : IsMadeAll setup payload (e ∷ past)) (with_it : OwedWith e past) (w : OwedLendings setup payload past) (s : ℕ) (h : HasStream s past) where
  abbrev one : (before : ℕ) × IsMade setup payload past before e
  one = m.0

  abbrev st : HasStates s past
  st = states setup payload past m.1 s

  abbrev off : HasOffers s past
  off = all-offers setup payload past m.1 s

  -- A's end that is out, or isn't there on a raw socket, stays so
  a-stays : (is_opened s past || is_raw s past) ≡ true → is_out (end_state A s past) ≡ true → is_out (end_state A s (e ∷ past)) ≡ true
  a-stays known o = at (by-bool ((is_none (early_state A s past) ≡ true) ⊎ (is_none (early_state A s past) ≡ false)) (is_none (early_state A s past)) inl inr)
    where
      at : (is_none (early_state A s past) ≡ true) ⊎ (is_none (early_state A s past) ≡ false) → is_out (end_state A s (e ∷ past)) ≡ true
      at (inr n) = out-stays setup payload past one.0 e one.1 (states setup payload past m.1) (all-offers setup payload past m.1) with_it A s n o
      at (inl n) =
          let none : is_none (early_state A s (e ∷ past)) ≡ true = by-bool (is_none (early_state A s (e ∷ past)) ≡ true) (is_none (early_state A s (e ∷ past))) (λ k. k) (λ k. absurd (new k)) in
          ap is_out (state-early A s (e ∷ past) (down-after setup payload e past m with_it s h A none)) ∙ none-out (early_state A s (e ∷ past)) none
        where
          new : is_none (early_state A s (e ∷ past)) ≡ false → ⊥
          new k = by (let now = states setup payload (e ∷ past) m s in or-parts (opens s e.event e.reply) (is_opened s past) (now.opened k))
            where
              by : (opens s e.event e.reply ≡ true) ⊎ (is_opened s past ≡ true) → ⊥
              by (inl p) = true≢false (sym known ∙ opens-new setup payload past one.0 e one.1 s st p)
              by (inr p) = true≢false (sym n ∙ h.some p)

  raw-out : is_raw s past ≡ true → is_out (end_state A s (e ∷ past)) ≡ true
  raw-out r = a-stays (or-true (is_opened s past) (is_raw s past) r) (ap is_out (state-early A s past (h.down A none)) ∙ none-out (early_state A s past) none)
    where
      none : is_none (early_state A s past) ≡ true
      none = by-bool (is_none (early_state A s past) ≡ true) (is_none (early_state A s past)) (λ k. k) (λ k. absurd (true≢false (sym r ∙ st.apart (st.opened k))))

  -- B takes the Confirm of a group that has ended
  lost-ended : (o : Offered) → offered B s past ≡ Some o → is_out (end_state B s past) ≡ false → is_up B s past ≡ false → (c : Offer) → IsAmong (ConfirmMessage c) (untaken A s past) → (c.psn == group_of B past) ≡ false → has_ended B o.link.group past ≡ true
  lost-ended o i held low c j other-group =
      by (let are = all-lendings setup payload past m.1 B in all-returned setup payload past m.1 w B (lends_by s o.link o.offer) (are.offer_of s o i))
    where
      l : Lending
      l = lends_by s o.link o.offer

      link-is : (link : LinkId) → offered A s past ≡ Some (record { link = link; offer = c }) → link ≡ o.link
      link-is link k = some-is link o.link (sym (same-link setup payload past m.1 s (record { link = link; offer = c }) k) ∙ ap (λ q. option_map (λ (p : Offered). p.link) q) i)

      psn : c.psn ≡ o.link.group
      psn = (let q = off.confirmed c j in all-psn setup payload past m.1 A s (record { link = q.0; offer = c }) q.1 ∙ ap (λ (k : LinkId). k.group) (link-is q.0 q.1))

      by : IsAmong (lends_by s o.link o.offer) (lent setup payload B past) ⊎ HasReturned setup payload B (lends_by s o.link o.offer) past → has_ended B o.link.group past ≡ true
      by (inl k) = (let g = all-groups setup payload past m.1 w B (lends_by s o.link o.offer) k in absurd (true≢false (sym (eq-eqb c.psn (group_of B past) (psn ∙ g.0)) ∙ other-group)))
      by (inr (WithGroup g)) = g
      by (inr (AsOut q)) = absurd (true≢false (sym q ∙ held))
      by (inr (AsOver v)) =
          let now = owed-now setup payload past w in
          let group : o.link.group ≡ group_on s past = ap (λ q. unwrap_or (option_map (λ (k : LinkId). k.group) (option_map (λ (p : Offered). p.link) q)) 0) (sym i) in
          let both = over-has-told (terms_of setup) B (part payload (group_on s past) s past) (now.feasible s) (ap (λ g. is_over (half B (pipe_of setup payload g s past))) (sym group) ∙ v) in
          absurd (true≢false (sym (last-up (terms_of setup) B payload (group_on s past) s past both.0) ∙ low))

  abbrev Falls : Offered → Type 0
  Falls o = (is_out (end_state A s (e ∷ past)) ≡ true) ⊎ (has_ended B o.link.group (e ∷ past) ≡ true)

  -- B's end gives up
  gives-up : (o : Offered) → offered B s past ≡ Some o → is_out (end_state B s past) ≡ false → is_up B s past ≡ false → e.event ≡ ClcEvent s A → gives_up e.reply ≡ true → Falls o
  gives-up o i held low ev g = by (answers setup payload past one.0 e one.1 s A ev)
    where
      early : is_early (end_state B s past) ≡ false
      early = off.later B o i

      known : (is_opened s past || is_raw s past) ≡ true
      known = st.begun B (not-none (early_state B s past) (sym (ap is_early (state-early B s past low)) ∙ early))

      message : (n : ClcMessage) → IsAmong n (untaken A s past) → is_raw s past ≡ false → e.reply ≡ step_told (group_on s past) n (verdict false WaitsConfirm n (lacks setup payload B past)) → Falls o
      message (ProposalMessage p) j r q = at h.shape
        where
          at : NoProposal (untaken A s past) ⊎ IsProposed s past → Falls o
          at (inl f) = absurd (f p j)
          at (inr k) = absurd (true≢false (sym k.early ∙ early))
      message (AcceptMessage p) j r q = absurd (h.no_accept p j)
      message (DeclineMessage k) j r q = (let d = h.declined k j in inl (a-stays known d.0))
      message (ConfirmMessage c) j r q = by-bool (Falls o) (c.psn == group_of B past)
          (λ y. absurd (true≢false (sym g ∙ (ap gives_up (q ∙ ap (λ b. step_told (group_on s past) (ConfirmMessage c) (if b then Ready else Lost)) y) ∙ ready c.first))))
          (λ n. inr (or-true (loses_group_with B o.link.group e past) (has_ended B o.link.group past) (lost-ended o i held low c j n)))
        where
          ready : (b : Bool) → gives_up (if b then Sent LinkSent else Established) ≡ false
          ready true = refl
          ready false = refl

      by : Answers setup payload s A past e.reply → Falls o
      by (NotTaken r) = absurd (true≢false (sym g ∙ ap gives_up r))
      by (ForFault fault x f r) = by-bool (Falls o) (is_raw s past) (λ k. inl (raw-out k)) (λ k. absurd (no-fault payload A s past fault k f))
      by (ByVerdict n len x f r) = by-bool (Falls o) (is_raw s past) (λ k. inl (raw-out k))
          (λ k. message n (front-in payload A s past n len k f) k (r ∙ (ap (λ b. step_told (group_on s past) n (verdict b (end_state B s past) n (lacks setup payload B past))) k ∙ ap (λ q. step_told (group_on s past) n (verdict false q n (lacks setup payload B past))) (waits-confirm (end_state B s past) x early))))

  -- the row after the entry
  pub fallen-after : (o : Offered) → offered B s (e ∷ past) ≡ Some o → is_out (end_state B s (e ∷ past)) ≡ true → Falls o
  fallen-after o i out = by (new-or-old setup payload past one.0 e one.1 (states setup payload past m.1) (all-offers setup payload past m.1) B s)
    where
      low : is_up B s (e ∷ past) ≡ false
      low = by-bool (is_up B s (e ∷ past) ≡ false) (is_up B s (e ∷ past)) (λ u. absurd (true≢false (sym out ∙ ap is_out (state-up B s (e ∷ past) u)))) (λ u. u)

      mid : EndState
      mid = after_event B s e.event e.reply (early_state B s past)

      new : (n : NewLending setup payload B e past) → s ≡ n.s → Falls o
      new n is = absurd (true≢false (sym (out-early B s (e ∷ past) out)
          ∙ (ap (λ q. is_out (after_loss (loses_group_with B (group_on s past) e past) (group_on s past) q)) (taken-as B s e (early_state B s past) (n.event_is ∙ ap (λ t. ClcEvent t A) (sym is)) ∙ ap (λ r. after_clc r (early_state B s past)) n.reply_is)
          ∙ waits-stays (loses_group_with B (group_on s past) e past) (group_on s past))))

      held : offered B s past ≡ Some o → is_out (end_state B s past) ≡ false → Falls o
      held j n = go (by-bool ((is_out (after_event B s e.event e.reply (early_state B s past)) ≡ true) ⊎ (is_out (after_event B s e.event e.reply (early_state B s past)) ≡ false)) (is_out (after_event B s e.event e.reply (early_state B s past))) inl inr)
        where
          was : (is_some (comes_up B s e past) ≡ false) × (is_up B s past ≡ false)
          was = or-none (is_some (comes_up B s e past)) (is_up B s past) low

          early-out : is_out (early_state B s past) ≡ false
          early-out = sym (ap is_out (state-early B s past was.1)) ∙ n

          some : is_none (early_state B s past) ≡ false
          some = not-none (early_state B s past) (sym (ap is_early (state-early B s past was.1)) ∙ off.later B o j)

          by : Does B s e (early_state B s past) (after_event B s e.event e.reply (early_state B s past)) → is_out (after_event B s e.event e.reply (early_state B s past)) ≡ true → Falls o
          by (DoesNothing k) c = absurd (true≢false (sym c ∙ (ap is_out k ∙ early-out)))
          by (DoesTake ev k) c = gives-up o j n was.1 ev (take-out e.reply (early_state B s past) early-out (sym (ap is_out k) ∙ c))
          by (DoesBegin z b k) c = absurd (true≢false (sym z ∙ some))

          go : (is_out (after_event B s e.event e.reply (early_state B s past)) ≡ true) ⊎ (is_out (after_event B s e.event e.reply (early_state B s past)) ≡ false) → Falls o
          go (inl c) = by (does setup payload past one.0 e one.1 s (st.begun B some) B (early_state B s past)) c
          go (inr c) =
              let lost = loss-ends (loses_group_with B (group_on s past) e past) (group_on s past) (after_event B s e.event e.reply (early_state B s past)) c (out-early B s (e ∷ past) out) in
              inr (or-left (loses_group_with B o.link.group e past) (has_ended B o.link.group past) (ap (λ q. loses_group_with B (unwrap_or (option_map (λ (k : LinkId). k.group) (option_map (λ (p : Offered). p.link) q)) 0) e past) (sym j) ∙ lost))

      old : offered B s past ≡ Some o → Falls o
      old j = by-bool (Falls o) (is_out (end_state B s past)) (λ p. at p (let now = owed-now setup payload past w in now.fallen s o j p)) (held j)
        where
          at : is_out (end_state B s past) ≡ true → (is_out (end_state A s past) ≡ true) ⊎ (has_ended B o.link.group past ≡ true) → Falls o
          at p (inl a) = inl (a-stays (st.begun B (by-bool (is_none (early_state B s past) ≡ false) (is_none (early_state B s past)) (λ n. absurd (true≢false (sym (none-is-early (early_state B s past) n) ∙ (ap is_early (sym (state-early B s past (h.down B n))) ∙ off.later B o j)))) (λ n. n))) a)
            where
              none-is-early : (q : EndState) → is_none q ≡ true → is_early q ≡ true
              none-is-early NoEnd k = refl
              none-is-early WaitsProposal k = cc
              none-is-early WaitsAnswer k = cc
              none-is-early WaitsConfirm k = cc
              none-is-early WaitsLink k = cc
              none-is-early IsUp k = cc
              none-is-early HasFallen k = cc
              none-is-early (WasReset cause) k = cc
          at p (inr g) = inr (or-true (loses_group_with B o.link.group e past) (has_ended B o.link.group past) g)

      by : (offered B s (e ∷ past) ≡ offered B s past) ⊎ ((n : NewLending setup payload B e past) × ((s ≡ n.s) × (offered B s (e ∷ past) ≡ Some (record { link = n.link; offer = new_offer setup payload B n.first n.link past })))) → Falls o
      by (inl same) = old (sym same ∙ i)
      by (inr q) = (let r = q.1 in new q.0 r.0)

-- all that lendings want, after each history
pub all-owed : (setup : Setup) (payload : List ℕ) (past : List Entry) → IsMadeAll setup payload past → OwedFrom setup payload past → OwedLendings setup payload past
all-owed setup payload [] m b = record { known = b.known; own = b.own; feasible = b.feasible; fallen = λ s o i p. absurd (none-is o i) }
all-owed setup payload (e ∷ past) m b =
    let rest = b.1 in
    let w = all-owed setup payload past m.1 rest.1 in
    let now = b.0 in
    (record { known = now.known; own = now.own; feasible = now.feasible; fallen = λ s. fallen-after setup payload e past m rest.0 w s (all-streams setup payload past m.1 rest.1 s) }, (rest.0, w))

-- lendings, their end and reuse, from five premises
module _ (setup : Setup) (payload : List ℕ) where
  pub are-apart-all : HasElements setup → (past : List Entry) → IsMadeAll setup payload past → OwedFrom setup payload past → (x : Side) → AreApart setup payload x past
  are-apart-all elements past m b x = are-apart setup elements payload past m (all-owed setup payload past m b) x

  pub are-done-all : (past : List Entry) → IsMadeAll setup payload past → OwedFrom setup payload past → (x : Side) → AreDone setup payload x past
  are-done-all past m b x = are-done setup payload past m (all-owed setup payload past m b) x

  pub relends-all : HasElements setup → (e : Entry) (past : List Entry) → IsMadeAll setup payload (e ∷ past) → OwedFrom setup payload past → (x : Side) → RelendsOnlyDone x e past
  relends-all elements e past m b x = is-lent setup elements payload e past m (all-owed setup payload past m.1 b) x

  pub reuse : (past : List Entry) → IsMadeAll setup payload past → OwedFrom setup payload past → AreCarriedOn setup payload past → (y : Side) (l : Lending) → IsAmong l (lendings y past) → (IsAmong l (lent setup payload y past) → ⊥) → has_ended y l.group past ≡ false
      → (link : LinkId) → is_lost (other y) link past ≡ false → CarriesNoBytes (element_size setup) link (other y) l past
  reuse past m b = no-bytes setup payload past m (all-owed setup payload past m b)
