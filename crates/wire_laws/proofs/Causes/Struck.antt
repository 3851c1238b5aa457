-- Each cause that an end of a private pipe keeps is shown in the history; or the end is not up and will not come up any more.
use Rattle.std.proofs.Common.{Bool, List, [], ap, arith, eq-eqb, eqb-true, false, if◌then◌else◌, inl, inr, refl, subst, sym, true, true≢false, ℕ, ◌%◌, ◌&&◌, ◌++◌, ◌+◌, ◌==◌, ◌||◌, ◌∙◌, ◌∷◌, ◌≡◌, ◌⊎◌}
use Rattle.std.specs.Prelude.{None, Option, Some, is_some, nat_lt, option_map, unwrap_or, not, ◌-◌}
use Rattle.pipe_model.proofs.Lawful.{told-by-pipe}
use Rattle.pipe_model.specs.Calls.{Moves, Plain, half_told}
use Rattle.pipe_model.specs.Causes.{HasAborted, HasHappened, HasMetAbort, HasMetGap, IsAbort, IsGap, LandsMessage, is_abort, is_message, is_settled, tells_number}
use Rattle.pipe_model.specs.Closing.{abort_told}
use Rattle.pipe_model.specs.Connections.{comes_up, token_of}
use Rattle.pipe_model.specs.Fabric.{after}
use Rattle.pipe_model.specs.Replies.{told}
use Rattle.pipe_model.specs.declared.closing.Phase.{Phase}
use Rattle.pipe_model.specs.declared.closing.Phase.TheVariants.{AbortDone, AbortPosted, CloseDone, ClosePosted, Closing, Finished, GroupGone, Open, Resetting}
use Rattle.pipe_model.specs.declared.event.Event.TheVariants.{Clc as ClcEvent}
use Rattle.pipe_model.specs.declared.flow.FlowStep.TheVariants.{Live}
use Rattle.pipe_model.specs.declared.reply.ResetCause.{ResetCause}
use Rattle.pipe_model.specs.declared.reply.ResetCause.TheVariants.{OwnAbort}
use Rattle.pipe_model.specs.declared.sent.Sent.{Sent}
use Rattle.pipe_model.specs.declared.snapshot.Snapshot.{Snapshot}
use Rattle.pipe_model.specs.Fabric.{does}
use Rattle.history_laws.specs.Words.{A, Abort, Aborts, Act, B, BadClc, BadStep, Calls, CdcMessage, Deliver, Done, Dropped, EndState, Entry, Fabric, FlowStep, Gap, HasFallen, Half, IsUp, Item, Landed, Lending, LinkId, LlcMessage, NoEnd, NoLiveLink, Offered, PeerAbort, Setup, Side, Terms, WaitsAnswer, WaitsConfirm, WaitsLink, WaitsProposal, WasReset, act_by, act_in, cause_of, confirmed_by, deeds, early_state, element_size, end_state, fabric, group_of, group_on, half, has_ended, head, is_out, is_over, is_up, loses_group_with, offered, other, part, passes, peer, pipe, pipe_of, record_of, reply_of, same_side, shows_gap, spelled, step, terms_of, to_land, up_by, validation, wire_number}
use Rattle.std.specs.Prelude.{option_and_then}
use Rattle.history_laws.specs.Made.{IsMade, IsMadeAll}
use Rattle.history_laws.specs.Offers.{HasOffers, is_early}
use Rattle.history_laws.specs.Wires.{message}
use Rattle.history_laws.proofs.Basics.{by-bool, none-is, or-left, or-true, same-self, some-is}
use Rattle.history_laws.proofs.Items.{Deed, MoveDeed, NoDeed, Shape, below, items-are, pipe-is-up, shape}
use Rattle.history_laws.proofs.Offers.{all-offers, kept, state-early, state-up, states}
use Rattle.link_laws.specs.Awaited.{AreOnKnown}
use Rattle.link_laws.specs.Joined.{HasContact}
use Rattle.link_laws.proofs.Fabric.{fabric-taken}
use Rattle.link_laws.proofs.Joined.{flows-of, has-contact}
use Rattle.link_laws.proofs.Lasting.{entered}
use Rattle.link_laws.proofs.Waiting.{by-kind}
use Rattle.lending_laws.proofs.Ends.{up-in-group}
use Rattle.wire_laws.specs.Agreement.{IsItsGroup}
use Rattle.wire_laws.proofs.Causes.Dropped.{ended-stands, gone-by}
use Rattle.wire_laws.proofs.Causes.Early.{HasOffered}
use Rattle.wire_laws.proofs.Causes.Entries.{OfAbort, abort-deed, below-none, beneath, landing-deed, no-end, none-up}
use Rattle.wire_laws.proofs.Causes.Groups.{AreOf, is-shut}
use Rattle.wire_laws.proofs.Causes.Landing.{HasLanded, has-landed}
use Rattle.wire_laws.proofs.Causes.Parts.{IsEnded, below-strike, is-its, its-before, of-below, of-part}
use Rattle.wire_laws.proofs.Causes.Phases.{Has}
use Rattle.wire_laws.proofs.Causes.Settled.{early-down, early-stays, group-stays, up-offered, with-it}
use Rattle.wire_laws.proofs.Causes.Strikes.{ByCall, ByEnd, ByMessage, IsStruck, IsTaken, strike}

-- what the history shows for a cause that an end of a pipe keeps
abbrev pub IsMet : Setup → List ℕ → Side → ℕ → List Entry → ResetCause → Type 0
IsMet setup payload x s past OwnAbort = HasAborted x s past
IsMet setup payload x s past PeerAbort = HasOffered x s past × HasMetAbort x s past
IsMet setup payload x s past (NoLiveLink group) = (group ≡ group_on s past) × ((has_ended x group past ≡ true) × HasOffered B s past)
IsMet setup payload x s past (Gap told taken) = HasOffered x s past × HasMetGap setup payload x s told taken past
IsMet setup payload x s past (BadClc fault) = ⊥
IsMet setup payload x s past (BadStep kind) = ⊥

-- that an end is not up, and its group has ended or it has left its handshake
pub record IsAway (x : Side) (s g : ℕ) (past : List Entry) : Type 0 where
  pub low : is_up x s past ≡ false
  pub why : (has_ended x g past ≡ true) ⊎ (is_settled (early_state x s past) ≡ true)

-- that each cause of an end of a pipe is shown, if it counts
abbrev pub AreMet : Setup → List ℕ → Side → ℕ → ℕ → List Entry → Type 0
AreMet setup payload x s g past = (c : ResetCause) → Has c (half x (pipe_of setup payload g s past)).phase → IsMet setup payload x s past c ⊎ IsAway x s g past

-- numbers on the wire compare as they do
gap-same : (a b : ℕ) → shows_gap (wire_number a) (wire_number b) ≡ shows_gap a b
gap-same a b =
    let p : wire_number (wire_number a) ≡ wire_number a = omega arith in
    let q : wire_number (wire_number b) ≡ wire_number b = omega arith in
    ap (λ n. compare n (wire_number (wire_number b))) p ∙ ap (λ n. compare (wire_number a) n) q
  where
    compare : ℕ → ℕ → Bool
    compare n k = nat_lt 0 ((n + (65_536 - k)) % 65_536) && nat_lt ((n + (65_536 - k)) % 65_536) 32_768

-- the CDC message of an aborted snapshot tells so
spells-abort : (size token : ℕ) (s : Snapshot) → s.aborted ≡ true → is_abort (spelled size token s) ≡ true
spells-abort size token s a = by s.done s.closed s.aborted a
  where
    by : (d c b : Bool) → b ≡ true → nat_lt 0x1f (((if d then 0x80 else 0) + ((if c then 0x40 else 0) + (if b then 0x20 else 0))) % 0x40) ≡ true
    by true true true e = refl
    by true false true e = refl
    by false true true e = refl
    by false false true e = refl
    by d c false e = absurd (true≢false (sym e))

-- an abort that counts finds no cause
done-none : (p : Phase) → abort_told p ≡ Done → cause_of p ≡ None
done-none Open e = refl
done-none Finished e = refl
done-none Closing e = refl
done-none ClosePosted e = refl
done-none CloseDone e = refl
done-none (Resetting d) e = cc
done-none (AbortPosted d) e = cc
done-none (AbortDone d) e = cc
done-none (GroupGone g) e = cc

out-settled : (state : EndState) → is_early state ≡ false → is_out state ≡ true → is_settled state ≡ true
out-settled NoEnd e o = absurd (true≢false e)
out-settled WaitsProposal e o = absurd (true≢false e)
out-settled WaitsAnswer e o = absurd (true≢false e)
out-settled WaitsConfirm e o = absurd (true≢false (sym o))
out-settled WaitsLink e o = absurd (true≢false (sym o))
out-settled IsUp e o = refl
out-settled HasFallen e o = refl
out-settled (WasReset cause) e o = refl

settled-out : (state : EndState) → (state ≡ IsUp → ⊥) → is_settled state ≡ true → is_out state ≡ true
settled-out NoEnd n e = refl
settled-out WaitsProposal n e = absurd (true≢false (sym e))
settled-out WaitsAnswer n e = absurd (true≢false (sym e))
settled-out WaitsConfirm n e = absurd (true≢false (sym e))
settled-out WaitsLink n e = absurd (true≢false (sym e))
settled-out IsUp n e = absurd (n refl)
settled-out HasFallen n e = refl
settled-out (WasReset cause) n e = refl

module _ (setup : Setup) (payload : List ℕ) (e : Entry) (past : List Entry) (m : IsMadeAll setup payload (e ∷ past)) (known : AreOnKnown setup (e ∷ past)) (x : Side) (s g : ℕ) (its : IsItsGroup g s (e ∷ past)) where
  abbrev one : (before : ℕ) × IsMade setup payload past before e
  one = m.0

  abbrev T : Terms
  T = terms_of setup

  abbrev P : List Item
  P = part payload g s past

  abbrev Bs : List Item
  Bs = below g s e past

  abbrev Ds : List Item
  Ds = deeds payload s e.event e.reply past

  abbrev H : Half
  H = half x (pipe T P)

  abbrev M : Half
  M = half x (pipe T (Bs ++ P))

  was-its : IsItsGroup g s past
  was-its = its-before setup payload e past m s g its

  offer-stays : (y : Side) → HasOffered y s past → HasOffered y s (e ∷ past)
  offer-stays y q = (q.0, kept setup payload past one.0 e one.1 (states setup payload past m.1) (all-offers setup payload past m.1) y s q.0 q.1)

  b-of : (y : Side) → HasOffered y s past → HasOffered B s past
  b-of B q = q
  b-of A q = by (offered B s past) refl
    where
      by : (o : Option Offered) → offered B s past ≡ o → HasOffered B s past
      by None i = let h : HasOffers s past = all-offers setup payload past m.1 s in absurd (none-is q.0 (sym (h.answer i) ∙ q.1))
      by (Some o) i = (o, i)

  group-of-b : HasOffered B s past → g ≡ group_on s past
  group-of-b q = is-its g s past was-its q.0 q.1

  group-now : HasOffered B s past → group_on s (e ∷ past) ≡ group_on s past
  group-now q = group-stays setup payload e past m s q.0 q.1

  token-now : HasOffered x s past → token_of x s (e ∷ past) ≡ token_of x s past
  token-now q = let k = offer-stays x q in ap (λ o. unwrap_or (option_map (λ (p : Offered). p.offer.token) o) 0) (kept setup payload past one.0 e one.1 (states setup payload past m.1) (all-offers setup payload past m.1) x s q.0 q.1) ∙ sym (ap (λ o. unwrap_or (option_map (λ (p : Offered). p.offer.token) o) 0) q.1)

  -- what was shown is shown
  met-stays : (c : ResetCause) → IsMet setup payload x s past c → IsMet setup payload x s (e ∷ past) c
  met-stays OwnAbort p = inr p
  met-stays PeerAbort p = (offer-stays x p.0, subst (λ t. HasHappened (λ f older. LandsMessage is_abort x t f.event f.reply older) (e ∷ past)) (sym (token-now p.0)) (inr p.1))
  met-stays (NoLiveLink n) p = let q = p.1 in (p.0 ∙ sym (group-now q.1), (or-true (loses_group_with x n e past) (has_ended x n past) q.0, offer-stays B q.1))
  met-stays (Gap told taken) p = (offer-stays x p.0, subst (λ n. HasHappened (IsGap setup payload x s n told taken) (e ∷ past)) (sym (group-now (b-of x p.0))) (inr p.1))
  met-stays (BadClc fault) p = p
  met-stays (BadStep kind) p = p

  -- who comes up is in its group, and had not left its handshake
  not-away : (link : LinkId) → comes_up x s e past ≡ Some link → (has_ended x g past ≡ true) ⊎ (is_settled (early_state x s past) ≡ true) → is_up x s past ≡ false → ⊥
  not-away link u (inl h) low =
      let q = up-in-group setup payload e past m (entered setup payload e past m (flows-of setup payload (e ∷ past) m)) x s link u in
      let c : HasContact past = has-contact setup payload past m.1 in
      let o = c.contacted.offers in
      let group : group_of x past ≡ g = q.1.1 ∙ sym (is-its g s past was-its q.0 q.1.0 ∙ ap (λ r. unwrap_or (option_map (λ (l : LinkId). l.group) (option_map (λ (p : Offered). p.link) r)) 0) q.1.0) in
      true≢false (sym h ∙ (ap (λ n. has_ended x n past) (sym group) ∙ o.stands x (λ z. o.some s q.0 q.1.0 (sym q.1.1 ∙ z))))
  not-away link u (inr h) low = true≢false (sym (ap is_out (state-early x s past low) ∙ settled-out (early_state x s past) (early-down x s past) h) ∙ (let w = with-it setup payload e past m known in w.waits x s link u))

  away-stays : IsAway x s g past → IsAway x s g (e ∷ past)
  away-stays a = record { low = by (comes_up x s e past) refl; why = why a.why }
    where
      by : (c : Option LinkId) → comes_up x s e past ≡ c → is_up x s (e ∷ past) ≡ false
      by None i = ap (λ c. is_some c || is_up x s past) i ∙ a.low
      by (Some link) i = absurd (not-away link i a.why a.low)

      why : (has_ended x g past ≡ true) ⊎ (is_settled (early_state x s past) ≡ true) → (has_ended x g (e ∷ past) ≡ true) ⊎ (is_settled (early_state x s (e ∷ past)) ≡ true)
      why (inl h) = inl (or-true (loses_group_with x g e past) (has_ended x g past) h)
      why (inr h) = inr (ap is_settled (early-stays setup payload e past m known x s a.low h) ∙ h)

  abbrev Goal : ResetCause → Type 0
  Goal c = IsMet setup payload x s (e ∷ past) c ⊎ IsAway x s g (e ∷ past)

  -- no end comes up as its group ends
  up-keeps : (link : LinkId) → comes_up x s e past ≡ Some link → loses_group_with x g e past ≡ false
  up-keeps link u = ap (λ n. not (g == 0) && ((group_of x past == g) && not (n == g))) (by-kind setup payload e past m s (group_of x (e ∷ past) ≡ group_of x past) x link u
      (λ ev r n. ap (λ f. (peer x f).group) (ap (λ v. after v e.reply e.posts past (fabric past)) ev ∙ ap (λ q. after (ClcEvent s (other x)) q e.posts past (fabric past)) r))
      (λ f. acted (act_in x e past) refl f)) ∙ and-not (not (g == 0)) (group_of x past == g)
    where
      and-not : (a b : Bool) → (a && (b && not b)) ≡ false
      and-not true true = refl
      and-not true false = refl
      and-not false b = refl

      same : (z : Side) (l : LinkId) (n : LlcMessage) (reply first : Bool) (f : Fabric) → (peer z (does z l n (Live reply first) f)).group ≡ (peer z f).group
      same A l n reply first f = refl
      same B l n reply first f = refl

      by-step : (act : Act) → act_in x e past ≡ Some act → (w : FlowStep) → act.step ≡ w → confirmed_by (offered B s past) act.link w ≡ Some link → group_of x (e ∷ past) ≡ group_of x past
      by-step act i (Live reply true) q k = ap (λ f. (peer x f).group) (fabric-taken x e past act i ∙ ap (λ w. does x act.link act.message w (fabric past)) q) ∙ same x act.link act.message reply true (fabric past)
      by-step act i w q k = absurd (none-is link k)

      acted : (a : Option Act) → act_in x e past ≡ a → option_and_then (λ act. confirmed_by (offered B s past) act.link act.step) a ≡ Some link → group_of x (e ∷ past) ≡ group_of x past
      acted None i k = absurd (none-is link k)
      acted (Some act) i k = by-step act i act.step refl k

  -- the group ends with the entry
  ended-met : (c : ResetCause) → IsEnded T x g s e past P c → Goal c
  ended-met c d = by (comes_up x s e past) refl
    where
      ends : has_ended x g (e ∷ past) ≡ true
      ends = or-left (loses_group_with x g e past) (has_ended x g past) d.lost

      was-up : is_up x s past ≡ true → Goal c
      was-up u =
          let o = up-offered setup payload past m.1 x s u in
          let is : d.group ≡ g = d.own (pipe-is-up T x payload g s past ∙ u) in
          inl (subst (IsMet setup payload x s (e ∷ past)) (sym d.cause_is) (is ∙ (group-of-b o ∙ sym (group-now o)), (ap (λ n. has_ended x n (e ∷ past)) is ∙ ends, offer-stays B o)))

      by : (k : Option LinkId) → comes_up x s e past ≡ k → Goal c
      by (Some link) i = absurd (true≢false (sym d.lost ∙ up-keeps link i))
      by None i = by-bool (Goal c) (is_up x s past) was-up (λ u. inr (record { low = ap (λ k. is_some k || is_up x s past) i ∙ u; why = inl ends }))

  -- below the deeds
  below-met : AreMet setup payload x s g past → (c : ResetCause) → Has c M.phase → Goal c
  below-met was c h = by (below-strike T x g s e past P c Bs (λ i j. beneath g s e past i j) (both Bs P (of-below setup payload e past m s g was-its) (of-part setup payload past m.1 s g was-its)) h)
    where
      both : (is js : List Item) → AreOf g is → AreOf g js → AreOf g (is ++ js)
      both [] js p q = q
      both (i ∷ is) js p q = (p.0, both is js p.1 q)

      old : IsMet setup payload x s past c ⊎ IsAway x s g past → Goal c
      old (inl p) = inl (met-stays c p)
      old (inr a) = inr (away-stays a)

      by : Has c H.phase ⊎ IsEnded T x g s e past P c → Goal c
      by (inl f) = old (was c f)
      by (inr d) = ended-met c d

  -- its application aborts
  abort-met : Ds ≡ Calls x Aborts ∷ [] → abort_told M.phase ≡ Done → HasAborted x s (e ∷ past)
  abort-met ds a = inl (subst (λ v. IsAbort x s v e.reply) (sym d.event_is) (subst (λ r. IsAbort x s (Abort d.end) r) (sym reply-is) (ap (λ b. b && (s == d.end.s)) (ap (λ z. same_side x z) d.side ∙ same-self x) ∙ d.socket)))
    where
      d : OfAbort x s e.event past
      d = abort-deed payload x s e.event e.reply past ds

      still : fabric (e ∷ past) ≡ fabric past
      still = ap (λ v. after v e.reply e.posts past (fabric past)) d.event_is

      up-by-none : (y : Side) → up_by y s e.event e.reply past ≡ None
      up-by-none A = ap (λ v. up_by A s v e.reply past) d.event_is
      up-by-none B = ap (λ v. up_by B s v e.reply past) d.event_is

      act-none : (y : Side) → act_in y e past ≡ None
      act-none A = ap (λ v. act_by A v e.reply past) d.event_is
      act-none B = ap (λ v. act_by B v e.reply past) d.event_is

      alone : Bs ≡ []
      alone = below-none g s e past still (none-up s e past up-by-none act-none)

      socket : s ≡ d.end.s
      socket = eqb-true s d.end.s d.socket

      own-up : is_up x s past ≡ true
      own-up = ap (λ z. is_up z s past) (sym d.side) ∙ d.up

      group : g ≡ group_on s past
      group = group-of-b (up-offered setup payload past m.1 x s own-up)

      state : end_state d.end.side d.end.s past ≡ IsUp
      state = state-up d.end.side d.end.s past (ap (λ t. is_up d.end.side t past) (sym socket) ∙ d.up)

      here : abort_told (half d.end.side (pipe_of setup payload (group_on d.end.s past) d.end.s past)).phase ≡ Done
      here = ap (λ z. abort_told (half z (pipe_of setup payload (group_on d.end.s past) d.end.s past)).phase) d.side ∙ (ap (λ t. abort_told (half x (pipe_of setup payload (group_on t past) t past)).phase) (sym socket) ∙
          (ap (λ n. abort_told (half x (pipe_of setup payload n s past)).phase) (sym group) ∙ (ap (λ is. abort_told (half x (pipe T (is ++ P))).phase) (sym alone) ∙ a)))

      told-done : (size : ℕ) (h : Half) (out : List ℕ) → abort_told h.phase ≡ Done → half_told size Aborts h out (cause_of h.phase) ≡ Plain Done
      told-done size h out q = ap (half_told size Aborts h out) (done-none h.phase q) ∙ ap (λ r. Plain r) q

      reply-is : e.reply ≡ Done
      reply-is =
          let made = one.1 in
          made.reply ∙ ap (reply_of one.0) (ap (told setup payload past) d.event_is ∙ (told-by-pipe setup payload d.end Aborts past state ∙
          told-done (element_size setup) (half d.end.side (pipe_of setup payload (group_on d.end.s past) d.end.s past)) (half (other d.end.side) (pipe_of setup payload (group_on d.end.s past) d.end.s past)).out here))

  -- a message of its peer lands
  message-met : (c : ResetCause) → HasLanded setup payload x s e past → (k : Sent) → head (to_land (half (other x) (pipe T (Bs ++ P)))) ≡ Some k → IsTaken k M c → Goal c
  message-met c l k first t = by (is_some (record_of setup payload x l.message_is.token past)) refl
    where
      alone : Bs ≡ []
      alone = l.alone g

      mine : HasOffered x s past
      mine = (l.offer, l.offered_is)

      group : g ≡ group_on s past
      group = group-of-b (b-of x mine)

      same : l.sent ≡ k
      same = some-is l.sent k (sym l.sent_is ∙ (ap (λ n. head (to_land (half (other x) (pipe_of setup payload n s past)))) (sym group) ∙ (ap (λ is. head (to_land (half (other x) (pipe T (is ++ P))))) (sym alone) ∙ first)))

      here : IsTaken k H c
      here = subst (λ is. IsTaken k (half x (pipe T (is ++ P))) c) alone t

      spelled-by : l.message_is ≡ message (element_size setup) l.message_is.token k
      spelled-by = l.spells ∙ ap (λ n. message (element_size setup) l.message_is.token n) same

      -- the message passes a test, under the token of the end
      passed : (f : CdcMessage → Bool) (token : ℕ) → token ≡ l.message_is.token → f l.message_is ≡ true → LandsMessage f x token (Deliver l.slot (other x)) (Landed l.place) past
      passed f token q h = ap (λ o. passes (is_message f x token) o) l.post_is ∙ (ap (λ b. (b && (token == l.message_is.token)) && f l.message_is) (same-self (other x)) ∙ (ap (λ b. b && f l.message_is) (eq-eqb token l.message_is.token q) ∙ h))

      own-token : token_of x s past ≡ l.message_is.token
      own-token = ap (λ o. unwrap_or (option_map (λ (p : Offered). p.offer.token) o) 0) l.offered_is ∙ sym l.token

      with-event : (f : CdcMessage → Bool) (token : ℕ) → e.reply ≡ Landed l.place → LandsMessage f x token (Deliver l.slot (other x)) (Landed l.place) past → LandsMessage f x token e.event e.reply past
      with-event f token r p = subst (λ v. LandsMessage f x token v e.reply past) (sym l.event_is) (subst (λ q. LandsMessage f x token (Deliver l.slot (other x)) q past) (sym r) p)

      landed : e.reply ≡ Landed l.place → Goal c
      landed r = tell here.told
        where
          tell : ((k.check ≡ false) × ((k.snapshot.aborted ≡ true) × (c ≡ PeerAbort))) ⊎ ((k.check ≡ true) × ((shows_gap k.snapshot.number H.taken.number ≡ true) × (c ≡ Gap (wire_number k.snapshot.number) (wire_number H.taken.number)))) → Goal c
          tell (inl q) =
              let w = q.1 in
              let is : l.message_is ≡ spelled (element_size setup) l.message_is.token k.snapshot = spelled-by ∙ ap (λ b. if b then validation (element_size setup) l.message_is.token k.snapshot else spelled (element_size setup) l.message_is.token k.snapshot) q.0 in
              let tells : is_abort l.message_is ≡ true = ap is_abort is ∙ spells-abort (element_size setup) l.message_is.token k.snapshot w.0 in
              inl (subst (IsMet setup payload x s (e ∷ past)) (sym w.1) (offer-stays x mine, inl (with-event is_abort (token_of x s (e ∷ past)) r (passed is_abort (token_of x s (e ∷ past)) (token-now mine ∙ own-token) tells))))
          tell (inr q) =
              let w = q.1 in
              let is : l.message_is ≡ validation (element_size setup) l.message_is.token k.snapshot = spelled-by ∙ ap (λ b. if b then validation (element_size setup) l.message_is.token k.snapshot else spelled (element_size setup) l.message_is.token k.snapshot) q.0 in
              let number : wire_number k.snapshot.number ≡ l.message_is.number = sym (ap (λ (n : CdcMessage). n.number) is) in
              let tells : tells_number (wire_number k.snapshot.number) l.message_is ≡ true = ap (λ (n : CdcMessage). not (n.producer == 0) && (l.message_is.number == wire_number k.snapshot.number)) is ∙ eq-eqb l.message_is.number (wire_number k.snapshot.number) (sym number) in
              inl (subst (IsMet setup payload x s (e ∷ past)) (sym w.1) (
                offer-stays x mine,
                subst (λ n. HasHappened (IsGap setup payload x s n (wire_number k.snapshot.number) (wire_number H.taken.number)) (e ∷ past)) (group ∙ sym (group-now (b-of x mine)))
                    (inl (with-event (tells_number (wire_number k.snapshot.number)) (token_of x s past) r (passed (tells_number (wire_number k.snapshot.number)) (token_of x s past) own-token tells), refl, gap-same k.snapshot.number H.taken.number ∙ w.0)),
              ))

      -- it is dropped: then nothing strikes an end that is up
      dropped : record_of setup payload x l.message_is.token past ≡ None → Goal c
      dropped none = gone (gone-by setup payload past m.1 known.1 x s l.offer l.offered_is (ap (λ n. record_of setup payload x n past) (sym l.token) ∙ none))
        where
          gone : (has_ended x (group_on s past) past ≡ true) ⊎ ((is_out (end_state x s past) ≡ true) ⊎ (is_over (half x (pipe_of setup payload (group_on s past) s past)) ≡ true)) → Goal c
          gone (inl h) =
              let st : H.stands ≡ false = ap (λ n. (half x (pipe_of setup payload n s past)).stands) group ∙ ended-stands setup payload past m.1 known.1 x s l.offer l.offered_is h in
              absurd (true≢false (sym here.stood ∙ is-shut T x P st))
          gone (inr (inr o)) = absurd (true≢false (sym (ap (λ n. is_over (half x (pipe_of setup payload n s past))) group ∙ o) ∙ here.over))
          gone (inr (inl o)) =
              let off : HasOffers s past = all-offers setup payload past m.1 s in
              let low : is_up x s past ≡ false = by-bool (is_up x s past ≡ false) (is_up x s past) (λ u. absurd (true≢false (sym o ∙ ap is_out (state-up x s past u)))) (λ u. u) in
              inr (away-stays (record { low = low; why = inr (out-settled (early_state x s past) (sym (ap is_early (state-early x s past low)) ∙ off.later x l.offer l.offered_is) (sym (ap is_out (state-early x s past low)) ∙ o)) }))

      none-of : (o : Option Lending) → is_some o ≡ false → o ≡ None
      none-of None q = refl
      none-of (Some a) q = absurd (true≢false q)

      by : (b : Bool) → is_some (record_of setup payload x l.message_is.token past) ≡ b → Goal c
      by true q = landed (l.replies ∙ ap (λ b. if b then Landed l.place else Dropped l.message_is.token) q)
      by false q = dropped (none-of (record_of setup payload x l.message_is.token past) q)

  -- by the deed
  deed-met : AreMet setup payload x s g past → (c : ResetCause) (item : Item) → Ds ≡ item ∷ [] → Has c (half x (step T item (pipe T (Bs ++ P)))).phase → Goal c
  deed-met was c item ds h = by (strike c T x item (pipe T (Bs ++ P)) h)
    where
      by : Has c M.phase ⊎ IsStruck x item (pipe T (Bs ++ P)) c → Goal c
      by (inl f) = below-met was c f
      by (inr (ByCall i q a)) = inl (subst (IsMet setup payload x s (e ∷ past)) (sym q) (abort-met (ds ∙ ap (λ j. j ∷ []) i) a))
      by (inr (ByEnd i q)) = absurd (no-end payload x s e.event e.reply past (ds ∙ ap (λ j. j ∷ []) i))
      by (inr (ByMessage i k first t)) = message-met c (has-landed setup payload e past m known x s (landing-deed payload (other x) s e.event e.reply past (ds ∙ ap (λ j. j ∷ []) i))) k first t

  pub met-step : AreMet setup payload x s g past → AreMet setup payload x s g (e ∷ past)
  met-step was c h = by (shape payload s e.actor e.posts e.reply past e.event)
    where
      all : Has c (half x (pipe T ((Ds ++ Bs) ++ P))).phase
      all = subst (λ is. Has c (half x (pipe T (is ++ P))).phase) (items-are payload g s e past) h

      by : Shape s e past Ds → Goal c
      by (NoDeed d) = below-met was c (subst (λ is. Has c (half x (pipe T ((is ++ Bs) ++ P))).phase) d all)
      by (Deed item d is) = deed-met was c item d (subst (λ is. Has c (half x (pipe T ((is ++ Bs) ++ P))).phase) d all)
      by (MoveDeed y d none) = deed-met was c (Calls y Moves) d (subst (λ is. Has c (half x (pipe T ((is ++ Bs) ++ P))).phase) d all)

-- each cause that an end of a pipe keeps is shown, if it counts
pub all-met : (setup : Setup) (payload : List ℕ) (past : List Entry) → IsMadeAll setup payload past → AreOnKnown setup past → (x : Side) (s g : ℕ) → IsItsGroup g s past → AreMet setup payload x s g past
all-met setup payload [] m known x s g its = λ c h. absurd (first c x h)
  where
    first : (c : ResetCause) (y : Side) → Has c (half y (pipe_of setup payload g s [])).phase → ⊥
    first c A f = none-is c f
    first c B f = none-is c f
all-met setup payload (e ∷ past) m known x s g its = met-step setup payload e past m known x s g its (all-met setup payload past m.1 known.1 x s g (its-before setup payload e past m s g its))
