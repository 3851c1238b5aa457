-- Each end that is reset is so for a cause that the history shows: after every history made by the definitions, with CLC messages taken on known sockets.
use Rattle.std.proofs.Common.{List, ap, inl, inr, refl, subst, sym, true, true≢false, ℕ, ◌∙◌, ◌≡◌, ◌⊎◌}
use Rattle.std.specs.Prelude.{Some}
use Rattle.pipe_model.specs.Causes.{CausesAreShown, IsShown, kept_in}
use Rattle.pipe_model.specs.Fallback.{is_fallen_state}
use Rattle.pipe_model.specs.declared.reply.ResetCause.{ResetCause}
use Rattle.pipe_model.specs.declared.reply.ResetCause.TheVariants.{OwnAbort}
use Rattle.history_laws.specs.Words.{BadClc, BadStep, EndState, Entry, Gap, HasFallen, IsUp, NoEnd, NoLiveLink, PeerAbort, Setup, Side, WaitsAnswer, WaitsConfirm, WaitsLink, WaitsProposal, WasReset, early_state, end_state, group_on, is_up}
use Rattle.history_laws.specs.Made.{IsMadeAll}
use Rattle.history_laws.proofs.Basics.{by-bool, some-is}
use Rattle.history_laws.proofs.Offers.{state-early, state-up}
use Rattle.link_laws.specs.Awaited.{AreOnKnown}
use Rattle.wire_laws.proofs.Causes.Early.{IsShownEarly, early-shown}
use Rattle.wire_laws.proofs.Causes.Fallen.{fallen-shown}
use Rattle.wire_laws.proofs.Causes.Phases.{none-has}
use Rattle.wire_laws.proofs.Causes.Settled.{early-down}
use Rattle.wire_laws.proofs.Causes.Struck.{IsAway, IsMet, all-met}

module _ (setup : Setup) (payload : List ℕ) (past : List Entry) (m : IsMadeAll setup payload past) (known : AreOnKnown setup past) (x : Side) (s : ℕ) (cause : ResetCause) where
  met-shown : (c : ResetCause) → IsMet setup payload x s past c → IsShown setup payload x s past c
  met-shown OwnAbort p = p
  met-shown PeerAbort p = inl p.1
  met-shown (NoLiveLink group) p = (let q = p.1 in (p.0, q.0))
  met-shown (Gap told taken) p = p.1
  met-shown (BadClc fault) p = absurd p
  met-shown (BadStep kind) p = absurd p

  begun-shown : (c : ResetCause) → IsShownEarly setup payload x s past c → IsShown setup payload x s past c
  begun-shown OwnAbort p = absurd p
  begun-shown PeerAbort p = absurd p
  begun-shown (NoLiveLink group) p = (let q = p.1 in (p.0, q.0))
  begun-shown (Gap told taken) p = absurd p
  begun-shown (BadClc fault) p = p
  begun-shown (BadStep kind) p = p

  -- an end in that state is up
  is-up : end_state x s past ≡ IsUp → is_up x s past ≡ true
  is-up e = by-bool (is_up x s past ≡ true) (is_up x s past) (λ u. u) (λ u. absurd (early-down x s past (sym (state-early x s past u) ∙ e)))

  -- an end that was reset before it was up is not up
  not-up : (c : ResetCause) → end_state x s past ≡ WasReset c → early_state x s past ≡ WasReset c
  not-up c e = by-bool (early_state x s past ≡ WasReset c) (is_up x s past) (λ u. (let w : IsUp ≡ WasReset c = sym (state-up x s past u) ∙ e in cc)) (λ u. sym (state-early x s past u) ∙ e)

  by-state : (state : EndState) → end_state x s past ≡ state → kept_in setup payload x s past state ≡ Some cause → IsShown setup payload x s past cause
  by-state IsUp e k = by (all-met setup payload past m known x s (group_on s past) (inr refl) cause k)
    where
      by : IsMet setup payload x s past cause ⊎ IsAway x s (group_on s past) past → IsShown setup payload x s past cause
      by (inl p) = met-shown cause p
      by (inr a) = absurd (true≢false (sym (is-up e) ∙ a.low))
  by-state HasFallen e k = fallen-shown setup payload x s past cause (ap is_fallen_state e) k
  by-state (WasReset c) e k = subst (IsShown setup payload x s past) (some-is c cause k) (begun-shown c (early-shown setup payload past m known x s c (not-up c e)))
  by-state NoEnd e k = absurd (none-has cause k)
  by-state WaitsProposal e k = absurd (none-has cause k)
  by-state WaitsAnswer e k = absurd (none-has cause k)
  by-state WaitsConfirm e k = absurd (none-has cause k)
  by-state WaitsLink e k = absurd (none-has cause k)

-- each end that is reset is so for a cause that the history shows
pub causes-shown : (setup : Setup) (payload : List ℕ) (past : List Entry) → IsMadeAll setup payload past → AreOnKnown setup past → CausesAreShown setup payload past
causes-shown setup payload past m known = λ x s cause k. by-state setup payload past m known x s cause (end_state x s past) refl k
