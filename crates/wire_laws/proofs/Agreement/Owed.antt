-- Wires and pipes agree, given plain facts on offers, links, establishments and the live links of the ends.
use Rattle.std.proofs.Common.{List, [], ap, refl, subst, sym, true, true≢false, ℕ, ◌||◌, ◌∙◌, ◌∷◌, ◌≡◌}
use Rattle.std.specs.Prelude.{None, Option, Some, is_some}
use Rattle.pipe_model.specs.Connections.{comes_up}
use Rattle.history_laws.specs.Words.{Entry, LinkId, Offered, Setup, Side, group_on, half, is_up, offered, other, pipe_of, terms_of}
use Rattle.history_laws.proofs.Items.{pipe-is-up}
use Rattle.history_laws.specs.Made.{IsMadeAll, IsMade}
use Rattle.link_laws.specs.Lasting.{IsLiveOrLost}
use Rattle.lending_laws.specs.Ends.{AllPlain, HasLive, LivesOn, OffersGoOn, OwedPlain}
use Rattle.wire_laws.specs.Agreement.{Agrees, AllOwed, OwedToAgreement}
use Rattle.wire_laws.proofs.Agreement.Left.{left-of, on-step}
use Rattle.wire_laws.proofs.Agreement.Agree.{agrees, now-owed, same-group, up-offered}
use Rattle.wire_laws.proofs.Agreement.Ends.{b-offered}

-- that each end that is up is on a link that is live at its side or was lost there
abbrev pub AllOn : Setup → List ℕ → List Entry → Type 0
AllOn setup payload past = (x : Side) (s : ℕ) → is_up x s past ≡ true → IsLiveOrLost x (half x (pipe_of setup payload (group_on s past) s past)).link past

module _ (setup : Setup) (payload : List ℕ) where
  owed-of : (past : List Entry) → OwedPlain setup past → HasLive setup payload past → AllOn setup payload past → OwedToAgreement setup payload past
  owed-of past p w on = record {
    known = p.known;
    tokens = p.tokens;
    answer = p.answer;
    grouped = p.grouped;
    again = p.again;
    left = λ x s due. left-of setup payload past w x s (λ u. on x s (sym (pipe-is-up (terms_of setup) x payload (group_on s past) s past) ∙ u)) due;
  }

  module _ (e : Entry) (past : List Entry) (before : ℕ) (made : IsMade setup payload past before e) (owed : OwedToAgreement setup payload past) (beside : OffersGoOn e past) (all : AllOwed setup payload past) (agree : Agrees setup payload past)
      (w : HasLive setup payload past) (lives : LivesOn e past) (on : AllOn setup payload past) where
    -- an end that is up was offered an element before
    was-offered : (x : Side) (s : ℕ) → is_up x s (e ∷ past) ≡ true → (o : Offered) × (offered (other x) s past ≡ Some o)
    was-offered x s u = by (comes_up x s e past) refl
      where
        by : (c : Option LinkId) → comes_up x s e past ≡ c → (o : Offered) × (offered (other x) s past ≡ Some o)
        by (Some l) f = beside.answers x s l f
        by None f = up-offered setup payload x s past all (ap (λ c. is_some c || is_up x s past) (sym f) ∙ u)

    on-all : AllOn setup payload (e ∷ past)
    on-all x s u =
        let o = was-offered x s u in
        let b = b-offered setup payload e past before made owed beside (other x) s o.0 o.1 in
        subst (λ g. IsLiveOrLost x (half x (pipe_of setup payload g s (e ∷ past))).link (e ∷ past)) (sym (same-group setup payload e past before made owed beside all agree s b.0 b.1))
        (on-step setup payload e past before made owed beside w lives x s (λ v. on x s (sym (pipe-is-up (terms_of setup) x payload (group_on s past) s past) ∙ v)) u)

  pub record Holds (past : List Entry) : Type 0 where
    pub all : AllOwed setup payload past
    pub on : AllOn setup payload past
    pub agree : Agrees setup payload past

  pub holds : (past : List Entry) → IsMadeAll setup payload past → AllPlain setup payload past → Holds past
  holds [] m a = record {
    all = owed-of [] a.0 a.1 (λ x s u. absurd (true≢false (sym u)));
    on = λ x s u. absurd (true≢false (sym u));
    agree = agrees setup payload [] m (owed-of [] a.0 a.1 (λ x s u. absurd (true≢false (sym u))));
  }
  holds (e ∷ past) m a =
      let one = m.0 in
      let q = a.0 in
      let r = a.1 in
      let v = r.0 in
      let h = holds past m.1 r.1 in
      let on : AllOn setup payload (e ∷ past) = on-all e past one.0 one.1 (now-owed setup payload past h.all) v.0 h.all h.agree (now-live past r.1) v.1 h.on in
      let all : AllOwed setup payload (e ∷ past) = (owed-of (e ∷ past) q.0 q.1 on, (v.0, h.all)) in
      record { all = all; on = on; agree = agrees setup payload (e ∷ past) m all }
    where
      now-live : (past : List Entry) → AllPlain setup payload past → HasLive setup payload past
      now-live [] a = a.1
      now-live (f ∷ older) a = let q = a.0 in q.1

  -- wires and pipes agree
  pub agrees-plain : (past : List Entry) → IsMadeAll setup payload past → AllPlain setup payload past → Agrees setup payload past
  agrees-plain past m a = let h = holds past m a in h.agree
