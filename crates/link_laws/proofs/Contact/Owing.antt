-- First contact pays what links and flows ask of it: A joins, B asks for the first link, and A asks for a key, only where they may.
use Rattle.std.proofs.Common.{Bool, List, Some, ap, eqb-true, false, inl, inr, refl, subst, sym, true, true≢false, ℕ, ◌==◌, ◌∙◌, ◌≡◌, ◌⊎◌}
use Rattle.std.specs.Prelude.{Option, option_map, unwrap_or}
use Rattle.clc_wire.specs.declared.message.ClcMessage.TheVariants.{Accept as AcceptMessage, Confirm as ConfirmMessage}
use Rattle.history_laws.specs.Words.{A, AskKey, B, ClcMessage, ClcStep, EndState, Entry, Flow, Lacks, LinkId, Offer, Offered, Ready, SendConfirm, Setup, Side, WaitsAnswer, WaitsConfirm, WaitsProposal, clc_step, end_state, expects, fabric, flow_of, group_of, has_ended, head, is_first_contact, is_raw, lacks, named_link, no_link, offered, other, peer, stands, stream, table_of, untaken}
use Rattle.history_laws.proofs.Basics.{none-is}
use Rattle.history_laws.specs.Offers.{is_own_state}
use Rattle.link_laws.specs.Linked.{AreLinked, Under}
use Rattle.link_laws.specs.Joined.{IsContacted}
use Rattle.link_laws.specs.Offered.{AreOffered}
use Rattle.link_laws.specs.Contact.{AreCounted, AreLater, Contact, IsBeyond, IsConfirming, IsJoinedFirst, IsOfferedFirst, JoinedFirst, NoContact, OfferedFirst}
use Rattle.link_laws.proofs.Contact.Rows.{confirm-counts}
use Rattle.link_laws.specs.Owed.{CanAsk, CanAskKey, CanJoin, IsTaken, OwedByHandshake}
use Rattle.link_laws.proofs.Contact.Offers.{offered-row}
use Rattle.link_laws.proofs.Contact.TakenAtA.{named-head}
use Rattle.link_laws.proofs.Sound.{has-group}
use Rattle.link_laws.proofs.Contact.TakenAtB.{expecting, front-head}
use Rattle.link_laws.proofs.Contact.Same.{state-parts}
use Rattle.link_laws.proofs.Contact.Verdicts.{judged}

module _ (setup : Setup) (payload : List ℕ) (past : List Entry) (under : Option Under) (linked : AreLinked (fabric past) under) (all : IsContacted past under) where
  offers : AreOffered past
  offers = all.offers

  counted : AreCounted past
  counted = all.counted

  beyond : IsBeyond past
  beyond = all.beyond

  abbrev named : ℕ → LinkId
  named s = unwrap_or (named_link s past) no_link

  -- the link that B offered on a socket
  named-is : (s : ℕ) (o : Offered) → offered B s past ≡ Some o → named s ≡ o.link
  named-is s o e = ap (λ (q : Option Offered). unwrap_or (option_map (λ (o : Offered). o.link) q) no_link) e

  -- a Confirm of first contact that B takes is in its row
  pub joined-row : (s : ℕ) (m : Offer) → head (untaken A s past) ≡ Some (ConfirmMessage m) → m.first ≡ true → m.psn ≡ group_of B past → (o : Offered) × ((p : Offered) × IsJoinedFirst s o p past under)
  joined-row s m h first psn = by all.contact
    where
      not-later : (t : ℕ) → AreLater t past → (s == t) ≡ true → ⊥
      not-later t l q = confirm-counts past offers s m h first psn (subst (λ n. AreLater n past) (sym (eqb-true s t q)) l)

      by : Contact past under → (o : Offered) × ((p : Offered) × IsJoinedFirst s o p past under)
      by (NoContact later) = absurd (confirm-counts past offers s m h first psn (later s))
      by (OfferedFirst t o row later) = absurd (at (s == t) refl)
        where
          at : (b : Bool) → (s == t) ≡ b → ⊥
          at true q = none-is (ConfirmMessage m) (sym (ap (λ n. head (untaken A n past)) (eqb-true s t q) ∙ ap head row.untaken_a) ∙ h)
          at false q = confirm-counts past offers s m h first psn (later s q)
      by (JoinedFirst t o p row later) = at (s == t) refl
        where
          at : (b : Bool) → (s == t) ≡ b → (o : Offered) × ((p : Offered) × IsJoinedFirst s o p past under)
          at true q = (o, (p, subst (λ n. IsJoinedFirst n o p past under) (sym (eqb-true s t q)) row))
          at false q = absurd (confirm-counts past offers s m h first psn (later s q))

  -- what a verdict at A owes
  abbrev OwesA : ℕ → ClcStep → Type 0
  OwesA s (SendConfirm true) = CanJoin (named s) past
  OwesA s AskKey = CanAskKey A past
  OwesA s Ready = ⊥
  OwesA s step = Unit {0}

  -- what a verdict at B owes
  abbrev OwesB : ℕ → ClcStep → ClcMessage → Type 0
  OwesB s (SendConfirm b) m = ⊥
  OwesB s Ready (ConfirmMessage o) = o.first ≡ true → CanAsk (named s) past under
  OwesB s step m = Unit {0}

  module _ (s : ℕ) where
    abbrev PA : Bool → EndState → ClcMessage → ClcStep → Type 0
    PA raw state m step = is_raw s past ≡ false → end_state A s past ≡ state → head (untaken B s past) ≡ Some m → OwesA s step

    abbrev PB : Bool → EndState → ClcMessage → ClcStep → Type 0
    PB raw state m step = is_raw s past ≡ raw → end_state B s past ≡ state → (is_raw s past ≡ false → head (untaken A s past) ≡ Some m) → OwesB s step m

    joins-a : (raw : Bool) (o : Offer) → o.first ≡ true → (Lacks.group (lacks setup payload A past) == 0) ≡ true → PA raw WaitsAnswer (AcceptMessage o) (SendConfirm true)
    joins-a raw o first g r is h = let found = offered-row past under s o all.contact h first in by found.0 found.1.0
      where
        by : (q : Offered) → IsOfferedFirst s q past → CanJoin (named s) past
        by q row = subst (λ (l : LinkId). CanJoin l past) (sym (named-is s q row.named)) (record { some = row.some; slot = row.slot; group = row.group; flow = row.flow; table = row.table; next = row.next })

    keys-a : (raw : Bool) (o : Offer) → o.first ≡ false → (o.psn == Lacks.group (lacks setup payload A past)) ≡ true → PA raw WaitsAnswer (AcceptMessage o) AskKey
    keys-a raw o first same r is h = by it.0 it.1.0 it.1.1
      where
        it : (q : Offered) × ((offered B s past ≡ Some q) × (q.offer ≡ o))
        it = named-head (offered B s past) (untaken B s past) o (offers.accepted s r) h

        by : (q : Offered) → offered B s past ≡ Some q → q.offer ≡ o → CanAskKey A past
        by q e f =
            let group : group_of A past ≡ q.link.group = sym (eqb-true o.psn (group_of A past) same) ∙ ap (λ (o : Offer). o.psn) (sym f) ∙ offers.psn B s q e in
            record { group = λ z. offers.some s q e (sym group ∙ z); beyond = beyond.first A s q e (ap (λ (o : Offer). o.first) f ∙ first) group }

    asks-b : (o : Offer) → (o.psn == Lacks.group (lacks setup payload B past)) ≡ true → PB false WaitsConfirm (ConfirmMessage o) Ready
    asks-b o same r is h first = let found = joined-row s o (h r) first (eqb-true o.psn (group_of B past) same) in by found.0 found.1.0 found.1.1
      where
        by : (q p : Offered) → IsJoinedFirst s q p past under → CanAsk (named s) past under
        by q p row = subst (λ (l : LinkId). CanAsk l past under) (sym (named-is s q row.named)) (record {
          flow = ap (λ (f : Flow). is_first_contact f.link) at_b.flow;
          table = at_b.table;
          at_a = λ st. at-a st row.at_a;
          none = row.none;
        })
          where
            at_b : IsConfirming B q.link past
            at_b = row.at_b

            at-a : stands q.link (table_of A past) ≡ true → IsConfirming A q.link past ⊎ (has_ended A q.link.group past ≡ true) → is_first_contact (flow_of A past).link ≡ true
            at-a st (inl c) = ap (λ (f : Flow). is_first_contact f.link) c.flow
            at-a st (inr gone) =
                let a = has-group A (peer A (fabric past)) q.link (linked.own A) st in
                absurd (true≢false (sym gone ∙ ap (λ g. has_ended A g past) a.1 ∙ offers.stands A a.0))

    not-at-a : (state : EndState) → is_own_state A state ≡ false → end_state A s past ≡ state → expects state ≡ true → ⊥
    not-at-a state never is ex = let w = expecting state ex in let st = state-parts A s past state w.0 is in true≢false (sym (offers.sided A s) ∙ ap (is_own_state A) st.1 ∙ never)

    not-at-b : end_state B s past ≡ WaitsAnswer → ⊥
    not-at-b is = let st = state-parts B s past WaitsAnswer refl is in true≢false (sym (offers.sided B s) ∙ ap (is_own_state B) st.1)

    -- A has no end on a raw socket
    not-raw : expects (end_state A s past) ≡ true → is_raw s past ≡ false
    not-raw ex = by (is_raw s past) refl
      where
        by : (b : Bool) → is_raw s past ≡ b → b ≡ false
        by false q = refl
        by true q = let w = expecting (end_state A s past) ex in let st = state-parts A s past (end_state A s past) w.0 refl in absurd (w.1 (sym st.1 ∙ offers.lone s q))

    at-a : (m : ClcMessage) → IsTaken payload s B m past → OwesA s (clc_step setup payload A s m past)
    at-a m t = judged (lacks setup payload A past) PA
        (λ p g u r is h. tt) (λ raw p f g r is h. tt) (λ raw p f g r is h. absurd (not-at-a WaitsProposal refl is refl)) (λ raw p hold r is h. tt) (λ raw p lack r is h. tt)
        joins-a (λ raw o f g r is h. tt) keys-a (λ raw o hold r is h. tt) (λ raw o lack f r is h. tt) (λ raw q r is h. tt)
        (λ raw q r is h. tt) (λ o g r is h. not-at-a WaitsConfirm refl is refl) (λ o g r is h. tt) (λ raw state m k r is h. tt)
        (is_raw s past) (end_state A s past) m (not-raw t.waits) refl (front-head (is_raw s past) (stream payload B s past) (untaken B s past) m t.len (not-raw t.waits) t.front)

    at-b : (m : ClcMessage) → IsTaken payload s A m past → OwesB s (clc_step setup payload B s m past) m
    at-b m t = judged (lacks setup payload B past) PB
        (λ p g u r is h. tt) (λ raw p f g r is h. tt) (λ raw p f g r is h. tt) (λ raw p hold r is h. tt) (λ raw p lack r is h. tt)
        (λ raw o f g r is h. not-at-b is) (λ raw o f g r is h. not-at-b is) (λ raw o f g r is h. tt) (λ raw o hold r is h. tt) (λ raw o lack f r is h. tt) (λ raw q r is h. tt)
        (λ raw q r is h. tt) asks-b (λ o g r is h. tt) (λ raw state m k r is h. tt)
        (is_raw s past) (end_state B s past) m refl refl (λ r. front-head (is_raw s past) (stream payload A s past) (untaken A s past) m t.len r t.front)

    joins : (dir : Side) (m : ClcMessage) → IsTaken payload s dir m past → clc_step setup payload (other dir) s m past ≡ SendConfirm true → CanJoin (named s) past
    joins A m t e = absurd (subst (λ st. OwesB s st m) e (at-b m t))
    joins B m t e = subst (λ st. OwesA s st) e (at-a m t)

    asks : (dir : Side) (o : Offer) → IsTaken payload s dir (ConfirmMessage o) past → clc_step setup payload (other dir) s (ConfirmMessage o) past ≡ Ready → o.first ≡ true → CanAsk (named s) past under
    asks A o t e = subst (λ st. OwesB s st (ConfirmMessage o)) e (at-b (ConfirmMessage o) t)
    asks B o t e = absurd (subst (λ st. OwesA s st) e (at-a (ConfirmMessage o) t))

    keys : (o : Offer) → IsTaken payload s B (AcceptMessage o) past → clc_step setup payload A s (AcceptMessage o) past ≡ AskKey → CanAskKey A past
    keys o t e = subst (λ st. OwesA s st) e (at-a (AcceptMessage o) t)

  -- all that the handshake owes after a history, from what first contact is there
  pub owed : OwedByHandshake setup payload past under
  owed = record { begins = counted.at_most A; joins = λ s dir m t e. joins s dir m t e; asks = λ s dir o t e f. asks s dir o t e f; keys = λ s o t e. keys s o t e }
