-- A CDC message that is dropped comes late: the end that it was for is over, its group stands, and the message carries no bytes.
use Rattle.std.proofs.Common.{Bool, List, [], ap, drop, eq-eqb, false, if◌then◌else◌, inl, inr, refl, subst, suc, sym, true, true≢false, zero, ℕ, ◌&&◌, ◌==◌, ◌∙◌, ◌∷◌, ◌≡◌, ◌⊎◌}
use Rattle.std.specs.Prelude.{None, Option, Some, is_some}
use Rattle.pipe_model.proofs.Pipes.{ends-with-last}
use Rattle.pipe_model.specs.Parts.{CarriesNone}
use Rattle.pipe_model.specs.Replies.{told}
use Rattle.pipe_model.specs.Wires.{landing}
use Rattle.pipe_model.specs.declared.post.Post.TheVariants.{Clc, Write}
use Rattle.pipe_model.specs.declared.reply.Reply.TheVariants.{Idle}
use Rattle.pipe_model.specs.declared.sent.Sent.{Sent}
use Rattle.history_laws.specs.Words.{A, B, Cdc, CdcMessage, Deliver, Dropped, EachOf, Entry, Half, Landed, Lending, LinkId, Llc, Offered, Placed, Post, Setup, Side, Terms, deliver_told, end_state, group_on, half, has_ended, head, is_last, is_on, is_out, is_over, is_up, lands_told, offered, other, part, passes, pipe_of, record_of, reply_of, same_link, same_side, stands, table_of, terms_of, to_land}
use Rattle.history_laws.specs.Made.{IsMade, IsMadeAll}
use Rattle.history_laws.specs.Wires.{cdc_under, if_meant, next_to_land}
use Rattle.history_laws.proofs.Basics.{and-both, by-bool, none-is, some-is}
use Rattle.history_laws.proofs.Items.{pipe-is-up}
use Rattle.history_laws.proofs.Offers.{state-up}
use Rattle.link_laws.specs.Awaited.{AreOnKnown}
use Rattle.link_laws.specs.Lasting.{is_lost}
use Rattle.link_laws.proofs.UnderWay.{IsLanding, alive-is, landing-is}
use Rattle.lending_laws.specs.Owed.{OwedAfter, OwedLendings}
use Rattle.lending_laws.proofs.Lendings.{all-owed, out-ended, owed-now}
use Rattle.wire_laws.specs.Agreement.{Agrees, IsOneEnds, OwedToAgreement}
use Rattle.wire_laws.specs.Late.{IsLate}
use Rattle.wire_laws.proofs.Agreement.{Holds, first-is-next, idle-any, now-owed}
use Rattle.wire_laws.proofs.FreedKeys.{owed-from}
use Rattle.wire_laws.proofs.Writes.{IsShared, holds-of, shared}
use Rattle.wire_laws.proofs.Causes.Dropped.{gone-by, own-group}

-- the first of some messages
each-head : (P : Sent → Type 0) (ms : List Sent) (a : Sent) → head ms ≡ Some a → EachOf P ms → P a
each-head P [] a e p = absurd (none-is a e)
each-head P (m ∷ ms) a e p = subst P (some-is m a e) p.0

head-none : (n : ℕ) (a : Sent) → head (drop n []) ≡ Some a → ⊥
head-none zero a e = none-is a e
head-none (suc n) a e = none-is a e

module _ (setup : Setup) (payload : List ℕ) (past : List Entry) (m : IsMadeAll setup payload past) (known : AreOnKnown setup past) (dir : Side) where
  abbrev T : Terms
  T = terms_of setup

  held : Holds setup payload past
  held = holds-of setup payload past m known

  owed : OwedToAgreement setup payload past
  owed = now-owed setup payload past held.all

  lendings-owed : OwedLendings setup payload past
  lendings-owed = all-owed setup payload past m (owed-from setup payload past m known)

  -- an end that has a message under way is up
  sender-up : (s : ℕ) (a : Sent) → next_to_land (half dir (pipe_of setup payload (group_on s past) s past)) ≡ Some a → (half dir (pipe_of setup payload (group_on s past) s past)).up ≡ true
  sender-up s a e = by-bool ((half dir (pipe_of setup payload (group_on s past) s past)).up ≡ true) (half dir (pipe_of setup payload (group_on s past) s past)).up (λ u. u)
      (λ u. absurd (head-none (half dir (pipe_of setup payload (group_on s past) s past)).landed a (sym (ap (λ ms. head (drop (half dir (pipe_of setup payload (group_on s past) s past)).landed ms)) (idle-any T dir (part payload (group_on s past) s past) u)) ∙ e)))

  -- its peer, which has offered, has not left its handshake while its group stands
  not-out : (y : Side) (s : ℕ) (o : Offered) → offered y s past ≡ Some o → is_up (other y) s past ≡ true → has_ended y (group_on s past) past ≡ false → is_out (end_state y s past) ≡ true → ⊥
  not-out A s o f u n out = true≢false (sym (ap (λ g. has_ended A g past) (sym (own-group setup payload past m known A s o f)) ∙ out-ended setup payload past m lendings-owed s o f out) ∙ n)
  not-out B s o f u n out = by (let now : OwedAfter setup payload past = owed-now setup payload past lendings-owed in now.fallen s o f out)
    where
      by : (is_out (end_state A s past) ≡ true) ⊎ (has_ended B o.link.group past ≡ true) → ⊥
      by (inl a) = true≢false (sym a ∙ ap is_out (state-up A s past u))
      by (inr g) = true≢false (sym (ap (λ k. has_ended B k past) (sym (own-group setup payload past m known B s o f)) ∙ g) ∙ n)

  -- behind the last of an end come no bytes
  none-after : (s : ℕ) (a : Sent) → next_to_land (half dir (pipe_of setup payload (group_on s past) s past)) ≡ Some a → is_over (half (other dir) (pipe_of setup payload (group_on s past) s past)) ≡ true → CarriesNone a
  none-after s a e over =
      let h : Half = half (other dir) (pipe_of setup payload (group_on s past) s past) in
      let both = and-both (is_last h.fin) (is_last h.taken) over in
      each-head CarriesNone (to_land (half dir (pipe_of setup payload (group_on s past) s past))) a e (ends-with-last T dir (part payload (group_on s past) s past) (let g : Agrees setup payload past = held.agree in g.feasible s (group_on s past) (inr refl)) both.1)

  -- a message that is first on a link that is not dead, whose token names no lending
  late : (link : LinkId) (n : CdcMessage) → is_lost dir link past ≡ false → stands link (table_of (other dir) past) ≡ true → IsOneEnds setup payload dir link past n → record_of setup payload (other dir) n.token past ≡ None → IsLate setup payload dir past n.token
  late link n kept st one none =
      let up = sender-up one.s one.sent one.sent_is in
      let there : IsShared setup payload dir one.s link past = shared setup payload past m known dir one.s one.offer link one.offered_is up (sym one.link_is) kept st in
      let is-up : is_up (other (other dir)) one.s past ≡ true = ap (λ z. is_up z one.s past) (other-same dir) ∙ (sym (pipe-is-up T dir payload (group_on one.s past) one.s past) ∙ up) in
      by there.unended is-up (gone-by setup payload past m known (other dir) one.s one.offer one.offered_is (ap (λ t. record_of setup payload (other dir) t past) (sym one.token) ∙ none))
    where
      other-same : (x : Side) → other (other x) ≡ x
      other-same A = refl
      other-same B = refl

      by : has_ended (other dir) (group_on one.s past) past ≡ false → is_up (other (other dir)) one.s past ≡ true
          → (has_ended (other dir) (group_on one.s past) past ≡ true) ⊎ ((is_out (end_state (other dir) one.s past) ≡ true) ⊎ (is_over (half (other dir) (pipe_of setup payload (group_on one.s past) one.s past)) ≡ true)) → IsLate setup payload dir past n.token
      by apart u (inl h) = absurd (true≢false (sym h ∙ apart))
      by apart u (inr (inl o)) = absurd (not-out (other dir) one.s one.offer one.offered_is u apart o)
      by apart u (inr (inr o)) = record {
        s = one.s;
        offer = one.offer;
        offered_is = one.offered_is;
        token_is = one.token;
        over = o;
        stands = apart;
        sent = one.sent;
        sent_is = one.sent_is;
        none = none-after one.s one.sent one.sent_is o;
      }

module _ (setup : Setup) (payload : List ℕ) (e : Entry) (past : List Entry) (m : IsMadeAll setup payload (e ∷ past)) (known : AreOnKnown setup past) (slot : ℕ) (dir : Side) (token : ℕ) (event_is : e.event ≡ Deliver slot dir) (dropped : e.reply ≡ Dropped token) where
  abbrev one : (before : ℕ) × IsMade setup payload past before e
  one = m.0

  told-is : deliver_told setup payload (other dir) past (landing slot dir past) ≡ Dropped token
  told-is = let made = one.1 in sym (ap (λ v. reply_of one.0 (told setup payload past v)) event_is) ∙ (sym made.reply ∙ dropped)

  none-of : (o : Option Lending) → is_some o ≡ false → o ≡ None
  none-of None q = refl
  none-of (Some a) q = absurd (true≢false q)

  token-is : (a b : ℕ) → Dropped a ≡ Dropped b → a ≡ b
  token-is a b q = cc

  by-post : (c : Placed) → landing slot dir past ≡ Some c → (p : Post) → c.post ≡ p → lands_told setup payload (other dir) past c p ≡ Dropped token → IsLate setup payload dir past token
  by-post c l (Write from link key address len) i r = (let w : Landed c.at ≡ Dropped token = r in cc)
  by-post c l (Llc from link n) i r = (let w : Landed c.at ≡ Dropped token = r in cc)
  by-post c l (Clc from s link n) i r = (let w : Landed c.at ≡ Dropped token = r in cc)
  by-post c l (Cdc from link n) i r = by (is_some (record_of setup payload (other dir) n.token past)) refl r
    where
      is : IsLanding slot dir past c
      is = landing-is slot dir past c l

      h : Holds setup payload past
      h = holds-of setup payload past m.1 known

      o : OwedToAgreement setup payload past
      o = now-owed setup payload past h.all

      kept : is_lost dir is.link past ≡ false
      kept = let alive = alive-is is.link past is.alive in o.again dir is.link (alive.1 dir)

      there : stands is.link (table_of (other dir) past) ≡ true
      there = let alive = alive-is is.link past is.alive in alive.1 (other dir)

      meant : (a b : Bool) → a ≡ true → b ≡ true → if_meant (a && b) n ≡ Some n
      meant true true p q = refl
      meant true false p q = absurd (true≢false (sym q))
      meant false b p q = absurd (true≢false (sym p))

      side : same_side dir from ≡ true
      side = let both = and-both (same_side dir from) (passes (same_link is.link) (Some link)) (sym (ap (is_on is.link dir) i) ∙ is.on) in both.0

      under : cdc_under dir n.token c.post ≡ Some n
      under = ap (cdc_under dir n.token) i ∙ meant (same_side dir from) (n.token == n.token) side (eq-eqb n.token n.token refl)

      next : IsOneEnds setup payload dir is.link past n
      next = first-is-next setup payload past o h.agree dir is.link kept c is.rest is.front n under

      by : (b : Bool) → is_some (record_of setup payload (other dir) n.token past) ≡ b → (if b then Landed c.at else Dropped n.token) ≡ Dropped token → IsLate setup payload dir past token
      by true q w = (let z : Landed c.at ≡ Dropped token = w in cc)
      by false q w = subst (IsLate setup payload dir past) (token-is n.token token w) (late setup payload past m.1 known dir is.link n kept there next (none-of (record_of setup payload (other dir) n.token past) q))

  -- a message that is dropped comes late
  pub comes-late : IsLate setup payload dir past token
  comes-late = by (landing slot dir past) refl told-is
    where
      by : (o : Option Placed) → landing slot dir past ≡ o → deliver_told setup payload (other dir) past o ≡ Dropped token → IsLate setup payload dir past token
      by None l r = (let w : Idle ≡ Dropped token = r in cc)
      by (Some c) l r = by-post c l c.post refl r
