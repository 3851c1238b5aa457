-- A CDC message that is dropped: its token names no lending any more, so that the end is over, has left its handshake, or has lost its group.
use Rattle.std.proofs.Common.{List, ap, false, inl, inr, refl, sym, true, true≢false, ℕ, ◌∙◌, ◌≡◌, ◌⊎◌}
use Rattle.std.specs.Prelude.{None, Option, Some, option_map, unwrap_or}
use Rattle.std.proofs.Common.{eq-eqb}
use Rattle.history_laws.specs.Words.{A, B, Entry, Lending, LinkId, Offered, Setup, Side, end_state, group_on, half, has_ended, is_out, is_over, lendings, lends_by, lent, offered, pipe_of, record_of}
use Rattle.history_laws.specs.Lists.{IsAmong}
use Rattle.history_laws.specs.Made.{IsMadeAll}
use Rattle.history_laws.proofs.Basics.{none-is}
use Rattle.history_laws.proofs.Offers.{all-offers}
use Rattle.link_laws.specs.Awaited.{AreOnKnown}
use Rattle.link_laws.proofs.Joined.{flows-of}
use Rattle.lending_laws.specs.Ends.{HasLiveIn}
use Rattle.lending_laws.specs.Lendings.{AreDone, AreLendings, AsOut, AsOver, HasReturned, WithGroup}
use Rattle.lending_laws.proofs.Ends.{all-begin, has-live-in}
use Rattle.lending_laws.proofs.Lendings.{all-lendings, are-done-all, lending-group, names-record}
use Rattle.wire_laws.specs.Agreement.{OwedToAgreement}
use Rattle.wire_laws.proofs.Agreement.{Holds, now-owed}
use Rattle.wire_laws.proofs.FreedKeys.{owed-from}
use Rattle.wire_laws.proofs.Writes.{holds-of}

module _ (setup : Setup) (payload : List ℕ) (past : List Entry) (m : IsMadeAll setup payload past) (known : AreOnKnown setup past) (x : Side) (s : ℕ) (o : Offered) (f : offered x s past ≡ Some o) where
  abbrev l : Lending
  l = lends_by s o.link o.offer

  among : IsAmong l (lendings x past)
  among = let are : AreLendings x past = all-lendings setup payload past m x in are.offer_of s o f

  -- the group of its lending is that of the connection
  pub own-group : o.link.group ≡ group_on s past
  own-group = lending-group setup payload past m x l among

  -- which has a number
  pub some-group : group_on s past ≡ 0 → ⊥
  some-group z = by (offered B s past) refl
    where
      owed : OwedToAgreement setup payload past
      owed = let h : Holds setup payload past = holds-of setup payload past m known in now-owed setup payload past h.all

      a-none : (y : Side) → offered B s past ≡ None → offered y s past ≡ None
      a-none A n = let h = all-offers setup payload past m s in h.answer n
      a-none B n = n

      by : (q : Option Offered) → offered B s past ≡ q → ⊥
      by None i = none-is o (sym (a-none x i) ∙ f)
      by (Some r) i =
          let g : group_on s past ≡ r.link.group = ap (λ q. unwrap_or (option_map (λ (k : LinkId). k.group) (option_map (λ (p : Offered). p.link) q)) 0) i in
          true≢false (sym (eq-eqb r.link.group 0 (sym g ∙ z)) ∙ owed.grouped s r i)

  -- a connection whose group has ended at a side stands there no more
  pub ended-stands : has_ended x (group_on s past) past ≡ true → (half x (pipe_of setup payload (group_on s past) s past)).stands ≡ false
  ended-stands h = let flows = flows-of setup payload past m in let w : HasLiveIn setup payload x s (group_on s past) past = has-live-in setup payload past m flows (all-begin setup payload past m flows) x s (group_on s past) some-group in w.ended h

  -- where the token of an offer names no lending
  pub gone-by : record_of setup payload x o.offer.token past ≡ None → (has_ended x (group_on s past) past ≡ true) ⊎ ((is_out (end_state x s past) ≡ true) ⊎ (is_over (half x (pipe_of setup payload (group_on s past) s past)) ≡ true))
  gone-by none = by (let d : AreDone setup payload x past = are-done-all setup payload past m (owed-from setup payload past m known) x in d.returned l among)
    where
      by : IsAmong l (lent setup payload x past) ⊎ HasReturned setup payload x l past → (has_ended x (group_on s past) past ≡ true) ⊎ ((is_out (end_state x s past) ≡ true) ⊎ (is_over (half x (pipe_of setup payload (group_on s past) s past)) ≡ true))
      by (inl i) = absurd (none-is l (sym none ∙ names-record setup payload past m x l i))
      by (inr (WithGroup h)) = inl (ap (λ g. has_ended x g past) (sym own-group) ∙ h)
      by (inr (AsOut h)) = inr (inl h)
      by (inr (AsOver h)) = inr (inr (ap (λ g. is_over (half x (pipe_of setup payload g s past))) (sym own-group) ∙ h))
