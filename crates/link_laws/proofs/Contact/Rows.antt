-- The three rows of first contact, after each kind of entry.
use Rattle.std.proofs.Common.{Bool, List, None, [], ap, arith, drop, eq-eqb, eqb-true, false, inl, inr, refl, subst, suc, sym, true, true≢false, zero, ℕ, ◌++◌, ◌+◌, ◌==◌, ◌∙◌, ◌∷◌, ◌≡◌, ◌≢◌, ◌⊎◌}
use Rattle.clc_wire.specs.declared.message.ClcMessage.TheVariants.{Accept as AcceptMessage, Confirm as ConfirmMessage, Decline as DeclineMessage, Proposal as ProposalMessage}
use Rattle.std.specs.Prelude.{Option, Some}
use Rattle.history_laws.specs.Words.{A, B, ClcMessage, Entry, Fabric, FirstContact, Flow, Known, LinkId, NoEnd, Offer, Offered, Pending, Side, WaitsAnswer, WaitsConfirm, WaitsProposal, early_state, fabric, flow_of, group_of, has_ended, head, is_first_contact, is_opened, is_up, made_on, no_flow, peer, put, table_of, untaken}
use Rattle.link_laws.specs.Contact.{AreCounted, AreLater, AreLaterIn, Contact, IsConfirming, IsJoinedFirst, IsOfferedFirst, JoinedFirst, NoContact, OfferedFirst}
use Rattle.link_laws.proofs.Contact.Counted.{ended-cases, ended-now, ended-stays}
use Rattle.link_laws.proofs.Contact.Changes.{AreLaterOnly, Begins, IsBeginning, IsJoining, IsKept, IsMoved, IsPlain, IsReady, IsSame, IsStreamed, Joins, Kind, Moves, Plain, Readies}
use Rattle.link_laws.specs.Offered.{AreOffered, IsFresh, HasProposal}
use Rattle.link_laws.proofs.Contact.Offers.{joined-next, ne-head, not-first-confirm, offered-row}
use Rattle.link_laws.specs.Linked.{AreLinked, IsOwn, Under, under_in}
use Rattle.link_laws.proofs.Contact.Beyond.{first-has-group}
use Rattle.link_laws.proofs.Contact.Same.{state-from, state-parts, waits-on}

-- the table of a side that knows one pending link
abbrev known-one : LinkId → List Known
known-one l = record { link = l; phase = Pending } ∷ []

-- what counts for nothing in first contact goes on so
later-stays : (past : List Entry) (e : Entry) (ms : List ClcMessage) → AreLaterIn past ms → AreLaterIn (e ∷ past) ms
later-stays past e [] l = tt
later-stays past e (AcceptMessage o ∷ ms) l = (l.0, later-stays past e ms l.1)
later-stays past e (ConfirmMessage o ∷ ms) l = (by l.0, later-stays past e ms l.1)
  where
    by : (o.first ≡ false) ⊎ (has_ended B o.psn past ≡ true) → (o.first ≡ false) ⊎ (has_ended B o.psn (e ∷ past) ≡ true)
    by (inl h) = inl h
    by (inr h) = inr (ended-stays past e B o.psn h)
later-stays past e (ProposalMessage p ∷ ms) l = later-stays past e ms l
later-stays past e (DeclineMessage r ∷ ms) l = later-stays past e ms l

later-tail : (past : List Entry) (m : ClcMessage) (ms : List ClcMessage) → AreLaterIn past (m ∷ ms) → AreLaterIn past ms
later-tail past (AcceptMessage o) ms l = l.1
later-tail past (ConfirmMessage o) ms l = l.1
later-tail past (ProposalMessage p) ms l = l
later-tail past (DeclineMessage r) ms l = l

later-drop : (past : List Entry) (n : ℕ) (ms : List ClcMessage) → AreLaterIn past ms → AreLaterIn past (drop n ms)
later-drop past zero ms l = l
later-drop past (suc n) [] l = tt
later-drop past (suc n) (m ∷ ms) l = later-drop past n ms (later-tail past m ms l)

later-append : (past : List Entry) (ms ns : List ClcMessage) → AreLaterIn past ms → AreLaterOnly ns → AreLaterIn past (ms ++ ns)
later-append past [] [] l k = tt
later-append past [] (AcceptMessage o ∷ ns) l k = (k.0, later-append past [] ns tt k.1)
later-append past [] (ConfirmMessage o ∷ ns) l k = (inl k.0, later-append past [] ns tt k.1)
later-append past [] (ProposalMessage p ∷ ns) l k = later-append past [] ns tt k
later-append past [] (DeclineMessage r ∷ ns) l k = later-append past [] ns tt k
later-append past (AcceptMessage o ∷ ms) ns l k = (l.0, later-append past ms ns l.1 k)
later-append past (ConfirmMessage o ∷ ms) ns l k = (l.0, later-append past ms ns l.1 k)
later-append past (ProposalMessage p ∷ ms) ns l k = later-append past ms ns l k
later-append past (DeclineMessage r ∷ ms) ns l k = later-append past ms ns l k

-- no group has the number 0
ended-zero : (x : Side) (past : List Entry) → has_ended x 0 past ≡ false
ended-zero x [] = refl
ended-zero x (e ∷ past) = ended-zero x past

-- a Confirm of first contact that is B's group is not one that counts for nothing
pub confirm-counts : (past : List Entry) → AreOffered past → (s : ℕ) (m : Offer) → head (untaken A s past) ≡ Some (ConfirmMessage m) → m.first ≡ true → m.psn ≡ group_of B past → AreLater s past → ⊥
confirm-counts past offers s m h first psn l = by (not-first-confirm past (untaken A s past) m l.from_a h)
  where
    by : (m.first ≡ false) ⊎ (has_ended B m.psn past ≡ true) → ⊥
    by (inl h) = true≢false (sym first ∙ h)
    by (inr h) = zero_or (group_of B past == 0) refl
      where
        zero_or : (b : Bool) → (group_of B past == 0) ≡ b → ⊥
        zero_or true q = true≢false (sym h ∙ ap (λ g. has_ended B g past) (psn ∙ eqb-true (group_of B past) 0 q) ∙ ended-zero B past)
        zero_or false q = true≢false (sym h ∙ ap (λ g. has_ended B g past) psn ∙ offers.stands B (λ z. true≢false (sym (eq-eqb (group_of B past) 0 z) ∙ q)))

module _ (past : List Entry) (under : Option Under) (e : Entry) (linked : AreLinked (fabric past) under) (offers : AreOffered past) (counted : AreCounted past) (contact : Contact past under) where
  abbrev now : Option Under
  now = under_in e.posts

  -- the streams of a socket that is not of the row
  later-same : (t : ℕ) → IsSame t past under e → AreLater t past → AreLater t (e ∷ past)
  later-same t k l = record {
    from_a = subst (λ ms. AreLaterIn (e ∷ past) ms) (sym (k.stream A)) (later-stays past e (untaken A t past) l.from_a);
    from_b = subst (λ ms. AreLaterIn (e ∷ past) ms) (sym (k.stream B)) (later-stays past e (untaken B t past) l.from_b);
  }

  later-moved : (t : ℕ) → IsMoved t past under e → AreLater t past → AreLater t (e ∷ past)
  later-moved t k l = record { from_a = at A l.from_a; from_b = at B l.from_b }
    where
      at : (x : Side) → AreLaterIn past (untaken x t past) → AreLaterIn (e ∷ past) (untaken x t (e ∷ past))
      at x l =
          let st : IsStreamed x t past e = k.stream x in
          subst (λ ms. AreLaterIn (e ∷ past) ms) (sym st.is) (later-append (e ∷ past) (drop st.count (untaken x t past)) st.news (later-drop (e ∷ past) st.count (untaken x t past) (later-stays past e (untaken x t past) l)) st.later)

  later-plain : IsPlain past under e → (t : ℕ) → AreLater t past → AreLater t (e ∷ past)
  later-plain k t l = by (k.socket t)
    where
      by : IsSame t past under e ⊎ IsMoved t past under e → AreLater t (e ∷ past)
      by (inl k) = later-same t k l
      by (inr k) = later-moved t k l

  later-kept : (s : ℕ) → IsKept s past under e → (t : ℕ) → (t == s) ≡ false → AreLater t past → AreLater t (e ∷ past)
  later-kept s k t ne l = later-same t (k.others t ne) l

  first-is : {f : Flow} → f ≡ record no_flow { link = FirstContact } → is_first_contact f.link ≡ true
  first-is e = ap (λ (f : Flow). is_first_contact f.link) e

  -- a side that confirms goes on, or its group ends
  confirms-on : (k : Moves past under e) (x : Side) (link : LinkId) → under ≡ None → IsConfirming x link past → IsConfirming x link (e ∷ past) ⊎ ((group_of x (e ∷ past) ≡ 0) × (has_ended x link.group (e ∷ past) ≡ true))
  confirms-on k x link none at = by (k.group x)
    where
      own : IsOwn x (peer x (fabric past))
      own = linked.own x

      by : (group_of x (e ∷ past) ≡ group_of x past) ⊎ (group_of x (e ∷ past) ≡ 0) → IsConfirming x link (e ∷ past) ⊎ ((group_of x (e ∷ past) ≡ 0) × (has_ended x link.group (e ∷ past) ≡ true))
      by (inl h) = let st = k.still x (inr none) (record { flow = at.flow; table = inr (link, at.table) }) h in inl (record { group = h ∙ at.group; flow = st.0 ∙ at.flow; table = st.1 ∙ at.table })
      by (inr h) = inr (h, ended-now past e x link.group (λ z. first-has-group x (peer x (fabric past)) own.sound (first-is at.flow) (at.group ∙ z)) at.group h)

  -- a Confirm of first contact that is B's group is not one that counts for nothing
  not-later : (s : ℕ) (m : Offer) → IsReady s m past under e → AreLater s past → ⊥
  not-later s m k l = confirm-counts past offers s m k.confirm k.confirm_first k.psn l

  -- the rows with what is under way afterwards, which is nothing where nothing was and nothing is posted; and where B knows no link nothing was
  module _ (after : Option Under) (quiet : under ≡ None → now ≡ None → after ≡ None) (bare : table_of B past ≡ [] → under ≡ None) where
    plain-offered : (k : IsPlain past under e) (s : ℕ) (o : Offered) → IsOfferedFirst s o past → ((t : ℕ) → (t == s) ≡ false → AreLater t past) → Contact (e ∷ past) after
    plain-offered k s o row later = OfferedFirst s o (at (k.socket s)) (λ t ne. later-plain k t (later t ne))
      where
        moves : Moves past under e
        moves = k.moves

        st : (flow_of B (e ∷ past) ≡ flow_of B past) × (table_of B (e ∷ past) ≡ table_of B past)
        st = moves.still B (inl row.table) (record { flow = row.flow; table = inl row.table }) (moves.empty row.table)

        other : (group_of A (e ∷ past) ≡ group_of A past) ⊎ (group_of A (e ∷ past) ≡ 0) → group_of A (e ∷ past) ≢ o.link.group
        other (inl h) z = row.not_at_a (sym h ∙ z)
        other (inr h) z = row.some (sym z ∙ h)

        not-ended : (has_ended A o.link.group (e ∷ past) ≡ true → ((group_of A past ≡ o.link.group) × ((group_of A (e ∷ past) == o.link.group) ≡ false)) ⊎ (has_ended A o.link.group past ≡ true)) → has_ended A o.link.group (e ∷ past) ≡ false
        not-ended cases = by (has_ended A o.link.group (e ∷ past)) refl
          where
            no_way : ((group_of A past ≡ o.link.group) × ((group_of A (e ∷ past) == o.link.group) ≡ false)) ⊎ (has_ended A o.link.group past ≡ true) → ⊥
            no_way (inl h) = row.not_at_a h.0
            no_way (inr h) = true≢false (sym h ∙ row.not_ended)

            by : (b : Bool) → has_ended A o.link.group (e ∷ past) ≡ b → b ≡ false
            by false h = refl
            by true h = absurd (no_way (cases h))

        at : IsSame s past under e ⊎ IsMoved s past under e → IsOfferedFirst s o (e ∷ past)
        at (inr m) = absurd (m.not_offered o row)
        at (inl m) = record {
          named = m.offers B ∙ row.named;
          opened = m.opened ∙ row.opened;
          first = row.first;
          untaken_b = m.stream B ∙ row.untaken_b;
          untaken_a = m.stream A ∙ row.untaken_a;
          waits_a = waits-on A s e past WaitsAnswer refl (m.early A) (m.up A (inr (inl row.table))) row.waits_a;
          waits_b = waits-on B s e past WaitsConfirm refl (m.early B) (m.up B (inr (inl row.table))) row.waits_b;
          group = moves.empty row.table ∙ row.group;
          some = row.some;
          flow = st.0 ∙ row.flow;
          table = st.1 ∙ row.table;
          slot = row.slot;
          next = row.next ∙ ap (λ n. n + 1) (sym (moves.next row.table o.link.slot));
          not_at_a = other (moves.group A);
          not_ended = not-ended (ended-cases past e A o.link.group);
        }

    plain-joined : (k : IsPlain past under e) (s : ℕ) (o p : Offered) → IsJoinedFirst s o p past under → ((t : ℕ) → (t == s) ≡ false → AreLater t past) → Contact (e ∷ past) after
    plain-joined k s o p row later = at (k.socket s)
      where
        moves : Moves past under e
        moves = k.moves

        same : IsSame s past under e → IsConfirming B o.link (e ∷ past) ⊎ ((group_of B (e ∷ past) ≡ 0) × (has_ended B o.link.group (e ∷ past) ≡ true)) → Contact (e ∷ past) after
        same m (inl at_b) = JoinedFirst s o p (record {
          named = m.offers B ∙ row.named;
          answered = m.offers A ∙ row.answered;
          opened = m.opened ∙ row.opened;
          link = row.link;
          first = row.first;
          untaken_a = m.stream A ∙ row.untaken_a;
          untaken_b = m.stream B ∙ row.untaken_b;
          waits_b = waits-on B s e past WaitsConfirm refl (m.early B) (m.up B (inr (inr row.none))) row.waits_b;
          at_b = at_b;
          at_a = at_a row.at_a;
          none = quiet row.none (moves.none o.link row.none row.at_b);
        }) (λ t ne. later-plain k t (later t ne))
          where
            at_a : IsConfirming A o.link past ⊎ (has_ended A o.link.group past ≡ true) → IsConfirming A o.link (e ∷ past) ⊎ (has_ended A o.link.group (e ∷ past) ≡ true)
            at_a (inl h) = by (confirms-on moves A o.link row.none h)
              where
                by : IsConfirming A o.link (e ∷ past) ⊎ ((group_of A (e ∷ past) ≡ 0) × (has_ended A o.link.group (e ∷ past) ≡ true)) → IsConfirming A o.link (e ∷ past) ⊎ (has_ended A o.link.group (e ∷ past) ≡ true)
                by (inl h) = inl h
                by (inr h) = inr h.1
            at_a (inr h) = inr (ended-stays past e A o.link.group h)
        same m (inr gone) = NoContact (λ t. by t (t == s) refl)
          where
            psn : p.offer.psn ≡ o.link.group
            psn = offers.psn A s p row.answered ∙ ap (λ (l : LinkId). l.group) row.link

            here : AreLater s (e ∷ past)
            here = record {
              from_a = subst (λ ms. AreLaterIn (e ∷ past) ms) (sym (m.stream A ∙ row.untaken_a)) (inr (ap (λ g. has_ended B g (e ∷ past)) psn ∙ gone.1), tt);
              from_b = subst (λ ms. AreLaterIn (e ∷ past) ms) (sym (m.stream B ∙ row.untaken_b)) tt;
            }

            by : (t : ℕ) (b : Bool) → (t == s) ≡ b → AreLater t (e ∷ past)
            by t true q = subst (λ n. AreLater n (e ∷ past)) (sym (eqb-true t s q)) here
            by t false q = later-plain k t (later t q)

        at : IsSame s past under e ⊎ IsMoved s past under e → Contact (e ∷ past) after
        at (inr m) = absurd (m.not_joined o p row)
        at (inl m) = same m (confirms-on moves B o.link row.none row.at_b)

    plain-row : IsPlain past under e → Contact past under → Contact (e ∷ past) after
    plain-row k (NoContact later) = NoContact (λ t. later-plain k t (later t))
    plain-row k (OfferedFirst s o row later) = plain-offered k s o row later
    plain-row k (JoinedFirst s o p row later) = plain-joined k s o p row later

    begins-row : (s : ℕ) (o : Offered) → IsBeginning s o past under e → Contact past under → Contact (e ∷ past) after
    begins-row s o k (OfferedFirst t p row later) = absurd (row.some (sym row.group ∙ k.without))
    begins-row s o k (JoinedFirst t p q row later) = let own : IsOwn B (peer B (fabric past)) = linked.own B in let c : IsConfirming B p.link past = row.at_b in absurd (first-has-group B (peer B (fabric past)) own.sound (first-is c.flow) k.without)
    begins-row s o k (NoContact later) = OfferedFirst s o (record {
      named = k.named;
      opened = kept.opened ∙ opened (is_opened s past) refl;
      first = k.first;
      untaken_b = k.untaken_b ∙ ap (λ ms. ms ++ AcceptMessage o.offer ∷ []) proposed.untaken_b;
      untaken_a = k.untaken_a ∙ ap (drop 1) proposed.untaken_a;
      waits_a = waits-on A s e past WaitsAnswer refl k.early_a (kept.up A) proposed.waits_a;
      waits_b = state-from B s (e ∷ past) WaitsConfirm (kept.up B ∙ was.0) k.early_b;
      group = ap (λ (f : Fabric). f.b.group) k.changed;
      some = λ z. omega (arith, z, k.group);
      flow = ap (λ (f : Fabric). f.b.flow) k.changed;
      table = ap (λ (f : Fabric). f.b.table) k.changed;
      slot = k.slot;
      next = k.next ∙ ap (λ n. n + 1) (ap (λ (f : Fabric). made_on o.link.slot f) (sym k.changed));
      not_at_a = λ z. omega (arith, counted.at_most A, sym z ∙ ap (λ (f : Fabric). f.a.group) k.changed, k.group);
      not_ended = not-ended (has_ended A o.link.group (e ∷ past)) refl;
    }) (λ t ne. later-kept s kept t ne (later t))
      where
        kept : IsKept s past under e
        kept = k.kept

        proposed : HasProposal s past
        proposed = offers.proposed s kept.not_raw k.waits

        was : (is_up B s past ≡ false) × (early_state B s past ≡ WaitsProposal)
        was = state-parts B s past WaitsProposal refl k.waits

        waits : NoEnd ≡ WaitsProposal → ⊥
        waits e = cc

        no_way : ((group_of A past ≡ o.link.group) × ((group_of A (e ∷ past) == o.link.group) ≡ false)) ⊎ (has_ended A o.link.group past ≡ true) → ⊥
        no_way (inl h) = omega (arith, counted.at_most A, h.0, k.group)
        no_way (inr h) = omega (arith, offers.ended A o.link.group h, k.group)

        not-ended : (b : Bool) → has_ended A o.link.group (e ∷ past) ≡ b → has_ended A o.link.group (e ∷ past) ≡ false
        not-ended false h = h
        not-ended true h = absurd (no_way (ended-cases past e A o.link.group h))

        opened : (b : Bool) → is_opened s past ≡ b → is_opened s past ≡ true
        opened true q = q
        opened false q = let f : IsFresh s past = offers.fresh s q kept.not_raw in absurd (waits (sym (f.early B) ∙ was.1))

    joins-row : (s : ℕ) (m : Offer) (p : Offered) → IsJoining s m p past under e → (o : Offered) → IsOfferedFirst s o past → ((t : ℕ) → (t == s) ≡ false → AreLater t past) → Contact (e ∷ past) after
    joins-row s m p k o row later = JoinedFirst s o p (record {
      named = k.offered_b ∙ row.named;
      answered = k.answered;
      opened = kept.opened ∙ row.opened;
      link = l;
      first = k.first;
      untaken_a = k.untaken_a ∙ ap (λ ms. ms ++ ConfirmMessage p.offer ∷ []) row.untaken_a;
      untaken_b = k.untaken_b ∙ ap (drop 1) row.untaken_b;
      waits_b = waits-on B s e past WaitsConfirm refl k.early_b (kept.up B) row.waits_b;
      at_b = record {
        group = ap (λ (f : Fabric). f.b.group) k.changed ∙ row.group;
        flow = ap (λ (f : Fabric). f.b.flow) k.changed ∙ row.flow;
        table = ap (λ (f : Fabric). f.b.table) k.changed ∙ ap (λ ks. put (record { link = p.link; phase = Pending }) ks) row.table ∙ one;
      };
      at_a = inl (record {
        group = ap (λ (f : Fabric). f.a.group) k.changed ∙ ap (λ (l : LinkId). l.group) l;
        flow = ap (λ (f : Fabric). f.a.flow) k.changed;
        table = ap (λ (f : Fabric). f.a.table) k.changed ∙ one;
      });
      none = quiet (bare row.table) k.none;
    }) (λ t ne. later-kept s kept t ne (later t ne))
      where
        kept : IsKept s past under e
        kept = k.kept

        l : p.link ≡ o.link
        l = joined-next past under e linked offers counted contact s m p k o row

        one : known-one p.link ≡ known-one o.link
        one = ap known-one l

    ready-row : (s : ℕ) (m : Offer) → IsReady s m past under e → Contact past under → Contact (e ∷ past) after
    ready-row s m k (NoContact later) = absurd (not-later s m k (later s))
    ready-row s m k (OfferedFirst t o row later) = absurd (by (s == t) refl)
      where
        by : (b : Bool) → (s == t) ≡ b → ⊥
        by true q = ne-head past under e linked offers counted contact (untaken A s past) (ConfirmMessage m) k.confirm (ap (λ n. untaken A n past) (eqb-true s t q) ∙ row.untaken_a)
        by false q = not-later s m k (later s q)
    ready-row s m k (JoinedFirst t o p row later) = by (s == t) refl
      where
        kept : IsKept s past under e
        kept = k.kept

        here : (s == t) ≡ true → AreLater s (e ∷ past)
        here q = record {
          from_a = subst (λ ms. AreLaterIn (e ∷ past) ms) (sym (k.untaken_a ∙ ap (λ n. drop 1 (untaken A n past)) (eqb-true s t q) ∙ ap (drop 1) row.untaken_a)) tt;
          from_b = subst (λ ms. AreLaterIn (e ∷ past) ms) (sym (k.untaken_b ∙ ap (λ n. untaken B n past) (eqb-true s t q) ∙ row.untaken_b)) tt;
        }

        by : (b : Bool) → (s == t) ≡ b → Contact (e ∷ past) after
        by false q = absurd (not-later s m k (later s q))
        by true q = NoContact (λ r. each r (r == s) refl)
          where
            each : (r : ℕ) (b : Bool) → (r == s) ≡ b → AreLater r (e ∷ past)
            each r true h = subst (λ n. AreLater n (e ∷ past)) (sym (eqb-true r s h)) (here q)
            each r false h = later-kept s kept r h (later r (ap (λ n. r == n) (sym (eqb-true s t q)) ∙ h))

    -- after the entry
    pub contact-after : Kind past under e → Contact (e ∷ past) after
    contact-after (Plain k) = plain-row k contact
    contact-after (Begins s o k) = begins-row s o k contact
    contact-after (Joins s m p k) = let row = offered-row past under s m contact k.accept k.accept_first in joins-row s m p k row.0 row.1.0 row.1.1
    contact-after (Readies s m k) = ready-row s m k contact
