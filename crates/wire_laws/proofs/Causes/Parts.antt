-- The items of a connection's part name links of its group alone; so below its deeds an entry resets an end with its group alone.
use Rattle.std.proofs.Common.{Bool, List, [], false, if◌then◌else◌, inl, inr, refl, subst, sym, true, ℕ, ◌++◌, ◌∙◌, ◌∷◌, ◌≡◌, ◌⊎◌}
use Rattle.std.specs.Prelude.{None, Option, Some}
use Rattle.pipe_model.specs.Connections.{comes_up}
use Rattle.pipe_model.specs.Calls.{Moves}
use Rattle.pipe_model.specs.Pipe.{Lands}
use Rattle.pipe_model.specs.declared.event.Event.TheVariants.{Write}
use Rattle.pipe_model.specs.declared.reply.ResetCause.{ResetCause}
use Rattle.history_laws.specs.Words.{Abort, Aborts, Await, Awaits, B, Call, Calls, Close, Closes, Complete, Completes, Deliver, Entry, Event, Fate, Finish, Finishes, GroupEnd, Item, LinkId, Move, NoLiveLink, Offered, Read, Reads, Reply, Setup, Side, Swallow, Terms, Up, Writes, deeds, group_on, half, items, loses_group_with, offered, other, part, pipe}
use Rattle.history_laws.specs.Lists.{IsAmong}
use Rattle.history_laws.specs.Made.{IsMadeAll}
use Rattle.history_laws.proofs.Basics.{none-is}
use Rattle.history_laws.proofs.Items.{below, items-are}
use Rattle.history_laws.proofs.Offers.{all-offers, kept, states}
use Rattle.link_laws.proofs.Joined.{flows-of}
use Rattle.link_laws.proofs.Lasting.{entered}
use Rattle.lending_laws.proofs.Ends.{up-in-group}
use Rattle.wire_laws.specs.Agreement.{IsItsGroup}
use Rattle.wire_laws.proofs.Writes.{comes-group}
use Rattle.wire_laws.proofs.Causes.Entries.{AFate, AnEnd, AnUp, IsBeneath, beneath}
use Rattle.wire_laws.proofs.Causes.Groups.{AreOf, IsOf, OnGroup, on-group, stays-up}
use Rattle.wire_laws.proofs.Causes.Phases.{Has}
use Rattle.wire_laws.proofs.Causes.Settled.{group-stays}
use Rattle.wire_laws.proofs.Causes.Strikes.{ByCall, ByEnd, ByMessage, IsStruck, strike}

of-append : (g : ℕ) (is js : List Item) → AreOf g is → AreOf g js → AreOf g (is ++ js)
of-append g [] js p q = q
of-append g (i ∷ is) js p q = (p.0, of-append g is js p.1 q)

of-each : (g : ℕ) (is : List Item) → ((i : Item) → IsAmong i is → IsOf g i) → AreOf g is
of-each g [] f = tt
of-each g (i ∷ is) f = (f i (inl refl), of-each g is (λ j k. f j (inr k)))

of-if : (g : ℕ) (b : Bool) (i : Item) → IsOf g i → AreOf g (if b then i ∷ [] else [])
of-if g true i p = (p, tt)
of-if g false i p = tt

-- deeds name no links
of-deeds : (g : ℕ) (payload : List ℕ) (s : ℕ) (v : Event) (r : Reply) (past : List Entry) → AreOf g (deeds payload s v r past)
of-deeds g payload s (Write end at len) r past = of-if g _ (Calls end.side (Writes _)) tt
of-deeds g payload s (Read end len) r past = of-if g _ (Calls end.side (Reads len)) tt
of-deeds g payload s (Finish end) r past = of-if g _ (Calls end.side Finishes) tt
of-deeds g payload s (Close end) r past = of-if g _ (Calls end.side Closes) tt
of-deeds g payload s (Abort end) r past = of-if g _ (Calls end.side Aborts) tt
of-deeds g payload s (Await end) r past = of-if g _ (Calls end.side Awaits) tt
of-deeds g payload s (Move end) r past = of-if g _ (Calls end.side Moves) tt
of-deeds g payload s (Deliver slot dir) r past = of-if g _ (Lands dir) tt
of-deeds g payload s (Complete slot dir) r past = of-if g _ (Completes dir) tt
of-deeds g payload s (Swallow slot dir) r past = of-if g _ (Completes dir) tt
of-deeds g payload s _ r past = tt

-- the group of a connection that B has offered
pub is-its : (g s : ℕ) (past : List Entry) → IsItsGroup g s past → (o : Offered) → offered B s past ≡ Some o → g ≡ group_on s past
is-its g s past (inl n) o f = absurd (none-is o (sym n ∙ f))
is-its g s past (inr q) o f = q

module _ (setup : Setup) (payload : List ℕ) (e : Entry) (past : List Entry) (m : IsMadeAll setup payload (e ∷ past)) (s g : ℕ) where
  -- the group before the entry
  pub its-before : IsItsGroup g s (e ∷ past) → IsItsGroup g s past
  its-before its = by (offered B s past) refl
    where
      by : (q : Option Offered) → offered B s past ≡ q → IsItsGroup g s past
      by None f = inl f
      by (Some o) f = let one = m.0 in inr (is-its g s (e ∷ past) its o (kept setup payload past one.0 e one.1 (states setup payload past m.1) (all-offers setup payload past m.1) B s o f) ∙ group-stays setup payload e past m s o f)

  -- an end comes up on a link of it
  up-of : IsItsGroup g s past → (y : Side) (link : LinkId) → comes_up y s e past ≡ Some link → link.group ≡ g
  up-of its y link u = let q = up-in-group setup payload e past m (entered setup payload e past m (flows-of setup payload (e ∷ past) m)) y s link u in comes-group setup payload e past m y s link u ∙ sym (is-its g s past its q.0 q.1.0)

  of-beneath : IsItsGroup g s past → (i : Item) → IsBeneath g s e past i → IsOf g i
  of-beneath its i (AnEnd y q l) = subst (IsOf g) (sym q) tt
  of-beneath its i (AnUp y link q u) = subst (IsOf g) (sym q) (up-of its y link u)
  of-beneath its i (AFate y link phase q f) = subst (IsOf g) (sym q) f

  pub of-below : IsItsGroup g s past → AreOf g (below g s e past)
  of-below its = of-each g (below g s e past) (λ i j. of-beneath its i (beneath g s e past i j))

  of-items : IsItsGroup g s past → AreOf g (items payload g s e past)
  of-items its = subst (AreOf g) (sym (items-are payload g s e past)) (of-append g (deeds payload s e.event e.reply past) (below g s e past) (of-deeds g payload s e.event e.reply past) (of-below its))

-- the part names links of the group alone
pub of-part : (setup : Setup) (payload : List ℕ) (past : List Entry) → IsMadeAll setup payload past → (s g : ℕ) → IsItsGroup g s past → AreOf g (part payload g s past)
of-part setup payload [] m s g its = tt
of-part setup payload (e ∷ past) m s g its = let before = its-before setup payload e past m s g its in of-append g (items payload g s e past) (part payload g s past) (of-items setup payload e past m s g before) (of-part setup payload past m.1 s g before)

-- that the group of an end ends with an entry, which is the cause; if the end was up, it names that group
pub record IsEnded (t : Terms) (x : Side) (g s : ℕ) (e : Entry) (past : List Entry) (items : List Item) (c : ResetCause) : Type 0 where
  pub group : ℕ
  pub cause_is : c ≡ NoLiveLink group
  pub lost : loses_group_with x g e past ≡ true
  pub own : (half x (pipe t items)).up ≡ true → group ≡ g

module _ (t : Terms) (x : Side) (g s : ℕ) (e : Entry) (past : List Entry) (items : List Item) (c : ResetCause) where
  abbrev Goal : Type 0
  Goal = Has c (half x (pipe t items)).phase ⊎ IsEnded t x g s e past items c

  no-call : (item : Item) (call : Call) → IsBeneath g s e past item → item ≡ Calls x call → ⊥
  no-call item call (AnEnd y q l) i = (let w : GroupEnd y ≡ Calls x call = sym q ∙ i in cc)
  no-call item call (AnUp y link q u) i = (let w : Up y link ≡ Calls x call = sym q ∙ i in cc)
  no-call item call (AFate y link phase q f) i = (let w : Fate y link phase ≡ Calls x call = sym q ∙ i in cc)

  no-landing : (item : Item) → IsBeneath g s e past item → item ≡ Lands (other x) → ⊥
  no-landing item (AnEnd y q l) i = (let w : GroupEnd y ≡ Lands (other x) = sym q ∙ i in cc)
  no-landing item (AnUp y link q u) i = (let w : Up y link ≡ Lands (other x) = sym q ∙ i in cc)
  no-landing item (AFate y link phase q f) i = (let w : Fate y link phase ≡ Lands (other x) = sym q ∙ i in cc)

  same-end : (y : Side) → GroupEnd y ≡ GroupEnd x → y ≡ x
  same-end y q = cc

  lost-of : (item : Item) → IsBeneath g s e past item → item ≡ GroupEnd x → loses_group_with x g e past ≡ true
  lost-of item (AnEnd y q l) i = subst (λ z. loses_group_with z g e past ≡ true) (same-end y (sym q ∙ i)) l
  lost-of item (AnUp y link q u) i = (let w : Up y link ≡ GroupEnd x = sym q ∙ i in cc)
  lost-of item (AFate y link phase q f) i = (let w : Fate y link phase ≡ GroupEnd x = sym q ∙ i in cc)

  -- below the deeds of an entry only the end of the group resets an end
  pub below-strike : (news : List Item) → ((i : Item) → IsAmong i news → IsBeneath g s e past i) → AreOf g (news ++ items) → Has c (half x (pipe t (news ++ items))).phase → Goal
  below-strike [] each of h = inl h
  below-strike (item ∷ news) each of h = by (below-strike news (λ i j. each i (inr j)) of.1) (strike c t x item (pipe t (news ++ items)) h)
    where
      by : (Has c (half x (pipe t (news ++ items))).phase → Goal) → Has c (half x (pipe t (news ++ items))).phase ⊎ IsStruck x item (pipe t (news ++ items)) c → Goal
      by rest (inl f) = rest f
      by rest (inr (ByCall i q r)) = absurd (no-call item Aborts (each item (inl refl)) i)
      by rest (inr (ByEnd i q)) = inr (record {
        group = (half x (pipe t (news ++ items))).link.group;
        cause_is = q;
        lost = lost-of item (each item (inl refl)) i;
        own = λ u. (let on : OnGroup g (half x (pipe t (news ++ items))) = on-group g t x (news ++ items) of.1 in on.own (stays-up t x news items u));
      })
      by rest (inr (ByMessage i k f d)) = absurd (no-landing item (each item (inl refl)) i)
