-- The link of an end that is up is of the group of its connection; so where a link that carries something of it stands at the peer, the group has not ended there.
use Rattle.std.proofs.Common.{List, None, Some, [], ap, eq-eqb, false, inl, inr, refl, subst, sym, true, true≢false, ℕ, ◌∙◌, ◌∷◌, ◌≡◌, ◌⊎◌, ◌||◌, Bool, if◌then◌else◌}
use Rattle.std.specs.Prelude.{Option, is_some, option_and_then, option_map, unwrap_or}
use Rattle.pipe_model.specs.Connections.{comes_up}
use Rattle.pipe_model.specs.declared.flow.FlowStep.TheVariants.{Live}
use Rattle.history_laws.specs.Words.{Act, B, Entry, FlowStep, Half, LinkId, Offered, Setup, Side, confirmed_by, fabric, group_of, group_on, half, has_ended, has_link, head, is_first_on, is_standing, is_up, live_links, act_in, lowest_link, offered, other, peer, pipe_of, same_link, stands, table_of, terms_of}
use Rattle.history_laws.specs.Made.{IsMadeAll}
use Rattle.history_laws.proofs.Basics.{and-both, by-bool, link-is, none-is, or-left, same-link, some-is}
use Rattle.history_laws.proofs.Items.{pipe-is-up}
use Rattle.link_laws.specs.Awaited.{AreOnKnown}
use Rattle.link_laws.specs.Joined.{HasContact}
use Rattle.link_laws.specs.Lasting.{IsLiveOrLost, is_lost}
use Rattle.link_laws.specs.Linked.{AreLinked, IsOwn}
use Rattle.link_laws.proofs.Joined.{flows-of, has-contact}
use Rattle.link_laws.proofs.Lasting.{live-at}
use Rattle.link_laws.proofs.Sound.{at-stands, has-group}
use Rattle.link_laws.proofs.Waiting.{by-kind, with-of}
use Rattle.lending_laws.specs.Ends.{AllPlain, HasLive, HasLiveIn, LivesOn, OffersGoOn}
use Rattle.lending_laws.proofs.Ends.{all-begin, all-plain, has-live-in, up-in}
use Rattle.wire_laws.proofs.Agreement.{Holds, b-offered, holds, link-turn, now-owed, same-group, up-offered}
use Rattle.wire_laws.specs.Agreement.{OwedToAgreement}

-- the link on which an end comes up is of the group of its connection
pub comes-group : (setup : Setup) (payload : List ℕ) (e : Entry) (past : List Entry) → IsMadeAll setup payload (e ∷ past) → (x : Side) (s : ℕ) (link : LinkId) → comes_up x s e past ≡ Some link → link.group ≡ group_on s past
comes-group setup payload e past m x s link u = by-kind setup payload e past m s (link.group ≡ group_on s past) x link u
    (λ ev r n. ap (λ k. unwrap_or (option_map (λ (l : LinkId). l.group) k) 0) (sym n))
    (λ f. by (act_in x e past) f)
  where
    at : (l : LinkId) (q : Option Offered) → offered B s past ≡ q → is_first_on l q ≡ true → l.group ≡ group_on s past
    at l None j t = absurd (true≢false (sym t))
    at l (Some o) j t =
        let same = and-both o.offer.first (same_link o.link l) t in
        ap (λ (k : LinkId). k.group) (sym (link-is o.link l same.1)) ∙ sym (ap (λ k. unwrap_or (option_map (λ (i : LinkId). i.group) (option_map (λ (p : Offered). p.link) k)) 0) j)

    named : (l : LinkId) (b : Bool) → is_first_on l (offered B s past) ≡ b → (if b then Some l else None) ≡ Some link → link.group ≡ group_on s past
    named l true q k = subst (λ (i : LinkId). i.group ≡ group_on s past) (some-is l link k) (at l (offered B s past) refl q)
    named l false q k = absurd (none-is link k)

    step : (l : LinkId) (w : FlowStep) → confirmed_by (offered B s past) l w ≡ Some link → link.group ≡ group_on s past
    step l (Live reply true) k = named l (is_first_on l (offered B s past)) refl k
    step l w k = absurd (none-is link k)

    by : (k : Option Act) → option_and_then (λ act. confirmed_by (offered B s past) act.link act.step) k ≡ Some link → link.group ≡ group_on s past
    by None c = absurd (none-is link c)
    by (Some act) c = step act.link act.step c

-- a live link stands at its side
pub live-stands : (x : Side) (l : LinkId) (past : List Entry) → IsOwn x (peer x (fabric past)) → has_link l (live_links (table_of x past)) ≡ true → stands l (table_of x past) ≡ true
live-stands x l past own h = let a = live-at 1 l (table_of x past) own.rises h in at-stands l (table_of x past) a.1.0 (ap is_standing a.1.1)

module _ (setup : Setup) (payload : List ℕ) where
  abbrev pub InGroup : List Entry → Type 0
  InGroup past = (x : Side) (s : ℕ) → is_up x s past ≡ true → (half x (pipe_of setup payload (group_on s past) s past)).link.group ≡ group_on s past

  module _ (past : List Entry) (m : IsMadeAll setup payload past) (known : AreOnKnown setup past) where
    pub plain-of : AllPlain setup payload past
    plain-of = all-plain setup payload past m (flows-of setup payload past m) (with-of setup payload past m known)

    pub holds-of : Holds setup payload past
    holds-of = holds setup payload past m plain-of

    pub owns : (x : Side) → IsOwn x (peer x (fabric past))
    owns x = let c : HasContact past = has-contact setup payload past m in let l : AreLinked (fabric past) c.flows.under = c.flows.linked in l.own x

    -- the group of a socket on which something was offered is not 0
    some-group : (s : ℕ) (r : Offered) → offered B s past ≡ Some r → group_on s past ≡ 0 → ⊥
    some-group s r f z =
        let owed = now-owed setup payload past holds-of.all in
        true≢false (sym (eq-eqb r.link.group 0 (sym (ap (λ k. unwrap_or (option_map (λ (i : LinkId). i.group) (option_map (λ (p : Offered). p.link) k)) 0) f) ∙ z)) ∙ owed.grouped s r f)

    live-in : (x : Side) (s : ℕ) → (group_on s past ≡ 0 → ⊥) → HasLiveIn setup payload x s (group_on s past) past
    live-in x s some = has-live-in setup payload past m (flows-of setup payload past m) (all-begin setup payload past m (flows-of setup payload past m)) x s (group_on s past) some

    -- an end that is up, and whose group stands, is in its side's group
    up-group : (x : Side) (s : ℕ) → is_up x s past ≡ true → (half x (pipe_of setup payload (group_on s past) s past)).stands ≡ true → group_of x past ≡ group_on s past
    up-group x s u st = by (up-in setup payload past m (flows-of setup payload past m) x s u)
      where
        by : (o : Offered) × ((offered B s past ≡ Some o) × ((group_of x past ≡ o.link.group) ⊎ (has_ended x o.link.group past ≡ true))) → group_of x past ≡ group_on s past
        by (o, (f, inl i)) = i ∙ sym (ap (λ k. unwrap_or (option_map (λ (i : LinkId). i.group) (option_map (λ (p : Offered). p.link) k)) 0) f)
        by (o, (f, inr d)) =
            let h = live-in x s (some-group s o f) in
            absurd (true≢false (sym st ∙ h.ended (ap (λ g. has_ended x g past) (ap (λ k. unwrap_or (option_map (λ (i : LinkId). i.group) (option_map (λ (p : Offered). p.link) k)) 0) f) ∙ d)))

  -- what the live links of ends are after a history
  now-live : (past : List Entry) → AllPlain setup payload past → HasLive setup payload past
  now-live [] a = a.1
  now-live (f ∷ older) a = a.0.1

  module _ (e : Entry) (past : List Entry) (m : IsMadeAll setup payload (e ∷ past)) (known : AreOnKnown setup (e ∷ past)) (was : InGroup past) (x : Side) (s : ℕ) (u : is_up x s (e ∷ past) ≡ true) where
    abbrev Was : Half
    Was = half x (pipe_of setup payload (group_on s past) s past)

    abbrev Is : Half
    Is = half x (pipe_of setup payload (group_on s past) s (e ∷ past))

    h : Holds setup payload past
    h = holds-of past m.1 known.1

    plain : AllPlain setup payload (e ∷ past)
    plain = plain-of (e ∷ past) m known

    owed : OwedToAgreement setup payload past
    owed = now-owed setup payload past h.all

    beside : OffersGoOn e past
    beside = let q = plain.1 in let r = q.0 in r.0

    lives : LivesOn e past
    lives = let q = plain.1 in let r = q.0 in r.1

    live : HasLive setup payload past
    live = let q = plain.1 in now-live past q.1

    was-up : Was.up ≡ true → is_up x s past ≡ true
    was-up v = sym (pipe-is-up (terms_of setup) x payload (group_on s past) s past) ∙ v

    offered-before : (o : Offered) × (offered (other x) s past ≡ Some o)
    offered-before = by (comes_up x s e past) refl
      where
        by : (c : Option LinkId) → comes_up x s e past ≡ c → (o : Offered) × (offered (other x) s past ≡ Some o)
        by (Some l) f = beside.answers x s l f
        by None f = up-offered setup payload x s past h.all (ap (λ c. is_some c || is_up x s past) (sym f) ∙ u)

    -- it is on its lowest live link, or where it was
    lowest : (ls : List LinkId) → Was.live ≡ ls → Was.up ≡ true → Was.stands ≡ true → (unwrap_or (head ls) Was.link).group ≡ group_on s past
    lowest [] q v st = was x s (was-up v)
    lowest (l ∷ ls) q v st =
        let own : IsOwn x (peer x (fabric past)) = owns past m.1 known.1 x in
        let there : has_link l (live_links (table_of x past)) ≡ true = ap (λ ms. has_link l ms) (sym (sym q ∙ live.live x s st v)) ∙ or-left (same_link l l) (has_link l ls) (same-link l) in
        let g = has-group x (peer x (fabric past)) l own (live-stands x l past own there) in
        g.1 ∙ up-group past m.1 known.1 x s (was-up v) st

    pub group-after : (half x (pipe_of setup payload (group_on s (e ∷ past)) s (e ∷ past))).link.group ≡ group_on s (e ∷ past)
    group-after =
        let b = b-offered setup payload e past m.0.0 m.0.1 owed beside (other x) s offered-before.0 offered-before.1 in
        subst (λ g. (half x (pipe_of setup payload g s (e ∷ past))).link.group ≡ g) (sym (same-group setup payload e past m.0.0 m.0.1 owed beside h.all h.agree s b.0 b.1))
        (by (link-turn setup payload e past m.0.0 m.0.1 owed beside live lives x s (λ v. h.on x s (was-up v)) u))
      where
        by : ((Was.up ≡ true) × (Is.link ≡ Was.link)) ⊎ (((Was.up ≡ true) × ((Was.stands ≡ true) × (Is.link ≡ lowest_link Was))) ⊎ ((l : LinkId) × ((comes_up x s e past ≡ Some l) × (Is.link ≡ l)))) → Is.link.group ≡ group_on s past
        by (inl q) = ap (λ (l : LinkId). l.group) q.1 ∙ was x s (was-up q.0)
        by (inr (inl q)) = ap (λ (l : LinkId). l.group) q.1.1 ∙ lowest Was.live refl q.0 q.1.0
        by (inr (inr q)) = ap (λ (l : LinkId). l.group) q.1.1 ∙ comes-group setup payload e past m x s q.0 q.1.0

  pub in-group : (past : List Entry) → IsMadeAll setup payload past → AreOnKnown setup past → InGroup past
  in-group [] m known x s u = absurd (true≢false (sym u))
  in-group (e ∷ past) m known x s u = group-after e past m known (in-group past m.1 known.1) x s u

  -- a link that an end is on, which its side has not lost, is live there; where it stands at the peer too, both are in the group of the
  -- connection, which has not ended at the peer
  pub record IsShared (x : Side) (s : ℕ) (link : LinkId) (past : List Entry) : Type 0 where
    pub live : has_link link (live_links (table_of x past)) ≡ true
    pub stands_x : stands link (table_of x past) ≡ true
    pub group_x : group_of x past ≡ group_on s past
    pub group_y : group_of (other x) past ≡ group_on s past
    pub some : group_on s past ≡ 0 → ⊥
    pub unended : has_ended (other x) (group_on s past) past ≡ false

  module _ (past : List Entry) (m : IsMadeAll setup payload past) (known : AreOnKnown setup past) where
    -- the link of an end that is up is live at its side, as long as this has not lost it
    pub live-there : (x : Side) (s : ℕ) (link : LinkId) → (half x (pipe_of setup payload (group_on s past) s past)).up ≡ true → (half x (pipe_of setup payload (group_on s past) s past)).link ≡ link → is_lost x link past ≡ false → has_link link (live_links (table_of x past)) ≡ true
    live-there x s link v on kept = by (subst (λ l. IsLiveOrLost x l past) on (h.on x s (sym (pipe-is-up (terms_of setup) x payload (group_on s past) s past) ∙ v)))
      where
        h : Holds setup payload past
        h = holds-of past m known

        by : IsLiveOrLost x link past → has_link link (live_links (table_of x past)) ≡ true
        by (inl l) = absurd (true≢false (sym l ∙ kept))
        by (inr q) = q

    pub shared : (x : Side) (s : ℕ) (o : Offered) (link : LinkId) → offered (other x) s past ≡ Some o → (half x (pipe_of setup payload (group_on s past) s past)).up ≡ true → (half x (pipe_of setup payload (group_on s past) s past)).link ≡ link → is_lost x link past ≡ false
        → stands link (table_of (other x) past) ≡ true → IsShared x s link past
    shared x s o link f v on kept st =
        let there = live-there x s link v on kept in
        let at = live-stands x link past (owns past m known x) there in
        let gx = has-group x (peer x (fabric past)) link (owns past m known x) at in
        let gy = has-group (other x) (peer (other x) (fabric past)) link (owns past m known (other x)) st in
        let of : link.group ≡ group_on s past = ap (λ (l : LinkId). l.group) (sym on) ∙ in-group past m known x s (sym (pipe-is-up (terms_of setup) x payload (group_on s past) s past) ∙ v) in
        let some : group_on s past ≡ 0 → ⊥ = λ z. gx.0 (sym gx.1 ∙ (of ∙ z)) in
        let w = live-in past m known (other x) s some in
        record {
          live = there;
          stands_x = at;
          group_x = sym gx.1 ∙ of;
          group_y = sym gy.1 ∙ of;
          some = some;
          unended = by-bool (has_ended (other x) (group_on s past) past ≡ false) (has_ended (other x) (group_on s past) past)
              (λ d. absurd (true≢false (sym (w.here (sym gy.1 ∙ of)).1 ∙ w.ended d))) (λ d. d);
        }
