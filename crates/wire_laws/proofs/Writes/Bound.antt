-- Where the link of a write that waits stands at the peer too, its key is bound there to the RMB of the element, and to no other.
use Rattle.std.proofs.Common.{Bool, List, [], ap, append_assoc, drop, eq-eqb, eqb-true, false, filter, fold, if◌then◌else◌, inl, inr, map, refl, subst, sym, true, true≢false, ℕ, ◌&&◌, ◌++◌, ◌==◌, ◌||◌, ◌∙◌, ◌∷◌, ◌≡◌, ◌⊎◌}
use Rattle.std.specs.Prelude.{Some, unwrap_or}
use Rattle.std.specs.List.{list_any}
use Rattle.smc_num.specs.Keys.{is_named, rmbs_bound}
use Rattle.smc_num.specs.declared.LinkPhase.TheVariants.{Live as LiveLink}
use Rattle.pipe_model.specs.Flows.{LinkSent}
use Rattle.pipe_model.specs.Keys.{by_post, if_group, last_bound}
use Rattle.pipe_model.specs.declared.post.Post.TheVariants.{Clc, Write}
use Rattle.history_laws.specs.Words.{A, Abandoned, AddSeen, AddSent, B, Cdc, Dead, Entry, Fabric, FirstContact, Key, Keys, KeysSent, Known, LinkFlow, LinkId, LinkPhase, Llc, NoFlow, Offered, Pending, Placed, Post, PostRef, Setup, Side, Unused, act_by, by_act, connection_posts, draft, fabric, flow_of, has_ended, is_live, is_standing, keys_of, lent, other, peer, phase_at, Reply, rmb_at, same_link, stands, table_of, unlanded}
use Rattle.history_laws.specs.Lists.{IsAmong}
use Rattle.history_laws.specs.Made.{IsMade, IsMadeAll}
use Rattle.history_laws.specs.Posts.{AreData, is_data}
use Rattle.history_laws.specs.Wires.{leaving}
use Rattle.history_laws.proofs.Basics.{or-left, or-right, or-true, same-link}
use Rattle.history_laws.proofs.Posts.{connections-data}
use Rattle.link_laws.specs.Awaited.{AreOnKnown}
use Rattle.link_laws.specs.Covered.{HasKey, wants_keys}
use Rattle.link_laws.specs.FabricChanges.{is_keyed}
use Rattle.link_laws.specs.Joined.{HasContact}
use Rattle.link_laws.specs.KeyChanges.{AreKeys, Goes, GroupGoes, HasUse, NoTwo, Withdrawn, same_number}
use Rattle.link_laws.specs.Lasting.{NoneAgain, StandsOrLost, is_lost}
use Rattle.link_laws.specs.Linked.{AreLinked, AreTogether, is_confirming, slot_fits}
use Rattle.link_laws.proofs.Joined.{flows-of, has-contact}
use Rattle.link_laws.proofs.Keys.{keys-are, none-of, one-use}
use Rattle.link_laws.proofs.Lasting.{live-at, none-again, stands-known, stands-or-lost}
use Rattle.link_laws.proofs.Sound.{has-group, stands-at}
use Rattle.lending_laws.specs.Ends.{OffersGoOn}
use Rattle.lending_laws.specs.Tokens.{use_of}
use Rattle.lending_laws.proofs.Keys.{last-is, stays-bound}
use Rattle.lending_laws.proofs.Known.{all-covered}
use Rattle.lending_laws.proofs.Lendings.{lending-group}
use Rattle.wire_laws.specs.Agreement.{OwedToAgreement}
use Rattle.wire_laws.specs.Writes.{GoesUnderBound, IsWaitingWrite}
use Rattle.wire_laws.proofs.FreedKeys.{withdrawn-not-lent}
use Rattle.wire_laws.proofs.Agreement.{Holds, draft-fabric, now-owed}
use Rattle.wire_laws.proofs.Writes.Aimed.{IsAimed, IsKeyed, News, R, aim-new, aim-stays, all-posted, on-is}
use Rattle.wire_laws.proofs.Writes.Confirmed.{lent-confirmed}
use Rattle.wire_laws.proofs.Writes.Groups.{IsShared, holds-of, live-stands, live-there, owns, plain-of, shared}
use Rattle.wire_laws.proofs.Writes.Lent.{ItsLending, goes-by, lending-begun, lent-for, on-wire-at}
use Rattle.wire_laws.proofs.Writes.NewWrites.{EachBehind, IsPosted, behind-at, behind-drop, behind-more, behind-where}

-- a number of which there is one key is bound to one RMB
none-named : (n : ℕ) (l : LinkId) (ks : List Key) → list_any (λ (k : Key). n == k.key) ks ≡ false → filter (is_named n l) ks ≡ []
none-named n l [] e = refl
none-named n l (k ∷ ks) e = by (n == k.key) refl e (λ f. none-named n l ks f)
  where
    by : (b : Bool) → (n == k.key) ≡ b → (b || list_any (λ (j : Key). n == j.key) ks) ≡ false → (list_any (λ (j : Key). n == j.key) ks ≡ false → filter (is_named n l) ks ≡ []) → filter (is_named n l) (k ∷ ks) ≡ []
    by true q f again = absurd (true≢false f)
    by false q f again = ap (λ b. if b && same_link k.link l then k ∷ filter (is_named n l) ks else filter (is_named n l) ks) (turned (k.key == n) refl) ∙ again f
      where
        turned : (b : Bool) → (k.key == n) ≡ b → b ≡ false
        turned false r = refl
        turned true r = absurd (true≢false (sym (eq-eqb n k.key (sym (eqb-true k.key n r))) ∙ q))

once-bound : (ks : List Key) → NoTwo same_number ks → (k : Key) → IsAmong k ks → rmbs_bound k.key k.link ks ≡ k.rmb ∷ []
once-bound [] n k i = absurd i
once-bound (j ∷ ks) n k (inl same) = subst (λ (i : Key). rmbs_bound i.key i.link (j ∷ ks) ≡ i.rmb ∷ []) (sym same)
    (ap (λ b. map (λ (i : Key). i.rmb) (if b then j ∷ filter (is_named j.key j.link) ks else filter (is_named j.key j.link) ks)) here ∙ ap (λ is. j.rmb ∷ map (λ (i : Key). i.rmb) is) (none-named j.key j.link ks n.0))
  where
    here : ((j.key == j.key) && same_link j.link j.link) ≡ true
    here = ap (λ b. b && same_link j.link j.link) (eq-eqb j.key j.key refl) ∙ same-link j.link
once-bound (j ∷ ks) n k (inr i) = ap (λ b. map (λ (h : Key). h.rmb) (if b && same_link j.link k.link then j ∷ filter (is_named k.key k.link) ks else filter (is_named k.key k.link) ks)) (none-of (λ (h : Key). j.key == h.key) k ks n.0 i) ∙ once-bound ks n.1 k i

-- posts of the pipes change no keys
keeps-keys : (y : Side) (table : List Known) (ks : Keys) (p : Post) → is_data p ≡ true → by_post y table ks p ≡ ks
keeps-keys A table ks (Write from link key address len) e = refl
keeps-keys B table ks (Write from link key address len) e = refl
keeps-keys A table ks (Cdc from link m) e = refl
keeps-keys B table ks (Cdc from link m) e = refl
keeps-keys y table ks (Llc from link m) e = absurd (true≢false (sym e))
keeps-keys y table ks (Clc from s link m) e = absurd (true≢false (sym e))

data-keep : (y : Side) (table : List Known) (ks : Keys) (ps more : List Post) → AreData more → fold (by_post y table) ks (ps ++ more) ≡ fold (by_post y table) ks ps
data-keep y table ks [] [] a = refl
data-keep y table ks [] (p ∷ more) a = ap (λ k. fold (by_post y table) k more) (keeps-keys y table ks p a.0) ∙ data-keep y table ks [] more a.1
data-keep y table ks (p ∷ ps) more a = data-keep y table (by_post y table ks p) ps more a

-- so the draft of an entry gives the keys that the entry gives
module _ (setup : Setup) (payload : List ℕ) (e : Entry) (past : List Entry) (before : ℕ) (made : IsMade setup payload past before e) (owed : OwedToAgreement setup payload past) (beside : OffersGoOn e past) (y : Side) where
  abbrev Drafted : Entry
  Drafted = draft setup payload past before e.event

  abbrev KeysBy : Fabric → Reply → List Post → Keys
  KeysBy f reply ps = if_group (peer y f).group (fold (by_post y (peer y f).table) (by_act y (flow_of y past) (peer y f).table (act_by y e.event reply past) (keys_of y past)) ps)

  draft-keys : keys_of y (Drafted ∷ past) ≡ keys_of y (e ∷ past)
  draft-keys =
      ap (λ f. KeysBy f Drafted.reply Drafted.posts) (draft-fabric setup payload e past before made owed beside) ∙
      (sym (ap (λ ks. if_group (peer y (fabric (e ∷ past))).group ks) (data-keep y (peer y (fabric (e ∷ past))).table (by_act y (flow_of y past) (peer y (fabric (e ∷ past))).table (act_by y e.event Drafted.reply past) (keys_of y past)) Drafted.posts (connection_posts setup payload Drafted past) (connections-data setup payload Drafted past))) ∙
      (sym (ap (λ r. KeysBy (fabric (e ∷ past)) r (Drafted.posts ++ connection_posts setup payload Drafted past)) made.reply) ∙ sym (ap (λ ps. KeysBy (fabric (e ∷ past)) e.reply ps) made.posts)))

  -- a key that is bound after the entry is the one bound last after its draft
  last-drafted : (rmb : ℕ) (link : LinkId) (k : HasKey rmb link (keys_of y (e ∷ past)).keys) → unwrap_or (last_bound y rmb link (Drafted ∷ past)) 0 ≡ k.key.key
  last-drafted rmb link k = ap (λ o. unwrap_or o 0) (subst (λ l. last_bound y rmb l (Drafted ∷ past) ≡ Some k.key.key) k.on (subst (λ r. last_bound y r k.key.link (Drafted ∷ past) ≡ Some k.key.key) k.of
      (last-is y (Drafted ∷ past) k.key (subst (λ (ks : Keys). IsAmong k.key ks.keys) (sym draft-keys) k.among))))

-- a link that waits to be confirmed has its keys
confirming-keyed : (k : ℕ) (flow : LinkFlow) → is_confirming k flow ≡ true → is_keyed k flow ≡ true
confirming-keyed k FirstContact e = refl
confirming-keyed k (LinkSent j) e = e
confirming-keyed k NoFlow e = absurd (true≢false (sym e))
confirming-keyed k (AddSent j on) e = absurd (true≢false (sym e))
confirming-keyed k (KeysSent j on) e = absurd (true≢false (sym e))
confirming-keyed k (Abandoned on) e = absurd (true≢false (sym e))
confirming-keyed k (AddSeen j) e = absurd (true≢false (sym e))

module _ (setup : Setup) (payload : List ℕ) where
  -- the key of a write is bound to an RMB for the slot of its link, where the link stands at the peer
  abbrev pub IsBoundFor : Side → LinkId → List Entry → ℕ → Offered → Type 0
  IsBoundFor x link past key o = stands link (table_of (other x) past) ≡ true → HasUse (use_of key (rmb_at o.offer.address) link.slot) (keys_of (other x) past).keys

  abbrev pub BoundAt : Side → LinkId → List Entry → PostRef → Post → List Placed → Type 0
  BoundAt x link past at (Write from l key address len) rest = (s : ℕ) × ((o : Offered) × (IsAimed setup payload x link past at address len rest s o × IsBoundFor x link past key o))
  BoundAt x link past at _ rest = Unit {0}

  abbrev pub AreBoundAt : Side → LinkId → List Entry → Placed → List Placed → Type 0
  AreBoundAt x link past c rest = BoundAt x link past c.at c.post rest

  -- after one history
  module _ (past : List Entry) (m : IsMadeAll setup payload past) (known : AreOnKnown setup past) where
    linked : (u : _) × AreLinked (fabric past) u
    linked = let c : HasContact past = has-contact setup payload past m in (c.flows.under, c.flows.linked)

    -- a side has keys on a link that is live at its peer and stands here
    wants : (x : Side) (s : ℕ) (link : LinkId) → IsShared setup payload x s link past → stands link (table_of (other x) past) ≡ true → wants_keys (other x) link.slot (peer (other x) (fabric past)) ≡ true
    wants B s link sh st = refl
    wants A s link sh st = by (phase_at link.slot (table_of B past)) refl (stands-at 1 link (table_of B past) (owns setup payload past m known B).rises st).2
      where
        live : phase_at link.slot (table_of A past) ≡ LiveLink
        live = (live-at 1 link (table_of A past) (owns setup payload past m known A).rises sh.live).1.1

        together : AreTogether (peer A (fabric past)) (peer B (fabric past))
        together = let l : AreLinked (fabric past) linked.0 = linked.1 in l.together (λ z. sh.some (sym sh.group_x ∙ z)) (sh.group_x ∙ sym sh.group_y)

        by : (p : LinkPhase) → phase_at link.slot (table_of B past) ≡ p → is_standing (phase_at link.slot (table_of B past)) ≡ true → wants_keys B link.slot (peer B (fabric past)) ≡ true
        by LiveLink q t = or-left (is_live (phase_at link.slot (table_of B past))) (is_keyed link.slot (flow_of B past).link) (ap is_live q)
        by Pending q t = or-true (is_live (phase_at link.slot (table_of B past))) (is_keyed link.slot (flow_of B past).link)
            (confirming-keyed link.slot (flow_of B past).link (ap (λ p. slot_fits (flow_of B past).link link.slot LiveLink p) (sym q) ∙ (ap (λ p. slot_fits (flow_of B past).link link.slot p (phase_at link.slot (table_of B past))) (sym live) ∙ together.slots link.slot)))
        by Unused q t = absurd (true≢false (sym t ∙ ap is_standing q))
        by Dead q t = absurd (true≢false (sym t ∙ ap is_standing q))

    -- what a write needs of the peer, where its link stands there: the group has not ended, the element is lent, and its RMB has a key for the link
    module _ (x : Side) (link : LinkId) (at : PostRef) (key address len : ℕ) (behind : List Placed) (w : IsWaitingWrite x link past at key address len behind) (s : ℕ) (o : Offered) (a : IsAimed setup payload x link past at address len behind s o) (st : stands link (table_of (other x) past) ≡ true) where
      is-shared : IsShared setup payload x s link past
      is-shared = shared setup payload past m known x s o link a.offered_is a.by.up a.by.on w.kept st

      pub unended : has_ended (other x) o.link.group past ≡ false
      unended = ap (λ g. has_ended (other x) g past) (lending-group setup payload past m (other x) (ItsLending setup payload past m known s o) (lending-begun setup payload past m known (other x) s o a.offered_is)) ∙ is-shared.unended

      pub is-lent : IsAmong (ItsLending setup payload past m known s o) (lent setup payload (other x) past)
      is-lent = lent-for setup payload past m known x link at key address len behind w s o a unended

      pub its-key : HasKey (rmb_at o.offer.address) link (keys_of (other x) past).keys
      its-key = all-covered setup payload past m (other x) (rmb_at o.offer.address) (lent-confirmed setup payload past m known (other x) (ItsLending setup payload past m known s o) is-lent) link.slot link
          (stands-at 1 link (table_of (other x) past) (owns setup payload past m known (other x)).rises st).1 (wants x s link is-shared st)

      -- the key is that one
      pub once : HasUse (use_of key (rmb_at o.offer.address) link.slot) (keys_of (other x) past).keys → rmbs_bound key link (keys_of (other x) past).keys ≡ rmb_at o.offer.address ∷ []
      once u =
          let are : AreKeys _ (keys_of (other x) past).keys = keys-are (other x) past in
          let k : HasKey (rmb_at o.offer.address) link (keys_of (other x) past).keys = its-key in
          let same : k.key ≡ u.key = one-use (keys_of (other x) past).keys are.uses k.key u.key k.among u.among (k.of ∙ sym u.of) (ap (λ (l : LinkId). l.slot) k.on ∙ sym u.slot) in
          ap (λ n. rmbs_bound n link (keys_of (other x) past).keys) (sym (ap (λ (j : Key). j.key) same ∙ u.number)) ∙
          (ap (λ l. rmbs_bound k.key.key l (keys_of (other x) past).keys) (sym k.on) ∙ (once-bound (keys_of (other x) past).keys are.numbers k.key k.among ∙ ap (λ r. r ∷ []) k.of))

  -- with an entry
  module _ (e : Entry) (past : List Entry) (m : IsMadeAll setup payload (e ∷ past)) (known : AreOnKnown setup (e ∷ past)) (x : Side) (link : LinkId) (kept : is_lost x link (e ∷ past) ≡ false) where
    h : Holds setup payload past
    h = holds-of setup payload past m.1 known.1

    owed : OwedToAgreement setup payload past
    owed = now-owed setup payload past h.all

    beside : OffersGoOn e past
    beside = let a = plain-of setup payload (e ∷ past) m known in let q = a.1 in let r = q.0 in r.0

    was-kept : is_lost x link past ≡ false
    was-kept = or-right _ (is_lost x link past) kept

    abbrev New : List Placed
    New = News setup payload e past m.0.0 m.0.1 owed beside h.all h.agree link x

    -- a link that stands at the peer stood there, where something was under way on it
    stood : (s : ℕ) (o : Offered) (at : PostRef) (address len : ℕ) (rest : List Placed) → IsAimed setup payload x link past at address len rest s o → stands link (table_of (other x) (e ∷ past)) ≡ true → stands link (table_of (other x) past) ≡ true
    stood s o at address len rest a st = by (stands-or-lost setup payload past m.1 (flows-of setup payload past m.1) (other x) link (stands-known x link past (live-stands x link past (owns setup payload past m.1 known.1 x) (live-there setup payload past m.1 known.1 x s link a.by.up a.by.on was-kept))))
      where
        by : StandsOrLost (other x) link past → stands link (table_of (other x) past) ≡ true
        by (inl s) = s
        by (inr l) = let again : NoneAgain (e ∷ past) = none-again setup payload (e ∷ past) m (flows-of setup payload (e ∷ past) m) in absurd (true≢false (sym (or-true _ (is_lost (other x) link past) l) ∙ again.again (other x) link st))

    old-bound : (at : PostRef) (key address len : ℕ) (rest : List Placed) → IsWaitingWrite x link past at key address len rest → (s : ℕ) (o : Offered) → IsAimed setup payload x link past at address len rest s o → IsBoundFor x link past key o → IsBoundFor x link (e ∷ past) key o
    old-bound at key address len rest w s o a b st = by (stays-bound (other x) e past (use_of key (rmb_at o.offer.address) link.slot) (b was))
      where
        was : stands link (table_of (other x) past) ≡ true
        was = stood s o at address len rest a st

        by : HasUse (use_of key (rmb_at o.offer.address) link.slot) (keys_of (other x) (e ∷ past)).keys ⊎ Goes (other x) e past (rmb_at o.offer.address) → HasUse (use_of key (rmb_at o.offer.address) link.slot) (keys_of (other x) (e ∷ past)).keys
        by (inl u) = u
        by (inr (Withdrawn t q)) = absurd (withdrawn-not-lent setup payload e past m (other x) t (rmb_at o.offer.address) q (ItsLending setup payload past m.1 known.1 s o) refl (is-lent past m.1 known.1 x link at key address len rest w s o a was))
        by (inr (GroupGoes none)) = absurd ((has-group (other x) (peer (other x) (fabric (e ∷ past))) link (owns setup payload (e ∷ past) m known (other x)) st).0 none)

    stays-bound-at : (front : List Placed) (at : PostRef) (post : Post) (rest : List Placed) → unlanded link x past ≡ front ++ record { at = at; post = post } ∷ rest → BoundAt x link past at post rest → BoundAt x link (e ∷ past) at post (rest ++ New)
    stays-bound-at front at (Cdc from l c) rest q b = tt
    stays-bound-at front at (Llc from l c) rest q b = tt
    stays-bound-at front at (Clc from s l c) rest q b = tt
    stays-bound-at front at (Write from l key address len) rest q b =
        let on = on-is-at front at from l key address len rest q in
        let w : IsWaitingWrite x link past at key address len rest = record { kept = was-kept; before = front; unlanded_is = q ∙ ap (λ p. front ++ record { at = at; post = p } ∷ rest) (ap (λ z. Write z l key address len) (sym on.0) ∙ ap (λ k. Write x k key address len) (sym on.1)) } in
        (b.0, (b.1.0, (aim-stays setup payload e past m.0.0 m.0.1 owed beside h.all h.agree x link was-kept at address len rest b.0 b.1.0 b.1.1.0, old-bound at key address len rest w b.0 b.1.0 b.1.1.0 b.1.1.1)))
      where
        on-is-at : (front : List Placed) (at : PostRef) (from : Side) (l : LinkId) (key address len : ℕ) (rest : List Placed) → unlanded link x past ≡ front ++ record { at = at; post = Write from l key address len } ∷ rest → (x ≡ from) × (link ≡ l)
        on-is-at front at from l key address len rest q = on-is setup payload e past m.0.0 m.0.1 owed beside h.all h.agree x link from l (on-wire-at link x past front (record { at = at; post = Write from l key address len }) rest q)

    -- the element of a new write is lent, and its key is bound
    new-bound : (at : PostRef) (key address len : ℕ) (rest : List Placed) → IsWaitingWrite x link (e ∷ past) at key address len rest → (s : ℕ) (o : Offered) → IsAimed setup payload x link (e ∷ past) at address len rest s o
        → IsKeyed setup payload e past m.0.0 m.0.1 owed beside h.all h.agree x link key o → IsBoundFor x link (e ∷ past) key o
    new-bound at key address len rest w s o a keyed st =
        let k : HasKey (rmb_at o.offer.address) link (keys_of (other x) (e ∷ past)).keys = its-key (e ∷ past) m known x link at key address len rest w s o a st in
        record {
          key = k.key;
          among = k.among;
          number = sym (keyed ∙ last-drafted setup payload e past m.0.0 m.0.1 owed beside (other x) (rmb_at o.offer.address) link k);
          of = k.of;
          slot = ap (λ (l : LinkId). l.slot) k.on;
        }

    new-bound-at : (front : List Placed) (at : PostRef) (post : Post) (rest : List Placed) → New ≡ front ++ record { at = at; post = post } ∷ rest → IsPosted (R setup payload e past m.0.0 m.0.1 owed beside h.all h.agree) link x e past (record { at = at; post = post }) rest
        → BoundAt x link (e ∷ past) at post rest
    new-bound-at front at (Cdc from l c) rest q p = tt
    new-bound-at front at (Llc from l c) rest q p = tt
    new-bound-at front at (Clc from s l c) rest q p = tt
    new-bound-at front at (Write from l key address len) rest q p =
        let n = aim-new setup payload e past m.0.0 m.0.1 owed beside h.all h.agree x link at from l key address len rest p in
        let on = on-is setup payload e past m.0.0 m.0.1 owed beside h.all h.agree x link from l p.on in
        let w : IsWaitingWrite x link (e ∷ past) at key address len rest = record {
          kept = kept;
          before = drop (leaving link x e past) (unlanded link x past) ++ front;
          unlanded_is = ap (λ cs. drop (leaving link x e past) (unlanded link x past) ++ cs) q ∙ (sym (append_assoc (drop (leaving link x e past) (unlanded link x past)) front (record { at = at; post = Write from l key address len } ∷ rest)) ∙
              ap (λ c. (drop (leaving link x e past) (unlanded link x past) ++ front) ++ record { at = at; post = c } ∷ rest) (ap (λ z. Write z l key address len) (sym on.0) ∙ ap (λ k. Write x k key address len) (sym on.1)));
        } in
        (n.0, (n.1.0, (n.1.1.0, new-bound at key address len rest w n.0 n.1.0 n.1.1.0 n.1.1.1)))

    bound-after : EachBehind (AreBoundAt x link past) (unlanded link x past) → EachBehind (AreBoundAt x link (e ∷ past)) (unlanded link x (e ∷ past))
    bound-after was = behind-more (λ c rest. AreBoundAt x link (e ∷ past) c (rest ++ New)) (AreBoundAt x link (e ∷ past)) New (λ c rest b. b) (drop (leaving link x e past) (unlanded link x past))
        (behind-drop (λ c rest. AreBoundAt x link (e ∷ past) c (rest ++ New)) (leaving link x e past) (unlanded link x past)
        (behind-where (AreBoundAt x link past) (λ c rest. AreBoundAt x link (e ∷ past) c (rest ++ New)) (unlanded link x past) (λ front c rest q b. stays-bound-at front c.at c.post rest q b) was))
        (behind-where (IsPosted (R setup payload e past m.0.0 m.0.1 owed beside h.all h.agree) link x e past) (AreBoundAt x link (e ∷ past)) New (λ front c rest q p. new-bound-at front c.at c.post rest q p)
        (all-posted setup payload e past m.0.0 m.0.1 owed beside h.all h.agree link x))

  -- after every history
  pub all-bound-at : (past : List Entry) → IsMadeAll setup payload past → AreOnKnown setup past → (x : Side) (link : LinkId) → is_lost x link past ≡ false → EachBehind (AreBoundAt x link past) (unlanded link x past)
  all-bound-at [] m known x link kept = tt
  all-bound-at (e ∷ past) m known x link kept = bound-after e past m known x link kept (all-bound-at past m.1 known.1 x link (or-right _ (is_lost x link past) kept))

  -- the key of a write that waits, where its link stands at the peer
  pub goes-under-bound : (past : List Entry) (m : IsMadeAll setup payload past) (known : AreOnKnown setup past) (x : Side) (link : LinkId) (at : PostRef) (key address len : ℕ) (behind : List Placed) → IsWaitingWrite x link past at key address len behind → stands link (table_of (other x) past) ≡ true
      → GoesUnderBound setup payload (other x) link past at key address len
  goes-under-bound past m known x link at key address len behind w st = by (behind-at (AreBoundAt x link past) w.before (record { at = at; post = Write x link key address len }) behind (unlanded link x past) w.unlanded_is (all-bound-at past m known x link w.kept))
    where
      by : (s : ℕ) × ((o : Offered) × (IsAimed setup payload x link past at address len behind s o × IsBoundFor x link past key o)) → GoesUnderBound setup payload (other x) link past at key address len
      by (s, (o, (a, b))) = record {
        goes = goes-by setup payload past m known x link at key address len behind w s o a;
        group = unended past m known x link at key address len behind w s o a st;
        bound_once = once past m known x link at key address len behind w s o a st (b st);
      }
