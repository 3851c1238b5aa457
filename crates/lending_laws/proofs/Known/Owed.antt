-- The whole of a side's keys goes on with an entry, from what other subjects owe.
use Rattle.std.proofs.Common.{Bool, List, None, Some, [], ap, arith, false, inl, inr, refl, subst, sym, take, true, true≢false, ℕ, ◌∙◌, ◌∷◌, ◌≡◌, ◌≤◌, ◌⊎◌}
use Rattle.std.specs.Prelude.{Option, filter_map, option_map, unwrap_or}
use Rattle.pipe_model.specs.Keys.{new_key, token_key}
use Rattle.std.specs.List.{cons_option}
use Rattle.pipe_model.specs.declared.flow.FlowStep.TheVariants.{Confirmed}
use Rattle.pipe_model.specs.Fabric.{does}
use Rattle.history_laws.specs.Words.{A, Act, AddKeys, AddLink, AskLink, B, ConfirmLink, ConfirmRkey, DeleteLink, DeleteRkey, Entry, FlowStep, Key, KeyToken, Known, LinkId, LlcMessage, NewKey, ReplyKeys, Side, TestLink, act_in, at_slot, book_of, fabric, flow_of, group_of, keys_of, known_rmb, link_at, link_or_none, made_on, named_slot, no_link, other, peer, rmb_at, stands, table_of}
use Rattle.history_laws.specs.Lists.{IsAmong}
use Rattle.history_laws.proofs.Basics.{none-is, some-is}
use Rattle.link_laws.specs.Linked.{AreLinked, Under}
use Rattle.link_laws.specs.Moves.{OwedByMoves}
use Rattle.link_laws.specs.Learnt.{BeginsFirst, IsNear, NewGroup, NoGroup, OwedByLinks, Regroups, SameGroup}
use Rattle.link_laws.proofs.Fabric.{fabric-taken, is_rkey, moves, table-confirmed, taken-key}
use Rattle.link_laws.specs.FabricChanges.{Takes}
use Rattle.link_laws.specs.Covered.{AreCovered, HasKey, wants_keys}
use Rattle.link_laws.proofs.Keys.{keys-are, one-use}
use Rattle.link_laws.specs.KeyChanges.{HasUse, Learns, OfAnswer, OfKeys, OfOffer, OfRequest, told_by, told_keys}
use Rattle.link_laws.proofs.Sound.{found-slot}
use Rattle.lending_laws.specs.OwedKeys.{HasKeys, OwedKeys, TakesKeys, TellsPairs}
use Rattle.lending_laws.proofs.Keys.{answers-owed, asked-after, covered-after, near-at, told-after, told-by-request}
use Rattle.lending_laws.specs.Tokens.{use_of}

-- the link of a key that a token tells is one that its reader knows
token-link : (table : List Known) (ts : List KeyToken) (k : Key) → IsAmong k (filter_map (token_key table) ts) → (j : ℕ) × (link_at j table ≡ Some k.link)
token-link table [] k i = absurd i
token-link table (t ∷ ts) k i = by (link_at t.number table) refl i (λ h. token-link table ts k h)
  where
    by : (o : Option LinkId) → link_at t.number table ≡ o → IsAmong k (cons_option (option_map (λ link. let key : Key = record { key = t.key; rmb = rmb_at t.address; link = link } in key) o) (filter_map (token_key table) ts))
        → (IsAmong k (filter_map (token_key table) ts) → (j : ℕ) × (link_at j table ≡ Some k.link)) → (j : ℕ) × (link_at j table ≡ Some k.link)
    by None e h rest = rest h
    by (Some m) e (inl same) rest = (t.number, e ∙ ap (λ (j : Key). Some j.link) (sym same))
    by (Some m) e (inr h) rest = rest h

-- that of a key for a new link is that link
new-link : (on link : LinkId) (book : List Key) (us : List NewKey) (k : Key) → IsAmong k (filter_map (new_key on link book) us) → k.link ≡ link
new-link on link book [] k i = absurd i
new-link on link book (u ∷ us) k i = by (known_rmb u.reference on book) i (λ h. new-link on link book us k h)
  where
    by : (o : Option ℕ) → IsAmong k (cons_option (option_map (λ rmb. let key : Key = record { key = u.fresh; rmb = rmb; link = link } in key) o) (filter_map (new_key on link book) us)) → (IsAmong k (filter_map (new_key on link book) us) → k.link ≡ link) → k.link ≡ link
    by None h rest = rest h
    by (Some rmb) (inl same) rest = ap (λ (j : Key). j.link) same
    by (Some rmb) (inr h) rest = rest h

-- what links and groups owe, from what an entry does to the fabric
pub links-owed : (e : Entry) (past : List Entry) (under : Option Under) → AreLinked (fabric (e ∷ past)) under → OwedByMoves e past → ((z : Side) → BeginsFirst z e → group_of z past ≡ 0) → OwedByLinks e past
links-owed e past under linked owed none = record { under = under; linked = linked; fresh = (moves e past owed).fresh; made = (moves e past owed).made; groups = λ z. by z ((moves e past owed).groups z) }
  where
    by : (z : Side) → (group_of z (e ∷ past) ≡ group_of z past) ⊎ ((group_of z (e ∷ past) ≡ 0) ⊎ BeginsFirst z e) → Regroups z e past
    by z (inl same) = SameGroup same
    by z (inr (inl zero)) = NoGroup zero
    by z (inr (inr new)) = NewGroup new (none z new)

links-of : (x : Side) (e : Entry) (past : List Entry) → OwedKeys x e past → OwedByLinks e past
links-of x e past owed = links-owed e past owed.under owed.linked owed.moves (λ z new. owed.flows.first_none z new.link new.offer new.offers)

-- the answer to CONFIRM RKEY: what the peer has learnt of a link that stands at x is the key that the request told
answered : (x : Side) (e : Entry) (past : List Entry) → OwedKeys x e past → HasKeys x past → Takes x e past Confirmed → (k : Key) → IsAmong k (book_of (other x) past) → k.rmb ≡ (flow_of x past).rmb → IsNear x k.link (e ∷ past)
    → IsAmong k (keys_of x past).keys
answered x e past owed was t k i of near = by (stands k.link (table_of x past)) refl
  where
    at : link_at k.link.slot (table_of x past) ≡ Some k.link
    at = ap (λ ks. link_at k.link.slot ks) (sym (table-confirmed x e past t)) ∙ (near-at x e past (links-of x e past owed) k.link near).1

    its : HasKey (flow_of x past).rmb k.link (keys_of x past).keys
    its = answers-owed x e past was.asked t k.link.slot k.link at

    by : (b : Bool) → stands k.link (table_of x past) ≡ b → IsAmong k (keys_of x past).keys
    by false s = owed.replies.answered t k i of s near
    by true s =
        let h = was.told.known k i s in
        let same : its.key ≡ h.key = one-use (keys_of x past).keys (keys-are x past).uses its.key h.key its.among h.among (its.of ∙ (sym of ∙ sym h.of)) (ap (λ (l : LinkId). l.slot) its.on ∙ sym h.slot) in
        subst (λ j. IsAmong j (keys_of x past).keys) (ap (λ n. record { key = n; rmb = its.key.rmb; link = its.key.link }) (ap (λ (j : Key). j.key) same ∙ h.number)
        ∙ (ap (λ r. record { key = k.key; rmb = r; link = its.key.link }) (its.of ∙ sym of) ∙ ap (λ l. record { key = k.key; rmb = k.rmb; link = l }) its.on)) its.among

-- what is learnt is of a latest link
latest-of : (x : Side) (e : Entry) (past : List Entry) → OwedKeys x e past → (k : Key) → Learns (other x) e past k → k.link.incarnation ≤ made_on k.link.slot (fabric (e ∷ past))
latest-of x e past owed = by
  where
    later : (l : LinkId) → link_at l.slot (fabric past).latest ≡ Some l → l.incarnation ≤ made_on l.slot (fabric (e ∷ past))
    later l at =
        let was : made_on l.slot (fabric past) ≡ l.incarnation = ap (λ o. (unwrap_or o no_link).incarnation) at in
        let more = (moves e past owed.moves).made l.slot in
        omega (arith, was, more)

    -- a link that the peer knows
    known : (j : ℕ) (l : LinkId) → link_at j (table_of (other x) past) ≡ Some l → l.slot ≡ j → l.incarnation ≤ made_on l.slot (fabric (e ∷ past))
    known j l at same = later l (ap (λ i. link_at i (fabric past).latest) same ∙ owed.told.latest.known j l at)

    slot-is : (j : ℕ) (l : LinkId) → link_at j (table_of (other x) past) ≡ Some l → l.slot ≡ j
    slot-is j l q = from (at_slot j (table_of (other x) past)) (λ n f. found-slot j n (table_of (other x) past) f) q
      where
        from : (o : Option Known) → ((n : Known) → o ≡ Some n → n.link.slot ≡ j) → option_map (λ (n : Known). n.link) o ≡ Some l → l.slot ≡ j
        from None each f = absurd (none-is l f)
        from (Some n) each f = ap (λ (m : LinkId). m.slot) (sym (some-is n.link l f)) ∙ each n refl

    named : (j : ℕ) (l : LinkId) → l ≡ link_or_none j (table_of (other x) past) → l.incarnation ≤ made_on l.slot (fabric (e ∷ past))
    named j l same = test (link_at j (table_of (other x) past)) refl
      where
        test : (o : Option LinkId) → link_at j (table_of (other x) past) ≡ o → l.incarnation ≤ made_on l.slot (fabric (e ∷ past))
        test None q = let none : l.incarnation ≡ 0 = ap (λ (m : LinkId). m.incarnation) (same ∙ ap (λ o. unwrap_or o no_link) q) in omega (arith, none)
        test (Some m) q = subst (λ (n : LinkId). n.incarnation ≤ made_on n.slot (fabric (e ∷ past))) (sym (same ∙ ap (λ o. unwrap_or o no_link) q)) (known j m q (slot-is j m q))

    told : (act : Act) → act_in (other x) e past ≡ Some act → (slot : ℕ) (m : LlcMessage) (k : Key) → IsAmong k (told_keys act.link (table_of (other x) past) slot m (book_of (other x) past)) → k.link.incarnation ≤ made_on k.link.slot (fabric (e ∷ past))
    told act is slot (ConfirmRkey reply retry negative others []) k i = absurd i
    told act is slot (ConfirmRkey reply retry negative others (t ∷ ts)) k (inl same) = subst (λ (j : Key). j.link.incarnation ≤ made_on j.link.slot (fabric (e ∷ past))) (sym same) (later act.link (owed.told.lands act is))
    told act is slot (ConfirmRkey reply retry negative others (t ∷ ts)) k (inr i) = let f = token-link (table_of (other x) past) (take others ts) k i in known f.0 k.link f.1 (slot-is f.0 k.link f.1)
    told act is slot (AddKeys reply j count keys) k i = let f = new-link act.link (link_or_none slot (table_of (other x) past)) (book_of (other x) past) (take count keys) k i in named slot k.link f
    told act is slot (ConfirmLink reply mac gid qp j user most) k i = absurd i
    told act is slot (AddLink reply rejected reason mac gid qp j mtu psn) k i = absurd i
    told act is slot (DeleteLink reply every orderly j reason) k i = absurd i
    told act is slot (TestLink reply bytes) k i = absurd i
    told act is slot (DeleteRkey reply negative count mask keys) k i = absurd i

    by : (k : Key) → Learns (other x) e past k → k.link.incarnation ≤ made_on k.link.slot (fabric (e ∷ past))
    by _ (OfOffer o it) = owed.told.offered o it
    by _ (OfRequest k t i) = told t.act t.is t.act.link.slot t.act.message k i
    by _ (OfAnswer k t i) = told t.act t.is (named_slot t.act.message t.act.link.slot) t.act.message k i
    by _ (OfKeys k t i) = told t.act t.is (named_slot t.act.message t.act.link.slot) t.act.message k i

-- keys for a new link
pair-told : (on : LinkId) (table : List Known) (j count : ℕ) (us : List NewKey) (reply : Bool) (book ks : List Key) → TellsPairs on (AddKeys reply j count us) book ks → (k : Key) → IsAmong k (filter_map (new_key on (link_or_none j table) book) (take count us)) → 1 ≤ k.link.slot → HasUse k ks
pair-told on table j count us reply book ks tells k i low = from (take count us) tells i
  where
    slot-is : k.link ≡ link_or_none j table → k.link.slot ≡ j
    slot-is same = test (at_slot j table) (λ n f. found-slot j n table f) same
      where
        test : (o : Option Known) → ((n : Known) → o ≡ Some n → n.link.slot ≡ j) → k.link ≡ unwrap_or (option_map (λ (n : Known). n.link) o) no_link → k.link.slot ≡ j
        test None each q = let zero : k.link.slot ≡ 0 = ap (λ (l : LinkId). l.slot) q in absurd (omega (arith, low, zero))
        test (Some n) each q = ap (λ (l : LinkId). l.slot) q ∙ each n refl

    from : (vs : List NewKey) → ((u : NewKey) → IsAmong u vs → (rmb : ℕ) → known_rmb u.reference on book ≡ Some rmb → HasUse (use_of u.fresh rmb j) ks) → IsAmong k (filter_map (new_key on (link_or_none j table) book) vs) → HasUse k ks
    from [] each h = absurd h
    from (u ∷ vs) each h = by (known_rmb u.reference on book) refl h (λ g. from vs (λ v m. each v (inr m)) g)
      where
        by : (o : Option ℕ) → known_rmb u.reference on book ≡ o → IsAmong k (cons_option (option_map (λ rmb. let key : Key = record { key = u.fresh; rmb = rmb; link = link_or_none j table } in key) o) (filter_map (new_key on (link_or_none j table) book) vs)) → (IsAmong k (filter_map (new_key on (link_or_none j table) book) vs) → HasUse k ks) → HasUse k ks
        by None q g rest = rest g
        by (Some rmb) q (inl same) rest =
            let it = each u (inl refl) rmb q in
            record {
              key = it.key;
              among = it.among;
              number = it.number ∙ ap (λ (m : Key). m.key) (sym same);
              of = it.of ∙ ap (λ (m : Key). m.rmb) (sym same);
              slot = it.slot ∙ sym (slot-is (ap (λ (m : Key). m.link) same));
            }
        by (Some rmb) q (inr g) rest = rest g

module _ (x : Side) (e : Entry) (past : List Entry) (owed : OwedKeys x e past) where
  -- such a message is of keys for a new link
  no-request : (t : TakesKeys (other x) e past) → is_rkey t.act.message ≡ false
  no-request t = by t.does
    where
      by : (t.act.step ≡ AskLink) ⊎ (t.act.step ≡ ReplyKeys true) → is_rkey t.act.message ≡ false
      by (inl d) = taken-key (other x) e past AskLink (record { act = t.act; is = t.is; does = d })
      by (inr d) = taken-key (other x) e past (ReplyKeys true) (record { act = t.act; is = t.is; does = d })

  -- and changes no table of x
  table-same : (t : TakesKeys (other x) e past) → table_of x (e ∷ past) ≡ table_of x past
  table-same t = by t.does
    where
      then : (step : FlowStep) → t.act.step ≡ step → (peer x (does (other x) t.act.link t.act.message step (fabric past))).table ≡ table_of x past → table_of x (e ∷ past) ≡ table_of x past
      then step d same = ap (λ f. (peer x f).table) (fabric-taken (other x) e past t.act t.is ∙ ap (λ s. does (other x) t.act.link t.act.message s (fabric past)) d) ∙ same

      asks : (z : Side) → (peer z (does (other z) t.act.link t.act.message AskLink (fabric past))).table ≡ table_of z past
      asks A = refl
      asks B = refl

      replies : (z : Side) → (peer z (does (other z) t.act.link t.act.message (ReplyKeys true) (fabric past))).table ≡ table_of z past
      replies A = refl
      replies B = refl

      by : (t.act.step ≡ AskLink) ⊎ (t.act.step ≡ ReplyKeys true) → table_of x (e ∷ past) ≡ table_of x past
      by (inl d) = then AskLink d (asks x)
      by (inr d) = then (ReplyKeys true) d (replies x)

  keys-told : (t : TakesKeys (other x) e past) (k : Key) → IsAmong k (told_by (other x) t.act (named_slot t.act.message t.act.link.slot) past) → 1 ≤ k.link.slot → HasUse k (keys_of x past).keys
  keys-told t k i low = by t.act.message (no-request t) (owed.told.pairs t) i
    where
      by : (m : LlcMessage) → is_rkey m ≡ false → TellsPairs t.act.link m (book_of (other x) past) (keys_of x past).keys → IsAmong k (told_keys t.act.link (table_of (other x) past) (named_slot m t.act.link.slot) m (book_of (other x) past)) → HasUse k (keys_of x past).keys
      by (AddKeys reply j count us) is p h = pair-told t.act.link (table_of (other x) past) j count us reply (book_of (other x) past) (keys_of x past).keys p k h low
      by (ConfirmRkey reply retry negative others tokens) is p h = absurd (true≢false is)
      by (ConfirmLink reply mac gid qp j user most) is p h = absurd h
      by (AddLink reply rejected reason mac gid qp j mtu psn) is p h = absurd h
      by (DeleteLink reply every orderly j reason) is p h = absurd h
      by (TestLink reply bytes) is p h = absurd h
      by (DeleteRkey reply negative count mask keys) is p h = absurd h

  -- what is newly learnt is bound at x, by where it comes from
  told-of : (k : Key) → Learns (other x) e past k → IsNear x k.link (e ∷ past) → stands k.link (table_of x (e ∷ past)) ≡ true → HasUse k (keys_of x past).keys
  told-of _ (OfOffer o it) n s = owed.told.told o it s
  told-of _ (OfRequest k t i) n s = told-by-request x (other x) e past t (owed.told.request t) k i
  told-of _ (OfAnswer k t i) n s = keys-told (record { act = t.act; is = t.is; does = inl t.does }) k i (near-at x e past (links-of x e past owed) k.link n).0
  told-of _ (OfKeys k t i) n s = keys-told (record { act = t.act; is = t.is; does = inr t.does }) k i (near-at x e past (links-of x e past owed) k.link n).0

  -- and is the very key, its RMB having a key for that link
  keys-exact : AreCovered x past → (t : TakesKeys (other x) e past) (k : Key) → IsAmong k (told_by (other x) t.act (named_slot t.act.message t.act.link.slot) past) → IsAmong k.rmb (keys_of x past).confirmed → k.link.slot ≡ named_slot t.act.message t.act.link.slot
      → IsNear x k.link (e ∷ past) → IsAmong k (keys_of x past).keys
  keys-exact covered t k i c same n = by (owed.told.adding t)
    where
      by : (wants_keys x (named_slot t.act.message t.act.link.slot) (peer x (fabric past)) ≡ true) ⊎ ((k : Key) → IsAmong k (told_by (other x) t.act (named_slot t.act.message t.act.link.slot) past) → IsAmong k.rmb (keys_of x past).confirmed → IsNear x k.link (e ∷ past) → IsAmong k (keys_of x past).keys)
          → IsAmong k (keys_of x past).keys
      by (inr very) = very k i c n
      by (inl wants) =
          let near = near-at x e past (links-of x e past owed) k.link n in
          let h = keys-told t k i near.0 in
          let its : HasKey k.rmb k.link (keys_of x past).keys = covered k.rmb c k.link.slot k.link (ap (λ ks. link_at k.link.slot ks) (sym (table-same t)) ∙ near.1) (ap (λ j. wants_keys x j (peer x (fabric past))) same ∙ wants) in
          let one : its.key ≡ h.key = one-use (keys_of x past).keys (keys-are x past).uses its.key h.key its.among h.among (its.of ∙ sym h.of) (ap (λ (l : LinkId). l.slot) its.on ∙ sym h.slot) in
          subst (λ j. IsAmong j (keys_of x past).keys) (ap (λ n. record { key = n; rmb = its.key.rmb; link = its.key.link }) (ap (λ (j : Key). j.key) one ∙ h.number)
          ∙ (ap (λ r. record { key = k.key; rmb = r; link = its.key.link }) its.of ∙ ap (λ l. record { key = k.key; rmb = k.rmb; link = l }) its.on)) its.among

  -- the slot of a key for a new link
  slot-named : (t : TakesKeys (other x) e past) (k : Key) → IsAmong k (told_by (other x) t.act (named_slot t.act.message t.act.link.slot) past) → 1 ≤ k.link.slot → k.link.slot ≡ named_slot t.act.message t.act.link.slot
  slot-named t k i low = by t.act.message (no-request t) i
    where
      from : (j : ℕ) → k.link ≡ link_or_none j (table_of (other x) past) → k.link.slot ≡ j
      from j same = test (at_slot j (table_of (other x) past)) (λ n f. found-slot j n (table_of (other x) past) f) same
        where
          test : (o : Option Known) → ((n : Known) → o ≡ Some n → n.link.slot ≡ j) → k.link ≡ unwrap_or (option_map (λ (n : Known). n.link) o) no_link → k.link.slot ≡ j
          test None each q = let zero : k.link.slot ≡ 0 = ap (λ (l : LinkId). l.slot) q in absurd (omega (arith, low, zero))
          test (Some n) each q = ap (λ (l : LinkId). l.slot) q ∙ each n refl

      by : (m : LlcMessage) → is_rkey m ≡ false → IsAmong k (told_keys t.act.link (table_of (other x) past) (named_slot m t.act.link.slot) m (book_of (other x) past)) → k.link.slot ≡ named_slot m t.act.link.slot
      by (AddKeys reply j count us) is h = from j (new-link t.act.link (link_or_none j (table_of (other x) past)) (book_of (other x) past) (take count us) k h)
      by (ConfirmRkey reply retry negative others tokens) is h = absurd (true≢false is)
      by (ConfirmLink reply mac gid qp j user most) is h = absurd h
      by (AddLink reply rejected reason mac gid qp j mtu psn) is h = absurd h
      by (DeleteLink reply every orderly j reason) is h = absurd h
      by (TestLink reply bytes) is h = absurd h
      by (DeleteRkey reply negative count mask keys) is h = absurd h

  exact-keys : AreCovered x past → (t : TakesKeys (other x) e past) (k : Key) → IsAmong k (told_by (other x) t.act (named_slot t.act.message t.act.link.slot) past) → IsAmong k.rmb (keys_of x past).confirmed → IsNear x k.link (e ∷ past) → IsAmong k (keys_of x past).keys
  exact-keys covered t k i c n = keys-exact covered t k i c (slot-named t k i (near-at x e past (links-of x e past owed) k.link n).0) n

  exact-of : AreCovered x past → (k : Key) → Learns (other x) e past k → IsAmong k.rmb (keys_of x past).confirmed → IsNear x k.link (e ∷ past) → IsAmong k (keys_of x past).keys
  exact-of covered _ (OfOffer o it) c n = owed.told.exact o it c n
  exact-of covered _ (OfRequest k t i) c n = absurd (owed.told.unconfirmed t k i c)
  exact-of covered _ (OfAnswer k t i) c n = exact-keys covered (record { act = t.act; is = t.is; does = inl t.does }) k i c n
  exact-of covered _ (OfKeys k t i) c n = exact-keys covered (record { act = t.act; is = t.is; does = inr t.does }) k i c n

-- the step
pub keys-step : (x : Side) (e : Entry) (past : List Entry) → OwedKeys x e past → HasKeys x past → HasKeys x (e ∷ past)
keys-step x e past owed was = record {
  told = told-after x e past (links-of x e past owed) (record {
    latest = latest-of x e past owed;
    told = λ k new s. told-of x e past owed k new (inl s) s;
    exact = exact-of x e past owed was.covered;
    answered = answered x e past owed was;
    forgotten = owed.replies.forgotten;
    first = owed.told.first;
  }) was.told;
  covered = covered-after x e past (links-of x e past owed) owed.flows (answers-owed x e past was.asked) was.covered;
  asked = asked-after x e past (links-of x e past owed) owed.requests was.asked;
}

-- before all entries
pub keys-none : (x : Side) → HasKeys x []
keys-none A = record {
  told = record { made = λ k i. absurd i; known = λ k i. absurd i; exact = λ k i. absurd i };
  covered = λ r i. absurd i;
  asked = λ a. absurd (true≢false (sym a));
}
keys-none B = record {
  told = record { made = λ k i. absurd i; known = λ k i. absurd i; exact = λ k i. absurd i };
  covered = λ r i. absurd i;
  asked = λ a. absurd (true≢false (sym a));
}
