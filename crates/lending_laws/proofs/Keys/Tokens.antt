-- A CONFIRM RKEY tells bound keys: as it is posted, as long as its answer is awaited, and as its taker reads them.
use Rattle.std.proofs.Common.{Bool, List, None, Some, [], ap, inl, inr, length, map, not, refl, subst, suc, sym, take, true, true≢false, zero, ℕ, ◌++◌, ◌==◌, ◌∙◌, ◌∷◌, ◌≡◌}
use Rattle.std.specs.Prelude.{Option, filter_map, find, option_map, unwrap_or}
use Rattle.pipe_model.specs.Keys.{token_key, token_keys}
use Rattle.std.specs.List.{cons_option}
use Rattle.pipe_model.specs.Messages.{confirm_rkey, no_token, other_slots, token_for}
use Rattle.history_laws.specs.Words.{AddKeys, AddLink, ConfirmLink, ConfirmRkey, DeleteLink, DeleteRkey, Entry, Key, KeyToken, Known, Learn, LinkId, LlcMessage, Side, TestLink, Withdraw, at_slot, book_of, flow_of, group_of, is_asked, is_for, key_on, key_reply, keys_of, link_at, rmb_address, rmb_at, table_of}
use Rattle.history_laws.specs.Lists.{IsAmong}
use Rattle.history_laws.proofs.Basics.{none-is, rmb-of, some-is}
use Rattle.link_laws.specs.KeyChanges.{GroupGoes, HasUse, Withdrawn, told_by, told_keys}
use Rattle.link_laws.proofs.Fabric.{is_rkey, taken-key}
use Rattle.link_laws.proofs.Sound.{found-slot}
use Rattle.link_laws.proofs.Keys.{any-of, found-is, found-none, kept-from, of-use, use-of}
use Rattle.link_laws.specs.Covered.{HasKey}
use Rattle.link_laws.specs.FabricChanges.{Takes}
use Rattle.lending_laws.specs.Tokens.{AreTokens, TellsBound, use_of}
use Rattle.lending_laws.proofs.Keys.Bound.{stays-bound}
use Rattle.lending_laws.proofs.Keys.Asked.{not-both}

-- the answer tells what the request told
pub reply-tells : (on : ℕ) (retry : Bool) (m : LlcMessage) (ks : List Key) → TellsBound on m ks → TellsBound on (key_reply retry m) ks
reply-tells on retry (ConfirmRkey reply again negative others tokens) ks b = b
reply-tells on retry (ConfirmLink reply mac gid qp k user most) ks b = b
reply-tells on retry (AddLink reply rejected reason mac gid qp k mtu psn) ks b = b
reply-tells on retry (AddKeys reply k count keys) ks b = b
reply-tells on retry (DeleteLink reply every orderly k reason) ks b = b
reply-tells on retry (TestLink reply bytes) ks b = b
reply-tells on retry (DeleteRkey reply negative count mask keys) ks b = b

-- what is told stays bound while the answer is awaited and the group stands
module _ (x : Side) (e : Entry) (past : List Entry) (asked : is_asked (flow_of x past).key ≡ true) (group : group_of x (e ∷ past) ≡ 0 → ⊥) where
  use-stays : (k : Key) → HasUse k (keys_of x past).keys → HasUse k (keys_of x (e ∷ past)).keys
  use-stays k h = elim (stays-bound x e past k h) [
    | inl there ↦ there
    | inr (Withdrawn t named) ↦ absurd (not-both (flow_of x past).key asked (taken-key x e past Withdraw t))
    | inr (GroupGoes none) ↦ absurd (group none)
  ]

  tokens-stay : (on others : ℕ) (tokens : List KeyToken) → AreTokens on others tokens (keys_of x past).keys → AreTokens on others tokens (keys_of x (e ∷ past)).keys
  tokens-stay on others [] b = b
  tokens-stay on others (t ∷ ts) b = (use-stays (use_of t.key (rmb_at t.address) on) b.0, λ u i. use-stays (use_of u.key (rmb_at u.address) u.number) (b.1 u i))

  -- so does what a whole message tells
  pub tells-stay : (on : ℕ) (m : LlcMessage) → TellsBound on m (keys_of x past).keys → TellsBound on m (keys_of x (e ∷ past)).keys
  tells-stay on (ConfirmRkey reply again negative others tokens) b = tokens-stay on others tokens b
  tells-stay on (ConfirmLink reply mac gid qp k user most) b = b
  tells-stay on (AddLink reply rejected reason mac gid qp k mtu psn) b = b
  tells-stay on (AddKeys reply k count keys) b = b
  tells-stay on (DeleteLink reply every orderly k reason) b = b
  tells-stay on (TestLink reply bytes) b = b
  tells-stay on (DeleteRkey reply negative count mask keys) b = b

-- a key that a token tells to a side with that table
pub token-from : (table : List Known) (ts : List KeyToken) (k : Key) → IsAmong k (filter_map (token_key table) ts) → (t : KeyToken) × (IsAmong t ts × ((k.key ≡ t.key) × ((k.rmb ≡ rmb_at t.address) × (k.link.slot ≡ t.number))))
token-from table [] k i = absurd i
token-from table (t ∷ ts) k i = by (link_at t.number table) refl i (λ h. token-from table ts k h)
  where
    slot-is : (m : LinkId) → link_at t.number table ≡ Some m → m.slot ≡ t.number
    slot-is m e = from (at_slot t.number table) (λ n f. found-slot t.number n table f) e
      where
        from : (o : Option Known) → ((n : Known) → o ≡ Some n → n.link.slot ≡ t.number) → option_map (λ (n : Known). n.link) o ≡ Some m → m.slot ≡ t.number
        from None each f = absurd (none-is m f)
        from (Some n) each f = ap (λ (k : LinkId). k.slot) (sym (some-is n.link m f)) ∙ each n refl

    by : (o : Option LinkId) → link_at t.number table ≡ o → IsAmong k (cons_option (option_map (λ link. let key : Key = record { key = t.key; rmb = rmb_at t.address; link = link } in key) o) (filter_map (token_key table) ts))
        → (IsAmong k (filter_map (token_key table) ts) → (u : KeyToken) × (IsAmong u ts × ((k.key ≡ u.key) × ((k.rmb ≡ rmb_at u.address) × (k.link.slot ≡ u.number))))) → (u : KeyToken) × (IsAmong u (t ∷ ts) × ((k.key ≡ u.key) × ((k.rmb ≡ rmb_at u.address) × (k.link.slot ≡ u.number))))
    by None e h rest = let r = rest h in (r.0, (inr r.1.0, r.1.1))
    by (Some m) e (inl same) rest = (t, (inl refl, (ap (λ (j : Key). j.key) same, (ap (λ (j : Key). j.rmb) same, ap (λ (j : Key). j.link.slot) same ∙ slot-is m e))))
    by (Some m) e (inr h) rest = let r = rest h in (r.0, (inr r.1.0, r.1.1))

-- a use under another link
use-as : (k : Key) (number rmb slot : ℕ) (ks : List Key) → k.key ≡ number → k.rmb ≡ rmb → k.link.slot ≡ slot → HasUse (use_of number rmb slot) ks → HasUse k ks
use-as k number rmb slot ks e f g h = record { key = h.key; among = h.among; number = h.number ∙ sym e; of = h.of ∙ sym f; slot = h.slot ∙ sym g }

-- what the taker of such a message reads is bound
pub tells-read : (on : LinkId) (table : List Known) (others : ℕ) (tokens : List KeyToken) (ks : List Key) → AreTokens on.slot others tokens ks → (k : Key) → IsAmong k (token_keys on table others tokens) → HasUse k ks
tells-read on table others [] ks b k i = absurd i
tells-read on table others (t ∷ ts) ks b k (inl same) = use-as k t.key (rmb_at t.address) on.slot ks (ap (λ (j : Key). j.key) same) (ap (λ (j : Key). j.rmb) same) (ap (λ (j : Key). j.link.slot) same) b.0
tells-read on table others (t ∷ ts) ks b k (inr i) = let f = token-from table (take others ts) k i in use-as k f.0.key (rmb_at f.0.address) f.0.number ks f.1.1.0 f.1.1.1.0 f.1.1.1.1 (b.1 f.0 f.1.0)

-- the key of an RMB on a slot
pub on-use : (rmb slot : ℕ) (ks : List Key) (k : Key) → IsAmong k ks → k.rmb ≡ rmb → k.link.slot ≡ slot → HasUse (use_of (key_on rmb slot ks) (rmb_at (rmb_address rmb)) slot) ks
on-use rmb slot ks k i r s = by (find (is_for rmb slot) ks) refl
  where
    by : (o : Option Key) → find (is_for rmb slot) ks ≡ o → HasUse (use_of (key_on rmb slot ks) (rmb_at (rmb_address rmb)) slot) ks
    by None e = absurd (true≢false (sym (any-of (is_for rmb slot) k ks i (use-of rmb slot k r s)) ∙ found-none (is_for rmb slot) ks e))
    by (Some j) e =
        let f = found-is (is_for rmb slot) j ks e in
        let u = of-use rmb slot j f.1 in
        record { key = j; among = f.0; number = sym (ap (λ o. unwrap_or (option_map (λ (m : Key). m.key) o) 0) e); of = u.0 ∙ sym (rmb-of rmb); slot = u.1 }

-- a list cut short has only what it had
pub cut-among : {X Y : Type 0} (f : X → Y) (xs : List X) (m : ℕ) (rest : List Y) (y : Y) → IsAmong y (take (length xs) (take m (map f xs ++ rest))) → (x : X) × (IsAmong x xs × (y ≡ f x))
cut-among f [] m rest y i = absurd i
cut-among f (x ∷ xs) zero rest y i = absurd i
cut-among f (x ∷ xs) (suc m) rest y (inl e) = (x, (inl refl, e))
cut-among f (x ∷ xs) (suc m) rest y (inr i) = let r = cut-among f xs m rest y i in (r.0, (inr r.1.0, r.1.1))

map-from : (links : List LinkId) (slot : ℕ) → IsAmong slot (map (λ (l : LinkId). l.slot) links) → (l : LinkId) × (IsAmong l links × (l.slot ≡ slot))
map-from [] slot i = absurd i
map-from (l ∷ links) slot (inl e) = (l, (inl refl, sym e))
map-from (l ∷ links) slot (inr i) = let r = map-from links slot i in (r.0, (inr r.1.0, r.1.1))

-- a CONFIRM RKEY for an RMB that has a key for each of its links tells bound keys, its carrier being one of them
pub posts-tell : (links : List LinkId) (rmb : ℕ) (ks : List Key) → ((l : LinkId) → IsAmong l links → HasKey rmb l ks) → (c : LinkId) → IsAmong c links → TellsBound c.slot (confirm_rkey c.slot links rmb ks) ks
posts-tell links rmb ks have c i = (
  on c.slot c i refl,
  λ u h.
      let r = cut-among (token_for rmb ks) (other_slots c.slot links) 2 (no_token ∷ no_token ∷ no_token ∷ []) u h in
      let m = map-from links r.0 (kept-from (λ k. not (k == c.slot)) r.0 (map (λ (l : LinkId). l.slot) links) r.1.0).0 in
      subst (λ (t : KeyToken). HasUse (use_of t.key (rmb_at t.address) t.number) ks) (sym r.1.1) (on r.0 m.0 m.1.0 m.1.1),
)
  where
    on : (slot : ℕ) (l : LinkId) → IsAmong l links → l.slot ≡ slot → HasUse (use_of (key_on rmb slot ks) (rmb_at (rmb_address rmb)) slot) ks
    on slot l i s = let h = have l i in on-use rmb slot ks h.key h.among h.of (ap (λ (m : LinkId). m.slot) h.on ∙ s)

-- what a side learns from a request is bound at the side that asked
pub told-by-request : (x y : Side) (e : Entry) (past : List Entry) (t : Takes y e past Learn) → TellsBound t.act.link.slot t.act.message (keys_of x past).keys → (k : Key) → IsAmong k (told_by y t.act t.act.link.slot past) → HasUse k (keys_of x past).keys
told-by-request x y e past t bound k i = by t.act.message (taken-key y e past Learn t) bound i
  where
    by : (m : LlcMessage) → is_rkey m ≡ true → TellsBound t.act.link.slot m (keys_of x past).keys → IsAmong k (told_keys t.act.link (table_of y past) t.act.link.slot m (book_of y past)) → HasUse k (keys_of x past).keys
    by (ConfirmRkey reply retry negative others tokens) is b h = tells-read t.act.link (table_of y past) others tokens (keys_of x past).keys b k h
    by (ConfirmLink reply mac gid qp j user most) is b h = absurd h
    by (AddLink reply rejected reason mac gid qp j mtu psn) is b h = absurd h
    by (AddKeys reply j count keys) is b h = absurd (true≢false (sym is))
    by (DeleteLink reply every orderly j reason) is b h = absurd h
    by (TestLink reply bytes) is b h = absurd h
    by (DeleteRkey reply negative count mask keys) is b h = absurd h
