-- While the answer to CONFIRM RKEY is awaited, its RMB has a key for each link of the list; so the answer confirms an RMB with a key for each known link.
use Rattle.std.proofs.Common.{Bool, List, Some, [], ap, false, if◌then◌else◌, inl, inr, refl, subst, sym, true, true≢false, ℕ, ◌&&◌, ◌==◌, ◌||◌, ◌∙◌, ◌∷◌, ◌≡◌}
use Rattle.pipe_model.specs.declared.flow.KeyPhase.TheVariants.{Asked, Free, Retry as RetryWaits}
use Rattle.std.specs.List.{list_all}
use Rattle.std.specs.Prelude.{option_map}
use Rattle.pipe_model.specs.declared.flow.FlowStep.TheVariants.{Confirmed}
use Rattle.history_laws.specs.Words.{Act, Deleting, Entry, Flow, Key, KeyPhase, KeyToken, Keys, Known, LinkId, Peer, Side, Withdraw, at_slot, fabric, flow_of, group_of, has_link, is_asked, is_deleting, is_for, key_base, keys_of, link_at, peer, registers, registers_all, registers_on, same_link, stands, table_of, token_rmb, unpending}
use Rattle.history_laws.specs.Lists.{IsAmong}
use Rattle.history_laws.specs.Tables.{Rises}
use Rattle.history_laws.proofs.Basics.{link-is, none-is, some-is}
use Rattle.link_laws.specs.Linked.{Begins, Confirms, Goes, HasNone, IsSound}
use Rattle.link_laws.specs.KeyChanges.{AreKeys, AsksKey, ForAsked, ForMade, ForOffer, ForTold, Registers, link_named, told_of}
use Rattle.link_laws.specs.Covered.{HasKey, OwedByAnswers}
use Rattle.link_laws.proofs.Keys.{act-goes, filter-are, fold-goes, fold-reaches, keys-after, keys-are, not-alike, of-use, posts-reach, registers-are, stays-beside, taken}
use Rattle.link_laws.specs.Learnt.{OwedByLinks}
use Rattle.link_laws.proofs.Fabric.{taken-key}
use Rattle.lending_laws.proofs.Keys.Covered.{has-new, has-stays}
use Rattle.lending_laws.proofs.Keys.Learnt.{known-at}
use Rattle.lending_laws.specs.Asked.{AreAsked, AsksOn, OwedByRequests}

-- no key flow is asked and deleting at once
pub not-both : (key : KeyPhase) → is_asked key ≡ true → is_deleting key ≡ true → ⊥
not-both Free a d = true≢false (sym a)
not-both Asked a d = true≢false (sym d)
not-both RetryWaits a d = true≢false (sym a)
not-both Deleting a d = true≢false (sym a)

-- a side without a group asks for no key
pub no-ask : (x : Side) (p : Peer) → IsSound x p → p.group ≡ 0 → is_asked p.flow.key ≡ true → ⊥
no-ask x p (HasNone none flow stands) g a = true≢false (sym a ∙ ap (λ (f : Flow). is_asked f.key) flow)
no-ask x p (Begins some flow table) g a = some g
no-ask x p (Confirms link some flow table) g a = some g
no-ask x p (Goes k some live flows) g a = some g

-- an RMB is registered for several links of different slots: it has a key on each
pub on-have : (base rmb : ℕ) (l : LinkId) (links : List LinkId) (ks : List Key) → AreKeys base ks → ((m : LinkId) → IsAmong m links → l.slot ≡ m.slot → m ≡ l) → IsAmong l links → AreKeys base (registers_on base links rmb ks) × HasKey rmb l (registers_on base links rmb ks)
on-have base rmb l links ks are apart i = fold-reaches (registers base rmb) (λ keys. AreKeys base keys) (λ keys. AreKeys base keys × HasKey rmb l keys) l links i
    (λ m h keys had. registers-are base rmb m keys had)
    (λ m h keys had. (registers-are base rmb m keys had.0, has-stays base rmb rmb l m keys had.0.uses (λ s. apart m h s) had.1))
    (λ keys had. (registers-are base rmb l keys had, has-new base rmb l keys)) ks are

on-are : (base rmb : ℕ) (links : List LinkId) (ks : List Key) → AreKeys base ks → AreKeys base (registers_on base links rmb ks)
on-are base rmb links ks are = fold-goes (registers base rmb) (λ keys. AreKeys base keys) links (λ m h keys had. registers-are base rmb m keys had) ks are

on-stays : (base r rmb : ℕ) (l : LinkId) (links : List LinkId) (ks : List Key) → AreKeys base ks → ((m : LinkId) → IsAmong m links → l.slot ≡ m.slot → m ≡ l) → HasKey r l ks → AreKeys base (registers_on base links rmb ks) × HasKey r l (registers_on base links rmb ks)
on-stays base r rmb l links ks are apart h = fold-goes (registers base rmb) (λ keys. AreKeys base keys × HasKey r l keys) links
    (λ m i keys had. (registers-are base rmb m keys had.0, has-stays base r rmb l m keys had.0.uses (λ s. apart m i s) had.1)) ks (are, h)

-- a key of an RMB stays where another RMB is registered
other-stays : (base r rmb : ℕ) (l link : LinkId) (ks : List Key) → (r ≡ rmb → ⊥) → HasKey r l ks → HasKey r l (registers base rmb ks link)
other-stays base r rmb l link ks apart h = record {
  key = h.key;
  among = stays-beside base rmb link ks h.key h.among (not-alike (is_for rmb link.slot h.key) (λ t. apart (sym h.of ∙ (of-use rmb link.slot h.key t).0)));
  of = h.of;
  on = h.on;
}

-- two links that are not pending are one, where they have one slot
pub one-slot : (table : List Known) (l m : LinkId) → Rises 1 table → IsAmong l (unpending table) → IsAmong m (unpending table) → l.slot ≡ m.slot → m ≡ l
one-slot table l m r i h s = some-is m l (sym (known-at 1 m table r h).1 ∙ (ap (λ j. link_at j table) (sym s) ∙ (known-at 1 l table r i).1))

module _ (x : Side) (e : Entry) (past : List Entry) (links : OwedByLinks e past) (owed : OwedByRequests x e past) where
  rises : Rises 1 (table_of x (e ∷ past))
  rises = (links.linked.own x).rises

  no-group : is_asked (flow_of x (e ∷ past)).key ≡ true → group_of x (e ∷ past) ≡ 0 → ⊥
  no-group asked none = no-ask x (peer x (fabric (e ∷ past))) (links.linked.own x).sound none asked

  -- the request goes on
  goes-on : AreAsked x past → is_asked (flow_of x (e ∷ past)).key ≡ true → AsksOn x e past → (l : LinkId) → IsAmong l (told_of x (e ∷ past)) → HasKey (flow_of x (e ∷ past)).rmb l (keys_of x (e ∷ past)).keys
  goes-on was asked on l i = subst (λ r. HasKey r l (keys_of x (e ∷ past)).keys) (sym on.rmb) (keys-after x e past (λ ks. AreKeys (key_base x) ks.keys × HasKey (flow_of x past).rmb l ks.keys) (record {
    was = (keys-are x past, was on.asked l (subst (λ ls. IsAmong l ls) on.list i));
    withdrawn = λ t. absurd (not-both (flow_of x past).key on.asked (taken-key x e past Withdraw t));
    registered = λ rmb link from ks had. (registers-are (key_base x) rmb link ks.keys had.0, by rmb link from ks had.0 had.1);
    confirmed = λ rmb from ks had. had;
    ended = λ none. absurd (no-group asked none);
  })).1
    where
      by : (rmb : ℕ) (link : LinkId) → Registers x e past rmb link → (ks : Keys) → AreKeys (key_base x) ks.keys → HasKey (flow_of x past).rmb l ks.keys → HasKey (flow_of x past).rmb l (registers (key_base x) rmb ks.keys link)
      by _ _ (ForMade rmb t h) ks are had = other-stays (key_base x) (flow_of x past).rmb rmb l _ ks.keys (λ same. owed.unconfirmed on.asked (subst (λ r. IsAmong r (keys_of x past).confirmed) (sym same) h)) had
      by _ _ (ForTold rmb t h) ks are had = other-stays (key_base x) (flow_of x past).rmb rmb l _ ks.keys (λ same. owed.unconfirmed on.asked (subst (λ r. IsAmong r (keys_of x past).confirmed) (sym same) h)) had
      by _ _ (ForOffer link o it) ks are had = absurd (owed.calm link o it asked)
      by _ _ (ForAsked link tokens it known) ks are had = has-stays (key_base x) (flow_of x past).rmb (token_rmb tokens) l link ks.keys are.uses
          (λ s. one-slot (table_of x (e ∷ past)) l link rises (subst (λ ls. IsAmong l ls) (owed.posted tokens it).list i) known s) had

  -- the request is posted with the entry
  begins : is_asked (flow_of x (e ∷ past)).key ≡ true → (tokens : List KeyToken) → AsksKey x e tokens → (l : LinkId) → IsAmong l (told_of x (e ∷ past)) → HasKey (flow_of x (e ∷ past)).rmb l (keys_of x (e ∷ past)).keys
  begins asked tokens it l i = (posts-reach x e past (λ ks. AreKeys (key_base x) ks.keys × HasKey (flow_of x (e ∷ past)).rmb l ks.keys) (λ ks. AreKeys (key_base x) ks.keys) are
      (λ link o offers ks had. absurd (owed.calm link o offers asked))
      (λ named asks ks had. on-are (key_base x) (token_rmb named) (unpending (table_of x (e ∷ past))) ks.keys had)
      (λ link o offers ks had. absurd (owed.calm link o offers asked))
      (λ named asks ks had. on-stays (key_base x) (flow_of x (e ∷ past)).rmb (token_rmb named) l (unpending (table_of x (e ∷ past))) ks.keys had.0 (λ m h s. one-slot (table_of x (e ∷ past)) l m rises there h s) had.1)
      tokens it
      (λ ks had. let h = on-have (key_base x) (token_rmb tokens) l (unpending (table_of x (e ∷ past))) ks.keys had (λ m k s. one-slot (table_of x (e ∷ past)) l m rises there k s) there in
      (h.0, subst (λ r. HasKey r l (registers_on (key_base x) (unpending (table_of x (e ∷ past))) (token_rmb tokens) ks.keys)) (owed.posted tokens it).rmb h.1))
      (λ none. absurd (no-group asked none))).1
    where
      there : IsAmong l (unpending (table_of x (e ∷ past)))
      there = subst (λ ls. IsAmong l ls) (owed.posted tokens it).list i

      are : AreKeys (key_base x) (taken x e past (λ ks. AreKeys (key_base x) ks.keys)).keys
      are = act-goes x e past (λ ks. AreKeys (key_base x) ks.keys) (λ quiet. keys-are x past) (λ t. all t.act) (λ t. all t.act) (λ t. keys-are x past)
          (λ t. filter-are (key_base x) _ (keys_of x past).keys (keys-are x past))
        where
          all : (act : Act) → AreKeys (key_base x) (registers_all (key_base x) (link_named x e past act) (keys_of x past).confirmed (keys_of x past).keys)
          all act = fold-goes (λ keys rmb. registers (key_base x) rmb keys (link_named x e past act)) (λ keys. AreKeys (key_base x) keys) (keys_of x past).confirmed (λ rmb i keys had. registers-are (key_base x) rmb (link_named x e past act) keys had) (keys_of x past).keys (keys-are x past)

  -- the step, request that goes on and request that begins
  pub asked-after : AreAsked x past → AreAsked x (e ∷ past)
  asked-after was asked l i = elim (owed.asked asked) [ inl on ↦ goes-on was asked on l i | inr it ↦ begins asked it.0 it.1 l i ]

-- the links of a table are all in a list
pub all-told : (told : List LinkId) (table : List Known) (j : ℕ) (l : LinkId) → list_all (λ (known : Known). has_link known.link told) table ≡ true → link_at j table ≡ Some l → IsAmong l told
all-told told [] j l all e = absurd (none-is l e)
all-told told (n ∷ ks) j l all e = by (has_link n.link told) refl all (n.link.slot == j) e (λ a f. all-told told ks j l a f)
  where
    found : (ls : List LinkId) → has_link n.link ls ≡ true → IsAmong n.link ls
    found [] h = absurd (true≢false (sym h))
    found (m ∷ ls) h = test (same_link n.link m) refl h (λ g. found ls g)
      where
        test : (b : Bool) → same_link n.link m ≡ b → (b || has_link n.link ls) ≡ true → (has_link n.link ls ≡ true → IsAmong n.link ls) → IsAmong n.link (m ∷ ls)
        test true q g rest = inl (link-is n.link m q)
        test false q g rest = inr (rest g)

    by : (b : Bool) → has_link n.link told ≡ b → (b && list_all (λ (known : Known). has_link known.link told) ks) ≡ true → (c : Bool) → option_map (λ (m : Known). m.link) (if c then Some n else at_slot j ks) ≡ Some l
        → (list_all (λ (known : Known). has_link known.link told) ks ≡ true → link_at j ks ≡ Some l → IsAmong l told) → IsAmong l told
    by false q a c f rest = absurd (true≢false (sym a))
    by true q a true f rest = subst (λ m. IsAmong m told) (some-is n.link l f) (found told q)
    by true q a false f rest = rest a f

-- so the answer confirms an RMB with a key for each known link
pub answers-owed : (x : Side) (e : Entry) (past : List Entry) → AreAsked x past → OwedByAnswers x e past
answers-owed x e past asked t j l at = let k = taken-key x e past Confirmed t in asked k.0 l (all-told (told_of x past) (table_of x past) j l k.1 at)
