-- A confirmed RMB has a key on each link on whose slot its side has keys: the step through every entry.
use Rattle.std.proofs.Common.{Bool, List, None, Some, [], ap, arith, cond, eqb-true, false, inl, inr, not, refl, subst, sym, true, ℕ, ◌+◌, ◌==◌, ◌∙◌, ◌∷◌, ◌≡◌, ◌≤◌, ◌⊎◌}
use Rattle.std.specs.Prelude.{option_map, unwrap_or}
use Rattle.pipe_model.specs.declared.flow.FlowStep.TheVariants.{Confirmed}
use Rattle.pipe_model.specs.Keys.{confirms, deleted}
use Rattle.history_laws.specs.Words.{A, Act, B, Entry, FlowStep, Key, Keys, Known, LinkId, ReplyAdd, SendKeys, Side, Withdraw, act_in, at_slot, fabric, flow_of, has, key_base, keys_of, link_at, link_or_none, named_rmbs, named_slot, no_link, peer, registers, registers_all, rmb_at, table_of, token_rmb, withdraws}
use Rattle.history_laws.specs.Lists.{IsAmong}
use Rattle.history_laws.specs.Tables.{Rises}
use Rattle.history_laws.proofs.Basics.{none-is, some-is}
use Rattle.link_laws.specs.KeyChanges.{AreKeys, NoTwo, changes_keys, link_named, same_use}
use Rattle.link_laws.specs.Covered.{AreCovered, HasKey, NowBegun, NowMade, NowTold, OwedByAnswers, OwedByFlows, Wanted, WasWanted, wants_keys}
use Rattle.link_laws.proofs.Keys.{act-goes, confirmed-none, confirms-from, filter-are, fold-goes, keeps-key, kept-from, kept-in, keys-are, new_key, none-are, posts-go-by, registered, registers-are, wanted-from}
use Rattle.link_laws.specs.Learnt.{OwedByLinks}
use Rattle.link_laws.specs.FabricChanges.{OffersFirst, Takes}
use Rattle.link_laws.proofs.Fabric.{one-step}
use Rattle.lending_laws.proofs.Keys.Learnt.{known-at, named-is}

-- a key of an RMB for a link stays where that is registered which is for its link
pub has-stays : (base r rmb : ℕ) (l link : LinkId) (ks : List Key) → NoTwo same_use ks → (l.slot ≡ link.slot → link ≡ l) → HasKey r l ks → HasKey r l (registers base rmb ks link)
has-stays base r rmb l link ks uses same h = record {
  key = h.key;
  among = keeps-key base rmb link ks uses h.key h.among (λ s. same (ap (λ (m : LinkId). m.slot) (sym h.on) ∙ s) ∙ sym h.on);
  of = h.of;
  on = h.on;
}

-- the RMB that is registered has a key for the link
pub has-new : (base rmb : ℕ) (link : LinkId) (ks : List Key) → HasKey rmb link (registers base rmb ks link)
has-new base rmb link ks = record { key = new_key base rmb link ks; among = registered base rmb link ks; of = refl; on = refl }

-- several RMBs are registered for a link: each has a key there
pub all-have : (base : ℕ) (link : LinkId) (rmbs : List ℕ) (ks : List Key) (r : ℕ) → AreKeys base ks → IsAmong r rmbs → HasKey r link (registers_all base link rmbs ks)
all-have base link [] ks r are i = absurd i
all-have base link (s ∷ rmbs) ks r are (inl same) = (fold-goes (λ keys rmb. registers base rmb keys link) (λ keys. AreKeys base keys × HasKey r link keys) rmbs
    (λ rmb i keys had. (registers-are base rmb link keys had.0, has-stays base r rmb link link keys had.0.uses (λ s. refl) had.1)) (registers base s ks link)
    (registers-are base s link ks are, subst (λ t. HasKey t link (registers base s ks link)) (sym same) (has-new base s link ks))).1
all-have base link (s ∷ rmbs) ks r are (inr i) = all-have base link rmbs (registers base s ks link) r (registers-are base s link ks are) i

-- the link of a slot is on it, and slots begin with 1
pub at-is : (low j : ℕ) (ks : List Known) (l : LinkId) → Rises low ks → link_at j ks ≡ Some l → (low ≤ l.slot) × (l.slot ≡ j)
at-is low j [] l r e = absurd (none-is l e)
at-is low j (n ∷ ks) l r e = by (n.link.slot == j) refl e (λ f. at-is (n.link.slot + 1) j ks l r.1 f)
  where
    by : (b : Bool) → (n.link.slot == j) ≡ b → option_map (λ (m : Known). m.link) (cond b (Some n) (at_slot j ks)) ≡ Some l → (link_at j ks ≡ Some l → (n.link.slot + 1 ≤ l.slot) × (l.slot ≡ j)) → (low ≤ l.slot) × (l.slot ≡ j)
    by true q e rest = let same = some-is n.link l e in (subst (λ (m : LinkId). low ≤ m.slot) same r.0, ap (λ (m : LinkId). m.slot) (sym same) ∙ eqb-true n.link.slot j q)
    by false q e rest = let h = rest e in (omega (arith, h.0, r.0), h.1)

module _ (x : Side) (e : Entry) (past : List Entry) (links : OwedByLinks e past) (flows : OwedByFlows e past) (answers : OwedByAnswers x e past) (was : AreCovered x past)
    (j : ℕ) (l : LinkId) (at : link_at j (table_of x (e ∷ past)) ≡ Some l) (wants : wants_keys x j (peer x (fabric (e ∷ past))) ≡ true) where
  rises : Rises 1 (table_of x (e ∷ past))
  rises = (links.linked.own x).rises

  where-is : (1 ≤ l.slot) × (l.slot ≡ j)
  where-is = at-is 1 j (table_of x (e ∷ past)) l rises at

  on-slot : link_at l.slot (table_of x (e ∷ past)) ≡ Some l
  on-slot = ap (λ i. link_at i (table_of x (e ∷ past))) where-is.1 ∙ at

  -- the keys have one on it for each confirmed RMB
  abbrev P : Keys → Type 0
  P ks = AreKeys (key_base x) ks.keys × ((r : ℕ) → IsAmong r ks.confirmed → HasKey r l ks.keys)

  from : Wanted x e past j l
  from = wanted-from e past j flows x l at wants

  -- the link of the slot that a message names
  named : (act : Act) → named_slot act.message act.link.slot ≡ j → link_named x e past act ≡ l
  named act same = ap (λ i. link_or_none i (table_of x (e ∷ past))) same ∙ ap (λ o. unwrap_or o no_link) at

  -- a taking of another kind
  clash : {X : Type 0} (step next : FlowStep) → Takes x e past step → Takes x e past next → (step ≡ next → ⊥) → X
  clash step next t u apart = absurd (apart (one-step x e past step next t u))

  quiet-clash : {X : Type 0} (step : FlowStep) → Takes x e past step → ((z : Side) → act_in z e past ≡ None) → X
  quiet-clash step t n = absurd (none-is t.act (sym (n x) ∙ t.is))

  old : (r : ℕ) → IsAmong r (keys_of x past).confirmed → link_at j (table_of x past) ≡ Some l → wants_keys x j (peer x (fabric past)) ≡ true → HasKey r l (keys_of x past).keys
  old r i had w = was r i j l had w

  -- as first contact begins, B has a key for the link already, and A has confirmed nothing
  begun : (r : ℕ) (o : _) → OffersFirst A e l o → (z : Side) → z ≡ x → IsAmong r (keys_of z past).confirmed → HasKey r l (keys_of z past).keys
  begun r o it A same i = absurd (confirmed-none A past r i (flows.first_none A l o it))
  begun r o it B same i = flows.first_b l o it r i

  quiet : ((step : FlowStep) → changes_keys step ≡ true → Takes x e past step → ⊥) → P (keys_of x past)
  quiet none = (keys-are x past, λ r i. by r i from)
    where
      by : (r : ℕ) → IsAmong r (keys_of x past).confirmed → Wanted x e past j l → HasKey r l (keys_of x past).keys
      by r i (WasWanted had w) = old r i had w
      by r i (NowMade t same) = absurd (none (ReplyAdd false) refl t)
      by r i (NowTold t same) = absurd (none SendKeys refl t)
      by r i (NowBegun o it n) = begun r o it x refl i

  -- keys are registered for the link of a message
  all-for : (act : Act) (r : ℕ) → IsAmong r (keys_of x past).confirmed → HasKey r l (keys_of x past).keys ⊎ (link_named x e past act ≡ l) → HasKey r l (registers_all (key_base x) (link_named x e past act) (keys_of x past).confirmed (keys_of x past).keys)
  all-for act r i (inl h) = (fold-goes (λ keys rmb. registers (key_base x) rmb keys (link_named x e past act)) (λ keys. AreKeys (key_base x) keys × HasKey r l keys) (keys_of x past).confirmed
      (λ rmb k keys had. (registers-are (key_base x) rmb (link_named x e past act) keys had.0, has-stays (key_base x) r rmb l (link_named x e past act) keys had.0.uses (λ s. named-is _ (table_of x (e ∷ past)) l rises on-slot where-is.0 s) had.1)) (keys_of x past).keys (keys-are x past, h)).1
  all-for act r i (inr same) = subst (λ m. HasKey r m (registers_all (key_base x) (link_named x e past act) (keys_of x past).confirmed (keys_of x past).keys)) same (all-have (key_base x) (link_named x e past act) (keys_of x past).confirmed (keys_of x past).keys r (keys-are x past) i)

  all-are : (act : Act) → AreKeys (key_base x) (registers_all (key_base x) (link_named x e past act) (keys_of x past).confirmed (keys_of x past).keys)
  all-are act = fold-goes (λ keys rmb. registers (key_base x) rmb keys (link_named x e past act)) (λ keys. AreKeys (key_base x) keys) (keys_of x past).confirmed (λ rmb i keys had. registers-are (key_base x) rmb (link_named x e past act) keys had) (keys_of x past).keys (keys-are x past)

  same-act : (step next : FlowStep) (t : Takes x e past step) (u : Takes x e past next) → u.act ≡ t.act
  same-act step next t u = some-is u.act t.act (sym u.is ∙ t.is)

  made : (t : Takes x e past (ReplyAdd false)) → P (record (keys_of x past) { keys = registers_all (key_base x) (link_named x e past t.act) (keys_of x past).confirmed (keys_of x past).keys })
  made t = (all-are t.act, λ r i. all-for t.act r i (by r i from))
    where
      by : (r : ℕ) → IsAmong r (keys_of x past).confirmed → Wanted x e past j l → HasKey r l (keys_of x past).keys ⊎ (link_named x e past t.act ≡ l)
      by r i (WasWanted had w) = inl (old r i had w)
      by r i (NowMade u same) = inr (named t.act (ap (λ (a : Act). named_slot a.message a.link.slot) (sym (same-act (ReplyAdd false) (ReplyAdd false) t u)) ∙ same))
      by r i (NowTold u same) = clash (ReplyAdd false) SendKeys t u (λ q. by_steps q)
        where
          by_steps : ReplyAdd false ≡ SendKeys → ⊥
          by_steps q = cc
      by r i (NowBegun o it n) = quiet-clash (ReplyAdd false) t n

  told : (t : Takes x e past SendKeys) → P (record (keys_of x past) { keys = registers_all (key_base x) (link_named x e past t.act) (keys_of x past).confirmed (keys_of x past).keys })
  told t = (all-are t.act, λ r i. all-for t.act r i (by r i from))
    where
      by : (r : ℕ) → IsAmong r (keys_of x past).confirmed → Wanted x e past j l → HasKey r l (keys_of x past).keys ⊎ (link_named x e past t.act ≡ l)
      by r i (WasWanted had w) = inl (old r i had w)
      by r i (NowMade u same) = clash SendKeys (ReplyAdd false) t u (λ q. by_steps q)
        where
          by_steps : SendKeys ≡ ReplyAdd false → ⊥
          by_steps q = cc
      by r i (NowTold u same) = inr (named t.act (ap (λ (a : Act). named_slot a.message a.link.slot) (sym (same-act SendKeys SendKeys t u)) ∙ same))
      by r i (NowBegun o it n) = quiet-clash SendKeys t n

  -- an answer to a key request finds the link there
  found : (step : FlowStep) → Takes x e past step → (step ≡ ReplyAdd false → ⊥) → (step ≡ SendKeys → ⊥) → (link_at j (table_of x past) ≡ Some l) × (wants_keys x j (peer x (fabric past)) ≡ true)
  found step t no_make no_tell = by from
    where
      by : Wanted x e past j l → (link_at j (table_of x past) ≡ Some l) × (wants_keys x j (peer x (fabric past)) ≡ true)
      by (WasWanted had w) = (had, w)
      by (NowMade u same) = clash step (ReplyAdd false) t u no_make
      by (NowTold u same) = clash step SendKeys t u no_tell
      by (NowBegun o it n) = quiet-clash step t n

  confirmed : Takes x e past Confirmed → P (record (keys_of x past) { confirmed = confirms (flow_of x past).rmb (keys_of x past).confirmed })
  confirmed t = (
    keys-are x past,
    λ r i. elim (confirms-from (flow_of x past).rmb (keys_of x past).confirmed r i) [
      | inl h ↦ old r h there.0 there.1
      | inr same ↦ subst (λ s. HasKey s l (keys_of x past).keys) (sym same) (answers t j l there.0)
    ],
  )
    where
      there : (link_at j (table_of x past) ≡ Some l) × (wants_keys x j (peer x (fabric past)) ≡ true)
      there = found Confirmed t (λ q. no_make q) (λ q. no_tell q)
        where
          no_make : Confirmed ≡ ReplyAdd false → ⊥
          no_make q = cc

          no_tell : Confirmed ≡ SendKeys → ⊥
          no_tell q = cc

  withdrawn : (t : Takes x e past Withdraw) → P (withdraws (named_rmbs (deleted t.act.message) (keys_of x past).keys) (keys_of x past))
  withdrawn t = (
    filter-are (key_base x) (λ k. not (has k.rmb (named_rmbs (deleted t.act.message) (keys_of x past).keys))) (keys_of x past).keys (keys-are x past),
    λ r i.
        let f = kept-from (λ s. not (has s (named_rmbs (deleted t.act.message) (keys_of x past).keys))) r (keys_of x past).confirmed i in
        let h = old r f.0 there.0 there.1 in record {
          key = h.key;
          among = kept-in (λ k. not (has k.rmb (named_rmbs (deleted t.act.message) (keys_of x past).keys))) h.key (keys_of x past).keys h.among (ap (λ s. not (has s (named_rmbs (deleted t.act.message) (keys_of x past).keys))) h.of ∙ f.1);
          of = h.of;
          on = h.on;
        },
  )
    where
      there : (link_at j (table_of x past) ≡ Some l) × (wants_keys x j (peer x (fabric past)) ≡ true)
      there = found Withdraw t (λ q. no_make q) (λ q. no_tell q)
        where
          no_make : Withdraw ≡ ReplyAdd false → ⊥
          no_make q = cc

          no_tell : Withdraw ≡ SendKeys → ⊥
          no_tell q = cc

  after : P (keys_of x (e ∷ past))
  after = posts-go-by x e past P (act-goes x e past P quiet made told confirmed withdrawn)
      (λ link o it ks had.
      let same : l ≡ link = flows.first_one x link o it j l at in (
        registers-are (key_base x) (rmb_at o.address) link ks.keys had.0,
        λ r i. elim (confirms-from (rmb_at o.address) ks.confirmed r i) [
          | inl h ↦ has-stays (key_base x) r (rmb_at o.address) l link ks.keys had.0.uses (λ s. sym same) (had.1 r h)
          | inr is ↦ subst (λ s. HasKey s l (registers (key_base x) (rmb_at o.address) ks.keys link)) (sym is) (subst (λ m. HasKey (rmb_at o.address) m (registers (key_base x) (rmb_at o.address) ks.keys link)) (sym same) (has-new (key_base x) (rmb_at o.address) link ks.keys))
        ],
      ))
      (λ link tokens it known ks had. (
        registers-are (key_base x) (token_rmb tokens) link ks.keys had.0,
        λ r i. has-stays (key_base x) r (token_rmb tokens) l link ks.keys had.0.uses
            (λ s. some-is link l (sym (known-at 1 link (table_of x (e ∷ past)) rises known).1 ∙ (ap (λ i. link_at i (table_of x (e ∷ past))) (sym s) ∙ on-slot))) (had.1 r i),
      ))
      (λ none. (none-are (key_base x), λ r i. absurd i))

-- the step
pub covered-after : (x : Side) (e : Entry) (past : List Entry) → OwedByLinks e past → OwedByFlows e past → OwedByAnswers x e past → AreCovered x past → AreCovered x (e ∷ past)
covered-after x e past links flows answers was r i j l at wants = (after x e past links flows answers was j l at wants).1 r i
