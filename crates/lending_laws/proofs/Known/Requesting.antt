-- The requests of a side to confirm keys tell bound keys of an RMB that is not confirmed: the step, and after every history.
use Rattle.std.proofs.Common.{Bool, List, [], ap, arith, cond, eqb-true, false, filter, if◌then◌else◌, inl, inr, map, not, refl, subst, sym, true, true≢false, ℕ, ◌&&◌, ◌++◌, ◌==◌, ◌∙◌, ◌∷◌, ◌≡◌, ◌⊎◌}
use Rattle.std.specs.Prelude.{None, Option, Some, fold, option_map, unwrap_or}
use Rattle.smc_num.specs.declared.LinkPhase.TheVariants.{Live as LiveLink}
use Rattle.pipe_model.specs.Fabric.{does, loses}
use Rattle.pipe_model.specs.declared.flow.KeyPhase.TheVariants.{Asked, Free, Retry as RetryWaits}
use Rattle.pipe_model.specs.Keys.{by_post}
use Rattle.pipe_model.specs.declared.post.Post.TheVariants.{Clc, Write}
use Rattle.pipe_model.specs.Messages.{confirm_rkey, no_token, other_slots, token_for}
use Rattle.pipe_model.specs.declared.event.Event.TheVariants.{Clc as ClcEvent}
use Rattle.pipe_model.specs.declared.flow.FlowStep.TheVariants.{Confirmed}
use Rattle.history_laws.specs.Words.{A, Act, AddKeys, AddLink, B, Cdc, ConfirmLink, ConfirmRkey, DeleteLink, DeleteRkey, Deleting, Entry, Fabric, Flow, FlowStep, Key, KeyPhase, KeyToken, Keys, Known, LinkId, Llc, LlcMessage, Offer, Peer, Post, Setup, Side, TestLink, Unused, act_by, act_in, at_slot, by_act, deleting_rmbs, ends_group, fabric, flow_of, goes_on, group_of, is_asked, is_dead, is_pending, key_again, key_base, keys_of, lacks, link_at, link_or_none, lowest_live, next_free, no_keys, no_link, other, peer, peer_of, phase_at, registers, registers_on, resends_key, rmb_at, stands, table_of, token_rmb, unpending, without_slot}
use Rattle.history_laws.specs.Lists.{IsAmong}
use Rattle.history_laws.proofs.Basics.{and-both, none-is, rmb-of, same-self, some-is}
use Rattle.history_laws.specs.Tables.{Rises}
use Rattle.history_laws.specs.Made.{IsMadeAll}
use Rattle.link_laws.proofs.Sound.{found-slot, lowest-is, some-live}
use Rattle.link_laws.specs.Posted.{AreSilent, KeyAsks, KeyDeletes, KeyFree, KeyLoses, KeyRetries, KeyStays, KeyTurn, VerdictAsks, is_silent}
use Rattle.link_laws.specs.KeyChanges.{AreKeys, AsksKey, ByAnswer, ByOffer, Confirms, HasUse, changes_keys, told_of}
use Rattle.link_laws.specs.FabricChanges.{OffersFirst, Takes}
use Rattle.link_laws.proofs.Keys.{act-goes, confirmed-from, fold-goes, keeps-use, keys-are, post-asks, post-goes, registers-are, taken}
use Rattle.link_laws.proofs.Lasting.{Entered, entered}
use Rattle.link_laws.proofs.Joined.{all-flows, flows-of}
use Rattle.link_laws.specs.Linked.{Begins, Confirms as ConfirmsSound, Goes, HasNone, IsOwn, IsSound, StandsAtBoth}
use Rattle.link_laws.proofs.Fabric.{fabric-taken, is_rkey}
use Rattle.link_laws.specs.StepSays.{is_ask_request}
use Rattle.link_laws.specs.KeyFlows.{HasKeyFlow, key_fits, key_kind}
use Rattle.link_laws.specs.Moves.{OwedByMoves}
use Rattle.link_laws.specs.Owed.{CanJoin}
use Rattle.link_laws.specs.Learnt.{OwedByLinks}
use Rattle.link_laws.proofs.KeyMessages.{key-turn, waited-alive, waited-or-posted, waiting-fits}
use Rattle.link_laws.specs.UnderWay.{HasFlows}
use Rattle.link_laws.proofs.UnderWay.{Grows}
use Rattle.link_laws.specs.OnWires.{IsWaiting}
use Rattle.link_laws.specs.Joined.{HasAllFlows, HasContact}
use Rattle.link_laws.proofs.Waiting.{grows-of}
use Rattle.lending_laws.proofs.Known.FirstKeys.{AskPosted, AskedAgain, AskedByVerdict, ask-posted, first-none}
use Rattle.lending_laws.proofs.Keys.{asked-after, asked-key, asked-rmb, asked-table, asked-told, cut-among, message-of, no-ask, on-have, one-slot, posts-tell, tells-stay}
use Rattle.lending_laws.specs.Tokens.{AreTokens, TellsBound, use_of}
use Rattle.lending_laws.specs.Asking.{AreAsking, TellsOf}
use Rattle.lending_laws.proofs.Known.FirstOffers.{BeginsA, BeginsB, begins-a, begins-b}
use Rattle.lending_laws.proofs.Known.Owed.{links-owed}
use Rattle.lending_laws.proofs.Known.AskFacts.{AskFacts, asks-facts, next-unconfirmed}
use Rattle.lending_laws.specs.Asked.{AsksOn, AsksSo, OwedByRequests}

-- a live link is the lowest one's slot's, and not pending
at-unpending : (j : ℕ) (l : LinkId) (ks : List Known) → link_at j ks ≡ Some l → is_pending (phase_at j ks) ≡ false → IsAmong l (unpending ks)
at-unpending j l [] e p = absurd (none-is l e)
at-unpending j l (n ∷ ks) e p = by (n.link.slot == j) e p (λ f q. at-unpending j l ks f q)
  where
    more : (b : Bool) → IsAmong l (map (λ (m : Known). m.link) (filter (λ (m : Known). not (is_pending m.phase)) ks)) → IsAmong l (map (λ (m : Known). m.link) (if b then n ∷ filter (λ (m : Known). not (is_pending m.phase)) ks else filter (λ (m : Known). not (is_pending m.phase)) ks))
    more true i = inr i
    more false i = i

    by : (b : Bool) → option_map (λ (m : Known). m.link) (cond b (Some n) (at_slot j ks)) ≡ Some l → is_pending (unwrap_or (option_map (λ (m : Known). m.phase) (cond b (Some n) (at_slot j ks))) Unused) ≡ false
        → (link_at j ks ≡ Some l → is_pending (phase_at j ks) ≡ false → IsAmong l (unpending ks)) → IsAmong l (unpending (n ∷ ks))
    by true f q rest = subst (λ b. IsAmong l (map (λ (m : Known). m.link) (if not b then n ∷ filter (λ (m : Known). not (is_pending m.phase)) ks else filter (λ (m : Known). not (is_pending m.phase)) ks))) (sym q) (inl (sym (some-is n.link l f)))
    by false f q rest = more (not (is_pending n.phase)) (rest f q)

-- the carrier of a request: the link of the lowest live slot
carrier-is : (ks : List Known) → Rises 1 ks → (lowest_live ks == 0) ≡ false → ((link_or_none (lowest_live ks) ks).slot ≡ lowest_live ks) × IsAmong (link_or_none (lowest_live ks) ks) (unpending ks)
carrier-is ks rises some = by (at_slot (lowest_live ks) ks) refl
  where
    live : phase_at (lowest_live ks) ks ≡ LiveLink
    live = (lowest-is 1 ks (omega arith) rises some).1

    by : (o : Option Known) → at_slot (lowest_live ks) ks ≡ o → ((link_or_none (lowest_live ks) ks).slot ≡ lowest_live ks) × IsAmong (link_or_none (lowest_live ks) ks) (unpending ks)
    by None q = absurd (let z : Unused ≡ LiveLink = sym (ap (λ (o : Option Known). unwrap_or (option_map (λ (m : Known). m.phase) o) Unused) q) ∙ live in cc)
    by (Some n) q =
        let here : link_or_none (lowest_live ks) ks ≡ n.link = ap (λ (o : Option Known). unwrap_or (option_map (λ (m : Known). m.link) o) no_link) q in (
          ap (λ (l : LinkId). l.slot) here ∙ found-slot (lowest_live ks) n ks q,
          subst (λ l. IsAmong l (unpending ks)) (sym here) (at-unpending (lowest_live ks) n.link ks (ap (λ (o : Option Known). option_map (λ (m : Known). m.link) o) q) (ap is_pending live)),
        )

-- the list of a side that asks again as it loses a link
loses-told : (k : ℕ) (p : Peer) → ((loses k p).group == 0) ≡ false → p.flow.key ≡ Asked → resends_key k p.flow ≡ true → (loses k p).told ≡ unpending (loses k p).table
loses-told k p some asked again = by (lowest_live (without_slot k p).table == 0) some
  where
    by : (b : Bool) → ((if b then ends_group (without_slot k p) else goes_on k (without_slot k p)).group == 0) ≡ false → (if b then ends_group (without_slot k p) else goes_on k (without_slot k p)).told ≡ unpending (if b then ends_group (without_slot k p) else goes_on k (without_slot k p)).table
    by true s = absurd (true≢false s)
    by false s = ap (λ b. if b then unpending (without_slot k p).table else p.told) (ap (λ q. is_asked q && resends_key k p.flow) asked ∙ again)

loses-key : (k : ℕ) (p : Peer) → ((loses k p).group == 0) ≡ false → ((loses k p).flow.key ≡ p.flow.key) × ((loses k p).flow.rmb ≡ p.flow.rmb)
loses-key k p some = by (lowest_live (without_slot k p).table == 0) some
  where
    by : (b : Bool) → ((if b then ends_group (without_slot k p) else goes_on k (without_slot k p)).group == 0) ≡ false → ((if b then ends_group (without_slot k p) else goes_on k (without_slot k p)).flow.key ≡ p.flow.key) × ((if b then ends_group (without_slot k p) else goes_on k (without_slot k p)).flow.rmb ≡ p.flow.rmb)
    by true s = absurd (true≢false s)
    by false s = (refl, refl)

-- silent posts change no keys
silent-keeps : (x : Side) (table : List Known) (ks : Keys) (ps : List Post) → AreSilent ps → fold (by_post x table) ks ps ≡ ks
silent-keeps x table ks [] s = refl
silent-keeps x table ks (p ∷ ps) s = ap (λ ks. fold (by_post x table) ks ps) (one x p s.0) ∙ silent-keeps x table ks ps s.1
  where
    one : (x : Side) (p : Post) → is_silent p ≡ true → by_post x table ks p ≡ ks
    one A (Llc from link (ConfirmLink reply mac gid qp k user most)) h = refl
    one A (Llc from link (AddLink reply rejected reason mac gid qp k mtu psn)) h = refl
    one A (Llc from link (DeleteLink reply every orderly k reason)) h = refl
    one A (Llc from link (TestLink reply bytes)) h = refl
    one B (Llc from link (ConfirmLink reply mac gid qp k user most)) h = refl
    one B (Llc from link (AddLink reply rejected reason mac gid qp k mtu psn)) h = refl
    one B (Llc from link (DeleteLink reply every orderly k reason)) h = refl
    one B (Llc from link (TestLink reply bytes)) h = refl
    one x (Llc from link (AddKeys reply k count keys)) h = absurd (true≢false (sym h))
    one x (Llc from link (ConfirmRkey reply retry negative others tokens)) h = absurd (true≢false (sym h))
    one x (Llc from link (DeleteRkey reply negative count mask keys)) h = absurd (true≢false (sym h))
    one x (Write from link key address len) h = absurd (true≢false (sym h))
    one x (Cdc from link m) h = absurd (true≢false (sym h))
    one x (Clc from s link m) h = absurd (true≢false (sym h))

fold-append : {X Y : Type 0} (f : Y → X → Y) (y : Y) (xs zs : List X) → fold f y (xs ++ zs) ≡ fold f (fold f y xs) zs
fold-append f y [] zs = refl
fold-append f y (x ∷ xs) zs = fold-append f (f y x) xs zs

pub link-of : (y z : Side) (l k : LinkId) (m n : LlcMessage) → Llc y l m ≡ Llc z k n → l ≡ k
link-of y z l k m n e = cc

-- what is known of a request that is posted
pub record Asks (x : Side) (e : Entry) (past : List Entry) (l : LinkId) (m : LlcMessage) : Type 0 where
  pub rmb : ℕ
  pub message_is : m ≡ confirm_rkey (lowest_live (table_of x (e ∷ past))) (unpending (table_of x (e ∷ past))) rmb (registers_on (key_base x) (unpending (table_of x (e ∷ past))) rmb (keys_of x past).keys)
  pub link_is : l ≡ link_or_none (lowest_live (table_of x (e ∷ past))) (table_of x (e ∷ past))
  pub rmb_is : rmb ≡ (flow_of x (e ∷ past)).rmb
  pub told_is : told_of x (e ∷ past) ≡ unpending (table_of x (e ∷ past))
  pub key_is : (flow_of x (e ∷ past)).key ≡ Asked
  pub before : List Post
  pub after : List Post
  pub split : e.posts ≡ before ++ Llc x l m ∷ after
  pub silent : AreSilent before
  pub still : (step : FlowStep) → changes_keys step ≡ true → Takes x e past step → ⊥

no-act : (x : Side) (e : Entry) (past : List Entry) (s : ℕ) → e.event ≡ ClcEvent s (other x) → act_in x e past ≡ None
no-act A e past s ev = ap (λ v. act_by A v e.reply past) ev
no-act B e past s ev = ap (λ v. act_by B v e.reply past) ev

pub asks-is : (setup : Setup) (payload : List ℕ) (e : Entry) (past : List Entry) (x : Side) (l : LinkId) (m : LlcMessage) → AskPosted setup payload e past x (Llc x l m) → Asks x e past l m
asks-is setup payload e past x l m (AskedByVerdict va h) = record {
  rmb = (next_free setup payload x past).rmb;
  message_is = message-of x x l _ m _ h ∙ ap (λ t. confirm_rkey (lowest_live t) (unpending t) (next_free setup payload x past).rmb (registers_on (key_base x) (unpending t) (next_free setup payload x past).rmb (keys_of x past).keys)) (sym (asked-table setup payload x e past va));
  link_is = link-of x x l _ m _ h ∙ ap (λ t. link_or_none (lowest_live t) t) (sym (asked-table setup payload x e past va));
  rmb_is = sym (asked-rmb setup payload x e past va);
  told_is = asked-told setup payload x e past va ∙ ap unpending (sym (asked-table setup payload x e past va));
  key_is = asked-key setup payload x e past va;
  before = [];
  after = va.more;
  split = va.posts_are ∙ ap (λ p. p ∷ va.more) (sym h);
  silent = tt;
  still = λ step c t. none-is t.act (sym (no-act x e past va.s va.event_is) ∙ t.is);
}
asks-is setup payload e past x l m (AskedAgain k loss some still a r h before after split silent) = record {
  rmb = (loses k (peer_of x past)).flow.rmb;
  message_is = message-of x x l _ m _ h ∙ ap (λ t. confirm_rkey (lowest_live t) (unpending t) (loses k (peer_of x past)).flow.rmb (registers_on (key_base x) (unpending t) (loses k (peer_of x past)).flow.rmb (keys_of x past).keys)) (sym loss.table);
  link_is = link-of x x l _ m _ h ∙ ap (λ t. link_or_none (lowest_live t) t) (sym loss.table);
  rmb_is = sym loss.rmb;
  told_is = loss.told ∙ (loses-told k (peer_of x past) some a r ∙ ap unpending (sym loss.table));
  key_is = loss.key ∙ ((loses-key k (peer_of x past) some).0 ∙ a);
  before = before;
  after = after;
  split = split;
  silent = silent;
  still = still;
}

-- a use outlives a registering
use-registers : (base rmb : ℕ) (link : LinkId) (ks : List Key) (k : Key) → AreKeys base ks → HasUse k ks → AreKeys base (registers base rmb ks link) × HasUse k (registers base rmb ks link)
use-registers base rmb link ks k are u =
    let h = keeps-use base rmb link ks are.uses u.key u.among in
    (registers-are base rmb link ks are, record { key = record { key = u.key.key; rmb = u.key.rmb; link = h.0 }; among = h.1.1; number = u.number; of = u.of; slot = h.1.0 ∙ u.slot })

-- what a request tells is told of other keys that have all these uses
tokens-map : (on others : ℕ) (tokens : List KeyToken) (ks js : List Key) → ((k : Key) → HasUse k ks → HasUse k js) → AreTokens on others tokens ks → AreTokens on others tokens js
tokens-map on others [] ks js f b = b
tokens-map on others (t ∷ ts) ks js f b = (f (use_of t.key (rmb_at t.address) on) b.0, λ u i. f (use_of u.key (rmb_at u.address) u.number) (b.1 u i))

tells-map : (on : ℕ) (m : LlcMessage) (ks js : List Key) → ((k : Key) → HasUse k ks → HasUse k js) → TellsBound on m ks → TellsBound on m js
tells-map on (ConfirmRkey reply again negative others tokens) ks js f b = tokens-map on others tokens ks js f b
tells-map on (ConfirmLink reply mac gid qp k user most) ks js f b = b
tells-map on (AddLink reply rejected reason mac gid qp k mtu psn) ks js f b = b
tells-map on (AddKeys reply k count keys) ks js f b = b
tells-map on (DeleteLink reply every orderly k reason) ks js f b = b
tells-map on (TestLink reply bytes) ks js f b = b
tells-map on (DeleteRkey reply negative count mask keys) ks js f b = b

-- the tokens of a request are of its RMB
tells-of : (on : ℕ) (links : List LinkId) (rmb : ℕ) (ks : List Key) → TellsOf rmb (confirm_rkey on links rmb ks)
tells-of on links rmb ks = (
  rmb-of rmb,
  λ u h. let r = cut-among (token_for rmb ks) (other_slots on links) 2 (no_token ∷ no_token ∷ no_token ∷ []) u h in ap (λ (t : KeyToken). rmb_at t.address) r.1.1 ∙ rmb-of rmb,
)

module _ (setup : Setup) (payload : List ℕ) (e : Entry) (past : List Entry) (m : IsMadeAll setup payload (e ∷ past)) (x : Side) where
  it : Entered e past
  it = entered setup payload e past m (flows-of setup payload (e ∷ past) m)

  rises-after : Rises 1 (table_of x (e ∷ past))
  rises-after = let own : IsOwn x (peer x (fabric (e ∷ past))) = it.linked_after.own x in own.rises

  sound-after : IsSound x (peer x (fabric (e ∷ past)))
  sound-after = let own : IsOwn x (peer x (fabric (e ∷ past))) = it.linked_after.own x in own.sound

  -- a side that asks has a group
  asked-group : is_asked (flow_of x (e ∷ past)).key ≡ true → group_of x (e ∷ past) ≡ 0 → ⊥
  asked-group asked none = no-ask x (peer x (fabric (e ∷ past))) sound-after none asked

  -- and a live link
  asked-live : is_asked (flow_of x (e ∷ past)).key ≡ true → (lowest_live (table_of x (e ∷ past)) == 0) ≡ false
  asked-live asked = by sound-after
    where
      by : IsSound x (peer x (fabric (e ∷ past))) → (lowest_live (table_of x (e ∷ past)) == 0) ≡ false
      by (HasNone g f n) = absurd (true≢false (sym asked ∙ ap (λ (f : Flow). is_asked f.key) f))
      by (Begins g f t) = absurd (true≢false (sym asked ∙ ap (λ (f : Flow). is_asked f.key) f))
      by (ConfirmsSound link g f t) = absurd (true≢false (sym asked ∙ ap (λ (f : Flow). is_asked f.key) f))
      by (Goes k g l f) = some-live k (table_of x (e ∷ past)) rises-after l

  -- the keys after a request is posted
  module _ (l : LinkId) (n : LlcMessage) (a : Asks x e past l n) where
    abbrev links : List LinkId
    links = unpending (table_of x (e ∷ past))

    abbrev keys_then : List Key
    keys_then = registers_on (key_base x) links a.rmb (keys_of x past).keys

    asked-now : is_asked (flow_of x (e ∷ past)).key ≡ true
    asked-now = ap is_asked a.key_is

    taken-is : taken x e past (λ ks. ks ≡ keys_of x past) ≡ keys_of x past
    taken-is = act-goes x e past (λ ks. ks ≡ keys_of x past) (λ quiet. refl) (λ t. absurd (a.still _ refl t)) (λ t. absurd (a.still _ refl t)) (λ t. absurd (a.still _ refl t)) (λ t. absurd (a.still _ refl t))

    use-in : (k : Key) → HasUse k keys_then → HasUse k (keys_of x (e ∷ past)).keys
    use-in k u = subst (λ b. HasUse k (Keys.keys (if b then no_keys else fold (by_post x (table_of x (e ∷ past))) (by_act x (flow_of x past) (table_of x (e ∷ past)) (act_in x e past) (keys_of x past)) e.posts))) (sym grouped) after-posts
      where
        grouped : (group_of x (e ∷ past) == 0) ≡ false
        grouped = by (group_of x (e ∷ past) == 0) refl
          where
            by : (b : Bool) → (group_of x (e ∷ past) == 0) ≡ b → b ≡ false
            by false q = refl
            by true q = absurd (asked-group asked-now (eqb-true (group_of x (e ∷ past)) 0 q))

        after-posts : HasUse k (Keys.keys (fold (by_post x (table_of x (e ∷ past))) (by_act x (flow_of x past) (table_of x (e ∷ past)) (act_in x e past) (keys_of x past)) e.posts))
        after-posts = subst (λ ks. HasUse k (Keys.keys ks)) (sym parts) rest.1
          where
            mid : Keys
            mid = by_post x (table_of x (e ∷ past)) (keys_of x past) (Llc x l n)

            parts : fold (by_post x (table_of x (e ∷ past))) (by_act x (flow_of x past) (table_of x (e ∷ past)) (act_in x e past) (keys_of x past)) e.posts ≡ fold (by_post x (table_of x (e ∷ past))) mid a.after
            parts = ap (λ ks. fold (by_post x (table_of x (e ∷ past))) ks e.posts) taken-is
                ∙ (ap (λ ps. fold (by_post x (table_of x (e ∷ past))) (keys_of x past) ps) a.split
                ∙ (fold-append (by_post x (table_of x (e ∷ past))) (keys_of x past) a.before (Llc x l n ∷ a.after)
                ∙ ap (λ ks. fold (by_post x (table_of x (e ∷ past))) ks (Llc x l n ∷ a.after)) (silent-keeps x (table_of x (e ∷ past)) (keys_of x past) a.before a.silent)))

            now : AreKeys (key_base x) mid.keys × HasUse k mid.keys
            now = subst (λ p. AreKeys (key_base x) (Keys.keys (by_post x (table_of x (e ∷ past)) (keys_of x past) p)) × HasUse k (Keys.keys (by_post x (table_of x (e ∷ past)) (keys_of x past) p))) (ap (λ w. Llc x l w) (sym a.message_is))
                (post-asks x (table_of x (e ∷ past)) (keys_of x past) l false false _ _ (λ ks. AreKeys (key_base x) ks.keys × HasUse k ks.keys)
                (subst (λ r. AreKeys (key_base x) (registers_on (key_base x) links r (keys_of x past).keys) × HasUse k (registers_on (key_base x) links r (keys_of x past).keys)) (sym (rmb-of a.rmb))
                (fold-goes (registers (key_base x) a.rmb) (λ ks. AreKeys (key_base x) ks) links (λ c i ks are. registers-are (key_base x) a.rmb c ks are) (keys_of x past).keys (keys-are x past), u)))

            rest : AreKeys (key_base x) (Keys.keys (fold (by_post x (table_of x (e ∷ past))) mid a.after)) × HasUse k (Keys.keys (fold (by_post x (table_of x (e ∷ past))) mid a.after))
            rest = fold-goes (by_post x (table_of x (e ∷ past))) (λ ks. AreKeys (key_base x) (Keys.keys ks) × HasUse k (Keys.keys ks)) a.after
                (λ post i ks q. post-goes x (table_of x (e ∷ past)) ks post (λ ks. AreKeys (key_base x) (Keys.keys ks) × HasUse k (Keys.keys ks)) q
                (λ s link o is first. use-registers (key_base x) (rmb_at o.address) link (Keys.keys ks) k q.0 q.1)
                (λ on retry negative others tokens is. fold-goes (registers (key_base x) (token_rmb tokens)) (λ js. AreKeys (key_base x) js × HasUse k js) links (λ c j js had. use-registers (key_base x) (token_rmb tokens) c js k had.0 had.1) (Keys.keys ks) q)) mid now

    -- so what it tells is bound
    asks-bound : TellsBound l.slot n (keys_of x (e ∷ past)).keys
    asks-bound = subst (λ w. TellsBound l.slot w (keys_of x (e ∷ past)).keys) (sym a.message_is) (tells-map l.slot (confirm_rkey (lowest_live (table_of x (e ∷ past))) links a.rmb keys_then) keys_then (keys_of x (e ∷ past)).keys use-in
        (subst (λ s. TellsBound l.slot (confirm_rkey s links a.rmb keys_then) keys_then) carrier.0
        (subst (λ c. TellsBound c.slot (confirm_rkey (LinkId.slot (link_or_none (lowest_live (table_of x (e ∷ past))) (table_of x (e ∷ past)))) links a.rmb keys_then) keys_then) (sym a.link_is)
        (posts-tell links a.rmb keys_then (λ c i. (on-have (key_base x) a.rmb c links (keys_of x past).keys (keys-are x past) (λ d h s. one-slot (table_of x (e ∷ past)) c d rises-after i h s) i).1) (link_or_none (lowest_live (table_of x (e ∷ past))) (table_of x (e ∷ past))) carrier.1))))
      where
        carrier : ((link_or_none (lowest_live (table_of x (e ∷ past))) (table_of x (e ∷ past))).slot ≡ lowest_live (table_of x (e ∷ past))) × IsAmong (link_or_none (lowest_live (table_of x (e ∷ past))) (table_of x (e ∷ past))) links
        carrier = carrier-is (table_of x (e ∷ past)) rises-after (asked-live asked-now)

    asks-of : TellsOf (flow_of x (e ∷ past)).rmb n
    asks-of = subst (λ w. TellsOf (flow_of x (e ∷ past)).rmb w) (sym a.message_is) (subst (λ r. TellsOf r (confirm_rkey (lowest_live (table_of x (e ∷ past))) links a.rmb keys_then)) a.rmb_is (tells-of (lowest_live (table_of x (e ∷ past))) links a.rmb keys_then))

-- the answer that confirms frees the key flow
pub confirmed-free : (x : Side) (e : Entry) (past : List Entry) → Takes x e past Confirmed → (flow_of x (e ∷ past)).key ≡ Free
confirmed-free x e past t = ap (λ f. (peer x f).flow.key) (fabric-taken x e past t.act t.is ∙ ap (λ v. does x t.act.link t.act.message v (fabric past)) t.does) ∙ by x
  where
    by : (z : Side) → (peer z (does z t.act.link t.act.message Confirmed (fabric past))).flow.key ≡ Free
    by A = refl
    by B = refl

-- a side that asks after the loss of a link asked before, about the same RMB
loses-same : (k : ℕ) (p : Peer) → is_asked (loses k p).flow.key ≡ true → ((loses k p).flow.key ≡ p.flow.key) × (((loses k p).flow.rmb ≡ p.flow.rmb) × ((loses k p).group ≡ p.group))
loses-same k p h = by (lowest_live (without_slot k p).table == 0) h
  where
    by : (b : Bool) → is_asked (if b then ends_group (without_slot k p) else goes_on k (without_slot k p)).flow.key ≡ true → ((if b then ends_group (without_slot k p) else goes_on k (without_slot k p)).flow.key ≡ p.flow.key)
        × (((if b then ends_group (without_slot k p) else goes_on k (without_slot k p)).flow.rmb ≡ p.flow.rmb) × ((if b then ends_group (without_slot k p) else goes_on k (without_slot k p)).group ≡ p.group))
    by true h = absurd (true≢false (sym h))
    by false h = (refl, (refl, refl))

-- where it doesn't ask again, its list stays
loses-list : (k : ℕ) (p : Peer) → is_asked (loses k p).flow.key ≡ true → resends_key k p.flow ≡ false → (loses k p).told ≡ p.told
loses-list k p h n = by (lowest_live (without_slot k p).table == 0) h
  where
    and-no : (a b : Bool) → b ≡ false → (a && b) ≡ false
    and-no true b e = e
    and-no false b e = refl

    by : (b : Bool) → is_asked (if b then ends_group (without_slot k p) else goes_on k (without_slot k p)).flow.key ≡ true → (if b then ends_group (without_slot k p) else goes_on k (without_slot k p)).told ≡ p.told
    by true h = absurd (true≢false (sym h))
    by false h = ap (λ b. if b then unpending (without_slot k p).table else p.told) (and-no (is_asked p.flow.key) (resends_key k p.flow) n)

asked-is : (key : KeyPhase) → is_asked key ≡ true → key ≡ Asked
asked-is Asked e = refl
asked-is Free e = absurd (true≢false (sym e))
asked-is RetryWaits e = absurd (true≢false (sym e))
asked-is Deleting e = absurd (true≢false (sym e))

-- a request is of the key flow of the side that asked
pub ask-kind : (x : Side) (l : LinkId) (m : LlcMessage) → is_ask_request m ≡ true → key_kind x (record { from = x; link = l; message = m }) ≡ true
ask-kind x l (ConfirmRkey false retry negative others tokens) e = same-self x
ask-kind x l (ConfirmRkey true retry negative others tokens) e = absurd (true≢false (sym e))
ask-kind x l (DeleteRkey reply negative count mask keys) e = absurd (true≢false (sym e))
ask-kind x l (ConfirmLink reply mac gid qp k user most) e = absurd (true≢false (sym e))
ask-kind x l (AddLink reply rejected reason mac gid qp k mtu psn) e = absurd (true≢false (sym e))
ask-kind x l (AddKeys reply k count keys) e = absurd (true≢false (sym e))
ask-kind x l (DeleteLink reply every orderly k reason) e = absurd (true≢false (sym e))
ask-kind x l (TestLink reply bytes) e = absurd (true≢false (sym e))

-- a message of the confirming of keys fits a flow that asks
pub fits-asked : (slot : ℕ) (m : LlcMessage) (f : Flow) → is_rkey m ≡ true → key_fits slot m f ≡ true → is_asked f.key ≡ true
fits-asked slot (ConfirmRkey reply retry negative others tokens) f d e = let h = and-both (is_asked f.key) (f.on == slot) e in h.0
fits-asked slot (DeleteRkey reply negative count mask keys) f d e = absurd (true≢false (sym d))
fits-asked slot (ConfirmLink reply mac gid qp k user most) f d e = absurd (true≢false (sym d))
fits-asked slot (AddLink reply rejected reason mac gid qp k mtu psn) f d e = absurd (true≢false (sym d))
fits-asked slot (AddKeys reply k count keys) f d e = absurd (true≢false (sym d))
fits-asked slot (DeleteLink reply every orderly k reason) f d e = absurd (true≢false (sym d))
fits-asked slot (TestLink reply bytes) f d e = absurd (true≢false (sym d))

-- a request to confirm keys is of their confirming
pub ask-rkey : (m : LlcMessage) → is_ask_request m ≡ true → is_rkey m ≡ true
ask-rkey (ConfirmRkey reply retry negative others tokens) e = refl
ask-rkey (DeleteRkey reply negative count mask keys) e = absurd (true≢false (sym e))
ask-rkey (ConfirmLink reply mac gid qp k user most) e = absurd (true≢false (sym e))
ask-rkey (AddLink reply rejected reason mac gid qp k mtu psn) e = absurd (true≢false (sym e))
ask-rkey (AddKeys reply k count keys) e = absurd (true≢false (sym e))
ask-rkey (DeleteLink reply every orderly k reason) e = absurd (true≢false (sym e))
ask-rkey (TestLink reply bytes) e = absurd (true≢false (sym e))

-- the tokens of a message
abbrev tokens_of : LlcMessage → List KeyToken
tokens_of (ConfirmRkey reply retry negative others tokens) = tokens
tokens_of m = []

module _ (setup : Setup) (payload : List ℕ) (e : Entry) (past : List Entry) (m : IsMadeAll setup payload (e ∷ past)) where
  it-is : Entered e past
  it-is = entered setup payload e past m (flows-of setup payload (e ∷ past) m)

  -- a side that offers in first contact has a free key flow
  pub begun-free : (x : Side) (link : LinkId) (o : Offer) → OffersFirst x e link o → (flow_of x (e ∷ past)).key ≡ Free
  begun-free A link o it = let b : BeginsA setup payload e past link o = begins-a setup payload e past m link o it in ap (λ (f : Fabric). f.a.flow.key) b.changed
  begun-free B link o it = let b : BeginsB setup payload e past link o = begins-b setup payload e past m link o it in ap (λ (f : Fabric). f.b.flow.key) b.changed

  -- what moves owe
  pub moves-made : OwedByMoves e past
  moves-made = record {
    rises = λ z. let own : IsOwn z (peer z (fabric past)) = it-is.linked.own z in own.rises;
    lives = λ z reply first t. lives z t.act (it-is.lands z t.act t.is);
    next = λ link o it. let j : CanJoin link past = it-is.joins link o it in j.next;
  }
    where
      lives : (z : Side) (act : Act) → StandsAtBoth act.link (fabric past) → stands act.link (table_of z past) ≡ true
      lives A act b = b.at_a
      lives B act b = b.at_b

  -- what links owe
  pub links-made : OwedByLinks e past
  links-made = links-owed e past it-is.under_after it-is.linked_after moves-made (λ z new. first-none setup payload e past m z new.link new.offer new.offers)

  module _ (x : Side) (was : AreAsking x past) where
    sound-past : IsSound x (peer x (fabric past))
    sound-past = let own : IsOwn x (peer x (fabric past)) = it-is.linked.own x in own.sound

    abbrev P : List Entry → Type 0
    P past = is_asked (flow_of x past).key ≡ true

    turn : KeyTurn setup payload x e past
    turn = key-turn setup payload past m.0.0 e m.0.1 x

    -- asked before, about the same RMB; or a verdict has just asked
    asked-before : P (e ∷ past) → (P past × ((flow_of x (e ∷ past)).rmb ≡ (flow_of x past).rmb)) ⊎ VerdictAsks setup payload x e past
    asked-before p = by turn
      where
        by : KeyTurn setup payload x e past → (P past × ((flow_of x (e ∷ past)).rmb ≡ (flow_of x past).rmb)) ⊎ VerdictAsks setup payload x e past
        by (KeyStays a b c) = inl (ap is_asked (sym a) ∙ p, b)
        by (KeyFree a) = absurd (true≢false (sym p ∙ ap is_asked a))
        by (KeyRetries a) = absurd (true≢false (sym p ∙ ap is_asked a))
        by (KeyAsks va) = inr va
        by (KeyDeletes ev r more posts a) = absurd (true≢false (sym p ∙ ap is_asked a))
        by (KeyLoses k loss again) = let s = loses-same k (peer_of x past) (ap is_asked (sym loss.key) ∙ p) in inl (ap is_asked (sym (loss.key ∙ s.0)) ∙ p, loss.rmb ∙ s.1.0)

    not-twice : P past → VerdictAsks setup payload x e past → ⊥
    not-twice p va = let f : AskFacts (lacks setup payload x past) = asks-facts setup payload x e past va in true≢false (sym p ∙ f.calm)

    -- no RMB is asked about that is confirmed
    unconfirmed-after : P (e ∷ past) → IsAmong (flow_of x (e ∷ past)).rmb (keys_of x (e ∷ past)).confirmed → ⊥
    unconfirmed-after p i = elim (confirmed-from x e past (flow_of x (e ∷ past)).rmb i) [
      | inl h ↦ old h (asked-before p)
      | inr c ↦ new (flow_of x (e ∷ past)).rmb c
    ]
      where
        old : IsAmong (flow_of x (e ∷ past)).rmb (keys_of x past).confirmed → (P past × ((flow_of x (e ∷ past)).rmb ≡ (flow_of x past).rmb)) ⊎ VerdictAsks setup payload x e past → ⊥
        old h (inl q) = was.unconfirmed q.0 (subst (λ r. IsAmong r (keys_of x past).confirmed) q.1 h)
        old h (inr va) = let f : AskFacts (lacks setup payload x past) = asks-facts setup payload x e past va in next-unconfirmed setup payload x past f.some f.unready (subst (λ r. IsAmong r (keys_of x past).confirmed) (asked-rmb setup payload x e past va) h)

        new : (r : ℕ) → Confirms x e past r → ⊥
        new _ (ByAnswer t) = true≢false (sym p ∙ ap is_asked (confirmed-free x e past t))
        new _ (ByOffer link o it) = true≢false (sym p ∙ ap is_asked (begun-free x link o it))

    -- what requests owe
    pub requests-made : OwedByRequests x e past
    requests-made = record { asked = asked; posted = posted; unconfirmed = was.unconfirmed; calm = λ link o it p. true≢false (sym p ∙ ap is_asked (begun-free x link o it)) }
      where
        head-in : (p : Post) (ps more : List Post) → ps ≡ p ∷ more → IsAmong p ps
        head-in p ps more is = subst (λ qs. IsAmong p qs) (sym is) (inl refl)

        asked : P (e ∷ past) → AsksOn x e past ⊎ ((tokens : List KeyToken) × AsksKey x e tokens)
        asked p = by turn
          where
            by : KeyTurn setup payload x e past → AsksOn x e past ⊎ ((tokens : List KeyToken) × AsksKey x e tokens)
            by (KeyStays a b c) = inl (record { asked = ap is_asked (sym a) ∙ p; rmb = b; list = c })
            by (KeyFree a) = absurd (true≢false (sym p ∙ ap is_asked a))
            by (KeyRetries a) = absurd (true≢false (sym p ∙ ap is_asked a))
            by (KeyAsks va) = inr (_, record { on = _; retry = _; negative = _; others = _; posted = head-in _ e.posts va.more va.posts_are })
            by (KeyDeletes ev r more posts a) = absurd (true≢false (sym p ∙ ap is_asked a))
            by (KeyLoses k loss again) = resent (resends_key k (flow_of x past)) refl
              where
                s : ((loses k (peer_of x past)).flow.key ≡ (peer_of x past).flow.key) × (((loses k (peer_of x past)).flow.rmb ≡ (peer_of x past).flow.rmb) × ((loses k (peer_of x past)).group ≡ (peer_of x past).group))
                s = loses-same k (peer_of x past) (ap is_asked (sym loss.key) ∙ p)

                before : P past
                before = ap is_asked (sym (loss.key ∙ s.0)) ∙ p

                some : ((loses k (peer_of x past)).group == 0) ≡ false
                some = ap (λ g. g == 0) s.1.1 ∙ not-none (group_of x past == 0) refl
                  where
                    not-none : (b : Bool) → (group_of x past == 0) ≡ b → b ≡ false
                    not-none false q = refl
                    not-none true q = absurd (no-ask x (peer x (fabric past)) sound-past (eqb-true (group_of x past) 0 q) before)

                resent : (b : Bool) → resends_key k (flow_of x past) ≡ b → AsksOn x e past ⊎ ((tokens : List KeyToken) × AsksKey x e tokens)
                resent false q = inl (record { asked = before; rmb = loss.rmb ∙ s.1.0; list = loss.told ∙ loses-list k (peer_of x past) (ap is_asked (sym loss.key) ∙ p) q })
                resent true q = inr (_, record { on = _; retry = _; negative = _; others = _; posted = subst (λ key. IsAmong (key_again x (loses k (peer_of x past)) (keys_of x past).keys (deleting_rmbs setup x past) key) e.posts) (asked-is (flow_of x past).key before) (again some q) })

        posted : (tokens : List KeyToken) → AsksKey x e tokens → AsksSo x e past tokens
        posted tokens it = by (asks-is setup payload e past x it.on (ConfirmRkey false it.retry it.negative it.others tokens) (ask-posted setup payload e past m.0.0 m.0.1 x it.on (ConfirmRkey false it.retry it.negative it.others tokens) refl it.posted))
          where
            by : Asks x e past it.on (ConfirmRkey false it.retry it.negative it.others tokens) → AsksSo x e past tokens
            by a = record { rmb = ap (λ n. token_rmb (tokens_of n)) a.message_is ∙ (rmb-of a.rmb ∙ a.rmb_is); list = a.told_is }

    -- what the requests on links that are not dead tell
    module _ (flows : HasFlows past) (keys : HasKeyFlow x past) (grows : Grows (fabric past) (fabric (e ∷ past))) (keys_later : HasKeyFlow x (e ∷ past)) where
      way-after : (l : LinkId) (n : LlcMessage) → is_dead l (e ∷ past) ≡ false → IsWaiting l x n (e ∷ past) → is_ask_request n ≡ true → TellsBound l.slot n (keys_of x (e ∷ past)).keys × TellsOf (flow_of x (e ∷ past)).rmb n
      way-after l n alive w is = by (waited-or-posted l x n e past w)
        where
          p : P (e ∷ past)
          p = fits-asked l.slot n (flow_of x (e ∷ past)) (ask-rkey n is) (waiting-fits x (e ∷ past) keys_later l x n alive w (ask-kind x l n is))

          by : IsWaiting l x n past ⊎ IsAmong (Llc x l n) e.posts → TellsBound l.slot n (keys_of x (e ∷ past)).keys × TellsOf (flow_of x (e ∷ past)).rmb n
          by (inr i) = let a = asks-is setup payload e past x l n (ask-posted setup payload e past m.0.0 m.0.1 x l n is i) in (asks-bound setup payload e past m x l n a, asks-of setup payload e past m x l n a)
          by (inl w) =
              let alive_was = waited-alive e past grows flows.empty l x n w alive in
              let before = fits-asked l.slot n (flow_of x past) (ask-rkey n is) (waiting-fits x past keys l x n alive_was w (ask-kind x l n is)) in
              let t = was.way l n alive_was w is in
              (tells-stay x e past before (asked-group setup payload e past m x p) l.slot n t.0, same before (asked-before p) t.1)
            where
              same : P past → (P past × ((flow_of x (e ∷ past)).rmb ≡ (flow_of x past).rmb)) ⊎ VerdictAsks setup payload x e past → TellsOf (flow_of x past).rmb n → TellsOf (flow_of x (e ∷ past)).rmb n
              same before (inl q) t = subst (λ r. TellsOf r n) (sym q.1) t
              same before (inr va) t = absurd (not-twice before va)

      -- the step
      pub asking-after : AreAsking x (e ∷ past)
      asking-after = record { unconfirmed = unconfirmed-after; listed = asked-after x e past links-made requests-made was.listed; way = way-after }

-- after every history
pub all-asking : (setup : Setup) (payload : List ℕ) (past : List Entry) → IsMadeAll setup payload past → (x : Side) → AreAsking x past
all-asking setup payload [] m x = first x
  where
    first : (x : Side) → AreAsking x []
    first A = record { unconfirmed = λ a. absurd (true≢false (sym a)); listed = λ a. absurd (true≢false (sym a)); way = λ l n alive w is. absurd w.among }
    first B = record { unconfirmed = λ a. absurd (true≢false (sym a)); listed = λ a. absurd (true≢false (sym a)); way = λ l n alive w is. absurd w.among }
all-asking setup payload (e ∷ past) m x = by (all-flows setup payload past m.1) (all-flows setup payload (e ∷ past) m) (all-asking setup payload past m.1 x)
  where
    by : HasAllFlows past → HasAllFlows (e ∷ past) → AreAsking x past → AreAsking x (e ∷ past)
    by f g was = let c : HasContact past = f.links in asking-after setup payload e past m x was c.flows (f.keys x) (grows-of setup payload e past m) (g.keys x)
