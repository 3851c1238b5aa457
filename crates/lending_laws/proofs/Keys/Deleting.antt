-- While a side's keys are deleted, no element of their RMBs is lent: the step, and after every history.
use Rattle.pipe_model.specs.Words.{rmbs_of}
use Rattle.std.proofs.Common.{Bool, List, [], ap, arith, eqb-true, false, filter, if◌then◌else◌, inl, inr, map, not, refl, subst, sym, true, true≢false, ℕ, ◌&&◌, ◌==◌, ◌∙◌, ◌∷◌, ◌≡◌, ◌⊎◌}
use Rattle.std.specs.Prelude.{None, Option, Some, filter_map, find, flat_map, option_map, option_to_list, unwrap_or}
use Rattle.pipe_model.specs.Handshake.{verdict}
use Rattle.pipe_model.specs.declared.flow.KeyPhase.TheVariants.{Free}
use Rattle.pipe_model.specs.Fabric.{does, loses}
use Rattle.pipe_model.specs.Keys.{deleted}
use Rattle.pipe_model.specs.Posts.{delete_request, last_delete}
use Rattle.pipe_model.specs.declared.post.Post.TheVariants.{Clc, Write}
use Rattle.std.specs.List.{cons_option, list_any}
use Rattle.pipe_model.specs.Messages.{delete_rkey}
use Rattle.pipe_model.specs.Lending.{is_idle}
use Rattle.pipe_model.specs.declared.event.Event.TheVariants.{Clc as ClcEvent}
use Rattle.std.specs.Option.{option_or}
use Rattle.history_laws.specs.Words.{A, AddKeys, AddLink, B, Cdc, ClcMessage, ConfirmLink, ConfirmRkey, DeleteLink, DeleteRkey, EndState, Entry, Flow, Forget, Key, Lacks, Learn, Lending, LinkId, Llc, LlcMessage, Offer, Peer, Post, ReplyRetry, SendAccept, SendConfirm, Setup, Side, TestLink, Trim, WaitsAnswer, WaitsProposal, Withdraw, at_side, book_of, clc_step, delete_reply, deleting_rmbs, end_state, ends_group, fabric, flow_of, goes_on, group_of, has, head, is_dead, is_deleting, is_for, is_raw, key_on, key_reply, keys_of, lacks, lends, lent, lowest_live, named_rmbs, other, peer, peer_of, returns, same_side, trim_post, trimmed, up_to, without_slot}
use Rattle.history_laws.specs.Lists.{IsAmong}
use Rattle.history_laws.proofs.Offers.{accepts-in, all-offers, begins, confirms-in, in-append, sends-accept, sends-confirm, states}
use Rattle.history_laws.proofs.Basics.{and-both, none-is, other-other, same-is, same-self, some-is}
use Rattle.history_laws.specs.Made.{IsMadeAll, IsMade}
use Rattle.history_laws.specs.Offers.{Begins, BeginsNone, BeginsOne}
use Rattle.link_laws.proofs.Keys.{any-found, found-is, kept-from, keys-are, none-of, of-use, one-number}
use Rattle.link_laws.specs.Linked.{Begins as BeginsContact, Confirms, Goes as GoesLive, HasNone, IsOwn, IsSound}
use Rattle.link_laws.specs.FabricChanges.{Takes}
use Rattle.link_laws.proofs.Fabric.{fabric-taken}
use Rattle.link_laws.specs.StepSays.{is_ask_request, is_delete_answer, is_delete_request}
use Rattle.link_laws.specs.KeyFlows.{HasKeyFlow, is_key_of, key_fits, key_kind}
use Rattle.link_laws.specs.Posted.{AsksAgain, ByAnswer, ByForgetting, ByLearning, ByLoss, ByRefusal, ByRetry, ByTelling, ByTrim, ByVerdict, DeletesAgain, KeyAsks, KeyDeletes, KeyFree, KeyLoses, KeyRetries, KeyStays, KeyTurn, KeysPosted, TellsAgain, is_of_keys}
use Rattle.link_laws.proofs.KeyMessages.{among-append, key-turn, keys-posted, landed-waited, takes-says, waited-alive, waited-or-posted, waiting-fits}
use Rattle.link_laws.specs.KeyChanges.{Goes, GroupGoes, HasUse, Withdrawn}
use Rattle.link_laws.specs.UnderWay.{HasFlows}
use Rattle.link_laws.proofs.UnderWay.{Grows}
use Rattle.link_laws.proofs.Waiting.{HasLanded, grows-of, has-landed}
use Rattle.link_laws.specs.OnWires.{IsWaiting}
use Rattle.link_laws.proofs.Joined.{all-flows}
use Rattle.link_laws.specs.Joined.{HasAllFlows, HasContact}
use Rattle.lending_laws.proofs.Lendings.{ConfirmFacts, accept-facts, confirm-facts, in-filter}
use Rattle.lending_laws.specs.Deleting.{AreDeleting, AreIdle, IsIdleRmb}
use Rattle.lending_laws.proofs.Keys.Tokens.{cut-among}
use Rattle.lending_laws.proofs.Keys.Bound.{its-use, stays-bound}
use Rattle.lending_laws.proofs.Keys.Asking.{asked-key}

-- the two words for a member of a list
pub in-among : {X : Type 0} (a : X) (xs : List X) → IsAmong a xs → IsAmong a xs
in-among a [] i = i
in-among a (x ∷ xs) (inl h) = inl h
in-among a (x ∷ xs) (inr h) = inr (in-among a xs h)

-- a number among these
pub has-among : (n : ℕ) (ns : List ℕ) → has n ns ≡ true → IsAmong n ns
has-among n ns h = let f = any-found (λ m. n == m) ns h in subst (λ m. IsAmong m ns) (sym (eqb-true n f.0 f.1.1)) f.1.0

-- an RMB that numbers name has a key among them
pub named-from : (named : List ℕ) (ks : List Key) (rmb : ℕ) → IsAmong rmb (named_rmbs named ks) → (k : Key) × (IsAmong k ks × ((IsAmong k.key named) × (k.rmb ≡ rmb)))
named-from named [] rmb i = absurd i
named-from named (k ∷ ks) rmb i = by (has k.key named) refl i (λ h. named-from named ks rmb h)
  where
    more : (j : Key) × (IsAmong j ks × ((IsAmong j.key named) × (j.rmb ≡ rmb))) → (j : Key) × (IsAmong j (k ∷ ks) × ((IsAmong j.key named) × (j.rmb ≡ rmb)))
    more r = (r.0, (inr r.1.0, r.1.1))

    by : (b : Bool) → has k.key named ≡ b → IsAmong rmb (map (λ (k : Key). k.rmb) (if b then k ∷ filter (λ (k : Key). has k.key named) ks else filter (λ (k : Key). has k.key named) ks)) → (IsAmong rmb (named_rmbs named ks) → (j : Key) × (IsAmong j ks × ((IsAmong j.key named) × (j.rmb ≡ rmb))))
        → (j : Key) × (IsAmong j (k ∷ ks) × ((IsAmong j.key named) × (j.rmb ≡ rmb)))
    by true q (inl h) rest = (k, (inl refl, (has-among k.key named q, sym h)))
    by true q (inr h) rest = more (rest h)
    by false q h rest = more (rest h)

-- the key of an RMB on a slot is 0, or one of its keys
pub key-on-from : (rmb slot : ℕ) (ks : List Key) → (key_on rmb slot ks ≡ 0) ⊎ ((k : Key) × (IsAmong k ks × ((k.key ≡ key_on rmb slot ks) × ((k.rmb ≡ rmb) × (k.link.slot ≡ slot)))))
key-on-from rmb slot ks = by (find (is_for rmb slot) ks) refl
  where
    by : (o : Option Key) → find (is_for rmb slot) ks ≡ o → (key_on rmb slot ks ≡ 0) ⊎ ((k : Key) × (IsAmong k ks × ((k.key ≡ key_on rmb slot ks) × ((k.rmb ≡ rmb) × (k.link.slot ≡ slot)))))
    by None e = inl (ap (λ o. unwrap_or (option_map (λ (m : Key). m.key) o) 0) e)
    by (Some k) e =
        let f = found-is (is_for rmb slot) k ks e in
        let u = of-use rmb slot k f.1 in
        inr (k, (f.0, (sym (ap (λ o. unwrap_or (option_map (λ (m : Key). m.key) o) 0) e), (u.0, u.1))))

-- no key has the number 0
pub not-zero : (x : Side) (past : List Entry) (k : Key) → IsAmong k (keys_of x past).keys → k.key ≡ 0 → ⊥
not-zero x past k i z = let above = (keys-are x past).above k i in omega (arith, above, z)

-- a verdict that lends is given where no keys are deleted, but to A in first contact, where it has no group
accept-calm : (raw : Bool) (state : EndState) (m : ClcMessage) (l : Lacks) (first : Bool) → verdict raw state m l ≡ SendAccept first → is_deleting l.key_flow ≡ false
accept-calm raw state m l first e =
    let q = accepts-in raw state m l (ap sends-accept e) in
    let f = accept-facts raw q.1.0 l first (sym (ap (λ w. verdict raw w m l) q.0 ∙ ap (λ n. verdict raw WaitsProposal n l) q.1.1) ∙ e) in f.calm

confirm-calm : (raw : Bool) (state : EndState) (m : ClcMessage) (l : Lacks) (first : Bool) → verdict raw state m l ≡ SendConfirm first → ((l.group == 0) ≡ true) ⊎ (is_deleting l.key_flow ≡ false)
confirm-calm raw state m l first e =
    let q = confirms-in raw state m l (ap sends-confirm e) in
    let f = confirm-facts q.1.0 l first (sym (ap (λ w. verdict raw w m l) q.0 ∙ ap (λ n. verdict raw WaitsAnswer n l) q.1.1) ∙ e) in
    by first refl f
  where
    by : (b : Bool) → first ≡ b → {o : Offer} → ConfirmFacts o l first → ((l.group == 0) ≡ true) ⊎ (is_deleting l.key_flow ≡ false)
    by true is f = inl (f.fresh is)
    by false is f = inr (f.calm is)

-- a side that deletes keys has a group
deleting-group : (x : Side) (past : List Entry) → IsSound x (peer x (fabric past)) → is_deleting (flow_of x past).key ≡ true → group_of x past ≡ 0 → ⊥
deleting-group x past (HasNone g f n) d z = true≢false (sym d ∙ ap (λ (f : Flow). is_deleting f.key) f)
deleting-group x past (BeginsContact g f t) d z = g z
deleting-group x past (Confirms link g f t) d z = g z
deleting-group x past (GoesLive k g l f) d z = g z

-- where keys are withdrawn, none are deleted any more
withdrawn-free : (x : Side) (e : Entry) (past : List Entry) → Takes x e past Withdraw → (flow_of x (e ∷ past)).key ≡ Free
withdrawn-free x e past t = ap (λ f. (peer x f).flow.key) (fabric-taken x e past t.act t.is ∙ ap (λ v. does x t.act.link t.act.message v (fabric past)) t.does) ∙ by x
  where
    by : (z : Side) → (peer z (does z t.act.link t.act.message Withdraw (fabric past))).flow.key ≡ Free
    by A = refl
    by B = refl

-- a side whose keys are deleted after the loss of a link deleted them before
loss-deleting : (k : ℕ) (p : Peer) → is_deleting (loses k p).flow.key ≡ true → is_deleting p.flow.key ≡ true
loss-deleting k p h = by (lowest_live (without_slot k p).table == 0) h
  where
    by : (b : Bool) → is_deleting (if b then ends_group (without_slot k p) else goes_on k (without_slot k p)).flow.key ≡ true → is_deleting p.flow.key ≡ true
    by true h = absurd (true≢false (sym h))
    by false h = h

-- whether a message names keys to delete
abbrev is_delete : LlcMessage → Bool
is_delete (DeleteRkey reply negative count mask keys) = true
is_delete m = false

pub message-of : (y z : Side) (l k : LinkId) (m n : LlcMessage) → Llc y l m ≡ Llc z k n → m ≡ n
message-of y z l k m n e = cc

key-reply-not : (b : Bool) (m : LlcMessage) → is_ask_request m ≡ true → is_delete (key_reply b m) ≡ false
key-reply-not b (ConfirmRkey reply retry negative others tokens) e = refl
key-reply-not b (DeleteRkey reply negative count mask keys) e = absurd (true≢false (sym e))
key-reply-not b (ConfirmLink reply mac gid qp k user most) e = absurd (true≢false (sym e))
key-reply-not b (AddLink reply rejected reason mac gid qp k mtu psn) e = absurd (true≢false (sym e))
key-reply-not b (AddKeys reply k count keys) e = absurd (true≢false (sym e))
key-reply-not b (DeleteLink reply every orderly k reason) e = absurd (true≢false (sym e))
key-reply-not b (TestLink reply bytes) e = absurd (true≢false (sym e))

-- the answer names what the request named
delete-reply-is : (on : LinkId) (book : List Key) (m : LlcMessage) → is_delete_request m ≡ true → deleted (delete_reply on book m) ≡ deleted m
delete-reply-is on book (DeleteRkey reply negative count mask keys) e = refl
delete-reply-is on book (ConfirmRkey reply retry negative others tokens) e = absurd (true≢false (sym e))
delete-reply-is on book (ConfirmLink reply mac gid qp k user most) e = absurd (true≢false (sym e))
delete-reply-is on book (AddLink reply rejected reason mac gid qp k mtu psn) e = absurd (true≢false (sym e))
delete-reply-is on book (AddKeys reply k count keys) e = absurd (true≢false (sym e))
delete-reply-is on book (DeleteLink reply every orderly k reason) e = absurd (true≢false (sym e))
delete-reply-is on book (TestLink reply bytes) e = absurd (true≢false (sym e))

-- request and answer are of the key flow of the side that asked
request-kind : (x : Side) (l : LinkId) (m : LlcMessage) → is_delete_request m ≡ true → key_kind x (record { from = x; link = l; message = m }) ≡ true
request-kind x l (DeleteRkey false negative count mask keys) e = same-self x
request-kind x l (DeleteRkey true negative count mask keys) e = absurd (true≢false (sym e))
request-kind x l (ConfirmRkey reply retry negative others tokens) e = absurd (true≢false (sym e))
request-kind x l (ConfirmLink reply mac gid qp k user most) e = absurd (true≢false (sym e))
request-kind x l (AddLink reply rejected reason mac gid qp k mtu psn) e = absurd (true≢false (sym e))
request-kind x l (AddKeys reply k count keys) e = absurd (true≢false (sym e))
request-kind x l (DeleteLink reply every orderly k reason) e = absurd (true≢false (sym e))
request-kind x l (TestLink reply bytes) e = absurd (true≢false (sym e))

answer-kind : (x : Side) (l : LinkId) (m : LlcMessage) → is_delete_answer m ≡ true → key_kind x (record { from = other x; link = l; message = m }) ≡ true
answer-kind x l (DeleteRkey true negative count mask keys) e = same-self (other x)
answer-kind x l (DeleteRkey false negative count mask keys) e = absurd (true≢false (sym e))
answer-kind x l (ConfirmRkey reply retry negative others tokens) e = absurd (true≢false (sym e))
answer-kind x l (ConfirmLink reply mac gid qp k user most) e = absurd (true≢false (sym e))
answer-kind x l (AddLink reply rejected reason mac gid qp k mtu psn) e = absurd (true≢false (sym e))
answer-kind x l (AddKeys reply k count keys) e = absurd (true≢false (sym e))
answer-kind x l (DeleteLink reply every orderly k reason) e = absurd (true≢false (sym e))
answer-kind x l (TestLink reply bytes) e = absurd (true≢false (sym e))

-- a message that names keys to delete fits a flow that deletes
fits-deleting : (slot : ℕ) (m : LlcMessage) (f : Flow) → is_delete m ≡ true → key_fits slot m f ≡ true → is_deleting f.key ≡ true
fits-deleting slot (DeleteRkey reply negative count mask keys) f d e = let h = and-both (is_deleting f.key) (f.on == slot) e in h.0
fits-deleting slot (ConfirmRkey reply retry negative others tokens) f d e = absurd (true≢false (sym d))
fits-deleting slot (ConfirmLink reply mac gid qp k user most) f d e = absurd (true≢false (sym d))
fits-deleting slot (AddLink reply rejected reason mac gid qp k mtu psn) f d e = absurd (true≢false (sym d))
fits-deleting slot (AddKeys reply k count keys) f d e = absurd (true≢false (sym d))
fits-deleting slot (DeleteLink reply every orderly k reason) f d e = absurd (true≢false (sym d))
fits-deleting slot (TestLink reply bytes) f d e = absurd (true≢false (sym d))

-- such a request names keys to delete
asks-delete : (n : LlcMessage) → is_delete_request n ≡ true → is_delete n ≡ true
asks-delete (DeleteRkey reply negative count mask keys) e = refl
asks-delete (ConfirmRkey reply retry negative others tokens) e = absurd (true≢false (sym e))
asks-delete (ConfirmLink reply mac gid qp k user most) e = absurd (true≢false (sym e))
asks-delete (AddLink reply rejected reason mac gid qp k mtu psn) e = absurd (true≢false (sym e))
asks-delete (AddKeys reply k count keys) e = absurd (true≢false (sym e))
asks-delete (DeleteLink reply every orderly k reason) e = absurd (true≢false (sym e))
asks-delete (TestLink reply bytes) e = absurd (true≢false (sym e))

asks-keys : (n : LlcMessage) → is_delete_request n ≡ true → is_of_keys n ≡ true
asks-keys (DeleteRkey reply negative count mask keys) e = refl
asks-keys (ConfirmRkey reply retry negative others tokens) e = absurd (true≢false (sym e))
asks-keys (ConfirmLink reply mac gid qp k user most) e = absurd (true≢false (sym e))
asks-keys (AddLink reply rejected reason mac gid qp k mtu psn) e = absurd (true≢false (sym e))
asks-keys (AddKeys reply k count keys) e = absurd (true≢false (sym e))
asks-keys (DeleteLink reply every orderly k reason) e = absurd (true≢false (sym e))
asks-keys (TestLink reply bytes) e = absurd (true≢false (sym e))

-- a DELETE RKEY of a side among posts
request-is : (x : Side) (p : Post) (m : LlcMessage) → delete_request x p ≡ Some m → (l : LinkId) × ((Llc x l m ≡ p) × (is_delete_request m ≡ true))
request-is x (Write from link key address len) m h = absurd (none-is m h)
request-is x (Cdc from link n) m h = absurd (none-is m h)
request-is x (Clc from s link n) m h = absurd (none-is m h)
request-is x (Llc from link (DeleteRkey true negative count mask keys)) m h = absurd (none-is m h)
request-is x (Llc from link (ConfirmRkey reply retry negative others tokens)) m h = absurd (none-is m h)
request-is x (Llc from link (ConfirmLink reply mac gid qp k user most)) m h = absurd (none-is m h)
request-is x (Llc from link (AddLink reply rejected reason mac gid qp k mtu psn)) m h = absurd (none-is m h)
request-is x (Llc from link (AddKeys reply k count keys)) m h = absurd (none-is m h)
request-is x (Llc from link (DeleteLink reply every orderly k reason)) m h = absurd (none-is m h)
request-is x (Llc from link (TestLink reply bytes)) m h = absurd (none-is m h)
request-is x (Llc from link (DeleteRkey false negative count mask keys)) m h = by (same_side x from) refl h
  where
    by : (b : Bool) → same_side x from ≡ b → (if b then Some (DeleteRkey false negative count mask keys) else None) ≡ Some m → (l : LinkId) × ((Llc x l m ≡ Llc from link (DeleteRkey false negative count mask keys)) × (is_delete_request m ≡ true))
    by true q h = let s = some-is (DeleteRkey false negative count mask keys) m h in (link, (ap (λ z. Llc z link m) (same-is x from q) ∙ ap (λ n. Llc from link n) (sym s), sym (ap is_delete_request s)))
    by false q h = absurd (none-is m h)

request-in : (x : Side) (ps : List Post) (m : LlcMessage) → head (filter_map (delete_request x) ps) ≡ Some m → (l : LinkId) × (IsAmong (Llc x l m) ps × (is_delete_request m ≡ true))
request-in x [] m h = absurd (none-is m h)
request-in x (p ∷ ps) m h = by (delete_request x p) refl h (λ g. request-in x ps m g)
  where
    by : (o : Option LlcMessage) → delete_request x p ≡ o → head (cons_option o (filter_map (delete_request x) ps)) ≡ Some m → (head (filter_map (delete_request x) ps) ≡ Some m → (l : LinkId) × (IsAmong (Llc x l m) ps × (is_delete_request m ≡ true))) → (l : LinkId) × (IsAmong (Llc x l m) (p ∷ ps) × (is_delete_request m ≡ true))
    by None q h rest = let r = rest h in (r.0, (inr r.1.0, r.1.1))
    by (Some n) q h rest = let r = request-is x p m (q ∙ ap Some (some-is n m h)) in (r.0, (inl r.1.0, r.1.1))

-- each number in a DELETE RKEY that a side makes of idle RMBs is of one of them
made-idle : (setup : Setup) (payload : List ℕ) (x : Side) (past : List Entry) (on : ℕ) (rmbs : List ℕ) → ((rmb : ℕ) → IsAmong rmb rmbs → IsIdleRmb setup payload x rmb past) → AreIdle setup payload x (deleted (delete_rkey on rmbs (keys_of x past).keys)) past
made-idle setup payload x past on rmbs idle n i = by cut.0 cut.1.0 cut.1.1
  where
    cut : (rmb : ℕ) × (IsAmong rmb rmbs × (n ≡ key_on rmb on (keys_of x past).keys))
    cut = cut-among (λ rmb. key_on rmb on (keys_of x past).keys) rmbs 8 (0 ∷ 0 ∷ 0 ∷ 0 ∷ 0 ∷ 0 ∷ 0 ∷ 0 ∷ []) n i

    by : (rmb : ℕ) → IsAmong rmb rmbs → n ≡ key_on rmb on (keys_of x past).keys → (n ≡ 0) ⊎ ((k : Key) × (IsAmong k (keys_of x past).keys × ((k.key ≡ n) × IsIdleRmb setup payload x k.rmb past)))
    by rmb r is = elim (key-on-from rmb on (keys_of x past).keys) [
      | inl z ↦ inl (is ∙ z)
      | inr k ↦ inr (k.0, (k.1.0, (k.1.1.0 ∙ sym is, λ l j. ap (λ r. l.place.rmb == r) k.1.1.1.0 ∙ idle rmb r l j)))
    ]

-- RMBs with no element lent
idle-of : (setup : Setup) (payload : List ℕ) (x : Side) (past : List Entry) (rmb : ℕ) → is_idle rmb (lent setup payload x past) ≡ true → IsIdleRmb setup payload x rmb past
idle-of setup payload x past rmb h l i = none-of (λ (l : Lending). l.place.rmb == rmb) l (lent setup payload x past) (not-true (list_any (λ (l : Lending). l.place.rmb == rmb) (lent setup payload x past)) h) (in-among l (lent setup payload x past) i)
  where
    not-true : (b : Bool) → not b ≡ true → b ≡ false
    not-true true e = absurd (true≢false (sym e))
    not-true false e = refl

-- those to be trimmed are such
trimmed-idle : (setup : Setup) (payload : List ℕ) (x : Side) (past : List Entry) (rmb : ℕ) → IsAmong rmb (trimmed setup payload x past) → IsIdleRmb setup payload x rmb past
trimmed-idle setup payload x past rmb i =
    let f = kept-from (λ rmb. has rmb (map (λ (k : Key). k.rmb) (keys_of x past).keys) && is_idle rmb (lent setup payload x past)) rmb (up_to (rmbs_of setup x)) i in
    let b = and-both (has rmb (map (λ (k : Key). k.rmb) (keys_of x past).keys)) (is_idle rmb (lent setup payload x past)) f.1 in
    idle-of setup payload x past rmb b.1

-- an RMB of idle numbers is idle
pub named-idle : (setup : Setup) (payload : List ℕ) (x : Side) (past : List Entry) (named : List ℕ) → AreIdle setup payload x named past → (rmb : ℕ) → IsAmong rmb (named_rmbs named (keys_of x past).keys) → IsIdleRmb setup payload x rmb past
named-idle setup payload x past named idle rmb i = by f.0 f.1.0 f.1.1.1 (idle f.0.key f.1.1.0)
  where
    f : (k : Key) × (IsAmong k (keys_of x past).keys × ((IsAmong k.key named) × (k.rmb ≡ rmb)))
    f = named-from named (keys_of x past).keys rmb i

    by : (k : Key) → IsAmong k (keys_of x past).keys → k.rmb ≡ rmb → (k.key ≡ 0) ⊎ ((j : Key) × (IsAmong j (keys_of x past).keys × ((j.key ≡ k.key) × IsIdleRmb setup payload x j.rmb past))) → IsIdleRmb setup payload x rmb past
    by k h r (inl z) = absurd (not-zero x past k h z)
    by k h r (inr j) = let same : j.0 ≡ k = one-number (keys_of x past).keys (keys-are x past).numbers j.0 k j.1.0 h j.1.1.0 in λ l i. ap (λ n. l.place.rmb == n) (sym (ap (λ (m : Key). m.rmb) same ∙ r)) ∙ j.1.1.1 l i

-- those that are posted again are such
again-idle : (setup : Setup) (payload : List ℕ) (x : Side) (past : List Entry) (m : LlcMessage) → last_delete x past ≡ Some m → AreIdle setup payload x (deleted m) past → (rmb : ℕ) → IsAmong rmb (deleting_rmbs setup x past) → IsIdleRmb setup payload x rmb past
again-idle setup payload x past m last idle rmb i = named-idle setup payload x past (deleted m) idle rmb (only (has-among rmb (flat_map (λ n. named_rmbs (deleted n) (keys_of x past).keys) (option_to_list (last_delete x past))) f.1))
  where
    f : IsAmong rmb (up_to (rmbs_of setup x)) × (has rmb (flat_map (λ n. named_rmbs (deleted n) (keys_of x past).keys) (option_to_list (last_delete x past))) ≡ true)
    f = kept-from (λ rmb. has rmb (flat_map (λ n. named_rmbs (deleted n) (keys_of x past).keys) (option_to_list (last_delete x past)))) rmb (up_to (rmbs_of setup x)) i

    only : IsAmong rmb (flat_map (λ n. named_rmbs (deleted n) (keys_of x past).keys) (option_to_list (last_delete x past))) → IsAmong rmb (named_rmbs (deleted m) (keys_of x past).keys)
    only h = elim (among-append rmb (named_rmbs (deleted m) (keys_of x past).keys) [] (subst (λ o. IsAmong rmb (flat_map (λ n. named_rmbs (deleted n) (keys_of x past).keys) (option_to_list o))) last h)) [ inl k ↦ k | inr k ↦ absurd k ]

module _ (setup : Setup) (payload : List ℕ) (past : List Entry) (before : ℕ) (e : Entry) (made : IsMade setup payload past before e) (all : IsMadeAll setup payload past) (x : Side) where
  -- a side that deletes keys lends nothing
  pub none-new : is_deleting (flow_of x past).key ≡ true → (group_of x past ≡ 0 → ⊥) → filter_map (lends x) e.posts ≡ []
  none-new d some = by (begins setup payload past before e made (states setup payload past all) (all-offers setup payload past all) x)
    where
      by : Begins setup payload x e past → filter_map (lends x) e.posts ≡ []
      by (BeginsNone none offers) = none
      by (BeginsOne n) = absurd (lends-one x d some n.step_is)
        where
          lends-one : (z : Side) → is_deleting (flow_of z past).key ≡ true → (group_of z past ≡ 0 → ⊥) → (m : ClcMessage) × (clc_step setup payload z n.s m past ≡ at_side z (SendConfirm n.first) (SendAccept n.first)) → ⊥
          lends-one B d some st = true≢false (sym d ∙ accept-calm (is_raw n.s past) (end_state B n.s past) st.0 (lacks setup payload B past) n.first st.1)
          lends-one A d some st = elim (confirm-calm (is_raw n.s past) (end_state A n.s past) st.0 (lacks setup payload A past) n.first st.1) [
            | inl z ↦ some (eqb-true (group_of A past) 0 z)
            | inr c ↦ true≢false (sym d ∙ c)
          ]

  -- what is idle stays so, while no key is withdrawn and nothing is lent
  idle-goes : (Takes x e past Withdraw → ⊥) → (group_of x (e ∷ past) ≡ 0 → ⊥) → filter_map (lends x) e.posts ≡ [] → (named : List ℕ) → AreIdle setup payload x named past → AreIdle setup payload x named (e ∷ past)
  idle-goes stays some none named idle n i = by (idle n i)
    where
      lent-was : (l : Lending) → IsAmong l (lent setup payload x (e ∷ past)) → IsAmong l (lent setup payload x past)
      lent-was l j = elim (in-append l (filter_map (lends x) e.posts) (filter (λ m. not (returns setup payload x e past m)) (lent setup payload x past)) j) [
        | inl h ↦ absurd (subst (λ ls. IsAmong l ls) none h)
        | inr h ↦ (in-filter (λ m. not (returns setup payload x e past m)) l (lent setup payload x past) h).0
      ]

      by : (n ≡ 0) ⊎ ((k : Key) × (IsAmong k (keys_of x past).keys × ((k.key ≡ n) × IsIdleRmb setup payload x k.rmb past))) → (n ≡ 0) ⊎ ((k : Key) × (IsAmong k (keys_of x (e ∷ past)).keys × ((k.key ≡ n) × IsIdleRmb setup payload x k.rmb (e ∷ past))))
      by (inl z) = inl z
      by (inr k) = bound (stays-bound x e past k.0 (its-use k.0 (keys_of x past).keys k.1.0))
        where
          bound : HasUse k.0 (keys_of x (e ∷ past)).keys ⊎ Goes x e past k.0.rmb → (n ≡ 0) ⊎ ((k : Key) × (IsAmong k (keys_of x (e ∷ past)).keys × ((k.key ≡ n) × IsIdleRmb setup payload x k.rmb (e ∷ past))))
          bound (inl u) = inr (u.key, (u.among, (u.number ∙ k.1.1.0, λ l j. ap (λ r. l.place.rmb == r) u.of ∙ k.1.1.1 l (lent-was l j))))
          bound (inr (Withdrawn t named)) = absurd (stays t)
          bound (inr (GroupGoes none)) = absurd (some none)

  module _ (flows : HasFlows past) (keys : HasKeyFlow x past) (grows : Grows (fabric past) (fabric (e ∷ past))) (later : HasFlows (e ∷ past)) (keys_later : HasKeyFlow x (e ∷ past)) (was : AreDeleting setup payload x past) where
    abbrev D : List Entry → Type 0
    D past = is_deleting (flow_of x past).key ≡ true

    sound-was : IsSound x (peer x (fabric past))
    sound-was = let o : IsOwn x (peer x (fabric past)) = (flows.linked).own x in o.sound

    sound-is : IsSound x (peer x (fabric (e ∷ past)))
    sound-is = let o : IsOwn x (peer x (fabric (e ∷ past))) = (later.linked).own x in o.sound

    no-withdraw : D (e ∷ past) → Takes x e past Withdraw → ⊥
    no-withdraw d t = true≢false (sym d ∙ ap is_deleting (withdrawn-free x e past t))

    -- while keys are deleted
    goes-on : D past → D (e ∷ past) → (named : List ℕ) → AreIdle setup payload x named past → AreIdle setup payload x named (e ∷ past)
    goes-on d d2 named = idle-goes (no-withdraw d2) (deleting-group x (e ∷ past) sound-is d2) (none-new d (deleting-group x past sound-was d)) named

    -- what an entry posts that names keys to delete
    posted-idle : D (e ∷ past) → (l : LinkId) (y : Side) (m : LlcMessage) → is_delete m ≡ true → is_of_keys m ≡ true → key_kind x (record { from = y; link = l; message = m }) ≡ true → IsAmong (Llc y l m) e.posts → AreIdle setup payload x (deleted m) (e ∷ past)
    posted-idle d2 l y m dm km kind i = by (keys-posted setup payload past before e made y l m km i)
      where
        named : (n : LlcMessage) → m ≡ n → AreIdle setup payload x (deleted n) (e ∷ past) → AreIdle setup payload x (deleted m) (e ∷ past)
        named n q a = subst (λ k. AreIdle setup payload x (deleted k) (e ∷ past)) (sym q) a

        not-delete : (n : LlcMessage) → m ≡ n → is_delete n ≡ false → ⊥
        not-delete n q f = true≢false (sym dm ∙ (ap is_delete q ∙ f))

        -- a request is x's
        requests : (on : ℕ) (rmbs : List ℕ) (ks : List Key) → m ≡ delete_rkey on rmbs ks → y ≡ x
        requests on rmbs ks q = same-is y x (sym (ap (λ n. is_key_of x y n) q) ∙ kind)

        by : KeysPosted setup payload e past y (Llc y l m) → AreIdle setup payload x (deleted m) (e ∷ past)
        by (ByVerdict va h) = absurd (not-delete _ (message-of y y l _ m _ h) refl)
        by (ByLoss k loss some still (AsksAgain a r h qs rs is silent)) = absurd (not-delete _ (message-of y y l _ m _ h) refl)
        by (ByLoss k loss some still (TellsAgain j on f r h)) = absurd (not-delete _ (message-of y y l _ m _ h) refl)
        by (ByLoss k loss some still (DeletesAgain a r h)) =
            let q : m ≡ delete_rkey (lowest_live (loses k (peer_of y past)).table) (deleting_rmbs setup y past) (keys_of y past).keys = message-of y y l _ m _ h in
            again y (requests _ _ _ q) (lowest_live (loses k (peer_of y past)).table) q (ap is_deleting a)
          where
            again : (z : Side) → z ≡ x → (on : ℕ) → m ≡ delete_rkey on (deleting_rmbs setup z past) (keys_of z past).keys → is_deleting (flow_of z past).key ≡ true → AreIdle setup payload x (deleted m) (e ∷ past)
            again z same on q d = at (subst (λ w. is_deleting (flow_of w past).key ≡ true) same d)
              where
                at : D past → AreIdle setup payload x (deleted m) (e ∷ past)
                at d =
                    let last = was.last d in
                    named (delete_rkey on (deleting_rmbs setup x past) (keys_of x past).keys) (q ∙ ap (λ w. delete_rkey on (deleting_rmbs setup w past) (keys_of w past).keys) same)
                    (goes-on d d2 (deleted (delete_rkey on (deleting_rmbs setup x past) (keys_of x past).keys)) (made-idle setup payload x past on (deleting_rmbs setup x past) (again-idle setup payload x past last.0 last.1.0 last.1.1)))
        by (ByTrim ev r h) =
            let q : m ≡ delete_rkey (lowest_live (peer_of y past).table) (trimmed setup payload y past) (keys_of y past).keys = message-of y y l _ m _ h in
            let same : y ≡ x = requests _ _ _ q in
            let on : ℕ = lowest_live (peer_of y past).table in
            named (delete_rkey on (trimmed setup payload x past) (keys_of x past).keys) (q ∙ ap (λ w. delete_rkey on (trimmed setup payload w past) (keys_of w past).keys) same)
            (idle-goes (no-withdraw d2) (deleting-group x (e ∷ past) sound-is d2) (trims-none y ev) (deleted (delete_rkey on (trimmed setup payload x past) (keys_of x past).keys)) (made-idle setup payload x past on (trimmed setup payload x past) (trimmed-idle setup payload x past)))
          where
            trims-none : (z : Side) → e.event ≡ Trim z → filter_map (lends x) e.posts ≡ []
            trims-none z ev = none (begins setup payload past before e made (states setup payload past all) (all-offers setup payload past all) x)
              where
                none : Begins setup payload x e past → filter_map (lends x) e.posts ≡ []
                none (BeginsNone n o) = n
                none (BeginsOne n) = absurd (let w : ClcEvent n.s (other x) ≡ Trim z = sym n.event_is ∙ ev in cc)
        by (ByTelling t h) = absurd (not-delete _ (message-of y B l _ m _ h) refl)
        by (ByAnswer t h) = absurd (not-delete _ (message-of y y l _ m _ h) refl)
        by (ByRefusal t h) = absurd (not-delete _ (message-of y y l _ m _ h) refl)
        by (ByRetry t h) = absurd (not-delete _ (message-of y y l _ m _ h) (key-reply-not true t.act.message (takes-says y e past ReplyRetry t).1.0))
        by (ByLearning t h) = absurd (not-delete _ (message-of y y l _ m _ h) (key-reply-not false t.act.message (takes-says y e past Learn t).0))
        by (ByForgetting t h) = named (delete_reply t.act.link (book_of y past) t.act.message) q (subst (λ ns. AreIdle setup payload x ns (e ∷ past)) (sym (delete-reply-is t.act.link (book_of y past) t.act.message says)) (goes-on d d2 (deleted t.act.message) idle))
          where
            q : m ≡ delete_reply t.act.link (book_of y past) t.act.message
            q = message-of y y l _ m _ h

            says : is_delete_request t.act.message ≡ true
            says = takes-says y e past Forget t

            replies : (n : LlcMessage) → is_delete_request n ≡ true → is_key_of x y (delete_reply t.act.link (book_of y past) n) ≡ true → y ≡ other x
            replies (DeleteRkey reply negative count mask keys) e k = same-is y (other x) k
            replies (ConfirmRkey reply retry negative others tokens) e k = absurd (true≢false (sym e))
            replies (ConfirmLink reply mac gid qp k user most) e h = absurd (true≢false (sym e))
            replies (AddLink reply rejected reason mac gid qp k mtu psn) e h = absurd (true≢false (sym e))
            replies (AddKeys reply k count keys) e h = absurd (true≢false (sym e))
            replies (DeleteLink reply every orderly k reason) e h = absurd (true≢false (sym e))
            replies (TestLink reply bytes) e h = absurd (true≢false (sym e))

            asker : other y ≡ x
            asker = ap other (replies t.act.message says (sym (ap (λ n. is_key_of x y n) q) ∙ kind)) ∙ other-other x

            land : HasLanded y past t.act
            land = has-landed setup payload past before e made y t.act t.is

            waits : IsWaiting t.act.link x t.act.message past
            waits = subst (λ w. IsWaiting t.act.link w t.act.message past) asker (landed-waited y past t.act land)

            idle : AreIdle setup payload x (deleted t.act.message) past
            idle = was.way t.act.link x t.act.message land.alive waits (request-kind x t.act.link t.act.message says)

            d : D past
            d = fits-deleting t.act.link.slot t.act.message (flow_of x past) (asks-delete t.act.message says) (waiting-fits x past keys t.act.link x t.act.message land.alive waits (request-kind x t.act.link t.act.message says))

    -- on links that are not dead
    way-after : (l : LinkId) (y : Side) (m : LlcMessage) → is_dead l (e ∷ past) ≡ false → IsWaiting l y m (e ∷ past) → key_kind x (record { from = y; link = l; message = m }) ≡ true → is_delete m ≡ true → is_of_keys m ≡ true → AreIdle setup payload x (deleted m) (e ∷ past)
    way-after l y m alive w kind dm km = by (waited-or-posted l y m e past w)
      where
        d2 : D (e ∷ past)
        d2 = fits-deleting l.slot m (flow_of x (e ∷ past)) dm (waiting-fits x (e ∷ past) keys_later l y m alive w kind)

        by : IsWaiting l y m past ⊎ IsAmong (Llc y l m) e.posts → AreIdle setup payload x (deleted m) (e ∷ past)
        by (inr i) = posted-idle d2 l y m dm km kind i
        by (inl w) =
            let alive_was = waited-alive e past grows flows.empty l y m w alive in
            goes-on (fits-deleting l.slot m (flow_of x past) dm (waiting-fits x past keys l y m alive_was w kind)) d2 (deleted m) (was.way l y m alive_was w kind)

    any-way : (l : LinkId) (y : Side) (m : LlcMessage) → is_dead l (e ∷ past) ≡ false → IsWaiting l y m (e ∷ past) → key_kind x (record { from = y; link = l; message = m }) ≡ true → AreIdle setup payload x (deleted m) (e ∷ past)
    any-way l y (DeleteRkey reply negative count mask keys) alive w kind = way-after l y (DeleteRkey reply negative count mask keys) alive w kind refl refl
    any-way l y (ConfirmRkey reply retry negative others tokens) alive w kind = λ n i. absurd i
    any-way l y (ConfirmLink reply mac gid qp k user most) alive w kind = λ n i. absurd i
    any-way l y (AddLink reply rejected reason mac gid qp k mtu psn) alive w kind = λ n i. absurd i
    any-way l y (AddKeys reply k count keys) alive w kind = λ n i. absurd i
    any-way l y (DeleteLink reply every orderly k reason) alive w kind = λ n i. absurd i
    any-way l y (TestLink reply bytes) alive w kind = λ n i. absurd i

    -- whether keys were deleted before, or a side has just begun
    deleted-before : D (e ∷ past) → D past ⊎ ((more : List Post) × (e.posts ≡ trim_post setup payload x past ∷ more))
    deleted-before d2 = by (key-turn setup payload past before e made x)
      where
        by : KeyTurn setup payload x e past → D past ⊎ ((more : List Post) × (e.posts ≡ trim_post setup payload x past ∷ more))
        by (KeyStays a b c) = inl (ap is_deleting (sym a) ∙ d2)
        by (KeyFree a) = absurd (true≢false (sym d2 ∙ ap is_deleting a))
        by (KeyRetries a) = absurd (true≢false (sym d2 ∙ ap is_deleting a))
        by (KeyAsks va) = absurd (true≢false (sym d2 ∙ ap is_deleting (asked-key setup payload x e past va)))
        by (KeyDeletes ev r more posts a) = inr (more, posts)
        by (KeyLoses k loss again) = inl (loss-deleting k (peer_of x past) (ap is_deleting (sym loss.key) ∙ d2))

    -- the last DELETE RKEY
    last-after : D (e ∷ past) → (m : LlcMessage) × ((last_delete x (e ∷ past) ≡ Some m) × AreIdle setup payload x (deleted m) (e ∷ past))
    last-after d2 = by (head (filter_map (delete_request x) e.posts)) refl
      where
        old : D past → head (filter_map (delete_request x) e.posts) ≡ None → (m : LlcMessage) × ((last_delete x (e ∷ past) ≡ Some m) × AreIdle setup payload x (deleted m) (e ∷ past))
        old d h = let last = was.last d in (last.0, (ap (λ o. option_or o (last_delete x past)) h ∙ last.1.0, goes-on d d2 (deleted last.0) last.1.1))

        new : (more : List Post) → e.posts ≡ trim_post setup payload x past ∷ more → head (filter_map (delete_request x) e.posts) ≡ None → ⊥
        new more posts h = none-is _ (sym h ∙ (ap (λ ps. head (filter_map (delete_request x) ps)) posts
            ∙ ap (λ b. head (cons_option (if b then Some (delete_rkey (lowest_live (peer_of x past).table) (trimmed setup payload x past) (keys_of x past).keys) else None) (filter_map (delete_request x) more))) (same-self x)))

        by : (o : Option LlcMessage) → head (filter_map (delete_request x) e.posts) ≡ o → (m : LlcMessage) × ((last_delete x (e ∷ past) ≡ Some m) × AreIdle setup payload x (deleted m) (e ∷ past))
        by None h = elim (deleted-before d2) [ inl d ↦ old d h | inr t ↦ absurd (new t.0 t.1 h) ]
        by (Some m) h = let r = request-in x e.posts m h in
            (m, (ap (λ o. option_or o (last_delete x past)) h, posted-idle d2 r.0 x m (asks-delete m r.1.1) (asks-keys m r.1.1) (request-kind x r.0 m r.1.1) r.1.0))

    -- the step
    pub deleting-after : AreDeleting setup payload x (e ∷ past)
    deleting-after = record { last = last-after; way = any-way }

  -- the keys that are withdrawn are of idle RMBs
  pub withdrawn-idle : (keys : HasKeyFlow x past) → AreDeleting setup payload x past → (t : Takes x e past Withdraw) → AreIdle setup payload x (deleted t.act.message) past
  withdrawn-idle keys was t =
      let land = has-landed setup payload past before e made x t.act t.is in
      was.way t.act.link (other x) t.act.message land.alive (landed-waited x past t.act land) (answer-kind x t.act.link t.act.message (takes-says x e past Withdraw t).0)

-- after every history
pub all-deleting : (setup : Setup) (payload : List ℕ) (past : List Entry) → IsMadeAll setup payload past → (x : Side) → AreDeleting setup payload x past
all-deleting setup payload [] m x = first x
  where
    first : (x : Side) → AreDeleting setup payload x []
    first A = record { last = λ d. absurd (true≢false (sym d)); way = λ l y n alive w k. absurd w.among }
    first B = record { last = λ d. absurd (true≢false (sym d)); way = λ l y n alive w k. absurd w.among }
all-deleting setup payload (e ∷ past) m x = by (all-flows setup payload past m.1) (all-flows setup payload (e ∷ past) m) (all-deleting setup payload past m.1 x)
  where
    by : HasAllFlows past → HasAllFlows (e ∷ past) → AreDeleting setup payload x past → AreDeleting setup payload x (e ∷ past)
    by was now it =
        let w : HasContact past = was.links in
        let n : HasContact (e ∷ past) = now.links in
        deleting-after setup payload past m.0.0 e m.0.1 m.1 x w.flows (was.keys x) (grows-of setup payload e past m) n.flows (now.keys x) it
