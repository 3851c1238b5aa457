-- What a side has learnt of its peer's keys is bound there: with each entry of a made history all is paid but what the answers to key requests owe.
use Rattle.std.proofs.Common.{List, [], ap, arith, inl, inr, refl, subst, sym, take, true, true≢false, ℕ, ◌∙◌, ◌∷◌, ◌≡◌, ◌≤◌, ◌⊎◌}
use Rattle.std.specs.Prelude.{None, Option, Some, filter_map, option_map, unwrap_or}
use Rattle.pipe_model.specs.Keys.{new_key}
use Rattle.std.specs.List.{cons_option}
use Rattle.pipe_model.specs.Fabric.{does}
use Rattle.history_laws.specs.Words.{A, AddKeys, AddLink, AskLink, B, ConfirmLink, ConfirmRkey, DeleteLink, DeleteRkey, Entry, Fabric, Key, Known, Learn, LinkId, LlcMessage, NewKey, ReplyKeys, Setup, Side, TestLink, at_slot, book_of, fabric, flow_of, is_asked, keys_of, known_rmb, link_at, link_or_none, named_slot, no_link, other, peer, stands, table_of}
use Rattle.history_laws.specs.Lists.{IsAmong}
use Rattle.history_laws.specs.Made.{IsMadeAll}
use Rattle.history_laws.proofs.Basics.{a-is-b, b-not-a, other-other}
use Rattle.link_laws.specs.StepSays.{is_ask_request, is_tell_answer, is_tell_request}
use Rattle.link_laws.specs.KeyChanges.{HasUse, told_by, told_keys}
use Rattle.link_laws.proofs.Sound.{found-slot}
use Rattle.link_laws.specs.Joined.{HasAllFlows, HasContact}
use Rattle.link_laws.proofs.Joined.{all-flows, has-contact}
use Rattle.link_laws.specs.UnderWay.{HasFlows}
use Rattle.link_laws.specs.Learnt.{IsNear, OwedByLinks}
use Rattle.link_laws.specs.FabricChanges.{Takes}
use Rattle.link_laws.proofs.Waiting.{HasLanded, has-landed}
use Rattle.link_laws.specs.OnWires.{IsWaiting}
use Rattle.link_laws.proofs.KeyMessages.{landed-waited, takes-says, waiting-fits}
use Rattle.link_laws.proofs.UnderWay.{both-stand}
use Rattle.link_laws.proofs.Fabric.{fabric-taken}
use Rattle.link_laws.specs.Linked.{AreLinked}
use Rattle.link_laws.specs.Covered.{wants_keys}
use Rattle.lending_laws.specs.Asking.{AreAsking, TellsOf}
use Rattle.lending_laws.proofs.Keys.{its-use, known-is, near-at, pairs-read, token-from}
use Rattle.lending_laws.specs.Telling.{AreTelling, TellsKnown, TellsNew}
use Rattle.lending_laws.specs.OwedKeys.{AllReplies, HasKeys, OwedByReplies, OwedByTold, OwedKeys, TakesKeys, TellsPairs}
use Rattle.lending_laws.specs.Tokens.{use_of}
use Rattle.lending_laws.proofs.Known.Requesting.{all-asking, ask-kind, ask-rkey, fits-asked, links-made, moves-made, requests-made}
use Rattle.lending_laws.proofs.Known.ToldMade.{first-made, key-made, offered-made}
use Rattle.lending_laws.proofs.Known.FlowsMade.{flows-made}
use Rattle.lending_laws.proofs.Known.Owed.{keys-none, keys-step}
use Rattle.lending_laws.proofs.Known.Telling.{telling-after}

-- the tokens of a request about an RMB tell its keys
tokens-of : (on : LinkId) (table : List Known) (slot rmb : ℕ) (m : LlcMessage) (book : List Key) → is_ask_request m ≡ true → TellsOf rmb m → (k : Key) → IsAmong k (told_keys on table slot m book) → k.rmb ≡ rmb
tokens-of on table slot rmb (ConfirmRkey reply retry negative others []) book is tells k i = absurd i
tokens-of on table slot rmb (ConfirmRkey reply retry negative others (t ∷ ts)) book is tells k (inl same) = ap (λ (j : Key). j.rmb) same ∙ tells.0
tokens-of on table slot rmb (ConfirmRkey reply retry negative others (t ∷ ts)) book is tells k (inr i) = let f = token-from table (take others ts) k i in f.1.1.1.0 ∙ tells.1 f.0 f.1.0
tokens-of on table slot rmb (DeleteRkey reply negative count mask keys) book is tells k i = absurd i
tokens-of on table slot rmb (ConfirmLink reply mac gid qp j user most) book is tells k i = absurd i
tokens-of on table slot rmb (AddLink reply rejected reason mac gid qp j mtu psn) book is tells k i = absurd (true≢false (sym is))
tokens-of on table slot rmb (AddKeys reply j count keys) book is tells k i = absurd (true≢false (sym is))
tokens-of on table slot rmb (DeleteLink reply every orderly j reason) book is tells k i = absurd i
tokens-of on table slot rmb (TestLink reply bytes) book is tells k i = absurd i

-- a key for a new link comes of an entry of the message, its RMB being known by the reference
new-from : (on link : LinkId) (book : List Key) (us : List NewKey) (k : Key) → IsAmong k (filter_map (new_key on link book) us) → (u : NewKey) × (IsAmong u us × ((k.key ≡ u.fresh) × ((known_rmb u.reference on book ≡ Some k.rmb) × (k.link ≡ link))))
new-from on link book [] k i = absurd i
new-from on link book (u ∷ us) k i = by (known_rmb u.reference on book) refl i (λ h. new-from on link book us k h)
  where
    by : (o : Option ℕ) → known_rmb u.reference on book ≡ o → IsAmong k (cons_option (option_map (λ rmb. let key : Key = record { key = u.fresh; rmb = rmb; link = link } in key) o) (filter_map (new_key on link book) us))
        → (IsAmong k (filter_map (new_key on link book) us) → (v : NewKey) × (IsAmong v us × ((k.key ≡ v.fresh) × ((known_rmb v.reference on book ≡ Some k.rmb) × (k.link ≡ link)))))
        → (v : NewKey) × (IsAmong v (u ∷ us) × ((k.key ≡ v.fresh) × ((known_rmb v.reference on book ≡ Some k.rmb) × (k.link ≡ link))))
    by None q h rest = let r = rest h in (r.0, (inr r.1.0, r.1.1))
    by (Some rmb) q (inl same) rest = (u, (inl refl, (ap (λ (j : Key). j.key) same, (q ∙ ap (λ (j : Key). Some j.rmb) (sym same), ap (λ (j : Key). j.link) same))))
    by (Some rmb) q (inr h) rest = let r = rest h in (r.0, (inr r.1.0, r.1.1))

-- the link of a slot is on it
named-slot-is : (j : ℕ) (table : List Known) (l : LinkId) → 1 ≤ l.slot → l ≡ link_or_none j table → l.slot ≡ j
named-slot-is j table l low same = test (at_slot j table) (λ n f. found-slot j n table f) same
  where
    test : (o : Option Known) → ((n : Known) → o ≡ Some n → n.link.slot ≡ j) → l ≡ unwrap_or (option_map (λ (n : Known). n.link) o) no_link → l.slot ≡ j
    test None each q = let zero : l.slot ≡ 0 = ap (λ (n : LinkId). n.slot) q in absurd (omega (arith, low, zero))
    test (Some n) each q = ap (λ (n : LinkId). n.slot) q ∙ each n refl

-- what A answers, as B reads it
answer-pairs : (past : List Entry) (l : LinkId) (m : LlcMessage) → is_tell_answer m ≡ true → TellsKnown l m past → TellsPairs l m (book_of B past) (keys_of A past).keys
answer-pairs past l (AddKeys reply j count us) is known = λ u i rmb q.
    let k = known-is u.reference l (book_of B past) rmb q in
    subst (λ r. HasUse (use_of u.fresh r j) (keys_of A past).keys) k.1.1.1.1 (known u i k.0 k.1.0 k.1.1.0 k.1.1.1.0)
answer-pairs past l (ConfirmRkey reply retry negative others tokens) is known = absurd (true≢false (sym is))
answer-pairs past l (DeleteRkey reply negative count mask keys) is known = absurd (true≢false (sym is))
answer-pairs past l (ConfirmLink reply mac gid qp j user most) is known = absurd (true≢false (sym is))
answer-pairs past l (AddLink reply rejected reason mac gid qp j mtu psn) is known = absurd (true≢false (sym is))
answer-pairs past l (DeleteLink reply every orderly j reason) is known = absurd (true≢false (sym is))
answer-pairs past l (TestLink reply bytes) is known = absurd (true≢false (sym is))

-- what B tells, as A reads it: bound at B
request-pairs : (past : List Entry) (l : LinkId) (m : LlcMessage) → HasKeys B past → stands l (table_of B past) ≡ true → is_tell_request m ≡ true → TellsNew l.slot m past → TellsPairs l m (book_of A past) (keys_of B past).keys
request-pairs past l (AddKeys reply j count us) keys s is new = pairs-read B past l reply j count us keys.told.known s new.pairs
request-pairs past l (ConfirmRkey reply retry negative others tokens) keys s is new = absurd (true≢false (sym is))
request-pairs past l (DeleteRkey reply negative count mask keys) all s is new = absurd (true≢false (sym is))
request-pairs past l (ConfirmLink reply mac gid qp j user most) keys s is new = absurd (true≢false (sym is))
request-pairs past l (AddLink reply rejected reason mac gid qp j mtu psn) keys s is new = absurd (true≢false (sym is))
request-pairs past l (DeleteLink reply every orderly j reason) keys s is new = absurd (true≢false (sym is))
request-pairs past l (TestLink reply bytes) keys s is new = absurd (true≢false (sym is))

-- and the very key
request-very : (past : List Entry) (l : LinkId) (m : LlcMessage) → is_tell_request m ≡ true → TellsNew l.slot m past → TellsPairs l m (book_of A past) (keys_of B past).keys
    → (k : Key) → IsAmong k (told_keys l (table_of A past) (named_slot m l.slot) m (book_of A past)) → 1 ≤ k.link.slot → link_at k.link.slot (table_of B past) ≡ Some k.link → IsAmong k (keys_of B past).keys
request-very past l (AddKeys reply j count us) is new pairs k i low at =
    let f = new-from l (link_or_none j (table_of A past)) (book_of A past) (take count us) k i in
    let slot = named-slot-is j (table_of A past) k.link low f.1.1.1.1 in
    let h = pairs f.0 f.1.0 k.rmb f.1.1.1.0 in
    let link = new.very f.0 f.1.0 h.key h.among h.number k.link (ap (λ s. link_at s (table_of B past)) (sym slot) ∙ at) in
    subst (λ n. IsAmong n (keys_of B past).keys) (ap (λ n. record { key = n; rmb = h.key.rmb; link = h.key.link }) (h.number ∙ sym f.1.1.0)
    ∙ (ap (λ r. record { key = k.key; rmb = r; link = h.key.link }) h.of ∙ ap (λ q. record { key = k.key; rmb = k.rmb; link = q }) link)) h.among
request-very past l (ConfirmRkey reply retry negative others tokens) is new pairs k i low at = absurd (true≢false (sym is))
request-very past l (DeleteRkey reply negative count mask keys) is new pairs k i low at = absurd (true≢false (sym is))
request-very past l (ConfirmLink reply mac gid qp j user most) is new pairs k i low at = absurd (true≢false (sym is))
request-very past l (AddLink reply rejected reason mac gid qp j mtu psn) is new pairs k i low at = absurd (true≢false (sym is))
request-very past l (DeleteLink reply every orderly j reason) is new pairs k i low at = absurd (true≢false (sym is))
request-very past l (TestLink reply bytes) is new pairs k i low at = absurd (true≢false (sym is))

module _ (setup : Setup) (payload : List ℕ) (e : Entry) (past : List Entry) (m : IsMadeAll setup payload (e ∷ past)) (was : (z : Side) → HasKeys z past) (telling : AreTelling past) where
  all : HasAllFlows past
  all = all-flows setup payload past m.1

  flows : HasFlows past
  flows = let c : HasContact past = has-contact setup payload past m.1 in c.flows

  links : OwedByLinks e past
  links = links-made setup payload e past m

  -- a CONFIRM RKEY that lands waited
  module _ (x : Side) (t : Takes (other x) e past Learn) where
    land : HasLanded (other x) past t.act
    land = has-landed setup payload past m.0.0 e m.0.1 (other x) t.act t.is

    waits : IsWaiting t.act.link x t.act.message past
    waits = subst (λ z. IsWaiting t.act.link z t.act.message past) (other-other x) (landed-waited (other x) past t.act land)

    asks : is_ask_request t.act.message ≡ true
    asks = (takes-says (other x) e past Learn t).0

    asking : AreAsking x past
    asking = all-asking setup payload past m.1 x

    unconfirmed : (k : Key) → IsAmong k (told_by (other x) t.act t.act.link.slot past) → IsAmong k.rmb (keys_of x past).confirmed → ⊥
    unconfirmed k i c = asking.unconfirmed is_out (subst (λ r. IsAmong r (keys_of x past).confirmed) rmb c)
      where
        is_out : is_asked (flow_of x past).key ≡ true
        is_out = fits-asked t.act.link.slot t.act.message (flow_of x past) (ask-rkey t.act.message asks) (waiting-fits x past (all.keys x) t.act.link x t.act.message land.alive waits (ask-kind x t.act.link t.act.message asks))

        rmb : k.rmb ≡ (flow_of x past).rmb
        rmb = tokens-of t.act.link (table_of (other x) past) t.act.link.slot (flow_of x past).rmb t.act.message (book_of (other x) past) asks (asking.way t.act.link t.act.message land.alive waits asks).1 k i

  -- A's answer, as B takes it
  module _ (t : TakesKeys B e past) where
    asks-link : t.act.step ≡ AskLink
    asks-link = by t.does
      where
        by : (t.act.step ≡ AskLink) ⊎ (t.act.step ≡ ReplyKeys true) → t.act.step ≡ AskLink
        by (inl d) = d
        by (inr d) = absurd (b-not-a (takes-says B e past (ReplyKeys true) (record { act = t.act; is = t.is; does = d })).0)

    abbrev answered : Takes B e past AskLink
    answered = record { act = t.act; is = t.is; does = asks-link }

    land-b : HasLanded B past t.act
    land-b = has-landed setup payload past m.0.0 e m.0.1 B t.act t.is

    pairs-a : TellsPairs t.act.link t.act.message (book_of B past) (keys_of A past).keys
    pairs-a = let says = (takes-says B e past AskLink answered).1.0 in answer-pairs past t.act.link t.act.message says (telling.answers t.act.link t.act.message land-b.alive (landed-waited B past t.act land-b) says)

  -- B's keys, as A takes them
  module _ (t : TakesKeys A e past) where
    replies-known : t.act.step ≡ ReplyKeys true
    replies-known = by t.does
      where
        by : (t.act.step ≡ AskLink) ⊎ (t.act.step ≡ ReplyKeys true) → t.act.step ≡ ReplyKeys true
        by (inr d) = d
        by (inl d) = absurd (a-is-b (takes-says A e past AskLink (record { act = t.act; is = t.is; does = d })).0)

    abbrev seen : Takes A e past (ReplyKeys true)
    seen = record { act = t.act; is = t.is; does = replies-known }

    land-a : HasLanded A past t.act
    land-a = has-landed setup payload past m.0.0 e m.0.1 A t.act t.is

    tells : is_tell_request t.act.message ≡ true
    tells = (takes-says A e past (ReplyKeys true) seen).1.0

    new : TellsNew t.act.link.slot t.act.message past
    new = telling.asks t.act.link t.act.message land-a.alive (landed-waited A past t.act land-a) tells

    pairs-b : TellsPairs t.act.link t.act.message (book_of A past) (keys_of B past).keys
    pairs-b = request-pairs past t.act.link t.act.message (was B) (both-stand t.act.link past land-a.alive).at_b tells new

    table-b : table_of B (e ∷ past) ≡ table_of B past
    table-b = ap (λ (f : Fabric). f.b.table) (fabric-taken A e past seen.act seen.is ∙ ap (λ v. does A t.act.link t.act.message v (fabric past)) seen.does)

    very-b : (k : Key) → IsAmong k (told_by A t.act (named_slot t.act.message t.act.link.slot) past) → IsNear B k.link (e ∷ past) → IsAmong k (keys_of B past).keys
    very-b k i near =
        let at = near-at B e past links k.link near in
        request-very past t.act.link t.act.message tells new pairs-b k i at.0 (ap (λ tb. link_at k.link.slot tb) (sym table-b) ∙ at.1)

  -- what is owed of the messages that tell keys
  told-owed : (x : Side) → OwedByTold x e past
  told-owed x = record {
    latest = let l : AreLinked (fabric past) flows.under = flows.linked in l.latest (other x);
    lands = λ act is. (has-landed setup payload past m.0.0 e m.0.1 (other x) act is).last;
    offered = λ o t. offered-made setup payload e past m (other x) o t;
    request = λ t. ((asking x t).way t.act.link t.act.message (land x t).alive (waits x t) (asks x t)).0;
    unconfirmed = λ t k i c. unconfirmed x t k i c;
    pairs = pairs x;
    adding = adding x;
    told = λ o t s. its-use _ (keys_of x past).keys (key-made setup payload e past m x o t (inl s));
    exact = λ o t c n. key-made setup payload e past m x o t n;
    first = λ b k i n. first-made setup payload e past m x b (was x).told.made k i n;
  }
    where
      pairs : (x : Side) (t : TakesKeys (other x) e past) → TellsPairs t.act.link t.act.message (book_of (other x) past) (keys_of x past).keys
      pairs A t = pairs-a t
      pairs B t = pairs-b t

      adding : (x : Side) (t : TakesKeys (other x) e past) → (wants_keys x (named_slot t.act.message t.act.link.slot) (peer x (fabric past)) ≡ true)
          ⊎ ((k : Key) → IsAmong k (told_by (other x) t.act (named_slot t.act.message t.act.link.slot) past) → IsAmong k.rmb (keys_of x past).confirmed → IsNear x k.link (e ∷ past) → IsAmong k (keys_of x past).keys)
      adding A t = inl refl
      adding B t = inr (λ k i c n. very-b t k i n)

  -- all that is owed but for what the answers to key requests owe
  owed-made : (x : Side) → OwedByReplies x e past → OwedKeys x e past
  owed-made x replies = record {
    under = links.under;
    linked = links.linked;
    moves = moves-made setup payload e past m;
    flows = flows-made setup payload e past m;
    requests = requests-made setup payload e past m x (all-asking setup payload past m.1 x);
    told = told-owed x;
    replies = replies;
  }

-- after every history
pub record AreAllKnown (past : List Entry) : Type 0 where
  pub keys : (x : Side) → HasKeys x past
  pub telling : AreTelling past

pub all-known : (setup : Setup) (payload : List ℕ) (past : List Entry) → IsMadeAll setup payload past → AllReplies past → AreAllKnown past
all-known setup payload [] m owed = record { keys = keys-none; telling = record { asks = λ l n alive w is. absurd w.among; answers = λ l n alive w is. absurd w.among } }
all-known setup payload (e ∷ past) m owed = by (all-known setup payload past m.1 owed.1)
  where
    by : AreAllKnown past → AreAllKnown (e ∷ past)
    by was = record { keys = keys; telling = telling-after setup payload e past m was.telling (keys B).covered (was.keys A).covered (was.keys A).told.known (owed.0 A).forgotten }
      where
        keys : (x : Side) → HasKeys x (e ∷ past)
        keys x = keys-step x e past (owed-made setup payload e past m was.keys was.telling x (owed.0 x)) (was.keys x)
