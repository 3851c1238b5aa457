-- Which messages that tell or name keys an entry posts, and what becomes of a side's key flow with it: once, for all nineteen events.
use Rattle.std.proofs.Common.{Bool, List, None, Some, [], ap, false, if◌then◌else◌, inl, inr, not, refl, subst, sym, true, true≢false, ℕ, ◌&&◌, ◌++◌, ◌==◌, ◌||◌, ◌∙◌, ◌∷◌, ◌≡◌, ◌⊎◌}
use Rattle.pipe_model.specs.declared.post.Post.TheVariants.{Clc, Write}
use Rattle.pipe_model.specs.Fabric.{does, lands as fabric_lands, loses}
use Rattle.pipe_model.specs.History.{sender}
use Rattle.pipe_model.specs.declared.flow.KeyPhase.TheVariants.{Asked, Free, Retry as RetryWaits}
use Rattle.pipe_model.specs.declared.reply.SentKind.TheVariants.{Accept as AcceptSent, AddLink as AddLinkSent, Confirm as ConfirmSent, DeleteRkey as DeleteSent, ConfirmRkey as KeySent, ConfirmLink as LinkSent, TestLink as TestSent}
use Rattle.pipe_model.specs.Flows.{LinkSent}
use Rattle.pipe_model.specs.Replies.{ready_told, told}
use Rattle.pipe_model.specs.Messages.{drop_reply, echo}
use Rattle.pipe_model.specs.declared.flow.FlowStep.TheVariants.{Answered, Confirmed, Live}
use Rattle.pipe_model.specs.declared.event.Event.TheVariants.{Clc as ClcEvent, Raw, Write as WriteEvent}
use Rattle.pipe_model.specs.declared.reply.Reply.TheVariants.{Idle, Sent}
use Rattle.std.specs.Prelude.{Option, is_some, option_map, slice_index_or, unwrap_or}
use Rattle.pipe_model.specs.Lawful.{asked}
use Rattle.clc_wire.specs.declared.message.ClcMessage.TheVariants.{Accept as AcceptMessage, Confirm as ConfirmMessage, Decline as DeclineMessage, Proposal as ProposalMessage}
use Rattle.pipe_model.specs.Wires.{landing}
use Rattle.pipe_model.specs.declared.reply.Hold.TheVariants.{AddLink as AddLinkHold, ConfirmRkey as ConfirmRkeyHold, DeleteRkey as DeleteRkeyHold, FirstContact as FirstContactHold, TestLink as TestLinkHold}
use Rattle.history_laws.specs.Words.{A, Abandoned, Abort, Act, AddKeys, AddLink, AddSeen, AddSent, AskKey, AskLink, Await, B, BadClc, Cdc, ClcMessage, ClcStep, Close, Complete, ConfirmLink, ConfirmRkey, Cut, Decline, Declined, DeleteLink, DeleteRkey, Deleting, Deliver, Done, Drop, Dropped, Echo, Entry, Established, Event, Fabric, Faulty, Fell, FellBack, Finish, FirstContact, Flow, FlowStep, Forget, Front, Gone, GroupEnded, Grow, Heal, Held, KeyPhase, KeysSent, Landed, Learn, LinkFlow, LinkId, Llc, LlcMessage, Lost, Move, NameUsed, NoFlow, NoMessage, NotCapable, Open, Opened, Over, Peer, Placed, Post, Read, Ready, Reject, Reply, ReplyAdd, ReplyKeys, ReplyRetry, Report, Reset, Retry, SendAccept, SendConfirm, SendKeys, Setup, Side, Skip, Swallow, Test, TestLink, Trim, Wait, Whole, Withdraw, Wrong, accept_post, act_by, act_in, act_of, act_posts, add_again, after_answer, begins_delete, begins_test, clc_posts, clc_step, clc_told, confirm_link, confirm_post, connection_posts, dead_at, deleting_rmbs, deliver_told, draft, drop_posts, end_state, ends_group, expects, fabric, fewest, first_link, flow_after, flow_of, flow_slot, front, front_posts, front_told, goes_on, group_of, group_on, grow_post, grow_to, grow_told, has, head, is_adding, is_asked, is_asking_or_waiting, is_deleting, is_dropping, is_first_contact, is_live, is_nil, is_opened, is_raw, key_again, keys_of, lands_told, link_or_none, llc_step, loss_posts, lost_link, lowest_live, named_link, named_slot, next_free, no_link, open_slots, open_told, other, pair_on, peer, peer_of, phase_at, post_at, proposal_post, ready_posts, record_of, refusal, reply_of, report_posts, report_told, reports, resends_add, resends_key, rkey_post, standing_at, step_posts, step_told, table_of, test_post, test_told, trim_post, trim_told, trimmed, with_flow, with_peer, without_slot}
use Rattle.history_laws.specs.Posts.{AreData}
use Rattle.history_laws.specs.Lists.{IsAmong}
use Rattle.history_laws.proofs.Basics.{b-not-a, by-side, none-is, other-other, some-is}
use Rattle.history_laws.specs.Made.{IsMade}
use Rattle.history_laws.proofs.Posts.{connections-data}
use Rattle.link_laws.specs.Posted.{AddsFrom, AreSilent, AsksAgain, ByAnswer, ByForgetting, ByLearning, ByLoss, ByRefusal, ByRetry, ByTelling, ByTrim, ByVerdict, DeletesAgain, IsLike, KeyAsks, KeyDeletes, KeyFree, KeyLoses, KeyRetries, KeyStays, KeyTurn, KeysPosted, Loss, PostedAgain, TellsAgain, VerdictAsks, is_keys_post, is_of_keys, is_silent}
use Rattle.link_laws.proofs.KeyMessages.OnWires.{among-append}
use Rattle.link_laws.proofs.Keys.{among-left, right-among}
use Rattle.link_laws.specs.StepSays.{StepSays, is_drop_message, is_test_message}
use Rattle.link_laws.specs.KeyChanges.{changes_keys}
use Rattle.link_laws.specs.FabricChanges.{Takes}
use Rattle.link_laws.proofs.KeyMessages.StepSays.{act-says}
use Rattle.link_laws.proofs.Contact.{acted, acts-is, is_new}
use Rattle.link_laws.proofs.Requests.{peer-with}
use Rattle.link_laws.specs.Linked.{is_open_key}
use Rattle.link_laws.proofs.UnderWay.{IsLanding, landing-is}

-- data tell no keys
data-not : (ps : List Post) → AreData ps → (post : Post) → IsAmong post ps → is_keys_post post ≡ true → ⊥
data-not [] d post i k = i
data-not (Write from link key address len ∷ ps) d post i k = elim i [ inl h ↦ true≢false (sym k ∙ ap is_keys_post h) | inr h ↦ data-not ps d.1 post h k ]
data-not (Cdc from link m ∷ ps) d post i k = elim i [ inl h ↦ true≢false (sym k ∙ ap is_keys_post h) | inr h ↦ data-not ps d.1 post h k ]
data-not (Llc from link m ∷ ps) d post i k = true≢false (sym d.0)
data-not (Clc from s link m ∷ ps) d post i k = true≢false (sym d.0)

-- nor does a list of one other post
one-not : (p post : Post) → is_keys_post p ≡ false → IsAmong post (p ∷ []) → is_keys_post post ≡ true → ⊥
one-not p post n (inl h) k = true≢false (sym k ∙ (ap is_keys_post h ∙ n))
one-not p post n (inr h) k = h

one-is : (p post : Post) → IsAmong post (p ∷ []) → post ≡ p
one-is p post (inl h) = h
one-is p post (inr h) = absurd h

among-if : (b : Bool) (p post : Post) → IsAmong post (if b then p ∷ [] else []) → (b ≡ true) × (post ≡ p)
among-if true p post i = (refl, one-is p post i)
among-if false p post i = absurd i

append-assoc : {X : Type 0} (xs ys zs : List X) → (xs ++ ys) ++ zs ≡ xs ++ (ys ++ zs)
append-assoc [] ys zs = refl
append-assoc (x ∷ xs) ys zs = ap (λ ws. x ∷ ws) (append-assoc xs ys zs)

-- what a side posts again of keys as it loses a link
again-from : (setup : Setup) (x : Side) (k : ℕ) (own : Bool) (past : List Entry) (post : Post) → is_keys_post post ≡ true → IsAmong post (loss_posts setup x k own (loses k (peer_of x past)) (flow_of x past) past)
    → (((loses k (peer_of x past)).group == 0) ≡ false) × (PostedAgain setup x k past (loss_posts setup x k own (loses k (peer_of x past)) (flow_of x past) past) post × (sender post ≡ x))
again-from setup x k own past post is i = by ((loses k (peer_of x past)).group == 0) refl i
  where
    drops : List Post
    drops = drop_posts x k own (loses k (peer_of x past))

    added_posts : List Post
    added_posts = if resends_add k (flow_of x past).link then add_again x (loses k (peer_of x past)) (keys_of x past) (pair_on x (flow_slot (flow_of x past).link) past) (flow_of x past).link else []

    again : Post
    again = key_again x (loses k (peer_of x past)) (keys_of x past).keys (deleting_rmbs setup x past) (flow_of x past).key

    all : List Post
    all = loss_posts setup x k own (loses k (peer_of x past)) (flow_of x past) past

    silent-drops : (b : Bool) (p : Post) → is_silent p ≡ true → AreSilent (if b then p ∷ [] else [])
    silent-drops true p h = (h, tt)
    silent-drops false p h = tt

    -- where it stands among them
    split : ((loses k (peer_of x past)).group == 0) ≡ false → resends_key k (flow_of x past) ≡ true → post ≡ again → all ≡ drops ++ post ∷ added_posts
    split some r h = ap (λ b. if b then [] else ((drops ++ (if resends_key k (flow_of x past) then again ∷ [] else [])) ++ added_posts)) some
        ∙ (ap (λ b. (drops ++ (if b then again ∷ [] else [])) ++ added_posts) r
        ∙ (append-assoc drops (again ∷ []) added_posts ∙ ap (λ p. drops ++ p ∷ added_posts) (sym h)))

    keyed : ((loses k (peer_of x past)).group == 0) ≡ false → (phase : KeyPhase) → (flow_of x past).key ≡ phase → (is_asked phase || is_deleting phase) ≡ true → resends_key k (flow_of x past) ≡ true → post ≡ key_again x (loses k (peer_of x past)) (keys_of x past).keys (deleting_rmbs setup x past) phase → PostedAgain setup x k past all post × (sender post ≡ x)
    keyed some Asked e r a h = (AsksAgain e a h drops added_posts (split some a (h ∙ ap (λ q. key_again x (loses k (peer_of x past)) (keys_of x past).keys (deleting_rmbs setup x past) q) (sym e))) (silent-drops (own && not (is_dropping k (loses k (peer_of x past)).flow)) _ refl), ap sender h)
    keyed some Deleting e r a h = (DeletesAgain e a h, ap sender h)
    keyed some Free e r a h = absurd (true≢false (sym r))
    keyed some RetryWaits e r a h = absurd (true≢false (sym r))

    first : (a b : Bool) → (a && b) ≡ true → a ≡ true
    first true b e = refl
    first false b e = e

    added : (flow : LinkFlow) → (flow_of x past).link ≡ flow → (b : Bool) → resends_add k flow ≡ b → IsAmong post (if b then add_again x (loses k (peer_of x past)) (keys_of x past) (pair_on x (flow_slot (flow_of x past).link) past) flow else []) → PostedAgain setup x k past all post × (sender post ≡ x)
    added (KeysSent j on) e true r h = let s = one-is _ post h in (TellsAgain j on e r s, ap sender s)
    added (AddSent j on) e true r h = absurd (one-not _ post refl h is)
    added NoFlow e true r h = absurd h
    added FirstContact e true r h = absurd h
    added (LinkSent j) e true r h = absurd h
    added (Abandoned on) e true r h = absurd h
    added (AddSeen j) e true r h = absurd h
    added flow e false r h = absurd h

    parts : ((loses k (peer_of x past)).group == 0) ≡ false → IsAmong post ((drops ++ (if resends_key k (flow_of x past) then again ∷ [] else [])) ++ added_posts) → PostedAgain setup x k past all post × (sender post ≡ x)
    parts some i = elim (among-append post (drops ++ (if resends_key k (flow_of x past) then again ∷ [] else [])) added_posts i) [
      | inl h ↦ elim (among-append post drops _ h) [
        | inl d ↦ absurd (let w = among-if (own && not (is_dropping k (loses k (peer_of x past)).flow)) _ post d in true≢false (sym is ∙ ap is_keys_post w.1))
        | inr g ↦ (let w = among-if (resends_key k (flow_of x past)) again post g in keyed some (flow_of x past).key refl (first (is_asked (flow_of x past).key || is_deleting (flow_of x past).key) _ w.0) w.0 w.1)
      ]
      | inr h ↦ added (flow_of x past).link refl (resends_add k (flow_of x past).link) refl h
    ]

    by : (b : Bool) → ((loses k (peer_of x past)).group == 0) ≡ b → IsAmong post (if b then [] else ((drops ++ (if resends_key k (flow_of x past) then again ∷ [] else [])) ++ added_posts)) → (((loses k (peer_of x past)).group == 0) ≡ false) × (PostedAgain setup x k past all post × (sender post ≡ x))
    by true g i = absurd i
    by false g i = (g, parts g i)

-- among more posts
again-wider : (setup : Setup) (x : Side) (k : ℕ) (past : List Entry) (post : Post) (pre ps rest all : List Post) → AreSilent pre → all ≡ pre ++ (ps ++ rest) → PostedAgain setup x k past ps post → PostedAgain setup x k past all post
again-wider setup x k past post pre ps rest all silent is (DeletesAgain e a h) = DeletesAgain e a h
again-wider setup x k past post pre ps rest all silent is (TellsAgain j on e r h) = TellsAgain j on e r h
again-wider setup x k past post pre ps rest all silent is (AsksAgain e a h before after split quiet) = AsksAgain e a h (pre ++ before) (after ++ rest)
    (is ∙ (ap (λ qs. pre ++ (qs ++ rest)) split ∙ (ap (λ qs. pre ++ qs) (append-assoc before (post ∷ after) rest) ∙ sym (append-assoc pre before (post ∷ (after ++ rest))))))
    (silent-append pre before silent quiet)
  where
    silent-append : (ps qs : List Post) → AreSilent ps → AreSilent qs → AreSilent (ps ++ qs)
    silent-append [] qs p q = q
    silent-append (r ∷ ps) qs p q = (p.0, silent-append ps qs p.1 q)

-- the key request that is posted again is among the posts of a loss
again-in : (setup : Setup) (x : Side) (k : ℕ) (own : Bool) (past : List Entry) → ((loses k (peer_of x past)).group == 0) ≡ false → resends_key k (flow_of x past) ≡ true
    → IsAmong (key_again x (loses k (peer_of x past)) (keys_of x past).keys (deleting_rmbs setup x past) (flow_of x past).key) (loss_posts setup x k own (loses k (peer_of x past)) (flow_of x past) past)
again-in setup x k own past some again = subst (λ b. IsAmong post (if b then [] else (drops ++ asked_again) ++ added)) (sym some) (among-left post (drops ++ asked_again) added (right-among post drops asked_again (subst (λ b. IsAmong post (if b then post ∷ [] else [])) (sym again) (inl refl))))
  where
    post : Post
    post = key_again x (loses k (peer_of x past)) (keys_of x past).keys (deleting_rmbs setup x past) (flow_of x past).key

    drops : List Post
    drops = drop_posts x k own (loses k (peer_of x past))

    asked_again : List Post
    asked_again = if resends_key k (flow_of x past) then post ∷ [] else []

    added : List Post
    added = if resends_add k (flow_of x past).link then add_again x (loses k (peer_of x past)) (keys_of x past) (pair_on x (flow_slot (flow_of x past).link) past) (flow_of x past).link else []

-- a report is the loss of a link, but for the request to delete it
like-same : (q : Peer) → IsLike q q
like-same q = record { group = refl; table = refl; link = refl; key = refl; rmb = refl; told = refl }

like-dropping : (q : Peer) (b c : Bool) (ds : List Drop) → IsLike (if b then q else record q { flow = if c then q.flow else record q.flow { drops = ds } }) q
like-dropping q true c ds = like-same q
like-dropping q false true ds = like-same q
like-dropping q false false ds = record { group = refl; table = refl; link = refl; key = refl; rmb = refl; told = refl }

report-is : (x : Side) (k : ℕ) (e : Entry) (past : List Entry) → peer x (fabric (e ∷ past)) ≡ reports k (peer x (fabric past)) → Loss x k e past
report-is x k e past is = subst (λ p. IsLike p (loses k (peer_of x past))) (sym is) (like-dropping (loses k (peer_of x past)) ((loses k (peer_of x past)).group == 0) (is_dropping k (loses k (peer_of x past)).flow) _)

-- so is a DELETE LINK that counts as one
gone-is : (x : Side) (act : Act) (e : Entry) (past : List Entry) → fabric (e ∷ past) ≡ does x act.link act.message (Gone true) (fabric past) → Loss x (named_slot act.message act.link.slot) e past
gone-is x act e past is = subst (λ p. IsLike p (loses (named_slot act.message act.link.slot) (peer_of x past))) (sym (ap (peer x) is ∙ by x)) (like-same _)
  where
    by : (z : Side) → peer z (does z act.link act.message (Gone true) (fabric past)) ≡ loses (named_slot act.message act.link.slot) (peer z (fabric past))
    by A = refl
    by B = refl

other-peer : (x : Side) (q : Peer) (f : Fabric) → peer (other x) (with_peer x q f) ≡ peer (other x) f
other-peer A q f = refl
other-peer B q f = refl

either-side : (x z : Side) → (z ≡ x) ⊎ (z ≡ other x)
either-side A A = inl refl
either-side A B = inr refl
either-side B A = inr refl
either-side B B = inl refl

-- answers to requests to delete and to test change no key flow
answer-key : (m : LlcMessage) (landed : ℕ) (f : Flow) → ((after_answer m landed f).key ≡ f.key) × ((after_answer m landed f).rmb ≡ f.rmb)
answer-key (ConfirmLink reply mac gid qp k user most) landed f = (refl, refl)
answer-key (AddLink reply rejected reason mac gid qp k mtu psn) landed f = (refl, refl)
answer-key (AddKeys reply k count keys) landed f = (refl, refl)
answer-key (DeleteLink reply every orderly k reason) landed f = (refl, refl)
answer-key (ConfirmRkey reply retry negative others tokens) landed f = (refl, refl)
answer-key (TestLink reply bytes) landed f = (refl, refl)
answer-key (DeleteRkey reply negative count mask keys) landed f = (refl, refl)

drop-not : (m : LlcMessage) → is_drop_message m ≡ true → is_of_keys (drop_reply m) ≡ false
drop-not (DeleteLink reply every orderly k reason) e = refl
drop-not (ConfirmLink reply mac gid qp k user most) e = absurd (true≢false (sym e))
drop-not (AddLink reply rejected reason mac gid qp k mtu psn) e = absurd (true≢false (sym e))
drop-not (AddKeys reply k count keys) e = absurd (true≢false (sym e))
drop-not (ConfirmRkey reply retry negative others tokens) e = absurd (true≢false (sym e))
drop-not (TestLink reply bytes) e = absurd (true≢false (sym e))
drop-not (DeleteRkey reply negative count mask keys) e = absurd (true≢false (sym e))

echo-not : (m : LlcMessage) → is_test_message m ≡ true → is_of_keys (echo m) ≡ false
echo-not (TestLink reply bytes) e = refl
echo-not (ConfirmLink reply mac gid qp k user most) e = absurd (true≢false (sym e))
echo-not (AddLink reply rejected reason mac gid qp k mtu psn) e = absurd (true≢false (sym e))
echo-not (AddKeys reply k count keys) e = absurd (true≢false (sym e))
echo-not (DeleteLink reply every orderly k reason) e = absurd (true≢false (sym e))
echo-not (ConfirmRkey reply retry negative others tokens) e = absurd (true≢false (sym e))
echo-not (DeleteRkey reply negative count mask keys) e = absurd (true≢false (sym e))

-- a landed message, by its step
module _ (setup : Setup) (payload : List ℕ) (e : Entry) (past : List Entry) (y : Side) (act : Act) (is : act_in y e past ≡ Some act) (changed : fabric (e ∷ past) ≡ does y act.link act.message act.step (fabric past)) (more : List Post) (posts_are : e.posts ≡ step_posts setup y act.link act.message past act.step ++ more) where
  abbrev slot : ℕ
  slot = named_slot act.message act.link.slot

  -- a step that changes no keys
  unchanged : (st : FlowStep) → act.step ≡ st → changes_keys st ≡ false → (step : FlowStep) → changes_keys step ≡ true → Takes y e past step → ⊥
  unchanged st d n step c t = true≢false (sym (ap changes_keys (sym d ∙ (ap (λ (a : Act). a.step) (some-is act t.act (sym is ∙ t.is)) ∙ t.does)) ∙ c) ∙ n)

  -- what it posts of keys
  step-posts : (post : Post) → is_keys_post post ≡ true → IsAmong post (step_posts setup y act.link act.message past act.step) → KeysPosted setup payload e past y post × (sender post ≡ y)
  step-posts post k i = at act.step refl (act-says y e past act is) i
    where
      at : (st : FlowStep) → act.step ≡ st → StepSays y (flow_of y past).link (flow_of y past).key act.message act.link.slot st → IsAmong post (step_posts setup y act.link act.message past st) → KeysPosted setup payload e past y post × (sender post ≡ y)
      at (Live true first) d says i = absurd (one-not _ post refl i k)
      at (Live false first) d says i = absurd i
      at SendKeys d says i = let h = one-is _ post i in (ByTelling (record { act = act; is = is; does = d }) h, ap sender h ∙ sym says.0)
      at AskLink d says i = absurd (one-not _ post refl i k)
      at (ReplyKeys true) d says i = let h = one-is _ post i in (ByAnswer (record { act = act; is = is; does = d }) h, ap sender h)
      at (ReplyKeys false) d says i = let h = one-is _ post i in (ByRefusal (record { act = act; is = is; does = d }) h, ap sender h)
      at (ReplyAdd again) d says i = absurd (one-not _ post refl i k)
      at Reject d says i = absurd (one-not _ post refl i k)
      at ReplyRetry d says i = let h = one-is _ post i in (ByRetry (record { act = act; is = is; does = d }) h, ap sender h)
      at Learn d says i = let h = one-is _ post i in (ByLearning (record { act = act; is = is; does = d }) h, ap sender h)
      at Forget d says i = let h = one-is _ post i in (ByForgetting (record { act = act; is = is; does = d }) h, ap sender h)
      at (Gone false) d says i = absurd (one-not _ post (drop-not act.message says) i k)
      at (Gone true) d says (inl h) = absurd (true≢false (sym k ∙ (ap is_keys_post h ∙ drop-not act.message says)))
      at (Gone true) d says (inr h) = let a = again-from setup y slot false past post k h in (
        ByLoss slot (gone-is y act e past (changed ∙ ap (λ v. does y act.link act.message v (fabric past)) d)) a.0 (unchanged (Gone true) d refl)
            (again-wider setup y slot past post (Llc y act.link (drop_reply act.message) ∷ []) (report_posts setup y slot false past) more e.posts (ap not (drop-not act.message says), tt) (posts_are ∙ ap (λ v. step_posts setup y act.link act.message past v ++ more) d) a.1.0),
        a.1.1,
      )
      at Echo d says i = absurd (one-not _ post (echo-not act.message says) i k)
      at Skip d says i = absurd i
      at Over d says i = absurd i
      at Confirmed d says i = absurd i
      at Retry d says i = absurd i
      at Withdraw d says i = absurd i
      at Answered d says i = absurd i

  abbrev before : Peer
  before = peer y (fabric past)

  abbrev flowed : FlowStep → Peer
  flowed st = with_flow (flow_after st act.message act.link.slot (lowest_live before.table)) before

  -- the side where it lands, for a step that makes no link
  own-old : (st : FlowStep) → act.step ≡ st → is_new st ≡ false → peer y (fabric (e ∷ past)) ≡ acted act.link act.message st (flowed st)
  own-old st d n = ap (peer y) (changed ∙ (ap (λ v. does y act.link act.message v (fabric past)) d ∙ acts-is y act.link act.message st (flowed st) (fabric past) n)) ∙ peer-with y (acted act.link act.message st (flowed st)) (fabric past)

  stays : (st : FlowStep) → act.step ≡ st → is_new st ≡ false → ((acted act.link act.message st (flowed st)).flow.key ≡ before.flow.key) → ((acted act.link act.message st (flowed st)).flow.rmb ≡ before.flow.rmb) → ((acted act.link act.message st (flowed st)).told ≡ before.told) → KeyTurn setup payload y e past
  stays st d n a b c = KeyStays (ap (λ (p : Peer). p.flow.key) (own-old st d n) ∙ a) (ap (λ (p : Peer). p.flow.rmb) (own-old st d n) ∙ b) (ap (λ (p : Peer). p.told) (own-old st d n) ∙ c)

  own-new : act.step ≡ ReplyAdd false → KeyTurn setup payload y e past
  own-new d = KeyStays (ap (λ (f : Fabric). (peer y f).flow.key) is-new ∙ key y) (ap (λ (f : Fabric). (peer y f).flow.rmb) is-new ∙ rmb y) (ap (λ (f : Fabric). (peer y f).told) is-new ∙ told-is y)
    where
      is-new : fabric (e ∷ past) ≡ does y act.link act.message (ReplyAdd false) (fabric past)
      is-new = changed ∙ ap (λ v. does y act.link act.message v (fabric past)) d

      key : (z : Side) → (peer z (does z act.link act.message (ReplyAdd false) (fabric past))).flow.key ≡ (peer z (fabric past)).flow.key
      key A = refl
      key B = refl

      rmb : (z : Side) → (peer z (does z act.link act.message (ReplyAdd false) (fabric past))).flow.rmb ≡ (peer z (fabric past)).flow.rmb
      rmb A = refl
      rmb B = refl

      told-is : (z : Side) → (peer z (does z act.link act.message (ReplyAdd false) (fabric past))).told ≡ (peer z (fabric past)).told
      told-is A = refl
      told-is B = refl

  own-turn : (st : FlowStep) → act.step ≡ st → KeyTurn setup payload y e past
  own-turn (ReplyAdd false) d = own-new d
  own-turn Confirmed d = KeyFree (ap (λ (p : Peer). p.flow.key) (own-old Confirmed d refl))
  own-turn Withdraw d = KeyFree (ap (λ (p : Peer). p.flow.key) (own-old Withdraw d refl))
  own-turn Retry d = KeyRetries (ap (λ (p : Peer). p.flow.key) (own-old Retry d refl))
  own-turn (Gone true) d = KeyLoses slot (gone-is y act e past (changed ∙ ap (λ v. does y act.link act.message v (fabric past)) d)) (λ some again. subst (λ ps. IsAmong (key_again y (loses slot (peer_of y past)) (keys_of y past).keys (deleting_rmbs setup y past) (flow_of y past).key) ps)
      (sym (posts_are ∙ ap (λ v. step_posts setup y act.link act.message past v ++ more) d))
      (inr (among-left _ (report_posts setup y slot false past) more (again-in setup y slot false past some again))))
  own-turn Answered d = let a = answer-key act.message act.link.slot before.flow in stays Answered d refl a.0 a.1 refl
  own-turn (Live reply first) d = stays (Live reply first) d refl refl refl refl
  own-turn Skip d = stays Skip d refl refl refl refl
  own-turn SendKeys d = stays SendKeys d refl refl refl refl
  own-turn Over d = stays Over d refl refl refl refl
  own-turn AskLink d = stays AskLink d refl refl refl refl
  own-turn (ReplyKeys known) d = stays (ReplyKeys known) d refl refl refl refl
  own-turn (ReplyAdd true) d = stays (ReplyAdd true) d refl refl refl refl
  own-turn Reject d = stays Reject d refl refl refl refl
  own-turn ReplyRetry d = stays ReplyRetry d refl refl refl refl
  own-turn Learn d = stays Learn d refl refl refl refl
  own-turn Forget d = stays Forget d refl refl refl refl
  own-turn (Gone false) d = stays (Gone false) d refl refl refl refl
  own-turn Echo d = stays Echo d refl refl refl refl

  -- the other side
  beside-new : act.step ≡ ReplyAdd false → KeyTurn setup payload (other y) e past
  beside-new d = KeyStays (ap (λ (f : Fabric). (peer (other y) f).flow.key) is-new ∙ key y) (ap (λ (f : Fabric). (peer (other y) f).flow.rmb) is-new ∙ rmb y) (ap (λ (f : Fabric). (peer (other y) f).told) is-new ∙ told-is y)
    where
      is-new : fabric (e ∷ past) ≡ does y act.link act.message (ReplyAdd false) (fabric past)
      is-new = changed ∙ ap (λ v. does y act.link act.message v (fabric past)) d

      key : (z : Side) → (peer (other z) (does z act.link act.message (ReplyAdd false) (fabric past))).flow.key ≡ (peer (other z) (fabric past)).flow.key
      key A = refl
      key B = refl

      rmb : (z : Side) → (peer (other z) (does z act.link act.message (ReplyAdd false) (fabric past))).flow.rmb ≡ (peer (other z) (fabric past)).flow.rmb
      rmb A = refl
      rmb B = refl

      told-is : (z : Side) → (peer (other z) (does z act.link act.message (ReplyAdd false) (fabric past))).told ≡ (peer (other z) (fabric past)).told
      told-is A = refl
      told-is B = refl

  beside-old : (st : FlowStep) → act.step ≡ st → is_new st ≡ false → KeyTurn setup payload (other y) e past
  beside-old st d n = KeyStays (ap (λ (p : Peer). p.flow.key) same) (ap (λ (p : Peer). p.flow.rmb) same) (ap (λ (p : Peer). p.told) same)
    where
      same : peer (other y) (fabric (e ∷ past)) ≡ peer (other y) (fabric past)
      same = ap (peer (other y)) (changed ∙ (ap (λ v. does y act.link act.message v (fabric past)) d ∙ acts-is y act.link act.message st (flowed st) (fabric past) n)) ∙ other-peer y (acted act.link act.message st (flowed st)) (fabric past)

  beside-turn : (st : FlowStep) → act.step ≡ st → KeyTurn setup payload (other y) e past
  beside-turn (ReplyAdd false) d = beside-new d
  beside-turn Confirmed d = beside-old Confirmed d refl
  beside-turn Withdraw d = beside-old Withdraw d refl
  beside-turn Retry d = beside-old Retry d refl
  beside-turn (Gone report) d = beside-old (Gone report) d refl
  beside-turn Answered d = beside-old Answered d refl
  beside-turn (Live reply first) d = beside-old (Live reply first) d refl
  beside-turn Skip d = beside-old Skip d refl
  beside-turn SendKeys d = beside-old SendKeys d refl
  beside-turn Over d = beside-old Over d refl
  beside-turn AskLink d = beside-old AskLink d refl
  beside-turn (ReplyKeys known) d = beside-old (ReplyKeys known) d refl
  beside-turn (ReplyAdd true) d = beside-old (ReplyAdd true) d refl
  beside-turn Reject d = beside-old Reject d refl
  beside-turn ReplyRetry d = beside-old ReplyRetry d refl
  beside-turn Learn d = beside-old Learn d refl
  beside-turn Forget d = beside-old Forget d refl
  beside-turn Echo d = beside-old Echo d refl

  step-turn : (z : Side) → KeyTurn setup payload z e past
  step-turn z = elim (either-side y z) [
    | inl same ↦ subst (λ w. KeyTurn setup payload w e past) (sym same) (own-turn act.step refl)
    | inr same ↦ subst (λ w. KeyTurn setup payload w e past) (sym same) (beside-turn act.step refl)
  ]

-- B's link flow after the loss of a link
lost-adding : (k c : ℕ) (flow : LinkFlow) → is_adding (lost_link k c flow) ≡ true → is_adding flow ≡ true
lost-adding k c NoFlow e = e
lost-adding k c FirstContact e = e
lost-adding k c (AddSent j on) e = refl
lost-adding k c (KeysSent j on) e = refl
lost-adding k c (LinkSent j) e = refl
lost-adding k c (Abandoned on) e = refl
lost-adding k c (AddSeen j) e = refl

loses-adding : (k : ℕ) (p : Peer) → is_adding (loses k p).flow.link ≡ true → is_adding p.flow.link ≡ true
loses-adding k p h = by (lowest_live (without_slot k p).table == 0) h
  where
    by : (b : Bool) → is_adding (if b then ends_group (without_slot k p) else goes_on k (without_slot k p)).flow.link ≡ true → is_adding p.flow.link ≡ true
    by true h = absurd (true≢false (sym h))
    by false h = lost-adding k (lowest_live (without_slot k p).table) p.flow.link h

answer-link : (m : LlcMessage) (landed : ℕ) (f : Flow) → (after_answer m landed f).link ≡ f.link
answer-link (ConfirmLink reply mac gid qp k user most) landed f = refl
answer-link (AddLink reply rejected reason mac gid qp k mtu psn) landed f = refl
answer-link (AddKeys reply k count keys) landed f = refl
answer-link (DeleteLink reply every orderly k reason) landed f = refl
answer-link (ConfirmRkey reply retry negative others tokens) landed f = refl
answer-link (TestLink reply bytes) landed f = refl
answer-link (DeleteRkey reply negative count mask keys) landed f = refl

adds-same : (e : Entry) (past : List Entry) → (flow_of B (e ∷ past)).link ≡ (flow_of B past).link → AddsFrom e past
adds-same e past same h = inl (ap is_adding (sym same) ∙ h)

-- one side changes, its link flow staying
link-at-side : (x : Side) (q : Peer) (f : Fabric) → q.flow.link ≡ (peer x f).flow.link → (peer B (with_peer x q f)).flow.link ≡ (peer B f).flow.link
link-at-side A q f h = refl
link-at-side B q f h = h

-- one side changes, and its link flow stays
adds-at : (e : Entry) (past : List Entry) (x : Side) (q : Peer) → fabric (e ∷ past) ≡ with_peer x q (fabric past) → q.flow.link ≡ (peer x (fabric past)).flow.link → AddsFrom e past
adds-at e past x q is same = adds-same e past (ap (λ (f : Fabric). (peer B f).flow.link) is ∙ link-at-side x q (fabric past) same)

-- a side loses a link
adds-lost : (z : Side) (k : ℕ) (e : Entry) (past : List Entry) → fabric (e ∷ past) ≡ with_peer z (reports k (peer z (fabric past))) (fabric past) → AddsFrom e past
adds-lost A k e past is h = adds-same e past (ap (λ (f : Fabric). f.b.flow.link) is) h
adds-lost B k e past is h = by (report-is B k e past (ap (peer B) is))
  where
    by : Loss B k e past → (is_adding (flow_of B past).link ≡ true) ⊎ (((flow_of B (e ∷ past)).key ≡ (flow_of B past).key) × (is_open_key (flow_of B past).key ≡ false))
    by loss = inl (loses-adding k (peer_of B past) (ap is_adding (sym loss.link) ∙ h))

-- B's link flow, as a message lands
step-adds : (y : Side) (e : Entry) (past : List Entry) (act : Act) → act_in y e past ≡ Some act → fabric (e ∷ past) ≡ does y act.link act.message act.step (fabric past) → AddsFrom e past
step-adds A e past act is changed h = adds-same e past (ap (λ (f : Fabric). f.b.flow.link) changed ∙ by act.step) h
  where
    by : (st : FlowStep) → (does A act.link act.message st (fabric past)).b.flow.link ≡ (fabric past).b.flow.link
    by (Live reply first) = refl
    by (ReplyAdd false) = refl
    by (ReplyAdd true) = refl
    by (Gone true) = refl
    by (Gone false) = refl
    by Skip = refl
    by SendKeys = refl
    by Over = refl
    by AskLink = refl
    by (ReplyKeys known) = refl
    by Reject = refl
    by Confirmed = refl
    by Retry = refl
    by Withdraw = refl
    by ReplyRetry = refl
    by Learn = refl
    by Forget = refl
    by Answered = refl
    by Echo = refl
step-adds B e past act is changed h = inl (by act.step (act-says B e past act is) (ap (λ (f : Fabric). is_adding f.b.flow.link) (sym changed) ∙ h))
  where
    by : (st : FlowStep) → StepSays B (flow_of B past).link (flow_of B past).key act.message act.link.slot st → is_adding (does B act.link act.message st (fabric past)).b.flow.link ≡ true → is_adding (flow_of B past).link ≡ true
    by (Live reply first) says g = absurd (true≢false (sym g))
    by (ReplyAdd false) says g = absurd (b-not-a says.0)
    by (ReplyAdd true) says g = absurd (b-not-a says.0)
    by (Gone true) says g = loses-adding (named_slot act.message act.link.slot) (peer B (fabric past)) g
    by (Gone false) says g = g
    by Skip says g = g
    by SendKeys says g = ap is_adding says.1.1.1
    by Over says g = absurd (true≢false (sym g))
    by AskLink says g = ap is_adding says.1.1.1
    by (ReplyKeys known) says g = g
    by Reject says g = g
    by Confirmed says g = g
    by Retry says g = g
    by Withdraw says g = g
    by ReplyRetry says g = g
    by Learn says g = g
    by Forget says g = g
    by Answered says g = ap is_adding (sym (answer-link act.message act.link.slot (flow_of B past))) ∙ g
    by Echo says g = g

module _ (setup : Setup) (payload : List ℕ) (past : List Entry) (actor : ℕ) (rest : List Post) (data_rest : AreData rest) where
  abbrev E : Event → Reply → List Post → Entry
  E event reply ps = record { actor = actor; event = event; reply = reply; posts = ps ++ rest }

  -- what an entry posts of keys, and what becomes of the key flows
  abbrev Posts : Entry → Type 0
  Posts e = (post : Post) → is_keys_post post ≡ true → IsAmong post e.posts → (x : Side) × (KeysPosted setup payload e past x post × (sender post ≡ x))

  abbrev Turns : Entry → Type 0
  Turns e = (x : Side) → KeyTurn setup payload x e past

  abbrev R : Event → Reply → List Post → Type 0
  R event reply ps = Posts (E event reply ps) × (Turns (E event reply ps) × AddsFrom (E event reply ps) past)

  posts-by : (event : Event) (reply : Reply) (ps : List Post) → ((post : Post) → is_keys_post post ≡ true → IsAmong post ps → (x : Side) × (KeysPosted setup payload (E event reply ps) past x post × (sender post ≡ x))) → Posts (E event reply ps)
  posts-by event reply ps f post is i = elim (among-append post ps rest i) [ inl h ↦ f post is h | inr h ↦ absurd (data-not rest data_rest post h is) ]

  none-by : (event : Event) (reply : Reply) (ps : List Post) → ((post : Post) → is_keys_post post ≡ true → IsAmong post ps → ⊥) → Posts (E event reply ps)
  none-by event reply ps f = posts-by event reply ps (λ post is i. absurd (f post is i))

  turns-same : (e : Entry) → fabric (e ∷ past) ≡ fabric past → Turns e
  turns-same e same x = KeyStays (ap (λ (f : Fabric). (peer x f).flow.key) same) (ap (λ (f : Fabric). (peer x f).flow.rmb) same) (ap (λ (f : Fabric). (peer x f).told) same)

  quiet : (event : Event) (reply : Reply) (ps : List Post) → ((post : Post) → is_keys_post post ≡ true → IsAmong post ps → ⊥) → fabric (E event reply ps ∷ past) ≡ fabric past → R event reply ps
  quiet event reply ps f same = (none-by event reply ps f, (turns-same (E event reply ps) same, adds-same (E event reply ps) past (ap (λ (f : Fabric). f.b.flow.link) same)))

  still : (event : Event) (reply : Reply) → fabric (E event reply [] ∷ past) ≡ fabric past → R event reply []
  still event reply same = quiet event reply [] (λ post is i. i) same

  one-other : (p : Post) → is_keys_post p ≡ false → (post : Post) → is_keys_post post ≡ true → IsAmong post (p ∷ []) → ⊥
  one-other p n post is i = one-not p post n i is

  quiet-one : (event : Event) (reply : Reply) (p : Post) → is_keys_post p ≡ false → fabric (E event reply (p ∷ []) ∷ past) ≡ fabric past → R event reply (p ∷ [])
  quiet-one event reply p n same = quiet event reply (p ∷ []) (one-other p n) same

  -- one side changes, and its turn is known
  turns-at : (e : Entry) (x : Side) (q : Peer) → fabric (e ∷ past) ≡ with_peer x q (fabric past) → KeyTurn setup payload x e past → Turns e
  turns-at e x q is own z = elim (either-side x z) [
    | inl same ↦ subst (λ w. KeyTurn setup payload w e past) (sym same) own
    | inr same ↦ subst (λ w. KeyTurn setup payload w e past) (sym same) (let h : peer (other x) (fabric (e ∷ past)) ≡ peer (other x) (fabric past) = ap (peer (other x)) is ∙ other-peer x q (fabric past) in
        KeyStays (ap (λ (p : Peer). p.flow.key) h) (ap (λ (p : Peer). p.flow.rmb) h) (ap (λ (p : Peer). p.told) h))
  ]

  -- a side is asked to take a CLC message
  module _ (s : ℕ) (dir : Side) where
    abbrev fp : List Post
    fp = front_posts setup payload (other dir) s past (front payload dir s past)

    to : (reply : Reply) (ps : List Post) → fp ≡ ps → R (ClcEvent s dir) reply ps → R (ClcEvent s dir) reply fp
    to reply ps e r = subst (λ qs. R (ClcEvent s dir) reply qs) (sym e) r

    accepts : (first : Bool) (m : ClcMessage) → R (ClcEvent s dir) (Sent AcceptSent) (clc_posts setup payload (other dir) s m past (SendAccept first))
    accepts true m = (none-by (ClcEvent s dir) (Sent AcceptSent) (accept_post setup payload s true (first_link setup past) past ∷ []) (one-other (accept_post setup payload s true (first_link setup past) past) refl), (by-side (λ x. KeyTurn setup payload x (E (ClcEvent s dir) (Sent AcceptSent) (clc_posts setup payload (other dir) s m past (SendAccept true))) past) (KeyStays refl refl refl) (KeyFree refl), λ h. absurd (true≢false (sym h))))
    accepts false m = quiet-one (ClcEvent s dir) (Sent AcceptSent) (accept_post setup payload s false (fewest setup payload past) past) refl refl

    confirms : (m : ClcMessage) → R (ClcEvent s dir) (Sent ConfirmSent) (clc_posts setup payload (other dir) s m past (SendConfirm true))
    confirms m = (none-by (ClcEvent s dir) (Sent ConfirmSent) (confirm_post setup payload s true (unwrap_or (named_link s past) no_link) past ∷ []) (one-other (confirm_post setup payload s true (unwrap_or (named_link s past) no_link) past) refl), (by-side (λ x. KeyTurn setup payload x (E (ClcEvent s dir) (Sent ConfirmSent) (clc_posts setup payload (other dir) s m past (SendConfirm true))) past) (KeyFree refl) (KeyStays refl refl refl), adds-same (E (ClcEvent s dir) (Sent ConfirmSent) (clc_posts setup payload (other dir) s m past (SendConfirm true))) past refl))

    module _ (m : ClcMessage) (len : ℕ) (f : front payload dir s past ≡ Whole m len) (ex : expects (end_state (other dir) s past) ≡ true) where
      asks : clc_step setup payload (other dir) s m past ≡ AskKey → R (ClcEvent s dir) (Sent KeySent) (clc_posts setup payload (other dir) s m past AskKey)
      asks st = (posts-by (ClcEvent s dir) (Sent KeySent) (asked_post ∷ []) (λ post is i. let h = one-is asked_post post i in (other dir, (ByVerdict va h, ap sender h))), (turns-at (E (ClcEvent s dir) (Sent KeySent) (asked_post ∷ [])) (other dir) _ refl (KeyAsks va), adds-at (E (ClcEvent s dir) (Sent KeySent) (asked_post ∷ [])) past (other dir) _ refl refl))
        where
          asked_post : Post
          asked_post = rkey_post (other dir) (next_free setup payload (other dir) past).rmb (peer_of (other dir) past) (keys_of (other dir) past).keys

          va : VerdictAsks setup payload (other dir) (E (ClcEvent s dir) (Sent KeySent) (clc_posts setup payload (other dir) s m past AskKey)) past
          va = record {
            s = s;
            message = m;
            len = len;
            event_is = ap (ClcEvent s) (sym (other-other dir));
            reply_is = refl;
            waits = ex;
            front_is = ap (λ d. front payload d s past) (other-other dir) ∙ f;
            step_is = st;
            more = rest;
            posts_are = refl;
          }

      ready : (n : ClcMessage) → fp ≡ ready_posts setup s n past → R (ClcEvent s dir) (ready_told n) (asked setup payload past (ClcEvent s dir) (ready_told n))
      ready (ConfirmMessage o) pe = by o.first pe
        where
          by : (b : Bool) → fp ≡ (if b then Llc B (unwrap_or (named_link s past) no_link) (confirm_link setup B false (unwrap_or (named_link s past) no_link) (pair_on B (LinkId.slot (unwrap_or (named_link s past) no_link)) past)) ∷ [] else []) → R (ClcEvent s dir) (if b then Sent LinkSent else Established) (asked setup payload past (ClcEvent s dir) (if b then Sent LinkSent else Established))
          by true pe = to (Sent LinkSent) (Llc B (unwrap_or (named_link s past) no_link) (confirm_link setup B false (unwrap_or (named_link s past) no_link) (pair_on B (LinkId.slot (unwrap_or (named_link s past) no_link)) past)) ∷ []) pe (quiet-one (ClcEvent s dir) (Sent LinkSent) (Llc B (unwrap_or (named_link s past) no_link) (confirm_link setup B false (unwrap_or (named_link s past) no_link) (pair_on B (LinkId.slot (unwrap_or (named_link s past) no_link)) past))) refl refl)
          by false pe = to Established [] pe (still (ClcEvent s dir) Established refl)
      ready (ProposalMessage p) pe = still (ClcEvent s dir) Idle refl
      ready (AcceptMessage o) pe = still (ClcEvent s dir) Idle refl
      ready (DeclineMessage r) pe = still (ClcEvent s dir) Idle refl

      verdict : (st : ClcStep) → clc_step setup payload (other dir) s m past ≡ st → R (ClcEvent s dir) (step_told (group_on s past) m st) (asked setup payload past (ClcEvent s dir) (step_told (group_on s past) m st))
      verdict st d = by st d (ap (front_posts setup payload (other dir) s past) f ∙ ap (clc_posts setup payload (other dir) s m past) d)
        where
          by : (st : ClcStep) → clc_step setup payload (other dir) s m past ≡ st → fp ≡ clc_posts setup payload (other dir) s m past st → R (ClcEvent s dir) (step_told (group_on s past) m st) (asked setup payload past (ClcEvent s dir) (step_told (group_on s past) m st))
          by (SendAccept first) d pe = to (Sent AcceptSent) (clc_posts setup payload (other dir) s m past (SendAccept first)) pe (accepts first m)
          by (SendConfirm true) d pe = to (Sent ConfirmSent) (clc_posts setup payload (other dir) s m past (SendConfirm true)) pe (confirms m)
          by (SendConfirm false) d pe = to Established (clc_posts setup payload (other dir) s m past (SendConfirm false)) pe (quiet-one (ClcEvent s dir) Established (confirm_post setup payload s false (unwrap_or (named_link s past) no_link) past) refl refl)
          by AskKey d pe = to (Sent KeySent) (clc_posts setup payload (other dir) s m past AskKey) pe (asks d)
          by (Wait hold) d pe = to (Held hold) (clc_posts setup payload (other dir) s m past (Wait hold)) pe (still (ClcEvent s dir) (Held hold) refl)
          by (Decline lack) d pe = to (Declined lack) (clc_posts setup payload (other dir) s m past (Decline lack)) pe (quiet-one (ClcEvent s dir) (Declined lack) (Clc (other dir) s None (DeclineMessage (refusal (other dir) lack))) refl refl)
          by Fell d pe = to FellBack (clc_posts setup payload (other dir) s m past Fell) pe (still (ClcEvent s dir) FellBack refl)
          by Ready d pe = ready m pe
          by Lost d pe = to (step_told (group_on s past) m Lost) (clc_posts setup payload (other dir) s m past Lost) pe (still (ClcEvent s dir) (step_told (group_on s past) m Lost) refl)
          by (Wrong kind) d pe = to (step_told (group_on s past) m (Wrong kind)) (clc_posts setup payload (other dir) s m past (Wrong kind)) pe (still (ClcEvent s dir) (step_told (group_on s past) m (Wrong kind)) refl)

    taken : R (ClcEvent s dir) (clc_told setup payload s dir past) (asked setup payload past (ClcEvent s dir) (clc_told setup payload s dir past))
    taken = by (expects (end_state (other dir) s past)) refl
      where
        at : (fr : Front) → front payload dir s past ≡ fr → expects (end_state (other dir) s past) ≡ true → R (ClcEvent s dir) (front_told setup payload (other dir) s past fr) (asked setup payload past (ClcEvent s dir) (front_told setup payload (other dir) s past fr))
        at NoMessage f ex = still (ClcEvent s dir) Idle refl
        at (Faulty fault) f ex = to (Reset (BadClc fault)) [] (ap (front_posts setup payload (other dir) s past) f) (still (ClcEvent s dir) (Reset (BadClc fault)) refl)
        at (Whole m len) f ex = verdict m len f ex (clc_step setup payload (other dir) s m past) refl

        by : (b : Bool) → expects (end_state (other dir) s past) ≡ b → R (ClcEvent s dir) (if b then front_told setup payload (other dir) s past (front payload dir s past) else Idle) (asked setup payload past (ClcEvent s dir) (if b then front_told setup payload (other dir) s past (front payload dir s past) else Idle))
        by true ex = at (front payload dir s past) refl ex
        by false ex = still (ClcEvent s dir) Idle refl

  -- a post lands
  module _ (slot : ℕ) (dir : Side) where
    landed-act : (d : Side) (c : Placed) → act_by (other d) (Deliver slot d) (Landed c.at) past ≡ act_of (other d) (post_at c.at past) past
    landed-act A c = refl
    landed-act B c = refl

    lands-quiet : (c : Placed) (post : Post) → post_at c.at past ≡ Some post → fabric_lands (Some post) (other dir) past (fabric past) ≡ fabric past → R (Deliver slot dir) (Landed c.at) []
    lands-quiet c post known same = still (Deliver slot dir) (Landed c.at) (ap (λ o. fabric_lands o (other dir) past (fabric past)) known ∙ same)

    lands-llc : (c : Placed) (from : Side) (link : LinkId) (m : LlcMessage) → post_at c.at past ≡ Some (Llc from link m) → R (Deliver slot dir) (Landed c.at) (step_posts setup (other dir) link m past (llc_step (other dir) link m past (fabric past)))
    lands-llc c from link m known = (posts-by (Deliver slot dir) (Landed c.at) (step_posts setup (other dir) link m past (llc_step (other dir) link m past (fabric past))) (λ post k i. (other dir, step-posts setup payload e past (other dir) act is changed rest refl post k i)), (step-turn setup payload e past (other dir) act is changed rest refl, step-adds (other dir) e past act is changed))
      where
        act : Act
        act = record { link = link; message = m; step = llc_step (other dir) link m past (fabric past) }

        e : Entry
        e = E (Deliver slot dir) (Landed c.at) (step_posts setup (other dir) link m past (llc_step (other dir) link m past (fabric past)))

        is : act_in (other dir) e past ≡ Some act
        is = landed-act dir c ∙ ap (λ o. act_of (other dir) o past) known

        changed : fabric (e ∷ past) ≡ does (other dir) link m (llc_step (other dir) link m past (fabric past)) (fabric past)
        changed = ap (λ o. fabric_lands o (other dir) past (fabric past)) known

    lands-post : (c : Placed) (post : Post) → post_at c.at past ≡ Some post → R (Deliver slot dir) (lands_told setup payload (other dir) past c post) (act_posts setup (other dir) past (act_of (other dir) (Some post) past))
    lands-post c (Write from link key address len) known = lands-quiet c (Write from link key address len) known refl
    lands-post c (Clc from s link m) known = lands-quiet c (Clc from s link m) known refl
    lands-post c (Llc from link m) known = lands-llc c from link m known
    lands-post c (Cdc from link m) known = by (is_some (record_of setup payload (other dir) m.token past))
      where
        by : (b : Bool) → R (Deliver slot dir) (if b then Landed c.at else Dropped m.token) []
        by true = lands-quiet c (Cdc from link m) known refl
        by false = still (Deliver slot dir) (Dropped m.token) refl

    lands : R (Deliver slot dir) (deliver_told setup payload (other dir) past (landing slot dir past)) (act_posts setup (other dir) past (act_of (other dir) (option_map (λ c. c.post) (landing slot dir past)) past))
    lands = by (landing slot dir past) refl
      where
        by : (o : Option Placed) → landing slot dir past ≡ o → R (Deliver slot dir) (deliver_told setup payload (other dir) past o) (act_posts setup (other dir) past (act_of (other dir) (option_map (λ c. c.post) o) past))
        by None l = still (Deliver slot dir) Idle refl
        by (Some c) l = let land : IsLanding slot dir past c = landing-is slot dir past c l in lands-post c c.post land.known

  -- a side reports a link
  reported : (x : Side) (k : ℕ) → R (Report x k) (report_told x k past) (asked setup payload past (Report x k) (report_told x k past))
  reported x k = by (standing_at k (table_of x past)) (dead_at k (table_of x past) past) ((loses k (peer_of x past)).group == 0) refl
    where
      no-act : (z : Side) (reply : Reply) → act_by z (Report x k) reply past ≡ None
      no-act A reply = refl
      no-act B reply = refl

      loss : (reply : Reply) (ps : List Post) → fabric (E (Report x k) reply ps ∷ past) ≡ with_peer x (reports k (peer x (fabric past))) (fabric past) → Loss x k (E (Report x k) reply ps) past
      loss reply ps is = report-is x k (E (Report x k) reply ps) past (ap (peer x) is ∙ peer-with x (reports k (peer x (fabric past))) (fabric past))

      by : (a b c : Bool) → ((loses k (peer_of x past)).group == 0) ≡ c → R (Report x k) (if a && b then (if c then GroupEnded (peer_of x past).group else Done) else Idle) (asked setup payload past (Report x k) (if a && b then (if c then GroupEnded (peer_of x past).group else Done) else Idle))
      by true true true g = (none-by (Report x k) (GroupEnded (peer_of x past).group) [] (λ post is i. i), (turns-at (E (Report x k) (GroupEnded (peer_of x past).group) []) x (reports k (peer x (fabric past))) refl (KeyLoses k (loss (GroupEnded (peer_of x past).group) [] refl) (λ some again. absurd (true≢false (sym g ∙ some)))), adds-lost x k (E (Report x k) (GroupEnded (peer_of x past).group) []) past refl))
      by true true false g = (posts-by (Report x k) Done (report_posts setup x k true past) (λ post is i. let a = again-from setup x k true past post is i in (x, (ByLoss k (loss Done (report_posts setup x k true past) refl) a.0 (λ step c t. absurd (none-is t.act (sym (no-act x Done) ∙ t.is))) (again-wider setup x k past post [] (report_posts setup x k true past) rest (report_posts setup x k true past ++ rest) tt refl a.1.0), a.1.1))), (turns-at (E (Report x k) Done (report_posts setup x k true past)) x (reports k (peer x (fabric past))) refl (KeyLoses k (loss Done (report_posts setup x k true past) refl) (λ some again. among-left _ (report_posts setup x k true past) rest (again-in setup x k true past some again))), adds-lost x k (E (Report x k) Done (report_posts setup x k true past)) past refl))
      by true false c g = still (Report x k) Idle refl
      by false b c g = still (Report x k) Idle refl

  -- B asks for another link
  grows : R Grow (grow_told setup past) (asked setup payload past Grow (grow_told setup past))
  grows = by (group_of B past == 0) (is_first_contact (flow_of B past).link) (is_adding (flow_of B past).link) (is_asked (flow_of B past).key) (is_deleting (flow_of B past).key) (head (open_slots setup past)) refl refl
    where
      by : (b c d g h : Bool) (o : Option ℕ) → is_asked (flow_of B past).key ≡ g → is_deleting (flow_of B past).key ≡ h → R Grow (if b then Idle else if c then Held FirstContactHold else if d then Held AddLinkHold else if g then Held ConfirmRkeyHold else if h then Held DeleteRkeyHold else grow_to o)
          (asked setup payload past Grow (if b then Idle else if c then Held FirstContactHold else if d then Held AddLinkHold else if g then Held ConfirmRkeyHold else if h then Held DeleteRkeyHold else grow_to o))
      by true c d g h o u v = still Grow Idle refl
      by false true d g h o u v = still Grow (Held FirstContactHold) refl
      by false false true g h o u v = still Grow (Held AddLinkHold) refl
      by false false false true h o u v = still Grow (Held ConfirmRkeyHold) refl
      by false false false false true o u v = still Grow (Held DeleteRkeyHold) refl
      by false false false false false None u v = still Grow Idle refl
      by false false false false false (Some k) u v = (none-by Grow (Sent AddLinkSent) (grow_post (unwrap_or (head (open_slots setup past)) 0) past ∷ []) (one-other (grow_post (unwrap_or (head (open_slots setup past)) 0) past) refl), (by-side (λ x. KeyTurn setup payload x (E Grow (Sent AddLinkSent) (grow_post (unwrap_or (head (open_slots setup past)) 0) past ∷ [])) past) (KeyStays refl refl refl) (KeyStays refl refl refl), λ h. inr (refl, ap (λ b. b || is_deleting (flow_of B past).key) u ∙ v)))

  -- a side tests a link
  tests : (x : Side) (k : ℕ) → R (Test x k) (test_told x k past) (asked setup payload past (Test x k) (test_told x k past))
  tests x k = by (is_live (phase_at k (table_of x past))) (has k (flow_of x past).tests)
    where
      own : (z : Side) → KeyTurn setup payload z (E (Test z k) (Sent TestSent) (asked setup payload past (Test z k) (Sent TestSent))) past
      own A = KeyStays refl refl refl
      own B = KeyStays refl refl refl

      by : (b c : Bool) → R (Test x k) (if not b then Idle else if c then Held TestLinkHold else Sent TestSent) (asked setup payload past (Test x k) (if not b then Idle else if c then Held TestLinkHold else Sent TestSent))
      by false c = still (Test x k) Idle refl
      by true true = still (Test x k) (Held TestLinkHold) refl
      by true false = (none-by (Test x k) (Sent TestSent) (test_post x k past ∷ []) (one-other (test_post x k past) refl), (turns-at (E (Test x k) (Sent TestSent) (test_post x k past ∷ [])) x (with_flow (begins_test k) (peer x (fabric past))) refl (own x), adds-at (E (Test x k) (Sent TestSent) (test_post x k past ∷ [])) past x (with_flow (begins_test k) (peer x (fabric past))) refl refl))

  -- a side gives RMBs back
  trims : (x : Side) → R (Trim x) (trim_told setup payload x past) (asked setup payload past (Trim x) (trim_told setup payload x past))
  trims x = by (group_of x past == 0) (is_first_contact (flow_of x past).link) (is_adding (flow_of x past).link) (is_asking_or_waiting (flow_of x past).key) (is_deleting (flow_of x past).key) (is_nil (trimmed setup payload x past))
    where
      own : (z : Side) → KeyTurn setup payload z (E (Trim z) (Sent DeleteSent) (asked setup payload past (Trim z) (Sent DeleteSent))) past
      own A = KeyDeletes refl refl rest refl refl
      own B = KeyDeletes refl refl rest refl refl

      by : (b c d g h i : Bool) → R (Trim x) (if b then Idle else if c then Held FirstContactHold else if d then Held AddLinkHold else if g then Held ConfirmRkeyHold else if h then Held DeleteRkeyHold else if i then Idle else Sent DeleteSent)
          (asked setup payload past (Trim x) (if b then Idle else if c then Held FirstContactHold else if d then Held AddLinkHold else if g then Held ConfirmRkeyHold else if h then Held DeleteRkeyHold else if i then Idle else Sent DeleteSent))
      by true c d g h i = still (Trim x) Idle refl
      by false true d g h i = still (Trim x) (Held FirstContactHold) refl
      by false false true g h i = still (Trim x) (Held AddLinkHold) refl
      by false false false true h i = still (Trim x) (Held ConfirmRkeyHold) refl
      by false false false false true i = still (Trim x) (Held DeleteRkeyHold) refl
      by false false false false false true = still (Trim x) Idle refl
      by false false false false false false = (posts-by (Trim x) (Sent DeleteSent) (trim_post setup payload x past ∷ []) (λ post is i. let h = one-is (trim_post setup payload x past) post i in (x, (ByTrim refl refl h, ap sender h))), (turns-at (E (Trim x) (Sent DeleteSent) (trim_post setup payload x past ∷ [])) x (with_flow (begins_delete (LinkId.slot (link_or_none (lowest_live (peer_of x past).table) (peer_of x past).table))) (peer x (fabric past))) refl (own x), adds-at (E (Trim x) (Sent DeleteSent) (trim_post setup payload x past ∷ [])) past x (with_flow (begins_delete (LinkId.slot (link_or_none (lowest_live (peer_of x past).table) (peer_of x past).table))) (peer x (fabric past))) refl refl))

  -- a socket is opened
  opens : (s : ℕ) → R (Open s) (open_told setup s past) (asked setup payload past (Open s) (open_told setup s past))
  opens s = by (is_opened s past || is_raw s past) (slice_index_or setup.capable 0 false && slice_index_or setup.capable 1 false)
    where
      by : (a b : Bool) → R (Open s) (if a then NameUsed else if not b then Declined (NotCapable (slice_index_or setup.capable 0 false) (slice_index_or setup.capable 1 false)) else Opened)
          (asked setup payload past (Open s) (if a then NameUsed else if not b then Declined (NotCapable (slice_index_or setup.capable 0 false) (slice_index_or setup.capable 1 false)) else Opened))
      by true b = still (Open s) NameUsed refl
      by false false = still (Open s) (Declined (NotCapable (slice_index_or setup.capable 0 false) (slice_index_or setup.capable 1 false))) refl
      by false true = quiet-one (Open s) Opened (proposal_post setup s) refl refl

  -- any event
  events : (n : ℕ) (event : Event) → R event (reply_of n (told setup payload past event)) (asked setup payload past event (reply_of n (told setup payload past event)))
  events n (Open s) = opens s
  events n (ClcEvent s dir) = taken s dir
  events n (Deliver slot dir) = lands slot dir
  events n (Report x k) = reported x k
  events n Grow = grows
  events n (Test x k) = tests x k
  events n (Trim x) = trims x
  events n (Raw s at len) = still (Raw s at len) _ refl
  events n (WriteEvent end at len) = still (WriteEvent end at len) _ refl
  events n (Read end len) = still (Read end len) _ refl
  events n (Finish end) = still (Finish end) _ refl
  events n (Close end) = still (Close end) _ refl
  events n (Abort end) = still (Abort end) _ refl
  events n (Await end) = still (Await end) _ refl
  events n (Complete slot dir) = still (Complete slot dir) _ refl
  events n (Swallow slot dir) = still (Swallow slot dir) _ refl
  events n (Cut k) = still (Cut k) _ refl
  events n (Heal k) = still (Heal k) _ refl
  events n (Move end) = still (Move end) _ refl

module _ (setup : Setup) (payload : List ℕ) (past : List Entry) (before : ℕ) (e : Entry) (made : IsMade setup payload past before e) where
  both : ((post : Post) → is_keys_post post ≡ true → IsAmong post e.posts → (x : Side) × (KeysPosted setup payload e past x post × (sender post ≡ x))) × (((x : Side) → KeyTurn setup payload x e past) × AddsFrom e past)
  both = subst (λ r. Both (record { actor = e.actor; event = e.event; reply = r; posts = e.posts })) (sym made.reply)
      (subst (λ ps. Both (record { actor = e.actor; event = e.event; reply = reply_of before (told setup payload past e.event); posts = ps })) (sym made.posts)
      (events setup payload past e.actor (connection_posts setup payload (draft setup payload past before e.event) past) (connections-data setup payload (draft setup payload past before e.event) past) before e.event))
    where
      Both : Entry → Type 0
      Both f = ((post : Post) → is_keys_post post ≡ true → IsAmong post f.posts → (x : Side) × (KeysPosted setup payload f past x post × (sender post ≡ x))) × (((x : Side) → KeyTurn setup payload x f past) × AddsFrom f past)

  -- how a message that tells or names keys comes to be posted
  pub keys-posted : (y : Side) (l : LinkId) (m : LlcMessage) → is_of_keys m ≡ true → IsAmong (Llc y l m) e.posts → KeysPosted setup payload e past y (Llc y l m)
  keys-posted y l m is i = let h = both.0 (Llc y l m) is i in subst (λ x. KeysPosted setup payload e past x (Llc y l m)) (sym h.1.1) h.1.0

  -- what becomes of a side's key flow
  pub key-turn : (x : Side) → KeyTurn setup payload x e past
  key-turn x = both.1.0 x

  -- B adds a link as before, or has just begun
  pub adds-from : AddsFrom e past
  adds-from = both.1.1
