-- The step of a side's key flow over all events: nothing of it is under way on links that are not dead but one message, which fits.
use Rattle.std.proofs.Common.{Bool, List, None, Some, [], ap, eq-eqb, false, if◌then◌else◌, inl, inr, not, refl, subst, sym, true, true≢false, ℕ, ◌&&◌, ◌++◌, ◌==◌, ◌||◌, ◌∙◌, ◌∷◌, ◌≡◌, ◌⊎◌}
use Rattle.std.specs.Prelude.{Option, is_some, option_map, slice_index_or, unwrap_or}
use Rattle.std.specs.Option.{option_or}
use Rattle.pipe_model.specs.declared.reply.Hold.TheVariants.{AddLink as AddLinkHold, ConfirmRkey as ConfirmRkeyHold, DeleteRkey as DeleteRkeyHold, FirstContact as FirstContactHold}
use Rattle.pipe_model.specs.Handshake.{verdict}
use Rattle.clc_wire.specs.declared.message.ClcMessage.TheVariants.{Accept as AcceptMessage, Confirm as ConfirmMessage, Decline as DeclineMessage, Proposal as ProposalMessage}
use Rattle.pipe_model.specs.Fabric.{does, lands as lands_at, loses}
use Rattle.pipe_model.specs.Wires.{landing}
use Rattle.pipe_model.specs.declared.reply.Reply.TheVariants.{Idle, Sent}
use Rattle.pipe_model.specs.declared.post.Post.TheVariants.{Clc as ClcPost, Write as WritePost}
use Rattle.pipe_model.specs.Lawful.{asked}
use Rattle.pipe_model.specs.declared.flow.KeyPhase.TheVariants.{Asked}
use Rattle.pipe_model.specs.declared.reply.SentKind.TheVariants.{Accept as AcceptSent, AddLink as AddLinkSent, Confirm as ConfirmSent, DeleteRkey as DeleteSent, ConfirmRkey as KeySent, ConfirmLink as LinkSent, TestLink as TestSent}
use Rattle.pipe_model.specs.declared.event.Event.TheVariants.{Clc, Raw, Write}
use Rattle.pipe_model.specs.Replies.{told}
use Rattle.history_laws.specs.Words.{A, Abort, AskKey, Await, B, BadClc, BadStep, Cdc, ClcMessage, ClcStep, Close, Complete, Cut, Decline, Declined, Deliver, Done, Dropped, EndState, Entry, Established, Event, Fabric, Faulty, Fell, FellBack, Finish, Flow, Front, GroupEnded, Grow, Heal, Held, KeyPhase, Lacks, Landed, LinkId, Llc, LlcMessage, Lost, Move, NameUsed, NoLiveLink, NoMessage, NotCapable, Offer, Open, Opened, Peer, Placed, Post, Read, Ready, Reply, Report, Reset, SendAccept, SendConfirm, Setup, Side, Swallow, Test, Trim, Wait, WaitsAnswer, WaitsConfirm, WaitsProposal, Whole, Wrong, accept_post, act_of, act_posts, begins_delete, begins_drop, begins_test, clc_posts, clc_step, clc_told, completed_told, confirm_post, confirms_on, connection_posts, dead_at, deliver_told, draft, end_state, expects, fabric, fewest, first_contact_step, first_link, flow_of, front, front_posts, front_told, group_of, group_on, grow_post, grow_told, head, is_adding, is_asked, is_asking_or_waiting, is_dead, is_deleting, is_dropping, is_first_contact, is_nil, is_on, is_opened, is_raw, key_step, lacks, lands_told, leaves, link_or_none, llc_step, lowest_live, named_link, no_link, on_accept, open_slots, open_told, other, peer, peer_of, post_at, proposal_post, record_of, reply_of, report_posts, report_told, reports, standing_at, stands, step_posts, step_told, swallowed, table_of, test_post, trim_post, trim_told, trimmed, with_flow, with_peer}
use Rattle.history_laws.proofs.Basics.{either-side, none-is, same-self}
use Rattle.history_laws.specs.Made.{IsMade}
use Rattle.link_laws.specs.Linked.{Under}
use Rattle.link_laws.proofs.UnderWay.{HasNoLlc, IsLanding, Wired, alive-is, any-goes, entry_of, first_ask, gone-here, key_ask, key_rmb, landed-under, landing-is, left_after, living-alive, no-llc-connections, no-llc-kind, no-llc-one, one-alone, own-message, wired-after, wired-changed, wired-landed, wired-swallow}
use Rattle.link_laws.specs.KeyFlows.{HasKeyFlow, is_key_of, key_fits, key_kind}
use Rattle.link_laws.specs.UnderWay.{AreCarriedOf, HasFlows, HasOneOf, kind_in, kind_of, living}
use Rattle.link_laws.specs.Owed.{IsTaken, OwedByHandshake}
use Rattle.link_laws.proofs.Requests.KeyPosts.{fits-open, key-like, keys-loss-one}
use Rattle.link_laws.proofs.Requests.KeyTaken.{LandsKey, beside-loss, lands-key, left_of}
use Rattle.link_laws.proofs.Requests.KeyLandings.{keys-loss-fits, keys-loss-free, message_of, own-fits}

-- what an entry does to what is under way of the key flow of x
pub record KeysGo (x : Side) (e : Entry) (past : List Entry) (under : Option Under) : Type 0 where
  pub left : Option Under
  pub new : Option Under
  pub wired : Wired (key_kind x) e past under left new
  pub fits : (w : Under) → option_or new left ≡ Some w → is_dead w.link (e ∷ past) ≡ false → key_fits w.link.slot w.message (flow_of x (e ∷ past)) ≡ true

abbrev KeyDraft : Side → List Entry → Option Under → Event → Reply → List Post → Type 0
KeyDraft x past under event reply ps = (actor : ℕ) (cs : List Post) → HasNoLlc cs → KeysGo x (entry_of actor event reply (ps ++ cs)) past under

-- a side asks for a key only while none of its key requests is out
abbrev is_ask : ClcStep → Bool
is_ask AskKey = true
is_ask step = false

module _ (l : Lacks) where
  key-step-free : is_ask (key_step l) ≡ true → is_asked l.key_flow ≡ false
  key-step-free e = by (is_asked l.key_flow) e
    where
      by : (b : Bool) → is_ask (if b then Wait ConfirmRkeyHold else if l.adding then Wait AddLinkHold else AskKey) ≡ true → b ≡ false
      by true e = absurd (true≢false (sym e))
      by false e = refl

  not-ready : (s : ClcStep) → is_ask s ≡ false → is_ask (if not l.rmb_ready then key_step l else s) ≡ true → is_asked l.key_flow ≡ false
  not-ready s f e = by (not l.rmb_ready) e
    where
      by : (b : Bool) → is_ask (if b then key_step l else s) ≡ true → is_asked l.key_flow ≡ false
      by true e = key-step-free e
      by false e = absurd (true≢false (sym e ∙ f))

  on-proposal-free : (raw : Bool) (b c d f g : Bool) → (d ≡ is_deleting l.key_flow)
      → is_ask (if b then Decline Rattle.pipe_model.specs.declared.reply.Lack.TheVariants.NoSubnet else if c then Wait FirstContactHold else if d then Wait DeleteRkeyHold else if f then Decline (Rattle.pipe_model.specs.declared.reply.Lack.TheVariants.NoServerElement l.elements) else if g then first_contact_step raw l else if not l.rmb_ready then key_step l else SendAccept false) ≡ true
      → (is_asked l.key_flow ≡ false) × (is_deleting l.key_flow ≡ false)
  on-proposal-free raw true c d f g is e = absurd (true≢false (sym e))
  on-proposal-free raw false true d f g is e = absurd (true≢false (sym e))
  on-proposal-free raw false false true f g is e = absurd (true≢false (sym e))
  on-proposal-free raw false false false true g is e = absurd (true≢false (sym e))
  on-proposal-free raw false false false false true is e = absurd (first raw (l.slots_up == 0) e)
    where
      first : (b c : Bool) → is_ask (if b then Decline Rattle.pipe_model.specs.declared.reply.Lack.TheVariants.Raw else if c then Decline (Rattle.pipe_model.specs.declared.reply.Lack.TheVariants.NoSlot l.links) else SendAccept true) ≡ true → ⊥
      first true c e = true≢false (sym e)
      first false true e = true≢false (sym e)
      first false false e = true≢false (sym e)
  on-proposal-free raw false false false false false is e = (not-ready (SendAccept false) refl e, sym is)

  on-accept-free : (o : Offer) → is_ask (on_accept o l) ≡ true → (is_asked l.key_flow ≡ false) × (is_deleting l.key_flow ≡ false)
  on-accept-free o e = by o.first (not (l.group == 0)) (not (o.psn == l.group)) (is_deleting l.key_flow) (l.free == 0) refl e
    where
      by : (a b c d f : Bool) → d ≡ is_deleting l.key_flow
          → is_ask (if a then (if b then Wait Rattle.pipe_model.specs.declared.reply.Hold.TheVariants.OldGroup else SendConfirm true) else if c then Decline (Rattle.pipe_model.specs.declared.reply.Lack.TheVariants.GroupLost o.psn l.group) else if d then Wait DeleteRkeyHold else if f then Decline (Rattle.pipe_model.specs.declared.reply.Lack.TheVariants.NoClientElement l.elements) else if not l.rmb_ready then key_step l else SendConfirm false) ≡ true
          → (is_asked l.key_flow ≡ false) × (is_deleting l.key_flow ≡ false)
      by true true c d f is e = absurd (true≢false (sym e))
      by true false c d f is e = absurd (true≢false (sym e))
      by false b true d f is e = absurd (true≢false (sym e))
      by false b false true f is e = absurd (true≢false (sym e))
      by false b false false true is e = absurd (true≢false (sym e))
      by false b false false false is e = (not-ready (SendConfirm false) refl e, sym is)

  -- where a key is asked for no key request is out
  pub asks-free : (raw : Bool) (st : EndState) (m : ClcMessage) → is_ask (verdict raw st m l) ≡ true → (is_asked l.key_flow ≡ false) × (is_deleting l.key_flow ≡ false)
  asks-free raw WaitsProposal (ProposalMessage p) e = on-proposal-free raw (not ((p.subnet == l.subnet.0) && (p.prefix == l.subnet.1))) l.first_contact (is_deleting l.key_flow) (l.free == 0) (l.group == 0) refl e
  asks-free raw WaitsAnswer (AcceptMessage o) e = on-accept-free o e
  asks-free raw WaitsAnswer (DeclineMessage r) e = absurd (true≢false (sym e))
  asks-free raw WaitsConfirm (DeclineMessage r) e = absurd (true≢false (sym e))
  asks-free true WaitsConfirm (ConfirmMessage o) e = absurd (true≢false (sym e))
  asks-free false WaitsConfirm (ConfirmMessage o) e = absurd (by (o.psn == l.group) e)
    where
      by : (b : Bool) → is_ask (if b then Ready else Lost) ≡ true → ⊥
      by true e = true≢false (sym e)
      by false e = true≢false (sym e)
  asks-free raw st m e = absurd (true≢false (sym e))

-- a report's DELETE LINK leaves the key flow and the links
report-like : (k : ℕ) (p : Peer) → ((reports k p).flow.key ≡ (loses k p).flow.key) × ((reports k p).flow.on ≡ (loses k p).flow.on) × ((reports k p).table ≡ (loses k p).table)
report-like k p = by (loses k p) ((loses k p).group == 0)
  where
    at : (carrier : ℕ) (flow : Flow) (b : Bool) → (Flow.key (if b then flow else record flow { drops = record { slot = k; on = carrier } ∷ flow.drops }) ≡ flow.key) × (Flow.on (if b then flow else record flow { drops = record { slot = k; on = carrier } ∷ flow.drops }) ≡ flow.on)
    at carrier flow true = (refl, refl)
    at carrier flow false = (refl, refl)

    by : (q : Peer) (b : Bool) → (Flow.key (Peer.flow (if b then q else with_flow (begins_drop k (lowest_live q.table)) q)) ≡ q.flow.key) × (Flow.on (Peer.flow (if b then q else with_flow (begins_drop k (lowest_live q.table)) q)) ≡ q.flow.on) × (Peer.table (if b then q else with_flow (begins_drop k (lowest_live q.table)) q) ≡ q.table)
    by q true = (refl, refl, refl)
    by q false = let h = at (lowest_live q.table) q.flow (is_dropping k q.flow) in (h.0, h.1, refl)

pub no-loss : (b : Bool) (ps : List Post) → b ≡ true → [] ≡ (if b then [] else ps)
no-loss true ps e = refl
no-loss false ps e = absurd (true≢false (sym e))

pub peer-with : (x : Side) (q : Peer) (f : Fabric) → peer x (with_peer x q f) ≡ q
peer-with A q f = refl
peer-with B q f = refl

pub peer-beside : (x : Side) (q : Peer) (f : Fabric) → peer x (with_peer (other x) q f) ≡ peer x f
peer-beside A q f = refl
peer-beside B q f = refl

-- a request for a key is of the key flow of its side alone
key-ask-beside : (setup : Setup) (payload : List ℕ) (x : Side) (past : List Entry) → kind_in (key_kind x) (key_ask setup payload (other x) past ∷ []) ≡ None
key-ask-beside setup payload A past = refl
key-ask-beside setup payload B past = refl

trim-beside : (setup : Setup) (payload : List ℕ) (x : Side) (past : List Entry) → kind_in (key_kind x) (trim_post setup payload (other x) past ∷ []) ≡ None
trim-beside setup payload A past = refl
trim-beside setup payload B past = refl

module _ (setup : Setup) (payload : List ℕ) (past : List Entry) (flows : HasFlows past) (owed : OwedByHandshake setup payload past flows.under) (x : Side) (all : HasKeyFlow x past) where
  carried : AreCarriedOf (key_kind x) past all.under
  carried = all.carried

  -- nothing leaves a wire
  changed : (event : Event) (reply : Reply) (ps : List Post) → ((y : Side) (k : ℕ) → leaves y k event reply ≡ 0) → HasOneOf (key_kind x) ps → (kind_in (key_kind x) ps ≡ None) ⊎ (all.under ≡ None)
      → ((actor : ℕ) (cs : List Post) (w : Under) → option_or (kind_in (key_kind x) ps) all.under ≡ Some w → is_dead w.link (entry_of actor event reply (ps ++ cs) ∷ past) ≡ false → key_fits w.link.slot w.message (flow_of x (entry_of actor event reply (ps ++ cs) ∷ past)) ≡ true)
      → KeyDraft x past all.under event reply ps
  changed event reply ps none one free fits actor cs bare = record {
    left = all.under;
    new = kind_in (key_kind x) ps;
    wired = wired-changed (key_kind x) past all.under all.carried event reply ps none one free actor cs bare;
    fits = fits actor cs;
  }

  -- and the key flow stays
  same : (event : Event) (reply : Reply) (ps : List Post) → ((y : Side) (k : ℕ) → leaves y k event reply ≡ 0) → HasOneOf (key_kind x) ps → kind_in (key_kind x) ps ≡ None
      → ((actor : ℕ) (cs : List Post) → ((flow_of x (entry_of actor event reply (ps ++ cs) ∷ past)).key ≡ (flow_of x past).key) × ((flow_of x (entry_of actor event reply (ps ++ cs) ∷ past)).on ≡ (flow_of x past).on)) → KeyDraft x past all.under event reply ps
  same event reply ps none one empty like = changed event reply ps none one (inl empty)
      (λ actor cs w e alive. let h = like actor cs in key-like w.link.slot w.message (flow_of x (entry_of actor event reply (ps ++ cs) ∷ past)) (flow_of x past) h.0 h.1 ∙ all.fits w (ap (λ o. option_or o all.under) (sym empty) ∙ e))

  quiet : (event : Event) (reply : Reply) (ps : List Post) → ((y : Side) (k : ℕ) → leaves y k event reply ≡ 0) → ((actor : ℕ) (posts : List Post) → fabric (entry_of actor event reply posts ∷ past) ≡ fabric past) → HasNoLlc ps → KeyDraft x past all.under event reply ps
  quiet event reply ps none stays bare = same event reply ps none (no-llc-one (key_kind x) ps bare) (no-llc-kind (key_kind x) ps bare)
      (λ actor cs. (ap (λ f. Flow.key (Peer.flow (peer x f))) (stays actor (ps ++ cs)), ap (λ f. Flow.on (Peer.flow (peer x f))) (stays actor (ps ++ cs))))

  -- a delivery
  delivers : (slot : ℕ) (dir : Side) → KeyDraft x past all.under (Deliver slot dir) (deliver_told setup payload (other dir) past (landing slot dir past)) (act_posts setup (other dir) past (act_of (other dir) (option_map (λ (c : Placed). c.post) (landing slot dir past)) past))
  delivers slot dir = by (landing slot dir past) refl
    where
      by : (o : Option Placed) → landing slot dir past ≡ o → KeyDraft x past all.under (Deliver slot dir) (deliver_told setup payload (other dir) past o) (act_posts setup (other dir) past (act_of (other dir) (option_map (λ (c : Placed). c.post) o) past))
      by None e = quiet (Deliver slot dir) Idle [] (λ x k. refl) (λ actor posts. refl) tt
      by (Some c) e = post c.post refl
        where
          land : IsLanding slot dir past c
          land = landing-is slot dir past c e

          bare-post : (reply : Reply) → ((y : Side) (k : ℕ) → leaves y k (Deliver slot dir) reply ≡ (if Rattle.smc_num.specs.Names.same_side y dir && (k == slot) then 1 else 0)) → kind_of (key_kind x) c.post ≡ None → ((actor : ℕ) (posts : List Post) → fabric (entry_of actor (Deliver slot dir) reply posts ∷ past) ≡ fabric past) → KeyDraft x past all.under (Deliver slot dir) reply []
          bare-post reply out none stays actor cs bare = record {
            left = left_after (kind_of (key_kind x) c.post) all.under;
            new = None;
            wired = wired-landed (key_kind x) past all.under all.carried slot dir c land reply [] out tt (inl refl) actor cs bare;
            fits = λ w e alive. ap (λ f. key_fits w.link.slot w.message (Peer.flow (peer x f))) (stays actor cs) ∙ all.fits w (ap (λ o. left_after o all.under) (sym none) ∙ e);
          }

          other-post : (p : Post) → c.post ≡ p → ((f : Fabric) → lands_at (Some p) (other dir) past f ≡ f) → (actor : ℕ) (posts : List Post) → fabric (entry_of actor (Deliver slot dir) (Landed c.at) posts ∷ past) ≡ fabric past
          other-post p is stays actor posts = ap (λ o. lands_at o (other dir) past (fabric past)) (land.known ∙ ap Some is) ∙ stays (fabric past)

          post : (p : Post) → c.post ≡ p → KeyDraft x past all.under (Deliver slot dir) (lands_told setup payload (other dir) past c p) (act_posts setup (other dir) past (act_of (other dir) (Some p) past))
          post (WritePost from link key address len) is = bare-post (Landed c.at) (λ x k. refl) (ap (kind_of (key_kind x)) is) (other-post (WritePost from link key address len) is (λ f. refl))
          post (ClcPost from s link m) is = bare-post (Landed c.at) (λ x k. refl) (ap (kind_of (key_kind x)) is) (other-post (ClcPost from s link m) is (λ f. refl))
          post (Cdc from link m) is = flip (is_some (record_of setup payload (other dir) m.token past))
            where
              flip : (b : Bool) → KeyDraft x past all.under (Deliver slot dir) (if b then Landed c.at else Dropped m.token) []
              flip true = bare-post (Landed c.at) (λ x k. refl) (ap (kind_of (key_kind x)) is) (other-post (Cdc from link m) is (λ f. refl))
              flip false = bare-post (Dropped m.token) (λ x k. refl) (ap (kind_of (key_kind x)) is) (λ actor posts. refl)
          post (Llc from link m) is = go
            where
              ours : (from ≡ dir) × (link ≡ land.link)
              ours = own-message land.link dir from link m (ap (λ p. is_on land.link dir p) (sym is) ∙ land.on)

              as-dir : c.post ≡ Llc dir link m
              as-dir = is ∙ ap (λ y. Llc y link m) ours.0

              under-now : is_key_of x dir m ≡ true → all.under ≡ Some (record { from = dir; link = link; message = m })
              under-now k = landed-under (key_kind x) past all.under all.carried slot dir c land (record { from = dir; link = link; message = m }) (ap (kind_of (key_kind x)) as-dir ∙ ap (λ b. if b then Some (record { from = dir; link = link; message = m }) else None) k)

              goes : LandsKey setup x (other dir) past link m (llc_step (other dir) link m past (fabric past)) (left_of x dir link m all.under)
              goes = lands-key setup past flows link x dir all m under-now

              left_is : left_after (kind_of (key_kind x) c.post) all.under ≡ left_of x dir link m all.under
              left_is = ap (λ p. left_after (kind_of (key_kind x) p) all.under) as-dir

              after_is : lands_at (post_at c.at past) (other dir) past (fabric past) ≡ does (other dir) link m (llc_step (other dir) link m past (fabric past)) (fabric past)
              after_is = ap (λ o. lands_at o (other dir) past (fabric past)) (land.known ∙ ap Some is)

              go : KeyDraft x past all.under (Deliver slot dir) (Landed c.at) (step_posts setup (other dir) link m past (llc_step (other dir) link m past (fabric past)))
              go actor cs bare = record {
                left = left_after (kind_of (key_kind x) c.post) all.under;
                new = kind_in (key_kind x) (step_posts setup (other dir) link m past (llc_step (other dir) link m past (fabric past)));
                wired = wired-landed (key_kind x) past all.under all.carried slot dir c land (Landed c.at) (step_posts setup (other dir) link m past (llc_step (other dir) link m past (fabric past))) (λ x k. refl) goes.one
                    (elim goes.free [ inl h ↦ inl h | inr h ↦ inr (left_is ∙ h) ]) actor cs bare;
                fits = λ w e alive.
                    let h = alive-is w.link (entry_of actor (Deliver slot dir) (Landed c.at) (step_posts setup (other dir) link m past (llc_step (other dir) link m past (fabric past)) ++ cs) ∷ past) alive in
                    ap (λ f. key_fits w.link.slot w.message (Peer.flow (peer x f))) after_is
                    ∙ goes.fits w (ap (λ o. option_or (kind_in (key_kind x) (step_posts setup (other dir) link m past (llc_step (other dir) link m past (fabric past)))) o) (sym left_is) ∙ e) (ap (λ f. stands w.link (Peer.table (peer x f))) (sym after_is) ∙ h.1 x);
              }

  -- a side changes: this one
  moved-own : (event : Event) (reply : Reply) (ps : List Post) (q : Peer) → ((y : Side) (k : ℕ) → leaves y k event reply ≡ 0) → HasOneOf (key_kind x) ps → (kind_in (key_kind x) ps ≡ None) ⊎ (all.under ≡ None)
      → ((actor : ℕ) (cs : List Post) → fabric (entry_of actor event reply (ps ++ cs) ∷ past) ≡ with_peer x q (fabric past))
      → ((w : Under) → option_or (kind_in (key_kind x) ps) all.under ≡ Some w → stands w.link q.table ≡ true → key_fits w.link.slot w.message q.flow ≡ true) → KeyDraft x past all.under event reply ps
  moved-own event reply ps q none one free fab fits = changed event reply ps none one free (λ actor cs w e alive.
      let now : peer x (fabric (entry_of actor event reply (ps ++ cs) ∷ past)) ≡ q = ap (peer x) (fab actor cs) ∙ peer-with x q (fabric past) in
      let h = alive-is w.link (entry_of actor event reply (ps ++ cs) ∷ past) alive in
      ap (λ (p : Peer). key_fits w.link.slot w.message p.flow) now ∙ fits w e (ap (λ (p : Peer). stands w.link p.table) (sym now) ∙ h.1 x))

  -- or the other
  moved-other : (event : Event) (reply : Reply) (ps : List Post) (q : Peer) → ((y : Side) (k : ℕ) → leaves y k event reply ≡ 0) → HasOneOf (key_kind x) ps → kind_in (key_kind x) ps ≡ None
      → ((actor : ℕ) (cs : List Post) → fabric (entry_of actor event reply (ps ++ cs) ∷ past) ≡ with_peer (other x) q (fabric past)) → KeyDraft x past all.under event reply ps
  moved-other event reply ps q none one empty fab = same event reply ps none one empty (λ actor cs.
      let now : peer x (fabric (entry_of actor event reply (ps ++ cs) ∷ past)) ≡ peer x (fabric past) = ap (peer x) (fab actor cs) ∙ peer-beside x q (fabric past) in
      (ap (λ (p : Peer). p.flow.key) now, ap (λ (p : Peer). p.flow.on) now))

  -- a side reports a link, with these posts
  loss-of : (event : Event) (reply : Reply) (y : Side) (slot : ℕ) (ps : List Post) → ((y : Side) (k : ℕ) → leaves y k event reply ≡ 0) → dead_at slot (table_of y past) past ≡ true → ps ≡ report_posts setup y slot true past
      → ((actor : ℕ) (cs : List Post) → fabric (entry_of actor event reply (ps ++ cs) ∷ past) ≡ with_peer y (reports slot (peer y (fabric past))) (fabric past)) → KeyDraft x past all.under event reply ps
  loss-of event reply y slot ps none dead is fab = by (either-side x y)
    where
      at-own : y ≡ x → KeyDraft x past all.under event reply ps
      at-own e =
          let posts : ps ≡ report_posts setup x slot true past = is ∙ ap (λ y. report_posts setup y slot true past) e in
          let gone = gone-here past flows x slot (ap (λ y. dead_at slot (table_of y past) past) (sym e) ∙ dead) in
          let like = report-like slot (peer x (fabric past)) in
          moved-own event reply ps (reports slot (peer x (fabric past))) none
          (subst (λ ps. HasOneOf (key_kind x) ps) (sym posts) (keys-loss-one x x slot true (loses slot (peer x (fabric past))) setup (flow_of x past) past))
          (subst (λ ps. (kind_in (key_kind x) ps ≡ None) ⊎ (all.under ≡ None)) (sym posts) (keys-loss-free x past flows all slot true gone setup))
          (λ actor cs. fab actor cs ∙ ap (λ y. with_peer y (reports slot (peer y (fabric past))) (fabric past)) e)
          (λ w f s. key-like w.link.slot w.message (reports slot (peer x (fabric past))).flow (loses slot (peer x (fabric past))).flow like.0 like.1
          ∙ keys-loss-fits x past flows all slot true gone setup w (ap (λ ps. option_or (kind_in (key_kind x) ps) all.under) (sym posts) ∙ f) (ap (λ ks. stands w.link ks) (sym like.2) ∙ s))

      at-other : y ≡ other x → KeyDraft x past all.under event reply ps
      at-other e =
          let posts : ps ≡ report_posts setup (other x) slot true past = is ∙ ap (λ y. report_posts setup y slot true past) e in
          moved-other event reply ps (reports slot (peer (other x) (fabric past))) none
          (subst (λ ps. HasOneOf (key_kind x) ps) (sym posts) (keys-loss-one x (other x) slot true (loses slot (peer (other x) (fabric past))) setup (flow_of (other x) past) past))
          (ap (kind_in (key_kind x)) posts ∙ beside-loss setup x slot true (loses slot (peer (other x) (fabric past))) (flow_of (other x) past) past)
          (λ actor cs. fab actor cs ∙ ap (λ y. with_peer y (reports slot (peer y (fabric past))) (fabric past)) e)

      by : (y ≡ x) ⊎ (y ≡ other x) → KeyDraft x past all.under event reply ps
      by (inl e) = at-own e
      by (inr e) = at-other e

  -- a report
  reported : (y : Side) (slot : ℕ) → KeyDraft x past all.under (Report y slot) (report_told y slot past) (asked setup payload past (Report y slot) (report_told y slot past))
  reported y slot = by (standing_at slot (table_of y past)) (dead_at slot (table_of y past) past) ((loses slot (peer_of y past)).group == 0) refl refl
    where
      by : (b d g : Bool) → dead_at slot (table_of y past) past ≡ d → ((loses slot (peer_of y past)).group == 0) ≡ g
          → KeyDraft x past all.under (Report y slot) (if b && d then (if g then GroupEnded (peer_of y past).group else Done) else Idle) (asked setup payload past (Report y slot) (if b && d then (if g then GroupEnded (peer_of y past).group else Done) else Idle))
      by false d g e f = quiet (Report y slot) Idle [] (λ x k. refl) (λ actor posts. refl) tt
      by true false g e f = quiet (Report y slot) Idle [] (λ x k. refl) (λ actor posts. refl) tt
      by true true true e f = loss-of (Report y slot) (GroupEnded (peer_of y past).group) y slot [] (λ x k. refl) e (no-loss ((loses slot (peer_of y past)).group == 0) _ f) (λ actor cs. refl)
      by true true false e f = loss-of (Report y slot) Done y slot (report_posts setup y slot true past) (λ x k. refl) e refl (λ actor cs. refl)

  -- while no key request is out nothing is under way
  idle-none : is_asked (flow_of x past).key ≡ false → is_deleting (flow_of x past).key ≡ false → all.under ≡ None
  idle-none p q = by all.under refl
    where
      by : (u : Option Under) → all.under ≡ u → u ≡ None
      by None is = refl
      by (Some w) is = absurd (fits-open w.link.slot w.message (flow_of x past) p q (all.fits w is))

  -- what a side posts of its own, where nothing was under way
  begun-fits : (l : LinkId) (m : LlcMessage) (g : Flow) → is_key_of x x m ≡ true → key_fits l.slot m g ≡ true → all.under ≡ None → (w : Under) → option_or (kind_in (key_kind x) (Llc x l m ∷ [])) all.under ≡ Some w → key_fits w.link.slot w.message g ≡ true
  begun-fits l m g key fits none w e = own-fits x l m g key fits w (first (kind_in (key_kind x) (Llc x l m ∷ [])) (ap (λ u. option_or (kind_in (key_kind x) (Llc x l m ∷ [])) u) (sym none) ∙ e))
    where
      first : (o : Option Under) → option_or o None ≡ Some w → o ≡ Some w
      first None e = e
      first (Some v) e = e

  -- a side asks for a key
  key-asks : (event : Event) (reply : Reply) (y : Side) → ((y : Side) (k : ℕ) → leaves y k event reply ≡ 0) → is_asked (flow_of y past).key ≡ false → is_deleting (flow_of y past).key ≡ false
      → ((actor : ℕ) (cs : List Post) → fabric (entry_of actor event reply (key_ask setup payload y past ∷ cs) ∷ past) ≡ with_peer y (confirms_on (LinkId.slot (link_or_none (lowest_live (table_of y past)) (table_of y past))) (key_rmb (key_ask setup payload y past)) (peer y (fabric past))) (fabric past))
      → KeyDraft x past all.under event reply (key_ask setup payload y past ∷ [])
  key-asks event reply y none p q fab = by (either-side x y)
    where
      by : (y ≡ x) ⊎ (y ≡ other x) → KeyDraft x past all.under event reply (key_ask setup payload y past ∷ [])
      by (inl e) = subst (λ y. KeyDraft x past all.under event reply (key_ask setup payload y past ∷ [])) (sym e)
          (moved-own event reply (key_ask setup payload x past ∷ []) (confirms_on (LinkId.slot (link_or_none (lowest_live (table_of x past)) (table_of x past))) (key_rmb (key_ask setup payload x past)) (peer x (fabric past))) none (one-alone (key_kind x) (key_ask setup payload x past))
          (inr (idle-none (ap (λ y. is_asked (flow_of y past).key) (sym e) ∙ p) (ap (λ y. is_deleting (flow_of y past).key) (sym e) ∙ q)))
          (subst (λ y. (actor : ℕ) (cs : List Post) → fabric (entry_of actor event reply (key_ask setup payload y past ∷ cs) ∷ past) ≡ with_peer y (confirms_on (LinkId.slot (link_or_none (lowest_live (table_of y past)) (table_of y past))) (key_rmb (key_ask setup payload y past)) (peer y (fabric past))) (fabric past)) e fab)
          (λ w f s. begun-fits (link_or_none (lowest_live (table_of x past)) (table_of x past)) (message_of (key_ask setup payload x past)) _ (same-self x) (eq-eqb (LinkId.slot (link_or_none (lowest_live (table_of x past)) (table_of x past))) (LinkId.slot (link_or_none (lowest_live (table_of x past)) (table_of x past))) refl)
          (idle-none (ap (λ y. is_asked (flow_of y past).key) (sym e) ∙ p) (ap (λ y. is_deleting (flow_of y past).key) (sym e) ∙ q)) w f))
      by (inr e) = subst (λ y. KeyDraft x past all.under event reply (key_ask setup payload y past ∷ [])) (sym e)
          (moved-other event reply (key_ask setup payload (other x) past ∷ []) (confirms_on (LinkId.slot (link_or_none (lowest_live (table_of (other x) past)) (table_of (other x) past))) (key_rmb (key_ask setup payload (other x) past)) (peer (other x) (fabric past))) none (one-alone (key_kind x) (key_ask setup payload (other x) past)) (key-ask-beside setup payload x past)
          (subst (λ y. (actor : ℕ) (cs : List Post) → fabric (entry_of actor event reply (key_ask setup payload y past ∷ cs) ∷ past) ≡ with_peer y (confirms_on (LinkId.slot (link_or_none (lowest_live (table_of y past)) (table_of y past))) (key_rmb (key_ask setup payload y past)) (peer y (fabric past))) (fabric past)) e fab))

  -- a side takes keys back
  trims : (y : Side) → KeyDraft x past all.under (Trim y) (trim_told setup payload y past) (asked setup payload past (Trim y) (trim_told setup payload y past))
  trims y = by (group_of y past == 0) (is_first_contact (flow_of y past).link) (is_adding (flow_of y past).link) (is_asking_or_waiting (flow_of y past).key) (is_deleting (flow_of y past).key) (is_nil (trimmed setup payload y past)) refl refl
    where
      idle : (r : Reply) → ((actor : ℕ) (posts : List Post) → fabric (entry_of actor (Trim y) r posts ∷ past) ≡ fabric past) → KeyDraft x past all.under (Trim y) r []
      idle r stays = quiet (Trim y) r [] (λ x k. refl) stays tt

      not-asked : (k : KeyPhase) → is_asking_or_waiting k ≡ false → is_asked k ≡ false
      not-asked Asked e = absurd (true≢false e)
      not-asked k e = refl

      sent : (y : Side) → is_asked (flow_of y past).key ≡ false → is_deleting (flow_of y past).key ≡ false → KeyDraft x past all.under (Trim y) (Sent DeleteSent) (trim_post setup payload y past ∷ [])
      sent y p q = at (either-side x y)
        where
          at : (y ≡ x) ⊎ (y ≡ other x) → KeyDraft x past all.under (Trim y) (Sent DeleteSent) (trim_post setup payload y past ∷ [])
          at (inl e) = subst (λ y. KeyDraft x past all.under (Trim y) (Sent DeleteSent) (trim_post setup payload y past ∷ [])) (sym e)
              (moved-own (Trim x) (Sent DeleteSent) (trim_post setup payload x past ∷ []) (with_flow (begins_delete (LinkId.slot (link_or_none (lowest_live (table_of x past)) (table_of x past)))) (peer x (fabric past))) (λ x k. refl) (one-alone (key_kind x) (trim_post setup payload x past))
              (inr (idle-none (ap (λ y. is_asked (flow_of y past).key) (sym e) ∙ p) (ap (λ y. is_deleting (flow_of y past).key) (sym e) ∙ q))) (λ actor cs. refl)
              (λ w f s. begun-fits (link_or_none (lowest_live (table_of x past)) (table_of x past)) (message_of (trim_post setup payload x past)) _ (same-self x) (eq-eqb (LinkId.slot (link_or_none (lowest_live (table_of x past)) (table_of x past))) (LinkId.slot (link_or_none (lowest_live (table_of x past)) (table_of x past))) refl)
              (idle-none (ap (λ y. is_asked (flow_of y past).key) (sym e) ∙ p) (ap (λ y. is_deleting (flow_of y past).key) (sym e) ∙ q)) w f))
          at (inr e) = subst (λ y. KeyDraft x past all.under (Trim y) (Sent DeleteSent) (trim_post setup payload y past ∷ [])) (sym e)
              (moved-other (Trim (other x)) (Sent DeleteSent) (trim_post setup payload (other x) past ∷ []) (with_flow (begins_delete (LinkId.slot (link_or_none (lowest_live (table_of (other x) past)) (table_of (other x) past)))) (peer (other x) (fabric past))) (λ x k. refl) (one-alone (key_kind x) (trim_post setup payload (other x) past)) (trim-beside setup payload x past) (λ actor cs. refl))

      by : (b c d g h i : Bool) → is_asking_or_waiting (flow_of y past).key ≡ g → is_deleting (flow_of y past).key ≡ h
          → KeyDraft x past all.under (Trim y) (if b then Idle else if c then Held FirstContactHold else if d then Held AddLinkHold else if g then Held ConfirmRkeyHold else if h then Held DeleteRkeyHold else if i then Idle else Sent DeleteSent)
          (asked setup payload past (Trim y) (if b then Idle else if c then Held FirstContactHold else if d then Held AddLinkHold else if g then Held ConfirmRkeyHold else if h then Held DeleteRkeyHold else if i then Idle else Sent DeleteSent))
      by true c d g h i p q = idle Idle (λ actor posts. refl)
      by false true d g h i p q = idle (Held FirstContactHold) (λ actor posts. refl)
      by false false true g h i p q = idle (Held AddLinkHold) (λ actor posts. refl)
      by false false false true h i p q = idle (Held ConfirmRkeyHold) (λ actor posts. refl)
      by false false false false true i p q = idle (Held DeleteRkeyHold) (λ actor posts. refl)
      by false false false false false true p q = idle Idle (λ actor posts. refl)
      by false false false false false false p q = sent y (not-asked (flow_of y past).key p) q

  -- Grow and Test leave the key flows
  grows : KeyDraft x past all.under Grow (grow_told setup past) (asked setup payload past Grow (grow_told setup past))
  grows = by (grow_told setup past)
    where
      flow : (x : Side) (q : Peer) → (q.flow.key ≡ (peer B (fabric past)).flow.key) × (q.flow.on ≡ (peer B (fabric past)).flow.on) → (Flow.key (Peer.flow (peer x (with_peer B q (fabric past)))) ≡ (flow_of x past).key) × (Flow.on (Peer.flow (peer x (with_peer B q (fabric past)))) ≡ (flow_of x past).on)
      flow A q h = (refl, refl)
      flow B q h = h

      by : (r : Reply) → KeyDraft x past all.under Grow r (asked setup payload past Grow r)
      by (Sent AddLinkSent) = same Grow (Sent AddLinkSent) (grow_post (unwrap_or (head (open_slots setup past)) 0) past ∷ []) (λ x k. refl) (inr refl, tt) refl (λ actor cs. flow x _ (refl, refl))
      by r = quiet Grow r [] (λ x k. refl) (λ actor posts. refl) tt

  tests : (y : Side) (slot : ℕ) (r : Reply) → KeyDraft x past all.under (Test y slot) r (asked setup payload past (Test y slot) r)
  tests y slot (Sent TestSent) = same (Test y slot) (Sent TestSent) (test_post y slot past ∷ []) (λ x k. refl) (inr refl, tt) refl (λ actor cs. flow x y)
    where
      flow : (x y : Side) → (Flow.key (Peer.flow (peer x (with_peer y (with_flow (begins_test slot) (peer y (fabric past))) (fabric past)))) ≡ (flow_of x past).key) × (Flow.on (Peer.flow (peer x (with_peer y (with_flow (begins_test slot) (peer y (fabric past))) (fabric past)))) ≡ (flow_of x past).on)
      flow A A = (refl, refl)
      flow A B = (refl, refl)
      flow B A = (refl, refl)
      flow B B = (refl, refl)
  tests y slot r = quiet (Test y slot) r [] (λ x k. refl) (λ actor posts. refl) tt

  opens : (s : ℕ) → KeyDraft x past all.under (Open s) (open_told setup s past) (asked setup payload past (Open s) (open_told setup s past))
  opens s = by (is_opened s past || is_raw s past) (slice_index_or setup.capable 0 false) (slice_index_or setup.capable 1 false)
    where
      by : (b c d : Bool) → KeyDraft x past all.under (Open s) (if b then NameUsed else if not (c && d) then Declined (NotCapable c d) else Opened) (asked setup payload past (Open s) (if b then NameUsed else if not (c && d) then Declined (NotCapable c d) else Opened))
      by true c d = quiet (Open s) NameUsed [] (λ x k. refl) (λ actor posts. refl) tt
      by false true true = quiet (Open s) Opened (proposal_post setup s ∷ []) (λ x k. refl) (λ actor posts. refl) tt
      by false true false = quiet (Open s) (Declined (NotCapable true false)) [] (λ x k. refl) (λ actor posts. refl) tt
      by false false d = quiet (Open s) (Declined (NotCapable false d)) [] (λ x k. refl) (λ actor posts. refl) tt

  -- while B knows no link nothing is under way
  no-links : table_of B past ≡ [] → all.under ≡ None
  no-links e = by all.under refl
    where
      by : (u : Option Under) → all.under ≡ u → u ≡ None
      by None is = refl
      by (Some w) is = let h = alive-is w.link past (carried.alive w is) in absurd (true≢false (sym (h.1 B) ∙ ap (λ ks. stands w.link ks) e))

  -- a CLC message is taken, or not
  takes : (s : ℕ) (dir : Side) → KeyDraft x past all.under (Clc s dir) (clc_told setup payload s dir past) (asked setup payload past (Clc s dir) (clc_told setup payload s dir past))
  takes s dir = top (expects (end_state (other dir) s past)) (front payload dir s past) refl refl
    where
      ready : (m : ClcMessage) → front_posts setup payload (other dir) s past (front payload dir s past) ≡ clc_posts setup payload (other dir) s m past Ready → KeyDraft x past all.under (Clc s dir) (step_told (group_on s past) m Ready) (asked setup payload past (Clc s dir) (step_told (group_on s past) m Ready))
      ready (ProposalMessage p) is = quiet (Clc s dir) Idle [] (λ x k. refl) (λ actor posts. refl) tt
      ready (AcceptMessage o) is = quiet (Clc s dir) Idle [] (λ x k. refl) (λ actor posts. refl) tt
      ready (DeclineMessage r) is = quiet (Clc s dir) Idle [] (λ x k. refl) (λ actor posts. refl) tt
      ready (ConfirmMessage o) is = flip o.first refl
        where
          flip : (b : Bool) → o.first ≡ b → KeyDraft x past all.under (Clc s dir) (if b then Sent LinkSent else Established) (asked setup payload past (Clc s dir) (if b then Sent LinkSent else Established))
          flip true e = subst (λ ps. KeyDraft x past all.under (Clc s dir) (Sent LinkSent) ps) (sym (is ∙ ap (λ b. if b then first_ask setup s past ∷ [] else []) e)) (same (Clc s dir) (Sent LinkSent) (first_ask setup s past ∷ []) (λ x k. refl) (inr refl, tt) refl (λ actor cs. (refl, refl)))
          flip false e = subst (λ ps. KeyDraft x past all.under (Clc s dir) Established ps) (sym (is ∙ ap (λ b. if b then first_ask setup s past ∷ [] else []) e)) (quiet (Clc s dir) Established [] (λ x k. refl) (λ actor posts. refl) tt)

      given : (r : Reply) (ps : List Post) → front_posts setup payload (other dir) s past (front payload dir s past) ≡ ps → KeyDraft x past all.under (Clc s dir) r ps → KeyDraft x past all.under (Clc s dir) r (front_posts setup payload (other dir) s past (front payload dir s past))
      given r ps e d = subst (λ ps. KeyDraft x past all.under (Clc s dir) r ps) (sym e) d

      step : (m : ClcMessage) → IsTaken payload s dir m past → (st : ClcStep) → clc_step setup payload (other dir) s m past ≡ st → front_posts setup payload (other dir) s past (front payload dir s past) ≡ clc_posts setup payload (other dir) s m past st
          → KeyDraft x past all.under (Clc s dir) (step_told (group_on s past) m st) (asked setup payload past (Clc s dir) (step_told (group_on s past) m st))
      step m taken (SendAccept true) e p = given (Sent AcceptSent) _ p (changed (Clc s dir) (Sent AcceptSent) (accept_post setup payload s true (first_link setup past) past ∷ []) (λ x k. refl) (inr refl, tt) (inl refl)
          (λ actor cs w f alive. let h = alive-is w.link (entry_of actor (Clc s dir) (Sent AcceptSent) (accept_post setup payload s true (first_link setup past) past ∷ cs) ∷ past) alive in absurd (true≢false (sym (h.1 B)))))
      step m taken (SendAccept false) e p = given (Sent AcceptSent) _ p (same (Clc s dir) (Sent AcceptSent) (accept_post setup payload s false (fewest setup payload past) past ∷ []) (λ x k. refl) (inr refl, tt) refl (λ actor cs. (refl, refl)))
      step m taken (SendConfirm true) e p = given (Sent ConfirmSent) _ p (changed (Clc s dir) (Sent ConfirmSent) (confirm_post setup payload s true (unwrap_or (named_link s past) no_link) past ∷ []) (λ x k. refl) (inr refl, tt) (inl refl)
          (λ actor cs w f alive. let can = owed.joins s dir m taken e in absurd (none-is w (sym (no-links can.table) ∙ f))))
      step m taken (SendConfirm false) e p = given Established _ p (quiet (Clc s dir) Established (confirm_post setup payload s false (unwrap_or (named_link s past) no_link) past ∷ []) (λ x k. refl) (λ actor posts. refl) tt)
      step m taken AskKey e p = given (Sent KeySent) _ p (let h = asks-free (lacks setup payload (other dir) past) (is_raw s past) (end_state (other dir) s past) m (ap is_ask e) in key-asks (Clc s dir) (Sent KeySent) (other dir) (λ x k. refl) h.0 h.1 (λ actor cs. refl))
      step m taken (Wait hold) e p = given (Held hold) _ p (quiet (Clc s dir) (Held hold) [] (λ x k. refl) (λ actor posts. refl) tt)
      step m taken (Decline lack) e p = given (Declined lack) _ p (quiet (Clc s dir) (Declined lack) (clc_posts setup payload (other dir) s m past (Decline lack)) (λ x k. refl) (λ actor posts. refl) tt)
      step m taken Fell e p = given FellBack _ p (quiet (Clc s dir) FellBack [] (λ x k. refl) (λ actor posts. refl) tt)
      step m taken Ready e p = ready m p
      step m taken Lost e p = given (Reset (NoLiveLink (group_on s past))) _ p (quiet (Clc s dir) (Reset (NoLiveLink (group_on s past))) [] (λ x k. refl) (λ actor posts. refl) tt)
      step m taken (Wrong kind) e p = given (Reset (BadStep kind)) _ p (quiet (Clc s dir) (Reset (BadStep kind)) [] (λ x k. refl) (λ actor posts. refl) tt)

      top : (b : Bool) (f : Front) → expects (end_state (other dir) s past) ≡ b → front payload dir s past ≡ f → KeyDraft x past all.under (Clc s dir) (if b then front_told setup payload (other dir) s past f else Idle) (asked setup payload past (Clc s dir) (if b then front_told setup payload (other dir) s past f else Idle))
      top false f p q = quiet (Clc s dir) Idle [] (λ x k. refl) (λ actor posts. refl) tt
      top true NoMessage p q = quiet (Clc s dir) Idle [] (λ x k. refl) (λ actor posts. refl) tt
      top true (Faulty fault) p q = subst (λ ps. KeyDraft x past all.under (Clc s dir) (Reset (BadClc fault)) ps) (sym (ap (λ f. front_posts setup payload (other dir) s past f) q)) (quiet (Clc s dir) (Reset (BadClc fault)) [] (λ x k. refl) (λ actor posts. refl) tt)
      top true (Whole m len) p q = step m (record { waits = p; len = len; front = q }) (clc_step setup payload (other dir) s m past) refl (ap (λ f. front_posts setup payload (other dir) s past f) q)

  swallows : (slot : ℕ) (dir : Side) → KeyDraft x past all.under (Swallow slot dir) (completed_told (swallowed slot dir past)) []
  swallows slot dir actor cs bare = record {
    left = all.under;
    new = None;
    wired = wired-swallow (key_kind x) past all.under all.carried slot dir actor cs bare;
    fits = λ w e alive. all.fits w e;
  }

  drafts : (before : ℕ) (event : Event) → KeyDraft x past all.under event (reply_of before (told setup payload past event)) (asked setup payload past event (reply_of before (told setup payload past event)))
  drafts before (Open s) = opens s
  drafts before (Raw s at len) = quiet (Raw s at len) _ [] (λ x k. refl) (λ actor posts. refl) tt
  drafts before (Write end at len) = quiet (Write end at len) _ [] (λ x k. refl) (λ actor posts. refl) tt
  drafts before (Read end len) = quiet (Read end len) _ [] (λ x k. refl) (λ actor posts. refl) tt
  drafts before (Finish end) = quiet (Finish end) _ [] (λ x k. refl) (λ actor posts. refl) tt
  drafts before (Close end) = quiet (Close end) _ [] (λ x k. refl) (λ actor posts. refl) tt
  drafts before (Abort end) = quiet (Abort end) _ [] (λ x k. refl) (λ actor posts. refl) tt
  drafts before (Await end) = quiet (Await end) _ [] (λ x k. refl) (λ actor posts. refl) tt
  drafts before (Move end) = quiet (Move end) _ [] (λ x k. refl) (λ actor posts. refl) tt
  drafts before (Clc s dir) = takes s dir
  drafts before (Deliver slot dir) = delivers slot dir
  drafts before (Complete slot dir) = quiet (Complete slot dir) _ [] (λ x k. refl) (λ actor posts. refl) tt
  drafts before (Swallow slot dir) = swallows slot dir
  drafts before (Cut slot) = quiet (Cut slot) _ [] (λ x k. refl) (λ actor posts. refl) tt
  drafts before (Heal slot) = quiet (Heal slot) _ [] (λ x k. refl) (λ actor posts. refl) tt
  drafts before (Report y slot) = reported y slot
  drafts before Grow = grows
  drafts before (Test y slot) = tests y slot (reply_of before (told setup payload past (Test y slot)))
  drafts before (Trim y) = trims y

  keys-go : (before : ℕ) (e : Entry) → IsMade setup payload past before e → KeysGo x e past all.under
  keys-go before e given =
      subst (λ r. KeysGo x (entry_of e.actor e.event r e.posts) past all.under) (sym given.reply)
      (subst (λ ps. KeysGo x (entry_of e.actor e.event (reply_of before (told setup payload past e.event)) ps) past all.under) (sym given.posts)
      (drafts before e.event e.actor (connection_posts setup payload (draft setup payload past before e.event) past) (no-llc-connections setup payload (draft setup payload past before e.event) past)))

  -- the step over all events
  pub keys-go-on : (before : ℕ) (e : Entry) → IsMade setup payload past before e → HasKeyFlow x (e ∷ past)
  keys-go-on before e given =
      let k = keys-go before e given in
      let g = any-goes setup payload past flows owed before e given in
      record {
        under = living (e ∷ past) (option_or k.new k.left);
        carried = wired-after (key_kind x) past all.under all.carried flows e k.left k.new g.grows k.wired;
        fits = λ w is. k.fits w (was (option_or k.new k.left) w is) (living-alive (e ∷ past) (option_or k.new k.left) w is);
      }
    where
      was : (u : Option Under) (w : Under) → living (e ∷ past) u ≡ Some w → u ≡ Some w
      was None w is = is
      was (Some v) w is = by (is_dead v.link (e ∷ past)) is
        where
          by : (b : Bool) → (if b then None else Some v) ≡ Some w → Some v ≡ Some w
          by true is = absurd (none-is w is)
          by false is = is

-- at first
pub keys-at-first : (x : Side) → HasKeyFlow x []
keys-at-first x = record { under = None; carried = record { alive = λ w e. absurd (none-is w e); carried = λ l y alive. refl }; fits = λ w e. absurd (none-is w e) }
