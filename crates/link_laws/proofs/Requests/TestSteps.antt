-- The step of a side's test of a slot over all events: nothing of it is under way on links that are not dead but one message, and the
-- test is outstanding.
use Rattle.std.proofs.Common.{Bool, List, None, Some, [], ap, eq-eqb, eqb-true, false, if◌then◌else◌, inl, inr, not, refl, subst, sym, true, true≢false, ℕ, ◌&&◌, ◌++◌, ◌==◌, ◌||◌, ◌∙◌, ◌∷◌, ◌≡◌, ◌⊎◌}
use Rattle.std.specs.Prelude.{Option, is_some, option_map, slice_index_or, unwrap_or}
use Rattle.std.specs.Option.{option_or}
use Rattle.pipe_model.specs.Fabric.{does, lands as lands_at, loses}
use Rattle.pipe_model.specs.Wires.{landing}
use Rattle.pipe_model.specs.declared.reply.Reply.TheVariants.{Idle, Sent}
use Rattle.pipe_model.specs.declared.post.Post.TheVariants.{Clc as ClcPost, Write as WritePost}
use Rattle.pipe_model.specs.Lawful.{asked}
use Rattle.pipe_model.specs.declared.reply.SentKind.TheVariants.{Accept as AcceptSent, AddLink as AddLinkSent, Confirm as ConfirmSent, DeleteRkey as DeleteSent, ConfirmRkey as KeySent, ConfirmLink as LinkSent, TestLink as TestSent}
use Rattle.pipe_model.specs.declared.reply.Hold.TheVariants.{TestLink as TestLinkHold}
use Rattle.pipe_model.specs.declared.event.Event.TheVariants.{Clc, Raw, Write}
use Rattle.clc_wire.specs.declared.message.ClcMessage.TheVariants.{Accept as AcceptMessage, Confirm as ConfirmMessage, Decline as DeclineMessage, Proposal as ProposalMessage}
use Rattle.pipe_model.specs.Replies.{told}
use Rattle.history_laws.specs.Words.{A, Abort, AskKey, Await, B, BadClc, BadStep, Cdc, ClcMessage, ClcStep, Close, Complete, Cut, Decline, Declined, Deliver, Done, Dropped, Entry, Established, Event, Fabric, Faulty, Fell, FellBack, Finish, Flow, Front, GroupEnded, Grow, Heal, Held, Landed, LinkId, Llc, LlcMessage, Lost, Move, NameUsed, NoLiveLink, NoMessage, NotCapable, Open, Opened, Peer, Placed, Post, Read, Ready, Reply, Report, Reset, SendAccept, SendConfirm, Setup, Side, Swallow, Test, Trim, Wait, Whole, Wrong, accept_post, act_of, act_posts, begins_delete, begins_drop, begins_test, clc_posts, clc_step, clc_told, completed_told, confirm_post, confirms_on, connection_posts, dead_at, deliver_told, draft, end_state, expects, fabric, fewest, first_link, flow_of, front, front_posts, front_told, group_on, grow_post, grow_told, has, head, is_dead, is_dropping, is_live, is_on, is_opened, is_raw, is_standing, lands_told, leaves, link_or_none, llc_step, lowest_live, named_link, no_link, open_slots, open_told, other, peer, peer_of, phase_at, post_at, proposal_post, record_of, reply_of, report_posts, report_told, reports, standing_at, stands, step_posts, step_told, swallowed, table_of, test_post, test_told, trim_post, with_flow, with_peer}
use Rattle.history_laws.proofs.Basics.{and-both, and-true, either-side, live-is, none-is, or-true, some-is}
use Rattle.history_laws.specs.Made.{IsMade}
use Rattle.link_laws.specs.Linked.{Under}
use Rattle.link_laws.proofs.UnderWay.{HasNoLlc, IsLanding, Wired, alive-is, any-goes, entry_of, first_ask, key_ask, key_rmb, landed-under, landing-is, left_after, living-alive, no-llc-connections, no-llc-kind, no-llc-one, one-alone, own-message, wired-after, wired-changed, wired-landed, wired-swallow}
use Rattle.link_laws.specs.TestFlows.{HasTest, is_test_of, test_fits, test_kind}
use Rattle.link_laws.specs.UnderWay.{AreCarriedOf, HasFlows, HasOneOf, kind_in, kind_of, living}
use Rattle.link_laws.proofs.Requests.TestTaken.{LandsTest, lands-test, left_of_test, some_if, test-loss, test-loss-fits}
use Rattle.link_laws.specs.Owed.{IsTaken, OwedByHandshake}
use Rattle.link_laws.proofs.Requests.KeySteps.{no-loss, peer-beside, peer-with}
use Rattle.link_laws.proofs.Requests.KeyLandings.{message_of}
use Rattle.link_laws.proofs.Sound.{slot-of}

-- what an entry does to what is under way of that test of x
pub record TestGo (x : Side) (n : ℕ) (e : Entry) (past : List Entry) (under : Option Under) : Type 0 where
  pub left : Option Under
  pub new : Option Under
  pub wired : Wired (test_kind x n) e past under left new
  pub fits : (w : Under) → option_or new left ≡ Some w → is_dead w.link (e ∷ past) ≡ false → test_fits n w.link.slot (flow_of x (e ∷ past)) ≡ true

abbrev TestDraft : Side → ℕ → List Entry → Option Under → Event → Reply → List Post → Type 0
TestDraft x n past under event reply ps = (actor : ℕ) (cs : List Post) → HasNoLlc cs → TestGo x n (entry_of actor event reply (ps ++ cs)) past under

-- a report's DELETE LINK leaves the tests and the links
report-like : (k : ℕ) (p : Peer) → ((reports k p).flow.tests ≡ (loses k p).flow.tests) × ((reports k p).table ≡ (loses k p).table)
report-like k p = by (loses k p) ((loses k p).group == 0)
  where
    at : (carrier : ℕ) (flow : Flow) (b : Bool) → Flow.tests (if b then flow else record flow { drops = record { slot = k; on = carrier } ∷ flow.drops }) ≡ flow.tests
    at carrier flow true = refl
    at carrier flow false = refl

    by : (q : Peer) (b : Bool) → (Flow.tests (Peer.flow (if b then q else with_flow (begins_drop k (lowest_live q.table)) q)) ≡ q.flow.tests) × (Peer.table (if b then q else with_flow (begins_drop k (lowest_live q.table)) q) ≡ q.table)
    by q true = (refl, refl)
    by q false = (at (lowest_live q.table) q.flow (is_dropping k q.flow), refl)

-- what is found of a kind is of the kind
kind-is : (kind : Under → Bool) (from : Side) (link : LinkId) (m : LlcMessage) (w : Under) → kind_in kind (Llc from link m ∷ []) ≡ Some w → kind w ≡ true
kind-is kind from link m w e = by (kind (record { from = from; link = link; message = m })) refl e
  where
    by : (b : Bool) → kind (record { from = from; link = link; message = m }) ≡ b → option_or (some_if b (record { from = from; link = link; message = m })) None ≡ Some w → kind w ≡ true
    by true k e = ap kind (sym (some-is (record { from = from; link = link; message = m }) w e)) ∙ k
    by false k e = absurd (none-is w e)

-- a test is of its side alone
test-beside : (x : Side) (n slot : ℕ) (past : List Entry) → kind_in (test_kind x n) (test_post (other x) slot past ∷ []) ≡ None
test-beside A n slot past = refl
test-beside B n slot past = refl

module _ (setup : Setup) (payload : List ℕ) (past : List Entry) (flows : HasFlows past) (owed : OwedByHandshake setup payload past flows.under) (x : Side) (n : ℕ) (all : HasTest x n past) where
  carried : AreCarriedOf (test_kind x n) past all.under
  carried = all.carried

  -- nothing leaves a wire
  changed : (event : Event) (reply : Reply) (ps : List Post) → ((y : Side) (k : ℕ) → leaves y k event reply ≡ 0) → HasOneOf (test_kind x n) ps → (kind_in (test_kind x n) ps ≡ None) ⊎ (all.under ≡ None)
      → ((actor : ℕ) (cs : List Post) (w : Under) → option_or (kind_in (test_kind x n) ps) all.under ≡ Some w → is_dead w.link (entry_of actor event reply (ps ++ cs) ∷ past) ≡ false → test_fits n w.link.slot (flow_of x (entry_of actor event reply (ps ++ cs) ∷ past)) ≡ true)
      → TestDraft x n past all.under event reply ps
  changed event reply ps none one free fits actor cs bare = record {
    left = all.under;
    new = kind_in (test_kind x n) ps;
    wired = wired-changed (test_kind x n) past all.under all.carried event reply ps none one free actor cs bare;
    fits = fits actor cs;
  }

  -- and the key flow stays
  same : (event : Event) (reply : Reply) (ps : List Post) → ((y : Side) (k : ℕ) → leaves y k event reply ≡ 0) → HasOneOf (test_kind x n) ps → kind_in (test_kind x n) ps ≡ None
      → ((actor : ℕ) (cs : List Post) → (flow_of x (entry_of actor event reply (ps ++ cs) ∷ past)).tests ≡ (flow_of x past).tests) → TestDraft x n past all.under event reply ps
  same event reply ps none one empty like = changed event reply ps none one (inl empty)
      (λ actor cs w e alive. ap (λ ks. (w.link.slot == n) && has n ks) (like actor cs) ∙ all.fits w (ap (λ o. option_or o all.under) (sym empty) ∙ e))

  quiet : (event : Event) (reply : Reply) (ps : List Post) → ((y : Side) (k : ℕ) → leaves y k event reply ≡ 0) → ((actor : ℕ) (posts : List Post) → fabric (entry_of actor event reply posts ∷ past) ≡ fabric past) → HasNoLlc ps → TestDraft x n past all.under event reply ps
  quiet event reply ps none stays bare = same event reply ps none (no-llc-one (test_kind x n) ps bare) (no-llc-kind (test_kind x n) ps bare)
      (λ actor cs. ap (λ f. Flow.tests (Peer.flow (peer x f))) (stays actor (ps ++ cs)))

  -- a delivery
  delivers : (slot : ℕ) (dir : Side) → TestDraft x n past all.under (Deliver slot dir) (deliver_told setup payload (other dir) past (landing slot dir past)) (act_posts setup (other dir) past (act_of (other dir) (option_map (λ (c : Placed). c.post) (landing slot dir past)) past))
  delivers slot dir = by (landing slot dir past) refl
    where
      by : (o : Option Placed) → landing slot dir past ≡ o → TestDraft x n past all.under (Deliver slot dir) (deliver_told setup payload (other dir) past o) (act_posts setup (other dir) past (act_of (other dir) (option_map (λ (c : Placed). c.post) o) past))
      by None e = quiet (Deliver slot dir) Idle [] (λ x k. refl) (λ actor posts. refl) tt
      by (Some c) e = post c.post refl
        where
          land : IsLanding slot dir past c
          land = landing-is slot dir past c e

          bare-post : (reply : Reply) → ((y : Side) (k : ℕ) → leaves y k (Deliver slot dir) reply ≡ (if Rattle.smc_num.specs.Names.same_side y dir && (k == slot) then 1 else 0)) → kind_of (test_kind x n) c.post ≡ None → ((actor : ℕ) (posts : List Post) → fabric (entry_of actor (Deliver slot dir) reply posts ∷ past) ≡ fabric past) → TestDraft x n past all.under (Deliver slot dir) reply []
          bare-post reply out none stays actor cs bare = record {
            left = left_after (kind_of (test_kind x n) c.post) all.under;
            new = None;
            wired = wired-landed (test_kind x n) past all.under all.carried slot dir c land reply [] out tt (inl refl) actor cs bare;
            fits = λ w e alive. ap (λ f. test_fits n w.link.slot (Peer.flow (peer x f))) (stays actor cs) ∙ all.fits w (ap (λ o. left_after o all.under) (sym none) ∙ e);
          }

          other-post : (p : Post) → c.post ≡ p → ((f : Fabric) → lands_at (Some p) (other dir) past f ≡ f) → (actor : ℕ) (posts : List Post) → fabric (entry_of actor (Deliver slot dir) (Landed c.at) posts ∷ past) ≡ fabric past
          other-post p is stays actor posts = ap (λ o. lands_at o (other dir) past (fabric past)) (land.known ∙ ap Some is) ∙ stays (fabric past)

          post : (p : Post) → c.post ≡ p → TestDraft x n past all.under (Deliver slot dir) (lands_told setup payload (other dir) past c p) (act_posts setup (other dir) past (act_of (other dir) (Some p) past))
          post (WritePost from link key address len) is = bare-post (Landed c.at) (λ x k. refl) (ap (kind_of (test_kind x n)) is) (other-post (WritePost from link key address len) is (λ f. refl))
          post (ClcPost from s link m) is = bare-post (Landed c.at) (λ x k. refl) (ap (kind_of (test_kind x n)) is) (other-post (ClcPost from s link m) is (λ f. refl))
          post (Cdc from link m) is = flip (is_some (record_of setup payload (other dir) m.token past))
            where
              flip : (b : Bool) → TestDraft x n past all.under (Deliver slot dir) (if b then Landed c.at else Dropped m.token) []
              flip true = bare-post (Landed c.at) (λ x k. refl) (ap (kind_of (test_kind x n)) is) (other-post (Cdc from link m) is (λ f. refl))
              flip false = bare-post (Dropped m.token) (λ x k. refl) (ap (kind_of (test_kind x n)) is) (λ actor posts. refl)
          post (Llc from link m) is = go
            where
              ours : (from ≡ dir) × (link ≡ land.link)
              ours = own-message land.link dir from link m (ap (λ p. is_on land.link dir p) (sym is) ∙ land.on)

              as-dir : c.post ≡ Llc dir link m
              as-dir = is ∙ ap (λ y. Llc y link m) ours.0

              under-now : test_kind x n (record { from = dir; link = link; message = m }) ≡ true → all.under ≡ Some (record { from = dir; link = link; message = m })
              under-now k = landed-under (test_kind x n) past all.under all.carried slot dir c land (record { from = dir; link = link; message = m }) (ap (kind_of (test_kind x n)) as-dir ∙ ap (λ b. if b then Some (record { from = dir; link = link; message = m }) else None) k)

              goes : LandsTest setup x n (other dir) past link m (llc_step (other dir) link m past (fabric past)) (left_of_test x n dir link m all.under)
              goes = lands-test setup past flows n link x dir all m under-now

              left_is : left_after (kind_of (test_kind x n) c.post) all.under ≡ left_of_test x n dir link m all.under
              left_is = ap (λ p. left_after (kind_of (test_kind x n) p) all.under) as-dir

              after_is : lands_at (post_at c.at past) (other dir) past (fabric past) ≡ does (other dir) link m (llc_step (other dir) link m past (fabric past)) (fabric past)
              after_is = ap (λ o. lands_at o (other dir) past (fabric past)) (land.known ∙ ap Some is)

              go : TestDraft x n past all.under (Deliver slot dir) (Landed c.at) (step_posts setup (other dir) link m past (llc_step (other dir) link m past (fabric past)))
              go actor cs bare = record {
                left = left_after (kind_of (test_kind x n) c.post) all.under;
                new = kind_in (test_kind x n) (step_posts setup (other dir) link m past (llc_step (other dir) link m past (fabric past)));
                wired = wired-landed (test_kind x n) past all.under all.carried slot dir c land (Landed c.at) (step_posts setup (other dir) link m past (llc_step (other dir) link m past (fabric past))) (λ x k. refl) goes.one
                    (elim goes.free [ inl h ↦ inl h | inr h ↦ inr (left_is ∙ h) ]) actor cs bare;
                fits = λ w e alive.
                    let h = alive-is w.link (entry_of actor (Deliver slot dir) (Landed c.at) (step_posts setup (other dir) link m past (llc_step (other dir) link m past (fabric past)) ++ cs) ∷ past) alive in
                    ap (λ f. test_fits n w.link.slot (Peer.flow (peer x f))) after_is
                    ∙ goes.fits w (ap (λ o. option_or (kind_in (test_kind x n) (step_posts setup (other dir) link m past (llc_step (other dir) link m past (fabric past)))) o) (sym left_is) ∙ e) (ap (λ f. stands w.link (Peer.table (peer x f))) (sym after_is) ∙ h.1 x);
              }

  -- a side changes: this one
  moved-own : (event : Event) (reply : Reply) (ps : List Post) (q : Peer) → ((y : Side) (k : ℕ) → leaves y k event reply ≡ 0) → HasOneOf (test_kind x n) ps → (kind_in (test_kind x n) ps ≡ None) ⊎ (all.under ≡ None)
      → ((actor : ℕ) (cs : List Post) → fabric (entry_of actor event reply (ps ++ cs) ∷ past) ≡ with_peer x q (fabric past))
      → ((w : Under) → option_or (kind_in (test_kind x n) ps) all.under ≡ Some w → stands w.link q.table ≡ true → test_fits n w.link.slot q.flow ≡ true) → TestDraft x n past all.under event reply ps
  moved-own event reply ps q none one free fab fits = changed event reply ps none one free (λ actor cs w e alive.
      let now : peer x (fabric (entry_of actor event reply (ps ++ cs) ∷ past)) ≡ q = ap (peer x) (fab actor cs) ∙ peer-with x q (fabric past) in
      let h = alive-is w.link (entry_of actor event reply (ps ++ cs) ∷ past) alive in
      ap (λ (p : Peer). test_fits n w.link.slot p.flow) now ∙ fits w e (ap (λ (p : Peer). stands w.link p.table) (sym now) ∙ h.1 x))

  -- or the other
  moved-other : (event : Event) (reply : Reply) (ps : List Post) (q : Peer) → ((y : Side) (k : ℕ) → leaves y k event reply ≡ 0) → HasOneOf (test_kind x n) ps → kind_in (test_kind x n) ps ≡ None
      → ((actor : ℕ) (cs : List Post) → fabric (entry_of actor event reply (ps ++ cs) ∷ past) ≡ with_peer (other x) q (fabric past)) → TestDraft x n past all.under event reply ps
  moved-other event reply ps q none one empty fab = same event reply ps none one empty (λ actor cs.
      let now : peer x (fabric (entry_of actor event reply (ps ++ cs) ∷ past)) ≡ peer x (fabric past) = ap (peer x) (fab actor cs) ∙ peer-beside x q (fabric past) in
      ap (λ (p : Peer). p.flow.tests) now)

  -- a side reports a link, with these posts
  loss-of : (event : Event) (reply : Reply) (y : Side) (slot : ℕ) (ps : List Post) → ((y : Side) (k : ℕ) → leaves y k event reply ≡ 0) → dead_at slot (table_of y past) past ≡ true → ps ≡ report_posts setup y slot true past
      → ((actor : ℕ) (cs : List Post) → fabric (entry_of actor event reply (ps ++ cs) ∷ past) ≡ with_peer y (reports slot (peer y (fabric past))) (fabric past)) → TestDraft x n past all.under event reply ps
  loss-of event reply y slot ps none dead is fab = by (either-side x y)
    where
      at-own : y ≡ x → TestDraft x n past all.under event reply ps
      at-own e =
          let posts : ps ≡ report_posts setup x slot true past = is ∙ ap (λ y. report_posts setup y slot true past) e in
          let like = report-like slot (peer x (fabric past)) in
          let quiet = test-loss x n x slot true (loses slot (peer x (fabric past))) setup (flow_of x past) past in
          moved-own event reply ps (reports slot (peer x (fabric past))) none
          (subst (λ ps. HasOneOf (test_kind x n) ps) (sym posts) quiet.1)
          (inl (ap (kind_in (test_kind x n)) posts ∙ quiet.0))
          (λ actor cs. fab actor cs ∙ ap (λ y. with_peer y (reports slot (peer y (fabric past))) (fabric past)) e)
          (λ w f s. ap (λ ks. (w.link.slot == n) && has n ks) like.0
          ∙ test-loss-fits x n past flows slot w.link (all.fits w (ap (λ o. option_or o all.under) (sym (ap (kind_in (test_kind x n)) posts ∙ quiet.0)) ∙ f)) (ap (λ ks. stands w.link ks) (sym like.1) ∙ s))

      at-other : y ≡ other x → TestDraft x n past all.under event reply ps
      at-other e =
          let posts : ps ≡ report_posts setup (other x) slot true past = is ∙ ap (λ y. report_posts setup y slot true past) e in
          let quiet = test-loss x n (other x) slot true (loses slot (peer (other x) (fabric past))) setup (flow_of (other x) past) past in
          moved-other event reply ps (reports slot (peer (other x) (fabric past))) none
          (subst (λ ps. HasOneOf (test_kind x n) ps) (sym posts) quiet.1)
          (ap (kind_in (test_kind x n)) posts ∙ quiet.0)
          (λ actor cs. fab actor cs ∙ ap (λ y. with_peer y (reports slot (peer y (fabric past))) (fabric past)) e)

      by : (y ≡ x) ⊎ (y ≡ other x) → TestDraft x n past all.under event reply ps
      by (inl e) = at-own e
      by (inr e) = at-other e

  -- a report
  reported : (y : Side) (slot : ℕ) → TestDraft x n past all.under (Report y slot) (report_told y slot past) (asked setup payload past (Report y slot) (report_told y slot past))
  reported y slot = by (standing_at slot (table_of y past)) (dead_at slot (table_of y past) past) ((loses slot (peer_of y past)).group == 0) refl refl
    where
      by : (b d g : Bool) → dead_at slot (table_of y past) past ≡ d → ((loses slot (peer_of y past)).group == 0) ≡ g
          → TestDraft x n past all.under (Report y slot) (if b && d then (if g then GroupEnded (peer_of y past).group else Done) else Idle) (asked setup payload past (Report y slot) (if b && d then (if g then GroupEnded (peer_of y past).group else Done) else Idle))
      by false d g e f = quiet (Report y slot) Idle [] (λ x k. refl) (λ actor posts. refl) tt
      by true false g e f = quiet (Report y slot) Idle [] (λ x k. refl) (λ actor posts. refl) tt
      by true true true e f = loss-of (Report y slot) (GroupEnded (peer_of y past).group) y slot [] (λ x k. refl) e (no-loss ((loses slot (peer_of y past)).group == 0) _ f) (λ actor cs. refl)
      by true true false e f = loss-of (Report y slot) Done y slot (report_posts setup y slot true past) (λ x k. refl) e refl (λ actor cs. refl)

  -- a side asks for a key, or takes keys back
  untested : (event : Event) (reply : Reply) (y : Side) (p : Post) (q : Peer) → ((y : Side) (k : ℕ) → leaves y k event reply ≡ 0) → kind_in (test_kind x n) (p ∷ []) ≡ None → q.flow.tests ≡ (flow_of y past).tests
      → ((actor : ℕ) (cs : List Post) → fabric (entry_of actor event reply (p ∷ cs) ∷ past) ≡ with_peer y q (fabric past)) → TestDraft x n past all.under event reply (p ∷ [])
  untested event reply y p q none empty tests fab = same event reply (p ∷ []) none (one-alone (test_kind x n) p) empty (λ actor cs. ap (λ f. Flow.tests (Peer.flow (peer x f))) (fab actor cs) ∙ by (either-side x y))
    where
      by : (y ≡ x) ⊎ (y ≡ other x) → Flow.tests (Peer.flow (peer x (with_peer y q (fabric past)))) ≡ (flow_of x past).tests
      by (inl e) = ap (λ y. Flow.tests (Peer.flow (peer x (with_peer y q (fabric past))))) e ∙ (ap (λ (p : Peer). p.flow.tests) (peer-with x q (fabric past)) ∙ (tests ∙ ap (λ y. (flow_of y past).tests) e))
      by (inr e) = ap (λ y. Flow.tests (Peer.flow (peer x (with_peer y q (fabric past))))) e ∙ ap (λ (p : Peer). p.flow.tests) (peer-beside x q (fabric past))

  trims : (y : Side) (r : Reply) → TestDraft x n past all.under (Trim y) r (asked setup payload past (Trim y) r)
  trims y (Sent DeleteSent) = untested (Trim y) (Sent DeleteSent) y (trim_post setup payload y past) (with_flow (begins_delete (LinkId.slot (link_or_none (lowest_live (table_of y past)) (table_of y past)))) (peer y (fabric past))) (λ x k. refl) refl refl (λ actor cs. refl)
  trims y r = quiet (Trim y) r [] (λ x k. refl) (λ actor posts. refl) tt

  -- Grow leaves the tests
  grows : TestDraft x n past all.under Grow (grow_told setup past) (asked setup payload past Grow (grow_told setup past))
  grows = by (grow_told setup past)
    where
      flow : (x : Side) (q : Peer) → q.flow.tests ≡ (peer B (fabric past)).flow.tests → Flow.tests (Peer.flow (peer x (with_peer B q (fabric past)))) ≡ (flow_of x past).tests
      flow A q h = refl
      flow B q h = h

      by : (r : Reply) → TestDraft x n past all.under Grow r (asked setup payload past Grow r)
      by (Sent AddLinkSent) = same Grow (Sent AddLinkSent) (grow_post (unwrap_or (head (open_slots setup past)) 0) past ∷ []) (λ x k. refl) (inr refl, tt) refl (λ actor cs. flow x _ refl)
      by r = quiet Grow r [] (λ x k. refl) (λ actor posts. refl) tt

  -- this side tests that slot
  tests-one : (slot : ℕ) → (slot == n) ≡ true → has slot (flow_of x past).tests ≡ false → TestDraft x n past all.under (Test x slot) (Sent TestSent) (test_post x slot past ∷ [])
  tests-one slot e free = moved-own (Test x slot) (Sent TestSent) (test_post x slot past ∷ []) (with_flow (begins_test slot) (peer x (fabric past))) (λ x k. refl) (one-alone (test_kind x n) (test_post x slot past)) (inr nothing) (λ actor cs. refl)
      (λ w f s. let h = kind-is (test_kind x n) x (link_or_none slot (table_of x past)) (message_of (test_post x slot past)) w (first w (kind_in (test_kind x n) (test_post x slot past ∷ [])) (ap (λ u. option_or (kind_in (test_kind x n) (test_post x slot past ∷ [])) u) (sym nothing) ∙ f)) in
      let g = and-both (is_test_of x w.from w.message) (w.link.slot == n) h in
      and-true (w.link.slot == n) _ g.1 (ap (λ b. b || has n (flow_of x past).tests) (eq-eqb n slot (sym (eqb-true slot n e)))))
    where
      nothing : all.under ≡ None
      nothing = at all.under refl
        where
          at : (u : Option Under) → all.under ≡ u → u ≡ None
          at None is = refl
          at (Some w) is = let h = and-both (w.link.slot == n) (has n (flow_of x past).tests) (all.fits w is) in absurd (true≢false (sym h.1 ∙ (ap (λ k. has k (flow_of x past).tests) (sym (eqb-true slot n e)) ∙ free)))

      first : (w : Under) (o : Option Under) → option_or o None ≡ Some w → o ≡ Some w
      first w None e = e
      first w (Some v) e = e

  -- or another
  tests-beside : (slot : ℕ) → (slot == n) ≡ false → is_live (phase_at slot (table_of x past)) ≡ true → TestDraft x n past all.under (Test x slot) (Sent TestSent) (test_post x slot past ∷ [])
  tests-beside slot e live = moved-own (Test x slot) (Sent TestSent) (test_post x slot past ∷ []) (with_flow (begins_test slot) (peer x (fabric past))) (λ x k. refl) (one-alone (test_kind x n) (test_post x slot past)) (inl none) (λ actor cs. refl)
      (λ w f s. let h = and-both (w.link.slot == n) (has n (flow_of x past).tests) (all.fits w (ap (λ o. option_or o all.under) (sym none) ∙ f)) in and-true (w.link.slot == n) _ h.0 (or-true (n == slot) (has n (flow_of x past).tests) h.1))
    where
      on : LinkId.slot (link_or_none slot (table_of x past)) ≡ slot
      on = slot-of slot (table_of x past) (ap is_standing (live-is (phase_at slot (table_of x past)) live))

      none : kind_in (test_kind x n) (test_post x slot past ∷ []) ≡ None
      none = ap (λ b. option_or (some_if (is_test_of x x (message_of (test_post x slot past)) && b) (record { from = x; link = link_or_none slot (table_of x past); message = message_of (test_post x slot past) })) None) (ap (λ k. k == n) on ∙ e) ∙ no-and (is_test_of x x (message_of (test_post x slot past)))
        where
          no-and : (b : Bool) → option_or (some_if (b && false) (record { from = x; link = link_or_none slot (table_of x past); message = message_of (test_post x slot past) })) None ≡ None
          no-and true = refl
          no-and false = refl

  -- a side tests the link of a slot
  tests : (y : Side) (slot : ℕ) → TestDraft x n past all.under (Test y slot) (test_told y slot past) (asked setup payload past (Test y slot) (test_told y slot past))
  tests y slot = by (is_live (phase_at slot (table_of y past))) (has slot (flow_of y past).tests) refl refl
    where
      sent : is_live (phase_at slot (table_of y past)) ≡ true → has slot (flow_of y past).tests ≡ false → (y ≡ x) ⊎ (y ≡ other x) → TestDraft x n past all.under (Test y slot) (Sent TestSent) (test_post y slot past ∷ [])
      sent p q (inl e) = subst (λ y. TestDraft x n past all.under (Test y slot) (Sent TestSent) (test_post y slot past ∷ [])) (sym e) (at (slot == n) refl)
        where
          at : (b : Bool) → (slot == n) ≡ b → TestDraft x n past all.under (Test x slot) (Sent TestSent) (test_post x slot past ∷ [])
          at true f = tests-one slot f (ap (λ y. has slot (flow_of y past).tests) (sym e) ∙ q)
          at false f = tests-beside slot f (ap (λ y. is_live (phase_at slot (table_of y past))) (sym e) ∙ p)
      sent p q (inr e) = subst (λ y. TestDraft x n past all.under (Test y slot) (Sent TestSent) (test_post y slot past ∷ [])) (sym e)
          (moved-other (Test (other x) slot) (Sent TestSent) (test_post (other x) slot past ∷ []) (with_flow (begins_test slot) (peer (other x) (fabric past))) (λ x k. refl) (one-alone (test_kind x n) (test_post (other x) slot past)) (test-beside x n slot past) (λ actor cs. refl))

      by : (b c : Bool) → is_live (phase_at slot (table_of y past)) ≡ b → has slot (flow_of y past).tests ≡ c → TestDraft x n past all.under (Test y slot) (if not b then Idle else if c then Held TestLinkHold else Sent TestSent) (asked setup payload past (Test y slot) (if not b then Idle else if c then Held TestLinkHold else Sent TestSent))
      by false c p q = quiet (Test y slot) Idle [] (λ x k. refl) (λ actor posts. refl) tt
      by true true p q = quiet (Test y slot) (Held TestLinkHold) [] (λ x k. refl) (λ actor posts. refl) tt
      by true false p q = sent p q (either-side x y)

  opens : (s : ℕ) → TestDraft x n past all.under (Open s) (open_told setup s past) (asked setup payload past (Open s) (open_told setup s past))
  opens s = by (is_opened s past || is_raw s past) (slice_index_or setup.capable 0 false) (slice_index_or setup.capable 1 false)
    where
      by : (b c d : Bool) → TestDraft x n past all.under (Open s) (if b then NameUsed else if not (c && d) then Declined (NotCapable c d) else Opened) (asked setup payload past (Open s) (if b then NameUsed else if not (c && d) then Declined (NotCapable c d) else Opened))
      by true c d = quiet (Open s) NameUsed [] (λ x k. refl) (λ actor posts. refl) tt
      by false true true = quiet (Open s) Opened (proposal_post setup s ∷ []) (λ x k. refl) (λ actor posts. refl) tt
      by false true false = quiet (Open s) (Declined (NotCapable true false)) [] (λ x k. refl) (λ actor posts. refl) tt
      by false false d = quiet (Open s) (Declined (NotCapable false d)) [] (λ x k. refl) (λ actor posts. refl) tt

  -- while B knows no link nothing is under way
  no-links : table_of B past ≡ [] → all.under ≡ None
  no-links e = by all.under refl
    where
      by : (u : Option Under) → all.under ≡ u → u ≡ None
      by None is = refl
      by (Some w) is = let h = alive-is w.link past (carried.alive w is) in absurd (true≢false (sym (h.1 B) ∙ ap (λ ks. stands w.link ks) e))

  -- a CLC message is taken, or not
  takes : (s : ℕ) (dir : Side) → TestDraft x n past all.under (Clc s dir) (clc_told setup payload s dir past) (asked setup payload past (Clc s dir) (clc_told setup payload s dir past))
  takes s dir = top (expects (end_state (other dir) s past)) (front payload dir s past) refl refl
    where
      ready : (m : ClcMessage) → front_posts setup payload (other dir) s past (front payload dir s past) ≡ clc_posts setup payload (other dir) s m past Ready → TestDraft x n past all.under (Clc s dir) (step_told (group_on s past) m Ready) (asked setup payload past (Clc s dir) (step_told (group_on s past) m Ready))
      ready (ProposalMessage p) is = quiet (Clc s dir) Idle [] (λ x k. refl) (λ actor posts. refl) tt
      ready (AcceptMessage o) is = quiet (Clc s dir) Idle [] (λ x k. refl) (λ actor posts. refl) tt
      ready (DeclineMessage r) is = quiet (Clc s dir) Idle [] (λ x k. refl) (λ actor posts. refl) tt
      ready (ConfirmMessage o) is = flip o.first refl
        where
          flip : (b : Bool) → o.first ≡ b → TestDraft x n past all.under (Clc s dir) (if b then Sent LinkSent else Established) (asked setup payload past (Clc s dir) (if b then Sent LinkSent else Established))
          flip true e = subst (λ ps. TestDraft x n past all.under (Clc s dir) (Sent LinkSent) ps) (sym (is ∙ ap (λ b. if b then first_ask setup s past ∷ [] else []) e)) (same (Clc s dir) (Sent LinkSent) (first_ask setup s past ∷ []) (λ x k. refl) (inr refl, tt) refl (λ actor cs. refl))
          flip false e = subst (λ ps. TestDraft x n past all.under (Clc s dir) Established ps) (sym (is ∙ ap (λ b. if b then first_ask setup s past ∷ [] else []) e)) (quiet (Clc s dir) Established [] (λ x k. refl) (λ actor posts. refl) tt)

      given : (r : Reply) (ps : List Post) → front_posts setup payload (other dir) s past (front payload dir s past) ≡ ps → TestDraft x n past all.under (Clc s dir) r ps → TestDraft x n past all.under (Clc s dir) r (front_posts setup payload (other dir) s past (front payload dir s past))
      given r ps e d = subst (λ ps. TestDraft x n past all.under (Clc s dir) r ps) (sym e) d

      step : (m : ClcMessage) → IsTaken payload s dir m past → (st : ClcStep) → clc_step setup payload (other dir) s m past ≡ st → front_posts setup payload (other dir) s past (front payload dir s past) ≡ clc_posts setup payload (other dir) s m past st
          → TestDraft x n past all.under (Clc s dir) (step_told (group_on s past) m st) (asked setup payload past (Clc s dir) (step_told (group_on s past) m st))
      step m taken (SendAccept true) e p = given (Sent AcceptSent) _ p (changed (Clc s dir) (Sent AcceptSent) (accept_post setup payload s true (first_link setup past) past ∷ []) (λ x k. refl) (inr refl, tt) (inl refl)
          (λ actor cs w f alive. let h = alive-is w.link (entry_of actor (Clc s dir) (Sent AcceptSent) (accept_post setup payload s true (first_link setup past) past ∷ cs) ∷ past) alive in absurd (true≢false (sym (h.1 B)))))
      step m taken (SendAccept false) e p = given (Sent AcceptSent) _ p (same (Clc s dir) (Sent AcceptSent) (accept_post setup payload s false (fewest setup payload past) past ∷ []) (λ x k. refl) (inr refl, tt) refl (λ actor cs. refl))
      step m taken (SendConfirm true) e p = given (Sent ConfirmSent) _ p (changed (Clc s dir) (Sent ConfirmSent) (confirm_post setup payload s true (unwrap_or (named_link s past) no_link) past ∷ []) (λ x k. refl) (inr refl, tt) (inl refl)
          (λ actor cs w f alive. let can = owed.joins s dir m taken e in absurd (none-is w (sym (no-links can.table) ∙ f))))
      step m taken (SendConfirm false) e p = given Established _ p (quiet (Clc s dir) Established (confirm_post setup payload s false (unwrap_or (named_link s past) no_link) past ∷ []) (λ x k. refl) (λ actor posts. refl) tt)
      step m taken AskKey e p = given (Sent KeySent) _ p (untested (Clc s dir) (Sent KeySent) (other dir) (key_ask setup payload (other dir) past) (confirms_on (LinkId.slot (link_or_none (lowest_live (table_of (other dir) past)) (table_of (other dir) past))) (key_rmb (key_ask setup payload (other dir) past)) (peer (other dir) (fabric past))) (λ x k. refl) refl refl (λ actor cs. refl))
      step m taken (Wait hold) e p = given (Held hold) _ p (quiet (Clc s dir) (Held hold) [] (λ x k. refl) (λ actor posts. refl) tt)
      step m taken (Decline lack) e p = given (Declined lack) _ p (quiet (Clc s dir) (Declined lack) (clc_posts setup payload (other dir) s m past (Decline lack)) (λ x k. refl) (λ actor posts. refl) tt)
      step m taken Fell e p = given FellBack _ p (quiet (Clc s dir) FellBack [] (λ x k. refl) (λ actor posts. refl) tt)
      step m taken Ready e p = ready m p
      step m taken Lost e p = given (Reset (NoLiveLink (group_on s past))) _ p (quiet (Clc s dir) (Reset (NoLiveLink (group_on s past))) [] (λ x k. refl) (λ actor posts. refl) tt)
      step m taken (Wrong kind) e p = given (Reset (BadStep kind)) _ p (quiet (Clc s dir) (Reset (BadStep kind)) [] (λ x k. refl) (λ actor posts. refl) tt)

      top : (b : Bool) (f : Front) → expects (end_state (other dir) s past) ≡ b → front payload dir s past ≡ f → TestDraft x n past all.under (Clc s dir) (if b then front_told setup payload (other dir) s past f else Idle) (asked setup payload past (Clc s dir) (if b then front_told setup payload (other dir) s past f else Idle))
      top false f p q = quiet (Clc s dir) Idle [] (λ x k. refl) (λ actor posts. refl) tt
      top true NoMessage p q = quiet (Clc s dir) Idle [] (λ x k. refl) (λ actor posts. refl) tt
      top true (Faulty fault) p q = subst (λ ps. TestDraft x n past all.under (Clc s dir) (Reset (BadClc fault)) ps) (sym (ap (λ f. front_posts setup payload (other dir) s past f) q)) (quiet (Clc s dir) (Reset (BadClc fault)) [] (λ x k. refl) (λ actor posts. refl) tt)
      top true (Whole m len) p q = step m (record { waits = p; len = len; front = q }) (clc_step setup payload (other dir) s m past) refl (ap (λ f. front_posts setup payload (other dir) s past f) q)

  swallows : (slot : ℕ) (dir : Side) → TestDraft x n past all.under (Swallow slot dir) (completed_told (swallowed slot dir past)) []
  swallows slot dir actor cs bare = record {
    left = all.under;
    new = None;
    wired = wired-swallow (test_kind x n) past all.under all.carried slot dir actor cs bare;
    fits = λ w e alive. all.fits w e;
  }

  drafts : (before : ℕ) (event : Event) → TestDraft x n past all.under event (reply_of before (told setup payload past event)) (asked setup payload past event (reply_of before (told setup payload past event)))
  drafts before (Open s) = opens s
  drafts before (Raw s at len) = quiet (Raw s at len) _ [] (λ x k. refl) (λ actor posts. refl) tt
  drafts before (Write end at len) = quiet (Write end at len) _ [] (λ x k. refl) (λ actor posts. refl) tt
  drafts before (Read end len) = quiet (Read end len) _ [] (λ x k. refl) (λ actor posts. refl) tt
  drafts before (Finish end) = quiet (Finish end) _ [] (λ x k. refl) (λ actor posts. refl) tt
  drafts before (Close end) = quiet (Close end) _ [] (λ x k. refl) (λ actor posts. refl) tt
  drafts before (Abort end) = quiet (Abort end) _ [] (λ x k. refl) (λ actor posts. refl) tt
  drafts before (Await end) = quiet (Await end) _ [] (λ x k. refl) (λ actor posts. refl) tt
  drafts before (Move end) = quiet (Move end) _ [] (λ x k. refl) (λ actor posts. refl) tt
  drafts before (Clc s dir) = takes s dir
  drafts before (Deliver slot dir) = delivers slot dir
  drafts before (Complete slot dir) = quiet (Complete slot dir) _ [] (λ x k. refl) (λ actor posts. refl) tt
  drafts before (Swallow slot dir) = swallows slot dir
  drafts before (Cut slot) = quiet (Cut slot) _ [] (λ x k. refl) (λ actor posts. refl) tt
  drafts before (Heal slot) = quiet (Heal slot) _ [] (λ x k. refl) (λ actor posts. refl) tt
  drafts before (Report y slot) = reported y slot
  drafts before Grow = grows
  drafts before (Test y slot) = tests y slot
  drafts before (Trim y) = trims y (reply_of before (told setup payload past (Trim y)))

  test-goes : (before : ℕ) (e : Entry) → IsMade setup payload past before e → TestGo x n e past all.under
  test-goes before e given =
      subst (λ r. TestGo x n (entry_of e.actor e.event r e.posts) past all.under) (sym given.reply)
      (subst (λ ps. TestGo x n (entry_of e.actor e.event (reply_of before (told setup payload past e.event)) ps) past all.under) (sym given.posts)
      (drafts before e.event e.actor (connection_posts setup payload (draft setup payload past before e.event) past) (no-llc-connections setup payload (draft setup payload past before e.event) past)))

  -- the step over all events
  pub test-goes-on : (before : ℕ) (e : Entry) → IsMade setup payload past before e → HasTest x n (e ∷ past)
  test-goes-on before e given =
      let k = test-goes before e given in
      let g = any-goes setup payload past flows owed before e given in
      record {
        under = living (e ∷ past) (option_or k.new k.left);
        carried = wired-after (test_kind x n) past all.under all.carried flows e k.left k.new g.grows k.wired;
        fits = λ w is. k.fits w (was (option_or k.new k.left) w is) (living-alive (e ∷ past) (option_or k.new k.left) w is);
      }
    where
      was : (u : Option Under) (w : Under) → living (e ∷ past) u ≡ Some w → u ≡ Some w
      was None w is = is
      was (Some v) w is = by (is_dead v.link (e ∷ past)) is
        where
          by : (b : Bool) → (if b then None else Some v) ≡ Some w → Some v ≡ Some w
          by true is = absurd (none-is w is)
          by false is = is

-- at first
pub test-at-first : (x : Side) (n : ℕ) → HasTest x n []
test-at-first x n = record { under = None; carried = record { alive = λ w e. absurd (none-is w e); carried = λ l y alive. refl }; fits = λ w e. absurd (none-is w e) }
