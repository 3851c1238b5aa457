-- Whatever LLC message lands at either side: what is under way of a side's test of a slot is then the answer, or nothing, or what was, and
-- the test is outstanding.
use Rattle.std.proofs.Common.{Bool, List, None, Some, [], ap, eq-eqb, eqb-true, false, filter, if◌then◌else◌, inl, inr, not, refl, subst, sym, true, true≢false, ℕ, ◌&&◌, ◌++◌, ◌==◌, ◌||◌, ◌∙◌, ◌∷◌, ◌≡◌, ◌⊎◌}
use Rattle.pipe_model.specs.declared.flow.KeyPhase.TheVariants.{Asked, Free, Retry as RetryWaits}
use Rattle.std.specs.Option.{option_or}
use Rattle.pipe_model.specs.Fabric.{does, loses}
use Rattle.std.specs.Prelude.{Option}
use Rattle.pipe_model.specs.declared.flow.FlowStep.TheVariants.{Answered, Confirmed, Live}
use Rattle.history_laws.specs.Words.{A, AddKeys, AddLink, AddSent, AskLink, B, ConfirmLink, ConfirmRkey, Dead, DeleteLink, DeleteRkey, Deleting, Echo, Entry, Fabric, Flow, FlowStep, Forget, Gone, Key, KeyPhase, KeyToken, Keys, KeysSent, Learn, LinkFlow, LinkId, Llc, LlcMessage, Over, Peer, Post, Reject, ReplyAdd, ReplyKeys, ReplyRetry, Retry, SendKeys, Setup, Side, Skip, TestLink, Withdraw, add_again, all_dead, delete_link, deleting_rmbs, drop_posts, ends_group, fabric, flow_of, flow_slot, goes_on, has, is_adding, is_dropping, key_again, keys_of, link_or_none, llc_step, loss_posts, lowest_live, on_confirm_rkey_reply, on_delete_rkey_reply, other, pair_on, peer, resends_add, resends_key, set_phase, stands, step_posts, table_of, without_slot}
use Rattle.history_laws.proofs.Basics.{and-both, and-true, none-is, some-is}
use Rattle.link_laws.proofs.Sound.{after-rises, all-none, none-stands, stood, true-not-false}
use Rattle.link_laws.specs.UnderWay.{HasFlows, HasOneOf, kind_in, kind_of}
use Rattle.link_laws.specs.TestFlows.{HasTest, is_test_of, test_fits, test_kind}
use Rattle.link_laws.proofs.UnderWay.{kind-append, left_after, one-append}
use Rattle.link_laws.specs.Linked.{AreLinked, IsOwn, Under, is_link_message}
use Rattle.link_laws.proofs.Requests.KeyPosts.{IsLinkStep, any-one, flow-other, link-step}
use Rattle.link_laws.proofs.Requests.KeyTaken.{link-not-gone}

-- what is still outstanding as other tests end
pub has-filter : (k j : ℕ) (ks : List ℕ) → (k == j) ≡ false → has k ks ≡ true → has k (filter (λ i. not (i == j)) ks) ≡ true
has-filter k j [] ne e = absurd (true≢false (sym e))
has-filter k j (i ∷ ks) ne e = by (i == j) (k == i) refl refl e (λ f. has-filter k j ks ne f)
  where
    by : (b c : Bool) → (i == j) ≡ b → (k == i) ≡ c → (c || has k ks) ≡ true → (has k ks ≡ true → has k (filter (λ i. not (i == j)) ks) ≡ true) → has k (if not b then i ∷ filter (λ i. not (i == j)) ks else filter (λ i. not (i == j)) ks) ≡ true
    by true true p q e ih = absurd (true-not-false (k == j) (eq-eqb k j (eqb-true k i q ∙ eqb-true i j p)) ne)
    by true false p q e ih = ih e
    by false true p q e ih = ap (λ b. b || has k (filter (λ i. not (i == j)) ks)) q
    by false false p q e ih = ap (λ b. b || has k (filter (λ i. not (i == j)) ks)) q ∙ ih e

-- a loss posts nothing of a test
module _ (x : Side) (n : ℕ) (z : Side) (k : ℕ) (own : Bool) (p : Peer) where
  drop-none : (b : Bool) → (kind_in (test_kind x n) (if b then Llc z (link_or_none (lowest_live p.table) p.table) (delete_link k) ∷ [] else []) ≡ None) × HasOneOf (test_kind x n) (if b then Llc z (link_or_none (lowest_live p.table) p.table) (delete_link k) ∷ [] else [])
  drop-none true = (refl, (inl refl, tt))
  drop-none false = (refl, tt)

  key-none : (keys : List Key) (rmbs : List ℕ) (phase : KeyPhase) (b : Bool) → (kind_in (test_kind x n) (if b then key_again z p keys rmbs phase ∷ [] else []) ≡ None) × HasOneOf (test_kind x n) (if b then key_again z p keys rmbs phase ∷ [] else [])
  key-none keys rmbs Deleting true = (refl, (inl refl, tt))
  key-none keys rmbs Free true = (refl, (inl refl, tt))
  key-none keys rmbs Asked true = (refl, (inl refl, tt))
  key-none keys rmbs RetryWaits true = (refl, (inl refl, tt))
  key-none keys rmbs phase false = (refl, tt)

  add-none : (ks : Keys) (qp : ℕ) (flow : LinkFlow) (b : Bool) → (kind_in (test_kind x n) (if b then add_again z p ks qp flow else []) ≡ None) × HasOneOf (test_kind x n) (if b then add_again z p ks qp flow else [])
  add-none ks qp (AddSent j on) true = (refl, (inl refl, tt))
  add-none ks qp (KeysSent j on) true = (refl, (inl refl, tt))
  add-none ks qp flow true = (refl, tt)
  add-none ks qp flow false = (refl, tt)

  -- a loss posts nothing of a test
  pub test-loss : (setup : Setup) (before : Flow) (past : List Entry) → (kind_in (test_kind x n) (loss_posts setup z k own p before past) ≡ None) × HasOneOf (test_kind x n) (loss_posts setup z k own p before past)
  test-loss setup before past = by (p.group == 0)
    where
      ds : List Post
      ds = drop_posts z k own p

      by : (b : Bool) → (kind_in (test_kind x n) (if b then [] else (drop_posts z k own p ++ (if resends_key k before then key_again z p (keys_of z past).keys (deleting_rmbs setup z past) before.key ∷ [] else [])) ++ (if resends_add k before.link then add_again z p (keys_of z past) (pair_on z (flow_slot before.link) past) before.link else [])) ≡ None)
          × HasOneOf (test_kind x n) (if b then [] else (drop_posts z k own p ++ (if resends_key k before then key_again z p (keys_of z past).keys (deleting_rmbs setup z past) before.key ∷ [] else [])) ++ (if resends_add k before.link then add_again z p (keys_of z past) (pair_on z (flow_slot before.link) past) before.link else []))
      by true = (refl, tt)
      by false =
          let d = drop-none (own && not (is_dropping k p.flow)) in
          let q = key-none (keys_of z past).keys (deleting_rmbs setup z past) before.key (resends_key k before) in
          let a = add-none (keys_of z past) (pair_on z (flow_slot before.link) past) before.link (resends_add k before.link) in (
            kind-append (test_kind x n) (drop_posts z k own p ++ (if resends_key k before then key_again z p (keys_of z past).keys (deleting_rmbs setup z past) before.key ∷ [] else [])) _
                ∙ (ap (λ o. option_or o (kind_in (test_kind x n) (if resends_add k before.link then add_again z p (keys_of z past) (pair_on z (flow_slot before.link) past) before.link else []))) (kind-append (test_kind x n) (drop_posts z k own p) _ ∙ (ap (λ o. option_or o (kind_in (test_kind x n) (if resends_key k before then key_again z p (keys_of z past).keys (deleting_rmbs setup z past) before.key ∷ [] else []))) d.0 ∙ q.0)) ∙ a.0),
            one-append (test_kind x n) (drop_posts z k own p ++ (if resends_key k before then key_again z p (keys_of z past).keys (deleting_rmbs setup z past) before.key ∷ [] else [])) _ (one-append (test_kind x n) (drop_posts z k own p) _ d.1 q.1 (inl d.0)) a.1 (inr a.0),
          )

-- a loss leaves the tests of other slots
module _ (x : Side) (n : ℕ) (past : List Entry) (flows : HasFlows past) where
  linked : AreLinked (fabric past) flows.under
  linked = flows.linked

  own : IsOwn x (peer x (fabric past))
  own = linked.own x

  -- a test of a link that still stands after a loss is outstanding still
  pub test-loss-fits : (k : ℕ) (l : LinkId) → test_fits n l.slot (flow_of x past) ≡ true → stands l (loses k (peer x (fabric past))).table ≡ true → test_fits n l.slot (loses k (peer x (fabric past))).flow ≡ true
  test-loss-fits k l fit s = by (lowest_live (set_phase k Dead (table_of x past)) == 0) s
    where
      by : (b : Bool) → stands l (Peer.table (if b then ends_group (without_slot k (peer x (fabric past))) else goes_on k (without_slot k (peer x (fabric past))))) ≡ true → test_fits n l.slot (Peer.flow (if b then ends_group (without_slot k (peer x (fabric past))) else goes_on k (without_slot k (peer x (fabric past))))) ≡ true
      by true s = absurd (true-not-false (stands l (all_dead (set_phase k Dead (table_of x past)))) s (none-stands l (all_dead (set_phase k Dead (table_of x past))) (all-none (set_phase k Dead (table_of x past)))))
      by false s =
          let st = stood k l (table_of x past) (after-rises x k (peer x (fabric past)) own) s in
          let h = and-both (l.slot == n) (has n (flow_of x past).tests) fit in
          and-true (l.slot == n) _ h.0 (has-filter n k (flow_of x past).tests (ap (λ i. i == k) (sym (eqb-true l.slot n h.0)) ∙ st.0) h.1)

-- what is left of what was under way of the test, as a message of `from` lands
abbrev pub left_of_test : Side → ℕ → Side → LinkId → LlcMessage → Option Under → Option Under
left_of_test x n from l m u = left_after (kind_of (test_kind x n) (Llc from l m)) u

-- a message, where a test says so
abbrev pub some_if : Bool → Under → Option Under
some_if b w = if b then Some w else None

-- what a landing at z does to that test of x
pub record LandsTest (setup : Setup) (x : Side) (n : ℕ) (z : Side) (past : List Entry) (l : LinkId) (m : LlcMessage) (step : FlowStep) (left : Option Under) : Type 0 where
  pub one : HasOneOf (test_kind x n) (step_posts setup z l m past step)
  pub free : (kind_in (test_kind x n) (step_posts setup z l m past step) ≡ None) ⊎ (left ≡ None)
  pub fits : (w : Under) → option_or (kind_in (test_kind x n) (step_posts setup z l m past step)) left ≡ Some w → stands w.link (peer x (does z l m step (fabric past))).table ≡ true → test_fits n w.link.slot (peer x (does z l m step (fabric past))).flow ≡ true

-- a step for a message of the link flow leaves the tests, and posts nothing of them
link-step-tests : (z : Side) (l : LinkId) (m : LlcMessage) (step : FlowStep) (f : Fabric) → IsLinkStep step → Flow.tests (Peer.flow (peer z (does z l m step f))) ≡ Flow.tests (Peer.flow (peer z f))
link-step-tests A l m Skip f s = refl
link-step-tests B l m Skip f s = refl
link-step-tests A l m (Live reply first) f s = refl
link-step-tests B l m (Live reply first) f s = refl
link-step-tests A l m SendKeys f s = refl
link-step-tests B l m SendKeys f s = refl
link-step-tests A l m Over f s = refl
link-step-tests B l m Over f s = refl
link-step-tests A l m AskLink f s = refl
link-step-tests B l m AskLink f s = refl
link-step-tests A l m (ReplyKeys known) f s = refl
link-step-tests B l m (ReplyKeys known) f s = refl
link-step-tests A l m (ReplyAdd false) f s = refl
link-step-tests B l m (ReplyAdd false) f s = refl
link-step-tests A l m (ReplyAdd true) f s = refl
link-step-tests B l m (ReplyAdd true) f s = refl
link-step-tests A l m Reject f s = refl
link-step-tests B l m Reject f s = refl
link-step-tests z l m step f s = absurd s

link-step-none : (setup : Setup) (z : Side) (on : LinkId) (past : List Entry) (x : Side) (n : ℕ) (m : LlcMessage) (step : FlowStep) → IsLinkStep step → kind_in (test_kind x n) (step_posts setup z on m past step) ≡ None
link-step-none setup z on past x n m Skip s = refl
link-step-none setup z on past x n m (Live true first) s = refl
link-step-none setup z on past x n m (Live false first) s = refl
link-step-none setup z on past x n m SendKeys s = refl
link-step-none setup z on past x n m Over s = refl
link-step-none setup z on past x n m AskLink s = refl
link-step-none setup z on past x n m (ReplyKeys true) s = refl
link-step-none setup z on past x n m (ReplyKeys false) s = refl
link-step-none setup z on past x n m (ReplyAdd again) s = refl
link-step-none setup z on past x n m Reject s = refl
link-step-none setup z on past x n m step s = absurd s

flow-beside : (x : Side) (l : LinkId) (m : LlcMessage) (step : FlowStep) (f : Fabric) → Flow.tests (Peer.flow (peer x (does (other x) l m step f))) ≡ Flow.tests (Peer.flow (peer x f))
flow-beside A l m step f = ap (λ (f : Flow). f.tests) (flow-other B l m step f)
flow-beside B l m step f = ap (λ (f : Flow). f.tests) (flow-other A l m step f)

module _ (setup : Setup) (past : List Entry) (flows : HasFlows past) (x : Side) (n : ℕ) (all : HasTest x n past) (l : LinkId) where
  -- nothing of the test comes or goes, and the tests stay
  plain : (z : Side) (m : LlcMessage) (step : FlowStep) → HasOneOf (test_kind x n) (step_posts setup z l m past step) → kind_in (test_kind x n) (step_posts setup z l m past step) ≡ None
      → Flow.tests (Peer.flow (peer x (does z l m step (fabric past)))) ≡ (flow_of x past).tests → LandsTest setup x n z past l m step all.under
  plain z m step one none same = record {
    one = one;
    free = inl none;
    fits = λ w e s. ap (λ ks. (w.link.slot == n) && has n ks) same ∙ all.fits w (ap (λ o. option_or o all.under) (sym none) ∙ e);
  }

  link-own : (z : Side) (same : (m : LlcMessage) (step : FlowStep) → IsLinkStep step → Flow.tests (Peer.flow (peer x (does z l m step (fabric past)))) ≡ (flow_of x past).tests) (m : LlcMessage) → is_link_message m ≡ true → LandsTest setup x n z past l m (llc_step z l m past (fabric past)) all.under
  link-own z same m e = let s = link-step _ _ l.slot _ z m e in plain z m _ (any-one (test_kind x n) setup z l past m _ (link-not-gone _ s)) (link-step-none setup z l past x n m _ s) (same m _ s)

  -- a request that lands is answered
  echoed : (z : Side) (bytes : List ℕ) → z ≡ other x → ((l.slot == n) ≡ true → all.under ≡ Some (record { from = x; link = l; message = TestLink false bytes })) → is_test_of x z (TestLink true bytes) ≡ true → is_test_of x x (TestLink false bytes) ≡ true
      → Flow.tests (Peer.flow (peer x (does z l (TestLink false bytes) Echo (fabric past)))) ≡ (flow_of x past).tests → LandsTest setup x n z past l (TestLink false bytes) Echo (left_of_test x n x l (TestLink false bytes) all.under)
  echoed z bytes is h reply request same = by (l.slot == n) refl
    where
      by : (b : Bool) → (l.slot == n) ≡ b → LandsTest setup x n z past l (TestLink false bytes) Echo (left_of_test x n x l (TestLink false bytes) all.under)
      by true e = record {
        one = (inr refl, tt);
        free = inr left;
        fits = λ w f s.
            let v : record { from = z; link = l; message = TestLink true bytes } ≡ w = some-is _ w (sym new ∙ (ap (λ o. option_or (kind_in (test_kind x n) (Llc z l (TestLink true bytes) ∷ [])) o) (sym left) ∙ f)) in
            subst (λ (v : Under). test_fits n v.link.slot (Peer.flow (peer x (does z l (TestLink false bytes) Echo (fabric past)))) ≡ true) v (ap (λ ks. (l.slot == n) && has n ks) same ∙ all.fits (record { from = x; link = l; message = TestLink false bytes }) (h e));
      }
        where
          left : left_of_test x n x l (TestLink false bytes) all.under ≡ None
          left = ap (λ b. left_after (if b && (l.slot == n) then Some (record { from = x; link = l; message = TestLink false bytes }) else None) all.under) request ∙ ap (λ b. left_after (if b then Some (record { from = x; link = l; message = TestLink false bytes }) else None) all.under) e

          new : option_or (kind_in (test_kind x n) (Llc z l (TestLink true bytes) ∷ [])) None ≡ Some (record { from = z; link = l; message = TestLink true bytes })
          new = ap (λ b. option_or (option_or (if b && (l.slot == n) then Some (record { from = z; link = l; message = TestLink true bytes }) else None) None) None) reply ∙ ap (λ b. option_or (option_or (if b then Some (record { from = z; link = l; message = TestLink true bytes }) else None) None) None) e
      by false e = record {
        one = (inr refl, tt);
        free = inl none;
        fits = λ w f s. ap (λ ks. (w.link.slot == n) && has n ks) same ∙ all.fits w (sym left ∙ (ap (λ o. option_or o (left_of_test x n x l (TestLink false bytes) all.under)) (sym none) ∙ f));
      }
        where
          none : kind_in (test_kind x n) (Llc z l (TestLink true bytes) ∷ []) ≡ None
          none = ap (λ b. option_or (if is_test_of x z (TestLink true bytes) && b then Some (record { from = z; link = l; message = TestLink true bytes }) else None) None) e ∙ no-and (is_test_of x z (TestLink true bytes))
            where
              no-and : (b : Bool) → option_or (some_if (b && false) (record { from = z; link = l; message = TestLink true bytes })) None ≡ None
              no-and true = refl
              no-and false = refl

          left : left_of_test x n x l (TestLink false bytes) all.under ≡ all.under
          left = ap (λ b. left_after (if is_test_of x x (TestLink false bytes) && b then Some (record { from = x; link = l; message = TestLink false bytes }) else None) all.under) e ∙ no-and (is_test_of x x (TestLink false bytes))
            where
              no-and : (b : Bool) → left_after (if b && false then Some (record { from = x; link = l; message = TestLink false bytes }) else None) all.under ≡ all.under
              no-and true = refl
              no-and false = refl

  -- an answer ends the test of its slot, and leaves those of others
  answered : (from : Side) (bytes : List ℕ) → is_test_of x from (TestLink true bytes) ≡ true → Flow.tests (Peer.flow (peer x (does x l (TestLink true bytes) Answered (fabric past)))) ≡ filter (λ i. not (i == l.slot)) (flow_of x past).tests
      → LandsTest setup x n x past l (TestLink true bytes) Answered (left_of_test x n from l (TestLink true bytes) all.under)
  answered from bytes reply same = by (l.slot == n) refl
    where
      by : (b : Bool) → (l.slot == n) ≡ b → LandsTest setup x n x past l (TestLink true bytes) Answered (left_of_test x n from l (TestLink true bytes) all.under)
      by true e = record { one = tt; free = inl refl; fits = λ w f s. absurd (none-is w (sym left ∙ f)) }
        where
          left : left_of_test x n from l (TestLink true bytes) all.under ≡ None
          left = ap (λ b. left_after (if b && (l.slot == n) then Some (record { from = from; link = l; message = TestLink true bytes }) else None) all.under) reply ∙ ap (λ b. left_after (if b then Some (record { from = from; link = l; message = TestLink true bytes }) else None) all.under) e
      by false e = record {
        one = tt;
        free = inl refl;
        fits = λ w f s.
            let h = and-both (w.link.slot == n) (has n (flow_of x past).tests) (all.fits w (sym left ∙ f)) in
            ap (λ ks. (w.link.slot == n) && has n ks) same ∙ and-true (w.link.slot == n) _ h.0 (has-filter n l.slot (flow_of x past).tests (apart (n == l.slot) refl) h.1);
      }
        where
          apart : (b : Bool) → (n == l.slot) ≡ b → b ≡ false
          apart true p = absurd (true-not-false (l.slot == n) (eq-eqb l.slot n (sym (eqb-true n l.slot p))) e)
          apart false p = refl

          left : left_of_test x n from l (TestLink true bytes) all.under ≡ all.under
          left = ap (λ b. left_after (if is_test_of x from (TestLink true bytes) && b then Some (record { from = from; link = l; message = TestLink true bytes }) else None) all.under) e ∙ no-and (is_test_of x from (TestLink true bytes))
            where
              no-and : (b : Bool) → left_after (if b && false then Some (record { from = from; link = l; message = TestLink true bytes }) else None) all.under ≡ all.under
              no-and true = refl
              no-and false = refl

module _ (setup : Setup) (past : List Entry) (flows : HasFlows past) (n : ℕ) (l : LinkId) where
  module _ (x : Side) (all : HasTest x n past) where
    plain-other : (m : LlcMessage) (step : FlowStep) → HasOneOf (test_kind x n) (step_posts setup (other x) l m past step) → kind_in (test_kind x n) (step_posts setup (other x) l m past step) ≡ None → LandsTest setup x n (other x) past l m step all.under
    plain-other m step one none = plain setup past flows x n all l (other x) m step one none (flow-beside x l m step (fabric past))

    no-posts : (m : LlcMessage) (step : FlowStep) → step_posts setup (other x) l m past step ≡ [] → LandsTest setup x n (other x) past l m step all.under
    no-posts m step e = plain-other m step (subst (λ ps. HasOneOf (test_kind x n) ps) (sym e) tt) (ap (kind_in (test_kind x n)) e)

    link-other : (m : LlcMessage) → is_link_message m ≡ true → LandsTest setup x n (other x) past l m (llc_step (other x) l m past (fabric past)) all.under
    link-other m e = link-own setup past flows x n all l (other x) (λ m step s. flow-beside x l m step (fabric past)) m e

    link-here : (m : LlcMessage) → is_link_message m ≡ true → LandsTest setup x n x past l m (llc_step x l m past (fabric past)) all.under
    link-here m e = link-own setup past flows x n all l x (λ m step s. link-step-tests x l m step (fabric past) s) m e

    key-reply-other : (retry negative : Bool) (others : ℕ) (tokens : List KeyToken) (whole : Bool) (phase : KeyPhase) → LandsTest setup x n (other x) past l (ConfirmRkey true retry negative others tokens) (on_confirm_rkey_reply retry whole phase) all.under
    key-reply-other retry negative others tokens whole Asked = by (not retry && whole)
      where
        by : (b : Bool) → LandsTest setup x n (other x) past l (ConfirmRkey true retry negative others tokens) (if b then Confirmed else Retry) all.under
        by true = no-posts (ConfirmRkey true retry negative others tokens) Confirmed refl
        by false = no-posts (ConfirmRkey true retry negative others tokens) Retry refl
    key-reply-other retry negative others tokens whole Free = no-posts (ConfirmRkey true retry negative others tokens) Skip refl
    key-reply-other retry negative others tokens whole RetryWaits = no-posts (ConfirmRkey true retry negative others tokens) Skip refl
    key-reply-other retry negative others tokens whole Deleting = no-posts (ConfirmRkey true retry negative others tokens) Skip refl

    delete-reply-other : (negative : Bool) (count mask : ℕ) (keys : List ℕ) (phase : KeyPhase) → LandsTest setup x n (other x) past l (DeleteRkey true negative count mask keys) (on_delete_rkey_reply phase) all.under
    delete-reply-other negative count mask keys Deleting = no-posts (DeleteRkey true negative count mask keys) Withdraw refl
    delete-reply-other negative count mask keys Free = no-posts (DeleteRkey true negative count mask keys) Skip refl
    delete-reply-other negative count mask keys Asked = no-posts (DeleteRkey true negative count mask keys) Skip refl
    delete-reply-other negative count mask keys RetryWaits = no-posts (DeleteRkey true negative count mask keys) Skip refl

    gone-other : (every orderly : Bool) (k reason : ℕ) (b : Bool) → LandsTest setup x n (other x) past l (DeleteLink false every orderly k reason) (Gone b) all.under
    gone-other every orderly k reason true = let h = test-loss x n (other x) k false (loses k (peer (other x) (fabric past))) setup (flow_of (other x) past) past in plain-other (DeleteLink false every orderly k reason) (Gone true) (inl refl, h.1) h.0
    gone-other every orderly k reason false = plain-other (DeleteLink false every orderly k reason) (Gone false) (inl refl, tt) refl

  at-other : (x : Side) (all : HasTest x n past) (m : LlcMessage) → (test_kind x n (record { from = x; link = l; message = m }) ≡ true → HasTest.under all ≡ Some (record { from = x; link = l; message = m })) → LandsTest setup x n (other x) past l m (llc_step (other x) l m past (fabric past)) (left_of_test x n x l m (HasTest.under all))
  at-other x all (ConfirmLink reply mac gid qp k user most) h = link-other x all (ConfirmLink reply mac gid qp k user most) refl
  at-other x all (AddLink reply rejected reason mac gid qp k mtu psn) h = link-other x all (AddLink reply rejected reason mac gid qp k mtu psn) refl
  at-other x all (AddKeys reply k count keys) h = link-other x all (AddKeys reply k count keys) refl
  at-other A all (DeleteLink false every orderly k reason) h = gone-other A all every orderly k reason _
  at-other B all (DeleteLink false every orderly k reason) h = gone-other B all every orderly k reason _
  at-other A all (DeleteLink true every orderly k reason) h = no-posts A all (DeleteLink true every orderly k reason) Answered refl
  at-other B all (DeleteLink true every orderly k reason) h = no-posts B all (DeleteLink true every orderly k reason) Answered refl
  at-other A all (TestLink false bytes) h = echoed setup past flows A n all l B bytes refl h refl refl refl
  at-other B all (TestLink false bytes) h = echoed setup past flows B n all l A bytes refl h refl refl refl
  at-other A all (TestLink true bytes) h = no-posts A all (TestLink true bytes) Answered refl
  at-other B all (TestLink true bytes) h = no-posts B all (TestLink true bytes) Answered refl
  at-other A all (ConfirmRkey false retry negative others tokens) h = by (is_adding (flow_of B past).link)
    where
      by : (b : Bool) → LandsTest setup A n B past l (ConfirmRkey false retry negative others tokens) (if b then ReplyRetry else Learn) (HasTest.under all)
      by true = plain-other A all (ConfirmRkey false retry negative others tokens) ReplyRetry (inr refl, tt) refl
      by false = plain-other A all (ConfirmRkey false retry negative others tokens) Learn (inr refl, tt) refl
  at-other B all (ConfirmRkey false retry negative others tokens) h = plain-other B all (ConfirmRkey false retry negative others tokens) Learn (inr refl, tt) refl
  at-other A all (ConfirmRkey true retry negative others tokens) h = key-reply-other A all retry negative others tokens _ (flow_of B past).key
  at-other B all (ConfirmRkey true retry negative others tokens) h = key-reply-other B all retry negative others tokens _ (flow_of A past).key
  at-other A all (DeleteRkey false negative count mask keys) h = plain-other A all (DeleteRkey false negative count mask keys) Forget (inr refl, tt) refl
  at-other B all (DeleteRkey false negative count mask keys) h = plain-other B all (DeleteRkey false negative count mask keys) Forget (inr refl, tt) refl
  at-other A all (DeleteRkey true negative count mask keys) h = delete-reply-other A all negative count mask keys (flow_of B past).key
  at-other B all (DeleteRkey true negative count mask keys) h = delete-reply-other B all negative count mask keys (flow_of A past).key

  -- what ends a key request leaves the tests
  key-answered : (x : Side) (all : HasTest x n past) (retry negative : Bool) (others : ℕ) (tokens : List KeyToken) (whole : Bool) (phase : KeyPhase) → LandsTest setup x n x past l (ConfirmRkey true retry negative others tokens) (on_confirm_rkey_reply retry whole phase) (HasTest.under all)
  key-answered A all retry negative others tokens whole Asked = by (not retry && whole)
    where
      by : (b : Bool) → LandsTest setup A n A past l (ConfirmRkey true retry negative others tokens) (if b then Confirmed else Retry) (HasTest.under all)
      by true = plain setup past flows A n all l A (ConfirmRkey true retry negative others tokens) Confirmed tt refl refl
      by false = plain setup past flows A n all l A (ConfirmRkey true retry negative others tokens) Retry tt refl refl
  key-answered B all retry negative others tokens whole Asked = by (not retry && whole)
    where
      by : (b : Bool) → LandsTest setup B n B past l (ConfirmRkey true retry negative others tokens) (if b then Confirmed else Retry) (HasTest.under all)
      by true = plain setup past flows B n all l B (ConfirmRkey true retry negative others tokens) Confirmed tt refl refl
      by false = plain setup past flows B n all l B (ConfirmRkey true retry negative others tokens) Retry tt refl refl
  key-answered A all retry negative others tokens whole Free = plain setup past flows A n all l A (ConfirmRkey true retry negative others tokens) Skip tt refl refl
  key-answered B all retry negative others tokens whole Free = plain setup past flows B n all l B (ConfirmRkey true retry negative others tokens) Skip tt refl refl
  key-answered A all retry negative others tokens whole RetryWaits = plain setup past flows A n all l A (ConfirmRkey true retry negative others tokens) Skip tt refl refl
  key-answered B all retry negative others tokens whole RetryWaits = plain setup past flows B n all l B (ConfirmRkey true retry negative others tokens) Skip tt refl refl
  key-answered A all retry negative others tokens whole Deleting = plain setup past flows A n all l A (ConfirmRkey true retry negative others tokens) Skip tt refl refl
  key-answered B all retry negative others tokens whole Deleting = plain setup past flows B n all l B (ConfirmRkey true retry negative others tokens) Skip tt refl refl

  delete-answered : (x : Side) (all : HasTest x n past) (negative : Bool) (count mask : ℕ) (keys : List ℕ) (phase : KeyPhase) → LandsTest setup x n x past l (DeleteRkey true negative count mask keys) (on_delete_rkey_reply phase) (HasTest.under all)
  delete-answered A all negative count mask keys Deleting = plain setup past flows A n all l A (DeleteRkey true negative count mask keys) Withdraw tt refl refl
  delete-answered B all negative count mask keys Deleting = plain setup past flows B n all l B (DeleteRkey true negative count mask keys) Withdraw tt refl refl
  delete-answered A all negative count mask keys Free = plain setup past flows A n all l A (DeleteRkey true negative count mask keys) Skip tt refl refl
  delete-answered B all negative count mask keys Free = plain setup past flows B n all l B (DeleteRkey true negative count mask keys) Skip tt refl refl
  delete-answered A all negative count mask keys Asked = plain setup past flows A n all l A (DeleteRkey true negative count mask keys) Skip tt refl refl
  delete-answered B all negative count mask keys Asked = plain setup past flows B n all l B (DeleteRkey true negative count mask keys) Skip tt refl refl
  delete-answered A all negative count mask keys RetryWaits = plain setup past flows A n all l A (DeleteRkey true negative count mask keys) Skip tt refl refl
  delete-answered B all negative count mask keys RetryWaits = plain setup past flows B n all l B (DeleteRkey true negative count mask keys) Skip tt refl refl

  gone-here-test : (x : Side) (all : HasTest x n past) (every orderly : Bool) (k reason : ℕ) (b : Bool) → LandsTest setup x n x past l (DeleteLink false every orderly k reason) (Gone b) (HasTest.under all)
  gone-here-test A all every orderly k reason false = plain setup past flows A n all l A (DeleteLink false every orderly k reason) (Gone false) (inl refl, tt) refl refl
  gone-here-test B all every orderly k reason false = plain setup past flows B n all l B (DeleteLink false every orderly k reason) (Gone false) (inl refl, tt) refl refl
  gone-here-test A all every orderly k reason true = let h = test-loss A n A k false (loses k (peer A (fabric past))) setup (flow_of A past) past in record {
    one = (inl refl, h.1);
    free = inl h.0;
    fits = λ w e s. test-loss-fits A n past flows k w.link (all.fits w (ap (λ o. option_or o all.under) (sym h.0) ∙ e)) s;
  }
  gone-here-test B all every orderly k reason true = let h = test-loss B n B k false (loses k (peer B (fabric past))) setup (flow_of B past) past in record {
    one = (inl refl, h.1);
    free = inl h.0;
    fits = λ w e s. test-loss-fits B n past flows k w.link (all.fits w (ap (λ o. option_or o all.under) (sym h.0) ∙ e)) s;
  }

  at-own : (x : Side) (all : HasTest x n past) (m : LlcMessage) → LandsTest setup x n x past l m (llc_step x l m past (fabric past)) (left_of_test x n (other x) l m (HasTest.under all))
  at-own x all (ConfirmLink reply mac gid qp k user most) = link-here x all (ConfirmLink reply mac gid qp k user most) refl
  at-own x all (AddLink reply rejected reason mac gid qp k mtu psn) = link-here x all (AddLink reply rejected reason mac gid qp k mtu psn) refl
  at-own x all (AddKeys reply k count keys) = link-here x all (AddKeys reply k count keys) refl
  at-own A all (DeleteLink false every orderly k reason) = gone-here-test A all every orderly k reason _
  at-own B all (DeleteLink false every orderly k reason) = gone-here-test B all every orderly k reason _
  at-own A all (DeleteLink true every orderly k reason) = plain setup past flows A n all l A (DeleteLink true every orderly k reason) Answered tt refl refl
  at-own B all (DeleteLink true every orderly k reason) = plain setup past flows B n all l B (DeleteLink true every orderly k reason) Answered tt refl refl
  at-own A all (TestLink false bytes) = plain setup past flows A n all l A (TestLink false bytes) Echo (inr refl, tt) refl refl
  at-own B all (TestLink false bytes) = plain setup past flows B n all l B (TestLink false bytes) Echo (inr refl, tt) refl refl
  at-own A all (TestLink true bytes) = answered setup past flows A n all l B bytes refl refl
  at-own B all (TestLink true bytes) = answered setup past flows B n all l A bytes refl refl
  at-own A all (ConfirmRkey false retry negative others tokens) = plain setup past flows A n all l A (ConfirmRkey false retry negative others tokens) Learn (inr refl, tt) refl refl
  at-own B all (ConfirmRkey false retry negative others tokens) = by (is_adding (flow_of B past).link)
    where
      by : (b : Bool) → LandsTest setup B n B past l (ConfirmRkey false retry negative others tokens) (if b then ReplyRetry else Learn) (HasTest.under all)
      by true = plain setup past flows B n all l B (ConfirmRkey false retry negative others tokens) ReplyRetry (inr refl, tt) refl refl
      by false = plain setup past flows B n all l B (ConfirmRkey false retry negative others tokens) Learn (inr refl, tt) refl refl
  at-own A all (ConfirmRkey true retry negative others tokens) = key-answered A all retry negative others tokens _ (flow_of A past).key
  at-own B all (ConfirmRkey true retry negative others tokens) = key-answered B all retry negative others tokens _ (flow_of B past).key
  at-own A all (DeleteRkey false negative count mask keys) = plain setup past flows A n all l A (DeleteRkey false negative count mask keys) Forget (inr refl, tt) refl refl
  at-own B all (DeleteRkey false negative count mask keys) = plain setup past flows B n all l B (DeleteRkey false negative count mask keys) Forget (inr refl, tt) refl refl
  at-own A all (DeleteRkey true negative count mask keys) = delete-answered A all negative count mask keys (flow_of A past).key
  at-own B all (DeleteRkey true negative count mask keys) = delete-answered B all negative count mask keys (flow_of B past).key

  -- a message of side `dir` lands at the other
  pub lands-test : (x dir : Side) (all : HasTest x n past) (m : LlcMessage) → (test_kind x n (record { from = dir; link = l; message = m }) ≡ true → HasTest.under all ≡ Some (record { from = dir; link = l; message = m })) → LandsTest setup x n (other dir) past l m (llc_step (other dir) l m past (fabric past)) (left_of_test x n dir l m (HasTest.under all))
  lands-test A A all m h = at-other A all m h
  lands-test B B all m h = at-other B all m h
  lands-test A B all m h = at-own A all m
  lands-test B A all m h = at-own B all m
