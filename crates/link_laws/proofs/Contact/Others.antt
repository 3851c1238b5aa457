-- The events about no socket but the landings: which kind of entry each is.
use Rattle.std.proofs.Common.{Bool, List, None, Some, [], ap, eq-eqb, false, if◌then◌else◌, inl, inr, not, refl, subst, sym, true, true≢false, ℕ, ◌&&◌, ◌++◌, ◌==◌, ◌∙◌, ◌∷◌, ◌≡◌, ◌⊎◌}
use Rattle.pipe_model.specs.declared.flow.KeyPhase.TheVariants.{Asked, Free, Retry as RetryWaits}
use Rattle.pipe_model.specs.Flows.{LinkSent}
use Rattle.std.specs.Prelude.{Option, option_and_then, option_map, unwrap_or}
use Rattle.pipe_model.specs.Fabric.{loses}
use Rattle.pipe_model.specs.Lawful.{asked}
use Rattle.pipe_model.specs.declared.reply.Reply.TheVariants.{Idle, Sent}
use Rattle.std.specs.Option.{option_or}
use Rattle.pipe_model.specs.declared.reply.SentKind.TheVariants.{AddLink as AddLinkSent, DeleteRkey as DeleteSent, TestLink as TestSent}
use Rattle.pipe_model.specs.declared.reply.Hold.TheVariants.{AddLink as AddLinkHold, ConfirmRkey as ConfirmRkeyHold, DeleteRkey as DeleteRkeyHold, FirstContact as FirstContactHold, TestLink as TestLinkHold}
use Rattle.history_laws.specs.Words.{A, Abandoned, Act, AddSeen, AddSent, B, Deleting, Done, Entry, Event, FirstContact, Flow, GroupEnded, Grow, Held, KeyPhase, KeysSent, Known, LinkFlow, LinkId, NoFlow, Peer, Pending, Post, Reply, Report, Setup, Side, Test, Trim, Unused, act_by, add_again, begins_delete, begins_test, confirmed_by, dead_at, deleting_rmbs, drop_posts, fabric, flow_of, flow_slot, group_of, grow_post, grow_to, grow_told, has, head, is_adding, is_asked, is_asking_or_waiting, is_deleting, is_dropping, is_first_contact, is_live, is_nil, key_again, keys_of, link_or_none, loss_posts, lowest_live, offered, open_slots, pair_on, peer, peer_of, phase_at, report_posts, report_told, reports, resends_add, resends_key, standing_at, table_of, test_post, test_told, trim_post, trim_told, trimmed, with_peer}
use Rattle.history_laws.proofs.Posts.{AreWired, data-wired, wired-append}
use Rattle.history_laws.specs.Posts.{AreData}
use Rattle.link_laws.specs.Linked.{AreLinked, Begins, Confirms, Goes, HasNone, IsOwn, IsSound, Under, is_own_flow, under_in}
use Rattle.link_laws.proofs.Sound.{under-append, under-loss}
use Rattle.link_laws.proofs.Contact.Changes.{IsStarting, Kind, Moves, Plain}
use Rattle.link_laws.proofs.Contact.Peers.{IsStartingPeer, moves-peer, peer-reports, starting-ends, starting-reports}
use Rattle.link_laws.specs.Contact.{IsConfirming}
use Rattle.link_laws.proofs.Contact.Elsewhere.{data-under, elsewhere, is_about, moves-same, no-group-begun}
use Rattle.link_laws.proofs.Contact.Beyond.{first-has-group}
use Rattle.link_laws.proofs.Contact.Reflows.{moves-flow}

-- what a report posts is on links
pub report-wired : (setup : Setup) (x : Side) (k : ℕ) (own : Bool) (p : Peer) (before : Flow) (past : List Entry) → AreWired (loss_posts setup x k own p before past)
report-wired setup x k own p before past = all (p.group == 0)
  where
    drops : (b : Bool) (post : Post) → AreWired (post ∷ []) → AreWired (if b then post ∷ [] else [])
    drops true post w = w
    drops false post w = tt

    again : (phase : KeyPhase) → AreWired (key_again x p (keys_of x past).keys (deleting_rmbs setup x past) phase ∷ [])
    again Free = tt
    again Asked = tt
    again RetryWaits = tt
    again Deleting = tt

    add : (flow : LinkFlow) → AreWired (add_again x p (keys_of x past) (pair_on x (flow_slot before.link) past) flow)
    add (AddSent j on) = tt
    add (KeysSent j on) = tt
    add NoFlow = tt
    add FirstContact = tt
    add (LinkSent j) = tt
    add (Abandoned on) = tt
    add (AddSeen j) = tt

    if-wired : (b : Bool) (ps : List Post) → AreWired ps → AreWired (if b then ps else [])
    if-wired true ps w = w
    if-wired false ps w = tt

    all : (b : Bool) → AreWired (if b then [] else (drop_posts x k own p ++ (if resends_key k before then key_again x p (keys_of x past).keys (deleting_rmbs setup x past) before.key ∷ [] else [])) ++ (if resends_add k before.link then add_again x p (keys_of x past) (pair_on x (flow_slot before.link) past) before.link else []))
    all true = tt
    all false = wired-append (drop_posts x k own p ++ (if resends_key k before then key_again x p (keys_of x past).keys (deleting_rmbs setup x past) before.key ∷ [] else [])) _ (wired-append (drop_posts x k own p) _ (drops (own && not (is_dropping k p.flow)) _ tt) (if-wired (resends_key k before) _ (again before.key))) (if-wired (resends_add k before.link) _ (add before.link))

-- A posts no request of the link flow again
pub no-resend-a : (k : ℕ) (p : Peer) → IsSound A p → resends_add k p.flow.link ≡ false
no-resend-a k p s = by p.flow.link (own s)
  where
    own : IsSound A p → is_own_flow A p.flow.link ≡ true
    own (HasNone g f n) = ap (λ (f : Flow). is_own_flow A f.link) f
    own (Begins g f t) = ap (λ (f : Flow). is_own_flow A f.link) f
    own (Confirms link g f t) = ap (λ (f : Flow). is_own_flow A f.link) f
    own (Goes j g l f) = f.own

    by : (flow : LinkFlow) → is_own_flow A flow ≡ true → resends_add k flow ≡ false
    by NoFlow e = refl
    by FirstContact e = refl
    by (AddSeen j) e = refl
    by (LinkSent j) e = refl
    by (Abandoned on) e = refl
    by (AddSent j on) e = absurd (true≢false (sym e))
    by (KeysSent j on) e = absurd (true≢false (sym e))

-- in first contact a side posts nothing of the link flow as it loses a link
pub no-under-lost : (setup : Setup) (x : Side) (k : ℕ) (own : Bool) (past : List Entry) (u : Option Under) → AreLinked (fabric past) u → (x ≡ B → (loses k (peer B (fabric past))).group ≡ 0) → under_in (report_posts setup x k own past) ≡ None
no-under-lost setup B k own past u all gone = ap (λ b. under_in (if b then [] else (drop_posts B k own (loses k (peer_of B past)) ++ (if resends_key k (flow_of B past) then key_again B (loses k (peer_of B past)) (keys_of B past).keys (deleting_rmbs setup B past) (flow_of B past).key ∷ [] else [])) ++ (if resends_add k (flow_of B past).link then add_again B (loses k (peer_of B past)) (keys_of B past) (pair_on B (flow_slot (flow_of B past).link) past) (flow_of B past).link else []))) (eq-eqb (loses k (peer B (fabric past))).group 0 (gone refl))
no-under-lost setup A k own past u all gone = by ((loses k (peer A (fabric past))).group == 0) refl
  where
    sound : IsSound A (peer A (fabric past))
    sound = let o : IsOwn A (peer A (fabric past)) = all.own A in o.sound

    by : (b : Bool) → ((loses k (peer A (fabric past))).group == 0) ≡ b → under_in (report_posts setup A k own past) ≡ None
    by true e = ap (λ b. under_in (if b then [] else (drop_posts A k own (loses k (peer_of A past)) ++ (if resends_key k (flow_of A past) then key_again A (loses k (peer_of A past)) (keys_of A past).keys (deleting_rmbs setup A past) (flow_of A past).key ∷ [] else [])) ++ (if resends_add k (flow_of A past).link then add_again A (loses k (peer_of A past)) (keys_of A past) (pair_on A (flow_slot (flow_of A past).link) past) (flow_of A past).link else []))) e
    by false e = under-loss setup A k own (loses k (peer A (fabric past))) (flow_of A past) past e ∙ ap (λ b. under_in (if b then add_again A (loses k (peer_of A past)) (keys_of A past) (pair_on A (flow_slot (flow_of A past).link) past) (flow_of A past).link else [])) (no-resend-a k (peer A (fabric past)) sound)

pub starting-peer : (x : Side) (past : List Entry) → IsStarting x past → IsStartingPeer (peer x (fabric past))
starting-peer x past st = record { flow = st.flow; table = st.table }

pub confirming-peer : (x : Side) (link : LinkId) (past : List Entry) → IsConfirming x link past → IsStartingPeer (peer x (fabric past))
confirming-peer x link past c = record { flow = c.flow; table = inr (link, c.table) }

-- no link of a side that starts is live
starting-not-live : (x : Side) (k : ℕ) (past : List Entry) → IsStarting x past → is_live (phase_at k (table_of x past)) ≡ false
starting-not-live x k past st = by st.table
  where
    one : (link : LinkId) (b : Bool) → (link.slot == k) ≡ b → is_live (phase_at k (record { link = link; phase = Pending } ∷ [])) ≡ false
    one link b q = ap (λ b. is_live (unwrap_or (option_map (λ (n : Known). n.phase) (if b then Some (record { link = link; phase = Pending }) else None)) Unused)) q ∙ at b
      where
        at : (b : Bool) → is_live (unwrap_or (option_map (λ (n : Known). n.phase) (if b then Some (record { link = link; phase = Pending }) else None)) Unused) ≡ false
        at true = refl
        at false = refl

    by : (table_of x past ≡ []) ⊎ ((link : LinkId) × (table_of x past ≡ record { link = link; phase = Pending } ∷ [])) → is_live (phase_at k (table_of x past)) ≡ false
    by (inl e) = ap (λ ks. is_live (phase_at k ks)) e
    by (inr h) = ap (λ ks. is_live (phase_at k ks)) h.1 ∙ one h.0 (h.0.slot == k) refl

module _ (setup : Setup) (payload : List ℕ) (past : List Entry) (under : Option Under) (actor : ℕ) (rest : List Post) (data_rest : AreData rest) (linked : AreLinked (fabric past) under) where
  wired : AreWired rest
  wired = data-wired rest data_rest

  nothing-under : under_in rest ≡ None
  nothing-under = data-under rest data_rest

  abbrev E : Event → Reply → List Post → Entry
  E event reply posts = record { actor = actor; event = event; reply = reply; posts = posts }

  pub plain-kind : (event : Event) (reply : Reply) (posts : List Post) → is_about event ≡ false → AreWired posts → ((x : Side) → act_by x event reply past ≡ None) → Moves past under (E event reply posts) → Kind past under (E event reply posts)
  plain-kind event reply posts n w act moves = Plain (record { moves = moves; count = no-group-begun past (E event reply posts) w; socket = λ s. inl (elsewhere past under (E event reply posts) s n w (λ x h. ap (λ a. option_and_then (λ (act : Act). confirmed_by (offered B s past) act.link act.step) a) (act x))) })

  -- nothing that matters here
  pub quiet-kind : (event : Event) (reply : Reply) → is_about event ≡ false → ((x : Side) → act_by x event reply past ≡ None) → fabric (E event reply rest ∷ past) ≡ fabric past → under_in rest ≡ None → Kind past under (E event reply rest)
  quiet-kind event reply n act same none = plain-kind event reply rest n wired act (moves-same past under (E event reply rest) same none)

  -- a side reports a link
  module _ (x : Side) (k : ℕ) where
    no-act : (reply : Reply) (y : Side) → act_by y (Report x k) reply past ≡ None
    no-act reply A = refl
    no-act reply B = refl

    own : IsOwn x (peer x (fabric past))
    own = linked.own x

    report-moves : (reply : Reply) (posts : List Post) → standing_at k (table_of x past) ≡ true → fabric (E (Report x k) reply posts ∷ past) ≡ with_peer x (reports k (peer x (fabric past))) (fabric past) → ((link : LinkId) → under ≡ None → IsConfirming B link past → under_in posts ≡ None) → Moves past under (E (Report x k) reply posts)
    report-moves reply posts s same none = moves-peer past under (E (Report x k) reply posts) x (reports k (peer x (fabric past))) same (peer-reports k (peer x (fabric past)))
        (λ c st g. absurd (first-has-group x (peer x (fabric past)) own.sound (ap (λ (f : Flow). is_first_contact f.link) st.flow) (sym g ∙ starting-reports k (peer x (fabric past)) (starting-peer x past st) s)))
        (λ z t. absurd (true≢false (sym s ∙ ap (λ y. standing_at k (table_of y past)) z ∙ ap (standing_at k) t))) none

    pub report-kind : Kind past under (record { actor = actor; event = Report x k; reply = report_told x k past; posts = asked setup payload past (Report x k) (report_told x k past) ++ rest })
    report-kind = by (standing_at k (table_of x past)) (dead_at k (table_of x past) past) ((loses k (peer_of x past)).group == 0) refl refl
      where
        by : (a b c : Bool) → standing_at k (table_of x past) ≡ a → ((loses k (peer_of x past)).group == 0) ≡ c
            → Kind past under (record { actor = actor; event = Report x k; reply = if a && b then (if c then GroupEnded (peer_of x past).group else Done) else Idle; posts = asked setup payload past (Report x k) (if a && b then (if c then GroupEnded (peer_of x past).group else Done) else Idle) ++ rest })
        by true true true s g = plain-kind (Report x k) (GroupEnded (peer_of x past).group) rest refl wired (no-act (GroupEnded (peer_of x past).group)) (report-moves (GroupEnded (peer_of x past).group) rest s refl (λ l u c. nothing-under))
        by true true false s g = plain-kind (Report x k) Done (report_posts setup x k true past ++ rest) refl (wired-append (report_posts setup x k true past) rest (report-wired setup x k true (loses k (peer_of x past)) (flow_of x past) past) wired) (no-act Done)
            (report-moves Done (report_posts setup x k true past ++ rest) s refl (λ l u c. under-append (report_posts setup x k true past) rest ∙ ap (λ o. option_or o (under_in rest)) (no-under-lost setup x k true past under linked (λ z. absurd (true≢false (sym (eq-eqb (loses k (peer_of x past)).group 0 (gone z l c s)) ∙ g)))) ∙ data-under rest data_rest))
          where
            gone : x ≡ B → (l : LinkId) → IsConfirming B l past → standing_at k (table_of x past) ≡ true → (loses k (peer_of x past)).group ≡ 0
            gone z l c s = subst (λ y. standing_at k (table_of y past) ≡ true → (loses k (peer_of y past)).group ≡ 0) (sym z) (starting-ends k (peer B (fabric past)) (confirming-peer B l past c)) s
        by true false c s g = quiet-kind (Report x k) Idle refl (no-act Idle) refl nothing-under
        by false b c s g = quiet-kind (Report x k) Idle refl (no-act Idle) refl nothing-under

  -- B asks for another link
  pub grow-kind : Kind past under (record { actor = actor; event = Grow; reply = grow_told setup past; posts = asked setup payload past Grow (grow_told setup past) ++ rest })
  grow-kind = by (group_of B past == 0) (is_first_contact (flow_of B past).link) (is_adding (flow_of B past).link) (is_asked (flow_of B past).key) (is_deleting (flow_of B past).key) (head (open_slots setup past)) refl refl
    where
      no-act : (reply : Reply) (y : Side) → act_by y Grow reply past ≡ None
      no-act reply A = refl
      no-act reply B = refl

      first-no : (k : ℕ) → is_first_contact (flow_of B past).link ≡ false → Kind past under (E Grow (Sent AddLinkSent) (grow_post k past ∷ rest))
      first-no k c = plain-kind Grow (Sent AddLinkSent) (grow_post k past ∷ rest) refl wired (no-act (Sent AddLinkSent))
          (moves-flow past under (E Grow (Sent AddLinkSent) (grow_post k past ∷ rest)) B _ _ refl (λ h. absurd (true≢false (sym h))) (λ m st. absurd (true≢false (ap (λ (f : Flow). is_first_contact f.link) (sym st.flow) ∙ c)))
          (λ l u m. absurd (true≢false (ap (λ (f : Flow). is_first_contact f.link) (sym m.flow) ∙ c))))

      by : (b c d g h : Bool) (o : Option ℕ) → grow_told setup past ≡ (if b then Idle else if c then Held FirstContactHold else if d then Held AddLinkHold else if g then Held ConfirmRkeyHold else if h then Held DeleteRkeyHold else grow_to o) → is_first_contact (flow_of B past).link ≡ c
          → Kind past under (record { actor = actor; event = Grow; reply = if b then Idle else if c then Held FirstContactHold else if d then Held AddLinkHold else if g then Held ConfirmRkeyHold else if h then Held DeleteRkeyHold else grow_to o; posts = asked setup payload past Grow (if b then Idle else if c then Held FirstContactHold else if d then Held AddLinkHold else if g then Held ConfirmRkeyHold else if h then Held DeleteRkeyHold else grow_to o) ++ rest })
      by true c d g h o all e = quiet-kind Grow Idle refl (no-act Idle) refl nothing-under
      by false true d g h o all e = quiet-kind Grow (Held FirstContactHold) refl (no-act (Held FirstContactHold)) refl nothing-under
      by false false true g h o all e = quiet-kind Grow (Held AddLinkHold) refl (no-act (Held AddLinkHold)) refl nothing-under
      by false false false true h o all e = quiet-kind Grow (Held ConfirmRkeyHold) refl (no-act (Held ConfirmRkeyHold)) refl nothing-under
      by false false false false true o all e = quiet-kind Grow (Held DeleteRkeyHold) refl (no-act (Held DeleteRkeyHold)) refl nothing-under
      by false false false false false None all e = quiet-kind Grow Idle refl (no-act Idle) refl nothing-under
      by false false false false false (Some k) all e = first-no (unwrap_or (head (open_slots setup past)) 0) e

  -- a side tests a link
  pub test-kind : (x : Side) (k : ℕ) → Kind past under (record { actor = actor; event = Test x k; reply = test_told x k past; posts = asked setup payload past (Test x k) (test_told x k past) ++ rest })
  test-kind x k = by (is_live (phase_at k (table_of x past))) (has k (flow_of x past).tests) refl
    where
      no-act : (reply : Reply) (y : Side) → act_by y (Test x k) reply past ≡ None
      no-act reply A = refl
      no-act reply B = refl

      by : (a b : Bool) → is_live (phase_at k (table_of x past)) ≡ a
          → Kind past under (record { actor = actor; event = Test x k; reply = if not a then Idle else if b then Held TestLinkHold else Sent TestSent; posts = asked setup payload past (Test x k) (if not a then Idle else if b then Held TestLinkHold else Sent TestSent) ++ rest })
      by false b e = quiet-kind (Test x k) Idle refl (no-act Idle) refl nothing-under
      by true true e = quiet-kind (Test x k) (Held TestLinkHold) refl (no-act (Held TestLinkHold)) refl nothing-under
      by true false e = plain-kind (Test x k) (Sent TestSent) (test_post x k past ∷ rest) refl wired (no-act (Sent TestSent))
          (moves-flow past under (E (Test x k) (Sent TestSent) (test_post x k past ∷ rest)) x (begins_test k (flow_of x past)) (peer x (fabric past)).told refl (λ h. h) (λ m st. absurd (true≢false (sym e ∙ starting-not-live x k past st))) (λ l u m. nothing-under))

  -- a side takes keys back
  pub trim-kind : (x : Side) → Kind past under (record { actor = actor; event = Trim x; reply = trim_told setup payload x past; posts = asked setup payload past (Trim x) (trim_told setup payload x past) ++ rest })
  trim-kind x = by (group_of x past == 0) (is_first_contact (flow_of x past).link) (is_adding (flow_of x past).link) (is_asking_or_waiting (flow_of x past).key) (is_deleting (flow_of x past).key) (is_nil (trimmed setup payload x past)) refl refl
    where
      no-act : (reply : Reply) (y : Side) → act_by y (Trim x) reply past ≡ None
      no-act reply A = refl
      no-act reply B = refl

      by : (b c d g h i : Bool) → (group_of x past == 0) ≡ b → is_first_contact (flow_of x past).link ≡ c
          → Kind past under (record { actor = actor; event = Trim x; reply = if b then Idle else if c then Held FirstContactHold else if d then Held AddLinkHold else if g then Held ConfirmRkeyHold else if h then Held DeleteRkeyHold else if i then Idle else Sent DeleteSent; posts = asked setup payload past (Trim x) (if b then Idle else if c then Held FirstContactHold else if d then Held AddLinkHold else if g then Held ConfirmRkeyHold else if h then Held DeleteRkeyHold else if i then Idle else Sent DeleteSent) ++ rest })
      by true c d g h i i0 e = quiet-kind (Trim x) Idle refl (no-act Idle) refl nothing-under
      by false true d g h i i0 e = quiet-kind (Trim x) (Held FirstContactHold) refl (no-act (Held FirstContactHold)) refl nothing-under
      by false false true g h i i0 e = quiet-kind (Trim x) (Held AddLinkHold) refl (no-act (Held AddLinkHold)) refl nothing-under
      by false false false true h i i0 e = quiet-kind (Trim x) (Held ConfirmRkeyHold) refl (no-act (Held ConfirmRkeyHold)) refl nothing-under
      by false false false false true i i0 e = quiet-kind (Trim x) (Held DeleteRkeyHold) refl (no-act (Held DeleteRkeyHold)) refl nothing-under
      by false false false false false true i0 e = quiet-kind (Trim x) Idle refl (no-act Idle) refl nothing-under
      by false false false false false false i0 e = plain-kind (Trim x) (Sent DeleteSent) (trim_post setup payload x past ∷ rest) refl wired (no-act (Sent DeleteSent))
          (moves-flow past under (E (Trim x) (Sent DeleteSent) (trim_post setup payload x past ∷ rest)) x (begins_delete (LinkId.slot (link_or_none (lowest_live (table_of x past)) (table_of x past))) (flow_of x past)) (peer x (fabric past)).told refl (λ h. h) (λ m st. absurd (true≢false (ap (λ (f : Flow). is_first_contact f.link) (sym st.flow) ∙ e))) (λ l u m. nothing-under))
