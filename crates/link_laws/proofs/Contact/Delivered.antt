-- A post lands: which kind of entry it is.
use Rattle.std.proofs.Common.{Bool, List, None, Some, [], ap, arith, eqb-true, false, if◌then◌else◌, inl, inr, refl, subst, sym, true, true≢false, ℕ, ◌++◌, ◌+◌, ◌==◌, ◌∙◌, ◌∷◌, ◌≡◌, ◌≤◌, ◌⊎◌}
use Rattle.pipe_model.specs.declared.reply.Reply.TheVariants.{Idle}
use Rattle.std.specs.Prelude.{Option, is_some, option_and_then, option_map, unwrap_or}
use Rattle.pipe_model.specs.Fabric.{does, lands}
use Rattle.std.specs.Option.{option_or}
use Rattle.pipe_model.specs.declared.flow.FlowStep.TheVariants.{Answered, Confirmed, Live}
use Rattle.pipe_model.specs.Wires.{landing}
use Rattle.pipe_model.specs.Lawful.{asked}
use Rattle.pipe_model.specs.declared.post.Post.TheVariants.{Clc, Write}
use Rattle.history_laws.specs.Words.{A, Act, AddSeen, AskLink, B, Cdc, Deliver, Dropped, Echo, Entry, Fabric, Flow, FlowStep, Forget, Gone, Landed, Learn, LinkId, Llc, LlcMessage, Over, Peer, Pending, Placed, Post, PostRef, Reject, Reply, ReplyAdd, ReplyKeys, ReplyRetry, Retry, SendKeys, Setup, Side, Skip, Withdraw, act_by, act_of, act_posts, confirmed_by, deliver_told, fabric, flow_after, group_of, is_first_contact, is_pending, lands_told, link_at, link_or_none, llc_step, lowest_live, made_on, makes, named_slot, no_link, offered, other, peer, phase_at, post_at, put, record_of, stands, step_posts, table_of, with_flow, with_peer}
use Rattle.history_laws.specs.Posts.{AreData}
use Rattle.history_laws.proofs.Posts.{AreWired, data-wired, wired-append}
use Rattle.history_laws.proofs.Basics.{none-is, some-is}
use Rattle.link_laws.specs.Linked.{AreLinked, IsOwn, StandsAtBoth, Under, is_link_message, under_in}
use Rattle.link_laws.specs.UnderWay.{AreCarriedOf, link_kind}
use Rattle.link_laws.proofs.Contact.Elsewhere.{data-under, elsewhere, no-group-begun}
use Rattle.link_laws.proofs.Contact.Changes.{Calm, Kind, Moves, Plain}
use Rattle.link_laws.proofs.Contact.Others.{confirming-peer, quiet-kind, starting-peer}
use Rattle.link_laws.proofs.Contact.OtherLandings.{IsHarmless, acted, acts-is, harmless, is_new, none-up, not-up, peer-lands, step-wired}
use Rattle.link_laws.specs.Contact.{IsConfirming}
use Rattle.link_laws.proofs.Sound.{put-link, put-phase, under-append}
use Rattle.link_laws.proofs.Contact.Peers.{moves-peer}
use Rattle.link_laws.proofs.Contact.Beyond.{first-has-group}
use Rattle.link_laws.proofs.UnderWay.{LandsStanding, landing-stands}

-- no act, where nothing lands
idle-act : (past : List Entry) (slot : ℕ) (dir y : Side) → act_by y (Deliver slot dir) Idle past ≡ None
idle-act past slot A A = refl
idle-act past slot A B = refl
idle-act past slot B A = refl
idle-act past slot B B = refl

dropped-act : (past : List Entry) (slot token : ℕ) (dir y : Side) → act_by y (Deliver slot dir) (Dropped token) past ≡ None
dropped-act past slot token A A = refl
dropped-act past slot token A B = refl
dropped-act past slot token B A = refl
dropped-act past slot token B B = refl

-- the act of the taker, and none of the sender
landed-act : (past : List Entry) (slot : ℕ) (at : PostRef) (dir y : Side) → (act_by y (Deliver slot dir) (Landed at) past ≡ act_of (other dir) (post_at at past) past) ⊎ (act_by y (Deliver slot dir) (Landed at) past ≡ None)
landed-act past slot at A A = inr refl
landed-act past slot at A B = inl refl
landed-act past slot at B A = inl refl
landed-act past slot at B B = inr refl

module _ (setup : Setup) (payload : List ℕ) (past : List Entry) (under : Option Under) (actor : ℕ) (rest : List Post) (data_rest : AreData rest) (linked : AreLinked (fabric past) under) (carried : AreCarriedOf link_kind past under) (slot : ℕ) (dir : Side) where
  wired : AreWired rest
  wired = data-wired rest data_rest

  nothing-under : under_in rest ≡ None
  nothing-under = data-under rest data_rest

  abbrev E : Reply → List Post → Entry
  E reply posts = record { actor = actor; event = Deliver slot dir; reply = reply; posts = posts }

  abbrev f : Fabric
  f = fabric past

  -- a write or a message of a connection
  landed-quiet : (at : PostRef) (p : Post) → post_at at past ≡ Some p → act_of (other dir) (Some p) past ≡ None → lands (Some p) (other dir) past f ≡ f → Kind past under (E (Landed at) rest)
  landed-quiet at p here act same = quiet-kind setup payload past under actor rest data_rest linked (Deliver slot dir) (Landed at) refl (λ y. none y (landed-act past slot at dir y)) (ap (λ o. lands o (other dir) past f) here ∙ same) nothing-under
    where
      none : (y : Side) → (act_by y (Deliver slot dir) (Landed at) past ≡ act_of (other dir) (post_at at past) past) ⊎ (act_by y (Deliver slot dir) (Landed at) past ≡ None) → act_by y (Deliver slot dir) (Landed at) past ≡ None
      none y (inl h) = h ∙ ap (λ o. act_of (other dir) o past) here ∙ act
      none y (inr h) = h

  -- an LLC message
  module _ (at : PostRef) (from y : Side) (l : LinkId) (m : LlcMessage) (y_is : other dir ≡ y) (here : post_at at past ≡ Some (Llc from l m)) (both : StandsAtBoth l f) (is_under : is_link_message m ≡ true → under ≡ Some (record { from = dir; link = l; message = m })) where
    abbrev posts : List Post
    posts = step_posts setup y l m past (llc_step y l m past f) ++ rest

    abbrev e : Entry
    e = E (Landed at) posts

    not-link : under ≡ None → is_link_message m ≡ false
    not-link u = by (is_link_message m) refl
      where
        by : (b : Bool) → is_link_message m ≡ b → b ≡ false
        by false q = refl
        by true q = absurd (none-is _ (sym u ∙ is_under q))

    not-empty : table_of B past ≡ [] → ⊥
    not-empty t = true≢false (sym both.at_b ∙ ap (stands l) t)

    calm-none : Calm past under → under ≡ None
    calm-none (inl t) = absurd (not-empty t)
    calm-none (inr u) = u

    safe : under ≡ None → IsHarmless setup past under linked l y m (llc_step y l m past f)
    safe u = harmless setup past under linked l y m (not-link u)

    changed : fabric (e ∷ past) ≡ does y l m (llc_step y l m past f) f
    changed = ap (λ o. lands o (other dir) past f) here ∙ ap (λ z. does z l m (llc_step z l m past f) f) y_is

    none : (link : LinkId) → under ≡ None → IsConfirming B link past → under_in posts ≡ None
    none link u c =
        let s : IsHarmless setup past under linked l y m (llc_step y l m past f) = safe u in
        under-append (step_posts setup y l m past (llc_step y l m past f)) rest ∙ ap (λ o. option_or o (under_in rest)) (s.silent (λ z. confirming-peer B link past c)) ∙ data-under rest data_rest

    -- a step that makes no link
    moves-old : is_new (llc_step y l m past f) ≡ false → Moves past under e
    moves-old old = moves-peer past under e y (acted l m (llc_step y l m past f) p) (changed ∙ acts-is y l m (llc_step y l m past f) p f old) (peer-lands l m (llc_step y l m past f) (lowest_live (peer y f).table) (peer y f) old)
        (λ c st g. let s : IsHarmless setup past under linked l y m (llc_step y l m past f) = safe (calm-none c) in let own : IsOwn y (peer y f) = linked.own y in s.still (starting-peer y past st) (first-has-group y (peer y f) own.sound (ap (λ (f : Flow). is_first_contact f.link) st.flow)) (lowest_live (peer y f).table) g)
        (λ z t. absurd (not-empty t)) none
      where
        p : Peer
        p = with_flow (flow_after (llc_step y l m past f) m l.slot (lowest_live (peer y f).table)) (peer y f)

    -- a step that makes one
    abbrev k : ℕ
    k = named_slot m l.slot

    abbrev new : LinkId
    new = record { group = (peer y f).group; slot = k; incarnation = made_on k f + 1 }

    abbrev seen : Peer
    seen = with_flow (λ (fl : Flow). record fl { link = AddSeen k }) (peer y f)

    makes-is : (y : Side) → does y l m (ReplyAdd false) f ≡ makes (record { group = (peer y f).group; slot = k; incarnation = made_on k f + 1 }) (with_peer y (with_flow (λ (fl : Flow). record fl { link = AddSeen k }) (peer y f)) f)
    makes-is A = refl
    makes-is B = refl

    group-is : (y z : Side) (n : LinkId) (q : Peer) → q.group ≡ (peer y f).group → (peer z (makes n (with_peer y q f))).group ≡ (peer z f).group
    group-is A A n q e = e
    group-is A B n q e = refl
    group-is B A n q e = refl
    group-is B B n q e = e

    table-is : (y z : Side) (n : LinkId) (q : Peer) → q.table ≡ (peer y f).table → (peer z (makes n (with_peer y q f))).table ≡ put (record { link = n; phase = Pending }) (peer z f).table
    table-is A A n q e = ap (put (record { link = n; phase = Pending })) e
    table-is A B n q e = refl
    table-is B A n q e = refl
    table-is B B n q e = ap (put (record { link = n; phase = Pending })) e

    first-is : (y z : Side) (n : LinkId) (q : Peer) → is_first_contact q.flow.link ≡ false → is_first_contact (peer z (makes n (with_peer y q f))).flow.link ≡ true → is_first_contact (peer z f).flow.link ≡ true
    first-is A A n q e h = absurd (true≢false (sym h ∙ e))
    first-is A B n q e h = h
    first-is B A n q e h = h
    first-is B B n q e h = absurd (true≢false (sym h ∙ e))

    latest-is : (y : Side) (n : LinkId) (q : Peer) → Fabric.latest (makes n (with_peer y q f)) ≡ put (record { link = n; phase = Pending }) f.latest
    latest-is A n q = refl
    latest-is B n q = refl

    moves-new : llc_step y l m past f ≡ ReplyAdd false → Moves past under e
    moves-new st = record {
      group = λ z. inl (group z);
      first = λ z h. (first-is y z new seen refl (ap (λ (f : Fabric). is_first_contact (peer z f).flow.link) (sym now) ∙ h), group z);
      pending = λ z n made a q. old z n made (new.slot == n.slot) refl (sym (put-link n.slot (record { link = new; phase = Pending }) (table_of z past)) ∙ ap (λ ks. link_at n.slot ks) (sym (table z)) ∙ a) (ap is_pending (sym (put-phase n.slot (record { link = new; phase = Pending }) (table_of z past))) ∙ ap (λ ks. is_pending (phase_at n.slot ks)) (sym (table z)) ∙ q);
      made = λ j. subst (λ n. made_on j f ≤ n) (sym (made j)) (grows j (new.slot == j) refl);
      next = λ t. absurd (not-empty t);
      empty = λ t. absurd (not-empty t);
      still = λ z c s g. absurd (not-harmless (safe (calm-none c)));
      none = none;
    }
      where
        now : fabric (e ∷ past) ≡ makes new (with_peer y seen f)
        now = changed ∙ ap (λ s. does y l m s f) st ∙ makes-is y

        not-harmless : IsHarmless setup past under linked l y m (llc_step y l m past f) → ⊥
        not-harmless s = true≢false (ap is_new (sym st) ∙ s.plain)

        group : (z : Side) → group_of z (e ∷ past) ≡ group_of z past
        group z = ap (λ (f : Fabric). (peer z f).group) now ∙ group-is y z new seen refl

        table : (z : Side) → table_of z (e ∷ past) ≡ put (record { link = new; phase = Pending }) (table_of z past)
        table z = ap (λ (f : Fabric). (peer z f).table) now ∙ table-is y z new seen refl

        made : (j : ℕ) → made_on j (fabric (e ∷ past)) ≡ (unwrap_or (if new.slot == j then Some new else link_at j f.latest) no_link).incarnation
        made j = ap (λ f. made_on j f) now ∙ ap (λ ks. (link_or_none j ks).incarnation) (latest-is y new seen) ∙ ap (λ (o : Option LinkId). (unwrap_or o no_link).incarnation) (put-link j (record { link = new; phase = Pending }) f.latest)

        grows : (j : ℕ) (b : Bool) → (new.slot == j) ≡ b → made_on j f ≤ (unwrap_or (if b then Some new else link_at j f.latest) no_link).incarnation
        grows j true q = subst (λ i. made_on i f ≤ made_on k f + 1) (eqb-true new.slot j q) (omega arith)
        grows j false q = omega arith

        old : (z : Side) (n : LinkId) → n.incarnation ≤ made_on n.slot f → (b : Bool) → (new.slot == n.slot) ≡ b → (if b then Some new else link_at n.slot (table_of z past)) ≡ Some n → is_pending (if b then Pending else phase_at n.slot (table_of z past)) ≡ true
            → (link_at n.slot (table_of z past) ≡ Some n) × (is_pending (phase_at n.slot (table_of z past)) ≡ true)
        old z n le false q a p = (a, p)
        old z n le true q a p = absurd (omega (arith, le, ap (λ (l : LinkId). l.incarnation) (some-is new n a), ap (λ i. made_on i f) (eqb-true new.slot n.slot q)))

    new-is : (st : FlowStep) → is_new st ≡ true → st ≡ ReplyAdd false
    new-is (ReplyAdd false) n = refl
    new-is (ReplyAdd true) n = absurd (true≢false (sym n))
    new-is Skip n = absurd (true≢false (sym n))
    new-is (Live r b) n = absurd (true≢false (sym n))
    new-is SendKeys n = absurd (true≢false (sym n))
    new-is Over n = absurd (true≢false (sym n))
    new-is AskLink n = absurd (true≢false (sym n))
    new-is (ReplyKeys b) n = absurd (true≢false (sym n))
    new-is Reject n = absurd (true≢false (sym n))
    new-is Confirmed n = absurd (true≢false (sym n))
    new-is Retry n = absurd (true≢false (sym n))
    new-is Withdraw n = absurd (true≢false (sym n))
    new-is ReplyRetry n = absurd (true≢false (sym n))
    new-is Learn n = absurd (true≢false (sym n))
    new-is Forget n = absurd (true≢false (sym n))
    new-is (Gone b) n = absurd (true≢false (sym n))
    new-is Answered n = absurd (true≢false (sym n))
    new-is Echo n = absurd (true≢false (sym n))

    moves-land : Moves past under e
    moves-land = by (is_new (llc_step y l m past f)) refl
      where
        by : (b : Bool) → is_new (llc_step y l m past f) ≡ b → Moves past under e
        by true n = moves-new (new-is (llc_step y l m past f) n)
        by false n = moves-old n

    landed-llc : Kind past under e
    landed-llc = Plain (record { moves = moves-land; count = no-group-begun past e all; socket = λ s. inl (elsewhere past under e s refl all (λ x h. up s x h (landed-act past slot at dir x))) })
      where
        all : AreWired posts
        all = wired-append (step_posts setup y l m past (llc_step y l m past f)) rest (step-wired setup y l m past (llc_step y l m past f)) wired

        at-most : (s : ℕ) → (offered B s past ≡ None) ⊎ Calm past under → confirmed_by (offered B s past) l (llc_step y l m past f) ≡ None
        at-most s (inl h) = ap (λ o. confirmed_by o l (llc_step y l m past f)) h ∙ none-up l (llc_step y l m past f)
        at-most s (inr c) = let h : IsHarmless setup past under linked l y m (llc_step y l m past f) = safe (calm-none c) in not-up (offered B s past) l (llc_step y l m past f) h.quiet

        up : (s : ℕ) (x : Side) → (offered B s past ≡ None) ⊎ Calm past under → (act_by x (Deliver slot dir) (Landed at) past ≡ act_of (other dir) (post_at at past) past) ⊎ (act_by x (Deliver slot dir) (Landed at) past ≡ None) → option_and_then (λ (act : Act). confirmed_by (offered B s past) act.link act.step) (act_by x (Deliver slot dir) (Landed at) past) ≡ None
        up s x h (inr n) = ap (λ a. option_and_then (λ (act : Act). confirmed_by (offered B s past) act.link act.step) a) n
        up s x h (inl n) = ap (λ a. option_and_then (λ (act : Act). confirmed_by (offered B s past) act.link act.step) a) (n ∙ ap (λ o. act_of (other dir) o past) here ∙ ap (λ z. act_of z (Some (Llc from l m)) past) y_is) ∙ at-most s h

  -- the next post of a side lands at its peer
  pub deliver-kind : Kind past under (record { actor = actor; event = Deliver slot dir; reply = deliver_told setup payload (other dir) past (landing slot dir past); posts = asked setup payload past (Deliver slot dir) (deliver_told setup payload (other dir) past (landing slot dir past)) ++ rest })
  deliver-kind = by (landing slot dir past) refl
    where
      post : (c : Placed) → LandsStanding dir past under c → (p : Post) → c.post ≡ p → Kind past under (E (lands_told setup payload (other dir) past c p) (act_posts setup (other dir) past (act_of (other dir) (Some p) past) ++ rest))
      post c is (Write from link key address len) q = landed-quiet c.at (Write from link key address len) (is.at ∙ ap Some q) refl refl
      post c is (Clc from s link m) q = landed-quiet c.at (Clc from s link m) (is.at ∙ ap Some q) refl refl
      post c is (Cdc from link m) q = named (is_some (record_of setup payload (other dir) m.token past))
        where
          named : (b : Bool) → Kind past under (E (if b then Landed c.at else Dropped m.token) rest)
          named true = landed-quiet c.at (Cdc from link m) (is.at ∙ ap Some q) refl refl
          named false = quiet-kind setup payload past under actor rest data_rest linked (Deliver slot dir) (Dropped m.token) refl (dropped-act past slot m.token dir) refl nothing-under
      post c is (Llc from link m) q = landed-llc c.at from (other dir) link m refl (is.at ∙ ap Some q) (is.both from link m q) (is.under_is from link m q)

      by : (o : Option Placed) → landing slot dir past ≡ o → Kind past under (E (deliver_told setup payload (other dir) past o) (act_posts setup (other dir) past (act_of (other dir) (option_map (λ (c : Placed). c.post) (landing slot dir past)) past) ++ rest))
      by None q = subst (λ o. Kind past under (E Idle (act_posts setup (other dir) past (act_of (other dir) (option_map (λ (c : Placed). c.post) o) past) ++ rest))) (sym q) (quiet-kind setup payload past under actor rest data_rest linked (Deliver slot dir) Idle refl (idle-act past slot dir) refl nothing-under)
      by (Some c) q = subst (λ o. Kind past under (E (lands_told setup payload (other dir) past c c.post) (act_posts setup (other dir) past (act_of (other dir) (option_map (λ (c : Placed). c.post) o) past) ++ rest))) (sym q) (post c (landing-stands slot dir past under c carried q) c.post refl)
