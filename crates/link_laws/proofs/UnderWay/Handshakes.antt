-- A side takes a CLC message: links, flows and wires go on, from what the handshake owes.
use Rattle.std.proofs.Common.{Bool, List, None, Some, [], ap, arith, eq-eqb, false, if◌then◌else◌, inl, inr, not, refl, subst, sym, true, true≢false, ℕ, ◌&&◌, ◌+◌, ◌==◌, ◌||◌, ◌∙◌, ◌∷◌, ◌≡◌, ◌≤◌}
use Rattle.pipe_model.specs.declared.reply.Hold.TheVariants.{DeleteRkey as DeleteRkeyHold, FirstContact as FirstContactHold}
use Rattle.pipe_model.specs.declared.reply.Lack.TheVariants.{Raw}
use Rattle.std.specs.Prelude.{Option, unwrap_or}
use Rattle.pipe_model.specs.Fabric.{asked_rmb}
use Rattle.clc_wire.specs.declared.message.ClcMessage.TheVariants.{Accept as AcceptMessage, Confirm as ConfirmMessage, Decline as DeclineMessage, Proposal as ProposalMessage}
use Rattle.pipe_model.specs.Handshake.{verdict}
use Rattle.pipe_model.specs.declared.event.Event.TheVariants.{Clc as ClcEvent}
use Rattle.pipe_model.specs.Lawful.{asked}
use Rattle.pipe_model.specs.declared.reply.Reply.TheVariants.{Idle, Sent}
use Rattle.pipe_model.specs.declared.reply.SentKind.TheVariants.{Accept as AcceptSent, Confirm as ConfirmSent, ConfirmRkey as KeySent, ConfirmLink as LinkSent}
use Rattle.history_laws.specs.Words.{A, AskKey, B, BadClc, BadStep, ClcMessage, ClcStep, ConfirmRkey, Decline, Declined, EndState, Entry, Established, Faulty, Fell, FellBack, Front, Held, Lacks, LinkId, Llc, Lost, NoLiveLink, NoMessage, NoServerElement, NoSlot, NoSubnet, Post, Proposal, Ready, Reply, Reset, SendAccept, SendConfirm, Setup, Side, Wait, WaitsAnswer, WaitsConfirm, WaitsProposal, Whole, Wrong, accept_post, begins_group, clc_posts, clc_step, clc_told, confirm_link, confirm_post, confirms_on, end_state, expects, fabric, fewest, first_link, front, front_posts, front_told, group_of, group_on, groups_begun, is_deleting, is_raw, key_step, keys_of, lacks, link_or_none, lowest_live, makes, named_link, next_free, no_link, on_proposal, other, pair_on, peer, peer_of, ready_posts, rkey_post, stands, step_told, table_of, with_peer}
use Rattle.link_laws.specs.UnderWay.{AreCarriedOf, HasFlows, link_kind}
use Rattle.link_laws.specs.Owed.{CanAsk, CanAskKey, CanJoin, IsTaken, OwedByHandshake}
use Rattle.link_laws.specs.Linked.{AreLinked, IsOwn, Under}
use Rattle.link_laws.proofs.UnderWay.WireStep.{Grows, alive-is, stands-made}
use Rattle.link_laws.proofs.UnderWay.Growing.{grows-made, grows-on, grows-peer, grows-same, known-made}
use Rattle.link_laws.proofs.Sound.{IsGoing, asks-first, begins-b, going-of, joins, key-asked, link-self}
use Rattle.link_laws.proofs.UnderWay.Asks.{carrier-is}
use Rattle.link_laws.proofs.UnderWay.NeverAnswer.{is_answer, never-answer}
use Rattle.link_laws.proofs.UnderWay.Entries.{Draft, changed, quiet}
use Rattle.link_laws.proofs.UnderWay.PostKinds.{one-alone}

-- B asks for a key with a Proposal only in a group beyond first contact
module _ (l : Lacks) where
  -- a key that is asked for with a Proposal is asked for in a group beyond first contact
  pub proposal-asks : (raw : Bool) (p : Proposal) → on_proposal raw p l ≡ AskKey → ((l.group == 0) ≡ false) × (l.first_contact ≡ false)
  proposal-asks raw p e = by (not ((p.subnet == l.subnet.0) && (p.prefix == l.subnet.1))) l.first_contact (is_deleting l.key_flow) (l.free == 0) (l.group == 0) raw (l.slots_up == 0) refl refl e
    where
      by : (b c d f g h i : Bool) → l.first_contact ≡ c → (l.group == 0) ≡ g
          → (if b then Decline NoSubnet else if c then Wait FirstContactHold else if d then Wait DeleteRkeyHold else if f then Decline (NoServerElement l.elements) else
          if g then (if h then Decline Raw else if i then Decline (NoSlot l.links) else SendAccept true) else if not l.rmb_ready then key_step l else SendAccept false) ≡ AskKey
          → ((l.group == 0) ≡ false) × (l.first_contact ≡ false)
      by true c d f g h i p q e = absurd (never e)
        where
          never : Decline NoSubnet ≡ AskKey → ⊥
          never e = cc
      by false true d f g h i p q e = absurd (never e)
        where
          never : Wait FirstContactHold ≡ AskKey → ⊥
          never e = cc
      by false false true f g h i p q e = absurd (never e)
        where
          never : Wait DeleteRkeyHold ≡ AskKey → ⊥
          never e = cc
      by false false false true g h i p q e = absurd (never e)
        where
          never : Decline (NoServerElement l.elements) ≡ AskKey → ⊥
          never e = cc
      by false false false false true true i p q e = absurd (never e)
        where
          never : Decline Raw ≡ AskKey → ⊥
          never e = cc
      by false false false false true false true p q e = absurd (never e)
        where
          never : Decline (NoSlot l.links) ≡ AskKey → ⊥
          never e = cc
      by false false false false true false false p q e = absurd (never e)
        where
          never : SendAccept true ≡ AskKey → ⊥
          never e = cc
      by false false false false false h i p q e = (q, p)

-- B's request to confirm the first link
abbrev pub first_ask : Setup → ℕ → List Entry → Post
first_ask setup s past = let link : LinkId = unwrap_or (named_link s past) no_link in Llc B link (confirm_link setup B false link (pair_on B link.slot past))

-- a side's request to confirm a key
abbrev pub key_ask : Setup → List ℕ → Side → List Entry → Post
key_ask setup payload x past = rkey_post x (next_free setup payload x past).rmb (peer_of x past) (keys_of x past).keys

-- the RMB that it asks about
abbrev pub key_rmb : Post → ℕ
key_rmb (Llc from link (ConfirmRkey reply retry negative others tokens)) = asked_rmb tokens
key_rmb post = 0

-- links, flows and wires after a CLC message is taken
module _ (setup : Setup) (payload : List ℕ) (past : List Entry) (all : HasFlows past) (owed : OwedByHandshake setup payload past all.under) where
  carried : AreCarriedOf link_kind past all.under
  carried = all.carried

  linked : AreLinked (fabric past) all.under
  linked = all.linked

  -- while B knows no link nothing is under way
  none-under : table_of B past ≡ [] → all.under ≡ None
  none-under e = by all.under refl
    where
      by : (u : Option Under) → all.under ≡ u → u ≡ None
      by None is = refl
      by (Some w) is = let h = alive-is w.link past (carried.alive w is) in absurd (true≢false (sym (h.1 B) ∙ ap (λ ks. stands w.link ks) e))

  module _ (s : ℕ) (dir : Side) where
    -- B begins a group
    begins : (group : ℕ) → group ≡ groups_begun past + 1 → Grows (fabric past) (with_peer B (begins_group group) (fabric past)) × AreLinked (with_peer B (begins_group group) (fabric past)) all.under
    begins group e =
        let at_most : group_of A past ≤ groups_begun past = owed.begins in
        (grows-peer B (begins_group group) (fabric past) (λ l s. absurd (true≢false (sym s))), begins-b group (fabric past) all.under (λ z. omega (arith, z, e)) (λ z. omega (arith, z, e, at_most)) all.linked)

    -- A joins it
    joined : (link : LinkId) → CanJoin link past → Grows (fabric past) (makes link (with_peer A (begins_group link.group) (fabric past))) × AreLinked (makes link (with_peer A (begins_group link.group) (fabric past))) all.under
    joined link can = (
      grows-on (fabric past) (with_peer A (begins_group link.group) (fabric past)) (makes link (with_peer A (begins_group link.group) (fabric past))) (grows-peer A (begins_group link.group) (fabric past) (λ l s. absurd (true≢false (sym s)))) (grows-made link (with_peer A (begins_group link.group) (fabric past)) can.next),
      subst (λ u. AreLinked (makes link (with_peer A (begins_group link.group) (fabric past))) u) (sym (none-under can.table)) (joins link (fabric past) all.under all.linked can.some can.slot can.group can.flow can.table),
    )

    -- B asks for the first link
    link-made : (link : LinkId) → CanAsk link past all.under → link.incarnation ≤ Rattle.pipe_model.specs.Fabric.made_on link.slot (fabric past)
    link-made link can = stands-made (fabric past) all.under all.linked B link (ap (λ ks. stands link ks) can.table ∙ ap (λ b. b && true || false) (link-self link))

    -- a key is asked for
    module _ (x : Side) (can : CanAskKey x past) where
      own : IsOwn x (peer x (fabric past))
      own = linked.own x

      going : IsGoing x (peer x (fabric past))
      going = going-of x (peer x (fabric past)) own.sound can.group can.beyond

      -- a link stands anew by no such request
      pub asks-grows : (rmb : ℕ) → Grows (fabric past) (with_peer x (confirms_on (LinkId.slot (link_or_none (lowest_live (table_of x past)) (table_of x past))) rmb (peer x (fabric past))) (fabric past))
      asks-grows rmb = grows-peer x (confirms_on (LinkId.slot (link_or_none (lowest_live (table_of x past)) (table_of x past))) rmb (peer x (fabric past))) (fabric past) (λ l s. s)

      -- the request keeps links and flows
      pub asks : (rmb : ℕ) → AreLinked (with_peer x (confirms_on (LinkId.slot (link_or_none (lowest_live (table_of x past)) (table_of x past))) rmb (peer x (fabric past))) (fabric past)) all.under
      asks rmb = let on = carrier-is past all x going in subst (λ k. AreLinked (with_peer x (confirms_on k rmb (peer x (fabric past))) (fabric past)) all.under) (sym on.1) (key-asked x (fabric past) all.under all.linked going can.group (lowest_live (table_of x past)) on.0 rmb)

    may-ask : (m : ClcMessage) → IsTaken payload s dir m past → clc_step setup payload (other dir) s m past ≡ AskKey → CanAskKey (other dir) past
    may-ask (AcceptMessage o) taken e = accepts dir taken e
      where
        wrong : {k : _} → Wrong k ≡ AskKey → ⊥
        wrong e = cc

        by : (st : EndState) → is_answer st ≡ false → verdict (is_raw s past) st (AcceptMessage o) (lacks setup payload B past) ≡ AskKey → CanAskKey B past
        by WaitsAnswer n e = absurd (true≢false n)
        by st n e = absurd (wrong e)

        accepts : (dir : Side) → IsTaken payload s dir (AcceptMessage o) past → clc_step setup payload (other dir) s (AcceptMessage o) past ≡ AskKey → CanAskKey (other dir) past
        accepts B taken e = owed.keys s o taken e
        accepts A taken e = by (end_state B s past) (never-answer s past) e
    may-ask (ProposalMessage p) taken e = by (end_state (other dir) s past) e
      where
        wrong : {k : _} → Wrong k ≡ AskKey → ⊥
        wrong e = cc

        by : (st : EndState) → verdict (is_raw s past) st (ProposalMessage p) (lacks setup payload (other dir) past) ≡ AskKey → CanAskKey (other dir) past
        by WaitsProposal e = let h = proposal-asks (lacks setup payload (other dir) past) (is_raw s past) p e in record { group = λ z. true≢false (sym (eq-eqb (group_of (other dir) past) 0 z) ∙ h.0); beyond = h.1 }
        by st e = absurd (wrong e)
    may-ask (ConfirmMessage o) taken e = by (is_raw s past) (end_state (other dir) s past) e
      where
        wrong : {k : _} → Wrong k ≡ AskKey → ⊥
        wrong e = cc

        ready : Ready ≡ AskKey → ⊥
        ready e = cc

        lost : Lost ≡ AskKey → ⊥
        lost e = cc

        flip : (b : Bool) → (if b then Ready else Lost) ≡ AskKey → ⊥
        flip true e = ready e
        flip false e = lost e

        by : (raw : Bool) (st : EndState) → verdict raw st (ConfirmMessage o) (lacks setup payload (other dir) past) ≡ AskKey → CanAskKey (other dir) past
        by true WaitsConfirm e = absurd (wrong e)
        by false WaitsConfirm e = absurd (flip (o.psn == group_of (other dir) past) e)
        by raw st e = absurd (wrong e)
    may-ask (DeclineMessage r) taken e = by (end_state (other dir) s past) e
      where
        wrong : {k : _} → Wrong k ≡ AskKey → ⊥
        wrong e = cc

        fell : Fell ≡ AskKey → ⊥
        fell e = cc

        by : (st : EndState) → verdict (is_raw s past) st (DeclineMessage r) (lacks setup payload (other dir) past) ≡ AskKey → CanAskKey (other dir) past
        by WaitsAnswer e = absurd (fell e)
        by WaitsConfirm e = absurd (fell e)
        by st e = absurd (wrong e)

    -- by the verdict
    module _ (m : ClcMessage) (taken : IsTaken payload s dir m past) where
      ready : clc_step setup payload (other dir) s m past ≡ Ready → (n : ClcMessage) → m ≡ n → Draft past all.under (ClcEvent s dir) (step_told (group_on s past) n Ready) (asked setup payload past (ClcEvent s dir) (step_told (group_on s past) n Ready))
      ready step (ProposalMessage p) is = quiet past all (ClcEvent s dir) Idle [] (λ x k. refl) (λ actor posts. refl) tt
      ready step (AcceptMessage o) is = quiet past all (ClcEvent s dir) Idle [] (λ x k. refl) (λ actor posts. refl) tt
      ready step (DeclineMessage r) is = quiet past all (ClcEvent s dir) Idle [] (λ x k. refl) (λ actor posts. refl) tt
      ready step (ConfirmMessage o) is = by o.first refl
        where
          posts-are : (b : Bool) → o.first ≡ b → front_posts setup payload (other dir) s past (front payload dir s past) ≡ (if b then first_ask setup s past ∷ [] else [])
          posts-are b e = ap (λ f. front_posts setup payload (other dir) s past f) taken.front ∙ (ap (λ st. clc_posts setup payload (other dir) s m past st) step ∙ (ap (λ m. ready_posts setup s m past) is ∙ ap (λ b. if b then first_ask setup s past ∷ [] else []) e))

          by : (b : Bool) → o.first ≡ b → Draft past all.under (ClcEvent s dir) (if b then Sent LinkSent else Established) (asked setup payload past (ClcEvent s dir) (if b then Sent LinkSent else Established))
          by false e = subst (λ ps. Draft past all.under (ClcEvent s dir) Established ps) (sym (posts-are false e)) (quiet past all (ClcEvent s dir) Established [] (λ x k. refl) (λ actor posts. refl) tt)
          by true e = subst (λ ps. Draft past all.under (ClcEvent s dir) (Sent LinkSent) ps) (sym (posts-are true e)) (at (owed.asks s dir o (subst (λ m. IsTaken payload s dir m past) is taken) (ap (λ m. clc_step setup payload (other dir) s m past) (sym is) ∙ step) e))
            where
              at : CanAsk (unwrap_or (named_link s past) no_link) past all.under → Draft past all.under (ClcEvent s dir) (Sent LinkSent) (first_ask setup s past ∷ [])
              at can = changed past all (ClcEvent s dir) (Sent LinkSent) (first_ask setup s past ∷ []) (λ x k. refl) (one-alone link_kind (first_ask setup s past)) (link-made (unwrap_or (named_link s past) no_link) can, tt) (inr can.none)
                  (λ actor cs bare. grows-same (fabric past))
                  (λ actor cs bare. asks-first (fabric past) all.under (unwrap_or (named_link s past) no_link) _ _ _ _ _ _ all.linked can.flow (λ both. can.at_a both.at_a))

      by-step : (step : ClcStep) → clc_step setup payload (other dir) s m past ≡ step → Draft past all.under (ClcEvent s dir) (step_told (group_on s past) m step) (asked setup payload past (ClcEvent s dir) (step_told (group_on s past) m step))
      by-step step e = by step e (ap (λ f. front_posts setup payload (other dir) s past f) taken.front ∙ ap (λ st. clc_posts setup payload (other dir) s m past st) e)
        where
          given : (r : Reply) (ps : List Post) → front_posts setup payload (other dir) s past (front payload dir s past) ≡ ps → Draft past all.under (ClcEvent s dir) r ps → Draft past all.under (ClcEvent s dir) r (front_posts setup payload (other dir) s past (front payload dir s past))
          given r ps e d = subst (λ ps. Draft past all.under (ClcEvent s dir) r ps) (sym e) d

          by : (step : ClcStep) → clc_step setup payload (other dir) s m past ≡ step → front_posts setup payload (other dir) s past (front payload dir s past) ≡ clc_posts setup payload (other dir) s m past step
              → Draft past all.under (ClcEvent s dir) (step_told (group_on s past) m step) (asked setup payload past (ClcEvent s dir) (step_told (group_on s past) m step))
          by (SendAccept true) e p = given (Sent AcceptSent) _ p (let h = begins (LinkId.group (first_link setup past)) refl in changed past all (ClcEvent s dir) (Sent AcceptSent) (accept_post setup payload s true (first_link setup past) past ∷ []) (λ x k. refl) (inl refl, tt) tt (inl refl) (λ actor cs bare. h.0) (λ actor cs bare. h.1))
          by (SendAccept false) e p = given (Sent AcceptSent) _ p (changed past all (ClcEvent s dir) (Sent AcceptSent) (accept_post setup payload s false (fewest setup payload past) past ∷ []) (λ x k. refl) (inl refl, tt) tt (inl refl) (λ actor cs bare. grows-same (fabric past)) (λ actor cs bare. all.linked))
          by (SendConfirm true) e p = given (Sent ConfirmSent) _ p (let h = joined (unwrap_or (named_link s past) no_link) (owed.joins s dir m taken e) in changed past all (ClcEvent s dir) (Sent ConfirmSent) (confirm_post setup payload s true (unwrap_or (named_link s past) no_link) past ∷ []) (λ x k. refl) (inl refl, tt) tt (inl refl) (λ actor cs bare. h.0) (λ actor cs bare. h.1))
          by (SendConfirm false) e p = given Established _ p (quiet past all (ClcEvent s dir) Established (confirm_post setup payload s false (unwrap_or (named_link s past) no_link) past ∷ []) (λ x k. refl) (λ actor posts. refl) tt)
          by AskKey e p = given (Sent KeySent) _ p (changed past all (ClcEvent s dir) (Sent KeySent) (key_ask setup payload (other dir) past ∷ []) (λ x k. refl) (one-alone link_kind (key_ask setup payload (other dir) past)) (known-made (fabric past) all.under all.linked (other dir) (lowest_live (table_of (other dir) past)), tt) (inl refl)
              (λ actor cs bare. asks-grows (other dir) (may-ask m taken e) (key_rmb (key_ask setup payload (other dir) past))) (λ actor cs bare. asks (other dir) (may-ask m taken e) (key_rmb (key_ask setup payload (other dir) past))))
          by (Wait hold) e p = given (Held hold) _ p (quiet past all (ClcEvent s dir) (Held hold) [] (λ x k. refl) (λ actor posts. refl) tt)
          by (Decline lack) e p = given (Declined lack) _ p (quiet past all (ClcEvent s dir) (Declined lack) (clc_posts setup payload (other dir) s m past (Decline lack)) (λ x k. refl) (λ actor posts. refl) tt)
          by Fell e p = given FellBack _ p (quiet past all (ClcEvent s dir) FellBack [] (λ x k. refl) (λ actor posts. refl) tt)
          by Ready e p = ready e m refl
          by Lost e p = given (Reset (NoLiveLink (group_on s past))) _ p (quiet past all (ClcEvent s dir) (Reset (NoLiveLink (group_on s past))) [] (λ x k. refl) (λ actor posts. refl) tt)
          by (Wrong kind) e p = given (Reset (BadStep kind)) _ p (quiet past all (ClcEvent s dir) (Reset (BadStep kind)) [] (λ x k. refl) (λ actor posts. refl) tt)

    -- a CLC message is taken, or not
    pub takes-clc : Draft past all.under (ClcEvent s dir) (clc_told setup payload s dir past) (asked setup payload past (ClcEvent s dir) (clc_told setup payload s dir past))
    takes-clc = by (expects (end_state (other dir) s past)) (front payload dir s past) refl refl
      where
        by : (b : Bool) (f : Front) → expects (end_state (other dir) s past) ≡ b → front payload dir s past ≡ f → Draft past all.under (ClcEvent s dir) (if b then front_told setup payload (other dir) s past f else Idle) (asked setup payload past (ClcEvent s dir) (if b then front_told setup payload (other dir) s past f else Idle))
        by false f p q = quiet past all (ClcEvent s dir) Idle [] (λ x k. refl) (λ actor posts. refl) tt
        by true NoMessage p q = quiet past all (ClcEvent s dir) Idle [] (λ x k. refl) (λ actor posts. refl) tt
        by true (Faulty fault) p q = subst (λ ps. Draft past all.under (ClcEvent s dir) (Reset (BadClc fault)) ps) (sym (ap (λ f. front_posts setup payload (other dir) s past f) q)) (quiet past all (ClcEvent s dir) (Reset (BadClc fault)) [] (λ x k. refl) (λ actor posts. refl) tt)
        by true (Whole m len) p q = by-step m (record { waits = p; len = len; front = q }) (clc_step setup payload (other dir) s m past) refl
