-- B takes the next CLC message of A, or leaves it: which kind of entry it is, for each verdict.
use Rattle.std.proofs.Common.{Bool, List, None, Some, [], ap, arith, eq-eqb, eqb-true, false, if◌then◌else◌, inl, inr, length, refl, subst, sym, true, true≢false, ℕ, ◌++◌, ◌+◌, ◌==◌, ◌∙◌, ◌∷◌, ◌≡◌, ◌≢◌, ◌⊎◌}
use Rattle.std.specs.Prelude.{Option, filter_map, unwrap_or}
use Rattle.pipe_model.specs.declared.post.Post.TheVariants.{Clc as ClcPost, Llc as LlcPost}
use Rattle.clc_wire.specs.declared.message.ClcMessage.TheVariants.{Accept as AcceptMessage, Confirm as ConfirmMessage, Decline as DeclineMessage, Proposal as ProposalMessage}
use Rattle.pipe_model.specs.declared.event.Event.TheVariants.{Clc}
use Rattle.pipe_model.specs.declared.reply.ResetCause.{ResetCause}
use Rattle.pipe_model.specs.Lawful.{asked}
use Rattle.pipe_model.specs.declared.reply.Reply.TheVariants.{Idle, Sent}
use Rattle.pipe_model.specs.declared.reply.SentKind.TheVariants.{Accept as AcceptSent, ConfirmRkey as KeySent, ConfirmLink as LinkSent}
use Rattle.std.specs.Option.{option_or}
use Rattle.smc_num.specs.declared.LinkPhase.TheVariants.{Live as LiveLink}
use Rattle.pipe_model.specs.Handshake.{kind_of}
use Rattle.history_laws.specs.Words.{A, AskKey, B, BadClc, BadStep, ClcFault, ClcMessage, ClcStep, Decline, Declined, EndState, Entry, Established, Faulty, Fell, FellBack, Flow, Front, HasFallen, Held, Hold, IsUp, Lack, Lacks, LinkId, Lost, NoEnd, NoLiveLink, NoMessage, NoSubnet, Offer, Offered, Post, Proposal, Ready, Refusal, Reply, Reset, SendAccept, Setup, Side, Wait, WaitsAnswer, WaitsConfirm, WaitsLink, WaitsProposal, WasReset, Whole, Wrong, after_clc, after_loss, clc_posts, clc_told, confirm_link, end_state, expects, fabric, fewest, first_link, flow_of, front, front_of, front_posts, front_told, group_of, group_on, groups_begun, head, is_first_contact, is_raw, keys_of, lacks, link_at, loses_group_with, named_link, new_offer, next_free, no_link, offer_in, offered, offered_if, pair_on, peer_of, phase_at, refusal, rkey_post, step_told, stream, table_of, takes_message, untaken, up_by}
use Rattle.history_laws.proofs.Posts.{AreWired, begins-nothing, data-wired, offers-nothing, says-nothing}
use Rattle.history_laws.specs.Posts.{AreData}
use Rattle.history_laws.specs.Offers.{is_own_state}
use Rattle.history_laws.proofs.Basics.{a-is-b, by-side, some-is}
use Rattle.history_laws.proofs.Offers.{loss-own}
use Rattle.link_laws.proofs.Contact.Same.{is_waiting_state, loss-keeps, state-parts}
use Rattle.link_laws.proofs.Contact.Messages.{beside, early-sender, early-taker, held, offers-across, offers-beside, says-across, says-beside, says-here, stream-taken, stream-taker, up-same}
use Rattle.link_laws.specs.Linked.{AreLinked, Under, under_in}
use Rattle.link_laws.specs.Offered.{AreNamed, AreOffered, HasProposal}
use Rattle.link_laws.specs.Contact.{AreCounted, IsConfirming, IsJoinedFirst, IsOfferedFirst}
use Rattle.link_laws.proofs.Contact.Changes.{AreLaterOnly, Begins, IsLaterOffer, IsMoved, IsSame, IsStarting, Kind, Moves, Plain, Readies}
use Rattle.link_laws.proofs.Contact.Elsewhere.{append-none, data-under, moves-same, no-group-begun, offer-by}
use Rattle.link_laws.proofs.Contact.Handled.{is_of_first, joined-message, moved, named-append, not-joined, not-offered, offered-message}
use Rattle.link_laws.proofs.Contact.Fewest.{fewest-is}
use Rattle.link_laws.proofs.Contact.Reflows.{moves-flow}
use Rattle.link_laws.proofs.Contact.Verdicts.{is_awaited, judged}
use Rattle.link_laws.proofs.Contact.FirstSlot.{first-slot}

-- an end that expects a message waits
pub expecting : (st : EndState) → expects st ≡ true → (is_waiting_state st ≡ true) × (st ≢ NoEnd)
expecting WaitsProposal e = (refl, λ q. (let n : WaitsProposal ≡ NoEnd → ⊥ = λ e. cc in n q))
expecting WaitsAnswer e = (refl, λ q. (let n : WaitsAnswer ≡ NoEnd → ⊥ = λ e. cc in n q))
expecting WaitsConfirm e = (refl, λ q. (let n : WaitsConfirm ≡ NoEnd → ⊥ = λ e. cc in n q))
expecting NoEnd e = absurd (true≢false (sym e))
expecting WaitsLink e = absurd (true≢false (sym e))
expecting IsUp e = absurd (true≢false (sym e))
expecting HasFallen e = absurd (true≢false (sym e))
expecting (WasReset c) e = absurd (true≢false (sym e))

-- of two managers the front is the next message, and never faulty
pub front-head : (raw : Bool) (held : List ℕ) (ms : List ClcMessage) (m : ClcMessage) (len : ℕ) → raw ≡ false → front_of raw held ms ≡ Whole m len → head ms ≡ Some m
front-head true held ms m len r e = absurd (true≢false r)
front-head false held [] m len r e = absurd (no_way e)
  where
    no_way : NoMessage ≡ Whole m len → ⊥
    no_way e = cc
front-head false held (c ∷ ms) m len r e = ap (λ c. Some c) (same _ e)
  where
    same : (n : ℕ) → Whole c n ≡ Whole m len → c ≡ m
    same n e = cc

pub front-faulty : (raw : Bool) (held : List ℕ) (ms : List ClcMessage) (fault : ClcFault) → front_of raw held ms ≡ Faulty fault → raw ≡ true
front-faulty true held ms fault e = refl
front-faulty false held [] fault e = absurd (no_way e)
  where
    no_way : NoMessage ≡ Faulty fault → ⊥
    no_way e = cc
front-faulty false held (c ∷ ms) fault e = absurd (no_way _ e)
  where
    no_way : (n : ℕ) → Whole c n ≡ Faulty fault → ⊥
    no_way n e = cc

-- an offer on its own socket
pub offers-here-b : (s : ℕ) (l : LinkId) (o : Offer) (rest : List Post) → AreWired rest → filter_map (offer_in B s) (ClcPost B s (Some l) (AcceptMessage o) ∷ rest) ≡ record { link = l; offer = o } ∷ []
offers-here-b s l o rest w = ap (λ b. flat (offered_if b l o) (filter_map (offer_in B s) rest)) (eq-eqb s s refl) ∙ ap (λ (os : List Offered). record { link = l; offer = o } ∷ os) (offers-nothing B s rest w)
  where
    flat : Option Offered → List Offered → List Offered
    flat None os = os
    flat (Some o) os = o ∷ os

module _ (setup : Setup) (payload : List ℕ) (past : List Entry) (under : Option Under) (actor s : ℕ) (rest : List Post) (data_rest : AreData rest) (linked : AreLinked (fabric past) under) (offers : AreOffered past) (counted : AreCounted past) where
  wired : AreWired rest
  wired = data-wired rest data_rest

  abbrev entry : Reply → List Post → Entry
  entry reply posts = record { actor = actor; event = Clc s A; reply = reply; posts = posts }

  abbrev K : Reply → List Post → Type 0
  K reply posts = Kind past under (entry reply (posts ++ rest))

  -- the message is left
  left : (reply : Reply) → takes_message reply ≡ false → ((st : EndState) → after_clc reply st ≡ st) → ((x : Side) (t : ℕ) → up_by x t (Clc s A) reply past ≡ None) → (posts : List Post) → AreWired (posts ++ rest) → Moves past under (entry reply (posts ++ rest)) → K reply posts
  left reply takes stays up posts w moves = Plain (record { moves = moves; count = no-group-begun past (entry reply (posts ++ rest)) w; socket = λ t. inl (held past under actor s A reply (posts ++ rest) takes stays up w t) })

  -- the message is taken, and B says at most this
  socket : (reply : Reply) (posts : List Post) → IsMoved s past under (entry reply posts) → ((t : ℕ) → (t == s) ≡ false → IsSame t past under (entry reply posts)) → (t : ℕ) → IsSame t past under (entry reply posts) ⊎ IsMoved t past under (entry reply posts)
  socket reply posts m o t = by (t == s) refl
    where
      by : (b : Bool) → (t == s) ≡ b → IsSame t past under (entry reply posts) ⊎ IsMoved t past under (entry reply posts)
      by true q = inr (subst (λ n. IsMoved n past under (entry reply posts)) (sym (eqb-true t s q)) m)
      by false q = inl (o t q)

  -- taken and nothing said on the sockets
  taken : (reply : Reply) (m : ClcMessage) (state : EndState) → (is_raw s past ≡ false → head (untaken A s past) ≡ Some m) → is_waiting_state state ≡ true → state ≢ NoEnd → end_state B s past ≡ state
      → takes_message reply ≡ true → is_own_state B (after_clc reply state) ≡ true → after_clc reply state ≢ WaitsProposal
      → ((o : Offered) → IsOfferedFirst s o past → ⊥) → ((o p : Offered) → IsJoinedFirst s o p past under → ⊥)
      → fabric (entry reply rest ∷ past) ≡ fabric past → K reply []
  taken reply m state h w some is takes own leaves no_offer no_join same = Plain (record {
    moves = moves-same past under (entry reply rest) same (data-under rest data_rest);
    count = no-group-begun past (entry reply rest) wired;
    socket = socket reply rest (moved past under actor s A reply rest offers m state h w some is takes own leaves [] (says-nothing B s rest wired) tt (says-nothing A s rest wired) (λ o g. inl (sym (offer-by past (entry reply rest) B s wired) ∙ g)) (offers-nothing A s rest wired)
        (λ q r. subst (λ o. AreNamed o (untaken B s (entry reply rest ∷ past))) (sym (offer-by past (entry reply rest) B s wired)) (subst (λ ms. AreNamed (offered B s past) ms) (sym (stream-taker past under actor s A reply rest ∙ ap (λ ms. untaken B s past ++ ms) (says-nothing B s rest wired))) (named-append (offered B s past) (untaken B s past) [] (offers.accepted s r) tt))) no_offer no_join)
        (λ t q. beside past under actor s A reply rest t q (λ x. says-nothing x t rest wired) (λ x. offers-nothing x t rest wired));
  })

  fallen : HasFallen ≡ WaitsProposal → ⊥
  fallen e = cc

  reset : (c : ResetCause) → WasReset c ≡ WaitsProposal → ⊥
  reset c e = cc

  confirming : WaitsConfirm ≡ WaitsProposal → ⊥
  confirming e = cc

  proposal-some : WaitsProposal ≡ NoEnd → ⊥
  proposal-some e = cc

  confirm-some : WaitsConfirm ≡ NoEnd → ⊥
  confirm-some e = cc

  -- B says one thing on the socket, which is not of first contact
  said : (reply : Reply) (link : Option LinkId) (c : ClcMessage) (m : ClcMessage) (state : EndState) → (is_raw s past ≡ false → head (untaken A s past) ≡ Some m) → is_waiting_state state ≡ true → state ≢ NoEnd → end_state B s past ≡ state
      → takes_message reply ≡ true → is_own_state B (after_clc reply state) ≡ true → after_clc reply state ≢ WaitsProposal
      → AreLaterOnly (c ∷ [])
      → ((o : Offered) → offered B s (entry reply (ClcPost B s link c ∷ rest) ∷ past) ≡ Some o → (offered B s past ≡ Some o) ⊎ IsLaterOffer B o past)
      → (is_raw s past ≡ false → AreNamed (offered B s (entry reply (ClcPost B s link c ∷ rest) ∷ past)) (untaken B s past ++ c ∷ []))
      → is_of_first m ≡ false
      → fabric (entry reply (ClcPost B s link c ∷ rest) ∷ past) ≡ fabric past → under_in rest ≡ None
      → groups_begun (entry reply (ClcPost B s link c ∷ rest) ∷ past) ≡ groups_begun past
      → K reply (ClcPost B s link c ∷ [])
  said reply link c m state h w some is takes own leaves later new named not_first same none count = Plain (record {
    moves = moves-same past under (entry reply (ClcPost B s link c ∷ rest)) same none;
    count = count;
    socket = socket reply (ClcPost B s link c ∷ rest) (moved past under actor s A reply (ClcPost B s link c ∷ rest) offers m state h w some is takes own leaves (c ∷ []) (says-here B s link c rest wired) later (says-across B s s link c rest wired) new (offers-across B s s link c rest wired)
        (λ q r. subst (λ ms. AreNamed (offered B s (entry reply (ClcPost B s link c ∷ rest) ∷ past)) ms) (sym (stream-taker past under actor s A reply (ClcPost B s link c ∷ rest) ∙ ap (λ ms. untaken B s past ++ ms) (says-here B s link c rest wired))) (named r))
        (λ o row. not-offered past s o A m not_first offers h row) (λ o q row. not-joined past under s o q A m not_first offers h row))
        (λ t q. beside past under actor s A reply (ClcPost B s link c ∷ rest) t q (λ x. says-beside x B t s q link c rest wired) (λ x. offers-beside x B t s q link c rest wired));
  })

  abbrev facts : Lacks
  facts = lacks setup payload B past

  -- what is to be shown of a verdict
  abbrev P : Bool → EndState → ClcMessage → ClcStep → Type 0
  P raw state m step = is_raw s past ≡ raw → end_state B s past ≡ state → expects state ≡ true → (is_raw s past ≡ false → head (untaken A s past) ≡ Some m)
      → front_posts setup payload B s past (front payload A s past) ≡ clc_posts setup payload B s m past step → Kind past under (record { actor = actor; event = Clc s A; reply = step_told (group_on s past) m step; posts = asked setup payload past (Clc s A) (step_told (group_on s past) m step) ++ rest })

  to : (reply : Reply) (ps qs : List Post) → ps ≡ qs → K reply qs → K reply ps
  to reply ps qs e k = subst (λ ps. K reply ps) (sym e) k

  -- B is not in first contact, where it judges a later Proposal
  not-starting : is_first_contact (flow_of B past).link ≡ false → IsStarting B past → ⊥
  not-starting f st = true≢false (ap (λ (f : Flow). is_first_contact f.link) (sym st.flow) ∙ f)

  accepts-later : (raw : Bool) (p : Proposal) → facts.first_contact ≡ false → (facts.group == 0) ≡ false → P raw WaitsProposal (ProposalMessage p) (SendAccept false)
  accepts-later raw p first ne r is ex h pe = to (Sent AcceptSent) _ _ pe (said (Sent AcceptSent) (Some (fewest setup payload past)) (AcceptMessage offer) (ProposalMessage p) WaitsProposal h refl proposal-some is refl refl confirming (refl, tt)
      (λ o e. inr (subst (λ q. IsLaterOffer B q past) (some-is (record { link = fewest setup payload past; offer = offer }) o (sym now ∙ e)) new))
      (λ r. let was : HasProposal s past = offers.proposed s r is in subst (λ o. AreNamed o (untaken B s past ++ AcceptMessage offer ∷ [])) (sym now) (subst (λ ms. AreNamed (Some (record { link = fewest setup payload past; offer = offer })) (ms ++ AcceptMessage offer ∷ [])) (sym was.untaken_b) ((record { link = fewest setup payload past; offer = offer }, (refl, refl)), tt)))
      refl refl (data-under rest data_rest) (ap (λ (ps : List Post). groups_begun past + length ps) (begins-nothing rest wired) ∙ omega arith))
    where
      offer : Offer
      offer = new_offer setup payload B false (fewest setup payload past) past

      now : offered B s (entry (Sent AcceptSent) (ClcPost B s (Some (fewest setup payload past)) (AcceptMessage offer) ∷ rest) ∷ past) ≡ Some (record { link = fewest setup payload past; offer = offer })
      now = ap (λ (os : List Offered). option_or (head os) (offered B s past)) (offers-here-b s (fewest setup payload past) offer rest wired)

      some : group_of B past ≢ 0
      some z = true≢false (sym (eq-eqb (group_of B past) 0 z) ∙ ne)

      it : (group_of B past ≡ (fewest setup payload past).group) × (link_at (fewest setup payload past).slot (table_of B past) ≡ Some (fewest setup payload past)) × (phase_at (fewest setup payload past).slot (table_of B past) ≡ LiveLink)
      it = fewest-is setup payload past under linked some first

      new : IsLaterOffer B (record { link = fewest setup payload past; offer = offer }) past
      new = record { first = refl; begun = omega (arith, it.0, counted.at_most B); psn = refl; group = λ q. it.0; beyond = λ q. first; some = λ q. subst (λ n. n ≢ 0) it.0 some; known = λ q. it.1; live = λ q. it.2 }

  asks-b : (raw : Bool) (p : Proposal) → facts.first_contact ≡ false → (facts.group == 0) ≡ false → P raw WaitsProposal (ProposalMessage p) AskKey
  asks-b raw p first ne r is ex h pe = to (Sent KeySent) _ _ pe (left (Sent KeySent) refl (λ st. refl) (by-side (λ x. (t : ℕ) → up_by x t (Clc s A) (Sent KeySent) past ≡ None) (λ t. refl) (λ t. refl)) (rkey_post B (next_free setup payload B past).rmb (peer_of B past) (keys_of B past).keys ∷ []) wired
      (moves-flow past under (entry (Sent KeySent) (rkey_post B (next_free setup payload B past).rmb (peer_of B past) (keys_of B past).keys ∷ rest)) B _ _ refl (λ h. h) (λ c st. absurd (not-starting first st)) (λ l n c. data-under rest data_rest)))

  waits-b : (raw : Bool) (p : Proposal) (hold : Hold) → P raw WaitsProposal (ProposalMessage p) (Wait hold)
  waits-b raw p hold r is ex h pe = to (Held hold) _ _ pe (left (Held hold) refl (λ st. refl) (by-side (λ x. (t : ℕ) → up_by x t (Clc s A) (Held hold) past ≡ None) (λ t. refl) (λ t. refl)) [] wired (moves-same past under (entry (Held hold) rest) refl (data-under rest data_rest)))

  declines-b : (raw : Bool) (p : Proposal) (lack : Lack) → P raw WaitsProposal (ProposalMessage p) (Decline lack)
  declines-b raw p lack r is ex h pe = to (Declined lack) _ _ pe (said (Declined lack) None (DeclineMessage (refusal B lack)) (ProposalMessage p) WaitsProposal h refl proposal-some is refl refl fallen tt (λ o e. inl (sym same ∙ e))
      (λ r. subst (λ o. AreNamed o (untaken B s past ++ DeclineMessage (refusal B lack) ∷ [])) (sym same) (named-append (offered B s past) (untaken B s past) (DeclineMessage (refusal B lack) ∷ []) (offers.accepted s r) tt))
      refl refl (data-under rest data_rest) (ap (λ (ps : List Post). groups_begun past + length ps) (begins-nothing rest wired) ∙ omega arith))
    where
      same : offered B s (entry (Declined lack) (ClcPost B s None (DeclineMessage (refusal B lack)) ∷ rest) ∷ past) ≡ offered B s past
      same = ap (λ (os : List Offered). option_or (head os) (offered B s past)) (offers-nothing B s rest wired)

  falls-b : (raw : Bool) (q : Refusal) → P raw WaitsConfirm (DeclineMessage q) Fell
  falls-b raw q r is ex h pe = to FellBack _ _ pe (taken FellBack (DeclineMessage q) WaitsConfirm h refl confirm-some is refl refl fallen
      (λ o row. not-offered past s o A (DeclineMessage q) refl offers h row) (λ o p row. not-joined past under s o p A (DeclineMessage q) refl offers h row) refl)

  -- no Accept of first contact is judged by B
  not-b : (o : Offered) (m : ClcMessage) → (is_raw s past ≡ false → head (untaken A s past) ≡ Some m) → IsOfferedFirst s o past → ⊥
  not-b o m h row = let it = offered-message past s o A m offers row h in a-is-b it.0

  loses : (o : Offer) → (o.psn == facts.group) ≡ false → P false WaitsConfirm (ConfirmMessage o) Lost
  loses o ne r is ex h pe = to (Reset (NoLiveLink (group_on s past))) _ _ pe (taken (Reset (NoLiveLink (group_on s past))) (ConfirmMessage o) WaitsConfirm h refl confirm-some is refl refl (reset (NoLiveLink (group_on s past)))
      (λ q row. not-b q (ConfirmMessage o) h row) (λ q p row. not_joined q p row) refl)
    where
      offer-is : (p q : Offer) → ConfirmMessage p ≡ ConfirmMessage q → p ≡ q
      offer-is p q e = cc

      not_joined : (q p : Offered) → IsJoinedFirst s q p past under → ⊥
      not_joined q p row =
          let it = joined-message past under s q p A (ConfirmMessage o) offers row h in
          let c : IsConfirming B q.link past = row.at_b in
          let psn : o.psn ≡ group_of B past = ap (λ (o : Offer). o.psn) (sym (offer-is p.offer o it.1)) ∙ offers.psn A s p row.answered ∙ ap (λ (l : LinkId). l.group) row.link ∙ sym c.group in
          true≢false (sym (eq-eqb o.psn (group_of B past) psn) ∙ ne)

  wrong : (raw : Bool) (state : EndState) (m : ClcMessage) → is_awaited raw state m ≡ false → P raw state m (Wrong (kind_of m))
  wrong raw state m no_rule r is ex h pe = let w = expecting state ex in to (Reset (BadStep (kind_of m))) _ _ pe (taken (Reset (BadStep (kind_of m))) m state h w.0 w.1 is refl refl (reset (BadStep (kind_of m))) (λ q row. not-b q m h row) (λ q p row. not_joined q p row) refl)
    where
      not_joined : (q p : Offered) → IsJoinedFirst s q p past under → ⊥
      not_joined q p row =
          let it = joined-message past under s q p A m offers row h in
          let raw_is : raw ≡ false = sym r ∙ offers.plain s row.opened in
          let state_is : state ≡ WaitsConfirm = sym is ∙ row.waits_b in
          true≢false (ap (λ m. is_awaited false WaitsConfirm m) it.1 ∙ ap (λ st. is_awaited false st m) (sym state_is) ∙ ap (λ b. is_awaited b state m) (sym raw_is) ∙ no_rule)

  -- B does not wait for an answer
  not-answer : end_state B s past ≡ WaitsAnswer → ⊥
  not-answer is = let st = state-parts B s past WaitsAnswer refl is in true≢false (sym (offers.sided B s) ∙ ap (is_own_state B) st.1)

  accepts-first : (p : Proposal) → (facts.group == 0) ≡ true → (facts.slots_up == 0) ≡ false → P false WaitsProposal (ProposalMessage p) (SendAccept true)
  accepts-first p none up r is ex h pe = to (Sent AcceptSent) _ _ pe (Begins s (record { link = link; offer = offer }) (record {
    kept = record { opened = refl; raw = refl; up = up-same past under actor s A (Sent AcceptSent) (post ∷ rest) (by-side (λ x. up_by x s (Clc s A) (Sent AcceptSent) past ≡ None) refl refl); not_raw = r; others = λ t q. beside past under actor s A (Sent AcceptSent) (post ∷ rest) t q (λ x. says-beside x B t s q (Some link) (AcceptMessage offer) rest wired) (λ x. offers-beside x B t s q (Some link) (AcceptMessage offer) rest wired) };
    group = refl;
    psn = refl;
    first = refl;
    slot = first-slot setup past up;
    next = refl;
    without = eqb-true (group_of B past) 0 none;
    waits = is;
    changed = refl;
    count = ap (λ (ps : List Post). groups_begun past + length (post ∷ ps)) (begins-nothing rest wired);
    named = ap (λ (os : List Offered). option_or (head os) (offered B s past)) (offers-here-b s link offer rest wired);
    offered_a = ap (λ (os : List Offered). option_or (head os) (offered A s past)) (offers-across B s s (Some link) (AcceptMessage offer) rest wired);
    untaken_a = stream-taken past under actor s A (Sent AcceptSent) (post ∷ rest) refl (says-across B s s (Some link) (AcceptMessage offer) rest wired);
    untaken_b = stream-taker past under actor s A (Sent AcceptSent) (post ∷ rest) ∙ ap (λ ms. untaken B s past ++ ms) (says-here B s (Some link) (AcceptMessage offer) rest wired);
    early_b = early-taker past under actor s A (Sent AcceptSent) (post ∷ rest) ∙ loss-keeps _ _ WaitsConfirm refl;
    early_a = early-sender past under actor s A (Sent AcceptSent) (post ∷ rest);
  }))
    where
      link : LinkId
      link = first_link setup past

      offer : Offer
      offer = new_offer setup payload B true link past

      post : Post
      post = ClcPost B s (Some link) (AcceptMessage offer)

  not-own-reset : (c : ResetCause) → WasReset c ≡ WaitsProposal → ⊥
  not-own-reset c e = cc

  link-waits : WaitsLink ≡ WaitsProposal → ⊥
  link-waits e = cc

  -- B takes the Confirm: in later contact its end is up, in first contact it asks A to confirm the link
  readies : (o : Offer) → (o.psn == facts.group) ≡ true → P false WaitsConfirm (ConfirmMessage o) Ready
  readies o same r is ex h pe = by o.first refl pe
    where
      up : (b : Bool) → o.first ≡ b → front_posts setup payload B s past (front payload A s past) ≡ (if b then LlcPost B (unwrap_or (named_link s past) no_link) (confirm_link setup B false (unwrap_or (named_link s past) no_link) (pair_on B (LinkId.slot (unwrap_or (named_link s past) no_link)) past)) ∷ [] else [])
          → Kind past under (record { actor = actor; event = Clc s A; reply = if b then Sent LinkSent else Established; posts = asked setup payload past (Clc s A) (if b then Sent LinkSent else Established) ++ rest })
      up false first pe = to Established _ [] pe (taken Established (ConfirmMessage o) WaitsConfirm h refl confirm-some is refl refl confirming (λ q row. not-b q (ConfirmMessage o) h row) (λ q p row. not-joined past under s q p A (ConfirmMessage o) first offers h row) refl)
      up true first pe = to (Sent LinkSent) _ _ pe (Readies s o (record {
        kept = record { opened = refl; raw = refl; up = up-same past under actor s A (Sent LinkSent) (asks ∷ rest) (by-side (λ x. up_by x s (Clc s A) (Sent LinkSent) past ≡ None) refl refl); not_raw = r; others = λ t q. beside past under actor s A (Sent LinkSent) (asks ∷ rest) t q (λ x. says-nothing x t (asks ∷ rest) wired) (λ x. offers-nothing x t (asks ∷ rest) wired) };
        confirm = h r;
        confirm_first = first;
        psn = eqb-true o.psn (group_of B past) same;
        changed = refl;
        count = no-group-begun past (entry (Sent LinkSent) (asks ∷ rest)) wired;
        offers = λ x. offer-by past (entry (Sent LinkSent) (asks ∷ rest)) x s wired;
        untaken_a = stream-taken past under actor s A (Sent LinkSent) (asks ∷ rest) refl (says-nothing A s (asks ∷ rest) wired);
        untaken_b = stream-taker past under actor s A (Sent LinkSent) (asks ∷ rest) ∙ ap (λ ms. untaken B s past ++ ms) (says-nothing B s (asks ∷ rest) wired) ∙ append-none (untaken B s past);
        early_a = early-sender past under actor s A (Sent LinkSent) (asks ∷ rest);
        own_b = ap (is_own_state B) (early-taker past under actor s A (Sent LinkSent) (asks ∷ rest)) ∙ loss-own B _ _ WaitsLink refl;
        linked_b = early-taker past under actor s A (Sent LinkSent) (asks ∷ rest);
        early_b = λ z. links (loses_group_with B (group_on s past) (entry (Sent LinkSent) (asks ∷ rest)) past) (sym (early-taker past under actor s A (Sent LinkSent) (asks ∷ rest)) ∙ z);
      }))
        where
          asks : Post
          asks = LlcPost B (unwrap_or (named_link s past) no_link) (confirm_link setup B false (unwrap_or (named_link s past) no_link) (pair_on B (LinkId.slot (unwrap_or (named_link s past) no_link)) past))

          links : (b : Bool) → after_loss b (group_on s past) WaitsLink ≡ WaitsProposal → ⊥
          links true z = not-own-reset _ z
          links false z = link-waits z

      by : (b : Bool) → o.first ≡ b → front_posts setup payload B s past (front payload A s past) ≡ clc_posts setup payload B s (ConfirmMessage o) past Ready → Kind past under (record { actor = actor; event = Clc s A; reply = step_told (group_on s past) (ConfirmMessage o) Ready; posts = asked setup payload past (Clc s A) (step_told (group_on s past) (ConfirmMessage o) Ready) ++ rest })
      by b first pe = subst (λ c. Kind past under (record { actor = actor; event = Clc s A; reply = if c then Sent LinkSent else Established; posts = asked setup payload past (Clc s A) (if c then Sent LinkSent else Established) ++ rest })) (sym first) (up b first (pe ∙ ap (λ c. if c then LlcPost B (unwrap_or (named_link s past) no_link) (confirm_link setup B false (unwrap_or (named_link s past) no_link) (pair_on B (LinkId.slot (unwrap_or (named_link s past) no_link)) past)) ∷ [] else []) first))

  -- the front is faulty: a raw client's bytes
  faulty : (fault : ClcFault) → expects (end_state B s past) ≡ true → front payload A s past ≡ Faulty fault → Kind past under (record { actor = actor; event = Clc s A; reply = Reset (BadClc fault); posts = asked setup payload past (Clc s A) (Reset (BadClc fault)) ++ rest })
  faulty fault ex f =
      let raw : is_raw s past ≡ true = front-faulty (is_raw s past) (stream payload A s past) (untaken A s past) fault f in
      let w = expecting (end_state B s past) ex in
      to (Reset (BadClc fault)) _ [] (ap (front_posts setup payload B s past) f) (taken (Reset (BadClc fault)) (DeclineMessage (refusal B NoSubnet)) (end_state B s past) (λ r. absurd (true≢false (sym raw ∙ r))) w.0 w.1 refl refl refl (reset (BadClc fault))
      (λ o row. true≢false (sym raw ∙ offers.plain s row.opened)) (λ o p row. true≢false (sym raw ∙ offers.plain s row.opened)) refl)

  -- B is asked to take the next message
  pub taken-at-b : Kind past under (record { actor = actor; event = Clc s A; reply = clc_told setup payload s A past; posts = asked setup payload past (Clc s A) (clc_told setup payload s A past) ++ rest })
  taken-at-b = by (expects (end_state B s past)) refl
    where
      idle : K Idle []
      idle = left Idle refl (λ st. refl) (by-side (λ x. (t : ℕ) → up_by x t (Clc s A) Idle past ≡ None) (λ t. refl) (λ t. refl)) [] wired (moves-same past under (entry Idle rest) refl (data-under rest data_rest))

      at : (fr : Front) → front payload A s past ≡ fr → expects (end_state B s past) ≡ true → Kind past under (record { actor = actor; event = Clc s A; reply = front_told setup payload B s past fr; posts = asked setup payload past (Clc s A) (front_told setup payload B s past fr) ++ rest })
      at NoMessage f ex = idle
      at (Faulty fault) f ex = faulty fault ex f
      at (Whole m len) f ex = judged facts P accepts-first accepts-later asks-b waits-b declines-b
          (λ raw o first g r is ex h pe. absurd (not-answer is)) (λ raw o first g r is ex h pe. absurd (not-answer is)) (λ raw o first g r is ex h pe. absurd (not-answer is)) (λ raw o hold r is ex h pe. absurd (not-answer is)) (λ raw o lack first r is ex h pe. absurd (not-answer is)) (λ raw q r is ex h pe. absurd (not-answer is))
          falls-b readies loses wrong (is_raw s past) (end_state B s past) m refl refl ex (λ r. front-head (is_raw s past) (stream payload A s past) (untaken A s past) m len r f) (ap (front_posts setup payload B s past) f)

      by : (b : Bool) → expects (end_state B s past) ≡ b → Kind past under (record { actor = actor; event = Clc s A; reply = if b then front_told setup payload B s past (front payload A s past) else Idle; posts = asked setup payload past (Clc s A) (if b then front_told setup payload B s past (front payload A s past) else Idle) ++ rest })
      by true ex = at (front payload A s past) refl ex
      by false ex = idle
