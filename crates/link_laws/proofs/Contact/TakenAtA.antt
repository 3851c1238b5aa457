-- A takes the next CLC message of B, or leaves it: which kind of entry it is, for each verdict.
use Rattle.std.proofs.Common.{Bool, List, None, Some, [], ap, arith, eq-eqb, eqb-true, false, if◌then◌else◌, inl, inr, length, refl, subst, sym, true, true≢false, ℕ, ◌++◌, ◌+◌, ◌==◌, ◌∙◌, ◌∷◌, ◌≡◌, ◌≢◌, ◌⊎◌}
use Rattle.std.specs.Prelude.{Option, filter_map, unwrap_or}
use Rattle.pipe_model.specs.declared.post.Post.TheVariants.{Clc as ClcPost}
use Rattle.clc_wire.specs.declared.message.ClcMessage.TheVariants.{Accept as AcceptMessage, Confirm as ConfirmMessage, Decline as DeclineMessage}
use Rattle.pipe_model.specs.declared.event.Event.TheVariants.{Clc}
use Rattle.pipe_model.specs.declared.reply.ResetCause.{ResetCause}
use Rattle.pipe_model.specs.Lawful.{asked}
use Rattle.pipe_model.specs.declared.reply.Reply.TheVariants.{Idle, Sent}
use Rattle.pipe_model.specs.declared.reply.SentKind.TheVariants.{Confirm as ConfirmSent, ConfirmRkey as KeySent}
use Rattle.std.specs.Option.{option_or}
use Rattle.pipe_model.specs.Handshake.{kind_of}
use Rattle.history_laws.specs.Words.{A, AskKey, B, BadStep, ClcMessage, ClcStep, Decline, Declined, EndState, Entry, Established, Faulty, Fell, FellBack, Flow, Front, HasFallen, Held, Hold, Lack, Lacks, LinkId, NoEnd, NoMessage, Offer, Offered, Post, Refusal, Reply, Reset, SendConfirm, Setup, Side, Wait, WaitsAnswer, WaitsConfirm, WaitsLink, WaitsProposal, WasReset, Whole, Wrong, after_clc, clc_posts, clc_told, end_state, expects, fabric, front, front_posts, front_told, group_of, group_on, groups_begun, head, is_first_contact, is_raw, keys_of, lacks, named_link, new_offer, next_free, no_link, offer_in, offered, offered_if, peer_of, refusal, rkey_post, step_told, stream, takes_message, untaken, up_by}
use Rattle.history_laws.proofs.Posts.{AreWired, begins-nothing, data-wired, offers-nothing, says-nothing}
use Rattle.history_laws.proofs.Basics.{a-is-b, b-not-a, by-side, none-is, some-is}
use Rattle.history_laws.specs.Posts.{AreData}
use Rattle.history_laws.specs.Offers.{is_own_state}
use Rattle.history_laws.proofs.Offers.{loss-own}
use Rattle.link_laws.specs.Offered.{AreNamed, AreOffered}
use Rattle.link_laws.specs.Linked.{Under, under_in}
use Rattle.link_laws.specs.Contact.{AreCounted, IsBeyond, IsJoinedFirst, IsOfferedFirst}
use Rattle.link_laws.proofs.Contact.Changes.{AreLaterOnly, IsLaterOffer, IsMoved, IsSame, IsStarting, Joins, Kind, Moves, Plain}
use Rattle.link_laws.proofs.Contact.Elsewhere.{data-under, moves-same, no-group-begun, offer-by}
use Rattle.link_laws.proofs.Contact.Messages.{beside, early-sender, early-taker, held, offers-across, offers-beside, says-across, says-beside, says-here, stream-taken, stream-taker, up-same}
use Rattle.link_laws.proofs.Contact.Same.{is_waiting_state, state-parts}
use Rattle.link_laws.proofs.Contact.Handled.{is_of_first, joined-message, moved, not-joined, not-offered, offered-message}
use Rattle.link_laws.proofs.Contact.Counted.{named-begun}
use Rattle.link_laws.proofs.Contact.Reflows.{moves-flow}
use Rattle.link_laws.proofs.Contact.Verdicts.{is_awaited, judged}
use Rattle.link_laws.proofs.Contact.TakenAtB.{expecting, front-faulty, front-head}

-- an offer on its own socket
pub offers-here-a : (s : ℕ) (l : LinkId) (o : Offer) (rest : List Post) → AreWired rest → filter_map (offer_in A s) (ClcPost A s (Some l) (ConfirmMessage o) ∷ rest) ≡ record { link = l; offer = o } ∷ []
offers-here-a s l o rest w = ap (λ b. flat (offered_if b l o) (filter_map (offer_in A s) rest)) (eq-eqb s s refl) ∙ ap (λ (os : List Offered). record { link = l; offer = o } ∷ os) (offers-nothing A s rest w)
  where
    flat : Option Offered → List Offered → List Offered
    flat None os = os
    flat (Some o) os = o ∷ os

-- the Accept at the head of a stream is the one that was offered
pub named-head : (named : Option Offered) (ms : List ClcMessage) (o : Offer) → AreNamed named ms → head ms ≡ Some (AcceptMessage o) → (q : Offered) × ((named ≡ Some q) × (q.offer ≡ o))
named-head named [] o a e = absurd (none-is (AcceptMessage o) e)
named-head named (c ∷ ms) o a e = let h : AreNamed named (AcceptMessage o ∷ ms) = subst (λ d. AreNamed named (d ∷ ms)) (some-is c (AcceptMessage o) e) a in h.0

module _ (setup : Setup) (payload : List ℕ) (past : List Entry) (under : Option Under) (actor s : ℕ) (rest : List Post) (data_rest : AreData rest) (offers : AreOffered past) (counted : AreCounted past) (beyond : IsBeyond past) where
  wired : AreWired rest
  wired = data-wired rest data_rest

  abbrev entry : Reply → List Post → Entry
  entry reply posts = record { actor = actor; event = Clc s B; reply = reply; posts = posts }

  abbrev K : Reply → List Post → Type 0
  K reply posts = Kind past under (entry reply (posts ++ rest))

  -- the message is left
  left : (reply : Reply) → takes_message reply ≡ false → ((st : EndState) → after_clc reply st ≡ st) → ((x : Side) (t : ℕ) → up_by x t (Clc s B) reply past ≡ None) → (posts : List Post) → AreWired (posts ++ rest) → Moves past under (entry reply (posts ++ rest)) → K reply posts
  left reply takes stays up posts w moves = Plain (record { moves = moves; count = no-group-begun past (entry reply (posts ++ rest)) w; socket = λ t. inl (held past under actor s B reply (posts ++ rest) takes stays up w t) })

  socket : (reply : Reply) (posts : List Post) → IsMoved s past under (entry reply posts) → ((t : ℕ) → (t == s) ≡ false → IsSame t past under (entry reply posts)) → (t : ℕ) → IsSame t past under (entry reply posts) ⊎ IsMoved t past under (entry reply posts)
  socket reply posts m o t = by (t == s) refl
    where
      by : (b : Bool) → (t == s) ≡ b → IsSame t past under (entry reply posts) ⊎ IsMoved t past under (entry reply posts)
      by true q = inr (subst (λ n. IsMoved n past under (entry reply posts)) (sym (eqb-true t s q)) m)
      by false q = inl (o t q)

  -- taken and nothing said on the sockets
  taken : (reply : Reply) (m : ClcMessage) (state : EndState) → (is_raw s past ≡ false → head (untaken B s past) ≡ Some m) → is_waiting_state state ≡ true → state ≢ NoEnd → end_state A s past ≡ state
      → takes_message reply ≡ true → is_own_state A (after_clc reply state) ≡ true → after_clc reply state ≢ WaitsProposal
      → ((o : Offered) → IsOfferedFirst s o past → ⊥) → ((o p : Offered) → IsJoinedFirst s o p past under → ⊥)
      → fabric (entry reply rest ∷ past) ≡ fabric past → K reply []
  taken reply m state h w some is takes own leaves no_offer no_join same = Plain (record {
    moves = moves-same past under (entry reply rest) same (data-under rest data_rest);
    count = no-group-begun past (entry reply rest) wired;
    socket = socket reply rest (moved past under actor s B reply rest offers m state h w some is takes own leaves [] (says-nothing A s rest wired) tt (says-nothing B s rest wired) (λ o g. inl (sym (offer-by past (entry reply rest) A s wired) ∙ g)) (offers-nothing B s rest wired)
        (λ q r. absurd (b-not-a q)) no_offer no_join)
        (λ t q. beside past under actor s B reply rest t q (λ x. says-nothing x t rest wired) (λ x. offers-nothing x t rest wired));
  })

  fallen : HasFallen ≡ WaitsProposal → ⊥
  fallen e = cc

  reset : (c : ResetCause) → WasReset c ≡ WaitsProposal → ⊥
  reset c e = cc

  answering : WaitsAnswer ≡ WaitsProposal → ⊥
  answering e = cc

  answer-some : WaitsAnswer ≡ NoEnd → ⊥
  answer-some e = cc

  -- A says one thing on the socket, which is not of first contact
  said : (reply : Reply) (link : Option LinkId) (c : ClcMessage) (m : ClcMessage) → (is_raw s past ≡ false → head (untaken B s past) ≡ Some m) → end_state A s past ≡ WaitsAnswer
      → takes_message reply ≡ true → is_own_state A (after_clc reply WaitsAnswer) ≡ true → after_clc reply WaitsAnswer ≢ WaitsProposal
      → AreLaterOnly (c ∷ [])
      → ((o : Offered) → offered A s (entry reply (ClcPost A s link c ∷ rest) ∷ past) ≡ Some o → (offered A s past ≡ Some o) ⊎ IsLaterOffer A o past)
      → is_of_first m ≡ false
      → fabric (entry reply (ClcPost A s link c ∷ rest) ∷ past) ≡ fabric past → under_in rest ≡ None
      → groups_begun (entry reply (ClcPost A s link c ∷ rest) ∷ past) ≡ groups_begun past
      → K reply (ClcPost A s link c ∷ [])
  said reply link c m h is takes own leaves later new not_first same none count = Plain (record {
    moves = moves-same past under (entry reply (ClcPost A s link c ∷ rest)) same none;
    count = count;
    socket = socket reply (ClcPost A s link c ∷ rest) (moved past under actor s B reply (ClcPost A s link c ∷ rest) offers m WaitsAnswer h refl answer-some is takes own leaves (c ∷ []) (says-here A s link c rest wired) later (says-across A s s link c rest wired) new (offers-across A s s link c rest wired)
        (λ q r. absurd (b-not-a q))
        (λ o row. not-offered past s o B m not_first offers h row) (λ o q row. not-joined past under s o q B m not_first offers h row))
        (λ t q. beside past under actor s B reply (ClcPost A s link c ∷ rest) t q (λ x. says-beside x A t s q link c rest wired) (λ x. offers-beside x A t s q link c rest wired));
  })

  abbrev facts : Lacks
  facts = lacks setup payload A past

  -- what is to be shown of a verdict
  abbrev P : Bool → EndState → ClcMessage → ClcStep → Type 0
  P raw state m step = is_raw s past ≡ false → end_state A s past ≡ state → expects state ≡ true → (is_raw s past ≡ false → head (untaken B s past) ≡ Some m)
      → front_posts setup payload A s past (front payload B s past) ≡ clc_posts setup payload A s m past step → Kind past under (record { actor = actor; event = Clc s B; reply = step_told (group_on s past) m step; posts = asked setup payload past (Clc s B) (step_told (group_on s past) m step) ++ rest })

  to : (reply : Reply) (ps qs : List Post) → ps ≡ qs → K reply qs → K reply ps
  to reply ps qs e k = subst (λ ps. K reply ps) (sym e) k

  abbrev named : LinkId
  named = unwrap_or (named_link s past) no_link

  -- A takes an Accept of first contact
  joins : (raw : Bool) (o : Offer) → o.first ≡ true → (facts.group == 0) ≡ true → P raw WaitsAnswer (AcceptMessage o) (SendConfirm true)
  joins raw o first none r is ex h pe = to (Sent ConfirmSent) _ _ pe (Joins s o (record { link = named; offer = offer }) (record {
    kept = record { opened = refl; raw = refl; up = up-same past under actor s B (Sent ConfirmSent) (post ∷ rest) (by-side (λ x. up_by x s (Clc s B) (Sent ConfirmSent) past ≡ None) refl refl); not_raw = r; others = λ t q. beside past under actor s B (Sent ConfirmSent) (post ∷ rest) t q (λ x. says-beside x A t s q (Some named) (ConfirmMessage offer) rest wired) (λ x. offers-beside x A t s q (Some named) (ConfirmMessage offer) rest wired) };
    accept = h r;
    accept_first = first;
    without = eqb-true (group_of A past) 0 none;
    link = refl;
    psn = refl;
    first = refl;
    changed = refl;
    count = ap (λ (ps : List Post). groups_begun past + length ps) (begins-nothing rest wired) ∙ omega arith;
    answered = ap (λ (os : List Offered). option_or (head os) (offered A s past)) (offers-here-a s named offer rest wired);
    offered_b = ap (λ (os : List Offered). option_or (head os) (offered B s past)) (offers-across A s s (Some named) (ConfirmMessage offer) rest wired);
    untaken_a = stream-taker past under actor s B (Sent ConfirmSent) (post ∷ rest) ∙ ap (λ ms. untaken A s past ++ ms) (says-here A s (Some named) (ConfirmMessage offer) rest wired);
    untaken_b = stream-taken past under actor s B (Sent ConfirmSent) (post ∷ rest) refl (says-across A s s (Some named) (ConfirmMessage offer) rest wired);
    own_a = ap (is_own_state A) (early-taker past under actor s B (Sent ConfirmSent) (post ∷ rest)) ∙ loss-own A _ _ WaitsLink refl;
    linked_a = early-taker past under actor s B (Sent ConfirmSent) (post ∷ rest);
    early_b = early-sender past under actor s B (Sent ConfirmSent) (post ∷ rest);
    none = data-under rest data_rest;
  }))
    where
      offer : Offer
      offer = new_offer setup payload A true named past

      post : Post
      post = ClcPost A s (Some named) (ConfirmMessage offer)

  -- A takes a later Accept: its end is up
  follows : (raw : Bool) (o : Offer) → o.first ≡ false → (o.psn == facts.group) ≡ true → P raw WaitsAnswer (AcceptMessage o) (SendConfirm false)
  follows raw o first same r is ex h pe = to Established _ _ pe (said Established (Some named) (ConfirmMessage offer) (AcceptMessage o) h is refl refl answering (refl, tt)
      (λ q e. inr (subst (λ q. IsLaterOffer A q past) (some-is (record { link = named; offer = offer }) q (sym now ∙ e)) new))
      first refl (data-under rest data_rest) (ap (λ (ps : List Post). groups_begun past + length ps) (begins-nothing rest wired) ∙ omega arith))
    where
      offer : Offer
      offer = new_offer setup payload A false named past

      now : offered A s (entry Established (ClcPost A s (Some named) (ConfirmMessage offer) ∷ rest) ∷ past) ≡ Some (record { link = named; offer = offer })
      now = ap (λ (os : List Offered). option_or (head os) (offered A s past)) (offers-here-a s named offer rest wired)

      new : IsLaterOffer A (record { link = named; offer = offer }) past
      new = record { first = refl; begun = named-begun past s offers; psn = refl; group = λ q. absurd (a-is-b q); some = λ q. absurd (a-is-b q); beyond = λ q. absurd (a-is-b q); known = λ q. absurd (a-is-b q); live = λ q. absurd (a-is-b q) }

  asks-a : (raw : Bool) (o : Offer) → o.first ≡ false → (o.psn == facts.group) ≡ true → P raw WaitsAnswer (AcceptMessage o) AskKey
  asks-a raw o first same r is ex h pe = to (Sent KeySent) _ _ pe (left (Sent KeySent) refl (λ st. refl) (by-side (λ x. (t : ℕ) → up_by x t (Clc s B) (Sent KeySent) past ≡ None) (λ t. refl) (λ t. refl)) (rkey_post A (next_free setup payload A past).rmb (peer_of A past) (keys_of A past).keys ∷ []) wired
      (moves-flow past under (entry (Sent KeySent) (rkey_post A (next_free setup payload A past).rmb (peer_of A past) (keys_of A past).keys ∷ rest)) A _ _ refl (λ h. h) (λ c st. absurd (not_starting st)) (λ l n c. data-under rest data_rest)))
    where
      it : (q : Offered) × ((offered B s past ≡ Some q) × (q.offer ≡ o))
      it = named-head (offered B s past) (untaken B s past) o (offers.accepted s r) (h r)

      group : group_of A past ≡ LinkId.group (Offered.link it.0)
      group = sym (eqb-true o.psn (group_of A past) same) ∙ ap (λ (o : Offer). o.psn) (sym it.1.1) ∙ offers.psn B s it.0 it.1.0

      not_starting : IsStarting A past → ⊥
      not_starting st = true≢false (ap (λ (f : Flow). is_first_contact f.link) (sym st.flow) ∙ beyond.first A s it.0 it.1.0 (ap (λ (o : Offer). o.first) it.1.1 ∙ first) group)

  waits-a : (raw : Bool) (o : Offer) (hold : Hold) → P raw WaitsAnswer (AcceptMessage o) (Wait hold)
  waits-a raw o hold r is ex h pe = to (Held hold) _ _ pe (left (Held hold) refl (λ st. refl) (by-side (λ x. (t : ℕ) → up_by x t (Clc s B) (Held hold) past ≡ None) (λ t. refl) (λ t. refl)) [] wired (moves-same past under (entry (Held hold) rest) refl (data-under rest data_rest)))

  declines-a : (raw : Bool) (o : Offer) (lack : Lack) → o.first ≡ false → P raw WaitsAnswer (AcceptMessage o) (Decline lack)
  declines-a raw o lack first r is ex h pe = to (Declined lack) _ _ pe (said (Declined lack) None (DeclineMessage (refusal A lack)) (AcceptMessage o) h is refl refl fallen tt (λ o e. inl (sym same ∙ e))
      first refl (data-under rest data_rest) (ap (λ (ps : List Post). groups_begun past + length ps) (begins-nothing rest wired) ∙ omega arith))
    where
      same : offered A s (entry (Declined lack) (ClcPost A s None (DeclineMessage (refusal A lack)) ∷ rest) ∷ past) ≡ offered A s past
      same = ap (λ (os : List Offered). option_or (head os) (offered A s past)) (offers-nothing A s rest wired)

  falls-a : (raw : Bool) (q : Refusal) → P raw WaitsAnswer (DeclineMessage q) Fell
  falls-a raw q r is ex h pe = to FellBack _ _ pe (taken FellBack (DeclineMessage q) WaitsAnswer h refl answer-some is refl refl fallen
      (λ o row. not-offered past s o B (DeclineMessage q) refl offers h row) (λ o p row. not-joined past under s o p B (DeclineMessage q) refl offers h row) refl)

  wrong : (raw : Bool) (state : EndState) (m : ClcMessage) → is_awaited raw state m ≡ false → P raw state m (Wrong (kind_of m))
  wrong raw state m no_rule r is ex h pe = let w = expecting state ex in to (Reset (BadStep (kind_of m))) _ _ pe (taken (Reset (BadStep (kind_of m))) m state h w.0 w.1 is refl refl (reset (BadStep (kind_of m))) (λ q row. not_offered q row) (λ q p row. not_joined q p row) refl)
    where
      not_joined : (q p : Offered) → IsJoinedFirst s q p past under → ⊥
      not_joined q p row = let it = joined-message past under s q p B m offers row h in b-not-a it.0

      not_offered : (q : Offered) → IsOfferedFirst s q past → ⊥
      not_offered q row =
          let it = offered-message past s q B m offers row h in
          let state_is : state ≡ WaitsAnswer = sym is ∙ row.waits_a in
          true≢false (ap (λ m. is_awaited raw WaitsAnswer m) it.1 ∙ ap (λ st. is_awaited raw st m) (sym state_is) ∙ no_rule)

  -- A waits for an answer and nothing else
  not-proposal : end_state A s past ≡ WaitsProposal → ⊥
  not-proposal is = let st = state-parts A s past WaitsProposal refl is in true≢false (sym (offers.sided A s) ∙ ap (is_own_state A) st.1)

  not-confirm : end_state A s past ≡ WaitsConfirm → ⊥
  not-confirm is = let st = state-parts A s past WaitsConfirm refl is in true≢false (sym (offers.sided A s) ∙ ap (is_own_state A) st.1)

  -- A has no end on a raw socket
  not-raw : expects (end_state A s past) ≡ true → is_raw s past ≡ false
  not-raw ex = by (is_raw s past) refl
    where
      by : (b : Bool) → is_raw s past ≡ b → b ≡ false
      by false q = refl
      by true q = let w = expecting (end_state A s past) ex in let st = state-parts A s past (end_state A s past) w.0 refl in absurd (w.1 (sym st.1 ∙ offers.lone s q))

  -- A is asked to take the next message
  pub taken-at-a : Kind past under (record { actor = actor; event = Clc s B; reply = clc_told setup payload s B past; posts = asked setup payload past (Clc s B) (clc_told setup payload s B past) ++ rest })
  taken-at-a = by (expects (end_state A s past)) refl
    where
      idle : K Idle []
      idle = left Idle refl (λ st. refl) (by-side (λ x. (t : ℕ) → up_by x t (Clc s B) Idle past ≡ None) (λ t. refl) (λ t. refl)) [] wired (moves-same past under (entry Idle rest) refl (data-under rest data_rest))

      at : (fr : Front) → front payload B s past ≡ fr → expects (end_state A s past) ≡ true → Kind past under (record { actor = actor; event = Clc s B; reply = front_told setup payload A s past fr; posts = asked setup payload past (Clc s B) (front_told setup payload A s past fr) ++ rest })
      at NoMessage f ex = idle
      at (Faulty fault) f ex = absurd (true≢false (sym (front-faulty (is_raw s past) (stream payload B s past) (untaken B s past) fault f) ∙ not-raw ex))
      at (Whole m len) f ex = judged facts P
          (λ p g u r is ex h pe. absurd (not-proposal is)) (λ raw p f g r is ex h pe. absurd (not-proposal is)) (λ raw p f g r is ex h pe. absurd (not-proposal is)) (λ raw p hold r is ex h pe. absurd (not-proposal is)) (λ raw p lack r is ex h pe. absurd (not-proposal is))
          joins follows asks-a waits-a declines-a falls-a
          (λ raw q r is ex h pe. absurd (not-confirm is)) (λ o g r is ex h pe. absurd (not-confirm is)) (λ o g r is ex h pe. absurd (not-confirm is))
          wrong (is_raw s past) (end_state A s past) m (not-raw ex) refl ex (λ r. front-head (is_raw s past) (stream payload B s past) (untaken B s past) m len r f) (ap (front_posts setup payload A s past) f)

      by : (b : Bool) → expects (end_state A s past) ≡ b → Kind past under (record { actor = actor; event = Clc s B; reply = if b then front_told setup payload A s past (front payload B s past) else Idle; posts = asked setup payload past (Clc s B) (if b then front_told setup payload A s past (front payload B s past) else Idle) ++ rest })
      by true ex = at (front payload B s past) refl ex
      by false ex = idle
