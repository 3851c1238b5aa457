-- A socket is opened, or gets a raw client's bytes: which kind of entry it is.
use Rattle.std.proofs.Common.{Bool, List, None, [], ap, arith, eq-eqb, eqb-true, false, if◌then◌else◌, inl, inr, length, not, refl, subst, sym, true, true≢false, ℕ, ◌&&◌, ◌++◌, ◌+◌, ◌-◌, ◌==◌, ◌||◌, ◌∙◌, ◌∷◌, ◌≡◌, ◌⊎◌}
use Rattle.std.specs.Prelude.{Option, min, slice_index_or}
use Rattle.pipe_model.specs.Connections.{comes_up}
use Rattle.std.specs.Option.{option_or}
use Rattle.clc_wire.specs.declared.message.ClcMessage.TheVariants.{Proposal as ProposalMessage}
use Rattle.pipe_model.specs.Lawful.{asked}
use Rattle.pipe_model.specs.declared.event.Event.TheVariants.{Raw}
use Rattle.pipe_model.specs.Replies.{raw_told}
use Rattle.pipe_model.specs.Fallback.{stream_room}
use Rattle.history_laws.specs.Words.{A, B, ClcMessage, Declined, EndState, Entry, Full, HasFallen, IsUp, Lack, NameUsed, NoEnd, NotCapable, Offered, Open, Opened, Post, Reply, Setup, Side, WaitsAnswer, WaitsConfirm, WaitsLink, WaitsProposal, WasReset, Wrote, after_event, after_loss, after_raw, early_state, fabric, group_on, groups_begun, head, is_name_used, is_opened, is_raw, is_up, loses_group_with, offered, open_told, proposal, proposal_post, stream, untaken}
use Rattle.history_laws.specs.Posts.{AreData}
use Rattle.history_laws.proofs.Posts.{AreWired, begins-nothing, data-wired, offers-nothing, says-nothing}
use Rattle.history_laws.proofs.Basics.{and-false, by-side, if-same}
use Rattle.history_laws.specs.Offers.{is_own_state}
use Rattle.history_laws.proofs.Offers.{loss-own}
use Rattle.link_laws.specs.Linked.{Under, under_in}
use Rattle.link_laws.specs.Offered.{AreNamed, AreOffered, IsFresh}
use Rattle.link_laws.proofs.Contact.Elsewhere.{append-none, data-under, moves-same, no-group-begun, offer-by, same-by, stream-by}
use Rattle.link_laws.proofs.Contact.Changes.{IsMoved, IsSame, IsStreamed, Kind, Plain}
use Rattle.link_laws.specs.Contact.{IsJoinedFirst, IsOfferedFirst}
use Rattle.link_laws.proofs.Contact.Same.{loss-keeps, state-from, state-parts}
use Rattle.link_laws.proofs.Contact.Messages.{offers-beside, says-beside, says-here}

module _ (setup : Setup) (payload : List ℕ) (past : List Entry) (under : Option Under) (actor s : ℕ) (rest : List Post) (data_rest : AreData rest) (offers : AreOffered past) where
  wired : AreWired rest
  wired = data-wired rest data_rest

  nothing-under : under_in rest ≡ None
  nothing-under = data-under rest data_rest

  here : (s == s) ≡ true
  here = eq-eqb s s refl

  -- of the socket and of others
  split : (e : Entry) → IsMoved s past under e → ((t : ℕ) → (t == s) ≡ false → IsSame t past under e) → (t : ℕ) → IsSame t past under e ⊎ IsMoved t past under e
  split e m o t = by (t == s) refl
    where
      by : (b : Bool) → (t == s) ≡ b → IsSame t past under e ⊎ IsMoved t past under e
      by true q = inr (subst (λ n. IsMoved n past under e) (sym (eqb-true t s q)) m)
      by false q = inl (o t q)

  abbrev opening : Reply → List Post → Entry
  opening reply posts = record { actor = actor; event = Open s; reply = reply; posts = posts }

  -- a socket that was neither opened nor raw
  module _ (new : is_opened s past ≡ false) (plain : is_raw s past ≡ false) where
    fresh : IsFresh s past
    fresh = offers.fresh s new plain

    now-open : (reply : Reply) (posts : List Post) → is_name_used reply ≡ false → is_opened s (opening reply posts ∷ past) ≡ true
    now-open reply posts u = ap (λ b. (b && not (is_name_used reply)) || is_opened s past) here ∙ ap (λ b. not b || is_opened s past) u

    not-row : (o : Offered) → IsOfferedFirst s o past → ⊥
    not-row o row = true≢false (sym row.opened ∙ new)

    not-joined-row : (o p : Offered) → IsJoinedFirst s o p past under → ⊥
    not-joined-row o p row = true≢false (sym row.opened ∙ new)

    -- the sides cannot do SMC-R
    refused : (lack : Lack) → Kind past under (opening (Declined lack) rest)
    refused lack = Plain (record { moves = moves-same past under (opening (Declined lack) rest) refl nothing-under; count = no-group-begun past (opening (Declined lack) rest) wired; socket = split (opening (Declined lack) rest) moved others })
      where
        early : (x : Side) → early_state x s (opening (Declined lack) rest ∷ past) ≡ HasFallen
        early x = ap (λ st. after_loss (loses_group_with x (group_on s past) (opening (Declined lack) rest) past) (group_on s past) st) (by-side (λ x. after_event x s (Open s) (Declined lack) (early_state x s past) ≡ HasFallen) (ap (λ b. if b then HasFallen else early_state A s past) here) (ap (λ b. if b then HasFallen else early_state B s past) here) x) ∙ loss-back-fallen (loses_group_with x (group_on s past) (opening (Declined lack) rest) past) (group_on s past)
          where
            loss-back-fallen : (b : Bool) (g : ℕ) → after_loss b g HasFallen ≡ HasFallen
            loss-back-fallen true g = refl
            loss-back-fallen false g = refl

        fallen : HasFallen ≡ WaitsProposal → ⊥
        fallen e = cc

        own : (x : Side) → is_own_state x HasFallen ≡ true
        own A = refl
        own B = refl

        moved : IsMoved s past under (opening (Declined lack) rest)
        moved = record {
          stream = λ x. record { count = 0; news = []; is = stream-by past (opening (Declined lack) rest) x s false refl wired ∙ sym (append-none (untaken x s past)); later = tt };
          offers = λ x o h. inl (sym (offer-by past (opening (Declined lack) rest) x s wired) ∙ h);
          proposed = λ r v. absurd (let st = state-parts B s (opening (Declined lack) rest ∷ past) WaitsProposal refl v in fallen (sym (early B) ∙ st.1));
          plain = λ o. plain;
          known = λ o r. true≢false (sym (now-open (Declined lack) rest refl) ∙ o);
          sided = λ x. ap (is_own_state x) (early x) ∙ own x;
          accepted = λ r. subst (λ o. AreNamed o (untaken B s (opening (Declined lack) rest ∷ past))) (sym (offer-by past (opening (Declined lack) rest) B s wired)) (subst (λ ms. AreNamed (offered B s past) ms) (sym (stream-by past (opening (Declined lack) rest) B s false refl wired)) (offers.accepted s plain));
          lone = λ r. absurd (true≢false (sym r ∙ plain));
          not_offered = not-row;
          not_joined = not-joined-row;
        }

        others : (t : ℕ) → (t == s) ≡ false → IsSame t past under (opening (Declined lack) rest)
        others t ne = same-by past under (opening (Declined lack) rest) t (λ x. refl) (ap (λ b. b && true) ne) refl
            (by-side (λ x. after_event x t (Open s) (Declined lack) (early_state x t past) ≡ early_state x t past) (ap (λ b. if b then HasFallen else early_state A t past) ne) (ap (λ b. if b then HasFallen else early_state B t past) ne))
            (λ x. says-nothing x t rest wired) (λ x. offers-nothing x t rest wired) (λ x h. by-side (λ x. comes_up x t (opening (Declined lack) rest) past ≡ None) refl refl x)

    -- A sends its Proposal
    begun : Kind past under (opening Opened (proposal_post setup s ∷ rest))
    begun = Plain (record { moves = moves-same past under (opening Opened (proposal_post setup s ∷ rest)) refl nothing-under; count = ap (λ (ps : List Post). groups_begun past + length ps) (begins-nothing rest wired) ∙ omega arith; socket = split (opening Opened (proposal_post setup s ∷ rest)) moved others })
      where
        early-a : early_state A s (opening Opened (proposal_post setup s ∷ rest) ∷ past) ≡ WaitsAnswer
        early-a = ap (λ b. after_loss (loses_group_with A (group_on s past) (opening Opened (proposal_post setup s ∷ rest)) past) (group_on s past) (if b then WaitsAnswer else early_state A s past)) here ∙ loss-keeps _ _ WaitsAnswer refl

        early-b : early_state B s (opening Opened (proposal_post setup s ∷ rest) ∷ past) ≡ WaitsProposal
        early-b = ap (λ b. after_loss (loses_group_with B (group_on s past) (opening Opened (proposal_post setup s ∷ rest)) past) (group_on s past) (if b then WaitsProposal else early_state B s past)) here ∙ loss-keeps _ _ WaitsProposal refl

        offers-none : (x : Side) → offered x s (opening Opened (proposal_post setup s ∷ rest) ∷ past) ≡ offered x s past
        offers-none = by-side (λ x. offered x s (opening Opened (proposal_post setup s ∷ rest) ∷ past) ≡ offered x s past) (ap (λ (os : List Offered). option_or (head os) (offered A s past)) (offers-nothing A s rest wired)) (ap (λ (os : List Offered). option_or (head os) (offered B s past)) (offers-nothing B s rest wired))

        stream-a : untaken A s (opening Opened (proposal_post setup s ∷ rest) ∷ past) ≡ untaken A s past ++ ProposalMessage (proposal setup) ∷ []
        stream-a = ap (λ (ms : List ClcMessage). untaken A s past ++ ms) (says-here A s None (ProposalMessage (proposal setup)) rest wired)

        stream-b : untaken B s (opening Opened (proposal_post setup s ∷ rest) ∷ past) ≡ untaken B s past
        stream-b = ap (λ (ms : List ClcMessage). untaken B s past ++ ms) (says-nothing B s rest wired) ∙ append-none (untaken B s past)

        up-a : is_up A s (opening Opened (proposal_post setup s ∷ rest) ∷ past) ≡ is_up A s past
        up-a = refl

        moved : IsMoved s past under (opening Opened (proposal_post setup s ∷ rest))
        moved = record {
          stream = by-side (λ x. IsStreamed x s past (opening Opened (proposal_post setup s ∷ rest))) (record { count = 0; news = ProposalMessage (proposal setup) ∷ []; is = stream-a; later = tt }) (record { count = 0; news = []; is = stream-b ∙ sym (append-none (untaken B s past)); later = tt });
          offers = λ x o h. inl (sym (offers-none x) ∙ h);
          proposed = λ r v. record {
            proposal = proposal setup;
            untaken_a = stream-a ∙ ap (λ ms. ms ++ ProposalMessage (proposal setup) ∷ []) (fresh.untaken A);
            untaken_b = stream-b ∙ fresh.untaken B;
            waits_a = state-from A s (opening Opened (proposal_post setup s ∷ rest) ∷ past) WaitsAnswer (up-a ∙ fresh.up A) early-a;
            none = λ x. offers-none x ∙ fresh.none x;
          };
          plain = λ o. plain;
          known = λ o r. true≢false (sym (now-open Opened (proposal_post setup s ∷ rest) refl) ∙ o);
          sided = by-side (λ x. is_own_state x (early_state x s (opening Opened (proposal_post setup s ∷ rest) ∷ past)) ≡ true) (ap (is_own_state A) early-a) (ap (is_own_state B) early-b);
          accepted = λ r. subst (λ o. AreNamed o (untaken B s (opening Opened (proposal_post setup s ∷ rest) ∷ past))) (sym (offers-none B)) (subst (λ ms. AreNamed (offered B s past) ms) (sym stream-b) (offers.accepted s plain));
          lone = λ r. absurd (true≢false (sym r ∙ plain));
          not_offered = not-row;
          not_joined = not-joined-row;
        }

        others : (t : ℕ) → (t == s) ≡ false → IsSame t past under (opening Opened (proposal_post setup s ∷ rest))
        others t ne = same-by past under (opening Opened (proposal_post setup s ∷ rest)) t (λ x. refl) (ap (λ b. b && true) ne) refl
            (by-side (λ x. after_event x t (Open s) Opened (early_state x t past) ≡ early_state x t past) (ap (λ b. if b then WaitsAnswer else early_state A t past) ne) (ap (λ b. if b then WaitsProposal else early_state B t past) ne))
            (λ x. says-beside x A t s ne None (ProposalMessage (proposal setup)) rest wired) (λ x. offers-beside x A t s ne None (ProposalMessage (proposal setup)) rest wired) (λ x h. by-side (λ x. comes_up x t (opening Opened (proposal_post setup s ∷ rest)) past ≡ None) refl refl x)

  -- the name was used
  used : Kind past under (opening NameUsed rest)
  used = Plain (record {
    moves = moves-same past under (opening NameUsed rest) refl nothing-under;
    count = no-group-begun past (opening NameUsed rest) wired;
    socket = λ t. inl (same-by past under (opening NameUsed rest) t (λ x. refl) (and-false (t == s)) refl
        (by-side (λ x. after_event x t (Open s) NameUsed (early_state x t past) ≡ early_state x t past) refl refl) (λ x. says-nothing x t rest wired) (λ x. offers-nothing x t rest wired) (λ x h. by-side (λ x. comes_up x t (opening NameUsed rest) past ≡ None) refl refl x));
  })

  or-false : (a b : Bool) → (a || b) ≡ false → (a ≡ false) × (b ≡ false)
  or-false true b e = absurd (true≢false e)
  or-false false b e = (refl, e)

  -- an application opens a socket
  pub opens-kind : Kind past under (opening (open_told setup s past) (asked setup payload past (Open s) (open_told setup s past) ++ rest))
  opens-kind = by (is_opened s past || is_raw s past) (not (slice_index_or setup.capable 0 false && slice_index_or setup.capable 1 false)) refl
    where
      by : (a b : Bool) → (is_opened s past || is_raw s past) ≡ a → Kind past under (opening (if a then NameUsed else if b then Declined (NotCapable (slice_index_or setup.capable 0 false) (slice_index_or setup.capable 1 false)) else Opened) (asked setup payload past (Open s) (if a then NameUsed else if b then Declined (NotCapable (slice_index_or setup.capable 0 false) (slice_index_or setup.capable 1 false)) else Opened) ++ rest))
      by true b e = used
      by false true e = let h = or-false (is_opened s past) (is_raw s past) e in refused h.0 h.1 (NotCapable (slice_index_or setup.capable 0 false) (slice_index_or setup.capable 1 false))
      by false false e = let h = or-false (is_opened s past) (is_raw s past) e in begun h.0 h.1

  module _ (at len : ℕ) where
    abbrev raw_entry : Reply → Entry
    raw_entry reply = record { actor = actor; event = Raw s at len; reply = reply; posts = rest }

    raw-used : Kind past under (raw_entry NameUsed)
    raw-used = Plain (record {
      moves = moves-same past under (raw_entry NameUsed) refl nothing-under;
      count = no-group-begun past (raw_entry NameUsed) wired;
      socket = λ t. inl (same-by past under (raw_entry NameUsed) t (λ x. refl) refl (and-false (t == s))
          (by-side (λ x. after_event x t (Raw s at len) NameUsed (early_state x t past) ≡ early_state x t past) refl refl) (λ x. says-nothing x t rest wired) (λ x. offers-nothing x t rest wired) (λ x h. by-side (λ x. comes_up x t (raw_entry NameUsed) past ≡ None) refl refl x));
    })

    -- a raw client's bytes
    raw-comes : (reply : Reply) → is_opened s past ≡ false → is_name_used reply ≡ false → fabric (raw_entry reply ∷ past) ≡ fabric past → under_in rest ≡ None → asked setup payload past (Raw s at len) reply ≡ []
        → after_event A s (Raw s at len) reply (early_state A s past) ≡ early_state A s past
        → is_own_state B (after_event B s (Raw s at len) reply (early_state B s past)) ≡ true
        → ((x : Side) (t : ℕ) → (t == s) ≡ false → after_event x t (Raw s at len) reply (early_state x t past) ≡ early_state x t past)
        → Kind past under (raw_entry reply)
    raw-comes reply closed u same no_under none early_a own_b beside = Plain (record { moves = moves-same past under (raw_entry reply) same no_under; count = no-group-begun past (raw_entry reply) wired; socket = split (raw_entry reply) moved others })
      where
        now-raw : is_raw s (raw_entry reply ∷ past) ≡ true
        now-raw = ap (λ b. (b && not (is_name_used reply)) || is_raw s past) here ∙ ap (λ b. not b || is_raw s past) u

        early-lone : (b : Bool) → is_raw s past ≡ b → early_state A s past ≡ NoEnd
        early-lone true r = offers.lone s r
        early-lone false r = let f : IsFresh s past = offers.fresh s closed r in f.early A

        moved : IsMoved s past under (raw_entry reply)
        moved = record {
          stream = λ x. record { count = 0; news = []; is = stream-by past (raw_entry reply) x s false refl wired ∙ sym (append-none (untaken x s past)); later = tt };
          offers = λ x o h. inl (sym (offer-by past (raw_entry reply) x s wired) ∙ h);
          proposed = λ r v. absurd (true≢false (sym now-raw ∙ r));
          plain = λ o. absurd (true≢false (sym o ∙ closed));
          known = λ o r. true≢false (sym now-raw ∙ r);
          sided = by-side (λ x. is_own_state x (early_state x s (raw_entry reply ∷ past)) ≡ true) (loss-own A _ _ (after_event A s (Raw s at len) reply (early_state A s past)) (ap (is_own_state A) early_a ∙ offers.sided A s)) (loss-own B _ _ (after_event B s (Raw s at len) reply (early_state B s past)) own_b);
          accepted = λ r. absurd (true≢false (sym now-raw ∙ r));
          lone = λ r. ap (λ st. after_loss (loses_group_with A (group_on s past) (raw_entry reply) past) (group_on s past) st) (early_a ∙ early-lone (is_raw s past) refl) ∙ loss-keeps _ _ NoEnd refl;
          not_offered = λ o row. true≢false (sym row.opened ∙ closed);
          not_joined = λ o p row. true≢false (sym row.opened ∙ closed);
        }

        others : (t : ℕ) → (t == s) ≡ false → IsSame t past under (raw_entry reply)
        others t ne = same-by past under (raw_entry reply) t (λ x. refl) refl (ap (λ b. b && not (is_name_used reply)) ne) (λ x. beside x t ne) (λ x. says-nothing x t rest wired) (λ x. offers-nothing x t rest wired) (λ x h. by-side (λ x. comes_up x t (raw_entry reply) past ≡ None) refl refl x)

    own-raw : (st : EndState) → is_own_state B st ≡ true → (b : Bool) → is_own_state B (if b then after_raw B st else st) ≡ true
    own-raw st o false = o
    own-raw NoEnd o true = refl
    own-raw WaitsProposal o true = o
    own-raw WaitsAnswer o true = o
    own-raw WaitsConfirm o true = o
    own-raw WaitsLink o true = o
    own-raw IsUp o true = o
    own-raw HasFallen o true = o
    own-raw (WasReset c) o true = o

    -- a raw client puts bytes into the stream
    pub raw-kind : Kind past under (record { actor = actor; event = Raw s at len; reply = raw_told payload s len past; posts = asked setup payload past (Raw s at len) (raw_told payload s len past) ++ rest })
    raw-kind = by (is_opened s past) (not (len == 0) && (stream_room - length (stream payload A s past) == 0)) refl
      where
        by : (a b : Bool) → is_opened s past ≡ a → Kind past under (record { actor = actor; event = Raw s at len; reply = if a then NameUsed else if b then Full else Wrote (min len (stream_room - length (stream payload A s past))); posts = asked setup payload past (Raw s at len) (if a then NameUsed else if b then Full else Wrote (min len (stream_room - length (stream payload A s past)))) ++ rest })
        by true b e = raw-used
        by false true e = raw-comes Full e refl refl nothing-under refl refl (offers.sided B s) (λ x t ne. by-side (λ x. after_event x t (Raw s at len) Full (early_state x t past) ≡ early_state x t past) refl refl x)
        by false false e = raw-comes (Wrote (min len (stream_room - length (stream payload A s past)))) e refl refl nothing-under refl (if-same (s == s) (early_state A s past)) (own-raw (early_state B s past) (offers.sided B s) (s == s))
            (λ x t ne. by-side (λ x. after_event x t (Raw s at len) (Wrote (min len (stream_room - length (stream payload A s past)))) (early_state x t past) ≡ early_state x t past) (if-same (t == s) (early_state A t past)) (ap (λ b. if b then after_raw B (early_state B t past) else early_state B t past) ne) x)
