-- After every played history each socket has just the lending that its state and its side's offer say.
use Rattle.pipe_model.specs.Fabric.{after}
use Rattle.pipe_model.specs.History.{offered}
use Rattle.pipe_model.specs.Plain.{begun}
use Rattle.pipe_model.specs.declared.entry.Entry.{Entry}
use Rattle.pipe_model.specs.declared.post.Post.{Post}
use Rattle.pipe_model.specs.declared.setup.Setup.{Setup}
use Rattle.smc_num.specs.Names.{head, other}
use Rattle.smc_num.specs.declared.Side.{Side}
use Rattle.smc_num.specs.declared.Side.TheVariants.{A, B}
use Rattle.std.proofs.Common.{Bool, List, [], ap, eqb-true, false, filter_map, if◌then◌else◌, inl, inr, length, not, refl, subst, sym, true, true≢false, ℕ, ◌&&◌, ◌==◌, ◌||◌, ◌∙◌, ◌∷◌, ◌≡◌}
use Rattle.std.specs.Prelude.{None, Option, Some, is_some, slice_index_or}
use Rattle.tcp_pipe.specs.Streams.{free}
use Rattle.world_core.proofs.ClcTaken.{clc-idles, clc-taken}
use Rattle.world_core.proofs.LastingLendings.{has_fallen, lendings-last}
use Rattle.world_core.proofs.QuietEvents.{by-side, entry-of}
use Rattle.world_core.specs.Managers.{HasLendings}
use Rattle.world_core.specs.OneLink.{Stage}
use Rattle.pipe_model.specs.Fits.{Fits}
use Rattle.world_core.specs.Played.{IsOneLink, IsPlayed}
use Rattle.pipe_model.specs.declared.reply.Lack.TheVariants.{NotCapable}
use Rattle.world_core.specs.Sockets.{Socket, Unopened, StandsAt, IsWorld, suits, offered_at, opened_at, end_at, untaken_at}
use Rattle.pipe_model.specs.declared.event.Event.{Event}
use Rattle.pipe_model.specs.declared.event.Event.TheVariants.{Open, Write, Read, Clc, Deliver, Complete}
use Rattle.pipe_model.specs.declared.reply.Reply.{Reply}
use Rattle.pipe_model.specs.declared.reply.Reply.TheVariants.{NameUsed, Declined, Opened}
use Rattle.pipe_model.specs.Connections.{EndState, WaitsAnswer, WaitsProposal, HasFallen, early_state, after_event, after_loss, group_on}
use Rattle.world_core.proofs.PlayedWorlds.{played as has-world, goes}
use Rattle.world_core.proofs.LinkFacts.{no-group-ends-with}
use Rattle.pipe_model.specs.Lending.{lends, leaves_handshake}
use Rattle.world_core.proofs.Lendings.{none-lent}
use Rattle.clc_wire.specs.declared.message.ClcMessage.{ClcMessage}
use Rattle.pipe_model.specs.Replies.{expects, open_told}
use Rattle.pipe_model.specs.Fallback.{is_raw, is_opened}
use Rattle.world_core.specs.Lent.{Begins, BeginsNone, BeginsOne}

offered-opened : (k : Socket) (x : Side) → is_some (offered_at k x) ≡ true → opened_at k ≡ true
offered-opened Unopened x e = absurd (true≢false (sym e))
offered-opened _ x e = refl

-- which events are of a CLC message
abbrev takes_clc : Event → Bool
takes_clc (Clc s dir) = true
takes_clc _ = false

no-begin : (setup : Setup) (payload : List ℕ) (x : Side) (e : Entry) (past : List Entry) → takes_clc e.event ≡ false → Begins setup payload x e past → filter_map (lends x) e.posts ≡ []
no-begin setup payload x e past f (BeginsNone none) = none
no-begin setup payload x e past f (BeginsOne s dir o event begun new free token) = absurd (true≢false (sym (ap (λ v. takes_clc v) event) ∙ f))

module _ (setup : Setup) (one : IsOneLink setup) (payload : List ℕ) (past : List Entry) (actor n : ℕ) (posts : List Post) (was : HasLendings setup payload past) where
  abbrev Plays : Event → Reply → Type 0
  Plays event reply = IsPlayed setup payload (entry-of actor event reply posts ∷ past) n

  abbrev Goal : Event → Reply → Type 0
  Goal event reply = HasLendings setup payload (entry-of actor event reply posts ∷ past)

  -- an event without a CLC message
  lasts : (event : Event) (reply : Reply) → takes_clc event ≡ false → Plays event reply → ((x : Side) (t : ℕ) → leaves_handshake x t event reply ≡ false)
      → ((x : Side) (t : ℕ) → is_some (offered x t past) ≡ true → (st : EndState) → has_fallen (after_event x t event reply st) ≡ has_fallen st) → Goal event reply
  lasts event reply f p stays after =
      let v = has-world setup one payload past p.0 p.3 in
      let w = has-world setup one payload (entry-of actor event reply posts ∷ past) n p in
      let l = goes setup one payload v.stage p.0 (entry-of actor event reply posts) past p.1 v.world in
      lendings-last setup one payload (entry-of actor event reply posts) past n p was stays
      (λ x. no-begin setup payload x (entry-of actor event reply posts) past f (l.begins x))
      (λ x t some. ap (λ st. has_fallen st)
      (ap (λ b. after_loss b (group_on t past) (after_event x t event reply (early_state x t past))) (no-group-ends-with setup v.stage w.stage (entry-of actor event reply posts) past v.world w.world x (group_on t past)))
      ∙ after x t some (early_state x t past))

  -- a socket with an offer was opened before
  is-used : (s : ℕ) (reply : Reply) → Plays (Open s) reply → (x : Side) (t : ℕ) → is_some (offered x t past) ≡ true → (t == s) ≡ true → reply ≡ NameUsed
  is-used s reply p x t some same =
      let v = has-world setup one payload past p.0 p.3 in
      let w = v.world in
      let h = w.sockets s in
      let at = h.stands in
      let here : is_some (offered x s past) ≡ true = subst (λ k. is_some (offered x k past) ≡ true) (eqb-true t s same) some in
      let opened : is_opened s past ≡ true = at.opened ∙ offered-opened h.at x (sym (ap (λ q. is_some q) (at.offer x)) ∙ here) in
      let made = p.1 in
      made.reply ∙ told opened
    where
      told : is_opened s past ≡ true → open_told setup s past ≡ NameUsed
      told e = ap (λ b. if b || is_raw s past then NameUsed else if not (slice_index_or setup.capable 0 false && slice_index_or setup.capable 1 false) then Declined (NotCapable (slice_index_or setup.capable 0 false) (slice_index_or setup.capable 1 false)) else Opened) e

  opened-else : (x : Side) (t s : ℕ) (b : Bool) → (t == s) ≡ b → (new st : EndState) → (b ≡ true → ⊥) → has_fallen (if t == s then new else st) ≡ has_fallen st
  opened-else x t s true e new st f = absurd (f refl)
  opened-else x t s false e new st f = ap (λ b. has_fallen (if b then new else st)) e

  on-open : (s : ℕ) (reply : Reply) → Plays (Open s) reply → (x : Side) (t : ℕ) → is_some (offered x t past) ≡ true → (st : EndState) → has_fallen (after_event x t (Open s) reply st) ≡ has_fallen st
  on-open s Opened p A t some st = opened-else A t s (t == s) refl WaitsAnswer st (λ same. let e : Opened ≡ NameUsed = is-used s Opened p A t some same in cc)
  on-open s Opened p B t some st = opened-else B t s (t == s) refl WaitsProposal st (λ same. let e : Opened ≡ NameUsed = is-used s Opened p B t some same in cc)
  on-open s (Declined lack) p A t some st = opened-else A t s (t == s) refl HasFallen st (λ same. let e : Declined lack ≡ NameUsed = is-used s (Declined lack) p A t some same in cc)
  on-open s (Declined lack) p B t some st = opened-else B t s (t == s) refl HasFallen st (λ same. let e : Declined lack ≡ NameUsed = is-used s (Declined lack) p B t some same in cc)
  on-open s _ p A t some st = refl
  on-open s _ p B t some st = refl

  -- a CLC message, or none
  clc-by : (stage : Stage) (world : IsWorld setup stage past) (s : ℕ) (dir : Side) (reply : Reply) → Plays (Clc s dir) reply → (k : Socket) → StandsAt setup k s past → suits stage s k ≡ true
      → (b : Bool) → expects (end_at k (other dir)) ≡ b → (q : Option ClcMessage) → head (untaken_at setup k dir) ≡ q → Goal (Clc s dir) reply
  clc-by stage world s dir reply p k at suit false e q f =
      let made = p.1 in
      let r = clc-idles setup one payload [] past stage world was actor n s posts made.built dir reply k at p (inl e) in
      r.lendings_are
  clc-by stage world s dir reply p k at suit true e None f =
      let made = p.1 in
      let r = clc-idles setup one payload [] past stage world was actor n s posts made.built dir reply k at p (inr f) in
      r.lendings_are
  clc-by stage world s dir reply p k at suit true e (Some m) f =
      let made = p.1 in
      let r = clc-taken setup one payload [] past stage world was actor n s posts made.built k dir reply m at suit p e f in
      r.lendings_are

  on-clc : (s : ℕ) (dir : Side) (reply : Reply) → Plays (Clc s dir) reply → Goal (Clc s dir) reply
  on-clc s dir reply p =
      let v = has-world setup one payload past p.0 p.3 in
      let w = v.world in
      let h = w.sockets s in
      clc-by v.stage v.world s dir reply p h.at h.stands h.suits_is (expects (end_at h.at (other dir))) refl (head (untaken_at setup h.at dir)) refl

  by-event : (event : Event) (reply : Reply) → Fits setup (length payload) event → Plays event reply → Goal event reply
  by-event (Clc s dir) reply b p = on-clc s dir reply p
  by-event (Open s) reply b p = lasts (Open s) reply refl p (by-side (λ x. (t : ℕ) → leaves_handshake x t (Open s) reply ≡ false) (λ t. refl) (λ t. refl)) (on-open s reply p)
  by-event (Write end at len) reply b p = lasts (Write end at len) reply refl p (by-side (λ x. (t : ℕ) → leaves_handshake x t (Write end at len) reply ≡ false) (λ t. refl) (λ t. refl))
      (by-side (λ x. (t : ℕ) → is_some (offered x t past) ≡ true → (st : EndState) → has_fallen (after_event x t (Write end at len) reply st) ≡ has_fallen st) (λ t some st. refl) (λ t some st. refl))
  by-event (Read end len) reply b p = lasts (Read end len) reply refl p (by-side (λ x. (t : ℕ) → leaves_handshake x t (Read end len) reply ≡ false) (λ t. refl) (λ t. refl))
      (by-side (λ x. (t : ℕ) → is_some (offered x t past) ≡ true → (st : EndState) → has_fallen (after_event x t (Read end len) reply st) ≡ has_fallen st) (λ t some st. refl) (λ t some st. refl))
  by-event (Deliver slot dir) reply b p = lasts (Deliver slot dir) reply refl p (by-side (λ x. (t : ℕ) → leaves_handshake x t (Deliver slot dir) reply ≡ false) (λ t. refl) (λ t. refl))
      (by-side (λ x. (t : ℕ) → is_some (offered x t past) ≡ true → (st : EndState) → has_fallen (after_event x t (Deliver slot dir) reply st) ≡ has_fallen st) (λ t some st. refl) (λ t some st. refl))
  by-event (Complete slot dir) reply b p = lasts (Complete slot dir) reply refl p (by-side (λ x. (t : ℕ) → leaves_handshake x t (Complete slot dir) reply ≡ false) (λ t. refl) (λ t. refl))
      (by-side (λ x. (t : ℕ) → is_some (offered x t past) ≡ true → (st : EndState) → has_fallen (after_event x t (Complete slot dir) reply st) ≡ has_fallen st) (λ t some st. refl) (λ t some st. refl))
  by-event _ reply b p = absurd b

pub has-lendings : (setup : Setup) → IsOneLink setup → (payload : List ℕ) (past : List Entry) (n : ℕ) → IsPlayed setup payload past n → HasLendings setup payload past
has-lendings setup one payload [] n p = none-lent setup payload
has-lendings setup one payload (e ∷ past) n p =
    let made = p.1 in
    by-event setup one payload past e.actor n e.posts (has-lendings setup one payload past p.0 p.3) e.event e.reply made.built p
