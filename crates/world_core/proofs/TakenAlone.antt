-- A CLC message upon which the taker falls back, before its side has lent: it is what a manager does with the message.
use Rattle.pipe_model.specs.History.{offered}
use Rattle.pipe_model.specs.Ends.{Half}
use Rattle.std.proofs.Common.{◌≡◌, ◌∙◌, ℕ, ◌<◌, ◌&&◌, Bool, true, false, List, [], ◌∷◌, ◌++◌, refl, ap, sym, true≢false}
use Rattle.std.specs.Prelude.{None, option_map}
use Rattle.smc_num.specs.declared.Side.{Side}
use Rattle.smc_num.specs.declared.Side.TheVariants.{A, B}
use Rattle.smc_num.specs.declared.LinkId.{LinkId}
use Rattle.smc_num.specs.Names.{other}
use Rattle.rmb_region.specs.Regions.{Buffer}
use Rattle.clc_wire.specs.declared.offer.Offer.{Offer}
use Rattle.clc_wire.specs.declared.proposal.Proposal.{Proposal}
use Rattle.clc_wire.specs.declared.refusal.Refusal.{Refusal}
use Rattle.clc_wire.specs.declared.message.ClcMessage.{ClcMessage}
use Rattle.clc_wire.specs.declared.message.ClcMessage.TheVariants.{Proposal as ProposalMessage, Accept as AcceptMessage, Decline as DeclineMessage}
use Rattle.pipe_model.specs.declared.setup.Setup.{Setup}
use Rattle.pipe_model.specs.declared.event.Event.TheVariants.{Clc}
use Rattle.pipe_model.specs.declared.reply.Reply.TheVariants.{Declined, FellBack}
use Rattle.pipe_model.specs.declared.reply.Lack.{Lack}
use Rattle.pipe_model.specs.declared.verdict.ClcStep.{ClcStep}
use Rattle.pipe_model.specs.declared.verdict.ClcStep.TheVariants.{Decline, Fell}
use Rattle.pipe_model.specs.declared.post.Post.{Post}
use Rattle.pipe_model.specs.declared.post.Post.TheVariants.{Clc as ClcPost}
use Rattle.pipe_model.specs.declared.entry.Entry.{Entry}
use Rattle.pipe_model.specs.Fabric.{fabric, after, path_up}
use Rattle.pipe_model.specs.Connections.{EndState, WaitsProposal, WaitsAnswer, HasFallen, end_state, up_by, is_up}
use Rattle.pipe_model.specs.Keys.{book_of, book_clc}
use Rattle.pipe_model.specs.Fallback.{Whole, front}
use Rattle.pipe_model.specs.Messages.{refusal}
use Rattle.pipe_model.specs.Posts.{clc_posts}
use Rattle.pipe_model.specs.Replies.{clc_step, step_told}
use Rattle.pipe_model.specs.Lawful.{front_posts}
use Rattle.clc_handshake.specs.Stages.{named_group, after_step}
use Rattle.side_core.specs.Records.{Connection, conn_at}
use Rattle.side_core.specs.Manager.{Manager, hand_at, state_at, with_hand}
use Rattle.side_core.specs.Taking.{verdict_at, verdict_posts, verdict_risen, by_verdict, takes_message, taking_posts, taking_told, quits_from}
use Rattle.world_core.specs.OneLink.{Stage}
use Rattle.world_core.specs.Sockets.{Socket, Proposed, Refused, FirstAccepted, Accepted, up_at, end_at, offered_at, IsWorld}
use Rattle.world_core.specs.Played.{IsPlayed}
use Rattle.world_core.specs.Agreement.{IsShaken}
use Rattle.world_core.specs.Managers.{manager_of, keeps_element, HasLendings, route_of, end_of}
use Rattle.world_core.proofs.QuietEvents.{by-side, entry-of}
use Rattle.world_core.proofs.TakenMessages.{end-is}
use Rattle.world_core.proofs.KeptManagers.{conn-at}
use Rattle.world_core.proofs.LentRows.{same-verdict}
use Rattle.world_core.proofs.Lendings.{no-lending-due}
use Rattle.world_core.proofs.FallenManagers.{IsFallen, falls}

-- the paths as a manager is told of them
abbrev pub paths_of : List Entry → List Bool
paths_of past = path_up 1 past ∷ []

-- an entry in which a side takes a message about a link, on a socket: its reply, its posts and both managers are what its manager makes of
-- the message, and each socket has its lending
pub record IsTakenBy (setup : Setup) (payload : List ℕ) (regions : List Buffer) (x : Side) (s : ℕ) (m : ClcMessage) (link : LinkId) (e : Entry) (past : List Entry) : Type 0 where
  pub reply : e.reply ≡ taking_told s m (paths_of past) (manager_of setup payload regions x past)
  pub posts : e.posts ≡ taking_posts s m link (paths_of past) (manager_of setup payload regions x past)
  pub own : manager_of setup payload regions x (e ∷ past) ≡ takes_message s m link (paths_of past) (manager_of setup payload regions x past)
  pub theirs : manager_of setup payload regions (other x) (e ∷ past) ≡ manager_of setup payload regions (other x) past
  pub lendings_are : HasLendings setup payload (e ∷ past)

-- what a step of the handshake makes
pub record IsStep (setup : Setup) (payload : List ℕ) (regions : List Buffer) (x : Side) (s : ℕ) (m : ClcMessage) (link : LinkId) (step : ClcStep) (e : Entry) (past : List Entry) : Type 0 where
  pub reply : e.reply ≡ step_told (named_group m) m step
  pub posts : e.posts ≡ verdict_posts s m link (paths_of past) (manager_of setup payload regions x past) step ++ verdict_risen s m link (manager_of setup payload regions x past) step
  pub own : manager_of setup payload regions x (e ∷ past)
      ≡ with_hand s (record (hand_at s (manager_of setup payload regions x past)) { state = after_step step m (state_at s (manager_of setup payload regions x past)) }) (by_verdict s m link (paths_of past) (manager_of setup payload regions x past) step)

module _ (setup : Setup) (payload : List ℕ) (regions : List Buffer) (x : Side) (s : ℕ) (m : ClcMessage) (link : LinkId) (step : ClcStep) (e : Entry) (past : List Entry) (one : setup.links ≡ 1) (known : s < setup.sockets)
    (is : clc_step setup payload x s m past ≡ step) where
  abbrev here : Manager Half
  here = manager_of setup payload regions x past

  verdict-is : step ≡ verdict_at s m (paths_of past) here
  verdict-is = sym (same-verdict setup payload x past regions s m one known ∙ is)

  pub taken-by : IsStep setup payload regions x s m link step e past → manager_of setup payload regions (other x) (e ∷ past) ≡ manager_of setup payload regions (other x) past → HasLendings setup payload (e ∷ past) → IsTakenBy setup payload regions x s m link e past
  taken-by i theirs lendings_are = record {
    reply = i.reply ∙ ap (λ st. step_told (named_group m) m st) verdict-is;
    posts = i.posts ∙ ap (λ st. verdict_posts s m link (paths_of past) here st ++ verdict_risen s m link here st) verdict-is;
    own = i.own ∙ ap (λ st. with_hand s (record (hand_at s here) { state = after_step st m (state_at s here) }) (by_verdict s m link (paths_of past) here st)) verdict-is;
    theirs = theirs;
    lendings_are = lendings_are;
  }

-- an end that waits for the first message of its peer has offered nothing
abbrev pub waits_first : EndState → Bool
waits_first WaitsProposal = true
waits_first WaitsAnswer = true
waits_first _ = false

pub record IsEarly (k : Socket) (x : Side) : Type 0 where
  pub none : offered_at k x ≡ None
  pub down : up_at k x ≡ false
  pub keeps : keeps_element (end_at k x) ≡ false

pub is-early : (k : Socket) (x : Side) → waits_first (end_at k x) ≡ true → IsEarly k x
is-early Proposed A e = record { none = refl; down = refl; keeps = refl }
is-early Proposed B e = record { none = refl; down = refl; keeps = refl }
is-early (Refused r) A e = record { none = refl; down = refl; keeps = refl }
is-early (FirstAccepted o) A e = record { none = refl; down = refl; keeps = refl }
is-early (Accepted o) A e = record { none = refl; down = refl; keeps = refl }
is-early _ A e = absurd (true≢false (sym e))
is-early _ B e = absurd (true≢false (sym e))

module _ (setup : Setup) (payload : List ℕ) (regions : List Buffer) (stage : Stage) (past : List Entry) (one : setup.links ≡ 1) (world : IsWorld setup stage past) (lendings_are : HasLendings setup payload past) (actor n s : ℕ) (posts : List Post) (known : s < setup.sockets) where
  no-conn : (x : Side) → waits_first (end_state x s past) ≡ true → conn_at s (manager_of setup payload regions x past).records ≡ None
  no-conn x e =
      let k = world.sockets s in
      let i = is-early k.at x (ap (λ st. waits_first st) (sym (end-is setup k.at s past k.stands x)) ∙ e) in
      let at = k.stands in
      conn-at setup payload regions x past s known
      ∙ ap (λ o. option_map (λ l. let c : Connection Half = record { route = route_of x s past l; end = end_of setup payload x s past } in c) o) (lendings_are.each x s ∙ no-lending-due x s past (at.offer x ∙ i.none))

  -- what a fall makes of the manager is what its verdict does
  fallen-own : (x : Side) (e : Entry) (front : List Post) → waits_first (end_state x s past) ≡ true → IsFallen setup payload regions x s front e past
      → manager_of setup payload regions x (e ∷ past) ≡ with_hand s (record (hand_at s (manager_of setup payload regions x past)) { state = HasFallen }) (quits_from s (conn_at s (manager_of setup payload regions x past).records) (manager_of setup payload regions x past))
  fallen-own x e front w f =
      f.own ∙ ap (λ c. with_hand s (record (hand_at s (manager_of setup payload regions x past)) { state = HasFallen }) (quits_from s c (manager_of setup payload regions x past))) (sym (no-conn x w))

  facts-of : (x : Side) → waits_first (end_state x s past) ≡ true → (offered x s past ≡ None) × ((is_up x s past ≡ false) × (keeps_element (end_state x s past) ≡ false))
  facts-of x e =
      let k = world.sockets s in
      let at = k.stands in
      let i = is-early k.at x (ap (λ st. waits_first st) (sym (end-is setup k.at s past k.stands x)) ∙ e) in
      (at.offer x ∙ i.none, (at.up x ∙ i.down, ap (λ st. keeps_element st) (end-is setup k.at s past k.stands x) ∙ i.keeps))

  -- B refuses a Proposal
  pub proposal-declined : (p : Proposal) (len : ℕ) (lack : Lack) → end_state B s past ≡ WaitsProposal → front payload A s past ≡ Whole (ProposalMessage p) len → clc_step setup payload B s (ProposalMessage p) past ≡ Decline lack
      → IsPlayed setup payload (entry-of actor (Clc s A) (Declined lack) posts ∷ past) n → IsShaken setup (entry-of actor (Clc s A) (Declined lack) posts ∷ past) → (link : LinkId)
      → IsTakenBy setup payload regions B s (ProposalMessage p) link (entry-of actor (Clc s A) (Declined lack) posts) past
  proposal-declined p len lack state at step played shaken link =
      let w : waits_first (end_state B s past) ≡ true = ap (λ st. waits_first st) state in
      let facts = facts-of B w in
      let more = facts.1 in
      let f = falls setup payload regions stage past world lendings_are actor n s B (Declined lack) posts (ClcPost B s None (DeclineMessage (refusal B lack)) ∷ []) played shaken known facts.0 more.0 more.1
      (λ q v r. ap (λ v. after v q.reply q.posts past (fabric past)) v ∙ ap (λ r. after (Clc s A) r q.posts past (fabric past)) r)
      (by-side (λ y. (t : ℕ) → up_by y t (Clc s A) (Declined lack) past ≡ None) (λ t. refl) (λ t. refl)) (λ t st. refl) (λ t st. refl) (λ t d. ap (λ b. b && true) d) (λ t. refl)
      (by-side (λ y. book_clc y (Clc s A) (Declined lack) past (book_of y past) ≡ book_of y past) refl refl)
      (ap (λ f. front_posts setup payload B s past f) at ∙ ap (λ st. clc_posts setup payload B s (ProposalMessage p) past st) step) (refl, tt) in
      taken-by setup payload regions B s (ProposalMessage p) link (Decline lack) (entry-of actor (Clc s A) (Declined lack) posts) past one known step
      (record { reply = refl; posts = f.posts_are; own = fallen-own B (entry-of actor (Clc s A) (Declined lack) posts) (ClcPost B s None (DeclineMessage (refusal B lack)) ∷ []) w f }) f.theirs f.lendings_are

  -- A refuses an Accept
  pub accept-declined : (o : Offer) (len : ℕ) (lack : Lack) → end_state A s past ≡ WaitsAnswer → front payload B s past ≡ Whole (AcceptMessage o) len → clc_step setup payload A s (AcceptMessage o) past ≡ Decline lack
      → IsPlayed setup payload (entry-of actor (Clc s B) (Declined lack) posts ∷ past) n → IsShaken setup (entry-of actor (Clc s B) (Declined lack) posts ∷ past) → (link : LinkId)
      → IsTakenBy setup payload regions A s (AcceptMessage o) link (entry-of actor (Clc s B) (Declined lack) posts) past
  accept-declined o len lack state at step played shaken link =
      let w : waits_first (end_state A s past) ≡ true = ap (λ st. waits_first st) state in
      let facts = facts-of A w in
      let more = facts.1 in
      let f = falls setup payload regions stage past world lendings_are actor n s A (Declined lack) posts (ClcPost A s None (DeclineMessage (refusal A lack)) ∷ []) played shaken known facts.0 more.0 more.1
      (λ q v r. ap (λ v. after v q.reply q.posts past (fabric past)) v ∙ ap (λ r. after (Clc s B) r q.posts past (fabric past)) r)
      (by-side (λ y. (t : ℕ) → up_by y t (Clc s B) (Declined lack) past ≡ None) (λ t. refl) (λ t. refl)) (λ t st. refl) (λ t st. refl) (λ t d. ap (λ b. b && true) d) (λ t. refl)
      (by-side (λ y. book_clc y (Clc s B) (Declined lack) past (book_of y past) ≡ book_of y past) refl refl)
      (ap (λ f. front_posts setup payload A s past f) at ∙ ap (λ st. clc_posts setup payload A s (AcceptMessage o) past st) step) (refl, tt) in
      taken-by setup payload regions A s (AcceptMessage o) link (Decline lack) (entry-of actor (Clc s B) (Declined lack) posts) past one known step
      (record { reply = refl; posts = f.posts_are; own = fallen-own A (entry-of actor (Clc s B) (Declined lack) posts) (ClcPost A s None (DeclineMessage (refusal A lack)) ∷ []) w f }) f.theirs f.lendings_are

  -- A falls back upon the Decline of B
  pub answer-refused : (r : Refusal) (len : ℕ) → end_state A s past ≡ WaitsAnswer → front payload B s past ≡ Whole (DeclineMessage r) len → clc_step setup payload A s (DeclineMessage r) past ≡ Fell
      → IsPlayed setup payload (entry-of actor (Clc s B) FellBack posts ∷ past) n → IsShaken setup (entry-of actor (Clc s B) FellBack posts ∷ past) → (link : LinkId)
      → IsTakenBy setup payload regions A s (DeclineMessage r) link (entry-of actor (Clc s B) FellBack posts) past
  answer-refused r len state at step played shaken link =
      let w : waits_first (end_state A s past) ≡ true = ap (λ st. waits_first st) state in
      let facts = facts-of A w in
      let more = facts.1 in
      let f = falls setup payload regions stage past world lendings_are actor n s A FellBack posts [] played shaken known facts.0 more.0 more.1
      (λ q v r. ap (λ v. after v q.reply q.posts past (fabric past)) v ∙ ap (λ r. after (Clc s B) r q.posts past (fabric past)) r)
      (by-side (λ y. (t : ℕ) → up_by y t (Clc s B) FellBack past ≡ None) (λ t. refl) (λ t. refl)) (λ t st. refl) (λ t st. refl) (λ t d. ap (λ b. b && true) d) (λ t. refl)
      (by-side (λ y. book_clc y (Clc s B) FellBack past (book_of y past) ≡ book_of y past) refl refl)
      (ap (λ f. front_posts setup payload A s past f) at ∙ ap (λ st. clc_posts setup payload A s (DeclineMessage r) past st) step) tt in
      taken-by setup payload regions A s (DeclineMessage r) link Fell (entry-of actor (Clc s B) FellBack posts) past one known step
      (record { reply = refl; posts = f.posts_are; own = fallen-own A (entry-of actor (Clc s B) FellBack posts) [] w f }) f.theirs f.lendings_are
