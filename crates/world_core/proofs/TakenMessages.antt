-- A side that takes a CLC message in a world of one link leads it to the next world.
use Rattle.world_core.specs.Sockets.{suits}
use Rattle.world_core.proofs.QuietEvents.{quiet-idle-clc, quiet-held-clc}
use Rattle.pipe_model.specs.Messages.{refusal}
use Rattle.std.proofs.Common.{◌≡◌, ap, inl, refl, subst, sym, ◌∙◌}
use Rattle.std.proofs.lemmas.Bool.{eqb-true, eq-eqb}
use Rattle.pipe_model.specs.declared.event.Event.TheVariants.{Clc as ClcEvent}
use Rattle.pipe_model.specs.declared.reply.SentKind.TheVariants.{Accept as AcceptSent}
use Rattle.pipe_model.specs.declared.reply.Reply.TheVariants.{Sent, Declined, Held, Idle}
use Rattle.pipe_model.specs.declared.post.Post.TheVariants.{Clc}
use Rattle.pipe_model.specs.declared.verdict.ClcStep.{ClcStep}
use Rattle.pipe_model.specs.declared.verdict.ClcStep.TheVariants.{SendAccept, Wait, Decline}
use Rattle.clc_wire.specs.declared.message.ClcMessage.TheVariants.{Proposal as ProposalMessage, Accept as AcceptMessage, Decline as DeclineMessage}
use Rattle.pipe_model.specs.declared.reply.Reply.{Reply}
use Rattle.clc_wire.specs.declared.offer.Offer.{Offer}
use Rattle.pipe_model.specs.Messages.{proposal}
use Rattle.smc_num.specs.declared.LinkId.{LinkId}
use Rattle.pipe_model.specs.declared.entry.Entry.{Entry}
use Rattle.world_core.proofs.Moves.{IsQuiet, shows-quiet, world-same}
use Rattle.clc_wire.specs.declared.message.ClcMessage.{ClcMessage}
use Rattle.world_core.specs.Played.{IsOneLink}
use Rattle.pipe_model.specs.Connections.{IsUp, early_state, end_state, group_on}
use Rattle.pipe_model.specs.declared.setup.Setup.{Setup}
use Rattle.pipe_model.specs.Lawful.{asked, front_posts}
use Rattle.pipe_model.specs.declared.post.Post.{Post}
use Rattle.world_core.proofs.ClcMoves.{clc-is-apart, clc-world, keeps-same, link-still}
use Rattle.smc_num.specs.declared.Side.{Side}
use Rattle.pipe_model.specs.Lending.{free_places, lends}
use Rattle.smc_num.specs.Names.{head, other}
use Rattle.pipe_model.specs.Posts.{accept_post, clc_posts, new_offer}
use Rattle.pipe_model.specs.Fabric.{peer}
use Rattle.world_core.proofs.QuietEvents.{by-side, entry-of}
use Rattle.std.specs.Prelude.{Bool, List, None, Some, [], false, filter_map, if◌then◌else◌, length, true, ℕ, ◌==◌, ◌∷◌, ◌⊎◌}
use Rattle.smc_num.specs.declared.Side.TheVariants.{A, B}
use Rattle.world_core.proofs.Verdicts.{begins, OnProposal, holds, joins, on-proposal, refuses}
use Rattle.pipe_model.specs.Fallback.{front, front_of, front_of_posts, stream, untaken}
use Rattle.pipe_model.specs.Replies.{clc_step, clc_told, expects, front_told, step_told}
use Rattle.pipe_model.specs.Handshake.{lacks, on_proposal, verdict}
use Rattle.world_core.specs.Sockets.{Accepted, FirstAccepted, FirstConfirmed, IsOffer, IsWorld, Proposed, Refused, Socket, StandsAt, end_at, first_step, has_not_lent, is_unoffered, untaken_at, up_at}
use Rattle.world_core.proofs.Offers.{IsFree, first-link, has-free, later-link, new-is-offer, new-place}
use Rattle.world_core.specs.OneLink.{Asking, Begun, LiveAtA, LiveAtBoth, Made, NoLink, Stage, fabric_at, the_link}
use Rattle.smc_num.specs.Places.{Place}
use Rattle.world_core.proofs.LinkMoves.{begins-link, still-accept, still-refusal-b}
use Rattle.world_core.proofs.Handshakes.{accepts-first, accepts-later, refuses-proposal}
use Rattle.world_core.specs.Lent.{Begins, BeginsNone, BeginsOne, LeadsOn}

-- a message that is taken, with the verdict on it
pub record Takes (setup : Setup) (payload : List ℕ) (t : ℕ) (dir : Side) (older : List Entry) (m : ClcMessage) (step : ClcStep) : Type 0 where
  pub reply : clc_told setup payload t dir older ≡ step_told (group_on t older) m step
  pub posts : front_posts setup payload (other dir) t older (front payload dir t older) ≡ clc_posts setup payload (other dir) t m older step

-- what an end is
pub end-is : (setup : Setup) (k : Socket) (s : ℕ) (past : List Entry) → StandsAt setup k s past → (x : Side) → end_state x s past ≡ end_at k x
end-is setup k s past at x = ap (λ b. if b then IsUp else early_state x s past) (at.up x) ∙ ap (λ e. if up_at k x then IsUp else e) (at.early x)

pub front-is : (setup : Setup) (payload : List ℕ) (k : Socket) (t : ℕ) (dir : Side) (older : List Entry) → StandsAt setup k t older → front payload dir t older ≡ front_of_posts (head (untaken_at setup k dir))
front-is setup payload k t dir older at =
    ap (λ b. front_of b (stream payload dir t older) (untaken dir t older)) at.raw
    ∙ ap (λ (ms : List ClcMessage). front_of_posts (head ms)) (at.messages dir)

pub told-is : (setup : Setup) (payload : List ℕ) (k : Socket) (t : ℕ) (dir : Side) (older : List Entry) → StandsAt setup k t older
    → clc_told setup payload t dir older ≡ (if expects (end_at k (other dir)) then front_told setup payload (other dir) t older (front_of_posts (head (untaken_at setup k dir))) else Idle)
told-is setup payload k t dir older at =
    ap (λ e. if expects e then front_told setup payload (other dir) t older (front payload dir t older) else Idle) (end-is setup k t older at (other dir))
    ∙ ap (λ f. if expects (end_at k (other dir)) then front_told setup payload (other dir) t older f else Idle) (front-is setup payload k t dir older at)

pub verdict-is : (setup : Setup) (payload : List ℕ) (k : Socket) (t : ℕ) (x : Side) (older : List Entry) (m : ClcMessage) (step : ClcStep) → StandsAt setup k t older
    → verdict false (end_at k x) m (lacks setup payload x older) ≡ step → clc_step setup payload x t m older ≡ step
verdict-is setup payload k t x older m step at e =
    ap (λ b. verdict b (end_state x t older) m (lacks setup payload x older)) at.raw
    ∙ (ap (λ s. verdict false s m (lacks setup payload x older)) (end-is setup k t older at x) ∙ e)

pub is-taken : (setup : Setup) (payload : List ℕ) (k : Socket) (t : ℕ) (dir : Side) (older : List Entry) (m : ClcMessage) (step : ClcStep) → StandsAt setup k t older
    → expects (end_at k (other dir)) ≡ true → head (untaken_at setup k dir) ≡ Some m → verdict false (end_at k (other dir)) m (lacks setup payload (other dir) older) ≡ step → Takes setup payload t dir older m step
is-taken setup payload k t dir older m step at waits first e =
    let v = verdict-is setup payload k t (other dir) older m step at e in
    record {
      reply =
          told-is setup payload k t dir older at
          ∙ (ap (λ b. if b then front_told setup payload (other dir) t older (front_of_posts (head (untaken_at setup k dir))) else Idle) waits
          ∙ (ap (λ o. front_told setup payload (other dir) t older (front_of_posts o)) first ∙ ap (λ s. step_told (group_on t older) m s) v));
      posts =
          ap (λ f. front_posts setup payload (other dir) t older f) (front-is setup payload k t dir older at)
          ∙ (ap (λ o. front_posts setup payload (other dir) t older (front_of_posts o)) first ∙ ap (λ s. clc_posts setup payload (other dir) t m older s) v);
    }

-- at which step of the link a socket of first contact is
pub not-both : (b : Bool) → (if b then false else false) ≡ true → ⊥
not-both true e = cc
not-both false e = cc

met : (s t : ℕ) → (if s == t then true else false) ≡ true → t ≡ s
met s t e = by_test (s == t) refl e
  where
    by_test : (b : Bool) → (s == t) ≡ b → (if b then true else false) ≡ true → t ≡ s
    by_test true f h = sym (eqb-true s t f)
    by_test false f h = cc

pub begun-with : (stage : Stage) (s : ℕ) (o : Offer) → suits stage s (FirstAccepted o) ≡ true → stage ≡ Begun s
begun-with NoLink s o e = cc
begun-with (Begun t) s o e = ap Begun (met s t e)
begun-with (Made t) s o e = absurd (not-both (s == t) e)
begun-with (Asking t qp) s o e = absurd (not-both (s == t) e)
begun-with (LiveAtA t qp) s o e = absurd (not-both (s == t) e)
begun-with (LiveAtBoth t) s o e = absurd (not-both (s == t) e)

pub made-with : (stage : Stage) (s : ℕ) (o p : Offer) → suits stage s (FirstConfirmed o p) ≡ true → stage ≡ Made s
made-with NoLink s o p e = cc
made-with (Begun t) s o p e = absurd (not-both (s == t) e)
made-with (Made t) s o p e = ap Made (met s t e)
made-with (Asking t qp) s o p e = absurd (not-both (s == t) e)
made-with (LiveAtA t qp) s o p e = absurd (not-both (s == t) e)
made-with (LiveAtBoth t) s o p e = absurd (not-both (s == t) e)

-- a socket of later contact has offers only where the link is live at both sides
pub live-with : (stage : Stage) (s : ℕ) (k : Socket) → first_step k ≡ 0 → is_unoffered k ≡ false → suits stage s k ≡ true → (t : ℕ) × (stage ≡ LiveAtBoth t)
live-with NoLink s k z u e = let h : false ≡ true = sym u ∙ e in cc
live-with (Begun t) s k z u e = absurd (not-both (s == t) ((rw (z, u) at e)))
live-with (Made t) s k z u e = absurd (not-both (s == t) ((rw (z, u) at e)))
live-with (Asking t qp) s k z u e = absurd (not-both (s == t) ((rw (z, u) at e)))
live-with (LiveAtA t qp) s k z u e = absurd (not-both (s == t) ((rw (z, u) at e)))
live-with (LiveAtBoth t) s k z u e = (t, refl)

-- sockets without an offer suit every step alike
pub unoffered-alike : (stage : Stage) (s : ℕ) (k j : Socket) → first_step k ≡ first_step j → is_unoffered k ≡ is_unoffered j → suits stage s k ≡ true → suits stage s j ≡ true
unoffered-alike NoLink s k j f u e = sym u ∙ e
unoffered-alike (Begun t) s k j f u e = ap (λ (n : ℕ). if s == t then n == 1 else is_unoffered j) (sym f) ∙ (ap (λ b. if s == t then first_step k == 1 else b) (sym u) ∙ e)
unoffered-alike (Made t) s k j f u e = ap (λ (n : ℕ). if s == t then n == 2 else is_unoffered j) (sym f) ∙ (ap (λ b. if s == t then first_step k == 2 else b) (sym u) ∙ e)
unoffered-alike (Asking t qp) s k j f u e = ap (λ (n : ℕ). if s == t then n == 3 else is_unoffered j) (sym f) ∙ (ap (λ b. if s == t then first_step k == 3 else b) (sym u) ∙ e)
unoffered-alike (LiveAtA t qp) s k j f u e = ap (λ (n : ℕ). if s == t then n == 4 else is_unoffered j) (sym f) ∙ (ap (λ b. if s == t then first_step k == 4 else b) (sym u) ∙ e)
unoffered-alike (LiveAtBoth t) s k j f u e = ap (λ (n : ℕ). if s == t then n == 5 else n == 0) (sym f) ∙ e

-- a test that failed leaves its other branch
pub else-of : {X : Type 0} (b : Bool) (x y z : X) → b ≡ false → (if b then x else y) ≡ z → y ≡ z
else-of true x y z e h = cc
else-of false x y z e h = h

pub to-else : {X : Type 0} (b : Bool) (x y z : X) → b ≡ false → y ≡ z → (if b then x else y) ≡ z
to-else true x y z e h = cc
to-else false x y z e h = h

pub begun-suits : (t s : ℕ) (k : Socket) → (s == t) ≡ false → suits NoLink s k ≡ true → suits (Begun t) s k ≡ true
begun-suits t s k e h = to-else (s == t) (first_step k == 1) (is_unoffered k) true e h

pub made-suits : (t s : ℕ) (k : Socket) → (s == t) ≡ false → suits (Begun t) s k ≡ true → suits (Made t) s k ≡ true
made-suits t s k e h = to-else (s == t) (first_step k == 2) (is_unoffered k) true e (else-of (s == t) (first_step k == 1) (is_unoffered k) true e h)

pub asking-suits : (t qp s : ℕ) (k : Socket) → (s == t) ≡ false → suits (Made t) s k ≡ true → suits (Asking t qp) s k ≡ true
asking-suits t qp s k e h = to-else (s == t) (first_step k == 3) (is_unoffered k) true e (else-of (s == t) (first_step k == 2) (is_unoffered k) true e h)

-- the lendings that an entry begins
abbrev pub StillUnlent : Stage → Stage → List Post → Type 0
StillUnlent from to posts = (x : Side) → has_not_lent x to ≡ true → (has_not_lent x from ≡ true) × (filter_map (lends x) posts ≡ [])

pub lent-none : (stage : Stage) (posts : List Post) → filter_map (lends A) posts ≡ [] → filter_map (lends B) posts ≡ [] → StillUnlent stage stage posts
lent-none stage posts a b A e = (e, a)
lent-none stage posts a b B e = (e, b)

module _ (setup : Setup) (one : IsOneLink setup) (payload : List ℕ) (actor t : ℕ) (older : List Entry) where
  pub same : (t == t) ≡ true
  same = eq-eqb t t refl

  -- an entry with this reply and these posts
  pub is-this : (dir : Side) (reply told : Reply) (posts given : List Post) → reply ≡ told → posts ≡ given → LeadsOn setup payload (entry-of actor (ClcEvent t dir) told given) older → LeadsOn setup payload (entry-of actor (ClcEvent t dir) reply posts) older
  is-this dir reply told posts given e f g =
      subst (λ (r : Reply). LeadsOn setup payload (entry-of actor (ClcEvent t dir) r posts) older) (sym e) (subst (λ (ps : List Post). LeadsOn setup payload (entry-of actor (ClcEvent t dir) told ps) older) (sym f) g)

  pub goes-quiet : (stage : Stage) (d : Entry) → IsWorld setup stage older → IsQuiet d older → LeadsOn setup payload d older
  goes-quiet stage d w q = record { stage = stage; world = world-same setup stage (d ∷ older) older (shows-quiet setup stage d older w.link q) w; begins = λ x. BeginsNone (ap (λ (ps : List Post). filter_map (lends x) ps) q.posts) }

  pub idle : (stage : Stage) (dir : Side) (reply : Reply) (posts : List Post) → IsWorld setup stage older → reply ≡ clc_told setup payload t dir older → posts ≡ asked setup payload older (ClcEvent t dir) reply
      → clc_told setup payload t dir older ≡ Idle → LeadsOn setup payload (entry-of actor (ClcEvent t dir) reply posts) older
  idle stage dir reply posts w r p e =
      let told : reply ≡ Idle = r ∙ e in
      is-this dir reply Idle posts [] told (p ∙ ap (λ (q : Reply). asked setup payload older (ClcEvent t dir) q) told) (goes-quiet stage (entry-of actor (ClcEvent t dir) Idle []) w (quiet-idle-clc actor older t dir))

  -- B takes a Proposal
  pub on-a-proposal : (stage : Stage) (reply : Reply) (posts : List Post) → IsWorld setup stage older → StandsAt setup Proposed t older → suits stage t Proposed ≡ true
      → reply ≡ clc_told setup payload t A older → posts ≡ asked setup payload older (ClcEvent t A) reply → LeadsOn setup payload (entry-of actor (ClcEvent t A) reply posts) older
  on-a-proposal stage reply posts w at suit r p = by_verdict (on-proposal setup one payload older stage w.link (proposal setup))
    where
      taken : (step : ClcStep) → on_proposal false (proposal setup) (lacks setup payload B older) ≡ step → Takes setup payload t A older (ProposalMessage (proposal setup)) step
      taken step e = is-taken setup payload Proposed t A older (ProposalMessage (proposal setup)) step at refl refl e

      begin : IsWorld setup NoLink older → (q : Place) → IsFree setup payload B older q → on_proposal false (proposal setup) (lacks setup payload B older) ≡ SendAccept true → LeadsOn setup payload (entry-of actor (ClcEvent t A) reply posts) older
      begin w2 q free e =
          let k = taken (SendAccept true) e in
          let told : reply ≡ Sent AcceptSent = r ∙ k.reply in
          let o : Offer = new_offer setup payload B true the_link older in
          let i : IsOffer setup B true o = new-is-offer setup payload B true NoLink older q w2.link free in
          let given : posts ≡ Clc B t (Some the_link) (AcceptMessage o) ∷ [] =
          p ∙ (ap (λ (x : Reply). asked setup payload older (ClcEvent t A) x) told ∙ (k.posts ∙ ap (λ (l : LinkId). accept_post setup payload t true l older ∷ []) (first-link setup older one.links w2.link))) in
          is-this A reply (Sent AcceptSent) posts (Clc B t (Some the_link) (AcceptMessage o) ∷ []) told given (record {
            stage = Begun t;
            begins = by-side (λ x. Begins setup payload x (entry-of actor (ClcEvent t A) (Sent AcceptSent) (Clc B t (Some the_link) (AcceptMessage o) ∷ [])) older) (BeginsNone refl) (BeginsOne t A o refl refl (at.offer B) (new-place setup payload B true NoLink older q w2.link free) refl);
            world = clc-world setup actor t A (Sent AcceptSent) (Clc B t (Some the_link) (AcceptMessage o) ∷ []) older NoLink (Begun t) w2 (begins-link setup actor t older o w2.link i)
                (by-side (λ x. ((peer x (fabric_at NoLink)).group ≡ 0) ⊎ ((peer x (fabric_at NoLink)).group ≡ (peer x (fabric_at (Begun t))).group)) (inl refl) (inl refl))
                Proposed (FirstAccepted o) at (accepts-first setup actor t older same o i) (ap (λ b. if b then true else false) same)
                (λ s k. begun-suits t s k) (λ s. clc-is-apart s t B (Some the_link) (AcceptMessage o))
                (by-side (λ x. has_not_lent x (Begun t) ≡ true → (has_not_lent x NoLink ≡ true) × (filter_map (lends x) (Clc B t (Some the_link) (AcceptMessage o) ∷ []) ≡ [])) (λ h. (refl, refl)) (λ h. cc));
          })

      join : (u : ℕ) → IsWorld setup (LiveAtBoth u) older → suits (LiveAtBoth u) t Proposed ≡ true → (q : Place) → IsFree setup payload B older q → on_proposal false (proposal setup) (lacks setup payload B older) ≡ SendAccept false → LeadsOn setup payload (entry-of actor (ClcEvent t A) reply posts) older
      join u w2 suit2 q free e =
          let k = taken (SendAccept false) e in
          let told : reply ≡ Sent AcceptSent = r ∙ k.reply in
          let o : Offer = new_offer setup payload B false the_link older in
          let i : IsOffer setup B false o = new-is-offer setup payload B false (LiveAtBoth u) older q w2.link free in
          let given : posts ≡ Clc B t (Some the_link) (AcceptMessage o) ∷ [] =
          p ∙ (ap (λ (x : Reply). asked setup payload older (ClcEvent t A) x) told ∙ (k.posts ∙ ap (λ (l : LinkId). accept_post setup payload t false l older ∷ []) (later-link setup payload older u w2.link))) in
          is-this A reply (Sent AcceptSent) posts (Clc B t (Some the_link) (AcceptMessage o) ∷ []) told given (record {
            stage = LiveAtBoth u;
            begins = by-side (λ x. Begins setup payload x (entry-of actor (ClcEvent t A) (Sent AcceptSent) (Clc B t (Some the_link) (AcceptMessage o) ∷ [])) older) (BeginsNone refl) (BeginsOne t A o refl refl (at.offer B) (new-place setup payload B false (LiveAtBoth u) older q w2.link free) refl);
            world = clc-world setup actor t A (Sent AcceptSent) (Clc B t (Some the_link) (AcceptMessage o) ∷ []) older (LiveAtBoth u) (LiveAtBoth u) w2
                (link-still setup actor t A (Sent AcceptSent) (Clc B t (Some the_link) (AcceptMessage o) ∷ []) older (LiveAtBoth u) w2.link (still-accept t older (fabric_at (LiveAtBoth u)) o refl))
                (keeps-same (LiveAtBoth u))
                Proposed (Accepted o) at (accepts-later setup actor t older same o i) suit2
                (λ s k f h. h) (λ s. clc-is-apart s t B (Some the_link) (AcceptMessage o))
                (by-side (λ x. has_not_lent x (LiveAtBoth u) ≡ true → (has_not_lent x (LiveAtBoth u) ≡ true) × (filter_map (lends x) (Clc B t (Some the_link) (AcceptMessage o) ∷ []) ≡ [])) (λ h. cc) (λ h. cc));
          })

      by_verdict : OnProposal stage (length (free_places setup payload B older) == 0) (on_proposal false (proposal setup) (lacks setup payload B older)) → LeadsOn setup payload (entry-of actor (ClcEvent t A) reply posts) older
      by_verdict (refuses lack e) =
          let k = taken (Decline lack) e in
          let told : reply ≡ Declined lack = r ∙ k.reply in
          is-this A reply (Declined lack) posts (Clc B t None (DeclineMessage (refusal B lack)) ∷ []) told (p ∙ (ap (λ (x : Reply). asked setup payload older (ClcEvent t A) x) told ∙ k.posts)) (record {
            stage = stage;
            begins = by-side (λ x. Begins setup payload x (entry-of actor (ClcEvent t A) (Declined lack) (Clc B t None (DeclineMessage (refusal B lack)) ∷ [])) older) (BeginsNone refl) (BeginsNone refl);
            world = clc-world setup actor t A (Declined lack) (Clc B t None (DeclineMessage (refusal B lack)) ∷ []) older stage stage w
                (link-still setup actor t A (Declined lack) (Clc B t None (DeclineMessage (refusal B lack)) ∷ []) older stage w.link (still-refusal-b t older (fabric_at stage) lack (refusal B lack)))
                (keeps-same stage) Proposed (Refused (refusal B lack)) at (refuses-proposal setup actor t older same lack (refusal B lack)) (unoffered-alike stage t Proposed (Refused (refusal B lack)) refl refl suit)
                (λ s k f h. h) (λ s. clc-is-apart s t B None (DeclineMessage (refusal B lack)))
                (lent-none stage (Clc B t None (DeclineMessage (refusal B lack)) ∷ []) refl refl);
          })
      by_verdict (holds hold e) =
          let k = taken (Wait hold) e in
          let told : reply ≡ Held hold = r ∙ k.reply in
          is-this A reply (Held hold) posts [] told (p ∙ (ap (λ (x : Reply). asked setup payload older (ClcEvent t A) x) told ∙ k.posts)) (goes-quiet stage (entry-of actor (ClcEvent t A) (Held hold) []) w (quiet-held-clc actor older t hold))
      by_verdict (begins is none e) =
          let f = has-free setup payload B older one.rmbs_b none in
          begin (subst (λ (st : Stage). IsWorld setup st older) is w) f.0 f.1 e
      by_verdict (joins u is none e) =
          let f = has-free setup payload B older one.rmbs_b none in
          join u (subst (λ (st : Stage). IsWorld setup st older) is w) (subst (λ (st : Stage). suits st t Proposed ≡ true) is suit) f.0 f.1 e
