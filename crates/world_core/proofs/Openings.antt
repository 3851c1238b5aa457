-- An entry that opens a socket leads to the next world.
use Rattle.std.proofs.Common.{◌≡◌, ap, refl, subst, sym, ◌∙◌}
use Rattle.std.proofs.lemmas.Bool.{eqb-true, eq-eqb}
use Rattle.pipe_model.specs.Keys.{by_post as keys_by_post, Keys, book_act, book_clc, by_act, if_group, offers}
use Rattle.pipe_model.specs.declared.event.Event.TheVariants.{Open}
use Rattle.pipe_model.specs.declared.reply.Reply.TheVariants.{Opened, NameUsed, Declined}
use Rattle.pipe_model.specs.declared.reply.Lack.TheVariants.{NotCapable}
use Rattle.clc_wire.specs.declared.message.ClcMessage.TheVariants.{Proposal as ProposalMessage}
use Rattle.pipe_model.specs.declared.post.Post.{Post}
use Rattle.pipe_model.specs.declared.entry.Entry.{Entry}
use Rattle.std.proofs.lemmas.List.{append-nil}
use Rattle.pipe_model.specs.declared.setup.Setup.{Setup}
use Rattle.world_core.proofs.Handshakes.{no-offers}
use Rattle.smc_num.specs.declared.Side.{Side}
use Rattle.smc_num.specs.Links.{Known}
use Rattle.smc_num.specs.Names.{head}
use Rattle.pipe_model.specs.declared.reply.Reply.{Reply}
use Rattle.pipe_model.specs.declared.reply.Lack.{Lack}
use Rattle.world_core.proofs.QuietEvents.{by-side, entry-of, quiet-name}
use Rattle.world_core.proofs.LinkMoves.{clc-waits-not, waits-on}
use Rattle.smc_num.specs.declared.Side.TheVariants.{A, B}
use Rattle.pipe_model.specs.Fallback.{clc_in, is_name_used, is_opened, is_raw, takes_clc}
use Rattle.pipe_model.specs.Replies.{open_told}
use Rattle.pipe_model.specs.Lawful.{asked}
use Rattle.clc_wire.specs.declared.message.ClcMessage.{ClcMessage}
use Rattle.world_core.proofs.ClcMoves.{AreApart, clc-is-apart, keeps-same, none-apart}
use Rattle.world_core.specs.Sockets.{Fallen, IsWorld, Proposed, Socket, StandsAt, Unopened, early_at, first_step, is_unoffered, offered_at, opened_at, suits, untaken_at, up_at}
use Rattle.pipe_model.specs.Fabric.{act_in, peer}
use Rattle.smc_num.specs.declared.LinkId.{LinkId}
use Rattle.pipe_model.specs.Posts.{begins_group_in, proposal_post}
use Rattle.pipe_model.specs.Lending.{Lending, lendings}
use Rattle.pipe_model.specs.History.{Offered, next_number, offer_in}
use Rattle.world_core.proofs.TakenMessages.{StillUnlent, lent-none, unoffered-alike}
use Rattle.world_core.proofs.Moves.{KeepsGroups, MovesLink, MovesSocket, has-book, has-group, keeps-group, link-moves, shows-quiet, socket-moves, world-same}
use Rattle.pipe_model.specs.Ends.{moves}
use Rattle.std.specs.Option.{option_or}
use Rattle.pipe_model.specs.Connections.{EndState, HasFallen, WaitsAnswer, WaitsProposal, after_event, comes_up}
use Rattle.world_core.specs.OneLink.{IsAtStage, Stage, book_at, fabric_at, groups_at, keys_at, posted_llc, the_link, waiting_at}
use Rattle.pipe_model.specs.Messages.{proposal}
use Rattle.std.specs.Prelude.{Bool, List, None, [], drop, false, filter, filter_map, fold, if◌then◌else◌, is_some, length, not, slice_index_or, true, ℕ, ◌&&◌, ◌++◌, ◌+◌, ◌==◌, ◌||◌, ◌∷◌}
use Rattle.world_core.specs.Lent.{Begins, BeginsNone, LeadsOn}
use Rattle.world_core.proofs.Plain.{plus-none}

-- a world whose link and sockets move with an entry
pub world-moves : (setup : Setup) (d : Entry) (older : List Entry) (from to : Stage) → IsWorld setup from older → MovesLink setup d older from to → KeepsGroups from to
    → ((s : ℕ) (k : Socket) → StandsAt setup k s older → suits from s k ≡ true → (j : Socket) × MovesSocket setup d older s k j × (suits to s j ≡ true))
    → StillUnlent from to d.posts → IsWorld setup to (d ∷ older)
world-moves setup d older from to w moves keeps sockets unlent = record {
  link = now;
  sockets = λ s.
      let h = w.sockets s in
      let m = sockets s h.at h.stands h.suits_is in
      record { at = m.0; stands = socket-moves setup d older s h.at m.0 (keeps-group setup d older from to w.link now keeps) m.1 h.stands; suits_is = m.2 };
  unlent = λ x none. let u = unlent x none in ap (λ (ls : List Lending). ls ++ lendings x older) u.1 ∙ w.unlent x u.0;
}
  where
    now : IsAtStage setup to (d ∷ older)
    now = link-moves setup d older from to moves w.link

module _ (setup : Setup) (actor t : ℕ) (older : List Entry) where
  -- the link is left as it is
  open-link : (stage : Stage) (reply : Reply) (posts : List Post) → IsAtStage setup stage older → length (filter begins_group_in posts) ≡ 0
      → ((x : Side) (table : List Known) (ks : Keys) → fold (keys_by_post x table) ks posts ≡ ks) → ((link : LinkId) (x : Side) (n : ℕ) → posted_llc link x n 1 posts ≡ [])
      → MovesLink setup (entry-of actor (Open t) reply posts) older stage stage
  open-link stage reply posts at none keys waiting = record {
    path = refl;
    cuts_none = refl;
    groups = ap (λ n. groups_at stage + n) none ∙ plus-none (groups_at stage);
    fabric_is = refl;
    keys = by-side (λ x. if_group (peer x (fabric_at stage)).group (fold (keys_by_post x (peer x (fabric_at stage)).table) (by_act x (peer x (fabric_at stage)).flow (peer x (fabric_at stage)).table (act_in x (entry-of actor (Open t) reply posts) older) (keys_at x stage)) posts) ≡ keys_at x stage)
        (ap (if_group (fabric_at stage).a.group) (keys A (fabric_at stage).a.table (keys_at A stage)) ∙ has-group A stage)
        (ap (if_group (fabric_at stage).b.group) (keys B (fabric_at stage).b.table (keys_at B stage)) ∙ has-group B stage);
    book = by-side (λ x. (if (peer x (fabric_at stage)).group == 0 then [] else book_clc x (Open t) reply older (book_act (peer x (fabric_at stage)).table (act_in x (entry-of actor (Open t) reply posts) older) (book_at x stage))) ≡ book_at x stage)
        (has-book A stage) (has-book B stage);
    waiting = λ x. waits-on the_link x older (waiting_at setup x stage) _ [] (at.waiting x) (waiting the_link x (next_number older)) ∙ append-nil (waiting_at setup x stage);
    elsewhere = λ link x apart. waits-on link x older [] _ [] (at.elsewhere link x apart) (waiting link x (next_number older));
  }

  -- the socket that is opened
  opens-socket : (e : (t == t) ≡ true) → MovesSocket setup (entry-of actor (Open t) Opened (proposal_post setup t ∷ [])) older t Unopened Proposed
  opens-socket e = record {
    up = by-side (λ x. (is_some (comes_up x t (entry-of actor (Open t) Opened (proposal_post setup t ∷ [])) older) || up_at Unopened x) ≡ up_at Proposed x) refl refl;
    early = by-side (λ x. after_event x t (Open t) Opened (early_at Unopened x) ≡ early_at Proposed x) (rw e refl) (rw e refl);
    offer = by-side (λ x. option_or (head (filter_map (offer_in x t) (proposal_post setup t ∷ []))) (offered_at Unopened x) ≡ offered_at Proposed x) refl refl;
    messages = by-side (λ x. drop (if takes_clc x t (Open t) Opened then 1 else 0) (untaken_at setup Unopened x) ++ filter_map (clc_in x t) (proposal_post setup t ∷ []) ≡ untaken_at setup Proposed x) (rw e refl) refl;
    opened = rw e refl;
    raw = refl;
    offers = λ a. no-offers setup Proposed refl refl;
  }

  falls-at-once : (lack : Lack) (e : (t == t) ≡ true) → MovesSocket setup (entry-of actor (Open t) (Declined lack) []) older t Unopened Fallen
  falls-at-once lack e = record {
    up = by-side (λ x. (is_some (comes_up x t (entry-of actor (Open t) (Declined lack) []) older) || up_at Unopened x) ≡ up_at Fallen x) refl refl;
    early = by-side (λ x. after_event x t (Open t) (Declined lack) (early_at Unopened x) ≡ early_at Fallen x) (rw e refl) (rw e refl);
    offer = λ x. refl;
    messages = λ x. refl;
    opened = rw e refl;
    raw = refl;
    offers = λ a. no-offers setup Fallen refl refl;
  }

  -- another socket
  pub early-apart : (x : Side) (s : ℕ) (reply : Reply) (state : EndState) → (s == t) ≡ false → after_event x s (Open t) reply state ≡ state
  early-apart A s Opened state e = ap (λ b. if b then WaitsAnswer else state) e
  early-apart B s Opened state e = ap (λ b. if b then WaitsProposal else state) e
  early-apart A s (Declined lack) state e = ap (λ b. if b then HasFallen else state) e
  early-apart B s (Declined lack) state e = ap (λ b. if b then HasFallen else state) e
  early-apart A s _ state e = refl
  early-apart B s _ state e = refl

  socket-beside : (reply : Reply) (posts : List Post) (s : ℕ) (k : Socket) → (s == t) ≡ false → AreApart s posts → MovesSocket setup (entry-of actor (Open t) reply posts) older s k k
  socket-beside reply posts s k e a = record {
    up = by-side (λ x. (is_some (comes_up x s (entry-of actor (Open t) reply posts) older) || up_at k x) ≡ up_at k x) refl refl;
    early = λ x. early-apart x s reply (early_at k x) e;
    offer = λ x. ap (λ (os : List Offered). option_or (head os) (offered_at k x)) (a.offers x);
    messages = λ x. ap (λ (ms : List ClcMessage). untaken_at setup k x ++ ms) (a.messages x) ∙ append-nil (untaken_at setup k x);
    opened = ap (λ b. (b && not (is_name_used reply)) || opened_at k) e;
    raw = refl;
    offers = λ o. o;
  }

  unopened : (k : Socket) → opened_at k ≡ false → k ≡ Unopened
  unopened Unopened e = refl
  unopened _ e = cc

  -- the whole world, where socket t was not opened
  open-world : (stage : Stage) (reply : Reply) (posts : List Post) (j : Socket) → IsWorld setup stage older → is_opened t older ≡ false → MovesLink setup (entry-of actor (Open t) reply posts) older stage stage
      → MovesSocket setup (entry-of actor (Open t) reply posts) older t Unopened j → first_step j ≡ 0 → is_unoffered j ≡ true → ((s : ℕ) → (s == t) ≡ false → AreApart s posts) → StillUnlent stage stage posts
      → IsWorld setup stage (entry-of actor (Open t) reply posts ∷ older)
  open-world stage reply posts j w new moves turn step offers apart unlent = world-moves setup (entry-of actor (Open t) reply posts) older stage stage w moves (keeps-same stage) (λ s k at suit. by_test s k at suit (s == t) refl) unlent
    where
      of-t : (s : ℕ) (k : Socket) → s ≡ t → StandsAt setup k s older → suits stage s k ≡ true → (i : Socket) × MovesSocket setup (entry-of actor (Open t) reply posts) older s k i × (suits stage s i ≡ true)
      of-t s k is at suit =
          let un : k ≡ Unopened = unopened k (sym at.opened ∙ (ap (λ n. is_opened n older) is ∙ new)) in
          let suit2 : suits stage s Unopened ≡ true = subst (λ (q : Socket). suits stage s q ≡ true) un suit in
          (j, subst (λ (q : Socket). MovesSocket setup (entry-of actor (Open t) reply posts) older s q j) (sym un) (subst (λ n. MovesSocket setup (entry-of actor (Open t) reply posts) older n Unopened j) (sym is) turn), unoffered-alike stage s Unopened j (sym step) (sym offers) suit2)

      by_test : (s : ℕ) (k : Socket) → StandsAt setup k s older → suits stage s k ≡ true → (b : Bool) → (s == t) ≡ b → (i : Socket) × MovesSocket setup (entry-of actor (Open t) reply posts) older s k i × (suits stage s i ≡ true)
      by_test s k at suit true e = of-t s k (eqb-true s t e) at suit
      by_test s k at suit false e = (k, socket-beside reply posts s k e (apart s e), suit)

  -- whatever it is told
  abbrev told-by : Bool → Bool → Bool → Bool → Reply
  told-by opened raw a b = if opened || raw then NameUsed else if not (a && b) then Declined (NotCapable a b) else Opened

  pub open-goes : (payload : List ℕ) (stage : Stage) (reply : Reply) (posts : List Post) → IsWorld setup stage older → reply ≡ open_told setup t older → posts ≡ asked setup payload older (Open t) reply → LeadsOn setup payload (entry-of actor (Open t) reply posts) older
  open-goes payload stage reply posts w r p = by_cases (is_opened t older) (is_raw t older) (slice_index_or setup.capable 0 false) (slice_index_or setup.capable 1 false) refl raw r
    where
      raw : is_raw t older ≡ false
      raw = let h = w.sockets t in let at = h.stands in at.raw

      is-that : (told : Reply) (given : List Post) → reply ≡ told → posts ≡ given → LeadsOn setup payload (entry-of actor (Open t) told given) older → LeadsOn setup payload (entry-of actor (Open t) reply posts) older
      is-that told given e f g =
          subst (λ (q : Reply). LeadsOn setup payload (entry-of actor (Open t) q posts) older) (sym e) (subst (λ (ps : List Post). LeadsOn setup payload (entry-of actor (Open t) told ps) older) (sym f) g)

      given-by : (told : Reply) → reply ≡ told → posts ≡ asked setup payload older (Open t) told
      given-by told e = p ∙ ap (λ (q : Reply). asked setup payload older (Open t) q) e

      fallen : (lack : Lack) → reply ≡ Declined lack → is_opened t older ≡ false → LeadsOn setup payload (entry-of actor (Open t) reply posts) older
      fallen lack e new = is-that (Declined lack) [] e (given-by (Declined lack) e) (record {
        stage = stage;
        begins = by-side (λ x. Begins setup payload x (entry-of actor (Open t) (Declined lack) []) older) (BeginsNone refl) (BeginsNone refl);
        world = open-world stage (Declined lack) [] Fallen w new (open-link stage (Declined lack) [] w.link refl (λ x table ks. refl) (λ link x n. refl)) (falls-at-once lack (eq-eqb t t refl)) refl refl (λ s f. none-apart s) (lent-none stage [] refl refl);
      })

      by_cases : (opened is_raw_now a b : Bool) → is_opened t older ≡ opened → is_raw_now ≡ false → reply ≡ told-by opened is_raw_now a b → LeadsOn setup payload (entry-of actor (Open t) reply posts) older
      by_cases true q a b new f e = is-that NameUsed [] e (given-by NameUsed e) (record { stage = stage; world = world-same setup stage (entry-of actor (Open t) NameUsed [] ∷ older) older (shows-quiet setup stage (entry-of actor (Open t) NameUsed []) older w.link (quiet-name actor older t)) w; begins = λ x. BeginsNone refl })
      by_cases false true a b new f e = cc
      by_cases false false false b new f e = fallen (NotCapable false b) e new
      by_cases false false true false new f e = fallen (NotCapable true false) e new
      by_cases false false true true new f e = is-that Opened (proposal_post setup t ∷ []) e (given-by Opened e) (record {
        stage = stage;
        begins = by-side (λ x. Begins setup payload x (entry-of actor (Open t) Opened (proposal_post setup t ∷ [])) older) (BeginsNone refl) (BeginsNone refl);
        world = open-world stage Opened (proposal_post setup t ∷ []) Proposed w new
            (open-link stage Opened (proposal_post setup t ∷ []) w.link refl
            (by-side (λ x. (table : List Known) (ks : Keys) → fold (keys_by_post x table) ks (proposal_post setup t ∷ []) ≡ ks) (λ table ks. refl) (λ table ks. refl))
            (λ link x n. clc-waits-not link x n A t None (ProposalMessage (proposal setup))))
            (opens-socket (eq-eqb t t refl)) refl refl (λ s. clc-is-apart s t A None (ProposalMessage (proposal setup))) (lent-none stage (proposal_post setup t ∷ []) refl refl);
      })
