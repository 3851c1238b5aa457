-- What an entry that takes a CLC message makes of the link and of each socket, by its reply and its posts.
use Rattle.std.proofs.Common.{◌≡◌, ap, inr, refl, subst, sym, ◌∙◌}
use Rattle.std.proofs.lemmas.Bool.{eqb-true}
use Rattle.std.proofs.lemmas.List.{append-nil}
use Rattle.pipe_model.specs.Keys.{by_post as keys_by_post, Keys, book_act, book_clc, by_act, if_group}
use Rattle.pipe_model.specs.declared.event.Event.TheVariants.{Clc as ClcEvent}
use Rattle.pipe_model.specs.declared.reply.Reply.TheVariants.{Established}
use Rattle.pipe_model.specs.declared.post.Post.TheVariants.{Llc, Clc}
use Rattle.clc_wire.specs.declared.message.ClcMessage.TheVariants.{Accept as AcceptMessage, Confirm as ConfirmMessage}
use Rattle.smc_num.specs.Links.{Known}
use Rattle.pipe_model.specs.Posts.{begins_group_in}
use Rattle.pipe_model.specs.declared.reply.Reply.{Reply}
use Rattle.std.specs.List.{cons_option}
use Rattle.pipe_model.specs.declared.setup.Setup.{Setup}
use Rattle.pipe_model.specs.declared.entry.Entry.{Entry}
use Rattle.std.specs.Option.{option_or}
use Rattle.llc_wire.specs.declared.LlcMessage.{LlcMessage}
use Rattle.pipe_model.specs.Ends.{moves}
use Rattle.pipe_model.specs.Fabric.{Fabric, act_in, after, is_latest, loses_group_with, peer}
use Rattle.pipe_model.specs.Parts.{actor}
use Rattle.pipe_model.specs.History.{Offered, next_number, offer_in, offered_if}
use Rattle.smc_num.specs.Keys.{Key}
use Rattle.clc_wire.specs.declared.message.ClcMessage.{ClcMessage}
use Rattle.pipe_model.specs.declared.post.Post.{Post}
use Rattle.pipe_model.specs.Fallback.{clc_in, takes_message}
use Rattle.smc_num.specs.declared.Side.{Side}
use Rattle.smc_num.specs.declared.LinkId.{LinkId}
use Rattle.smc_num.specs.declared.Side.TheVariants.{A, B}
use Rattle.pipe_model.specs.Lending.{Lending, lendings, lends}
use Rattle.pipe_model.specs.Connections.{EndState, after_clc, after_event, comes_up, named_link, up_by}
use Rattle.smc_num.specs.Names.{head, same_side}
use Rattle.world_core.specs.OneLink.{IsAtStage, Stage, book_at, fabric_at, groups_at, keys_at, llc_in, llc_waiting, posted_llc, the_link, waiting_at}
use Rattle.world_core.proofs.Moves.{KeepsGroups, MovesLink, MovesSocket, has-book, has-group, keeps-group, link-moves, socket-moves}
use Rattle.world_core.proofs.QuietEvents.{by-side, entry-of, none-leaves}
use Rattle.world_core.specs.Sockets.{suits, HasSocket, IsWorld, Socket, StandsAt, early_at, has_not_lent, offered_at, untaken_at, up_at}
use Rattle.std.specs.Prelude.{Bool, List, None, Option, Some, [], drop, false, filter, filter_map, fold, if◌then◌else◌, is_some, length, true, ℕ, ◌&&◌, ◌++◌, ◌+◌, ◌==◌, ◌||◌, ◌∷◌}
use Rattle.pipe_model.specs.Wires.{if_latest, unlanded}
use Rattle.world_core.proofs.Plain.{plus-none}

-- the posts of an entry, where they are of one socket, show nothing to another
pub record AreApart (s : ℕ) (posts : List Post) : Type 0 where
  pub offers : (x : Side) → filter_map (offer_in x s) posts ≡ []
  pub messages : (x : Side) → filter_map (clc_in x s) posts ≡ []

offer-apart : (x : Side) (s t : ℕ) (from : Side) (link : Option LinkId) (m : ClcMessage) → (s == t) ≡ false → offer_in x s (Clc from t link m) ≡ None
offer-apart B s t B (Some link) (AcceptMessage o) e = ap (λ b. offered_if b link o) e
offer-apart A s t A (Some link) (ConfirmMessage o) e = ap (λ b. offered_if b link o) e
offer-apart _ s t _ _ _ e = refl

clc-apart : (x : Side) (s t : ℕ) (from : Side) (link : Option LinkId) (m : ClcMessage) → (s == t) ≡ false → clc_in x s (Clc from t link m) ≡ None
clc-apart x s t from link m e = ap (λ b. if same_side x from && b then Some m else None) e ∙ by_test (same_side x from)
  where
    by_test : (b : Bool) → (if b && false then Some m else None) ≡ None
    by_test true = refl
    by_test false = refl

pub none-apart : (s : ℕ) → AreApart s []
none-apart s = record { offers = λ x. refl; messages = λ x. refl }

pub clc-is-apart : (s t : ℕ) (from : Side) (link : Option LinkId) (m : ClcMessage) → (s == t) ≡ false → AreApart s (Clc from t link m ∷ [])
clc-is-apart s t from link m e = record {
  offers = λ x. ap (λ o. cons_option o []) (offer-apart x s t from link m e);
  messages = λ x. ap (λ o. cons_option o []) (clc-apart x s t from link m e);
}

pub llc-is-apart : (s : ℕ) (from : Side) (link : LinkId) (m : LlcMessage) → AreApart s (Llc from link m ∷ [])
llc-is-apart s from link m = record { offers = by-side (λ x. filter_map (offer_in x s) (Llc from link m ∷ []) ≡ []) refl refl; messages = λ x. refl }

up-none : (x : Side) (s t : ℕ) (dir : Side) (reply : Reply) (older : List Entry) → (s == t) ≡ false → up_by x s (ClcEvent t dir) reply older ≡ None
up-none A s t B Established older e = ap (λ b. if b then named_link s older else None) e
up-none B s t A Established older e = ap (λ b. if b then named_link s older else None) e
up-none _ s t _ _ older e = refl

early-none : (x : Side) (s t : ℕ) (dir : Side) (reply : Reply) (state : EndState) → (s == t) ≡ false → after_event x s (ClcEvent t dir) reply state ≡ state
early-none A s t B reply state e = ap (λ b. if b then after_clc reply state else state) e
early-none B s t A reply state e = ap (λ b. if b then after_clc reply state else state) e
early-none A s t A reply state e = refl
early-none B s t B reply state e = refl

-- another socket stays as it is
pub socket-apart : (setup : Setup) (actor t : ℕ) (dir : Side) (reply : Reply) (posts : List Post) (older : List Entry) (s : ℕ) (k : Socket) → (s == t) ≡ false → AreApart s posts
    → MovesSocket setup (entry-of actor (ClcEvent t dir) reply posts) older s k k
socket-apart setup actor t dir reply posts older s k e a = record {
  up = by-side (λ x. (is_some (comes_up x s (entry-of actor (ClcEvent t dir) reply posts) older) || up_at k x) ≡ up_at k x)
      (ap (λ (o : Option LinkId). is_some (option_or o None) || up_at k A) (up-none A s t dir reply older e))
      (ap (λ (o : Option LinkId). is_some (option_or o None) || up_at k B) (up-none B s t dir reply older e));
  early = λ x. early-none x s t dir reply (early_at k x) e;
  offer = λ x. ap (λ (os : List Offered). option_or (head os) (offered_at k x)) (a.offers x);
  messages = λ x.
      ap (λ b. drop (if b && (same_side x dir && takes_message reply) then 1 else 0) (untaken_at setup k x) ++ filter_map (clc_in x s) posts) e
      ∙ (ap (λ (ms : List ClcMessage). untaken_at setup k x ++ ms) (a.messages x) ∙ append-nil (untaken_at setup k x));
  opened = refl;
  raw = refl;
  offers = λ o. o;
}

-- posts that the link does not see
pub record AreStill (t : ℕ) (dir : Side) (reply : Reply) (older : List Entry) (f : Fabric) (posts : List Post) : Type 0 where
  pub groups : length (filter begins_group_in posts) ≡ 0
  pub fabric_is : after (ClcEvent t dir) reply posts older f ≡ f
  pub keys : (x : Side) (table : List Known) (ks : Keys) → fold (keys_by_post x table) ks posts ≡ ks
  pub book : (x : Side) (b : List Key) → book_clc x (ClcEvent t dir) reply older b ≡ b
  pub waiting : (link : LinkId) (x : Side) (n : ℕ) → posted_llc link x n 1 posts ≡ []

pub link-still : (setup : Setup) (actor t : ℕ) (dir : Side) (reply : Reply) (posts : List Post) (older : List Entry) (stage : Stage) → IsAtStage setup stage older
    → AreStill t dir reply older (fabric_at stage) posts → MovesLink setup (entry-of actor (ClcEvent t dir) reply posts) older stage stage
link-still setup actor t dir reply posts older stage at q = record {
  path = refl;
  cuts_none = refl;
  groups = ap (λ n. groups_at stage + n) q.groups ∙ plus-none (groups_at stage);
  fabric_is = q.fabric_is;
  keys = by-side (λ x. if_group (peer x (fabric_at stage)).group (fold (keys_by_post x (peer x (fabric_at stage)).table) (by_act x (peer x (fabric_at stage)).flow (peer x (fabric_at stage)).table (act_in x (entry-of actor (ClcEvent t dir) reply posts) older) (keys_at x stage)) posts) ≡ keys_at x stage)
      (ap (if_group (fabric_at stage).a.group) (q.keys A (fabric_at stage).a.table (keys_at A stage)) ∙ has-group A stage)
      (ap (if_group (fabric_at stage).b.group) (q.keys B (fabric_at stage).b.table (keys_at B stage)) ∙ has-group B stage);
  book = by-side (λ x. (if (peer x (fabric_at stage)).group == 0 then [] else book_clc x (ClcEvent t dir) reply older (book_act (peer x (fabric_at stage)).table (act_in x (entry-of actor (ClcEvent t dir) reply posts) older) (book_at x stage))) ≡ book_at x stage)
      (ap (λ (b : List Key). if (fabric_at stage).a.group == 0 then [] else b) (q.book A (book_at A stage)) ∙ has-book A stage)
      (ap (λ (b : List Key). if (fabric_at stage).b.group == 0 then [] else b) (q.book B (book_at B stage)) ∙ has-book B stage);
  waiting = λ x. waits the_link x (waiting_at setup x stage) (at.waiting x);
  elsewhere = λ link x apart. waits link x [] (at.elsewhere link x apart);
}
  where
    waits : (link : LinkId) (x : Side) (ps : List Post) → llc_waiting link x older ≡ ps
        → filter_map llc_in (drop (if_latest link older 0) (unlanded link x older)) ++ posted_llc link x (next_number older) 1 posts ≡ ps
    waits link x ps e =
        ap (λ (qs : List Post). filter_map llc_in (drop (if_latest link older 0) (unlanded link x older)) ++ qs) (q.waiting link x (next_number older))
        ∙ (append-nil (filter_map llc_in (drop (if_latest link older 0) (unlanded link x older))) ∙ (none-leaves (is_latest link older) (unlanded link x older) ∙ e))

pub keeps-same : (stage : Stage) → KeepsGroups stage stage
keeps-same stage x = inr refl

-- the whole world, where the entry takes a message of socket t
pub clc-world : (setup : Setup) (actor t : ℕ) (dir : Side) (reply : Reply) (posts : List Post) (older : List Entry) (from to : Stage) → IsWorld setup from older
    → MovesLink setup (entry-of actor (ClcEvent t dir) reply posts) older from to → KeepsGroups from to
    → (k k2 : Socket) → StandsAt setup k t older → MovesSocket setup (entry-of actor (ClcEvent t dir) reply posts) older t k k2 → suits to t k2 ≡ true
    → ((s : ℕ) (h : Socket) → (s == t) ≡ false → suits from s h ≡ true → suits to s h ≡ true)
    → ((s : ℕ) → (s == t) ≡ false → AreApart s posts)
    → ((x : Side) → has_not_lent x to ≡ true → (has_not_lent x from ≡ true) × (filter_map (lends x) posts ≡ []))
    → IsWorld setup to (entry-of actor (ClcEvent t dir) reply posts ∷ older)
clc-world setup actor t dir reply posts older from to w moves keeps k k2 stands turn suits_is there apart unlent = record {
  link = now;
  sockets = λ s. by_test s (s == t) refl;
  unlent = λ x none. let u = unlent x none in ap (λ (ls : List Lending). ls ++ lendings x older) u.1 ∙ w.unlent x u.0;
}
  where
    now : IsAtStage setup to (entry-of actor (ClcEvent t dir) reply posts ∷ older)
    now = link-moves setup (entry-of actor (ClcEvent t dir) reply posts) older from to moves w.link

    lost : (x : Side) (g : ℕ) → loses_group_with x g (entry-of actor (ClcEvent t dir) reply posts) older ≡ false
    lost = keeps-group setup (entry-of actor (ClcEvent t dir) reply posts) older from to w.link now keeps

    of-t : HasSocket setup to t (entry-of actor (ClcEvent t dir) reply posts ∷ older)
    of-t = record { at = k2; stands = socket-moves setup (entry-of actor (ClcEvent t dir) reply posts) older t k k2 lost turn stands; suits_is = suits_is }

    by_test : (s : ℕ) (b : Bool) → (s == t) ≡ b → HasSocket setup to s (entry-of actor (ClcEvent t dir) reply posts ∷ older)
    by_test s true e = subst (λ n. HasSocket setup to n (entry-of actor (ClcEvent t dir) reply posts ∷ older)) (sym (eqb-true s t e)) of-t
    by_test s false e =
        let h = w.sockets s in
        record {
          at = h.at;
          stands = socket-moves setup (entry-of actor (ClcEvent t dir) reply posts) older s h.at h.at lost (socket-apart setup actor t dir reply posts older s h.at e (apart s e)) h.stands;
          suits_is = there s h.at e h.suits_is;
        }
