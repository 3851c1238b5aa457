-- After every history that a world of one link makes, the link is at some step, and so is each socket.
use Rattle.pipe_model.specs.Replies.{told}
use Rattle.std.proofs.Common.{◌≡◌, ap, inl, inr, refl, subst, sym, ◌∙◌}
use Rattle.pipe_model.specs.declared.event.Event.TheVariants.{Open, Write, Read, Clc, Deliver, Complete}
use Rattle.pipe_model.specs.declared.reply.Reply.TheVariants.{Idle, Landed, Dropped}
use Rattle.pipe_model.specs.declared.post.Post.TheVariants.{Write as WritePost, Cdc, Llc, Clc as ClcPost}
use Rattle.pipe_model.specs.Posts.{connection_posts}
use Rattle.pipe_model.specs.Lending.{record_of, lends}
use Rattle.world_core.proofs.Openings.{open-goes}
use Rattle.pipe_model.specs.declared.setup.Setup.{Setup}
use Rattle.pipe_model.specs.Fabric.{act_of}
use Rattle.pipe_model.specs.declared.reply.Reply.{Reply}
use Rattle.pipe_model.specs.declared.entry.Entry.{Entry}
use Rattle.pipe_model.specs.Messages.{pair_on}
use Rattle.world_core.proofs.Handshakes.{no-offers}
use Rattle.world_core.proofs.TakenAnswers.{clc-goes}
use Rattle.pipe_model.specs.Keys.{book_of, keys_of}
use Rattle.smc_num.specs.declared.Side.TheVariants.{A, B}
use Rattle.smc_num.specs.declared.Side.{Side}
use Rattle.world_core.proofs.DataPosts.{connections-data, shows-plus, unseen-lends}
use Rattle.pipe_model.specs.declared.post.Post.{Post}
use Rattle.pipe_model.specs.Wires.{landing, unlanded}
use Rattle.pipe_model.specs.Fits.{Fits}
use Rattle.world_core.specs.Played.{IsMade, IsOneLink, IsPlayed}
use Rattle.world_core.proofs.QuietEvents.{by-side, entry-of, quiet-complete, quiet-idle-landing, quiet-read, quiet-write}
use Rattle.pipe_model.specs.Replies.{deliver_told, lands_told}
use Rattle.smc_num.specs.Names.{head, other}
use Rattle.pipe_model.specs.Lawful.{act_posts, asked, draft, reply_of}
use Rattle.pipe_model.specs.declared.event.Event.{Event}
use Rattle.world_core.proofs.Confirmations.{act-a, act-b, answer, request, world-at-a, world-at-b}
use Rattle.world_core.proofs.Landings.{acts-none, first-llc, lands-made, lands-unmade, no-llc-first, quiet-dropped, quiet-landed}
use Rattle.world_core.specs.Sockets.{IsWorld, Unopened, HasWorld}
use Rattle.pipe_model.specs.declared.post.Placed.{Placed}
use Rattle.world_core.specs.Views.{plus, AreData}
use Rattle.std.specs.Prelude.{Bool, List, None, Option, Some, [], false, if◌then◌else◌, is_some, length, option_map, true, ℕ, ◌++◌, ◌∷◌, ◌⊎◌, filter_map}
use Rattle.world_core.proofs.Moves.{IsQuiet, shows-quiet, world-same}
use Rattle.world_core.specs.OneLink.{Asking, Begun, LiveAtA, LiveAtBoth, Made, NoLink, Stage, book_at, is_made, keys_at, llc_of, llc_waiting, the_link, waiting_at}
use Rattle.world_core.specs.Lent.{Begins, BeginsNone, BeginsOne, LeadsOn}

-- before anything happened
nothing-yet : (setup : Setup) → IsWorld setup NoLink []
nothing-yet setup = record {
  link = record {
    path = refl;
    uncut = refl;
    groups = refl;
    fabric_is = refl;
    keys = by-side (λ x. keys_of x [] ≡ keys_at x NoLink) refl refl;
    book = by-side (λ x. book_of x [] ≡ book_at x NoLink) refl refl;
    waiting = by-side (λ x. llc_waiting the_link x [] ≡ waiting_at setup x NoLink) refl refl;
    elsewhere = λ link x apart. refl;
  };
  sockets = λ s. record {
    at = Unopened;
    stands = record { up = λ x. refl; early = λ x. refl; offer = λ x. refl; messages = λ x. refl; opened = refl; raw = refl; offers = no-offers setup Unopened refl refl };
    suits_is = refl;
  };
  unlent = λ x none. refl;
}

module _ (setup : Setup) (one : IsOneLink setup) (payload : List ℕ) (actor : ℕ) (older : List Entry) where
  quietly : (stage : Stage) (d : Entry) → IsWorld setup stage older → IsQuiet d older → LeadsOn setup payload d older
  quietly stage d w q = record { stage = stage; world = world-same setup stage (d ∷ older) older (shows-quiet setup stage d older w.link q) w; begins = λ x. BeginsNone (ap (λ (ps : List Post). filter_map (lends x) ps) q.posts) }

  is-so : (event : Event) (reply given : Reply) (posts made : List Post) → reply ≡ given → posts ≡ made → LeadsOn setup payload (entry-of actor event given made) older → LeadsOn setup payload (entry-of actor event reply posts) older
  is-so event reply given posts made e f g =
      subst (λ (r : Reply). LeadsOn setup payload (entry-of actor event r posts) older) (sym e) (subst (λ (ps : List Post). LeadsOn setup payload (entry-of actor event given ps) older) (sym f) g)

  -- an LLC message lands
  llc-lands : (stage : Stage) (dir : Side) (c : Placed) (p : Post) (reply : Reply) (posts : List Post) → IsWorld setup stage older → head (unlanded the_link dir older) ≡ Some c → llc_of c.post ≡ Some p
      → reply ≡ Landed c.at → posts ≡ act_posts setup (other dir) older (act_of (other dir) (Some c.post) older) → c.post ≡ p → LeadsOn setup payload (entry-of actor (Deliver 1 dir) reply posts) older
  llc-lands (Asking t qp) B c p reply posts w first llc r q is =
      let at = w.link in
      let f = first-llc (unlanded the_link B older) c p (Llc B the_link (request setup actor t qp older c)) [] first llc (at.waiting B) in
      is-so (Deliver 1 B) reply (Landed c.at) posts (Llc A the_link (answer setup actor t qp older c (pair_on A 1 older)) ∷ []) r
      (q ∙ ap (λ a. act_posts setup A older a) (act-a setup actor t qp older c w.link (is ∙ f.0)))
      (record { stage = LiveAtA t (pair_on A 1 older); world = world-at-a setup actor t qp older c (pair_on A 1 older) w first (is ∙ f.0) f.1; begins = by-side (λ x. Begins setup payload x (entry-of actor (Deliver 1 B) (Landed c.at) (Llc A the_link (answer setup actor t qp older c (pair_on A 1 older)) ∷ [])) older) (BeginsNone refl) (BeginsNone refl) })
  llc-lands (LiveAtA t qp) A c p reply posts w first llc r q is =
      let at = w.link in
      let f = first-llc (unlanded the_link A older) c p (Llc A the_link (answer setup actor t qp older c qp)) [] first llc (at.waiting A) in
      is-so (Deliver 1 A) reply (Landed c.at) posts [] r
      (q ∙ ap (λ a. act_posts setup B older a) (act-b setup actor t qp older c w.link (is ∙ f.0)))
      (record { stage = LiveAtBoth t; world = world-at-b setup actor t qp older c w first (is ∙ f.0) f.1; begins = λ x. BeginsNone refl })
  llc-lands (Asking t qp) A c p reply posts w first llc r q is = let at = w.link in absurd (no-llc-first (unlanded the_link A older) c p first llc (at.waiting A))
  llc-lands (LiveAtA t qp) B c p reply posts w first llc r q is = let at = w.link in absurd (no-llc-first (unlanded the_link B older) c p first llc (at.waiting B))
  llc-lands NoLink A c p reply posts w first llc r q is = let at = w.link in absurd (no-llc-first (unlanded the_link A older) c p first llc (at.waiting A))
  llc-lands NoLink B c p reply posts w first llc r q is = let at = w.link in absurd (no-llc-first (unlanded the_link B older) c p first llc (at.waiting B))
  llc-lands (Begun t) A c p reply posts w first llc r q is = let at = w.link in absurd (no-llc-first (unlanded the_link A older) c p first llc (at.waiting A))
  llc-lands (Begun t) B c p reply posts w first llc r q is = let at = w.link in absurd (no-llc-first (unlanded the_link B older) c p first llc (at.waiting B))
  llc-lands (Made t) A c p reply posts w first llc r q is = let at = w.link in absurd (no-llc-first (unlanded the_link A older) c p first llc (at.waiting A))
  llc-lands (Made t) B c p reply posts w first llc r q is = let at = w.link in absurd (no-llc-first (unlanded the_link B older) c p first llc (at.waiting B))
  llc-lands (LiveAtBoth t) A c p reply posts w first llc r q is = let at = w.link in absurd (no-llc-first (unlanded the_link A older) c p first llc (at.waiting A))
  llc-lands (LiveAtBoth t) B c p reply posts w first llc r q is = let at = w.link in absurd (no-llc-first (unlanded the_link B older) c p first llc (at.waiting B))

  -- a post lands
  some-lands : (stage : Stage) (dir : Side) (c : Placed) (reply : Reply) (posts : List Post) → IsWorld setup stage older → head (unlanded the_link dir older) ≡ Some c
      → reply ≡ lands_told setup payload (other dir) older c c.post → posts ≡ act_posts setup (other dir) older (act_of (other dir) (Some c.post) older) → LeadsOn setup payload (entry-of actor (Deliver 1 dir) reply posts) older
  some-lands stage dir c reply posts w first r q = by_post c.post refl
    where
      told : (p : Post) → c.post ≡ p → reply ≡ lands_told setup payload (other dir) older c p
      told p e = r ∙ ap (λ x. lands_told setup payload (other dir) older c x) e

      none : llc_of c.post ≡ None → posts ≡ []
      none e = q ∙ ap (λ a. act_posts setup (other dir) older a) (acts-none c.post e (other dir) older)

      landed : llc_of c.post ≡ None → reply ≡ Landed c.at → LeadsOn setup payload (entry-of actor (Deliver 1 dir) reply posts) older
      landed e f = is-so (Deliver 1 dir) reply (Landed c.at) posts [] f (none e) (quietly stage (entry-of actor (Deliver 1 dir) (Landed c.at) []) w (quiet-landed setup stage actor older dir c w.link first e))

      by_record : (b : Bool) (token : ℕ) → llc_of c.post ≡ None → reply ≡ (if b then Landed c.at else Dropped token) → LeadsOn setup payload (entry-of actor (Deliver 1 dir) reply posts) older
      by_record true token e f = landed e f
      by_record false token e f = is-so (Deliver 1 dir) reply (Dropped token) posts [] f (none e) (quietly stage (entry-of actor (Deliver 1 dir) (Dropped token) []) w (quiet-dropped setup stage actor older dir c token w.link first e))

      by_post : (p : Post) → c.post ≡ p → LeadsOn setup payload (entry-of actor (Deliver 1 dir) reply posts) older
      by_post (WritePost from link key address len) e = landed (ap llc_of e) (told (WritePost from link key address len) e)
      by_post (Cdc from link m) e = by_record (is_some (record_of setup payload (other dir) m.token older)) m.token (ap llc_of e) (told (Cdc from link m) e)
      by_post (ClcPost from s link m) e = landed (ap llc_of e) (told (ClcPost from s link m) e)
      by_post (Llc from link m) e = llc-lands stage dir c (Llc from link m) reply posts w first (ap llc_of e) (told (Llc from link m) e) q e

  -- whatever lands
  deliver-goes : (stage : Stage) (dir : Side) (reply : Reply) (posts : List Post) → IsWorld setup stage older → reply ≡ deliver_told setup payload (other dir) older (landing 1 dir older)
      → posts ≡ act_posts setup (other dir) older (act_of (other dir) (option_map (λ c. c.post) (landing 1 dir older)) older) → LeadsOn setup payload (entry-of actor (Deliver 1 dir) reply posts) older
  deliver-goes stage dir reply posts w r q = by_made (is_made stage) refl
    where
      by_found : (o : Option Placed) → landing 1 dir older ≡ o → (o ≡ None) ⊎ (o ≡ head (unlanded the_link dir older)) → LeadsOn setup payload (entry-of actor (Deliver 1 dir) reply posts) older
      by_found None e f =
          is-so (Deliver 1 dir) reply Idle posts [] (r ∙ ap (λ x. deliver_told setup payload (other dir) older x) e)
          (q ∙ ap (λ (x : Option Placed). act_posts setup (other dir) older (act_of (other dir) (option_map (λ c. c.post) x) older)) e)
          (quietly stage (entry-of actor (Deliver 1 dir) Idle []) w (quiet-idle-landing actor older 1 dir))
      by_found (Some c) e (inl f) = cc
      by_found (Some c) e (inr f) =
          some-lands stage dir c reply posts w (sym f) (r ∙ ap (λ x. deliver_told setup payload (other dir) older x) e)
          (q ∙ ap (λ (x : Option Placed). act_posts setup (other dir) older (act_of (other dir) (option_map (λ c. c.post) x) older)) e)

      by_made : (b : Bool) → is_made stage ≡ b → LeadsOn setup payload (entry-of actor (Deliver 1 dir) reply posts) older
      by_made true e = by_found (landing 1 dir older) refl (inr (lands-made setup stage older dir w.link e))
      by_made false e = by_found (landing 1 dir older) refl (inl (lands-unmade setup stage older dir w.link e))

  -- an entry with the posts of the handshake and of the flows alone
  event-goes : (stage : Stage) (before : ℕ) (event : Event) (reply : Reply) → Fits setup (length payload) event → IsWorld setup stage older → reply ≡ reply_of before (told setup payload older event)
      → LeadsOn setup payload (entry-of actor event reply (asked setup payload older event reply)) older
  event-goes stage before (Open t) reply built w r = open-goes setup actor t older payload stage reply (asked setup payload older (Open t) reply) w r refl
  event-goes stage before (Write end at len) reply built w r = quietly stage (entry-of actor (Write end at len) reply []) w (quiet-write actor older end at len reply)
  event-goes stage before (Read end len) reply built w r = quietly stage (entry-of actor (Read end len) reply []) w (quiet-read actor older end len reply)
  event-goes stage before (Clc t dir) reply built w r = let h = w.sockets t in clc-goes setup one payload actor t older stage h.at dir reply (asked setup payload older (Clc t dir) reply) w h.stands h.suits_is r refl
  event-goes stage before (Deliver slot dir) reply built w r =
      subst (λ (k : ℕ). LeadsOn setup payload (entry-of actor (Deliver k dir) reply (asked setup payload older (Deliver k dir) reply)) older) (sym built)
      (deliver-goes stage dir reply (asked setup payload older (Deliver 1 dir) reply) w (r ∙ ap (λ k. deliver_told setup payload (other dir) older (landing k dir older)) built) refl)
  event-goes stage before (Complete slot dir) reply built w r = quietly stage (entry-of actor (Complete slot dir) reply []) w (quiet-complete actor older slot dir reply)
  event-goes stage before _ reply built w r = absurd built

-- more posts of the pipes begin nothing
begins-plus : (setup : Setup) (payload : List ℕ) (x : Side) (d : Entry) (more : List Post) (older : List Entry) → AreData more → Begins setup payload x d older → Begins setup payload x (plus d more) older
begins-plus setup payload x d more older a (BeginsNone e) = BeginsNone (unseen-lends x d.posts more a ∙ e)
begins-plus setup payload x d more older a (BeginsOne s dir o event e none free token) = BeginsOne s dir o event (unseen-lends x d.posts more a ∙ e) none free token

-- an entry that is made leads to the next world
pub goes : (setup : Setup) → IsOneLink setup → (payload : List ℕ) (stage : Stage) (before : ℕ) (e : Entry) (older : List Entry) → IsMade setup payload older before e → IsWorld setup stage older → LeadsOn setup payload e older
goes setup one payload stage before e older made w =
    let d : Entry = entry-of e.actor e.event e.reply (asked setup payload older e.event e.reply) in
    let more : List Post = connection_posts setup payload (draft setup payload older before e.event) older in
    let g = event-goes setup one payload e.actor older stage before e.event e.reply made.built w made.reply in
    let is : e.posts ≡ asked setup payload older e.event e.reply ++ more = made.posts ∙ ap (λ (r : Reply). asked setup payload older e.event r ++ more) (sym made.reply) in
    subst (λ (ps : List Post). LeadsOn setup payload (entry-of e.actor e.event e.reply ps) older) (sym is)
    (record { stage = g.stage; world = world-same setup g.stage (plus d more ∷ older) (d ∷ older) (shows-plus d more older (connections-data setup payload (draft setup payload older before e.event) older)) g.world; begins = λ x. begins-plus setup payload x d more older (connections-data setup payload (draft setup payload older before e.event) older) (g.begins x) })

-- and so does every history that is played
pub played : (setup : Setup) → IsOneLink setup → (payload : List ℕ) (past : List Entry) (n : ℕ) → IsPlayed setup payload past n → HasWorld setup past
played setup one payload [] n p = record { stage = NoLink; world = nothing-yet setup }
played setup one payload (e ∷ older) n p =
    let g = played setup one payload older p.0 p.3 in
    let h = goes setup one payload g.stage p.0 e older p.1 g.world in
    record { stage = h.stage; world = h.world }
