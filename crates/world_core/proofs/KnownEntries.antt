-- What is taken from links, sockets, wires and pipes, for an entry of a played history that moves ends alone.
use Rattle.std.proofs.Common.{◌≡◌, ◌∙◌, ℕ, true, false, List, [], ◌∷◌, sym, subst}
use Rattle.std.specs.Prelude.{Some}
use Rattle.smc_num.specs.declared.Side.{Side}
use Rattle.pipe_model.specs.declared.setup.Setup.{Setup}
use Rattle.pipe_model.specs.declared.entry.Entry.{Entry}
use Rattle.pipe_model.specs.declared.post.Post.{Post}
use Rattle.pipe_model.specs.Connections.{is_up, group_on, part}
use Rattle.pipe_model.specs.Lending.{Lending, lent, leaves_handshake, terms_of}
use Rattle.pipe_model.specs.Lawful.{asked}
use Rattle.world_core.specs.OneLink.{Stage, the_link}
use Rattle.world_core.specs.Sockets.{IsWorld}
use Rattle.world_core.specs.Views.{AreData}
use Rattle.world_core.specs.Played.{IsPlayed, IsMade}
use Rattle.world_core.specs.Agreement.{HasOffers, IsShaken}
use Rattle.world_core.specs.Managers.{lending_on}
use Rattle.world_core.proofs.DataPosts.{connections-data}
use Rattle.world_core.proofs.Idle.{on-link}
use Rattle.world_core.proofs.Moves.{IsQuiet}
use Rattle.world_core.proofs.Parts.{part-open, part-on}
use Rattle.world_core.proofs.UpEnds.{pipe-is-up}
use Rattle.world_core.proofs.DuePosts.{only-pipes}
use Rattle.world_core.proofs.QuietEntries.{IsCalm, bare}
use Rattle.world_core.proofs.KeyedEnds.{KnowsEnds}

-- that an element is lent to each end that is up
abbrev pub LentToUp : Setup → List ℕ → List Entry → Type 0
LentToUp setup payload past = (x : Side) (s : ℕ) → is_up x s past ≡ true → (l : Lending) × (lending_on s (lent setup payload x past) ≡ Some l)

-- the ends of a played history
pub knows-ends : (setup : Setup) (payload : List ℕ) (past : List Entry) (n : ℕ) → IsPlayed setup payload past n → IsShaken setup past → LentToUp setup payload past → KnowsEnds setup payload past
knows-ends setup payload past n p h lent_up = record {
  up = λ x s. pipe-is-up (terms_of setup) x payload (group_on s past) s past;
  link = λ x s up.
      let items = part payload (group_on s past) s past in
      let on = on-link the_link (terms_of setup) x items (part-open setup payload (group_on s past) s past n p h) (part-on setup payload (group_on s past) s past n p h) in
      on.own (pipe-is-up (terms_of setup) x payload (group_on s past) s past ∙ up);
  lent_up = lent_up;
}

-- the offers after it
pub offers-of : (setup : Setup) (past : List Entry) → IsShaken setup past → HasOffers setup past
offers-of setup [] h = h
offers-of setup (e ∷ past) h = h.0

-- an entry that asks for nothing posts what pipes post
pub data-of : (setup : Setup) (payload : List ℕ) (e : Entry) (past : List Entry) (before : ℕ) → IsMade setup payload past before e → asked setup payload past e.event e.reply ≡ [] → AreData e.posts
data-of setup payload e past before m none =
    subst (λ (ps : List Post). AreData ps) (sym (m.posts ∙ only-pipes setup payload past before e.event e.reply m.reply none))
    (connections-data setup payload (record { actor = 0; event = e.event; reply = e.reply; posts = [] }) past)

pub calm-of : (setup : Setup) (payload : List ℕ) (stage : Stage) (e : Entry) (past : List Entry) (n : ℕ) → IsPlayed setup payload (e ∷ past) n → IsShaken setup (e ∷ past) → IsWorld setup stage past
    → IsQuiet (bare e) past → asked setup payload past e.event e.reply ≡ [] → ((x : Side) (s : ℕ) → leaves_handshake x s e.event e.reply ≡ false) → IsCalm setup payload stage e past
calm-of setup payload stage e past n p h w q none stays = record {
  world = w;
  quiet = q;
  of_pipes = data-of setup payload e past p.0 p.1 none;
  stays = stays;
  open_items = λ group s. part-open setup payload group s (e ∷ past) n p h;
}
