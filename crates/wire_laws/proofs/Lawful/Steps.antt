-- A made entry is a lawful step: its reply and posts are those of the definitions, writes land home, nothing is lent or bound again too early, and what it declines or resets has its reason.
use Rattle.std.proofs.Common.{List, length, ℕ, ◌∷◌}
use Rattle.pipe_model.specs.Lawful.{IsStep}
use Rattle.history_laws.specs.Made.{IsMade, IsMadeAll}
use Rattle.history_laws.specs.Words.{A, B, Entry, Setup}
use Rattle.link_laws.specs.Awaited.{AreOnKnown}
use Rattle.lending_laws.specs.Lendings.{HasElements}
use Rattle.wire_laws.specs.Heard.{AddsBytes}
use Rattle.wire_laws.proofs.Causes.{causes-shown, declined-lacking}
use Rattle.wire_laws.proofs.FreedKeys.{bound-holds}
use Rattle.wire_laws.proofs.Whole.{lent-holds}
use Rattle.wire_laws.proofs.Writes.{lands-home}

pub lawful-step : (setup : Setup) (payload : List ℕ) (past : List Entry) (before : List ℕ) (e : Entry) (heard : List ℕ) → HasElements setup → IsMadeAll setup payload past → AreOnKnown setup (e ∷ past) → IsMade setup payload past (length before) e
    → AddsBytes setup payload past e.event before heard → IsStep setup payload past before e heard
lawful-step setup payload past before e heard elements m known made a =
    let all : IsMadeAll setup payload (e ∷ past) = ((length before, made), m) in
    record {
      reply = made.reply;
      posts = made.posts;
      given = a.given;
      heard_is = a.heard_is;
      given_is = a.given_is;
      home = lands-home setup payload e past all known.1;
      lent_a = lent-holds setup payload e past A elements all known.1;
      lent_b = lent-holds setup payload e past B elements all known.1;
      bound_a = bound-holds setup payload A e past all known.1;
      bound_b = bound-holds setup payload B e past all known.1;
      lacking = declined-lacking setup payload e past all;
      shown = causes-shown setup payload (e ∷ past) all known;
    }
