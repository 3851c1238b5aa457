-- A played history is one that the laws of all histories are about: its entries are made by the definitions, on known sockets, and each side has elements.
use Rattle.std.specs.Prelude.{ℕ, List, [], ◌∷◌, ◌≤◌, length}
use Rattle.std.proofs.Common.{sym, subst, arith}
use Rattle.smc_num.specs.declared.Side.{Side}
use Rattle.smc_num.specs.declared.Side.TheVariants.{A, B}
use Rattle.pipe_model.specs.declared.setup.Setup.{Setup}
use Rattle.pipe_model.specs.declared.entry.Entry.{Entry}
use Rattle.pipe_model.specs.Words.{rmbs_of, elements_of}
use Rattle.pipe_model.specs.Fits.{Fits}
use Rattle.history_laws.specs.Made.{IsMadeAll}
use Rattle.link_laws.specs.Awaited.{AreOnKnown}
use Rattle.lending_laws.specs.Lendings.{HasElements}
use Rattle.world_core.specs.Played.{IsOneLink, IsPlayed}

pub made-all : (setup : Setup) (payload : List ℕ) (past : List Entry) (n : ℕ) → IsPlayed setup payload past n → IsMadeAll setup payload past
made-all setup payload [] n p = tt
made-all setup payload (e ∷ older) n p = let made = p.1 in ((p.0, record { reply = made.reply; posts = made.posts }), made-all setup payload older p.0 p.3)

pub on-known : (setup : Setup) (payload : List ℕ) (past : List Entry) (n : ℕ) → IsPlayed setup payload past n → AreOnKnown setup past
on-known setup payload [] n p = tt
on-known setup payload (e ∷ older) n p = (λ s dir is_clc. (let made = p.1 in subst (λ event. Fits setup (length payload) event) is_clc made.built), on-known setup payload older p.0 p.3)

pub has-elements : (setup : Setup) → IsOneLink setup → HasElements setup
has-elements setup one = record { rmbs = rmbs; elements = elements }
  where
    rmbs : (x : Side) → 1 ≤ rmbs_of setup x
    rmbs A = subst (λ n. 1 ≤ n) (sym one.rmbs_a) (omega arith)
    rmbs B = subst (λ n. 1 ≤ n) (sym one.rmbs_b) (omega arith)

    elements : (x : Side) → 1 ≤ elements_of setup x
    elements A = one.elements_a
    elements B = one.elements_b
