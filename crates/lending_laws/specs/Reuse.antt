-- What a link carries of the connection of a lending that has ended: messages without bytes.
use Rattle.std.specs.Prelude.{List, Some, false, map, ℕ, ◌≡◌}
use Rattle.pipe_model.specs.declared.sent.Sent.{Sent}
use Rattle.pipe_model.specs.Parts.{CarriesNone}
use Rattle.history_laws.specs.Words.{EachOf, Entry, Lending, LinkId, Offered, Setup, Side, element_size, group_on, half, offered, other, pipe_of, unlanded}
use Rattle.history_laws.specs.Wires.{IsCarried, cdcs, here, message}
use Rattle.link_laws.specs.Lasting.{is_lost}

-- the field `carried` of `Agrees`: each link that its side has not lost carries of each end what is under way there
abbrev pub AreCarriedOn : Setup → List ℕ → List Entry → Type 0
AreCarriedOn setup payload past = (x : Side) (s : ℕ) (o : Offered) → offered (other x) s past ≡ Some o → (link : LinkId) → is_lost x link past ≡ false
    → IsCarried (element_size setup) link x o.offer.token past (here link (half x (pipe_of setup payload (group_on s past) s past)))

-- that what a link carries of a side under the token of a lending of its peer are messages without bytes
pub record CarriesNoBytes (size : ℕ) (link : LinkId) (x : Side) (l : Lending) (past : List Entry) : Type 0 where
  -- what the end had sent when it was over
  pub messages : List Sent
  -- Deliver takes the first away
  pub on_wire : cdcs x l.token (unlanded link x past) ≡ map (message size l.token) messages
  -- Close, Abort and Move: behind a last snapshot come last ones alone
  pub none : EachOf CarriesNone messages
