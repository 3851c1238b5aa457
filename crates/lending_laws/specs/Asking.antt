-- The requests of a side to confirm keys: what they tell is bound, of the RMB that is asked about, which is not confirmed.
use Rattle.std.specs.Prelude.{List, [], false, take, true, ℕ, ◌∷◌, ◌≡◌}
use Rattle.history_laws.specs.Words.{ConfirmRkey, Entry, KeyToken, LinkId, LlcMessage, Side, flow_of, is_asked, is_dead, keys_of, rmb_at}
use Rattle.history_laws.specs.Lists.{IsAmong}
use Rattle.link_laws.specs.OnWires.{IsWaiting}
use Rattle.link_laws.specs.StepSays.{is_ask_request}
use Rattle.lending_laws.specs.Asked.{AreAsked}
use Rattle.lending_laws.specs.Tokens.{TellsBound}

-- the tokens of a message are all of one RMB
abbrev pub TellsOf : ℕ → LlcMessage → Type 0
TellsOf rmb (ConfirmRkey reply retry negative others []) = Unit {0}
TellsOf rmb (ConfirmRkey reply retry negative others (t ∷ ts)) = (rmb_at t.address ≡ rmb) × ((u : KeyToken) → IsAmong u (take others ts) → rmb_at u.address ≡ rmb)
TellsOf rmb m = Unit {0}

-- no RMB is asked about that is confirmed; it has a key for each link of the list; and a request on a link that is not dead tells bound
-- keys of it
pub record AreAsking (x : Side) (past : List Entry) : Type 0 where
  -- Clc begins a request, Deliver ends it
  pub unconfirmed : is_asked (flow_of x past).key ≡ true → IsAmong (flow_of x past).rmb (keys_of x past).confirmed → ⊥
  -- Deliver: a new link of the list has a key
  pub listed : AreAsked x past
  -- Clc posts a request, Report and Deliver post it again
  pub way : (l : LinkId) (m : LlcMessage) → is_dead l past ≡ false → IsWaiting l x m past → is_ask_request m ≡ true → TellsBound l.slot m (keys_of x past).keys × TellsOf (flow_of x past).rmb m
