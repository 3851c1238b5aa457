-- Writes under way: what stands behind each, which element it goes to and under which key.
-- A reader learns here why each write that lands is home.
use Rattle.std.specs.Prelude.{List, Some, [], false, map, ℕ, ◌+◌, ◌++◌, ◌∷◌, ◌≡◌, ◌≤◌}
use Rattle.smc_num.specs.Keys.{rmbs_bound}
use Rattle.smc_num.specs.Places.{element_start}
use Rattle.pipe_model.specs.Home.{following_cdc}
use Rattle.pipe_model.specs.declared.post.Post.TheVariants.{Write}
use Rattle.history_laws.specs.Words.{Cdc, CdcMessage, Entry, Lending, LinkId, Placed, PostRef, Setup, Side, element_size, has_ended, keys_of, lendings, lent, unlanded}
use Rattle.history_laws.specs.Lists.{IsAmong}
use Rattle.link_laws.specs.Lasting.{is_lost}

-- a write that has not landed, on a link that its side has not lost, with what stands behind it there
pub record IsWaitingWrite (x : Side) (link : LinkId) (past : List Entry) (at : PostRef) (key address len : ℕ) (behind : List Placed) : Type 0 where
  pub kept : is_lost x link past ≡ false
  pub before : List Placed
  pub unlanded_is : unlanded link x past ≡ before ++ record { at = at; post = Write x link key address len } ∷ behind

-- its message follows it in its entry, and stands behind it on the wire
pub record HasMessage (x : Side) (link : LinkId) (past : List Entry) (at : PostRef) (behind : List Placed) : Type 0 where
  pub message : CdcMessage
  pub following : following_cdc at past ≡ Some message
  pub under_way : IsAmong (Cdc x link message) (map (λ c. c.post) behind)

-- the token of its message is that of a lending of the peer, in whose element its range lies; and the element is lent, unless the group of
-- the lending has ended at the peer
pub record GoesToLent (setup : Setup) (payload : List ℕ) (y : Side) (past : List Entry) (at : PostRef) (address len : ℕ) : Type 0 where
  pub message : CdcMessage
  pub following : following_cdc at past ≡ Some message
  pub lending : Lending
  pub begun : IsAmong lending (lendings y past)
  pub named : lending.token ≡ message.token
  pub from_start : element_start (element_size setup) lending.place ≤ address
  pub to_end : address + len ≤ element_start (element_size setup) lending.place + element_size setup
  pub lent_now : has_ended y lending.group past ≡ false → IsAmong lending (lent setup payload y past)

-- and where the link stands at the peer, the group has not ended, and the key is bound there to the RMB of the element, and to no other
pub record GoesUnderBound (setup : Setup) (payload : List ℕ) (y : Side) (link : LinkId) (past : List Entry) (at : PostRef) (key address len : ℕ) : Type 0 where
  pub goes : GoesToLent setup payload y past at address len
  pub group : has_ended y goes.lending.group past ≡ false
  pub bound_once : rmbs_bound key link (keys_of y past).keys ≡ goes.lending.place.rmb ∷ []
