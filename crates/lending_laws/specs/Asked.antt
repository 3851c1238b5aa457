-- The keys of an RMB that a side asks its peer to confirm: one for each link of the list; and what is owed for it.
use Rattle.std.specs.Prelude.{List, true, ◌∷◌, ◌≡◌, ◌⊎◌}
use Rattle.history_laws.specs.Words.{Entry, KeyToken, LinkId, Offer, Side, flow_of, is_asked, keys_of, table_of, token_rmb, unpending}
use Rattle.history_laws.specs.Lists.{IsAmong}
use Rattle.link_laws.specs.KeyChanges.{AsksKey, told_of}
use Rattle.link_laws.specs.Covered.{HasKey}
use Rattle.link_laws.specs.FabricChanges.{OffersFirst}

-- while the answer to CONFIRM RKEY is awaited, the RMB has a key for each link of the list
abbrev pub AreAsked : Side → List Entry → Type 0
AreAsked x past = is_asked (flow_of x past).key ≡ true → (l : LinkId) → IsAmong l (told_of x past) → HasKey (flow_of x past).rmb l (keys_of x past).keys

-- a request that goes on with an entry: the same RMB and the same list
pub record AsksOn (x : Side) (e : Entry) (past : List Entry) : Type 0 where
  pub asked : is_asked (flow_of x past).key ≡ true
  pub rmb : (flow_of x (e ∷ past)).rmb ≡ (flow_of x past).rmb
  pub list : told_of x (e ∷ past) ≡ told_of x past

-- a request that is posted with an entry: its RMB and list are what the side then asks about
pub record AsksSo (x : Side) (e : Entry) (past : List Entry) (tokens : List KeyToken) : Type 0 where
  pub rmb : token_rmb tokens ≡ (flow_of x (e ∷ past)).rmb
  pub list : told_of x (e ∷ past) ≡ unpending (table_of x (e ∷ past))

-- what the posts of key requests owe with an entry
pub record OwedByRequests (x : Side) (e : Entry) (past : List Entry) : Type 0 where
  -- an answer that is awaited was awaited before, or the request is posted with the entry
  pub asked : is_asked (flow_of x (e ∷ past)).key ≡ true → AsksOn x e past ⊎ ((tokens : List KeyToken) × AsksKey x e tokens)
  -- a request that is posted is what the side then asks about
  pub posted : (tokens : List KeyToken) → AsksKey x e tokens → AsksSo x e past tokens
  -- no RMB is asked about that is confirmed
  pub unconfirmed : is_asked (flow_of x past).key ≡ true → IsAmong (flow_of x past).rmb (keys_of x past).confirmed → ⊥
  -- and none while the side offers in first contact
  pub calm : (l : LinkId) (o : Offer) → OffersFirst x e l o → is_asked (flow_of x (e ∷ past)).key ≡ true → ⊥
