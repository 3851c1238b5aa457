-- What an entry does to standing links, incarnations and groups, and what is owed for that.
use Rattle.std.specs.Prelude.{Bool, List, true, ℕ, ◌+◌, ◌<◌, ◌≡◌, ◌≤◌, ◌⊎◌}
use Rattle.pipe_model.specs.declared.flow.FlowStep.TheVariants.{Live}
use Rattle.history_laws.specs.Words.{A, Entry, Fabric, LinkId, Offer, Side, fabric, made_on, peer, stands, table_of}
use Rattle.history_laws.specs.Tables.{Rises}
use Rattle.link_laws.specs.Learnt.{BeginsFirst}
use Rattle.link_laws.specs.FabricChanges.{OffersFirst, Takes}

-- what is so of the fabric after an entry, beside that before it: a link that stands newly has an incarnation above those made on its slot,
-- those never fall, and a group stays, ends or is begun
pub record Moves (e : Entry) (f g : Fabric) : Type 0 where
  -- Clc and Deliver make links
  pub fresh : (z : Side) (l : LinkId) → stands l (peer z g).table ≡ true → (stands l (peer z f).table ≡ true) ⊎ (made_on l.slot f < l.incarnation)
  -- Clc and Deliver: a slot is made anew with the next incarnation
  pub made : (j : ℕ) → made_on j f ≤ made_on j g
  -- Clc begins a group; Report and Deliver end one
  pub groups : (z : Side) → ((peer z g).group ≡ (peer z f).group) ⊎ (((peer z g).group ≡ 0) ⊎ BeginsFirst z e)

-- what is owed with an entry
pub record OwedByMoves (e : Entry) (past : List Entry) : Type 0 where
  -- slots rise
  pub rises : (x : Side) → Rises 1 (table_of x past)
  -- a link that goes live stood at its side
  pub lives : (x : Side) (reply first : Bool) (t : Takes x e past (Live reply first)) → stands t.act.link (table_of x past) ≡ true
  -- the first link of a group has the next incarnation of its slot
  pub next : (link : LinkId) (o : Offer) → OffersFirst A e link o → link.incarnation ≡ made_on link.slot (fabric past) + 1
