-- Links, groups, flows, wires and first contact together, after a history; and the key flows and tests with them.
-- A reader learns here the statements that hold after every history whose entries have the reply and the posts of the definitions.
use Rattle.std.specs.Prelude.{List, Option, ℕ}
use Rattle.history_laws.specs.Words.{Entry, Side}
use Rattle.link_laws.specs.Linked.{Under}
use Rattle.link_laws.specs.Offered.{AreOffered}
use Rattle.link_laws.specs.Contact.{AreCounted, Contact, IsBeyond}
use Rattle.link_laws.specs.UnderWay.{HasFlows}
use Rattle.link_laws.specs.KeyFlows.{HasKeyFlow}
use Rattle.link_laws.specs.TestFlows.{HasTest}

-- offers, the row of first contact, groups and "beyond", where `under` is what is under way of the link flow
pub record IsContacted (past : List Entry) (under : Option Under) : Type 0 where
  -- Clc offers
  pub offers : AreOffered past
  -- Clc takes the socket of first contact from row to row
  pub contact : Contact past under
  -- Clc begins groups
  pub counted : AreCounted past
  -- Clc offers in later contact
  pub beyond : IsBeyond past

-- links, groups, flows and wires, and first contact for the same message under way
pub record HasContact (past : List Entry) : Type 0 where
  -- links, groups, flows and the messages of the link flow
  pub flows : HasFlows past
  -- first contact, for the same message
  pub contacted : IsContacted past (HasFlows.under flows)

-- and each side's key flow, and its test of each slot
pub record HasAllFlows (past : List Entry) : Type 0 where
  -- all of the above
  pub links : HasContact past
  -- each side's key flow
  pub keys : (x : Side) → HasKeyFlow x past
  -- each side's test of each slot
  pub tests : (x : Side) (slot : ℕ) → HasTest x slot past
