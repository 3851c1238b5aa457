-- What the settings must be for a side to be made, and what a side knows of its own tables.
-- A reader learns here that one link and one RMB a side are built, and what holds before and after first contact.
use Rattle.std.specs.Prelude.{◌≡◌, ◌≤◌, ℕ, ◌==◌, true, false, List, [], ◌∷◌, IsSome, All, length, ◌-◌, None, ◌<◌, ◌^◌}
use Rattle.smc_num.specs.declared.Side.{Side}
use Rattle.smc_num.specs.Names.{other}
use Rattle.conn_end.specs.Kept.{Kept}
use Rattle.side_core.specs.Records.{Records, conn_at}
use Rattle.side_core.specs.Desk.{Desk, made_on}
use Rattle.smc_num.specs.Keys.{key_base, key_for_slot}
use Rattle.rkey_table.specs.Tables.{Table}
use Rattle.key_book.specs.Books.{Book}
use Rattle.element_ledger.specs.Lendings.{Rows, first_free}
use Rattle.failover.specs.Tables.{Links}
use Rattle.llc_flows.specs.Views.{Flowing}
use Rattle.pipe_model.specs.declared.setup.Setup.{Setup}
use Rattle.pipe_model.specs.Words.{rmbs_of, elements_of}
use Rattle.pipe_model.specs.Flows.{Flow, no_flow}

-- the settings of now: one slot, one RMB at each side, and all else in its range
pub record IsSet (setup : Setup) (x : Side) : Type 0 where
  pub links : setup.links ≡ 1
  pub rmbs : rmbs_of setup x ≡ 1
  pub peers : rmbs_of setup (other x) ≡ 1
  pub elements : 1 ≤ elements_of setup x
  pub few : elements_of setup x ≤ 32
  pub size : setup.size_code ≤ 5
  pub depth : setup.depth ≤ 8
  pub number : 1 ≤ setup.number
  pub most : setup.number < 2 ^ 16
  pub sockets : setup.sockets ≤ 256

-- before first contact a side has no link, no key and no flow
pub record IsQuiet (links : Links) (flow : Flow) (keys : Table) (confirmed : List ℕ) : Type 0 where
  pub links_none : links.known ≡ []
  pub flow_none : flow ≡ no_flow
  pub keys_none : keys.keys ≡ []
  pub confirmed_none : confirmed ≡ []

-- from then on its RMB has a key for the slot, and its peer knows it
pub record IsBegun (keys : Table) (confirmed : List ℕ) : Type 0 where
  pub keyed : IsSome (key_for_slot 1 1 keys.keys)
  pub told : confirmed ≡ 1 ∷ []

-- what holds of the tables of a side
pub record IsDesk (x : Side) (setup : Setup) (group : ℕ) (links : Links) (flows : Flowing) (keys : Table) (confirmed : List ℕ) (book : Book) (ledger : Rows) : Type 0 where
  pub set : IsSet setup x
  pub of_flows : flows.side ≡ x
  pub slots : links.slots ≡ 1
  pub base : keys.base ≡ key_base x
  pub places : keys.places ≡ 1
  pub book_rmbs : book.rmbs ≡ 1
  pub book_links : book.links ≡ 1
  pub rmbs : ledger.rmbs ≡ 1
  pub elements : ledger.elements ≡ elements_of setup x
  pub quiet : (group == 0) ≡ true → IsQuiet links flows.flow keys confirmed
  pub begun : (group == 0) ≡ false → IsBegun keys confirmed

-- what a side must have to lend its lowest free element to a socket
pub record CanStart (s : ℕ) (d : Desk) (r : Records Kept) : Type 0 where
  pub free : IsSome (first_free d.rows)
  pub epochs : All (λ row. row.epoch < 2 ^ 32 - 1) d.rows
  pub none : conn_at s r ≡ None
  pub socket : s < length r.by_socket
  pub few : length r.by_socket < 2 ^ 32
  pub spare : 0 < r.spare
  pub tokens : r.tokens < length r.by_socket

-- what it must have to begin a group
pub record CanBegin (d : Desk) : Type 0 where
  pub none : d.group ≡ 0
  pub begun : d.begun < 2 ^ 31
  pub serial : d.serial < 2 ^ 20
  pub made : made_on 1 d < 2 ^ 31
