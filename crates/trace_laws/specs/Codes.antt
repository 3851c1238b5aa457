-- Which settings the codes of messages have room for.
-- A reader learns here all that the laws of traces ask of a setup.
use Rattle.std.specs.Prelude.{◌≤◌, ◌<◌}
use Rattle.pipe_model.specs.declared.setup.Setup.{Setup}

-- at most eight links, and a size code of four bits
pub record HasCodes (setup : Setup) : Type 0 where
  pub links : setup.links ≤ 8
  pub size : setup.size_code < 16
