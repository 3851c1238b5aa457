-- Over every list of entries the links that a side knows have rising slots, so no two are of one slot.
mod Rising
-- of every history
pub use Rattle.history_laws.proofs.Tables.Rising.{no-news}
-- slots rise still as a link is put into a table and as phases change; and so they do over every list of entries
pub use Rattle.history_laws.proofs.Tables.Rising.{put-rises, map-rises, all-rise}
