-- How an end of a connection goes on beside the wire on which it posts, with one entry.
-- A reader learns here the five cases: nothing leaves the wire, or a post lands or completes, which is the end's own or another's.
use Rattle.std.specs.Prelude.{◌≡◌, ◌<◌, ℕ, ◌+◌, List, Some, None}
use Rattle.smc_num.specs.declared.Side.{Side}
use Rattle.smc_num.specs.declared.LinkId.{LinkId}
use Rattle.cdc_wire.specs.declared.CdcMessage.{CdcMessage}
use Rattle.pipe_model.specs.declared.entry.Entry.{Entry}
use Rattle.pipe_model.specs.Ends.{Half}
use Rattle.world_core.specs.Wired.{cdc_under, HasGone}
use Rattle.world_core.specs.WireSteps.{Stays, LandsNow, CompletesNow}

-- the cases, for an end before and after the entry, under its peer's token
pub data Going (link : LinkId) (x : Side) (token : ℕ) (e : Entry) (past : List Entry) (before now : Half) : Type 0 where
  Stayed : Stays link x e past → HasGone before now before.landed before.completed → Going link x token e past before now
  Lands_other : (l : LandsNow link x e past) → cdc_under x token l.first.post ≡ None → HasGone before now before.landed before.completed → Going link x token e past before now
  Lands_own : (l : LandsNow link x e past) (m : CdcMessage) → cdc_under x token l.first.post ≡ Some m → HasGone before now (before.landed + 1) before.completed → Going link x token e past before now
  Completes_other : (l : CompletesNow link x e past) → cdc_under x token l.first.post ≡ None → HasGone before now before.landed before.completed → Going link x token e past before now
  Completes_own : (l : CompletesNow link x e past) (m : CdcMessage) → cdc_under x token l.first.post ≡ Some m → HasGone before now before.landed (before.completed + 1) → before.completed < before.landed → Going link x token e past before now
