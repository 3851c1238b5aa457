-- Closed histories and parts, each typed as a scene would give it: what they answer and post computes.
mod CloseAndReuse
mod DeletionIsHeld
mod DeletionIsPostedAgain
mod FaultyBytesStay
mod FirstConnection
mod GapIsFound
mod KeyIsAskedAgain
mod MoveBeforeTheConfirm
mod MoveToSecondLink
mod NextGroupBegins
mod PartExamples
mod RawClientIsAccepted
mod Written
