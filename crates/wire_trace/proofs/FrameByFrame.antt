-- A trace frame by frame: how far a reader has come, and how the frames of entries are put.
mod Counting
mod ReadPosts
mod Steps
-- what is read where no end is at the front
pub use Rattle.wire_trace.proofs.FrameByFrame.Steps.{after_frame}
-- reading goes on after what was read
pub use Rattle.wire_trace.proofs.FrameByFrame.Steps.{goes_on}
-- a frame that was read, and what is read behind it
pub use Rattle.wire_trace.proofs.FrameByFrame.Steps.{next}
-- a reader has come to this place, and what is read there is what is read in all
pub use Rattle.wire_trace.proofs.FrameByFrame.Steps.{Reading}
-- it begins behind the first five bytes
pub use Rattle.wire_trace.proofs.FrameByFrame.Steps.{begun}
-- at the end it has what the end gives
pub use Rattle.wire_trace.proofs.FrameByFrame.Steps.{ended}
-- a fault of a frame is that of the file
pub use Rattle.wire_trace.proofs.FrameByFrame.Steps.{broken}
-- behind a frame it goes on
pub use Rattle.wire_trace.proofs.FrameByFrame.Steps.{on}
-- the fault that bytes have
pub use Rattle.wire_trace.proofs.FrameByFrame.Steps.{is_fault}
-- a call that failed put a front of the next piece
pub use Rattle.wire_trace.proofs.FrameByFrame.Counting.{broke_off}
-- the frames of the next entry stand in front of those of the later ones
pub use Rattle.wire_trace.proofs.FrameByFrame.Counting.{next_frames}
-- the frame of the next post stands in front of those of the later ones
pub use Rattle.wire_trace.proofs.FrameByFrame.Counting.{next_frame}
-- the posts of the next entry are counted with those of the later ones
pub use Rattle.wire_trace.proofs.FrameByFrame.Counting.{next_count}
-- of kind 2 an LLC message is read
pub use Rattle.wire_trace.proofs.FrameByFrame.ReadPosts.{llc_read_there}
