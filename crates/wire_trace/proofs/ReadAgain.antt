-- What is written is read again, and by no other posts.
mod FilesBack
mod FramesBack
mod HeadBack
mod HistoriesBack
mod Lengths
mod MessagesBack
mod OneFile
-- the numbers of a head have the widths of their fields
pub use Rattle.wire_trace.proofs.ReadAgain.HeadBack.{IsHead}
-- the file of posts is read as the posts
pub use Rattle.wire_trace.proofs.ReadAgain.FilesBack.{file_back}
-- no two lists of posts have the same file
pub use Rattle.wire_trace.proofs.ReadAgain.OneFile.{one_file}
-- the posts of a history are read of its trace
pub use Rattle.wire_trace.proofs.ReadAgain.HistoriesBack.{history_back}
-- a history that is told wholly can be written
pub use Rattle.wire_trace.proofs.ReadAgain.HistoriesBack.{history_writable}
