-- What was read: the bytes are its file, and it can be written.
mod FilesAgain
mod FilesTold
mod Fitting
mod HeadsAgain
mod MessagesTold
mod PostsTold
mod Spelled
-- an LLC message that was read fits
pub use Rattle.wire_trace.proofs.WhatWasRead.Fitting.{llc_fits}
-- a CLC message that was read fits
pub use Rattle.wire_trace.proofs.WhatWasRead.Fitting.{clc_fits}
-- bytes of which posts were read are the file of the posts
pub use Rattle.wire_trace.proofs.WhatWasRead.FilesAgain.{file_again}
-- the same from what holds of each byte
pub use Rattle.wire_trace.proofs.WhatWasRead.FilesAgain.{small_bytes}
-- the posts of a file are such as have a file that is read as them
pub use Rattle.wire_trace.proofs.WhatWasRead.FilesTold.{file_told}
-- no other list has the file that was read
pub use Rattle.wire_trace.proofs.WhatWasRead.FilesTold.{file_alone}
