pub mod FrameByFrame
pub mod ReadAgain
pub mod WhatWasRead
