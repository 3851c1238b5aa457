use Rattle.wire_trace.proofs.WhatWasRead.{file_again, small_bytes, file_told}
use Rattle.wire_trace.proofs.laws.what_is_read_is_the_file.Goals as goal

pub returns-clause-file : goal.returns-clause-file
returns-clause-file c = λ bytes posts all. file_again bytes posts (small_bytes bytes all)

pub returns-clause-traced : goal.returns-clause-traced
returns-clause-traced c = λ bytes posts all. file_told bytes posts (small_bytes bytes all)
