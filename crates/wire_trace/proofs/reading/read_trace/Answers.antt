use Rattle.std.proofs.Common.{◌≡◌, ◌∙◌, Result, Ok, Err, IfOk, sym, ap, if◌then◌else◌}
use Rattle.wire_trace.specs.declared.fault.TraceFault.TheVariants.{BadMagic}
use Rattle.wire_trace.specs.Files.{all_frames, posts_of}
use Rattle.wire_trace.proofs.WhatWasRead.{file_again, file_alone}
use Rattle.wire_trace.proofs.reading.read_trace.Goals as goal

follows : {T E : Type 0} (P Q : T → Type 0) (result : Result T E) → ((x : T) → P x → Q x) → IfOk result P → IfOk result Q
follows P Q (Ok x) f p = f x p
follows P Q (Err e) f p = tt

pub returns-clause-file : goal.returns-clause-file
returns-clause-file c =
    let begins : posts_of c.args.bytes.now ≡ all_frames c.args.bytes.now = ap (λ b. if b then all_frames c.args.bytes.now else Err BadMagic) (sym c.starts_with.ensures.value ∙ c.if-not-starts_with.false) in
    follows _ _ c.read_frames.result (λ posts e. file_again c.args.bytes.now posts.items (λ k. (c.type_inv.bytes k).fits) (begins ∙ e)) c.read_frames.ensures.ok

pub returns-clause-alone : goal.returns-clause-alone
returns-clause-alone c =
    let begins : posts_of c.args.bytes.now ≡ all_frames c.args.bytes.now = ap (λ b. if b then all_frames c.args.bytes.now else Err BadMagic) (sym c.starts_with.ensures.value ∙ c.if-not-starts_with.false) in
    follows _ _ c.read_frames.result (λ posts e. file_alone c.args.bytes.now posts.items (λ k. (c.type_inv.bytes k).fits) (begins ∙ e)) c.read_frames.ensures.ok
