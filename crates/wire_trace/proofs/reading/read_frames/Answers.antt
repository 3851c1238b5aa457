use Rattle.std.proofs.Common.{◌≡◌, ◌∙◌, ℕ, ◌+◌, ◌-◌, ◌≤◌, Bool, List, length, take, drop, true, false, IfOk, IfErr, Ok, Err, sym, ap, subst, arith, length-drop}
use Rattle.std.proofs.lemmas.List.{take_rest}
use Rattle.pipe_model.specs.declared.post.PostRef.{PostRef}
use Rattle.pipe_model.specs.declared.post.Placed.{Placed}
use Rattle.wire_trace.specs.Files.{is_end, frame_at, end_at, all_frames, before_all, IsFault}
use Rattle.wire_trace.proofs.FrameByFrame.{Reading, begun, ended, broken, on, is_fault}
use Rattle.wire_trace.proofs.reading.read_frames.Goals as goal

pub loop-last-init : goal.loop-last-init
loop-last-init c = record { there = c.requires.begins; reading = subst (Reading c.args.bytes.now 5 before_all) (sym c.new-posts.ensures.items) (begun c.args.bytes.now) }

pub returns-in-Err-clause-err : goal.returns-in-Err-clause-err
returns-in-Err-clause-err c =
    let rest = take_rest c.args.bytes.now c.loop-last.place in
    let no_end : is_end (drop c.loop-last.place c.args.bytes.now) ≡ false = sym (ap is_end rest) ∙ sym c.is_end.ensures ∙ c.loop-last-test.true in
    let fault : frame_at c.loop-last.place c.loop-last.last (drop c.loop-last.place c.args.bytes.now) ≡ Err c.in-Err.fault = sym (ap (frame_at c.loop-last.place c.loop-last.last) rest) ∙ sym c.in-Err.ensures.frame in
    is_fault c.in-Err.fault (all_frames c.args.bytes.now)
    (broken c.args.bytes.now c.loop-last.place c.loop-last.last c.loop-last.posts.items c.loop-last.invariant.there c.in-Err.fault c.loop-last.invariant.reading no_end fault)

pub loop-last-preserved : goal.loop-last-preserved
loop-last-preserved c =
    let rest = take_rest c.args.bytes.now c.loop-last.place in
    let no_end : is_end (drop c.loop-last.place c.args.bytes.now) ≡ false = sym (ap is_end rest) ∙ sym c.is_end.ensures ∙ c.loop-last-test.true in
    let found : frame_at c.loop-last.place c.loop-last.last (drop c.loop-last.place c.args.bytes.now) ≡ Ok c.in-Ok.found = sym (ap (frame_at c.loop-last.place c.loop-last.last) rest) ∙ sym c.in-Ok.ensures.frame in
    let left = ap length rest ∙ length-drop c.loop-last.place c.args.bytes.now in
    record {
      there = omega (arith, left, c.loop-last.invariant.there, c.in-Ok.ensures.there);
      reading = subst (Reading c.args.bytes.now (c.loop-last.place + c.in-Ok.found.1) c.in-Ok.found.0.at) (sym c.in-Ok-push.ensures.posts)
          (on c.args.bytes.now c.loop-last.place c.loop-last.last c.loop-last.posts.items c.loop-last.invariant.there c.in-Ok.found c.loop-last.invariant.reading no_end found (omega (arith, c.in-Ok.ensures.some)));
    }

at_end : (bytes : List ℕ) (place : ℕ) (last : PostRef) (read : List Placed) (ends : Bool) → place ≤ length bytes → Reading bytes place last read
    → ends ≡ is_end (take (length bytes - place) (drop place bytes)) → ends ≡ true → end_at place read (take (length bytes - place) (drop place bytes)) ≡ all_frames bytes
at_end bytes place last read ends there reading is e =
    let rest = take_rest bytes place in
    ap (end_at place read) rest ∙ sym (ended bytes place last read there reading (sym (ap is_end rest) ∙ sym is ∙ e))

pub returns-clause-ok : goal.returns-clause-ok
returns-clause-ok c =
    subst (λ wanted. IfOk c.check_end.result (λ posts. wanted ≡ Ok posts.items))
    (at_end c.args.bytes.now c.loop-last.place c.loop-last.last c.loop-last.posts.items c.is_end.result c.loop-last.invariant.there c.loop-last.invariant.reading c.is_end.ensures c.loop-last-test.false)
    c.check_end.ensures.ok

pub returns-clause-err : goal.returns-clause-err
returns-clause-err c =
    subst (λ wanted. IfErr c.check_end.result (λ fault. IsFault fault wanted))
    (at_end c.args.bytes.now c.loop-last.place c.loop-last.last c.loop-last.posts.items c.is_end.result c.loop-last.invariant.there c.loop-last.invariant.reading c.is_end.ensures c.loop-last-test.false)
    c.check_end.ensures.err
