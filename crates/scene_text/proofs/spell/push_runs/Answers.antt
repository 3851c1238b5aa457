use Rattle.std.proofs.Common.{◌∙◌, ◌++◌, ap, arith, codes}
use Rattle.scene_text.proofs.RunsOfBytes.{next_same, next_other}
use Rattle.scene_text.proofs.spell.push_runs.Goals as goal
use Rattle.scene_text.proofs.spell.push_runs.Goals.{then-byte-current, else-byte-current+in_ok-push_run+in_ok-push_text}

pub loop-byte-preserved : goal.loop-byte-preserved
loop-byte-preserved c =
    let loop = c.loop-byte in
    record {
      so_far = elim c.if-byte-current.branch [
        | then-byte-current w ↦ next_same _ _ _ loop.current _ loop.count _ loop.byte-index c.args.rest.now c.loop-byte-test.true w.if-byte-current.true (ap (λ v. v.items) w.out-is) w.current-is w.count-is loop.invariant.so_far
        | else-byte-current+in_ok-push_run+in_ok-push_text w ↦ next_other _ _ _ loop.current _ loop.count _ loop.byte-index c.args.rest.now c.loop-byte-test.true w.if-byte-current.false (ap (λ v. v.items) w.out-is ∙ w.in_ok-push_text.ensures ∙ ap (λ items. items ++ codes ",") w.in_ok-push_run.ensures) w.current-is w.count-is loop.invariant.so_far
      ];
      few = elim c.if-byte-current.branch [ then-byte-current w ↦ omega arith | else-byte-current+in_ok-push_run+in_ok-push_text w ↦ omega arith ];
    }
