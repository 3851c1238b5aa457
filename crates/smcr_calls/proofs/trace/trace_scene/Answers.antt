use Rattle.std.proofs.Common.{◌≡◌, ◌∙◌, ◌≤◌, ◌^◌, length, List, ap, sym, subst}
use Rattle.pipe_model.specs.declared.entry.Entry.{Entry}
use Rattle.wire_trace.specs.Traced.{AreWritable}
use Rattle.trace_laws.specs.Codes.{HasCodes}
use Rattle.trace_laws.proofs.Written.{lawful-written}
use Rattle.world_core.specs.Steps.{Seen}
use Rattle.smcr_calls.proofs.Worlds.{has_codes}
use Rattle.smcr_calls.proofs.trace.trace_scene.Goals as goal

pub put_trace-requires-clause-writable : goal.put_trace-requires-clause-writable
put_trace-requires-clause-writable g c =
    let w : Seen = c.run_lines.new.world in
    let same = c.run_lines.ensures.scene in
    let h = c.history.ensures in
    let codes : HasCodes w.setup = subst HasCodes (sym (same.setup ∙ ap (λ (v : Seen). v.setup) c.in-Ok.ensures)) (has_codes c.args.scene.setup c.args.scene.room c.requires.sound.settings) in
    let few : length w.history ≤ 2 ^ 18 = subst (λ (es : List Entry). length es ≤ 2 ^ 18) h.history h.few in
    subst AreWritable (sym h.history) (lawful-written w.setup w.payload w.history w.heard codes h.lawful few)
