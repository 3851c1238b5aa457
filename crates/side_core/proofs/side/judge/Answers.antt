use Rattle.std.proofs.Common.{◌≡◌, ◌∙◌, sym, ap, map, true≢false}
use Rattle.std.specs.Prelude.{slice_set}
use Rattle.clc_handshake.specs.Stages.{Hand, after_step}
use Rattle.pipe_model.specs.Handshake.{verdict}
use Rattle.pipe_model.specs.Replies.{expects}
use Rattle.side_core.specs.Manager.{hand_in, hand_of}
use Rattle.side_core.proofs.Sockets.{hands_set, hand_found}
use Rattle.side_core.proofs.side.judge.Goals as goal

pub returns-clause-step : goal.returns-clause-step
returns-clause-step c =
    let hands = c.args.hands.now.items in
    let h : Hand = c.in-Some.hand in
    let e : hand_in c.args.s hands ≡ h = hand_found hands c.args.s h (let is = c.index_mut.ensures.value in cc) (λ none. true≢false (sym c.requires ∙ ap (λ (x : Hand). expects x.state) none)) in
    c.on.ensures.step ∙ ap (λ (x : Hand). verdict x.raw x.state c.args.message.now c.args.lacks.now) (sym e)

pub returns-clause-hands : goal.returns-clause-hands
returns-clause-hands c =
    let hands = c.args.hands.now.items in
    let h : Hand = c.in-Some.hand in
    let e : hand_in c.args.s hands ≡ h = hand_found hands c.args.s h (let is = c.index_mut.ensures.value in cc) (λ none. true≢false (sym c.requires ∙ ap (λ (x : Hand). expects x.state) none)) in
    hands_set hands c.args.s c.on.new.self
    ∙ ap (λ (x : Hand). slice_set (map hand_of hands) c.args.s x) (c.on.ensures.state ∙ ap (λ (x : Hand). let y : Hand = record { raw = x.raw; state = after_step c.on.result c.args.message.now x.state } in y) (sym e))
