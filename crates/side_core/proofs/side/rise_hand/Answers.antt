use Rattle.std.proofs.Common.{◌≡◌, ◌∙◌, sym, ap, map}
use Rattle.std.specs.Prelude.{slice_set}
use Rattle.clc_handshake.specs.Stages.{Hand}
use Rattle.pipe_model.specs.Connections.{NoEnd, WaitsLink, IsUp}
use Rattle.side_core.specs.Manager.{hand_in, hand_of}
use Rattle.side_core.proofs.Sockets.{hands_set, hand_found}
use Rattle.side_core.proofs.side.rise_hand.Goals as goal

pub returns : goal.returns
returns c =
    let hands = c.args.hands.now.items in
    let h : Hand = c.in-Some.hand in
    let e : hand_in c.args.s hands ≡ h = hand_found hands c.args.s h (let is = c.index_mut.ensures.value in cc) (λ none. let no : NoEnd ≡ WaitsLink = sym (ap (λ (x : Hand). x.state) none) ∙ c.requires in cc) in
    hands_set hands c.args.s c.rise.new.self
    ∙ ap (λ (x : Hand). slice_set (map hand_of hands) c.args.s x) (c.rise.ensures ∙ ap (λ (x : Hand). let y : Hand = record { raw = x.raw; state = IsUp } in y) (sym e))
