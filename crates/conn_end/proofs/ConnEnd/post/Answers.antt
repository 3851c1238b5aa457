use Rattle.std.proofs.Common.{◌≡◌, ◌∙◌, Some, sym, ap, ap₂, subst}
use Rattle.conn_end.specs.Kept.{Kept, ring_of, Represents}
use Rattle.cdc_wire.specs.declared.CdcMessage.{CdcMessage}
use Rattle.cdc_ring.specs.declared.Piece.{Piece}
use Rattle.pipe_model.specs.declared.snapshot.Snapshot.{Snapshot}
use Rattle.pipe_model.specs.Snapshot.{spelled}
use Rattle.pipe_model.specs.Ends.{present}
use Rattle.conn_end.specs.declared.answers.Batch.{Batch}
use Rattle.conn_end.specs.Batches.{IsPostable, due_with, pieces_for}
use Rattle.conn_end.proofs.Ends.{Stands}
use Rattle.conn_end.proofs.Posting.{marks_few, whole_posted, posted, pieces_are}
use Rattle.conn_end.proofs.ConnEnd.post.Goals as goal

pub post_bytes-pieces-requires-clause-room : goal.post_bytes-pieces-requires-clause-room
post_bytes-pieces-requires-clause-room c =
    let x = c.self.inside in
    let k : Kept = record { size = x.size; first = x.first; token = x.token; owes = x.owes_check; ring = x.ring; accepted = x.accepted; course = x.course } in
    let may : IsPostable k c.args.present = subst (λ (v : Kept). IsPostable v c.args.present) (sym c.self.view_is) c.requires in
    marks_few x.size x.ring x.accepted x.course c.self.invariant may.room

pub invariant_of-self : goal.invariant_of-self
invariant_of-self c =
    let x = c.self.inside in
    let k : Kept = record { size = x.size; first = x.first; token = x.token; owes = x.owes_check; ring = x.ring; accepted = x.accepted; course = x.course } in
    let may : IsPostable k c.args.present = subst (λ (v : Kept). IsPostable v c.args.present) (sym c.self.view_is) c.requires in
    whole_posted x.size x.ring x.accepted x.course c.self.invariant c.post_bytes-pieces.new.ring c.post.new.self c.args.present may.room may.told
    (c.post_bytes-pieces.ensures.ring (ring_of x.size x.ring.bytes x.course) c.self.invariant.ring) c.post.ensures

pub returns-clause-end : goal.returns-clause-end
returns-clause-end c = λ h stands is.
    let x = c.self.inside in
    let k : Kept = record { size = x.size; first = x.first; token = x.token; owes = x.owes_check; ring = x.ring; accepted = x.accepted; course = x.course } in
    let may : IsPostable k c.args.present = subst (λ (v : Kept). IsPostable v c.args.present) (sym c.self.view_is) c.requires in
    let s : Stands x.size x.ring x.accepted x.course h = subst (λ (v : Kept). Represents v h) (sym c.self.view_is) stands in
    posted x.size x.ring c.post_bytes-pieces.new.ring x.accepted x.course c.post.new.self c.args.present h s may.room may.told
    (c.post_bytes-pieces.ensures.ring (ring_of x.size x.ring.bytes x.course) c.self.invariant.ring) c.post.ensures is

pub returns-clause-batch : goal.returns-clause-batch
returns-clause-batch c = λ h.
    let x = c.self.inside in
    subst (λ (v : Kept). Represents v h → c.args.present ≡ present h → ◌≡◌ {A = Batch} (record { check = c.args.check; pieces = c.post_bytes-pieces.result; message = Some c.spell.result }) (due_with v h c.args.check)) c.self.view_is
    (λ (s : Stands x.size x.ring x.accepted x.course h) is.
    ap₂ (λ (ps : Piece × Piece) (m : CdcMessage). record { check = c.args.check; pieces = ps; message = Some m })
    (c.post_bytes-pieces.ensures.pieces (ring_of x.size x.ring.bytes x.course) c.self.invariant.ring ∙ ap (λ (t : Snapshot). pieces_for x.size t (ring_of x.size x.ring.bytes x.course)) is ∙ pieces_are x.size x.ring x.accepted x.course h s)
    (c.spell.ensures ∙ ap (spelled x.size x.token) is))
