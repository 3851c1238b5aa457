use Rattle.std.proofs.Common.{refl, arith}
use Rattle.cdc_ring.proofs.Standing.{marks_are_postings}
use Rattle.smcr_tests.proofs.cdc_ring_tests.bytes_go_round_the_element.Goals as goal

pub acked-requires : goal.acked-requires
acked-requires g c =
    let held = c.accept-2.ensures.ring _ (c.posted.ensures _ (c.accept.ensures.ring _ c.in-Ok.ensures)) in
    let completed = c.accept-3.ensures.ring _ (c.complete.ensures _ 8 held refl (omega arith) (omega arith)) in
    record { ring = _; stands = completed; place = 8; spelled = refl; from = omega arith; to = omega arith }

pub bytes_at-requires : goal.bytes_at-requires
bytes_at-requires g c =
    let held = c.accept-2.ensures.ring _ (c.posted.ensures _ (c.accept.ensures.ring _ c.in-Ok.ensures)) in
    let completed = c.accept-3.ensures.ring _ (c.complete.ensures _ 8 held refl (omega arith) (omega arith)) in
    let read = c.accept-4.ensures.ring _ (c.acked.ensures _ 8 completed refl (omega arith) (omega arith)) in
    record { ring = _; stands = read; from = 10; spelled = refl; low = omega arith; high = omega arith }

pub posted-requires-2 : goal.posted-requires-2
posted-requires-2 g c =
    let held = c.accept-2.ensures.ring _ (c.posted.ensures _ (c.accept.ensures.ring _ c.in-Ok.ensures)) in
    let completed = c.accept-3.ensures.ring _ (c.complete.ensures _ 8 held refl (omega arith) (omega arith)) in
    let read = c.accept-4.ensures.ring _ (c.acked.ensures _ 8 completed refl (omega arith) (omega arith)) in
    omega (arith, marks_are_postings _ _ read)
