use Rattle.std.proofs.Common.{arith}
use Rattle.smcr_calls.specs.Prints.{names_of}
use Rattle.smcr_calls.specs.Shares.{shared_socket_text}
use Rattle.smcr_calls.proofs.Listing.{next_put, next_cut}
use Rattle.smcr_calls.proofs.print.put_sockets.Goals as goal

pub returns-in_err-put_socket-clause-wrote : goal.returns-in_err-put_socket-clause-wrote
returns-in_err-put_socket-clause-wrote g c =
    next_cut (shared_socket_text (names_of c.args.names.now) c.args.shares.now) _ _ _ c.loop-s-test.true _ _ _ _ _ _ c.loop-s.invariant.going _ c.from_residual.ensures.0 c.in_err-put_socket.ensures.wrote

pub loop-s-preserved : goal.loop-s-preserved
loop-s-preserved g c =
    record {
      going = next_put (shared_socket_text (names_of c.args.names.now) c.args.shares.now) _ _ _ c.loop-s-test.true _ _ _ _ _ _ c.loop-s.invariant.going c.in_ok-put_socket.ensures.wrote;
      later = omega (arith, c.loop-s.invariant.later, c.in_ok-put_socket.ensures.cause.later);
    }
