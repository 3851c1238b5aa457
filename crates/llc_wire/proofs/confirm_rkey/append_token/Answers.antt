use Rattle.std.proofs.Common.{[], ◌∷◌}
use Rattle.byteorder.specs.Endian.{big_bytes}
use Rattle.llc_wire.proofs.Fields.{append_three}
use Rattle.llc_wire.proofs.confirm_rkey.append_token.Goals as goal

pub returns : goal.returns
returns c = let regrouped = append_three c.args.out.now.items (c.args.number ∷ []) (big_bytes 4 c.args.token.now.key) (big_bytes 8 c.args.token.now.address) in cc
