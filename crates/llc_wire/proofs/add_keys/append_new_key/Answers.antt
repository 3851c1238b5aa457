use Rattle.byteorder.specs.Endian.{big_bytes}
use Rattle.llc_wire.proofs.Fields.{append_three}
use Rattle.llc_wire.proofs.add_keys.append_new_key.Goals as goal

pub returns : goal.returns
returns c = let regrouped = append_three c.args.out.now.items (big_bytes 4 c.args.key.now.reference) (big_bytes 4 c.args.key.now.fresh) (big_bytes 8 c.args.key.now.address) in cc
