use Rattle.rmb_region.proofs.Bytes.{a_reader_finds_each_byte_at_its_address}
use Rattle.rmb_region.proofs.laws.a_reader_finds_each_byte_at_its_address.Goals as goal

pub returns : goal.returns
returns c = a_reader_finds_each_byte_at_its_address
