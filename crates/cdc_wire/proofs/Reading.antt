-- What is read of bytes that spell a message.
use Rattle.std.proofs.Common.{◌≡◌, ◌∙◌, ℕ, List, [], ◌∷◌, length, Ok, refl, ap, arith}
use Rattle.byteorder.specs.Numbers.{big_number-reads_back}
use Rattle.field_cases.specs.Fields.{zeros}
use Rattle.cdc_wire.specs.declared.CdcMessage.{CdcMessage}
use Rattle.cdc_wire.specs.Cdc.{bytes_around, cdc_bytes, cdc_read, IsMessage, IsSpelling}

-- field by field, around any reserved bytes
around_read : (m : CdcMessage) (first second last : List ℕ) → IsMessage m → length first ≡ 2 → length second ≡ 2 → cdc_read (bytes_around first second last m) ≡ Ok m
around_read m (a ∷ b ∷ []) (c ∷ d ∷ []) last w two too =
    λ i. Ok (record {
      number = big_number-reads_back 2 m.number [] w.number i;
      token = big_number-reads_back 4 m.token [] w.token i;
      told = record { wrap = big_number-reads_back 2 m.told.wrap [] w.told_wrap i; count = big_number-reads_back 4 m.told.count [] w.told_count i };
      read = record { wrap = big_number-reads_back 2 m.read.wrap [] w.read_wrap i; count = big_number-reads_back 4 m.read.count [] w.read_count i };
      producer = m.producer;
      state = m.state;
    })
around_read m [] second last w two too = absurd (omega arith)
around_read m (a ∷ []) second last w two too = absurd (omega arith)
around_read m (a ∷ b ∷ c ∷ rest) second last w two too = absurd (omega arith)
around_read m (a ∷ b ∷ []) [] last w two too = absurd (omega arith)
around_read m (a ∷ b ∷ []) (c ∷ []) last w two too = absurd (omega arith)
around_read m (a ∷ b ∷ []) (c ∷ d ∷ e ∷ rest) last w two too = absurd (omega arith)

-- a spelling is read as its message
pub read_back : (m : CdcMessage) (bytes : List ℕ) → IsMessage m → IsSpelling bytes m → cdc_read bytes ≡ Ok m
read_back m bytes w s = ap cdc_read s.are ∙ around_read m s.first s.second s.last w s.first_two s.second_two

-- what is written is a spelling
pub written_is_spelling : (m : CdcMessage) → IsSpelling (cdc_bytes m) m
written_is_spelling m = record { first = zeros 2; second = zeros 2; last = zeros 18; first_two = refl; second_two = refl; last_eighteen = refl; are = refl }
