use Rattle.std.proofs.Common.{◌≡◌, ◌<◌, ◌^◌, drop}
use Rattle.scene_text.specs.Words.{digits_from}
use Rattle.scene_text.proofs.words.number_of.Given as goal

abbrev pub invariant-loop-byte : goal.invariant-loop-byte
invariant-loop-byte l = record {
  rest : digits_from l.value (drop l.byte-index l.word) ≡ digits_from 0 l.word;
  small : l.value < 10 ^ l.byte-index;
}
