use Rattle.std.proofs.Common.{map, List, ℕ}
use Rattle.std.proofs.lemmas.Result.{IfErr-weaker, IfOk-weaker}
use Rattle.smcr_words.specs.Commands.{without_dashes}
use Rattle.smcr_words.specs.Reading.{listed}
use Rattle.smcr_words.proofs.Dashes.{values_are_without_dashes, without_dashes_are_values}
use Rattle.smcr_words.proofs.parser.read_wholly.Goals as goal

pub returns : goal.returns
returns c =
    let words : List (List ℕ) = map (λ w. w.now) c.args.words.now in
    record {
      ok = IfOk-weaker c.read_values.result _ _ (λ r h. values_are_without_dashes words (listed r) h) c.read_values.ensures.ok;
      err = IfErr-weaker c.read_values.result _ _ (λ e h u no some most. h u (without_dashes words) (without_dashes_are_values words no) some most) c.read_values.ensures.err;
    }
