use Rattle.scene_text.proofs.ReadBack.Whole.{read_back}
use Rattle.scene_text.proofs.print.scenes_are_read_back.Goals as goal

pub returns : goal.returns
returns c = read_back
