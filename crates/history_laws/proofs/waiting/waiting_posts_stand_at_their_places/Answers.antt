use Rattle.history_laws.proofs.Wires.{unlanded-stand, uncompleted-stand}
use Rattle.history_laws.proofs.waiting.waiting_posts_stand_at_their_places.Goals as goal

pub returns : goal.returns
returns c = λ link x past. (unlanded-stand link x past, uncompleted-stand link x past)
