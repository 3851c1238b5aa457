use Rattle.world_core.proofs.LawfulPasts.{all-claimed, all-heard, heard-long, only-heard}
use Rattle.world_core.proofs.lawful_laws.what_is_heard_are_the_bytes_of_the_answers.Goals as goal

pub returns : goal.returns
returns c = record {
  claimed = λ setup one payload past n p event. all-claimed setup one payload past n p event;
  these = λ setup payload past. all-heard setup payload past;
  only = λ setup one payload past n p heard h. only-heard setup one payload past n p heard h;
  count = λ setup payload past n p heard h. heard-long setup payload past n p heard h;
}
