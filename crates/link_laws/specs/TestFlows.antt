-- What is under way of a side's test of the link of a slot: TEST LINK or its answer, on the link of that slot, while the test is outstanding.
use Rattle.std.specs.Prelude.{Bool, List, Option, Some, false, true, ℕ, ◌&&◌, ◌==◌, ◌≡◌}
use Rattle.history_laws.specs.Words.{Entry, Flow, LlcMessage, Side, TestLink, flow_of, has, same_side}
use Rattle.link_laws.specs.KeyFlows.{sender_in}
use Rattle.link_laws.specs.Linked.{Under}
use Rattle.link_laws.specs.UnderWay.{AreCarriedOf}

-- whether a message of that sender is of a test by a side
abbrev pub is_test_of : Side → Side → LlcMessage → Bool
is_test_of x from (TestLink reply bytes) = same_side from (sender_in reply x)
is_test_of x from m = false

-- the messages of a side's test of a slot
abbrev pub test_kind : Side → ℕ → Under → Bool
test_kind x k w = is_test_of x w.from w.message && (w.link.slot == k)

-- such a message is on the link of that slot, and the test is outstanding
abbrev pub test_fits : ℕ → ℕ → Flow → Bool
test_fits k slot f = (slot == k) && has k f.tests

-- on links that are not dead nothing of a side's test of a slot is under way but one message, and the test is outstanding
pub record HasTest (x : Side) (k : ℕ) (past : List Entry) : Type 0 where
  -- what is under way of it
  pub under : Option Under
  -- Test posts one, Deliver answers it
  pub carried : AreCarriedOf (test_kind x k) past under
  -- Report drops the tests of the lost link; Deliver of the answer ends the test
  pub fits : (w : Under) → under ≡ Some w → test_fits k w.link.slot (flow_of x past) ≡ true
