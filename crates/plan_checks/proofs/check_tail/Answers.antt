-- `plan_checks::check_tail` meets its contract: the test is the definition's.
use borrow.Author.Tests.{lt-ltb, le-ltb}
use Rattle.framing.specs.First.{◌when◌else◌}
use Rattle.plan_checks.specs.Checks.{tail_at}
use Rattle.plan_checks.proofs.check_tail.Goals as goal

pub returns-then-r : goal.returns-then-r
unfolding tail_at ◌when◌else◌
returns-then-r c = simp (lt-ltb _ _ c.if-r.true)

pub returns : goal.returns
unfolding tail_at ◌when◌else◌
returns c = simp (le-ltb _ _ c.if-r.false)
