-- `plan_checks::refusal_of` meets its contract: the test is the definition's, and above the limit says which.
use mathlib.Core.Path.{◌∙◌}
use borrow.Author.Tests.{lt-ltb, le-ltb}
use Rattle.framing.specs.First.{◌when◌else◌}
use Rattle.plan_checks.proofs.refusal_of.Goals as goal

pub returns-then-value-lowest : goal.returns-then-value-lowest
unfolding ◌when◌else◌
returns-then-value-lowest c = simp (lt-ltb _ _ c.if-value-lowest.true)

pub returns : goal.returns
unfolding ◌when◌else◌
returns c = c.refusal_above.ensures ∙ simp (le-ltb _ _ c.if-value-lowest.false)
