-- `recurrence::settle` meets its contract: x climbs towards the limit.
use Prim.Native.Nat.{◌+◌}
use mathlib.Core.Path.{ap₂}
use native.Mathlib.Omega.{arith}
use Rattle.recurrence.proofs.Windows.{right_side_rising, given_fits}
use Rattle.recurrence.proofs.Climbing.{late_at_once, climbing_none, climbing_far, climbing_bounded, climbing_late, climbing_raised, climbing_more}
use borrow.Author.Rules.{rules}
use Rattle.recurrence.proofs.settle.Goals as goal

pub returns-then-limit-c : goal.returns-then-limit-c
returns-then-limit-c c = late_at_once (right_side_rising c.args.c c.args.terms.now) (omega arith)

pub loop-c-init : goal.loop-c-init
loop-c-init c = climbing_none (right_side_rising c.args.c c.args.terms.now) (omega arith)

pub delays-requires-clause-fits : goal.delays-requires-clause-fits
delays-requires-clause-fits c = omega (arith, given_fits c.requires c.loop-c.invariant.within)

pub overflow_add-new : goal.overflow_add-new
overflow_add-new c = record { fits = omega (arith, ap₂ ◌+◌ c.from.ensures c.delays.ensures, given_fits c.requires c.loop-c.invariant.within) }

pub overflow_add-rounds : goal.overflow_add-rounds
overflow_add-rounds c = omega (arith, climbing_far (right_side_rising c.args.c c.args.terms.now) c.loop-c.invariant, c.requires.window)

pub returns-then-new-from : goal.returns-then-new-from
returns-then-new-from c = climbing_bounded (right_side_rising c.args.c c.args.terms.now) c.loop-c.invariant (ap₂ ◌+◌ c.from.ensures c.delays.ensures) (omega arith)

pub returns-then-from-new : goal.returns-then-from-new
returns-then-from-new c = climbing_late (right_side_rising c.args.c c.args.terms.now) c.loop-c.invariant (ap₂ ◌+◌ c.from.ensures c.delays.ensures) (omega arith)

pub loop-c-smaller : goal.loop-c-smaller
loop-c-smaller c = omega (arith, climbing_raised (right_side_rising c.args.c c.args.terms.now) c.loop-c.invariant (ap₂ ◌+◌ c.from.ensures c.delays.ensures) (search rules))

pub loop-c-preserved : goal.loop-c-preserved
loop-c-preserved c = climbing_more (right_side_rising c.args.c c.args.terms.now) c.loop-c.invariant (ap₂ ◌+◌ c.from.ensures c.delays.ensures) (search rules) (omega arith)
