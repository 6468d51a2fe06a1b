-- `recurrence::settle` meets its contract: x climbs towards the limit.
use Prim.Native.Nat.{◌-◌}
use Rattle.recurrence.specs.Recurrence.{right_side}
use Rattle.recurrence.proofs.Climbing.{Climbing}
use Rattle.recurrence.proofs.settle.Given as goal

abbrev pub invariant-loop-c : goal.invariant-loop-c
invariant-loop-c l = Climbing (right_side l.c l.terms) l.c l.limit l.x l.rounds

abbrev pub decreases-loop-c : goal.decreases-loop-c
decreases-loop-c l = l.limit - l.x
