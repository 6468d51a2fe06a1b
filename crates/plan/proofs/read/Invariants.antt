-- `plan::read` meets its contract: what the record loop and its field scan know.
use Prim.Native.Nat.{◌-◌}
use lib.ListN.{length}
use Rattle.plan.proofs.Turns.{Sofar, Inside}
use Rattle.plan.proofs.read.Given as goal

abbrev pub invariant-loop-field : goal.invariant-loop-field
invariant-loop-field l = Inside l.bytes l.at l.platform l.flows l.names l.count l.kind l.limits l.field-index l.offset

abbrev pub invariant-records : goal.invariant-records
invariant-records l = Sofar l.bytes l.at l.platform l.flows l.names l.count

abbrev pub decreases-records : goal.decreases-records
decreases-records l = length l.bytes - l.at
