-- `engine::analyse_table` meets its contract: a line for each goal, by the lemmas of Answering.
use Prim.Native.Nat.{◌-◌}
use Rattle.engine.proofs.Answering.{Answering}
use Rattle.engine.proofs.analyse_table.Given as goal

abbrev pub invariant-loop-i : goal.invariant-loop-i
invariant-loop-i l = Answering l.plan.platform l.plan.flows l.plan.count l.table l.kept l.answers l.last

abbrev pub decreases-loop-i : goal.decreases-loop-i
decreases-loop-i l = 65536 - l.last
