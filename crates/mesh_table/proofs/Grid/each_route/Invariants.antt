-- The closure may be called again at each turn.
use Rattle.mesh_table.proofs.Grid.each_route.Given as goal

abbrev pub invariant-loop-source : goal.invariant-loop-source
invariant-loop-source g l = goal.F-IsAlwaysCallable g l.f
