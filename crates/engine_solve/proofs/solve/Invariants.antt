-- `engine_solve::solve` meets its contract.
use Rattle.engine_solve.specs.Solving.{term_at}
use Rattle.engine_solve.proofs.Holding.{Holding}
use Rattle.engine_solve.proofs.solve.Given as goal

abbrev pub invariant-loop-m : goal.invariant-loop-m
invariant-loop-m l = Holding (term_at l.way l.turn.place l.kept l.table) l.j-items l.terms l.m
