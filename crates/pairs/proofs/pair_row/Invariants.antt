-- `pairs::pair_row` meets its contract.
use Rattle.pairs.specs.Pairs.{no_pair}
use Rattle.pairs.specs.Spots.{shared_by}
use Rattle.pairs.proofs.Filling.{Filling}
use Rattle.pairs.proofs.pair_row.Given as goal

abbrev pub invariant-loop-j : goal.invariant-loop-j
invariant-loop-j l = Filling no_pair (shared_by l.own) l.spots l.row l.j
