-- `pairs::pair_table` meets its contract.
use Rattle.pairs.specs.Pairs.{no_row}
use Rattle.pairs.specs.Spots.{row_of}
use Rattle.pairs.proofs.Filling.{Filling}
use Rattle.pairs.proofs.pair_table.Given as goal

abbrev pub invariant-loop-i : goal.invariant-loop-i
invariant-loop-i l = Filling no_row (row_of l.spots) l.spots l.table l.i
