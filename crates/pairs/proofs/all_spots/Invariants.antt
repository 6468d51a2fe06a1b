-- `pairs::all_spots` meets its contract.
use Rattle.pairs.specs.Spots.{no_spots, spots_in}
use Rattle.pairs.proofs.Filling.{Filling}
use Rattle.pairs.proofs.all_spots.Given as goal

abbrev pub invariant-loop-i : goal.invariant-loop-i
invariant-loop-i l = Filling no_spots (spots_in l.plan.platform) l.f-items l.spots l.i
