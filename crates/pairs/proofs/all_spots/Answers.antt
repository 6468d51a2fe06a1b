-- `pairs::all_spots` meets its contract.
use Rattle.pairs.proofs.Filling.{filling_more}
use Rattle.pairs.proofs.all_spots.Goals as goal

pub loop-i-preserved : goal.loop-i-preserved
loop-i-preserved c = filling_more c.loop-i.invariant _ c.loop-i-test.true c.of.ensures.0
