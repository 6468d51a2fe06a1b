-- `pairs::pair_row` meets its contract.
use mathlib.Core.Path.{ap, ◌∙◌}
use Rattle.pairs.specs.Spots.{shared_by}
use Rattle.pairs.proofs.Filling.{filling_more}
use Rattle.pairs.proofs.Standing.{shared_is}
use Rattle.pairs.proofs.pair_row.Goals as goal

pub loop-j-preserved : goal.loop-j-preserved
loop-j-preserved c = filling_more c.loop-j.invariant c.index-spots-j.result c.loop-j-test.true (shared_is _ _ c.shared_links.ensures ∙ ap (shared_by _) c.index-spots-j.is)
