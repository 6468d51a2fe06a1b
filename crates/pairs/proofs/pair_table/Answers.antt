-- `pairs::pair_table` meets its contract.
use mathlib.Core.Path.{ap, ◌∙◌}
use lib.ListN.{take}
use Rattle.pairs.specs.Spots.{row_of}
use Rattle.pairs.proofs.Filling.{filling_more, filling_all}
use Rattle.pairs.proofs.Standing.{table_is}
use Rattle.pairs.proofs.pair_table.Goals as goal

pub loop-i-preserved : goal.loop-i-preserved
loop-i-preserved c =
    let spots = take c.args.plan.now.count c.all_spots-all.result in
    filling_more c.loop-i.invariant c.index-spots-i.result c.loop-i-test.true (c.pair_row.ensures ∙ ap (row_of spots) c.index-spots-i.is)

pub returns : goal.returns
returns c = filling_all c.loop-i.invariant c.loop-i-test.false ∙ table_is c.requires c.all_spots-all.ensures
