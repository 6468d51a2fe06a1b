-- `engine_terms::loads::sum_loads` meets its contract.
use Rattle.engine_terms.proofs.Thirds.{adding_none, adding_room, adding_more, read_along}
use Rattle.engine_terms.proofs.loads.sum_loads.Goals as goal

pub loop-k-init : goal.loop-k-init
loop-k-init c = adding_none _ _ _ c.requires.below_64.0 c.requires.sums.0 c.requires.sums.1

pub with_third-loads-requires : goal.with_third-loads-requires
with_third-loads-requires c =
    let k = read_along _ c.thirds-k-items.ensures.named c.thirds-k-items.ensures.many c.loop-k-test.true c.from.ensures in
    rw (c.third_between-third.ensures, k.1) (adding_room c.loop-k.invariant k.0)

pub loop-k-preserved : goal.loop-k-preserved
loop-k-preserved c =
    let k = read_along _ c.thirds-k-items.ensures.named c.thirds-k-items.ensures.many c.loop-k-test.true c.from.ensures in
    let e = rw (c.third_between-third.ensures, k.1) at c.with_third-loads.ensures in
    adding_more c.loop-k.invariant k.0 e.0 e.1
