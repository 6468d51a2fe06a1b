-- `engine_terms::loads::sum_loads` meets its contract.
use Rattle.engine_terms.specs.Loads.{up_load, down_load}
use lib.ListN.{get_or}
use Rattle.pairs.specs.Pairs.{no_pair}
use Rattle.engine_terms.specs.Kept.{cost_at}
use Rattle.engine_terms.proofs.Thirds.{Adding}
use Rattle.engine_terms.proofs.loads.sum_loads.Given as goal

abbrev pub invariant-loop-k : goal.invariant-loop-k
invariant-loop-k l = Adding
    (λ m. up_load (λ k. (get_or l.shared k no_pair).count) (λ k. (get_or l.places k no_pair).first) (λ k. get_or l.second.hits k 0) (cost_at l.kept) l.first (get_or l.second.direct m 0))
    (λ m. down_load (λ k. (get_or l.shared k no_pair).count) (λ k. (get_or l.places k no_pair).first) (λ k. get_or l.second.hits k 0) (cost_at l.kept) l.first l.cap (get_or l.second.direct m 0))
    l.second.figures.seen l.loads.up l.loads.down l.k-index
