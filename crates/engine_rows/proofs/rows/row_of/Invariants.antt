-- `engine_rows::rows::row_of` meets its contract: the direct flows are named.
use lib.ListN.{length, get_or}
use Rattle.plan.specs.Legal.{flow}
use Rattle.pairs.specs.Pairs.{no_pair}
use Rattle.engine_terms.specs.Loads.{direct_by}
use Rattle.engine_rows.proofs.Places.{Naming}
use Rattle.engine_rows.proofs.rows.row_of.Given as goal

abbrev pub invariant-loop-k : goal.invariant-loop-k
invariant-loop-k l = Naming (λ m. direct_by l.own (flow l.flows m).priority (get_or l.pairs m no_pair).count) (length l.flows) l.direct l.many l.k
