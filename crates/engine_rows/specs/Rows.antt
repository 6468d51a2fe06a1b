-- What the engine makes of one flow's row of the pair table: the list of its direct flows, with 0 behind it.
use Rattle.std.specs.Prelude.{ℕ, List, length, get_or}
use Rattle.plan_values.specs.declared.Flow.{Flow}
use Rattle.plan.specs.Legal.{flow}
use Rattle.mesh.specs.declared.Pair.{Pair}
use Rattle.pairs.specs.Pairs.{no_pair}
use Rattle.engine_rows.specs.declared.row.Row.{Row}
use Rattle.engine_rows.specs.Filled.{Blank}
use Rattle.engine_terms.specs.Loads.{direct_by}
use Rattle.engine_rows.specs.Places.{Listed}

pub record Rowed (pairs : List Pair) (flows : List Flow) (own : ℕ) (row : Row) : Type 0 where
  pub lists : Listed (λ k. direct_by own (flow flows k).priority (get_or pairs k no_pair).count) (length flows) row.direct row.many
  pub lists_end : Blank 0 row.direct row.many
