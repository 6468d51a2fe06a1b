-- Document 01, "Routes and shared links": the table that the analysis keeps.
use Rattle.std.specs.Prelude.{List, map, replicate}
use Rattle.plan_values.specs.declared.Platform.{Platform}
use Rattle.plan_values.specs.declared.Flow.{Flow}
use Rattle.plan.specs.Padded.{padded}
use Rattle.mesh.specs.declared.Pair.{Pair}
use Rattle.model.specs.Links.{pair_of}

-- What stands behind the flows of a plan.
abbrev pub no_pair : Pair
no_pair = record { count = 0; first = 0 }

abbrev pub no_row : List Pair
no_row = replicate 64 no_pair

-- "The analysis keeps for every ordered pair of flows the count of shared links, with the place of the first on the first
-- flow's route": row i, cell j, for the flows i and j of the plan, i = j included.
abbrev pub pair_table : Platform → List Flow → List (List Pair)
pair_table p fs = padded no_row (map (λ i. padded no_pair (map (pair_of p i) fs)) fs)
