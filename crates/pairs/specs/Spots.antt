-- What the table is worked out from: where each flow's source and destination stand.
use Rattle.std.specs.Prelude.{List, map}
use Rattle.plan_values.specs.declared.Platform.{Platform}
use Rattle.plan_values.specs.declared.Flow.{Flow}
use Rattle.plan.specs.Padded.{padded}
use Rattle.mesh.specs.declared.spots.Spots.{Spots}
use Rattle.mesh.specs.declared.Pair.{Pair}
use Rattle.mesh.specs.Shared.{shared_count, first_shared}
use Rattle.mesh.specs.Halves.{spots_of, between}
use Rattle.pairs.specs.Pairs.{no_pair}

-- Those of a plan's flow.
abbrev pub spots_in : Platform → Flow → Spots
spots_in p f = spots_of p.columns f.source f.destination

-- What stands behind the plan's.
abbrev pub no_spots : Spots
no_spots = record { source = record { row = 0; column = 0 }; destination = record { row = 0; column = 0 } }

-- What the routes between two flows' spots share; `pair_of` of `model` says the same of the flows.
abbrev pub shared_by : Spots → Spots → Pair
shared_by a b = record { count = shared_count (between a) (between b); first = first_shared (between a) (between b) }

abbrev pub row_of : List Spots → Spots → List Pair
row_of spots own = padded no_pair (map (shared_by own) spots)
