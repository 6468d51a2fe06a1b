-- Document 01, "Routes and shared links", over the flows of a plan.
use Rattle.std.specs.Prelude.{ℕ, List}
use Rattle.plan_values.specs.declared.Platform.{Platform}
use Rattle.plan_values.specs.declared.Flow.{Flow}
use Rattle.mesh.specs.declared.Pair.{Pair}
use Rattle.mesh.specs.Mesh.{route}
use Rattle.mesh.specs.Shared.{shared_count, first_shared}

-- "the source's injection link, then hops along the source's row .., then the destination's ejection link"
abbrev pub route_of : Platform → Flow → List ℕ
route_of p f = route p.columns f.source f.destination

-- "for every ordered pair of flows the count of shared links, with the place of the first on the first flow's route"
abbrev pub pair_of : Platform → Flow → Flow → Pair
pair_of p i j = record { count = shared_count (route_of p i) (route_of p j); first = first_shared (route_of p i) (route_of p j) }
