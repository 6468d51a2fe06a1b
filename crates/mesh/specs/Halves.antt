-- A route by the rows and columns of its ends, and in two halves: up to its turn and from there on.
use Rattle.std.specs.Prelude.{ℕ, ◌/◌, ◌%◌, ◌<◌, List, [], ◌∷◌, ◌++◌}
use Rattle.mesh.specs.declared.spots.Spot.{Spot}
use Rattle.mesh.specs.Mesh.{injection, ejection, along_row, along_column, xy}

-- Where a flow's source and destination stand.
pub record Standing : Type 0 where
  pub source : Spot
  pub destination : Spot

-- "Node number = row x columns + column": where a node stands.
abbrev pub spot_of : ℕ → ℕ → Spot
spot_of columns n = record { row = n / columns; column = n % columns }

abbrev pub spots_of : ℕ → ℕ → ℕ → Standing
spots_of columns source destination = record { source = spot_of columns source; destination = spot_of columns destination }

-- "columns (1): 1..8; rows (1): 1..8": counted from 0.
pub record OnMesh (a : Standing) : Type 0 where
  pub rows : (a.source.row < 8) × (a.destination.row < 8)
  pub columns : (a.source.column < 8) × (a.destination.column < 8)

-- The route from one spot to the other.
abbrev pub between : Standing → List ℕ
between a = xy a.source.row a.source.column a.destination.row a.destination.column

-- ".. the source's injection link, then hops along the source's row to the destination's column .."
abbrev pub to_turn : Standing → List ℕ
to_turn a = (injection a.source.row a.source.column ∷ []) ++ along_row a.source.row a.source.column a.destination.column

-- ".. then hops along that column, then the destination's ejection link."
abbrev pub from_turn : Standing → List ℕ
from_turn a = along_column a.destination.column a.source.row a.destination.row ++ (ejection a.destination.row a.destination.column ∷ [])
