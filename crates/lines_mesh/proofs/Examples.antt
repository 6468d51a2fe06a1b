-- The mesh's line, computed: in each no two numbers are equal, so that every number has its place.
use Prim.Native.Nat.{ℕ}
use mathlib.Core.Path.{◌≡◌, refl}
use mathlib.Core.List.{[], ◌∷◌, map}
use Rattle.framing.specs.First.{◌when◌else◌}
use Rattle.plan_values.specs.declared.Platform.{Platform}
use Rattle.model.specs.Latency.{method_used}
use Rattle.lines_items.specs.Decimal.{digits_below, decimal}
use Rattle.lines_items.specs.Items.{item}
use Rattle.lines_mesh.specs.Mesh.{mesh_start, mesh_line}

abbrev mesh : (columns rows link routing buffer method : ℕ) → Platform
mesh columns rows link routing buffer method = record { columns = columns; rows = rows; link = link; routing = routing; buffer = buffer; method = method; priority_flits = 0 }

-- "First the mesh: columns by rows, link cycles, routing cycles, buffer flits, the method really used."
meshes :
    map mesh_line (mesh 5 3 2 4 7 1 ∷ mesh 8 6 16 12 64 0 ∷ mesh 2 4 5 0 1 3 ∷ mesh 1 7 9 8 30 2 ∷ [])
    ≡
    (109 ∷ 101 ∷ 115 ∷ 104 ∷ 32 ∷ 53 ∷ 120 ∷ 51 ∷ 32 ∷ 108 ∷ 105 ∷ 110 ∷ 107 ∷ 32 ∷ 50 ∷ 32 ∷ 114 ∷ 111 ∷ 117 ∷ 116 ∷ 101 ∷ 32 ∷ 52 ∷ 32 ∷ 98 ∷ 117 ∷ 102 ∷ 102 ∷ 101 ∷ 114 ∷ 32 ∷ 55 ∷ 32 ∷ 109 ∷ 101 ∷ 116 ∷ 104 ∷ 111 ∷ 100 ∷ 32 ∷ 49 ∷ 10 ∷ [])  -- mesh 5x3 link 2 route 4 buffer 7 method 1
    ∷ (109 ∷ 101 ∷ 115 ∷ 104 ∷ 32 ∷ 56 ∷ 120 ∷ 54 ∷ 32 ∷ 108 ∷ 105 ∷ 110 ∷ 107 ∷ 32 ∷ 49 ∷ 54 ∷ 32 ∷ 114 ∷ 111 ∷ 117 ∷ 116 ∷ 101 ∷ 32 ∷ 49 ∷ 50 ∷ 32 ∷ 98 ∷ 117 ∷ 102 ∷ 102 ∷ 101 ∷ 114 ∷ 32 ∷ 54 ∷ 52 ∷ 32 ∷ 109 ∷ 101 ∷ 116 ∷ 104 ∷ 111 ∷ 100 ∷ 32 ∷ 51 ∷ 10 ∷ [])  -- mesh 8x6 link 16 route 12 buffer 64 method 3
    ∷ (109 ∷ 101 ∷ 115 ∷ 104 ∷ 32 ∷ 50 ∷ 120 ∷ 52 ∷ 32 ∷ 108 ∷ 105 ∷ 110 ∷ 107 ∷ 32 ∷ 53 ∷ 32 ∷ 114 ∷ 111 ∷ 117 ∷ 116 ∷ 101 ∷ 32 ∷ 48 ∷ 32 ∷ 98 ∷ 117 ∷ 102 ∷ 102 ∷ 101 ∷ 114 ∷ 32 ∷ 49 ∷ 32 ∷ 109 ∷ 101 ∷ 116 ∷ 104 ∷ 111 ∷ 100 ∷ 32 ∷ 51 ∷ 10 ∷ [])  -- mesh 2x4 link 5 route 0 buffer 1 method 3
    ∷ (109 ∷ 101 ∷ 115 ∷ 104 ∷ 32 ∷ 49 ∷ 120 ∷ 55 ∷ 32 ∷ 108 ∷ 105 ∷ 110 ∷ 107 ∷ 32 ∷ 57 ∷ 32 ∷ 114 ∷ 111 ∷ 117 ∷ 116 ∷ 101 ∷ 32 ∷ 56 ∷ 32 ∷ 98 ∷ 117 ∷ 102 ∷ 102 ∷ 101 ∷ 114 ∷ 32 ∷ 51 ∷ 48 ∷ 32 ∷ 109 ∷ 101 ∷ 116 ∷ 104 ∷ 111 ∷ 100 ∷ 32 ∷ 50 ∷ 10 ∷ [])  -- mesh 1x7 link 9 route 8 buffer 30 method 2
    ∷ []
unfolding method_used ◌when◌else◌ digits_below decimal item mesh_start mesh_line
meshes = refl

-- "The program's mesh line stays as it is": it has no number for priority flits.
stays : (p : Platform) (flits : ℕ) → mesh_line (record { columns = p.columns; rows = p.rows; link = p.link; routing = p.routing; buffer = p.buffer; method = p.method; priority_flits = flits }) ≡ mesh_line p
unfolding mesh_start mesh_line method_used
stays p flits = refl
