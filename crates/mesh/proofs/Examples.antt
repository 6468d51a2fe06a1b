-- Links of different kinds, rows and columns are different links: computed on a mesh of 4 columns, by pairs of flows that differ in one of these alone.
use Prim.Native.Nat.{ℕ, zero, suc}
use mathlib.Core.Path.{◌≡◌, refl, ap}
use mathlib.Core.List.{[], ◌∷◌}
use native.Mathlib.Omega.{arith}
use lib.ListN.{get_or}
use Rattle.mesh.specs.declared.spots.Spots.{Spots}
use Rattle.mesh.specs.Mesh.{Node, Ends, node, injection, ejection, east, west, south, north, hops, along, along_row, along_column, straight, xy, route, distance}
use Rattle.mesh.specs.Shared.{on, domain, first_from, shared_count, OneRun, Shares, AllBefore, Sides}
use Rattle.mesh.specs.Halves.{spot_of, spots_of, OnMesh, between, to_turn, from_turn}

-- How many links the flows from a to b and from c to d share.
abbrev shared : (a b c d : ℕ) → ℕ
shared a b c d = shared_count (route 4 a b) (route 4 c d)

-- The same columns in two rows, there and back: injection, east, west, ejection.
two_rows : shared 1 2 5 6 ∷ shared 2 1 6 5 ∷ [] ≡ 0 ∷ 0 ∷ []
unfolding hops along xy on domain
two_rows = refl

-- The same rows in two columns, there and back: injection, south, north, ejection.
two_columns : shared 1 5 2 6 ∷ shared 5 1 6 2 ∷ [] ≡ 0 ∷ 0 ∷ []
unfolding hops along xy on domain
two_columns = refl

-- One behind the other on one line: east, west, south, north.
one_line : shared 4 5 5 6 ∷ shared 6 5 5 4 ∷ shared 1 5 5 9 ∷ shared 9 5 5 1 ∷ [] ≡ 0 ∷ 0 ∷ 0 ∷ 0 ∷ []
unfolding hops along xy on domain
one_line = refl

-- To the four neighbours of node 5 and from them: only the injection, or only the ejection, is shared; to a neighbour and back, nothing.
kinds :
    shared 5 6 5 4 ∷ shared 5 6 5 9 ∷ shared 5 6 5 1 ∷ shared 5 4 5 9 ∷ shared 5 4 5 1 ∷ shared 5 9 5 1
    ∷ shared 6 5 4 5 ∷ shared 6 5 9 5 ∷ shared 6 5 1 5 ∷ shared 4 5 9 5 ∷ shared 4 5 1 5 ∷ shared 9 5 1 5
    ∷ shared 5 6 6 5 ∷ shared 5 9 9 5
    ∷ []
    ≡ 1 ∷ 1 ∷ 1 ∷ 1 ∷ 1 ∷ 1 ∷ 1 ∷ 1 ∷ 1 ∷ 1 ∷ 1 ∷ 1 ∷ 0 ∷ 0 ∷ []
unfolding hops along xy on domain
kinds = refl

-- "Node number = row x columns + column", and back to row and column.
node_13 :
    (node 5 2 3 ≡ 13) × (spot_of 5 13 ≡ record { row = 2; column = 3 })
    × (spots_of 5 13 4 ≡ record { source = record { row = 2; column = 3 }; destination = record { row = 0; column = 4 } })
node_13 = (refl, refl, refl)

-- The number of each link of the node in row 6 and column 7: its kind, its line and the place on that.
link_numbers : injection 6 7 ∷ east 6 7 ∷ west 6 7 ∷ south 6 7 ∷ north 6 7 ∷ ejection 6 7 ∷ [] ≡ 55 ∷ 119 ∷ 183 ∷ 254 ∷ 318 ∷ 375 ∷ []
link_numbers = refl

-- Hops along a line, both ways: those of a row have kinds 1 and 2, those of a column 3 and 4.
straight_lines :
    (straight 1 2 3 5 ≡ along_row 2 3 5) × (straight 1 2 5 3 ≡ along_row 2 5 3) × (straight 3 4 0 2 ≡ along_column 4 0 2) × (straight 3 4 2 0 ≡ along_column 4 2 0)
unfolding hops along
straight_lines = (refl, refl, refl, refl)

-- "column distance + row distance"
distances : distance 2 5 ∷ distance 5 2 ∷ distance 4 4 ∷ [] ≡ 3 ∷ 3 ∷ 0 ∷ []
distances = refl

-- A route and its halves, from row 0 and column 1 to row 3 and column 2.
halves :
    (between (spots_of 4 1 14) ≡ route 4 1 14)
    × (to_turn (spots_of 4 1 14) ≡ injection 0 1 ∷ east 0 1 ∷ [])
    × (from_turn (spots_of 4 1 14) ≡ south 0 2 ∷ south 1 2 ∷ south 2 2 ∷ ejection 3 2 ∷ [])
unfolding hops along xy
halves = (refl, refl, refl)

-- "columns (1): 1..8; rows (1): 1..8": the last row and column, and one more of each.
abbrev spots : ℕ → ℕ → ℕ → ℕ → Spots
spots row column row' column' = record { source = record { row = row; column = column }; destination = record { row = row'; column = column' } }

on_mesh : OnMesh (spots 7 7 7 7)
on_mesh = record { rows = (omega arith, omega arith); columns = (omega arith, omega arith) }

off_mesh : (OnMesh (spots 8 0 0 0) → ⊥) × (OnMesh (spots 0 8 0 0) → ⊥) × (OnMesh (spots 0 0 8 0) → ⊥) × (OnMesh (spots 0 0 0 8) → ⊥)
off_mesh = (λ w. omega (arith, w.rows.0), λ w. omega (arith, w.columns.0), λ w. omega (arith, w.rows.1), λ w. omega (arith, w.columns.1))

-- "below columns x rows": the last node of 8 rows with 8 columns, with 2 and with 1, and the next; and the first.
nodes : Node 8 63 × Node 2 15 × Node 1 7 × Node 1 0
nodes = (
  record { rows = 8; wide = (omega arith, omega arith); high = omega arith; inside = omega arith },
  record { rows = 8; wide = (omega arith, omega arith); high = omega arith; inside = omega arith },
  record { rows = 8; wide = (omega arith, omega arith); high = omega arith; inside = omega arith },
  record { rows = 8; wide = (omega arith, omega arith); high = omega arith; inside = omega arith },
)

no_nodes : (Node 8 64 → ⊥) × (Node 2 16 → ⊥) × (Node 1 8 → ⊥) × (Node 0 0 → ⊥) × (Node 9 0 → ⊥)
no_nodes = (
  λ w. omega (arith, w.high, w.inside),
  λ w. omega (arith, w.high, w.inside),
  λ w. omega (arith, w.high, w.inside),
  λ w. omega (arith, w.wide.0),
  λ w. omega (arith, w.wide.1),
)

ends : Ends 2 15 1 × Ends 2 1 15
ends = (
  record { from = nodes.1; to = record { rows = 1; wide = (omega arith, omega arith); high = omega arith; inside = omega arith } },
  record { from = record { rows = 1; wide = (omega arith, omega arith); high = omega arith; inside = omega arith }; to = nodes.1 },
)

no_ends : (Ends 2 16 1 → ⊥) × (Ends 2 1 16 → ⊥)
no_ends = (λ w. omega (arith, w.from.high, w.from.inside), λ w. omega (arith, w.to.high, w.to.inside))

-- "one unbroken run on each route, in the same order on both": links 2 and 3 of these; not in the other order, not broken.
one_run : OneRun (1 ∷ 2 ∷ 3 ∷ 4 ∷ []) (5 ∷ 6 ∷ 2 ∷ 3 ∷ [])
unfolding on domain first_from
one_run = record { before = 1 ∷ []; after = 4 ∷ []; before' = 5 ∷ 6 ∷ []; after' = []; on_first = refl; on_second = refl; same_order = refl; begins = λ h. (refl, refl) }

other_order : OneRun (1 ∷ 2 ∷ []) (2 ∷ 1 ∷ []) → ⊥
unfolding on domain
other_order w = omega (arith, ap (λ links. get_or links 0 0) w.same_order)

-- "the count of shared links, with the place of the first on the first flow's route"
shares : Shares (1 ∷ 2 ∷ 3 ∷ 4 ∷ []) (5 ∷ 6 ∷ 2 ∷ 3 ∷ 4 ∷ []) 3 1
unfolding on domain first_from
shares = record { many = refl; place = refl }

-- "its links shared with j come before those j shares with i on j's route": of links 1 and 2 of j, k shares the first and i the second.
before : AllBefore (1 ∷ 2 ∷ []) (1 ∷ []) (2 ∷ [])
unfolding on
before zero zero h h' e e' = let z : ◌≡◌ {A = ℕ} 0 1 = cc in absurd (omega arith)
before zero (suc q) h h' e e' = omega arith
before (suc zero) q h h' e e' = let z : ◌≡◌ {A = ℕ} 0 1 = cc in absurd (omega arith)
before (suc (suc p)) q h h' e e' = absurd (omega (arith, h))

not_before : (AllBefore (1 ∷ 2 ∷ []) (2 ∷ []) (1 ∷ []) → ⊥) × (AllBefore (1 ∷ []) (1 ∷ []) (1 ∷ []) → ⊥)
unfolding on
not_before = (λ w. omega (arith, w 1 0 (omega arith) (omega arith) refl refl), λ w. omega (arith, w 0 0 (omega arith) (omega arith) refl refl))

-- "otherwise they all come after", and not on one link.
on_sides : Sides (2 ∷ []) (1 ∷ 2 ∷ []) (1 ∷ [])
unfolding on first_from
on_sides = record { before = (λ h. before, λ w. omega arith); after = (λ h. absurd (omega (arith, h)), λ w. absurd (omega (arith, w 1 0 (omega arith) (omega arith) refl refl))) }

not_sides : Sides (1 ∷ []) (1 ∷ []) (1 ∷ []) → ⊥
unfolding on first_from
not_sides w = omega (arith, w.after.0 (omega arith) 0 0 (omega arith) (omega arith) refl refl)
