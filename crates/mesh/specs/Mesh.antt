-- Nodes, links and routes of one rectangular mesh (document 01, "Routes and shared links").
use Rattle.std.specs.Prelude.{ℕ, zero, suc, ◌+◌, ◌-◌, ◌*◌, ◌/◌, ◌%◌, ◌≤◌, ◌<◌, List, [], ◌∷◌, ◌++◌}

-- "columns (1): 1..8; rows (1): 1..8 .. source (1) and destination (1): below columns x rows": `n` is a node of a mesh with so many columns.
pub record Node (columns n : ℕ) : Type 0 where
  pub rows : ℕ
  pub wide : (1 ≤ columns) × (columns ≤ 8)
  pub high : rows ≤ 8
  pub inside : n < columns * rows

-- The two ends of a flow are nodes; each may bring its own count of rows.
pub record Ends (columns source destination : ℕ) : Type 0 where
  pub from : Node columns source
  pub to : Node columns destination

-- "Node number = row x columns + column."
abbrev pub node : ℕ → ℕ → ℕ → ℕ
node columns row column = row * columns + column

-- Each link has a number below 384. There are six kinds; a line is a row or a column, and a place is the node's on that line.
abbrev pub link : ℕ → ℕ → ℕ → ℕ
link kind line place = kind * 64 + line * 8 + place

-- A node's injection and ejection link.
abbrev pub injection : ℕ → ℕ → ℕ
injection row column = link 0 row column

abbrev pub ejection : ℕ → ℕ → ℕ
ejection row column = link 5 row column

-- "The two directions between neighbours are two links." The links from a node to the next column, the column before, the next row, the row before.
abbrev pub east : ℕ → ℕ → ℕ
east row column = link 1 row column

abbrev pub west : ℕ → ℕ → ℕ
west row column = link 2 row column

abbrev pub south : ℕ → ℕ → ℕ
south row column = link 3 column row

abbrev pub north : ℕ → ℕ → ℕ
north row column = link 4 column row

-- `n` links, one after the other: `at 0`, `at 1`, ..
unfoldable pub hops : (ℕ → ℕ) → ℕ → List ℕ
hops at zero = []
hops at (suc n) = at 0 ∷ hops (λ k. at (suc k)) n

-- The hops from place `u` of a line to place `v`: `up` leaves a place for the next one, `down` for the one before.
unfoldable pub along : (ℕ → ℕ) → (ℕ → ℕ) → ℕ → ℕ → List ℕ
along up down u v = hops (λ k. up (u + k)) (v - u) ++ hops (λ k. down (u - k)) (u - v)

abbrev pub along_row : ℕ → ℕ → ℕ → List ℕ
along_row row = along (east row) (west row)

abbrev pub along_column : ℕ → ℕ → ℕ → List ℕ
along_column column = along (λ row. south row column) (λ row. north row column)

-- Both are hops along a line, by links of a kind or of the kind after it.
abbrev pub straight : ℕ → ℕ → ℕ → ℕ → List ℕ
straight kind line = along (link kind line) (link (kind + 1) line)

-- "Routing is XY (002): the source's injection link, then hops along the source's row to the destination's column, then hops along that column, then the destination's ejection link."
unfoldable pub xy : ℕ → ℕ → ℕ → ℕ → List ℕ
xy row column row' column' =
    (injection row column ∷ [])
    ++ along_row row column column'
    ++ along_column column' row row'
    ++ (ejection row' column' ∷ [])

-- The route from one node number to another.
abbrev pub route : ℕ → ℕ → ℕ → List ℕ
route columns source destination = xy (source / columns) (source % columns) (destination / columns) (destination % columns)

-- "Route length = column distance + row distance + 2": how far two columns or two rows are apart.
abbrev pub distance : ℕ → ℕ → ℕ
distance u v = (v - u) + (u - v)
