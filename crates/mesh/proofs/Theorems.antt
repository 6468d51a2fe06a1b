-- What document 01 says of nodes, links, routes and shared links, for every mesh of 1 to 8 columns and 1 to 8 rows.
use Prim.Native.Nat.{ℕ, ◌+◌, ◌*◌, ◌/◌, ◌%◌, ◌≤◌, ◌<◌}
use mathlib.Core.Path.{◌≡◌, refl, sym, ap, ap₂, ◌∙◌}
use mathlib.Core.Bool.{Bool, true, false, cond, ◌&&◌, ◌||◌, and-false}
use mathlib.Core.List.{List, [], ◌∷◌}
use native.Mathlib.Nat.{add-zero, lt_of_lt_of_le, mul-le-mul_left, mod-lt, div-lt_iff_lt-mul, div-add-mod', div-eq_of_lt, mod-eq_of_lt, mul-add-div_right, mul-add-mod_self_right}
use native.Mathlib.Omega.{arith}
use native.Mathlib.Decide.{dec_lt}
use borrow.Author.Tests.{eqb-true}
use lib.Dec.{eqb}
use lib.ListN.{length, get_or}
use Rattle.mesh.specs.Mesh.{node, Node, Ends, link, east, west, south, north, distance, route}
use Rattle.mesh.specs.Shared.{on, domain, OneRun, shared_count, first_shared, Shares, Sides}
use Rattle.mesh.specs.Halves.{spots_of, OnMesh}
use Rattle.mesh.proofs.Places.{length_xy}
use Rattle.mesh.proofs.Spans.{Span, Run}
use Rattle.mesh.proofs.Walks.{routes_run, routes_below}
use Rattle.mesh.proofs.Counts.{run_once, run_first, run_one, run_count, run_counted}
use Rattle.mesh.proofs.Sides.{run_sides}

-- "Node number = row x columns + column": each number has one row and one column, and they give it again.
pub node_number : (columns n : ℕ) → node columns (n / columns) (n % columns) ≡ n
node_number columns n = div-add-mod' n columns

pub node_row : (columns row column : ℕ) → column < columns → node columns row column / columns ≡ row
node_row columns row column h = mul-add-div_right (omega arith) row column ∙ ap (λ (q : ℕ). row + q) (div-eq_of_lt h) ∙ add-zero row

pub node_column : (columns row column : ℕ) → column < columns → node columns row column % columns ≡ column
node_column columns row column h = mul-add-mod_self_right row columns column ∙ mod-eq_of_lt h

pub nodes_differ : (columns row column row' column' : ℕ) → column < columns → column' < columns
    → node columns row column ≡ node columns row' column' → (row ≡ row') × (column ≡ column')
nodes_differ columns row column row' column' h h' e = (
  sym (node_row columns row column h) ∙ ap (λ (n : ℕ). n / columns) e ∙ node_row columns row' column' h',
  sym (node_column columns row column h) ∙ ap (λ (n : ℕ). n % columns) e ∙ node_column columns row' column' h',
)

-- "columns (1): 1..8; rows (1): 1..8": the row and the column of a node are below 8.
node_small : {columns n : ℕ} → Node columns n → (n / columns < 8) × (n % columns < 8)
node_small {columns} {n} h =
    let below : n < columns * 8 = lt_of_lt_of_le h.inside (mul-le-mul_left columns h.high) in
    ((div-lt_iff_lt-mul h.wide.0).1 (omega arith), omega (arith, h.wide, mod-lt n h.wide.0))

pub ends_on_mesh : {columns s d : ℕ} → Ends columns s d → OnMesh (spots_of columns s d)
ends_on_mesh e =
    let a = node_small e.from in
    let b = node_small e.to in
    record { rows = omega arith; columns = omega arith }

-- Links are numbered one to one: equal numbers are of one kind, one line and one place.
pub links_differ : (kind line place kind' line' place' : ℕ) → (line < 8) × (place < 8) × (line' < 8) × (place' < 8)
    → link kind line place ≡ link kind' line' place' → (kind ≡ kind') × (line ≡ line') × (place ≡ place')
links_differ kind line place kind' line' place' small e = omega arith

-- "The two directions between neighbours are two links."
pub two_directions : (row column : ℕ)
    → (east row column ≡ west row (column + 1) → ⊥) × (south row column ≡ north (row + 1) column → ⊥)
two_directions row column = (λ e. omega arith, λ e. omega arith)

-- "Route length = column distance + row distance + 2, so 3 to 16."
pub route_length : (columns s d : ℕ) → length (route columns s d) ≡ distance (s % columns) (d % columns) + distance (s / columns) (d / columns) + 2
route_length columns s d = length_xy (s / columns) (s % columns) (d / columns) (d % columns)

pub route_most : {columns s d : ℕ} → Ends columns s d → length (route columns s d) ≤ 16
route_most {columns} {s} {d} e = omega (arith, route_length columns s d, ends_on_mesh e)

pub route_least : (columns s d : ℕ) → (s ≡ d → ⊥) → 3 ≤ length (route columns s d)
route_least columns s d moves = go (dec_lt (length (route columns s d)) 3)
  where
    go : Dec (length (route columns s d) < 3) → 3 ≤ length (route columns s d)
    go (yes l) =
        let r = route_length columns s d in
        let c : s % columns ≡ d % columns = omega arith in
        let w : s / columns ≡ d / columns = omega arith in
        absurd (moves (sym (node_number columns s) ∙ ap₂ (node columns) w c ∙ node_number columns d))
    go (no n) = omega arith

-- Each link on a route has a number below 384.
pub link_below : {columns s d : ℕ} → Ends columns s d → (p : ℕ) → p < length (route columns s d) → get_or (route columns s d) p 0 < 384
link_below e p h = (routes_below _ _ (ends_on_mesh e) (ends_on_mesh e) p h).1

-- "The contention domain of two flows is the set of links on both routes."
pub domain_both : (a b : List ℕ) (z : ℕ) → on (domain a b) z ≡ (on a z && on b z)
unfolding on domain
domain_both [] b z = refl
domain_both (x ∷ a) b z = go (on b x) refl (eqb z x) refl (domain_both a b z)
  where
    go : (t : Bool) → on b x ≡ t → (u : Bool) → eqb z x ≡ u → on (domain a b) z ≡ (on a z && on b z)
        → on (cond t (x ∷ domain a b) (domain a b)) z ≡ ((u || on a z) && on b z)
    go true e true f more = rw f (sym (ap (on b) (eqb-true z x f) ∙ e))
    go true e false f more = rw f more
    go false e true f more = more ∙ ap (λ (t : Bool). on a z && t) (ap (on b) (eqb-true z x f) ∙ e) ∙ and-false (on a z) ∙ sym (ap (on b) (eqb-true z x f) ∙ e)
    go false e false f more = more

-- Two flows of one mesh, the first from `s` to `d` and the second from `s'` to `d'`.
module _ {columns s d s' d' : ℕ} (e : Ends columns s d) (e' : Ends columns s' d') where
  the_run : (x : Span) × Run (route columns s d) (route columns s' d') x
  the_run = (_, routes_run _ _ (ends_on_mesh e) (ends_on_mesh e'))

  -- "It is empty or one unbroken run on each route, in the same order on both. This is to be shown."
  pub one_run : OneRun (route columns s d) (route columns s' d')
  one_run = run_one the_run.1

  -- Each flow shares as many links with the other as the other with it.
  pub count_symmetric : shared_count (route columns s d) (route columns s' d') ≡ shared_count (route columns s' d') (route columns s d)
  count_symmetric = ap length (sym one_run.same_order)

  -- The first place stands on the first flow's route, and its link is shared; "the place is 0 where none is shared".
  pub first_place : 0 < shared_count (route columns s d) (route columns s' d')
      → (first_shared (route columns s d) (route columns s' d') < length (route columns s d))
      × (on (route columns s' d') (get_or (route columns s d) (first_shared (route columns s d) (route columns s' d')) 0) ≡ true)
  first_place h = let f = run_first the_run.1 h in (f.1, f.2)

  pub first_none : shared_count (route columns s d) (route columns s' d') ≡ 0 → first_shared (route columns s d) (route columns s' d') ≡ 0
  first_none h = (run_counted the_run.1).none (omega (arith, run_count the_run.1))

-- No link stands twice on a route.
pub link_once : {columns s d : ℕ} → Ends columns s d → (p q : ℕ) → p < length (route columns s d) → q < length (route columns s d)
    → get_or (route columns s d) p 0 ≡ get_or (route columns s d) q 0 → p ≡ q
link_once e = run_once (the_run e e).1

-- For j direct for i, and k direct for j and not for i: "its links shared with j come before those j shares with i on j's route; otherwise they all come after".
pub sides : {columns s d s' d' s'' d'' : ℕ} → Ends columns s d → Ends columns s' d' → Ends columns s'' d''
    → 0 < shared_count (route columns s d) (route columns s' d')
    → 0 < shared_count (route columns s' d') (route columns s'' d'')
    → shared_count (route columns s d) (route columns s'' d'') ≡ 0
    → Sides (route columns s d) (route columns s' d') (route columns s'' d'')
sides i j k with_i with_k none =
    run_sides (the_run j k).1 (the_run j i).1 (the_run i k).1 with_k (omega (arith, count_symmetric i j)) none

-- Two results that a promise allows for one input coincide.
pub shares_alike : {a b : List ℕ} {count count' place place' : ℕ} → Shares a b count place → Shares a b count' place' → (count ≡ count') × (place ≡ place')
shares_alike r r' = (r.many ∙ sym r'.many, r.place ∙ sym r'.place)
