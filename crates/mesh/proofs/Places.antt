-- The places of a list of hops and of a joined list, and how long a route and its halves are.
use Prim.Native.Nat.{ℕ, zero, suc, ◌+◌, ◌≤◌, ◌<◌}
use mathlib.Core.Path.{◌≡◌, refl, ap, ◌∙◌}
use mathlib.Core.List.{List, [], ◌∷◌, ◌++◌, append_assoc}
use native.Mathlib.Omega.{arith}
use lib.ListN.{length, get_or, length-append}
use lib.Seq.{get_or-append-add}
use Rattle.mesh.specs.declared.spots.Spots.{Spots}
use Rattle.mesh.specs.Mesh.{distance, ejection, hops, along, along_column, xy}
use Rattle.mesh.specs.Halves.{OnMesh, between, to_turn, from_turn}

-- The places of a list of hops, and of a joined list.
pub length_hops : (at : ℕ → ℕ) (n : ℕ) → length (hops at n) ≡ n
unfolding hops
length_hops at zero = refl
length_hops at (suc n) = ap suc (length_hops (λ k. at (suc k)) n)

pub get_d_hops : (at : ℕ → ℕ) (n k : ℕ) → k < n → get_or (hops at n) k 0 ≡ at k
unfolding hops
get_d_hops at zero k h = absurd (omega arith)
get_d_hops at (suc n) zero h = refl
get_d_hops at (suc n) (suc k) h = get_d_hops (λ k. at (suc k)) n k (omega arith)

pub get_d_back : (xs ys : List ℕ) (i k : ℕ) → i ≡ length xs + k → get_or (xs ++ ys) i 0 ≡ get_or ys k 0
get_d_back xs ys i k e = ap (λ (j : ℕ). get_or (xs ++ ys) j 0) e ∙ get_or-append-add xs ys k 0

-- The hops along a line.
pub length_along : (up down : ℕ → ℕ) (u v : ℕ) → length (along up down u v) ≡ distance u v
unfolding along
length_along up down u v = simp (length-append, length_hops)

-- A route is its two halves, one behind the other.
pub in_halves : (a : Spots) → between a ≡ to_turn a ++ from_turn a
unfolding xy
in_halves a = append_assoc (to_turn a) (along_column a.destination.column a.source.row a.destination.row) (ejection a.destination.row a.destination.column ∷ [])

pub length_to_turn : (a : Spots) → length (to_turn a) ≡ 1 + distance a.source.column a.destination.column
length_to_turn a = simp length_along (omega arith)

pub length_from_turn : (a : Spots) → length (from_turn a) ≡ distance a.source.row a.destination.row + 1
length_from_turn a = simp (length-append, length_along)

-- Each half of a route on the mesh has 1 to 8 links.
module _ {a : Spots} (on_a : OnMesh a) where
  pub short_to_turn : length (to_turn a) ≤ 8
  short_to_turn = omega (arith, length_to_turn a)

  pub short_from_turn : length (from_turn a) ≤ 8
  short_from_turn = omega (arith, length_from_turn a)

pub length_xy : (r c r' c' : ℕ) → length (xy r c r' c') ≡ distance c c' + distance r r' + 2
unfolding xy
length_xy r c r' c' = simp (length-append, length_along) (omega arith)
