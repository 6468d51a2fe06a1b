-- Routes and shared links of some flows, computed by the definitions.
use Rattle.std.specs.Prelude.{◌≡◌, refl, [], ◌∷◌, length}
use Rattle.mesh.specs.Mesh.{hops, along, xy, route, injection, east, west, south, north, ejection}
use Rattle.mesh.specs.Shared.{on, domain, shared_count, first_from, first_shared}

-- "Leaving out injection and ejection links: flows 0 to 1 and 0 to 5 share two links on the line."
two_shared : (shared_count (route 6 0 1) (route 6 0 5) ≡ 2) × (first_shared (route 6 0 1) (route 6 0 5) ≡ 0)
unfolding hops along xy on domain first_from
two_shared = (refl, refl)

-- "Treating a link as undirected: 1 to 2 and 2 to 1 share none."
none_shared : (shared_count (route 6 1 2) (route 6 2 1) ≡ 0) × (first_shared (route 6 1 2) (route 6 2 1) ≡ 0)
unfolding hops along xy on domain first_from
none_shared = (refl, refl)

-- "so 3 to 16": between neighbours, and across the largest mesh.
shortest : route 6 4 5 ≡ injection 0 4 ∷ east 0 4 ∷ ejection 0 5 ∷ []
unfolding hops along xy
shortest = refl

longest : length (route 8 0 63) ≡ 16
unfolding hops along xy
longest = refl

-- XY on a mesh of 4 columns: along the source's row first, there and back.
row_first : route 4 1 14 ≡ injection 0 1 ∷ east 0 1 ∷ south 0 2 ∷ south 1 2 ∷ south 2 2 ∷ ejection 3 2 ∷ []
unfolding hops along xy
row_first = refl

row_first_back : route 4 14 1 ≡ injection 3 2 ∷ west 3 2 ∷ north 3 1 ∷ north 2 1 ∷ north 1 1 ∷ ejection 0 1 ∷ []
unfolding hops along xy
row_first_back = refl

-- 0 to 10 and 0 to 7 share the way along row 0; 0 to 9 and 0 to 12 part at node 0. Under YX they would share 2 and 3.
row_shared : (shared_count (route 4 0 10) (route 4 0 7) ≡ 3) × (shared_count (route 4 0 9) (route 4 0 12) ≡ 1)
unfolding hops along xy on domain first_from
row_shared = (refl, refl)

-- On the route of P's flow 3 the links of flow 5 come before those of flow 2.
flows_of_p_lem : (first_shared (route 6 0 5) (route 6 1 4) ≡ 2) × (first_shared (route 6 0 5) (route 6 4 5) ≡ 5)
unfolding hops along xy on domain first_from
flows_of_p_lem = (refl, refl)

-- The first place is counted on the first flow's route.
each_its_own : (first_shared (route 4 0 15) (route 4 2 15) ≡ 3) × (first_shared (route 4 2 15) (route 4 0 15) ≡ 1)
unfolding hops along xy on domain first_from
each_its_own = (refl, refl)

-- What these two share is one run on both routes, over the turn.
over_the_turn : domain (route 4 0 15) (route 4 2 15) ≡ east 0 2 ∷ south 0 3 ∷ south 1 3 ∷ south 2 3 ∷ ejection 3 3 ∷ []
unfolding hops along xy on domain
over_the_turn = refl
