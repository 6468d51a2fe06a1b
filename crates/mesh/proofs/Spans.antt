-- A run of shared links by its places, and the run that two routes share, from the rows and columns of their ends.
use Prim.Native.Nat.{ℕ, zero, suc, ◌+◌, ◌-◌, ◌*◌, ◌≤◌, ◌<◌, min, max}
use mathlib.Core.Path.{◌≡◌}
use mathlib.Core.List.{List}
use lib.ListN.{length, get_or}
use Rattle.mesh.specs.declared.spots.Spot.{Spot}
use Rattle.mesh.specs.declared.spots.Spots.{Spots}
use Rattle.mesh.specs.Mesh.{distance}

-- How many links, and the place of the first on each of the two routes.
pub record Span : Type 0 where
  pub count : ℕ
  pub first : ℕ
  pub first' : ℕ

-- The links at these places are on both routes, place for place, and no other link is.
pub record Run (a b : List ℕ) (x : Span) : Type 0 where
  pub each : (k : ℕ) → k < x.count
      → (x.first + k < length a) × (x.first' + k < length b) × (get_or a (x.first + k) 0 ≡ get_or b (x.first' + k) 0)
  pub only : (p q : ℕ) → p < length a → q < length b → get_or a p 0 ≡ get_or b q 0
      → (x.first ≤ p) × (p < x.first + x.count) × (x.first' + p ≡ x.first + q)

-- Two lines of `l` and `l'` links that stand at `s` and at `t` of one axis share what these two parts of the axis have in common.
abbrev pub line_span : ℕ → ℕ → ℕ → ℕ → Span
line_span l s l' t = record { count = min (l + s) (l' + t) - max s t; first = t - s; first' = s - t }

-- A joined run begins in the first part if that has shared links, else in the second.
abbrev pub begins : ℕ → ℕ → ℕ → ℕ
begins zero x y = y
begins (suc n) x y = x

-- The run on walks that are joined of two parts, the first of `m` and of `m'` links.
abbrev pub join_span : ℕ → ℕ → Span → Span → Span
join_span m m' x y =
    record {
      count = x.count + y.count;
      first = begins x.count x.first (m + y.first);
      first' = begins x.count x.first' (m' + y.first');
    }

-- What walks from `u` to `v` on the line `g` and from `u'` to `v'` on the line `g'` share going up, going down, and in all.
abbrev pub rise : ℕ → ℕ → ℕ → ℕ → ℕ → ℕ → Span
rise g u v g' u' v' = line_span (v - u) (8 * g + u) (v' - u') (8 * g' + u')

abbrev pub fall : ℕ → ℕ → ℕ → ℕ → ℕ → ℕ → Span
fall g u v g' u' v' = line_span (u - v) (8 * g' + u') (u' - v') (8 * g + u)

abbrev pub walk_span : ℕ → ℕ → ℕ → ℕ → ℕ → ℕ → Span
walk_span g u v g' u' v' = join_span (v - u) (v' - u') (rise g u v g' u' v') (fall g u v g' u' v')

-- What two links share, each into or out of the mesh at a spot.
abbrev pub spot_number : Spot → ℕ
spot_number s = 8 * s.row + s.column

abbrev pub link_span : Spot → Spot → Span
link_span s t = line_span 1 (spot_number s) 1 (spot_number t)

-- What two routes share up to the turn, from there on and in all.
module _ (a b : Spots) where
  abbrev pub row_span : Span
  row_span = walk_span a.source.row a.source.column a.destination.column b.source.row b.source.column b.destination.column

  abbrev pub column_span : Span
  column_span = walk_span a.destination.column a.source.row a.destination.row b.destination.column b.source.row b.destination.row

  abbrev pub to_span : Span
  to_span = join_span 1 1 (link_span a.source b.source) row_span

  abbrev pub from_span : Span
  from_span =
      join_span
      (distance a.source.row a.destination.row)
      (distance b.source.row b.destination.row)
      column_span
      (link_span a.destination b.destination)

  abbrev pub route_span : Span
  route_span =
      join_span
      (1 + distance a.source.column a.destination.column)
      (1 + distance b.source.column b.destination.column)
      to_span
      from_span
