-- Two XY routes share one unbroken run of links: part by part of the routes, and joined at the seams.
use Prim.Native.Nat.{ℕ, ◌+◌, ◌-◌, ◌*◌, ◌<◌, max}
use mathlib.Core.Path.{◌≡◌, refl}
use mathlib.Core.List.{[], ◌∷◌, ◌++◌}
use mathlib.Core.Logic.{◌⊎◌, inl, inr, ⊎_map, ⊎_elim}
use native.Mathlib.Omega.{arith}
use native.Mathlib.Decide.{dec_lt}
use Rattle.mesh.specs.declared.spots.Spot.{Spot}
use Rattle.mesh.specs.declared.spots.Spots.{Spots}
use Rattle.mesh.specs.Mesh.{link, injection, ejection, hops, along, along_row, along_column, straight}
use Rattle.mesh.specs.Halves.{OnMesh, between, to_turn, from_turn}
use Rattle.mesh.proofs.Places.{length_hops, length_along, in_halves, length_to_turn}
use Rattle.mesh.proofs.Spans.{Run, rise, fall, walk_span, spot_number, link_span, row_span, column_span, to_span, from_span, route_span}
use Rattle.mesh.proofs.Runs.{Within, Stretch, meeting, line, join}

-- What follows from links in the one part and from links in the other follows from links in both together.
in_either : {P : Type 0} (x y : ℕ) → (0 < x → P) → (0 < y → P) → 0 < x + y → P
in_either {P} x y one other h = go (dec_lt 0 x)
  where
    go : Dec (0 < x) → P
    go (yes l) = one l
    go (no l) = other (omega arith)

-- Walks from `u` to `v` on the line `g` and from `u'` to `v'` on the line `g'`, by links of `kind` or of the kind after it.
module _ (kind g u v g' u' v' : ℕ) (small : (g < 8) × (u < 8) × (v < 8) × (g' < 8) × (u' < 8) × (v' < 8)) where
  rises : 0 < (rise g u v g' u' v').count → (u < v) × (u' < v') × (g ≡ g')
  rises h = omega arith

  falls : 0 < (fall g u v g' u' v').count → (v < u) × (v' < u') × (g ≡ g')
  falls h = omega arith

  -- Links are shared on one line only.
  one_line : 0 < (walk_span g u v g' u' v').count → g ≡ g'
  one_line = in_either _ _ (λ r. (rises r).2) (λ r. (falls r).2)

  -- Walks that meet before and after the farther end meet there.
  far_end : (8 * g + u ≡ 8 * g' + u') ⊎ ((u < v) × (u' < v') × (g ≡ g'))
      → (8 * g + v ≡ 8 * g' + v') ⊎ ((v < u) × (v' < u') × (g ≡ g'))
      → 8 * g + max u v ≡ 8 * g' + max u' v'
  far_end (inl s) (inl e) = omega arith
  far_end (inl s) (inr e) = omega arith
  far_end (inr s) (inl e) = omega arith
  far_end (inr s) (inr e) = omega arith

  rising : Stretch (kind * 64) (kind * 64 + 64) (8 * g + u ≡ 8 * g' + u') (8 * g + max u v ≡ 8 * g' + max u' v')
      (hops (λ k. link kind g (u + k)) (v - u)) (hops (λ k. link kind g' (u' + k)) (v' - u')) (rise g u v g' u' v')
  rising =
      line (kind * 64) (kind * 64 + 64) (λ k. link kind g (u + k)) (λ k. link kind g' (u' + k)) (v - u) (8 * g + u) (v' - u') (8 * g' + u')
      (λ k h. omega arith) (λ k h. omega arith) (λ k k' h h'. omega arith) (omega arith) (omega arith) (omega arith)

  falling : Stretch (kind * 64 + 64) (kind * 64 + 128) (8 * g + max u v ≡ 8 * g' + max u' v') (8 * g + v ≡ 8 * g' + v')
      (hops (λ k. link (kind + 1) g (u - k)) (u - v)) (hops (λ k. link (kind + 1) g' (u' - k)) (u' - v')) (fall g u v g' u' v')
  falling =
      line (kind * 64 + 64) (kind * 64 + 128) (λ k. link (kind + 1) g (u - k)) (λ k. link (kind + 1) g' (u' - k)) (u - v) (8 * g' + u') (u' - v') (8 * g + u)
      (λ k h. omega arith) (λ k h. omega arith) (λ k k' h h'. omega arith) (omega arith) (omega arith) (omega arith)

  -- Both ways: one of the two has no links, and the farther end is the seam.
  pub walk : Stretch (kind * 64) (kind * 64 + 128) (8 * g + u ≡ 8 * g' + u') (8 * g + v ≡ 8 * g' + v')
      (straight kind g u v) (straight kind g' u' v') (walk_span g u v g' u' v')
  unfolding along
  walk =
      join
      (omega arith)
      (length_hops (λ k. link kind g (u + k)) (v - u))
      (length_hops (λ k. link kind g' (u' + k)) (v' - u'))
      rising
      falling
      (λ s e. far_end (⊎_map (λ x. x) rises s) (⊎_map (λ x. x) falls e))

-- One link on each of two routes: a node's injection or ejection link.
module _ (kind : ℕ) (s t : Spot) (small : (s.row < 8) × (s.column < 8) × (t.row < 8) × (t.column < 8)) where
  one_node : 0 < (link_span s t).count → spot_number s ≡ spot_number t
  one_node h = omega arith

  pub one_link : Stretch (kind * 64) (kind * 64 + 64) (spot_number s ≡ spot_number t) (spot_number s ≡ spot_number t)
      (link kind s.row s.column ∷ []) (link kind t.row t.column ∷ []) (link_span s t)
  unfolding hops
  one_link =
      line (kind * 64) (kind * 64 + 64) (λ k. link kind s.row s.column) (λ k. link kind t.row t.column) 1 (spot_number s) 1 (spot_number t)
      (λ k h. omega arith) (λ k h. omega arith) (λ k k' h h'. omega arith) (omega arith) (omega arith) (omega arith)

-- Injection, row, column, ejection: at each seam, routes that meet before and after it meet at it.
module _ (a b : Spots) (on_a : OnMesh a) (on_b : OnMesh b) where
  abbrev Source : Type 0
  Source = spot_number a.source ≡ spot_number b.source

  abbrev Turn : Type 0
  Turn = 8 * a.source.row + a.destination.column ≡ 8 * b.source.row + b.destination.column

  abbrev Target : Type 0
  Target = spot_number a.destination ≡ spot_number b.destination

  sources : (a.source.row < 8) × (a.source.column < 8) × (b.source.row < 8) × (b.source.column < 8)
  sources = omega arith

  targets : (a.destination.row < 8) × (a.destination.column < 8) × (b.destination.row < 8) × (b.destination.column < 8)
  targets = omega arith

  on_rows : (a.source.row < 8) × (a.source.column < 8) × (a.destination.column < 8) × (b.source.row < 8) × (b.source.column < 8) × (b.destination.column < 8)
  on_rows = omega arith

  on_columns : (a.destination.column < 8) × (a.source.row < 8) × (a.destination.row < 8) × (b.destination.column < 8) × (b.source.row < 8) × (b.destination.row < 8)
  on_columns = omega arith

  pub injections : Stretch 0 64 Source Source (injection a.source.row a.source.column ∷ []) (injection b.source.row b.source.column ∷ []) (link_span a.source b.source)
  injections = one_link 0 a.source b.source sources

  pub row_walks : Stretch 64 192 Source Turn (along_row a.source.row a.source.column a.destination.column) (along_row b.source.row b.source.column b.destination.column) (row_span a b)
  row_walks = walk 1 _ _ _ _ _ _ on_rows

  pub column_walks : Stretch 192 320 Turn Target (along_column a.destination.column a.source.row a.destination.row) (along_column b.destination.column b.source.row b.destination.row) (column_span a b)
  column_walks = meeting (omega arith) (omega arith) (walk 3 _ _ _ _ _ _ on_columns)

  pub ejections : Stretch 320 384 Target Target (ejection a.destination.row a.destination.column ∷ []) (ejection b.destination.row b.destination.column ∷ []) (link_span a.destination b.destination)
  ejections = one_link 5 a.destination b.destination targets

  pub halves_to : Stretch 0 192 Source Turn (to_turn a) (to_turn b) (to_span a b)
  halves_to =
      join (omega arith) refl refl injections row_walks
      (λ s e. ⊎_elim (λ x. x) (one_node 0 a.source b.source sources) s)

  pub halves_from : Stretch 192 384 Turn Target (from_turn a) (from_turn b) (from_span a b)
  halves_from =
      join (omega arith) (length_along _ _ _ _) (length_along _ _ _ _) column_walks ejections
      (λ s e. ⊎_elim (λ x. x) (one_node 5 a.destination b.destination targets) e)

  -- Routes that share a link before the turn are in one row; those that share one behind it go to one column.
  pub same_row : Source ⊎ (0 < (to_span a b).count) → a.source.row ≡ b.source.row
  same_row (inl s) = omega arith
  same_row (inr h) = in_either _ _ (λ e. omega (arith, one_node 0 a.source b.source sources e)) (one_line 1 _ _ _ _ _ _ on_rows) h

  pub same_column : Target ⊎ (0 < (from_span a b).count) → a.destination.column ≡ b.destination.column
  same_column (inl e) = omega arith
  same_column (inr h) = in_either _ _ (one_line 3 _ _ _ _ _ _ on_columns) (λ e. omega (arith, one_node 5 a.destination b.destination targets e)) h

  -- So two with neither a row nor a column together share none.
  pub cannot_meet : (a.source.row ≡ b.source.row → ⊥) → (a.destination.column ≡ b.destination.column → ⊥) → 0 < (route_span a b).count → ⊥
  cannot_meet rows columns = in_either _ _ (λ h. rows (same_row (inr h))) (λ h. columns (same_column (inr h)))

  routes : Stretch 0 384 Source Target (to_turn a ++ from_turn a) (to_turn b ++ from_turn b) (route_span a b)
  routes =
      join (omega arith) (length_to_turn a) (length_to_turn b) halves_to halves_from
      (λ s e. omega (arith, same_row s, same_column e))

  pub halves_run : Run (to_turn a ++ from_turn a) (to_turn b ++ from_turn b) (route_span a b)
  halves_run = routes.run

  pub routes_run : Run (between a) (between b) (route_span a b)
  routes_run = rw (in_halves a, in_halves b) halves_run

  -- Each link's number is below 384.
  pub routes_below : Within 0 384 (between a)
  routes_below = rw (in_halves a) routes.within.0
