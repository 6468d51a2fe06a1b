-- Where the flows of a plan stand, and what they share: the pair table.
use Prim.Native.Nat.{ℕ}
use native.Mathlib.Omega.{arith}
use mathlib.Core.Path.{◌≡◌, ap, ◌∙◌}
use mathlib.Core.List.{List, map, map-map}
use lib.ListN.{length, take, length-map}
use lib.Seq.{take_at, length-take-le}
use Rattle.plan_values.specs.declared.Platform.{Platform}
use Rattle.plan_values.specs.declared.Flow.{Flow}
use Rattle.plan.specs.Padded.{padded}
use Rattle.mesh.specs.declared.spots.Spots.{Spots}
use Rattle.mesh.specs.declared.Pair.{Pair}
use Rattle.mesh.specs.Shared.{Shares}
use Rattle.mesh.specs.Halves.{between}
use Rattle.pairs.specs.Scene.{Scene}
use Rattle.pairs.specs.Pairs.{no_pair, no_row, pair_table}
use Rattle.pairs.specs.Spots.{spots_in, no_spots, shared_by, row_of}

-- ---- what mesh promises of two flows, as a value
pub shared_is : (a b : Spots) {r : Pair} → Shares (between a) (between b) r.count r.first → r ≡ shared_by a b
shared_is a b w = λ i. record { count = w.many i; first = w.place i }

-- ---- the flows of a plan in their array
module _ {p : Platform} {flows : List Flow} {count : ℕ} (w : Scene p flows count) where
  many : length (take count flows) ≡ count
  many = length-take-le count flows (omega (arith, w.few, w.room))

  -- ---- where they stand
  module _ {spots : List Spots} (e : spots ≡ padded no_spots (map (spots_in p) (take count flows))) where
    spots_are : take count spots ≡ map (spots_in p) (take count flows)
    spots_are = ap (take count) e ∙ take_at (map (spots_in p) (take count flows)) _ count (length-map (take count flows) (spots_in p) ∙ many)

    -- the rows of what they share are the table
    pub table_is : padded no_row (map (row_of (take count spots)) (take count spots)) ≡ pair_table p (take count flows)
    table_is =
        let fs = take count flows in
        ap (λ (l : List Spots). padded no_row (map (row_of l) l)) spots_are
        ∙ ap (padded no_row)
        (map-map (row_of (map (spots_in p) fs)) (spots_in p) fs
        ∙ (λ i. map (λ f. padded no_pair (map-map (shared_by (spots_in p f)) (spots_in p) fs i)) fs))
