-- A cell of the pair table.
use Prim.Native.Nat.{ℕ, ◌<◌}
use mathlib.Core.Path.{◌≡◌, ap, ◌∙◌}
use mathlib.Core.List.{List, map}
use native.Mathlib.Omega.{arith}
use Rattle.std.proofs.lemmas.List.{get_or_default}
use lib.ListN.{length, get_or, length-map, get_or-append, get_or-map}
use Rattle.plan_values.specs.declared.Platform.{Platform}
use Rattle.plan_values.specs.declared.Flow.{Flow}
use Rattle.plan.specs.Padded.{padded}
use Rattle.plan_values.specs.Values.{blank_flow}
use Rattle.plan.specs.Legal.{flow}
use Rattle.mesh.specs.declared.Pair.{Pair}
use Rattle.model.specs.Links.{pair_of}
use Rattle.pairs.specs.Pairs.{no_pair, no_row, pair_table}

pub filled_cell : {A : Type 0} (blank : A) (make : Flow → A) (fs : List Flow) (k : ℕ) → k < length fs → get_or (padded blank (map make fs)) k blank ≡ make (flow fs k)
filled_cell blank make fs k h =
    let n = length-map fs make in
    get_or-append (map make fs) _ blank k (omega arith)
    ∙ get_or_default (map make fs) k blank (make blank_flow) (omega arith)
    ∙ get_or-map make fs k blank_flow

-- "for every ordered pair of flows": row i, cell j is the pair of the flows i and j, i = j included
pub cell : (p : Platform) (fs : List Flow) (i j : ℕ) → i < length fs → j < length fs → get_or (get_or (pair_table p fs) i no_row) j no_pair ≡ pair_of p (flow fs i) (flow fs j)
cell p fs i j hi hj =
    ap (λ (row : List Pair). get_or row j no_pair) (filled_cell no_row (λ f. padded no_pair (map (pair_of p f) fs)) fs i hi)
    ∙ filled_cell no_pair (pair_of p (flow fs i)) fs j hj
