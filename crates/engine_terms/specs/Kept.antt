-- What is kept of the flows, by their places, and what the engine adds up from it for a pair of them.
use Rattle.std.specs.Prelude.{ℕ, Option, List, [], get_or}
use Rattle.recurrence.specs.Recurrence.{Arrivals}
use Rattle.mesh.specs.declared.Pair.{Pair}
use Rattle.pairs.specs.Pairs.{no_pair}
use Rattle.engine_costs.specs.Figures.{no_figures}
use Rattle.engine_terms.specs.declared.kept.Kept.{Kept}
use Rattle.engine_terms.specs.Loads.{sum_to, up_load, down_load}

-- What stands where no flow has had its turn.
abbrev pub nothing_kept : Kept
nothing_kept = record { figures = no_figures; direct = []; hits = [] }

module _ (kept : List Kept) where
  abbrev pub kept_at : ℕ → Kept
  kept_at k = get_or kept k nothing_kept

  abbrev pub cost_at : ℕ → ℕ
  cost_at k = (kept_at k).figures.cost

  abbrev pub bound_at : ℕ → Option ℕ
  bound_at k = (kept_at k).figures.bound

  abbrev pub arrivals_at : ℕ → Arrivals
  arrivals_at k = (kept_at k).figures.arrivals

  -- How many of its direct flows are looked at, the place of each, and the hits on it of the flow at k.
  abbrev pub seen_at : ℕ → ℕ
  seen_at j = (kept_at j).figures.seen

  abbrev pub third_at : ℕ → ℕ → ℕ
  third_at j m = get_or (kept_at j).direct m 0

  abbrev pub hits_at : ℕ → ℕ → ℕ
  hits_at j k = get_or (kept_at j).hits k 0

-- The cells of the pair table.
abbrev pub pair_at : List (List Pair) → ℕ → ℕ → Pair
pair_at table i k = get_or (get_or table i []) k no_pair

-- The loads of the third flows between a first flow and a second one: direct flows of the second. Of the pair table these are
-- the links that each flow shares with the first, its place on the second's route, and the first flow's place there.
module _ (kept : List Kept) (second : Kept) (shared places : List Pair) (first : ℕ) where
  abbrev pub up_between : ℕ
  up_between = sum_to second.figures.seen (λ m. up_load (λ k. (get_or shared k no_pair).count) (λ k. (get_or places k no_pair).first) (λ k. get_or second.hits k 0) (cost_at kept) first (get_or second.direct m 0))

  abbrev pub down_between : ℕ → ℕ
  down_between cap = sum_to second.figures.seen (λ m. down_load (λ k. (get_or shared k no_pair).count) (λ k. (get_or places k no_pair).first) (λ k. get_or second.hits k 0) (cost_at kept) first cap (get_or second.direct m 0))

-- The same of the flows at i and j.
module _ (kept : List Kept) (table : List (List Pair)) (i j : ℕ) where
  abbrev pub up_of : ℕ
  up_of = up_between kept (kept_at kept j) (get_or table i []) (get_or table j []) (pair_at table j i).first

  abbrev pub down_of : ℕ → ℕ
  down_of = down_between kept (kept_at kept j) (get_or table i []) (get_or table j []) (pair_at table j i).first
