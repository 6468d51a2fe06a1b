-- What `solve` makes of what it is lent, and what it is given.
use Rattle.std.specs.Prelude.{ℕ, ◌+◌, ◌≤◌, ◌<◌, unwrap_or, List, map, take, get_or}
use Rattle.mesh.specs.declared.Pair.{Pair}
use Rattle.recurrence.specs.Recurrence.{Term}
use Rattle.recurrence.specs.Limits.{AllFair}
use Rattle.engine_terms.specs.declared.terms.Way.{Way}
use Rattle.engine_terms.specs.declared.kept.Kept.{Kept}
use Rattle.engine_terms.specs.Loads.{cap_by, term_by}
use Rattle.engine_terms.specs.Kept.{cost_at, bound_at, arrivals_at, seen_at, third_at, pair_at, up_of, down_of}
use Rattle.engine_solve.specs.declared.turn.Turn.{Turn}

-- The bound of the flow at j.
abbrev pub within : List Kept → ℕ → ℕ
within kept j = unwrap_or (bound_at kept j) 0

module _ (way : Way) (i : ℕ) (kept : List Kept) (table : List (List Pair)) where
  -- The loads of the third flows between the flow at i and the one at j.
  abbrev pub up_to : ℕ → ℕ
  up_to j = up_of kept table i j

  abbrev pub down_to : ℕ → ℕ
  down_to j = down_of kept table i j (cap_by way.method way.platform (pair_at table i j).count)

  -- The term of the direct flow at j.
  abbrev pub term_at : ℕ → Term
  term_at j = term_by way.method (arrivals_at kept j) (within kept j) (cost_at kept j) (up_to j) (down_to j)

  -- What the term of a direct flow at j asks: its loads stay below its bound.
  pub record Lawful (j : ℕ) : Type 0 where
    pub inside : j < 64
    pub seen : seen_at kept j ≤ 64
    pub thirds : (m : ℕ) → m < seen_at kept j → third_at kept j m < 64
    pub arrivals : (arrivals_at kept j).shift + (arrivals_at kept j).period ≤ 2_000_000_000
    pub bound : within kept j ≤ 1_000_000_000
    pub up : up_to j ≤ within kept j
    pub down : cost_at kept j + down_to j ≤ within kept j

pub record Solvable (way : Way) (turn : Turn) (kept : List Kept) (table : List (List Pair)) : Type 0 where
  pub inside : turn.place < 64
  pub latency : turn.cost ≤ 1_000_000_000
  pub window : turn.limit ≤ 1_000_000_000
  pub each : (m : ℕ) → m < turn.row.many → Lawful way turn.place kept table (get_or turn.row.direct m 0)
  pub fair : AllFair (map (term_at way turn.place kept table) (take turn.row.many turn.row.direct))
