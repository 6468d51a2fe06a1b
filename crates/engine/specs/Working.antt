-- What the engine knows of the flows that it has come to.
use Rattle.std.specs.Prelude.{ℕ, ◌<◌, ◌≡◌, cond, List, length, take, get_or}
use Rattle.plan_values.specs.declared.Platform.{Platform}
use Rattle.plan_values.specs.declared.Flow.{Flow}
use Rattle.plan.specs.Legal.{flow}
use Rattle.mesh.specs.declared.Pair.{Pair}
use Rattle.model.specs.Links.{pair_of}
use Rattle.model.specs.Latency.{method_used, latency, limit}
use Rattle.model.specs.Interference.{direct_for}
use Rattle.model.specs.Delays.{hits}
use Rattle.model.specs.Bounds.{bound_of}
use Rattle.model.specs.Verdicts.{bound_in, verdict}
use Rattle.pairs.specs.Scene.{Scene}
use Rattle.engine_costs.specs.Figures.{figures_of}
use Rattle.engine_terms.specs.declared.kept.Kept.{Kept}
use Rattle.engine_terms.specs.Loads.{looked_at}
use Rattle.engine_terms.specs.Kept.{nothing_kept, pair_at}
use Rattle.engine_rows.specs.Filled.{Filled}
use Rattle.engine_rows.specs.Places.{places, Listed}
use Rattle.engine_solve.specs.declared.turn.Turn.{Turn}

-- The bound of a flow, 0 where it has none.
abbrev pub bound_for : Platform → List Flow → ℕ → Flow → ℕ
bound_for p flows count f = bound_in (verdict p (take count flows) f)

-- The hits on flow j, from its bound: 0 of a flow that is not direct for it.
abbrev pub hits_on : Platform → List Flow → ℕ → Flow → ℕ → ℕ
hits_on p flows count j k = cond (direct_for p j (flow flows k)) (hits (bound_for p flows count j) (flow flows k)) 0

-- Something is known of the cell of every flow whose priority number is below n.
pub record Below {A : Type 0} (flows : List Flow) (count n : ℕ) (P : ℕ → A → Type 0) (blank : A) (cells : List A) : Type 0 where
  pub cell : (k : ℕ) → k < count → (flow flows k).priority < n → P k (get_or cells k blank)

-- How many direct flows a flow has.
abbrev pub many_for : Platform → List Flow → ℕ → Flow → ℕ
many_for p flows count f = length (places (λ k. direct_for p f (flow flows k)) count)

module _ (p : Platform) (flows : List Flow) (count : ℕ) where
  -- What is kept of the flow at k.
  pub record Keeps (k : ℕ) (kept : Kept) : Type 0 where
    pub lists : Listed (λ m. direct_for p (flow flows k) (flow flows m)) count kept.direct (many_for p flows count (flow flows k))
    pub hits : Filled 0 (hits_on p flows count (flow flows k)) kept.hits (looked_at (method_used p) count)
    pub figures : kept.figures ≡ figures_of (latency p (flow flows k)) (bound_of (verdict p (take count flows) (flow flows k))) (looked_at (method_used p) (many_for p flows count (flow flows k))) (flow flows k)

  abbrev pub Known : ℕ → List Kept → Type 0
  Known n kept = Below flows count n Keeps nothing_kept kept

  -- The pair table's cells, of the flows of the plan.
  pub record HasPairs (table : List (List Pair)) : Type 0 where
    pub cell : (i k : ℕ) → i < count → k < count → pair_at table i k ≡ pair_of p (flow flows i) (flow flows k)

  -- The turn of the flow at i.
  pub record TurnOf (i : ℕ) (turn : Turn) : Type 0 where
    pub place : turn.place ≡ i
    pub cost : turn.cost ≡ latency p (flow flows i)
    pub limit : turn.limit ≡ limit (flow flows i)
    pub names : Listed (λ k. direct_for p (flow flows i) (flow flows k)) count turn.row.direct turn.row.many

  -- It is its turn: the flows of higher priority have had theirs.
  pub record Turned (i : ℕ) (turn : Turn) (kept : List Kept) (table : List (List Pair)) : Type 0 where
    pub scene : Scene p flows count
    pub inside : i < count
    pub its : TurnOf i turn
    pub pairs : HasPairs table
    pub known : Known (flow flows i).priority kept
