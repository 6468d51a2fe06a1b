-- A plan as the engine holds it: an array of 64 flows, of which the first `count` are the plan's and legal.
use Rattle.std.specs.Prelude.{ℕ, ◌≤◌, ◌<◌, ◌≡◌, List, length, take, get_or}
use Rattle.plan_values.specs.declared.Platform.{Platform}
use Rattle.plan_values.specs.declared.Flow.{Flow}
use Rattle.plan.specs.Legal.{Legal, flow}
use Rattle.mesh.specs.declared.Pair.{Pair}
use Rattle.model.specs.Links.{pair_of}
use Rattle.pairs.specs.Pairs.{no_pair}

pub record Scene (p : Platform) (flows : List Flow) (count : ℕ) : Type 0 where
  pub few : count ≤ 64
  pub room : length flows ≡ 64
  pub legal : Legal p (take count flows)

-- The pair table's row of a flow i.
pub record HasRow (p : Platform) (flows : List Flow) (count : ℕ) (i : Flow) (row : List Pair) : Type 0 where
  pub room : length row ≡ 64
  pub cell : (k : ℕ) → k < count → get_or row k no_pair ≡ pair_of p i (flow flows k)
