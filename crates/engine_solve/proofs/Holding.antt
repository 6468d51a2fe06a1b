-- The loop of `solve`: the first terms are those of the first direct flows.
use Prim.Native.Nat.{ℕ, ◌≤◌}
use mathlib.Core.Path.{◌≡◌}
use mathlib.Core.List.{List, map}
use lib.ListN.{length, take}
use Rattle.recurrence.specs.Recurrence.{Term}

pub record Holding (term : ℕ → Term) (named : List ℕ) (terms : List Term) (m : ℕ) : Type 0 where
  pub few : length named ≤ 64
  pub room : length terms ≡ 64
  pub held : take m terms ≡ map term (take m named)
