-- What `settle` is given. Under these limits every sum stays inside 64 bits.
use Rattle.std.specs.Prelude.{ℕ, ◌≤◌, ◌<◌, List, length}
use Rattle.std.specs.List.{All}
use Rattle.recurrence.specs.Recurrence.{Term}

-- "No weight of a bounded flow exceeds that flow's bound, nor does its allowance, and the bound is at most its period."
-- So a shift, which is a jitter and an allowance, is at most 2,000,000,000.
pub record Fair (t : Term) : Type 0 where
  pub some : 0 < t.period
  pub period : t.period ≤ 1_000_000_000
  pub shift : t.shift ≤ 2_000_000_000
  pub light : t.weight ≤ t.period

abbrev pub AllFair : List Term → Type 0
AllFair ts = All Fair ts

-- A flow's latency, what its bound is held against, and its terms.
pub record Given (c limit : ℕ) (terms : List Term) : Type 0 where
  pub latency : c ≤ 1_000_000_000
  pub window : limit ≤ 1_000_000_000
  pub few : length terms ≤ 64
  pub fair : AllFair terms
