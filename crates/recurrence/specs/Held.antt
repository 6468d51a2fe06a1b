-- How the code keeps the shift and the period of a flow's packets.
use Rattle.std.specs.Prelude.{ℕ, ◌+◌, ◌-◌, ◌≤◌}
use Rattle.recurrence.specs.Recurrence.{Arrivals}

-- A period p is kept as last = p - 1, and a shift s as end = s + (p - 1), so that up((x + s) / p) is (x + end) / (last + 1).
abbrev pub held : ℕ → ℕ → Arrivals
held end last = record { shift = end - last; period = last + 1 }

-- The last cycle of a period is not behind the end.
abbrev pub Ordered : ℕ → ℕ → Type 0
Ordered end last = last ≤ end
