-- Document 01, "The three recurrences": the right side, over the terms of a flow, one for each direct flow.
use Rattle.std.specs.Prelude.{ℕ, ◌+◌, ◌*◌, List}
use Rattle.recurrence.specs.Rounding.{up}
use Rattle.recurrence.specs.Sums.{sum_over}

-- When a flow's packets come: the shift is its jitter, or its jitter and its delay allowance together.
pub record Arrivals : Type 0 where
  pub shift : ℕ
  pub period : ℕ

-- A direct flow's part in the recurrence. The shift is its jitter and its delay allowance together.
pub record Term : Type 0 where
  pub shift : ℕ
  pub period : ℕ
  pub weight : ℕ

abbrev pub weighed : Arrivals → ℕ → Term
weighed a weight = record { shift = a.shift; period = a.period; weight = weight }

-- "Packets of j in a window x: n_j(x) = up((x + jitter_j + A) / period_j)."
abbrev pub packets : Term → ℕ → ℕ
packets t x = up (x + t.shift) t.period

-- "n_j(R) x W_j"
abbrev pub delay : Term → ℕ → ℕ
delay t x = packets t x * t.weight

-- "R = C_i + sum over direct j of n_j(R) x W_j": what stands on the right, for a flow of latency c.
abbrev pub right_side : ℕ → List Term → ℕ → ℕ
right_side c ts x = c + sum_over ts (λ t. delay t x)

-- "N(x) the sum of n_j(x) over direct j"
abbrev pub total : List Term → ℕ → ℕ
total ts x = sum_over ts (λ t. packets t x)

-- "sum over direct j of up((deadline - C) / period_j)", for a stretch of time between C and the deadline.
abbrev pub released : List Term → ℕ → ℕ
released ts stretch = sum_over ts (λ t. up stretch t.period)
