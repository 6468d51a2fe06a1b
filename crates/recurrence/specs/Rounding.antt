-- Document 01, "The three recurrences": "'up' rounds a quotient up".
use Rattle.std.specs.Prelude.{ℕ, ◌+◌, ◌-◌, ◌/◌}

-- a / p rounded up: how many periods p it takes to cover a.
unfoldable pub up : ℕ → ℕ → ℕ
up a p = (a + (p - 1)) / p
