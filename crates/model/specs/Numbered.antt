-- "Method 1 is SB, 2 is XLWX, 3 is IBN", read from a number.
use Rattle.std.specs.Prelude.{ℕ, ◌≡◌, ◌≢◌, Result, MatchResult}
use Rattle.model.specs.Latency.{method_number}
use Rattle.model.specs.declared.Method.{Method}
use Rattle.model.specs.declared.UnknownMethod.{UnknownMethod}

-- The result is the method that has this number, or the number, which no method has.
abbrev pub Numbered : ℕ → Result Method UnknownMethod → Type 0
Numbered number r = MatchResult r (λ m. number ≡ method_number m) (λ e. (e.0 ≡ number) × (number ≢ 1) × (number ≢ 2) × (number ≢ 3))
