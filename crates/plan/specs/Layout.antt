-- Document 01, "The plan's bytes", with document 02, L7: how a plan's records lie, said without a reader.
use Rattle.std.specs.Prelude.{ℕ, ◌+◌, ◌*◌, ◌<◌, ◌≡◌, List, length}
use Rattle.framing.specs.Header.{Headed}
use Rattle.plan_values.specs.Values.{platform_at, platform_length, flow_at}
use Rattle.plan.specs.Legal.{flow}
use Rattle.plan_values.specs.declared.Platform.{Platform}
use Rattle.plan_values.specs.declared.Flow.{Flow}

-- Flow k's record starts behind the platform record, whose length is 6 or 7, and k flow records.
abbrev pub place : ℕ → ℕ → ℕ
place size k = 3 + size + 23 * k

-- "One platform record, then 0 to 64 flows, then the end record, then nothing."
pub record Laid (s : List ℕ) (p : Platform) (fs : List Flow) : Type 0 where
  pub platform : Headed s 0 0x01 (platform_length p) × (platform_at s 0 ≡ p)
  pub each : (k : ℕ) → k < length fs → Headed s (place (platform_length p) k) 0x02 20 × (flow_at s (place (platform_length p) k) ≡ flow fs k)
  pub end : Headed s (place (platform_length p) (length fs)) 0x7F 0
  pub nothing_else : length s ≡ place (platform_length p) (length fs) + 3
