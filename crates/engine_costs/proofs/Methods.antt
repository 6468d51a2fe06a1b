-- The method really used.
use mathlib.Core.Path.{◌≡◌}
use borrow.Author.Tests.{ne_eqb}
use Rattle.std.specs.Prelude.{Result, Ok, Err}
use Rattle.std.specs.Result.{result_unwrap_or}
use Rattle.framing.specs.First.{◌when◌else◌}
use Rattle.plan_values.specs.declared.Platform.{Platform}
use Rattle.model.specs.Latency.{house_default, method_used}
use Rattle.model.specs.Numbered.{Numbered}
use Rattle.model.specs.declared.Method.{Method}
use Rattle.model.specs.declared.Method.TheVariants.{SB, XLWX, IBN}
use Rattle.model.specs.declared.UnknownMethod.{UnknownMethod}

-- The method of the platform's number, or else the house default.
pub numbered_used : (p : Platform) (r : Result Method UnknownMethod) → Numbered p.method r → result_unwrap_or r house_default ≡ method_used p
unfolding method_used ◌when◌else◌
numbered_used p (Ok SB) w = rw w
numbered_used p (Ok XLWX) w = rw w
numbered_used p (Ok IBN) w = rw w
numbered_used p (Err e) (_, a, b, c) = rw (ne_eqb p.method 1 a, ne_eqb p.method 2 b, ne_eqb p.method 3 c)
