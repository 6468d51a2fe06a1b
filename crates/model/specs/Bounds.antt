-- A verdict's bound, if it has one.
use Rattle.std.specs.Prelude.{ℕ, Option, Some, None}
use Rattle.model.specs.declared.Verdict.{Verdict}
use Rattle.model.specs.declared.Verdict.TheVariants.{Bounded, Late, Waits}

abbrev pub bound_of : Verdict → Option ℕ
bound_of (Bounded r k) = Some r
bound_of (Late k) = None
bound_of (Waits id) = None
