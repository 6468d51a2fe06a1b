-- The bound that a verdict has or has not, and the number that stands for it.
use mathlib.Core.Path.{◌≡◌, refl}
use Rattle.std.specs.Prelude.{is_some, unwrap_or}
use Rattle.model.specs.declared.Verdict.{Verdict}
use Rattle.model.specs.declared.Verdict.TheVariants.{Bounded, Late, Waits}
use Rattle.model.specs.Verdicts.{bound_in, is_bounded}
use Rattle.model.specs.Bounds.{bound_of}

-- "the bound is 0 unless the verdict is 0"
pub bound_or_0 : (v : Verdict) → unwrap_or (bound_of v) 0 ≡ bound_in v
bound_or_0 (Bounded r k) = refl
bound_or_0 (Late k) = refl
bound_or_0 (Waits id) = refl

pub bound_is_some : (v : Verdict) → is_some (bound_of v) ≡ is_bounded v
bound_is_some (Bounded r k) = refl
bound_is_some (Late k) = refl
bound_is_some (Waits id) = refl
