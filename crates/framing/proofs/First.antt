-- A chain of checks: a test that came out true answers here, one that came out false leads past.
use mathlib.Core.Path.{◌≡◌}
use mathlib.Core.Bool.{Bool, true, false}
use Rattle.framing.specs.First.{◌when◌else◌}

module _ {A : Type 0} (answer next : A) (test : Bool) {came : Bool} (e : came ≡ test) where
  pub here : came ≡ true → answer ≡ (answer when test else next)
  unfolding ◌when◌else◌
  here t = rw (← e, t)

  pub past : {r : A} → came ≡ false → r ≡ next → r ≡ (answer when test else next)
  unfolding ◌when◌else◌
  past f p = rw (← e, f) p

pub ruleset checks = (here, past)
