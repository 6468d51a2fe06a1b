-- A width that is known picks its number.
use Prim.Native.Nat.{ℕ}
use mathlib.Core.Path.{◌≡◌}
use mathlib.Core.List.{List}
use Rattle.framing_numbers.specs.Numbers.{number_at}
use Rattle.framing_numbers.specs.declared.Width.{Width}

pub number_is : (s : List ℕ) (at : ℕ) {width known : Width} {r : ℕ} → width ≡ known → r ≡ number_at s known at → r ≡ number_at s width at
number_is s at e p = rw e p
