-- std's big-endian bytes of a number are those of the definition.
use Prim.Native.Nat.{ℕ, ◌/◌, ◌%◌}
use mathlib.Core.Path.{◌≡◌, ap}
use mathlib.Core.List.{[], ◌∷◌}
use native.Mathlib.Omega.{arith}
use Rattle.std.specs.Int.{w16, w32, to_be_bytes}
use Rattle.framing.specs.BigEndian.{byte_of, two_bytes, four_bytes}

whole : (x : ℕ) → x ≡ x / 1
whole x = omega arith

pub two_are : (x : ℕ) → to_be_bytes w16 x ≡ two_bytes x
two_are x = ap (λ y. byte_of 256 x ∷ y % 256 ∷ []) (whole x)

pub four_are : (x : ℕ) → to_be_bytes w32 x ≡ four_bytes x
four_are x = ap (λ y. byte_of 16777216 x ∷ byte_of 65536 x ∷ byte_of 256 x ∷ y % 256 ∷ []) (whole x)
