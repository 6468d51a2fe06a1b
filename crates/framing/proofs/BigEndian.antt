-- What is written is read back, and what was read is written again: one law each, over the width.
use Prim.Native.Nat.{ℕ, ◌+◌, ◌*◌, ◌/◌, ◌%◌, ◌^◌, ◌≤◌, ◌<◌}
use mathlib.Core.Path.{◌≡◌, refl, sym, ap, ap₂, ◌∙◌}
use mathlib.Core.List.{List, [], ◌∷◌, ◌++◌}
use native.Mathlib.Omega.{arith}
use lib.ListN.{length}
use Rattle.framing.specs.BigEndian.{byte_of, two_bytes, four_bytes, number_bytes}
use Rattle.framing_numbers.specs.Numbers.{one_at, two_at, bytes_of, number_at, Bytes}
use Rattle.framing_numbers.specs.declared.Width.{Width}
use Rattle.framing_numbers.specs.declared.Width.TheVariants.{One, Two, Four}
use Rattle.framing.proofs.Parts.{part, part_one, part_join}
use Rattle.std.specs.Int.{w16, w32, to_be_bytes}

-- What `to_be_bytes` of std gives are a number's bytes.
pub two_of_std : (x : ℕ) → to_be_bytes w16 x ≡ two_bytes x
two_of_std x = ap (λ (low : ℕ). byte_of 256 x ∷ low ∷ []) (omega arith)

pub four_of_std : (x : ℕ) → to_be_bytes w32 x ≡ four_bytes x
four_of_std x = ap (λ (low : ℕ). byte_of 16777216 x ∷ byte_of 65536 x ∷ byte_of 256 x ∷ low ∷ []) (omega arith)

-- A number below 2 ^ 16 from its two bytes, and one below 2 ^ 32 from its four.
from_two : (x : ℕ) → x < 65536 → 256 * byte_of 256 x + byte_of 1 x ≡ x
from_two x h = omega arith

halves : (x high low : ℕ) → high ≡ x / 65536 → low ≡ x % 65536 → 65536 * high + low ≡ x
halves x high low e f = omega arith

from_four : (x : ℕ) → x < 4294967296 → 65536 * (256 * byte_of 16777216 x + byte_of 65536 x) + (256 * byte_of 256 x + byte_of 1 x) ≡ x
from_four x h = halves x _ _ (high ∙ from_two (x / 65536) (omega arith)) (low ∙ from_two (x % 65536) (omega arith))
  where
    high : 256 * byte_of 16777216 x + byte_of 65536 x ≡ 256 * byte_of 256 (x / 65536) + byte_of 1 (x / 65536)
    high = ap₂ (λ (n m : ℕ). 256 * (n % 256) + m) (omega arith) (omega arith)

    low : 256 * byte_of 256 x + byte_of 1 x ≡ 256 * byte_of 256 (x % 65536) + byte_of 1 (x % 65536)
    low = ap₂ (λ (n m : ℕ). 256 * n + m) (omega arith) (omega arith)

-- A number that its bytes can hold is read from them.
pub number_back : (w : Width) (x : ℕ) → x < 256 ^ bytes_of w → (rest : List ℕ) → number_at (number_bytes w x ++ rest) w 0 ≡ x
number_back One x h rest = refl
number_back Two x h rest = from_two x h
number_back Four x h rest = from_four x h

-- Two bytes, and four, from the number that they make.
two_bytes_lem : (a b : ℕ) → a < 256 → b < 256 → two_bytes (256 * a + b) ≡ a ∷ b ∷ []
two_bytes_lem a b ha hb = ap₂ (λ (x y : ℕ). x ∷ y ∷ []) (omega arith) (omega arith)

four_bytes_lem : (x : ℕ) → four_bytes x ≡ two_bytes (x / 65536) ++ two_bytes (x % 65536)
four_bytes_lem x i = a i % 256 ∷ b i ∷ c i ∷ d i ∷ []
  where
    a : x / 16777216 ≡ x / 65536 / 256
    a = omega arith

    b : byte_of 65536 x ≡ byte_of 1 (x / 65536)
    b = omega arith

    c : byte_of 256 x ≡ byte_of 256 (x % 65536)
    c = omega arith

    d : byte_of 1 x ≡ byte_of 1 (x % 65536)
    d = omega arith

of_halves : (high low : ℕ) → low < 65536 → four_bytes (65536 * high + low) ≡ two_bytes high ++ two_bytes low
of_halves high low h = four_bytes_lem (65536 * high + low) ∙ ap₂ (λ (x y : ℕ). two_bytes x ++ two_bytes y) (omega arith) (omega arith)

module _ {s : List ℕ} (is : Bytes s) where
  two_back : (at : ℕ) → at + 2 ≤ length s → two_bytes (two_at s at) ≡ part s at 2
  two_back at h =
      two_bytes_lem (one_at s at) (one_at s (at + 1)) (is.each at) (is.each (at + 1))
      ∙ ap₂ ◌++◌ (sym (part_one s at (omega arith))) (sym (part_one s (at + 1) (omega arith)))
      ∙ part_join s at 1 1

  -- The bytes of a number that was read are those that it was read from.
  pub bytes_back : (w : Width) (at : ℕ) → at + bytes_of w ≤ length s → number_bytes w (number_at s w at) ≡ part s at (bytes_of w)
  bytes_back One at h = sym (part_one s at (omega arith))
  bytes_back Two at h = two_back at h
  bytes_back Four at h =
      of_halves (two_at s at) (two_at s (at + 2)) (omega (arith, is.each (at + 2), is.each (at + 2 + 1)))
      ∙ ap₂ ◌++◌ (two_back at (omega arith)) (two_back (at + 2) (omega arith))
      ∙ part_join s at 2 2
