-- The kit's digits of a number, as few as hold it, are its decimal digits; and how many they are.
use Prim.Native.Nat.{ℕ, zero, suc, ◌*◌, ◌/◌, ◌%◌, ◌^◌, ◌≤◌, ◌<◌}
use mathlib.Core.Path.{◌≡◌, refl, ap, ◌∙◌}
use mathlib.Core.List.{List, [], ◌∷◌, ◌++◌}
use native.Mathlib.Decide.{dec_lt}
use native.Mathlib.Nat.{pow-suc}
use native.Mathlib.Numerals.{unary_clauses}
use native.Mathlib.Omega.{arith}
use borrow.Author.Tests.{lt-ltb, le-ltb}
use lib.ListN.{length, length-append}
use Rattle.io.specs.Digits.{hex_digit_ascii, last_digits, IsDigitCount}
use Rattle.lines_items.specs.Decimal.{digit, digits_below, decimal}

-- ---- the definition, by its test
last_digit : (fuel n : ℕ) → n < 10 → digits_below (suc fuel) n ≡ digit n ∷ []
unfolding digits_below
last_digit fuel n h = rw (digits_below, lt-ltb n 10 h)

more_digits : (fuel n : ℕ) → 10 ≤ n → digits_below (suc fuel) n ≡ digits_below fuel (n / 10) ++ digit (n % 10) ∷ []
unfolding digits_below
more_digits fuel n h = rw (digits_below, le-ltb n 10 h)

glyph_digit : (d : ℕ) → d < 10 → hex_digit_ascii d ≡ digit d
glyph_digit d h = rw (lt-ltb d 10 h)

-- ---- as few digits as hold a number
ten_pos : (k : ℕ) → 1 ≤ 10 ^ k
ten_pos zero = omega arith
ten_pos (suc k) = omega (arith, pow-suc 10 k, ten_pos k)

two_digits : (n k : ℕ) → IsDigitCount 10 1 n (suc (suc k)) → 10 ^ k * 10 ≤ n
two_digits n k f = simp unary_clauses at (f.2 (omega arith))

-- A number below ten has one digit.
one_digit : (n k : ℕ) → n < 10 → IsDigitCount 10 1 n (suc k) → k ≡ 0
one_digit n zero h f = refl
one_digit n (suc k) h f = absurd (omega (arith, two_digits n k f, ten_pos k))

-- The digits in front of the last one hold the tenth.
fewest_tenth : (n k : ℕ) → 10 ≤ n → IsDigitCount 10 1 n (suc k) → IsDigitCount 10 1 (n / 10) k
fewest_tenth n zero h f = absurd (omega (arith, f.1))
fewest_tenth n (suc k) h f = (
  omega arith,
  omega (arith, f.1, pow-suc 10 (suc k)),
  (λ l. simp unary_clauses (let r : 10 ^ k ≤ n / 10 = omega (arith, two_digits n k f) in r)),
)

digits_below_lem : (fuel n k : ℕ) → n < fuel → IsDigitCount 10 1 n k → last_digits 10 k n ≡ digits_below fuel n
digits_below_lem zero n k h f = absurd (omega arith)
digits_below_lem (suc fuel) n zero h f = absurd (omega (arith, f.0))
digits_below_lem (suc fuel) n (suc k) h f = go (dec_lt n 10) (λ l. digits_below_lem fuel (n / 10) k (omega arith) (fewest_tenth n k l f))
  where
    go : Dec (n < 10) → (10 ≤ n → last_digits 10 k (n / 10) ≡ digits_below fuel (n / 10)) → last_digits 10 (suc k) n ≡ digits_below (suc fuel) n
    go (yes l) tenth = rw (last_digit fuel n l, one_digit n k l f, glyph_digit (n % 10) (omega arith)) (ap (λ (d : ℕ). digit d ∷ []) (omega arith))
    go (no l) tenth = rw (more_digits fuel n (omega arith), tenth (omega arith), glyph_digit (n % 10) (omega arith))

pub decimal_is : (n k : ℕ) → IsDigitCount 10 1 n k → last_digits 10 k n ≡ decimal n
unfolding decimal
decimal_is n k f = digits_below_lem (suc n) n k (omega arith) f

-- ---- how many they are
length_below : (fuel n k : ℕ) → n < 10 ^ suc k → length (digits_below fuel n) ≤ suc k
unfolding digits_below
length_below zero n k h = omega arith
length_below (suc fuel) n zero h = rw (last_digit fuel n (omega arith)) (omega arith)
length_below (suc fuel) n (suc k) h = go (dec_lt n 10) (length_below fuel (n / 10) k (omega (arith, pow-suc 10 (suc k))))
  where
    go : Dec (n < 10) → length (digits_below fuel (n / 10)) ≤ suc k → length (digits_below (suc fuel) n) ≤ suc (suc k)
    go (yes l) tenth = rw (last_digit fuel n l) (omega arith)
    go (no l) tenth = rw (more_digits fuel n (omega arith)) (omega (arith, length-append (digits_below fuel (n / 10)) (digit (n % 10) ∷ [])))

-- A number below 10 ^ k has at most k digits.
pub few_digits : (n k : ℕ) → n < 10 ^ suc k → length (decimal n) ≤ suc k
unfolding decimal
few_digits n k h = length_below (suc n) n k h

-- What `io::decimal` writes for a number of eight bytes.
pub decimal_told : {n k : ℕ} {xs : List ℕ} → n < 2 ^ 64 → IsDigitCount 10 1 n k → xs ≡ last_digits 10 k n → (xs ≡ decimal n) × (length xs ≤ 20)
decimal_told {n} {k} h f e = let d = e ∙ decimal_is n k f in (d, rw d (few_digits n 19 (omega arith)))
