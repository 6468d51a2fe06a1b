-- Document 01, "The program `bounds`": "Numbers are decimal."
use Rattle.std.specs.Prelude.{ℕ, zero, suc, ◌+◌, ◌/◌, ◌%◌, true, false, List, [], ◌∷◌, ◌++◌, ltb}

-- The byte of a digit: 48 is "0".
abbrev pub digit : ℕ → ℕ
digit d = 48 + d

-- The digits of a number below `fuel`: those of its tenth in front of its last one.
unfoldable pub digits_below : ℕ → ℕ → List ℕ
digits_below zero n = []
digits_below (suc fuel) n = elim (ltb n 10) [
  | true ↦ digit n ∷ []
  | false ↦ digits_below fuel (n / 10) ++ digit (n % 10) ∷ []
]

unfoldable pub decimal : ℕ → List ℕ
decimal n = digits_below (suc n) n
