-- "sum over .."
use Rattle.std.specs.Prelude.{ℕ, List, sum_by}

-- The sum over the members of a list of a figure that each has.
unfoldable pub sum_over : {A : Type 0} → List A → (A → ℕ) → ℕ
sum_over l f = sum_by f l
