-- Two laws of sums that the library has not.
use Prim.Native.Nat.{ℕ, ◌+◌, ◌*◌, ◌≤◌}
use mathlib.Core.List.{List, [], ◌∷◌}
use native.Mathlib.Nat.{mul-le-mul_right}
use native.Mathlib.Omega.{arith}
use Rattle.std.proofs.lemmas.List.Sums.{sum_by-cons, sum_by-le-sum_by}
use Rattle.recurrence.specs.Sums.{sum_over}

module _ {A : Type 0} where
  pub sum_add : (f g h : A → ℕ) → ((a : A) → f a ≤ g a + h a) → (l : List A) → sum_over l f ≤ sum_over l g + sum_over l h
  unfolding sum_over
  sum_add f g h le [] = omega arith
  sum_add f g h le (a ∷ l) = omega (arith, le a, sum_add f g h le l, sum_by-cons f a l, sum_by-cons g a l, sum_by-cons h a l)

  -- Figures that are nowhere smaller, and no larger in all, are the same; so they weigh no more.
  pub sum_same :
      {f g : A → ℕ} (weight : A → ℕ) → ((a : A) → f a ≤ g a) → (l : List A) → sum_over l g ≤ sum_over l f →
      sum_over l (λ a. g a * weight a) ≤ sum_over l (λ a. f a * weight a)
  unfolding sum_over
  sum_same weight le [] all = omega arith
  sum_same {f} {g} weight le (a ∷ l) all =
      let here = le a in
      let rest = sum_by-le-sum_by f g l le in
      let e = sum_by-cons f a l in
      let d = sum_by-cons g a l in
      omega
      (arith, mul-le-mul_right {m = g a} {n = f a} (weight a) (omega arith), sum_same weight le l (omega arith), sum_by-cons (λ b. f b * weight b) a l, sum_by-cons (λ b. g b * weight b) a l)
