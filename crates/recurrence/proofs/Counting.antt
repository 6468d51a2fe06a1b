-- How many rounds there are at most, by a count N that rises whenever the right side does.
use Prim.Native.Nat.{ℕ, zero, suc, ◌+◌, ◌-◌, ◌≤◌, ◌<◌}
use mathlib.Core.Logic.{inl, inr}
use native.Mathlib.Nat.{le_of_eq}
use native.Mathlib.Omega.{arith}
use borrow.Author.Count.{below_more}
use Rattle.recurrence.specs.Verdicts.{Bound, NoBound, replaced, GoesOn, Rounds}
use Rattle.recurrence.proofs.Climbing.{Rising, replaced_below, replaced_up, replaced_raised, replaced_far}

-- N never falls, and rises where F does.
pub record Counts (N F : ℕ → ℕ) : Type 0 where
  pub mono : {x y : ℕ} → x ≤ y → N x ≤ N y
  pub rises : {x y : ℕ} → x ≤ y → F x < F y → N x < N y

module _ {F : ℕ → ℕ} {c : ℕ} (rising : Rising F c) where
  -- Up to the last replacement x is not above the limit.
  within : {limit : ℕ} (k : ℕ) → c ≤ limit → GoesOn F c limit k → replaced F c k ≤ limit
  unfolding replaced
  within zero low on = low
  within {limit} (suc k) low on = let n : ¬ (limit < F (replaced F c k)) = λ h. on k (omega arith) (inr h) in omega arith

  -- Each replacement but possibly the last raises x by one or more.
  pub rounds_far : (limit k : ℕ) → Rounds F c limit k → k ≤ 1 + (limit - c)
  unfolding Rounds
  rounds_far limit zero a = omega arith
  rounds_far limit (suc k) a = omega (arith, replaced_far rising limit k a.1, within k a.0 a.1)

  module _ {N : ℕ → ℕ} (count : Counts N F) where
    -- k + 1 replacements that raise x raise the count by k or more.
    counted : (k : ℕ) → ((i : ℕ) → i < k + 1 → replaced F c i < F (replaced F c i)) → k + N c ≤ N (replaced F c k)
    unfolding replaced
    counted zero raised = omega arith
    counted (suc k) raised =
        omega (arith, counted k (λ i l. raised i (omega arith)), count.rises (replaced_up rising k) (raised (suc k) (omega arith)))

    pub bounded_count : (limit r k : ℕ) → Bound F limit r → Rounds F c limit k → k + N c ≤ 2 + N r
    unfolding Rounds replaced
    bounded_count limit r zero b a = omega (arith, rising.base r, b.solves, b.within)
    bounded_count limit r (suc zero) b a = omega (arith, count.mono (replaced_below rising 0 (le_of_eq b.solves)))
    bounded_count limit r (suc (suc k)) b a =
        omega
        (arith, counted k (λ i l. replaced_raised rising a.1 i (omega arith)), count.mono (replaced_below rising k (le_of_eq b.solves)))

    pub late_count : (limit k : ℕ) → c ≤ limit → NoBound F limit → Rounds F c limit k → k + N c ≤ 1 + N limit
    unfolding Rounds
    late_count limit zero low none a = omega arith
    late_count limit (suc k) low none (_, on, inl e) = absurd (none (replaced F c k) (within k low on) e)
    late_count limit (suc k) low none (_, on, inr high) =
        let w = within k low on in
        omega (arith, counted k (below_more _ k (replaced_raised rising on) (omega arith)), count.mono w)
