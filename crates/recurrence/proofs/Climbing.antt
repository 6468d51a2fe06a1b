-- Replacing x by a right side that never falls leads to the least solution or past the limit. The loop of `settle` over the rounds.
use Prim.Native.Nat.{ℕ, zero, suc, ◌+◌, ◌≤◌, ◌<◌}
use mathlib.Core.Path.{◌≡◌, refl, sym}
use mathlib.Core.Logic.{inl, inr, ⊎_elim}
use native.Mathlib.Nat.{le_refl, le_of_eq}
use native.Mathlib.Numerals.{add-one}
use native.Mathlib.Omega.{arith}
use lib.Arith.{lt_of_le-ne}
use borrow.Author.Count.{below_none, below_more}
use Rattle.recurrence.specs.declared.Settled.TheVariants.{Bounded, Late}
use Rattle.recurrence.specs.Verdicts.{replaced, Last, GoesOn, Rounds, Allowed}

-- A right side that never falls and is nowhere below c.
pub record Rising (F : ℕ → ℕ) (c : ℕ) : Type 0 where
  pub mono : {x y : ℕ} → x ≤ y → F x ≤ F y
  pub base : (x : ℕ) → c ≤ F x

-- x is where k replacements have led, none of which was the last.
pub record Climbing (F : ℕ → ℕ) (c limit x k : ℕ) : Type 0 where
  pub reached : x ≡ replaced F c k
  pub within : x ≤ limit
  pub goes_on : GoesOn F c limit k

module _ {F : ℕ → ℕ} {c : ℕ} (rising : Rising F c) where
  -- x never passes a number that F does not raise, such as a solution.
  pub replaced_below : (k : ℕ) {y : ℕ} → F y ≤ y → replaced F c k ≤ y
  unfolding replaced
  replaced_below zero {y} h = omega (arith, rising.base y)
  replaced_below (suc k) {y} h = omega (arith, rising.mono (replaced_below k h))

  -- No replacement lowers x.
  pub replaced_up : (k : ℕ) → replaced F c k ≤ F (replaced F c k)
  unfolding replaced
  replaced_up zero = rising.base c
  replaced_up (suc k) = rising.mono (replaced_up k)

  -- Each that is not the last raises it.
  pub replaced_raised : {limit k : ℕ} → GoesOn F c limit k → (i : ℕ) → i < k → replaced F c i < F (replaced F c i)
  replaced_raised on i l = lt_of_le-ne (replaced_up i) (λ e. on i l (inl (sym e)))

  pub replaced_far : (limit k : ℕ) → GoesOn F c limit k → c + k ≤ replaced F c k
  unfolding replaced
  replaced_far limit zero on = omega arith
  replaced_far limit (suc k) on = omega (arith, replaced_raised on k (le_refl _), replaced_far limit k (λ i l. on i (omega arith)))

  -- The climb starts at c, unless that is above the limit.
  pub late_at_once : {limit : ℕ} → limit < c → Allowed F c limit (Late 0)
  unfolding Rounds
  late_at_once h = record { verdict = λ x low e. omega (arith, rising.base x); rounds = h }

  pub climbing_none : {limit : ℕ} → c ≤ limit → Climbing F c limit c 0
  unfolding replaced
  climbing_none h = record { reached = refl; within = h; goes_on = below_none _ }

  -- It has come as far as its rounds, or further.
  pub climbing_far : {limit x k : ℕ} → Climbing F c limit x k → c + k ≤ x
  climbing_far {limit} {x} {k} s = rw s.reached (replaced_far limit k s.goes_on)

  -- The next replacement, of x by y.
  module _ {limit x k y : ℕ} (s : Climbing F c limit x k) (e : y ≡ F x) where
    last : Last F limit x → Rounds F c limit (k + 1)
    unfolding Rounds
    last end = rw add-one (omega (arith, climbing_far s, s.within), s.goes_on, rw (← s.reached) end)

    -- y equals x: the bound.
    pub climbing_bounded : y ≡ x → Allowed F c limit (Bounded x (k + 1))
    climbing_bounded same =
        let least : (r : ℕ) → F r ≡ r → x ≤ r = λ r h. rw s.reached (replaced_below k (le_of_eq h)) in
        record { verdict = record { within = s.within; solves = cc; least = least }; rounds = last (inl (cc)) }

    -- y is above the limit: late.
    pub climbing_late : limit < y → Allowed F c limit (Late (k + 1))
    unfolding replaced
    climbing_late high =
        let least : (r : ℕ) → F r ≡ r → F x ≤ r = λ r h. rw s.reached (replaced_below (suc k) (le_of_eq h)) in
        record { verdict = λ r low h. omega (arith, least r h); rounds = last (inr (omega arith)) }

    -- Neither: y is above x, and the climb goes on.
    module _ (new : y ≡ x → ⊥) where
      pub climbing_raised : x < y
      climbing_raised = let h : x ≤ F x = rw s.reached (replaced_up k) in omega arith

      pub climbing_more : y ≤ limit → Climbing F c limit y (k + 1)
      unfolding replaced
      climbing_more low =
          let not_last : Last F limit (replaced F c k) → ⊥ = rw (← s.reached) (⊎_elim (λ h. new (cc)) (λ high. omega arith)) in
          record { reached = rw (add-one, ← s.reached) e; within = low; goes_on = below_more _ k s.goes_on not_last }
