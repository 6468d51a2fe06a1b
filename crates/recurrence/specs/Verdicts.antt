-- Document 01, "Verdicts and rounds", of a recurrence R = F(R) from the latency c. What a bound is held against is the limit.
use Rattle.std.specs.Prelude.{ℕ, zero, suc, ◌≤◌, ◌<◌, ◌≡◌, ◌⊎◌}
use Rattle.recurrence.specs.declared.Settled.{Settled}
use Rattle.recurrence.specs.declared.Settled.TheVariants.{Bounded, Late}

-- "Bounded (0): the least whole number not above the deadline that solves the recurrence." It is the least of all whole numbers.
pub record Bound (F : ℕ → ℕ) (limit r : ℕ) : Type 0 where
  pub within : r ≤ limit
  pub solves : F r ≡ r
  pub least : (x : ℕ) → F x ≡ x → r ≤ x

-- "Late (1): .. no solution at or below the deadline exists."
abbrev pub NoBound : (ℕ → ℕ) → ℕ → Type 0
NoBound F limit = (x : ℕ) → x ≤ limit → F x ≡ x → ⊥

abbrev pub RightVerdict : (ℕ → ℕ) → ℕ → Settled → Type 0
RightVerdict F limit (Bounded r k) = Bound F limit r
RightVerdict F limit (Late k) = NoBound F limit

-- "Rounds: start at x = C. .. replace x by the right side": x after k replacements.
unfoldable pub replaced : (ℕ → ℕ) → ℕ → ℕ → ℕ
replaced F c zero = c
replaced F c (suc k) = F (replaced F c k)

-- "until the new value equals the old or is above the deadline": the replacement of x is the last.
abbrev pub Last : (ℕ → ℕ) → ℕ → ℕ → Type 0
Last F limit x = (F x ≡ x) ⊎ (limit < F x)

-- None of the first k replacements is the last.
abbrev pub GoesOn : (ℕ → ℕ) → ℕ → ℕ → ℕ → Type 0
GoesOn F c limit k = (i : ℕ) → i < k → Last F limit (replaced F c i) → ⊥

-- "If C is above the deadline, zero. Otherwise .. each replacement counts one."
unfoldable pub Rounds : (ℕ → ℕ) → ℕ → ℕ → ℕ → Type 0
Rounds F c limit zero = limit < c
Rounds F c limit (suc k) = (c ≤ limit) × GoesOn F c limit k × Last F limit (replaced F c k)

abbrev pub rounds_of : Settled → ℕ
rounds_of (Bounded r k) = k
rounds_of (Late k) = k

-- What document 01 allows for one recurrence. Two allowed outcomes coincide.
pub record Allowed (F : ℕ → ℕ) (c limit : ℕ) (o : Settled) : Type 0 where
  pub verdict : RightVerdict F limit o
  pub rounds : Rounds F c limit (rounds_of o)
