-- Document 01, "Verdicts and rounds", and demands 2 and 3: what is allowed as the answers to a plan, without a way to find them.
-- The deadline of these sentences is `limit`: by document 02 (L3) it is read as the deadline less the flow's own jitter.
use Rattle.std.specs.Prelude.{ℕ, ◌≤◌, ◌<◌, ◌≡◌, true, false, List, length}
use Rattle.plan_values.specs.declared.Platform.{Platform}
use Rattle.plan_values.specs.declared.Flow.{Flow}
use Rattle.plan.specs.Legal.{flow}
use Rattle.recurrence.specs.Verdicts.{Bound, NoBound, Rounds}
use Rattle.model.specs.Latency.{latency, limit}
use Rattle.model.specs.Interference.{direct_for}
use Rattle.model.specs.Verdicts.{is_bounded, recurrence_of}
use Rattle.model.specs.declared.Verdict.{Verdict}
use Rattle.model.specs.declared.Verdict.TheVariants.{Bounded, Late, Waits}

-- "some direct flow isn't bounded": flow k of the plan is one for i.
pub record Unbounded (p : Platform) (fs : List Flow) (answer : Flow → Verdict) (i : Flow) (k : ℕ) : Type 0 where
  pub inside : k < length fs
  pub direct : direct_for p i (flow fs k) ≡ true
  pub unbounded : is_bounded (answer (flow fs k)) ≡ false

-- "all its direct interferers are bounded"
abbrev pub AllBounded : Platform → List Flow → (Flow → Verdict) → Flow → Type 0
AllBounded p fs answer i = (k : ℕ) → Unbounded p fs answer i k → ⊥

-- "Waits (2): some direct flow isn't bounded. It names the unbounded direct flow of highest priority."
pub record IsWaiting (p : Platform) (fs : List Flow) (answer : Flow → Verdict) (i : Flow) (id : ℕ) : Type 0 where
  pub place : ℕ
  pub waits : Unbounded p fs answer i place
  pub names : id ≡ (flow fs place).id
  pub highest : (k : ℕ) → Unbounded p fs answer i k → (flow fs place).priority ≤ (flow fs k).priority

-- "Bounded (0): the least whole number not above the deadline that solves the recurrence", with its rounds.
pub record IsBounded (p : Platform) (fs : List Flow) (answer : Flow → Verdict) (i : Flow) (r k : ℕ) : Type 0 where
  pub free : AllBounded p fs answer i
  pub bound : Bound (recurrence_of p fs answer i) (limit i) r
  pub rounds : Rounds (recurrence_of p fs answer i) (latency p i) (limit i) k

-- "Late (1): no direct flow is unbounded and no solution at or below the deadline exists", with its rounds.
pub record IsLate (p : Platform) (fs : List Flow) (answer : Flow → Verdict) (i : Flow) (k : ℕ) : Type 0 where
  pub free : AllBounded p fs answer i
  pub none : NoBound (recurrence_of p fs answer i) (limit i)
  pub rounds : Rounds (recurrence_of p fs answer i) (latency p i) (limit i) k

-- What a verdict says of flow i.
abbrev pub Says : Platform → List Flow → (Flow → Verdict) → Flow → Verdict → Type 0
Says p fs answer i (Bounded r k) = IsBounded p fs answer i r k
Says p fs answer i (Late k) = IsLate p fs answer i k
Says p fs answer i (Waits id) = IsWaiting p fs answer i id

-- The answers to a plan are right: each flow's verdict says what holds of it, given the others'.
abbrev pub Right : Platform → List Flow → (Flow → Verdict) → Type 0
Right p fs answer = (k : ℕ) → k < length fs → Says p fs answer (flow fs k) (answer (flow fs k))
