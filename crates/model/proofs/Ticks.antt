-- Document 02, "Deadlines run from the tick" (L3), without a difference: a jitter above the deadline is late, and nothing hides it.
use Prim.Native.Nat.{ℕ, ◌+◌, ◌≤◌, ◌<◌}
use mathlib.Core.Path.{◌≡◌}
use mathlib.Core.Logic.{◌↔◌}
use mathlib.Core.List.{List}
use native.Mathlib.Omega.{arith}
use lib.ListN.{length, get_or}
use Rattle.plan_values.specs.declared.Platform.{Platform}
use Rattle.plan_values.specs.declared.Flow.{Flow}
use Rattle.plan.specs.Legal.{flow}
use Rattle.plan.specs.Reading.{accepted, read_plan}
use Rattle.plan.proofs.Exact.{legal}
use Rattle.recurrence.specs.Verdicts.{Rounds}
use Rattle.model.specs.declared.Verdict.TheVariants.{Bounded, Late}
use Rattle.model.specs.declared.Answer.{Answer}
use Rattle.model.specs.Latency.{latency, limit}
use Rattle.model.specs.Verdicts.{recurrence_of, verdict, answers}
use Rattle.model.specs.Rules.{AllBounded}
use Rattle.model.proofs.Fits.{latency_some}
use Rattle.model.proofs.FlowLines.{VerdictLine, verdict_line}

-- Whatever takes time is above the limit exactly if, with the jitter, it is above the deadline.
pub above_limit : (f : Flow) (x : ℕ) → 1 ≤ x → (limit f < x) ↔ (f.deadline < x + f.jitter)
above_limit f x some = ((λ h. omega arith), λ h. omega arith)

-- Without jitter nothing changes: the limit is the deadline, as in document 01.
pub no_jitter : (f : Flow) → f.jitter ≡ 0 → limit f ≡ f.deadline
no_jitter f e = omega arith

-- ---- for every flow of an accepted plan and its line in the answer
module _ (s : List ℕ) (p : Platform) (fs : List Flow) (e : read_plan s ≡ accepted p fs) (blank : Answer) (k : ℕ) (l : k < length fs) where
  line : VerdictLine p fs (flow fs k) (get_or (answers p fs) k blank)
  line = verdict_line s p fs e blank k l

  some : 1 ≤ latency p (flow fs k)
  some = latency_some (legal s p fs e).platform ((legal s p fs e).each k l)

  -- What solves the recurrence takes at least the unloaded latency.
  takes_time : (x : ℕ) → recurrence_of p fs (verdict p fs) (flow fs k) x ≡ x → (1 ≤ x) × (latency p (flow fs k) ≤ x)
  takes_time x solves = omega (arith, some)

  -- "up to the jitter is already gone when the packet is released": a bounded flow's bound plus its jitter is at most its deadline.
  pub deadline_met : (r n : ℕ) → (get_or (answers p fs) k blank).verdict ≡ Bounded r n → r + (flow fs k).jitter ≤ (flow fs k).deadline
  deadline_met r n q =
      let (free, b) = (line.bounded r).0 (n, q) in
      let low : (flow fs k).deadline < r + (flow fs k).jitter → ⊥ = λ high. omega (arith, (above_limit (flow fs k) r (takes_time r b.solves).0).1 high, b.within) in
      omega arith

  -- Whatever solves a late flow's recurrence is, plus its jitter, above its deadline.
  pub deadline_missed : (n : ℕ) → (get_or (answers p fs) k blank).verdict ≡ Late n → (x : ℕ) → recurrence_of p fs (verdict p fs) (flow fs k) x ≡ x → (flow fs k).deadline < x + (flow fs k).jitter
  deadline_missed n q x solves =
      let (free, none) = line.late.0 (n, q) in
      let high : x ≤ limit (flow fs k) → ⊥ = λ low. none x low solves in
      (above_limit (flow fs k) x (takes_time x solves).0).0 (omega arith)

  -- "if C plus jitter is above the deadline, a flow that doesn't wait is late with zero rounds", and only then.
  pub late_at_once : AllBounded p fs (verdict p fs) (flow fs k) → ((get_or (answers p fs) k blank).verdict ≡ Late 0) ↔ ((flow fs k).deadline < latency p (flow fs k) + (flow fs k).jitter)
  unfolding Rounds
  late_at_once free =
      let above = above_limit (flow fs k) (latency p (flow fs k)) some in (
        (λ q. above.0 ((line.exactly (Late 0)).0 q).rounds),
        (λ h. (line.exactly (Late 0)).1 (record { free = free; none = λ x low solves. omega (arith, takes_time x solves, above.1 h); rounds = above.1 h })),
      )
