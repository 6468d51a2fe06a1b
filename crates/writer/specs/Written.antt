-- Document 02, L1: what `write` returns, and what it leaves in the buffer lent to it.
use Rattle.std.specs.Prelude.{ℕ, ◌-◌, ◌≡◌, List, ◌++◌, length, take, replicate}
use Rattle.framing.specs.Returned.{outcome, returned_by, left_by}
use Rattle.framing.specs.declared.returned.Returned.{Returned}
use Rattle.plan.specs.Reading.{accepted, read_plan}
use Rattle.plan_values.specs.Values.{blank_flow}
use Rattle.plan_values.specs.declared.Flow.{Flow}
use Rattle.plan_values.specs.declared.Platform.{Platform}
use Rattle.writer_bytes.specs.PlanBytes.{plan_bytes}

-- The list of flows: the first `count` of the array's 64. A longer list goes on behind them with flows that the array has
-- no place for; blanks stand for them, and which they are changes nothing (`whatever_follows` of proofs/Longer).
abbrev pub listed : List Flow → ℕ → List Flow
listed flows count = take count flows ++ replicate (count - 64) blank_flow

-- "Refusals: the number and place that the reader would give for the bytes as they would have been written; then 11 if the
-- buffer is shorter than the plan."
abbrev pub returned : Platform → List Flow → ℕ → Returned
returned p fs room = returned_by (outcome (read_plan (plan_bytes p fs))) (length (plan_bytes p fs)) room

-- "The buffer is untouched by a refusal."
abbrev pub left : Platform → List Flow → List ℕ → List ℕ
left p fs held = left_by (outcome (read_plan (plan_bytes p fs))) (length (plan_bytes p fs)) (plan_bytes p fs) held

-- "Reading the written bytes gives back the same platform and flows in the same order": where 0 was returned, with the plan's length.
pub record GivenBack (p : Platform) (fs : List Flow) (r : Returned) (is : List ℕ) : Type 0 where
  pub same : r.number ≡ 0 → read_plan (take r.value is) ≡ accepted p fs
