-- Document 01, "What sends a plan back", columns "No." and "Place": which number may stand at which place of a plan.
use Rattle.std.specs.Prelude.{ℕ, ◌+◌, ◌≤◌, ◌<◌, ◌≡◌, true}
use Rattle.plan_table.specs.Refusals.{record_refusals, platform_refusals, flow_refusals, end_refusals, has}
use Rattle.plan.specs.Layout.{place}

-- A refusal's number says which record is in fault and what of it, and its place is there: the platform record starts the plan, flow k's record,
-- or the end record behind k flows, starts at `place size k`, behind a platform record of this size.
pub data Listed (size : ℕ) : ℕ → ℕ → Type 0 where
  of_first : (number offset : ℕ) → has record_refusals number offset ≡ true → Listed size number offset
  of_later : (k number offset : ℕ) → k ≤ 64 → has record_refusals number offset ≡ true → Listed size number (place size k + offset)
  of_platform : (number offset : ℕ) → has platform_refusals number offset ≡ true → Listed size number offset
  of_flow : (k number offset : ℕ) → k < 64 → has flow_refusals number offset ≡ true → Listed size number (place size k + offset)
  of_flow_65 : Listed size 6 (place size 64)  -- "its tag"
  of_end : (k number offset : ℕ) → k ≤ 64 → has end_refusals number offset ≡ true → Listed size number (place size k + offset)
