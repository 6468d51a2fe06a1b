-- Document 01, "The plan's bytes": the values that an accepted plan holds, for the crates above to build on.
use Rattle.std.specs.Prelude.{ℕ, ◌*◌, ◌≤◌, ◌<◌, ◌≡◌, List, length, get_or}
use Rattle.plan_values.specs.Values.{blank_flow}
use Rattle.plan_values.specs.declared.Platform.{Platform}
use Rattle.plan_values.specs.declared.Flow.{Flow}

-- lowest..highest
abbrev pub Within : ℕ → ℕ → ℕ → Type 0
Within lowest highest value = (lowest ≤ value) × (value ≤ highest)

-- The table's line "01 platform".
pub record LegalPlatform (p : Platform) : Type 0 where
  pub columns : Within 1 8 p.columns
  pub rows : Within 1 8 p.rows
  pub link : Within 1 16 p.link
  pub routing : Within 0 16 p.routing
  pub buffer : Within 1 64 p.buffer
  pub method : Within 0 3 p.method
  pub priority_flits : Within 0 8 p.priority_flits  -- "priority flits 1..8 .. A six-byte record means zero"

-- The table's line "02 flow", and that the source is not the destination (refusal 9).
pub record LegalFlow (p : Platform) (f : Flow) : Type 0 where
  pub id : Within 0 65534 f.id
  pub priority : Within 1 65535 f.priority
  pub source : f.source < p.columns * p.rows
  pub destination : f.destination < p.columns * p.rows
  pub flits : Within 1 65535 f.flits
  pub period : Within 1 1_000_000_000 f.period
  pub deadline : Within 1 f.period f.deadline
  pub jitter : Within 0 1_000_000_000 f.jitter
  pub moves : f.source ≡ f.destination → ⊥

-- Flow k of a plan, counted from 0.
abbrev pub flow : List Flow → ℕ → Flow
flow fs k = get_or fs k blank_flow

-- No flow has the value of an earlier one (refusals 7 and 8).
abbrev pub Distinct : (Flow → ℕ) → List Flow → Type 0
Distinct value fs = (j k : ℕ) → j < k → k < length fs → value (flow fs j) ≡ value (flow fs k) → ⊥

-- "One platform record, then 0 to 64 flows": all values allowed, no id and no priority twice.
pub record Legal (p : Platform) (fs : List Flow) : Type 0 where
  pub platform : LegalPlatform p
  pub few : length fs ≤ 64
  pub each : (k : ℕ) → k < length fs → LegalFlow p (flow fs k)
  pub ids : Distinct (λ f. f.id) fs
  pub priorities : Distinct (λ f. f.priority) fs
