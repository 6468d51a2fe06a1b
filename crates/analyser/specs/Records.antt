-- Document 01, "The reply": a buffer that holds the reply to a plan, record by record (`Tells` of reply's specs/Records).
use Rattle.std.specs.Prelude.{ℕ, ◌+◌, ◌*◌, ◌<◌, ◌≡◌, List, map, length, drop}
use Rattle.framing.specs.Header.{Headed}
use Rattle.plan_values.specs.declared.Flow.{Flow}
use Rattle.plan.specs.Legal.{flow}
use Rattle.model.specs.declared.Verdict.{Verdict}
use Rattle.model.specs.declared.Answer.{Answer}
use Rattle.reply.specs.Records.{Tells}

-- "Each flow's line in the answer holds one of three verdicts."
abbrev pub answer_line : (Flow → Verdict) → Flow → Answer
answer_line answer i = record { id = i.id; verdict = answer i }

-- "For each flow, in plan order": the lines that tell these answers.
abbrev pub answer_lines : List Flow → (Flow → Verdict) → List Answer
answer_lines fs answer = map (answer_line answer) fs

-- A buffer that held `held` holds the reply that tells these answers.
pub record Holds (fs : List Flow) (answer : Flow → Verdict) (held is : List ℕ) : Type 0 where
  -- "For each flow, in plan order"
  pub each : (k : ℕ) → k < length fs → Tells is k (answer_line answer (flow fs k))
  -- "Then 7F 0000."
  pub end : Headed is (16 * length fs) 0x7F 0
  -- "A longer buffer keeps its further bytes."
  pub further : drop (16 * length fs + 3) is ≡ drop (16 * length fs + 3) held
  pub long : length is ≡ length held
