-- The answers as the engine keeps them: an array of 64, with blanks where no flow is answered.
use Rattle.std.specs.Prelude.{List}
use Rattle.plan_values.specs.declared.Platform.{Platform}
use Rattle.plan_values.specs.declared.Flow.{Flow}
use Rattle.plan.specs.Padded.{padded}
use Rattle.model.specs.declared.Verdict.TheVariants.{Waits}
use Rattle.model.specs.declared.Answer.{Answer}
use Rattle.model.specs.Verdicts.{answers}

-- What stands behind the flows: it waits on no flow, and cannot be taken for a bound.
abbrev pub blank_answer : Answer
blank_answer = record { id = 0xFFFF; verdict = Waits 0xFFFF }

abbrev pub answer_array : Platform → List Flow → List Answer
answer_array p fs = padded blank_answer (answers p fs)
