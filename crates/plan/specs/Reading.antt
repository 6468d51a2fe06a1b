-- Document 01, "What sends a plan back": from any bytes to a plan, or to a refusal: what is at fault, and its place.
use Rattle.std.specs.Prelude.{ℕ, zero, suc, ◌+◌, List, [], ◌∷◌, ◌++◌, length, Result, Ok, Err}
use Rattle.framing.specs.Header.{length_at}
use Rattle.plan_values.specs.Values.{platform_at, flow_at, blank_platform, blank_flow}
use Rattle.plan.specs.Padded.{padded}
use Rattle.plan.specs.Records.{record_at}
use Rattle.plan_values.specs.declared.Platform.{Platform}
use Rattle.plan_values.specs.declared.Flow.{Flow}
use Rattle.plan.specs.declared.Plan.{Plan}
use Rattle.framing.specs.declared.returned.Fault.{Fault}
use Rattle.framing.specs.declared.returned.Fault.TheVariants.{Cut}
use Rattle.framing.specs.declared.returned.Refusal.{Refusal}
use Rattle.plan_table.specs.declared.Kind.{Kind}
use Rattle.plan_table.specs.declared.Kind.TheVariants.{PlatformRecord, FlowRecord, EndRecord}

abbrev pub plan_of : Platform → List Flow → Plan
plan_of p fs = record { platform = p; flows = padded blank_flow fs; count = length fs }

unfoldable pub accepted : Platform → List Flow → Result Plan Refusal
accepted p fs = Ok (plan_of p fs)

unfoldable pub refused : Fault → ℕ → Result Plan Refusal
refused fault place = Err (fault, place)

-- The plan of a reading; where it is refused none stands there, and blanks are in its place.
abbrev pub plan_in : Result Plan Refusal → Plan
plan_in (Ok plan) = plan
plan_in (Err refusal) = plan_of blank_platform []

-- A record in fault refuses the plan; without a fault the end record accepts it, and any other leads on.
unfoldable pub after : Result Kind Refusal → Result Plan Refusal → Result Plan Refusal → Result Plan Refusal → Result Plan Refusal
after (Err refusal) ended platform flow = refused refusal.0 refusal.1
after (Ok PlatformRecord) ended platform flow = platform
after (Ok FlowRecord) ended platform flow = flow
after (Ok EndRecord) ended platform flow = ended

-- "The first record in fault decides": the reading from the record at `at` on. Each turn takes 3 bytes or more, so that
-- one turn more than there are bytes is enough (`turns_enough` of proofs/Fuel shows that more change nothing).
unfoldable pub records : ℕ → List ℕ → ℕ → Platform → List Flow → Result Plan Refusal
records zero s at p fs = refused Cut at
records (suc turns) s at p fs =
    let platform = records turns s (at + 3 + length_at s at) (platform_at s at) fs in
    let flow = records turns s (at + 23) p (fs ++ flow_at s at ∷ []) in
    after (record_at s at p fs) (accepted p fs) platform flow

-- What the reader answers on any bytes.
unfoldable pub read_plan : List ℕ → Result Plan Refusal
read_plan s = records (suc (length s)) s 0 blank_platform []
