-- Document 01, "Figures to meet": the starred rows, all of them, from the bytes of P with each change made in the bytes.
use Prim.Native.Nat.{ℕ}
use mathlib.Core.Path.{◌≡◌, refl}
use mathlib.Core.Bool.{cond}
use mathlib.Core.List.{List, [], ◌∷◌, map}
use lib.Dec.{eqb}
use lib.ListN.{take, set}
use Rattle.framing.specs.First.{◌when◌else◌}
use Rattle.framing.specs.Put.{put}
use Rattle.plan.specs.declared.Plan.{Plan}
use Rattle.std.specs.Prelude.{Result, Ok, Err}
use Rattle.framing.specs.Returned.{outcome}
use Rattle.framing.specs.declared.returned.Refusal.{Refusal}
use Rattle.plan_table.specs.Table.{tag_of, six_or_seven}
use Rattle.plan_values.specs.Values.{priority_flits_at}
use Rattle.plan_checks.specs.Checks.{header_at, tagged_at, frame_at, clash_at, tail_at, rest_at}
use Rattle.plan.specs.Records.{fields_from, ◌then◌, body_at, record_at}
use Rattle.plan.specs.Reading.{accepted, refused, plan_in, after, records, read_plan}
use Rattle.plan.specs.PlanP.{P, with_seventh}
use Rattle.mesh.specs.Mesh.{hops, along, xy}
use Rattle.mesh.specs.Shared.{on, domain, first_from}
use Rattle.recurrence.specs.Rounding.{up}
use Rattle.recurrence.specs.Sums.{sum_over}
use Rattle.recurrence.specs.ComesTo.{comes_to_from, comes_to}
use Rattle.model.specs.declared.Verdict.{Verdict}
use Rattle.model.specs.declared.Verdict.TheVariants.{Bounded, Late, Waits}
use Rattle.model.specs.declared.Answer.{Answer}
use Rattle.model.specs.Latency.{method_used, latency}
use Rattle.model.specs.Interference.{direct_for, indirect_for, comes_before, those}
use Rattle.model.specs.Delays.{allowance, weight, term, terms}
use Rattle.model.specs.Verdicts.{highest, judged, judge, verdict_below, verdict, answers}

-- A row of the table: the bytes of a plan, a flow of it by its id, and the result.
pub record Row : Type 0 where
  pub bytes : List ℕ
  pub flow : ℕ
  pub result : Verdict

abbrev row : List ℕ → ℕ → Verdict → Row
row bytes flow result = record { bytes = bytes; flow = flow; result = result }

-- ---- the changes to P
abbrev method : ℕ → List ℕ → List ℕ
method number s = set s 8 number

abbrev buffer : ℕ → List ℕ → List ℕ
buffer flits s = set s 7 flits

-- "flow 3 deadline 328", 327; "flow 3 period and deadline 400"; "flow 5 deadline 335", 131; "flow 2 goes 0 to 1 (upstream)"
abbrev deadline_328 : List ℕ
deadline_328 = put P 47 (0x00 ∷ 0x00 ∷ 0x01 ∷ 0x48 ∷ [])

abbrev deadline_327 : List ℕ
deadline_327 = put P 47 (0x00 ∷ 0x00 ∷ 0x01 ∷ 0x47 ∷ [])

abbrev period_400 : List ℕ
period_400 = put P 43 (0x00 ∷ 0x00 ∷ 0x01 ∷ 0x90 ∷ 0x00 ∷ 0x00 ∷ 0x01 ∷ 0x90 ∷ [])

abbrev deadline_335 : List ℕ
deadline_335 = put P 70 (0x00 ∷ 0x00 ∷ 0x01 ∷ 0x4F ∷ [])

abbrev deadline_131 : List ℕ
deadline_131 = put P 70 (0x00 ∷ 0x00 ∷ 0x00 ∷ 0x83 ∷ [])

abbrev goes_0_to_1 : List ℕ
goes_0_to_1 = put P 16 (0 ∷ 1 ∷ [])

abbrev pub table : List Row
table =
    row (method 1 P) 5 (Bounded 336 2)  -- method 1
    ∷ row (method 2 P) 5 (Bounded 460 2)  -- method 2
    ∷ row (method 0 P) 5 (Bounded 396 2)  -- method 0: document 02, L6, "Method 0 on P now gives 396 for flow 5"
    ∷ row P 5 (Bounded 396 2)  -- none
    ∷ row (buffer 2 P) 5 (Bounded 348 2)  -- buffer 2
    ∷ row deadline_328 3 (Bounded 328 2)  -- flow 3 deadline 328
    ∷ row deadline_327 3 (Late 1)  -- flow 3 deadline 327
    ∷ row deadline_327 5 (Waits 3)
    ∷ row (method 1 period_400) 5 (Bounded 540 3)  -- flow 3 period and deadline 400, method 1
    ∷ row (method 2 period_400) 5 (Bounded 788 3)  -- the same, method 2
    ∷ row (method 3 period_400) 5 (Bounded 660 3)  -- the same, method 3
    ∷ row (method 1 deadline_335) 5 (Late 1)  -- flow 5 deadline 335, method 1
    ∷ row deadline_131 5 (Late 0)  -- flow 5 deadline 131
    ∷ row (method 0 goes_0_to_1) 5 (Bounded 336 2)  -- flow 2 goes 0 to 1 (upstream): under every method
    ∷ row (method 1 goes_0_to_1) 5 (Bounded 336 2)
    ∷ row (method 2 goes_0_to_1) 5 (Bounded 336 2)
    ∷ row (method 3 goes_0_to_1) 5 (Bounded 336 2)
    ∷ []

-- The answers to a plan as it was read, if it was accepted; and the verdicts in the lines of the flow with an id.
unfoldable pub answered : Result (Unit {0}) Refusal → Plan → List Answer
answered (Ok accepted) plan = answers plan.platform (take plan.count plan.flows)
answered (Err refusal) plan = []

unfoldable pub lines_of : ℕ → List Answer → List Verdict
lines_of id [] = []
lines_of id (a ∷ rest) = cond (eqb a.id id) (a.verdict ∷ lines_of id rest) (lines_of id rest)

abbrev pub results_in : List ℕ → ℕ → List Verdict
results_in bytes flow = lines_of flow (answered (outcome (read_plan bytes)) (plan_in (read_plan bytes)))

-- Document 02, L7: P with a seventh byte. With 2 there C is 64, 206 and 134, and B is 30 as in P; with 1 and 8 it is 133 and 140 for flow 5.
abbrev pub seventh_table : List Row
seventh_table =
    row (with_seventh 2) 2 (Bounded 64 1)  -- 62 + 2
    ∷ row (with_seventh 2) 3 (Bounded 334 2)  -- 206 + 2 x 64
    ∷ row (with_seventh 2) 5 (Bounded 400 2)  -- 134 + 206 + 2 x 30
    ∷ row (method 1 (with_seventh 2)) 5 (Bounded 340 2)  -- 134 + 206
    ∷ row (method 2 (with_seventh 2)) 5 (Bounded 468 2)  -- 134 + 206 + 2 x 64
    ∷ row (method 0 (with_seventh 2)) 5 (Bounded 400 2)
    ∷ row (with_seventh 1) 5 (Bounded 398 2)
    ∷ row (with_seventh 8) 5 (Bounded 412 2)
    ∷ []

-- Each row's bytes are accepted, and its flow has one line in the answer, with the row's result.
pub figures : map (λ r. results_in r.bytes r.flow) table ≡ map (λ r. r.result ∷ []) table
unfolding tag_of six_or_seven priority_flits_at header_at tagged_at frame_at fields_from clash_at tail_at rest_at ◌then◌ body_at record_at accepted refused after records read_plan ◌when◌else◌ hops along xy on domain first_from up sum_over comes_to_from comes_to method_used latency direct_for indirect_for comes_before those allowance weight term terms highest judged judge verdict_below verdict answers answered lines_of
figures = refl

pub seventh_figures : map (λ r. results_in r.bytes r.flow) seventh_table ≡ map (λ r. r.result ∷ []) seventh_table
unfolding tag_of six_or_seven priority_flits_at header_at tagged_at frame_at fields_from clash_at tail_at rest_at ◌then◌ body_at record_at accepted refused after records read_plan ◌when◌else◌ hops along xy on domain first_from up sum_over comes_to_from comes_to method_used latency direct_for indirect_for comes_before those allowance weight term terms highest judged judge verdict_below verdict answers answered lines_of
seventh_figures = refl
