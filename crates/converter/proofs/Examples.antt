-- Document 02, L6, computed from bytes: P and plans made of it, what a conversion returns, and what stands in them then.
use Prim.Native.Nat.{ℕ}
use mathlib.Core.Path.{◌≡◌, refl}
use mathlib.Core.List.{List, [], ◌∷◌, ◌++◌, map}
use lib.ListN.{take, set, replicate}
use Rattle.framing.specs.First.{◌when◌else◌}
use Rattle.framing.specs.Each.{each}
use Rattle.framing.specs.Returned.{refused_with, accepted_with, room_for, put_into, returned_by, left_by, value_by}
use Rattle.framing.specs.declared.returned.Returned.{Returned}
use Rattle.plan_table.specs.Table.{tag_of, six_or_seven}
use Rattle.plan_values.specs.Values.{priority_flits_at, blank_platform}
use Rattle.plan_checks.specs.Checks.{header_at, tagged_at, frame_at, clash_at, tail_at, rest_at}
use Rattle.plan.specs.Records.{fields_from, ◌then◌, body_at, record_at}
use Rattle.plan.specs.Reading.{accepted, refused, after, records, read_plan}
use Rattle.plan.specs.PlanP.{P, with_seventh}
use Rattle.mesh.specs.Mesh.{hops, along, xy}
use Rattle.mesh.specs.Shared.{on, domain, first_from}
use Rattle.recurrence.specs.Rounding.{up}
use Rattle.recurrence.specs.Sums.{sum_over}
use Rattle.recurrence.specs.ComesTo.{comes_to_from, comes_to}
use Rattle.model.specs.Latency.{method_used, with_method, latency}
use Rattle.model.specs.declared.Method.TheVariants.{SB, XLWX, IBN}
use Rattle.model.specs.Interference.{direct_for, indirect_for, comes_before, those}
use Rattle.model.specs.Delays.{allowance, weight, term, terms}
use Rattle.model.specs.Verdicts.{highest, judged, judge, verdict_below, verdict, answers}
use Rattle.reply.specs.Reply.{record_of}
use Rattle.reply.specs.Records.{bound_at}
use Rattle.analyser.specs.Analysed.{left}
use Rattle.converter.specs.Converted.{rewritten, converted_by, converted, returned, approved_method}

abbrev method : ℕ → List ℕ → List ℕ
method number s = set s 8 number

-- P's platform and no flows.
abbrev no_flows : List ℕ
no_flows = take 9 P ++ (0x7F ∷ 0 ∷ 0 ∷ [])

-- A row: the bytes lent, what is returned, and the bytes then.
record Row : Type 0 where
  lent : List ℕ
  result : Returned
  is : List ℕ

abbrev row : List ℕ → Returned → List ℕ → Row
row lent result is = record { lent = lent; result = result; is = is }

abbrev kept : List ℕ → Returned → Row
kept lent result = row lent result lent

abbrev table : List Row
table =
    row (method 0 P) (accepted_with 0) (method 2 P)  -- "rewrites 0 as 2"
    ∷ row (method 0 (with_seventh 2)) (accepted_with 0) (method 2 (with_seventh 2))  -- a platform record of seven bytes
    ∷ row (method 0 no_flows) (accepted_with 0) (method 2 no_flows)
    ∷ kept (method 1 P) (accepted_with 0)
    ∷ kept (method 2 P) (accepted_with 0)
    ∷ kept P (accepted_with 0)  -- method 3
    ∷ kept (method 3 (with_seventh 2)) (accepted_with 0)
    ∷ kept (method 4 P) (refused_with 25 8)  -- "refuses as the reader does, altering nothing"
    ∷ kept (set (method 0 P) 7 65) (refused_with 24 7)
    ∷ kept (method 0 (with_seventh 9)) (refused_with 26 9)
    ∷ kept (take 78 (method 0 P)) (refused_with 1 78)
    ∷ kept (method 0 P ++ (0 ∷ [])) (refused_with 10 81)
    ∷ kept [] (refused_with 1 0)
    ∷ []

conversions : (map (λ r. returned r.lent) table ≡ map (λ r. r.result) table) × (map (λ r. converted r.lent) table ≡ map (λ r. r.is) table)
unfolding tag_of six_or_seven priority_flits_at header_at tagged_at frame_at fields_from clash_at tail_at rest_at ◌then◌ body_at record_at accepted refused after records read_plan ◌when◌else◌ value_by rewritten converted_by
conversions = (refl, refl)

-- "0 asks for the house default, which is XLWX": the methods of document 01's numbers.
approved : map (λ m. approved_method (with_method m blank_platform)) (0 ∷ 1 ∷ 2 ∷ 3 ∷ []) ≡ XLWX ∷ SB ∷ XLWX ∷ IBN ∷ []
unfolding method_used ◌when◌else◌ approved_method
approved = refl

-- Flow 5 of P with method 0: 396 since the default is IBN, and 460, as it was approved, once the plan is converted.
five : map (λ s. bound_at (left s (replicate 51 0xAA)) 2) (method 0 P ∷ converted (method 0 P) ∷ []) ≡ 396 ∷ 460 ∷ []
unfolding tag_of six_or_seven priority_flits_at header_at tagged_at frame_at fields_from clash_at tail_at rest_at ◌then◌ body_at record_at accepted refused after records read_plan ◌when◌else◌ hops along xy on domain first_from up sum_over comes_to_from comes_to method_used latency direct_for indirect_for comes_before those allowance weight term terms highest judged judge verdict_below verdict answers record_of each returned_by left_by room_for put_into rewritten converted_by
five = refl
